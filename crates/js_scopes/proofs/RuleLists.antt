-- No fault of a list of rules is want of memory.
use Rattle.std.proofs.Common.{◌≡◌, ◌∙◌, refl, sym, ap, Bool, true, false, ◌&&◌, List, [], ◌∷◌, ◌++◌, Option, Some, None, IfSome}
use Rattle.js_scopes.specs.Order.{first, IsIn, here, later}
use Rattle.js_scopes.specs.Mentions.{start}
use Rattle.js_scopes.specs.declared.fault.ScopeFault.{ScopeFault}
use Rattle.js_scopes.specs.declared.fault.ScopeFaultKind.TheVariants as kind
use Rattle.js_scopes.specs.private.Rules.{is_rule, are_rules}
use Rattle.js_scopes.proofs.Firsts.{first_is}

both : (a b : Bool) → (a && b) ≡ true → (a ≡ true) × (b ≡ true)
both true b e = (refl, e)
both false b e = cc

pub one_more : (faults : List ScopeFault) (fault : ScopeFault) → are_rules faults ≡ true → is_rule fault.kind ≡ true → are_rules (faults ++ fault ∷ []) ≡ true
one_more [] fault all is = ap (λ b. b && true) is
one_more (f ∷ fs) fault all is =
    let parts = both (is_rule f.kind) (are_rules fs) all in
    ap (λ b. b && are_rules (fs ++ fault ∷ [])) parts.0 ∙ one_more fs fault parts.1 is

in_rules : {fault : ScopeFault} {faults : List ScopeFault} → IsIn fault faults → are_rules faults ≡ true → is_rule fault.kind ≡ true
in_rules {fault = fault} (here {fs = fs}) all = (both (is_rule fault.kind) (are_rules fs) all).0
in_rules {fault = fault} (later {g = f} {fs = fs} is) all = in_rules is (both (is_rule f.kind) (are_rules fs) all).1

pub first_rule : (faults : List ScopeFault) (found : Option ScopeFault) → are_rules faults ≡ true → found ≡ first faults → IfSome found (λ fault. is_rule fault.kind ≡ true)
first_rule faults None all e = tt
first_rule faults (Some fault) all e = in_rules (first_is faults fault (sym e)).among all

-- what would be want of memory stands nowhere
pub no_memory : (fault : ScopeFault) → is_rule fault.kind ≡ true → fault.kind ≡ kind.Memory → fault.at ≡ start None
no_memory fault is e =
    let wrong : false ≡ true = sym (ap is_rule e) ∙ is in
    absurd cc
