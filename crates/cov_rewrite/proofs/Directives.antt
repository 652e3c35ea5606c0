-- Statements are put in after the directives with which a body begins: they wait until a statement is no directive.
use Rattle.std.proofs.Common.{◌≡◌, Bool, true, false, List, Option, Some, None, refl, sym, ap, subst, ◌∙◌}
use Rattle.std.specs.Prelude.{◌&&◌}
use Rattle.std.proofs.lemmas.Bool.{true≢false, and_parts}
use Rattle.js_tree.specs.declared.tree.Stmt as code
use Rattle.js_tree.specs.Plain.{Stmt, Directive, Stmts, no_stmt, more_stmt, push_stmts}
use Rattle.js_tree.specs.Tree.{plain_stmts}
use Rattle.cov_rewritten.specs.Rewritten.{joined, after_directives}
use Rattle.cov_rewrite.specs.Blocks.{is_directive, waiting, before_next, still_waiting}
use Rattle.cov_rewrite.proofs.Joined.{joined_none}

abbrev pub are_directives : Stmts → Bool
are_directives no_stmt = true
are_directives (more_stmt x xs) = is_directive x && are_directives xs

-- a statement that is no directive ends them
ends_here : (zs : Stmts) (x : Stmt) (xs : Stmts) → is_directive x ≡ false → after_directives zs (more_stmt x xs) ≡ joined zs (more_stmt x xs)
ends_here zs (Directive loc s) xs h = absurd (true≢false h)
ends_here zs x xs h = refl

-- a directive goes before
goes_on : (zs : Stmts) (x : Stmt) (xs : Stmts) → is_directive x ≡ true → after_directives zs (more_stmt x xs) ≡ more_stmt x (after_directives zs xs)
goes_on zs (Directive loc s) xs h = refl
goes_on zs x xs h = absurd (true≢false (sym h))

push_joined : (xs ys : Stmts) (y x : Stmt) → push_stmts (joined xs (more_stmt y ys)) x ≡ joined xs (more_stmt y (push_stmts ys x))
push_joined no_stmt ys y x = refl
push_joined (more_stmt z zs) ys y x = ap (more_stmt z) (push_joined zs ys y x)

after_all : (zs xs : Stmts) → are_directives xs ≡ true → after_directives zs xs ≡ joined xs zs
after_all zs no_stmt h = joined_none zs
after_all zs (more_stmt x xs) h =
    let both = and_parts (is_directive x) (are_directives xs) h in
    goes_on zs x xs both.0 ∙ ap (more_stmt x) (after_all zs xs both.1)

after_last : (zs xs : Stmts) (x : Stmt) → are_directives xs ≡ true → is_directive x ≡ false → after_directives zs (push_stmts xs x) ≡ push_stmts (joined xs zs) x
after_last zs no_stmt x h g = ends_here zs x no_stmt g ∙ pushed zs
  where
    pushed : (zs : Stmts) → joined zs (more_stmt x no_stmt) ≡ push_stmts zs x
    pushed no_stmt = refl
    pushed (more_stmt z zs) = ap (more_stmt z) (pushed zs)
after_last zs (more_stmt y ys) x h g =
    let both = and_parts (is_directive y) (are_directives ys) h in
    goes_on zs y (push_stmts ys x) both.0 ∙ ap (more_stmt y) (after_last zs ys x both.1 g)

after_more : (zs xs : Stmts) (x : Stmt) → are_directives xs ≡ false → after_directives zs (push_stmts xs x) ≡ push_stmts (after_directives zs xs) x
after_more zs no_stmt x h = absurd (true≢false h)
after_more zs (more_stmt y ys) x h = by (is_directive y) refl h (λ g. after_more zs ys x g)
  where
    by : (b : Bool) → is_directive y ≡ b → (b && are_directives ys) ≡ false → (are_directives ys ≡ false → after_directives zs (push_stmts ys x) ≡ push_stmts (after_directives zs ys) x) →
        after_directives zs (more_stmt y (push_stmts ys x)) ≡ push_stmts (after_directives zs (more_stmt y ys)) x
    by true e g rest =
        goes_on zs y (push_stmts ys x) e ∙ ap (more_stmt y) (rest g)
        ∙ sym (ap (λ list. push_stmts list x) (goes_on zs y ys e))
    by false e g rest =
        ends_here zs y (push_stmts ys x) e ∙ sym (push_joined zs ys y x)
        ∙ sym (ap (λ list. push_stmts list x) (ends_here zs y ys e))

all_more : (xs : Stmts) (x : Stmt) (b : Bool) → are_directives xs ≡ b → is_directive x ≡ true → are_directives (push_stmts xs x) ≡ b
all_more no_stmt x b h g = ap (λ d. d && true) g ∙ h
all_more (more_stmt y ys) x b h g = ap (λ c. is_directive y && c) (all_more ys x (are_directives ys) refl g) ∙ h

none_more : (xs : Stmts) (x : Stmt) → is_directive x ≡ false → are_directives (push_stmts xs x) ≡ false
none_more no_stmt x g = ap (λ d. d && true) g
none_more (more_stmt y ys) x g = ap (λ c. is_directive y && c) (none_more ys x g) ∙ never (is_directive y)
  where
    never : (b : Bool) → (b && false) ≡ false
    never true = refl
    never false = refl

-- what is out after these statements, with what still waits
abbrev pub Waits : (inserted taken out : Stmts) → Option (List code.Stmt) → Type 0
Waits zs ys out None = (are_directives ys ≡ false) × (out ≡ after_directives zs ys)
Waits zs ys out (Some list) = (plain_stmts list ≡ zs) × (are_directives ys ≡ true) × (out ≡ ys)

waits_directive : (zs ys out : Stmts) (w : Option (List code.Stmt)) (x : Stmt) → is_directive x ≡ true → Waits zs ys out w → Waits zs (push_stmts ys x) (push_stmts out x) w
waits_directive zs ys out None x d h = (all_more ys x false h.0 d, ap (λ list. push_stmts list x) h.1 ∙ sym (after_more zs ys x h.0))
waits_directive zs ys out (Some list) x d h = (h.0, all_more ys x true h.1 d, ap (λ list. push_stmts list x) h.2)

waits_other : (zs ys out : Stmts) (w : Option (List code.Stmt)) (x : Stmt) → is_directive x ≡ false → Waits zs ys out w →
    Waits zs (push_stmts ys x) (push_stmts (joined out (waiting w)) x) None
waits_other zs ys out None x d h = (none_more ys x d, ap (λ list. push_stmts list x) (joined_none out ∙ h.1) ∙ sym (after_more zs ys x h.0))
waits_other zs ys out (Some list) x d h =
    (none_more ys x d, ap (λ ys. push_stmts (joined ys (plain_stmts list)) x) h.2 ∙ ap (λ zs. push_stmts (joined ys zs) x) h.0 ∙ sym (after_last zs ys x h.1 d))

pub waits_step : (zs ys out out' : Stmts) (w w' : Option (List code.Stmt)) (x : Stmt) → Waits zs ys out w →
    out' ≡ push_stmts (before_next (is_directive x) out (waiting w)) x → w' ≡ still_waiting (is_directive x) w → Waits zs (push_stmts ys x) out' w'
waits_step zs ys out out' w w' x h o s = by (is_directive x) refl o s
  where
    by : (b : Bool) → is_directive x ≡ b → out' ≡ push_stmts (before_next b out (waiting w)) x → w' ≡ still_waiting b w → Waits zs (push_stmts ys x) out' w'
    by true d o s = subst (λ w. Waits zs (push_stmts ys x) out' w) (sym s) (subst (λ o. Waits zs (push_stmts ys x) o w) (sym o) (waits_directive zs ys out w x d h))
    by false d o s = subst (λ w. Waits zs (push_stmts ys x) out' w) (sym s) (subst (λ o. Waits zs (push_stmts ys x) o None) (sym o) (waits_other zs ys out w x d h))

pub waits_end : (zs ys out : Stmts) (w : Option (List code.Stmt)) → Waits zs ys out w → joined out (waiting w) ≡ after_directives zs ys
waits_end zs ys out None h = joined_none out ∙ h.1
waits_end zs ys out (Some list) h = ap (λ ys. joined ys (plain_stmts list)) h.2 ∙ ap (joined ys) h.0 ∙ sym (after_all zs ys h.1)
