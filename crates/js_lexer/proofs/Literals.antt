-- Strings and templates, one character or one escape at a time, and the tokens that are moved over.
use Rattle.std.proofs.Common.{◌≡◌, ℕ, zero, suc, ◌-◌, ◌≤◌, ◌==◌, ◌&&◌, ◌||◌, Bool, true, false, List, [], ◌∷◌, length, take, drop, slice_get, Option, Some, None, if◌then◌else◌, refl, sym, ap, ◌∙◌}
use Rattle.js_text.specs.Place.{Place}
use Rattle.js_text.specs.Character.{begins_with_character, continues_identifier}
use Rattle.js_text.specs.Escape.{escape}
use Rattle.js_text.specs.Gap.{with_found}
use Rattle.js_text.specs.Lex.{characters_of, past, flags_rest}
use Rattle.js_text.specs.RegularExpression.{are_flags}
use Rattle.js_text.specs.Units.{string_rest, template_rest}
use Rattle.js_lexer.proofs.Steps.{first_is, none_is}
use Rattle.js_lexer.proofs.Onward.{left-is}

-- what follows a character of a literal: where it is a backslash, what follows its escape
abbrev pub escaped_rest : ℕ → List ℕ → Option (List ℕ)
escaped_rest c cs = if c == 0x5C then with_found (escape cs) (λ found. Some found.1) None else Some cs

-- how a reader of the rest goes on after a character, where it passes over what an escape takes
abbrev pub going_on : {A : Type 0} → (ℕ → List ℕ → Option A) → ℕ → List ℕ → Option A
going_on go c cs = if c == 0x5C then with_found (escape cs) (λ found. go (length cs - length found.1) cs) None else go zero cs

-- a reader that passes over so many characters first
abbrev pub Passes : {A : Type 0} → (ℕ → List ℕ → Option A) → Type 0
Passes go = (n : ℕ) (cs : List ℕ) → go n cs ≡ go zero (drop n cs)

after-escape : {A : Type 0} (go : ℕ → List ℕ → Option A) → Passes go → (found : Option (Option ℕ × List ℕ)) (p q : Place) →
    with_found found (λ found. Some found.1) None ≡ Some q.after → characters_of q ≡ characters_of p → length q.after ≤ length p.after →
    with_found found (λ found. go (length p.after - length found.1) p.after) None ≡ go zero q.after
after-escape go passes None p q h text onward = absurd cc
after-escape go passes (Some found) p q h text onward =
    let same : found.1 ≡ q.after = cc in
    ap (λ (xs : List ℕ). go (length p.after - length xs) p.after) same
    ∙ passes (length p.after - length q.after) p.after
    ∙ ap (go zero) (sym (left-is p q text onward))

no-escape : {A : Type 0} (go : ℕ → List ℕ → Option A) (found : Option (Option ℕ × List ℕ)) (cs : List ℕ) →
    with_found found (λ found. Some found.1) None ≡ None →
    with_found found (λ found. go (length cs - length found.1) cs) None ≡ None
no-escape go None cs h = refl
no-escape go (Some found) cs h = absurd cc

goes-on-by : {A : Type 0} (go : ℕ → List ℕ → Option A) → Passes go → (b : Bool) (p q : Place) →
    (if b then with_found (escape p.after) (λ found. Some found.1) None else Some p.after) ≡ Some q.after → characters_of q ≡ characters_of p → length q.after ≤ length p.after →
    (if b then with_found (escape p.after) (λ found. go (length p.after - length found.1) p.after) None else go zero p.after) ≡ go zero q.after
goes-on-by go passes true p q h text onward = after-escape go passes (escape p.after) p q h text onward
goes-on-by go passes false p q h text onward = let same : p.after ≡ q.after = cc in ap (go zero) same

ends-by : {A : Type 0} (go : ℕ → List ℕ → Option A) (b : Bool) (cs : List ℕ) →
    (if b then with_found (escape cs) (λ found. Some found.1) None else Some cs) ≡ None →
    (if b then with_found (escape cs) (λ found. go (length cs - length found.1) cs) None else go zero cs) ≡ None
ends-by go true cs h = no-escape go (escape cs) cs h
ends-by go false cs h = absurd cc

-- ---- strings

string_passes : (quote : ℕ) → Passes (string_rest quote)
string_passes quote zero cs = refl
string_passes quote (suc n) [] = refl
string_passes quote (suc n) (c ∷ cs) = string_passes quote n cs

pub string-ends : (quote : ℕ) (cs : List ℕ) → slice_get cs 0 ≡ None → string_rest quote zero cs ≡ None
string-ends quote cs h = ap (string_rest quote zero) (none_is cs h)

pub string-breaks : (quote : ℕ) (cs : List ℕ) (c : ℕ) → slice_get cs 0 ≡ Some c → (c == quote) ≡ false → ((c == 0x0A) || (c == 0x0D)) ≡ true → string_rest quote zero cs ≡ None
string-breaks quote cs c h f t = ap (string_rest quote zero) (first_is cs c h) ∙ rw (f, t) refl

string-on : (quote : ℕ) (cs : List ℕ) (c : ℕ) → slice_get cs 0 ≡ Some c → (c == quote) ≡ false → ((c == 0x0A) || (c == 0x0D)) ≡ false →
    string_rest quote zero cs ≡ going_on (string_rest quote) c (drop 1 cs)
string-on quote cs c h f g = ap (string_rest quote zero) (first_is cs c h) ∙ rw (f, g) refl

-- a character after which the string goes on, or an escape, was moved over
pub string-step : (quote : ℕ) (cs : List ℕ) (c : ℕ) → slice_get cs 0 ≡ Some c → (c == quote) ≡ false → ((c == 0x0A) || (c == 0x0D)) ≡ false →
    (p q : Place) → p.after ≡ drop 1 cs → escaped_rest c p.after ≡ Some q.after → characters_of q ≡ characters_of p → length q.after ≤ length p.after →
    string_rest quote zero cs ≡ string_rest quote zero q.after
string-step quote cs c h f g p q rest e text onward =
    string-on quote cs c h f g ∙ sym (ap (going_on (string_rest quote) c) rest) ∙ goes-on-by (string_rest quote) (string_passes quote) (c == 0x5C) p q e text onward

-- a backslash began no escape
pub string-refused : (quote : ℕ) (cs : List ℕ) (c : ℕ) → slice_get cs 0 ≡ Some c → (c == quote) ≡ false → ((c == 0x0A) || (c == 0x0D)) ≡ false →
    (ds : List ℕ) → ds ≡ drop 1 cs → escaped_rest c ds ≡ None → string_rest quote zero cs ≡ None
string-refused quote cs c h f g ds rest e =
    string-on quote cs c h f g ∙ sym (ap (going_on (string_rest quote) c) rest) ∙ ends-by (string_rest quote) (c == 0x5C) ds e

-- ---- templates

template_passes : Passes template_rest
template_passes zero cs = refl
template_passes (suc n) [] = refl
template_passes (suc n) (c ∷ cs) = template_passes n cs

pub template-ends : (cs : List ℕ) → slice_get cs 0 ≡ None → template_rest zero cs ≡ None
template-ends cs h = ap (template_rest zero) (none_is cs h)

template-on : (cs : List ℕ) (c : ℕ) → slice_get cs 0 ≡ Some c → (c == 0x60) ≡ false → ((c == 0x24) && begins_with_character 0x7B (drop 1 cs)) ≡ false →
    template_rest zero cs ≡ going_on template_rest c (drop 1 cs)
template-on cs c h f g = ap (template_rest zero) (first_is cs c h) ∙ rw (f, g) refl

pub template-step : (cs : List ℕ) (c : ℕ) → slice_get cs 0 ≡ Some c → (c == 0x60) ≡ false →
    (p q : Place) → p.after ≡ drop 1 cs → ((c == 0x24) && begins_with_character 0x7B p.after) ≡ false →
    escaped_rest c p.after ≡ Some q.after → characters_of q ≡ characters_of p → length q.after ≤ length p.after →
    template_rest zero cs ≡ template_rest zero q.after
template-step cs c h f p q rest g e text onward =
    template-on cs c h f (sym (ap (λ xs. (c == 0x24) && begins_with_character 0x7B xs) rest) ∙ g)
    ∙ sym (ap (going_on template_rest c) rest) ∙ goes-on-by template_rest template_passes (c == 0x5C) p q e text onward

pub template-refused : (cs : List ℕ) (c : ℕ) → slice_get cs 0 ≡ Some c → (c == 0x60) ≡ false →
    (ds : List ℕ) → ds ≡ drop 1 cs → ((c == 0x24) && begins_with_character 0x7B ds) ≡ false → escaped_rest c ds ≡ None → template_rest zero cs ≡ None
template-refused cs c h f ds rest g e =
    template-on cs c h f (sym (ap (λ xs. (c == 0x24) && begins_with_character 0x7B xs) rest) ∙ g)
    ∙ sym (ap (going_on template_rest c) rest) ∙ ends-by template_rest (c == 0x5C) ds e

-- ---- regular expressions

-- the flags that were moved over
pub flags-found : (q f r : Place) (flags : List ℕ) → f ≡ q → r.after ≡ past continues_identifier q.after → flags ≡ take (length f.after - length r.after) f.after →
    are_flags flags ≡ true → flags_rest q.after ≡ Some r.after
flags-found q f r flags same rest run ok =
    let cs = q.after in
    let here : take (length cs - length (past continues_identifier cs)) cs ≡ flags =
    ap (λ (xs : List ℕ). take (length cs - length xs) cs) (sym rest)
    ∙ sym (run ∙ ap (λ (x : Place). take (length x.after - length r.after) x.after) same) in
    let flagged : are_flags (take (length cs - length (past continues_identifier cs)) cs) ≡ true = ap are_flags here ∙ ok in
    rw flagged (ap (λ x. Some x) (sym rest))
