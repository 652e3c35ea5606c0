-- What breaks no rule breaks none where the name `globalThis` is allowed.
use Rattle.std.proofs.Common.{◌≡◌, ◌∙◌, refl, ap, ℕ, Bool, true, false, not, ◌||◌, ◌&&◌, List, [], ◌∷◌, ◌++◌, None}
use Rattle.std.specs.Str.{bytes_eq}
use Rattle.js_tree.specs.Plain.{File}
use Rattle.js_terms.specs.declared.place.Pos.{Pos}
use Rattle.js_walk.specs.Walk.{walk_file}
use Rattle.js_scopes.specs.Checks.{faults, first_fault, reserved_among, reserved_by, reserved_if}
use Rattle.js_scopes.specs.Mentions.{mentions_file, nothing_told}
use Rattle.js_scopes.specs.Order.{first}
use Rattle.js_scopes.specs.Reserved.{is_among, is_reserved, own_name, refused_names, strict_words}
use Rattle.js_scopes.specs.Scopes.{own_of_file, own_of_part}
use Rattle.js_scopes.specs.declared.fault.ScopeFault.{ScopeFault}
use Rattle.js_scopes.specs.declared.mention.Mention.{Mention}
use Rattle.js_scopes.specs.declared.mention.Mention.TheVariants as mention
use Rattle.js_scopes.proofs.Firsts.{none_first}

not_nil : {G : Type 0} (f : ScopeFault) (fs : List ScopeFault) → f ∷ fs ≡ [] → G
not_nil f fs e = cc

left_nil : (xs ys : List ScopeFault) → xs ++ ys ≡ [] → xs ≡ []
left_nil [] ys e = refl
left_nil (x ∷ xs) ys e = not_nil x (xs ++ ys) e

right_nil : (xs ys : List ScopeFault) → xs ++ ys ≡ [] → ys ≡ []
right_nil [] ys e = e
right_nil (x ∷ xs) ys e = not_nil x (xs ++ ys) e

both_nil : (xs ys : List ScopeFault) → xs ≡ [] → ys ≡ [] → xs ++ ys ≡ []
both_nil xs ys e d = ap (λ left. left ++ ys) e ∙ d

allowed : (a b c : Bool) → (a || b || (not false && c)) ≡ false → (a || b || (not true && c)) ≡ false
allowed true b c e = e
allowed false true c e = e
allowed false false c e = refl

allowed_name : (name : List ℕ) → is_reserved false name ≡ false → is_reserved true name ≡ false
unfolding is_reserved
allowed_name name = allowed (is_among strict_words name) (is_among refused_names name) (bytes_eq name own_name)

allowed_if : (holds again : Bool) (at : Pos) → (holds ≡ false → again ≡ false) → reserved_if holds at ≡ [] → reserved_if again at ≡ []
allowed_if true again at same e = not_nil _ _ e
allowed_if false again at same e = ap (λ b. reserved_if b at) (same refl)

allowed_by : (x : Mention) → reserved_by false x ≡ [] → reserved_by true x ≡ []
allowed_by (mention.Variable at name) e = allowed_if (is_reserved false name) (is_reserved true name) at (allowed_name name) e
allowed_by (mention.Label at name) e = e
allowed_by (mention.Member name) e = refl
allowed_by (mention.Required units) e = refl

allowed_among : (xs : List Mention) → reserved_among false xs ≡ [] → reserved_among true xs ≡ []
allowed_among [] e = refl
allowed_among (x ∷ xs) e = both_nil _ _ (allowed_by x (left_nil _ _ e)) (allowed_among xs (right_nil _ _ e))

nil_first : (fs : List ScopeFault) → fs ≡ [] → first fs ≡ None
nil_first fs e = ap first e

pub again_none : (again : Bool) (file : File) → first_fault again file ≡ None → first_fault true file ≡ None
unfolding faults
again_none true file e = e
again_none false file e =
    let names = reserved_among false (mentions_file file) in
    let allowed_names = reserved_among true (mentions_file file) in
    let own = own_of_file file in
    let walked = walk_file own_of_part nothing_told file tt in
    let nothing : names ++ own ++ walked ≡ [] = none_first (names ++ own ++ walked) e in
    let before : names ++ own ≡ [] = left_nil (names ++ own) walked nothing in
    nil_first (allowed_names ++ own ++ walked)
    (both_nil (allowed_names ++ own) walked
    (both_nil allowed_names own (allowed_among (mentions_file file) (left_nil names own before)) (right_nil names own before))
    (right_nil (names ++ own) walked nothing))
