-- One turn of a list that is read from the front: what is read goes behind what is made.
use Rattle.std.proofs.Common.{◌≡◌, ◌∙◌, ℕ, Bool, List, ◌∷◌, Option, Some, None, ap, sym}
use Rattle.js_terms.specs.declared.place.Loc.{Loc}
use Rattle.js_tree.specs.Plain.{Case, Cases, Expr, Params, push_cases, push_params}
use Rattle.js_tree.specs.Plain as tree
use Rattle.js_reading.specs.Slots.{Piece, AWord}
use Rattle.js_reading.specs.Makes.{cases_of, method_of, method_param}
use Rattle.js_build.specs.Callables.{initializer_of, param_with, prepend}
use Rattle.js_build.specs.Lists.{case_read, clause_of, place_of}
use Rattle.js_build.proofs.CallableLaws.{after_word, method_word, prepend_none, prepend_push}
use Rattle.js_build.proofs.ListLaws.{cases_first, cases_none, cases_push, from_place, front_cases, more_cases}

pub case_turn : (d e : Bool) (cs : Cases) (a : Case) (l : Loc) (p : Piece) (ps qs rs : List Piece) (o : Option Cases) → qs ≡ p ∷ ps → Some l ≡ place_of p → Some ((a, e), rs) ≡ case_read d l (clause_of ps) → front_cases cs (cases_of d qs) ≡ o → front_cases (push_cases cs a) (cases_of e rs) ≡ o
case_turn d e cs a l p ps qs rs o is at read made =
    let first : cases_of d qs ≡ more_cases (Some ((a, e), rs)) = ap (cases_of d) is ∙ (cases_first d p ps ∙ (ap (λ m. from_place d m ps) (sym at) ∙ ap more_cases (sym read))) in
    cases_push cs a (cases_of e rs) ∙ (ap (front_cases cs) (sym first) ∙ made)

-- no clause begins there
pub case_fails : (d : Bool) (cs : Cases) (p : Piece) (ps qs : List Piece) (o : Option Cases) → qs ≡ p ∷ ps → None ≡ place_of p → front_cases cs (cases_of d qs) ≡ o → None ≡ o
case_fails d cs p ps qs o is at made =
    let first : cases_of d qs ≡ None = ap (cases_of d) is ∙ (cases_first d p ps ∙ ap (λ m. from_place d m ps) (sym at)) in
    sym (cases_none cs) ∙ (ap (front_cases cs) (sym first) ∙ made)

-- a clause begins there, and is none
pub case_refused : (d : Bool) (cs : Cases) (l : Loc) (p : Piece) (ps qs : List Piece) (o : Option Cases) → qs ≡ p ∷ ps → Some l ≡ place_of p → None ≡ case_read d l (clause_of ps) → front_cases cs (cases_of d qs) ≡ o → None ≡ o
case_refused d cs l p ps qs o is at read made =
    let first : cases_of d qs ≡ None = ap (cases_of d) is ∙ (cases_first d p ps ∙ (ap (λ m. from_place d m ps) (sym at) ∙ ap more_cases (sym read))) in
    sym (cases_none cs) ∙ (ap (front_cases cs) (sym first) ∙ made)

pub param_turn : (xs : Params) (w : List ℕ) (l : Loc) (x : Option (Expr × Loc)) (ps qs rs : List Piece) (o : Option (tree.Function × Loc × List Piece)) → qs ≡ AWord w l ∷ ps → Some (x, rs) ≡ initializer_of ps → prepend xs (method_of qs) ≡ o → prepend (push_params xs (param_with w l x)) (method_of rs) ≡ o
param_turn xs w l x ps qs rs o is read made =
    let first : method_of qs ≡ method_param (param_with w l x) (method_of rs) = ap method_of is ∙ (method_word w l ps ∙ ap (after_word w l) (sym read)) in
    prepend_push xs (param_with w l x) (method_of rs) ∙ (ap (prepend xs) (sym first) ∙ made)

-- a parameter begins there, and is none
pub param_refused : (xs : Params) (w : List ℕ) (l : Loc) (ps qs : List Piece) (o : Option (tree.Function × Loc × List Piece)) → qs ≡ AWord w l ∷ ps → None ≡ initializer_of ps → prepend xs (method_of qs) ≡ o → None ≡ o
param_refused xs w l ps qs o is read made =
    let first : method_of qs ≡ None = ap method_of is ∙ (method_word w l ps ∙ ap (after_word w l) (sym read)) in
    sym (prepend_none xs) ∙ (ap (prepend xs) (sym first) ∙ made)
