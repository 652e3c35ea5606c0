-- What a path has up to its last `/`.
use Rattle.std.proofs.Common.{◌≡◌, ◌≢◌, ℕ, zero, suc, ◌+◌, ◌<◌, Bool, false, cond, List, [], ◌∷◌, length, get_or, take, refl, sym, ap, ◌∙◌, arith}
use Rattle.std.specs.Prelude.{codes, nat_eq}
use Rattle.std.specs.List.{ends_with}
use Rattle.std.proofs.lemmas.Bool.{ne_eqb}
use Rattle.path_globs.specs.Specifier.{kept_before, folder, ending}

kept_none : (c : ℕ) (ds : List ℕ) → c ≢ 47 → ds ≡ [] → kept_before c ds ≡ []
kept_none c ds other none = rw (none, ne_eqb c 47 other) refl

kept_slash : (c : ℕ) (ds : List ℕ) → c ≡ 47 → ds ≡ [] → kept_before c ds ≡ c ∷ []
kept_slash c ds slash none = rw (none, slash) refl

kept_more : (c : ℕ) (fs ds : List ℕ) (d : ℕ) → fs ≡ d ∷ ds → kept_before c fs ≡ c ∷ fs
kept_more c fs ds d more = rw more refl

-- it has none
pub no_folder : (path : List ℕ) → ((i : ℕ) → i < length path → get_or path i 0 ≢ 47) → folder path ≡ []
no_folder [] none = refl
no_folder (c ∷ cs) none = kept_none c (folder cs) (none 0 (omega arith)) (no_folder cs (λ i l. none (suc i) (omega arith)))

-- the last stands at this index
to_last : (path : List ℕ) (at : ℕ) → at < length path → get_or path at 0 ≡ 47 → ((i : ℕ) → at < i → i < length path → get_or path i 0 ≢ 47) →
    folder path ≡ take (suc at) path
to_last [] at within here none = absurd (omega arith)
to_last (c ∷ cs) zero within here none = kept_slash c (folder cs) here (no_folder cs (λ i l. none (suc i) (omega arith) (omega arith)))
to_last (c ∷ []) (suc at) within here none = absurd (omega arith)
to_last (c ∷ d ∷ ds) (suc at) within here none =
    let rest = to_last (d ∷ ds) at (omega arith) here (λ i a l. none (suc i) (omega arith) (omega arith)) in
    kept_more c (folder (d ∷ ds)) (take at ds) d rest ∙ ap (λ fs. c ∷ fs) rest

pub folder_to : (path : List ℕ) (at : ℕ) → at < length path → get_or path at 0 ≡ 47 → ((i : ℕ) → at < i → i < length path → get_or path i 0 ≢ 47) →
    folder path ≡ take (at + 1) path
folder_to path at within here none =
    let one : suc at ≡ at + 1 = omega arith in
    to_last path at within here none ∙ ap (λ n. take n path) one

-- a specifier that doesn't end with `.js`
pub with_ending : (specifier : List ℕ) (ends : Bool) → ends ≡ ends_with nat_eq specifier (codes ".js") → ends ≡ false → codes ".js" ≡ ending specifier
with_ending specifier ends same other = ap (λ test. cond test [] (codes ".js")) (sym other ∙ same)
