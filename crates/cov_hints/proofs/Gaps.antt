-- Where white space ends.
use Rattle.std.proofs.Common.{◌≡◌, ℕ, false, List, [], ◌∷◌, drop, slice_get, Some, None, refl, sym, ap, ◌∙◌}
use Rattle.js_terms.specs.Blank.{is_gap}
use Rattle.js_tree.specs.Comments.{skip_gap}

first_is : (cs : List ℕ) (c : ℕ) → slice_get cs 0 ≡ Some c → cs ≡ c ∷ drop 1 cs
first_is [] c h = absurd cc
first_is (d ∷ cs) c h = let same : d ≡ c = cc in ap (λ x. x ∷ cs) same

none_is : (cs : List ℕ) → slice_get cs 0 ≡ None → cs ≡ []
none_is [] h = refl
none_is (d ∷ cs) h = absurd cc

pub gap_stop : (cs : List ℕ) (c : ℕ) → slice_get cs 0 ≡ Some c → is_gap c ≡ false → skip_gap cs ≡ cs
gap_stop cs c h t = ap skip_gap (first_is cs c h) ∙ rw t (sym (first_is cs c h))

pub gap_end : (cs : List ℕ) → slice_get cs 0 ≡ None → skip_gap cs ≡ cs
gap_end cs h = ap skip_gap (none_is cs h) ∙ sym (none_is cs h)
