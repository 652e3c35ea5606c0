-- The place at a number of bytes, and marks whose places ascend.
use Rattle.std.proofs.Common.{◌≡◌, ◌∙◌, ℕ, ◌+◌, ◌-◌, ◌<◌, ◌≤◌, Bool, true, false, nat_le, List, [], ◌∷◌, ◌++◌, length, drop, get_or, add-one, append_assoc, Option, None, refl, sym, ap, subst, arith, encode_utf8_all, if◌then◌else◌}
use Rattle.std.specs.Prelude.{map}
use Rattle.std.specs.Str.{chars}
use Rattle.std.proofs.Math.Seq.{drop-cons}
use Rattle.std.specs.Char.{len_utf8}
use Rattle.std.proofs.lemmas.Bool.{leb-true}
use Rattle.js_terms.specs.declared.place.Pos.{Pos}
use Rattle.js_text.specs.Place.{Place, characters_before, place_at}
use Rattle.js_text.specs.Position.{position_of}
use Rattle.js_text.proofs.Place.{length-encodes-cons}
use Rattle.js_layout.specs.declared.mark.Mark.{Mark}
use Rattle.js_layout.specs.Layout.{mark_of}
use Rattle.js_sheet.specs.Ascending.{Ascending}

-- the characters before it and those after it are all
pub place_whole : (cs : List ℕ) (at : ℕ) → (place_at cs at).before ++ (place_at cs at).after ≡ cs
place_whole [] at = refl
place_whole (c ∷ cs) at = by_test (nat_le (len_utf8 c) at) (place_whole cs (at - len_utf8 c))
  where
    by_test : (b : Bool) → (place_at cs (at - len_utf8 c)).before ++ (place_at cs (at - len_utf8 c)).after ≡ cs → (let xs = if b then c ∷ characters_before (at - len_utf8 c) cs else [] in xs ++ drop (length xs) (c ∷ cs)) ≡ c ∷ cs
    by_test true h = ap (λ xs. c ∷ xs) h
    by_test false h = refl

-- no more bytes stand before it
pub place_short : (cs : List ℕ) (at : ℕ) → length (encode_utf8_all (place_at cs at).before) ≤ at
place_short [] at = omega arith
place_short (c ∷ cs) at = by_test (nat_le (len_utf8 c) at) refl (place_short cs (at - len_utf8 c))
  where
    by_test : (b : Bool) → nat_le (len_utf8 c) at ≡ b → length (encode_utf8_all (place_at cs (at - len_utf8 c)).before) ≤ at - len_utf8 c → length (encode_utf8_all (if b then c ∷ characters_before (at - len_utf8 c) cs else [])) ≤ at
    by_test true e h = omega (arith, length-encodes-cons c (characters_before (at - len_utf8 c) cs), h, leb-true (len_utf8 c) at e)
    by_test false e h = omega arith

pub ascend_lower : {m n : ℕ} (ms : List (ℕ × Option Pos)) → m ≤ n → Ascending n ms → Ascending m ms
ascend_lower [] le h = tt
ascend_lower {m = m} (x ∷ ms) le h = (omega (arith, le, h.0), h.1)

-- one mark more
pub next_mark : (old new : Place) (text : List ℕ) (offsets : List (ℕ × Option Pos)) (i : ℕ) (at : Pos) (marks more : List Mark) → i < length offsets →
    (old.before ++ old.after ≡ chars text) × Ascending (length (encode_utf8_all old.before)) (drop i offsets) × (marks ++ map (λ m. mark_of text m) (drop i offsets) ≡ map (λ m. mark_of text m) offsets) →
    new ≡ place_at (old.before ++ old.after) (get_or offsets i (0, None)).0 → at ≡ position_of new → more ≡ marks ++ record { at = at; source = (get_or offsets i (0, None)).1 } ∷ [] →
    (new.before ++ new.after ≡ chars text) × Ascending (length (encode_utf8_all new.before)) (drop (i + 1) offsets) × (more ++ map (λ m. mark_of text m) (drop (i + 1) offsets) ≡ map (λ m. mark_of text m) offsets)
next_mark old new text offsets i at marks more low h moved there pushed =
    let m : ℕ × Option Pos = get_or offsets i (0, None) in
    let rest = drop (i + 1) offsets in
    let here : new ≡ place_at (chars text) m.0 = moved ∙ ap (λ cs. place_at cs m.0) h.0 in
    let cut : drop i offsets ≡ m ∷ rest = drop-cons offsets i (0, None) low ∙ ap (λ n. m ∷ drop n offsets) (sym (add-one i)) in
    let left = subst (λ ms. Ascending (length (encode_utf8_all old.before)) ms) cut h.1 in
    let short : length (encode_utf8_all new.before) ≤ m.0 = subst (λ p. length (encode_utf8_all p.before) ≤ m.0) (sym here) (place_short (chars text) m.0) in
    let marked = ap (λ p. let k : Mark = record { at = p; source = m.1 } in k) (there ∙ ap position_of here) in (
      ap (λ p. p.before ++ p.after) here ∙ place_whole (chars text) m.0,
      ascend_lower rest short left.1,
      ap (λ ms. ms ++ map (λ m. mark_of text m) rest) (pushed ∙ ap (λ k. marks ++ k ∷ []) marked)
          ∙ append_assoc marks (mark_of text m ∷ []) (map (λ m. mark_of text m) rest)
          ∙ ap (λ ms. marks ++ map (λ m. mark_of text m) ms) (sym cut)
          ∙ h.2,
    )
