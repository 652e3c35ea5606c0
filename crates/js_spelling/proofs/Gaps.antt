-- What is left after white space and comments is the end of the characters, and begins with no white space.
use Rattle.std.proofs.Common.{◌≡◌, ℕ, zero, suc, ◌-◌, cond, Bool, true, false, List, [], ◌∷◌, ◌++◌, length, take, drop, Option, Some, None, refl, sym, ap, ◌∙◌, arith, append_assoc, length-append}
use Rattle.std.proofs.Math.Seq.{take-append_seam, drop-append_seam}
use Rattle.js_text.specs.Place.{Place}
use Rattle.js_text.specs.Position.{is_line_terminator}
use Rattle.js_text.specs.Character.{is_gap}
use Rattle.js_text.specs.Comment.{comment_rest, single_line_rest}
use Rattle.js_text.specs.Gap.{with_found, gap_rest, has_hashbang, after_gap}
use Rattle.js_spelling.specs.Written.{first_is}

record LineLeft (cs : List ℕ) : Type 0 where
  taken : List ℕ
  whole : cs ≡ taken ++ single_line_rest cs

line_left : (cs : List ℕ) → LineLeft cs
line_left [] = record { taken = []; whole = refl }
line_left (c ∷ cs) = by_test (is_line_terminator c) refl (line_left cs)
  where
    by_test : (b : Bool) → is_line_terminator c ≡ b → LineLeft cs → LineLeft (c ∷ cs)
    by_test true e left = record { taken = []; whole = ap (λ b. cond b (c ∷ cs) (single_line_rest cs)) (sym e) }
    by_test false e left = record { taken = c ∷ left.taken; whole = ap (λ xs. c ∷ xs) left.whole ∙ ap (λ b. c ∷ (left.taken ++ cond b (c ∷ cs) (single_line_rest cs))) (sym e) }

record GapLeft (n : ℕ) (cs : List ℕ) : Type 0 where
  taken : List ℕ
  whole : cs ≡ taken ++ gap_rest n cs
  no_gap : first_is is_gap (gap_rest n cs) ≡ false

abbrev gap_choice : Bool → Option (List ℕ) → ℕ → List ℕ → List ℕ
gap_choice a o c cs = cond a (gap_rest zero cs) (with_found o (λ (rest : List ℕ). gap_rest (length cs - length rest) cs) (c ∷ cs))

gap_is : {a : Bool} {o : Option (List ℕ)} (c : ℕ) (cs : List ℕ) → is_gap c ≡ a → comment_rest (c ∷ cs) ≡ o → gap_rest zero (c ∷ cs) ≡ gap_choice a o c cs
gap_is {a = a} c cs x y = ap (λ t. gap_choice t (comment_rest (c ∷ cs)) c cs) x ∙ ap (λ t. gap_choice a t c cs) y

gap_left : (n : ℕ) (cs : List ℕ) → GapLeft n cs
gap_left n [] = record { taken = []; whole = refl; no_gap = refl }
gap_left (suc n) (c ∷ cs) = let e = gap_left n cs in record { taken = c ∷ e.taken; whole = ap (λ xs. c ∷ xs) e.whole; no_gap = e.no_gap }
gap_left zero (c ∷ cs) = by_tests (is_gap c) (comment_rest (c ∷ cs)) refl refl (λ n. gap_left n cs)
  where
    after_one : (n : ℕ) → gap_rest zero (c ∷ cs) ≡ gap_rest n cs → GapLeft n cs → GapLeft zero (c ∷ cs)
    after_one n same e = record {
      taken = c ∷ e.taken;
      whole = ap (λ xs. c ∷ xs) e.whole ∙ ap (λ xs. c ∷ (e.taken ++ xs)) (sym same);
      no_gap = ap (first_is is_gap) same ∙ e.no_gap;
    }

    by_tests : (a : Bool) (o : Option (List ℕ)) → is_gap c ≡ a → comment_rest (c ∷ cs) ≡ o → ((n : ℕ) → GapLeft n cs) → GapLeft zero (c ∷ cs)
    by_tests true o x y go = after_one zero (gap_is c cs x y) (go zero)
    by_tests false None x y go = record { taken = []; whole = sym (gap_is c cs x y); no_gap = ap (first_is is_gap) (gap_is c cs x y) ∙ x }
    by_tests false (Some rest) x y go = after_one (length cs - length rest) (gap_is c cs x y) (go (length cs - length rest))

pub record AfterGap (p : Place) : Type 0 where
  pub taken : List ℕ
  pub whole : p.after ≡ taken ++ after_gap p
  pub no_gap : first_is is_gap (after_gap p) ≡ false

pub gap_at : (p : Place) → AfterGap p
gap_at p = by_test (has_hashbang p) refl
  where
    by_test : (b : Bool) → has_hashbang p ≡ b → AfterGap p
    by_test false e =
        let left = gap_left zero p.after in
        let same : gap_rest zero p.after ≡ after_gap p = ap (λ b. cond b (gap_rest zero (single_line_rest p.after)) (gap_rest zero p.after)) (sym e) in
        record { taken = left.taken; whole = left.whole ∙ ap (λ xs. left.taken ++ xs) same; no_gap = ap (first_is is_gap) (sym same) ∙ left.no_gap }
    by_test true e =
        let line = line_left p.after in
        let left = gap_left zero (single_line_rest p.after) in
        let same : gap_rest zero (single_line_rest p.after) ≡ after_gap p = ap (λ b. cond b (gap_rest zero (single_line_rest p.after)) (gap_rest zero p.after)) (sym e) in
        record {
          taken = line.taken ++ left.taken;
          whole = line.whole ∙ ap (λ xs. line.taken ++ xs) (left.whole ∙ ap (λ xs. left.taken ++ xs) same) ∙ sym (append_assoc line.taken left.taken (after_gap p));
          no_gap = ap (first_is is_gap) (sym same) ∙ left.no_gap;
        }

-- the token stands where the gap ends
pub start_is : (p : Place) → drop (length (take (length p.after - length (after_gap p)) p.after)) p.after ≡ after_gap p
start_is p =
    let g = gap_at p in
    let size : length p.after - length (after_gap p) ≡ length g.taken = omega (arith, ap length g.whole, length-append g.taken (after_gap p)) in
    let run : take (length p.after - length (after_gap p)) p.after ≡ g.taken = ap (λ n. take n p.after) size ∙ ap (take (length g.taken)) g.whole ∙ take-append_seam g.taken (after_gap p) in
    ap (λ xs. drop (length xs) p.after) run ∙ ap (drop (length g.taken)) g.whole ∙ drop-append_seam g.taken (after_gap p)
