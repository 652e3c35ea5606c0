-- A report that is put one part after another.
use Rattle.std.proofs.Common.{◌≡◌, ◌∙◌, ℕ, ◌+◌, ◌<◌, List, [], ◌∷◌, ◌++◌, length, take, drop, get_or, map, Option, Bor, refl, sym, ap, subst, append_assoc, append-nil, take-append-drop}
use Rattle.std.specs.List.{flat_map}
use Rattle.std.proofs.lemmas.List.{at_drop_more, take_more}
use Rattle.cov_base.specs.Sink.{after_more, TakesPrefix}
use Rattle.cov_base.specs.Pieces.{Moves}
use Rattle.cov_base.proofs.Moved.{moves_all, moves_on, moves_put, prefix_longer, prefix_on}
use Rattle.cov_object.specs.declared.file.FileCoverage.{FileCoverage}
use Rattle.cov_report.proofs.Texts.{text-more}

module _ (text held more : List ℕ) (before mid after : Option (List ℕ)) (so_far : Moves text held before mid) where
  pub moves_then : (last : List ℕ) → Moves (held ++ more) last mid after → Moves (text ++ more) last before after
  moves_then last step = moves_on (text ++ more) (held ++ more) before mid after (moves_put text held more before mid so_far) last step

  pub prefix_then : TakesPrefix mid after (held ++ more) → TakesPrefix before after (text ++ more)
  prefix_then cut = prefix_on (text ++ more) (held ++ more) before mid after (moves_put text held more before mid so_far) cut

-- what is gone when nothing is held
moves_done : (text : List ℕ) (before after : Option (List ℕ)) → Moves text [] before after → after ≡ after_more before text
moves_done text before after moved = moved.taken ∙ ap (after_more before) (sym (moved.split ∙ append-nil moved.gone))

-- ---- the files

flat-append : (f : FileCoverage → List ℕ) (xs ys : List (Bor FileCoverage)) → flat_map f (map (λ file. file.now) (xs ++ ys)) ≡ flat_map f (map (λ file. file.now) xs) ++ flat_map f (map (λ file. file.now) ys)
flat-append f [] ys = refl
flat-append f (x ∷ xs) ys = ap (λ rest. f x.now ++ rest) (flat-append f xs ys) ∙ sym (append_assoc (f x.now) (flat_map f (map (λ file. file.now) xs)) (flat_map f (map (λ file. file.now) ys)))

module _ (f : FileCoverage → List ℕ) (files : List (Bor FileCoverage)) (i : ℕ) (item : Bor FileCoverage) (within : i < length files) (is : item ≡ get_or files i item)
    (start held : List ℕ) (before mid after : Option (List ℕ)) where
  abbrev texts : List (Bor FileCoverage) → List ℕ
  texts some = flat_map f (map (λ file. file.now) some)

  all-are : start ++ texts files ≡ ((start ++ texts (take i files)) ++ f item.now) ++ texts (drop (i + 1) files)
  all-are =
      ap (λ some. start ++ texts some)
      (sym (ap (λ b. take i files ++ b ∷ drop (i + 1) files) is ∙ sym (at_drop_more (λ rest. take i files ++ rest) files i item within) ∙ take-append-drop i files))
      ∙ ap (λ text. start ++ text) (flat-append f (take i files) (item ∷ drop (i + 1) files))
      ∙ sym (append_assoc (start ++ texts (take i files)) (f item.now) (texts (drop (i + 1) files)) ∙ append_assoc start (texts (take i files)) (f item.now ++ texts (drop (i + 1) files)))

  module _ (so_far : Moves (start ++ texts (take i files)) held before mid) where
    pub one_more : (last : List ℕ) → Moves (held ++ f item.now) last mid after → Moves (start ++ texts (take (i + 1) files)) last before after
    one_more last step =
        subst (λ text. Moves text last before after)
        (append_assoc start (texts (take i files)) (f item.now)
        ∙ ap (λ text. start ++ text) (sym (ap texts (take_more files i item within ∙ ap (λ b. take i files ++ b ∷ []) (sym is)) ∙ text-more f (take i files) item)))
        (moves_then (start ++ texts (take i files)) held (f item.now) before mid after so_far last step)

    pub one_cut : TakesPrefix mid after (held ++ f item.now) → TakesPrefix before after (start ++ texts files)
    one_cut cut =
        subst (TakesPrefix before after) (sym all-are)
        (prefix_longer before after _ (texts (drop (i + 1) files)) (prefix_then (start ++ texts (take i files)) held (f item.now) before mid after so_far cut))

-- ---- the whole

module _ (head body tail none first second third : List ℕ) (before one two three : Option (List ℕ)) (nothing : none ≡ []) (heads : Moves (none ++ head) first before one) where
  head_moved : Moves head first before one
  head_moved = subst (λ text. Moves (text ++ head) first before one) nothing heads

  grouped : (head ++ body) ++ tail ≡ head ++ (body ++ tail)
  grouped = append_assoc head body tail

  pub body_cut : TakesPrefix one two (first ++ body) → TakesPrefix before two (head ++ (body ++ tail))
  body_cut cut = subst (TakesPrefix before two) grouped (prefix_longer before two (head ++ body) tail (prefix_then head first body before one two head_moved cut))

  module _ (bodies : Moves (first ++ body) second one two) where
    body_moved : Moves (head ++ body) second before two
    body_moved = moves_then head first body before one two head_moved second bodies

    pub tail_cut : TakesPrefix two three (second ++ tail) → TakesPrefix before three (head ++ (body ++ tail))
    tail_cut cut = subst (TakesPrefix before three) grouped (prefix_then (head ++ body) second tail before two three body_moved cut)

    module _ (tails : Moves (second ++ tail) third two three) (last : Option (List ℕ)) where
      tail_moved : Moves (head ++ (body ++ tail)) third before three
      tail_moved = subst (λ text. Moves text third before three) grouped (moves_then (head ++ body) second tail before two three body_moved third tails)

      pub last_cut : TakesPrefix three last third → TakesPrefix before last (head ++ (body ++ tail))
      last_cut cut = prefix_on (head ++ (body ++ tail)) third before three last tail_moved cut

      pub all_put : last ≡ after_more three third → last ≡ after_more before (head ++ (body ++ tail))
      all_put all =
          moves_done (head ++ (body ++ tail)) before last (moves_on (head ++ (body ++ tail)) third before three last tail_moved [] (moves_all third three last all))
