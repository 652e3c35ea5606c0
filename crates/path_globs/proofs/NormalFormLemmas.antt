-- What the code's calls on a path come to, in the words of the definitions.
use Rattle.std.proofs.Common.{◌≡◌, ◌≢◌, ℕ, ◌+◌, ◌<◌, Bool, true, false, cond, List, [], ◌∷◌, ◌++◌, length, get_or, drop, Some, None, Bor, map, refl, sym, ap, ◌∙◌, append-nil, arith}
use Rattle.std.specs.Prelude.{codes, option_and_then}
use Rattle.std.specs.List.{join_by, join_with_byte}
use Rattle.std.specs.Str.{bytes_eq}
use Rattle.std.proofs.lemmas.List.{at_drop_more, at_drop_all, map-append}
use Rattle.std.proofs.lemmas.Slice.Eq.{bytes_eq-Decides}
use Rattle.path_globs.specs.NormalForm.{with_component, with_components}

-- texts joined by `/`
pub join_by-slash : (parts : List (Bor (List ℕ))) → join_by (λ part. part.now) (codes "/") parts ≡ join_with_byte 47 (map (λ part. part.now) parts)
join_by-slash [] = refl
join_by-slash (part ∷ []) = append-nil part.now
join_by-slash (part ∷ next ∷ parts) = ap (λ rest. part.now ++ 47 ∷ rest) (join_by-slash (next ∷ parts))

pub bytes_ne : (xs ys : List ℕ) → xs ≢ ys → bytes_eq xs ys ≡ false
bytes_ne xs ys other = by_test (bytes_eq xs ys) refl
  where
    by_test : (test : Bool) → bytes_eq xs ys ≡ test → test ≡ false
    by_test true same = absurd (other ((bytes_eq-Decides xs ys).0 same))
    by_test false apart = refl

-- a component that is kept
pub kept_component : (kept : List (List ℕ)) (part : List ℕ) → part ≢ [] → part ≢ codes "." → part ≢ codes ".." → Some (kept ++ part ∷ []) ≡ with_component kept part
kept_component kept part empty dot dots = rw (bytes_ne part [] empty, bytes_ne part (codes ".") dot, bytes_ne part (codes "..") dots) refl

-- the component at an index, and those after it
module _ (kept all : List (List ℕ)) (n : ℕ) (part : List ℕ) (here : (n < length all) × (part ≡ get_or all n part)) where
  one_more : with_components kept (drop n all) ≡ option_and_then (λ next. with_components next (drop (n + 1) all)) (with_component kept part)
  one_more =
      at_drop_more (with_components kept) all n part here.0
      ∙ ap (λ other. option_and_then (λ next. with_components next (drop (n + 1) all)) (with_component kept other)) (sym here.1)

  pub goes_on : (next : List (List ℕ)) (taken : Bool) → cond taken (Some next) None ≡ with_component kept part → taken ≡ true →
      with_components next (drop (n + 1) all) ≡ with_components kept (drop n all)
  goes_on next taken step held =
      ap (λ one. option_and_then (λ next. with_components next (drop (n + 1) all)) one) (ap (λ test. cond test (Some next) None) (sym held) ∙ step) ∙ sym one_more

  pub stops : (next : List (List ℕ)) (taken : Bool) → cond taken (Some next) None ≡ with_component kept part → taken ≡ false →
      None ≡ with_components kept (drop n all)
  stops next taken step never =
      ap (λ one. option_and_then (λ next. with_components next (drop (n + 1) all)) one) (ap (λ test. cond test (Some next) None) (sym never) ∙ step) ∙ sym one_more

pub at_end : (kept all : List (List ℕ)) (n : ℕ) → length all ≡ n → Some kept ≡ with_components kept (drop n all)
at_end kept all n end = sym (at_drop_all (with_components kept) all n (omega arith))

pub kept_push : (kept after : List (Bor (List ℕ))) (part : Bor (List ℕ)) → after ≡ kept ++ part ∷ [] →
    Some (map (λ one. one.now) after) ≡ Some (map (λ one. one.now) kept ++ part.now ∷ [])
kept_push kept after part pushed = ap (λ parts. Some (map (λ one. one.now) parts)) pushed ∙ ap Some (map-append (λ (one : Bor (List ℕ)). one.now) kept (part ∷ []))
