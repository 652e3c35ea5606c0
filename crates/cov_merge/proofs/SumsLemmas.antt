-- Counts added to running sums in place.
use Rattle.std.proofs.Common.{◌≡◌, ℕ, zero, suc, ◌+◌, ◌<◌, ◌≤◌, List, [], ◌∷◌, length, map, take, set, get_or, refl, ap, ◌∙◌, arith}
use Rattle.cov_object.specs.declared.file.PathCoverage.{PathCoverage}
use Rattle.cov_merge.specs.Sums.{running, plus}

abbrev pub counts_of : List PathCoverage → List ℕ
counts_of paths = map (λ path. path.count) paths

-- sums of which so many have their counts
abbrev pub plus_first : ℕ → List ℕ → List ℕ → List ℕ
plus_first zero sums counts = sums
plus_first (suc place) [] counts = []
plus_first (suc place) (sum ∷ sums) [] = sum ∷ sums
plus_first (suc place) (sum ∷ sums) (count ∷ counts) = running sum count ∷ plus_first place sums counts

next-suc : (place : ℕ) → suc (place + 1) ≡ suc place + 1
next-suc place = omega arith

-- one more has its count
pub plus-next : (place : ℕ) (sums : List ℕ) (paths : List PathCoverage) (sum : ℕ) (path : PathCoverage) → place < length sums → place < length paths →
    sum ≡ get_or (plus_first place sums (counts_of paths)) place sum → path ≡ get_or paths place path →
    set (plus_first place sums (counts_of paths)) place (running sum path.count) ≡ plus_first (place + 1) sums (counts_of paths)
plus-next place [] paths sum path below within own is = absurd (omega arith)
plus-next place (s ∷ ss) [] sum path below within own is = absurd (omega arith)
plus-next zero (s ∷ ss) (p ∷ ps) sum path below within own is = ap (λ n. running n path.count ∷ ss) own ∙ ap (λ (q : PathCoverage). running s q.count ∷ ss) is
plus-next (suc place) (s ∷ ss) (p ∷ ps) sum path below within own is =
    let shorter : place < length ss = omega arith in
    let inside : place < length ps = omega arith in
    ap (λ rest. running s p.count ∷ rest) (plus-next place ss ps sum path shorter inside own is)
    ∙ ap (λ n. plus_first n (s ∷ ss) (p.count ∷ counts_of ps)) (next-suc place)

-- all have
pub plus-all : (sums : List ℕ) (paths : List PathCoverage) → length sums ≤ length paths → plus_first (length sums) sums (counts_of paths) ≡ plus sums (counts_of paths)
plus-all [] paths h = refl
plus-all (sum ∷ sums) [] h = absurd (omega arith)
plus-all (sum ∷ sums) (path ∷ paths) h =
    let less : length sums ≤ length paths = omega arith in
    ap (λ rest. running sum path.count ∷ rest) (plus-all sums paths less)

-- sums past the last count are dropped
pub plus-cut : (sums : List ℕ) (paths : List PathCoverage) → plus (take (length paths) sums) (counts_of paths) ≡ plus sums (counts_of paths)
plus-cut [] [] = refl
plus-cut [] (path ∷ paths) = refl
plus-cut (sum ∷ sums) [] = refl
plus-cut (sum ∷ sums) (path ∷ paths) = ap (λ rest. running sum path.count ∷ rest) (plus-cut sums paths)

pub take-short : (n : ℕ) (sums : List ℕ) → length (take n sums) ≤ n
take-short zero sums = omega arith
take-short (suc n) [] = omega arith
take-short (suc n) (sum ∷ sums) = let less = take-short n sums in omega arith

-- of several sums only the first has a count
pub plus-one : (sums : List ℕ) (sum count : ℕ) → sum ≡ get_or (take 1 sums) 0 sum → set (take 1 sums) 0 (running sum count) ≡ plus sums (count ∷ [])
plus-one [] sum count is = refl
plus-one (s ∷ []) sum count is = ap (λ n. running n count ∷ []) is
plus-one (s ∷ other ∷ sums) sum count is = ap (λ n. running n count ∷ []) is
