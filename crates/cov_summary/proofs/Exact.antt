-- Totals stay exact.
use Rattle.std.proofs.Common.{◌≡◌, ℕ, ◌+◌, ◌^◌, ◌<◌, ◌≤◌, cond, nat_lt, Bool, true, false, List, [], ◌∷◌, ◌++◌, map, fold, Bor, refl, ap, arith}
use Rattle.std.specs.List.{All}
use Rattle.std.proofs.lemmas.Bool.{ltb-true, ltb-false}
use Rattle.std.proofs.lemmas.List.Elements.{All-nil, All-cons}
use Rattle.cov_object.specs.Branch.{BranchCoverage}
use Rattle.cov_object.specs.declared.file.FileCoverage.{FileCoverage}
use Rattle.cov_summary.specs.declared.totals.Totals.{Totals}
use Rattle.cov_summary.specs.declared.sums.Sums.{Sums}
use Rattle.cov_summary.specs.Lines.{lines_of}
use Rattle.cov_summary.specs.Totals.{next, with_count, with_counts, IsExact}
use Rattle.cov_summary.specs.Sums.{no_sums, with_branches, with_file, file_sums, AreExact}

-- what one more comes to
record Next (n : ℕ) : Type 0 where
  at_least : n ≤ next n
  at_most : next n ≤ n + 1
  stops : n < 2 ^ 53 → next n < 2 ^ 53
  goes_on : n < 9007199254740991 → next n ≡ n + 1

next-by : (b : Bool) (n : ℕ) → nat_lt n 9007199254740991 ≡ b → Next n
next-by true n e =
    let below : n < 9007199254740991 = ltb-true n 9007199254740991 e in
    let is : next n ≡ n + 1 = ap (λ c. cond c (n + 1) n) e in
    record { at_least = omega arith; at_most = omega arith; stops = λ h. omega arith; goes_on = λ h. is }
next-by false n e =
    let not_below : 9007199254740991 ≤ n = ltb-false n 9007199254740991 e in
    let is : next n ≡ n = ap (λ c. cond c (n + 1) n) e in
    record { at_least = omega arith; at_most = omega arith; stops = λ h. omega arith; goes_on = λ h. absurd (omega arith) }

-- no more ran than there are, after one more of both
next-keeps : (b : Bool) (c t : ℕ) → nat_lt t 9007199254740991 ≡ b → c ≤ t → t < 2 ^ 53 → next c ≤ next t
next-keeps true c t e below small =
    let more = next-by (nat_lt c 9007199254740991) c refl in
    let most : next c ≤ c + 1 = more.at_most in
    let is : next t ≡ t + 1 = ap (λ d. cond d (t + 1) t) e in
    omega arith
next-keeps false c t e below small =
    let more = next-by (nat_lt c 9007199254740991) c refl in
    let most : next c < 2 ^ 53 = more.stops (omega arith) in
    let is : next t ≡ t = ap (λ d. cond d (t + 1) t) e in
    let not_below : 9007199254740991 ≤ t = ltb-false t 9007199254740991 e in
    omega arith

exact-by : (ran : Bool) (totals : Totals) → IsExact totals →
    IsExact (record { total = next totals.total; covered = cond ran (next totals.covered) totals.covered })
exact-by true totals h =
    let t = next-by (nat_lt totals.total 9007199254740991) totals.total refl in
    (next-keeps (nat_lt totals.total 9007199254740991) totals.covered totals.total refl h.0 h.1, t.stops h.1)
exact-by false totals h =
    let t = next-by (nat_lt totals.total 9007199254740991) totals.total refl in
    let least : totals.total ≤ next totals.total = t.at_least in
    let below : totals.covered ≤ totals.total = h.0 in
    let kept : totals.covered ≤ next totals.total = omega arith in
    (kept, t.stops h.1)

exact-counts : (totals : Totals) (counts : List ℕ) → IsExact totals → IsExact (with_counts totals counts)
exact-counts totals [] h = h
exact-counts totals (count ∷ counts) h = exact-counts (with_count totals count) counts (exact-by (nat_lt 0 count) totals h)

exact-branches : (totals : Totals) (branches : List (ℕ × BranchCoverage)) → IsExact totals → IsExact (with_branches totals branches)
exact-branches totals [] h = h
exact-branches totals (branch ∷ branches) h =
    let paths : List ℕ = map (λ path. path.count) branch.1.paths in
    exact-branches (with_counts totals paths) branches (exact-counts totals paths h)

exact-file : (sums : Sums) (file : FileCoverage) → AreExact sums → AreExact (with_file sums file)
exact-file sums file h = (
  exact-counts sums.lines (map (λ line. line.1) (lines_of file)) h.0,
  exact-counts sums.statements (map (λ statement. statement.1.count) file.statements) h.1,
  exact-counts sums.functions (map (λ function. function.1.count) file.functions) h.2,
  exact-branches sums.branches file.branches h.3,
)

exact-files : (sums : Sums) (files : List FileCoverage) → AreExact sums → AreExact (fold with_file sums files)
exact-files sums [] h = h
exact-files sums (file ∷ files) h = exact-files (with_file sums file) files (exact-file sums file h)

-- the totals of all files are exact
pub exact-all : (files : List FileCoverage) → AreExact (fold with_file no_sums files)
exact-all files =
    let nothing : IsExact (no_sums.lines) = (omega arith, omega arith) in
    exact-files no_sums files (nothing, nothing, nothing, nothing)

-- and those of each file
pub exact-own : (file : FileCoverage) → AreExact (with_file no_sums file)
exact-own file =
    let nothing : IsExact (no_sums.lines) = (omega arith, omega arith) in
    exact-file no_sums file (nothing, nothing, nothing, nothing)

pub exact-each : (files : List FileCoverage) → All (λ file. AreExact file.sums) (map file_sums files)
exact-each [] = All-nil (λ file. AreExact file.sums)
exact-each (file ∷ files) = All-cons (λ file. AreExact file.sums) (file_sums file) (map file_sums files) (exact-own file) (exact-each files)

-- ---- one file more

pub fold-more : (sums : Sums) (files : List FileCoverage) (file : FileCoverage) → fold with_file sums (files ++ file ∷ []) ≡ with_file (fold with_file sums files) file
fold-more sums [] file = refl
fold-more sums (other ∷ files) file = fold-more (with_file sums other) files file

-- lent files, as the files themselves
pub now_more : (xs : List (Bor FileCoverage)) (x : Bor FileCoverage) → map (λ file. file.now) (xs ++ x ∷ []) ≡ map (λ file. file.now) xs ++ x.now ∷ []
now_more [] x = refl
now_more (y ∷ ys) x = ap (λ rest. y.now ∷ rest) (now_more ys x)

pub map-more : {X Y : Type 0} (f : X → Y) (xs : List X) (x : X) → map f (xs ++ x ∷ []) ≡ map f xs ++ f x ∷ []
map-more f [] x = refl
map-more f (y ∷ ys) x = ap (λ rest. f y ∷ rest) (map-more f ys x)
