-- The coverage of a file with the entries of a log: it can be told, as long as the log isn't too long.
use Rattle.std.proofs.Common.{◌≡◌, ℕ, suc, ◌+◌, ◌^◌, ◌<◌, ◌≤◌, Bool, true, false, List, [], ◌∷◌, map, length, Option, Some, None, codes, refl, sym, ap, subst, ◌∙◌, arith, if◌then◌else◌}
use Rattle.std.specs.List.{enumerate_from}
use Rattle.std.specs.List.Sorted.{IsStrictlySortedBy}
use Rattle.std.specs.Ordering.{nat_cmp}
use Rattle.std.specs.Str.{bytes_eq}
use Rattle.js_terms.specs.Mark.{Mark}
use Rattle.js_tree.specs.Marked.{is_mark, one_if, times}
use Rattle.js_terms.specs.declared.place.Loc.{Loc}
use Rattle.js_terms.specs.declared.construct.Construct.{Construct}
use Rattle.js_terms.specs.declared.construct.Construct.TheVariants as construct
use Rattle.js_terms.specs.declared.construct.ConstructKind.{ConstructKind}
use Rattle.js_terms.specs.declared.construct.ConstructKind.TheVariants as construct_kind
use Rattle.js_walk.specs.Constructs.{constructs_file}
use Rattle.js_meaning.specs.Program.{Source}
use Rattle.cov_hash.specs.Hash.{hash_text}
use Rattle.cov_maps.specs.Located.{location_at}
use Rattle.cov_maps.specs.Zero.{spelling_of, zero_path, zero_statements, zero_functions, zero_branches, zero_file, with_map}
use Rattle.cov_object.specs.Branch.{BranchCoverage, if_paths, settled_paths, IsSettled}
use Rattle.cov_object.specs.Numbered.{Ascends, AreSmall}
use Rattle.cov_object.specs.private.Formed.{IsStatement, IsFunction, ArePaths, IsBranch, EachThing, IsFormed}
use Rattle.cov_object.specs.declared.location.Location.{Location}
use Rattle.cov_object.specs.declared.file.FileCoverage.{FileCoverage}
use Rattle.cov_object.specs.declared.file.FunctionCoverage.{FunctionCoverage}
use Rattle.cov_object.specs.declared.file.PathCoverage.{PathCoverage}
use Rattle.cov_object.specs.declared.file.StatementCoverage.{StatementCoverage}
use Rattle.cov_expected.specs.Expected.{entries, counted_statement, counted_function, counted_paths, counted_branch, counted_file}
use Rattle.cov_counted.specs.Accepted.{Content, zero_of, IsTellable}

-- ---- coverage that begins with zero

abbrev PathsAreZero : List PathCoverage → Type 0
PathsAreZero [] = Unit {0}
PathsAreZero (path ∷ paths) = (path.count ≡ 0) × PathsAreZero paths

record AreZero (file : FileCoverage) : Type 0 where
  statements : EachThing (λ (s : StatementCoverage). s.count ≡ 0) file.statements
  functions : EachThing (λ (f : FunctionCoverage). f.count ≡ 0) file.functions
  branches : EachThing (λ (b : BranchCoverage). PathsAreZero b.paths) file.branches

zero_paths : (places : List (Option Loc)) → PathsAreZero (map zero_path places)
zero_paths [] = tt
zero_paths (place ∷ places) = (refl, zero_paths places)

if_zero : (location : Location) (paths : List PathCoverage) → PathsAreZero paths → PathsAreZero (if_paths location paths)
if_zero location [] z = tt
if_zero location (one ∷ []) z = z
if_zero location (one ∷ two ∷ []) z = z
if_zero location (one ∷ two ∷ three ∷ paths) z = z

settled_zero : (kind : List ℕ) (location : Location) (paths : List PathCoverage) → PathsAreZero paths → PathsAreZero (settled_paths kind location paths)
settled_zero kind location paths z = by (bytes_eq kind (codes "if"))
  where
    by : (b : Bool) → PathsAreZero (if b then if_paths location paths else paths)
    by true = if_zero location paths z
    by false = z

zero_each_statement : (i : ℕ) (list : List Construct) → EachThing (λ (s : StatementCoverage). s.count ≡ 0) (enumerate_from i (zero_statements list))
zero_each_statement i [] = tt
zero_each_statement i (construct.Statement loc ∷ rest) = (refl, zero_each_statement (i + 1) rest)
zero_each_statement i (construct.Function name decl loc ∷ rest) = zero_each_statement i rest
zero_each_statement i (construct.Branch kind loc paths ∷ rest) = zero_each_statement i rest

zero_each_function : (i : ℕ) (list : List Construct) → EachThing (λ (f : FunctionCoverage). f.count ≡ 0) (enumerate_from i (zero_functions list))
zero_each_function i [] = tt
zero_each_function i (construct.Statement loc ∷ rest) = zero_each_function i rest
zero_each_function i (construct.Function name decl loc ∷ rest) = (refl, zero_each_function (i + 1) rest)
zero_each_function i (construct.Branch kind loc paths ∷ rest) = zero_each_function i rest

zero_each_branch : (i : ℕ) (list : List Construct) → EachThing (λ (b : BranchCoverage). PathsAreZero b.paths) (enumerate_from i (zero_branches list))
zero_each_branch i [] = tt
zero_each_branch i (construct.Statement loc ∷ rest) = zero_each_branch i rest
zero_each_branch i (construct.Function name decl loc ∷ rest) = zero_each_branch i rest
zero_each_branch i (construct.Branch kind loc paths ∷ rest) = (settled_zero (spelling_of kind) (location_at loc) (map zero_path paths) (zero_paths paths), zero_each_branch (i + 1) rest)

zero_all : (path hash : List ℕ) (list : List Construct) → AreZero (zero_file path hash list)
zero_all path hash list = record { statements = zero_each_statement 0 list; functions = zero_each_function 0 list; branches = zero_each_branch 0 list }

mapped_zero : (map : Option (List ℕ)) (file : FileCoverage) → AreZero file → AreZero (with_map map file)
mapped_zero map file z = record { statements = z.statements; functions = z.functions; branches = z.branches }

begins_zero : (content : Content) (o : Option Source) → AreZero (zero_of content o)
begins_zero content None = mapped_zero content.map (zero_file [] (hash_text content.bytes) []) (zero_all [] (hash_text content.bytes) [])
begins_zero content (Some source) =
    mapped_zero content.map (zero_file source.path (hash_text content.bytes) (constructs_file source.tree)) (zero_all source.path (hash_text content.bytes) (constructs_file source.tree))

-- ---- how often a mark stands in a log

one_low : (b : Bool) → one_if b ≤ 1
one_low true = omega arith
one_low false = omega arith

times_low : (m : Mark) (log : List Mark) → times m log ≤ length log
times_low m [] = omega arith
times_low m (n ∷ log) = let a = times_low m log in let b = one_low (is_mark m n) in omega (arith, a, b)

sum_low : (a b l m : ℕ) → a ≡ 0 → b ≤ l → l < m → a + b < m
sum_low a b l m z e s = omega (arith, z, e, s)

-- ---- numbers of things stay

module _ {T : Type 0} (f : ℕ × T → ℕ × T) (same : (x : ℕ × T) → (f x).0 ≡ x.0) where
  same_numbers : (xs : List (ℕ × T)) → map (λ (x : ℕ × T). x.0) (map f xs) ≡ map (λ (x : ℕ × T). x.0) xs
  same_numbers [] = refl
  same_numbers (x ∷ xs) = ap (λ n. n ∷ map (λ (x : ℕ × T). x.0) (map f xs)) (same x) ∙ ap (λ ns. x.0 ∷ ns) (same_numbers xs)

  ascends : (xs : List (ℕ × T)) → Ascends xs → Ascends (map f xs)
  ascends xs a = subst (IsStrictlySortedBy nat_cmp) (sym (same_numbers xs)) a

  small : (xs : List (ℕ × T)) → AreSmall xs → AreSmall (map f xs)
  small [] s = tt
  small (x ∷ xs) s = (subst (λ n. n < 2 ^ 32) (sym (same x)) s.0, small xs s.1)

-- ---- with the entries of a log

module _ (log : List Mark) (file : ℕ) (short : length log < 2 ^ 53) where
  low : (count : ℕ) (kind : ConstructKind) (number path : ℕ) → count ≡ 0 → count + entries log file kind number path < 2 ^ 53
  low count kind number path z = sum_low count (entries log file kind number path) (length log) (2 ^ 53) z (times_low (record { file = file; kind = kind; number = number; path = path }) log) short

  each_statement : (xs : List (ℕ × StatementCoverage)) → EachThing IsStatement xs → EachThing (λ (s : StatementCoverage). s.count ≡ 0) xs → EachThing IsStatement (map (counted_statement log file) xs)
  each_statement [] f z = tt
  each_statement (x ∷ xs) f z = ((f.0.0, low x.1.count construct_kind.Statement x.0 0 z.0), each_statement xs f.1 z.1)

  each_function : (xs : List (ℕ × FunctionCoverage)) → EachThing IsFunction xs → EachThing (λ (f : FunctionCoverage). f.count ≡ 0) xs → EachThing IsFunction (map (counted_function log file) xs)
  each_function [] f z = tt
  each_function (x ∷ xs) f z = ((f.0.0, f.0.1, low x.1.count construct_kind.Function x.0 0 z.0, f.0.3), each_function xs f.1 z.1)

  each_path : (number path : ℕ) (xs : List PathCoverage) → ArePaths xs → PathsAreZero xs → ArePaths (counted_paths log file number path xs)
  each_path number path [] f z = tt
  each_path number path (x ∷ xs) f z = ((f.0.0, low x.count construct_kind.Branch number path z.0), each_path number (suc path) xs f.1 z.1)

  if_same : (number : ℕ) (location : Location) (xs : List PathCoverage) → if_paths location (counted_paths log file number 0 xs) ≡ counted_paths log file number 0 (if_paths location xs)
  if_same number location [] = refl
  if_same number location (one ∷ []) = refl
  if_same number location (one ∷ two ∷ []) = refl
  if_same number location (one ∷ two ∷ three ∷ xs) = refl

  settled_same : (number : ℕ) (kind : List ℕ) (location : Location) (xs : List PathCoverage) →
      settled_paths kind location (counted_paths log file number 0 xs) ≡ counted_paths log file number 0 (settled_paths kind location xs)
  settled_same number kind location xs = by (bytes_eq kind (codes "if"))
    where
      by : (b : Bool) → (if b then if_paths location (counted_paths log file number 0 xs) else counted_paths log file number 0 xs) ≡ counted_paths log file number 0 (if b then if_paths location xs else xs)
      by true = if_same number location xs
      by false = refl

  stays_settled : (number : ℕ) (b : BranchCoverage) → IsSettled b → IsSettled (counted_branch log file (number, b)).1
  stays_settled number b s =
      ap (λ (paths : List PathCoverage). record { kind = b.kind; location = b.location; paths = paths })
      (settled_same number b.kind b.location b.paths ∙ ap (λ (c : BranchCoverage). counted_paths log file number 0 c.paths) s)

  each_branch : (xs : List (ℕ × BranchCoverage)) → EachThing IsBranch xs → EachThing (λ (b : BranchCoverage). PathsAreZero b.paths) xs → EachThing IsBranch (map (counted_branch log file) xs)
  each_branch [] f z = tt
  each_branch (x ∷ xs) f z = ((f.0.0, each_path x.0 0 x.1.paths f.0.1 z.0, f.0.2, stays_settled x.0 x.1 f.0.3), each_branch xs f.1 z.1)

  formed : (zero : FileCoverage) → IsFormed zero → AreZero zero → IsFormed (counted_file log file zero)
  formed zero f z = record {
    statements = each_statement zero.statements f.statements z.statements;
    functions = each_function zero.functions f.functions z.functions;
    branches = each_branch zero.branches f.branches z.branches;
    statements_ascend = ascends (counted_statement log file) (λ x. refl) zero.statements f.statements_ascend;
    functions_ascend = ascends (counted_function log file) (λ x. refl) zero.functions f.functions_ascend;
    branches_ascend = ascends (counted_branch log file) (λ x. refl) zero.branches f.branches_ascend;
    path_text = f.path_text;
    hash_text = f.hash_text;
    source_map = f.source_map;
  }

  pub stays_tellable : (content : Content) (o : Option Source) → IsTellable (zero_of content o) → IsTellable (counted_file log file (zero_of content o))
  stays_tellable content o t =
      let zero = zero_of content o in record {
        formed = formed zero t.formed (begins_zero content o);
        statements = small (counted_statement log file) (λ x. refl) zero.statements t.statements;
        functions = small (counted_function log file) (λ x. refl) zero.functions t.functions;
        branches = small (counted_branch log file) (λ x. refl) zero.branches t.branches;
        source_map = t.source_map;
      }
