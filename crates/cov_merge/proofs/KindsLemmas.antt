-- The laws of merging, for statements, functions and branches.
use Rattle.std.proofs.Common.{◌≡◌, ℕ, ◌&&◌, Bool, List, [], ◌∷◌, length, map, Result, Ok, Err, nat_eq, refl, sym, ap, arith}
use Rattle.std.specs.List.{enumerate_from}
use Rattle.std.specs.Cmp.{IsEquivalence, and_equiv, on_equiv, nat_eq_equiv}
use Rattle.std.specs.Cmp.Lexicographic.{pointwise, options_equiv, lists_equiv}
use Rattle.cov_object.specs.declared.location.Position.{Position}
use Rattle.cov_object.specs.declared.location.Location.{Location}
use Rattle.cov_object.specs.declared.file.StatementCoverage.{StatementCoverage}
use Rattle.cov_object.specs.declared.file.FunctionCoverage.{FunctionCoverage}
use Rattle.cov_object.specs.declared.file.PathCoverage.{PathCoverage}
use Rattle.cov_object.specs.Branch.{BranchCoverage}
use Rattle.cov_object.specs.declared.file.FileCoverage.{FileCoverage}
use Rattle.cov_merge.specs.declared.fault.MergeFault.{MergeFault}
use Rattle.cov_merge.specs.declared.key.Counter.TheVariants.{Branch}
use Rattle.cov_merge.specs.Answer.{and_then}
use Rattle.cov_merge.specs.Same.{same_position, same_location}
use Rattle.cov_merge.specs.Kinds.{statements, functions, branches, statement_with, function_with, paths_with}
use Rattle.cov_merge.specs.private.Lengths.{branches_long}
use Rattle.cov_merge.specs.Entries.{merged_entries}
use Rattle.cov_merge.specs.Files.{merged_file, hash_of, source_map_of}
use Rattle.cov_merge.specs.Laws.{IsGroupingFree, IsLeftToRight}
use Rattle.cov_merge.proofs.SumsLemmas.{counts_of}
use Rattle.cov_merge.proofs.Lengths.{suc-same}
use Rattle.cov_merge.proofs.LawsLemmas.{Sound, grouped_at, merged_again}

position_equiv : IsEquivalence same_position
position_equiv = and_equiv (on_equiv (λ (p : Position). p.line) nat_eq_equiv) (on_equiv (λ (p : Position). p.column) (options_equiv nat_eq_equiv))

location_equiv : IsEquivalence same_location
location_equiv = and_equiv (on_equiv (λ (l : Location). l.start) (options_equiv position_equiv)) (on_equiv (λ (l : Location). l.end) (options_equiv position_equiv))

-- ---- statements and functions have one count

statement-given : (s : StatementCoverage) (counts : List ℕ) → length counts ≡ 1 → statements.counts (statement_with s counts) ≡ counts
statement-given s [] e = absurd (omega arith)
statement-given s (count ∷ []) e = refl
statement-given s (count ∷ other ∷ counts) e = absurd (omega arith)

statement-keeps : (s key : StatementCoverage) (counts : List ℕ) → length counts ≡ 1 → statements.same (statement_with s counts) key ≡ statements.same s key
statement-keeps s key [] e = refl
statement-keeps s key (count ∷ counts) e = refl

statement-twice : (s : StatementCoverage) (counts sums : List ℕ) → length counts ≡ 1 → length sums ≡ 1 → statement_with (statement_with s counts) sums ≡ statement_with s sums
statement-twice s [] sums e h = refl
statement-twice s (count ∷ counts) [] e h = absurd (omega arith)
statement-twice s (count ∷ counts) (sum ∷ sums) e h = refl

statement-told : (s : StatementCoverage) (counts : List ℕ) (place : ℕ) → statements.counter (statement_with s counts) place ≡ statements.counter s place
statement-told s [] place = refl
statement-told s (count ∷ counts) place = refl

pub statements_sound : Sound statements
statements_sound = record {
  equiv = on_equiv (λ (s : StatementCoverage). s.location) location_equiv;
  long = λ a b h. refl;
  given = statement-given;
  twice = statement-twice;
  told = λ s counts place l. statement-told s counts place;
  keeps = statement-keeps;
}

function-given : (f : FunctionCoverage) (counts : List ℕ) → length counts ≡ 1 → functions.counts (function_with f counts) ≡ counts
function-given f [] e = absurd (omega arith)
function-given f (count ∷ []) e = refl
function-given f (count ∷ other ∷ counts) e = absurd (omega arith)

function-keeps : (f key : FunctionCoverage) (counts : List ℕ) → length counts ≡ 1 → functions.same (function_with f counts) key ≡ functions.same f key
function-keeps f key [] e = refl
function-keeps f key (count ∷ counts) e = refl

function-twice : (f : FunctionCoverage) (counts sums : List ℕ) → length counts ≡ 1 → length sums ≡ 1 → function_with (function_with f counts) sums ≡ function_with f sums
function-twice f [] sums e h = refl
function-twice f (count ∷ counts) [] e h = absurd (omega arith)
function-twice f (count ∷ counts) (sum ∷ sums) e h = refl

function-told : (f : FunctionCoverage) (counts : List ℕ) (place : ℕ) → functions.counter (function_with f counts) place ≡ functions.counter f place
function-told f [] place = refl
function-told f (count ∷ counts) place = refl

pub functions_sound : Sound functions
functions_sound = record {
  equiv = and_equiv (on_equiv (λ (f : FunctionCoverage). f.declaration) location_equiv) (on_equiv (λ (f : FunctionCoverage). f.location) location_equiv);
  long = λ a b h. refl;
  given = function-given;
  twice = function-twice;
  told = λ f counts place l. function-told f counts place;
  keeps = function-keeps;
}

-- ---- branches have one for each path

abbrev same_path : PathCoverage → PathCoverage → Bool
same_path p q = same_location p.location q.location

paths-given : (paths : List PathCoverage) (counts : List ℕ) → length counts ≡ length (counts_of paths) → counts_of (paths_with paths counts) ≡ counts
paths-given [] [] e = refl
paths-given [] (count ∷ counts) e = absurd (omega arith)
paths-given (path ∷ paths) [] e = absurd (omega arith)
paths-given (path ∷ paths) (count ∷ counts) e = ap (λ rest. count ∷ rest) (paths-given paths counts (suc-same _ _ e))

paths-keep : (paths others : List PathCoverage) (counts : List ℕ) → length counts ≡ length (counts_of paths) → pointwise same_path (paths_with paths counts) others ≡ pointwise same_path paths others
paths-keep [] others [] e = refl
paths-keep [] others (count ∷ counts) e = absurd (omega arith)
paths-keep (path ∷ paths) others [] e = absurd (omega arith)
paths-keep (path ∷ paths) [] (count ∷ counts) e = refl
paths-keep (path ∷ paths) (other ∷ others) (count ∷ counts) e = ap (λ b. same_path path other && b) (paths-keep paths others counts (suc-same _ _ e))

paths-twice : (paths : List PathCoverage) (counts sums : List ℕ) → length counts ≡ length (counts_of paths) → paths_with (paths_with paths counts) sums ≡ paths_with paths sums
paths-twice [] [] sums e = refl
paths-twice [] (count ∷ counts) sums e = absurd (omega arith)
paths-twice (path ∷ paths) [] sums e = absurd (omega arith)
paths-twice (path ∷ paths) (count ∷ counts) [] e = refl
paths-twice (path ∷ paths) (count ∷ counts) (sum ∷ sums) e = ap (λ rest. record { location = path.location; count = sum } ∷ rest) (paths-twice paths counts sums (suc-same _ _ e))

abbrev locations_of : List PathCoverage → List Location
locations_of paths = map (λ path. path.location) paths

paths-told : (paths : List PathCoverage) (counts : List ℕ) → length counts ≡ length (counts_of paths) → locations_of (paths_with paths counts) ≡ locations_of paths
paths-told [] [] e = refl
paths-told [] (count ∷ counts) e = absurd (omega arith)
paths-told (path ∷ paths) [] e = absurd (omega arith)
paths-told (path ∷ paths) (count ∷ counts) e = ap (λ rest. path.location ∷ rest) (paths-told paths counts (suc-same _ _ e))

abbrev with_paths : BranchCoverage → List PathCoverage → BranchCoverage
with_paths branch paths = record { kind = branch.kind; location = branch.location; paths = paths }

pub branches_sound : Sound branches
branches_sound = record {
  equiv = and_equiv (on_equiv (λ (b : BranchCoverage). b.kind) (lists_equiv nat_eq_equiv))
      (and_equiv (on_equiv (λ (b : BranchCoverage). b.location) location_equiv) (on_equiv (λ (b : BranchCoverage). b.paths) (lists_equiv (on_equiv (λ (p : PathCoverage). p.location) location_equiv))));
  long = branches_long;
  given = λ branch counts e. paths-given branch.paths counts e;
  twice = λ branch counts sums e h. ap (with_paths branch) (paths-twice branch.paths counts sums e);
  told = λ branch counts place e. ap (λ locations. Branch branch.kind branch.location locations place) (paths-told branch.paths counts e);
  keeps = λ branch key counts e. ap (λ b. pointwise nat_eq branch.kind key.kind && (same_location branch.location key.location && b)) (paths-keep branch.paths key.paths counts e);
}

-- ---- the parts of a file

abbrev pub made_file : List ℕ → List FileCoverage → List StatementCoverage → List FunctionCoverage → List BranchCoverage → FileCoverage
made_file path files s f b = record {
  path = path;
  hash = hash_of files;
  input_source_map = source_map_of files;
  statements = enumerate_from 0 s;
  functions = enumerate_from 0 f;
  branches = enumerate_from 0 b;
}

pub record Parts (path : List ℕ) (files : List FileCoverage) (file : FileCoverage) : Type 0 where
  pub own_statements : List StatementCoverage
  pub statements_merged : merged_entries statements path files ≡ Ok own_statements
  statements_in : file.statements ≡ enumerate_from 0 own_statements
  pub own_functions : List FunctionCoverage
  pub functions_merged : merged_entries functions path files ≡ Ok own_functions
  functions_in : file.functions ≡ enumerate_from 0 own_functions
  pub own_branches : List BranchCoverage
  pub branches_merged : merged_entries branches path files ≡ Ok own_branches
  branches_in : file.branches ≡ enumerate_from 0 own_branches
  pub is : made_file path files own_statements own_functions own_branches ≡ file

abbrev pub Answer : Type 0 → Type 0
Answer X = Result X MergeFault

abbrev pub good : FileCoverage → Answer FileCoverage
good file = Ok file

bad : {G : Type 0} (fault : MergeFault) (file : FileCoverage) → Err fault ≡ good file → G
bad fault file e = cc

same-good : (a b : FileCoverage) → good a ≡ good b → a ≡ b
same-good a b e = cc

parts-by : (path : List ℕ) (files : List FileCoverage) (file : FileCoverage) (s : Answer (List StatementCoverage)) (f : Answer (List FunctionCoverage)) (b : Answer (List BranchCoverage)) →
    merged_entries statements path files ≡ s → merged_entries functions path files ≡ f → merged_entries branches path files ≡ b →
    and_then s (λ x. and_then f (λ y. and_then b (λ z. good (made_file path files x y z)))) ≡ good file → Parts path files file
parts-by path files file (Err fault) f b hs hf hb ok = bad fault file ok
parts-by path files file (Ok s) (Err fault) b hs hf hb ok = bad fault file ok
parts-by path files file (Ok s) (Ok f) (Err fault) hs hf hb ok = bad fault file ok
parts-by path files file (Ok s) (Ok f) (Ok b) hs hf hb ok =
    let is : made_file path files s f b ≡ file = same-good (made_file path files s f b) file ok in
    record {
      own_statements = s;
      statements_merged = hs;
      statements_in = ap (λ (x : FileCoverage). x.statements) (sym is);
      own_functions = f;
      functions_merged = hf;
      functions_in = ap (λ (x : FileCoverage). x.functions) (sym is);
      own_branches = b;
      branches_merged = hb;
      branches_in = ap (λ (x : FileCoverage). x.branches) (sym is);
      is = is;
    }

pub parts : (path : List ℕ) (files : List FileCoverage) (file : FileCoverage) → merged_file path files ≡ Ok file → Parts path files file
parts path files file ok = parts-by path files file (merged_entries statements path files) (merged_entries functions path files) (merged_entries branches path files) refl refl refl ok

pub statements_grouped : IsGroupingFree statements
statements_grouped path files others file entries all first ok whole key place =
    let own = parts path files file first in
    grouped_at statements statements_sound path files others file own.own_statements entries all own.statements_merged own.statements_in ok whole key place

pub functions_grouped : IsGroupingFree functions
functions_grouped path files others file entries all first ok whole key place =
    let own = parts path files file first in
    grouped_at functions functions_sound path files others file own.own_functions entries all own.functions_merged own.functions_in ok whole key place

pub branches_grouped : IsGroupingFree branches
branches_grouped path files others file entries all first ok whole key place =
    let own = parts path files file first in
    grouped_at branches branches_sound path files others file own.own_branches entries all own.branches_merged own.branches_in ok whole key place

pub statements_again : IsLeftToRight statements
statements_again path files others file first =
    let own = parts path files file first in
    merged_again statements statements_sound path files others file own.own_statements own.statements_merged own.statements_in

pub functions_again : IsLeftToRight functions
functions_again path files others file first =
    let own = parts path files file first in
    merged_again functions functions_sound path files others file own.own_functions own.functions_merged own.functions_in

pub branches_again : IsLeftToRight branches
branches_again path files others file first =
    let own = parts path files file first in
    merged_again branches branches_sound path files others file own.own_branches own.branches_merged own.branches_in
