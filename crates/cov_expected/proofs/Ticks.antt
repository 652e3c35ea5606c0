-- A count that goes up in the data of a file is an entry more.
use Rattle.std.proofs.Common.{◌≡◌, ℕ, zero, suc, ◌+◌, ◌-◌, ◌^◌, ◌<◌, List, [], ◌∷◌, map, Bool, true, false, if◌then◌else◌, ◌&&◌, nat_eq, Option, Some, None, codes, decimal, refl, sym, ap, ◌∙◌, arith}
use Rattle.std.specs.Str.{chars}
use Rattle.std.proofs.lemmas.Bool.{eq-eqb, ne_eqb}
use Rattle.js_terms.specs.declared.construct.ConstructKind.TheVariants as construct_kind
use Rattle.js_terms.specs.Mark.{Mark}
use Rattle.js_tree.specs.Marked.{one_if}
use Rattle.js_value.specs.Functions.{name_units}
use Rattle.js_value.proofs.IndexLemmas.{index_read}
use Rattle.js_counter.specs.Represents.{Json, JsonMembers, Members, Items, members, no_members, items, json_ticked, json_ticked_items}
use Rattle.serde_json.specs.Data.{Data, null, boolean, number as a_number, unsigned, negative, float, string, array, object, Items as DataItems, no_items, item}
use Rattle.serde_json.specs.View.{items_of}
use Rattle.cov_object.specs.Branch.{BranchCoverage}
use Rattle.cov_object.specs.Json.{numbered, count_data, location_data, function_data, branch_data, path_counts_data, statements_data, statement_counts_data, functions_data, function_counts_data, branches_data, branch_counts_data, with_hash, with_source_map, by_key, file_data}
use Rattle.cov_object.specs.SourceMapText.{data_of}
use Rattle.cov_object.specs.declared.file.FileCoverage.{FileCoverage}
use Rattle.cov_object.specs.declared.file.FunctionCoverage.{FunctionCoverage}
use Rattle.cov_object.specs.declared.file.PathCoverage.{PathCoverage}
use Rattle.cov_object.specs.declared.file.StatementCoverage.{StatementCoverage}
use Rattle.cov_expected.specs.Told.{json_of, items_json}
use Rattle.cov_expected.specs.Expected.{entries, counted_statement, counted_function, counted_paths, counted_branch, counted_file}
use Rattle.cov_expected.specs.Laws.{way, TellsEntries}
use Rattle.cov_expected.proofs.Ordered.{Entry}
use Rattle.cov_expected.proofs.Changed.{numbered_ticked}

-- ---- numbers

abbrev one_more : Data → Data
one_more (a_number (unsigned n)) = a_number (unsigned (n + 1))
one_more d = d

-- a count that goes up by one or by none
raised : (n : ℕ) (b : Bool) → count_data (n + (one_if b + 0)) ≡ (if b then one_more (count_data n) else count_data n)
raised n true = refl
raised n false = ap (λ m. a_number (unsigned m)) (omega arith)

-- ---- which mark it is

same : (n : ℕ) → nat_eq n n ≡ true
same n = eq-eqb n n refl

-- ---- the members of a file

abbrev hash_json : Option (List ℕ) → JsonMembers → JsonMembers
hash_json None ms = ms
hash_json (Some hash) ms = members (name_units (codes "hash")) (json_of (string hash)) ms

abbrev map_json : Option (List ℕ) → JsonMembers → JsonMembers
map_json None ms = ms
map_json (Some text) ms = members (name_units (codes "inputSourceMap")) (json_of (data_of text)) ms

abbrev file_json : (hash text : Option (List ℕ)) (path statements counts functions function_counts branches branch_counts : Json) → Json
file_json hash text path statements counts functions function_counts branches branch_counts = Members (
    members (name_units (codes "b")) branch_counts
    (members (name_units (codes "branchMap")) branches
    (members (name_units (codes "f")) function_counts
    (members (name_units (codes "fnMap")) functions
    (hash_json hash (map_json text
    (members (name_units (codes "path")) path
    (members (name_units (codes "s")) counts
    (members (name_units (codes "statementMap")) statements no_members)))))))))

abbrev with_both : (hash text : Option (List ℕ)) (path statements counts functions function_counts branches branch_counts : Data) → Data
with_both hash text path statements counts functions function_counts branches branch_counts = object (with_source_map text (with_hash hash (by_key (
    (codes "path", path)
    ∷ (codes "statementMap", statements)
    ∷ (codes "s", counts)
    ∷ (codes "fnMap", functions)
    ∷ (codes "f", function_counts)
    ∷ (codes "branchMap", branches)
    ∷ (codes "b", branch_counts)
    ∷ []))))

both_json : (hash text : Option (List ℕ)) (path statements counts functions function_counts branches branch_counts : Data) →
    json_of (with_both hash text path statements counts functions function_counts branches branch_counts)
    ≡ file_json hash text (json_of path) (json_of statements) (json_of counts) (json_of functions) (json_of function_counts) (json_of branches) (json_of branch_counts)
both_json None None path statements counts functions function_counts branches branch_counts = refl
both_json None (Some text) path statements counts functions function_counts branches branch_counts = refl
both_json (Some hash) None path statements counts functions function_counts branches branch_counts = refl
both_json (Some hash) (Some text) path statements counts functions function_counts branches branch_counts = refl

module _ (path statements counts functions function_counts branches branch_counts : Json) (keys : List (List ℕ)) where
  tick_statement : (hash text : Option (List ℕ)) → json_ticked (file_json hash text path statements counts functions function_counts branches branch_counts) (name_units (codes "s") ∷ keys)
      ≡ file_json hash text path statements (json_ticked counts keys) functions function_counts branches branch_counts
  unfolding chars
  tick_statement None None = refl
  tick_statement None (Some text) = refl
  tick_statement (Some hash) None = refl
  tick_statement (Some hash) (Some text) = refl

  tick_function : (hash text : Option (List ℕ)) → json_ticked (file_json hash text path statements counts functions function_counts branches branch_counts) (name_units (codes "f") ∷ keys)
      ≡ file_json hash text path statements counts functions (json_ticked function_counts keys) branches branch_counts
  unfolding chars
  tick_function hash text = refl

  tick_branch : (hash text : Option (List ℕ)) → json_ticked (file_json hash text path statements counts functions function_counts branches branch_counts) (name_units (codes "b") ∷ keys)
      ≡ file_json hash text path statements counts functions function_counts branches (json_ticked branch_counts keys)
  unfolding chars
  tick_branch hash text = refl

-- ---- numbered things that stay

abbrev entry_of : {T : Type 0} → (T → Data) → ℕ × T → Entry
entry_of f x = (decimal x.0, f x.1)

entries_same : {T : Type 0} (f : T → Data) (more : ℕ × T → ℕ × T) → ((x : ℕ × T) → (more x).0 ≡ x.0) → ((x : ℕ × T) → f (more x).1 ≡ f x.1) → (xs : List (ℕ × T)) →
    map (entry_of f) (map more xs) ≡ map (entry_of f) xs
entries_same f more id value [] = refl
entries_same f more id value (x ∷ xs) =
    ap (λ i. (decimal i, f (more x).1) ∷ map (entry_of f) (map more xs)) (id x)
    ∙ ap (λ d. (decimal x.0, d) ∷ map (entry_of f) (map more xs)) (value x)
    ∙ ap (λ es. (decimal x.0, f x.1) ∷ es) (entries_same f more id value xs)

numbered_same : {T : Type 0} (f : T → Data) (more : ℕ × T → ℕ × T) → ((x : ℕ × T) → (more x).0 ≡ x.0) → ((x : ℕ × T) → f (more x).1 ≡ f x.1) → (xs : List (ℕ × T)) →
    numbered f (map more xs) ≡ numbered f xs
numbered_same f more id value xs = ap (λ es. object (by_key es)) (entries_same f more id value xs)

and_end : (b c : Bool) → c ≡ true → (b && c) ≡ b
and_end true c is = is
and_end false c is = refl

and_true : (b c d : Bool) → c ≡ true → d ≡ true → (b && (c && d)) ≡ b
and_true true c d is also = ap (λ t. t && d) is ∙ also
and_true false c d is also = refl

-- one path and one file
one_path : (n number path file : ℕ) → path ≡ 0 → (nat_eq n number && (nat_eq 0 path && nat_eq file file)) ≡ nat_eq n number
one_path n number path file is = and_true (nat_eq n number) (nat_eq 0 path) (nat_eq file file) (ap (nat_eq 0) is) (same file)

-- no more
no_more : (n : ℕ) → count_data (n + (0 + 0)) ≡ count_data n
no_more n = ap (λ m. a_number (unsigned m)) (omega arith)

number_ticked : (d : Data) → json_of (one_more d) ≡ json_ticked (json_of d) []
number_ticked null = refl
number_ticked (boolean b) = refl
number_ticked (a_number (unsigned n)) = refl
number_ticked (a_number (negative z)) = refl
number_ticked (a_number (float x)) = refl
number_ticked (string s) = refl
number_ticked (array ds) = refl
number_ticked (object ms) = refl

-- ---- the paths of a branch

-- the item at a path, counted from one on, goes up
abbrev raise_from : (at path : ℕ) → DataItems → DataItems
raise_from at path no_items = no_items
raise_from at path (item d ds) = item (if nat_eq at path then one_more d else d) (raise_from (suc at) path ds)

abbrev raise_path : ℕ → Data → Data
raise_path path (array ds) = array (raise_from 0 path ds)
raise_path path d = d

raised_past : (at path : ℕ) (ds : DataItems) → path < at → raise_from at path ds ≡ ds
raised_past at path no_items past = refl
raised_past at path (item d ds) past =
    let other : nat_eq at path ≡ false = ne_eqb at path (λ e. omega (arith, e, past)) in
    ap (λ b. item (if b then one_more d else d) (raise_from (suc at) path ds)) other
    ∙ ap (item d) (raised_past (suc at) path ds (omega (arith, past)))

items_ticked : (ds : DataItems) (i at : ℕ) → json_ticked_items (items_json ds) i [] ≡ items_json (raise_from at (at + i) ds)
items_ticked no_items i at = refl
items_ticked (item d ds) zero at =
    let here : nat_eq at (at + 0) ≡ true = eq-eqb at (at + 0) (omega arith) in
    ap (λ x. items x (items_json ds)) (sym (number_ticked d))
    ∙ ap (λ es. items (json_of (one_more d)) (items_json es)) (sym (raised_past (suc at) (at + 0) ds (omega arith)))
    ∙ ap (λ b. items (json_of (if b then one_more d else d)) (items_json (raise_from (suc at) (at + 0) ds))) (sym here)
items_ticked (item d ds) (suc i) at =
    let other : nat_eq at (at + suc i) ≡ false = ne_eqb at (at + suc i) (λ e. omega (arith, e)) in
    let next : suc at + i ≡ at + suc i = omega arith in
    ap (items (json_of d)) (items_ticked ds i (suc at) ∙ ap (λ m. items_json (raise_from (suc at) m ds)) next)
    ∙ ap (λ b. items (json_of (if b then one_more d else d)) (items_json (raise_from (suc at) (at + suc i) ds))) (sym other)

abbrev path_items : List PathCoverage → DataItems
path_items paths = items_of (map (λ p. count_data p.count) paths)

from_none : (n : ℕ) → 0 + n ≡ n
from_none n = omega arith

path_ticked : (path : ℕ) → path < 2 ^ 32 - 1 → (b : BranchCoverage) → json_of (raise_path path (path_counts_data b)) ≡ json_ticked (json_of (path_counts_data b)) (decimal path ∷ [])
path_ticked path low b =
    sym (ap (λ o. elim o [ None ↦ Items (items_json (path_items b.paths)) | Some i ↦ Items (json_ticked_items (items_json (path_items b.paths)) i []) ]) (index_read path low)
    ∙ ap Items (items_ticked (path_items b.paths) path 0)
    ∙ ap (λ m. Items (items_json (raise_from 0 m (path_items b.paths)))) (from_none path))

module _ (file number path : ℕ) where
  abbrev branch_mark : Mark
  branch_mark = record { file = file; kind = construct_kind.Branch; number = number; path = path }

  paths_raised : (n at : ℕ) (b : Bool) → nat_eq n number ≡ b → (ps : List PathCoverage) →
      path_items (counted_paths (branch_mark ∷ []) file n at ps) ≡ (if b then raise_from at path (path_items ps) else path_items ps)
  paths_raised n at true is [] = refl
  paths_raised n at false is [] = refl
  paths_raised n at true is (p ∷ ps) =
      ap (λ t. item (count_data (p.count + (one_if (t && (nat_eq at path && nat_eq file file)) + 0))) (path_items (counted_paths (branch_mark ∷ []) file n (suc at) ps))) is
      ∙ ap (λ t. item (count_data (p.count + (one_if t + 0))) (path_items (counted_paths (branch_mark ∷ []) file n (suc at) ps))) (and_end (nat_eq at path) (nat_eq file file) (same file))
      ∙ ap (λ d. item d (path_items (counted_paths (branch_mark ∷ []) file n (suc at) ps))) (raised p.count (nat_eq at path))
      ∙ ap (item (if nat_eq at path then one_more (count_data p.count) else count_data p.count)) (paths_raised n (suc at) true is ps)
  paths_raised n at false is (p ∷ ps) =
      ap (λ t. item (count_data (p.count + (one_if (t && (nat_eq at path && nat_eq file file)) + 0))) (path_items (counted_paths (branch_mark ∷ []) file n (suc at) ps))) is
      ∙ ap (λ d. item d (path_items (counted_paths (branch_mark ∷ []) file n (suc at) ps))) (no_more p.count)
      ∙ ap (item (count_data p.count)) (paths_raised n (suc at) false is ps)

  branch_raised : (x : ℕ × BranchCoverage) (b : Bool) → nat_eq x.0 number ≡ b →
      path_counts_data (counted_branch (branch_mark ∷ []) file x).1 ≡ (if b then raise_path path (path_counts_data x.1) else path_counts_data x.1)
  branch_raised x true is = ap array (paths_raised x.0 0 true is x.1.paths)
  branch_raised x false is = ap array (paths_raised x.0 0 false is x.1.paths)

-- places stay
places_stay : (log : List Mark) (file n at : ℕ) (ps : List PathCoverage) → map (λ p. location_data p.location) (counted_paths log file n at ps) ≡ map (λ p. location_data p.location) ps
places_stay log file n at [] = refl
places_stay log file n at (p ∷ ps) = ap (λ ds. location_data p.location ∷ ds) (places_stay log file n (suc at) ps)

branch_stays : (log : List Mark) (file : ℕ) (x : ℕ × BranchCoverage) → branch_data (counted_branch log file x).1 ≡ branch_data x.1
branch_stays log file x =
    ap (λ ds. by_entries ds) (places_stay log file x.0 0 x.1.paths)
  where
    by_entries : List Data → Data
    by_entries ds = object (by_key ((codes "loc", location_data x.1.location) ∷ (codes "type", string x.1.kind) ∷ (codes "locations", array (items_of ds)) ∷ []))

-- marks of another kind
counts_stay : (file n at : ℕ) (mark : Mark) → ((i : ℕ) → entries (mark ∷ []) file construct_kind.Branch n i ≡ 0 + 0) → (ps : List PathCoverage) →
    path_items (counted_paths (mark ∷ []) file n at ps) ≡ path_items ps
counts_stay file n at mark none [] = refl
counts_stay file n at mark none (p ∷ ps) =
    ap (λ e. item (count_data (p.count + e)) (path_items (counted_paths (mark ∷ []) file n (suc at) ps))) (none at)
    ∙ ap (λ d. item d (path_items (counted_paths (mark ∷ []) file n (suc at) ps))) (no_more p.count)
    ∙ ap (item (count_data p.count)) (counts_stay file n (suc at) mark none ps)

-- ---- the file

-- what places and names stand under doesn't change
statements_stay : (log : List Mark) (file : ℕ) (xs : List (ℕ × StatementCoverage)) → json_of (statements_data xs) ≡ json_of (statements_data (map (counted_statement log file) xs))
statements_stay log file xs = ap json_of (sym (numbered_same (λ s. location_data s.location) (counted_statement log file) (λ x. refl) (λ x. refl) xs))

functions_stay : (log : List Mark) (file : ℕ) (xs : List (ℕ × FunctionCoverage)) → json_of (functions_data xs) ≡ json_of (functions_data (map (counted_function log file) xs))
functions_stay log file xs = ap json_of (sym (numbered_same function_data (counted_function log file) (λ x. refl) (λ x. refl) xs))

branches_stay : (log : List Mark) (file : ℕ) (xs : List (ℕ × BranchCoverage)) → json_of (branches_data xs) ≡ json_of (branches_data (map (counted_branch log file) xs))
branches_stay log file xs = ap json_of (sym (numbered_same branch_data (counted_branch log file) (λ x. refl) (branch_stays log file) xs))

-- counts that a mark isn't of
no_statement : (log : List Mark) (file : ℕ) → ((n : ℕ) → entries log file construct_kind.Statement n 0 ≡ 0 + 0) → (xs : List (ℕ × StatementCoverage)) →
    json_of (statement_counts_data xs) ≡ json_of (statement_counts_data (map (counted_statement log file) xs))
no_statement log file none xs = ap json_of (sym (numbered_same (λ s. count_data s.count) (counted_statement log file) (λ x. refl)
    (λ x. ap (λ e. count_data (x.1.count + e)) (none x.0) ∙ no_more x.1.count) xs))

no_function : (log : List Mark) (file : ℕ) → ((n : ℕ) → entries log file construct_kind.Function n 0 ≡ 0 + 0) → (xs : List (ℕ × FunctionCoverage)) →
    json_of (function_counts_data xs) ≡ json_of (function_counts_data (map (counted_function log file) xs))
no_function log file none xs = ap json_of (sym (numbered_same (λ f. count_data f.count) (counted_function log file) (λ x. refl)
    (λ x. ap (λ e. count_data (x.1.count + e)) (none x.0) ∙ no_more x.1.count) xs))

no_branch : (mark : Mark) (file : ℕ) → ((n i : ℕ) → entries (mark ∷ []) file construct_kind.Branch n i ≡ 0 + 0) → (xs : List (ℕ × BranchCoverage)) →
    json_of (branch_counts_data xs) ≡ json_of (branch_counts_data (map (counted_branch (mark ∷ []) file) xs))
no_branch mark file none xs = ap json_of (sym (numbered_same path_counts_data (counted_branch (mark ∷ []) file) (λ x. refl)
    (λ x. ap array (counts_stay file x.0 0 mark (none x.0) x.1.paths)) xs))

file_is : (f : FileCoverage) → json_of (file_data f)
    ≡ file_json f.hash f.input_source_map (json_of (string f.path)) (json_of (statements_data f.statements)) (json_of (statement_counts_data f.statements)) (json_of (functions_data f.functions))
    (json_of (function_counts_data f.functions)) (json_of (branches_data f.branches)) (json_of (branch_counts_data f.branches))
file_is f = both_json f.hash f.input_source_map (string f.path) (statements_data f.statements) (statement_counts_data f.statements)
    (functions_data f.functions) (function_counts_data f.functions) (branches_data f.branches) (branch_counts_data f.branches)

parts : (hash text : Option (List ℕ)) (path : Json) {a b c d e f x y z u v w : Json} → a ≡ x → b ≡ y → c ≡ z → d ≡ u → e ≡ v → f ≡ w →
    file_json hash text path a b c d e f ≡ file_json hash text path x y z u v w
parts hash text path s1 s2 s3 s4 s5 s6 = cc

pub ticks : TellsEntries
ticks file construct_kind.Statement number path f few_statements few_functions few_branches low path_low one =
    let log : List Mark = record { file = file; kind = construct_kind.Statement; number = number; path = path } ∷ [] in
    ap (λ x. json_ticked x (way construct_kind.Statement number path)) (file_is f)
    ∙ tick_statement (json_of (string f.path)) (json_of (statements_data f.statements)) (json_of (statement_counts_data f.statements)) (json_of (functions_data f.functions))
    (json_of (function_counts_data f.functions)) (json_of (branches_data f.branches)) (json_of (branch_counts_data f.branches)) (decimal number ∷ []) f.hash f.input_source_map
    ∙ parts f.hash f.input_source_map (json_of (string f.path)) (statements_stay log file f.statements)
    (numbered_ticked (λ s. count_data s.count) number (omega (arith, low)) [] one_more (counted_statement log file) (λ x. refl)
    (λ x. ap (λ t. count_data (x.1.count + (one_if t + 0))) (one_path x.0 number path file one) ∙ raised x.1.count (nat_eq x.0 number))
    (λ x. number_ticked (count_data x.count)) f.statements few_statements)
    (functions_stay log file f.functions)
    (no_function log file (λ n. refl) f.functions)
    (branches_stay log file f.branches)
    (no_branch (record { file = file; kind = construct_kind.Statement; number = number; path = path }) file (λ n i. refl) f.branches)
    ∙ sym (file_is (counted_file log file f))
ticks file construct_kind.Function number path f few_statements few_functions few_branches low path_low one =
    let log : List Mark = record { file = file; kind = construct_kind.Function; number = number; path = path } ∷ [] in
    ap (λ x. json_ticked x (way construct_kind.Function number path)) (file_is f)
    ∙ tick_function (json_of (string f.path)) (json_of (statements_data f.statements)) (json_of (statement_counts_data f.statements)) (json_of (functions_data f.functions))
    (json_of (function_counts_data f.functions)) (json_of (branches_data f.branches)) (json_of (branch_counts_data f.branches)) (decimal number ∷ []) f.hash f.input_source_map
    ∙ parts f.hash f.input_source_map (json_of (string f.path)) (statements_stay log file f.statements)
    (no_statement log file (λ n. refl) f.statements)
    (functions_stay log file f.functions)
    (numbered_ticked (λ g. count_data g.count) number (omega (arith, low)) [] one_more (counted_function log file) (λ x. refl)
    (λ x. ap (λ t. count_data (x.1.count + (one_if t + 0))) (one_path x.0 number path file one) ∙ raised x.1.count (nat_eq x.0 number))
    (λ x. number_ticked (count_data x.count)) f.functions few_functions)
    (branches_stay log file f.branches)
    (no_branch (record { file = file; kind = construct_kind.Function; number = number; path = path }) file (λ n i. refl) f.branches)
    ∙ sym (file_is (counted_file log file f))
ticks file construct_kind.Branch number path f few_statements few_functions few_branches low path_low one =
    let log : List Mark = record { file = file; kind = construct_kind.Branch; number = number; path = path } ∷ [] in
    ap (λ x. json_ticked x (way construct_kind.Branch number path)) (file_is f)
    ∙ tick_branch (json_of (string f.path)) (json_of (statements_data f.statements)) (json_of (statement_counts_data f.statements)) (json_of (functions_data f.functions))
    (json_of (function_counts_data f.functions)) (json_of (branches_data f.branches)) (json_of (branch_counts_data f.branches)) (decimal number ∷ decimal path ∷ []) f.hash f.input_source_map
    ∙ parts f.hash f.input_source_map (json_of (string f.path)) (statements_stay log file f.statements)
    (no_statement log file (λ n. refl) f.statements)
    (functions_stay log file f.functions)
    (no_function log file (λ n. refl) f.functions)
    (branches_stay log file f.branches)
    (numbered_ticked path_counts_data number (omega (arith, low)) (decimal path ∷ []) (raise_path path) (counted_branch log file) (λ x. refl)
    (λ x. branch_raised file number path x (nat_eq x.0 number) refl) (path_ticked path path_low) f.branches few_branches)
    ∙ sym (file_is (counted_file log file f))
