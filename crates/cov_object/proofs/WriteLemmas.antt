-- The text of a coverage map, from its pieces.
use Rattle.std.proofs.Common.{◌≡◌, ℕ, Bor, List, [], ◌∷◌, ◌++◌, Bool, true, false, map, fold, Option, Some, None, refl, sym, ap, ◌∙◌, append_assoc, append-nil, codes}
use Rattle.std.specs.Ordering.{nat_cmp, match_ordering, ordering_reverse}
use Rattle.std.specs.declared.cmp.Ordering.TheVariants.{Less, Greater}
use Rattle.std.specs.Cmp.Lexicographic.{slice_cmp}
use Rattle.std.specs.List.{AllByRecursion}
use Rattle.std.specs.List.Sorted.{IsStrictlySortedBy}
use Rattle.std.proofs.lemmas.Cmp.{nat_list_cmp_total}
use Rattle.serde_json.specs.Data.{Data, string, object, Members, no_members, member, put}
use Rattle.serde_json.specs.Written.{compact_text, members_text}
use Rattle.cov_object.specs.Branch.{BranchCoverage}
use Rattle.cov_object.specs.declared.file.FileCoverage.{FileCoverage}
use Rattle.cov_object.specs.declared.file.FunctionCoverage.{FunctionCoverage}
use Rattle.cov_object.specs.declared.file.StatementCoverage.{StatementCoverage}
use Rattle.cov_object.specs.Files.{AreInOrder}
use Rattle.cov_object.specs.Json.{by_key, statements_data, statement_counts_data, functions_data, function_counts_data, branches_data, branch_counts_data, with_hash, with_source_map, file_data, file_member, json_text, later_members}
use Rattle.cov_object.specs.private.Piece.{key_text, member_text, hash_text, source_map_text}
use Rattle.cov_object.specs.SourceMapText.{data_of}
use Rattle.cov_object.proofs.PieceLemmas.{members_text-member}

-- ---- the text of one file

-- the member of a hash, where there is one, before others
abbrev hash_before : Option (List ℕ) → Members → Members
hash_before (Some hash) ms = member (codes "hash") (string hash) ms
hash_before None ms = ms

-- the member of a source map, where there is one, before others
abbrev map_before : Option (List ℕ) → Members → Members
map_before (Some text) ms = member (codes "inputSourceMap") (data_of text) ms
map_before None ms = ms

-- a file's members, in the order of their keys' bytes
abbrev in_order : FileCoverage → Members
in_order file =
    member (codes "b") (branch_counts_data file.branches)
    (member (codes "branchMap") (branches_data file.branches)
    (member (codes "f") (function_counts_data file.functions)
    (member (codes "fnMap") (functions_data file.functions)
    (hash_before file.hash
    (map_before file.input_source_map
    (member (codes "path") (string file.path)
    (member (codes "s") (statement_counts_data file.statements)
    (member (codes "statementMap") (statements_data file.statements) no_members))))))))

with_both-in_order : (hash text : Option (List ℕ)) (path statements counts functions function_counts branches branch_counts : Data) →
    with_source_map text (with_hash hash (by_key (
    (codes "path", path)
    ∷ (codes "statementMap", statements)
    ∷ (codes "s", counts)
    ∷ (codes "fnMap", functions)
    ∷ (codes "f", function_counts)
    ∷ (codes "branchMap", branches)
    ∷ (codes "b", branch_counts)
    ∷ [])))
    ≡ member (codes "b") branch_counts (member (codes "branchMap") branches (member (codes "f") function_counts (member (codes "fnMap") functions
    (hash_before hash (map_before text (member (codes "path") path (member (codes "s") counts (member (codes "statementMap") statements no_members))))))))
with_both-in_order (Some hash) (Some text) path statements counts functions function_counts branches branch_counts = refl
with_both-in_order (Some hash) None path statements counts functions function_counts branches branch_counts = refl
with_both-in_order None (Some text) path statements counts functions function_counts branches branch_counts = refl
with_both-in_order None None path statements counts functions function_counts branches branch_counts = refl

file_data-in_order : (file : FileCoverage) → file_data file ≡ object (in_order file)
file_data-in_order file = ap object (with_both-in_order file.hash file.input_source_map (string file.path)
    (statements_data file.statements) (statement_counts_data file.statements)
    (functions_data file.functions) (function_counts_data file.functions)
    (branches_data file.branches) (branch_counts_data file.branches))

hash_before-text : (hash : Option (List ℕ)) (ms : Members) → members_text true (hash_before hash ms) ≡ hash_text hash ++ members_text true ms
hash_before-text (Some hash) ms = members_text-member true (codes "hash") (string hash) ms
hash_before-text None ms = refl

map_before-text : (text : Option (List ℕ)) (ms : Members) → members_text true (map_before text ms) ≡ source_map_text text ++ members_text true ms
map_before-text (Some text) ms = members_text-member true (codes "inputSourceMap") (data_of text) ms
map_before-text None ms = refl

then : (later : Bool) (k : List ℕ) (d : Data) (ms : Members) (rest : List ℕ) → members_text true ms ≡ rest → members_text later (member k d ms) ≡ member_text later k d ++ rest
then later k d ms rest e = members_text-member later k d ms ∙ ap (λ text. member_text later k d ++ text) e

in_order-text : (file : FileCoverage) → members_text false (in_order file)
    ≡ member_text false (codes "b") (branch_counts_data file.branches)
    ++ (member_text true (codes "branchMap") (branches_data file.branches)
    ++ (member_text true (codes "f") (function_counts_data file.functions)
    ++ (member_text true (codes "fnMap") (functions_data file.functions)
    ++ (hash_text file.hash
    ++ (source_map_text file.input_source_map
    ++ (member_text true (codes "path") (string file.path)
    ++ (member_text true (codes "s") (statement_counts_data file.statements)
    ++ (member_text true (codes "statementMap") (statements_data file.statements) ++ 125 ∷ []))))))))
in_order-text file =
    let statements = statements_data file.statements in
    let counts = statement_counts_data file.statements in
    let functions = functions_data file.functions in
    let function_counts = function_counts_data file.functions in
    let branches = branches_data file.branches in
    let branch_counts = branch_counts_data file.branches in
    let path = string file.path in
    let from_map : Members = member (codes "statementMap") statements no_members in
    let from_s : Members = member (codes "s") counts from_map in
    let from_path : Members = member (codes "path") path from_s in
    let from_source : Members = map_before file.input_source_map from_path in
    let from_hash : Members = hash_before file.hash from_source in
    let from_fn : Members = member (codes "fnMap") functions from_hash in
    let from_f : Members = member (codes "f") function_counts from_fn in
    let from_branch : Members = member (codes "branchMap") branches from_f in
    then false (codes "b") branch_counts from_branch _ (
    then true (codes "branchMap") branches from_f _ (
    then true (codes "f") function_counts from_fn _ (
    then true (codes "fnMap") functions from_hash _ (
    hash_before-text file.hash from_source ∙ ap (λ text. hash_text file.hash ++ text) (
    map_before-text file.input_source_map from_path ∙ ap (λ text. source_map_text file.input_source_map ++ text) (
    then true (codes "path") path from_s _ (
    then true (codes "s") counts from_map _ (
    members_text-member true (codes "statementMap") statements no_members))))))))

pieces : (brace b b_map f f_map hash source path s s_map end o0 o1 o2 o3 o4 o5 o6 o7 o8 : List ℕ) →
    o1 ≡ o0 ++ brace → o2 ≡ o1 ++ (b ++ b_map) → o3 ≡ o2 ++ (f ++ f_map) → o4 ≡ o3 ++ hash → o5 ≡ o4 ++ source → o6 ≡ o5 ++ path → o7 ≡ o6 ++ (s ++ s_map) → o8 ≡ o7 ++ end →
    o8 ≡ o0 ++ (brace ++ (b ++ (b_map ++ (f ++ (f_map ++ (hash ++ (source ++ (path ++ (s ++ (s_map ++ end))))))))))
pieces brace b b_map f f_map hash source path s s_map end o0 o1 o2 o3 o4 o5 o6 o7 o8 e1 e2 e3 e4 e5 e6 e7 e8 =
    rw (e8, e7, e6, e5, e4, e3, e2, e1) (simp append_assoc)

-- the two members of a file's branches, functions or statements
abbrev branches_text : List (ℕ × BranchCoverage) → List ℕ
branches_text branches = member_text false (codes "b") (branch_counts_data branches) ++ member_text true (codes "branchMap") (branches_data branches)

abbrev functions_text : List (ℕ × FunctionCoverage) → List ℕ
functions_text functions = member_text true (codes "f") (function_counts_data functions) ++ member_text true (codes "fnMap") (functions_data functions)

abbrev statements_text : List (ℕ × StatementCoverage) → List ℕ
statements_text statements = member_text true (codes "s") (statement_counts_data statements) ++ member_text true (codes "statementMap") (statements_data statements)

-- what was written in these pieces is the text of the file
pub file-pieces : (file : FileCoverage) (branches : List (ℕ × BranchCoverage)) (functions : List (ℕ × FunctionCoverage)) (statements : List (ℕ × StatementCoverage)) (o0 o1 o2 o3 o4 o5 o6 o7 o8 : List ℕ) →
    branches ≡ file.branches → functions ≡ file.functions → statements ≡ file.statements →
    o1 ≡ o0 ++ 123 ∷ [] → o2 ≡ o1 ++ branches_text branches → o3 ≡ o2 ++ functions_text functions → o4 ≡ o3 ++ hash_text file.hash → o5 ≡ o4 ++ source_map_text file.input_source_map →
    o6 ≡ o5 ++ member_text true (codes "path") (string file.path) → o7 ≡ o6 ++ statements_text statements → o8 ≡ o7 ++ 125 ∷ [] →
    o8 ≡ o0 ++ compact_text (file_data file)
file-pieces file branches functions statements o0 o1 o2 o3 o4 o5 o6 o7 o8 b f s e1 e2 e3 e4 e5 e6 e7 e8 =
    pieces (123 ∷ [])
    (member_text false (codes "b") (branch_counts_data file.branches)) (member_text true (codes "branchMap") (branches_data file.branches))
    (member_text true (codes "f") (function_counts_data file.functions)) (member_text true (codes "fnMap") (functions_data file.functions))
    (hash_text file.hash) (source_map_text file.input_source_map) (member_text true (codes "path") (string file.path))
    (member_text true (codes "s") (statement_counts_data file.statements)) (member_text true (codes "statementMap") (statements_data file.statements))
    (125 ∷ []) o0 o1 o2 o3 o4 o5 o6 o7 o8 e1
    (e2 ∙ ap (λ xs. o1 ++ branches_text xs) b) (e3 ∙ ap (λ xs. o2 ++ functions_text xs) f) e4 e5 e6 (e7 ∙ ap (λ xs. o6 ++ statements_text xs) s) e8
    ∙ ap (λ text. o0 ++ 123 ∷ text) (sym (in_order-text file)) ∙ ap (λ d. o0 ++ compact_text d) (sym (file_data-in_order file))

-- ---- the files, one after another

-- a file beside its path
abbrev pub entry : FileCoverage → List ℕ × Data
entry file = (file.path, file_data file)

abbrev pub put_entry : Members → List ℕ × Data → Members
put_entry placed entry = put entry.0 entry.1 placed

-- the members of these files, as the files stand
abbrev pub in_turn : List FileCoverage → Members
in_turn [] = no_members
in_turn (file ∷ files) = member file.path (file_data file) (in_turn files)

-- a member whose key comes before those of the files stays the first
stays_first : (k : List ℕ) (d : Data) (ms : Members) (files : List FileCoverage) → AllByRecursion (λ y. slice_cmp nat_cmp k y ≡ Less) (map (λ file. file.path) files) →
    fold put_entry (member k d ms) (map entry files) ≡ member k d (fold put_entry ms (map entry files))
stays_first k d ms [] all = refl
stays_first k d ms (file ∷ files) all =
    let path = file.path in
    let after : slice_cmp nat_cmp path k ≡ Greater = nat_list_cmp_total.antisymm path k ∙ ap ordering_reverse all.0 in
    ap (λ o. fold put_entry (match_ordering o (member path (file_data file) (member k d ms)) (member k (file_data file) ms) (member k d (put path (file_data file) ms))) (map entry files)) after
    ∙ stays_first k d (put path (file_data file) ms) files all.1

pub by_key-in_turn : (files : List FileCoverage) → AreInOrder files → by_key (map entry files) ≡ in_turn files
unfolding IsStrictlySortedBy
by_key-in_turn [] ordered = refl
by_key-in_turn (file ∷ files) ordered =
    stays_first file.path (file_data file) no_members files ordered.0
    ∙ ap (member file.path (file_data file)) (by_key-in_turn files ordered.1)

-- the text of these files without the closing brace
abbrev pub begun : Bool → List FileCoverage → List ℕ
begun later [] = []
begun later (file ∷ files) = member_text later file.path (file_data file) ++ begun true files

-- whether something stands before what follows these files
abbrev pub is_later : Bool → List FileCoverage → Bool
is_later later [] = later
is_later later (file ∷ files) = is_later true files

begun-end : (later : Bool) (files : List FileCoverage) → members_text later (in_turn files) ≡ begun later files ++ 125 ∷ []
begun-end later [] = refl
begun-end later (file ∷ files) =
    members_text-member later file.path (file_data file) (in_turn files)
    ∙ ap (λ rest. member_text later file.path (file_data file) ++ rest) (begun-end true files)
    ∙ simp append_assoc

-- one more file
begun-more : (later : Bool) (files : List FileCoverage) (file : FileCoverage) →
    begun later (files ++ file ∷ []) ≡ begun later files ++ member_text (is_later later files) file.path (file_data file)
begun-more later [] file = simp append-nil
begun-more later (other ∷ files) file =
    ap (λ rest. member_text later other.path (file_data other) ++ rest) (begun-more true files file)
    ∙ simp append_assoc

pub is_later-more : (later : Bool) (files : List FileCoverage) (file : FileCoverage) → is_later later (files ++ file ∷ []) ≡ true
is_later-more later [] file = refl
is_later-more later (other ∷ files) file = is_later-more true files file

joined : (text key value o0 o1 o2 : List ℕ) → o0 ≡ 123 ∷ text → o1 ≡ o0 ++ key → o2 ≡ o1 ++ value → o2 ≡ 123 ∷ (text ++ (key ++ value))
joined text key value o0 o1 o2 e0 e1 e2 = rw (e2, e1, e0) (simp append_assoc)

-- a turn of the loop writes one more file
pub one_more : (files : List FileCoverage) (file : FileCoverage) (later : Bool) (o0 o1 o2 : List ℕ) →
    o0 ≡ 123 ∷ begun false files → later ≡ is_later false files → o1 ≡ o0 ++ key_text later file.path → o2 ≡ o1 ++ compact_text (file_data file) →
    o2 ≡ 123 ∷ begun false (files ++ file ∷ [])
one_more files file later o0 o1 o2 e0 comma e1 e2 =
    joined (begun false files) (key_text later file.path) (compact_text (file_data file)) o0 o1 o2 e0 e1 e2
    ∙ ap (λ c. 123 ∷ (begun false files ++ member_text c file.path (file_data file))) comma
    ∙ ap (λ text. 123 ∷ text) (sym (begun-more false files file))

-- the text of all files, in their order, is that of the map
pub all_written : (files : List FileCoverage) (o0 o1 : List ℕ) → AreInOrder files → o0 ≡ 123 ∷ begun false files → o1 ≡ o0 ++ 125 ∷ [] → o1 ≡ json_text files
all_written files o0 o1 ordered e0 e1 =
    e1 ∙ ap (λ text. text ++ 125 ∷ []) e0
    ∙ ap (λ text. 123 ∷ text) (sym (begun-end false files))
    ∙ ap (λ ms. compact_text (object ms)) (sym (by_key-in_turn files ordered))

-- lent files, as the files themselves
pub now_more : (xs : List (Bor FileCoverage)) (x : Bor FileCoverage) → map (λ file. file.now) (xs ++ x ∷ []) ≡ map (λ file. file.now) xs ++ x.now ∷ []
now_more [] x = refl
now_more (y ∷ ys) x = ap (λ rest. y.now ∷ rest) (now_more ys x)

-- the members after the first
pub begun-later : (files : List FileCoverage) → begun true files ≡ later_members files
begun-later [] = refl
begun-later (file ∷ files) = ap (λ rest. member_text true file.path (file_data file) ++ rest) (begun-later files)

-- the text of a map by its first member and the others
pub by_members : (first : FileCoverage) (files : List FileCoverage) → AreInOrder (first ∷ files) →
    (123 ∷ file_member false first) ++ (later_members files ++ 125 ∷ []) ≡ json_text (first ∷ files)
by_members first files ordered =
    ap (λ rest. (123 ∷ file_member false first) ++ (rest ++ 125 ∷ [])) (sym (begun-later files))
    ∙ sym (append_assoc (123 ∷ file_member false first) (begun true files) (125 ∷ []))
    ∙ all_written (first ∷ files) (123 ∷ begun false (first ∷ files)) (123 ∷ (begun false (first ∷ files) ++ 125 ∷ [])) ordered refl refl
