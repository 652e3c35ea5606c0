-- What is kept of a file's members tells the file.
use Rattle.std.proofs.Common.{◌≡◌, ℕ, ◌+◌, ◌==◌, ◌&&◌, List, [], ◌∷◌, length, Bool, true, false, cond, bytes_eq, Option, Some, None, option_map, option_and_then, Result, Ok, Err, OnErr, codes, refl, sym, ap, ap₂, ◌∙◌}
use Rattle.std.proofs.Math.Dec.{eqb-suc-zero, eqb-zero-suc, eqb-suc-suc}
use Rattle.std.proofs.lemmas.Slice.Eq.{bytes_eq-Decides}
use Rattle.json.specs.Token.{Token}
use Rattle.json.specs.Json.{parse_map}
use Rattle.serde_json.specs.Data.{Data, null, boolean, number, string, array, object, Items, no_items, item, Members, put}
use Rattle.serde_json.specs.Find.{get, get_member, as_str, as_array, as_object}
use Rattle.serde_json.proofs.Views.{get_member-put, get_member-put_other}
use Rattle.cov_object.specs.Branch.{BranchCoverage}
use Rattle.cov_object.specs.declared.fault.CoverageFault.TheVariants.{BadMember}
use Rattle.cov_object.specs.declared.file.StatementCoverage.{StatementCoverage}
use Rattle.cov_object.specs.declared.file.FunctionCoverage.{FunctionCoverage}
use Rattle.cov_object.specs.declared.file.PathCoverage.{PathCoverage}
use Rattle.cov_object.specs.declared.parts.FileParts.{FileParts}
use Rattle.cov_object.specs.declared.parts.MapParts.{MapParts}
use Rattle.cov_object.specs.Read as spec
use Rattle.cov_object.specs.Read.{after, all_fit, all_counted, thing_with, counts_or_fault, with_described, count_of, text_in, entries_in, by_id}
use Rattle.cov_object.specs.private.ByMember.{left, kept, entries_kept, value_kept, all_told, fits_any, counts_of, path_counts_of, paths_fit, paths_with, branch_kept, is_key, no_parts, maps_of, parts_of, maps_with, with_member, path_told, things_told, numbered_told, hash_told, source_map_told, origin_told, file_told}
use Rattle.cov_object.proofs.ByFile.{parse_map-some}

-- ---- a map and its counts

module _ {T : Type 0} where
  described-told : (f : Data → Option T) (es : List (ℕ × Data)) → spec.described f es ≡ all_told (kept f es)
  described-told f [] = refl
  described-told f (e ∷ es) = ap (λ o. option_and_then (λ thing. option_map (λ things. (e.0, thing) ∷ things) o) (f e.1)) (described-told f es)

module _ {T C : Type 0} (tell : Data → C) where
  all_fit-kept : (of_data : T → Data → Bool) (fits : T → C → Bool) → ((t : T) (d : Data) → of_data t d ≡ fits t (tell d)) →
      (things : List (ℕ × T)) (es : List (ℕ × Data)) → all_fit of_data things es ≡ all_fit fits things (kept tell es)
  all_fit-kept of_data fits same [] [] = refl
  all_fit-kept of_data fits same [] (e ∷ es) = refl
  all_fit-kept of_data fits same (t ∷ things) [] = refl
  all_fit-kept of_data fits same (t ∷ things) (e ∷ es) =
      ap₂ (λ a b. (t.0 == e.0) && a && b) (same t.1 e.1) (all_fit-kept of_data fits same things es)

  all_counted-kept : (of_data : T → Data → Result T (Option ℕ)) (counted : T → C → Result T (Option ℕ)) → ((t : T) (d : Data) → of_data t d ≡ counted t (tell d)) →
      (things : List (ℕ × T)) (es : List (ℕ × Data)) → all_counted of_data things es ≡ all_counted counted things (kept tell es)
  all_counted-kept of_data counted same [] es = refl
  all_counted-kept of_data counted same (t ∷ things) [] = refl
  all_counted-kept of_data counted same (t ∷ things) (e ∷ es) =
      ap₂ (thing_with t.0) (same t.1 e.1) (all_counted-kept of_data counted same things es)

  record Counts (fits_data : T → Data → Bool) (counts_data : T → Data → Result T (Option ℕ)) (fits : T → C → Bool) (counted : T → C → Result T (Option ℕ)) : Type 0 where
    fitting : (t : T) (d : Data) → fits_data t d ≡ fits t (tell d)
    counting : (t : T) (d : Data) → counts_data t d ≡ counted t (tell d)

  module _ (path descriptions counts : List ℕ) (read : Data → Option T) (fits_data : T → Data → Bool) (counts_data : T → Data → Result T (Option ℕ))
      (fits : T → C → Bool) (counted : T → C → Result T (Option ℕ)) (same : Counts fits_data counts_data fits counted) where
    told-described : (things : Option (List (ℕ × T))) (values : Option (List (ℕ × Data))) →
        with_described path descriptions counts fits_data counts_data things values ≡ with_described path descriptions counts fits counted things (option_map (kept tell) values)
    told-described None values = refl
    told-described (Some things) None = refl
    told-described (Some things) (Some values) =
        ap₂ (λ b r. cond b (counts_or_fault path descriptions counts r) (Err (BadMember path counts)))
        (all_fit-kept fits_data fits same.fitting things values) (all_counted-kept counts_data counted same.counting things values)

    told-entries : (things values : Option (List (ℕ × Data))) →
        with_described path descriptions counts fits_data counts_data (option_and_then (spec.described read) things) values
        ≡ things_told path descriptions counts fits counted (option_map (kept read) things) (option_map (kept tell) values)
    told-entries None values = told-described None values
    told-entries (Some es) values =
        told-described (spec.described read es) values
        ∙ ap (λ things. with_described path descriptions counts fits counted things (option_map (kept tell) values)) (described-told read es)

object_entries : {E : Type 0} (tell : Data → E) (o : Option Members) → option_and_then (entries_kept tell) o ≡ option_map (kept tell) (option_and_then (λ ms. by_id ms []) o)
object_entries tell None = refl
object_entries tell (Some ms) = refl

member_entries : {E : Type 0} (tell : Data → E) (o : Option Data) →
    option_and_then (value_kept tell) o ≡ option_map (kept tell) (option_and_then (λ ms. by_id ms []) (option_and_then as_object o))
member_entries tell None = refl
member_entries tell (Some d) = object_entries tell (as_object d)

module _ {T C : Type 0} (tell : Data → C) (path descriptions counts : List ℕ) (read : Data → Option T) (fits_data : T → Data → Bool) (counts_data : T → Data → Result T (Option ℕ))
    (fits : T → C → Bool) (counted : T → C → Result T (Option ℕ)) (same : Counts tell fits_data counts_data fits counted) (file : Data) where
  -- the things of a file, of what is kept of its members
  things-told : things_told path descriptions counts fits counted (option_and_then (value_kept read) (get descriptions file)) (option_and_then (value_kept tell) (get counts file))
      ≡ spec.things_of path descriptions counts read fits_data counts_data file
  things-told =
      ap₂ (things_told path descriptions counts fits counted) (member_entries read (get descriptions file)) (member_entries tell (get counts file))
      ∙ sym (told-entries tell path descriptions counts read fits_data counts_data fits counted same (entries_in descriptions file) (entries_in counts file))

-- ---- the counts of a branch's paths

paths-fit : (paths : List PathCoverage) (values : Items) → spec.items_fit paths values ≡ (length (counts_of values) == length paths)
paths-fit [] no_items = refl
paths-fit [] (item d ds) = sym (eqb-suc-zero (length (counts_of ds)))
paths-fit (path ∷ paths) no_items = sym (eqb-zero-suc (length paths))
paths-fit (path ∷ paths) (item d ds) = paths-fit paths ds ∙ sym (eqb-suc-suc (length (counts_of ds)) (length paths))

list-fits : (branch : BranchCoverage) (values : Option Items) → spec.list_fits branch.paths values ≡ paths_fit branch (option_map counts_of values)
list-fits branch None = refl
list-fits branch (Some values) = paths-fit branch.paths values

paths-counted : (place : ℕ) (paths : List PathCoverage) (values : Items) → spec.paths_counted place paths values ≡ paths_with place paths (counts_of values)
paths-counted place [] values = refl
paths-counted place (path ∷ paths) no_items = refl
paths-counted place (path ∷ paths) (item d ds) = ap (spec.path_with place path (count_of d)) (paths-counted (place + 1) paths ds)

list-counted : (branch : BranchCoverage) (values : Option Items) →
    spec.branch_with branch (spec.paths_counted 0 branch.paths (spec.items_in values)) ≡ branch_kept branch (option_map counts_of values)
list-counted branch None = ap (spec.branch_with branch) (paths-counted 0 branch.paths no_items)
list-counted branch (Some values) = ap (spec.branch_with branch) (paths-counted 0 branch.paths values)

statement-counts : Counts count_of spec.fits_always spec.statement_counted fits_any spec.statement_with
statement-counts = record { fitting = λ t d. refl; counting = λ t d. refl }

function-counts : Counts count_of spec.fits_always spec.function_counted fits_any spec.function_with
function-counts = record { fitting = λ t d. refl; counting = λ t d. refl }

branch-counts : Counts path_counts_of spec.branch_fits spec.branch_counted paths_fit branch_kept
branch-counts = record { fitting = λ t d. list-fits t (as_array d); counting = λ t d. list-counted t (as_array d) }

-- ---- a file

path-told : (key : List ℕ) (text : Option (List ℕ)) → path_told key (is_key key text) ≡ spec.path_or_fault key text
path-told key None = refl
path-told key (Some text) = refl

hash-told : (path : List ℕ) (value : Option Data) → hash_told path (option_map as_str value) ≡ spec.hash_or_fault path value
hash-told path None = refl
hash-told path (Some d) = refl

source_map-told : (path : List ℕ) (value : Option Data) → source_map_told path (option_map spec.source_map_text_of value) ≡ spec.source_map_or_fault path value
source_map-told path None = refl
source_map-told path (Some d) = refl

numbered-told : (path : List ℕ) (file : Data) → numbered_told path (maps_of file) ≡ spec.numbered_of path file
numbered-told path file = λ i.
    after (things-told count_of path (codes "statementMap") (codes "s") spec.statement_of spec.fits_always spec.statement_counted fits_any spec.statement_with statement-counts file i) (λ statements.
    after (things-told count_of path (codes "fnMap") (codes "f") spec.function_of spec.fits_always spec.function_counted fits_any spec.function_with function-counts file i) (λ functions.
    after (things-told path_counts_of path (codes "branchMap") (codes "b") spec.branch_of spec.branch_fits spec.branch_counted paths_fit branch_kept branch-counts file i) (λ branches.
    Ok (statements, functions, branches))))

origin-told : (path : List ℕ) (file : Data) →
    origin_told path (option_map as_str (get (codes "hash") file)) (option_map spec.source_map_text_of (get (codes "inputSourceMap") file)) ≡ spec.origin_of path file
origin-told path file = λ i.
    after (hash-told path (get (codes "hash") file) i) (λ hash.
    after (source_map-told path (get (codes "inputSourceMap") file) i) (λ source_map.
    Ok (hash, source_map)))

-- what is kept of a file's value tells the file
pub file-told : (key : List ℕ) (file : Data) → file_told key (parts_of key file) ≡ spec.file_of key file
file-told key file = λ i.
    after (path-told key (text_in (codes "path") file) i) (λ path.
    after (numbered-told path file i) (λ numbered.
    after (origin-told path file i) (λ origin.
    Ok (record { path = path; hash = origin.0; input_source_map = origin.1; statements = numbered.0; functions = numbered.1; branches = numbered.2 }))))

-- ---- members one after another

chosen : (b : Bool) (name k : List ℕ) (d : Data) (ms : Members) → bytes_eq k name ≡ b → get_member name (put k d ms) ≡ cond b (Some d) (get_member name ms)
chosen true name k d ms is = let same : k ≡ name = (bytes_eq-Decides k name).0 is in ap (λ n. get_member n (put k d ms)) (sym same) ∙ get_member-put k d ms
chosen false name k d ms is = get_member-put_other name k d ms (λ e. absurd (let same = (bytes_eq-Decides k name).1 (sym e) in cc))

through : {A B : Type 0} (f : A → B) (b : Bool) (x y : A) → f (cond b x y) ≡ cond b (f x) (f y)
through f true x y = refl
through f false x y = refl

module _ {X : Type 0} (f : Option Data → X) (k : List ℕ) (d : Data) (ms : Members) (name : List ℕ) where
  part-put : f (get_member name (put k d ms)) ≡ cond (bytes_eq k name) (f (Some d)) (f (get_member name ms))
  part-put = ap f (chosen (bytes_eq k name) name k d ms refl) ∙ through f (bytes_eq k name) (Some d) (get_member name ms)

-- with one member more
pub parts-put : (key k : List ℕ) (d : Data) (ms : Members) → parts_of key (object (put k d ms)) ≡ with_member key k d (parts_of key (object ms))
parts-put key k d ms = λ i. record {
  has_path = part-put (λ o. is_key key (option_and_then as_str o)) k d ms (codes "path") i;
  maps = record {
    statement_map = part-put (option_and_then (value_kept spec.statement_of)) k d ms (codes "statementMap") i;
    statement_counts = part-put (option_and_then (value_kept count_of)) k d ms (codes "s") i;
    function_map = part-put (option_and_then (value_kept spec.function_of)) k d ms (codes "fnMap") i;
    function_counts = part-put (option_and_then (value_kept count_of)) k d ms (codes "f") i;
    branch_map = part-put (option_and_then (value_kept spec.branch_of)) k d ms (codes "branchMap") i;
    branch_counts = part-put (option_and_then (value_kept path_counts_of)) k d ms (codes "b") i;
  };
  hash = part-put (option_map as_str) k d ms (codes "hash") i;
  source_map = part-put (option_map spec.source_map_text_of) k d ms (codes "inputSourceMap") i;
}

-- a value that is no object has no members
pub parts-none : (key : List ℕ) (d : Data) → as_object d ≡ None → parts_of key d ≡ no_parts
parts-none key null e = refl
parts-none key (boolean b) e = refl
parts-none key (number n) e = refl
parts-none key (string s) e = refl
parts-none key (array ds) e = refl
parts-none key (object ms) e = absurd (cc)

-- ---- what was read, under a function

pub left-some : {A : Type 0} (o : Option (A × List Token)) (ts : List Token) → left o ≡ Some ts → (a : A) × (o ≡ Some (a, ts))
left-some None ts e = absurd (cc)
left-some (Some read) ts e = let same : read.1 ≡ ts = cc in (read.0, ap (λ rest. Some (read.0, rest)) same)

pub left-none : {A : Type 0} (o : Option (A × List Token)) → left o ≡ None → o ≡ None
left-none None e = refl
left-none (Some read) e = absurd (cc)

pub left-mapped : {A B : Type 0} (f : A → B) (o : Option (A × List Token)) → left (parse_map f o) ≡ left o
left-mapped f None = refl
left-mapped f (Some read) = refl

-- what a function gives of what was read, where it is known under another
pub mapped : {A B C : Type 0} (f : A → B) (g : B → C) (h : A → C) (o : Option (A × List Token)) (b : B) (ts : List Token) → ((a : A) → h a ≡ g (f a)) →
    parse_map f o ≡ Some (b, ts) → parse_map h o ≡ Some (g b, ts)
mapped f g h o b ts same e =
    let read = parse_map-some f o b ts e in
    ap (parse_map h) read.1 ∙ ap (λ value. Some (value, ts)) (same read.0 ∙ ap g read.2)

-- one function after another
pub twice : {A B C : Type 0} (f : A → B) (g : B → C) (o : Option (A × List Token)) → parse_map g (parse_map f o) ≡ parse_map (λ a. g (f a)) o
twice f g None = refl
twice f g (Some read) = refl

-- ---- a member of each name

pub with-path : (key name : List ℕ) (parts : FileParts) → name ≡ codes "path" → (d : Data) →
    with_member key name d parts ≡ record { has_path = is_key key (as_str d); maps = parts.maps; hash = parts.hash; source_map = parts.source_map }
with-path key name parts is d = ap (λ n. with_member key n d parts) is

pub with-hash : (key name : List ℕ) (parts : FileParts) → name ≡ codes "hash" → (d : Data) →
    with_member key name d parts ≡ record { has_path = parts.has_path; maps = parts.maps; hash = Some (as_str d); source_map = parts.source_map }
with-hash key name parts is d = ap (λ n. with_member key n d parts) is

pub with-inputSourceMap : (key name : List ℕ) (parts : FileParts) → name ≡ codes "inputSourceMap" → (d : Data) →
    with_member key name d parts ≡ record { has_path = parts.has_path; maps = parts.maps; hash = parts.hash; source_map = Some (spec.source_map_text_of d) }
with-inputSourceMap key name parts is d = ap (λ n. with_member key n d parts) is

abbrev pub with_statement_map : MapParts → Option (List (ℕ × Option StatementCoverage)) → MapParts
with_statement_map maps entries = record { statement_map = entries; statement_counts = maps.statement_counts; function_map = maps.function_map; function_counts = maps.function_counts; branch_map = maps.branch_map; branch_counts = maps.branch_counts }

pub with-statementMap : (name : List ℕ) (maps : MapParts) → name ≡ codes "statementMap" → (d : Data) → maps_with name d maps ≡ with_statement_map maps (value_kept spec.statement_of d)
with-statementMap name maps is d = ap (λ n. maps_with n d maps) is

abbrev pub with_statement_counts : MapParts → Option (List (ℕ × Option ℕ)) → MapParts
with_statement_counts maps entries = record { statement_map = maps.statement_map; statement_counts = entries; function_map = maps.function_map; function_counts = maps.function_counts; branch_map = maps.branch_map; branch_counts = maps.branch_counts }

pub with-s : (name : List ℕ) (maps : MapParts) → name ≡ codes "s" → (d : Data) → maps_with name d maps ≡ with_statement_counts maps (value_kept count_of d)
with-s name maps is d = ap (λ n. maps_with n d maps) is

abbrev pub with_function_map : MapParts → Option (List (ℕ × Option FunctionCoverage)) → MapParts
with_function_map maps entries = record { statement_map = maps.statement_map; statement_counts = maps.statement_counts; function_map = entries; function_counts = maps.function_counts; branch_map = maps.branch_map; branch_counts = maps.branch_counts }

pub with-fnMap : (name : List ℕ) (maps : MapParts) → name ≡ codes "fnMap" → (d : Data) → maps_with name d maps ≡ with_function_map maps (value_kept spec.function_of d)
with-fnMap name maps is d = ap (λ n. maps_with n d maps) is

abbrev pub with_function_counts : MapParts → Option (List (ℕ × Option ℕ)) → MapParts
with_function_counts maps entries = record { statement_map = maps.statement_map; statement_counts = maps.statement_counts; function_map = maps.function_map; function_counts = entries; branch_map = maps.branch_map; branch_counts = maps.branch_counts }

pub with-f : (name : List ℕ) (maps : MapParts) → name ≡ codes "f" → (d : Data) → maps_with name d maps ≡ with_function_counts maps (value_kept count_of d)
with-f name maps is d = ap (λ n. maps_with n d maps) is

abbrev pub with_branch_map : MapParts → Option (List (ℕ × Option BranchCoverage)) → MapParts
with_branch_map maps entries = record { statement_map = maps.statement_map; statement_counts = maps.statement_counts; function_map = maps.function_map; function_counts = maps.function_counts; branch_map = entries; branch_counts = maps.branch_counts }

pub with-branchMap : (name : List ℕ) (maps : MapParts) → name ≡ codes "branchMap" → (d : Data) → maps_with name d maps ≡ with_branch_map maps (value_kept spec.branch_of d)
with-branchMap name maps is d = ap (λ n. maps_with n d maps) is

abbrev pub with_branch_counts : MapParts → Option (List (ℕ × Option (List (Option ℕ)))) → MapParts
with_branch_counts maps entries = record { statement_map = maps.statement_map; statement_counts = maps.statement_counts; function_map = maps.function_map; function_counts = maps.function_counts; branch_map = maps.branch_map; branch_counts = entries }

pub with-b : (name : List ℕ) (maps : MapParts) → name ≡ codes "b" → (d : Data) → maps_with name d maps ≡ with_branch_counts maps (value_kept path_counts_of d)
with-b name maps is d = ap (λ n. maps_with n d maps) is

differs : (b : Bool) (xs ys : List ℕ) → bytes_eq xs ys ≡ b → (xs ≡ ys → ⊥) → b ≡ false
differs true xs ys e other = absurd (other ((bytes_eq-Decides xs ys).0 e))
differs false xs ys e other = refl

unchanged : {X : Type 0} (name key : List ℕ) (x y : X) → (name ≡ key → ⊥) → cond (bytes_eq name key) x y ≡ y
unchanged name key x y other = ap (λ b. cond b x y) (differs (bytes_eq name key) name key refl other)

abbrev pub with_maps : FileParts → MapParts → FileParts
with_maps parts maps = record { has_path = parts.has_path; maps = maps; hash = parts.hash; source_map = parts.source_map }

-- a member of another name changes the maps alone
pub with-map : (key name : List ℕ) (parts : FileParts) → (name ≡ codes "path" → ⊥) → (name ≡ codes "hash" → ⊥) → (name ≡ codes "inputSourceMap" → ⊥) → (d : Data) →
    with_member key name d parts ≡ with_maps parts (maps_with name d parts.maps)
with-map key name parts path hash source_map d = λ i. record {
  has_path = unchanged name (codes "path") (is_key key (as_str d)) parts.has_path path i;
  maps = maps_with name d parts.maps;
  hash = unchanged name (codes "hash") (Some (as_str d)) parts.hash hash i;
  source_map = unchanged name (codes "inputSourceMap") (Some (spec.source_map_text_of d)) parts.source_map source_map i;
}

-- a member that isn't known changes none
pub with-other : (name : List ℕ) (maps : MapParts) → (name ≡ codes "statementMap" → ⊥) → (name ≡ codes "s" → ⊥) → (name ≡ codes "fnMap" → ⊥) → (name ≡ codes "f" → ⊥) →
    (name ≡ codes "branchMap" → ⊥) → (name ≡ codes "b" → ⊥) → (d : Data) → maps_with name d maps ≡ maps
with-other name maps statement_map s fn_map f branch_map b d = λ i. record {
  statement_map = unchanged name (codes "statementMap") (value_kept spec.statement_of d) maps.statement_map statement_map i;
  statement_counts = unchanged name (codes "s") (value_kept count_of d) maps.statement_counts s i;
  function_map = unchanged name (codes "fnMap") (value_kept spec.function_of d) maps.function_map fn_map i;
  function_counts = unchanged name (codes "f") (value_kept count_of d) maps.function_counts f i;
  branch_map = unchanged name (codes "branchMap") (value_kept spec.branch_of d) maps.branch_map branch_map i;
  branch_counts = unchanged name (codes "b") (value_kept path_counts_of d) maps.branch_counts b i;
}

-- a value that is no object, read and found to be none
pub none-read : (key : List ℕ) (o : Option (Data × List Token)) (ts : List Token) → parse_map as_object o ≡ Some (None, ts) → parse_map (parts_of key) o ≡ Some (no_parts, ts)
none-read key o ts e =
    let read = parse_map-some as_object o None ts e in
    ap (parse_map (parts_of key)) read.1 ∙ ap (λ parts. Some (parts, ts)) (parts-none key read.0 read.2)

pub none-kept : {E : Type 0} (tell : Data → E) (o : Option (Data × List Token)) (ts : List Token) → parse_map as_object o ≡ Some (None, ts) → parse_map (value_kept tell) o ≡ Some (None, ts)
none-kept tell o ts e =
    let read = parse_map-some as_object o None ts e in
    ap (parse_map (value_kept tell)) read.1 ∙ ap (λ members. Some (option_and_then (entries_kept tell) members, ts)) read.2

-- whatever the result, where this holds
pub on_err-any : {T E P : Type 0} (r : Result T E) → P → OnErr r P
on_err-any (Ok found) p = tt
on_err-any (Err fault) p = p
