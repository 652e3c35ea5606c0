-- Values whose texts are UTF-8, whose numbers are whole and from 0 on, and whose objects have their members in order: as data, they tell themselves.
use Rattle.std.proofs.Common.{◌≡◌, ℕ, suc, ◌<◌, ◌^◌, ◌≤◌, List, [], ◌∷◌, map, fold, Option, Some, None, IfSome, codes, decimal, refl, sym, ap, ◌∙◌, arith}
use Rattle.std.specs.Ordering.{match_ordering}
use Rattle.std.specs.declared.cmp.Ordering.{Ordering}
use Rattle.std.specs.declared.cmp.Ordering.TheVariants.{Less, Equal, Greater}
use Rattle.std.specs.Str.{IsUtf8}
use Rattle.std.proofs.lemmas.Str.{IsUtf8-from_ascii}
use Rattle.std.proofs.lemmas.Fmt.{IsAscii-decimal}
use Rattle.json.proofs.Printed.Utf8.{IsUtf8-are_ascii}
use Rattle.serde_json.specs.Data.{Data, null, boolean, number, unsigned, negative, float, string, array, object, Items, no_items, item, Members, no_members, member, put, depth, items_depth, members_depth}
use Rattle.serde_json.specs.View.{items_of}
use Rattle.cov_object.specs.Branch.{BranchCoverage}
use Rattle.cov_object.specs.Json.{by_key, object_of, numbered, count_data, column_data, position_data, location_data, function_data, branch_data, path_counts_data, statements_data, statement_counts_data, functions_data, function_counts_data, branches_data, branch_counts_data, with_hash, with_source_map, file_data}
use Rattle.cov_object.specs.Numbered.{AreSmall}
use Rattle.cov_object.specs.SourceMapText.{data_of}
use Rattle.cov_object.specs.private.Formed.{IsPlace, IsLocated, IsStatement, IsFunction, ArePaths, IsBranch, EachThing, IsFormed}
use Rattle.cov_object.specs.declared.file.FileCoverage.{FileCoverage}
use Rattle.cov_object.specs.declared.file.FunctionCoverage.{FunctionCoverage}
use Rattle.cov_object.specs.declared.file.PathCoverage.{PathCoverage}
use Rattle.cov_object.specs.declared.location.Location.{Location}
use Rattle.cov_object.specs.declared.location.Position.{Position}
use Rattle.cov_object.proofs.DataForms.{put-depth}
use Rattle.js_value.specs.Functions.{name_units}
use Rattle.cov_expected.specs.Plain.{IsPlain, ArePlain, MembersArePlain, IsPlainMap}
use Rattle.cov_expected.specs.Told.{value_of, items_value, entries_of, nesting, item_nesting, member_nesting, IsNew, IsTellable, AreTellable, MembersAreTellable, json_of, items_json, members_json}
use Rattle.cov_expected.proofs.Texts.{text_back, paired}
use Rattle.cov_expected.proofs.Ordered.{less_apart, cmp, Entry, put_entry, Above, AreSorted, entries, sorted_back, sorted_put}

-- they tell themselves
mutual
  pub value_back : (d : Data) → IsPlain d → value_of (json_of d) ≡ d
  value_back null good = refl
  value_back (boolean b) good = refl
  value_back (number (unsigned n)) good = refl
  value_back (number (negative z)) good = absurd good
  value_back (number (float x)) good = absurd good
  value_back (string s) good = ap string (text_back s good)
  value_back (array ds) good = ap array (items_back ds good)
  value_back (object ms) good = ap (λ es. object (by_key es)) (members_back ms good.1) ∙ ap object (sorted_back ms good.0)

  items_back : (ds : Items) → ArePlain ds → items_value (items_json ds) ≡ ds
  items_back no_items good = refl
  items_back (item d ds) good = ap (λ x. item x (items_value (items_json ds))) (value_back d good.0) ∙ ap (item d) (items_back ds good.1)

  members_back : (ms : Members) → MembersArePlain ms → entries_of (members_json ms) ≡ entries ms
  members_back no_members good = refl
  members_back (member k d ms) good =
      ap (λ t. (t, value_of (json_of d)) ∷ entries_of (members_json ms)) (text_back k good.0)
      ∙ ap (λ x. (k, x) ∷ entries_of (members_json ms)) (value_back d good.1)
      ∙ ap (λ es. (k, d) ∷ es) (members_back ms good.2)

new_key : (k : List ℕ) (ms : Members) → IsUtf8 k → Above k ms → MembersArePlain ms → IsNew (name_units k) (members_json ms)
new_key k no_members utf8 above good = tt
new_key k (member l d ms) utf8 above good =
    ((λ same. less_apart k l above.0 (sym (text_back k utf8) ∙ same ∙ text_back l good.0)), new_key k ms utf8 above.1 good.2)

mutual
  pub tellable : (d : Data) → IsPlain d → IsTellable (json_of d)
  tellable null good = tt
  tellable (boolean b) good = tt
  tellable (number (unsigned n)) good = tt
  tellable (number (negative z)) good = tt
  tellable (number (float x)) good = tt
  tellable (string s) good = paired s good
  tellable (array ds) good = items_tellable ds good
  tellable (object ms) good = members_tellable ms good.0 good.1

  items_tellable : (ds : Items) → ArePlain ds → AreTellable (items_json ds)
  items_tellable no_items good = tt
  items_tellable (item d ds) good = (tellable d good.0, items_tellable ds good.1)

  members_tellable : (ms : Members) → AreSorted ms → MembersArePlain ms → MembersAreTellable (members_json ms)
  members_tellable no_members sorted good = tt
  members_tellable (member k d ms) sorted good =
      (paired k good.0, tellable d good.1, new_key k ms good.0 sorted.0 good.2, members_tellable ms sorted.1 good.2)

mutual
  pub nests : (d : Data) → nesting (json_of d) ≤ depth d
  nests null = omega arith
  nests (boolean b) = omega arith
  nests (number (unsigned n)) = omega arith
  nests (number (negative z)) = omega arith
  nests (number (float x)) = omega arith
  nests (string s) = omega arith
  nests (array ds) = omega (arith, items_nest ds)
  nests (object ms) = omega (arith, members_nest ms)

  items_nest : (ds : Items) → item_nesting (items_json ds) ≤ items_depth ds
  items_nest no_items = omega arith
  items_nest (item d ds) = omega (arith, nests d, items_nest ds)

  members_nest : (ms : Members) → member_nesting (members_json ms) ≤ members_depth ms
  members_nest no_members = omega arith
  members_nest (member k d ms) = omega (arith, nests d, members_nest ms)

-- ---- the data of files are such

pub record Value (most : ℕ) (d : Data) : Type 0 where
  pub good : IsPlain d
  pub within : depth d ≤ most

record Fits (most : ℕ) (ms : Members) : Type 0 where
  sorted : AreSorted ms
  good : MembersArePlain ms
  within : members_depth ms ≤ most

deeper : {d : Data} (a b : ℕ) → a ≤ b → Value a d → Value b d
deeper a b low v = record { good = v.good; within = omega (arith, low, v.within) }

good_by : (o : Ordering) (k l : List ℕ) (d e : Data) (ms rest : Members) → IsUtf8 k → IsPlain d → MembersArePlain (member l e ms) → MembersArePlain rest →
    MembersArePlain (match_ordering o (member k d (member l e ms)) (member l d ms) (member l e rest))
good_by Less k l d e ms rest key value are later = (key, value, are)
good_by Equal k l d e ms rest key value are later = (are.0, value, are.2)
good_by Greater k l d e ms rest key value are later = (are.0, are.1, later)

put_good : (k : List ℕ) (d : Data) (ms : Members) → IsUtf8 k → IsPlain d → MembersArePlain ms → MembersArePlain (put k d ms)
put_good k d no_members key value are = (key, value, tt)
put_good k d (member l e ms) key value are = good_by (cmp k l) k l d e ms (put k d ms) key value are (put_good k d ms key value are.2)

put_fits : (most : ℕ) (k : List ℕ) (d : Data) (ms : Members) → IsUtf8 k → Value most d → Fits most ms → Fits most (put k d ms)
put_fits most k d ms key value fits = record {
  sorted = sorted_put k d ms fits.sorted;
  good = put_good k d ms key value.good fits.good;
  within = omega (arith, put-depth k d ms, value.within, fits.within);
}

abbrev AllFit : ℕ → List Entry → Type 0
AllFit most [] = Unit {0}
AllFit most (e ∷ es) = IsUtf8 e.0 × Value most e.1 × AllFit most es

fold_fits : (most : ℕ) (es : List Entry) (ms : Members) → AllFit most es → Fits most ms → Fits most (fold put_entry ms es)
fold_fits most [] ms all fits = fits
fold_fits most (e ∷ es) ms all fits = fold_fits most es (put e.0 e.1 ms) all.2 (put_fits most e.0 e.1 ms all.0 all.1 fits)

none_fits : (most : ℕ) → Fits most no_members
none_fits most = record { sorted = tt; good = tt; within = omega arith }

entries_fit : (most : ℕ) (es : List Entry) → AllFit most es → Fits most (by_key es)
entries_fit most es all = fold_fits most es no_members all (none_fits most)

an_object : (most : ℕ) (ms : Members) → Fits most ms → Value (suc most) (object ms)
an_object most ms fits = record { good = (fits.sorted, fits.good); within = omega (arith, fits.within) }

of_entries : (most : ℕ) (es : List Entry) → AllFit most es → Value (suc most) (object_of es)
of_entries most es all = an_object most (by_key es) (entries_fit most es all)

count : (n : ℕ) → n < 2 ^ 53 → Value 0 (count_data n)
count n low = record { good = low; within = omega arith }

column : (c : Option ℕ) → IfSome c (λ n. n < 2 ^ 32) → Value 0 (column_data c)
column (Some c) low = count c (omega (arith, low))
column None low = record { good = tt; within = omega arith }

position : (p : Option Position) → IsPlace p → Value 1 (position_data p)
position (Some p) formed = of_entries 0 ((codes "line", count_data p.line) ∷ (codes "column", column_data p.column) ∷ [])
    (IsUtf8-are_ascii (codes "line") refl, count p.line (omega (arith, formed.1)), (IsUtf8-are_ascii (codes "column") refl, column p.column formed.2, tt))
position None formed = of_entries 0 [] tt

location : (l : Location) → IsLocated l → Value 2 (location_data l)
location l formed = of_entries 1 ((codes "start", position_data l.start) ∷ (codes "end", position_data l.end) ∷ [])
    (IsUtf8-are_ascii (codes "start") refl, position l.start formed.0, (IsUtf8-are_ascii (codes "end") refl, position l.end formed.1, tt))

abbrev EachValue : ℕ → List Data → Type 0
EachValue most [] = Unit {0}
EachValue most (d ∷ ds) = Value most d × EachValue most ds

items_good : (most : ℕ) (ds : List Data) → EachValue most ds → ArePlain (items_of ds)
items_good most [] each = tt
items_good most (d ∷ ds) each = (each.0.good, items_good most ds each.1)

items_low : (most : ℕ) (ds : List Data) → EachValue most ds → items_depth (items_of ds) ≤ most
items_low most [] each = omega arith
items_low most (d ∷ ds) each = omega (arith, each.0.within, items_low most ds each.1)

an_array : (most : ℕ) (ds : List Data) → EachValue most ds → Value (suc most) (array (items_of ds))
an_array most ds each = record { good = items_good most ds each; within = omega (arith, items_low most ds each) }

locations : (ps : List PathCoverage) → ArePaths ps → EachValue 2 (map (λ p. location_data p.location) ps)
locations [] formed = tt
locations (p ∷ ps) formed = (location p.location formed.0.0, locations ps formed.1)

counts : (ps : List PathCoverage) → ArePaths ps → EachValue 0 (map (λ p. count_data p.count) ps)
counts [] formed = tt
counts (p ∷ ps) formed = (count p.count formed.0.1, counts ps formed.1)

a_string : (s : List ℕ) (most : ℕ) → IsUtf8 s → Value most (string s)
a_string s most utf8 = record { good = utf8; within = omega arith }

function : (f : FunctionCoverage) → IsFunction f → Value 3 (function_data f)
function f formed = of_entries 2 ((codes "name", string f.name) ∷ (codes "decl", location_data f.declaration) ∷ (codes "loc", location_data f.location) ∷ [])
    (IsUtf8-are_ascii (codes "name") refl, a_string f.name 2 formed.3, (IsUtf8-are_ascii (codes "decl") refl, location f.declaration formed.0, (IsUtf8-are_ascii (codes "loc") refl, location f.location formed.1, tt)))

branch : (b : BranchCoverage) → IsBranch b → Value 4 (branch_data b)
branch b formed = of_entries 3 ((codes "loc", location_data b.location) ∷ (codes "type", string b.kind) ∷ (codes "locations", array (items_of (map (λ p. location_data p.location) b.paths))) ∷ []) (
  IsUtf8-are_ascii (codes "loc") refl,
  deeper 2 3 (omega arith) (location b.location formed.0),
  (
    IsUtf8-are_ascii (codes "type") refl,
    a_string b.kind 3 formed.2,
    (IsUtf8-are_ascii (codes "locations") refl, an_array 2 (map (λ p. location_data p.location) b.paths) (locations b.paths formed.1), tt),
  ),
)

path_counts : (b : BranchCoverage) → IsBranch b → Value 1 (path_counts_data b)
path_counts b formed = an_array 0 (map (λ p. count_data p.count) b.paths) (counts b.paths formed.1)

things : {T : Type 0} {P : T → Type 0} (most : ℕ) (f : T → Data) → ((x : T) → P x → Value most (f x)) → (xs : List (ℕ × T)) → EachThing P xs → AreSmall xs →
    AllFit most (map (λ thing. (decimal thing.0, f thing.1)) xs)
things most f value [] each small = tt
things most f value (x ∷ xs) each small =
    (IsUtf8-from_ascii (decimal x.0) (IsAscii-decimal x.0 (omega (arith, small.0))), value x.1 each.0, things most f value xs each.1 small.1)

all_things : {T : Type 0} {P : T → Type 0} (most : ℕ) (f : T → Data) → ((x : T) → P x → Value most (f x)) → suc most ≤ 5 → (xs : List (ℕ × T)) → EachThing P xs → AreSmall xs → Value 5 (numbered f xs)
all_things most f value low xs each small = deeper (suc most) 5 low (of_entries most (map (λ thing. (decimal thing.0, f thing.1)) xs) (things most f value xs each small))

hash_fits : (hash : Option (List ℕ)) (ms : Members) → IfSome hash IsUtf8 → Fits 5 ms → Fits 5 (with_hash hash ms)
hash_fits None ms utf8 fits = fits
hash_fits (Some hash) ms utf8 fits = put_fits 5 (codes "hash") (string hash) ms (IsUtf8-are_ascii (codes "hash") refl) (a_string hash 5 utf8) fits

abbrev file_entries : FileCoverage → List Entry
file_entries file =
    (codes "path", string file.path)
    ∷ (codes "statementMap", statements_data file.statements)
    ∷ (codes "s", statement_counts_data file.statements)
    ∷ (codes "fnMap", functions_data file.functions)
    ∷ (codes "f", function_counts_data file.functions)
    ∷ (codes "branchMap", branches_data file.branches)
    ∷ (codes "b", branch_counts_data file.branches)
    ∷ []

entries_value : (file : FileCoverage) → IsFormed file → AreSmall file.statements → AreSmall file.functions → AreSmall file.branches → AllFit 5 (file_entries file)
entries_value file formed few_statements few_functions few_branches = (
  IsUtf8-are_ascii (codes "path") refl,
  a_string file.path 5 formed.path_text,
  (
    IsUtf8-are_ascii (codes "statementMap") refl,
    all_things {P = IsStatement} 2 (λ s. location_data s.location) (λ s f. location s.location f.0) (omega arith) file.statements formed.statements few_statements,
    (
      IsUtf8-are_ascii (codes "s") refl,
      all_things {P = IsStatement} 0 (λ s. count_data s.count) (λ s f. count s.count f.1) (omega arith) file.statements formed.statements few_statements,
      (
        IsUtf8-are_ascii (codes "fnMap") refl,
        all_things {P = IsFunction} 3 function_data function (omega arith) file.functions formed.functions few_functions,
        (
          IsUtf8-are_ascii (codes "f") refl,
          all_things {P = IsFunction} 0 (λ f. count_data f.count) (λ f g. count f.count g.2) (omega arith) file.functions formed.functions few_functions,
          (
            IsUtf8-are_ascii (codes "branchMap") refl,
            all_things {P = IsBranch} 4 branch_data branch (omega arith) file.branches formed.branches few_branches,
            (
              IsUtf8-are_ascii (codes "b") refl,
              all_things {P = IsBranch} 1 path_counts_data path_counts (omega arith) file.branches formed.branches few_branches,
              tt,
            ),
          ),
        ),
      ),
    ),
  ),
)

map_fits : (map : Option (List ℕ)) (ms : Members) → IfSome map IsPlainMap → Fits 5 ms → Fits 5 (with_source_map map ms)
map_fits None ms plain fits = fits
map_fits (Some text) ms plain fits =
    put_fits 5 (codes "inputSourceMap") (data_of text) ms (IsUtf8-are_ascii (codes "inputSourceMap") refl) (record { good = plain.plain; within = plain.within }) fits

pub file_value : (file : FileCoverage) → IsFormed file → AreSmall file.statements → AreSmall file.functions → AreSmall file.branches → IfSome file.input_source_map IsPlainMap → Value 6 (file_data file)
file_value file formed few_statements few_functions few_branches plain =
    let ms = with_hash file.hash (by_key (file_entries file)) in
    an_object 5 (with_source_map file.input_source_map ms) (map_fits file.input_source_map ms plain
    (hash_fits file.hash (by_key (file_entries file)) formed.hash_text
    (entries_fit 5 (file_entries file) (entries_value file formed few_statements few_functions few_branches))))
