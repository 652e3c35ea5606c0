-- The counters of accepted sources are as they are asked for.
use Rattle.std.proofs.Common.{◌≡◌, ◌≢◌, ℕ, zero, suc, ◌+◌, ◌-◌, ◌^◌, ◌<◌, ◌≤◌, Bool, true, false, IsTrue, nat_lt, List, [], ◌∷◌, ◌++◌, length, map, Option, Some, None, codes, if◌then◌else◌, refl, sym, ap, ◌∙◌, subst, arith, ltb-true}
use Rattle.std.specs.Prelude.{bytes_eq, slice_get, option_and_then}
use Rattle.std.specs.List.{enumerate_from}
use Rattle.std.specs.Str.{chars}
use Rattle.std.proofs.lemmas.Bool.{and_parts}
use Rattle.std.proofs.lemmas.Option.{slice_get_within}
use Rattle.sha1.specs.Sha1.{sha1}
use Rattle.js_terms.specs.Mark.{Mark}
use Rattle.js_terms.specs.declared.place.Loc.{Loc}
use Rattle.js_terms.specs.declared.construct.Construct.{Construct}
use Rattle.js_terms.specs.declared.construct.Construct.TheVariants as construct
use Rattle.js_terms.specs.declared.construct.ConstructKind.{ConstructKind}
use Rattle.js_terms.specs.declared.construct.ConstructKind.TheVariants as construct_kind
use Rattle.js_tree.specs.Entered.{times_placed}
use Rattle.js_tree.specs.Linked.{Counts, after_one}
use Rattle.js_tree.specs.Unmarked.{unmarked_file}
use Rattle.js_walk.specs.Constructs.{constructs_file}
use Rattle.js_scopes.specs.Mentions.{mentions_file}
use Rattle.js_scopes.specs.Names.{names_of}
use Rattle.js_value.specs.Functions.{name_units}
use Rattle.js_meaning.specs.Program.{Source, Sources, from}
use Rattle.js_meaning.specs.Counted.{after, numbered}
use Rattle.js_suits.specs.Laws.{IsConstruct, has_construct, is_construct, paths_of, Inside, MarksInside}
use Rattle.js_value.specs.Realm.{opening}
use Rattle.js_lockstep.specs.Worlds.{root}
use Rattle.js_counter.specs.First.{hash_, Bare}
use Rattle.js_counter.specs.Represents.{Json, Text}
use Rattle.js_counter.specs.Literals.{data_of}
use Rattle.js_counter.specs.Steady.{index_key}
use Rattle.js_counted.specs.Files.{way}
use Rattle.js_counted.specs.Numbers.{json_child, number_in, IsCountable}
use Rattle.js_counted.specs.Program.{is_counted}
use Rattle.js_bounds.specs.Bounds.{weights}
use Rattle.cov_hash.specs.Hash.{hash_text}
use Rattle.cov_maps.specs.Located.{location_at}
use Rattle.cov_maps.specs.Zero.{spelling_of, zero_path, zero_statements, zero_functions, zero_branches, zero_file, with_map}
use Rattle.cov_object.specs.Branch.{BranchCoverage, settled}
use Rattle.cov_object.specs.Json.{count_data, path_counts_data, statement_counts_data, function_counts_data, branch_counts_data, file_data}
use Rattle.cov_object.specs.declared.file.FunctionCoverage.{FunctionCoverage}
use Rattle.cov_object.specs.declared.file.StatementCoverage.{StatementCoverage}
use Rattle.cov_object.specs.declared.location.Location.{Location}
use Rattle.cov_rewritten.specs.Preamble.{json_string}
use Rattle.cov_preamble.specs.Name.{in_base_36, number_of, is_among, apart, cov_name}
use Rattle.cov_suits.specs.Suited.{own_name, names}
use Rattle.cov_expected.specs.Told.{text_of, json_of}
use Rattle.cov_expected.proofs.Texts.{text_back}
use Rattle.cov_expected.proofs.Ordered.{unequal}
use Rattle.cov_counted.specs.Accepted.{Content, AreAccepted, HavePaths, path_of, zero_of, HaveLiterals, files_of, NumbersFirst, AcceptedPrepared}
use Rattle.cov_counted.proofs.Hexadecimal.{hash_utf8}
use Rattle.cov_counted.proofs.Inherited.{none_ends_so, no_coverage}
use Rattle.cov_counted.proofs.JsonUnits.{spells_units}
use Rattle.cov_counted.proofs.Tellable.{Bounded, Laws, bounded, prints, statements_few, functions_few, branches_few}
use Rattle.cov_counted.proofs.Zeros.{found, zero_count}

-- ---- names

begins : (more : ℕ) (cs : List ℕ) (names : List (List ℕ)) → (ds : List ℕ) × (apart more (codes "cov_" ++ cs) names ≡ codes "cov_" ++ ds)
begins zero cs names = (cs, refl)
begins (suc more) cs names = by (is_among (codes "cov_" ++ cs) names) (begins more (cs ++ 0x5F ∷ []) names)
  where
    by : (b : Bool) → ((ds : List ℕ) × (apart more (codes "cov_" ++ (cs ++ 0x5F ∷ [])) names ≡ codes "cov_" ++ ds)) →
        (ds : List ℕ) × ((if b then apart more ((codes "cov_" ++ cs) ++ 0x5F ∷ []) names else codes "cov_" ++ cs) ≡ codes "cov_" ++ ds)
    by false rest = (cs, refl)
    by true rest = rest

named : (path : List ℕ) (names : List (List ℕ)) → (ds : List ℕ) × (cov_name path names ≡ codes "cov_" ++ ds)
named path names = begins (length names) (in_base_36 (number_of (sha1 path))) names

own_named : (o : Option Source) → (ds : List ℕ) × (own_name o ≡ codes "cov_" ++ ds)
own_named None = named [] []
own_named (Some source) = named source.path (names_of (mentions_file source.tree))

-- ---- the file of a number

there : (o : Option Source) → elim o [ None ↦ false | Some source ↦ source.counted ] ≡ true → (source : Source) × (o ≡ Some source)
there None h = absurd (cc)
there (Some source) h = (source, refl)

-- ---- the members of a file's data

module _ (path hash : List ℕ) (xs : List Construct) where
  abbrev zero_data : Option (List ℕ) → Json
  zero_data map = json_of (file_data (with_map map (zero_file path hash xs)))

  child_hash : (map : Option (List ℕ)) → json_child (name_units hash_) (zero_data map) ≡ Some (Text (name_units hash))
  unfolding chars
  child_hash None = refl
  child_hash (Some text) = refl

  child_statements : (map : Option (List ℕ)) → json_child (name_units (codes "s")) (zero_data map) ≡ Some (json_of (statement_counts_data (enumerate_from 0 (zero_statements xs))))
  unfolding chars
  child_statements None = refl
  child_statements (Some text) = refl

  child_functions : (map : Option (List ℕ)) → json_child (name_units (codes "f")) (zero_data map) ≡ Some (json_of (function_counts_data (enumerate_from 0 (zero_functions xs))))
  unfolding chars
  child_functions None = refl
  child_functions (Some text) = refl

  child_branches : (map : Option (List ℕ)) → json_child (name_units (codes "b")) (zero_data map) ≡ Some (json_of (branch_counts_data (enumerate_from 0 (zero_branches xs))))
  unfolding chars
  child_branches None = refl
  child_branches (Some text) = refl

hash_there : (content : Content) (o : Option Source) → json_child (name_units hash_) (json_of (file_data (zero_of content o))) ≡ Some (Text (name_units (hash_text content.bytes)))
hash_there content None = child_hash [] (hash_text content.bytes) [] content.map
hash_there content (Some source) = child_hash source.path (hash_text content.bytes) (constructs_file source.tree) content.map

-- ---- each mark has a zero

taken : {T : Type 0} (ys : List T) (n : ℕ) → n < length ys → (y : T) × (slice_get ys n ≡ Some y)
taken [] n low = absurd (omega (arith, low))
taken (y ∷ ys) zero low = (y, refl)
taken (y ∷ ys) (suc n) low = taken ys n (omega (arith, low))

statements_after : (c : Counts) (xs : List Construct) → (after c xs).statements ≡ c.statements + length (zero_statements xs)
statements_after c [] = omega arith
statements_after c (construct.Statement loc ∷ xs) = let r = statements_after (after_one construct_kind.Statement c) xs in omega (arith, r)
statements_after c (construct.Function name declared body ∷ xs) = statements_after (after_one construct_kind.Function c) xs
statements_after c (construct.Branch kind loc paths ∷ xs) = statements_after (after_one construct_kind.Branch c) xs

functions_after : (c : Counts) (xs : List Construct) → (after c xs).functions ≡ c.functions + length (zero_functions xs)
functions_after c [] = omega arith
functions_after c (construct.Statement loc ∷ xs) = functions_after (after_one construct_kind.Statement c) xs
functions_after c (construct.Function name declared body ∷ xs) = let r = functions_after (after_one construct_kind.Function c) xs in omega (arith, r)
functions_after c (construct.Branch kind loc paths ∷ xs) = functions_after (after_one construct_kind.Branch c) xs

zero_statement : (xs : List Construct) (n : ℕ) (s : StatementCoverage) → slice_get (zero_statements xs) n ≡ Some s → s.count ≡ 0
zero_statement [] n s is = absurd (cc)
zero_statement (construct.Statement loc ∷ xs) zero s is = ap (λ (o : Option StatementCoverage). elim o [ None ↦ 0 | Some s ↦ s.count ]) (sym is)
zero_statement (construct.Statement loc ∷ xs) (suc n) s is = zero_statement xs n s is
zero_statement (construct.Function name declared body ∷ xs) n s is = zero_statement xs n s is
zero_statement (construct.Branch kind loc paths ∷ xs) n s is = zero_statement xs n s is

zero_function : (xs : List Construct) (n : ℕ) (f : FunctionCoverage) → slice_get (zero_functions xs) n ≡ Some f → f.count ≡ 0
zero_function [] n f is = absurd (cc)
zero_function (construct.Statement loc ∷ xs) n f is = zero_function xs n f is
zero_function (construct.Function name declared body ∷ xs) zero f is = ap (λ (o : Option FunctionCoverage). elim o [ None ↦ 0 | Some f ↦ f.count ]) (sym is)
zero_function (construct.Function name declared body ∷ xs) (suc n) f is = zero_function xs n f is
zero_function (construct.Branch kind loc paths ∷ xs) n f is = zero_function xs n f is

-- a branch with these paths
record BranchThere (xs : List Construct) (n : ℕ) (places : List (Option Loc)) : Type 0 where
  kind : List ℕ
  location : Location
  is : slice_get (zero_branches xs) n ≡ Some (settled (record { kind = kind; location = location; paths = map zero_path places }))
  few : length places ≤ weights xs

branch_there : (xs : List Construct) (n : ℕ) (places : List (Option Loc)) → slice_get (paths_of xs) n ≡ Some places → BranchThere xs n places
branch_there [] n places is = absurd (cc)
branch_there (construct.Statement loc ∷ xs) n places is = let b = branch_there xs n places is in record { kind = b.kind; location = b.location; is = b.is; few = let few = b.few in omega (arith, few) }
branch_there (construct.Function name declared body ∷ xs) n places is = let b = branch_there xs n places is in record { kind = b.kind; location = b.location; is = b.is; few = let few = b.few in omega (arith, few) }
branch_there (construct.Branch kind loc paths ∷ xs) zero places is =
    let same : paths ≡ places = cc in
    let long = ap length same in record {
      kind = spelling_of kind;
      location = location_at loc;
      is = ap (λ ps. Some (settled (record { kind = spelling_of kind; location = location_at loc; paths = map zero_path ps }))) same;
      few = omega (arith, long);
    }
branch_there (construct.Branch kind loc paths ∷ xs) (suc n) places is = let b = branch_there xs n places is in record { kind = b.kind; location = b.location; is = b.is; few = let few = b.few in omega (arith, few) }

-- what a way leads to, member by member
through : (x y : Json) (key : List ℕ) (keys : List (List ℕ)) → json_child key x ≡ Some y → number_in x (key ∷ keys) ≡ number_in y keys
through x y key keys is = ap (option_and_then (λ z. number_in z keys)) is

abbrev mark_of : ℕ → ConstructKind → (number path : ℕ) → Mark
mark_of file kind number path = record { file = file; kind = kind; number = number; path = path }

module _ (source_map : Option (List ℕ)) (source hash : List ℕ) (xs : List Construct) (b : Bounded xs) (file : ℕ) where
  abbrev Starts : ConstructKind → (number path : ℕ) → Type 0
  Starts kind number path = IsCountable (mark_of file kind number path) × (number_in (json_of (file_data (with_map source_map (zero_file source hash xs)))) (way (mark_of file kind number path)) ≡ Some 0)

  abbrev whole : Json
  whole = json_of (file_data (with_map source_map (zero_file source hash xs)))

  starts : (kind : ConstructKind) (number path : ℕ) → Inside xs kind number path → Starts kind number path
  starts construct_kind.Statement number path inside =
      let few = b.few in
      let some = inside.0 in
      let low : number < length (zero_statements xs) = omega (arith, some, statements_after (from 0).counts xs) in
      let one = taken (zero_statements xs) number low in
      let no_path = inside.1 in (
        record { number_low = omega (arith, low, few, statements_few xs); path_low = omega (arith, no_path); one_path = inside.1 },
        through whole (json_of (statement_counts_data (enumerate_from 0 (zero_statements xs)))) (name_units (codes "s")) (index_key number ∷ []) (child_statements source hash xs source_map)
            ∙ through (json_of (statement_counts_data (enumerate_from 0 (zero_statements xs)))) (json_of (count_data one.0.count)) (index_key number) [] (found (λ (s : StatementCoverage). count_data s.count) number (zero_statements xs) one.0 one.1 (omega (arith, few, statements_few xs)))
            ∙ ap Some (zero_statement xs number one.0 one.1),
      )
  starts construct_kind.Function number path inside =
      let few = b.few in
      let some = inside.0 in
      let low : number < length (zero_functions xs) = omega (arith, some, functions_after (from 0).counts xs) in
      let one = taken (zero_functions xs) number low in
      let no_path = inside.1 in (
        record { number_low = omega (arith, low, few, functions_few xs); path_low = omega (arith, no_path); one_path = inside.1 },
        through whole (json_of (function_counts_data (enumerate_from 0 (zero_functions xs)))) (name_units (codes "f")) (index_key number ∷ []) (child_functions source hash xs source_map)
            ∙ through (json_of (function_counts_data (enumerate_from 0 (zero_functions xs)))) (json_of (count_data one.0.count)) (index_key number) [] (found (λ (f : FunctionCoverage). count_data f.count) number (zero_functions xs) one.0 one.1 (omega (arith, few, functions_few xs)))
            ∙ ap Some (zero_function xs number one.0 one.1),
      )
  starts construct_kind.Branch number path inside =
      let few = b.few in
      let places = inside.0 in
      let one = branch_there xs number places inside.1 in
      let branch : BranchCoverage = settled (record { kind = one.kind; location = one.location; paths = map zero_path places }) in
      let short = one.few in
      let among = inside.2 in
      let low : number < length (zero_branches xs) = slice_get_within (zero_branches xs) number branch one.is in
      let path_low : path < 2 ^ 32 - 1 = omega (arith, few, short, among) in (
        record { number_low = omega (arith, low, few, branches_few xs); path_low = path_low; one_path = tt },
        through whole (json_of (branch_counts_data (enumerate_from 0 (zero_branches xs)))) (name_units (codes "b")) (index_key number ∷ index_key path ∷ []) (child_branches source hash xs source_map)
            ∙ through (json_of (branch_counts_data (enumerate_from 0 (zero_branches xs)))) (json_of (path_counts_data branch)) (index_key number) (index_key path ∷ []) (found path_counts_data number (zero_branches xs) branch one.is (omega (arith, few, branches_few xs)))
            ∙ zero_count one.kind one.location places path among path_low,
      )

module _ (laws : Laws) (marks_inside : MarksInside) (content : ℕ → Content) (p : Sources) (accepted : AreAccepted content p) (literals : HaveLiterals content p) where
  abbrev ZeroFor : Option Source → Mark → Type 0
  ZeroFor o mark = IsCountable mark × (number_in (json_of (file_data (zero_of (content mark.file) o))) (way mark) ≡ Some 0)

  zero_for : (mark : Mark) (o : Option Source) → slice_get p.files mark.file ≡ o → IsTrue (is_construct mark.file o mark) → ZeroFor o mark
  zero_for mark None is has = absurd (cc)
  zero_for mark (Some source) is has =
      let source_accepted = accepted.files mark.file source is in
      let n : ℕ = times_placed mark (numbered mark.file (from 0).counts (constructs_file (unmarked_file source.tree))) in
      let parts = and_parts source.counted (nat_lt 0 n) has in
      let some = ltb-true 0 n parts.1 in
      let construct : IsConstruct mark.file source.tree mark = omega (arith, some) in
      let inside = (marks_inside mark.file source.tree mark construct).1 in
      let same = subst (λ t. Inside (constructs_file t) mark.kind mark.number mark.path) (laws.unmarked source.tree (prints (content mark.file).bytes source.tree source_accepted)) inside in
      starts (content mark.file).map source.path (hash_text (content mark.file).bytes) (constructs_file source.tree) (bounded laws (content mark.file).bytes source.tree source_accepted) mark.file mark.kind mark.number mark.path same

  zeros : (mark : Mark) → IsTrue (has_construct p mark) → IsCountable mark × (number_in (data_of (literals mark.file).made) (way mark) ≡ Some 0)
  zeros mark has =
      let z = zero_for mark (slice_get p.files mark.file) refl has in
      (z.0, ap (λ j. number_in j (way mark)) (literals mark.file).tells ∙ z.1)

  -- ---- paths

  module _ (paths : HavePaths p) where
    path_units : (file : ℕ) (source : Source) → slice_get p.files file ≡ Some source → (files_of content p literals file).path.units ≡ name_units source.path
    path_units file source is = ap (λ o. (json_string (path_of o)).units) is ∙ spells_units source.path (paths.utf8 file source is)

    apart_units : (i j : ℕ) → i ≢ j → is_counted p i ≡ true → is_counted p j ≡ true → bytes_eq (files_of content p literals i).path.units (files_of content p literals j).path.units ≡ false
    apart_units i j other is also =
        let one = there (slice_get p.files i) is in
        let two = there (slice_get p.files j) also in
        unequal _ _ (λ same. paths.apart i j one.0 two.0 other one.1 two.1
        (sym (text_back one.0.path (paths.utf8 i one.0 one.1)) ∙ ap text_of (sym (path_units i one.0 one.1) ∙ same ∙ path_units j two.0 two.1) ∙ text_back two.0.path (paths.utf8 j two.0 two.1)))

pub accepted_prepared : Laws → MarksInside → NumbersFirst → AcceptedPrepared
accepted_prepared laws inside numbers content p accepted paths literals = record {
  named = λ file. own_named (slice_get p.files file);
  keys = λ file. (literals file).keys;
  hash = λ file is. ap (json_child (name_units hash_)) (literals file).tells ∙ hash_there (content file) (slice_get p.files file) ∙ ap (λ us. Some (Text us)) (sym (spells_units (hash_text (content file).bytes) (hash_utf8 (content file).bytes)));
  zeros = zeros laws inside content p accepted literals;
  paths = apart_units laws inside content p accepted literals paths;
  inherited = λ file is.
      let one = there (slice_get p.files file) is in
      subst (λ us. Bare opening (Some root) us) (sym (path_units laws inside content p accepted literals paths file one.0 one.1)) (none_ends_so one.0.path (paths.utf8 file one.0 one.1) (paths.ends file one.0 one.1));
  coverage_inherited = no_coverage;
  first = λ file is. numbers content p literals file;
}
