-- The coverage that a source begins with can be told: what is counted of it is within bounds.
use Rattle.std.proofs.Common.{◌≡◌, ℕ, ◌+◌, ◌^◌, ◌≤◌, Bool, true, false, List, [], ◌∷◌, length, map, Option, Some, None, IfSome, codes, if◌then◌else◌, refl, arith}
use Rattle.std.specs.Prelude.{bytes_eq, slice_get}
use Rattle.std.specs.List.{enumerate_from}
use Rattle.std.specs.Str.{IsUtf8}
use Rattle.std.proofs.lemmas.Str.{IsUtf8-nil}
use Rattle.js_terms.specs.declared.place.Loc.{Loc}
use Rattle.js_terms.specs.declared.construct.BranchKind.{BranchKind}
use Rattle.js_terms.specs.declared.construct.BranchKind.TheVariants as branch_kind
use Rattle.js_terms.specs.declared.construct.Construct.{Construct}
use Rattle.js_terms.specs.declared.construct.Construct.TheVariants as construct
use Rattle.js_tree.specs.Plain.{File}
use Rattle.js_walk.specs.Constructs.{constructs_file}
use Rattle.js_reading.specs.Placed.{IsPlaced, IsPlacedIf, ArePathsPlaced, ArePlaced}
use Rattle.js_reading.proofs.placed.PlacedTexts.{reads_placed}
use Rattle.js_scopes.specs.Accepted.{Accepted}
use Rattle.js_meaning.specs.Program.{Source}
use Rattle.cov_hash.specs.Hash.{hash_text}
use Rattle.js_spelling.proofs.Ones.{has_tokens}
use Rattle.js_layout.specs.Printable.{Printable}
use Rattle.js_layout.proofs.Accepted.{accepted_prints}
use Rattle.js_bounds.specs.Bounds.{weights, AreNamed, IsLow, IsLowIf, ArePathsLow, AreLow, CountsFew, NamesAreTexts, StandLow, HasNoMarks}
use Rattle.cov_maps.specs.Located.{location_at}
use Rattle.cov_maps.specs.Zero.{spelling_of, location_if, zero_path, zero_statements, zero_functions, zero_branches, zero_file, with_map}
use Rattle.cov_object.specs.Branch.{if_paths, settled_paths}
use Rattle.cov_object.specs.Location.{nowhere, same_location}
use Rattle.cov_object.specs.Numbered.{AreSmall}
use Rattle.cov_object.specs.SourceMapText.{IsSourceMap}
use Rattle.cov_object.specs.private.Formed.{IsLocated, IsStatement, IsFunction, ArePaths, IsBranch, EachThing}
use Rattle.cov_object.specs.declared.file.PathCoverage.{PathCoverage}
use Rattle.cov_object.specs.declared.location.Location.{Location}
use Rattle.cov_object.proofs.BranchLemmas.{settled-again}
use Rattle.cov_object.proofs.Numbers.{ascends-from}
use Rattle.cov_expected.specs.Plain.{IsPlainMap}
use Rattle.cov_counted.specs.Accepted.{IsMapText, zero_of, IsTellable, AcceptedTellable}
use Rattle.cov_counted.proofs.Hexadecimal.{hash_utf8}

-- ---- places

located : (loc : Loc) → IsPlaced loc → IsLow loc → IsLocated (location_at loc)
located loc placed low = ((placed.0, low.0.0, low.0.1), (placed.1, low.1.0, low.1.1))

located_if : (loc : Option Loc) → IsPlacedIf loc → IsLowIf loc → IsLocated (location_if loc)
located_if None placed low = (tt, tt)
located_if (Some loc) placed low = located loc placed low

paths_formed : (places : List (Option Loc)) → ArePathsPlaced places → ArePathsLow places → ArePaths (map zero_path places)
paths_formed [] placed low = tt
paths_formed (place ∷ places) placed low = ((located_if place placed.0 low.0, omega arith), paths_formed places placed.1 low.1)

-- ---- the second path of an `if`

else_formed : (is_same : Bool) (path : PathCoverage) → IsLocated path.location → IsLocated (if is_same then nowhere else path.location)
else_formed true path h = (tt, tt)
else_formed false path h = h

if_formed : (l : Location) (paths : List PathCoverage) → ArePaths paths → ArePaths (if_paths l paths)
if_formed l [] h = h
if_formed l (a ∷ []) h = h
if_formed l (a ∷ b ∷ []) h = (h.0, ((else_formed (same_location b.location l) b h.1.0.0, h.1.0.1), h.1.1))
if_formed l (a ∷ b ∷ c ∷ paths) h = h

settled_formed : (kind : List ℕ) (l : Location) (paths : List PathCoverage) → ArePaths paths → ArePaths (settled_paths kind l paths)
settled_formed kind l paths h = by (bytes_eq kind (codes "if"))
  where
    by : (b : Bool) → ArePaths (if b then if_paths l paths else paths)
    by true = if_formed l paths h
    by false = h

kind_utf8 : (kind : BranchKind) → IsUtf8 (spelling_of kind)
unfolding lib.Utf8.encode
kind_utf8 branch_kind.If = (codes "if", (refl, refl))
kind_utf8 branch_kind.Conditional = (codes "cond-expr", (refl, refl))
kind_utf8 branch_kind.Switch = (codes "switch", (refl, refl))
kind_utf8 branch_kind.Logical = (codes "binary-expr", (refl, refl))
kind_utf8 branch_kind.Default = (codes "default-arg", (refl, refl))

-- ---- the constructs of each kind

statements_formed : (n : ℕ) (xs : List Construct) → ArePlaced xs → AreLow xs → EachThing IsStatement (enumerate_from n (zero_statements xs))
statements_formed n [] placed low = tt
statements_formed n (construct.Statement loc ∷ xs) placed low = ((located loc placed.0 low.0, omega arith), statements_formed (n + 1) xs placed.1 low.1)
statements_formed n (construct.Function name declared body ∷ xs) placed low = statements_formed n xs placed.1 low.1
statements_formed n (construct.Branch kind loc paths ∷ xs) placed low = statements_formed n xs placed.1 low.1

functions_formed : (n : ℕ) (xs : List Construct) → ArePlaced xs → AreLow xs → AreNamed xs → EachThing IsFunction (enumerate_from n (zero_functions xs))
functions_formed n [] placed low named = tt
functions_formed n (construct.Statement loc ∷ xs) placed low named = functions_formed n xs placed.1 low.1 named.1
functions_formed n (construct.Function name declared body ∷ xs) placed low named =
    ((located declared placed.0.0 low.0.0, located body placed.0.1 low.0.1, omega arith, named.0), functions_formed (n + 1) xs placed.1 low.1 named.1)
functions_formed n (construct.Branch kind loc paths ∷ xs) placed low named = functions_formed n xs placed.1 low.1 named.1

branches_formed : (n : ℕ) (xs : List Construct) → ArePlaced xs → AreLow xs → EachThing IsBranch (enumerate_from n (zero_branches xs))
branches_formed n [] placed low = tt
branches_formed n (construct.Statement loc ∷ xs) placed low = branches_formed n xs placed.1 low.1
branches_formed n (construct.Function name declared body ∷ xs) placed low = branches_formed n xs placed.1 low.1
branches_formed n (construct.Branch kind loc paths ∷ xs) placed low = (
  (
    located loc placed.0.0 low.0.0,
    settled_formed (spelling_of kind) (location_at loc) (map zero_path paths) (paths_formed paths placed.0.1 low.0.1),
    kind_utf8 kind,
    settled-again (record { kind = spelling_of kind; location = location_at loc; paths = map zero_path paths }),
  ),
  branches_formed (n + 1) xs placed.1 low.1,
)

-- ---- ids

pub statements_few : (xs : List Construct) → length (zero_statements xs) ≤ weights xs
statements_few [] = omega arith
statements_few (construct.Statement loc ∷ xs) = omega (arith, statements_few xs)
statements_few (construct.Function name declared body ∷ xs) = omega (arith, statements_few xs)
statements_few (construct.Branch kind loc paths ∷ xs) = omega (arith, statements_few xs)

pub functions_few : (xs : List Construct) → length (zero_functions xs) ≤ weights xs
functions_few [] = omega arith
functions_few (construct.Statement loc ∷ xs) = omega (arith, functions_few xs)
functions_few (construct.Function name declared body ∷ xs) = omega (arith, functions_few xs)
functions_few (construct.Branch kind loc paths ∷ xs) = omega (arith, functions_few xs)

pub branches_few : (xs : List Construct) → length (zero_branches xs) ≤ weights xs
branches_few [] = omega arith
branches_few (construct.Statement loc ∷ xs) = omega (arith, branches_few xs)
branches_few (construct.Function name declared body ∷ xs) = omega (arith, branches_few xs)
branches_few (construct.Branch kind loc paths ∷ xs) = omega (arith, branches_few xs)

small_from : {T : Type 0} (n : ℕ) (things : List T) → n + length things ≤ 2 ^ 32 → AreSmall (enumerate_from n things)
small_from n [] low = tt
small_from n (x ∷ things) low = (omega (arith, low), small_from (n + 1) things (omega (arith, low)))

-- ---- an accepted source

pub record Bounded (xs : List Construct) : Type 0 where
  pub few : weights xs ≤ 8_388_608
  pub placed : ArePlaced xs
  pub low : AreLow xs
  pub named : AreNamed xs

pub prints : (bytes : List ℕ) (tree : File) → Accepted bytes tree → Printable tree
prints bytes tree source = accepted_prints has_tokens false bytes tree source.utf8 source.reads source.unbroken

kept : (map : Option (List ℕ)) → IfSome map IsMapText → IfSome map (λ text. IsSourceMap text × IsUtf8 text)
kept None is = tt
kept (Some text) is = (is.is, is.utf8)

plain : (map : Option (List ℕ)) → IfSome map IsMapText → IfSome map IsPlainMap
plain None is = tt
plain (Some text) is = is.plain

tellable : (map : Option (List ℕ)) (path hash : List ℕ) (xs : List Construct) → IfSome map IsMapText → IsUtf8 path → IsUtf8 hash → Bounded xs → IsTellable (with_map map (zero_file path hash xs))
tellable map path hash xs is path_text text b = record {
  formed = record {
    statements = statements_formed 0 xs b.placed b.low;
    functions = functions_formed 0 xs b.placed b.low b.named;
    branches = branches_formed 0 xs b.placed b.low;
    statements_ascend = ascends-from 0 (zero_statements xs);
    functions_ascend = ascends-from 0 (zero_functions xs);
    branches_ascend = ascends-from 0 (zero_branches xs);
    path_text = path_text;
    hash_text = text;
    source_map = kept map is;
  };
  statements = small_from 0 (zero_statements xs) (let few = b.few in omega (arith, few, statements_few xs));
  functions = small_from 0 (zero_functions xs) (let few = b.few in omega (arith, few, functions_few xs));
  branches = small_from 0 (zero_branches xs) (let few = b.few in omega (arith, few, branches_few xs));
  source_map = plain map is;
}

nothing : Bounded []
nothing = record { few = omega arith; placed = tt; low = tt; named = tt }

-- what is known of sources
pub record Laws : Type 0 where
  pub few : CountsFew
  pub names : NamesAreTexts
  pub low : StandLow
  pub unmarked : HasNoMarks

module _ (laws : Laws) where
  pub bounded : (bytes : List ℕ) (tree : File) → Accepted bytes tree → Bounded (constructs_file tree)
  bounded bytes tree source =
      let printable = prints bytes tree source in
      let within = source.within in
      let few = laws.few bytes tree source.utf8 source.reads printable in
      record {
        few = omega (arith, few, within);
        placed = reads_placed bytes tree source.reads;
        low = laws.low bytes tree source.reads;
        named = laws.names bytes tree source.utf8 source.reads printable (omega (arith, within));
      }

  pub accepted_tellable : AcceptedTellable
  accepted_tellable content p accepted paths file = by (slice_get p.files file) refl
    where
      by : (o : Option Source) → slice_get p.files file ≡ o → IsTellable (zero_of (content file) o)
      by None is = tellable (content file).map [] (hash_text (content file).bytes) [] (accepted.maps file) IsUtf8-nil (hash_utf8 (content file).bytes) nothing
      by (Some source) is =
          tellable (content file).map source.path (hash_text (content file).bytes) (constructs_file source.tree) (accepted.maps file) (paths.utf8 file source is) (hash_utf8 (content file).bytes)
          (bounded (content file).bytes source.tree (accepted.files file source is))
