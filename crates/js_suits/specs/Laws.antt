-- Which programs suit their counters: those of accepted sources, linked with their marks, where each counted file's name is fresh in it.
use Rattle.std.specs.Prelude.{◌≡◌, ℕ, zero, suc, ◌+◌, ◌<◌, ◌≤◌, nat_lt, nat_le, nat_eq, Bool, true, false, not, ◌&&◌, IsTrue, List, [], ◌∷◌, Option, Some, None, length, slice_get}
use Rattle.std.specs.List.{list_any}
use Rattle.js_terms.specs.Mark.{Mark}
use Rattle.js_tree.specs.Plain.{File, MakeFile, no_stmt}
use Rattle.js_tree.specs.Codes.{Code, functions_file}
use Rattle.js_tree.specs.Unmarked.{unmarked_file}
use Rattle.js_tree.specs.Entered.{times_placed}
use Rattle.js_terms.specs.declared.construct.Construct.{Construct}
use Rattle.js_terms.specs.declared.construct.Construct.TheVariants as construct
use Rattle.js_terms.specs.declared.construct.ConstructKind.{ConstructKind}
use Rattle.js_terms.specs.declared.construct.ConstructKind.TheVariants as construct_kind
use Rattle.js_terms.specs.declared.place.Loc.{Loc}
use Rattle.js_walk.specs.Constructs.{constructs_file}
use Rattle.js_reading.specs.Kinds.{is_keyword}
use Rattle.js_scopes.specs.Mentions.{mentions_file}
use Rattle.js_scopes.specs.Reserved.{own_name}
use Rattle.js_scopes.specs.Accepted.{Accepted}
use Rattle.js_layout.specs.Printable.{Printable}
use Rattle.js_meaning.specs.Program.{Source, Sources, from, linked}
use Rattle.js_meaning.specs.Counted.{after, numbered}
use Rattle.cov_rewritten.specs.Whole.{says, IsFresh}
use Rattle.js_suits.specs.Settings.{Fresh, Home, Outside, Within, Setting, Tests, setting_of}
use Rattle.js_suits.specs.Programs.{home_of, start_of, added_to, Stands, Silent, Suits, instrumented, instrumented_file, instrumented_prelude}

-- what is asked of a tree: the grammar has it, and no variable is `globalThis`
pub record Readable (tree : File) : Type 0 where
  pub printable : Printable tree
  pub not_global : list_any (says own_name) (mentions_file tree) ≡ false

-- a mark is one of the constructs of a file, as these are numbered
abbrev pub IsConstruct : ℕ → File → Mark → Type 0
IsConstruct file tree mark = 1 ≤ times_placed mark (numbered file (from 0).counts (constructs_file (unmarked_file tree)))

-- what is asked of counters for a program that is not linked yet: each counted file's name is fresh in it, and each mark of its
-- constructs has a counter
pub record Counters (c : Setting) (p : Sources) : Type 0 where
  pub fresh : (file : ℕ) (source : Source) → slice_get p.files file ≡ Some source → source.counted ≡ true → IsFresh (c.name file) source.tree
  pub has : (file : ℕ) (source : Source) → slice_get p.files file ≡ Some source → source.counted ≡ true → (m : Mark) → IsConstruct file source.tree m → c.Has m

-- whether a mark is one of the constructs of a counted file of a program
abbrev pub is_construct : ℕ → Option Source → Mark → Bool
is_construct file None mark = false
is_construct file (Some source) mark =
    source.counted && nat_lt 0 (times_placed mark (numbered file (from 0).counts (constructs_file (unmarked_file source.tree))))

abbrev pub has_construct : Sources → Mark → Bool
has_construct p mark = is_construct mark.file (slice_get p.files mark.file) mark

-- where such marks have counters, each mark of a counted file has one
abbrev pub ConstructsCounted : Type 1
ConstructsCounted = (c : Setting) (p : Sources) → ((m : Mark) → IsTrue (has_construct p m) → c.Has m) →
    ((file : ℕ) (source : Source) → slice_get p.files file ≡ Some source → source.counted ≡ true → IsFresh (c.name file) source.tree) → Counters c p

abbrev pub ConstructsCountedByTests : Type 0
ConstructsCountedByTests = (t : Tests) (p : Sources) → ((m : Mark) → IsTrue (has_construct p m) → IsTrue (t.has m)) →
    ((file : ℕ) (source : Source) → slice_get p.files file ≡ Some source → source.counted ≡ true → IsFresh (t.name file) source.tree) → Counters (setting_of t) p

-- the functions of the linked program stand at their numbers
pub record Numbered (c : Setting) (p : Sources) : Type 0 where
  pub prelude : (i : ℕ) → i < length (functions_file p.prelude) → c.Codes (Outside 0) i (c.shift (Outside 0) + i)
  pub files : (file : ℕ) (source : Source) → slice_get p.files file ≡ Some source → (i : ℕ) → i < length (functions_file source.tree) →
      c.Codes (home_of source.counted file) (start_of p file + i) (c.shift (home_of source.counted file) + (start_of p file + i))

abbrev pub ReadableSuits : Type 1
ReadableSuits = (c : Setting) (p : Sources) → ((file : ℕ) (source : Source) → slice_get p.files file ≡ Some source → Readable source.tree) → Readable p.prelude →
    Counters c p → Numbered c (linked p) → Suits c (linked p)

abbrev pub AcceptedReadable : Type 0
AcceptedReadable = (bytes : List ℕ) (tree : File) → Accepted bytes tree → Readable tree

-- the prelude of a program may be empty
abbrev pub EmptyReadable : Type 0
EmptyReadable = Readable (MakeFile no_stmt [])

abbrev pub AcceptedSuits : Type 1
AcceptedSuits = (c : Setting) (p : Sources) → ((file : ℕ) (source : Source) → slice_get p.files file ≡ Some source → (bytes : List ℕ) × Accepted bytes source.tree) → Readable p.prelude →
    Counters c p → Numbered c (linked p) → Suits c (linked p)

-- how far the functions of a program are from those that stand for them
pub record Shifted (c : Setting) (p q : Sources) (added : ℕ → List Code) : Type 0 where
  pub stand : (h : Home) (code other : ℕ) → Stands p q added h code other → c.Codes h code other
  pub prelude : c.shift (Outside 0) ≡ 0
  pub files : (file : ℕ) (source : Source) → slice_get p.files file ≡ Some source →
      c.shift (home_of source.counted file) + start_of p file ≡ start_of q file + added_to added source.counted file

-- then they stand at their numbers
abbrev pub ShiftedNumbered : Type 1
ShiftedNumbered = (c : Setting) (p q : Sources) (added : ℕ → List Code) → Shifted c p q added → Numbered c p

-- the same where what is said of the counters are tests
abbrev pub ReadableSuitsByTests : Type 0
ReadableSuitsByTests = (t : Tests) (p : Sources) → ((file : ℕ) (source : Source) → slice_get p.files file ≡ Some source → Readable source.tree) → Readable p.prelude →
    Counters (setting_of t) p → Numbered (setting_of t) (linked p) → Suits (setting_of t) (linked p)

abbrev pub AcceptedSuitsByTests : Type 0
AcceptedSuitsByTests = (t : Tests) (p : Sources) → ((file : ℕ) (source : Source) → slice_get p.files file ≡ Some source → (bytes : List ℕ) × Accepted bytes source.tree) → Readable p.prelude →
    Counters (setting_of t) p → Numbered (setting_of t) (linked p) → Suits (setting_of t) (linked p)

abbrev pub ShiftedNumberedByTests : Type 0
ShiftedNumberedByTests = (t : Tests) (p q : Sources) (added : ℕ → List Code) → Shifted (setting_of t) p q added → Numbered (setting_of t) p

-- how many functions of counters stand before a file's, and how far its own ones are
abbrev pub added_before : (ℕ → List Code) → ℕ → List Source → ℕ → ℕ
added_before added first [] file = 0
added_before added first (source ∷ sources) zero = 0
added_before added first (source ∷ sources) (suc file) = added_to added source.counted first + added_before added (suc first) sources file

abbrev pub shift_of : (ℕ → List Code) → Sources → Home → ℕ
shift_of added p (Outside zero) = 0
shift_of added p (Outside (suc file)) = added_before added 0 p.files file
shift_of added p (Within file) = added_before added 0 p.files file + length (added file)

-- a file with its counters has its functions and theirs
pub record SameLengths (c : Setting) (added : ℕ → List Code) : Type 0 where
  pub file : (counted : Bool) (file : ℕ) (tree : File) → length (functions_file (instrumented_file c counted file tree)) ≡ added_to added counted file + length (functions_file tree)
  pub prelude : (tree : File) → length (functions_file (instrumented_prelude c tree)) ≡ length (functions_file tree)

abbrev pub SilentLengths : Type 1
SilentLengths = (c : Setting) (added : ℕ → List Code) → Silent c added → SameLengths c added

abbrev pub InstrumentedShifted : Type 1
InstrumentedShifted = (c : Setting) (p : Sources) (added : ℕ → List Code) → SameLengths c added → ((h : Home) → c.shift h ≡ shift_of added p h) →
    ((h : Home) (code other : ℕ) → Stands p (instrumented c p) added h code other → c.Codes h code other) → Shifted c p (instrumented c p) added

-- all of it: a program of accepted sources, linked, suits counters that its constructs have and whose functions hold no others, where
-- each counted file's name is fresh, shifts are the numbers of functions added before, and codes that stand for each other are alike
abbrev pub ProgramsSuit : Type 0
ProgramsSuit = (t : Tests) (p : Sources) (added : ℕ → List Code) →
    ((file : ℕ) (source : Source) → slice_get p.files file ≡ Some source → (bytes : List ℕ) × Accepted bytes source.tree) → Readable p.prelude →
    ((m : Mark) → IsTrue (has_construct p m) → IsTrue (t.has m)) →
    ((file : ℕ) (source : Source) → slice_get p.files file ≡ Some source → source.counted ≡ true → IsFresh (t.name file) source.tree) →
    Silent (setting_of t) added → ((h : Home) → t.shift h ≡ shift_of added (linked p) h) →
    ((h : Home) (code other : ℕ) → Stands (linked p) (instrumented (setting_of t) (linked p)) added h code other → IsTrue (t.codes h code other)) →
    Suits (setting_of t) (linked p)

-- whether a function of a home and another stand for each other, by their numbers
abbrev pub same_bool : Bool → Bool → Bool
same_bool true b = b
same_bool false b = not b

abbrev pub stands_in : ℕ → Option Source → Bool → ℕ → ℕ → ℕ → Bool
stands_in start None counted shift code other = false
stands_in start (Some source) counted shift code other =
    same_bool source.counted counted && (nat_le start code && (nat_lt code (start + length (functions_file source.tree)) && nat_eq other (shift + code)))

abbrev pub stands : (ℕ → List Code) → Sources → Home → ℕ → ℕ → Bool
stands added p (Outside zero) code other = nat_lt code (length (functions_file p.prelude)) && nat_eq other code
stands added p (Outside (suc file)) code other = stands_in (start_of p file) (slice_get p.files file) false (shift_of added p (Outside (suc file))) code other
stands added p (Within file) code other = stands_in (start_of p file) (slice_get p.files file) true (shift_of added p (Within file)) code other

-- counters for a program: each mark of its constructs has one, functions are shifted by those that are added, and stand for each other so
abbrev pub fitted : Tests → (ℕ → List Code) → Sources → Tests
fitted t added p = record t { codes = stands added (linked p); shift = shift_of added (linked p); has = has_construct p }

-- what the counters are asked for beside: it suits them, and codes that are alike stand for each other
pub record Fitted (c : Setting) (t : Tests) (p : Sources) (added : ℕ → List Code) : Type 0 where
  pub suits : Suits c (linked p)
  pub stand : (h : Home) (code other : ℕ) → IsTrue (t.codes h code other) → Stands (linked p) (instrumented c (linked p)) added h code other

abbrev pub FittedSuits : Type 0
FittedSuits = (t : Tests) (p : Sources) (added : ℕ → List Code) →
    ((file : ℕ) (source : Source) → slice_get p.files file ≡ Some source → (bytes : List ℕ) × Accepted bytes source.tree) → Readable p.prelude →
    ((file : ℕ) (source : Source) → slice_get p.files file ≡ Some source → source.counted ≡ true → IsFresh (t.name file) source.tree) →
    Silent (setting_of (fitted t added p)) added → Fitted (setting_of (fitted t added p)) (fitted t added p) p added

-- the paths of the branches among constructs
abbrev pub paths_of : List Construct → List (List (Option Loc))
paths_of [] = []
paths_of (construct.Statement loc ∷ xs) = paths_of xs
paths_of (construct.Function name declared body ∷ xs) = paths_of xs
paths_of (construct.Branch kind loc places ∷ xs) = places ∷ paths_of xs

-- a mark is that of a construct: its number is below how many there are of its kind, and of a branch its path is one of that branch's
abbrev pub Inside : List Construct → ConstructKind → ℕ → ℕ → Type 0
Inside xs construct_kind.Statement number path = (number < (after (from 0).counts xs).statements) × (path ≡ 0)
Inside xs construct_kind.Function number path = (number < (after (from 0).counts xs).functions) × (path ≡ 0)
Inside xs construct_kind.Branch number path = (places : List (Option Loc)) × (slice_get (paths_of xs) number ≡ Some places) × (path < length places)

abbrev pub MarksInside : Type 0
MarksInside = (file : ℕ) (tree : File) (m : Mark) → IsConstruct file tree m → (m.file ≡ file) × Inside (constructs_file (unmarked_file tree)) m.kind m.number m.path

-- names of files' functions that are no keywords are not `this`
abbrev pub NamesFree : Type 1
NamesFree = (c : Setting) → ((file : ℕ) → is_keyword (c.name file) ≡ false) → Fresh c

abbrev pub NamesFreeByTests : Type 0
NamesFreeByTests = (t : Tests) → ((file : ℕ) → is_keyword (t.name file) ≡ false) → Fresh (setting_of t)
