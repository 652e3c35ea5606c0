-- A program with its counters, what is asked of these, and the law.
use Rattle.std.specs.Prelude.{◌≡◌, ℕ, ◌+◌, map, length, ◌≤◌, Bool, IsTrue, true, List, [], ◌∷◌, Some, None, slice_get}
use Rattle.js_terms.specs.Mark.{Mark}
use Rattle.js_tree.specs.Plain.{MakeFile, Stmts}
use Rattle.js_terms.specs.declared.words.Comment.{Comment}
use Rattle.js_tree.specs.Linked.{Unmarked, Alone, Numbers, kept, link_expr, link_stmts}
use Rattle.js_tree.specs.Codes.{Code, number_of, from_code, functions_stmts}
use Rattle.js_value.specs.State.{Store}
use Rattle.js_value.specs.Realm.{built_in_count, opening}
use Rattle.js_meaning.specs.Effects.{Start, Ran, ret, handle}
use Rattle.js_meaning.specs.Program.{Source, Sources}
use Rattle.js_meaning.specs.Meaning.{comp_stmts}
use Rattle.js_meaning.specs.Files.{run_source, after_call}
use Rattle.js_meaning.specs.World.{run, end_of}
use Rattle.js_two_runs.specs.TwoHeaps.{themselves}
use Rattle.js_suits.specs.Rewritten.{rewritten_stmts}
use Rattle.js_suits.specs.Settings.{Home, Outside, Within, World, Setting, Fresh, Tests, setting_of}
use Rattle.js_suits.specs.Programs.{instrumented_source, instrumented, Suits, Silent, Stands}
use Rattle.js_lockstep.specs.Worlds.{Around, AlikeStores}
use Rattle.js_lockstep.specs.Trees.{Steps}
use Rattle.js_lockstep.specs.Counters.{Keeps, Counts, Coded}

-- where a program begins: each built-in object but the global one is a pair with itself, and so is the environment of the names that
-- every file has
abbrev pub first_world : World
first_world = record { objects = themselves built_in_count; environments = (0, 0) ∷ []; home = λ f. Outside 0; own = λ f. None }

module _ (c : Setting) where
  -- a counted file starts: in a step, and then it is at the same statements in both, in an environment of the file's own
  pub record Starting (p q : Sources) (file : ℕ) (source : Source) (xs : Stmts) (w : World) (s t : Store) : Type 0 where
    pub begun : Steps c p q w s t (Start file) ret (run_source q (instrumented_source c file source) file)
    pub e : ℕ
    pub f : ℕ
    pub around : Around begun.v (Within file) e f
    pub left_is : begun.a' ≡ handle (comp_stmts p xs e) after_call
    pub right_is : begun.b' ≡ handle (comp_stmts q (rewritten_stmts c (c.shift (Within file)) true xs) f) after_call

  pub record Starts (p q : Sources) : Type 0 where
    pub starts : (file : ℕ) (source : Source) → slice_get p.files file ≡ Some source → source.counted ≡ true → (xs : Stmts) (comments : List Comment) →
        source.tree ≡ MakeFile xs comments → (w : World) (s t : Store) → AlikeStores c w s t → Starting p q file source xs w s t

  -- all that is asked of the counters of a program
  pub record Counter (p : Sources) : Type 0 where
    pub keeps : Keeps c
    pub fresh : Fresh c
    pub coded : Coded c p (instrumented c p)
    pub counts : Counts c (instrumented c p)
    pub starts : Starts p (instrumented c p)
    pub first : c.Hidden first_world [] [] opening

-- the same end, the same output, and in the right store the counts of the left one's entries
pub record SameRuns (c : Setting) (x y : Ran) : Type 0 where
  pub ends : end_of x.outcome x.store ≡ end_of y.outcome y.store
  pub output : x.store.output ≡ y.store.output
  pub counted : c.Counted x.store.log x.store.started y.store.heap

-- for each linked program with its marks, each file of it and each number of steps that the counts have room for
abbrev pub RunsInStep : Type 1
RunsInStep = (c : Setting) (p : Sources) → Suits c p → Counter c p → (file n : ℕ) → n ≤ c.limit → SameRuns c (run p file n) (run (instrumented c p) file n)

abbrev pub RunsInStepByTests : Type 0
RunsInStepByTests = (t : Tests) (p : Sources) → Suits (setting_of t) p → Counter (setting_of t) p → (file n : ℕ) → n ≤ t.limit →
    SameRuns (setting_of t) (run p file n) (run (instrumented (setting_of t) p) file n)

-- Where functions stand

-- codes that stand so are each other's rewriting
abbrev pub CodesStand : Type 1
CodesStand = (c : Setting) (p : Sources) → Suits c p → (added : ℕ → List Code) → Silent c added →
    ((h : Home) (code other : ℕ) → c.Codes h code other → Stands p (instrumented c p) added h code other) → Coded c p (instrumented c p)

abbrev pub CodesStandByTests : Type 0
CodesStandByTests = (t : Tests) (p : Sources) → Suits (setting_of t) p → (added : ℕ → List Code) → Silent (setting_of t) added →
    ((h : Home) (code other : ℕ) → IsTrue (t.codes h code other) → Stands p (instrumented (setting_of t) p) added h code other) → Coded (setting_of t) p (instrumented (setting_of t) p)

-- Where the tree with its counters is linked

-- functions that are numbered one after another from a number on
abbrev pub Ordered : List Code → ℕ → Type 0
Ordered codes first = map number_of codes ≡ from_code first (length codes)

-- the numbers after so many functions
abbrev pub after : Numbers → ℕ → Numbers
after k n = record { code = k.code + n; counts = k.counts }

-- the code of a mark is linked as it is
pub record LinksAlone (c : Setting) : Type 0 where
  pub code : (mark : Mark) (k : Numbers) → link_expr Unmarked Alone (c.code mark) k ≡ kept (c.code mark) k

-- statements with their counters are the same again where they are linked, from a shift further than the marked ones
abbrev pub LinksAgain : Type 0
LinksAgain = (t : Tests) (shift : ℕ) (home : Bool) → LinksAlone (setting_of t) → (xs : Stmts) (k : Numbers) (first : ℕ) → k.code ≡ shift + first → Ordered (functions_stmts xs) first →
    link_stmts Unmarked (rewritten_stmts (setting_of t) shift home xs) k ≡ kept (rewritten_stmts (setting_of t) shift home xs) (after k (length (functions_stmts xs)))
