-- What callers see of the machine.
use Rattle.std.specs.Prelude.{◌≡◌, ℕ, ◌+◌, Bool, false, List, [], Some}
use Rattle.js_value.specs.State.{Heap, Store}
use Rattle.js_code.specs.Program.{ProgramCode, IsCodeOf}
use Rattle.js_meaning.specs.declared.outcome.End.{End}
use Rattle.js_meaning.specs.Effects.{exec}
use Rattle.js_meaning.specs.Program.{Sources, linked, uncounted, file_at}
use Rattle.js_meaning.specs.Files.{inside}
use Rattle.js_meaning.specs.World.{meaning, PlainRun, plain}
use Rattle.js_machine.specs.private.Config.{view_of}
use Rattle.js_machine.specs.private.Moves.{Here, todo}
use Rattle.js_machine.specs.private.State.{store_of}

-- the code, where the machine is in it, how many steps it was given, and whether it wanted memory
pub record Whole : Type 0 where
  pub code : ProgramCode
  pub here : Here
  pub given : ℕ
  pub lost : Bool

abbrev pub output_of : Whole → List ℕ
output_of m = m.here.state.output

-- its objects and environments
abbrev pub heap_in : Whole → Heap
heap_in m = m.here.state.heap

-- the program as it runs where nothing is counted
abbrev pub running : Sources → Sources
running p = linked (uncounted p)

-- the machine has come through the steps that it was given: with any steps more, what it has left to do ends as the file at the
-- path does with all of them. What its store doesn't have stays as it was when the file began.
pub record Follows (p : Sources) (path : List ℕ) (m : Whole) : Type 0 where
  pub file : ℕ
  pub found : file_at p path ≡ Some file
  pub code : IsCodeOf (running p) m.code
  pub began : Store
  pub same : (more : ℕ) → meaning (uncounted p) file (m.given + more)
      ≡ exec (inside (running p)) more (todo (view_of (running p) m.code.nodes) m.here) (store_of began m.here.state)

-- it stands at the beginning of the file at the path, and has printed nothing
pub record Begins (p : Sources) (path : List ℕ) (m : Whole) : Type 0 where
  pub follows : Follows p path m
  pub given : m.given ≡ 0
  pub printed : output_of m ≡ []
  pub lost : m.lost ≡ false

-- the file at the path, run without counting with all the steps that were given, ends like this, prints what was printed, and leaves
-- the heap that is there
pub record EndsAs (p : Sources) (path : List ℕ) (last : End) (m : Whole) : Type 0 where
  pub run : PlainRun
  pub is : plain p path m.given ≡ Some run
  pub end : run.end ≡ last
  pub output : run.store.output ≡ output_of m
  pub heap : run.store.heap ≡ heap_in m

-- a run of a machine that followed a file follows it on, and ends as the file does
pub record Goes (old : Whole) (last : End) (new : Whole) : Type 0 where
  pub on : (p : Sources) (path : List ℕ) → Follows p path old → Follows p path new
  pub ends : (p : Sources) (path : List ℕ) → Follows p path old → EndsAs p path last new
