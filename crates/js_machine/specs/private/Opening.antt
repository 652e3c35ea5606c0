-- What stands when a file begins.
use Rattle.std.specs.Prelude.{◌≡◌, ℕ, false, List, []}
use Rattle.js_tree.specs.Plain.{Function}
use Rattle.js_tree.specs.Codes.{OfMethod}
use Rattle.js_value.specs.declared.built_in.Place.TheVariants.{ArrayPrototype}
use Rattle.js_value.specs.State.{Heap}
use Rattle.js_value.specs.Objects.{next_object, define, freeze}
use Rattle.js_value.specs.Realm.{number_of, global_environment, object, hidden}
use Rattle.js_code.specs.Program.{ProgramCode}
use Rattle.js_meaning.specs.Effects as E
use Rattle.js_meaning.specs.Effects.{Comp, exec}
use Rattle.js_meaning.specs.Files.{start_file}
use Rattle.js_meaning.specs.Prelude.{opening}
use Rattle.js_meaning.specs.Scopes.{shape_of, closed}
use Rattle.js_meaning.specs.Program.{Sources}
use Rattle.js_machine.specs.private.Carries.{Carries}
use Rattle.js_machine.specs.private.Config.{view_of}
use Rattle.js_machine.specs.private.Moves.{todo}
use Rattle.js_machine.specs.private.State.{store_of}
use Rattle.js_machine.specs.Whole.{Whole, output_of}

-- a machine that has a file of this code before it, and nothing behind it
pub record Opens (code : ProgramCode) (file : ℕ) (m : Whole) : Type 0 where
  pub code_is : m.code ≡ code
  pub same : (p : Sources) → Carries p code → (inside : E.Entry → Comp) (n : ℕ) →
      exec inside n (start_file p file) (opening p) ≡ exec inside n (todo (view_of p m.code.nodes) m.here) (store_of (opening p) m.here.state)
  pub printed : output_of m ≡ []
  pub given : m.given ≡ 0
  pub lost : m.lost ≡ false

-- a method of arrays by the units of its name
abbrev pub method_put : List ℕ → Function → Heap → Heap
method_put units function h =
    define (number_of ArrayPrototype) (hidden units (object (next_object h)))
    (freeze (next_object h) (closed (shape_of (OfMethod function)) units global_environment h))
