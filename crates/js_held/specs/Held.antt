-- What a counted function means that an object holds under its name: the counter, and then the function with that name (8.4.5).
use Rattle.std.specs.Prelude.{◌≡◌, ℕ, true, List, Option, Some, None, IsSome}
use Rattle.js_tree.specs.Plain.{Expr, FunctionExpression, ArrowFunction, Parenthesized, Entered}
use Rattle.js_tree.specs.Codes.{Code, Ordinary, Arrow}
use Rattle.js_layout.specs.Printable.{IsName}
use Rattle.js_value.specs.Functions.{name_units}
use Rattle.js_value.specs.Realm.{object}
use Rattle.js_value.specs.Objects.{next_object}
use Rattle.js_value.specs.Running.{on_heap}
use Rattle.js_value.specs.State.{Store}
use Rattle.js_meaning.specs.Effects.{Comp, act, handle}
use Rattle.js_meaning.specs.Files.{inside}
use Rattle.js_meaning.specs.Meaning.{comp_expr, give, with_value}
use Rattle.js_meaning.specs.Program.{Sources}
use Rattle.js_meaning.specs.Scopes.{shape_of}
use Rattle.js_meaning.specs.Shapes.{held_made, holder_made}
use Rattle.js_meaning.specs.Steps.{eval}
use Rattle.cov_rewritten.specs.Counters.{after_counter, with_name}
use Rattle.cov_rewritten.specs.Rewritten.{is_anonymous}

-- the code of an anonymous function, parentheses notwithstanding
abbrev pub code_of : Expr → Option Code
code_of (FunctionExpression loc None function) = Some (Ordinary function)
code_of (ArrowFunction loc number params body) = Some (Arrow number params body)
code_of (Parenthesized loc e) = code_of e
code_of e = None

-- its closure with a name, made after one more object, which is a plain one with that closure as its only property
abbrev pub held_closure : Code → List ℕ → ℕ → Comp
held_closure code name env = act (on_heap (held_made (shape_of code) name env)) (λ s. give (object (next_object (holder_made s.heap))))

-- `(COUNTER,{["f"]:FUNCTION}["f"])`, with so many steps, is the counter and then that closure by the name f
abbrev pub HoldMeans : Type 0
HoldMeans = (p : Sources) (counter function : Expr) (f : List ℕ) (code : Code) (env n : ℕ) (s : Store) → IsName f → code_of function ≡ Some code →
    eval (inside p) n (comp_expr p (after_counter counter (with_name f function)) env) s
    ≡ eval (inside p) n (handle (comp_expr p counter env) (with_value (λ v. held_closure code (name_units f) env))) s

-- no mark stands at the expression, nor within its parentheses
abbrev pub IsUnmarked : Expr → Type 0
IsUnmarked (Parenthesized loc e) = IsUnmarked e
IsUnmarked (Entered mark e) = ⊥
IsUnmarked e = Unit {0}

-- what needs to be held has such a code
abbrev pub NeedsHold : Type 0
NeedsHold = (e : Expr) → is_anonymous e ≡ true → IsUnmarked e → IsSome (code_of e)
