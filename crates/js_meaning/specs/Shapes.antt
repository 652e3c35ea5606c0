-- What an instrumented text has in another shape than its source means the same.
use Rattle.std.specs.Prelude.{◌≡◌, ℕ, List, [], Option, Some}
use Rattle.js_terms.specs.declared.place.Loc.{Loc}
use Rattle.js_terms.specs.declared.words.Spelled.{Spelled}
use Rattle.js_tree.specs.Plain.{Expr, StringLiteral, ObjectLiteral, ComputedMember, KeyValue, ComputedKey, no_property, more_property, Stmt, Block, Stmts, no_stmt, more_stmt}
use Rattle.js_tree.specs.Codes.{Code}
use Rattle.js_value.specs.declared.built_in.Place.TheVariants.{ObjectPrototype}
use Rattle.js_value.specs.State.{Plain, Heap, Store}
use Rattle.js_value.specs.Objects.{next_object, new_object, define, assigned, get}
use Rattle.js_value.specs.Running.{on_heap}
use Rattle.js_value.specs.Realm.{number_of, object}
use Rattle.js_meaning.specs.Scopes.{Shape, block_scope, shape_of, closed}
use Rattle.js_meaning.specs.Program.{Sources}
use Rattle.js_meaning.specs.Meaning.{closure, give, named_function, comp_expr, comp_stmt, comp_stmts}
use Rattle.js_meaning.specs.Files.{inside}
use Rattle.js_meaning.specs.Steps.{eval}

-- An anonymous function that is held by an object's property has the property's name (13.2.5.5): it is what the function by that name
-- alone would be, but for one more object

abbrev pub holder_made : Heap → Heap
holder_made h = new_object Plain (Some (number_of ObjectPrototype)) h

-- the function, and the holder's property
abbrev pub held_made : Shape → List ℕ → ℕ → Heap → Heap
held_made shape name env h =
    define (next_object h) (assigned name (object (next_object (holder_made h)))) (closed shape name env (holder_made h))

-- the property is the function
abbrev pub GetsHeld : Type 0
GetsHeld = (shape : Shape) (name : List ℕ) (env : ℕ) (h : Heap) →
    get (held_made shape name env h) (next_object h) name ≡ Some (object (next_object (holder_made h)))

-- `{[NAME]: E}[NAME]`
abbrev pub held : Option Loc → Spelled → Expr → Expr
held loc name e = ComputedMember loc (ObjectLiteral loc (more_property (KeyValue loc (ComputedKey (StringLiteral loc name)) e) no_property)) (StringLiteral loc name)

abbrev pub HoldsName : Type 0
HoldsName = (p : Sources) (loc : Option Loc) (name : Spelled) (e : Expr) (code : Code) (env n : ℕ) (s : Store) →
    named_function e name.units env ≡ Some (closure code name.units env) →
    eval (inside p) n (comp_expr p (held loc name e) env) s
    ≡ eval (inside p) n (give (object (next_object (holder_made s.heap)))) (on_heap (held_made (shape_of code) name.units env) s)

-- Statements

abbrev pub DeclaresNothing : Stmts → Type 0
DeclaresNothing xs = ((block_scope xs).variables ≡ []) × ((block_scope xs).lexical ≡ [])

-- a block that declares nothing is its statements
abbrev pub BlocksAlone : Type 0
BlocksAlone = (p : Sources) (loc : Option Loc) (xs : Stmts) (labels : List (List ℕ)) (env : ℕ) → DeclaresNothing xs →
    comp_stmt p (Block loc xs) labels env ≡ comp_stmts p xs env

-- and one statement in a list is that statement
abbrev pub OneAlone : Type 0
OneAlone = (p : Sources) (x : Stmt) (env : ℕ) → comp_stmts p (more_stmt x no_stmt) env ≡ comp_stmt p x [] env
