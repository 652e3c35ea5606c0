-- The start of a file that has counters: it asks for the step of its function's first call, and goes on at its own statements.
use Rattle.std.specs.Prelude.{◌≡◌, ◌≢◌, ℕ, suc, ◌+◌, ◌<◌, ◌≤◌, false, List, [], ◌∷◌, ◌++◌, map, length, codes, Option, Some, None}
use Rattle.std.specs.Str.{bytes_eq}
use Rattle.js_terms.specs.declared.words.Comment.{Comment}
use Rattle.js_terms.specs.declared.place.Loc.{Loc}
use Rattle.js_terms.specs.declared.words.Spelled.{Spelled}
use Rattle.js_tree.specs.Plain.{Directive, FunctionDeclaration, MakeFunction, MakeFunctionBody, no_param, Stmts, more_stmt, MakeFile}
use Rattle.js_value.specs.declared.value.Value.{Value}
use Rattle.js_value.specs.declared.built_in.Place.TheVariants.{ObjectPrototype}
use Rattle.js_value.specs.State.{Binding, Heap, Store}
use Rattle.js_value.specs.Objects.{object_at, next_object}
use Rattle.js_value.specs.Environments.{next_environment, environment_at, place_of, value_of}
use Rattle.js_value.specs.Realm.{number_of, global_environment, object, undefined}
use Rattle.js_value.specs.Running.{on_heap}
use Rattle.js_meaning.specs.declared.outcome.Completion.{Completion}
use Rattle.js_meaning.specs.Effects.{Comp, handle, ran, exec}
use Rattle.js_meaning.specs.Program.{Source, Sources, function_at}
use Rattle.js_meaning.specs.Scopes.{Hoisted, variable_of, once, stands_in, body_scope, function_stmts, body_made}
use Rattle.js_meaning.specs.Meaning.{comp_expr, comp_stmts}
use Rattle.js_meaning.specs.Files.{inside, begin, file_made, file_names, after_call, run_source}
use Rattle.js_meaning.specs.Steps.{Stopped, eval}
use Rattle.js_meaning.specs.declared.outcome.Outcome.TheVariants.{Stops}
use Rattle.js_value.specs.Functions.{name_units}
use Rattle.js_counter.specs.Represents.{Json, PlacedMembers, empty, plain, unit_text, json_of, member_at}
use Rattle.js_counter.specs.Literals.{Literal, expr_of, data_of, KeysApart}
use Rattle.js_meaning.specs.Points.{TakesOne}
use Rattle.js_counter.specs.Steady.{gives_actual, call_of}
use Rattle.js_counter.specs.First.{hash_, does, first_body, first_code, locals, NoName}
use Rattle.js_counter.specs.Preamble.{Fresh, Uncovered, Covered, NotInherited, Opened}

-- what a file begins with: its directives, its function, and a call of it
abbrev pub after_directives : List (Option Loc × Spelled) → Stmts → Stmts
after_directives [] xs = xs
after_directives (d ∷ ds) xs = more_stmt (Directive d.0 d.1) (after_directives ds xs)

abbrev pub opening_of : List (Option Loc × Spelled) → (name : List ℕ) → (path hash gcv : Spelled) → Literal → (number next : ℕ) → Stmts → Stmts
opening_of ds name path hash gcv made number next rest = after_directives ds
    (more_stmt (FunctionDeclaration None (record { loc = None; name = name }) (MakeFunction number no_param (MakeFunctionBody None (first_body name path hash gcv (expr_of made) next))))
    (more_stmt (does (call_of name)) rest))

-- the store in which its statements are run, and their environment
abbrev pub file_env : Store → ℕ
file_env b = next_environment b.heap

abbrev pub file_heap : Stmts → ℕ → Heap → Heap
file_heap xs exports h = body_made file_names (body_scope xs) (next_environment h) (file_made exports h)

abbrev pub file_store : Source → ℕ → Stmts → Store → Store
file_store source file xs s = let b = begin source file s in on_heap (file_heap xs (next_object s.heap)) b

-- where the call takes a step there, so does the start of the file
abbrev pub StartsFile : Type 0
StartsFile = (p : Sources) (source : Source) (file : ℕ) (ds : List (Option Loc × Spelled)) (name : List ℕ) (path hash gcv : Spelled) (made : Literal) (number next : ℕ) (rest : Stmts) (comments : List Comment)
    (s t : Store) (v : Value) → source.tree ≡ MakeFile (opening_of ds name path hash gcv made number next rest) comments →
    TakesOne p (comp_expr p (call_of name) (file_env (begin source file s))) (file_store source file (opening_of ds name path hash gcv made number next rest) s) v t →
    ((j : Completion → Comp) → eval (inside p) 0 (handle (run_source p source file) j) s ≡ Stopped (file_store source file (opening_of ds name path hash gcv made number next rest) s))
    × ((n : ℕ) (j : Completion → Comp) → eval (inside p) (suc n) (handle (run_source p source file) j) s
    ≡ eval (inside p) n (handle (handle (comp_stmts p rest (file_env (begin source file s))) after_call) j) t)

-- The names of a file

-- no function of a list has one of two names
abbrev pub Others : List ℕ → List ℕ → List Hoisted → Type 0
Others a b [] = Unit {0}
Others a b (f ∷ fs) = (bytes_eq f.name a ≡ false) × (bytes_eq f.name b ≡ false) × Others a b fs

abbrev pub file_bindings : Stmts → ℕ → List Binding
file_bindings xs exports =
    variable_of (object exports) (codes "exports") ∷ variable_of (object (exports + 2)) (codes "require") ∷ variable_of (object (exports + 1)) (codes "module") ∷
    (map (variable_of undefined) (once file_names (body_scope xs).variables) ++ (body_scope xs).lexical)

-- a file with a function of a name that is none of its own
pub record FileFresh (p : Sources) (xs : Stmts) (name : List ℕ) (path hash gcv : Spelled) (made : Literal) (number next : ℕ) (rest : Stmts) (s : Store) (g : ℕ) : Type 0 where
  pub older : (e o : ℕ) → e < next_environment s.heap → (environment_at s.heap e).outer ≡ Some o → o < e
  pub has_global : global_environment < next_environment s.heap
  pub place : ℕ
  pub global_named : place_of (environment_at s.heap global_environment) (codes "globalThis") ≡ Some place
  pub is_global : value_of s.heap (record { environment = global_environment; place = place }) ≡ Some (object g)
  pub is_code : function_at p number ≡ Some (first_code number name path hash gcv (expr_of made) next)
  pub is_next : function_at p next ≡ Some (gives_actual next None None None)
  pub free_name : NoName name (locals undefined undefined undefined undefined undefined undefined undefined)
  pub keys : KeysApart made
  pub own_name : stands_in name file_names ≡ false
  pub not_global : bytes_eq name (codes "globalThis") ≡ false
  pub others : Others name (codes "globalThis") (function_stmts rest)
  pub unnamed : NoName (codes "globalThis") (file_bindings xs (next_object s.heap))

-- at its call the name holds the function, not called before, and what was there before is there still
abbrev pub BeginsFresh : Type 0
BeginsFresh = (p : Sources) (source : Source) (file : ℕ) (ds : List (Option Loc × Spelled)) (name : List ℕ) (path hash gcv : Spelled) (made : Literal) (number next : ℕ) (rest : Stmts) (s : Store) (g : ℕ) →
    FileFresh p (opening_of ds name path hash gcv made number next rest) name path hash gcv made number next rest s g →
    Fresh p (file_store source file (opening_of ds name path hash gcv made number next rest) s).heap (file_env (begin source file s)) name path hash gcv made g
    × ((o : ℕ) → o < length s.heap.objects → (o < length (file_store source file (opening_of ds name path hash gcv made number next rest) s).heap.objects)
    × (object_at (file_store source file (opening_of ds name path hash gcv made number next rest) s).heap o ≡ object_at s.heap o))

-- The start, whole: no step left, it stops before anything of the call has happened; with one it takes it, and goes on at the file's own
-- statements in the store that the call left
pub record Started (p : Sources) (source : Source) (file : ℕ) (xs rest : Stmts) (s t : Store) : Type 0 where
  pub none : (j : Completion → Comp) → exec (inside p) 0 (handle (run_source p source file) j) s ≡ ran Stops (file_store source file xs s)
  pub some : (n : ℕ) (j : Completion → Comp) → exec (inside p) (suc n) (handle (run_source p source file) j) s
      ≡ exec (inside p) n (handle (handle (comp_stmts p rest (file_env (begin source file s))) after_call) j) t

pub record StartsWith (p : Sources) (source : Source) (file : ℕ) (xs rest : Stmts) (s : Store) (name : List ℕ) (path : Spelled) (gcv : List ℕ) (g c : ℕ) (ms : PlacedMembers) (json : Json) : Type 0 where
  pub opened : Opened p (file_store source file xs s) (file_env (begin source file s)) name path gcv g c ms json
  pub started : Started p source file xs rest s opened.store

-- the first file of a program that has counters: the coverage is made in its call
abbrev pub StartsFirst : Type 0
StartsFirst = (p : Sources) (source : Source) (file : ℕ) (ds : List (Option Loc × Spelled)) (name : List ℕ) (path hash gcv : Spelled) (made : Literal) (number next : ℕ) (rest : Stmts) (comments : List Comment) (s : Store) (g : ℕ) →
    source.tree ≡ MakeFile (opening_of ds name path hash gcv made number next rest) comments →
    FileFresh p (opening_of ds name path hash gcv made number next rest) name path hash gcv made number next rest s g →
    Uncovered s.heap g gcv.units → NotInherited s.heap path.units → number_of ObjectPrototype ≢ g →
    (c : ℕ) × (length (file_store source file (opening_of ds name path hash gcv made number next rest) s).heap.objects ≤ c)
    × StartsWith p source file (opening_of ds name path hash gcv made number next rest) rest s name path gcv.units g c empty (data_of made)

-- another file of it
abbrev pub StartsOther : Type 0
StartsOther = (p : Sources) (source : Source) (file : ℕ) (ds : List (Option Loc × Spelled)) (name : List ℕ) (path hash gcv : Spelled) (made : Literal) (number next : ℕ) (rest : Stmts) (comments : List Comment) (s : Store) (g c : ℕ) (ms : PlacedMembers) →
    source.tree ≡ MakeFile (opening_of ds name path hash gcv made number next rest) comments →
    FileFresh p (opening_of ds name path hash gcv made number next rest) name path hash gcv made number next rest s g →
    Covered s.heap g gcv.units c ms → NotInherited s.heap path.units → member_at ms path.units ≡ None →
    StartsWith p source file (opening_of ds name path hash gcv made number next rest) rest s name path gcv.units g c ms (data_of made)

-- the same file again, after it has left the cache
abbrev pub StartsAgain : Type 0
StartsAgain = (p : Sources) (source : Source) (file : ℕ) (ds : List (Option Loc × Spelled)) (name : List ℕ) (path hash gcv : Spelled) (made : Literal) (number next : ℕ) (rest : Stmts) (comments : List Comment) (s : Store) (g c : ℕ) (ms : PlacedMembers) (d : ℕ) (fs : PlacedMembers) →
    source.tree ≡ MakeFile (opening_of ds name path hash gcv made number next rest) comments →
    FileFresh p (opening_of ds name path hash gcv made number next rest) name path hash gcv made number next rest s g →
    Covered s.heap g gcv.units c ms → member_at ms path.units ≡ Some (plain d fs) → member_at fs (name_units hash_) ≡ Some (unit_text hash.units) →
    (x : StartsWith p source file (opening_of ds name path hash gcv made number next rest) rest s name path gcv.units g c ms (json_of (plain d fs))) × (x.opened.file ≡ plain d fs)
