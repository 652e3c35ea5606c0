-- What a step is for, and how a file begins (ECMA-262, 10.2.1, 10.2.2 and 10.2.11; the body of a CommonJS file).
use Rattle.std.specs.Prelude.{ℕ, ◌+◌, true, List, [], ◌∷◌, Option, Some, None, is_some, slice_get, codes, if◌then◌else◌}
use Rattle.js_tree.specs.Plain as P
use Rattle.js_tree.specs.Plain.{MakeFile, MakeFunction, Params}
use Rattle.js_tree.specs.Codes.{Code, Ordinary, OfMethod, Arrow}
use Rattle.js_value.specs.declared.value.Value.{Value}
use Rattle.js_value.specs.declared.value.Value.TheVariants as value
use Rattle.js_value.specs.declared.deed.Complaint.TheVariants.{NotAFunction, NoSuchFile}
use Rattle.js_value.specs.declared.built_in.Place.TheVariants.{ObjectPrototype, FunctionPrototype}
use Rattle.js_value.specs.declared.built_in.TheConstants.{FUNCTIONS}
use Rattle.js_value.specs.State.{ObjectKind, Plain, BuiltIn, Written, Binding, Heap, Store}
use Rattle.js_value.specs.Objects.{kind_of, next_object, new_object, define, assigned, freeze, get}
use Rattle.js_value.specs.Running.{on_heap, write, note, start, cached, put_in_cache, leave_cache, make_requiring}
use Rattle.js_value.specs.Realm.{number_of, global_environment, object, undefined}
use Rattle.js_value.specs.Realm as realm
use Rattle.js_value.specs.Requiring.{required_path}
use Rattle.js_value.specs.Host.{Native, Answers, Throws, Refuses, Writes, Calls, Requires, native_of, native_heap}
use Rattle.js_meaning.specs.declared.outcome.Completion.{Completion}
use Rattle.js_meaning.specs.declared.outcome.Completion.TheVariants.{Return, Throw}
use Rattle.js_meaning.specs.Effects.{Entry, Call, New, CallBuiltIn, Turn, Pass, Construct, Start, Comp, ret, refuse, act, enter, handle}
use Rattle.js_meaning.specs.Program.{Source, Sources, function_at, file_at}
use Rattle.js_value.specs.Functions.{instance_made, is_handing}
use Rattle.js_value.specs.OnObjects.{or_undefined}
use Rattle.js_meaning.specs.Scopes.{Scope, body_scope, variable_of, scope_made, call_made, body_made, apart_made, has_defaults, param_names, body_stmts, concise_stmts}
use Rattle.js_meaning.specs.Meaning.{with_value, give, done, looks, within, complain, throw_error, comp_stmts, comp_turn, comp_pass, comp_params, comp_body, comp_concise}

-- Functions of a program

-- the names of a body are made, beside its parameters or apart from them (10.2.11, 27 and 28)
abbrev pub in_body : Params → Scope → ℕ → (ℕ → Comp) → Comp
in_body params scope e next =
    if has_defaults params then within (apart_made (param_names params) scope e) next
    else act (on_heap (body_made (param_names params) scope e)) (λ s. next e)

-- a call, up to the completion of its body (10.2.1.3)
abbrev pub comp_function : Sources → Params → Scope → (ℕ → Comp) → List Binding → ℕ → List Value → Comp
comp_function p params scope body this env arguments = within (call_made this (param_names params) env) (λ e.
    handle (comp_params p params e arguments) (with_value (λ v. in_body params scope e body)))

-- 10.2.1.2: `this` is a name that nothing assigns to; in an arrow function it is that of the functions around it
abbrev pub this_bound : Value → List Binding
this_bound v = record { name = codes "this"; value = Some v; constant = true } ∷ []

abbrev pub comp_code : Sources → Code → ℕ → Value → List Value → Comp
comp_code p (Ordinary (MakeFunction number params body)) env this arguments =
    comp_function p params (body_scope (body_stmts body)) (comp_body p body) (this_bound this) env arguments
comp_code p (OfMethod (MakeFunction number params body)) env this arguments =
    comp_function p params (body_scope (body_stmts body)) (comp_body p body) (this_bound this) env arguments
comp_code p (Arrow number params body) env this arguments =
    comp_function p params (body_scope (concise_stmts body)) (comp_concise p body) [] env arguments

-- a number that no function has stands for one that does nothing
abbrev pub comp_coded : Sources → Option Code → ℕ → Value → List Value → Comp
comp_coded p None env this arguments = done
comp_coded p (Some code) env this arguments = comp_code p code env this arguments

-- after a body (10.2.1, 8 to 11): the value of a call
abbrev pub after_call : Completion → Comp
after_call (Return v) = give v
after_call (Throw v) = ret (Throw v)
after_call _ = done

abbrev pub call_code : Sources → ℕ → ℕ → Value → List Value → Comp
call_code p code env this arguments = handle (comp_coded p (function_at p code) env this arguments) after_call

-- after the body of a constructor (10.2.2, 9 to 13): the object that it returns, or else the one that was made
abbrev pub object_or : ℕ → Value → Value
object_or made (value.Object o) = value.Object o
object_or made (value.Primitive p) = object made

abbrev pub after_construct : ℕ → Completion → Comp
after_construct made (Return v) = give (object_or made v)
after_construct made (Throw v) = ret (Throw v)
after_construct made _ = give (object made)

-- 10.2.2: the object is made, and then it is `this`
abbrev pub construct_code : Sources → ℕ → ℕ → ℕ → List Value → Comp
construct_code p maker code env arguments = act (on_heap (instance_made maker)) (λ s.
    handle (comp_coded p (function_at p code) env (object (next_object s.heap)) arguments) (after_construct (next_object s.heap)))

-- Files

-- the objects `exports`, `module`, whose property `exports` is the first, and `require`, which is frozen
abbrev pub file_objects : Heap → Heap
file_objects h =
    freeze (next_object h + 2) (realm.function_made FunctionPrototype FUNCTIONS (codes "require") 1
    (define (next_object h + 1) (assigned (codes "exports") (object (next_object h)))
    (new_object Plain (Some (number_of ObjectPrototype)) (new_object Plain (Some (number_of ObjectPrototype)) h))))

-- a file starts: it is told, it comes into the cache with a fresh object `module`, and it has a `require` of its own
abbrev pub begin : Source → ℕ → Store → Store
begin source file s = make_requiring (next_object s.heap + 2) source.path (put_in_cache source.path (next_object s.heap + 1)
    (on_heap file_objects (start source.counted file s)))

-- the names of a file's objects
abbrev pub file_names : List (List ℕ)
file_names = codes "exports" ∷ codes "require" ∷ codes "module" ∷ []

abbrev pub file_made : ℕ → Heap → Heap
file_made exports h = scope_made (
    variable_of (object exports) (codes "exports") ∷
    variable_of (object (exports + 2)) (codes "require") ∷
    variable_of (object (exports + 1)) (codes "module") ∷ []) global_environment h

-- a file is the body of a function of these names
abbrev pub comp_file : Sources → P.File → ℕ → Comp
comp_file p (MakeFile xs comments) exports = within (file_made exports) (λ e.
    act (on_heap (body_made file_names (body_scope xs) e)) (λ s. handle (comp_stmts p xs e) after_call))

abbrev pub run_source : Sources → Source → ℕ → Comp
run_source p source file = act (begin source file) (λ s. comp_file p source.tree (next_object s.heap))

-- a number that no file has stands for a file without statements
abbrev pub run_file : Sources → Option Source → ℕ → Comp
run_file p None file = done
run_file p (Some source) file = run_source p source file

-- a step is charged for the start of a counted file
abbrev pub start_source : Sources → Option Source → ℕ → Comp
start_source p None file = done
start_source p (Some source) file = if source.counted then enter (Start file) ret else run_source p source file

abbrev pub start_file : Sources → ℕ → Comp
start_file p file = start_source p (slice_get p.files file) file

-- `require`

-- what a file that was started gives: the property `exports` of its `module`
abbrev pub exports_in : Heap → Option ℕ → Value
exports_in h None = undefined
exports_in h (Some o) = or_undefined (get h o (codes "exports"))

abbrev pub exports_of : List ℕ → Comp
exports_of path = looks (λ s. give (exports_in s.heap (cached s path)))

-- a file that throws leaves the cache
abbrev pub after_start : List ℕ → Completion → Comp
after_start path (Throw v) = act (leave_cache path) (λ s. ret (Throw v))
after_start path c = exports_of path

abbrev pub require_new : Sources → List ℕ → Option ℕ → Comp
require_new p path None = complain NoSuchFile
require_new p path (Some file) = handle (start_file p file) (after_start path)

abbrev pub require_path : Sources → Store → Option (List ℕ) → Comp
require_path p s None = complain NoSuchFile
require_path p s (Some path) = if is_some (cached s path) then exports_of path else require_new p path (file_at p path)

-- Built-in functions

-- what a built-in function answers, as a computation: by the function itself, and with what is done where it hands on control
abbrev pub native : Sources → (Value → Value → List Value → Comp) → ℕ → Native → Comp
native p calls callee (Answers v) = give v
native p calls callee (Throws kind message) = throw_error kind message
native p calls callee (Refuses k) = refuse k
native p calls callee (Writes bytes) = act (write bytes) (λ s. done)
native p calls callee (Calls function this arguments) = calls function this arguments
native p calls callee (Requires units) = looks (λ s. require_path p s (required_path s callee units))

-- its answer is that of the heap before the call
abbrev pub call_native : Sources → (Value → Value → List Value → Comp) → ℕ → ℕ → Option ℕ → Value → List Value → Comp
call_native p calls callee function maker this arguments = act
    (on_heap (native_heap function (is_some maker) this arguments))
    (λ s. native p calls callee (native_of function (is_some maker) this arguments s.heap))

-- `call` and `apply` hand on control within their own step (20.2.3.1, 20.2.3.3); one that they reach is a call with a step of its own
abbrev pub hand_built_in : Sources → ℕ → ℕ → Value → List Value → Comp
hand_built_in p callee function this arguments =
    if is_handing function then enter (CallBuiltIn callee function None this arguments) ret
    else call_native p (λ f t vs. done) callee function None this arguments

abbrev pub hand_kind : Sources → ObjectKind → ℕ → Value → List Value → Comp
hand_kind p (BuiltIn function) callee this arguments = hand_built_in p callee function this arguments
hand_kind p (Written code env) callee this arguments = call_code p code env this arguments
hand_kind p _ callee this arguments = complain NotAFunction

abbrev pub hand_on : Sources → Value → Value → List Value → Comp
hand_on p (value.Primitive v) this arguments = complain NotAFunction
hand_on p (value.Object o) this arguments = looks (λ s. hand_kind p (kind_of s.heap o.index) o.index this arguments)

-- What a step is for

abbrev pub inside : Sources → Entry → Comp
inside p (Call code env this arguments) = call_code p code env this arguments
inside p (New maker code env arguments) = construct_code p maker code env arguments
inside p (CallBuiltIn callee function maker this arguments) = call_native p (hand_on p) callee function maker this arguments
inside p (Turn x labels env) = comp_turn p x labels env
inside p (Pass x labels env inner rest) = comp_pass p x labels env inner rest
inside p (Construct mark) = act (note mark) (λ s. done)
inside p (Start file) = run_file p (slice_get p.files file) file
