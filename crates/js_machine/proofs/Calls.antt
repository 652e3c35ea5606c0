-- Calls of functions of a program, and the names of their bodies.
use Rattle.std.proofs.Common.{◌≡◌, ℕ, Bool, true, false, List, Option, refl}
use Rattle.js_terms.specs.declared.place.Loc.{Loc}
use Rattle.js_tree.specs.Plain as P
use Rattle.js_tree.specs.Plain.{MakeFunction}
use Rattle.js_tree.specs.Codes.{Code, Ordinary, OfMethod, Arrow}
use Rattle.js_value.specs.declared.value.Value.{Value}
use Rattle.js_value.specs.declared.value.Value.TheVariants as value
use Rattle.js_value.specs.Objects.{kind_of}
use Rattle.js_heap.specs.declared.heap.Heap.{Heap}
use Rattle.js_heap.specs.Heap.{heap_of}
use Rattle.js_code.specs.Node.{arrow_body, of_method}
use Rattle.js_meaning.specs.Effects.{Comp, handle}
use Rattle.js_meaning.specs.Program.{Sources}
use Rattle.js_meaning.specs.Scopes.{body_made, body_scope, call_made, param_names, params_of}
use Rattle.js_meaning.specs.Meaning as M
use Rattle.js_meaning.specs.Meaning.{with_value, within, comp_params, comp_concise}
use Rattle.js_meaning.specs.Files.{comp_code, in_body}
use Rattle.js_machine.specs.private.Config.{called_in, code_scope, constructed_in, own_this, this_of_call}
use Rattle.js_machine.specs.private.State.{Turns}
use Rattle.js_machine.proofs.Acts.{acts, looks_at, same_comp}

-- the environment of a call is made, and the rest is done in it
pub starts_call : (p : Sources) (code : Code) (env : ℕ) (this : Value) (arguments : List Value) →
    within (call_made (this_of_call (own_this code this)) (param_names (params_of code)) env) (λ e.
    handle (comp_params p (params_of code) e arguments) (with_value (λ v. in_body (params_of code) (code_scope code) e (comp_concise p (arrow_body code)))))
    ≡ comp_code p code env this arguments
starts_call p (Ordinary (MakeFunction number params body)) env this arguments = refl
starts_call p (OfMethod (MakeFunction number params body)) env this arguments = refl
starts_call p (Arrow number params body) env this arguments = refl

-- what is called is looked at
pub call_turns : (callee this : Value) (arguments : List Value) (h : Heap) (d : Comp) → d ≡ called_in (heap_of h) callee this arguments → Turns (M.call callee this arguments) h d h
call_turns (value.Primitive v) this arguments h d is = same_comp h _ d is
call_turns (value.Object o) this arguments h d is = looks_at h (λ g. M.call_kind (kind_of g o.index) o.index this arguments) d is

pub construct_turns : (p : Sources) (maker : Value) (arguments : List Value) (h : Heap) (d : Comp) → d ≡ constructed_in p (heap_of h) maker arguments →
    Turns (M.construct p maker arguments) h d h
construct_turns p (value.Primitive v) arguments h d is = same_comp h _ d is
construct_turns p (value.Object o) arguments h d is = looks_at h (λ g. M.construct_kind p (kind_of g o.index) o.index arguments) d is

-- the names of a body by its code
abbrev pub in_code : Code → ℕ → (ℕ → Comp) → Comp
in_code code env next = in_body (params_of code) (code_scope code) env next

pub method_names : (b : Bool) (number : ℕ) (params : P.Params) (loc : Option Loc) (xs : P.Stmts) (env : ℕ) (next : ℕ → Comp) →
    in_body params (body_scope xs) env next ≡ in_code (of_method b (MakeFunction number params (P.MakeFunctionBody loc xs))) env next
method_names true number params loc xs env next = refl
method_names false number params loc xs env next = refl

-- a function that declares nothing
pub no_names : (number : ℕ) (loc : Option Loc) (env : ℕ) (h : Heap) (next : ℕ → Comp) →
    Turns (in_code (Ordinary (MakeFunction number P.no_param (P.MakeFunctionBody loc P.no_stmt))) env next) h (next env) h
no_names number loc env h next = acts h h (body_made (param_names P.no_param) (body_scope P.no_stmt) env) (λ g. next env) (next env) refl refl
