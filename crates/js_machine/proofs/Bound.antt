-- Parameters that take their arguments at once.
use Rattle.std.proofs.Common.{◌≡◌, ℕ, Bool, true, false, ◌&&◌, List, Some, None, Option, refl, sym, subst, ap, if◌then◌else◌}
use Rattle.js_terms.specs.declared.place.Loc.{Loc}
use Rattle.js_tree.specs.Plain as P
use Rattle.js_value.specs.declared.value.Value.{Value}
use Rattle.js_value.specs.declared.deed.Complaint.TheVariants.{NotDefined}
use Rattle.js_value.specs.Environments.{Cell, init_name, lookup}
use Rattle.js_heap.specs.declared.heap.Heap.{Heap}
use Rattle.js_heap.specs.Heap.{heap_of}
use Rattle.js_code.specs.declared.node.Node.{Node}
use Rattle.js_code.specs.declared.node.Node.TheVariants as node
use Rattle.js_code.specs.Node.{Reader, build}
use Rattle.js_code.specs.Part.{as_expr_if}
use Rattle.js_meaning.specs.Effects.{Comp}
use Rattle.js_meaning.specs.Program.{Sources}
use Rattle.js_meaning.specs.Meaning as M
use Rattle.js_meaning.specs.Scopes.{bound}
use Rattle.js_machine.specs.declared.at_once.Done.TheVariants as done
use Rattle.js_machine.specs.private.AtOnce.{are_plain, is_plain, param_name}
use Rattle.js_machine.specs.private.State.{Turns}
use Rattle.js_machine.proofs.Acts.{acts, same_comp}
use Rattle.js_machine.proofs.AtOnce.{done_then, gives_then}
use Rattle.js_machine.proofs.OtherNodes.{some_expr_if}

-- one takes its argument
pub param_turns : (p : Sources) (x : P.Param) (xs : P.Params) (env : ℕ) (arguments : List Value) (cell : Cell) (g h : Heap) → is_plain x ≡ true →
    heap_of h ≡ init_name env (param_name x) (M.first_or_undefined arguments) (heap_of g) → lookup (heap_of g) env (param_name x) ≡ Some cell →
    Turns (M.comp_params p (P.more_param x xs) env arguments) g (M.comp_params p xs env (M.rest_of arguments)) h
param_turns p (P.MakeParam loc pattern P.none_expr) xs env arguments cell g h plain after found =
    gives_then (M.initialize (bound pattern) env (M.first_or_undefined arguments)) (M.first_or_undefined arguments) (λ w. M.comp_params p xs env (M.rest_of arguments)) (M.comp_params p xs env (M.rest_of arguments)) g h h
    (acts g h (init_name env (bound pattern) (M.first_or_undefined arguments)) (λ s. M.initializes (M.first_or_undefined arguments) (lookup s env (bound pattern))) (M.give (M.first_or_undefined arguments)) after
    (sym (ap (M.initializes (M.first_or_undefined arguments)) found)))
    (same_comp h (M.comp_params p xs env (M.rest_of arguments)) (M.comp_params p xs env (M.rest_of arguments)) refl)
param_turns p (P.MakeParam loc pattern (P.some_expr e)) xs env arguments cell g h plain after found = cc

-- the name of one isn't there
pub param_stops : (p : Sources) (x : P.Param) (xs : P.Params) (env : ℕ) (arguments : List Value) (g h : Heap) → is_plain x ≡ true →
    heap_of h ≡ init_name env (param_name x) (M.first_or_undefined arguments) (heap_of g) → lookup (heap_of g) env (param_name x) ≡ None →
    Turns (M.comp_params p (P.more_param x xs) env arguments) g (M.complain NotDefined) h
param_stops p (P.MakeParam loc pattern P.none_expr) xs env arguments g h plain after found =
    done_then (M.initialize (bound pattern) env (M.first_or_undefined arguments)) (done.Throws NotDefined) (λ w. M.comp_params p xs env (M.rest_of arguments)) g h
    (acts g h (init_name env (bound pattern) (M.first_or_undefined arguments)) (λ s. M.initializes (M.first_or_undefined arguments) (lookup s env (bound pattern))) (M.complain NotDefined) after
    (sym (ap (M.initializes (M.first_or_undefined arguments)) found)))
param_stops p (P.MakeParam loc pattern (P.some_expr e)) xs env arguments g h plain after found = cc

-- a parameter whose default is missing, or isn't
pub plain_told : (t : Reader) (b : Bool) (n : Node) (loc name_loc : Option Loc) (name : List ℕ) → (b ≡ true → n ≡ node.Missing) → (b ≡ false → n ≡ node.Missing → ⊥) →
    b ≡ is_plain (P.MakeParam loc (P.BindingIdentifier name_loc name) (as_expr_if (build t n)))
plain_told t true n loc name_loc name missing there = ap (λ m. is_plain (P.MakeParam loc (P.BindingIdentifier name_loc name) (as_expr_if (build t m)))) (sym (missing refl))
plain_told t false n loc name_loc name missing there = ap (λ e. is_plain (P.MakeParam loc (P.BindingIdentifier name_loc name) e)) (sym (some_expr_if t n (there refl)))

both_true : (a b : Bool) → (a && b) ≡ true → (a ≡ true) × (b ≡ true)
both_true true b h = (refl, h)
both_true false b h = cc

-- of a list without defaults, the first has none, and no other has
pub plain_parts : (x : P.Param) (xs : P.Params) → are_plain (P.more_param x xs) ≡ true → (is_plain x ≡ true) × (are_plain xs ≡ true)
plain_parts x xs h = both_true (is_plain x) (are_plain xs) h

-- what one does where it is known whether it took its argument
pub taken_turns : (b c : Bool) (a d e : Comp) (g h : Heap) → b ≡ c → Turns a g (if b then d else e) h → Turns a g (if c then d else e) h
taken_turns b c a d e g h is turns = subst (λ x. Turns a g (if x then d else e) h) is turns
