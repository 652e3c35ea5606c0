-- What is done at once, without what waits.
use Rattle.std.specs.Prelude.{◌≡◌, ℕ, Bool, true, false, ◌&&◌, List, [], None}
use Rattle.js_tree.specs.Plain as P
use Rattle.js_value.specs.declared.value.Value.{Value}
use Rattle.js_heap.specs.declared.heap.Heap.{Heap}
use Rattle.js_code.specs.Part.{as_exprs}
use Rattle.js_meaning.specs.Effects.{Comp, refuse, handle}
use Rattle.js_meaning.specs.Meaning as M
use Rattle.js_meaning.specs.Scopes.{bound}
use Rattle.js_machine.specs.declared.at_once.Done.{Done}
use Rattle.js_machine.specs.declared.at_once.Done.TheVariants as done
use Rattle.js_machine.specs.private.Config.{View, expr_at}
use Rattle.js_machine.specs.private.State.{Turns}

-- the expression at a place has a value, for which the heap doesn't change; a name that is given to it changes nothing
pub record HasValue (t : View) (place env : ℕ) (h : Heap) (v : Value) : Type 0 where
  pub turns : Turns (M.comp_expr t.program (expr_at t place) env) h (M.give v) h
  pub unnamed : (name : List ℕ) → M.named_function (expr_at t place) name env ≡ None

-- a reference is called, by its `this`, with the arguments of a list (13.3.6)
abbrev pub calls : View → ℕ → ℕ → M.Reference → Comp
calls t arguments env r = handle (M.get_value env r) (M.with_value (λ f. M.comp_values t.program (as_exprs (t.tree arguments)) env [] (M.call f (M.this_of r))))

-- what came of it
abbrev pub done_comp : Done → Comp
done_comp (done.Gives v) = M.give v
done_comp (done.Throws c) = M.complain c
done_comp (done.Refuses k) = refuse k

-- parameters without defaults, and the name of one
abbrev pub is_plain : P.Param → Bool
is_plain (P.MakeParam loc pattern P.none_expr) = true
is_plain _ = false

abbrev pub are_plain : P.Params → Bool
are_plain P.no_param = true
are_plain (P.more_param x xs) = is_plain x && are_plain xs

abbrev pub param_name : P.Param → List ℕ
param_name (P.MakeParam loc pattern e) = bound pattern
