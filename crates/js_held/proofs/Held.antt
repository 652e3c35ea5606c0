-- After the counter, whatever it comes to, the held function is what the law on held names says.
use Rattle.std.proofs.Common.{◌≡◌, ℕ, zero, suc, List, Option, Some, None, refl, sym, ap, ◌∙◌, subst}
use Rattle.std.proofs.Math.Path.{fun_ext}
use Rattle.js_tree.specs.Plain.{Expr, FunctionExpression, ArrowFunction, Parenthesized, Entered}
use Rattle.js_tree.specs.Codes.{Code}
use Rattle.js_layout.specs.Printable.{IsName}
use Rattle.js_value.specs.Functions.{name_units}
use Rattle.js_value.specs.Objects.{next_object}
use Rattle.js_value.specs.Realm.{object}
use Rattle.js_value.specs.Running.{on_heap}
use Rattle.js_value.specs.State.{Store}
use Rattle.js_meaning.specs.declared.outcome.Completion.{Completion}
use Rattle.js_meaning.specs.declared.outcome.Completion.TheVariants as completion
use Rattle.js_meaning.specs.Effects.{handle}
use Rattle.js_meaning.specs.Files.{inside}
use Rattle.js_meaning.specs.Meaning.{closure, comp_expr, give, named_function, with_value}
use Rattle.js_meaning.specs.Program.{Sources}
use Rattle.js_meaning.specs.Scopes.{shape_of}
use Rattle.js_meaning.specs.Shapes.{HoldsName, held_made, holder_made}
use Rattle.js_meaning.specs.Steps.{eval, then_go}
use Rattle.js_meaning.proofs.Handle.{eval_handle}
use Rattle.js_suits.proofs.QuotedUnits.{quoted_units}
use Rattle.cov_rewritten.specs.Counters.{after_counter, quoted, with_name}
use Rattle.js_held.specs.Held.{HoldMeans, NeedsHold, code_of, held_closure}

-- a function is the closure of its code under any name
closes : (e : Expr) (code : Code) (name : List ℕ) (env : ℕ) → code_of e ≡ Some code → named_function e name env ≡ Some (closure code name env)
closes (FunctionExpression loc None function) code name env is = ap (λ (c : Option Code). elim c [ None ↦ None | Some d ↦ Some (closure d name env) ]) is
closes (ArrowFunction loc number params body) code name env is = ap (λ (c : Option Code). elim c [ None ↦ None | Some d ↦ Some (closure d name env) ]) is
closes (Parenthesized loc e) code name env is = closes e code name env is
closes e code name env is = absurd cc

module _ (holds_name : HoldsName) (p : Sources) (function : Expr) (f : List ℕ) (code : Code) (env : ℕ) (word : IsName f) (is : code_of function ≡ Some code) where
  -- with any store and any number of steps
  held : (n : ℕ) (s : Store) → eval (inside p) n (comp_expr p (with_name f function) env) s ≡ eval (inside p) n (held_closure code (name_units f) env) s
  held n s =
      subst (λ units. eval (inside p) n (comp_expr p (with_name f function) env) s ≡ eval (inside p) n (held_closure code units env) s) (quoted_units f word)
      (holds_name p None (quoted f) function code env n s (closes function code (quoted f).units env is) ∙ acts n)
    where
      acts : (m : ℕ) → eval (inside p) m (give (object (next_object (holder_made s.heap)))) (on_heap (held_made (shape_of code) (quoted f).units env) s) ≡ eval (inside p) m (held_closure code (quoted f).units env) s
      acts zero = refl
      acts (suc n) = refl

  -- after a completion
  after : (d : Completion) (n : ℕ) (s : Store) → eval (inside p) n (with_value (λ v. comp_expr p (with_name f function) env) d) s ≡ eval (inside p) n (with_value (λ v. held_closure code (name_units f) env) d) s
  after (completion.Normal v) n s = held n s
  after other n s = refl

  hold : (counter : Expr) (n : ℕ) (s : Store) →
      eval (inside p) n (comp_expr p (after_counter counter (with_name f function)) env) s ≡ eval (inside p) n (handle (comp_expr p counter env) (with_value (λ v. held_closure code (name_units f) env))) s
  hold counter n s =
      eval_handle (inside p) n (comp_expr p counter env) (with_value (λ v. comp_expr p (with_name f function) env)) s
      ∙ ap (then_go (eval (inside p) n (comp_expr p counter env) s)) (fun_ext (λ d. fun_ext (λ left. fun_ext (λ t. after d left t))))
      ∙ sym (eval_handle (inside p) n (comp_expr p counter env) (with_value (λ v. held_closure code (name_units f) env)) s)

pub hold_means : HoldsName → HoldMeans
hold_means holds_name p counter function f code env n s word is = hold holds_name p function f code env word is counter n s

pub needs_hold : NeedsHold
needs_hold (FunctionExpression loc None function) is unmarked = refl
needs_hold (ArrowFunction loc number params body) is unmarked = refl
needs_hold (Parenthesized loc e) is unmarked = needs_hold e is unmarked
needs_hold (Entered mark e) is unmarked = absurd unmarked
needs_hold e is unmarked = absurd cc
