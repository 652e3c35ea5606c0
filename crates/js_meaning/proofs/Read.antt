-- The forms, as one reads them.
use Rattle.std.proofs.Common.{◌≡◌, ℕ, zero, suc, Bool, true, false, [], refl, ap, ◌∙◌, if◌then◌else◌}
use Rattle.js_value.specs.declared.value.Value.{Value}
use Rattle.js_value.specs.Operators.{to_boolean}
use Rattle.js_value.specs.State.{Store}
use Rattle.js_meaning.specs.declared.outcome.Completion.{Completion}
use Rattle.js_meaning.specs.declared.outcome.Completion.TheVariants.{Normal, Break, Continue, Return, Throw}
use Rattle.js_tree.specs.Plain.{While}
use Rattle.js_value.specs.Realm.{undefined}
use Rattle.js_meaning.specs.Effects.{Entry, Turn, Comp, ret, enter, handle}
use Rattle.js_meaning.specs.Program.{Sources}
use Rattle.js_meaning.specs.Meaning.{with_value, done, turn, comp_turn, after_turn, choose, comp_expr, comp_stmt, comp_stmt_if}
use Rattle.js_meaning.specs.Files.{inside}
use Rattle.js_meaning.specs.Steps.{Result, Completed, Refused, Stopped, then_go, eval}
use Rattle.js_meaning.specs.Laws.{on_value, with_step, Follows, TurnsByStep, TurnsAgain, ChoosesArm}
use Rattle.js_meaning.proofs.Handle.{eval_handle, handle_ret}

module _ (p : Sources) where
  -- after a value, or any other completion, the same results come
  on_value_is : (f : Value → Comp) (g : Value → ℕ → Store → Result)
      (same : (v : Value) (n : ℕ) (s : Store) → eval (inside p) n (f v) s ≡ g v n s)
      (c : Completion) (n : ℕ) (s : Store) → eval (inside p) n (with_value f c) s ≡ on_value g c n s
  on_value_is f g same (Normal v) n s = same v n s
  on_value_is f g same (Break label) zero s = refl
  on_value_is f g same (Break label) (suc n) s = refl
  on_value_is f g same (Continue label) zero s = refl
  on_value_is f g same (Continue label) (suc n) s = refl
  on_value_is f g same (Return v) zero s = refl
  on_value_is f g same (Return v) (suc n) s = refl
  on_value_is f g same (Throw v) zero s = refl
  on_value_is f g same (Throw v) (suc n) s = refl

  then_same : (r : Result) (f g : Completion → ℕ → Store → Result)
      (same : (c : Completion) (n : ℕ) (s : Store) → f c n s ≡ g c n s) → then_go r f ≡ then_go r g
  then_same (Completed c left s) f g same = same c left s
  then_same (Refused k s) f g same = refl
  then_same (Stopped s) f g same = refl

  -- a computation, and then another with its value
  pub value_then : (c : Comp) (f : Value → Comp) (g : Value → ℕ → Store → Result)
      (same : (v : Value) (n : ℕ) (s : Store) → eval (inside p) n (f v) s ≡ g v n s) (n : ℕ) (s : Store) →
      eval (inside p) n (handle c (with_value f)) s ≡ then_go (eval (inside p) n c s) (on_value g)
  value_then c f g same n s = eval_handle (inside p) n c (with_value f) s
      ∙ then_same (eval (inside p) n c s) (λ d left t. eval (inside p) left (with_value f d) t) (on_value g) (on_value_is f g same)

  -- with one step, and nothing after what it is for
  entered_alone : (e : Entry) (n : ℕ) (s : Store) →
      eval (inside p) n (enter e ret) s ≡ with_step (λ fewer. eval (inside p) fewer (inside p e) s) n s
  entered_alone e zero s = refl
  entered_alone e (suc n) s = ap (λ c. eval (inside p) n c s) (handle_ret (inside p e))

  nothing_done : (n : ℕ) (s : Store) → eval (inside p) n done s ≡ Completed (Normal undefined) n s
  nothing_done zero s = refl
  nothing_done (suc n) s = refl

  by_choice : (b : Bool) (c d : Comp) (q r : Result) (n : ℕ) (s : Store) → eval (inside p) n c s ≡ q → eval (inside p) n d s ≡ r →
      eval (inside p) n (if b then c else d) s ≡ (if b then q else r)
  by_choice true c d q r n s first second = first
  by_choice false c d q r n s first second = second

pub follows : Follows
follows p x y ys env n s = value_then p _ _ _ (λ v left t. refl) n s

pub turns_by_step : TurnsByStep
turns_by_step p loc test body labels env n s = value_then p (comp_expr p test env) (turn (While loc test body) labels env)
    (λ v left t. if to_boolean v
    then with_step (λ fewer. eval (inside p) fewer (comp_turn p (While loc test body) labels env) t) left t
    else Completed (Normal undefined) left t)
    (λ v left t. by_choice p (to_boolean v) _ _ _ _ left t
    (entered_alone p (Turn (While loc test body) labels env) left t) (nothing_done p left t)) n s

pub turns_again : TurnsAgain
turns_again p loc test body labels env n s = eval_handle (inside p) n (comp_stmt p body [] env)
    (after_turn labels (comp_stmt p (While loc test body) labels env)) s

pub chooses_arm : ChoosesArm
chooses_arm p loc test holds fails labels env n s = value_then p (comp_expr p test env)
    (choose (comp_stmt p holds [] env) (comp_stmt_if p fails env))
    (λ v left t. if to_boolean v
    then eval (inside p) left (comp_stmt p holds [] env) t
    else eval (inside p) left (comp_stmt_if p fails env) t)
    (λ v left t. by_choice p (to_boolean v) _ _ _ _ left t refl refl) n s
