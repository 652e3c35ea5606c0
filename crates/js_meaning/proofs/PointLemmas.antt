-- Computations up to the next step.
use Rattle.std.proofs.Common.{◌≡◌, ℕ, zero, suc, List, [], ◌∷◌, ◌++◌, Some, None, refl, sym, ap, ◌∙◌, append_assoc}
use Rattle.std.specs.Prelude.{option_map, slice_set}
use Rattle.std.proofs.Math.Seq.{get_or-append_seam, set-append_seam}
use Rattle.js_value.specs.State.{Environment, Binding, Heap, Store}
use Rattle.js_value.specs.Environments.{no_environment, environment_at, next_environment, declare, declare_all, assign, assign_answer, init}
use Rattle.js_value.specs.declared.deed.Complaint.TheVariants.{NotInitialised}
use Rattle.js_value.specs.Running.{on_heap}
use Rattle.js_meaning.specs.declared.outcome.Completion.TheVariants.{Normal}
use Rattle.js_meaning.specs.Effects.{Entry, Comp, ret, refuse, act, enter, handle}
use Rattle.js_meaning.specs.Steps.{eval}
use Rattle.js_meaning.specs.Meaning.{give, complain, value_in, assigns, initializes, call_kind}
use Rattle.js_meaning.specs.Files.{inside}
use Rattle.js_meaning.specs.Points.{point, onward, from_point, scoped, RunsFromPoint, PointsOnward, ReadsName, WritesName, InitializesName, MakesScope, AsksCall, TakesStep}

pub point_handle : PointsOnward
point_handle (ret c) next s = refl
point_handle (refuse k) next s = refl
point_handle (act f j) next s = point_handle (j s) next (f s)
point_handle (enter e j) next s = refl

pub eval_point : (inside : Entry → Comp) (n : ℕ) (c : Comp) (s : Store) → eval inside n c s ≡ from_point inside n (point c s)
eval_point inside zero (ret c) s = refl
eval_point inside (suc n) (ret c) s = refl
eval_point inside zero (refuse k) s = refl
eval_point inside (suc n) (refuse k) s = refl
eval_point inside zero (act f j) s = eval_point inside zero (j s) (f s)
eval_point inside (suc n) (act f j) s = eval_point inside (suc n) (j s) (f s)
eval_point inside zero (enter e j) s = refl
eval_point inside (suc n) (enter e j) s = refl

pub runs_from : RunsFromPoint
runs_from p n c s = eval_point (inside p) n c s

pub reads_name : ReadsName
reads_name s name env cell v found held =
    ap (λ c. point (value_in s.heap c) s) found ∙ ap (λ o. point (elim o [ None ↦ complain NotInitialised | Some w ↦ give w ]) s) held

pub writes_name : WritesName
writes_name s name env cell v found may =
    ap (λ c. point (assigns v (option_map (assign_answer s.heap) c)) (on_heap (λ h. elim c [ None ↦ h | Some d ↦ assign d v h ]) s)) found
    ∙ ap (λ a. point (assigns v (Some a)) (on_heap (assign cell v) s)) may

pub initializes_name : InitializesName
initializes_name s name env cell v found =
    ap (λ c. point (initializes v c) (on_heap (λ h. elim c [ None ↦ h | Some d ↦ init d v h ]) s)) found

-- Scopes

at_top : (x : Environment) (h : Heap) → environment_at (record h { environments = h.environments ++ x ∷ [] }) (next_environment h) ≡ x
at_top x h = get_or-append_seam h.environments x [] no_environment

declared_on : (env : ℕ) (b : Binding) (bs : List Binding) (h : Heap) → declare (next_environment h) b (scoped bs env h) ≡ scoped (bs ++ b ∷ []) env h
declared_on env b bs h =
    ap (λ (x : Environment). record h { environments = slice_set (scoped bs env h).environments (next_environment h) (record { outer = x.outer; bindings = x.bindings ++ b ∷ [] }) })
    (at_top (record { outer = Some env; bindings = bs }) h)
    ∙ ap (λ es. record h { environments = es }) (set-append_seam h.environments (record { outer = Some env; bindings = bs }) [] (record { outer = Some env; bindings = bs ++ b ∷ [] }))

append_nothing : {X : Type 0} (xs : List X) → xs ++ [] ≡ xs
append_nothing [] = refl
append_nothing (x ∷ xs) = ap (λ ys. x ∷ ys) (append_nothing xs)

pub all_declared : (env : ℕ) (bs cs : List Binding) (h : Heap) → declare_all (next_environment h) cs (scoped bs env h) ≡ scoped (bs ++ cs) env h
all_declared env bs [] h = ap (λ l. scoped l env h) (sym (append_nothing bs))
all_declared env bs (c ∷ cs) h =
    ap (declare_all (next_environment h) cs) (declared_on env c bs h)
    ∙ all_declared env (bs ++ c ∷ []) cs h
    ∙ ap (λ l. scoped l env h) (append_assoc bs (c ∷ []) cs)

pub scope_is : MakesScope
scope_is names env h = all_declared env [] names h

-- Steps

pub asks_call : AsksCall
asks_call s f code env this arguments kind = ap (λ k. point (call_kind k f this arguments) s) kind

pub takes_one : TakesStep
takes_one p c s e next v w mid t asks gives after = record {
  none = λ j. eval_point (inside p) 0 (handle c j) s
      ∙ ap (from_point (inside p) 0) (point_handle c j s ∙ ap (λ r. onward r j) asks);
  one = λ n j. eval_point (inside p) (suc n) (handle c j) s
      ∙ ap (from_point (inside p) (suc n)) (point_handle c j s ∙ ap (λ r. onward r j) asks)
      ∙ eval_point (inside p) n (handle (inside p e) (λ d. handle (next d) j)) s
      ∙ ap (from_point (inside p) n) (point_handle (inside p e) (λ d. handle (next d) j) s ∙ ap (λ r. onward r (λ d. handle (next d) j)) gives
      ∙ point_handle (next (Normal v)) j mid ∙ ap (λ r. onward r j) after)
      ∙ sym (eval_point (inside p) n (j (Normal w)) t);
}
