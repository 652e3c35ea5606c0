-- One computation after another.
use Rattle.std.proofs.Common.{◌≡◌, ℕ, zero, suc, ◌+◌, refl, sym, ap, ◌∙◌, arith}
use Rattle.std.proofs.Math.Path.{fun_ext}
use Rattle.js_value.specs.State.{Store}
use Rattle.js_meaning.specs.declared.outcome.Completion.{Completion}
use Rattle.js_meaning.specs.Effects.{Entry, Comp, ret, refuse, act, enter, handle, exec}
use Rattle.js_meaning.specs.Steps.{then_go, eval, ran_by}
use Rattle.js_meaning.specs.Laws.{IsOver}

pub handle_again : (c : Comp) (j k : Completion → Comp) → handle (handle c j) k ≡ handle c (λ o. handle (j o) k)
handle_again (ret o) j k = refl
handle_again (refuse r) j k = refl
handle_again (act f n) j k = ap (act f) (fun_ext (λ s. handle_again (n s) j k))
handle_again (enter e n) j k = ap (enter e) (fun_ext (λ o. handle_again (n o) j k))

pub handle_ret : (c : Comp) → handle c ret ≡ c
handle_ret (ret o) = refl
handle_ret (refuse r) = refl
handle_ret (act f n) = ap (act f) (fun_ext (λ s. handle_ret (n s)))
handle_ret (enter e n) = ap (enter e) (fun_ext (λ o. handle_ret (n o)))

module _ (inside : Entry → Comp) where
  abbrev After : ℕ → Type 0
  After n = (c : Comp) (next : Completion → Comp) (s : Store) →
      eval inside n (handle c next) s ≡ then_go (eval inside n c s) (λ d left t. eval inside left (next d) t)

  after_none : After 0
  after_none (ret c) k s = refl
  after_none (refuse r) k s = refl
  after_none (act f j) k s = after_none (j s) k (f s)
  after_none (enter e j) k s = refl

  after_one : (n : ℕ) → After n → After (suc n)
  after_one n h (ret c) k s = refl
  after_one n h (refuse r) k s = refl
  after_one n h (act f j) k s = after_one n h (j s) k (f s)
  after_one n h (enter e j) k s =
      ap (λ d. eval inside n d s) (sym (handle_again (inside e) j k)) ∙ h (handle (inside e) j) k s

  pub eval_handle : (n : ℕ) → After n
  eval_handle zero = after_none
  eval_handle (suc n) = after_one n (eval_handle n)

  abbrev AsEvaluated : ℕ → Type 0
  AsEvaluated n = (c : Comp) (s : Store) → exec inside n c s ≡ ran_by (eval inside n c s)

  exec_none : AsEvaluated 0
  exec_none (ret o) s = refl
  exec_none (refuse r) s = refl
  exec_none (act f j) s = exec_none (j s) (f s)
  exec_none (enter e j) s = refl

  exec_one : (n : ℕ) → AsEvaluated n → AsEvaluated (suc n)
  exec_one n h (ret o) s = refl
  exec_one n h (refuse r) s = refl
  exec_one n h (act f j) s = exec_one n h (j s) (f s)
  exec_one n h (enter e j) s = h (handle (inside e) j) s

  pub exec_eval : (n : ℕ) → AsEvaluated n
  exec_eval zero = exec_none
  exec_eval (suc n) = exec_one n (exec_eval n)

  -- what has ended with n steps ends alike with more
  abbrev Over : ℕ → ℕ → Type 0
  Over n m = (c : Comp) (s : Store) → IsOver (exec inside n c s).outcome → exec inside m c s ≡ exec inside n c s

  over_zero : (m : ℕ) → Over 0 m
  over_zero zero c s h = refl
  over_zero (suc m) (ret o) s h = refl
  over_zero (suc m) (refuse r) s h = refl
  over_zero (suc m) (act f j) s h = over_zero (suc m) (j s) (f s) h
  over_zero (suc m) (enter e k) s h = absurd h

  over_suc : (n m : ℕ) → Over n (n + m) → Over (suc n) (suc (n + m))
  over_suc n m h (ret o) s i = refl
  over_suc n m h (refuse r) s i = refl
  over_suc n m h (act f j) s i = over_suc n m h (j s) (f s) i
  over_suc n m h (enter e k) s i = h (handle (inside e) k) s i

  pub over_more : (n m : ℕ) → Over n (n + m)
  over_more zero m c s h = let e : 0 + m ≡ m = omega arith in ap (λ k. exec inside k c s) e ∙ over_zero m c s h
  over_more (suc n) m c s h =
      let e : suc n + m ≡ suc (n + m) = omega arith in
      ap (λ k. exec inside k c s) e ∙ over_suc n m (over_more n m) c s h
