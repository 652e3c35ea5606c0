-- The frames round a computation.
use Rattle.std.proofs.Common.{◌≡◌, ℕ, suc, ◌+◌, List, [], ◌∷◌, ◌++◌, refl, sym, ap, ◌∙◌, arith}
use Rattle.std.proofs.Math.Path.{fun_ext}
use Rattle.js_value.specs.State.{Store}
use Rattle.js_value.specs.declared.value.Kind.{Kind}
use Rattle.js_meaning.specs.declared.outcome.Completion.{Completion}
use Rattle.js_meaning.specs.declared.outcome.Completion.TheVariants as completion
use Rattle.js_meaning.specs.declared.outcome.Outcome.TheVariants.{Stops}
use Rattle.js_meaning.specs.Effects as E
use Rattle.js_meaning.specs.Effects.{Comp, ret, refuse, enter, handle, ran, exec}
use Rattle.js_meaning.specs.Meaning.{done, with_value}
use Rattle.js_meaning.proofs.Handle.{handle_again, handle_ret}
use Rattle.js_machine.specs.declared.data.Frame.{Frame}
use Rattle.js_machine.specs.private.Config.{View, frame_comp, plug}
use Rattle.js_machine.specs.private.Weight.{Weights, frame_weight, frames_weight}
use Rattle.js_machine.specs.private.State.{Becomes}

-- a value that is passed over, before what doesn't look at it
module _ (rest : Comp) where
  passed : (o : Completion) → handle (with_value (λ v. done) o) (with_value (λ v. rest)) ≡ with_value (λ v. rest) o
  passed (completion.Normal v) = refl
  passed (completion.Break label) = refl
  passed (completion.Continue label) = refl
  passed (completion.Return v) = refl
  passed (completion.Throw v) = refl

  pub discarded : (c : Comp) → handle (handle c (with_value (λ v. done))) (with_value (λ v. rest)) ≡ handle c (with_value (λ v. rest))
  discarded c = handle_again c (with_value (λ v. done)) (with_value (λ v. rest)) ∙ ap (handle c) (fun_ext passed)

module _ (t : View) where
  pub plug_push : (fs : List Frame) (f : Frame) (c : Comp) → plug t (fs ++ f ∷ []) c ≡ plug t fs (handle c (frame_comp t f))
  plug_push [] f c = refl
  plug_push (g ∷ fs) f c = ap (λ d. handle d (frame_comp t g)) (plug_push fs f c)

  pub plug_refuse : (fs : List Frame) (k : Kind) → plug t fs (refuse k) ≡ refuse k
  plug_refuse [] k = refl
  plug_refuse (g ∷ fs) k = ap (λ d. handle d (frame_comp t g)) (plug_refuse fs k)

  pub plug_enter : (fs : List Frame) (e : E.Entry) (next : Completion → Comp) →
      plug t fs (enter e next) ≡ enter e (λ c. plug t fs (next c))
  plug_enter [] e next = refl
  plug_enter (g ∷ fs) e next = ap (λ d. handle d (frame_comp t g)) (plug_enter fs e next)

  -- the frames are one way to go on
  pub plug_handle : (fs : List Frame) (c : Comp) → handle c (λ d. plug t fs (ret d)) ≡ plug t fs c
  plug_handle [] c = handle_ret c
  plug_handle (g ∷ fs) c =
      sym (handle_again c (λ d. plug t fs (ret d)) (frame_comp t g)) ∙ ap (λ d. handle d (frame_comp t g)) (plug_handle fs c)

  -- what becomes another becomes it under frames
  pub plug_becomes : (fs : List Frame) (c : Comp) (s : Store) (d : Comp) (u : Store) → Becomes c s d u →
      (inside : E.Entry → Comp) (n : ℕ) → exec inside n (plug t fs c) s ≡ exec inside n (plug t fs d) u
  plug_becomes fs c s d u b inside n =
      ap (λ x. exec inside n x s) (sym (plug_handle fs c))
      ∙ b.same inside n (λ x. plug t fs (ret x))
      ∙ ap (λ x. exec inside n x u) (plug_handle fs d)

  -- a step that there is: the computation goes on inside
  pub exec_enters : (fs : List Frame) (e : E.Entry) (inside : E.Entry → Comp) (n : ℕ) (s : Store) →
      exec inside (n + 1) (plug t fs (enter e ret)) s ≡ exec inside n (plug t fs (inside e)) s
  exec_enters fs e inside n s =
      let one : n + 1 ≡ suc n = omega arith in
      ap (λ c. exec inside (n + 1) c s) (plug_enter fs e ret)
      ∙ ap (λ m. exec inside m (enter e (λ c. plug t fs (ret c))) s) one
      ∙ ap (λ c. exec inside n c s) (plug_handle fs (inside e))

  -- a step that there is not
  pub exec_stops : (fs : List Frame) (e : E.Entry) (inside : E.Entry → Comp) (s : Store) →
      exec inside 0 (plug t fs (enter e ret)) s ≡ ran Stops s
  exec_stops fs e inside s = ap (λ c. exec inside 0 c s) (plug_enter fs e ret)

pub frames_weight-push : (t : Weights) (fs : List Frame) (f : Frame) → frames_weight t (fs ++ f ∷ []) ≡ frames_weight t fs + frame_weight t f
frames_weight-push t [] f = omega arith
frames_weight-push t (g ∷ fs) f = omega (arith, frames_weight-push t fs f)
