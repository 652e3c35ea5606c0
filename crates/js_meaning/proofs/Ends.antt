-- A run without counting ends and prints as the counted one.
use Rattle.std.proofs.Common.{◌≡◌, ℕ, ◌-◌, List, Option, Some, None, refl, ap, ◌∙◌, subst}
use Rattle.std.specs.Prelude.{option_map}
use Rattle.js_terms.specs.Mark.{Mark}
use Rattle.js_value.specs.State.{Store}
use Rattle.js_meaning.specs.declared.outcome.Outcome.{Outcome}
use Rattle.js_meaning.specs.declared.outcome.Outcome.TheVariants.{Completes, Refuses, Stops}
use Rattle.js_meaning.specs.declared.outcome.End.TheVariants.{Going}
use Rattle.js_meaning.specs.Effects.{Ran}
use Rattle.js_meaning.specs.Program.{Sources, uncounted, file_at}
use Rattle.js_meaning.specs.World.{World, told, PlainRun, plainly, meaning, end_of}
use Rattle.js_meaning.specs.Laws.{IsOver, Continues, RunsAlike, but_for, charged, charged_in, EndsPlainly}
use Rattle.js_meaning.proofs.Uncounted.{without_counting}

-- what is told of an end is in the heap alone
end_same : (log : List Mark) (started : List ℕ) (s : Store) (o : Outcome) → end_of o (but_for log started s) ≡ end_of o s
end_same log started s (Completes c) = refl
end_same log started s (Refuses k) = refl
end_same log started s Stops = refl

over : (o : Outcome) (s : Store) → (end_of o s ≡ Going → ⊥) → IsOver o
over (Completes c) s h = tt
over (Refuses k) s h = tt
over Stops s h = h refl

ends : (a b : Ran) → RunsAlike a b → (end_of a.outcome a.store ≡ Going → ⊥) →
    (end_of b.outcome b.store ≡ end_of a.outcome a.store) × (b.store.output ≡ a.store.output)
ends a b h k =
    let o = over a.outcome a.store k in
    let s = h.store o in
    (ap (λ x. end_of x b.store) (h.outcome o) ∙ ap (end_of a.outcome) s ∙ end_same b.store.log b.store.started a.store a.outcome, ap (λ (t : Store). t.output) s)

-- as it is told of a file
ends_file : (p : Sources) (n : ℕ) (file : Option ℕ) (w : World) (r : PlainRun) →
    option_map (λ file. told (meaning p file n)) file ≡ Some w →
    option_map (λ file. plainly (meaning (uncounted p) file (n - charged_in p w))) file ≡ Some r →
    ((w.end ≡ Going → ⊥) → (r.end ≡ w.end) × (r.store.output ≡ w.output)) × Continues w.output r.store.output
ends_file p n None w r e d = absurd (no e)
  where
    no : None ≡ Some w → ⊥
    no k = cc
ends_file p n (Some file) w r e d =
    let is : told (meaning p file n) ≡ w = some_same e in
    subst (λ (v : World). option_map (λ file. plainly (meaning (uncounted p) file (n - charged_in p v))) (Some file) ≡ Some r →
    ((v.end ≡ Going → ⊥) → (r.end ≡ v.end) × (r.store.output ≡ v.output)) × Continues v.output r.store.output) is
    (λ k. subst (λ (q : PlainRun). (((told (meaning p file n)).end ≡ Going → ⊥) → (q.end ≡ (told (meaning p file n)).end) × (q.store.output ≡ (meaning p file n).store.output))
    × Continues (meaning p file n).store.output q.store.output) (some_same k)
    (let h = (without_counting p file n).1 in (ends (meaning p file n) (meaning (uncounted p) file (n - charged p (meaning p file n).store)) h, h.output)))
    d
  where
    some_same : {A : Type 0} {x y : A} → Some x ≡ Some y → x ≡ y
    some_same k = cc

pub ends_plainly : EndsPlainly
ends_plainly p path n w r = ends_file p n (file_at p path) w r
