-- Steps add up, and what is over stays over.
use Rattle.std.proofs.Common.{◌≡◌, ℕ, subst, ◌+◌, ◌-◌, ◌≤◌, List, refl, sym, ap, ◌∙◌, arith}
use Rattle.js_value.specs.State.{Store}
use Rattle.js_meaning.specs.Effects.{ret, exec, ran}
use Rattle.js_meaning.specs.Program.{Sources}
use Rattle.js_meaning.specs.Files.{inside}
use Rattle.js_machine.specs.declared.data.Control.{Control}
use Rattle.js_machine.specs.declared.data.Control.TheVariants as control
use Rattle.js_machine.specs.declared.data.Entry.{Entry}
use Rattle.js_machine.specs.declared.data.Frame.{Frame}
use Rattle.js_machine.specs.declared.data.Rest.{Rest}
use Rattle.js_machine.specs.declared.data.Rest.TheVariants as rest
use Rattle.js_machine.specs.declared.data.Step.{Step}
use Rattle.js_machine.specs.declared.state.State.{State}
use Rattle.js_machine.specs.private.Config.{View, control_comp, step_comp, entry_of, plug}
use Rattle.js_machine.specs.private.Moves.{Here, here, todo, Leads, Rests, rest_control}
use Rattle.js_machine.specs.private.Runs.{Takes, Runs, rest_outcome}
use Rattle.js_machine.specs.private.State.{store_in, store_of, Becomes}
use Rattle.js_machine.proofs.Plug.{plug_refuse, plug_becomes, exec_enters, exec_stops}

module _ (p : Sources) (t : View) where
  pub takes_none : (a : Here) → Takes p t 0 a a
  takes_none a = record {
    same = λ base n.
        let e : 0 + n ≡ n = omega arith in
        ap (λ m. exec (inside p) m (todo t a) (store_of base a.state)) e;
  }

  pub takes_leads : (i : ℕ) (a b c : Here) → Takes p t i a b → Leads t b c → Takes p t i a c
  takes_leads i a b c x l = record { same = λ base n. x.same base n ∙ l.same base (inside p) n }

  -- a step is there, and is taken
  pub takes_enter : (i : ℕ) (a b : Here) (r : Rest) (e : Entry) (fs fs' : List Frame) (s u : State) (step : Step) (next : Control) →
      Takes p t i a b → r ≡ rest.Asks e → Rests t b r fs s →
      ((base : Store) → Becomes (inside p (entry_of t e)) (store_in base s) (step_comp t step) (store_in base u)) →
      plug t fs' (control_comp t next) ≡ plug t fs (step_comp t step) →
      Takes p t (i + 1) a (here fs' next u)
  takes_enter i a b r e fs fs' s u step next x is rests becomes plugs =
      let at = subst (λ q. Rests t b q fs s) is rests in
      let y = takes_leads i a b (here fs (control.Enter e) s) x at.0 in
      record {
        same = λ base n.
            let more : i + 1 + n ≡ i + (n + 1) = omega arith in
            ap (λ m. exec (inside p) m (todo t a) (store_of base a.state)) more
            ∙ y.same base (n + 1)
            ∙ exec_enters t fs (entry_of t e) (inside p) n (store_in base s)
            ∙ plug_becomes t fs (inside p (entry_of t e)) (store_in base s) (step_comp t step) (store_in base u) (becomes base) (inside p) n
            ∙ ap (λ d. exec (inside p) n d (store_in base u)) (sym plugs);
      }

  -- what is over is over with any steps
  pub over : (r : Rest) (fs : List Frame) (s : State) → Rests t (here fs (rest_control r) s) r fs s →
      ((e : Entry) → r ≡ rest.Asks e → ⊥) → (base : Store) (n : ℕ) →
      exec (inside p) n (todo t (here fs (rest_control r) s)) (store_in base s) ≡ ran (rest_outcome r) (store_in base s)
  over (rest.Completed c) fs s rests go base n = ap (λ f. exec (inside p) n (plug t f (ret c)) (store_in base s)) rests.1.1
  over (rest.Refused k) fs s rests go base n = ap (λ c. exec (inside p) n c (store_in base s)) (plug_refuse t fs k)
  over (rest.Asks e) fs s rests go base n = absurd (go e refl)

  pub ends_now : (r : Rest) (fs : List Frame) (s : State) → Rests t (here fs (rest_control r) s) r fs s → (base : Store) →
      exec (inside p) 0 (todo t (here fs (rest_control r) s)) (store_in base s) ≡ ran (rest_outcome r) (store_in base s)
  ends_now (rest.Completed c) fs s rests base = ap (λ f. exec (inside p) 0 (plug t f (ret c)) (store_in base s)) rests.1.1
  ends_now (rest.Refused k) fs s rests base = ap (λ c. exec (inside p) 0 c (store_in base s)) (plug_refuse t fs k)
  ends_now (rest.Asks e) fs s rests base = exec_stops t fs (entry_of t e) (inside p) (store_in base s)

  same_rest : (r : Rest) (b : Here) (fs : List Frame) (s : State) → Rests t b r fs s → Rests t (here fs (rest_control r) s) r fs s
  same_rest r b fs s rests = (record { same = λ base f n. refl }, rests.1)

  pub runs_out : (i steps : ℕ) (a b : Here) (r : Rest) (fs : List Frame) (s : State) → i ≡ steps → Takes p t i a b → Rests t b r fs s →
      Runs p t steps a r (here fs (rest_control r) s)
  runs_out i steps a b r fs s e x rests = record {
    takes = subst (λ j. Takes p t j a (here fs (rest_control r) s)) e (takes_leads i a b (here fs (rest_control r) s) x rests.0);
    ends = ends_now r fs s (same_rest r b fs s rests);
  }

  pub runs_over : (i steps : ℕ) (a b : Here) (r : Rest) (fs : List Frame) (s : State) → i ≤ steps → Takes p t i a b → Rests t b r fs s →
      ((e : Entry) → r ≡ rest.Asks e → ⊥) → Runs p t steps a r (here fs (rest_control r) s)
  runs_over i steps a b r fs s le x rests go =
      let c = here fs (rest_control r) s in
      let y = takes_leads i a b c x rests.0 in
      let o = over r fs s (same_rest r b fs s rests) go in
      record {
        takes = record {
          same = λ base n.
              let e : steps + n ≡ i + (steps - i + n) = omega arith in
              ap (λ m. exec (inside p) m (todo t a) (store_of base a.state)) e
              ∙ y.same base (steps - i + n) ∙ o base (steps - i + n) ∙ sym (o base n);
        };
        ends = ends_now r fs s (same_rest r b fs s rests);
      }
