-- Transitions, one and one after another.
use Rattle.std.proofs.Common.{◌≡◌, ◌+◌, ◌<◌, List, [], ◌∷◌, ◌++◌, refl, sym, subst, ap, ◌∙◌, arith}
use Rattle.js_value.specs.State.{Store}
use Rattle.js_heap.specs.declared.heap.Heap.{Heap}
use Rattle.js_heap.specs.Heap.{heap_of}
use Rattle.js_meaning.specs.declared.outcome.Completion.{Completion}
use Rattle.js_meaning.specs.Effects.{ret, exec}
use Rattle.js_machine.specs.declared.data.Action.{Action}
use Rattle.js_machine.specs.declared.data.Control.{Control}
use Rattle.js_machine.specs.declared.data.Control.TheVariants as control
use Rattle.js_machine.specs.declared.data.Frame.{Frame}
use Rattle.js_machine.specs.declared.data.Rest.{Rest}
use Rattle.js_machine.specs.declared.data.Rest.TheVariants as rest
use Rattle.js_machine.specs.declared.data.Task.{Task}
use Rattle.js_machine.specs.declared.state.State.{State}
use Rattle.js_machine.specs.private.Config.{View, action_comp, control_comp, frame_comp, plug, task_comp}
use Rattle.js_machine.specs.private.Weight.{place_weight, action_weight, control_weight, frame_weight, frames_weight, task_weight}
use Rattle.js_machine.specs.private.Frames.{ComesTo, Lighter}
use Rattle.js_machine.specs.private.Moves.{Here, here, work, Leads, Rests, IsAt, rest_control}
use Rattle.js_machine.specs.private.State.{Held, held, store_in, Becomes, Turns}
use Rattle.js_machine.proofs.Plug.{plug_push, plug_becomes, frames_weight-push}
use Rattle.js_machine.proofs.Stores.{heap_becomes}

pub leads_none : (t : View) (a : Here) → Leads t a a
leads_none t a = record { same = λ base inside n. refl }

pub leads_on : (t : View) (a b c : Here) → Leads t a b → Leads t b c → Leads t a c
leads_on t a b c x y = record { same = λ base inside n. x.same base inside n ∙ y.same base inside n }

-- a part of the code begins
pub begins : (t : View) (fs0 fs : List Frame) (at next : Control) (task : Task) (s : State) →
    at ≡ control.Begin task → ComesTo t fs0 (task_comp t task) fs next → Leads t (here fs0 at s) (here fs next s)
begins t fs0 fs at next task s is comes =
    let e : plug t fs0 (control_comp t at) ≡ plug t fs (control_comp t next) = ap (λ x. plug t fs0 (control_comp t x)) is ∙ sym comes in
    record { same = λ base inside n. ap (λ c. exec inside n c (store_in base s)) e }

pub begins_lighter : (fs0 fs : List Frame) (at next : Control) (task : Task) (s u : State) →
    at ≡ control.Begin task → Lighter place_weight fs0 (task_weight place_weight task) fs next → work (here fs next u) < work (here fs0 at s)
begins_lighter fs0 fs at next task s u is less =
    let a : control_weight place_weight at ≡ task_weight place_weight task = ap (control_weight place_weight) is in
    omega (arith, a, less)

-- what it stands for is done at once
pub moves_at_once : (t : View) (fs : List Frame) (at next : Control) (task : Task) (s : State) (h : Heap) →
    at ≡ control.Begin task → Turns (task_comp t task) s.heap (control_comp t next) h → Leads t (here fs at s) (here fs next (record s { heap = h }))
moves_at_once t fs at next task s h is turns = record {
  same = λ base inside n.
      ap (λ x. exec inside n (plug t fs (control_comp t x)) (store_in base s)) is
      ∙ plug_becomes t fs (task_comp t task) (store_in base s) (control_comp t next) (store_in base (record s { heap = h }))
      (heap_becomes (task_comp t task) (control_comp t next) s h base turns) inside n;
}

pub lessens_at_once : (fs : List Frame) (at next : Control) (task : Task) (s u : State) →
    at ≡ control.Begin task → control_weight place_weight next < task_weight place_weight task → work (here fs next u) < work (here fs at s)
lessens_at_once fs at next task s u is less =
    let w : control_weight place_weight at ≡ task_weight place_weight task = ap (control_weight place_weight) is in
    omega (arith, w, less)

-- it isn't done at once, and begins: nothing was done for it before
pub begins_after : (t : View) (fs0 fs : List Frame) (at next : Control) (task : Task) (s : State) (h : Heap) →
    at ≡ control.Begin task → heap_of h ≡ heap_of s.heap → ComesTo t fs0 (task_comp t task) fs next → Leads t (here fs0 at s) (here fs next (record s { heap = h }))
begins_after t fs0 fs at next task s h is same comes =
    let e : held (record s { heap = h }) ≡ held s = ap (λ x. record (held s) { heap = x }) same in
    subst (λ (x : Held). Leads t (here fs0 at s) (record { frames = fs; control = next; state = x })) (sym e) (begins t fs0 fs at next task s is comes)

-- a completion goes to the frame on top
pub resumes : (t : View) (fs0 rest fs : List Frame) (at next : Control) (frame : Frame) (completion : Completion) (s : State) →
    at ≡ control.Give completion → fs0 ≡ rest ++ frame ∷ [] → ComesTo t rest (frame_comp t frame completion) fs next →
    Leads t (here fs0 at s) (here fs next s)
resumes t fs0 rest fs at next frame completion s is pop comes =
    let e : plug t fs0 (control_comp t at) ≡ plug t fs (control_comp t next) =
    ap (λ x. plug t fs0 (control_comp t x)) is ∙ ap (λ f. plug t f (ret completion)) pop ∙ plug_push t rest frame (ret completion) ∙ sym comes
    in
    record { same = λ base inside n. ap (λ c. exec inside n c (store_in base s)) e }

pub resumes_lighter : (fs0 rest fs : List Frame) (at next : Control) (frame : Frame) (completion : Completion) (s u : State) →
    at ≡ control.Give completion → fs0 ≡ rest ++ frame ∷ [] → Lighter place_weight rest (frame_weight place_weight frame) fs next →
    work (here fs next u) < work (here fs0 at s)
resumes_lighter fs0 rest fs at next frame completion s u is pop less =
    let a : control_weight place_weight at ≡ 0 = ap (control_weight place_weight) is in
    let d : frames_weight place_weight fs0 ≡ frames_weight place_weight rest + frame_weight place_weight frame =
    ap (frames_weight place_weight) pop ∙ frames_weight-push place_weight rest frame
    in
    omega (arith, a, d, less)

-- what needs the store is done
pub perform_moves : (t : View) (fs : List Frame) (action : Action) (at next : Control) (s u : State) →
    at ≡ control.Do action →
    ((base : Store) → Becomes (action_comp t action) (store_in base s) (control_comp t next) (store_in base u)) →
    Leads t (here fs at s) (here fs next u)
perform_moves t fs action at next s u is becomes =
    let c : control_comp t at ≡ action_comp t action = ap (control_comp t) is in
    record {
      same = λ base inside n.
          ap (λ d. exec inside n (plug t fs d) (store_in base s)) c
          ∙ plug_becomes t fs (action_comp t action) (store_in base s) (control_comp t next) (store_in base u) (becomes base) inside n;
    }

pub perform_lessens : (fs : List Frame) (action : Action) (at next : Control) (s u : State) →
    at ≡ control.Do action → control_weight place_weight next < action_weight place_weight action →
    work (here fs next u) < work (here fs at s)
perform_lessens fs action at next s u is less =
    let w : control_weight place_weight at ≡ action_weight place_weight action = ap (control_weight place_weight) is in
    omega (arith, w, less)

-- where it can't go on by itself
stays : (r : Rest) (at : Control) (fs : List Frame) → IsAt r at fs → at ≡ rest_control r
stays (rest.Completed c) at fs h = h.0
stays (rest.Refused k) at fs h = h
stays (rest.Asks e) at fs h = h

pub rests_at : (t : View) (a : Here) (r : Rest) (at : Control) (fs fs' : List Frame) (s s' : State) →
    Leads t a (here fs at s) → IsAt r at fs' → fs' ≡ fs → held s' ≡ held s → Rests t a r fs' s'
rests_at t a r at fs fs' s s' leads is same_frames same_state =
    let e : here fs at s ≡ here fs' (rest_control r) s' =
    ap (λ f. here f at s) (sym same_frames) ∙ ap (λ c. here fs' c s) (stays r at fs' is) ∙ ap (λ (h : Held). record { frames = fs'; control = rest_control r; state = h }) (sym same_state)
    in
    (subst (Leads t a) e leads, subst (λ c. IsAt r c fs') (stays r at fs' is) is)
