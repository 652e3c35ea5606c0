use Rattle.std.proofs.Common.{refl, sym, ap, ◌∙◌}
use Rattle.std.proofs.lemmas.Result.{IfOk-weaker}
use Rattle.std.proofs.Common.{None, false}
use Rattle.js_meaning.specs.Meaning as M
use Rattle.js_heap.specs.Heap.{heap_of}
use Rattle.js_value.specs.Host.{native_of, native_heap}
use Rattle.js_machine.specs.private.Config.{view_of, step_comp}
use Rattle.js_machine.proofs.Natives.{natively}
use Rattle.js_machine.proofs.Stores.{becomes_same}
use Rattle.js_machine.proofs.enter.hand_built_in.Goals as goal

pub returns-then-is_handing : goal.returns-then-is_handing
returns-then-is_handing c = λ p base carries. rw (sym c.is_handing.ensures ∙ c.if-is_handing.true) (becomes_same _ _ _ refl)

pub returns : goal.returns
returns c = IfOk-weaker c.answer_directly.result _ _ (λ step becomes p base carries. rw (sym c.is_handing.ensures ∙ c.if-is_handing.false)
    (natively p (λ f t vs. M.done) c.args.callee.index c.args.function None c.args.this c.args.arguments c.args.state.now false c.in_ok-native.native c.call_native-native.new.heap (step_comp (view_of p c.args.code.now.nodes) step) c.answer_directly.new.state refl
    (c.in_ok-native.ensures.answer ∙ ap (λ vs. native_of c.args.function false c.args.this vs (heap_of c.args.state.now.heap)) c.as_slice.ensures)
    (c.in_ok-native.ensures.after ∙ ap (λ vs. native_heap c.args.function false c.args.this vs (heap_of c.args.state.now.heap)) c.as_slice.ensures)
    base (becomes p base carries))) c.answer_directly.ensures
