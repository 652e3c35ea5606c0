use Rattle.std.proofs.Common.{◌≡◌, ℕ, suc, ◌+◌, ◌-◌, ◌<◌, List, [], ◌∷◌, ◌++◌, append_assoc, add-one, ap, ◌∙◌, arith}
use Rattle.js_value.specs.declared.value.Value.{Value}
use Rattle.js_value.specs.State.{Heap}
use Rattle.js_value.specs.OnObjects.{at_indices, value_of_index}
use Rattle.js_heap.specs.Heap.{heap_of}
use Rattle.js_host.proofs.functions.at_indices.Goals as goal

one_more : (h : Heap) (o n i : ℕ) (vs ws t : List Value) (v : Value) → i < n → v ≡ value_of_index h o i → ws ≡ vs ++ v ∷ [] →
    vs ++ at_indices h o (n - i) i ≡ t → ws ++ at_indices h o (n - (i + 1)) (i + 1) ≡ t
one_more h o n i vs ws t v lt is made so_far =
    let e : suc (n - suc i) ≡ n - i = omega arith in
    rw add-one (ap (λ xs. xs ++ at_indices h o (n - suc i) (suc i)) (made ∙ ap (λ x. vs ++ x ∷ []) is)
    ∙ append_assoc vs (value_of_index h o i ∷ []) (at_indices h o (n - suc i) (suc i))
    ∙ ap (λ k. vs ++ at_indices h o k i) e ∙ so_far)

pub loop-index-preserved : goal.loop-index-preserved
loop-index-preserved c = one_more (heap_of c.args.heap.now) c.args.object.index c.args.length c.loop-index.index c.loop-index.values _ _ c.in_ok-at_index.field-0 c.loop-index-test.true c.in_ok-at_index.ensures c.in_ok-push.ensures.ok c.loop-index.invariant
