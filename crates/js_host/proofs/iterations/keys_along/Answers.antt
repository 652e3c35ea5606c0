use Rattle.std.proofs.Common.{◌≡◌, ◌+◌, ◌-◌, ◌++◌, suc, [], Option, Some, option_map, sym, ap, ◌∙◌, arith}
use Rattle.indexmap.specs.IndexSet as set
use Rattle.js_value.specs.declared.value.Object.{Object}
use Rattle.js_value.specs.Objects.{object_in}
use Rattle.js_value.specs.Iterations.{keys_along}
use Rattle.js_heap.specs.Heap.{heap_of}
use Rattle.js_host.proofs.IterationLemmas.{along_step, along_end}
use Rattle.js_host.proofs.iterations.keys_along.Goals as goal

pub loop-init : goal.loop-init
loop-init c =
    let objects = (heap_of c.args.heap.now).objects in
    let o = c.args.object.index in
    let met = set.keys c.put_own.new.met in
    let first = set.keys c.new-met.result in
    let n : c.index-end.result - 0 ≡ o = omega arith in
    let m : suc o ≡ o + 1 = omega arith in
    let next : option_map (λ q. q.index) c.proto-chain.result ≡ (object_in objects o).prototype = c.proto-chain.ensures in
    ap (λ k. c.put_own.new.keys ++ keys_along k objects (option_map (λ q. q.index) c.proto-chain.result) met) n
    ∙ ap (λ chain. c.put_own.new.keys ++ keys_along o objects chain met) next
    ∙ along_step o o objects c.new-keys.result c.put_own.new.keys first met c.in_ok-put_own.ensures.keys c.in_ok-put_own.ensures.met
    ∙ ap (λ ks. ks ++ keys_along (suc o) objects (Some o) first) c.new-keys.ensures
    ∙ ap (λ ks. keys_along (suc o) objects (Some o) ks) c.new-met.ensures.empty
    ∙ ap (λ k. keys_along k objects (Some o) []) m

pub returns-in_default : goal.returns-in_default
returns-in_default c =
    let objects = (heap_of c.args.heap.now).objects in
    let n = c.index-end.result - c.loop.counter in
    along_end n objects c.loop.keys (set.keys c.loop.met)
    ∙ ap (λ (chain : Option Object). c.loop.keys ++ keys_along n objects (option_map (λ q. q.index) chain) (set.keys c.loop.met)) (sym c.in_default.is)
    ∙ c.loop.invariant

pub loop-preserved : goal.loop-preserved
loop-preserved c =
    let objects = (heap_of c.args.heap.now).objects in
    let o = c.in-Some.at.index in
    let m = c.index-end.result - (c.loop.counter + 1) in
    let met = set.keys c.put_own-in-loop.new.met in
    let left : suc m ≡ c.index-end.result - c.loop.counter = omega arith in
    let next : option_map (λ q. q.index) c.proto-chain-in-loop.result ≡ (object_in objects o).prototype = c.proto-chain-in-loop.ensures in
    let same = rw c.in-Some.is at c.loop.invariant in
    ap (λ chain. c.put_own-in-loop.new.keys ++ keys_along m objects chain met) next
    ∙ along_step m o objects c.loop.keys c.put_own-in-loop.new.keys (set.keys c.loop.met) met c.in_ok-put_own-2.ensures.keys c.in_ok-put_own-2.ensures.met
    ∙ ap (λ n. c.loop.keys ++ keys_along n objects (Some o) (set.keys c.loop.met)) left
    ∙ same
