use Rattle.std.proofs.Common.{◌≡◌, None, Some, option_map, sym, ap, ◌∙◌}
use Rattle.js_value.specs.Environments.{environment_at, place_of}
use Rattle.js_heap.specs.Heap.{heap_of}
use Rattle.js_heap.specs.private.Environment.{cell_at}
use Rattle.js_heap.proofs.Chains.{place_of-plain}
use Rattle.js_heap.proofs.heap.Heap.cell_of.Goals as goal

pub returns-in_err-place : goal.returns-in_err-place
returns-in_err-place c =
    let e = c.args.env.index in
    let is : place_of (environment_at (heap_of c.args.self.now) e) c.args.name.now ≡ None =
    ap (λ r. place_of r c.args.name.now) (sym c.environment.ensures)
    ∙ place_of-plain c.environment.result.now c.args.name.now ∙ sym c.in_err-place.ensures in
    rw c.from_residual.ensures (sym (ap (option_map (cell_at e)) is))

pub returns : goal.returns
returns c =
    let e = c.args.env.index in
    let is : place_of (environment_at (heap_of c.args.self.now) e) c.args.name.now ≡ Some c.in_ok-place.place =
    ap (λ r. place_of r c.args.name.now) (sym c.environment.ensures)
    ∙ place_of-plain c.environment.result.now c.args.name.now ∙ sym c.in_ok-place.ensures in
    sym (ap (option_map (cell_at e)) is)
