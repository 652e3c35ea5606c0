use Rattle.std.proofs.Common.{◌≡◌, ◌≤◌, length, ap, arith}
use Rattle.std.proofs.lemmas.Bool.Decides.{nat_tests}
use Rattle.js_value.specs.Objects.{is_array}
use Rattle.js_heap.specs.Object.{plain_kind, plain_object}
use Rattle.js_heap.proofs.ElementLemmas.{lacks_element}
use Rattle.js_heap.proofs.KeyedLemmas.{lacks_key, not_array}
use Rattle.js_heap.proofs.object.ObjectRecord.lacks.Goals as goal

pub returns-in-Array : goal.returns-in-Array
returns-in-Array c = λ lacks small.
    let from : c.len.result ≤ c.args.index = grind (arith, nat_tests, lacks) in
    let past : length c.args.self.now.elements.items.items ≤ c.args.index = omega (arith, from, c.len.ensures, c.args.self.now.elements.items.ok) in
    lacks_element (plain_object c.args.self.now) c.args.index (ap (λ k. is_array (plain_kind k)) c.in-Array.is) small past

pub returns-in_default : goal.returns-in_default
returns-in_default c = λ lacks small.
    lacks_key c.args.self.now c.args.index (not_array c.args.self.now.kind c.in_default.not-Array) small (c.lacks_indices.ensures lacks)
