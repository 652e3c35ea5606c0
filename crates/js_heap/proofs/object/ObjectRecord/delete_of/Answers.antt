use Rattle.std.proofs.Common.{Some, None, ap, ◌∙◌}
use Rattle.js_value.specs.Objects.{Deleted, delete_of}
use Rattle.js_heap.specs.Object.{plain_object}
use Rattle.js_heap.proofs.object.ObjectRecord.delete_of.Goals as goal

pub returns-in-Some : goal.returns-in-Some
returns-in-Some c =
    c.delete_of_own.ensures c.in-Some.field-0-0.now
    ∙ ap (λ t. elim t [ None ↦ Deleted | Some p ↦ delete_of (plain_object c.args.self.now) p ]) c.in-Some.ensures
