use Rattle.std.proofs.Common.{option_map, ap, sym, ◌∙◌}
use Rattle.std.proofs.lemmas.Option.{slice_get-map, slice_get-get_or}
use Rattle.js_value.specs.Realm.{Row}
use Rattle.js_host.specs.private.Row.{row_seen}
use Rattle.js_host.proofs.call.row_of.Goals as goal

pub returns : goal.returns
returns c = sym (ap (option_map (λ (row : Row). row.function)) (slice_get-map row_seen c.args.table.now c.args.id ∙ ap (option_map row_seen) (slice_get-get_or c.args.table.now c.args.id _ c.if-id-table.false)))
