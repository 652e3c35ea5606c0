use Rattle.std.proofs.Common.{◌∙◌, ap, get_or, Some}
use Rattle.js_terms.specs.declared.place.Pos.{Pos}
use Rattle.cov_object.specs.declared.location.Position.{Position}
use Rattle.cov_v8.proofs.PlaceLemmas.{at-table, line-from-one}
use Rattle.cov_v8.proofs.table.position.Goals as goal

pub new-requires : goal.new-requires
new-requires c = line-from-one c.args.table.now c.args.at _ c.requires.known c.requires.within

pub returns : goal.returns
returns c = λ cs is.
    let here : Pos = get_or c.args.table.now c.args.at (record { line = 0; column = 0 }) in
    ap (λ n. let q : Position = record { line = n; column = Some here.column } in q) c.new.ensures
    ∙ ap (λ (p : Pos). let q : Position = record { line = p.line; column = Some p.column } in q)
    (at-table cs c.args.table.now c.args.at (record { line = 0; column = 0 }) is c.requires.within)
