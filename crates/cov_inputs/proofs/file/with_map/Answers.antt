use Rattle.std.proofs.Common.{refl}
use Rattle.cov_remap.specs.Laws.{run, mapped}
use Rattle.cov_remap.specs.Remapped.{remapped}
use Rattle.cov_inputs.proofs.Steps.{as_mapped, first_sums}
use Rattle.cov_inputs.proofs.file.with_map.Goals as goal

pub returns-then-is_empty-clause-answers : goal.returns-then-is_empty-clause-answers
returns-then-is_empty-clause-answers c =
    first_sums c.whole_way.ensures.merged c.args.path.now c.args.sums c.args.map.now c.in_ok-own.own (c.if-is_empty.ensures.0 refl) c.in_ok-own.ensures

pub returns-then-is_empty-clause-merged : goal.returns-then-is_empty-clause-merged
returns-then-is_empty-clause-merged c =
    c.whole_way.ensures.merged (mapped (run c.args.map.now)) c.in_ok-own.own tt (as_mapped c.args.path.now (remapped c.args.map.now) c.in_ok-own.own c.in_ok-own.ensures)
