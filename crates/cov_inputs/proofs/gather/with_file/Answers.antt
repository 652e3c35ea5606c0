-- What the store holds at the path is what was read.
use Rattle.std.proofs.Common.{Some}
use Rattle.cov_inputs.proofs.Steps.{answers_at, holds_of}
use Rattle.cov_inputs.proofs.gather.with_file.Goals as goal

pub returns-in-Ok-Some-clause-answers : goal.returns-in-Ok-Some-clause-answers
returns-in-Ok-Some-clause-answers g c =
    answers_at (g.S.Store.held c.args.store.now) c.args.sums c.args.path.now (Some c.as_slice.result.now)
    (holds_of (g.S.Store.held c.args.store.now) c.args.path.now c.as_slice.result.now c.in-Ok-Some.field-0 c.in-Ok-Some.bytes c.in-Ok-Some.ensures.value c.in-Ok-Some.field-0-is c.as_slice.ensures.value)
    c.with_bytes.result c.with_bytes.ensures.answers
