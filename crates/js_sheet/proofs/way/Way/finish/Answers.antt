use Rattle.js_sheet.proofs.Kept.{pieces_cut}
use Rattle.js_sheet.proofs.way.Way.finish.Goals as goal

pub returns-in_err-finish-in-InPieces-clause-prefix : goal.returns-in_err-finish-in-InPieces-clause-prefix
returns-in_err-finish-in-InPieces-clause-prefix g c = pieces_cut (g.S.Sink.taken c.args.sink.now) c.in-InPieces.is c.finish.ensures.prefix

pub returns-clause-prefix : goal.returns-clause-prefix
returns-clause-prefix g c = pieces_cut (g.S.Sink.taken c.args.sink.now) c.in-InPieces.is c.finish.ensures.prefix
