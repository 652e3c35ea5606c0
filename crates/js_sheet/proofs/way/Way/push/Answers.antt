use Rattle.std.proofs.Common.{refl}
use Rattle.js_sheet.proofs.Kept.{pieces_more, pieces_part}
use Rattle.js_sheet.proofs.way.Way.push.Goals as goal

pub returns-in_err-put-in-InPieces-clause-prefix : goal.returns-in_err-put-in-InPieces-clause-prefix
returns-in_err-put-in-InPieces-clause-prefix g c = pieces_part (g.S.Sink.taken c.args.sink.now) c.in-InPieces.is c.as_bytes.ensures.value c.put.ensures.prefix

pub returns-in_ok-put-in-InPieces-clause-kept : goal.returns-in_ok-put-in-InPieces-clause-kept
returns-in_ok-put-in-InPieces-clause-kept g c = pieces_more c.put.new.self c.in-InPieces.is refl c.as_bytes.ensures.value c.in_ok-put-in-InPieces.ensures.moved

pub returns-in_ok-put-in-InPieces-clause-prefix : goal.returns-in_ok-put-in-InPieces-clause-prefix
returns-in_ok-put-in-InPieces-clause-prefix g c = pieces_part (g.S.Sink.taken c.args.sink.now) c.in-InPieces.is c.as_bytes.ensures.value c.put.ensures.prefix
