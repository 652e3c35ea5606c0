use Rattle.std.proofs.Common.{arith}
use Rattle.js_parser.proofs.Standing.{left_out_place, left_out_at}
use Rattle.js_parser.proofs.reader.left_out.Goals as goal

pub offset_at-requires : goal.offset_at-requires
offset_at-requires c = left_out_place c.args.text.now c.args.find c.utf8.text (grind (arith, c.if-text.false)) c.requires.told

pub returns : goal.returns
returns c = λ limit. left_out_at c.args.text.now c.args.find c.offset_at.result c.utf8.text (grind (arith, c.if-text.false)) c.requires.told c.offset_at.ensures
