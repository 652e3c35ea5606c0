use Rattle.std.proofs.Common.{ap}
use Rattle.js_reading.specs.Found.{starts}
use Rattle.js_parser.proofs.recent.Recent.new.Goals as goal

pub returns : goal.returns
returns c = (tt, tt, λ l. ap (starts l) c.new.ensures)
