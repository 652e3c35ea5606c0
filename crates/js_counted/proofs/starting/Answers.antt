use Rattle.js_counted.proofs.FileStarts.{files_start}
use Rattle.js_counted.proofs.starting.Goals as goal

pub returns : goal.returns
returns c = files_start
