use Rattle.js_counted.proofs.Beginning.{files_begin}
use Rattle.js_counted.proofs.beginning_of_files.Goals as goal

pub returns : goal.returns
returns c = files_begin
