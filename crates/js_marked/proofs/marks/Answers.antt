use Rattle.js_marked.proofs.Links.{links_well}
use Rattle.js_marked.proofs.marks.Goals as goal

pub returns : goal.returns
returns c = links_well
