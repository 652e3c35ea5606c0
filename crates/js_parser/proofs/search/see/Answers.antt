use Rattle.js_parser.proofs.search.see.Goals as goal

pub returns : goal.returns
returns c = (c.sight.ensures, c.group.ensures, c.parameter.ensures, c.callee.ensures, c.outside.ensures)
