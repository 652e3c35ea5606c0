use Rattle.std.proofs.Common.{◌∙◌, sym, subst}
use Rattle.js_tree.specs.Tree.{plain_file}
use Rattle.cov_commands.specs.Instrument.{IsTextOf}
use Rattle.cov_commands.proofs.Texts.{counted_map, counted_text}
use Rattle.cov_commands.proofs.written.written_of.Goals as goal

pub returns-clause-text : goal.returns-clause-text
returns-clause-text c =
    subst (IsTextOf c.args.source.path c.args.source.bytes c.args.source.input (plain_file c.args.tree)) (sym c.written_as.ensures.text)
    (counted_text c.args.source (plain_file c.args.tree) c.in_ok-made.made c.requires.counted c.in_ok-made.ensures)

pub returns-clause-map : goal.returns-clause-map
returns-clause-map c = c.written_as.ensures.map ∙ counted_map c.args.source (plain_file c.args.tree) c.in_ok-made.made c.requires.counted c.in_ok-made.ensures
