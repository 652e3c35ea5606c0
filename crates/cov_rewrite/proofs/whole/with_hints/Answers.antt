-- What the file's statements are told is what the file's hints leave.
use Rattle.std.proofs.Common.{ap, true, ◌∙◌, if◌then◌else◌}
use Rattle.js_tree.specs.Hints.{Ignored, Heeding}
use Rattle.js_tree.specs.Plain.{MakeFile}
use Rattle.js_tree.specs.Tree.{plain_stmts}
use Rattle.cov_hints.specs.Table.{hint_in_table}
use Rattle.cov_maps.proofs.HintTable.{left_same}
use Rattle.cov_rewritten.specs.Counters.{counter}
use Rattle.cov_rewritten.specs.Rewritten.{after_directives}
use Rattle.cov_rewritten.specs.Whole.{from_zero}
use Rattle.cov_rewrite.specs.Made.{made_stmts}
use Rattle.cov_rewrite.proofs.whole.with_hints.Goals as goal

pub returns : goal.returns
returns c =
    let in_table = hint_in_table c.args.hints.now.held in
    ap (λ xs. MakeFile xs c.args.file.comments)
    (c.in_ok-body.ensures
    ∙ ap (after_directives (plain_stmts c.args.first))
    (c.in_ok-counted.ensures.tree
    ∙ ap (λ l. made_stmts (counter c.args.own.now) true l (plain_stmts c.args.file.body) from_zero.counts)
    (ap (λ b. if b then Ignored else Heeding in_table) c.ignores_file.ensures ∙ left_same in_table c.args.file.comments c.requires)))
