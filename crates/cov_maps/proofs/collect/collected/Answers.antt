-- What the file's statements are told is what the file's hints leave.
use Rattle.std.proofs.Common.{◌++◌, ap, ◌∙◌, if◌then◌else◌}
use Rattle.cov_hints.specs.Table.{hint_in_table}
use Rattle.cov_maps.specs.private.Told.{told_of}
use Rattle.js_tree.specs.Hints.{Ignored, Heeding}
use Rattle.js_tree.specs.Tree.{plain_stmts}
use Rattle.js_walk.specs.Constructs.{own_construct, tell, told}
use Rattle.js_walk.specs.Walk.{within_stmts}
use Rattle.cov_maps.proofs.HintTable.{left_same}
use Rattle.cov_maps.proofs.collect.collected.Goals as goal

pub returns : goal.returns
returns c =
    c.in_ok-visit_file.ensures
    ∙ ap (λ l. l ++ within_stmts own_construct tell (plain_stmts c.args.file.now.body) (told_of c.of.result)) c.new.ensures
    ∙ ap (within_stmts own_construct tell (plain_stmts c.args.file.now.body))
    (c.of.ensures
    ∙ ap (λ b. told (if b then Ignored else Heeding (hint_in_table c.args.hints.now.held))) c.ignores_file.ensures
    ∙ ap told (left_same (hint_in_table c.args.hints.now.held) c.args.file.now.comments c.requires))
