-- The text of a file goes to the sink.
use Rattle.std.proofs.Common.{◌≡◌, arith, subst}
use Rattle.std.proofs.lemmas.Result.{on_ok_weaker}
use Rattle.cov_base.specs.Sink.{after_more, TakesPrefix}
use Rattle.js_tree.specs.Tree.{plain_file, plain_stmts}
use Rattle.js_layout.specs.Layout as spec
use Rattle.js_layout.specs.Neat.{neat_stmts}
use Rattle.js_layout.specs.Tokens.{stmts_tokens}
use Rattle.js_sheet.specs.Sheets.{put_all, blank, ended}
use Rattle.js_print.proofs.Printing.{printed_rules}
use Rattle.js_print.proofs.printed.print_to.Goals as goal

-- it goes in pieces
pub finish_in_pieces-requires : goal.finish_in_pieces-requires
finish_in_pieces-requires g c = (c.statements.ensures.stands _ blank (c.in_ok-to.ensures _ _)).way

pub returns-clause-all : goal.returns-clause-all
returns-clause-all g c =
    let there = c.statements.ensures.stands _ blank (c.in_ok-to.ensures _ _) in
    let text : ended (put_all blank (stmts_tokens (neat_stmts (plain_stmts c.as_slice.result.now)))) ≡ spec.layout (plain_file c.args.file.now) = grind (arith, printed_rules) in
    on_ok_weaker c.finish_in_pieces.result (λ all. subst (λ t. g.S.Sink.taken c.finish_in_pieces.new.sink ≡ after_more (g.S.Sink.taken c.args.sink.now) t) text all) (c.finish_in_pieces.ensures _ _ there).0

pub returns-clause-prefix : goal.returns-clause-prefix
returns-clause-prefix g c =
    let there = c.statements.ensures.stands _ blank (c.in_ok-to.ensures _ _) in
    let text : ended (put_all blank (stmts_tokens (neat_stmts (plain_stmts c.as_slice.result.now)))) ≡ spec.layout (plain_file c.args.file.now) = grind (arith, printed_rules) in
    subst (λ t. TakesPrefix (g.S.Sink.taken c.args.sink.now) (g.S.Sink.taken c.finish_in_pieces.new.sink) t) text (c.finish_in_pieces.ensures _ _ there).1

pub returns-clause-cause : goal.returns-clause-cause
returns-clause-cause g c =
    let there = c.statements.ensures.stands _ blank (c.in_ok-to.ensures _ _) in
    (c.finish_in_pieces.ensures _ _ there).2
