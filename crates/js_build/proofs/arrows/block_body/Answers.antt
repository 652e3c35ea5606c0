use Rattle.std.proofs.Common.{◌≡◌, Some, ◌∙◌, true, false, sym, ap}
use Rattle.js_tree.specs.Height.{height_concise_body}
use Rattle.js_tree.specs.Plain as tree
use Rattle.js_tree.specs.Tree.{plain_concise_body, plain_function_body, plain_stmts}
use Rattle.js_tree.proofs.Equations.{concise_body_block_body}
use Rattle.js_build.specs.Concise.{last_of, bare_of}
use Rattle.js_build.specs.View.{plain_pieces}
use Rattle.js_build.proofs.ArrowLaws.{block_missing, block_over}
use Rattle.js_build.proofs.arrows.block_body.Goals as goal

pub returns-in-None : goal.returns-in-None
returns-in-None c = sym (block_missing c.args.opening (plain_pieces c.args.pieces) c.in-None.ensures.read)

pub returns-then-not-is_over : goal.returns-then-not-is_over
returns-then-not-is_over c = sym (block_over c.args.opening (plain_pieces c.args.pieces) (plain_pieces c.braces.new.pieces) (plain_stmts c.in-Some.braces.0.items) c.in-Some.braces.1 false c.in-Some.ensures.read c.if-not-is_over.ensures)

pub invariant_of-result : goal.invariant_of-result
invariant_of-result c =
    let made : plain_concise_body c.in_ok-new.field-0 ≡ tree.BlockBody (plain_function_body c.in_ok-body.body.tree) = ap plain_concise_body c.in_ok-new.ensures ∙ concise_body_block_body c.in_ok-body.body.tree in
    record {
      height_exact = c.in_ok-body.body.height_exact ∙ sym (ap height_concise_body made);
      last_exact = sym (ap last_of made);
      bare_exact = sym (ap bare_of made);
    }

pub returns : goal.returns
returns c = ap (λ b. Some (plain_concise_body b)) c.in_ok-new.ensures ∙ ap Some (concise_body_block_body c.in_ok-body.body.tree ∙ ap tree.BlockBody c.in_ok-body.ensures)
    ∙ sym (block_over c.args.opening (plain_pieces c.args.pieces) (plain_pieces c.braces.new.pieces) (plain_stmts c.in-Some.braces.0.items) c.in-Some.braces.1 true c.in-Some.ensures.read c.if-not-is_over.ensures)
