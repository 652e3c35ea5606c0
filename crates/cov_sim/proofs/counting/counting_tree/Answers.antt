use Rattle.std.proofs.Common.{◌≡◌, true, false, rules}
use Rattle.js_tree.specs.Tree.{plain_file}
use Rattle.cov_sim.specs.Counting.{itself}
use Rattle.cov_sim.specs.Instrumented.{instrumented, is_left_out}
use Rattle.cov_sim.proofs.ReadAgain.{runs_again}
use Rattle.cov_sim.proofs.counting.counting_tree.Goals as goal

pub returns-then-is_left : goal.returns-then-is_left
returns-then-is_left c =
    let out : is_left_out c.args.source.now (plain_file c.args.tree) ≡ true = search rules in
    itself out

pub read_again-requires : goal.read_again-requires
read_again-requires c = (instrumented c.args.source.now.path c.args.source.now.bytes c.args.source.now.input (plain_file c.args.tree), c.in_ok-text.ensures.again)

pub returns : goal.returns
returns c =
    let kept : is_left_out c.args.source.now (plain_file c.args.tree) ≡ false = search rules in
    runs_again plain_file c.args.source.now (plain_file c.args.tree) c.in_ok-text.text c.in_ok-text.ensures.text kept c.in_ok-text.ensures.again
    c.read_again.result c.read_again.ensures.accepted c.read_again.ensures.only
