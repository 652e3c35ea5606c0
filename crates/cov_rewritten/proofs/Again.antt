-- The text of a rewritten file is read again as the same tree, which breaks no rule.
use Rattle.std.proofs.Common.{◌+◌, ◌*◌, ◌≤◌, ℕ, true, false, max, ◌∙◌, sym, arith}
use Rattle.serde_json.specs.Data.{depth}
use Rattle.js_tree.specs.Height.{height_file, height_stmts}
use Rattle.js_spelling.proofs.Ones.{has_tokens}
use Rattle.js_layout.specs.Neat.{neat_file}
use Rattle.js_layout.proofs.Accepted.{accepted_prints}
use Rattle.js_layout.proofs.Again.{layout_is_text, reads_again}
use Rattle.js_layout.proofs.Low.{reads_low}
use Rattle.js_layout.proofs.BareUnplaced.{same_alike_file}
use Rattle.js_layout.proofs.Bare.{bare_neat_file}
use Rattle.cov_rewritten.specs.Laws.{RewritesWell}
use Rattle.cov_rewritten.specs.Preamble.{json_string, literal, preamble}
use Rattle.cov_rewritten.specs.Whole.{rewritten}
use Rattle.cov_rewritten.proofs.JsonStrings.{json_string_is}
use Rattle.cov_rewritten.proofs.Laws.{keeps_printable, keeps_low}
use Rattle.cov_rewritten.proofs.PreamblePrints.{preamble_prints}
use Rattle.cov_rewritten.proofs.Rules.{keeps_rules}
use Rattle.cov_rewritten.proofs.SameRules.{same_breaks_alike}
use Rattle.cov_rewritten.proofs.Values.{value_is, stands_low}

within : (a b c d : ℕ) → a ≤ 2 * b → b ≤ max c (8 * d) → c ≤ 32 → d ≤ 128 → a ≤ 2048
within a b c d h g e f = omega (arith, h, g, e, f)

levels : (a d : ℕ) → a ≤ 2 * d + 10 → d ≤ 11 → a ≤ 32
levels a d h g = omega (arith, h, g)

pub rewrites_well : RewritesWell
rewrites_well n path hash zero bytes tree accepted refers fresh p q r deep =
    let x = rewritten n path hash zero tree in
    let first = preamble_prints n (json_string path) (json_string hash) (literal zero) refers (json_string_is path p) (json_string_is hash q) (value_is zero r) in
    let printable = accepted_prints has_tokens false bytes tree accepted.utf8 accepted.reads accepted.unbroken in
    let prints = keeps_printable n path hash zero tree printable refers first in
    let read = reads_again x prints in
    let same = same_alike_file read.tree (neat_file x) read.alike ∙ bare_neat_file x in
    record {
      tree = read.tree;
      utf8 = layout_is_text x prints;
      reads = read.reads;
      same = same;
      low = within (height_file read.tree) (height_file x) (height_stmts (preamble n path hash zero)) (height_file tree) (reads_low x read) (keeps_low n path hash zero tree printable)
          (levels (height_stmts (preamble n path hash zero)) (depth zero) (stands_low n path hash zero) deep) accepted.low;
      unbroken = same_breaks_alike true x read.tree (sym same) (keeps_rules n path hash zero tree printable accepted.unbroken fresh);
    }
