-- The rules by which the printing walk is proved.
use Rattle.js_tree.proofs.Equations.{tree_rules}
use Rattle.js_sheet.proofs.Puts.{put_append, begun_cons, begun_expr, begun_pattern, begun_key, paired_true}
use Rattle.js_print.proofs.Lists.{case_begins}
use Rattle.js_sheet.proofs.Made.{all_text, all_marks, marks_ascend}
use Rattle.js_sheet.proofs.Openings.{left_pair, statement_is, body_is, bares_is}

pub ruleset print_rules = (tree_rules, put_append, begun_cons, begun_expr, begun_pattern, begun_key, paired_true, case_begins, left_pair, statement_is, body_is, bares_is)

pub ruleset printed_rules = (tree_rules, all_text, all_marks, marks_ascend)
