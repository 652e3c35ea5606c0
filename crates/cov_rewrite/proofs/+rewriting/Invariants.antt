use Rattle.std.proofs.Common.{◌≡◌}
use Rattle.js_tree.specs.Tree.{plain_cases, plain_declarators, plain_exprs, plain_params, plain_properties, plain_stmts, plain_template_parts}
use Rattle.cov_rewritten.specs.Rewritten.{counts}
use Rattle.cov_rewrite.specs.Made as made
use Rattle.cov_rewrite.specs.Numbers.{counts_of}
use Rattle.cov_rewrite.specs.Site.{counter_of, heed_of}
use Rattle.cov_rewrite.proofs.Pushes.{still_first}
use Rattle.cov_rewrite.proofs.+rewriting.Given as goal

abbrev pub invariant-expressions::expressions-loop-each : goal.invariant-expressions::expressions-loop-each
invariant-expressions::expressions-loop-each l = (plain_exprs l.out ≡ made.made_exprs (counter_of l.site) (heed_of l.site) (plain_exprs l.yielded) (counts_of l.fn.numbers))
    × (counts_of l.numbers ≡ made.next_exprs (heed_of l.site) (plain_exprs l.yielded) (counts_of l.fn.numbers))

abbrev pub invariant-expressions::template_parts-loop-each : goal.invariant-expressions::template_parts-loop-each
invariant-expressions::template_parts-loop-each l = (plain_template_parts l.out ≡ made.made_parts (counter_of l.site) (heed_of l.site) (plain_template_parts l.yielded) (counts_of l.fn.numbers))
    × (counts_of l.numbers ≡ made.next_parts (heed_of l.site) (plain_template_parts l.yielded) (counts_of l.fn.numbers))

abbrev pub invariant-expressions::properties-loop-each : goal.invariant-expressions::properties-loop-each
invariant-expressions::properties-loop-each l = (plain_properties l.out ≡ made.made_properties (counter_of l.site) (heed_of l.site) (plain_properties l.yielded) (counts_of l.fn.numbers))
    × (counts_of l.numbers ≡ made.next_properties (heed_of l.site) (plain_properties l.yielded) (counts_of l.fn.numbers))

abbrev pub invariant-functions::params-loop-each : goal.invariant-functions::params-loop-each
invariant-functions::params-loop-each l = (plain_params l.out ≡ made.made_params (counter_of l.site) (heed_of l.site) (plain_params l.yielded) (counts_of l.fn.numbers))
    × (counts_of l.numbers ≡ made.next_params (heed_of l.site) (plain_params l.yielded) (counts_of l.fn.numbers))

abbrev pub invariant-statements::statements-loop-each : goal.invariant-statements::statements-loop-each
invariant-statements::statements-loop-each l = (plain_stmts l.out ≡ made.made_stmts (counter_of l.site) l.home (heed_of l.site) (plain_stmts l.yielded) (counts_of l.fn.numbers))
    × (counts_of l.numbers ≡ made.next_stmts (heed_of l.site) (plain_stmts l.yielded) (counts_of l.fn.numbers))

abbrev pub invariant-declarations::declarators-loop-each : goal.invariant-declarations::declarators-loop-each
invariant-declarations::declarators-loop-each l = (plain_declarators l.out ≡ made.made_declarators (counter_of l.site) l.home (heed_of l.site) (plain_declarators l.yielded) (counts_of l.fn.numbers))
    × (plain_stmts l.counters ≡ counts (counter_of l.site) (made.hoisted l.home (heed_of l.site) (plain_declarators l.yielded) (counts_of l.fn.numbers)))
    × (l.hoists ≡ still_first (plain_declarators l.yielded) l.home)
    × (counts_of l.numbers ≡ made.next_declarators (heed_of l.site) (plain_declarators l.yielded) (counts_of l.fn.numbers))

abbrev pub invariant-statements::cases-loop-each : goal.invariant-statements::cases-loop-each
invariant-statements::cases-loop-each l = (plain_cases l.out ≡ made.made_cases (counter_of l.site) (heed_of l.site) l.branch 0 (plain_cases l.yielded) (counts_of l.fn.numbers))
    × (l.path ≡ made.past_cases (heed_of l.site) 0 (plain_cases l.yielded))
    × (counts_of l.numbers ≡ made.next_cases (heed_of l.site) (plain_cases l.yielded) (counts_of l.fn.numbers))
