-- What the code's word on hints stands for.
use Rattle.std.specs.Prelude.{if◌then◌else◌}
use Rattle.cov_hints.specs.Table.{hint_in_table}
use Rattle.cov_hints.specs.declared.left.Left.{Left}
use Rattle.js_tree.specs.Hints.{Heed, Ignored, Heeding}

abbrev pub left_of : Left → Heed
left_of left = if left.ignored then Ignored else Heeding (hint_in_table left.hints.now.held)
