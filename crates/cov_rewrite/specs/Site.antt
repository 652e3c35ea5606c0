-- What the code's word on where it is stands for.
use Rattle.js_tree.specs.Hints.{Heed}
use Rattle.js_terms.specs.Mark.{Mark}
use Rattle.js_tree.specs.Plain.{Expr}
use Rattle.cov_hints.specs.Left.{left_of}
use Rattle.cov_rewritten.specs.Counters.{counter}
use Rattle.cov_rewrite.specs.declared.site.Site.{Site}

abbrev pub heed_of : Site → Heed
heed_of site = left_of site.left

abbrev pub counter_of : Site → Mark → Expr
counter_of site = counter site.name.now
