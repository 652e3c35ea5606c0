-- What patterns are seen as.
use Rattle.js_tree.proofs.Equations.{pattern_made, pattern_binding_identifier}

pub ruleset pattern_rules = (pattern_made, pattern_binding_identifier)
