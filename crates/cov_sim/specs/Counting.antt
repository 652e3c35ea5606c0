-- The tree that runs in place of a source, so that it counts its own coverage.
use Rattle.std.specs.Prelude.{◌≡◌, true, false}
use Rattle.js_tree.specs.Plain.{File}
use Rattle.js_tree.specs.Same.{bare_file}
use Rattle.js_layout.specs.Layout.{layout}
use Rattle.js_scopes.specs.Accepted.{AcceptedAgain}
use Rattle.cov_sources.specs.Refused.{HasOnly}
use Rattle.cov_sources.specs.declared.source.Source.{Source}
use Rattle.cov_sim.specs.Instrumented.{instrumented, is_left_out}

-- the tree that the source's text, instrumented, is read again to: the only one that it has, and the instrumented one but for places,
-- comments and parentheses
pub record ReadsAgain (source : Source) (tree other : File) : Type 0 where
  pub accepted : AcceptedAgain (layout (instrumented source.path source.bytes source.input tree)) other
  pub only : HasOnly (layout (instrumented source.path source.bytes source.input tree)) other
  pub same : bare_file other ≡ bare_file (instrumented source.path source.bytes source.input tree)

-- in place of a source of this tree: the tree itself where the source isn't counted or a comment takes it out
pub data RunsAs (source : Source) (tree : File) : File → Type 0 where
  itself : is_left_out source tree ≡ true → RunsAs source tree tree
  again : {other : File} → is_left_out source tree ≡ false → ReadsAgain source tree other → RunsAs source tree other
