-- The place of a refusal is one of the text.
use Rattle.js_text.specs.Limits.{source_limits}
use Rattle.cov_sources.proofs.Reached.{refused_within}
use Rattle.cov_sources.proofs.accepting.unread.Goals as goal

pub position-place-requires : goal.position-place-requires
position-place-requires c = refused_within c.args.text.now c.args.refused source_limits.height c.requires.utf8 c.requires.refused
