use Rattle.std.proofs.Common.{sym, subst}
use Rattle.cov_maps.specs.Placed.{ArePlaced}
use Rattle.cov_commands.proofs.maps.text_for.Goals as goal

pub zero-requires : goal.zero-requires
zero-requires c = record { lines = subst ArePlaced (sym c.as_slice.ensures.value) c.requires }
