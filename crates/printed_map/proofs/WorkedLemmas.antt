-- The worked map computes.
use Rattle.std.proofs.Common.{refl}
use Rattle.std.specs.Str.{chars}
use Rattle.unicode_ident.proofs.Computing.{unicode_ident}
use Rattle.js_text.specs.Character.{continues_identifier}
use Rattle.printed_map.specs.Worked.{WorkedMap}

pub worked_map : WorkedMap
unfolding chars continues_identifier unicode_ident
worked_map = refl
