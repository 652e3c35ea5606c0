-- What was found is what the properties so far tell.
use Rattle.std.proofs.Common.{◌≡◌, take, map}
use Rattle.cov_object.specs.Data.{member_of}
use Rattle.cov_object.specs.Json.{by_key}
use Rattle.cov_object.specs.private.ByFile.{answers, answered}
use Rattle.cov_object.proofs.data.answers_in.Given as goal

abbrev pub invariant-loop-property : goal.invariant-loop-property
invariant-loop-property l = answers (by_key (map member_of (take l.property-index l.properties))) ≡ answered l.found.entries
