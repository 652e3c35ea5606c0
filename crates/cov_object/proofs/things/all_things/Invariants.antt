-- The things so far, before those of the entries that are left, are all.
use Rattle.std.proofs.Common.{◌≡◌, ◌++◌, option_map}
use Rattle.cov_object.specs.private.ByMember.{all_told}
use Rattle.cov_object.proofs.things.all_things.Given as goal

abbrev pub invariant-entries : goal.invariant-entries
invariant-entries g l = option_map (λ more. l.things.items ++ more) (all_told l.id-iterator) ≡ all_told l.fn.entries.entries
