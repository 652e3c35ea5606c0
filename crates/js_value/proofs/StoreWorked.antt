-- The worked examples compute.
use Rattle.std.proofs.Common.{refl}
use Rattle.std.specs.Fmt.{digits}
use Rattle.js_value.specs.StoreRows.{Keys, Arrays, Changes, Texts, Names}

pub keys : Keys
unfolding digits
keys = record { order = refl; again = refl; anew = refl; index = refl; last = refl; zero = refl; empty = refl; flags = refl }

pub arrays : Arrays
unfolding digits
arrays = record { length = refl; element = refl; none = refl; past = refl; past_kept = refl; appends = refl; appended = refl; put = refl; no_index = refl; shortened = refl; shorter = refl; same_length = refl; longer = refl; negative = refl; negative_kept = refl; hole = refl; hole_kept = refl; no_hole = refl; kept = refl; member = refl; more = refl; fewer = refl; others = refl; frozen_element = refl; frozen_past = refl; frozen_longer = refl; frozen_negative = refl; frozen_hole = refl }

pub changes : Changes
unfolding digits
changes = record { inherited = refl; own_only = refl; under_frozen = refl; none_made = refl; under_fixed_one = refl; fixed_none_made = refl; other = refl; frozen = refl; frozen_own = refl; fixed_one = refl; of_frozen = refl; absent = refl; inherited_stays = refl; once = refl; gone = refl; prototype_stays = refl; written_stays = refl; of_arrow = refl; of_arrow_gone = refl; of_object = refl }

pub texts : Texts
unfolding digits
texts = record { unit = refl; past_end = refl; length_own = refl; none = refl; in_order = refl; inherits = refl; own_first = refl; unit_stays = refl; length_stays = refl; no_unit = refl }

pub names : Names
unfolding digits
names = record { around = refl; inside = refl; outside = refl; dead = refl; dead_first = refl; constant = refl; kept = refl }
