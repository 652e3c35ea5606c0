-- The worked examples of built-in functions compute.
use Rattle.std.proofs.Common.{refl}
use Rattle.std.specs.Fmt.{digits}
use Rattle.js_value.specs.Realm as realm
use Rattle.js_value.specs.HostRows.{ArrayCalls, ObjectCalls, ConstructorCalls, Calling}
use Rattle.js_value.specs.RequiringRows.{Requires}
use Rattle.std.specs.Char.Utf16.{utf16_chars}

pub array_calls : ArrayCalls
unfolding lib.Utf8.encode realm.rows digits
array_calls = record { push = refl; pushed = refl; push_frozen = refl; push_other = refl; pop = refl; popped = refl; pop_frozen = refl; shift = refl; shifted = refl; shift_frozen = refl; unshift = refl; unshifted = refl; unshift_frozen = refl; reverse = refl; reversed = refl; reverse_frozen = refl; sliced = refl; slice = refl; slice_to = refl; concat = refl; index_of = refl; index_of_none = refl; index_of_empty = refl; includes = refl; includes_from = refl; includes_place = refl; join = refl; join_by = refl; join_reference = refl; is_array = refl; is_no_array = refl; is_nothing = refl }

pub object_calls : ObjectCalls
unfolding lib.Utf8.encode realm.rows digits
object_calls = record { keys = refl; keys_of_nothing = refl; keys_of_text = refl; prototype = refl; no_prototype = refl; prototype_of_number = refl; freeze = refl; freeze_number = refl; is_frozen = refl; isnt_frozen = refl; number_is_frozen = refl; create = refl; create_of_nothing = refl; create_with = refl; has = refl; has_unit = refl; has_nothing = refl; assign = refl; assigned_one = refl; assign_frozen = refl; assign_text = refl; call = refl; call_other = refl; apply = refl; apply_no_length = refl; apply_number = refl; function_text = refl; other_text = refl }

pub constructor_calls : ConstructorCalls
unfolding lib.Utf8.encode realm.rows digits
constructor_calls = record { object_itself = refl; object_fresh = refl; object_of_number = refl; array_of_two = refl; array_of_length = refl; array_of_negative = refl; text_of = refl; number_of = refl; number_of_nothing = refl; number_of_undefined = refl; boolean_of = refl }

pub calling : Calling
unfolding lib.Utf8.encode realm.rows digits
calling = record { line = refl; nothing = refl; lone = refl; pair = refl; refused = refl; constructed = refl; print = refl; require = refl; require_number = refl; past = refl }

pub requires_files : Requires
unfolding lib.Utf8.encode utf16_chars
requires_files = record { above = refl; above_the_root = refl; of_package = refl; nothing = refl; astral = refl; lone = refl; by_file = refl; by_other = refl; by_none = refl }
