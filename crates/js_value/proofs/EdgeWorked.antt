-- The worked examples of calls at the edges compute.
use Rattle.std.proofs.Common.{refl}
use Rattle.std.specs.Fmt.{digits}
use Rattle.js_text.specs.Character.{is_gap, is_digit}
use Rattle.js_value.specs.Realm as realm
use Rattle.js_value.specs.EdgeRows.{ArrayEdges, ObjectEdges, ConstructorEdges, ErrorsMade}

pub array_edges : ArrayEdges
unfolding lib.Utf8.encode realm.rows digits is_gap is_digit
array_edges = record { push_nothing = refl; push_many = refl; pop_of_none = refl; pop_more = refl; pop_other = refl; shift_of_none = refl; shift_more = refl; shift_other = refl; unshift_nothing = refl; unshift_many = refl; unshift_other = refl; reverse_of_none = refl; reverse_frozen = refl; reverse_other = refl; slice_whole = refl; slice_past = refl; slice_before = refl; slice_crossed = refl; slice_of_text = refl; slice_reference = refl; slice_no_number = refl; slice_other = refl; concat_nothing = refl; concat_frozen = refl; concat_nested = refl; concat_other = refl; index_past = refl; index_from_end = refl; index_from_before = refl; index_of_nothing = refl; index_strict = refl; index_reference = refl; index_other = refl; includes_nothing = refl; includes_null = refl; includes_other = refl; join_empty_elements = refl; join_of_none = refl; join_by_null = refl; join_by_undefined = refl; join_of_reference = refl; join_other = refl; is_array_of_more = refl; is_array_of_text = refl }

pub object_edges : ObjectEdges
unfolding lib.Utf8.encode realm.rows digits is_gap is_digit
object_edges = record { keys_of_array = refl; keys_in_order = refl; keys_of_null = refl; keys_of_number = refl; prototype_of_nothing = refl; prototype_of_null = refl; freeze_nothing = refl; freezes = refl; freeze_frozen = refl; nothing_is_frozen = refl; create_of_null = refl; create_of_number = refl; create_with_null = refl; creates = refl; has_element = refl; has_no_element = refl; has_length = refl; has_not_inherited = refl; has_undefined = refl; number_has_none = refl; key_is_taken_first = refl; assign_to_nothing = refl; assign_to_null = refl; assign_to_number = refl; assign_alone = refl; assign_null = refl; assign_with_hole = refl; written_before_stays = refl; assign_stops = refl; call_with_nothing = refl; call_number = refl; call_undefined = refl; apply_with_nothing = refl; apply_null = refl; apply_text = refl; apply_other = refl; text_of_nothing = refl }

pub constructor_edges : ConstructorEdges
unfolding lib.Utf8.encode realm.rows digits is_gap is_digit
constructor_edges = record { object_of_null = refl; object_of_text = refl; array_of_none = refl; array_of_zero = refl; array_of_text = refl; text_of_none = refl; text_of_null = refl; text_of_reference = refl; new_text = refl; number_of_text = refl; number_of_no_number = refl; number_of_reference = refl; new_number = refl; boolean_of_none = refl; boolean_of_zero = refl; boolean_of_text = refl; new_boolean = refl }

pub errors_made : ErrorsMade
unfolding lib.Utf8.encode realm.rows digits is_gap is_digit
errors_made = record { error = refl; error_of_nothing = refl; error_of_number = refl; error_of_reference = refl; type_error = refl; type_error_of_nothing = refl; type_error_of_number = refl; type_error_of_reference = refl; range_error = refl; range_error_of_nothing = refl; range_error_of_number = refl; range_error_of_reference = refl; reference_error = refl; reference_error_of_nothing = refl; reference_error_of_number = refl; reference_error_of_reference = refl; syntax_error = refl; syntax_error_of_nothing = refl; syntax_error_of_number = refl; syntax_error_of_reference = refl; new_error = refl; error_is_one = refl; error_inherits = refl }
