-- Members of values, which need not be objects (ECMA-262, 6.2.5.5, 6.2.5.6 and 13.5.1.2), and what operators see in objects (13.5.3,
-- 13.10).
use Rattle.std.specs.Prelude.{ℕ, Bool, false, List, Option, Some, None, Ok, Err, codes, if◌then◌else◌}
use Rattle.js_value.specs.declared.value.Value.{Value}
use Rattle.js_value.specs.declared.value.Value.TheVariants as value
use Rattle.js_value.specs.declared.value.Primitive.TheVariants as primitive
use Rattle.js_value.specs.declared.value.Kind.TheVariants as kind
use Rattle.js_value.specs.declared.built_in.Place.TheVariants as place
use Rattle.js_value.specs.declared.deed.Complaint.TheVariants as complaint
use Rattle.js_value.specs.declared.deed.Halt.{Halt}
use Rattle.js_value.specs.declared.deed.Halt.TheVariants.{Throw, Refuse}
use Rattle.js_value.specs.State.{Heap}
use Rattle.js_value.specs.Objects.{kind_of, is_function, get, has_property, inherits, Delete, Deleted, IsFrozen, LeavesHole, delete, delete_answer}
use Rattle.js_value.specs.Texts.{get_of_text, delete_of_text}
use Rattle.js_value.specs.Realm.{number_of}
use Rattle.js_value.specs.UnaryOperators.{type_of}
use Rattle.js_value.specs.Arguments.{Or, ◌>>=◌, throw, seen, to_text}
use Rattle.js_value.specs.OnObjects.{or_undefined}
use Rattle.js_value.specs.Copying.{Copied, goes_on, stops, write}

-- 7.2.1
abbrev pub coercible : Value → Or Value
coercible (value.Primitive primitive.Undefined) = throw complaint.NoProperties
coercible (value.Primitive primitive.Null) = throw complaint.NoProperties
coercible v = Ok v

-- 7.3.3: a property of a value, its own or inherited
abbrev pub get_of : Heap → Value → List ℕ → Option Value
get_of h (value.Object o) key = get h o.index key
get_of h (value.Primitive (primitive.Text units)) key = get_of_text h (number_of place.StringPrototype) units key
get_of h (value.Primitive (primitive.Number n)) key = get h (number_of place.NumberPrototype) key
get_of h (value.Primitive (primitive.Boolean b)) key = get h (number_of place.BooleanPrototype) key
get_of h (value.Primitive primitive.Undefined) key = None
get_of h (value.Primitive primitive.Null) key = None

-- the key of a member, which is taken where it is used, and after it is known that there are properties
abbrev pub member_key : Value → Value → Or (List ℕ)
member_key base key = coercible base >>= λ b. to_text (seen key)

-- 6.2.5.5, 3
abbrev pub get_member : Heap → Value → Value → Or Value
get_member h base key = member_key base key >>= λ k. Ok (or_undefined (get_of h base k))

-- 6.2.5.6, 3: a primitive value takes no property
abbrev pub put_key : Value → Or (List ℕ) → Value → Heap → Copied
put_key base (Err halt) v h = stops halt h
put_key (value.Primitive p) (Ok key) v h = stops (Throw complaint.ReadOnly) h
put_key (value.Object o) (Ok key) v h = write o.index key v h

abbrev pub put_member : Value → Value → Value → Heap → Copied
put_member base key v h = put_key base (member_key base key) v h

-- why a delete wasn't done
abbrev pub undeleted : Delete → Option Halt
undeleted Deleted = None
undeleted IsFrozen = Some (Throw complaint.ReadOnly)
undeleted LeavesHole = Some (Refuse kind.Sparse)

-- 13.5.1.2, 4: `delete` of a member
abbrev pub delete_key : Value → Or (List ℕ) → Heap → Copied
delete_key base (Err halt) h = stops halt h
delete_key (value.Object o) (Ok key) h = record { heap = delete o.index key h; halt = undeleted (delete_answer h o.index key) }
delete_key (value.Primitive (primitive.Text units)) (Ok key) h = record { heap = h; halt = undeleted (delete_of_text units key) }
delete_key (value.Primitive p) (Ok key) h = goes_on h

abbrev pub delete_member : Value → Value → Heap → Copied
delete_member base key h = delete_key base (member_key base key) h

-- 13.10.1, `in`
abbrev pub is_in : Heap → Value → Value → Or Bool
is_in h v (value.Primitive p) = throw complaint.NotAnObject
is_in h v (value.Object o) = to_text (seen v) >>= λ key. Ok (has_property h o.index key)

-- 7.3.21, 3 to 6
abbrev pub inherits_from : Heap → Value → Option Value → Or Bool
inherits_from h (value.Primitive p) prototype = Ok false
inherits_from h (value.Object o) (Some (value.Object p)) = Ok (inherits h o.index p.index)
inherits_from h (value.Object o) _ = throw complaint.NotAnObject

-- 13.10.2
abbrev pub is_instance : Heap → Value → Value → Or Bool
is_instance h v (value.Primitive p) = throw complaint.NotAFunction
is_instance h v (value.Object f) =
    if is_function (kind_of h f.index) then inherits_from h v (get h f.index (codes "prototype")) else throw complaint.NotAFunction

-- 13.5.3
abbrev pub type_in : Heap → Value → List ℕ
type_in h (value.Primitive p) = type_of p
type_in h (value.Object o) = if is_function (kind_of h o.index) then codes "function" else codes "object"
