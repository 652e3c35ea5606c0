-- The built-in functions that look at objects (ECMA-262, 20.1.2, 20.1.3, 20.2.3 and 23.1): each looks at what it needs, and then
-- does one deed, or complains.
use Rattle.std.specs.Prelude.{ℕ, zero, suc, ◌+◌, ◌-◌, Bool, true, false, List, [], ◌∷◌, ◌++◌, map, length, take, drop, reverse, flat_map, position, is_some, codes, nat_lt, if◌then◌else◌, ℤ, pos, negsuc, Option, Some, None, Ok, slice_index_or}
use Rattle.js_value.specs.declared.value.Value.{Value}
use Rattle.js_value.specs.declared.value.Value.TheVariants as value
use Rattle.js_value.specs.declared.value.Object.{Object}
use Rattle.js_value.specs.declared.value.Primitive.TheVariants as primitive
use Rattle.js_value.specs.declared.value.Kind.TheVariants as kind
use Rattle.js_value.specs.declared.key.Key.{Key}
use Rattle.js_value.specs.declared.built_in.OnObjects.{OnObjects}
use Rattle.js_value.specs.declared.built_in.OnObjects.TheVariants.{Assign, Create, Freeze, GetPrototypeOf, IsFrozen, Keys, HasOwnProperty, Apply, Call, FunctionToString, IsArray, Concat, Includes, IndexOf, Join, Pop, Push, Reverse, Shift, Slice, Unshift}
use Rattle.js_value.specs.declared.deed.Complaint.TheVariants.{NotAFunction, NoProperties, NotAnObject, NotAnArray, ReadOnly, WrongReceiver}
use Rattle.js_value.specs.declared.deed.Deed.{Deed}
use Rattle.js_value.specs.declared.deed.Deed.TheVariants as deed
use Rattle.js_value.specs.State.{Heap}
use Rattle.js_value.specs.Numbers.{decimal_text}
use Rattle.js_value.specs.Equality.{strictly_equal}
use Rattle.js_value.specs.Objects.{object_at, kind_of, count_value, elements_of, own, get, keys, is_array, is_function, array_length}
use Rattle.js_value.specs.Texts.{own_of_text}
use Rattle.js_value.specs.Realm.{object, undefined, text}
use Rattle.js_value.specs.Arguments.{Or, ◌>>=◌, throw, refuse, Seen, seen, argument, to_number, to_text, number_or, relative}
use Rattle.js_value.specs.OnData.{joined}

-- the argument at a place, undefined where there is none
abbrev pub value_at : List Value → ℕ → Value
value_at arguments n = slice_index_or arguments n undefined

-- the same as a function sees it that looks at no object
abbrev pub seen_at : List Value → ℕ → Seen
seen_at arguments n = argument (map seen arguments) n

abbrev pub give : Value → Or Deed
give v = Ok (deed.Give v)

abbrev pub truth : Bool → Or Deed
truth b = give (value.Primitive (primitive.Boolean b))

-- What is asked of values

-- a value that has to be an object: what is undefined or null complains, other primitive values aren't converted
abbrev pub object_of : Value → Or Object
object_of (value.Object o) = Ok o
object_of (value.Primitive primitive.Undefined) = throw NotAnObject
object_of (value.Primitive primitive.Null) = throw NotAnObject
object_of (value.Primitive _) = refuse kind.Convert

-- 7.2.2
abbrev pub is_array_in : Heap → Value → Bool
is_array_in h (value.Object o) = is_array (kind_of h o.index)
is_array_in h (value.Primitive p) = false

-- 7.2.3
abbrev pub is_function_in : Heap → Value → Bool
is_function_in h (value.Object o) = is_function (kind_of h o.index)
is_function_in h (value.Primitive p) = false

-- a value that has to be a function
abbrev pub function_of : Heap → Value → Or Value
function_of h v = if is_function_in h v then Ok v else throw NotAFunction

-- a value that has to be an array
abbrev pub array_of : Heap → Value → Or Object
array_of h (value.Object o) = if is_array (kind_of h o.index) then Ok o else throw NotAnArray
array_of h (value.Primitive p) = throw NotAnArray

-- a change of an object, where it isn't frozen: also where no element would change, for the length is written (23.1.3.22)
abbrev pub changes : Heap → Object → Deed → Or Deed
changes h o d = if (object_at h o.index).frozen then throw ReadOnly else Ok d

-- Objects

-- 20.1.2.1
abbrev pub assign : List Value → Or Deed
assign arguments = object_of (value_at arguments 0) >>= λ o. Ok (deed.Copy o (drop 1 arguments))

-- what a new object inherits from: an object, or nothing
abbrev pub parent_of : Value → Or (Option Object)
parent_of (value.Object o) = Ok (Some o)
parent_of (value.Primitive primitive.Null) = Ok None
parent_of (value.Primitive _) = throw NotAnObject

-- an object without properties, where none are asked for
abbrev pub plain_object : Option Object → Value → Or Deed
plain_object parent (value.Primitive primitive.Undefined) = Ok (deed.MakeObject parent)
plain_object parent _ = refuse kind.Convert

-- 20.1.2.2
abbrev pub create : List Value → Or Deed
create arguments = parent_of (value_at arguments 0) >>= λ parent. plain_object parent (value_at arguments 1)

-- 20.1.2.6
abbrev pub freeze_it : Value → Or Deed
freeze_it (value.Object o) = Ok (deed.Freeze o)
freeze_it (value.Primitive p) = give (value.Primitive p)

abbrev pub object_or_null : Option ℕ → Value
object_or_null (Some o) = object o
object_or_null None = value.Primitive primitive.Null

-- 20.1.2.12
abbrev pub get_prototype_of : List Value → Heap → Or Deed
get_prototype_of arguments h = object_of (value_at arguments 0) >>= λ o. give (object_or_null (object_at h o.index).prototype)

-- 20.1.2.17
abbrev pub is_frozen_in : Heap → Value → Bool
is_frozen_in h (value.Object o) = (object_at h o.index).frozen
is_frozen_in h (value.Primitive p) = true

abbrev pub enumerable_texts : List Key → List Value
enumerable_texts [] = []
enumerable_texts (k ∷ ks) = if k.enumerable then text k.key ∷ enumerable_texts ks else enumerable_texts ks

-- 20.1.2.19
abbrev pub keys_of : List Value → Heap → Or Deed
keys_of arguments h = object_of (value_at arguments 0) >>= λ o. Ok (deed.MakeArray (enumerable_texts (keys h o.index)))

-- whether a value has a property of its own: of the primitive values texts alone have any (10.4.3)
abbrev pub has_own : Heap → Value → List ℕ → Or Bool
has_own h (value.Object o) key = Ok (is_some (own h o.index key))
has_own h (value.Primitive primitive.Undefined) key = throw NoProperties
has_own h (value.Primitive primitive.Null) key = throw NoProperties
has_own h (value.Primitive (primitive.Boolean b)) key = Ok false
has_own h (value.Primitive (primitive.Number n)) key = Ok false
has_own h (value.Primitive (primitive.Text us)) key = Ok (is_some (own_of_text us key))

-- 20.1.3.2: the key is taken first
abbrev pub has_own_property : Value → List Value → Heap → Or Deed
has_own_property this arguments h = to_text (seen_at arguments 0) >>= λ key. has_own h this key >>= truth

-- Functions

abbrev pub or_undefined : Option Value → Value
or_undefined None = undefined
or_undefined (Some v) = v

abbrev pub value_of_index : Heap → ℕ → ℕ → Value
value_of_index h o n = or_undefined (get h o (decimal_text (pos n)))

-- the properties at so many indices, from an index on
abbrev pub at_indices : Heap → ℕ → ℕ → ℕ → List Value
at_indices h o zero n = []
at_indices h o (suc k) n = value_of_index h o n ∷ at_indices h o k (suc n)

-- 7.1.20: a length that is negative is none
abbrev pub count_of : ℤ → ℕ
count_of (pos n) = n
count_of (negsuc n) = 0

-- 7.3.19: an object that has no length has none of these
abbrev pub length_of : Option Value → Or ℕ
length_of None = Ok 0
length_of (Some v) = to_number (seen v) >>= λ n. Ok (count_of n)

-- 7.3.18, of an object
abbrev pub listed_of : Heap → ℕ → Or (List Value)
listed_of h o =
    if is_array (kind_of h o) then Ok (elements_of h o)
    else length_of (get h o array_length) >>= λ n. Ok (at_indices h o n 0)

-- 20.2.3.1, 3, and 7.3.18
abbrev pub listed : Heap → Value → Or (List Value)
listed h (value.Object o) = listed_of h o.index
listed h (value.Primitive primitive.Undefined) = Ok []
listed h (value.Primitive primitive.Null) = Ok []
listed h (value.Primitive _) = throw NotAnObject

-- 20.2.3.1
abbrev pub apply : Value → List Value → Heap → Or Deed
apply this arguments h = function_of h this >>= λ f.
    listed h (value_at arguments 1) >>= λ vs. Ok (deed.Enter f (value_at arguments 0) vs)

-- 20.2.3.3
abbrev pub call : Value → List Value → Heap → Or Deed
call this arguments h = function_of h this >>= λ f. Ok (deed.Enter f (value_at arguments 0) (drop 1 arguments))

-- 20.2.3.5: the text of a function is left out
abbrev pub function_to_string : Value → Heap → Or Deed
function_to_string this h = if is_function_in h this then refuse kind.Text else throw WrongReceiver

-- Arrays

-- 23.1.3.2.1 and 23.1.3.2, 5: an array's elements, or the value itself
abbrev pub spread : Heap → Value → List Value
spread h (value.Object o) = if is_array (kind_of h o.index) then elements_of h o.index else value.Object o ∷ []
spread h (value.Primitive p) = value.Primitive p ∷ []

-- 23.1.3.2
abbrev pub concat : Value → List Value → Heap → Or Deed
concat this arguments h = array_of h this >>= λ o.
    Ok (deed.MakeArray (elements_of h o.index ++ flat_map (spread h) arguments))

abbrev pub moved_place : ℕ → Option ℕ → Option ℕ
moved_place from None = None
moved_place from (Some n) = Some (from + n)

-- where a value stands first, from a place on
abbrev pub place_from : ℕ → Value → List Value → Option ℕ
place_from from v elements = moved_place from (position (strictly_equal v) (drop from elements))

-- 23.1.3.16 and 23.1.3.17: of no elements none is looked for, and the place isn't looked at
abbrev pub found_in : List Value → List Value → Or (Option ℕ)
found_in arguments [] = Ok None
found_in arguments (v ∷ vs) =
    number_or (pos 0) (seen_at arguments 1) >>= λ n.
    Ok (place_from (relative (suc (length vs)) n) (value_at arguments 0) (v ∷ vs))

-- 23.1.3.16
abbrev pub includes : Value → List Value → Heap → Or Deed
includes this arguments h = array_of h this >>= λ o.
    found_in arguments (elements_of h o.index) >>= λ place. truth (is_some place)

abbrev pub place_or : Option ℕ → Value
place_or (Some n) = count_value n
place_or None = value.Primitive (primitive.Number (negsuc 0))

-- 23.1.3.17
abbrev pub index_of : Value → List Value → Heap → Or Deed
index_of this arguments h = array_of h this >>= λ o.
    found_in arguments (elements_of h o.index) >>= λ place. give (place_or place)

-- an element as `join` takes it: one that is undefined or null is empty
abbrev pub joining : Value → Seen
joining (value.Primitive primitive.Undefined) = Some (primitive.Text [])
joining (value.Primitive primitive.Null) = Some (primitive.Text [])
joining v = seen v

abbrev pub separator_of : Seen → Or (List ℕ)
separator_of (Some primitive.Undefined) = Ok (codes ",")
separator_of x = to_text x

-- 23.1.3.18
abbrev pub join : Value → List Value → Heap → Or Deed
join this arguments h = array_of h this >>= λ o.
    separator_of (seen_at arguments 0) >>= λ separator.
    joined separator (map joining (elements_of h o.index)) >>= λ us. give (text us)

abbrev pub last_or : List Value → Value
last_or vs = value_at vs (length vs - 1)

-- 23.1.3.22
abbrev pub pop : Value → Heap → Or Deed
pop this h = array_of h this >>= λ o.
    changes h o (deed.Cut o (length (elements_of h o.index) - 1) (last_or (elements_of h o.index)))

-- 23.1.3.23
abbrev pub push : Value → List Value → Heap → Or Deed
push this arguments h = array_of h this >>= λ o. changes h o (deed.Append o arguments)

-- fewer than two elements stay where they are, and nothing is written
abbrev pub reversed : Heap → Object → List Value → Or Deed
reversed h o vs =
    if nat_lt (length vs) 2 then give (value.Object o)
    else changes h o (deed.Replace o (reverse vs) (value.Object o))

-- 23.1.3.26
abbrev pub reverse_it : Value → Heap → Or Deed
reverse_it this h = array_of h this >>= λ o. reversed h o (elements_of h o.index)

-- 23.1.3.27
abbrev pub shift : Value → Heap → Or Deed
shift this h = array_of h this >>= λ o.
    changes h o (deed.Replace o (drop 1 (elements_of h o.index)) (value_at (elements_of h o.index) 0))

-- from one place to before another
abbrev pub between : {A : Type 0} → ℕ → ℕ → List A → List A
between from to xs = take (to - from) (drop from xs)

abbrev pub slice_part : List Value → ℕ → List Value → Or (List Value)
slice_part elements from arguments =
    number_or (pos (length elements)) (seen_at arguments 1) >>= λ to.
    Ok (between from (relative (length elements) to) elements)

abbrev pub slice_of : List Value → List Value → Or (List Value)
slice_of elements arguments =
    number_or (pos 0) (seen_at arguments 0) >>= λ from. slice_part elements (relative (length elements) from) arguments

-- 23.1.3.28
abbrev pub slice : Value → List Value → Heap → Or Deed
slice this arguments h = array_of h this >>= λ o.
    slice_of (elements_of h o.index) arguments >>= λ vs. Ok (deed.MakeArray vs)

-- 23.1.3.37
abbrev pub unshift : Value → List Value → Heap → Or Deed
unshift this arguments h = array_of h this >>= λ o.
    changes h o (deed.Replace o (arguments ++ elements_of h o.index) (count_value (length arguments + length (elements_of h o.index))))

abbrev pub of_objects : OnObjects → Value → List Value → Heap → Or Deed
of_objects Assign this arguments h = assign arguments
of_objects Create this arguments h = create arguments
of_objects Freeze this arguments h = freeze_it (value_at arguments 0)
of_objects GetPrototypeOf this arguments h = get_prototype_of arguments h
of_objects IsFrozen this arguments h = truth (is_frozen_in h (value_at arguments 0))
of_objects Keys this arguments h = keys_of arguments h
of_objects HasOwnProperty this arguments h = has_own_property this arguments h
of_objects Apply this arguments h = apply this arguments h
of_objects Call this arguments h = call this arguments h
of_objects FunctionToString this arguments h = function_to_string this h
of_objects IsArray this arguments h = truth (is_array_in h (value_at arguments 0))
of_objects Concat this arguments h = concat this arguments h
of_objects Includes this arguments h = includes this arguments h
of_objects IndexOf this arguments h = index_of this arguments h
of_objects Join this arguments h = join this arguments h
of_objects Pop this arguments h = pop this h
of_objects Push this arguments h = push this arguments h
of_objects Reverse this arguments h = reverse_it this h
of_objects Shift this arguments h = shift this h
of_objects Slice this arguments h = slice this arguments h
of_objects Unshift this arguments h = unshift this arguments h
