-- The numbers of data: each counter's is the number of entries of its mark.
use Rattle.std.specs.Prelude.{◌≡◌, ℕ, zero, suc, ◌+◌, ◌-◌, ◌^◌, ◌<◌, List, [], ◌∷◌, Option, Some, None, option_and_then, if◌then◌else◌}
use Rattle.std.specs.Str.{bytes_eq}
use Rattle.js_terms.specs.Mark.{Mark}
use Rattle.js_tree.specs.Marked.{times}
use Rattle.js_terms.specs.declared.construct.ConstructKind.{ConstructKind}
use Rattle.js_terms.specs.declared.construct.ConstructKind.TheVariants as construct_kind
use Rattle.js_value.specs.Key.{index_of}
use Rattle.js_counter.specs.Represents.{Json, JsonItems, JsonMembers, Number, Items, Members, no_items, items, no_members, members}
use Rattle.js_counted.specs.Files.{way, counted_by}

-- what stands under a key
abbrev pub json_item : JsonItems → ℕ → Option Json
json_item no_items i = None
json_item (items x xs) zero = Some x
json_item (items x xs) (suc i) = json_item xs i

abbrev pub json_member : JsonMembers → List ℕ → Option Json
json_member no_members key = None
json_member (members q x ms) key = if bytes_eq q key then Some x else json_member ms key

abbrev pub json_child : List ℕ → Json → Option Json
json_child key (Items xs) = option_and_then (json_item xs) (index_of key)
json_child key (Members ms) = json_member ms key
json_child key _ = None

-- the number at the end of a way
abbrev pub own_number : Json → Option ℕ
own_number (Number n) = Some n
own_number _ = None

abbrev pub number_in : Json → List (List ℕ) → Option ℕ
number_in x [] = own_number x
number_in x (key ∷ keys) = option_and_then (λ y. number_in y keys) (json_child key x)

-- a statement and a function have one path
abbrev pub IsOnePath : ConstructKind → ℕ → Type 0
IsOnePath construct_kind.Statement path = path ≡ 0
IsOnePath construct_kind.Function path = path ≡ 0
IsOnePath construct_kind.Branch path = Unit {0}

-- a mark as files have them
pub record IsCountable (mark : Mark) : Type 0 where
  pub number_low : mark.number < 2 ^ 32 - 1
  pub path_low : mark.path < 2 ^ 32 - 1
  pub one_path : IsOnePath mark.kind mark.path

abbrev pub AllCountable : List Mark → Type 0
AllCountable [] = Unit {0}
AllCountable (mark ∷ log) = IsCountable mark × AllCountable log

-- each number grows by the entries of its mark
abbrev pub EntriesCounted : Type 0
EntriesCounted = (file : ℕ) (log : List Mark) (x : Json) (mark : Mark) (n : ℕ) → AllCountable log → IsCountable mark → mark.file ≡ file →
    number_in x (way mark) ≡ Some n → number_in (counted_by file log x) (way mark) ≡ Some (n + times mark log)
