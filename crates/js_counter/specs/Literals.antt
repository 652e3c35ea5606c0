-- Literals of data, and what they make.
use Rattle.std.specs.Prelude.{◌≡◌, ℕ, suc, ◌<◌, ◌≤◌, ◌^◌, Bool, false, List, length, Some, None, pos}
use Rattle.std.specs.Str.{bytes_eq}
use Rattle.js_terms.specs.declared.words.Spelled.{Spelled}
use Rattle.js_terms.specs.declared.operators.UnaryOperator.TheVariants as unary
use Rattle.js_tree.specs.Plain.{Expr, Unary, NullLiteral, BooleanLiteral, NumericLiteral, StringLiteral, ArrayLiteral, ObjectLiteral, KeyValue, StringKey, Exprs, no_expr, more_expr, Properties, no_property, more_property}
use Rattle.js_value.specs.Numbers.{literal_number}
use Rattle.js_value.specs.State.{Heap, Store}
use Rattle.js_value.specs.Objects.{object_at, next_object}
use Rattle.js_value.specs.Running.{on_heap}
use Rattle.js_meaning.specs.declared.outcome.Completion.TheVariants.{Normal}
use Rattle.js_meaning.specs.Effects.{Comp}
use Rattle.js_meaning.specs.Program.{Sources}
use Rattle.js_meaning.specs.Meaning.{comp_expr}
use Rattle.js_meaning.specs.Points.{Comes, point}
use Rattle.js_counter.specs.Represents.{Json, JsonItems, JsonMembers, Null, Truth, Negative, Number, Text, Items, Members, no_items, items, no_members, members, Placed, json_of, value_at, On, Holds, Distinct}

-- data as it is spelled
mutual
  pub data Literal : Type 0 where
    null : Literal
    truth : (b : Bool) → Literal
    negative : (spelled : List ℕ) → (n : ℕ) → literal_number spelled ≡ Some (pos (suc n)) → suc n < 2 ^ 53 → Literal
    number : (spelled : List ℕ) → (n : ℕ) → literal_number spelled ≡ Some (pos n) → Literal
    spelled_text : (spelled : Spelled) → Literal
    array : (xs : LiteralItems) → Literal
    plain : (ms : LiteralMembers) → Literal

  pub data LiteralItems : Type 0 where
    none : LiteralItems
    item : (x : Literal) → (xs : LiteralItems) → LiteralItems

  pub data LiteralMembers : Type 0 where
    empty : LiteralMembers
    member : (key : Spelled) → (x : Literal) → (ms : LiteralMembers) → LiteralMembers

abbrev mutual
  pub expr_of : Literal → Expr
  expr_of null = NullLiteral None
  expr_of (truth b) = BooleanLiteral None b
  expr_of (negative spelled neg e low) = Unary None unary.Minus (NumericLiteral None spelled)
  expr_of (number spelled n e) = NumericLiteral None spelled
  expr_of (spelled_text spelled) = StringLiteral None spelled
  expr_of (array xs) = ArrayLiteral None (exprs_of xs)
  expr_of (plain ms) = ObjectLiteral None (properties ms)

  pub exprs_of : LiteralItems → Exprs
  exprs_of none = no_expr
  exprs_of (item x xs) = more_expr (expr_of x) (exprs_of xs)

  pub properties : LiteralMembers → Properties
  properties empty = no_property
  properties (member key x ms) = more_property (KeyValue None (StringKey key) (expr_of x)) (properties ms)

abbrev mutual
  pub data_of : Literal → Json
  data_of null = Null
  data_of (truth b) = Truth b
  data_of (negative spelled neg e low) = Negative neg
  data_of (number spelled n e) = Number n
  data_of (spelled_text spelled) = Text spelled.units
  data_of (array xs) = Items (data_items xs)
  data_of (plain ms) = Members (data_members ms)

  pub data_items : LiteralItems → JsonItems
  data_items none = no_items
  data_items (item x xs) = items (data_of x) (data_items xs)

  pub data_members : LiteralMembers → JsonMembers
  data_members empty = no_members
  data_members (member key x ms) = members key.units (data_of x) (data_members ms)

-- a key that no member has, and members of which no two have one key
abbrev pub NoKey : List ℕ → LiteralMembers → Type 0
NoKey key empty = Unit {0}
NoKey key (member q x ms) = (bytes_eq key q.units ≡ false) × NoKey key ms

abbrev mutual
  pub KeysApart : Literal → Type 0
  KeysApart null = Unit {0}
  KeysApart (truth b) = Unit {0}
  KeysApart (negative spelled neg e low) = Unit {0}
  KeysApart (number spelled n e) = Unit {0}
  KeysApart (spelled_text spelled) = Unit {0}
  KeysApart (array xs) = ItemsApart xs
  KeysApart (plain ms) = MembersApart ms

  pub ItemsApart : LiteralItems → Type 0
  ItemsApart none = Unit {0}
  ItemsApart (item x xs) = KeysApart x × ItemsApart xs

  pub MembersApart : LiteralMembers → Type 0
  MembersApart empty = Unit {0}
  MembersApart (member key x ms) = NoKey key.units ms × KeysApart x × MembersApart ms

-- what stood in a heap stands there still
pub record Grows (h k : Heap) : Type 0 where
  pub environments : k.environments ≡ h.environments
  pub objects : (o : ℕ) → o < length h.objects → (o < length k.objects) × (object_at k o ≡ object_at h o)

-- data were made of new objects alone, without a step
pub record Makes (c : Comp) (s : Store) (json : Json) : Type 0 where
  pub placed : Placed
  pub heap : Heap
  pub comes : point c s ≡ Comes (Normal (value_at placed)) (on_heap (λ h. heap) s)
  pub grows : Grows s.heap heap
  pub holds : Holds heap placed
  pub distinct : Distinct placed
  pub data_is : json_of placed ≡ json
  pub fresh : On (λ o r. next_object s.heap ≤ o) placed

abbrev pub LiteralsMake : Type 0
LiteralsMake = (p : Sources) (x : Literal) (env : ℕ) (s : Store) → KeysApart x → Makes (comp_expr p (expr_of x) env) s (data_of x)
