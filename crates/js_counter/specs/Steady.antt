-- How a counter runs once the file's function has been replaced.
use Rattle.std.specs.Prelude.{◌≡◌, ℕ, ◌+◌, ◌^◌, ◌<◌, List, [], ◌∷◌, codes, Option, Some, None, pos}
use Rattle.js_terms.specs.declared.place.Loc.{Loc}
use Rattle.js_terms.specs.declared.operators.UpdateOperator.TheVariants.{Increment}
use Rattle.js_tree.specs.Codes.{Code, Ordinary}
use Rattle.js_tree.specs.Plain as P
use Rattle.js_tree.specs.Plain.{Expr, IdentifierReference, NumericLiteral, NamedMember, ComputedMember, PostfixUpdate, no_expr, no_param, MakeFunction, MakeFunctionBody, more_stmt, no_stmt, some_expr}
use Rattle.js_value.specs.declared.value.Value.{Value}
use Rattle.js_value.specs.Numbers.{decimal_text, literal_number}
use Rattle.js_value.specs.State.{Written, Heap, Store}
use Rattle.js_value.specs.Objects.{kind_of, count_value, set}
use Rattle.js_value.specs.Environments.{Cell, next_environment, environment_at, place_of, lookup, value_of}
use Rattle.js_value.specs.Functions.{name_units}
use Rattle.js_value.specs.Realm.{object, undefined}
use Rattle.js_value.specs.Running.{on_heap}
use Rattle.js_meaning.specs.Program.{Sources, function_at}
use Rattle.js_meaning.specs.Scopes.{scope_made}
use Rattle.js_meaning.specs.Meaning.{comp_expr}
use Rattle.js_meaning.specs.Points.{TakesOne}
use Rattle.js_meaning.specs.Files.{this_bound}
use Rattle.js_counter.specs.Represents.{Placed, Holds, Distinct, Within, address, value_at, ticked}

abbrev pub actual : List ℕ
actual = codes "actual"

-- `function(){return actual;}`
abbrev pub gives_actual : ℕ → (a b c : Option Loc) → Code
gives_actual n a b c = Ordinary (MakeFunction n no_param (MakeFunctionBody a (more_stmt (P.Return b (some_expr (IdentifierReference c actual))) no_stmt)))

-- `N()`
abbrev pub call_of : List ℕ → Expr
call_of name = P.Call None (IdentifierReference None name) no_expr

-- `N().s[i]++` and `N().b[i][j]++`, with numbers as they are spelled
abbrev pub counter_two : (name member i : List ℕ) → Expr
counter_two name member i = PostfixUpdate None Increment (ComputedMember None (NamedMember None (call_of name) member) (NumericLiteral None i))

abbrev pub counter_three : (name member i j : List ℕ) → Expr
counter_three name member i j = PostfixUpdate None Increment
    (ComputedMember None (ComputedMember None (NamedMember None (call_of name) member) (NumericLiteral None i)) (NumericLiteral None j))

abbrev pub Spells : List ℕ → ℕ → Type 0
Spells spelling n = literal_number spelling ≡ Some (pos n)

abbrev pub index_key : ℕ → List ℕ
index_key n = decimal_text (pos n)

-- a name that is seen from an environment holds the replaced function, which gives a value
pub record Ready (p : Sources) (h : Heap) (env : ℕ) (name : List ℕ) (v : Value) : Type 0 where
  pub cell : Cell
  pub found : lookup h env name ≡ Some cell
  pub function : ℕ
  pub bound : value_of h cell ≡ Some (object function)
  pub code : ℕ
  pub inner : ℕ
  pub kind : kind_of h function ≡ Written code inner
  pub number : ℕ
  pub a : Option Loc
  pub b : Option Loc
  pub c : Option Loc
  pub is_code : function_at p code ≡ Some (gives_actual number a b c)
  pub low : inner < next_environment h
  pub place : ℕ
  pub named : place_of (environment_at h inner) actual ≡ Some place
  pub held : value_of h (record { environment = inner; place = place }) ≡ Some v

-- the environment of its call
abbrev pub called : ℕ → Heap → Heap
called inner h = scope_made (this_bound undefined) inner h

-- the call alone
abbrev pub CallsSteadily : Type 0
CallsSteadily = (p : Sources) (env : ℕ) (name : List ℕ) (v : Value) (s : Store) (r : Ready p s.heap env name v) →
    TakesOne p (comp_expr p (call_of name) env) s v (on_heap (called r.inner) s)

-- the counters: the number at the end of the way is one more, and there is one environment more
abbrev pub CountsTwo : Type 0
CountsTwo = (p : Sources) (env : ℕ) (name member spelled : List ℕ) (i n : ℕ) (x y : Placed) (s : Store)
    (r : Ready p s.heap env name (value_at x)) → Spells spelled i → n + 1 < 2 ^ 53 → Holds s.heap x →
    Within x (name_units member) (index_key i ∷ []) y (index_key i) n →
    TakesOne p (comp_expr p (counter_two name member spelled) env) s (count_value n)
    (on_heap (λ h. set (address y) (index_key i) (count_value (n + 1)) (called r.inner h)) s)

abbrev pub CountsThree : Type 0
CountsThree = (p : Sources) (env : ℕ) (name member spelled spelled_path : List ℕ) (i k n : ℕ) (x y : Placed) (s : Store)
    (r : Ready p s.heap env name (value_at x)) → Spells spelled i → Spells spelled_path k → n + 1 < 2 ^ 53 → Holds s.heap x →
    Within x (name_units member) (index_key i ∷ index_key k ∷ []) y (index_key k) n →
    TakesOne p (comp_expr p (counter_three name member spelled spelled_path) env) s (count_value n)
    (on_heap (λ h. set (address y) (index_key k) (count_value (n + 1)) (called r.inner h)) s)

-- and that heap holds the data with one more
abbrev pub HoldsTicked : Type 0
HoldsTicked = (h : Heap) (inner n : ℕ) (x y : Placed) (key : List ℕ) (keys : List (List ℕ)) (last : List ℕ) → Holds h x → Distinct x →
    Within x key keys y last n → Holds (set (address y) last (count_value (n + 1)) (called inner h)) (ticked x (key ∷ keys))
