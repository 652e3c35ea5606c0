-- The loops over an array's items and an object's members, a turn at a time, as the data that they give.
use Rattle.std.proofs.Common.{◌≡◌, ℕ, zero, suc, ◌-◌, ◌<◌, ◌≤◌, List, [], ◌∷◌, ◌++◌, length, Bool, inl, inr, ◌⊎◌, ap₂, Option, Some, None, option_map, option_and_then, refl, sym, ap, ◌∙◌, subst, arith, String, string_bytes, string_cmp}
use Rattle.std.specs.Ordering.{nat_cmp, match_ordering}
use Rattle.std.specs.declared.cmp.Ordering.{Ordering}
use Rattle.std.specs.declared.cmp.Ordering.TheVariants.{Less, Equal, Greater}
use Rattle.std.specs.Cmp.Lexicographic.{slice_cmp}
use Rattle.std.specs.BTreeMap.{insert_entry}
use Rattle.std.specs.declared.alloc.Global.{Global}
use Rattle.json.specs.Token.{Token}
use Rattle.json.specs.Json as json
use Rattle.json.specs.Json.{Parse, parse_map, after_end_array, read_key, items_step, members_step, items, members, value}
use Rattle.json.proofs.Grammar.{value_is, value-begin_array, value-begin_object, items_end, members_end, members_no_key}
use Rattle.serde_json.specs.Data.{Num, Data, null, boolean, number, string, array, object, Items, no_items, item, Members, no_members, member, put, depth, items_depth, members_depth}
use Rattle.serde_json.specs.Read.{number_of, of_json, of_items, of_members, converted}
use Rattle.serde_json.specs.View.{view, items_view, members_view}
use Rattle.serde_json.specs.declared.value.Value.{Value}
use Rattle.serde_json.proofs.Views.{Entry, members_view-insert_entry}

-- ---- an array and an object, whose parts are read

beside : {A B : Type 0} (f : A → B) (left : List Token) (x : Option A) → option_map {U = B × List Token} (λ b. (b, left)) (option_map f x) ≡ parse_map f (option_map (λ a. (a, left)) x)
beside f left None = refl
beside f left (Some a) = refl

pub array-read : (o : Option (json.Items × List Token)) → converted of_json (parse_map json.array o) ≡ parse_map array (converted of_items o)
array-read None = refl
array-read (Some read) = beside array read.1 (of_items read.0)

pub object-read : (o : Option (json.Members × List Token)) → converted of_json (parse_map json.object o) ≡ parse_map object (converted (λ ms. of_members ms no_members) o)
object-read None = refl
object-read (Some read) = beside object read.1 (of_members read.0 no_members)

-- ---- the first token of a value

pub opens_array : (depth : ℕ) (ts rest : List Token) → 0 < depth → ts ≡ Token.begin_array ∷ rest →
    converted of_json (value depth ts) ≡ parse_map array (converted of_items (items (value (depth - 1)) (length rest) rest))
opens_array depth ts rest some first =
    ap (converted of_json) (ap (value depth) first ∙ value-begin_array depth rest some) ∙ array-read (items (value (depth - 1)) (length rest) rest)

pub opens_object : (depth : ℕ) (ts rest : List Token) → 0 < depth → ts ≡ Token.begin_object ∷ rest →
    converted of_json (value depth ts) ≡ parse_map object (converted (λ ms. of_members ms no_members) (members (value (depth - 1)) (length rest) rest))
opens_object depth ts rest some first =
    ap (converted of_json) (ap (value depth) first ∙ value-begin_object depth rest some) ∙ object-read (members (value (depth - 1)) (length rest) rest)

-- too deep
pub opens_nothing : (depth : ℕ) (ts rest : List Token) (token : Token) → depth ≡ 0 → ts ≡ token ∷ rest → (token ≡ Token.begin_array) ⊎ (token ≡ Token.begin_object) →
    converted of_json (value depth ts) ≡ None
unfolding value
opens_nothing depth ts rest token none first (inl is) = ap (converted of_json) (ap₂ value none (first ∙ ap (λ t. t ∷ rest) is))
opens_nothing depth ts rest token none first (inr is) = ap (converted of_json) (ap₂ value none (first ∙ ap (λ t. t ∷ rest) is))

pub null-read : (depth : ℕ) (ts rest : List Token) → ts ≡ Token.null ∷ rest → converted of_json (value depth ts) ≡ Some (null, rest)
null-read depth ts rest first = ap (converted of_json) (ap (value depth) first ∙ value_is depth _)

pub boolean-read : (depth : ℕ) (ts rest : List Token) (b : Bool) → ts ≡ Token.boolean b ∷ rest → converted of_json (value depth ts) ≡ Some (boolean b, rest)
boolean-read depth ts rest b first = ap (converted of_json) (ap (value depth) first ∙ value_is depth _)

pub string-read : (depth : ℕ) (ts rest : List Token) (s : List ℕ) → ts ≡ Token.string s ∷ rest → converted of_json (value depth ts) ≡ Some (string s, rest)
string-read depth ts rest s first = ap (converted of_json) (ap (value depth) first ∙ value_is depth _)

pub number-read : (depth : ℕ) (ts rest : List Token) (s : List ℕ) → ts ≡ Token.number s ∷ rest → converted of_json (value depth ts) ≡ option_map (λ n. (number n, rest)) (number_of s)
number-read depth ts rest s first = ap (converted of_json) (ap (value depth) first ∙ value_is depth _) ∙ twice (number_of s)
  where
    twice : (n : Option Num) → option_map {U = Data × List Token} (λ d. (d, rest)) (option_map number n) ≡ option_map (λ n. (number n, rest)) n
    twice None = refl
    twice (Some n) = refl

pub nothing-read : (depth : ℕ) → converted of_json (value depth []) ≡ None
nothing-read depth = ap (converted of_json) (value_is depth [])

-- ---- the loops, over any reader of a value

module _ (p : Parse json.Json) where
  abbrev pub data_of : List Token → Option (Data × List Token)
  data_of ts = converted of_json (p ts)

  abbrev pub data_items : ℕ → List Token → Option (Items × List Token)
  data_items n ts = converted of_items (items p n ts)

  -- with those that were found before
  abbrev pub data_members : ℕ → Members → List Token → Option (Members × List Token)
  data_members n found ts = converted (λ ms. of_members ms found) (members p n ts)

  item_then : (first : Option Data) (rest : Option Items) (left : List Token) →
      option_map {U = Items × List Token} (λ ds. (ds, left)) (option_and_then (λ d. option_map (item d) rest) first) ≡ option_and_then (λ d. parse_map (item d) (option_map (λ ds. (ds, left)) rest)) first
  item_then None rest left = refl
  item_then (Some d) rest left = beside (item d) left rest

  item_given : (first : Option Data) (between : List Token) (more : List Token → Option (Items × List Token)) →
      option_and_then (λ d. parse_map (item d) (more between)) first ≡ option_and_then {T = Data × List Token} (λ q. parse_map (item q.0) (more q.1)) (option_map (λ d. (d, between)) first)
  item_given None between more = refl
  item_given (Some d) between more = refl

  nothing_more : (first : Option Data) → option_and_then {T = Data} {U = Items × List Token} (λ d. None) first ≡ None
  nothing_more None = refl
  nothing_more (Some d) = refl

  item_rest : (j : json.Json) (rest : Option (json.Items × List Token)) → converted of_items (parse_map (json.item j) rest) ≡ option_and_then (λ d. parse_map (item d) (converted of_items rest)) (of_json j)
  item_rest j None = sym (nothing_more (of_json j))
  item_rest j (Some read) = item_then (of_json j) (of_items read.0) read.1

  item_step : (n : ℕ) (o : Option (json.Json × List Token)) → converted of_items (option_and_then (λ q. parse_map (json.item q.0) (items p n q.1)) o)
      ≡ option_and_then {T = Data × List Token} (λ q. parse_map (item q.0) (data_items n q.1)) (converted of_json o)
  item_step n None = refl
  item_step n (Some read) = item_rest read.0 (items p n read.1) ∙ item_given (of_json read.0) read.1 (data_items n)

  -- where no bracket closes the array, a value comes, and then the others
  item_turn : (n : ℕ) (ts : List Token) → after_end_array ts ≡ None → data_items (suc n) ts ≡ option_and_then {T = Data × List Token} (λ q. parse_map (item q.0) (data_items n q.1)) (data_of ts)
  unfolding items
  item_turn n ts going = ap (λ o. converted of_items (items_step p (items p n) ts o)) going ∙ item_step n (p ts)

  pub item_read : (n : ℕ) (ts left : List Token) (d : Data) → 0 < n → after_end_array ts ≡ None → data_of ts ≡ Some (d, left) → data_items n ts ≡ parse_map (item d) (data_items (n - 1) left)
  item_read zero ts left d some going e = let never : ⊥ = omega arith in absurd never
  item_read (suc n) ts left d some going e =
      let same : n ≡ suc n - 1 = omega arith in
      item_turn n ts going ∙ ap (option_and_then {T = Data × List Token} (λ q. parse_map (item q.0) (data_items n q.1))) e ∙ ap (λ m. parse_map (item d) (data_items m left)) same

  pub item_refused : (n : ℕ) (ts : List Token) → after_end_array ts ≡ None → data_of ts ≡ None → data_items n ts ≡ None
  unfolding items
  item_refused zero ts going e = refl
  item_refused (suc n) ts going e = item_turn n ts going ∙ ap (option_and_then {T = Data × List Token} (λ q. parse_map (item q.0) (data_items n q.1))) e

  pub items_over : (n : ℕ) (ts left : List Token) → length ts ≤ n → after_end_array ts ≡ Some left → data_items n ts ≡ Some (no_items, left)
  items_over n ts left enough e = ap (converted of_items) (items_end p n ts left enough e)

  member_then : (first : Option Data) (f : Data → Option Members) (left : List Token) →
      option_map {U = Members × List Token} (λ ms. (ms, left)) (option_and_then f first) ≡ option_and_then (λ d. option_map (λ ms. (ms, left)) (f d)) first
  member_then None f left = refl
  member_then (Some d) f left = refl

  no_more : (first : Option Data) → option_and_then {T = Data} {U = Members × List Token} (λ d. None) first ≡ None
  no_more None = refl
  no_more (Some d) = refl

  member_rest : (k : List ℕ) (found : Members) (j : json.Json) (rest : Option (json.Members × List Token)) →
      converted (λ ms. of_members ms found) (parse_map (json.member k j) rest) ≡ option_and_then (λ d. converted (λ ms. of_members ms (put k d found)) rest) (of_json j)
  member_rest k found j None = sym (no_more (of_json j))
  member_rest k found j (Some read) = member_then (of_json j) (λ d. of_members read.0 (put k d found)) read.1

  member_step : (n : ℕ) (k : List ℕ) (found : Members) (o : Option (json.Json × List Token)) →
      converted (λ ms. of_members ms found) (option_and_then (λ q. parse_map (json.member k q.0) (members p n q.1)) o)
      ≡ option_and_then {T = Data × List Token} (λ q. data_members n (put k q.0 found) q.1) (converted of_json o)
  member_step n k found None = refl
  member_step n k found (Some read) = member_rest k found read.0 (members p n read.1) ∙ member_next (of_json read.0)
    where
      member_next : (first : Option Data) → option_and_then (λ d. data_members n (put k d found) read.1) first ≡ option_and_then {T = Data × List Token} (λ q. data_members n (put k q.0 found) q.1) (option_map (λ d. (d, read.1)) first)
      member_next None = refl
      member_next (Some d) = refl

  -- after a key a value comes, and then the others
  member_turn : (n : ℕ) (k : List ℕ) (found : Members) (ts after : List Token) → read_key ts ≡ Some (Some k, after) →
      data_members (suc n) found ts ≡ option_and_then {T = Data × List Token} (λ q. data_members n (put k q.0 found) q.1) (data_of after)
  unfolding members
  member_turn n k found ts after named =
      ap (λ o. converted (λ ms. of_members ms found) (option_and_then (λ q. members_step p (members p n) q.0 q.1) o)) named ∙ member_step n k found (p after)

  pub member_read : (n : ℕ) (k : List ℕ) (found : Members) (ts after left : List Token) (d : Data) → 0 < n → read_key ts ≡ Some (Some k, after) → data_of after ≡ Some (d, left) →
      data_members n found ts ≡ data_members (n - 1) (put k d found) left
  member_read zero k found ts after left d some named e = let never : ⊥ = omega arith in absurd never
  member_read (suc n) k found ts after left d some named e =
      let same : n ≡ suc n - 1 = omega arith in
      member_turn n k found ts after named ∙ ap (option_and_then {T = Data × List Token} (λ q. data_members n (put k q.0 found) q.1)) e ∙ ap (λ m. data_members m (put k d found) left) same

  pub member_refused : (n : ℕ) (k : List ℕ) (found : Members) (ts after : List Token) → read_key ts ≡ Some (Some k, after) → data_of after ≡ None → data_members n found ts ≡ None
  unfolding members
  member_refused zero k found ts after named e = refl
  member_refused (suc n) k found ts after named e = member_turn n k found ts after named ∙ ap (option_and_then {T = Data × List Token} (λ q. data_members n (put k q.0 found) q.1)) e

  pub key_refused : (n : ℕ) (found : Members) (ts : List Token) → read_key ts ≡ None → data_members n found ts ≡ None
  key_refused n found ts e = ap (converted (λ ms. of_members ms found)) (members_no_key p n ts e)

  pub members_over : (n : ℕ) (found : Members) (ts left : List Token) → length ts ≤ n → read_key ts ≡ Some (None, left) → data_members n found ts ≡ Some (found, left)
  members_over n found ts left enough e = ap (converted (λ ms. of_members ms found)) (members_end p n ts left enough e)

-- ---- items that grow at their end

abbrev pub followed : Items → Items → Items
followed no_items rest = rest
followed (item d ds) rest = item d (followed ds rest)

pub followed-none : (ds : Items) → followed ds no_items ≡ ds
followed-none no_items = refl
followed-none (item d ds) = ap (item d) (followed-none ds)

pushed : (vs : List Value) (v : Value) (rest : Items) → followed (items_view vs) (item (view v) rest) ≡ followed (items_view (vs ++ v ∷ [])) rest
pushed [] v rest = refl
pushed (first ∷ vs) v rest = ap (item (view first)) (pushed vs v rest)

pub one_more : (vs : List Value) (v : Value) (o : Option (Items × List Token)) → parse_map (followed (items_view vs)) (parse_map (item (view v)) o) ≡ parse_map (followed (items_view (vs ++ v ∷ []))) o
one_more vs v None = refl
one_more vs v (Some read) = ap (λ ds. Some (ds, read.1)) (pushed vs v read.0)

pub none_before : (o : Option (Items × List Token)) → o ≡ parse_map (followed no_items) o
none_before None = refl
none_before (Some read) = refl

-- ---- depths

pub items_depth-more : (vs : List Value) (v : Value) (n : ℕ) → items_depth (items_view vs) ≤ n → depth (view v) ≤ n → items_depth (items_view (vs ++ v ∷ [])) ≤ n
items_depth-more [] v n all own = omega arith
items_depth-more (first ∷ vs) v n all own = omega (arith, items_depth-more vs v n (omega arith) own)

depth-match : (o : Ordering) (a b c : Members) (n : ℕ) → members_depth a ≤ n → members_depth b ≤ n → members_depth c ≤ n → members_depth (match_ordering o a b c) ≤ n
depth-match Less a b c n ha hb hc = ha
depth-match Equal a b c n ha hb hc = hb
depth-match Greater a b c n ha hb hc = hc

members_depth-put : (k : List ℕ) (d : Data) (ms : Members) (n : ℕ) → members_depth ms ≤ n → depth d ≤ n → members_depth (put k d ms) ≤ n
members_depth-put k d no_members n all own = omega arith
members_depth-put k d (member l e ms) n all own =
    depth-match (slice_cmp nat_cmp k l) (member k d (member l e ms)) (member l d ms) (member l e (put k d ms)) n
    (omega arith) (omega arith) (omega (arith, members_depth-put k d ms n (omega arith) own))

pub members_depth-more : (es : List Entry) (key : String Global) (v : Value) (n : ℕ) → members_depth (members_view es) ≤ n → depth (view v) ≤ n →
    members_depth (members_view (insert_entry string_cmp es key v)) ≤ n
members_depth-more es key v n all own =
    subst (λ ms. members_depth ms ≤ n) (sym (members_view-insert_entry es key v)) (members_depth-put (string_bytes key) (view v) (members_view es) n all own)
