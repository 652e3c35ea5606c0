-- The literal of a value: data as the preamble spells it.
use Rattle.std.proofs.Common.{◌≡◌, ℕ, ◌<◌, ◌^◌, false, List, decimal, codes, refl, sym, subst, ap, ap₂, ◌∙◌, arith, lt-ltb}
use Rattle.std.specs.Prelude.{bytes_eq, if◌then◌else◌, None}
use Rattle.std.specs.Str.{IsUtf8}
use Rattle.std.specs.declared.cmp.Ordering.TheVariants.{Less}
use Rattle.serde_json.specs.Data.{Data, null, boolean, number, unsigned, negative, float, string, array, object, Items, no_items, item, Members, no_members, member}
use Rattle.js_tree.specs.Plain.{more_expr, more_property, NumericLiteral, ArrayLiteral, ObjectLiteral, KeyValue, StringKey}
use Rattle.js_value.specs.Functions.{name_units}
use Rattle.js_counter.specs.Keys.{SpelledInDecimal}
use Rattle.js_counter.specs.Represents as json
use Rattle.js_counter.specs.Represents.{JsonMembers}
use Rattle.js_counter.specs.Literals as made
use Rattle.js_counter.specs.Literals.{LiteralItems, LiteralMembers, exprs_of, properties, data_of, data_items, data_members, NoKey, ItemsApart, MembersApart}
use Rattle.cov_rewritten.specs.Preamble.{json_string, literals, literal_members}
use Rattle.cov_expected.specs.Plain.{Above, AreSorted, IsPlain, ArePlain, MembersArePlain}
use Rattle.cov_expected.specs.Told.{text_of, json_of, items_json, members_json}
use Rattle.cov_expected.proofs.Texts.{text_back}
use Rattle.cov_expected.proofs.Ordered.{less_apart, unequal, cmp}
use Rattle.cov_counted.specs.Literals.{SpellsUnits, LiteralOf}

record ItemsOf (ds : Items) : Type 0 where
  made : LiteralItems
  spelled : exprs_of made ≡ literals ds
  tells : data_items made ≡ items_json ds
  keys : ItemsApart made

record MembersOf (ms : Members) : Type 0 where
  made : LiteralMembers
  spelled : properties made ≡ literal_members ms
  tells : data_members made ≡ members_json ms
  keys : MembersApart made

-- ---- keys

other_units : (k l : List ℕ) → IsUtf8 k → IsUtf8 l → cmp k l ≡ Less → bytes_eq (name_units k) (name_units l) ≡ false
other_units k l utf8 also less =
    unequal (name_units k) (name_units l) (λ same. less_apart k l less (sym (text_back k utf8) ∙ ap text_of same ∙ text_back l also))

-- what stands in members that are the same
record SameFirst (key other : List ℕ) (rest more : JsonMembers) : Type 0 where
  is : key ≡ other
  later : rest ≡ more

same_first : (key other : List ℕ) (x y : json.Json) (rest more : JsonMembers) → json.members key x rest ≡ json.members other y more → SameFirst key other rest more
same_first key other x y rest more e = record { is = cc; later = cc }

no_key : (k : List ℕ) (made : LiteralMembers) (ms : Members) → data_members made ≡ members_json ms → IsUtf8 k → Above k ms → MembersArePlain ms → NoKey (name_units k) made
no_key k made.empty ms e utf8 above good = tt
no_key k (made.member q x made) no_members e utf8 above good = absurd (cc)
no_key k (made.member q x made) (member l d ms) e utf8 above good =
    let first = same_first q.units (name_units l) (data_of x) (json_of d) (data_members made) (members_json ms) e in
    (ap (bytes_eq (name_units k)) first.is ∙ other_units k l utf8 good.0 above.0, no_key k made ms first.later utf8 above.1 good.2)

no_key_here : (k : List ℕ) (ms : Members) (rest : MembersOf ms) → (json_string k).units ≡ name_units k → IsUtf8 k → Above k ms → MembersArePlain ms → NoKey (json_string k).units rest.made
no_key_here k ms rest is utf8 above good = subst (λ us. NoKey us rest.made) (sym is) (no_key k rest.made ms rest.tells utf8 above good)

-- ---- each value

module _ (units : SpellsUnits) (spells : SpelledInDecimal) where
  a_number : (n : ℕ) → n < 2 ^ 53 → LiteralOf (number (unsigned n))
  a_number n low = record {
    made = made.number (decimal n) n (spells n low);
    spelled = ap (λ b. NumericLiteral None (if b then decimal n else codes "0")) (sym (lt-ltb n (2 ^ 64) (omega (arith, low))));
    tells = refl;
    keys = tt;
  }

  a_string : (s : List ℕ) → IsUtf8 s → LiteralOf (string s)
  a_string s utf8 = record { made = made.spelled_text (json_string s); spelled = refl; tells = ap json.Text (units s utf8); keys = tt }

  mutual
    pub literal_of : (d : Data) → IsPlain d → LiteralOf d
    literal_of null good = record { made = made.null; spelled = refl; tells = refl; keys = tt }
    literal_of (boolean b) good = record { made = made.truth b; spelled = refl; tells = refl; keys = tt }
    literal_of (number (unsigned n)) good = a_number n good
    literal_of (number (negative z)) good = absurd good
    literal_of (number (float x)) good = absurd good
    literal_of (string s) good = a_string s good
    literal_of (array ds) good =
        let of = items_of ds good in
        record { made = made.array of.made; spelled = ap (ArrayLiteral None) of.spelled; tells = ap json.Items of.tells; keys = of.keys }
    literal_of (object ms) good =
        let of = members_of ms good.0 good.1 in
        record { made = made.plain of.made; spelled = ap (ObjectLiteral None) of.spelled; tells = ap json.Members of.tells; keys = of.keys }

    items_of : (ds : Items) → ArePlain ds → ItemsOf ds
    items_of no_items good = record { made = made.none; spelled = refl; tells = refl; keys = tt }
    items_of (item d ds) good =
        let first = literal_of d good.0 in
        let rest = items_of ds good.1 in
        record {
          made = made.item first.made rest.made;
          spelled = ap₂ more_expr first.spelled rest.spelled;
          tells = ap₂ json.items first.tells rest.tells;
          keys = (first.keys, rest.keys);
        }

    members_of : (ms : Members) → AreSorted ms → MembersArePlain ms → MembersOf ms
    members_of no_members sorted good = record { made = made.empty; spelled = refl; tells = refl; keys = tt }
    members_of (member k d ms) sorted good =
        let first = literal_of d good.1 in
        let rest = members_of ms sorted.1 good.2 in
        record {
          made = made.member (json_string k) first.made rest.made;
          spelled = ap₂ (λ e more. more_property (KeyValue None (StringKey (json_string k)) e) more) first.spelled rest.spelled;
          tells = ap (λ us. json.members us (data_of first.made) (data_members rest.made)) (units k good.0) ∙ ap₂ (json.members (name_units k)) first.tells rest.tells;
          keys = (no_key_here k ms rest (units k good.0) good.0 sorted.0 good.2, first.keys, rest.keys);
        }
