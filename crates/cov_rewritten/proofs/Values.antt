-- A value of JSON is spelt as an expression is, and how high that is.
use Rattle.std.proofs.Common.{◌≤◌, ◌*◌, ◌+◌, max, ℕ, List, arith}
use Rattle.serde_json.specs.Data.{Num, unsigned, negative, float, Data, null, boolean, number, string, array, object, Items, no_items, item, Members, no_members, member, depth, items_depth, members_depth}
use Rattle.js_terms.specs.declared.words.Spelled.{Spelled}
use Rattle.js_tree.specs.Plain.{Expr}
use Rattle.js_tree.specs.Height.{height_expr, height_exprs, height_properties, height_stmts}
use Rattle.js_layout.specs.Printable.{IsExpr, AreExprs, AreProperties}
use Rattle.cov_rewritten.specs.Laws.{IsSpelt, AreSpelt, MembersAreSpelt}
use Rattle.cov_rewritten.specs.Preamble.{number_literal, json_string, literal, literals, literal_members, preamble_of, preamble}
use Rattle.cov_rewritten.proofs.JsonStrings.{json_string_is}
use Rattle.cov_rewritten.proofs.Numerals.{spelt_token}

abbrev spelt_number : (n : Num) → IsSpelt (number n) → IsExpr (number_literal n)
spelt_number (unsigned n) is = spelt_token n
spelt_number (negative z) is = absurd is
spelt_number (float x) is = tt

abbrev mutual
  pub value_is : (d : Data) → IsSpelt d → IsExpr (literal d)
  value_is null is = tt
  value_is (boolean b) is = tt
  value_is (number n) is = spelt_number n is
  value_is (string s) is = json_string_is s is
  value_is (array ds) is = values_are ds is
  value_is (object ms) is = members_are ms is

  values_are : (ds : Items) → AreSpelt ds → AreExprs (literals ds)
  values_are no_items are = tt
  values_are (item d ds) are = (value_is d are.0, values_are ds are.1)

  members_are : (ms : Members) → MembersAreSpelt ms → AreProperties (literal_members ms)
  members_are no_members are = tt
  members_are (member k d ms) are = ((json_string_is k are.0, are.1, value_is d are.2), members_are ms are.3)

low_number : (n : Num) → height_expr (number_literal n) ≤ 2
low_number (unsigned n) = omega arith
low_number (negative z) = omega arith
low_number (float x) = omega arith

abbrev mutual
  low_value : (d : Data) → height_expr (literal d) ≤ 2 * depth d + 2
  low_value null = omega arith
  low_value (boolean b) = omega arith
  low_value (number n) = omega (arith, low_number n)
  low_value (string s) = omega arith
  low_value (array ds) = omega (arith, low_values ds)
  low_value (object ms) = omega (arith, low_members ms)

  low_values : (ds : Items) → height_exprs (literals ds) ≤ 2 * items_depth ds + 2
  low_values no_items = omega arith
  low_values (item d ds) = omega (arith, low_value d, low_values ds)

  low_members : (ms : Members) → height_properties (literal_members ms) ≤ 2 * members_depth ms + 3
  low_members no_members = omega arith
  low_members (member k d ms) = omega (arith, low_value d, low_members ms)

-- the levels of the preamble over those of its value
tower : (h : ℕ) → max (max 0 (max 3 (max 3 (max 3 (max (max (max 1 h + 1) 0 + 1) 7)))) + 1) 3 ≤ h + 8
tower h = omega arith

over_value : (n : List ℕ) (path hash : Spelled) (zero : Expr) → height_stmts (preamble_of n path hash zero) ≤ height_expr zero + 8
over_value n path hash zero = tower (height_expr zero)

over : (h depth levels : ℕ) → levels ≤ h + 8 → h ≤ 2 * depth + 2 → levels ≤ 2 * depth + 10
over h depth levels above low = omega (arith, above, low)

pub stands_low : (n path hash : List ℕ) (zero : Data) → height_stmts (preamble n path hash zero) ≤ 2 * depth zero + 10
stands_low n path hash zero =
    over (height_expr (literal zero)) (depth zero) (height_stmts (preamble n path hash zero)) (over_value n (json_string path) (json_string hash) (literal zero)) (low_value zero)
