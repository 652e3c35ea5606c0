-- What is put into a rewritten file, linked: the preamble has two functions, its data and the counters none.
use Rattle.std.proofs.Common.{◌≡◌, ℕ, List, None, refl, ap, ◌∙◌}
use Rattle.serde_json.specs.Data.{Data, Num, unsigned, negative, float, null, boolean, number, string, array, object, Items, no_items, item, Members, no_members, member}
use Rattle.js_terms.specs.Mark.{Mark}
use Rattle.js_terms.specs.declared.construct.ConstructKind.{ConstructKind}
use Rattle.js_terms.specs.declared.construct.ConstructKind.TheVariants as construct_kind
use Rattle.js_terms.specs.declared.operators.UpdateOperator.TheVariants as update
use Rattle.js_terms.specs.declared.words.Spelled.{Spelled}
use Rattle.js_tree.specs.Linked.{Unmarked, Numbers, Linked, Chain, Alone, kept, made, two, after_code, link_expr, link_exprs, link_properties, link_stmts}
use Rattle.js_tree.specs.Plain.{Expr, ArrayLiteral, ObjectLiteral, Call, PostfixUpdate, KeyValue, StringKey, no_expr, more_expr, more_property}
use Rattle.cov_rewritten.specs.Counters.{name, counted_in}
use Rattle.cov_rewritten.specs.Preamble.{json_string, number_literal, literal, literals, literal_members, preamble_of}
use Rattle.cov_linked.specs.Linked.{LinksPreamble, LinksCounters}

number_kept : (n : Num) (chain : Chain) (k : Numbers) → link_expr Unmarked chain (number_literal n) k ≡ kept (number_literal n) k
number_kept (unsigned n) chain k = refl
number_kept (negative z) chain k = refl
number_kept (float x) chain k = refl

mutual
  literal_kept : (d : Data) (chain : Chain) (k : Numbers) → link_expr Unmarked chain (literal d) k ≡ kept (literal d) k
  literal_kept null chain k = refl
  literal_kept (boolean b) chain k = refl
  literal_kept (number n) chain k = number_kept n chain k
  literal_kept (string s) chain k = refl
  literal_kept (array ds) chain k = ap (made (ArrayLiteral None)) (literals_kept ds k)
  literal_kept (object ms) chain k = ap (made (ObjectLiteral None)) (members_kept ms k)

  literals_kept : (ds : Items) (k : Numbers) → link_exprs Unmarked (literals ds) k ≡ kept (literals ds) k
  literals_kept no_items k = refl
  literals_kept (item d ds) k = ap (λ (z : Linked Expr). two more_expr z (link_exprs Unmarked (literals ds))) (literal_kept d Alone k) ∙ ap (made (more_expr (literal d))) (literals_kept ds k)

  members_kept : (ms : Members) (k : Numbers) → link_properties Unmarked (literal_members ms) k ≡ kept (literal_members ms) k
  members_kept no_members k = refl
  members_kept (member key d ms) k =
      ap (λ (z : Linked Expr). two more_property (made (KeyValue None (StringKey (json_string key))) z) (link_properties Unmarked (literal_members ms))) (literal_kept d Alone k)
      ∙ ap (made (more_property (KeyValue None (StringKey (json_string key)) (literal d)))) (members_kept ms k)

-- the function and the one that takes its place, around the data
around : (n : List ℕ) (path hash : Spelled) (data' : Expr) (k : Numbers) →
    (link_stmts Unmarked (preamble_of n path hash data') k).next ≡ after_code (link_expr Unmarked Alone data' (after_code k)).next
around n path hash data' k = refl

pub links_preamble : LinksPreamble
links_preamble n path hash zero k = around n (json_string path) (json_string hash) (literal zero) k
    ∙ ap (λ (z : Linked Expr). after_code z.next) (literal_kept zero Alone (after_code k))

counted_kept : (n : List ℕ) (m : Mark) (kind : ConstructKind) (chain : Chain) (k : Numbers) →
    link_expr Unmarked chain (PostfixUpdate None update.Increment (counted_in (Call None (name n) no_expr) m kind)) k
    ≡ kept (PostfixUpdate None update.Increment (counted_in (Call None (name n) no_expr) m kind)) k
counted_kept n m construct_kind.Statement chain k = refl
counted_kept n m construct_kind.Function chain k = refl
counted_kept n m construct_kind.Branch chain k = refl

pub links_counters : LinksCounters
links_counters n m chain k = counted_kept n m m.kind chain k
