-- The members of an object, one after the other.
use Rattle.std.proofs.Common.{◌≡◌, ℕ, ◌+◌, ◌<◌, List, [], ◌∷◌, ◌++◌, None, length, map, take, get_or, refl, sym, ap, ◌∙◌}
use Rattle.std.proofs.lemmas.List.{take_more, map_push}
use Rattle.std.specs.Prelude.{String, string_bytes}
use Rattle.std.specs.Borrow.{Bor}
use Rattle.std.specs.declared.alloc.Global.{Global}
use Rattle.serde_json.specs.Data.{Data}
use Rattle.serde_json.specs.View.{items_of}
use Rattle.js_tree.specs.Plain.{Expr, Exprs, more_expr, push_exprs, ObjectLiteral, KeyValue, StringKey, Properties, more_property, push_properties}
use Rattle.cov_object.specs.Json.{numbered}
use Rattle.cov_object.specs.private.Order.{in_key_order, members_of}
use Rattle.cov_object.proofs.OrderLemmas.{by_bytes, key_order-numbered}
use Rattle.cov_rewritten.specs.Preamble.{json_string, literal, literals, literal_members}

-- one member more
member_more : {T : Type 0} (f : T → Data) (xs : List (List ℕ × T)) (x : List ℕ × T) →
    literal_members (members_of f (xs ++ x ∷ [])) ≡ push_properties (literal_members (members_of f xs)) (KeyValue None (StringKey (json_string x.0)) (literal (f x.1)))
member_more f [] x = refl
member_more f (y ∷ ys) x = ap (more_property (KeyValue None (StringKey (json_string y.0)) (literal (f y.1)))) (member_more f ys x)

bytes_more : {T : Type 0} (ys : List (String Global × Bor T)) (y : String Global × Bor T) → by_bytes (ys ++ y ∷ []) ≡ by_bytes ys ++ (string_bytes y.0, y.1.now) ∷ []
bytes_more [] y = refl
bytes_more (z ∷ zs) y = ap (λ ys. (string_bytes z.0, z.1.now) ∷ ys) (bytes_more zs y)

pub thing_more : {T : Type 0} (f : T → Data) (ys : List (String Global × Bor T)) (y : String Global × Bor T) (before after : Properties) (key : List ℕ) (e : Expr) →
    before ≡ literal_members (members_of f (by_bytes ys)) → after ≡ push_properties before (KeyValue None (StringKey (json_string key)) e) → key ≡ string_bytes y.0 → e ≡ literal (f y.1.now) →
    after ≡ literal_members (members_of f (by_bytes (ys ++ y ∷ [])))
thing_more f ys y before after key e so_far put name value =
    put ∙ ap (λ ps. push_properties ps (KeyValue None (StringKey (json_string key)) e)) so_far
    ∙ ap (λ k. push_properties (literal_members (members_of f (by_bytes ys))) (KeyValue None (StringKey (json_string k)) e)) name
    ∙ ap (λ v. push_properties (literal_members (members_of f (by_bytes ys))) (KeyValue None (StringKey (json_string (string_bytes y.0))) v)) value
    ∙ sym (member_more f (by_bytes ys) (string_bytes y.0, y.1.now))
    ∙ ap (λ xs. literal_members (members_of f xs)) (sym (bytes_more ys y))

-- all of them
pub things_all : {T : Type 0} (f : T → Data) (things : List (ℕ × T)) (ys : List (String Global × Bor T)) → by_bytes ys ≡ in_key_order things →
    ObjectLiteral None (literal_members (members_of f (by_bytes ys))) ≡ literal (numbered f things)
things_all f things ys sorted =
    ap (λ xs. ObjectLiteral None (literal_members (members_of f xs))) sorted ∙ ap literal (key_order-numbered f things)

-- ---- the elements of an array

items_more : (xs : List Data) (x : Data) → literals (items_of (xs ++ x ∷ [])) ≡ push_exprs (literals (items_of xs)) (literal x)
items_more [] x = refl
items_more (y ∷ ys) x = ap (more_expr (literal y)) (items_more ys x)

pub element_more : {T : Type 0} (f : T → Data) (xs : List T) (i : ℕ) (x : T) (before after : Exprs) (e : Expr) → i < length xs → x ≡ get_or xs i x →
    before ≡ literals (items_of (map f (take i xs))) → after ≡ push_exprs before e → e ≡ literal (f x) → after ≡ literals (items_of (map f (take (i + 1) xs)))
element_more f xs i x before after e less is so_far put value =
    put ∙ ap (λ es. push_exprs es e) so_far ∙ ap (push_exprs (literals (items_of (map f (take i xs))))) value
    ∙ sym (items_more (map f (take i xs)) (f x))
    ∙ ap (λ ds. literals (items_of ds)) (sym (map_push f (take i xs) x))
    ∙ ap (λ ys. literals (items_of (map f ys))) (ap (λ y. take i xs ++ y ∷ []) is ∙ sym (take_more xs i x less))
