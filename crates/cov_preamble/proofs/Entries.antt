-- The members of an object of JSON, one after the other.
use Rattle.std.proofs.Common.{◌≡◌, ℕ, List, [], ◌∷◌, ◌++◌, None, refl, sym, ap, ◌∙◌}
use Rattle.std.specs.Prelude.{String, string_bytes}
use Rattle.std.specs.declared.alloc.Global.{Global}
use Rattle.serde_json.specs.View.{view, members_view}
use Rattle.serde_json.specs.declared.value.Value.{Value}
use Rattle.js_tree.specs.Plain.{Expr, KeyValue, StringKey, Properties, more_property, push_properties}
use Rattle.cov_rewritten.specs.Preamble.{json_string, literal, literal_members}

abbrev pub Entry : Type 0
Entry = String Global × Value

abbrev spelled : Entry → Properties → Properties
spelled e members = push_properties members (KeyValue None (StringKey (json_string (string_bytes e.0))) (literal (view e.1)))

members_more : (done : List Entry) (e : Entry) → literal_members (members_view (done ++ e ∷ [])) ≡ spelled e (literal_members (members_view done))
members_more [] e = refl
members_more (d ∷ done) e = ap (more_property (KeyValue None (StringKey (json_string (string_bytes d.0))) (literal (view d.1)))) (members_more done e)

-- one more
pub entry_more : (done : List Entry) (e : Entry) (before after : Properties) (key : List ℕ) (x : Expr) → before ≡ literal_members (members_view done) →
    after ≡ push_properties before (KeyValue None (StringKey (json_string key)) x) → key ≡ string_bytes e.0 → x ≡ literal (view e.1) →
    after ≡ literal_members (members_view (done ++ e ∷ []))
entry_more done e before after key x so_far put name value =
    put ∙ ap (λ ps. push_properties ps (KeyValue None (StringKey (json_string key)) x)) so_far
    ∙ ap (λ k. push_properties (literal_members (members_view done)) (KeyValue None (StringKey (json_string k)) x)) name
    ∙ ap (λ v. push_properties (literal_members (members_view done)) (KeyValue None (StringKey (json_string (string_bytes e.0))) v)) value
    ∙ sym (members_more done e)
