-- The kinds of lists, and how each is compiled part by part.
use Rattle.std.proofs.Common.{◌≡◌, ℕ, zero, suc, ◌+◌, ◌<◌, ◌≤◌, List, [], ◌∷◌, ◌++◌, length, drop, get_or, refl, sym, ap, subst, ◌∙◌, arith, add-one}
use Rattle.js_tree.specs.Plain as P
use Rattle.js_tree.specs.Codes as codes
use Rattle.js_tree.specs.Linked as linked
use Rattle.js_tree.specs.Linked.{Unmarked, Uncounted, Alone, Numbers, Linked}
use Rattle.js_tree.specs.Tree.{plain_case, plain_cases, plain_declarator, plain_declarators, plain_expr, plain_exprs, plain_param, plain_params, plain_properties, plain_property, plain_stmt, plain_stmts, plain_template_part, plain_template_parts}
use Rattle.js_tree.specs.declared.tree.Case.{Case}
use Rattle.js_tree.specs.declared.tree.Declarator.{Declarator}
use Rattle.js_tree.specs.declared.tree.Expr.{Expr}
use Rattle.js_tree.specs.declared.tree.Param.{Param}
use Rattle.js_tree.specs.declared.tree.Property.{Property}
use Rattle.js_tree.specs.declared.tree.Stmt.{Stmt}
use Rattle.js_tree.specs.declared.tree.TemplatePart.{TemplatePart}
use Rattle.js_meaning.specs.Program.{from}
use Rattle.js_code.specs.declared.node.ListKind.TheVariants as list
use Rattle.js_code.specs.Part.{AnExpr, AStmt, AProperty, ATemplatePart, AParam, ADeclarator, ACase, SomeExprs, SomeStmts, SomeProperties, SomeTemplateParts, SomeParams, SomeDeclarators, SomeCases}
use Rattle.js_code.specs.private.Push.{Compiling}
use Rattle.js_code.specs.private.Compiled.{Kind, Lists, AllBelow, Chained, CompilesCase, CompilesCases, CompilesDeclarator, CompilesDeclarators, CompilesExpr, CompilesExprs, CompilesParam, CompilesParams, CompilesProperties, CompilesProperty, CompilesStmt, CompilesStmts, CompilesTemplatePart, CompilesTemplateParts}
use Rattle.js_code.proofs.Lists.{IsKind, list_goes_on, list_ends, list_places}

from_suc : {A : Type 0} (xs : List A) (i : ℕ) (x : A) → i < length xs → x ≡ get_or xs i x → drop i xs ≡ x ∷ drop (suc i) xs
from_suc [] i x l e = absurd (omega arith)
from_suc (y ∷ ys) zero x l e = ap (λ z. z ∷ ys) (sym e)
from_suc (y ∷ ys) (suc i) x l e = from_suc ys i x (omega arith) e

pub from_at : {A : Type 0} (xs : List A) (i : ℕ) (x : A) → i < length xs → x ≡ get_or xs i x → drop i xs ≡ x ∷ drop (i + 1) xs
from_at xs i x l e = from_suc xs i x l e ∙ ap (λ n. x ∷ drop n xs) (sym (add-one i))

pub past_end : {A : Type 0} (xs : List A) (i : ℕ) → length xs ≤ i → drop i xs ≡ []
past_end [] zero l = refl
past_end [] (suc i) l = refl
past_end (x ∷ xs) zero l = absurd (omega arith)
past_end (x ∷ xs) (suc i) l = past_end xs i (omega arith)

pub places_below : {T L : Type 0} (kind : Kind T L) (is : IsKind kind) {old now : Compiling} {places qs : List ℕ} {whole left : Numbers → Linked L} → qs ≡ places → Lists kind old now places whole left → AllBelow (length now.nodes) qs
places_below kind is {old = old} {now = now} {places = places} {whole = whole} {left = left} e l =
    let Q : List ℕ → Type 0 = λ ps. AllBelow (length now.nodes) ps in subst Q (sym e) (list_places kind is old now places whole left (from (length old.functions)) refl l)

abbrev pub exprs_kind : Kind P.Expr P.Exprs
exprs_kind = record { put = AnExpr; puts = SomeExprs; codes = codes.functions_expr; all_codes = codes.functions_exprs; more = P.more_expr; none = P.no_expr; kind = list.Exprs }

pub exprs_are : IsKind exprs_kind
exprs_are = record { ends = refl; joins = λ x xs. refl; codes_none = refl; codes_more = λ x xs. refl }

pub exprs_go_on : (xs : List Expr) {old now new : Compiling} {places : List ℕ} {place : ℕ} {i : ℕ} {x : Expr} → i < length xs → x ≡ get_or xs i x →
    Lists exprs_kind old now places (linked.link_exprs Unmarked (plain_exprs xs)) (linked.link_exprs Unmarked (plain_exprs (drop i xs))) → CompilesExpr now new place (plain_expr x) →
    Lists exprs_kind old new (places ++ place ∷ []) (linked.link_exprs Unmarked (plain_exprs xs)) (linked.link_exprs Unmarked (plain_exprs (drop (i + 1) xs)))
exprs_go_on xs {old = old} {now = now} {new = new} {places = places} {place = place} {i = i} {x = x} l e h c =
    let Q : List Expr → Type 0 = λ ys. Lists exprs_kind old now places (linked.link_exprs Unmarked (plain_exprs xs)) (linked.link_exprs Unmarked (plain_exprs ys)) in
    list_goes_on exprs_kind exprs_are old now new places place (linked.link_exprs Unmarked (plain_exprs xs)) (linked.link_expr Unmarked Alone (plain_expr x)) (linked.link_exprs Unmarked (plain_exprs (drop (i + 1) xs)))
    (subst Q (from_at xs i x l e) h) (c.compiled Alone)

pub exprs_end : (new : Compiling) (xs : List Expr) {old now : Compiling} {places qs : List ℕ} {i : ℕ} {place : ℕ} → length xs ≤ i →
    Lists exprs_kind old now places (linked.link_exprs Unmarked (plain_exprs xs)) (linked.link_exprs Unmarked (plain_exprs (drop i xs))) → qs ≡ places → Chained now new list.Exprs qs place →
    CompilesExprs old new place (plain_exprs xs)
exprs_end new xs {old = old} {now = now} {places = places} {i = i} {place = place} l h e pushed = let C : List ℕ → Type 0 = λ ps. Chained now new list.Exprs ps place in let c = subst C e pushed in record {
  compiled =
      let Q : List Expr → Type 0 = λ ys. Lists exprs_kind old now places (linked.link_exprs Unmarked (plain_exprs xs)) (linked.link_exprs Unmarked (plain_exprs ys)) in
      list_ends exprs_kind exprs_are old now new places place (linked.link_exprs Unmarked (plain_exprs xs)) (subst Q (past_end xs i l) h) c;
}

abbrev pub template_parts_kind : Kind P.TemplatePart P.TemplateParts
template_parts_kind = record { put = ATemplatePart; puts = SomeTemplateParts; codes = codes.functions_template_part; all_codes = codes.functions_template_parts; more = P.more_template_part; none = P.no_template_part; kind = list.TemplateParts }

pub template_parts_are : IsKind template_parts_kind
template_parts_are = record { ends = refl; joins = λ x xs. refl; codes_none = refl; codes_more = λ x xs. refl }

pub template_parts_go_on : (xs : List TemplatePart) {old now new : Compiling} {places : List ℕ} {place : ℕ} {i : ℕ} {x : TemplatePart} → i < length xs → x ≡ get_or xs i x →
    Lists template_parts_kind old now places (linked.link_template_parts Unmarked (plain_template_parts xs)) (linked.link_template_parts Unmarked (plain_template_parts (drop i xs))) → CompilesTemplatePart now new place (plain_template_part x) →
    Lists template_parts_kind old new (places ++ place ∷ []) (linked.link_template_parts Unmarked (plain_template_parts xs)) (linked.link_template_parts Unmarked (plain_template_parts (drop (i + 1) xs)))
template_parts_go_on xs {old = old} {now = now} {new = new} {places = places} {place = place} {i = i} {x = x} l e h c =
    let Q : List TemplatePart → Type 0 = λ ys. Lists template_parts_kind old now places (linked.link_template_parts Unmarked (plain_template_parts xs)) (linked.link_template_parts Unmarked (plain_template_parts ys)) in
    list_goes_on template_parts_kind template_parts_are old now new places place (linked.link_template_parts Unmarked (plain_template_parts xs)) (linked.link_template_part Unmarked (plain_template_part x)) (linked.link_template_parts Unmarked (plain_template_parts (drop (i + 1) xs)))
    (subst Q (from_at xs i x l e) h) c.compiled

pub template_parts_end : (new : Compiling) (xs : List TemplatePart) {old now : Compiling} {places qs : List ℕ} {i : ℕ} {place : ℕ} → length xs ≤ i →
    Lists template_parts_kind old now places (linked.link_template_parts Unmarked (plain_template_parts xs)) (linked.link_template_parts Unmarked (plain_template_parts (drop i xs))) → qs ≡ places → Chained now new list.TemplateParts qs place →
    CompilesTemplateParts old new place (plain_template_parts xs)
template_parts_end new xs {old = old} {now = now} {places = places} {i = i} {place = place} l h e pushed = let C : List ℕ → Type 0 = λ ps. Chained now new list.TemplateParts ps place in let c = subst C e pushed in record {
  compiled =
      let Q : List TemplatePart → Type 0 = λ ys. Lists template_parts_kind old now places (linked.link_template_parts Unmarked (plain_template_parts xs)) (linked.link_template_parts Unmarked (plain_template_parts ys)) in
      list_ends template_parts_kind template_parts_are old now new places place (linked.link_template_parts Unmarked (plain_template_parts xs)) (subst Q (past_end xs i l) h) c;
}

abbrev pub properties_kind : Kind P.Property P.Properties
properties_kind = record { put = AProperty; puts = SomeProperties; codes = codes.functions_property; all_codes = codes.functions_properties; more = P.more_property; none = P.no_property; kind = list.Properties }

pub properties_are : IsKind properties_kind
properties_are = record { ends = refl; joins = λ x xs. refl; codes_none = refl; codes_more = λ x xs. refl }

pub properties_go_on : (xs : List Property) {old now new : Compiling} {places : List ℕ} {place : ℕ} {i : ℕ} {x : Property} → i < length xs → x ≡ get_or xs i x →
    Lists properties_kind old now places (linked.link_properties Unmarked (plain_properties xs)) (linked.link_properties Unmarked (plain_properties (drop i xs))) → CompilesProperty now new place (plain_property x) →
    Lists properties_kind old new (places ++ place ∷ []) (linked.link_properties Unmarked (plain_properties xs)) (linked.link_properties Unmarked (plain_properties (drop (i + 1) xs)))
properties_go_on xs {old = old} {now = now} {new = new} {places = places} {place = place} {i = i} {x = x} l e h c =
    let Q : List Property → Type 0 = λ ys. Lists properties_kind old now places (linked.link_properties Unmarked (plain_properties xs)) (linked.link_properties Unmarked (plain_properties ys)) in
    list_goes_on properties_kind properties_are old now new places place (linked.link_properties Unmarked (plain_properties xs)) (linked.link_property Unmarked (plain_property x)) (linked.link_properties Unmarked (plain_properties (drop (i + 1) xs)))
    (subst Q (from_at xs i x l e) h) c.compiled

pub properties_end : (new : Compiling) (xs : List Property) {old now : Compiling} {places qs : List ℕ} {i : ℕ} {place : ℕ} → length xs ≤ i →
    Lists properties_kind old now places (linked.link_properties Unmarked (plain_properties xs)) (linked.link_properties Unmarked (plain_properties (drop i xs))) → qs ≡ places → Chained now new list.Properties qs place →
    CompilesProperties old new place (plain_properties xs)
properties_end new xs {old = old} {now = now} {places = places} {i = i} {place = place} l h e pushed = let C : List ℕ → Type 0 = λ ps. Chained now new list.Properties ps place in let c = subst C e pushed in record {
  compiled =
      let Q : List Property → Type 0 = λ ys. Lists properties_kind old now places (linked.link_properties Unmarked (plain_properties xs)) (linked.link_properties Unmarked (plain_properties ys)) in
      list_ends properties_kind properties_are old now new places place (linked.link_properties Unmarked (plain_properties xs)) (subst Q (past_end xs i l) h) c;
}

abbrev pub params_kind : Kind P.Param P.Params
params_kind = record { put = AParam; puts = SomeParams; codes = codes.functions_param; all_codes = codes.functions_params; more = P.more_param; none = P.no_param; kind = list.Params }

pub params_are : IsKind params_kind
params_are = record { ends = refl; joins = λ x xs. refl; codes_none = refl; codes_more = λ x xs. refl }

pub params_go_on : (xs : List Param) {old now new : Compiling} {places : List ℕ} {place : ℕ} {i : ℕ} {x : Param} → i < length xs → x ≡ get_or xs i x →
    Lists params_kind old now places (linked.link_params Unmarked (plain_params xs)) (linked.link_params Unmarked (plain_params (drop i xs))) → CompilesParam now new place (plain_param x) →
    Lists params_kind old new (places ++ place ∷ []) (linked.link_params Unmarked (plain_params xs)) (linked.link_params Unmarked (plain_params (drop (i + 1) xs)))
params_go_on xs {old = old} {now = now} {new = new} {places = places} {place = place} {i = i} {x = x} l e h c =
    let Q : List Param → Type 0 = λ ys. Lists params_kind old now places (linked.link_params Unmarked (plain_params xs)) (linked.link_params Unmarked (plain_params ys)) in
    list_goes_on params_kind params_are old now new places place (linked.link_params Unmarked (plain_params xs)) (linked.link_param Unmarked (plain_param x)) (linked.link_params Unmarked (plain_params (drop (i + 1) xs)))
    (subst Q (from_at xs i x l e) h) c.compiled

pub params_end : (new : Compiling) (xs : List Param) {old now : Compiling} {places qs : List ℕ} {i : ℕ} {place : ℕ} → length xs ≤ i →
    Lists params_kind old now places (linked.link_params Unmarked (plain_params xs)) (linked.link_params Unmarked (plain_params (drop i xs))) → qs ≡ places → Chained now new list.Params qs place →
    CompilesParams old new place (plain_params xs)
params_end new xs {old = old} {now = now} {places = places} {i = i} {place = place} l h e pushed = let C : List ℕ → Type 0 = λ ps. Chained now new list.Params ps place in let c = subst C e pushed in record {
  compiled =
      let Q : List Param → Type 0 = λ ys. Lists params_kind old now places (linked.link_params Unmarked (plain_params xs)) (linked.link_params Unmarked (plain_params ys)) in
      list_ends params_kind params_are old now new places place (linked.link_params Unmarked (plain_params xs)) (subst Q (past_end xs i l) h) c;
}

abbrev pub stmts_kind : Kind P.Stmt P.Stmts
stmts_kind = record { put = AStmt; puts = SomeStmts; codes = codes.functions_stmt; all_codes = codes.functions_stmts; more = P.more_stmt; none = P.no_stmt; kind = list.Stmts }

pub stmts_are : IsKind stmts_kind
stmts_are = record { ends = refl; joins = λ x xs. refl; codes_none = refl; codes_more = λ x xs. refl }

pub stmts_go_on : (xs : List Stmt) {old now new : Compiling} {places : List ℕ} {place : ℕ} {i : ℕ} {x : Stmt} → i < length xs → x ≡ get_or xs i x →
    Lists stmts_kind old now places (linked.link_stmts Unmarked (plain_stmts xs)) (linked.link_stmts Unmarked (plain_stmts (drop i xs))) → CompilesStmt now new place (plain_stmt x) →
    Lists stmts_kind old new (places ++ place ∷ []) (linked.link_stmts Unmarked (plain_stmts xs)) (linked.link_stmts Unmarked (plain_stmts (drop (i + 1) xs)))
stmts_go_on xs {old = old} {now = now} {new = new} {places = places} {place = place} {i = i} {x = x} l e h c =
    let Q : List Stmt → Type 0 = λ ys. Lists stmts_kind old now places (linked.link_stmts Unmarked (plain_stmts xs)) (linked.link_stmts Unmarked (plain_stmts ys)) in
    list_goes_on stmts_kind stmts_are old now new places place (linked.link_stmts Unmarked (plain_stmts xs)) (linked.link_stmt Unmarked (plain_stmt x)) (linked.link_stmts Unmarked (plain_stmts (drop (i + 1) xs)))
    (subst Q (from_at xs i x l e) h) c.compiled

pub stmts_end : (new : Compiling) (xs : List Stmt) {old now : Compiling} {places qs : List ℕ} {i : ℕ} {place : ℕ} → length xs ≤ i →
    Lists stmts_kind old now places (linked.link_stmts Unmarked (plain_stmts xs)) (linked.link_stmts Unmarked (plain_stmts (drop i xs))) → qs ≡ places → Chained now new list.Stmts qs place →
    CompilesStmts old new place (plain_stmts xs)
stmts_end new xs {old = old} {now = now} {places = places} {i = i} {place = place} l h e pushed = let C : List ℕ → Type 0 = λ ps. Chained now new list.Stmts ps place in let c = subst C e pushed in record {
  compiled =
      let Q : List Stmt → Type 0 = λ ys. Lists stmts_kind old now places (linked.link_stmts Unmarked (plain_stmts xs)) (linked.link_stmts Unmarked (plain_stmts ys)) in
      list_ends stmts_kind stmts_are old now new places place (linked.link_stmts Unmarked (plain_stmts xs)) (subst Q (past_end xs i l) h) c;
}

abbrev pub declarators_kind : Kind P.Declarator P.Declarators
declarators_kind = record { put = ADeclarator; puts = SomeDeclarators; codes = codes.functions_declarator; all_codes = codes.functions_declarators; more = P.more_declarator; none = P.no_declarator; kind = list.Declarators }

pub declarators_are : IsKind declarators_kind
declarators_are = record { ends = refl; joins = λ x xs. refl; codes_none = refl; codes_more = λ x xs. refl }

pub declarators_go_on : (xs : List Declarator) {old now new : Compiling} {places : List ℕ} {place : ℕ} {i : ℕ} {x : Declarator} → i < length xs → x ≡ get_or xs i x →
    Lists declarators_kind old now places (linked.link_declarators Unmarked (plain_declarators xs)) (linked.link_declarators Unmarked (plain_declarators (drop i xs))) → CompilesDeclarator now new place (plain_declarator x) →
    Lists declarators_kind old new (places ++ place ∷ []) (linked.link_declarators Unmarked (plain_declarators xs)) (linked.link_declarators Unmarked (plain_declarators (drop (i + 1) xs)))
declarators_go_on xs {old = old} {now = now} {new = new} {places = places} {place = place} {i = i} {x = x} l e h c =
    let Q : List Declarator → Type 0 = λ ys. Lists declarators_kind old now places (linked.link_declarators Unmarked (plain_declarators xs)) (linked.link_declarators Unmarked (plain_declarators ys)) in
    list_goes_on declarators_kind declarators_are old now new places place (linked.link_declarators Unmarked (plain_declarators xs)) (linked.link_declarator Unmarked (plain_declarator x)) (linked.link_declarators Unmarked (plain_declarators (drop (i + 1) xs)))
    (subst Q (from_at xs i x l e) h) c.compiled

pub declarators_end : (new : Compiling) (xs : List Declarator) {old now : Compiling} {places qs : List ℕ} {i : ℕ} {place : ℕ} → length xs ≤ i →
    Lists declarators_kind old now places (linked.link_declarators Unmarked (plain_declarators xs)) (linked.link_declarators Unmarked (plain_declarators (drop i xs))) → qs ≡ places → Chained now new list.Declarators qs place →
    CompilesDeclarators old new place (plain_declarators xs)
declarators_end new xs {old = old} {now = now} {places = places} {i = i} {place = place} l h e pushed = let C : List ℕ → Type 0 = λ ps. Chained now new list.Declarators ps place in let c = subst C e pushed in record {
  compiled =
      let Q : List Declarator → Type 0 = λ ys. Lists declarators_kind old now places (linked.link_declarators Unmarked (plain_declarators xs)) (linked.link_declarators Unmarked (plain_declarators ys)) in
      list_ends declarators_kind declarators_are old now new places place (linked.link_declarators Unmarked (plain_declarators xs)) (subst Q (past_end xs i l) h) c;
}

abbrev pub cases_kind : Kind P.Case P.Cases
cases_kind = record { put = ACase; puts = SomeCases; codes = codes.functions_case; all_codes = codes.functions_cases; more = P.more_case; none = P.no_case; kind = list.Cases }

pub cases_are : IsKind cases_kind
cases_are = record { ends = refl; joins = λ x xs. refl; codes_none = refl; codes_more = λ x xs. refl }

pub cases_go_on : (xs : List Case) {old now new : Compiling} {places : List ℕ} {place : ℕ} {i : ℕ} {x : Case} → i < length xs → x ≡ get_or xs i x →
    Lists cases_kind old now places (linked.link_cases Unmarked Uncounted 0 (plain_cases xs)) (linked.link_cases Unmarked Uncounted 0 (plain_cases (drop i xs))) → CompilesCase now new place (plain_case x) →
    Lists cases_kind old new (places ++ place ∷ []) (linked.link_cases Unmarked Uncounted 0 (plain_cases xs)) (linked.link_cases Unmarked Uncounted 0 (plain_cases (drop (i + 1) xs)))
cases_go_on xs {old = old} {now = now} {new = new} {places = places} {place = place} {i = i} {x = x} l e h c =
    let Q : List Case → Type 0 = λ ys. Lists cases_kind old now places (linked.link_cases Unmarked Uncounted 0 (plain_cases xs)) (linked.link_cases Unmarked Uncounted 0 (plain_cases ys)) in
    list_goes_on cases_kind cases_are old now new places place (linked.link_cases Unmarked Uncounted 0 (plain_cases xs)) (linked.link_case Unmarked (plain_case x)) (linked.link_cases Unmarked Uncounted 0 (plain_cases (drop (i + 1) xs)))
    (subst Q (from_at xs i x l e) h) c.compiled

pub cases_end : (new : Compiling) (xs : List Case) {old now : Compiling} {places qs : List ℕ} {i : ℕ} {place : ℕ} → length xs ≤ i →
    Lists cases_kind old now places (linked.link_cases Unmarked Uncounted 0 (plain_cases xs)) (linked.link_cases Unmarked Uncounted 0 (plain_cases (drop i xs))) → qs ≡ places → Chained now new list.Cases qs place →
    CompilesCases old new place (plain_cases xs)
cases_end new xs {old = old} {now = now} {places = places} {i = i} {place = place} l h e pushed = let C : List ℕ → Type 0 = λ ps. Chained now new list.Cases ps place in let c = subst C e pushed in record {
  compiled =
      let Q : List Case → Type 0 = λ ys. Lists cases_kind old now places (linked.link_cases Unmarked Uncounted 0 (plain_cases xs)) (linked.link_cases Unmarked Uncounted 0 (plain_cases ys)) in
      list_ends cases_kind cases_are old now new places place (linked.link_cases Unmarked Uncounted 0 (plain_cases xs)) (subst Q (past_end xs i l) h) c;
}
