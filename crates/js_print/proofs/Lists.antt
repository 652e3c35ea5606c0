-- What is left of a list, one item at a time.
use Rattle.std.proofs.Common.{◌≡◌, ◌∙◌, ℕ, Bool, suc, ◌+◌, ◌<◌, length, drop, get_or, add-one, List, [], ◌∷◌, ◌++◌, Option, refl, sym, ap, subst, append_assoc, append-nil, arith}
use Rattle.std.proofs.Math.Seq.{drop-cons}
use Rattle.js_terms.specs.declared.place.Loc.{Loc}
use Rattle.js_tree.specs.Plain as P
use Rattle.js_tree.specs.declared.tree.Expr as expr
use Rattle.js_tree.specs.declared.tree.Property as property
use Rattle.js_tree.specs.declared.tree.Param as param
use Rattle.js_tree.specs.declared.tree.Declarator as declarator
use Rattle.js_tree.specs.declared.tree.Stmt as stmt
use Rattle.js_tree.specs.declared.tree.Case as case
use Rattle.js_tree.specs.declared.tree.TemplatePart as template_part
use Rattle.js_tree.specs.Tree.{plain_exprs, plain_properties, plain_params, plain_declarators, plain_stmts, plain_cases, plain_template_parts, plain_expr, plain_property, plain_param, plain_declarator, plain_stmt, plain_case, plain_template_part}
use Rattle.js_spelling.specs.Written.{Written}
use Rattle.js_layout.specs.Tokens.{case_tokens, stmts_tokens}
use Rattle.js_text.specs.Token as T
use Rattle.js_layout.specs.Tokens as tokens
use Rattle.js_text.specs.declared.punctuator.Punctuator.TheVariants as mark
use Rattle.js_layout.specs.Neat.{placed, neat_expr, neat_exprs, neat_property, neat_properties, neat_params, neat_declarators, neat_parts}
use Rattle.js_print.specs.Parts.{neat_param, neat_declarator, part_tokens, test_tokens}
use Rattle.js_sheet.specs.Stands.{At, Puts}
use Rattle.js_print.proofs.Steps.{Leaves, one, part}

pub no_item : {T : Type 0} (xs : List T) → length xs ≡ 0 → xs ≡ []
no_item [] h = refl
no_item (x ∷ xs) h = absurd (omega (arith, h))

-- tokens were put, of those that were left
pub put_step : {start now new : At} {all : List Written} (left xs rest : List Written) → left ≡ xs ++ rest → Puts now new xs → Leaves start now left all → Leaves start new rest all
put_step {start} {now} {new} {all} left xs rest cut puts leaves = record { then = λ end then. leaves.then end (subst (Puts now end) (sym cut) (part xs puts then)) }

-- the same after a comma
pub put_more : {start now between new : At} {all : List Written} (left xs rest : List Written) (comma : Written) → left ≡ comma ∷ (xs ++ rest) → Puts now between (comma ∷ []) → Puts between new xs → Leaves start now left all → Leaves start new rest all
put_more {start} {now} {between} {new} {all} left xs rest comma cut first puts leaves = put_step left (comma ∷ xs) rest cut (one first puts) leaves

pub next_expr : (xs : List expr.Expr) (i : ℕ) (x : expr.Expr) → i < length xs → x ≡ get_or xs i x → plain_exprs (drop i xs) ≡ P.more_expr (plain_expr x) (plain_exprs (drop (i + 1) xs))
next_expr xs i x low is =
    ap plain_exprs (drop-cons xs i x low) ∙ ap (λ y. P.more_expr (plain_expr y) (plain_exprs (drop (suc i) xs))) (sym is) ∙ ap (λ n. P.more_expr (plain_expr x) (plain_exprs (drop n xs))) (sym (add-one i))

pub next_property : (xs : List property.Property) (i : ℕ) (x : property.Property) → i < length xs → x ≡ get_or xs i x → plain_properties (drop i xs) ≡ P.more_property (plain_property x) (plain_properties (drop (i + 1) xs))
next_property xs i x low is =
    ap plain_properties (drop-cons xs i x low) ∙ ap (λ y. P.more_property (plain_property y) (plain_properties (drop (suc i) xs))) (sym is) ∙ ap (λ n. P.more_property (plain_property x) (plain_properties (drop n xs))) (sym (add-one i))

pub next_param : (xs : List param.Param) (i : ℕ) (x : param.Param) → i < length xs → x ≡ get_or xs i x → plain_params (drop i xs) ≡ P.more_param (plain_param x) (plain_params (drop (i + 1) xs))
next_param xs i x low is =
    ap plain_params (drop-cons xs i x low) ∙ ap (λ y. P.more_param (plain_param y) (plain_params (drop (suc i) xs))) (sym is) ∙ ap (λ n. P.more_param (plain_param x) (plain_params (drop n xs))) (sym (add-one i))

pub next_declarator : (xs : List declarator.Declarator) (i : ℕ) (x : declarator.Declarator) → i < length xs → x ≡ get_or xs i x → plain_declarators (drop i xs) ≡ P.more_declarator (plain_declarator x) (plain_declarators (drop (i + 1) xs))
next_declarator xs i x low is =
    ap plain_declarators (drop-cons xs i x low) ∙ ap (λ y. P.more_declarator (plain_declarator y) (plain_declarators (drop (suc i) xs))) (sym is) ∙ ap (λ n. P.more_declarator (plain_declarator x) (plain_declarators (drop n xs))) (sym (add-one i))

pub next_stmt : (xs : List stmt.Stmt) (i : ℕ) (x : stmt.Stmt) → i < length xs → x ≡ get_or xs i x → plain_stmts (drop i xs) ≡ P.more_stmt (plain_stmt x) (plain_stmts (drop (i + 1) xs))
next_stmt xs i x low is =
    ap plain_stmts (drop-cons xs i x low) ∙ ap (λ y. P.more_stmt (plain_stmt y) (plain_stmts (drop (suc i) xs))) (sym is) ∙ ap (λ n. P.more_stmt (plain_stmt x) (plain_stmts (drop n xs))) (sym (add-one i))

pub next_case : (xs : List case.Case) (i : ℕ) (x : case.Case) → i < length xs → x ≡ get_or xs i x → plain_cases (drop i xs) ≡ P.more_case (plain_case x) (plain_cases (drop (i + 1) xs))
next_case xs i x low is =
    ap plain_cases (drop-cons xs i x low) ∙ ap (λ y. P.more_case (plain_case y) (plain_cases (drop (suc i) xs))) (sym is) ∙ ap (λ n. P.more_case (plain_case x) (plain_cases (drop n xs))) (sym (add-one i))

pub next_template_part : (xs : List template_part.TemplatePart) (i : ℕ) (x : template_part.TemplatePart) → i < length xs → x ≡ get_or xs i x → plain_template_parts (drop i xs) ≡ P.more_template_part (plain_template_part x) (plain_template_parts (drop (i + 1) xs))
next_template_part xs i x low is =
    ap plain_template_parts (drop-cons xs i x low) ∙ ap (λ y. P.more_template_part (plain_template_part y) (plain_template_parts (drop (suc i) xs))) (sym is) ∙ ap (λ n. P.more_template_part (plain_template_part x) (plain_template_parts (drop n xs))) (sym (add-one i))

-- a clause begins with its test
pub case_begins : (l : Option Loc) (e : P.MaybeExpr) (ss : P.Stmts) → case_tokens (P.MakeCase l e ss) ≡ test_tokens l e ++ tokens.mark l mark.Colon ∷ stmts_tokens ss
case_begins l P.none_expr ss = refl
case_begins l (P.some_expr e) ss = refl

-- the first of what is left, after its comma, and the rest
pub expressions_cut : (l : Option Loc) (e : P.Expr) (es : P.Exprs) → tokens.more_exprs_tokens l (neat_exprs (P.more_expr e es)) ≡ tokens.mark l mark.Comma ∷ (tokens.expr_tokens (placed 2 e (neat_expr e)) ++ tokens.more_exprs_tokens l (neat_exprs es))
expressions_cut l e es = refl

pub properties_cut : (l : Option Loc) (p : P.Property) (ps : P.Properties) → tokens.more_properties_tokens l (neat_properties (P.more_property p ps)) ≡ tokens.mark l mark.Comma ∷ (tokens.property_tokens (neat_property p) ++ tokens.more_properties_tokens l (neat_properties ps))
properties_cut l p ps = refl

pub params_cut : (l : Option Loc) (p : P.Param) (ps : P.Params) → tokens.more_params_tokens l (neat_params (P.more_param p ps)) ≡ tokens.mark l mark.Comma ∷ (tokens.param_tokens (neat_param p) ++ tokens.more_params_tokens l (neat_params ps))
params_cut l (P.MakeParam m x e) ps = refl

pub declarators_cut : (l : Option Loc) (head : Bool) (d : P.Declarator) (ds : P.Declarators) →
    tokens.more_declarators_tokens l (neat_declarators head (P.more_declarator d ds)) ≡ tokens.mark l mark.Comma ∷ (tokens.declarator_tokens (neat_declarator head d) ++ tokens.more_declarators_tokens l (neat_declarators head ds))
declarators_cut l head (P.MakeDeclarator m x e) ds = refl

-- the first of all, and the rest
pub params_first : (l : Option Loc) (p : P.Param) (ps : P.Params) → tokens.params_tokens l (neat_params (P.more_param p ps)) ≡ tokens.param_tokens (neat_param p) ++ tokens.more_params_tokens l (neat_params ps)
params_first l (P.MakeParam m x e) ps = refl

pub declarators_first : (l : Option Loc) (head : Bool) (d : P.Declarator) (ds : P.Declarators) →
    tokens.declarators_tokens l (neat_declarators head (P.more_declarator d ds)) ≡ tokens.declarator_tokens (neat_declarator head d) ++ tokens.more_declarators_tokens l (neat_declarators head ds)
declarators_first l head (P.MakeDeclarator m x e) ds = refl

-- the first part of a template that is left, and the rest
pub put_part : {start now new : At} {all : List Written} (l : Option Loc) (p : P.TemplatePart) (ps : P.TemplateParts) → Puts now new (part_tokens T.TemplateMiddle l p) → Puts now new (part_tokens T.TemplateTail l p) →
    Leaves start now (tokens.parts_tokens l (neat_parts (P.more_template_part p ps))) all → Leaves start new (tokens.parts_tokens l (neat_parts ps)) all
put_part {start} {now} {new} {all} l (P.MakeTemplatePart e s) P.no_template_part middle tail leaves =
    put_step _ (part_tokens T.TemplateTail l (P.MakeTemplatePart e s)) [] (sym (append-nil (part_tokens T.TemplateTail l (P.MakeTemplatePart e s)))) tail leaves
put_part {start} {now} {new} {all} l (P.MakeTemplatePart e s) (P.more_template_part (P.MakeTemplatePart f t) ps) middle tail leaves =
    let rest = tokens.parts_tokens l (neat_parts (P.more_template_part (P.MakeTemplatePart f t) ps)) in
    put_step _ (part_tokens T.TemplateMiddle l (P.MakeTemplatePart e s)) rest (sym (append_assoc (tokens.expr_tokens (neat_expr e)) (tokens.token l (T.TemplateMiddle s.spelling) ∷ []) rest)) middle leaves

-- the first text of a template, whether it is the last or not
pub put_first : {now new : At} (l : Option Loc) (w : List ℕ) (ps : P.TemplateParts) → Puts now new (tokens.token l (T.NoSubstitutionTemplate w) ∷ []) → Puts now new (tokens.token l (T.TemplateHead w) ∷ []) → Puts now new (tokens.token l (tokens.first_part ps w) ∷ [])
put_first {now} {new} l w P.no_template_part whole head = whole
put_first {now} {new} l w (P.more_template_part p ps) whole head = head
