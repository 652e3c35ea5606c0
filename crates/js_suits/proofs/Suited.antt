-- A marked tree suits a home, if its names are free there, its marks have counters and its functions have numbers that stand.
use Rattle.std.proofs.Common.{◌≡◌, ℕ, ◌+◌, true, false, List, [], ◌∷◌, ◌++◌, Option, Some, None, refl, ◌∙◌}
use Rattle.js_terms.specs.declared.place.Loc.{Loc}
use Rattle.js_terms.specs.declared.operators.VariableKind.{VariableKind}
use Rattle.js_terms.specs.declared.operators.VariableKind.TheVariants as variable
use Rattle.js_terms.specs.declared.words.Identifier.{Identifier}
use Rattle.js_tree.specs.Plain.{Expr}
use Rattle.js_tree.specs.Plain.{Stmt, VariableDeclaration}
use Rattle.js_tree.specs.Plain.{Property}
use Rattle.js_tree.specs.Plain.{PropertyKey}
use Rattle.js_tree.specs.Plain.{ConciseBody}
use Rattle.js_tree.specs.Plain.{ForInit}
use Rattle.js_tree.specs.Plain.{ForTarget}
use Rattle.js_tree.specs.Plain.{TemplatePart}
use Rattle.js_tree.specs.Plain.{Function}
use Rattle.js_tree.specs.Plain.{FunctionBody}
use Rattle.js_tree.specs.Plain.{Param}
use Rattle.js_tree.specs.Plain.{Declarator}
use Rattle.js_tree.specs.Plain.{Case}
use Rattle.js_tree.specs.Plain.{Catch}
use Rattle.js_tree.specs.Plain.{MaybeExpr}
use Rattle.js_tree.specs.Plain.{MaybeStmt}
use Rattle.js_tree.specs.Plain.{Exprs}
use Rattle.js_tree.specs.Plain.{TemplateParts}
use Rattle.js_tree.specs.Plain.{Properties}
use Rattle.js_tree.specs.Plain.{Params}
use Rattle.js_tree.specs.Plain.{Stmts}
use Rattle.js_tree.specs.Plain.{Declarators}
use Rattle.js_tree.specs.Plain.{Cases}
use Rattle.js_tree.specs.Plain.{Pattern, BindingIdentifier, MaybePattern, none_pattern, some_pattern}
use Rattle.js_tree.specs.Entered.{PlacedMark, entered_expr, entered_stmt, entered_property, entered_property_key, entered_concise_body, entered_for_init, entered_for_target, entered_template_part, entered_function, entered_function_body, entered_param, entered_declarator, entered_case, entered_catch, entered_expr_if, entered_stmt_if, entered_exprs, entered_template_parts, entered_properties, entered_params, entered_stmts, entered_declarators, entered_cases}
use Rattle.js_tree.specs.Codes.{Code, number_of, functions_expr, functions_stmt, functions_property, functions_property_key, functions_concise_body, functions_for_init, functions_for_target, functions_template_part, functions_function, functions_function_body, functions_param, functions_declarator, functions_case, functions_catch, functions_expr_if, functions_stmt_if, functions_exprs, functions_template_parts, functions_properties, functions_params, functions_stmts, functions_declarators, functions_cases}
use Rattle.js_walk.specs.Part.{AnExpr, AStmt, AProperty, APropertyKey, APattern}
use Rattle.js_walk.specs.Walk.{visit, within_pattern_if, within_expr, within_stmt, within_property, within_property_key, within_concise_body, within_for_init, within_for_target, within_template_part, within_function, within_function_body, within_param, within_declarator, within_case, within_catch, within_expr_if, within_stmt_if, within_exprs, within_template_parts, within_properties, within_params, within_stmts, within_declarators, within_cases}
use Rattle.js_reading.specs.Makes.{is_declaration}
use Rattle.js_scopes.specs.declared.mention.Mention.{Mention}
use Rattle.js_scopes.specs.declared.mention.Mention.TheVariants as mention
use Rattle.js_scopes.specs.Mentions.{own_mention, own_name_if, nothing_told}
use Rattle.js_layout.specs.Printable.{IsName}
use Rattle.js_marked.specs.MarkedTree as marked_tree
use Rattle.js_marked.specs.MarkedTree.{MarkedExpr, identifier, this, null, boolean, numeric, string, array, object, function, arrow, regular, template, parenthesized, named_member, computed_member, new, call, postfix, prefix, unary, binary, logical, conditional, assignment, comma, MarkedValue, unentered, entered, MarkedLeaf, a_leaf, grouped, MarkedStmt, block, declaration, empty, expression, if_, do_, while, for_, for_in, for_of, continue, break, return, switch, labelled, throw, try_catch, try_finally, try_catch_finally, debugger, function_declaration, Around, bare, around, Branched, unbranched, branched, MarkedArm, none, missing, some, Listed, a_directive, a_stmt, MarkedStmts, no_stmts, more_stmts, MarkedProperty, shorthand, key_value, method, MarkedKey, name_key, string_key, number_key, computed_key, MarkedConcise, concise, concise_one, concise_two, braced, MarkedInit, no_init, init_declaration, init_expression, MarkedTarget, target_declaration, target_expression, MarkedPart, a_part, MarkedFunction, make_function, MarkedBody, plain_body, entered_body, MarkedParam, plain_param, defaulted, MarkedDeclarator, declarator, initialized, MarkedCase, clause, entered_clause, MarkedCatch, catching, MarkedMaybe, no_value, some_value, MarkedExprs, no_exprs, more_exprs, MarkedParts, no_parts, more_parts, MarkedProperties, no_properties, more_properties, MarkedParams, no_params, more_params, MarkedDeclarators, no_declarators, more_declarators, MarkedCases, no_cases, more_cases}
use Rattle.js_meaning.specs.Scopes.{lexical_stmt, function_stmt}
use Rattle.cov_rewritten.specs.Rewritten.{expr_marks}
use Rattle.js_suits.specs.Suits as S
use Rattle.js_suits.proofs.QuotedUnits.{quoted_units}
use Rattle.js_suits.specs.Settings.{Home, Setting, IsFree}

-- each of a list
pub data Each {A : Type 0} (P : A → Type 0) : List A → Type 0 where
  nil : Each P []
  cons : {x : A} {xs : List A} → P x → Each P xs → Each P (x ∷ xs)

pub hd : {A : Type 0} {P : A → Type 0} {x : A} {xs : List A} → Each P (x ∷ xs) → P x
hd (cons a b) = a

pub tl : {A : Type 0} {P : A → Type 0} {x : A} {xs : List A} → Each P (x ∷ xs) → Each P xs
tl (cons a b) = b

fst : {A : Type 0} {P : A → Type 0} (xs ys : List A) → Each P (xs ++ ys) → Each P xs
fst [] ys a = nil
fst (x ∷ xs) ys (cons a b) = cons a (fst xs ys b)

snd : {A : Type 0} {P : A → Type 0} (xs ys : List A) → Each P (xs ++ ys) → Each P ys
snd [] ys a = a
snd (x ∷ xs) ys (cons a b) = snd xs ys b

undeclared : (k : VariableKind) (l : Option Loc) (x x' : Declarators) → is_declaration (VariableDeclaration l k x) ≡ false → lexical_stmt (VariableDeclaration l k x') ≡ []
undeclared variable.Var l x x' n = refl
undeclared variable.Let l x x' n = absurd cc
undeclared variable.Const l x x' n = absurd cc

module _ (c : Setting) (h : Home) where
  -- a mention whose name, if it is a variable's, is free; a mark with a counter; a function at its number
  abbrev pub N : Mention → Type 0
  N (mention.Variable at w) = IsFree c.name h w
  N _ = Unit {0}

  abbrev pub M : PlacedMark → Type 0
  M m = S.SuitsMark c h m.mark

  abbrev pub F : Code → Type 0
  F code = c.Codes h (number_of code) (c.shift h + number_of code)

  named : (x : Option Identifier) → Each N (own_name_if x) → S.SuitsIdentifier c h x
  named None a = tt
  named (Some x) a = hd a

  bound : (x : Pattern) → Each N (own_mention tt (APattern x)) → S.SuitsPattern c h x
  bound (BindingIdentifier l w) a = hd a

  bound_if : (x : MaybePattern) → Each N (within_pattern_if own_mention nothing_told x tt) → S.SuitsPatternIf c h x
  bound_if none_pattern a = tt
  bound_if (some_pattern x) a = bound x a

  -- ---- what the place of a mark says

  bare_of : {e e' : Expr} → MarkedExpr e e' → S.is_bare c h e' ≡ true
  bare_of (parenthesized d) = bare_of d
  bare_of identifier = refl
  bare_of d = refl

  unmarked : {x x' : Stmt} → MarkedStmt x x' → S.is_marked c h x' ≡ false
  unmarked empty = refl
  unmarked d = refl

  single : {x x' : Stmt} → MarkedStmt x x' → S.IsFlat c h x'
  single empty = tt
  single d = tt

  same_block : {x x' : Stmt} → MarkedStmt x x' → S.is_block c h x' ≡ marked_tree.is_block x
  same_block empty = refl
  same_block d = refl

  block_of : {x x' : Stmt} → Around x x' → S.is_block c h x' ≡ marked_tree.is_block x
  block_of (bare d) = same_block d
  block_of (around m n b d) = block_of d

  flat : {x x' : Stmt} → Around x x' → S.IsFlat c h x'
  flat (bare d) = single d
  flat (around m n b d) = block_of d ∙ b

  no_entered_block : {x x' : Stmt} → MarkedStmt x x' → S.is_marked_block c h x' ≡ false
  no_entered_block empty = refl
  no_entered_block d = refl

  no_marked_block : {x x' : Stmt} → Around x x' → S.is_marked_block c h x' ≡ false
  no_marked_block (bare d) = no_entered_block d
  no_marked_block (around m n b d) = block_of d ∙ b

  no_lexical : {x x' : Stmt} → MarkedStmt x x' → is_declaration x ≡ false → lexical_stmt x' ≡ []
  no_lexical (declaration {l = l} {k = k} {x = y} {x' = y'} d) n = undeclared k l y y' n
  no_lexical (function_declaration d) n = refl
  no_lexical d n = refl

  lexical_of : {x x' : Stmt} → Around x x' → is_declaration x ≡ false → lexical_stmt x' ≡ []
  lexical_of (bare d) n = no_lexical d n
  lexical_of (around m _ b d) n = lexical_of d n

  no_function : {x x' : Stmt} → MarkedStmt x x' → is_declaration x ≡ false → function_stmt x' ≡ []
  no_function (function_declaration d) n = absurd cc
  no_function empty n = refl
  no_function d n = refl

  function_of : {x x' : Stmt} → Around x x' → is_declaration x ≡ false → function_stmt x' ≡ []
  function_of (bare d) n = no_function d n
  function_of (around m _ b d) n = function_of d n

  declares : {x x' : Stmt} → Branched x x' → S.DeclaresNothing c h x'
  declares (unbranched n d) = (lexical_of d n, function_of d n)
  declares (branched m n d) = (lexical_of d n, function_of d n)

  arm_declares : {x x' : MaybeStmt} → MarkedArm x x' → S.ArmDeclaresNothing c h x'
  arm_declares none = tt
  arm_declares (missing m) = tt
  arm_declares (some d) = declares d

  plain_of : {e e' : Expr} → MarkedExpr e e' → expr_marks e' ≡ []
  plain_of identifier = refl
  plain_of d = refl

  masked_of : {e e' : Expr} → MarkedExpr e e' → S.is_masked c h e' ≡ false
  masked_of (parenthesized (parenthesized {l = l} d)) = masked_of (parenthesized {l = l} d)
  masked_of (parenthesized identifier) = refl
  masked_of (parenthesized d) = refl
  masked_of identifier = refl
  masked_of d = refl

  spelt_plain : (w : List ℕ) {e e' : Expr} → MarkedExpr e e' → S.IsSpelt c h w e'
  spelt_plain w identifier = tt
  spelt_plain w d = tt

  held_of : {w : List ℕ} {e e' : Expr} → IsName w → MarkedValue e e' → S.IsHeld c h w e'
  held_of {w = w} n (unentered d) = (masked_of d, spelt_plain w d)
  held_of {w = w} n (entered m d) = (masked_of d, λ t. quoted_units w n)

  -- ---- the tree

  mutual
    expr_suits : {x x' : Expr} → MarkedExpr x x' → Each N (visit own_mention nothing_told tt (AnExpr x) (within_expr own_mention nothing_told x)) → Each M (entered_expr x') → Each F (functions_expr x') → S.SuitsExpr c h x'
    expr_suits identifier n m f = hd n
    expr_suits this n m f = tt
    expr_suits null n m f = tt
    expr_suits boolean n m f = tt
    expr_suits numeric n m f = tt
    expr_suits string n m f = tt
    expr_suits regular n m f = tt
    expr_suits (array d) n m f = (exprs_suits d n m f)
    expr_suits (object d) n m f = (properties_suits d n m f)
    expr_suits (function d) n m f = (named _ (fst _ _ n), function_suits d (snd _ _ n) m f)
    expr_suits (arrow d b) n m f = (hd f, params_suits d (fst _ _ n) (fst _ _ m) (fst _ _ (tl f)), concise_suits b (snd _ _ n) (snd _ _ m) (snd _ _ (tl f)))
    expr_suits (template d) n m f = (parts_suits d n m f)
    expr_suits (parenthesized d) n m f = (expr_suits d n m f)
    expr_suits (named_member d) n m f = (expr_suits d (tl n) m f, plain_of d)
    expr_suits (computed_member d b) n m f = ((expr_suits d (fst _ _ n) (fst _ _ m) (fst _ _ f), plain_of d), (expr_suits b (snd _ _ n) (snd _ _ m) (snd _ _ f), plain_of b))
    expr_suits (new d b) n m f = ((expr_suits d (fst _ _ n) (fst _ _ m) (fst _ _ f), plain_of d), (exprs_suits b (snd _ _ n) (snd _ _ m) (snd _ _ f)))
    expr_suits (call d b) n m f = ((expr_suits d (fst _ _ (snd _ _ n)) (fst _ _ m) (fst _ _ f), plain_of d), (exprs_suits b (snd _ _ (snd _ _ n)) (snd _ _ m) (snd _ _ f)), bare_of d)
    expr_suits (postfix d) n m f = ((expr_suits d n m f, plain_of d), bare_of d)
    expr_suits (prefix d) n m f = ((expr_suits d n m f, plain_of d), bare_of d)
    expr_suits (unary d) n m f = ((expr_suits d n m f, plain_of d), bare_of d)
    expr_suits (binary d b) n m f = ((expr_suits d (fst _ _ n) (fst _ _ m) (fst _ _ f), plain_of d), (expr_suits b (snd _ _ n) (snd _ _ m) (snd _ _ f), plain_of b))
    expr_suits (logical d b) n m f = ((leaf_suits d (fst _ _ n) (fst _ _ m) (fst _ _ f)), (leaf_suits b (snd _ _ n) (snd _ _ m) (snd _ _ f)))
    expr_suits (conditional d a b) n m f = ((expr_suits d (fst _ _ (fst _ _ n)) (fst _ _ (fst _ _ m)) (fst _ _ (fst _ _ f)), plain_of d), (value_suits a (snd _ _ (fst _ _ n)) (snd _ _ (fst _ _ m)) (snd _ _ (fst _ _ f))), (value_suits b (snd _ _ n) (snd _ _ m) (snd _ _ f)))
    expr_suits (assignment d b) n m f = ((expr_suits d (fst _ _ n) (fst _ _ m) (fst _ _ f), plain_of d), (expr_suits b (snd _ _ n) (snd _ _ m) (snd _ _ f), plain_of b), bare_of d, masked_of b)
    expr_suits (comma d b) n m f = ((expr_suits d (fst _ _ n) (fst _ _ m) (fst _ _ f), plain_of d), (expr_suits b (snd _ _ n) (snd _ _ m) (snd _ _ f), plain_of b))

    value_suits : {x x' : Expr} → MarkedValue x x' → Each N (visit own_mention nothing_told tt (AnExpr x) (within_expr own_mention nothing_told x)) → Each M (entered_expr x') → Each F (functions_expr x') → S.SuitsExpr c h x'
    value_suits (unentered d) n m f = (expr_suits d n m f)
    value_suits (entered _ d) n m f = (hd m, (expr_suits d n (tl m) f))

    leaf_suits : {x x' : Expr} → MarkedLeaf x x' → Each N (visit own_mention nothing_told tt (AnExpr x) (within_expr own_mention nothing_told x)) → Each M (entered_expr x') → Each F (functions_expr x') → S.SuitsExpr c h x'
    leaf_suits (a_leaf d) n m f = (value_suits d n m f)
    leaf_suits (grouped d) n m f = (leaf_suits d n m f)

    stmt_suits : {x x' : Stmt} (a : Option Loc) (ls : List Loc) → MarkedStmt x x' → Each N (visit own_mention nothing_told tt (AStmt x) (within_stmt own_mention nothing_told x)) → Each M (entered_stmt a ls x') → Each F (functions_stmt x') → S.SuitsStmt c h x'
    stmt_suits a0 ls (block d) n m f = (stmts_suits d n m f)
    stmt_suits a0 ls (declaration d) n m f = (declarators_suits d n m f)
    stmt_suits a0 ls empty n m f = tt
    stmt_suits a0 ls (expression d) n m f = (expr_suits d n m f, plain_of d)
    stmt_suits a0 ls (if_ d a b) n m f = ((expr_suits d (fst _ _ (fst _ _ n)) (fst _ _ (fst _ _ m)) (fst _ _ (fst _ _ f)), plain_of d), (branched_suits _ _ a (snd _ _ (fst _ _ n)) (snd _ _ (fst _ _ m)) (snd _ _ (fst _ _ f))), (arm_suits b (snd _ _ n) (snd _ _ m) (snd _ _ f)), declares a, arm_declares b)
    stmt_suits a0 ls (do_ _ a d) n m f = ((around_suits _ _ a (fst _ _ n) (fst _ _ m) (fst _ _ f)), (expr_suits d (snd _ _ n) (snd _ _ m) (snd _ _ f), plain_of d))
    stmt_suits a0 ls (while d _ a) n m f = ((expr_suits d (fst _ _ n) (fst _ _ m) (fst _ _ f), plain_of d), (around_suits _ _ a (snd _ _ n) (snd _ _ m) (snd _ _ f)))
    stmt_suits a0 ls (for_ i d b _ a) n m f = ((init_suits i (fst _ _ (fst _ _ (fst _ _ n))) (fst _ _ (fst _ _ (fst _ _ m))) (fst _ _ (fst _ _ (fst _ _ f)))), (maybe_suits d (snd _ _ (fst _ _ (fst _ _ n))) (snd _ _ (fst _ _ (fst _ _ m))) (snd _ _ (fst _ _ (fst _ _ f)))), (maybe_suits b (snd _ _ (fst _ _ n)) (snd _ _ (fst _ _ m)) (snd _ _ (fst _ _ f))), (around_suits _ _ a (snd _ _ n) (snd _ _ m) (snd _ _ f)))
    stmt_suits a0 ls (for_in i d _ a) n m f = ((target_suits i (fst _ _ (fst _ _ n)) (fst _ _ (fst _ _ m)) (fst _ _ (fst _ _ f))), (expr_suits d (snd _ _ (fst _ _ n)) (snd _ _ (fst _ _ m)) (snd _ _ (fst _ _ f)), plain_of d), (around_suits _ _ a (snd _ _ n) (snd _ _ m) (snd _ _ f)))
    stmt_suits a0 ls (for_of i d _ a) n m f = ((target_suits i (fst _ _ (fst _ _ n)) (fst _ _ (fst _ _ m)) (fst _ _ (fst _ _ f))), (expr_suits d (snd _ _ (fst _ _ n)) (snd _ _ (fst _ _ m)) (snd _ _ (fst _ _ f)), plain_of d), (around_suits _ _ a (snd _ _ n) (snd _ _ m) (snd _ _ f)))
    stmt_suits a0 ls continue n m f = tt
    stmt_suits a0 ls break n m f = tt
    stmt_suits a0 ls (return d) n m f = (maybe_suits d n m f)
    stmt_suits a0 ls (switch d b) n m f = ((expr_suits d (fst _ _ n) (fst _ _ m) (fst _ _ f), plain_of d), (cases_suits b (snd _ _ n) (snd _ _ m) (snd _ _ f)))
    stmt_suits a0 ls (labelled d) n m f = ((stmt_suits _ _ d (tl n) m f), unmarked d)
    stmt_suits a0 ls (throw d) n m f = (expr_suits d n m f, plain_of d)
    stmt_suits a0 ls (try_catch d b) n m f = ((stmts_suits d (fst _ _ n) (fst _ _ m) (fst _ _ f)), (catch_suits b (snd _ _ n) (snd _ _ m) (snd _ _ f)))
    stmt_suits a0 ls (try_finally d b) n m f = ((stmts_suits d (fst _ _ n) (fst _ _ m) (fst _ _ f)), (stmts_suits b (snd _ _ n) (snd _ _ m) (snd _ _ f)))
    stmt_suits a0 ls (try_catch_finally d a b) n m f = ((stmts_suits d (fst _ _ (fst _ _ n)) (fst _ _ (fst _ _ m)) (fst _ _ (fst _ _ f))), (catch_suits a (snd _ _ (fst _ _ n)) (snd _ _ (fst _ _ m)) (snd _ _ (fst _ _ f))), (stmts_suits b (snd _ _ n) (snd _ _ m) (snd _ _ f)))
    stmt_suits a0 ls debugger n m f = tt
    stmt_suits a0 ls (function_declaration d) n m f = (hd n, function_suits d (tl n) m f)

    around_suits : {x x' : Stmt} (a : Option Loc) (ls : List Loc) → Around x x' → Each N (visit own_mention nothing_told tt (AStmt x) (within_stmt own_mention nothing_told x)) → Each M (entered_stmt a ls x') → Each F (functions_stmt x') → S.SuitsStmt c h x'
    around_suits a0 ls (bare d) n m f = (stmt_suits _ _ d n m f)
    around_suits a0 ls (around _ n0 b d) n m f = (hd m, around_suits _ _ d n (tl m) f, lexical_of d n0, function_of d n0, flat d)

    branched_suits : {x x' : Stmt} (a : Option Loc) (ls : List Loc) → Branched x x' → Each N (visit own_mention nothing_told tt (AStmt x) (within_stmt own_mention nothing_told x)) → Each M (entered_stmt a ls x') → Each F (functions_stmt x') → S.SuitsStmt c h x'
    branched_suits a0 ls (unbranched _ d) n m f = (around_suits _ _ d n m f)
    branched_suits a0 ls (branched _ n0 d) n m f = (hd m, around_suits _ _ d n (tl m) f, lexical_of d n0, function_of d n0, flat d)

    arm_suits : {x x' : MaybeStmt} → MarkedArm x x' → Each N (within_stmt_if own_mention nothing_told x tt) → Each M (entered_stmt_if x') → Each F (functions_stmt_if x') → S.SuitsStmtIf c h x'
    arm_suits none n m f = tt
    arm_suits (missing _) n m f = hd m
    arm_suits (some d) n m f = (branched_suits _ _ d n m f)

    listed_suits : {x x' : Stmt} (a : Option Loc) (ls : List Loc) → Listed x x' → Each N (visit own_mention nothing_told tt (AStmt x) (within_stmt own_mention nothing_told x)) → Each M (entered_stmt a ls x') → Each F (functions_stmt x') → S.SuitsStmt c h x' × (S.is_marked_block c h x' ≡ false)
    listed_suits a0 ls a_directive n m f = (tt, refl)
    listed_suits a0 ls (a_stmt d) n m f = (around_suits _ _ d n m f, no_marked_block d)

    property_suits : {x x' : Property} → MarkedProperty x x' → Each N (visit own_mention nothing_told tt (AProperty x) (within_property own_mention nothing_told x)) → Each M (entered_property x') → Each F (functions_property x') → S.SuitsProperty c h x'
    property_suits shorthand n m f = hd n
    property_suits (key_value k d) n m f = ((key_suits k (fst _ _ n) (fst _ _ m) (fst _ _ f)), (expr_suits d (snd _ _ n) (snd _ _ m) (snd _ _ f), plain_of d), masked_of d)
    property_suits (method k (make_function d b)) n m f = (key_suits k (fst _ _ n) (fst _ _ m) (fst _ _ (fst _ _ (tl f))), (hd f, params_suits d (fst _ _ (snd _ _ n)) (fst _ _ (snd _ _ m)) (snd _ _ (fst _ _ (tl f))), body_suits b (snd _ _ (snd _ _ n)) (snd _ _ (snd _ _ m)) (snd _ _ (tl f))))

    key_suits : {x x' : PropertyKey} → MarkedKey x x' → Each N (visit own_mention nothing_told tt (APropertyKey x) (within_property_key own_mention nothing_told x)) → Each M (entered_property_key x') → Each F (functions_property_key x') → S.SuitsKey c h x'
    key_suits name_key n m f = tt
    key_suits string_key n m f = tt
    key_suits number_key n m f = tt
    key_suits (computed_key d) n m f = (expr_suits d n m f, plain_of d)

    concise_suits : {x x' : ConciseBody} → MarkedConcise x x' → Each N (within_concise_body own_mention nothing_told x tt) → Each M (entered_concise_body x') → Each F (functions_concise_body x') → S.SuitsConcise c h x'
    concise_suits (concise d) n m f = (expr_suits d n m f)
    concise_suits (concise_one _ d) n m f = (hd m, (expr_suits d n (tl m) f))
    concise_suits (concise_two _ _ d) n m f = (hd m, (hd (tl m), expr_suits d n (tl (tl m)) f))
    concise_suits (braced d) n m f = (body_suits d n m f)

    init_suits : {x x' : ForInit} → MarkedInit x x' → Each N (within_for_init own_mention nothing_told x tt) → Each M (entered_for_init x') → Each F (functions_for_init x') → S.SuitsForInit c h x'
    init_suits no_init n m f = tt
    init_suits (init_declaration d b) n m f = ((declarator_suits d (fst _ _ n) (fst _ _ m) (fst _ _ f)), (declarators_suits b (snd _ _ n) (snd _ _ m) (snd _ _ f)))
    init_suits (init_expression d) n m f = (expr_suits d n m f, plain_of d)

    target_suits : {x x' : ForTarget} → MarkedTarget x x' → Each N (within_for_target own_mention nothing_told x tt) → Each M (entered_for_target x') → Each F (functions_for_target x') → S.SuitsForTarget c h x'
    target_suits target_declaration n m f = bound _ n
    target_suits (target_expression d) n m f = ((expr_suits d n m f, plain_of d), bare_of d)

    part_suits : {x x' : TemplatePart} → MarkedPart x x' → Each N (within_template_part own_mention nothing_told x tt) → Each M (entered_template_part x') → Each F (functions_template_part x') → S.SuitsPart c h x'
    part_suits (a_part d) n m f = (expr_suits d n m f, plain_of d)

    function_suits : {x x' : Function} → MarkedFunction x x' → Each N (within_function own_mention nothing_told x tt) → Each M (entered_function x') → Each F (functions_function x') → S.SuitsFunction c h x'
    function_suits (make_function d b) n m f = (hd f, params_suits d (fst _ _ n) (fst _ _ m) (fst _ _ (tl f)), body_suits b (snd _ _ n) (snd _ _ m) (snd _ _ (tl f)))

    body_suits : {x x' : FunctionBody} → MarkedBody x x' → Each N (within_function_body own_mention nothing_told x tt) → Each M (entered_function_body x') → Each F (functions_function_body x') → S.SuitsBody c h x'
    body_suits (plain_body d) n m f = (stmts_suits d n m f)
    body_suits (entered_body _ d) n m f = (hd m, (stmts_suits d n (tl m) f))

    param_suits : {x x' : Param} → MarkedParam x x' → Each N (within_param own_mention nothing_told x tt) → Each M (entered_param x') → Each F (functions_param x') → S.SuitsParam c h x'
    param_suits plain_param n m f = (hd n, tt)
    param_suits (defaulted w d) n m f = (hd n, (value_suits d (tl n) m f, held_of w d))

    declarator_suits : {x x' : Declarator} → MarkedDeclarator x x' → Each N (within_declarator own_mention nothing_told x tt) → Each M (entered_declarator x') → Each F (functions_declarator x') → S.SuitsDeclarator c h x'
    declarator_suits declarator n m f = (hd n, tt)
    declarator_suits (initialized w d) n m f = (hd n, (value_suits d (tl n) m f, held_of w d))

    case_suits : {x x' : Case} → MarkedCase x x' → Each N (within_case own_mention nothing_told x tt) → Each M (entered_case x') → Each F (functions_case x') → S.SuitsCase c h x'
    case_suits (clause d b) n m f = ((maybe_suits d (fst _ _ n) (fst _ _ m) (fst _ _ f)), (stmts_suits b (snd _ _ n) (snd _ _ m) (snd _ _ f)))
    case_suits (entered_clause _ d b) n m f = (hd m, (maybe_suits d (fst _ _ n) (fst _ _ (tl m)) (fst _ _ f), stmts_suits b (snd _ _ n) (snd _ _ (tl m)) (snd _ _ f)))

    catch_suits : {x x' : Catch} → MarkedCatch x x' → Each N (within_catch own_mention nothing_told x tt) → Each M (entered_catch x') → Each F (functions_catch x') → S.SuitsCatch c h x'
    catch_suits (catching d) n m f = (bound_if _ (fst _ _ n), stmts_suits d (snd _ _ n) m f)

    maybe_suits : {x x' : MaybeExpr} → MarkedMaybe x x' → Each N (within_expr_if own_mention nothing_told x tt) → Each M (entered_expr_if x') → Each F (functions_expr_if x') → S.SuitsExprIf c h x'
    maybe_suits no_value n m f = tt
    maybe_suits (some_value d) n m f = (expr_suits d n m f, plain_of d)

    exprs_suits : {x x' : Exprs} → MarkedExprs x x' → Each N (within_exprs own_mention nothing_told x tt) → Each M (entered_exprs x') → Each F (functions_exprs x') → S.SuitsExprs c h x'
    exprs_suits no_exprs n m f = tt
    exprs_suits (more_exprs d b) n m f = ((expr_suits d (fst _ _ n) (fst _ _ m) (fst _ _ f), plain_of d), (exprs_suits b (snd _ _ n) (snd _ _ m) (snd _ _ f)))

    parts_suits : {x x' : TemplateParts} → MarkedParts x x' → Each N (within_template_parts own_mention nothing_told x tt) → Each M (entered_template_parts x') → Each F (functions_template_parts x') → S.SuitsParts c h x'
    parts_suits no_parts n m f = tt
    parts_suits (more_parts d b) n m f = ((part_suits d (fst _ _ n) (fst _ _ m) (fst _ _ f)), (parts_suits b (snd _ _ n) (snd _ _ m) (snd _ _ f)))

    properties_suits : {x x' : Properties} → MarkedProperties x x' → Each N (within_properties own_mention nothing_told x tt) → Each M (entered_properties x') → Each F (functions_properties x') → S.SuitsProperties c h x'
    properties_suits no_properties n m f = tt
    properties_suits (more_properties d b) n m f = ((property_suits d (fst _ _ n) (fst _ _ m) (fst _ _ f)), (properties_suits b (snd _ _ n) (snd _ _ m) (snd _ _ f)))

    params_suits : {x x' : Params} → MarkedParams x x' → Each N (within_params own_mention nothing_told x tt) → Each M (entered_params x') → Each F (functions_params x') → S.SuitsParams c h x'
    params_suits no_params n m f = tt
    params_suits (more_params d b) n m f = ((param_suits d (fst _ _ n) (fst _ _ m) (fst _ _ f)), (params_suits b (snd _ _ n) (snd _ _ m) (snd _ _ f)))

    pub stmts_suits : {x x' : Stmts} → MarkedStmts x x' → Each N (within_stmts own_mention nothing_told x tt) → Each M (entered_stmts x') → Each F (functions_stmts x') → S.SuitsStmts c h x'
    stmts_suits no_stmts n m f = tt
    stmts_suits (more_stmts d b) n m f = ((listed_suits _ _ d (fst _ _ n) (fst _ _ m) (fst _ _ f)), (stmts_suits b (snd _ _ n) (snd _ _ m) (snd _ _ f)))

    declarators_suits : {x x' : Declarators} → MarkedDeclarators x x' → Each N (within_declarators own_mention nothing_told x tt) → Each M (entered_declarators x') → Each F (functions_declarators x') → S.SuitsDeclarators c h x'
    declarators_suits no_declarators n m f = tt
    declarators_suits (more_declarators d b) n m f = ((declarator_suits d (fst _ _ n) (fst _ _ m) (fst _ _ f)), (declarators_suits b (snd _ _ n) (snd _ _ m) (snd _ _ f)))

    cases_suits : {x x' : Cases} → MarkedCases x x' → Each N (within_cases own_mention nothing_told x tt) → Each M (entered_cases x') → Each F (functions_cases x') → S.SuitsCases c h x'
    cases_suits no_cases n m f = tt
    cases_suits (more_cases d b) n m f = ((case_suits d (fst _ _ n) (fst _ _ m) (fst _ _ f)), (cases_suits b (snd _ _ n) (snd _ _ m) (snd _ _ f)))
