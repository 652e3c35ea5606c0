-- Linking puts marks only where they may stand.
use Rattle.std.proofs.Common.{ℕ, Option, Some}
use Rattle.js_terms.specs.declared.place.Loc.{Loc}
use Rattle.js_terms.specs.declared.words.Identifier.{Identifier}
use Rattle.js_tree.specs.Plain.{Expr, IdentifierReference, This, NullLiteral, BooleanLiteral, NumericLiteral, StringLiteral, ArrayLiteral, ObjectLiteral, FunctionExpression, ArrowFunction, RegularExpressionLiteral, TemplateLiteral, Parenthesized, NamedMember, ComputedMember, New, Call, PostfixUpdate, PrefixUpdate, Unary, Binary, Logical, Conditional, Assignment, Comma, Entered}
use Rattle.js_tree.specs.Plain.{Stmt, Directive, Block, VariableDeclaration, Empty, Expression, If, DoWhile, While, For, ForIn, ForOf, Continue, Break, Return, Switch, Labelled, Throw, TryCatch, TryFinally, TryCatchFinally, Debugger, FunctionDeclaration, EnteredStmt}
use Rattle.js_tree.specs.Plain.{Property, Shorthand, KeyValue, Method}
use Rattle.js_tree.specs.Plain.{PropertyKey, NameKey, StringKey, NumberKey, ComputedKey}
use Rattle.js_tree.specs.Plain.{ConciseBody, ExpressionBody, BlockBody}
use Rattle.js_tree.specs.Plain.{ForInit, NoInit, InitDeclaration, InitExpression}
use Rattle.js_tree.specs.Plain.{ForTarget, TargetDeclaration, TargetExpression}
use Rattle.js_tree.specs.Plain.{TemplatePart, MakeTemplatePart}
use Rattle.js_tree.specs.Plain.{Function, MakeFunction}
use Rattle.js_tree.specs.Plain.{FunctionBody, MakeFunctionBody, EnteredBody}
use Rattle.js_tree.specs.Plain.{Param, MakeParam}
use Rattle.js_tree.specs.Plain.{Declarator, MakeDeclarator}
use Rattle.js_tree.specs.Plain.{Case, MakeCase, EnteredCase}
use Rattle.js_tree.specs.Plain.{Catch, MakeCatch}
use Rattle.js_tree.specs.Plain.{MaybeExpr, none_expr, some_expr}
use Rattle.js_tree.specs.Plain.{MaybeStmt, none_stmt, some_stmt, entered_none}
use Rattle.js_tree.specs.Plain.{Exprs, no_expr, more_expr}
use Rattle.js_tree.specs.Plain.{TemplateParts, no_template_part, more_template_part}
use Rattle.js_tree.specs.Plain.{Properties, no_property, more_property}
use Rattle.js_tree.specs.Plain.{Params, no_param, more_param}
use Rattle.js_tree.specs.Plain.{Stmts, no_stmt, more_stmt}
use Rattle.js_tree.specs.Plain.{Declarators, no_declarator, more_declarator}
use Rattle.js_tree.specs.Plain.{Cases, no_case, more_case}
use Rattle.js_tree.specs.Plain.{MakeFile}
use Rattle.js_tree.specs.declared.hint.Hint.TheVariants as hint
use Rattle.js_tree.specs.Linked.{Marking, Numbers, Marks, Uncounted, Counted, enter_expr, enter_stmt, enter_case, enter_arm, enter_leaf, Chain, Alone, Operand, by_path, at_expr, at_stmt, at_stmt_if, at_property, at_param, at_declarator, at_case, at_arm, with_comments, enter_body, enter_concise_body, link_expr, link_stmt, link_property, link_property_key, link_concise_body, link_for_init, link_for_target, link_template_part, link_function, link_function_body, link_param, link_declarator, link_case, link_catch, link_expr_if, link_stmt_if, link_exprs, link_template_parts, link_properties, link_params, link_stmts, link_declarators, link_cases}
use Rattle.js_tree.specs.Unmarked.{unmarked_expr, unmarked_stmt, unmarked_property, unmarked_property_key, unmarked_concise_body, unmarked_for_init, unmarked_for_target, unmarked_template_part, unmarked_function, unmarked_function_body, unmarked_param, unmarked_declarator, unmarked_case, unmarked_catch, unmarked_expr_if, unmarked_stmt_if, unmarked_exprs, unmarked_template_parts, unmarked_properties, unmarked_params, unmarked_stmts, unmarked_declarators, unmarked_cases}
use Rattle.js_tree.specs.Linked as linked
use Rattle.js_tree.specs.Linked.{mark}
use Rattle.js_tree.specs.MarkedTree.{LinksMarked, marked_file, MarkedExpr, MarkedValue, MarkedLeaf, MarkedStmt, Around, MarkedArm, MarkedStmts, MarkedProperty, MarkedKey, MarkedConcise, MarkedInit, MarkedTarget, MarkedPart, MarkedFunction, MarkedBody, MarkedParam, MarkedDeclarator, MarkedCase, MarkedCatch, MarkedMaybe, MarkedExprs, MarkedParts, MarkedProperties, MarkedParams, MarkedDeclarators, MarkedCases, identifier, this, null, boolean, numeric, string, array, object, function, arrow, regular, template, parenthesized, named_member, computed_member, new, call, postfix, prefix, unary, binary, logical, conditional, assignment, comma, unentered, entered, a_leaf, grouped, directive, block, declaration, empty, expression, if_, do_, while, for_, for_in, for_of, continue, break, return, switch, labelled, throw, try_catch, try_finally, try_catch_finally, debugger, function_declaration, bare, around, none, missing, some, no_stmts, more_stmts, shorthand, key_value, method, name_key, string_key, number_key, computed_key, concise, concise_one, concise_two, braced, no_init, init_declaration, init_expression, target_declaration, target_expression, a_part, make_function, plain_body, entered_body, plain_param, defaulted, declarator, initialized, clause, entered_clause, catching, no_value, some_value, no_exprs, more_exprs, no_parts, more_parts, no_properties, more_properties, no_params, more_params, no_declarators, more_declarators, no_cases, more_cases}

-- an arm without the mark of its branch
data PlainArm : MaybeStmt → MaybeStmt → Type 0 where
  no_arm : PlainArm none_stmt none_stmt
  an_arm : {x x' : Stmt} → Around x x' → PlainArm (some_stmt x) (some_stmt x')

-- what enters a construct stands before it
entering : {e t : Expr} (c : Marks) (path : ℕ) → MarkedExpr e t → MarkedValue e (enter_expr c path t)
entering Uncounted path d = unentered d
entering (Counted file kind number) path d = entered (mark file kind number path) d

entering_stmt : {x t : Stmt} (c : Marks) (path : ℕ) → Around x t → Around x (enter_stmt c path t)
entering_stmt Uncounted path d = d
entering_stmt (Counted file kind number) path d = around (mark file kind number path) d

entering_arm : {x t : MaybeStmt} (c : Marks) (path : ℕ) → PlainArm x t → MarkedArm x (enter_arm c path t)
entering_arm Uncounted path no_arm = none
entering_arm Uncounted path (an_arm d) = some d
entering_arm (Counted file kind number) path no_arm = missing (mark file kind number path)
entering_arm (Counted file kind number) path (an_arm d) = some (around (mark file kind number path) d)

entering_body : {l : Option Loc} {x t : Stmts} (c : Marks) → MarkedStmts x t → MarkedBody (MakeFunctionBody l x) (enter_body c (MakeFunctionBody l t))
entering_body Uncounted d = plain_body d
entering_body (Counted file kind number) d = entered_body (mark file kind number 0) d

entering_case : {l : Option Loc} {e e' : MaybeExpr} {x t : Stmts} (c : Marks) (path : ℕ) → MarkedMaybe e e' → MarkedStmts x t →
    MarkedCase (MakeCase l e x) (enter_case c path (MakeCase l e' t))
entering_case Uncounted path a d = clause a d
entering_case (Counted file kind number) path a d = entered_clause (mark file kind number path) a d

entering_concise : {e t : Expr} (f s : Marks) → MarkedExpr e t → MarkedConcise (ExpressionBody e) (ExpressionBody (enter_expr f 0 (enter_expr s 0 t)))
entering_concise Uncounted Uncounted d = concise d
entering_concise Uncounted (Counted file kind number) d = concise_one (mark file kind number 0) d
entering_concise (Counted file kind number) Uncounted d = concise_one (mark file kind number 0) d
entering_concise (Counted file kind number) (Counted file' kind' number') d = concise_two (mark file kind number 0) (mark file' kind' number' 0) d

-- marks go before a label
labelling_bare : {l : Option Loc} {n : Identifier} {x t : Stmt} → MarkedStmt x t → MarkedStmt (Labelled l n x) (linked.labelled l n t)
labelling_bare empty = labelled empty
labelling_bare d = labelled d

labelling : {l : Option Loc} {n : Identifier} {x t : Stmt} → Around x t → Around (Labelled l n x) (linked.labelled l n t)
labelling (bare d) = bare (labelling_bare d)
labelling (around m d) = around m (labelling d)

-- as an operand of a chain, where its leaves are entered
abbrev MarkedBy : Marking → Chain → Expr → Expr → Type 0
MarkedBy m Alone e x = MarkedExpr e x
MarkedBy m (Operand b path) e x = MarkedLeaf e (enter_leaf (by_path m b) path x)

mutual
  marked_expr : (m : Marking) (t : Expr) (chain : Chain) (k : Numbers) → MarkedBy m chain (unmarked_expr t) (link_expr m chain t k).tree
  marked_expr m (NamedMember loc e text) Alone k = named_member (marked_expr (at_expr m e) e Alone _)
  marked_expr m (NamedMember loc e text) (Operand b path) k = a_leaf (entering (by_path m b) path (named_member (marked_expr (at_expr m e) e Alone _)))
  marked_expr m (ComputedMember loc e f) Alone k = computed_member (marked_expr (at_expr m e) e Alone _) (marked_expr (at_expr m f) f Alone _)
  marked_expr m (ComputedMember loc e f) (Operand b path) k = a_leaf (entering (by_path m b) path (computed_member (marked_expr (at_expr m e) e Alone _) (marked_expr (at_expr m f) f Alone _)))
  marked_expr m (New loc e es) Alone k = new (marked_expr (at_expr m e) e Alone _) (marked_exprs m es _)
  marked_expr m (New loc e es) (Operand b path) k = a_leaf (entering (by_path m b) path (new (marked_expr (at_expr m e) e Alone _) (marked_exprs m es _)))
  marked_expr m (Call loc e es) Alone k = call (marked_expr (at_expr m e) e Alone _) (marked_exprs m es _)
  marked_expr m (Call loc e es) (Operand b path) k = a_leaf (entering (by_path m b) path (call (marked_expr (at_expr m e) e Alone _) (marked_exprs m es _)))
  marked_expr m (PostfixUpdate loc operator e) Alone k = postfix (marked_expr (at_expr m e) e Alone _)
  marked_expr m (PostfixUpdate loc operator e) (Operand b path) k = a_leaf (entering (by_path m b) path (postfix (marked_expr (at_expr m e) e Alone _)))
  marked_expr m (PrefixUpdate loc operator e) Alone k = prefix (marked_expr (at_expr m e) e Alone _)
  marked_expr m (PrefixUpdate loc operator e) (Operand b path) k = a_leaf (entering (by_path m b) path (prefix (marked_expr (at_expr m e) e Alone _)))
  marked_expr m (Unary loc operator e) Alone k = unary (marked_expr (at_expr m e) e Alone _)
  marked_expr m (Unary loc operator e) (Operand b path) k = a_leaf (entering (by_path m b) path (unary (marked_expr (at_expr m e) e Alone _)))
  marked_expr m (Binary loc operator e f) Alone k = binary (marked_expr (at_expr m e) e Alone _) (marked_expr (at_expr m f) f Alone _)
  marked_expr m (Binary loc operator e f) (Operand b path) k = a_leaf (entering (by_path m b) path (binary (marked_expr (at_expr m e) e Alone _) (marked_expr (at_expr m f) f Alone _)))
  marked_expr m (Assignment loc operator e f) Alone k = assignment (marked_expr (at_expr m e) e Alone _) (marked_expr (at_expr m f) f Alone _)
  marked_expr m (Assignment loc operator e f) (Operand b path) k = a_leaf (entering (by_path m b) path (assignment (marked_expr (at_expr m e) e Alone _) (marked_expr (at_expr m f) f Alone _)))
  marked_expr m (Comma loc e f) Alone k = comma (marked_expr (at_expr m e) e Alone _) (marked_expr (at_expr m f) f Alone _)
  marked_expr m (Comma loc e f) (Operand b path) k = a_leaf (entering (by_path m b) path (comma (marked_expr (at_expr m e) e Alone _) (marked_expr (at_expr m f) f Alone _)))
  marked_expr m (IdentifierReference loc text) Alone k = identifier
  marked_expr m (IdentifierReference loc text) (Operand b path) k = a_leaf (entering (by_path m b) path (identifier))
  marked_expr m (This loc) Alone k = this
  marked_expr m (This loc) (Operand b path) k = a_leaf (entering (by_path m b) path (this))
  marked_expr m (NullLiteral loc) Alone k = null
  marked_expr m (NullLiteral loc) (Operand b path) k = a_leaf (entering (by_path m b) path (null))
  marked_expr m (BooleanLiteral loc value) Alone k = boolean
  marked_expr m (BooleanLiteral loc value) (Operand b path) k = a_leaf (entering (by_path m b) path (boolean))
  marked_expr m (NumericLiteral loc text) Alone k = numeric
  marked_expr m (NumericLiteral loc text) (Operand b path) k = a_leaf (entering (by_path m b) path (numeric))
  marked_expr m (StringLiteral loc spelled) Alone k = string
  marked_expr m (StringLiteral loc spelled) (Operand b path) k = a_leaf (entering (by_path m b) path (string))
  marked_expr m (RegularExpressionLiteral loc text flags) Alone k = regular
  marked_expr m (RegularExpressionLiteral loc text flags) (Operand b path) k = a_leaf (entering (by_path m b) path (regular))
  marked_expr m (ArrayLiteral loc es) Alone k = array (marked_exprs m es _)
  marked_expr m (ArrayLiteral loc es) (Operand b path) k = a_leaf (entering (by_path m b) path (array (marked_exprs m es _)))
  marked_expr m (ObjectLiteral loc properties) Alone k = object (marked_properties m properties _)
  marked_expr m (ObjectLiteral loc properties) (Operand b path) k = a_leaf (entering (by_path m b) path (object (marked_properties m properties _)))
  marked_expr m (FunctionExpression loc name f) Alone k = function (marked_function m f loc name _)
  marked_expr m (FunctionExpression loc name f) (Operand b path) k = a_leaf (entering (by_path m b) path (function (marked_function m f loc name _)))
  marked_expr m (TemplateLiteral loc spelled parts) Alone k = template (marked_template_parts m parts _)
  marked_expr m (TemplateLiteral loc spelled parts) (Operand b path) k = a_leaf (entering (by_path m b) path (template (marked_template_parts m parts _)))
  marked_expr m (ArrowFunction loc number params body) Alone k = arrow (marked_params m params _) (marked_concise_body m body _ _)
  marked_expr m (ArrowFunction loc number params body) (Operand b path) k = a_leaf (entering (by_path m b) path (arrow (marked_params m params _) (marked_concise_body m body _ _)))
  marked_expr m (Conditional loc e f g) Alone k = conditional (marked_expr (at_expr m e) e Alone _) (entering _ _ (marked_expr (at_expr m f) f Alone _)) (entering _ _ (marked_expr (at_expr m g) g Alone _))
  marked_expr m (Conditional loc e f g) (Operand b path) k = a_leaf (entering (by_path m b) path (conditional (marked_expr (at_expr m e) e Alone _) (entering _ _ (marked_expr (at_expr m f) f Alone _)) (entering _ _ (marked_expr (at_expr m g) g Alone _))))
  marked_expr m (Parenthesized loc e) Alone k = parenthesized (marked_expr m e Alone k)
  marked_expr m (Parenthesized loc e) (Operand b path) k = grouped (marked_expr m e (Operand b path) k)
  marked_expr m (Logical loc operator e f) Alone k = logical (marked_expr (at_expr m e) e (Operand _ _) _) (marked_expr (at_expr m f) f (Operand _ _) _)
  marked_expr m (Logical loc operator e f) (Operand b path) k = a_leaf (unentered (logical (marked_expr (at_expr m e) e (Operand _ _) _) (marked_expr (at_expr m f) f (Operand _ _) _)))
  marked_expr m (Entered n e) Alone k = marked_expr m e Alone k
  marked_expr m (Entered n e) (Operand b path) k = marked_expr m e (Operand b path) k

  marked_stmt : (m : Marking) (t : Stmt) (k : Numbers) → Around (unmarked_stmt t) (link_stmt m t k).tree
  marked_stmt m (Directive loc spelled) k = bare directive
  marked_stmt m (Block loc xs) k = bare (block (marked_stmts m xs _))
  marked_stmt m (VariableDeclaration loc kind declarators) k = bare (declaration (marked_declarators m declarators _))
  marked_stmt m (Empty loc) k = bare empty
  marked_stmt m (Expression loc e) k = entering_stmt _ 0 (bare (expression (marked_expr (at_expr m e) e Alone _)))
  marked_stmt m (If loc e x y) k = entering_stmt _ 0 (bare (if_ (marked_expr (at_expr m e) e Alone _) (entering_stmt _ 0 (marked_stmt (at_stmt (at_arm hint.If m loc) x) x _)) (entering_arm _ _ (marked_stmt_if (at_stmt_if (at_arm hint.Else m loc) y) y _))))
  marked_stmt m (DoWhile loc x e) k = entering_stmt _ 0 (bare (do_ (marked_stmt (at_stmt m x) x _) (marked_expr (at_expr m e) e Alone _)))
  marked_stmt m (While loc e x) k = entering_stmt _ 0 (bare (while (marked_expr (at_expr m e) e Alone _) (marked_stmt (at_stmt m x) x _)))
  marked_stmt m (For loc init e f x) k = entering_stmt _ 0 (bare (for_ (marked_for_init m init _) (marked_expr_if m e _) (marked_expr_if m f _) (marked_stmt (at_stmt m x) x _)))
  marked_stmt m (ForIn loc target e x) k = entering_stmt _ 0 (bare (for_in (marked_for_target m target _) (marked_expr (at_expr m e) e Alone _) (marked_stmt (at_stmt m x) x _)))
  marked_stmt m (ForOf loc target e x) k = entering_stmt _ 0 (bare (for_of (marked_for_target m target _) (marked_expr (at_expr m e) e Alone _) (marked_stmt (at_stmt m x) x _)))
  marked_stmt m (Continue loc name) k = entering_stmt _ 0 (bare (continue))
  marked_stmt m (Break loc name) k = entering_stmt _ 0 (bare (break))
  marked_stmt m (Return loc e) k = entering_stmt _ 0 (bare (return (marked_expr_if m e _)))
  marked_stmt m (Switch loc e cases) k = entering_stmt _ 0 (bare (switch (marked_expr (at_expr m e) e Alone _) (marked_cases m cases _ 0 _)))
  marked_stmt m (Labelled loc name x) k = entering_stmt _ 0 (labelling (marked_stmt (at_stmt m x) x _))
  marked_stmt m (Throw loc e) k = entering_stmt _ 0 (bare (throw (marked_expr (at_expr m e) e Alone _)))
  marked_stmt m (TryCatch loc xs c) k = entering_stmt _ 0 (bare (try_catch (marked_stmts m xs _) (marked_catch m c _)))
  marked_stmt m (TryFinally loc xs ys) k = entering_stmt _ 0 (bare (try_finally (marked_stmts m xs _) (marked_stmts m ys _)))
  marked_stmt m (TryCatchFinally loc xs c ys) k = entering_stmt _ 0 (bare (try_catch_finally (marked_stmts m xs _) (marked_catch m c _) (marked_stmts m ys _)))
  marked_stmt m (Debugger loc) k = entering_stmt _ 0 (bare (debugger))
  marked_stmt m (FunctionDeclaration loc name f) k = bare (function_declaration (marked_function m f loc (Some name) _))
  marked_stmt m (EnteredStmt n x) k = marked_stmt m x k

  marked_property : (m : Marking) (t : Property) (k : Numbers) → MarkedProperty (unmarked_property t) (link_property m t k).tree
  marked_property m (Shorthand loc text) k = shorthand
  marked_property m (KeyValue loc key e) k = key_value (marked_property_key m key _) (marked_expr (at_expr m e) e Alone _)
  marked_property m (Method loc key (MakeFunction number params b)) k = method (marked_property_key m key _) (make_function (marked_params m params _) (marked_function_body m b _ _))

  marked_property_key : (m : Marking) (t : PropertyKey) (k : Numbers) → MarkedKey (unmarked_property_key t) (link_property_key m t k).tree
  marked_property_key m (NameKey text) k = name_key
  marked_property_key m (StringKey spelled) k = string_key
  marked_property_key m (NumberKey text) k = number_key
  marked_property_key m (ComputedKey e) k = computed_key (marked_expr (at_expr m e) e Alone _)

  marked_concise_body : (m : Marking) (t : ConciseBody) (k : Numbers) (c : Marks) → MarkedConcise (unmarked_concise_body t) (enter_concise_body c (link_concise_body m t k).tree)
  marked_concise_body m (ExpressionBody e) k c = entering_concise c _ (marked_expr (at_expr m e) e Alone _)
  marked_concise_body m (BlockBody b) k c = braced (marked_function_body m b k c)

  marked_for_init : (m : Marking) (t : ForInit) (k : Numbers) → MarkedInit (unmarked_for_init t) (link_for_init m t k).tree
  marked_for_init m NoInit k = no_init
  marked_for_init m (InitDeclaration kind xs) k = init_declaration (marked_declarators m xs k)
  marked_for_init m (InitExpression e) k = init_expression (marked_expr (at_expr m e) e Alone _)

  marked_for_target : (m : Marking) (t : ForTarget) (k : Numbers) → MarkedTarget (unmarked_for_target t) (link_for_target m t k).tree
  marked_for_target m (TargetDeclaration kind pattern) k = target_declaration
  marked_for_target m (TargetExpression e) k = target_expression (marked_expr (at_expr m e) e Alone _)

  marked_template_part : (m : Marking) (t : TemplatePart) (k : Numbers) → MarkedPart (unmarked_template_part t) (link_template_part m t k).tree
  marked_template_part m (MakeTemplatePart e spelled) k = a_part (marked_expr (at_expr m e) e Alone _)

  marked_function : (m : Marking) (t : Function) (loc : Option Loc) (name : Option Identifier) (k : Numbers) → MarkedFunction (unmarked_function t) (link_function m loc name t k).tree
  marked_function m (MakeFunction number params b) loc name k = make_function (marked_params m params _) (marked_function_body m b _ _)

  marked_function_body : (m : Marking) (t : FunctionBody) (k : Numbers) (c : Marks) → MarkedBody (unmarked_function_body t) (enter_body c (link_function_body m t k).tree)
  marked_function_body m (MakeFunctionBody loc xs) k c = entering_body c (marked_stmts m xs k)
  marked_function_body m (EnteredBody n b) k c = marked_function_body m b k c

  marked_param : (m : Marking) (t : Param) (k : Numbers) → MarkedParam (unmarked_param t) (link_param m t k).tree
  marked_param m (MakeParam loc pattern none_expr) k = plain_param
  marked_param m (MakeParam loc pattern (some_expr e)) k = defaulted (entering _ _ (marked_expr (at_expr m e) e Alone _))

  marked_declarator : (m : Marking) (t : Declarator) (k : Numbers) → MarkedDeclarator (unmarked_declarator t) (link_declarator m t k).tree
  marked_declarator m (MakeDeclarator loc pattern none_expr) k = declarator
  marked_declarator m (MakeDeclarator loc pattern (some_expr e)) k = initialized (entering _ _ (marked_expr (at_expr m e) e Alone _))

  marked_case : (m : Marking) (t : Case) (k : Numbers) (c : Marks) (path : ℕ) → MarkedCase (unmarked_case t) (enter_case c path (link_case m t k).tree)
  marked_case m (MakeCase loc e xs) k c path = entering_case c path (marked_expr_if m e _) (marked_stmts m xs _)
  marked_case m (EnteredCase n x) k c path = marked_case m x k c path

  marked_catch : (m : Marking) (t : Catch) (k : Numbers) → MarkedCatch (unmarked_catch t) (link_catch m t k).tree
  marked_catch m (MakeCatch pattern xs) k = catching (marked_stmts m xs k)

  marked_expr_if : (m : Marking) (t : MaybeExpr) (k : Numbers) → MarkedMaybe (unmarked_expr_if t) (link_expr_if m t k).tree
  marked_expr_if m none_expr k = no_value
  marked_expr_if m (some_expr e) k = some_value (marked_expr (at_expr m e) e Alone _)

  marked_stmt_if : (m : Marking) (t : MaybeStmt) (k : Numbers) → PlainArm (unmarked_stmt_if t) (link_stmt_if m t k).tree
  marked_stmt_if m none_stmt k = no_arm
  marked_stmt_if m (some_stmt x) k = an_arm (marked_stmt m x k)
  marked_stmt_if m (entered_none n) k = no_arm

  marked_exprs : (m : Marking) (t : Exprs) (k : Numbers) → MarkedExprs (unmarked_exprs t) (link_exprs m t k).tree
  marked_exprs m no_expr k = no_exprs
  marked_exprs m (more_expr x xs) k = more_exprs (marked_expr (at_expr m x) x Alone _) (marked_exprs m xs _)

  marked_template_parts : (m : Marking) (t : TemplateParts) (k : Numbers) → MarkedParts (unmarked_template_parts t) (link_template_parts m t k).tree
  marked_template_parts m no_template_part k = no_parts
  marked_template_parts m (more_template_part x xs) k = more_parts (marked_template_part m x _) (marked_template_parts m xs _)

  marked_properties : (m : Marking) (t : Properties) (k : Numbers) → MarkedProperties (unmarked_properties t) (link_properties m t k).tree
  marked_properties m no_property k = no_properties
  marked_properties m (more_property x xs) k = more_properties (marked_property (at_property m x) x _) (marked_properties m xs _)

  marked_params : (m : Marking) (t : Params) (k : Numbers) → MarkedParams (unmarked_params t) (link_params m t k).tree
  marked_params m no_param k = no_params
  marked_params m (more_param x xs) k = more_params (marked_param (at_param m x) x _) (marked_params m xs _)

  marked_stmts : (m : Marking) (t : Stmts) (k : Numbers) → MarkedStmts (unmarked_stmts t) (link_stmts m t k).tree
  marked_stmts m no_stmt k = no_stmts
  marked_stmts m (more_stmt x xs) k = more_stmts (marked_stmt (at_stmt m x) x _) (marked_stmts m xs _)

  marked_declarators : (m : Marking) (t : Declarators) (k : Numbers) → MarkedDeclarators (unmarked_declarators t) (link_declarators m t k).tree
  marked_declarators m no_declarator k = no_declarators
  marked_declarators m (more_declarator x xs) k = more_declarators (marked_declarator (at_declarator m x) x _) (marked_declarators m xs _)

  marked_cases : (m : Marking) (t : Cases) (c : Marks) (path : ℕ) (k : Numbers) → MarkedCases (unmarked_cases t) (link_cases m c path t k).tree
  marked_cases m no_case c path k = no_cases
  marked_cases m (more_case x xs) c path k = more_cases (marked_case (at_case m x) x k (by_path (at_case m x) c) path) (marked_cases m xs c _ _)

pub links_marked : LinksMarked
links_marked m (MakeFile body comments) k = marked_file (marked_stmts (with_comments m comments) body k)
