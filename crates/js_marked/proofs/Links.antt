-- Linking puts marks where they may stand, in a tree that can be printed.
use Rattle.std.specs.Prelude.{◌≡◌, ℕ, Bool, true, false, List, Option, Some}
use Rattle.js_tree.specs.declared.hint.Hint.TheVariants as hint
use Rattle.js_terms.specs.declared.place.Loc.{Loc}
use Rattle.js_terms.specs.declared.words.Comment.{Comment}
use Rattle.js_terms.specs.declared.words.Identifier.{Identifier}
use Rattle.js_tree.specs.Plain.{Expr, IdentifierReference, This, NullLiteral, BooleanLiteral, NumericLiteral, StringLiteral, ArrayLiteral, ObjectLiteral, FunctionExpression, ArrowFunction, RegularExpressionLiteral, TemplateLiteral, Parenthesized, NamedMember, ComputedMember, New, Call, PostfixUpdate, PrefixUpdate, Unary, Binary, Logical, Conditional, Assignment, Comma, Entered}
use Rattle.js_tree.specs.Plain.{Stmt, Directive, Block, VariableDeclaration, Empty, Expression, If, DoWhile, While, For, ForIn, ForOf, Continue, Break, Return, Switch, Labelled, Throw, TryCatch, TryFinally, TryCatchFinally, Debugger, FunctionDeclaration, EnteredStmt}
use Rattle.js_tree.specs.Plain.{Property, Shorthand, KeyValue, Method}
use Rattle.js_tree.specs.Plain.{PropertyKey, NameKey, StringKey, NumberKey, ComputedKey}
use Rattle.js_tree.specs.Plain.{ConciseBody, ExpressionBody, BlockBody}
use Rattle.js_tree.specs.Plain.{ForInit, NoInit, InitDeclaration, InitExpression}
use Rattle.js_tree.specs.Plain.{ForTarget, TargetDeclaration, TargetExpression}
use Rattle.js_tree.specs.Plain.{MakeTemplatePart}
use Rattle.js_tree.specs.Plain.{Function, MakeFunction}
use Rattle.js_tree.specs.Plain.{FunctionBody, MakeFunctionBody, EnteredBody}
use Rattle.js_tree.specs.Plain.{MakeParam}
use Rattle.js_tree.specs.Plain.{Declarator, MakeDeclarator}
use Rattle.js_tree.specs.Plain.{MakeCase, EnteredCase}
use Rattle.js_tree.specs.Plain.{Catch, MakeCatch}
use Rattle.js_tree.specs.Plain.{Pattern, BindingIdentifier}
use Rattle.js_tree.specs.Plain.{MaybeExpr, none_expr, some_expr}
use Rattle.js_tree.specs.Plain.{MaybeStmt, none_stmt, some_stmt, entered_none}
use Rattle.js_tree.specs.Plain.{Exprs, no_expr, more_expr}
use Rattle.js_tree.specs.Plain.{TemplateParts, no_template_part, more_template_part}
use Rattle.js_tree.specs.Plain.{Properties, no_property, more_property}
use Rattle.js_tree.specs.Plain.{Params, no_param, more_param}
use Rattle.js_tree.specs.Plain.{Stmts, no_stmt, more_stmt}
use Rattle.js_tree.specs.Plain.{Declarators, no_declarator, more_declarator}
use Rattle.js_tree.specs.Plain.{Cases, no_case, more_case}
use Rattle.js_tree.specs.Plain.{MakeFile}
use Rattle.std.proofs.Common.{refl}
use Rattle.js_reading.specs.Makes.{is_const, is_declaration}
use Rattle.js_layout.specs.Printable.{IsName, IsExpr, AreExprs, AreParts, AreProperties, IsProperty, IsKey, IsFunction, IsBody, IsConcise, AreParams, IsMaybe, AreStmts, IsStmt, IsElse, HasDeclarators, AreDeclarators, IsDeclarator, IsInit, IsTarget, AreCases, IsCatch, Binds, Printable}
use Rattle.js_tree.specs.Linked as linked
use Rattle.js_tree.specs.Linked.{Marking, Numbers, Marks, Uncounted, Counted, enter_expr, enter_stmt, enter_case, enter_arm, enter_leaf, Chain, Alone, Operand, by_path, at_expr, at_stmt, at_stmt_if, at_property, at_param, at_declarator, at_case, at_arm, with_comments, enter_body, enter_concise_body, link_expr, link_stmt, link_property, link_property_key, link_concise_body, link_for_init, link_for_target, link_function, link_function_body, link_param, link_declarator, link_catch, link_expr_if, link_stmt_if, link_exprs, link_template_parts, link_properties, link_params, link_stmts, link_declarators, link_cases}
use Rattle.js_tree.specs.Linked.{mark}
use Rattle.js_marked.specs.MarkedTree.{LinksWell, marked_file, MarkedExpr, identifier, this, null, boolean, numeric, string, array, object, function, arrow, regular, template, parenthesized, named_member, computed_member, new, call, postfix, prefix, unary, binary, logical, conditional, assignment, comma, MarkedValue, unentered, entered, MarkedLeaf, a_leaf, grouped, MarkedStmt, block, declaration, empty, expression, if_, do_, while, for_, for_in, for_of, continue, break, return, switch, labelled, throw, try_catch, try_finally, try_catch_finally, debugger, function_declaration, is_block, Around, bare, around, Branched, unbranched, branched, MarkedArm, none, missing, some, Listed, a_directive, a_stmt, MarkedStmts, no_stmts, more_stmts, MarkedProperty, shorthand, key_value, method, MarkedKey, name_key, string_key, number_key, computed_key, MarkedConcise, concise, concise_one, concise_two, braced, MarkedInit, no_init, init_declaration, init_expression, MarkedTarget, target_declaration, target_expression, a_part, MarkedFunction, make_function, MarkedBody, plain_body, entered_body, plain_param, defaulted, MarkedDeclarator, declarator, initialized, MarkedCase, clause, entered_clause, MarkedCatch, catching, MarkedMaybe, no_value, some_value, MarkedExprs, no_exprs, more_exprs, MarkedParts, no_parts, more_parts, MarkedProperties, no_properties, more_properties, MarkedParams, no_params, more_params, MarkedParam, MarkedDeclarators, no_declarators, more_declarators, MarkedCases, no_cases, more_cases}

-- an arm without the mark of its branch
data PlainArm : MaybeStmt → MaybeStmt → Type 0 where
  no_arm : PlainArm none_stmt none_stmt
  an_arm : {x x' : Stmt} → is_declaration x ≡ false → Around x x' → PlainArm (some_stmt x) (some_stmt x')

-- what enters a construct stands before it
entering : {e t : Expr} (c : Marks) (path : ℕ) → MarkedExpr e t → MarkedValue e (enter_expr c path t)
entering Uncounted path d = unentered d
entering (Counted file kind number) path d = entered (mark file kind number path) d

entering_stmt : {x t : Stmt} (c : Marks) (path : ℕ) → is_declaration x ≡ false → is_block x ≡ false → Around x t → Around x (enter_stmt c path t)
entering_stmt Uncounted path n b d = d
entering_stmt (Counted file kind number) path n b d = around (mark file kind number path) n b d

entering_branch : {x t : Stmt} (c : Marks) (path : ℕ) → is_declaration x ≡ false → Around x t → Branched x (enter_stmt c path t)
entering_branch Uncounted path n d = unbranched n d
entering_branch (Counted file kind number) path n d = branched (mark file kind number path) n d

entering_arm : {x t : MaybeStmt} (c : Marks) (path : ℕ) → PlainArm x t → MarkedArm x (enter_arm c path t)
entering_arm Uncounted path no_arm = none
entering_arm Uncounted path (an_arm n d) = some (unbranched n d)
entering_arm (Counted file kind number) path no_arm = missing (mark file kind number path)
entering_arm (Counted file kind number) path (an_arm n d) = some (branched (mark file kind number path) n d)

entering_body : {l : Option Loc} {x t : Stmts} (c : Marks) → MarkedStmts x t → MarkedBody (MakeFunctionBody l x) (enter_body c (MakeFunctionBody l t))
entering_body Uncounted d = plain_body d
entering_body (Counted file kind number) d = entered_body (mark file kind number 0) d

entering_case : {l : Option Loc} {e e' : MaybeExpr} {x t : Stmts} (c : Marks) (path : ℕ) → MarkedMaybe e e' → MarkedStmts x t →
    MarkedCase (MakeCase l e x) (enter_case c path (MakeCase l e' t))
entering_case Uncounted path a d = clause a d
entering_case (Counted file kind number) path a d = entered_clause (mark file kind number path) a d

entering_concise : {e t : Expr} (f s : Marks) → MarkedExpr e t → MarkedConcise (ExpressionBody e) (ExpressionBody (enter_expr f 0 (enter_expr s 0 t)))
entering_concise Uncounted Uncounted d = concise d
entering_concise Uncounted (Counted file kind number) d = concise_one (mark file kind number 0) d
entering_concise (Counted file kind number) Uncounted d = concise_one (mark file kind number 0) d
entering_concise (Counted file kind number) (Counted file' kind' number') d = concise_two (mark file kind number 0) (mark file' kind' number' 0) d

-- marks go before a label
labelling_bare : {l : Option Loc} {n : Identifier} {x t : Stmt} → MarkedStmt x t → MarkedStmt (Labelled l n x) (linked.labelled l n t)
labelling_bare empty = labelled empty
labelling_bare d = labelled d

labelling : {l : Option Loc} {n : Identifier} {x t : Stmt} → Around x t → Around (Labelled l n x) (linked.labelled l n t)
labelling (bare d) = bare (labelling_bare d)
labelling (around m n b d) = around m refl refl (labelling d)

-- ---- what can be printed

-- a statement, or a directive
abbrev pub Standing : Stmt → Type 0
Standing (Directive l s) = Unit {0}
Standing x = IsStmt x

pub standing : (x : Stmt) → IsStmt x → Standing x
standing (Directive l s) q = tt
standing x q = q

pub first_standing : (b : Bool) (x : Stmt) (xs : Stmts) → AreStmts b (more_stmt x xs) → Standing x
first_standing b (Directive l s) xs q = tt
first_standing true x xs q = q.0
first_standing false x xs q = q.0

pub rest_standing : (b : Bool) (x : Stmt) (xs : Stmts) → AreStmts b (more_stmt x xs) → (c : Bool) × AreStmts c xs
rest_standing true (Directive l s) xs q = (true, q.1)
rest_standing false (Directive l s) xs q = absurd q.0
rest_standing true x xs q = (false, q.1)
rest_standing false x xs q = (false, q.1)

pub has_declarators : (due : Bool) (xs : Declarators) → HasDeclarators due xs → AreDeclarators due xs
has_declarators due no_declarator q = absurd q
has_declarators due (more_declarator x xs) q = q

pub is_initialized : (due : Bool) (l : Option Loc) (p : Pattern) (e : Expr) → IsDeclarator due (MakeDeclarator l p (some_expr e)) → IsExpr e
is_initialized true l p e q = q.1
is_initialized false l p e q = q.1

is_named : (due : Bool) (l p : Option Loc) (w : List ℕ) (e : Expr) → IsDeclarator due (MakeDeclarator l (BindingIdentifier p w) (some_expr e)) → IsName w
is_named true l p w e q = q.0
is_named false l p w e q = q.0

stmt_of : {x t : Stmt} → IsStmt x → Listed x t → Around x t
stmt_of q a_directive = absurd q
stmt_of q (a_stmt a) = a

-- as an operand of a chain, where its leaves are entered
abbrev MarkedBy : Marking → Chain → Expr → Expr → Type 0
MarkedBy m Alone e x = MarkedExpr e x
MarkedBy m (Operand b path) e x = MarkedLeaf e (enter_leaf (by_path m b) path x)

mutual
  marked_expr : (m : Marking) (t : Expr) → IsExpr t → (chain : Chain) (k : Numbers) → MarkedBy m chain t (link_expr m chain t k).tree
  marked_expr m (IdentifierReference loc text) q Alone k = identifier
  marked_expr m (IdentifierReference loc text) q (Operand b path) k = a_leaf (entering (by_path m b) path identifier)
  marked_expr m (This loc) q Alone k = this
  marked_expr m (This loc) q (Operand b path) k = a_leaf (entering (by_path m b) path this)
  marked_expr m (NullLiteral loc) q Alone k = null
  marked_expr m (NullLiteral loc) q (Operand b path) k = a_leaf (entering (by_path m b) path null)
  marked_expr m (BooleanLiteral loc value) q Alone k = boolean
  marked_expr m (BooleanLiteral loc value) q (Operand b path) k = a_leaf (entering (by_path m b) path boolean)
  marked_expr m (NumericLiteral loc text) q Alone k = numeric
  marked_expr m (NumericLiteral loc text) q (Operand b path) k = a_leaf (entering (by_path m b) path numeric)
  marked_expr m (StringLiteral loc spelled) q Alone k = string
  marked_expr m (StringLiteral loc spelled) q (Operand b path) k = a_leaf (entering (by_path m b) path string)
  marked_expr m (ArrayLiteral loc es) q Alone k = array (marked_exprs m es q _)
  marked_expr m (ArrayLiteral loc es) q (Operand b path) k = a_leaf (entering (by_path m b) path (array (marked_exprs m es q _)))
  marked_expr m (ObjectLiteral loc properties) q Alone k = object (marked_properties m properties q _)
  marked_expr m (ObjectLiteral loc properties) q (Operand b path) k = a_leaf (entering (by_path m b) path (object (marked_properties m properties q _)))
  marked_expr m (FunctionExpression loc name f) q Alone k = function (marked_function m f q.1 loc name _)
  marked_expr m (FunctionExpression loc name f) q (Operand b path) k = a_leaf (entering (by_path m b) path (function (marked_function m f q.1 loc name _)))
  marked_expr m (ArrowFunction loc number params body) q Alone k = arrow (marked_params m params q.1 _) (marked_concise_body m body q.2 _ _)
  marked_expr m (ArrowFunction loc number params body) q (Operand b path) k = a_leaf (entering (by_path m b) path (arrow (marked_params m params q.1 _) (marked_concise_body m body q.2 _ _)))
  marked_expr m (RegularExpressionLiteral loc text flags) q Alone k = regular
  marked_expr m (RegularExpressionLiteral loc text flags) q (Operand b path) k = a_leaf (entering (by_path m b) path regular)
  marked_expr m (TemplateLiteral loc spelled parts) q Alone k = template (marked_template_parts m parts q.1 _)
  marked_expr m (TemplateLiteral loc spelled parts) q (Operand b path) k = a_leaf (entering (by_path m b) path (template (marked_template_parts m parts q.1 _)))
  marked_expr m (NamedMember loc e text) q Alone k = named_member (marked_expr (at_expr m e) e q.0 Alone _)
  marked_expr m (NamedMember loc e text) q (Operand b path) k = a_leaf (entering (by_path m b) path (named_member (marked_expr (at_expr m e) e q.0 Alone _)))
  marked_expr m (ComputedMember loc e f) q Alone k = computed_member (marked_expr (at_expr m e) e q.0 Alone _) (marked_expr (at_expr m f) f q.1 Alone _)
  marked_expr m (ComputedMember loc e f) q (Operand b path) k = a_leaf (entering (by_path m b) path (computed_member (marked_expr (at_expr m e) e q.0 Alone _) (marked_expr (at_expr m f) f q.1 Alone _)))
  marked_expr m (New loc e es) q Alone k = new (marked_expr (at_expr m e) e q.0 Alone _) (marked_exprs m es q.1 _)
  marked_expr m (New loc e es) q (Operand b path) k = a_leaf (entering (by_path m b) path (new (marked_expr (at_expr m e) e q.0 Alone _) (marked_exprs m es q.1 _)))
  marked_expr m (Call loc e es) q Alone k = call (marked_expr (at_expr m e) e q.0 Alone _) (marked_exprs m es q.1 _)
  marked_expr m (Call loc e es) q (Operand b path) k = a_leaf (entering (by_path m b) path (call (marked_expr (at_expr m e) e q.0 Alone _) (marked_exprs m es q.1 _)))
  marked_expr m (PostfixUpdate loc operator e) q Alone k = postfix (marked_expr (at_expr m e) e q.0 Alone _)
  marked_expr m (PostfixUpdate loc operator e) q (Operand b path) k = a_leaf (entering (by_path m b) path (postfix (marked_expr (at_expr m e) e q.0 Alone _)))
  marked_expr m (PrefixUpdate loc operator e) q Alone k = prefix (marked_expr (at_expr m e) e q.0 Alone _)
  marked_expr m (PrefixUpdate loc operator e) q (Operand b path) k = a_leaf (entering (by_path m b) path (prefix (marked_expr (at_expr m e) e q.0 Alone _)))
  marked_expr m (Unary loc operator e) q Alone k = unary (marked_expr (at_expr m e) e q Alone _)
  marked_expr m (Unary loc operator e) q (Operand b path) k = a_leaf (entering (by_path m b) path (unary (marked_expr (at_expr m e) e q Alone _)))
  marked_expr m (Binary loc operator e f) q Alone k = binary (marked_expr (at_expr m e) e q.0 Alone _) (marked_expr (at_expr m f) f q.1 Alone _)
  marked_expr m (Binary loc operator e f) q (Operand b path) k = a_leaf (entering (by_path m b) path (binary (marked_expr (at_expr m e) e q.0 Alone _) (marked_expr (at_expr m f) f q.1 Alone _)))
  marked_expr m (Conditional loc e f g) q Alone k = conditional (marked_expr (at_expr m e) e q.0 Alone _) (entering _ _ (marked_expr (at_expr m f) f q.1 Alone _)) (entering _ _ (marked_expr (at_expr m g) g q.2 Alone _))
  marked_expr m (Conditional loc e f g) q (Operand b path) k = a_leaf (entering (by_path m b) path (conditional (marked_expr (at_expr m e) e q.0 Alone _) (entering _ _ (marked_expr (at_expr m f) f q.1 Alone _)) (entering _ _ (marked_expr (at_expr m g) g q.2 Alone _))))
  marked_expr m (Assignment loc operator e f) q Alone k = assignment (marked_expr (at_expr m e) e q.0 Alone _) (marked_expr (at_expr m f) f q.2 Alone _)
  marked_expr m (Assignment loc operator e f) q (Operand b path) k = a_leaf (entering (by_path m b) path (assignment (marked_expr (at_expr m e) e q.0 Alone _) (marked_expr (at_expr m f) f q.2 Alone _)))
  marked_expr m (Comma loc e f) q Alone k = comma (marked_expr (at_expr m e) e q.0 Alone _) (marked_expr (at_expr m f) f q.1 Alone _)
  marked_expr m (Comma loc e f) q (Operand b path) k = a_leaf (entering (by_path m b) path (comma (marked_expr (at_expr m e) e q.0 Alone _) (marked_expr (at_expr m f) f q.1 Alone _)))
  marked_expr m (Parenthesized loc e) q Alone k = parenthesized (marked_expr m e q Alone k)
  marked_expr m (Parenthesized loc e) q (Operand b path) k = grouped (marked_expr m e q (Operand b path) k)
  marked_expr m (Logical loc operator e f) q Alone k = logical (marked_expr (at_expr m e) e q.0 (Operand _ _) _) (marked_expr (at_expr m f) f q.1 (Operand _ _) _)
  marked_expr m (Logical loc operator e f) q (Operand b path) k = a_leaf (unentered (logical (marked_expr (at_expr m e) e q.0 (Operand _ _) _) (marked_expr (at_expr m f) f q.1 (Operand _ _) _)))
  marked_expr m (Entered n e) q chain k = absurd q

  marked_stmt : (m : Marking) (t : Stmt) → Standing t → (k : Numbers) → Listed t (link_stmt m t k).tree
  marked_stmt m (Directive loc spelled) q k = a_directive
  marked_stmt m (Block loc xs) q k = a_stmt (bare (block (marked_stmts m xs false q _)))
  marked_stmt m (VariableDeclaration loc kind declarators) q k = a_stmt (bare (declaration (marked_declarators m declarators (is_const kind) (has_declarators (is_const kind) declarators q) _)))
  marked_stmt m (Empty loc) q k = a_stmt (bare empty)
  marked_stmt m (Expression loc e) q k = a_stmt (entering_stmt _ 0 refl refl (bare (expression (marked_expr (at_expr m e) e q Alone _))))
  marked_stmt m (If loc e x y) q k = a_stmt (entering_stmt _ 0 refl refl (bare (if_ (marked_expr (at_expr m e) e q.0 Alone _) (entering_branch _ 0 q.2 (stmt_of q.1 (marked_stmt (at_stmt (at_arm hint.If m loc) x) x (standing x q.1) _))) (entering_arm _ _ (marked_stmt_if (at_stmt_if (at_arm hint.Else m loc) y) y x q.3 _)))))
  marked_stmt m (DoWhile loc x e) q k = a_stmt (entering_stmt _ 0 refl refl (bare (do_ q.1 (stmt_of q.0 (marked_stmt (at_stmt m x) x (standing x q.0) _)) (marked_expr (at_expr m e) e q.2 Alone _))))
  marked_stmt m (While loc e x) q k = a_stmt (entering_stmt _ 0 refl refl (bare (while (marked_expr (at_expr m e) e q.0 Alone _) q.2 (stmt_of q.1 (marked_stmt (at_stmt m x) x (standing x q.1) _)))))
  marked_stmt m (For loc init e f x) q k = a_stmt (entering_stmt _ 0 refl refl (bare (for_ (marked_for_init m init q.0 _) (marked_expr_if m e q.1 _) (marked_expr_if m f q.2 _) q.4 (stmt_of q.3 (marked_stmt (at_stmt m x) x (standing x q.3) _)))))
  marked_stmt m (ForIn loc target e x) q k = a_stmt (entering_stmt _ 0 refl refl (bare (for_in (marked_for_target m target q.0 _) (marked_expr (at_expr m e) e q.1 Alone _) q.3 (stmt_of q.2 (marked_stmt (at_stmt m x) x (standing x q.2) _)))))
  marked_stmt m (ForOf loc target e x) q k = a_stmt (entering_stmt _ 0 refl refl (bare (for_of (marked_for_target m target q.0 _) (marked_expr (at_expr m e) e q.2 Alone _) q.4 (stmt_of q.3 (marked_stmt (at_stmt m x) x (standing x q.3) _)))))
  marked_stmt m (Continue loc name) q k = a_stmt (entering_stmt _ 0 refl refl (bare (continue)))
  marked_stmt m (Break loc name) q k = a_stmt (entering_stmt _ 0 refl refl (bare (break)))
  marked_stmt m (Return loc e) q k = a_stmt (entering_stmt _ 0 refl refl (bare (return (marked_expr_if m e q _))))
  marked_stmt m (Switch loc e cases) q k = a_stmt (entering_stmt _ 0 refl refl (bare (switch (marked_expr (at_expr m e) e q.0 Alone _) (marked_cases m cases false q.1 _ 0 _))))
  marked_stmt m (Labelled loc name x) q k = a_stmt (entering_stmt _ 0 refl refl (labelling (stmt_of q.1 (marked_stmt (at_stmt m x) x (standing x q.1) _))))
  marked_stmt m (Throw loc e) q k = a_stmt (entering_stmt _ 0 refl refl (bare (throw (marked_expr (at_expr m e) e q Alone _))))
  marked_stmt m (TryCatch loc xs c) q k = a_stmt (entering_stmt _ 0 refl refl (bare (try_catch (marked_stmts m xs false q.0 _) (marked_catch m c q.1 _))))
  marked_stmt m (TryFinally loc xs ys) q k = a_stmt (entering_stmt _ 0 refl refl (bare (try_finally (marked_stmts m xs false q.0 _) (marked_stmts m ys false q.1 _))))
  marked_stmt m (TryCatchFinally loc xs c ys) q k = a_stmt (entering_stmt _ 0 refl refl (bare (try_catch_finally (marked_stmts m xs false q.0 _) (marked_catch m c q.1 _) (marked_stmts m ys false q.2 _))))
  marked_stmt m (Debugger loc) q k = a_stmt (entering_stmt _ 0 refl refl (bare (debugger)))
  marked_stmt m (FunctionDeclaration loc name f) q k = a_stmt (bare (function_declaration (marked_function m f q.1 loc (Some name) _)))
  marked_stmt m (EnteredStmt n x) q k = absurd q

  marked_property : (m : Marking) (t : Property) → IsProperty t → (k : Numbers) → MarkedProperty t (link_property m t k).tree
  marked_property m (Shorthand loc text) q k = shorthand
  marked_property m (KeyValue loc key e) q k = key_value (marked_property_key m key q.0 _) (marked_expr (at_expr m e) e q.2 Alone _)
  marked_property m (Method loc key (MakeFunction number params b)) q k = method (marked_property_key m key q.0 _) (make_function (marked_params m params q.1.1 _) (marked_function_body m b q.1.2 _ _))

  marked_property_key : (m : Marking) (t : PropertyKey) → IsKey t → (k : Numbers) → MarkedKey t (link_property_key m t k).tree
  marked_property_key m (NameKey text) q k = name_key
  marked_property_key m (StringKey spelled) q k = string_key
  marked_property_key m (NumberKey text) q k = number_key
  marked_property_key m (ComputedKey e) q k = computed_key (marked_expr (at_expr m e) e q Alone _)

  marked_concise_body : (m : Marking) (t : ConciseBody) → IsConcise t → (k : Numbers) (c : Marks) → MarkedConcise t (enter_concise_body c (link_concise_body m t k).tree)
  marked_concise_body m (ExpressionBody e) q k c = entering_concise c _ (marked_expr (at_expr m e) e q Alone _)
  marked_concise_body m (BlockBody b) q k c = braced (marked_function_body m b q k c)

  marked_for_init : (m : Marking) (t : ForInit) → IsInit t → (k : Numbers) → MarkedInit t (link_for_init m t k).tree
  marked_for_init m NoInit q k = no_init
  marked_for_init m (InitDeclaration kind no_declarator) q k = absurd q
  marked_for_init m (InitDeclaration kind (more_declarator x xs)) q k = init_declaration (marked_declarator (at_declarator m x) x (is_const kind) q.0 _) (marked_declarators m xs (is_const kind) q.1 _)
  marked_for_init m (InitExpression e) q k = init_expression (marked_expr (at_expr m e) e q Alone _)

  marked_for_target : (m : Marking) (t : ForTarget) → IsTarget t → (k : Numbers) → MarkedTarget t (link_for_target m t k).tree
  marked_for_target m (TargetDeclaration kind pattern) q k = target_declaration
  marked_for_target m (TargetExpression e) q k = target_expression (marked_expr (at_expr m e) e q.0 Alone _)

  marked_function : (m : Marking) (t : Function) → IsFunction t → (loc : Option Loc) (name : Option Identifier) (k : Numbers) → MarkedFunction t (link_function m loc name t k).tree
  marked_function m (MakeFunction number params b) q loc name k = make_function (marked_params m params q.1 _) (marked_function_body m b q.2 _ _)

  marked_function_body : (m : Marking) (t : FunctionBody) → IsBody t → (k : Numbers) (c : Marks) → MarkedBody t (enter_body c (link_function_body m t k).tree)
  marked_function_body m (MakeFunctionBody loc xs) q k c = entering_body c (marked_stmts m xs true q k)
  marked_function_body m (EnteredBody n b) q k c = absurd q

  marked_catch : (m : Marking) (t : Catch) → IsCatch t → (k : Numbers) → MarkedCatch t (link_catch m t k).tree
  marked_catch m (MakeCatch pattern xs) q k = catching (marked_stmts m xs false q.1 k)

  marked_expr_if : (m : Marking) (t : MaybeExpr) → IsMaybe t → (k : Numbers) → MarkedMaybe t (link_expr_if m t k).tree
  marked_expr_if m none_expr q k = no_value
  marked_expr_if m (some_expr e) q k = some_value (marked_expr (at_expr m e) e q Alone _)

  marked_stmt_if : (m : Marking) (t : MaybeStmt) (x : Stmt) → IsElse x t → (k : Numbers) → PlainArm t (link_stmt_if m t k).tree
  marked_stmt_if m none_stmt x q k = no_arm
  marked_stmt_if m (some_stmt y) x q k = an_arm q.1 (stmt_of q.0 (marked_stmt m y (standing y q.0) k))
  marked_stmt_if m (entered_none n) x q k = absurd q

  marked_exprs : (m : Marking) (t : Exprs) → AreExprs t → (k : Numbers) → MarkedExprs t (link_exprs m t k).tree
  marked_exprs m no_expr q k = no_exprs
  marked_exprs m (more_expr x xs) q k = more_exprs (marked_expr (at_expr m x) x q.0 Alone _) (marked_exprs m xs q.1 _)

  marked_template_parts : (m : Marking) (t : TemplateParts) → AreParts t → (k : Numbers) → MarkedParts t (link_template_parts m t k).tree
  marked_template_parts m no_template_part q k = no_parts
  marked_template_parts m (more_template_part (MakeTemplatePart e s) xs) q k = more_parts (a_part (marked_expr (at_expr m e) e q.0 Alone _)) (marked_template_parts m xs q.2 _)

  marked_properties : (m : Marking) (t : Properties) → AreProperties t → (k : Numbers) → MarkedProperties t (link_properties m t k).tree
  marked_properties m no_property q k = no_properties
  marked_properties m (more_property x xs) q k = more_properties (marked_property (at_property m x) x q.0 _) (marked_properties m xs q.1 _)

  marked_param : (m : Marking) (l : Option Loc) (p : Pattern) (e : MaybeExpr) → Binds p → IsMaybe e → (k : Numbers) → MarkedParam (MakeParam l p e) (link_param m (MakeParam l p e) k).tree
  marked_param m l (BindingIdentifier p w) none_expr b q k = plain_param
  marked_param m l (BindingIdentifier p w) (some_expr e) b q k = defaulted b (entering _ _ (marked_expr (at_expr m e) e q Alone _))

  marked_params : (m : Marking) (t : Params) → AreParams t → (k : Numbers) → MarkedParams t (link_params m t k).tree
  marked_params m no_param q k = no_params
  marked_params m (more_param (MakeParam l p e) xs) q k = more_params (marked_param (at_param m (MakeParam l p e)) l p e q.0 q.1 _) (marked_params m xs q.2 _)

  marked_stmts : (m : Marking) (t : Stmts) (b : Bool) → AreStmts b t → (k : Numbers) → MarkedStmts t (link_stmts m t k).tree
  marked_stmts m no_stmt b q k = no_stmts
  marked_stmts m (more_stmt x xs) b q k = more_stmts (marked_stmt (at_stmt m x) x (first_standing b x xs q) _) (marked_stmts m xs (rest_standing b x xs q).0 (rest_standing b x xs q).1 _)

  marked_declarator : (m : Marking) (t : Declarator) (due : Bool) → IsDeclarator due t → (k : Numbers) → MarkedDeclarator t (link_declarator m t k).tree
  marked_declarator m (MakeDeclarator loc (BindingIdentifier p w) none_expr) due q k = declarator
  marked_declarator m (MakeDeclarator loc (BindingIdentifier p w) (some_expr e)) due q k = initialized (is_named due loc p w e q) (entering _ _ (marked_expr (at_expr m e) e (is_initialized due loc (BindingIdentifier p w) e q) Alone _))

  marked_declarators : (m : Marking) (t : Declarators) (due : Bool) → AreDeclarators due t → (k : Numbers) → MarkedDeclarators t (link_declarators m t k).tree
  marked_declarators m no_declarator due q k = no_declarators
  marked_declarators m (more_declarator x xs) due q k = more_declarators (marked_declarator (at_declarator m x) x due q.0 _) (marked_declarators m xs due q.1 _)

  marked_cases : (m : Marking) (t : Cases) (b : Bool) → AreCases b t → (c : Marks) (path : ℕ) (k : Numbers) → MarkedCases t (link_cases m c path t k).tree
  marked_cases m no_case b q c path k = no_cases
  marked_cases m (more_case (MakeCase loc none_expr xs) ys) true q c path k = absurd q
  marked_cases m (more_case (MakeCase loc none_expr xs) ys) false q c path k =
      more_cases (entering_case (by_path (at_case m (MakeCase loc none_expr xs)) c) path no_value (marked_stmts (at_case m (MakeCase loc none_expr xs)) xs false q.0 _)) (marked_cases m ys true q.1 c _ _)
  marked_cases m (more_case (MakeCase loc (some_expr e) xs) ys) true q c path k =
      more_cases (entering_case (by_path (at_case m (MakeCase loc (some_expr e) xs)) c) path (marked_expr_if (at_case m (MakeCase loc (some_expr e) xs)) (some_expr e) q.0 _) (marked_stmts (at_case m (MakeCase loc (some_expr e) xs)) xs false q.1 _)) (marked_cases m ys true q.2 c _ _)
  marked_cases m (more_case (MakeCase loc (some_expr e) xs) ys) false q c path k =
      more_cases (entering_case (by_path (at_case m (MakeCase loc (some_expr e) xs)) c) path (marked_expr_if (at_case m (MakeCase loc (some_expr e) xs)) (some_expr e) q.0 _) (marked_stmts (at_case m (MakeCase loc (some_expr e) xs)) xs false q.1 _)) (marked_cases m ys false q.2 c _ _)
  marked_cases m (more_case (EnteredCase n x) ys) true q c path k = absurd q
  marked_cases m (more_case (EnteredCase n x) ys) false q c path k = absurd q

-- the statements of a file
pub marked_body : (m : Marking) (body : Stmts) (comments : List Comment) → Printable (MakeFile body comments) → (k : Numbers) → MarkedStmts body (link_stmts (with_comments m comments) body k).tree
marked_body m body comments printable k = marked_stmts (with_comments m comments) body true printable.body k

pub links_well : LinksWell
links_well m (MakeFile body comments) k printable = marked_file (marked_body m body comments printable k)
