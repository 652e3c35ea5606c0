-- Where no early rule is broken, no name that is referred to and no label is `let`: then what the grammar has can be printed.
use Rattle.std.proofs.Common.{◌≡◌, ℕ, Bool, true, false, List, [], ◌∷◌, ◌++◌, codes, refl, ap, ◌∙◌}
use Rattle.std.specs.Prelude.{◌||◌}
use Rattle.std.specs.Str.{bytes_eq}
use Rattle.std.proofs.lemmas.Bool.{or_parts}
use Rattle.js_terms.specs.declared.place.Pos.{Pos}
use Rattle.js_tree.specs.Plain.{Expr, IdentifierReference, This, NullLiteral, BooleanLiteral, NumericLiteral, StringLiteral, ArrayLiteral, ObjectLiteral, FunctionExpression, ArrowFunction, RegularExpressionLiteral, TemplateLiteral, Parenthesized, NamedMember, ComputedMember, New, Call, PostfixUpdate, PrefixUpdate, Unary, Binary, Logical, Conditional, Assignment, Comma, Entered}
use Rattle.js_tree.specs.Plain.{Stmt, Directive, Block, VariableDeclaration, Empty, Expression, If, DoWhile, While, For, ForIn, ForOf, Continue, Break, Return, Switch, Labelled, Throw, TryCatch, TryFinally, TryCatchFinally, Debugger, FunctionDeclaration, EnteredStmt}
use Rattle.js_tree.specs.Plain.{Property, Shorthand, KeyValue, Method, PropertyKey, NameKey, StringKey, NumberKey, ComputedKey, ConciseBody, ExpressionBody, BlockBody, ForInit, NoInit, InitDeclaration, InitExpression, ForTarget, TargetDeclaration, TargetExpression}
use Rattle.js_tree.specs.Plain.{MakeTemplatePart, Function, MakeFunction, FunctionBody, MakeFunctionBody, EnteredBody, MakeParam, Declarator, MakeDeclarator, MakeCase, EnteredCase, Catch, MakeCatch, Pattern}
use Rattle.js_tree.specs.Plain.{MaybePattern, MaybeExpr, none_expr, some_expr, MaybeStmt, none_stmt, some_stmt, entered_none}
use Rattle.js_tree.specs.Plain.{TemplateParts, no_template_part, more_template_part, Properties, no_property, more_property, Params, no_param, more_param, Exprs, no_expr, more_expr, Stmts, no_stmt, more_stmt, Declarators, no_declarator, more_declarator, Cases, no_case, more_case}
use Rattle.js_walk.specs.Part as part
use Rattle.js_walk.specs.Walk.{visit, within_expr, within_stmt, within_property, within_property_key, within_concise_body, within_for_init, within_for_target, within_function, within_function_body, within_declarator, within_catch, within_pattern_if, within_expr_if, within_stmt_if, within_template_parts, within_properties, within_params, within_exprs, within_stmts, within_declarators, within_cases}
use Rattle.js_reading.specs.Makes.{is_const}
use Rattle.js_scopes.specs.declared.mention.Mention.{Mention}
use Rattle.js_scopes.specs.declared.fault.ScopeFault.{ScopeFault}
use Rattle.js_scopes.specs.Mentions.{own_mention, own_name, own_name_if, asked, nothing_told}
use Rattle.js_scopes.specs.Reserved.{is_among, is_strict, is_reserved, strict_words, refused_names}
use Rattle.js_scopes.specs.Checks.{reserved_if, reserved_by, reserved_among}
use Rattle.js_layout.specs.Printable.{IsName, Refers, IsExpr, AreExprs, AreParts, AreProperties, IsProperty, IsKey, IsFunction, IsBody, IsConcise, AreParams, IsMaybe, AreStmts, IsStmt, IsElse, HasDeclarators, AreDeclarators, IsDeclarator, IsInit, IsTarget, AreCases, IsCatch}
use Rattle.js_layout.proofs.Fine.{FineExpr, FineExprs, FineParts, FineProperties, FineProperty, FineKey, FineFunction, FineBody, FineConcise, FineParams, FineMaybe, FineStmts, FineStmt, FineElse, FineSome, FineDeclarators, FineDeclarator, FineInit, FineTarget, FineCases, FineCatch}

-- ---- lists that are empty

pub left_none : {A : Type 0} (xs ys : List A) → xs ++ ys ≡ [] → xs ≡ []
left_none [] ys h = refl
left_none (x ∷ xs) ys h = absurd cc

right_none : {A : Type 0} (xs ys : List A) → xs ++ ys ≡ [] → ys ≡ []
right_none [] ys h = h
right_none (x ∷ xs) ys h = absurd cc

both_none : {A : Type 0} (xs ys : List A) → xs ≡ [] → ys ≡ [] → xs ++ ys ≡ []
both_none xs ys h k = ap (λ zs. zs ++ ys) h ∙ k

-- ---- mentions of which none is reserved

abbrev pub Calm : Bool → List Mention → Type 0
Calm again xs = reserved_among again xs ≡ []

pub calm_left : (again : Bool) (xs ys : List Mention) → Calm again (xs ++ ys) → Calm again xs
calm_left again [] ys h = refl
calm_left again (x ∷ xs) ys h =
    both_none (reserved_by again x) (reserved_among again xs) (left_none (reserved_by again x) (reserved_among again (xs ++ ys)) h) (calm_left again xs ys (right_none (reserved_by again x) (reserved_among again (xs ++ ys)) h))

pub calm_right : (again : Bool) (xs ys : List Mention) → Calm again (xs ++ ys) → Calm again ys
calm_right again [] ys h = h
calm_right again (x ∷ xs) ys h = calm_right again xs ys (right_none (reserved_by again x) (reserved_among again (xs ++ ys)) h)

-- two parts, and three
calm_two : (again : Bool) (xs ys : List Mention) → Calm again (xs ++ ys) → Calm again xs × Calm again ys
calm_two again xs ys h = (calm_left again xs ys h, calm_right again xs ys h)

calm_three : (again : Bool) (xs ys zs : List Mention) → Calm again ((xs ++ ys) ++ zs) → Calm again xs × Calm again ys × Calm again zs
calm_three again xs ys zs h = let k = calm_two again (xs ++ ys) zs h in let j = calm_two again xs ys k.0 in (j.0, j.1, k.1)

none_reserved : (b : Bool) (at : Pos) → reserved_if b at ≡ [] → b ≡ false
none_reserved true at h = absurd cc
none_reserved false at h = refl

-- ---- `let` is reserved

among_later : (w x : List ℕ) (xs ys : List (List ℕ)) → is_among (xs ++ x ∷ ys) w ≡ false → bytes_eq w x ≡ false
among_later w x [] ys h = (or_parts (bytes_eq w x) (is_among ys w) h).0
among_later w x (y ∷ xs) ys h = among_later w x xs ys (or_parts (bytes_eq w y) (is_among (xs ++ x ∷ ys) w) h).1

no_let : (w : List ℕ) → is_among strict_words w ≡ false → bytes_eq w (codes "let") ≡ false
no_let w h = among_later w (codes "let") (codes "implements" ∷ codes "interface" ∷ []) (codes "package" ∷ codes "private" ∷ codes "protected" ∷ codes "public" ∷ codes "static" ∷ codes "yield" ∷ []) h

no_let_label : (w : List ℕ) → is_strict w ≡ false → bytes_eq w (codes "let") ≡ false
unfolding is_strict
no_let_label w h = no_let w h

no_let_name : (again : Bool) (w : List ℕ) → is_reserved again w ≡ false → bytes_eq w (codes "let") ≡ false
unfolding is_reserved
no_let_name again w h = no_let w (or_parts (is_among strict_words w) (is_among refused_names w) (or_parts (is_among strict_words w || is_among refused_names w) _ h).0).0

refers : (again : Bool) (w : List ℕ) (at : Pos) → IsName w → reserved_if (is_reserved again w) at ++ [] ≡ [] → Refers w
refers again w at name h = record { name = name; free = no_let_name again w (none_reserved (is_reserved again w) at (left_none (reserved_if (is_reserved again w) at) [] h)) }

labels : (w : List ℕ) (at : Pos) (rest : List ScopeFault) → IsName w → reserved_if (is_strict w) at ++ rest ≡ [] → Refers w
labels w at rest name h = record { name = name; free = no_let_label w (none_reserved (is_strict w) at (left_none (reserved_if (is_strict w) at) rest h)) }

-- ---- what nodes mention

abbrev pub in_expr : Expr → List Mention
in_expr x = visit own_mention nothing_told tt (part.AnExpr x) (within_expr own_mention nothing_told x)

abbrev pub in_stmt : Stmt → List Mention
in_stmt x = visit own_mention nothing_told tt (part.AStmt x) (within_stmt own_mention nothing_told x)

abbrev pub in_property : Property → List Mention
in_property x = visit own_mention nothing_told tt (part.AProperty x) (within_property own_mention nothing_told x)

abbrev pub in_property_key : PropertyKey → List Mention
in_property_key x = visit own_mention nothing_told tt (part.APropertyKey x) (within_property_key own_mention nothing_told x)

abbrev pub in_concise_body : ConciseBody → List Mention
in_concise_body x = within_concise_body own_mention nothing_told x tt

abbrev pub in_for_init : ForInit → List Mention
in_for_init x = within_for_init own_mention nothing_told x tt

abbrev pub in_for_target : ForTarget → List Mention
in_for_target x = within_for_target own_mention nothing_told x tt

abbrev pub in_function : Function → List Mention
in_function x = within_function own_mention nothing_told x tt

abbrev pub in_function_body : FunctionBody → List Mention
in_function_body x = within_function_body own_mention nothing_told x tt

abbrev pub in_catch : Catch → List Mention
in_catch x = within_catch own_mention nothing_told x tt

abbrev pub in_declarator : Declarator → List Mention
in_declarator x = within_declarator own_mention nothing_told x tt

abbrev pub in_pattern_if : MaybePattern → List Mention
in_pattern_if x = within_pattern_if own_mention nothing_told x tt

abbrev pub in_expr_if : MaybeExpr → List Mention
in_expr_if x = within_expr_if own_mention nothing_told x tt

abbrev pub in_stmt_if : MaybeStmt → List Mention
in_stmt_if x = within_stmt_if own_mention nothing_told x tt

abbrev pub in_template_parts : TemplateParts → List Mention
in_template_parts x = within_template_parts own_mention nothing_told x tt

abbrev pub in_properties : Properties → List Mention
in_properties x = within_properties own_mention nothing_told x tt

abbrev pub in_params : Params → List Mention
in_params x = within_params own_mention nothing_told x tt

abbrev pub in_exprs : Exprs → List Mention
in_exprs x = within_exprs own_mention nothing_told x tt

abbrev pub in_stmts : Stmts → List Mention
in_stmts x = within_stmts own_mention nothing_told x tt

abbrev pub in_declarators : Declarators → List Mention
in_declarators x = within_declarators own_mention nothing_told x tt

abbrev pub in_cases : Cases → List Mention
in_cases x = within_cases own_mention nothing_told x tt

-- what a pattern mentions itself
abbrev in_pattern : Pattern → List Mention
in_pattern x = own_mention tt (part.APattern x)

-- ---- the tree

-- a directive, or the first statement, and what stands after it
first_stmt : (s : Stmt) (ss : Stmts) → FineStmts true (more_stmt s ss) → (FineStmt s → IsStmt s) → (FineStmts true ss → AreStmts true ss) → (FineStmts false ss → AreStmts false ss) → AreStmts true (more_stmt s ss)
first_stmt (Directive l s) ss h one directed more = (h.0, directed h.1)
first_stmt s ss h one directed more = (one h.0, more h.1)

mutual
  is_expr : (again : Bool) (e : Expr) → FineExpr e → Calm again (in_expr e) → IsExpr e
  is_expr again (IdentifierReference l w) h c = refers again w _ h c
  is_expr again (This l) h c = tt
  is_expr again (NullLiteral l) h c = tt
  is_expr again (BooleanLiteral l b) h c = tt
  is_expr again (NumericLiteral l w) h c = h
  is_expr again (StringLiteral l s) h c = h
  is_expr again (ArrayLiteral l xs) h c = are_exprs again xs h c
  is_expr again (ObjectLiteral l ps) h c = are_properties again ps h c
  is_expr again (FunctionExpression l x f) h c = (h.0, is_function again f h.1 (calm_right again (own_name_if x) (in_function f) c))
  is_expr again (ArrowFunction l n ps body) h c = let k = calm_two again (in_params ps) (in_concise_body body) c in (h.0, are_params again ps h.1 k.0, is_concise again body h.2 k.1)
  is_expr again (RegularExpressionLiteral l body flags) h c = h
  is_expr again (TemplateLiteral l s parts) h c = (h.0, are_parts again parts h.1 c)
  is_expr again (Parenthesized l e) h c = is_expr again e h c
  is_expr again (NamedMember l o w) h c = (is_expr again o h.0 c, h.1)
  is_expr again (ComputedMember l o k) h c = let j = calm_two again (in_expr o) (in_expr k) c in (is_expr again o h.0 j.0, is_expr again k h.1 j.1)
  is_expr again (New l f xs) h c = let k = calm_two again (in_expr f) (in_exprs xs) c in (is_expr again f h.0 k.0, are_exprs again xs h.1 k.1)
  is_expr again (Call l f xs) h c = let k = calm_two again (in_expr f) (in_exprs xs) (calm_right again (asked f xs) (in_expr f ++ in_exprs xs) c) in (is_expr again f h.0 k.0, are_exprs again xs h.1 k.1)
  is_expr again (PostfixUpdate l o e) h c = (is_expr again e h.0 c, h.1)
  is_expr again (PrefixUpdate l o e) h c = (is_expr again e h.0 c, h.1)
  is_expr again (Unary l o e) h c = is_expr again e h c
  is_expr again (Binary l o x y) h c = let k = calm_two again (in_expr x) (in_expr y) c in (is_expr again x h.0 k.0, is_expr again y h.1 k.1)
  is_expr again (Logical l o x y) h c = let k = calm_two again (in_expr x) (in_expr y) c in (is_expr again x h.0 k.0, is_expr again y h.1 k.1)
  is_expr again (Conditional l t x y) h c = let k = calm_three again (in_expr t) (in_expr x) (in_expr y) c in (is_expr again t h.0 k.0, is_expr again x h.1 k.1, is_expr again y h.2 k.2)
  is_expr again (Assignment l o x y) h c = let k = calm_two again (in_expr x) (in_expr y) c in (is_expr again x h.0 k.0, h.1, is_expr again y h.2 k.1)
  is_expr again (Comma l x y) h c = let k = calm_two again (in_expr x) (in_expr y) c in (is_expr again x h.0 k.0, is_expr again y h.1 k.1)
  is_expr again (Entered m e) h c = h

  are_exprs : (again : Bool) (xs : Exprs) → FineExprs xs → Calm again (in_exprs xs) → AreExprs xs
  are_exprs again no_expr h c = tt
  are_exprs again (more_expr x xs) h c = let k = calm_two again (in_expr x) (in_exprs xs) c in (is_expr again x h.0 k.0, are_exprs again xs h.1 k.1)

  are_parts : (again : Bool) (ps : TemplateParts) → FineParts ps → Calm again (in_template_parts ps) → AreParts ps
  are_parts again no_template_part h c = tt
  are_parts again (more_template_part (MakeTemplatePart e s) ps) h c = let k = calm_two again (in_expr e) (in_template_parts ps) c in (is_expr again e h.0 k.0, h.1, are_parts again ps h.2 k.1)

  are_properties : (again : Bool) (ps : Properties) → FineProperties ps → Calm again (in_properties ps) → AreProperties ps
  are_properties again no_property h c = tt
  are_properties again (more_property p ps) h c = let k = calm_two again (in_property p) (in_properties ps) c in (is_property again p h.0 k.0, are_properties again ps h.1 k.1)

  is_property : (again : Bool) (p : Property) → FineProperty p → Calm again (in_property p) → IsProperty p
  is_property again (Shorthand l w) h c = h
  is_property again (KeyValue l k e) h c = let j = calm_two again (in_property_key k) (in_expr e) c in (is_key again k h.0 j.0, h.1, is_expr again e h.2 j.1)
  is_property again (Method l k f) h c = let j = calm_two again (in_property_key k) (in_function f) c in (is_key again k h.0 j.0, is_function again f h.1 j.1)

  is_key : (again : Bool) (k : PropertyKey) → FineKey k → Calm again (in_property_key k) → IsKey k
  is_key again (NameKey w) h c = h
  is_key again (StringKey s) h c = h
  is_key again (NumberKey w) h c = h
  is_key again (ComputedKey e) h c = is_expr again e h c

  is_function : (again : Bool) (f : Function) → FineFunction f → Calm again (in_function f) → IsFunction f
  is_function again (MakeFunction n ps body) h c = let k = calm_two again (in_params ps) (in_function_body body) c in (h.0, are_params again ps h.1 k.0, is_body again body h.2 k.1)

  is_body : (again : Bool) (body : FunctionBody) → FineBody body → Calm again (in_function_body body) → IsBody body
  is_body again (MakeFunctionBody l ss) h c = are_stmts again true ss h c
  is_body again (EnteredBody m body) h c = h

  is_concise : (again : Bool) (body : ConciseBody) → FineConcise body → Calm again (in_concise_body body) → IsConcise body
  is_concise again (ExpressionBody e) h c = is_expr again e h c
  is_concise again (BlockBody body) h c = is_body again body h c

  are_params : (again : Bool) (ps : Params) → FineParams ps → Calm again (in_params ps) → AreParams ps
  are_params again no_param h c = tt
  are_params again (more_param (MakeParam l x e) ps) h c =
      let k = calm_two again (in_pattern x ++ in_expr_if e) (in_params ps) c in (h.0, is_maybe again e h.1 (calm_right again (in_pattern x) (in_expr_if e) k.0), are_params again ps h.2 k.1)

  is_maybe : (again : Bool) (e : MaybeExpr) → FineMaybe e → Calm again (in_expr_if e) → IsMaybe e
  is_maybe again none_expr h c = tt
  is_maybe again (some_expr e) h c = is_expr again e h c

  pub are_stmts : (again directed : Bool) (ss : Stmts) → FineStmts directed ss → Calm again (in_stmts ss) → AreStmts directed ss
  are_stmts again true no_stmt h c = tt
  are_stmts again false no_stmt h c = tt
  are_stmts again true (more_stmt s ss) h c =
      let k = calm_two again (in_stmt s) (in_stmts ss) c in first_stmt s ss h (λ fine. is_stmt again s fine k.0) (λ fine. are_stmts again true ss fine k.1) (λ fine. are_stmts again false ss fine k.1)
  are_stmts again false (more_stmt s ss) h c = let k = calm_two again (in_stmt s) (in_stmts ss) c in (is_stmt again s h.0 k.0, are_stmts again false ss h.1 k.1)

  is_stmt : (again : Bool) (s : Stmt) → FineStmt s → Calm again (in_stmt s) → IsStmt s
  is_stmt again (Directive l s) h c = h
  is_stmt again (Block l ss) h c = are_stmts again false ss h c
  is_stmt again (VariableDeclaration l k ds) h c = has_declarators again (is_const k) ds h c
  is_stmt again (Empty l) h c = tt
  is_stmt again (Expression l e) h c = is_expr again e h c
  is_stmt again (If l t s r) h c = let k = calm_three again (in_expr t) (in_stmt s) (in_stmt_if r) c in (is_expr again t h.0 k.0, is_stmt again s h.1 k.1, h.2, is_else again s r h.3 k.2)
  is_stmt again (DoWhile l s t) h c = let k = calm_two again (in_stmt s) (in_expr t) c in (is_stmt again s h.0 k.0, h.1, is_expr again t h.2 k.1)
  is_stmt again (While l t s) h c = let k = calm_two again (in_expr t) (in_stmt s) c in (is_expr again t h.0 k.0, is_stmt again s h.1 k.1, h.2)
  is_stmt again (For l x y z s) h c =
      let k = calm_three again (in_for_init x ++ in_expr_if y) (in_expr_if z) (in_stmt s) c in
      let j = calm_two again (in_for_init x) (in_expr_if y) k.0 in
      (is_init again x h.0 j.0, is_maybe again y h.1 j.1, is_maybe again z h.2 k.1, is_stmt again s h.3 k.2, h.4)
  is_stmt again (ForIn l x e s) h c = let k = calm_three again (in_for_target x) (in_expr e) (in_stmt s) c in (is_target again x h.0 k.0, is_expr again e h.1 k.1, is_stmt again s h.2 k.2, h.3)
  is_stmt again (ForOf l x e s) h c = let k = calm_three again (in_for_target x) (in_expr e) (in_stmt s) c in (is_target again x h.0 k.0, h.1, is_expr again e h.2 k.1, is_stmt again s h.3 k.2, h.4)
  is_stmt again (Continue l x) h c = h
  is_stmt again (Break l x) h c = h
  is_stmt again (Return l e) h c = is_maybe again e h c
  is_stmt again (Switch l e cs) h c = let k = calm_two again (in_expr e) (in_cases cs) c in (is_expr again e h.0 k.0, are_cases again false cs h.1 k.1)
  is_stmt again (Labelled l x s) h c = (labels x.name _ (reserved_among again (in_stmt s)) h.0 c, is_stmt again s h.1 (right_none (reserved_if (is_strict x.name) _) (reserved_among again (in_stmt s)) c), h.2)
  is_stmt again (Throw l e) h c = is_expr again e h c
  is_stmt again (TryCatch l b t) h c = let k = calm_two again (in_stmts b) (in_catch t) c in (are_stmts again false b h.0 k.0, is_catch again t h.1 k.1)
  is_stmt again (TryFinally l b f) h c = let k = calm_two again (in_stmts b) (in_stmts f) c in (are_stmts again false b h.0 k.0, are_stmts again false f h.1 k.1)
  is_stmt again (TryCatchFinally l b t f) h c = let k = calm_three again (in_stmts b) (in_catch t) (in_stmts f) c in (are_stmts again false b h.0 k.0, is_catch again t h.1 k.1, are_stmts again false f h.2 k.2)
  is_stmt again (Debugger l) h c = tt
  is_stmt again (FunctionDeclaration l x f) h c = (h.0, is_function again f h.1 (calm_right again (own_name x) (in_function f) c))
  is_stmt again (EnteredStmt m s) h c = h

  is_else : (again : Bool) (s : Stmt) (r : MaybeStmt) → FineElse s r → Calm again (in_stmt_if r) → IsElse s r
  is_else again s none_stmt h c = tt
  is_else again s (some_stmt r) h c = (is_stmt again r h.0 c, h.1, h.2)
  is_else again s (entered_none m) h c = h

  has_declarators : (again due : Bool) (ds : Declarators) → FineSome due ds → Calm again (in_declarators ds) → HasDeclarators due ds
  has_declarators again due no_declarator h c = h
  has_declarators again due (more_declarator d ds) h c = let k = calm_two again (in_declarator d) (in_declarators ds) c in (is_declarator again due d h.0 k.0, are_declarators again due ds h.1 k.1)

  are_declarators : (again due : Bool) (ds : Declarators) → FineDeclarators due ds → Calm again (in_declarators ds) → AreDeclarators due ds
  are_declarators again due no_declarator h c = tt
  are_declarators again due (more_declarator d ds) h c = let k = calm_two again (in_declarator d) (in_declarators ds) c in (is_declarator again due d h.0 k.0, are_declarators again due ds h.1 k.1)

  is_declarator : (again due : Bool) (d : Declarator) → FineDeclarator due d → Calm again (in_declarator d) → IsDeclarator due d
  is_declarator again true (MakeDeclarator l x none_expr) h c = h
  is_declarator again true (MakeDeclarator l x (some_expr e)) h c = (h.0, is_expr again e h.1 (calm_right again (in_pattern x) (in_expr e) c))
  is_declarator again false (MakeDeclarator l x e) h c = (h.0, is_maybe again e h.1 (calm_right again (in_pattern x) (in_expr_if e) c))

  is_init : (again : Bool) (x : ForInit) → FineInit x → Calm again (in_for_init x) → IsInit x
  is_init again NoInit h c = tt
  is_init again (InitDeclaration k ds) h c = has_declarators again (is_const k) ds h c
  is_init again (InitExpression e) h c = is_expr again e h c

  is_target : (again : Bool) (x : ForTarget) → FineTarget x → Calm again (in_for_target x) → IsTarget x
  is_target again (TargetDeclaration k x) h c = h
  is_target again (TargetExpression e) h c = (is_expr again e h.0 c, h.1)

  are_cases : (again defaulted : Bool) (cs : Cases) → FineCases defaulted cs → Calm again (in_cases cs) → AreCases defaulted cs
  are_cases again true no_case h c = tt
  are_cases again false no_case h c = tt
  are_cases again true (more_case (MakeCase l none_expr ss) cs) h c = h
  are_cases again false (more_case (MakeCase l none_expr ss) cs) h c = let k = calm_two again (in_stmts ss) (in_cases cs) c in (are_stmts again false ss h.0 k.0, are_cases again true cs h.1 k.1)
  are_cases again true (more_case (MakeCase l (some_expr e) ss) cs) h c = let k = calm_three again (in_expr e) (in_stmts ss) (in_cases cs) c in (is_expr again e h.0 k.0, are_stmts again false ss h.1 k.1, are_cases again true cs h.2 k.2)
  are_cases again false (more_case (MakeCase l (some_expr e) ss) cs) h c = let k = calm_three again (in_expr e) (in_stmts ss) (in_cases cs) c in (is_expr again e h.0 k.0, are_stmts again false ss h.1 k.1, are_cases again false cs h.2 k.2)
  are_cases again true (more_case (EnteredCase m x) cs) h c = h
  are_cases again false (more_case (EnteredCase m x) cs) h c = h

  is_catch : (again : Bool) (x : Catch) → FineCatch x → Calm again (in_catch x) → IsCatch x
  is_catch again (MakeCatch x ss) h c = (h.0, are_stmts again false ss h.1 (calm_right again (in_pattern_if x) (in_stmts ss) c))
