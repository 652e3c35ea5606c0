-- Each form without places and parentheses does what it does with them.
use Rattle.std.proofs.Common.{◌≡◌, ℕ, Bool, true, false, List, [], ◌∷◌, ◌++◌, Option, Some, None, refl, sym, ap, subst, if◌then◌else◌, ℤ, is_some, Ok, Err}
use Rattle.std.specs.Prelude.{slice_get, option_map}
use Rattle.std.specs.Str.{bytes_eq}
use Rattle.std.proofs.lemmas.Option.{slice_get-map}
use Rattle.js_tree.specs.Plain as P
use Rattle.js_tree.specs.Plain.{Expr, IdentifierReference, This, NullLiteral, BooleanLiteral, NumericLiteral, StringLiteral, ArrayLiteral, ObjectLiteral, FunctionExpression, ArrowFunction, RegularExpressionLiteral, TemplateLiteral, Parenthesized, NamedMember, ComputedMember, New, PostfixUpdate, PrefixUpdate, Unary, Binary, Logical, Conditional, Assignment, Comma, Entered, Exprs, no_expr, more_expr, MaybeExpr, none_expr, some_expr}
use Rattle.js_tree.specs.Plain.{TemplateParts, no_template_part, more_template_part, MakeTemplatePart, Properties, no_property, more_property, Property, Shorthand, KeyValue, Method, PropertyKey, NameKey, StringKey, NumberKey, ComputedKey}
use Rattle.js_tree.specs.Plain.{Stmt, Directive, Block, VariableDeclaration, Empty, Expression, If, DoWhile, While, For, ForIn, ForOf, Switch, Labelled, TryCatch, TryFinally, TryCatchFinally, Debugger, FunctionDeclaration, EnteredStmt, Stmts, no_stmt, more_stmt, MaybeStmt, none_stmt, some_stmt, entered_none}
use Rattle.js_tree.specs.Plain.{Declarator, MakeDeclarator, Declarators, no_declarator, more_declarator, ForInit, NoInit, InitDeclaration, InitExpression, ForTarget, TargetDeclaration, TargetExpression, Cases, no_case, more_case, Case, MakeCase, EnteredCase, Catch, MakeCatch, MaybePattern, none_pattern, some_pattern, BindingIdentifier}
use Rattle.js_tree.specs.Plain.{FunctionBody, MakeFunctionBody, EnteredBody, ConciseBody, ExpressionBody, BlockBody, MakeFunction, Params, no_param, more_param, MakeParam, MakeFile}
use Rattle.js_tree.specs.Same.{bare_pattern_if, bare_expr, bare_exprs, bare_expr_if, bare_property, bare_properties, bare_property_key, bare_template_parts, bare_concise_body, bare_function_body, bare_params, bare_stmt, bare_stmts, bare_stmt_if, bare_declarator, bare_declarators, bare_for_init, bare_for_target, bare_case, bare_cases, bare_catch, bare_file}
use Rattle.js_terms.specs.declared.operators.BinaryOperator.{BinaryOperator}
use Rattle.js_terms.specs.declared.operators.BinaryOperator.TheVariants as binary_operator
use Rattle.js_terms.specs.declared.operators.LogicalOperator.{LogicalOperator}
use Rattle.js_terms.specs.declared.operators.LogicalOperator.TheVariants as logical
use Rattle.js_terms.specs.declared.operators.UnaryOperator.{UnaryOperator}
use Rattle.js_terms.specs.declared.operators.UnaryOperator.TheVariants as unary_operator
use Rattle.js_terms.specs.declared.operators.UpdateOperator.{UpdateOperator}
use Rattle.js_terms.specs.declared.operators.VariableKind.{VariableKind}
use Rattle.js_terms.specs.declared.operators.VariableKind.TheVariants as variable
use Rattle.js_tree.specs.Codes.{Code, Ordinary, OfMethod, Arrow}
use Rattle.js_terms.specs.Mark.{Mark}
use Rattle.js_value.specs.declared.value.Value.{Value}
use Rattle.js_value.specs.declared.value.Value.TheVariants as value
use Rattle.js_value.specs.declared.value.Primitive.TheVariants as primitive
use Rattle.js_value.specs.declared.deed.Complaint.{Complaint}
use Rattle.js_value.specs.declared.deed.Complaint.TheVariants as complaint
use Rattle.js_value.specs.declared.deed.Halt.{Halt}
use Rattle.js_value.specs.declared.deed.Halt.TheVariants as halt
use Rattle.js_value.specs.Conversions.{Answer, Gives, Refuses, Numbered, Is, NoNumber, to_number, to_boolean}
use Rattle.js_value.specs.Operators.{binary}
use Rattle.js_value.specs.UnaryOperators.{unary, stepped}
use Rattle.js_value.specs.Equality.{strictly_equal}
use Rattle.js_value.specs.State.{ObjectKind, BuiltIn, Written, Binding, Heap, Store}
use Rattle.js_value.specs.Objects.{kind_of, next_object}
use Rattle.js_value.specs.Environments.{Cell, lookup, value_of, name_answer, Assign, Done, Dead, Constant, next_environment, copy_environment}
use Rattle.js_value.specs.Running.{on_heap, cached}
use Rattle.js_value.specs.Requiring.{required_path}
use Rattle.js_value.specs.Arguments.{Or, seen, to_text}
use Rattle.js_value.specs.Copying.{Copied}
use Rattle.js_value.specs.Host.{Native, Answers, Throws, Refuses as RefusesKind, Writes, Calls, Requires, native_of}
use Rattle.js_value.specs.Realm.{object, text, undefined}
use Rattle.js_meaning.specs.declared.outcome.Completion.{Completion}
use Rattle.js_meaning.specs.declared.outcome.Completion.TheVariants as completion
use Rattle.js_meaning.specs.Effects as E
use Rattle.js_meaning.specs.Effects.{Entry, Comp, ret, act, enter, handle}
use Rattle.js_value.specs.Functions.{name_units, constructs as constructing, is_handing}
use Rattle.js_value.specs.Iterations.{Iteration, Keys, Taken, keys_of, next_of}
use Rattle.js_value.specs.Numbers.{literal_number}
use Rattle.js_meaning.specs.Scopes as S
use Rattle.js_meaning.specs.Program as program
use Rattle.js_meaning.specs.Program.{Source, Sources}
use Rattle.js_meaning.specs.Meaning as M
use Rattle.js_meaning.specs.Meaning.{Reference}
use Rattle.js_meaning.specs.Files as F
use Rattle.js_alike.proofs.Codes.{code_same, constructs_same, path_same}
use Rattle.js_alike.proofs.Scopes.{block_scope_same, braced_scope_same, concise_scope_same, body_scope_same, cases_scope_same, init_scope_same, target_scope_same, fresh_same, params_same, defaults_same, shape_same}
use Rattle.js_alike.proofs.Steps.{SameEntry, calls, news, natives, do_turns, while_turns, for_turns, in_passes, of_passes, constructs, files, Alike, rets, refuses, acts, enters, handle_alike, value_alike, then_alike}
use Rattle.js_alike.specs.Alike.{bare_code, bare_source, bare}

-- the name that an expression is, and whether a clause is `default`
name_same : (e : Expr) → M.name_of (bare_expr e) ≡ M.name_of e
name_same (Parenthesized loc e) = name_same e
name_same (Entered mark e) = name_same e
name_same _ = refl

default_same : (x : Case) → M.is_default (bare_case x) ≡ M.is_default x
default_same (MakeCase loc none_expr xs) = refl
default_same (MakeCase loc (some_expr e) xs) = refl
default_same (EnteredCase mark x) = default_same x

module _ (p : Sources) where
  abbrev q : Sources
  q = bare p

  -- Primitives

  heap_alike : {f g : Heap → Heap} {i j : Store → Comp} → ((h : Heap) → g h ≡ f h) → ((s : Store) → Alike (i s) (j s)) → Alike (act (on_heap f) i) (act (on_heap g) j)
  heap_alike e h = acts (λ s. ap (λ (heap : Heap). record s { heap = heap }) (e s.heap)) h

  looks_alike : {i j : Store → Comp} → ((s : Store) → Alike (i s) (j s)) → Alike (M.looks i) (M.looks j)
  looks_alike h = acts (λ s. refl) h

  makes_alike : {f g : Heap → Heap} → ((h : Heap) → g h ≡ f h) → Alike (M.makes f) (M.makes g)
  makes_alike e = heap_alike e (λ s. rets _)

  within_alike : {f g : Heap → Heap} {i j : ℕ → Comp} → ((h : Heap) → g h ≡ f h) → ((e : ℕ) → Alike (i e) (j e)) → Alike (M.within f i) (M.within g j)
  within_alike e h = heap_alike e (λ s. h (next_environment s.heap))

  if_alike : (b : Bool) {a c d e : Comp} → Alike a c → Alike d e → Alike (if b then a else d) (if b then c else e)
  if_alike true h k = h
  if_alike false h k = k

  alike_done : Alike M.done M.done
  alike_done = rets _

  alike_complain : (c : Complaint) → Alike (M.complain c) (M.complain c)
  alike_complain c = acts (λ s. refl) (λ s. rets _)

  alike_halted : (h : Halt) → Alike (M.halted h) (M.halted h)
  alike_halted (halt.Throw c) = alike_complain c
  alike_halted (halt.Refuse k) = refuses k
  alike_halted halt.Memory = refuses _

  or_halt_alike : {A : Type 0} (o : Or A) {f g : A → Comp} → ((a : A) → Alike (f a) (g a)) → Alike (M.or_halt o f) (M.or_halt o g)
  or_halt_alike (Ok a) h = h a
  or_halt_alike (Err b) h = alike_halted b

  alike_unless : (o : Option Halt) {c d : Comp} → Alike c d → Alike (M.unless_halted o c) (M.unless_halted o d)
  alike_unless None h = h
  alike_unless (Some b) h = alike_halted b

  alike_changes : (change : Heap → Copied) (v : Value) → Alike (M.changes change v) (M.changes change v)
  alike_changes change v = acts (λ s. refl) (λ s. alike_unless (change s.heap).halt (rets _))

  alike_entering : (mark : Mark) {c d : Comp} → Alike c d → Alike (M.entering mark c) (M.entering mark d)
  alike_entering mark h = enters (constructs mark) (value_alike (λ v. h))

  alike_held : (v : Option Value) → Alike (elim v [ None ↦ M.complain complaint.NotInitialised | Some w ↦ M.give w ])
      (elim v [ None ↦ M.complain complaint.NotInitialised | Some w ↦ M.give w ])
  alike_held None = alike_complain complaint.NotInitialised
  alike_held (Some v) = rets _

  alike_value_in : (h : Heap) (cell : Option Cell) → Alike (M.value_in h cell) (M.value_in h cell)
  alike_value_in h None = alike_complain complaint.NotDefined
  alike_value_in h (Some cell) = alike_held (value_of h cell)

  alike_read : (name : List ℕ) (env : ℕ) → Alike (M.read name env) (M.read name env)
  alike_read name env = looks_alike (λ s. alike_value_in s.heap (lookup s.heap env name))

  alike_assigns : (v : Value) (a : Option Assign) → Alike (M.assigns v a) (M.assigns v a)
  alike_assigns v None = alike_complain complaint.NotDefined
  alike_assigns v (Some Done) = rets _
  alike_assigns v (Some Dead) = alike_complain complaint.NotInitialised
  alike_assigns v (Some Constant) = alike_complain complaint.NotAssignable

  alike_write : (name : List ℕ) (env : ℕ) (v : Value) → Alike (M.write name env v) (M.write name env v)
  alike_write name env v = heap_alike (λ h. refl) (λ s. alike_assigns v (name_answer s.heap env name))

  alike_initializes : (v : Value) (cell : Option Cell) → Alike (M.initializes v cell) (M.initializes v cell)
  alike_initializes v None = alike_complain complaint.NotDefined
  alike_initializes v (Some cell) = rets _

  alike_initialize : (name : List ℕ) (env : ℕ) (v : Value) → Alike (M.initialize name env v) (M.initialize name env v)
  alike_initialize name env v = heap_alike (λ h. refl) (λ s. alike_initializes v (lookup s.heap env name))

  alike_member : (base key : Value) → Alike (M.get_member_of base key) (M.get_member_of base key)
  alike_member base key = looks_alike (λ s. or_halt_alike _ (λ v. rets _))

  alike_get : (env : ℕ) (r : Reference) → Alike (M.get_value env r) (M.get_value env r)
  alike_get env (M.Name name) = alike_read name env
  alike_get env (M.Member base key) = alike_member base key

  alike_put : (env : ℕ) (r : Reference) (v : Value) → Alike (M.put_value env r v) (M.put_value env r v)
  alike_put env (M.Name name) v = alike_write name env v
  alike_put env (M.Member base key) v = alike_changes _ v

  alike_deleted : (r : Reference) → Alike (M.deleted r) (M.deleted r)
  alike_deleted (M.Name name) = rets _
  alike_deleted (M.Member base key) = alike_changes _ _

  alike_answered : (a : Answer) → Alike (M.answered a) (M.answered a)
  alike_answered (Gives v) = rets _
  alike_answered (Refuses k) = refuses _

  alike_numbered : (n : Numbered) {f g : ℤ → Comp} → ((m : ℤ) → Alike (f m) (g m)) → Alike (M.numbered n f) (M.numbered n g)
  alike_numbered (Is n) h = h n
  alike_numbered (NoNumber k) h = refuses k

  alike_number : (n : Option ℤ) → Alike (M.number n) (M.number n)
  alike_number None = refuses _
  alike_number (Some n) = rets _

  alike_number_key : (n : Option ℤ) {f g : List ℕ → Comp} → ((k : List ℕ) → Alike (f k) (g k)) → Alike (M.number_key n f) (M.number_key n g)
  alike_number_key None h = refuses _
  alike_number_key (Some n) h = h _

  alike_operated : (operator : BinaryOperator) (v w : Value) → Alike (M.operated operator v w) (M.operated operator v w)
  alike_operated binary_operator.In v w = looks_alike (λ s. or_halt_alike _ (λ b. rets _))
  alike_operated binary_operator.InstanceOf v w = looks_alike (λ s. or_halt_alike _ (λ b. rets _))
  alike_operated operator v w = alike_answered (binary operator v w)

  alike_unary : (operator : UnaryOperator) (v : Value) → Alike (M.operated_unary operator v) (M.operated_unary operator v)
  alike_unary unary_operator.Delete v = rets _
  alike_unary unary_operator.Void v = rets _
  alike_unary unary_operator.TypeOf v = looks_alike (λ s. rets _)
  alike_unary operator v = alike_answered (unary operator v)

  alike_if_there : (name : Option (List ℕ)) (env : ℕ) {c d : Comp} → Alike c d → Alike (M.if_there name env c) (M.if_there name env d)
  alike_if_there None env h = h
  alike_if_there (Some name) env h = looks_alike (λ s. if_alike (is_some (lookup s.heap env name)) h (rets _))

  alike_choose : {a b c d : Comp} → Alike a c → Alike b d → (v : Value) → Alike (M.choose a b v) (M.choose c d v)
  alike_choose h k v = if_alike (to_boolean v) h k

  alike_chosen : (operator : LogicalOperator) {c d : Comp} → Alike c d → (v : Value) → Alike (M.chosen operator c v) (M.chosen operator d v)
  alike_chosen logical.And h v = alike_choose h (rets _) v
  alike_chosen logical.Or h v = alike_choose (rets _) h v
  alike_chosen logical.Coalesce h v = if_alike (M.is_nullish v) h (rets _)

  alike_updates : (prefix : Bool) (operator : UpdateOperator) (env : ℕ) (r : Reference) → Alike (M.updates prefix operator env r) (M.updates prefix operator env r)
  alike_updates prefix operator env r = then_alike (alike_get env r) (λ v.
      alike_numbered (to_number v) (λ old. alike_numbered (stepped operator old) (λ new.
      then_alike (alike_put env r (M.number_value new)) (λ w. rets _))))

  alike_closure : (code : Code) (name : List ℕ) (env : ℕ) → Alike (M.closure code name env) (M.closure (bare_code code) name env)
  alike_closure code name env = makes_alike (λ h. ap (λ shape. S.closed shape name env h) (shape_same code))

  alike_own_named : (name : List ℕ) (code : Code) (env : ℕ) → Alike (M.own_named name code env) (M.own_named name (bare_code code) env)
  alike_own_named name code env = within_alike (λ h. refl) (λ e. then_alike {f = M.initialize name e} {g = M.initialize name e} (alike_closure code (name_units name) e) (alike_initialize name e))

  abbrev AlikeIf : Option Comp → Option Comp → Type 0
  AlikeIf None None = Unit {0}
  AlikeIf (Some c) (Some d) = Alike c d
  AlikeIf _ _ = ⊥

  alike_map : (mark : Mark) (o r : Option Comp) → AlikeIf o r → AlikeIf (option_map (M.entering mark) o) (option_map (M.entering mark) r)
  alike_map mark None None h = tt
  alike_map mark (Some c) (Some d) h = alike_entering mark h
  alike_map mark None (Some d) h = absurd h
  alike_map mark (Some c) None h = absurd h

  alike_named_function : (e : Expr) (name : List ℕ) (env : ℕ) → AlikeIf (M.named_function e name env) (M.named_function (bare_expr e) name env)
  alike_named_function (FunctionExpression loc None function) name env = alike_closure (Ordinary function) name env
  alike_named_function (ArrowFunction loc number params body) name env = alike_closure (Arrow number params body) name env
  alike_named_function (Parenthesized loc e) name env = alike_named_function e name env
  alike_named_function (Entered mark e) name env = alike_map mark (M.named_function e name env) (M.named_function (bare_expr e) name env) (alike_named_function e name env)
  alike_named_function _ name env = tt

  alike_either : (o r : Option Comp) {c d : Comp} → AlikeIf o r → Alike c d → Alike (elim o [ None ↦ c | Some a ↦ a ]) (elim r [ None ↦ d | Some a ↦ a ])
  alike_either None None h k = k
  alike_either (Some a) (Some b) h k = h
  alike_either None (Some b) h k = absurd h
  alike_either (Some a) None h k = absurd h

  alike_named : (name : List ℕ) (e : Expr) (env : ℕ) {c d : Comp} → Alike c d → Alike (M.named name e env c) (M.named name (bare_expr e) env d)
  alike_named name e env h = alike_either (M.named_function e name env) (M.named_function (bare_expr e) name env) (alike_named_function e name env) h

  alike_named_for : (r : Reference) (e : Expr) (env : ℕ) {c d : Comp} → Alike c d → Alike (M.named_for r e env c) (M.named_for r (bare_expr e) env d)
  alike_named_for (M.Name name) e env h = alike_named _ e env h
  alike_named_for (M.Member base key) e env h = h

  alike_assigning : (operator : Option BinaryOperator) (r : Reference) (e : Expr) (env : ℕ) {c d : Comp} → Alike c d →
      Alike (M.assigning operator r e env c) (M.assigning operator r (bare_expr e) env d)
  alike_assigning None r e env h = then_alike (alike_named_for r e env h) (alike_put env r)
  alike_assigning (Some operator) r e env h = then_alike (alike_get env r) (λ v. then_alike h (λ w. then_alike (alike_operated operator v w) (alike_put env r)))

  alike_call_kind : (kind : ObjectKind) (callee : ℕ) (this : Value) (arguments : List Value) →
      Alike (M.call_kind kind callee this arguments) (M.call_kind kind callee this arguments)
  alike_call_kind (BuiltIn function) callee this arguments = enters (natives callee function None this arguments) (λ c. rets c)
  alike_call_kind (Written code env) callee this arguments = enters (calls code env this arguments) (λ c. rets c)
  alike_call_kind _ callee this arguments = alike_complain complaint.NotAFunction

  alike_call : (f this : Value) (arguments : List Value) → Alike (M.call f this arguments) (M.call f this arguments)
  alike_call (value.Primitive v) this arguments = alike_complain complaint.NotAFunction
  alike_call (value.Object o) this arguments = looks_alike (λ s. alike_call_kind (kind_of s.heap o.index) o.index this arguments)

  alike_construct_kind : (kind : ObjectKind) (maker : ℕ) (arguments : List Value) →
      Alike (M.construct_kind p kind maker arguments) (M.construct_kind q kind maker arguments)
  alike_construct_kind (BuiltIn function) maker arguments =
      if_alike (constructing function) (enters (natives maker function (Some maker) undefined arguments) (λ c. rets c)) (alike_complain complaint.NotAConstructor)
  alike_construct_kind (Written code env) maker arguments =
      subst (λ b. Alike (M.construct_kind p (Written code env) maker arguments) (if b then enter (E.New maker code env arguments) ret else M.complain complaint.NotAConstructor))
      (sym (constructs_same p code))
      (if_alike (program.constructs p code) (enters (news maker code env arguments) (λ c. rets c)) (alike_complain complaint.NotAConstructor))
  alike_construct_kind _ maker arguments = alike_complain complaint.NotAConstructor

  alike_construct : (f : Value) (arguments : List Value) → Alike (M.construct p f arguments) (M.construct q f arguments)
  alike_construct (value.Primitive v) arguments = alike_complain complaint.NotAConstructor
  alike_construct (value.Object o) arguments = looks_alike (λ s. alike_construct_kind (kind_of s.heap o.index) o.index arguments)

  alike_after_turn : (labels : List (List ℕ)) {c d : Comp} → Alike c d → (o : Completion) → Alike (M.after_turn labels c o) (M.after_turn labels d o)
  alike_after_turn labels h (completion.Normal v) = h
  alike_after_turn labels h (completion.Break None) = alike_done
  alike_after_turn labels h (completion.Break (Some label)) = rets _
  alike_after_turn labels h (completion.Continue None) = h
  alike_after_turn labels h (completion.Continue (Some label)) = if_alike (S.stands_in label labels) h (rets _)
  alike_after_turn labels h (completion.Return v) = rets _
  alike_after_turn labels h (completion.Throw v) = rets _

  alike_after_label : (label : List ℕ) (o : Completion) → Alike (M.after_label label o) (M.after_label label o)
  alike_after_label label (completion.Break (Some other)) = if_alike (bytes_eq other label) (rets _) (rets _)
  alike_after_label label (completion.Break None) = rets _
  alike_after_label label (completion.Normal v) = rets _
  alike_after_label label (completion.Continue l) = rets _
  alike_after_label label (completion.Return v) = rets _
  alike_after_label label (completion.Throw v) = rets _

  alike_after_switch : (o : Completion) → Alike (M.after_switch o) (M.after_switch o)
  alike_after_switch (completion.Break None) = rets _
  alike_after_switch (completion.Break (Some label)) = rets _
  alike_after_switch (completion.Normal v) = rets _
  alike_after_switch (completion.Continue l) = rets _
  alike_after_switch (completion.Return v) = rets _
  alike_after_switch (completion.Throw v) = rets _

  alike_caught : {f g : Value → Comp} → ((v : Value) → Alike (f v) (g v)) → (o : Completion) → Alike (M.caught f o) (M.caught g o)
  alike_caught h (completion.Throw v) = h v
  alike_caught h (completion.Break label) = rets _
  alike_caught h (completion.Normal v) = rets _
  alike_caught h (completion.Continue l) = rets _
  alike_caught h (completion.Return v) = rets _

  alike_finally : {c d : Comp} → Alike c d → (o : Completion) → Alike (M.finally c o) (M.finally d o)
  alike_finally h o = then_alike h (λ v. rets _)

  alike_in_names : (names : List Binding) (functions : List S.Hoisted) (env : ℕ) {i j : ℕ → Comp} → ((e : ℕ) → Alike (i e) (j e)) →
      Alike (M.in_names names functions env i) (M.in_names names functions env j)
  alike_in_names [] functions env h = h env
  alike_in_names (b ∷ bs) functions env h = within_alike (λ i. refl) h

  -- in the same scope
  alike_in_scope : (scope other : S.Scope) → other ≡ scope → (env : ℕ) {i j : ℕ → Comp} → ((e : ℕ) → Alike (i e) (j e)) →
      Alike (M.in_scope scope env i) (M.in_scope other env j)
  alike_in_scope scope other same env {i = i} {j = j} h =
      subst (λ o. Alike (M.in_scope scope env i) (M.in_scope o env j)) (sym same) (alike_in_names _ scope.functions env h)

  alike_in_block : (xs : Stmts) (env : ℕ) {i j : ℕ → Comp} → ((e : ℕ) → Alike (i e) (j e)) →
      Alike (M.in_scope (S.block_scope xs) env i) (M.in_scope (S.block_scope (bare_stmts xs)) env j)
  alike_in_block xs env h = alike_in_scope _ _ (block_scope_same xs) env h

  alike_in_catch : (pattern : MaybePattern) (v : Value) (env : ℕ) {i j : ℕ → Comp} → ((e : ℕ) → Alike (i e) (j e)) →
      Alike (M.in_catch pattern v env i) (M.in_catch (bare_pattern_if pattern) v env j)
  alike_in_catch none_pattern v env h = h env
  alike_in_catch (some_pattern (BindingIdentifier place name)) v env h = within_alike (λ i. refl) h

  alike_anew : (start : ForInit) (env : ℕ) {i j : ℕ → Comp} → ((e : ℕ) → Alike (i e) (j e)) → Alike (M.anew start env i) (M.anew (bare_for_init start) env j)
  alike_anew start env {i = i} {j = j} h =
      subst (λ b. Alike (M.anew start env i) (if b then M.within (copy_environment env) j else j env)) (sym (fresh_same start))
      (if_alike (S.is_fresh start) (within_alike (λ k. refl) h) (h env))

  alike_binds : (kind : VariableKind) (name : List ℕ) (env : ℕ) (v : Value) → Alike (M.binds kind name env v) (M.binds kind name env v)
  alike_binds variable.Var name env v = alike_write name env v
  alike_binds variable.Let name env v = alike_initialize name env v
  alike_binds variable.Const name env v = alike_initialize name env v

  alike_binds_none : (kind : VariableKind) (name : List ℕ) (env : ℕ) → Alike (M.binds_none kind name env) (M.binds_none kind name env)
  alike_binds_none variable.Var name env = rets _
  alike_binds_none variable.Let name env = alike_initialize name env _
  alike_binds_none variable.Const name env = alike_initialize name env _

  alike_defines : (o : ℕ) (key : List ℕ) (v : Value) → Alike (M.defines o key v) (M.defines o key v)
  alike_defines o key v = acts (λ s. refl) (λ s. rets _)

  -- The forms

  mutual
    alike_expr : (e : Expr) (env : ℕ) → Alike (M.comp_expr p e env) (M.comp_expr q (bare_expr e) env)
    alike_expr (IdentifierReference loc name) env = alike_read name env
    alike_expr (This loc) env = alike_read _ env
    alike_expr (NullLiteral loc) env = rets _
    alike_expr (BooleanLiteral loc b) env = rets _
    alike_expr (NumericLiteral loc spelling) env = alike_number (literal_number spelling)
    alike_expr (StringLiteral loc spelled) env = rets _
    alike_expr (ArrayLiteral loc items) env = alike_values items env [] (λ vs. makes_alike (λ h. refl))
    alike_expr (ObjectLiteral loc properties) env = heap_alike (λ h. refl) (λ s. alike_properties properties env (next_object s.heap))
    alike_expr (FunctionExpression loc None function) env = alike_closure (Ordinary function) [] env
    alike_expr (FunctionExpression loc (Some name) function) env = alike_own_named name.name (Ordinary function) env
    alike_expr (ArrowFunction loc number params body) env = alike_closure (Arrow number params body) [] env
    alike_expr (RegularExpressionLiteral loc pattern flags) env = makes_alike (λ h. refl)
    alike_expr (TemplateLiteral loc spelled parts) env = alike_template_parts parts env spelled.units
    alike_expr (Parenthesized loc e) env = alike_expr e env
    alike_expr (NamedMember loc e name) env = then_alike (alike_expr e env) (λ base. alike_member base (text (name_units name)))
    alike_expr (ComputedMember loc e f) env = then_alike (alike_expr e env) (λ base. then_alike (alike_expr f env) (alike_member base))
    alike_expr (New loc e arguments) env = then_alike (alike_expr e env) (λ f. alike_values arguments env [] (alike_construct f))
    alike_expr (P.Call loc e arguments) env = alike_reference e env
        (then_alike (alike_expr e env) (λ f. alike_values arguments env [] (alike_call f undefined)))
        (λ r. then_alike (alike_get env r) (λ f. alike_values arguments env [] (alike_call f (M.this_of r))))
    alike_expr (PostfixUpdate loc operator e) env = alike_reference e env (alike_complain complaint.NotAssignable) (alike_updates false operator env)
    alike_expr (PrefixUpdate loc operator e) env = alike_reference e env (alike_complain complaint.NotAssignable) (alike_updates true operator env)
    alike_expr (Unary loc unary_operator.Delete e) env = alike_reference e env (then_alike (alike_expr e env) (alike_unary unary_operator.Delete)) alike_deleted
    alike_expr (Unary loc unary_operator.TypeOf e) env =
        subst (λ name. Alike (M.comp_expr p (Unary loc unary_operator.TypeOf e) env) (M.if_there name env (handle (M.comp_expr q (bare_expr e) env) (M.with_value (M.operated_unary unary_operator.TypeOf)))))
        (sym (name_same e)) (alike_if_there (M.name_of e) env (then_alike (alike_expr e env) (alike_unary unary_operator.TypeOf)))
    alike_expr (Unary loc operator e) env = then_alike (alike_expr e env) (alike_unary operator)
    alike_expr (Binary loc operator e f) env = then_alike (alike_expr e env) (λ v. then_alike (alike_expr f env) (alike_operated operator v))
    alike_expr (Logical loc operator e f) env = then_alike (alike_expr e env) (alike_chosen operator (alike_expr f env))
    alike_expr (Conditional loc e f g) env = then_alike (alike_expr e env) (alike_choose (alike_expr f env) (alike_expr g env))
    alike_expr (Assignment loc operator target e) env = alike_reference target env (alike_complain complaint.NotAssignable)
        (λ r. alike_assigning (M.operator_of operator) r e env (alike_expr e env))
    alike_expr (Comma loc e f) env = then_alike (alike_expr e env) (λ v. alike_expr f env)
    alike_expr (Entered mark e) env = alike_entering mark (alike_expr e env)

    alike_reference : (e : Expr) (env : ℕ) {c d : Comp} {f g : Reference → Comp} → Alike c d → ((r : Reference) → Alike (f r) (g r)) →
        Alike (M.comp_reference p e env c f) (M.comp_reference q (bare_expr e) env d g)
    alike_reference (IdentifierReference loc name) env h k = k _
    alike_reference (NamedMember loc e name) env h k = then_alike (alike_expr e env) (λ base. k _)
    alike_reference (ComputedMember loc e f) env h k = then_alike (alike_expr e env) (λ base. then_alike (alike_expr f env) (λ key. k _))
    alike_reference (Parenthesized loc e) env h k = alike_reference e env h k
    alike_reference (Entered mark e) env h k = alike_entering mark (alike_reference e env h k)
    alike_reference _ env h k = h

    alike_values : (xs : Exprs) (env : ℕ) (values : List Value) {f g : List Value → Comp} → ((vs : List Value) → Alike (f vs) (g vs)) →
        Alike (M.comp_values p xs env values f) (M.comp_values q (bare_exprs xs) env values g)
    alike_values no_expr env values h = h values
    alike_values (more_expr x xs) env values h = then_alike (alike_expr x env) (λ v. alike_values xs env (values ++ v ∷ []) h)

    alike_template_parts : (xs : TemplateParts) (env : ℕ) (units : List ℕ) →
        Alike (M.comp_template_parts p xs env units) (M.comp_template_parts q (bare_template_parts xs) env units)
    alike_template_parts no_template_part env units = rets _
    alike_template_parts (more_template_part (MakeTemplatePart e spelled) xs) env units =
        then_alike (alike_expr e env) (λ v. or_halt_alike (to_text (seen v)) (λ inner. alike_template_parts xs env _))

    alike_properties : (xs : Properties) (env o : ℕ) → Alike (M.comp_properties p xs env o) (M.comp_properties q (bare_properties xs) env o)
    alike_properties no_property env o = rets _
    alike_properties (more_property x xs) env o = then_alike (alike_property x env o) (λ v. alike_properties xs env o)

    alike_property : (x : Property) (env o : ℕ) → Alike (M.comp_property p x env o) (M.comp_property q (bare_property x) env o)
    alike_property (Shorthand loc name) env o = then_alike (alike_read name env) (alike_defines o _)
    alike_property (KeyValue loc key e) env o = alike_key key env (λ k. then_alike (alike_named k e env (alike_expr e env)) (alike_defines o k))
    alike_property (Method loc key function) env o = alike_key key env (λ k. then_alike (alike_closure (OfMethod function) k env) (alike_defines o k))

    alike_key : (key : PropertyKey) (env : ℕ) {f g : List ℕ → Comp} → ((k : List ℕ) → Alike (f k) (g k)) →
        Alike (M.comp_key p key env f) (M.comp_key q (bare_property_key key) env g)
    alike_key (NameKey name) env h = h _
    alike_key (StringKey spelled) env h = h _
    alike_key (NumberKey spelling) env h = alike_number_key (literal_number spelling) h
    alike_key (ComputedKey e) env h = then_alike (alike_expr e env) (λ v. or_halt_alike (to_text (seen v)) h)

  alike_expr_if : (e : MaybeExpr) (env : ℕ) → Alike (M.comp_expr_if p e env) (M.comp_expr_if q (bare_expr_if e) env)
  alike_expr_if none_expr env = rets _
  alike_expr_if (some_expr e) env = alike_expr e env

  alike_declarator : (kind : VariableKind) (d : Declarator) (env : ℕ) → Alike (M.comp_declarator p kind d env) (M.comp_declarator q kind (bare_declarator d) env)
  alike_declarator kind (MakeDeclarator loc (BindingIdentifier place name) none_expr) env = alike_binds_none kind name env
  alike_declarator kind (MakeDeclarator loc (BindingIdentifier place name) (some_expr e)) env = then_alike (alike_named _ e env (alike_expr e env)) (alike_binds kind name env)

  alike_declarators : (kind : VariableKind) (ds : Declarators) (env : ℕ) → Alike (M.comp_declarators p kind ds env) (M.comp_declarators q kind (bare_declarators ds) env)
  alike_declarators kind no_declarator env = rets _
  alike_declarators kind (more_declarator d ds) env = then_alike (alike_declarator kind d env) (λ v. alike_declarators kind ds env)

  alike_for_init : (start : ForInit) (env : ℕ) → Alike (M.comp_for_init p start env) (M.comp_for_init q (bare_for_init start) env)
  alike_for_init NoInit env = rets _
  alike_for_init (InitDeclaration kind ds) env = alike_declarators kind ds env
  alike_for_init (InitExpression e) env = alike_expr e env

  -- a turn that is asked for on both sides
  alike_turn_if : (e : MaybeExpr) {x y : Stmt} (labels : List (List ℕ)) (env : ℕ) → SameEntry (E.Turn x labels env) (E.Turn y labels env) →
      Alike (M.turn_if p e x labels env) (M.turn_if q (bare_expr_if e) y labels env)
  alike_turn_if none_expr labels env same = enters same (λ c. rets c)
  alike_turn_if (some_expr e) labels env same = then_alike (alike_expr e env) (alike_choose (enters same (λ c. rets c)) (rets _))

  alike_takes : (target : ForTarget) (env : ℕ) (v : Value) {f g : ℕ → Comp} → ((e : ℕ) → Alike (f e) (g e)) →
      Alike (M.takes p target env v f) (M.takes q (bare_for_target target) env v g)
  alike_takes (TargetDeclaration kind (BindingIdentifier place name)) env v h = alike_in_scope (S.target_scope (TargetDeclaration kind (BindingIdentifier place name))) (S.target_scope (TargetDeclaration kind (BindingIdentifier None name))) refl env (λ inner.
      then_alike (alike_binds kind name inner v) (λ w. h inner))
  alike_takes (TargetExpression e) env v h = alike_reference e env (alike_complain complaint.NotAssignable) (λ r. then_alike (alike_put env r v) (λ w. h env))

  abbrev Passes : Stmt → Stmt → List (List ℕ) → ℕ → Type 0
  Passes x y labels env = (inner : ℕ) (rest : Iteration) → SameEntry (E.Pass x labels env inner rest) (E.Pass y labels env inner rest)

  alike_takes_next : (x y : Stmt) (target : ForTarget) (labels : List (List ℕ)) (env : ℕ) → Passes x y labels env → (t : Option Taken) →
      Alike (M.takes_next p x target labels env t) (M.takes_next q y (bare_for_target target) labels env t)
  alike_takes_next x y target labels env same None = rets _
  alike_takes_next x y target labels env same (Some t) = alike_takes target env t.value (λ inner. enters (same inner t.rest) (λ c. rets c))

  alike_through : (x y : Stmt) (target : ForTarget) (labels : List (List ℕ)) (env : ℕ) → Passes x y labels env → (rest : Iteration) →
      Alike (M.goes_through p x target labels env rest) (M.goes_through q y (bare_for_target target) labels env rest)
  alike_through x y target labels env same rest = looks_alike (λ s. alike_takes_next x y target labels env same (next_of s.heap rest))

  alike_returned : (e : MaybeExpr) (env : ℕ) → Alike (M.returned p e env) (M.returned q (bare_expr_if e) env)
  alike_returned none_expr env = rets _
  alike_returned (some_expr e) env = then_alike (alike_expr e env) (λ v. rets _)

  alike_test : (x : Case) (env : ℕ) (v : Value) {a b c d : Comp} → Alike a c → Alike b d → Alike (M.comp_test p x env v a b) (M.comp_test q (bare_case x) env v c d)
  alike_test (MakeCase loc none_expr xs) env v h k = k
  alike_test (MakeCase loc (some_expr e) xs) env v h k = then_alike (alike_expr e env) (λ w. if_alike (strictly_equal v w) h k)
  alike_test (EnteredCase mark x) env v h k = alike_test x env v h k

  mutual
    alike_stmt : (x : Stmt) (labels : List (List ℕ)) (env : ℕ) → Alike (M.comp_stmt p x labels env) (M.comp_stmt q (bare_stmt x) labels env)
    alike_stmt (Directive loc spelled) labels env = rets _
    alike_stmt (Block loc xs) labels env = alike_in_block xs env (alike_stmts xs)
    alike_stmt (VariableDeclaration loc kind declarators) labels env = alike_declarators kind declarators env
    alike_stmt (Empty loc) labels env = rets _
    alike_stmt (Expression loc e) labels env = then_alike (alike_expr e env) (λ v. rets _)
    alike_stmt (If loc e x y) labels env = then_alike (alike_expr e env) (alike_choose (alike_stmt x [] env) (alike_stmt_if y env))
    alike_stmt (DoWhile loc x e) labels env = enters (do_turns loc x e labels env) (λ c. rets c)
    alike_stmt (While loc e x) labels env = then_alike (alike_expr e env) (alike_choose (enters (while_turns loc e x labels env) (λ c. rets c)) (rets _))
    alike_stmt (For loc start e f x) labels env = alike_in_scope _ _ (init_scope_same start) env (λ inner. then_alike (alike_for_init start inner)
        (λ v. alike_anew start inner (λ i. alike_turn_if e labels i (for_turns loc start e f x labels i))))
    alike_stmt (ForIn loc target e x) labels env = alike_in_scope _ _ (target_scope_same target) env (λ inner. then_alike (alike_expr e inner) (λ v. looks_alike (λ s.
        alike_through (ForIn loc target e x) (bare_stmt (ForIn loc target e x)) target labels env (in_passes loc target e x labels env) (Keys v (keys_of s.heap v)))))
    alike_stmt (ForOf loc target e x) labels env = alike_in_scope _ _ (target_scope_same target) env (λ inner. then_alike (alike_expr e inner) (λ v. looks_alike (λ s.
        or_halt_alike (M.iterated s.heap v) (alike_through (ForOf loc target e x) (bare_stmt (ForOf loc target e x)) target labels env (of_passes loc target e x labels env)))))
    alike_stmt (P.Continue loc None) labels env = rets _
    alike_stmt (P.Continue loc (Some label)) labels env = rets _
    alike_stmt (P.Break loc None) labels env = rets _
    alike_stmt (P.Break loc (Some label)) labels env = rets _
    alike_stmt (P.Return loc e) labels env = alike_returned e env
    alike_stmt (Switch loc e cases) labels env = then_alike (alike_expr e env) (λ v. alike_in_scope _ _ (cases_scope_same cases) env (λ inner.
        handle_alike (alike_select cases inner v (alike_default cases inner)) alike_after_switch))
    alike_stmt (Labelled loc label x) labels env = handle_alike (alike_stmt x _ env) (alike_after_label label.name)
    alike_stmt (P.Throw loc e) labels env = then_alike (alike_expr e env) (λ v. rets _)
    alike_stmt (TryCatch loc xs catch) labels env = handle_alike (alike_in_block xs env (alike_stmts xs)) (alike_caught (alike_catch catch env))
    alike_stmt (TryFinally loc xs ys) labels env = handle_alike (alike_in_block xs env (alike_stmts xs)) (alike_finally (alike_in_block ys env (alike_stmts ys)))
    alike_stmt (TryCatchFinally loc xs catch ys) labels env =
        handle_alike (handle_alike (alike_in_block xs env (alike_stmts xs)) (alike_caught (alike_catch catch env))) (alike_finally (alike_in_block ys env (alike_stmts ys)))
    alike_stmt (Debugger loc) labels env = rets _
    alike_stmt (FunctionDeclaration loc name function) labels env = rets _
    alike_stmt (EnteredStmt mark (Block loc xs)) labels env = alike_in_block xs env (λ inner. alike_entering mark (alike_stmts xs inner))
    alike_stmt (EnteredStmt mark x) labels env = alike_entering mark (alike_stmt x labels env)

    alike_stmts : (xs : Stmts) (env : ℕ) → Alike (M.comp_stmts p xs env) (M.comp_stmts q (bare_stmts xs) env)
    alike_stmts no_stmt env = rets _
    alike_stmts (more_stmt x no_stmt) env = alike_stmt x [] env
    alike_stmts (more_stmt x (more_stmt y ys)) env = then_alike (alike_stmt x [] env) (λ v. alike_stmts (more_stmt y ys) env)

    alike_stmt_if : (x : MaybeStmt) (env : ℕ) → Alike (M.comp_stmt_if p x env) (M.comp_stmt_if q (bare_stmt_if x) env)
    alike_stmt_if none_stmt env = rets _
    alike_stmt_if (some_stmt x) env = alike_stmt x [] env
    alike_stmt_if (entered_none mark) env = alike_entering mark (rets _)

    alike_catch : (x : Catch) (env : ℕ) (v : Value) → Alike (M.comp_catch p x env v) (M.comp_catch q (bare_catch x) env v)
    alike_catch (MakeCatch pattern xs) env v = alike_in_catch pattern v env (λ inner. alike_in_block xs inner (alike_stmts xs))

    alike_case : (x : Case) (env : ℕ) → Alike (M.comp_case p x env) (M.comp_case q (bare_case x) env)
    alike_case (MakeCase loc e xs) env = alike_stmts xs env
    alike_case (EnteredCase mark x) env = alike_entering mark (alike_case x env)

    alike_cases : (xs : Cases) (env : ℕ) → Alike (M.comp_cases p xs env) (M.comp_cases q (bare_cases xs) env)
    alike_cases no_case env = rets _
    alike_cases (more_case x xs) env = then_alike (alike_case x env) (λ v. alike_cases xs env)

    alike_select : (xs : Cases) (env : ℕ) (v : Value) {c d : Comp} → Alike c d → Alike (M.comp_select p xs env v c) (M.comp_select q (bare_cases xs) env v d)
    alike_select no_case env v h = h
    alike_select (more_case x xs) env v h = alike_test x env v (then_alike (alike_case x env) (λ w. alike_cases xs env)) (alike_select xs env v h)

    alike_default : (xs : Cases) (env : ℕ) → Alike (M.comp_default p xs env) (M.comp_default q (bare_cases xs) env)
    alike_default no_case env = rets _
    alike_default (more_case x xs) env =
        subst (λ b. Alike (M.comp_default p (more_case x xs) env) (if b then handle (M.comp_case q (bare_case x) env) (M.with_value (λ v. M.comp_cases q (bare_cases xs) env)) else M.comp_default q (bare_cases xs) env))
        (sym (default_same x))
        (if_alike (M.is_default x) (then_alike (alike_case x env) (λ w. alike_cases xs env)) (alike_default xs env))

  -- Bodies

  alike_argument : (name : List ℕ) (e : MaybeExpr) (env : ℕ) (v : Value) → Alike (M.comp_argument p name e env v) (M.comp_argument q name (bare_expr_if e) env v)
  alike_argument name none_expr env v = rets _
  alike_argument name (some_expr e) env (value.Primitive primitive.Undefined) = alike_named _ e env (alike_expr e env)
  alike_argument name (some_expr e) env v = rets _

  alike_params : (ps : Params) (env : ℕ) (arguments : List Value) → Alike (M.comp_params p ps env arguments) (M.comp_params q (bare_params ps) env arguments)
  alike_params no_param env arguments = rets _
  alike_params (more_param (MakeParam loc (BindingIdentifier place name) e) ps) env arguments = then_alike (alike_argument _ e env _)
      (λ v. then_alike (alike_initialize _ env v) (λ w. alike_params ps env _))

  alike_body : (x : FunctionBody) (env : ℕ) → Alike (M.comp_body p x env) (M.comp_body q (bare_function_body x) env)
  alike_body (MakeFunctionBody loc xs) env = alike_stmts xs env
  alike_body (EnteredBody mark x) env = alike_entering mark (alike_body x env)

  alike_concise : (x : ConciseBody) (env : ℕ) → Alike (M.comp_concise p x env) (M.comp_concise q (bare_concise_body x) env)
  alike_concise (ExpressionBody e) env = then_alike (alike_expr e env) (λ v. rets _)
  alike_concise (BlockBody x) env = alike_body x env

  in_body_by : (b : Bool) (names : List (List ℕ)) (scope : S.Scope) (env : ℕ) {i j : ℕ → Comp} → ((e : ℕ) → Alike (i e) (j e)) →
      Alike (if b then M.within (S.apart_made names scope env) i else act (on_heap (S.body_made names scope env)) (λ s. i env))
      (if b then M.within (S.apart_made names scope env) j else act (on_heap (S.body_made names scope env)) (λ s. j env))
  in_body_by true names scope env h = within_alike (λ k. refl) h
  in_body_by false names scope env h = heap_alike (λ k. refl) (λ s. h env)

  alike_in_body : (ps : Params) (scope : S.Scope) (env : ℕ) {i j : ℕ → Comp} → ((e : ℕ) → Alike (i e) (j e)) →
      Alike (F.in_body ps scope env i) (F.in_body (bare_params ps) scope env j)
  alike_in_body ps scope env {i = i} {j = j} h =
      subst (λ b. Alike (F.in_body ps scope env i) (if b then M.within (S.apart_made (S.param_names (bare_params ps)) scope env) j
      else act (on_heap (S.body_made (S.param_names (bare_params ps)) scope env)) (λ s. j env))) (sym (defaults_same ps))
      (subst (λ names. Alike (F.in_body ps scope env i) (if S.has_defaults ps then M.within (S.apart_made names scope env) j
      else act (on_heap (S.body_made names scope env)) (λ s. j env))) (sym (params_same ps))
      (in_body_by (S.has_defaults ps) (S.param_names ps) scope env h))

  alike_function : (ps : Params) (scope other : S.Scope) → other ≡ scope → (this : List Binding) (env : ℕ) (arguments : List Value) {f g : ℕ → Comp} →
      ((e : ℕ) → Alike (f e) (g e)) →
      Alike (F.comp_function p ps scope f this env arguments) (F.comp_function q (bare_params ps) other g this env arguments)
  alike_function ps scope other same this env arguments {f = f} {g = g} h =
      subst (λ o. Alike (F.comp_function p ps scope f this env arguments) (F.comp_function q (bare_params ps) o g this env arguments)) (sym same)
      (within_alike (λ i. ap (λ names. S.call_made this names env i) (params_same ps)) (λ e.
      then_alike (alike_params ps e arguments) (λ v. alike_in_body ps scope e h)))

  alike_code : (code : Code) (env : ℕ) (this : Value) (arguments : List Value) → Alike (F.comp_code p code env this arguments) (F.comp_code q (bare_code code) env this arguments)
  alike_code (Ordinary (MakeFunction number params body)) env this arguments =
      alike_function params _ _ (braced_scope_same body) (F.this_bound this) env arguments (alike_body body)
  alike_code (OfMethod (MakeFunction number params body)) env this arguments =
      alike_function params _ _ (braced_scope_same body) (F.this_bound this) env arguments (alike_body body)
  alike_code (Arrow number params body) env this arguments = alike_function params _ _ (concise_scope_same body) [] env arguments (alike_concise body)

  alike_coded : (code : Option Code) (env : ℕ) (this : Value) (arguments : List Value) →
      Alike (F.comp_coded p code env this arguments) (F.comp_coded q (option_map bare_code code) env this arguments)
  alike_coded None env this arguments = rets _
  alike_coded (Some code) env this arguments = alike_code code env this arguments

  alike_at : (code env : ℕ) (this : Value) (arguments : List Value) →
      Alike (F.comp_coded p (program.function_at p code) env this arguments) (F.comp_coded q (program.function_at q code) env this arguments)
  alike_at code env this arguments =
      subst (λ o. Alike (F.comp_coded p (program.function_at p code) env this arguments) (F.comp_coded q o env this arguments)) (sym (code_same p code))
      (alike_coded (program.function_at p code) env this arguments)

  alike_after_call : (c : Completion) → Alike (F.after_call c) (F.after_call c)
  alike_after_call (completion.Normal v) = rets _
  alike_after_call (completion.Break label) = rets _
  alike_after_call (completion.Continue label) = rets _
  alike_after_call (completion.Return v) = rets _
  alike_after_call (completion.Throw v) = rets _

  alike_after_construct : (made : ℕ) (c : Completion) → Alike (F.after_construct made c) (F.after_construct made c)
  alike_after_construct made (completion.Normal v) = rets _
  alike_after_construct made (completion.Break label) = rets _
  alike_after_construct made (completion.Continue label) = rets _
  alike_after_construct made (completion.Return v) = rets _
  alike_after_construct made (completion.Throw v) = rets _

  alike_call_code : (code env : ℕ) (this : Value) (arguments : List Value) → Alike (F.call_code p code env this arguments) (F.call_code q code env this arguments)
  alike_call_code code env this arguments = handle_alike (alike_at code env this arguments) alike_after_call

  -- Files

  alike_file_body : (tree : P.File) (exports : ℕ) → Alike (F.comp_file p tree exports) (F.comp_file q (bare_file tree) exports)
  alike_file_body (MakeFile xs comments) exports = within_alike (λ h. refl) (λ e.
      heap_alike {i = λ s. handle (M.comp_stmts p xs e) F.after_call} {j = λ s. handle (M.comp_stmts q (bare_stmts xs) e) F.after_call} (λ h. ap (λ scope. S.body_made F.file_names scope e h) (body_scope_same xs)) (λ s.
      handle_alike (alike_stmts xs e) alike_after_call))

  alike_run : (source : Source) (file : ℕ) → Alike (F.run_source p source file) (F.run_source q (bare_source source) file)
  alike_run source file = acts (λ s. refl) (λ s. alike_file_body source.tree (next_object s.heap))

  alike_run_file : (source : Option Source) (file : ℕ) → Alike (F.run_file p source file) (F.run_file q (option_map bare_source source) file)
  alike_run_file None file = rets _
  alike_run_file (Some source) file = alike_run source file

  alike_start : (source : Option Source) (file : ℕ) → Alike (F.start_source p source file) (F.start_source q (option_map bare_source source) file)
  alike_start None file = rets _
  alike_start (Some source) file = if_alike source.counted (enters (files file) (λ c. rets c)) (alike_run source file)

  pub alike_file : (file : ℕ) → Alike (F.start_file p file) (F.start_file q file)
  alike_file file = subst (λ source. Alike (F.start_file p file) (F.start_source q source file)) (sym (slice_get-map bare_source p.files file))
      (alike_start (slice_get p.files file) file)

  alike_exports : (path : List ℕ) → Alike (F.exports_of path) (F.exports_of path)
  alike_exports path = looks_alike (λ s. rets _)

  alike_after_start : (path : List ℕ) (c : Completion) → Alike (F.after_start path c) (F.after_start path c)
  alike_after_start path (completion.Throw v) = acts (λ s. refl) (λ s. rets _)
  alike_after_start path (completion.Normal v) = alike_exports path
  alike_after_start path (completion.Break label) = alike_exports path
  alike_after_start path (completion.Continue label) = alike_exports path
  alike_after_start path (completion.Return v) = alike_exports path

  alike_require_new : (path : List ℕ) (file : Option ℕ) → Alike (F.require_new p path file) (F.require_new q path file)
  alike_require_new path None = alike_complain complaint.NoSuchFile
  alike_require_new path (Some file) = handle_alike (alike_file file) (alike_after_start path)

  alike_require_path : (s : Store) (path : Option (List ℕ)) → Alike (F.require_path p s path) (F.require_path q s path)
  alike_require_path s None = alike_complain complaint.NoSuchFile
  alike_require_path s (Some path) = if_alike (is_some (cached s path)) (alike_exports path)
      (subst (λ file. Alike (F.require_new p path (program.file_at p path)) (F.require_new q path file)) (sym (path_same p path)) (alike_require_new path (program.file_at p path)))

  -- What a step is for

  alike_native : {f g : Value → Value → List Value → Comp} → ((function this : Value) (vs : List Value) → Alike (f function this vs) (g function this vs)) →
      (callee : ℕ) (answer : Native) → Alike (F.native p f callee answer) (F.native q g callee answer)
  alike_native h callee (Answers v) = rets _
  alike_native h callee (Throws kind message) = acts (λ s. refl) (λ s. rets _)
  alike_native h callee (RefusesKind k) = refuses k
  alike_native h callee (Writes bytes) = acts (λ s. refl) (λ s. rets _)
  alike_native h callee (Calls function this arguments) = h function this arguments
  alike_native h callee (Requires units) = looks_alike (λ s. alike_require_path s (required_path s callee units))

  alike_call_native : {f g : Value → Value → List Value → Comp} → ((function this : Value) (vs : List Value) → Alike (f function this vs) (g function this vs)) →
      (callee function : ℕ) (maker : Option ℕ) (this : Value) (arguments : List Value) →
      Alike (F.call_native p f callee function maker this arguments) (F.call_native q g callee function maker this arguments)
  alike_call_native h callee function maker this arguments = acts (λ s. refl) (λ s.
      alike_native h callee (native_of function (is_some maker) this arguments s.heap))

  alike_hand_kind : (kind : ObjectKind) (callee : ℕ) (this : Value) (arguments : List Value) → Alike (F.hand_kind p kind callee this arguments) (F.hand_kind q kind callee this arguments)
  alike_hand_kind (BuiltIn function) callee this arguments = if_alike (is_handing function)
      (enters (natives callee function None this arguments) (λ c. rets c)) (alike_call_native (λ f t vs. rets _) callee function None this arguments)
  alike_hand_kind (Written code env) callee this arguments = alike_call_code code env this arguments
  alike_hand_kind _ callee this arguments = alike_complain complaint.NotAFunction

  alike_hand_on : (f this : Value) (arguments : List Value) → Alike (F.hand_on p f this arguments) (F.hand_on q f this arguments)
  alike_hand_on (value.Primitive v) this arguments = alike_complain complaint.NotAFunction
  alike_hand_on (value.Object o) this arguments = looks_alike (λ s. alike_hand_kind (kind_of s.heap o.index) o.index this arguments)

  pub alike_inside : (e f : Entry) → SameEntry e f → Alike (F.inside p e) (F.inside q f)
  alike_inside e f (calls code env this arguments) = alike_call_code code env this arguments
  alike_inside e f (news maker code env arguments) = acts (λ s. refl) (λ s.
      handle_alike (alike_at code env (object (next_object s.heap)) arguments) (alike_after_construct (next_object s.heap)))
  alike_inside e f (natives callee function maker this arguments) = alike_call_native alike_hand_on callee function maker this arguments
  alike_inside e f (do_turns loc x g labels env) = handle_alike (alike_stmt x [] env) (alike_after_turn labels
      (then_alike (alike_expr g env) (alike_choose (enters (do_turns loc x g labels env) (λ c. rets c)) (rets _))))
  alike_inside e f (while_turns loc g x labels env) = handle_alike (alike_stmt x [] env) (alike_after_turn labels (alike_stmt (While loc g x) labels env))
  alike_inside e f (for_turns loc start g h x labels env) = handle_alike (alike_stmt x [] env) (alike_after_turn labels (alike_anew start env (λ inner.
      then_alike (alike_expr_if h inner) (λ v. alike_turn_if g labels inner (for_turns loc start g h x labels inner)))))
  alike_inside e f (in_passes loc target g x labels env inner rest) = handle_alike (alike_stmt x [] inner) (alike_after_turn labels
      (alike_through (ForIn loc target g x) (bare_stmt (ForIn loc target g x)) target labels env (in_passes loc target g x labels env) rest))
  alike_inside e f (of_passes loc target g x labels env inner rest) = handle_alike (alike_stmt x [] inner) (alike_after_turn labels
      (alike_through (ForOf loc target g x) (bare_stmt (ForOf loc target g x)) target labels env (of_passes loc target g x labels env) rest))
  alike_inside e f (constructs mark) = acts (λ s. refl) (λ s. rets _)
  alike_inside e f (files file) = subst (λ source. Alike (F.inside p (E.Start file)) (F.run_file q source file)) (sym (slice_get-map bare_source p.files file))
      (alike_run_file (slice_get p.files file) file)
