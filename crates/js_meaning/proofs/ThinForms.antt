-- Each form without its marks does what it does with them, but for their steps.
use Rattle.std.proofs.Common.{◌≡◌, ℕ, Bool, true, false, List, [], ◌∷◌, ◌++◌, Option, Some, None, refl, sym, ap, subst, arith, if◌then◌else◌, ℤ, is_some, Ok, Err}
use Rattle.std.specs.Prelude.{slice_get, option_map}
use Rattle.std.specs.Str.{bytes_eq}
use Rattle.std.proofs.lemmas.Option.{slice_get-map}
use Rattle.js_tree.specs.Plain as P
use Rattle.js_tree.specs.Plain.{Expr, IdentifierReference, This, NullLiteral, BooleanLiteral, NumericLiteral, StringLiteral, ArrayLiteral, ObjectLiteral, FunctionExpression, ArrowFunction, RegularExpressionLiteral, TemplateLiteral, Parenthesized, NamedMember, ComputedMember, New, PostfixUpdate, PrefixUpdate, Unary, Binary, Logical, Conditional, Assignment, Comma, Entered, Exprs, no_expr, more_expr, MaybeExpr, none_expr, some_expr}
use Rattle.js_tree.specs.Plain.{TemplateParts, no_template_part, more_template_part, MakeTemplatePart, Properties, no_property, more_property, Property, Shorthand, KeyValue, Method, PropertyKey, NameKey, StringKey, NumberKey, ComputedKey}
use Rattle.js_tree.specs.Plain.{Stmt, Directive, Block, VariableDeclaration, Empty, Expression, If, DoWhile, While, For, ForIn, ForOf, Switch, Labelled, TryCatch, TryFinally, TryCatchFinally, Debugger, FunctionDeclaration, EnteredStmt, Stmts, no_stmt, more_stmt, MaybeStmt, none_stmt, some_stmt, entered_none}
use Rattle.js_tree.specs.Plain.{Declarator, MakeDeclarator, Declarators, no_declarator, more_declarator, ForInit, NoInit, InitDeclaration, InitExpression, ForTarget, TargetDeclaration, TargetExpression, Cases, no_case, more_case, Case, MakeCase, EnteredCase, Catch, MakeCatch, MaybePattern, none_pattern, some_pattern, BindingIdentifier}
use Rattle.js_tree.specs.Plain.{FunctionBody, MakeFunctionBody, EnteredBody, ConciseBody, ExpressionBody, BlockBody, MakeFunction, Params, no_param, more_param, MakeParam, MakeFile}
use Rattle.js_tree.specs.Unmarked.{unmarked_expr, unmarked_exprs, unmarked_expr_if, unmarked_property, unmarked_properties, unmarked_property_key, unmarked_template_parts, unmarked_concise_body, unmarked_function_body, unmarked_params, unmarked_stmt, unmarked_stmts, unmarked_stmt_if, unmarked_declarator, unmarked_declarators, unmarked_for_init, unmarked_for_target, unmarked_case, unmarked_cases, unmarked_catch, unmarked_file}
use Rattle.js_terms.specs.declared.operators.BinaryOperator.{BinaryOperator}
use Rattle.js_terms.specs.declared.operators.BinaryOperator.TheVariants as binary_operator
use Rattle.js_terms.specs.declared.operators.LogicalOperator.{LogicalOperator}
use Rattle.js_terms.specs.declared.operators.LogicalOperator.TheVariants as logical
use Rattle.js_terms.specs.declared.operators.UnaryOperator.{UnaryOperator}
use Rattle.js_terms.specs.declared.operators.UnaryOperator.TheVariants as unary_operator
use Rattle.js_terms.specs.declared.operators.UpdateOperator.{UpdateOperator}
use Rattle.js_terms.specs.declared.operators.VariableKind.{VariableKind}
use Rattle.js_terms.specs.declared.operators.VariableKind.TheVariants as variable
use Rattle.js_tree.specs.Codes.{Code, Ordinary, OfMethod, Arrow}
use Rattle.js_terms.specs.Mark.{Mark}
use Rattle.js_tree.specs.Marked.{one_if}
use Rattle.js_value.specs.declared.value.Value.{Value}
use Rattle.js_value.specs.declared.value.Value.TheVariants as value
use Rattle.js_value.specs.declared.value.Primitive.TheVariants as primitive
use Rattle.js_value.specs.declared.deed.Complaint.{Complaint}
use Rattle.js_value.specs.declared.deed.Complaint.TheVariants as complaint
use Rattle.js_value.specs.declared.deed.Halt.{Halt}
use Rattle.js_value.specs.declared.deed.Halt.TheVariants as halt
use Rattle.js_value.specs.Conversions.{Answer, Gives, Refuses, Numbered, Is, NoNumber, to_number, to_boolean}
use Rattle.js_value.specs.Operators.{binary}
use Rattle.js_value.specs.UnaryOperators.{unary, stepped}
use Rattle.js_value.specs.Equality.{strictly_equal}
use Rattle.js_value.specs.State.{ObjectKind, BuiltIn, Written, Binding, Heap, Store}
use Rattle.js_value.specs.Objects.{kind_of, next_object}
use Rattle.js_value.specs.Environments.{Cell, lookup, value_of, name_answer, Assign, Done, Dead, Constant, next_environment, copy_environment}
use Rattle.js_value.specs.Running.{on_heap, cached}
use Rattle.js_value.specs.Requiring.{required_path}
use Rattle.js_value.specs.Arguments.{Or, seen, to_text}
use Rattle.js_value.specs.Copying.{Copied}
use Rattle.js_value.specs.Host.{Native, Answers, Throws, Refuses as RefusesKind, Writes, Calls, Requires, native_of}
use Rattle.js_value.specs.Realm.{object, text, undefined}
use Rattle.js_meaning.specs.declared.outcome.Completion.{Completion}
use Rattle.js_meaning.specs.declared.outcome.Completion.TheVariants as completion
use Rattle.js_meaning.specs.Effects as E
use Rattle.js_meaning.specs.Effects.{Entry, Comp, ret, act, enter, handle}
use Rattle.js_value.specs.Functions.{name_units, constructs, is_handing}
use Rattle.js_value.specs.Iterations.{Iteration, Keys, Taken, keys_of, next_of}
use Rattle.js_value.specs.Numbers.{literal_number}
use Rattle.js_meaning.specs.Scopes as S
use Rattle.js_meaning.specs.Program as program
use Rattle.js_meaning.specs.Program.{Source, Sources, unmarked, unmarked_source}
use Rattle.js_meaning.specs.Meaning as M
use Rattle.js_meaning.specs.Meaning.{Reference}
use Rattle.js_meaning.specs.Files as F
use Rattle.js_meaning.specs.Laws.{but_for}
use Rattle.js_meaning.proofs.Handle.{handle_ret}
use Rattle.js_meaning.proofs.SameCodes.{unmarked_code, code_same, constructs_same, path_same}
use Rattle.js_meaning.proofs.SameScopes.{block_scope_same, braced_scope_same, concise_scope_same, body_scope_same, cases_scope_same, init_scope_same, target_scope_same, fresh_same, params_same, defaults_same, shape_same}
use Rattle.js_meaning.proofs.Thin.{SameEntry, calls, news, natives, do_turns, while_turns, for_turns, in_passes, of_passes, Thin, rets, refuses, acts, enters, marks, starts, handle_thin, then_thin, begun}

-- the name that an expression is, and whether a clause is `default`
name_same : (e : Expr) → M.name_of (unmarked_expr e) ≡ M.name_of e
name_same (Parenthesized loc e) = name_same e
name_same (Entered mark e) = name_same e
name_same _ = refl

default_same : (x : Case) → M.is_default (unmarked_case x) ≡ M.is_default x
default_same (MakeCase loc none_expr xs) = refl
default_same (MakeCase loc (some_expr e) xs) = refl
default_same (EnteredCase mark x) = default_same x

module _ (p : Sources) where
  abbrev q : Sources
  q = unmarked p

  -- Primitives

  heap_thin : {f g : Heap → Heap} {i j : Store → Comp} → ((h : Heap) → g h ≡ f h) →
      ((log : List Mark) (started : List ℕ) (s : Store) → Thin p (i s) (j (but_for log started s))) → Thin p (act (on_heap f) i) (act (on_heap g) j)
  heap_thin e h = acts (λ s. refl) (λ log started s. ap (λ (heap : Heap). record (but_for log started s) { heap = heap }) (e s.heap)) h

  looks_thin : {i j : Store → Comp} → ((log : List Mark) (started : List ℕ) (s : Store) → Thin p (i s) (j (but_for log started s))) →
      Thin p (M.looks i) (M.looks j)
  looks_thin h = acts (λ s. refl) (λ log started s. refl) h

  makes_thin : {f g : Heap → Heap} → ((h : Heap) → g h ≡ f h) → Thin p (M.makes f) (M.makes g)
  makes_thin e = heap_thin e (λ log started s. rets _)

  within_thin : {f g : Heap → Heap} {i j : ℕ → Comp} → ((h : Heap) → g h ≡ f h) → ((e : ℕ) → Thin p (i e) (j e)) → Thin p (M.within f i) (M.within g j)
  within_thin e h = heap_thin e (λ log started s. h (next_environment s.heap))

  if_thin : (b : Bool) {a c d e : Comp} → Thin p a c → Thin p d e → Thin p (if b then a else d) (if b then c else e)
  if_thin true h k = h
  if_thin false h k = k

  thin_done : Thin p M.done M.done
  thin_done = rets _

  thin_complain : (c : Complaint) → Thin p (M.complain c) (M.complain c)
  thin_complain c = acts (λ s. refl) (λ log started s. refl) (λ log started s. rets _)

  thin_halted : (h : Halt) → Thin p (M.halted h) (M.halted h)
  thin_halted (halt.Throw c) = thin_complain c
  thin_halted (halt.Refuse k) = refuses k
  thin_halted halt.Memory = refuses _

  or_halt_thin : {A : Type 0} (o : Or A) {f g : A → Comp} → ((a : A) → Thin p (f a) (g a)) → Thin p (M.or_halt o f) (M.or_halt o g)
  or_halt_thin (Ok a) h = h a
  or_halt_thin (Err b) h = thin_halted b

  thin_unless : (o : Option Halt) {c d : Comp} → Thin p c d → Thin p (M.unless_halted o c) (M.unless_halted o d)
  thin_unless None h = h
  thin_unless (Some b) h = thin_halted b

  thin_changes : (change : Heap → Copied) (v : Value) → Thin p (M.changes change v) (M.changes change v)
  thin_changes change v = acts (λ s. refl) (λ log started s. refl) (λ log started s. thin_unless (change s.heap).halt (rets _))

  thin_entering : (mark : Mark) {c d : Comp} → Thin p c d → Thin p (M.entering mark c) d
  thin_entering mark h = marks mark h

  thin_held : (v : Option Value) → Thin p (elim v [ None ↦ M.complain complaint.NotInitialised | Some w ↦ M.give w ])
      (elim v [ None ↦ M.complain complaint.NotInitialised | Some w ↦ M.give w ])
  thin_held None = thin_complain complaint.NotInitialised
  thin_held (Some v) = rets _

  thin_value_in : (h : Heap) (cell : Option Cell) → Thin p (M.value_in h cell) (M.value_in h cell)
  thin_value_in h None = thin_complain complaint.NotDefined
  thin_value_in h (Some cell) = thin_held (value_of h cell)

  thin_read : (name : List ℕ) (env : ℕ) → Thin p (M.read name env) (M.read name env)
  thin_read name env = looks_thin (λ log started s. thin_value_in s.heap (lookup s.heap env name))

  thin_assigns : (v : Value) (a : Option Assign) → Thin p (M.assigns v a) (M.assigns v a)
  thin_assigns v None = thin_complain complaint.NotDefined
  thin_assigns v (Some Done) = rets _
  thin_assigns v (Some Dead) = thin_complain complaint.NotInitialised
  thin_assigns v (Some Constant) = thin_complain complaint.NotAssignable

  thin_write : (name : List ℕ) (env : ℕ) (v : Value) → Thin p (M.write name env v) (M.write name env v)
  thin_write name env v = heap_thin (λ h. refl) (λ log started s. thin_assigns v (name_answer s.heap env name))

  thin_initializes : (v : Value) (cell : Option Cell) → Thin p (M.initializes v cell) (M.initializes v cell)
  thin_initializes v None = thin_complain complaint.NotDefined
  thin_initializes v (Some cell) = rets _

  thin_initialize : (name : List ℕ) (env : ℕ) (v : Value) → Thin p (M.initialize name env v) (M.initialize name env v)
  thin_initialize name env v = heap_thin (λ h. refl) (λ log started s. thin_initializes v (lookup s.heap env name))

  thin_member : (base key : Value) → Thin p (M.get_member_of base key) (M.get_member_of base key)
  thin_member base key = looks_thin (λ log started s. or_halt_thin _ (λ v. rets _))

  thin_get : (env : ℕ) (r : Reference) → Thin p (M.get_value env r) (M.get_value env r)
  thin_get env (M.Name name) = thin_read name env
  thin_get env (M.Member base key) = thin_member base key

  thin_put : (env : ℕ) (r : Reference) (v : Value) → Thin p (M.put_value env r v) (M.put_value env r v)
  thin_put env (M.Name name) v = thin_write name env v
  thin_put env (M.Member base key) v = thin_changes _ v

  thin_deleted : (r : Reference) → Thin p (M.deleted r) (M.deleted r)
  thin_deleted (M.Name name) = rets _
  thin_deleted (M.Member base key) = thin_changes _ _

  thin_answered : (a : Answer) → Thin p (M.answered a) (M.answered a)
  thin_answered (Gives v) = rets _
  thin_answered (Refuses k) = refuses _

  thin_numbered : (n : Numbered) {f g : ℤ → Comp} → ((m : ℤ) → Thin p (f m) (g m)) → Thin p (M.numbered n f) (M.numbered n g)
  thin_numbered (Is n) h = h n
  thin_numbered (NoNumber k) h = refuses k

  thin_number : (n : Option ℤ) → Thin p (M.number n) (M.number n)
  thin_number None = refuses _
  thin_number (Some n) = rets _

  thin_number_key : (n : Option ℤ) {f g : List ℕ → Comp} → ((k : List ℕ) → Thin p (f k) (g k)) → Thin p (M.number_key n f) (M.number_key n g)
  thin_number_key None h = refuses _
  thin_number_key (Some n) h = h _

  thin_operated : (operator : BinaryOperator) (v w : Value) → Thin p (M.operated operator v w) (M.operated operator v w)
  thin_operated binary_operator.In v w = looks_thin (λ log started s. or_halt_thin _ (λ b. rets _))
  thin_operated binary_operator.InstanceOf v w = looks_thin (λ log started s. or_halt_thin _ (λ b. rets _))
  thin_operated operator v w = thin_answered (binary operator v w)

  thin_unary : (operator : UnaryOperator) (v : Value) → Thin p (M.operated_unary operator v) (M.operated_unary operator v)
  thin_unary unary_operator.Delete v = rets _
  thin_unary unary_operator.Void v = rets _
  thin_unary unary_operator.TypeOf v = looks_thin (λ log started s. rets _)
  thin_unary operator v = thin_answered (unary operator v)

  thin_if_there : (name : Option (List ℕ)) (env : ℕ) {c d : Comp} → Thin p c d → Thin p (M.if_there name env c) (M.if_there name env d)
  thin_if_there None env h = h
  thin_if_there (Some name) env h = looks_thin (λ log started s. if_thin (is_some (lookup s.heap env name)) h (rets _))

  thin_choose : {a b c d : Comp} → Thin p a c → Thin p b d → (v : Value) → Thin p (M.choose a b v) (M.choose c d v)
  thin_choose h k v = if_thin (to_boolean v) h k

  thin_chosen : (operator : LogicalOperator) {c d : Comp} → Thin p c d → (v : Value) → Thin p (M.chosen operator c v) (M.chosen operator d v)
  thin_chosen logical.And h v = thin_choose h (rets _) v
  thin_chosen logical.Or h v = thin_choose (rets _) h v
  thin_chosen logical.Coalesce h v = if_thin (M.is_nullish v) h (rets _)

  thin_updates : (prefix : Bool) (operator : UpdateOperator) (env : ℕ) (r : Reference) → Thin p (M.updates prefix operator env r) (M.updates prefix operator env r)
  thin_updates prefix operator env r = then_thin p (thin_get env r) (λ v.
      thin_numbered (to_number v) (λ old. thin_numbered (stepped operator old) (λ new.
      then_thin p (thin_put env r (M.number_value new)) (λ w. rets _))))

  thin_closure : (code : Code) (name : List ℕ) (env : ℕ) → Thin p (M.closure code name env) (M.closure (unmarked_code code) name env)
  thin_closure code name env = makes_thin (λ h. ap (λ shape. S.closed shape name env h) (shape_same code))

  thin_own_named : (name : List ℕ) (code : Code) (env : ℕ) → Thin p (M.own_named name code env) (M.own_named name (unmarked_code code) env)
  thin_own_named name code env = within_thin (λ h. refl) (λ e. then_thin p {f = M.initialize name e} {g = M.initialize name e} (thin_closure code (name_units name) e) (thin_initialize name e))

  abbrev ThinIf : Option Comp → Option Comp → Type 0
  ThinIf None None = Unit {0}
  ThinIf (Some c) (Some d) = Thin p c d
  ThinIf _ _ = ⊥

  thin_map : (mark : Mark) (o r : Option Comp) → ThinIf o r → ThinIf (option_map (M.entering mark) o) r
  thin_map mark None None h = tt
  thin_map mark (Some c) (Some d) h = thin_entering mark h
  thin_map mark None (Some d) h = absurd h
  thin_map mark (Some c) None h = absurd h

  thin_named_function : (e : Expr) (name : List ℕ) (env : ℕ) → ThinIf (M.named_function e name env) (M.named_function (unmarked_expr e) name env)
  thin_named_function (FunctionExpression loc None function) name env = thin_closure (Ordinary function) name env
  thin_named_function (ArrowFunction loc number params body) name env = thin_closure (Arrow number params body) name env
  thin_named_function (Parenthesized loc e) name env = thin_named_function e name env
  thin_named_function (Entered mark e) name env = thin_map mark (M.named_function e name env) (M.named_function (unmarked_expr e) name env) (thin_named_function e name env)
  thin_named_function _ name env = tt

  thin_either : (o r : Option Comp) {c d : Comp} → ThinIf o r → Thin p c d → Thin p (elim o [ None ↦ c | Some a ↦ a ]) (elim r [ None ↦ d | Some a ↦ a ])
  thin_either None None h k = k
  thin_either (Some a) (Some b) h k = h
  thin_either None (Some b) h k = absurd h
  thin_either (Some a) None h k = absurd h

  thin_named : (name : List ℕ) (e : Expr) (env : ℕ) {c d : Comp} → Thin p c d → Thin p (M.named name e env c) (M.named name (unmarked_expr e) env d)
  thin_named name e env h = thin_either (M.named_function e name env) (M.named_function (unmarked_expr e) name env) (thin_named_function e name env) h

  thin_named_for : (r : Reference) (e : Expr) (env : ℕ) {c d : Comp} → Thin p c d → Thin p (M.named_for r e env c) (M.named_for r (unmarked_expr e) env d)
  thin_named_for (M.Name name) e env h = thin_named _ e env h
  thin_named_for (M.Member base key) e env h = h

  thin_assigning : (operator : Option BinaryOperator) (r : Reference) (e : Expr) (env : ℕ) {c d : Comp} → Thin p c d →
      Thin p (M.assigning operator r e env c) (M.assigning operator r (unmarked_expr e) env d)
  thin_assigning None r e env h = then_thin p (thin_named_for r e env h) (thin_put env r)
  thin_assigning (Some operator) r e env h = then_thin p (thin_get env r) (λ v. then_thin p h (λ w. then_thin p (thin_operated operator v w) (thin_put env r)))

  thin_call_kind : (kind : ObjectKind) (callee : ℕ) (this : Value) (arguments : List Value) →
      Thin p (M.call_kind kind callee this arguments) (M.call_kind kind callee this arguments)
  thin_call_kind (BuiltIn function) callee this arguments = enters (natives callee function None this arguments) (λ c. rets c)
  thin_call_kind (Written code env) callee this arguments = enters (calls code env this arguments) (λ c. rets c)
  thin_call_kind _ callee this arguments = thin_complain complaint.NotAFunction

  thin_call : (f this : Value) (arguments : List Value) → Thin p (M.call f this arguments) (M.call f this arguments)
  thin_call (value.Primitive v) this arguments = thin_complain complaint.NotAFunction
  thin_call (value.Object o) this arguments = looks_thin (λ log started s. thin_call_kind (kind_of s.heap o.index) o.index this arguments)

  thin_construct_kind : (kind : ObjectKind) (maker : ℕ) (arguments : List Value) →
      Thin p (M.construct_kind p kind maker arguments) (M.construct_kind q kind maker arguments)
  thin_construct_kind (BuiltIn function) maker arguments =
      if_thin (constructs function) (enters (natives maker function (Some maker) undefined arguments) (λ c. rets c)) (thin_complain complaint.NotAConstructor)
  thin_construct_kind (Written code env) maker arguments =
      subst (λ b. Thin p (M.construct_kind p (Written code env) maker arguments) (if b then enter (E.New maker code env arguments) ret else M.complain complaint.NotAConstructor))
      (sym (constructs_same p code))
      (if_thin (program.constructs p code) (enters (news maker code env arguments) (λ c. rets c)) (thin_complain complaint.NotAConstructor))
  thin_construct_kind _ maker arguments = thin_complain complaint.NotAConstructor

  thin_construct : (f : Value) (arguments : List Value) → Thin p (M.construct p f arguments) (M.construct q f arguments)
  thin_construct (value.Primitive v) arguments = thin_complain complaint.NotAConstructor
  thin_construct (value.Object o) arguments = looks_thin (λ log started s. thin_construct_kind (kind_of s.heap o.index) o.index arguments)

  thin_after_turn : (labels : List (List ℕ)) {c d : Comp} → Thin p c d → (o : Completion) → Thin p (M.after_turn labels c o) (M.after_turn labels d o)
  thin_after_turn labels h (completion.Normal v) = h
  thin_after_turn labels h (completion.Break None) = thin_done
  thin_after_turn labels h (completion.Break (Some label)) = rets _
  thin_after_turn labels h (completion.Continue None) = h
  thin_after_turn labels h (completion.Continue (Some label)) = if_thin (S.stands_in label labels) h (rets _)
  thin_after_turn labels h (completion.Return v) = rets _
  thin_after_turn labels h (completion.Throw v) = rets _

  thin_after_label : (label : List ℕ) (o : Completion) → Thin p (M.after_label label o) (M.after_label label o)
  thin_after_label label (completion.Break (Some other)) = if_thin (bytes_eq other label) (rets _) (rets _)
  thin_after_label label (completion.Break None) = rets _
  thin_after_label label (completion.Normal v) = rets _
  thin_after_label label (completion.Continue l) = rets _
  thin_after_label label (completion.Return v) = rets _
  thin_after_label label (completion.Throw v) = rets _

  thin_after_switch : (o : Completion) → Thin p (M.after_switch o) (M.after_switch o)
  thin_after_switch (completion.Break None) = rets _
  thin_after_switch (completion.Break (Some label)) = rets _
  thin_after_switch (completion.Normal v) = rets _
  thin_after_switch (completion.Continue l) = rets _
  thin_after_switch (completion.Return v) = rets _
  thin_after_switch (completion.Throw v) = rets _

  thin_caught : {f g : Value → Comp} → ((v : Value) → Thin p (f v) (g v)) → (o : Completion) → Thin p (M.caught f o) (M.caught g o)
  thin_caught h (completion.Throw v) = h v
  thin_caught h (completion.Break label) = rets _
  thin_caught h (completion.Normal v) = rets _
  thin_caught h (completion.Continue l) = rets _
  thin_caught h (completion.Return v) = rets _

  thin_finally : {c d : Comp} → Thin p c d → (o : Completion) → Thin p (M.finally c o) (M.finally d o)
  thin_finally h o = then_thin p h (λ v. rets _)

  thin_in_names : (names : List Binding) (functions : List S.Hoisted) (env : ℕ) {i j : ℕ → Comp} → ((e : ℕ) → Thin p (i e) (j e)) →
      Thin p (M.in_names names functions env i) (M.in_names names functions env j)
  thin_in_names [] functions env h = h env
  thin_in_names (b ∷ bs) functions env h = within_thin (λ i. refl) h

  -- in the same scope
  thin_in_scope : (scope other : S.Scope) → other ≡ scope → (env : ℕ) {i j : ℕ → Comp} → ((e : ℕ) → Thin p (i e) (j e)) →
      Thin p (M.in_scope scope env i) (M.in_scope other env j)
  thin_in_scope scope other same env {i = i} {j = j} h =
      subst (λ o. Thin p (M.in_scope scope env i) (M.in_scope o env j)) (sym same) (thin_in_names _ scope.functions env h)

  thin_in_block : (xs : Stmts) (env : ℕ) {i j : ℕ → Comp} → ((e : ℕ) → Thin p (i e) (j e)) →
      Thin p (M.in_scope (S.block_scope xs) env i) (M.in_scope (S.block_scope (unmarked_stmts xs)) env j)
  thin_in_block xs env h = thin_in_scope _ _ (block_scope_same xs) env h

  thin_in_catch : (pattern : MaybePattern) (v : Value) (env : ℕ) {i j : ℕ → Comp} → ((e : ℕ) → Thin p (i e) (j e)) →
      Thin p (M.in_catch pattern v env i) (M.in_catch pattern v env j)
  thin_in_catch none_pattern v env h = h env
  thin_in_catch (some_pattern pattern) v env h = within_thin (λ i. refl) h

  thin_anew : (start : ForInit) (env : ℕ) {i j : ℕ → Comp} → ((e : ℕ) → Thin p (i e) (j e)) → Thin p (M.anew start env i) (M.anew (unmarked_for_init start) env j)
  thin_anew start env {i = i} {j = j} h =
      subst (λ b. Thin p (M.anew start env i) (if b then M.within (copy_environment env) j else j env)) (sym (fresh_same start))
      (if_thin (S.is_fresh start) (within_thin (λ k. refl) h) (h env))

  thin_binds : (kind : VariableKind) (name : List ℕ) (env : ℕ) (v : Value) → Thin p (M.binds kind name env v) (M.binds kind name env v)
  thin_binds variable.Var name env v = thin_write name env v
  thin_binds variable.Let name env v = thin_initialize name env v
  thin_binds variable.Const name env v = thin_initialize name env v

  thin_binds_none : (kind : VariableKind) (name : List ℕ) (env : ℕ) → Thin p (M.binds_none kind name env) (M.binds_none kind name env)
  thin_binds_none variable.Var name env = rets _
  thin_binds_none variable.Let name env = thin_initialize name env _
  thin_binds_none variable.Const name env = thin_initialize name env _

  thin_defines : (o : ℕ) (key : List ℕ) (v : Value) → Thin p (M.defines o key v) (M.defines o key v)
  thin_defines o key v = acts (λ s. refl) (λ log started s. refl) (λ log started s. rets _)

  -- The forms

  mutual
    thin_expr : (e : Expr) (env : ℕ) → Thin p (M.comp_expr p e env) (M.comp_expr q (unmarked_expr e) env)
    thin_expr (IdentifierReference loc name) env = thin_read name env
    thin_expr (This loc) env = thin_read _ env
    thin_expr (NullLiteral loc) env = rets _
    thin_expr (BooleanLiteral loc b) env = rets _
    thin_expr (NumericLiteral loc spelling) env = thin_number (literal_number spelling)
    thin_expr (StringLiteral loc spelled) env = rets _
    thin_expr (ArrayLiteral loc items) env = thin_values items env [] (λ vs. makes_thin (λ h. refl))
    thin_expr (ObjectLiteral loc properties) env = heap_thin (λ h. refl) (λ log started s. thin_properties properties env (next_object s.heap))
    thin_expr (FunctionExpression loc None function) env = thin_closure (Ordinary function) [] env
    thin_expr (FunctionExpression loc (Some name) function) env = thin_own_named name.name (Ordinary function) env
    thin_expr (ArrowFunction loc number params body) env = thin_closure (Arrow number params body) [] env
    thin_expr (RegularExpressionLiteral loc pattern flags) env = makes_thin (λ h. refl)
    thin_expr (TemplateLiteral loc spelled parts) env = thin_template_parts parts env spelled.units
    thin_expr (Parenthesized loc e) env = thin_expr e env
    thin_expr (NamedMember loc e name) env = then_thin p (thin_expr e env) (λ base. thin_member base (text (name_units name)))
    thin_expr (ComputedMember loc e f) env = then_thin p (thin_expr e env) (λ base. then_thin p (thin_expr f env) (thin_member base))
    thin_expr (New loc e arguments) env = then_thin p (thin_expr e env) (λ f. thin_values arguments env [] (thin_construct f))
    thin_expr (P.Call loc e arguments) env = thin_reference e env
        (then_thin p (thin_expr e env) (λ f. thin_values arguments env [] (thin_call f undefined)))
        (λ r. then_thin p (thin_get env r) (λ f. thin_values arguments env [] (thin_call f (M.this_of r))))
    thin_expr (PostfixUpdate loc operator e) env = thin_reference e env (thin_complain complaint.NotAssignable) (thin_updates false operator env)
    thin_expr (PrefixUpdate loc operator e) env = thin_reference e env (thin_complain complaint.NotAssignable) (thin_updates true operator env)
    thin_expr (Unary loc unary_operator.Delete e) env = thin_reference e env (then_thin p (thin_expr e env) (thin_unary unary_operator.Delete)) thin_deleted
    thin_expr (Unary loc unary_operator.TypeOf e) env =
        subst (λ name. Thin p (M.comp_expr p (Unary loc unary_operator.TypeOf e) env) (M.if_there name env (handle (M.comp_expr q (unmarked_expr e) env) (M.with_value (M.operated_unary unary_operator.TypeOf)))))
        (sym (name_same e)) (thin_if_there (M.name_of e) env (then_thin p (thin_expr e env) (thin_unary unary_operator.TypeOf)))
    thin_expr (Unary loc operator e) env = then_thin p (thin_expr e env) (thin_unary operator)
    thin_expr (Binary loc operator e f) env = then_thin p (thin_expr e env) (λ v. then_thin p (thin_expr f env) (thin_operated operator v))
    thin_expr (Logical loc operator e f) env = then_thin p (thin_expr e env) (thin_chosen operator (thin_expr f env))
    thin_expr (Conditional loc e f g) env = then_thin p (thin_expr e env) (thin_choose (thin_expr f env) (thin_expr g env))
    thin_expr (Assignment loc operator target e) env = thin_reference target env (thin_complain complaint.NotAssignable)
        (λ r. thin_assigning (M.operator_of operator) r e env (thin_expr e env))
    thin_expr (Comma loc e f) env = then_thin p (thin_expr e env) (λ v. thin_expr f env)
    thin_expr (Entered mark e) env = thin_entering mark (thin_expr e env)

    thin_reference : (e : Expr) (env : ℕ) {c d : Comp} {f g : Reference → Comp} → Thin p c d → ((r : Reference) → Thin p (f r) (g r)) →
        Thin p (M.comp_reference p e env c f) (M.comp_reference q (unmarked_expr e) env d g)
    thin_reference (IdentifierReference loc name) env h k = k _
    thin_reference (NamedMember loc e name) env h k = then_thin p (thin_expr e env) (λ base. k _)
    thin_reference (ComputedMember loc e f) env h k = then_thin p (thin_expr e env) (λ base. then_thin p (thin_expr f env) (λ key. k _))
    thin_reference (Parenthesized loc e) env h k = thin_reference e env h k
    thin_reference (Entered mark e) env h k = thin_entering mark (thin_reference e env h k)
    thin_reference _ env h k = h

    thin_values : (xs : Exprs) (env : ℕ) (values : List Value) {f g : List Value → Comp} → ((vs : List Value) → Thin p (f vs) (g vs)) →
        Thin p (M.comp_values p xs env values f) (M.comp_values q (unmarked_exprs xs) env values g)
    thin_values no_expr env values h = h values
    thin_values (more_expr x xs) env values h = then_thin p (thin_expr x env) (λ v. thin_values xs env (values ++ v ∷ []) h)

    thin_template_parts : (xs : TemplateParts) (env : ℕ) (units : List ℕ) →
        Thin p (M.comp_template_parts p xs env units) (M.comp_template_parts q (unmarked_template_parts xs) env units)
    thin_template_parts no_template_part env units = rets _
    thin_template_parts (more_template_part (MakeTemplatePart e spelled) xs) env units =
        then_thin p (thin_expr e env) (λ v. or_halt_thin (to_text (seen v)) (λ inner. thin_template_parts xs env _))

    thin_properties : (xs : Properties) (env o : ℕ) → Thin p (M.comp_properties p xs env o) (M.comp_properties q (unmarked_properties xs) env o)
    thin_properties no_property env o = rets _
    thin_properties (more_property x xs) env o = then_thin p (thin_property x env o) (λ v. thin_properties xs env o)

    thin_property : (x : Property) (env o : ℕ) → Thin p (M.comp_property p x env o) (M.comp_property q (unmarked_property x) env o)
    thin_property (Shorthand loc name) env o = then_thin p (thin_read name env) (thin_defines o _)
    thin_property (KeyValue loc key e) env o = thin_key key env (λ k. then_thin p (thin_named k e env (thin_expr e env)) (thin_defines o k))
    thin_property (Method loc key function) env o = thin_key key env (λ k. then_thin p (thin_closure (OfMethod function) k env) (thin_defines o k))

    thin_key : (key : PropertyKey) (env : ℕ) {f g : List ℕ → Comp} → ((k : List ℕ) → Thin p (f k) (g k)) →
        Thin p (M.comp_key p key env f) (M.comp_key q (unmarked_property_key key) env g)
    thin_key (NameKey name) env h = h _
    thin_key (StringKey spelled) env h = h _
    thin_key (NumberKey spelling) env h = thin_number_key (literal_number spelling) h
    thin_key (ComputedKey e) env h = then_thin p (thin_expr e env) (λ v. or_halt_thin (to_text (seen v)) h)

  thin_expr_if : (e : MaybeExpr) (env : ℕ) → Thin p (M.comp_expr_if p e env) (M.comp_expr_if q (unmarked_expr_if e) env)
  thin_expr_if none_expr env = rets _
  thin_expr_if (some_expr e) env = thin_expr e env

  thin_declarator : (kind : VariableKind) (d : Declarator) (env : ℕ) → Thin p (M.comp_declarator p kind d env) (M.comp_declarator q kind (unmarked_declarator d) env)
  thin_declarator kind (MakeDeclarator loc (BindingIdentifier place name) none_expr) env = thin_binds_none kind name env
  thin_declarator kind (MakeDeclarator loc (BindingIdentifier place name) (some_expr e)) env = then_thin p (thin_named _ e env (thin_expr e env)) (thin_binds kind name env)

  thin_declarators : (kind : VariableKind) (ds : Declarators) (env : ℕ) → Thin p (M.comp_declarators p kind ds env) (M.comp_declarators q kind (unmarked_declarators ds) env)
  thin_declarators kind no_declarator env = rets _
  thin_declarators kind (more_declarator d ds) env = then_thin p (thin_declarator kind d env) (λ v. thin_declarators kind ds env)

  thin_for_init : (start : ForInit) (env : ℕ) → Thin p (M.comp_for_init p start env) (M.comp_for_init q (unmarked_for_init start) env)
  thin_for_init NoInit env = rets _
  thin_for_init (InitDeclaration kind ds) env = thin_declarators kind ds env
  thin_for_init (InitExpression e) env = thin_expr e env

  -- a turn that is asked for on both sides
  thin_turn_if : (e : MaybeExpr) {x y : Stmt} (labels : List (List ℕ)) (env : ℕ) → SameEntry (E.Turn x labels env) (E.Turn y labels env) →
      Thin p (M.turn_if p e x labels env) (M.turn_if q (unmarked_expr_if e) y labels env)
  thin_turn_if none_expr labels env same = enters same (λ c. rets c)
  thin_turn_if (some_expr e) labels env same = then_thin p (thin_expr e env) (thin_choose (enters same (λ c. rets c)) (rets _))

  thin_takes : (target : ForTarget) (env : ℕ) (v : Value) {f g : ℕ → Comp} → ((e : ℕ) → Thin p (f e) (g e)) →
      Thin p (M.takes p target env v f) (M.takes q (unmarked_for_target target) env v g)
  thin_takes (TargetDeclaration kind pattern) env v h = thin_in_scope (S.target_scope (TargetDeclaration kind pattern)) (S.target_scope (TargetDeclaration kind pattern)) refl env (λ inner.
      then_thin p (thin_binds kind (S.bound pattern) inner v) (λ w. h inner))
  thin_takes (TargetExpression e) env v h = thin_reference e env (thin_complain complaint.NotAssignable) (λ r. then_thin p (thin_put env r v) (λ w. h env))

  abbrev Passes : Stmt → Stmt → List (List ℕ) → ℕ → Type 0
  Passes x y labels env = (inner : ℕ) (rest : Iteration) → SameEntry (E.Pass x labels env inner rest) (E.Pass y labels env inner rest)

  thin_takes_next : (x y : Stmt) (target : ForTarget) (labels : List (List ℕ)) (env : ℕ) → Passes x y labels env → (t : Option Taken) →
      Thin p (M.takes_next p x target labels env t) (M.takes_next q y (unmarked_for_target target) labels env t)
  thin_takes_next x y target labels env same None = rets _
  thin_takes_next x y target labels env same (Some t) = thin_takes target env t.value (λ inner. enters (same inner t.rest) (λ c. rets c))

  thin_through : (x y : Stmt) (target : ForTarget) (labels : List (List ℕ)) (env : ℕ) → Passes x y labels env → (rest : Iteration) →
      Thin p (M.goes_through p x target labels env rest) (M.goes_through q y (unmarked_for_target target) labels env rest)
  thin_through x y target labels env same rest = looks_thin (λ log started s. thin_takes_next x y target labels env same (next_of s.heap rest))

  thin_returned : (e : MaybeExpr) (env : ℕ) → Thin p (M.returned p e env) (M.returned q (unmarked_expr_if e) env)
  thin_returned none_expr env = rets _
  thin_returned (some_expr e) env = then_thin p (thin_expr e env) (λ v. rets _)

  thin_test : (x : Case) (env : ℕ) (v : Value) {a b c d : Comp} → Thin p a c → Thin p b d → Thin p (M.comp_test p x env v a b) (M.comp_test q (unmarked_case x) env v c d)
  thin_test (MakeCase loc none_expr xs) env v h k = k
  thin_test (MakeCase loc (some_expr e) xs) env v h k = then_thin p (thin_expr e env) (λ w. if_thin (strictly_equal v w) h k)
  thin_test (EnteredCase mark x) env v h k = thin_test x env v h k

  mutual
    thin_stmt : (x : Stmt) (labels : List (List ℕ)) (env : ℕ) → Thin p (M.comp_stmt p x labels env) (M.comp_stmt q (unmarked_stmt x) labels env)
    thin_stmt (Directive loc spelled) labels env = rets _
    thin_stmt (Block loc xs) labels env = thin_in_block xs env (thin_stmts xs)
    thin_stmt (VariableDeclaration loc kind declarators) labels env = thin_declarators kind declarators env
    thin_stmt (Empty loc) labels env = rets _
    thin_stmt (Expression loc e) labels env = then_thin p (thin_expr e env) (λ v. rets _)
    thin_stmt (If loc e x y) labels env = then_thin p (thin_expr e env) (thin_choose (thin_stmt x [] env) (thin_stmt_if y env))
    thin_stmt (DoWhile loc x e) labels env = enters (do_turns loc x e labels env) (λ c. rets c)
    thin_stmt (While loc e x) labels env = then_thin p (thin_expr e env) (thin_choose (enters (while_turns loc e x labels env) (λ c. rets c)) (rets _))
    thin_stmt (For loc start e f x) labels env = thin_in_scope _ _ (init_scope_same start) env (λ inner. then_thin p (thin_for_init start inner)
        (λ v. thin_anew start inner (λ i. thin_turn_if e labels i (for_turns loc start e f x labels i))))
    thin_stmt (ForIn loc target e x) labels env = thin_in_scope _ _ (target_scope_same target) env (λ inner. then_thin p (thin_expr e inner) (λ v. looks_thin (λ log started s.
        thin_through (ForIn loc target e x) (unmarked_stmt (ForIn loc target e x)) target labels env (in_passes loc target e x labels env) (Keys v (keys_of s.heap v)))))
    thin_stmt (ForOf loc target e x) labels env = thin_in_scope _ _ (target_scope_same target) env (λ inner. then_thin p (thin_expr e inner) (λ v. looks_thin (λ log started s.
        or_halt_thin (M.iterated s.heap v) (thin_through (ForOf loc target e x) (unmarked_stmt (ForOf loc target e x)) target labels env (of_passes loc target e x labels env)))))
    thin_stmt (P.Continue loc label) labels env = rets _
    thin_stmt (P.Break loc label) labels env = rets _
    thin_stmt (P.Return loc e) labels env = thin_returned e env
    thin_stmt (Switch loc e cases) labels env = then_thin p (thin_expr e env) (λ v. thin_in_scope _ _ (cases_scope_same cases) env (λ inner.
        handle_thin p (thin_select cases inner v (thin_default cases inner)) thin_after_switch))
    thin_stmt (Labelled loc label x) labels env = handle_thin p (thin_stmt x _ env) (thin_after_label label.name)
    thin_stmt (P.Throw loc e) labels env = then_thin p (thin_expr e env) (λ v. rets _)
    thin_stmt (TryCatch loc xs catch) labels env = handle_thin p (thin_in_block xs env (thin_stmts xs)) (thin_caught (thin_catch catch env))
    thin_stmt (TryFinally loc xs ys) labels env = handle_thin p (thin_in_block xs env (thin_stmts xs)) (thin_finally (thin_in_block ys env (thin_stmts ys)))
    thin_stmt (TryCatchFinally loc xs catch ys) labels env =
        handle_thin p (handle_thin p (thin_in_block xs env (thin_stmts xs)) (thin_caught (thin_catch catch env))) (thin_finally (thin_in_block ys env (thin_stmts ys)))
    thin_stmt (Debugger loc) labels env = rets _
    thin_stmt (FunctionDeclaration loc name function) labels env = rets _
    thin_stmt (EnteredStmt mark (Block loc xs)) labels env = thin_in_block xs env (λ inner. thin_entering mark (thin_stmts xs inner))
    thin_stmt (EnteredStmt mark x) labels env = thin_entering mark (thin_stmt x labels env)

    thin_stmts : (xs : Stmts) (env : ℕ) → Thin p (M.comp_stmts p xs env) (M.comp_stmts q (unmarked_stmts xs) env)
    thin_stmts no_stmt env = rets _
    thin_stmts (more_stmt x no_stmt) env = thin_stmt x [] env
    thin_stmts (more_stmt x (more_stmt y ys)) env = then_thin p (thin_stmt x [] env) (λ v. thin_stmts (more_stmt y ys) env)

    thin_stmt_if : (x : MaybeStmt) (env : ℕ) → Thin p (M.comp_stmt_if p x env) (M.comp_stmt_if q (unmarked_stmt_if x) env)
    thin_stmt_if none_stmt env = rets _
    thin_stmt_if (some_stmt x) env = thin_stmt x [] env
    thin_stmt_if (entered_none mark) env = thin_entering mark (rets _)

    thin_catch : (x : Catch) (env : ℕ) (v : Value) → Thin p (M.comp_catch p x env v) (M.comp_catch q (unmarked_catch x) env v)
    thin_catch (MakeCatch pattern xs) env v = thin_in_catch pattern v env (λ inner. thin_in_block xs inner (thin_stmts xs))

    thin_case : (x : Case) (env : ℕ) → Thin p (M.comp_case p x env) (M.comp_case q (unmarked_case x) env)
    thin_case (MakeCase loc e xs) env = thin_stmts xs env
    thin_case (EnteredCase mark x) env = thin_entering mark (thin_case x env)

    thin_cases : (xs : Cases) (env : ℕ) → Thin p (M.comp_cases p xs env) (M.comp_cases q (unmarked_cases xs) env)
    thin_cases no_case env = rets _
    thin_cases (more_case x xs) env = then_thin p (thin_case x env) (λ v. thin_cases xs env)

    thin_select : (xs : Cases) (env : ℕ) (v : Value) {c d : Comp} → Thin p c d → Thin p (M.comp_select p xs env v c) (M.comp_select q (unmarked_cases xs) env v d)
    thin_select no_case env v h = h
    thin_select (more_case x xs) env v h = thin_test x env v (then_thin p (thin_case x env) (λ w. thin_cases xs env)) (thin_select xs env v h)

    thin_default : (xs : Cases) (env : ℕ) → Thin p (M.comp_default p xs env) (M.comp_default q (unmarked_cases xs) env)
    thin_default no_case env = rets _
    thin_default (more_case x xs) env =
        subst (λ b. Thin p (M.comp_default p (more_case x xs) env) (if b then handle (M.comp_case q (unmarked_case x) env) (M.with_value (λ v. M.comp_cases q (unmarked_cases xs) env)) else M.comp_default q (unmarked_cases xs) env))
        (sym (default_same x))
        (if_thin (M.is_default x) (then_thin p (thin_case x env) (λ w. thin_cases xs env)) (thin_default xs env))

  -- Bodies

  thin_argument : (name : List ℕ) (e : MaybeExpr) (env : ℕ) (v : Value) → Thin p (M.comp_argument p name e env v) (M.comp_argument q name (unmarked_expr_if e) env v)
  thin_argument name none_expr env v = rets _
  thin_argument name (some_expr e) env (value.Primitive primitive.Undefined) = thin_named _ e env (thin_expr e env)
  thin_argument name (some_expr e) env v = rets _

  thin_params : (ps : Params) (env : ℕ) (arguments : List Value) → Thin p (M.comp_params p ps env arguments) (M.comp_params q (unmarked_params ps) env arguments)
  thin_params no_param env arguments = rets _
  thin_params (more_param (MakeParam loc pattern e) ps) env arguments = then_thin p (thin_argument _ e env _)
      (λ v. then_thin p (thin_initialize _ env v) (λ w. thin_params ps env _))

  thin_body : (x : FunctionBody) (env : ℕ) → Thin p (M.comp_body p x env) (M.comp_body q (unmarked_function_body x) env)
  thin_body (MakeFunctionBody loc xs) env = thin_stmts xs env
  thin_body (EnteredBody mark x) env = thin_entering mark (thin_body x env)

  thin_concise : (x : ConciseBody) (env : ℕ) → Thin p (M.comp_concise p x env) (M.comp_concise q (unmarked_concise_body x) env)
  thin_concise (ExpressionBody e) env = then_thin p (thin_expr e env) (λ v. rets _)
  thin_concise (BlockBody x) env = thin_body x env

  in_body_by : (b : Bool) (names : List (List ℕ)) (scope : S.Scope) (env : ℕ) {i j : ℕ → Comp} → ((e : ℕ) → Thin p (i e) (j e)) →
      Thin p (if b then M.within (S.apart_made names scope env) i else act (on_heap (S.body_made names scope env)) (λ s. i env))
      (if b then M.within (S.apart_made names scope env) j else act (on_heap (S.body_made names scope env)) (λ s. j env))
  in_body_by true names scope env h = within_thin (λ k. refl) h
  in_body_by false names scope env h = heap_thin (λ k. refl) (λ log started s. h env)

  thin_in_body : (ps : Params) (scope : S.Scope) (env : ℕ) {i j : ℕ → Comp} → ((e : ℕ) → Thin p (i e) (j e)) →
      Thin p (F.in_body ps scope env i) (F.in_body (unmarked_params ps) scope env j)
  thin_in_body ps scope env {i = i} {j = j} h =
      subst (λ b. Thin p (F.in_body ps scope env i) (if b then M.within (S.apart_made (S.param_names (unmarked_params ps)) scope env) j
      else act (on_heap (S.body_made (S.param_names (unmarked_params ps)) scope env)) (λ s. j env))) (sym (defaults_same ps))
      (subst (λ names. Thin p (F.in_body ps scope env i) (if S.has_defaults ps then M.within (S.apart_made names scope env) j
      else act (on_heap (S.body_made names scope env)) (λ s. j env))) (sym (params_same ps))
      (in_body_by (S.has_defaults ps) (S.param_names ps) scope env h))

  thin_function : (ps : Params) (scope other : S.Scope) → other ≡ scope → (this : List Binding) (env : ℕ) (arguments : List Value) {f g : ℕ → Comp} →
      ((e : ℕ) → Thin p (f e) (g e)) →
      Thin p (F.comp_function p ps scope f this env arguments) (F.comp_function q (unmarked_params ps) other g this env arguments)
  thin_function ps scope other same this env arguments {f = f} {g = g} h =
      subst (λ o. Thin p (F.comp_function p ps scope f this env arguments) (F.comp_function q (unmarked_params ps) o g this env arguments)) (sym same)
      (within_thin (λ i. ap (λ names. S.call_made this names env i) (params_same ps)) (λ e.
      then_thin p (thin_params ps e arguments) (λ v. thin_in_body ps scope e h)))

  thin_code : (code : Code) (env : ℕ) (this : Value) (arguments : List Value) → Thin p (F.comp_code p code env this arguments) (F.comp_code q (unmarked_code code) env this arguments)
  thin_code (Ordinary (MakeFunction number params body)) env this arguments =
      thin_function params _ _ (braced_scope_same body) (F.this_bound this) env arguments (thin_body body)
  thin_code (OfMethod (MakeFunction number params body)) env this arguments =
      thin_function params _ _ (braced_scope_same body) (F.this_bound this) env arguments (thin_body body)
  thin_code (Arrow number params body) env this arguments = thin_function params _ _ (concise_scope_same body) [] env arguments (thin_concise body)

  thin_coded : (code : Option Code) (env : ℕ) (this : Value) (arguments : List Value) →
      Thin p (F.comp_coded p code env this arguments) (F.comp_coded q (option_map unmarked_code code) env this arguments)
  thin_coded None env this arguments = rets _
  thin_coded (Some code) env this arguments = thin_code code env this arguments

  thin_at : (code env : ℕ) (this : Value) (arguments : List Value) →
      Thin p (F.comp_coded p (program.function_at p code) env this arguments) (F.comp_coded q (program.function_at q code) env this arguments)
  thin_at code env this arguments =
      subst (λ o. Thin p (F.comp_coded p (program.function_at p code) env this arguments) (F.comp_coded q o env this arguments)) (sym (code_same p code))
      (thin_coded (program.function_at p code) env this arguments)

  thin_after_call : (c : Completion) → Thin p (F.after_call c) (F.after_call c)
  thin_after_call (completion.Normal v) = rets _
  thin_after_call (completion.Break label) = rets _
  thin_after_call (completion.Continue label) = rets _
  thin_after_call (completion.Return v) = rets _
  thin_after_call (completion.Throw v) = rets _

  thin_after_construct : (made : ℕ) (c : Completion) → Thin p (F.after_construct made c) (F.after_construct made c)
  thin_after_construct made (completion.Normal v) = rets _
  thin_after_construct made (completion.Break label) = rets _
  thin_after_construct made (completion.Continue label) = rets _
  thin_after_construct made (completion.Return v) = rets _
  thin_after_construct made (completion.Throw v) = rets _

  thin_call_code : (code env : ℕ) (this : Value) (arguments : List Value) → Thin p (F.call_code p code env this arguments) (F.call_code q code env this arguments)
  thin_call_code code env this arguments = handle_thin p (thin_at code env this arguments) thin_after_call

  -- Files

  thin_file_body : (tree : P.File) (exports : ℕ) → Thin p (F.comp_file p tree exports) (F.comp_file q (unmarked_file tree) exports)
  thin_file_body (MakeFile xs comments) exports = within_thin (λ h. refl) (λ e.
      heap_thin {i = λ s. handle (M.comp_stmts p xs e) F.after_call} {j = λ s. handle (M.comp_stmts q (unmarked_stmts xs) e) F.after_call} (λ h. ap (λ scope. S.body_made F.file_names scope e h) (body_scope_same xs)) (λ log started s.
      handle_thin p (thin_stmts xs e) thin_after_call))

  thin_run : (source : Source) (file : ℕ) → slice_get p.files file ≡ Some source → (counted : Bool) → source.counted ≡ counted →
      Thin p (if counted then enter (E.Start file) ret else F.run_source p source file) (F.run_source q (unmarked_source source) file)
  thin_run source file at true c = starts file source at c (λ log started s. refl) (λ log started s.
      subst (λ d. Thin p d (F.comp_file q (unmarked_file source.tree) (next_object s.heap))) (sym (handle_ret (F.comp_file p source.tree (next_object s.heap))))
      (thin_file_body source.tree (next_object s.heap)))
  thin_run source file at false c = acts
      (λ s. let b = begun p source file s at in let n : one_if source.counted ≡ 0 = ap one_if c in omega (arith, b, n))
      (λ log started s. refl) (λ log started s. thin_file_body source.tree (next_object s.heap))

  thin_start : (source : Option Source) (file : ℕ) → slice_get p.files file ≡ source →
      Thin p (F.start_source p source file) (F.start_source q (option_map unmarked_source source) file)
  thin_start None file at = rets _
  thin_start (Some source) file at = thin_run source file at source.counted refl

  pub thin_file : (file : ℕ) → Thin p (F.start_file p file) (F.start_file q file)
  thin_file file = subst (λ source. Thin p (F.start_file p file) (F.start_source q source file)) (sym (slice_get-map unmarked_source p.files file))
      (thin_start (slice_get p.files file) file refl)

  thin_exports : (path : List ℕ) → Thin p (F.exports_of path) (F.exports_of path)
  thin_exports path = looks_thin (λ log started s. rets _)

  thin_after_start : (path : List ℕ) (c : Completion) → Thin p (F.after_start path c) (F.after_start path c)
  thin_after_start path (completion.Throw v) = acts (λ s. refl) (λ log started s. refl) (λ log started s. rets _)
  thin_after_start path (completion.Normal v) = thin_exports path
  thin_after_start path (completion.Break label) = thin_exports path
  thin_after_start path (completion.Continue label) = thin_exports path
  thin_after_start path (completion.Return v) = thin_exports path

  thin_require_new : (path : List ℕ) (file : Option ℕ) → Thin p (F.require_new p path file) (F.require_new q path file)
  thin_require_new path None = thin_complain complaint.NoSuchFile
  thin_require_new path (Some file) = handle_thin p (thin_file file) (thin_after_start path)

  thin_require_path : (log : List Mark) (started : List ℕ) (s : Store) (path : Option (List ℕ)) →
      Thin p (F.require_path p s path) (F.require_path q (but_for log started s) path)
  thin_require_path log started s None = thin_complain complaint.NoSuchFile
  thin_require_path log started s (Some path) = if_thin (is_some (cached s path)) (thin_exports path)
      (subst (λ file. Thin p (F.require_new p path (program.file_at p path)) (F.require_new q path file)) (sym (path_same p path)) (thin_require_new path (program.file_at p path)))

  -- What a step is for

  thin_native : {f g : Value → Value → List Value → Comp} → ((function this : Value) (vs : List Value) → Thin p (f function this vs) (g function this vs)) →
      (callee : ℕ) (answer : Native) → Thin p (F.native p f callee answer) (F.native q g callee answer)
  thin_native h callee (Answers v) = rets _
  thin_native h callee (Throws kind message) = acts (λ s. refl) (λ log started s. refl) (λ log started s. rets _)
  thin_native h callee (RefusesKind k) = refuses k
  thin_native h callee (Writes bytes) = acts (λ s. refl) (λ log started s. refl) (λ log started s. rets _)
  thin_native h callee (Calls function this arguments) = h function this arguments
  thin_native h callee (Requires units) = looks_thin (λ log started s. thin_require_path log started s (required_path s callee units))

  thin_call_native : {f g : Value → Value → List Value → Comp} → ((function this : Value) (vs : List Value) → Thin p (f function this vs) (g function this vs)) →
      (callee function : ℕ) (maker : Option ℕ) (this : Value) (arguments : List Value) →
      Thin p (F.call_native p f callee function maker this arguments) (F.call_native q g callee function maker this arguments)
  thin_call_native h callee function maker this arguments = acts (λ s. refl) (λ log started s. refl) (λ log started s.
      thin_native h callee (native_of function (is_some maker) this arguments s.heap))

  thin_hand_kind : (kind : ObjectKind) (callee : ℕ) (this : Value) (arguments : List Value) → Thin p (F.hand_kind p kind callee this arguments) (F.hand_kind q kind callee this arguments)
  thin_hand_kind (BuiltIn function) callee this arguments = if_thin (is_handing function)
      (enters (natives callee function None this arguments) (λ c. rets c)) (thin_call_native (λ f t vs. rets _) callee function None this arguments)
  thin_hand_kind (Written code env) callee this arguments = thin_call_code code env this arguments
  thin_hand_kind _ callee this arguments = thin_complain complaint.NotAFunction

  thin_hand_on : (f this : Value) (arguments : List Value) → Thin p (F.hand_on p f this arguments) (F.hand_on q f this arguments)
  thin_hand_on (value.Primitive v) this arguments = thin_complain complaint.NotAFunction
  thin_hand_on (value.Object o) this arguments = looks_thin (λ log started s. thin_hand_kind (kind_of s.heap o.index) o.index this arguments)

  pub thin_inside : (e f : Entry) → SameEntry e f → Thin p (F.inside p e) (F.inside q f)
  thin_inside e f (calls code env this arguments) = thin_call_code code env this arguments
  thin_inside e f (news maker code env arguments) = acts (λ s. refl) (λ log started s. refl) (λ log started s.
      handle_thin p (thin_at code env (object (next_object s.heap)) arguments) (thin_after_construct (next_object s.heap)))
  thin_inside e f (natives callee function maker this arguments) = thin_call_native thin_hand_on callee function maker this arguments
  thin_inside e f (do_turns loc x g labels env) = handle_thin p (thin_stmt x [] env) (thin_after_turn labels
      (then_thin p (thin_expr g env) (thin_choose (enters (do_turns loc x g labels env) (λ c. rets c)) (rets _))))
  thin_inside e f (while_turns loc g x labels env) = handle_thin p (thin_stmt x [] env) (thin_after_turn labels (thin_stmt (While loc g x) labels env))
  thin_inside e f (for_turns loc start g h x labels env) = handle_thin p (thin_stmt x [] env) (thin_after_turn labels (thin_anew start env (λ inner.
      then_thin p (thin_expr_if h inner) (λ v. thin_turn_if g labels inner (for_turns loc start g h x labels inner)))))
  thin_inside e f (in_passes loc target g x labels env inner rest) = handle_thin p (thin_stmt x [] inner) (thin_after_turn labels
      (thin_through (ForIn loc target g x) (unmarked_stmt (ForIn loc target g x)) target labels env (in_passes loc target g x labels env) rest))
  thin_inside e f (of_passes loc target g x labels env inner rest) = handle_thin p (thin_stmt x [] inner) (thin_after_turn labels
      (thin_through (ForOf loc target g x) (unmarked_stmt (ForOf loc target g x)) target labels env (of_passes loc target g x labels env) rest))
