-- Every form and every step of a program puts more after what was printed and entered.
use Rattle.std.proofs.Common.{ℕ, Bool, true, false, List, [], ◌∷◌, ◌++◌, Option, Some, None, if◌then◌else◌, ℤ, is_some, Ok, Err}
use Rattle.std.specs.Prelude.{slice_get, option_map}
use Rattle.std.specs.Str.{bytes_eq}
use Rattle.js_terms.specs.declared.operators.BinaryOperator.{BinaryOperator}
use Rattle.js_terms.specs.declared.operators.BinaryOperator.TheVariants as binary_operator
use Rattle.js_terms.specs.declared.operators.LogicalOperator.{LogicalOperator}
use Rattle.js_terms.specs.declared.operators.LogicalOperator.TheVariants as logical
use Rattle.js_terms.specs.declared.operators.UnaryOperator.{UnaryOperator}
use Rattle.js_terms.specs.declared.operators.UnaryOperator.TheVariants as unary_operator
use Rattle.js_terms.specs.declared.operators.UpdateOperator.{UpdateOperator}
use Rattle.js_terms.specs.declared.operators.VariableKind.{VariableKind}
use Rattle.js_terms.specs.declared.operators.VariableKind.TheVariants as variable
use Rattle.js_tree.specs.Plain as P
use Rattle.js_tree.specs.Plain.{Expr, IdentifierReference, This, NullLiteral, BooleanLiteral, NumericLiteral, StringLiteral, ArrayLiteral, ObjectLiteral, FunctionExpression, ArrowFunction, RegularExpressionLiteral, TemplateLiteral, Parenthesized, NamedMember, ComputedMember, New, PostfixUpdate, PrefixUpdate, Unary, Binary, Logical, Conditional, Assignment, Comma, Entered, Exprs, no_expr, more_expr, MaybeExpr, none_expr, some_expr}
use Rattle.js_tree.specs.Plain.{TemplateParts, no_template_part, more_template_part, MakeTemplatePart, Properties, no_property, more_property, Property, Shorthand, KeyValue, Method, PropertyKey, NameKey, StringKey, NumberKey, ComputedKey}
use Rattle.js_tree.specs.Plain.{Stmt, Directive, Block, VariableDeclaration, Empty, Expression, If, DoWhile, While, For, ForIn, ForOf, Switch, Labelled, TryCatch, TryFinally, TryCatchFinally, Debugger, FunctionDeclaration, EnteredStmt, Stmts, no_stmt, more_stmt, MaybeStmt, none_stmt, some_stmt, entered_none}
use Rattle.js_tree.specs.Plain.{Declarator, MakeDeclarator, Declarators, no_declarator, more_declarator, ForInit, NoInit, InitDeclaration, InitExpression, ForTarget, TargetDeclaration, TargetExpression, Cases, no_case, more_case, Case, MakeCase, EnteredCase, Catch, MakeCatch, MaybePattern, none_pattern, some_pattern}
use Rattle.js_tree.specs.Plain.{FunctionBody, MakeFunctionBody, EnteredBody, ConciseBody, ExpressionBody, BlockBody, MakeFunction, Params, no_param, more_param, MakeParam, MakeFile}
use Rattle.js_tree.specs.Codes.{Code, Ordinary, OfMethod, Arrow}
use Rattle.js_terms.specs.Mark.{Mark}
use Rattle.js_value.specs.declared.value.Value.{Value}
use Rattle.js_value.specs.declared.value.Value.TheVariants as value
use Rattle.js_value.specs.declared.value.Primitive.TheVariants as primitive
use Rattle.js_value.specs.declared.deed.Complaint.{Complaint}
use Rattle.js_value.specs.declared.deed.Complaint.TheVariants as complaint
use Rattle.js_value.specs.declared.deed.Halt.{Halt}
use Rattle.js_value.specs.declared.deed.Halt.TheVariants as halt
use Rattle.js_value.specs.Conversions.{Answer, Gives, Refuses, Numbered, Is, NoNumber, to_number, to_boolean}
use Rattle.js_value.specs.Operators.{binary}
use Rattle.js_value.specs.UnaryOperators.{unary, stepped}
use Rattle.js_value.specs.Equality.{strictly_equal}
use Rattle.js_value.specs.State.{ObjectKind, BuiltIn, Written, Binding, Heap, Store}
use Rattle.js_value.specs.Objects.{kind_of, next_object}
use Rattle.js_value.specs.Environments.{Cell, lookup, value_of, name_answer, Assign, Done, Dead, Constant, next_environment}
use Rattle.js_value.specs.Running.{on_heap, cached}
use Rattle.js_value.specs.Realm.{object, text}
use Rattle.js_value.specs.Requiring.{required_path}
use Rattle.js_value.specs.Arguments.{Or}
use Rattle.js_value.specs.Copying.{Copied}
use Rattle.js_value.specs.Host.{Native, Answers, Throws, Refuses as RefusesKind, Writes, Calls, Requires, native_of}
use Rattle.js_meaning.specs.declared.outcome.Completion.{Completion}
use Rattle.js_meaning.specs.declared.outcome.Completion.TheVariants as completion
use Rattle.js_meaning.specs.Effects as E
use Rattle.js_meaning.specs.Effects.{Entry, Comp, ret, act, enter, handle}
use Rattle.js_value.specs.Functions.{is_handing, name_units, constructs}
use Rattle.js_value.specs.Iterations.{keys_of, Iteration, Keys, Taken, next_of}
use Rattle.js_value.specs.Numbers.{literal_number}
use Rattle.js_meaning.specs.Scopes as S
use Rattle.js_meaning.specs.Program as program
use Rattle.js_meaning.specs.Program.{Source, Sources}
use Rattle.js_meaning.specs.Meaning as M
use Rattle.js_meaning.specs.Meaning.{Reference}
use Rattle.js_meaning.specs.Files as F
use Rattle.js_meaning.proofs.Growth.{Grows, grows_handle, same_list, longer, same_store}

grows_value : (f : Value → Comp) → ((v : Value) → Grows (f v)) → (c : Completion) → Grows (M.with_value f c)
grows_value f h (completion.Normal v) = h v
grows_value f h (completion.Break label) = tt
grows_value f h (completion.Continue label) = tt
grows_value f h (completion.Return v) = tt
grows_value f h (completion.Throw v) = tt

-- a computation, and what is done with its value
grows_then : (c : Comp) (f : Value → Comp) → Grows c → ((v : Value) → Grows (f v)) → Grows (handle c (M.with_value f))
grows_then c f g h = grows_handle c (M.with_value f) g (grows_value f h)

grows_if : (b : Bool) (c d : Comp) → Grows c → Grows d → Grows (if b then c else d)
grows_if true c d g h = g
grows_if false c d g h = h

-- a change of the heap
grows_heap : (change : Heap → Heap) (next : Store → Comp) → ((s : Store) → Grows (next s)) → Grows (act (on_heap change) next)
grows_heap change next h = λ s. (record { output = same_list s.output; log = same_list s.log }, h s)

grows_looks : (next : Store → Comp) → ((s : Store) → Grows (next s)) → Grows (M.looks next)
grows_looks next h = λ s. (same_store s, h s)

grows_within : (change : Heap → Heap) (next : ℕ → Comp) → ((e : ℕ) → Grows (next e)) → Grows (M.within change next)
grows_within change next h = grows_heap change _ (λ s. h (next_environment s.heap))

grows_complain : (c : Complaint) → Grows (M.complain c)
grows_complain c = (λ s. (record { output = same_list s.output; log = same_list s.log }, tt))

grows_halted : (h : Halt) → Grows (M.halted h)
grows_halted (halt.Throw c) = grows_complain c
grows_halted (halt.Refuse k) = tt
grows_halted halt.Memory = tt

grows_or_halt : {A : Type 0} (o : Or A) (next : A → Comp) → ((a : A) → Grows (next a)) → Grows (M.or_halt o next)
grows_or_halt (Ok a) next h = h a
grows_or_halt (Err b) next h = grows_halted b

grows_unless : (o : Option Halt) (c : Comp) → Grows c → Grows (M.unless_halted o c)
grows_unless None c g = g
grows_unless (Some h) c g = grows_halted h

grows_changes : (change : Heap → Copied) (v : Value) → Grows (M.changes change v)
grows_changes change v = grows_heap _ _ (λ s. grows_unless (change s.heap).halt (M.give v) tt)

grows_entering : (mark : Mark) (c : Comp) → Grows c → Grows (M.entering mark c)
grows_entering mark c g = grows_value (λ v. c) (λ v. g)

grows_held : (v : Option Value) → Grows (elim v [ None ↦ M.complain complaint.NotInitialised | Some w ↦ M.give w ])
grows_held None = (λ s. (record { output = same_list s.output; log = same_list s.log }, tt))
grows_held (Some v) = tt

grows_value_in : (h : Heap) (cell : Option Cell) → Grows (M.value_in h cell)
grows_value_in h None = (λ s. (record { output = same_list s.output; log = same_list s.log }, tt))
grows_value_in h (Some cell) = grows_held (value_of h cell)

grows_read : (name : List ℕ) (env : ℕ) → Grows (M.read name env)
grows_read name env = grows_looks _ (λ s. grows_value_in s.heap (lookup s.heap env name))

grows_assigns : (v : Value) (a : Option Assign) → Grows (M.assigns v a)
grows_assigns v None = grows_complain complaint.NotDefined
grows_assigns v (Some Done) = tt
grows_assigns v (Some Dead) = grows_complain complaint.NotInitialised
grows_assigns v (Some Constant) = grows_complain complaint.NotAssignable

grows_write : (name : List ℕ) (env : ℕ) (v : Value) → Grows (M.write name env v)
grows_write name env v = grows_heap _ _ (λ s. grows_assigns v (name_answer s.heap env name))

grows_initializes : (v : Value) (cell : Option Cell) → Grows (M.initializes v cell)
grows_initializes v None = grows_complain complaint.NotDefined
grows_initializes v (Some cell) = tt

grows_initialize : (name : List ℕ) (env : ℕ) (v : Value) → Grows (M.initialize name env v)
grows_initialize name env v = grows_heap _ _ (λ s. grows_initializes v (lookup s.heap env name))

grows_member : (base key : Value) → Grows (M.get_member_of base key)
grows_member base key = grows_looks _ (λ s. grows_or_halt _ M.give (λ v. tt))

grows_get : (env : ℕ) (r : Reference) → Grows (M.get_value env r)
grows_get env (M.Name name) = grows_read name env
grows_get env (M.Member base key) = grows_member base key

grows_put : (env : ℕ) (r : Reference) (v : Value) → Grows (M.put_value env r v)
grows_put env (M.Name name) v = grows_write name env v
grows_put env (M.Member base key) v = grows_changes _ v

grows_deleted : (r : Reference) → Grows (M.deleted r)
grows_deleted (M.Name name) = tt
grows_deleted (M.Member base key) = grows_changes _ _

grows_answered : (a : Answer) → Grows (M.answered a)
grows_answered (Gives p) = tt
grows_answered (Refuses k) = tt

grows_numbered : (n : Numbered) (next : ℤ → Comp) → ((m : ℤ) → Grows (next m)) → Grows (M.numbered n next)
grows_numbered (Is n) next h = h n
grows_numbered (NoNumber k) next h = tt

grows_number : (n : Option ℤ) → Grows (M.number n)
grows_number None = tt
grows_number (Some n) = tt

grows_number_key : (n : Option ℤ) (next : List ℕ → Comp) → ((k : List ℕ) → Grows (next k)) → Grows (M.number_key n next)
grows_number_key None next h = tt
grows_number_key (Some n) next h = h _

grows_operated : (operator : BinaryOperator) (v w : Value) → Grows (M.operated operator v w)
grows_operated binary_operator.In v w = grows_looks _ (λ s. grows_or_halt _ M.truth (λ b. tt))
grows_operated binary_operator.InstanceOf v w = grows_looks _ (λ s. grows_or_halt _ M.truth (λ b. tt))
grows_operated operator v w = grows_answered (binary operator v w)

grows_unary : (operator : UnaryOperator) (v : Value) → Grows (M.operated_unary operator v)
grows_unary unary_operator.Delete v = tt
grows_unary unary_operator.Void v = tt
grows_unary unary_operator.TypeOf v = (λ s. (same_store s, tt))
grows_unary operator v = grows_answered (unary operator v)

grows_if_there : (name : Option (List ℕ)) (env : ℕ) (c : Comp) → Grows c → Grows (M.if_there name env c)
grows_if_there None env c g = g
grows_if_there (Some name) env c g = grows_looks _ (λ s. grows_if (is_some (lookup s.heap env name)) _ _ g tt)

grows_choose : (c d : Comp) (v : Value) → Grows c → Grows d → Grows (M.choose c d v)
grows_choose c d v g h = grows_if (to_boolean v) c d g h

grows_chosen : (operator : LogicalOperator) (c : Comp) (v : Value) → Grows c → Grows (M.chosen operator c v)
grows_chosen logical.And c v g = grows_choose c _ v g tt
grows_chosen logical.Or c v g = grows_choose _ c v tt g
grows_chosen logical.Coalesce c v g = grows_if (M.is_nullish v) c _ g tt

grows_updates : (prefix : Bool) (operator : UpdateOperator) (env : ℕ) (r : Reference) → Grows (M.updates prefix operator env r)
grows_updates prefix operator env r = grows_then (M.get_value env r) _ (grows_get env r) (λ v.
    grows_numbered (to_number v) _ (λ old. grows_numbered (stepped operator old) _ (λ new.
    grows_then (M.put_value env r (M.number_value new)) _ (grows_put env r (M.number_value new)) (λ w. tt))))

grows_closure : (code : Code) (name : List ℕ) (env : ℕ) → Grows (M.closure code name env)
grows_closure code name env = (λ s. (record { output = same_list s.output; log = same_list s.log }, tt))

grows_own_named : (name : List ℕ) (code : Code) (env : ℕ) → Grows (M.own_named name code env)
grows_own_named name code env = λ s. (record { output = same_list s.output; log = same_list s.log }, λ t. (record { output = same_list t.output; log = same_list t.log }, grows_initialize name (next_environment s.heap) (object (next_object t.heap))))

-- an object that is made, and what is done with it
grows_makes : (change : Heap → Heap) (f : Value → Comp) → ((v : Value) → Grows (f v)) → Grows (handle (M.makes change) (M.with_value f))
grows_makes change f h = grows_then (M.makes change) f (λ s. (record { output = same_list s.output; log = same_list s.log }, tt)) h

abbrev GrowsIf : Option Comp → Type 0
GrowsIf None = Unit {0}
GrowsIf (Some c) = Grows c

grows_map : (mark : Mark) (o : Option Comp) → GrowsIf o → GrowsIf (option_map (M.entering mark) o)
grows_map mark None g = tt
grows_map mark (Some c) g = grows_entering mark c g

grows_named_function : (e : Expr) (name : List ℕ) (env : ℕ) → GrowsIf (M.named_function e name env)
grows_named_function (FunctionExpression loc None function) name env = grows_closure (Ordinary function) name env
grows_named_function (ArrowFunction loc number params body) name env = grows_closure (Arrow number params body) name env
grows_named_function (Parenthesized loc e) name env = grows_named_function e name env
grows_named_function (Entered mark e) name env = grows_map mark (M.named_function e name env) (grows_named_function e name env)
grows_named_function _ name env = tt

grows_either : (o : Option Comp) (c : Comp) → GrowsIf o → Grows c → Grows (elim o [ None ↦ c | Some d ↦ d ])
grows_either None c h g = g
grows_either (Some d) c h g = h

grows_named : (name : List ℕ) (e : Expr) (env : ℕ) (c : Comp) → Grows c → Grows (M.named name e env c)
grows_named name e env c g = grows_either (M.named_function e name env) c (grows_named_function e name env) g

grows_named_for : (r : Reference) (e : Expr) (env : ℕ) (c : Comp) → Grows c → Grows (M.named_for r e env c)
grows_named_for (M.Name name) e env c g = grows_named _ e env c g
grows_named_for (M.Member base key) e env c g = g

grows_assigning : (operator : Option BinaryOperator) (r : Reference) (e : Expr) (env : ℕ) (c : Comp) → Grows c → Grows (M.assigning operator r e env c)
grows_assigning None r e env c g = grows_then (M.named_for r e env c) _ (grows_named_for r e env c g) (grows_put env r)
grows_assigning (Some operator) r e env c g = grows_then (M.get_value env r) _ (grows_get env r) (λ v. grows_then c _ g (λ w.
    grows_then (M.operated operator v w) _ (grows_operated operator v w) (grows_put env r)))

grows_call_kind : (kind : ObjectKind) (callee : ℕ) (this : Value) (arguments : List Value) → Grows (M.call_kind kind callee this arguments)
grows_call_kind (BuiltIn function) callee this arguments = λ c. tt
grows_call_kind (Written code env) callee this arguments = λ c. tt
grows_call_kind _ callee this arguments = (λ s. (record { output = same_list s.output; log = same_list s.log }, tt))

grows_call : (f this : Value) (arguments : List Value) → Grows (M.call f this arguments)
grows_call (value.Primitive p) this arguments = (λ s. (record { output = same_list s.output; log = same_list s.log }, tt))
grows_call (value.Object o) this arguments = grows_looks _ (λ s. grows_call_kind (kind_of s.heap o.index) o.index this arguments)

grows_construct_kind : (p : Sources) (kind : ObjectKind) (maker : ℕ) (arguments : List Value) → Grows (M.construct_kind p kind maker arguments)
grows_construct_kind p (BuiltIn function) maker arguments = grows_if (constructs function) _ _ (λ c. tt) ((λ s. (record { output = same_list s.output; log = same_list s.log }, tt)))
grows_construct_kind p (Written code env) maker arguments = grows_if (program.constructs p code) _ _ (λ c. tt) ((λ s. (record { output = same_list s.output; log = same_list s.log }, tt)))
grows_construct_kind p _ maker arguments = (λ s. (record { output = same_list s.output; log = same_list s.log }, tt))

grows_construct : (p : Sources) (f : Value) (arguments : List Value) → Grows (M.construct p f arguments)
grows_construct p (value.Primitive v) arguments = (λ s. (record { output = same_list s.output; log = same_list s.log }, tt))
grows_construct p (value.Object o) arguments = grows_looks _ (λ s. grows_construct_kind p (kind_of s.heap o.index) o.index arguments)

grows_turn : (x : Stmt) (labels : List (List ℕ)) (env : ℕ) (v : Value) → Grows (M.turn x labels env v)
grows_turn x labels env v = grows_choose (enter (E.Turn x labels env) ret) M.done v (λ c. tt) tt

grows_after_turn : (labels : List (List ℕ)) (again : Comp) → Grows again → (c : Completion) → Grows (M.after_turn labels again c)
grows_after_turn labels again g (completion.Normal v) = g
grows_after_turn labels again g (completion.Break None) = tt
grows_after_turn labels again g (completion.Break (Some label)) = tt
grows_after_turn labels again g (completion.Continue None) = g
grows_after_turn labels again g (completion.Continue (Some label)) = grows_if (S.stands_in label labels) _ _ g tt
grows_after_turn labels again g (completion.Return v) = tt
grows_after_turn labels again g (completion.Throw v) = tt

grows_after_label : (label : List ℕ) (c : Completion) → Grows (M.after_label label c)
grows_after_label label (completion.Break (Some other)) = grows_if (bytes_eq other label) _ _ tt tt
grows_after_label label (completion.Break None) = tt
grows_after_label label (completion.Normal v) = tt
grows_after_label label (completion.Continue l) = tt
grows_after_label label (completion.Return v) = tt
grows_after_label label (completion.Throw v) = tt

grows_after_switch : (c : Completion) → Grows (M.after_switch c)
grows_after_switch (completion.Break None) = tt
grows_after_switch (completion.Break (Some label)) = tt
grows_after_switch (completion.Normal v) = tt
grows_after_switch (completion.Continue l) = tt
grows_after_switch (completion.Return v) = tt
grows_after_switch (completion.Throw v) = tt

grows_caught : (next : Value → Comp) → ((v : Value) → Grows (next v)) → (c : Completion) → Grows (M.caught next c)
grows_caught next h (completion.Throw v) = h v
grows_caught next h (completion.Break label) = tt
grows_caught next h (completion.Normal v) = tt
grows_caught next h (completion.Continue l) = tt
grows_caught next h (completion.Return v) = tt

grows_finally : (last : Comp) → Grows last → (c : Completion) → Grows (M.finally last c)
grows_finally last g c = grows_then last _ g (λ v. tt)

grows_in_names : (names : List Binding) (functions : List S.Hoisted) (env : ℕ) (next : ℕ → Comp) → ((e : ℕ) → Grows (next e)) →
    Grows (M.in_names names functions env next)
grows_in_names [] functions env next h = h env
grows_in_names (b ∷ bs) functions env next h = grows_within _ next h

grows_in_scope : (scope : S.Scope) (env : ℕ) (next : ℕ → Comp) → ((e : ℕ) → Grows (next e)) → Grows (M.in_scope scope env next)
grows_in_scope scope env next h = grows_in_names _ scope.functions env next h

grows_in_catch : (pattern : MaybePattern) (v : Value) (env : ℕ) (next : ℕ → Comp) → ((e : ℕ) → Grows (next e)) → Grows (M.in_catch pattern v env next)
grows_in_catch none_pattern v env next h = h env
grows_in_catch (some_pattern pattern) v env next h = grows_within _ next h

grows_anew : (start : ForInit) (env : ℕ) (next : ℕ → Comp) → ((e : ℕ) → Grows (next e)) → Grows (M.anew start env next)
grows_anew start env next h = grows_if (S.is_fresh start) _ _ (grows_within _ next h) (h env)

grows_binds : (kind : VariableKind) (name : List ℕ) (env : ℕ) (v : Value) → Grows (M.binds kind name env v)
grows_binds variable.Var name env v = grows_write name env v
grows_binds variable.Let name env v = grows_initialize name env v
grows_binds variable.Const name env v = grows_initialize name env v

grows_binds_none : (kind : VariableKind) (name : List ℕ) (env : ℕ) → Grows (M.binds_none kind name env)
grows_binds_none variable.Var name env = tt
grows_binds_none variable.Let name env = grows_initialize name env _
grows_binds_none variable.Const name env = grows_initialize name env _

grows_defines : (o : ℕ) (key : List ℕ) (v : Value) → Grows (M.defines o key v)
grows_defines o key v = (λ s. (record { output = same_list s.output; log = same_list s.log }, tt))

module _ (p : Sources) where
  mutual
    grows_expr : (e : Expr) (env : ℕ) → Grows (M.comp_expr p e env)
    grows_expr (IdentifierReference loc name) env = grows_read name env
    grows_expr (This loc) env = grows_read _ env
    grows_expr (NullLiteral loc) env = tt
    grows_expr (BooleanLiteral loc b) env = tt
    grows_expr (NumericLiteral loc spelling) env = grows_number (literal_number spelling)
    grows_expr (StringLiteral loc spelled) env = tt
    grows_expr (ArrayLiteral loc items) env = grows_values items env [] _ (λ vs. (λ s. (record { output = same_list s.output; log = same_list s.log }, tt)))
    grows_expr (ObjectLiteral loc properties) env = grows_heap _ _ (λ s. grows_properties properties env (next_object s.heap))
    grows_expr (FunctionExpression loc None function) env = grows_closure (Ordinary function) [] env
    grows_expr (FunctionExpression loc (Some name) function) env = grows_own_named name.name (Ordinary function) env
    grows_expr (ArrowFunction loc number params body) env = grows_closure (Arrow number params body) [] env
    grows_expr (RegularExpressionLiteral loc pattern flags) env = (λ s. (record { output = same_list s.output; log = same_list s.log }, tt))
    grows_expr (TemplateLiteral loc spelled parts) env = grows_template_parts parts env spelled.units
    grows_expr (Parenthesized loc e) env = grows_expr e env
    grows_expr (NamedMember loc e name) env = grows_then (M.comp_expr p e env) _ (grows_expr e env) (λ base. grows_member base (text (name_units name)))
    grows_expr (ComputedMember loc e f) env = grows_then (M.comp_expr p e env) _ (grows_expr e env) (λ base.
        grows_then (M.comp_expr p f env) _ (grows_expr f env) (grows_member base))
    grows_expr (New loc e arguments) env = grows_then (M.comp_expr p e env) _ (grows_expr e env) (λ f. grows_values arguments env [] _ (grows_construct p f))
    grows_expr (P.Call loc e arguments) env = grows_reference e env _ _
        (grows_then (M.comp_expr p e env) _ (grows_expr e env) (λ f. grows_values arguments env [] _ (grows_call f _)))
        (λ r. grows_then (M.get_value env r) _ (grows_get env r) (λ f. grows_values arguments env [] _ (grows_call f _)))
    grows_expr (PostfixUpdate loc operator e) env = grows_reference e env _ _ ((λ s. (record { output = same_list s.output; log = same_list s.log }, tt))) (grows_updates false operator env)
    grows_expr (PrefixUpdate loc operator e) env = grows_reference e env _ _ ((λ s. (record { output = same_list s.output; log = same_list s.log }, tt))) (grows_updates true operator env)
    grows_expr (Unary loc unary_operator.Delete e) env = grows_reference e env _ _
        (grows_then (M.comp_expr p e env) _ (grows_expr e env) (grows_unary unary_operator.Delete)) grows_deleted
    grows_expr (Unary loc unary_operator.TypeOf e) env = grows_if_there (M.name_of e) env _
        (grows_then (M.comp_expr p e env) _ (grows_expr e env) (grows_unary unary_operator.TypeOf))
    grows_expr (Unary loc operator e) env = grows_then (M.comp_expr p e env) _ (grows_expr e env) (grows_unary operator)
    grows_expr (Binary loc operator e f) env = grows_then (M.comp_expr p e env) _ (grows_expr e env)
        (λ v. grows_then (M.comp_expr p f env) _ (grows_expr f env) (grows_operated operator v))
    grows_expr (Logical loc operator e f) env = grows_then (M.comp_expr p e env) _ (grows_expr e env) (λ v. grows_chosen operator _ v (grows_expr f env))
    grows_expr (Conditional loc e f g) env = grows_then (M.comp_expr p e env) _ (grows_expr e env) (λ v. grows_choose _ _ v (grows_expr f env) (grows_expr g env))
    grows_expr (Assignment loc operator target e) env = grows_reference target env _ _ ((λ s. (record { output = same_list s.output; log = same_list s.log }, tt)))
        (λ r. grows_assigning (M.operator_of operator) r e env _ (grows_expr e env))
    grows_expr (Comma loc e f) env = grows_then (M.comp_expr p e env) _ (grows_expr e env) (λ v. grows_expr f env)
    grows_expr (Entered mark e) env = grows_entering mark (M.comp_expr p e env) (grows_expr e env)

    grows_reference : (e : Expr) (env : ℕ) (otherwise : Comp) (next : Reference → Comp) → Grows otherwise → ((r : Reference) → Grows (next r)) →
        Grows (M.comp_reference p e env otherwise next)
    grows_reference (IdentifierReference loc name) env otherwise next g h = h _
    grows_reference (NamedMember loc e name) env otherwise next g h = grows_then (M.comp_expr p e env) _ (grows_expr e env) (λ base. h _)
    grows_reference (ComputedMember loc e f) env otherwise next g h = grows_then (M.comp_expr p e env) _ (grows_expr e env) (λ base.
        grows_then (M.comp_expr p f env) _ (grows_expr f env) (λ key. h _))
    grows_reference (Parenthesized loc e) env otherwise next g h = grows_reference e env otherwise next g h
    grows_reference (Entered mark e) env otherwise next g h = grows_entering mark _ (grows_reference e env otherwise next g h)
    grows_reference _ env otherwise next g h = g

    grows_values : (xs : Exprs) (env : ℕ) (values : List Value) (next : List Value → Comp) → ((vs : List Value) → Grows (next vs)) →
        Grows (M.comp_values p xs env values next)
    grows_values no_expr env values next h = h values
    grows_values (more_expr x xs) env values next h =
        grows_then (M.comp_expr p x env) _ (grows_expr x env) (λ v. grows_values xs env (values ++ v ∷ []) next h)

    grows_template_parts : (xs : TemplateParts) (env : ℕ) (units : List ℕ) → Grows (M.comp_template_parts p xs env units)
    grows_template_parts no_template_part env units = tt
    grows_template_parts (more_template_part (MakeTemplatePart e spelled) xs) env units =
        grows_then (M.comp_expr p e env) _ (grows_expr e env) (λ v. grows_or_halt _ _ (λ inner. grows_template_parts xs env _))

    grows_properties : (xs : Properties) (env o : ℕ) → Grows (M.comp_properties p xs env o)
    grows_properties no_property env o = tt
    grows_properties (more_property x xs) env o =
        grows_then (M.comp_property p x env o) _ (grows_property x env o) (λ v. grows_properties xs env o)

    grows_property : (x : Property) (env o : ℕ) → Grows (M.comp_property p x env o)
    grows_property (Shorthand loc name) env o = grows_then (M.read name env) _ (grows_read name env) (grows_defines o _)
    grows_property (KeyValue loc key e) env o = grows_key key env _ (λ k.
        grows_then (M.named k e env (M.comp_expr p e env)) _ (grows_named k e env _ (grows_expr e env)) (grows_defines o k))
    grows_property (Method loc key function) env o = grows_key key env _ (λ k.
        grows_makes (S.closed (S.shape_of (OfMethod function)) k env) (M.defines o k) (grows_defines o k))

    grows_key : (key : PropertyKey) (env : ℕ) (next : List ℕ → Comp) → ((k : List ℕ) → Grows (next k)) → Grows (M.comp_key p key env next)
    grows_key (NameKey name) env next h = h _
    grows_key (StringKey spelled) env next h = h _
    grows_key (NumberKey spelling) env next h = grows_number_key (literal_number spelling) next h
    grows_key (ComputedKey e) env next h = grows_then (M.comp_expr p e env) _ (grows_expr e env) (λ v. grows_or_halt _ next h)

  grows_expr_if : (e : MaybeExpr) (env : ℕ) → Grows (M.comp_expr_if p e env)
  grows_expr_if none_expr env = tt
  grows_expr_if (some_expr e) env = grows_expr e env

  grows_declares : (kind : VariableKind) (name : List ℕ) (e : MaybeExpr) (env : ℕ) → Grows (M.declares p kind name e env)
  grows_declares kind name none_expr env = grows_binds_none kind name env
  grows_declares kind name (some_expr e) env =
      grows_then (M.named _ e env (M.comp_expr p e env)) _ (grows_named _ e env _ (grows_expr e env)) (grows_binds kind name env)

  grows_declarator : (kind : VariableKind) (d : Declarator) (env : ℕ) → Grows (M.comp_declarator p kind d env)
  grows_declarator kind (MakeDeclarator loc pattern e) env = grows_declares kind _ e env

  grows_declarators : (kind : VariableKind) (ds : Declarators) (env : ℕ) → Grows (M.comp_declarators p kind ds env)
  grows_declarators kind no_declarator env = tt
  grows_declarators kind (more_declarator d ds) env =
      grows_then (M.comp_declarator p kind d env) _ (grows_declarator kind d env) (λ v. grows_declarators kind ds env)

  grows_turn_if : (e : MaybeExpr) (x : Stmt) (labels : List (List ℕ)) (env : ℕ) → Grows (M.turn_if p e x labels env)
  grows_turn_if none_expr x labels env = λ c. tt
  grows_turn_if (some_expr e) x labels env = grows_then (M.comp_expr p e env) _ (grows_expr e env) (grows_turn x labels env)

  grows_for_init : (start : ForInit) (env : ℕ) → Grows (M.comp_for_init p start env)
  grows_for_init NoInit env = tt
  grows_for_init (InitDeclaration kind ds) env = grows_declarators kind ds env
  grows_for_init (InitExpression e) env = grows_expr e env

  grows_takes : (target : ForTarget) (env : ℕ) (v : Value) (next : ℕ → Comp) → ((e : ℕ) → Grows (next e)) → Grows (M.takes p target env v next)
  grows_takes (TargetDeclaration kind pattern) env v next h = grows_in_names _ _ env _ (λ inner.
      grows_then (M.binds kind (S.bound pattern) inner v) _ (grows_binds kind (S.bound pattern) inner v) (λ w. h inner))
  grows_takes (TargetExpression e) env v next h = grows_reference e env _ _ ((λ s. (record { output = same_list s.output; log = same_list s.log }, tt))) (λ r.
      grows_then (M.put_value env r v) _ (grows_put env r v) (λ w. h env))

  grows_takes_next : (x : Stmt) (target : ForTarget) (labels : List (List ℕ)) (env : ℕ) (t : Option Taken) → Grows (M.takes_next p x target labels env t)
  grows_takes_next x target labels env None = tt
  grows_takes_next x target labels env (Some t) = grows_takes target env t.value _ (λ inner c. tt)

  grows_through : (x : Stmt) (target : ForTarget) (labels : List (List ℕ)) (env : ℕ) (rest : Iteration) → Grows (M.goes_through p x target labels env rest)
  grows_through x target labels env rest = grows_looks _ (λ s. grows_takes_next x target labels env (next_of s.heap rest))

  grows_through_keys : (x : Stmt) (target : ForTarget) (labels : List (List ℕ)) (env : ℕ) (v : Value) → Grows (M.goes_through_keys p x target labels env v)
  grows_through_keys x target labels env v = λ s. (same_store s, grows_through x target labels env (Keys v (keys_of s.heap v)))

  grows_through_items : (x : Stmt) (target : ForTarget) (labels : List (List ℕ)) (env : ℕ) (v : Value) → Grows (M.goes_through_items p x target labels env v)
  grows_through_items x target labels env v = λ s. (same_store s, grows_or_halt (M.iterated s.heap v) (M.goes_through p x target labels env) (grows_through x target labels env))

  grows_returned : (e : MaybeExpr) (env : ℕ) → Grows (M.returned p e env)
  grows_returned none_expr env = tt
  grows_returned (some_expr e) env = grows_then (M.comp_expr p e env) _ (grows_expr e env) (λ v. tt)

  grows_test : (x : Case) (env : ℕ) (v : Value) (holds fails : Comp) → Grows holds → Grows fails → Grows (M.comp_test p x env v holds fails)
  grows_test (MakeCase loc none_expr xs) env v holds fails g h = h
  grows_test (MakeCase loc (some_expr e) xs) env v holds fails g h =
      grows_then (M.comp_expr p e env) _ (grows_expr e env) (λ w. grows_if (strictly_equal v w) holds fails g h)
  grows_test (EnteredCase mark x) env v holds fails g h = grows_test x env v holds fails g h

  mutual
    grows_stmt : (x : Stmt) (labels : List (List ℕ)) (env : ℕ) → Grows (M.comp_stmt p x labels env)
    grows_stmt (Directive loc spelled) labels env = tt
    grows_stmt (Block loc xs) labels env = grows_in_names _ _ env _ (grows_stmts xs)
    grows_stmt (VariableDeclaration loc kind declarators) labels env = grows_declarators kind declarators env
    grows_stmt (Empty loc) labels env = tt
    grows_stmt (Expression loc e) labels env = grows_then (M.comp_expr p e env) _ (grows_expr e env) (λ v. tt)
    grows_stmt (If loc e x y) labels env = grows_then (M.comp_expr p e env) _ (grows_expr e env)
        (λ v. grows_choose _ _ v (grows_stmt x [] env) (grows_stmt_if y env))
    grows_stmt (DoWhile loc x e) labels env = λ c. tt
    grows_stmt (While loc e x) labels env = grows_then (M.comp_expr p e env) _ (grows_expr e env) (grows_turn (While loc e x) labels env)
    grows_stmt (For loc start e f x) labels env = grows_in_names _ _ env _ (λ inner.
        grows_then (M.comp_for_init p start inner) _ (grows_for_init start inner) (λ v. grows_anew start inner _ (grows_turn_if e (For loc start e f x) labels)))
    grows_stmt (ForIn loc target e x) labels env = grows_in_names _ _ env _ (λ inner.
        grows_then (M.comp_expr p e inner) _ (grows_expr e inner) (grows_through_keys (ForIn loc target e x) target labels env))
    grows_stmt (ForOf loc target e x) labels env = grows_in_names _ _ env _ (λ inner.
        grows_then (M.comp_expr p e inner) _ (grows_expr e inner) (grows_through_items (ForOf loc target e x) target labels env))
    grows_stmt (P.Continue loc label) labels env = tt
    grows_stmt (P.Break loc label) labels env = tt
    grows_stmt (P.Return loc e) labels env = grows_returned e env
    grows_stmt (Switch loc e cases) labels env = grows_then (M.comp_expr p e env) _ (grows_expr e env) (λ v.
        grows_in_names _ _ env _ (λ inner. grows_handle (M.comp_select p cases inner v (M.comp_default p cases inner)) M.after_switch
        (grows_select cases inner v _ (grows_default cases inner)) grows_after_switch))
    grows_stmt (Labelled loc label x) labels env = grows_handle (M.comp_stmt p x _ env) _ (grows_stmt x _ env) (grows_after_label label.name)
    grows_stmt (P.Throw loc e) labels env = grows_then (M.comp_expr p e env) _ (grows_expr e env) (λ v. tt)
    grows_stmt (TryCatch loc xs catch) labels env =
        grows_handle (M.in_scope (S.block_scope xs) env (M.comp_stmts p xs)) _ (grows_in_names _ _ env _ (grows_stmts xs)) (grows_caught _ (grows_catch catch env))
    grows_stmt (TryFinally loc xs ys) labels env =
        grows_handle (M.in_scope (S.block_scope xs) env (M.comp_stmts p xs)) _ (grows_in_names _ _ env _ (grows_stmts xs)) (grows_finally _ (grows_in_names _ _ env _ (grows_stmts ys)))
    grows_stmt (TryCatchFinally loc xs catch ys) labels env =
        grows_handle (handle (M.in_scope (S.block_scope xs) env (M.comp_stmts p xs)) (M.caught (M.comp_catch p catch env))) _
        (grows_handle (M.in_scope (S.block_scope xs) env (M.comp_stmts p xs)) _ (grows_in_names _ _ env _ (grows_stmts xs)) (grows_caught _ (grows_catch catch env)))
        (grows_finally _ (grows_in_names _ _ env _ (grows_stmts ys)))
    grows_stmt (Debugger loc) labels env = tt
    grows_stmt (FunctionDeclaration loc name function) labels env = tt
    grows_stmt (EnteredStmt mark (Block loc xs)) labels env =
        grows_in_scope (S.block_scope xs) env (λ inner. M.entering mark (M.comp_stmts p xs inner)) (λ inner. grows_entering mark (M.comp_stmts p xs inner) (grows_stmts xs inner))
    grows_stmt (EnteredStmt mark x) labels env = grows_entering mark (M.comp_stmt p x labels env) (grows_stmt x labels env)

    grows_stmts : (xs : Stmts) (env : ℕ) → Grows (M.comp_stmts p xs env)
    grows_stmts no_stmt env = tt
    grows_stmts (more_stmt x no_stmt) env = grows_stmt x [] env
    grows_stmts (more_stmt x (more_stmt y ys)) env = grows_then (M.comp_stmt p x [] env) _ (grows_stmt x [] env) (λ v. grows_stmts (more_stmt y ys) env)

    grows_stmt_if : (x : MaybeStmt) (env : ℕ) → Grows (M.comp_stmt_if p x env)
    grows_stmt_if none_stmt env = tt
    grows_stmt_if (some_stmt x) env = grows_stmt x [] env
    grows_stmt_if (entered_none mark) env = grows_entering mark M.done tt

    grows_catch : (x : Catch) (env : ℕ) (v : Value) → Grows (M.comp_catch p x env v)
    grows_catch (MakeCatch pattern xs) env v = grows_in_catch pattern v env _ (λ inner. grows_in_names _ _ inner _ (grows_stmts xs))

    grows_case : (x : Case) (env : ℕ) → Grows (M.comp_case p x env)
    grows_case (MakeCase loc e xs) env = grows_stmts xs env
    grows_case (EnteredCase mark x) env = grows_entering mark (M.comp_case p x env) (grows_case x env)

    grows_cases : (xs : Cases) (env : ℕ) → Grows (M.comp_cases p xs env)
    grows_cases no_case env = tt
    grows_cases (more_case x xs) env = grows_then (M.comp_case p x env) _ (grows_case x env) (λ v. grows_cases xs env)

    grows_select : (xs : Cases) (env : ℕ) (v : Value) (otherwise : Comp) → Grows otherwise → Grows (M.comp_select p xs env v otherwise)
    grows_select no_case env v otherwise g = g
    grows_select (more_case x xs) env v otherwise g = grows_test x env v _ _
        (grows_then (M.comp_case p x env) _ (grows_case x env) (λ w. grows_cases xs env)) (grows_select xs env v otherwise g)

    grows_default : (xs : Cases) (env : ℕ) → Grows (M.comp_default p xs env)
    grows_default no_case env = tt
    grows_default (more_case x xs) env = grows_if (M.is_default x) _ _
        (grows_then (M.comp_case p x env) _ (grows_case x env) (λ w. grows_cases xs env)) (grows_default xs env)

  grows_a_turn : (x : Stmt) (labels : List (List ℕ)) (env : ℕ) → Grows (M.comp_turn p x labels env)
  grows_a_turn (DoWhile loc x e) labels env = grows_handle (M.comp_stmt p x [] env) _ (grows_stmt x [] env)
      (grows_after_turn labels _ (grows_then (M.comp_expr p e env) _ (grows_expr e env) (grows_turn (DoWhile loc x e) labels env)))
  grows_a_turn (While loc e x) labels env = grows_handle (M.comp_stmt p x [] env) _ (grows_stmt x [] env)
      (grows_after_turn labels _ (grows_stmt (While loc e x) labels env))
  grows_a_turn (For loc start e f x) labels env = grows_handle (M.comp_stmt p x [] env) _ (grows_stmt x [] env)
      (grows_after_turn labels _ (grows_anew start env _ (λ inner.
      grows_then (M.comp_expr_if p f inner) _ (grows_expr_if f inner) (λ v. grows_turn_if e (For loc start e f x) labels inner))))
  grows_a_turn _ labels env = tt

  grows_pass : (x : Stmt) (labels : List (List ℕ)) (env inner : ℕ) (rest : Iteration) → Grows (M.comp_pass p x labels env inner rest)
  grows_pass (ForIn loc target e x) labels env inner rest = grows_handle (M.comp_stmt p x [] inner) _ (grows_stmt x [] inner)
      (grows_after_turn labels _ (grows_through (ForIn loc target e x) target labels env rest))
  grows_pass (ForOf loc target e x) labels env inner rest = grows_handle (M.comp_stmt p x [] inner) _ (grows_stmt x [] inner)
      (grows_after_turn labels _ (grows_through (ForOf loc target e x) target labels env rest))
  grows_pass _ labels env inner rest = tt

  grows_argument : (name : List ℕ) (e : MaybeExpr) (env : ℕ) (v : Value) → Grows (M.comp_argument p name e env v)
  grows_argument name (some_expr e) env (value.Primitive primitive.Undefined) = grows_named _ e env _ (grows_expr e env)
  grows_argument name e env v = tt

  grows_params : (ps : Params) (env : ℕ) (arguments : List Value) → Grows (M.comp_params p ps env arguments)
  grows_params no_param env arguments = tt
  grows_params (more_param (MakeParam loc pattern e) ps) env arguments =
      grows_then (M.comp_argument p _ e env _) _ (grows_argument _ e env _) (λ v.
      grows_then (M.initialize _ env v) _ (grows_initialize _ env v) (λ w. grows_params ps env _))

  grows_body : (x : FunctionBody) (env : ℕ) → Grows (M.comp_body p x env)
  grows_body (MakeFunctionBody loc xs) env = grows_stmts xs env
  grows_body (EnteredBody mark x) env = grows_entering mark (M.comp_body p x env) (grows_body x env)

  grows_concise : (x : ConciseBody) (env : ℕ) → Grows (M.comp_concise p x env)
  grows_concise (ExpressionBody e) env = grows_then (M.comp_expr p e env) _ (grows_expr e env) (λ v. tt)
  grows_concise (BlockBody x) env = grows_body x env

  grows_in_body : (ps : Params) (scope : S.Scope) (env : ℕ) (next : ℕ → Comp) → ((e : ℕ) → Grows (next e)) → Grows (F.in_body ps scope env next)
  grows_in_body ps scope env next h = grows_if (S.has_defaults ps) _ _ (grows_within _ next h) (grows_heap _ _ (λ s. h env))

  grows_function : (ps : Params) (scope : S.Scope) (body : ℕ → Comp) (this : List Binding) (env : ℕ) (arguments : List Value) → ((e : ℕ) → Grows (body e)) →
      Grows (F.comp_function p ps scope body this env arguments)
  grows_function ps scope body this env arguments h = grows_within _ _ (λ e.
      grows_then (M.comp_params p ps e arguments) _ (grows_params ps e arguments) (λ v. grows_in_body ps scope e body h))

  grows_code : (code : Code) (env : ℕ) (this : Value) (arguments : List Value) → Grows (F.comp_code p code env this arguments)
  grows_code (Ordinary (MakeFunction number params body)) env this arguments =
      grows_function params (S.body_scope (S.body_stmts body)) (M.comp_body p body) (F.this_bound this) env arguments (grows_body body)
  grows_code (OfMethod (MakeFunction number params body)) env this arguments =
      grows_function params (S.body_scope (S.body_stmts body)) (M.comp_body p body) (F.this_bound this) env arguments (grows_body body)
  grows_code (Arrow number params body) env this arguments =
      grows_function params (S.body_scope (S.concise_stmts body)) (M.comp_concise p body) [] env arguments (grows_concise body)

  grows_coded : (code : Option Code) (env : ℕ) (this : Value) (arguments : List Value) → Grows (F.comp_coded p code env this arguments)
  grows_coded None env this arguments = tt
  grows_coded (Some code) env this arguments = grows_code code env this arguments

  grows_after_call : (c : Completion) → Grows (F.after_call c)
  grows_after_call (completion.Normal v) = tt
  grows_after_call (completion.Break label) = tt
  grows_after_call (completion.Continue label) = tt
  grows_after_call (completion.Return v) = tt
  grows_after_call (completion.Throw v) = tt

  grows_after_construct : (made : ℕ) (c : Completion) → Grows (F.after_construct made c)
  grows_after_construct made (completion.Normal v) = tt
  grows_after_construct made (completion.Break label) = tt
  grows_after_construct made (completion.Continue label) = tt
  grows_after_construct made (completion.Return v) = tt
  grows_after_construct made (completion.Throw v) = tt

  grows_call_code : (code env : ℕ) (this : Value) (arguments : List Value) → Grows (F.call_code p code env this arguments)
  grows_call_code code env this arguments = grows_handle (F.comp_coded p (program.function_at p code) env this arguments) _
      (grows_coded (program.function_at p code) env this arguments) grows_after_call

  grows_construct_code : (maker code env : ℕ) (arguments : List Value) → Grows (F.construct_code p maker code env arguments)
  grows_construct_code maker code env arguments = grows_heap _ _ (λ s. grows_handle (F.comp_coded p (program.function_at p code) env _ arguments) _
      (grows_coded (program.function_at p code) env _ arguments) (grows_after_construct _))

  grows_file : (tree : P.File) (exports : ℕ) → Grows (F.comp_file p tree exports)
  grows_file (MakeFile xs comments) exports = λ s. (
    record { output = same_list s.output; log = same_list s.log },
    λ t. (
      record { output = same_list t.output; log = same_list t.log },
      grows_handle (M.comp_stmts p xs (next_environment s.heap)) F.after_call (grows_stmts xs (next_environment s.heap)) grows_after_call,
    ),
  )

  grows_run_source : (source : Source) (file : ℕ) → Grows (F.run_source p source file)
  grows_run_source source file = λ s. (record { output = same_list s.output; log = same_list s.log }, grows_file source.tree (next_object s.heap))

  grows_run_file : (source : Option Source) (file : ℕ) → Grows (F.run_file p source file)
  grows_run_file None file = tt
  grows_run_file (Some source) file = grows_run_source source file

  pub grows_start : (source : Option Source) (file : ℕ) → Grows (F.start_source p source file)
  grows_start None file = tt
  grows_start (Some source) file = grows_if source.counted _ _ (λ c. tt) (grows_run_source source file)

  grows_exports : (path : List ℕ) → Grows (F.exports_of path)
  grows_exports path = (λ s. (same_store s, tt))

  grows_after_start : (path : List ℕ) (c : Completion) → Grows (F.after_start path c)
  grows_after_start path (completion.Throw v) = λ s. (record { output = same_list s.output; log = same_list s.log }, tt)
  grows_after_start path (completion.Normal v) = grows_exports path
  grows_after_start path (completion.Break label) = grows_exports path
  grows_after_start path (completion.Continue label) = grows_exports path
  grows_after_start path (completion.Return v) = grows_exports path

  grows_require_new : (path : List ℕ) (file : Option ℕ) → Grows (F.require_new p path file)
  grows_require_new path None = (λ s. (record { output = same_list s.output; log = same_list s.log }, tt))
  grows_require_new path (Some file) = grows_handle (F.start_file p file) _ (grows_start (slice_get p.files file) file) (grows_after_start path)

  grows_require_path : (s : Store) (path : Option (List ℕ)) → Grows (F.require_path p s path)
  grows_require_path s None = (λ s. (record { output = same_list s.output; log = same_list s.log }, tt))
  grows_require_path s (Some path) = grows_if (is_some (cached s path)) _ _ (grows_exports path) (grows_require_new path (program.file_at p path))

  grows_native : (calls : Value → Value → List Value → Comp) → ((f this : Value) (vs : List Value) → Grows (calls f this vs)) →
      (callee : ℕ) (answer : Native) → Grows (F.native p calls callee answer)
  grows_native calls h callee (Answers v) = tt
  grows_native calls h callee (Throws kind message) = (λ s. (record { output = same_list s.output; log = same_list s.log }, tt))
  grows_native calls h callee (RefusesKind k) = tt
  grows_native calls h callee (Writes bytes) = λ s. (record { output = longer s.output bytes; log = same_list s.log }, tt)
  grows_native calls h callee (Calls function this arguments) = h function this arguments
  grows_native calls h callee (Requires units) = grows_looks _ (λ s. grows_require_path s (required_path s callee units))

  grows_call_native : (calls : Value → Value → List Value → Comp) → ((f this : Value) (vs : List Value) → Grows (calls f this vs)) →
      (callee function : ℕ) (maker : Option ℕ) (this : Value) (arguments : List Value) → Grows (F.call_native p calls callee function maker this arguments)
  grows_call_native calls h callee function maker this arguments = grows_heap _ _ (λ s.
      grows_native calls h callee (native_of function (is_some maker) this arguments s.heap))

  grows_hand_built_in : (callee function : ℕ) (this : Value) (arguments : List Value) → Grows (F.hand_built_in p callee function this arguments)
  grows_hand_built_in callee function this arguments = grows_if (is_handing function) _ _ (λ c. tt) (grows_call_native (λ f t vs. M.done) (λ f t vs. tt) callee function None this arguments)

  grows_hand_kind : (kind : ObjectKind) (callee : ℕ) (this : Value) (arguments : List Value) → Grows (F.hand_kind p kind callee this arguments)
  grows_hand_kind (BuiltIn function) callee this arguments = grows_hand_built_in callee function this arguments
  grows_hand_kind (Written code env) callee this arguments = grows_call_code code env this arguments
  grows_hand_kind _ callee this arguments = (λ s. (record { output = same_list s.output; log = same_list s.log }, tt))

  grows_hand_on : (f this : Value) (arguments : List Value) → Grows (F.hand_on p f this arguments)
  grows_hand_on (value.Primitive v) this arguments = (λ s. (record { output = same_list s.output; log = same_list s.log }, tt))
  grows_hand_on (value.Object o) this arguments = grows_looks _ (λ s. grows_hand_kind (kind_of s.heap o.index) o.index this arguments)

  pub grows_inside : (e : Entry) → Grows (F.inside p e)
  grows_inside (E.Call code env this arguments) = grows_call_code code env this arguments
  grows_inside (E.New maker code env arguments) = grows_construct_code maker code env arguments
  grows_inside (E.CallBuiltIn callee function maker this arguments) = grows_call_native (F.hand_on p) grows_hand_on callee function maker this arguments
  grows_inside (E.Turn x labels env) = grows_a_turn x labels env
  grows_inside (E.Pass x labels env inner rest) = grows_pass x labels env inner rest
  grows_inside (E.Construct mark) = λ s. (record { output = same_list s.output; log = longer s.log (mark ∷ []) }, tt)
  grows_inside (E.Start file) = grows_run_file _ file
