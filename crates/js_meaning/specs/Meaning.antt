-- What the forms of a file do (ECMA-262, 13 and 14): by cases on the tree.
use Rattle.std.specs.Prelude.{ℕ, Bool, true, false, List, [], ◌∷◌, ◌++◌, map, Option, Some, None, option_map, is_some, codes, if◌then◌else◌, ℤ, Ok, Err}
use Rattle.std.specs.Str.{bytes_eq}
use Rattle.js_terms.specs.declared.operators.AssignmentOperator.{AssignmentOperator}
use Rattle.js_terms.specs.declared.operators.AssignmentOperator.TheVariants as assignment
use Rattle.js_terms.specs.declared.operators.BinaryOperator.{BinaryOperator}
use Rattle.js_terms.specs.declared.operators.BinaryOperator.TheVariants as binary_operator
use Rattle.js_terms.specs.declared.operators.LogicalOperator.{LogicalOperator}
use Rattle.js_terms.specs.declared.operators.LogicalOperator.TheVariants as logical
use Rattle.js_terms.specs.declared.operators.UnaryOperator.{UnaryOperator}
use Rattle.js_terms.specs.declared.operators.UnaryOperator.TheVariants as unary_operator
use Rattle.js_terms.specs.declared.operators.UpdateOperator.{UpdateOperator}
use Rattle.js_terms.specs.declared.operators.VariableKind.{VariableKind}
use Rattle.js_terms.specs.declared.operators.VariableKind.TheVariants as variable
use Rattle.js_terms.specs.Mark.{Mark}
use Rattle.js_tree.specs.Plain as P
use Rattle.js_tree.specs.Plain.{Expr, IdentifierReference, This, NullLiteral, BooleanLiteral, NumericLiteral, StringLiteral, ArrayLiteral, ObjectLiteral, FunctionExpression, ArrowFunction, RegularExpressionLiteral, TemplateLiteral, Parenthesized, NamedMember, ComputedMember, New, PostfixUpdate, PrefixUpdate, Unary, Binary, Logical, Conditional, Assignment, Comma, Entered, Exprs, no_expr, more_expr, MaybeExpr, none_expr, some_expr}
use Rattle.js_tree.specs.Plain.{TemplateParts, no_template_part, more_template_part, MakeTemplatePart, Properties, no_property, more_property, Property, Shorthand, KeyValue, Method, PropertyKey, NameKey, StringKey, NumberKey, ComputedKey}
use Rattle.js_tree.specs.Plain.{Stmt, Directive, Block, VariableDeclaration, Empty, Expression, If, DoWhile, While, For, ForIn, ForOf, Switch, Labelled, TryCatch, TryFinally, TryCatchFinally, Debugger, FunctionDeclaration, EnteredStmt, Stmts, no_stmt, more_stmt, MaybeStmt, none_stmt, some_stmt, entered_none}
use Rattle.js_tree.specs.Plain.{Declarator, MakeDeclarator, Declarators, no_declarator, more_declarator, ForInit, NoInit, InitDeclaration, InitExpression, ForTarget, TargetDeclaration, TargetExpression, Cases, no_case, more_case, Case, MakeCase, EnteredCase, Catch, MakeCatch, MaybePattern, none_pattern, some_pattern}
use Rattle.js_tree.specs.Plain.{FunctionBody, MakeFunctionBody, EnteredBody, ConciseBody, ExpressionBody, BlockBody, Params, no_param, more_param, MakeParam}
use Rattle.js_tree.specs.Codes.{Code, Ordinary, OfMethod, Arrow}
use Rattle.js_value.specs.declared.value.Value.{Value}
use Rattle.js_value.specs.declared.value.Value.TheVariants as value
use Rattle.js_value.specs.declared.value.Primitive.TheVariants as primitive
use Rattle.js_value.specs.declared.value.Kind.TheVariants as kind
use Rattle.js_value.specs.declared.error_kind.ErrorKind.{ErrorKind}
use Rattle.js_value.specs.declared.deed.Complaint.{Complaint}
use Rattle.js_value.specs.declared.deed.Complaint.TheVariants.{NotDefined, NotInitialised, NotAssignable, NotAConstructor, NotAFunction}
use Rattle.js_value.specs.declared.deed.Halt.{Halt}
use Rattle.js_value.specs.declared.deed.Halt.TheVariants as halt
use Rattle.js_value.specs.declared.built_in.Place.TheVariants.{ObjectPrototype, ArrayPrototype, RegExpPrototype}
use Rattle.js_value.specs.Numbers.{decimal_text, literal_number}
use Rattle.js_value.specs.Conversions.{Answer, Gives, Refuses, Numbered, Is, NoNumber, to_number, to_boolean}
use Rattle.js_value.specs.Operators.{binary}
use Rattle.js_value.specs.UnaryOperators.{unary, stepped}
use Rattle.js_value.specs.Equality.{strictly_equal}
use Rattle.js_value.specs.State.{ObjectKind, Plain, RegExp, BuiltIn, Written, Binding, Heap, Store}
use Rattle.js_value.specs.Objects.{kind_of, next_object, new_object, new_array, define, assigned}
use Rattle.js_value.specs.Environments.{Cell, next_environment, lookup, value_of, Assign, Done, Dead, Constant, copy_environment, init_name, assign_name, name_answer}
use Rattle.js_value.specs.Running.{on_heap}
use Rattle.js_value.specs.Arguments.{Or, seen, to_text}
use Rattle.js_value.specs.Copying.{Copied}
use Rattle.js_value.specs.Host.{error_of, message_of, error_made}
use Rattle.js_value.specs.Realm.{number_of, text, object, undefined}
use Rattle.js_meaning.specs.declared.outcome.Completion.{Completion}
use Rattle.js_meaning.specs.declared.outcome.Completion.TheVariants.{Normal, Break, Continue, Return, Throw}
use Rattle.js_value.specs.Functions.{name_units, constructs}
use Rattle.js_value.specs.Iterations.{keys_of, Iteration, Keys, Taken, next_of}
use Rattle.js_value.specs.Members.{get_member, put_member, delete_member}
pub use Rattle.js_value.specs.Members.{is_in, is_instance, type_in}
pub use Rattle.js_value.specs.Iterations.{iterated}
use Rattle.js_meaning.specs.Scopes.{stands_in, bound, uninitialized, variable_of, shape_of, Hoisted, Scope, block_scope, init_scope, target_scope, is_fresh, cases_stmts, closed, scope_made, block_made}
use Rattle.js_meaning.specs.Effects.{Turn, Pass, Construct, Comp, ret, refuse, act, enter, handle}
use Rattle.js_meaning.specs.Effects as E
use Rattle.js_meaning.specs.Program as program
use Rattle.js_meaning.specs.Program.{Sources}

-- Completions

-- goes on with a value; any other completion passes by (5.2.3.4, ReturnIfAbrupt)
abbrev pub with_value : (Value → Comp) → Completion → Comp
with_value f (Normal v) = f v
with_value f (Break label) = ret (Break label)
with_value f (Continue label) = ret (Continue label)
with_value f (Return v) = ret (Return v)
with_value f (Throw v) = ret (Throw v)

abbrev pub give : Value → Comp
give v = ret (Normal v)

-- the completion of a statement that has no value
abbrev pub done : Comp
done = give undefined

abbrev pub truth : Bool → Comp
truth b = give (value.Primitive (primitive.Boolean b))

-- what only looks at the store
abbrev pub looks : (Store → Comp) → Comp
looks next = act (λ s. s) next

-- an object is made, and given
abbrev pub makes : (Heap → Heap) → Comp
makes change = act (on_heap change) (λ s. give (object (next_object s.heap)))

-- an environment is made, and the rest is done in it
abbrev pub within : (Heap → Heap) → (ℕ → Comp) → Comp
within change next = act (on_heap change) (λ s. next (next_environment s.heap))

-- an error with a message is made and thrown (20.5.1.1)
abbrev pub throw_error : ErrorKind → List ℕ → Comp
throw_error kind message = act (on_heap (error_made kind (Some message))) (λ s. ret (Throw (object (next_object s.heap))))

abbrev pub complain : Complaint → Comp
complain c = throw_error (error_of c) (message_of c)

-- what is done in place of a value; a definition never wants for memory
abbrev pub halted : Halt → Comp
halted (halt.Throw c) = complain c
halted (halt.Refuse k) = refuse k
halted halt.Memory = refuse kind.Number

abbrev pub or_halt : {A : Type 0} → Or A → (A → Comp) → Comp
or_halt (Ok a) next = next a
or_halt (Err h) next = halted h

-- a change that may be stopped, and then a value
abbrev pub unless_halted : Option Halt → Comp → Comp
unless_halted None c = c
unless_halted (Some h) c = halted h

abbrev pub changes : (Heap → Copied) → Value → Comp
changes change v = act (on_heap (λ h. (change h).heap)) (λ s. unless_halted (change s.heap).halt (give v))

-- Constructs

-- a construct is entered: a step is charged, and then it is noted
abbrev pub entering : Mark → Comp → Comp
entering mark c = enter (Construct mark) (with_value (λ v. c))

-- Names

-- the value of a name's cell (6.2.5.5, 9.1.1.1.6)
abbrev pub value_in : Heap → Option Cell → Comp
value_in h None = complain NotDefined
value_in h (Some cell) = elim (value_of h cell) [ None ↦ complain NotInitialised | Some v ↦ give v ]

-- 13.1.3
abbrev pub read : List ℕ → ℕ → Comp
read name env = looks (λ s. value_in s.heap (lookup s.heap env name))

-- what comes of an assignment of a value by its answer
abbrev pub assigns : Value → Option Assign → Comp
assigns v None = complain NotDefined
assigns v (Some Done) = give v
assigns v (Some Dead) = complain NotInitialised
assigns v (Some Constant) = complain NotAssignable

-- 6.2.5.6, 9.1.1.1.5
abbrev pub write : List ℕ → ℕ → Value → Comp
write name env v = act (on_heap (assign_name env name v)) (λ s. assigns v (name_answer s.heap env name))

-- 6.2.5.8: the first value of a name
abbrev pub initializes : Value → Option Cell → Comp
initializes v None = complain NotDefined
initializes v (Some cell) = give v

abbrev pub initialize : List ℕ → ℕ → Value → Comp
initialize name env v = act (on_heap (init_name env name v)) (λ s. initializes v (lookup s.heap env name))

-- References

-- what can be read and assigned to (6.2.5): a name, or a member of a value by its key, which is taken for a text where it is used
pub data Reference : Type 0 where
  Name : (name : List ℕ) → Reference
  Member : (base key : Value) → Reference

abbrev pub get_member_of : Value → Value → Comp
get_member_of base key = looks (λ s. or_halt (get_member s.heap base key) give)

-- 6.2.5.5
abbrev pub get_value : ℕ → Reference → Comp
get_value env (Name name) = read name env
get_value env (Member base key) = get_member_of base key

-- 6.2.5.6
abbrev pub put_value : ℕ → Reference → Value → Comp
put_value env (Name name) v = write name env v
put_value env (Member base key) v = changes (put_member base key v) v

-- 13.5.1.2, 3 to 5: no accepted tree deletes a name, which may not be deleted
abbrev pub deleted : Reference → Comp
deleted (Name name) = truth false
deleted (Member base key) = changes (delete_member base key) (value.Primitive (primitive.Boolean true))

-- 13.3.6.2, 1
abbrev pub this_of : Reference → Value
this_of (Name name) = undefined
this_of (Member base key) = base

-- Operators

abbrev pub answered : Answer → Comp
answered (Gives p) = give (value.Primitive p)
answered (Refuses k) = refuse k

abbrev pub numbered : Numbered → (ℤ → Comp) → Comp
numbered (Is n) next = next n
numbered (NoNumber k) next = refuse k

abbrev pub number_value : ℤ → Value
number_value n = value.Primitive (primitive.Number n)

-- 12.9.3.3: a value that is no number of the profile is refused when it is evaluated
abbrev pub number : Option ℤ → Comp
number None = refuse kind.Number
number (Some n) = give (number_value n)

abbrev pub operated : BinaryOperator → Value → Value → Comp
operated binary_operator.In v w = looks (λ s. or_halt (is_in s.heap v w) truth)
operated binary_operator.InstanceOf v w = looks (λ s. or_halt (is_instance s.heap v w) truth)
operated operator v w = answered (binary operator v w)

-- 13.5.1.2, 2 and 13.5.2 to 13.5.7
abbrev pub operated_unary : UnaryOperator → Value → Comp
operated_unary unary_operator.Delete v = truth true
operated_unary unary_operator.Void v = done
operated_unary unary_operator.TypeOf v = looks (λ s. give (text (type_in s.heap v)))
operated_unary operator v = answered (unary operator v)

-- the name that an expression is, parentheses notwithstanding
abbrev pub name_of : Expr → Option (List ℕ)
name_of (IdentifierReference loc name) = Some name
name_of (Parenthesized loc e) = name_of e
name_of (Entered mark e) = name_of e
name_of _ = None

-- 13.5.3, 2.a: the type of a name that isn't there
abbrev pub if_there : Option (List ℕ) → ℕ → Comp → Comp
if_there None env c = c
if_there (Some name) env c = looks (λ s. if is_some (lookup s.heap env name) then c else give (text (codes "undefined")))

abbrev pub is_nullish : Value → Bool
is_nullish (value.Primitive primitive.Undefined) = true
is_nullish (value.Primitive primitive.Null) = true
is_nullish _ = false

abbrev pub choose : Comp → Comp → Value → Comp
choose holds fails v = if to_boolean v then holds else fails

-- 13.13
abbrev pub chosen : LogicalOperator → Comp → Value → Comp
chosen logical.And right v = choose right (give v) v
chosen logical.Or right v = choose (give v) right v
chosen logical.Coalesce right v = if is_nullish v then right else give v

-- 13.4: the old value or the new one is given
abbrev pub updates : Bool → UpdateOperator → ℕ → Reference → Comp
updates prefix operator env r = handle (get_value env r) (with_value (λ v.
    numbered (to_number v) (λ old. numbered (stepped operator old) (λ new.
    handle (put_value env r (number_value new)) (with_value (λ w. give (number_value (if prefix then new else old))))))))

-- the operator that an assignment performs: none for `=` alone (13.15.2)
abbrev pub operator_of : AssignmentOperator → Option BinaryOperator
operator_of assignment.Assign = None
operator_of assignment.ExponentiateAssign = Some binary_operator.Exponentiate
operator_of assignment.MultiplyAssign = Some binary_operator.Multiply
operator_of assignment.DivideAssign = Some binary_operator.Divide
operator_of assignment.RemainderAssign = Some binary_operator.Remainder
operator_of assignment.AddAssign = Some binary_operator.Add
operator_of assignment.SubtractAssign = Some binary_operator.Subtract
operator_of assignment.LeftShiftAssign = Some binary_operator.LeftShift
operator_of assignment.SignedRightShiftAssign = Some binary_operator.SignedRightShift
operator_of assignment.UnsignedRightShiftAssign = Some binary_operator.UnsignedRightShift
operator_of assignment.BitwiseAndAssign = Some binary_operator.BitwiseAnd
operator_of assignment.BitwiseXorAssign = Some binary_operator.BitwiseXor
operator_of assignment.BitwiseOrAssign = Some binary_operator.BitwiseOr

-- Functions

abbrev pub closure : Code → List ℕ → ℕ → Comp
closure code name env = makes (closed (shape_of code) name env)

-- 15.2.5: a function that sees its own name as a constant
abbrev pub own_named : List ℕ → Code → ℕ → Comp
own_named name code env = within (scope_made (uninitialized true name ∷ []) env) (λ e.
    handle (closure code (name_units name) e) (with_value (initialize name e)))

-- an anonymous function with the name that its place gives it (8.4.5, 13.2.1.2): parentheses and marks notwithstanding
abbrev pub named_function : Expr → List ℕ → ℕ → Option Comp
named_function (FunctionExpression loc None function) name env = Some (closure (Ordinary function) name env)
named_function (ArrowFunction loc number params body) name env = Some (closure (Arrow number params body) name env)
named_function (Parenthesized loc e) name env = named_function e name env
named_function (Entered mark e) name env = option_map (entering mark) (named_function e name env)
named_function _ name env = None

-- an expression where a name is given to it: what it does is as without it, but for an anonymous function
abbrev pub named : List ℕ → Expr → ℕ → Comp → Comp
named name e env as_it_is = elim (named_function e name env) [ None ↦ as_it_is | Some c ↦ c ]

abbrev pub named_for : Reference → Expr → ℕ → Comp → Comp
named_for (Name name) e env as_it_is = named (name_units name) e env as_it_is
named_for (Member base key) e env as_it_is = as_it_is

-- 13.15.2: the value as it is named, or the operator's, whose left operand is read first
abbrev pub assigning : Option BinaryOperator → Reference → Expr → ℕ → Comp → Comp
assigning None r e env value = handle (named_for r e env value) (with_value (put_value env r))
assigning (Some operator) r e env value = handle (get_value env r) (with_value (λ v. handle value (with_value (λ w.
    handle (operated operator v w) (with_value (put_value env r))))))

-- Calls

-- 13.3.6.2: a step is charged once the callee is found callable
abbrev pub call_kind : ObjectKind → ℕ → Value → List Value → Comp
call_kind (BuiltIn function) callee this arguments = enter (E.CallBuiltIn callee function None this arguments) ret
call_kind (Written code env) callee this arguments = enter (E.Call code env this arguments) ret
call_kind _ callee this arguments = complain NotAFunction

abbrev pub call : Value → Value → List Value → Comp
call (value.Primitive p) this arguments = complain NotAFunction
call (value.Object o) this arguments = looks (λ s. call_kind (kind_of s.heap o.index) o.index this arguments)

-- 13.3.5.1.1: and once it is found to be a constructor
abbrev pub construct_kind : Sources → ObjectKind → ℕ → List Value → Comp
construct_kind p (BuiltIn function) maker arguments =
    if constructs function then enter (E.CallBuiltIn maker function (Some maker) undefined arguments) ret else complain NotAConstructor
construct_kind p (Written code env) maker arguments =
    if program.constructs p code then enter (E.New maker code env arguments) ret else complain NotAConstructor
construct_kind p _ maker arguments = complain NotAConstructor

abbrev pub construct : Sources → Value → List Value → Comp
construct p (value.Primitive v) arguments = complain NotAConstructor
construct p (value.Object o) arguments = looks (λ s. construct_kind p (kind_of s.heap o.index) o.index arguments)

-- Literals

-- 7.3.5
abbrev pub defines : ℕ → List ℕ → Value → Comp
defines o key v = act (on_heap (define o (assigned key v))) (λ s. done)

-- 13.2.5.5: a key that is no number of the profile is refused
abbrev pub number_key : Option ℤ → (List ℕ → Comp) → Comp
number_key None next = refuse kind.Number
number_key (Some n) next = next (decimal_text n)

-- Expressions

abbrev mutual
  -- an expression (13) of a program, in an environment
  pub comp_expr : Sources → Expr → ℕ → Comp
  comp_expr p (IdentifierReference loc name) env = read name env
  comp_expr p (This loc) env = read (codes "this") env
  comp_expr p (NullLiteral loc) env = give (value.Primitive primitive.Null)
  comp_expr p (BooleanLiteral loc b) env = truth b
  comp_expr p (NumericLiteral loc spelling) env = number (literal_number spelling)
  comp_expr p (StringLiteral loc spelled) env = give (text spelled.units)
  comp_expr p (ArrayLiteral loc items) env = comp_values p items env [] (λ vs. makes (new_array (number_of ArrayPrototype) vs))
  comp_expr p (ObjectLiteral loc properties) env =
      act (on_heap (new_object Plain (Some (number_of ObjectPrototype)))) (λ s. comp_properties p properties env (next_object s.heap))
  comp_expr p (FunctionExpression loc None function) env = closure (Ordinary function) [] env
  comp_expr p (FunctionExpression loc (Some name) function) env = own_named name.name (Ordinary function) env
  comp_expr p (ArrowFunction loc number params body) env = closure (Arrow number params body) [] env
  comp_expr p (RegularExpressionLiteral loc pattern flags) env = makes (new_object RegExp (Some (number_of RegExpPrototype)))
  comp_expr p (TemplateLiteral loc spelled parts) env = comp_template_parts p parts env spelled.units
  comp_expr p (Parenthesized loc e) env = comp_expr p e env
  comp_expr p (NamedMember loc e name) env = handle (comp_expr p e env) (with_value (λ base. get_member_of base (text (name_units name))))
  comp_expr p (ComputedMember loc e f) env = handle (comp_expr p e env) (with_value (λ base. handle (comp_expr p f env) (with_value (get_member_of base))))
  comp_expr p (New loc e arguments) env = handle (comp_expr p e env) (with_value (λ f. comp_values p arguments env [] (construct p f)))
  comp_expr p (P.Call loc e arguments) env =
      comp_reference p e env (handle (comp_expr p e env) (with_value (λ f. comp_values p arguments env [] (call f undefined))))
      (λ r. handle (get_value env r) (with_value (λ f. comp_values p arguments env [] (call f (this_of r)))))
  comp_expr p (PostfixUpdate loc operator e) env = comp_reference p e env (complain NotAssignable) (updates false operator env)
  comp_expr p (PrefixUpdate loc operator e) env = comp_reference p e env (complain NotAssignable) (updates true operator env)
  comp_expr p (Unary loc unary_operator.Delete e) env =
      comp_reference p e env (handle (comp_expr p e env) (with_value (operated_unary unary_operator.Delete))) deleted
  comp_expr p (Unary loc unary_operator.TypeOf e) env =
      if_there (name_of e) env (handle (comp_expr p e env) (with_value (operated_unary unary_operator.TypeOf)))
  comp_expr p (Unary loc operator e) env = handle (comp_expr p e env) (with_value (operated_unary operator))
  comp_expr p (Binary loc operator e f) env =
      handle (comp_expr p e env) (with_value (λ v. handle (comp_expr p f env) (with_value (operated operator v))))
  comp_expr p (Logical loc operator e f) env = handle (comp_expr p e env) (with_value (chosen operator (comp_expr p f env)))
  comp_expr p (Conditional loc e f g) env = handle (comp_expr p e env) (with_value (choose (comp_expr p f env) (comp_expr p g env)))
  comp_expr p (Assignment loc operator target e) env =
      comp_reference p target env (complain NotAssignable) (λ r. assigning (operator_of operator) r e env (comp_expr p e env))
  comp_expr p (Comma loc e f) env = handle (comp_expr p e env) (with_value (λ v. comp_expr p f env))
  comp_expr p (Entered mark e) env = entering mark (comp_expr p e env)

  -- the reference that an expression is, parentheses notwithstanding (13.2.9.2), and what is done with it; where it is none, something
  -- else is done. No construct is entered where an expression may stand for a reference.
  pub comp_reference : Sources → Expr → ℕ → Comp → (Reference → Comp) → Comp
  comp_reference p (IdentifierReference loc name) env otherwise next = next (Name name)
  comp_reference p (NamedMember loc e name) env otherwise next =
      handle (comp_expr p e env) (with_value (λ base. next (Member base (text (name_units name)))))
  comp_reference p (ComputedMember loc e f) env otherwise next =
      handle (comp_expr p e env) (with_value (λ base. handle (comp_expr p f env) (with_value (λ key. next (Member base key)))))
  comp_reference p (Parenthesized loc e) env otherwise next = comp_reference p e env otherwise next
  comp_reference p (Entered mark e) env otherwise next = entering mark (comp_reference p e env otherwise next)
  comp_reference p _ env otherwise next = otherwise

  -- one value after another, after those before (13.3.8.1, 13.2.4.1)
  pub comp_values : Sources → Exprs → ℕ → List Value → (List Value → Comp) → Comp
  comp_values p no_expr env values next = next values
  comp_values p (more_expr x xs) env values next =
      handle (comp_expr p x env) (with_value (λ v. comp_values p xs env (values ++ v ∷ []) next))

  -- the substitutions of a template and the texts after them, after the text before (13.2.8.6)
  pub comp_template_parts : Sources → TemplateParts → ℕ → List ℕ → Comp
  comp_template_parts p no_template_part env units = give (text units)
  comp_template_parts p (more_template_part (MakeTemplatePart e spelled) xs) env units =
      handle (comp_expr p e env) (with_value (λ v. or_halt (to_text (seen v)) (λ inner.
      comp_template_parts p xs env (units ++ inner ++ spelled.units))))

  -- the properties of an object, which is given (13.2.5.4)
  pub comp_properties : Sources → Properties → ℕ → ℕ → Comp
  comp_properties p no_property env o = give (object o)
  comp_properties p (more_property x xs) env o = handle (comp_property p x env o) (with_value (λ v. comp_properties p xs env o))

  -- 13.2.5.5, 15.4.5
  pub comp_property : Sources → Property → ℕ → ℕ → Comp
  comp_property p (Shorthand loc name) env o = handle (read name env) (with_value (defines o (name_units name)))
  comp_property p (KeyValue loc key e) env o =
      comp_key p key env (λ k. handle (named k e env (comp_expr p e env)) (with_value (defines o k)))
  comp_property p (Method loc key function) env o =
      comp_key p key env (λ k. handle (closure (OfMethod function) k env) (with_value (defines o k)))

  -- a key as a text, which is taken when it is evaluated
  pub comp_key : Sources → PropertyKey → ℕ → (List ℕ → Comp) → Comp
  comp_key p (NameKey name) env next = next (name_units name)
  comp_key p (StringKey spelled) env next = next spelled.units
  comp_key p (NumberKey spelling) env next = number_key (literal_number spelling) next
  comp_key p (ComputedKey e) env next = handle (comp_expr p e env) (with_value (λ v. or_halt (to_text (seen v)) next))

abbrev pub comp_expr_if : Sources → MaybeExpr → ℕ → Comp
comp_expr_if p none_expr env = done
comp_expr_if p (some_expr e) env = comp_expr p e env

-- Declarations

-- the value of a name that is declared (14.3.1.2, 14.3.2.1)
abbrev pub binds : VariableKind → List ℕ → ℕ → Value → Comp
binds variable.Var name env v = write name env v
binds variable.Let name env v = initialize name env v
binds variable.Const name env v = initialize name env v

-- without an initializer
abbrev pub binds_none : VariableKind → List ℕ → ℕ → Comp
binds_none variable.Var name env = done
binds_none variable.Let name env = initialize name env undefined
binds_none variable.Const name env = initialize name env undefined

abbrev pub declares : Sources → VariableKind → List ℕ → MaybeExpr → ℕ → Comp
declares p kind name none_expr env = binds_none kind name env
declares p kind name (some_expr e) env = handle (named (name_units name) e env (comp_expr p e env)) (with_value (binds kind name env))

abbrev pub comp_declarator : Sources → VariableKind → Declarator → ℕ → Comp
comp_declarator p kind (MakeDeclarator loc pattern initializer) env = declares p kind (bound pattern) initializer env

-- one declarator after another
abbrev pub comp_declarators : Sources → VariableKind → Declarators → ℕ → Comp
comp_declarators p kind no_declarator env = done
comp_declarators p kind (more_declarator d ds) env = handle (comp_declarator p kind d env) (with_value (λ v. comp_declarators p kind ds env))

-- Scopes

-- an environment of these names and functions: where there is nothing to declare, none is made
abbrev pub in_names : List Binding → List Hoisted → ℕ → (ℕ → Comp) → Comp
in_names [] functions env next = next env
in_names (b ∷ bs) functions env next = within (block_made (b ∷ bs) functions env) next

-- 14.2.2
abbrev pub in_scope : Scope → ℕ → (ℕ → Comp) → Comp
in_scope scope env next = in_names (map (variable_of undefined) scope.variables ++ scope.lexical) scope.functions env next

-- 14.15.2
abbrev pub in_catch : MaybePattern → Value → ℕ → (ℕ → Comp) → Comp
in_catch none_pattern v env next = next env
in_catch (some_pattern pattern) v env next = within (scope_made (variable_of v (bound pattern) ∷ []) env) next

-- Loops

-- a turn of a loop, with its labels, asks for a step (14.7.3.2)
abbrev pub turn : Stmt → List (List ℕ) → ℕ → Value → Comp
turn x labels env v = choose (enter (Turn x labels env) ret) done v

-- a loop without a test always goes on (14.7.4.3)
abbrev pub turn_if : Sources → MaybeExpr → Stmt → List (List ℕ) → ℕ → Comp
turn_if p none_expr x labels env = enter (Turn x labels env) ret
turn_if p (some_expr e) x labels env = handle (comp_expr p e env) (with_value (turn x labels env))

-- after the body of a loop with these labels (14.7.1.1, LoopContinues): another turn, or its end
abbrev pub after_turn : List (List ℕ) → Comp → Completion → Comp
after_turn labels again (Normal v) = again
after_turn labels again (Break None) = done
after_turn labels again (Break (Some label)) = ret (Break (Some label))
after_turn labels again (Continue None) = again
after_turn labels again (Continue (Some label)) = if stands_in label labels then again else ret (Continue (Some label))
after_turn labels again (Return v) = ret (Return v)
after_turn labels again (Throw v) = ret (Throw v)

-- 14.7.4.4: each turn has the names of `let` anew
abbrev pub anew : ForInit → ℕ → (ℕ → Comp) → Comp
anew start env next = if is_fresh start then within (copy_environment env) next else next env

abbrev pub comp_for_init : Sources → ForInit → ℕ → Comp
comp_for_init p NoInit env = done
comp_for_init p (InitDeclaration kind declarators) env = comp_declarators p kind declarators env
comp_for_init p (InitExpression e) env = comp_expr p e env

-- a target takes a value, and the body is done in the environment that has its name (14.7.5.7, 6.g)
abbrev pub takes : Sources → ForTarget → ℕ → Value → (ℕ → Comp) → Comp
takes p (TargetDeclaration kind pattern) env v next = in_scope (target_scope (TargetDeclaration kind pattern)) env (λ inner.
    handle (binds kind (bound pattern) inner v) (with_value (λ w. next inner)))
takes p (TargetExpression e) env v next =
    comp_reference p e env (complain NotAssignable) (λ r. handle (put_value env r v) (with_value (λ w. next env)))

abbrev pub takes_next : Sources → Stmt → ForTarget → List (List ℕ) → ℕ → Option Taken → Comp
takes_next p x target labels env None = done
takes_next p x target labels env (Some t) = takes p target env t.value (λ inner. enter (Pass x labels env inner t.rest) ret)

-- the next key or item, where there is one: a step is asked for once it is taken
abbrev pub goes_through : Sources → Stmt → ForTarget → List (List ℕ) → ℕ → Iteration → Comp
goes_through p x target labels env rest = looks (λ s. takes_next p x target labels env (next_of s.heap rest))

-- 14.7.5.6, 6 and 7: the keys that a value has now, or the items that it will have
abbrev pub goes_through_keys : Sources → Stmt → ForTarget → List (List ℕ) → ℕ → Value → Comp
goes_through_keys p x target labels env v = looks (λ s. goes_through p x target labels env (Keys v (keys_of s.heap v)))

abbrev pub goes_through_items : Sources → Stmt → ForTarget → List (List ℕ) → ℕ → Value → Comp
goes_through_items p x target labels env v = looks (λ s. or_halt (iterated s.heap v) (goes_through p x target labels env))

-- Jumps

-- 14.13.4
abbrev pub after_label : List ℕ → Completion → Comp
after_label label (Break (Some other)) = if bytes_eq other label then done else ret (Break (Some other))
after_label label c = ret c

-- 14.12.4: a `break` without a label leaves a `switch`
abbrev pub after_switch : Completion → Comp
after_switch (Break None) = done
after_switch c = ret c

-- 14.15.3
abbrev pub caught : (Value → Comp) → Completion → Comp
caught next (Throw v) = next v
caught next c = ret c

abbrev pub finally : Comp → Completion → Comp
finally last c = handle last (with_value (λ v. ret c))

abbrev pub returned : Sources → MaybeExpr → ℕ → Comp
returned p none_expr env = ret (Return undefined)
returned p (some_expr e) env = handle (comp_expr p e env) (with_value (λ v. ret (Return v)))

-- whether a clause is `default`
abbrev pub is_default : Case → Bool
is_default (MakeCase loc none_expr xs) = true
is_default (MakeCase loc (some_expr e) xs) = false
is_default (EnteredCase mark x) = is_default x

-- 14.12.3: a clause is chosen by its test
abbrev pub comp_test : Sources → Case → ℕ → Value → Comp → Comp → Comp
comp_test p (MakeCase loc none_expr xs) env v holds fails = fails
comp_test p (MakeCase loc (some_expr e) xs) env v holds fails =
    handle (comp_expr p e env) (with_value (λ w. if strictly_equal v w then holds else fails))
comp_test p (EnteredCase mark x) env v holds fails = comp_test p x env v holds fails

-- Statements

abbrev mutual
  -- a statement (14) of a program, with the labels that stand before it, in an environment
  pub comp_stmt : Sources → Stmt → List (List ℕ) → ℕ → Comp
  comp_stmt p (Directive loc spelled) labels env = done
  comp_stmt p (Block loc xs) labels env = in_scope (block_scope xs) env (comp_stmts p xs)
  comp_stmt p (VariableDeclaration loc kind declarators) labels env = comp_declarators p kind declarators env
  comp_stmt p (Empty loc) labels env = done
  comp_stmt p (Expression loc e) labels env = handle (comp_expr p e env) (with_value (λ v. done))
  comp_stmt p (If loc e x y) labels env = handle (comp_expr p e env) (with_value (choose (comp_stmt p x [] env) (comp_stmt_if p y env)))
  comp_stmt p (DoWhile loc x e) labels env = enter (Turn (DoWhile loc x e) labels env) ret
  comp_stmt p (While loc e x) labels env = handle (comp_expr p e env) (with_value (turn (While loc e x) labels env))
  comp_stmt p (For loc start e f x) labels env = in_scope (init_scope start) env (λ inner.
      handle (comp_for_init p start inner) (with_value (λ v. anew start inner (turn_if p e (For loc start e f x) labels))))
  comp_stmt p (ForIn loc target e x) labels env = in_scope (target_scope target) env (λ inner.
      handle (comp_expr p e inner) (with_value (goes_through_keys p (ForIn loc target e x) target labels env)))
  comp_stmt p (ForOf loc target e x) labels env = in_scope (target_scope target) env (λ inner.
      handle (comp_expr p e inner) (with_value (goes_through_items p (ForOf loc target e x) target labels env)))
  comp_stmt p (P.Continue loc label) labels env = ret (Continue (option_map (λ l. l.name) label))
  comp_stmt p (P.Break loc label) labels env = ret (Break (option_map (λ l. l.name) label))
  comp_stmt p (P.Return loc e) labels env = returned p e env
  comp_stmt p (Switch loc e cases) labels env = handle (comp_expr p e env) (with_value (λ v. in_scope (block_scope (cases_stmts cases)) env (λ inner.
      handle (comp_select p cases inner v (comp_default p cases inner)) after_switch)))
  comp_stmt p (Labelled loc label x) labels env = handle (comp_stmt p x (label.name ∷ labels) env) (after_label label.name)
  comp_stmt p (P.Throw loc e) labels env = handle (comp_expr p e env) (with_value (λ v. ret (Throw v)))
  comp_stmt p (TryCatch loc xs catch) labels env = handle (in_scope (block_scope xs) env (comp_stmts p xs)) (caught (comp_catch p catch env))
  comp_stmt p (TryFinally loc xs ys) labels env = handle (in_scope (block_scope xs) env (comp_stmts p xs)) (finally (in_scope (block_scope ys) env (comp_stmts p ys)))
  comp_stmt p (TryCatchFinally loc xs catch ys) labels env =
      handle (handle (in_scope (block_scope xs) env (comp_stmts p xs)) (caught (comp_catch p catch env))) (finally (in_scope (block_scope ys) env (comp_stmts p ys)))
  comp_stmt p (Debugger loc) labels env = done
  comp_stmt p (FunctionDeclaration loc name function) labels env = done
  comp_stmt p (EnteredStmt mark (Block loc xs)) labels env = in_scope (block_scope xs) env (λ inner. entering mark (comp_stmts p xs inner))
  comp_stmt p (EnteredStmt mark x) labels env = entering mark (comp_stmt p x labels env)

  -- one statement after another (14.2.2): a list of one is that statement
  pub comp_stmts : Sources → Stmts → ℕ → Comp
  comp_stmts p no_stmt env = done
  comp_stmts p (more_stmt x no_stmt) env = comp_stmt p x [] env
  comp_stmts p (more_stmt x (more_stmt y ys)) env = handle (comp_stmt p x [] env) (with_value (λ v. comp_stmts p (more_stmt y ys) env))

  -- an arm that is missing does nothing (14.6.2)
  pub comp_stmt_if : Sources → MaybeStmt → ℕ → Comp
  comp_stmt_if p none_stmt env = done
  comp_stmt_if p (some_stmt x) env = comp_stmt p x [] env
  comp_stmt_if p (entered_none mark) env = entering mark done

  -- 14.15.2
  pub comp_catch : Sources → Catch → ℕ → Value → Comp
  comp_catch p (MakeCatch pattern xs) env v = in_catch pattern v env (λ inner. in_scope (block_scope xs) inner (comp_stmts p xs))

  pub comp_case : Sources → Case → ℕ → Comp
  comp_case p (MakeCase loc e xs) env = comp_stmts p xs env
  comp_case p (EnteredCase mark x) env = entering mark (comp_case p x env)

  -- clauses from the first on, falling through
  pub comp_cases : Sources → Cases → ℕ → Comp
  comp_cases p no_case env = done
  comp_cases p (more_case x xs) env = handle (comp_case p x env) (with_value (λ v. comp_cases p xs env))

  -- 14.12.2: from the first clause on whose test is equal to a value; where there is none, something else is done
  pub comp_select : Sources → Cases → ℕ → Value → Comp → Comp
  comp_select p no_case env v otherwise = otherwise
  comp_select p (more_case x xs) env v otherwise =
      comp_test p x env v (handle (comp_case p x env) (with_value (λ w. comp_cases p xs env))) (comp_select p xs env v otherwise)

  -- from `default` on
  pub comp_default : Sources → Cases → ℕ → Comp
  comp_default p no_case env = done
  comp_default p (more_case x xs) env =
      if is_default x then handle (comp_case p x env) (with_value (λ v. comp_cases p xs env)) else comp_default p xs env

-- a turn of a loop with its labels: its body, and then perhaps the loop again (14.7.2.2, 14.7.3.2, 14.7.4.3); no other statement
-- has turns
abbrev pub comp_turn : Sources → Stmt → List (List ℕ) → ℕ → Comp
comp_turn p (DoWhile loc x e) labels env =
    handle (comp_stmt p x [] env) (after_turn labels (handle (comp_expr p e env) (with_value (turn (DoWhile loc x e) labels env))))
comp_turn p (While loc e x) labels env = handle (comp_stmt p x [] env) (after_turn labels (comp_stmt p (While loc e x) labels env))
comp_turn p (For loc start e f x) labels env = handle (comp_stmt p x [] env) (after_turn labels (anew start env (λ inner.
    handle (comp_expr_if p f inner) (with_value (λ v. turn_if p e (For loc start e f x) labels inner)))))
comp_turn p _ labels env = done

-- a turn of one that takes keys or items, and then those that are left (14.7.5.7)
abbrev pub comp_pass : Sources → Stmt → List (List ℕ) → ℕ → ℕ → Iteration → Comp
comp_pass p (ForIn loc target e x) labels env inner rest =
    handle (comp_stmt p x [] inner) (after_turn labels (goes_through p (ForIn loc target e x) target labels env rest))
comp_pass p (ForOf loc target e x) labels env inner rest =
    handle (comp_stmt p x [] inner) (after_turn labels (goes_through p (ForOf loc target e x) target labels env rest))
comp_pass p _ labels env inner rest = done

-- Bodies

-- the value of an argument, or of the default in its place (15.1.1 and 8.6.2, 14.3.3.1)
abbrev pub comp_argument : Sources → List ℕ → MaybeExpr → ℕ → Value → Comp
comp_argument p name (some_expr e) env (value.Primitive primitive.Undefined) = named (name_units name) e env (comp_expr p e env)
comp_argument p name e env v = give v

abbrev pub first_or_undefined : List Value → Value
first_or_undefined [] = undefined
first_or_undefined (v ∷ vs) = v

abbrev pub rest_of : List Value → List Value
rest_of [] = []
rest_of (v ∷ vs) = vs

-- one parameter after another takes its argument (10.2.11, 24)
abbrev pub comp_params : Sources → Params → ℕ → List Value → Comp
comp_params p no_param env arguments = done
comp_params p (more_param (MakeParam loc pattern e) ps) env arguments =
    handle (comp_argument p (bound pattern) e env (first_or_undefined arguments)) (with_value (λ v.
    handle (initialize (bound pattern) env v) (with_value (λ w. comp_params p ps env (rest_of arguments)))))

abbrev pub comp_body : Sources → FunctionBody → ℕ → Comp
comp_body p (MakeFunctionBody loc xs) env = comp_stmts p xs env
comp_body p (EnteredBody mark body) env = entering mark (comp_body p body env)

-- 15.3.5
abbrev pub comp_concise : Sources → ConciseBody → ℕ → Comp
comp_concise p (ExpressionBody e) env = handle (comp_expr p e env) (with_value (λ v. ret (Return v)))
comp_concise p (BlockBody body) env = comp_body p body env
