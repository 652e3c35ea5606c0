-- What single forms of the language do, by cases on what they are made of.
use Rattle.std.proofs.Common.{◌≡◌, ℕ, zero, suc, ◌+◌, ◌-◌, ◌*◌, ◌^◌, ◌<◌, ◌≤◌, Bool, true, false, List, [], ◌∷◌, length, get_or, drop, Option, Some, None, refl, ap, arith, add-one}
use Rattle.std.proofs.lemmas.Option.{slice_get_past}
use Rattle.js_terms.specs.declared.place.Loc.{Loc}
use Rattle.js_tree.specs.Plain as P
use Rattle.js_terms.specs.declared.operators.UnaryOperator.{UnaryOperator}
use Rattle.js_terms.specs.declared.operators.UnaryOperator.TheVariants as unary_operator
use Rattle.js_value.specs.declared.value.Value.{Value}
use Rattle.js_value.specs.declared.value.Value.TheVariants as value
use Rattle.js_value.specs.declared.value.Primitive.TheVariants as primitive
use Rattle.js_value.specs.Realm.{undefined}
use Rattle.js_code.specs.declared.node.Node.{Node}
use Rattle.js_code.specs.Code.{node_at, node_or}
use Rattle.js_code.specs.Node.{of_method, arrow_body}
use Rattle.js_meaning.specs.declared.outcome.Completion.TheVariants as completion
use Rattle.js_meaning.specs.Effects.{ret, handle}
use Rattle.js_meaning.specs.Program.{Sources}
use Rattle.js_meaning.specs.Scopes.{params_of}
use Rattle.js_meaning.specs.Meaning as M
use Rattle.js_machine.specs.declared.parts.Referring.{Referring}
use Rattle.js_machine.specs.declared.parts.Referring.TheVariants as referring
use Rattle.js_machine.specs.declared.data.Pending.{Pending}
use Rattle.js_machine.specs.declared.data.Pending.TheVariants as pending
use Rattle.js_machine.specs.declared.steps.TheConstants.{NOWHERE}
use Rattle.js_machine.specs.private.Config.{View, name_of, otherwise, undefined_is}
use Rattle.js_machine.specs.private.Weight.{Weights, clause_weight, declarator_weight, pending_weight, test_weight}

-- parentheses change nothing where an expression is no reference
pub otherwise_inside : (t : View) (next : Referring) (loc : Option Loc) (e : P.Expr) (env : ℕ) →
    otherwise t next e env ≡ otherwise t next (P.Parenthesized loc e) env
otherwise_inside t (referring.Call arguments) loc e env = refl
otherwise_inside t (referring.Update prefix operator) loc e env = refl
otherwise_inside t referring.Delete loc e env = refl
otherwise_inside t (referring.Assign operator place) loc e env = refl
otherwise_inside t (referring.Take v round rest) loc e env = refl

-- operators but `delete` and `typeof` are done to a value
pub unary_other : (p : Sources) (loc : Option Loc) (operator : UnaryOperator) (e : P.Expr) (env : ℕ) →
    (operator ≡ unary_operator.Delete → ⊥) → (operator ≡ unary_operator.TypeOf → ⊥) →
    handle (M.comp_expr p e env) (M.with_value (M.operated_unary operator)) ≡ M.comp_expr p (P.Unary loc operator e) env
unary_other p loc unary_operator.Delete e env h k = absurd (h refl)
unary_other p loc unary_operator.TypeOf e env h k = absurd (k refl)
unary_other p loc unary_operator.Void e env h k = refl
unary_other p loc unary_operator.Plus e env h k = refl
unary_other p loc unary_operator.Minus e env h k = refl
unary_other p loc unary_operator.BitwiseNot e env h k = refl
unary_other p loc unary_operator.LogicalNot e env h k = refl

-- `return` gives undefined where it has no value
pub returned_is : (p : Sources) (e : P.MaybeExpr) (env : ℕ) →
    handle (M.comp_expr_if p e env) (M.with_value (λ v. ret (completion.Return v))) ≡ M.returned p e env
returned_is p P.none_expr env = refl
returned_is p (P.some_expr e) env = refl

-- methods have the parts of functions
pub method_params : (b : Bool) (number : ℕ) (params : P.Params) (body : P.FunctionBody) →
    params_of (of_method b (P.MakeFunction number params body)) ≡ params
method_params true number params body = refl
method_params false number params body = refl

pub method_body : (b : Bool) (number : ℕ) (params : P.Params) (body : P.FunctionBody) →
    arrow_body (of_method b (P.MakeFunction number params body)) ≡ P.BlockBody body
method_body true number params body = refl
method_body false number params body = refl

-- an argument that is there takes the place of a default
pub given_argument : (p : Sources) (name : List ℕ) (e : P.MaybeExpr) (env : ℕ) (v : Value) → undefined_is v ≡ false → M.give v ≡ M.comp_argument p name e env v
given_argument p name P.none_expr env v given = refl
given_argument p name (P.some_expr e) env (value.Primitive primitive.Undefined) given = cc
given_argument p name (P.some_expr e) env (value.Primitive primitive.Null) given = refl
given_argument p name (P.some_expr e) env (value.Primitive (primitive.Boolean b)) given = refl
given_argument p name (P.some_expr e) env (value.Primitive (primitive.Number n)) given = refl
given_argument p name (P.some_expr e) env (value.Primitive (primitive.Text us)) given = refl
given_argument p name (P.some_expr e) env (value.Object o) given = refl

pub no_argument : (v : Value) → undefined_is v ≡ true → v ≡ undefined
no_argument (value.Primitive primitive.Undefined) is = refl
no_argument (value.Primitive primitive.Null) is = cc
no_argument (value.Primitive (primitive.Boolean b)) is = cc
no_argument (value.Primitive (primitive.Number n)) is = cc
no_argument (value.Primitive (primitive.Text us)) is = cc
no_argument (value.Object o) is = cc

-- a declarator is less to do than its node, if its initializer is
pub declared_less : (w : Weights) (initializer : Option ℕ) → declarator_weight w initializer ≤ 2 * clause_weight w initializer + 5
declared_less w None = omega arith
declared_less w (Some place) = omega arith

pub tested_less : (w : Weights) (test : Option ℕ) → test_weight w test ≤ clause_weight w test + 2
tested_less w None = omega arith
tested_less w (Some place) = omega arith

-- what waits for a value has something to do
pub waits_long : (w : Weights) (p : Pending) → 0 < pending_weight w p
waits_long w (pending.NamedMember name) = omega arith
waits_long w (pending.MemberObject k env) = omega arith
waits_long w (pending.MemberKey base) = omega arith
waits_long w (pending.Constructor arguments env) = omega arith
waits_long w (pending.Callee arguments env this) = omega arith
waits_long w (pending.Item rest env values g) = omega arith
waits_long w (pending.Operand operator) = omega arith
waits_long w (pending.Left operator right env) = omega arith
waits_long w (pending.Right operator left) = omega arith
waits_long w (pending.Logical operator right env) = omega arith
waits_long w (pending.Conditional holds fails env) = omega arith
waits_long w (pending.Comma right env) = omega arith
waits_long w (pending.ReferNamed name env next) = omega arith
waits_long w (pending.ReferObject k env next) = omega arith
waits_long w (pending.ReferKey base env next) = omega arith
waits_long w (pending.Put r env) = omega arith
waits_long w (pending.Old operator value r env) = omega arith
waits_long w (pending.New operator left r env) = omega arith
waits_long w (pending.Update prefix operator r env) = omega arith
waits_long w (pending.Instead c) = omega arith
waits_long w (pending.TemplatePart part rest env units) = omega arith
waits_long w (pending.Property rest env o) = omega arith
waits_long w (pending.As o k) = omega arith
waits_long w (pending.Key next env) = omega arith
waits_long w (pending.BindTo kind name env) = omega arith
waits_long w (pending.Declarator kind rest env) = omega arith
waits_long w pending.Discard = omega arith
waits_long w (pending.Statement rest env) = omega arith
waits_long w (pending.Choose holds fails env) = omega arith
waits_long w (pending.Turn statement labels env) = omega arith
waits_long w (pending.Started init test statement labels env) = omega arith
waits_long w (pending.Updated test statement labels env) = omega arith
waits_long w (pending.Subject keys round) = omega arith
waits_long w (pending.Taken round inner rest) = omega arith
waits_long w (pending.Switch cases env) = omega arith
waits_long w (pending.Tested statements rest all value env) = omega arith
waits_long w (pending.Fallen rest env) = omega arith
waits_long w pending.Return = omega arith
waits_long w pending.Throw = omega arith
waits_long w (pending.OwnName name env) = omega arith
waits_long w (pending.Param param rest arguments next env) = omega arith
waits_long w (pending.NextParam rest arguments next env) = omega arith
waits_long w (pending.Bound function env) = omega arith

-- the last place of all has no name
pub no_name : (nodes : List Node) → length nodes < 2 ^ 64 - 1 → name_of (node_at nodes NOWHERE) ≡ []
no_name nodes few = ap (λ o. name_of (node_or o)) (slice_get_past nodes NOWHERE (omega (arith, few)))

-- the values of a list at a place and after it
drop_suc : (vs : List Value) (i : ℕ) → i < length vs → drop (suc i) vs ≡ M.rest_of (drop i vs)
drop_suc [] i h = absurd (omega (arith, h))
drop_suc (v ∷ vs) zero h = refl
drop_suc (v ∷ vs) (suc i) h = drop_suc vs i (omega (arith, h))

pub drop_rest : (vs : List Value) (i : ℕ) → i < length vs → drop (i + 1) vs ≡ M.rest_of (drop i vs)
drop_rest vs i h = rw add-one (drop_suc vs i h)

pub drop_past : (vs : List Value) (i : ℕ) → length vs ≤ i → drop i vs ≡ M.rest_of (drop i vs)
drop_past [] zero h = refl
drop_past [] (suc i) h = refl
drop_past (v ∷ vs) zero h = absurd (omega (arith, h))
drop_past (v ∷ vs) (suc i) h = drop_past vs i (omega (arith, h))

pub first_there : (vs : List Value) (i : ℕ) (v : Value) → i < length vs → v ≡ get_or vs i v → v ≡ M.first_or_undefined (drop i vs)
first_there [] i v h e = absurd (omega (arith, h))
first_there (w ∷ vs) zero v h e = e
first_there (w ∷ vs) (suc i) v h e = first_there vs i v (omega (arith, h)) e

pub first_missing : (vs : List Value) (i : ℕ) → length vs ≤ i → undefined ≡ M.first_or_undefined (drop i vs)
first_missing [] zero h = refl
first_missing [] (suc i) h = refl
first_missing (v ∷ vs) zero h = absurd (omega (arith, h))
first_missing (v ∷ vs) (suc i) h = first_missing vs i (omega (arith, h))
