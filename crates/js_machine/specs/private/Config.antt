-- What the machine's parts stand for: the computations that are left to do.
use Rattle.std.specs.Prelude.{ℕ, Bool, true, false, List, [], ◌∷◌, ◌++◌, map, drop, Option, Some, None, slice_get, codes, not, if◌then◌else◌}
use Rattle.js_tree.specs.Plain as P
use Rattle.js_terms.specs.declared.words.Identifier.{Identifier}
use Rattle.js_tree.specs.Codes as codes
use Rattle.js_tree.specs.Codes.{Code, Ordinary, OfMethod, Arrow}
use Rattle.js_terms.specs.declared.operators.BinaryOperator.{BinaryOperator}
use Rattle.js_terms.specs.declared.operators.BinaryOperator.TheVariants as binary_operator
use Rattle.js_terms.specs.declared.operators.UnaryOperator.{UnaryOperator}
use Rattle.js_terms.specs.declared.operators.UnaryOperator.TheVariants as unary_operator
use Rattle.js_terms.specs.declared.operators.LogicalOperator.{LogicalOperator}
use Rattle.js_terms.specs.declared.operators.LogicalOperator.TheVariants as logical
use Rattle.js_value.specs.declared.value.Value.{Value}
use Rattle.js_value.specs.declared.value.Value.TheVariants as value
use Rattle.js_value.specs.declared.value.Primitive.TheVariants as primitive
use Rattle.js_value.specs.declared.deed.Complaint.TheVariants.{NotAConstructor, NotAFunction, NotAssignable, NotInitialised}
use Rattle.js_value.specs.declared.built_in.Place.TheVariants.{ObjectPrototype, ArrayPrototype, RegExpPrototype}
use Rattle.js_value.specs.State.{Plain, RegExp, Binding, Heap}
use Rattle.js_value.specs.Environments.{Cell, value_of}
use Rattle.js_value.specs.Members.{type_in}
use Rattle.js_value.specs.Objects.{kind_of, new_object, new_array, next_object}
use Rattle.js_value.specs.Functions.{name_units}
use Rattle.js_value.specs.Running.{on_heap, leave_cache}
use Rattle.js_value.specs.Arguments.{seen, to_text}
use Rattle.js_value.specs.Realm.{number_of, undefined, text}
use Rattle.js_value.specs.Conversions.{to_number, to_boolean}
use Rattle.js_value.specs.Equality.{strictly_equal}
use Rattle.js_value.specs.Operators.{binary}
use Rattle.js_value.specs.UnaryOperators.{stepped, unary}
use Rattle.js_value.specs.Iterations.{Iteration, Taken}
use Rattle.js_host.specs.Iteration.{plain_iteration}
use Rattle.js_code.specs.declared.node.Node.{Node}
use Rattle.js_code.specs.declared.node.Node.TheVariants as node
use Rattle.js_code.specs.Node.{Reader, function_of, arrow_body}
use Rattle.js_code.specs.Part.{as_expr, as_stmt, as_exprs, as_stmts, as_properties, as_property, as_property_key, as_template_parts, as_template_part, as_params, as_param, as_declarators, as_declarator, as_cases, as_case, as_catch, as_for_init, as_for_target, as_code, as_scope, as_case_scope, as_expr_if, as_stmt_if}
use Rattle.js_code.specs.Code.{reader, node_at}
use Rattle.js_meaning.specs.declared.outcome.Completion.{Completion}
use Rattle.js_meaning.specs.declared.outcome.Completion.TheVariants as completion
use Rattle.js_meaning.specs.Effects as E
use Rattle.js_meaning.specs.Effects.{Comp, ret, refuse, act, enter, handle}
use Rattle.js_meaning.specs.Program.{Sources}
use Rattle.js_meaning.specs.Scopes as S
use Rattle.js_meaning.specs.Meaning as M
use Rattle.js_meaning.specs.Meaning.{with_value}
use Rattle.js_meaning.specs.Files as F
use Rattle.js_machine.specs.declared.parts.Form.{Form}
use Rattle.js_machine.specs.declared.parts.Form.TheVariants as form
use Rattle.js_machine.specs.declared.parts.Title.{Title}
use Rattle.js_machine.specs.declared.parts.Title.TheVariants as title
use Rattle.js_machine.specs.declared.parts.MemberKey.{MemberKey}
use Rattle.js_machine.specs.declared.parts.MemberKey.TheVariants as key
use Rattle.js_machine.specs.declared.parts.Reference.{Reference}
use Rattle.js_machine.specs.declared.parts.Reference.TheVariants as reference
use Rattle.js_machine.specs.declared.parts.Gathering.{Gathering}
use Rattle.js_machine.specs.declared.parts.Gathering.TheVariants as gathering
use Rattle.js_machine.specs.declared.parts.Loop.{Loop}
use Rattle.js_machine.specs.declared.parts.Referring.{Referring}
use Rattle.js_machine.specs.declared.parts.Referring.TheVariants as referring
use Rattle.js_machine.specs.declared.parts.Keying.{Keying}
use Rattle.js_machine.specs.declared.parts.Keying.TheVariants as keying
use Rattle.js_machine.specs.declared.parts.Scoped.{Scoped}
use Rattle.js_machine.specs.declared.parts.Scoped.TheVariants as scoped
use Rattle.js_machine.specs.declared.data.Action.{Action}
use Rattle.js_machine.specs.declared.data.Action.TheVariants as action
use Rattle.js_machine.specs.declared.data.Entry.{Entry}
use Rattle.js_machine.specs.declared.data.Entry.TheVariants as entry
use Rattle.js_machine.specs.declared.data.Task.{Task}
use Rattle.js_machine.specs.declared.data.Task.TheVariants as task
use Rattle.js_machine.specs.declared.data.Control.{Control}
use Rattle.js_machine.specs.declared.data.Control.TheVariants as control
use Rattle.js_machine.specs.declared.data.Pending.{Pending}
use Rattle.js_machine.specs.declared.data.Pending.TheVariants as pending
use Rattle.js_machine.specs.declared.data.Frame.{Frame}
use Rattle.js_machine.specs.declared.data.Frame.TheVariants as frame
use Rattle.js_machine.specs.declared.data.Step.{Step}
use Rattle.js_machine.specs.declared.data.Step.TheVariants as step

-- the program that runs, and the part of a tree and the name at each place of its code
pub record View : Type 0 where
  pub program : Sources
  pub tree : Reader
  pub name : ℕ → List ℕ

-- the name that a node has, if it has one
abbrev pub own_name : Option Identifier → List ℕ
own_name None = []
own_name (Some name) = name.name

abbrev pub name_of : Node → List ℕ
name_of (node.IdentifierReference loc name) = name
name_of (node.This loc) = codes "this"
name_of (node.FunctionExpression loc name function) = own_name name
name_of (node.NamedMember loc object name) = name
name_of (node.Shorthand loc name) = name
name_of (node.NameKey name) = name
name_of (node.Param loc name_loc name default) = name
name_of (node.Labelled loc label body) = label.name
name_of (node.FunctionDeclaration loc name function) = name.name
name_of (node.Declarator loc name_loc name initializer) = name
name_of (node.TargetDeclaration kind name_loc name) = name
name_of (node.CatchName name_loc name statements) = name
name_of _ = []

abbrev pub view_of : Sources → List Node → View
view_of p nodes = record { program = p; tree = reader nodes; name = λ place. name_of (node_at nodes place) }

abbrev pub labels_in : List Node → List ℕ → List (List ℕ)
labels_in nodes labels = map (λ label. name_of (node_at nodes label)) labels

abbrev pub title_in : List Node → Title → List ℕ
title_in nodes title.Empty = []
title_in nodes (title.Name name) = name_units (name_of (node_at nodes name))
title_in nodes (title.Text units) = units

abbrev pub key_in : List Node → MemberKey → Value
key_in nodes (key.Name name) = text (name_units (name_of (node_at nodes name)))
key_in nodes (key.Value v) = v

-- parts of the code
abbrev pub expr_at : View → ℕ → P.Expr
expr_at t place = as_expr (t.tree place)

abbrev pub stmt_at : View → ℕ → P.Stmt
stmt_at t place = as_stmt (t.tree place)

abbrev pub stmts_at : View → ℕ → P.Stmts
stmts_at t place = as_stmts (t.tree place)

abbrev pub expr_if : View → ℕ → P.MaybeExpr
expr_if t place = as_expr_if (t.tree place)

abbrev pub stmt_if : View → ℕ → P.MaybeStmt
stmt_if t place = as_stmt_if (t.tree place)

-- the same where it is known whether it is missing
abbrev pub expr_or : View → Option ℕ → P.MaybeExpr
expr_or t None = P.none_expr
expr_or t (Some place) = P.some_expr (expr_at t place)

abbrev pub stmt_or : View → Option ℕ → P.MaybeStmt
stmt_or t None = P.none_stmt
stmt_or t (Some place) = P.some_stmt (stmt_at t place)

abbrev pub block_at : View → ℕ → P.Stmts
block_at t place = as_scope (t.tree place)

abbrev pub code_at : View → ℕ → Code
code_at t place = as_code (t.tree place)

abbrev pub text_after : P.TemplatePart → List ℕ
text_after (P.MakeTemplatePart e spelled) = spelled.units

abbrev pub labels_of : View → List ℕ → List (List ℕ)
labels_of t labels = map t.name labels

abbrev pub units_of : View → Title → List ℕ
units_of t title.Empty = []
units_of t (title.Name name) = name_units (t.name name)
units_of t (title.Text units) = units

abbrev pub key_of : View → MemberKey → Value
key_of t (key.Name name) = text (name_units (t.name name))
key_of t (key.Value v) = v

abbrev pub reference_of : View → Reference → M.Reference
reference_of t (reference.Name name) = M.Name (t.name name)
reference_of t (reference.Member base k) = M.Member base (key_of t k)

abbrev pub form_code : Form → Code → Code
form_code form.Ordinary code = Ordinary (function_of code)
form_code form.Method code = OfMethod (function_of code)
form_code form.Arrow code = Arrow (codes.number_of code) (S.params_of code) (arrow_body code)

abbrev pub code_of : View → Form → ℕ → Code
code_of t f function = form_code f (code_at t function)

abbrev pub is_ordinary : Form → Bool
is_ordinary form.Ordinary = true
is_ordinary _ = false

-- the scope of a function's body
abbrev pub code_scope : Code → S.Scope
code_scope code = S.body_scope (S.concise_stmts (arrow_body code))

abbrev pub this_of_call : Option Value → List Binding
this_of_call None = []
this_of_call (Some v) = F.this_bound v

-- what a function of this code has of the `this` that it is called with
abbrev pub own_this : Code → Value → Option Value
own_this (Ordinary function) this = Some this
own_this (OfMethod function) this = Some this
own_this (Arrow number params b) this = None

abbrev pub path_at : Sources → ℕ → List ℕ
path_at p file = elim (slice_get p.files file) [ None ↦ [] | Some source ↦ source.path ]

abbrev pub entry_of : View → Entry → E.Entry
entry_of t (entry.Call code environment this arguments) = E.Call code environment.index this arguments
entry_of t (entry.New maker code environment arguments) = E.New maker.index code environment.index arguments
entry_of t (entry.CallBuiltIn callee function None this arguments) = E.CallBuiltIn callee.index function None this arguments
entry_of t (entry.CallBuiltIn callee function (Some maker) this arguments) = E.CallBuiltIn callee.index function (Some maker.index) this arguments
entry_of t (entry.Turn statement labels env) = E.Turn (stmt_at t statement) (labels_of t labels) env.index
entry_of t (entry.Pass statement labels env inner rest) = E.Pass (stmt_at t statement) (labels_of t labels) env.index inner.index (plain_iteration rest)

abbrev pub gathered : View → Gathering → List Value → Comp
gathered t (gathering.Call callee this) vs = M.call callee this vs
gathered t (gathering.Construct maker) vs = M.construct t.program maker vs
gathered t gathering.Array vs = M.makes (new_array (number_of ArrayPrototype) vs)

-- the next turn of a loop
abbrev pub pass : View → Loop → ℕ → Iteration → Comp
pass t round inner rest = enter (E.Pass (stmt_at t round.statement) (labels_of t round.labels) round.env.index inner rest) ret

abbrev pub goes_through : View → Loop → Iteration → Comp
goes_through t round = M.goes_through t.program (stmt_at t round.statement) (as_for_target (t.tree round.target)) (labels_of t round.labels) round.env.index

abbrev pub goes_through_keys : View → Loop → Value → Comp
goes_through_keys t round = M.goes_through_keys t.program (stmt_at t round.statement) (as_for_target (t.tree round.target)) (labels_of t round.labels) round.env.index

abbrev pub goes_through_items : View → Loop → Value → Comp
goes_through_items t round = M.goes_through_items t.program (stmt_at t round.statement) (as_for_target (t.tree round.target)) (labels_of t round.labels) round.env.index

-- the next key or item is taken, where there is one
abbrev pub takes_next_of : View → Loop → Option Taken → Comp
takes_next_of t round = M.takes_next t.program (stmt_at t round.statement) (as_for_target (t.tree round.target)) (labels_of t round.labels) round.env.index

abbrev pub goes_through_all : Bool → View → Loop → Value → Comp
goes_through_all true = goes_through_keys
goes_through_all false = goes_through_items

abbrev pub referred : View → Referring → ℕ → M.Reference → Comp
referred t (referring.Call arguments) env r =
    handle (M.get_value env r) (with_value (λ f. M.comp_values t.program (as_exprs (t.tree arguments)) env [] (M.call f (M.this_of r))))
referred t (referring.Update prefix operator) env r = M.updates prefix operator env r
referred t referring.Delete env r = M.deleted r
referred t (referring.Assign operator e) env r = M.assigning operator r (expr_at t e) env (M.comp_expr t.program (expr_at t e) env)
referred t (referring.Take v round rest) env r = handle (M.put_value env r v) (with_value (λ w. pass t round env (plain_iteration rest)))

-- where an expression is no reference
abbrev pub otherwise : View → Referring → P.Expr → ℕ → Comp
otherwise t (referring.Call arguments) e env =
    handle (M.comp_expr t.program e env) (with_value (λ f. M.comp_values t.program (as_exprs (t.tree arguments)) env [] (M.call f undefined)))
otherwise t (referring.Update prefix operator) e env = M.complain NotAssignable
otherwise t referring.Delete e env = handle (M.comp_expr t.program e env) (with_value (M.operated_unary unary_operator.Delete))
otherwise t (referring.Assign operator value) e env = M.complain NotAssignable
otherwise t (referring.Take v round rest) e env = M.complain NotAssignable

abbrev pub keyed : View → Keying → ℕ → List ℕ → Comp
keyed t (keying.Value e o) env k = handle (M.named k (expr_at t e) env (M.comp_expr t.program (expr_at t e) env)) (with_value (M.defines o.index k))
keyed t (keying.Method function o) env k = handle (M.closure (code_of t form.Method function) k env) (with_value (M.defines o.index k))

-- a loop with a test, after a turn
abbrev pub again : View → P.Stmt → List (List ℕ) → ℕ → Comp
again t (P.DoWhile loc x e) labels env = handle (M.comp_expr t.program e env) (with_value (M.turn (P.DoWhile loc x e) labels env))
again t (P.For loc init e f x) labels env = M.anew init env (λ inner.
    handle (M.comp_expr_if t.program f inner) (with_value (λ v. M.turn_if t.program e (P.For loc init e f x) labels inner)))
again t x labels env = M.comp_stmt t.program x labels env

abbrev pub scope_of : View → Scoped → S.Scope
scope_of t (scoped.For init test statement labels) = S.init_scope (as_for_init (t.tree init))
scope_of t (scoped.Subject keys e round) = S.target_scope (as_for_target (t.tree round.target))
scope_of t (scoped.Target kind name v round rest) = S.lexical_scope (S.lexical_names kind (t.name name ∷ []))
scope_of t _ = S.lexical_scope []

abbrev pub block_comp : View → ℕ → ℕ → Comp
block_comp t block env = M.in_scope (S.block_scope (block_at t block)) env (M.comp_stmts t.program (block_at t block))

-- the clauses of a `switch`
abbrev pub cases_comp : View → P.Cases → Value → ℕ → Comp
cases_comp t cases v env = handle (M.comp_select t.program cases env v (M.comp_default t.program cases env)) M.after_switch

-- a function's body, in its own scope
abbrev pub body_comp : View → ℕ → ℕ → Comp
body_comp t function env = F.in_body (S.params_of (code_at t function)) (code_scope (code_at t function)) env (M.comp_concise t.program (arrow_body (code_at t function)))

abbrev pub scoped_comp : View → Scoped → ℕ → Comp
scoped_comp t (scoped.For init test statement labels) env = handle (M.comp_for_init t.program (as_for_init (t.tree init)) env) (with_value (λ v.
    M.anew (as_for_init (t.tree init)) env (M.turn_if t.program (expr_if t test) (stmt_at t statement) (labels_of t labels))))
scoped_comp t (scoped.Subject keys e round) env = handle (M.comp_expr t.program (expr_at t e) env) (with_value (goes_through_all keys t round))
scoped_comp t (scoped.Target kind name v round rest) env =
    handle (M.binds kind (t.name name) env v) (with_value (λ w. pass t round env (plain_iteration rest)))
scoped_comp t (scoped.Turn test statement labels) env = M.turn_if t.program (expr_if t test) (stmt_at t statement) (labels_of t labels) env
scoped_comp t (scoped.Update update test statement labels) env =
    handle (M.comp_expr_if t.program (expr_if t update) env) (with_value (λ v. M.turn_if t.program (expr_if t test) (stmt_at t statement) (labels_of t labels) env))
scoped_comp t (scoped.Switch cases v) env = cases_comp t (as_cases (t.tree cases)) v env
scoped_comp t (scoped.Block block) env = block_comp t block env
scoped_comp t (scoped.OwnName name function) env =
    handle (M.closure (code_of t form.Ordinary function) (name_units (t.name name)) env) (with_value (M.initialize (t.name name) env))

-- the parameters of a function take their arguments, before its body
abbrev pub call_comp : View → ℕ → List Value → ℕ → Comp
call_comp t function arguments env =
    handle (M.comp_params t.program (S.params_of (code_at t function)) env arguments) (with_value (λ v. body_comp t function env))

abbrev pub type_of_name : List ℕ → ℕ → Comp
type_of_name name env = M.if_there (Some name) env (handle (M.read name env) (with_value (M.operated_unary unary_operator.TypeOf)))

abbrev pub action_comp : View → Action → Comp
action_comp t (action.Read name env) = M.read (t.name name) env.index
action_comp t (action.Write name env v) = M.write (t.name name) env.index v
action_comp t (action.Initialize name env v) = M.initialize (t.name name) env.index v
action_comp t (action.GetMember base k) = M.get_member_of base (key_of t k)
action_comp t (action.PutMember base k v) = M.put_value 0 (M.Member base (key_of t k)) v
action_comp t (action.Delete r) = M.deleted (reference_of t r)
action_comp t (action.Operate operator v w) = M.operated operator v w
action_comp t (action.OperateUnary operator v) = M.operated_unary operator v
action_comp t (action.TypeOfName name env) = type_of_name (t.name name) env.index
action_comp t (action.Throw complaint) = M.complain complaint
action_comp t (action.Close form function name env) = M.closure (code_of t form function) (units_of t name) env.index
action_comp t action.MakeRegExp = M.makes (new_object RegExp (Some (number_of RegExpPrototype)))
action_comp t (action.MakeObject properties env) = act (on_heap (new_object Plain (Some (number_of ObjectPrototype)))) (λ s.
    M.comp_properties t.program (as_properties (t.tree properties)) env.index (next_object s.heap))
action_comp t (action.Define o k v) = M.defines o.index (units_of t k) v
action_comp t (action.Gathered g vs) = gathered t g vs
action_comp t (action.EnterBlock block env) = block_comp t block env.index
action_comp t (action.EnterSwitch cases v env) =
    M.in_scope (S.block_scope (S.cases_stmts (as_case_scope (t.tree cases)))) env.index (cases_comp t (as_case_scope (t.tree cases)) v)
action_comp t (action.EnterLoop next env) = M.in_scope (scope_of t next) env.index (scoped_comp t next)
action_comp t (action.Anew init next env) = M.anew (as_for_init (t.tree init)) env.index (scoped_comp t next)
action_comp t (action.Caught name v block env) = M.within (S.scope_made (S.variable_of v (t.name name) ∷ []) env.index) (block_comp t block)
action_comp t (action.OwnName name function env) = M.own_named (t.name name) (code_of t form.Ordinary function) env.index
action_comp t (action.GoThrough round rest) = goes_through t round (plain_iteration rest)
action_comp t (action.GoThroughKeys round v) = goes_through_keys t round v
action_comp t (action.GoThroughItems round v) = goes_through_items t round v
action_comp t (action.StartCall this function env arguments) =
    M.within (S.call_made (this_of_call this) (S.param_names (S.params_of (code_at t function))) env.index) (call_comp t function arguments)
action_comp t (action.EnterBody function env) = body_comp t function env.index
action_comp t (action.Exports file) = F.exports_of (path_at t.program file)
action_comp t (action.LeaveCache file thrown) = act (leave_cache (path_at t.program file)) (λ s. ret (completion.Throw thrown))

abbrev pub task_comp : View → Task → Comp
task_comp t (task.Evaluate place env) = M.comp_expr t.program (expr_at t place) env.index
task_comp t (task.EvaluateNamed name place env) = M.named (units_of t name) (expr_at t place) env.index (M.comp_expr t.program (expr_at t place) env.index)
task_comp t (task.EvaluateIf place env) = M.comp_expr_if t.program (expr_if t place) env.index
task_comp t (task.TypeOf place env) = M.if_there (M.name_of (expr_at t place)) env.index
    (handle (M.comp_expr t.program (expr_at t place) env.index) (with_value (M.operated_unary unary_operator.TypeOf)))
task_comp t (task.Refer place env next) =
    M.comp_reference t.program (expr_at t place) env.index (otherwise t next (expr_at t place) env.index) (referred t next env.index)
task_comp t (task.Referred next env r) = referred t next env.index (reference_of t r)
task_comp t (task.Gather place env values g) = M.comp_values t.program (as_exprs (t.tree place)) env.index values (gathered t g)
task_comp t (task.Template parts env units) = M.comp_template_parts t.program (as_template_parts (t.tree parts)) env.index units
task_comp t (task.TemplatePart part rest env units) =
    M.comp_template_parts t.program (P.more_template_part (as_template_part (t.tree part)) (as_template_parts (t.tree rest))) env.index units
task_comp t (task.TemplateText part rest env units) =
    M.comp_template_parts t.program (as_template_parts (t.tree rest)) env.index (units ++ text_after (as_template_part (t.tree part)))
task_comp t (task.DefineAll properties env o) = M.comp_properties t.program (as_properties (t.tree properties)) env.index o.index
task_comp t (task.DefineOne property env o) = M.comp_property t.program (as_property (t.tree property)) env.index o.index
task_comp t (task.Key place env next) = M.comp_key t.program (as_property_key (t.tree place)) env.index (keyed t next env.index)
task_comp t (task.Keyed next env k) = keyed t next env.index (units_of t k)
task_comp t (task.Declare kind declarators env) = M.comp_declarators t.program kind (as_declarators (t.tree declarators)) env.index
task_comp t (task.DeclareOne kind declarator env) = M.comp_declarator t.program kind (as_declarator (t.tree declarator)) env.index
task_comp t (task.Execute place labels env) = M.comp_stmt t.program (stmt_at t place) (labels_of t labels) env.index
task_comp t (task.ExecuteIf place env) = M.comp_stmt_if t.program (stmt_if t place) env.index
task_comp t (task.ExecuteAll place env) = M.comp_stmts t.program (stmts_at t place) env.index
task_comp t (task.Try block clause env) = handle (block_comp t block env.index) (M.caught (M.comp_catch t.program (as_catch (t.tree clause)) env.index))
task_comp t (task.Select cases all v env) =
    M.comp_select t.program (as_cases (t.tree cases)) env.index v (M.comp_default t.program (as_cases (t.tree all)) env.index)
task_comp t (task.SelectCase case rest all v env) =
    M.comp_select t.program (P.more_case (as_case (t.tree case)) (as_cases (t.tree rest))) env.index v (M.comp_default t.program (as_cases (t.tree all)) env.index)
task_comp t (task.Default cases env) = M.comp_default t.program (as_cases (t.tree cases)) env.index
task_comp t (task.DefaultCase case rest env) = M.comp_default t.program (P.more_case (as_case (t.tree case)) (as_cases (t.tree rest))) env.index
task_comp t (task.Fall cases env) = M.comp_cases t.program (as_cases (t.tree cases)) env.index
task_comp t (task.ExecuteCase case env) = M.comp_case t.program (as_case (t.tree case)) env.index
task_comp t (task.Catch clause v env) = M.comp_catch t.program (as_catch (t.tree clause)) env.index v
task_comp t (task.Start init env) = M.comp_for_init t.program (as_for_init (t.tree init)) env.index
task_comp t (task.Test test statement labels env) = M.turn_if t.program (expr_if t test) (stmt_at t statement) (labels_of t labels) env.index
task_comp t (task.Again statement labels env) = again t (stmt_at t statement) (labels_of t labels) env.index
task_comp t (task.Continued label statement labels env) =
    M.after_turn (labels_of t labels) (again t (stmt_at t statement) (labels_of t labels) env.index) (completion.Continue (Some label))
task_comp t (task.ContinuedPass label round rest) =
    M.after_turn (labels_of t round.labels) (goes_through t round (plain_iteration rest)) (completion.Continue (Some label))
task_comp t (task.Broken label broken) = M.after_label (t.name label) (completion.Break (Some broken))
task_comp t (task.Take round v rest) = M.takes t.program (as_for_target (t.tree round.target)) round.env.index v (λ inner. pass t round inner (plain_iteration rest))
task_comp t (task.BindAll function arguments env) = call_comp t function arguments env.index
task_comp t (task.Bind params arguments next env) = M.comp_params t.program (as_params (t.tree params)) env.index (drop next arguments)
task_comp t (task.BindParam param rest arguments next env) =
    M.comp_params t.program (P.more_param (as_param (t.tree param)) (as_params (t.tree rest))) env.index (drop next arguments)
task_comp t (task.Run function env) = M.comp_concise t.program (arrow_body (code_at t function)) env.index
task_comp t (task.RunFile statements env) = handle (M.comp_stmts t.program (stmts_at t statements) env.index) F.after_call
task_comp t (task.Within next env) = scoped_comp t next env.index

abbrev pub control_comp : View → Control → Comp
control_comp t (control.Begin x) = task_comp t x
control_comp t (control.Give c) = ret c
control_comp t (control.Refuse k) = refuse k
control_comp t (control.Do a) = action_comp t a
control_comp t (control.Enter e) = enter (entry_of t e) ret

-- how what waits for a value goes on with it
abbrev pub pending_comp : View → Pending → Value → Comp
pending_comp t (pending.NamedMember name) v = M.get_member_of v (text (name_units (t.name name)))
pending_comp t (pending.MemberObject k env) v = handle (M.comp_expr t.program (expr_at t k) env.index) (with_value (M.get_member_of v))
pending_comp t (pending.MemberKey base) v = M.get_member_of base v
pending_comp t (pending.Constructor arguments env) v = M.comp_values t.program (as_exprs (t.tree arguments)) env.index [] (M.construct t.program v)
pending_comp t (pending.Callee arguments env this) v = M.comp_values t.program (as_exprs (t.tree arguments)) env.index [] (M.call v this)
pending_comp t (pending.Item rest env values g) v = M.comp_values t.program (as_exprs (t.tree rest)) env.index (values ++ v ∷ []) (gathered t g)
pending_comp t (pending.Operand operator) v = M.operated_unary operator v
pending_comp t (pending.Left operator right env) v = handle (M.comp_expr t.program (expr_at t right) env.index) (with_value (M.operated operator v))
pending_comp t (pending.Right operator left) v = M.operated operator left v
pending_comp t (pending.Logical operator right env) v = M.chosen operator (M.comp_expr t.program (expr_at t right) env.index) v
pending_comp t (pending.Conditional holds fails env) v =
    M.choose (M.comp_expr t.program (expr_at t holds) env.index) (M.comp_expr t.program (expr_at t fails) env.index) v
pending_comp t (pending.Comma right env) v = M.comp_expr t.program (expr_at t right) env.index
pending_comp t (pending.ReferNamed name env next) v = referred t next env.index (M.Member v (text (name_units (t.name name))))
pending_comp t (pending.ReferObject k env next) v =
    handle (M.comp_expr t.program (expr_at t k) env.index) (with_value (λ key. referred t next env.index (M.Member v key)))
pending_comp t (pending.ReferKey base env next) v = referred t next env.index (M.Member base v)
pending_comp t (pending.Put r env) v = M.put_value env.index (reference_of t r) v
pending_comp t (pending.Old operator e r env) v = handle (M.comp_expr t.program (expr_at t e) env.index) (with_value (λ w.
    handle (M.operated operator v w) (with_value (M.put_value env.index (reference_of t r)))))
pending_comp t (pending.New operator left r env) v = handle (M.operated operator left v) (with_value (M.put_value env.index (reference_of t r)))
pending_comp t (pending.Update prefix operator r env) v = M.numbered (to_number v) (λ old. M.numbered (stepped operator old) (λ new.
    handle (M.put_value env.index (reference_of t r) (M.number_value new)) (with_value (λ w. M.give (M.number_value (if prefix then new else old))))))
pending_comp t (pending.Instead c) v = ret c
pending_comp t (pending.TemplatePart part rest env units) v = M.or_halt (to_text (seen v)) (λ inner.
    M.comp_template_parts t.program (as_template_parts (t.tree rest)) env.index (units ++ inner ++ text_after (as_template_part (t.tree part))))
pending_comp t (pending.Property rest env o) v = M.comp_properties t.program (as_properties (t.tree rest)) env.index o.index
pending_comp t (pending.As o k) v = M.defines o.index (units_of t k) v
pending_comp t (pending.Key next env) v = M.or_halt (to_text (seen v)) (keyed t next env.index)
pending_comp t (pending.BindTo kind name env) v = M.binds kind (t.name name) env.index v
pending_comp t (pending.Declarator kind rest env) v = M.comp_declarators t.program kind (as_declarators (t.tree rest)) env.index
pending_comp t pending.Discard v = M.done
pending_comp t (pending.Statement rest env) v = M.comp_stmts t.program (stmts_at t rest) env.index
pending_comp t (pending.Choose holds fails env) v =
    M.choose (M.comp_stmt t.program (stmt_at t holds) [] env.index) (M.comp_stmt_if t.program (stmt_if t fails) env.index) v
pending_comp t (pending.Turn statement labels env) v = M.turn (stmt_at t statement) (labels_of t labels) env.index v
pending_comp t (pending.Started init test statement labels env) v =
    M.anew (as_for_init (t.tree init)) env.index (M.turn_if t.program (expr_if t test) (stmt_at t statement) (labels_of t labels))
pending_comp t (pending.Updated test statement labels env) v = M.turn_if t.program (expr_if t test) (stmt_at t statement) (labels_of t labels) env.index
pending_comp t (pending.Subject keys round) v = goes_through_all keys t round v
pending_comp t (pending.Taken round inner rest) v = pass t round inner.index (plain_iteration rest)
pending_comp t (pending.Switch cases env) v =
    M.in_scope (S.block_scope (S.cases_stmts (as_case_scope (t.tree cases)))) env.index (cases_comp t (as_case_scope (t.tree cases)) v)
pending_comp t (pending.Tested statements rest all sought env) v =
    if strictly_equal sought v then handle (M.comp_stmts t.program (stmts_at t statements) env.index) (with_value (λ u. M.comp_cases t.program (as_cases (t.tree rest)) env.index))
    else M.comp_select t.program (as_cases (t.tree rest)) env.index sought (M.comp_default t.program (as_cases (t.tree all)) env.index)
pending_comp t (pending.Fallen rest env) v = M.comp_cases t.program (as_cases (t.tree rest)) env.index
pending_comp t pending.Return v = ret (completion.Return v)
pending_comp t pending.Throw v = ret (completion.Throw v)
pending_comp t (pending.OwnName name env) v = M.initialize (t.name name) env.index v
pending_comp t (pending.Param param rest arguments next env) v = handle (M.initialize (t.name param) env.index v) (with_value (λ w.
    M.comp_params t.program (as_params (t.tree rest)) env.index (M.rest_of (drop next arguments))))
pending_comp t (pending.NextParam rest arguments next env) v = M.comp_params t.program (as_params (t.tree rest)) env.index (M.rest_of (drop next arguments))
pending_comp t (pending.Bound function env) v = body_comp t function env.index

-- how a frame goes on with the completion of what is above it
abbrev pub frame_comp : View → Frame → Completion → Comp
frame_comp t (frame.Value p) = with_value (pending_comp t p)
frame_comp t (frame.AfterTurn statement labels env) = M.after_turn (labels_of t labels) (again t (stmt_at t statement) (labels_of t labels) env.index)
frame_comp t (frame.AfterPass round rest) = M.after_turn (labels_of t round.labels) (goes_through t round (plain_iteration rest))
frame_comp t (frame.AfterLabel label) = M.after_label (t.name label)
frame_comp t frame.AfterSwitch = M.after_switch
frame_comp t (frame.Catch clause env) = M.caught (M.comp_catch t.program (as_catch (t.tree clause)) env.index)
frame_comp t (frame.Finally block env) = M.finally (block_comp t block env.index)
frame_comp t frame.AfterCall = F.after_call
frame_comp t (frame.AfterConstruct made) = F.after_construct made.index
frame_comp t (frame.AfterStart file) = F.after_start (path_at t.program file)

abbrev pub step_comp : View → Step → Comp
step_comp t (step.Go c) = control_comp t c
step_comp t (step.Push f c) = handle (control_comp t c) (frame_comp t f)

-- the whole configuration; the frame on top stands last
abbrev pub plug : View → List Frame → Comp → Comp
plug t [] c = c
plug t (f ∷ fs) c = handle (plug t fs c) (frame_comp t f)

abbrev pub undefined_is : Value → Bool
undefined_is (value.Primitive primitive.Undefined) = true
undefined_is _ = false

-- whether the right operand of a logical operator decides
abbrev pub decides_right : LogicalOperator → Value → Bool
decides_right logical.And v = to_boolean v
decides_right logical.Or v = not (to_boolean v)
decides_right logical.Coalesce v = M.is_nullish v

-- the type of what stands in a name's cell
abbrev pub type_in_cell : Heap → Option Cell → Comp
type_in_cell h None = M.give (text (codes "undefined"))
type_in_cell h (Some cell) = elim (value_of h cell) [ None ↦ M.complain NotInitialised | Some v ↦ M.give (text (type_in h v)) ]

-- an operator of two values, and of one, in a heap
abbrev pub operated_on : Heap → BinaryOperator → Value → Value → Comp
operated_on h binary_operator.In v w = M.or_halt (M.is_in h v w) M.truth
operated_on h binary_operator.InstanceOf v w = M.or_halt (M.is_instance h v w) M.truth
operated_on h operator v w = M.answered (binary operator v w)

abbrev pub operated_unary_on : Heap → UnaryOperator → Value → Comp
operated_unary_on h unary_operator.Delete v = M.truth true
operated_unary_on h unary_operator.Void v = M.done
operated_unary_on h unary_operator.TypeOf v = M.give (text (type_in h v))
operated_unary_on h operator v = M.answered (unary operator v)

-- a call and a construction in a heap
abbrev pub called_in : Heap → Value → Value → List Value → Comp
called_in h (value.Primitive v) this arguments = M.complain NotAFunction
called_in h (value.Object o) this arguments = M.call_kind (kind_of h o.index) o.index this arguments

abbrev pub constructed_in : Sources → Heap → Value → List Value → Comp
constructed_in p h (value.Primitive v) arguments = M.complain NotAConstructor
constructed_in p h (value.Object o) arguments = M.construct_kind p (kind_of h o.index) o.index arguments
