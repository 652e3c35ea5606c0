-- How much there is to do before the next step is asked for, at most: w is how much there is at each place.
use Rattle.std.specs.Prelude.{ℕ, zero, suc, ◌+◌, ◌*◌, List, [], ◌∷◌, Option, Some, None}
use Rattle.js_code.specs.declared.node.Node.{Node}
use Rattle.js_code.specs.declared.node.Node.TheVariants as node
use Rattle.js_machine.specs.declared.parts.Referring.{Referring}
use Rattle.js_machine.specs.declared.parts.Referring.TheVariants as referring
use Rattle.js_machine.specs.declared.parts.Keying.{Keying}
use Rattle.js_machine.specs.declared.parts.Keying.TheVariants as keying
use Rattle.js_machine.specs.declared.parts.Scoped.{Scoped}
use Rattle.js_machine.specs.declared.parts.Scoped.TheVariants as scoped
use Rattle.js_machine.specs.declared.data.Action.{Action}
use Rattle.js_machine.specs.declared.data.Action.TheVariants as action
use Rattle.js_machine.specs.declared.data.Task.{Task}
use Rattle.js_machine.specs.declared.data.Task.TheVariants as task
use Rattle.js_machine.specs.declared.data.Control.{Control}
use Rattle.js_machine.specs.declared.data.Control.TheVariants as control
use Rattle.js_machine.specs.declared.data.Pending.{Pending}
use Rattle.js_machine.specs.declared.data.Pending.TheVariants as pending
use Rattle.js_machine.specs.declared.data.Frame.{Frame}
use Rattle.js_machine.specs.declared.data.Frame.TheVariants as frame
use Rattle.js_machine.specs.declared.data.Step.{Step}
use Rattle.js_machine.specs.declared.data.Step.TheVariants as step

abbrev pub Weights : Type 0
Weights = ℕ → ℕ

-- parts stand before their node, so that all that there is to do in them is less
abbrev pub place_weight : ℕ → ℕ
place_weight zero = 64
place_weight (suc place) = 64 * place_weight place

-- the places of a node's parts
abbrev pub parts : Node → List ℕ
parts (node.ArrayLiteral loc items) = items ∷ []
parts (node.ObjectLiteral loc properties) = properties ∷ []
parts (node.FunctionExpression loc name function) = function ∷ []
parts (node.ArrowFunction loc function) = function ∷ []
parts (node.TemplateLiteral loc text list) = list ∷ []
parts (node.Parenthesized loc inner) = inner ∷ []
parts (node.NamedMember loc object name) = object ∷ []
parts (node.ComputedMember loc object key) = object ∷ key ∷ []
parts (node.New loc constructor arguments) = constructor ∷ arguments ∷ []
parts (node.Call loc callee arguments) = callee ∷ arguments ∷ []
parts (node.PostfixUpdate loc operator target) = target ∷ []
parts (node.PrefixUpdate loc operator target) = target ∷ []
parts (node.Unary loc operator operand) = operand ∷ []
parts (node.Binary loc operator left right) = left ∷ right ∷ []
parts (node.Logical loc operator left right) = left ∷ right ∷ []
parts (node.Conditional loc test holds fails) = test ∷ holds ∷ fails ∷ []
parts (node.Assignment loc operator target value) = target ∷ value ∷ []
parts (node.Comma loc left right) = left ∷ right ∷ []
parts (node.TemplatePart value text) = value ∷ []
parts (node.KeyValue loc key value) = key ∷ value ∷ []
parts (node.Method loc key function) = key ∷ function ∷ []
parts (node.ComputedKey value) = value ∷ []
parts (node.Function is_method number length scope params body_loc body) = params ∷ body ∷ []
parts (node.ArrowExpression number length scope params value) = params ∷ value ∷ []
parts (node.ArrowBlock number length scope params body_loc body) = params ∷ body ∷ []
parts (node.Param loc name_loc name default) = default ∷ []
parts (node.Block loc statements) = statements ∷ []
parts (node.VariableDeclaration loc kind declarators) = declarators ∷ []
parts (node.Expression loc expression) = expression ∷ []
parts (node.If loc test holds fails) = test ∷ holds ∷ fails ∷ []
parts (node.DoWhile loc body test) = body ∷ test ∷ []
parts (node.While loc test body) = test ∷ body ∷ []
parts (node.For loc init test update body) = init ∷ test ∷ update ∷ body ∷ []
parts (node.ForIn loc target object body) = target ∷ object ∷ body ∷ []
parts (node.ForOf loc target iterable body) = target ∷ iterable ∷ body ∷ []
parts (node.Return loc value) = value ∷ []
parts (node.Switch loc value cases) = value ∷ cases ∷ []
parts (node.Labelled loc label body) = body ∷ []
parts (node.Throw loc value) = value ∷ []
parts (node.TryCatch loc block catch) = block ∷ catch ∷ []
parts (node.TryFinally loc block last) = block ∷ last ∷ []
parts (node.TryCatchFinally loc block catch last) = block ∷ catch ∷ last ∷ []
parts (node.FunctionDeclaration loc name function) = function ∷ []
parts (node.Declarator loc name_loc name initializer) = initializer ∷ []
parts (node.InitDeclaration kind names fresh declarators) = declarators ∷ []
parts (node.InitExpression expression) = expression ∷ []
parts (node.TargetExpression expression) = expression ∷ []
parts (node.Case loc test statements) = test ∷ statements ∷ []
parts (node.Catch statements) = statements ∷ []
parts (node.CatchName name_loc name statements) = statements ∷ []
parts (node.Scope scope statements) = statements ∷ []
parts (node.CaseScope scope cases) = cases ∷ []
parts (node.More kind first rest) = first ∷ rest ∷ []
parts _ = []

abbrev pub sum : Weights → List ℕ → ℕ
sum w [] = 0
sum w (place ∷ places) = w place + sum w places

-- all that there is to do in a node is less than this
abbrev pub node_weight : Weights → Node → ℕ
node_weight w n = 3 * sum w (parts n) + 20

abbrev pub referring_weight : Weights → Referring → ℕ
referring_weight w (referring.Call arguments) = w arguments + 5
referring_weight w (referring.Assign operator value) = 2 * w value + 10
referring_weight w _ = 8

abbrev pub keying_weight : Weights → Keying → ℕ
keying_weight w (keying.Value value object) = 2 * w value + 5
keying_weight w (keying.Method function object) = 6

abbrev pub scoped_weight : Weights → Scoped → ℕ
scoped_weight w (scoped.For init test statement labels) = w init + w test + 9
scoped_weight w (scoped.Subject keys subject round) = w subject + w round.target + 5
scoped_weight w (scoped.Target kind name value round rest) = 5
scoped_weight w (scoped.Turn test statement labels) = w test + 4
scoped_weight w (scoped.Update update test statement labels) = w update + w test + 8
scoped_weight w (scoped.Switch cases value) = 2 * w cases + 4
scoped_weight w (scoped.Block block) = w block + 2
scoped_weight w (scoped.OwnName name function) = 6

abbrev pub action_weight : Weights → Action → ℕ
action_weight w (action.Throw complaint) = 1
action_weight w (action.MakeObject properties env) = w properties + 1
action_weight w (action.EnterBlock block env) = w block + 1
action_weight w (action.EnterSwitch cases value env) = 2 * w cases + 5
action_weight w (action.EnterLoop next env) = scoped_weight w next + 1
action_weight w (action.Anew init next env) = scoped_weight w next + 1
action_weight w (action.Caught name value block env) = w block + 3
action_weight w (action.OwnName name function env) = 7
action_weight w (action.GoThrough round rest) = w round.target + 1
action_weight w (action.GoThroughKeys round value) = w round.target + 2
action_weight w (action.GoThroughItems round value) = w round.target + 2
action_weight w (action.StartCall this function env arguments) = 2 * w function + 5
action_weight w (action.EnterBody function env) = w function + 1
action_weight w _ = 2

abbrev pub task_weight : Weights → Task → ℕ
task_weight w (task.Evaluate place env) = w place
task_weight w (task.EvaluateNamed name place env) = 2 * w place + 1
task_weight w (task.EvaluateIf place env) = w place + 1
task_weight w (task.TypeOf place env) = 2 * w place + 4
task_weight w (task.Refer place env next) = 2 * w place + referring_weight w next
task_weight w (task.Referred next env r) = referring_weight w next
task_weight w (task.Gather place env values g) = w place
task_weight w (task.Template parts env units) = w parts
task_weight w (task.TemplatePart part rest env units) = w part + w rest
task_weight w (task.TemplateText part rest env units) = w rest + 1
task_weight w (task.DefineAll properties env o) = w properties
task_weight w (task.DefineOne property env o) = w property
task_weight w (task.Key place env next) = w place + keying_weight w next
task_weight w (task.Keyed next env k) = keying_weight w next
task_weight w (task.Declare kind declarators env) = w declarators
task_weight w (task.DeclareOne kind declarator env) = w declarator
task_weight w (task.Execute place labels env) = w place
task_weight w (task.ExecuteIf place env) = w place + 1
task_weight w (task.ExecuteAll place env) = w place
task_weight w (task.Try block clause env) = w block + w clause + 4
task_weight w (task.Select cases all value env) = w cases + w all + 1
task_weight w (task.SelectCase case rest all value env) = w case + w rest + w all + 2
task_weight w (task.Default cases env) = w cases
task_weight w (task.DefaultCase case rest env) = w case + w rest
task_weight w (task.Fall cases env) = w cases
task_weight w (task.ExecuteCase case env) = w case
task_weight w (task.Catch clause value env) = w clause
task_weight w (task.Start init env) = w init
task_weight w (task.Test test statement labels env) = w test + 3
task_weight w (task.Again statement labels env) = 2 * w statement
task_weight w (task.Continued label statement labels env) = 2 * w statement + 1
task_weight w (task.ContinuedPass label round rest) = w round.target + 2
task_weight w (task.Broken label broken) = 1
task_weight w (task.Take round value rest) = w round.target
task_weight w (task.BindAll function arguments env) = 2 * w function + 4
task_weight w (task.Bind params arguments next env) = w params
task_weight w (task.BindParam param rest arguments next env) = w param + w rest
task_weight w (task.Run function env) = w function
task_weight w (task.RunFile statements env) = w statements + 2
task_weight w (task.Within next env) = scoped_weight w next

abbrev pub control_weight : Weights → Control → ℕ
control_weight w (control.Begin x) = task_weight w x
control_weight w (control.Give c) = 0
control_weight w (control.Refuse k) = 0
control_weight w (control.Do a) = action_weight w a
control_weight w (control.Enter e) = 0

abbrev pub pending_weight : Weights → Pending → ℕ
pending_weight w (pending.NamedMember name) = 3
pending_weight w (pending.MemberObject k env) = w k + 4
pending_weight w (pending.MemberKey base) = 3
pending_weight w (pending.Constructor arguments env) = w arguments + 1
pending_weight w (pending.Callee arguments env this) = w arguments + 1
pending_weight w (pending.Item rest env values g) = w rest + 1
pending_weight w (pending.Operand operator) = 3
pending_weight w (pending.Left operator right env) = w right + 4
pending_weight w (pending.Right operator left) = 3
pending_weight w (pending.Logical operator right env) = w right + 1
pending_weight w (pending.Conditional holds fails env) = w holds + w fails + 1
pending_weight w (pending.Comma right env) = w right + 1
pending_weight w (pending.ReferNamed name env next) = referring_weight w next + 1
pending_weight w (pending.ReferObject k env next) = w k + referring_weight w next + 2
pending_weight w (pending.ReferKey base env next) = referring_weight w next + 1
pending_weight w (pending.Put r env) = 3
pending_weight w (pending.Old operator value r env) = w value + 7
pending_weight w (pending.New operator left r env) = 6
pending_weight w (pending.Update prefix operator r env) = 4
pending_weight w (pending.Instead c) = 1
pending_weight w (pending.TemplatePart part rest env units) = w rest + 2
pending_weight w (pending.Property rest env o) = w rest + 1
pending_weight w (pending.As o k) = 3
pending_weight w (pending.Key next env) = keying_weight w next + 2
pending_weight w (pending.BindTo kind name env) = 3
pending_weight w (pending.Declarator kind rest env) = w rest + 1
pending_weight w pending.Discard = 1
pending_weight w (pending.Statement rest env) = w rest + 1
pending_weight w (pending.Choose holds fails env) = w holds + w fails + 2
pending_weight w (pending.Turn statement labels env) = 1
pending_weight w (pending.Started init test statement labels env) = w test + 6
pending_weight w (pending.Updated test statement labels env) = w test + 4
pending_weight w (pending.Subject keys round) = w round.target + 3
pending_weight w (pending.Taken round inner rest) = 1
pending_weight w (pending.Switch cases env) = 2 * w cases + 6
pending_weight w (pending.Tested statements rest all value env) = w statements + w rest + w all + 3
pending_weight w (pending.Fallen rest env) = w rest + 1
pending_weight w pending.Return = 1
pending_weight w pending.Throw = 1
pending_weight w (pending.OwnName name env) = 3
pending_weight w (pending.Param param rest arguments next env) = w rest + 5
pending_weight w (pending.NextParam rest arguments next env) = w rest + 1
pending_weight w (pending.Bound function env) = w function + 2

abbrev pub frame_weight : Weights → Frame → ℕ
frame_weight w (frame.Value p) = pending_weight w p
frame_weight w (frame.AfterTurn statement labels env) = 2 * w statement + 2
frame_weight w (frame.AfterPass round rest) = w round.target + 3
frame_weight w (frame.AfterLabel label) = 2
frame_weight w frame.AfterSwitch = 1
frame_weight w (frame.Catch clause env) = w clause + 1
frame_weight w (frame.Finally block env) = w block + 4
frame_weight w frame.AfterCall = 1
frame_weight w (frame.AfterConstruct made) = 1
frame_weight w (frame.AfterStart file) = 3

abbrev pub step_weight : Weights → Step → ℕ
step_weight w (step.Go c) = control_weight w c
step_weight w (step.Push f c) = frame_weight w f + control_weight w c

abbrev pub frames_weight : Weights → List Frame → ℕ
frames_weight w [] = 0
frames_weight w (f ∷ fs) = frame_weight w f + frames_weight w fs

abbrev pub declarator_weight : Weights → Option ℕ → ℕ
declarator_weight w None = 3
declarator_weight w (Some initializer) = 2 * w initializer + 5

abbrev pub test_weight : Weights → Option ℕ → ℕ
test_weight w None = 1
test_weight w (Some test) = w test + 2

abbrev pub clause_weight : Weights → Option ℕ → ℕ
clause_weight w None = 0
clause_weight w (Some test) = w test
