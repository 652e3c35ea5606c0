-- Parts of the code are less to do than what they are parts of.
use Rattle.std.proofs.Common.{ℕ, zero, suc, ◌*◌, ◌<◌, ◌≤◌, arith}
use Rattle.js_code.specs.declared.node.Node.{Node}
use Rattle.js_code.specs.declared.node.Node.TheVariants as node
use Rattle.js_code.specs.Node.{PartsBelow}
use Rattle.js_machine.specs.private.Weight.{place_weight, node_weight}

pub heavy : (p : ℕ) → 64 ≤ place_weight p
heavy zero = omega arith
heavy (suc p) = omega (arith, heavy p)

pub heavier : (q p : ℕ) → q < p → 64 * place_weight q ≤ place_weight p
heavier q zero h = absurd (omega (arith, h))
heavier zero (suc p) h = omega (arith, heavy p)
heavier (suc q) (suc p) h =
    let less : q < p = omega (arith, h) in
    omega (arith, heavier q p less)

-- a node's parts stand before it
pub lighter : (p : ℕ) (n : Node) → PartsBelow p n → node_weight place_weight n < place_weight p
lighter p (node.ArrayLiteral loc items) h = omega (arith, heavy p, heavier items p h)
lighter p (node.ObjectLiteral loc properties) h = omega (arith, heavy p, heavier properties p h)
lighter p (node.FunctionExpression loc name function) h = omega (arith, heavy p, heavier function p h)
lighter p (node.ArrowFunction loc function) h = omega (arith, heavy p, heavier function p h)
lighter p (node.TemplateLiteral loc text parts) h = omega (arith, heavy p, heavier parts p h)
lighter p (node.Parenthesized loc inner) h = omega (arith, heavy p, heavier inner p h)
lighter p (node.NamedMember loc object name) h = omega (arith, heavy p, heavier object p h)
lighter p (node.ComputedMember loc object key) h = omega (arith, heavy p, heavier object p h.0, heavier key p h.1)
lighter p (node.New loc constructor arguments) h = omega (arith, heavy p, heavier constructor p h.0, heavier arguments p h.1)
lighter p (node.Call loc callee arguments) h = omega (arith, heavy p, heavier callee p h.0, heavier arguments p h.1)
lighter p (node.PostfixUpdate loc operator target) h = omega (arith, heavy p, heavier target p h)
lighter p (node.PrefixUpdate loc operator target) h = omega (arith, heavy p, heavier target p h)
lighter p (node.Unary loc operator operand) h = omega (arith, heavy p, heavier operand p h)
lighter p (node.Binary loc operator left right) h = omega (arith, heavy p, heavier left p h.0, heavier right p h.1)
lighter p (node.Logical loc operator left right) h = omega (arith, heavy p, heavier left p h.0, heavier right p h.1)
lighter p (node.Conditional loc test holds fails) h = omega (arith, heavy p, heavier test p h.0, heavier holds p h.1, heavier fails p h.2)
lighter p (node.Assignment loc operator target value) h = omega (arith, heavy p, heavier target p h.0, heavier value p h.1)
lighter p (node.Comma loc left right) h = omega (arith, heavy p, heavier left p h.0, heavier right p h.1)
lighter p (node.TemplatePart value text) h = omega (arith, heavy p, heavier value p h)
lighter p (node.KeyValue loc key value) h = omega (arith, heavy p, heavier key p h.0, heavier value p h.1)
lighter p (node.Method loc key function) h = omega (arith, heavy p, heavier key p h.0, heavier function p h.1)
lighter p (node.ComputedKey value) h = omega (arith, heavy p, heavier value p h)
lighter p (node.Function is_method number length scope params body_loc body) h = omega (arith, heavy p, heavier params p h.0, heavier body p h.1)
lighter p (node.ArrowExpression number length scope params value) h = omega (arith, heavy p, heavier params p h.0, heavier value p h.1)
lighter p (node.ArrowBlock number length scope params body_loc body) h = omega (arith, heavy p, heavier params p h.0, heavier body p h.1)
lighter p (node.Param loc name_loc name default) h = omega (arith, heavy p, heavier default p h)
lighter p (node.Block loc statements) h = omega (arith, heavy p, heavier statements p h)
lighter p (node.VariableDeclaration loc kind declarators) h = omega (arith, heavy p, heavier declarators p h)
lighter p (node.Expression loc expression) h = omega (arith, heavy p, heavier expression p h)
lighter p (node.If loc test holds fails) h = omega (arith, heavy p, heavier test p h.0, heavier holds p h.1, heavier fails p h.2)
lighter p (node.DoWhile loc body test) h = omega (arith, heavy p, heavier body p h.0, heavier test p h.1)
lighter p (node.While loc test body) h = omega (arith, heavy p, heavier test p h.0, heavier body p h.1)
lighter p (node.For loc init test update body) h = omega (arith, heavy p, heavier init p h.0, heavier test p h.1, heavier update p h.2, heavier body p h.3)
lighter p (node.ForIn loc target object body) h = omega (arith, heavy p, heavier target p h.0, heavier object p h.1, heavier body p h.2)
lighter p (node.ForOf loc target iterable body) h = omega (arith, heavy p, heavier target p h.0, heavier iterable p h.1, heavier body p h.2)
lighter p (node.Return loc value) h = omega (arith, heavy p, heavier value p h)
lighter p (node.Switch loc value cases) h = omega (arith, heavy p, heavier value p h.0, heavier cases p h.1)
lighter p (node.Labelled loc label body) h = omega (arith, heavy p, heavier body p h)
lighter p (node.Throw loc value) h = omega (arith, heavy p, heavier value p h)
lighter p (node.TryCatch loc block catch) h = omega (arith, heavy p, heavier block p h.0, heavier catch p h.1)
lighter p (node.TryFinally loc block last) h = omega (arith, heavy p, heavier block p h.0, heavier last p h.1)
lighter p (node.TryCatchFinally loc block catch last) h = omega (arith, heavy p, heavier block p h.0, heavier catch p h.1, heavier last p h.2)
lighter p (node.FunctionDeclaration loc name function) h = omega (arith, heavy p, heavier function p h)
lighter p (node.Declarator loc name_loc name initializer) h = omega (arith, heavy p, heavier initializer p h)
lighter p (node.InitDeclaration kind names fresh declarators) h = omega (arith, heavy p, heavier declarators p h)
lighter p (node.InitExpression expression) h = omega (arith, heavy p, heavier expression p h)
lighter p (node.TargetExpression expression) h = omega (arith, heavy p, heavier expression p h)
lighter p (node.Case loc test statements) h = omega (arith, heavy p, heavier test p h.0, heavier statements p h.1)
lighter p (node.Catch statements) h = omega (arith, heavy p, heavier statements p h)
lighter p (node.CatchName name_loc name statements) h = omega (arith, heavy p, heavier statements p h)
lighter p (node.Scope scope statements) h = omega (arith, heavy p, heavier statements p h)
lighter p (node.CaseScope scope cases) h = omega (arith, heavy p, heavier cases p h)
lighter p (node.More kind first rest) h = omega (arith, heavy p, heavier first p h.0, heavier rest p h.1)
lighter p _ h = omega (arith, heavy p)
