-- The expression that the token is stands there.
use Rattle.std.proofs.Common.{◌≡◌, ℕ, List, Option, Some, None, ap, refl, sym, ◌∙◌}
use Rattle.js_tree.specs.Plain.{Expr}
use Rattle.js_text.specs.Token.{Token}
use Rattle.js_lexer.specs.Token.{plain_token}
use Rattle.js_reading.specs.Slots.{AnExpr}
use Rattle.js_reading.specs.Turns.{Frame, Have, begin_leaf}
use Rattle.js_build.specs.Leaves.{leveled, operand_if}
use Rattle.js_stack.specs.View.{frames}
use Rattle.js_stack.proofs.start.begin_leaf.Goals as goal

stands : (t : Token) (fs : List Frame) (o : Option Expr) (i : ℕ) (e : Expr) → Some (i, e) ≡ leveled o → begin_leaf t fs o ≡ Some (Have (AnExpr i e) t.loc fs)
stands t fs None i e h = absurd cc
stands t fs (Some x) i e h = let q : (i, e) ≡ (22, x) = cc in ap (λ (p : ℕ × Expr). Some (Have (AnExpr p.0 p.1) t.loc fs)) (sym q)

refused : (t : Token) (fs : List Frame) (o : Option Expr) → None ≡ leveled o → begin_leaf t fs o ≡ None
refused t fs None h = refl
refused t fs (Some x) h = absurd cc

pub returns-in-Some : goal.returns-in-Some
returns-in-Some c =
    stands (plain_token c.args.token) (frames c.args.stack.now) _ c.in-Some.operand.level _ (sym (ap operand_if c.in-Some.is) ∙ c.in_ok-operand.ensures)

pub returns-in-None : goal.returns-in-None
returns-in-None c = refused (plain_token c.args.token) (frames c.args.stack.now) _ (sym (ap operand_if c.in-None.is) ∙ c.in_ok-operand.ensures)
