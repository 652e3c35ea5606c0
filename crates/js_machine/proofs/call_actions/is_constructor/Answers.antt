use Rattle.std.proofs.Common.{sym, ap, ◌∙◌}
use Rattle.std.proofs.Common.{ℕ, false, Option, Some, None, subst}
use Rattle.js_tree.specs.Codes.{Code, is_constructor}
use Rattle.js_code.specs.Program.{IsFunction}
use Rattle.js_meaning.specs.Program.{function_at}
use Rattle.js_machine.proofs.call_actions.is_constructor.Goals as goal

pub returns-in-Some : goal.returns-in-Some
returns-in-Some c = λ p of.
    let f = subst (λ (o : Option ℕ). IsFunction c.args.code.now.nodes o (function_at p c.args.number)) (sym c.function.ensures ∙ c.in-Some.is) (of.functions c.args.number) in
    c.constructs_at.ensures ∙ ap (λ (o : Option Code). elim o [ None ↦ false | Some code ↦ is_constructor code ]) (sym f.1)

pub returns-in-None : goal.returns-in-None
returns-in-None c = λ p of.
    let f = subst (λ (o : Option ℕ). IsFunction c.args.code.now.nodes o (function_at p c.args.number)) (sym c.function.ensures ∙ c.in-None.is) (of.functions c.args.number) in
    ap (λ (o : Option Code). elim o [ None ↦ false | Some code ↦ is_constructor code ]) (sym f)
