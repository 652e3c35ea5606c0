use Rattle.std.proofs.Common.{sym, subst, ap, ◌∙◌}
use Rattle.std.proofs.Common.{ℕ, Option}
use Rattle.js_tree.specs.Codes.{Code}
use Rattle.js_value.specs.declared.value.Value.{Value}
use Rattle.js_code.specs.Code.{reader}
use Rattle.js_code.specs.Part.{as_code}
use Rattle.js_code.specs.Program.{IsFunction}
use Rattle.js_meaning.specs.Effects.{handle}
use Rattle.js_meaning.specs.Files as F
use Rattle.js_meaning.specs.Meaning as M
use Rattle.js_meaning.specs.Program.{function_at}
use Rattle.js_meaning.specs.Scopes.{call_made, param_names, params_of}
use Rattle.js_machine.specs.private.Config.{view_of, call_comp, frame_comp, this_of_call}
use Rattle.js_machine.proofs.Calls.{starts_call}
use Rattle.js_machine.proofs.enter.call_function.Goals as goal

pub returns-in-Some : goal.returns-in-Some
returns-in-Some c = λ p of.
    let f = subst (λ (o : Option ℕ). IsFunction c.args.code.now.nodes o (function_at p c.args.number)) (sym c.function.ensures ∙ c.in-Some.is) (of.functions c.args.number) in
    let code : Code = as_code (reader c.args.code.now.nodes c.in-Some.function) in
    ap (λ (this : Option Value). handle (M.within (call_made (this_of_call this) (param_names (params_of code)) c.args.env.index) (call_comp (view_of p c.args.code.now.nodes) c.in-Some.function c.args.arguments)) (frame_comp (view_of p c.args.code.now.nodes) c.args.frame)) c.this_of-this.ensures
    ∙ ap (λ x. handle x (frame_comp (view_of p c.args.code.now.nodes) c.args.frame)) (starts_call p code c.args.env.index c.args.this c.args.arguments)
    ∙ ap (λ (o : Option Code). handle (F.comp_coded p o c.args.env.index c.args.this c.args.arguments) (frame_comp (view_of p c.args.code.now.nodes) c.args.frame)) (sym f.1)

pub returns-in-None : goal.returns-in-None
returns-in-None c = λ p of.
    let f = subst (λ (o : Option ℕ). IsFunction c.args.code.now.nodes o (function_at p c.args.number)) (sym c.function.ensures ∙ c.in-None.is) (of.functions c.args.number) in
    ap (λ (o : Option Code). handle (F.comp_coded p o c.args.env.index c.args.this c.args.arguments) (frame_comp (view_of p c.args.code.now.nodes) c.args.frame)) (sym f)
