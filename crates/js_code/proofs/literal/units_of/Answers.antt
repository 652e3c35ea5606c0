use Rattle.std.proofs.Common.{◌≡◌, flat_map, sym, ap, ◌∙◌, map-id}
use Rattle.std.specs.Char.Escape.{encode_utf16}
use Rattle.js_value.specs.Functions.{name_units}
use Rattle.std.proofs.lemmas.Result.{IfOk-weaker}
use Rattle.std.proofs.lemmas.Iterator.{YieldsList-from_chars}
use Rattle.std.proofs.lemmas.Iterator.Consumers.{YieldsList-end}
use Rattle.js_code.proofs.literal.units_of.Goals as goal

pub returns : goal.returns
returns c =
    let end = YieldsList-end (YieldsList-from_chars c.args.name.now c.utf8.name cc) c.loop-character.yielded _ c.loop-character.yielded_by _ _ c.in-None.is c.next.ensures.steps in
    IfOk-weaker c.from_vec.result _ (λ units. units ≡ name_units c.args.name.now) (λ units e. e ∙ c.loop-character.invariant ∙ ap (flat_map encode_utf16) (sym (map-id c.loop-character.yielded) ∙ end.0)) c.from_vec.ensures
