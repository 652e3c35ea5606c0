use Rattle.std.proofs.Common.{◌≡◌, Ok, true, IfSome, rules, subst, ap, sym, ◌∙◌}
use Rattle.std.specs.Result.{result_map_both}
use Rattle.cov_object.specs.Numbered.{Ascends}
use Rattle.cov_object.specs.Read as spec
use Rattle.cov_object.proofs.ReadLemmas.{counted-ascends}
use Rattle.cov_object.proofs.things.read_things.Goals as goal

pub from_ordered-requires : goal.from_ordered-requires
from_ordered-requires g c =
    let ascends : Ascends c.in-Some.things.items = subst (λ o. IfSome o (λ things. Ascends things.items)) c.in-Some.is c.in_ok-things.ensures.order in
    let fit : spec.all_fit g.T.Described.fits c.in-Some.things.items c.deref-2.result.now ≡ true = search rules in
    let counted : spec.all_counted g.T.Described.counted c.in-Some.things.items c.deref-3.result.now ≡ Ok c.in-Ok.counted.items =
    sym c.in_ok-counted.ensures ∙ ap (result_map_both (λ things. things.items) (λ place. place)) c.in-Ok.is in
    let same : c.deref-3.result.now ≡ c.deref-2.result.now = c.deref-3.ensures.value ∙ sym c.deref-2.ensures.value in
    counted-ascends g.T.Described.fits g.T.Described.counted c.in-Some.things.items c.deref-2.result.now c.in-Ok.counted.items ascends fit
    (ap (spec.all_counted g.T.Described.counted c.in-Some.things.items) (sym same) ∙ counted)
