use Rattle.std.proofs.Common.{◌≡◌, ◌++◌, [], Some, option_map, sym, ap, ◌∙◌, append-nil, arith, rules}
use Rattle.cov_object.specs.Numbered.{Ascends}
use Rattle.cov_object.specs.private.ByMember.{all_told}
use Rattle.cov_object.proofs.ReadLemmas.{told-more, told-ascends}
use Rattle.cov_object.proofs.things.all_things.Goals as goal

pub entries-preserved : goal.entries-preserved
entries-preserved g c =
    let l = c.entries in
    let rest = c.next.new.self in
    ap (λ things. option_map (λ more. things ++ more) (all_told rest)) c.in_ok-push-in-Some-thing.ensures.items
    ∙ told-more l.things.items c.in-Some.id c.in-Some.thing c.in-Some-thing.thing rest c.in-Some-thing.is
    ∙ ap (λ es. option_map (λ more. l.things.items ++ more) (all_told es)) (sym c.in-Some.ensures.steps)
    ∙ l.invariant

pub returns-clause-order : goal.returns-clause-order
returns-clause-order g c =
    let l = c.entries in
    let all = c.args.entries.entries in
    let things = l.things.items in
    let ascends : Ascends all = search rules in
    let end : l.id-iterator ≡ [] = grind arith in
    let told : all_told all ≡ Some things = sym l.invariant ∙ ap (λ es. option_map (λ more. things ++ more) (all_told es)) end ∙ ap (λ ts. Some ts) (append-nil things) in
    told-ascends all things ascends told
