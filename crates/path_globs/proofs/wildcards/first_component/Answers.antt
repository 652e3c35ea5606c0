use Rattle.std.proofs.Common.{ap, ◌∙◌, lit<}
use Rattle.path_globs.specs.private.Search.{components_left}
use Rattle.path_globs.proofs.WildcardsLemmas.{undivided, divided}
use Rattle.path_globs.proofs.wildcards.first_component.Goals as goal

pub returns-in-None : goal.returns-in-None
returns-in-None c = ap components_left c.in_ok-path.was ∙ undivided c.in_ok-path.path.now (c.in-None.ensures.byte (lit< tt) (λ w o f. f))

pub returns-in-Some : goal.returns-in-Some
returns-in-Some c = ap components_left c.in_ok-path.was ∙ (let b = c.in-Some.ensures.byte (lit< tt) (λ w o f. f) in divided c.in_ok-path.path.now _ _ b.0 b.1 b.2)
