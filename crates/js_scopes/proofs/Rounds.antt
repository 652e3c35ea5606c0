-- A label comes after those round it, and goes again.
use Rattle.std.proofs.Common.{◌≡◌, ◌++◌, List, [], ◌∷◌, length, map, take, refl, ap}
use Rattle.js_scopes.specs.declared.labels.Round.{Round}
use Rattle.js_scopes.specs.private.Plain.{plain_round}

pub one_more : (rounds : List Round) (round : Round) → map plain_round (rounds ++ round ∷ []) ≡ map plain_round rounds ++ plain_round round ∷ []
one_more [] round = refl
one_more (r ∷ rs) round = ap (λ rest. plain_round r ∷ rest) (one_more rs round)

pub those_before : (rounds after : List Round) → take (length rounds) (rounds ++ after) ≡ rounds
those_before [] after = refl
those_before (r ∷ rs) after = ap (λ rest. r ∷ rest) (those_before rs after)

pub ruleset label_rules = (one_more, those_before)
