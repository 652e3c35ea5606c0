-- What a run of the machine keeps.
use Rattle.std.specs.Prelude.{◌≡◌, ℕ, ◌+◌}
use Rattle.js_value.specs.State.{Store}
use Rattle.js_meaning.specs.declared.outcome.Outcome.{Outcome}
use Rattle.js_meaning.specs.declared.outcome.Outcome.TheVariants as outcome
use Rattle.js_meaning.specs.Effects.{ran, exec}
use Rattle.js_meaning.specs.Program.{Sources}
use Rattle.js_meaning.specs.Files.{inside}
use Rattle.js_machine.specs.declared.data.Rest.{Rest}
use Rattle.js_machine.specs.declared.data.Rest.TheVariants as rest
use Rattle.js_machine.specs.private.Config.{View}
use Rattle.js_machine.specs.private.Moves.{Here, todo}
use Rattle.js_machine.specs.private.State.{store_of}

-- i steps lead from a to b: with any steps more, both end alike
pub record Takes (p : Sources) (t : View) (i : ℕ) (a b : Here) : Type 0 where
  pub same : (base : Store) (n : ℕ) →
      exec (inside p) (i + n) (todo t a) (store_of base a.state) ≡ exec (inside p) n (todo t b) (store_of base b.state)

-- what comes of a run that is there
abbrev pub rest_outcome : Rest → Outcome
rest_outcome (rest.Completed c) = outcome.Completes c
rest_outcome (rest.Refused k) = outcome.Refuses k
rest_outcome (rest.Asks e) = outcome.Stops

-- these steps lead from a to b, and so it ends there with no step more
pub record Runs (p : Sources) (t : View) (steps : ℕ) (a : Here) (r : Rest) (b : Here) : Type 0 where
  pub takes : Takes p t steps a b
  pub ends : (base : Store) → exec (inside p) 0 (todo t b) (store_of base b.state) ≡ ran (rest_outcome r) (store_of base b.state)
