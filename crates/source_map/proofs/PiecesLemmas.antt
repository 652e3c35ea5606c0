-- A number that is read goes to the state.
use Rattle.std.proofs.Common.{◌≡◌, ℕ, List, Option, Some, None, ap, ◌∙◌}
use Rattle.std.specs.Option.{option_and_then}
use Rattle.source_map.specs.declared.state.State.{State}
use Rattle.source_map.specs.private.Numbers.{first}
use Rattle.source_map.specs.private.Pieces.{step}

module _ (sources names : ℕ) {A : Type 0} (move : ℕ → Option State) (next : State → List ℕ → Option A) (bytes : List ℕ) where
  pub none : None ≡ first bytes → None ≡ step sources names move next bytes
  none e = ap (λ o. option_and_then (λ (found : ℕ × List ℕ). option_and_then (λ after. next after found.1) (move found.0)) o) e

  pub stop : (n : ℕ) (rest : List ℕ) → Some (n, rest) ≡ first bytes → None ≡ move n → None ≡ step sources names move next bytes
  stop n rest e no_state =
      ap (option_and_then (λ after. next after rest)) no_state
      ∙ ap (λ o. option_and_then (λ (found : ℕ × List ℕ). option_and_then (λ after. next after found.1) (move found.0)) o) e

  pub on : (n : ℕ) (rest : List ℕ) (after : State) → Some (n, rest) ≡ first bytes → Some after ≡ move n → next after rest ≡ step sources names move next bytes
  on n rest after e is =
      ap (option_and_then (λ after. next after rest)) is
      ∙ ap (λ o. option_and_then (λ (found : ℕ × List ℕ). option_and_then (λ after. next after found.1) (move found.0)) o) e
