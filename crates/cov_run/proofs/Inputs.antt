-- What stands beside a file, from what a read of its map's path gives.
use Rattle.std.proofs.Common.{◌≡◌, ℕ, List, Option, None, Some, refl, ap, ◌∙◌, subst}
use Rattle.std.specs.Prelude.{Result, Ok, Err, IfOk, IfErr, IfSome}
use Rattle.source_map.specs.declared.place.Parts.{Parts}
use Rattle.source_map.specs.Kept.{HasTexts}
use Rattle.cov_base.specs.Store.{Held}
use Rattle.cov_run.specs.Loaded.{Holds, HasInput, map_in, map_path, some_map}
use Rattle.cov_run.specs.private.Step.{IsInputFault, IsMapFault}
use Rattle.cov_run.specs.declared.fault.LoadFault.{LoadFault}
use Rattle.cov_run.specs.declared.fault.LoadFault.TheVariants as fault

module _ (told : Option Held) (path place : List ℕ) (same : place ≡ map_path path) where
  -- nothing is held there
  pub nothing_there : Holds told place None → HasInput told path None
  nothing_there holds = record { found = None; held = subst (λ p. Holds told p None) same holds; is = refl; texts = tt }

  -- these bytes are held there
  module _ (bytes : List ℕ) (holds : Holds told place (Some bytes)) where
    held : Holds told (map_path path) (Some bytes)
    held = subst (λ p. Holds told p (Some bytes)) same holds

    pub is_input : (answer : Result (Option Parts) LoadFault) → IfOk answer (λ input. map_in (Some bytes) ≡ Ok input) → IfOk answer (λ input. IfSome input HasTexts) →
        IfOk answer (λ input. HasInput told path input)
    is_input (Ok input) is texts = record { found = Some bytes; held = held; is = is; texts = texts }
    is_input (Err why) is texts = tt

    not_input : (why : LoadFault) → IsMapFault why place bytes → IsInputFault told why path
    not_input fault.NoFile is = absurd is
    not_input (fault.Refused at why) is = absurd is
    not_input (fault.BadMap at why) is = (is.0 ∙ same, is.1, record { found = Some bytes; held = held; is = ap some_map is.2 })
    not_input (fault.TooLong at) is = (is.0 ∙ same, record { found = Some bytes; held = held; is = ap some_map is.1 })
    not_input fault.TooManyFiles is = absurd is
    not_input (fault.ReadFault at) is = absurd is
    not_input fault.Memory is = tt

    pub no_input : (answer : Result (Option Parts) LoadFault) → IfErr answer (λ why. IsMapFault why place bytes) → IfErr answer (λ why. IsInputFault told why path)
    no_input (Ok input) is = tt
    no_input (Err why) is = not_input why is
