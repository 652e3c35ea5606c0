-- Of a list of sources, the first that isn't accepted.
use Rattle.std.specs.Prelude.{◌≡◌, ℕ, List, [], ◌∷◌, ◌++◌}
use Rattle.js_tree.specs.Plain.{File}
use Rattle.js_scopes.specs.Accepted.{Accepted}
use Rattle.cov_sources.specs.Refused.{IsRefused}
use Rattle.cov_sources.specs.declared.source.Source.{Source}
use Rattle.cov_sources.specs.declared.why.Why.{Why}
use Rattle.cov_sim.specs.declared.fault.InstrumentFault.{InstrumentFault}
use Rattle.cov_sim.specs.declared.fault.InstrumentFault.TheVariants as fault

-- each source is accepted
abbrev pub AreAccepted : List Source → Type 0
AreAccepted [] = Unit {0}
AreAccepted (source ∷ sources) = ((tree : File) × Accepted source.bytes tree) × AreAccepted sources

-- the source here is the first that isn't accepted, and this is why
pub record IsFirstRefused (sources : List Source) (path : List ℕ) (because : Why) : Type 0 where
  pub before : List Source
  pub source : Source
  pub after : List Source
  pub split : sources ≡ before ++ source ∷ after
  pub accepted : AreAccepted before
  pub here : path ≡ source.path
  pub refused : IsRefused because source.bytes
  pub no_source : (tree : File) → Accepted source.bytes tree → ⊥

abbrev pub RefusesFirst : List Source → InstrumentFault → Type 0
RefusesFirst sources (fault.Refused path because) = IsFirstRefused sources path because
RefusesFirst sources fault.Memory = ⊥
