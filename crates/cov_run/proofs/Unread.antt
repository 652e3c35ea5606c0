-- What a file by itself is read to.
use Rattle.std.proofs.Common.{◌≡◌, ℕ, List, Option, Some, sym, subst}
use Rattle.std.specs.Prelude.{Result, Ok, Err, IfOk, IfErr}
use Rattle.js_tree.specs.Plain.{File}
use Rattle.js_scopes.specs.Accepted.{Accepted}
use Rattle.cov_base.specs.Store.{Held}
use Rattle.cov_sources.specs.Refused.{HasOnly}
use Rattle.cov_run.specs.Loaded as L
use Rattle.cov_run.specs.Loaded.{Holds, IsSource, IsUnread, IsUnloaded}
use Rattle.cov_run.specs.private.Step.{IsFileFault, IsInputFault, IsUnfound}
use Rattle.cov_run.specs.declared.fault.LoadFault.{LoadFault}
use Rattle.cov_run.specs.declared.fault.LoadFault.TheVariants as fault

-- a file that isn't found
pub unfound : (told : Option Held) (path : List ℕ) (why : LoadFault) → IsUnfound told why path → IsUnread told path why
unfound told path fault.NoFile is = L.no_file is
unfound told path (fault.Refused at why) is = absurd is
unfound told path (fault.BadMap at why) is = absurd is
unfound told path (fault.TooLong at) is = absurd is
unfound told path fault.TooManyFiles is = absurd is
unfound told path (fault.ReadFault at) is = subst (λ p. IsUnread told path (fault.ReadFault p)) (sym is) L.failed
unfound told path fault.Memory is = L.wanting

-- a file that is no source
pub no_source : (told : Option Held) (path bytes : List ℕ) (why : LoadFault) → Holds told path (Some bytes) → IsFileFault why path bytes → IsUnread told path why
no_source told path bytes fault.NoFile holds is = absurd is
no_source told path bytes (fault.Refused at why) holds is =
    subst (λ p. IsUnread told path (fault.Refused p why)) (sym is.0)
    (L.refused {bytes = bytes} (record { held = holds; within = is.1; refused = is.2; no_source = is.3 }))
no_source told path bytes (fault.BadMap at why) holds is = absurd is
no_source told path bytes (fault.TooLong at) holds is = subst (λ p. IsUnread told path (fault.TooLong p)) (sym is.0) (L.too_long {bytes = bytes} (record { held = holds; longer = is.1 }))
no_source told path bytes fault.TooManyFiles holds is = absurd is
no_source told path bytes (fault.ReadFault at) holds is = absurd is
no_source told path bytes fault.Memory holds is = L.wanting

-- a source with what isn't its map
pub not_mapped : (told : Option Held) (path bytes : List ℕ) (tree : File) (why : LoadFault) → IsSource told path bytes tree → IsInputFault told why path → IsUnloaded told path why
not_mapped told path bytes tree fault.NoFile good is = absurd is
not_mapped told path bytes tree (fault.Refused at why) good is = absurd is
not_mapped told path bytes tree (fault.BadMap at why) good is = subst (λ p. IsUnloaded told path (fault.BadMap p why)) (sym is.0) (L.bad_map good is.2 is.1)
not_mapped told path bytes tree (fault.TooLong at) good is = subst (λ p. IsUnloaded told path (fault.TooLong p)) (sym is.0) (L.map_too_long good is.1)
not_mapped told path bytes tree fault.TooManyFiles good is = absurd is
not_mapped told path bytes tree (fault.ReadFault at) good is = subst (λ p. IsUnloaded told path (fault.ReadFault p)) (sym is) (L.map_failed good)
not_mapped told path bytes tree fault.Memory good is = L.map_wanting

-- a source with its text
pub a_source : (told : Option Held) (path bytes text : List ℕ) (tree : File) → Holds told path (Some bytes) → text ≡ bytes → Accepted bytes tree → HasOnly bytes tree → IsSource told path text tree
a_source told path bytes text tree holds same accepted only = rw same (record { held = holds; accepted = accepted; only = only })

-- the same of what bytes were accepted as
module _ {T : Type 0} (tree_of : T → File) (told : Option Held) (path bytes : List ℕ) (holds : Holds told path (Some bytes)) where
  pub found : (answer : Result (List ℕ × T) LoadFault) → IfOk answer (λ source. source.0 ≡ bytes) → IfOk answer (λ source. Accepted bytes (tree_of source.1)) →
      IfOk answer (λ source. HasOnly bytes (tree_of source.1)) → IfOk answer (λ source. IsSource told path source.0 (tree_of source.1))
  found (Ok source) same accepted only = a_source told path bytes source.0 (tree_of source.1) holds same accepted only
  found (Err why) same accepted only = tt

  pub unaccepted : (answer : Result (List ℕ × T) LoadFault) → IfErr answer (λ why. IsFileFault why path bytes) → IfErr answer (λ why. IsUnread told path why)
  unaccepted (Ok source) is = tt
  unaccepted (Err why) is = no_source told path bytes why holds is
