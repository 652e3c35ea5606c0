-- The two heaps in which the statements of a counted file are run, before its function is called.
use Rattle.std.proofs.Common.{◌≡◌, ℕ, ◌+◌, ◌<◌, ◌≤◌, ◌⊎◌, Some}
use Rattle.js_value.specs.State.{Heap}
use Rattle.js_value.specs.Objects.{next_object}
use Rattle.js_value.specs.Environments.{next_environment, environment_at}
use Rattle.js_value.specs.Realm.{global_environment}
use Rattle.js_meaning.specs.Program.{Sources}
use Rattle.js_two_runs.specs.Pairs.{Paired}
use Rattle.js_suits.specs.Settings.{Within, World}
use Rattle.js_lockstep.specs.Worlds.{Later, Around, GlobalStays}
use Rattle.js_lockstep.proofs.Heaps.{Both}
use Rattle.js_counted.specs.Files.{FileCounters}
use Rattle.js_counted.specs.Program.{counters}
use Rattle.js_counted.proofs.Alone.{Lasts, OwnStays}

-- its environments are e and f; there were the heaps h and k before, and now these are a and b
pub record FileGrown (files : ℕ → FileCounters) (p : Sources) (file : ℕ) (w : World) (e f : ℕ) (h k a b : Heap) : Type 0 where
  pub v : World
  pub later : Later w v
  pub both : Both (counters files p) v a b
  pub module_ : Paired v.objects (next_object h + 1) (next_object k + 1)
  pub require : Paired v.objects (next_object h + 2) (next_object k + 2)
  pub around : Around v (Within file) e f
  pub n : ℕ
  pub own : v.own f ≡ Some n
  pub new : next_environment k ≤ f
  pub lasts : Lasts w v k b
  pub own_stays : OwnStays w k b
  pub inner : (d g m : ℕ) → Paired v.environments d g → v.own g ≡ Some m → ((d ≡ e) × (g ≡ f)) ⊎ Paired w.environments d g
  pub globals : global_environment < next_environment k → GlobalStays (environment_at k global_environment).bindings (environment_at b global_environment).bindings
