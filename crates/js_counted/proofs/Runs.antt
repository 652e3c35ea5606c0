-- The law of the two runs.
use Rattle.std.proofs.Common.{ℕ, sym, subst}
use Rattle.js_meaning.specs.Program.{Sources, linked}
use Rattle.js_meaning.specs.World.{run}
use Rattle.js_suits.specs.Programs.{Suits}
use Rattle.js_lockstep.specs.Counters.{Counts}
use Rattle.js_lockstep.specs.Programs.{Starts, Counter, SameRuns}
use Rattle.js_lockstep.proofs.Theorem.{runs_in_step}
use Rattle.js_counted.specs.Files.{FileCounters}
use Rattle.js_counted.specs.Program.{is_counted, counted_program, counters, Prepared}
use Rattle.js_counted.specs.Parts.{CountersRun}
use Rattle.js_counted.proofs.Keeps.{counters_keep, first_holds}
use Rattle.js_counted.proofs.Counts.{counters_count}
use Rattle.js_counted.proofs.Together.{same_program, coded, fresh}
use Rattle.js_counted.proofs.FileStarts.{files_start}

counter_of : (files : ℕ → FileCounters) (p : Sources) → Prepared files p → Suits (counters files p) (linked p) → Counter (counters files p) (linked p)
counter_of files p pre su = record {
  keeps = counters_keep files p;
  fresh = fresh files p pre;
  coded = coded files p su;
  counts = subst (λ q. Counts (counters files p) q) (sym (same_program files p)) (counters_count files p pre);
  starts = subst (λ q. Starts (counters files p) (linked p) q) (sym (same_program files p)) (files_start files p pre su);
  first = first_holds files (counted_program files p) (is_counted p);
}

pub counters_run : CountersRun
counters_run files p pre su file n room =
    subst (λ q. SameRuns (counters files p) (run (linked p) file n) (run q file n)) (same_program files p)
    (runs_in_step (counters files p) (linked p) su (counter_of files p pre su) file n room)
