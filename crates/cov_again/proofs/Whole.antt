-- The two runs are one: the program in which each counted file stands rewritten, read again, does what the sources do, and counts it.
use Rattle.std.proofs.Common.{ℕ, ◌-◌, ◌^◌, ◌<◌, ◌≤◌, length, arith}
use Rattle.js_meaning.specs.Counted.{MarksConstructs}
use Rattle.js_meaning.specs.Laws.{RunsWithoutCounting}
use Rattle.js_meaning.specs.Program.{Sources}
use Rattle.cov_preamble.specs.Laws.{IsNew}
use Rattle.cov_expected.specs.Laws.{TellsFiles}
use Rattle.cov_counted.specs.Literals.{SpellsUnits, FilesHaveLiterals}
use Rattle.cov_counted.specs.Accepted.{Content, zero_at, HaveLiterals, IsTellable, AcceptedTellable, AcceptedPrepared}
use Rattle.cov_counted.specs.Entries.{CountsEntries}
use Rattle.cov_again.specs.Laws.{RunsReplaced}
use Rattle.cov_again.proofs.Runs.{runs}
use Rattle.cov_again.proofs.Coverage.{told_coverage}

below : (l n m : ℕ) → l ≤ n → n ≤ m - 1 → 0 < m → l < m
below l n m a b c = omega (arith, a, b, c)

-- the data that each file begins with have a literal
literals_of : FilesHaveLiterals → (content : ℕ → Content) (p : Sources) → ((file : ℕ) → IsTellable (zero_at content p file)) → HaveLiterals content p
literals_of have content p tellable file =
    let t = tellable file in
    have (zero_at content p file) t.formed t.statements t.functions t.branches t.source_map

pub runs_replaced : MarksConstructs → RunsWithoutCounting → IsNew → TellsFiles → SpellsUnits → FilesHaveLiterals → AcceptedTellable → AcceptedPrepared → CountsEntries → RunsReplaced
runs_replaced marks less new tells spells have told prepares counts content p accepted paths r alike path n room w e =
    let tellable = told content p accepted paths in
    let literals = literals_of have content p tellable in
    let prepared = prepares content p accepted paths literals in
    let x = runs content p literals marks less new accepted prepared r alike path n room w e in
    let d = x.2 in (
      x.0,
      x.1,
      record {
        end = d.end;
        output = d.output;
        coverage = told_coverage content p literals tellable prepared tells spells counts w.log w.started x.0.store.heap (below (length w.log) n (2 ^ 53) d.short room (omega arith)) d.told;
      },
    )
