-- The answer of `demo`, from what its run left or why there is none.
use Rattle.std.specs.Prelude.{◌≡◌, ℕ, List, ◌++◌, None}
use Rattle.js_text.specs.declared.text.TextFault.TheVariants as text
use Rattle.js_meaning.specs.declared.outcome.End.{End}
use Rattle.cov_object.specs.declared.file.FileCoverage.{FileCoverage}
use Rattle.cov_run.specs.declared.fault.LoadFault.{LoadFault}
use Rattle.cov_run.specs.declared.fault.LoadFault.TheVariants as fault
use Rattle.cov_run.specs.declared.fault.SessionFault.{SessionFault}
use Rattle.cov_run.specs.declared.fault.SessionFault.TheVariants as session
use Rattle.cov_sources.specs.declared.why.Why.{Why}
use Rattle.cov_sources.specs.declared.why.Why.TheVariants as cause
use Rattle.cov_commands.specs.Demo.{demo_summary}
use Rattle.cov_commands.specs.declared.answer.Answer.{Answer}

-- the sums of the coverage stand after the output
abbrev pub IsSummed : End → List ℕ → List FileCoverage → Answer → Type 0
IsSummed end output coverage answer = answer ≡ record { output = output ++ demo_summary coverage; end = end; coverage = None }

-- a text that is too long is told as such
abbrev pub fault_of : List ℕ → Why → LoadFault
fault_of path (cause.NoText (text.TooLong count)) = fault.TooLong path
fault_of path why = fault.Refused path why

-- a run that left no coverage is told as want of memory
abbrev pub unshown_by : SessionFault → LoadFault
unshown_by (session.Refused path why) = fault_of path why
unshown_by session.NotCoverage = fault.Memory
unshown_by session.Memory = fault.Memory
