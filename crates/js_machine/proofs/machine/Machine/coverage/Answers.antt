use Rattle.std.proofs.Common.{◌≡◌, List, Err, subst}
use Rattle.cov_object.specs.declared.file.FileCoverage.{FileCoverage}
use Rattle.js_coverage.specs.Coverage.{IsCoverage}
use Rattle.js_coverage.specs.declared.coverage.DataFault.TheVariants.{NotCoverage}
use Rattle.js_machine.specs.Whole.{Whole, heap_in}
use Rattle.js_machine.proofs.machine.Machine.coverage.Goals as goal

pub returns-clause-none : goal.returns-clause-none
returns-clause-none c =
    subst (λ (w : Whole). c.coverage_of.result ≡ Err NotCoverage → (files : List FileCoverage) → IsCoverage (heap_in w) files → ⊥) c.self.view_is c.coverage_of.ensures.none
