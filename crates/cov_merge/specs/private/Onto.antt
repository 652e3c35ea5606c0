-- Sums with one file more, for private clauses.
use Rattle.std.specs.Prelude.{List, [], ◌∷◌, ◌++◌, Option, Some, None, Result}
use Rattle.cov_object.specs.declared.file.FileCoverage.{FileCoverage}
use Rattle.cov_object.specs.Files.{found}
use Rattle.cov_merge.specs.declared.fault.MergeFault.{MergeFault}
use Rattle.cov_merge.specs.Files.{merged_file}

-- a file, where there is one
abbrev pub if_there : Option FileCoverage → List FileCoverage
if_there None = []
if_there (Some file) = file ∷ []

-- a file with the one that stands at its path
abbrev pub joined : List FileCoverage → FileCoverage → Result FileCoverage MergeFault
joined sums file = merged_file file.path (if_there (found file.path sums) ++ file ∷ [])
