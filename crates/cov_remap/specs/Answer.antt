-- A call's answer is the one that is defined, or want of memory.
use Rattle.std.specs.Prelude.{◌≡◌, List, Result, Ok, Err}
use Rattle.cov_object.specs.declared.file.FileCoverage.{FileCoverage}
use Rattle.cov_remap.specs.declared.fault.RemapFault.{RemapFault}
use Rattle.cov_remap.specs.declared.fault.RemapFault.TheVariants.{BadMap, CountTooLarge, Memory}

abbrev pub Answers : Result (List FileCoverage) RemapFault → Result (List FileCoverage) RemapFault → Type 0
Answers (Ok files) wanted = wanted ≡ Ok files
Answers (Err (BadMap path fault)) wanted = wanted ≡ Err (BadMap path fault)
Answers (Err (CountTooLarge key sum)) wanted = wanted ≡ Err (CountTooLarge key sum)
Answers (Err Memory) wanted = Unit {0}
