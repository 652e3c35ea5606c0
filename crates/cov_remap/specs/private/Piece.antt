-- Files as they are put together, for private clauses.
use Rattle.std.specs.Prelude.{List, ◌++◌, Result, Ok, Err}
use Rattle.cov_object.specs.declared.file.FileCoverage.{FileCoverage}
use Rattle.cov_remap.specs.declared.fault.RemapFault.{RemapFault}
use Rattle.cov_remap.specs.declared.remapped.Piece.{Piece}
use Rattle.cov_remap.specs.declared.remapped.Piece.TheVariants.{Whole, Part}

abbrev pub now : Piece → FileCoverage
now (Whole file) = file.now
now (Part file) = file

-- what is found after some files
abbrev pub onto : List FileCoverage → Result (List FileCoverage) RemapFault → Result (List FileCoverage) RemapFault
onto before (Ok files) = Ok (before ++ files)
onto before (Err why) = Err why
