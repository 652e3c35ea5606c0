use Rattle.cov_counted.proofs.JsonUnits.{spells_units}
use Rattle.cov_counted.proofs.Literal.{literal_of}
use Rattle.cov_object.specs.Json.{file_data}
use Rattle.cov_expected.proofs.Values.{file_value}
use Rattle.cov_counted.proofs.literals.Goals as goal

pub returns-clause-units : goal.returns-clause-units
returns-clause-units c = spells_units

pub returns-clause-files : goal.returns-clause-files
returns-clause-files c file formed statements functions branches mapped =
    literal_of spells_units c.numerals.ensures.spelled (file_data file) (file_value file formed statements functions branches mapped).good
