use Rattle.cov_expected.proofs.Data.{tells_data}
use Rattle.cov_expected.proofs.Files.{tells_files}
use Rattle.cov_expected.proofs.told.Goals as goal

pub returns-clause-data : goal.returns-clause-data
returns-clause-data c = tells_data

pub returns-clause-files : goal.returns-clause-files
returns-clause-files c = tells_files
