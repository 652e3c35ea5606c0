-- What is written of a thing that is counted, for private clauses.
use Rattle.serde_json.specs.Data.{Data}
use Rattle.cov_object.specs.declared.counted.Part.{Part}
use Rattle.cov_object.specs.declared.counted.Part.TheVariants.{Counts, Description}

-- the first for the counts, the second for the description
abbrev pub part_of : Part → Data → Data → Data
part_of Counts counts description = counts
part_of Description counts description = description
