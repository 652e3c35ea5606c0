-- The files at one path, merged.
use Rattle.std.specs.Prelude.{ℕ, cond, List, [], ◌∷◌, Option, Some, None, Result, Ok}
use Rattle.std.specs.Option.{option_eq}
use Rattle.std.specs.List.{list_all, enumerate_from}
use Rattle.cov_object.specs.declared.file.FileCoverage.{FileCoverage}
use Rattle.cov_merge.specs.declared.fault.MergeFault.{MergeFault}
use Rattle.cov_merge.specs.Answer.{and_then}
use Rattle.cov_merge.specs.Same.{same_text}
use Rattle.cov_merge.specs.Kinds.{statements, functions, branches}
use Rattle.cov_merge.specs.Entries.{merged_entries}

-- the hash that all of them have, if there is one
abbrev pub hash_of : List FileCoverage → Option (List ℕ)
hash_of [] = None
hash_of (file ∷ files) = cond (list_all (λ other. option_eq same_text file.hash other.hash) files) file.hash None

-- the first source map
abbrev pub or_else : Option (List ℕ) → Option (List ℕ) → Option (List ℕ)
or_else None other = other
or_else (Some map) other = Some map

abbrev pub source_map_of : List FileCoverage → Option (List ℕ)
source_map_of [] = None
source_map_of (file ∷ files) = or_else file.input_source_map (source_map_of files)

-- the files at a path, as one: what stands under one key is summed, numbered from 0 in the order in which the keys first appear
abbrev pub merged_file : List ℕ → List FileCoverage → Result FileCoverage MergeFault
merged_file path files =
    and_then (merged_entries statements path files) (λ all_statements.
    and_then (merged_entries functions path files) (λ all_functions.
    and_then (merged_entries branches path files) (λ all_branches.
    Ok (record {
      path = path;
      hash = hash_of files;
      input_source_map = source_map_of files;
      statements = enumerate_from 0 all_statements;
      functions = enumerate_from 0 all_functions;
      branches = enumerate_from 0 all_branches;
    }))))
