-- Paths and coverage files, and what they come to.
use Rattle.std.specs.Prelude.{◌≡◌, ℕ, List, [], ◌∷◌, map, Some, None, Result, Ok, Err, codes}
use Rattle.cov_object.specs.declared.location.Location.{Location}
use Rattle.cov_object.specs.declared.file.StatementCoverage.{StatementCoverage}
use Rattle.cov_object.specs.declared.file.FileCoverage.{FileCoverage}
use Rattle.source_map.specs.declared.place.Segment.{Segment}
use Rattle.source_map.specs.declared.place.Parts.{Parts}
use Rattle.source_map.specs.Mappings.{segments_of}
use Rattle.cov_remap.specs.declared.fault.RemapFault.{RemapFault}
use Rattle.cov_remap.specs.SourcePath.{source_path}
use Rattle.cov_remap.specs.Remapped.{pieces, merged_all}

-- a function takes what stands left in each row to what stands right
abbrev pub Agrees : {A B : Type 0} → (A → B) → List (A × B) → Type 0
Agrees f rows = map (λ row. f row.0) rows ≡ map (λ row. row.1) rows

-- the path of a file, and the text of a source
abbrev path_rows : List ((List ℕ × List ℕ) × List ℕ)
path_rows =
    ((codes "a.js", codes "a.ts"), codes "a.ts") ∷
    ((codes "out/a.js", codes "../src/a.ts"), codes "src/a.ts") ∷
    ((codes "a.js", codes "../src/a.ts"), codes "../src/a.ts") ∷
    ((codes "a.js", codes "/src/../a.ts"), codes "/src/../a.ts") ∷
    ((codes "a.js", codes "webpack:///./a.ts"), codes "webpack:///./a.ts") ∷
    ((codes "a.js", codes "https://a/b/../a.ts"), codes "https://a/b/../a.ts") ∷
    ((codes "out/a.js", codes "b:/a.ts"), codes "out/b:/a.ts") ∷
    []

abbrev pub SourcePaths : Type 0
SourcePaths = Agrees (λ row. source_path row.0 row.1) path_rows

-- ---- a file of two statements

abbrev on_line : ℕ → ℕ → Location
on_line from to = record { start = Some (record { line = 1; column = Some from }); end = Some (record { line = 1; column = Some to }) }

abbrev statement : ℕ → ℕ → ℕ → StatementCoverage
statement from to count = record { location = on_line from to; count = count }

abbrev file_of : List ℕ → List (ℕ × StatementCoverage) → FileCoverage
file_of path statements = record { path = path; hash = None; input_source_map = None; statements = statements; functions = []; branches = [] }

abbrev mapped_by : Result (List Segment) ℕ → Parts
mapped_by (Ok segments) = record { sources = Some (codes "src.ts") ∷ []; names = []; segments = segments }
mapped_by (Err at) = record { sources = []; names = []; segments = [] }

abbrev remapped_by : List ℕ → FileCoverage → Result (List FileCoverage) RemapFault
remapped_by mappings file = merged_all (pieces file (mapped_by (segments_of 1 0 mappings)))

abbrev two : FileCoverage
two = file_of (codes "out.js") ((0, statement 0 4 2) ∷ (1, statement 0 7 3) ∷ [])

abbrev one : FileCoverage
one = file_of (codes "src.ts") ((0, statement 0 6 5) ∷ [])

abbrev pub Remapped : Type 0
Remapped =
    (remapped_by (codes "AAAA,IAAM") two ≡ Ok (one ∷ []))
    × (remapped_by (codes "A,IAAM") two ≡ Ok [])
