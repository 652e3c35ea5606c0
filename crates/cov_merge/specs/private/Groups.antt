-- The files of each path, for private clauses.
use Rattle.std.specs.Prelude.{ℕ, List, map}
use Rattle.std.specs.Borrow.{Bor}
use Rattle.std.specs.declared.vec.Vec.{Vec}
use Rattle.std.specs.declared.alloc.Global.{Global}
use Rattle.cov_object.specs.declared.file.FileCoverage.{FileCoverage}

-- the files of each path, as they are now
abbrev pub groups_of : List (Bor (List ℕ) × Vec (Bor FileCoverage) Global) → List (List ℕ × List FileCoverage)
groups_of entries = map (λ group. (group.0.now, map (λ file. file.now) group.1.items)) entries
