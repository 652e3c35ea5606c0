-- So many of a byte, and the widest of the files so far.
use Rattle.std.proofs.Common.{◌≡◌, ℕ, zero, suc, ◌+◌, List, [], ◌∷◌, ◌++◌, length, map, fold, max, Bor, refl, ap, add-one}
use Rattle.std.specs.Str.{chars}
use Rattle.cov_object.specs.declared.file.FileCoverage.{FileCoverage}
use Rattle.cov_report.specs.Table.{many}

-- one more at the end
many-suc : (byte n : ℕ) → many byte (suc n) ≡ many byte n ++ byte ∷ []
many-suc byte zero = refl
many-suc byte (suc n) = ap (λ rest. byte ∷ rest) (many-suc byte n)

pub many-more : (byte n : ℕ) → many byte (n + 1) ≡ many byte n ++ byte ∷ []
many-more byte n = rw add-one (many-suc byte n)

abbrev pub wider : ℕ → FileCoverage → ℕ
wider width file = max width (length (chars file.path))

pub wider-more : (width : ℕ) (files : List (Bor FileCoverage)) (file : Bor FileCoverage) →
    fold wider width (map (λ file. file.now) (files ++ file ∷ [])) ≡ wider (fold wider width (map (λ file. file.now) files)) file.now
wider-more width [] file = refl
wider-more width (other ∷ files) file = wider-more (wider width other.now) files file
