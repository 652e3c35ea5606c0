-- What the coverage of a file keeps of its source map: the map's text.
use Rattle.std.specs.Prelude.{◌≡◌, ℕ, List, [], ◌∷◌, Option, IfSome}
use Rattle.std.specs.Str.{IsUtf8}
use Rattle.cov_object.specs.SourceMapText.{data_of, IsSourceMap}
use Rattle.source_map.specs.declared.place.Parts.{Parts}
use Rattle.source_map.specs.Write.{map_data, map_text}

-- each of these texts is UTF-8
abbrev pub AreTexts : List (List ℕ) → Type 0
AreTexts [] = Unit {0}
AreTexts (text ∷ texts) = IsUtf8 text × AreTexts texts

-- so is each source that isn't null
abbrev pub AreSources : List (Option (List ℕ)) → Type 0
AreSources [] = Unit {0}
AreSources (source ∷ sources) = IfSome source IsUtf8 × AreSources sources

-- all texts of a map are UTF-8, as its type says
pub record HasTexts (map : Parts) : Type 0 where
  pub sources : AreSources map.sources
  pub names : AreTexts map.names

-- the text of a map is one that a coverage keeps, and is read as the map's data
pub record IsKept (map : Parts) : Type 0 where
  pub is : IsSourceMap (map_text map)
  pub utf8 : IsUtf8 (map_text map)
  pub told : data_of (map_text map) ≡ map_data map

abbrev pub KeepsMaps : Type 0
KeepsMaps = (map : Parts) → HasTexts map → IsKept map
