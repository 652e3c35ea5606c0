-- Values of JSON that data tell as they are: texts in UTF-8, whole numbers from 0 on, and each key once, in the order of bytes.
use Rattle.std.specs.Prelude.{◌≡◌, ℕ, ◌<◌, ◌≤◌, ◌^◌, List}
use Rattle.std.specs.Ordering.{nat_cmp}
use Rattle.std.specs.Cmp.Lexicographic.{slice_cmp}
use Rattle.std.specs.Str.{IsUtf8}
use Rattle.std.specs.declared.cmp.Ordering.TheVariants.{Less}
use Rattle.serde_json.specs.Data.{Data, null, boolean, number, unsigned, negative, float, string, array, object, Items, no_items, item, Members, no_members, member, depth}
use Rattle.cov_object.specs.SourceMapText.{data_of}

-- a key that comes before each of these members'
abbrev pub Above : List ℕ → Members → Type 0
Above key no_members = Unit {0}
Above key (member other d ms) = (slice_cmp nat_cmp key other ≡ Less) × Above key ms

abbrev pub AreSorted : Members → Type 0
AreSorted no_members = Unit {0}
AreSorted (member key d ms) = Above key ms × AreSorted ms

abbrev mutual
  pub IsPlain : Data → Type 0
  IsPlain null = Unit {0}
  IsPlain (boolean b) = Unit {0}
  IsPlain (number (unsigned n)) = n < 2 ^ 53
  IsPlain (number (negative z)) = ⊥
  IsPlain (number (float x)) = ⊥
  IsPlain (string s) = IsUtf8 s
  IsPlain (array ds) = ArePlain ds
  IsPlain (object ms) = AreSorted ms × MembersArePlain ms

  pub ArePlain : Items → Type 0
  ArePlain no_items = Unit {0}
  ArePlain (item d ds) = IsPlain d × ArePlain ds

  pub MembersArePlain : Members → Type 0
  MembersArePlain no_members = Unit {0}
  MembersArePlain (member key d ms) = IsUtf8 key × IsPlain d × MembersArePlain ms

-- the text of a source map that is such a value, and doesn't nest deep
pub record IsPlainMap (text : List ℕ) : Type 0 where
  pub plain : IsPlain (data_of text)
  pub within : depth (data_of text) ≤ 5
