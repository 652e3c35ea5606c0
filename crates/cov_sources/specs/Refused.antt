-- Why the bytes of a file are no source: the causes that are told are causes, in the words of the crates below.
use Rattle.std.specs.Prelude.{◌≡◌, ℕ, false, ◌<◌, ◌≤◌, List, length, Some}
use Rattle.std.specs.Str.{IsUtf8}
use Rattle.std.specs.Str.Lossy.{utf8_valid_len}
use Rattle.js_terms.specs.declared.place.Pos.{Pos}
use Rattle.js_tree.specs.Plain.{File}
use Rattle.js_tree.specs.Height.{height_file}
use Rattle.js_text.specs.Limits.{source_limits}
use Rattle.js_text.specs.Position.{position}
use Rattle.js_text.specs.declared.text.TextFault.{TextFault}
use Rattle.js_text.specs.declared.text.TextFault.TheVariants as text
use Rattle.js_reading.specs.Reads.{Reads}
use Rattle.js_parser.specs.Refused.{RefusesText}
use Rattle.js_parser.specs.declared.refused.Refusal.TheVariants.{Memory}
use Rattle.js_parser.specs.declared.refused.Refused.{Refused}
use Rattle.js_scopes.specs.Checks.{first_fault}
use Rattle.js_scopes.specs.declared.fault.ScopeFault.{ScopeFault}
use Rattle.cov_sources.specs.declared.why.Why.{Why}
use Rattle.cov_sources.specs.declared.why.Why.TheVariants as why

-- the text has no tree but this one
abbrev pub HasOnly : List ℕ → File → Type 0
HasOnly bytes tree = (other : File) → Reads bytes other → other ≡ tree

-- too many bytes, or bytes that aren't UTF-8 from a byte on
abbrev pub IsNoText : TextFault → List ℕ → Type 0
IsNoText (text.TooLong count) bytes = (source_limits.bytes < length bytes) × (count ≡ length bytes)
IsNoText (text.NotUtf8 at) bytes = (length bytes ≤ source_limits.bytes) × (IsUtf8 bytes → ⊥) × (at ≡ utf8_valid_len bytes)
IsNoText text.Memory bytes = ⊥

-- a text that is refused at a place, for another cause than want of memory
pub record IsUnread (refused : Refused) (place : Pos) (bytes : List ℕ) : Type 0 where
  pub within : length bytes ≤ source_limits.bytes
  pub utf8 : IsUtf8 bytes
  pub refuses : RefusesText refused bytes source_limits.height
  pub caused : refused.why ≡ Memory → ⊥
  pub there : place ≡ position bytes refused.at

-- a text whose tree breaks an early rule, the first that it breaks
pub record IsBroken (broken : ScopeFault) (bytes : List ℕ) : Type 0 where
  pub within : length bytes ≤ source_limits.bytes
  pub utf8 : IsUtf8 bytes
  pub tree : File
  pub reads : Reads bytes tree
  pub only : HasOnly bytes tree
  pub low : height_file tree ≤ source_limits.height
  pub breaks : first_fault false tree ≡ Some broken

abbrev pub IsRefused : Why → List ℕ → Type 0
IsRefused (why.NoText fault) bytes = IsNoText fault bytes
IsRefused (why.Unread refused place) bytes = IsUnread refused place bytes
IsRefused (why.Broken broken) bytes = IsBroken broken bytes
