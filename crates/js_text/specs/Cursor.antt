-- What a cursor's fields say of its place.
use Rattle.std.specs.Prelude.{◌≡◌, ◌≤◌, length, take, drop}
use Rattle.std.specs.Str.{chars, IsUtf8}
use Rattle.js_text.specs.declared.cursor.Cursor.TheInside.{Inside}
use Rattle.js_text.specs.Place.{Place}
use Rattle.js_text.specs.Position.{position_of}

-- the characters of the text up to the offset, and those of the rest
abbrev pub place_of : Inside → Place
place_of cursor = record { before = chars (take cursor.offset cursor.text.now); after = chars cursor.rest.now }

-- the offset is between two characters, the rest is what follows it, and the position is that of the place
pub record IsCursor (cursor : Inside) : Type 0 where
  pub within : cursor.offset ≤ length cursor.text.now
  pub front : IsUtf8 (take cursor.offset cursor.text.now)
  pub rest : cursor.rest.now ≡ drop cursor.offset cursor.text.now
  pub rest_utf8 : IsUtf8 cursor.rest.now
  pub position : cursor.position ≡ position_of (place_of cursor)
