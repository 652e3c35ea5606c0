use Rattle.std.proofs.Common.{◌≡◌, ◌++◌, length, drop}
use Rattle.std.specs.Prelude.{map}
use Rattle.std.specs.Str.{chars, encode_utf8_all}
use Rattle.js_layout.specs.Layout as spec
use Rattle.js_sheet.specs.Ascending.{Ascending}
use Rattle.js_sheet.proofs.marks.place_marks.Given as goal

abbrev pub invariant-loop-offset : goal.invariant-loop-offset
invariant-loop-offset l =
    (l.cursor.before ++ l.cursor.after ≡ chars l.text)
    × Ascending (length (encode_utf8_all l.cursor.before)) (drop l.offset-index l.offsets)
    × (l.marks ++ map (λ m. spec.mark_of l.text m) (drop l.offset-index l.offsets) ≡ map (λ m. spec.mark_of l.text m) l.offsets)
