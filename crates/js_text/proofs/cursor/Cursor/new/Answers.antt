use Rattle.std.proofs.Common.{refl, sym, ap, arith, List, ℕ, chars}
use Rattle.std.proofs.lemmas.Str.{IsUtf8-nil, chars-nil}
use Rattle.js_text.specs.Place.{Place}
use Rattle.js_text.specs.Position.{position_of}
use Rattle.js_text.proofs.cursor.Cursor.new.Goals as goal

pub invariant_of-result : goal.invariant_of-result
invariant_of-result c = record {
  within = omega arith;
  front = IsUtf8-nil;
  rest = refl;
  rest_utf8 = c.utf8.text;
  position = ap (λ (before : List ℕ). let place : Place = record { before = before; after = chars c.args.text.now } in position_of place) (sym chars-nil);
}

pub returns-clause-before : goal.returns-clause-before
returns-clause-before c = chars-nil
