-- What a way keeps after text more.
use Rattle.std.proofs.Common.{◌≡◌, ℕ, List, ◌++◌, Option, sym, subst}
use Rattle.js_terms.specs.declared.place.Pos.{Pos}
use Rattle.cov_base.specs.Sink.{TakesPrefix}
use Rattle.cov_base.specs.Pieces.{Moves, held_of}
use Rattle.cov_base.specs.declared.pieces.Pieces.{Pieces}
use Rattle.cov_base.proofs.Moved.{moves_on, moves_put, prefix_on}
use Rattle.js_sheet.specs.declared.way.Way.{Way}
use Rattle.js_sheet.specs.declared.way.Way.TheVariants.{InPieces}
use Rattle.js_sheet.specs.Ways.{Keeps, KeepsMore, TakesPart}

-- ---- a text that goes in pieces

pub pieces_more : {old new : Way} {held : Pieces} {taken after : Option (List ℕ)} {given bytes : List ℕ} (now : Pieces) → old ≡ InPieces held → new ≡ InPieces now → given ≡ bytes → Moves (held_of held ++ given) (held_of now) taken after → KeepsMore old new taken after bytes
pieces_more {old} {new} {held} {taken} {after} {given} {bytes} now before_is after_is is moves = λ before text marks keeps.
    subst (λ w. Keeps w before after (text ++ bytes) marks) (sym after_is)
    (moves_on (text ++ bytes) (held_of held ++ bytes) before taken after (moves_put text (held_of held) bytes before taken (subst (λ w. Keeps w before taken text marks) before_is keeps)) (held_of now)
    (subst (λ more. Moves (held_of held ++ more) (held_of now) taken after) is moves))

pub pieces_part : {old : Way} {held : Pieces} {after : Option (List ℕ)} {given bytes : List ℕ} (taken : Option (List ℕ)) → old ≡ InPieces held → given ≡ bytes → TakesPrefix taken after (held_of held ++ given) → TakesPart old taken after bytes
pieces_part {old} {held} {after} {given} {bytes} taken before_is is cut = λ before text marks keeps.
    prefix_on (text ++ bytes) (held_of held ++ bytes) before taken after (moves_put text (held_of held) bytes before taken (subst (λ w. Keeps w before taken text marks) before_is keeps))
    (subst (λ more. TakesPrefix taken after (held_of held ++ more)) is cut)

-- the last piece
pub pieces_cut : {way : Way} {held : Pieces} {after : Option (List ℕ)} (taken : Option (List ℕ)) → way ≡ InPieces held → TakesPrefix taken after (held_of held) → (before : Option (List ℕ)) (text : List ℕ) (marks : List (ℕ × Option Pos)) → Keeps way before taken text marks → TakesPrefix before after text
pieces_cut {way} {held} {after} taken is cut before text marks keeps = prefix_on text (held_of held) before taken after (subst (λ w. Keeps w before taken text marks) is keeps) cut
