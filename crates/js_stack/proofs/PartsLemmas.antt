-- What is asked of parts, with one part more.
use Rattle.std.proofs.Common.{◌≡◌, max, Bool, true, false, List, [], ◌∷◌, ◌++◌, length, refl, sym, ap, ◌∙◌, arith}
use Rattle.std.specs.Prelude.{◌==◌}
use Rattle.std.proofs.lemmas.Bool.{ne_eqb}
use Rattle.js_reading.specs.Open.{height, heights}
use Rattle.js_reading.specs.Slots.{TheStmts, IsMethod}
use Rattle.js_reading.specs.Slots as slot
use Rattle.js_reading.specs.Unsupported.{in_own}
use Rattle.js_build.specs.declared.piece.Piece.{Piece}
use Rattle.js_build.specs.View.{plain_piece, plain_pieces}
use Rattle.js_stack.specs.Own.{no_part, own_after}

pub pieces_push : (ps : List Piece) (p : Piece) → plain_pieces (ps ++ p ∷ []) ≡ plain_pieces ps ++ plain_piece p ∷ []
pieces_push [] p = refl
pieces_push (q ∷ ps) p = ap (λ xs. plain_piece q ∷ xs) (pieces_push ps p)

pub heights_push : (ps : List Piece) (p : Piece) → heights (plain_pieces (ps ++ p ∷ [])) ≡ max (heights (plain_pieces ps)) (height (plain_piece p))
heights_push [] p = omega arith
heights_push (q ∷ ps) p = let e = heights_push ps p in omega (arith, e)

own_more : (b : Bool) (ps : List slot.Piece) (p : slot.Piece) → in_own b (ps ++ p ∷ []) ≡ own_after p (in_own b ps)
own_more b [] IsMethod = refl
own_more b [] (TheStmts ss) = refl
own_more b [] p = refl
own_more b (IsMethod ∷ ps) p = own_more true ps p
own_more b (TheStmts ss ∷ ps) p = own_more false ps p
own_more b (q ∷ ps) p = own_more b ps p

pub own_push : (b : Bool) (ps : List Piece) (p : Piece) → in_own b (plain_pieces (ps ++ p ∷ [])) ≡ own_after (plain_piece p) (in_own b (plain_pieces ps))
own_push b ps p = ap (in_own b) (pieces_push ps p) ∙ own_more b (plain_pieces ps) (plain_piece p)

pub no_part_is : (ps : List Piece) → no_part (plain_pieces ps) ≡ (length ps == 0)
no_part_is [] = refl
no_part_is (p ∷ ps) = sym (ne_eqb (length (p ∷ ps)) 0 (omega arith))

pub ruleset parts_rules = (heights_push, own_push)
