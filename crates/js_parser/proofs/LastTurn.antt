-- What the last turn that is kept tells of the finds of the definition.
use Rattle.std.proofs.Common.{◌≡◌, [], ◌∷◌, Result, Ok, Err, Some, None, OnOk, refl, ap, ◌∙◌}
use Rattle.js_text.specs.Token.{Token}
use Rattle.js_lexer.specs.Token.{plain_token}
use Rattle.js_reading.specs.Turns.{Config}
use Rattle.js_reading.specs.Found.{Find, Turns, two, two_back}
use Rattle.js_stack.specs.Sight.{Sees}
use Rattle.js_parser.specs.declared.recent.Turn.{Turn}
use Rattle.js_parser.specs.Recent.{Recalls}

pub no_turn : (turns : Turns) (t : Token) → Recalls None turns → None ≡ two_back turns t
no_turn [] t recalls = refl
no_turn (x ∷ turns) t recalls = absurd recalls

pub one_turn : (last : Turn) (turns : Turns) (t : Token) (find : Find) → Recalls (Some last) turns → ((c : Config) → Sees last.sight c → find ≡ two c (plain_token last.token) t) → find ≡ two_back turns t
one_turn last [] t find recalls h = absurd recalls
one_turn last (x ∷ turns) t find recalls h = h x.0 recalls.0 ∙ ap (λ u. two x.0 u t) recalls.1

pub on_ok_then : {T U : Type 0} (r : Result T U) (P Q : Type 0) → OnOk r P → (P → Q) → OnOk r Q
on_ok_then (Ok x) P Q h go = go h
on_ok_then (Err e) P Q h go = tt
