-- Text on its way to a sink, in pieces.
use Rattle.std.specs.Prelude.{◌≡◌, ℕ, List, ◌++◌, Option}
use Rattle.cov_base.specs.Sink.{after_more}
use Rattle.cov_base.specs.declared.pieces.Pieces.{Pieces}

-- the bytes that are held for the next piece
abbrev pub held_of : Pieces → List ℕ
held_of pieces = pieces.held.items

-- of a text, the sink has taken all but what is held
pub record Moves (text held : List ℕ) (before after : Option (List ℕ)) : Type 0 where
  pub gone : List ℕ
  pub split : text ≡ gone ++ held
  pub taken : after ≡ after_more before gone
