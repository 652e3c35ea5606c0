-- Tokens that are those that were written, and what a token goes on with.
use Rattle.std.proofs.Common.{◌≡◌, ℕ, ◌<◌, Bool, false, List, [], ◌∷◌, ◌++◌, Option, Some, None, refl, ap}
use Rattle.js_terms.specs.declared.place.Loc.{Loc}
use Rattle.js_text.specs.declared.punctuator.Punctuator.TheVariants as P
use Rattle.js_text.specs.Token.{Token}
use Rattle.js_spelling.specs.Written.{Written}
use Rattle.js_reading.specs.Sentences.{stands_for}
use Rattle.js_reading.specs.Productions.{is_mark, join, strength}
use Rattle.js_layout.specs.Tokens.{begun}

-- these tokens are those that were written, the first of them after the end of a line or not
abbrev pub Follows : Bool → List Written → List Token → Type 0
Follows line [] [] = Unit {0}
Follows line (w ∷ ws) (t ∷ ts) = (t.kind ≡ w.kind) × (t.line_terminator_before ≡ line) × Follows w.ends_line ws ts
Follows line ws ts = ⊥

abbrev pub last_line : Bool → List Written → Bool
last_line line [] = line
last_line line (w ∷ ws) = last_line w.ends_line ws

-- the tokens of two parts
pub record Split (line : Bool) (xs ys : List Written) (ts : List Token) : Type 0 where
  pub front : List Token
  pub rest : List Token
  pub are : ts ≡ front ++ rest
  pub first : Follows line xs front
  pub then : Follows (last_line line xs) ys rest

pub split : (line : Bool) (xs ys : List Written) (ts : List Token) → Follows line (xs ++ ys) ts → Split line xs ys ts
split line [] ys ts h = record { front = []; rest = ts; are = refl; first = tt; then = h }
split line (x ∷ xs) ys [] h = absurd h
split line (x ∷ xs) ys (t ∷ ts) h =
    let s = split x.ends_line xs ys ts h.2 in
    record { front = t ∷ s.front; rest = s.rest; are = ap (λ us. t ∷ us) s.are; first = (h.0, h.1, s.first); then = s.then }

pub nothing : (line : Bool) (ts : List Token) → Follows line [] ts → ts ≡ []
nothing line [] h = refl
nothing line (t ∷ ts) h = absurd h

-- where a part begins in the source is no matter
pub unbegun : (l : Option Loc) (line : Bool) (ws : List Written) (ts : List Token) → Follows line (begun l ws) ts → Follows line ws ts
unbegun None line ws ts h = h
unbegun (Some l) line [] ts h = h
unbegun (Some l) line (w ∷ ws) [] h = absurd h
unbegun (Some l) line (w ∷ ws) (t ∷ ts) h = h

-- ---- a token goes on with nothing that binds at least so tightly, and makes no parameters of a pair

pub record Quiet (n : ℕ) (t : Token) : Type 0 where
  pub no_literal : stands_for t.kind ≡ 0
  pub no_arrow : is_mark P.Arrow t ≡ false
  pub weak : strength (join t) < n
