-- Which objects of two runs stand for each other, or which environments: two lists, and pairs of places in them.
use Rattle.std.specs.Prelude.{◌≡◌, ℕ, ◌<◌, List, ◌∷◌, length, slice_index_or}

-- a place of the left list and one of the right list, for each pair, the newest first
abbrev pub Pairs : Type 0
Pairs = List (ℕ × ℕ)

-- two places are a pair
pub data Paired : Pairs → ℕ → ℕ → Type 0 where
  here : {o p : ℕ} {pairs : Pairs} → Paired ((o, p) ∷ pairs) o p
  there : {o p : ℕ} {pair : ℕ × ℕ} {pairs : Pairs} → Paired pairs o p → Paired (pair ∷ pairs) o p

-- the pairs are places of both lists, each place is in one pair at most, and R holds at each pair of the two places and of what
-- is there. What is in no pair may be anything.
pub record Corresponds {A : Type 0} (R : ℕ → ℕ → A → A → Type 0) (absent : A) (pairs : Pairs) (xs ys : List A) : Type 0 where
  pub related : (o p : ℕ) → Paired pairs o p → R o p (slice_index_or xs o absent) (slice_index_or ys p absent)
  pub left_bound : (o p : ℕ) → Paired pairs o p → o < length xs
  pub right_bound : (o p : ℕ) → Paired pairs o p → p < length ys
  pub one_right : (o p q : ℕ) → Paired pairs o p → Paired pairs o q → p ≡ q
  pub one_left : (o n p : ℕ) → Paired pairs o p → Paired pairs n p → o ≡ n
