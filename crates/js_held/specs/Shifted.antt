-- A run in which a function is held for its name, beside one in which the function is made by that name alone: but for the one more object all is alike, with references
-- that are shifted by it.
use Rattle.std.specs.Prelude.{◌≡◌, ℕ, suc, ◌<◌, Bool, IsTrue, List, ◌∷◌, if◌then◌else◌}
use Rattle.js_value.specs.State.{Heap}
use Rattle.js_value.specs.Objects.{next_object, object_at}
use Rattle.js_value.specs.Realm.{object}
use Rattle.js_meaning.specs.Scopes.{Shape, closed}
use Rattle.js_meaning.specs.Shapes.{holder_made, held_made}
use Rattle.js_two_runs.specs.Pairs.{Pairs, Paired}
use Rattle.js_two_runs.specs.TwoRuns.{Related}
use Rattle.js_two_runs.specs.TwoHeaps.{AlikeHeaps, By}

-- the closures that the two runs make are a pair, and so are the objects of their `prototype`, where they have one
abbrev pub closure_pairs : Shape → Pairs → Heap → Heap → Pairs
closure_pairs shape pairs h k =
    let closures = (next_object h, next_object (holder_made k)) ∷ pairs in
    if shape.constructs then (suc (next_object h), suc (next_object (holder_made k))) ∷ closures else closures

-- from heaps that are alike, the left run makes the closure, and the right one holds it
pub record Shifts (pairs : Pairs) (test : ℕ → ℕ → ℕ → ℕ → Bool) (shape : Shape) (name : List ℕ) (env around : ℕ) (h k : Heap) : Type 0 where
  pub heaps : AlikeHeaps (closure_pairs shape pairs h k) (By test) (closed shape name env h) (held_made shape name around k)
  pub closures : Related (Paired (closure_pairs shape pairs h k)) (object (next_object h)) (object (next_object (holder_made k)))
  -- the holder stands for nothing, so that no object that stands for one refers to it
  pub apart : (o : ℕ) → Paired (closure_pairs shape pairs h k) o (next_object k) → ⊥
  pub before : (o : ℕ) → o < next_object k → object_at (held_made shape name around k) o ≡ object_at k o
  pub environments : (held_made shape name around k).environments ≡ k.environments

abbrev pub HoldShifts : Type 0
HoldShifts = (pairs : Pairs) (test : ℕ → ℕ → ℕ → ℕ → Bool) (shape : Shape) (name : List ℕ) (env around : ℕ) (h k : Heap) → AlikeHeaps pairs (By test) h k →
    IsTrue (test shape.number env shape.number around) → Shifts pairs test shape name env around h k
