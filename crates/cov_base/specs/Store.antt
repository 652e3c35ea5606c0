-- What a store holds, and what a read and a put say of it.
use Rattle.std.specs.Prelude.{◌≡◌, ◌≢◌, ℕ, List, Option, None, Some, Result, Vec, IfOk, IfSome, OnOk}
use Rattle.std.specs.Option.{option_map}
use Rattle.std.specs.declared.alloc.Global.{Global}
use Rattle.cov_base.specs.declared.failed.Failed.{Failed}

-- the bytes at each path, and none where nothing is held
abbrev pub Held : Type 0
Held = List ℕ → Option (List ℕ)

-- where a store tells what it holds, an answer that is Ok gives what is held at the path
abbrev pub ReadsHeld : Option Held → List ℕ → Result (Option (Vec ℕ Global)) Failed → Type 0
ReadsHeld held path result = IfSome held (λ at. IfOk result (λ found. option_map (λ bytes. bytes.items) found ≡ at path))

-- every path but this one holds what it held
abbrev pub KeepsOthers : List ℕ → Held → Held → Type 0
KeepsOthers path before after = (other : List ℕ) → other ≢ path → after other ≡ before other

-- both tell nothing, or both tell and stand in the relation
abbrev pub BothTell : {A : Type 0} → Option A → Option A → (A → A → Type 0) → Type 0
BothTell None None R = Unit {0}
BothTell (Some before) (Some after) R = R before after
BothTell None (Some after) R = ⊥
BothTell (Some before) None R = ⊥

-- a put of these bytes at the path: all other paths stay, and after Ok the path holds the bytes
pub record PutsAt (path bytes : List ℕ) (before after : Option Held) (result : Result (Unit {0}) Failed) : Type 0 where
  pub others : BothTell before after (KeepsOthers path)
  pub value : OnOk result (BothTell before after (λ old new. new path ≡ Some bytes))
