-- The first of some faults: the first in the text, and of those at one place the upper in the table of rules.
use Rattle.std.specs.Prelude.{◌≡◌, ℕ, nat_lt, ◌==◌, Bool, false, ◌&&◌, ◌||◌, List, [], ◌∷◌, Option, Some, None, if◌then◌else◌}
use Rattle.js_scopes.specs.declared.fault.ScopeFault.{ScopeFault}
use Rattle.js_scopes.specs.declared.fault.ScopeFaultKind.{ScopeFaultKind}
use Rattle.js_scopes.specs.declared.fault.ScopeFaultKind.TheVariants as kind

abbrev pub rank : ScopeFaultKind → ℕ
rank kind.Duplicate = 0
rank kind.Label = 1
rank kind.BreakOutside = 2
rank kind.ContinueOutside = 2
rank kind.BadTarget = 3
rank kind.Reserved = 4
rank kind.Memory = 5

abbrev pub before : ScopeFault → ScopeFault → Bool
before f g =
    nat_lt f.at.line g.at.line
    || (f.at.line == g.at.line && (nat_lt f.at.column g.at.column || (f.at.column == g.at.column && nat_lt (rank f.kind) (rank g.kind))))

abbrev pub earliest : ScopeFault → Option ScopeFault → ScopeFault
earliest f None = f
earliest f (Some g) = if before g f then g else f

abbrev pub first : List ScopeFault → Option ScopeFault
first [] = None
first (f ∷ fs) = Some (earliest f (first fs))

-- ---- what `first` says: it is one of them, and none is before it

pub data IsIn (f : ScopeFault) : List ScopeFault → Type 0 where
  here : {fs : List ScopeFault} → IsIn f (f ∷ fs)
  later : {g : ScopeFault} {fs : List ScopeFault} → IsIn f fs → IsIn f (g ∷ fs)

pub record IsFirst (f : ScopeFault) (fs : List ScopeFault) : Type 0 where
  pub among : IsIn f fs
  pub least : (g : ScopeFault) → IsIn g fs → before g f ≡ false
