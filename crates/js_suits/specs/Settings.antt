-- What the counters of a program are, and which pairs of objects and of environments of its two runs stand for each other.
use Rattle.std.specs.Prelude.{◌≡◌, ◌≢◌, ℕ, Bool, IsTrue, List, Option, codes}
use Rattle.js_terms.specs.Mark.{Mark}
use Rattle.js_tree.specs.Plain.{Expr, Stmts}
use Rattle.js_value.specs.State.{Heap}
use Rattle.js_two_runs.specs.Pairs.{Pairs}

-- where an environment stands: in a file that has counters; or in another part of the program: 0 is what stands before the files, and
-- after it come the files
pub data Home : Type 0 where
  Outside : (part : ℕ) → Home
  Within : (file : ℕ) → Home

-- the pairs; and of each environment of the right run its home and, where it is such a file's own, the place of the name of the file's
-- function
pub record World : Type 0 where
  pub objects : Pairs
  pub environments : Pairs
  pub home : ℕ → Home
  pub own : ℕ → Option ℕ

-- what the counters are: the name of each file's function, which functions stand for each other, by their numbers, and how far these
-- are apart, which marks have a counter, and its code; a file's statements with what stands before them; what the right run holds
-- beside, by the log and the files started of the left one, and what is told of it in the end; and how far its counts go
pub record Setting : Type 1 where
  pub name : ℕ → List ℕ
  pub Codes : Home → ℕ → ℕ → Type 0
  pub shift : Home → ℕ
  pub Has : Mark → Type 0
  pub code : Mark → Expr
  pub opened : ℕ → Stmts → Stmts
  pub Hidden : World → List Mark → List ℕ → Heap → Type 0
  pub Counted : List Mark → List ℕ → Heap → Type 0
  pub limit : ℕ

-- Names

-- a name that is not that of the home's own function, and one that is
abbrev pub IsOther : (ℕ → List ℕ) → Home → List ℕ → Type 0
IsOther name (Outside part) x = Unit {0}
IsOther name (Within file) x = x ≢ name file

abbrev pub IsOwn : (ℕ → List ℕ) → Home → List ℕ → Type 0
IsOwn name (Outside part) x = ⊥
IsOwn name (Within file) x = x ≡ name file

-- a name that a source may have
pub record IsFree (name : ℕ → List ℕ) (h : Home) (x : List ℕ) : Type 0 where
  pub other : IsOther name h x
  pub not_global : x ≢ codes "globalThis"

-- `this` is no file's function
pub record Fresh (c : Setting) : Type 0 where
  pub this : (h : Home) → IsFree c.name h (codes "this")

-- what the counters are, where what is said of them are tests
pub record Tests : Type 0 where
  pub name : ℕ → List ℕ
  pub codes : Home → ℕ → ℕ → Bool
  pub shift : Home → ℕ
  pub has : Mark → Bool
  pub code : Mark → Expr
  pub opened : ℕ → Stmts → Stmts
  pub hidden : World → List Mark → List ℕ → Heap → Bool
  pub counted : List Mark → List ℕ → Heap → Bool
  pub limit : ℕ

abbrev pub setting_of : Tests → Setting
setting_of t = record {
  name = t.name;
  Codes = λ h code other. IsTrue (t.codes h code other);
  shift = t.shift;
  Has = λ mark. IsTrue (t.has mark);
  code = t.code;
  opened = t.opened;
  Hidden = λ w log started k. IsTrue (t.hidden w log started k);
  Counted = λ log started k. IsTrue (t.counted log started k);
  limit = t.limit;
}
