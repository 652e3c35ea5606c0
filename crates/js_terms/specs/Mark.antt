-- The marks of a counted file: which construct is entered, and by which of its paths.
use Rattle.std.specs.Prelude.{ℕ}
use Rattle.js_terms.specs.declared.construct.ConstructKind.{ConstructKind}

-- the number of the file in its program; the construct's kind, and its number among the file's of that kind; and which of its
-- paths, from 0
pub record Mark : Type 0 where
  pub file : ℕ
  pub kind : ConstructKind
  pub number : ℕ
  pub path : ℕ
