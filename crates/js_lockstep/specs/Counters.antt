-- What is asked of counters.
use Rattle.std.specs.Prelude.{ℕ, List, Option, None, Some}
use Rattle.js_terms.specs.Mark.{Mark}
use Rattle.js_tree.specs.Codes.{Code}
use Rattle.js_value.specs.State.{Heap, Store}
use Rattle.js_meaning.specs.Program.{Sources, function_at}
use Rattle.js_meaning.specs.Meaning.{comp_expr}
use Rattle.js_suits.specs.Rewritten.{rewritten_code}
use Rattle.js_suits.specs.Suits.{SuitsCode}
use Rattle.js_suits.specs.Settings.{Home, Within, World, Setting}
use Rattle.js_lockstep.specs.Worlds.{Later, Around, AlikeStores, Untouched}
use Rattle.js_lockstep.specs.Trees.{Ticks}

-- what the right run holds beside stays while it isn't touched, and tells the counts
pub record Keeps (c : Setting) : Type 0 where
  pub keeps : (w v : World) (log : List Mark) (started : List ℕ) (h k : Heap) → Later w v → Untouched w v h k →
      c.Hidden w log started h → c.Hidden v log started k
  pub tells : (w : World) (log : List Mark) (started : List ℕ) (k : Heap) → c.Hidden w log started k → c.Counted log started k

-- of the code that counts a mark: with a step it comes to a value, and the mark is counted
pub record Counts (c : Setting) (q : Sources) : Type 0 where
  pub counts : (p : Sources) (mark : Mark) → c.Has mark → (w : World) (e f : ℕ) → Around w (Within mark.file) e f → (s t : Store) → AlikeStores c w s t →
      Ticks c p q w mark s t (comp_expr q (c.code mark) f)

-- codes that stand for each other are found in both programs, one the other's rewriting, or in none
pub data AlikeCodes (c : Setting) (h : Home) : Option Code → Option Code → Type 0 where
  no_code : AlikeCodes c h None None
  codes_of : (code : Code) → SuitsCode c h code → AlikeCodes c h (Some code) (Some (rewritten_code c (c.shift h) code))

pub record Coded (c : Setting) (p q : Sources) : Type 0 where
  pub codes : (h : Home) (code other : ℕ) → c.Codes h code other → AlikeCodes c h (function_at p code) (function_at q other)
