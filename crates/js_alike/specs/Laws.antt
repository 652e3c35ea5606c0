-- What is proved of alike trees and of programs of such trees.
use Rattle.std.specs.Prelude.{◌≡◌, ℕ, List}
use Rattle.js_tree.specs.Plain.{File}
use Rattle.js_tree.specs.Same.{bare_file}
use Rattle.js_tree.specs.Linked.{Unmarked, Numbers, made, link_file}
use Rattle.js_meaning.specs.Program.{Sources, uncounted}
use Rattle.js_meaning.specs.World.{run, meaning, plain}
use Rattle.js_alike.specs.Alike.{bare, AreAlike}

-- a run reads no places, no comments and no parentheses
abbrev pub RunsAsBare : Type 0
RunsAsBare = (p : Sources) (file n : ℕ) → run p file n ≡ run (bare p) file n

-- nor does linking, where nothing is counted
abbrev pub LinksAsBare : Type 0
LinksAsBare = (tree : File) (k : Numbers) → made bare_file (link_file Unmarked tree k) ≡ link_file Unmarked (bare_file tree) k

-- programs of alike trees, none of them counted, have one run: the same outcome, and the same store
abbrev pub MeansAlike : Type 0
MeansAlike = (p q : Sources) → AreAlike p q → (file n : ℕ) → meaning (uncounted p) file n ≡ meaning (uncounted q) file n

-- so they end alike, print the same and leave the same data, for each file and each number of steps
abbrev pub RunsPlainlyAlike : Type 0
RunsPlainlyAlike = (p q : Sources) → AreAlike p q → (path : List ℕ) (n : ℕ) → plain p path n ≡ plain q path n
