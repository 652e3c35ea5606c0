-- A list of tokens has one tree at most, and no sentence begins with tokens that lead nowhere.
use Rattle.std.proofs.Common.{◌≡◌, List, Some, None, sym, ap, ◌∙◌}
use Rattle.js_tree.specs.Plain.{File}
use Rattle.js_text.specs.Token.{Token}
use Rattle.js_reading.specs.Sentences.{Sentence, Dead}
use Rattle.js_reading.specs.Turns.{run, tree_of, Start}
use Rattle.js_reading.proofs.sentences.Reading.{complete}
use Rattle.js_reading.proofs.sentences.Runs.{stopped}

pub one_tree : {one other : File} {ts : List Token} → Sentence one ts → Sentence other ts → one ≡ other
one_tree {one = one} {other = other} d r = let e : Some one ≡ Some other = sym (complete d) ∙ complete r in cc

pub dead : (ts : List Token) → run Start ts ≡ None → Dead ts
dead ts h tree others d = let e : None ≡ Some tree = sym (ap tree_of (stopped Start ts others h)) ∙ complete d in absurd cc
