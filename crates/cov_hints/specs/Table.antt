-- The table of a file's hints.
use Rattle.std.specs.Prelude.{Option, if◌then◌else◌}
use Rattle.std.specs.BTreeMap.{BTreeMap, get}
use Rattle.js_terms.specs.contracts.place.PosOrd.TheImpl as order
use Rattle.js_tree.specs.Comments.{hint_in_text, is_same, or_earlier}
use Rattle.js_tree.specs.declared.hint.Hint.{Hint}
use Rattle.js_terms.specs.declared.place.Pos.{Pos}
use Rattle.js_terms.specs.declared.words.Comment.{Comment}

-- the hint before the token that starts here
abbrev pub hint_in_table : BTreeMap Pos Hint → Pos → Option Hint
hint_in_table table token = get order.cmp-value.it table token

-- what is there for a token after one more comment
abbrev pub noted : Comment → Pos → Option Hint → Option Hint
noted comment token earlier = if is_same comment.next token then or_earlier (hint_in_text comment.text) earlier else earlier
