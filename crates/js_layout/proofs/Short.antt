-- The text of the tree of a source is at most eight times as long as the source.
use Rattle.std.proofs.Common.{arith}
use Rattle.js_tree.specs.Plain.{MakeFile}
use Rattle.js_layout.specs.Layout.{written}
use Rattle.js_layout.specs.Laws.{PrintsShort}
use Rattle.js_layout.proofs.ShortWeights.{text_light}
use Rattle.js_layout.proofs.ShortWritten.{light_stmts}
use Rattle.js_layout.proofs.ShortSpells.{sentence_short}
use Rattle.js_layout.proofs.ShortTexts.{tokens_within}

pub prints_short : PrintsShort
prints_short bytes (MakeFile body comments) utf8 reads =
    let within = tokens_within bytes reads.tokens reads.end utf8 reads.lexed in
    omega (arith, text_light (written (MakeFile body comments)), light_stmts body, sentence_short reads.sentence within.ample, within.part)
