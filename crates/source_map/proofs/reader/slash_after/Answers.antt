use Rattle.std.specs.Prelude.{codes}
use Rattle.std.proofs.Common.{sym, ◌∙◌}
use Rattle.std.proofs.lemmas.Str.Pattern.{ends_text}
use Rattle.source_map.proofs.ReaderLemmas.{slash_more}
use Rattle.source_map.proofs.reader.slash_after.Goals as goal

pub returns-else-ends_with : goal.returns-else-ends_with
returns-else-ends_with c =
    slash_more c.args.root.now c.ends_with.result (sym c.is_empty.ensures ∙ c.if-is_empty.false)
    (ends_text c.ends_with.result (codes "/") c.args.root.now c.ends_with.ensures.cases) c.if-ends_with.false
