use Rattle.std.specs.Prelude.{codes}
use Rattle.std.proofs.lemmas.Str.Pattern.{ends_text}
use Rattle.path_globs.proofs.SpecifierLemmas.{with_ending}
use Rattle.path_globs.proofs.specifier.ending.Goals as goal

pub returns-else-ends_with : goal.returns-else-ends_with
returns-else-ends_with c =
    with_ending c.args.specifier.now c.ends_with.result (ends_text c.ends_with.result (codes ".js") c.args.specifier.now c.ends_with.ensures.cases) c.if-ends_with.false
