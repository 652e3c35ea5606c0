use Rattle.std.proofs.Common.{◌∙◌, sym, rules}
use Rattle.path_globs.proofs.NormalFormLemmas.{join_by-slash}
use Rattle.path_globs.proofs.normal_form.spelled.Goals as goal

pub returns : goal.returns
returns c = rw (sym c.root_of-root.ensures, sym (c.in_ok-joined.ensures.ok ∙ join_by-slash c.args.components.now)) (search rules)
