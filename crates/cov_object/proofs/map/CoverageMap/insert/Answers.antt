use Rattle.std.proofs.Common.{ap, ◌∙◌, subst, sym, string_bytes}
use Rattle.std.specs.Map.{values_of}
use Rattle.cov_object.specs.Files.{placed, found, AreUnderTheirPaths}
use Rattle.cov_object.proofs.Files.{values_of-insert, own-insert, lookup-found}
use Rattle.cov_object.proofs.map.CoverageMap.insert.Goals as goal

pub invariant_of-self-2 : goal.invariant_of-self-2
invariant_of-self-2 c =
    subst AreUnderTheirPaths (sym c.in_ok-insert.ensures.entries) (own-insert c.self.inside.files.entries c.in_ok-path.path c.args.file (c.in_ok-path.ensures.ok ∙ c.as_str.ensures) c.self.invariant)

pub returns-clause-placed : goal.returns-clause-placed
returns-clause-placed c =
    ap values_of c.in_ok-insert.ensures.entries
    ∙ values_of-insert c.self.inside.files.entries c.in_ok-path.path c.args.file (c.in_ok-path.ensures.ok ∙ c.as_str.ensures) c.self.invariant
    ∙ ap (placed c.args.file) c.self.view_is

pub returns-clause-replaced : goal.returns-clause-replaced
returns-clause-replaced c =
    c.in_ok-insert.ensures.old
    ∙ lookup-found (string_bytes c.in_ok-path.path) c.self.inside.files.entries c.self.invariant
    ∙ ap (λ path. found path (values_of c.self.inside.files.entries)) (c.in_ok-path.ensures.ok ∙ c.as_str.ensures)
    ∙ ap (found (c.args.file.path)) c.self.view_is
