-- The copy that is read has the bytes of the source.
use Rattle.std.proofs.Common.{◌≡◌, IfOk, IfErr, refl, sym, subst, ◌∙◌, rules}
use Rattle.std.specs.Str.{IsUtf8}
use Rattle.js_tree.specs.Plain as plain
use Rattle.js_tree.specs.Tree.{plain_file}
use Rattle.js_scopes.specs.Accepted.{Accepted}
use Rattle.cov_sources.specs.Refused.{HasOnly}
use Rattle.cov_run.proofs.sessions.file_of.Goals as goal

pub returns-in-Ok-clause-file : goal.returns-in-Ok-clause-file
returns-in-Ok-clause-file c =
    let bytes = c.in_ok-bytes.ensures.items ∙ c.as_slice.ensures in
    let path : c.in_ok-path-in-Ok.path ≡ c.args.source.now.path = search rules in
    record {
      utf8 = subst IsUtf8 c.as_str.ensures c.as_str.utf8;
      texts = c.look_at_input.ensures;
      path = path;
      tree = plain_file c.in-Ok.tree;
      accepted = subst (λ bytes. Accepted bytes (plain_file c.in-Ok.tree)) bytes
          (subst (λ answer. IfOk answer (λ source. Accepted c.in_ok-bytes.bytes.items (plain_file source.1))) c.in-Ok.is c.in_ok-tree.ensures.accepted);
      only = subst (λ bytes. HasOnly bytes (plain_file c.in-Ok.tree)) bytes
          (subst (λ answer. IfOk answer (λ source. HasOnly c.in_ok-bytes.bytes.items (plain_file source.1))) c.in-Ok.is c.in_ok-tree.ensures.only);
      runs = c.in_ok-tree-in-Ok.ensures;
      uncounted = refl;
    }

pub returns-clause-no_source : goal.returns-clause-no_source
returns-clause-no_source c = λ tree accepted.
    subst (λ answer. IfErr answer (λ why. (tree : plain.File) → Accepted c.in_ok-bytes.bytes.items tree → ⊥)) c.in-Err.is c.in_ok-tree.ensures.no_source tree
    (subst (λ bytes. Accepted bytes tree) (sym (c.in_ok-bytes.ensures.items ∙ c.as_slice.ensures)) accepted)
