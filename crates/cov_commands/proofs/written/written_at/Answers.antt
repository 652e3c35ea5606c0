-- A source for which memory is wanting, and one for which this is put.
use Rattle.std.proofs.Common.{◌∙◌, ap, subst, sym}
use Rattle.js_tree.specs.Tree.{plain_file}
use Rattle.cov_run.specs.Loaded.{HasInput, IsSource, map_wanting}
use Rattle.cov_commands.specs.Instrument.{IsTextOf, map_for}
use Rattle.cov_commands.proofs.written.written_at.Goals as goal

pub returns-in-Ok-clause-unread : goal.returns-in-Ok-clause-unread
returns-in-Ok-clause-unread g c = map_wanting

pub returns-in-Ok-written_for-clause-written : goal.returns-in-Ok-written_for-clause-written
returns-in-Ok-written_for-clause-written g c =
    let told = g.S.Store.held c.args.store.now in
    let bytes = c.in-Ok.text in
    let tree = plain_file c.in-Ok.tree in
    let input = c.in-Ok.input in
    let written = c.in-Ok-written_for.written in
    let e = c.in-Ok-written_for.ensures in record {
      bytes = bytes;
      tree = tree;
      input = input;
      source = subst (λ file. IsSource told file bytes tree) (sym e.file) c.in-Ok.ensures.source;
      has = subst (λ file. HasInput told file input) (sym e.file) c.in-Ok.ensures.input;
      is = subst (λ file. IsTextOf file bytes input tree written.text) (sym e.file) e.text;
      map = e.map ∙ ap (λ file. map_for file bytes input tree) (sym e.file);
    }
