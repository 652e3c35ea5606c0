-- A text and then its map, or a text alone whose put failed.
use Rattle.std.proofs.Common.{subst}
use Rattle.cov_base.specs.Store.{PutsAt}
use Rattle.cov_commands.specs.Instrument.{path_below}
use Rattle.cov_commands.specs.private.Written.{no_text, with_text}
use Rattle.cov_commands.proofs.below.put_both.Goals as goal

pub returns-in-Ok-clause-value : goal.returns-in-Ok-clause-value
returns-in-Ok-clause-value g c =
    let w = c.args.written.now in
    with_text (subst (PutsAt (path_below c.args.out.now w.file) w.text (g.S.Store.held c.args.store.now) (g.S.Store.held c.put_text.new.store)) c.in-Ok.is c.put_text.ensures.value)
    c.put_map.ensures.value

pub returns-in-Err-clause-value : goal.returns-in-Err-clause-value
returns-in-Err-clause-value g c =
    let w = c.args.written.now in
    no_text (subst (PutsAt (path_below c.args.out.now w.file) w.text (g.S.Store.held c.args.store.now) (g.S.Store.held c.put_text.new.store)) c.in-Err.is c.put_text.ensures.value)
