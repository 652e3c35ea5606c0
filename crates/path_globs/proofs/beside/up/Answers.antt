use Rattle.path_globs.proofs.BesideLemmas.{up_else, up_then}
use Rattle.path_globs.proofs.beside.up.Goals as goal

pub returns-else-eq : goal.returns-else-eq
returns-else-eq c = up_else c.args.kept.now.items c.pop.new.self.items c.in-Some.last c.in-Some.ensures.items c.if-eq.ensures

pub returns-in_ok-push-in-Some-2 : goal.returns-in_ok-push-in-Some-2
returns-in_ok-push-in-Some-2 c =
    up_then c.args.kept.now.items c.pop.new.self.items c.push-then-eq.new.self.items c.push-then-eq-2.new.self.items c.in-Some.last c.args.component c.in-Some.ensures.items
    c.in_ok-push-in-Some.ensures.items c.in_ok-push-in-Some-2.ensures.items c.if-eq.ensures c.requires
