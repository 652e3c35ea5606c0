-- Each file is the next of those that are put onto the sums.
use Rattle.std.proofs.Common.{rules, ◌∙◌, ◌++◌, map, ap, subst, sym}
use Rattle.std.proofs.lemmas.List.{take_all}
use Rattle.cov_merge.specs.Maps.{merged}
use Rattle.cov_merge.proofs.OntoLemmas.{AreOnto, begins, continued, ends, stopped}
use Rattle.cov_merge.proofs.onto.with_files.Goals as goal

pub loop-file-init : goal.loop-file-init
loop-file-init c = begins c.args.sums c.requires.merged

pub returns-in-Err : goal.returns-in-Err
returns-in-Err c =
    stopped c.args.sums c.args.files.now c.loop-file.file-index c.file-item.result c.loop-file-test.true c.file-item.is c.loop-file.sums c.loop-file.invariant c.requires.order
    c.in-Err.fault c.in-Err.ensures

pub loop-file-preserved : goal.loop-file-preserved
loop-file-preserved c =
    subst (AreOnto c.args.sums _) (sym c.in_ok-insert-in-Ok.ensures.placed)
    (continued c.args.sums c.args.files.now c.loop-file.file-index c.file-item.result c.loop-file-test.true c.file-item.is c.loop-file.sums c.loop-file.invariant c.requires.order
    c.in-Ok.all c.in-Ok.ensures)

pub returns : goal.returns
returns c =
    ap (λ files. merged (c.args.sums ++ map (λ file. file.now) files)) (sym (take_all c.loop-file.file-index c.args.files.now (search rules)))
    ∙ ends c.args.sums _ c.loop-file.sums c.loop-file.invariant
