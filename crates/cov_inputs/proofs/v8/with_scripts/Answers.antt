-- Each entry is the next of those that are left.
use Rattle.std.proofs.Common.{◌∙◌, subst, arith}
use Rattle.std.specs.List.{All}
use Rattle.std.proofs.lemmas.List.Elements.{All-head, All-tail}
use Rattle.cov_v8.specs.Form.{IsScript}
use Rattle.cov_inputs.proofs.V8Steps.{entries_go_on}
use Rattle.cov_inputs.proofs.v8.with_scripts.Goals as goal

pub with_script-requires-clause-formed : goal.with_script-requires-clause-formed
with_script-requires-clause-formed g c =
    All-head IsScript c.in-Some.script.now c.in-Some.rest.now (subst (All IsScript) c.in-Some.ensures.cases.0 c.scripts.invariant.formed)

pub scripts-preserved : goal.scripts-preserved
scripts-preserved g c = record {
  go_on =
      entries_go_on (g.S.Store.held c.args.store.now) c.args.file.now c.args.sums c.args.scripts.now (g.S.Store.held c.scripts.store) c.scripts.invariant.held c.scripts.sums
      c.in-Some.script.now c.in-Some.rest.now c.scripts.left.now c.in-Some.ensures.cases.0 c.scripts.invariant.go_on c.in-Ok.next c.in-Ok.ensures.gives;
  again = c.in-Ok.ensures.merged;
  formed = All-tail IsScript c.in-Some.script.now c.in-Some.rest.now (subst (All IsScript) c.in-Some.ensures.cases.0 c.scripts.invariant.formed);
  later = omega (arith, c.in-Ok.ensures.later, c.scripts.invariant.later);
  held = c.in-Ok.ensures.unchanged ∙ c.scripts.invariant.held;
  puts = c.in-Ok.ensures.puts ∙ c.scripts.invariant.puts;
}
