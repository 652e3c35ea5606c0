use Rattle.std.proofs.Common.{◌≡◌, IfOk, subst, rules}
use Rattle.js_tree.specs.Tree.{plain_file}
use Rattle.cov_commands.specs.Instrument.{map_for}
use Rattle.cov_commands.specs.declared.written.Written.{Written}
use Rattle.cov_commands.proofs.written.written_for.Goals as goal

pub returns-clause-map : goal.returns-clause-map
returns-clause-map c =
    let source = c.in_ok-source.source in
    let path : source.path ≡ c.args.file.now = search rules in
    let bytes : source.bytes ≡ c.args.text.now = search rules in
    let input : source.input ≡ c.args.input = search rules in
    subst (λ p. IfOk c.written_of.result (λ (w : Written). w.map ≡ map_for p c.args.text.now c.args.input (plain_file c.args.tree))) path
    (subst (λ b. IfOk c.written_of.result (λ (w : Written). w.map ≡ map_for source.path b c.args.input (plain_file c.args.tree))) bytes
    (subst (λ i. IfOk c.written_of.result (λ (w : Written). w.map ≡ map_for source.path source.bytes i (plain_file c.args.tree))) input c.written_of.ensures.map))
