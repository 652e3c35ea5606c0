use Rattle.std.proofs.Common.{◌≡◌, drop, find, map}
use Rattle.std.specs.Prelude.{nat_eq}
use Rattle.js_machine.specs.private.State.{plain_requiring}
use Rattle.js_machine.proofs.file_actions.requiring_path.Given as goal

abbrev pub invariant-loop-requiring : goal.invariant-loop-requiring
invariant-loop-requiring l = find (λ r. nat_eq r.function l.callee.index) (map plain_requiring (drop l.requiring-index l.requiring-items)) ≡ find (λ r. nat_eq r.function l.callee.index) (map plain_requiring l.state.requiring.items)
