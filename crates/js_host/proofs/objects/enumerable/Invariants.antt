use Rattle.std.proofs.Common.{◌≡◌, ◌++◌, drop}
use Rattle.js_value.specs.OnObjects.{enumerable_texts}
use Rattle.js_host.proofs.objects.enumerable.Given as goal

abbrev pub invariant-loop-key : goal.invariant-loop-key
invariant-loop-key l = l.texts ++ enumerable_texts (drop l.key-index l.keys) ≡ enumerable_texts l.keys
