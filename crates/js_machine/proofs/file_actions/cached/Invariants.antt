use Rattle.std.proofs.Common.{◌≡◌, drop, find, map}
use Rattle.std.specs.Str.{bytes_eq}
use Rattle.js_machine.specs.private.State.{plain_cached}
use Rattle.js_machine.proofs.file_actions.cached.Given as goal

abbrev pub invariant-loop-file : goal.invariant-loop-file
invariant-loop-file l = find (λ c. bytes_eq c.path l.path) (map plain_cached (drop l.file-index l.file-items)) ≡ find (λ c. bytes_eq c.path l.path) (map plain_cached l.state.cache.items)
