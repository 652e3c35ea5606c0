use Rattle.std.proofs.Common.{◌≡◌, string_bytes}
use Rattle.cov_commands.specs.DemoFile as spec
use Rattle.cov_commands.proofs.demo_file.functions_of.Given as goal

abbrev pub invariant-loop-number : goal.invariant-loop-number
invariant-loop-number l = (string_bytes l.lines ≡ spec.function_lines l.seed l.number) × (l.drawn ≡ spec.drawn l.seed l.number)
