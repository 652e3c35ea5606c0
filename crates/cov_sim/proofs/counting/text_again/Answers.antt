-- The text is within the limits, and UTF-8.
use Rattle.std.proofs.Common.{◌≡◌, ◌≤◌, length, sym, subst, rules}
use Rattle.std.specs.Str.{IsUtf8}
use Rattle.js_text.specs.Limits.{again_limits}
use Rattle.js_text.specs.declared.limits.Limits.{Limits}
use Rattle.cov_sim.proofs.ReadAgain.{never_fault}
use Rattle.cov_sim.proofs.counting.text_again.Goals as goal

pub unreachable-requires : goal.unreachable-requires
unreachable-requires c =
    let bytes = c.into_bytes-bytes.result.items in
    let same : bytes ≡ c.args.text = search rules in
    let within = subst (λ (limits : Limits). length bytes ≤ limits.bytes) (sym c.again.ensures) (subst (λ b. length b ≤ again_limits.bytes) (sym same) c.requires.within) in
    never_fault c.from_bytes.result c.in-Err.fault c.in-Err.is c.in_default.not-Memory (c.from_bytes.ensures.complete within (subst IsUtf8 (sym same) c.requires.utf8))
