-- The limits are those of a source, and each fault has its cause.
use Rattle.std.proofs.Common.{◌<◌, ◌≤◌, length, Err, ap, subst}
use Rattle.js_text.specs.declared.limits.Limits.{Limits}
use Rattle.cov_sources.proofs.accepting.text_of.Goals as goal

pub returns-in-Err-TooLong-clause-refused : goal.returns-in-Err-TooLong-clause-refused
returns-in-Err-TooLong-clause-refused c =
    let cause = (c.in-Err-TooLong.ensures.too_long c.in-Err-TooLong.len).0 (ap Err c.in-Err-TooLong.field-0-is) in
    (subst (λ (limits : Limits). limits.bytes < length c.args.bytes.items) c.source.ensures cause.0, cause.1)

pub returns-in-Err-NotUtf8-clause-refused : goal.returns-in-Err-NotUtf8-clause-refused
returns-in-Err-NotUtf8-clause-refused c =
    let cause = (c.in-Err-NotUtf8.ensures.not_utf8 c.in-Err-NotUtf8.at).0 (ap Err c.in-Err-NotUtf8.field-0-is) in
    (subst (λ (limits : Limits). length c.args.bytes.items ≤ limits.bytes) c.source.ensures cause.0, cause.1, cause.2)
