-- Bytes are a text, or have the cause of their fault, within the limits of a source.
use Rattle.std.proofs.Common.{◌∙◌, ◌<◌, ◌≤◌, length, Ok, Err, ap, sym, subst}
use Rattle.js_text.specs.declared.limits.Limits.{Limits}
use Rattle.cov_inputs.specs.declared.refusal.Refusal.TheVariants.{TooLong, NotUtf8}
use Rattle.cov_inputs.specs.V8 as spec
use Rattle.cov_inputs.proofs.V8Steps.{is_text, is_long, is_no_text, gives_refusal}
use Rattle.cov_inputs.proofs.v8.text_of.Goals as goal

pub returns-in-Ok-clause-gives : goal.returns-in-Ok-clause-gives
returns-in-Ok-clause-gives c =
    is_text c.args.path.now c.args.bytes.items (subst (λ (limits : Limits). length c.args.bytes.items ≤ limits.bytes) c.source.ensures c.in-Ok.ensures.ok_within) c.in-Ok.ensures.ok_utf8
    ∙ ap Ok (sym c.in-Ok.ensures.ok)

pub returns-in-Err-TooLong-clause-gives : goal.returns-in-Err-TooLong-clause-gives
returns-in-Err-TooLong-clause-gives c =
    let long = ((c.in-Err-TooLong.ensures.too_long c.in-Err-TooLong.field-0-0).0 (ap Err c.in-Err-TooLong.field-0-is)).0 in
    gives_refusal (spec.text_of c.args.path.now c.args.bytes.items) (TooLong c.args.path.now) c.too_long.result
    (is_long c.args.path.now c.args.bytes.items (subst (λ (limits : Limits). limits.bytes < length c.args.bytes.items) c.source.ensures long)) c.too_long.ensures

pub returns-in-Err-NotUtf8-clause-gives : goal.returns-in-Err-NotUtf8-clause-gives
returns-in-Err-NotUtf8-clause-gives c =
    let cause = (c.in-Err-NotUtf8.ensures.not_utf8 c.in-Err-NotUtf8.at).0 (ap Err c.in-Err-NotUtf8.field-0-is) in
    gives_refusal (spec.text_of c.args.path.now c.args.bytes.items) (NotUtf8 c.args.path.now c.in-Err-NotUtf8.at) c.not_utf8.result
    (is_no_text c.args.path.now c.args.bytes.items (subst (λ (limits : Limits). length c.args.bytes.items ≤ limits.bytes) c.source.ensures cause.0) cause.1
    ∙ ap (λ at. Err (NotUtf8 c.args.path.now at)) (sym cause.2)) c.not_utf8.ensures
