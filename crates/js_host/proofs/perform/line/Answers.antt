use Rattle.std.proofs.Common.{◌++◌, codes, encode_utf8_all, ap, ◌∙◌}
use Rattle.js_value.specs.Host.{code_points}
use Rattle.js_host.proofs.NativeLemmas.{utf16_lossy_chars-code_points}
use Rattle.js_host.proofs.perform.line.Goals as goal

pub returns : goal.returns
unfolding lib.Utf8.encode
returns c =
    c.from_vec.ensures ∙ ap (λ v. v.items) c.into_bytes.ensures.value ∙ c.in_ok-push.ensures.bytes
    ∙ ap (λ bytes. bytes ++ codes "\n") (c.in_ok-line.ensures ∙ ap encode_utf8_all (utf16_lossy_chars-code_points c.as_slice.result.now ∙ ap code_points c.as_slice.ensures))
