use Rattle.std.proofs.Common.{ap, subst}
use Rattle.std.specs.Str.{IsUtf8}
use Rattle.std.proofs.lemmas.Str.{IsUtf8-string_bytes}
use Rattle.js_text.proofs.text.Text.from_bytes.Goals as goal

pub returns-in-Ok-clause-ok_utf8 : goal.returns-in-Ok-clause-ok_utf8
returns-in-Ok-clause-ok_utf8 c =
    subst IsUtf8 (ap (λ v. v.items) c.in-Ok.ensures.ok) (IsUtf8-string_bytes c.in-Ok.text)

pub returns-in-Ok-clause-not_utf8 : goal.returns-in-Ok-clause-not_utf8
returns-in-Ok-clause-not_utf8 c = λ at.
    (λ e. cc, λ h. absurd (h.1 (subst IsUtf8 (ap (λ v. v.items) c.in-Ok.ensures.ok) (IsUtf8-string_bytes c.in-Ok.text))))
