-- Escapes, one character at a time.
use Rattle.std.proofs.Common.{◌≡◌, ℕ, List, drop, slice_get, Some, None, ap, ◌∙◌}
use Rattle.js_text.specs.Escape.{braced_digits, unicode_escape, escape, identifier_escape, says}
use Rattle.js_lexer.proofs.Steps.{first_is, none_is}

pub braced-ends : (value : ℕ) (cs : List ℕ) → slice_get cs 0 ≡ None → braced_digits value cs ≡ None
braced-ends value cs h = ap (braced_digits value) (none_is cs h)

pub escape-unicode : (cs : List ℕ) → slice_get cs 0 ≡ Some 0x75 → escape cs ≡ says (unicode_escape (drop 1 cs))
escape-unicode cs h = ap escape (first_is cs 0x75 h)

pub identifier-unicode : (cs : List ℕ) (c : ℕ) → slice_get cs 0 ≡ Some c → c ≡ 0x75 → identifier_escape cs ≡ unicode_escape (drop 1 cs)
identifier-unicode cs c h same = ap identifier_escape (first_is cs 0x75 (h ∙ ap (λ x. Some x) same))
