use Rattle.std.proofs.Common.{◌≡◌, ◌+◌, ◌-◌, suc, Some, None, take, drop, sym, ap, ◌∙◌, arith, lit<}
use Rattle.std.proofs.lemmas.Str.Pattern.{rfind_char}
use Rattle.js_build.proofs.Slashes.{no_slash, last_slash}
use Rattle.js_build.proofs.regular_expressions.around_last_slash.Goals as goal

pub returns-in-Some : goal.returns-in-Some
returns-in-Some c =
    let last = rfind_char 47 c.args.text.now (Some c.in-Some.at) c.in-Some.ensures.cases (lit< tt) in
    let one : c.in-Some.at + 1 ≡ suc c.in-Some.at = omega arith in
    let after = c.range_from.ensures.value ∙ ap (λ n. drop n c.args.text.now) one in
    let all : c.in-Some.at - 0 ≡ c.in-Some.at = omega arith in
    let before = c.range.ensures.value ∙ ap (λ n. take n c.args.text.now) all in
    rw (before, after) (sym (last_slash c.args.text.now c.in-Some.at last.0 last.1 last.2))

pub returns-in-None : goal.returns-in-None
returns-in-None c = sym (no_slash c.args.text.now (rfind_char 47 c.args.text.now None c.in-None.ensures.cases (lit< tt)))
