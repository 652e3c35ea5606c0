use Rattle.std.proofs.Common.{Some, None, sym, ◌∙◌, lit<}
use Rattle.std.proofs.lemmas.Str.Pattern.{strip_prefix_char}
use Rattle.js_build.proofs.Slashes.{after_first, no_first}
use Rattle.js_build.proofs.regular_expressions.body_and_flags.Goals as goal

pub returns-in-Some : goal.returns-in-Some
returns-in-Some c =
    let first = strip_prefix_char 47 c.args.spelling.now (Some c.in-Some.rest) c.in-Some.ensures.cases (lit< tt) in
    c.around_last_slash.ensures ∙ sym (after_first c.args.spelling.now c.in-Some.rest.now first)

pub returns-in-None : goal.returns-in-None
returns-in-None c = sym (no_first c.args.spelling.now (strip_prefix_char 47 c.args.spelling.now None c.in-None.ensures.cases (lit< tt)))
