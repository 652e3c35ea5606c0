use Rattle.std.proofs.Common.{◌≡◌, take, take_while, drop, ap, ◌∙◌}
use Rattle.std.specs.List.{list_all}
use Rattle.js_text.specs.Character.{is_digit}
use Rattle.js_value.specs.private.Separated.{is_spaced}
use Rattle.js_value.specs.Numbers.{without_separators}
use Rattle.js_value.proofs.PointLemmas.{list_all-take_while, drop-prefix_len}
use Rattle.js_value.proofs.SeparatedLemmas.{without-take_while, without-past_digits, take-prefix_len}
use Rattle.js_value.proofs.literal.split_digits.Goals as goal

pub returns-clause-digits : goal.returns-clause-digits
returns-clause-digits c = let bytes = c.args.bytes.now in
    ap without_separators (c.split_at.ensures.front ∙ ap (λ n. take n bytes) c.spaced_at_start.ensures.count ∙ take-prefix_len is_spaced bytes) ∙ without-take_while bytes

pub returns-clause-rest : goal.returns-clause-rest
returns-clause-rest c = let bytes = c.args.bytes.now in
    ap without_separators (c.split_at.ensures.back ∙ ap (λ n. drop n bytes) c.spaced_at_start.ensures.count ∙ drop-prefix_len is_spaced bytes) ∙ without-past_digits bytes

pub returns-clause-all : goal.returns-clause-all
returns-clause-all c = let bytes = c.args.bytes.now in
    let run : without_separators c.split_at.result.0.now ≡ take_while is_digit (without_separators bytes) =
    ap without_separators (c.split_at.ensures.front ∙ ap (λ n. take n bytes) c.spaced_at_start.ensures.count ∙ take-prefix_len is_spaced bytes) ∙ without-take_while bytes in
    ap (list_all is_digit) run ∙ list_all-take_while is_digit (without_separators bytes)
