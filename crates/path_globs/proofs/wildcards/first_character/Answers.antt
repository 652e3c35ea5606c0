use Rattle.std.proofs.Common.{ap, sym, ◌∙◌, ◌++◌, encode_utf8}
use Rattle.std.proofs.lemmas.Str.{chars_past_char}
use Rattle.path_globs.proofs.wildcards.first_character.Goals as goal

pub returns : goal.returns
returns c = chars_past_char _ _ _ c.utf8.text
    (sym c.chars-characters.ensures.rest ∙ c.in_ok-first.ensures.steps.0 ∙ ap (λ bs. encode_utf8 c.in_ok-first.first ++ bs) (sym c.as_str.ensures))
