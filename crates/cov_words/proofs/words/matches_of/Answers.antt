-- What clap answers is what its definitions say of the forms.
use Rattle.std.proofs.Common.{◌∙◌, map, string_bytes, Global}
use Rattle.clap.specs.Words.{app_of}
use Rattle.cov_words.proofs.WordsLemmas.{matched, unmatched}
use Rattle.cov_words.proofs.words.matches_of.Goals as goal

pub returns-in-Ok : goal.returns-in-Ok
returns-in-Ok c =
    matched (app_of c.in_ok-cov.field-0) (map (string_bytes {Z = Global}) c.args.words.now) c.in_ok-cov.ensures
    c.in-Ok.matches c.in-Ok.ensures.matches c.in-Ok.ensures.kinds

pub returns : goal.returns
returns c =
    unmatched (app_of c.in_ok-cov.field-0) (map (string_bytes {Z = Global}) c.args.words.now) c.in_ok-cov.ensures
    _ (λ e. c.in_default.not-OutOfMemory (c.kind.ensures ∙ e)) c.in-Err.ensures.kinds
