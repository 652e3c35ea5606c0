use Rattle.std.specs.Str.Parse.{ParsesUnsigned, ExplainsUnsignedError, HasUnsignedDigitsIfOk}
use Rattle.clap.specs.Matches.{found_of}
use Rattle.cov_words.proofs.WordsLemmas.{one_read}
use Rattle.cov_words.proofs.arguments.number_in.Goals as goal

pub returns : goal.returns
returns c =
    one_read _ (λ bs r. ParsesUnsigned 64 10 bs r × ExplainsUnsignedError 10 bs r × HasUnsignedDigitsIfOk bs r)
    (found_of c.args.own.now) c.args.name.now c.get_one.result c.get_one.ensures.none c.get_one.ensures.value (λ t r given. given.0)
