use Rattle.std.proofs.Common.{◌≡◌, ◌+◌, ◌∷◌, [], length, false, Some, option_map, option_and_then, refl, sym, ap, ◌∙◌, arith, rules}
use Rattle.json.specs.Token.{begin_object}
use Rattle.json.specs.Lex.{tokens}
use Rattle.json.specs.Reads.{token_of}
use Rattle.json.specs.Json.{parse_map, value}
use Rattle.serde_json.specs.Data.{no_members, object}
use Rattle.serde_json.specs.Find.{as_object}
use Rattle.cov_object.specs.SourceMapText.{most_depth}
use Rattle.cov_object.specs.private.ByFile.{begins_object, answers, answered}
use Rattle.cov_object.proofs.JsonValue.{data_members}
use Rattle.cov_object.proofs.ByFile.{ended, read-object, whole-answers, more-follows, no_brace}
use Rattle.cov_object.proofs.by_file.answers_in.Goals as goal

pub returns-then-not-takes_brace-clause-ok : goal.returns-then-not-takes_brace-clause-ok
returns-then-not-takes_brace-clause-ok c =
    let none : begins_object (tokens c.args.text.now) ≡ false = grind arith in
    sym (ap (option_map answers) (no_brace c.args.text.now none))

pub returns-in-Err-NoJson-clause-err : goal.returns-in-Err-NoJson-clause-err
returns-in-Err-NoJson-clause-err c other =
    let first : tokens c.args.text.now ≡ begin_object ∷ c.takes_brace.new.reader = search rules in
    (refl, read-object c.args.text.now c.takes_brace.new.reader first ∙ ap (λ o. ended (parse_map object o)) (c.in-Err-NoJson.ensures.err (grind arith)))

pub returns-in-None-clause-ok : goal.returns-in-None-clause-ok
returns-in-None-clause-ok c =
    let first : tokens c.args.text.now ≡ begin_object ∷ c.takes_brace.new.reader = search rules in
    let found = answered c.in-Ok.found.entries in
    let members = data_members (value (most_depth + 1)) (length c.takes_brace.new.reader) no_members c.takes_brace.new.reader in
    let end : c.next_answers.new.reader ≡ [] = grind arith in
    let all : parse_map answers members ≡ Some (found, []) = c.in-Ok.ensures.ok ∙ ap (λ left. Some (found, left)) end in
    sym (ap (λ value. option_map answers (option_and_then as_object value)) (read-object c.args.text.now c.takes_brace.new.reader first) ∙ whole-answers members found all)

pub returns-clause-err : goal.returns-clause-err
returns-clause-err c other =
    let first : tokens c.args.text.now ≡ begin_object ∷ c.takes_brace.new.reader = search rules in
    let found = answered c.in-Ok.found.entries in
    let members = data_members (value (most_depth + 1)) (length c.takes_brace.new.reader) no_members c.takes_brace.new.reader in
    let more : c.next_answers.new.reader ≡ token_of c.in-Some.field-0 ∷ c.next.new.self = grind arith in
    let all : parse_map answers members ≡ Some (found, token_of c.in-Some.field-0 ∷ c.next.new.self) = c.in-Ok.ensures.ok ∙ ap (λ left. Some (found, left)) more in
    (refl, read-object c.args.text.now c.takes_brace.new.reader first ∙ more-follows members found (token_of c.in-Some.field-0) c.next.new.self all)
