use Rattle.std.proofs.Common.{◌≡◌, ◌+◌, ◌-◌, ◌<◌, length, Some, string_bytes, refl, sym, ap, ◌∙◌, arith, rules}
use Rattle.json.specs.Json.{parse_map, read_key, value}
use Rattle.json.proofs.Grammar.{read_key-shorter}
use Rattle.serde_json.specs.Data.{no_members, put}
use Rattle.cov_object.specs.SourceMapText.{most_depth}
use Rattle.cov_object.specs.Read.{file_of}
use Rattle.cov_object.specs.private.ByFile.{answers, answered}
use Rattle.cov_object.proofs.JsonValue.{data_of, data_members, member_read, member_refused, key_refused, members_over}
use Rattle.cov_object.proofs.ByFile.{answered-put, parse_map-some}
use Rattle.cov_object.proofs.by_file.next_answers.Goals as goal

pub members-init : goal.members-init
members-init c = (length c.args.reader.now, no_members, omega arith, refl, ap answered (sym c.new-found.ensures.empty), omega arith)

pub returns-in_err-name-clause-err : goal.returns-in_err-name-clause-err
returns-in_err-name-clause-err c refused =
    let l = c.members in
    l.invariant.3 ∙ key_refused (value (most_depth + 1)) l.invariant.0 l.invariant.1 l.reader c.in_err-name.ensures.value

pub returns-in_err-answer-clause-err : goal.returns-in_err-answer-clause-err
returns-in_err-answer-clause-err c refused =
    let l = c.members in
    let k = c.in-Some.name.now in
    let after = c.next_key.new.self in
    let named : read_key l.reader ≡ Some (Some k, after) = grind arith in
    l.invariant.3 ∙ member_refused (value (most_depth + 1)) l.invariant.0 k l.invariant.1 l.reader after named (c.next_answer.ensures.err (grind arith))

pub members-preserved : goal.members-preserved
members-preserved c =
    let l = c.members in
    let n = l.invariant.0 in
    let old = l.invariant.1 in
    let k = c.in-Some.name.now in
    let after = c.next_key.new.self in
    let named : read_key l.reader ≡ Some (Some k, after) = grind arith in
    let left = c.next_answer.new.reader in
    let key = c.in_ok-key.key in
    let answer = c.in_ok-answer.answer in
    let read = parse_map-some (λ d. file_of c.as_str.result.now d) (data_of (value (most_depth + 1)) after) answer left c.in_ok-answer.ensures.ok in
    let d = read.0 in
    let shorter = read_key-shorter l.reader (Some k) after named in
    let shorter_yet = c.in_ok-answer.ensures.shorter in
    let copied : string_bytes key ≡ k = search rules in
    let told : answer ≡ file_of (string_bytes key) d = sym read.2 ∙ ap (λ name. file_of name d) c.as_str.ensures.value in (
      n - 1,
      put (string_bytes key) d old,
      omega (arith, l.invariant.2),
      l.invariant.3
          ∙ member_read (value (most_depth + 1)) n k old l.reader after left d (omega (arith, l.invariant.2)) named read.1
          ∙ ap (λ name. data_members (value (most_depth + 1)) (n - 1) (put name d old) left) (sym copied),
      answered-put l.found.entries key answer d old l.invariant.4 told ∙ ap answered (sym c.in_ok-insert.ensures.entries),
      omega (arith, l.invariant.5),
    )

pub members-smaller : goal.members-smaller
members-smaller c =
    let l = c.members in
    let after = c.next_key.new.self in
    let named : read_key l.reader ≡ Some (Some c.in-Some.name.now, after) = grind arith in
    let shorter = read_key-shorter l.reader (Some c.in-Some.name.now) after named in
    let shorter_yet = c.in_ok-answer.ensures.shorter in
    let less : length c.next_answer.new.reader < length l.reader = omega arith in
    less

pub returns-clause-ok : goal.returns-clause-ok
returns-clause-ok c =
    let l = c.members in
    let left = c.next_key.new.self in
    ap (parse_map answers) (l.invariant.3 ∙ members_over (value (most_depth + 1)) l.invariant.0 l.invariant.1 l.reader left l.invariant.2 (grind arith))
    ∙ ap (λ found. Some (found, left)) l.invariant.4
