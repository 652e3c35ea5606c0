use Rattle.std.proofs.Common.{◌≡◌, ◌-◌, ◌<◌, length, Some, refl, sym, ap, ◌∙◌, arith}
use Rattle.json.specs.Json.{read_key, value}
use Rattle.json.specs.Json.{parse_map}
use Rattle.json.proofs.Grammar.{read_key-shorter}
use Rattle.serde_json.specs.Data.{no_members, object, put}
use Rattle.cov_object.specs.SourceMapText.{most_depth}
use Rattle.cov_object.specs.private.ByMember.{parts_of, with_member}
use Rattle.cov_object.proofs.JsonValue.{data_of, member_read, member_refused, key_refused, members_over}
use Rattle.cov_object.proofs.ByFile.{parse_map-some}
use Rattle.cov_object.proofs.ByMember.{parts-put}
use Rattle.cov_object.proofs.by_member.next_parts.Goals as goal

pub members-init : goal.members-init
members-init c = (length c.args.reader.now, no_members, omega arith, refl, sym c.new-parts.ensures, omega arith)

pub returns-in_err-name-clause-err : goal.returns-in_err-name-clause-err
returns-in_err-name-clause-err c refused =
    let l = c.members in
    l.invariant.3 ∙ key_refused (value most_depth) l.invariant.0 l.invariant.1 l.reader c.in_err-name.ensures.value

pub returns-in_err-next_member-clause-err : goal.returns-in_err-next_member-clause-err
returns-in_err-next_member-clause-err c refused =
    let l = c.members in
    let k = c.in-Some.name.now in
    let after = c.next_key.new.self in
    let named : read_key l.reader ≡ Some (Some k, after) = grind arith in
    l.invariant.3 ∙ member_refused (value most_depth) l.invariant.0 k l.invariant.1 l.reader after named (c.next_member.ensures.err (grind arith))

pub members-preserved : goal.members-preserved
members-preserved c =
    let l = c.members in
    let n = l.invariant.0 in
    let old = l.invariant.1 in
    let key = c.args.key.now in
    let k = c.in-Some.name.now in
    let after = c.next_key.new.self in
    let named : read_key l.reader ≡ Some (Some k, after) = grind arith in
    let left = c.next_member.new.reader in
    let read = parse_map-some (λ d. with_member key k d l.parts) (data_of (value most_depth) after) c.next_member.new.parts left c.in_ok-next_member.ensures.ok in
    let d = read.0 in
    let shorter = read_key-shorter l.reader (Some k) after named in
    let shorter_yet = c.in_ok-next_member.ensures.shorter in (
      n - 1,
      put k d old,
      omega (arith, l.invariant.2),
      l.invariant.3 ∙ member_read (value most_depth) n k old l.reader after left d (omega (arith, l.invariant.2)) named read.1,
      parts-put key k d old ∙ ap (with_member key k d) l.invariant.4 ∙ read.2,
      omega (arith, l.invariant.5),
    )

pub members-smaller : goal.members-smaller
members-smaller c =
    let l = c.members in
    let after = c.next_key.new.self in
    let named : read_key l.reader ≡ Some (Some c.in-Some.name.now, after) = grind arith in
    let shorter = read_key-shorter l.reader (Some c.in-Some.name.now) after named in
    let shorter_yet = c.in_ok-next_member.ensures.shorter in
    let less : length c.next_member.new.reader < length l.reader = omega arith in
    less

pub returns-clause-ok : goal.returns-clause-ok
returns-clause-ok c =
    let l = c.members in
    let left = c.next_key.new.self in
    ap (parse_map (λ ms. parts_of c.args.key.now (object ms))) (l.invariant.3 ∙ members_over (value most_depth) l.invariant.0 l.invariant.1 l.reader left l.invariant.2 (grind arith))
    ∙ ap (λ parts. Some (parts, left)) l.invariant.4
