use Rattle.std.proofs.Common.{◌≡◌, ◌-◌, ◌<◌, length, Some, refl, sym, ap, ◌∙◌, arith}
use Rattle.json.specs.Json.{parse_map, read_key, value}
use Rattle.json.proofs.Grammar.{read_key-shorter}
use Rattle.serde_json.specs.Data.{no_members, put}
use Rattle.cov_object.specs.SourceMapText.{most_depth}
use Rattle.cov_object.specs.private.ByMember.{entries_kept, with_entry}
use Rattle.cov_object.proofs.JsonValue.{data_of, member_read, member_refused, key_refused, members_over}
use Rattle.cov_object.proofs.ByFile.{parse_map-some}
use Rattle.cov_object.proofs.KeptIds.{kept-put}
use Rattle.cov_object.proofs.ReadText.{AreSorted-put}
use Rattle.cov_object.proofs.by_member.next_numbered.Goals as goal

pub members-init : goal.members-init
members-init g c = (length c.args.reader.now, no_members, omega arith, refl, sym c.new-found.ensures, tt, omega arith)

pub returns-in_err-name-clause-err : goal.returns-in_err-name-clause-err
returns-in_err-name-clause-err g c refused =
    let l = c.members in
    l.invariant.3 ∙ key_refused (value (most_depth - 1)) l.invariant.0 l.invariant.1 l.reader c.in_err-name.ensures.value

pub returns-in_err-entry-clause-err : goal.returns-in_err-entry-clause-err
returns-in_err-entry-clause-err g c refused =
    let l = c.members in
    let k = c.in-Some.name.now in
    let after = c.next_key.new.self in
    let named : read_key l.reader ≡ Some (Some k, after) = grind arith in
    l.invariant.3 ∙ member_refused (value (most_depth - 1)) l.invariant.0 k l.invariant.1 l.reader after named (c.next_entry.ensures.err (grind arith))

pub members-preserved : goal.members-preserved
members-preserved g c =
    let l = c.members in
    let n = l.invariant.0 in
    let old = l.invariant.1 in
    let k = c.in-Some.name.now in
    let after = c.next_key.new.self in
    let named : read_key l.reader ≡ Some (Some k, after) = grind arith in
    let left = c.next_entry.new.reader in
    let entry = c.in_ok-entry.entry in
    let read = parse_map-some g.E.Entry.tells (data_of (value (most_depth - 1)) after) entry left c.in_ok-entry.ensures.ok in
    let d = read.0 in
    let shorter = read_key-shorter l.reader (Some k) after named in
    let shorter_yet = c.in_ok-entry.ensures.shorter in (
      n - 1,
      put k d old,
      omega (arith, l.invariant.2),
      l.invariant.3 ∙ member_read (value (most_depth - 1)) n k old l.reader after left d (omega (arith, l.invariant.2)) named read.1,
      kept-put g.E.Entry.tells k d old l.invariant.5
          ∙ (λ i. with_entry k (read.2 i) (l.invariant.4 i))
          ∙ sym c.in_ok-found.ensures,
      AreSorted-put k d old l.invariant.5,
      omega (arith, l.invariant.6),
    )

pub members-smaller : goal.members-smaller
members-smaller g c =
    let l = c.members in
    let after = c.next_key.new.self in
    let named : read_key l.reader ≡ Some (Some c.in-Some.name.now, after) = grind arith in
    let shorter = read_key-shorter l.reader (Some c.in-Some.name.now) after named in
    let shorter_yet = c.in_ok-entry.ensures.shorter in
    let less : length c.next_entry.new.reader < length l.reader = omega arith in
    less

pub returns-clause-ok : goal.returns-clause-ok
returns-clause-ok g c =
    let l = c.members in
    let left = c.next_key.new.self in
    ap (parse_map (entries_kept g.E.Entry.tells)) (l.invariant.3 ∙ members_over (value (most_depth - 1)) l.invariant.0 l.invariant.1 l.reader left l.invariant.2 (grind arith))
    ∙ ap (λ found. Some (found, left)) l.invariant.4
