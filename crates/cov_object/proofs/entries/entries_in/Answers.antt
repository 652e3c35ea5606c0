use Rattle.std.proofs.Common.{◌≡◌, [], Some, string_bytes, option_map, option_and_then, sym, ap, ◌∙◌, arith, rules}
use Rattle.std.specs.Ordering.{nat_cmp}
use Rattle.std.specs.BTreeMap.{insert_entry}
use Rattle.serde_json.specs.View.{view, members_view}
use Rattle.cov_object.specs.Read.{id_of, by_id}
use Rattle.cov_object.specs.private.ByMember.{kept, with_entry}
use Rattle.cov_object.proofs.KeptIds.{kept-with, next-found, all-found}
use Rattle.cov_object.proofs.entries.entries_in.Goals as goal

pub loop-key-init : goal.loop-key-init
loop-key-init g c = (Some [], sym c.new-found.ensures, search rules)

pub loop-key-preserved : goal.loop-key-preserved
loop-key-preserved g c =
    let l = c.loop-key in
    let o = l.invariant.0 in
    let key = string_bytes c.in-Some.key.now in
    let d = view c.in-Some.value.now in (
      option_and_then (λ id. option_map (λ os. insert_entry nat_cmp os id d) o) (id_of key),
      kept-with g.E.Entry.tells (id_of key) d o
          ∙ (λ i. with_entry (sym c.as_str.ensures.value i) (sym c.in_ok-entry.ensures i) (l.invariant.1 i))
          ∙ sym c.in_ok-found.ensures,
      next-found (id_of key) d (members_view c.next.new.self) o
          ∙ ap (λ es. option_and_then (by_id (members_view es)) o) (sym c.in-Some.ensures.steps)
          ∙ l.invariant.2,
    )

pub returns : goal.returns
returns g c =
    let l = c.loop-key in
    let end : l.key-iterator ≡ [] = grind arith in
    sym l.invariant.1
    ∙ ap (option_map (kept g.E.Entry.tells)) (all-found l.invariant.0 ∙ ap (λ es. option_and_then (by_id (members_view es)) l.invariant.0) (sym end) ∙ l.invariant.2)
