use Rattle.std.proofs.Common.{◌≡◌, ◌<◌, [], ◌∷◌, ◌++◌, Some, None, cond, length, sym, ap, ◌∙◌, arith, rules}
use Rattle.std.specs.Ordering.{is_eq}
use Rattle.cov_merge.specs.private.Table.{tallies_of, place_of}
use Rattle.cov_merge.proofs.Places.{place-bound, place-added_at, place-new, added-new, added-found, length-tallies_of, tallies_of-more}
use Rattle.cov_merge.proofs.table.add.Goals as goal

pub add_at-requires : goal.add_at-requires
add_at-requires g c =
    let kind = g.T.Counted.kind in
    let tallies = tallies_of c.args.tallies.now.items in
    let found : place_of (λ tally. kind.same tally.0 c.args.entry.now) tallies ≡ Some c.in-Some.place =
    sym (c.requires (record { 0 = c.args.entry })) ∙ sym c.get.ensures.value ∙ sym c.copied.ensures ∙ c.in-Some.is in
    let below : c.in-Some.place < length tallies = place-bound (λ tally. kind.same tally.0 c.args.entry.now) tallies c.in-Some.place found in
    let long : length tallies ≡ length c.args.tallies.now.items = length-tallies_of c.args.tallies.now.items in
    omega arith

pub returns-in-Some-clause-found : goal.returns-in-Some-clause-found
returns-in-Some-clause-found g c key =
    let kind = g.T.Counted.kind in
    let tallies = tallies_of c.args.tallies.now.items in
    c.requires key
    ∙ sym (place-added_at kind key.0.now tallies c.in-Some.place (kind.counts c.args.entry.now))
    ∙ ap (place_of (λ tally. kind.same tally.0 key.0.now)) (sym c.add_at.ensures)

pub returns-in-Some-clause-added : goal.returns-in-Some-clause-added
returns-in-Some-clause-added g c =
    let kind = g.T.Counted.kind in
    let entry = c.args.entry.now in
    let tallies = tallies_of c.args.tallies.now.items in
    let found : place_of (λ tally. kind.same tally.0 entry) tallies ≡ Some c.in-Some.place =
    sym (c.requires (record { 0 = c.args.entry })) ∙ sym c.get.ensures.value ∙ sym c.copied.ensures ∙ c.in-Some.is in
    c.add_at.ensures ∙ sym (added-found kind entry tallies c.in-Some.place found)

pub returns-in_ok-push-in-None-clause-added : goal.returns-in_ok-push-in-None-clause-added
returns-in_ok-push-in-None-clause-added g c =
    let kind = g.T.Counted.kind in
    let entry = c.args.entry.now in
    let tallies = tallies_of c.args.tallies.now.items in
    let none : place_of (λ tally. kind.same tally.0 entry) tallies ≡ None =
    sym (c.requires (record { 0 = c.args.entry })) ∙ sym c.get.ensures.value ∙ sym c.copied.ensures ∙ c.in-None.is in
    ap tallies_of c.in_ok-push-in-None.ensures.items
    ∙ tallies_of-more c.args.tallies.now.items (record { entry = c.args.entry; sums = c.in_ok-sums-in-None.sums })
    ∙ ap (λ counts. tallies ++ (entry, counts) ∷ []) c.in_ok-sums-in-None.ensures
    ∙ sym (added-new kind entry tallies none)

pub returns-in_ok-push-in-None-clause-found : goal.returns-in_ok-push-in-None-clause-found
returns-in_ok-push-in-None-clause-found g c key =
    let kind = g.T.Counted.kind in
    let order = g.T.Counted.order in
    let entry = c.args.entry.now in
    let tallies = tallies_of c.args.tallies.now.items in
    let sums = c.in_ok-sums-in-None.sums in
    let none : place_of (λ tally. kind.same tally.0 entry) tallies ≡ None =
    sym (c.requires (record { 0 = c.args.entry })) ∙ sym c.get.ensures.value ∙ sym c.copied.ensures ∙ c.in-None.is in
    let counted : c.len-place.result ≡ length c.args.tallies.now.items = search rules in
    let place : c.len-place.result ≡ length tallies = counted ∙ sym (length-tallies_of c.args.tallies.now.items) in
    c.in_ok-insert-in-None.ensures.updates.0 key
    ∙ ap (λ old. cond (is_eq (order entry key.0.now)) (Some c.len-place.result) old) (c.requires key)
    ∙ ap (λ n. cond (is_eq (order entry key.0.now)) (Some n) (place_of (λ tally. kind.same tally.0 key.0.now) tallies)) place
    ∙ place-new kind order g.met.T.Counted.total g.met.T.Counted.tells tallies entry key.0.now sums.items none
    ∙ ap (place_of (λ tally. kind.same tally.0 key.0.now))
    (sym (ap tallies_of c.in_ok-push-in-None.ensures.items ∙ tallies_of-more c.args.tallies.now.items (record { entry = c.args.entry; sums = sums })))
