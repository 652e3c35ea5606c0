-- The name has what it had and one more, and every other name what it had.
use Rattle.std.proofs.Common.{◌≡◌, ◌∙◌, refl, ap, ℕ, Bool, true, false, cond, List, Option, Some, unwrap_or, bytes_eq, Bor, if◌then◌else◌, rules}
use Rattle.std.specs.BTreeMap.{BTreeMap, get_by}
use Rattle.std.specs.Cmp.Lexicographic.{slice_cmp, bytes_decides, nat_list_eq_equiv}
use Rattle.std.specs.Map.{update}
use Rattle.std.specs.Ordering.{nat_cmp}
use Rattle.std.proofs.lemmas.Map.Text.{btree_map_updates_str}
use Rattle.js_scopes.specs.declared.binding.Binding.{Binding}
use Rattle.js_scopes.specs.declared.seen.Seen.{Seen}
use Rattle.js_scopes.specs.private.Seen.{nothing_seen, seen_in, with_binding}
use Rattle.js_scopes.proofs.seen.note.Goals as goal

abbrev at : BTreeMap (Bor (List ℕ)) Seen → List ℕ → Option Seen
at table q = get_by (λ k. slice_cmp nat_cmp q k.now) table

noted_at : (name : List ℕ) (how : Binding) (old new : BTreeMap (Bor (List ℕ)) Seen) (put : Seen) → put ≡ with_binding how (seen_in old name)
    → ((q : List ℕ) → at new q ≡ update bytes_eq (at old) name (Some put) q)
    → (q : List ℕ) → seen_in new q ≡ (if bytes_eq q name then with_binding how (seen_in old q) else seen_in old q)
noted_at name how old new put is_put updated q = by (bytes_eq q name) refl
  where
    by : (same : Bool) → bytes_eq q name ≡ same → seen_in new q ≡ (if same then with_binding how (seen_in old q) else seen_in old q)
    by true is =
        let turned : bytes_eq name q ≡ true = nat_list_eq_equiv.symm name q ∙ is in
        let itself : name ≡ q = (bytes_decides name q).0 turned in
        ap (λ o. unwrap_or o nothing_seen) (updated q ∙ ap (λ b. cond b (Some put) (at old q)) turned)
        ∙ is_put ∙ ap (λ p. with_binding how (seen_in old p)) itself
    by false is =
        ap (λ o. unwrap_or o nothing_seen) (updated q ∙ ap (λ b. cond b (Some put) (at old q)) (nat_list_eq_equiv.symm name q ∙ is))

pub returns-clause-noted : goal.returns-clause-noted
returns-clause-noted c = λ q. noted_at c.args.name.now.name.now c.args.name.now.how c.args.table.now c.insert.new.self _ (search rules)
    (btree_map_updates_str c.args.name.now.name.now c.args.table.now c.insert.new.self _ c.in_ok-insert.ensures.updates) q
