-- A step through the names of a scope: one more is in the table, and its clash is found.
use Rattle.std.proofs.Common.{◌≡◌, ◌∙◌, ap, subst, ℕ, ◌+◌, ◌<◌, length, get_or, drop, List, ◌∷◌, ◌++◌, append_assoc, bytes_eq, Bor, if◌then◌else◌}
use Rattle.std.proofs.lemmas.List.{drop_more}
use Rattle.std.specs.BTreeMap.{BTreeMap}
use Rattle.std.specs.List.{list_any}
use Rattle.js_scopes.specs.Declarations as D
use Rattle.js_scopes.specs.Scopes.{clash, repeated}
use Rattle.js_scopes.specs.declared.declarations.Declared as lent_name
use Rattle.js_scopes.specs.declared.fault.ScopeFault.{ScopeFault}
use Rattle.js_scopes.specs.declared.seen.Seen.{Seen}
use Rattle.js_scopes.specs.private.Plain.{plain_all, plain_name}
use Rattle.js_scopes.specs.private.Seen.{found_if, seen_among, seen_clashes, seen_in, with_binding}
use Rattle.js_scopes.proofs.Clashing.{seen_answers}

-- the table has what these declare, and with what is left all is found
abbrev pub Goes : BTreeMap (Bor (List ℕ)) Seen → (out : List ScopeFault) → (rest : List lent_name.Declared) → (all : List ScopeFault) → Type 0
Goes table out rest all = (before : List D.Declared) × ((q : List ℕ) → seen_in table q ≡ seen_among q before) × (out ++ repeated before (plain_all rest) ≡ all)

pub goes_on : (d : lent_name.Declared) (rest : List lent_name.Declared) (old new : BTreeMap (Bor (List ℕ)) Seen) (out after all : List ScopeFault)
    → ((q : List ℕ) → seen_in new q ≡ (if bytes_eq q d.name.now then with_binding d.how (seen_in old q) else seen_in old q))
    → after ≡ out ++ found_if (seen_clashes (seen_in old d.name.now) d.how) d.at
    → Goes old out (d ∷ rest) all → Goes new after rest all
goes_on d rest old new out after all noted found (names, same, left) =
    let clashes : seen_clashes (seen_in old d.name.now) d.how ≡ list_any (clash (plain_name d)) names =
    ap (λ s. seen_clashes s d.how) (same d.name.now) ∙ seen_answers (plain_name d) names in (
      plain_name d ∷ names,
      (λ q. noted q ∙ ap (λ s. if bytes_eq q d.name.now then with_binding d.how s else s) (same q)),
      ap (λ o. o ++ repeated (plain_name d ∷ names) (plain_all rest)) (found ∙ ap (λ b. out ++ found_if b d.at) clashes)
          ∙ append_assoc out (found_if (list_any (clash (plain_name d)) names) d.at) (repeated (plain_name d ∷ names) (plain_all rest)) ∙ left,
    )

pub goes_next : (names : List lent_name.Declared) (i : ℕ) (past : lent_name.Declared) (old new : BTreeMap (Bor (List ℕ)) Seen) (out after all : List ScopeFault)
    → i < length names
    → ((q : List ℕ) → seen_in new q ≡ (if bytes_eq q (get_or names i past).name.now then with_binding (get_or names i past).how (seen_in old q) else seen_in old q))
    → after ≡ out ++ found_if (seen_clashes (seen_in old (get_or names i past).name.now) (get_or names i past).how) (get_or names i past).at
    → Goes old out (drop i names) all → Goes new after (drop (i + 1) names) all
goes_next names i past old new out after all inside noted found goes =
    goes_on (get_or names i past) (drop (i + 1) names) old new out after all noted found
    (subst (λ rest. Goes old out rest all) (drop_more names i past inside) goes)
