-- The set and the list have the same paths.
use Rattle.std.proofs.Common.{◌≡◌, ◌++◌, ◌∷◌, [], map, true, false, sym, subst, ◌∙◌}
use Rattle.std.specs.List.{list_any}
use Rattle.std.specs.Ordering.{nat_cmp}
use Rattle.std.specs.Cmp.Lexicographic.{slice_cmp}
use Rattle.std.specs.BTreeMap.{is_at}
use Rattle.std.specs.String.{string_bytes}
use Rattle.cov_words.specs.Words.{is_among}
use Rattle.cov_words.specs.private.Known.{HaveSame}
use Rattle.cov_words.proofs.Known.{looked_up, both_put, known_already, put_last}
use Rattle.cov_words.proofs.sources.put.Goals as goal

pub returns-then-contains-clause-paths : goal.returns-then-contains-clause-paths
returns-then-contains-clause-paths c =
    let found : list_any (is_at (λ k. slice_cmp nat_cmp c.args.path (string_bytes k))) c.args.known.now.keys ≡ true =
    subst (λ p. list_any (is_at (λ k. slice_cmp nat_cmp p (string_bytes k))) c.args.known.now.keys ≡ true) c.as_str.ensures (sym c.contains.ensures ∙ c.if-contains.true) in
    known_already c.args.paths.now c.args.path (sym (c.requires c.args.path) ∙ sym (looked_up c.args.path c.args.known.now.keys) ∙ found)

pub returns-clause-paths : goal.returns-clause-paths
returns-clause-paths c =
    let missing : list_any (is_at (λ k. slice_cmp nat_cmp c.args.path (string_bytes k))) c.args.known.now.keys ≡ false =
    subst (λ p. list_any (is_at (λ k. slice_cmp nat_cmp p (string_bytes k))) c.args.known.now.keys ≡ false) c.as_str.ensures (sym c.contains.ensures ∙ c.if-contains.false) in
    let apart : is_among c.args.path c.args.paths.now ≡ false = sym (c.requires c.args.path) ∙ sym (looked_up c.args.path c.args.known.now.keys) ∙ missing in
    c.in_ok-push.ensures.ok ∙ put_last c.args.paths.now c.args.path apart

pub returns-clause-same : goal.returns-clause-same
returns-clause-same c =
    let key : string_bytes c.in_ok-key.key ≡ c.args.path = c.in_ok-key.ensures.ok ∙ c.as_str-2.ensures in
    subst (HaveSame (map string_bytes c.insert.new.self.keys)) (sym c.in_ok-push.ensures.ok)
    (subst (λ path. HaveSame (map string_bytes c.insert.new.self.keys) (c.args.paths.now ++ path ∷ [])) key
    (both_put c.args.known.now.keys c.insert.new.self.keys c.in_ok-key.key c.args.paths.now c.in_ok-insert.ensures.keys c.requires))
