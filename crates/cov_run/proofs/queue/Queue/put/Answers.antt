-- The set and the list have the same paths, and the new one waits at the end.
use Rattle.std.proofs.Common.{◌≡◌, ◌≤◌, ◌++◌, ◌∷◌, [], length, true, false, length-append, sym, ap, subst, ◌∙◌, arith}
use Rattle.std.specs.List.{list_any}
use Rattle.std.specs.Ordering.{nat_cmp}
use Rattle.std.specs.Cmp.Lexicographic.{slice_cmp}
use Rattle.std.specs.BTreeMap.{is_at}
use Rattle.std.specs.String.{string_bytes}
use Rattle.cov_run.specs.Asked.{is_among, with_path}
use Rattle.cov_run.proofs.Known.{looked_up, both_put, known_already, put_last}
use Rattle.cov_run.proofs.queue.Queue.put.Goals as goal
use Rattle.cov_run.proofs.queue.Queue.put.Goals.{in-Ok, in-Err}

pub returns-then-contains : goal.returns-then-contains
returns-then-contains c =
    let path = string_bytes c.args.path in
    let found : list_any (is_at (λ k. slice_cmp nat_cmp path (string_bytes k))) c.self.inside.known.keys ≡ true =
    subst (λ p. list_any (is_at (λ k. slice_cmp nat_cmp p (string_bytes k))) c.self.inside.known.keys ≡ true) c.as_str.ensures.value (sym c.contains.ensures ∙ c.if-contains.true) in
    let among : is_among path c.self.inside.order.items ≡ true = sym (c.self.invariant.1 path) ∙ sym (looked_up path c.self.inside.known.keys) ∙ found in
    subst (λ a. a ≡ with_path a path) c.self.view_is (known_already c.self.inside.order.items c.self.inside.read path among)

pub invariant_of-self-in-Ok : goal.invariant_of-self-in-Ok
invariant_of-self-in-Ok c =
    let path = string_bytes c.args.path in
    let pushed : c.push.new.self.items ≡ c.self.inside.order.items ++ path ∷ [] =
    c.in_ok-push.ensures.items ∙ ap (λ text. c.self.inside.order.items ++ text ∷ []) (c.in_ok-copy.ensures ∙ c.as_str-2.ensures.value) in (
      subst (λ items. c.self.inside.read ≤ length items) (sym pushed) (omega (arith, c.self.invariant.0, length-append c.self.inside.order.items (path ∷ []))),
      λ other. both_put c.self.inside.known.keys c.insert.new.self.keys c.args.path c.self.inside.order.items c.in-Ok.ensures.keys c.self.invariant.1 other ∙ ap (is_among other) (sym pushed),
    )

pub returns : goal.returns
returns c =
    let path = string_bytes c.args.path in
    let missing : list_any (is_at (λ k. slice_cmp nat_cmp path (string_bytes k))) c.self.inside.known.keys ≡ false =
    subst (λ p. list_any (is_at (λ k. slice_cmp nat_cmp p (string_bytes k))) c.self.inside.known.keys ≡ false) c.as_str.ensures.value (sym c.contains.ensures ∙ c.if-contains.false) in
    let apart : is_among path c.self.inside.order.items ≡ false = sym (c.self.invariant.1 path) ∙ sym (looked_up path c.self.inside.known.keys) ∙ missing in
    let pushed : c.push.new.self.items ≡ c.self.inside.order.items ++ path ∷ [] =
    c.in_ok-push.ensures.items ∙ ap (λ text. c.self.inside.order.items ++ text ∷ []) (c.in_ok-copy.ensures ∙ c.as_str-2.ensures.value) in
    elim c.match-insert.branch [
      | in-Ok w ↦ rw w.result-is (w.self-is ∙ put_last c.self.inside.order.items c.push.new.self.items c.self.inside.read path c.self.invariant.0 pushed apart ∙ ap (λ a. with_path a path) c.self.view_is)
      | in-Err w ↦ rw w.result-is tt
    ]
