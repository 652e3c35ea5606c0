use Rattle.std.proofs.Common.{◌≡◌, ◌++◌, ◌∷◌, [], Ok, string_bytes, string_cmp, ap, ◌∙◌, sym, subst, append_assoc, rules}
use Rattle.std.specs.List.Sorted.{IsStrictlySortedBy}
use Rattle.std.specs.Map.{keys_of}
use Rattle.cov_object.specs.private.ByFile.{answered, all_or_first, AreUnderTheirKeys}
use Rattle.cov_object.proofs.ByFile.{Entry, paths, with_before, placed-last, all_or_first-more, paths-more, key-own}
use Rattle.cov_object.proofs.by_file.all_files.Goals as goal

pub files-preserved : goal.files-preserved
files-preserved c =
    let l = c.files in
    let done = l.invariant.0 in
    let e : Entry = (c.in-Some.field-0-0, c.in-Some.answer) in
    let left = c.next.new.self in
    let file = c.in_ok-answer.field-0 in
    let key = string_bytes e.0 in
    let all : c.args.answers.entries ≡ done ++ e ∷ left = l.invariant.1 ∙ ap (λ es. done ++ es) c.in-Some.ensures.steps in
    let is : e.1 ≡ Ok file = search rules in
    let under : AreUnderTheirKeys (answered (e ∷ left)) = subst (λ es. AreUnderTheirKeys (answered es)) c.in-Some.ensures.steps l.invariant.4 in
    let own = key-own e.1 file key is under.0 in
    let ordered : IsStrictlySortedBy string_cmp (keys_of (done ++ e ∷ left)) = subst (λ es. IsStrictlySortedBy string_cmp (keys_of es)) all (search rules) in
    let placed : c.insert.new.self ≡ l.map ++ file ∷ [] = c.in_ok-insert.ensures.placed ∙ placed-last l.map file done e left ordered l.invariant.2 own in (
      done ++ e ∷ [],
      all ∙ sym (append_assoc done (e ∷ []) left),
      ap paths placed ∙ paths-more l.map file done e l.invariant.2 own,
      ap (λ fs. with_before fs (all_or_first (answered left))) placed
          ∙ all_or_first-more l.map file key e.1 (answered left) is
          ∙ ap (λ es. with_before l.map (all_or_first (answered es))) (sym c.in-Some.ensures.steps)
          ∙ l.invariant.3,
      under.1,
    )
