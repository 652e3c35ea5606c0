-- The names of a file are strictly sorted by their bytes.
use Rattle.std.proofs.Common.{◌≡◌, ◌∙◌, ap, refl, List, [], ◌∷◌}
use Rattle.std.specs.Prelude.{ℕ}
use Rattle.std.specs.List.{AllByRecursion}
use Rattle.std.specs.List.Sorted.{IsStrictlySortedBy}
use Rattle.std.specs.Ordering.{nat_cmp, match_ordering, ordering_reverse}
use Rattle.std.specs.declared.cmp.Ordering.{Ordering}
use Rattle.std.specs.declared.cmp.Ordering.TheVariants.{Less, Equal, Greater}
use Rattle.std.specs.Cmp.Lexicographic.{slice_cmp}
use Rattle.std.proofs.lemmas.Cmp.{nat_list_cmp_total}
use Rattle.js_scopes.specs.Names.{with_name, with_mention, with_mentions, names_of}
use Rattle.js_scopes.specs.declared.mention.Mention.{Mention}
use Rattle.js_scopes.specs.declared.mention.Mention.TheVariants as mention

abbrev by_bytes : List ℕ → List ℕ → Ordering
by_bytes = slice_cmp nat_cmp

-- each of the names is after x
abbrev AllAfter : List ℕ → List (List ℕ) → Type 0
AllAfter x names = AllByRecursion (λ y. by_bytes x y ≡ Less) names

after_with_name : (x : List ℕ) (names : List (List ℕ)) (name : List ℕ) → AllAfter x names → by_bytes x name ≡ Less → AllAfter x (with_name names name)
after_with_name x [] name all less = (less, tt)
after_with_name x (y ∷ ys) name all less = by (by_bytes name y) (after_with_name x ys name all.1 less)
  where
    by : (o : Ordering) → AllAfter x (with_name ys name) → AllAfter x (match_ordering o (name ∷ y ∷ ys) (y ∷ ys) (y ∷ with_name ys name))
    by Less rest = (less, all)
    by Equal rest = all
    by Greater rest = (all.0, rest)

after_less : (name x : List ℕ) (names : List (List ℕ)) → by_bytes name x ≡ Less → AllAfter x names → AllAfter name names
after_less name x [] less all = tt
after_less name x (y ∷ ys) less all = (nat_list_cmp_total.trans name x y less all.0, after_less name x ys less all.1)

sorted_with_name : (names : List (List ℕ)) (name : List ℕ) → IsStrictlySortedBy by_bytes names → IsStrictlySortedBy by_bytes (with_name names name)
unfolding IsStrictlySortedBy
sorted_with_name [] name sorted = (tt, tt)
sorted_with_name (x ∷ xs) name sorted = by (by_bytes name x) refl (sorted_with_name xs name sorted.1)
  where
    by : (o : Ordering) → by_bytes name x ≡ o → IsStrictlySortedBy by_bytes (with_name xs name)
        → IsStrictlySortedBy by_bytes (match_ordering o (name ∷ x ∷ xs) (x ∷ xs) (x ∷ with_name xs name))
    by Less less rest = ((less, after_less name x xs less sorted.0), sorted)
    by Equal equal rest = sorted
    by Greater greater rest = (after_with_name x xs name sorted.0 (nat_list_cmp_total.antisymm x name ∙ ap ordering_reverse greater), rest)

sorted_with_mention : (names : List (List ℕ)) (x : Mention) → IsStrictlySortedBy by_bytes names → IsStrictlySortedBy by_bytes (with_mention names x)
sorted_with_mention names (mention.Variable _ name) sorted = sorted_with_name names name sorted
sorted_with_mention names (mention.Label _ name) sorted = sorted_with_name names name sorted
sorted_with_mention names (mention.Member name) sorted = sorted_with_name names name sorted
sorted_with_mention names (mention.Required _) sorted = sorted

sorted_with_mentions : (names : List (List ℕ)) (mentions : List Mention) → IsStrictlySortedBy by_bytes names → IsStrictlySortedBy by_bytes (with_mentions names mentions)
sorted_with_mentions names [] sorted = sorted
sorted_with_mentions names (x ∷ xs) sorted = sorted_with_mentions (with_mention names x) xs (sorted_with_mention names x sorted)

pub names_sorted : (mentions : List Mention) → IsStrictlySortedBy (slice_cmp nat_cmp) (names_of mentions)
unfolding IsStrictlySortedBy
names_sorted mentions = sorted_with_mentions [] mentions tt
