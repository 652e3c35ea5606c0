-- The files of a map that has each under its path.
use Rattle.std.proofs.Common.{◌≡◌, ℕ, map, List, [], ◌∷◌, Option, Some, cond, is_eq, refl, sym, ap, ◌∙◌, String, string_bytes}
use Rattle.std.specs.Ordering.{nat_cmp, match_ordering}
use Rattle.std.specs.declared.cmp.Ordering.{Ordering}
use Rattle.std.specs.declared.cmp.Ordering.TheVariants.{Less, Equal, Greater}
use Rattle.std.specs.Cmp.Lexicographic.{slice_cmp}
use Rattle.std.specs.BTreeMap.{insert_entry, is_at}
use Rattle.std.specs.Map.{keys_of, values_of, lookup}
use Rattle.std.specs.List.{AllByRecursion}
use Rattle.std.specs.List.Sorted.{IsStrictlySortedBy}
use Rattle.std.specs.String.{string_cmp}
use Rattle.std.specs.declared.alloc.Global.{Global}
use Rattle.std.proofs.lemmas.Map.Lookups.{exact_bytes}
use Rattle.cov_object.specs.declared.file.FileCoverage.{FileCoverage}
use Rattle.cov_object.specs.Files.{placed, found, AreUnderTheirPaths, AreInOrder}

abbrev pub Entry : Type 0
Entry = String Global × FileCoverage

values_of-match : (o : Ordering) (xs ys zs : List Entry) → values_of (match_ordering o xs ys zs) ≡ match_ordering o (values_of xs) (values_of ys) (values_of zs)
values_of-match Less xs ys zs = refl
values_of-match Equal xs ys zs = refl
values_of-match Greater xs ys zs = refl

-- an entry put in is a file put in
pub values_of-insert : (es : List Entry) (key : String Global) (file : FileCoverage) → string_bytes key ≡ file.path → AreUnderTheirPaths es →
    values_of (insert_entry string_cmp es key file) ≡ placed file (values_of es)
values_of-insert [] key file own all = refl
values_of-insert (e ∷ es) key file own all =
    values_of-match (string_cmp key e.0) ((key, file) ∷ e ∷ es) ((e.0, file) ∷ es) (e ∷ insert_entry string_cmp es key file)
    ∙ ap (λ rest. match_ordering (string_cmp key e.0) (file ∷ e.1 ∷ values_of es) (file ∷ values_of es) (e.1 ∷ rest)) (values_of-insert es key file own all.1)
    ∙ ap (λ o. match_ordering o (file ∷ e.1 ∷ values_of es) (file ∷ values_of es) (e.1 ∷ placed file (values_of es)))
    (ap (λ xs. slice_cmp nat_cmp xs (string_bytes e.0)) own ∙ ap (λ ys. slice_cmp nat_cmp file.path ys) all.0)

own-match : (o : Ordering) (key : String Global) (file : FileCoverage) (e : Entry) (es more : List Entry) → o ≡ string_cmp key e.0 → string_bytes key ≡ file.path →
    AreUnderTheirPaths (e ∷ es) → AreUnderTheirPaths more → AreUnderTheirPaths (match_ordering o ((key, file) ∷ e ∷ es) ((e.0, file) ∷ es) (e ∷ more))
own-match Less key file e es more is own all rest = (own, all)
own-match Equal key file e es more is own all rest = (sym (exact_bytes (string_bytes key) (string_bytes e.0) (sym is)) ∙ own, all.1)
own-match Greater key file e es more is own all rest = (all.0, rest)

-- each still stands under its path
pub own-insert : (es : List Entry) (key : String Global) (file : FileCoverage) → string_bytes key ≡ file.path → AreUnderTheirPaths es →
    AreUnderTheirPaths (insert_entry string_cmp es key file)
own-insert [] key file own all = (own, tt)
own-insert (e ∷ es) key file own all = own-match (string_cmp key e.0) key file e es (insert_entry string_cmp es key file) refl own all (own-insert es key file own all.1)

cond-found : (o : Ordering) (file : FileCoverage) (rest other : Option FileCoverage) → rest ≡ other → cond (is_eq o) (Some file) rest ≡ match_ordering o other (Some file) other
cond-found Less file rest other e = e
cond-found Equal file rest other e = refl
cond-found Greater file rest other e = e

-- what a look-up finds is the file with that path
pub lookup-found : (path : List ℕ) (es : List Entry) → AreUnderTheirPaths es → lookup (is_at (λ k. slice_cmp nat_cmp path (string_bytes k))) es ≡ found path (values_of es)
lookup-found path [] all = refl
lookup-found path (e ∷ es) all =
    cond-found (slice_cmp nat_cmp path (string_bytes e.0)) e.1 _ _ (lookup-found path es all.1)
    ∙ ap (λ ys. match_ordering (slice_cmp nat_cmp path ys) (found path (values_of es)) (Some e.1) (found path (values_of es))) all.0

below : (k : String Global) (path : List ℕ) (es : List Entry) → string_bytes k ≡ path → AllByRecursion (λ y. string_cmp k y ≡ Less) (keys_of es) → AreUnderTheirPaths es →
    AllByRecursion (λ y. slice_cmp nat_cmp path y ≡ Less) (map (λ file. file.path) (values_of es))
below k path [] is h own = tt
below k path (e ∷ es) is h own = (
  sym (ap (λ xs. slice_cmp nat_cmp xs (string_bytes e.0)) is ∙ ap (λ ys. slice_cmp nat_cmp path ys) own.0) ∙ h.0,
  below k path es is h.1 own.1,
)

-- as the keys ascend, so do the files' paths
pub in_order : (es : List Entry) → IsStrictlySortedBy string_cmp (keys_of es) → AreUnderTheirPaths es → AreInOrder (values_of es)
unfolding IsStrictlySortedBy
in_order [] h own = tt
in_order (e ∷ es) h own = (below e.0 e.1.path es own.0 h.0 own.1, in_order es h.1 own.1)
