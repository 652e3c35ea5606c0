-- What is merged has at each key what the files have there.
use Rattle.std.proofs.Common.{◌≡◌, ℕ, ◌+◌, ◌||◌, Bool, false, cond, List, [], ◌∷◌, map, Option, Some, None, Ok, refl, sym, ap, ◌∙◌}
use Rattle.std.specs.List.{list_any, sum_by, enumerate_from}
use Rattle.std.proofs.lemmas.List.Sums.{sum_by-cons}
use Rattle.cov_object.specs.declared.file.FileCoverage.{FileCoverage}
use Rattle.cov_object.specs.Files.{found}
use Rattle.cov_merge.specs.Kind.{Kind}
use Rattle.cov_merge.specs.Kinds.{statements, functions, branches}
use Rattle.cov_merge.specs.Entries.{entries_of, merged_entries}
use Rattle.cov_merge.specs.Files.{merged_file}
use Rattle.cov_merge.specs.Maps.{merged}
use Rattle.cov_merge.specs.Laws.{count_at, count_of, has_key, IsSummed, HasTheirKeys, with_path, IsMergedAt, AreByPath, AreMergedOnce}
use Rattle.cov_merge.proofs.KindsLemmas.{parts}
use Rattle.cov_remap.specs.Laws.{count_in, has_in}
use Rattle.cov_remap.proofs.Totals.{total}

-- ---- counts, keys, sums and tests are totals

-- what an entry adds to the count at a key
abbrev pub at_key : {T : Type 0} → Kind T → T → ℕ → T → ℕ
at_key kind key place entry = cond (kind.same entry key) (count_at place (kind.counts entry)) 0

pub count-total : {T : Type 0} (kind : Kind T) (key : T) (place : ℕ) (xs : List T) → count_of kind key place xs ≡ total 0 (λ a b. a + b) (at_key kind key place) xs
count-total kind key place [] = refl
count-total kind key place (x ∷ xs) = ap (λ n. at_key kind key place x + n) (count-total kind key place xs)

pub any-total : {X : Type 0} (p : X → Bool) (xs : List X) → list_any p xs ≡ total false (λ a b. a || b) p xs
any-total p [] = refl
any-total p (x ∷ xs) = ap (λ b. p x || b) (any-total p xs)

pub sum-total : {X : Type 0} (f : X → ℕ) (xs : List X) → sum_by f xs ≡ total 0 (λ a b. a + b) f xs
sum-total f [] = refl
sum-total f (x ∷ xs) = sum_by-cons f x xs ∙ ap (λ n. f x + n) (sum-total f xs)

-- ---- the entries of a merged file

without-numbers : {T : Type 0} (n : ℕ) (xs : List T) → map (λ entry. entry.1) (enumerate_from n xs) ≡ xs
without-numbers n [] = refl
without-numbers n (x ∷ xs) = ap (λ rest. x ∷ rest) (without-numbers (n + 1) xs)

pub record Own {T : Type 0} (kind : Kind T) (path : List ℕ) (files : List FileCoverage) (file : FileCoverage) : Type 0 where
  pub entries : List T
  pub merged : merged_entries kind path files ≡ Ok entries
  pub are : map (λ entry. entry.1) (kind.entries file) ≡ entries

abbrev pub HasOwn : {T : Type 0} → Kind T → Type 0
HasOwn kind = (path : List ℕ) (files : List FileCoverage) (file : FileCoverage) → merged_file path files ≡ Ok file → Own kind path files file

pub own_statements : HasOwn statements
own_statements path files file ok =
    let all = parts path files file ok in
    record {
      entries = all.own_statements;
      merged = all.statements_merged;
      are = ap (λ (x : FileCoverage). map (λ entry. entry.1) x.statements) (sym all.is) ∙ without-numbers 0 all.own_statements;
    }

pub own_functions : HasOwn functions
own_functions path files file ok =
    let all = parts path files file ok in
    record {
      entries = all.own_functions;
      merged = all.functions_merged;
      are = ap (λ (x : FileCoverage). map (λ entry. entry.1) x.functions) (sym all.is) ∙ without-numbers 0 all.own_functions;
    }

pub own_branches : HasOwn branches
own_branches path files file ok =
    let all = parts path files file ok in
    record {
      entries = all.own_branches;
      merged = all.branches_merged;
      are = ap (λ (x : FileCoverage). map (λ entry. entry.1) x.branches) (sym all.is) ∙ without-numbers 0 all.own_branches;
    }

some_none : {G : Type 0} (file : FileCoverage) → Some file ≡ None → G
some_none file e = cc

module _ {T : Type 0} (kind : Kind T) (summed : IsSummed kind) (keys : HasTheirKeys kind) (own : HasOwn kind) where
  -- files that are merged to one file have the same at each key
  pub record Alike (key : T) (files others : List FileCoverage) : Type 0 where
    pub counts : (place : ℕ) → count_of kind key place (entries_of kind files) ≡ count_of kind key place (entries_of kind others)
    pub has : has_key kind key (entries_of kind files) ≡ has_key kind key (entries_of kind others)

  pub alike : (path : List ℕ) (files others : List FileCoverage) (at : Option FileCoverage) → IsMergedAt path files at → IsMergedAt path others at → (key : T) → Alike key files others
  alike path [] [] at a b key = record { counts = λ place. refl; has = refl }
  alike path [] (o ∷ os) None a b key = absurd b
  alike path [] (o ∷ os) (Some x) a b key = some_none x a
  alike path (f ∷ fs) [] None a b key = absurd a
  alike path (f ∷ fs) [] (Some x) a b key = some_none x b
  alike path (f ∷ fs) (o ∷ os) None a b key = absurd a
  alike path (f ∷ fs) (o ∷ os) (Some x) a b key =
      let one = own path (f ∷ fs) x a in
      let two = own path (o ∷ os) x b in
      let same : one.entries ≡ two.entries = sym one.are ∙ two.are in
      record {
        counts = λ place. sym (summed path (f ∷ fs) one.entries one.merged key place) ∙ ap (count_of kind key place) same ∙ summed path (o ∷ os) two.entries two.merged key place;
        has = sym (keys path (f ∷ fs) one.entries one.merged key) ∙ ap (has_key kind key) same ∙ keys path (o ∷ os) two.entries two.merged key;
      }

  module _ (by_path : AreByPath) (again : AreMergedOnce) where
    -- what is merged has at each path what the files have there
    pub at-path : (files sums : List FileCoverage) → merged files ≡ Ok sums → (path : List ℕ) (key : T) → Alike key (with_path path sums) (with_path path files)
    at-path files sums ok path key =
        alike path (with_path path sums) (with_path path files) (found path sums) (by_path sums sums (again files sums ok) path) (by_path files sums ok path) key

    pub counts-merged : (files sums : List FileCoverage) → merged files ≡ Ok sums → (path : List ℕ) (key : T) (place : ℕ) → count_in kind path key place sums ≡ count_in kind path key place files
    counts-merged files sums ok path key place = (at-path files sums ok path key).counts place

    pub keys-merged : (files sums : List FileCoverage) → merged files ≡ Ok sums → (path : List ℕ) (key : T) → has_in kind path key sums ≡ has_in kind path key files
    keys-merged files sums ok path key = (at-path files sums ok path key).has
