-- The laws of merging, over whole maps.
use Rattle.std.proofs.Common.{◌≡◌, ℕ, nat_eq, Bool, true, false, cond, List, [], ◌∷◌, ◌++◌, map, fold, Option, Some, None, Ok, Err, refl, sym, ap, ◌∙◌, subst, append-nil, append_assoc}
use Rattle.std.specs.Option.{unwrap_or}
use Rattle.std.specs.Ordering.{nat_cmp, match_ordering, ordering_reverse, is_eq}
use Rattle.std.specs.declared.cmp.Ordering.{Ordering}
use Rattle.std.specs.declared.cmp.Ordering.TheVariants.{Less, Equal, Greater}
use Rattle.std.specs.Cmp.{Equal-is, eq_by_cmp_equiv, unsigned_tied}
use Rattle.std.specs.Cmp.Lexicographic.{slice_cmp}
use Rattle.std.specs.BTreeMap.{insert_entry, is_at}
use Rattle.std.specs.Map.{keys_of, lookup}
use Rattle.std.specs.List.{AllByRecursion, enumerate_from}
use Rattle.std.specs.List.Sorted.{IsStrictlySortedBy}
use Rattle.std.proofs.lemmas.Cmp.{nat_list_cmp_total}
use Rattle.std.proofs.lemmas.Map.Lookups.{exact_bytes}
use Rattle.cov_object.specs.declared.file.FileCoverage.{FileCoverage}
use Rattle.cov_object.specs.declared.file.StatementCoverage.{StatementCoverage}
use Rattle.cov_object.specs.declared.file.FunctionCoverage.{FunctionCoverage}
use Rattle.cov_object.specs.Branch.{BranchCoverage}
use Rattle.cov_object.specs.Files.{placed, found}
use Rattle.cov_merge.specs.declared.fault.MergeFault.{MergeFault}
use Rattle.cov_merge.specs.Answer.{and_then}
use Rattle.cov_merge.specs.Same.{same_text}
use Rattle.cov_merge.specs.Kinds.{statements, functions, branches}
use Rattle.cov_merge.specs.Entries.{merged_entries}
use Rattle.cov_merge.specs.Files.{merged_file, hash_of, source_map_of, or_else}
use Rattle.cov_merge.specs.Maps.{files_at, with_file, by_path, merged_groups, merged}
use Rattle.cov_merge.specs.Laws.{with_path, IsMergedAt, AreByPath, AreMergedOnce}
use Rattle.cov_merge.specs.private.Orders.{list_tells}
use Rattle.cov_merge.proofs.KindsLemmas.{Answer, good, made_file, parts, statements_again, functions_again, branches_again}

abbrev pub Path : Type 0
Path = List ℕ

abbrev pub Files : Type 0
Files = List FileCoverage

abbrev pub Group : Type 0
Group = Path × Files

abbrev pub order : Path → Path → Ordering
order a b = slice_cmp nat_cmp a b

abbrev pub Ascend : List Path → Type 0
Ascend paths = IsStrictlySortedBy (slice_cmp nat_cmp) paths

abbrev pub paths_of : Files → List Path
paths_of files = map (λ file. file.path) files

-- what stands at a path
abbrev pub at : Path → List Group → Option Files
at path groups = lookup (is_at (slice_cmp nat_cmp path)) groups

-- ---- the order of paths

clash : {G : Type 0} → true ≡ false → G
clash e = cc

pub same-path : (a b : Path) → is_eq (order a b) ≡ true → a ≡ b
same-path a b e = exact_bytes a b ((Equal-is (order a b)).0 e)

pub itself : (a : Path) → is_eq (order a a) ≡ true
itself a = (eq_by_cmp_equiv nat_list_cmp_total).refl a

pub back : (a b : Path) (o : Ordering) → order a b ≡ o → order b a ≡ ordering_reverse o
back a b o e = nat_list_cmp_total.antisymm b a ∙ ap ordering_reverse e

text-is : (a b : Path) → is_eq (order a b) ≡ same_text a b
text-is a b = list_tells nat_cmp nat_eq unsigned_tied a b

-- ---- the group at a path, after a group is put in

twice : {X : Type 0} (b : Bool) (x y z : X) → cond b x z ≡ cond b x (cond b y z)
twice true x y z = refl
twice false x y z = refl

either : {X : Type 0} (a b : Bool) (x y z : X) → (a ≡ true → b ≡ true → true ≡ false) → cond a x (cond b y z) ≡ cond b y (cond a x z)
either true true x y z never = clash (never refl refl)
either true false x y z never = refl
either false true x y z never = refl
either false false x y z never = refl

at-put-by : (o : Ordering) (g : Group) (gs : List Group) (p q : Path) (files : Files) → order p g.0 ≡ o → at q (insert_entry (slice_cmp nat_cmp) gs p files) ≡ cond (is_eq (order q p)) (Some files) (at q gs) →
    at q (match_ordering o ((p, files) ∷ g ∷ gs) ((g.0, files) ∷ gs) (g ∷ insert_entry (slice_cmp nat_cmp) gs p files)) ≡ cond (is_eq (order q p)) (Some files) (at q (g ∷ gs))
at-put-by Less g gs p q files e rest = refl
at-put-by Equal g gs p q files e rest =
    let same : p ≡ g.0 = exact_bytes p g.0 e in
    ap (λ k. cond (is_eq (order q k)) (Some files) (at q gs)) (sym same)
    ∙ twice (is_eq (order q p)) (Some files) (Some g.1) (at q gs)
    ∙ ap (λ k. cond (is_eq (order q p)) (Some files) (cond (is_eq (order q k)) (Some g.1) (at q gs))) same
at-put-by Greater g gs p q files e rest =
    ap (λ o. cond (is_eq (order q g.0)) (Some g.1) o) rest
    ∙ either (is_eq (order q g.0)) (is_eq (order q p)) (Some g.1) (Some files) (at q gs)
    (λ a b. sym (itself p) ∙ ap (λ k. is_eq (order p k)) (sym (same-path q p b) ∙ same-path q g.0 a) ∙ ap is_eq e)

pub at-put : (gs : List Group) (p q : Path) (files : Files) → at q (insert_entry (slice_cmp nat_cmp) gs p files) ≡ cond (is_eq (order q p)) (Some files) (at q gs)
at-put [] p q files = refl
at-put (g ∷ gs) p q files = at-put-by (order p g.0) g gs p q files refl (at-put gs p q files)

-- ---- the group at a path has the files with that path

-- these files, if there are any
abbrev some_of : Files → Option Files
some_of [] = None
some_of (file ∷ files) = Some (file ∷ files)

some-of-more : (files : Files) (file : FileCoverage) → Some (files ++ file ∷ []) ≡ some_of (files ++ file ∷ [])
some-of-more [] file = refl
some-of-more (first ∷ files) file = refl

some-of-all : (files : Files) → unwrap_or (some_of files) [] ≡ files
some-of-all [] = refl
some-of-all (first ∷ files) = refl

at-all-by : (b : Bool) (gs : List Group) (file : FileCoverage) (files so_far : Files) (path : Path) → is_eq (order path file.path) ≡ b → at path gs ≡ some_of so_far →
    ((next : List Group) (more : Files) → at path next ≡ some_of more → at path (fold with_file next files) ≡ some_of (more ++ with_path path files)) →
    at path (fold with_file (with_file gs file) files) ≡ some_of (so_far ++ cond b (file ∷ with_path path files) (with_path path files))
at-all-by true gs file files so_far path e is rest =
    let same : path ≡ file.path = same-path path file.path e in
    let all : files_at file.path gs ≡ so_far = ap (λ k. files_at k gs) (sym same) ∙ ap (λ o. unwrap_or o []) is ∙ some-of-all so_far in
    rest (with_file gs file) (so_far ++ file ∷ [])
    (
    at-put gs file.path path (files_at file.path gs ++ file ∷ [])
    ∙ ap (λ b. cond b (Some (files_at file.path gs ++ file ∷ [])) (at path gs)) e
    ∙ ap (λ some. Some (some ++ file ∷ [])) all
    ∙ some-of-more so_far file
    )
    ∙ ap some_of (append_assoc so_far (file ∷ []) (with_path path files))
at-all-by false gs file files so_far path e is rest =
    rest (with_file gs file) so_far
    (at-put gs file.path path (files_at file.path gs ++ file ∷ []) ∙ ap (λ b. cond b (Some (files_at file.path gs ++ file ∷ [])) (at path gs)) e ∙ is)

at-all : (gs : List Group) (files so_far : Files) (path : Path) → at path gs ≡ some_of so_far → at path (fold with_file gs files) ≡ some_of (so_far ++ with_path path files)
at-all gs [] so_far path is = is ∙ ap some_of (sym (append-nil so_far))
at-all gs (file ∷ files) so_far path is =
    at-all-by (is_eq (order path file.path)) gs file files so_far path refl is (λ next more h. at-all next files more path h)
    ∙ ap (λ b. some_of (so_far ++ cond b (file ∷ with_path path files) (with_path path files))) (text-is path file.path)

-- ---- groups ascend

all-put-by : (o : Ordering) (k : Path) (g : Group) (gs : List Group) (p : Path) (files : Files) → AllByRecursion (λ y. order k y ≡ Less) (keys_of (g ∷ gs)) → order k p ≡ Less →
    AllByRecursion (λ y. order k y ≡ Less) (keys_of (insert_entry (slice_cmp nat_cmp) gs p files)) →
    AllByRecursion (λ y. order k y ≡ Less) (keys_of (match_ordering o ((p, files) ∷ g ∷ gs) ((g.0, files) ∷ gs) (g ∷ insert_entry (slice_cmp nat_cmp) gs p files)))
all-put-by Less k g gs p files all own rest = (own, all)
all-put-by Equal k g gs p files all own rest = all
all-put-by Greater k g gs p files all own rest = (all.0, rest)

all-put : (k : Path) (gs : List Group) (p : Path) (files : Files) → AllByRecursion (λ y. order k y ≡ Less) (keys_of gs) → order k p ≡ Less →
    AllByRecursion (λ y. order k y ≡ Less) (keys_of (insert_entry (slice_cmp nat_cmp) gs p files))
all-put k [] p files all own = (own, tt)
all-put k (g ∷ gs) p files all own = all-put-by (order p g.0) k g gs p files all own (all-put k gs p files all.1 own)

pub all-above : (a b : Path) (ys : List Path) → order a b ≡ Less → AllByRecursion (λ y. order b y ≡ Less) ys → AllByRecursion (λ y. order a y ≡ Less) ys
all-above a b [] less all = tt
all-above a b (y ∷ ys) less all = (nat_list_cmp_total.trans a b y less all.0, all-above a b ys less all.1)

ascend-put-by : (o : Ordering) (g : Group) (gs : List Group) (p : Path) (files : Files) → order p g.0 ≡ o → Ascend (keys_of (g ∷ gs)) → Ascend (keys_of (insert_entry (slice_cmp nat_cmp) gs p files)) →
    Ascend (keys_of (match_ordering o ((p, files) ∷ g ∷ gs) ((g.0, files) ∷ gs) (g ∷ insert_entry (slice_cmp nat_cmp) gs p files)))
unfolding IsStrictlySortedBy
ascend-put-by Less g gs p files e up rest = ((e, all-above p g.0 (keys_of gs) e up.0), up)
ascend-put-by Equal g gs p files e up rest = up
ascend-put-by Greater g gs p files e up rest = (all-put g.0 gs p files up.0 (back p g.0 Greater e), rest)

pub ascend-put : (gs : List Group) (p : Path) (files : Files) → Ascend (keys_of gs) → Ascend (keys_of (insert_entry (slice_cmp nat_cmp) gs p files))
unfolding IsStrictlySortedBy
ascend-put [] p files up = (tt, tt)
ascend-put (g ∷ gs) p files up = ascend-put-by (order p g.0) g gs p files refl up (ascend-put gs p files up.1)

pub ascend-all : (gs : List Group) (files : Files) → Ascend (keys_of gs) → Ascend (keys_of (fold with_file gs files))
ascend-all gs [] up = up
ascend-all gs (file ∷ files) up = ascend-all (with_file gs file) files (ascend-put gs file.path (files_at file.path gs ++ file ∷ []) up)

pub none-ascend : Ascend []
unfolding IsStrictlySortedBy
none-ascend = tt

-- ---- files that stand last

among : (P : Path → Type 0) (xs : List Path) (y : Path) (ys : List Path) → AllByRecursion P (xs ++ y ∷ ys) → P y
among P [] y ys all = all.0
among P (x ∷ xs) y ys all = among P xs y ys all.1

-- paths before another are below it
pub all-before : (xs : List Path) (y : Path) (ys : List Path) → Ascend (xs ++ y ∷ ys) → AllByRecursion (λ x. order x y ≡ Less) xs
unfolding IsStrictlySortedBy
all-before [] y ys up = tt
all-before (x ∷ xs) y ys up = (among (λ k. order x k ≡ Less) xs y ys up.0, all-before xs y ys up.1)

pub placed-last : (files : Files) (file : FileCoverage) → AllByRecursion (λ x. order x file.path ≡ Less) (paths_of files) → placed file files ≡ files ++ file ∷ []
placed-last [] file all = refl
placed-last (other ∷ files) file all =
    ap (λ o. match_ordering o (file ∷ other ∷ files) (file ∷ files) (other ∷ placed file files)) (back other.path file.path Less all.0)
    ∙ ap (λ rest. other ∷ rest) (placed-last files file all.1)

pub paths-more : (files : Files) (file : FileCoverage) (p : Path) (ps : List Path) → file.path ≡ p → paths_of files ++ p ∷ ps ≡ paths_of (files ++ file ∷ []) ++ ps
paths-more [] file p ps own = ap (λ k. k ∷ ps) (sym own)
paths-more (other ∷ files) file p ps own = ap (λ rest. other.path ∷ rest) (paths-more files file p ps own)

-- ---- a merged map has the files of the groups, in their order

not_good : {G : Type 0} (fault : MergeFault) (sums : Files) → Err fault ≡ Ok sums → G
not_good fault sums e = cc

abbrev fine : Files → Answer Files
fine files = Ok files

same-fine : (a b : Files) → fine a ≡ fine b → a ≡ b
same-fine a b e = cc

abbrev pub AreMerged : List Group → Files → Type 0
AreMerged [] [] = Unit {0}
AreMerged [] (file ∷ files) = ⊥
AreMerged (g ∷ gs) [] = ⊥
AreMerged (g ∷ gs) (file ∷ files) = (merged_file g.0 g.1 ≡ Ok file) × AreMerged gs files

pub record Whole (so_far : Files) (gs : List Group) (sums : Files) : Type 0 where
  pub files : Files
  pub is : sums ≡ so_far ++ files
  pub each : AreMerged gs files

pub path-of : (path : Path) (files : Files) (file : FileCoverage) → merged_file path files ≡ Ok file → file.path ≡ path
path-of path files file ok = ap (λ (x : FileCoverage). x.path) (sym (parts path files file ok).is)

whole-by : (so_far : Files) (g : Group) (gs : List Group) (sums : Files) (r : Answer FileCoverage) → merged_file g.0 g.1 ≡ r → Ascend (paths_of so_far ++ keys_of (g ∷ gs)) →
    ((next : Files) → Ascend (paths_of next ++ keys_of gs) → merged_groups next gs ≡ Ok sums → Whole next gs sums) →
    and_then r (λ file. merged_groups (placed file so_far) gs) ≡ Ok sums → Whole so_far (g ∷ gs) sums
whole-by so_far g gs sums (Err fault) e up rest ok = not_good fault sums ok
whole-by so_far g gs sums (Ok file) e up rest ok =
    let own : file.path ≡ g.0 = path-of g.0 g.1 file e in
    let last : placed file so_far ≡ so_far ++ file ∷ [] =
    placed-last so_far file (subst (λ p. AllByRecursion (λ x. order x p ≡ Less) (paths_of so_far)) (sym own) (all-before (paths_of so_far) g.0 (keys_of gs) up)) in
    let next : Ascend (paths_of (so_far ++ file ∷ []) ++ keys_of gs) = subst Ascend (paths-more so_far file g.0 (keys_of gs) own) up in
    let more = rest (so_far ++ file ∷ []) next (ap (λ some. merged_groups some gs) (sym last) ∙ ok) in
    record {
      files = file ∷ more.files;
      is = more.is ∙ append_assoc so_far (file ∷ []) more.files;
      each = (e, more.each);
    }

pub whole : (so_far : Files) (gs : List Group) (sums : Files) → Ascend (paths_of so_far ++ keys_of gs) → merged_groups so_far gs ≡ Ok sums → Whole so_far gs sums
whole so_far [] sums up ok = record { files = []; is = sym (same-fine so_far sums ok) ∙ sym (append-nil so_far); each = tt }
whole so_far (g ∷ gs) sums up ok = whole-by so_far g gs sums (merged_file g.0 g.1) refl up (λ next ascend is. whole next gs sums ascend is) ok

-- ---- what is found at a path

abbrev IsAt : Path → Option Files → Option FileCoverage → Type 0
IsAt path None file = file ≡ None
IsAt path (Some files) None = ⊥
IsAt path (Some files) (Some file) = merged_file path files ≡ Ok file

found-by : (o : Ordering) (path : Path) (g : Group) (group : Option Files) (file : FileCoverage) (rest : Option FileCoverage) → order path g.0 ≡ o → merged_file g.0 g.1 ≡ Ok file → IsAt path group rest →
    IsAt path (cond (is_eq o) (Some g.1) group) (match_ordering o rest (Some file) rest)
found-by Less path g group file rest e ok others = others
found-by Equal path g group file rest e ok others = ap (λ k. merged_file k g.1) (exact_bytes path g.0 e) ∙ ok
found-by Greater path g group file rest e ok others = others

found-at : (path : Path) (gs : List Group) (files : Files) → AreMerged gs files → IsAt path (at path gs) (found path files)
found-at path [] [] each = refl
found-at path [] (file ∷ files) each = absurd each
found-at path (g ∷ gs) [] each = absurd each
found-at path (g ∷ gs) (file ∷ files) each =
    subst (λ k. IsAt path (at path (g ∷ gs)) (match_ordering (order path k) (found path files) (Some file) (found path files))) (sym (path-of g.0 g.1 file each.0))
    (found-by (order path g.0) path g (at path gs) file (found path files) refl each.0 (found-at path gs files each.1))

merged-at : (path : Path) (files : Files) (file : Option FileCoverage) → IsAt path (some_of files) file → IsMergedAt path files file
merged-at path [] file is = is
merged-at path (first ∷ files) None is = is
merged-at path (first ∷ files) (Some file) is = is

pub are_by_path : AreByPath
are_by_path files sums ok path =
    let all = whole [] (by_path files) sums (ascend-all [] files none-ascend) ok in
    merged-at path (with_path path files) (found path sums)
    (subst (λ some. IsAt path (some_of (with_path path files)) (found path some)) (sym all.is)
    (subst (λ group. IsAt path group (found path all.files)) (at-all [] files [] path refl) (found-at path (by_path files) all.files all.each)))

-- ---- merging again

map-alone : (text : Option (List ℕ)) → or_else text None ≡ text
map-alone None = refl
map-alone (Some text) = refl

-- a file with this hash and this source map
abbrev file_with : Path → List StatementCoverage → List FunctionCoverage → List BranchCoverage → Option (List ℕ) → Option (List ℕ) → FileCoverage
file_with path s f b hash text = record {
  path = path;
  hash = hash;
  input_source_map = text;
  statements = enumerate_from 0 s;
  functions = enumerate_from 0 f;
  branches = enumerate_from 0 b;
}

alone-is : (path : Path) (files : Files) (file : FileCoverage) (s : List StatementCoverage) (f : List FunctionCoverage) (b : List BranchCoverage) → made_file path files s f b ≡ file → made_file path (file ∷ []) s f b ≡ file
alone-is path files file s f b is =
    ap (λ hash. file_with path s f b hash (source_map_of (file ∷ []))) (ap (λ (x : FileCoverage). x.hash) (sym is))
    ∙ ap (file_with path s f b (hash_of files)) (map-alone file.input_source_map ∙ ap (λ (x : FileCoverage). x.input_source_map) (sym is))
    ∙ is

-- a merged file alone stays as it is
alone : (path : Path) (files : Files) (file : FileCoverage) → merged_file path files ≡ Ok file → merged_file path (file ∷ []) ≡ Ok file
alone path files file ok =
    let own = parts path files file ok in
    let all : files ++ [] ≡ files = append-nil files in
    let s : merged_entries statements path (file ∷ []) ≡ Ok own.own_statements = statements_again path files [] file ok ∙ ap (merged_entries statements path) all ∙ own.statements_merged in
    let f : merged_entries functions path (file ∷ []) ≡ Ok own.own_functions = functions_again path files [] file ok ∙ ap (merged_entries functions path) all ∙ own.functions_merged in
    let b : merged_entries branches path (file ∷ []) ≡ Ok own.own_branches = branches_again path files [] file ok ∙ ap (merged_entries branches path) all ∙ own.branches_merged in
    ap (λ r. and_then r (λ x. and_then (merged_entries functions path (file ∷ [])) (λ y. and_then (merged_entries branches path (file ∷ [])) (λ z. good (made_file path (file ∷ []) x y z))))) s
    ∙ ap (λ r. and_then r (λ y. and_then (merged_entries branches path (file ∷ [])) (λ z. good (made_file path (file ∷ []) own.own_statements y z)))) f
    ∙ ap (λ r. and_then r (λ z. good (made_file path (file ∷ []) own.own_statements own.own_functions z))) b
    ∙ ap good (alone-is path files file own.own_statements own.own_functions own.own_branches own.is)

abbrev IsAlone : FileCoverage → Type 0
IsAlone file = merged_file file.path (file ∷ []) ≡ Ok file

all-alone : (gs : List Group) (files : Files) → AreMerged gs files → AllByRecursion IsAlone files
all-alone [] [] each = tt
all-alone [] (file ∷ files) each = absurd each
all-alone (g ∷ gs) [] each = absurd each
all-alone (g ∷ gs) (file ∷ files) each = (
  ap (λ k. merged_file k (file ∷ [])) (path-of g.0 g.1 file each.0) ∙ alone g.0 g.1 file each.0,
  all-alone gs files each.1,
)

pub keys-are : (gs : List Group) (files : Files) → AreMerged gs files → keys_of gs ≡ paths_of files
keys-are [] [] each = refl
keys-are [] (file ∷ files) each = absurd each
keys-are (g ∷ gs) [] each = absurd each
keys-are (g ∷ gs) (file ∷ files) each =
    ap (λ k. k ∷ keys_of gs) (sym (path-of g.0 g.1 file each.0)) ∙ ap (λ rest. file.path ∷ rest) (keys-are gs files each.1)

-- a group of one file
abbrev pub single : FileCoverage → Group
single file = (file.path, file ∷ [])

none-at : (path : Path) (gs : List Group) → AllByRecursion (λ x. order x path ≡ Less) (keys_of gs) → at path gs ≡ None
none-at path [] all = refl
none-at path (g ∷ gs) all = ap (λ o. cond (is_eq o) (Some g.1) (at path gs)) (back g.0 path Less all.0) ∙ none-at path gs all.1

put-last : (path : Path) (files : Files) (gs : List Group) → AllByRecursion (λ x. order x path ≡ Less) (keys_of gs) → insert_entry (slice_cmp nat_cmp) gs path files ≡ gs ++ (path, files) ∷ []
put-last path files [] all = refl
put-last path files (g ∷ gs) all =
    ap (λ o. match_ordering o ((path, files) ∷ g ∷ gs) ((g.0, files) ∷ gs) (g ∷ insert_entry (slice_cmp nat_cmp) gs path files)) (back g.0 path Less all.0)
    ∙ ap (λ rest. g ∷ rest) (put-last path files gs all.1)

file-last : (gs : List Group) (file : FileCoverage) → AllByRecursion (λ x. order x file.path ≡ Less) (keys_of gs) → with_file gs file ≡ gs ++ single file ∷ []
file-last gs file all =
    ap (λ o. insert_entry (slice_cmp nat_cmp) gs file.path (unwrap_or o [] ++ file ∷ [])) (none-at file.path gs all)
    ∙ put-last file.path (file ∷ []) gs all

keys-more : (gs : List Group) (g : Group) (ps : List Path) → keys_of gs ++ g.0 ∷ ps ≡ keys_of (gs ++ g ∷ []) ++ ps
keys-more [] g ps = refl
keys-more (first ∷ gs) g ps = ap (λ rest. first.0 ∷ rest) (keys-more gs g ps)

-- files whose paths ascend are groups of one file each
pub all-single : (gs : List Group) (files : Files) → Ascend (keys_of gs ++ paths_of files) → fold with_file gs files ≡ gs ++ map single files
all-single gs [] up = sym (append-nil gs)
all-single gs (file ∷ files) up =
    ap (λ some. fold with_file some files) (file-last gs file (all-before (keys_of gs) file.path (paths_of files) up))
    ∙ all-single (gs ++ single file ∷ []) files (subst Ascend (keys-more gs (single file) (paths_of files)) up)
    ∙ append_assoc gs (single file ∷ []) (map single files)

-- which are merged to these files
merged-single : (so_far files : Files) → Ascend (paths_of so_far ++ paths_of files) → AllByRecursion IsAlone files → merged_groups so_far (map single files) ≡ Ok (so_far ++ files)
merged-single so_far [] up all = ap fine (sym (append-nil so_far))
merged-single so_far (file ∷ files) up all =
    ap (λ r. and_then r (λ one. merged_groups (placed one so_far) (map single files))) all.0
    ∙ ap (λ some. merged_groups some (map single files)) (placed-last so_far file (all-before (paths_of so_far) file.path (paths_of files) up))
    ∙ merged-single (so_far ++ file ∷ []) files (subst Ascend (paths-more so_far file file.path (paths_of files) refl) up) all.1
    ∙ ap fine (append_assoc so_far (file ∷ []) files)

once : (gs : List Group) (files : Files) → Ascend (keys_of gs) → AreMerged gs files → merged files ≡ Ok files
once gs files up each =
    let ascend : Ascend (paths_of files) = subst Ascend (keys-are gs files each) up in
    ap (merged_groups []) (all-single [] files ascend) ∙ merged-single [] files ascend (all-alone gs files each)

pub are_merged_once : AreMergedOnce
are_merged_once files sums ok =
    let up : Ascend (keys_of (by_path files)) = ascend-all [] files none-ascend in
    let all = whole [] (by_path files) sums up ok in
    ap merged all.is ∙ once (by_path files) all.files up all.each ∙ ap fine (sym all.is)
