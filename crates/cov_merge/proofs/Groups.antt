-- Files by their paths: the map's entries, and the list of groups that they are.
use Rattle.std.proofs.Common.{◌≡◌, ℕ, Bor, List, [], ◌∷◌, ◌++◌, Bool, true, false, cond, map, Option, Some, None, Vec, refl, sym, ap, ◌∙◌}
use Rattle.std.specs.Option.{option_map, unwrap_or}
use Rattle.std.specs.Ordering.{nat_cmp, match_ordering, is_eq}
use Rattle.std.specs.declared.cmp.Ordering.{Ordering}
use Rattle.std.specs.declared.cmp.Ordering.TheVariants.{Less, Equal, Greater}
use Rattle.std.specs.declared.alloc.Global.{Global}
use Rattle.std.specs.Cmp.Lexicographic.{slice_cmp}
use Rattle.std.specs.BTreeMap.{BTreeMap, insert_entry, is_at}
use Rattle.std.specs.Map.{keys_of, lookup, set_value}
use Rattle.std.specs.List.{AllByRecursion}
use Rattle.std.specs.List.Sorted.{IsStrictlySortedBy}
use Rattle.std.proofs.lemmas.Cmp.{nat_list_cmp_total}
use Rattle.cov_object.specs.declared.file.FileCoverage.{FileCoverage}
use Rattle.cov_merge.specs.Maps.{files_at, with_file}
use Rattle.cov_merge.specs.private.Groups.{groups_of}

abbrev Path : Type 0
Path = Bor (List ℕ)

abbrev Files : Type 0
Files = Vec (Bor FileCoverage) Global

abbrev Entry : Type 0
Entry = Path × Files

abbrev path_cmp : Path → Path → Ordering
path_cmp x y = slice_cmp nat_cmp x.now y.now

-- a map's entries with one more
abbrev pub put_in : Path → Files → BTreeMap Path Files → List Entry
put_in path files map = insert_entry path_cmp map.entries path files

-- the files themselves
abbrev now_of : Files → List FileCoverage
now_of files = map (λ file. file.now) files.items

match-groups : (o : Ordering) (xs ys zs : List Entry) → groups_of (match_ordering o xs ys zs) ≡ match_ordering o (groups_of xs) (groups_of ys) (groups_of zs)
match-groups Less xs ys zs = refl
match-groups Equal xs ys zs = refl
match-groups Greater xs ys zs = refl

-- an entry put in is a group put in
insert-groups : (es : List Entry) (path : Path) (files : Files) → groups_of (insert_entry path_cmp es path files) ≡ insert_entry (slice_cmp nat_cmp) (groups_of es) path.now (now_of files)
insert-groups [] path files = refl
insert-groups (e ∷ es) path files =
    match-groups (path_cmp path e.0) ((path, files) ∷ e ∷ es) ((e.0, files) ∷ es) (e ∷ insert_entry path_cmp es path files)
    ∙ ap (λ rest. match_ordering (path_cmp path e.0) ((path.now, now_of files) ∷ groups_of (e ∷ es)) ((e.0.now, now_of files) ∷ groups_of es) ((e.0.now, now_of e.1) ∷ rest)) (insert-groups es path files)

cond-map : (b : Bool) (files : Files) (o : Option Files) → cond b (Some (now_of files)) (option_map now_of o) ≡ option_map now_of (cond b (Some files) o)
cond-map true files o = refl
cond-map false files o = refl

-- what a look-up finds is the group
lookup-groups : (es : List Entry) (path : Path) → lookup (is_at (slice_cmp nat_cmp path.now)) (groups_of es) ≡ option_map now_of (lookup (is_at (path_cmp path)) es)
lookup-groups [] path = refl
lookup-groups (e ∷ es) path =
    ap (λ o. cond (is_eq (path_cmp path e.0)) (Some (now_of e.1)) o) (lookup-groups es path)
    ∙ cond-map (is_eq (path_cmp path e.0)) e.1 (lookup (is_at (path_cmp path)) es)

-- a path below all has no entry
none-below : (es : List Entry) (path first : Path) → path_cmp path first ≡ Less → AllByRecursion (λ y. path_cmp first y ≡ Less) (keys_of es) → lookup (is_at (path_cmp path)) es ≡ None
none-below [] path first less all = refl
none-below (e ∷ es) path first less all =
    ap (λ o. cond (is_eq o) (Some e.1) (lookup (is_at (path_cmp path)) es)) (nat_list_cmp_total.trans path.now first.now e.0.now less all.0)
    ∙ none-below es path first less all.1

not_none : {G : Type 0} (old : Files) → Some old ≡ None → G
not_none old e = cc

set-by : (o : Ordering) (e : Entry) (es : List Entry) (path : Path) (old files : Files) → path_cmp path e.0 ≡ o → AllByRecursion (λ y. path_cmp e.0 y ≡ Less) (keys_of es) → lookup (is_at (path_cmp path)) (e ∷ es) ≡ Some old →
    (lookup (is_at (path_cmp path)) es ≡ Some old → groups_of (set_value (is_at (path_cmp path)) es files) ≡ insert_entry (slice_cmp nat_cmp) (groups_of es) path.now (now_of files)) →
    groups_of (set_value (is_at (path_cmp path)) (e ∷ es) files) ≡ insert_entry (slice_cmp nat_cmp) (groups_of (e ∷ es)) path.now (now_of files)
set-by Less e es path old files is all there rest =
    not_none old (sym there ∙ ap (λ o. cond (is_eq o) (Some e.1) (lookup (is_at (path_cmp path)) es)) is ∙ none-below es path e.0 is all)
set-by Equal e es path old files is all there rest =
    ap (λ o. groups_of (cond (is_eq o) ((e.0, files) ∷ es) (e ∷ set_value (is_at (path_cmp path)) es files))) is
    ∙ ap (λ o. match_ordering o ((path.now, now_of files) ∷ groups_of (e ∷ es)) ((e.0.now, now_of files) ∷ groups_of es) ((e.0.now, now_of e.1) ∷ insert_entry (slice_cmp nat_cmp) (groups_of es) path.now (now_of files))) (sym is)
set-by Greater e es path old files is all there rest =
    ap (λ o. groups_of (cond (is_eq o) ((e.0, files) ∷ es) (e ∷ set_value (is_at (path_cmp path)) es files))) is
    ∙ ap (λ more. (e.0.now, now_of e.1) ∷ more) (rest (ap (λ o. cond (is_eq o) (Some e.1) (lookup (is_at (path_cmp path)) es)) (sym is) ∙ there))
    ∙ ap (λ o. match_ordering o ((path.now, now_of files) ∷ groups_of (e ∷ es)) ((e.0.now, now_of files) ∷ groups_of es) ((e.0.now, now_of e.1) ∷ insert_entry (slice_cmp nat_cmp) (groups_of es) path.now (now_of files))) (sym is)

-- a value written over is a group put in its place
set-groups : (es : List Entry) (path : Path) (old files : Files) → IsStrictlySortedBy path_cmp (keys_of es) → lookup (is_at (path_cmp path)) es ≡ Some old →
    groups_of (set_value (is_at (path_cmp path)) es files) ≡ insert_entry (slice_cmp nat_cmp) (groups_of es) path.now (now_of files)
unfolding IsStrictlySortedBy
set-groups [] path old files ordered there = not_none old (sym there)
set-groups (e ∷ es) path old files ordered there = set-by (path_cmp path e.0) e es path old files refl ordered.0 there (λ later. set-groups es path old files ordered.1 later)

now-more : (xs : List (Bor FileCoverage)) (x : Bor FileCoverage) → map (λ file. file.now) (xs ++ x ∷ []) ≡ map (λ file. file.now) xs ++ x.now ∷ []
now-more [] x = refl
now-more (y ∷ ys) x = ap (λ rest. y.now ∷ rest) (now-more ys x)

-- a file after the others at its path
pub add-there : (es after : List Entry) (path : Path) (old files : Files) (file : Bor FileCoverage) → IsStrictlySortedBy path_cmp (keys_of es) → lookup (is_at (path_cmp path)) es ≡ Some old →
    path.now ≡ file.now.path → after ≡ set_value (is_at (path_cmp path)) es files → files.items ≡ old.items ++ file ∷ [] → groups_of after ≡ with_file (groups_of es) file.now
add-there es after path old files file ordered there own written more =
    let at : files_at path.now (groups_of es) ≡ now_of old = ap (λ o. unwrap_or o []) (lookup-groups es path ∙ ap (option_map now_of) there) in
    let all : now_of files ≡ files_at path.now (groups_of es) ++ file.now ∷ [] =
    ap (map (λ file. file.now)) more ∙ now-more old.items file ∙ ap (λ some. some ++ file.now ∷ []) (sym at) in
    ap groups_of written ∙ set-groups es path old files ordered there
    ∙ ap (insert_entry (slice_cmp nat_cmp) (groups_of es) path.now) all
    ∙ ap (λ p. insert_entry (slice_cmp nat_cmp) (groups_of es) p (files_at p (groups_of es) ++ file.now ∷ [])) own

-- the first file at its path
pub add-first : (es after : List Entry) (path : Path) (files : Files) (file : Bor FileCoverage) → lookup (is_at (path_cmp path)) es ≡ None →
    path.now ≡ file.now.path → after ≡ insert_entry path_cmp es path files → files.items ≡ file ∷ [] → groups_of after ≡ with_file (groups_of es) file.now
add-first es after path files file none own put one =
    let at : files_at path.now (groups_of es) ≡ [] = ap (λ o. unwrap_or o []) (lookup-groups es path ∙ ap (option_map now_of) none) in
    let all : now_of files ≡ files_at path.now (groups_of es) ++ file.now ∷ [] =
    ap (map (λ file. file.now)) one ∙ ap (λ some. some ++ file.now ∷ []) (sym at) in
    ap groups_of put ∙ insert-groups es path files
    ∙ ap (insert_entry (slice_cmp nat_cmp) (groups_of es) path.now) all
    ∙ ap (λ p. insert_entry (slice_cmp nat_cmp) (groups_of es) p (files_at p (groups_of es) ++ file.now ∷ [])) own
