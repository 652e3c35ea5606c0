-- Merging onto a map that is merged already: the groups of all files, the map so far, and the first fault.
use Rattle.std.proofs.Common.{◌≡◌, ◌∙◌, ℕ, ◌+◌, ◌<◌, cond, length, take, drop, get_or, take-append-drop, Bor, List, [], ◌∷◌, ◌++◌, map, fold, Option, Some, None, Result, Ok, Err, refl, sym, ap, subst, append-nil, append_assoc}
use Rattle.std.specs.Option.{option_map, unwrap_or}
use Rattle.std.specs.Ordering.{nat_cmp, match_ordering, is_eq}
use Rattle.std.specs.declared.cmp.Ordering.{Ordering}
use Rattle.std.specs.declared.cmp.Ordering.TheVariants.{Less, Equal, Greater}
use Rattle.std.specs.Cmp.Lexicographic.{slice_cmp}
use Rattle.std.specs.BTreeMap.{insert_entry}
use Rattle.std.specs.Map.{keys_of}
use Rattle.std.specs.List.{AllByRecursion}
use Rattle.std.specs.List.Sorted.{IsStrictlySortedBy}
use Rattle.std.proofs.lemmas.List.{at_drop_more, map-append, take_more}
use Rattle.std.proofs.lemmas.Cmp.{nat_list_cmp_total}
use Rattle.std.proofs.lemmas.Map.Lookups.{exact_bytes}
use Rattle.cov_object.specs.declared.file.FileCoverage.{FileCoverage}
use Rattle.cov_object.specs.Files.{placed, found, AreInOrder}
use Rattle.cov_merge.specs.declared.fault.MergeFault.{MergeFault}
use Rattle.cov_merge.specs.declared.fault.MergeFault.TheVariants.{CountTooLarge, Memory}
use Rattle.cov_merge.specs.Answer.{and_then, Answers}
use Rattle.cov_merge.specs.Files.{merged_file}
use Rattle.cov_merge.specs.Maps.{files_at, with_file, by_path, merged_groups, merged}
use Rattle.cov_merge.specs.private.Onto.{if_there, joined}
use Rattle.cov_merge.proofs.MapsLemmas.{Path, Files, Group, Ascend, AreMerged, at, at-put, ascend-all, none-ascend, whole, path-of, all-single, placed-last, paths-more, paths_of, all-before, keys-are, back, single, order}

-- ---- a file put among those of the groups

put-by : (o : Ordering) (g : Group) (gs : List Group) (file : FileCoverage) (files : Files) (p : Path) (group : Files) (m : FileCoverage) → order p g.0 ≡ o → AreMerged (g ∷ gs) (file ∷ files) → merged_file p group ≡ Ok m →
    AreMerged (insert_entry (slice_cmp nat_cmp) gs p group) (placed m files) →
    AreMerged (match_ordering o ((p, group) ∷ g ∷ gs) ((g.0, group) ∷ gs) (g ∷ insert_entry (slice_cmp nat_cmp) gs p group)) (match_ordering o (m ∷ file ∷ files) (m ∷ files) (file ∷ placed m files))
put-by Less g gs file files p group m e each ok rest = (ok, each)
put-by Equal g gs file files p group m e each ok rest = (ap (λ k. merged_file k group) (sym (exact_bytes p g.0 e)) ∙ ok, each.1)
put-by Greater g gs file files p group m e each ok rest = (each.0, rest)

-- a merged group put in is its file put in
merged-put : (gs : List Group) (files : Files) (p : Path) (group : Files) (m : FileCoverage) → AreMerged gs files → merged_file p group ≡ Ok m →
    AreMerged (insert_entry (slice_cmp nat_cmp) gs p group) (placed m files)
merged-put [] [] p group m each ok = (ok, tt)
merged-put [] (file ∷ files) p group m each ok = absurd each
merged-put (g ∷ gs) [] p group m each ok = absurd each
merged-put (g ∷ gs) (file ∷ files) p group m each ok =
    subst (λ o. AreMerged (insert_entry (slice_cmp nat_cmp) (g ∷ gs) p group) (match_ordering o (m ∷ file ∷ files) (m ∷ files) (file ∷ placed m files)))
    (sym (ap (λ k. order k file.path) (path-of p group m ok) ∙ ap (λ k. order p k) (path-of g.0 g.1 file each.0)))
    (put-by (order p g.0) g gs file files p group m refl each ok (merged-put gs files p group m each.1 ok))

-- groups that are merged are a merged map
merged-all : (so_far : Files) (gs : List Group) (files : Files) → Ascend (paths_of so_far ++ keys_of gs) → AreMerged gs files → merged_groups so_far gs ≡ Ok (so_far ++ files)
merged-all so_far [] [] up each = ap Ok (sym (append-nil so_far))
merged-all so_far [] (file ∷ files) up each = absurd each
merged-all so_far (g ∷ gs) [] up each = absurd each
merged-all so_far (g ∷ gs) (file ∷ files) up each =
    let own : file.path ≡ g.0 = path-of g.0 g.1 file each.0 in
    ap (λ r. and_then r (λ one. merged_groups (placed one so_far) gs)) each.0
    ∙ ap (λ some. merged_groups some gs)
    (placed-last so_far file (subst (λ p. AllByRecursion (λ x. order x p ≡ Less) (paths_of so_far)) (sym own) (all-before (paths_of so_far) g.0 (keys_of gs) up)))
    ∙ merged-all (so_far ++ file ∷ []) gs files (subst Ascend (paths-more so_far file g.0 (keys_of gs) own) up) each.1
    ∙ ap Ok (append_assoc so_far (file ∷ []) files)

-- ---- a group that has no sums, after groups that have

data Fails (fault : MergeFault) (p : Path) : List Group → Type 0 where
  here : {group : Files} {gs : List Group} → merged_file p group ≡ Err fault → Fails fault p ((p, group) ∷ gs)
  later : {g : Group} {gs : List Group} {file : FileCoverage} → merged_file g.0 g.1 ≡ Ok file → order g.0 p ≡ Less → Fails fault p gs → Fails fault p (g ∷ gs)

fails-by : (o : Ordering) (fault : MergeFault) (g : Group) (gs : List Group) (file : FileCoverage) (p : Path) (group : Files) → order p g.0 ≡ o → merged_file g.0 g.1 ≡ Ok file → merged_file p group ≡ Err fault →
    Fails fault p (insert_entry (slice_cmp nat_cmp) gs p group) →
    Fails fault p (match_ordering o ((p, group) ∷ g ∷ gs) ((g.0, group) ∷ gs) (g ∷ insert_entry (slice_cmp nat_cmp) gs p group))
fails-by Less fault g gs file p group e own bad rest = here bad
fails-by Equal fault g gs file p group e own bad rest = subst (λ k. Fails fault p ((k, group) ∷ gs)) (exact_bytes p g.0 e) (here bad)
fails-by Greater fault g gs file p group e own bad rest = later own (back p g.0 Greater e) rest

fails-put : (fault : MergeFault) (gs : List Group) (files : Files) (p : Path) (group : Files) → AreMerged gs files → merged_file p group ≡ Err fault → Fails fault p (insert_entry (slice_cmp nat_cmp) gs p group)
fails-put fault [] files p group each bad = here bad
fails-put fault (g ∷ gs) [] p group each bad = absurd each
fails-put fault (g ∷ gs) (file ∷ files) p group each bad = fails-by (order p g.0) fault g gs file p group refl each.0 bad (fails-put fault gs files p group each.1 bad)

-- groups put in at later paths leave it the first
still-fails : (fault : MergeFault) (p q : Path) (gs : List Group) (group : Files) → order p q ≡ Less → Fails fault p gs → Fails fault p (insert_entry (slice_cmp nat_cmp) gs q group)
still-fails fault p q gs group less (here {group = own} {gs = rest} bad) =
    subst (λ o. Fails fault p (match_ordering o ((q, group) ∷ (p, own) ∷ rest) ((p, group) ∷ rest) ((p, own) ∷ insert_entry (slice_cmp nat_cmp) rest q group)))
    (sym (back p q Less less)) (here bad)
still-fails fault p q gs group less (later {g = g} {gs = rest} own before fails) =
    subst (λ o. Fails fault p (match_ordering o ((q, group) ∷ g ∷ rest) ((g.0, group) ∷ rest) (g ∷ insert_entry (slice_cmp nat_cmp) rest q group)))
    (sym (back g.0 q Less (nat_list_cmp_total.trans g.0 p q before less))) (later own before (still-fails fault p q rest group less fails))

all-still-fail : (fault : MergeFault) (gs : List Group) (p : Path) (files : Files) → AllByRecursion (λ q. order p q ≡ Less) (paths_of files) → Fails fault p gs → Fails fault p (fold with_file gs files)
all-still-fail fault gs p [] above fails = fails
all-still-fail fault gs p (file ∷ files) above fails =
    all-still-fail fault (with_file gs file) p files above.1 (still-fails fault p file.path gs (files_at file.path gs ++ file ∷ []) above.0 fails)

fails-is : (fault : MergeFault) (p : Path) (so_far : Files) (gs : List Group) → Fails fault p gs → merged_groups so_far gs ≡ Err fault
fails-is fault p so_far gs (here {gs = rest} bad) = ap (λ r. and_then r (λ one. merged_groups (placed one so_far) rest)) bad
fails-is fault p so_far gs (later {gs = rest} {file = file} own before fails) =
    ap (λ r. and_then r (λ one. merged_groups (placed one so_far) rest)) own ∙ fails-is fault p (placed file so_far) rest fails

-- ---- what stands at a path

single-by : (o : Ordering) (q : Path) (file : FileCoverage) (rest : Option Files) (other : Option FileCoverage) → rest ≡ option_map (λ f. f ∷ []) other →
    cond (is_eq o) (Some (file ∷ [])) rest ≡ option_map (λ f. f ∷ []) (match_ordering o other (Some file) other)
single-by Less q file rest other e = e
single-by Equal q file rest other e = refl
single-by Greater q file rest other e = e

at-single : (q : Path) (files : Files) → at q (map single files) ≡ option_map (λ f. f ∷ []) (found q files)
at-single q [] = refl
at-single q (file ∷ files) = single-by (order q file.path) q file (at q (map single files)) (found q files) (at-single q files)

found-by : (o : Ordering) (q : Path) (m file : FileCoverage) (files : Files) → order m.path file.path ≡ o → order q m.path ≡ Greater → found q (placed m files) ≡ found q files →
    found q (match_ordering o (m ∷ file ∷ files) (m ∷ files) (file ∷ placed m files)) ≡ found q (file ∷ files)
found-by Less q m file files e above rest = ap (λ o. match_ordering o (found q (file ∷ files)) (Some m) (found q (file ∷ files))) above
found-by Equal q m file files e above rest =
    ap (λ o. match_ordering o (found q files) (Some m) (found q files)) above
    ∙ sym (ap (λ o. match_ordering o (found q files) (Some file) (found q files)) (ap (λ k. order q k) (sym (exact_bytes m.path file.path e)) ∙ above))
found-by Greater q m file files e above rest = ap (λ other. match_ordering (order q file.path) other (Some file) other) rest

-- a file put in changes nothing at later paths
found-placed : (q : Path) (m : FileCoverage) (files : Files) → order q m.path ≡ Greater → found q (placed m files) ≡ found q files
found-placed q m [] above = ap (λ o. match_ordering o None (Some m) None) above
found-placed q m (file ∷ files) above = found-by (order m.path file.path) q m file files refl above (found-placed q m files above)

-- ---- the loop

-- these files are merged onto the sums, and this is the map; at later paths nothing has changed
pub record AreOnto (sums done map : Files) : Type 0 where
  pub each : AreMerged (fold with_file (by_path sums) done) map
  pub later : (q : Path) → AllByRecursion (λ p. order p q ≡ Less) (paths_of done) → at q (fold with_file (by_path sums) done) ≡ option_map (λ f. f ∷ []) (found q map)

pub begins : (sums : Files) → merged sums ≡ Ok sums → AreOnto sums [] sums
begins sums ok =
    let up : Ascend (keys_of (by_path sums)) = ascend-all [] sums none-ascend in
    let all = whole [] (by_path sums) sums up ok in
    let each : AreMerged (by_path sums) sums = subst (AreMerged (by_path sums)) (sym all.is) all.each in
    record {
      each = each;
      later = λ q none. ap (at q) (all-single [] sums (subst Ascend (keys-are (by_path sums) sums each) up)) ∙ at-single q sums;
    }

fold-more : (gs : List Group) (done : Files) (file : FileCoverage) → fold with_file gs (done ++ file ∷ []) ≡ with_file (fold with_file gs done) file
fold-more gs [] file = refl
fold-more gs (first ∷ done) file = fold-more (with_file gs first) done file

fold-all : (gs : List Group) (done rest : Files) → fold with_file gs (done ++ rest) ≡ fold with_file (fold with_file gs done) rest
fold-all gs [] rest = refl
fold-all gs (first ∷ done) rest = fold-all (with_file gs first) done rest

split : (P : Path → Type 0) (done : Files) (file : FileCoverage) → AllByRecursion P (paths_of (done ++ file ∷ [])) → AllByRecursion P (paths_of done) × P file.path
split P [] file all = (tt, all.0)
split P (first ∷ done) file all = let rest = split P done file all.1 in ((all.0, rest.0), rest.1)

there : (group : Option Files) (file : Option FileCoverage) → group ≡ option_map (λ f. f ∷ []) file → unwrap_or group [] ≡ if_there file
there group None e = ap (λ o. unwrap_or o []) e
there group (Some file) e = ap (λ o. unwrap_or o []) e

module _ (sums done : Files) (m : Files) (onto : AreOnto sums done m) (file : FileCoverage) (below : AllByRecursion (λ p. order p file.path ≡ Less) (paths_of done)) where
  group-is : files_at file.path (fold with_file (by_path sums) done) ++ file ∷ [] ≡ if_there (found file.path m) ++ file ∷ []
  group-is = ap (λ files. files ++ file ∷ []) (there (at file.path (fold with_file (by_path sums) done)) (found file.path m) (onto.later file.path below))

  module _ (answer : Result FileCoverage MergeFault) (is : joined m file ≡ answer) where
    group-merged : merged_file file.path (files_at file.path (fold with_file (by_path sums) done) ++ file ∷ []) ≡ answer
    group-merged = ap (merged_file file.path) group-is ∙ is

    pub goes_on : (all : FileCoverage) → answer ≡ Ok all → AreOnto sums (done ++ file ∷ []) (placed all m)
    goes_on all ok = record {
      each = subst (λ gs. AreMerged gs (placed all m)) (sym (fold-more (by_path sums) done file)) (merged-put (fold with_file (by_path sums) done) m file.path (files_at file.path (fold with_file (by_path sums) done) ++ file ∷ []) all onto.each (group-merged ∙ ok));
      later = λ q all_below.
          let each = split (λ p. order p q ≡ Less) done file all_below in
          let above : order q all.path ≡ Greater = ap (λ k. order q k) (path-of file.path (files_at file.path (fold with_file (by_path sums) done) ++ file ∷ []) all (group-merged ∙ ok)) ∙ back file.path q Less each.1 in
          ap (at q) (fold-more (by_path sums) done file)
          ∙ at-put (fold with_file (by_path sums) done) file.path q (files_at file.path (fold with_file (by_path sums) done) ++ file ∷ [])
          ∙ ap (λ o. cond (is_eq o) (Some (files_at file.path (fold with_file (by_path sums) done) ++ file ∷ [])) (at q (fold with_file (by_path sums) done))) (back file.path q Less each.1)
          ∙ onto.later q each.0
          ∙ ap (option_map (λ f. f ∷ [])) (sym (found-placed q all m above));
    }

    pub stops : (rest : Files) (fault : MergeFault) → AllByRecursion (λ q. order file.path q ≡ Less) (paths_of rest) → answer ≡ Err fault → merged (sums ++ (done ++ file ∷ rest)) ≡ Err fault
    stops rest fault above bad =
        let group = files_at file.path (fold with_file (by_path sums) done) ++ file ∷ [] in
        ap (merged_groups []) (fold-all [] sums (done ++ file ∷ rest) ∙ fold-all (by_path sums) done (file ∷ rest))
        ∙ fails-is fault file.path [] _
        (all-still-fail fault (with_file (fold with_file (by_path sums) done) file) file.path rest above
        (fails-put fault (fold with_file (by_path sums) done) m file.path group onto.each (group-merged ∙ bad)))

pub ends : (sums done m : Files) → AreOnto sums done m → merged (sums ++ done) ≡ Ok m
ends sums done m onto =
    let all : by_path (sums ++ done) ≡ fold with_file (by_path sums) done = fold-all [] sums done in
    ap (merged_groups []) all ∙ merged-all [] _ m (ascend-all (by_path sums) done (ascend-all [] sums none-ascend)) onto.each

-- ---- in the words of the code

ascend-after : (done : Files) (file : FileCoverage) (rest : Files) → Ascend (paths_of done ++ file.path ∷ paths_of rest) → AllByRecursion (λ q. order file.path q ≡ Less) (paths_of rest)
unfolding IsStrictlySortedBy
ascend-after [] file rest up = up.0
ascend-after (first ∷ done) file rest up = ascend-after done file rest up.1

module _ (sums : Files) (files : List (Bor FileCoverage)) (i : ℕ) (item : Bor FileCoverage) (within : i < length files) (is : item ≡ get_or files i item) (m : Files)
    (onto : AreOnto sums (map (λ (b : Bor FileCoverage). b.now) (take i files)) m) (up : AreInOrder (map (λ (b : Bor FileCoverage). b.now) files)) where
  abbrev now : List (Bor FileCoverage) → Files
  now bs = map (λ (b : Bor FileCoverage). b.now) bs

  all-are : now (take i files) ++ item.now ∷ now (drop (i + 1) files) ≡ now files
  all-are =
      sym (map-append (λ (b : Bor FileCoverage). b.now) (take i files) (item ∷ drop (i + 1) files))
      ∙ ap now (ap (λ b. take i files ++ b ∷ drop (i + 1) files) is ∙ sym (at_drop_more (λ rest. take i files ++ rest) files i item within) ∙ take-append-drop i files)

  ascend : Ascend (paths_of (now (take i files)) ++ item.now.path ∷ paths_of (now (drop (i + 1) files)))
  ascend =
      subst Ascend
      (ap paths_of (sym all-are) ∙ map-append (λ (f : FileCoverage). f.path) (now (take i files)) (item.now ∷ now (drop (i + 1) files))) up

  below : AllByRecursion (λ p. order p item.now.path ≡ Less) (paths_of (now (take i files)))
  below = all-before (paths_of (now (take i files))) item.now.path (paths_of (now (drop (i + 1) files))) ascend

  pub continued : (all : FileCoverage) → Answers (Ok all) (joined m item.now) → AreOnto sums (now (take (i + 1) files)) (placed all m)
  continued all ok =
      subst (λ done. AreOnto sums done (placed all m))
      (sym (ap now (take_more files i item within ∙ ap (λ b. take i files ++ b ∷ []) (sym is)) ∙ map-append (λ (b : Bor FileCoverage). b.now) (take i files) (item ∷ [])))
      (goes_on sums (now (take i files)) m onto item.now below (joined m item.now) refl all ok)

  pub stopped : (fault : MergeFault) → Answers {X = FileCoverage} (Err fault) (joined m item.now) → Answers {X = Files} (Err fault) (merged (sums ++ now files))
  stopped (CountTooLarge key sum) bad =
      subst (λ some. merged (sums ++ some) ≡ Err (CountTooLarge key sum)) all-are
      (stops sums (now (take i files)) m onto item.now below (joined m item.now) refl (now (drop (i + 1) files)) (CountTooLarge key sum)
      (ascend-after (now (take i files)) item.now (now (drop (i + 1) files)) ascend) bad)
  stopped Memory bad = tt
