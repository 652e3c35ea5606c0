-- What is remapped has no source maps, so it is remapped to itself.
use Rattle.std.proofs.Common.{◌≡◌, ℕ, Bool, true, false, cond, List, [], ◌∷◌, ◌++◌, Option, Some, None, Result, Ok, Err, refl, sym, ap, ◌∙◌}
use Rattle.std.specs.Option.{option_map}
use Rattle.std.specs.List.{filter_map, cons_option, AllByRecursion}
use Rattle.std.specs.Cmp.{nat_eq_equiv}
use Rattle.std.specs.Cmp.Lexicographic.{lists_equiv}
use Rattle.cov_object.specs.declared.file.FileCoverage.{FileCoverage}
use Rattle.cov_object.specs.Files.{found}
use Rattle.cov_merge.specs.Same.{same_text}
use Rattle.cov_merge.specs.Files.{or_else, source_map_of}
use Rattle.cov_merge.specs.Maps.{merged}
use Rattle.cov_merge.specs.Laws.{with_path, IsMergedAt, AreByPath, AreMergedOnce}
use Rattle.cov_merge.proofs.KindsLemmas.{parts}
use Rattle.source_map.specs.declared.place.Parts.{Parts}
use Rattle.source_map.specs.declared.fault.MapFault.{MapFault}
use Rattle.cov_remap.specs.Sent.{Sending, sending_statements, sending_functions, sending_branches, sent}
use Rattle.cov_remap.specs.Remapped.{and_then, pieces_of, pieces, read_map, pieces_or_fault, spread_by, spread, spread_all, or_too_large, merged_all, remapped}
use Rattle.cov_remap.specs.Laws.{Report, run, both, mapped, made, IsDone, AreKept, AreMerged, AreRemappedOnce}
use Rattle.cov_remap.proofs.Spread.{fine, not_fine, same-fine}
use Rattle.cov_remap.proofs.Whole.{step, is_merged}

abbrev pub HasNoMap : FileCoverage → Type 0
HasNoMap file = file.input_source_map ≡ None

abbrev pub HaveNoMaps : List FileCoverage → Type 0
HaveNoMaps files = AllByRecursion HasNoMap files

none-more : (a b : List FileCoverage) → HaveNoMaps a → HaveNoMaps b → HaveNoMaps (a ++ b)
none-more [] b first second = second
none-more (file ∷ a) b first second = (first.0, none-more a b first.1 second)

-- ---- pieces have none

module _ {T : Type 0} (sending : Sending T) (bare : (path : List ℕ) (entry : T) → HasNoMap (sending.alone path entry)) where
  piece-by : (o : Option (List ℕ × T)) (rest : List FileCoverage) → HaveNoMaps rest → HaveNoMaps (cons_option (option_map (λ to. sending.alone to.0 to.1) o) rest)
  piece-by None rest none = none
  piece-by (Some to) rest none = (bare to.0 to.1, none)

  pieces-none : (file : FileCoverage) (map : Parts) (entries : List (ℕ × T)) →
      HaveNoMaps (filter_map (λ entry. option_map (λ to. sending.alone to.0 to.1) (sent sending file.path map entry.1)) entries)
  pieces-none file map [] = tt
  pieces-none file map (entry ∷ entries) = piece-by (sent sending file.path map entry.1) _ (pieces-none file map entries)

all-pieces : (file : FileCoverage) (map : Parts) → HaveNoMaps (pieces file map)
all-pieces file map =
    none-more (pieces_of sending_statements file map) _ (pieces-none sending_statements (λ p e. refl) file map file.statements)
    (none-more (pieces_of sending_functions file map) _ (pieces-none sending_functions (λ p e. refl) file map file.functions)
    (pieces-none sending_branches (λ p e. refl) file map file.branches))

along : (a b : List FileCoverage) → fine a ≡ fine b → HaveNoMaps a → HaveNoMaps b
along a b e none = Rattle.std.proofs.Common.subst HaveNoMaps (same-fine a b e) none

mapped-none : (file : FileCoverage) (files : List FileCoverage) (r : Result Parts MapFault) → pieces_or_fault file r ≡ fine files → HaveNoMaps files
mapped-none file files (Err why) ok = not_fine _ files ok
mapped-none file files (Ok map) ok = along (pieces file map) files ok (all-pieces file map)

spread-none-by : (file : FileCoverage) (files : List FileCoverage) (o : Option (List ℕ)) → file.input_source_map ≡ o → spread_by file o ≡ fine files → HaveNoMaps files
spread-none-by file files None none ok = along (file ∷ []) files ok (none, tt)
spread-none-by file files (Some text) is ok = mapped-none file files (read_map text) ok

pub spread-none : (files all : List FileCoverage) → spread_all files ≡ fine all → HaveNoMaps all
spread-none [] all ok = along [] all ok tt
spread-none (file ∷ files) all ok =
    let one = step (spread file) (λ own. and_then (spread_all files) (λ others. fine (own ++ others))) all ok in
    let two = step (spread_all files) (λ others. fine (one.value ++ others)) all one.rest in
    along (one.value ++ two.value) all two.rest
    (none-more one.value two.value (spread-none-by file one.value file.input_source_map refl one.first) (spread-none files two.value two.first))

-- ---- what is merged of such has none

some_none : {G : Type 0} (file : FileCoverage) → Some file ≡ None → G
some_none file e = cc

pub map-alike : (path : List ℕ) (files others : List FileCoverage) (at : Option FileCoverage) → IsMergedAt path files at → IsMergedAt path others at → source_map_of files ≡ source_map_of others
map-alike path [] [] at a b = refl
map-alike path [] (o ∷ os) None a b = absurd b
map-alike path [] (o ∷ os) (Some x) a b = some_none x a
map-alike path (f ∷ fs) [] None a b = absurd a
map-alike path (f ∷ fs) [] (Some x) a b = some_none x b
map-alike path (f ∷ fs) (o ∷ os) None a b = absurd a
map-alike path (f ∷ fs) (o ∷ os) (Some x) a b =
    ap (λ (y : FileCoverage). y.input_source_map) ((parts path (f ∷ fs) x a).is ∙ sym (parts path (o ∷ os) x b).is)

with-none-by : (b : Bool) (file : FileCoverage) (rest : List FileCoverage) → HasNoMap file → source_map_of rest ≡ None → source_map_of (cond b (file ∷ rest) rest) ≡ None
with-none-by true file rest none e = ap (λ o. or_else o (source_map_of rest)) none ∙ e
with-none-by false file rest none e = e

with-none : (path : List ℕ) (files : List FileCoverage) → HaveNoMaps files → source_map_of (with_path path files) ≡ None
with-none path [] none = refl
with-none path (file ∷ files) none = with-none-by (same_text path file.path) file (with_path path files) none.0 (with-none path files none.1)

-- the first one has none where all those at its path have none, and so have the others
both-none : (first rest : Option (List ℕ)) → or_else first rest ≡ None → (first ≡ None) × (rest ≡ None)
both-none None rest e = (refl, e)
both-none (Some map) rest e = absurd (some_is map e)
  where
    some_is : (map : List ℕ) → Some map ≡ None → ⊥
    some_is map e = cc

left-none-by : (b : Bool) (file : FileCoverage) (rest : List FileCoverage) → source_map_of (cond b (file ∷ rest) rest) ≡ None → source_map_of rest ≡ None
left-none-by true file rest e = (both-none file.input_source_map (source_map_of rest) e).1
left-none-by false file rest e = e

pub text-itself : (path : List ℕ) → same_text path path ≡ true
text-itself path = (lists_equiv nat_eq_equiv).refl path

all-none : (files : List FileCoverage) → ((path : List ℕ) → source_map_of (with_path path files) ≡ None) → HaveNoMaps files
all-none [] each = tt
all-none (file ∷ files) each = (
  (both-none file.input_source_map (source_map_of (with_path file.path files))
      (ap (λ b. source_map_of (cond b (file ∷ with_path file.path files) (with_path file.path files))) (sym (text-itself file.path)) ∙ each file.path)).0,
  all-none files (λ path. left-none-by (same_text path file.path) file (with_path path files) (each path)),
)

-- ---- what is remapped stays

stays : (files : List FileCoverage) → HaveNoMaps files → spread_all files ≡ fine files
stays [] none = refl
stays (file ∷ files) none =
    ap (λ o. and_then (spread_by file o) (λ own. and_then (spread_all files) (λ others. fine (own ++ others)))) none.0
    ∙ ap (λ r. and_then r (λ others. fine ((file ∷ []) ++ others))) (stays files none.1)

module _ (by_path : AreByPath) (again : AreMergedOnce) where
  merged-none : (files sums : List FileCoverage) → merged files ≡ Ok sums → HaveNoMaps files → HaveNoMaps sums
  merged-none files sums ok none =
      all-none sums (λ path.
      map-alike path (with_path path sums) (with_path path files) (found path sums) (by_path sums sums (again files sums ok) path) (by_path files sums ok path)
      ∙ with-none path files none)

  none-remapped : (files sums : List FileCoverage) → remapped files ≡ fine sums → HaveNoMaps sums × (merged sums ≡ Ok sums)
  none-remapped files sums ok =
      let one = step (spread_all files) merged_all sums ok in
      let is = is_merged one.value sums one.rest in
      (merged-none one.value sums is (spread-none files one.value one.first), again one.value sums is)

  -- what is remapped goes on as it is
  pub remapped_stays : (files sums : List FileCoverage) → remapped files ≡ fine sums → spread_all sums ≡ fine sums
  remapped_stays files sums ok = stays sums (none-remapped files sums ok).0

  done-none : (r : Report) (sums : List FileCoverage) → IsDone r → made r ≡ fine sums → HaveNoMaps sums × (merged sums ≡ Ok sums)
  done-none (run files) sums done ok = absurd done
  done-none (mapped r) sums done ok =
      let one = step (made r) remapped sums ok in
      none-remapped one.value sums one.rest
  done-none (both r s) sums done ok =
      let one = step (made r) (λ first. and_then (made s) (λ second. merged_all (first ++ second))) sums ok in
      let two = step (made s) (λ second. merged_all (one.value ++ second)) sums one.rest in
      let is = is_merged (one.value ++ two.value) sums two.rest in
      (merged-none (one.value ++ two.value) sums is (none-more one.value two.value (done-none r one.value done.0 one.first).0 (done-none s two.value done.1 two.first).0), again (one.value ++ two.value) sums is)

  no-maps-by : (b : Bool) (file : FileCoverage) (rest : List FileCoverage) → HasNoMap file → HaveNoMaps rest → HaveNoMaps (cond b (file ∷ rest) rest)
  no-maps-by true file rest none all = (none, all)
  no-maps-by false file rest none all = all

  no-maps : (path : List ℕ) (files : List FileCoverage) → HaveNoMaps files → HaveNoMaps (with_path path files)
  no-maps path [] none = tt
  no-maps path (file ∷ files) none = no-maps-by (same_text path file.path) file (with_path path files) none.0 (no-maps path files none.1)

  pub are_kept : AreKept
  are_kept a b first second left right made_a made_b path =
      (None, no-maps path (first ++ second) (none-more first second (done-none a first left made_a).0 (done-none b second right made_b).0))

  pub are_merged : AreMerged
  are_merged r sums done ok = (done-none r sums done ok).1

  pub are_remapped_once : AreRemappedOnce
  are_remapped_once r sums done ok =
      let all = done-none r sums done ok in
      ap (λ a. and_then a merged_all) (stays sums all.0) ∙ ap or_too_large all.1
