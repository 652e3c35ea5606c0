-- What is put for files, one after the other.
use Rattle.std.proofs.Common.{◌≡◌, ℕ, suc, ◌+◌, ◌<◌, ◌≤◌, Bool, not, ◌||◌, true, false, List, [], ◌∷◌, ◌++◌, length, take, drop, get_or, Option, None, Some, if◌then◌else◌, refl, sym, ap, ◌∙◌, subst, drop-cons, arith}
use Rattle.std.specs.Option.{option_map, unwrap_or}
use Rattle.std.proofs.lemmas.List.{take_more}
use Rattle.js_tree.specs.Plain.{File}
use Rattle.cov_base.specs.Store.{Held}
use Rattle.cov_run.specs.Loaded.{most}
use Rattle.cov_run.specs.declared.fault.LoadFault.{LoadFault}
use Rattle.cov_sim.specs.Instrumented as sim
use Rattle.cov_sim.specs.Instrumented.{Instruments, is_ignored, mapped_text}
use Rattle.cov_sim.specs.declared.instrumented.MappedText.{MappedText}
use Rattle.cov_sources.specs.declared.source.Source.{Source}
use Rattle.cov_commands.specs.Instrument as S
use Rattle.cov_commands.specs.Instrument.{Each, AreSources, HoldsSource, IsTextOf, StopsAt, map_for}
use Rattle.cov_commands.specs.private.Written.{IsWritten, AreWritten, files_of}
use Rattle.cov_commands.specs.declared.written.Written.{Written}

map_if : (file : Source) (tree : File) (ignored : Bool) → is_ignored tree ≡ ignored → map_for file.path file.bytes file.input tree ≡ (if ignored then None else Some (mapped_text file.path file.bytes file.input tree).map)
map_if file tree ignored is = ap (λ b. if b then None else Some (mapped_text file.path file.bytes file.input tree).map) is

-- the text of a source that is counted, or its bytes
pub counted_text : (file : Source) (tree : File) (text : Option MappedText) → file.counted ≡ true → Instruments file tree text →
    IsTextOf file.path file.bytes file.input tree (unwrap_or (option_map (λ (m : MappedText). m.text) text) file.bytes)
counted_text file tree _ counted (sim.left out) = S.left (subst (λ c. (not c || is_ignored tree) ≡ true) counted out)
counted_text file tree _ counted (sim.made kept again) = S.made (subst (λ c. (not c || is_ignored tree) ≡ false) counted kept) again

-- and its map, or none
pub counted_map : (file : Source) (tree : File) (text : Option MappedText) → file.counted ≡ true → Instruments file tree text →
    option_map (λ (m : MappedText). m.map) text ≡ map_for file.path file.bytes file.input tree
counted_map file tree _ counted (sim.left out) = sym (map_if file tree true (subst (λ c. (not c || is_ignored tree) ≡ true) counted out))
counted_map file tree _ counted (sim.made kept again) = sym (map_if file tree false (subst (λ c. (not c || is_ignored tree) ≡ false) counted kept))

-- ---- where this is put for all files they are sources

pub written_source : (told : Option Held) (written : Written) → IsWritten told written → HoldsSource told written.file
written_source told written is = (is.bytes, is.tree, is.input, is.source, is.has)

each_source : (told : Option Held) (list : List Written) → Each (IsWritten told) list → Each (HoldsSource told) (files_of list)
each_source told [] each = tt
each_source told (written ∷ list) each = (written_source told written each.0, each_source told list each.1)

count_of : (list : List Written) → length (files_of list) ≡ length list
count_of [] = refl
count_of (written ∷ list) = ap suc (count_of list)

pub are_sources : (told : Option Held) (files : List (List ℕ)) (list : List Written) → AreWritten told files list → length list ≤ most → AreSources files told
are_sources told files list are within =
    subst (λ named. AreSources named told) are.of (record { within = subst (λ n. n ≤ most) (sym (count_of list)) within; each = each_source told list are.each })

-- ---- one file after the other

pub each_with : {A : Type 0} (P : A → Type 0) (xs : List A) (x : A) → Each P xs → P x → Each P (xs ++ x ∷ [])
each_with P [] x each one = (one, tt)
each_with P (y ∷ ys) x each one = (each.0, each_with P ys x each.1 one)

next : (i : ℕ) → suc i ≡ i + 1
next i = omega arith

-- the one at a place, before those after it
pub drop_at : {A : Type 0} (xs : List A) (i : ℕ) (x : A) → i < length xs → x ≡ get_or xs i x → drop i xs ≡ x ∷ drop (i + 1) xs
drop_at xs i x below is = drop-cons xs i x below ∙ ap (λ y. y ∷ drop (suc i) xs) (sym is) ∙ ap (λ n. x ∷ drop n xs) (next i)

pub take_at : {A : Type 0} (xs : List A) (i : ℕ) (x : A) → i < length xs → x ≡ get_or xs i x → take (i + 1) xs ≡ take i xs ++ x ∷ []
take_at xs i x below is = take_more xs i x below ∙ ap (λ y. take i xs ++ y ∷ []) (sym is)

pub named_with : (list : List Written) (written : Written) → files_of (list ++ written ∷ []) ≡ files_of list ++ written.file ∷ []
named_with [] written = refl
named_with (one ∷ list) written = ap (λ rest. one.file ∷ rest) (named_with list written)

pub one_longer : (list : List Written) (written : Written) → length (list ++ written ∷ []) ≡ length list + 1
one_longer [] written = refl
one_longer (one ∷ list) written = ap suc (one_longer list written) ∙ omega arith

-- what comes of the files from here on comes of all of them
abbrev pub Goes : Option Held → List (List ℕ) → ℕ → List (List ℕ) → Type 0
Goes told files count left = (file : List ℕ) (why : LoadFault) → StopsAt told count left file why → StopsAt told 0 files file why

-- one source more
pub goes_on : (told : Option Held) (files left : List (List ℕ)) (count : ℕ) (file : List ℕ) → Goes told files count (file ∷ left) → HoldsSource told file → count < most →
    Goes told files (count + 1) left
goes_on told files left count file goes is room at why stops = goes at why (S.later is room stops)

module _ (told : Option Held) (files : List (List ℕ)) (at : ℕ) (list : List Written) (file : List ℕ) (below : at < length files) (is : file ≡ get_or files at file)
    (goes : Goes told files (length list) (drop at files)) where
  -- the file here ends the work
  pub stops_here : (why : LoadFault) → ((left : List (List ℕ)) → StopsAt told (length list) (file ∷ left) file why) → StopsAt told 0 files file why
  stops_here why stops = goes file why (subst (λ left. StopsAt told (length list) left file why) (sym (drop_at files at file below is)) (stops (drop (at + 1) files)))

  -- or it is a source
  module _ (of : files_of list ≡ take at files) (each : Each (IsWritten told) list) (written : Written) (named : written.file ≡ file) (put : IsWritten told written)
      (room : length list < most) (more : List Written) (added : more ≡ list ++ written ∷ []) where
    pub next_of : files_of more ≡ take (at + 1) files
    next_of =
        ap files_of added
        ∙ named_with list written
        ∙ ap (λ paths. paths ++ written.file ∷ []) of
        ∙ ap (λ path. take at files ++ path ∷ []) named
        ∙ sym (take_at files at file below is)

    pub next_each : Each (IsWritten told) more
    next_each = subst (Each (IsWritten told)) (sym added) (each_with (IsWritten told) list written each put)

    pub next_within : length more ≤ most
    next_within = let count : length more ≡ length list + 1 = ap length added ∙ one_longer list written in omega (arith, count, room)

    pub next_goes : Goes told files (length more) (drop (at + 1) files)
    next_goes =
        let source : HoldsSource told file = subst (HoldsSource told) named (written_source told written put) in
        let before : Goes told files (length list) (file ∷ drop (at + 1) files) = subst (Goes told files (length list)) (drop_at files at file below is) goes in
        subst (λ count. Goes told files count (drop (at + 1) files)) (sym (ap length added ∙ one_longer list written))
        (goes_on told files (drop (at + 1) files) (length list) file before source room)
