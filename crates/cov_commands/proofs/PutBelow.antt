-- What stands below a folder after one text more was put with its map, or a put failed.
use Rattle.std.proofs.Common.{◌≡◌, ◌≢◌, ◌⊎◌, inl, inr, ℕ, ◌+◌, ◌<◌, Bool, true, false, List, [], ◌∷◌, ◌++◌, length, take, drop, get_or, Option, None, Some, codes, refl, sym, ap, ap₂, ◌∙◌, subst, take-append-drop, arith}
use Rattle.std.specs.List.{last_or}
use Rattle.std.specs.Option.{option_or}
use Rattle.std.proofs.lemmas.List.{append_cancel_right}
use Rattle.std.specs.Prelude.{Result, Ok, Err}
use Rattle.std.specs.Str.{bytes_eq}
use Rattle.std.specs.Cmp.Lexicographic.{bytes_decides}
use Rattle.js_tree.specs.Plain.{File}
use Rattle.js_reading.specs.Reads.{Reads}
use Rattle.cov_base.specs.Store.{Held, BothTell, PutsAt}
use Rattle.cov_base.specs.declared.failed.Failed.{Failed}
use Rattle.source_map.specs.declared.place.Parts.{Parts}
use Rattle.cov_run.specs.Loaded.{HasInput, IsSource}
use Rattle.cov_run.proofs.Outcomes.{same_input}
use Rattle.cov_run.proofs.Endings.{ends_by}
use Rattle.cov_commands.specs.Instrument.{Each, IsApart, IsSourcePath, PutsAll, PutsHalf, no_map, no_more, PutsSome, Stands, map_below, map_for, path_below}
use Rattle.cov_commands.specs.private.Written.{IsWritten, PutsBoth, no_text, with_text, PutsMap, files_of}
use Rattle.cov_commands.specs.declared.written.Written.{Written}
use Rattle.cov_commands.proofs.Texts.{drop_at, each_with, named_with, take_at}

-- ---- of each

each_before : {A : Type 0} (P : A → Type 0) (xs : List A) (x : A) → Each P (xs ++ x ∷ []) → Each P xs
each_before P [] x each = tt
each_before P (y ∷ ys) x each = (each.0, each_before P ys x each.1)

each_last : {A : Type 0} (P : A → Type 0) (xs : List A) (x : A) → Each P (xs ++ x ∷ []) → P x
each_last P [] x each = each.0
each_last P (y ∷ ys) x each = each_last P ys x each.1

each_apart : {A : Type 0} (P : A → Type 0) (xs ys : List A) → Each P (xs ++ ys) → Each P xs × Each P ys
each_apart P [] ys each = (tt, each)
each_apart P (x ∷ xs) ys each = let rest = each_apart P xs ys each.1 in ((each.0, rest.0), rest.1)

each_two : {A : Type 0} {P Q R : A → Type 0} (xs : List A) → ((x : A) → P x → Q x → R x) → Each P xs → Each Q xs → Each R xs
each_two [] gives each also = tt
each_two (x ∷ xs) gives each also = (gives x each.0 also.0, each_two xs gives each.1 also.1)

-- ---- paths below a folder

abbrev js : List ℕ
js = codes ".js"

abbrev map_ending : List ℕ
map_ending = codes ".map"

behind : (out : List ℕ) (one other : List ℕ) → out ++ one ≡ out ++ other → one ≡ other
behind [] one other same = same
behind (b ∷ bs) one other same = behind bs one other (cc)

below_apart : (out file other : List ℕ) → file ≢ other → path_below out file ≢ path_below out other
below_apart out file other differ same = let tails : 0x2F ∷ file ≡ 0x2F ∷ other = behind out (0x2F ∷ file) (0x2F ∷ other) same in differ cc

maps_apart : (out file other : List ℕ) → file ≢ other → map_below out file ≢ map_below out other
maps_apart out file other differ = below_apart out (file ++ map_ending) (other ++ map_ending) (λ same. differ (append_cancel_right file other map_ending same))

-- a text ends with `s`, a map with `p`
last_of_text : (xs : List ℕ) (first : Option ℕ) → last_or first (xs ++ js) ≡ Some 115
last_of_text [] first = refl
last_of_text (x ∷ xs) first = last_of_text xs (Some x)

last_of_map : (xs : List ℕ) (first : Option ℕ) → last_or first (xs ++ map_ending) ≡ Some 112
last_of_map [] first = refl
last_of_map (x ∷ xs) first = last_of_map xs (Some x)

no_such_end : (◌≡◌) {A = Option ℕ} (Some 115) (Some 112) → ⊥
no_such_end same = let number : (◌≡◌) {A = ℕ} 115 112 = cc in omega (arith, number)

text_no_map : (out file other : List ℕ) → IsSourcePath file → path_below out file ≢ map_below out other
text_no_map out file other ends =
    below_apart out file (other ++ map_ending) (λ same.
    let e = ends_by file ends in
    no_such_end (sym (ap (last_or None) e.is ∙ last_of_text e.before None) ∙ ap (last_or None) same ∙ last_of_map other None))

-- ---- what the puts of one file do, where the store tells

abbrev Apart : List ℕ → Written → List ℕ → Type 0
Apart out written path = IsApart out path written.file

abbrev Keeps : List ℕ → Written → Held → Held → Type 0
Keeps out written middle new = (path : List ℕ) → Apart out written path → new path ≡ middle path

-- both are put, or one put failed
record Done (out : List ℕ) (written : Written) (middle new : Held) : Type 0 where
  keeps : Keeps out written middle new
  text : new (path_below out written.file) ≡ Some written.text
  map : new (map_below out written.file) ≡ option_or written.map (middle (map_below out written.file))

record Undone (out : List ℕ) (written : Written) (middle new : Held) : Type 0 where
  keeps : Keeps out written middle new
  half : (new (map_below out written.file) ≡ middle (map_below out written.file)) ⊎ (new (path_below out written.file) ≡ Some written.text)

abbrev Does : List ℕ → Written → Result (Unit {0}) Failed → Held → Held → Type 0
Does out written (Ok u) middle new = Done out written middle new
Does out written (Err why) middle new = Undone out written middle new

module _ (out : List ℕ) (written : Written) (path : IsSourcePath written.file) where
  apart_text : path_below out written.file ≢ map_below out written.file
  apart_text = text_no_map out written.file written.file path

  apart_map : map_below out written.file ≢ path_below out written.file
  apart_map same = apart_text (sym same)

  after_text : (middle between : Held) (why : Failed) → PutsAt (path_below out written.file) written.text (Some middle) (Some between) (Err why) → Undone out written middle between
  after_text middle between why put = record {
    keeps = λ at apart. put.others at apart.0;
    half = inl (put.others (map_below out written.file) apart_map);
  }

  after_none : (middle between : Held) → PutsAt (path_below out written.file) written.text (Some middle) (Some between) (Ok tt) → written.map ≡ None → Done out written middle between
  after_none middle between put none = record {
    keeps = λ at apart. put.others at apart.0;
    text = put.value;
    map = put.others (map_below out written.file) apart_map ∙ ap (λ m. option_or m (middle (map_below out written.file))) (sym none);
  }

  after_map : (middle between new : Held) (bytes : List ℕ) (result : Result (Unit {0}) Failed) → PutsAt (path_below out written.file) written.text (Some middle) (Some between) (Ok tt) →
      written.map ≡ Some bytes → PutsAt (map_below out written.file) bytes (Some between) (Some new) result → Does out written result middle new
  after_map middle between new bytes (Ok u) text some map = record {
    keeps = λ at apart. map.others at apart.1 ∙ text.others at apart.0;
    text = map.others (path_below out written.file) apart_text ∙ text.value;
    map = map.value ∙ ap (λ m. option_or m (middle (map_below out written.file))) (sym some);
  }
  after_map middle between new bytes (Err why) text some map = record {
    keeps = λ at apart. map.others at apart.1 ∙ text.others at apart.0;
    half = inr (map.others (path_below out written.file) apart_text ∙ text.value);
  }

  -- where there may be a map
  with_map : (middle between : Held) (after : Option Held) (m : Option (List ℕ)) (result : Result (Unit {0}) Failed) →
      PutsAt (path_below out written.file) written.text (Some middle) (Some between) (Ok tt) → written.map ≡ m → PutsMap (map_below out written.file) m (Some between) after result →
      BothTell (Some middle) after (Does out written result)
  with_map middle between after None result text is put =
      subst (λ (r : Result (Unit {0}) Failed). BothTell (Some middle) after (Does out written r)) (sym put.0)
      (subst (λ (a : Option Held). BothTell (Some middle) a (Done out written)) (sym put.1) (after_none middle between text is))
  with_map middle between None (Some bytes) result text is put = absurd put.others
  with_map middle between (Some new) (Some bytes) result text is put = after_map middle between new bytes result text is put

  -- or where nothing is told
  untold : (m : Option (List ℕ)) (after : Option Held) (result : Result (Unit {0}) Failed) → PutsMap (map_below out written.file) m None after result →
      BothTell None after (Does out written result)
  untold None after result put = subst (λ (a : Option Held). BothTell None a (Does out written result)) (sym put.1) tt
  untold (Some bytes) None result put = tt
  untold (Some bytes) (Some new) result put = put.others

  does : (middle after : Option Held) (result : Result (Unit {0}) Failed) → PutsBoth out written middle after result → BothTell middle after (Does out written result)
  does None None _ (no_text put) = tt
  does None (Some new) _ (no_text put) = put.others
  does (Some middle) None _ (no_text put) = put.others
  does (Some middle) (Some new) _ (no_text {why = why} put) = after_text middle new why put
  does None after result (with_text {between = None} text map) = untold written.map after result map
  does None after result (with_text {between = Some b} text map) = absurd text.others
  does (Some middle) after result (with_text {between = None} text map) = absurd text.others
  does (Some middle) after result (with_text {between = Some b} text map) = with_map middle b after written.map result text refl map

-- ---- a file more

-- a file has one text and one map
some_is : {one other : List ℕ} → Some one ≡ Some other → one ≡ other
some_is same = cc

same_map : (old : Held) (file : List ℕ) (bytes more : List ℕ) (input beside : Option Parts) (tree other : File) → IsSource (Some old) file bytes tree → IsSource (Some old) file more other →
    HasInput (Some old) file input → HasInput (Some old) file beside → map_for file bytes input tree ≡ map_for file more beside other
same_map old file bytes more input beside tree other is also has have =
    let same : bytes ≡ more = some_is (sym is.held ∙ also.held) in
    ap (λ i. map_for file bytes i tree) (same_input old file has have)
    ∙ ap₂ (λ b t. map_for file b beside t) same (also.only tree (subst (λ b. Reads b tree) same is.accepted.reads))

module _ (out : List ℕ) (old middle new : Held) (files : List (List ℕ)) (written : Written) (puts : PutsAll out files old middle) (paths : Each IsSourcePath files)
    (path : IsSourcePath written.file) (keeps : Keeps out written middle new) where
  others_stay : (at : List ℕ) → Each (IsApart out at) files → Apart out written at → new at ≡ old at
  others_stay at apart last = keeps at last ∙ puts.others at apart

  -- another file's text and map still stand
  still_stands : (file : List ℕ) → IsSourcePath file → Stands out old middle file → file ≢ written.file → Stands out old new file
  still_stands file ends is differ = record {
    bytes = is.bytes;
    tree = is.tree;
    text = is.text;
    input = is.input;
    source = is.source;
    has = is.has;
    is = is.is;
    stands = keeps (path_below out file) (below_apart out file written.file differ, text_no_map out file written.file ends) ∙ is.stands;
    map = keeps (map_below out file) (λ same. text_no_map out written.file file path (sym same), maps_apart out file written.file differ) ∙ is.map;
  }

  -- the file's map isn't there, unless the file is among those before it
  among : (done : List (List ℕ)) → Each (Stands out old middle) done → Each IsSourcePath done → Each (IsApart out (map_below out written.file)) done ⊎ Stands out old middle written.file
  among [] each ends = inl tt
  among (file ∷ done) each ends = by (bytes_eq file written.file) refl (among done each.1 ends.1)
    where
      by : (same : Bool) → bytes_eq file written.file ≡ same → Each (IsApart out (map_below out written.file)) done ⊎ Stands out old middle written.file →
          Each (IsApart out (map_below out written.file)) (file ∷ done) ⊎ Stands out old middle written.file
      by true is rest = inr (subst (Stands out old middle) ((bytes_decides file written.file).0 is) each.0)
      by false is (inr stands) = inr stands
      by false is (inl apart) = inl (
        (
          λ same. text_no_map out file written.file ends.0 (sym same),
          maps_apart out written.file file (λ same. let equal = (bytes_decides file written.file).1 (sym same) in let both = sym is ∙ equal in cc),
        ),
        apart,
      )

  module _ (is : IsWritten (Some old) written) where
    beside : (m : Option (List ℕ)) → map_for written.file is.bytes is.input is.tree ≡ m → option_or m (middle (map_below out written.file)) ≡ option_or m (old (map_below out written.file))
    beside (Some bytes) one = refl
    beside None none = by (among files puts.stand paths)
      where
        by : Each (IsApart out (map_below out written.file)) files ⊎ Stands out old middle written.file → middle (map_below out written.file) ≡ old (map_below out written.file)
        by (inl apart) = puts.others (map_below out written.file) apart
        by (inr stands) =
            stands.map ∙ ap (λ m. option_or m (old (map_below out written.file))) (same_map old written.file stands.bytes is.bytes stands.input is.input stands.tree is.tree stands.source is.source stands.has is.has ∙ none)

    -- one more
    more : new (path_below out written.file) ≡ Some written.text → new (map_below out written.file) ≡ option_or written.map (middle (map_below out written.file)) →
        PutsAll out (files ++ written.file ∷ []) old new
    more text map = record {
      stand = each_with (Stands out old new) files written.file (each_two files both paths puts.stand) this;
      others = λ at apart. others_stay at (each_before (IsApart out at) files written.file apart) (each_last (IsApart out at) files written.file apart);
    }
      where
        this : Stands out old new written.file
        this = record {
          bytes = is.bytes;
          tree = is.tree;
          text = written.text;
          input = is.input;
          source = is.source;
          has = is.has;
          is = is.is;
          stands = text;
          map = map ∙ ap (λ m. option_or m (middle (map_below out written.file))) is.map ∙ beside (map_for written.file is.bytes is.input is.tree) refl;
        }

        both : (file : List ℕ) → IsSourcePath file → Stands out old middle file → Stands out old new file
        both file ends stands = by (bytes_eq file written.file) refl
          where
            by : (same : Bool) → bytes_eq file written.file ≡ same → Stands out old new file
            by true is = subst (Stands out old new) (sym ((bytes_decides file written.file).0 is)) this
            by false is = still_stands file ends stands (λ same. let equal = (bytes_decides file written.file).1 same in let both = sym is ∙ equal in cc)

    -- a put that failed
    fewer : (new (map_below out written.file) ≡ middle (map_below out written.file)) ⊎ (new (path_below out written.file) ≡ Some written.text) → (left : List (List ℕ)) →
        PutsSome out (files ++ written.file ∷ left) old new
    fewer half left = record {
      before = files;
      failed = written.file;
      after = left;
      split = refl;
      stand = each_two files (λ file ends stands differ. still_stands file ends stands differ) paths puts.stand;
      half = λ differ. by half (each_two files (λ file ends other. (
        λ same. text_no_map out file written.file ends (sym same),
        maps_apart out written.file file (λ same. other (sym same)),
      )) paths differ);
      others = λ at apart last. others_stay at apart last;
    }
      where
        by : (new (map_below out written.file) ≡ middle (map_below out written.file)) ⊎ (new (path_below out written.file) ≡ Some written.text) →
            Each (IsApart out (map_below out written.file)) files → PutsHalf out old new written.file
        by (inl kept) apart = no_map (kept ∙ puts.others (map_below out written.file) apart)
        by (inr text) apart = no_more is.source is.has is.is text

-- ---- where the store tells

pub none_put : (out : List ℕ) (told : Option Held) → BothTell told told (PutsAll out [])
none_put out None = tt
none_put out (Some at) = record { stand = tt; others = λ path apart. refl }

one_put : (out : List ℕ) (old middle new : Option Held) (files : List (List ℕ)) (written : Written) (u : Unit {0}) → BothTell old middle (PutsAll out files) →
    Each IsSourcePath files → IsSourcePath written.file → IsWritten old written → BothTell middle new (Does out written (Ok u)) → BothTell old new (PutsAll out (files ++ written.file ∷ []))
one_put out (Some old) (Some middle) (Some new) files written u puts paths path is done = more out old middle new files written puts paths path done.keeps is done.text done.map
one_put out None None None files written u puts paths path is done = tt
one_put out None None (Some new) files written u puts paths path is done = done
one_put out None (Some middle) new files written u puts paths path is done = absurd puts
one_put out (Some old) None new files written u puts paths path is done = absurd puts
one_put out (Some old) (Some middle) None files written u puts paths path is done = done

put_failed : (out : List ℕ) (old middle new : Option Held) (files : List (List ℕ)) (written : Written) (left : List (List ℕ)) (failed : Failed) →
    BothTell old middle (PutsAll out files) → Each IsSourcePath files → IsSourcePath written.file → IsWritten old written → BothTell middle new (Does out written (Err failed)) →
    BothTell old new (PutsSome out (files ++ written.file ∷ left))
put_failed out (Some old) (Some middle) (Some new) files written left failed puts paths path is undone = fewer out old middle new files written puts paths path undone.keeps is undone.half left
put_failed out None None None files written left failed puts paths path is undone = tt
put_failed out None None (Some new) files written left failed puts paths path is undone = undone
put_failed out None (Some middle) new files written left failed puts paths path is undone = absurd puts
put_failed out (Some old) None new files written left failed puts paths path is undone = absurd puts
put_failed out (Some old) (Some middle) None files written left failed puts paths path is undone = undone

-- ---- one text after the other

named_both : (list rest : List Written) → files_of (list ++ rest) ≡ files_of list ++ files_of rest
named_both [] rest = refl
named_both (one ∷ list) rest = ap (λ paths. one.file ∷ paths) (named_both list rest)

module _ (out : List ℕ) (old middle new : Option Held) (list : List Written) (at : ℕ) (written : Written) (below : at < length list) (is : written ≡ get_or list at written)
    (puts : BothTell old middle (PutsAll out (files_of (take at list)))) (left : Each (IsWritten old) (drop at list)) (paths : Each IsSourcePath (files_of list)) where
  here : Each (IsWritten old) (written ∷ drop (at + 1) list)
  here = subst (Each (IsWritten old)) (drop_at list at written below is) left

  pub left_next : Each (IsWritten old) (drop (at + 1) list)
  left_next = here.1

  -- their paths
  paths_both : Each IsSourcePath (files_of (take at list)) × Each IsSourcePath (files_of (written ∷ drop (at + 1) list))
  paths_both =
      each_apart IsSourcePath (files_of (take at list)) (files_of (written ∷ drop (at + 1) list))
      (subst (Each IsSourcePath) (ap files_of (sym (take-append-drop at list) ∙ ap (λ rest. take at list ++ rest) (drop_at list at written below is)) ∙ named_both (take at list) (written ∷ drop (at + 1) list)) paths)

  pub put_next : (result : Result (Unit {0}) Failed) (u : Unit {0}) → result ≡ Ok u → PutsBoth out written middle new result → BothTell old new (PutsAll out (files_of (take (at + 1) list)))
  put_next result u done put =
      subst (λ files. BothTell old new (PutsAll out files)) (sym (ap files_of (take_at list at written below is) ∙ named_with (take at list) written))
      (one_put out old middle new (files_of (take at list)) written u puts paths_both.0 paths_both.1.0 here.0
      (does out written paths_both.1.0 middle new (Ok u) (subst (PutsBoth out written middle new) done put)))

  pub put_stops : (result : Result (Unit {0}) Failed) (failed : Failed) → result ≡ Err failed → PutsBoth out written middle new result → BothTell old new (PutsSome out (files_of list))
  put_stops result failed fails put =
      let split : files_of (take at list) ++ written.file ∷ files_of (drop (at + 1) list) ≡ files_of list =
      sym (named_both (take at list) (written ∷ drop (at + 1) list))
      ∙ ap (λ rest. files_of (take at list ++ rest)) (sym (drop_at list at written below is))
      ∙ ap files_of (take-append-drop at list) in
      subst (λ files. BothTell old new (PutsSome out files)) split
      (put_failed out old middle new (files_of (take at list)) written (files_of (drop (at + 1) list)) failed puts paths_both.0 paths_both.1.0 here.0
      (does out written paths_both.1.0 middle new (Err failed) (subst (PutsBoth out written middle new) fails put)))
