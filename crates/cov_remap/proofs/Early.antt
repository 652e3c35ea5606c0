-- What is merged sends to each key what the files send there, where those at each path have the same map or all have none.
use Rattle.std.proofs.Common.{◌≡◌, ℕ, ◌+◌, ◌||◌, ◌&&◌, Bool, true, false, cond, ◌⊎◌, inl, inr, List, [], ◌∷◌, map, Option, Some, None, Result, Ok, Err, refl, sym, ap, ◌∙◌, arith}
use Rattle.std.specs.Option.{option_map, option_and_then}
use Rattle.std.specs.List.{filter, AllByRecursion}
use Rattle.std.specs.Cmp.{on_equiv, nat_eq_equiv}
use Rattle.std.specs.Cmp.Lexicographic.{lists_equiv}
use Rattle.cov_object.specs.declared.file.FileCoverage.{FileCoverage}
use Rattle.cov_object.specs.Files.{found}
use Rattle.cov_merge.specs.Same.{same_text}
use Rattle.cov_merge.specs.Entries.{entries_of}
use Rattle.cov_merge.specs.Files.{or_else, source_map_of}
use Rattle.cov_merge.specs.Maps.{merged}
use Rattle.cov_merge.specs.Laws.{count_at, count_of, has_key, IsSummed, HasTheirKeys, with_path, IsMergedAt, AreByPath, AreMergedOnce}
use Rattle.source_map.specs.declared.place.Parts.{Parts}
use Rattle.source_map.specs.declared.fault.MapFault.{MapFault}
use Rattle.source_map.specs.Trace.{source}
use Rattle.cov_remap.specs.SourcePath.{source_path}
use Rattle.cov_remap.specs.Sent.{Sending, in_source}
use Rattle.cov_remap.specs.Remapped.{read_map}
use Rattle.cov_remap.specs.Laws.{goes_by, goes_from, goes, is_at, count_there, sent_from, sent_count, sends_from, is_sent, HaveOneMap}
use Rattle.cov_remap.proofs.Totals.{Adds, total, total-append, total-map, total-same, by_class, adding, testing}
use Rattle.cov_remap.proofs.Merged.{any-total, sum-total, HasOwn, alike, Alike}
use Rattle.cov_remap.proofs.Once.{map-alike}
use Rattle.cov_remap.proofs.Apart.{IsSingle, are_apart}
use Rattle.cov_remap.proofs.Exact.{text-exact, AllKept, Follows, IsSendable}

from_zero : (n : ℕ) → 0 + n ≡ n
from_zero n = omega arith

-- ---- where the entries of one key go

module _ {T : Type 0} (sending : Sending T) (able : IsSendable sending) where
  -- one of them: its path, and an entry as in `Kept`
  record Goes (path : List ℕ) (like : T) (at : ℕ → ℕ) (from : T) (to : Option (List ℕ × T)) : Type 0 where
    entry : T
    is : to ≡ Some (path, entry)
    same : (key : T) → sending.kind.same entry key ≡ sending.kind.same like key
    counts : (n : ℕ) → count_at n (sending.kind.counts entry) ≡ count_at (at n) (sending.kind.counts from)

  record AllGo (send : T → Option (List ℕ × T)) (k : T) : Type 0 where
    path : List ℕ
    like : T
    at : ℕ → ℕ
    each : (e : T) → sending.kind.same e k ≡ true → Goes path like at e (send e)

  abbrev NoneGoes : (T → Option (List ℕ × T)) → T → Type 0
  NoneGoes send k = (e : T) → sending.kind.same e k ≡ true → send e ≡ None

  abbrev to_text : Parts → List ℕ → ℕ × T → Option (List ℕ) → Option (List ℕ × T)
  to_text parts path to o = option_map (λ text. (source_path path text, to.1)) o

  sent-by : (parts : Parts) (path : List ℕ) (k : T) (all : AllKept sending (sending.send parts) k) (o : Option (List ℕ)) → source parts all.number ≡ o →
      NoneGoes (goes_by sending path (Ok parts)) k ⊎ AllGo (goes_by sending path (Ok parts)) k
  sent-by parts path k all None is = inl (λ e s.
      let one = all.each e s in
      ap (option_and_then (in_source sending path parts)) one.is ∙ ap (to_text parts path (all.number, one.entry)) is)
  sent-by parts path k all (Some text) is = inr (record {
    path = source_path path text;
    like = all.like;
    at = all.at;
    each = λ e s.
        let one = all.each e s in
        record {
          entry = one.entry;
          is = ap (option_and_then (in_source sending path parts)) one.is ∙ ap (to_text parts path (all.number, one.entry)) is;
          same = one.same;
          counts = one.counts;
        };
  })

  goes-parts : (parts : Parts) (path : List ℕ) (k : T) → Follows sending (sending.send parts) k → NoneGoes (goes_by sending path (Ok parts)) k ⊎ AllGo (goes_by sending path (Ok parts)) k
  goes-parts parts path k (inl dropped) = inl (λ e s. ap (option_and_then (in_source sending path parts)) (dropped e s))
  goes-parts parts path k (inr all) = sent-by parts path k all (source parts all.number) refl

  goes-result : (r : Result Parts MapFault) (path : List ℕ) (k : T) → NoneGoes (goes_by sending path r) k ⊎ AllGo (goes_by sending path r) k
  goes-result (Err why) path k = inl (λ e s. refl)
  goes-result (Ok parts) path k = goes-parts parts path k (able.follows parts k)

  goes-all : (o : Option (List ℕ)) (path : List ℕ) (k : T) → NoneGoes (goes_from sending path o) k ⊎ AllGo (goes_from sending path o) k
  goes-all None path k = inr (record { path = path; like = k; at = λ n. n; each = λ e s. record { entry = e; is = refl; same = λ key. able.equiv.congr e k key s; counts = λ n. refl } })
  goes-all (Some text) path k = goes-result (read_map text) path k

  -- ---- what they come to

  -- of one key, a count at some place counts, or none does
  record Counts (h : T → ℕ) (k : T) : Type 0 where
    test : Bool
    place : ℕ
    each : (e : T) → sending.kind.same e k ≡ true → h e ≡ cond test (count_at place (sending.kind.counts e)) 0

  record Tells (h : T → Bool) (k : T) : Type 0 where
    test : Bool
    each : (e : T) → sending.kind.same e k ≡ true → h e ≡ test

  counts-by : (o : Option (List ℕ)) (from path : List ℕ) (key : T) (place : ℕ) (k : T) → NoneGoes (goes_from sending from o) k ⊎ AllGo (goes_from sending from o) k →
      Counts (λ e. count_there sending.kind path key place (goes_from sending from o e)) k
  counts-by o from path key place k (inl none) = record { test = false; place = 0; each = λ e s. ap (count_there sending.kind path key place) (none e s) }
  counts-by o from path key place k (inr all) = record {
    test = same_text path all.path && sending.kind.same all.like key;
    place = all.at place;
    each = λ e s.
        let one = all.each e s in
        ap (count_there sending.kind path key place) one.is
        ∙ ap (λ b. cond (same_text path all.path && b) (count_at place (sending.kind.counts one.entry)) 0) (one.same key)
        ∙ ap (λ n. cond (same_text path all.path && sending.kind.same all.like key) n 0) (one.counts place);
  }

  tells-by : (o : Option (List ℕ)) (from path : List ℕ) (key : T) (k : T) → NoneGoes (goes_from sending from o) k ⊎ AllGo (goes_from sending from o) k →
      Tells (λ e. is_at sending.kind path key (goes_from sending from o e)) k
  tells-by o from path key k (inl none) = record { test = false; each = λ e s. ap (is_at sending.kind path key) (none e s) }
  tells-by o from path key k (inr all) = record {
    test = same_text path all.path && sending.kind.same all.like key;
    each = λ e s.
        let one = all.each e s in
        ap (is_at sending.kind path key) one.is ∙ ap (λ b. same_text path all.path && b) (one.same key);
  }

  -- ---- over the entries of one key

  abbrev Class : T → List T → List T
  Class k xs = filter (sending.kind.same k) xs

  cond-add : (b : Bool) (x y : ℕ) → cond b x 0 + cond b y 0 ≡ cond b (x + y) 0
  cond-add true x y = refl
  cond-add false x y = refl

  cond-zero : (b : Bool) → ◌≡◌ {A = ℕ} 0 (cond b 0 0)
  cond-zero true = refl
  cond-zero false = refl

  zero-add : (b : Bool) (n : ℕ) → cond b n 0 ≡ cond b (0 + n) 0
  zero-add true n = sym (from_zero n)
  zero-add false n = refl

  class-count-by : (b : Bool) (h : T → ℕ) (k x : T) (xs : List T) (c : Counts h k) → sending.kind.same k x ≡ b → total 0 (λ a b. a + b) h (Class k xs) ≡ cond c.test (count_of sending.kind k c.place xs) 0 →
      total 0 (λ a b. a + b) h (cond b (x ∷ Class k xs) (Class k xs)) ≡ cond c.test (count_of sending.kind k c.place (x ∷ xs)) 0
  class-count-by true h k x xs c is rest =
      let own : sending.kind.same x k ≡ true = able.equiv.symm x k ∙ is in
      ap (λ n. n + total 0 (λ a b. a + b) h (Class k xs)) (c.each x own)
      ∙ ap (λ n. cond c.test (count_at c.place (sending.kind.counts x)) 0 + n) rest
      ∙ cond-add c.test (count_at c.place (sending.kind.counts x)) (count_of sending.kind k c.place xs)
      ∙ ap (λ b. cond c.test (cond b (count_at c.place (sending.kind.counts x)) 0 + count_of sending.kind k c.place xs) 0) (sym own)
  class-count-by false h k x xs c is rest =
      rest
      ∙ zero-add c.test (count_of sending.kind k c.place xs)
      ∙ ap (λ b. cond c.test (cond b (count_at c.place (sending.kind.counts x)) 0 + count_of sending.kind k c.place xs) 0) (sym (able.equiv.symm x k ∙ is))

  class-count : (h : T → ℕ) (k : T) (xs : List T) (c : Counts h k) → total 0 (λ a b. a + b) h (Class k xs) ≡ cond c.test (count_of sending.kind k c.place xs) 0
  class-count h k [] c = cond-zero c.test
  class-count h k (x ∷ xs) c = class-count-by (sending.kind.same k x) h k x xs c refl (class-count h k xs c)

  class-tell-by : (b : Bool) (h : T → Bool) (k x : T) (xs : List T) (c : Tells h k) → sending.kind.same k x ≡ b → total false (λ a b. a || b) h (Class k xs) ≡ (c.test && has_key sending.kind k xs) →
      total false (λ a b. a || b) h (cond b (x ∷ Class k xs) (Class k xs)) ≡ (c.test && has_key sending.kind k (x ∷ xs))
  class-tell-by true h k x xs c is rest =
      let own : sending.kind.same x k ≡ true = able.equiv.symm x k ∙ is in
      ap (λ n. n || total false (λ a b. a || b) h (Class k xs)) (c.each x own)
      ∙ ap (λ n. c.test || n) rest
      ∙ absorbs c.test (has_key sending.kind k xs)
      ∙ ap (λ b. c.test && (b || has_key sending.kind k xs)) (sym own)
    where
      absorbs : (a b : Bool) → (a || (a && b)) ≡ (a && (true || b))
      absorbs true b = refl
      absorbs false b = refl
  class-tell-by false h k x xs c is rest =
      rest ∙ ap (λ b. c.test && (b || has_key sending.kind k xs)) (sym (able.equiv.symm x k ∙ is))

  nothing-tells : (b : Bool) → false ≡ (b && false)
  nothing-tells true = refl
  nothing-tells false = refl

  class-tell : (h : T → Bool) (k : T) (xs : List T) (c : Tells h k) → total false (λ a b. a || b) h (Class k xs) ≡ (c.test && has_key sending.kind k xs)
  class-tell h k [] c = nothing-tells c.test
  class-tell h k (x ∷ xs) c = class-tell-by (sending.kind.same k x) h k x xs c refl (class-tell h k xs c)

  -- ---- over the files of one path

  abbrev Files : Type 0
  Files = List FileCoverage

  module _ {M : Type 0} (nothing : M) (add : M → M → M) (adds : Adds nothing add) (value : Option (List ℕ × T) → M) where
    abbrev of_entry : List ℕ → Option (List ℕ) → T → M
    of_entry path o e = value (goes_from sending path o e)

    abbrev of_file : FileCoverage → M
    of_file file = total nothing add (λ entry. value (goes sending file entry.1)) (sending.kind.entries file)

    -- files with one path and one map
    record Same (path : List ℕ) (o : Option (List ℕ)) (files : Files) : Type 0 where
      paths : AllByRecursion (λ (file : FileCoverage). file.path ≡ path) files
      maps : AllByRecursion (λ (file : FileCoverage). file.input_source_map ≡ o) files

    one-file : (path : List ℕ) (o : Option (List ℕ)) (file : FileCoverage) → file.path ≡ path → file.input_source_map ≡ o →
        of_file file ≡ total nothing add (of_entry path o) (map (λ entry. entry.1) (sending.kind.entries file))
    one-file path o file is has =
        ap (λ p. total nothing add (λ entry. value (goes_from sending p file.input_source_map entry.1)) (sending.kind.entries file)) is
        ∙ ap (λ m. total nothing add (λ entry. value (goes_from sending path m entry.1)) (sending.kind.entries file)) has
        ∙ sym (total-map nothing add adds (of_entry path o) (λ entry. entry.1) (sending.kind.entries file))

    same-files : (path : List ℕ) (o : Option (List ℕ)) (files : Files) → AllByRecursion (λ (file : FileCoverage). file.path ≡ path) files → AllByRecursion (λ (file : FileCoverage). file.input_source_map ≡ o) files →
        total nothing add of_file files ≡ total nothing add (of_entry path o) (entries_of sending.kind files)
    same-files path o [] are have = refl
    same-files path o (file ∷ files) are have =
        ap (λ n. add n (total nothing add of_file files)) (one-file path o file are.0 have.0)
        ∙ ap (add (total nothing add (of_entry path o) (map (λ entry. entry.1) (sending.kind.entries file)))) (same-files path o files are.1 have.1)
        ∙ sym (total-append nothing add adds (of_entry path o) (map (λ entry. entry.1) (sending.kind.entries file)) (entries_of sending.kind files))

    first-map : (o : Option (List ℕ)) (file : FileCoverage) (files : Files) → AllByRecursion (λ (file : FileCoverage). file.input_source_map ≡ o) (file ∷ files) → source_map_of (file ∷ files) ≡ o
    first-map o file [] have = alone file.input_source_map ∙ have.0
      where
        alone : (m : Option (List ℕ)) → or_else m None ≡ m
        alone None = refl
        alone (Some text) = refl
    first-map o file (next ∷ files) have = twice file.input_source_map o (source_map_of (next ∷ files)) have.0 (first-map o next files have.1)
      where
        twice : (m o rest : Option (List ℕ)) → m ≡ o → rest ≡ o → or_else m rest ≡ o
        twice None o rest e h = h
        twice (Some text) o rest e h = e

    -- the classes of the entries come to the same
    abbrev Agree : List ℕ → Option (List ℕ) → Files → Files → Type 0
    Agree path o files others = (k : T) → total nothing add (of_entry path o) (Class k (entries_of sending.kind files)) ≡ total nothing add (of_entry path o) (Class k (entries_of sending.kind others))

    some_none : {G : Type 0} (file : FileCoverage) → Some file ≡ None → G
    some_none file e = cc

    at-path : (path : List ℕ) (o : Option (List ℕ)) (files others : Files) (at : Option FileCoverage) → IsMergedAt path files at → IsMergedAt path others at → IsSingle others →
        AllByRecursion (λ (file : FileCoverage). file.path ≡ path) files → AllByRecursion (λ (file : FileCoverage). file.path ≡ path) others → AllByRecursion (λ (file : FileCoverage). file.input_source_map ≡ o) files →
        Agree path o files others → total nothing add of_file files ≡ total nothing add of_file others
    at-path path o [] [] at a b one are also have agree = refl
    at-path path o [] (s ∷ ss) None a b one are also have agree = absurd b
    at-path path o [] (s ∷ ss) (Some x) a b one are also have agree = some_none x a
    at-path path o (f ∷ fs) [] None a b one are also have agree = absurd a
    at-path path o (f ∷ fs) [] (Some x) a b one are also have agree = some_none x b
    at-path path o (f ∷ fs) (s ∷ []) at a b one are also have agree =
        let own : s.input_source_map ≡ o = sym (alone s.input_source_map) ∙ sym (map-alike path (f ∷ fs) (s ∷ []) at a b) ∙ first-map o f fs have in
        same-files path o (f ∷ fs) are have
        ∙ by_class sending.kind.same able.equiv nothing add adds (of_entry path o) (entries_of sending.kind (f ∷ fs)) (entries_of sending.kind (s ∷ [])) agree
        ∙ sym (same-files path o (s ∷ []) also (own, tt))
      where
        alone : (m : Option (List ℕ)) → or_else m None ≡ m
        alone None = refl
        alone (Some text) = refl
    at-path path o (f ∷ fs) (s ∷ t ∷ ss) at a b one are also have agree = absurd one

    paths-by : (b : Bool) (path : List ℕ) (file : FileCoverage) (files : Files) → same_text path file.path ≡ b → AllByRecursion (λ (file : FileCoverage). file.path ≡ path) files →
        AllByRecursion (λ (file : FileCoverage). file.path ≡ path) (cond b (file ∷ files) files)
    paths-by true path file files e all = (sym (text-exact path file.path e), all)
    paths-by false path file files e all = all

    all-paths : (path : List ℕ) (files : Files) → AllByRecursion (λ (file : FileCoverage). file.path ≡ path) (with_path path files)
    all-paths path [] = tt
    all-paths path (file ∷ files) = paths-by (same_text path file.path) path file (with_path path files) refl (all-paths path files)

    module _ (by_path : AreByPath) (again : AreMergedOnce) where
      pub files-agree : (files sums : Files) → merged files ≡ Ok sums → HaveOneMap files →
          ((path : List ℕ) (o : Option (List ℕ)) → Agree path o (with_path path files) (with_path path sums)) → total nothing add of_file files ≡ total nothing add of_file sums
      files-agree files sums ok maps agree =
          by_class (λ (a b : FileCoverage). same_text a.path b.path) (on_equiv (λ (f : FileCoverage). f.path) (lists_equiv nat_eq_equiv)) nothing add adds of_file files sums (λ k.
          let path = k.path in
          let have = maps path in
          at-path path have.0 (with_path path files) (with_path path sums) (found path sums) (by_path files sums ok path) (by_path sums sums (again files sums ok) path) (are_apart files sums ok path)
          (all-paths path files) (all-paths path sums) have.1 (agree path have.0))

  -- ---- the law

  module _ (summed : IsSummed sending.kind) (keys : HasTheirKeys sending.kind) (own : HasOwn sending.kind) (by_path : AreByPath) (again : AreMergedOnce) where
    both-at : (files sums : Files) → merged files ≡ Ok sums → (path : List ℕ) (key : T) → Alike sending.kind summed keys own key (with_path path files) (with_path path sums)
    both-at files sums ok path key =
        alike sending.kind summed keys own path (with_path path files) (with_path path sums) (found path sums) (by_path files sums ok path) (by_path sums sums (again files sums ok) path) key

    pub same_count : (files sums : Files) → merged files ≡ Ok sums → HaveOneMap files → (path : List ℕ) (key : T) (place : ℕ) → sent_count sending path key place files ≡ sent_count sending path key place sums
    same_count files sums ok maps path key place =
        sum-total (sent_from sending path key place) files
        ∙ total-same 0 (λ a b. a + b) adding (sent_from sending path key place) (of_file 0 (λ a b. a + b) adding (count_there sending.kind path key place)) each files
        ∙ files-agree 0 (λ a b. a + b) adding (count_there sending.kind path key place) by_path again files sums ok maps agree
        ∙ sym (total-same 0 (λ a b. a + b) adding (sent_from sending path key place) (of_file 0 (λ a b. a + b) adding (count_there sending.kind path key place)) each sums)
        ∙ sym (sum-total (sent_from sending path key place) sums)
      where
        each : (file : FileCoverage) → sent_from sending path key place file ≡ of_file 0 (λ a b. a + b) adding (count_there sending.kind path key place) file
        each file = sum-total (λ entry. count_there sending.kind path key place (goes sending file entry.1)) (sending.kind.entries file)

        agree : (p : List ℕ) (o : Option (List ℕ)) → Agree 0 (λ a b. a + b) adding (count_there sending.kind path key place) p o (with_path p files) (with_path p sums)
        agree p o k =
            let c = counts-by o p path key place k (goes-all o p k) in
            class-count _ k (entries_of sending.kind (with_path p files)) c
            ∙ ap (λ n. cond c.test n 0) ((both-at files sums ok p k).counts c.place)
            ∙ sym (class-count _ k (entries_of sending.kind (with_path p sums)) c)

    pub same_sent : (files sums : Files) → merged files ≡ Ok sums → HaveOneMap files → (path : List ℕ) (key : T) → is_sent sending path key files ≡ is_sent sending path key sums
    same_sent files sums ok maps path key =
        any-total (sends_from sending path key) files
        ∙ total-same false (λ a b. a || b) testing (sends_from sending path key) (of_file false (λ a b. a || b) testing (is_at sending.kind path key)) each files
        ∙ files-agree false (λ a b. a || b) testing (is_at sending.kind path key) by_path again files sums ok maps agree
        ∙ sym (total-same false (λ a b. a || b) testing (sends_from sending path key) (of_file false (λ a b. a || b) testing (is_at sending.kind path key)) each sums)
        ∙ sym (any-total (sends_from sending path key) sums)
      where
        each : (file : FileCoverage) → sends_from sending path key file ≡ of_file false (λ a b. a || b) testing (is_at sending.kind path key) file
        each file = any-total (λ entry. is_at sending.kind path key (goes sending file entry.1)) (sending.kind.entries file)

        agree : (p : List ℕ) (o : Option (List ℕ)) → Agree false (λ a b. a || b) testing (is_at sending.kind path key) p o (with_path p files) (with_path p sums)
        agree p o k =
            let c = tells-by o p path key k (goes-all o p k) in
            class-tell _ k (entries_of sending.kind (with_path p files)) c
            ∙ ap (λ b. c.test && b) ((both-at files sums ok p k).has)
            ∙ sym (class-tell _ k (entries_of sending.kind (with_path p sums)) c)
