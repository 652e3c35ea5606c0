-- The start of a counted file, in both runs: a step in each, and then both are at the file's own statements.
use Rattle.std.proofs.Common.{◌≡◌, ℕ, suc, ◌+◌, ◌<◌, ◌≤◌, Bool, true, false, List, [], ◌∷◌, ◌++◌, length, Option, Some, None, refl, sym, ap, ◌∙◌, subst, arith, if◌then◌else◌}
use Rattle.std.specs.Prelude.{slice_get, option_map}
use Rattle.std.specs.List.{AllZip}
use Rattle.js_terms.specs.Mark.{Mark}
use Rattle.js_terms.specs.declared.words.Comment.{Comment}
use Rattle.js_tree.specs.Plain.{MakeFile, Stmts}
use Rattle.js_value.specs.State.{Plain, ObjectRecord, Heap, Store}
use Rattle.js_value.specs.Objects.{next_object, object_at, kind_of, property_of, is_array, own_of_array, own_of}
use Rattle.js_value.specs.Environments.{next_environment}
use Rattle.js_value.specs.Functions.{name_units}
use Rattle.js_value.specs.Realm as realm
use Rattle.js_value.specs.Realm.{opening}
use Rattle.js_value.specs.Running.{stands_in, once, on_heap}
use Rattle.js_value.specs.Lookups.{Grown}
use Rattle.js_meaning.specs.declared.outcome.Completion.{Completion}
use Rattle.js_meaning.specs.Effects.{Comp, Start, ret, handle}
use Rattle.js_meaning.specs.Program.{Source, Sources, linked}
use Rattle.js_meaning.specs.Meaning.{comp_stmts}
use Rattle.js_meaning.specs.Files.{inside, begin, file_objects, comp_file, after_call, run_file, run_source}
use Rattle.js_meaning.proofs.Handle.{handle_ret}
use Rattle.js_suits.specs.Rewritten.{rewritten_stmts}
use Rattle.js_suits.specs.Settings.{Within, World}
use Rattle.js_suits.specs.Suits.{SuitsStmts}
use Rattle.js_suits.specs.Programs.{instrumented_source, Suits}
use Rattle.js_lockstep.specs.Worlds.{root, SameProperties, AlikeStores, AlikeCached, AlikeRequiring}
use Rattle.js_lockstep.specs.Trees.{left, right, Steps}
use Rattle.js_lockstep.specs.Counters.{Coded}
use Rattle.js_lockstep.specs.Programs.{Starting}
use Rattle.js_lockstep.proofs.Heaps.{both_of}
use Rattle.js_lockstep.proofs.Later.{cache_later, requiring_later}
use Rattle.js_lockstep.proofs.Theorem.{FileMade, file_objects_made, cached_more, requiring_more}
use Rattle.js_counter.specs.Represents.{Json, Placed, PlacedMembers, empty, plain, json_of, json_members, OnMembers, Stands, member_at}
use Rattle.js_counter.specs.Literals.{data_of}
use Rattle.js_counter.specs.First.{hash_, free, Bare}
use Rattle.js_counter.specs.Preamble.{json_put, Uncovered, Covered}
use Rattle.js_counter.specs.Starts.{file_store, FileFresh, StartsWith}
use Rattle.js_counter.proofs.Data.{both_members}
use Rattle.js_counter.proofs.Puts.{json_same}
use Rattle.js_counter.proofs.Laws.{kind_apart}
use Rattle.js_counter.proofs.Starts.{directives_run}
use Rattle.js_counter.proofs.Fresh.{begins_fresh}
use Rattle.js_counter.proofs.Began.{starts_first, starts_other, starts_again}
use Rattle.js_counted.specs.Files.{FileCounters, counted_by, expected}
use Rattle.js_counted.specs.Numbers.{json_child, json_member}
use Rattle.js_counted.specs.Holds.{global, coverage_text, IsData, Covering, uncovered, covered, EachOnce, AllStarted, Holds}
use Rattle.js_counted.specs.Program.{preamble_of, is_counted, counted_program, counters, Prepared}
use Rattle.js_counted.specs.Parts.{FilesStart}
use Rattle.js_counted.proofs.Data.{member_json, expected_at}
use Rattle.js_counted.proofs.Keeps.{root_plain, counters_keep, covering_later, tells_by}
use Rattle.js_counted.proofs.Counts.{counters_count}
use Rattle.js_counted.proofs.Called.{hash_stays, hashed, not_entered, expected_none, expected_put, stands_more, stands_last, once_more, started_more}
use Rattle.js_counted.proofs.Grows.{FileGrown}
use Rattle.js_counted.proofs.Growing.{file_grown}
use Rattle.js_counted.proofs.Started.{Coverage, both_after, hidden_after}
use Rattle.js_counted.proofs.Together.{same_program, coded, fresh}
use Rattle.js_counted.proofs.Beginning.{Split}
use Rattle.js_counted.proofs.Beginning as Begin

clash : true ≡ false → ⊥
clash e = cc

-- What all objects inherit from, and the global object, as they were when the program began

opening_global : object_at opening global ≡ free (Some root) [] []
unfolding realm.opening realm.each realm.freeze_all realm.rows realm.named_errors realm.named_objects
opening_global = refl

own_plain : (y : ObjectRecord) (key : List ℕ) → y.kind ≡ Plain → own_of y key ≡ property_of y.properties key
own_plain y key e = ap (λ z. if is_array z then own_of_array y key else property_of y.properties key) e

still_bare : (k : Heap) (key : List ℕ) → root < length k.objects → SameProperties (object_at opening root) (object_at k root) → Bare opening (Some root) key → Bare k (Some root) key
still_bare k key low r bare = (
  low,
  own_plain (object_at k root) key (r.kind ∙ root_plain) ∙ ap (λ ps. property_of ps key) r.properties ∙ sym (own_plain (object_at opening root) key root_plain) ∙ bare.1,
  r.prototype ∙ bare.2,
)

-- Files started

not_empty : (file : ℕ) (started : List ℕ) → stands_in file started ≡ true → 0 < length started
not_empty file [] e = absurd (clash (sym e))
not_empty file (m ∷ started) e = omega arith

record StartedNow (counted : ℕ → Bool) (file : ℕ) (log : List Mark) (before started : List ℕ) : Type 0 where
  itself : stands_in file started ≡ true
  more : (m : ℕ) → stands_in m before ≡ true → stands_in m started ≡ true
  each_once : EachOnce counted started
  entered : AllStarted started log

started_now : (counted : ℕ → Bool) (file : ℕ) (log : List Mark) (before : List ℕ) → counted file ≡ true → EachOnce counted before → AllStarted before log → StartedNow counted file log before (once file before)
started_now counted file log before is each entered = by (stands_in file before) refl
  where
    by : (b : Bool) → stands_in file before ≡ b → StartedNow counted file log before (if b then before else before ++ file ∷ [])
    by true e = record { itself = e; more = λ m z. z; each_once = each; entered = entered }
    by false e = record {
      itself = stands_last file before;
      more = λ m z. stands_more m file before z;
      each_once = once_more counted file before each is e;
      entered = started_more file before log entered;
    }

module _ (files : ℕ → FileCounters) (p : Sources) (pre : Prepared files p) (su : Suits (counters files p) (linked p))
    (file : ℕ) (source : Source) (at : slice_get (linked p).files file ≡ Some source) (counted : source.counted ≡ true) (in_program : is_counted p file ≡ true)
    (xs : Stmts) (comments : List Comment) (tree : source.tree ≡ MakeFile xs comments) (suits : SuitsStmts (counters files p) (Within file) xs)
    (w : World) (s t : Store) (x : AlikeStores (counters files p) w s t) where
  abbrev q : Sources
  q = counted_program files p

  abbrev src : Source
  src = instrumented_source (counters files p) file source

  abbrev ys : Stmts
  ys = rewritten_stmts (counters files p) ((counters files p).shift (Within file)) true xs

  abbrev parts : Split (preamble_of (files file)) (rewritten_stmts (counters files p) ((counters files p).shift (Within file)) true xs)
  parts = Begin.parts_of files p pre su file source at counted in_program xs comments tree suits

  abbrev zs : Stmts
  zs = Begin.opening files p pre su file source at counted in_program xs comments tree suits

  abbrev e : ℕ
  e = next_environment (file_objects s.heap)

  abbrev f : ℕ
  f = next_environment (file_objects t.heap)

  abbrev a : Store
  a = file_store source file xs s

  abbrev b : Store
  b = file_store src file zs t

  abbrev path : List ℕ
  path = (files file).path.units

  tree_is : src.tree ≡ MakeFile zs comments
  tree_is = Begin.tree_is files p pre su file source at counted in_program xs comments tree suits

  fresh_file : FileFresh q zs (files file).name (files file).path (files file).hash coverage_text (files file).zero (files file).first ((files file).first + 1) parts.rest t global
  fresh_file = Begin.file_fresh files p pre su file source at counted in_program xs comments tree suits w s t x

  coded_so : Coded (counters files p) (linked p) (counted_program files p)
  coded_so = subst (λ q. Coded (counters files p) (linked p) q) (same_program files p) (coded files p su)

  made : FileMade (counters files p) (counters_keep files p) (fresh files p pre) (linked p) (counted_program files p) (counters_count files p pre) coded_so w s.heap t.heap (file_objects s.heap) (file_objects t.heap)
  made = file_objects_made (counters files p) (counters_keep files p) (fresh files p pre) (linked p) (counted_program files p) (counters_count files p pre) coded_so w s.heap t.heap (both_of (counters files p) x)

  g : FileGrown files p file w e f s.heap t.heap a.heap b.heap
  g = file_grown files p pre su file source at counted in_program xs comments tree suits w s t x made.grown.v made.grown.both made.exports made.require made.module_ made.grown.later made.grown.untouched

  grown : Grown t.heap b.heap
  grown = (begins_fresh q src file parts.directives (files file).name (files file).path (files file).hash coverage_text (files file).zero (files file).first ((files file).first + 1) parts.rest t global fresh_file).1

  -- The call

  record Called : Type 0 where
    c : ℕ
    ms : PlacedMembers
    json : Json
    runs : StartsWith q src file zs parts.rest t (files file).name (files file).path coverage_text.units global c ms json
    coverage : Coverage g.v b.heap c ms
    same_members : x.hidden.members ≡ ms
    same_data : stands_in file s.started ≡ true → member_at ms path ≡ Some runs.opened.file
    told : json_put path json (json_members ms) ≡ expected files (once file s.started) s.log

  no_inherited : Bare t.heap (Some root) path
  no_inherited = still_bare t.heap path x.hidden.root_low x.hidden.root_same (pre.inherited file in_program)

  -- a file that hasn't started
  told_new : stands_in file s.started ≡ false → json_put path (data_of (files file).zero) (json_members x.hidden.members) ≡ expected files (once file s.started) s.log
  told_new out =
      ap (λ y. json_put path y (json_members x.hidden.members)) (sym (not_entered file s.started s.log (data_of (files file).zero) x.hidden.entered out))
      ∙ ap (json_put path (counted_by file s.log (data_of (files file).zero))) x.hidden.told
      ∙ expected_put files (is_counted p) pre.paths s.started s.log file x.hidden.each_once in_program out
      ∙ ap (λ b. expected files (if b then s.started else s.started ++ file ∷ []) s.log) (sym out)

  -- the first file
  uncovered_there : object_at t.heap global ≡ object_at opening global → Uncovered t.heap global coverage_text.units
  uncovered_there same = record {
    prototype = Some root;
    elements = [];
    properties = [];
    is = same ∙ opening_global;
    low = x.hidden.global_low;
    none = refl;
    bare = still_bare t.heap coverage_text.units x.hidden.root_low x.hidden.root_same pre.coverage_inherited;
  }

  called_first : x.hidden.members ≡ empty → s.started ≡ [] → object_at t.heap global ≡ object_at opening global → Called
  called_first none no_file same =
      let out : stands_in file s.started ≡ false = ap (stands_in file) no_file in
      let r = starts_first q src file parts.directives (files file).name (files file).path (files file).hash coverage_text (files file).zero (files file).first ((files file).first + 1) parts.rest comments t global
      tree_is fresh_file (uncovered_there same) no_inherited (λ z. omega (arith, z)) in
      let new : length b.heap.objects ≤ r.0 = r.1 in
      record {
        c = r.0;
        ms = empty;
        json = data_of (files file).zero;
        runs = r.2;
        coverage = record {
          itself = record {
            unpaired = λ n i. (let l : r.0 < length b.heap.objects = g.both.heaps.objects.right_bound n r.0 i in omega (arith, l, new));
            apart = λ z. (let l : global < length b.heap.objects = (grown global x.hidden.global_low).0 in omega (arith, l, z, new));
          };
          members = tt;
          no_function = λ o code around low kind z. omega (arith, low, z, new);
        };
        same_members = none;
        same_data = λ is. absurd (clash (sym is ∙ out));
        told = ap (λ ms. json_put path (data_of (files file).zero) (json_members ms)) (sym none) ∙ told_new out;
      }

  -- there is coverage
  module _ (c : ℕ) (cov : Covered t.heap global coverage_text.units c x.hidden.members) (itself : IsData w c) (members : OnMembers (λ o r. IsData w o) x.hidden.members) where
    stays_data : (o : ℕ) → o < length t.heap.objects → IsData w o → IsData g.v o
    stays_data o low d = record { unpaired = (g.lasts.objects o low d.unpaired).0; apart = d.apart }

    coverage_there : Coverage g.v b.heap c x.hidden.members
    coverage_there = record {
      itself = stays_data c cov.holds.0.0 itself;
      members = both_members (Stands t.heap) (λ o r. IsData w o) (λ o r. IsData g.v o) (λ o r st d. stays_data o st.0 d) x.hidden.members cov.holds.1 members;
      no_function = λ o code around low kind z.
          kind_apart (plain c x.hidden.members) code around (ap (λ (y : ObjectRecord). y.kind) (sym ((grown c cov.holds.0.0).1 ∙ cov.holds.0.1)) ∙ ap (kind_of b.heap) (sym z) ∙ kind);
    }

    none_of : (m : Option Placed) → option_map json_of m ≡ None → m ≡ None
    none_of None e = refl
    none_of (Some y) e = absurd (let z = e in cc)

    called_other : stands_in file s.started ≡ false → Called
    called_other out =
        let none : member_at x.hidden.members path ≡ None = none_of (member_at x.hidden.members path)
        (member_json x.hidden.members path ∙ ap (λ ms. json_member ms path) x.hidden.told
        ∙ expected_none files (is_counted p) pre.paths s.started s.log file x.hidden.each_once in_program out) in
        record {
          c = c;
          ms = x.hidden.members;
          json = data_of (files file).zero;
          runs = starts_other q src file parts.directives (files file).name (files file).path (files file).hash coverage_text (files file).zero (files file).first ((files file).first + 1) parts.rest comments t global c x.hidden.members
              tree_is fresh_file cov no_inherited none;
          coverage = coverage_there;
          same_members = refl;
          same_data = λ is. absurd (clash (sym is ∙ out));
          told = told_new out;
        }

    -- data of the file that are there
    record There : Type 0 where
      y : Placed
      at_path : member_at x.hidden.members path ≡ Some y
      is : json_of y ≡ counted_by file s.log (data_of (files file).zero)

    there_by : (m : Option Placed) → member_at x.hidden.members path ≡ m → option_map json_of m ≡ Some (counted_by file s.log (data_of (files file).zero)) → There
    there_by None e i = absurd (let z = i in cc)
    there_by (Some y) e i = record { y = y; at_path = e; is = (let z : json_of y ≡ counted_by file s.log (data_of (files file).zero) = cc in z) }

    data_at : (y z : Placed) → member_at x.hidden.members path ≡ Some y → z ≡ y → member_at x.hidden.members path ≡ Some z
    data_at y z e f = e ∙ ap (λ y. Some y) (sym f)

    called_again : stands_in file s.started ≡ true → Called
    called_again is =
        let there = there_by (member_at x.hidden.members path) refl
        (member_json x.hidden.members path ∙ ap (λ ms. json_member ms path) x.hidden.told ∙ expected_at files (is_counted p) pre.paths s.started s.log file x.hidden.each_once in_program is) in
        let h = hashed there.y (files file).hash.units
        (ap (json_child (name_units hash_)) there.is ∙ hash_stays file s.log (data_of (files file).zero) ∙ pre.hash file in_program) in
        let at_path : member_at x.hidden.members path ≡ Some (plain h.o h.fs) = there.at_path ∙ ap (λ y. Some y) h.is in
        let r = starts_again q src file parts.directives (files file).name (files file).path (files file).hash coverage_text (files file).zero (files file).first ((files file).first + 1) parts.rest comments t global c x.hidden.members h.o h.fs
        tree_is fresh_file cov at_path h.has in
        record {
          c = c;
          ms = x.hidden.members;
          json = json_of (plain h.o h.fs);
          runs = r.0;
          coverage = coverage_there;
          same_members = refl;
          same_data = λ z. data_at (plain h.o h.fs) (r.0).opened.file at_path r.1;
          told = sym (json_same path (plain h.o h.fs) x.hidden.members at_path) ∙ x.hidden.told ∙ ap (λ b. expected files (if b then s.started else s.started ++ file ∷ []) s.log) (sym is);
        }

    called_covered : (b : Bool) → stands_in file s.started ≡ b → Called
    called_covered true e = called_again e
    called_covered false e = called_other e

  called_by : Covering w t.heap x.hidden.members s.started → Called
  called_by (uncovered none no_file same) = called_first none no_file same
  called_by (covered c some cov d ds) = called_covered c cov d ds (stands_in file s.started) refl

  called : Called
  called = called_by x.hidden.covering

  -- The stores afterwards

  now : StartedNow (is_counted p) file s.log s.started (once file s.started)
  now = started_now (is_counted p) file s.log s.started in_program x.hidden.each_once x.hidden.entered

  abbrev after : Store
  after = called.runs.opened.store

  hidden_so : Holds files (is_counted p) (counted_program files p) g.v s.log (once file s.started) after.heap
  hidden_so = hidden_after files p pre file in_program w s t x e f a.heap b g grown called.c called.ms called.json called.runs.opened called.coverage
      (once file s.started) now.itself (not_empty file (once file s.started) now.itself) now.more now.each_once now.entered called.told called.same_members called.same_data

  hidden_now : Holds files (is_counted p) (counted_program files p) g.v a.log a.started after.heap
  hidden_now = subst (λ b. Holds files (is_counted p) (counted_program files p) g.v s.log (if b then once file s.started else s.started) after.heap) (sym counted) hidden_so

  same_store : after ≡ on_heap (λ h. after.heap) b
  same_store = called.runs.opened.only_heap

  alike : AlikeStores (counters files p) g.v a after
  alike =
      let both = both_after files p pre file in_program w s t x e f a.heap b g grown called.c called.ms called.json called.runs.opened called.coverage in
      record {
        heaps = both.heaps;
        environments = both.environments;
        global = both.global;
        cache = subst (λ (z : Store). AllZip (AlikeCached g.v) a.cache z.cache) (sym same_store)
            (cached_more (counters files p) (counters_keep files p) (fresh files p pre) (linked p) (counted_program files p) (counters_count files p pre) coded_so g.v source.path _ _ g.module_ s.cache t.cache (cache_later g.later s.cache t.cache x.cache));
        requiring = subst (λ (z : Store). AllZip (AlikeRequiring g.v) a.requiring z.requiring) (sym same_store)
            (requiring_more (counters files p) (counters_keep files p) (fresh files p pre) (linked p) (counted_program files p) (counters_count files p pre) coded_so g.v source.path _ _ g.require s.requiring t.requiring
            (requiring_later g.later s.requiring t.requiring x.requiring));
        output = x.output ∙ sym (ap (λ (z : Store). z.output) same_store);
        hidden = hidden_now;
      }

  -- The step

  lefts : (n : ℕ) (j : Completion → Comp) →
      left (counters files p) (linked p) (counted_program files p) n (handle (handle (inside (linked p) (Start file)) ret) j) s
      ≡ left (counters files p) (linked p) (counted_program files p) n (handle (handle (comp_stmts (linked p) xs e) after_call) j) a
  lefts n j =
      ap (λ d. left (counters files p) (linked p) (counted_program files p) n (handle d j) s) (handle_ret (inside (linked p) (Start file)))
      ∙ ap (λ o. left (counters files p) (linked p) (counted_program files p) n (handle (run_file (linked p) o file) j) s) at
      ∙ ap (λ z. left (counters files p) (linked p) (counted_program files p) n (handle (comp_file (linked p) z (next_object s.heap)) j) (begin source file s)) tree

  somes : (n : ℕ) (j : Completion → Comp) →
      right (counters files p) (linked p) (counted_program files p) (suc n) (handle (run_source q src file) j) t
      ≡ right (counters files p) (linked p) (counted_program files p) n (handle (handle (comp_stmts q ys f) after_call) j) after
  somes n j =
      called.runs.started.some n j
      ∙ sym (directives_run q f after_call j parts.directives parts.rest n after)
      ∙ ap (λ zs. right (counters files p) (linked p) (counted_program files p) n (handle (handle (comp_stmts q zs f) after_call) j) after) (sym parts.is)

  begun : Steps (counters files p) (linked p) (counted_program files p) w s t (Start file) ret (run_source (counted_program files p) src file)
  begun = record {
    v = g.v;
    s' = a;
    t' = after;
    a' = handle (comp_stmts (linked p) xs e) after_call;
    b' = handle (comp_stmts q ys f) after_call;
    later = g.later;
    alike = alike;
    logs = let z : length s.log ≤ suc (length s.log) = omega arith in z;
    lefts = lefts;
    stop = b;
    told = record {
      output = x.output;
      counted = record {
        each_once = x.hidden.each_once;
        countable = x.hidden.countable;
        tells = tells_by files (counted_program files p) (is_counted p) g.v s.log s.started b.heap x.hidden.members x.hidden.told
            (covering_later files (counted_program files p) x.hidden.members s.started g.lasts x.hidden.global_low x.hidden.global_unpaired x.hidden.covering);
      };
    };
    none = λ j. called.runs.started.none j;
    some = λ n j room. somes n j;
  }

  pub starting : Starting (counters files p) (linked p) (counted_program files p) file source xs w s t
  unfolding begun
  starting = record { begun = begun; e = e; f = f; around = g.around; left_is = refl; right_is = refl }

pub files_start : FilesStart
files_start files p pre su = record {
  starts = λ file source at counted xs comments tree w s t x.
      starting files p pre su file source at counted (Begin.counted_there p file source at counted) xs comments tree
      (Begin.suits_there (counters files p) (linked p) su file source at counted xs comments tree) w s t x;
}
