-- A counted file has started: its function was called, and this is held then.
use Rattle.std.proofs.Common.{◌≡◌, ◌≢◌, ℕ, ◌<◌, ◌≤◌, ◌⊎◌, Bool, true, false, ◌&&◌, IsTrue, List, [], ◌∷◌, length, set, Some, refl, sym, ap, ◌∙◌, subst, ⊎_elim, arith, codes}
use Rattle.std.specs.Prelude.{slice_index_or, slice_set, not, ◌==◌}
use Rattle.std.proofs.lemmas.Bool.{cases_eq, eqb-true, false_from_ne_true}
use Rattle.std.proofs.lemmas.List.{get_or_past}
use Rattle.std.proofs.lemmas.Slice.Eq.{bytes_eq-Decides}
use Rattle.js_value.specs.State.{Written, ObjectRecord, Binding, Environment, Heap, Store}
use Rattle.js_value.specs.Objects.{no_object, object_at, kind_of}
use Rattle.js_value.specs.Environments.{Cell, no_binding, next_environment, environment_at, place_of, binding_at, value_of}
use Rattle.js_value.specs.Realm.{global_environment, object, opening}
use Rattle.js_value.specs.Running.{stands_in}
use Rattle.js_value.specs.Lookups.{Grown}
use Rattle.js_meaning.specs.Program.{Sources}
use Rattle.js_two_runs.specs.Pairs.{Pairs, Paired, here, there}
use Rattle.js_suits.specs.Settings.{Within, World}
use Rattle.js_lockstep.specs.Worlds.{root, SameProperties, AlikeNames, AlikeEnvironments, AlikeStores}
use Rattle.js_lockstep.proofs.Heaps.{Both}
use Rattle.js_counter.specs.Represents.{Json, Placed, PlacedMembers, json_members, OnMembers, member_at}
use Rattle.js_counter.specs.Steady.{actual}
use Rattle.js_counter.specs.Preamble.{json_put, Opened}
use Rattle.js_counter.proofs.Heaps.{looked_up}
use Rattle.js_counter.proofs.Places.{place_named}
use Rattle.js_counter.proofs.Data.{both_members}
use Rattle.js_counted.specs.Files.{FileCounters, expected}
use Rattle.js_counted.specs.Holds.{global, coverage_text, IsData, covered, GivesData, EachOnce, AllStarted, Holds}
use Rattle.js_counted.specs.Program.{is_counted, counted_program, counters, Prepared}
use Rattle.js_counted.proofs.Data.{either}
use Rattle.js_counted.proofs.Alone.{ObjectsStay}
use Rattle.js_counted.proofs.Own.{own_place}
use Rattle.js_counted.proofs.OwnEnvironments.{both_own}
use Rattle.js_counted.proofs.Keeps.{gives_later}
use Rattle.js_counted.proofs.Grows.{FileGrown}

some_same : {X : Type 0} {a b : X} → Some a ≡ Some b → a ≡ b
some_same e = cc

-- An object that stands for none, by a test

abbrev is_unpaired : Pairs → ℕ → Bool
is_unpaired [] q = true
is_unpaired (pair ∷ pairs) q = not (pair.1 == q) && is_unpaired pairs q

and_false : (a b : Bool) → b ≡ false → (a && b) ≡ false
and_false true b e = e
and_false false b e = refl

and_true : (a b : Bool) → a ≡ true → b ≡ true → (a && b) ≡ true
and_true a b e f = ap (λ t. t && b) e ∙ f

both_true : (a b : Bool) → (a && b) ≡ true → (a ≡ true) × (b ≡ true)
both_true true b e = (refl, e)
both_true false b e = absurd (let z = e in cc)

clash : true ≡ false → ⊥
clash e = cc

paired_test : {pairs : Pairs} {n q : ℕ} → Paired pairs n q → is_unpaired pairs q ≡ false
paired_test (here {o = n} {p = q} {pairs = pairs}) = let e : (q == q) ≡ true = grind arith in ap (λ t. not t && is_unpaired pairs q) e
paired_test {n = n} {q = q} (there {pair = pair} {pairs = pairs} i) = and_false (not (pair.1 == q)) (is_unpaired pairs q) (paired_test i)

unpaired_test : (pairs : Pairs) (q : ℕ) → ((n : ℕ) → Paired pairs n q → ⊥) → is_unpaired pairs q ≡ true
unpaired_test [] q apart = refl
unpaired_test (pair ∷ pairs) q apart =
    and_true (not (pair.1 == q)) (is_unpaired pairs q)
    (ap not (false_from_ne_true (pair.1 == q) (λ e. apart pair.0 (subst (λ m. Paired (pair ∷ pairs) pair.0 m) (eqb-true pair.1 q e) here))))
    (unpaired_test pairs q (λ n i. apart n (there i)))

abbrev is_data : World → ℕ → Bool
is_data v o = is_unpaired v.objects o && not (o == global)

data_by : (v : World) (o : ℕ) → IsTrue (is_data v o) → IsData v o
data_by v o t =
    let z = both_true (is_unpaired v.objects o) (not (o == global)) t in
    record {
      unpaired = λ n i. clash (sym z.0 ∙ paired_test i);
      apart = λ e. let f : (global == global) ≡ true = grind arith in clash (sym z.1 ∙ ap (λ n. not (n == global)) e ∙ ap not f);
    }

data_test : (v : World) (o : ℕ) → IsData v o → IsTrue (is_data v o)
data_test v o d = and_true (is_unpaired v.objects o) (not (o == global)) (unpaired_test v.objects o d.unpaired) (ap not (false_from_ne_true (o == global) (λ e. d.apart (eqb-true o global e))))

-- a function is an object that is there
function_low : (h : Heap) (o code around : ℕ) → kind_of h o ≡ Written code around → o < length h.objects
function_low h o code around e = ⊎_elim (λ l. l) (λ l. absurd (nothing (sym (ap (λ (z : ObjectRecord). z.kind) (get_or_past h.objects o no_object l)) ∙ e))) (below o (length h.objects))
  where
    below : (m n : ℕ) → (m < n) ⊎ (n ≤ m)
    below m n = grind arith

    nothing : no_object.kind ≡ Written code around → ⊥
    nothing f = cc

counted_of : (counted : ℕ → Bool) (started : List ℕ) → EachOnce counted started → (m : ℕ) → stands_in m started ≡ true → counted m ≡ true
counted_of counted [] once m e = absurd (let z = e in cc)
counted_of counted (f ∷ started) once m e = ⊎_elim (λ (z : m ≡ f). ap counted z ∙ once.0) (λ (ne : m ≡ f → ⊥). counted_of counted started once.2 m (either m f (stands_in m started) e ne)) (cases_eq m f)

within_same : {m n : ℕ} → Within m ≡ Within n → m ≡ n
within_same e = cc

-- the coverage before the call, and where its object is
pub record Coverage (v : World) (h : Heap) (c : ℕ) (ms : PlacedMembers) : Type 0 where
  pub itself : IsData v c
  pub members : OnMembers (λ o r. IsData v o) ms
  pub no_function : (o code around : ℕ) → o < length h.objects → kind_of h o ≡ Written code around → o ≢ c

module _ (files : ℕ → FileCounters) (p : Sources) (pre : Prepared files p) (file : ℕ) (in_program : is_counted p file ≡ true) (w : World) (s t : Store) (x : AlikeStores (counters files p) w s t)
    (e f : ℕ) (a : Heap) (b : Store) (g : FileGrown files p file w e f s.heap t.heap a b.heap) (grown : Grown t.heap b.heap)
    (c : ℕ) (ms : PlacedMembers) (json : Json) (o : Opened (counted_program files p) b f (files file).name (files file).path coverage_text.units global c ms json) (cov : Coverage g.v b.heap c ms) where
  abbrev q : Sources
  q = counted_program files p

  abbrev path : ℕ → List ℕ
  path file = (files file).path.units

  abbrev k : Heap
  k = o.store.heap

  -- the cell of the file's name

  own_environments : AlikeEnvironments (counters files p).name g.v e f (environment_at a e) (environment_at b.heap f)
  own_environments = g.both.environments.related e f g.around.pair

  names : AlikeNames (counters files p).name g.v (Within file) (Some g.n) (environment_at a e).bindings (environment_at b.heap f).bindings
  names = subst (λ z. AlikeNames (counters files p).name g.v z (Some g.n) (environment_at a e).bindings (environment_at b.heap f).bindings) g.around.home
      (subst (λ z. AlikeNames (counters files p).name g.v (g.v.home f) z (environment_at a e).bindings (environment_at b.heap f).bindings) g.own own_environments.names)

  place : place_of (environment_at b.heap f) (files file).name ≡ Some g.n
  place = own_place (counters files p) g.v file g.n (environment_at a e).bindings (environment_at b.heap f).bindings names

  cell_is : o.cell ≡ record { environment = f; place = g.n }
  cell_is = some_same (sym o.is_cell ∙ looked_up b.heap f (files file).name (environment_at b.heap f) g.n refl place)

  abbrev binding : Binding
  binding = record (slice_index_or (environment_at b.heap f).bindings g.n no_binding) { value = Some (object o.function) }

  binding_named : (slice_index_or (environment_at b.heap f).bindings g.n no_binding).name ≡ (files file).name
  binding_named = (bytes_eq-Decides _ (files file).name).0 (place_named (files file).name (environment_at b.heap f).bindings g.n place).has

  changed : environment_at k f ≡ record { outer = (environment_at b.heap f).outer; bindings = set (environment_at b.heap f).bindings g.n binding }
  changed = subst (λ (z : Cell). environment_at o.store.heap z.environment ≡ record {
    outer = (environment_at b.heap z.environment).outer;
    bindings = slice_set (environment_at b.heap z.environment).bindings z.place (record (binding_at b.heap z) { value = Some (object o.function) });
  }) cell_is o.own

  -- what stays

  global_unpaired : (n : ℕ) → Paired g.v.objects n global → ⊥
  global_unpaired = (g.lasts.objects global x.hidden.global_low x.hidden.global_unpaired).0

  global_low : global < length b.heap.objects
  global_low = (grown global x.hidden.global_low).0

  objects_stay : ObjectsStay g.v b.heap k
  objects_stay m r i = o.objects r (g.both.heaps.objects.right_bound m r i) (λ z. global_unpaired m (subst (λ n. Paired g.v.objects m n) z i)) (λ z. cov.itself.unpaired m (subst (λ n. Paired g.v.objects m n) z i))

  environment_same : (d : ℕ) → d < next_environment b.heap → d ≢ f → environment_at k d ≡ environment_at b.heap d
  environment_same d low ne = o.environments d low (λ z. ne (z ∙ ap (λ (y : Cell). y.environment) cell_is))

  environment_low : (d : ℕ) → d < next_environment b.heap → d < next_environment k
  environment_low d low = let z = o.one_more in omega (arith, low, z)

  pub both_after : Both (counters files p) g.v a o.store.heap
  both_after = both_own (counters files p) g.v a b.heap k g.both file e f g.n g.around g.own binding binding_named objects_stay
      (λ d m i. environment_low m (g.both.environments.right_bound d m i)) (λ d m i ne. environment_same m (g.both.environments.right_bound d m i) ne) changed

  -- its data are new, or were there
  new_data : (r : ℕ) → length b.heap.objects ≤ r → IsData g.v r
  new_data r low = record {
    unpaired = λ n i. (let l = g.both.heaps.objects.right_bound n r i in omega (arith, low, l));
    apart = λ z. (let l = global_low in omega (arith, low, l, z));
  }

  data_after : OnMembers (λ r z. IsData g.v r) o.after
  data_after =
      let tests = o.made (is_data g.v) (λ r low. data_test g.v r (new_data r low))
      (both_members (λ r z. IsData g.v r) (λ r z. IsData g.v r) (λ r z. IsTrue (is_data g.v r)) (λ r z d d'. data_test g.v r d) ms cov.members cov.members) in
      both_members (λ r z. IsTrue (is_data g.v r)) (λ r z. IsTrue (is_data g.v r)) (λ r z. IsData g.v r) (λ r z d d'. data_by g.v r d) o.after tests tests

  -- what is held then, of the files that have started
  module _ (started : List ℕ) (itself : stands_in file started ≡ true) (some : 0 < length started) (more : (m : ℕ) → stands_in m s.started ≡ true → stands_in m started ≡ true)
      (each_once : EachOnce (is_counted p) started) (entered : AllStarted started s.log) (told : json_put (files file).path.units json (json_members ms) ≡ expected files started s.log)
      (same_members : x.hidden.members ≡ ms) (same_data : stands_in file s.started ≡ true → member_at ms (files file).path.units ≡ Some o.file) where
    gives_own : GivesData files q g.v started k o.after file (slice_index_or (environment_at k f).bindings g.n no_binding)
    gives_own = record {
      function = o.ready.function;
      bound = ap (value_of k) (sym (o.same_cell ∙ cell_is)) ∙ o.ready.bound;
      low = function_low k o.ready.function o.ready.code o.ready.inner o.ready.kind;
      unpaired = (new_data o.ready.function o.new_function).unpaired;
      apart = (new_data o.ready.function o.new_function).apart;
      code = o.ready.code;
      around = o.ready.inner;
      kind = o.ready.kind;
      number = o.ready.number;
      x = o.ready.a;
      y = o.ready.b;
      z = o.ready.c;
      is_code = o.ready.is_code;
      around_low = o.ready.low;
      around_unpaired = λ d i. (let l = g.both.environments.right_bound d o.ready.inner i in let n = o.new_inner in omega (arith, l, n));
      place = o.ready.place;
      named = o.ready.named;
      held = o.file;
      holds = o.ready.held;
      there = o.there;
      is_started = itself;
    }

    held_there : (own : ℕ) (y : Placed) → stands_in own s.started ≡ true → member_at ms (path own) ≡ Some y → member_at o.after (path own) ≡ Some y
    held_there own y is at = ⊎_elim
        (λ (z : own ≡ file).
        ap (λ n. member_at o.after (path n)) z ∙ o.there
        ∙ sym (same_data (subst (λ n. stands_in n s.started ≡ true) z is)) ∙ ap (λ n. member_at ms (path n)) (sym z) ∙ at)
        (λ (ne : own ≡ file → ⊥). o.kept (path own) y (pre.paths file own (λ z. ne (sym z)) in_program (counted_of (is_counted p) s.started x.hidden.each_once own is)) at)
        (cases_eq own file)

    gives_other : (d m i own : ℕ) → Paired w.environments d m → w.own m ≡ Some i → m ≢ f →
        GivesData files q w s.started t.heap x.hidden.members own (slice_index_or (environment_at t.heap m).bindings i no_binding) →
        GivesData files q g.v started k o.after own (slice_index_or (environment_at k m).bindings i no_binding)
    gives_other d m i own pair is ne old =
        let h = gives_later files q g.lasts old in
        let object_same = o.objects h.function h.low h.apart (cov.no_function h.function h.code h.around h.low h.kind) in
        let around_same = environment_same h.around h.around_low (λ z. h.around_unpaired e (subst (λ n. Paired g.v.environments e n) (sym z) g.around.pair)) in
        subst (λ y. GivesData files q g.v started k o.after own y)
        (sym (ap (λ (y : Environment). slice_index_or y.bindings i no_binding) (environment_same m (g.both.environments.right_bound d m (g.later.environments d m pair)) ne) ∙ g.own_stays d m i pair is))
        (record {
          function = h.function;
          bound = h.bound;
          low = object_same.0;
          unpaired = h.unpaired;
          apart = h.apart;
          code = h.code;
          around = h.around;
          kind = ap (λ (y : ObjectRecord). y.kind) object_same.1 ∙ h.kind;
          number = h.number;
          x = h.x;
          y = h.y;
          z = h.z;
          is_code = h.is_code;
          around_low = environment_low h.around h.around_low;
          around_unpaired = h.around_unpaired;
          place = h.place;
          named = ap (λ y. place_of y actual) around_same ∙ h.named;
          held = h.held;
          holds = ap (λ (y : Environment). (slice_index_or y.bindings h.place no_binding).value) around_same ∙ h.holds;
          there = held_there own h.held h.is_started (subst (λ z. member_at z (path own) ≡ Some h.held) same_members h.there);
          is_started = more own h.is_started;
        })

    gives_at : (d m i own : ℕ) → Paired g.v.environments d m → g.v.home m ≡ Within own → g.v.own m ≡ Some i →
        GivesData files q g.v started k o.after own (slice_index_or (environment_at k m).bindings i no_binding)
    gives_at d m i own pair home is = ⊎_elim
        (λ (z : (d ≡ e) × (m ≡ f)).
        let n : i ≡ g.n = some_same (sym is ∙ ap g.v.own z.1 ∙ g.own) in
        let l : own ≡ file = within_same (sym home ∙ ap g.v.home z.1 ∙ g.around.home) in
        subst (λ u. GivesData files q g.v started k o.after u (slice_index_or (environment_at k m).bindings i no_binding)) (sym l)
        (subst (λ u. GivesData files q g.v started k o.after file (slice_index_or (environment_at k u).bindings i no_binding)) (sym z.1)
        (subst (λ u. GivesData files q g.v started k o.after file (slice_index_or (environment_at k f).bindings u no_binding)) (sym n) gives_own)))
        (λ (j : Paired w.environments d m).
        let is' : w.own m ≡ Some i = sym (g.later.own d m j) ∙ is in
        gives_other d m i own j is' (λ z. (let l = x.environments.right_bound d m j in let new = g.new in omega (arith, l, new, z)))
        (x.hidden.gives d m i own j (sym (g.later.home d m j) ∙ home) is'))
        (g.inner d m i pair is)

    root_same : (root < length k.objects) × (object_at k root ≡ object_at t.heap root)
    root_same =
        let old = grown root x.hidden.root_low in
        let pair : Paired g.v.objects root root = g.both.heaps.built_in root (omega arith) (λ e. omega arith) in
        let now = objects_stay root root pair in
        (now.0, now.1 ∙ old.1)

    names_there : global_environment < next_environment b.heap
    names_there = g.both.environments.right_bound 0 0 g.both.global.pair

    names_same : environment_at k global_environment ≡ environment_at b.heap global_environment
    names_same = environment_same global_environment names_there (λ z. (let l = x.hidden.names_low in let new = g.new in omega (arith, l, new, z)))

    pub hidden_after : Holds files (is_counted p) (counted_program files p) g.v s.log started o.store.heap
    hidden_after =
        let globals = g.globals x.hidden.names_low x.hidden.place x.hidden.named in
        record {
          members = o.after;
          covering = covered c some o.covered cov.itself data_after;
          told = o.paths ∙ told;
          gives = gives_at;
          each_once = each_once;
          countable = x.hidden.countable;
          entered = entered;
          older = o.older;
          root_low = root_same.0;
          root_same = subst (λ y. SameProperties (object_at opening root) y) (sym root_same.1) x.hidden.root_same;
          global_low = o.covered.low;
          global_unpaired = global_unpaired;
          names_low = environment_low global_environment names_there;
          place = x.hidden.place;
          named = ap (λ y. place_of y (codes "globalThis")) names_same ∙ globals.0;
          is_global = ap (λ (y : Environment). (slice_index_or y.bindings x.hidden.place no_binding).value) names_same ∙ ap (λ (y : Binding). y.value) globals.1 ∙ x.hidden.is_global;
        }
