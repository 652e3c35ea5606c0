-- The code of a mark's counter takes a step, and the coverage has one entry more.
use Rattle.std.proofs.Common.{◌≡◌, ◌≢◌, ℕ, suc, ◌+◌, ◌-◌, ◌^◌, ◌<◌, ◌≤◌, Bool, true, false, ◌&&◌, IsTrue, List, [], ◌∷◌, ◌++◌, length, codes, Option, Some, None, refl, sym, ap, ◌∙◌, subst, ⊎_elim, arith, if◌then◌else◌}
use Rattle.std.specs.Prelude.{nat_lt, decimal, slice_get, slice_index_or, option_map}
use Rattle.std.proofs.lemmas.Bool.{cases_eq}
use Rattle.std.proofs.lemmas.Bool.Decides.{nat_tests}
use Rattle.std.proofs.lemmas.List.{length_push, length-set, get_or_push, get_or-set_other}
use Rattle.js_terms.specs.Mark.{Mark}
use Rattle.js_tree.specs.Marked.{is_mark, one_if, times}
use Rattle.js_terms.specs.declared.construct.ConstructKind.{ConstructKind}
use Rattle.js_terms.specs.declared.construct.ConstructKind.TheVariants as construct_kind
use Rattle.js_terms.specs.declared.operators.UpdateOperator.TheVariants as update
use Rattle.js_tree.specs.Plain.{Call, PostfixUpdate, no_expr}
use Rattle.js_value.specs.State.{ObjectRecord, Environment, Heap, Store}
use Rattle.js_value.specs.Objects.{no_object, object_at, kind_of, own_of, count_value, set}
use Rattle.js_value.specs.Environments.{no_environment, no_binding, next_environment, environment_at, lookup, place_of}
use Rattle.js_value.specs.Realm.{undefined, global_environment, opening}
use Rattle.js_value.specs.Running.{note}
use Rattle.js_meaning.specs.Program.{Source, Sources}
use Rattle.js_meaning.specs.Meaning.{comp_expr}
use Rattle.js_meaning.specs.declared.outcome.Completion.{Completion}
use Rattle.js_meaning.specs.Effects.{Comp, handle}
use Rattle.js_meaning.specs.Steps.{Stopped, eval, ran_by}
use Rattle.js_meaning.specs.Files.{inside, this_bound}
use Rattle.js_meaning.proofs.Handle.{exec_eval}
use Rattle.js_meaning.specs.Points.{TakesOne}
use Rattle.js_two_runs.specs.Pairs.{Paired}
use Rattle.cov_rewritten.specs.Counters.{spelt, name, counted_in, counter}
use Rattle.js_suits.specs.Laws.{is_construct, has_construct}
use Rattle.js_suits.specs.Settings.{Within, World, Setting}
use Rattle.js_lockstep.specs.Worlds.{root, SameProperties, Around, AlikeStores}
use Rattle.js_lockstep.specs.Trees.{Ticks}
use Rattle.js_lockstep.proofs.Rules.{later_same}
use Rattle.js_lockstep.proofs.Heaps.{both_of}
use Rattle.js_counter.specs.Represents.{Placed, PlacedMembers, empty, plain, value_at, json_of, json_members, json_ticked_members, OnMembers, Stands, Holds as HoldsPlaced, member_at, Within as WithinData, address, record_of, ticked, ticked_members}
use Rattle.js_counter.specs.Literals.{data_of}
use Rattle.js_counter.specs.Steady.{actual, Spells, Ready, called}
use Rattle.js_counter.specs.Preamble.{Covered}
use Rattle.js_counter.proofs.Heaps.{pushed, env_of, below_top, scope_is}
use Rattle.js_counter.proofs.Data.{on_ticked_members, distinct_ticked, json_members_ticked, member_on, within_on}
use Rattle.js_counter.proofs.Decimals.{spells}
use Rattle.js_counter.proofs.Calls.{counts_two, counts_three, holds_ticked, stops_two, stops_three}
use Rattle.js_counter.proofs.Laws.{kind_apart, runs_one}
use Rattle.js_counted.specs.Files.{FileCounters, kind_key, number_keys, way, counted_by, expected}
use Rattle.js_counted.specs.Numbers.{number_in, json_member, IsCountable}
use Rattle.js_counted.specs.Holds.{global, coverage_text, IsData, Covering, uncovered, covered, GivesData, Holds}
use Rattle.js_counted.specs.Program.{is_counted, counted_program, counters, Prepared}
use Rattle.js_counted.specs.Parts.{CountersCount}
use Rattle.js_counted.proofs.Numbers.{entries_counted}
use Rattle.js_counted.proofs.Data.{member_json, last_key, Reached, reaches, member_after, countable_more, entered_more, expected_at, expected_more}
use Rattle.js_counted.proofs.Alone.{ObjectsStay, EnvironmentsStay, both_alone}
use Rattle.js_counted.proofs.Own.{OwnFound, own_lookup}
use Rattle.js_counted.proofs.Keeps.{counters_keep}

some_same : {X : Type 0} {a b : X} → Some a ≡ Some b → a ≡ b
some_same e = cc

true_of : (b : Bool) → IsTrue b → b ≡ true
true_of b t = t

first_true : (a b : Bool) → (a && b) ≡ true → a ≡ true
first_true a b e = grind arith

-- a mark is of a counted file
marked_file : (p : Sources) (mark : Mark) → IsTrue (has_construct p mark) → is_counted p mark.file ≡ true
marked_file p mark has = by (slice_get p.files mark.file) (true_of (has_construct p mark) has)
  where
    by : (o : Option Source) → is_construct mark.file o mark ≡ true → elim o [ None ↦ false | Some source ↦ source.counted ] ≡ true
    by None e = absurd (let z = e in cc)
    by (Some source) e = first_true source.counted _ e

times_low : (m : Mark) (log : List Mark) → times m log ≤ length log
times_low m [] = omega arith
times_low m (n ∷ log) = by (is_mark m n) (times_low m log)
  where
    by : (b : Bool) → times m log ≤ length log → one_if b + times m log ≤ suc (length log)
    by true l = omega (arith, l)
    by false l = omega (arith, l)

spells_number : (n : ℕ) → n < 2 ^ 32 - 1 → Spells (spelt n) n
spells_number n low =
    let small : nat_lt n (2 ^ 64) ≡ true = grind (arith, nat_tests, low) in
    subst (λ b. Spells (if b then decimal n else codes "0") n) (sym small) (spells n (omega (arith, low)))

module _ (files : ℕ → FileCounters) (p : Sources) (pre : Prepared files p) where
  abbrev c : Setting
  c = counters files p

  abbrev q : Sources
  q = counted_program files p

  module _ (mark : Mark) (has : IsTrue (has_construct p mark)) (w : World) (e f : ℕ) (r : Around w (Within mark.file) e f)
      (s t : Store) (x : AlikeStores c w s t) where
    abbrev file : ℕ
    file = mark.file

    abbrev path : List ℕ
    path = (files mark.file).path.units

    abbrev n : ℕ
    n = times mark s.log

    counted : is_counted p mark.file ≡ true
    counted = marked_file p mark has

    countable : IsCountable mark
    countable = (pre.zeros mark has).0

    at : OwnFound (counters files p) w mark.file (lookup t.heap f (files mark.file).name)
    at = own_lookup c w mark.file s t x e f r

    gives : GivesData files q w s.started t.heap x.hidden.members mark.file (slice_index_or (environment_at t.heap at.f).bindings at.n no_binding)
    gives = x.hidden.gives at.e at.f at.n mark.file at.around.pair at.around.home at.own

    ready : Ready q t.heap f (files mark.file).name (value_at gives.held)
    ready = record {
      cell = record { environment = at.f; place = at.n };
      found = at.is;
      function = gives.function;
      bound = gives.bound;
      code = gives.code;
      inner = gives.around;
      kind = gives.kind;
      number = gives.number;
      a = gives.x;
      b = gives.y;
      c = gives.z;
      is_code = gives.is_code;
      low = gives.around_low;
      place = gives.place;
      named = gives.named;
      held = gives.holds;
    }

    -- the number that is there
    held_json : json_of gives.held ≡ counted_by mark.file s.log (data_of (files mark.file).zero)
    held_json = some_same (ap (option_map json_of) (sym gives.there) ∙ member_json x.hidden.members path ∙ ap (λ ms. json_member ms path) x.hidden.told
        ∙ expected_at files (is_counted p) pre.paths s.started s.log mark.file x.hidden.each_once counted gives.is_started)

    number : number_in (json_of gives.held) (way mark) ≡ Some n
    number = ap (λ j. number_in j (way mark)) held_json
        ∙ entries_counted mark.file s.log (data_of (files mark.file).zero) mark 0 x.hidden.countable countable refl (pre.zeros mark has).1
        ∙ ap (λ m. Some m) (let z : 0 + n ≡ n = omega arith in z)

    reached : Reached gives.held (kind_key mark.kind) (number_keys mark.kind mark.number mark.path) n
    reached = reaches (number_keys mark.kind mark.number mark.path) gives.held (kind_key mark.kind) n number

    abbrev last : List ℕ
    last = last_key (kind_key mark.kind) (number_keys mark.kind mark.number mark.path)

    abbrev place : ℕ
    place = address reached.at

    -- the heap afterwards
    abbrev inner : Environment
    inner = env_of gives.around (this_bound undefined)

    abbrev after : Heap
    after = set place last (count_value (n + 1)) (pushed inner t.heap)

    after_is : set place last (count_value (n + 1)) (called gives.around t.heap) ≡ after
    after_is = ap (set place last (count_value (n + 1))) (scope_is (this_bound undefined) gives.around t.heap)

    -- the data stand in the coverage
    record There : Type 0 where
      o : ℕ
      some : 0 < length s.started
      is : Covered t.heap global coverage_text.units o x.hidden.members
      data_o : IsData w o
      data_ms : OnMembers (λ o r. IsData w o) x.hidden.members

    empty_none : (ms : PlacedMembers) (y : Placed) → ms ≡ empty → member_at ms path ≡ Some y → ⊥
    empty_none ms y z g = absurd (let u : member_at empty path ≡ Some y = subst (λ m. member_at m path ≡ Some y) z g in let v = u in cc)

    there_by : Covering w t.heap x.hidden.members s.started → There
    there_by (uncovered z s z') = absurd (empty_none x.hidden.members gives.held z gives.there)
    there_by (covered o some is d ds) = record { o = o; some = some; is = is; data_o = d; data_ms = ds }

    there : There
    there = there_by x.hidden.covering

    whole : WithinData (plain there.o x.hidden.members) path (way mark) reached.at last n
    whole = (gives.held, gives.there, reached.within)

    -- what is written to is none of these
    place_data : IsData w place
    place_data = within_on (λ o r. IsData w o) (way mark) (plain there.o x.hidden.members) path reached.at last n whole (there.data_o, there.data_ms)

    held_there : HoldsPlaced t.heap gives.held
    held_there = member_on (Stands t.heap) x.hidden.members path gives.held gives.there there.is.holds.1

    place_stands : Stands t.heap place (record_of reached.at)
    place_stands = within_on (Stands t.heap) (way mark) (plain there.o x.hidden.members) path reached.at last n whole there.is.holds

    object_same : (o : ℕ) → o ≢ place → object_at after o ≡ object_at t.heap o
    object_same o ne = get_or-set_other t.heap.objects place o _ no_object ne

    object_low : (o : ℕ) → o < length t.heap.objects → o < length after.objects
    object_low o low = subst (λ m. o < m) (sym (length-set t.heap.objects place _)) low

    environment_same : (d : ℕ) → d < next_environment t.heap → environment_at after d ≡ environment_at t.heap d
    environment_same d low = below_top inner t.heap d low

    one_more : next_environment after ≡ next_environment t.heap + 1
    one_more = length_push t.heap.environments inner

    objects_stay : ObjectsStay w t.heap after
    objects_stay o m i = (object_low m (x.heaps.objects.right_bound o m i), object_same m (λ z. place_data.unpaired o (subst (λ k. Paired w.objects o k) z i)))

    environments_stay : EnvironmentsStay w t.heap after
    environments_stay d m i = let low = x.environments.right_bound d m i in (omega (arith, low, one_more), environment_same m low)

    -- what is held afterwards
    abbrev members_after : PlacedMembers
    members_after = ticked_members x.hidden.members path (way mark)

    covering_after : Covering w after members_after s.started
    covering_after = covered there.o there.some
        (record {
          low = object_low global there.is.low;
          property = there.is.property;
          has = ap (λ y. own_of y coverage_text.units) (object_same global (λ z. place_data.apart (sym z))) ∙ there.is.has;
          is = there.is.is;
          apart = there.is.apart;
          holds = subst (λ h. HoldsPlaced h (ticked (plain there.o x.hidden.members) (path ∷ way mark))) after_is
              (holds_ticked t.heap gives.around n (plain there.o x.hidden.members) reached.at path (way mark) last there.is.holds there.is.distinct whole);
          distinct = distinct_ticked (plain there.o x.hidden.members) (path ∷ way mark) there.is.distinct;
        })
        there.data_o (on_ticked_members (λ o. IsData w o) x.hidden.members path (way mark) there.data_ms)

    told_after : json_members members_after ≡ expected files s.started (s.log ++ mark ∷ [])
    told_after = json_members_ticked x.hidden.members path (way mark) ∙ ap (λ ms. json_ticked_members ms path (way mark)) x.hidden.told
        ∙ expected_more files (is_counted p) pre.paths s.started s.log mark x.hidden.each_once counted gives.is_started

    gives_after : (d m i own : ℕ) → Paired w.environments d m → GivesData files q w s.started t.heap x.hidden.members own (slice_index_or (environment_at t.heap m).bindings i no_binding) →
        GivesData files q w s.started after members_after own (slice_index_or (environment_at after m).bindings i no_binding)
    gives_after d m i own pair g =
        let a = member_after x.hidden.members path (kind_key mark.kind) (number_keys mark.kind mark.number mark.path) (files own).path.units g.held g.there in
        let apart : g.function ≢ place = λ z. kind_apart reached.at _ _ (ap (λ (y : ObjectRecord). y.kind) (sym place_stands.1) ∙ ap (kind_of t.heap) (sym z) ∙ g.kind) in
        let around = environment_same g.around g.around_low in
        subst (λ b. GivesData files q w s.started after members_after own b) (sym (ap (λ (y : Environment). slice_index_or y.bindings i no_binding) (environment_same m (x.environments.right_bound d m pair))))
        (record {
          function = g.function;
          bound = g.bound;
          low = object_low g.function g.low;
          unpaired = g.unpaired;
          apart = g.apart;
          code = g.code;
          around = g.around;
          number = g.number;
          x = g.x;
          y = g.y;
          z = g.z;
          is_code = g.is_code;
          kind = ap (λ (y : ObjectRecord). y.kind) (object_same g.function apart) ∙ g.kind;
          around_low = let low = g.around_low in omega (arith, low, one_more);
          around_unpaired = g.around_unpaired;
          place = g.place;
          named = ap (λ y. place_of y actual) around ∙ g.named;
          held = a.after;
          holds = ap (λ (y : Environment). (slice_index_or y.bindings g.place no_binding).value) around ∙ g.holds ∙ ap (λ v. Some v) (sym a.value);
          there = a.is;
          is_started = g.is_started;
        })

    older_after : (m o : ℕ) → m < length after.environments → (environment_at after m).outer ≡ Some o → o < m
    older_after m o low out = ⊎_elim
        (λ (z : m ≡ next_environment t.heap).
        let y : Some gives.around ≡ Some o = sym (ap (λ (y : Environment). y.outer) (get_or_push t.heap.environments inner no_environment m (sym z))) ∙ out in
        let l = gives.around_low in
        let u : gives.around ≡ o = some_same y in
        omega (arith, z, l, u))
        (λ (z : m ≡ next_environment t.heap → ⊥).
        let below : m < next_environment t.heap = by_less m (next_environment t.heap) z (omega (arith, low, one_more)) in
        x.hidden.older m o below (sym (ap (λ (y : Environment). y.outer) (environment_same m below)) ∙ out))
        (cases_eq m (next_environment t.heap))
      where
        by_less : (a b : ℕ) → (a ≡ b → ⊥) → a < suc b → a < b
        by_less a b ne l = grind (arith, ne, l)

    root_apart : root ≢ place
    root_apart z = place_data.unpaired root (subst (λ k. Paired w.objects root k) z (x.heaps.built_in root (omega arith) (λ e. omega arith)))

    hidden_after : Holds files (is_counted p) q w (s.log ++ mark ∷ []) s.started after
    hidden_after =
        let names = environment_same global_environment x.hidden.names_low in
        let low = x.hidden.names_low in
        record {
          members = members_after;
          covering = covering_after;
          told = told_after;
          gives = λ d m i own pair home is. gives_after d m i own pair (x.hidden.gives d m i own pair home is);
          each_once = x.hidden.each_once;
          countable = countable_more s.log mark x.hidden.countable countable;
          entered = entered_more s.started s.log mark x.hidden.entered gives.is_started;
          older = older_after;
          root_low = object_low root x.hidden.root_low;
          root_same = subst (λ y. SameProperties (object_at opening root) y) (sym (object_same root root_apart)) x.hidden.root_same;
          global_low = object_low global x.hidden.global_low;
          global_unpaired = x.hidden.global_unpaired;
          names_low = omega (arith, low, one_more);
          place = x.hidden.place;
          named = ap (λ y. place_of y (codes "globalThis")) names ∙ x.hidden.named;
          is_global = ap (λ (y : Environment). (slice_index_or y.bindings x.hidden.place no_binding).value) names ∙ x.hidden.is_global;
        }

    alike_after : AlikeStores c w (note mark s) (record t { heap = after })
    alike_after =
        let b = both_alone c w s.heap t.heap after (both_of c x) objects_stay environments_stay in
        record { heaps = b.heaps; environments = b.environments; global = b.global; cache = x.cache; requiring = x.requiring; output = x.output; hidden = hidden_after }

    -- the step
    room_there : length s.log < 2 ^ 53 - 1 → n + 1 < 2 ^ 53
    room_there room = let l = times_low mark s.log in omega (arith, l, room)

    takes : (k : ConstructKind) → n + 1 < 2 ^ 53 → WithinData gives.held (kind_key k) (number_keys k mark.number mark.path) reached.at (last_key (kind_key k) (number_keys k mark.number mark.path)) n →
        TakesOne q (comp_expr q (PostfixUpdate None update.Increment (counted_in (Call None (name (files mark.file).name) no_expr) mark k)) f) t (count_value n)
        (record t { heap = set place (last_key (kind_key k) (number_keys k mark.number mark.path)) (count_value (n + 1)) (called gives.around t.heap) })
    unfolding gives ready
    takes construct_kind.Statement low there' = counts_two q f (files mark.file).name (codes "s") (spelt mark.number) mark.number n gives.held reached.at t ready (spells_number mark.number countable.number_low) low held_there there'
    takes construct_kind.Function low there' = counts_two q f (files mark.file).name (codes "f") (spelt mark.number) mark.number n gives.held reached.at t ready (spells_number mark.number countable.number_low) low held_there there'
    takes construct_kind.Branch low there' = counts_three q f (files mark.file).name (codes "b") (spelt mark.number) (spelt mark.path) mark.number mark.path n gives.held reached.at t ready
        (spells_number mark.number countable.number_low) (spells_number mark.path countable.path_low) low held_there there'

    stops : (k : ConstructKind) (next : Completion → Comp) → eval (inside q) 0 (handle (comp_expr q (PostfixUpdate None update.Increment (counted_in (Call None (name (files mark.file).name) no_expr) mark k)) f) next) t ≡ Stopped t
    stops construct_kind.Statement next = stops_two q f (files mark.file).name (value_at gives.held) t ready (codes "s") (spelt mark.number) next
    stops construct_kind.Function next = stops_two q f (files mark.file).name (value_at gives.held) t ready (codes "f") (spelt mark.number) next
    stops construct_kind.Branch next = stops_three q f (files mark.file).name (value_at gives.held) t ready (codes "b") (spelt mark.number) (spelt mark.path) next

    pub ticks : (left : Sources) → Ticks c left q w mark s t (comp_expr q (counter (files mark.file).name mark) f)
    ticks left = record {
      v = w;
      t' = record t { heap = after };
      value = count_value n;
      later = later_same w;
      alike = alike_after;
      stop = t;
      told = record { output = x.output; counted = (counters_keep files p).tells w s.log s.started t.heap x.hidden };
      none = λ j. exec_eval (inside q) 0 (handle (comp_expr q (counter (files mark.file).name mark) f) j) t ∙ ap ran_by (stops mark.kind j);
      some = λ m j room. (runs_one q (comp_expr q (counter (files mark.file).name mark) f) t (count_value n) (record t { heap = after })
          (subst (λ h. TakesOne q (comp_expr q (counter (files mark.file).name mark) f) t (count_value n) (record t { heap = h })) after_is (takes mark.kind (room_there room) reached.within))).1 m j;
    }

pub counters_count : CountersCount
counters_count files p pre = record {
  counts = λ left mark has w e f r s t x. ticks files p pre mark has w e f r s t x left;
}
