-- The first call of a file's function, and what it leaves.
use Rattle.std.proofs.Common.{◌≡◌, ◌≢◌, ℕ, suc, ◌+◌, ◌<◌, ◌≤◌, Bool, not, true, false, List, [], ◌∷◌, ◌++◌, length, Some, None, refl, sym, ap, subst, ◌∙◌, ⊎_elim, arith}
use Rattle.std.specs.Prelude.{slice_index_or, slice_set, IsTrue}
use Rattle.std.specs.Str.{bytes_eq}
use Rattle.std.proofs.lemmas.Bool.{cases_eq}
use Rattle.std.proofs.lemmas.List.{length-set, length_push}
use Rattle.std.proofs.Math.Seq.{get_or-append_seam}
use Rattle.js_terms.specs.declared.words.Spelled.{Spelled}
use Rattle.js_value.specs.declared.value.Value.{Value}
use Rattle.js_value.specs.declared.value.Value.TheVariants as value
use Rattle.js_value.specs.declared.value.Primitive.TheVariants as primitive
use Rattle.js_value.specs.declared.built_in.Place.TheVariants.{ObjectPrototype}
use Rattle.js_value.specs.State.{Property, ObjectRecord, Binding, Environment, Heap, Store}
use Rattle.js_value.specs.Objects.{object_at, no_object, next_object, own_of, assigned, get, with_value_of}
use Rattle.js_value.specs.Environments.{Done, next_environment, no_binding, environment_at, place_of, binding_at, value_of, assign_answer, assign_to, assign}
use Rattle.js_value.specs.OnObjects.{or_undefined}
use Rattle.js_value.specs.Functions.{name_units}
use Rattle.js_value.specs.Realm.{number_of, object, text, undefined}
use Rattle.js_meaning.specs.declared.outcome.Completion.TheVariants.{Normal}
use Rattle.js_meaning.specs.Effects.{Entry, Call, ret}
use Rattle.js_meaning.specs.Program.{Sources}
use Rattle.js_meaning.specs.Scopes.{shape_of, closed}
use Rattle.js_meaning.specs.Meaning.{with_value, read, call, named_function, comp_expr, comp_stmt}
use Rattle.js_meaning.specs.Files.{call_code}
use Rattle.js_meaning.specs.Points.{Comes, Asks, point, onward}
use Rattle.js_value.specs.Lookups.{Grown, Shows}
use Rattle.js_value.proofs.LookupLemmas.{grown_more, resolved_kept}
use Rattle.js_counter.specs.Represents.{Json, Placed, PlacedMembers, empty, plain, unit_text, json_of, json_members, value_at, properties_of, plain_object, On, Stands, Holds, Off, DistinctMembers, OnMembers, member_at}
use Rattle.js_counter.specs.Literals.{Literal, expr_of, data_of, Makes}
use Rattle.js_counter.specs.Literals as L
use Rattle.js_counter.specs.Steady.{gives_actual, call_of, Ready}
use Rattle.js_counter.specs.First.{hash_, data_, actual_, data_of_, covering, replacing, locals, free, Bare}
use Rattle.js_counter.specs.Preamble.{put_in, json_put, Fresh, Uncovered, Covered, NotInherited, OtherHash, another, no_hash, Opened, OpensFirst, OpensOther, OpensAnew, OpensAgain}
use Rattle.js_meaning.proofs.PointLemmas.{point_handle, reads_name, asks_call, takes_one}
use Rattle.js_counter.proofs.Heaps.{env_of, below_top}
use Rattle.js_counter.proofs.Data.{holds_grown, on_both, both_members, Put, put_by, holds_put, members_put, stands_put, member_own, member_on}
use Rattle.js_counter.proofs.Points.{found_own, owned_by}
use Rattle.js_counter.proofs.Makes.{From, Below, literals_make}
use Rattle.js_counter.proofs.Locals.{e, heap_of, now}
use Rattle.js_counter.proofs.FirstCall.{first_runs, top_same}
use Rattle.js_counter.proofs.Cover.{get_none, put_new, put_old, covers_there, covers_made, gets_data, test, test_absent, test_there, replaces, leaves}
use Rattle.js_counter.proofs.Closed.{assigned_env, assigned_other, closed_grows, closed_kind, assigned_value, assigned_shows, grown_length}
use Rattle.js_counter.proofs.Puts.{key_same, on_put, distinct_put, put_there, put_elsewhere, json_of_put, json_same, properties_new, properties_old, member_none, property_new, bare_grown, covered_grown}

bare_literal : (key : List ℕ) (x : Literal) (env : ℕ) → named_function (expr_of x) key env ≡ None
bare_literal key L.null env = refl
bare_literal key (L.truth b) env = refl
bare_literal key (L.negative sp neg e low) env = refl
bare_literal key (L.number sp n e) env = refl
bare_literal key (L.spelled_text sp) env = refl
bare_literal key (L.array xs) env = refl
bare_literal key (L.plain ms) env = refl

grown_then : (h k l : Heap) → Grown h k → Grown k l → Grown h l
grown_then h k l a b o low = let x = a o low in let y = b o x.0 in (y.0, y.1 ∙ x.1)

-- what is under a path
pub get_member_at : (h : Heap) (o : ℕ) (ms : PlacedMembers) (key : List ℕ) (y : Placed) → Holds h (plain o ms) → member_at ms key ≡ Some y → get h o key ≡ Some (value_at y)
get_member_at h o ms key y a e = let w = owned_by h (plain o ms) key y e a in found_own o h key w.p w.own_is ∙ ap Some w.value_is

module _ (p : Sources) (s : Store) (env : ℕ) (name : List ℕ) (path hash gcv : Spelled) (made : Literal) (g : ℕ) (f : Fresh p s.heap env name path hash gcv made g) where
  abbrev E : ℕ
  E = e s f.outer

  abbrev P : Value
  P = text path.units

  abbrev H : Value
  H = text hash.units

  abbrev G : Value
  G = text gcv.units

  abbrev u : Value
  u = undefined

  abbrev now_with : List ObjectRecord → List Binding → Store
  now_with = now s f.outer

  abbrev at0 : Store
  at0 = now_with s.heap.objects (locals P H G u u u u)

  pub m : Makes (comp_expr p (expr_of made) E) at0 (data_of made)
  m = literals_make p made E at0 f.keys

  abbrev D : Value
  D = value_at m.placed

  abbrev X1 : List ObjectRecord
  X1 = m.heap.objects

  ask : Entry
  ask = Call f.code f.outer undefined []

  asks : point (comp_expr p (call_of name) env) s ≡ Asks (Call f.code f.outer undefined []) ret s
  asks = point_handle (read name env) (with_value (λ f. call f undefined [])) s
      ∙ ap (λ q. onward q (with_value (λ f. call f undefined []))) (reads_name s name env f.seen.cell (object f.function) f.from_here f.bound)
      ∙ asks_call s f.function f.code f.outer undefined [] f.kind

  module _ (c : ℕ) (X2 X3 : List ObjectRecord) (ms after : PlacedMembers) (file : Placed) (json : Json)
      (covers : point (comp_expr p covering E) (now_with X1 (locals P H G D (object g) u u)) ≡ Comes (Normal (object c)) (now_with X2 (locals P H G D (object g) u u)))
      (replaced : point (comp_stmt p replacing [] E) (now_with X2 (locals P H G D (object g) (object c) u)) ≡ Comes (Normal undefined) (now_with X3 (locals P H G D (object g) (object c) u)))
      (covered : Covered (heap_of s f.outer X3 (locals P H G D (object g) (object c) u)) g gcv.units c after)
      (there : member_at after path.units ≡ Some file) (tells : json_of file ≡ json)
      (paths : json_members after ≡ json_put path.units json (json_members ms))
      (others : (o : ℕ) → o < length s.heap.objects → o ≢ g → o ≢ c → (o < length X3) × (slice_index_or X3 o no_object ≡ object_at s.heap o))
      (longer : length s.heap.objects ≤ length X3)
      (kept : (key : List ℕ) (y : Placed) → bytes_eq path.units key ≡ false → member_at ms key ≡ Some y → member_at after key ≡ Some y)
      (made_of : (test : ℕ → Bool) → ((o : ℕ) → length s.heap.objects ≤ o → IsTrue (test o)) → OnMembers (λ o r. IsTrue (test o)) ms → OnMembers (λ o r. IsTrue (test o)) after) where
    abbrev v : Value
    v = value_at file

    abbrev bs : List Binding
    bs = locals P H G D (object g) (object c) v

    abbrev h3 : Heap
    h3 = heap_of s f.outer X3 bs

    gets : point (comp_expr p data_of_ E) (now_with X3 (locals P H G D (object g) (object c) u)) ≡ Comes (Normal v) (now_with X3 (locals P H G D (object g) (object c) u))
    gets = gets_data p s f.outer path hash gcv D g X3 c v
        (ap or_undefined (get_member_at (heap_of s f.outer X3 (locals P H G D (object g) (object c) u)) c after path.units file covered.holds there))

    abbrev hc : Heap
    hc = closed (shape_of (gives_actual f.next None None None)) (name_units name) E h3

    abbrev hl : Heap
    hl = assign f.seen.cell (object (length X3)) hc

    runs : point (call_code p f.code f.outer undefined []) s ≡ Comes (Normal v) (record s { heap = hl })
    runs = first_runs p s f.outer f.low f.older name path hash gcv (expr_of made) f.number f.next f.code f.is_code
        (bare_literal (name_units data_) made E) (data_of made) m g f.global_this f.is_global c X2 X3 v covers replaced gets f.seen f.free_name f.may

    top : environment_at hl E ≡ env_of f.outer bs
    top = top_same p s f.outer f.low f.older name path hash gcv (expr_of made) f.number f.next f.code f.is_code
        (bare_literal (name_units data_) made E) (data_of made) m g f.global_this f.is_global c X2 X3 v covers replaced gets f.seen f.free_name f.may

    grown : Grown h3 hc
    grown = closed_grows (shape_of (gives_actual f.next None None None)) (name_units name) E h3 refl

    low_c : f.seen.cell.environment < next_environment hc
    low_c = let l = length_push s.heap.environments (env_of f.outer bs) in let k = f.seen.low in omega (arith, l, k)

    same_c : binding_at hc f.seen.cell ≡ binding_at s.heap f.seen.cell
    same_c = ap (λ (x : Environment). slice_index_or x.bindings f.seen.cell.place no_binding) (below_top (env_of f.outer bs) s.heap f.seen.cell.environment f.seen.low)

    may_c : assign_answer hc f.seen.cell ≡ Done
    may_c = ap assign_to same_c ∙ f.may

    held_c : value_of hc f.seen.cell ≡ Some (object f.function)
    held_c = ap (λ (b : Binding). b.value) same_c ∙ f.bound

    shows : (x : ℕ) → x < next_environment s.heap → Shows name (environment_at s.heap x) (environment_at hl x)
    shows x l = subst (λ y. Shows name y (environment_at hl x)) (below_top (env_of f.outer bs) s.heap x l)
        (assigned_shows hc f.seen.cell (object (length X3)) (object f.function) low_c may_c held_c name x)

    ready : Ready p hl env name v
    ready = record {
      cell = f.seen.cell;
      found = resolved_kept s.heap.environments hl.environments name f.seen.cell shows f.older (suc env) (suc env) env f.env_low (omega arith) f.from_here;
      function = length X3;
      bound = assigned_value hc f.seen.cell (object (length X3)) (object f.function) low_c may_c held_c;
      code = f.next;
      inner = E;
      kind = closed_kind (shape_of (gives_actual f.next None None None)) (name_units name) E h3 refl;
      number = f.next;
      a = None;
      b = None;
      c = None;
      is_code = f.is_next;
      low = let l = length_push s.heap.environments (env_of f.outer bs) in
          subst (λ n. E < n) (sym (length-set hc.environments f.seen.cell.environment _)) (omega (arith, l));
      place = 7;
      named = ap (λ (x : Environment). place_of x actual_) top;
      held = ap (λ (x : Environment). (slice_index_or x.bindings 7 no_binding).value) top;
    }

    opened : Opened p s env name path gcv.units g c ms json
    unfolding ready
    opened = record {
      store = record s { heap = hl };
      file = file;
      takes = takes_one p (comp_expr p (call_of name) env) s (Call f.code f.outer undefined []) ret v v (record s { heap = hl }) (record s { heap = hl }) asks runs refl;
      ready = ready;
      after = after;
      covered = covered_grown (heap_of s f.outer X3 (locals P H G D (object g) (object c) u)) hl g gcv.units c after (λ o l. grown o l) covered;
      there = there;
      tells = tells;
      paths = paths;
      objects = λ o l n q. let x = others o l n q in let y = grown o x.0 in (y.0, y.1 ∙ x.1);
      only_heap = refl;
      cell = f.seen.cell;
      is_cell = f.from_here;
      function = length X3;
      environments = λ x l n. assigned_other hc f.seen.cell (object (length X3)) (object f.function) low_c may_c held_c x n ∙ below_top (env_of f.outer bs) s.heap x l;
      own = assigned_env hc f.seen.cell (object (length X3)) (object f.function) low_c may_c held_c
          ∙ ap (λ (x : Environment). record { outer = x.outer; bindings = slice_set x.bindings f.seen.cell.place (record (slice_index_or x.bindings f.seen.cell.place no_binding) { value = Some (object (length X3)) }) })
          (below_top (env_of f.outer bs) s.heap f.seen.cell.environment f.seen.low);
      one_more = more;
      same_cell = refl;
      new_function = longer;
      new_inner = omega arith;
      older = older;
      kept = kept;
      made = made_of;
    }
      where
        more : next_environment hl ≡ next_environment s.heap + 1
        more = let l = length_push s.heap.environments (env_of f.outer bs) in length-set hc.environments f.seen.cell.environment _ ∙ l

        inj : {X : Type 0} {a b : X} → Some a ≡ Some b → a ≡ b
        inj e = cc

        less : (a b : ℕ) → (a ≡ b → ⊥) → a < suc b → a < b
        less a b ne l = grind (arith, ne, l)

        older : (x o : ℕ) → x < next_environment hl → (environment_at hl x).outer ≡ Some o → o < x
        older x o l w = ⊎_elim
            (λ (q : x ≡ next_environment s.heap).
            let y : f.outer ≡ o = inj (sym (ap (λ (z : Environment). z.outer) top) ∙ ap (λ m. (environment_at hl m).outer) (sym q) ∙ w) in
            let low = f.low in omega (arith, q, y, low))
            (λ (q : x ≡ next_environment s.heap → ⊥).
            let below : x < next_environment s.heap = less x (next_environment s.heap) q (let m = more in omega (arith, l, m)) in
            f.older x o below (sym (shows x below).outer ∙ w))
            (cases_eq x (next_environment s.heap))

  -- where the coverage is there, the data are put into it
  module _ (X2 : List ObjectRecord) (c : ℕ) (ms : PlacedMembers) where
    abbrev bs6 : List Binding
    bs6 = locals P H G D (object g) (object c) u

    abbrev h2 : Heap
    h2 = heap_of s f.outer X2 bs6

    module _ (covered : Covered h2 g gcv.units c ms) (data_held : Holds h2 m.placed) (off : On (Off c) m.placed)
        (apart : DistinctMembers (put_in path.units m.placed ms)) (ps : List Property) (same : ps ≡ properties_of (put_in path.units m.placed ms)) where
      abbrev X3 : List ObjectRecord
      X3 = slice_set X2 c (plain_object ps)

      abbrev h3' : Heap
      h3' = heap_of s f.outer X3 bs6

      put : Put h2 h3' c (plain_object ps)
      put = put_by h2 c (plain_object ps) covered.holds.0.0

      put_covered : Covered h3' g gcv.units c (put_in path.units m.placed ms)
      put_covered = record {
        low = subst (λ n. g < n) (sym put.size) covered.low;
        property = covered.property;
        has = ap (λ r. own_of r gcv.units) (put.others g covered.apart) ∙ covered.has;
        is = covered.is;
        apart = covered.apart;
        holds = (
          ((stands_put h2 h3' c (plain_object ps) put covered.holds.0.0).0, put.same ∙ ap plain_object same),
          on_put (Stands h3') path.units m.placed ms (members_put h2 h3' c (plain_object ps) put ms covered.holds.1 covered.distinct.0)
              (holds_put h2 h3' c (plain_object ps) put m.placed data_held off),
        );
        distinct = (on_put (Off c) path.units m.placed ms covered.distinct.0 off, apart);
      }

      put_others : (o : ℕ) → o < length X2 → o ≢ c → (o < length X3) × (slice_index_or X3 o no_object ≡ slice_index_or X2 o no_object)
      put_others o l n = (subst (λ k. o < k) (sym put.size) l, put.others o n)

      opens_put : (covers : point (comp_expr p covering E) (now_with X1 (locals P H G D (object g) u u)) ≡ Comes (Normal (object c)) (now_with X2 (locals P H G D (object g) u u))) →
          point (comp_stmt p replacing [] E) (now_with X2 bs6) ≡ Comes (Normal undefined) (now_with X3 bs6) →
          ((o : ℕ) → o < length s.heap.objects → o ≢ g → o ≢ c → (o < length X2) × (slice_index_or X2 o no_object ≡ object_at s.heap o)) → length s.heap.objects ≤ length X2 →
          Opened p s env name path gcv.units g c ms (data_of made)
      opens_put covers replaced others longer = opened c X2 X3 ms (put_in path.units m.placed ms) m.placed (data_of made) covers replaced put_covered
          (put_there path.units m.placed ms) m.data_is (json_of_put path.units m.placed ms ∙ ap (λ j. json_put path.units j (json_members ms)) m.data_is)
          (λ o l n q. let x = others o l n q in let y = put_others o x.0 q in (y.0, y.1 ∙ x.1))
          (let z = put.size in omega (arith, z, longer))
          (λ key y no there. put_elsewhere path.units m.placed ms key no ∙ there)
          (λ test new old. on_put (λ o r. IsTrue (test o)) path.units m.placed ms old
          (on_both (From (next_object s.heap)) (From (next_object s.heap)) (λ o r. IsTrue (test o)) (λ o r a b. new o a) m.placed m.fresh m.fresh))

  -- what was there before the data were made is there still
  grown1 : (bs : List Binding) → Grown s.heap (heap_of s f.outer X1 bs)
  grown1 names o l = m.grows.objects o l

  m_holds : (bs : List Binding) → Holds (heap_of s f.outer X1 bs) m.placed
  m_holds names = m.holds

  others1 : (c : ℕ) (o : ℕ) → o < length s.heap.objects → o ≢ g → o ≢ c → (o < length X1) × (slice_index_or X1 o no_object ≡ object_at s.heap o)
  others1 c o l n q = m.grows.objects o l

  longer1 : length s.heap.objects ≤ length X1
  longer1 = grown_length s.heap m.heap m.grows.objects

  module _ (c : ℕ) (ms : PlacedMembers) (before : Covered s.heap g gcv.units c ms) where
    abbrev bs7 : List Binding
    bs7 = locals P H G D (object g) (object c) u

    abbrev h7 : Heap
    h7 = heap_of s f.outer X1 bs7

    covered1 : Covered h7 g gcv.units c ms
    covered1 = covered_grown s.heap h7 g gcv.units c ms (grown1 bs7) before

    data_off : On (Off c) m.placed
    data_off = on_both (From (next_object s.heap)) (From (next_object s.heap)) (Off c) (λ o r a b q. let l = before.holds.0.0 in omega (arith, l, a, q)) m.placed m.fresh m.fresh

    data_apart : DistinctMembers (put_in path.units m.placed ms)
    data_apart = distinct_put (next_object s.heap) path.units m.placed m.fresh m.distinct ms
        (both_members (Stands s.heap) (Stands s.heap) (Below (next_object s.heap)) (λ o r a b. a.0) ms before.holds.1 before.holds.1) before.distinct.1

    covers1 : point (comp_expr p covering E) (now_with X1 (locals P H G D (object g) u u)) ≡ Comes (Normal (object c)) (now_with X1 (locals P H G D (object g) u u))
    covers1 = let b = covered_grown s.heap (heap_of s f.outer X1 (locals P H G D (object g) u u)) g gcv.units c ms (grown1 (locals P H G D (object g) u u)) before in
        covers_there p s f.outer path hash gcv D g X1 c
        (ap or_undefined (found_own g (heap_of s f.outer X1 (locals P H G D (object g) u u)) gcv.units b.property b.has) ∙ b.is)

    other : NotInherited s.heap path.units → member_at ms path.units ≡ None → Opened p s env name path gcv.units g c ms (data_of made)
    other bare none =
        let here = covered1.holds.0.1 in
        let nothing : get h7 c path.units ≡ None = get_none h7 c path.units (ap (λ r. own_of r path.units) here ∙ member_none ms path.units none)
        (subst (λ (r : ObjectRecord). Bare h7 r.prototype path.units) (sym here) (bare_grown s.heap h7 (Some (number_of ObjectPrototype)) path.units (grown1 bs7) bare)) in
        opens_put X1 c ms covered1 (m_holds bs7) data_off data_apart (properties_of ms ++ assigned path.units D ∷ []) (properties_new path.units m.placed ms none) covers1
        (replaces p s f.outer path hash gcv D g X1 c (heap_of s f.outer (slice_set X1 c (plain_object (properties_of ms ++ assigned path.units D ∷ []))) bs7)
        (test_absent p s f.outer path hash gcv D g X1 c (ap or_undefined nothing))
        (put_new h7 c path.units D (Some (number_of ObjectPrototype)) [] (properties_of ms) here (member_none ms path.units none)
        (bare_grown s.heap h7 (Some (number_of ObjectPrototype)) path.units (grown1 bs7) bare)))
        (others1 c) longer1

    module _ (d : ℕ) (fs : PlacedMembers) (at : member_at ms path.units ≡ Some (plain d fs)) where
      holds_file : Holds h7 (plain d fs)
      holds_file = member_on (Stands h7) ms path.units (plain d fs) at covered1.holds.1

      gets_file : or_undefined (get h7 c path.units) ≡ object d
      gets_file = ap or_undefined (get_member_at h7 c ms path.units (plain d fs) covered1.holds at)

      -- the hash differs
      test_differs : OtherHash s.heap hash.units fs → point (comp_expr p (test p s f.outer path hash gcv D g X1 c) E) (now_with X1 bs7) ≡ Comes (Normal (value.Primitive (primitive.Boolean true))) (now_with X1 bs7)
      test_differs (another y has differs) =
          test_there p s f.outer path hash gcv D g X1 c d (value_at y) gets_file (ap or_undefined (get_member_at h7 d fs (name_units hash_) y holds_file has))
          ∙ ap (λ b. Comes (Normal (value.Primitive (primitive.Boolean (not b)))) (now_with X1 bs7)) differs
      test_differs (no_hash none bare) =
          test_there p s f.outer path hash gcv D g X1 c d undefined gets_file
          (ap or_undefined (get_none h7 d (name_units hash_) (ap (λ r. own_of r (name_units hash_)) holds_file.0.1 ∙ member_none fs (name_units hash_) none)
          (subst (λ (r : ObjectRecord). Bare h7 r.prototype (name_units hash_)) (sym holds_file.0.1) (bare_grown s.heap h7 (Some (number_of ObjectPrototype)) (name_units hash_) (grown1 bs7) bare))))

      anew : OtherHash s.heap hash.units fs → Opened p s env name path gcv.units g c ms (data_of made)
      anew differs =
          let here = covered1.holds.0.1 in
          let w = member_own ms path.units (plain d fs) at in
          opens_put X1 c ms covered1 (m_holds bs7) data_off data_apart (with_value_of path.units D (properties_of ms)) (properties_old path.units m.placed (plain d fs) ms at) covers1
          (replaces p s f.outer path hash gcv D g X1 c (heap_of s f.outer (slice_set X1 c (plain_object (with_value_of path.units D (properties_of ms)))) bs7)
          (test_differs differs)
          (put_old h7 c path.units D (Some (number_of ObjectPrototype)) [] (properties_of ms) here w.0 w.1 w.3))
          (others1 c) longer1

      -- the hash is the same
      again : member_at fs (name_units hash_) ≡ Some (unit_text hash.units) → (x : Opened p s env name path gcv.units g c ms (json_of (plain d fs))) × (x.file ≡ plain d fs)
      unfolding opened
      again has = (
        opened c X1 X1 ms ms (plain d fs) (json_of (plain d fs)) covers1
            (leaves p s f.outer path hash gcv D g X1 c
            (test_there p s f.outer path hash gcv D g X1 c d H gets_file (ap or_undefined (get_member_at h7 d fs (name_units hash_) (unit_text hash.units) holds_file has))
            ∙ ap (λ b. Comes (Normal (value.Primitive (primitive.Boolean (not b)))) (now_with X1 bs7)) (key_same hash.units)))
            covered1 at refl (json_same path.units (plain d fs) ms at) (others1 c) longer1 (λ key y e there. there) (λ test new old. old),
        refl,
      )

pub opens_other : OpensOther
opens_other p s env name path hash gcv made g c ms f covered bare none = other p s env name path hash gcv made g f c ms covered bare none

pub opens_anew : OpensAnew
opens_anew p s env name path hash gcv made g c ms d fs f covered at differs = anew p s env name path hash gcv made g f c ms covered d fs at differs

pub opens_again : OpensAgain
opens_again p s env name path hash gcv made g c ms d fs f covered at has = again p s env name path hash gcv made g f c ms covered d fs at has

-- where there is no coverage yet
module _ (p : Sources) (s : Store) (env : ℕ) (name : List ℕ) (path hash gcv : Spelled) (made : Literal) (g : ℕ) (f : Fresh p s.heap env name path hash gcv made g)
    (before : Uncovered s.heap g gcv.units) (bare : NotInherited s.heap path.units) (not_global : number_of ObjectPrototype ≢ g) where
  abbrev M : Makes (comp_expr p (expr_of made) (E p s env name path hash gcv made g f)) (at0 p s env name path hash gcv made g f) (data_of made)
  M = m p s env name path hash gcv made g f

  abbrev Y1 : List ObjectRecord
  Y1 = M.heap.objects

  abbrev DD : Value
  DD = value_at M.placed

  abbrev c : ℕ
  c = length Y1

  -- with the empty coverage
  abbrev Y2 : List ObjectRecord
  Y2 = Y1 ++ plain_object [] ∷ []

  abbrev Y3 : List ObjectRecord
  Y3 = slice_set Y2 g (free before.prototype before.elements (before.properties ++ assigned gcv.units (object c) ∷ []))

  abbrev with_objects : List ObjectRecord → List Binding → Heap
  with_objects = heap_of s f.outer

  abbrev names5 : List Binding
  names5 = locals (text path.units) (text hash.units) (text gcv.units) DD (object g) undefined undefined

  abbrev names6 : List Binding
  names6 = locals (text path.units) (text hash.units) (text gcv.units) DD (object g) (object c) undefined

  g_low : g < length Y1
  g_low = (M.grows.objects g before.low).0

  g_is : object_at (with_objects Y1 names5) g ≡ free before.prototype before.elements before.properties
  g_is = (M.grows.objects g before.low).1 ∙ before.is

  grown2 : Grown (with_objects Y1 names6) (with_objects Y2 names6)
  grown2 = grown_more (with_objects Y1 names6) (plain_object [] ∷ []) (with_objects Y1 names6).environments

  changed : Put (with_objects Y2 names6) (with_objects Y3 names6) g (free before.prototype before.elements (before.properties ++ assigned gcv.units (object c) ∷ []))
  changed = put_by (with_objects Y2 names6) g _ (grown2 g g_low).0

  c_low : c < length Y2
  c_low = let l = length_push Y1 (plain_object []) in omega (arith, l)

  c_is : object_at (with_objects Y2 names6) c ≡ plain_object []
  c_is = get_or-append_seam Y1 (plain_object []) [] no_object

  first_covered : Covered (with_objects Y3 names6) g gcv.units c empty
  first_covered = record {
    low = (stands_put (with_objects Y2 names6) (with_objects Y3 names6) g _ changed (grown2 g g_low).0).0;
    property = assigned gcv.units (object c);
    has = ap (λ r. own_of r gcv.units) changed.same ∙ property_new before.properties gcv.units (object c) before.none;
    is = refl;
    apart = λ q. let l = g_low in omega (arith, l, q);
    holds = ((subst (λ n. c < n) (sym changed.size) c_low, changed.others c (λ q. let l = g_low in omega (arith, l, q)) ∙ c_is), tt);
    distinct = (tt, tt);
  }

  bare3 : Bare (with_objects Y3 names6) (Some (number_of ObjectPrototype)) path.units
  bare3 =
      let b = bare_grown (with_objects Y1 names6) (with_objects Y2 names6) (Some (number_of ObjectPrototype)) path.units grown2
      (bare_grown s.heap (with_objects Y1 names6) (Some (number_of ObjectPrototype)) path.units (λ o l. M.grows.objects o l) bare) in
      let same = changed.others (number_of ObjectPrototype) not_global in
      (subst (λ n. number_of ObjectPrototype < n) (sym changed.size) b.0, ap (λ r. own_of r path.units) same ∙ b.1, ap (λ (r : ObjectRecord). r.prototype) same ∙ b.2)

  data_low : On (Below c) M.placed
  data_low = on_both (Stands M.heap) (Stands M.heap) (Below c) (λ o r a b. a.0) M.placed M.holds M.holds

  data_held2 : Holds (with_objects Y2 names6) M.placed
  data_held2 = holds_grown (with_objects Y1 names6) (with_objects Y2 names6) M.placed grown2 M.holds

  data_held : Holds (with_objects Y3 names6) M.placed
  data_held = holds_put (with_objects Y2 names6) (with_objects Y3 names6) g _ changed M.placed data_held2
      (on_both (From (next_object s.heap)) (From (next_object s.heap)) (Off g) (λ o r a b q. let l = before.low in omega (arith, l, a, q)) M.placed M.fresh M.fresh)

  nothing3 : get (with_objects Y3 names6) c path.units ≡ None
  nothing3 =
      let here = first_covered.holds.0.1 in
      get_none (with_objects Y3 names6) c path.units (ap (λ r. own_of r path.units) here)
      (subst (λ (r : ObjectRecord). Bare (with_objects Y3 names6) r.prototype path.units) (sym here) bare3)

  others3 : (o : ℕ) → o < length s.heap.objects → o ≢ g → o ≢ c → (o < length Y3) × (slice_index_or Y3 o no_object ≡ object_at s.heap o)
  others3 o l n q =
      let x = M.grows.objects o l in
      let y = grown2 o x.0 in
      (subst (λ n. o < n) (sym changed.size) y.0, changed.others o n ∙ y.1 ∙ x.1)

  longer_c : length s.heap.objects ≤ c
  longer_c = grown_length s.heap M.heap M.grows.objects

  longer3 : length s.heap.objects ≤ length Y3
  longer3 = let l = length_push Y1 (plain_object []) in let z = changed.size in let n = longer_c in omega (arith, l, z, n)

  first : Opened p s env name path gcv.units g c empty (data_of made)
  first = opens_put p s env name path hash gcv made g f Y3 c empty first_covered data_held
      (on_both (Below c) (Below c) (Off c) (λ o r a b q. omega (arith, a, q)) M.placed data_low data_low)
      (M.distinct, tt, on_both (Below c) (Below c) (λ o r. Unit {0}) (λ o r a b. tt) M.placed data_low data_low)
      (assigned path.units DD ∷ []) refl
      (covers_made p s f.outer path hash gcv DD g Y1 before.prototype before.elements before.properties g_is g_low before.none
      (bare_grown s.heap (with_objects Y1 names5) before.prototype gcv.units (λ o l. M.grows.objects o l) before.bare))
      (replaces p s f.outer path hash gcv DD g Y3 c (with_objects (slice_set Y3 c (plain_object (assigned path.units DD ∷ []))) names6)
      (test_absent p s f.outer path hash gcv DD g Y3 c (ap or_undefined nothing3))
      (put_new (with_objects Y3 names6) c path.units DD (Some (number_of ObjectPrototype)) [] [] first_covered.holds.0.1 refl bare3))
      others3 longer3

pub opens_first : OpensFirst
opens_first p s env name path hash gcv made g f before bare not_global =
    (c p s env name path hash gcv made g f before bare not_global, longer_c p s env name path hash gcv made g f before bare not_global, first p s env name path hash gcv made g f before bare not_global)
