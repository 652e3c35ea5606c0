-- Laws on data in a heap, and on counters by the runs of a program.
use Rattle.std.proofs.Common.{◌⊎◌, inl, inr, ◌≡◌, ◌≢◌, ℕ, zero, suc, ◌+◌, ◌<◌, ◌≤◌, ◌∷◌, length, Some, refl, sym, ap, subst, ◌∙◌, arith}
use Rattle.std.specs.Prelude.{option_map, slice_index_or}
use Rattle.js_value.specs.declared.value.Value.{Value}
use Rattle.std.proofs.lemmas.List.{get_or-set_other, length_push, get_or_past}
use Rattle.js_value.specs.State.{Written, ObjectRecord, Binding, Environment, Heap}
use Rattle.js_value.specs.Realm.{object, undefined}
use Rattle.js_meaning.specs.Files.{this_bound}
use Rattle.js_value.proofs.LookupLemmas.{resolved_kept}
use Rattle.js_counter.proofs.Heaps.{pushed, env_of, below_top, scope_is}
use Rattle.js_value.specs.Objects.{object_at, no_object, kind_of, set, count_value}
use Rattle.js_value.specs.Environments.{Cell, next_environment, no_environment, no_binding, place_of, value_of}
use Rattle.js_meaning.specs.Effects.{handle}
use Rattle.js_meaning.specs.Files.{inside}
use Rattle.js_meaning.specs.Steps.{ran_by}
use Rattle.js_meaning.proofs.Handle.{exec_eval}
use Rattle.js_counter.specs.Represents.{Items, Members, items, members, json_ticked, ticked, Placed, PlacedItems, PlacedMembers, null, truth, negative, number, unit_text, array, plain, none, item, empty, member, json_of, json_items, json_members, address, record_of, value_at, values_of, properties_of, Stands, Holds, HoldsItems, HoldsMembers}
use Rattle.js_counter.specs.Steady.{actual, Ready}
use Rattle.js_counter.specs.Laws.{both, all_items, all_members, object_data, data_at, levels, item_levels, member_levels, ReadsBack, Stays, TellsMore, StaysReady, RunsOne, CountsOn}
use Rattle.js_counter.proofs.Data.{on_both, distinct_ticked, json_of_ticked, ticked_value, within_on}
use Rattle.js_counter.proofs.Calls.{holds_ticked}

mutual
  reads_it : (x : Placed) (n : ℕ) (h : Heap) → Holds h x → levels (json_of x) ≤ n → data_at n h (value_at x) ≡ Some (json_of x)
  reads_it null zero h a l = refl
  reads_it null (suc n) h a l = refl
  reads_it (truth b) zero h a l = refl
  reads_it (negative neg) zero h a l = refl
  reads_it (truth b) (suc n) h a l = refl
  reads_it (negative neg) (suc n) h a l = refl
  reads_it (number m) zero h a l = refl
  reads_it (number m) (suc n) h a l = refl
  reads_it (unit_text u) zero h a l = refl
  reads_it (unit_text u) (suc n) h a l = refl
  reads_it (array o xs) zero h a l = absurd (omega arith)
  reads_it (array o xs) (suc n) h a l = ap (object_data (data_at n h)) a.0.1 ∙ ap (option_map Items) (reads_items xs n h a.1 (omega arith))
  reads_it (plain o ms) zero h a l = absurd (omega arith)
  reads_it (plain o ms) (suc n) h a l = ap (object_data (data_at n h)) a.0.1 ∙ ap (option_map Members) (reads_members ms n h a.1 (omega arith))

  reads_items : (xs : PlacedItems) (n : ℕ) (h : Heap) → HoldsItems h xs → item_levels (json_items xs) ≤ n → all_items (data_at n h) (values_of xs) ≡ Some (json_items xs)
  reads_items none n h a l = refl
  reads_items (item x xs) n h a l =
      ap (λ y. both items y (all_items (data_at n h) (values_of xs))) (reads_it x n h a.0 (omega arith))
      ∙ ap (both items (Some (json_of x))) (reads_items xs n h a.1 (omega arith))

  reads_members : (ms : PlacedMembers) (n : ℕ) (h : Heap) → HoldsMembers h ms → member_levels (json_members ms) ≤ n → all_members (data_at n h) (properties_of ms) ≡ Some (json_members ms)
  reads_members empty n h a l = refl
  reads_members (member key x ms) n h a l =
      ap (λ y. both (members key) y (all_members (data_at n h) (properties_of ms))) (reads_it x n h a.0 (omega arith))
      ∙ ap (both (members key) (Some (json_of x))) (reads_members ms n h a.1 (omega arith))

pub reads_back : ReadsBack
reads_back h v json n r l =
    ap (data_at n h) (sym r.is)
    ∙ reads_it r.placed n h r.holds (subst (λ j. levels j ≤ n) (sym r.data_is) l)
    ∙ ap Some r.data_is

pub stays : Stays
stays h k v json r same = record {
  placed = r.placed;
  is = r.is;
  holds = on_both (Stands h) (λ o x. (o < length k.objects) × (object_at k o ≡ object_at h o)) (Stands k) (λ o x a b. (b.0, b.1 ∙ a.1)) r.placed r.holds same;
  distinct = r.distinct;
  data_is = r.data_is;
}

pub tells_more : TellsMore
tells_more h v json r inner n y key keys last w = record {
  placed = ticked r.placed (key ∷ keys);
  is = ticked_value r.placed key keys ∙ r.is;
  holds = holds_ticked h inner n r.placed y key keys last r.holds r.distinct w;
  distinct = distinct_ticked r.placed (key ∷ keys) r.distinct;
  data_is = json_of_ticked r.placed (key ∷ keys) ∙ ap (λ j. json_ticked j (key ∷ keys)) r.data_is;
}

pub stays_ready : StaysReady
stays_ready p h k env name v r low older same cell_same kind_same inner_low inner_same = record {
  cell = r.cell;
  found = resolved_kept h.environments k.environments name r.cell (λ e l. record { place = (same e l).place; outer = (same e l).outer }) older (suc env) (suc env) env low (omega arith) r.found;
  function = r.function;
  bound = ap (λ (b : Binding). b.value) cell_same ∙ r.bound;
  code = r.code;
  inner = r.inner;
  kind = kind_same ∙ r.kind;
  number = r.number;
  a = r.a;
  b = r.b;
  c = r.c;
  is_code = r.is_code;
  low = inner_low;
  place = r.place;
  named = ap (λ x. place_of x actual) inner_same ∙ r.named;
  held = ap (λ (x : Environment). (slice_index_or x.bindings r.place no_binding).value) inner_same ∙ r.held;
}

pub runs_one : RunsOne
runs_one p c s v t x = (
  (λ j. exec_eval (inside p) 0 (handle c j) s ∙ ap ran_by (x.none j)),
  (λ n j. exec_eval (inside p) (suc n) (handle c j) s ∙ ap ran_by (x.one n j) ∙ sym (exec_eval (inside p) n (j _) t)),
)

pub kind_apart : (y : Placed) (c e : ℕ) → (record_of y).kind ≡ Written c e → ⊥
kind_apart null c e q = cc
kind_apart (truth b) c e q = cc
kind_apart (negative neg) c e q = cc
kind_apart (number n) c e q = cc
kind_apart (unit_text u) c e q = cc
kind_apart (array o xs) c e q = cc
kind_apart (plain o ms) c e q = cc

cell_low : (h : Heap) (c : Cell) (v : Value) → value_of h c ≡ Some v → c.environment < next_environment h
cell_low h c v held = by cases
  where
    nothing : (slice_index_or no_environment.bindings c.place no_binding).value ≡ Some v → ⊥
    nothing f = cc

    cases : (c.environment < next_environment h) ⊎ (next_environment h ≤ c.environment)
    cases = grind arith

    by : (c.environment < next_environment h) ⊎ (next_environment h ≤ c.environment) → c.environment < next_environment h
    by (inl l) = l
    by (inr l) = absurd (nothing (sym (ap (λ (x : Environment). (slice_index_or x.bindings c.place no_binding).value) (get_or_past h.environments c.environment no_environment l)) ∙ held))

pub counts_on : CountsOn
counts_on p h env name v json r d n y key keys last w low older = (
  subst (λ k. Ready p (set (address y) last (count_value (n + 1)) k) env name v) (sym (scope_is (this_bound undefined) r.inner h)) ready,
  tells_more h v json d r.inner n y key keys last w,
)
  where
    x : Environment
    x = env_of r.inner (this_bound undefined)

    apart : r.function ≢ address y
    apart q = kind_apart y r.code r.inner
        (ap (λ (t : ObjectRecord). t.kind) (sym (within_on (Stands h) keys d.placed key y last n w d.holds).1) ∙ ap (kind_of h) (sym q) ∙ r.kind)

    in_range : r.cell.environment < next_environment h
    in_range = cell_low h r.cell (object r.function) r.bound

    ready : Ready p (set (address y) last (count_value (n + 1)) (pushed (env_of r.inner (this_bound undefined)) h)) env name v
    ready = stays_ready p h (set (address y) last (count_value (n + 1)) (pushed (env_of r.inner (this_bound undefined)) h)) env name v r low older
        (λ e l. let b = below_top (env_of r.inner (this_bound undefined)) h e l in record { place = ap (λ z. place_of z name) b; outer = ap (λ (z : Environment). z.outer) b })
        (ap (λ (z : Environment). slice_index_or z.bindings r.cell.place no_binding) (below_top (env_of r.inner (this_bound undefined)) h r.cell.environment in_range))
        (ap (λ (t : ObjectRecord). t.kind) (get_or-set_other h.objects (address y) r.function _ no_object apart))
        (let l = length_push h.environments (env_of r.inner (this_bound undefined)) in let m = r.low in omega (arith, l, m))
        (below_top (env_of r.inner (this_bound undefined)) h r.inner r.low)
