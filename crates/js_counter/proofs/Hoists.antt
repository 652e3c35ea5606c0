-- Functions that are hoisted leave the names as they are, and what other names hold.
use Rattle.std.proofs.Common.{◌≡◌, ◌≢◌, ℕ, zero, suc, ◌<◌, ◌≤◌, ◌==◌, ◌⊎◌, inl, inr, Bool, true, false, List, [], ◌∷◌, length, Option, Some, None, refl, sym, ap, subst, ◌∙◌, arith}
use Rattle.std.specs.Prelude.{slice_index_or, slice_set}
use Rattle.std.specs.Str.{bytes_eq}
use Rattle.std.proofs.lemmas.Bool.Decides.{nat_tests}
use Rattle.std.proofs.lemmas.List.{get_or-set_same, get_or-set_other, length-set, get_or_past}
use Rattle.std.proofs.lemmas.Slice.Eq.{bytes_eq-Decides}
use Rattle.js_value.specs.declared.value.Value.{Value}
use Rattle.js_value.specs.State.{Binding, Environment, Heap}
use Rattle.js_value.specs.Objects.{object_at, next_object}
use Rattle.js_value.specs.Environments.{Cell, next_environment, no_environment, no_binding, environment_at, place_of, resolved, lookup, binding_at, assign_answer, assign, assigned, assign_name}
use Rattle.js_value.specs.Functions.{name_units, function_made}
use Rattle.js_value.specs.Realm.{object}
use Rattle.js_meaning.specs.Scopes.{Shape, Hoisted, with_constructor, closed, hoisted}
use Rattle.js_value.specs.Lookups.{Grown, Shows}
use Rattle.js_value.proofs.LookupLemmas.{shows_same}
use Rattle.js_value.proofs.LookupLemmas.{assign_shows as assign_shows'}
use Rattle.js_counter.proofs.Places.{place_named}
use Rattle.js_counter.specs.Starts.{Others}
use Rattle.js_counter.proofs.Closed.{grown_then, function_grows, constructor_grows}

-- what a name resolves to has it
pub resolved_place : (n : ℕ) (h : Heap) (o : Option ℕ) (name : List ℕ) (c : Cell) → resolved n h.environments o name ≡ Some c → place_of (environment_at h c.environment) name ≡ Some c.place
resolved_place zero h o name c e = cc
resolved_place (suc n) h None name c e = cc
resolved_place (suc n) h (Some x) name c e = by (place_of (environment_at h x) name) refl e (resolved_place n h (environment_at h x).outer name c)
  where
    inj : {X : Type 0} {a b : X} → Some a ≡ Some b → a ≡ b
    inj e = cc

    by : (o : Option ℕ) → place_of (environment_at h x) name ≡ o →
        elim o [ Some at ↦ Some (record { environment = x; place = at }) | None ↦ resolved n h.environments (environment_at h x).outer name ] ≡ Some c →
        (resolved n h.environments (environment_at h x).outer name ≡ Some c → place_of (environment_at h c.environment) name ≡ Some c.place) →
        place_of (environment_at h c.environment) name ≡ Some c.place
    by None f g ih = ih g
    by (Some at) f g ih = subst (λ (d : Cell). place_of (environment_at h d.environment) name ≡ Some d.place) (inj g) f

env_low : (h : Heap) (x : ℕ) (name : List ℕ) (i : ℕ) → place_of (environment_at h x) name ≡ Some i → x < next_environment h
env_low h x name i e = by cases
  where
    cases : (x < next_environment h) ⊎ (next_environment h ≤ x)
    cases = grind arith

    by : (x < next_environment h) ⊎ (next_environment h ≤ x) → x < next_environment h
    by (inl l) = l
    by (inr l) = absurd (nothing (sym (ap (λ (y : Environment). place_of y name) (get_or_past h.environments x no_environment l)) ∙ e))
      where
        nothing : place_of no_environment name ≡ Some i → ⊥
        nothing f = cc

module _ (h : Heap) (cell : Cell) (v : Value) (name : List ℕ) (has : place_of (environment_at h cell.environment) name ≡ Some cell.place) where
  abbrev bs : List Binding
  bs = (environment_at h cell.environment).bindings

  abbrev after : Binding
  after = assigned (assign_answer h cell) v (binding_at h cell)

  low : cell.environment < next_environment h
  low = env_low h cell.environment name cell.place has

  low_place : cell.place < length bs
  low_place = (place_named name bs cell.place has).low

  env_after : environment_at (assign cell v h) cell.environment ≡ record { outer = (environment_at h cell.environment).outer; bindings = slice_set bs cell.place after }
  env_after = get_or-set_same h.environments cell.environment _ no_environment low

  env_other : (x : ℕ) → x ≢ cell.environment → environment_at (assign cell v h) x ≡ environment_at h x
  env_other x n = get_or-set_other h.environments cell.environment x _ no_environment n

  pub assign_shows : (x : ℕ) (nm : List ℕ) → Shows nm (environment_at h x) (environment_at (assign cell v h) x)
  assign_shows x nm = assign_shows' cell v h nm x low low_place

  -- another name's cell
  pub assign_other : (d : Cell) (nm : List ℕ) → place_of (environment_at h d.environment) nm ≡ Some d.place → bytes_eq name nm ≡ false →
      binding_at (assign cell v h) d ≡ binding_at h d
  assign_other d nm is differ = by (d.environment == cell.environment) refl
    where
      not_both : false ≡ true → ⊥
      not_both e = cc

      clash : bytes_eq (slice_index_or bs cell.place no_binding).name nm ≡ true → ⊥
      clash w =
          let a : (slice_index_or bs cell.place no_binding).name ≡ nm = (bytes_eq-Decides _ nm).0 w in
          let b : (slice_index_or bs cell.place no_binding).name ≡ name = (bytes_eq-Decides _ name).0 (place_named name bs cell.place has).has in
          let c : bytes_eq name nm ≡ true = (bytes_eq-Decides name nm).1 (sym b ∙ a) in
          absurd (not_both (sym differ ∙ c))

      by : (t : Bool) → (d.environment == cell.environment) ≡ t → binding_at (assign cell v h) d ≡ binding_at h d
      by false t = ap (λ (y : Environment). slice_index_or y.bindings d.place no_binding) (env_other d.environment (λ q. grind (arith, nat_tests, t, q)))
      by true t =
          let q : d.environment ≡ cell.environment = grind (arith, nat_tests, t) in
          let there = subst (λ y. place_of (environment_at h y) nm ≡ Some d.place) q is in
          let apart : d.place ≢ cell.place = λ w. clash (subst (λ i. bytes_eq (slice_index_or bs i no_binding).name nm ≡ true) w (place_named nm bs d.place there).has) in
          ap (λ y. slice_index_or (environment_at (assign cell v h) y).bindings d.place no_binding) q
          ∙ ap (λ (y : Environment). slice_index_or y.bindings d.place no_binding) env_after
          ∙ get_or-set_other bs cell.place d.place after no_binding apart
          ∙ ap (λ y. slice_index_or (environment_at h y).bindings d.place no_binding) (sym q)

-- Functions, one after another

pub closed_grows : (f : Shape) (name : List ℕ) (env : ℕ) (h : Heap) → Grown h (closed f name env h)
closed_grows f name env h =
    let made = function_made f.number env name f.length h in
    let g = function_grows f.number env name f.length h in
    elim f.constructs as (λ b. (o : ℕ) → o < length h.objects →
    (o < length (with_constructor b (next_object h) made).objects) × (object_at (with_constructor b (next_object h) made) o ≡ object_at h o)) [
      | true ↦ constructor_grows h made g (next_object h) (omega arith)
      | false ↦ g
    ]

pub closed_envs : (f : Shape) (name : List ℕ) (env : ℕ) (h : Heap) → (closed f name env h).environments ≡ h.environments
closed_envs f name env h = refl

abbrev pub at_cell : Heap → Cell → List ℕ → Type 0
at_cell h c name = place_of (environment_at h c.environment) name ≡ Some c.place

-- the names are as they were, and so is what two of them hold
pub record Kept (h k : Heap) (c d : Cell) : Type 0 where
  pub envs : next_environment k ≡ next_environment h
  pub shows : (x : ℕ) (nm : List ℕ) → Shows nm (environment_at h x) (environment_at k x)
  pub first : binding_at k c ≡ binding_at h c
  pub second : binding_at k d ≡ binding_at h d
  pub grown : Grown h k

pub then_kept : (h k l : Heap) (c d : Cell) → Kept h k c d → Kept k l c d → Kept h l c d
then_kept h k l c d a b = record {
  envs = b.envs ∙ a.envs;
  shows = λ x nm. record { place = (b.shows x nm).place ∙ (a.shows x nm).place; outer = (b.shows x nm).outer ∙ (a.shows x nm).outer };
  first = b.first ∙ a.first;
  second = b.second ∙ a.second;
  grown = grown_then h k l a.grown b.grown;
}

same_kept : (h : Heap) (c d : Cell) → Kept h h c d
same_kept h c d = record { envs = refl; shows = λ x nm. record { place = refl; outer = refl }; first = refl; second = refl; grown = λ o l. (l, refl) }

pub kept_closed : (f : Shape) (nm : List ℕ) (env : ℕ) (h : Heap) (c d : Cell) → Kept h (closed f nm env h) c d
kept_closed f nm env h c d =
    let e = closed_envs f nm env h in
    let at = λ (x : ℕ). ap (λ es. slice_index_or es x no_environment) e in
    record {
      envs = ap length e;
      shows = λ x n. shows_same n (environment_at h x) (environment_at (closed f nm env h) x) (at x);
      first = ap (λ (y : Environment). slice_index_or y.bindings c.place no_binding) (at c.environment);
      second = ap (λ (y : Environment). slice_index_or y.bindings d.place no_binding) (at d.environment);
      grown = closed_grows f nm env h;
    }

kept_assigned : (h : Heap) (e : ℕ) (name : List ℕ) (v : Value) (c d : Cell) (a b : List ℕ) → at_cell h c a → at_cell h d b → bytes_eq name a ≡ false → bytes_eq name b ≡ false →
    Kept h (assign_name e name v h) c d
kept_assigned h e name v c d a b ca db na nb = by (lookup h e name) refl
  where
    by : (o : Option Cell) → lookup h e name ≡ o → Kept h (elim o [ None ↦ h | Some cell ↦ assign cell v h ]) c d
    by None f = same_kept h c d
    by (Some cell) f = let has = resolved_place (suc e) h (Some e) name cell f in record {
      envs = length-set h.environments cell.environment _;
      shows = assign_shows h cell v name has;
      first = assign_other h cell v name has c a ca na;
      second = assign_other h cell v name has d b db nb;
      grown = λ o l. (l, refl);
    }

pub hoisted_kept : (fs : List Hoisted) (e : ℕ) (h : Heap) (c d : Cell) (a b : List ℕ) → at_cell h c a → at_cell h d b → Others a b fs → Kept h (hoisted fs e h) c d
hoisted_kept [] e h c d a b ca db o = same_kept h c d
hoisted_kept (f ∷ fs) e h c d a b ca db o =
    let k = closed f.shape (name_units f.name) e h in
    let x : Kept h k c d = kept_closed f.shape (name_units f.name) e h c d in
    let y : Kept k (assign_name e f.name (object (next_object h)) k) c d = kept_assigned k e f.name (object (next_object h)) c d a b
    ((x.shows c.environment a).place ∙ ca) ((x.shows d.environment b).place ∙ db) o.0 o.1 in
    let z = then_kept h k (assign_name e f.name (object (next_object h)) k) c d x y in
    then_kept h _ _ c d z (hoisted_kept fs e (assign_name e f.name (object (next_object h)) k) c d a b
    ((z.shows c.environment a).place ∙ ca) ((z.shows d.environment b).place ∙ db) o.2)
