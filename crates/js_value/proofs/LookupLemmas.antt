-- Lookups and writes in a heap of which a part is known.
use Rattle.std.proofs.Common.{◌≡◌, ◌≢◌, ℕ, zero, suc, ◌<◌, ◌≤◌, ◌==◌, ◌&&◌, Bool, true, false, List, [], ◌∷◌, ◌++◌, length, Option, Some, None, Ok, option_map, refl, sym, ap, subst, ◌∙◌, arith, if◌then◌else◌}
use Rattle.std.specs.Prelude.{slice_set, slice_index_or}
use Rattle.std.specs.Str.{bytes_eq}
use Rattle.std.proofs.lemmas.Bool.Decides.{nat_tests}
use Rattle.std.proofs.lemmas.List.{get_or_append_left, get_or-set_same, get_or-set_other}
use Rattle.js_value.specs.declared.value.Value.{Value}
use Rattle.js_value.specs.State.{Property, ObjectRecord, Binding, Environment, Heap}
use Rattle.js_value.specs.Objects.{no_object, object_at, own_of, found, found_in, property_of, is_array, array_length, assigned, with_object, with_value_of, write_of, write_to, written, set_by, Adds, Replaces, ReadOnly}
use Rattle.js_value.specs.Environments.{Cell, no_environment, no_binding, environment_in, environment_at, place_in, place_of, resolved, binding_at, Assign, Done, Dead, Constant, assign_answer, assign, assigned as assigned'}
use Rattle.js_value.specs.Copying.{taken, as_number, write_taken, unwritten}
use Rattle.js_value.specs.Lookups.{LooksUp, LooksOut, Shows, FindsAgain, AssignShows, GetsNone, free, PutsNew, PutsOld, GrowsByMore}

-- what comes of the place in an environment
abbrev seen_at : ℕ → Option Cell → Option ℕ → Option Cell
seen_at e further place = elim place [ Some at ↦ Some (record { environment = e; place = at }) | None ↦ further ]

pub looked_up : LooksUp
looked_up h e place name is = ap (seen_at e (resolved e h.environments (environment_at h e).outer name)) is

pub looked_out : LooksOut
looked_out h e name is = ap (seen_at e (resolved e h.environments (environment_at h e).outer name)) is

pub shows_same : (name : List ℕ) (x y : Environment) → y ≡ x → Shows name x y
shows_same name x y e = record { place = ap (λ z. place_of z name) e; outer = ap (λ (z : Environment). z.outer) e }

module _ (es fs : List Environment) (name : List ℕ) (cell : Cell)
    (agree : (e : ℕ) → e < length es → Shows name (environment_in es e) (environment_in fs e))
    (older : (e outer : ℕ) → e < length es → (environment_in es e).outer ≡ Some outer → outer < e) where
  out_kept : (n m : ℕ) (chain : Option ℕ) → ((e : ℕ) → chain ≡ Some e → resolved n es (Some e) name ≡ Some cell → resolved m fs (Some e) name ≡ Some cell) →
      resolved n es chain name ≡ Some cell → resolved m fs chain name ≡ Some cell
  out_kept zero m None further is = cc
  out_kept (suc n) m None further is = cc
  out_kept n m (Some e) further is = further e refl is

  pub resolved_kept : (n m e : ℕ) → e < length es → n ≤ m → resolved n es (Some e) name ≡ Some cell → resolved m fs (Some e) name ≡ Some cell
  resolved_kept zero m e low l is = cc
  resolved_kept (suc n) zero e low l is = absurd (omega arith)
  resolved_kept (suc n) (suc m) e low l is =
      ap (seen_at e (resolved m fs (environment_in fs e).outer name)) (agree e low).place
      ∙ ap (λ chain. seen_at e (resolved m fs chain name) (place_of (environment_in es e) name)) (agree e low).outer
      ∙ (elim (place_of (environment_in es e) name) as (λ place. seen_at e (resolved n es (environment_in es e).outer name) place ≡ Some cell →
      seen_at e (resolved m fs (environment_in es e).outer name) place ≡ Some cell) [
        | Some at ↦ λ found. found
        | None ↦ λ found. out_kept n m (environment_in es e).outer
            (λ x o. let below = older e x low o in resolved_kept n m x (omega (arith, low, below)) (omega (arith, l))) found
      ]) is

pub finds_again : FindsAgain
finds_again es fs name cell agree older n m e low l is = resolved_kept es fs name cell agree older n m e low l is

-- Assignments

assigned_name : (a : Assign) (v : Value) (b : Binding) → (assigned' a v b).name ≡ b.name
assigned_name Done v b = refl
assigned_name Dead v b = refl
assigned_name Constant v b = refl

place_set : (name : List ℕ) (bs : List Binding) (i : ℕ) (b d : Binding) → i < length bs → b.name ≡ (slice_index_or bs i d).name → place_in (slice_set bs i b) name ≡ place_in bs name
place_set name [] i b d low is = absurd (omega arith)
place_set name (c ∷ bs) zero b d low is = ap (λ n. if bytes_eq n name then Some 0 else option_map suc (place_in bs name)) is
place_set name (c ∷ bs) (suc i) b d low is =
    let l : i < length bs = omega arith in
    ap (λ place. if bytes_eq c.name name then Some 0 else option_map suc place) (place_set name bs i b d l is)

pub assign_shows : AssignShows
assign_shows cell v h name e low within = by (e == cell.environment) refl
  where
    bs : List Binding
    bs = (environment_at h cell.environment).bindings

    after : Binding
    after = assigned' (assign_answer h cell) v (binding_at h cell)

    env_after : environment_at (assign cell v h) cell.environment ≡ record { outer = (environment_at h cell.environment).outer; bindings = slice_set bs cell.place after }
    env_after = get_or-set_same h.environments cell.environment _ no_environment low

    by : (t : Bool) → (e == cell.environment) ≡ t → Shows name (environment_at h e) (environment_at (assign cell v h) e)
    by false t = let other : e ≢ cell.environment = λ q. grind (arith, nat_tests, t, q) in
        shows_same name (environment_at h e) (environment_at (assign cell v h) e) (get_or-set_other h.environments cell.environment e _ no_environment other)
    by true t = let q : e ≡ cell.environment = grind (arith, nat_tests, t) in
        subst (λ x. Shows name (environment_at h x) (environment_at (assign cell v h) x)) (sym q) (record {
          place = ap (λ y. place_of y name) env_after ∙ place_set name bs cell.place after no_binding within (assigned_name (assign_answer h cell) v (binding_at h cell));
          outer = ap (λ (y : Environment). y.outer) env_after;
        })

-- Properties

pub get_none : GetsNone
get_none h o key e b =
    ap (λ t. option_map (λ f. f.property.value) (elim t [ Some p ↦ Some (found_in (object_at h o) p) | None ↦ found o h.objects (object_at h o).prototype key ])) e
    ∙ ap (option_map (λ f. f.property.value)) b

module _ (h : Heap) (o : ℕ) (key : List ℕ) (v : Value) (prototype : Option ℕ) (ps : List Property) (is : object_at h o ≡ free prototype ps) where
  abbrev R : ObjectRecord
  R = free prototype ps

  takes : taken h o key v ≡ Ok v
  takes = ap (λ (r : ObjectRecord). if is_array r.kind && bytes_eq key array_length then as_number v else Ok v) is

  adds : property_of ps key ≡ None → found o h.objects prototype key ≡ None → write_of h o key v ≡ Adds
  adds none above =
      ap (λ r. write_to r (own_of r key) (found o h.objects r.prototype key) key v) is
      ∙ ap (λ t. write_to R t (found o h.objects prototype key) key v) none
      ∙ ap (λ f. write_to R None f key v) above

  new : property_of ps key ≡ None → found o h.objects prototype key ≡ None → write_taken o key (taken h o key v) h ≡ record { heap = with_object o (free prototype (ps ++ assigned key v ∷ [])) h; halt = None }
  new none above =
      ap (λ t. write_taken o key t h) takes
      ∙ ap (λ w. record { heap = with_object o (written (object_at h o) w key v) h; halt = unwritten (set_by w) }) (adds none above)
      ∙ ap (λ r. record { heap = with_object o (written r Adds key v) h; halt = None }) is

  replaces_it : (p : Property) → property_of ps key ≡ Some p → p.writable ≡ true → write_of h o key v ≡ Replaces
  replaces_it p some may =
      ap (λ r. write_to r (own_of r key) (found o h.objects r.prototype key) key v) is
      ∙ ap (λ t. write_to R t (found o h.objects prototype key) key v) some
      ∙ ap (λ b. if (b && true) then Replaces else ReadOnly) may

  old : (p : Property) → property_of ps key ≡ Some p → p.writable ≡ true → write_taken o key (taken h o key v) h ≡ record { heap = with_object o (free prototype (with_value_of key v ps)) h; halt = None }
  old p some may =
      ap (λ t. write_taken o key t h) takes
      ∙ ap (λ w. record { heap = with_object o (written (object_at h o) w key v) h; halt = unwritten (set_by w) }) (replaces_it p some may)
      ∙ ap (λ r. record { heap = with_object o (written r Replaces key v) h; halt = None }) is

pub put_new : PutsNew
put_new h o key v prototype ps is none above = new h o key v prototype ps is none above

pub put_old : PutsOld
put_old h o key v prototype ps p is some may = old h o key v prototype ps is p some may

-- Growth

longer : (xs ys : List ObjectRecord) (o : ℕ) → o < length xs → o < length (xs ++ ys)
longer [] ys o low = absurd (omega arith)
longer (x ∷ xs) ys zero low = omega arith
longer (x ∷ xs) ys (suc o) low = let l : o < length xs = omega arith in let r = longer xs ys o l in omega arith

pub grown_more : GrowsByMore
grown_more h more environments o low = (longer h.objects more o low, get_or_append_left h.objects more no_object o low)
