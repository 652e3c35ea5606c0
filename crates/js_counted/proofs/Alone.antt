-- What the right run does alone leaves the two stores alike: what stands for something stays as it is.
use Rattle.std.proofs.Common.{◌≡◌, ℕ, ◌<◌, List, length, get_or, Some, sym, ◌∙◌, subst}
use Rattle.std.specs.Prelude.{slice_index_or}
use Rattle.js_value.specs.State.{Heap}
use Rattle.js_value.specs.Objects.{no_object, object_at}
use Rattle.js_value.specs.Environments.{no_environment, no_binding, environment_at}
use Rattle.js_two_runs.specs.Pairs.{Pairs, Paired, Corresponds}
use Rattle.js_suits.specs.Settings.{World, Setting}
use Rattle.js_lockstep.specs.Worlds.{AlikeEnvironments, Untouched}
use Rattle.js_lockstep.proofs.Heaps.{Both}

pub corresponds_alone : {A : Type 0} (R : ℕ → ℕ → A → A → Type 0) (d : A) (pairs : Pairs) (xs ys zs : List A) → Corresponds R d pairs xs ys →
    ((o q : ℕ) → Paired pairs o q → (q < length zs) × (get_or zs q d ≡ get_or ys q d)) → Corresponds R d pairs xs zs
corresponds_alone R d pairs xs ys zs h same = record {
  related = λ o q i. subst (λ z. R o q (get_or xs o d) z) (sym (same o q i).1) (h.related o q i);
  left_bound = h.left_bound;
  right_bound = λ o q i. (same o q i).0;
  one_right = h.one_right;
  one_left = h.one_left;
}

-- objects that stand for some, and environments
abbrev pub ObjectsStay : World → Heap → Heap → Type 0
ObjectsStay w k l = (o q : ℕ) → Paired w.objects o q → (q < length l.objects) × (object_at l q ≡ object_at k q)

abbrev pub EnvironmentsStay : World → Heap → Heap → Type 0
EnvironmentsStay w k l = (e f : ℕ) → Paired w.environments e f → (f < length l.environments) × (environment_at l f ≡ environment_at k f)

pub both_alone : (c : Setting) (w : World) (h k l : Heap) → Both c w h k → ObjectsStay w k l → EnvironmentsStay w k l → Both c w h l
both_alone c w h k l x objects environments = record {
  heaps = record { objects = corresponds_alone _ no_object w.objects h.objects k.objects l.objects x.heaps.objects objects; built_in = x.heaps.built_in };
  environments = corresponds_alone (AlikeEnvironments c.name w) no_environment w.environments h.environments k.environments l.environments x.environments environments;
  global = x.global;
}

-- What stands for nothing of the source's run stays as it is

pub record Lasts (w v : World) (h k : Heap) : Type 0 where
  pub objects : (q : ℕ) → q < length h.objects → ((o : ℕ) → Paired w.objects o q → ⊥) →
      ((o : ℕ) → Paired v.objects o q → ⊥) × (q < length k.objects) × (object_at k q ≡ object_at h q)
  pub environments : (f : ℕ) → f < length h.environments → ((e : ℕ) → Paired w.environments e f → ⊥) →
      ((e : ℕ) → Paired v.environments e f → ⊥) × (f < length k.environments) × (environment_at k f ≡ environment_at h f)

pub lasts_by : {w v : World} {h k : Heap} → Untouched w v h k → Lasts w v h k
lasts_by u = record { objects = u.objects; environments = u.environments }

pub lasts_again : {u v w : World} {h k l : Heap} → Lasts u v h k → Lasts v w k l → Lasts u w h l
lasts_again x y = record {
  objects = λ q lt apart. let a = x.objects q lt apart in let b = y.objects q a.1 a.0 in (b.0, b.1, b.2 ∙ a.2);
  environments = λ f lt apart. let a = x.environments f lt apart in let b = y.environments f a.1 a.0 in (b.0, b.1, b.2 ∙ a.2);
}

-- and so does what names hold, of files that have one of their own
abbrev pub OwnStays : World → Heap → Heap → Type 0
OwnStays w h k = (e f n : ℕ) → Paired w.environments e f → w.own f ≡ Some n →
    slice_index_or (environment_at k f).bindings n no_binding ≡ slice_index_or (environment_at h f).bindings n no_binding
