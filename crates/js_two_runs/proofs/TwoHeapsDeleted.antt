-- A property is deleted in two heaps that are alike.
use Rattle.std.proofs.Common.{◌≡◌, ℕ, Bool, List, [], ◌∷◌, Option, Some, None, if◌then◌else◌, refl, subst, ap, ap₂, ◌∙◌, ◌&&◌, not}
use Rattle.std.specs.Prelude.{codes, filter}
use Rattle.std.specs.List.{AllZip}
use Rattle.std.specs.Str.{bytes_eq}
use Rattle.js_value.specs.State.{Property, ObjectRecord, Heap}
use Rattle.js_value.specs.Objects.{object_at, is_array, is_function, array_length, with_properties, Delete, Deleted, IsFrozen, LeavesHole, delete_of, delete_answer, deleted, delete}
use Rattle.js_value.specs.Key.{index_of}
use Rattle.js_two_runs.specs.Pairs.{Pairs, Paired}
use Rattle.js_two_runs.specs.TwoRuns.{InBoth, neither, both}
use Rattle.js_two_runs.specs.TwoHeaps.{AlikeProperties, AlikeObjects, AlikeHeaps}
use Rattle.js_two_runs.proofs.TwoHeapsSeen.{choice, arrays-alike, functions-alike, own_of-alike}
use Rattle.js_two_runs.proofs.TwoHeapsLater.{heaps-written}

module _ (pairs : Pairs) (F : (code around other_code other_around : ℕ) → Type 0) where
  delete_of-alike : (o p : ℕ) (x y : ObjectRecord) (a b : Property) → AlikeObjects pairs F o p x y → AlikeProperties pairs F a b → delete_of x a ≡ delete_of y b
  delete_of-alike o p x y a b r s =
      let by : Bool → Bool → Bool → List ℕ → Bool → Delete = λ frozen array function key enumerable.
      if frozen then IsFrozen
      else (if array && bytes_eq key array_length then IsFrozen
      else (if function && not enumerable && bytes_eq key (codes "prototype") then IsFrozen
      else (if array then elim (index_of key) [ None ↦ Deleted | Some _ ↦ LeavesHole ] else Deleted))) in
      ap₂ (λ f i. by f i (is_function x.kind) a.key a.enumerable) r.frozen (arrays-alike pairs F _ _ r.kind)
      ∙ ap₂ (λ f e. by y.frozen (is_array y.kind) f a.key e) (functions-alike pairs F _ _ r.kind) s.enumerable
      ∙ ap (λ key. by y.frozen (is_array y.kind) (is_function y.kind) key b.enumerable) s.key

  delete_own-alike : (o p : ℕ) (x y : ObjectRecord) (a b : Option Property) → AlikeObjects pairs F o p x y → InBoth (AlikeProperties pairs F) a b →
      (elim a as (λ _. Delete) [ None ↦ Deleted | Some c ↦ delete_of x c ]) ≡ (elim b as (λ _. Delete) [ None ↦ Deleted | Some c ↦ delete_of y c ])
  delete_own-alike o p x y a b r neither = refl
  delete_own-alike o p x y a b r (both c d s) = delete_of-alike o p x y c d r s

  without-alike : (key : List ℕ) (ps qs : List Property) → AllZip (AlikeProperties pairs F) ps qs →
      AllZip (AlikeProperties pairs F) (filter (λ p. not (bytes_eq p.key key)) ps) (filter (λ p. not (bytes_eq p.key key)) qs)
  without-alike key [] [] rs = tt
  without-alike key [] (q ∷ qs) rs = absurd rs
  without-alike key (p ∷ ps) [] rs = absurd rs
  without-alike key (p ∷ ps) (q ∷ qs) rs =
      choice (AllZip (AlikeProperties pairs F)) _ _ _ _ _ _ (ap (λ k. not (bytes_eq k key)) (rs.0).key) (rs.0, without-alike key ps qs rs.1) (without-alike key ps qs rs.1)

  deleted-alike : (d : Delete) (key : List ℕ) (ps qs : List Property) → AllZip (AlikeProperties pairs F) ps qs → AllZip (AlikeProperties pairs F) (deleted d key ps) (deleted d key qs)
  deleted-alike Deleted key ps qs rs = without-alike key ps qs rs
  deleted-alike IsFrozen key ps qs rs = rs
  deleted-alike LeavesHole key ps qs rs = rs

  module _ (h k : Heap) (o p : ℕ) (hk : AlikeHeaps pairs F h k) (i : Paired pairs o p) where
    pub delete_answer-alike : (key : List ℕ) → delete_answer h o key ≡ delete_answer k p key
    delete_answer-alike key = let r = hk.objects.related o p i in delete_own-alike o p _ _ _ _ r (own_of-alike pairs F o p _ _ key r)

    pub delete-alike : (key : List ℕ) → AlikeHeaps pairs F (delete o key h) (delete p key k)
    delete-alike key =
        let r = hk.objects.related o p i in
        subst (λ d. AlikeHeaps pairs F (delete o key h) (with_properties p (deleted d key (object_at k p).properties) k)) (delete_answer-alike key)
        (heaps-written pairs F h k o p _ _ hk i (record { kind = r.kind; prototype = r.prototype; frozen = r.frozen; elements = r.elements; properties = deleted-alike (delete_answer h o key) key _ _ r.properties }))
