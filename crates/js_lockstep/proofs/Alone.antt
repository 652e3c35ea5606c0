-- A call of a built-in function changes no object of the right run that is in no pair.
use Rattle.std.proofs.Common.{◌≡◌, ◌≢◌, ℕ, ◌<◌, true, List, [], ◌∷◌, ◌++◌, length, Option, Some, None, Ok, Err, refl, sym, ◌∙◌, subst, ⊎_elim, arith}
use Rattle.std.proofs.lemmas.List.{get_or_append_left, get_or-set_other, length-set, length_push}
use Rattle.js_value.specs.declared.value.Value.{Value}
use Rattle.js_value.specs.declared.value.Value.TheVariants as value
use Rattle.js_value.specs.declared.value.Primitive.TheVariants as primitive
use Rattle.js_value.specs.declared.key.Key.{Key}
use Rattle.js_value.specs.declared.deed.Halt.{Halt}
use Rattle.js_value.specs.declared.deed.Deed.{Deed}
use Rattle.js_value.specs.State.{ObjectRecord, Heap}
use Rattle.js_value.specs.Objects.{no_object, object_at, with_object, next_object, keys, written, write_of}
use Rattle.js_value.specs.Copying.{Copied, and_then, taken, write_taken, enumerable_value, write_found, copy_key, copy_keys, copy_value, copy_values}
use Rattle.js_value.specs.Host.{Or, after_deed, heap_by, error_object, error_made}
use Rattle.js_two_runs.specs.Pairs.{Pairs, Paired, here}
use Rattle.js_two_runs.specs.TwoRuns as two_runs
use Rattle.js_two_runs.specs.TwoRuns.{RelatedDeeds, RelatedAnswers, ok, err}
use Rattle.js_two_runs.specs.TwoCalls.{pairs_after}
use Rattle.js_two_runs.proofs.PairsLemmas.{newest}
use Rattle.js_lockstep.specs.Worlds.{root, RootStays}
use Rattle.js_lockstep.proofs.Root.{root_at, root_again, root_new, root_apart, root_written, SameFrozen, set_same}

-- Objects but one

pub record SameBut (p : ℕ) (h k : Heap) : Type 0 where
  pub size : length k.objects ≡ length h.objects
  pub other : (q : ℕ) → q ≢ p → object_at k q ≡ object_at h q
  pub root_stays : root < length h.objects → RootStays h k

pub but_same : (p : ℕ) (h : Heap) → SameBut p h h
but_same p h = record { size = refl; other = λ q ne. refl; root_stays = λ low. root_at h h refl }

but_again : (p : ℕ) (h k l : Heap) → SameBut p h k → SameBut p k l → SameBut p h l
but_again p h k l a b = record {
  size = b.size ∙ a.size;
  other = λ q ne. b.other q ne ∙ a.other q ne;
  root_stays = λ low. root_again h k l (a.root_stays low) (b.root_stays (subst (λ n. root < n) (sym a.size) low));
}

pub but_written : (p : ℕ) (x : ObjectRecord) (h : Heap) → SameFrozen (object_at h p) x → SameBut p h (with_object p x h)
but_written p x h same = record { size = length-set h.objects p x; other = λ q ne. get_or-set_other h.objects p q x no_object ne; root_stays = root_written p x h same }

pub but_apart : (p : ℕ) (x : ObjectRecord) (h : Heap) → p ≢ root → SameBut p h (with_object p x h)
but_apart p x h apart = record { size = length-set h.objects p x; other = λ q ne. get_or-set_other h.objects p q x no_object ne; root_stays = λ low. root_apart p x h apart }

pub elements_same : (x : ObjectRecord) (vs : List Value) → SameFrozen x (record x { elements = vs })
elements_same x vs p f = record { kind = refl; prototype = refl; frozen = refl; properties = refl }

pub freeze_same : (x : ObjectRecord) → SameFrozen x (record x { frozen = true })
freeze_same x p f = record { kind = refl; prototype = refl; frozen = sym f; properties = refl }

pub not_root : {n : ℕ} → root < n → n ≢ root
not_root low e = omega (arith, low, e)

then_but : (p : ℕ) (c : Copied) (f : Heap → Copied) (h : Heap) → SameBut p h c.heap → ((k : Heap) → SameBut p k (f k).heap) → SameBut p h (and_then c f).heap
then_but p c f h e each =
    elim c.halt as (λ (x : Option Halt). (let d : Copied = elim x [ None ↦ f c.heap | Some _ ↦ c ] in SameBut p h d.heap)) [ None ↦ but_again p h c.heap (f c.heap).heap e (each c.heap) | Some _ ↦ e ]

pub taken_but : (p : ℕ) (key : List ℕ) (v : Or Value) (h : Heap) → SameBut p h (write_taken p key v h).heap
taken_but p key (Ok v) h = but_written p (written (object_at h p) (write_of h p key v) key v) h (set_same h p key v)
taken_but p key (Err halt) h = but_same p h

found_but : (p : ℕ) (key : List ℕ) (v : Option Value) (h : Heap) → SameBut p h (write_found p key v h).heap
found_but p key None h = but_same p h
found_but p key (Some v) h = taken_but p key (taken h p key v) h

keys_but : (p from : ℕ) (ks : List Key) (h : Heap) → SameBut p h (copy_keys p from ks h).heap
keys_but p from [] h = but_same p h
keys_but p from (k ∷ ks) h = then_but p (copy_key p from k.key h) (copy_keys p from ks) h (found_but p k.key (enumerable_value h from k.key) h) (λ g. keys_but p from ks g)

value_but : (p : ℕ) (v : Value) (h : Heap) → SameBut p h (copy_value p v h).heap
value_but p (value.Object o) h = keys_but p o.index (keys h o.index) h
value_but p (value.Primitive primitive.Undefined) h = but_same p h
value_but p (value.Primitive primitive.Null) h = but_same p h
value_but p (value.Primitive (primitive.Boolean b)) h = but_same p h
value_but p (value.Primitive (primitive.Number n)) h = but_same p h
value_but p (value.Primitive (primitive.Text us)) h = but_same p h

values_but : (p : ℕ) (vs : List Value) (h : Heap) → SameBut p h (copy_values p vs h).heap
values_but p [] h = but_same p h
values_but p (v ∷ vs) h = then_but p (copy_value p v h) (copy_values p vs) h (value_but p v h) (λ g. values_but p vs g)

-- Objects in no pair

abbrev pub Alone : Pairs → Pairs → Heap → Heap → Type 0
Alone small large h k = (q : ℕ) → q < length h.objects → ((o : ℕ) → Paired small o q → ⊥) →
    ((o : ℕ) → Paired large o q → ⊥) × (q < length k.objects) × (object_at k q ≡ object_at h q)

pub alone_same : (pairs : Pairs) (h : Heap) → Alone pairs pairs h h
alone_same pairs h q lt apart = (apart, lt, refl)

pub alone_again : (a b c : Pairs) (h k l : Heap) → Alone a b h k → Alone b c k l → Alone a c h l
alone_again a b c h k l x y q lt apart = let z = x q lt apart in let z' = y q z.1 z.0 in (z'.0, z'.1, z'.2 ∙ z.2)

pub alone_but : (pairs : Pairs) (o p : ℕ) (h k : Heap) → Paired pairs o p → SameBut p h k → Alone pairs pairs h k
alone_but pairs o p h k i s q lt apart = (apart, subst (λ n. q < n) (sym s.size) lt, s.other q (λ e. apart o (subst (λ n. Paired pairs o n) (sym e) i)))

pub alone_set : (pairs : Pairs) (o p : ℕ) (x : ObjectRecord) (h : Heap) → Paired pairs o p → Alone pairs pairs h (with_object p x h)
alone_set pairs o p x h i q lt apart = (
  apart,
  subst (λ n. q < n) (sym (length-set h.objects p x)) lt,
  get_or-set_other h.objects p q x no_object (λ e. apart o (subst (λ n. Paired pairs o n) (sym e) i)),
)

pub alone_new : (pairs : Pairs) (n : ℕ) (x : ObjectRecord) (h : Heap) → Alone pairs ((n, next_object h) ∷ pairs) h (record h { objects = h.objects ++ x ∷ [] })
alone_new pairs n x h q lt apart = (
  λ o i. ⊎_elim (λ e. omega (arith, e.1, lt)) (λ j. apart o j) (newest i),
  omega (arith, length_push h.objects x, lt),
  get_or_append_left h.objects (x ∷ []) no_object q lt,
)

pub alone_deed : (pairs : Pairs) (n : Heap) (k : Heap) (d e : Deed) → RelatedDeeds (Paired pairs) d e → Alone pairs (pairs_after (Ok d) pairs n k) k (after_deed e k)
alone_deed pairs n k d e (two_runs.give v w r) = alone_same pairs k
alone_deed pairs n k d e (two_runs.line us) = alone_same pairs k
alone_deed pairs n k d e (two_runs.makes_array vs ws rs) = alone_new pairs (next_object n) _ k
alone_deed pairs n k d e (two_runs.makes_object a b r) = alone_new pairs (next_object n) _ k
alone_deed pairs n k d e (two_runs.makes_error x None) = alone_new pairs (next_object n) _ k
alone_deed pairs n k d e (two_runs.makes_error x (Some message)) =
    alone_again pairs ((next_object n, next_object k) ∷ pairs) ((next_object n, next_object k) ∷ pairs) k (error_object x k) (error_made x (Some message) k) (alone_new pairs (next_object n) _ k)
    (alone_set ((next_object n, next_object k) ∷ pairs) (next_object n) (next_object k) _ (error_object x k) here)
alone_deed pairs n k d e (two_runs.append o p i vs ws rs) = alone_but pairs o.index p.index k _ i (but_written p.index _ k (elements_same _ _))
alone_deed pairs n k d e (two_runs.cut o p i m v w r) = alone_but pairs o.index p.index k _ i (but_written p.index _ k (elements_same _ _))
alone_deed pairs n k d e (two_runs.replace o p i vs ws rs v w r) = alone_but pairs o.index p.index k _ i (but_written p.index _ k (elements_same _ _))
alone_deed pairs n k d e (two_runs.freeze o p i) = alone_but pairs o.index p.index k _ i (but_written p.index _ k (freeze_same _))
alone_deed pairs n k d e (two_runs.copy o p i vs ws rs) = alone_but pairs o.index p.index k _ i (values_but p.index ws k)
alone_deed pairs n k d e (two_runs.enter f g r v w s vs ws rs) = alone_same pairs k
alone_deed pairs n k d e (two_runs.require us) = alone_same pairs k

pub alone_heap : (pairs : Pairs) (n : Heap) (k : Heap) (d e : Or Deed) → RelatedAnswers (Paired pairs) (RelatedDeeds (Paired pairs)) d e → Alone pairs (pairs_after d pairs n k) k (heap_by e k)
alone_heap pairs n k d e (ok x y r) = alone_deed pairs n k x y r
alone_heap pairs n k d e (err halt) = alone_same pairs k

-- What all objects inherit from

pub root_deed : (R : ℕ → ℕ → Type 0) (k : Heap) (d e : Deed) → RelatedDeeds R d e → root < length k.objects → RootStays k (after_deed e k)
root_deed R k d e (two_runs.give v w r) low = root_at k k refl
root_deed R k d e (two_runs.line us) low = root_at k k refl
root_deed R k d e (two_runs.makes_array vs ws rs) low = root_new k _ low
root_deed R k d e (two_runs.makes_object a b r) low = root_new k _ low
root_deed R k d e (two_runs.makes_error x None) low = root_new k _ low
root_deed R k d e (two_runs.makes_error x (Some message)) low = root_again k (error_object x k) (error_made x (Some message) k) (root_new k _ low) (root_apart (next_object k) _ (error_object x k) (not_root low))
root_deed R k d e (two_runs.append o p i vs ws rs) low = root_written p.index _ k (elements_same _ _) low
root_deed R k d e (two_runs.cut o p i m v w r) low = root_written p.index _ k (elements_same _ _) low
root_deed R k d e (two_runs.replace o p i vs ws rs v w r) low = root_written p.index _ k (elements_same _ _) low
root_deed R k d e (two_runs.freeze o p i) low = root_written p.index _ k (freeze_same _) low
root_deed R k d e (two_runs.copy o p i vs ws rs) low = (values_but p.index ws k).root_stays low
root_deed R k d e (two_runs.enter f g r v w s vs ws rs) low = root_at k k refl
root_deed R k d e (two_runs.require us) low = root_at k k refl

pub root_heap : (R : ℕ → ℕ → Type 0) (k : Heap) (d e : Or Deed) → RelatedAnswers R (RelatedDeeds R) d e → root < length k.objects → RootStays k (heap_by e k)
root_heap R k d e (ok x y r) low = root_deed R k x y r low
root_heap R k d e (err halt) low = root_at k k refl
