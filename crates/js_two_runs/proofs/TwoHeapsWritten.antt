-- A write to a property, and the loop of `Object.assign`, in two heaps that are alike.
use Rattle.std.proofs.Common.{◌≡◌, ℕ, zero, suc, Bool, List, [], ◌∷◌, set, Option, Some, None, if◌then◌else◌, refl, subst, ap, ap₂, arith, ◌&&◌, not}
use Rattle.std.specs.Prelude.{nat_eq}
use Rattle.std.specs.List.{AllZip}
use Rattle.std.specs.Str.{bytes_eq}
use Rattle.js_value.specs.declared.value.Value.{Value}
use Rattle.js_value.specs.declared.value.Value.TheVariants as value
use Rattle.js_value.specs.declared.value.Primitive.TheVariants as primitive
use Rattle.js_value.specs.declared.value.Kind.TheVariants as kind
use Rattle.js_value.specs.declared.key.Key.{Key}
use Rattle.js_value.specs.declared.deed.Halt.{Halt}
use Rattle.js_value.specs.declared.deed.Halt.TheVariants.{Refuse}
use Rattle.js_value.specs.State.{Property, ObjectRecord, Heap}
use Rattle.js_value.specs.Objects as object
use Rattle.js_value.specs.Objects.{object_at, array_length, assigned, keys, Found, with_object, Write, Replaces, Adds, Puts, Appends, Cuts, ReadOnly, Sparse, BadLength, write_of_length, write_of_own, write_of_new, write_of_absent, write_to, write_of, set_by, set_answer, with_value_of, written}
use Rattle.js_value.specs.Key.{index_of}
use Rattle.js_value.specs.Arguments.{Or, to_number}
use Rattle.js_value.specs.Copying.{Copied, goes_on, stops, and_then, as_number, taken, unwritten, write_taken, write, if_enumerable, write_found, copy_key, copy_keys, copy_value, copy_values}
use Rattle.js_two_runs.specs.Pairs.{Pairs, Paired}
use Rattle.js_two_runs.specs.TwoRuns.{Related, plain, refs, AllRelated, none, more, InBoth, neither, both, RelatedAnswers, ok, err}
use Rattle.js_two_runs.specs.TwoHeaps.{AlikeProperties, AlikeObjects, AlikeHeaps}
use Rattle.js_two_runs.proofs.TwoRunsLemmas.{seen-rel, data-rel}
use Rattle.js_two_runs.proofs.TwoRunsObjects.{length-rel, take-rel, joined-rel}
use Rattle.js_two_runs.proofs.TwoHeapsSeen.{choice, arrays-alike, assigned-alike, AlikeFound, found_in-alike, own-alike, above-alike, found-alike, keys_of-alike}
use Rattle.js_two_runs.proofs.TwoHeapsLater.{properties-joined, heaps-written}

module _ (pairs : Pairs) (F : (code around other_code other_around : ℕ) → Type 0) where
  -- Which write it is

  of_length-alike : (n m : ℕ) (v w : Value) → n ≡ m → Related (Paired pairs) v w → write_of_length n v ≡ write_of_length m w
  of_length-alike n m v w e (plain p) = ap (λ l. write_of_length l (value.Primitive p)) e
  of_length-alike n m v w e (refs o p r) = refl

  of_own-alike : (o p : ℕ) (x y : ObjectRecord) (key : List ℕ) (v w : Value) → AlikeObjects pairs F o p x y → Related (Paired pairs) v w → write_of_own x key v ≡ write_of_own y key w
  of_own-alike o p x y key v w r s =
      let by : Bool → Write → Write = λ b t. if b then elim (index_of key) [ Some n ↦ Puts n | None ↦ if bytes_eq key array_length then t else Replaces ] else Replaces in
      ap₂ by (arrays-alike pairs F _ _ r.kind) (of_length-alike _ _ v w (length-rel (Paired pairs) _ _ r.elements) s)

  of_new-alike : (o p : ℕ) (x y : ObjectRecord) (key : List ℕ) → AlikeObjects pairs F o p x y → write_of_new x key ≡ write_of_new y key
  of_new-alike o p x y key r =
      let by : Bool → ℕ → Write = λ b l. if b then elim (index_of key) [ None ↦ Adds | Some n ↦ if nat_eq n l then Appends else Sparse ] else Adds in
      ap₂ by (arrays-alike pairs F _ _ r.kind) (length-rel (Paired pairs) _ _ r.elements)

  of_absent-alike : (o p : ℕ) (x y : ObjectRecord) (a b : Option Found) (key : List ℕ) → AlikeObjects pairs F o p x y → InBoth (AlikeFound pairs F) a b → write_of_absent x a key ≡ write_of_absent y b key
  of_absent-alike o p x y a b key r neither =
      ap₂ (λ (f : Bool) (t : Write). if f then ReadOnly else t) r.frozen (of_new-alike o p x y key r)
  of_absent-alike o p x y a b key r (both f g s) =
      ap₂ (λ (c : Bool) (t : Write). if c then t else ReadOnly) (ap₂ (λ c d. c && not d) s.writable r.frozen) (of_new-alike o p x y key r)

  to-alike : (o p : ℕ) (x y : ObjectRecord) (a b : Option Property) (f g : Option Found) (key : List ℕ) (v w : Value) → AlikeObjects pairs F o p x y → InBoth (AlikeProperties pairs F) a b → InBoth (AlikeFound pairs F) f g →
      Related (Paired pairs) v w → write_to x a f key v ≡ write_to y b g key w
  to-alike o p x y a b f g key v w r neither t s = of_absent-alike o p x y f g key r t
  to-alike o p x y a b f g key v w r (both c d q) t s =
      ap₂ (λ (c : Bool) (t : Write). if c then t else ReadOnly) (found_in-alike pairs F o p x y c d r q).writable (of_own-alike o p x y key v w r s)

  pub write_of-alike : (h k : Heap) (o p : ℕ) (key : List ℕ) (v w : Value) → AlikeHeaps pairs F h k → Paired pairs o p → Related (Paired pairs) v w → write_of h o key v ≡ write_of k p key w
  write_of-alike h k o p key v w hk i s =
      let r = hk.objects.related o p i in
      to-alike o p _ _ _ _ _ _ key v w r (own-alike pairs F h k hk o p key i) (above-alike pairs F h k hk o p o p _ _ key r.prototype (omega arith) (omega arith) (found-alike pairs F h k hk o p key)) s

  -- What it makes of the object

  with_value-alike : (key : List ℕ) (v w : Value) (ps qs : List Property) → Related (Paired pairs) v w → AllZip (AlikeProperties pairs F) ps qs → AllZip (AlikeProperties pairs F) (with_value_of key v ps) (with_value_of key w qs)
  with_value-alike key v w [] [] s rs = rs
  with_value-alike key v w [] (q ∷ qs) s rs = absurd rs
  with_value-alike key v w (p ∷ ps) [] s rs = absurd rs
  with_value-alike key v w (p ∷ ps) (q ∷ qs) s rs =
      choice (AllZip (AlikeProperties pairs F)) _ _ _ _ _ _ (ap (λ k. bytes_eq k key) (rs.0).key)
      (record { key = (rs.0).key; value = s; enumerable = (rs.0).enumerable; writable = (rs.0).writable }, rs.1)
      (rs.0, with_value-alike key v w ps qs s rs.1)

  put-alike : (n : ℕ) (v w : Value) (vs ws : List Value) → Related (Paired pairs) v w → AllRelated (Paired pairs) vs ws → AllRelated (Paired pairs) (set vs n v) (set ws n w)
  put-alike n v w vs ws s none = none
  put-alike zero v w vs ws s (more x y r vs' ws' rs) = more v w s vs' ws' rs
  put-alike (suc n) v w vs ws s (more x y r vs' ws' rs) = more x y r _ _ (put-alike n v w vs' ws' s rs)

  written-alike : (o p : ℕ) (x y : ObjectRecord) (t : Write) (key : List ℕ) (v w : Value) → AlikeObjects pairs F o p x y → Related (Paired pairs) v w → AlikeObjects pairs F o p (written x t key v) (written y t key w)
  written-alike o p x y Replaces key v w r s =
      record { kind = r.kind; prototype = r.prototype; frozen = r.frozen; elements = r.elements; properties = with_value-alike key v w _ _ s r.properties }
  written-alike o p x y Adds key v w r s =
      record { kind = r.kind; prototype = r.prototype; frozen = r.frozen; elements = r.elements; properties = properties-joined pairs F _ _ (assigned key v ∷ []) (assigned key w ∷ []) r.properties (assigned-alike pairs F key v w s, tt) }
  written-alike o p x y (Puts n) key v w r s =
      record { kind = r.kind; prototype = r.prototype; frozen = r.frozen; elements = put-alike n v w _ _ s r.elements; properties = r.properties }
  written-alike o p x y Appends key v w r s =
      record { kind = r.kind; prototype = r.prototype; frozen = r.frozen; elements = joined-rel (Paired pairs) _ _ _ _ r.elements (more v w s [] [] none); properties = r.properties }
  written-alike o p x y (Cuts n) key v w r s =
      record { kind = r.kind; prototype = r.prototype; frozen = r.frozen; elements = take-rel (Paired pairs) n _ _ r.elements; properties = r.properties }
  written-alike o p x y ReadOnly key v w r s = r
  written-alike o p x y Sparse key v w r s = r
  written-alike o p x y BadLength key v w r s = r

  pub set-alike : (h k : Heap) (o p : ℕ) (key : List ℕ) (v w : Value) → AlikeHeaps pairs F h k → Paired pairs o p → Related (Paired pairs) v w → AlikeHeaps pairs F (object.set o key v h) (object.set p key w k)
  set-alike h k o p key v w hk i s =
      subst (λ t. AlikeHeaps pairs F (object.set o key v h) (with_object p (written (object_at k p) t key w) k)) (write_of-alike h k o p key v w hk i s)
      (heaps-written pairs F h k o p _ _ hk i (written-alike o p _ _ (write_of h o key v) key v w (hk.objects.related o p i) s))

  pub set_answer-alike : (h k : Heap) (o p : ℕ) (key : List ℕ) (v w : Value) → AlikeHeaps pairs F h k → Paired pairs o p → Related (Paired pairs) v w → set_answer h o key v ≡ set_answer k p key w
  set_answer-alike h k o p key v w hk i s = ap set_by (write_of-alike h k o p key v w hk i s)

  -- A copy

  -- heaps that are alike, and the same that stopped the writes
  pub record AlikeCopied (c d : Copied) : Type 0 where
    pub heap : AlikeHeaps pairs F c.heap d.heap
    pub halt : c.halt ≡ d.halt

  goes_on-alike : (h k : Heap) → AlikeHeaps pairs F h k → AlikeCopied (goes_on h) (goes_on k)
  goes_on-alike h k hk = record { heap = hk; halt = refl }

  stops-alike : (halt : Halt) (h k : Heap) → AlikeHeaps pairs F h k → AlikeCopied (stops halt h) (stops halt k)
  stops-alike halt h k hk = record { heap = hk; halt = refl }

  and_then-alike : (c d : Copied) (f g : Heap → Copied) → AlikeCopied c d → ((h k : Heap) → AlikeHeaps pairs F h k → AlikeCopied (f h) (g k)) → AlikeCopied (and_then c f) (and_then d g)
  and_then-alike c d f g r each =
      let left : Option Halt → Copied = λ x. elim x [ None ↦ f c.heap | Some _ ↦ c ] in
      let right : Option Halt → Copied = λ x. elim x [ None ↦ g d.heap | Some _ ↦ d ] in
      subst (λ x. AlikeCopied (left c.halt) (right x)) r.halt
      (elim c.halt as (λ x. AlikeCopied (left x) (right x)) [ None ↦ each c.heap d.heap r.heap | Some _ ↦ r ])

  number-alike : (v w : Value) → Related (Paired pairs) v w → RelatedAnswers (Paired pairs) (Related (Paired pairs)) (as_number v) (as_number w)
  number-alike v w r = data-rel (Paired pairs) (Related (Paired pairs)) _ _ _ _ (ap to_number (seen-rel (Paired pairs) v w r)) (λ n. ok _ _ (plain (primitive.Number n)))

  taken-alike : (h k : Heap) (o p : ℕ) (key : List ℕ) (v w : Value) → AlikeHeaps pairs F h k → Paired pairs o p → Related (Paired pairs) v w →
      RelatedAnswers (Paired pairs) (Related (Paired pairs)) (taken h o key v) (taken k p key w)
  taken-alike h k o p key v w hk i r =
      choice (RelatedAnswers (Paired pairs) (Related (Paired pairs))) _ _ _ _ _ _ (ap (λ b. b && bytes_eq key array_length) (arrays-alike pairs F _ _ (hk.objects.related o p i).kind)) (number-alike v w r) (ok v w r)

  write_taken-alike : (h k : Heap) (o p : ℕ) (key : List ℕ) (v w : Or Value) → AlikeHeaps pairs F h k → Paired pairs o p → RelatedAnswers (Paired pairs) (Related (Paired pairs)) v w →
      AlikeCopied (write_taken o key v h) (write_taken p key w k)
  write_taken-alike h k o p key v w hk i (ok a b r) = record { heap = set-alike h k o p key a b hk i r; halt = ap unwritten (set_answer-alike h k o p key a b hk i r) }
  write_taken-alike h k o p key v w hk i (err halt) = stops-alike halt h k hk

  pub write-alike : (h k : Heap) (o p : ℕ) (key : List ℕ) (v w : Value) → AlikeHeaps pairs F h k → Paired pairs o p → Related (Paired pairs) v w → AlikeCopied (write o key v h) (write p key w k)
  write-alike h k o p key v w hk i r = write_taken-alike h k o p key _ _ hk i (taken-alike h k o p key v w hk i r)

  -- a value of an enumerable property, in both or in neither
  if_enumerable-alike : (a b : Option Property) → InBoth (AlikeProperties pairs F) a b → InBoth (Related (Paired pairs)) (if_enumerable a) (if_enumerable b)
  if_enumerable-alike a b neither = neither
  if_enumerable-alike a b (both p q r) = choice (InBoth (Related (Paired pairs))) _ _ _ _ _ _ r.enumerable (both _ _ r.value) neither

  write_found-alike : (h k : Heap) (o p : ℕ) (key : List ℕ) (a b : Option Value) → AlikeHeaps pairs F h k → Paired pairs o p → InBoth (Related (Paired pairs)) a b → AlikeCopied (write_found o key a h) (write_found p key b k)
  write_found-alike h k o p key a b hk i neither = goes_on-alike h k hk
  write_found-alike h k o p key a b hk i (both v w r) = write-alike h k o p key v w hk i r

  module _ (o p : ℕ) (i : Paired pairs o p) where
    key-alike : (h k : Heap) (r q : ℕ) (key : List ℕ) → Paired pairs r q → AlikeHeaps pairs F h k → AlikeCopied (copy_key o r key h) (copy_key p q key k)
    key-alike h k r q key j hk = write_found-alike h k o p key _ _ hk i (if_enumerable-alike _ _ (own-alike pairs F h k hk r q key j))

    copy_keys-alike : (h k : Heap) (r q : ℕ) (ks : List Key) → Paired pairs r q → AlikeHeaps pairs F h k → AlikeCopied (copy_keys o r ks h) (copy_keys p q ks k)
    copy_keys-alike h k r q [] j hk = goes_on-alike h k hk
    copy_keys-alike h k r q (key ∷ ks) j hk = and_then-alike _ _ _ _ (key-alike h k r q key.key j hk) (λ h' k' hk'. copy_keys-alike h' k' r q ks j hk')

    copy_value-alike : (h k : Heap) (v w : Value) → Related (Paired pairs) v w → AlikeHeaps pairs F h k → AlikeCopied (copy_value o v h) (copy_value p w k)
    copy_value-alike h k v w (refs r q j) hk =
        subst (λ ks. AlikeCopied (copy_keys o r.index (keys h r.index) h) (copy_keys p q.index ks k)) (keys_of-alike pairs F r.index q.index _ _ (hk.objects.related r.index q.index j))
        (copy_keys-alike h k r.index q.index (keys h r.index) j hk)
    copy_value-alike h k v w (plain primitive.Undefined) hk = goes_on-alike h k hk
    copy_value-alike h k v w (plain primitive.Null) hk = goes_on-alike h k hk
    copy_value-alike h k v w (plain (primitive.Boolean b)) hk = stops-alike (Refuse kind.Convert) h k hk
    copy_value-alike h k v w (plain (primitive.Number n)) hk = stops-alike (Refuse kind.Convert) h k hk
    copy_value-alike h k v w (plain (primitive.Text us)) hk = stops-alike (Refuse kind.Convert) h k hk

    pub copied-alike : (h k : Heap) (vs ws : List Value) → AllRelated (Paired pairs) vs ws → AlikeHeaps pairs F h k → AlikeCopied (copy_values o vs h) (copy_values p ws k)
    copied-alike h k vs ws none hk = goes_on-alike h k hk
    copied-alike h k vs ws (more v w r vs' ws' rs) hk = and_then-alike _ _ _ _ (copy_value-alike h k v w r hk) (λ h' k' hk'. copied-alike h' k' vs' ws' rs hk')
