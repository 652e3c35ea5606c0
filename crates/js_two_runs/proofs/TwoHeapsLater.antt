-- Heaps that are alike stay so where there are more pairs, where an object is made on both sides, and where the two objects of a
-- pair are written to.
use Rattle.std.proofs.Common.{ℕ, List, [], ◌∷◌, ◌++◌, Option, refl, ap₂}
use Rattle.std.specs.List.{AllZip}
use Rattle.std.specs.Str.{bytes_eq}
use Rattle.js_value.specs.declared.value.Value.{Value}
use Rattle.js_value.specs.State.{ObjectKind, Property, ObjectRecord, Heap}
use Rattle.js_value.specs.Objects.{no_object, with_object, next_object, with_property, define, freeze, append, cut, with_elements}
use Rattle.js_two_runs.specs.Pairs.{Pairs, Paired, there}
use Rattle.js_two_runs.specs.TwoRuns.{Related, plain, refs, AllRelated, none, more}
use Rattle.js_two_runs.specs.TwoHeaps.{AlikeKinds, plains, arrays, errors, patterns, built_ins, functions, AlikePrototypes, no_prototype, prototypes, AlikeProperties, AlikeObjects, AlikeHeaps}
use Rattle.js_two_runs.proofs.PairsLemmas.{grown, grown_alone, written, written_alone, weaker}
use Rattle.js_two_runs.proofs.TwoRunsObjects.{take-rel, joined-rel}
use Rattle.js_two_runs.proofs.TwoHeapsSeen.{choice}

module _ (R S : ℕ → ℕ → Type 0) (more_of : (o p : ℕ) → R o p → S o p) where
  pub value-later : (v w : Value) → Related R v w → Related S v w
  value-later v w (plain p) = plain p
  value-later v w (refs o p r) = refs o p (more_of o.index p.index r)

  pub values-later : (vs ws : List Value) → AllRelated R vs ws → AllRelated S vs ws
  values-later vs ws none = none
  values-later vs ws (more v w r vs' ws' rs) = more v w (value-later v w r) vs' ws' (values-later vs' ws' rs)

module _ (small large : Pairs) (F G : (code around other_code other_around : ℕ) → Type 0) (grows : (o p : ℕ) → Paired small o p → Paired large o p) (weakens : (c e d f : ℕ) → F c e d f → G c e d f) where
  kind-later : (a b : ObjectKind) → AlikeKinds small F a b → AlikeKinds large G a b
  kind-later a b plains = plains
  kind-later a b arrays = arrays
  kind-later a b errors = errors
  kind-later a b patterns = patterns
  kind-later a b (built_ins n) = built_ins n
  kind-later a b (functions c e d f r) = functions c e d f (weakens c e d f r)

  prototype-later : (o p : ℕ) (a b : Option ℕ) → AlikePrototypes small F o p a b → AlikePrototypes large G o p a b
  prototype-later o p a b no_prototype = no_prototype
  prototype-later o p a b (prototypes r q i lt lt') = prototypes r q (grows r q i) lt lt'

  property-later : (p q : Property) → AlikeProperties small F p q → AlikeProperties large G p q
  property-later p q r = record { key = r.key; value = value-later (Paired small) (Paired large) grows _ _ r.value; enumerable = r.enumerable; writable = r.writable }

  properties-later : (ps qs : List Property) → AllZip (AlikeProperties small F) ps qs → AllZip (AlikeProperties large G) ps qs
  properties-later [] [] rs = tt
  properties-later [] (q ∷ qs) rs = absurd rs
  properties-later (p ∷ ps) [] rs = absurd rs
  properties-later (p ∷ ps) (q ∷ qs) rs = (property-later p q rs.0, properties-later ps qs rs.1)

  pub object-later : (o p : ℕ) (x y : ObjectRecord) → AlikeObjects small F o p x y → AlikeObjects large G o p x y
  object-later o p x y r = record {
    kind = kind-later _ _ r.kind;
    prototype = prototype-later o p _ _ r.prototype;
    frozen = r.frozen;
    elements = values-later (Paired small) (Paired large) grows _ _ r.elements;
    properties = properties-later _ _ r.properties;
  }

module _ (pairs : Pairs) (F : (code around other_code other_around : ℕ) → Type 0) where
  -- where more functions of programs are related
  pub heaps-weaker : (G : (code around other_code other_around : ℕ) → Type 0) (h k : Heap) → ((c e d f : ℕ) → F c e d f → G c e d f) → AlikeHeaps pairs F h k → AlikeHeaps pairs G h k
  heaps-weaker G h k weakens hk = record {
    objects = weaker _ _ no_object pairs h.objects k.objects (λ o p i x y r. object-later pairs pairs F G (λ n m j. j) weakens o p x y r) hk.objects;
    built_in = hk.built_in;
  }

  -- a new object in both
  pub heaps-grown : (h k : Heap) (x y : ObjectRecord) → AlikeHeaps pairs F h k → AlikeObjects pairs F (next_object h) (next_object k) x y →
      AlikeHeaps ((next_object h, next_object k) ∷ pairs) F (record h { objects = h.objects ++ x ∷ [] }) (record k { objects = k.objects ++ y ∷ [] })
  heaps-grown h k x y hk r = record {
    objects = weaker _ _ no_object ((next_object h, next_object k) ∷ pairs) _ _ (λ o p i a b s. object-later pairs ((next_object h, next_object k) ∷ pairs) F F (λ n m j. there j) (λ c e d f g. g) o p a b s)
        (grown (AlikeObjects pairs F) no_object pairs h.objects k.objects x y hk.objects r);
    built_in = λ n lt ne. there (hk.built_in n lt ne);
  }

  -- a new object on the right alone, and a write there to one that is in no pair
  pub heaps-grown_alone : (h k : Heap) (y : ObjectRecord) → AlikeHeaps pairs F h k → AlikeHeaps pairs F h (record k { objects = k.objects ++ y ∷ [] })
  heaps-grown_alone h k y hk = record { objects = grown_alone (AlikeObjects pairs F) no_object pairs h.objects k.objects y hk.objects; built_in = hk.built_in }

  pub heaps-written_alone : (h k : Heap) (p : ℕ) (y : ObjectRecord) → AlikeHeaps pairs F h k → ((o : ℕ) → Paired pairs o p → ⊥) → AlikeHeaps pairs F h (with_object p y k)
  heaps-written_alone h k p y hk apart = record { objects = written_alone (AlikeObjects pairs F) no_object pairs h.objects k.objects p y hk.objects apart; built_in = hk.built_in }

  -- objects in the places of a pair
  pub heaps-written : (h k : Heap) (o p : ℕ) (x y : ObjectRecord) → AlikeHeaps pairs F h k → Paired pairs o p → AlikeObjects pairs F o p x y → AlikeHeaps pairs F (with_object o x h) (with_object p y k)
  heaps-written h k o p x y hk i r = record { objects = written (AlikeObjects pairs F) no_object pairs h.objects k.objects o p x y hk.objects i r; built_in = hk.built_in }

  -- Properties

  pub with_property-alike : (p q : Property) (ps qs : List Property) → AlikeProperties pairs F p q → AllZip (AlikeProperties pairs F) ps qs → AllZip (AlikeProperties pairs F) (with_property p ps) (with_property q qs)
  with_property-alike p q [] [] r rs = (r, tt)
  with_property-alike p q [] (b ∷ qs) r rs = absurd rs
  with_property-alike p q (a ∷ ps) [] r rs = absurd rs
  with_property-alike p q (a ∷ ps) (b ∷ qs) r rs =
      choice (AllZip (AlikeProperties pairs F)) _ _ _ _ _ _ (ap₂ bytes_eq (rs.0).key r.key) (r, rs.1) (rs.0, with_property-alike p q ps qs r rs.1)

  pub properties-joined : (ps qs ts us : List Property) → AllZip (AlikeProperties pairs F) ps qs → AllZip (AlikeProperties pairs F) ts us → AllZip (AlikeProperties pairs F) (ps ++ ts) (qs ++ us)
  properties-joined [] [] ts us rs ss = ss
  properties-joined [] (q ∷ qs) ts us rs ss = absurd rs
  properties-joined (p ∷ ps) [] ts us rs ss = absurd rs
  properties-joined (p ∷ ps) (q ∷ qs) ts us rs ss = (rs.0, properties-joined ps qs ts us rs.1 ss)

  -- What can be done with the objects of a pair

  module _ (h k : Heap) (o p : ℕ) (hk : AlikeHeaps pairs F h k) (i : Paired pairs o p) where
    pub define-alike : (a b : Property) → AlikeProperties pairs F a b → AlikeHeaps pairs F (define o a h) (define p b k)
    define-alike a b s =
        let r = hk.objects.related o p i in
        heaps-written h k o p _ _ hk i (record { kind = r.kind; prototype = r.prototype; frozen = r.frozen; elements = r.elements; properties = with_property-alike a b _ _ s r.properties })

    pub freeze-alike : AlikeHeaps pairs F (freeze o h) (freeze p k)
    freeze-alike =
        let r = hk.objects.related o p i in
        heaps-written h k o p _ _ hk i (record { kind = r.kind; prototype = r.prototype; frozen = refl; elements = r.elements; properties = r.properties })

    pub with_elements-alike : (vs ws : List Value) → AllRelated (Paired pairs) vs ws → AlikeHeaps pairs F (with_elements o vs h) (with_elements p ws k)
    with_elements-alike vs ws rs =
        let r = hk.objects.related o p i in
        heaps-written h k o p _ _ hk i (record { kind = r.kind; prototype = r.prototype; frozen = r.frozen; elements = rs; properties = r.properties })

    pub append-alike : (vs ws : List Value) → AllRelated (Paired pairs) vs ws → AlikeHeaps pairs F (append o vs h) (append p ws k)
    append-alike vs ws rs = with_elements-alike _ _ (joined-rel (Paired pairs) _ _ _ _ (hk.objects.related o p i).elements rs)

    pub cut-alike : (n : ℕ) → AlikeHeaps pairs F (cut o n h) (cut p n k)
    cut-alike n = with_elements-alike _ _ (take-rel (Paired pairs) n _ _ (hk.objects.related o p i).elements)
