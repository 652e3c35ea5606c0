-- What all objects inherit from keeps its properties: it is frozen.
use Rattle.std.proofs.Common.{◌≡◌, ◌≢◌, ℕ, ◌<◌, Bool, true, false, not, ◌&&◌, List, [], ◌∷◌, ◌++◌, length, filter, Option, Some, None, refl, sym, ap, ◌∙◌, subst, ⊎_elim, arith, if◌then◌else◌}
use Rattle.std.specs.Prelude.{find}
use Rattle.std.specs.Str.{bytes_eq}
use Rattle.std.proofs.lemmas.Bool.{cases_eq}
use Rattle.std.proofs.lemmas.List.{get_or_append_left, get_or-set_same, get_or-set_other}
use Rattle.js_value.specs.declared.value.Value.{Value}
use Rattle.js_value.specs.State.{ObjectKind, Plain, Property, ObjectRecord, Heap}
use Rattle.js_value.specs.Objects.{no_object, object_at, with_object, is_array, own, own_of, own_of_array, property_of, found, Found, Write, ReadOnly, write_to, write_of, write_of_own, write_of_new, written, Deleted, IsFrozen, delete_of, delete_from, deleted}
use Rattle.js_lockstep.specs.Worlds.{root, SameProperties, RootStays}

pub same_properties : (x : ObjectRecord) → SameProperties x x
same_properties x = record { kind = refl; prototype = refl; frozen = refl; properties = refl }

pub root_at : (h k : Heap) → object_at k root ≡ object_at h root → RootStays h k
root_at h k e p f = record {
  kind = ap (λ (x : ObjectRecord). x.kind) e;
  prototype = ap (λ (x : ObjectRecord). x.prototype) e;
  frozen = ap (λ (x : ObjectRecord). x.frozen) e;
  properties = ap (λ (x : ObjectRecord). x.properties) e;
}

pub root_again : (h k l : Heap) → RootStays h k → RootStays k l → RootStays h l
root_again h k l a b p f =
    let x = a p f in
    let y = b (x.kind ∙ p) (x.frozen ∙ f) in
    record { kind = y.kind ∙ x.kind; prototype = y.prototype ∙ x.prototype; frozen = y.frozen ∙ x.frozen; properties = y.properties ∙ x.properties }

pub root_new : (h : Heap) (x : ObjectRecord) → root < length h.objects → RootStays h (record h { objects = h.objects ++ x ∷ [] })
root_new h x low = root_at h (record h { objects = h.objects ++ x ∷ [] }) (get_or_append_left h.objects (x ∷ []) no_object root low)

pub root_apart : (o : ℕ) (x : ObjectRecord) (h : Heap) → o ≢ root → RootStays h (with_object o x h)
root_apart o x h ne = root_at h (with_object o x h) (get_or-set_other h.objects o root x no_object (λ e. ne (sym e)))

-- an object takes the place of one
abbrev pub SameFrozen : ObjectRecord → ObjectRecord → Type 0
SameFrozen x y = x.kind ≡ Plain → x.frozen ≡ true → SameProperties x y

pub root_written : (o : ℕ) (x : ObjectRecord) (h : Heap) → SameFrozen (object_at h o) x → root < length h.objects → RootStays h (with_object o x h)
root_written o x h same low = ⊎_elim
    (λ (e : o ≡ root). λ p f.
    let at : object_at (with_object o x h) root ≡ x = subst (λ n. object_at (with_object o x h) n ≡ x) e (get_or-set_same h.objects o x no_object (subst (λ n. n < length h.objects) (sym e) low)) in
    subst (λ y. SameProperties (object_at h root) y) (sym at)
    (subst (λ n. SameFrozen (object_at h n) x) e same p f))
    (λ (ne : o ≡ root → ⊥). root_apart o x h ne)
    (cases_eq o root)

-- Writes

not_written : (b : Bool) (w : Write) → (if b && not true then w else ReadOnly) ≡ ReadOnly
not_written true w = refl
not_written false w = refl

read_only : (x : ObjectRecord) (p : Option Property) (f : Option Found) (key : List ℕ) (v : Value) → x.frozen ≡ true → write_to x p f key v ≡ ReadOnly
read_only x (Some p) f key v e = ap (λ b. if p.writable && not b then write_of_own x key v else ReadOnly) e ∙ not_written p.writable (write_of_own x key v)
read_only x None (Some f) key v e = ap (λ b. if f.writable && not b then write_of_new x key else ReadOnly) e ∙ not_written f.writable (write_of_new x key)
read_only x None None key v e = ap (λ b. if b then ReadOnly else write_of_new x key) e

pub set_same : (h : Heap) (o : ℕ) (key : List ℕ) (v : Value) → SameFrozen (object_at h o) (written (object_at h o) (write_of h o key v) key v)
set_same h o key v p f = subst (λ w. SameProperties (object_at h o) (written (object_at h o) w key v))
    (sym (read_only (object_at h o) (own h o key) (found o h.objects (object_at h o).prototype key) key v f)) (same_properties (object_at h o))

-- Deletes

not_there : (key : List ℕ) (xs : List Property) → find (λ p. bytes_eq p.key key) xs ≡ None → filter (λ p. not (bytes_eq p.key key)) xs ≡ xs
not_there key [] e = refl
not_there key (x ∷ xs) e = by (bytes_eq x.key key) e (not_there key xs)
  where
    by : (b : Bool) → (if b then Some x else find (λ p. bytes_eq p.key key) xs) ≡ None → (find (λ p. bytes_eq p.key key) xs ≡ None → filter (λ p. not (bytes_eq p.key key)) xs ≡ xs) →
        (if not b then x ∷ filter (λ p. not (bytes_eq p.key key)) xs else filter (λ p. not (bytes_eq p.key key)) xs) ≡ x ∷ xs
    by true f rest = absurd (let z = f in cc)
    by false f rest = ap (λ ys. x ∷ ys) (rest f)

is_frozen : (x : ObjectRecord) (p : Property) → x.frozen ≡ true → delete_of x p ≡ IsFrozen
is_frozen x p e = grind (arith, e)

pub delete_same : (x : ObjectRecord) (key : List ℕ) → SameFrozen x (record x { properties = deleted (delete_from x key) key x.properties })
delete_same x key p f = record { kind = refl; prototype = refl; frozen = refl; properties = by (own_of x key) (sym plain) }
  where
    plain : own_of x key ≡ property_of x.properties key
    plain = ap (λ (k : ObjectKind). if is_array k then own_of_array x key else property_of x.properties key) p

    by : (o : Option Property) → property_of x.properties key ≡ o → deleted (elim o [ None ↦ Deleted | Some q ↦ delete_of x q ]) key x.properties ≡ x.properties
    by None e = not_there key x.properties e
    by (Some q) e = ap (λ d. deleted d key x.properties) (is_frozen x q f)
