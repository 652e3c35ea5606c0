-- A function that is made, and a name that takes it.
use Rattle.std.proofs.Common.{◌≡◌, ◌≢◌, ℕ, zero, suc, ◌<◌, ◌≤◌, true, false, List, [], ◌∷◌, length, codes, Option, Some, refl, sym, ap, subst, ◌∙◌, arith, if◌then◌else◌}
use Rattle.std.specs.Prelude.{slice_index_or, slice_set}
use Rattle.std.proofs.lemmas.List.{get_or_append_left, get_or-set_same, get_or-set_other, length-set, length_push}
use Rattle.std.proofs.Math.Seq.{get_or-append_seam}
use Rattle.js_value.specs.declared.value.Value.{Value}
use Rattle.js_value.specs.declared.built_in.Place.TheVariants.{FunctionPrototype, ObjectPrototype}
use Rattle.js_value.specs.State.{ObjectKind, Plain, Written, Property, ObjectRecord, Binding, Environment, Heap}
use Rattle.js_value.specs.Objects.{with_object, count_value, object_at, no_object, kind_of, next_object, new_object, define, with_property}
use Rattle.js_value.specs.Environments.{Cell, Done, next_environment, no_environment, no_binding, environment_at, binding_at, value_of, assign_answer, assign, assigned}
use Rattle.js_value.specs.Functions.{function_made, constructor_made}
use Rattle.js_value.specs.Realm.{number_of, object, fixed, hidden}
use Rattle.js_meaning.specs.Scopes.{Shape, closed}
use Rattle.js_value.specs.Lookups.{Grown, Shows}
use Rattle.js_value.proofs.LookupLemmas.{grown_more, assign_shows}

pub new_grows : (kind : ObjectKind) (pr : Option ℕ) (h : Heap) → Grown h (new_object kind pr h)
new_grows kind pr h = grown_more h (record { kind = kind; prototype = pr; frozen = false; elements = []; properties = [] } ∷ []) h.environments

-- a property of an object that is newer
pub define_grows : (f : ℕ) (x : Property) (h k : Heap) → Grown h k → length h.objects ≤ f → Grown h (define f x k)
define_grows f x h k g l o low = let a = g o low in
    (subst (λ n. o < n) (sym (length-set k.objects f _)) a.0, get_or-set_other k.objects f o _ no_object (λ e. omega (arith, l, low, e)) ∙ a.1)

pub grown_then : (h k l : Heap) → Grown h k → Grown k l → Grown h l
grown_then h k l a b o low = let x = a o low in let y = b o x.0 in (y.0, y.1 ∙ x.1)

pub grown_length : (h k : Heap) → Grown h k → length h.objects ≤ length k.objects
grown_length h k g = by (length h.objects) refl
  where
    by : (n : ℕ) → length h.objects ≡ n → n ≤ length k.objects
    by zero e = omega arith
    by (suc n) e = let l : n < length h.objects = omega (arith, e) in let x = (g n l).0 in omega (arith, x)

abbrev first_made : ℕ → ℕ → Heap → Heap
first_made code env h = new_object (Written code env) (Some (number_of FunctionPrototype)) h

abbrev length_made : ℕ → ℕ → ℕ → Heap → Heap
length_made code env n h = define (next_object h) (fixed (codes "length") (count_value n)) (first_made code env h)

pub function_grows : (code env : ℕ) (name : List ℕ) (n : ℕ) (h : Heap) → Grown h (function_made code env name n h)
function_grows code env name n h =
    define_grows (next_object h) _ h (length_made code env n h)
    (define_grows (next_object h) _ h (first_made code env h) (new_grows (Written code env) (Some (number_of FunctionPrototype)) h) (omega arith)) (omega arith)

abbrev made : ℕ → ℕ → List ℕ → ℕ → Heap → Heap
made code env name n h = function_made code env name n h

function_low : (code env : ℕ) (name : List ℕ) (n : ℕ) (h : Heap) → next_object h < length (made code env name n h).objects
function_low code env name n h =
    let o = new_object (Written code env) (Some (number_of FunctionPrototype)) h in
    let a = length_push h.objects (record { kind = Written code env; prototype = Some (number_of FunctionPrototype); frozen = false; elements = []; properties = [] }) in
    let l : next_object h < length o.objects = omega (arith, a) in
    subst (λ n. next_object h < n) (sym (length-set _ (next_object h) _)) (subst (λ n. next_object h < n) (sym (length-set o.objects (next_object h) _)) l)

define_kind : (f : ℕ) (x : Property) (h : Heap) → f < length h.objects → kind_of (define f x h) f ≡ kind_of h f
define_kind f x h low = ap (λ (r : ObjectRecord). r.kind) (get_or-set_same h.objects f (record (object_at h f) { properties = with_property x (object_at h f).properties }) no_object low)

function_kind : (code env : ℕ) (name : List ℕ) (n : ℕ) (h : Heap) → kind_of (made code env name n h) (next_object h) ≡ Written code env
function_kind code env name n h =
    let r : ObjectRecord = record { kind = Written code env; prototype = Some (number_of FunctionPrototype); frozen = false; elements = []; properties = [] } in
    let o = new_object (Written code env) (Some (number_of FunctionPrototype)) h in
    let a = length_push h.objects r in
    let l : next_object h < length o.objects = omega (arith, a) in
    define_kind (next_object h) _ (length_made code env n h) (subst (λ n. next_object h < n) (sym (length-set o.objects (next_object h) _)) l)
    ∙ define_kind (next_object h) _ o l
    ∙ ap (λ (r : ObjectRecord). r.kind) (get_or-append_seam h.objects r [] no_object)

abbrev prototype_made : Heap → Heap
prototype_made k = new_object Plain (Some (number_of ObjectPrototype)) k

abbrev constructor_set : ℕ → Heap → Heap
constructor_set f k = define (next_object k) (hidden (codes "constructor") (object f)) (prototype_made k)

pub constructor_grows : (h k : Heap) → Grown h k → (f : ℕ) → length h.objects ≤ f → Grown h (constructor_made f k)
constructor_grows h k g f l =
    let m = grown_length h k g in
    define_grows f _ h (constructor_set f k) (define_grows (next_object k) _ h (prototype_made k) (grown_then h k (prototype_made k) g (new_grows Plain (Some (number_of ObjectPrototype)) k)) m) l

constructor_kind : (f : ℕ) (k : Heap) → f < length k.objects → kind_of (constructor_made f k) f ≡ kind_of k f
constructor_kind f k low =
    let r : ObjectRecord = record { kind = Plain; prototype = Some (number_of ObjectPrototype); frozen = false; elements = []; properties = [] } in
    let o = new_object Plain (Some (number_of ObjectPrototype)) k in
    let a = length_push k.objects r in
    let l : f < length o.objects = omega (arith, a, low) in
    define_kind f _ (constructor_set f k) (subst (λ n. f < n) (sym (length-set o.objects (next_object k) _)) l)
    ∙ ap (λ (r : ObjectRecord). r.kind) (get_or-set_other o.objects (next_object k) f _ no_object (λ e. omega (arith, low, e)))
    ∙ ap (λ (r : ObjectRecord). r.kind) (get_or_append_left k.objects (r ∷ []) no_object f low)

constructor_low : (f g : ℕ) (k : Heap) → f < length k.objects → f < length (constructor_made g k).objects
constructor_low f g k l =
    let a = length_push k.objects (record { kind = Plain; prototype = Some (number_of ObjectPrototype); frozen = false; elements = []; properties = [] }) in
    let b : f < length (prototype_made k).objects = omega (arith, a, l) in
    subst (λ n. f < n) (sym (length-set (constructor_set g k).objects g _)) (subst (λ n. f < n) (sym (length-set (prototype_made k).objects (next_object k) _)) b)

pub closed_low : (f : Shape) (name : List ℕ) (env : ℕ) (h : Heap) → f.constructs ≡ true → next_object h < length (closed f name env h).objects
closed_low f name env h c =
    subst (λ b. next_object h < length (if b then constructor_made (next_object h) (made f.number env name f.length h) else made f.number env name f.length h).objects) (sym c)
    (constructor_low (next_object h) (next_object h) (made f.number env name f.length h) (function_low f.number env name f.length h))

-- another object than those that are older
pub with_grows : (f : ℕ) (r : ObjectRecord) (h k : Heap) → Grown h k → length h.objects ≤ f → Grown h (with_object f r k)
with_grows f r h k g l o low = let a = g o low in
    (subst (λ n. o < n) (sym (length-set k.objects f r)) a.0, get_or-set_other k.objects f o r no_object (λ e. omega (arith, l, low, e)) ∙ a.1)

-- a function of a program, with a prototype for what it makes
pub closed_grows : (f : Shape) (name : List ℕ) (env : ℕ) (h : Heap) → f.constructs ≡ true → Grown h (closed f name env h)
closed_grows f name env h c = subst (λ b. Grown h (if b then constructor_made (next_object h) (made f.number env name f.length h) else made f.number env name f.length h)) (sym c)
    (constructor_grows h (made f.number env name f.length h) (function_grows f.number env name f.length h) (next_object h) (omega arith))

pub closed_kind : (f : Shape) (name : List ℕ) (env : ℕ) (h : Heap) → f.constructs ≡ true → kind_of (closed f name env h) (next_object h) ≡ Written f.number env
closed_kind f name env h c =
    ap (λ b. kind_of (if b then constructor_made (next_object h) (made f.number env name f.length h) else made f.number env name f.length h) (next_object h)) c
    ∙ constructor_kind (next_object h) (made f.number env name f.length h) (function_low f.number env name f.length h)
    ∙ function_kind f.number env name f.length h

-- Assignments

past_none : (bs : List Binding) (i : ℕ) (v : Value) → (slice_index_or bs i no_binding).value ≡ Some v → i < length bs
past_none [] i v e = cc
past_none (b ∷ bs) zero v e = omega arith
past_none (b ∷ bs) (suc i) v e = let l = past_none bs i v e in omega (arith, l)

module _ (h : Heap) (cell : Cell) (v w : Value) (low : cell.environment < next_environment h) (may : assign_answer h cell ≡ Done) (held : value_of h cell ≡ Some w) where
  abbrev bs : List Binding
  bs = (environment_at h cell.environment).bindings

  abbrev after : Binding
  after = record (binding_at h cell) { value = Some v }

  place_low : cell.place < length bs
  place_low = past_none bs cell.place w held

  pub assigned_env : environment_at (assign cell v h) cell.environment ≡ record { outer = (environment_at h cell.environment).outer; bindings = slice_set bs cell.place after }
  assigned_env = get_or-set_same h.environments cell.environment _ no_environment low
      ∙ ap (λ a. record { outer = (environment_at h cell.environment).outer; bindings = slice_set bs cell.place (assigned a v (binding_at h cell)) }) may

  pub assigned_binding : binding_at (assign cell v h) cell ≡ record (binding_at h cell) { value = Some v }
  assigned_binding = ap (λ (x : Environment). slice_index_or x.bindings cell.place no_binding) assigned_env ∙ get_or-set_same bs cell.place after no_binding place_low

  pub assigned_value : value_of (assign cell v h) cell ≡ Some v
  assigned_value = ap (λ (x : Environment). (slice_index_or x.bindings cell.place no_binding).value) assigned_env
      ∙ ap (λ (b : Binding). b.value) (get_or-set_same bs cell.place after no_binding place_low)

  pub assigned_other : (e : ℕ) → e ≢ cell.environment → environment_at (assign cell v h) e ≡ environment_at h e
  assigned_other e n = get_or-set_other h.environments cell.environment e _ no_environment n

  pub assigned_shows : (name : List ℕ) (e : ℕ) → Shows name (environment_at h e) (environment_at (assign cell v h) e)
  assigned_shows name e = assign_shows cell v h name e low place_low
