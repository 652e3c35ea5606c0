-- A function that is held by a property of its name.
use Rattle.std.proofs.Common.{◌≡◌, ◌≢◌, ℕ, zero, suc, ◌<◌, Bool, true, false, List, [], ◌∷◌, ◌++◌, map, length, Option, Some, None, refl, sym, ap, ◌∙◌, subst, arith, if◌then◌else◌}
use Rattle.std.specs.Prelude.{option_map}
use Rattle.std.specs.Str.{bytes_eq}
use Rattle.std.proofs.lemmas.List.{get_or_append_left, get_or-set_same, get_or-set_other, length-set, length_push}
use Rattle.std.proofs.Math.Seq.{get_or-append_seam}
use Rattle.std.proofs.lemmas.Slice.Eq.{bytes_eq-Decides}
use Rattle.js_terms.specs.declared.place.Loc.{Loc}
use Rattle.js_terms.specs.declared.words.Spelled.{Spelled}
use Rattle.js_tree.specs.Plain.{Expr}
use Rattle.js_tree.specs.Codes.{Code}
use Rattle.js_value.specs.declared.value.Value.{Value}
use Rattle.js_value.specs.declared.built_in.Place.TheVariants.{ObjectPrototype}
use Rattle.js_value.specs.State.{ObjectKind, Plain, Binding, Property, ObjectRecord, Heap, Store}
use Rattle.js_value.specs.Objects.{no_object, object_at, next_object, new_object, define, with_property, assigned, own_of, found, found_in, get}
use Rattle.js_value.specs.Running.{on_heap}
use Rattle.js_value.specs.Realm.{number_of, object, text, undefined}
use Rattle.js_meaning.specs.Effects.{Comp, handle, act}
use Rattle.js_value.specs.Functions.{function_made, constructor_made}
use Rattle.js_value.specs.OnObjects.{or_undefined}
use Rattle.js_meaning.specs.Scopes.{Shape, shape_of, closed, with_constructor, block_scope, variable_of}
use Rattle.js_meaning.specs.Program.{Sources}
use Rattle.js_meaning.specs.Meaning as M
use Rattle.js_meaning.specs.Files.{inside}
use Rattle.js_meaning.specs.Steps.{eval}
use Rattle.js_meaning.specs.Shapes.{holder_made, held_made, GetsHeld, HoldsName, BlocksAlone, OneAlone}

-- an object stays as it is, and in bounds
record Keeps (h i : Heap) (o : ℕ) : Type 0 where
  same : object_at i o ≡ object_at h o
  bound : o < length i.objects

then_keeps : {h i j : Heap} {o : ℕ} → Keeps h i o → Keeps i j o → Keeps h j o
then_keeps a b = record { same = b.same ∙ a.same; bound = b.bound }

new_keeps : (kind : ObjectKind) (prototype : Option ℕ) (h : Heap) (o : ℕ) → o < length h.objects → Keeps h (new_object kind prototype h) o
new_keeps kind prototype h o b = record {
  same = get_or_append_left h.objects _ no_object o b;
  bound = let l = length_push h.objects (record { kind = kind; prototype = prototype; frozen = false; elements = []; properties = [] }) in omega (arith, b, l);
}

define_keeps : (f : ℕ) (x : Property) (h : Heap) (o : ℕ) → o ≢ f → o < length h.objects → Keeps h (define f x h) o
define_keeps f x h o n b = record {
  same = get_or-set_other h.objects f o _ no_object n;
  bound = subst (λ l. o < l) (sym (length-set h.objects f _)) b;
}

less : {a b : ℕ} → a < b → a ≢ b
less l e = omega (arith, l, e)

function_keeps : (code env : ℕ) (name : List ℕ) (n : ℕ) (h : Heap) (o : ℕ) → o < length h.objects → Keeps h (function_made code env name n h) o
function_keeps code env name n h o b =
    let a = new_keeps _ _ h o b in
    let c = define_keeps (next_object h) _ _ o (less b) a.bound in
    then_keeps (then_keeps a c) (define_keeps (next_object h) _ _ o (less b) c.bound)

constructor_keeps : (f : ℕ) (h : Heap) (o : ℕ) → o ≢ f → o < length h.objects → Keeps h (constructor_made f h) o
constructor_keeps f h o n b =
    let a = new_keeps _ _ h o b in
    let c = define_keeps (next_object h) _ _ o (less b) a.bound in
    then_keeps (then_keeps a c) (define_keeps f _ _ o n c.bound)

made_keeps : (constructs : Bool) (h i : Heap) (o : ℕ) → Keeps h i o → o ≢ next_object h → Keeps h (with_constructor constructs (next_object h) i) o
made_keeps true h i o k other = then_keeps k (constructor_keeps (next_object h) i o other k.bound)
made_keeps false h i o k other = k

closed_keeps : (f : Shape) (name : List ℕ) (env : ℕ) (h : Heap) (o : ℕ) → o < length h.objects → Keeps h (closed f name env h) o
closed_keeps f name env h o b =
    let k = made_keeps f.constructs h (function_made f.number env name f.length h) o (function_keeps f.number env name f.length h o b) (less b) in
    record { same = k.same; bound = k.bound }

-- a property that was just defined on an object without others
abbrev fresh : List Property → ObjectRecord
fresh properties = record { kind = Plain; prototype = Some (number_of ObjectPrototype); frozen = false; elements = []; properties = properties }

abbrev found_by : (o : ℕ) → Heap → List ℕ → ObjectRecord → Option Value
found_by o h key x = option_map (λ f. f.property.value) (elim (own_of x key) [ Some p ↦ Some (found_in x p) | None ↦ found o h.objects x.prototype key ])

key_same : (key : List ℕ) → bytes_eq key key ≡ true
key_same key = let d = bytes_eq-Decides key key in d.1 refl

gets : (o : ℕ) (h : Heap) (key : List ℕ) (v : Value) (b : Bool) → b ≡ true →
    option_map (λ f. f.property.value) (elim (if b then Some (assigned key v) else None) [ Some p ↦ Some (found_in (fresh (assigned key v ∷ [])) p) | None ↦ found o h.objects (Some (number_of ObjectPrototype)) key ]) ≡ Some v
gets o h key v true e = refl
gets o h key v false e = cc

module _ (shape : Shape) (name : List ℕ) (env : ℕ) (h : Heap) where
  abbrev o : ℕ
  o = next_object h

  abbrev f : ℕ
  f = next_object (holder_made h)

  made_bound : o < length (holder_made h).objects
  made_bound = let l = length_push h.objects (fresh []) in omega (arith, l)

  kept : Keeps (holder_made h) (closed shape name env (holder_made h)) o
  kept = closed_keeps shape name env (holder_made h) o made_bound

  is_fresh : object_at (closed shape name env (holder_made h)) o ≡ fresh []
  is_fresh = kept.same ∙ get_or-append_seam h.objects (fresh []) [] no_object

  is_defined : object_at (held_made shape name env h) o ≡ fresh (assigned name (object f) ∷ [])
  is_defined = get_or-set_same (closed shape name env (holder_made h)).objects o _ no_object kept.bound
      ∙ ap (λ (x : ObjectRecord). record x { properties = with_property (assigned name (object f)) x.properties }) is_fresh

  get_held : get (held_made shape name env h) o name ≡ Some (object f)
  get_held = ap (found_by o (held_made shape name env h) name) is_defined
      ∙ gets o (held_made shape name env h) name (object f) (bytes_eq name name) (key_same name)

pub gets_held : GetsHeld
gets_held shape name env h = get_held shape name env h

module _ (p : Sources) (loc : Option Loc) (name : Spelled) (e : Expr) (code : Code) (env : ℕ) (s : Store) where
  -- with what is named in its place
  abbrev holding : Option Comp → Comp
  holding c = handle (act (on_heap holder_made) (λ t. handle (handle (elim c [ None ↦ M.comp_expr p e env | Some d ↦ d ]) (M.with_value (M.defines (next_object t.heap) name.units)))
      (M.with_value (λ v. M.give (object (next_object t.heap)))))) (M.with_value (λ base. M.get_member_of base (text name.units)))

  abbrev Ends : ℕ → Type 0
  Ends n = eval (inside p) n (holding (Some (M.closure code name.units env))) s
      ≡ eval (inside p) n (M.give (object (next_object (holder_made s.heap)))) (on_heap (held_made (shape_of code) name.units env) s)

  ends : (n : ℕ) → Ends n
  ends zero = ap (λ v. eval (inside p) 0 (M.give (or_undefined v)) (on_heap (held_made (shape_of code) name.units env) s)) (get_held (shape_of code) name.units env s.heap)
  ends (suc n) = ap (λ v. eval (inside p) (suc n) (M.give (or_undefined v)) (on_heap (held_made (shape_of code) name.units env) s)) (get_held (shape_of code) name.units env s.heap)

pub holds_name : HoldsName
holds_name p loc name e code env n s is =
    ap (λ c. eval (inside p) n (holding p loc name e code env s c) s) is ∙ ends p loc name e code env s n

pub blocks_alone : BlocksAlone
blocks_alone p loc xs labels env d =
    ap (λ (names : List (List ℕ)). M.in_names (map (variable_of undefined) names ++ (block_scope xs).lexical) (block_scope xs).functions env (M.comp_stmts p xs)) d.0
    ∙ ap (λ (names : List Binding). M.in_names names (block_scope xs).functions env (M.comp_stmts p xs)) d.1

pub one_alone : OneAlone
one_alone p x env = refl
