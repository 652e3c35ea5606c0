-- A function that is held by a property of its name goes in step with the function by that name alone: the right run has one more object.
use Rattle.std.proofs.Common.{◌≡◌, ◌≢◌, ℕ, ◌<◌, Bool, true, false, List, [], ◌∷◌, length, Option, Some, None, refl, sym, ap, ◌∙◌, subst, arith, if◌then◌else◌}
use Rattle.std.specs.Prelude.{option_map}
use Rattle.std.specs.Str.{bytes_eq}
use Rattle.std.proofs.lemmas.List.{get_or_append_left, get_or-set_same, get_or-set_other, length-set, length_push}
use Rattle.std.proofs.Math.Seq.{get_or-append_seam}
use Rattle.std.proofs.lemmas.Slice.Eq.{bytes_eq-Decides}
use Rattle.js_tree.specs.Plain.{Expr}
use Rattle.js_tree.specs.Codes.{Code}
use Rattle.js_value.specs.declared.value.Value.{Value}
use Rattle.js_value.specs.declared.built_in.Place.TheVariants.{ObjectPrototype}
use Rattle.js_value.specs.State.{ObjectKind, Plain, Property, ObjectRecord, Heap, Store}
use Rattle.js_value.specs.Objects.{no_object, object_at, next_object, new_object, define, with_property, assigned, own_of, found, found_in, get}
use Rattle.js_value.specs.Running.{on_heap}
use Rattle.js_value.specs.Realm.{number_of, object, text}
use Rattle.js_value.specs.Functions.{with_constructor, function_made, constructor_made, name_units}
use Rattle.js_value.specs.OnObjects.{or_undefined}
use Rattle.js_meaning.specs.declared.outcome.Completion.{Completion}
use Rattle.js_meaning.specs.Effects.{Comp, handle, act}
use Rattle.js_meaning.specs.Scopes.{Shape, shape_of, closed}
use Rattle.js_meaning.specs.Program.{Sources}
use Rattle.js_meaning.specs.Shapes.{holder_made, held_made}
use Rattle.js_meaning.specs.Meaning as M
use Rattle.js_two_runs.specs.Pairs.{Paired}
use Rattle.js_two_runs.specs.TwoRuns.{refs}
use Rattle.js_two_runs.proofs.TwoHeapsLater.{heaps-grown_alone, heaps-written_alone}
use Rattle.cov_rewritten.specs.Counters.{quoted, with_name}
use Rattle.js_suits.specs.Rewritten.{rewritten_code}
use Rattle.js_suits.specs.Suits.{SuitsCode}
use Rattle.js_suits.specs.Settings.{Home, World, Setting}
use Rattle.js_lockstep.specs.Worlds.{root, Around, AlikeFunctions, normals}
use Rattle.js_lockstep.specs.Counters.{Keeps as KeepsHidden}
use Rattle.js_lockstep.specs.Trees.{InStep, rets, runs, right}
use Rattle.js_lockstep.proofs.Root.{root_again, root_new, root_apart}
use Rattle.js_lockstep.proofs.Alone.{not_root}
use Rattle.js_lockstep.proofs.Heaps.{Both, Grown, both_of, root_bound, stores_grown}
use Rattle.js_lockstep.proofs.Scopes.{AlikeShapes, closed_made, shape_alike}

-- an object stays as it is, and in bounds
pub record Keeps (h i : Heap) (o : ℕ) : Type 0 where
  pub same : object_at i o ≡ object_at h o
  pub bound : o < length i.objects

pub then_keeps : {h i j : Heap} {o : ℕ} → Keeps h i o → Keeps i j o → Keeps h j o
then_keeps a b = record { same = b.same ∙ a.same; bound = b.bound }

pub new_keeps : (kind : ObjectKind) (prototype : Option ℕ) (h : Heap) (o : ℕ) → o < length h.objects → Keeps h (new_object kind prototype h) o
new_keeps kind prototype h o b = record {
  same = get_or_append_left h.objects _ no_object o b;
  bound = let l = length_push h.objects (record { kind = kind; prototype = prototype; frozen = false; elements = []; properties = [] }) in omega (arith, b, l);
}

pub define_keeps : (f : ℕ) (x : Property) (h : Heap) (o : ℕ) → o ≢ f → o < length h.objects → Keeps h (define f x h) o
define_keeps f x h o n b = record {
  same = get_or-set_other h.objects f o _ no_object n;
  bound = subst (λ l. o < l) (sym (length-set h.objects f _)) b;
}

pub less : {a b : ℕ} → a < b → a ≢ b
less l e = omega (arith, l, e)

function_keeps : (code env : ℕ) (name : List ℕ) (n : ℕ) (h : Heap) (o : ℕ) → o < length h.objects → Keeps h (function_made code env name n h) o
function_keeps code env name n h o b =
    let a = new_keeps _ _ h o b in
    let c = define_keeps (next_object h) _ _ o (less b) a.bound in
    then_keeps (then_keeps a c) (define_keeps (next_object h) _ _ o (less b) c.bound)

constructor_keeps : (f : ℕ) (h : Heap) (o : ℕ) → o ≢ f → o < length h.objects → Keeps h (constructor_made f h) o
constructor_keeps f h o n b =
    let a = new_keeps _ _ h o b in
    let c = define_keeps (next_object h) _ _ o (less b) a.bound in
    then_keeps (then_keeps a c) (define_keeps f _ _ o n c.bound)

pub closed_keeps : (f : Shape) (name : List ℕ) (env : ℕ) (h : Heap) (o : ℕ) → o < length h.objects → Keeps h (closed f name env h) o
closed_keeps f name env h o b = by f.constructs
  where
    by : (c : Bool) → Keeps h (record h { objects = (with_constructor c (next_object h) (function_made f.number env name f.length h)).objects }) o
    by true = let a = function_keeps f.number env name f.length h o b in then_keeps a (constructor_keeps (next_object h) _ o (less b) a.bound)
    by false = function_keeps f.number env name f.length h o b

-- a property that was just defined on an object without others
abbrev bare : List Property → ObjectRecord
bare properties = record { kind = Plain; prototype = Some (number_of ObjectPrototype); frozen = false; elements = []; properties = properties }

abbrev found_by : (o : ℕ) → Heap → List ℕ → ObjectRecord → Option Value
found_by o h key x = option_map (λ f. f.property.value) (elim (own_of x key) [ Some p ↦ Some (found_in x p) | None ↦ found o h.objects x.prototype key ])

key_same : (key : List ℕ) → bytes_eq key key ≡ true
key_same key = let d = bytes_eq-Decides key key in d.1 refl

gets : (o : ℕ) (h : Heap) (key : List ℕ) (v : Value) (b : Bool) → b ≡ true →
    option_map (λ f. f.property.value) (elim (if b then Some (assigned key v) else None) [ Some p ↦ Some (found_in (bare (assigned key v ∷ [])) p) | None ↦ found o h.objects (Some (number_of ObjectPrototype)) key ]) ≡ Some v
gets o h key v true e = refl
gets o h key v false e = cc

module _ (h : Heap) (shape : Shape) (name : List ℕ) (env : ℕ) where
  abbrev o : ℕ
  o = next_object h

  abbrev f : ℕ
  f = next_object (holder_made h)

  made_bound : o < length (holder_made h).objects
  made_bound = let l = length_push h.objects (bare []) in omega (arith, l)

  kept : Keeps (holder_made h) (closed shape name env (holder_made h)) o
  kept = closed_keeps shape name env (holder_made h) o made_bound

  is_bare : object_at (closed shape name env (holder_made h)) o ≡ bare []
  is_bare = kept.same ∙ get_or-append_seam h.objects (bare []) [] no_object

  is_defined : object_at (held_made shape name env h) o ≡ bare (assigned name (object f) ∷ [])
  is_defined = get_or-set_same (closed shape name env (holder_made h)).objects o _ no_object kept.bound
      ∙ ap (λ (x : ObjectRecord). record x { properties = with_property (assigned name (object f)) x.properties }) is_bare

  pub get_held : get (held_made shape name env h) o name ≡ Some (object f)
  get_held = ap (found_by o (held_made shape name env h) name) is_defined
      ∙ gets o (held_made shape name env h) name (object f) (bytes_eq name name) (key_same name)

module _ (c : Setting) (home : Home) where
  record Held (w : World) (a b : Heap) (f g : Shape) (name : List ℕ) (e d : ℕ) : Type 0 where
    grown : Grown c w a b (closed f name e a) (held_made g name d b)
    pair : Paired grown.v.objects (next_object a) (next_object (holder_made b))

  -- both make the function, and the right one its holder
  held_grown : (w : World) (a b : Heap) (f g : Shape) → AlikeShapes c home f g → (name : List ℕ) (e d : ℕ) → Both c w a b → Around w home e d → Held w a b f g name e d
  held_grown w a b f g s name e d x r =
      let more = length_push b.objects (bare []) in
      let x1 : Both c w a (holder_made b) = record { heaps = heaps-grown_alone w.objects (AlikeFunctions c w) a b (bare []) x.heaps; environments = x.environments; global = x.global } in
      let m = closed_made c home w a (holder_made b) f g s name e d x1 r in
      let apart : (n : ℕ) → Paired w.objects n (next_object b) → ⊥ = λ n i. (let l = x.heaps.objects.right_bound n (next_object b) i in omega (arith, l)) in
      let u = m.grown.untouched.objects (next_object b) (omega (arith, more)) apart in
      record {
        grown = record {
          v = m.grown.v;
          later = m.grown.later;
          both = record {
            heaps = heaps-written_alone m.grown.v.objects (AlikeFunctions c m.grown.v) (closed f name e a) (closed g name d (holder_made b)) (next_object b) _ m.grown.both.heaps u.0;
            environments = m.grown.both.environments;
            global = m.grown.both.global;
          };
          untouched = record {
            objects = λ q lt alone. let z = m.grown.untouched.objects q (omega (arith, more, lt)) alone in (
              z.0,
              subst (λ n. q < n) (sym (length-set (closed g name d (holder_made b)).objects (next_object b) _)) z.1,
              get_or-set_other (closed g name d (holder_made b)).objects (next_object b) q _ no_object (less lt) ∙ z.2 ∙ get_or_append_left b.objects (bare [] ∷ []) no_object q lt,
            );
            environments = m.grown.untouched.environments;
            own = m.grown.untouched.own;
            outers = m.grown.untouched.outers;
            inherited = λ low.
                let z = m.grown.untouched.inherited (omega (arith, more, low)) in (
                  subst (λ n. root < n) (sym (length-set (closed g name d (holder_made b)).objects (next_object b) _)) (root_bound c m.grown.both.heaps),
                  root_again b (closed g name d (holder_made b)) (held_made g name d b) (root_again b (holder_made b) (closed g name d (holder_made b)) (root_new b (bare []) low) z.1)
                      (root_apart (next_object b) (record (object_at (closed g name d (holder_made b)) (next_object b)) { properties = with_property (assigned name (object (next_object (holder_made b)))) (object_at (closed g name d (holder_made b)) (next_object b)).properties }) (closed g name d (holder_made b)) (not_root low)),
                );
            global = m.grown.untouched.global;
            inner = m.grown.untouched.inner;
          };
        };
        pair = m.pair;
      }

module _ (c : Setting) (k : KeepsHidden c) (p q : Sources) where
  -- the holder, with what is named in its place
  abbrev holding : List ℕ → Comp → Comp
  holding key named = handle (act (on_heap holder_made) (λ t. handle (handle named (M.with_value (M.defines (next_object t.heap) key)))
      (M.with_value (λ v. M.give (object (next_object t.heap)))))) (M.with_value (λ base. M.get_member_of base (text key)))

  holding_right : (n : ℕ) (shape : Shape) (key : List ℕ) (f : ℕ) (t : Store) (j : Completion → Comp) →
      right c p q n (handle (holding key (M.makes (closed shape key f))) j) t
      ≡ right c p q n (handle (M.give (object (next_object (holder_made t.heap)))) j) (on_heap (held_made shape key f) t)
  holding_right n shape key f t j = ap (λ v. right c p q n (handle (M.give (or_undefined v)) j) (on_heap (held_made shape key f) t)) (get_held t.heap shape key f)

  holding_step : {w : World} {e f : ℕ} (home : Home) (a b : Shape) → AlikeShapes c home a b → (key : List ℕ) → Around w home e f → InStep c p q w (M.makes (closed a key e)) (holding key (M.makes (closed b key f)))
  holding_step {w} {e} {f} home a b s key r = runs
      (λ x y z. (let m = held_grown c home w x.heap y.heap a b s key e f (both_of c z) r in record {
        v = m.grown.v;
        s' = on_heap (closed a key e) x;
        t' = on_heap (held_made b key f) y;
        a' = M.give (object (next_object x.heap));
        b' = M.give (object (next_object (holder_made y.heap)));
        later = m.grown.later;
        alike = stores_grown c k x y z m.grown;
        logs = refl;
        lefts = λ n j. refl;
        rights = λ n j. holding_right n b key f y j;
      }))
      (λ x y z. rets (normals (refs _ _ (held_grown c home w x.heap y.heap a b s key e f (both_of c z) r).pair)))

  -- `{["x"]:E}["x"]`
  pub holder_step : {w : World} {e f : ℕ} (home : Home) (code : Code) (x : List ℕ) (y : Expr) → (quoted x).units ≡ name_units x →
      ((key : List ℕ) → M.named_function y key f ≡ Some (M.closure (rewritten_code c (c.shift home) code) key f)) → SuitsCode c home code → Around w home e f →
      InStep c p q w (M.closure code (name_units x) e) (M.comp_expr q (with_name x y) f)
  holder_step {w} {e} {f} home code x y u is su r =
      subst (λ key. InStep c p q w (M.closure code key e) (M.comp_expr q (with_name x y) f)) u
      (subst (λ o. InStep c p q w (M.closure code (quoted x).units e) (holding (quoted x).units (elim o [ None ↦ M.comp_expr q y f | Some d ↦ d ]))) (sym (is (quoted x).units))
      (holding_step home (shape_of code) (shape_of (rewritten_code c (c.shift home) code)) (shape_alike c home code su) (quoted x).units r))
