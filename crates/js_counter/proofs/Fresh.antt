-- A file begins: its function is made, and the names of the file.
use Rattle.std.proofs.Common.{Option, ◌⊎◌, inl, inr, ◌≡◌, ℕ, zero, suc, ◌+◌, ◌<◌, ◌||◌, Bool, true, false, List, [], ◌∷◌, ◌++◌, map, length, codes, Some, None, refl, sym, ap, subst, ◌∙◌, arith, if◌then◌else◌}
use Rattle.std.specs.Prelude.{slice_index_or, slice_set, option_map}
use Rattle.std.specs.Str.{bytes_eq}
use Rattle.std.proofs.lemmas.List.{length_push, length-set}
use Rattle.std.proofs.lemmas.Slice.Eq.{bytes_eq-Decides}
use Rattle.js_terms.specs.declared.place.Loc.{Loc}
use Rattle.js_terms.specs.declared.words.Spelled.{Spelled}
use Rattle.js_tree.specs.Plain.{Stmts, more_stmt, FunctionDeclaration, MakeFunction, MakeFunctionBody, no_param}
use Rattle.js_value.specs.declared.value.Value.{Value}
use Rattle.js_value.specs.declared.built_in.Place.TheVariants.{ObjectPrototype, FunctionPrototype}
use Rattle.js_value.specs.State.{Plain, BuiltIn, Written, ObjectRecord, Binding, Environment, Heap, Store}
use Rattle.js_value.specs.Objects.{object_at, next_object, kind_of, new_object, define, assigned}
use Rattle.js_value.specs.Environments.{Cell, Done, Dead, Constant, next_environment, environment_at, no_binding, place_in, place_of, resolved, lookup, binding_at, value_of, assign_answer, assign_to, assign, assign_name}
use Rattle.js_value.specs.Environments as Environments
use Rattle.js_value.specs.Functions.{name_units}
use Rattle.std.specs.Prelude.{pos}
use Rattle.js_value.specs.declared.value.Value.TheVariants as value
use Rattle.js_value.specs.declared.value.Primitive.TheVariants as primitive
use Rattle.js_value.specs.declared.built_in.TheConstants.{FUNCTIONS}
use Rattle.js_value.specs.Realm.{number_of, global_environment, object, text, fixed, undefined}
use Rattle.js_meaning.specs.Program.{Source, Sources}
use Rattle.js_meaning.specs.Scopes.{Shape, Hoisted, stands_in, once, variable_of, names_of, body_scope, function_stmts, shape_of, closed, hoisted, body_made}
use Rattle.js_meaning.specs.VarNames.{var_stmts}
use Rattle.js_meaning.specs.Files.{begin, file_objects, file_names}
use Rattle.js_value.specs.Lookups.{Grown, Shows}
use Rattle.js_counter.proofs.Places.{place_later, place_first}
use Rattle.js_counter.specs.Literals.{Literal, expr_of}
use Rattle.js_counter.specs.Steady.{call_of}
use Rattle.js_counter.specs.First.{does, first_body, first_code}
use Rattle.js_counter.specs.Preamble.{Fresh}
use Rattle.js_counter.specs.Starts.{after_directives, opening_of, file_env, file_store, file_bindings, FileFresh, BeginsFresh}
use Rattle.js_counter.proofs.Heaps.{pushed, env_of, at_top, below_top, all_declared, scope_is, looked_up, looked_out}
use Rattle.js_counter.proofs.Locals.{no_place}
use Rattle.js_counter.proofs.Closed.{grown_then, grown_length, new_grows, define_grows, with_grows, closed_kind, closed_low, assigned_binding}
use Rattle.js_counter.proofs.Hoists.{Kept, kept_closed, hoisted_kept, assign_shows, assign_other}

-- Where a name stands among those that are declared

-- a variable without a value
pub record Stands (name : List ℕ) (bs : List Binding) : Type 0 where
  pub i : ℕ
  pub at : place_in bs name ≡ Some i
  value : (slice_index_or bs i no_binding).value ≡ Some undefined
  constant : (slice_index_or bs i no_binding).constant ≡ false

after_one : (name : List ℕ) (b : Binding) (bs : List Binding) → bytes_eq b.name name ≡ false → Stands name bs → Stands name (b ∷ bs)
after_one name b bs differ s = record {
  i = suc s.i;
  at = place_later name b bs differ ∙ ap (option_map suc) s.at;
  value = s.value;
  constant = s.constant;
}

same_bytes : (a b : List ℕ) → bytes_eq a b ≡ true → a ≡ b
same_bytes a b e = (bytes_eq-Decides a b).0 e

turned : (a b : List ℕ) → bytes_eq a b ≡ false → bytes_eq b a ≡ false
turned a b e = by (bytes_eq b a) refl
  where
    clash : true ≡ false → ⊥
    clash e = cc

    by : (t : Bool) → bytes_eq b a ≡ t → bytes_eq b a ≡ false
    by false f = f
    by true f = absurd (clash (sym ((bytes_eq-Decides a b).1 (sym (same_bytes b a f))) ∙ e))

or_false : (a b : Bool) → a ≡ false → b ≡ false → (a || b) ≡ false
or_false a b e f = ap (λ x. x || b) e ∙ f

module _ (name : List ℕ) (rest : List Binding) where
  abbrev Found : List (List ℕ) → List (List ℕ) → Type 0
  Found before names = Stands name (map (variable_of undefined) (once before names) ++ rest)

  first_of : (bs : List Binding) (q : List ℕ) → bytes_eq q name ≡ true → Stands name (variable_of undefined q ∷ bs)
  first_of bs q e = record { i = 0; at = place_first name (variable_of undefined q) bs e; value = refl; constant = refl }

  is_first : (q : List ℕ) (names before : List (List ℕ)) → bytes_eq q name ≡ true → stands_in name before ≡ false → Found before (q ∷ names)
  is_first q names before e none =
      let r : stands_in q before ≡ false = ap (λ x. stands_in x before) (same_bytes q name e) ∙ none in
      subst (λ b. Stands name (map (variable_of undefined) (if b then once before names else q ∷ once (q ∷ before) names) ++ rest)) (sym r)
      (first_of (map (variable_of undefined) (once (q ∷ before) names) ++ rest) q e)

  is_later : (q : List ℕ) (names before : List (List ℕ)) → bytes_eq q name ≡ false → Found before names → Found (q ∷ before) names → Found before (q ∷ names)
  is_later q names before e a b = elim (stands_in q before) as (λ t. Stands name (map (variable_of undefined) (if t then once before names else q ∷ once (q ∷ before) names) ++ rest)) [
    | true ↦ a
    | false ↦ after_one name (variable_of undefined q) _ e b
  ]

  pub found_once : (names before : List (List ℕ)) → stands_in name names ≡ true → stands_in name before ≡ false → Found before names
  found_once [] before e none = cc
  found_once (q ∷ names) before e none = by (bytes_eq name q) refl e
      (λ in_rest. found_once names before in_rest none) (λ in_rest differ. found_once names (q ∷ before) in_rest (or_false (bytes_eq name q) (stands_in name before) differ none))
    where
      by : (t : Bool) → bytes_eq name q ≡ t → (t || stands_in name names) ≡ true →
          (stands_in name names ≡ true → Found before names) → (stands_in name names ≡ true → bytes_eq name q ≡ false → Found (q ∷ before) names) → Found before (q ∷ names)
      by true f g a b = is_first q names before ((bytes_eq-Decides q name).1 (sym (same_bytes name q f))) none
      by false f g a b = is_later q names before (turned name q f) (a g) (b g f)

in_append : (name : List ℕ) (xs ys : List (List ℕ)) → stands_in name ys ≡ true → stands_in name (xs ++ ys) ≡ true
in_append name [] ys e = e
in_append name (x ∷ xs) ys e = ap (λ t. bytes_eq name x || t) (in_append name xs ys e) ∙ or_true (bytes_eq name x)
  where
    or_true : (b : Bool) → (b || true) ≡ true
    or_true true = refl
    or_true false = refl

-- Objects of a file

begun_grown : (h : Heap) → Grown h (file_objects h)
begun_grown h =
    let a = new_object Plain (Some (number_of ObjectPrototype)) h in
    let b = new_object Plain (Some (number_of ObjectPrototype)) a in
    let ga : Grown h a = new_grows Plain (Some (number_of ObjectPrototype)) h in
    let gb : Grown h b = grown_then h a b ga (new_grows Plain (Some (number_of ObjectPrototype)) a) in
    let c = define (next_object h + 1) (assigned (codes "exports") (object (next_object h))) b in
    let gc : Grown h c = define_grows (next_object h + 1) (assigned (codes "exports") (object (next_object h))) h b gb (omega arith) in
    let lc = grown_length h c gc in
    let d = new_object (BuiltIn FUNCTIONS) (Some (number_of FunctionPrototype)) c in
    let gd : Grown h d = grown_then h c d gc (new_grows (BuiltIn FUNCTIONS) (Some (number_of FunctionPrototype)) c) in
    let f = define (next_object c) (fixed (codes "length") (value.Primitive (primitive.Number (pos 1)))) d in
    let gf : Grown h f = define_grows (next_object c) (fixed (codes "length") (value.Primitive (primitive.Number (pos 1)))) h d gd lc in
    let k = define (next_object c) (fixed (codes "name") (text (codes "require"))) f in
    let gk : Grown h k = define_grows (next_object c) (fixed (codes "name") (text (codes "require"))) h f gf lc in
    with_grows (next_object h + 2) (record (object_at k (next_object h + 2)) { frozen = true }) h k gk (omega arith)

functions_after : (ds : List (Option Loc × Spelled)) (xs : Stmts) → function_stmts (after_directives ds xs) ≡ function_stmts xs
functions_after [] xs = refl
functions_after (d ∷ ds) xs = functions_after ds xs

answer_done : (b : Binding) (v : Value) → b.value ≡ Some v → b.constant ≡ false → assign_to b ≡ Done
answer_done b v e f =
    ap (λ o. elim o [ None ↦ Dead | Some w ↦ if b.constant then Constant else Done ]) e ∙ ap (λ t. if t then Constant else Done) f

module _ (p : Sources) (source : Source) (file : ℕ) (ds : List (Option Loc × Spelled)) (name : List ℕ) (path hash gcv : Spelled) (made : Literal) (number next : ℕ) (rest : Stmts) (s : Store) (g : ℕ)
    (f : FileFresh p (opening_of ds name path hash gcv made number next rest) name path hash gcv made number next rest s g) where
  abbrev pub xs : Stmts
  xs = opening_of ds name path hash gcv made number next rest

  abbrev pub exports : ℕ
  exports = next_object s.heap

  abbrev pub hb : Heap
  hb = (begin source file s).heap

  abbrev pub E : ℕ
  E = next_environment hb

  abbrev pub shape : Shape
  shape = shape_of (first_code number name path hash gcv (expr_of made) next)

  abbrev pub itself : Hoisted
  itself = record { name = name; shape = shape }

  abbrev pub bindings : List Binding
  bindings = file_bindings xs exports

  abbrev pub base : Heap
  base = pushed (env_of global_environment bindings) hb

  abbrev pub H : Heap
  H = (file_store source file xs s).heap

  functions_are : function_stmts xs ≡ itself ∷ function_stmts rest
  functions_are = functions_after ds
      (more_stmt (FunctionDeclaration None (record { loc = None; name = name }) (MakeFunction number no_param (MakeFunctionBody None (first_body name path hash gcv (expr_of made) next))))
      (more_stmt (does (call_of name)) rest))

  -- the heap of the file's statements
  heap_is : H ≡ hoisted (itself ∷ function_stmts rest) E base
  heap_is =
      ap (λ h. body_made file_names (body_scope xs) E h) (scope_is three global_environment hb)
      ∙ ap (λ h. hoisted (function_stmts xs) E h) (all_declared global_environment three (map (variable_of undefined) (once file_names (body_scope xs).variables) ++ (body_scope xs).lexical) hb)
      ∙ ap (λ fs. hoisted fs E base) functions_are
    where
      three : List Binding
      three = variable_of (object (next_object s.heap)) (codes "exports") ∷ variable_of (object (next_object s.heap + 2)) (codes "require") ∷ variable_of (object (next_object s.heap + 1)) (codes "module") ∷ []

  -- the name stands among those of the file
  pub named : Stands name bindings
  named =
      let inner = found_once name (body_scope xs).lexical (body_scope xs).variables file_names is_variable f.own_name in
      after_one name _ _ (turned name (codes "exports") (first_no f.own_name))
      (after_one name _ _ (turned name (codes "require") (second_no f.own_name))
      (after_one name _ _ (turned name (codes "module") (third_no f.own_name)) inner))
    where
      left_false : (a b : Bool) → (a || b) ≡ false → a ≡ false
      left_false true b e = e
      left_false false b e = refl

      right_false : (a b : Bool) → (a || b) ≡ false → b ≡ false
      right_false true b e = absurd (clash (sym e))
        where
          clash : false ≡ true → ⊥
          clash e = cc
      right_false false b e = e

      first_no : stands_in name file_names ≡ false → bytes_eq name (codes "exports") ≡ false
      first_no e = left_false (bytes_eq name (codes "exports")) (stands_in name (codes "require" ∷ codes "module" ∷ [])) e

      second_no : stands_in name file_names ≡ false → bytes_eq name (codes "require") ≡ false
      second_no e = left_false (bytes_eq name (codes "require")) (stands_in name (codes "module" ∷ []))
          (right_false (bytes_eq name (codes "exports")) (stands_in name (codes "require" ∷ codes "module" ∷ [])) e)

      third_no : stands_in name file_names ≡ false → bytes_eq name (codes "module") ≡ false
      third_no e = left_false (bytes_eq name (codes "module")) (stands_in name [])
          (right_false (bytes_eq name (codes "require")) (stands_in name (codes "module" ∷ []))
          (right_false (bytes_eq name (codes "exports")) (stands_in name (codes "require" ∷ codes "module" ∷ [])) e))

      same_name : bytes_eq name name ≡ true
      same_name = (bytes_eq-Decides name name).1 refl

      is_variable : stands_in name (body_scope (opening_of ds name path hash gcv made number next rest)).variables ≡ true
      is_variable = in_append name (var_stmts (opening_of ds name path hash gcv made number next rest)) (names_of (function_stmts (opening_of ds name path hash gcv made number next rest)))
          (ap (λ fs. stands_in name (names_of fs)) (functions_after ds
          (more_stmt (FunctionDeclaration None (record { loc = None; name = name }) (MakeFunction number no_param (MakeFunctionBody None (first_body name path hash gcv (expr_of made) next))))
          (more_stmt (does (call_of name)) rest)))
          ∙ ap (λ b. b || stands_in name (names_of (function_stmts rest))) same_name)

  abbrev pub cell : Cell
  cell = record { environment = E; place = named.i }

  abbrev global_cell : Cell
  global_cell = record { environment = global_environment; place = f.place }

  abbrev top_is : environment_at base E ≡ env_of global_environment bindings
  top_is = at_top (env_of global_environment bindings) hb

  abbrev pub k0 : Heap
  k0 = closed shape (name_units name) E base

  abbrev pub function : ℕ
  function = next_object base

  abbrev pub k1 : Heap
  k1 = assign cell (object function) k0

  base_named : place_of (environment_at base E) name ≡ Some named.i
  base_named = ap (λ x. place_of x name) top_is ∙ named.at

  global_low : global_environment < next_environment hb
  global_low = f.has_global

  base_global : place_of (environment_at base global_environment) (codes "globalThis") ≡ Some f.place
  base_global = ap (λ x. place_of x (codes "globalThis")) (below_top (env_of global_environment bindings) hb global_environment global_low) ∙ f.global_named

  kept0 : Kept base k0 cell global_cell
  kept0 = kept_closed shape (name_units name) E base cell global_cell

  named0 : place_of (environment_at k0 E) name ≡ Some named.i
  named0 = (kept0.shows E name).place ∙ base_named

  held0 : value_of k0 cell ≡ Some undefined
  held0 = ap (λ (b : Binding). b.value) kept0.first ∙ ap (λ (x : Environment). (slice_index_or x.bindings named.i no_binding).value) top_is ∙ named.value

  constant0 : (binding_at k0 cell).constant ≡ false
  constant0 = ap (λ (b : Binding). b.constant) kept0.first ∙ ap (λ (x : Environment). (slice_index_or x.bindings named.i no_binding).constant) top_is ∙ named.constant

  may0 : assign_answer k0 cell ≡ Done
  may0 = answer_done (binding_at k0 cell) undefined held0 constant0

  pub low0 : E < next_environment k0
  low0 = let e = kept0.envs in let l = length_push hb.environments (env_of global_environment bindings) in omega (arith, e, l)

  named_function : assign_name E name (object function) k0 ≡ k1
  named_function = ap (λ o. elim o [ None ↦ k0 | Some c ↦ assign c (object function) k0 ]) (looked_up k0 E name (environment_at k0 E) named.i refl named0)

  pub heap_last : H ≡ hoisted (function_stmts rest) E k1
  heap_last = heap_is ∙ ap (λ h. hoisted (function_stmts rest) E h) named_function

  -- after the function has its name
  named1 : place_of (environment_at k1 E) name ≡ Some named.i
  named1 = (assign_shows k0 cell (object function) name named0 E name).place ∙ named0

  binding1 : binding_at k1 cell ≡ record (binding_at k0 cell) { value = Some (object function) }
  binding1 = assigned_binding k0 cell (object function) undefined low0 may0 held0

  global0 : place_of (environment_at k0 global_environment) (codes "globalThis") ≡ Some f.place
  global0 = (kept0.shows global_environment (codes "globalThis")).place ∙ base_global

  global1 : place_of (environment_at k1 global_environment) (codes "globalThis") ≡ Some f.place
  global1 = (assign_shows k0 cell (object function) name named0 global_environment (codes "globalThis")).place ∙ global0

  kept2 : Kept k1 (hoisted (function_stmts rest) E k1) cell global_cell
  kept2 = hoisted_kept (function_stmts rest) E k1 cell global_cell name (codes "globalThis") named1 global1 f.others

  abbrev K : Heap
  K = hoisted (function_stmts rest) E k1

  shows_base : (x : ℕ) (nm : List ℕ) → Shows nm (environment_at base x) (environment_at K x)
  shows_base x nm =
      let a = kept0.shows x nm in
      let b = assign_shows k0 cell (object function) name named0 x nm in
      let c = kept2.shows x nm in
      record { place = c.place ∙ b.place ∙ a.place; outer = c.outer ∙ b.outer ∙ a.outer }

  envs : next_environment K ≡ suc E
  envs =
      let a = kept0.envs in
      let b = length-set k0.environments E (record { outer = (environment_at k0 E).outer; bindings = slice_set (environment_at k0 E).bindings named.i (Environments.assigned (assign_answer k0 cell) (object function) (binding_at k0 cell)) }) in
      let c = kept2.envs in
      let l = length_push hb.environments (env_of global_environment bindings) in
      omega (arith, a, b, c, l)

  binding2 : binding_at K cell ≡ record (binding_at k0 cell) { value = Some (object function) }
  binding2 = kept2.first ∙ binding1

  low2 : E < next_environment K
  low2 = let e = envs in omega (arith, e)

  older2 : (x o : ℕ) → x < next_environment K → (environment_at K x).outer ≡ Some o → o < x
  older2 x o l w = by (next_environment hb) refl split
    where
      inj : {X : Type 0} {a b : X} → Some a ≡ Some b → a ≡ b
      inj e = cc

      split : (x < E) ⊎ (x ≡ E)
      split = let e = envs in grind (arith, e, l)

      base_outer : (environment_at base x).outer ≡ Some o
      base_outer = sym (shows_base x []).outer ∙ w

      by : (n : ℕ) → next_environment hb ≡ n → (x < E) ⊎ (x ≡ E) → o < x
      by n e (inl q) = f.older x o q (ap (λ (y : Environment). y.outer) (sym (below_top (env_of global_environment bindings) hb x q)) ∙ base_outer)
      by n e (inr q) =
          let z : global_environment ≡ o = inj (ap (λ (y : Environment). y.outer) (sym top_is) ∙ ap (λ y. (environment_at base y).outer) (sym q) ∙ base_outer) in
          let gl = global_low in omega (arith, z, q, gl)

  global_found : lookup K E (codes "globalThis") ≡ Some global_cell
  global_found =
      looked_out K E (codes "globalThis") (environment_at K E) refl
      ((shows_base E (codes "globalThis")).place ∙ ap (λ x. place_of x (codes "globalThis")) top_is ∙ no_place (codes "globalThis") bindings f.unnamed)
      ∙ ap (λ o. resolved E K.environments o (codes "globalThis")) ((shows_base E []).outer ∙ ap (λ (x : Environment). x.outer) top_is)
      ∙ by E global_low
    where
      by : (n : ℕ) → global_environment < n → resolved n K.environments (Some global_environment) (codes "globalThis") ≡ Some global_cell
      by zero l = absurd (omega arith)
      by (suc n) l = ap (λ o. elim o [ Some at ↦ Some (record { environment = global_environment; place = at }) | None ↦ resolved n K.environments (environment_at K global_environment).outer (codes "globalThis") ])
          ((shows_base global_environment (codes "globalThis")).place ∙ base_global)

  global_held : value_of K global_cell ≡ Some (object g)
  global_held =
      ap (λ (b : Binding). b.value) (kept2.second ∙ assign_other k0 cell (object function) name named0 global_cell (codes "globalThis") global0 f.not_global ∙ kept0.second
      ∙ ap (λ (x : Environment). slice_index_or x.bindings f.place no_binding) (below_top (env_of global_environment bindings) hb global_environment global_low))
      ∙ f.is_global

  function_kind : kind_of K function ≡ Written number E
  function_kind =
      ap (λ (r : ObjectRecord). r.kind) (kept2.grown function (closed_low shape (name_units name) E base refl)).1
      ∙ closed_kind shape (name_units name) E base refl

  fresh : Fresh p K E name path hash gcv made g
  fresh = record {
    outer = E;
    low = low2;
    env_low = low2;
    older = older2;
    seen = record { cell = cell; found = looked_up K E name (environment_at K E) named.i refl ((shows_base E name).place ∙ base_named); low = low2 };
    from_here = looked_up K E name (environment_at K E) named.i refl ((shows_base E name).place ∙ base_named);
    may = answer_done (binding_at K cell) (object function) (ap (λ (b : Binding). b.value) binding2) (ap (λ (b : Binding). b.constant) binding2 ∙ constant0);
    function = function;
    bound = ap (λ (b : Binding). b.value) binding2;
    code = number;
    kind = function_kind;
    number = number;
    next = next;
    is_code = f.is_code;
    is_next = f.is_next;
    free_name = f.free_name;
    global_this = record { cell = global_cell; found = global_found; low = let e = envs in let l = global_low in omega (arith, e, l) };
    is_global = global_held;
    keys = f.keys;
  }

  grown_all : Grown s.heap K
  grown_all o l =
      let a = begun_grown s.heap o l in
      let b = kept0.grown o a.0 in
      let c = kept2.grown o b.0 in
      (c.0, c.1 ∙ b.1 ∙ a.1)

pub begins_fresh : BeginsFresh
begins_fresh p source file ds name path hash gcv made number next rest s g f =
    let e = heap_last p source file ds name path hash gcv made number next rest s g f in (
      subst (λ h. Fresh p h (file_env (begin source file s)) name path hash gcv made g) (sym e) (fresh p source file ds name path hash gcv made number next rest s g f),
      λ o l. subst (λ (h : Heap). (o < length h.objects) × (object_at h o ≡ object_at s.heap o)) (sym e) (grown_all p source file ds name path hash gcv made number next rest s g f o l),
    )
