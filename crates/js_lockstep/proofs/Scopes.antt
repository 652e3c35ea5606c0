-- Functions and scopes are made in both runs.
use Rattle.std.proofs.Common.{◌≡◌, ◌≢◌, codes, ℕ, suc, Bool, true, false, List, [], ◌∷◌, ◌++◌, map, Some, None, refl, sym, ap, ◌∙◌, subst, arith, if◌then◌else◌}
use Rattle.std.specs.List.{AllZip}
use Rattle.std.proofs.lemmas.List.{get_or_append_left}
use Rattle.js_terms.specs.declared.operators.VariableKind.{VariableKind}
use Rattle.js_terms.specs.declared.operators.VariableKind.TheVariants as variable
use Rattle.js_tree.specs.Codes.{Code, Ordinary, OfMethod, Arrow}
use Rattle.js_tree.specs.Plain.{MakeFunction, MakeParam, Params, no_param, more_param, none_expr, some_expr}
use Rattle.js_value.specs.declared.built_in.Place.TheVariants as place
use Rattle.js_value.specs.State.{Plain, Written, Binding, Heap}
use Rattle.js_value.specs.Objects.{next_object}
use Rattle.js_value.specs.Environments.{no_binding, environment_at, next_environment, declare, declare_all, assign_name}
use Rattle.js_value.specs.Realm.{number_of, object, undefined}
use Rattle.js_value.specs.Functions.{Shape, closed, with_constructor, function_made, constructor_made, name_units}
use Rattle.js_meaning.specs.Scopes.{stands_in, once, variable_of, uninitialized, lexical_names as lexical, expected_arguments, shape_of, Hoisted, hoisted, Scope, scope_made, block_made}
use Rattle.js_two_runs.specs.Pairs.{Paired}
use Rattle.js_two_runs.specs.TwoRuns.{neither, both, plain, refs}
use Rattle.js_two_runs.specs.TwoHeaps.{plains, functions}
use Rattle.js_suits.specs.Rewritten.{rewritten_code, rewritten_params}
use Rattle.js_suits.specs.Suits.{SuitsCode}
use Rattle.js_suits.specs.Settings.{Home, Outside, Within, World, Setting, IsFree}
use Rattle.js_lockstep.specs.Worlds.{root, Encloses, Later, Around, held, AlikeBindings, AlikeNames, no_names, more_names, outers}
use Rattle.js_lockstep.proofs.Later.{around_later, names_later}
use Rattle.js_lockstep.proofs.Names.{place_appended, place_below, pushed, own_at}
use Rattle.js_lockstep.proofs.Heaps.{apart_from_root, Both, Grown, grown_same, grown_again, Made, Opened, new_grown, define_grown, later_new, environment_grown, environment_written}
use Rattle.js_lockstep.proofs.Stores.{assign_name_grown}
use Rattle.js_lockstep.proofs.Pushed.{declared, environment, push_environment as pushed_heap}

module _ (c : Setting) where
  abbrev pub made_then : {w : World} {h l a b d e : Heap} → (m : Made c w h l a b) → Grown c m.grown.v a b d e → Made c w h l d e
  made_then m g = record { grown = grown_again c m.grown g; pair = g.later.objects _ _ m.pair }

  abbrev pub opened_then : {home : Home} {w : World} {h l a b d e : Heap} → (m : Opened c home w h l a b) → Grown c m.grown.v a b d e → Opened c home w h l d e
  opened_then m g = record { grown = grown_again c m.grown g; around = around_later g.later m.around; inner = g.later.own _ _ m.around.pair ∙ m.inner }

module _ (c : Setting) (home : Home) where
  -- Functions

  expected_same : (ps : Params) → expected_arguments (rewritten_params c (c.shift home) ps) ≡ expected_arguments ps
  expected_same no_param = refl
  expected_same (more_param (MakeParam loc pattern none_expr) ps) = ap (λ n. suc n) (expected_same ps)
  expected_same (more_param (MakeParam loc pattern (some_expr e)) ps) = refl

  function_grown : (w : World) (h l : Heap) (code other e f : ℕ) (name : List ℕ) (n : ℕ) → Both c w h l → c.Codes home code other → Around w home e f →
      Made c w h l (function_made code e name n h) (function_made other f name n l)
  function_grown w h l code other e f name n x z r =
      let m = new_grown c w h l (Written code e) (Written other f) (Some (number_of place.FunctionPrototype)) (Some (number_of place.FunctionPrototype)) x
      (functions code e other f (record { home = home; codes = z; environments = r })) (both _ _ (x.heaps.built_in (number_of place.FunctionPrototype) (omega arith) (λ e. omega arith)))
      in
      let m2 = made_then c m (define_grown c m.grown.v _ _ (next_object h) (next_object l) _ _ m.grown.both m.pair (apart_from_root c x) (record { key = refl; value = plain _; enumerable = refl; writable = refl })) in
      made_then c m2 (define_grown c m2.grown.v _ _ (next_object h) (next_object l) _ _ m2.grown.both m2.pair (apart_from_root c x) (record { key = refl; value = plain _; enumerable = refl; writable = refl }))

  constructor_grown : (w : World) (h l : Heap) (f g : ℕ) → Both c w h l → Paired w.objects f g → g ≢ root → Grown c w h l (constructor_made f h) (constructor_made g l)
  constructor_grown w h l f g x i apart =
      let m = new_grown c w h l Plain Plain (Some (number_of place.ObjectPrototype)) (Some (number_of place.ObjectPrototype)) x plains (both _ _ (x.heaps.built_in (number_of place.ObjectPrototype) (omega arith) (λ e. omega arith))) in
      let m2 = made_then c m (define_grown c m.grown.v _ _ (next_object h) (next_object l) _ _ m.grown.both m.pair (apart_from_root c x) (record { key = refl; value = refs _ _ (m.grown.later.objects f g i); enumerable = refl; writable = refl })) in
      grown_again c m2.grown (define_grown c m2.grown.v _ _ f g _ _ m2.grown.both (m2.grown.later.objects f g i) apart (record { key = refl; value = refs _ _ m2.pair; enumerable = refl; writable = refl }))

  -- functions that are each other's, as they are known where they are made
  pub record AlikeShapes (f g : Shape) : Type 0 where
    pub codes : c.Codes home f.number g.number
    pub lengths : f.length ≡ g.length
    pub constructors : f.constructs ≡ g.constructs

  abbrev built : Bool → (number length : ℕ) → List ℕ → ℕ → Heap → Heap
  built b number length name e h = record h { objects = (with_constructor b (next_object h) (function_made number e name length h)).objects }

  pub closed_made : (w : World) (h l : Heap) (f g : Shape) → AlikeShapes f g → (name : List ℕ) (e d : ℕ) → Both c w h l → Around w home e d → Made c w h l (closed f name e h) (closed g name d l)
  closed_made w h l f g s name e d x r =
      subst (λ b. Made c w h l (closed f name e h) (built b g.number g.length name d l)) s.constructors
      (subst (λ n. Made c w h l (closed f name e h) (built f.constructs g.number n name d l)) s.lengths
      (by_kind f.constructs))
    where
      m : Made c w h l (function_made f.number e name f.length h) (function_made g.number d name f.length l)
      m = function_grown w h l f.number g.number e d name f.length x s.codes r

      by_kind : (b : Bool) → Made c w h l (built b f.number f.length name e h) (built b g.number f.length name d l)
      by_kind true = made_then c m (constructor_grown m.grown.v _ _ (next_object h) (next_object l) m.grown.both m.pair (apart_from_root c x))
      by_kind false = m

  pub shape_alike : (code : Code) → SuitsCode c home code → AlikeShapes (shape_of code) (shape_of (rewritten_code c (c.shift home) code))
  shape_alike (Ordinary (MakeFunction number ps body)) su = record { codes = su.0; lengths = sym (expected_same ps); constructors = refl }
  shape_alike (OfMethod (MakeFunction number ps body)) su = record { codes = su.0; lengths = sym (expected_same ps); constructors = refl }
  shape_alike (Arrow number ps body) su = record { codes = su.0; lengths = sym (expected_same ps); constructors = refl }

  -- Names

  abbrev pub FreeNames : List (List ℕ) → Type 0
  FreeNames [] = Unit {0}
  FreeNames (x ∷ xs) = IsFree c.name home x × FreeNames xs

  pub free_joined : (xs ys : List (List ℕ)) → FreeNames xs → FreeNames ys → FreeNames (xs ++ ys)
  free_joined [] ys f g = g
  free_joined (x ∷ xs) ys f g = (f.0, free_joined xs ys f.1 g)

  pub names_joined : (w : World) (as1 bs1 cs ds : List Binding) → AlikeNames c.name w home None as1 bs1 → AlikeNames c.name w home None cs ds → AlikeNames c.name w home None (as1 ++ cs) (bs1 ++ ds)
  names_joined w _ _ cs ds no_names t = t
  names_joined w _ _ cs ds (more_names r s) t = more_names r (names_joined w _ _ cs ds s t)

  pub uninitialized_names : (w : World) (b : Bool) (xs : List (List ℕ)) → FreeNames xs → AlikeNames c.name w home None (map (uninitialized b) xs) (map (uninitialized b) xs)
  uninitialized_names w b [] f = no_names
  uninitialized_names w b (x ∷ xs) f = more_names (record { names = refl; other = (f.0).other; contents = held neither; constants = refl }) (uninitialized_names w b xs f.1)

  pub undefined_names : (w : World) (xs : List (List ℕ)) → FreeNames xs → AlikeNames c.name w home None (map (variable_of undefined) xs) (map (variable_of undefined) xs)
  undefined_names w [] f = no_names
  undefined_names w (x ∷ xs) f = more_names (record { names = refl; other = (f.0).other; contents = held (both _ _ (plain _)); constants = refl }) (undefined_names w xs f.1)

  pub lexical_names : (w : World) (kind : VariableKind) (xs : List (List ℕ)) → FreeNames xs → AlikeNames c.name w home None (lexical kind xs) (lexical kind xs)
  lexical_names w variable.Var xs f = no_names
  lexical_names w variable.Let xs f = uninitialized_names w false xs f
  lexical_names w variable.Const xs f = uninitialized_names w true xs f

  once_free : (before xs : List (List ℕ)) → FreeNames xs → FreeNames (once before xs)
  once_free before [] f = tt
  once_free before (x ∷ xs) f = by_test (stands_in x before) (once_free before xs f.1) (once_free (x ∷ before) xs f.1)
    where
      by_test : (b : Bool) → FreeNames (once before xs) → FreeNames (once (x ∷ before) xs) → FreeNames (if b then once before xs else x ∷ once (x ∷ before) xs)
      by_test true g h = g
      by_test false g h = (f.0, h)

  pub once_free_names : (before xs : List (List ℕ)) → FreeNames xs → FreeNames (once before xs)
  once_free_names = once_free

  -- Scopes

  scope_is : (names : List Binding) (e : ℕ) (h : Heap) → scope_made names e h ≡ pushed_heap (environment (Some e) names) h
  scope_is names e h = declared (Some e) names [] h

  pub scope_opened_in : (g : Home) → Encloses g home → (w : World) (h l : Heap) (e f : ℕ) (xs ys : List Binding) → Both c w h l → Around w g e f → ((v : World) → Later w v → AlikeNames c.name v home None xs ys) →
      Opened c home w h l (scope_made xs e h) (scope_made ys f l)
  scope_opened_in g z w h l e f xs ys x r names =
      subst (λ z. Opened c home w h l z (scope_made ys f l)) (sym (scope_is xs e h))
      (subst (λ z. Opened c home w h l (pushed_heap (environment (Some e) xs) h) z) (sym (scope_is ys f l))
      (environment_grown c w h l home (Some e) (Some f) xs ys x (outers e f g (x.environments.left_bound e f r.pair) (x.environments.right_bound e f r.pair) z r) (names _ (later_new c w h l home x))))

  encloses_itself : (g : Home) → Encloses g g
  encloses_itself (Outside part) = tt
  encloses_itself (Within file) = refl

  pub scope_opened : (w : World) (h l : Heap) (e f : ℕ) (xs ys : List Binding) → Both c w h l → Around w home e f → ((v : World) → Later w v → AlikeNames c.name v home None xs ys) →
      Opened c home w h l (scope_made xs e h) (scope_made ys f l)
  scope_opened w h l e f xs ys x r names = scope_opened_in home (encloses_itself home) w h l e f xs ys x r names

  -- more names of an environment
  declare_grown : (w : World) (h l : Heap) (e f : ℕ) (a b : Binding) → Both c w h l → Around w home e f → AlikeBindings c.name w home a b → Grown c w h l (declare e a h) (declare f b l)
  declare_grown w h l e f a b x r s =
      let there = x.environments.related e f r.pair in
      environment_written c w h l e f _ _ x r.pair
      (record { outer = there.outer; names = pushed c.name w (w.home f) (w.own f) _ _ a b there.names (subst (λ z. AlikeBindings c.name w z a b) (sym r.home) s) })
      (λ n own. let low = own_at c.name w (w.home f) n _ _ (subst (λ o. AlikeNames c.name w (w.home f) o (environment_at h e).bindings (environment_at l f).bindings) own there.names) in
      get_or_append_left (environment_at l f).bindings (b ∷ []) no_binding n low.1)
      (λ n at. (place_appended (codes "globalThis") (environment_at l f).bindings (b ∷ []) n at, get_or_append_left (environment_at l f).bindings (b ∷ []) no_binding n (place_below (codes "globalThis") (environment_at l f).bindings n at)))

  pub declares_grown : (w : World) (e f : ℕ) (xs ys : List Binding) → AlikeNames c.name w home None xs ys → (h l : Heap) → Both c w h l → Around w home e f → Grown c w h l (declare_all e xs h) (declare_all f ys l)
  declares_grown w e f [] [] no_names h l x r = grown_same c x
  declares_grown w e f [] (b ∷ ys) t h l x r = elim t [ ]
  declares_grown w e f (a ∷ xs) [] t h l x r = elim t [ ]
  declares_grown w e f (a ∷ xs) (b ∷ ys) (more_names s t) h l x r =
      let g = declare_grown w h l e f a b x r s in
      grown_again c g (declares_grown g.v e f xs ys (names_later g.later t) _ _ g.both (around_later g.later r))

  -- Hoisting

  pub record AlikeHoisted (f g : Hoisted) : Type 0 where
    pub names : f.name ≡ g.name
    pub free : IsFree c.name home f.name
    pub shapes : AlikeShapes f.shape g.shape

  pub hoisted_grown : (fs gs : List Hoisted) → AllZip AlikeHoisted fs gs → (w : World) (h l : Heap) (e d : ℕ) → Both c w h l → Around w home e d → Grown c w h l (hoisted fs e h) (hoisted gs d l)
  hoisted_grown [] [] rs w h l e d x r = grown_same c x
  hoisted_grown [] (g ∷ gs) rs w h l e d x r = absurd rs
  hoisted_grown (f ∷ fs) [] rs w h l e d x r = absurd rs
  hoisted_grown (f ∷ fs) (g ∷ gs) rs w h l e d x r =
      let m = closed_made w h l f.shape g.shape (rs.0).shapes (name_units f.name) e d x r in
      let a = grown_again c m.grown (assign_name_grown c m.grown.v _ _ home e d f.name _ _ m.grown.both (around_later m.grown.later r) (rs.0).free (refs _ _ m.pair)) in
      subst (λ name. Grown c w h l (hoisted (f ∷ fs) e h) (hoisted gs d (assign_name d name (object (next_object l)) (closed g.shape (name_units name) d l)))) (rs.0).names
      (grown_again c a (hoisted_grown fs gs rs.1 a.v _ _ e d a.both (around_later a.later r)))

  -- scopes that declare the same
  pub record AlikeScopes (a b : Scope) : Type 0 where
    pub variables : b.variables ≡ a.variables
    pub free : FreeNames a.variables
    pub lexicals : b.lexical ≡ a.lexical
    pub lexicals_alike : (w : World) → AlikeNames c.name w home None a.lexical a.lexical
    pub functions : AllZip AlikeHoisted a.functions b.functions

  pub block_opened : (fs gs : List Hoisted) → AllZip AlikeHoisted fs gs → (w : World) (h l : Heap) (e f : ℕ) (as1 bs1 : List Binding) → Both c w h l → Around w home e f → ((v : World) → Later w v → AlikeNames c.name v home None as1 bs1) →
      Opened c home w h l (block_made as1 fs e h) (block_made bs1 gs f l)
  block_opened fs gs rs w h l e f as1 bs1 b r names =
      let o = scope_opened w h l e f as1 bs1 b r names in
      opened_then c o (hoisted_grown fs gs rs o.grown.v _ _ (next_environment h) (next_environment l) o.grown.both o.around)
