-- The stores that stand when a program begins are alike.
use Rattle.std.proofs.Common.{◌≡◌, ℕ, Bool, true, false, ◌&&◌, ◌||◌, List, [], ◌∷◌, ◌++◌, length, get_or, Option, Some, None, refl, sym, ◌∙◌, subst, ⊎_elim, ◌⊎◌, inl, inr, arith, codes}
use Rattle.std.specs.Str.{bytes_eq}
use Rattle.std.proofs.lemmas.Slice.Eq.{bytes_eq-Decides}
use Rattle.js_tree.specs.Codes.{OfMethod}
use Rattle.js_tree.specs.Plain.{VariableDeclaration, Declarators, no_declarator, more_declarator, MakeDeclarator, BindingIdentifier, none_expr, some_expr, Expr, ObjectLiteral, Parenthesized, Entered, Stmt, Expression, EnteredStmt, Stmts, no_stmt, more_stmt, Properties, no_property, more_property, Property, Shorthand, KeyValue, Method, NameKey, StringKey, NumberKey, ComputedKey, File, MakeFile, Function}
use Rattle.js_value.specs.declared.value.Value.{Value}
use Rattle.js_value.specs.declared.built_in.Place.TheVariants as place
use Rattle.js_value.specs.State.{Binding, Heap}
use Rattle.js_value.specs.Environments.{no_environment}
use Rattle.js_value.specs.Realm as realm
use Rattle.js_value.specs.Realm.{number_of, built_in_count, opening}
use Rattle.js_value.specs.Objects.{object_at, next_object, freeze}
use Rattle.js_value.specs.Functions.{name_units}
use Rattle.js_meaning.specs.Scopes.{shape_of}
use Rattle.js_meaning.specs.Prelude as M
use Rattle.js_two_runs.specs.Pairs.{Paired, here}
use Rattle.js_two_runs.specs.TwoRuns.{InBoth, neither, both, Related, refs}
use Rattle.js_two_runs.proofs.PairsLemmas.{newest}
use Rattle.js_two_runs.proofs.TwoHeapsOpened.{is_own_value, value-itself, opening-alike}
use Rattle.js_two_runs.proofs.TwoHeapsLater.{freeze-alike}
use Rattle.cov_rewritten.specs.Rewritten.{expr_marks, stmt_marks, hoisted_marks, first_marks, of_function, is_anonymous, joined}
use Rattle.js_suits.specs.Rewritten.{counted, counts, rewritten_expr, rewritten_function, rewritten_stmt, rewritten_stmts, rewritten_property, rewritten_properties}
use Rattle.js_suits.specs.Suits.{SuitsExpr, SuitsFunction, SuitsStmt, SuitsStmts, SuitsProperty, SuitsProperties, SuitsDeclarators}
use Rattle.js_suits.specs.Settings.{Outside, World, Setting}
use Rattle.js_suits.specs.Programs.{SuitsFile, instrumented_prelude}
use Rattle.js_lockstep.specs.Worlds.{held, global_this, AlikeBindings, AlikeNames, no_names, more_names, AlikeOuter, no_outer, AlikeEnvironments, AlikeFunctions, AlikeStores}
use Rattle.js_lockstep.specs.Counters.{Keeps}
use Rattle.js_lockstep.specs.Programs.{first_world}
use Rattle.js_lockstep.proofs.Root.{root_written}
use Rattle.js_lockstep.proofs.Alone.{alone_set, freeze_same}
use Rattle.js_lockstep.proofs.Heaps.{Both, Grown, grown_same, grown_again, objects_grown, define_grown, both_of}
use Rattle.js_lockstep.proofs.Scopes.{closed_made, shape_alike}

-- a name that holds no object but a built-in one, or that of the global object
abbrev is_closed_name : ℕ → Binding → Bool
is_closed_name n b = bytes_eq b.name (codes "globalThis") || elim b.value [ None ↦ true | Some v ↦ is_own_value n v ]

abbrev are_closed_names : ℕ → List Binding → Bool
are_closed_names n [] = true
are_closed_names n (b ∷ bs) = is_closed_name n b && are_closed_names n bs

first_environment : (get_or opening.environments 0 no_environment).outer ≡ None
unfolding realm.opening realm.each realm.freeze_all realm.rows realm.named_errors realm.named_objects
first_environment = refl

first_closed : are_closed_names built_in_count (get_or opening.environments 0 no_environment).bindings ≡ true
unfolding realm.opening realm.each realm.freeze_all realm.rows realm.named_errors realm.named_objects
first_closed = refl

one_environment : length opening.environments ≡ 1
unfolding realm.opening realm.each realm.freeze_all realm.rows realm.named_errors realm.named_objects
one_environment = refl

either_true : (a b : Bool) → (a || b) ≡ true → (a ≡ true) ⊎ (b ≡ true)
either_true true b e = inl refl
either_true false b e = inr e

both_left : (a b : Bool) → (a && b) ≡ true → a ≡ true
both_left a b e = grind arith

both_right : (a b : Bool) → (a && b) ≡ true → b ≡ true
both_right a b e = grind arith

module _ (c : Setting) (h : c.Hidden first_world [] [] opening) where
  value_held : (v : Option Value) → elim v [ None ↦ true | Some w ↦ is_own_value built_in_count w ] ≡ true → InBoth (Related (Paired first_world.objects)) v v
  value_held None e = neither
  value_held (Some v) e = both v v (value-itself built_in_count (AlikeFunctions c first_world) v e)

  binding_itself : (b : Binding) → is_closed_name built_in_count b ≡ true → AlikeBindings c.name first_world (Outside 0) b b
  binding_itself b e = record {
    names = refl;
    other = tt;
    contents = ⊎_elim (λ t. global_this ((bytes_eq-Decides b.name (codes "globalThis")).0 t)) (λ t. held (value_held b.value t)) (either_true _ _ e);
    constants = refl;
  }

  names_itself : (bs : List Binding) → are_closed_names built_in_count bs ≡ true → AlikeNames c.name first_world (Outside 0) None bs bs
  names_itself [] e = no_names
  names_itself (b ∷ bs) e = more_names (binding_itself b (both_left _ _ e)) (names_itself bs (both_right _ _ e))

  environment_itself : AlikeEnvironments c.name first_world 0 0 (get_or opening.environments 0 no_environment) (get_or opening.environments 0 no_environment)
  environment_itself = record {
    outer = subst (λ o. AlikeOuter first_world (Outside 0) 0 0 o o) (sym first_environment) (no_outer tt);
    names = names_itself _ first_closed;
  }

  only : (e f : ℕ) → Paired first_world.environments e f → (e ≡ 0) × (f ≡ 0)
  only e f i = ⊎_elim (λ z. z) (λ j. absurd (none j)) (newest i)
    where
      none : {e f : ℕ} → Paired [] e f → ⊥
      none i = elim i [ ]

  pub opening_stores : AlikeStores c first_world realm.realm realm.realm
  opening_stores = record {
    heaps = opening-alike (AlikeFunctions c first_world);
    environments = record {
      related = λ e f i. let z = only e f i in
          subst (λ m. AlikeEnvironments c.name first_world m f (get_or opening.environments m no_environment) (get_or opening.environments f no_environment)) (sym z.0)
          (subst (λ m. AlikeEnvironments c.name first_world 0 m (get_or opening.environments 0 no_environment) (get_or opening.environments m no_environment)) (sym z.1) environment_itself);
      left_bound = λ e f i. let z = only e f i in omega (arith, z.0, one_environment);
      right_bound = λ e f i. let z = only e f i in omega (arith, z.1, one_environment);
      one_right = λ e f g i j. (only e f i).1 ∙ sym (only e g j).1;
      one_left = λ e d f i j. (only e f i).0 ∙ sym (only d f j).0;
    };
    global = record { pair = here; home = refl };
    cache = tt;
    requiring = tt;
    output = refl;
    hidden = h;
  }

-- What is made before the files, in the language itself
module _ (c : Setting) where
  freeze_grown : (w : World) (h l : Heap) (o n : ℕ) → Both c w h l → Paired w.objects o n → Grown c w h l (freeze o h) (freeze n l)
  freeze_grown w h l o n x i = objects_grown c w h l x w.objects (λ o n i. i) _ _ refl refl
      (freeze-alike w.objects (AlikeFunctions c w) h l o n x.heaps i) (alone_set w.objects o n _ l i) (root_written n _ l (freeze_same (object_at l n)))

  method_grown : (w : World) (h l : Heap) (name : List ℕ) (function : Function) → SuitsFunction c (Outside 0) function → Both c w h l →
      Grown c w h l (M.method_made name function h) (M.method_made name (rewritten_function c (c.shift (Outside 0)) function) l)
  method_grown w h l name function su x =
      let m = closed_made c (Outside 0) w h l (shape_of (OfMethod function)) (shape_of (OfMethod (rewritten_function c (c.shift (Outside 0)) function))) (shape_alike c (Outside 0) (OfMethod function) su) (name_units name) 0 0 x x.global in
      let g = freeze_grown m.grown.v _ _ (next_object h) (next_object l) m.grown.both m.pair in
      let g2 = grown_again c m.grown g in
      grown_again c g2 (define_grown c g2.v _ _ (number_of place.ArrayPrototype) (number_of place.ArrayPrototype) _ _ g2.both (g2.both.heaps.built_in (number_of place.ArrayPrototype) (omega arith) (λ e. omega arith)) (λ e. omega arith)
      (record { key = refl; value = refs _ _ (g.later.objects _ _ m.pair); enumerable = refl; writable = refl }))

  property_grown : (w : World) (h l : Heap) (x : Property) → SuitsProperty c (Outside 0) x → Both c w h l →
      Grown c w h l (M.property_made x h) (M.property_made (rewritten_property c (c.shift (Outside 0)) x) l)
  property_grown w h l (Shorthand loc text) su x = grown_same c x
  property_grown w h l (KeyValue loc key e) su x = grown_same c x
  property_grown w h l (Method loc (NameKey name) function) su x = method_grown w h l name function su.1 x
  property_grown w h l (Method loc (StringKey name) function) su x = grown_same c x
  property_grown w h l (Method loc (NumberKey name) function) su x = grown_same c x
  property_grown w h l (Method loc (ComputedKey e) function) su x = grown_same c x

  properties_grown : (w : World) (h l : Heap) (xs : Properties) → SuitsProperties c (Outside 0) xs → Both c w h l →
      Grown c w h l (M.properties_made xs h) (M.properties_made (rewritten_properties c (c.shift (Outside 0)) xs) l)
  properties_grown w h l no_property su x = grown_same c x
  properties_grown w h l (more_property y ys) su x = let g = property_grown w h l y su.0 x in grown_again c g (properties_grown g.v _ _ ys su.1 g.both)

  -- outside there are no marks
  outside_marks : (e : Expr) → SuitsExpr c (Outside 0) e → expr_marks e ≡ []
  outside_marks (Entered mark e) su = absurd (let z = su.0.0 in cc)
  outside_marks _ su = refl

  outside_first : (ds : Declarators) → SuitsDeclarators c (Outside 0) ds → first_marks ds ≡ []
  outside_first no_declarator su = refl
  outside_first (more_declarator (MakeDeclarator loc (BindingIdentifier place x) none_expr) ds) su = refl
  outside_first (more_declarator (MakeDeclarator loc (BindingIdentifier place x) (some_expr e)) ds) su = by_test (is_anonymous e)
    where
      by_test : (b : Bool) → of_function b e ≡ []
      by_test false = refl
      by_test true = outside_marks e (su.0).1.0

  outside_stmt : (x : Stmt) → SuitsStmt c (Outside 0) x → stmt_marks x ++ hoisted_marks true x ≡ []
  outside_stmt (EnteredStmt mark x) su = absurd (let z = su.0.0 in cc)
  outside_stmt (VariableDeclaration loc kind ds) su = outside_first ds su
  outside_stmt _ su = refl

  literal_grown : (w : World) (h l : Heap) (e : Expr) → SuitsExpr c (Outside 0) e → Both c w h l →
      Grown c w h l (M.literal_made e h) (M.literal_made (rewritten_expr c (c.shift (Outside 0)) e) l)
  literal_grown w h l (ObjectLiteral loc properties) su x = properties_grown w h l properties su x
  literal_grown w h l (Parenthesized loc e) su x =
      subst (λ ms. Grown c w h l (M.literal_made e h) (M.literal_made (counted c ms (rewritten_expr c (c.shift (Outside 0)) e)) l)) (sym (outside_marks e su)) (literal_grown w h l e su x)
  literal_grown w h l (Entered mark e) su x = absurd (let z = su.0.0 in cc)
  literal_grown w h l _ su x = grown_same c x

  stmt_grown : (w : World) (h l : Heap) (y : Stmt) (ys zs : Stmts) → SuitsStmt c (Outside 0) y → Both c w h l →
      ((v : World) (a b : Heap) → Both c v a b → Grown c v a b (M.prelude_stmts ys a) (M.prelude_stmts zs b)) →
      Grown c w h l (M.prelude_stmts (more_stmt y ys) h) (M.prelude_stmts (more_stmt (rewritten_stmt c (c.shift (Outside 0)) true y) zs) l)
  stmt_grown w h l (Expression loc e) ys zs su x rest = let g = literal_grown w h l e su.0 x in grown_again c g (rest g.v _ _ g.both)
  stmt_grown w h l (EnteredStmt mark y) ys zs su x rest = absurd (let z = su.0.0 in cc)
  stmt_grown w h l _ ys zs su x rest = rest w h l x

  stmts_grown : (w : World) (h l : Heap) (xs : Stmts) → SuitsStmts c (Outside 0) xs → Both c w h l →
      Grown c w h l (M.prelude_stmts xs h) (M.prelude_stmts (rewritten_stmts c (c.shift (Outside 0)) true xs) l)
  stmts_grown w h l no_stmt su x = grown_same c x
  stmts_grown w h l (more_stmt y ys) su x =
      subst (λ ms. Grown c w h l (M.prelude_stmts (more_stmt y ys) h) (M.prelude_stmts (joined (counts c ms) (more_stmt (rewritten_stmt c (c.shift (Outside 0)) true y) (rewritten_stmts c (c.shift (Outside 0)) true ys))) l)) (sym (outside_stmt y su.0.0))
      (stmt_grown w h l y ys (rewritten_stmts c (c.shift (Outside 0)) true ys) su.0.0 x (λ v a b z. stmts_grown v a b ys su.1 z))

  pub prelude_grown : (w : World) (h l : Heap) (file : File) → SuitsFile c (Outside 0) file → Both c w h l →
      Grown c w h l (M.prelude_made file h) (M.prelude_made (instrumented_prelude c file) l)
  prelude_grown w h l (MakeFile xs comments) su x = stmts_grown w h l xs su x

  pub opening_grown : (k : Keeps c) (first : c.Hidden first_world [] [] opening) (file : File) → SuitsFile c (Outside 0) file → Grown c first_world opening opening (M.prelude_made file opening) (M.prelude_made (instrumented_prelude c file) opening)
  opening_grown k first file su = prelude_grown first_world opening opening file su (both_of c (opening_stores c first))
