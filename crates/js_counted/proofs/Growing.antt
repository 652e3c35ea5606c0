-- The environment of a counted file is made in both runs, with its function's name on the right, and then its functions.
use Rattle.std.proofs.Common.{◌≡◌, ◌≢◌, ℕ, ◌+◌, ◌<◌, ◌≤◌, ◌⊎◌, inl, inr, true, List, [], ◌∷◌, ◌++◌, map, length, codes, set, Some, refl, sym, ap, ap₂, ◌∙◌, subst, ⊎_elim, arith}
use Rattle.std.specs.List.{AllZip}
use Rattle.std.specs.Prelude.{slice_get, slice_index_or}
use Rattle.std.proofs.lemmas.List.{length_push, length-set, get_or-set_same, get_or-set_other}
use Rattle.std.proofs.lemmas.Slice.Eq.{bytes_eq-Decides}
use Rattle.js_terms.specs.declared.words.Comment.{Comment}
use Rattle.js_tree.specs.Plain.{MakeFile, Stmts}
use Rattle.js_value.specs.State.{Binding, Environment, Heap, Store}
use Rattle.js_value.specs.Objects.{next_object}
use Rattle.js_value.specs.Environments.{Cell, no_environment, no_binding, next_environment, environment_at, place_in, binding_at, assign_answer, assigned}
use Rattle.js_value.specs.Realm.{global_environment, object, undefined}
use Rattle.js_value.specs.Functions.{name_units}
use Rattle.js_meaning.specs.Program.{Source, Sources, linked}
use Rattle.js_meaning.specs.Scopes.{once, variable_of, names_of, body_scope, body_made, hoisted, lexical_stmts, function_stmts}
use Rattle.js_meaning.specs.VarNames.{var_stmts}
use Rattle.js_meaning.specs.Files.{file_names, file_objects}
use Rattle.js_two_runs.specs.Pairs.{Paired}
use Rattle.js_two_runs.specs.TwoRuns.{both, refs}
use Rattle.js_two_runs.proofs.PairsLemmas.{newest}
use Rattle.js_suits.specs.Rewritten.{rewritten_stmts}
use Rattle.js_suits.specs.Settings.{Within, World, Setting}
use Rattle.js_suits.specs.Suits.{SuitsStmts}
use Rattle.js_suits.specs.Programs.{instrumented_source, Suits}
use Rattle.js_lockstep.specs.Worlds.{Later, Around, AlikeStores, held, GlobalStays, Untouched}
use Rattle.js_lockstep.proofs.Later.{around_later}
use Rattle.js_lockstep.proofs.Rules.{later_again}
use Rattle.js_lockstep.proofs.Heaps.{Both, Grown}
use Rattle.js_lockstep.proofs.Stores.{assigned_name}
use Rattle.js_lockstep.proofs.Scopes.{AlikeHoisted, hoisted_grown}
use Rattle.js_lockstep.proofs.Declares as Declares
use Rattle.js_counter.specs.Starts.{file_bindings, file_store, FileFresh}
use Rattle.js_counter.proofs.Heaps.{pushed, env_of, at_top, below_top, all_declared, scope_is}
use Rattle.js_counter.proofs.Places.{place_named}
use Rattle.js_counter.proofs.Hoists.{closed_grows}
use Rattle.js_counter.proofs.Fresh as Fresh
use Rattle.js_counted.specs.Files.{FileCounters}
use Rattle.js_counted.specs.Holds.{global, coverage_text}
use Rattle.js_counted.specs.Program.{is_counted, counted_program, counters, Prepared}
use Rattle.js_counted.proofs.Alone.{Lasts, lasts_by, lasts_again, OwnStays}
use Rattle.js_counted.proofs.Grows.{FileGrown}
use Rattle.js_counted.proofs.Own.{own_place}
use Rattle.js_counted.proofs.Named.{OwnNames, one_before, own_once}
use Rattle.js_counted.proofs.OwnEnvironments as Env
use Rattle.js_counted.proofs.Beginning as Begin

exports_apart : (more : List ℕ) → codes "exports" ≡ codes "cov_" ++ more → ⊥
exports_apart more e = let z : 0x65 ≡ 0x63 = ap (λ xs. slice_index_or xs 0 0) e in omega (arith, z)

require_apart : (more : List ℕ) → codes "require" ≡ codes "cov_" ++ more → ⊥
require_apart more e = let z : 0x72 ≡ 0x63 = ap (λ xs. slice_index_or xs 0 0) e in omega (arith, z)

module_apart : (more : List ℕ) → codes "module" ≡ codes "cov_" ++ more → ⊥
module_apart more e = let z : 0x6D ≡ 0x63 = ap (λ xs. slice_index_or xs 0 0) e in omega (arith, z)

some_same : {X : Type 0} {a b : X} → Some a ≡ Some b → a ≡ b
some_same e = cc

module _ (files : ℕ → FileCounters) (p : Sources) (pre : Prepared files p) (su : Suits (counters files p) (linked p))
    (file : ℕ) (source : Source) (at : slice_get (linked p).files file ≡ Some source) (counted : source.counted ≡ true) (in_program : is_counted p file ≡ true)
    (xs : Stmts) (comments : List Comment) (tree : source.tree ≡ MakeFile xs comments) (suits : SuitsStmts (counters files p) (Within file) xs)
    (w : World) (s t : Store) (x : AlikeStores (counters files p) w s t) where
  abbrev c : Setting
  c = counters files p

  abbrev q : Sources
  q = counted_program files p

  abbrev src : Source
  src = instrumented_source (counters files p) file source

  abbrev ys : Stmts
  ys = rewritten_stmts (counters files p) ((counters files p).shift (Within file)) true xs

  abbrev name : List ℕ
  name = (files file).name

  abbrev opening : Stmts
  opening = Begin.opening files p pre su file source at counted in_program xs comments tree suits

  abbrev rest : Stmts
  rest = (Begin.parts_of files p pre su file source at counted in_program xs comments tree suits).rest

  pub fresh : FileFresh q opening name (files file).path (files file).hash coverage_text (files file).zero (files file).first ((files file).first + 1) rest t global
  fresh = Begin.file_fresh files p pre su file source at counted in_program xs comments tree suits w s t x

  abbrev h1 : Heap
  h1 = file_objects s.heap

  abbrev k1 : Heap
  k1 = file_objects t.heap

  -- after the objects of the file
  module _ (v1 : World) (b1 : Both (counters files p) v1 h1 k1) (exports : Paired v1.objects (next_object s.heap) (next_object t.heap))
      (require : Paired v1.objects (next_object s.heap + 2) (next_object t.heap + 2)) (module_ : Paired v1.objects (next_object s.heap + 1) (next_object t.heap + 1)) where
    abbrev left : List Binding
    left = file_bindings xs (next_object s.heap)

    abbrev right : List Binding
    right = file_bindings opening (next_object t.heap)

    -- the names of the file
    tail_by : (vs ws : List (List ℕ)) (ls : List Binding) → var_stmts ys ++ names_of (function_stmts ys) ≡ vs → var_stmts ys ++ name ∷ names_of (function_stmts ys) ≡ ws → lexical_stmts xs ≡ ls →
        OwnNames (counters files p) file v1 (map (variable_of undefined) (once file_names vs) ++ lexical_stmts xs) (map (variable_of undefined) (once file_names ws) ++ ls)
    tail_by vs ws ls e f g =
        subst (λ ls. OwnNames (counters files p) file v1 (map (variable_of undefined) (once file_names vs) ++ lexical_stmts xs) (map (variable_of undefined) (once file_names ws) ++ ls)) g
        (subst (λ ws. OwnNames (counters files p) file v1 (map (variable_of undefined) (once file_names vs) ++ lexical_stmts xs) (map (variable_of undefined) (once file_names ws) ++ lexical_stmts xs)) f
        (subst (λ vs. OwnNames (counters files p) file v1 (map (variable_of undefined) (once file_names vs) ++ lexical_stmts xs)
        (map (variable_of undefined) (once file_names (var_stmts ys ++ name ∷ names_of (function_stmts ys))) ++ lexical_stmts xs)) e
        (own_once (counters files p) file v1 (var_stmts ys) (names_of (function_stmts ys)) file_names (lexical_stmts xs)
        (Begin.vars_free files p pre su file source at counted in_program xs comments tree suits) (Begin.functions_free files p pre su file source at counted in_program xs comments tree suits)
        (Begin.no_file_name name (pre.named file).0 (pre.named file).1) (Declares.lexical_alike (counters files p) (Within file) xs suits v1))))

    tail : OwnNames (counters files p) file v1 (map (variable_of undefined) (once file_names (body_scope xs).variables) ++ lexical_stmts xs)
        (map (variable_of undefined) (once file_names (body_scope opening).variables) ++ lexical_stmts opening)
    tail = tail_by (body_scope xs).variables (body_scope opening).variables (lexical_stmts opening)
        (ap₂ (λ (a b : List (List ℕ)). a ++ b) (Declares.var_names (counters files p) (Within file) true xs)
        (Declares.names_same (counters files p) (Within file) (function_stmts xs) (function_stmts ys) (Begin.functions_alike files p pre su file source at counted in_program xs comments tree suits)))
        (sym (ap₂ (λ (a b : List (List ℕ)). a ++ b) (Begin.opening_vars files p pre su file source at counted in_program xs comments tree suits)
        (Begin.opening_functions files p pre su file source at counted in_program xs comments tree suits)))
        (sym (Begin.opening_lexicals files p pre su file source at counted in_program xs comments tree suits ∙ Declares.lexical_same (counters files p) (Within file) true xs))

    not_name : (y more : List ℕ) → name ≡ codes "cov_" ++ more → (y ≡ codes "cov_" ++ more → ⊥) → y ≢ name
    not_name y more is apart e = apart (e ∙ is)

    pub names : OwnNames (counters files p) file v1 left right
    names =
        one_before (counters files p) file (record { names = refl; other = not_name (codes "exports") _ (pre.named file).1 (exports_apart _); contents = held (both _ _ (refs _ _ exports)); constants = refl })
        (one_before (counters files p) file (record { names = refl; other = not_name (codes "require") _ (pre.named file).1 (require_apart _); contents = held (both _ _ (refs _ _ require)); constants = refl })
        (one_before (counters files p) file (record { names = refl; other = not_name (codes "module") _ (pre.named file).1 (module_apart _); contents = held (both _ _ (refs _ _ module_)); constants = refl }) tail))

    -- its environment
    abbrev v2 : World
    v2 = Env.v (counters files p) v1 h1 k1 b1 file names.n left right names.alike

    abbrev h2 : Heap
    h2 = pushed (env_of 0 left) h1

    abbrev base : Heap
    base = pushed (env_of 0 right) k1

    b2 : Both (counters files p) v2 h2 base
    b2 = Env.made (counters files p) v1 h1 k1 b1 file names.n left right names.alike

    pub around2 : Around v2 (Within file) (next_environment h1) (next_environment k1)
    around2 = Env.around (counters files p) v1 h1 k1 b1 file names.n left right names.alike

    pub own2 : v2.own (next_environment k1) ≡ Some names.n
    own2 = Env.is_own (counters files p) v1 h1 k1 b1 file names.n left right names.alike

    -- its function, on the right alone
    abbrev cell : Cell
    cell = Fresh.cell q src file _ name (files file).path (files file).hash coverage_text (files file).zero (files file).first ((files file).first + 1) rest t global fresh

    abbrev k0 : Heap
    k0 = Fresh.k0 q src file _ name (files file).path (files file).hash coverage_text (files file).zero (files file).first ((files file).first + 1) rest t global fresh

    abbrev k3 : Heap
    k3 = Fresh.k1 q src file _ name (files file).path (files file).hash coverage_text (files file).zero (files file).first ((files file).first + 1) rest t global fresh

    place_right : place_in right name ≡ Some names.n
    place_right = own_place (counters files p) v1 file names.n left right names.alike

    abbrev made_place : ℕ
    made_place = (Fresh.named q src file _ name (files file).path (files file).hash coverage_text (files file).zero (files file).first ((files file).first + 1) rest t global fresh).i

    abbrev made_at : place_in right name ≡ Some made_place
    made_at = (Fresh.named q src file _ name (files file).path (files file).hash coverage_text (files file).zero (files file).first ((files file).first + 1) rest t global fresh).at

    same_place : made_place ≡ names.n
    same_place = some_same (sym made_at ∙ place_right)

    abbrev made_binding : Binding
    made_binding = assigned (assign_answer k0 cell) (object (next_object base)) (binding_at k0 cell)

    top_is : environment_at k0 (next_environment k1) ≡ env_of 0 right
    top_is = at_top (env_of 0 right) k1

    named_so : made_binding.name ≡ name
    named_so = assigned_name (counters files p) (assign_answer k0 cell) (object (next_object base)) (binding_at k0 cell)
        ∙ ap (λ (y : Environment). (slice_index_or y.bindings made_place no_binding).name) top_is
        ∙ (bytes_eq-Decides _ name).0 (place_named name right made_place made_at).has

    low0 : next_environment k1 < next_environment k0
    low0 = Fresh.low0 q src file _ name (files file).path (files file).hash coverage_text (files file).zero (files file).first ((files file).first + 1) rest t global fresh

    pub b3 : Both (counters files p) v2 h2 k3
    b3 = Env.both_own (counters files p) v2 h2 base k3 b2 file (next_environment h1) (next_environment k1) names.n around2 own2 made_binding named_so
        (λ o m i. closed_grows (Fresh.shape q src file _ name (files file).path (files file).hash coverage_text (files file).zero (files file).first ((files file).first + 1) rest t global fresh) (name_units name) (next_environment k1) base m (b2.heaps.objects.right_bound o m i))
        (λ d g i. subst (λ n. g < n) (sym (length-set k0.environments (next_environment k1) _)) (b2.environments.right_bound d g i))
        (λ d g i ne. get_or-set_other k0.environments (next_environment k1) g _ no_environment ne)
        (get_or-set_same k0.environments (next_environment k1) _ no_environment low0
        ∙ ap (λ n. record { outer = (environment_at k0 (next_environment k1)).outer; bindings = set (environment_at k0 (next_environment k1)).bindings n made_binding }) same_place)

    -- the functions of the file
    functions : AllZip (AlikeHoisted (counters files p) (Within file)) (function_stmts xs) (function_stmts rest)
    functions = subst (AllZip (AlikeHoisted (counters files p) (Within file)) (function_stmts xs)) (sym (Begin.rest_functions files p pre su file source at counted in_program xs comments tree suits))
        (Begin.functions_alike files p pre su file source at counted in_program xs comments tree suits)

    pub functions_made : Grown (counters files p) v2 h2 k3 (hoisted (function_stmts xs) (next_environment h1) h2) (hoisted (function_stmts rest) (next_environment k1) k3)
    functions_made = hoisted_grown (counters files p) (Within file) (function_stmts xs) (function_stmts rest) functions v2 h2 k3 (next_environment h1) (next_environment k1) b3 around2

    -- these are the heaps in which the statements of the file are run
    pub left_is : (file_store source file xs s).heap ≡ hoisted (function_stmts xs) (next_environment h1) h2
    left_is =
        ap (λ h. body_made file_names (body_scope xs) (next_environment h1) h) (scope_is three 0 h1)
        ∙ ap (λ h. hoisted (function_stmts xs) (next_environment h1) h) (all_declared 0 three (map (variable_of undefined) (once file_names (body_scope xs).variables) ++ lexical_stmts xs) h1)
      where
        three : List Binding
        three = variable_of (object (next_object s.heap)) (codes "exports") ∷ variable_of (object (next_object s.heap + 2)) (codes "require") ∷ variable_of (object (next_object s.heap + 1)) (codes "module") ∷ []

    pub right_is : (file_store src file opening t).heap ≡ hoisted (function_stmts rest) (next_environment k1) k3
    right_is = Fresh.heap_last q src file _ name (files file).path (files file).hash coverage_text (files file).zero (files file).first ((files file).first + 1) rest t global fresh

    -- what was there before
    environment_same : (g : ℕ) → g < next_environment k1 → environment_at k3 g ≡ environment_at k1 g
    environment_same g low =
        get_or-set_other k0.environments (next_environment k1) g _ no_environment (λ z. omega (arith, low, z))
        ∙ below_top (env_of 0 right) k1 g low

    environment_low : (g : ℕ) → g < next_environment k1 → g < next_environment k3
    environment_low g low = subst (λ n. g < n) (sym (length-set k0.environments (next_environment k1) _))
        (let l = length_push k1.environments (env_of 0 right) in let z : g < length (k1.environments ++ env_of 0 right ∷ []) = omega (arith, l, low) in z)

    lasts_made : Lasts v1 v2 k1 k3
    lasts_made = record {
      objects = λ o low apart.
          let g = closed_grows (Fresh.shape q src file _ name (files file).path (files file).hash coverage_text (files file).zero (files file).first ((files file).first + 1) rest t global fresh) (name_units name) (next_environment k1) base o low in
          (apart, g.0, g.1);
      environments = λ g low apart. (λ d i. ⊎_elim (λ z. omega (arith, low, z.1)) (λ j. apart d j) (newest i), environment_low g low, environment_same g low);
    }

    later2 : Later v1 v2
    later2 = Env.later (counters files p) v1 h1 k1 b1 file names.n left right names.alike

    module _ (later1 : Later w v1) (untouched1 : Untouched w v1 t.heap k1) where
      own_stays : OwnStays w t.heap (hoisted (function_stmts rest) (next_environment k1) k3)
      own_stays d g n pair is =
          let pair1 = later1.environments d g pair in
          let is1 : v1.own g ≡ Some n = later1.own d g pair ∙ is in
          functions_made.untouched.own d g n (later2.environments d g pair1) (later2.own d g pair1 ∙ is1)
          ∙ ap (λ (y : Environment). slice_index_or y.bindings n no_binding) (environment_same g (b1.environments.right_bound d g pair1))
          ∙ untouched1.own d g n pair is

      inner : (d g m : ℕ) → Paired functions_made.v.environments d g → functions_made.v.own g ≡ Some m → ((d ≡ next_environment h1) × (g ≡ next_environment k1)) ⊎ Paired w.environments d g
      inner d g m i o = ⊎_elim (λ z. inl z) (λ j. inr (untouched1.inner d g m j (sym (functions_made.later.own d g (later2.environments d g j) ∙ later2.own d g j) ∙ o)))
          (newest (functions_made.untouched.inner d g m i o))

      globals : global_environment < next_environment t.heap →
          GlobalStays (environment_at t.heap global_environment).bindings (environment_at (hoisted (function_stmts rest) (next_environment k1) k3) global_environment).bindings
      globals low n at =
          let one = untouched1.global low in
          let there = one.1 n at in
          let same = environment_same global_environment one.0 in
          let two = (functions_made.untouched.global (environment_low global_environment one.0)).1 n (ap (λ (y : Environment). place_in y.bindings (codes "globalThis")) same ∙ there.0) in
          (two.0, two.1 ∙ ap (λ (y : Environment). slice_index_or y.bindings n no_binding) same ∙ there.1)

      grown_so : FileGrown files p file w (next_environment h1) (next_environment k1) s.heap t.heap
          (hoisted (function_stmts xs) (next_environment h1) h2) (hoisted (function_stmts rest) (next_environment k1) k3)
      grown_so = record {
        v = functions_made.v;
        later = later_again later1 (later_again later2 functions_made.later);
        both = functions_made.both;
        module_ = functions_made.later.objects _ _ module_;
        require = functions_made.later.objects _ _ require;
        around = around_later functions_made.later around2;
        n = names.n;
        own = functions_made.later.own _ _ around2.pair ∙ own2;
        new = let z : next_environment t.heap ≤ next_environment t.heap = omega arith in z;
        lasts = lasts_again (lasts_by untouched1) (lasts_again lasts_made (lasts_by functions_made.untouched));
        own_stays = own_stays;
        inner = inner;
        globals = globals;
      }

      pub file_grown : FileGrown files p file w (next_environment h1) (next_environment k1) s.heap t.heap (file_store source file xs s).heap (file_store src file opening t).heap
      file_grown = subst (λ h. FileGrown files p file w (next_environment h1) (next_environment k1) s.heap t.heap h (file_store src file opening t).heap) (sym left_is)
          (subst (λ k. FileGrown files p file w (next_environment h1) (next_environment k1) s.heap t.heap (hoisted (function_stmts xs) (next_environment h1) h2) k) (sym right_is) grown_so)
