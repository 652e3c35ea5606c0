-- Files and built-in functions go in step, and so do runs.
use Rattle.std.proofs.Common.{◌≡◌, ℕ, suc, ◌+◌, Bool, true, false, List, [], ◌∷◌, ◌++◌, map, Option, Some, None, refl, sym, ap, ap₂, ◌∙◌, subst, if◌then◌else◌, codes, is_some, arith}
use Rattle.std.specs.Prelude.{option_map, option_and_then, slice_get, position, find, filter, not, nat_eq, ◌==◌}
use Rattle.std.proofs.lemmas.List.{length_push, length-set, length-map}
use Rattle.std.specs.List.{AllZip, position_or_len}
use Rattle.std.specs.Str.{bytes_eq}
use Rattle.js_tree.specs.Plain.{Stmt, DoWhile, While, For, ForIn, ForOf, EnteredStmt, Stmts}
use Rattle.js_tree.specs.Plain.{File, MakeFile}
use Rattle.js_value.specs.declared.value.Value.{Value}
use Rattle.js_value.specs.State.{Heap, Store, Cached, Requiring, ObjectKind, BuiltIn}
use Rattle.js_value.specs.Running.{on_heap, start, cached}
use Rattle.js_value.specs.Realm.{realm, number_of, object}
use Rattle.js_value.specs.Objects.{next_object, new_object, freeze, define}
use Rattle.js_value.specs.State as state
use Rattle.js_value.specs.declared.built_in.Place.TheVariants as place
use Rattle.js_value.specs.declared.built_in.TheConstants.{FUNCTIONS}
use Rattle.js_value.specs.declared.deed.Complaint.TheVariants.{NotAFunction, NoSuchFile}
use Rattle.js_value.specs.Objects as Objects
use Rattle.js_value.specs.Requiring.{required_path, required_from}
use Rattle.js_value.specs.Host.{Native, native_of, native_heap, built_in, utf8_of}
use Rattle.js_value.specs.Iterations.{Iteration}
use Rattle.js_value.specs.Functions.{is_handing}
use Rattle.js_value.specs.OnObjects.{or_undefined}
use Rattle.js_meaning.specs.declared.outcome.Completion.{Completion}
use Rattle.js_meaning.specs.Effects.{Comp, ret, enter, act, handle, Ran, Entry, Start}
use Rattle.js_meaning.specs.Program.{Sources, constructs, Source, file_at}
use Rattle.js_meaning.specs.Scopes.{variable_of, body_scope, body_made}
use Rattle.js_meaning.specs.Meaning as M
use Rattle.js_meaning.specs.Files as F
use Rattle.js_meaning.specs.World.{shown_kind, shown_part, titled, shown_object, shown_units, end_of_completion}
use Rattle.js_meaning.specs.declared.outcome.End.TheVariants.{Threw}
use Rattle.js_two_runs.specs.Pairs.{Paired}
use Rattle.js_two_runs.specs.TwoRuns.{InBoth, neither, both, Related, plain, refs, AllRelated}
use Rattle.js_two_runs.proofs.TwoHeapsSeen.{seen as heaps_seen, get-alike}
use Rattle.js_two_runs.specs.TwoHeaps.{plains, AlikeKinds, arrays, errors, patterns, built_ins, functions}
use Rattle.js_two_runs.specs.TwoCalls.{RelatedNatives, answers, throws, refuses, writes, calls, requires, native_pairs}
use Rattle.js_two_runs.proofs.TwoCallsLemmas.{done-alike, call-heaps, call-answers, call-keeps}
use Rattle.js_two_runs.proofs.TwoCallsKept.{call-kept}
use Rattle.js_two_runs.proofs.TwoHeapsLater.{freeze-alike}
use Rattle.js_two_runs.proofs.PairsLemmas.{subst2}
use Rattle.js_suits.specs.Suits.{SuitsStmt, is_marked}
use Rattle.js_suits.specs.Rewritten.{counted, rewritten_stmt, rewritten_stmts}
use Rattle.js_suits.specs.Settings.{Home, Outside, Within, World, Setting, Fresh}
use Rattle.js_suits.specs.Programs.{home_of, instrumented_file, instrumented_source, instrumented_sources, instrumented, SuitsFile}
use Rattle.js_lockstep.specs.Worlds.{Later, Around, held, AlikeNames, no_names, more_names, AlikeStores, AlikeCompletions, normals, breaks, continues, returns, IsOutside, AlikeFunctions, AlikeCached, AlikeRequiring, AlikeRuns, complete, refused, stopped}
use Rattle.js_lockstep.specs.Worlds as worlds
use Rattle.js_lockstep.specs.Counters.{Keeps, Counts, Coded}
use Rattle.js_lockstep.specs.Trees as trees
use Rattle.js_lockstep.specs.Trees.{AlikeEntries, turns, passes, FreshTurn, AlikeIterations, InStep, rets, enters, steps, calls as calls_entry, news, built_ins as built_ins_entry}
use Rattle.js_lockstep.proofs.Instrumented.{instrumented_at}
use Rattle.js_lockstep.proofs.Opening.{opening_stores, opening_grown}
use Rattle.js_lockstep.proofs.Rules.{later_again, handle_step, then_step, looks_step, acts, Insides, in_step}
use Rattle.js_lockstep.proofs.Later.{around_later}
use Rattle.js_lockstep.proofs.Heaps.{apart_from_root, Both, Grown, grown_again, both_of, stores_grown, new_grown, objects_grown, define_grown}
use Rattle.js_lockstep.proofs.Primitives.{give_step, done_step, if_step, grown_step, within_step, complain_step, after_turn_step, throw_step}
use Rattle.js_lockstep.specs.Programs.{Starts, SameRuns, RunsInStep}
use Rattle.js_lockstep.proofs.Rules as rules
use Rattle.js_lockstep.proofs.Scopes.{made_then, scope_opened_in}
use Rattle.js_lockstep.proofs.Root.{root_written}
use Rattle.js_lockstep.proofs.Alone.{alone_heap, alone_set, freeze_same, root_heap}
use Rattle.js_lockstep.proofs.Bodies.{same_constructs, list_body, body_grown, after_call_step, call_code_step, construct_code_step, all_stmts}
use Rattle.js_lockstep.proofs.Statements.{stmt_all}
use Rattle.js_lockstep.proofs.Statements as statements

position_or_len-map : {X Y : Type 0} (p : Y → Bool) (f : X → Y) (xs : List X) → position_or_len p (map f xs) ≡ position_or_len (λ x. p (f x)) xs
position_or_len-map p f [] = refl
position_or_len-map p f (x ∷ xs) = rw (position_or_len-map p f xs) refl

position-map : {X Y : Type 0} (p : Y → Bool) (f : X → Y) (xs : List X) → position p (map f xs) ≡ position (λ x. p (f x)) xs
position-map p f xs = rw (position_or_len-map p f xs, length-map xs f) refl

module _ (c : Setting) (k : Keeps c) (fresh : Fresh c) (p q : Sources) (counting : Counts c q) (coded : Coded c p q) where
  abbrev Step : World → Comp → Comp → Type 0
  Step = InStep c p q

  -- Files

  -- the objects of a file
  pub record FileMade (w : World) (a b d e : Heap) : Type 0 where
    pub grown : Grown c w a b d e
    pub exports : Paired grown.v.objects (next_object a) (next_object b)
    pub module_ : Paired grown.v.objects (next_object a + 1) (next_object b + 1)
    pub require : Paired grown.v.objects (next_object a + 2) (next_object b + 2)

  freeze_grown : (w : World) (a b : Heap) (o n : ℕ) → Both c w a b → Paired w.objects o n → Grown c w a b (freeze o a) (freeze n b)
  freeze_grown w a b o n x i = objects_grown c w a b x w.objects (λ o n i. i) _ _ refl refl (freeze-alike w.objects (AlikeFunctions c w) a b o n x.heaps i) (alone_set w.objects o n _ b i) (root_written n _ b (freeze_same (Objects.object_at b n)))

  parent_pair : (w : World) {a b : Heap} → Both c w a b → InBoth (Paired w.objects) (Some (number_of place.ObjectPrototype)) (Some (number_of place.ObjectPrototype))
  parent_pair w x = both _ _ (x.heaps.built_in (number_of place.ObjectPrototype) (omega arith) (λ e. omega arith))

  abbrev plain_made : Heap → Heap
  plain_made h = new_object state.Plain (Some (number_of place.ObjectPrototype)) h

  abbrev exports_made : Heap → Heap
  exports_made h = define (next_object h + 1) (Objects.assigned (codes "exports") (object (next_object h))) (plain_made (plain_made h))

  second_is : (h : Heap) → next_object (plain_made h) ≡ next_object h + 1
  second_is h = length_push h.objects _

  third_is : (h : Heap) → next_object (exports_made h) ≡ next_object h + 2
  third_is h = length-set (plain_made (plain_made h)).objects _ _ ∙ length_push (plain_made h).objects _ ∙ (let e = second_is h in let z : next_object (plain_made h) + 1 ≡ next_object h + 2 = omega (arith, e) in z)

  pub file_objects_made : (w : World) (a b : Heap) → Both c w a b → FileMade w a b (F.file_objects a) (F.file_objects b)
  file_objects_made w a b x =
      let m1 = new_grown c w a b state.Plain state.Plain _ _ x plains (parent_pair w x) in
      let m2 = new_grown c m1.grown.v (plain_made a) (plain_made b) state.Plain state.Plain _ _ m1.grown.both plains (parent_pair m1.grown.v m1.grown.both) in
      let one : Paired m2.grown.v.objects (next_object a + 1) (next_object b + 1) = subst2 (λ o n. Paired m2.grown.v.objects o n) (second_is a) (second_is b) m2.pair in
      let none : Paired m2.grown.v.objects (next_object a) (next_object b) = m2.grown.later.objects _ _ m1.pair in
      let g3 = define_grown c m2.grown.v (plain_made (plain_made a)) (plain_made (plain_made b)) (next_object a + 1) (next_object b + 1) (Objects.assigned (codes "exports") (object (next_object a))) (Objects.assigned (codes "exports") (object (next_object b))) m2.grown.both one (λ e. omega (arith, e)) (record { key = refl; value = refs _ _ none; enumerable = refl; writable = refl }) in
      let m4 = new_grown c g3.v (exports_made a) (exports_made b) (BuiltIn FUNCTIONS) (BuiltIn FUNCTIONS) (Some (number_of place.FunctionPrototype)) (Some (number_of place.FunctionPrototype)) g3.both (built_ins FUNCTIONS) (both _ _ (g3.both.heaps.built_in (number_of place.FunctionPrototype) (omega arith) (λ e. omega arith))) in
      let m5 = made_then c m4 (define_grown c m4.grown.v _ _ (next_object (exports_made a)) (next_object (exports_made b)) _ _ m4.grown.both m4.pair (apart_from_root c g3.both) (record { key = refl; value = plain _; enumerable = refl; writable = refl })) in
      let m6 = made_then c m5 (define_grown c m5.grown.v _ _ (next_object (exports_made a)) (next_object (exports_made b)) _ _ m5.grown.both m5.pair (apart_from_root c g3.both) (record { key = refl; value = plain _; enumerable = refl; writable = refl })) in
      let two : Paired m6.grown.v.objects (next_object a + 2) (next_object b + 2) = subst2 (λ o n. Paired m6.grown.v.objects o n) (third_is a) (third_is b) m6.pair in
      let g7 = freeze_grown m6.grown.v _ _ (next_object a + 2) (next_object b + 2) m6.grown.both two in
      record {
        grown = grown_again c m1.grown (grown_again c m2.grown (grown_again c g3 (grown_again c m6.grown g7)));
        exports = g7.later.objects _ _ (m6.grown.later.objects _ _ (g3.later.objects _ _ none));
        module_ = g7.later.objects _ _ (m6.grown.later.objects _ _ (g3.later.objects _ _ one));
        require = g7.later.objects _ _ two;
      }

  pub cached_more : (w : World) (path : List ℕ) (o n : ℕ) → Paired w.objects o n → (xs ys : List Cached) → AllZip (AlikeCached w) xs ys → AllZip (AlikeCached w) (xs ++ record { path = path; object = o } ∷ []) (ys ++ record { path = path; object = n } ∷ [])
  cached_more w path o n i [] [] rs = (record { path = refl; object = i }, tt)
  cached_more w path o n i [] (b ∷ ys) rs = absurd rs
  cached_more w path o n i (a ∷ xs) [] rs = absurd rs
  cached_more w path o n i (a ∷ xs) (b ∷ ys) rs = (rs.0, cached_more w path o n i xs ys rs.1)

  pub requiring_more : (w : World) (path : List ℕ) (o n : ℕ) → Paired w.objects o n → (xs ys : List Requiring) → AllZip (AlikeRequiring w) xs ys → AllZip (AlikeRequiring w) (xs ++ record { function = o; path = path } ∷ []) (ys ++ record { function = n; path = path } ∷ [])
  requiring_more w path o n i [] [] rs = (record { path = refl; function = i }, tt)
  requiring_more w path o n i [] (b ∷ ys) rs = absurd rs
  requiring_more w path o n i (a ∷ xs) [] rs = absurd rs
  requiring_more w path o n i (a ∷ xs) (b ∷ ys) rs = (rs.0, requiring_more w path o n i xs ys rs.1)

  -- the body of a file that isn't counted
  file_bindings : (h : Home) → IsOutside h → (w : World) (e f : ℕ) → Paired w.objects e f → Paired w.objects (e + 1) (f + 1) → Paired w.objects (e + 2) (f + 2) → AlikeNames c.name w h None
      (variable_of (object e) (codes "exports") ∷ variable_of (object (e + 2)) (codes "require") ∷ variable_of (object (e + 1)) (codes "module") ∷ [])
      (variable_of (object f) (codes "exports") ∷ variable_of (object (f + 2)) (codes "require") ∷ variable_of (object (f + 1)) (codes "module") ∷ [])
  file_bindings (Outside part) z w e f i j l =
      more_names (record { names = refl; other = tt; contents = held (both _ _ (refs _ _ i)); constants = refl })
      (more_names (record { names = refl; other = tt; contents = held (both _ _ (refs _ _ l)); constants = refl })
      (more_names (record { names = refl; other = tt; contents = held (both _ _ (refs _ _ j)); constants = refl }) no_names))
  file_bindings (Within file) z w e f i j l = absurd z

  comp_file_step : (w : World) (tree : File) (file e f : ℕ) → SuitsFile c (Outside (suc file)) tree → Around w (Outside 0) 0 0 → Paired w.objects e f → Paired w.objects (e + 1) (f + 1) → Paired w.objects (e + 2) (f + 2) →
      Step w (F.comp_file p tree e) (F.comp_file q (instrumented_file c false file tree) f)
  comp_file_step w (MakeFile xs comments) file e f su r i j l =
      let body = list_body c k fresh p q counting coded (Outside (suc file)) xs su in
      within_step c k p q (Outside (suc file)) (F.file_made e) (F.file_made f)
      (λ a b x. scope_opened_in c (Outside (suc file)) (Outside 0) tt w a b 0 0 _ _ x r (λ v g. file_bindings (Outside (suc file)) tt v e f (g.objects _ _ i) (g.objects _ _ j) (g.objects _ _ l)))
      (λ v g d d' s. grown_step c k p q (body_made F.file_names (body_scope xs) d) (body_made F.file_names (body_scope (rewritten_stmts c (c.shift (Outside (suc file))) true xs)) d')
      (λ s' t x. body_grown c k fresh p q counting coded (Outside (suc file)) F.file_names (body_scope xs) (body_scope (rewritten_stmts c (c.shift (Outside (suc file))) true xs)) body.scope v s'.heap t.heap d d' (both_of c x) s)
      (λ s' t x. handle_step c p q (body.step _ d d' (around_later (body_grown c k fresh p q counting coded (Outside (suc file)) F.file_names (body_scope xs) (body_scope (rewritten_stmts c (c.shift (Outside (suc file))) true xs)) body.scope v s'.heap t.heap d d' (both_of c x) s).later s))
      (λ u g' a b z. after_call_step c k fresh p q counting coded z)))

  uncounted_step : (w : World) (path : List ℕ) (tree : File) (file : ℕ) → SuitsFile c (Outside (suc file)) tree →
      Step w (F.run_source p (record { path = path; tree = tree; counted = false }) file) (F.run_source q (instrumented_source c file (record { path = path; tree = tree; counted = false })) file)
  uncounted_step w path tree file su = acts c p q (λ s. refl)
      (λ s t x.
      let m = file_objects_made w s.heap t.heap (both_of c x) in
      let y = stores_grown c k s t x m.grown in
      record {
        v = m.grown.v;
        later = m.grown.later;
        alike = record {
          heaps = y.heaps;
          environments = y.environments;
          global = y.global;
          cache = cached_more m.grown.v path _ _ m.module_ _ _ y.cache;
          requiring = requiring_more m.grown.v path _ _ m.require _ _ y.requiring;
          output = y.output;
          hidden = y.hidden;
        };
      })
      (λ s t x. let m = file_objects_made w s.heap t.heap (both_of c x) in comp_file_step m.grown.v tree file (next_object s.heap) (next_object t.heap) su m.grown.both.global m.exports m.module_ m.require)

  module _ (starts : Starts c p q) where
    counted_file : (w : World) (file : ℕ) (source : Source) (xs : Stmts) (comments : List _) → slice_get p.files file ≡ Some source → source.counted ≡ true → source.tree ≡ MakeFile xs comments →
        SuitsFile c (Within file) (MakeFile xs comments) → Step w (enter (Start file) ret) (F.run_source q (instrumented_source c file source) file)
    counted_file w file source xs comments at counted tree su = steps
        (λ s t x. (starts.starts file source at counted xs comments tree w s t x).begun)
        (λ s t x.
        let y = starts.starts file source at counted xs comments tree w s t x in
        subst (λ a. Step y.begun.v a y.begun.b') (sym y.left_is)
        (subst (λ b. Step y.begun.v (handle (M.comp_stmts p xs y.e) F.after_call) b) (sym y.right_is)
        (handle_step c p q (all_stmts c k fresh p q counting coded (Within file) xs su _ _ _ y.around) (λ v g a b r. after_call_step c k fresh p q counting coded r))))

    source_step : (w : World) (file : ℕ) (source : Source) (counted : Bool) → slice_get p.files file ≡ Some source → source.counted ≡ counted → SuitsFile c (home_of counted file) source.tree →
        Step w (if counted then enter (Start file) ret else F.run_source p source file) (F.run_source q (instrumented_source c file source) file)
    source_step w file source true at e su = by_tree source.tree refl su
      where
        by_tree : (tree : File) → source.tree ≡ tree → SuitsFile c (Within file) tree → Step w (enter (Start file) ret) (F.run_source q (instrumented_source c file source) file)
        by_tree (MakeFile xs comments) t su = counted_file w file source xs comments at e t su
    source_step w file source false at e su =
        subst (λ b. Step w (F.run_source p (record { path = source.path; tree = source.tree; counted = b }) file) (F.run_source q (instrumented_source c file (record { path = source.path; tree = source.tree; counted = b })) file)) (sym e)
        (uncounted_step w source.path source.tree file su)

    start_step : (w : World) (file : ℕ) → ((source : Source) → slice_get p.files file ≡ Some source → SuitsFile c (home_of source.counted file) source.tree) → (o : Option Source) → slice_get p.files file ≡ o →
        Step w (F.start_source p o file) (F.start_source q (option_map (instrumented_source c file) o) file)
    start_step w file su None at = done_step c k p q
    start_step w file su (Some source) at = source_step w file source source.counted at refl (su source at)

  -- `require`

  module _ (starting : (w : World) (file : ℕ) → Step w (F.start_file p file) (F.start_file q file)) (same_files : (path : List ℕ) → file_at q path ≡ file_at p path) where
    abbrev object_in : List ℕ → List Cached → Option ℕ
    object_in path xs = option_map (λ (z : Cached). z.object) (find (λ z. bytes_eq z.path path) xs)

    cached_related : (w : World) (path : List ℕ) (xs ys : List Cached) → AllZip (AlikeCached w) xs ys → InBoth (Paired w.objects) (object_in path xs) (object_in path ys)
    cached_related w path [] [] rs = neither
    cached_related w path [] (y ∷ ys) rs = absurd rs
    cached_related w path (x ∷ xs) [] rs = absurd rs
    cached_related w path (x ∷ xs) (y ∷ ys) rs =
        subst (λ z. InBoth (Paired w.objects) (object_in path (x ∷ xs)) (option_map (λ (z : Cached). z.object) (if bytes_eq z path then Some y else find (λ z. bytes_eq z.path path) ys))) (rs.0).path
        (by_test (bytes_eq x.path path) (cached_related w path xs ys rs.1))
      where
        by_test : (b : Bool) → InBoth (Paired w.objects) (object_in path xs) (object_in path ys) →
            InBoth (Paired w.objects) (option_map (λ (z : Cached). z.object) (if b then Some x else find (λ z. bytes_eq z.path path) xs)) (option_map (λ (z : Cached). z.object) (if b then Some y else find (λ z. bytes_eq z.path path) ys))
        by_test true n = both _ _ (rs.0).object
        by_test false n = n

    abbrev path_in : ℕ → List Requiring → Option (List ℕ)
    path_in o xs = option_map (λ (z : Requiring). z.path) (find (λ z. nat_eq z.function o) xs)

    requiring_same : (w : World) (one : (o o' n n' : ℕ) → Paired w.objects o n → Paired w.objects o' n' → (o == o') ≡ (n == n')) (o n : ℕ) → Paired w.objects o n → (xs ys : List Requiring) → AllZip (AlikeRequiring w) xs ys → path_in o xs ≡ path_in n ys
    requiring_same w one o n i [] [] rs = refl
    requiring_same w one o n i [] (y ∷ ys) rs = absurd rs
    requiring_same w one o n i (x ∷ xs) [] rs = absurd rs
    requiring_same w one o n i (x ∷ xs) (y ∷ ys) rs =
        ap (λ b. option_map (λ (z : Requiring). z.path) (if b then Some x else find (λ z. nat_eq z.function o) xs)) (one x.function o y.function n (rs.0).function i)
        ∙ by_test (nat_eq y.function n) (requiring_same w one o n i xs ys rs.1)
      where
        by_test : (b : Bool) → path_in o xs ≡ path_in n ys →
            option_map (λ (z : Requiring). z.path) (if b then Some x else find (λ z. nat_eq z.function o) xs) ≡ option_map (λ (z : Requiring). z.path) (if b then Some y else find (λ z. nat_eq z.function n) ys)
        by_test true e = ap (λ z. Some z) (rs.0).path
        by_test false e = e

    exports_related : (w : World) (a b : Heap) → Both c w a b → (m n : Option ℕ) → InBoth (Paired w.objects) m n → Related (Paired w.objects) (F.exports_in a m) (F.exports_in b n)
    exports_related w a b x _ _ neither = plain _
    exports_related w a b x _ _ (both o n i) = by_got _ _ (get-alike w.objects (AlikeFunctions c w) a b x.heaps o n (codes "exports") i)
      where
        by_got : (m n : Option Value) → InBoth (Related (Paired w.objects)) m n → Related (Paired w.objects) (or_undefined m) (or_undefined n)
        by_got _ _ neither = plain _
        by_got _ _ (both v u r) = r

    exports_step : (w : World) (path : List ℕ) → Step w (F.exports_of path) (F.exports_of path)
    exports_step w path = looks_step c p q (λ s t x. give_step c k p q (exports_related w s.heap t.heap (both_of c x) _ _ (cached_related w path _ _ x.cache)))

    left_cache : (w : World) (path : List ℕ) (xs ys : List Cached) → AllZip (AlikeCached w) xs ys → AllZip (AlikeCached w) (filter (λ z. not (bytes_eq z.path path)) xs) (filter (λ z. not (bytes_eq z.path path)) ys)
    left_cache w path [] [] rs = tt
    left_cache w path [] (y ∷ ys) rs = absurd rs
    left_cache w path (x ∷ xs) [] rs = absurd rs
    left_cache w path (x ∷ xs) (y ∷ ys) rs =
        subst (λ z. AllZip (AlikeCached w) (filter (λ z. not (bytes_eq z.path path)) (x ∷ xs)) (if not (bytes_eq z path) then y ∷ filter (λ z. not (bytes_eq z.path path)) ys else filter (λ z. not (bytes_eq z.path path)) ys)) (rs.0).path
        (by_test (not (bytes_eq x.path path)) (left_cache w path xs ys rs.1))
      where
        by_test : (b : Bool) → AllZip (AlikeCached w) (filter (λ z. not (bytes_eq z.path path)) xs) (filter (λ z. not (bytes_eq z.path path)) ys) →
            AllZip (AlikeCached w) (if b then x ∷ filter (λ z. not (bytes_eq z.path path)) xs else filter (λ z. not (bytes_eq z.path path)) xs) (if b then y ∷ filter (λ z. not (bytes_eq z.path path)) ys else filter (λ z. not (bytes_eq z.path path)) ys)
        by_test true n = (rs.0, n)
        by_test false n = n

    after_start_step : (w : World) (path : List ℕ) {x y : Completion} → AlikeCompletions w x y → Step w (F.after_start path x) (F.after_start path y)
    after_start_step w path (normals r) = exports_step w path
    after_start_step w path (breaks z) = exports_step w path
    after_start_step w path (continues z) = exports_step w path
    after_start_step w path (returns r) = exports_step w path
    after_start_step w path (worlds.throws r) = rules.writes c p q (λ s. refl)
        (λ s t x. record { heaps = x.heaps; environments = x.environments; global = x.global; cache = left_cache w path _ _ x.cache; requiring = x.requiring; output = x.output; hidden = x.hidden })
        (λ s t x. rets (worlds.throws r))

    require_new_step : (w : World) (path : List ℕ) (o : Option ℕ) → Step w (F.require_new p path o) (F.require_new q path o)
    require_new_step w path None = complain_step c k p q NoSuchFile
    require_new_step w path (Some file) = handle_step c p q (starting w file) (λ v g a b t. after_start_step v path t)

    some_same : {R : ℕ → ℕ → Type 0} {m n : Option ℕ} → InBoth R m n → is_some m ≡ is_some n
    some_same neither = refl
    some_same (both a b r) = refl

    require_path_step : (w : World) (s t : Store) → AlikeStores c w s t → (o : Option (List ℕ)) → Step w (F.require_path p s o) (F.require_path q t o)
    require_path_step w s t x None = complain_step c k p q NoSuchFile
    require_path_step w s t x (Some path) =
        subst (λ b. Step w (F.require_path p s (Some path)) (if b then F.exports_of path else F.require_new q path (file_at q path))) (some_same (cached_related w path _ _ x.cache))
        (subst (λ o. Step w (F.require_path p s (Some path)) (if is_some (cached s path) then F.exports_of path else F.require_new q path o)) (sym (same_files path))
        (if_step c k p q (is_some (cached s path)) (exports_step w path) (require_new_step w path (file_at p path))))

    -- Built-in functions

    native_step : (w : World) (callee other : ℕ) → Paired w.objects callee other → {i j : Value → Value → List Value → Comp} →
        ((f g this that : Value) (vs us : List Value) → Related (Paired w.objects) f g → Related (Paired w.objects) this that → AllRelated (Paired w.objects) vs us → Step w (i f this vs) (j g that us)) →
        {a b : Native} → RelatedNatives (Paired w.objects) a b → Step w (F.native p i callee a) (F.native q j other b)
    native_step w callee other m n (answers v u r) = give_step c k p q r
    native_step w callee other m n (throws kind message) = throw_step c k p q kind message
    native_step w callee other m n (refuses kind) = trees.refuses kind
    native_step w callee other m n (writes bytes) = rules.writes c p q (λ s. refl)
        (λ s t a. record { heaps = a.heaps; environments = a.environments; global = a.global; cache = a.cache; requiring = a.requiring; output = ap (λ o. o ++ bytes) a.output; hidden = a.hidden })
        (λ s t a. done_step c k p q)
    native_step w callee other m n (calls f g r this that s vs us rs) = n f g this that vs us r s rs
    native_step w callee other m n (requires units) = looks_step c p q (λ s t x.
        subst (λ o. Step w (F.require_path p s (required_path s callee units)) (F.require_path q t o))
        (ap (option_and_then (λ path. required_from path units)) (requiring_same w (heaps_seen w.objects (AlikeFunctions c w) s.heap t.heap x.heaps).one_to_one callee other m _ _ x.requiring))
        (require_path_step w s t x (required_path s callee units)))

    maker_same : {R : ℕ → ℕ → Type 0} {a b : Option ℕ} → InBoth R a b → is_some a ≡ is_some b
    maker_same neither = refl
    maker_same (both a b r) = refl

    call_native_step : (w : World) (callee other : ℕ) → Paired w.objects callee other → {i j : Value → Value → List Value → Comp} →
        ((v : World) → Later w v → (f g this that : Value) (vs us : List Value) → Related (Paired v.objects) f g → Related (Paired v.objects) this that → AllRelated (Paired v.objects) vs us → Step v (i f this vs) (j g that us)) →
        {maker other_maker : Option ℕ} {this that : Value} {vs us : List Value} (function : ℕ) → InBoth (Paired w.objects) maker other_maker → Related (Paired w.objects) this that → AllRelated (Paired w.objects) vs us →
        Step w (F.call_native p i callee function maker this vs) (F.call_native q j other function other_maker that us)
    call_native_step w callee other z {i} {j} next {maker = maker} {other_maker = other_maker} {this = this} {that = that} {vs = vs} {us = us} n m r rs =
        subst (λ b. Step w (F.call_native p i callee n maker this vs) (act (on_heap (native_heap n b that us)) (λ s. F.native q j other (native_of n b that us s.heap)))) (maker_same m)
        (grown_step c k p q (native_heap n (is_some maker) this vs) (native_heap n (is_some maker) that us)
        (λ s t x. objects_grown c w s.heap t.heap (both_of c x) (native_pairs n (is_some maker) this vs w.objects s.heap t.heap) (λ o l h. call-keeps w.objects n (is_some maker) this vs s.heap t.heap o l h) _ _
        (call-kept n (is_some maker) this vs s.heap) (call-kept n (is_some maker) that us t.heap)
        (call-heaps w.objects (AlikeFunctions c w) s.heap t.heap x.heaps n (is_some maker) this that vs us r rs)
        (alone_heap w.objects s.heap t.heap _ _ (done-alike w.objects (AlikeFunctions c w) s.heap t.heap x.heaps (built_in n) (is_some maker) this that vs us r rs))
        (root_heap (Paired w.objects) t.heap _ _ (done-alike w.objects (AlikeFunctions c w) s.heap t.heap x.heaps (built_in n) (is_some maker) this that vs us r rs)))
        (λ s t x.
        let g : Later w (record w { objects = native_pairs n (is_some maker) this vs w.objects s.heap t.heap }) = record { objects = λ o l h. call-keeps w.objects n (is_some maker) this vs s.heap t.heap o l h; environments = λ e f i. i; home = λ e f i. refl; own = λ e f i. refl } in
        native_step _ callee other (g.objects _ _ z) (next _ g) (call-answers w.objects (AlikeFunctions c w) s.heap t.heap x.heaps n (is_some maker) this that vs us r rs)))

    hand_built_in_step : (w : World) (callee other : ℕ) → Paired w.objects callee other → {this that : Value} {vs us : List Value} (function : ℕ) → Related (Paired w.objects) this that → AllRelated (Paired w.objects) vs us →
        Step w (F.hand_built_in p callee function this vs) (F.hand_built_in q other function that us)
    hand_built_in_step w callee other z n r rs = if_step c k p q (is_handing n)
        (enters (built_ins_entry n z neither r rs) (λ v g a b t. rets t))
        (call_native_step w callee other z (λ v g f l this that vs us r s t. done_step c k p q) n neither r rs)

    hand_kind_step : (w : World) {a b : ObjectKind} {o n : ℕ} {this that : Value} {vs us : List Value} → AlikeKinds w.objects (AlikeFunctions c w) a b → Paired w.objects o n → Related (Paired w.objects) this that → AllRelated (Paired w.objects) vs us →
        Step w (F.hand_kind p a o this vs) (F.hand_kind q b n that us)
    hand_kind_step w plains i r rs = complain_step c k p q NotAFunction
    hand_kind_step w arrays i r rs = complain_step c k p q NotAFunction
    hand_kind_step w errors i r rs = complain_step c k p q NotAFunction
    hand_kind_step w patterns i r rs = complain_step c k p q NotAFunction
    hand_kind_step w (built_ins function) i r rs = hand_built_in_step w _ _ i function r rs
    hand_kind_step w (functions code e other f s) i r rs = call_code_step c k fresh p q counting coded s r rs

    hand_on_step : (w : World) {f g this that : Value} {vs us : List Value} → Related (Paired w.objects) f g → Related (Paired w.objects) this that → AllRelated (Paired w.objects) vs us → Step w (F.hand_on p f this vs) (F.hand_on q g that us)
    hand_on_step w (plain v) r rs = complain_step c k p q NotAFunction
    hand_on_step w (refs o n i) r rs = looks_step c p q (λ s t a. hand_kind_step w (a.heaps.objects.related o.index n.index i).kind i r rs)

    -- Turns

    abbrev constructors : (h : Home) (code other : ℕ) → c.Codes h code other → constructs p code ≡ constructs q other
    constructors = same_constructs c k fresh p q counting coded

    abbrev all_of : (h : Home) (x : Stmt) → SuitsStmt c h x → statements.All c k fresh p q counting constructors h x
    all_of = stmt_all c k fresh p q counting constructors

    turns_step : (h : Home) (x : Stmt) → SuitsStmt c h x → (labels : List (List ℕ)) (w : World) (e f : ℕ) → Around w h e f → FreshTurn x w f → Step w (M.comp_turn p x labels e) (M.comp_turn q (rewritten_stmt c (c.shift h) false x) labels f)
    turns_step h (DoWhile loc x y) su labels w e f r z = handle_step c p q (statements.looped_step c k fresh p q counting constructors h x su.0 (all_of h x su.0) w e f r) (λ v g a b t. after_turn_step c k p q labels
        (then_step c p q (statements.ex c k fresh p q counting constructors h y su.1 v e f (around_later g r)) (λ u g' a b s. statements.turn_step c k fresh p q counting constructors h (DoWhile loc x y) su labels u e f (around_later (later_again g g') r) tt s)) t)
    turns_step h (While loc y x) su labels w e f r z = handle_step c p q (statements.looped_step c k fresh p q counting constructors h x su.1 (all_of h x su.1) w e f r) (λ v g a b t. after_turn_step c k p q labels (statements.while_step c k fresh p q counting constructors h loc y x su labels v e f (around_later g r)) t)
    turns_step h (For loc start y u x) su labels w e f r z = handle_step c p q (statements.looped_step c k fresh p q counting constructors h x su.3 (all_of h x su.3) w e f r) (λ v g a b t. after_turn_step c k p q labels
        (statements.anew_step c k fresh p q counting constructors h start v e f (around_later g r) (λ y. g.own _ _ r.pair ∙ z y) (λ v2 g2 e2 f2 s2 z2.
        then_step c p q (statements.expr_if_step c k fresh p q counting constructors h u su.2 v2 e2 f2 s2) (λ v3 g3 a b t3. statements.turn_if_step c k fresh p q counting constructors h y (For loc start y u x) su.1 su labels v3 e2 f2 (around_later g3 s2) (λ v4 g4 y4. g4.own _ _ (g3.environments _ _ s2.pair) ∙ g3.own _ _ s2.pair ∙ z2 y4)))) t)
    turns_step h (EnteredStmt mark x) su labels w e f r z = absurd z
    turns_step h _ su labels w e f r z = done_step c k p q

    passes_step : (h : Home) (x : Stmt) → SuitsStmt c h x → is_marked c h x ≡ false → (labels : List (List ℕ)) (w : World) (e f d g : ℕ) → Around w h e f → Around w h d g → {a b : Iteration} → AlikeIterations w a b → Step w (M.comp_pass p x labels e d a) (M.comp_pass q (rewritten_stmt c (c.shift h) false x) labels f g b)
    passes_step h (ForIn loc target y x) su um labels w e f d g r r' s = handle_step c p q (statements.looped_step c k fresh p q counting constructors h x su.2 (all_of h x su.2) w d g r') (λ v l a b t. after_turn_step c k p q labels
        (statements.goes_through_step c k fresh p q counting constructors h (ForIn loc target y x) su refl target su.0 labels v e f (around_later l r) (statements.iteration_later c k fresh p q counting constructors l s)) t)
    passes_step h (ForOf loc target y x) su um labels w e f d g r r' s = handle_step c p q (statements.looped_step c k fresh p q counting constructors h x su.2 (all_of h x su.2) w d g r') (λ v l a b t. after_turn_step c k p q labels
        (statements.goes_through_step c k fresh p q counting constructors h (ForOf loc target y x) su refl target su.0 labels v e f (around_later l r) (statements.iteration_later c k fresh p q counting constructors l s)) t)
    passes_step h (EnteredStmt mark x) su um labels w e f d g r r' s = absurd (let z = um in cc)
    passes_step h _ su um labels w e f d g r r' s = done_step c k p q

    -- What a step is for

    inside_entry : (w : World) (e f : Entry) → AlikeEntries c w e f → Step w (F.inside p e) (F.inside q f)
    inside_entry w _ _ (calls_entry z r rs) = call_code_step c k fresh p q counting coded z r rs
    inside_entry w _ _ (news i z rs) = construct_code_step c k fresh p q counting coded i z rs
    inside_entry w _ _ (built_ins_entry {callee = a} {other = b} function i m r rs) = call_native_step w a b i (λ v g f l this that vs us r s t. hand_on_step v r s t) function m r rs
    inside_entry w _ _ (turns {env = d} {other = g} h x labels su r z) = turns_step h x su labels w d g r z
    inside_entry w _ _ (passes {env = d} {other = g} {inner = i} {other_inner = j} h x labels su um r r' s) = passes_step h x su um labels w d g i j r r' s

    pub insides : Insides c p q
    insides = record { at = inside_entry }

-- Ends

module _ (c : Setting) (w : World) (s t : Store) (x : AlikeStores c w s t) where
  kind_same : (a b : ObjectKind) → AlikeKinds w.objects (AlikeFunctions c w) a b → shown_kind a ≡ shown_kind b
  kind_same a b plains = refl
  kind_same a b arrays = refl
  kind_same a b errors = refl
  kind_same a b patterns = refl
  kind_same a b (built_ins n) = refl
  kind_same a b (functions m e n f r) = refl

  part_same : (a b : Option Value) → InBoth (Related (Paired w.objects)) a b → shown_part s.heap a ≡ shown_part t.heap b
  part_same a b neither = refl
  part_same a b (both v u (plain z)) = refl
  part_same a b (both v u (refs o n i)) = kind_same _ _ (x.heaps.objects.related o.index n.index i).kind

  object_same : (o n : ℕ) → Paired w.objects o n → (a b : ObjectKind) → AlikeKinds w.objects (AlikeFunctions c w) a b → shown_object s.heap o a ≡ shown_object t.heap n b
  object_same o n i a b plains = refl
  object_same o n i a b arrays = refl
  object_same o n i a b errors = ap₂ titled
      (part_same _ _ (get-alike w.objects (AlikeFunctions c w) s.heap t.heap x.heaps o n (codes "name") i))
      (part_same _ _ (get-alike w.objects (AlikeFunctions c w) s.heap t.heap x.heaps o n (codes "message") i))
  object_same o n i a b patterns = refl
  object_same o n i a b (built_ins m) = refl
  object_same o n i a b (functions m e l f r) = refl

  units_same : (v u : Value) → Related (Paired w.objects) v u → shown_units s.heap v ≡ shown_units t.heap u
  units_same v u (plain z) = refl
  units_same v u (refs o n i) = object_same o.index n.index i _ _ (x.heaps.objects.related o.index n.index i).kind

  end_same : (a b : Completion) → AlikeCompletions w a b → end_of_completion s.heap a ≡ end_of_completion t.heap b
  end_same a b (normals r) = refl
  end_same a b (breaks label) = refl
  end_same a b (continues label) = refl
  end_same a b (returns r) = refl
  end_same a b (worlds.throws r) = ap (λ us. Threw (utf8_of us)) (units_same _ _ r)

module _ (c : Setting) (k : Keeps c) where
  same_runs : (x y : Ran) → AlikeRuns c x y → SameRuns c x y
  same_runs x y (complete {a = a} {b = b} {s = s} {t = t} w r z) = record { ends = end_same c w s t z a b r; output = z.output; counted = k.tells w _ _ _ z.hidden }
  same_runs x y (refused kind w z) = record { ends = refl; output = z.output; counted = k.tells w _ _ _ z.hidden }
  same_runs x y (stopped z) = record { ends = refl; output = z.output; counted = z.counted }

instrumented_paths : (c : Setting) (sources : List Source) (first : ℕ) → map (λ (s : Source). s.path) (instrumented_sources c first sources) ≡ map (λ (s : Source). s.path) sources
instrumented_paths c [] first = refl
instrumented_paths c (source ∷ sources) first = ap (λ xs. source.path ∷ xs) (instrumented_paths c sources (suc first))

pub runs_in_step : RunsInStep
runs_in_step c p su k file n room =
    let q = instrumented c p in
    let at : (file : ℕ) → slice_get q.files file ≡ option_map (instrumented_source c file) (slice_get p.files file) =
    λ file. instrumented_at c p.files 0 file ∙ ap (λ m. option_map (instrumented_source c m) (slice_get p.files file)) (let e : 0 + file ≡ file = omega arith in e)
    in
    let starting : (w : World) (file : ℕ) → InStep c p q w (F.start_file p file) (F.start_file q file) =
    λ w file. subst (λ o. InStep c p q w (F.start_file p file) (F.start_source q o file)) (sym (at file)) (start_step c k.keeps k.fresh p q k.counts k.coded k.starts w file (su.files file) (slice_get p.files file) refl)
    in
    let same_files : (path : List ℕ) → file_at q path ≡ file_at p path =
    λ path. sym (position-map (λ y. bytes_eq y path) (λ (s : Source). s.path) q.files) ∙ ap (λ ys. position (λ y. bytes_eq y path) ys) (instrumented_paths c p.files 0) ∙ position-map (λ y. bytes_eq y path) (λ (s : Source). s.path) p.files
    in
    let g = opening_grown c k.keeps k.first p.prelude su.prelude in
    same_runs c k.keeps _ _
    (in_step c p q (λ w s t x. record { output = x.output; counted = k.keeps.tells w _ _ _ x.hidden }) (insides c k.keeps k.fresh p q k.counts k.coded starting same_files) n g.v (F.start_file p file) (F.start_file q file)
    (starting g.v file) _ _ (stores_grown c k.keeps realm realm (opening_stores c k.first) g) (omega (arith, room)))
