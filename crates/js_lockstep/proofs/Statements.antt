-- Statements go in step with their rewriting.
use Rattle.std.proofs.Common.{◌≡◌, ℕ, ◌<◌, Bool, true, false, List, [], ◌∷◌, ◌++◌, map, Option, None, refl, sym, ap, ap₂, ◌∙◌, subst, if◌then◌else◌, arith}
use Rattle.std.proofs.lemmas.List.{append_assoc}
use Rattle.std.specs.List.{AllZip}
use Rattle.js_terms.specs.declared.place.Loc.{Loc}
use Rattle.js_terms.specs.declared.operators.VariableKind.{VariableKind}
use Rattle.js_terms.specs.declared.operators.VariableKind.TheVariants as variable
use Rattle.js_terms.specs.Mark.{Mark}
use Rattle.js_tree.specs.Plain as P
use Rattle.js_tree.specs.Plain.{Entered}
use Rattle.js_tree.specs.Plain.{Expr, Stmt, Directive, Block, VariableDeclaration, Empty, Expression, If, DoWhile, While, For, ForIn, ForOf, Switch, Labelled, TryCatch, TryFinally, TryCatchFinally, Debugger, FunctionDeclaration, EnteredStmt, Stmts, no_stmt, more_stmt, MaybeStmt, none_stmt, some_stmt, entered_none}
use Rattle.js_tree.specs.Plain.{Declarator, MakeDeclarator, Declarators, no_declarator, more_declarator, MaybeExpr, none_expr, some_expr, BindingIdentifier, MaybePattern, none_pattern, some_pattern}
use Rattle.js_tree.specs.Plain.{ForInit, NoInit, InitDeclaration, InitExpression, ForTarget, TargetDeclaration, TargetExpression, Case, MakeCase, EnteredCase, Cases, no_case, more_case, Catch, MakeCatch}
use Rattle.js_value.specs.declared.value.Value.{Value}
use Rattle.js_value.specs.declared.deed.Complaint.TheVariants.{NotAssignable}
use Rattle.js_value.specs.Equality.{strictly_equal}
use Rattle.js_value.specs.State.{Binding, Heap}
use Rattle.js_value.specs.Environments.{environment_at, next_environment, copy_environment}
use Rattle.js_value.specs.Realm.{undefined}
use Rattle.js_value.specs.Iterations.{Iteration, Keys, Taken, keys_of}
use Rattle.js_value.specs.Functions.{name_units}
use Rattle.js_meaning.specs.declared.outcome.Completion.{Completion}
use Rattle.js_meaning.specs.declared.outcome.Completion.TheVariants.{Normal}
use Rattle.js_meaning.specs.Effects.{Construct, Comp, enter, handle}
use Rattle.js_meaning.specs.Program as program
use Rattle.js_meaning.specs.Program.{Sources}
use Rattle.js_meaning.specs.Scopes.{variable_of, lexical_names as lexical, lexical_stmt, lexical_stmts, function_stmt, function_stmts, names_of, Hoisted, Scope, block_scope, init_scope, target_scope, is_fresh, case_stmts, append_stmts, cases_stmts, scope_made, block_made}
use Rattle.js_meaning.specs.Meaning as M
use Rattle.js_meaning.specs.Meaning.{with_value}
use Rattle.js_two_runs.specs.Pairs.{Paired}
use Rattle.js_two_runs.specs.TwoRuns.{InBoth, neither, both, Related, plain}
use Rattle.js_two_runs.proofs.TwoHeapsSeen.{seen as heaps_seen}
use Rattle.cov_rewritten.specs.Rewritten.{is_any, is_anonymous, expr_marks, stmt_marks, arm_marks, hoisted_marks, of_function, first_marks, joined, inside, block_place}
use Rattle.js_suits.specs.Rewritten.{count, counts, counted as counted_value, held as held_in, initial, in_block, looped, arm, begun_case, rewritten_expr, rewritten_expr_if, rewritten_declarator, rewritten_declarators, rewritten_stmt, rewritten_stmts, rewritten_arm, rewritten_for_init, rewritten_for_target, rewritten_case, rewritten_cases, rewritten_catch}
use Rattle.js_suits.specs.Suits.{Bare, DeclaresNothing, ArmDeclaresNothing, SuitsMark, SuitsExpr, SuitsExprIf, SuitsPatternIf, SuitsStmt, SuitsStmts, SuitsStmtIf, SuitsDeclarator, SuitsDeclarators, SuitsForInit, SuitsForTarget, SuitsCase, SuitsCases, SuitsCatch, is_marked_block, is_block, is_marked, is_masked}
use Rattle.js_suits.specs.Settings.{Home, Outside, World, Setting, IsFree, Fresh}
use Rattle.js_lockstep.specs.Worlds.{Later, Around, held, AlikeNames, no_names, more_names, AlikeCompletions, breaks, continues, returns}
use Rattle.js_lockstep.specs.Worlds as worlds
use Rattle.js_lockstep.specs.Counters.{Keeps, Counts}
use Rattle.js_lockstep.specs.Trees as trees
use Rattle.js_lockstep.specs.Trees.{turns, passes, FreshTurn, AlikeIterations, keys as keys_rel, InStep, rets, enters}
use Rattle.js_lockstep.proofs.Rules.{later_same, later_again, handle_step, then_step, looks_step, at_hand}
use Rattle.js_lockstep.proofs.Later.{value_later, around_later, names_later, completion_later}
use Rattle.js_lockstep.proofs.Operators.{strictly_same}
use Rattle.js_lockstep.proofs.Heaps.{Both, Opened, both_of, environment_grown, later_new}
use Rattle.js_lockstep.proofs.Scopes.{lexical_names, names_joined, undefined_names, AlikeHoisted, AlikeScopes, scope_opened, block_opened}
use Rattle.js_lockstep.proofs.Declares as Declares
use Rattle.js_lockstep.proofs.Declares.{bound_same, bound_free, block_scope_alike}
use Rattle.js_lockstep.proofs.Members.{AlikeTaken, keys_of_same, next_of_related, iterated_related}
use Rattle.js_lockstep.proofs.Primitives.{done_step, if_step, grown_step, within_step, complain_step, or_step, write_step, initialize_step, choose_step, after_label_step, after_switch_step, caught_step}
use Rattle.js_lockstep.proofs.Expressions.{counted_step, named_entered, named_step, held_step, bare, expr_step, reference_step, put_value_step}

module _ (c : Setting) (k : Keeps c) (fresh : Fresh c) (p q : Sources) (counting : Counts c q) (same_constructs : (h : Home) (code other : ℕ) → c.Codes h code other → program.constructs p code ≡ program.constructs q other) where
  abbrev pub Step : World → Comp → Comp → Type 0
  Step = InStep c p q

  abbrev pub ex : (h : Home) (x : Expr) → Bare c h (SuitsExpr c h x) x → (w : World) (e f : ℕ) → Around w h e f → Step w (M.comp_expr p x e) (M.comp_expr q (rewritten_expr c (c.shift h) x) f)
  ex h x su w e f r = bare c k fresh p q counting h x su.1 w e f (expr_step c k fresh p q counting same_constructs h x su.0 w e f r)

  -- one that may have marks before it
  abbrev pub value : (h : Home) (x : Expr) → SuitsExpr c h x → (w : World) (e f : ℕ) → Around w h e f → Step w (M.comp_expr p x e) (M.comp_expr q (counted_value c (expr_marks x) (rewritten_expr c (c.shift h) x)) f)
  value = expr_step c k fresh p q counting same_constructs

  -- Declarations

  binds_step : {w : World} {h : Home} {e f : ℕ} {v u : Value} (kind : VariableKind) (x : List ℕ) → IsFree c.name h x → Around w h e f → Related (Paired w.objects) v u → Step w (M.binds kind x e v) (M.binds kind x f u)
  binds_step variable.Var x free r s = write_step c k p q x free r s
  binds_step variable.Let x free r s = initialize_step c k p q x free r s
  binds_step variable.Const x free r s = initialize_step c k p q x free r s

  binds_none_step : {w : World} {h : Home} {e f : ℕ} (kind : VariableKind) (x : List ℕ) → IsFree c.name h x → Around w h e f → Step w (M.binds_none kind x e) (M.binds_none kind x f)
  binds_none_step variable.Var x free r = done_step c k p q
  binds_none_step variable.Let x free r = initialize_step c k p q x free r (plain _)
  binds_none_step variable.Const x free r = initialize_step c k p q x free r (plain _)

  declarator_step : (h : Home) (kind : VariableKind) (d : Declarator) → SuitsDeclarator c h d → (w : World) (e f : ℕ) → Around w h e f → Step w (M.comp_declarator p kind d e) (M.comp_declarator q kind (rewritten_declarator c (c.shift h) false d) f)
  declarator_step h kind (MakeDeclarator loc (BindingIdentifier place x) none_expr) su w e f r = binds_none_step kind x su.0 r
  declarator_step h kind (MakeDeclarator loc (BindingIdentifier place x) (some_expr y)) su w e f r =
      then_step c p q (held_step c k fresh p q counting h x y su.1.0 su.1.1 w e f r (value h y su.1.0 w e f r)) (λ v g a b s. binds_step kind x su.0 (around_later g r) s)

  declarators_step : (h : Home) (kind : VariableKind) (ds : Declarators) → SuitsDeclarators c h ds → (w : World) (e f : ℕ) → Around w h e f → Step w (M.comp_declarators p kind ds e) (M.comp_declarators q kind (rewritten_declarators c (c.shift h) false ds) f)
  declarators_step h kind no_declarator su w e f r = done_step c k p q
  declarators_step h kind (more_declarator d ds) su w e f r = then_step c p q (declarator_step h kind d su.0 w e f r) (λ v g a b s. declarators_step h kind ds su.1 v e f (around_later g r))

  pub expr_if_step : (h : Home) (x : MaybeExpr) → SuitsExprIf c h x → (w : World) (e f : ℕ) → Around w h e f → Step w (M.comp_expr_if p x e) (M.comp_expr_if q (rewritten_expr_if c (c.shift h) x) f)
  expr_if_step h none_expr su w e f r = done_step c k p q
  expr_if_step h (some_expr x) su w e f r = ex h x su w e f r

  returned_step : (h : Home) (x : MaybeExpr) → SuitsExprIf c h x → (w : World) (e f : ℕ) → Around w h e f → Step w (M.returned p x e) (M.returned q (rewritten_expr_if c (c.shift h) x) f)
  returned_step h none_expr su w e f r = rets (returns (plain _))
  returned_step h (some_expr x) su w e f r = then_step c p q (ex h x su w e f r) (λ v g a b s. rets (returns s))

  -- Scopes

  -- where there are names, the environment is new, and no file's own
  abbrev pub Inner : List Binding → World → ℕ → Type 0
  Inner [] v f = Unit {0}
  Inner (b ∷ bs) v f = v.own f ≡ None

  scope_step : (h : Home) (names : List Binding) (fs gs : List Hoisted) → ((w : World) (a b : Heap) (e f : ℕ) → Both c w a b → Around w h e f → Opened c h w a b (block_made names fs e a) (block_made names gs f b)) →
      (w : World) (e f : ℕ) → Around w h e f → {i j : ℕ → Comp} → ((v : World) → Later w v → (e f : ℕ) → Around v h e f → Inner names v f → Step v (i e) (j f)) → Step w (M.in_names names fs e i) (M.in_names names gs f j)
  scope_step h [] fs gs o w e f r n = n w (later_same w) e f r tt
  scope_step h (b ∷ bs) fs gs o w e f r n = grown_step c k p q (block_made (b ∷ bs) fs e) (block_made (b ∷ bs) gs f)
      (λ s t x. (o w s.heap t.heap e f (both_of c x) r).grown)
      (λ s t x. let y = o w s.heap t.heap e f (both_of c x) r in n y.grown.v y.grown.later _ _ y.around y.inner)

  -- one with names alone
  names_step : (h : Home) (names : List Binding) → ((v : World) → AlikeNames c.name v h None names names) → (w : World) (e f : ℕ) → Around w h e f → {i j : ℕ → Comp} →
      ((v : World) → Later w v → (e f : ℕ) → Around v h e f → Inner names v f → Step v (i e) (j f)) → Step w (M.in_names names [] e i) (M.in_names names [] f j)
  names_step h names alike w e f r n = scope_step h names [] [] (λ w a b e f x s. block_opened c h [] [] tt w a b e f names names x s (λ v g. alike v)) w e f r n

  abbrev pub scope_names : Scope → List Binding
  scope_names a = map (variable_of undefined) a.variables ++ a.lexical

  scope_same : (h : Home) (a b : Scope) → AlikeScopes c h a b → scope_names b ≡ scope_names a
  scope_same h a b s = ap₂ (λ (m : List (List ℕ)) (n : List Binding). map (variable_of undefined) m ++ n) s.variables s.lexicals

  scope_alike : (h : Home) (a b : Scope) → AlikeScopes c h a b → (v : World) → AlikeNames c.name v h None (scope_names a) (scope_names a)
  scope_alike h a b s v = names_joined c h v _ _ _ _ (undefined_names c h v _ s.free) (s.lexicals_alike v)

  scopes_step : (h : Home) (a b : Scope) → AlikeScopes c h a b → (w : World) (e f : ℕ) → Around w h e f → {i j : ℕ → Comp} → ((v : World) → Later w v → (e f : ℕ) → Around v h e f → Inner (scope_names a) v f → Step v (i e) (j f)) →
      Step w (M.in_scope a e i) (M.in_scope b f j)
  scopes_step h a b s w e f r {i} {j} n = subst (λ names. Step w (M.in_scope a e i) (M.in_names names b.functions f j)) (sym (scope_same h a b s))
      (scope_step h (scope_names a) a.functions b.functions (λ w y z e f x t. block_opened c h a.functions b.functions s.functions w y z e f (scope_names a) (scope_names a) x t (λ v g. scope_alike h a b s v)) w e f r n)

  block_step : (h : Home) (home : Bool) (xs : Stmts) → SuitsStmts c h xs → (w : World) (e f : ℕ) → Around w h e f → {i j : ℕ → Comp} → ((v : World) → Later w v → (e f : ℕ) → Around v h e f → Step v (i e) (j f)) →
      Step w (M.in_scope (block_scope xs) e i) (M.in_scope (block_scope (rewritten_stmts c (c.shift h) home xs)) f j)
  block_step h home xs su w e f r n = scopes_step h (block_scope xs) (block_scope (rewritten_stmts c (c.shift h) home xs)) (block_scope_alike c h home xs su) w e f r (λ v g e f s z. n v g e f s)

  -- Loops

  fresh_same : (h : Home) (start : ForInit) → is_fresh (rewritten_for_init c (c.shift h) start) ≡ is_fresh start
  fresh_same h NoInit = refl
  fresh_same h (InitDeclaration kind no_declarator) = refl
  fresh_same h (InitDeclaration kind (more_declarator d ds)) = refl
  fresh_same h (InitExpression x) = refl

  init_scope_alike : (h : Home) (start : ForInit) → SuitsForInit c h start → AlikeScopes c h (init_scope start) (init_scope (rewritten_for_init c (c.shift h) start))
  init_scope_alike h NoInit su = record { variables = refl; free = tt; lexicals = refl; lexicals_alike = λ v. no_names; functions = tt }
  init_scope_alike h (InitDeclaration kind no_declarator) su = absurd su
  init_scope_alike h (InitDeclaration kind (more_declarator d ds)) su = record { variables = refl; free = tt; lexicals = ap (lexical kind) (bound_same c h false (more_declarator d ds)); lexicals_alike = λ v. lexical_names c h v kind _ (bound_free c h (more_declarator d ds) su); functions = tt }
  init_scope_alike h (InitExpression x) su = record { variables = refl; free = tt; lexicals = refl; lexicals_alike = λ v. no_names; functions = tt }

  inner_fresh : (h : Home) (start : ForInit) → SuitsForInit c h start → (v : World) (f : ℕ) → Inner (scope_names (init_scope start)) v f → is_fresh start ≡ true → v.own f ≡ None
  inner_fresh h NoInit su v f z t = absurd (let y = t in cc)
  inner_fresh h (InitDeclaration kind no_declarator) su v f z t = absurd su
  inner_fresh h (InitDeclaration variable.Var (more_declarator d ds)) su v f z t = absurd (let y = t in cc)
  inner_fresh h (InitDeclaration variable.Let (more_declarator (MakeDeclarator loc pattern e) ds)) su v f z t = z
  inner_fresh h (InitDeclaration variable.Const (more_declarator d ds)) su v f z t = absurd (let y = t in cc)
  inner_fresh h (InitExpression x) su v f z t = absurd (let y = t in cc)

  copy_opened : (h : Home) (w : World) (a b : Heap) (e f : ℕ) → Both c w a b → Around w h e f → w.own f ≡ None → Opened c h w a b (copy_environment e a) (copy_environment f b)
  copy_opened h w a b e f x r own =
      let there = x.environments.related e f r.pair in
      let outer = subst (λ z. worlds.AlikeOuter w (worlds.outer_home z (w.home f)) e f (environment_at a e).outer (environment_at b f).outer) own there.outer in
      let names = subst (λ z. AlikeNames c.name w (w.home f) z (environment_at a e).bindings (environment_at b f).bindings) own there.names in
      environment_grown c w a b h (environment_at a e).outer (environment_at b f).outer _ _ x
      (further (subst (λ z. worlds.AlikeOuter w z e f (environment_at a e).outer (environment_at b f).outer) r.home outer) (x.environments.left_bound e f r.pair) (x.environments.right_bound e f r.pair))
      (names_later (later_new c w a b h x) (subst (λ z. AlikeNames c.name w z None (environment_at a e).bindings (environment_at b f).bindings) r.home names))
    where
      further : {u v : Option ℕ} → worlds.AlikeOuter w h e f u v → e < next_environment a → f < next_environment b → worlds.AlikeOuter w h (next_environment a) (next_environment b) u v
      further (worlds.no_outer z) lt lt' = worlds.no_outer z
      further (worlds.outers d g h' l l' z s) lt lt' = worlds.outers d g h' (omega (arith, l, lt)) (omega (arith, l', lt')) z s

  pub anew_step : (h : Home) (start : ForInit) (w : World) (e f : ℕ) → Around w h e f → (is_fresh start ≡ true → w.own f ≡ None) → {i j : ℕ → Comp} →
      ((v : World) → Later w v → (e f : ℕ) → Around v h e f → (is_fresh start ≡ true → v.own f ≡ None) → Step v (i e) (j f)) → Step w (M.anew start e i) (M.anew (rewritten_for_init c (c.shift h) start) f j)
  anew_step h start w e f r z {i} {j} n = subst (λ b. Step w (M.anew start e i) (if b then M.within (copy_environment f) j else j f)) (sym (fresh_same h start)) (by_fresh (is_fresh start) refl)
    where
      by_fresh : (b : Bool) → is_fresh start ≡ b → Step w (if b then M.within (copy_environment e) i else i e) (if b then M.within (copy_environment f) j else j f)
      by_fresh true t = grown_step c k p q (copy_environment e) (copy_environment f) (λ s t' x. (copy_opened h w s.heap t'.heap e f (both_of c x) r (z t)).grown)
          (λ s t' x. let y = copy_opened h w s.heap t'.heap e f (both_of c x) r (z t) in n y.grown.v y.grown.later _ _ y.around (λ _. y.inner))
      by_fresh false t = n w (later_same w) e f r z

  pub turn_step : (h : Home) (x : Stmt) → SuitsStmt c h x → (labels : List (List ℕ)) (w : World) (e f : ℕ) → Around w h e f → FreshTurn x w f → {v u : Value} → Related (Paired w.objects) v u →
      Step w (M.turn x labels e v) (M.turn (rewritten_stmt c (c.shift h) false x) labels f u)
  turn_step h x su labels w e f r z s = choose_step c k p q s (enters (turns h x labels su r z) (λ v g a b t. rets t)) (done_step c k p q)

  pub turn_if_step : (h : Home) (y : MaybeExpr) (x : Stmt) → SuitsExprIf c h y → SuitsStmt c h x → (labels : List (List ℕ)) (w : World) (e f : ℕ) → Around w h e f → ((v : World) → Later w v → FreshTurn x v f) →
      Step w (M.turn_if p y x labels e) (M.turn_if q (rewritten_expr_if c (c.shift h) y) (rewritten_stmt c (c.shift h) false x) labels f)
  turn_if_step h none_expr x sy su labels w e f r z = enters (turns h x labels su r (z w (later_same w))) (λ v g a b t. rets t)
  turn_if_step h (some_expr y) x sy su labels w e f r z = then_step c p q (ex h y sy w e f r) (λ v g a b s. turn_step h x su labels v e f (around_later g r) (z v g) s)

  for_init_step : (h : Home) (x : ForInit) → SuitsForInit c h x → (w : World) (e f : ℕ) → Around w h e f → Step w (M.comp_for_init p x e) (M.comp_for_init q (rewritten_for_init c (c.shift h) x) f)
  for_init_step h NoInit su w e f r = done_step c k p q
  for_init_step h (InitDeclaration kind no_declarator) su w e f r = absurd su
  for_init_step h (InitDeclaration kind (more_declarator d ds)) su w e f r = declarators_step h kind (more_declarator d ds) su w e f r
  for_init_step h (InitExpression x) su w e f r = ex h x su w e f r

  pub while_step : (h : Home) (loc : Option Loc) (test : Expr) (body : Stmt) → SuitsStmt c h (While loc test body) → (labels : List (List ℕ)) (w : World) (e f : ℕ) → Around w h e f →
      Step w (M.comp_stmt p (While loc test body) labels e) (M.comp_stmt q (rewritten_stmt c (c.shift h) false (While loc test body)) labels f)
  while_step h loc test body su labels w e f r = then_step c p q (ex h test su.0 w e f r) (λ v g a b s. turn_step h (While loc test body) su labels v e f (around_later g r) tt s)

  for_step : (h : Home) (loc : Option Loc) (start : ForInit) (test update : MaybeExpr) (body : Stmt) → SuitsStmt c h (For loc start test update body) → (labels : List (List ℕ)) (w : World) (e f : ℕ) → Around w h e f →
      Step w (M.comp_stmt p (For loc start test update body) labels e) (M.comp_stmt q (rewritten_stmt c (c.shift h) false (For loc start test update body)) labels f)
  for_step h loc start test update body su labels w e f r =
      scopes_step h (init_scope start) (init_scope (rewritten_for_init c (c.shift h) start)) (init_scope_alike h start su.0) w e f r (λ v g e f s z. then_step c p q (for_init_step h start su.0 v e f s)
      (λ u g' a b t. anew_step h start u e f (around_later g' s) (λ y. g'.own _ _ s.pair ∙ inner_fresh h start su.0 v f z y)
      (λ u' g'' e f s' z'. turn_if_step h test (For loc start test update body) su.1 su labels u' e f s' (λ u'' g''' y. g'''.own _ _ s'.pair ∙ z' y))))

  -- what takes keys and items
  target_scope_alike : (h : Home) (x : ForTarget) → SuitsForTarget c h x → AlikeScopes c h (target_scope x) (target_scope (rewritten_for_target c (c.shift h) x))
  target_scope_alike h (TargetDeclaration kind (BindingIdentifier place x)) su = record { variables = refl; free = tt; lexicals = refl; lexicals_alike = λ v. lexical_names c h v kind (x ∷ []) (su, tt); functions = tt }
  target_scope_alike h (TargetExpression e) su = record { variables = refl; free = tt; lexicals = refl; lexicals_alike = λ v. no_names; functions = tt }

  takes_step : (h : Home) (x : ForTarget) → SuitsForTarget c h x → (w : World) (e f : ℕ) → Around w h e f → {v u : Value} → Related (Paired w.objects) v u → {i j : ℕ → Comp} →
      ((v : World) → Later w v → (e f : ℕ) → Around v h e f → Step v (i e) (j f)) → Step w (M.takes p x e v i) (M.takes q (rewritten_for_target c (c.shift h) x) f u j)
  takes_step h (TargetDeclaration kind (BindingIdentifier place x)) su w e f r s n = names_step h (lexical kind (x ∷ [])) (λ v. lexical_names c h v kind (x ∷ []) (su, tt)) w e f r
      (λ v g e f t z. then_step c p q (binds_step kind x su t (value_later g s)) (λ u g' a b s'. n u (later_again g g') e f (around_later g' t)))
  takes_step h (TargetExpression x) su w e f r s n = reference_step c k fresh p q counting same_constructs h x su.0.0 su.1 w e f r (complain_step c k p q NotAssignable)
      (λ v g a b t. then_step c p q (put_value_step c k fresh p q counting t (around_later g r) (value_later g s)) (λ u g' a' b' s'. n u (later_again g g') e f (around_later (later_again g g') r)))

  pub iteration_later : {w v : World} {a b : Iteration} → Later w v → AlikeIterations w a b → AlikeIterations v a b
  iteration_later g (keys_rel ks s) = keys_rel ks (value_later g s)
  iteration_later g (trees.elements n i) = trees.elements n (g.objects _ _ i)
  iteration_later g (trees.characters units) = trees.characters units

  takes_next_step : (h : Home) (x : Stmt) → SuitsStmt c h x → is_marked c h x ≡ false → (target : ForTarget) → SuitsForTarget c h target → (labels : List (List ℕ)) (w : World) (e f : ℕ) → Around w h e f → {a b : Option Taken} → {l m : Heap} {y : Both c w l m} → InBoth (AlikeTaken c w l m y) a b →
      Step w (M.takes_next p x target labels e a) (M.takes_next q (rewritten_stmt c (c.shift h) false x) (rewritten_for_target c (c.shift h) target) labels f b)
  takes_next_step h x su um target st labels w e f r neither = done_step c k p q
  takes_next_step h x su um target st labels w e f r (both a b t) = takes_step h target st w e f r t.value (λ v g e' f' s. enters (passes h x labels su um (around_later g r) s (iteration_later g t.rest)) (λ u g' a b z. rets z))

  pub goes_through_step : (h : Home) (x : Stmt) → SuitsStmt c h x → is_marked c h x ≡ false → (target : ForTarget) → SuitsForTarget c h target → (labels : List (List ℕ)) (w : World) (e f : ℕ) → Around w h e f → {a b : Iteration} → AlikeIterations w a b →
      Step w (M.goes_through p x target labels e a) (M.goes_through q (rewritten_stmt c (c.shift h) false x) (rewritten_for_target c (c.shift h) target) labels f b)
  goes_through_step h x su um target st labels w e f r s = looks_step c p q (λ y z t. takes_next_step h x su um target st labels w e f r (next_of_related c w y.heap z.heap (both_of c t) _ _ s))

  for_in_step : (h : Home) (loc : Option Loc) (target : ForTarget) (x : Expr) (body : Stmt) → SuitsStmt c h (ForIn loc target x body) → (labels : List (List ℕ)) (w : World) (e f : ℕ) → Around w h e f →
      Step w (M.comp_stmt p (ForIn loc target x body) labels e) (M.comp_stmt q (rewritten_stmt c (c.shift h) false (ForIn loc target x body)) labels f)
  for_in_step h loc target x body su labels w e f r =
      scopes_step h (target_scope target) (target_scope (rewritten_for_target c (c.shift h) target)) (target_scope_alike h target su.0) w e f r (λ v g e' f' s z. then_step c p q (ex h x su.1 v e' f' s) (λ u g' a b t. looks_step c p q (λ y m n.
      subst (λ ks. Step u (M.goes_through p (ForIn loc target x body) target labels e (Keys a (keys_of y.heap a))) (M.goes_through q (rewritten_stmt c (c.shift h) false (ForIn loc target x body)) (rewritten_for_target c (c.shift h) target) labels f (Keys b ks)))
      (keys_of_same c u y.heap m.heap (both_of c n) a b t)
      (goes_through_step h (ForIn loc target x body) su refl target su.0 labels u e f (around_later (later_again g g') r) (keys_rel (keys_of y.heap a) t)))))

  for_of_step : (h : Home) (loc : Option Loc) (target : ForTarget) (x : Expr) (body : Stmt) → SuitsStmt c h (ForOf loc target x body) → (labels : List (List ℕ)) (w : World) (e f : ℕ) → Around w h e f →
      Step w (M.comp_stmt p (ForOf loc target x body) labels e) (M.comp_stmt q (rewritten_stmt c (c.shift h) false (ForOf loc target x body)) labels f)
  for_of_step h loc target x body su labels w e f r =
      scopes_step h (target_scope target) (target_scope (rewritten_for_target c (c.shift h) target)) (target_scope_alike h target su.0) w e f r (λ v g e' f' s z. then_step c p q (ex h x su.1 v e' f' s) (λ u g' a b t. looks_step c p q (λ y m n.
      or_step c k p q (iterated_related c u y.heap m.heap (both_of c n) a b t)
      (λ i j s'. goes_through_step h (ForOf loc target x body) su refl target su.0 labels u e f (around_later (later_again g g') r) s'))))

  -- Cases

  suits_append : (h : Home) (xs ys : Stmts) → SuitsStmts c h xs → SuitsStmts c h ys → SuitsStmts c h (append_stmts xs ys)
  suits_append h no_stmt ys s t = t
  suits_append h (more_stmt x xs) ys s t = (s.0, suits_append h xs ys s.1 t)

  case_suits : (h : Home) (x : Case) → SuitsCase c h x → SuitsStmts c h (case_stmts x)
  case_suits h (MakeCase loc e xs) su = su.1
  case_suits h (EnteredCase mark x) su = case_suits h x su.1

  cases_suits : (h : Home) (xs : Cases) → SuitsCases c h xs → SuitsStmts c h (cases_stmts xs)
  cases_suits h no_case su = tt
  cases_suits h (more_case x xs) su = suits_append h (case_stmts x) (cases_stmts xs) (case_suits h x su.0) (cases_suits h xs su.1)

  lexical_append : (xs ys : Stmts) → lexical_stmts (append_stmts xs ys) ≡ lexical_stmts xs ++ lexical_stmts ys
  lexical_append no_stmt ys = refl
  lexical_append (more_stmt x xs) ys = ap (λ zs. lexical_stmt x ++ zs) (lexical_append xs ys) ∙ sym (append_assoc (lexical_stmt x) (lexical_stmts xs) (lexical_stmts ys))

  functions_append : (xs ys : Stmts) → function_stmts (append_stmts xs ys) ≡ function_stmts xs ++ function_stmts ys
  functions_append no_stmt ys = refl
  functions_append (more_stmt x xs) ys = ap (λ zs. function_stmt x ++ zs) (functions_append xs ys) ∙ sym (append_assoc (function_stmt x) (function_stmts xs) (function_stmts ys))

  counted_lexical : (h : Home) (mark : Mark) (x : Case) → lexical_stmts (case_stmts (begun_case c mark x)) ≡ lexical_stmts (case_stmts x)
  counted_lexical h mark (MakeCase loc e xs) = refl
  counted_lexical h mark (EnteredCase other x) = counted_lexical h mark x

  counted_functions : (h : Home) (mark : Mark) (x : Case) → function_stmts (case_stmts (begun_case c mark x)) ≡ function_stmts (case_stmts x)
  counted_functions h mark (MakeCase loc e xs) = refl
  counted_functions h mark (EnteredCase other x) = counted_functions h mark x

  case_lexical : (h : Home) (x : Case) → lexical_stmts (case_stmts (rewritten_case c (c.shift h) x)) ≡ lexical_stmts (case_stmts x)
  case_lexical h (MakeCase loc e xs) = Declares.lexical_same c h false xs
  case_lexical h (EnteredCase mark x) = counted_lexical h mark (rewritten_case c (c.shift h) x) ∙ case_lexical h x

  case_functions : (h : Home) (x : Case) → SuitsCase c h x → AllZip (AlikeHoisted c h) (function_stmts (case_stmts x)) (function_stmts (case_stmts (rewritten_case c (c.shift h) x)))
  case_functions h (MakeCase loc e xs) su = Declares.functions_alike c h false xs su.1
  case_functions h (EnteredCase mark x) su = subst (AllZip (AlikeHoisted c h) (function_stmts (case_stmts x))) (sym (counted_functions h mark (rewritten_case c (c.shift h) x))) (case_functions h x su.1)

  zip_joined : (h : Home) (xs ys zs ws : List Hoisted) → AllZip (AlikeHoisted c h) xs ys → AllZip (AlikeHoisted c h) zs ws → AllZip (AlikeHoisted c h) (xs ++ zs) (ys ++ ws)
  zip_joined h [] [] zs ws r s = s
  zip_joined h [] (y ∷ ys) zs ws r s = absurd r
  zip_joined h (x ∷ xs) [] zs ws r s = absurd r
  zip_joined h (x ∷ xs) (y ∷ ys) zs ws r s = (r.0, zip_joined h xs ys zs ws r.1 s)

  cases_lexical : (h : Home) (xs : Cases) → lexical_stmts (cases_stmts (rewritten_cases c (c.shift h) xs)) ≡ lexical_stmts (cases_stmts xs)
  cases_lexical h no_case = refl
  cases_lexical h (more_case x xs) = lexical_append (case_stmts (rewritten_case c (c.shift h) x)) (cases_stmts (rewritten_cases c (c.shift h) xs)) ∙ ap₂ (λ (a b : List Binding). a ++ b) (case_lexical h x) (cases_lexical h xs) ∙ sym (lexical_append (case_stmts x) (cases_stmts xs))

  cases_functions : (h : Home) (xs : Cases) → SuitsCases c h xs → AllZip (AlikeHoisted c h) (function_stmts (cases_stmts xs)) (function_stmts (cases_stmts (rewritten_cases c (c.shift h) xs)))
  cases_functions h no_case su = tt
  cases_functions h (more_case x xs) su =
      subst (λ fs. AllZip (AlikeHoisted c h) fs (function_stmts (append_stmts (case_stmts (rewritten_case c (c.shift h) x)) (cases_stmts (rewritten_cases c (c.shift h) xs))))) (sym (functions_append (case_stmts x) (cases_stmts xs)))
      (subst (AllZip (AlikeHoisted c h) (function_stmts (case_stmts x) ++ function_stmts (cases_stmts xs))) (sym (functions_append (case_stmts (rewritten_case c (c.shift h) x)) (cases_stmts (rewritten_cases c (c.shift h) xs))))
      (zip_joined h _ _ _ _ (case_functions h x su.0) (cases_functions h xs su.1)))

  cases_step : (h : Home) (xs : Cases) → SuitsCases c h xs → (w : World) (e f : ℕ) → Around w h e f → {i j : ℕ → Comp} → ((v : World) → Later w v → (e f : ℕ) → Around v h e f → Step v (i e) (j f)) →
      Step w (M.in_scope (block_scope (cases_stmts xs)) e i) (M.in_scope (block_scope (cases_stmts (rewritten_cases c (c.shift h) xs))) f j)
  cases_step h xs su w e f r n =
      let fs = cases_functions h xs su in
      scopes_step h (block_scope (cases_stmts xs)) (block_scope (cases_stmts (rewritten_cases c (c.shift h) xs)))
      (record {
        variables = Declares.names_same c h _ _ fs;
        free = Declares.names_free c h _ _ fs;
        lexicals = cases_lexical h xs;
        lexicals_alike = λ v. Declares.lexical_alike c h (cases_stmts xs) (cases_suits h xs su) v;
        functions = fs;
      }) w e f r (λ v g e f s z. n v g e f s)

  record IsMade (x : Case) : Type 0 where
    loc : Option Loc
    test : MaybeExpr
    xs : Stmts
    is : x ≡ MakeCase loc test xs

  is_made : (h : Home) (x : Case) → IsMade (rewritten_case c (c.shift h) x)
  is_made h (MakeCase loc e xs) = record { loc = loc; test = rewritten_expr_if c (c.shift h) e; xs = rewritten_stmts c (c.shift h) false xs; is = refl }
  is_made h (EnteredCase mark x) = let a = is_made h x in record { loc = a.loc; test = a.test; xs = more_stmt (count c mark) a.xs; is = ap (begun_case c mark) a.is }

  default_same : (h : Home) (x : Case) → M.is_default (rewritten_case c (c.shift h) x) ≡ M.is_default x
  default_same h (MakeCase loc none_expr xs) = refl
  default_same h (MakeCase loc (some_expr e) xs) = refl
  default_same h (EnteredCase mark x) = let a = is_made h x in ap (λ y. M.is_default (begun_case c mark y)) a.is ∙ by_test a.test a.loc a.xs ∙ ap M.is_default (sym a.is) ∙ default_same h x
    where
      by_test : (t : MaybeExpr) (loc : Option Loc) (xs : Stmts) → M.is_default (begun_case c mark (MakeCase loc t xs)) ≡ M.is_default (MakeCase loc t xs)
      by_test none_expr loc xs = refl
      by_test (some_expr e) loc xs = refl

  counted_test : (h : Home) (mark : Mark) (x : Case) (f : ℕ) (u : Value) (a b : Comp) → M.comp_test q (begun_case c mark x) f u a b ≡ M.comp_test q x f u a b
  counted_test h mark (MakeCase loc none_expr xs) f u a b = refl
  counted_test h mark (MakeCase loc (some_expr e) xs) f u a b = refl
  counted_test h mark (EnteredCase other x) f u a b = counted_test h mark x f u a b

  pub test_step : (h : Home) (x : Case) → SuitsCase c h x → (w : World) (e f : ℕ) → Around w h e f → {v u : Value} → Related (Paired w.objects) v u → {a b d g : Comp} → ((v : World) → Later w v → Step v a b) → ((v : World) → Later w v → Step v d g) →
      Step w (M.comp_test p x e v a d) (M.comp_test q (rewritten_case c (c.shift h) x) f u b g)
  test_step h (MakeCase loc none_expr xs) su w e f r s m n = n w (later_same w)
  test_step h (MakeCase loc (some_expr y) xs) su w e f r {v} {u} s {a} {b} {d} {g} m n = then_step c p q (ex h y su.0 w e f r) (λ z g' i j t. at_hand c p q (λ l l' x.
      subst (λ o. Step z (if strictly_equal v i then a else d) (if o then b else g)) (strictly_same (Paired z.objects) (heaps_seen z.objects _ l.heap l'.heap x.heaps).one_to_one v i u j (value_later g' s) t)
      (if_step c k p q (strictly_equal v i) (m z g') (n z g'))))
  test_step h (EnteredCase mark x) su w e f r {v} {u} s {a} {b} {d} {g} m n =
      subst (λ z. Step w (M.comp_test p x e v a d) z) (sym (counted_test h mark (rewritten_case c (c.shift h) x) f u b g)) (test_step h x su.1 w e f r s m n)

  -- Marks before statements

  then_joined : (ms : List Mark) (x y : Stmt) (ys : Stmts) (f : ℕ) → M.comp_stmts q (more_stmt x (joined (counts c ms) (more_stmt y ys))) f ≡ handle (M.comp_stmt q x [] f) (with_value (λ v. M.comp_stmts q (joined (counts c ms) (more_stmt y ys)) f))
  then_joined [] x y ys f = refl
  then_joined (m ∷ ms) x y ys f = refl

  one_then : {w : World} (h : Home) (home : Bool) (x y : Stmt) (xs : Stmts) (e f : ℕ) → Step w (M.comp_stmt p x [] e) (M.comp_stmt q y [] f) →
      ((v : World) → Later w v → Step v (M.comp_stmts p xs e) (M.comp_stmts q (rewritten_stmts c (c.shift h) home xs) f)) →
      Step w (M.comp_stmts p (more_stmt x xs) e) (M.comp_stmts q (more_stmt y (rewritten_stmts c (c.shift h) home xs)) f)
  one_then h home x y no_stmt e f s n = s
  one_then {w = w} h home x y (more_stmt z zs) e f s n =
      subst (λ d. Step w (M.comp_stmts p (more_stmt x (more_stmt z zs)) e) d) (sym (then_joined (stmt_marks z ++ hoisted_marks home z) y (rewritten_stmt c (c.shift h) home z) (rewritten_stmts c (c.shift h) home zs) f)) (then_step c p q s (λ v g a b t. n v g))

  entered_is : (h : Home) (mark : Mark) (x : Stmt) → is_block c h x ≡ false → (labels : List (List ℕ)) (e : ℕ) → M.comp_stmt p (EnteredStmt mark x) labels e ≡ M.entering mark (M.comp_stmt p x labels e)
  entered_is h mark (Block loc xs) z labels e = absurd (let y = z in cc)
  entered_is h mark _ z labels e = refl

  entered_left : (h : Home) (mark : Mark) (x : Stmt) → is_block c h x ≡ false → (xs : Stmts) (e : ℕ) → (i : Completion → Comp) × (M.comp_stmts p (more_stmt (EnteredStmt mark x) xs) e ≡ enter (Construct mark) i) × (i (Normal undefined) ≡ M.comp_stmts p (more_stmt x xs) e)
  entered_left h mark x z no_stmt e = (with_value (λ v. M.comp_stmt p x [] e), entered_is h mark x z [] e, refl)
  entered_left h mark x z (more_stmt y ys) e = (
    (λ o. handle (with_value (λ v. M.comp_stmt p x [] e) o) (with_value (λ v. M.comp_stmts p (more_stmt y ys) e))),
    ap (λ d. handle d (with_value (λ v. M.comp_stmts p (more_stmt y ys) e))) (entered_is h mark x z [] e),
    refl,
  )

  abbrev counted : {w : World} {h : Home} {e f : ℕ} {i : Completion → Comp} (mark : Mark) (xs : Stmts) → SuitsMark c h mark → Around w h e f →
      ((v : World) → Later w v → Step v (i (Normal undefined)) (M.comp_stmts q xs f)) → Step w (enter (Construct mark) i) (M.comp_stmts q (more_stmt (count c mark) xs) f)
  counted mark xs z r n = counted_step c k fresh p q counting mark xs z r n

  listed_mark : {w : World} (h : Home) (mark : Mark) (x : Stmt) → is_block c h x ≡ false → (xs zs : Stmts) (e f : ℕ) → SuitsMark c h mark → Around w h e f →
      ((v : World) → Later w v → Step v (M.comp_stmts p (more_stmt x xs) e) (M.comp_stmts q zs f)) →
      Step w (M.comp_stmts p (more_stmt (EnteredStmt mark x) xs) e) (M.comp_stmts q (more_stmt (count c mark) zs) f)
  listed_mark {w = w} h mark x b xs zs e f z r n =
      let i = entered_left h mark x b xs e in
      subst (λ d. Step w d (M.comp_stmts q (more_stmt (count c mark) zs) f)) (sym i.1)
      (counted mark zs z r (λ v g. subst (λ d. Step v d (M.comp_stmts q zs f)) (sym i.2) (n v g)))

  -- The first initializer of a declaration, where it is an anonymous function: its marks stand before the declaration

  -- a computation, and then the rest of a declaration, and of a list
  abbrev declaring : VariableKind → List ℕ → Declarators → ℕ → Stmts → Comp → Comp
  declaring kind x ds e no_stmt a = handle (handle a (with_value (M.binds kind x e))) (with_value (λ v. M.comp_declarators p kind ds e))
  declaring kind x ds e (more_stmt z zs) a = handle (handle (handle a (with_value (M.binds kind x e))) (with_value (λ v. M.comp_declarators p kind ds e))) (with_value (λ v. M.comp_stmts p (more_stmt z zs) e))

  declaring_is : (loc place l : Option Loc) (kind : VariableKind) (x : List ℕ) (y : Expr) (ds : Declarators) (xs : Stmts) (e : ℕ) →
      M.comp_stmts p (more_stmt (VariableDeclaration loc kind (more_declarator (MakeDeclarator l (BindingIdentifier place x) (some_expr y)) ds)) xs) e ≡ declaring kind x ds e xs (M.named (name_units x) y e (M.comp_expr p y e))
  declaring_is loc place l kind x y ds no_stmt e = refl
  declaring_is loc place l kind x y ds (more_stmt z zs) e = refl

  declaring_enters : (kind : VariableKind) (x : List ℕ) (ds : Declarators) (e : ℕ) (xs : Stmts) (mark : Mark) (a : Comp) →
      (i : Completion → Comp) × (declaring kind x ds e xs (M.entering mark a) ≡ enter (Construct mark) i) × (i (Normal undefined) ≡ declaring kind x ds e xs a)
  declaring_enters kind x ds e no_stmt mark a = ((λ o. declaring kind x ds e no_stmt (with_value (λ v. a) o)), refl, refl)
  declaring_enters kind x ds e (more_stmt z zs) mark a = ((λ o. declaring kind x ds e (more_stmt z zs) (with_value (λ v. a) o)), refl, refl)

  hoist_step : (h : Home) (y target : Expr) → SuitsExpr c h y → is_masked c h y ≡ false → rewritten_expr c (c.shift h) y ≡ target → (kind : VariableKind) (x : List ℕ) (ds : Declarators) (xs ys : Stmts) (w : World) (e f : ℕ) → Around w h e f →
      ((z : Expr) → SuitsExpr c h z → expr_marks z ≡ [] → is_masked c h z ≡ false → rewritten_expr c (c.shift h) z ≡ target → (v : World) → Later w v → Step v (declaring kind x ds e xs (M.named (name_units x) z e (M.comp_expr p z e))) (M.comp_stmts q ys f)) →
      Step w (declaring kind x ds e xs (M.named (name_units x) y e (M.comp_expr p y e))) (M.comp_stmts q (joined (counts c (expr_marks y)) ys) f)
  hoist_step h (Entered mark y) target su o is kind x ds xs ys w e f r n =
      let i = declaring_enters kind x ds e xs mark (M.named (name_units x) y e (M.comp_expr p y e)) in
      subst (λ d. Step w d (M.comp_stmts q (more_stmt (count c mark) (joined (counts c (expr_marks y)) ys)) f)) (sym (ap (declaring kind x ds e xs) (named_entered c k fresh p q counting mark y (name_units x) e) ∙ i.1))
      (counted mark (joined (counts c (expr_marks y)) ys) su.0 r (λ v g. subst (λ d. Step v d (M.comp_stmts q (joined (counts c (expr_marks y)) ys) f)) (sym i.2)
      (hoist_step h y target su.1 o is kind x ds xs ys v e f (around_later g r) (λ z s b m t u g'. n z s b m t u (later_again g g')))))
  hoist_step h y target su o is kind x ds xs ys w e f r n = n y su refl o is w (later_same w)

  abbrev with_initial : (loc place l : Option Loc) → VariableKind → List ℕ → Expr → Declarators → Stmt
  with_initial loc place l kind x z more = VariableDeclaration loc kind (more_declarator (MakeDeclarator l (BindingIdentifier place x) (some_expr z)) more)

  declaration_listed : (h : Home) (loc : Option Loc) (kind : VariableKind) (ds : Declarators) → SuitsDeclarators c h ds → (xs : Stmts) (w : World) (e f : ℕ) → Around w h e f →
      ((v : World) → Later w v → Step v (M.comp_stmts p xs e) (M.comp_stmts q (rewritten_stmts c (c.shift h) true xs) f)) →
      Step w (M.comp_stmts p (more_stmt (VariableDeclaration loc kind ds) xs) e)
      (M.comp_stmts q (joined (counts c (first_marks ds)) (more_stmt (VariableDeclaration loc kind (rewritten_declarators c (c.shift h) true ds)) (rewritten_stmts c (c.shift h) true xs))) f)
  declaration_listed h loc kind no_declarator su xs w e f r n = one_then h true (VariableDeclaration loc kind no_declarator) (VariableDeclaration loc kind no_declarator) xs e f (done_step c k p q) n
  declaration_listed h loc kind (more_declarator (MakeDeclarator l (BindingIdentifier place x) none_expr) ds) su xs w e f r n =
      one_then h true (VariableDeclaration loc kind (more_declarator (MakeDeclarator l (BindingIdentifier place x) none_expr) ds)) (VariableDeclaration loc kind (more_declarator (MakeDeclarator l (BindingIdentifier place x) none_expr) (rewritten_declarators c (c.shift h) false ds))) xs e f
      (declarators_step h kind (more_declarator (MakeDeclarator l (BindingIdentifier place x) none_expr) ds) su w e f r) n
  declaration_listed h loc kind (more_declarator (MakeDeclarator l (BindingIdentifier place x) (some_expr y)) ds) su xs w e f r n = by_test (is_anonymous y) refl
    where
      by_test : (b : Bool) → is_anonymous y ≡ b → Step w (M.comp_stmts p (more_stmt (with_initial loc place l kind x y ds) xs) e)
          (M.comp_stmts q (joined (counts c (of_function b y)) (more_stmt (with_initial loc place l kind x (initial c true b x (expr_marks y) (rewritten_expr c (c.shift h) y)) (rewritten_declarators c (c.shift h) false ds)) (rewritten_stmts c (c.shift h) true xs))) f)
      by_test false z = one_then h true (with_initial loc place l kind x y ds) (with_initial loc place l kind x (held_in c false x (expr_marks y) (rewritten_expr c (c.shift h) y)) (rewritten_declarators c (c.shift h) false ds)) xs e f
          (then_step c p q
          (then_step c p q
          (subst (λ b. Step w (M.named (name_units x) y e (M.comp_expr p y e)) (M.named (name_units x) (held_in c b x (expr_marks y) (rewritten_expr c (c.shift h) y)) f (M.comp_expr q (held_in c b x (expr_marks y) (rewritten_expr c (c.shift h) y)) f))) z
          (held_step c k fresh p q counting h x y (su.0).1.0 (su.0).1.1 w e f r (value h y (su.0).1.0 w e f r)))
          (λ v g a b s. binds_step kind x (su.0).0 (around_later g r) s))
          (λ v g a b s. declarators_step h kind ds su.1 v e f (around_later g r))) n
      by_test true z =
          subst (λ d. Step w d (M.comp_stmts q (joined (counts c (expr_marks y)) (more_stmt (with_initial loc place l kind x (rewritten_expr c (c.shift h) y) (rewritten_declarators c (c.shift h) false ds)) (rewritten_stmts c (c.shift h) true xs))) f)) (sym (declaring_is loc place l kind x y ds xs e))
          (hoist_step h y (rewritten_expr c (c.shift h) y) (su.0).1.0 (su.0).1.1.0 refl kind x ds xs (more_stmt (with_initial loc place l kind x (rewritten_expr c (c.shift h) y) (rewritten_declarators c (c.shift h) false ds)) (rewritten_stmts c (c.shift h) true xs)) w e f r
          (λ a s b m t v g.
          subst (λ d. Step v d (M.comp_stmts q (more_stmt (with_initial loc place l kind x (rewritten_expr c (c.shift h) y) (rewritten_declarators c (c.shift h) false ds)) (rewritten_stmts c (c.shift h) true xs)) f)) (declaring_is loc place l kind x a ds xs e)
          (subst (λ d. Step v (M.comp_stmts p (more_stmt (with_initial loc place l kind x a ds) xs) e) (M.comp_stmts q (more_stmt (with_initial loc place l kind x d (rewritten_declarators c (c.shift h) false ds)) (rewritten_stmts c (c.shift h) true xs)) f)) t
          (one_then h true (with_initial loc place l kind x a ds) (with_initial loc place l kind x (rewritten_expr c (c.shift h) a) (rewritten_declarators c (c.shift h) false ds)) xs e f
          (then_step c p q
          (then_step c p q (named_step c k fresh p q counting h a s b m (name_units x) v e f (around_later g r) (ex h a (s, b) v e f (around_later g r))) (λ u g' i j s'. binds_step kind x (su.0).0 (around_later (later_again g g') r) s'))
          (λ u g' i j s'. declarators_step h kind ds su.1 u e f (around_later (later_again g g') r)))
          (λ u g'. n u (later_again g g'))))))

  -- an arm that is a block, with a mark: both are entered where the block has made its names
  marked_block : (h : Home) (mark : Mark) (xs : Stmts) → SuitsMark c h mark → SuitsStmts c h xs → (w : World) (e f : ℕ) → Around w h e f →
      ((v : World) → Later w v → (e f : ℕ) → Around v h e f → Step v (M.comp_stmts p xs e) (M.comp_stmts q (rewritten_stmts c (c.shift h) true xs) f)) →
      Step w (M.in_scope (block_scope xs) e (λ inner. M.entering mark (M.comp_stmts p xs inner)))
      (M.in_scope (block_scope (more_stmt (count c mark) (rewritten_stmts c (c.shift h) true xs))) f (M.comp_stmts q (more_stmt (count c mark) (rewritten_stmts c (c.shift h) true xs))))
  marked_block h mark xs z su w e f r n = block_step h true xs su w e f r
      (λ v g d b s. counted mark (rewritten_stmts c (c.shift h) true xs) z s (λ u g'. n u (later_again g g') d b (around_later g' s)))

  -- what becomes a block, where it was none, declares nothing
  inside_plain : (h : Home) (x : Stmt) → is_block c h x ≡ false → inside (rewritten_stmt c (c.shift h) false x) ≡ more_stmt (rewritten_stmt c (c.shift h) false x) no_stmt
  inside_plain h (Block loc xs) z = absurd (let y = z in cc)
  inside_plain h (EnteredStmt mark x) z = inside_plain h x z
  inside_plain h _ z = refl

  block_alone : (ms : List Mark) (x : Stmt) → inside x ≡ more_stmt x no_stmt → lexical_stmt x ≡ [] → function_stmt x ≡ [] → (f : ℕ) → M.comp_stmt q (in_block c ms x) [] f ≡ M.comp_stmts q (joined (counts c ms) (more_stmt x no_stmt)) f
  block_alone ms x i l m f =
      let xs = joined (counts c ms) (more_stmt x no_stmt) in
      ap (λ ys. M.comp_stmt q (Block (block_place x) (joined (counts c ms) ys)) [] f) i
      ∙ ap₂ (λ (a : List Hoisted) (b : List Binding). M.in_names (map (variable_of undefined) (names_of a) ++ b) (function_stmts xs) f (M.comp_stmts q xs))
      (Declares.joined_functions c fresh_home ms (more_stmt x no_stmt) ∙ ap (λ y. y ++ []) m) (Declares.joined_lexical c fresh_home ms (more_stmt x no_stmt) ∙ ap (λ y. y ++ []) l)
    where
      fresh_home : Home
      fresh_home = Outside 0

  -- a statement by itself, with the labels before it; what it becomes in a block, and that block; and in a list
  pub record All (h : Home) (x : Stmt) : Type 0 where
    pub alone : is_marked c h x ≡ false → (labels : List (List ℕ)) (w : World) (e f : ℕ) → Around w h e f → Step w (M.comp_stmt p x labels e) (M.comp_stmt q (rewritten_stmt c (c.shift h) false x) labels f)
    pub inside : is_block c h x ≡ false → (w : World) (e f : ℕ) → Around w h e f → Step w (M.comp_stmt p x [] e) (M.comp_stmts q (joined (counts c (stmt_marks x)) (more_stmt (rewritten_stmt c (c.shift h) false x) no_stmt)) f)
    pub blocked : DeclaresNothing c h x → (w : World) (e f : ℕ) → Around w h e f → Step w (M.comp_stmt p x [] e) (M.comp_stmt q (in_block c (stmt_marks x) (rewritten_stmt c (c.shift h) false x)) [] f)
    pub listed : is_marked_block c h x ≡ false → (home : Bool) (xs : Stmts) (w : World) (e f : ℕ) → Around w h e f →
        ((v : World) → Later w v → Step v (M.comp_stmts p xs e) (M.comp_stmts q (rewritten_stmts c (c.shift h) home xs) f)) →
        Step w (M.comp_stmts p (more_stmt x xs) e) (M.comp_stmts q (joined (counts c (stmt_marks x ++ hoisted_marks home x)) (more_stmt (rewritten_stmt c (c.shift h) home x) (rewritten_stmts c (c.shift h) home xs))) f)

  -- in the block that it becomes, where it is none
  blocked_plain : (h : Home) (x : Stmt) → is_block c h x ≡ false → DeclaresNothing c h x → {w : World} (e f : ℕ) → Step w (M.comp_stmt p x [] e) (M.comp_stmts q (joined (counts c (stmt_marks x)) (more_stmt (rewritten_stmt c (c.shift h) false x) no_stmt)) f) →
      Step w (M.comp_stmt p x [] e) (M.comp_stmt q (in_block c (stmt_marks x) (rewritten_stmt c (c.shift h) false x)) [] f)
  blocked_plain h x z d {w} e f s = subst (λ a. Step w (M.comp_stmt p x [] e) a)
      (sym (block_alone (stmt_marks x) (rewritten_stmt c (c.shift h) false x) (inside_plain h x z) (Declares.lexical_one_same c h false x ∙ d.0) (Declares.no_functions c h false x d.1) f)) s

  each : (h : Home) (x : Stmt) → is_block c h x ≡ false → stmt_marks x ≡ [] → ((home : Bool) → hoisted_marks home x ≡ []) → ((home : Bool) → rewritten_stmt c (c.shift h) home x ≡ rewritten_stmt c (c.shift h) false x) →
      ((labels : List (List ℕ)) (w : World) (e f : ℕ) → Around w h e f → Step w (M.comp_stmt p x labels e) (M.comp_stmt q (rewritten_stmt c (c.shift h) false x) labels f)) → All h x
  each h x z m hs same n = record {
    alone = λ y. n;
    inside = λ y w e f r. within w e f r;
    blocked = λ d w e f r. blocked_plain h x z d e f (within w e f r);
    listed = λ o home xs w e f r k.
        subst (λ ms. Step w (M.comp_stmts p (more_stmt x xs) e) (M.comp_stmts q (joined (counts c ms) (more_stmt (rewritten_stmt c (c.shift h) home x) (rewritten_stmts c (c.shift h) home xs))) f)) (sym (ap₂ (λ (a b : List Mark). a ++ b) m (hs home)))
        (subst (λ y. Step w (M.comp_stmts p (more_stmt x xs) e) (M.comp_stmts q (more_stmt y (rewritten_stmts c (c.shift h) home xs)) f)) (sym (same home))
        (one_then h home x (rewritten_stmt c (c.shift h) false x) xs e f (n [] w e f r) k));
  }
    where
      within : (w : World) (e f : ℕ) → Around w h e f → Step w (M.comp_stmt p x [] e) (M.comp_stmts q (joined (counts c (stmt_marks x)) (more_stmt (rewritten_stmt c (c.shift h) false x) no_stmt)) f)
      within w e f r = subst (λ ms. Step w (M.comp_stmt p x [] e) (M.comp_stmts q (joined (counts c ms) (more_stmt (rewritten_stmt c (c.shift h) false x) no_stmt)) f)) (sym m) (n [] w e f r)

  declaration_all : (h : Home) (loc : Option Loc) (kind : VariableKind) (ds : Declarators) → SuitsDeclarators c h ds → All h (VariableDeclaration loc kind ds)
  declaration_all h loc kind ds su = record {
    alone = λ y labels w e f r. declarators_step h kind ds su w e f r;
    inside = λ y w e f r. declarators_step h kind ds su w e f r;
    blocked = λ d w e f r. blocked_plain h (VariableDeclaration loc kind ds) refl d e f (declarators_step h kind ds su w e f r);
    listed = λ o home. by_home home;
  }
    where
      by_home : (home : Bool) (xs : Stmts) (w : World) (e f : ℕ) → Around w h e f →
          ((v : World) → Later w v → Step v (M.comp_stmts p xs e) (M.comp_stmts q (rewritten_stmts c (c.shift h) home xs) f)) →
          Step w (M.comp_stmts p (more_stmt (VariableDeclaration loc kind ds) xs) e) (M.comp_stmts q (joined (counts c (hoisted_marks home (VariableDeclaration loc kind ds))) (more_stmt (rewritten_stmt c (c.shift h) home (VariableDeclaration loc kind ds)) (rewritten_stmts c (c.shift h) home xs))) f)
      by_home true xs w e f r n = declaration_listed h loc kind ds su xs w e f r n
      by_home false xs w e f r n = one_then h false (VariableDeclaration loc kind ds) (VariableDeclaration loc kind (rewritten_declarators c (c.shift h) false ds)) xs e f (declarators_step h kind ds su w e f r) n

  no_marked_block : (h : Home) (x : Stmt) → is_block c h x ≡ false → is_marked_block c h x ≡ false
  no_marked_block h (EnteredStmt mark x) z = z
  no_marked_block h _ z = refl

  -- with a mark, where it is no block
  marked_plain : (h : Home) (mark : Mark) (x : Stmt) → SuitsMark c h mark → is_block c h x ≡ false → All h x → All h (EnteredStmt mark x)
  marked_plain h mark x su z a = record {
    alone = λ y. absurd (let t = y in cc);
    inside = λ y w e f r. within w e f r;
    blocked = λ d w e f r. blocked_plain h (EnteredStmt mark x) z d e f (within w e f r);
    listed = λ o home xs w e f r n. listed_mark h mark x z xs (joined (counts c (stmt_marks x ++ hoisted_marks home x)) (more_stmt (rewritten_stmt c (c.shift h) home x) (rewritten_stmts c (c.shift h) home xs))) e f su r
        (λ v g. a.listed (no_marked_block h x z) home xs v e f (around_later g r) (λ u g'. n u (later_again g g')));
  }
    where
      within : (w : World) (e f : ℕ) → Around w h e f → Step w (M.comp_stmt p (EnteredStmt mark x) [] e) (M.comp_stmts q (more_stmt (count c mark) (joined (counts c (stmt_marks x)) (more_stmt (rewritten_stmt c (c.shift h) false x) no_stmt))) f)
      within w e f r =
          subst (λ d. Step w d (M.comp_stmts q (more_stmt (count c mark) (joined (counts c (stmt_marks x)) (more_stmt (rewritten_stmt c (c.shift h) false x) no_stmt))) f)) (sym (entered_is h mark x z [] e))
          (counted mark (joined (counts c (stmt_marks x)) (more_stmt (rewritten_stmt c (c.shift h) false x) no_stmt)) su r (λ v g. a.inside z v e f (around_later g r)))

  block_all : (h : Home) (loc : Option Loc) (xs : Stmts) → ((w : World) (e f : ℕ) → Around w h e f → Step w (M.comp_stmt p (Block loc xs) [] e) (M.comp_stmt q (Block loc (rewritten_stmts c (c.shift h) true xs)) [] f)) → All h (Block loc xs)
  block_all h loc xs n = record {
    alone = λ y labels w e f r. n w e f r;
    inside = λ y. absurd (let t = y in cc);
    blocked = λ d w e f r. n w e f r;
    listed = λ o home ys w e f r k. one_then h home (Block loc xs) (Block loc (rewritten_stmts c (c.shift h) true xs)) ys e f (n w e f r) k;
  }

  -- a loop's body, and an arm
  pub looped_step : (h : Home) (x : Stmt) → SuitsStmt c h x → All h x → (w : World) (e f : ℕ) → Around w h e f → Step w (M.comp_stmt p x [] e) (M.comp_stmt q (looped c (stmt_marks x) (rewritten_stmt c (c.shift h) false x)) [] f)
  looped_step h (EnteredStmt mark x) su a w e f r = a.blocked (su.2, su.3) w e f r
  looped_step h _ su a w e f r = a.alone refl [] w e f r

  unmarked : (h : Home) (x : Stmt) → is_any (stmt_marks x) ≡ false → is_marked c h x ≡ false
  unmarked h (EnteredStmt mark x) z = absurd (let t = z in cc)
  unmarked h _ z = refl

  arm_step : (h : Home) (x : Stmt) → DeclaresNothing c h x → All h x → (b : Bool) → (b ≡ false → is_any (stmt_marks x) ≡ false) → (w : World) (e f : ℕ) → Around w h e f →
      Step w (M.comp_stmt p x [] e) (M.comp_stmt q (arm c b (stmt_marks x) (rewritten_stmt c (c.shift h) false x)) [] f)
  arm_step h x d a true z w e f r = a.blocked d w e f r
  arm_step h x d a false z w e f r = a.alone (unmarked h x (z refl)) [] w e f r

  none_first : (ms ns : List Mark) → is_any (ms ++ ns) ≡ false → is_any ms ≡ false
  none_first [] ns z = refl
  none_first (m ∷ ms) ns z = z

  none_second : (ms ns : List Mark) → is_any (ms ++ ns) ≡ false → is_any ns ≡ false
  none_second [] ns z = z
  none_second (m ∷ ms) ns z = absurd (let t = z in cc)

  finally_step : {w : World} {a b : Comp} {x y : Completion} → Step w a b → AlikeCompletions w x y → Step w (M.finally a x) (M.finally b y)
  finally_step s z = then_step c p q s (λ v g a b t. rets (completion_later g z))

  in_catch_step : (h : Home) (x : MaybePattern) → SuitsPatternIf c h x → (w : World) (e f : ℕ) → Around w h e f → {v u : Value} → Related (Paired w.objects) v u → {i j : ℕ → Comp} →
      ((v : World) → Later w v → (e f : ℕ) → Around v h e f → Step v (i e) (j f)) → Step w (M.in_catch x v e i) (M.in_catch x u f j)
  in_catch_step h none_pattern su w e f r s n = n w (later_same w) e f r
  in_catch_step h (some_pattern (BindingIdentifier place x)) su w e f r {v} {u} s n = within_step c k p q h (scope_made (variable_of v x ∷ []) e) (scope_made (variable_of u x ∷ []) f)
      (λ a b y. scope_opened c h w a b e f _ _ y r (λ z g. more_names (record { names = refl; other = su.other; contents = held (both v u (value_later g s)); constants = refl }) no_names)) n

  mutual
    pub stmt_all : (h : Home) (x : Stmt) → SuitsStmt c h x → All h x
    stmt_all h (Directive loc spelled) su = each h _ refl refl (λ home. refl) (λ home. refl) (λ labels w e f r. done_step c k p q)
    stmt_all h (Block loc xs) su = block_all h loc xs (λ w e f r. block_step h true xs su w e f r (λ v g e f s. stmts_step h true xs su v e f s))
    stmt_all h (VariableDeclaration loc kind declarators) su = declaration_all h loc kind declarators su
    stmt_all h (Empty loc) su = each h _ refl refl (λ home. refl) (λ home. refl) (λ labels w e f r. done_step c k p q)
    stmt_all h (Expression loc x) su = each h _ refl refl (λ home. refl) (λ home. refl) (λ labels w e f r. then_step c p q (ex h x su w e f r) (λ v g a b s. done_step c k p q))
    stmt_all h (If loc x y z) su = each h _ refl refl (λ home. refl) (λ home. refl) (λ labels w e f r.
        then_step c p q (ex h x su.0 w e f r) (λ v g a b s. choose_step c k p q s (arm_step h y su.3 (stmt_all h y su.1) (is_any (stmt_marks y ++ arm_marks z)) (none_first (stmt_marks y) (arm_marks z)) v e f (around_later g r)) (stmt_if_step h z su.2 su.4 (is_any (stmt_marks y ++ arm_marks z)) (none_second (stmt_marks y) (arm_marks z)) v e f (around_later g r))))
    stmt_all h (DoWhile loc x y) su = each h _ refl refl (λ home. refl) (λ home. refl) (λ labels w e f r. enters (turns h (DoWhile loc x y) labels su r tt) (λ v g a b t. rets t))
    stmt_all h (While loc x y) su = each h _ refl refl (λ home. refl) (λ home. refl) (λ labels w e f r. while_step h loc x y su labels w e f r)
    stmt_all h (For loc start x y z) su = each h _ refl refl (λ home. refl) (λ home. refl) (λ labels w e f r. for_step h loc start x y z su labels w e f r)
    stmt_all h (ForIn loc target x y) su = each h _ refl refl (λ home. refl) (λ home. refl) (λ labels w e f r. for_in_step h loc target x y su labels w e f r)
    stmt_all h (ForOf loc target x y) su = each h _ refl refl (λ home. refl) (λ home. refl) (λ labels w e f r. for_of_step h loc target x y su labels w e f r)
    stmt_all h (P.Continue loc label) su = each h _ refl refl (λ home. refl) (λ home. refl) (λ labels w e f r. rets (continues _))
    stmt_all h (P.Break loc label) su = each h _ refl refl (λ home. refl) (λ home. refl) (λ labels w e f r. rets (breaks _))
    stmt_all h (P.Return loc x) su = each h _ refl refl (λ home. refl) (λ home. refl) (λ labels w e f r. returned_step h x su w e f r)
    stmt_all h (Switch loc x cases) su = each h _ refl refl (λ home. refl) (λ home. refl) (λ labels w e f r. then_step c p q (ex h x su.0 w e f r) (λ v g a b s. cases_step h cases su.1 v e f (around_later g r)
        (λ u g' e f t. handle_step c p q (select_step h cases su.1 u e f t (value_later g' s) (λ z g''. default_step h cases su.1 z e f (around_later g'' t))) (λ z g'' a b t. after_switch_step c k p q t))))
    stmt_all h (Labelled loc label x) su = each h _ refl refl (λ home. refl) (λ home. refl) (λ labels w e f r. handle_step c p q ((stmt_all h x su.0).alone su.1 (label.name ∷ labels) w e f r) (λ v g a b t. after_label_step c k p q label.name t))
    stmt_all h (P.Throw loc x) su = each h _ refl refl (λ home. refl) (λ home. refl) (λ labels w e f r. then_step c p q (ex h x su w e f r) (λ v g a b s. rets (worlds.throws s)))
    stmt_all h (TryCatch loc xs catch) su = each h _ refl refl (λ home. refl) (λ home. refl) (λ labels w e f r. handle_step c p q (block_step h true xs su.0 w e f r (λ v g e f s. stmts_step h true xs su.0 v e f s))
        (λ v g a b t. caught_step c k p q (λ y z s. catch_step h catch su.1 v e f (around_later g r) s) t))
    stmt_all h (TryFinally loc xs ys) su = each h _ refl refl (λ home. refl) (λ home. refl) (λ labels w e f r. handle_step c p q (block_step h true xs su.0 w e f r (λ v g e f s. stmts_step h true xs su.0 v e f s))
        (λ v g a b t. finally_step (block_step h true ys su.1 v e f (around_later g r) (λ u g' e f s. stmts_step h true ys su.1 u e f s)) t))
    stmt_all h (TryCatchFinally loc xs catch ys) su = each h _ refl refl (λ home. refl) (λ home. refl) (λ labels w e f r. handle_step c p q (handle_step c p q (block_step h true xs su.0 w e f r (λ v g e f s. stmts_step h true xs su.0 v e f s))
        (λ v g a b t. caught_step c k p q (λ y z s. catch_step h catch su.1 v e f (around_later g r) s) t))
        (λ v g a b t. finally_step (block_step h true ys su.2 v e f (around_later g r) (λ u g' e f s. stmts_step h true ys su.2 u e f s)) t))
    stmt_all h (Debugger loc) su = each h _ refl refl (λ home. refl) (λ home. refl) (λ labels w e f r. done_step c k p q)
    stmt_all h (FunctionDeclaration loc name function) su = each h _ refl refl (λ home. refl) (λ home. refl) (λ labels w e f r. done_step c k p q)
    stmt_all h (EnteredStmt mark (Block loc xs)) su = record {
      alone = λ y. absurd (let t = y in cc);
      inside = λ y. absurd (let t = y in cc);
      blocked = λ d w e f r. marked_block h mark xs su.0 su.1 w e f r (λ v g e f s. stmts_step h true xs su.1 v e f s);
      listed = λ o home ys w e f r n. absurd (let t = o in cc);
    }
    stmt_all h (EnteredStmt mark (EnteredStmt other x)) su = marked_plain h mark (EnteredStmt other x) su.0 su.4 (stmt_all h (EnteredStmt other x) su.1)
    stmt_all h (EnteredStmt mark x) su = marked_plain h mark x su.0 refl (stmt_all h x su.1)

    pub stmts_step : (h : Home) (home : Bool) (xs : Stmts) → SuitsStmts c h xs → (w : World) (e f : ℕ) → Around w h e f → Step w (M.comp_stmts p xs e) (M.comp_stmts q (rewritten_stmts c (c.shift h) home xs) f)
    stmts_step h home no_stmt su w e f r = done_step c k p q
    stmts_step h home (more_stmt x xs) su w e f r = (stmt_all h x su.0.0).listed su.0.1 home xs w e f r (λ v g. stmts_step h home xs su.1 v e f (around_later g r))

    stmt_if_step : (h : Home) (x : MaybeStmt) → SuitsStmtIf c h x → ArmDeclaresNothing c h x → (b : Bool) → (b ≡ false → is_any (arm_marks x) ≡ false) → (w : World) (e f : ℕ) → Around w h e f → Step w (M.comp_stmt_if p x e) (M.comp_stmt_if q (rewritten_arm c (c.shift h) b x) f)
    stmt_if_step h none_stmt su d b z w e f r = done_step c k p q
    stmt_if_step h (some_stmt x) su d b z w e f r = arm_step h x d (stmt_all h x su) b z w e f r
    stmt_if_step h (entered_none mark) su d b z w e f r = counted mark no_stmt su r (λ v g. done_step c k p q)

    catch_step : (h : Home) (x : Catch) → SuitsCatch c h x → (w : World) (e f : ℕ) → Around w h e f → {v u : Value} → Related (Paired w.objects) v u → Step w (M.comp_catch p x e v) (M.comp_catch q (rewritten_catch c (c.shift h) x) f u)
    catch_step h (MakeCatch pattern xs) su w e f r s = in_catch_step h pattern su.0 w e f r s (λ v g e f t. block_step h true xs su.1 v e f t (λ u g' e f z. stmts_step h true xs su.1 u e f z))

    case_step : (h : Home) (x : Case) → SuitsCase c h x → (w : World) (e f : ℕ) → Around w h e f → Step w (M.comp_case p x e) (M.comp_case q (rewritten_case c (c.shift h) x) f)
    case_step h (MakeCase loc y xs) su w e f r = stmts_step h false xs su.1 w e f r
    case_step h (EnteredCase mark x) su w e f r = let a = is_made h x in
        subst (λ y. Step w (M.comp_case p (EnteredCase mark x) e) (M.comp_case q (begun_case c mark y) f)) (sym a.is)
        (counted mark a.xs su.0 r (λ v g. subst (λ y. Step v (M.comp_case p x e) (M.comp_case q y f)) a.is (case_step h x su.1 v e f (around_later g r))))

    cases_comp_step : (h : Home) (xs : Cases) → SuitsCases c h xs → (w : World) (e f : ℕ) → Around w h e f → Step w (M.comp_cases p xs e) (M.comp_cases q (rewritten_cases c (c.shift h) xs) f)
    cases_comp_step h no_case su w e f r = done_step c k p q
    cases_comp_step h (more_case x xs) su w e f r = then_step c p q (case_step h x su.0 w e f r) (λ v g a b s. cases_comp_step h xs su.1 v e f (around_later g r))

    select_step : (h : Home) (xs : Cases) → SuitsCases c h xs → (w : World) (e f : ℕ) → Around w h e f → {v u : Value} → Related (Paired w.objects) v u → {a b : Comp} → ((v : World) → Later w v → Step v a b) →
        Step w (M.comp_select p xs e v a) (M.comp_select q (rewritten_cases c (c.shift h) xs) f u b)
    select_step h no_case su w e f r s n = n w (later_same w)
    select_step h (more_case x xs) su w e f r s n = test_step h x su.0 w e f r s
        (λ v g. then_step c p q (case_step h x su.0 v e f (around_later g r)) (λ u g' a b t. cases_comp_step h xs su.1 u e f (around_later (later_again g g') r)))
        (λ v g. select_step h xs su.1 v e f (around_later g r) (value_later g s) (λ u g'. n u (later_again g g')))

    default_step : (h : Home) (xs : Cases) → SuitsCases c h xs → (w : World) (e f : ℕ) → Around w h e f → Step w (M.comp_default p xs e) (M.comp_default q (rewritten_cases c (c.shift h) xs) f)
    default_step h no_case su w e f r = done_step c k p q
    default_step h (more_case x xs) su w e f r =
        subst (λ b. Step w (M.comp_default p (more_case x xs) e) (if b then handle (M.comp_case q (rewritten_case c (c.shift h) x) f) (with_value (λ v. M.comp_cases q (rewritten_cases c (c.shift h) xs) f)) else M.comp_default q (rewritten_cases c (c.shift h) xs) f)) (sym (default_same h x))
        (if_step c k p q (M.is_default x) (then_step c p q (case_step h x su.0 w e f r) (λ v g a b s. cases_comp_step h xs su.1 v e f (around_later g r))) (default_step h xs su.1 w e f r))
