-- Calls and constructions of a program's functions go in step.
use Rattle.std.proofs.Common.{◌≡◌, ℕ, Bool, true, false, List, [], ◌∷◌, ◌++◌, map, Option, Some, None, refl, sym, ap, ap₂, ◌∙◌, subst, if◌then◌else◌, codes, arith}
use Rattle.std.specs.List.{AllZip}
use Rattle.std.specs.Prelude.{option_and_then}
use Rattle.js_terms.specs.declared.place.Loc.{Loc}
use Rattle.js_terms.specs.Mark.{Mark}
use Rattle.js_tree.specs.Plain as P
use Rattle.js_tree.specs.Plain.{Expr, Directive, Stmts, no_stmt, more_stmt}
use Rattle.js_tree.specs.Plain.{MaybeExpr, none_expr, some_expr, BindingIdentifier}
use Rattle.js_tree.specs.Plain.{MakeFunction, FunctionBody, MakeFunctionBody, EnteredBody, ConciseBody, ExpressionBody, BlockBody, MakeParam, Params, no_param, more_param, Entered}
use Rattle.js_tree.specs.Codes.{Code, Ordinary, OfMethod, Arrow, is_constructor}
use Rattle.js_value.specs.declared.value.Value.{Value}
use Rattle.js_value.specs.State.{Binding, Heap}
use Rattle.js_value.specs.Environments.{next_environment, declare_all, lookup, Cell, value_of}
use Rattle.js_value.specs.Running.{on_heap}
use Rattle.js_value.specs.Realm.{undefined, number_of}
use Rattle.js_value.specs.declared.value.Primitive.TheVariants as primitive
use Rattle.js_value.specs.State as state
use Rattle.js_value.specs.declared.built_in.Place.TheVariants as place
use Rattle.js_value.specs.Functions.{instance_made, prototype_or}
use Rattle.js_meaning.specs.declared.outcome.Completion.{Completion}
use Rattle.js_meaning.specs.declared.outcome.Completion.TheVariants.{Normal, Return}
use Rattle.js_meaning.specs.Effects.{Construct, Comp, ret, enter, act, handle}
use Rattle.js_meaning.specs.Program.{Sources, constructs}
use Rattle.js_meaning.specs.Scopes.{bound, variable_of, lexical_stmts, function_stmts, names_of, Hoisted, Scope, body_scope, hoisted, scope_made, block_made, stands_in, once, param_names, has_defaults, body_stmts, concise_stmts, uninitialized, call_made, body_made, value_or, first_value, apart_made}
use Rattle.js_meaning.specs.Meaning as M
use Rattle.js_meaning.specs.Meaning.{with_value}
use Rattle.js_meaning.specs.VarNames.{var_stmts}
use Rattle.js_meaning.specs.Files as F
use Rattle.js_two_runs.specs.Pairs.{Paired}
use Rattle.js_two_runs.specs.TwoRuns.{InBoth, neither, both, Related, plain, refs, AllRelated, none, more}
use Rattle.js_two_runs.specs.TwoHeaps.{plains}
use Rattle.js_two_runs.proofs.TwoHeapsSeen.{get-alike}
use Rattle.cov_rewritten.specs.Rewritten.{expr_marks, is_anonymous, joined, after_directives}
use Rattle.js_suits.specs.Suits.{SuitsMark, SuitsExpr, SuitsStmts, SuitsInitial, SuitsCode, SuitsBody, SuitsConcise, SuitsParams}
use Rattle.js_suits.specs.Rewritten.{counts, counted, held as held_in, concise, begun_body, rewritten_code, rewritten_expr, rewritten_stmts, rewritten_function_body, rewritten_concise_body, rewritten_params}
use Rattle.js_suits.specs.Settings.{Home, Outside, World, Setting, IsFree, Fresh}
use Rattle.js_lockstep.specs.Worlds.{Later, Around, held, AlikeNames, no_names, more_names, AlikeCompletions, normals, breaks, continues, returns}
use Rattle.js_lockstep.specs.Worlds as worlds
use Rattle.js_lockstep.specs.Counters.{Keeps, Counts, AlikeCodes, no_code, codes_of, Coded}
use Rattle.js_lockstep.specs.Trees.{InStep, rets}
use Rattle.js_lockstep.proofs.Rules.{later_again, handle_step, then_step}
use Rattle.js_lockstep.proofs.Later.{value_later, around_later, values_later}
use Rattle.js_lockstep.proofs.Heaps.{Both, Grown, grown_again, Opened, both_of, Made, new_grown}
use Rattle.js_lockstep.proofs.Scopes.{FreeNames, AlikeHoisted, AlikeScopes, scope_opened, opened_then, hoisted_grown, declares_grown, undefined_names, uninitialized_names, names_joined, once_free_names}
use Rattle.js_lockstep.proofs.Declares as Declares
use Rattle.js_lockstep.proofs.Primitives.{give_step, done_step, if_step, grown_step, within_step, initialize_step}
use Rattle.js_lockstep.proofs.Expressions.{counted_step, held_step, bare, expr_step}
use Rattle.js_lockstep.proofs.Stores.{AlikeFound, not_found, found, lookup_alike}
use Rattle.js_lockstep.proofs.Declares.{body_scope_alike}
use Rattle.js_lockstep.proofs.Statements.{stmts_step}

module _ (c : Setting) (k : Keeps c) (fresh : Fresh c) (p q : Sources) (counting : Counts c q) (coded : Coded c p q) where
  abbrev Step : World → Comp → Comp → Type 0
  Step = InStep c p q

  constructor_same : (h : Home) (code : Code) → is_constructor (rewritten_code c (c.shift h) code) ≡ is_constructor code
  constructor_same h (Ordinary function) = refl
  constructor_same h (OfMethod function) = refl
  constructor_same h (Arrow number ps body) = refl

  abbrev constructs_of : Option Code → Bool
  constructs_of o = elim o [ None ↦ false | Some d ↦ is_constructor d ]

  pub same_constructs : (h : Home) (code other : ℕ) → c.Codes h code other → constructs p code ≡ constructs q other
  same_constructs h code other z = by_codes (coded.codes h code other z)
    where
      by_codes : {a b : Option Code} → AlikeCodes c h a b → constructs_of a ≡ constructs_of b
      by_codes no_code = refl
      by_codes (codes_of d su) = sym (constructor_same h d)

  -- an expression, with the marks before it
  abbrev pub value_of_step : (h : Home) (x : Expr) → SuitsExpr c h x → (w : World) (e f : ℕ) → Around w h e f → Step w (M.comp_expr p x e) (M.comp_expr q (counted c (expr_marks x) (rewritten_expr c (c.shift h) x)) f)
  value_of_step = expr_step c k fresh p q counting same_constructs

  abbrev pub all_stmts : (h : Home) (xs : Stmts) → SuitsStmts c h xs → (w : World) (e f : ℕ) → Around w h e f → Step w (M.comp_stmts p xs e) (M.comp_stmts q (rewritten_stmts c (c.shift h) true xs) f)
  all_stmts h xs su w e f r = stmts_step c k fresh p q counting same_constructs h true xs su w e f r

  -- A body: what it declares, and what it does

  pub record Body (h : Home) (xs ys : Stmts) (i j : ℕ → Comp) : Type 0 where
    pub scope : AlikeScopes c h (body_scope xs) (body_scope ys)
    pub step : (w : World) (e f : ℕ) → Around w h e f → Step w (i e) (j f)

  pub list_body : (h : Home) (xs : Stmts) → SuitsStmts c h xs → Body h xs (rewritten_stmts c (c.shift h) true xs) (M.comp_stmts p xs) (M.comp_stmts q (rewritten_stmts c (c.shift h) true xs))
  list_body h xs su = record {
    scope = body_scope_alike c h true xs su;
    step = λ w e f r. all_stmts h xs su w e f r;
  }

  -- a mark before it, after its directives

  begun_vars : (mark : Mark) (xs : Stmts) → var_stmts (after_directives (counts c (mark ∷ [])) xs) ≡ var_stmts xs
  begun_vars mark no_stmt = refl
  begun_vars mark (more_stmt (Directive loc spelled) xs) = begun_vars mark xs
  begun_vars mark (more_stmt _ xs) = refl

  begun_functions : (mark : Mark) (xs : Stmts) → function_stmts (after_directives (counts c (mark ∷ [])) xs) ≡ function_stmts xs
  begun_functions mark no_stmt = refl
  begun_functions mark (more_stmt (Directive loc spelled) xs) = begun_functions mark xs
  begun_functions mark (more_stmt _ xs) = refl

  begun_lexicals : (mark : Mark) (xs : Stmts) → lexical_stmts (after_directives (counts c (mark ∷ [])) xs) ≡ lexical_stmts xs
  begun_lexicals mark no_stmt = refl
  begun_lexicals mark (more_stmt (Directive loc spelled) xs) = begun_lexicals mark xs
  begun_lexicals mark (more_stmt _ xs) = refl

  directive_first : (loc : Option Loc) (spelled : _) (xs : Stmts) (f : ℕ) → M.comp_stmts q (more_stmt (Directive loc spelled) xs) f ≡ M.comp_stmts q xs f
  directive_first loc spelled no_stmt f = refl
  directive_first loc spelled (more_stmt x xs) f = refl

  begun_step : {w : World} {h : Home} {e f : ℕ} {i : Completion → Comp} (mark : Mark) (xs : Stmts) → SuitsMark c h mark → Around w h e f →
      ((v : World) → Later w v → Step v (i (Normal undefined)) (M.comp_stmts q xs f)) → Step w (enter (Construct mark) i) (M.comp_stmts q (after_directives (counts c (mark ∷ [])) xs) f)
  begun_step {w} {h} {e} {f} {i} mark (more_stmt (Directive loc spelled) xs) z r n =
      subst (λ d. Step w (enter (Construct mark) i) d) (sym (directive_first loc spelled (after_directives (counts c (mark ∷ [])) xs) f))
      (begun_step mark xs z r (λ v g. subst (λ d. Step v (i (Normal undefined)) d) (directive_first loc spelled xs f) (n v g)))
  begun_step mark no_stmt z r n = counted_step c k fresh p q counting mark no_stmt z r n
  begun_step mark (more_stmt x xs) z r n = counted_step c k fresh p q counting mark (more_stmt x xs) z r n

  begun_one : (h : Home) (mark : Mark) → SuitsMark c h mark → (xs ys : Stmts) (i : ℕ → Comp) → Body h xs ys i (M.comp_stmts q ys) →
      Body h xs (after_directives (counts c (mark ∷ [])) ys) (λ e. M.entering mark (i e)) (M.comp_stmts q (after_directives (counts c (mark ∷ [])) ys))
  begun_one h mark su xs ys i a = record {
    scope = record {
      variables = ap₂ (λ (m : List (List ℕ)) (n : List Hoisted). m ++ names_of n) (begun_vars mark ys) (begun_functions mark ys) ∙ a.scope.variables;
      free = a.scope.free;
      lexicals = begun_lexicals mark ys ∙ a.scope.lexicals;
      lexicals_alike = a.scope.lexicals_alike;
      functions = subst (AllZip (AlikeHoisted c h) (function_stmts xs)) (sym (begun_functions mark ys)) a.scope.functions;
    };
    step = λ w e f r. begun_step mark ys su r (λ v g. a.step v e f (around_later g r));
  }

  record IsBody (x : FunctionBody) : Type 0 where
    loc : Option Loc
    xs : Stmts
    is : x ≡ MakeFunctionBody loc xs

  is_body : (h : Home) (x : FunctionBody) → IsBody (rewritten_function_body c (c.shift h) x)
  is_body h (MakeFunctionBody loc xs) = record { loc = loc; xs = rewritten_stmts c (c.shift h) true xs; is = refl }
  is_body h (EnteredBody mark x) = let a = is_body h x in record { loc = a.loc; xs = after_directives (counts c (mark ∷ [])) a.xs; is = ap (begun_body c mark) a.is }

  function_body : (h : Home) (x : FunctionBody) → SuitsBody c h x → Body h (body_stmts x) (body_stmts (rewritten_function_body c (c.shift h) x)) (M.comp_body p x) (M.comp_body q (rewritten_function_body c (c.shift h) x))
  function_body h (MakeFunctionBody loc xs) su = list_body h xs su
  function_body h (EnteredBody mark x) su = let a = is_body h x in
      subst (λ y. Body h (body_stmts x) (body_stmts (begun_body c mark y)) (λ e. M.entering mark (M.comp_body p x e)) (M.comp_body q (begun_body c mark y))) (sym a.is)
      (begun_one h mark su.0 (body_stmts x) a.xs (M.comp_body p x)
      (subst (λ y. Body h (body_stmts x) (body_stmts y) (M.comp_body p x) (M.comp_body q y)) a.is (function_body h x su.1)))

  -- an expression as a body
  abbrev giving : List Mark → Expr → Stmts
  giving ms x = joined (counts c ms) (more_stmt (P.Return None (some_expr x)) no_stmt)

  concise_vars : (ms : List Mark) (x : Expr) → var_stmts (concise_stmts (concise c ms x)) ≡ []
  concise_vars [] x = refl
  concise_vars (m ∷ ms) x = Declares.joined_vars c (Outside 0) (m ∷ ms) (more_stmt (P.Return None (some_expr x)) no_stmt)

  concise_functions : (ms : List Mark) (x : Expr) → function_stmts (concise_stmts (concise c ms x)) ≡ []
  concise_functions [] x = refl
  concise_functions (m ∷ ms) x = Declares.joined_functions c (Outside 0) (m ∷ ms) (more_stmt (P.Return None (some_expr x)) no_stmt)

  concise_lexicals : (ms : List Mark) (x : Expr) → lexical_stmts (concise_stmts (concise c ms x)) ≡ []
  concise_lexicals [] x = refl
  concise_lexicals (m ∷ ms) x = Declares.joined_lexical c (Outside 0) (m ∷ ms) (more_stmt (P.Return None (some_expr x)) no_stmt)

  returning_step : (h : Home) (x : Expr) → SuitsExpr c h x → (w : World) (e f : ℕ) → Around w h e f → Step w (handle (M.comp_expr p x e) (with_value (λ v. ret (Return v)))) (M.comp_stmts q (giving (expr_marks x) (rewritten_expr c (c.shift h) x)) f)
  returning_step h (Entered mark x) su w e f r = counted_step c k fresh p q counting mark (giving (expr_marks x) (rewritten_expr c (c.shift h) x)) su.0 r (λ v g. returning_step h x su.1 v e f (around_later g r))
  returning_step h x su w e f r = then_step c p q (bare c k fresh p q counting h x refl w e f (value_of_step h x su w e f r)) (λ v g a b s. rets (returns s))

  concise_step : (h : Home) (x : Expr) → SuitsExpr c h x → (w : World) (e f : ℕ) → Around w h e f → Step w (handle (M.comp_expr p x e) (with_value (λ v. ret (Return v)))) (M.comp_concise q (concise c (expr_marks x) (rewritten_expr c (c.shift h) x)) f)
  concise_step h (Entered mark x) su w e f r = returning_step h (Entered mark x) su w e f r
  concise_step h x su w e f r = then_step c p q (bare c k fresh p q counting h x refl w e f (value_of_step h x su w e f r)) (λ v g a b s. rets (returns s))

  concise_body : (h : Home) (x : ConciseBody) → SuitsConcise c h x → Body h (concise_stmts x) (concise_stmts (rewritten_concise_body c (c.shift h) x)) (M.comp_concise p x) (M.comp_concise q (rewritten_concise_body c (c.shift h) x))
  concise_body h (ExpressionBody x) su = record {
    scope = record {
      variables = ap₂ (λ (m : List (List ℕ)) (n : List Hoisted). m ++ names_of n) (concise_vars (expr_marks x) (rewritten_expr c (c.shift h) x)) (concise_functions (expr_marks x) (rewritten_expr c (c.shift h) x));
      free = tt;
      lexicals = concise_lexicals (expr_marks x) (rewritten_expr c (c.shift h) x);
      lexicals_alike = λ w. no_names;
      functions = subst (AllZip (AlikeHoisted c h) []) (sym (concise_functions (expr_marks x) (rewritten_expr c (c.shift h) x))) tt;
    };
    step = λ w e f r. concise_step h x su w e f r;
  }
  concise_body h (BlockBody x) su = function_body h x su

  -- Parameters

  param_names_same : (h : Home) (ps : Params) → param_names (rewritten_params c (c.shift h) ps) ≡ param_names ps
  param_names_same h no_param = refl
  param_names_same h (more_param (MakeParam loc pattern none_expr) ps) = ap (λ xs. bound pattern ∷ xs) (param_names_same h ps)
  param_names_same h (more_param (MakeParam loc pattern (some_expr e)) ps) = ap (λ xs. bound pattern ∷ xs) (param_names_same h ps)

  defaults_same : (h : Home) (ps : Params) → has_defaults (rewritten_params c (c.shift h) ps) ≡ has_defaults ps
  defaults_same h no_param = refl
  defaults_same h (more_param (MakeParam loc pattern none_expr) ps) = defaults_same h ps
  defaults_same h (more_param (MakeParam loc pattern (some_expr e)) ps) = refl

  params_free : (h : Home) (ps : Params) → SuitsParams c h ps → FreeNames c h (param_names ps)
  params_free h no_param su = tt
  params_free h (more_param (MakeParam loc (BindingIdentifier place x) e) ps) su = ((su.0).0, params_free h ps su.1)

  first_related : {R : ℕ → ℕ → Type 0} {vs us : List Value} → AllRelated R vs us → Related R (M.first_or_undefined vs) (M.first_or_undefined us)
  first_related none = plain _
  first_related (more v u r vs us rs) = r

  rest_related : {R : ℕ → ℕ → Type 0} {vs us : List Value} → AllRelated R vs us → AllRelated R (M.rest_of vs) (M.rest_of us)
  rest_related none = none
  rest_related (more v u r vs us rs) = rs

  -- a default, as it is held
  abbrev default : Home → List ℕ → MaybeExpr → MaybeExpr
  default h x none_expr = none_expr
  default h x (some_expr y) = some_expr (held_in c (is_anonymous y) x (expr_marks y) (rewritten_expr c (c.shift h) y))

  argument_step : (h : Home) (x : List ℕ) (y : MaybeExpr) → SuitsInitial c h x y → (w : World) (e f : ℕ) → Around w h e f → {v u : Value} → Related (Paired w.objects) v u →
      Step w (M.comp_argument p x y e v) (M.comp_argument q x (default h x y) f u)
  argument_step h x none_expr su w e f r (plain z) = give_step c k p q (plain z)
  argument_step h x none_expr su w e f r (refs o n i) = give_step c k p q (refs o n i)
  argument_step h x (some_expr y) su w e f r (plain primitive.Undefined) = held_step c k fresh p q counting h x y su.0 su.1 w e f r (value_of_step h y su.0 w e f r)
  argument_step h x (some_expr y) su w e f r (plain z) = give_step c k p q (plain z)
  argument_step h x (some_expr y) su w e f r (refs o n i) = give_step c k p q (refs o n i)

  params_step : (h : Home) (ps : Params) → SuitsParams c h ps → (w : World) (e f : ℕ) → Around w h e f → {vs us : List Value} → AllRelated (Paired w.objects) vs us → Step w (M.comp_params p ps e vs) (M.comp_params q (rewritten_params c (c.shift h) ps) f us)
  params_step h no_param su w e f r rs = done_step c k p q
  params_step h (more_param (MakeParam loc (BindingIdentifier place x) none_expr) ps) su w e f r rs = then_step c p q (argument_step h x none_expr (su.0).1 w e f r (first_related rs)) (λ v g a b s.
      then_step c p q (initialize_step c k p q x (su.0).0 (around_later g r) s) (λ u g' a' b' s'. params_step h ps su.1 u e f (around_later (later_again g g') r) (values_later (later_again g g') (rest_related rs))))
  params_step h (more_param (MakeParam loc (BindingIdentifier place x) (some_expr y)) ps) su w e f r rs = then_step c p q (argument_step h x (some_expr y) (su.0).1 w e f r (first_related rs)) (λ v g a b s.
      then_step c p q (initialize_step c k p q x (su.0).0 (around_later g r) s) (λ u g' a' b' s'. params_step h ps su.1 u e f (around_later (later_again g g') r) (values_later (later_again g g') (rest_related rs))))

  -- The names of a body

  abbrev declared_names : List (List ℕ) → Scope → List Binding
  declared_names params a = map (variable_of undefined) (once params a.variables) ++ a.lexical

  declared_same : (h : Home) (params : List (List ℕ)) (a b : Scope) → AlikeScopes c h a b → declared_names params b ≡ declared_names params a
  declared_same h params a b s = ap₂ (λ (m : List (List ℕ)) (n : List Binding). map (variable_of undefined) (once params m) ++ n) s.variables s.lexicals

  declared_alike : (h : Home) (params : List (List ℕ)) (a b : Scope) → AlikeScopes c h a b → (w : World) → AlikeNames c.name w h None (declared_names params a) (declared_names params a)
  declared_alike h params a b s w = names_joined c h w _ _ _ _ (undefined_names c h w _ (once_free_names c h params _ s.free)) (s.lexicals_alike w)

  pub body_grown : (h : Home) (params : List (List ℕ)) (m n : Scope) → AlikeScopes c h m n → (w : World) (a b : Heap) (e f : ℕ) → Both c w a b → Around w h e f → Grown c w a b (body_made params m e a) (body_made params n f b)
  body_grown h params m n z w a b e f x r =
      let g = declares_grown c h w e f _ _ (declared_alike h params m n z w) a b x r in
      subst (λ names. Grown c w a b (body_made params m e a) (hoisted n.functions f (declare_all f names b))) (sym (declared_same h params m n z))
      (grown_again c g (hoisted_grown c h m.functions n.functions z.functions g.v _ _ e f g.both (around_later g.later r)))

  -- those that stand apart
  held_value : {w : World} {a b : Heap} {m n : Option Cell} → AlikeFound c w a b m n → Related (Paired w.objects) (value_or undefined (option_and_then (value_of a) m)) (value_or undefined (option_and_then (value_of b) n))
  held_value not_found = plain _
  held_value (found e f i r v z ne) = by_held v
    where
      by_held : {R : ℕ → ℕ → Type 0} {m n : Option Value} → InBoth (Related R) m n → Related R (value_or undefined m) (value_or undefined n)
      by_held neither = plain _
      by_held (both a b r) = r

  first_value_related : (h : Home) (params : List (List ℕ)) (w : World) (a b : Heap) (e f : ℕ) → Both c w a b → Around w h e f → (x : List ℕ) → IsFree c.name h x → Related (Paired w.objects) (first_value params e a x) (first_value params f b x)
  first_value_related h params w a b e f y r x free = by_test (stands_in x params)
    where
      by_test : (t : Bool) → Related (Paired w.objects) (if t then value_or undefined (option_and_then (value_of a) (lookup a e x)) else undefined) (if t then value_or undefined (option_and_then (value_of b) (lookup b f x)) else undefined)
      by_test true = held_value (lookup_alike c w a b y x h e f r free)
      by_test false = plain _

  valued_names : (h : Home) (params : List (List ℕ)) (w v : World) (a b : Heap) (e f : ℕ) → Later w v → Both c w a b → Around w h e f → (xs : List (List ℕ)) → FreeNames c h xs →
      AlikeNames c.name v h None (map (λ x. variable_of (first_value params e a x) x) xs) (map (λ x. variable_of (first_value params f b x) x) xs)
  valued_names h params w v a b e f g y r [] free = no_names
  valued_names h params w v a b e f g y r (x ∷ xs) free =
      more_names (record { names = refl; other = (free.0).other; contents = held (both _ _ (value_later g (first_value_related h params w a b e f y r x free.0))); constants = refl }) (valued_names h params w v a b e f g y r xs free.1)

  apart_opened : (h : Home) (params : List (List ℕ)) (m n : Scope) → AlikeScopes c h m n → (w : World) (a b : Heap) (e f : ℕ) → Both c w a b → Around w h e f → Opened c h w a b (apart_made params m e a) (apart_made params n f b)
  apart_opened h params m n z w a b e f x r =
      let names : List (List ℕ) = once [] m.variables in
      let o = scope_opened c h w a b e f (map (λ y. variable_of (first_value params e a y) y) names ++ m.lexical) (map (λ y. variable_of (first_value params f b y) y) names ++ m.lexical) x r
      (λ v g. names_joined c h v _ _ _ _ (valued_names h params w v a b e f g x r names (once_free_names c h [] _ z.free)) (z.lexicals_alike v))
      in
      subst (λ ns. Opened c h w a b (apart_made params m e a) (block_made ns n.functions f b))
      (sym (ap₂ (λ (m : List (List ℕ)) (n : List Binding). map (λ y. variable_of (first_value params f b y) y) (once [] m) ++ n) z.variables z.lexicals))
      (opened_then c o (hoisted_grown c h m.functions n.functions z.functions o.grown.v _ _ (next_environment a) (next_environment b) o.grown.both o.around))

  -- Calls

  this_names : (h : Home) (w : World) (v u : Value) → Related (Paired w.objects) v u → AlikeNames c.name w h None (F.this_bound v) (F.this_bound u)
  this_names h w v u r = more_names (record { names = refl; other = (fresh.this h).other; contents = held (both v u r); constants = refl }) no_names

  in_body_step : (h : Home) (ps : Params) (xs ys : Stmts) {i j : ℕ → Comp} → Body h xs ys i j → (w : World) (e f : ℕ) → Around w h e f → Step w (F.in_body ps (body_scope xs) e i) (F.in_body (rewritten_params c (c.shift h) ps) (body_scope ys) f j)
  in_body_step h ps xs ys {i} {j} z w e f r =
      subst (λ names. Step w (F.in_body ps (body_scope xs) e i) (if has_defaults (rewritten_params c (c.shift h) ps) then M.within (apart_made names (body_scope ys) f) j else act (on_heap (body_made names (body_scope ys) f)) (λ s. j f))) (sym (param_names_same h ps))
      (subst (λ b. Step w (F.in_body ps (body_scope xs) e i) (if b then M.within (apart_made (param_names ps) (body_scope ys) f) j else act (on_heap (body_made (param_names ps) (body_scope ys) f)) (λ s. j f))) (sym (defaults_same h ps))
      (if_step c k p q (has_defaults ps)
      (within_step c k p q h (apart_made (param_names ps) (body_scope xs) e) (apart_made (param_names ps) (body_scope ys) f) (λ a b x. apart_opened h (param_names ps) (body_scope xs) (body_scope ys) z.scope w a b e f x r) (λ v g e f s. z.step v e f s))
      (grown_step c k p q (body_made (param_names ps) (body_scope xs) e) (body_made (param_names ps) (body_scope ys) f) (λ s t x. body_grown h (param_names ps) (body_scope xs) (body_scope ys) z.scope w s.heap t.heap e f (both_of c x) r)
      (λ s t x. z.step _ e f (around_later (body_grown h (param_names ps) (body_scope xs) (body_scope ys) z.scope w s.heap t.heap e f (both_of c x) r).later r)))))

  function_step : (h : Home) (ps : Params) → SuitsParams c h ps → (xs ys : Stmts) {i j : ℕ → Comp} → Body h xs ys i j → (m n : World → Binding → Type 0) → (this that : List Binding) (w : World) (e f : ℕ) → Around w h e f →
      ((v : World) → Later w v → AlikeNames c.name v h None this that) → {vs us : List Value} → AllRelated (Paired w.objects) vs us →
      Step w (F.comp_function p ps (body_scope xs) i this e vs) (F.comp_function q (rewritten_params c (c.shift h) ps) (body_scope ys) j that f us)
  function_step h ps su xs ys {i} {j} z m n this that w e f r names {vs} {us} rs =
      within_step c k p q h (call_made this (param_names ps) e) (call_made that (param_names (rewritten_params c (c.shift h) ps)) f)
      (λ a b x. subst (λ ns. Opened c h w a b (call_made this (param_names ps) e a) (scope_made (that ++ map (uninitialized false) ns) f b)) (sym (param_names_same h ps))
      (scope_opened c h w a b e f _ _ x r (λ v g. names_joined c h v _ _ _ _ (names v g) (uninitialized_names c h v false _ (params_free h ps su)))))
      (λ v g e f s. then_step c p q (params_step h ps su v e f s (values_later g rs)) (λ u g' a b t. in_body_step h ps xs ys z u e f (around_later g' s)))

  code_step : (h : Home) (code : Code) → SuitsCode c h code → (w : World) (e f : ℕ) → Around w h e f → {v u : Value} {vs us : List Value} → Related (Paired w.objects) v u → AllRelated (Paired w.objects) vs us →
      Step w (F.comp_code p code e v vs) (F.comp_code q (rewritten_code c (c.shift h) code) f u us)
  code_step h (Ordinary (MakeFunction number ps body)) su w e f r {v} {u} s rs = function_step h ps su.1 _ _ (function_body h body su.2) (λ w b. Unit {0}) (λ w b. Unit {0}) _ _ w e f r (λ z g. this_names h z v u (value_later g s)) rs
  code_step h (OfMethod (MakeFunction number ps body)) su w e f r {v} {u} s rs = function_step h ps su.1 _ _ (function_body h body su.2) (λ w b. Unit {0}) (λ w b. Unit {0}) _ _ w e f r (λ z g. this_names h z v u (value_later g s)) rs
  code_step h (Arrow number ps body) su w e f r s rs = function_step h ps su.1 _ _ (concise_body h body su.2) (λ w b. Unit {0}) (λ w b. Unit {0}) [] [] w e f r (λ z g. no_names) rs

  coded_step : (h : Home) (w : World) (e f : ℕ) → Around w h e f → {v u : Value} {vs us : List Value} → Related (Paired w.objects) v u → AllRelated (Paired w.objects) vs us → {a b : Option Code} → AlikeCodes c h a b →
      Step w (F.comp_coded p a e v vs) (F.comp_coded q b f u us)
  coded_step h w e f r s rs no_code = done_step c k p q
  coded_step h w e f r s rs (codes_of code su) = code_step h code su w e f r s rs

  pub after_call_step : {w : World} {x y : Completion} → AlikeCompletions w x y → Step w (F.after_call x) (F.after_call y)
  after_call_step (normals r) = done_step c k p q
  after_call_step (breaks z) = done_step c k p q
  after_call_step (continues z) = done_step c k p q
  after_call_step (returns r) = give_step c k p q r
  after_call_step (worlds.throws r) = rets (worlds.throws r)

  pub call_code_step : {w : World} {code e other f : ℕ} {v u : Value} {vs us : List Value} → worlds.AlikeFunctions c w code e other f → Related (Paired w.objects) v u → AllRelated (Paired w.objects) vs us →
      Step w (F.call_code p code e v vs) (F.call_code q other f u us)
  call_code_step {w} {code} {e} {other} {f} z r rs = handle_step c p q (coded_step z.home w e f z.environments r rs (coded.codes z.home code other z.codes)) (λ v g a b t. after_call_step t)

  -- Constructions

  prototype_related : {w : World} {a b : Heap} → Both c w a b → {m n : Option Value} → InBoth (Related (Paired w.objects)) m n → Paired w.objects (prototype_or m) (prototype_or n)
  prototype_related x neither = x.heaps.built_in (number_of place.ObjectPrototype) (omega arith) (λ e. omega arith)
  prototype_related x (both a b (plain z)) = x.heaps.built_in (number_of place.ObjectPrototype) (omega arith) (λ e. omega arith)
  prototype_related x (both a b (refs o n i)) = i

  instance_grown : (w : World) (a b : Heap) (m n : ℕ) → Both c w a b → Paired w.objects m n → Made c w a b (instance_made m a) (instance_made n b)
  instance_grown w a b m n x i = new_grown c w a b state.Plain state.Plain _ _ x plains (both _ _ (prototype_related x (get-alike w.objects (worlds.AlikeFunctions c w) a b x.heaps m n (codes "prototype") i)))

  after_construct_step : {w : World} (o n : ℕ) → Paired w.objects o n → {x y : Completion} → AlikeCompletions w x y → Step w (F.after_construct o x) (F.after_construct n y)
  after_construct_step o n i (normals r) = give_step c k p q (refs _ _ i)
  after_construct_step o n i (breaks z) = give_step c k p q (refs _ _ i)
  after_construct_step o n i (continues z) = give_step c k p q (refs _ _ i)
  after_construct_step o n i (returns (plain z)) = give_step c k p q (refs _ _ i)
  after_construct_step o n i (returns (refs a b j)) = give_step c k p q (refs _ _ j)
  after_construct_step o n i (worlds.throws r) = rets (worlds.throws r)

  pub construct_code_step : {w : World} {maker other_maker code e other f : ℕ} {vs us : List Value} → Paired w.objects maker other_maker → worlds.AlikeFunctions c w code e other f → AllRelated (Paired w.objects) vs us →
      Step w (F.construct_code p maker code e vs) (F.construct_code q other_maker other f us)
  construct_code_step {w} {maker} {other_maker} {code} {e} {other} {f} i z rs = grown_step c k p q (instance_made maker) (instance_made other_maker)
      (λ s t x. (instance_grown w s.heap t.heap maker other_maker (both_of c x) i).grown)
      (λ s t x. let m = instance_grown w s.heap t.heap maker other_maker (both_of c x) i in
      handle_step c p q (coded_step z.home m.grown.v e f (around_later m.grown.later z.environments) (refs _ _ m.pair) (values_later m.grown.later rs) (coded.codes z.home code other z.codes))
      (λ v g a b t. after_construct_step _ _ (g.objects _ _ m.pair) t))
