-- Expressions go in step with their rewriting.
use Rattle.std.proofs.Common.{◌≡◌, ◌≢◌, ℕ, suc, Bool, true, false, List, [], ◌∷◌, ◌++◌, Option, Some, None, refl, sym, ap, ◌∙◌, subst, if◌then◌else◌, codes, Ok, Err, is_some, ℤ, arith}
use Rattle.std.specs.Prelude.{option_map}
use Rattle.js_terms.specs.declared.operators.BinaryOperator.{BinaryOperator}
use Rattle.js_terms.specs.declared.operators.BinaryOperator.TheVariants as binary_operator
use Rattle.js_terms.specs.declared.operators.UnaryOperator.{UnaryOperator}
use Rattle.js_terms.specs.declared.operators.UnaryOperator.TheVariants as unary_operator
use Rattle.js_terms.specs.declared.operators.UpdateOperator.{UpdateOperator}
use Rattle.js_terms.specs.Mark.{Mark}
use Rattle.js_tree.specs.Codes.{Code, Ordinary, OfMethod, Arrow}
use Rattle.js_tree.specs.Plain as P
use Rattle.js_tree.specs.Plain.{Expr, IdentifierReference, This, NullLiteral, BooleanLiteral, NumericLiteral, StringLiteral, ArrayLiteral, ObjectLiteral, FunctionExpression, ArrowFunction, RegularExpressionLiteral, TemplateLiteral, Parenthesized, NamedMember, ComputedMember, New, PostfixUpdate, PrefixUpdate, Unary, Binary, Logical, Conditional, Assignment, Comma, Entered, Exprs, no_expr, more_expr}
use Rattle.js_tree.specs.Plain.{Stmts, no_stmt, more_stmt, Property, Shorthand, KeyValue, Method, PropertyKey, NameKey, StringKey, NumberKey, ComputedKey, MakeTemplatePart, TemplateParts, no_template_part, more_template_part, Properties, no_property, more_property}
use Rattle.js_value.specs.declared.value.Value.{Value}
use Rattle.js_value.specs.declared.value.Primitive.TheVariants as primitive
use Rattle.js_value.specs.declared.built_in.Place.TheVariants as place
use Rattle.js_value.specs.declared.deed.Complaint.TheVariants.{NotAssignable, NotAConstructor}
use Rattle.js_value.specs.Operators.{binary}
use Rattle.js_value.specs.UnaryOperators.{unary, stepped}
use Rattle.js_value.specs.Conversions.{Numbered, to_number}
use Rattle.js_value.specs.State.{ObjectKind, Plain, RegExp, Heap, Store}
use Rattle.js_value.specs.Objects.{new_object, new_array, define, assigned}
use Rattle.js_value.specs.Environments.{lookup, Cell}
use Rattle.js_value.specs.Numbers.{decimal_text, literal_number}
use Rattle.js_value.specs.Realm.{number_of, undefined, text}
use Rattle.js_value.specs.Arguments.{Or, seen, to_text}
use Rattle.js_value.specs.declared.deed.Deed.TheVariants as deed
use Rattle.js_value.specs.Functions.{constructs, name_units}
use Rattle.js_value.specs.Members.{put_member, delete_member}
use Rattle.js_meaning.specs.declared.outcome.Completion.{Completion}
use Rattle.js_meaning.specs.declared.outcome.Completion.TheVariants.{Normal}
use Rattle.js_meaning.specs.declared.outcome.Outcome.TheVariants.{Stops}
use Rattle.js_meaning.specs.Effects as E
use Rattle.js_meaning.specs.Effects.{Construct, Comp, ret, enter, handle, ran}
use Rattle.js_meaning.specs.Program as program
use Rattle.js_meaning.specs.Program.{Sources}
use Rattle.js_meaning.specs.Scopes.{uninitialized, scope_made, shape_of, closed}
use Rattle.js_meaning.specs.Meaning as M
use Rattle.js_meaning.specs.Meaning.{with_value, Reference}
use Rattle.js_meaning.proofs.Handle.{handle_again}
use Rattle.js_two_runs.specs.Pairs.{Paired, here, there}
use Rattle.js_two_runs.specs.TwoRuns.{neither, both, Related, plain, refs, AllRelated, none, more, makes_array}
use Rattle.js_two_runs.specs.TwoHeaps.{AlikeKinds, plains, arrays, errors, patterns, built_ins, functions}
use Rattle.js_two_runs.proofs.TwoRunsLemmas.{seen-rel}
use Rattle.js_two_runs.proofs.TwoRunsObjects.{joined-rel}
use Rattle.js_two_runs.proofs.TwoHeapsSeen.{seen as heaps_seen, assigned-alike}
use Rattle.cov_rewritten.specs.Counters.{after_counter, with_name, quoted}
use Rattle.cov_rewritten.specs.Rewritten.{expr_marks, is_anonymous}
use Rattle.js_suits.specs.Rewritten.{count, counted, held as held_in, rewritten_expr, rewritten_exprs, rewritten_code, rewritten_properties, rewritten_property, rewritten_property_key, rewritten_template_parts}
use Rattle.js_suits.specs.Suits.{SuitsMark, SuitsExpr, SuitsExprs, SuitsCode, SuitsProperty, SuitsProperties, SuitsKey, SuitsParts, IsHeld, is_bare, is_masked}
use Rattle.js_suits.specs.Settings.{Home, World, Setting, IsFree, Fresh}
use Rattle.js_lockstep.specs.Worlds.{root, Later, Around, held, no_names, more_names, AlikeFunctions, AlikeStores, normals}
use Rattle.js_lockstep.specs.Counters.{Keeps, Counts}
use Rattle.js_lockstep.proofs.Holder.{holder_step}
use Rattle.js_lockstep.specs.Trees.{right, InStep, rets, enters, Ticks}
use Rattle.js_lockstep.specs.Trees as trees
use Rattle.js_lockstep.proofs.Rules.{later_same, later_again, then_step, looks_step, at_hand, ticked}
use Rattle.js_lockstep.proofs.Later.{value_later, values_later, around_later}
use Rattle.js_lockstep.proofs.Operators.{binary_same}
use Rattle.js_lockstep.proofs.Heaps.{apart_from_root, Both, Made, both_of, new_grown, define_grown, deed_grown}
use Rattle.js_lockstep.proofs.Stores.{AlikeFound, not_found, found, lookup_alike}
use Rattle.js_lockstep.proofs.Scopes.{closed_made, shape_alike, scope_opened}
use Rattle.js_lockstep.proofs.Members.{get_member_related, put_member_changes, delete_member_changes, in_related, instance_related, type_related}
use Rattle.js_lockstep.proofs.Primitives.{give_step, done_step, truth_step, if_step, grown_step, makes_step, within_step, complain_step, halted_step, or_step, changes_step, read_step, write_step, initialize_step, answered_step, number_step, numbered_step, choose_step, chosen_step, call_step}

module _ (c : Setting) (k : Keeps c) (fresh : Fresh c) (p q : Sources) (counting : Counts c q) where
  abbrev pub Step : World → Comp → Comp → Type 0
  Step = InStep c p q

  abbrev pub rw_expr : Home → Expr → Expr
  rw_expr h x = rewritten_expr c (c.shift h) x

  -- Marks

  -- the code of a mark, and then more
  pub code_then : (e d : Comp) (n : ℕ) (t t' : Store) (v : Value) (j : Completion → Comp) → ((l : Completion → Comp) → right c p q (suc n) (handle e l) t ≡ right c p q n (l (Normal v)) t') →
      right c p q (suc n) (handle (handle e (with_value (λ v. d))) j) t ≡ right c p q n (handle d j) t'
  code_then e d n t t' v j some = ap (λ x. right c p q (suc n) x t) (handle_again e (with_value (λ v. d)) j) ∙ some (λ o. handle (with_value (λ v. d) o) j)

  pub code_stops : (e d : Comp) (t u : Store) (j : Completion → Comp) → ((l : Completion → Comp) → right c p q 0 (handle e l) t ≡ ran Stops u) →
      right c p q 0 (handle (handle e (with_value (λ v. d))) j) t ≡ ran Stops u
  code_stops e d t u j stop = ap (λ x. right c p q 0 x t) (handle_again e (with_value (λ v. d)) j) ∙ stop (λ o. handle (with_value (λ v. d) o) j)

  pub tick : (h : Home) (mark : Mark) (e f : ℕ) (w : World) → SuitsMark c h mark → Around w h e f → (s t : Store) → AlikeStores c w s t → Ticks c p q w mark s t (M.comp_expr q (c.code mark) f)
  tick h mark e f w z r s t a = counting.counts p mark z.1 w e f (subst (λ x. Around w x e f) z.0 r) s t a

  -- its statement, and then more
  pub counts_then : (mark : Mark) (f : ℕ) (d : Comp) (n : ℕ) (t t' : Store) (v : Value) (j : Completion → Comp) → ((l : Completion → Comp) → right c p q (suc n) (handle (M.comp_expr q (c.code mark) f) l) t ≡ right c p q n (l (Normal v)) t') →
      right c p q (suc n) (handle (handle (M.comp_stmt q (count c mark) [] f) (with_value (λ v. d))) j) t ≡ right c p q n (handle d j) t'
  counts_then mark f d n t t' v j some =
      let e = M.comp_expr q (c.code mark) f in
      ap (λ x. right c p q (suc n) (handle x j) t) (handle_again e (with_value (λ v. M.done)) (with_value (λ v. d)))
      ∙ ap (λ x. right c p q (suc n) x t) (handle_again e (λ o. handle (with_value (λ v. M.done) o) (with_value (λ v. d))) j)
      ∙ some (λ o. handle (handle (with_value (λ v. M.done) o) (with_value (λ v. d))) j)

  pub counts_stops : (mark : Mark) (f : ℕ) (d : Comp) (t u : Store) (j : Completion → Comp) → ((l : Completion → Comp) → right c p q 0 (handle (M.comp_expr q (c.code mark) f) l) t ≡ ran Stops u) →
      right c p q 0 (handle (handle (M.comp_stmt q (count c mark) [] f) (with_value (λ v. d))) j) t ≡ ran Stops u
  counts_stops mark f d t u j stop =
      let e = M.comp_expr q (c.code mark) f in
      ap (λ x. right c p q 0 (handle x j) t) (handle_again e (with_value (λ v. M.done)) (with_value (λ v. d)))
      ∙ ap (λ x. right c p q 0 x t) (handle_again e (λ o. handle (with_value (λ v. M.done) o) (with_value (λ v. d))) j)
      ∙ stop (λ o. handle (handle (with_value (λ v. M.done) o) (with_value (λ v. d))) j)

  -- a mark before an expression
  pub before_step : {w : World} {h : Home} {e f : ℕ} {i : Completion → Comp} (mark : Mark) (x : Expr) → SuitsMark c h mark → Around w h e f →
      ((v : World) → Later w v → Step v (i (Normal undefined)) (M.comp_expr q x f)) → Step w (enter (Construct mark) i) (M.comp_expr q (after_counter (c.code mark) x) f)
  before_step {w = w} {h = h} {e = e} {f = f} {i = i} mark x z r n =
      ticked c p q mark (M.comp_expr q (c.code mark) f) (tick h mark e f w z r)
      (λ m t t' v j some. code_then (M.comp_expr q (c.code mark) f) (M.comp_expr q x f) m t t' v j some)
      (λ t u j stop. code_stops (M.comp_expr q (c.code mark) f) (M.comp_expr q x f) t u j stop) n

  -- and one before statements
  pub counted_then : (mark : Mark) (xs : Stmts) (f n : ℕ) (t t' : Store) (v : Value) (j : Completion → Comp) → ((l : Completion → Comp) → right c p q (suc n) (handle (M.comp_expr q (c.code mark) f) l) t ≡ right c p q n (l (Normal v)) t') →
      right c p q (suc n) (handle (M.comp_stmts q (more_stmt (count c mark) xs) f) j) t ≡ right c p q n (handle (M.comp_stmts q xs f) j) t'
  counted_then mark no_stmt f n t t' v j some = code_then (M.comp_expr q (c.code mark) f) M.done n t t' v j some
  counted_then mark (more_stmt y ys) f n t t' v j some = counts_then mark f (M.comp_stmts q (more_stmt y ys) f) n t t' v j some

  pub counted_stops : (mark : Mark) (xs : Stmts) (f : ℕ) (t u : Store) (j : Completion → Comp) → ((l : Completion → Comp) → right c p q 0 (handle (M.comp_expr q (c.code mark) f) l) t ≡ ran Stops u) →
      right c p q 0 (handle (M.comp_stmts q (more_stmt (count c mark) xs) f) j) t ≡ ran Stops u
  counted_stops mark no_stmt f t u j stop = code_stops (M.comp_expr q (c.code mark) f) M.done t u j stop
  counted_stops mark (more_stmt y ys) f t u j stop = counts_stops mark f (M.comp_stmts q (more_stmt y ys) f) t u j stop

  pub counted_step : {w : World} {h : Home} {e f : ℕ} {i : Completion → Comp} (mark : Mark) (xs : Stmts) → SuitsMark c h mark → Around w h e f →
      ((v : World) → Later w v → Step v (i (Normal undefined)) (M.comp_stmts q xs f)) → Step w (enter (Construct mark) i) (M.comp_stmts q (more_stmt (count c mark) xs) f)
  counted_step {w = w} {h = h} {e = e} {f = f} mark xs z r n =
      ticked c p q mark (M.comp_expr q (c.code mark) f) (tick h mark e f w z r)
      (λ m t t' v j some. counted_then mark xs f m t t' v j some)
      (λ t u j stop. counted_stops mark xs f t u j stop) n

  -- Values

  pub pushed_values : (w : World) {vs us : List Value} {v u : Value} → AllRelated (Paired w.objects) vs us → Related (Paired w.objects) v u → AllRelated (Paired w.objects) (vs ++ v ∷ []) (us ++ u ∷ [])
  pushed_values w {v = v} {u = u} rs r = joined-rel (Paired w.objects) _ _ _ _ rs (more v u r [] [] none)

  or_text : {w : World} {v u : Value} {f g : List ℕ → Comp} → Related (Paired w.objects) v u → ((key : List ℕ) → Step w (f key) (g key)) → Step w (M.or_halt (to_text (seen v)) f) (M.or_halt (to_text (seen u)) g)
  or_text {w} {v} {u} {f} {g} r n = subst (λ z. Step w (M.or_halt (to_text (seen v)) f) (M.or_halt (to_text z) g)) (seen-rel (Paired w.objects) v u r) (by_or (to_text (seen v)))
    where
      by_or : (a : Or (List ℕ)) → Step w (M.or_halt a f) (M.or_halt a g)
      by_or (Ok key) = n key
      by_or (Err z) = halted_step c k p q z

  -- Functions

  pub closure_step : {w : World} {e f : ℕ} (h : Home) (code : Code) (name : List ℕ) → SuitsCode c h code → Around w h e f → Step w (M.closure code name e) (M.closure (rewritten_code c (c.shift h) code) name f)
  closure_step {w} {e} {f} h code name su r = makes_step c k p q (closed (shape_of code) name e) (closed (shape_of (rewritten_code c (c.shift h) code)) name f) (λ a b x. closed_made c h w a b (shape_of code) (shape_of (rewritten_code c (c.shift h) code)) (shape_alike c h code su) name e f x r)

  own_named_step : {w : World} {e f : ℕ} (h : Home) (code : Code) (name : List ℕ) → IsFree c.name h name → SuitsCode c h code → Around w h e f → Step w (M.own_named name code e) (M.own_named name (rewritten_code c (c.shift h) code) f)
  own_named_step {w} {e} {f} h code name free su r = within_step c k p q h (scope_made (uninitialized true name ∷ []) e) (scope_made (uninitialized true name ∷ []) f)
      (λ a b x. scope_opened c h w a b e f _ _ x r (λ v g. more_names (record { names = refl; other = free.other; contents = held neither; constants = refl }) no_names))
      (λ v g d d' s. then_step c p q (closure_step h code (name_units name) su s) (λ u g' a b t. initialize_step c k p q name free (around_later g' s) t))

  -- an anonymous function takes the name that its place gives it
  data AlikeNamed (w : World) : Option Comp → Option Comp → Type 0 where
    unnamed : AlikeNamed w None None
    named_both : {a b : Comp} → Step w a b → AlikeNamed w (Some a) (Some b)

  anonymous_none : (x : Expr) (name : List ℕ) (e : ℕ) → is_anonymous x ≡ false → M.named_function x name e ≡ None
  anonymous_none (FunctionExpression loc None function) name e z = absurd (let y = z in cc)
  anonymous_none (FunctionExpression loc (Some x) function) name e z = refl
  anonymous_none (ArrowFunction loc number params body) name e z = absurd (let y = z in cc)
  anonymous_none (Parenthesized loc x) name e z = anonymous_none x name e z
  anonymous_none (Entered mark x) name e z = ap (option_map (M.entering mark)) (anonymous_none x name e z)
  anonymous_none _ name e z = refl

  -- the marks before an expression that is named are entered first
  pub named_entered : (mark : Mark) (x : Expr) (name : List ℕ) (e : ℕ) → M.named name (Entered mark x) e (M.comp_expr p (Entered mark x) e) ≡ M.entering mark (M.named name x e (M.comp_expr p x e))
  named_entered mark x name e = by_name (M.named_function x name e)
    where
      by_name : (o : Option Comp) → elim (option_map (M.entering mark) o) [ None ↦ M.entering mark (M.comp_expr p x e) | Some d ↦ d ] ≡ M.entering mark (elim o [ None ↦ M.comp_expr p x e | Some d ↦ d ])
      by_name None = refl
      by_name (Some d) = refl

  named_related : (h : Home) (x : Expr) → SuitsExpr c h x → expr_marks x ≡ [] → is_masked c h x ≡ false → (name : List ℕ) (w : World) (e f : ℕ) → Around w h e f → AlikeNamed w (M.named_function x name e) (M.named_function (rw_expr h x) name f)
  named_related h (FunctionExpression loc None function) su z y name w e f r = named_both (closure_step h (Ordinary function) name su.1 r)
  named_related h (ArrowFunction loc number params body) su z y name w e f r = named_both (closure_step h (Arrow number params body) name su r)
  named_related h (Parenthesized loc (Entered mark x)) su z y name w e f r =
      subst (λ o. AlikeNamed w o None) (sym (ap (option_map (M.entering mark)) (anonymous_none x name e y))) unnamed
  named_related h (Parenthesized loc x) su z y name w e f r = named_related h x su refl y name w e f r
  named_related h (Entered mark x) su z y name w e f r = absurd (let t = z in cc)
  named_related h _ su z y name w e f r = unnamed

  pub named_step : (h : Home) (x : Expr) → SuitsExpr c h x → expr_marks x ≡ [] → is_masked c h x ≡ false → (name : List ℕ) (w : World) (e f : ℕ) → Around w h e f → {a b : Comp} → Step w a b → Step w (M.named name x e a) (M.named name (rw_expr h x) f b)
  named_step h x su z y name w e f r {a} {b} s = by_named (named_related h x su z y name w e f r)
    where
      by_named : {m n : Option Comp} → AlikeNamed w m n → Step w (elim m [ None ↦ a | Some d ↦ d ]) (elim n [ None ↦ b | Some d ↦ d ])
      by_named unnamed = s
      by_named (named_both t) = t

  -- one without marks, where those before it are none
  pub bare : (h : Home) (x : Expr) → expr_marks x ≡ [] → (w : World) (e f : ℕ) → Step w (M.comp_expr p x e) (M.comp_expr q (counted c (expr_marks x) (rw_expr h x)) f) → Step w (M.comp_expr p x e) (M.comp_expr q (rw_expr h x) f)
  bare h x z w e f s = subst (λ ms. Step w (M.comp_expr p x e) (M.comp_expr q (counted c ms (rw_expr h x)) f)) z s

  -- an anonymous function with marks before it is held by an object, which gives it its name
  holds_step : (h : Home) (name : List ℕ) → (quoted name).units ≡ name_units name → (x : Expr) → SuitsExpr c h x → is_masked c h x ≡ false → is_anonymous x ≡ true → (w : World) (e f : ℕ) → Around w h e f →
      Step w (M.named (name_units name) x e (M.comp_expr p x e)) (M.comp_expr q (counted c (expr_marks x) (with_name name (rw_expr h x))) f)
  holds_step h name u (FunctionExpression loc None function) su y z w e f r = holder_step c k p q h (Ordinary function) name (rw_expr h (FunctionExpression loc None function)) u (λ key. refl) su.1 r
  holds_step h name u (ArrowFunction loc number params body) su y z w e f r = holder_step c k p q h (Arrow number params body) name (rw_expr h (ArrowFunction loc number params body)) u (λ key. refl) su r
  holds_step h name u (Parenthesized loc (Entered mark x)) su y z w e f r = absurd (let s = y in let t = z in cc)
  holds_step h name u (Parenthesized loc x) su y z w e f r = holds_step h name u x su y z w e f r
  holds_step h name u (Entered mark x) su y z w e f r =
      subst (λ d. Step w d (M.comp_expr q (counted c (mark ∷ expr_marks x) (with_name name (rw_expr h x))) f)) (sym (named_entered mark x (name_units name) e))
      (before_step mark (counted c (expr_marks x) (with_name name (rw_expr h x))) su.0 r (λ v g. holds_step h name u x su.1 y z v e f (around_later g r)))
  holds_step h name u _ su y z w e f r = absurd (let t = z in cc)

  -- an initializer or a default of a name
  pub held_step : (h : Home) (name : List ℕ) (x : Expr) → SuitsExpr c h x → IsHeld c h name x → (w : World) (e f : ℕ) → Around w h e f → Step w (M.comp_expr p x e) (M.comp_expr q (counted c (expr_marks x) (rw_expr h x)) f) →
      Step w (M.named (name_units name) x e (M.comp_expr p x e))
      (M.named (name_units name) (held_in c (is_anonymous x) name (expr_marks x) (rw_expr h x)) f (M.comp_expr q (held_in c (is_anonymous x) name (expr_marks x) (rw_expr h x)) f))
  held_step h name (Entered mark x) su y w e f r s = by_test (is_anonymous x) refl
    where
      by_test : (b : Bool) → is_anonymous x ≡ b → Step w (M.named (name_units name) (Entered mark x) e (M.comp_expr p (Entered mark x) e))
          (M.named (name_units name) (held_in c b name (mark ∷ expr_marks x) (rw_expr h x)) f (M.comp_expr q (held_in c b name (mark ∷ expr_marks x) (rw_expr h x)) f))
      by_test true z = holds_step h name (y.1 z) (Entered mark x) su y.0 z w e f r
      by_test false z = subst (λ o. Step w (elim o [ None ↦ M.comp_expr p (Entered mark x) e | Some d ↦ d ]) (M.comp_expr q (counted c (mark ∷ expr_marks x) (rw_expr h x)) f)) (sym (anonymous_none (Entered mark x) (name_units name) e z)) s
  held_step h name x su y w e f r s = named_step h x su refl y.0 (name_units name) w e f r s

  -- References

  pub data AlikeReferences (h : Home) (w : World) : Reference → Reference → Type 0 where
    names : (x : List ℕ) → IsFree c.name h x → AlikeReferences h w (M.Name x) (M.Name x)
    members : {a b i j : Value} → Related (Paired w.objects) a b → Related (Paired w.objects) i j → AlikeReferences h w (M.Member a i) (M.Member b j)

  pub reference_later : {h : Home} {w v : World} {a b : Reference} → Later w v → AlikeReferences h w a b → AlikeReferences h v a b
  reference_later g (names x free) = names x free
  reference_later g (members r s) = members (value_later g r) (value_later g s)

  pub get_member_step : {w : World} {a b i j : Value} → Related (Paired w.objects) a b → Related (Paired w.objects) i j → Step w (M.get_member_of a i) (M.get_member_of b j)
  get_member_step {w} {a} {b} {i} {j} r s = looks_step c p q (λ x y z. or_step c k p q (get_member_related c w x.heap y.heap (both_of c z) a b i j r s) (λ v u t. give_step c k p q t))

  pub get_value_step : {h : Home} {w : World} {a b : Reference} {e f : ℕ} → AlikeReferences h w a b → Around w h e f → Step w (M.get_value e a) (M.get_value f b)
  get_value_step (names x free) r = read_step c k p q x free r
  get_value_step (members s t) r = get_member_step s t

  pub put_value_step : {h : Home} {w : World} {a b : Reference} {e f : ℕ} {v u : Value} → AlikeReferences h w a b → Around w h e f → Related (Paired w.objects) v u → Step w (M.put_value e a v) (M.put_value f b u)
  put_value_step (names x free) r s = write_step c k p q x free r s
  put_value_step {w = w} {v = v} {u = u} (members {a = a} {b = b} {i = i} {j = j} s t) r y =
      changes_step c k p q (put_member a i v) (put_member b j u) (λ l m x. put_member_changes c w l m x a b i j v u s t y) y

  deleted_step : {h : Home} {w : World} {a b : Reference} → AlikeReferences h w a b → Step w (M.deleted a) (M.deleted b)
  deleted_step (names x free) = truth_step c k p q false
  deleted_step {w = w} (members {a = a} {b = b} {i = i} {j = j} s t) = changes_step c k p q (delete_member a i) (delete_member b j) (λ l m x. delete_member_changes c w l m x a b i j s t) (plain _)

  this_related : {h : Home} {w : World} {a b : Reference} → AlikeReferences h w a b → Related (Paired w.objects) (M.this_of a) (M.this_of b)
  this_related (names x free) = plain _
  this_related (members s t) = s

  -- Operators

  or_equal : {w : World} {a b : Or Bool} → a ≡ b → Step w (M.or_halt a M.truth) (M.or_halt b M.truth)
  or_equal {w} {a} {b} e = subst (λ z. Step w (M.or_halt a M.truth) (M.or_halt z M.truth)) e (by_or a)
    where
      by_or : (a : Or Bool) → Step w (M.or_halt a M.truth) (M.or_halt a M.truth)
      by_or (Ok b) = truth_step c k p q b
      by_or (Err z) = halted_step c k p q z

  operated_same : {w : World} (operator : BinaryOperator) {v u v' u' : Value} → Related (Paired w.objects) v v' → Related (Paired w.objects) u u' → Step w (M.answered (binary operator v u)) (M.answered (binary operator v' u'))
  operated_same {w} operator {v} {u} {v'} {u'} r s = at_hand c p q (λ x y a.
      subst (λ z. Step w (M.answered (binary operator v u)) (M.answered z)) (binary_same (Paired w.objects) (heaps_seen w.objects (AlikeFunctions c w) x.heap y.heap a.heaps).one_to_one operator v u v' u' r s)
      (answered_step c k p q (binary operator v u)))

  pub operated_step : {w : World} (operator : BinaryOperator) {v u v' u' : Value} → Related (Paired w.objects) v v' → Related (Paired w.objects) u u' → Step w (M.operated operator v u) (M.operated operator v' u')
  operated_step {w} binary_operator.In {v} {u} {v'} {u'} r s = looks_step c p q (λ x y a. or_equal (in_related c w x.heap y.heap (both_of c a) v v' u u' r s))
  operated_step {w} binary_operator.InstanceOf {v} {u} {v'} {u'} r s = looks_step c p q (λ x y a. or_equal (instance_related c w x.heap y.heap (both_of c a) v v' u u' r s))
  operated_step operator r s = operated_same operator r s

  unary_same : {R : ℕ → ℕ → Type 0} (operator : UnaryOperator) {v u : Value} → Related R v u → unary operator v ≡ unary operator u
  unary_same operator (plain z) = refl
  unary_same unary_operator.LogicalNot (refs o n i) = refl
  unary_same operator (refs o n i) = refl

  unary_answer : {w : World} (operator : UnaryOperator) {v u : Value} → Related (Paired w.objects) v u → Step w (M.answered (unary operator v)) (M.answered (unary operator u))
  unary_answer {w} operator {v} {u} r = subst (λ z. Step w (M.answered (unary operator v)) (M.answered z)) (unary_same operator r) (answered_step c k p q (unary operator v))

  pub operated_unary_step : {w : World} (operator : UnaryOperator) {v u : Value} → Related (Paired w.objects) v u → Step w (M.operated_unary operator v) (M.operated_unary operator u)
  operated_unary_step unary_operator.Delete r = truth_step c k p q true
  operated_unary_step unary_operator.Void r = done_step c k p q
  operated_unary_step {w} unary_operator.TypeOf {v} {u} r = looks_step c p q (λ x y a.
      subst (λ z. Step w (M.give (text (M.type_in x.heap v))) (M.give (text z))) (type_related c w x.heap y.heap (both_of c a) v u r) (give_step c k p q (plain _)))
  operated_unary_step operator r = unary_answer operator r

  there_same : {w : World} {l m : Heap} {a b : Option Cell} → AlikeFound c w l m a b → is_some a ≡ is_some b
  there_same not_found = refl
  there_same (found e f i r v a ne) = refl

  if_there_step : {w : World} {h : Home} {e f : ℕ} {a b : Comp} (x : List ℕ) → IsFree c.name h x → Around w h e f → Step w a b → Step w (M.if_there (Some x) e a) (M.if_there (Some x) f b)
  if_there_step {w} {h} {e} {f} {a} {b} x free r s = looks_step c p q (λ y z t.
      subst (λ d. Step w (if is_some (lookup y.heap e x) then a else M.give (text (codes "undefined"))) (if d then b else M.give (text (codes "undefined")))) (there_same (lookup_alike c w y.heap z.heap (both_of c t) x h e f r free))
      (if_step c k p q (is_some (lookup y.heap e x)) s (give_step c k p q (plain _))))

  -- the type of a name that isn't there
  pub type_step : (h : Home) (x : Expr) → SuitsExpr c h x → is_bare c h x ≡ true → (w : World) (e f : ℕ) → Around w h e f → {a b : Comp} → Step w a b → Step w (M.if_there (M.name_of x) e a) (M.if_there (M.name_of (rw_expr h x)) f b)
  type_step h (IdentifierReference loc x) su z w e f r s = if_there_step x su r s
  type_step h (Parenthesized loc (Entered mark x)) su z w e f r s = absurd (let t = z in cc)
  type_step h (Parenthesized loc x) su z w e f r s = type_step h x su z w e f r s
  type_step h (Entered mark x) su z w e f r s = absurd (let t = z in cc)
  type_step h _ su z w e f r s = s

  number_of_same : {w : World} {v u : Value} {f g : Numbered → Comp} → Related (Paired w.objects) v u → ((a : Numbered) → Step w (f a) (g a)) → Step w (f (to_number v)) (g (to_number u))
  number_of_same {v = v} (plain z) n = n (to_number v)
  number_of_same {v = v} (refs o m i) n = n (to_number v)

  pub updates_step : {h : Home} {w : World} {a b : Reference} {e f : ℕ} (prefix : Bool) (operator : UpdateOperator) → AlikeReferences h w a b → Around w h e f → Step w (M.updates prefix operator e a) (M.updates prefix operator f b)
  updates_step {h} {w} {a} {b} {e} {f} prefix operator s r = then_step c p q (get_value_step s r) (λ v g x y t.
      number_of_same {f = λ z. M.numbered z (λ old. M.numbered (stepped operator old) (λ new. handle (M.put_value e a (M.number_value new)) (with_value (λ w. M.give (M.number_value (if prefix then new else old))))))}
      {g = λ z. M.numbered z (λ old. M.numbered (stepped operator old) (λ new. handle (M.put_value f b (M.number_value new)) (with_value (λ w. M.give (M.number_value (if prefix then new else old))))))} t
      (λ z. numbered_step c k p q z (λ old. numbered_step c k p q (stepped operator old) (λ new.
      then_step c p q (put_value_step (reference_later g s) (around_later g r) (plain _)) (λ u g' x y z. give_step c k p q (plain _))))))

  named_for_step : (h : Home) (x : Expr) → SuitsExpr c h x → expr_marks x ≡ [] → is_masked c h x ≡ false → (w : World) (e f : ℕ) {a b : Reference} → AlikeReferences h w a b → Around w h e f → {m n : Comp} → Step w m n → Step w (M.named_for a x e m) (M.named_for b (rw_expr h x) f n)
  named_for_step h x su z t w e f (names y free) r s = named_step h x su z t (name_units y) w e f r s
  named_for_step h x su z y w e f (members t t') r s = s

  pub assigning_step : (h : Home) (operator : Option BinaryOperator) (x : Expr) → SuitsExpr c h x → expr_marks x ≡ [] → is_masked c h x ≡ false → (w : World) (e f : ℕ) {a b : Reference} → AlikeReferences h w a b → Around w h e f → {m n : Comp} →
      ((v : World) → Later w v → Step v m n) → Step w (M.assigning operator a x e m) (M.assigning operator b (rw_expr h x) f n)
  assigning_step h None x su z y w e f s r n = then_step c p q (named_for_step h x su z y w e f s r (n w (later_same w))) (λ v g a b t. put_value_step (reference_later g s) (around_later g r) t)
  assigning_step h (Some operator) x su z y w e f s r n = then_step c p q (get_value_step s r) (λ v g a b t. then_step c p q (n v g) (λ u g' a' b' t'.
      then_step c p q (operated_step operator (value_later g' t) t') (λ z g'' a'' b'' t''. put_value_step (reference_later (later_again g (later_again g' g'')) s) (around_later (later_again g (later_again g' g'')) r) t'')))

  -- Constructors

  constructs_step : {w : World} (b : Bool) {m n : Comp} → Step w m n → Step w (if b then m else M.complain NotAConstructor) (if b then n else M.complain NotAConstructor)
  constructs_step b s = if_step c k p q b s (complain_step c k p q NotAConstructor)

  module _ (same_constructs : (h : Home) (code other : ℕ) → c.Codes h code other → program.constructs p code ≡ program.constructs q other) where
    construct_kind_step : {w : World} {a b : ObjectKind} {o n : ℕ} {vs us : List Value} → AlikeKinds w.objects (AlikeFunctions c w) a b → Paired w.objects o n → AllRelated (Paired w.objects) vs us →
        Step w (M.construct_kind p a o vs) (M.construct_kind q b n us)
    construct_kind_step plains i rs = complain_step c k p q NotAConstructor
    construct_kind_step arrays i rs = complain_step c k p q NotAConstructor
    construct_kind_step errors i rs = complain_step c k p q NotAConstructor
    construct_kind_step patterns i rs = complain_step c k p q NotAConstructor
    construct_kind_step (built_ins function) i rs = constructs_step (constructs function) (enters (trees.built_ins function i (both _ _ i) (plain _) rs) (λ v g x y z. rets z))
    construct_kind_step {w} {o = o} {n = n} {vs = vs} {us = us} (functions code e other f s) i rs =
        subst (λ z. Step w (if program.constructs p code then enter (E.New o code e vs) ret else M.complain NotAConstructor) (if z then enter (E.New n other f us) ret else M.complain NotAConstructor)) (same_constructs s.home code other s.codes)
        (constructs_step (program.constructs p code) (enters (trees.news i s rs) (λ v g x y z. rets z)))

    pub construct_step : {w : World} {f g : Value} {vs us : List Value} → Related (Paired w.objects) f g → AllRelated (Paired w.objects) vs us → Step w (M.construct p f vs) (M.construct q g us)
    construct_step (plain v) rs = complain_step c k p q NotAConstructor
    construct_step (refs o n i) rs = looks_step c p q (λ s t a. construct_kind_step (a.heaps.objects.related o.index n.index i).kind i rs)

    -- Literals

    pub defines_step : {w : World} {o n : ℕ} {v u : Value} (key : List ℕ) → Paired w.objects o n → n ≢ root → Related (Paired w.objects) v u → Step w (M.defines o key v) (M.defines n key u)
    defines_step {w} {o} {n} {v} {u} key i apart r = grown_step c k p q (define o (assigned key v)) (define n (assigned key u))
        (λ s t x. define_grown c w s.heap t.heap o n _ _ (both_of c x) i apart (assigned-alike w.objects (AlikeFunctions c w) key v u r)) (λ s t x. done_step c k p q)

    number_key_step : {w : World} (n : Option ℤ) {f g : List ℕ → Comp} → ((key : List ℕ) → Step w (f key) (g key)) → Step w (M.number_key n f) (M.number_key n g)
    number_key_step None h = number_step c k p q None
    number_key_step (Some n) h = h (decimal_text n)

    abbrev object_made : (w : World) (a b : Heap) → Both c w a b → Made c w a b (new_object Plain (Some (number_of place.ObjectPrototype)) a) (new_object Plain (Some (number_of place.ObjectPrototype)) b)
    object_made w a b x = new_grown c w a b Plain Plain _ _ x plains (both _ _ (x.heaps.built_in (number_of place.ObjectPrototype) (omega arith) (λ e. omega arith)))

    mutual
      pub expr_step : (h : Home) (x : Expr) → SuitsExpr c h x → (w : World) (e f : ℕ) → Around w h e f → Step w (M.comp_expr p x e) (M.comp_expr q (counted c (expr_marks x) (rw_expr h x)) f)
      expr_step h (IdentifierReference loc name) su w e f r = read_step c k p q name su r
      expr_step h (This loc) su w e f r = read_step c k p q (codes "this") (fresh.this h) r
      expr_step h (NullLiteral loc) su w e f r = give_step c k p q (plain _)
      expr_step h (BooleanLiteral loc b) su w e f r = truth_step c k p q b
      expr_step h (NumericLiteral loc spelling) su w e f r = number_step c k p q (literal_number spelling)
      expr_step h (StringLiteral loc spelled) su w e f r = give_step c k p q (plain _)
      expr_step h (ArrayLiteral loc items) su w e f r = values_step h items su w e f r none (λ v g vs us rs.
          grown_step c k p q (new_array (number_of place.ArrayPrototype) vs) (new_array (number_of place.ArrayPrototype) us)
          (λ s t x. deed_grown c v s.heap t.heap (deed.MakeArray vs) (deed.MakeArray us) (both_of c x) (makes_array vs us rs) (λ a. refl) (λ a. refl) (λ o n i. there i))
          (λ s t x. rets (normals (refs _ _ here))))
      expr_step h (ObjectLiteral loc properties) su w e f r = grown_step c k p q (new_object Plain (Some (number_of place.ObjectPrototype))) (new_object Plain (Some (number_of place.ObjectPrototype)))
          (λ s t x. (object_made w s.heap t.heap (both_of c x)).grown)
          (λ s t x. properties_step h properties su _ e f (around_later (object_made w s.heap t.heap (both_of c x)).grown.later r) _ _ here (apart_from_root c (both_of c x)))
      expr_step h (FunctionExpression loc None function) su w e f r = closure_step h (Ordinary function) [] su.1 r
      expr_step h (FunctionExpression loc (Some name) function) su w e f r = own_named_step h (Ordinary function) name.name su.0 su.1 r
      expr_step h (ArrowFunction loc number params body) su w e f r = closure_step h (Arrow number params body) [] su r
      expr_step h (RegularExpressionLiteral loc pattern flags) su w e f r = makes_step c k p q (new_object RegExp (Some (number_of place.RegExpPrototype))) (new_object RegExp (Some (number_of place.RegExpPrototype)))
          (λ a b x. new_grown c w a b RegExp RegExp _ _ x patterns (both _ _ (x.heaps.built_in (number_of place.RegExpPrototype) (omega arith) (λ e. omega arith))))
      expr_step h (TemplateLiteral loc spelled parts) su w e f r = parts_step h parts su w e f r spelled.units
      expr_step h (Parenthesized loc x) su w e f r = expr_step h x su w e f r
      expr_step h (NamedMember loc x name) su w e f r = then_step c p q (bare h x su.1 w e f (expr_step h x su.0 w e f r)) (λ v g a b s. get_member_step s (plain (primitive.Text (name_units name))))
      expr_step h (ComputedMember loc x y) su w e f r = then_step c p q (bare h x su.0.1 w e f (expr_step h x su.0.0 w e f r)) (λ v g a b s. then_step c p q (bare h y su.1.1 v e f (expr_step h y su.1.0 v e f (around_later g r))) (λ u g' a' b' s'. get_member_step (value_later g' s) s'))
      expr_step h (New loc x arguments) su w e f r = then_step c p q (bare h x su.0.1 w e f (expr_step h x su.0.0 w e f r)) (λ v g a b s. values_step h arguments su.1 v e f (around_later g r) none (λ u g' vs us rs. construct_step (value_later g' s) rs))
      expr_step h (P.Call loc x arguments) su w e f r = reference_step h x su.0.0 su.2 w e f r
          (then_step c p q (bare h x su.0.1 w e f (expr_step h x su.0.0 w e f r)) (λ v g a b s. values_step h arguments su.1 v e f (around_later g r) none (λ u g' vs us rs. call_step c k p q (value_later g' s) (plain _) rs)))
          (λ v g a b s. then_step c p q (get_value_step s (around_later g r)) (λ u g' x y t. values_step h arguments su.1 u e f (around_later (later_again g g') r) none
          (λ z g'' vs us rs. call_step c k p q (value_later g'' t) (value_later (later_again g' g'') (this_related s)) rs)))
      expr_step h (PostfixUpdate loc operator x) su w e f r = reference_step h x su.0.0 su.1 w e f r (complain_step c k p q NotAssignable) (λ v g a b s. updates_step false operator s (around_later g r))
      expr_step h (PrefixUpdate loc operator x) su w e f r = reference_step h x su.0.0 su.1 w e f r (complain_step c k p q NotAssignable) (λ v g a b s. updates_step true operator s (around_later g r))
      expr_step h (Unary loc unary_operator.Delete x) su w e f r = reference_step h x su.0.0 su.1 w e f r (then_step c p q (bare h x su.0.1 w e f (expr_step h x su.0.0 w e f r)) (λ v g a b s. operated_unary_step unary_operator.Delete s)) (λ v g a b s. deleted_step s)
      expr_step h (Unary loc unary_operator.TypeOf x) su w e f r = type_step h x su.0.0 su.1 w e f r (then_step c p q (bare h x su.0.1 w e f (expr_step h x su.0.0 w e f r)) (λ v g a b s. operated_unary_step unary_operator.TypeOf s))
      expr_step h (Unary loc operator x) su w e f r = then_step c p q (bare h x su.0.1 w e f (expr_step h x su.0.0 w e f r)) (λ v g a b s. operated_unary_step operator s)
      expr_step h (Binary loc operator x y) su w e f r = then_step c p q (bare h x su.0.1 w e f (expr_step h x su.0.0 w e f r)) (λ v g a b s. then_step c p q (bare h y su.1.1 v e f (expr_step h y su.1.0 v e f (around_later g r))) (λ u g' a' b' s'. operated_step operator (value_later g' s) s'))
      expr_step h (Logical loc operator x y) su w e f r = then_step c p q (expr_step h x su.0 w e f r) (λ v g a b s. chosen_step c k p q operator s (expr_step h y su.1 v e f (around_later g r)))
      expr_step h (Conditional loc x y z) su w e f r = then_step c p q (bare h x su.0.1 w e f (expr_step h x su.0.0 w e f r)) (λ v g a b s. choose_step c k p q s (expr_step h y su.1 v e f (around_later g r)) (expr_step h z su.2 v e f (around_later g r)))
      expr_step h (Assignment loc operator x y) su w e f r = reference_step h x su.0.0 su.2 w e f r (complain_step c k p q NotAssignable)
          (λ v g a b s. assigning_step h (M.operator_of operator) y su.1.0 su.1.1 su.3 v e f s (around_later g r) (λ u g'. bare h y su.1.1 u e f (expr_step h y su.1.0 u e f (around_later (later_again g g') r))))
      expr_step h (Comma loc x y) su w e f r = then_step c p q (bare h x su.0.1 w e f (expr_step h x su.0.0 w e f r)) (λ v g a b s. bare h y su.1.1 v e f (expr_step h y su.1.0 v e f (around_later g r)))
      expr_step h (Entered mark x) su w e f r = before_step mark (counted c (expr_marks x) (rw_expr h x)) su.0 r (λ v g. expr_step h x su.1 v e f (around_later g r))

      pub reference_step : (h : Home) (x : Expr) → SuitsExpr c h x → is_bare c h x ≡ true → (w : World) (e f : ℕ) → Around w h e f → {m n : Comp} {i j : Reference → Comp} → Step w m n →
          ((v : World) → Later w v → (a b : Reference) → AlikeReferences h v a b → Step v (i a) (j b)) → Step w (M.comp_reference p x e m i) (M.comp_reference q (rw_expr h x) f n j)
      reference_step h (IdentifierReference loc name) su z w e f r o n = n w (later_same w) _ _ (names name su)
      reference_step h (NamedMember loc x name) su z w e f r o n = then_step c p q (bare h x su.1 w e f (expr_step h x su.0 w e f r)) (λ v g a b s. n v g _ _ (members s (plain _)))
      reference_step h (ComputedMember loc x y) su z w e f r o n = then_step c p q (bare h x su.0.1 w e f (expr_step h x su.0.0 w e f r)) (λ v g a b s. then_step c p q (bare h y su.1.1 v e f (expr_step h y su.1.0 v e f (around_later g r))) (λ u g' a' b' s'. n u (later_again g g') _ _ (members (value_later g' s) s')))
      reference_step h (Parenthesized loc (Entered mark x)) su z w e f r o n = absurd (let t = z in cc)
      reference_step h (Parenthesized loc x) su z w e f r o n = reference_step h x su z w e f r o n
      reference_step h (Entered mark x) su z w e f r o n = absurd (let t = z in cc)
      reference_step h _ su z w e f r o n = o

      values_step : (h : Home) (xs : Exprs) → SuitsExprs c h xs → (w : World) (e f : ℕ) → Around w h e f → {vs us : List Value} {i j : List Value → Comp} → AllRelated (Paired w.objects) vs us →
          ((v : World) → Later w v → (vs us : List Value) → AllRelated (Paired v.objects) vs us → Step v (i vs) (j us)) → Step w (M.comp_values p xs e vs i) (M.comp_values q (rewritten_exprs c (c.shift h) xs) f us j)
      values_step h no_expr su w e f r rs n = n w (later_same w) _ _ rs
      values_step h (more_expr x xs) su w e f r rs n = then_step c p q (bare h x su.0.1 w e f (expr_step h x su.0.0 w e f r)) (λ v g a b s.
          values_step h xs su.1 v e f (around_later g r) (pushed_values v (values_later g rs) s) (λ u g' vs us rs'. n u (later_again g g') vs us rs'))

      parts_step : (h : Home) (xs : TemplateParts) → SuitsParts c h xs → (w : World) (e f : ℕ) → Around w h e f → (units : List ℕ) → Step w (M.comp_template_parts p xs e units) (M.comp_template_parts q (rewritten_template_parts c (c.shift h) xs) f units)
      parts_step h no_template_part su w e f r units = give_step c k p q (plain _)
      parts_step h (more_template_part (MakeTemplatePart x spelled) xs) su w e f r units = then_step c p q (bare h x su.0.1 w e f (expr_step h x su.0.0 w e f r)) (λ v g a b s.
          or_text s (λ inner. parts_step h xs su.1 v e f (around_later g r) (units ++ inner ++ spelled.units)))

      properties_step : (h : Home) (xs : Properties) → SuitsProperties c h xs → (w : World) (e f : ℕ) → Around w h e f → (o n : ℕ) → Paired w.objects o n → n ≢ root → Step w (M.comp_properties p xs e o) (M.comp_properties q (rewritten_properties c (c.shift h) xs) f n)
      properties_step h no_property su w e f r o n i apart = give_step c k p q (refs _ _ i)
      properties_step h (more_property x xs) su w e f r o n i apart = then_step c p q (property_step h x su.0 w e f r o n i apart) (λ v g a b s. properties_step h xs su.1 v e f (around_later g r) o n (g.objects o n i) apart)

      property_step : (h : Home) (x : Property) → SuitsProperty c h x → (w : World) (e f : ℕ) → Around w h e f → (o n : ℕ) → Paired w.objects o n → n ≢ root → Step w (M.comp_property p x e o) (M.comp_property q (rewritten_property c (c.shift h) x) f n)
      property_step h (Shorthand loc name) su w e f r o n i apart = then_step c p q (read_step c k p q name su r) (λ v g a b s. defines_step (name_units name) (g.objects o n i) apart s)
      property_step h (KeyValue loc key x) su w e f r o n i apart = key_step h key su.0 w e f r (λ v g t. then_step c p q (named_step h x su.1.0 su.1.1 su.2 t v e f (around_later g r) (bare h x su.1.1 v e f (expr_step h x su.1.0 v e f (around_later g r))))
          (λ u g' a b s. defines_step t (g'.objects o n (g.objects o n i)) apart s))
      property_step h (Method loc key function) su w e f r o n i apart = key_step h key su.0 w e f r (λ v g t. then_step c p q (closure_step h (OfMethod function) t su.1 (around_later g r)) (λ u g' a b s. defines_step t (g'.objects o n (g.objects o n i)) apart s))

      key_step : (h : Home) (x : PropertyKey) → SuitsKey c h x → (w : World) (e f : ℕ) → Around w h e f → {i j : List ℕ → Comp} → ((v : World) → Later w v → (t : List ℕ) → Step v (i t) (j t)) →
          Step w (M.comp_key p x e i) (M.comp_key q (rewritten_property_key c (c.shift h) x) f j)
      key_step h (NameKey name) su w e f r n = n w (later_same w) (name_units name)
      key_step h (StringKey spelled) su w e f r n = n w (later_same w) spelled.units
      key_step h (NumberKey spelling) su w e f r n = number_key_step (literal_number spelling) (λ t. n w (later_same w) t)
      key_step h (ComputedKey x) su w e f r n = then_step c p q (bare h x su.1 w e f (expr_step h x su.0 w e f r)) (λ v g a b s. or_text s (λ t. n v g t))
