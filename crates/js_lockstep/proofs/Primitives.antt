-- Each primitive goes in step.
use Rattle.std.proofs.Common.{◌≡◌, ℕ, Bool, true, false, List, Option, Some, None, refl, subst, if◌then◌else◌, ℤ}
use Rattle.std.specs.Str.{bytes_eq}
use Rattle.js_terms.specs.declared.operators.LogicalOperator.{LogicalOperator}
use Rattle.js_terms.specs.declared.operators.LogicalOperator.TheVariants as logical
use Rattle.js_value.specs.declared.value.Value.{Value}
use Rattle.js_value.specs.declared.error_kind.ErrorKind.{ErrorKind}
use Rattle.js_value.specs.declared.deed.Deed.TheVariants as deed
use Rattle.js_value.specs.declared.deed.Complaint.{Complaint}
use Rattle.js_value.specs.declared.deed.Complaint.TheVariants.{NotDefined, NotInitialised, NotAssignable, NotAFunction}
use Rattle.js_value.specs.declared.deed.Halt.{Halt}
use Rattle.js_value.specs.declared.deed.Halt.TheVariants as halt
use Rattle.js_value.specs.Operators.{Answer, Gives, Refuses, to_boolean}
use Rattle.js_value.specs.Conversions.{Numbered, Is, NoNumber}
use Rattle.js_value.specs.State.{ObjectKind, Heap, Store}
use Rattle.js_value.specs.Environments.{Cell, Assign, Done, Dead, Constant, assign_name, init_name, name_answer}
use Rattle.js_value.specs.Running.{on_heap}
use Rattle.js_value.specs.Arguments.{Or}
use Rattle.js_value.specs.Copying.{Copied}
use Rattle.js_value.specs.Host.{error_made, error_of, message_of}
use Rattle.js_meaning.specs.declared.outcome.Completion.{Completion}
use Rattle.js_meaning.specs.Effects.{Comp, act}
use Rattle.js_meaning.specs.Program.{Sources}
use Rattle.js_meaning.specs.Meaning as M
use Rattle.js_meaning.specs.Scopes as Scopes
use Rattle.js_two_runs.specs.Pairs.{Paired, here, there}
use Rattle.js_two_runs.specs.TwoRuns.{InBoth, neither, both, Related, plain, refs, AllRelated, makes_error}
use Rattle.js_two_runs.specs.TwoHeaps.{AlikeKinds, plains, arrays, errors, patterns, built_ins, functions}
use Rattle.js_suits.specs.Settings.{Home, World, Setting, IsFree}
use Rattle.js_lockstep.specs.Worlds.{Later, Around, AlikeFunctions, AlikeStores, AlikeCompletions, normals, breaks, continues, returns}
use Rattle.js_lockstep.specs.Worlds as worlds
use Rattle.js_lockstep.specs.Counters.{Keeps}
use Rattle.js_lockstep.specs.Trees.{InStep, rets, refuses, enters}
use Rattle.js_lockstep.specs.Trees as trees
use Rattle.js_lockstep.proofs.Rules.{acts, looks_step}
use Rattle.js_lockstep.proofs.Later.{value_later}
use Rattle.js_lockstep.proofs.Heaps.{AlikeOr, oks, errs, Changes, Both, Grown, Made, Opened, deed_grown, both_of, stores_grown}
use Rattle.js_lockstep.proofs.Stores.{AlikeFound, not_found, found, lookup_alike, assign_name_grown, init_name_grown, answers_same}

module _ (c : Setting) (k : Keeps c) (p q : Sources) where
  abbrev pub Step : World → Comp → Comp → Type 0
  Step = InStep c p q

  pub give_step : {w : World} {v u : Value} → Related (Paired w.objects) v u → Step w (M.give v) (M.give u)
  give_step r = rets (normals r)

  pub done_step : {w : World} → Step w M.done M.done
  done_step = rets (normals (plain _))

  pub truth_step : {w : World} (b : Bool) → Step w (M.truth b) (M.truth b)
  truth_step b = rets (normals (plain _))

  pub if_step : {w : World} (t : Bool) {a b d e : Comp} → Step w a b → Step w d e → Step w (if t then a else d) (if t then b else e)
  if_step true h j = h
  if_step false h j = j

  -- Changes of the heap

  pub grown_step : {w : World} (f g : Heap → Heap) {i j : Store → Comp} (go : (s t : Store) → AlikeStores c w s t → Grown c w s.heap t.heap (f s.heap) (g t.heap)) →
      ((s t : Store) (x : AlikeStores c w s t) → Step (go s t x).v (i s) (j t)) → Step w (act (on_heap f) i) (act (on_heap g) j)
  grown_step f g go n = acts c p q (λ s. refl) (λ s t x. record { v = (go s t x).v; later = (go s t x).later; alike = stores_grown c k s t x (go s t x) }) n

  pub makes_step : {w : World} (f g : Heap → Heap) → ((h j : Heap) → Both c w h j → Made c w h j (f h) (g j)) → Step w (M.makes f) (M.makes g)
  makes_step f g go = grown_step f g (λ s t x. (go s.heap t.heap (both_of c x)).grown) (λ s t x. rets (normals (refs _ _ (go s.heap t.heap (both_of c x)).pair)))

  pub within_step : {w : World} (home : Home) (f g : Heap → Heap) {i j : ℕ → Comp} → ((h l : Heap) → Both c w h l → Opened c home w h l (f h) (g l)) →
      ((v : World) → Later w v → (e d : ℕ) → Around v home e d → Step v (i e) (j d)) → Step w (M.within f i) (M.within g j)
  within_step home f g go n = grown_step f g (λ s t x. (go s.heap t.heap (both_of c x)).grown) (λ s t x. (let o = go s.heap t.heap (both_of c x) in n o.grown.v o.grown.later _ _ o.around))

  -- Complaints

  pub throw_step : {w : World} (kind : ErrorKind) (message : List ℕ) → Step w (M.throw_error kind message) (M.throw_error kind message)
  throw_step {w = w} kind message = grown_step (error_made kind (Some message)) (error_made kind (Some message))
      (λ s t x. deed_grown c w s.heap t.heap (deed.MakeError kind (Some message)) (deed.MakeError kind (Some message)) (both_of c x) (makes_error kind (Some message)) (λ a. refl) (λ a. refl) (λ o n i. there i))
      (λ s t x. rets (worlds.throws (refs _ _ here)))

  pub complain_step : {w : World} (z : Complaint) → Step w (M.complain z) (M.complain z)
  complain_step z = throw_step (error_of z) (message_of z)

  pub halted_step : {w : World} (z : Halt) → Step w (M.halted z) (M.halted z)
  halted_step (halt.Throw z) = complain_step z
  halted_step (halt.Refuse kind) = refuses kind
  halted_step halt.Memory = refuses _

  pub or_step : {w : World} {A : Type 0} {R : A → A → Type 0} {a b : Or A} {f g : A → Comp} → AlikeOr R a b → ((x y : A) → R x y → Step w (f x) (g y)) → Step w (M.or_halt a f) (M.or_halt b g)
  or_step (oks {a = a} {b = b} r) n = n a b r
  or_step (errs z) n = halted_step z

  pub unless_step : {w : World} (z : Option Halt) {a b : Comp} → Step w a b → Step w (M.unless_halted z a) (M.unless_halted z b)
  unless_step None h = h
  unless_step (Some z) h = halted_step z

  -- a change that may be stopped
  pub changes_step : {w : World} (f g : Heap → Copied) {v u : Value} → ((h j : Heap) → Both c w h j → Changes c w h j (f h) (g j)) → Related (Paired w.objects) v u → Step w (M.changes f v) (M.changes g u)
  changes_step {w} f g {v} {u} go r = grown_step (λ h. (f h).heap) (λ h. (g h).heap) (λ s t x. (go s.heap t.heap (both_of c x)).grown) (λ s t x.
      (let y = go s.heap t.heap (both_of c x) in
      subst (λ z. Step y.grown.v (M.unless_halted (f s.heap).halt (M.give v)) (M.unless_halted z (M.give u))) y.halts
      (unless_step (f s.heap).halt (give_step (value_later y.grown.later r)))))

  -- Names

  held_step : {w : World} {a b : Option Value} → InBoth (Related (Paired w.objects)) a b →
      Step w (elim a [ None ↦ M.complain NotInitialised | Some v ↦ M.give v ]) (elim b [ None ↦ M.complain NotInitialised | Some v ↦ M.give v ])
  held_step neither = complain_step NotInitialised
  held_step (both a b r) = give_step r

  found_step : {w : World} {h j : Heap} {a b : Option Cell} → AlikeFound c w h j a b → Step w (M.value_in h a) (M.value_in j b)
  found_step not_found = complain_step NotDefined
  found_step (found e f i r v a ne) = held_step v

  pub read_step : {w : World} {h : Home} {e f : ℕ} (x : List ℕ) → IsFree c.name h x → Around w h e f → Step w (M.read x e) (M.read x f)
  read_step {w = w} {h = h} {e = e} {f = f} x free r = looks_step c p q (λ s t a. found_step (lookup_alike c w s.heap t.heap (both_of c a) x h e f r free))

  assigns_step : {w : World} {v u : Value} → Related (Paired w.objects) v u → (a : Option Assign) → Step w (M.assigns v a) (M.assigns u a)
  assigns_step s None = complain_step NotDefined
  assigns_step s (Some Done) = give_step s
  assigns_step s (Some Dead) = complain_step NotInitialised
  assigns_step s (Some Constant) = complain_step NotAssignable

  pub write_step : {w : World} {h : Home} {e f : ℕ} {v u : Value} (x : List ℕ) → IsFree c.name h x → Around w h e f → Related (Paired w.objects) v u → Step w (M.write x e v) (M.write x f u)
  write_step {w} {h} {e} {f} {v} {u} x free r s = grown_step (assign_name e x v) (assign_name f x u)
      (λ y z a. assign_name_grown c w y.heap z.heap h e f x v u (both_of c a) r free s)
      (λ y z a. (let g = assign_name_grown c w y.heap z.heap h e f x v u (both_of c a) r free s in
      subst (λ o. Step g.v (M.assigns v (name_answer y.heap e x)) (M.assigns u o)) (answers_same c w y.heap z.heap (lookup_alike c w y.heap z.heap (both_of c a) x h e f r free))
      (assigns_step (value_later g.later s) (name_answer y.heap e x))))

  -- the first value of a name
  initializes_step : {w y : World} {h l : Heap} {a b : Option Cell} {v u : Value} → Related (Paired y.objects) v u → AlikeFound c w h l a b → Step y (M.initializes v a) (M.initializes u b)
  initializes_step r not_found = complain_step NotDefined
  initializes_step r (found e f i s z a ne) = give_step r

  pub initialize_step : {w : World} {h : Home} {e f : ℕ} {v u : Value} (x : List ℕ) → IsFree c.name h x → Around w h e f → Related (Paired w.objects) v u → Step w (M.initialize x e v) (M.initialize x f u)
  initialize_step {w} {h} {e} {f} {v} {u} x free r s = grown_step (init_name e x v) (init_name f x u)
      (λ y z a. init_name_grown c w y.heap z.heap h e f x v u (both_of c a) r free s)
      (λ y z a. initializes_step (value_later (init_name_grown c w y.heap z.heap h e f x v u (both_of c a) r free s).later s) (lookup_alike c w y.heap z.heap (both_of c a) x h e f r free))

  -- Numbers and choices

  pub answered_step : {w : World} (a : Answer) → Step w (M.answered a) (M.answered a)
  answered_step (Gives v) = rets (normals (plain v))
  answered_step (Refuses kind) = refuses kind

  pub number_step : {w : World} (n : Option ℤ) → Step w (M.number n) (M.number n)
  number_step None = refuses _
  number_step (Some n) = rets (normals (plain _))

  pub numbered_step : {w : World} (a : Numbered) {f g : ℤ → Comp} → ((n : ℤ) → Step w (f n) (g n)) → Step w (M.numbered a f) (M.numbered a g)
  numbered_step (Is n) h = h n
  numbered_step (NoNumber kind) h = refuses kind

  pub choose_step : {w : World} {v u : Value} {a b d e : Comp} → Related (Paired w.objects) v u → Step w a b → Step w d e → Step w (M.choose a d v) (M.choose b e u)
  choose_step {v = v} (plain z) h j = if_step (to_boolean v) h j
  choose_step (refs o n i) h j = h

  nullish_same : {R : ℕ → ℕ → Type 0} {v u : Value} → Related R v u → M.is_nullish v ≡ M.is_nullish u
  nullish_same (plain z) = refl
  nullish_same (refs o n i) = refl

  pub chosen_step : {w : World} (operator : LogicalOperator) {v u : Value} {a b : Comp} → Related (Paired w.objects) v u → Step w a b → Step w (M.chosen operator a v) (M.chosen operator b u)
  chosen_step logical.And r h = choose_step r h (give_step r)
  chosen_step logical.Or r h = choose_step r (give_step r) h
  chosen_step {w = w} logical.Coalesce {v} {u} {a} {b} r h = subst (λ z. Step w (M.chosen logical.Coalesce a v) (if z then b else M.give u)) (nullish_same r) (if_step (M.is_nullish v) h (give_step r))

  pub after_turn_step : {w : World} (labels : List (List ℕ)) {a b : Comp} {x y : Completion} → Step w a b → AlikeCompletions w x y → Step w (M.after_turn labels a x) (M.after_turn labels b y)
  after_turn_step labels h (normals r) = h
  after_turn_step labels h (breaks None) = done_step
  after_turn_step labels h (breaks (Some label)) = rets (breaks (Some label))
  after_turn_step labels h (continues None) = h
  after_turn_step labels h (continues (Some label)) = if_step (Scopes.stands_in label labels) h (rets (continues (Some label)))
  after_turn_step labels h (returns r) = rets (returns r)
  after_turn_step labels h (worlds.throws r) = rets (worlds.throws r)

  pub after_label_step : {w : World} (label : List ℕ) {x y : Completion} → AlikeCompletions w x y → Step w (M.after_label label x) (M.after_label label y)
  after_label_step label (normals r) = rets (normals r)
  after_label_step label (breaks None) = rets (breaks None)
  after_label_step label (breaks (Some other)) = if_step (bytes_eq other label) done_step (rets (breaks (Some other)))
  after_label_step label (continues z) = rets (continues z)
  after_label_step label (returns r) = rets (returns r)
  after_label_step label (worlds.throws r) = rets (worlds.throws r)

  pub after_switch_step : {w : World} {x y : Completion} → AlikeCompletions w x y → Step w (M.after_switch x) (M.after_switch y)
  after_switch_step (normals r) = rets (normals r)
  after_switch_step (breaks None) = done_step
  after_switch_step (breaks (Some other)) = rets (breaks (Some other))
  after_switch_step (continues z) = rets (continues z)
  after_switch_step (returns r) = rets (returns r)
  after_switch_step (worlds.throws r) = rets (worlds.throws r)

  pub caught_step : {w : World} {f g : Value → Comp} {x y : Completion} → ((v u : Value) → Related (Paired w.objects) v u → Step w (f v) (g u)) → AlikeCompletions w x y → Step w (M.caught f x) (M.caught g y)
  caught_step n (normals r) = rets (normals r)
  caught_step n (breaks z) = rets (breaks z)
  caught_step n (continues z) = rets (continues z)
  caught_step n (returns r) = rets (returns r)
  caught_step n (worlds.throws r) = n _ _ r

  -- Calls

  pub call_kind_step : {w : World} {a b : ObjectKind} {o n : ℕ} {this that : Value} {vs us : List Value} → AlikeKinds w.objects (AlikeFunctions c w) a b → Paired w.objects o n →
      Related (Paired w.objects) this that → AllRelated (Paired w.objects) vs us → Step w (M.call_kind a o this vs) (M.call_kind b n that us)
  call_kind_step plains i r rs = complain_step NotAFunction
  call_kind_step arrays i r rs = complain_step NotAFunction
  call_kind_step errors i r rs = complain_step NotAFunction
  call_kind_step patterns i r rs = complain_step NotAFunction
  call_kind_step (built_ins function) i r rs = enters (trees.built_ins function i neither r rs) (λ v g x y z. rets z)
  call_kind_step (functions code e other f s) i r rs = enters (trees.calls s r rs) (λ v g x y z. rets z)

  pub call_step : {w : World} {f g this that : Value} {vs us : List Value} → Related (Paired w.objects) f g → Related (Paired w.objects) this that → AllRelated (Paired w.objects) vs us →
      Step w (M.call f this vs) (M.call g that us)
  call_step (plain v) r rs = complain_step NotAFunction
  call_step (refs o n i) r rs = looks_step c p q (λ s t a. call_kind_step (a.heaps.objects.related o.index n.index i).kind i r rs)
