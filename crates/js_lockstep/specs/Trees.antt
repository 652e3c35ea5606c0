-- Computations of the two runs that go in step, by rules: whatever the stores are, where they are alike.
use Rattle.std.specs.Prelude.{◌≡◌, ℕ, suc, ◌<◌, ◌≤◌, List, length, true, false, Option, None}
use Rattle.js_terms.specs.Mark.{Mark}
use Rattle.js_tree.specs.Plain.{Stmt, For, EnteredStmt}
use Rattle.js_value.specs.declared.value.Value.{Value}
use Rattle.js_value.specs.declared.value.Kind.{Kind}
use Rattle.js_value.specs.State.{Store}
use Rattle.js_value.specs.Running.{note}
use Rattle.js_value.specs.Iterations.{Iteration, Keys, Elements, Characters}
use Rattle.js_meaning.specs.Scopes.{is_fresh}
use Rattle.js_meaning.specs.declared.outcome.Completion.{Completion}
use Rattle.js_meaning.specs.declared.outcome.Completion.TheVariants.{Normal}
use Rattle.js_meaning.specs.declared.outcome.Outcome.TheVariants.{Stops}
use Rattle.js_meaning.specs.Effects.{Entry, Call, New, CallBuiltIn, Turn, Pass, Comp, ret, refuse, enter, handle, Ran, ran, exec}
use Rattle.js_meaning.specs.Program.{Sources}
use Rattle.js_meaning.specs.Files.{inside}
use Rattle.js_two_runs.specs.Pairs.{Paired}
use Rattle.js_two_runs.specs.TwoRuns.{InBoth, Related, AllRelated}
use Rattle.js_suits.specs.Rewritten.{rewritten_stmt}
use Rattle.js_suits.specs.Suits.{SuitsStmt, is_marked}
use Rattle.js_suits.specs.Settings.{Home, World, Setting}
use Rattle.js_lockstep.specs.Worlds.{Later, Around, AlikeFunctions, AlikeStores, AlikeCompletions, ToldAlike}

-- what is left of what a loop goes through
pub data AlikeIterations (w : World) : Iteration → Iteration → Type 0 where
  keys : {v u : Value} (ks : List (List ℕ)) → Related (Paired w.objects) v u → AlikeIterations w (Keys v ks) (Keys u ks)
  elements : {o p : ℕ} (n : ℕ) → Paired w.objects o p → AlikeIterations w (Elements o n) (Elements p n)
  characters : (units : List ℕ) → AlikeIterations w (Characters units) (Characters units)

-- the names of a loop are made anew in an environment that is no file's own; and no mark stands before it
abbrev pub FreshTurn : Stmt → World → ℕ → Type 0
FreshTurn (For loc start e f x) w other = is_fresh start ≡ true → w.own other ≡ None
FreshTurn (EnteredStmt mark x) w other = ⊥
FreshTurn _ w other = Unit {0}

-- what a step is for in both
pub data AlikeEntries (c : Setting) (w : World) : Entry → Entry → Type 0 where
  calls : {code env other other_env : ℕ} {this that : Value} {vs ws : List Value} → AlikeFunctions c w code env other other_env →
      Related (Paired w.objects) this that → AllRelated (Paired w.objects) vs ws → AlikeEntries c w (Call code env this vs) (Call other other_env that ws)
  news : {maker other_maker code env other other_env : ℕ} {vs ws : List Value} → Paired w.objects maker other_maker → AlikeFunctions c w code env other other_env →
      AllRelated (Paired w.objects) vs ws → AlikeEntries c w (New maker code env vs) (New other_maker other other_env ws)
  built_ins : {callee other : ℕ} {maker other_maker : Option ℕ} {this that : Value} {vs ws : List Value} (function : ℕ) →
      Paired w.objects callee other → InBoth (Paired w.objects) maker other_maker → Related (Paired w.objects) this that →
      AllRelated (Paired w.objects) vs ws →
      AlikeEntries c w (CallBuiltIn callee function maker this vs) (CallBuiltIn other function other_maker that ws)
  turns : {env other : ℕ} (h : Home) (x : Stmt) (labels : List (List ℕ)) → SuitsStmt c h x → Around w h env other → FreshTurn x w other →
      AlikeEntries c w (Turn x labels env) (Turn (rewritten_stmt c (c.shift h) false x) labels other)
  passes : {env other inner other_inner : ℕ} {r t : Iteration} (h : Home) (x : Stmt) (labels : List (List ℕ)) → SuitsStmt c h x → is_marked c h x ≡ false → Around w h env other → Around w h inner other_inner →
      AlikeIterations w r t → AlikeEntries c w (Pass x labels env inner r) (Pass (rewritten_stmt c (c.shift h) false x) labels other other_inner t)

module _ (c : Setting) (p q : Sources) where
  abbrev pub left : ℕ → Comp → Store → Ran
  left = exec (inside p)

  abbrev pub right : ℕ → Comp → Store → Ran
  right = exec (inside q)

  -- what both come to without a step, whatever follows
  pub record Goes (w : World) (s t : Store) (a b : Comp) : Type 0 where
    pub v : World
    pub s' : Store
    pub t' : Store
    pub a' : Comp
    pub b' : Comp
    pub later : Later w v
    pub alike : AlikeStores c v s' t'
    pub logs : length s'.log ≡ length s.log
    pub lefts : (n : ℕ) (j : Completion → Comp) → left n (handle a j) s ≡ left n (handle a' j) s'
    pub rights : (n : ℕ) (j : Completion → Comp) → right n (handle b j) t ≡ right n (handle b' j) t'

  -- what both come to in a step each: that of an entry on the left, and one that is asked for somewhere on the right, while the counts
  -- have room
  pub record Steps (w : World) (s t : Store) (e : Entry) (i : Completion → Comp) (b : Comp) : Type 0 where
    pub v : World
    pub s' : Store
    pub t' : Store
    pub a' : Comp
    pub b' : Comp
    pub later : Later w v
    pub alike : AlikeStores c v s' t'
    pub logs : length s'.log ≤ suc (length s.log)
    pub lefts : (n : ℕ) (j : Completion → Comp) → left n (handle (handle (inside p e) i) j) s ≡ left n (handle a' j) s'
    pub stop : Store
    pub told : ToldAlike c s stop
    pub none : (j : Completion → Comp) → right 0 (handle b j) t ≡ ran Stops stop
    pub some : (n : ℕ) (j : Completion → Comp) → length s.log < c.limit → right (suc n) (handle b j) t ≡ right n (handle b' j) t'

  pub data InStep : World → Comp → Comp → Type 0 where
    rets : {w : World} {x y : Completion} → AlikeCompletions w x y → InStep w (ret x) (ret y)
    refuses : {w : World} (k : Kind) → InStep w (refuse k) (refuse k)
    runs : {w : World} {a b : Comp} (go : (s t : Store) → AlikeStores c w s t → Goes w s t a b) →
        ((s t : Store) (x : AlikeStores c w s t) → InStep (go s t x).v (go s t x).a' (go s t x).b') → InStep w a b
    enters : {w : World} {e f : Entry} {i j : Completion → Comp} → AlikeEntries c w e f →
        ((v : World) → Later w v → (x y : Completion) → AlikeCompletions v x y → InStep v (i x) (j y)) → InStep w (enter e i) (enter f j)
    steps : {w : World} {e : Entry} {i : Completion → Comp} {b : Comp} (go : (s t : Store) → AlikeStores c w s t → Steps w s t e i b) →
        ((s t : Store) (x : AlikeStores c w s t) → InStep (go s t x).v (go s t x).a' (go s t x).b') → InStep w (enter e i) b

  -- the code of a mark: a step, and a value, and the mark is counted
  pub record Ticks (w : World) (mark : Mark) (s t : Store) (b : Comp) : Type 0 where
    pub v : World
    pub t' : Store
    pub value : Value
    pub later : Later w v
    pub alike : AlikeStores c v (note mark s) t'
    pub stop : Store
    pub told : ToldAlike c s stop
    pub none : (j : Completion → Comp) → right 0 (handle b j) t ≡ ran Stops stop
    pub some : (n : ℕ) (j : Completion → Comp) → length s.log < c.limit → right (suc n) (handle b j) t ≡ right n (j (Normal value)) t'
