-- Computations that do the same, but for the trees of the loops whose turns they ask for; and their runs, which are equal.
use Rattle.std.proofs.Common.{◌≡◌, ℕ, zero, suc, List, Option, None, refl, sym, ap, ◌∙◌}
use Rattle.js_terms.specs.Mark.{Mark}
use Rattle.js_tree.specs.Plain.{Expr, Stmt, While, DoWhile, For, ForIn, ForOf, ForInit, ForTarget, MaybeExpr}
use Rattle.js_tree.specs.Same.{bare_expr, bare_stmt}
use Rattle.js_terms.specs.declared.place.Loc.{Loc}
use Rattle.js_value.specs.Iterations.{Iteration}
use Rattle.js_value.specs.declared.value.Value.{Value}
use Rattle.js_value.specs.declared.value.Kind.{Kind}
use Rattle.js_value.specs.State.{Store}
use Rattle.js_meaning.specs.declared.outcome.Completion.{Completion}
use Rattle.js_meaning.specs.declared.outcome.Completion.TheVariants.{Normal, Break, Continue, Return, Throw}
use Rattle.js_meaning.specs.Effects.{Entry, Call, New, CallBuiltIn, Turn, Pass, Construct, Start, Comp, ret, refuse, act, enter, handle, exec}
use Rattle.js_meaning.specs.Meaning.{with_value}

-- what a step is for on both sides
pub data SameEntry : Entry → Entry → Type 0 where
  calls : (code env : ℕ) (this : Value) (arguments : List Value) → SameEntry (Call code env this arguments) (Call code env this arguments)
  news : (maker code env : ℕ) (arguments : List Value) → SameEntry (New maker code env arguments) (New maker code env arguments)
  natives : (callee function : ℕ) (maker : Option ℕ) (this : Value) (arguments : List Value) →
      SameEntry (CallBuiltIn callee function maker this arguments) (CallBuiltIn callee function maker this arguments)
  do_turns : (loc : Option Loc) (x : Stmt) (e : Expr) (labels : List (List ℕ)) (env : ℕ) →
      SameEntry (Turn (DoWhile loc x e) labels env) (Turn (DoWhile None (bare_stmt x) (bare_expr e)) labels env)
  while_turns : (loc : Option Loc) (e : Expr) (x : Stmt) (labels : List (List ℕ)) (env : ℕ) →
      SameEntry (Turn (While loc e x) labels env) (Turn (While None (bare_expr e) (bare_stmt x)) labels env)
  for_turns : (loc : Option Loc) (start : ForInit) (e f : MaybeExpr) (x : Stmt) (labels : List (List ℕ)) (env : ℕ) →
      SameEntry (Turn (For loc start e f x) labels env) (Turn (bare_stmt (For loc start e f x)) labels env)
  in_passes : (loc : Option Loc) (target : ForTarget) (e : Expr) (x : Stmt) (labels : List (List ℕ)) (env inner : ℕ) (rest : Iteration) →
      SameEntry (Pass (ForIn loc target e x) labels env inner rest) (Pass (bare_stmt (ForIn loc target e x)) labels env inner rest)
  of_passes : (loc : Option Loc) (target : ForTarget) (e : Expr) (x : Stmt) (labels : List (List ℕ)) (env inner : ℕ) (rest : Iteration) →
      SameEntry (Pass (ForOf loc target e x) labels env inner rest) (Pass (bare_stmt (ForOf loc target e x)) labels env inner rest)
  constructs : (mark : Mark) → SameEntry (Construct mark) (Construct mark)
  files : (file : ℕ) → SameEntry (Start file) (Start file)

-- the second computation does what the first does
pub data Alike : Comp → Comp → Type 0 where
  rets : (c : Completion) → Alike (ret c) (ret c)
  refuses : (k : Kind) → Alike (refuse k) (refuse k)
  acts : {f g : Store → Store} {i j : Store → Comp} → ((s : Store) → g s ≡ f s) → ((s : Store) → Alike (i s) (j s)) → Alike (act f i) (act g j)
  enters : {e f : Entry} {i j : Completion → Comp} → SameEntry e f → ((c : Completion) → Alike (i c) (j c)) → Alike (enter e i) (enter f j)

pub handle_alike : {c d : Comp} {f g : Completion → Comp} → Alike c d → ((c : Completion) → Alike (f c) (g c)) → Alike (handle c f) (handle d g)
handle_alike (rets c) n = n c
handle_alike (refuses k) n = refuses k
handle_alike (acts e t) n = acts e (λ s. handle_alike (t s) n)
handle_alike (enters e t) n = enters e (λ c. handle_alike (t c) n)

pub value_alike : {f g : Value → Comp} → ((v : Value) → Alike (f v) (g v)) → (c : Completion) → Alike (with_value f c) (with_value g c)
value_alike h (Normal v) = h v
value_alike h (Break label) = rets (Break label)
value_alike h (Continue label) = rets (Continue label)
value_alike h (Return v) = rets (Return v)
value_alike h (Throw v) = rets (Throw v)

pub then_alike : {c d : Comp} {f g : Value → Comp} → Alike c d → ((v : Value) → Alike (f v) (g v)) → Alike (handle c (with_value f)) (handle d (with_value g))
then_alike h n = handle_alike h (value_alike n)

module _ (inside other : Entry → Comp) (insides : (e f : Entry) → SameEntry e f → Alike (inside e) (other f)) where
  abbrev Runs : ℕ → Type 0
  Runs n = (c d : Comp) → Alike c d → (s : Store) → exec inside n c s ≡ exec other n d s

  none_left : {c d : Comp} → Alike c d → (s : Store) → exec inside 0 c s ≡ exec other 0 d s
  none_left (rets c) s = refl
  none_left (refuses k) s = refl
  none_left (acts {f = f} {j = j} e t) s = none_left (t s) (f s) ∙ ap (λ u. exec other 0 (j s) u) (sym (e s))
  none_left (enters e t) s = refl

  one_more : (n : ℕ) → Runs n → {c d : Comp} → Alike c d → (s : Store) → exec inside (suc n) c s ≡ exec other (suc n) d s
  one_more n ih (rets c) s = refl
  one_more n ih (refuses k) s = refl
  one_more n ih (acts {f = f} {j = j} e t) s = one_more n ih (t s) (f s) ∙ ap (λ u. exec other (suc n) (j s) u) (sym (e s))
  one_more n ih (enters {e = e} {f = f} {i = i} {j = j} h t) s = ih (handle (inside e) i) (handle (other f) j) (handle_alike (insides e f h) t) s

  pub runs_alike : (n : ℕ) → Runs n
  runs_alike zero c d t s = none_left t s
  runs_alike (suc n) c d t s = one_more n (runs_alike n) t s
