-- A run with marks, and the run without them: the second needs a step less for each mark and each start that the first was charged.
use Rattle.std.proofs.Common.{◌≡◌, ℕ, zero, suc, ◌+◌, true, List, [], ◌∷◌, ◌++◌, Option, Some, refl, sym, ap, ◌∙◌, subst, arith}
use Rattle.std.specs.Prelude.{slice_get}
use Rattle.std.proofs.lemmas.List.{length_push}
use Rattle.js_terms.specs.Mark.{Mark}
use Rattle.js_tree.specs.Marked.{one_if}
use Rattle.js_tree.specs.Plain.{Expr, Stmt, While, DoWhile, For, ForIn, ForOf, ForInit, ForTarget, MaybeExpr}
use Rattle.js_value.specs.Iterations.{Iteration}
use Rattle.js_tree.specs.Unmarked.{unmarked_expr, unmarked_stmt}
use Rattle.js_terms.specs.declared.place.Loc.{Loc}
use Rattle.js_value.specs.declared.value.Value.{Value}
use Rattle.js_value.specs.declared.value.Kind.{Kind}
use Rattle.js_value.specs.State.{Store}
use Rattle.js_value.specs.Objects.{next_object}
use Rattle.js_value.specs.Running.{note}
use Rattle.js_value.specs.Realm.{undefined}
use Rattle.js_meaning.specs.declared.outcome.Completion.{Completion}
use Rattle.js_meaning.specs.declared.outcome.Completion.TheVariants.{Normal, Break, Continue, Return, Throw}
use Rattle.js_meaning.specs.Effects.{Entry, Call, New, CallBuiltIn, Turn, Pass, Construct, Start, Comp, ret, refuse, act, enter, handle, Ran, exec}
use Rattle.js_meaning.specs.Program.{Source, Sources}
use Rattle.js_meaning.specs.Meaning.{with_value}
use Rattle.js_meaning.specs.Files.{inside, begin, comp_file, run_file}
use Rattle.js_meaning.specs.Laws.{RunsAlike, is_counted, counted_starts, charged, but_for}
use Rattle.js_meaning.proofs.Handle.{handle_again}
use Rattle.js_meaning.proofs.Growth.{Grows, grows_handle, same_list, adds}

-- what a step is for on both sides; a construct and the start of a counted file are none such
pub data SameEntry : Entry → Entry → Type 0 where
  calls : (code env : ℕ) (this : Value) (arguments : List Value) → SameEntry (Call code env this arguments) (Call code env this arguments)
  news : (maker code env : ℕ) (arguments : List Value) → SameEntry (New maker code env arguments) (New maker code env arguments)
  natives : (callee function : ℕ) (maker : Option ℕ) (this : Value) (arguments : List Value) →
      SameEntry (CallBuiltIn callee function maker this arguments) (CallBuiltIn callee function maker this arguments)
  do_turns : (loc : Option Loc) (x : Stmt) (e : Expr) (labels : List (List ℕ)) (env : ℕ) →
      SameEntry (Turn (DoWhile loc x e) labels env) (Turn (DoWhile loc (unmarked_stmt x) (unmarked_expr e)) labels env)
  while_turns : (loc : Option Loc) (e : Expr) (x : Stmt) (labels : List (List ℕ)) (env : ℕ) →
      SameEntry (Turn (While loc e x) labels env) (Turn (While loc (unmarked_expr e) (unmarked_stmt x)) labels env)
  for_turns : (loc : Option Loc) (start : ForInit) (e f : MaybeExpr) (x : Stmt) (labels : List (List ℕ)) (env : ℕ) →
      SameEntry (Turn (For loc start e f x) labels env) (Turn (unmarked_stmt (For loc start e f x)) labels env)
  in_passes : (loc : Option Loc) (target : ForTarget) (e : Expr) (x : Stmt) (labels : List (List ℕ)) (env inner : ℕ) (rest : Iteration) →
      SameEntry (Pass (ForIn loc target e x) labels env inner rest) (Pass (unmarked_stmt (ForIn loc target e x)) labels env inner rest)
  of_passes : (loc : Option Loc) (target : ForTarget) (e : Expr) (x : Stmt) (labels : List (List ℕ)) (env inner : ℕ) (rest : Iteration) →
      SameEntry (Pass (ForOf loc target e x) labels env inner rest) (Pass (unmarked_stmt (ForOf loc target e x)) labels env inner rest)

-- the second computation does what the first does but for its entries of constructs and its starts
pub data Thin (p : Sources) : Comp → Comp → Type 0 where
  rets : (c : Completion) → Thin p (ret c) (ret c)
  refuses : (k : Kind) → Thin p (refuse k) (refuse k)
  acts : {f g : Store → Store} {i j : Store → Comp} →
      ((s : Store) → charged p (f s) ≡ charged p s) →
      ((log : List Mark) (started : List ℕ) (s : Store) → g (but_for log started s) ≡ but_for log started (f s)) →
      ((log : List Mark) (started : List ℕ) (s : Store) → Thin p (i s) (j (but_for log started s))) →
      Thin p (act f i) (act g j)
  enters : {e f : Entry} {i j : Completion → Comp} → SameEntry e f → ((c : Completion) → Thin p (i c) (j c)) → Thin p (enter e i) (enter f j)
  marks : {i : Completion → Comp} {d : Comp} (mark : Mark) → Thin p (i (Normal undefined)) d → Thin p (enter (Construct mark) i) d
  starts : {i : Completion → Comp} {g : Store → Store} {j : Store → Comp} (file : ℕ) (source : Source) →
      slice_get p.files file ≡ Some source → source.counted ≡ true →
      ((log : List Mark) (started : List ℕ) (s : Store) → g (but_for log started s) ≡ but_for log started (begin source file s)) →
      ((log : List Mark) (started : List ℕ) (s : Store) → Thin p (handle (comp_file p source.tree (next_object s.heap)) i) (j (but_for log started s))) →
      Thin p (enter (Start file) i) (act g j)

module _ (p : Sources) where
  pub handle_thin : {c d : Comp} {f g : Completion → Comp} → Thin p c d → ((c : Completion) → Thin p (f c) (g c)) → Thin p (handle c f) (handle d g)
  handle_thin (rets c) n = n c
  handle_thin (refuses k) n = refuses k
  handle_thin (acts h e t) n = acts h e (λ log started s. handle_thin (t log started s) n)
  handle_thin (enters e t) n = enters e (λ c. handle_thin (t c) n)
  handle_thin (marks mark t) n = marks mark (handle_thin t n)
  handle_thin {f = f} {g = g} (starts {i = i} {j = j} file source at counted e t) n = starts file source at counted e (λ log started s.
      subst (λ c. Thin p c (handle (j (but_for log started s)) g)) (handle_again (comp_file p source.tree (next_object s.heap)) i f)
      (handle_thin (t log started s) n))

  pub value_thin : {f g : Value → Comp} → ((v : Value) → Thin p (f v) (g v)) → (c : Completion) → Thin p (with_value f c) (with_value g c)
  value_thin h (Normal v) = h v
  value_thin h (Break label) = rets (Break label)
  value_thin h (Continue label) = rets (Continue label)
  value_thin h (Return v) = rets (Return v)
  value_thin h (Throw v) = rets (Throw v)

  pub then_thin : {c d : Comp} {f g : Value → Comp} → Thin p c d → ((v : Value) → Thin p (f v) (g v)) →
      Thin p (handle c (with_value f)) (handle d (with_value g))
  then_thin h n = handle_thin h (value_thin n)

  -- where a file is started, the starts of counted files are one more if it is counted
  pub counted_more : (files : List ℕ) (file : ℕ) → counted_starts p (files ++ file ∷ []) ≡ counted_starts p files + one_if (is_counted (slice_get p.files file))
  counted_more [] file = omega arith
  counted_more (x ∷ files) file = omega (arith, counted_more files file)

  pub begun : (source : Source) (file : ℕ) (s : Store) → slice_get p.files file ≡ Some source →
      charged p (begin source file s) ≡ charged p s + one_if source.counted
  begun source file s at =
      let more = counted_more s.starts file in
      let one : one_if (is_counted (slice_get p.files file)) ≡ one_if source.counted = ap (λ x. one_if (is_counted x)) at in
      omega (arith, more, one)

  noted : (mark : Mark) (s : Store) → charged p (note mark s) ≡ suc (charged p s)
  noted mark s = let more = length_push s.log mark in omega (arith, more)

  module _ (q : Sources) (grown : (e : Entry) → Grows (inside q e)) (insides : (e f : Entry) → SameEntry e f → Thin p (inside p e) (inside q f)) where
    -- what came of n steps from s, and the run of d with so many steps less as were charged
    pub record Thinner (n : ℕ) (s : Store) (r : Ran) (d : Comp) (t : Store) : Type 0 where
      pub m : ℕ
      pub spent : m + charged p r.store ≡ n + charged p s
      pub alike : RunsAlike r (exec (inside q) m d t)

    abbrev Follows : ℕ → Type 0
    Follows n = (c d : Comp) → Thin p c d → Grows d → (log : List Mark) (started : List ℕ) (s : Store) →
        Thinner n s (exec (inside p) n c s) d (but_for log started s)

    no_more : {c d : Comp} → Thin p c d → Grows d → (log : List Mark) (started : List ℕ) (s : Store) →
        Thinner 0 s (exec (inside p) 0 c s) d (but_for log started s)
    no_more (rets c) g log started s = record { m = 0; spent = refl; alike = record { outcome = λ o. refl; store = λ o. refl; output = same_list s.output } }
    no_more (refuses k) g log started s = record { m = 0; spent = refl; alike = record { outcome = λ o. refl; store = λ o. refl; output = same_list s.output } }
    no_more (acts {f = f} {g = g'} {i = i} {j = j} h e t) g log started s =
        let r = no_more (t log started s) (g (but_for log started s)).1 log started (f s) in
        record {
          m = r.m;
          spent = r.spent ∙ ap (λ x. 0 + x) (h s);
          alike = subst (λ u. RunsAlike (exec (inside p) 0 (i s) (f s)) (exec (inside q) r.m (j (but_for log started s)) u)) (sym (e log started s)) r.alike;
        }
    no_more (enters e t) g log started s = record { m = 0; spent = refl; alike = record { outcome = λ o. absurd o; store = λ o. absurd o; output = same_list s.output } }
    no_more (marks {d = d} mark t) g log started s = record {
      m = 0;
      spent = refl;
      alike = record { outcome = λ o. absurd o; store = λ o. absurd o; output = (adds (inside q) grown 0 d (but_for log started s) g).output };
    }
    no_more (starts {g = f} {j = j} file source at counted e t) g log started s = record {
      m = 0;
      spent = refl;
      alike = record { outcome = λ o. absurd o; store = λ o. absurd o; output = (adds (inside q) grown 0 (act f j) (but_for log started s) g).output };
    }

    one_more : (n : ℕ) → Follows n → {c d : Comp} → Thin p c d → Grows d → (log : List Mark) (started : List ℕ) (s : Store) →
        Thinner (suc n) s (exec (inside p) (suc n) c s) d (but_for log started s)
    one_more n ih (rets c) g log started s = record { m = suc n; spent = refl; alike = record { outcome = λ o. refl; store = λ o. refl; output = same_list s.output } }
    one_more n ih (refuses k) g log started s = record { m = suc n; spent = refl; alike = record { outcome = λ o. refl; store = λ o. refl; output = same_list s.output } }
    one_more n ih (acts {f = f} {g = g'} {i = i} {j = j} h e t) g log started s =
        let r = one_more n ih (t log started s) (g (but_for log started s)).1 log started (f s) in
        record {
          m = r.m;
          spent = r.spent ∙ ap (λ x. suc n + x) (h s);
          alike = subst (λ u. RunsAlike (exec (inside p) (suc n) (i s) (f s)) (exec (inside q) r.m (j (but_for log started s)) u)) (sym (e log started s)) r.alike;
        }
    one_more n ih (enters {e = e} {f = f} {i = i} {j = j} h t) g log started s =
        let r = ih (handle (inside p e) i) (handle (inside q f) j) (handle_thin (insides e f h) t) (grows_handle (inside q f) j (grown f) g) log started s in
        record { m = suc r.m; spent = let x = r.spent in omega (arith, x); alike = r.alike }
    one_more n ih (marks {i = i} {d = d} mark t) g log started s =
        let r = ih (i (Normal undefined)) d t g log started (note mark s) in
        record { m = r.m; spent = let x = r.spent in let y = noted mark s in omega (arith, x, y); alike = r.alike }
    one_more n ih (starts {i = i} {g = f} {j = j} file source at counted e t) g log started s =
        let r = ih (handle (comp_file p source.tree (next_object s.heap)) i) (j (but_for log started s)) (t log started s) (g (but_for log started s)).1 log started (begin source file s) in
        subst (λ o. Thinner (suc n) s (exec (inside p) n (handle (run_file p o file) i) s) (act f j) (but_for log started s)) (sym at)
        (record {
          m = r.m;
          spent = let x = r.spent in let y = begun source file s at in let z : one_if source.counted ≡ 1 = ap one_if counted in omega (arith, x, y, z);
          alike = subst (λ u. RunsAlike (exec (inside p) n (handle (comp_file p source.tree (next_object s.heap)) i) (begin source file s)) (exec (inside q) r.m (j (but_for log started s)) u)) (sym (e log started s)) r.alike;
        })

    pub thinner : (n : ℕ) → Follows n
    thinner zero c d t = no_more t
    thinner (suc n) c d t = one_more n (thinner n) t
