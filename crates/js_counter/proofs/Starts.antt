-- The start of a file that has counters.
use Rattle.std.proofs.Common.{Option, ◌≡◌, ℕ, suc, List, [], ◌∷◌, None, refl, sym, ap, ◌∙◌}
use Rattle.js_terms.specs.declared.place.Loc.{Loc}
use Rattle.js_terms.specs.declared.words.Spelled.{Spelled}
use Rattle.js_tree.specs.Plain.{Stmt, Stmts, no_stmt, more_stmt, FunctionDeclaration, MakeFunction, MakeFunctionBody, no_param}
use Rattle.js_value.specs.declared.value.Value.{Value}
use Rattle.js_value.specs.State.{Store}
use Rattle.js_value.specs.Objects.{next_object}
use Rattle.js_meaning.specs.declared.outcome.Completion.{Completion}
use Rattle.js_meaning.specs.Effects.{Comp, handle, exec}
use Rattle.js_meaning.specs.Steps.{Stopped, eval, ran_by}
use Rattle.js_meaning.specs.Program.{Sources}
use Rattle.js_meaning.specs.Meaning.{with_value, done, comp_expr, comp_stmts}
use Rattle.js_meaning.specs.Files.{inside, begin, comp_file, after_call, run_source}
use Rattle.js_meaning.proofs.Handle.{handle_again, exec_eval}
use Rattle.js_meaning.specs.Points.{point, TakesOne, from_point}
use Rattle.js_counter.specs.Literals.{expr_of}
use Rattle.js_counter.specs.Steady.{call_of}
use Rattle.js_counter.specs.First.{does, first_body}
use Rattle.js_counter.specs.Starts.{after_directives, opening_of, file_env, file_store, StartsFile}
use Rattle.js_meaning.proofs.PointLemmas.{eval_point}

-- what has the same point runs alike
same_run : (p : Sources) (c d : Comp) (s t : Store) (n : ℕ) → point c s ≡ point d t → eval (inside p) n c s ≡ eval (inside p) n d t
same_run p c d s t n e = eval_point (inside p) n c s ∙ ap (from_point (inside p) n) e ∙ sym (eval_point (inside p) n d t)

module _ (p : Sources) (env : ℕ) (j k : Completion → Comp) where
  -- a list that goes on is run on
  directives_done : (ds : List (Option Loc × Spelled)) (x : Stmt) (xs : Stmts) (s : Store) →
      point (handle (handle (comp_stmts p (after_directives ds (more_stmt x xs)) env) j) k) s ≡ point (handle (handle (comp_stmts p (more_stmt x xs) env) j) k) s
  directives_done [] x xs s = refl
  directives_done (d ∷ []) x xs s = refl
  directives_done (d ∷ f ∷ ds) x xs s = directives_done (f ∷ ds) x xs s

  directives_alone : (ds : List (Option Loc × Spelled)) (s : Store) →
      point (handle (handle (comp_stmts p (after_directives ds no_stmt) env) j) k) s ≡ point (handle (handle (comp_stmts p no_stmt env) j) k) s
  directives_alone [] s = refl
  directives_alone (d ∷ []) s = refl
  directives_alone (d ∷ f ∷ ds) s = directives_alone (f ∷ ds) s

  -- so directives make no difference to a run
  directives_pass : (ds : List (Option Loc × Spelled)) (xs : Stmts) (s : Store) →
      point (handle (handle (comp_stmts p (after_directives ds xs) env) j) k) s ≡ point (handle (handle (comp_stmts p xs env) j) k) s
  directives_pass ds no_stmt s = directives_alone ds s
  directives_pass ds (more_stmt x xs) s = directives_done ds x xs s

  pub directives_run : (ds : List (Option Loc × Spelled)) (xs : Stmts) (n : ℕ) (s : Store) →
      exec (inside p) n (handle (handle (comp_stmts p (after_directives ds xs) env) j) k) s ≡ exec (inside p) n (handle (handle (comp_stmts p xs env) j) k) s
  directives_run ds xs n s =
      exec_eval (inside p) n (handle (handle (comp_stmts p (after_directives ds xs) env) j) k) s
      ∙ ap ran_by (same_run p (handle (handle (comp_stmts p (after_directives ds xs) env) j) k) (handle (handle (comp_stmts p xs env) j) k) s s n (directives_pass ds xs s))
      ∙ sym (exec_eval (inside p) n (handle (handle (comp_stmts p xs env) j) k) s)

  -- the call, and then the file's own statements
  abbrev own_rest : Stmts → Completion → Comp
  own_rest rest = with_value (λ v. handle (handle (comp_stmts p rest env) j) k)

  call_first : (name : List ℕ) (rest : Stmts) (v : Value) (s t : Store) → TakesOne p (comp_expr p (call_of name) env) s v t → (n : ℕ) →
      (eval (inside p) 0 (handle (handle (comp_stmts p (more_stmt (does (call_of name)) rest) env) j) k) s ≡ Stopped s)
      × (eval (inside p) (suc n) (handle (handle (comp_stmts p (more_stmt (does (call_of name)) rest) env) j) k) s ≡ eval (inside p) n (handle (handle (comp_stmts p rest env) j) k) t)
  call_first name no_stmt v s t takes n =
      let c = comp_expr p (call_of name) env in
      let next : Completion → Comp = λ o. handle (handle (with_value (λ v. done) o) j) k in
      let same : handle (handle (handle c (with_value (λ v. done))) j) k ≡ handle c next =
      ap (λ d. handle d k) (handle_again c (with_value (λ v. done)) j) ∙ handle_again c (λ o. handle (with_value (λ v. done) o) j) k in
      (ap (λ d. eval (inside p) 0 d s) same ∙ takes.none next, ap (λ d. eval (inside p) (suc n) d s) same ∙ takes.one n next)
  call_first name (more_stmt x xs) v s t takes n =
      let c = comp_expr p (call_of name) env in
      let rest = comp_stmts p (more_stmt x xs) env in
      let next : Completion → Comp = λ o. handle (handle (handle (with_value (λ v. done) o) (with_value (λ v. rest))) j) k in
      let same : handle (handle (handle (handle c (with_value (λ v. done))) (with_value (λ v. rest))) j) k ≡ handle c next =
      ap (λ d. handle (handle d j) k) (handle_again c (with_value (λ v. done)) (with_value (λ v. rest)))
      ∙ ap (λ d. handle d k) (handle_again c (λ o. handle (with_value (λ v. done) o) (with_value (λ v. rest))) j)
      ∙ handle_again c (λ o. handle (handle (with_value (λ v. done) o) (with_value (λ v. rest))) j) k in
      (ap (λ d. eval (inside p) 0 d s) same ∙ takes.none next, ap (λ d. eval (inside p) (suc n) d s) same ∙ takes.one n next)

pub starts_file : StartsFile
starts_file p source file ds name path hash gcv made number next rest comments s t v tree takes = (
  (λ j. same_run p (handle (run_source p source file) j) (opened j) s b 0 (begins j) ∙ (call_first p env after_call j name rest v b t takes 0).0),
  (λ n j. same_run p (handle (run_source p source file) j) (opened j) s b (suc n) (begins j) ∙ (call_first p env after_call j name rest v b t takes n).1),
)
  where
    env : ℕ
    env = file_env (begin source file s)

    xs : Stmts
    xs = opening_of ds name path hash gcv made number next rest

    b : Store
    b = file_store source file (opening_of ds name path hash gcv made number next rest) s

    opened : (Completion → Comp) → Comp
    opened j = handle (handle (comp_stmts p (more_stmt (does (call_of name)) rest) (file_env (begin source file s))) after_call) j

    begins : (j : Completion → Comp) → point (handle (run_source p source file) j) s
        ≡ point (handle (handle (comp_stmts p (more_stmt (does (call_of name)) rest) (file_env (begin source file s))) after_call) j) (file_store source file (opening_of ds name path hash gcv made number next rest) s)
    begins j = ap (λ x. point (handle (comp_file p x (next_object s.heap)) j) (begin source file s)) tree
        ∙ directives_done p (file_env (begin source file s)) after_call j ds
        (FunctionDeclaration None (record { loc = None; name = name }) (MakeFunction number no_param (MakeFunctionBody None (first_body name path hash gcv (expr_of made) next))))
        (more_stmt (does (call_of name)) rest) (file_store source file (opening_of ds name path hash gcv made number next rest) s)
