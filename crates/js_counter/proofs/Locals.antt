-- The names of a call that runs.
use Rattle.std.proofs.Common.{◌≡◌, ℕ, suc, List, [], ◌∷◌, ◌++◌, Some, None, refl, ap, ◌∙◌}
use Rattle.std.specs.Prelude.{slice_index_or, slice_set, option_map}
use Rattle.std.proofs.Math.Seq.{set-append_seam}
use Rattle.js_terms.specs.declared.words.Spelled.{Spelled}
use Rattle.js_tree.specs.Plain.{Expr, Stmt, Stmts, more_stmt}
use Rattle.js_value.specs.declared.value.Value.{Value}
use Rattle.js_value.specs.State.{ObjectRecord, Binding, Environment, Heap, Store}
use Rattle.js_value.specs.Environments.{Cell, Assign, Done, next_environment, no_binding, environment_at, place_in, place_of, lookup, assign_to, assign_answer, assigned}
use Rattle.js_value.specs.Functions.{name_units}
use Rattle.js_value.specs.Realm.{undefined}
use Rattle.js_meaning.specs.declared.outcome.Completion.TheVariants.{Normal}
use Rattle.js_meaning.specs.Effects.{handle}
use Rattle.js_meaning.specs.Program.{Sources, function_at}
use Rattle.js_meaning.specs.Scopes.{body_made, body_scope}
use Rattle.js_meaning.specs.Meaning.{with_value, done, read, write, named_function, comp_expr, comp_stmt, comp_stmts}
use Rattle.js_meaning.specs.Files.{this_bound, comp_coded, call_code, after_call}
use Rattle.js_meaning.specs.Points.{Comes, point, onward}
use Rattle.js_counter.specs.First.{var_, does, first_body, first_code, locals, NoName}
use Rattle.js_meaning.proofs.PointLemmas.{point_handle, reads_name, writes_name}
use Rattle.js_counter.proofs.Places.{place_later}
use Rattle.js_counter.proofs.Heaps.{env_of, at_top, all_declared, scope_is, looked_up}

-- a statement that declares a name, and more statements
pub var_then : (p : Sources) (w : List ℕ) (x : Expr) (y : Stmt) (ys : Stmts) (env : ℕ) (s t u : Store) (v : Value) → named_function x (name_units w) env ≡ None →
    point (comp_expr p x env) s ≡ Comes (Normal v) t → point (write w env v) t ≡ Comes (Normal v) u →
    point (comp_stmts p (more_stmt (var_ w x) (more_stmt y ys)) env) s ≡ point (comp_stmts p (more_stmt y ys) env) u
var_then p w x y ys env s t u v bare gives writes =
    let rest = comp_stmts p (more_stmt y ys) env in
    ap (λ o. point (handle (handle (handle (elim o [ None ↦ comp_expr p x env | Some c ↦ c ]) (with_value (write w env))) (with_value (λ v. done))) (with_value (λ v. rest))) s) bare
    ∙ point_handle (handle (handle (comp_expr p x env) (with_value (write w env))) (with_value (λ v. done))) (with_value (λ v. rest)) s
    ∙ ap (λ q. onward q (with_value (λ v. rest)))
    (point_handle (handle (comp_expr p x env) (with_value (write w env))) (with_value (λ v. done)) s
    ∙ ap (λ q. onward q (with_value (λ v. done)))
    (point_handle (comp_expr p x env) (with_value (write w env)) s ∙ ap (λ q. onward q (with_value (write w env))) gives ∙ writes))

-- another statement, and more
pub stmt_then : (p : Sources) (x y : Stmt) (ys : Stmts) (env : ℕ) (s t : Store) (v : Value) → point (comp_stmt p x [] env) s ≡ Comes (Normal v) t →
    point (comp_stmts p (more_stmt x (more_stmt y ys)) env) s ≡ point (comp_stmts p (more_stmt y ys) env) t
stmt_then p x y ys env s t v gives =
    point_handle (comp_stmt p x [] env) (with_value (λ v. comp_stmts p (more_stmt y ys) env)) s
    ∙ ap (λ q. onward q (with_value (λ v. comp_stmts p (more_stmt y ys) env))) gives

pub does_it : (p : Sources) (x : Expr) (env : ℕ) (s t : Store) (v : Value) → point (comp_expr p x env) s ≡ Comes (Normal v) t →
    point (comp_stmt p (does x) [] env) s ≡ Comes (Normal undefined) t
does_it p x env s t v gives = point_handle (comp_expr p x env) (with_value (λ v. done)) s ∙ ap (λ q. onward q (with_value (λ v. done))) gives

pub no_place : (name : List ℕ) (bs : List Binding) → NoName name bs → place_in bs name ≡ None
no_place name [] n = refl
no_place name (b ∷ bs) n = place_later name b bs n.0 ∙ ap (option_map suc) (no_place name bs n.1)

module _ (s : Store) (outer : ℕ) where
  -- the environment of the call
  abbrev pub e : ℕ
  e = next_environment s.heap

  abbrev pub heap_of : List ObjectRecord → List Binding → Heap
  heap_of objects bs = record { objects = objects; environments = s.heap.environments ++ env_of outer bs ∷ [] }

  -- the store while it runs: with these objects, and these names of its own
  abbrev pub now : List ObjectRecord → List Binding → Store
  now objects bs = record s { heap = heap_of objects bs }

  here : (objects : List ObjectRecord) (bs : List Binding) → environment_at (heap_of objects bs) e ≡ env_of outer bs
  here objects bs = at_top (env_of outer bs) s.heap

  local_found : (objects : List ObjectRecord) (bs : List Binding) (i : ℕ) (name : List ℕ) → place_of (env_of outer bs) name ≡ Some i →
      lookup (heap_of objects bs) e name ≡ Some (record { environment = e; place = i })
  local_found objects bs i name at = looked_up (heap_of objects bs) e name (env_of outer bs) i (here objects bs) at

  pub local_reads : (objects : List ObjectRecord) (bs : List Binding) (i : ℕ) (name : List ℕ) (v : Value) → place_of (env_of outer bs) name ≡ Some i →
      (slice_index_or bs i no_binding).value ≡ Some v → point (read name e) (now objects bs) ≡ Comes (Normal v) (now objects bs)
  local_reads objects bs i name v at held = reads_name (now objects bs) name e _ v (local_found objects bs i name at)
      (ap (λ (x : Environment). (slice_index_or x.bindings i no_binding).value) (here objects bs) ∙ held)

  pub local_writes : (objects : List ObjectRecord) (bs : List Binding) (i : ℕ) (name : List ℕ) (v : Value) → place_of (env_of outer bs) name ≡ Some i →
      assign_to (slice_index_or bs i no_binding) ≡ Done →
      point (write name e v) (now objects bs) ≡ Comes (Normal v) (now objects (slice_set bs i (record (slice_index_or bs i no_binding) { value = Some v })))
  local_writes objects bs i name v at may =
      let cell : Cell = record { environment = e; place = i } in
      let answer : assign_answer (heap_of objects bs) cell ≡ Done = ap (λ (x : Environment). assign_to (slice_index_or x.bindings i no_binding)) (here objects bs) ∙ may in
      writes_name (now objects bs) name e cell v (local_found objects bs i name at) answer
      ∙ ap (λ a. Comes (Normal v) (now_put a (environment_at (heap_of objects bs) e))) answer
      ∙ ap (λ x. Comes (Normal v) (now_put Done x)) (here objects bs)
      ∙ ap (λ es. Comes (Normal v) (record s { heap = record { objects = objects; environments = es } })) (set-append_seam s.heap.environments (env_of outer bs) [] _)
    where
      now_put : Assign → Environment → Store
      now_put a x = record s {
        heap = record {
          objects = objects;
          environments = slice_set (s.heap.environments ++ env_of outer bs ∷ []) e
              (record { outer = x.outer; bindings = slice_set x.bindings i (assigned a v (slice_index_or x.bindings i no_binding)) });
        };
      }

  -- the call begins: an environment of its names, none of which holds anything
  pub begins : (p : Sources) (code n k : ℕ) (name : List ℕ) (path hash gcv : Spelled) (made : Expr) → function_at p code ≡ Some (first_code n name path hash gcv made k) →
      point (call_code p code outer undefined []) s
      ≡ onward (point (comp_stmts p (first_body name path hash gcv made k) e)
      (now s.heap.objects (locals undefined undefined undefined undefined undefined undefined undefined))) after_call
  begins p code n k name path hash gcv made is_code =
      let body = comp_stmts p (first_body name path hash gcv made k) e in
      let names = body_scope (first_body name path hash gcv made k) in
      ap (λ o. point (handle (comp_coded p o outer undefined []) after_call) s) is_code
      ∙ ap (λ h. point (handle body after_call) (record s { heap = body_made [] names e h })) (scope_is (this_bound undefined) outer s.heap)
      ∙ ap (λ h. point (handle body after_call) (record s { heap = h })) (all_declared outer (this_bound undefined) _ s.heap)
      ∙ point_handle body after_call (now s.heap.objects (locals undefined undefined undefined undefined undefined undefined undefined))
