-- The first call of a file's function, statement by statement.
use Rattle.std.proofs.Common.{◌≡◌, ℕ, suc, ◌<◌, List, [], length, codes, Some, None, refl, ap, ◌∙◌, arith}
use Rattle.std.specs.Prelude.{slice_index_or}
use Rattle.std.proofs.lemmas.List.{get_or-set_other}
use Rattle.js_terms.specs.declared.words.Spelled.{Spelled}
use Rattle.js_tree.specs.Plain.{Expr, StringLiteral, Stmt, Stmts, Return, some_expr, more_stmt, no_stmt}
use Rattle.js_tree.specs.Codes.{Code, Ordinary}
use Rattle.js_tree.specs.Plain.{MakeFunction, MakeFunctionBody, no_param}
use Rattle.js_value.specs.declared.value.Value.{Value}
use Rattle.js_value.specs.State.{ObjectRecord, Binding, Environment, Heap, Store}
use Rattle.js_value.specs.Environments.{Cell, Done, next_environment, no_environment, no_binding, environment_at, place_of, lookup, binding_at, value_of, assign_answer, assign_to, assign}
use Rattle.js_value.specs.Functions.{name_units}
use Rattle.js_value.specs.Realm.{object, text, undefined}
use Rattle.js_value.specs.Running.{on_heap}
use Rattle.js_meaning.specs.declared.outcome.Completion.TheVariants as completion
use Rattle.js_meaning.specs.declared.outcome.Completion.TheVariants.{Normal}
use Rattle.js_meaning.specs.Effects.{ret}
use Rattle.js_meaning.specs.Program.{Sources, function_at}
use Rattle.js_meaning.specs.Scopes.{closed, shape_of}
use Rattle.js_meaning.specs.Meaning.{with_value, read, named_function, comp_expr, comp_stmt, comp_stmts}
use Rattle.js_meaning.specs.Files.{call_code, after_call}
use Rattle.js_meaning.specs.Points.{Comes, point, onward}
use Rattle.js_value.proofs.LookupLemmas.{shows_same, resolved_kept}
use Rattle.js_counter.specs.Represents.{Json, value_at}
use Rattle.js_counter.specs.Literals.{Makes}
use Rattle.js_counter.specs.First.{name_, var_, does, assigned_, path_, hash_, gcv_, data_, global_, coverage_, actual_, data_of_, covering, replacing, replaced, first_body, first_code, locals, NoName}
use Rattle.js_counter.specs.Preamble.{Seen}
use Rattle.js_meaning.proofs.PointLemmas.{point_handle, reads_name, writes_name}
use Rattle.js_counter.proofs.Heaps.{env_of, at_top, below_top, looked_out, looked_up}
use Rattle.js_counter.proofs.Locals.{var_then, stmt_then, does_it, no_place, e, heap_of, now, local_writes, begins}

module _ (p : Sources) (s : Store) (outer : ℕ) (low : outer < next_environment s.heap)
    (older : (e o : ℕ) → e < next_environment s.heap → (environment_at s.heap e).outer ≡ Some o → o < e) where
  -- a name from around, while the call runs
  outside : (objects : List ObjectRecord) (bs : List Binding) (name : List ℕ) (seen : Seen s.heap outer name) → place_of (env_of outer bs) name ≡ None →
      lookup (heap_of s outer objects bs) (e s outer) name ≡ Some seen.cell
  outside objects bs name seen at =
      looked_out (heap_of s outer objects bs) (e s outer) name (env_of outer bs) (at_top (env_of outer bs) s.heap) at
      ∙ resolved_kept s.heap.environments (heap_of s outer objects bs).environments name seen.cell (λ x l. shows_same name _ _ (below_top (env_of outer bs) s.heap x l)) older
      (suc outer) (e s outer) outer low (omega arith) seen.found

  cell_same : (objects : List ObjectRecord) (bs : List Binding) (cell : Cell) → cell.environment < next_environment s.heap →
      binding_at (heap_of s outer objects bs) cell ≡ binding_at s.heap cell
  cell_same objects bs cell l = ap (λ (x : Environment). slice_index_or x.bindings cell.place no_binding) (below_top (env_of outer bs) s.heap cell.environment l)

  module _ (name : List ℕ) (path hash gcv : Spelled) (made : Expr) (n k code : ℕ)
      (is_code : function_at p code ≡ Some (first_code n name path hash gcv made k)) where
    abbrev u : Value
    u = undefined

    abbrev P : Value
    P = text path.units

    abbrev H : Value
    H = text hash.units

    abbrev G : Value
    G = text gcv.units

    abbrev at0 : Store
    at0 = now s outer s.heap.objects (locals P H G u u u u)

    module _ (bare : named_function made (name_units data_) (e s outer) ≡ None) (json : Json) (m : Makes (comp_expr p made (e s outer)) at0 json) where
      abbrev D : Value
      D = value_at m.placed

      made_is : on_heap (λ h. m.heap) at0 ≡ now s outer m.heap.objects (locals P H G u u u u)
      made_is = ap (λ es. record s { heap = record { objects = m.heap.objects; environments = es } }) m.grows.environments

      module _ (g : ℕ) (seen : Seen s.heap outer (codes "globalThis")) (is_global : value_of s.heap seen.cell ≡ Some (object g))
          (c : ℕ) (X2 X3 : List ObjectRecord) (v : Value) where
        abbrev O : Value
        O = object g

        abbrev C : Value
        C = object c

        abbrev at4 : Store
        at4 = now s outer m.heap.objects (locals P H G D O u u)

        abbrev at5 : Store
        at5 = now s outer X2 (locals P H G D O C u)

        abbrev at6 : Store
        at6 = now s outer X3 (locals P H G D O C u)

        abbrev at7 : Store
        at7 = now s outer X3 (locals P H G D O C v)

        global_reads : point (comp_expr p (name_ (codes "globalThis")) (e s outer)) (now s outer m.heap.objects (locals P H G D u u u))
            ≡ Comes (Normal O) (now s outer m.heap.objects (locals P H G D u u u))
        global_reads = reads_name _ (codes "globalThis") (e s outer) seen.cell O (outside m.heap.objects (locals P H G D u u u) (codes "globalThis") seen refl)
            (ap (λ (b : Binding). b.value) (cell_same m.heap.objects (locals P H G D u u u) seen.cell seen.low) ∙ is_global)

        -- the expression of the coverage, the statement that puts the data there, and the expression of what is there then
        module _ (covers : point (comp_expr p covering (e s outer)) at4 ≡ Comes (Normal C) (now s outer X2 (locals P H G D O u u)))
            (replaces : point (comp_stmt p replacing [] (e s outer)) at5 ≡ Comes (Normal undefined) at6)
            (gets : point (comp_expr p data_of_ (e s outer)) at6 ≡ Comes (Normal v) at6) where
          abbrev last : Expr
          last = assigned_ (name_ name) (replaced k)

          abbrev now_with : List ObjectRecord → List Binding → Store
          now_with = now s outer

          abbrev returning : Stmt
          returning = Return None (some_expr (name_ actual_))

          abbrev tail9 : Stmts
          tail9 = more_stmt (does last) (more_stmt returning no_stmt)

          abbrev tail8 : Stmts
          tail8 = more_stmt (var_ actual_ data_of_) tail9

          abbrev tail7 : Stmts
          tail7 = more_stmt replacing tail8

          abbrev tail6 : Stmts
          tail6 = more_stmt (var_ coverage_ covering) tail7

          abbrev tail5 : Stmts
          tail5 = more_stmt (var_ global_ (name_ (codes "globalThis"))) tail6

          abbrev tail4 : Stmts
          tail4 = more_stmt (var_ data_ made) tail5

          abbrev X0 : List ObjectRecord
          X0 = s.heap.objects

          abbrev X1 : List ObjectRecord
          X1 = m.heap.objects

          first_three : point (comp_stmts p (first_body name path hash gcv made k) (e s outer)) (now s outer X0 (locals u u u u u u u)) ≡ point (comp_stmts p tail4 (e s outer)) at0
          first_three =
              var_then p path_ (StringLiteral None path) (var_ hash_ (StringLiteral None hash)) (more_stmt (var_ gcv_ (StringLiteral None gcv)) tail4) (e s outer)
              (now_with X0 (locals u u u u u u u)) (now_with X0 (locals u u u u u u u)) (now_with X0 (locals P u u u u u u)) P refl refl
              (local_writes s outer X0 (locals u u u u u u u) 1 path_ P refl refl)
              ∙ var_then p hash_ (StringLiteral None hash) (var_ gcv_ (StringLiteral None gcv)) tail4 (e s outer)
              (now_with X0 (locals P u u u u u u)) (now_with X0 (locals P u u u u u u)) (now_with X0 (locals P H u u u u u)) H refl refl
              (local_writes s outer X0 (locals P u u u u u u) 2 hash_ H refl refl)
              ∙ var_then p gcv_ (StringLiteral None gcv) (var_ data_ made) tail5 (e s outer)
              (now_with X0 (locals P H u u u u u)) (now_with X0 (locals P H u u u u u)) at0 G refl refl
              (local_writes s outer X0 (locals P H u u u u u) 3 gcv_ G refl refl)

          next_three : point (comp_stmts p tail4 (e s outer)) at0 ≡ point (comp_stmts p tail7 (e s outer)) at5
          next_three =
              var_then p data_ made (var_ global_ (name_ (codes "globalThis"))) tail6 (e s outer) at0 (now_with X1 (locals P H G u u u u)) (now_with X1 (locals P H G D u u u)) D bare
              (m.comes ∙ ap (λ t. Comes (Normal D) t) made_is) (local_writes s outer X1 (locals P H G u u u u) 4 data_ D refl refl)
              ∙ var_then p global_ (name_ (codes "globalThis")) (var_ coverage_ covering) tail7 (e s outer) (now_with X1 (locals P H G D u u u)) (now_with X1 (locals P H G D u u u)) at4 O refl
              global_reads (local_writes s outer X1 (locals P H G D u u u) 5 global_ O refl refl)
              ∙ var_then p coverage_ covering replacing tail8 (e s outer) at4 (now_with X2 (locals P H G D O u u)) at5 C refl
              covers (local_writes s outer X2 (locals P H G D O u u) 6 coverage_ C refl refl)

          then_actual : point (comp_stmts p tail7 (e s outer)) at5 ≡ point (comp_stmts p tail9 (e s outer)) at7
          then_actual =
              stmt_then p replacing (var_ actual_ data_of_) tail9 (e s outer) at5 at6 undefined replaces
              ∙ var_then p actual_ data_of_ (does last) (more_stmt returning no_stmt) (e s outer) at6 at6 at7 v refl gets
              (local_writes s outer X3 (locals P H G D O C u) 7 actual_ v refl refl)

          up_to : point (call_code p code outer undefined []) s ≡ onward (point (comp_stmts p tail9 (e s outer)) at7) after_call
          up_to = begins s outer p code n k name path hash gcv made is_code ∙ ap (λ q. onward q after_call) (first_three ∙ next_three ∙ then_actual)

          abbrev bs : List Binding
          bs = locals P H G D O C v

          abbrev replacement : Code
          replacement = Ordinary (MakeFunction k no_param (MakeFunctionBody None (more_stmt (Return None (some_expr (name_ actual_))) no_stmt)))

          -- the heap with the function that replaces the first
          abbrev pub closed_heap : Heap
          closed_heap = closed (shape_of replacement) (name_units name) (e s outer) (heap_of s outer X3 bs)

          abbrev pub function : ℕ
          function = length X3

          module _ (itself : Seen s.heap outer name) (free : NoName name bs) (may : assign_answer s.heap itself.cell ≡ Done) where
            abbrev pub last_heap : Heap
            last_heap = assign itself.cell (object function) closed_heap

            assigns_it : point (comp_expr p last (e s outer)) at7 ≡ Comes (Normal (object function)) (record s { heap = last_heap })
            assigns_it = writes_name (record s { heap = closed_heap }) name (e s outer) itself.cell (object function)
                (outside closed_heap.objects bs name itself (no_place name bs free))
                (ap assign_to (cell_same closed_heap.objects bs itself.cell itself.low) ∙ may)

            -- its own names are as they were
            pub top_same : environment_at last_heap (e s outer) ≡ env_of outer bs
            top_same = get_or-set_other closed_heap.environments itself.cell.environment (e s outer) _ no_environment (λ q. let l = itself.low in omega (arith, l, q))
                ∙ at_top (env_of outer bs) s.heap

            actual_reads : point (read actual_ (e s outer)) (record s { heap = last_heap }) ≡ Comes (Normal v) (record s { heap = last_heap })
            actual_reads = reads_name (record s { heap = last_heap }) actual_ (e s outer) (record { environment = e s outer; place = 7 }) v
                (looked_up last_heap (e s outer) actual_ (env_of outer bs) 7 top_same refl)
                (ap (λ (x : Environment). (slice_index_or x.bindings 7 no_binding).value) top_same)

            pub first_runs : point (call_code p code outer undefined []) s ≡ Comes (Normal v) (record s { heap = last_heap })
            first_runs = up_to ∙ ap (λ q. onward q after_call) (
                stmt_then p (does last) (Return None (some_expr (name_ actual_))) no_stmt (e s outer) at7 (record s { heap = last_heap }) undefined
                (does_it p last (e s outer) at7 (record s { heap = last_heap }) (object function) assigns_it)
                ∙ point_handle (read actual_ (e s outer)) (with_value (λ v. ret (completion.Return v))) (record s { heap = last_heap })
                ∙ ap (λ q. onward q (with_value (λ v. ret (completion.Return v)))) actual_reads)
