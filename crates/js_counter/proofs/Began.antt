-- The start of a file that has counters, whole.
use Rattle.std.proofs.Common.{Option, ◌≡◌, ℕ, suc, List, Some, sym, ap, ◌∙◌}
use Rattle.js_terms.specs.declared.words.Comment.{Comment}
use Rattle.js_terms.specs.declared.place.Loc.{Loc}
use Rattle.js_terms.specs.declared.words.Spelled.{Spelled}
use Rattle.js_tree.specs.Plain.{Stmts, MakeFile}
use Rattle.js_value.specs.declared.value.Value.{Value}
use Rattle.js_value.specs.declared.built_in.Place.TheVariants.{ObjectPrototype}
use Rattle.js_value.specs.State.{Heap, Store}
use Rattle.js_value.specs.Realm.{number_of}
use Rattle.js_meaning.specs.Effects.{handle}
use Rattle.js_meaning.specs.Steps.{ran_by}
use Rattle.js_meaning.specs.Program.{Source, Sources}
use Rattle.js_meaning.specs.Meaning.{comp_expr, comp_stmts}
use Rattle.js_meaning.specs.Files.{inside, begin, after_call, run_source}
use Rattle.js_meaning.proofs.Handle.{exec_eval}
use Rattle.js_value.specs.Lookups.{Grown}
use Rattle.js_counter.specs.Literals.{Literal}
use Rattle.js_meaning.specs.Points.{TakesOne}
use Rattle.js_counter.specs.Steady.{call_of}
use Rattle.js_counter.specs.Preamble.{Uncovered}
use Rattle.js_counter.specs.Starts.{opening_of, file_env, file_store, Started, StartsFirst, StartsOther, StartsAgain}
use Rattle.js_counter.proofs.Puts.{bare_grown, covered_grown}
use Rattle.js_counter.proofs.Opens.{opens_first, opens_other, opens_again}
use Rattle.js_counter.proofs.Starts.{starts_file}
use Rattle.js_counter.proofs.Fresh.{begins_fresh}

started_by : (p : Sources) (source : Source) (file : ℕ) (ds : List (Option Loc × Spelled)) (name : List ℕ) (path hash gcv : Spelled) (made : Literal) (number next : ℕ) (rest : Stmts) (comments : List Comment) (s t : Store) (v : Value) →
    source.tree ≡ MakeFile (opening_of ds name path hash gcv made number next rest) comments →
    TakesOne p (comp_expr p (call_of name) (file_env (begin source file s))) (file_store source file (opening_of ds name path hash gcv made number next rest) s) v t →
    Started p source file (opening_of ds name path hash gcv made number next rest) rest s t
started_by p source file ds name path hash gcv made number next rest comments s t v tree takes =
    let r = starts_file p source file ds name path hash gcv made number next rest comments s t v tree takes in
    record {
      none = λ j. exec_eval (inside p) 0 (handle (run_source p source file) j) s ∙ ap ran_by (r.0 j);
      some = λ n j. exec_eval (inside p) (suc n) (handle (run_source p source file) j) s ∙ ap ran_by (r.1 n j)
          ∙ sym (exec_eval (inside p) n (handle (handle (comp_stmts p rest (file_env (begin source file s))) after_call) j) t);
    }

uncovered_grown : (h k : Heap) (g : ℕ) (gcv : List ℕ) → Grown h k → Uncovered h g gcv → Uncovered k g gcv
uncovered_grown h k g gcv grown u = record {
  prototype = u.prototype;
  elements = u.elements;
  properties = u.properties;
  is = (grown g u.low).1 ∙ u.is;
  low = (grown g u.low).0;
  none = u.none;
  bare = bare_grown h k u.prototype gcv grown u.bare;
}

pub starts_first : StartsFirst
starts_first p source file ds name path hash gcv made number next rest comments s g tree f u bare other =
    let x = begins_fresh p source file ds name path hash gcv made number next rest s g f in
    let t = file_store source file (opening_of ds name path hash gcv made number next rest) s in
    let o = opens_first p t (file_env (begin source file s)) name path hash gcv made g x.0 (uncovered_grown s.heap t.heap g gcv.units x.1 u)
    (bare_grown s.heap t.heap (Some (number_of ObjectPrototype)) path.units x.1 bare) other in
    (o.0, o.1, record { opened = o.2; started = started_by p source file ds name path hash gcv made number next rest comments s o.2.store _ tree o.2.takes })

pub starts_other : StartsOther
starts_other p source file ds name path hash gcv made number next rest comments s g c ms tree f covered bare none =
    let x = begins_fresh p source file ds name path hash gcv made number next rest s g f in
    let t = file_store source file (opening_of ds name path hash gcv made number next rest) s in
    let o = opens_other p t (file_env (begin source file s)) name path hash gcv made g c ms x.0 (covered_grown s.heap t.heap g gcv.units c ms x.1 covered)
    (bare_grown s.heap t.heap (Some (number_of ObjectPrototype)) path.units x.1 bare) none in
    record { opened = o; started = started_by p source file ds name path hash gcv made number next rest comments s o.store _ tree o.takes }

pub starts_again : StartsAgain
starts_again p source file ds name path hash gcv made number next rest comments s g c ms d fs tree f covered at has =
    let x = begins_fresh p source file ds name path hash gcv made number next rest s g f in
    let t = file_store source file (opening_of ds name path hash gcv made number next rest) s in
    let o = opens_again p t (file_env (begin source file s)) name path hash gcv made g c ms d fs x.0 (covered_grown s.heap t.heap g gcv.units c ms x.1 covered) at has in
    (record { opened = o.0; started = started_by p source file ds name path hash gcv made number next rest comments s (o.0).store _ tree (o.0).takes }, o.1)
