-- A run goes on from where the machine stands.
use Rattle.std.proofs.Common.{◌≡◌, ℕ, ◌+◌, List, sym, subst, ap, ◌∙◌, arith}
use Rattle.std.specs.Option.{option_map}
use Rattle.js_value.specs.State.{Store}
use Rattle.js_code.specs.Program.{ProgramCode, IsCodeOf}
use Rattle.js_meaning.specs.declared.outcome.End.{End}
use Rattle.js_meaning.specs.Effects.{exec}
use Rattle.js_meaning.specs.Program.{Sources, uncounted}
use Rattle.js_meaning.specs.Files.{inside}
use Rattle.js_meaning.specs.World.{meaning, plainly, end_of}
use Rattle.js_machine.specs.declared.data.Rest.{Rest}
use Rattle.js_machine.specs.private.Carries.{Carries}
use Rattle.js_machine.specs.private.Config.{view_of}
use Rattle.js_machine.specs.private.Moves.{todo}
use Rattle.js_machine.specs.private.Runs.{Runs, rest_outcome}
use Rattle.js_machine.specs.private.State.{store_of}
use Rattle.js_machine.specs.Whole.{Whole, running, Follows, EndsAs, Goes}
use Rattle.js_machine.proofs.Carried.{carries}

module _ (steps : ℕ) (old new : Whole) (rest : Rest) (end : End)
    (runs : (p : Sources) → Carries p old.code → Runs p (view_of p old.code.nodes) steps old.here rest new.here)
    (code : new.code ≡ old.code) (given : new.given ≡ old.given + steps)
    (ended : (began : Store) → end ≡ end_of (rest_outcome rest) (store_of began new.here.state)) where
  follows_on : (p : Sources) (path : List ℕ) → Follows p path old → Follows p path new
  follows_on p path f = record {
    file = f.file;
    found = f.found;
    code = subst (IsCodeOf (running p)) (sym code) f.code;
    began = f.began;
    same = λ more.
        let sum : new.given + more ≡ old.given + (steps + more) = omega (arith, given) in
        ap (meaning (uncounted p) f.file) sum
        ∙ f.same (steps + more)
        ∙ (runs (running p) (carries p old.code f.code)).takes.same f.began more
        ∙ ap (λ (c : ProgramCode). exec (inside (running p)) more (todo (view_of (running p) c.nodes) new.here) (store_of f.began new.here.state)) (sym code);
  }

  ends_as : (p : Sources) (path : List ℕ) → Follows p path old → EndsAs p path end new
  ends_as p path f =
      let sum : new.given ≡ old.given + (steps + 0) = omega (arith, given) in
      let run = runs (running p) (carries p old.code f.code) in
      let all = ap (meaning (uncounted p) f.file) sum ∙ f.same (steps + 0) ∙ run.takes.same f.began 0 ∙ run.ends f.began in
      record {
        run = plainly (meaning (uncounted p) f.file new.given);
        is = ap (option_map (λ file. plainly (meaning (uncounted p) file new.given))) f.found;
        end = ap (λ r. end_of r.outcome r.store) all ∙ sym (ended f.began);
        output = ap (λ r. r.store.output) all;
        heap = ap (λ r. r.store.heap) all;
      }

  pub goes : Goes old end new
  goes = record { on = follows_on; ends = ends_as }
