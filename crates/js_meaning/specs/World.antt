-- How a program runs: its end, what it prints, and what it enters, with so many steps.
use Rattle.std.specs.Prelude.{ℕ, List, [], ◌∷◌, ◌++◌, Option, Some, None, codes, option_map}
use Rattle.js_terms.specs.Mark.{Mark}
use Rattle.js_tree.specs.Marked.{times}
use Rattle.js_value.specs.declared.value.Value.{Value}
use Rattle.js_value.specs.declared.value.Value.TheVariants as value
use Rattle.js_value.specs.declared.value.Primitive.TheVariants as primitive
use Rattle.js_value.specs.Operators.{text_of_primitive}
use Rattle.js_value.specs.State.{ObjectKind, Error, BuiltIn, Written, Heap, Store}
use Rattle.js_value.specs.Objects.{kind_of, get}
use Rattle.js_value.specs.Host.{utf8_of}
use Rattle.js_meaning.specs.declared.outcome.Completion.{Completion}
use Rattle.js_meaning.specs.declared.outcome.Completion.TheVariants.{Throw}
use Rattle.js_meaning.specs.declared.outcome.Outcome.{Outcome}
use Rattle.js_meaning.specs.declared.outcome.Outcome.TheVariants.{Completes, Refuses, Stops}
use Rattle.js_meaning.specs.declared.outcome.End.{End}
use Rattle.js_meaning.specs.declared.outcome.End.TheVariants.{Done, Threw, Range, Going}
use Rattle.js_meaning.specs.Effects.{Ran, exec}
use Rattle.js_meaning.specs.Program.{Sources, linked, uncounted, file_at}
use Rattle.js_meaning.specs.Files.{inside, start_file}
use Rattle.js_meaning.specs.Prelude.{opening}

-- What is shown of a thrown value

-- of an object that is no error, and of one that is a part of an error
abbrev pub shown_kind : ObjectKind → List ℕ
shown_kind (BuiltIn function) = codes "function"
shown_kind (Written code env) = codes "function"
shown_kind _ = codes "object"

abbrev pub shown_part : Heap → Option Value → List ℕ
shown_part h None = text_of_primitive primitive.Undefined
shown_part h (Some (value.Primitive p)) = text_of_primitive p
shown_part h (Some (value.Object o)) = shown_kind (kind_of h o.index)

-- a name, and `: ` and a message where there is one
abbrev pub titled : List ℕ → List ℕ → List ℕ
titled name [] = name
titled name (u ∷ us) = name ++ codes ": " ++ u ∷ us

abbrev pub shown_object : Heap → ℕ → ObjectKind → List ℕ
shown_object h o Error = titled (shown_part h (get h o (codes "name"))) (shown_part h (get h o (codes "message")))
shown_object h o kind = shown_kind kind

abbrev pub shown_units : Heap → Value → List ℕ
shown_units h (value.Primitive p) = text_of_primitive p
shown_units h (value.Object o) = shown_object h o.index (kind_of h o.index)

abbrev pub shown : Heap → Value → List ℕ
shown h v = utf8_of (shown_units h v)

-- Runs

-- what a file of a program with its marks does with so many steps
abbrev pub run : Sources → ℕ → ℕ → Ran
run p file n = exec (inside p) n (start_file p file) (opening p)

abbrev pub meaning : Sources → ℕ → ℕ → Ran
meaning p file n = run (linked p) file n

abbrev pub end_of_completion : Heap → Completion → End
end_of_completion h (Throw v) = Threw (shown h v)
end_of_completion h _ = Done

abbrev pub end_of : Outcome → Store → End
end_of (Completes c) s = end_of_completion s.heap c
end_of (Refuses k) s = Range k
end_of Stops s = Going

-- what is told of a run
pub record World : Type 0 where
  pub end : End
  pub output : List ℕ
  pub log : List Mark
  pub started : List ℕ
  pub starts : List ℕ

abbrev pub told : Ran → World
told r = record {
  end = end_of r.outcome r.store;
  output = r.store.output;
  log = r.store.log;
  started = r.store.started;
  starts = r.store.starts;
}

-- the run of the file at a path: none where no file has the path
abbrev pub world : Sources → List ℕ → ℕ → Option World
world p path n = option_map (λ file. told (meaning p file n)) (file_at p path)

-- a run as it is without counting, and the store that it leaves
pub record PlainRun : Type 0 where
  pub end : End
  pub store : Store

abbrev pub plainly : Ran → PlainRun
plainly r = record { end = end_of r.outcome r.store; store = r.store }

abbrev pub plain : Sources → List ℕ → ℕ → Option PlainRun
plain p path n = option_map (λ file. plainly (meaning (uncounted p) file n)) (file_at p path)

-- how often a construct was entered by one of its paths
abbrev pub entered : List Mark → Mark → ℕ
entered log mark = times mark log
