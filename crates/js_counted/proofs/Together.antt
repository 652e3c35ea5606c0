-- The counters of a program's files, together: whose functions stand for whose, and that `this` is none of them.
use Rattle.std.proofs.Common.{◌≡◌, ℕ, suc, true, false, List, [], ◌∷◌, ◌++◌, None, codes, refl, ap, ap₂, ◌∙◌}
use Rattle.js_terms.specs.Mark.{Mark}
use Rattle.js_terms.specs.declared.construct.ConstructKind.{ConstructKind}
use Rattle.js_terms.specs.declared.construct.ConstructKind.TheVariants as construct_kind
use Rattle.js_terms.specs.declared.operators.UpdateOperator.TheVariants as update
use Rattle.js_tree.specs.Plain.{File, MakeFile, Call, PostfixUpdate, no_expr}
use Rattle.js_tree.specs.Codes.{functions_expr}
use Rattle.js_text.specs.Word.{reserved_word}
use Rattle.js_reading.specs.Kinds.{is_keyword}
use Rattle.js_meaning.specs.Program.{Source, Sources, linked}
use Rattle.cov_rewritten.specs.Counters.{name, counted_in}
use Rattle.js_suits.specs.Settings.{Setting, Fresh}
use Rattle.js_suits.specs.Programs.{instrumented_file, instrumented_sources, instrumented_prelude, instrumented, Suits, Silent}
use Rattle.js_suits.proofs.This.{names_free}
use Rattle.js_suits.proofs.Silent.{silent_lengths}
use Rattle.js_suits.proofs.Standing.{stand_back}
use Rattle.js_lockstep.specs.Counters.{Coded}
use Rattle.js_lockstep.proofs.Coded.{codes_stand}
use Rattle.js_lockstep.proofs.Opened.{opens_in_order}
use Rattle.js_counted.specs.Files.{FileCounters}
use Rattle.js_counted.specs.Program.{preamble_of, preamble_codes, counter_code, counted_program, counters, Prepared}

no_keyword : (more : List ℕ) → is_keyword (codes "cov_" ++ more) ≡ false
unfolding is_keyword reserved_word
no_keyword more = refl

module _ (files : ℕ → FileCounters) (p : Sources) where
  abbrev c : Setting
  c = counters files p

  -- what is held makes no difference to the program
  same_file : (counted : _) (file : ℕ) (tree : File) → instrumented_file (counters files p) counted file tree ≡ instrumented_file (counter_code files p) counted file tree
  same_file true file (MakeFile xs comments) = refl
  same_file false file (MakeFile xs comments) = refl

  same_sources : (file : ℕ) (sources : List Source) → instrumented_sources (counters files p) file sources ≡ instrumented_sources (counter_code files p) file sources
  same_sources file [] = refl
  same_sources file (source ∷ sources) = ap₂ (λ x xs. x ∷ xs)
      (ap (λ tree. record { path = source.path; tree = tree; counted = false }) (same_file source.counted file source.tree)) (same_sources (suc file) sources)

  same_prelude : (tree : File) → instrumented_prelude (counters files p) tree ≡ instrumented_prelude (counter_code files p) tree
  same_prelude (MakeFile xs comments) = refl

  pub same_program : instrumented (counters files p) (linked p) ≡ counted_program files p
  same_program = ap₂ (λ (sources : List Source) (tree : File). record { files = sources; prelude = tree }) (same_sources 0 (linked p).files) (same_prelude (linked p).prelude)

  code_silent : (mark : Mark) (n : List ℕ) (k : ConstructKind) → functions_expr (PostfixUpdate None update.Increment (counted_in (Call None (name n) no_expr) mark k)) ≡ []
  code_silent mark n construct_kind.Statement = refl
  code_silent mark n construct_kind.Function = refl
  code_silent mark n construct_kind.Branch = refl

  pub silent : Silent (counters files p) (preamble_codes files)
  silent = record {
    code = λ mark. code_silent mark (files mark.file).name mark.kind;
    opened = λ file xs. opens_in_order (preamble_of (files file)) xs;
  }

  pub coded : Suits (counters files p) (linked p) → Coded (counters files p) (linked p) (instrumented (counters files p) (linked p))
  coded su = codes_stand (counters files p) (linked p) su (preamble_codes files) silent
      (stand_back (counters files p) (linked p) (preamble_codes files) (silent_lengths (counters files p) (preamble_codes files) silent))

  pub fresh : Prepared files p → Fresh (counters files p)
  fresh pre = names_free (counters files p) (λ file. ap is_keyword (pre.named file).1 ∙ no_keyword (pre.named file).0)
