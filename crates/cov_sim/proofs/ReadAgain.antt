-- A text that can be read again is, to the tree that it has.
use Rattle.std.proofs.Common.{◌≡◌, ◌≤◌, ◌<◌, ◌⊎◌, inl, inr, ℕ, List, false, refl, sym, ap, ◌∙◌, subst, arith}
use Rattle.std.specs.Prelude.{Result, Ok, Err, IfOk, IsOk}
use Rattle.js_tree.specs.Plain.{File}
use Rattle.js_tree.specs.Height.{height_file}
use Rattle.js_tree.specs.Same.{bare_file}
use Rattle.js_text.specs.Limits.{again_limits}
use Rattle.js_text.specs.declared.text.TextFault.{TextFault}
use Rattle.js_text.specs.declared.text.TextFault.TheVariants as text
use Rattle.js_reading.specs.Reads.{Reads}
use Rattle.js_parser.specs.Refused.{Because}
use Rattle.js_parser.specs.declared.refused.Refusal.{Refusal}
use Rattle.js_parser.specs.declared.refused.Refusal.TheVariants as refusal
use Rattle.js_layout.specs.Layout.{layout}
use Rattle.js_scopes.specs.Accepted.{AcceptedAgain}
use Rattle.cov_sources.specs.Refused.{HasOnly}
use Rattle.cov_sources.specs.declared.source.Source.{Source}
use Rattle.cov_sim.specs.Again.{IsReadAgain}
use Rattle.cov_sim.specs.Counting.{RunsAs, again}
use Rattle.cov_sim.specs.Instrumented.{instrumented, is_left_out}

module _ (text : List ℕ) (file : File) (is : IsReadAgain text file) (tree : File) (only : HasOnly text tree) where
  pub that_tree : is.tree ≡ tree
  that_tree = only is.tree is.accepted.reads

  pub bare_alike : bare_file tree ≡ bare_file file
  bare_alike = ap bare_file (sym that_tree) ∙ is.same

-- no fault but want of memory
pub never_fault : {T : Type 0} (result : Result T TextFault) (fault : TextFault) → result ≡ Err fault → (fault ≡ text.Memory → ⊥) → IsOk result ⊎ (result ≡ Err text.Memory) → ⊥
never_fault result fault is other (inl ok) = let never = subst IsOk is ok in cc
never_fault result fault is other (inr memory) = other (let both = sym is ∙ memory in cc)

pub never_refused : (cause : Refusal) (bytes : List ℕ) (at : ℕ) (tree : File) → Because cause bytes at again_limits.height → (cause ≡ refusal.Memory → ⊥) → Reads bytes tree →
    height_file tree ≤ again_limits.height → ⊥
never_refused refusal.Syntax bytes at tree is other reads low = is.0.none tree reads
never_refused (refusal.Unsupported form) bytes at tree is other reads low = is.none tree reads
never_refused refusal.TooDeep bytes at tree is other reads low =
    let high : again_limits.height < height_file tree = is.higher tree reads in omega (arith, high, low)
never_refused refusal.Memory bytes at tree is other reads low = other refl

-- so it runs in place of the source
pub runs_again : {T Want : Type 0} (tree_of : T → File) (source : Source) (tree : File) (bytes : List ℕ) → bytes ≡ layout (instrumented source.path source.bytes source.input tree) → is_left_out source tree ≡ false →
    IsReadAgain bytes (instrumented source.path source.bytes source.input tree) → (result : Result T Want) → IfOk result (λ other. AcceptedAgain bytes (tree_of other)) →
    IfOk result (λ other. HasOnly bytes (tree_of other)) → IfOk result (λ other. RunsAs source tree (tree_of other))
runs_again tree_of source tree bytes same kept is (Ok other) accepted only = again kept
    (record {
      accepted = subst (λ b. AcceptedAgain b (tree_of other)) same accepted;
      only = subst (λ b. HasOnly b (tree_of other)) same only;
      same = bare_alike bytes (instrumented source.path source.bytes source.input tree) is (tree_of other) only;
    })
runs_again tree_of source tree bytes same kept is (Err want) accepted only = tt
