-- From what coverage files come to, to the status, the output, the put and the lines that are due.
use Rattle.std.proofs.Common.{◌≡◌, ◌≢◌, ℕ, ◌⊎◌, inl, inr, List, [], ◌∷◌, Option, None, Some, IsSome, refl, sym, ap, ◌∙◌, subst, arith}
use Rattle.std.specs.Prelude.{Ok}
use Rattle.cov_base.specs.Store.{Held}
use Rattle.cov_base.specs.Sink.{after_more, TakesPrefix}
use Rattle.cov_object.specs.declared.file.FileCoverage.{FileCoverage}
use Rattle.cov_summary.specs.declared.shortfall.Shortfall.{Shortfall}
use Rattle.cov_inputs.specs.Inputs.{Input, AreRead, AreRefused, HaveSums, IsCause}
use Rattle.cov_inputs.specs.declared.refusal.Refusal.{Refusal}
use Rattle.cov_inputs.specs.declared.refusal.Refusal.TheVariants as refusal
use Rattle.cov_inputs.specs.declared.fault.InputFault.{InputFault}
use Rattle.cov_inputs.specs.declared.fault.InputFault.TheVariants.{Refused, ReadFailed, Memory}
use Rattle.cov_words.specs.declared.command.Command.TheVariants.{OnCoverage}
use Rattle.cov_words.specs.declared.command.CoverageTask.{CoverageTask}
use Rattle.cov_commands.specs.Line as said
use Rattle.cov_commands.specs.Coverage.{Verdict, ComesTo, IsDue, IsOutput, PrintsOutput, PrintsPrefix, check_verdict, message_of_refusal, refused, status_of_refusal, verdict, verdict_of, verdict_on}
use Rattle.cov_commands.specs.Program as P
use Rattle.cov_commands.specs.Program.{GivesWay, PrintsAll}
use Rattle.cov_commands.specs.Status.{status_of}
use Rattle.cov_commands.specs.private.Performed.{ComesOut, message_of_fault}
use Rattle.cov_commands.specs.declared.status.Status.{Status}
use Rattle.cov_commands.specs.declared.status.Status.TheVariants as status
use Rattle.cov_commands.proofs.Stands.{Stands, IsSaid, after_nothing, gives_way, memory_is_said, some_inputs}

-- the status of a refusal is that of its message
refusal_status : (why : Refusal) → status_of (message_of_refusal why) ≡ status_of_refusal why
refusal_status (refusal.NoFile path) = refl
refusal_status (refusal.TooLong path) = refl
refusal_status (refusal.NotUtf8 path at) = refl
refusal_status (refusal.BadInput path what) = refl
refusal_status (refusal.CountTooLarge sum) = refl

module _ (task : CoverageTask) (files : List (List ℕ)) (told : Option Held) where
  -- where the store tells, one list was read
  one_reading : (tells : Option Held) → IsSome tells → {a b : List Input} → AreRead tells files a → AreRead tells files b → a ≡ b
  one_reading None some one other = absurd cc
  one_reading (Some at) some one other = one.held ∙ sym other.held

  -- ---- the status that is due

  -- what the files come to comes, and no other
  judged_comes : (inputs : List Input) → AreRead told files inputs → {s : Status} → (verdict task inputs).status ≡ s → P.Comes (Some (OnCoverage task files)) s told
  judged_comes inputs read {s = s} is wanted tells due = by_status wanted due
    where
      same : ComesTo wanted task files told → (s ≡ wanted) ⊎ GivesWay s ⊎ GivesWay wanted
      same other = inl (sym is ∙ ap (λ i. (verdict task i).status) (one_reading told tells read other.read) ∙ other.comes)

      by_status : (t : Status) → IsDue t task files told → (s ≡ t) ⊎ GivesWay s ⊎ GivesWay t
      by_status status.ReadFault other = inr (inr (inl refl))
      by_status status.WriteFault other = inr (inr (inr (inl refl)))
      by_status status.Memory other = inr (inr (inr (inr refl)))
      by_status status.Ok other = inl (sym is ∙ ap (λ i. (verdict task i).status) (one_reading told tells read other.read) ∙ other.comes)
      by_status status.Threw other = inl (sym is ∙ ap (λ i. (verdict task i).status) (one_reading told tells read other.read) ∙ other.comes)
      by_status status.Usage other = inl (sym is ∙ ap (λ i. (verdict task i).status) (one_reading told tells read other.read) ∙ other.comes)
      by_status status.Refused other = inl (sym is ∙ ap (λ i. (verdict task i).status) (one_reading told tells read other.read) ∙ other.comes)
      by_status status.BadInput other = inl (sym is ∙ ap (λ i. (verdict task i).status) (one_reading told tells read other.read) ∙ other.comes)
      by_status status.Range other = inl (sym is ∙ ap (λ i. (verdict task i).status) (one_reading told tells read other.read) ∙ other.comes)
      by_status status.Going other = inl (sym is ∙ ap (λ i. (verdict task i).status) (one_reading told tells read other.read) ∙ other.comes)
      by_status status.Limit other = inl (sym is ∙ ap (λ i. (verdict task i).status) (one_reading told tells read other.read) ∙ other.comes)
      by_status status.Below other = inl (sym is ∙ ap (λ i. (verdict task i).status) (one_reading told tells read other.read) ∙ other.comes)
      by_status status.NoFile other = inl (sym is ∙ ap (λ i. (verdict task i).status) (one_reading told tells read other.read) ∙ other.comes)

  -- ---- files that have no sums, or weren't read

  module _ (why : Refusal) (are : AreRefused told files why) where
    comes_refused : (verdict task are.inputs) ≡ refused why
    comes_refused = ap (verdict_of task) are.are

    refusal_is_due : IsDue (status_of_refusal why) task files told
    refusal_is_due = by_why why (ap (λ (v : Verdict). v.status) comes_refused)
      where
        by_why : (other : Refusal) → (verdict task are.inputs).status ≡ status_of_refusal other → IsDue (status_of_refusal other) task files told
        by_why (refusal.NoFile path) e = record { inputs = are.inputs; read = are.read; comes = e }
        by_why (refusal.TooLong path) e = record { inputs = are.inputs; read = are.read; comes = e }
        by_why (refusal.NotUtf8 path at) e = record { inputs = are.inputs; read = are.read; comes = e }
        by_why (refusal.BadInput path what) e = record { inputs = are.inputs; read = are.read; comes = e }
        by_why (refusal.CountTooLarge sum) e = record { inputs = are.inputs; read = are.read; comes = e }

    refusal_lines : P.AreLines (Some (OnCoverage task files)) (status_of_refusal why) told (said.line (message_of_refusal why))
    refusal_lines = by_why why (ap (λ (v : Verdict). v.status) comes_refused) (ap (λ (v : Verdict). v.said) comes_refused)
      where
        by_why : (other : Refusal) → (verdict task are.inputs).status ≡ status_of_refusal other → (verdict task are.inputs).said ≡ Some (message_of_refusal other) →
            P.AreLines (Some (OnCoverage task files)) (status_of_refusal other) told (said.line (message_of_refusal other))
        by_why (refusal.NoFile path) e f = (said.NoFile path, record { inputs = are.inputs; read = are.read; comes = e; said = f }, refl)
        by_why (refusal.TooLong path) e f = (said.TooLong path, record { inputs = are.inputs; read = are.read; comes = e; said = f }, refl)
        by_why (refusal.NotUtf8 path at) e f = (said.NotUtf8 path at, record { inputs = are.inputs; read = are.read; comes = e; said = f }, refl)
        by_why (refusal.BadInput path what) e f = (said.BadInput path what, record { inputs = are.inputs; read = are.read; comes = e; said = f }, refl)
        by_why (refusal.CountTooLarge sum) e f = (said.CountTooLarge sum, record { inputs = are.inputs; read = are.read; comes = e; said = f }, refl)

    refusal_is_said : IsSaid (Some (OnCoverage task files)) told (message_of_refusal why)
    refusal_is_said = record {
      stands = subst (Stands (Some (OnCoverage task files)) told) (sym (refusal_status why))
          (record { due = refusal_is_due; comes = judged_comes are.inputs are.read (ap (λ (v : Verdict). v.status) comes_refused) });
      are = subst (λ s. P.AreLines (Some (OnCoverage task files)) s told (said.line (message_of_refusal why))) (sym (refusal_status why)) refusal_lines;
    }

  -- why the files weren't merged is said
  pub fault_is_said : (why : InputFault) → IsCause told files why → IsSaid (Some (OnCoverage task files)) told (message_of_fault why)
  fault_is_said (Refused why) cause = refusal_is_said why cause
  fault_is_said (ReadFailed path) cause = record {
    stands = gives_way (Some (OnCoverage task files)) told (inl refl) tt;
    are = (said.ReadFailed path, (path, cause, refl), refl);
  }
  fault_is_said Memory cause = memory_is_said (Some (OnCoverage task files)) told

  -- with nothing printed a prefix is
  pub nothing_prints : (before after : Option (List ℕ)) → after ≡ before → PrintsPrefix task files told before after
  nothing_prints before after same =
      let some = some_inputs files told in
      record { inputs = some.0; read = some.1; taken = (0, omega arith, same ∙ after_nothing before) }

  -- ---- files that have sums

  module _ (sums : List FileCoverage) (have : HaveSums told files sums) where
    on_sums : verdict task have.inputs ≡ verdict_on task sums
    on_sums = ap (verdict_of task) have.are

    -- a fault of a sink or of the store
    pub write_is_said : IsSaid (Some (OnCoverage task files)) told said.WriteFailed
    write_is_said = record {
      stands = gives_way (Some (OnCoverage task files)) told (inr (inl refl)) (sums, have);
      are = (said.WriteFailed, refl, refl);
    }

    pub prints_prefix : (before after : Option (List ℕ)) → TakesPrefix before after (verdict_on task sums).output → PrintsPrefix task files told before after
    prints_prefix before after takes = record {
      inputs = have.inputs;
      read = have.read;
      taken = subst (λ (v : Verdict). TakesPrefix before after v.output) (sym on_sums) takes;
    }

    pub prints_defined : (before after : Option (List ℕ)) → TakesPrefix before after (verdict_on task sums).output →
        IsSome told → (output : List ℕ) → IsOutput task files told output → TakesPrefix before after output
    prints_defined before after takes tells output is =
        subst (λ text. TakesPrefix before after text)
        (sym (ap (λ (v : Verdict). v.output) on_sums) ∙ ap (λ i. (verdict task i).output) (one_reading told tells have.read is.read) ∙ sym is.is) takes

    module _ (below : List Shortfall) (before after : Option (List ℕ)) (out : ComesOut task sums below before after) where
      comes_to : (verdict task have.inputs).status ≡ (check_verdict below).status
      comes_to = ap (λ (v : Verdict). v.status) on_sums ∙ out.status

      says_that : (verdict task have.inputs).said ≡ (check_verdict below).said
      says_that = ap (λ (v : Verdict). v.said) on_sums ∙ out.said

      printed : after ≡ after_more before (verdict task have.inputs).output
      printed = out.printed ∙ ap (λ (v : Verdict). after_more before v.output) (sym on_sums)

      pub done_stands : below ≡ [] → Stands (Some (OnCoverage task files)) told status.Ok
      done_stands none =
          let e = comes_to ∙ ap (λ b. (check_verdict b).status) none in
          record { due = record { inputs = have.inputs; read = have.read; comes = e }; comes = judged_comes have.inputs have.read e }

      pub done_prints : below ≡ [] → PrintsOutput status.Ok task files told before after
      done_prints none = record { inputs = have.inputs; read = have.read; comes = comes_to ∙ ap (λ b. (check_verdict b).status) none; printed = printed }

      below_comes : below ≢ [] → (verdict task have.inputs).status ≡ status.Below
      below_comes some = comes_to ∙ by_list below some
        where
          by_list : (b : List Shortfall) → b ≢ [] → (check_verdict b).status ≡ status.Below
          by_list [] never = absurd (never refl)
          by_list (first ∷ rest) never = refl

      below_says : below ≢ [] → (verdict task have.inputs).said ≡ Some (said.Below below)
      below_says some = says_that ∙ by_list below some
        where
          by_list : (b : List Shortfall) → b ≢ [] → (check_verdict b).said ≡ Some (said.Below b)
          by_list [] never = absurd (never refl)
          by_list (first ∷ rest) never = refl

      pub below_is_said : below ≢ [] → IsSaid (Some (OnCoverage task files)) told (said.Below below)
      below_is_said some = record {
        stands = record {
          due = record { inputs = have.inputs; read = have.read; comes = below_comes some };
          comes = judged_comes have.inputs have.read (below_comes some);
        };
        are = (said.Below below, record { inputs = have.inputs; read = have.read; comes = below_comes some; said = below_says some }, refl);
      }

      pub below_prints : below ≢ [] → {result : Status} → (result ≡ status.Below) ⊎ (result ≡ status.Memory) → PrintsAll result → PrintsOutput result task files told before after
      below_prints some (inl e) all = record { inputs = have.inputs; read = have.read; comes = below_comes some ∙ sym e; printed = printed }
      below_prints some (inr e) all = absurd (subst PrintsAll e all)
