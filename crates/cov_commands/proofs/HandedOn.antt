-- What a task on a source leaves in the store.
use Rattle.std.proofs.Common.{◌≡◌, ℕ, ◌⊎◌, inl, inr, List, Option, None, Some, refl, sym, ap, ◌∙◌, subst, arith}
use Rattle.std.specs.Prelude.{Result, Ok, Err}
use Rattle.js_meaning.specs.declared.outcome.End.{End}
use Rattle.js_meaning.specs.declared.outcome.End.TheVariants as outcome
use Rattle.cov_base.specs.Store.{Held, BothTell, KeepsOthers}
use Rattle.cov_base.specs.declared.failed.Failed.{Failed}
use Rattle.cov_object.specs.declared.file.FileCoverage.{FileCoverage}
use Rattle.cov_run.specs.declared.fault.LoadFault.{LoadFault}
use Rattle.cov_run.specs.declared.fault.LoadFault.TheVariants as fault
use Rattle.cov_words.specs.declared.command.Command.TheVariants.{OnSource}
use Rattle.cov_words.specs.declared.command.SourceTask.{SourceTask}
use Rattle.cov_words.specs.declared.command.SourceTask.TheVariants.{Maps, Exec, Run, Demo}
use Rattle.cov_commands.specs.Line as said
use Rattle.cov_commands.specs.Program as program
use Rattle.cov_commands.specs.Program.{Stores}
use Rattle.cov_commands.specs.Source as S
use Rattle.cov_commands.specs.Source.{ComesTo, PutsCoverage, Puts, message_of_fault, status_of_end, status_of_fault}
use Rattle.cov_commands.specs.Status.{status_of}
use Rattle.cov_commands.specs.private.HandedOn.{CountsPuts, StoredBy}
use Rattle.cov_commands.specs.declared.answer.Answer.{Answer}
use Rattle.cov_commands.specs.declared.status.Status.{Status}
use Rattle.cov_commands.specs.declared.status.Status.TheVariants as status
use Rattle.cov_commands.proofs.Answered.{fault_status}
use Rattle.cov_commands.proofs.Stands.{others_stay, stores_nothing}

-- ---- the counts of faults

pub counts_puts : (task : SourceTask) (file : List ℕ) (before after : ℕ) → CountsPuts task before after → program.CountsPuts (Some (OnSource task file)) before after
counts_puts Maps file before after is = is
counts_puts (Exec turns) file before after is = is
counts_puts (Run turns out exclude) file before after is = is
counts_puts (Demo seed count) file before after is = is

pub counts_on : (task : SourceTask) (file : List ℕ) {old before : ℕ} (after : ℕ) → before ≡ old → CountsPuts task before after → program.CountsPuts (Some (OnSource task file)) old after
counts_on task file after same is = subst (λ n. program.CountsPuts (Some (OnSource task file)) n after) same (counts_puts task file _ after is)

pub same_counts : (task : SourceTask) (file : List ℕ) (before after : ℕ) → after ≡ before → program.CountsPuts (Some (OnSource task file)) before after
same_counts Maps file before after same = same
same_counts (Exec turns) file before after same = same
same_counts (Run turns out exclude) file before after same = omega (arith, same)
same_counts (Demo seed count) file before after same = same

-- ---- there is no answer

module _ (task : SourceTask) (file : List ℕ) (told : Option Held) where
  -- so nothing is put
  none_put : (why : LoadFault) (out : List ℕ) → Puts (status_of_fault why) task out file told told
  none_put fault.NoFile out = refl
  none_put (fault.Refused path cause) out = refl
  none_put (fault.BadMap path why) out = refl
  none_put (fault.TooLong path) out = refl
  none_put fault.TooManyFiles out = refl
  none_put (fault.ReadFault path) out = refl
  none_put fault.Memory out = others_stay told out

none_stored : (task : SourceTask) (file : List ℕ) (told : Option Held) (why : LoadFault) → Stores (Some (OnSource task file)) (status_of_fault why) told told
none_stored Maps file told why = refl
none_stored (Exec turns) file told why = refl
none_stored (Demo seed count) file told why = refl
none_stored (Run turns out exclude) file told why = none_put (Run turns out exclude) file told why out

pub fault_stores : (task : SourceTask) (file : List ℕ) (told : Option Held) (why : LoadFault) → ComesTo file told task (Err why) → {message : said.Message} → message ≡ message_of_fault file why →
    {result : Status} → (result ≡ status_of message) ⊎ (result ≡ status.Memory) → {after : Option Held} → after ≡ told → Stores (Some (OnSource task file)) result told after
fault_stores task file told why comes says (inl e) same =
    subst (Stores (Some (OnSource task file)) _ told) (sym same)
    (subst (λ s. Stores (Some (OnSource task file)) s told told) (sym (e ∙ ap status_of says ∙ fault_status file told task why comes)) (none_stored task file told why))
fault_stores task file told why comes says (inr e) same = subst (Stores (Some (OnSource task file)) _ told) (sym same) (stores_nothing (Some (OnSource task file)) told (inl e))

-- ---- there is one

-- of the store as it was before the answer was found, which only read it
pub handed : (task : SourceTask) (coverage : Option (List FileCoverage)) {before told : Option Held} (after : Option Held) {found result : Result (Unit {0}) Failed} → before ≡ told → found ≡ result →
    StoredBy task coverage before after found → StoredBy task coverage told after result
handed task coverage after {result = result} same is stored =
    subst (λ b. StoredBy task coverage b after result) same (subst (StoredBy task coverage _ after) is stored)

-- an answer of `run` has coverage
some_coverage : {told : Option Held} {file : List ℕ} {turns : ℕ} {out : List ℕ} {exclude : List (List ℕ)} {of : Result Answer LoadFault} (answer : Answer) → of ≡ Ok answer →
    ComesTo file told (Run turns out exclude) of → (files : List FileCoverage) × (answer.coverage ≡ Some files)
some_coverage answer is (S.counted {files = files} loads counts covers) = (files, by is)
  where
    by : {one : Answer} → (◌≡◌) {A = Result Answer LoadFault} (Ok one) (Ok answer) → answer.coverage ≡ one.coverage
    by {one = one} same = let ones : answer ≡ one = cc in ap (λ (a : Answer). a.coverage) ones
some_coverage answer is (S.uncounted loads) = absurd cc

module _ (turns : ℕ) (out : List ℕ) (exclude : List (List ℕ)) (file : List ℕ) (answer : Answer) where
  -- its JSON was put
  put_all : (told after : Option Held) → ComesTo file told (Run turns out exclude) (Ok answer) → StoredBy (Run turns out exclude) answer.coverage told after (Ok tt) →
      (result : Status) → status_of_end answer.end ≡ result → BothTell told after (PutsCoverage result (Run turns out exclude) out file)
  put_all told after comes stored result ends = by told after comes (subst (λ c. StoredBy (Run turns out exclude) c told after (Ok tt)) some.1 stored)
    where
      some : (files : List FileCoverage) × (answer.coverage ≡ Some files)
      some = some_coverage answer refl comes

      by : (told after : Option Held) → ComesTo file told (Run turns out exclude) (Ok answer) → StoredBy (Run turns out exclude) (Some some.0) told after (Ok tt) →
          BothTell told after (PutsCoverage result (Run turns out exclude) out file)
      by None None comes stored = tt
      by None (Some after) comes stored = absurd stored.others
      by (Some before) None comes stored = absurd stored.others
      by (Some before) (Some after) comes stored = record {
        answer = answer;
        files = some.0;
        comes = comes;
        ends = ends;
        left = some.1;
        put = stored.value;
        others = stored.others;
      }

  put_ended : (told after : Option Held) → ComesTo file told (Run turns out exclude) (Ok answer) → StoredBy (Run turns out exclude) answer.coverage told after (Ok tt) →
      (end : End) → answer.end ≡ end → Puts (status_of_end end) (Run turns out exclude) out file told after
  put_ended told after comes stored outcome.Done is = put_all told after comes stored status.Ok (ap status_of_end is)
  put_ended told after comes stored (outcome.Threw shown) is = put_all told after comes stored status.Threw (ap status_of_end is)
  put_ended told after comes stored (outcome.Range why) is = put_all told after comes stored status.Range (ap status_of_end is)
  put_ended told after comes stored outcome.Going is = put_all told after comes stored status.Going (ap status_of_end is)

-- whatever was put, other paths hold what they held
others_kept : (turns : ℕ) (out : List ℕ) (exclude : List (List ℕ)) (coverage : Option (List FileCoverage)) (told after : Option Held) (result : Result (Unit {0}) Failed) →
    StoredBy (Run turns out exclude) coverage told after result → BothTell told after (KeepsOthers out)
others_kept turns out exclude None told after result stored = subst (λ a. BothTell told a (KeepsOthers out)) (sym stored) (others_stay told out)
others_kept turns out exclude (Some files) told after result stored = stored.others

module _ (file : List ℕ) (told after : Option Held) (answer : Answer) where
  pub end_stores : (task : SourceTask) → ComesTo file told task (Ok answer) → StoredBy task answer.coverage told after (Ok tt) → Stores (Some (OnSource task file)) (status_of_end answer.end) told after
  end_stores Maps comes stored = stored
  end_stores (Exec turns) comes stored = stored
  end_stores (Demo seed count) comes stored = stored
  end_stores (Run turns out exclude) comes stored = put_ended turns out exclude file answer told after comes stored answer.end refl

  -- a fault, or want of memory
  pub failed_stores : (task : SourceTask) (result : Result (Unit {0}) Failed) → StoredBy task answer.coverage told after result → Stores (Some (OnSource task file)) status.WriteFault told after
  failed_stores Maps result stored = stored
  failed_stores (Exec turns) result stored = stored
  failed_stores (Demo seed count) result stored = stored
  failed_stores (Run turns out exclude) result stored = others_kept turns out exclude answer.coverage told after result stored

  pub wanting_stores : (task : SourceTask) (result : Result (Unit {0}) Failed) → StoredBy task answer.coverage told after result → Stores (Some (OnSource task file)) status.Memory told after
  wanting_stores Maps result stored = stored
  wanting_stores (Exec turns) result stored = stored
  wanting_stores (Demo seed count) result stored = stored
  wanting_stores (Run turns out exclude) result stored = others_kept turns out exclude answer.coverage told after result stored

  -- the end was said
  pub said_stores : (task : SourceTask) → ComesTo file told task (Ok answer) → StoredBy task answer.coverage told after (Ok tt) → (message : said.Message) → status_of_end answer.end ≡ status_of message →
      {result : Status} → (result ≡ status_of message) ⊎ (result ≡ status.Memory) → Stores (Some (OnSource task file)) result told after
  said_stores task comes stored message ends (inl e) = subst (λ s. Stores (Some (OnSource task file)) s told after) (ends ∙ sym e) (end_stores task comes stored)
  said_stores task comes stored message ends (inr e) = subst (λ s. Stores (Some (OnSource task file)) s told after) (sym e) (wanting_stores task (Ok tt) stored)

  -- that it couldn't be handed on was
  pub write_stores : (task : SourceTask) (failed : Result (Unit {0}) Failed) → StoredBy task answer.coverage told after failed →
      {result : Status} → (result ≡ status.WriteFault) ⊎ (result ≡ status.Memory) → Stores (Some (OnSource task file)) result told after
  write_stores task failed stored (inl e) = subst (λ s. Stores (Some (OnSource task file)) s told after) (sym e) (failed_stores task failed stored)
  write_stores task failed stored (inr e) = subst (λ s. Stores (Some (OnSource task file)) s told after) (sym e) (wanting_stores task failed stored)

-- want of memory was, or came over it
pub only_wanting : {result : Status} → (result ≡ status.Memory) ⊎ (result ≡ status.Memory) → (result ≡ status.WriteFault) ⊎ (result ≡ status.Memory)
only_wanting (inl e) = inr e
only_wanting (inr e) = inr e
