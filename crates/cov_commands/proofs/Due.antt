-- From what a task on a source comes to, to the status, the output and the line that are due.
use Rattle.std.proofs.Common.{◌≡◌, ℕ, ◌⊎◌, inl, inr, List, Option, None, Some, IsSome, refl, sym, ap, ◌∙◌, subst, arith}
use Rattle.std.specs.Prelude.{Result, Ok, Err, option_map}
use Rattle.js_meaning.specs.declared.outcome.End.{End}
use Rattle.js_meaning.specs.declared.outcome.End.TheVariants as outcome
use Rattle.cov_base.specs.Store.{Held}
use Rattle.cov_base.specs.Sink.{TakesPrefix}
use Rattle.cov_run.specs.declared.fault.LoadFault.{LoadFault}
use Rattle.cov_run.specs.declared.fault.LoadFault.TheVariants as fault
use Rattle.cov_words.specs.declared.command.Command.TheVariants.{OnSource}
use Rattle.cov_words.specs.declared.command.SourceTask.{SourceTask}
use Rattle.cov_commands.specs.Line as said
use Rattle.cov_commands.specs.Source as S
use Rattle.cov_commands.specs.Source.{ComesTo, Ends, IsDue, IsLine, IsMessage, IsOutput, SaysOutcome, message_of_fault, said_of, said_of_outcome, status_of_end, status_of_fault, status_of_outcome}
use Rattle.cov_commands.specs.Program.{GivesWay, PrintsAll}
use Rattle.cov_commands.specs.Status.{status_of}
use Rattle.cov_commands.specs.declared.answer.Answer.{Answer}
use Rattle.cov_commands.specs.declared.line.Complaint.{Complaint}
use Rattle.cov_commands.specs.declared.status.Status.{Status}
use Rattle.cov_commands.specs.declared.status.Status.TheVariants as status
use Rattle.cov_commands.proofs.Answered.{Same, fault_status, one_answer, one_status}
use Rattle.cov_commands.proofs.Stands.{IsSaid, Stands, after_nothing, gives_way}

-- ---- an end of which nothing is said is done, and what is said of another has its status

some_is : {this message : said.Message} → (◌≡◌) {A = Option said.Message} (Some this) (Some message) → this ≡ message
some_is is = cc

module _ (task : SourceTask) where
  end_done : (end : End) → None ≡ said_of task end → status_of_end end ≡ status.Ok
  end_done outcome.Done is = refl
  end_done (outcome.Threw shown) is = absurd cc
  end_done (outcome.Range why) is = absurd cc
  end_done outcome.Going is = absurd cc

  end_status : (end : End) {message : said.Message} → said_of task end ≡ Some message → status_of_end end ≡ status_of message
  end_status outcome.Done is = absurd cc
  end_status (outcome.Threw shown) is = ap status_of (some_is is)
  end_status (outcome.Range why) is = ap status_of (some_is is)
  end_status outcome.Going is = ap status_of (some_is is)

  -- the same in the words of the code
  module _ (end : End) {found : Option Complaint} (says : option_map said.message_of found ≡ said_of task end) where
    pub is_done : found ≡ None → status_of_end end ≡ status.Ok
    is_done is = end_done end (ap (option_map said.message_of) (sym is) ∙ says)

    pub is_said : {complaint : Complaint} → found ≡ Some complaint → said_of task end ≡ Some (said.message_of complaint)
    is_said is = sym says ∙ ap (option_map said.message_of) is

    pub has_status : {complaint : Complaint} → found ≡ Some complaint → status_of_end end ≡ status_of (said.message_of complaint)
    has_status is = end_status end (is_said is)

-- ---- the statuses of what a task comes to

never_fails : (why : LoadFault) → status_of_fault why ≡ status.WriteFault → ⊥
never_fails fault.NoFile is = cc
never_fails (fault.Refused path cause) is = cc
never_fails (fault.BadMap path why) is = cc
never_fails (fault.TooLong path) is = cc
never_fails fault.TooManyFiles is = cc
never_fails (fault.ReadFault path) is = cc
never_fails fault.Memory is = cc

never_ends : (end : End) → status_of_end end ≡ status.WriteFault → ⊥
never_ends outcome.Done is = cc
never_ends (outcome.Threw shown) is = cc
never_ends (outcome.Range why) is = cc
never_ends outcome.Going is = cc

never_writes : (of : Result Answer LoadFault) → status_of_outcome of ≡ status.WriteFault → ⊥
never_writes (Ok answer) is = never_ends answer.end is
never_writes (Err why) is = never_fails why is

-- nothing is said where it is Ok
never_ok : (why : LoadFault) → status_of_fault why ≡ status.Ok → ⊥
never_ok fault.NoFile is = cc
never_ok (fault.Refused path cause) is = cc
never_ok (fault.BadMap path why) is = cc
never_ok (fault.TooLong path) is = cc
never_ok fault.TooManyFiles is = cc
never_ok (fault.ReadFault path) is = cc
never_ok fault.Memory is = cc

module _ (task : SourceTask) (file : List ℕ) (told : Option Held) where
  due_so : (s : Status) → Ends s task file told → IsDue s task file told
  due_so status.Ok ends = ends
  due_so status.Threw ends = ends
  due_so status.Usage ends = ends
  due_so status.Refused ends = ends
  due_so status.BadInput ends = ends
  due_so status.ReadFault ends = ends
  due_so status.WriteFault ends = absurd (never_writes ends.outcome ends.status)
  due_so status.Range ends = ends
  due_so status.Going ends = ends
  due_so status.Memory ends = tt
  due_so status.Limit ends = ends
  due_so status.Below ends = ends
  due_so status.NoFile ends = ends

  ends_so : (s : Status) → IsDue s task file told → Ends s task file told ⊎ GivesWay s
  ends_so status.Ok due = inl due
  ends_so status.Threw due = inl due
  ends_so status.Usage due = inl due
  ends_so status.Refused due = inl due
  ends_so status.BadInput due = inl due
  ends_so status.ReadFault due = inl due
  ends_so status.WriteFault due = inr (inr (inl refl))
  ends_so status.Range due = inl due
  ends_so status.Going due = inl due
  ends_so status.Memory due = inr (inr (inr refl))
  ends_so status.Limit due = inl due
  ends_so status.Below due = inl due
  ends_so status.NoFile due = inl due

  is_line : (s : Status) (message : said.Message) → IsMessage s task file told message → IsLine s task file told (said.line message)
  is_line status.Ok message is = absurd is
  is_line status.Threw message is = (message, is, refl)
  is_line status.Usage message is = (message, is, refl)
  is_line status.Refused message is = (message, is, refl)
  is_line status.BadInput message is = (message, is, refl)
  is_line status.ReadFault message is = (message, is, refl)
  is_line status.WriteFault message is = (message, is, refl)
  is_line status.Range message is = (message, is, refl)
  is_line status.Going message is = (message, is, refl)
  is_line status.Memory message is = (message, is, refl)
  is_line status.Limit message is = (message, is, refl)
  is_line status.Below message is = (message, is, refl)
  is_line status.NoFile message is = (message, is, refl)

-- two statuses that what is held comes to
comes_so : (task : SourceTask) (file : List ℕ) (told : Option Held) (s wanted : Status) → Ends s task file told → IsSome told → Ends wanted task file told → Same s wanted
comes_so task file None s wanted here tells there = absurd cc
comes_so task file (Some held) s wanted here tells there =
    subst (λ t. Same t wanted) here.status (subst (λ t. Same (status_of_outcome here.outcome) t) there.status (one_status held file task here.comes there.comes))

module _ (task : SourceTask) (file : List ℕ) (told : Option Held) where
  -- ---- the status that is due, and what is said

  pub ends_stands : (s : Status) → Ends s task file told → Stands (Some (OnSource task file)) told s
  ends_stands s ends = record { due = due_so task file told s ends; comes = λ wanted tells due. by wanted tells (ends_so task file told wanted due) }
    where
      by : (wanted : Status) → IsSome told → Ends wanted task file told ⊎ GivesWay wanted → Same s wanted
      by wanted tells (inl there) = comes_so task file told s wanted ends tells there
      by wanted tells (inr gives) = inr (inr gives)

  -- something is said of what it comes to
  message_so : (s : Status) (message : said.Message) → SaysOutcome s task file told message → IsMessage s task file told message
  message_so status.Ok message says = by says.due.outcome says.due.status says.said
    where
      by : (of : Result Answer LoadFault) → status_of_outcome of ≡ status.Ok → said_of_outcome task file of ≡ Some message → ⊥
      by (Ok answer) is says = silent answer.end is says
        where
          silent : (end : End) → status_of_end end ≡ status.Ok → said_of task end ≡ Some message → ⊥
          silent outcome.Done is says = cc
          silent (outcome.Threw shown) is says = cc
          silent (outcome.Range why) is says = cc
          silent outcome.Going is says = cc
      by (Err why) is says = never_ok why is
  message_so status.Threw message says = says
  message_so status.Usage message says = says
  message_so status.Refused message says = says
  message_so status.BadInput message says = says
  message_so status.ReadFault message says = says
  message_so status.WriteFault message says = absurd (never_writes says.due.outcome says.due.status)
  message_so status.Range message says = says
  message_so status.Going message says = says
  message_so status.Memory message says = by says.due.outcome says.due.status says.said
    where
      by : (of : Result Answer LoadFault) → status_of_outcome of ≡ status.Memory → said_of_outcome task file of ≡ Some message → message ≡ said.OutOfMemory
      by (Ok answer) is says = absurd (never answer.end is)
        where
          never : (end : End) → status_of_end end ≡ status.Memory → ⊥
          never outcome.Done is = cc
          never (outcome.Threw shown) is = cc
          never (outcome.Range why) is = cc
          never outcome.Going is = cc
      by (Err why) is says = sym (some_is says) ∙ wanting why is
        where
          wanting : (why : LoadFault) → status_of_fault why ≡ status.Memory → message_of_fault file why ≡ said.OutOfMemory
          wanting fault.NoFile is = absurd cc
          wanting (fault.Refused path cause) is = absurd cc
          wanting (fault.BadMap path why) is = absurd cc
          wanting (fault.TooLong path) is = absurd cc
          wanting fault.TooManyFiles is = absurd cc
          wanting (fault.ReadFault path) is = absurd cc
          wanting fault.Memory is = refl
  message_so status.Limit message says = says
  message_so status.Below message says = says
  message_so status.NoFile message says = says

  says_so : (message : said.Message) → SaysOutcome (status_of message) task file told message → IsSaid (Some (OnSource task file)) told message
  says_so message says = record {
    stands = ends_stands (status_of message) says.due;
    are = is_line task file told (status_of message) message (message_so (status_of message) message says);
  }

  -- why there is no answer
  pub fault_is_said : (why : LoadFault) → ComesTo file told task (Err why) → {message : said.Message} → message ≡ message_of_fault file why → IsSaid (Some (OnSource task file)) told message
  fault_is_said why comes e =
      subst (IsSaid (Some (OnSource task file)) told) (sym e)
      (says_so (message_of_fault file why)
      (record { due = record { outcome = Err why; comes = comes; status = sym (fault_status file told task why comes) }; said = refl }))

  module _ (answer : Answer) (comes : ComesTo file told task (Ok answer)) where
    -- of an answer: how it ended, that it couldn't be printed, or nothing
    pub end_is_said : {message : said.Message} → said_of task answer.end ≡ Some message → IsSaid (Some (OnSource task file)) told message
    end_is_said {message = message} is =
        says_so message (record { due = record { outcome = Ok answer; comes = comes; status = end_status task answer.end is }; said = is })

    pub write_is_said : IsSaid (Some (OnSource task file)) told said.WriteFailed
    write_is_said = record {
      stands = gives_way (Some (OnSource task file)) told {s = status.WriteFault} (inr (inl refl)) (answer, comes);
      are = (said.WriteFailed, refl, refl);
    }

    pub done_stands : status_of_end answer.end ≡ status.Ok → Stands (Some (OnSource task file)) told status.Ok
    done_stands is = ends_stands status.Ok (record { outcome = Ok answer; comes = comes; status = is })

    -- ---- the output

    pub prints_defined : (before after : Option (List ℕ)) → TakesPrefix before after answer.output → IsSome told → (output : List ℕ) → IsOutput task file told output → TakesPrefix before after output
    prints_defined before after takes tells output (S.answered {answer = other} also) = subst (λ (a : Answer). TakesPrefix before after a.output) (by told tells comes also) takes
      where
        by : (at : Option Held) → IsSome at → ComesTo file at task (Ok answer) → ComesTo file at task (Ok other) → answer ≡ other
        by None tells here there = absurd cc
        by (Some held) tells here there = one_answer held file task answer other here there
    prints_defined before after takes tells output (S.none never) = absurd (never (answer, comes))

  pub prints_nothing : (before after : Option (List ℕ)) → after ≡ before → (output : List ℕ) → TakesPrefix before after output
  prints_nothing before after same output = (0, omega arith, same ∙ after_nothing before)

-- with no answer nothing is printed
never_prints : (why : LoadFault) → PrintsAll (status_of_fault why) → ⊥
never_prints fault.NoFile all = all
never_prints (fault.Refused path cause) all = all
never_prints (fault.BadMap path why) all = all
never_prints (fault.TooLong path) all = all
never_prints fault.TooManyFiles all = all
never_prints (fault.ReadFault path) all = all
never_prints fault.Memory all = all

pub fault_prints : (task : SourceTask) (file : List ℕ) (told : Option Held) (why : LoadFault) → ComesTo file told task (Err why) → {message : said.Message} → message ≡ message_of_fault file why →
    {result : Status} → (result ≡ status_of message) ⊎ (result ≡ status.Memory) → PrintsAll result → ⊥
fault_prints task file told why comes says (inl e) all =
    never_prints why (subst PrintsAll (e ∙ ap status_of says ∙ fault_status file told task why comes) all)
fault_prints task file told why comes says (inr e) all = subst PrintsAll e all
