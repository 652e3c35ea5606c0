-- Where a failed read is told of a source, the fault was a failed read; and of no fault that a write failed.
use Rattle.std.proofs.Common.{◌≡◌, ℕ, ◌⊎◌, inl, inr, List, refl, sym, ap, ◌∙◌, subst}
use Rattle.js_text.specs.declared.text.TextFault.TheVariants as text
use Rattle.js_parser.specs.declared.refused.Refusal.{Refusal}
use Rattle.js_parser.specs.declared.refused.Refusal.TheVariants as refusal
use Rattle.js_terms.specs.declared.place.Pos.{Pos}
use Rattle.cov_sources.specs.declared.why.Why.{Why}
use Rattle.cov_sources.specs.declared.why.Why.TheVariants as cause
use Rattle.cov_run.specs.declared.fault.LoadFault.{LoadFault}
use Rattle.cov_run.specs.declared.fault.LoadFault.TheVariants as fault
use Rattle.cov_commands.specs.Line as said
use Rattle.cov_commands.specs.Source.{message_of_cause, message_of_unread, message_of_fault}
use Rattle.cov_commands.specs.Status.{status_of}
use Rattle.cov_commands.specs.declared.status.Status.{Status}
use Rattle.cov_commands.specs.declared.status.Status.TheVariants as status

-- neither that a read failed nor that a write did
abbrev IsOther : Status → Type 0
IsOther status.ReadFault = ⊥
IsOther status.WriteFault = ⊥
IsOther _ = Unit {0}

of_unread : (path : List ℕ) (place : Pos) (why : Refusal) → IsOther (status_of (message_of_unread path place why))
of_unread path place refusal.Syntax = tt
of_unread path place (refusal.Unsupported form) = tt
of_unread path place refusal.TooDeep = tt
of_unread path place refusal.Memory = tt

of_cause : (path : List ℕ) (why : Why) → IsOther (status_of (message_of_cause path why))
of_cause path (cause.NoText (text.TooLong count)) = tt
of_cause path (cause.NoText (text.NotUtf8 at)) = tt
of_cause path (cause.NoText text.Memory) = tt
of_cause path (cause.Unread refused place) = of_unread path place refused.why
of_cause path (cause.Broken broken) = tt

-- the status is that of the message
told : (message : said.Message) (result other : Status) → (result ≡ status_of message) ⊎ (result ≡ status.Memory) → result ≡ other → (status.Memory ≡ other → ⊥) → status_of message ≡ other
told message result other (inl e) is not = sym e ∙ is
told message result other (inr e) is not = absurd (not (sym e ∙ is))

read_by : (file : List ℕ) (why : LoadFault) → status_of (message_of_fault file why) ≡ status.ReadFault → (path : List ℕ) × (why ≡ fault.ReadFault path)
read_by file fault.NoFile is = absurd cc
read_by file (fault.Refused path cause) is = absurd (subst IsOther is (of_cause path cause))
read_by file (fault.BadMap path why) is = absurd cc
read_by file (fault.TooLong path) is = absurd cc
read_by file fault.TooManyFiles is = absurd cc
read_by file (fault.ReadFault path) is = (path, refl)
read_by file fault.Memory is = absurd cc

pub source_read : (file : List ℕ) (why : LoadFault) (message : said.Message) (result : Status) → message ≡ message_of_fault file why → (result ≡ status_of message) ⊎ (result ≡ status.Memory) →
    result ≡ status.ReadFault → (path : List ℕ) × (why ≡ fault.ReadFault path) × (message ≡ said.ReadFailed path)
source_read file why message result says ends is =
    let read = read_by file why (ap status_of (sym says) ∙ told message result status.ReadFault ends is (λ e. cc)) in
    (read.0, read.1, says ∙ ap (message_of_fault file) read.1)

written_by : (file : List ℕ) (why : LoadFault) → status_of (message_of_fault file why) ≡ status.WriteFault → ⊥
written_by file fault.NoFile is = cc
written_by file (fault.Refused path cause) is = subst IsOther is (of_cause path cause)
written_by file (fault.BadMap path why) is = cc
written_by file (fault.TooLong path) is = cc
written_by file fault.TooManyFiles is = cc
written_by file (fault.ReadFault path) is = cc
written_by file fault.Memory is = cc

pub never_written : (file : List ℕ) (why : LoadFault) (message : said.Message) (result : Status) → message ≡ message_of_fault file why → (result ≡ status_of message) ⊎ (result ≡ status.Memory) →
    result ≡ status.WriteFault → ⊥
never_written file why message result says ends is = written_by file why (ap status_of (sym says) ∙ told message result status.WriteFault ends is (λ e. cc))
