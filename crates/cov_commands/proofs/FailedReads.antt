-- Where a failed read of coverage files is told, the fault was a failed read.
use Rattle.std.proofs.Common.{◌≡◌, ℕ, ◌⊎◌, inl, inr, List, refl, sym, ap, ◌∙◌}
use Rattle.cov_inputs.specs.declared.refusal.Refusal.{Refusal}
use Rattle.cov_inputs.specs.declared.refusal.Refusal.TheVariants as refusal
use Rattle.cov_inputs.specs.declared.fault.InputFault.{InputFault}
use Rattle.cov_inputs.specs.declared.fault.InputFault.TheVariants.{Refused, ReadFailed, Memory}
use Rattle.cov_commands.specs.Line as said
use Rattle.cov_commands.specs.Coverage.{message_of_refusal}
use Rattle.cov_commands.specs.Status.{status_of}
use Rattle.cov_commands.specs.private.Performed.{message_of_fault}
use Rattle.cov_commands.specs.declared.status.Status.{Status}
use Rattle.cov_commands.specs.declared.status.Status.TheVariants as status

-- the status is that of the message
told : (message : said.Message) (result : Status) → (result ≡ status_of message) ⊎ (result ≡ status.Memory) → result ≡ status.ReadFault → status_of message ≡ status.ReadFault
told message result (inl e) is = sym e ∙ is
told message result (inr e) is = let both = sym e ∙ is in cc

of_refusal : (why : Refusal) → status_of (message_of_refusal why) ≡ status.ReadFault → ⊥
of_refusal (refusal.NoFile path) is = cc
of_refusal (refusal.TooLong path) is = cc
of_refusal (refusal.NotUtf8 path at) is = cc
of_refusal (refusal.BadInput path what) is = cc
of_refusal (refusal.CountTooLarge sum) is = cc

of_coverage : (why : InputFault) → status_of (message_of_fault why) ≡ status.ReadFault → (path : List ℕ) × (why ≡ ReadFailed path)
of_coverage (Refused why) is = absurd (of_refusal why is)
of_coverage (ReadFailed path) is = (path, refl)
of_coverage Memory is = absurd cc

pub coverage_read : (why : InputFault) (message : said.Message) (result : Status) → message ≡ message_of_fault why → (result ≡ status_of message) ⊎ (result ≡ status.Memory) →
    result ≡ status.ReadFault → (path : List ℕ) × (why ≡ ReadFailed path) × (message ≡ said.ReadFailed path)
coverage_read why message result says ends is =
    let read = of_coverage why (ap status_of (sym says) ∙ told message result ends is) in
    (read.0, read.1, says ∙ ap message_of_fault read.1)
