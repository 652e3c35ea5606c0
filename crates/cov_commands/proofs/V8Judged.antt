-- From what V8 files come to, to the status, the put and the lines that are due.
use Rattle.std.proofs.Common.{◌≡◌, ℕ, ◌⊎◌, inl, inr, List, [], Option, None, Some, IsSome, refl, sym, ap, ◌∙◌}
use Rattle.std.specs.Prelude.{IfSome, Result, Ok, Err}
use Rattle.cov_base.specs.Store.{Held, BothTell}
use Rattle.cov_object.specs.declared.file.FileCoverage.{FileCoverage}
use Rattle.cov_inputs.specs.V8.{Gives, gathered_v8, Reads}
use Rattle.cov_inputs.specs.declared.refusal.Refusal.{Refusal}
use Rattle.cov_inputs.specs.declared.refusal.Refusal.TheVariants as refusal
use Rattle.cov_inputs.specs.declared.fault.InputFault.{InputFault}
use Rattle.cov_inputs.specs.declared.fault.InputFault.TheVariants.{Refused, ReadFailed, Memory}
use Rattle.cov_words.specs.declared.command.Command.TheVariants.{OnV8}
use Rattle.cov_commands.specs.Coverage.{json_line, status_of_refusal}
use Rattle.cov_commands.specs.Line as said
use Rattle.cov_commands.specs.Program.{Comes, GivesWay}
use Rattle.cov_commands.specs.V8.{status_of, IsDue, HaveSums, PutsSums}
use Rattle.cov_commands.specs.private.Performed.{message_of_fault}
use Rattle.cov_commands.specs.declared.status.Status.{Status}
use Rattle.cov_commands.specs.declared.status.Status.TheVariants as status
use Rattle.cov_commands.proofs.Stands.{Stands, IsSaid, gives_way, memory_is_said}

module _ (out : List ℕ) (files : List (List ℕ)) (told : Option Held) where
  -- what is held comes to a status
  abbrev IsHeld : Status → Type 0
  IsHeld s = IfSome told (λ held. status_of (gathered_v8 held [] files) ≡ s)

  -- ---- the status that is due

  one_status : (tells : Option Held) → IsSome tells → (s t : Status) → IfSome tells (λ held. status_of (gathered_v8 held [] files) ≡ s) →
      IfSome tells (λ held. status_of (gathered_v8 held [] files) ≡ t) → s ≡ t
  one_status None some s t one other = absurd cc
  one_status (Some held) some s t one other = sym one ∙ other

  held_comes : (s : Status) → IsHeld s → Comes (Some (OnV8 out files)) s told
  held_comes s is wanted tells due = by_status wanted due
    where
      by_status : (t : Status) → IsDue t files told → (s ≡ t) ⊎ GivesWay s ⊎ GivesWay t
      by_status status.ReadFault other = inr (inr (inl refl))
      by_status status.WriteFault other = inr (inr (inr (inl refl)))
      by_status status.Memory other = inr (inr (inr (inr refl)))
      by_status status.Ok other = inl (one_status told tells s _ is other.comes)
      by_status status.Threw other = inl (one_status told tells s _ is other.comes)
      by_status status.Usage other = inl (one_status told tells s _ is other.comes)
      by_status status.Refused other = inl (one_status told tells s _ is other.comes)
      by_status status.BadInput other = inl (one_status told tells s _ is other.comes)
      by_status status.Range other = inl (one_status told tells s _ is other.comes)
      by_status status.Going other = inl (one_status told tells s _ is other.comes)
      by_status status.Limit other = inl (one_status told tells s _ is other.comes)
      by_status status.Below other = inl (one_status told tells s _ is other.comes)
      by_status status.NoFile other = inl (one_status told tells s _ is other.comes)

  held_stands : (s : Status) → IsDue s files told → IsHeld s → Stands (Some (OnV8 out files)) told s
  held_stands s due is = record { due = due; comes = held_comes s is }

  -- ---- files that have no sums, or weren't read

  refused_comes : (tells : Option Held) (why : Refusal) → IfSome tells (λ held. gathered_v8 held [] files ≡ Err why) →
      IfSome tells (λ held. status_of (gathered_v8 held [] files) ≡ status_of_refusal why)
  refused_comes None why are = tt
  refused_comes (Some held) why are = ap status_of are

  refusal_is_said : (why : Refusal) → IfSome told (λ held. gathered_v8 held [] files ≡ Err why) → IsSaid (Some (OnV8 out files)) told (message_of_fault (Refused why))
  refusal_is_said (refusal.NoFile path) are = let is = refused_comes told (refusal.NoFile path) are in record {
    stands = held_stands status.NoFile (record { may = tt; comes = is }) is;
    are = (said.NoFile path, record { why = refusal.NoFile path; status = refl; said = refl; are = are }, refl);
  }
  refusal_is_said (refusal.TooLong path) are = let is = refused_comes told (refusal.TooLong path) are in record {
    stands = held_stands status.Limit (record { may = tt; comes = is }) is;
    are = (said.TooLong path, record { why = refusal.TooLong path; status = refl; said = refl; are = are }, refl);
  }
  refusal_is_said (refusal.NotUtf8 path at) are = let is = refused_comes told (refusal.NotUtf8 path at) are in record {
    stands = held_stands status.Refused (record { may = tt; comes = is }) is;
    are = (said.NotUtf8 path at, record { why = refusal.NotUtf8 path at; status = refl; said = refl; are = are }, refl);
  }
  refusal_is_said (refusal.BadInput path what) are = let is = refused_comes told (refusal.BadInput path what) are in record {
    stands = held_stands status.BadInput (record { may = tt; comes = is }) is;
    are = (said.BadInput path what, record { why = refusal.BadInput path what; status = refl; said = refl; are = are }, refl);
  }
  refusal_is_said (refusal.CountTooLarge sum) are = let is = refused_comes told (refusal.CountTooLarge sum) are in record {
    stands = held_stands status.Limit (record { may = tt; comes = is }) is;
    are = (said.CountTooLarge sum, record { why = refusal.CountTooLarge sum; status = refl; said = refl; are = are }, refl);
  }

  pub fault_is_said : (why : InputFault) → IfSome told (λ held. Gives {A = List FileCoverage} (Err why) (gathered_v8 held [] files)) →
      ((path : List ℕ) → (◌≡◌) {A = Result (List FileCoverage) InputFault} (Err why) (Err (ReadFailed path)) → IfSome told (λ held. Reads held [] files path)) → IsSaid (Some (OnV8 out files)) told (message_of_fault why)
  fault_is_said (Refused why) gives reads = refusal_is_said why gives
  fault_is_said (ReadFailed path) gives reads = record {
    stands = gives_way (Some (OnV8 out files)) told (inl refl) tt;
    are = (said.ReadFailed path, record { path = path; reads = reads path refl; said = refl }, refl);
  }
  fault_is_said Memory gives reads = memory_is_said (Some (OnV8 out files)) told

  -- ---- files that have sums

  module _ (sums : List FileCoverage) (are : IfSome told (λ held. gathered_v8 held [] files ≡ Ok sums)) where
    have_sums : (tells : Option Held) → IfSome tells (λ held. gathered_v8 held [] files ≡ Ok sums) → HaveSums files tells
    have_sums None is = tt
    have_sums (Some held) is = (sums, is)

    done_comes : (tells : Option Held) → IfSome tells (λ held. gathered_v8 held [] files ≡ Ok sums) → IfSome tells (λ held. status_of (gathered_v8 held [] files) ≡ status.Ok)
    done_comes None is = tt
    done_comes (Some held) is = ap status_of is

    pub done_stands : Stands (Some (OnV8 out files)) told status.Ok
    done_stands = held_stands status.Ok (record { may = tt; comes = done_comes told are }) (done_comes told are)

    -- a fault of the store
    pub write_is_said : IsSaid (Some (OnV8 out files)) told said.WriteFailed
    write_is_said = record {
      stands = gives_way (Some (OnV8 out files)) told (inr (inl refl)) (have_sums told are);
      are = (said.WriteFailed, refl, refl);
    }

    -- what a put left behind
    pub sums_stand : (after : Option Held) → BothTell told after (λ old new. new out ≡ Some (json_line sums)) → BothTell told after (PutsSums out files)
    sums_stand after put = by_told told after put are
      where
        by_told : (old new : Option Held) → BothTell old new (λ before now. now out ≡ Some (json_line sums)) → IfSome old (λ held. gathered_v8 held [] files ≡ Ok sums) →
            BothTell old new (PutsSums out files)
        by_told None None put is = tt
        by_told (Some before) (Some now) put is = record { sums = sums; are = is; put = put }
        by_told None (Some now) put is = put
        by_told (Some before) None put is = put
