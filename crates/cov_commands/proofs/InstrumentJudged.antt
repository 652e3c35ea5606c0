-- From the files of `instrument` to the status and the line that are due.
use Rattle.std.proofs.Common.{◌≡◌, ℕ, ◌+◌, ◌≤◌, ◌⊎◌, inl, inr, List, length, Option, None, Some, IsSome, refl, sym, ap, ◌∙◌, subst, arith}
use Rattle.cov_base.specs.Store.{Held}
use Rattle.cov_run.specs.Loaded.{most}
use Rattle.cov_run.specs.declared.fault.LoadFault.{LoadFault}
use Rattle.cov_run.specs.declared.fault.LoadFault.TheVariants as fault
use Rattle.cov_words.specs.declared.command.Command.TheVariants.{Instrument}
use Rattle.cov_commands.specs.Instrument as S
use Rattle.cov_commands.specs.Instrument.{Each, HoldsSource, AreSources, StopsAt, EndsWith, IsDue, Puts}
use Rattle.cov_commands.specs.Line as said
use Rattle.cov_commands.specs.Program.{AreLines, GivesWay}
use Rattle.cov_commands.specs.Source.{message_of_cause, message_of_fault, status_of_fault}
use Rattle.cov_commands.specs.Status.{status_of}
use Rattle.cov_commands.specs.declared.status.Status.{Status}
use Rattle.cov_commands.specs.declared.status.Status.TheVariants as status
use Rattle.cov_commands.proofs.Answered.{Same, both_unloaded, not_unloaded, unloaded_status}
use Rattle.cov_commands.proofs.Stands.{Stands, IsSaid, memory_is_said}

-- the message of what ends the work has its status
stop_status : (told : Option Held) (before : ℕ) (files : List (List ℕ)) (file : List ℕ) (why : LoadFault) → StopsAt told before files file why →
    status_of (message_of_fault file why) ≡ status_of_fault why
stop_status told before _ file why (S.here is) = unloaded_status file told why is
stop_status told before _ file _ (S.too_many is full) = refl
stop_status told before _ file why (S.later {files = files} is room stops) = stop_status told (before + 1) files file why stops

-- ---- where the store tells, it is one status, unless a fault or want of memory comes first

module _ (held : Held) where
  ends_alike : (before : ℕ) (files : List (List ℕ)) (file path : List ℕ) (one other : LoadFault) → StopsAt (Some held) before files file one → StopsAt (Some held) before files path other →
      Same (status_of_fault one) (status_of_fault other)
  ends_alike before _ file _ one other (S.here is) (S.here also) = both_unloaded held file is also
  ends_alike before _ file _ one _ (S.here is) (S.too_many good full) = inr (inl (not_unloaded held file good.3 good.4 is))
  ends_alike before _ file path one other (S.here is) (S.later good room stops) = inr (inl (not_unloaded held file good.3 good.4 is))
  ends_alike before _ file _ _ other (S.too_many good full) (S.here is) = inr (inr (not_unloaded held file good.3 good.4 is))
  ends_alike before _ file _ _ _ (S.too_many good full) (S.too_many also again) = inl refl
  ends_alike before _ file path _ other (S.too_many good full) (S.later also room stops) = absurd (omega (arith, full, room))
  ends_alike before _ file path one other (S.later good room stops) (S.here is) = inr (inr (not_unloaded held path good.3 good.4 is))
  ends_alike before _ file path one _ (S.later good room stops) (S.too_many also full) = absurd (omega (arith, full, room))
  ends_alike before _ file path one other (S.later {files = files} good room stops) (S.later also again ends) = ends_alike (before + 1) files file path one other stops ends

  sources_end : (before : ℕ) (files : List (List ℕ)) (file : List ℕ) (why : LoadFault) → before + length files ≤ most → Each (HoldsSource (Some held)) files →
      StopsAt (Some held) before files file why → GivesWay (status_of_fault why)
  sources_end before _ file why within each (S.here is) = not_unloaded held file each.0.3 each.0.4 is
  sources_end before _ file _ within each (S.too_many is full) = absurd (omega (arith, within, full))
  sources_end before _ file why within each (S.later {files = files} is room stops) = sources_end (before + 1) files file why (omega (arith, within)) each.1 stops

-- ---- the status that is due

module _ (out : List ℕ) (files : List (List ℕ)) (told : Option Held) where
  -- a status is due as a fault or want of memory, as all are sources, or as a file ends the work
  abbrev IsDueFor : Status → Type 0
  IsDueFor s = GivesWay s ⊎ ((s ≡ status.Ok) × AreSources files told) ⊎ ((message : said.Message) × EndsWith s files told message)

  due_for : (s : Status) → IsDue s files told → IsDueFor s
  due_for status.Ok due = inr (inl (refl, due))
  due_for status.WriteFault due = inl (inr (inl refl))
  due_for status.Memory due = inl (inr (inr refl))
  due_for status.Threw due = inr (inr due)
  due_for status.Usage due = inr (inr due)
  due_for status.Refused due = inr (inr due)
  due_for status.BadInput due = inr (inr due)
  due_for status.ReadFault due = inr (inr due)
  due_for status.Range due = inr (inr due)
  due_for status.Going due = inr (inr due)
  due_for status.Limit due = inr (inr due)
  due_for status.Below due = inr (inr due)
  due_for status.NoFile due = inr (inr due)

  from_none : length files ≤ most → 0 + length files ≤ most
  from_none within = omega (arith, within)

  -- all are sources, so that a file ends the work only by a fault or want of memory
  gives : (held : Held) → told ≡ Some held → AreSources files told → (s : Status) → (message : said.Message) → EndsWith s files told message → GivesWay s
  gives held is are s message ends =
      let sources : AreSources files (Some held) = subst (AreSources files) is are in
      let stops : StopsAt (Some held) 0 files ends.file ends.why = subst (λ t. StopsAt t 0 files ends.file ends.why) is ends.stops in
      subst GivesWay ends.status (sources_end held 0 files ends.file ends.why (from_none sources.within) sources.each stops)

  both_end : (held : Held) → told ≡ Some held → (s t : Status) (one other : said.Message) → EndsWith s files told one → EndsWith t files told other → Same s t
  both_end held is s t one other here there =
      let stops : StopsAt (Some held) 0 files here.file here.why = subst (λ u. StopsAt u 0 files here.file here.why) is here.stops in
      let ends : StopsAt (Some held) 0 files there.file there.why = subst (λ u. StopsAt u 0 files there.file there.why) is there.stops in
      subst (λ u. Same s u) there.status (subst (λ u. Same u (status_of_fault there.why)) here.status (ends_alike held 0 files here.file there.file here.why there.why stops ends))

  agree : (tells : Option Held) → told ≡ tells → IsSome tells → (s t : Status) → IsDueFor s → IsDueFor t → Same s t
  agree None is tells s t one other = absurd cc
  agree (Some held) is tells s t (inl way) other = inr (inl way)
  agree (Some held) is tells s t (inr one) (inl way) = inr (inr way)
  agree (Some held) is tells s t (inr (inl one)) (inr (inl other)) = inl (one.0 ∙ sym other.0)
  agree (Some held) is tells s t (inr (inl one)) (inr (inr other)) = inr (inr (gives held is one.1 t other.0 other.1))
  agree (Some held) is tells s t (inr (inr one)) (inr (inl other)) = inr (inl (gives held is other.1 s one.0 one.1))
  agree (Some held) is tells s t (inr (inr one)) (inr (inr other)) = both_end held is s t one.0 other.0 one.1 other.1

  due_stands : (s : Status) → IsDue s files told → Stands (Some (Instrument out files)) told s
  due_stands s due = record { due = due; comes = λ wanted tells other. agree told refl tells s wanted (due_for s due) (due_for wanted other) }

  -- ---- where all are sources

  pub done_stands : AreSources files told → Stands (Some (Instrument out files)) told status.Ok
  done_stands are = due_stands status.Ok are

  -- a fault of the store
  pub write_is_said : AreSources files told → IsSaid (Some (Instrument out files)) told said.WriteFailed
  write_is_said are = record { stands = due_stands status.WriteFault are; are = (said.WriteFailed, refl, refl) }

  -- ---- where a file ends the work

  pub stop_is_said : (file : List ℕ) (why : LoadFault) → StopsAt told 0 files file why → IsSaid (Some (Instrument out files)) told (message_of_fault file why)
  stop_is_said file fault.NoFile stops =
      let ends : EndsWith status.NoFile files told (said.NoFile file) = record { file = file; why = fault.NoFile; stops = stops; status = refl; said = refl } in
      record { stands = due_stands status.NoFile (said.NoFile file, ends); are = (said.NoFile file, ends, refl) }
  stop_is_said file (fault.BadMap path why) stops =
      let message = said.BadInput path (said.what_of_map why) in
      let ends : EndsWith status.BadInput files told message = record { file = file; why = fault.BadMap path why; stops = stops; status = refl; said = refl } in
      record { stands = due_stands status.BadInput (message, ends); are = (message, ends, refl) }
  stop_is_said file (fault.TooLong path) stops =
      let ends : EndsWith status.Limit files told (said.TooLong path) = record { file = file; why = fault.TooLong path; stops = stops; status = refl; said = refl } in
      record { stands = due_stands status.Limit (said.TooLong path, ends); are = (said.TooLong path, ends, refl) }
  stop_is_said file fault.TooManyFiles stops =
      let ends : EndsWith status.Limit files told said.TooManyFiles = record { file = file; why = fault.TooManyFiles; stops = stops; status = refl; said = refl } in
      record { stands = due_stands status.Limit (said.TooManyFiles, ends); are = (said.TooManyFiles, ends, refl) }
  stop_is_said file (fault.ReadFault path) stops =
      let ends : EndsWith status.ReadFault files told (said.ReadFailed path) = record { file = file; why = fault.ReadFault path; stops = stops; status = refl; said = refl } in
      record { stands = due_stands status.ReadFault (said.ReadFailed path, ends); are = (said.ReadFailed path, ends, refl) }
  stop_is_said file fault.Memory stops = memory_is_said (Some (Instrument out files)) told
  stop_is_said file (fault.Refused path cause) stops =
      let message = message_of_cause path cause in
      let is : status_of message ≡ status.Refused = stop_status told 0 files file (fault.Refused path cause) stops in
      let ends : EndsWith status.Refused files told message = record { file = file; why = fault.Refused path cause; stops = stops; status = refl; said = refl } in
      record {
        stands = subst (Stands (Some (Instrument out files)) told) (sym is) (due_stands status.Refused (message, ends));
        are = subst (λ s. AreLines (Some (Instrument out files)) s told (said.line message)) (sym is) (message, ends, refl);
      }

  -- nothing was put
  nothing_put : (why : LoadFault) (after : Option Held) → after ≡ told → Puts (status_of_fault why) out files told after
  nothing_put fault.NoFile after same = same
  nothing_put (fault.Refused path cause) after same = same
  nothing_put (fault.BadMap path why) after same = same
  nothing_put (fault.TooLong path) after same = same
  nothing_put fault.TooManyFiles after same = same
  nothing_put (fault.ReadFault path) after same = same
  nothing_put fault.Memory after same = inl same

  pub stop_puts : (file : List ℕ) (why : LoadFault) (result : Status) → StopsAt told 0 files file why → (result ≡ status_of (message_of_fault file why)) ⊎ (result ≡ status.Memory) →
      (after : Option Held) → after ≡ told → Puts result out files told after
  stop_puts file why result stops (inl is) after same = subst (λ s. Puts s out files told after) (sym (is ∙ stop_status told 0 files file why stops)) (nothing_put why after same)
  stop_puts file why result stops (inr is) after same = subst (λ s. Puts s out files told after) (sym is) (inl same)

  -- a read that failed is told of its path
  by_read : (why : LoadFault) → status_of_fault why ≡ status.ReadFault → (path : List ℕ) × (why ≡ fault.ReadFault path)
  by_read fault.NoFile is = absurd cc
  by_read (fault.Refused path cause) is = absurd cc
  by_read (fault.BadMap path why) is = absurd cc
  by_read (fault.TooLong path) is = absurd cc
  by_read fault.TooManyFiles is = absurd cc
  by_read (fault.ReadFault path) is = (path, refl)
  by_read fault.Memory is = absurd cc

  pub stop_read : (file : List ℕ) (why : LoadFault) (result : Status) → StopsAt told 0 files file why → (result ≡ status_of (message_of_fault file why)) ⊎ (result ≡ status.Memory) →
      result ≡ status.ReadFault → (path : List ℕ) × (why ≡ fault.ReadFault path)
  stop_read file why result stops (inl is) read = by_read why (sym (stop_status told 0 files file why stops) ∙ sym is ∙ read)
  stop_read file why result stops (inr is) read = let both = sym is ∙ read in absurd cc

  no_write : (why : LoadFault) → status_of_fault why ≡ status.WriteFault → ⊥
  no_write fault.NoFile is = cc
  no_write (fault.Refused path cause) is = cc
  no_write (fault.BadMap path why) is = cc
  no_write (fault.TooLong path) is = cc
  no_write fault.TooManyFiles is = cc
  no_write (fault.ReadFault path) is = cc
  no_write fault.Memory is = cc

  pub stop_writes_not : (file : List ℕ) (why : LoadFault) (result : Status) → StopsAt told 0 files file why → (result ≡ status_of (message_of_fault file why)) ⊎ (result ≡ status.Memory) →
      result ≡ status.WriteFault → ⊥
  stop_writes_not file why result stops (inl is) write = no_write why (sym (stop_status told 0 files file why stops) ∙ sym is ∙ write)
  stop_writes_not file why result stops (inr is) write = let both = sym is ∙ write in cc

  -- ---- the same of the message of a complaint

  module _ (file : List ℕ) (why : LoadFault) (stops : StopsAt told 0 files file why) (message : said.Message) (says : message ≡ message_of_fault file why) where
    same_status : {result : Status} → (result ≡ status_of message) ⊎ (result ≡ status.Memory) → (result ≡ status_of (message_of_fault file why)) ⊎ (result ≡ status.Memory)
    same_status (inl is) = inl (is ∙ ap status_of says)
    same_status (inr is) = inr is

    pub stopped_said : IsSaid (Some (Instrument out files)) told message
    stopped_said = subst (IsSaid (Some (Instrument out files)) told) (sym says) (stop_is_said file why stops)

    pub stopped_puts : (result : Status) → (result ≡ status_of message) ⊎ (result ≡ status.Memory) → (after : Option Held) → after ≡ told → Puts result out files told after
    stopped_puts result is = stop_puts file why result stops (same_status is)

    pub stopped_read : (result : Status) → (result ≡ status_of message) ⊎ (result ≡ status.Memory) → result ≡ status.ReadFault → (path : List ℕ) × (why ≡ fault.ReadFault path) × (message ≡ said.ReadFailed path)
    stopped_read result is read = let at = stop_read file why result stops (same_status is) read in (at.0, at.1, says ∙ ap (message_of_fault file) at.1)

    pub stopped_writes_not : (result : Status) → (result ≡ status_of message) ⊎ (result ≡ status.Memory) → result ≡ status.WriteFault → ⊥
    stopped_writes_not result is = stop_writes_not file why result stops (same_status is)
