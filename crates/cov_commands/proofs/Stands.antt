-- What is asked, the status that stands to it, and the lines that are said with it.
use Rattle.std.proofs.Common.{◌≡◌, ◌≢◌, ℕ, ◌⊎◌, inl, inr, List, [], ◌∷◌, Option, None, Some, refl, sym, ap, ◌∙◌, subst, arith, append-nil}
use Rattle.cov_base.specs.Store.{Held, BothTell, KeepsOthers}
use Rattle.cov_base.specs.Sink.{after_more, TakesPrefix}
use Rattle.cov_inputs.specs.Inputs.{Input, AreRead}
use Rattle.cov_words.specs.declared.command.CoverageTask.TheVariants.{Merge, Report, Check}
use Rattle.cov_words.specs.declared.command.SourceTask.TheVariants.{Maps, Exec, Run, Demo}
use Rattle.cov_commands.specs.Source as source
use Rattle.cov_words.specs.declared.command.Command.{Command}
use Rattle.cov_words.specs.declared.command.Command.TheVariants.{Help, OnSource, Instrument, OnCoverage, OnV8}
use Rattle.cov_commands.specs.Instrument.{Puts}
use Rattle.cov_commands.specs.Line as said
use Rattle.cov_commands.specs.Program.{IsDue, Comes, GivesWay, AreLines, PrintsPrefix, Stores, CountsPuts, Says, SaysLines, SaysAtMost}
use Rattle.cov_commands.specs.Status.{status_of}
use Rattle.cov_commands.specs.declared.status.Status.{Status}
use Rattle.cov_commands.specs.declared.status.Status.TheVariants as status

-- the status is due, and where the store tells no other is, unless it gives way
pub record Stands (asked : Option Command) (told : Option Held) (s : Status) : Type 0 where
  pub due : IsDue asked s told
  pub comes : Comes asked s told

-- a status that gives way to nothing else
pub gives_way : (asked : Option Command) (told : Option Held) {s : Status} → GivesWay s → IsDue asked s told → Stands asked told s
gives_way asked told gives due = record { due = due; comes = λ wanted tells other. inr (inl gives) }

-- the message is that of a status that stands
pub record IsSaid (asked : Option Command) (told : Option Held) (message : said.Message) : Type 0 where
  pub stands : Stands asked told (status_of message)
  pub are : AreLines asked (status_of message) told (said.line message)

-- want of memory may be said at any point
pub memory_is_said : (asked : Option Command) (told : Option Held) → IsSaid asked told said.OutOfMemory
memory_is_said None told = record { stands = gives_way None told (inr (inr refl)) (inr refl); are = refl }
memory_is_said (Some Help) told = record { stands = gives_way (Some Help) told (inr (inr refl)) tt; are = refl }
memory_is_said (Some (OnSource task file)) told = record {
  stands = gives_way (Some (OnSource task file)) told (inr (inr refl)) tt;
  are = (said.OutOfMemory, refl, refl);
}
memory_is_said (Some (Instrument out files)) told = record {
  stands = gives_way (Some (Instrument out files)) told (inr (inr refl)) tt;
  are = (said.OutOfMemory, refl, refl);
}
memory_is_said (Some (OnCoverage task files)) told = record {
  stands = gives_way (Some (OnCoverage task files)) told (inr (inr refl)) tt;
  are = (said.OutOfMemory, refl, refl);
}
memory_is_said (Some (OnV8 out files)) told = record {
  stands = gives_way (Some (OnV8 out files)) told (inr (inr refl)) tt;
  are = (said.OutOfMemory, refl, refl);
}

-- words with no reading
pub usage_is_said : (told : Option Held) → IsSaid None told said.Usage
usage_is_said told = record {
  stands = record { due = inl refl; comes = λ wanted tells due. by_due wanted due };
  are = refl;
}
  where
    by_due : (wanted : Status) → (wanted ≡ status.Usage) ⊎ (wanted ≡ status.Memory) → (status.Usage ≡ wanted) ⊎ GivesWay status.Usage ⊎ GivesWay wanted
    by_due wanted (inl e) = inl (sym e)
    by_due wanted (inr e) = inr (inr (inr (inr e)))

-- ---- where nothing was done

-- there are inputs, whatever was read
pub some_inputs : (names : List (List ℕ)) (tells : Option Held) → (inputs : List Input) × AreRead tells names inputs
some_inputs [] None = ([], record { paths = refl; held = tt })
some_inputs [] (Some at) = ([], record { paths = refl; held = refl })
some_inputs (name ∷ names) None =
    let rest = some_inputs names None in
    (record { path = name; found = None } ∷ rest.0, record { paths = ap (λ all. name ∷ all) rest.1.paths; held = tt })
some_inputs (name ∷ names) (Some at) =
    let rest = some_inputs names (Some at) in (
      record { path = name; found = at name } ∷ rest.0,
      record { paths = ap (λ all. name ∷ all) rest.1.paths; held = ap (λ all. record { path = name; found = at name } ∷ all) rest.1.held },
    )

pub after_nothing : (before : Option (List ℕ)) → before ≡ after_more before []
after_nothing None = refl
after_nothing (Some xs) = ap Some (sym (append-nil xs))

pub prints_nothing : (asked : Option Command) (told : Option Held) (before after : Option (List ℕ)) → after ≡ before → PrintsPrefix asked told before after
prints_nothing None told before after same = same
prints_nothing (Some Help) told before after same = (0, omega arith, same ∙ after_nothing before)
prints_nothing (Some (OnSource task file)) told before after same = source.nothing same
prints_nothing (Some (Instrument out files)) told before after same = same
prints_nothing (Some (OnCoverage task files)) told before after same =
    let some = some_inputs files told in
    record { inputs = some.0; read = some.1; taken = (0, omega arith, same ∙ after_nothing before) }
prints_nothing (Some (OnV8 out files)) told before after same = same

pub others_stay : (held : Option Held) (path : List ℕ) → BothTell held held (KeepsOthers path)
others_stay None path = tt
others_stay (Some at) path = λ other differs. refl

not_done : {result : Status} → (result ≡ status.Memory) ⊎ (result ≡ status.Memory) → result ≡ status.Ok → ⊥
not_done (inl e) ok = let both = sym e ∙ ok in cc
not_done (inr e) ok = let both = sym e ∙ ok in cc

pub stores_nothing : (asked : Option Command) (told : Option Held) {result : Status} → (result ≡ status.Memory) ⊎ (result ≡ status.Memory) → Stores asked result told told
stores_nothing None told is = refl
stores_nothing (Some Help) told is = refl
stores_nothing (Some (OnSource Maps file)) told is = refl
stores_nothing (Some (OnSource (Exec turns) file)) told is = refl
stores_nothing (Some (OnSource (Run turns out exclude) file)) told (inl e) = subst (λ s. source.Puts s (Run turns out exclude) out file told told) (sym e) (others_stay told out)
stores_nothing (Some (OnSource (Run turns out exclude) file)) told (inr e) = subst (λ s. source.Puts s (Run turns out exclude) out file told told) (sym e) (others_stay told out)
stores_nothing (Some (OnSource (Demo seed count) file)) told is = refl
stores_nothing (Some (Instrument out files)) told (inl e) = subst (λ s. Puts s out files told told) (sym e) (inl refl)
stores_nothing (Some (Instrument out files)) told (inr e) = subst (λ s. Puts s out files told told) (sym e) (inl refl)
stores_nothing (Some (OnCoverage (Merge out) files)) told is = record {
  others = others_stay told out;
  sums = λ ok. absurd (not_done is ok);
  untried = λ before. refl;
}
stores_nothing (Some (OnCoverage (Report which) files)) told is = refl
stores_nothing (Some (OnCoverage (Check thresholds) files)) told is = refl
stores_nothing (Some (OnV8 out files)) told is = record {
  others = others_stay told out;
  sums = λ ok. absurd (not_done is ok);
  untried = λ before. refl;
}

pub counts_no_puts : (asked : Option Command) (count : ℕ) → CountsPuts asked count count
counts_no_puts None count = refl
counts_no_puts (Some Help) count = refl
counts_no_puts (Some (OnSource Maps file)) count = refl
counts_no_puts (Some (OnSource (Exec turns) file)) count = refl
counts_no_puts (Some (OnSource (Run turns out exclude) file)) count = omega arith
counts_no_puts (Some (OnSource (Demo seed functions) file)) count = refl
counts_no_puts (Some (Instrument out files)) count = omega arith
counts_no_puts (Some (OnCoverage (Merge out) files)) count = omega arith
counts_no_puts (Some (OnCoverage (Report which) files)) count = refl
counts_no_puts (Some (OnCoverage (Check thresholds) files)) count = refl
counts_no_puts (Some (OnV8 out files)) count = omega arith

module _ (asked : Option Command) (told : Option Held) where
  -- the status with which a complaint ends stands too
  pub complained : {message : said.Message} {result : Status} → IsSaid asked told message → (result ≡ status_of message) ⊎ (result ≡ status.Memory) → Stands asked told result
  complained is (inl e) = subst (Stands asked told) (sym e) is.stands
  complained is (inr e) = subst (Stands asked told) (sym e) (memory_is_said asked told).stands

  -- a complaint's lines are those of its status
  pub says_lines : {message : said.Message} {result : Status} → IsSaid asked told message → (result ≡ status_of message) ⊎ (result ≡ status.Memory) →
      {before after : Option (List ℕ)} {low high : ℕ} → result ≢ status.Memory → Says (said.line message) before after low high →
      SaysLines asked result told before after low high
  says_lines {message = message} is (inl e) other says = record {
    lines = said.line message;
    are = subst (λ s. AreLines asked s told (said.line message)) (sym e) is.are;
    says = says;
  }
  says_lines is (inr e) other says = absurd (other e)

  -- for want of memory: the complaint's lines, or that of want of memory
  pub says_at_most : {complained message : said.Message} → IsSaid asked told complained → (message ≡ complained) ⊎ (message ≡ said.OutOfMemory) →
      {before after : Option (List ℕ)} → TakesPrefix before after (said.line message) → SaysAtMost asked told before after
  says_at_most {complained = complained} {message = message} is (inl same) takes = record {
    due = status_of complained;
    lines = said.line message;
    are = subst (λ m. AreLines asked (status_of complained) told (said.line m)) (sym same) is.are;
    taken = takes;
  }
  says_at_most {message = message} is (inr same) takes = record {
    due = status.Memory;
    lines = said.line message;
    are = subst (λ m. AreLines asked status.Memory told (said.line m)) (sym same) (memory_is_said asked told).are;
    taken = takes;
  }
