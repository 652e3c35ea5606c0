-- The answers of `run` and `demo` are those of the meaning, and what the program does follows it.
use Rattle.std.proofs.Common.{◌≡◌, ◌≢◌, ℕ, ◌⊎◌, inl, inr, List, [], ◌∷◌, ◌++◌, Option, None, Some, codes, nat_eq, refl, sym, ap, ◌∙◌, subst, arith, true}
use Rattle.std.specs.Prelude.{◌-◌, ◌^◌, ◌≤◌, Result, Err, Ok}
use Rattle.std.specs.List.{ends_with}
use Rattle.js_coverage.specs.Coverage.{IsCoverage}
use Rattle.js_meaning.specs.declared.outcome.End.{End}
use Rattle.js_meaning.specs.declared.outcome.End.TheVariants as outcome
use Rattle.js_meaning.specs.World.{PlainRun}
use Rattle.cov_base.specs.Store.{Held, BothTell, KeepsOthers}
use Rattle.cov_base.specs.Sink.{after_more}
use Rattle.cov_object.specs.declared.file.FileCoverage.{FileCoverage}
use Rattle.cov_sim.specs.Headline.{Headline}
use Rattle.cov_sources.specs.declared.source.Source.{Source}
use Rattle.cov_words.specs.declared.command.Command.{Command}
use Rattle.cov_words.specs.declared.command.Command.TheVariants.{Help, OnSource, Instrument, OnCoverage, OnV8}
use Rattle.cov_words.specs.declared.command.SourceTask.TheVariants.{Maps, Exec, Run, Demo}
use Rattle.cov_run.specs.Laws as L
use Rattle.cov_run.specs.Laws.{Agree, LoadsApart}
use Rattle.cov_run.specs.Loaded.{Loaded}
use Rattle.cov_run.specs.declared.fault.LoadFault.{LoadFault}
use Rattle.cov_run.specs.Meant.{IsMeant, SessionsMean}
use Rattle.cov_run.proofs.OneSession.{one_coverage, some_loaded}
use Rattle.cov_run.proofs.Outcomes.{one_outcome}
use Rattle.cov_commands.specs.Coverage.{json_line}
use Rattle.cov_commands.specs.Demo.{demo_source, demo_summary, demo_turns}
use Rattle.cov_commands.specs.Line as said
use Rattle.cov_commands.specs.Meant.{ActsAreMeant, DemonstratesAsMeant, DemosAreMeant, DoesAsMeant, DoesByMeaning, RunsAreMeant, RunsAsMeant, ShowsAsMeant, line_of_end}
use Rattle.cov_commands.specs.Program.{GivesWay, IsDue, PrintsAll, PrintsOutput, Says, SaysLines}
use Rattle.cov_commands.specs.Source as source
use Rattle.cov_commands.specs.Source.{ComesTo, Ends, IsLine, Puts, PutsCoverage, SaysOutcome, answer_of_counted, answer_of_demo, counted, demonstrated, said_of, said_of_outcome, status_of_end, status_of_outcome, uncounted, undemonstrated}
use Rattle.cov_commands.specs.declared.answer.Answer.{Answer}
use Rattle.cov_commands.specs.declared.status.Status.{Status}
use Rattle.cov_commands.specs.declared.status.Status.TheVariants as status
use Rattle.cov_commands.proofs.Answered.{one_answer}
use Rattle.cov_commands.proofs.TextsMeant.{instruments_as_meant}

ok_is : {one other : Answer} → (◌≡◌) {A = Result Answer LoadFault} (Ok one) (Ok other) → one ≡ other
ok_is is = cc

-- the status of an end
prints_all : (end : End) → PrintsAll (status_of_end end)
prints_all outcome.Done = tt
prints_all (outcome.Threw shown) = tt
prints_all (outcome.Range why) = tt
prints_all outcome.Going = tt

no_way : (result : Status) → PrintsAll result → GivesWay result → ⊥
no_way result all (inl is) = subst PrintsAll is all
no_way result all (inr (inl is)) = subst PrintsAll is all
no_way result all (inr (inr is)) = subst PrintsAll is all

module _ (told after : Option Held) (before printed had has : Option (List ℕ)) (low high : ℕ) where
  wants : (asked : Option Command) {result : Status} → result ≡ status.Memory → DoesByMeaning asked result told after before printed had has low high
  wants None is = tt
  wants (Some Help) is = tt
  wants (Some (OnSource Maps file)) is = tt
  wants (Some (OnSource (Exec turns) file)) is = tt
  wants (Some (OnSource (Run turns out exclude) file)) is = λ tells sources loads. inl (inr (inr is))
  wants (Some (OnSource (Demo seed count) file)) {result = result} is = λ all. absurd (no_way result all (inr (inr is)))
  wants (Some (Instrument out files)) is = λ ok. absurd (let both = sym is ∙ ok in cc)
  wants (Some (OnCoverage task files)) is = tt
  wants (Some (OnV8 out files)) is = tt

  -- where memory was wanting nothing more is owed
  pub wants_memory : (asked : Option Command) {result : Status} → (result ≡ status.Memory) ⊎ (result ≡ status.Memory) → DoesByMeaning asked result told after before printed had has low high
  wants_memory asked (inl is) = wants asked is
  wants_memory asked (inr is) = wants asked is

module _ (mean : SessionsMean) (apart : LoadsApart) where
  meant_run : (sources : List Source) (turns : ℕ) (run : PlainRun) (files : List FileCoverage) (found : (c : List FileCoverage) × IsCoverage run.store.heap c × IsMeant sources turns run.end run.store.output c) →
      IsCoverage run.store.heap files → IsMeant sources turns run.end run.store.output files
  meant_run sources turns run files found covers = subst (IsMeant sources turns run.end run.store.output) (one_coverage run.store.heap found.0 files found.1 covers) found.2

  runs : (file : List ℕ) (told : Option Held) (turns : ℕ) (out : List ℕ) (exclude : List (List ℕ)) (answer : Answer) (of : Result Answer LoadFault) → of ≡ Ok answer →
      ends_with nat_eq file (codes ".js") ≡ true → turns ≤ 2 ^ 53 - 1 → ComesTo file told (Run turns out exclude) of → RunsAsMeant file told turns exclude answer
  runs file told turns out exclude answer of is ends few (counted {sources = sources} {run = run} {files = files} loads counts covers) =
      let same : answer_of_counted run files ≡ answer = ok_is is in
      let found = mean sources turns run (apart told file exclude sources ends loads) (some_loaded told file exclude sources loads) few counts in
      subst (RunsAsMeant file told turns exclude) same (record { sources = sources; loads = loads; coverage = files; left = refl; meant = meant_run sources turns run files found covers })
  runs file told turns out exclude answer of is ends few (uncounted loads) = absurd cc

  pub runs_are_meant : RunsAreMeant
  runs_are_meant file told turns out exclude answer ends few comes = runs file told turns out exclude answer (Ok answer) refl ends few comes

  demos : (file : List ℕ) (told : Option Held) (seed count : ℕ) (answer : Answer) (of : Result Answer LoadFault) → of ≡ Ok answer → ends_with nat_eq file (codes ".js") ≡ true →
      ComesTo file told (Demo seed count) of → DemonstratesAsMeant file seed count answer
  demos file told seed count answer of is ends (demonstrated {run = run} {files = files} counts covers) =
      let same : answer_of_demo run files ≡ answer = ok_is is in
      let found = mean (demo_source file seed count ∷ []) demo_turns run (ends, tt, tt) (omega arith) (omega arith) counts in
      subst (DemonstratesAsMeant file seed count) same
      (record { output = run.store.output; coverage = files; printed = refl; meant = meant_run (demo_source file seed count ∷ []) demo_turns run files found covers })
  demos file told seed count answer of is ends (undemonstrated why) = absurd cc

  pub demos_are_meant : DemosAreMeant
  demos_are_meant file told seed count answer ends comes = demos file told seed count answer (Ok answer) refl ends comes

  -- what is put is of the same answer
  module _ (turns : ℕ) (out : List ℕ) (exclude : List (List ℕ)) (file : List ℕ) (answer : Answer) (files : List FileCoverage) (left : answer.coverage ≡ Some files) where
    both_put : (told after : Option Held) (result : Status) → ComesTo file told (Run turns out exclude) (Ok answer) → BothTell told after (PutsCoverage result (Run turns out exclude) out file) →
        BothTell told after (λ old new. (new out ≡ Some (json_line files)) × KeepsOthers out old new)
    both_put None None result comes puts = tt
    both_put None (Some new) result comes puts = absurd puts
    both_put (Some old) None result comes puts = absurd puts
    both_put (Some old) (Some new) result comes puts =
        let same : puts.answer ≡ answer = one_answer old file (Run turns out exclude) puts.answer answer puts.comes comes in
        let covers : puts.files ≡ files = let all = sym puts.left ∙ ap (λ (a : Answer). a.coverage) same ∙ left in cc in
        (puts.put ∙ ap (λ c. Some (json_line c)) covers, puts.others)

    put_end : (told after : Option Held) (end : End) → ComesTo file told (Run turns out exclude) (Ok answer) → Puts (status_of_end end) (Run turns out exclude) out file told after →
        BothTell told after (λ old new. (new out ≡ Some (json_line files)) × KeepsOthers out old new)
    put_end told after outcome.Done comes puts = both_put told after status.Ok comes puts
    put_end told after (outcome.Threw shown) comes puts = both_put told after status.Threw comes puts
    put_end told after (outcome.Range why) comes puts = both_put told after status.Range comes puts
    put_end told after outcome.Going comes puts = both_put told after status.Going comes puts

  -- ---- one answer comes of what is held

  module _ (held : Held) (turns : ℕ) (out : List ℕ) (exclude : List (List ℕ)) (file : List ℕ) (sources : List Source) (loads : Loaded (Some held) file exclude (Ok sources)) where
    no_answer : {why : LoadFault} → Agree (Ok sources) (Err why) → GivesWay (status_of_outcome (Err why))
    no_answer L.other_failed = inl refl
    no_answer L.other_wants = inr (inr refl)

    same_sources : {others : List Source} → Agree (Ok sources) (Ok others) → others ≡ sources
    same_sources L.loaded = refl

    -- a fault comes only where it gives way
    unanswered : (of : Result Answer LoadFault) (why : LoadFault) → of ≡ Err why → ComesTo file (Some held) (Run turns out exclude) of → GivesWay (status_of_outcome (Err why))
    unanswered of why is (counted loaded counts covers) = absurd cc
    unanswered of why is (uncounted {why = cause} fails) =
        let same : cause ≡ why = cc in
        subst (λ (c : LoadFault). GivesWay (status_of_outcome (Err c))) same (no_answer (one_outcome held file exclude (Ok sources) (Err cause) loads fails))

    ended : (result : Status) → Ends result (Run turns out exclude) file (Some held) → GivesWay result ⊎ ((end : End) × (status_of_end end ≡ result))
    ended result due = by due.outcome due.comes due.status
      where
        by : (of : Result Answer LoadFault) → ComesTo file (Some held) (Run turns out exclude) of → status_of_outcome of ≡ result → GivesWay result ⊎ ((end : End) × (status_of_end end ≡ result))
        by (Ok answer) comes is = inr (answer.end, is)
        by (Err why) comes is = inl (subst GivesWay is (unanswered (Err why) why refl comes))

    due_end : (result : Status) → source.IsDue result (Run turns out exclude) file (Some held) → GivesWay result ⊎ ((end : End) × (status_of_end end ≡ result))
    due_end status.Ok due = ended status.Ok due
    due_end status.Threw due = ended status.Threw due
    due_end status.Usage due = ended status.Usage due
    due_end status.Refused due = ended status.Refused due
    due_end status.BadInput due = ended status.BadInput due
    due_end status.ReadFault due = inl (inl refl)
    due_end status.WriteFault due = inl (inr (inl refl))
    due_end status.Range due = ended status.Range due
    due_end status.Going due = ended status.Going due
    due_end status.Memory due = inl (inr (inr refl))
    due_end status.Limit due = ended status.Limit due
    due_end status.Below due = ended status.Below due
    due_end status.NoFile due = ended status.NoFile due

    -- ---- the line is that of the answer's end

    module _ (answer : Answer) (comes : ComesTo file (Some held) (Run turns out exclude) (Ok answer)) where
      says_end : (result : Status) (message : said.Message) → (GivesWay result → ⊥) → SaysOutcome result (Run turns out exclude) file (Some held) message → said_of (Run turns out exclude) answer.end ≡ Some message
      says_end result message stays says = by says.due.outcome says.due.comes says.due.status says.said
        where
          by : (of : Result Answer LoadFault) → ComesTo file (Some held) (Run turns out exclude) of → status_of_outcome of ≡ result → said_of_outcome (Run turns out exclude) file of ≡ Some message →
              said_of (Run turns out exclude) answer.end ≡ Some message
          by (Ok other) again is line = ap (λ (a : Answer). said_of (Run turns out exclude) a.end) (one_answer held file (Run turns out exclude) answer other comes again) ∙ line
          by (Err why) again is line = absurd (stays (subst GivesWay is (unanswered (Err why) why refl again)))

      of_end : (end : End) (message : said.Message) → answer.end ≡ end → said_of (Run turns out exclude) answer.end ≡ Some message → said_of (Run turns out exclude) end ≡ Some message
      of_end end message is says = subst (λ (e : End). said_of (Run turns out exclude) e ≡ Some message) is says

      line_of : (end : End) → answer.end ≡ end → (lines : List ℕ) → IsLine (status_of_end end) (Run turns out exclude) file (Some held) lines → lines ≡ line_of_end (Run turns out exclude) end
      line_of outcome.Done is lines line = line
      line_of (outcome.Threw shown) is lines line =
          let says : said_of (Run turns out exclude) (outcome.Threw shown) ≡ Some line.0 = of_end (outcome.Threw shown) line.0 is (says_end status.Threw line.0 (no_way status.Threw tt) line.1) in
          let same : line.0 ≡ said.Uncaught shown = cc in
          line.2 ∙ ap said.line same
      line_of (outcome.Range why) is lines line =
          let says : said_of (Run turns out exclude) (outcome.Range why) ≡ Some line.0 = of_end (outcome.Range why) line.0 is (says_end status.Range line.0 (no_way status.Range tt) line.1) in
          let same : line.0 ≡ said.Range why = cc in
          line.2 ∙ ap said.line same
      line_of outcome.Going is lines line =
          let says : said_of (Run turns out exclude) outcome.Going ≡ Some line.0 = of_end outcome.Going line.0 is (says_end status.Going line.0 (no_way status.Going tt) line.1) in
          let same : line.0 ≡ said.Going turns = cc in
          line.2 ∙ ap said.line same

    -- ---- all together

    meant_end : (after : Option Held) (before printed had has : Option (List ℕ)) (low high : ℕ) → ends_with nat_eq file (codes ".js") ≡ true → turns ≤ 2 ^ 53 - 1 → (end : End) →
        source.PrintsOutput (status_of_end end) (Run turns out exclude) file (Some held) before printed → Puts (status_of_end end) (Run turns out exclude) out file (Some held) after →
        SaysLines (Some (OnSource (Run turns out exclude) file)) (status_of_end end) (Some held) had has low high →
        DoesAsMeant turns out exclude sources (status_of_end end) (Some held) after before printed had has low high
    meant_end after before printed had has low high ends few end prints puts says =
        let r = runs_are_meant file (Some held) turns out exclude prints.answer ends few prints.comes in
        let m = r.meant in
        let line = line_of prints.answer prints.comes prints.answer.end refl says.lines
        (subst (λ s. IsLine s (Run turns out exclude) file (Some held) says.lines) (sym prints.ends) says.are) in
        subst (λ s. DoesAsMeant turns out exclude s (status_of_end end) (Some held) after before printed had has low high)
        (same_sources (one_outcome held file exclude (Ok sources) (Ok r.sources) loads r.loads))
        (record {
          files = m.files;
          w = m.w;
          means = m.means;
          ends = ap status_of_end (sym m.ends) ∙ prints.ends;
          says = subst (λ l. Says l had has low high) (line ∙ ap (line_of_end (Run turns out exclude)) m.ends) says.says;
          prints = prints.printed ∙ ap (after_more before) m.prints;
          puts = subst (λ c. BothTell (Some held) after (λ old new. (new out ≡ Some (json_line c)) × KeepsOthers out old new)) m.counts
              (put_end turns out exclude file prints.answer r.coverage r.left (Some held) after prints.answer.end prints.comes
              (subst (λ s. Puts s (Run turns out exclude) out file (Some held) after) (sym prints.ends) puts));
        })

    does_as_meant : (result : Status) (after : Option Held) (before printed had has : Option (List ℕ)) (low high : ℕ) → ends_with nat_eq file (codes ".js") ≡ true → turns ≤ 2 ^ 53 - 1 →
        source.IsDue result (Run turns out exclude) file (Some held) → (PrintsAll result → source.PrintsOutput result (Run turns out exclude) file (Some held) before printed) →
        Puts result (Run turns out exclude) out file (Some held) after →
        (result ≢ status.Memory → SaysLines (Some (OnSource (Run turns out exclude) file)) result (Some held) had has low high) →
        GivesWay result ⊎ DoesAsMeant turns out exclude sources result (Some held) after before printed had has low high
    does_as_meant result after before printed had has low high ends few due prints puts says = by (due_end result due)
      where
        by : GivesWay result ⊎ ((end : End) × (status_of_end end ≡ result)) → GivesWay result ⊎ DoesAsMeant turns out exclude sources result (Some held) after before printed had has low high
        by (inl way) = inl way
        by (inr (end, is)) = inr (subst (λ s. DoesAsMeant turns out exclude sources s (Some held) after before printed had has low high) is
            (meant_end after before printed had has low high ends few end
            (subst (λ s. source.PrintsOutput s (Run turns out exclude) file (Some held) before printed) (sym is) (prints (subst PrintsAll is (prints_all end))))
            (subst (λ s. Puts s (Run turns out exclude) out file (Some held) after) (sym is) puts)
            (subst (λ s. SaysLines (Some (OnSource (Run turns out exclude) file)) s (Some held) had has low high) (sym is) (says (λ want. subst PrintsAll (is ∙ want) (prints_all end))))))

  shows_as_meant : (file : List ℕ) (seed count : ℕ) (result : Status) (told : Option Held) (before printed : Option (List ℕ)) → ends_with nat_eq file (codes ".js") ≡ true →
      source.PrintsOutput result (Demo seed count) file told before printed → ShowsAsMeant file seed count result before printed
  shows_as_meant file seed count result told before printed ends prints =
      let d = demos_are_meant file told seed count prints.answer ends prints.comes in
      let m = d.meant in
      record {
        files = m.files;
        w = m.w;
        means = m.means;
        ends = ap status_of_end (sym m.ends) ∙ prints.ends;
        prints = prints.printed ∙ ap (after_more before) (d.printed ∙ ap (λ output. output ++ demo_summary d.coverage) m.prints ∙ ap (λ c. m.w.output ++ demo_summary c) m.counts);
      }

  -- ---- by what the words ask for

  module _ (headline : Headline) where
    pub acts_are_meant : ActsAreMeant
    acts_are_meant None result told after before printed had has low high within due prints puts says = tt
    acts_are_meant (Some Help) result told after before printed had has low high within due prints puts says = tt
    acts_are_meant (Some (OnSource Maps file)) result told after before printed had has low high within due prints puts says = tt
    acts_are_meant (Some (OnSource (Exec turns) file)) result told after before printed had has low high within due prints puts says = tt
    acts_are_meant (Some (OnSource (Run turns out exclude) file)) result None after before printed had has low high within due prints puts says = λ tells sources loads. absurd cc
    acts_are_meant (Some (OnSource (Run turns out exclude) file)) result (Some held) after before printed had has low high within due prints puts says = λ tells sources loads.
        does_as_meant held turns out exclude file sources loads result after before printed had has low high within.0 within.1 due prints puts says
    acts_are_meant (Some (OnSource (Demo seed count) file)) result told after before printed had has low high within due prints puts says = λ all. shows_as_meant file seed count result told before printed within (prints all)
    acts_are_meant (Some (Instrument out files)) result told after before printed had has low high within due prints puts says = λ ok. instruments_as_meant headline out files result told after ok puts
    acts_are_meant (Some (OnCoverage task files)) result told after before printed had has low high within due prints puts says = tt
    acts_are_meant (Some (OnV8 out files)) result told after before printed had has low high within due prints puts says = tt
