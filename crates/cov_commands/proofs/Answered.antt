-- What a task on a source comes to.
use Rattle.std.proofs.Common.{◌≡◌, ℕ, ◌⊎◌, inl, inr, List, [], ◌∷◌, length, ◌≤◌, Option, None, Some, refl, sym, ap, ◌∙◌, subst, arith}
use Rattle.std.specs.Prelude.{Result, Ok, Err, ◌++◌}
use Rattle.std.specs.List.{AllZip}
use Rattle.js_tree.specs.Plain.{File}
use Rattle.js_text.specs.Limits.{source_limits}
use Rattle.js_text.specs.declared.text.TextFault.TheVariants as text
use Rattle.js_scopes.specs.Accepted.{Accepted}
use Rattle.js_parser.specs.declared.refused.Refusal as R
use Rattle.js_parser.specs.declared.refused.Refusal.TheVariants as refusal
use Rattle.js_meaning.specs.declared.outcome.End.{End}
use Rattle.js_meaning.specs.Program as program
use Rattle.js_meaning.specs.World.{PlainRun}
use Rattle.js_coverage.specs.Coverage.{IsCoverage}
use Rattle.cov_object.specs.declared.file.FileCoverage.{FileCoverage}
use Rattle.cov_base.specs.Store.{Held}
use Rattle.cov_sources.specs.Refused.{IsRefused}
use Rattle.cov_sources.specs.declared.source.Source.{Source}
use Rattle.cov_sources.specs.declared.why.Why.{Why}
use Rattle.cov_sources.specs.declared.why.Why.TheVariants as cause
use Rattle.cov_words.specs.declared.command.SourceTask.{SourceTask}
use Rattle.cov_words.specs.declared.command.SourceTask.TheVariants.{Maps, Exec, Run, Demo}
use Rattle.cov_run.specs.Exec.{EndsAs, Runs}
use Rattle.cov_run.specs.Laws as L
use Rattle.cov_run.specs.Laws.{Agree}
use Rattle.cov_run.specs.Loaded as loaded
use Rattle.source_map.specs.declared.place.Parts.{Parts}
use Rattle.cov_run.specs.Loaded.{HasInput, IsNoSource, IsSource, IsUnloaded, IsUnread, Loaded}
use Rattle.cov_run.specs.Session.{Counts, IsCounting, IsFault, Leaves}
use Rattle.cov_sim.specs.Refused.{IsFirstRefused}
use Rattle.cov_run.specs.declared.fault.LoadFault.{LoadFault}
use Rattle.cov_run.specs.declared.fault.LoadFault.TheVariants as fault
use Rattle.cov_run.specs.declared.fault.SessionFault.{SessionFault}
use Rattle.cov_run.specs.declared.fault.SessionFault.TheVariants as session
use Rattle.cov_run.proofs.Outcomes.{long_none, long_source, neither, none_source, one_outcome, refuses, same_bytes, same_tree, same_why, something}
use Rattle.cov_run.proofs.OneSession.{one_coverage, one_session}
use Rattle.cov_run.proofs.Sources.{one_run}
use Rattle.cov_commands.specs.Demo.{demo_held, demo_source, demo_summary, demo_turns}
use Rattle.cov_commands.specs.DemoFile.{demo_text}
use Rattle.cov_commands.specs.Program.{GivesWay}
use Rattle.cov_commands.specs.Source.{ComesTo, answer_of_counted, answer_of_demo, answer_of_maps, answer_of_run, counted, mapped, maps_text, message_of_cause, message_of_fault, message_of_unread, demonstrated, ran, status_of_end, status_of_fault, status_of_outcome, uncounted, unloaded, unread, undemonstrated}
use Rattle.cov_commands.specs.Status.{status_of}
use Rattle.cov_commands.specs.declared.answer.Answer.{Answer}
use Rattle.cov_commands.specs.private.Shown.{IsSummed, fault_of, unshown_by}
use Rattle.cov_commands.specs.declared.status.Status.{Status}
use Rattle.cov_commands.specs.declared.status.Status.TheVariants as status

-- ---- what the code finds

module _ (file : List ℕ) (told : Option Held) where
  pub maps_answer : {bytes printed : List ℕ} {tree : File} {end : End} → IsSource told file bytes tree → printed ≡ maps_text file bytes tree → end ≡ (answer_of_maps file bytes tree).end →
      ComesTo file told Maps (Ok (record { output = printed; end = end; coverage = None }))
  maps_answer good same done = rw (same, done) (mapped good)

  pub wants : (task : SourceTask) → ComesTo file told task (Err fault.Memory)
  wants Maps = unread loaded.wanting
  wants (Exec turns) = unloaded loaded.wanting
  wants (Run turns out exclude) = uncounted loaded.wanting
  wants (Demo seed count) = undemonstrated loaded.wanting

  pub exec_answer : {sources : List Source} {turns : ℕ} {end : End} {output : List ℕ} {coverage : Option (List FileCoverage)} → Loaded told file [] (Ok sources) → EndsAs sources file turns end output →
      coverage ≡ None → ComesTo file told (Exec turns) (Ok (record { output = output; end = end; coverage = coverage }))
  exec_answer {turns = turns} {end = end} {output = output} loads ends none =
      subst (λ c. ComesTo file told (Exec turns) (Ok (record { output = output; end = end; coverage = c }))) (sym none)
      (subst (λ e. ComesTo file told (Exec turns) (Ok (record { output = output; end = e; coverage = None }))) ends.ends
      (subst (λ o. ComesTo file told (Exec turns) (Ok (record { output = o; end = ends.run.end; coverage = None }))) ends.prints (ran loads ends.runs)))

  pub run_answer : {sources : List Source} {turns : ℕ} {out : List ℕ} {exclude : List (List ℕ)} {end : End} {output : List ℕ} {coverage : Option (List FileCoverage)} {files : List FileCoverage} →
      Loaded told file exclude (Ok sources) → Leaves sources turns end output files → coverage ≡ Some files →
      ComesTo file told (Run turns out exclude) (Ok (record { output = output; end = end; coverage = coverage }))
  run_answer {turns = turns} {out = out} {exclude = exclude} {end = end} {output = output} {files = files} loads left some =
      subst (λ c. ComesTo file told (Run turns out exclude) (Ok (record { output = output; end = end; coverage = c }))) (sym some)
      (subst (λ e. ComesTo file told (Run turns out exclude) (Ok (record { output = output; end = e; coverage = Some files }))) left.ends
      (subst (λ o. ComesTo file told (Run turns out exclude) (Ok (record { output = o; end = left.run.end; coverage = Some files }))) left.prints (counted loads left.counts left.covers)))

  pub demo_answer : {seed count : ℕ} {end : End} {output : List ℕ} {files : List FileCoverage} (answer : Answer) → Leaves (demo_source file seed count ∷ []) demo_turns end output files →
      IsSummed end output files answer → ComesTo file told (Demo seed count) (Ok answer)
  demo_answer {seed = seed} {count = count} {end = end} {output = output} {files = files} answer left summed =
      subst (λ a. ComesTo file told (Demo seed count) (Ok a)) (sym summed)
      (subst (λ e. ComesTo file told (Demo seed count) (Ok (record { output = output ++ demo_summary files; end = e; coverage = None }))) left.ends
      (subst (λ o. ComesTo file told (Demo seed count) (Ok (record { output = o ++ demo_summary files; end = left.run.end; coverage = None }))) left.prints (demonstrated left.counts left.covers)))

-- ---- the file of `demo`

-- of one source the first that is refused is this one
one_source : (source : Source) {path : List ℕ} {why : Why} (is : IsFirstRefused (source ∷ []) path why) → (is.source ≡ source) × (path ≡ source.path)
one_source source is = by is.before is.after is.split is.here
  where
    by : {path : List ℕ} {found : Source} (before after : List Source) → source ∷ [] ≡ before ++ found ∷ after → path ≡ found.path → (found ≡ source) × (path ≡ source.path)
    by [] after split here = let same : source ≡ _ = cc in (sym same, here ∙ ap (λ (s : Source). s.path) (sym same))
    by (s ∷ []) after split here = absurd cc
    by (s ∷ t ∷ rest) after split here = absurd cc

demo_not_failed : (path at : List ℕ) (why : Why) → fault_of path why ≡ fault.ReadFault at → ⊥
demo_not_failed path at (cause.NoText (text.TooLong n)) is = cc
demo_not_failed path at (cause.NoText (text.NotUtf8 n)) is = cc
demo_not_failed path at (cause.NoText text.Memory) is = cc
demo_not_failed path at (cause.Unread refused place) is = cc
demo_not_failed path at (cause.Broken broken) is = cc

module _ (file : List ℕ) (seed count : ℕ) where
  -- so the file isn't a source, where it isn't too long for one
  no_demo : {path : List ℕ} {why : Why} → IsFirstRefused (demo_source file seed count ∷ []) path why → length (demo_text seed count) ≤ source_limits.bytes →
      IsUnread (Some (demo_held seed count)) file (fault.Refused path why)
  no_demo {why = why} is within =
      let one = one_source (demo_source file seed count) is in
      subst (λ p. IsUnread (Some (demo_held seed count)) file (fault.Refused p why)) (sym one.1)
      (loaded.refused {bytes = demo_text seed count} (record {
        held = refl;
        within = within;
        refused = subst (λ (s : Source). IsRefused why s.bytes) one.0 is.refused;
        no_source = λ tree accepted. is.no_source tree (subst (λ (s : Source). Accepted s.bytes tree) (sym one.0) accepted);
      }))

  demo_unread : (path : List ℕ) (why : Why) → IsFirstRefused (demo_source file seed count ∷ []) path why → IsUnread (Some (demo_held seed count)) file (fault_of path why)
  demo_unread path why is = by why is (subst (λ (s : Source). IsRefused why s.bytes) (one_source (demo_source file seed count) is).0 is.refused)
    where
      by : (why : Why) → IsFirstRefused (demo_source file seed count ∷ []) path why → IsRefused why (demo_text seed count) → IsUnread (Some (demo_held seed count)) file (fault_of path why)
      by (cause.NoText (text.TooLong n)) is long =
          subst (λ p. IsUnread (Some (demo_held seed count)) file (fault.TooLong p)) (sym (one_source (demo_source file seed count) is).1)
          (loaded.too_long {bytes = demo_text seed count} (record { held = refl; longer = long.0 }))
      by (cause.NoText (text.NotUtf8 at)) is bad = no_demo is bad.0
      by (cause.NoText text.Memory) is bad = absurd bad
      by (cause.Unread refused place) is bad = no_demo is bad.within
      by (cause.Broken broken) is bad = no_demo is bad.within

  pub demo_unshown : (told : Option Held) {sources : List Source} (turns : ℕ) (why : SessionFault) → sources ≡ demo_source file seed count ∷ [] → IsFault sources turns why →
      ComesTo file told (Demo seed count) (Err (unshown_by why))
  demo_unshown told turns (session.Refused path why) one is = undemonstrated (demo_unread path why (subst (λ s. IsFirstRefused s path why) one is))
  demo_unshown told turns session.NotCoverage one is = undemonstrated loaded.wanting
  demo_unshown told turns session.Memory one is = undemonstrated loaded.wanting

pub never_unread : (at : List ℕ) (why : SessionFault) → unshown_by why ≡ fault.ReadFault at → ⊥
never_unread at (session.Refused path why) is = demo_not_failed path at why is
never_unread at session.NotCoverage is = cc
never_unread at session.Memory is = cc

-- ---- a refusal has its status

no_source_status : (told : Option Held) (path bytes : List ℕ) (why : Why) → IsNoSource told path bytes why → status_of (message_of_cause path why) ≡ status.Refused
no_source_status told path bytes (cause.NoText (text.TooLong count)) bad = let longer = bad.refused.0 in let within = bad.within in absurd (omega (arith, longer, within))
no_source_status told path bytes (cause.NoText (text.NotUtf8 at)) bad = refl
no_source_status told path bytes (cause.NoText text.Memory) bad = absurd bad.refused
no_source_status told path bytes (cause.Unread refused place) bad = by refused.why bad.refused.caused
  where
    by : (why : R.Refusal) → (why ≡ refusal.Memory → ⊥) → status_of (message_of_unread path place why) ≡ status.Refused
    by refusal.Syntax caused = refl
    by (refusal.Unsupported form) caused = refl
    by refusal.TooDeep caused = refl
    by refusal.Memory caused = absurd (caused refl)
no_source_status told path bytes (cause.Broken broken) bad = refl

unread_refused : (told : Option Held) (path place : List ℕ) (why : Why) (outcome : LoadFault) → outcome ≡ fault.Refused place why → IsUnread told path outcome → (bytes : List ℕ) × IsNoSource told place bytes why
unread_refused told path place why outcome is (loaded.no_file none) = absurd cc
unread_refused told path place why outcome is (loaded.too_long long) = absurd cc
unread_refused told path place why outcome is (loaded.refused {bytes = bytes} {why = w} bad) =
    let paths : path ≡ place = cc in
    let causes : w ≡ why = cc in
    (bytes, subst (λ p. IsNoSource told p bytes why) paths (subst (λ c. IsNoSource told path bytes c) causes bad))
unread_refused told path place why outcome is loaded.failed = absurd cc
unread_refused told path place why outcome is loaded.wanting = absurd cc

pub fault_status : (file : List ℕ) (told : Option Held) (task : SourceTask) (why : LoadFault) → ComesTo file told task (Err why) → status_of (message_of_fault file why) ≡ status_of_fault why
fault_status file told task fault.NoFile comes = refl
fault_status file told Maps (fault.Refused path why) (unread is) = let bad = unread_refused told file path why (fault.Refused path why) refl is in no_source_status told path bad.0 why bad.1
fault_status file told (Exec turns) (fault.Refused path why) (unloaded loads) = let bad = refuses told file [] path why loads in no_source_status told path bad.0 why bad.1
fault_status file told (Run turns out exclude) (fault.Refused path why) (uncounted loads) = let bad = refuses told file exclude path why loads in no_source_status told path bad.0 why bad.1
fault_status file told (Demo seed count) (fault.Refused path why) (undemonstrated is) =
    let bad = unread_refused (Some (demo_held seed count)) file path why (fault.Refused path why) refl is in no_source_status (Some (demo_held seed count)) path bad.0 why bad.1
fault_status file told task (fault.BadMap path why) comes = refl
fault_status file told task (fault.TooLong path) comes = refl
fault_status file told task fault.TooManyFiles comes = refl
fault_status file told task (fault.ReadFault path) comes = refl
fault_status file told task fault.Memory comes = refl

-- ---- what is held decides what a task comes to

-- the same status, or one of the two gives way
abbrev pub Same : Status → Status → Type 0
Same one other = (one ≡ other) ⊎ GivesWay one ⊎ GivesWay other

both_faults : {one other : LoadFault} → Agree (Err one) (Err other) → Same (status_of_fault one) (status_of_fault other)
both_faults L.no_file = inl refl
both_faults L.refused = inl refl
both_faults L.bad_map = inl refl
both_faults L.too_long = inl refl
both_faults L.too_many = inl refl
both_faults L.one_failed = inr (inl (inl refl))
both_faults L.other_failed = inr (inr (inl refl))
both_faults L.one_wants = inr (inl (inr (inr refl)))
both_faults L.other_wants = inr (inr (inr (inr refl)))

second_fault : {sources : List Source} {other : LoadFault} → Agree (Ok sources) (Err other) → GivesWay (status_of_fault other)
second_fault L.other_failed = inl refl
second_fault L.other_wants = inr (inr refl)

first_fault : {sources : List Source} {one : LoadFault} → Agree (Err one) (Ok sources) → GivesWay (status_of_fault one)
first_fault L.one_failed = inl refl
first_fault L.one_wants = inr (inr refl)

no_fault : {ones others : List Source} → Agree (Ok ones) (Ok others) → ones ≡ others
no_fault L.loaded = refl

ok_is : {one other : Answer} → (◌≡◌) {A = Result Answer LoadFault} (Ok one) (Ok other) → other ≡ one
ok_is is = cc

module _ (held : Held) (file : List ℕ) where
  pub both_unread : {one other : LoadFault} → IsUnread (Some held) file one → IsUnread (Some held) file other → Same (status_of_fault one) (status_of_fault other)
  both_unread (loaded.no_file none) (loaded.no_file also) = inl refl
  both_unread (loaded.no_file none) (loaded.too_long long) = absurd (something held file none long.held)
  both_unread (loaded.no_file none) (loaded.refused bad) = absurd (something held file none bad.held)
  both_unread (loaded.no_file none) loaded.failed = inr (inr (inl refl))
  both_unread (loaded.no_file none) loaded.wanting = inr (inr (inr (inr refl)))
  both_unread (loaded.too_long long) (loaded.no_file none) = absurd (something held file none long.held)
  both_unread (loaded.too_long long) (loaded.too_long also) = inl refl
  both_unread (loaded.too_long long) (loaded.refused bad) = absurd (long_none held file long bad)
  both_unread (loaded.too_long long) loaded.failed = inr (inr (inl refl))
  both_unread (loaded.too_long long) loaded.wanting = inr (inr (inr (inr refl)))
  both_unread (loaded.refused bad) (loaded.no_file none) = absurd (something held file none bad.held)
  both_unread (loaded.refused bad) (loaded.too_long long) = absurd (long_none held file long bad)
  both_unread (loaded.refused bad) (loaded.refused also) = inl refl
  both_unread (loaded.refused bad) loaded.failed = inr (inr (inl refl))
  both_unread (loaded.refused bad) loaded.wanting = inr (inr (inr (inr refl)))
  both_unread loaded.failed other = inr (inl (inl refl))
  both_unread loaded.wanting other = inr (inl (inr (inr refl)))

  pub not_both : {bytes : List ℕ} {tree : File} {why : LoadFault} → IsSource (Some held) file bytes tree → IsUnread (Some held) file why → GivesWay (status_of_fault why)
  not_both good (loaded.no_file none) = absurd (something held file none good.held)
  not_both good (loaded.too_long long) = absurd (long_source held file long good)
  not_both good (loaded.refused bad) = absurd (none_source held file bad good)
  not_both good loaded.failed = inl refl
  not_both good loaded.wanting = inr (inr refl)

module _ (held : Held) (file : List ℕ) where
  pub both_unloaded : {one other : LoadFault} → IsUnloaded (Some held) file one → IsUnloaded (Some held) file other → Same (status_of_fault one) (status_of_fault other)
  both_unloaded (loaded.unread is) (loaded.unread also) = both_unread held file is also
  both_unloaded (loaded.unread is) (loaded.map_too_long good faulty) = inr (inl (not_both held file good is))
  both_unloaded (loaded.unread is) (loaded.bad_map good faulty differs) = inr (inl (not_both held file good is))
  both_unloaded (loaded.unread is) (loaded.map_failed good) = inr (inr (inl refl))
  both_unloaded (loaded.unread is) loaded.map_wanting = inr (inr (inr (inr refl)))
  both_unloaded (loaded.map_too_long good faulty) (loaded.unread is) = inr (inr (not_both held file good is))
  both_unloaded (loaded.map_too_long good faulty) (loaded.map_too_long also broken) = inl refl
  both_unloaded (loaded.map_too_long good faulty) (loaded.bad_map also broken differs) = absurd (differs (same_why held file broken faulty))
  both_unloaded (loaded.map_too_long good faulty) (loaded.map_failed also) = inr (inr (inl refl))
  both_unloaded (loaded.map_too_long good faulty) loaded.map_wanting = inr (inr (inr (inr refl)))
  both_unloaded (loaded.bad_map good faulty differs) (loaded.unread is) = inr (inr (not_both held file good is))
  both_unloaded (loaded.bad_map good faulty differs) (loaded.map_too_long also broken) = absurd (differs (same_why held file faulty broken))
  both_unloaded (loaded.bad_map good faulty differs) (loaded.bad_map also broken other) = inl refl
  both_unloaded (loaded.bad_map good faulty differs) (loaded.map_failed also) = inr (inr (inl refl))
  both_unloaded (loaded.bad_map good faulty differs) loaded.map_wanting = inr (inr (inr (inr refl)))
  both_unloaded (loaded.map_failed good) other = inr (inl (inl refl))
  both_unloaded loaded.map_wanting other = inr (inl (inr (inr refl)))

  -- a source with its map isn't unread
  pub not_unloaded : {bytes : List ℕ} {tree : File} {input : Option Parts} {why : LoadFault} → IsSource (Some held) file bytes tree → HasInput (Some held) file input →
      IsUnloaded (Some held) file why → GivesWay (status_of_fault why)
  not_unloaded good has (loaded.unread is) = not_both held file good is
  not_unloaded good has (loaded.map_too_long also faulty) = absurd (neither held file has faulty)
  not_unloaded good has (loaded.bad_map also faulty differs) = absurd (neither held file has faulty)
  not_unloaded good has (loaded.map_failed also) = inl refl
  not_unloaded good has loaded.map_wanting = inr (inr refl)

-- the status of what is said of such a file
pub unloaded_status : (file : List ℕ) (told : Option Held) (why : LoadFault) → IsUnloaded told file why → status_of (message_of_fault file why) ≡ status_of_fault why
unloaded_status file told why (loaded.unread is) = fault_status file told Maps why (unread is)
unloaded_status file told _ (loaded.map_too_long good faulty) = refl
unloaded_status file told _ (loaded.bad_map good faulty differs) = refl
unloaded_status file told _ (loaded.map_failed good) = refl
unloaded_status file told _ loaded.map_wanting = refl

module _ (file : List ℕ) (seed count : ℕ) where
  -- the file that was run is a source
  demo_is_source : {turns : ℕ} {run : PlainRun} → Counts (demo_source file seed count ∷ []) turns run → (tree : File) × IsSource (Some (demo_held seed count)) file (demo_text seed count) tree
  demo_is_source counts = by counts.files counts.counting
    where
      by : (files : List program.Source) → AllZip IsCounting (demo_source file seed count ∷ []) files → (tree : File) × IsSource (Some (demo_held seed count)) file (demo_text seed count) tree
      by [] zip = absurd zip
      by (f ∷ files) zip = (zip.0.tree, record { held = refl; accepted = zip.0.accepted; only = zip.0.only })

  demo_gives_way : {turns : ℕ} {run : PlainRun} {why : LoadFault} → Counts (demo_source file seed count ∷ []) turns run → IsUnread (Some (demo_held seed count)) file why → GivesWay (status_of_fault why)
  demo_gives_way counts is = not_both (demo_held seed count) file (demo_is_source counts).1 is

module _ (held : Held) (file : List ℕ) where
  same_maps : {one other : List ℕ} {tree leaf : File} → IsSource (Some held) file one tree → IsSource (Some held) file other leaf → answer_of_maps file one tree ≡ answer_of_maps file other leaf
  same_maps {one = one} {leaf = leaf} here there =
      ap (answer_of_maps file one) (same_tree held file here there) ∙ ap (λ bytes. answer_of_maps file bytes leaf) (same_bytes held file here.held there.held)

  same_runs : {ones others : List Source} {turns : ℕ} {one other : PlainRun} → ones ≡ others → Runs ones file turns one → Runs others file turns other → one ≡ other
  same_runs {ones = ones} {turns = turns} {one = one} {other = other} same here there = one_run ones file turns one other here (subst (λ s. Runs s file turns other) (sym same) there)

  same_sessions : {ones others : List Source} {turns : ℕ} {one other : PlainRun} → ones ≡ others → Counts ones turns one → Counts others turns other → one ≡ other
  same_sessions {ones = ones} {turns = turns} {one = one} {other = other} same here there = one_session ones turns one other here (subst (λ s. Counts s turns other) (sym same) there)

  same_counted : {one other : PlainRun} {files others : List FileCoverage} → one ≡ other → IsCoverage one.store.heap files → IsCoverage other.store.heap others →
      answer_of_counted one files ≡ answer_of_counted other others
  same_counted {other = other} {files = files} {others = others} same here there =
      let covers : IsCoverage other.store.heap files = subst (λ (run : PlainRun). IsCoverage run.store.heap files) same here in
      ap (λ run. answer_of_counted run files) same ∙ ap (answer_of_counted other) (one_coverage other.store.heap files others covers there)

  same_shown : {one other : PlainRun} {files others : List FileCoverage} → one ≡ other → IsCoverage one.store.heap files → IsCoverage other.store.heap others →
      answer_of_demo one files ≡ answer_of_demo other others
  same_shown {other = other} {files = files} {others = others} same here there =
      let covers : IsCoverage other.store.heap files = subst (λ (run : PlainRun). IsCoverage run.store.heap files) same here in
      ap (λ run. answer_of_demo run files) same ∙ ap (answer_of_demo other) (one_coverage other.store.heap files others covers there)

  pub one_status : (task : SourceTask) {one other : Result Answer LoadFault} → ComesTo file (Some held) task one → ComesTo file (Some held) task other → Same (status_of_outcome one) (status_of_outcome other)
  one_status task (mapped here) (mapped there) = inl refl
  one_status task (mapped here) (unread is) = inr (inr (not_both held file here is))
  one_status task (unread is) (mapped there) = inr (inl (not_both held file there is))
  one_status task (unread is) (unread also) = both_unread held file is also
  one_status task (ran here runs) (ran there also) =
      inl (ap (λ (run : PlainRun). status_of_end run.end) (same_runs (no_fault (one_outcome held file [] (Ok _) (Ok _) here there)) runs also))
  one_status task (ran here runs) (unloaded there) = inr (inr (second_fault (one_outcome held file [] (Ok _) (Err _) here there)))
  one_status task (unloaded here) (ran there runs) = inr (inl (first_fault (one_outcome held file [] (Err _) (Ok _) here there)))
  one_status task (unloaded here) (unloaded there) = both_faults (one_outcome held file [] (Err _) (Err _) here there)
  one_status task (counted {exclude = exclude} here counts covers) (counted there also covered) =
      inl (ap (λ (run : PlainRun). status_of_end run.end) (same_sessions (no_fault (one_outcome held file exclude (Ok _) (Ok _) here there)) counts also))
  one_status task (counted {exclude = exclude} here counts covers) (uncounted there) = inr (inr (second_fault (one_outcome held file exclude (Ok _) (Err _) here there)))
  one_status task (uncounted {exclude = exclude} here) (counted there counts covers) = inr (inl (first_fault (one_outcome held file exclude (Err _) (Ok _) here there)))
  one_status task (uncounted {exclude = exclude} here) (uncounted there) = both_faults (one_outcome held file exclude (Err _) (Err _) here there)
  one_status (Demo seed count) (demonstrated counts covers) (demonstrated also covered) = inl (ap (λ (run : PlainRun). status_of_end run.end) (same_sessions refl counts also))
  one_status (Demo seed count) (demonstrated counts covers) (undemonstrated is) = inr (inr (demo_gives_way file seed count counts is))
  one_status (Demo seed count) (undemonstrated is) (demonstrated counts covers) = inr (inl (demo_gives_way file seed count counts is))
  one_status (Demo seed count) (undemonstrated is) (undemonstrated also) = both_unread (demo_held seed count) file is also

  answers : (task : SourceTask) {one other : Result Answer LoadFault} (first second : Answer) → one ≡ Ok first → other ≡ Ok second →
      ComesTo file (Some held) task one → ComesTo file (Some held) task other → first ≡ second
  answers task first second is also (mapped here) (mapped there) = ok_is is ∙ same_maps here there ∙ sym (ok_is also)
  answers task first second is also (mapped here) (unread there) = absurd cc
  answers task first second is also (unread here) there = absurd cc
  answers task first second is also (ran here runs) (ran there again) =
      ok_is is ∙ ap answer_of_run (same_runs (no_fault (one_outcome held file [] (Ok _) (Ok _) here there)) runs again) ∙ sym (ok_is also)
  answers task first second is also (ran here runs) (unloaded there) = absurd cc
  answers task first second is also (unloaded here) there = absurd cc
  answers task first second is also (counted {exclude = exclude} here counts covers) (counted there again covered) =
      ok_is is ∙ same_counted (same_sessions (no_fault (one_outcome held file exclude (Ok _) (Ok _) here there)) counts again) covers covered ∙ sym (ok_is also)
  answers task first second is also (counted here counts covers) (uncounted there) = absurd cc
  answers task first second is also (uncounted here) there = absurd cc
  answers task first second is also (demonstrated counts covers) (demonstrated again covered) = ok_is is ∙ same_shown (same_sessions refl counts again) covers covered ∙ sym (ok_is also)
  answers task first second is also (demonstrated counts covers) (undemonstrated there) = absurd cc
  answers task first second is also (undemonstrated here) there = absurd cc

  pub one_answer : (task : SourceTask) (one other : Answer) → ComesTo file (Some held) task (Ok one) → ComesTo file (Some held) task (Ok other) → one ≡ other
  one_answer task one other here there = answers task one other refl refl here there
