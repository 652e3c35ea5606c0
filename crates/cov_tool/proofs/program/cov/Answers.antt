-- Each clause from what the words ask.
use Rattle.std.proofs.Common.{rules, ◌≡◌, ℕ, List, [], ◌∷◌, Global, Some, None, map, string_bytes, refl, subst, sym}
use Rattle.cov_words.specs.Laws.{AreSourcePaths, IsWithin}
use Rattle.cov_words.specs.Words as asked
use Rattle.cov_words.specs.declared.command.Command.TheVariants.{Help, OnSource, Instrument, OnCoverage, OnV8}
use Rattle.cov_commands.specs.Instrument.{Each, IsSourcePath}
use Rattle.cov_commands.specs.Meant.{DoesByMeaning}
use Rattle.cov_commands.specs.Program.{PrintsPrefix, SaysAtMost, SaysLines}
use Rattle.cov_commands.proofs.Stands.{complained, memory_is_said, usage_is_said, says_at_most, prints_nothing, stores_nothing, counts_no_puts}
use Rattle.cov_commands.proofs.Meanings.{wants_memory}
use Rattle.cov_tool.proofs.program.cov.Goals as goal

-- ---- no memory for the words

pub returns-in_default-clause-due : goal.returns-in_default-clause-due
returns-in_default-clause-due g c =
    (complained (asked.command_of (map (string_bytes {Z = Global}) c.args.words.now)) (g.S.Store.held c.args.store.now) (memory_is_said _ _) c.complain.ensures.status).due

pub returns-in_default-clause-prefix : goal.returns-in_default-clause-prefix
returns-in_default-clause-prefix g c = prints_nothing (asked.command_of (map (string_bytes {Z = Global}) c.args.words.now)) (g.S.Store.held c.args.store.now) _ _ refl

pub returns-in_default-clause-stores : goal.returns-in_default-clause-stores
returns-in_default-clause-stores g c = stores_nothing (asked.command_of (map (string_bytes {Z = Global}) c.args.words.now)) (g.S.Store.held c.args.store.now) c.complain.ensures.status

pub returns-in_default-clause-puts : goal.returns-in_default-clause-puts
returns-in_default-clause-puts g c = counts_no_puts (asked.command_of (map (string_bytes {Z = Global}) c.args.words.now)) _

pub returns-in_default-clause-one_line : goal.returns-in_default-clause-one_line
returns-in_default-clause-one_line g c = λ memory.
    let told = c.complain.ensures.one_line in
    says_at_most (asked.command_of (map (string_bytes {Z = Global}) c.args.words.now)) (g.S.Store.held c.args.store.now) (memory_is_said _ _) told.1 told.2

-- ---- no reading

pub returns-in-None-clause-one_line : goal.returns-in-None-clause-one_line
returns-in-None-clause-one_line g c = λ memory.
    let none : None ≡ asked.command_of (map (string_bytes {Z = Global}) c.args.words.now) = search rules in
    let told = c.complain-in-None.ensures.one_line in
    subst (λ what. SaysAtMost what (g.S.Store.held c.args.store.now) (g.E.Sink.taken c.args.err.now) (g.E.Sink.taken c.complain-in-None.new.err)) none (says_at_most None (g.S.Store.held c.args.store.now) (usage_is_said _) told.1 told.2)

-- ---- help, a source, sources that are instrumented, coverage files and V8's

pub returns-in-Some-Help-clause-says : goal.returns-in-Some-Help-clause-says
returns-in-Some-Help-clause-says g c = λ other.
    let some : Some Help ≡ asked.command_of (map (string_bytes {Z = Global}) c.args.words.now) = search rules in
    subst (λ what. SaysLines what c.on_help.result (g.S.Store.held c.args.store.now) (g.E.Sink.taken c.args.err.now) (g.E.Sink.taken c.on_help.new.err) (g.E.Sink.faults c.args.err.now) (g.E.Sink.faults c.on_help.new.err)) some (c.on_help.ensures.says (g.S.Store.held c.args.store.now) other)

pub returns-in-Some-OnSource-clause-prefix : goal.returns-in-Some-OnSource-clause-prefix
returns-in-Some-OnSource-clause-prefix g c =
    let some : Some (OnSource c.in-Some-OnSource.task c.as_str.result.now) ≡ asked.command_of (map (string_bytes {Z = Global}) c.args.words.now) = search rules in
    subst (λ what. PrintsPrefix what (g.S.Store.held c.args.store.now) (g.O.Sink.taken c.args.out.now) (g.O.Sink.taken c.on_source.new.out)) some c.on_source.ensures.prefix

pub returns-in-Some-OnSource-clause-says : goal.returns-in-Some-OnSource-clause-says
returns-in-Some-OnSource-clause-says g c = λ other.
    let some : Some (OnSource c.in-Some-OnSource.task c.as_str.result.now) ≡ asked.command_of (map (string_bytes {Z = Global}) c.args.words.now) = search rules in
    subst (λ what. SaysLines what c.on_source.result (g.S.Store.held c.args.store.now) (g.E.Sink.taken c.args.err.now) (g.E.Sink.taken c.on_source.new.err) (g.E.Sink.faults c.args.err.now) (g.E.Sink.faults c.on_source.new.err)) some (c.on_source.ensures.says other)

-- the files are source paths
each_path : (files : List (List ℕ)) → AreSourcePaths files → Each IsSourcePath files
each_path [] are = tt
each_path (file ∷ files) are = (are.0, each_path files are.1)

pub on_instrument-requires : goal.on_instrument-requires
on_instrument-requires g c =
    let some : Some (Instrument c.as_str-in-Some-Instrument.result.now c.as_slice.result.now) ≡ asked.command_of (map (string_bytes {Z = Global}) c.args.words.now) = search rules in
    each_path c.as_slice.result.now (subst IsWithin (sym some) (c.plain_words.ensures.asks_within (map (string_bytes {Z = Global}) c.args.words.now)))

pub returns-in-Some-Instrument-clause-says : goal.returns-in-Some-Instrument-clause-says
returns-in-Some-Instrument-clause-says g c = λ other.
    let some : Some (Instrument c.as_str-in-Some-Instrument.result.now c.as_slice.result.now) ≡ asked.command_of (map (string_bytes {Z = Global}) c.args.words.now) = search rules in
    subst (λ what. SaysLines what c.on_instrument.result (g.S.Store.held c.args.store.now) (g.E.Sink.taken c.args.err.now) (g.E.Sink.taken c.on_instrument.new.err) (g.E.Sink.faults c.args.err.now) (g.E.Sink.faults c.on_instrument.new.err)) some (c.on_instrument.ensures.says other)

pub returns-in-Some-OnCoverage-clause-says : goal.returns-in-Some-OnCoverage-clause-says
returns-in-Some-OnCoverage-clause-says g c = λ other.
    let some : Some (OnCoverage c.in-Some-OnCoverage.task c.as_slice-in-Some-OnCoverage.result.now) ≡ asked.command_of (map (string_bytes {Z = Global}) c.args.words.now) = search rules in
    subst (λ what. SaysLines what c.on_coverage.result (g.S.Store.held c.args.store.now) (g.E.Sink.taken c.args.err.now) (g.E.Sink.taken c.on_coverage.new.err) (g.E.Sink.faults c.args.err.now) (g.E.Sink.faults c.on_coverage.new.err)) some (c.on_coverage.ensures.says other)

pub returns-clause-says : goal.returns-clause-says
returns-clause-says g c = λ other.
    let some : Some (OnV8 c.as_str-in-Some-OnV8.result.now c.as_slice-in-Some-OnV8.result.now) ≡ asked.command_of (map (string_bytes {Z = Global}) c.args.words.now) = search rules in
    subst (λ what. SaysLines what c.on_v8.result (g.S.Store.held c.args.store.now) (g.E.Sink.taken c.args.err.now) (g.E.Sink.taken c.on_v8.new.err) (g.E.Sink.faults c.args.err.now) (g.E.Sink.faults c.on_v8.new.err)) some (c.on_v8.ensures.says other)

-- ---- by the meaning

pub returns-in_default-clause-meant : goal.returns-in_default-clause-meant
returns-in_default-clause-meant g c =
    wants_memory (g.S.Store.held c.args.store.now) (g.S.Store.held c.args.store.now) (g.O.Sink.taken c.args.out.now) (g.O.Sink.taken c.args.out.now)
    (g.E.Sink.taken c.args.err.now) (g.E.Sink.taken c.complain.new.err) (g.E.Sink.faults c.args.err.now) (g.E.Sink.faults c.complain.new.err)
    (asked.command_of (map (string_bytes {Z = Global}) c.args.words.now)) c.complain.ensures.status

pub returns-in-Some-OnSource-clause-meant : goal.returns-in-Some-OnSource-clause-meant
returns-in-Some-OnSource-clause-meant g c =
    let some : Some (OnSource c.in-Some-OnSource.task c.as_str.result.now) ≡ asked.command_of (map (string_bytes {Z = Global}) c.args.words.now) = search rules in
    let e = c.on_source.ensures in
    subst (λ what. DoesByMeaning what c.on_source.result (g.S.Store.held c.args.store.now) (g.S.Store.held c.on_source.new.store) (g.O.Sink.taken c.args.out.now) (g.O.Sink.taken c.on_source.new.out)
    (g.E.Sink.taken c.args.err.now) (g.E.Sink.taken c.on_source.new.err) (g.E.Sink.faults c.args.err.now) (g.E.Sink.faults c.on_source.new.err)) some
    (c.by_meaning.ensures.acts (Some (OnSource c.in-Some-OnSource.task c.as_str.result.now)) c.on_source.result (g.S.Store.held c.args.store.now) (g.S.Store.held c.on_source.new.store)
    (g.O.Sink.taken c.args.out.now) (g.O.Sink.taken c.on_source.new.out)
    (g.E.Sink.taken c.args.err.now) (g.E.Sink.taken c.on_source.new.err) (g.E.Sink.faults c.args.err.now) (g.E.Sink.faults c.on_source.new.err)
    (subst IsWithin (sym some) (c.plain_words.ensures.asks_within (map (string_bytes {Z = Global}) c.args.words.now))) e.due e.printed e.stores e.says)

pub returns-in-Some-Instrument-clause-meant : goal.returns-in-Some-Instrument-clause-meant
returns-in-Some-Instrument-clause-meant g c =
    let some : Some (Instrument c.as_str-in-Some-Instrument.result.now c.as_slice.result.now) ≡ asked.command_of (map (string_bytes {Z = Global}) c.args.words.now) = search rules in
    let e = c.on_instrument.ensures in
    subst (λ what. DoesByMeaning what c.on_instrument.result (g.S.Store.held c.args.store.now) (g.S.Store.held c.on_instrument.new.store) (g.O.Sink.taken c.args.out.now) (g.O.Sink.taken c.args.out.now)
    (g.E.Sink.taken c.args.err.now) (g.E.Sink.taken c.on_instrument.new.err) (g.E.Sink.faults c.args.err.now) (g.E.Sink.faults c.on_instrument.new.err)) some
    (c.by_meaning.ensures.acts (Some (Instrument c.as_str-in-Some-Instrument.result.now c.as_slice.result.now)) c.on_instrument.result (g.S.Store.held c.args.store.now) (g.S.Store.held c.on_instrument.new.store)
    (g.O.Sink.taken c.args.out.now) (g.O.Sink.taken c.args.out.now)
    (g.E.Sink.taken c.args.err.now) (g.E.Sink.taken c.on_instrument.new.err) (g.E.Sink.faults c.args.err.now) (g.E.Sink.faults c.on_instrument.new.err)
    (subst IsWithin (sym some) (c.plain_words.ensures.asks_within (map (string_bytes {Z = Global}) c.args.words.now))) e.due (λ all. refl) e.stores e.says)
