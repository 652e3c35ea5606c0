-- What is owed for `--help`: the forms of the words, printed.
use Rattle.std.specs.Prelude.{◌≡◌, ℕ, List, [], Option, codes}
use Rattle.cov_base.specs.Sink.{after_more, TakesPrefix}
use Rattle.cov_commands.specs.Line as said
use Rattle.cov_commands.specs.declared.status.Status.{Status}
use Rattle.cov_commands.specs.declared.status.Status.TheVariants as status

-- a form a line, also of the commands that are still to come
abbrev pub help_text : List ℕ
help_text = codes "cov maps FILE\ncov exec [--turns N] FILE\ncov instrument --out DIR FILE..\ncov run [--turns N] [--out P] [--exclude GLOBS] ENTRY\ncov merge --out P FILE..\ncov report [--reporter R] FILE..\ncov check [--lines N] [--statements N] [--branches N] [--functions N] FILE..\ncov demo SEED COUNT\ncov v8 --out P FILE..\n"

-- only a fault of standard output and want of memory keep it from being done
abbrev pub IsDue : Status → Type 0
IsDue status.Ok = Unit {0}
IsDue status.WriteFault = Unit {0}
IsDue status.Memory = Unit {0}
IsDue other = ⊥

abbrev pub PrintsPrefix : Option (List ℕ) → Option (List ℕ) → Type 0
PrintsPrefix before after = TakesPrefix before after help_text

abbrev pub PrintsOutput : Option (List ℕ) → Option (List ℕ) → Type 0
PrintsOutput before after = after ≡ after_more before help_text

-- the lines of a status; with Ok there are none
abbrev pub AreLines : Status → List ℕ → Type 0
AreLines status.Ok lines = lines ≡ []
AreLines status.WriteFault lines = lines ≡ said.line said.WriteFailed
AreLines status.Memory lines = lines ≡ said.line said.OutOfMemory
AreLines other lines = ⊥
