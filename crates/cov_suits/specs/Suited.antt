-- The counters of coverage: names of files' functions, what counts, and what stands before a file's statements. Each program of accepted
-- sources suits them.
use Rattle.std.specs.Prelude.{◌≡◌, ℕ, List, [], Option, Some, None, slice_get}
use Rattle.js_tree.specs.Plain.{Stmts}
use Rattle.js_tree.specs.Codes.{Code, functions_stmts}
use Rattle.js_scopes.specs.Accepted.{Accepted}
use Rattle.js_scopes.specs.Mentions.{mentions_file}
use Rattle.js_scopes.specs.Names.{names_of}
use Rattle.js_meaning.specs.Program.{Source, Sources}
use Rattle.js_prelude.specs.Prelude.{prelude_tree}
use Rattle.cov_preamble.specs.Name.{cov_name}
use Rattle.cov_rewritten.specs.Counters.{counter}
use Rattle.cov_rewritten.specs.Rewritten.{after_directives}
use Rattle.js_suits.specs.Settings.{Fresh, Tests, setting_of}
use Rattle.js_suits.specs.Programs.{Silent}
use Rattle.js_suits.specs.Laws.{Readable, Fitted, fitted}

-- the name of a file's function: by its path, and none of the names in its tree
abbrev pub own_name : Option Source → List ℕ
own_name None = cov_name [] []
own_name (Some source) = cov_name source.path (names_of (mentions_file source.tree))

abbrev pub names : Sources → ℕ → List ℕ
names p file = own_name (slice_get p.files file)

-- the counters of a program, with these statements before each file's own, after its directives
abbrev pub counters : Tests → (ℕ → Stmts) → Sources → Tests
counters t first p = record t { name = names p; code = λ mark. counter (names p mark.file) mark; opened = λ file xs. after_directives (first file) xs }

-- the functions among these
abbrev pub added : (ℕ → Stmts) → ℕ → List Code
added first file = functions_stmts (first file)

-- the same, fitted to the program: each mark of its constructs has a counter, and functions stand for each other as they are shifted
abbrev pub fitted_counters : Tests → (ℕ → Stmts) → Sources → Tests
fitted_counters t first p = fitted (counters t first p) (added first) p

-- a program of accepted sources and the host's prelude
pub record IsAccepted (p : Sources) : Type 0 where
  pub files : (file : ℕ) (source : Source) → slice_get p.files file ≡ Some source → (bytes : List ℕ) × Accepted bytes source.tree
  pub prelude : p.prelude ≡ prelude_tree

-- it suits its counters: no name is taken, and marks hold no functions
pub record SuitsCounters (t : Tests) (first : ℕ → Stmts) (p : Sources) : Type 0 where
  pub fresh : Fresh (setting_of (fitted_counters t first p))
  pub silent : Silent (setting_of (fitted_counters t first p)) (added first)
  pub fitted : Fitted (setting_of (fitted_counters t first p)) (fitted_counters t first p) p (added first)

-- whatever stands before the files' statements, and whatever is said of the rest
abbrev pub AcceptedSuitsCounters : Type 0
AcceptedSuitsCounters = (t : Tests) (first : ℕ → Stmts) (p : Sources) → IsAccepted p → SuitsCounters t first p

-- the prelude can be read
abbrev pub PreludeReadable : Type 0
PreludeReadable = Readable prelude_tree
