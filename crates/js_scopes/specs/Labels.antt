-- Which `break`, `continue` and labels stand where they may not (ECMA-262, 14.8.1, 14.9.1, 14.13.1, and 8.3: ContainsDuplicateLabels,
-- ContainsUndefinedBreakTarget, ContainsUndefinedContinueTarget).
use Rattle.std.specs.Prelude.{ℕ, Bool, true, false, ◌&&◌, List, [], ◌∷◌, ◌++◌, Option, None, Some, if◌then◌else◌}
use Rattle.std.specs.List.{list_any}
use Rattle.std.specs.Str.{bytes_eq}
use Rattle.js_terms.specs.declared.place.Loc.{Loc}
use Rattle.js_terms.specs.declared.words.Identifier.{Identifier}
use Rattle.js_tree.specs.Plain.{Stmt, Block, If, DoWhile, While, For, ForIn, ForOf, Continue, Break, Switch, Labelled, TryCatch, TryFinally, TryCatchFinally, EnteredStmt, Stmts, no_stmt, more_stmt, MaybeStmt, none_stmt, some_stmt, entered_none, Catch, MakeCatch, Case, MakeCase, EnteredCase, Cases, no_case, more_case}
use Rattle.js_scopes.specs.declared.fault.ScopeFault.{ScopeFault}
use Rattle.js_scopes.specs.declared.fault.ScopeFaultKind.{ScopeFaultKind}
use Rattle.js_scopes.specs.declared.fault.ScopeFaultKind.TheVariants as kind
use Rattle.js_scopes.specs.Mentions.{start}

-- a label round a statement: its name, and whether it is a loop's
pub record Round : Type 0 where
  pub name : List ℕ
  pub is_loop : Bool

-- what stands round a statement in its function: labels, the outermost first, a loop, and a loop or a `switch`
pub record Around : Type 0 where
  pub labels : List Round
  pub in_loop : Bool
  pub breakable : Bool

abbrev pub nothing_around : Around
nothing_around = record { labels = []; in_loop = false; breakable = false }

abbrev pub in_a_loop : Around → Around
in_a_loop around = record { labels = around.labels; in_loop = true; breakable = true }

abbrev pub in_a_switch : Around → Around
in_a_switch around = record { labels = around.labels; in_loop = around.in_loop; breakable = true }

abbrev pub in_a_label : List ℕ → Bool → Around → Around
in_a_label name is_loop around = record { labels = around.labels ++ record { name = name; is_loop = is_loop } ∷ []; in_loop = around.in_loop; breakable = around.breakable }

abbrev pub has_label : List ℕ → Around → Bool
has_label name around = list_any (λ round. bytes_eq name round.name) around.labels

abbrev pub has_loop_label : List ℕ → Around → Bool
has_loop_label name around = list_any (λ round. bytes_eq name round.name && round.is_loop) around.labels

-- a statement is a loop, labels notwithstanding
abbrev pub is_loop : Stmt → Bool
is_loop (DoWhile _ _ _) = true
is_loop (While _ _ _) = true
is_loop (For _ _ _ _ _) = true
is_loop (ForIn _ _ _ _) = true
is_loop (ForOf _ _ _ _) = true
is_loop (Labelled _ _ body) = is_loop body
is_loop (EnteredStmt _ inner) = is_loop inner
is_loop other = false

-- where a rule is broken, unless it holds
abbrev pub unless : Bool → Option Loc → ScopeFaultKind → List ScopeFault
unless holds loc rule = if holds then [] else record { at = start loc; kind = rule } ∷ []

abbrev pub breaks : Around → Option Loc → Option Identifier → List ScopeFault
breaks around loc None = unless around.breakable loc kind.BreakOutside
breaks around loc (Some label) = unless (has_label label.name around) label.loc kind.Label

abbrev pub continues : Around → Option Loc → Option Identifier → List ScopeFault
continues around loc None = unless around.in_loop loc kind.ContinueOutside
continues around loc (Some label) = unless (has_loop_label label.name around) label.loc kind.Label

-- a label inside a statement of the same label
abbrev pub repeats : Around → Identifier → List ScopeFault
repeats around label = if has_label label.name around then record { at = start label.loc; kind = kind.Label } ∷ [] else []

-- no label and no loop is seen through a function
abbrev mutual
  pub jumps_stmt : Stmt → Around → List ScopeFault
  jumps_stmt (Block _ statements) around = jumps_stmts statements around
  jumps_stmt (If _ _ holds fails) around = jumps_stmt holds around ++ jumps_stmt_if fails around
  jumps_stmt (DoWhile _ body _) around = jumps_stmt body (in_a_loop around)
  jumps_stmt (While _ _ body) around = jumps_stmt body (in_a_loop around)
  jumps_stmt (For _ _ _ _ body) around = jumps_stmt body (in_a_loop around)
  jumps_stmt (ForIn _ _ _ body) around = jumps_stmt body (in_a_loop around)
  jumps_stmt (ForOf _ _ _ body) around = jumps_stmt body (in_a_loop around)
  jumps_stmt (Continue loc label) around = continues around loc label
  jumps_stmt (Break loc label) around = breaks around loc label
  jumps_stmt (Switch _ _ cases) around = jumps_cases cases (in_a_switch around)
  jumps_stmt (Labelled _ label body) around = repeats around label ++ jumps_stmt body (in_a_label label.name (is_loop body) around)
  jumps_stmt (TryCatch _ block catch) around = jumps_stmts block around ++ jumps_catch catch around
  jumps_stmt (TryFinally _ block finally) around = jumps_stmts block around ++ jumps_stmts finally around
  jumps_stmt (TryCatchFinally _ block catch finally) around = jumps_stmts block around ++ jumps_catch catch around ++ jumps_stmts finally around
  jumps_stmt (EnteredStmt _ inner) around = jumps_stmt inner around
  jumps_stmt other around = []

  pub jumps_stmts : Stmts → Around → List ScopeFault
  jumps_stmts no_stmt around = []
  jumps_stmts (more_stmt x xs) around = jumps_stmt x around ++ jumps_stmts xs around

  pub jumps_stmt_if : MaybeStmt → Around → List ScopeFault
  jumps_stmt_if none_stmt around = []
  jumps_stmt_if (some_stmt x) around = jumps_stmt x around
  jumps_stmt_if (entered_none _) around = []

  pub jumps_catch : Catch → Around → List ScopeFault
  jumps_catch (MakeCatch _ statements) around = jumps_stmts statements around

  pub jumps_case : Case → Around → List ScopeFault
  jumps_case (MakeCase _ _ statements) around = jumps_stmts statements around
  jumps_case (EnteredCase _ x) around = jumps_case x around

  pub jumps_cases : Cases → Around → List ScopeFault
  jumps_cases no_case around = []
  jumps_cases (more_case x xs) around = jumps_case x around ++ jumps_cases xs around
