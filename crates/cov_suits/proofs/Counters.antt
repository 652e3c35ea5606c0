-- Each program of accepted sources suits the counters of coverage.
use Rattle.std.proofs.Common.{◌≡◌, ℕ, false, List, [], ◌++◌, Option, Some, None, refl, sym, ap, subst, ◌∙◌}
use Rattle.std.specs.Prelude.{slice_get}
use Rattle.std.proofs.lemmas.List.{append_assoc}
use Rattle.js_terms.specs.Mark.{Mark}
use Rattle.js_terms.specs.declared.construct.ConstructKind.{ConstructKind}
use Rattle.js_terms.specs.declared.construct.ConstructKind.TheVariants as construct_kind
use Rattle.js_tree.specs.Plain.{Call, no_expr, Directive, Stmts, no_stmt, more_stmt}
use Rattle.js_tree.specs.Codes.{functions_expr, functions_stmt, functions_stmts}
use Rattle.js_reading.specs.Kinds.{is_keyword}
use Rattle.js_scopes.specs.Mentions.{mentions_file}
use Rattle.js_scopes.specs.Names.{names_of}
use Rattle.js_meaning.specs.Program.{Source, Sources}
use Rattle.cov_preamble.specs.Laws.{CanRefer, IsNew}
use Rattle.cov_rewritten.specs.Counters.{counted_in, name}
use Rattle.cov_rewritten.specs.Rewritten.{joined, after_directives}
use Rattle.cov_rewritten.specs.Whole.{IsFresh}
use Rattle.js_suits.specs.Settings.{Tests, setting_of}
use Rattle.js_suits.specs.Programs.{Silent}
use Rattle.js_suits.specs.Laws.{Readable, FittedSuits, NamesFreeByTests}
use Rattle.cov_suits.specs.Suited.{own_name, names, counters, added, fitted_counters, AcceptedSuitsCounters}
use Rattle.cov_suits.proofs.Prelude.{prelude_readable}

-- a counter holds no function, and a file's functions are those before its statements, and then its own

counter_silent : (n : List ℕ) (mark : Mark) (kind : ConstructKind) → functions_expr (counted_in (Call None (name n) no_expr) mark kind) ≡ []
counter_silent n mark construct_kind.Statement = refl
counter_silent n mark construct_kind.Function = refl
counter_silent n mark construct_kind.Branch = refl

joined_functions : (first xs : Stmts) → functions_stmts (joined first xs) ≡ functions_stmts first ++ functions_stmts xs
joined_functions no_stmt xs = refl
joined_functions (more_stmt x first) xs = ap (λ codes. functions_stmt x ++ codes) (joined_functions first xs) ∙ sym (append_assoc (functions_stmt x) (functions_stmts first) (functions_stmts xs))

opened_functions : (first xs : Stmts) → functions_stmts (after_directives first xs) ≡ functions_stmts first ++ functions_stmts xs
opened_functions first no_stmt = joined_functions first no_stmt
opened_functions first (more_stmt (Directive loc spelled) xs) = opened_functions first xs
opened_functions first (more_stmt x xs) = joined_functions first (more_stmt x xs)

-- names are free

name_free : CanRefer → (o : Option Source) → is_keyword (own_name o) ≡ false
name_free refers None = (refers [] []).name.free
name_free refers (Some source) = (refers source.path (names_of (mentions_file source.tree))).name.free

name_new : IsNew → (o : Option Source) (source : Source) → o ≡ Some source → IsFresh (own_name o) source.tree
name_new new o source e = subst (λ x. IsFresh (own_name x) source.tree) (sym e) (new source.path source.tree)

silent_counters : (t : Tests) (first : ℕ → Stmts) (p : Sources) → Silent (setting_of (fitted_counters t first p)) (added first)
silent_counters t first p = record { code = λ mark. counter_silent (names p mark.file) mark mark.kind; opened = λ file xs. opened_functions (first file) xs }

pub accepted_suits_counters : FittedSuits → NamesFreeByTests → CanRefer → IsNew → AcceptedSuitsCounters
accepted_suits_counters fits free refers new t first p accepted = record {
  fresh = free (fitted_counters t first p) (λ file. name_free refers (slice_get p.files file));
  silent = silent_counters t first p;
  fitted = fits (counters t first p) p (added first) accepted.files (subst Readable (sym accepted.prelude) prelude_readable)
      (λ file source at counted. name_new new (slice_get p.files file) source at) (silent_counters t first p);
}
