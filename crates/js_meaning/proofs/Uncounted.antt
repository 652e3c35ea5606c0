-- A program without counting is the linked one without its marks; so its runs are those of the counted one, but for their steps.
use Rattle.std.proofs.Common.{◌≡◌, ℕ, zero, suc, ◌+◌, ◌-◌, ◌≤◌, false, List, [], ◌∷◌, map, refl, sym, ap, ◌∙◌, subst, arith}
use Rattle.std.specs.Prelude.{slice_get}
use Rattle.js_tree.specs.Plain as P
use Rattle.js_tree.specs.Marked.{one_if}
use Rattle.js_tree.specs.Linked.{Unmarked, link_file}
use Rattle.js_tree.proofs.Unmarked.{unmarks_linked}
use Rattle.js_meaning.specs.Effects.{Ran, exec}
use Rattle.js_meaning.specs.Program.{Source, Sources, marking, from, link_source, link_sources, linked, unmarked_source, unmarked, uncounted_source, uncounted}
use Rattle.js_meaning.specs.Files.{inside, start_file}
use Rattle.js_meaning.specs.World.{run, meaning}
use Rattle.js_meaning.specs.Prelude.{opening}
use Rattle.js_meaning.proofs.SameScopes.{opening_same}
use Rattle.js_meaning.specs.Laws.{RunsAlike, RunsWithoutCounting, is_counted, counted_starts, charged}
use Rattle.js_meaning.proofs.Grown.{grows_inside, grows_start}
use Rattle.js_meaning.proofs.Thin.{thinner}
use Rattle.js_meaning.proofs.ThinForms.{thin_inside, thin_file}

sources_unmarked : (sources : List Source) (file code code' : ℕ) → code ≡ code' →
    link_sources (map uncounted_source sources) file code' ≡ map unmarked_source (link_sources sources file code)
sources_unmarked [] file code code' c = refl
sources_unmarked (source ∷ sources) file code code' c =
    let h = unmarks_linked (marking source.counted file) source.tree (from code) (from code') c in
    ap (λ (tree : P.File). record { path = source.path; tree = tree; counted = false } ∷ link_sources (map uncounted_source sources) (suc file) (link_source (uncounted_source source) file code').next.code) (sym h.0)
    ∙ ap (λ rest. unmarked_source (record source { tree = (link_source source file code).tree }) ∷ rest)
    (sources_unmarked sources (suc file) (link_source source file code).next.code (link_source (uncounted_source source) file code').next.code h.1)

program_unmarked : (p : Sources) → linked (uncounted p) ≡ unmarked (linked p)
program_unmarked p = ap (λ (files : List Source). record { files = files; prelude = (link_file Unmarked p.prelude (from 0)).tree })
    (sources_unmarked p.files 0 (link_file Unmarked p.prelude (from 0)).next.code (link_file Unmarked p.prelude (from 0)).next.code refl)
    ∙ ap (λ (tree : P.File). record { files = (unmarked (linked p)).files; prelude = tree })
    (let h = unmarks_linked Unmarked p.prelude (from 0) (from 0) refl in sym h.0)

-- links keep which files are counted
counted_linked : (sources : List Source) (file code i : ℕ) → is_counted (slice_get (link_sources sources file code) i) ≡ is_counted (slice_get sources i)
counted_linked [] file code i = refl
counted_linked (source ∷ sources) file code zero = refl
counted_linked (source ∷ sources) file code (suc i) = counted_linked sources (suc file) (link_source source file code).next.code i

starts_linked : (p : Sources) (files : List ℕ) → counted_starts (linked p) files ≡ counted_starts p files
starts_linked p [] = refl
starts_linked p (file ∷ files) =
    ap (λ c. one_if c + counted_starts (linked p) files) (counted_linked p.files 0 (link_file Unmarked p.prelude (from 0)).next.code file)
    ∙ ap (λ n. one_if (is_counted (slice_get p.files file)) + n) (starts_linked p files)

run_less : (p : Sources) (file n : ℕ) (r : Ran) (m : ℕ) → m + charged p r.store ≡ n → RunsAlike r (meaning (uncounted p) file m) →
    (charged p r.store ≤ n) × RunsAlike r (meaning (uncounted p) file (n - charged p r.store))
run_less p file n r m e h = let c = charged p r.store in let d : m ≡ n - c = omega (arith, e) in
    (omega (arith, e), subst (λ k. RunsAlike r (meaning (uncounted p) file k)) d h)

pub without_counting : RunsWithoutCounting
without_counting p file n =
    let t = thinner (linked p) (unmarked (linked p)) (grows_inside (unmarked (linked p))) (thin_inside (linked p))
    n (start_file (linked p) file) (start_file (unmarked (linked p)) file) (thin_file (linked p) file)
    (grows_start (unmarked (linked p)) (slice_get (unmarked (linked p)).files file) file) [] [] (opening (linked p)) in
    let same = starts_linked p (meaning p file n).store.starts in
    let spent = t.spent in
    run_less p file n (meaning p file n) t.m (omega (arith, spent, same))
    (subst (λ q. RunsAlike (meaning p file n) (run q file t.m)) (sym (program_unmarked p))
    (subst (λ s. RunsAlike (meaning p file n) (exec (inside (unmarked (linked p))) t.m (start_file (unmarked (linked p)) file) s)) (sym (opening_same (linked p))) t.alike))
