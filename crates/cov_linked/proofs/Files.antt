-- A rewritten file, linked: whatever the numbers of its functions are, and of the file in its program.
use Rattle.std.proofs.Common.{◌≡◌, ℕ, true, sym, ap, ◌∙◌}
use Rattle.std.proofs.Math.Path.{fun_ext}
use Rattle.js_terms.specs.Mark.{Mark}
use Rattle.js_tree.specs.Hints.{heed_comments}
use Rattle.js_tree.specs.Linked.{Unmarked, Within, Numbers, Linked, made, link_stmts}
use Rattle.js_tree.specs.Plain.{Expr, Stmts, MakeFile}
use Rattle.cov_rewritten.specs.Rewritten.{after_directives, rewritten_stmts}
use Rattle.cov_rewritten.specs.Counters.{counter}
use Rattle.cov_rewritten.specs.Preamble.{preamble}
use Rattle.cov_rewritten.specs.Whole.{from_zero}
use Rattle.cov_linked.specs.Linked.{LinksAnyNumbers, LinksRewritten}
use Rattle.cov_linked.proofs.Renamed.{renamed_stmts}
use Rattle.cov_linked.proofs.Unnumbered.{linked_stmts}
use Rattle.cov_linked.proofs.Numberless.{after_kept, alike_stmts}
use Rattle.cov_linked.proofs.Refiled.{G, refiled_stmts}

-- statements that are the same but for numbers are linked to the same, with others before them too

same_linked : (xs ys : Stmts) → renamed_stmts (λ m. m) xs ≡ renamed_stmts (λ m. m) ys → (k : Numbers) → link_stmts Unmarked xs k ≡ link_stmts Unmarked ys k
same_linked xs ys h k = sym (linked_stmts (λ m. m) xs k) ∙ ap (λ zs. link_stmts Unmarked zs k) h ∙ linked_stmts (λ m. m) ys k

after_same : (first xs ys : Stmts) → renamed_stmts (λ m. m) xs ≡ renamed_stmts (λ m. m) ys →
    renamed_stmts (λ m. m) (after_directives first xs) ≡ renamed_stmts (λ m. m) (after_directives first ys)
after_same first xs ys h = after_kept first xs ∙ ap (after_directives (renamed_stmts (λ m. m) first)) h ∙ sym (after_kept first ys)

any_numbers : (counter : Mark → Expr) (code other : ℕ → ℕ) (xs : Stmts) →
    renamed_stmts (λ m. m) (rewritten_stmts counter code true xs) ≡ renamed_stmts (λ m. m) (rewritten_stmts counter other true xs)
any_numbers counter code other xs = alike_stmts counter (λ m. m) code true xs ∙ sym (alike_stmts counter (λ m. m) other true xs)

pub links_any_numbers : LinksAnyNumbers
links_any_numbers counter code other preamble (MakeFile body comments) k = ap (λ (l : Linked Stmts). made (λ xs. MakeFile xs comments) l)
    (same_linked (after_directives preamble (rewritten_stmts counter code true body)) (after_directives preamble (rewritten_stmts counter other true body))
    (after_same preamble (rewritten_stmts counter code true body) (rewritten_stmts counter other true body) (any_numbers counter code other body)) k)

-- ---- a source as any file of a program

pub links_rewritten : LinksRewritten
links_rewritten count code n path hash zero file from is counts (MakeFile body comments) k =
    let there = (link_stmts (Within file (heed_comments comments)) body from).tree in
    let here = (link_stmts (Within 0 (heed_comments comments)) body from_zero).tree in
    let same = refiled_stmts file (heed_comments comments) body from_zero from (sym counts) in
    ap (λ (l : Linked Stmts). made (λ xs. MakeFile xs comments) l)
    (same_linked (after_directives (preamble n path hash zero) (rewritten_stmts count code true there)) (after_directives (preamble n path hash zero) (rewritten_stmts (counter n) (λ number. 0) true here))
    (after_same (preamble n path hash zero) (rewritten_stmts count code true there) (rewritten_stmts (counter n) (λ number. 0) true here)
    (alike_stmts count (λ m. m) code true there
    ∙ ap (λ xs. renamed_stmts (λ m. m) (rewritten_stmts count (λ number. 0) true xs)) (sym same.tree)
    ∙ sym (alike_stmts count (G file) (λ number. 0) true here)
    ∙ ap (λ c. renamed_stmts (λ m. m) (rewritten_stmts c (λ number. 0) true here)) (fun_ext is))) k)
