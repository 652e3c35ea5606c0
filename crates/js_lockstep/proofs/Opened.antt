-- What stands before a file's statements, after its directives.
use Rattle.std.proofs.Common.{◌≡◌, true, ◌++◌, length, refl, sym, ap, ◌∙◌}
use Rattle.std.proofs.lemmas.List.{append_assoc}
use Rattle.js_tree.specs.Plain.{Directive, Stmts, no_stmt, more_stmt, MakeFile}
use Rattle.js_tree.specs.Codes.{functions_stmt, functions_stmts}
use Rattle.js_tree.specs.Linked.{Unmarked, Numbers, Linked, kept, made, link_stmt, link_stmts}
use Rattle.cov_rewritten.specs.Rewritten.{joined, after_directives}
use Rattle.js_suits.specs.Rewritten.{rewritten_stmts}
use Rattle.js_suits.specs.Settings.{setting_of}
use Rattle.js_lockstep.specs.Programs.{after}
use Rattle.js_lockstep.specs.Opened.{OpensFiles, OpensInOrder, LinksFile}
use Rattle.js_lockstep.proofs.Relinked.{again_linked}

pub opens_files : OpensFiles
opens_files t preamble e file (MakeFile xs comments) = ap (λ ys. MakeFile ys comments) (e file _)

joined_functions : (xs ys : Stmts) → functions_stmts (joined xs ys) ≡ functions_stmts xs ++ functions_stmts ys
joined_functions no_stmt ys = refl
joined_functions (more_stmt x xs) ys = ap (λ zs. functions_stmt x ++ zs) (joined_functions xs ys) ∙ sym (append_assoc (functions_stmt x) (functions_stmts xs) (functions_stmts ys))

-- directives hold no functions
pub opens_in_order : OpensInOrder
opens_in_order first no_stmt = joined_functions first no_stmt
opens_in_order first (more_stmt (Directive loc spelled) xs) = opens_in_order first xs
opens_in_order first (more_stmt x xs) = joined_functions first (more_stmt x xs)

abbrev with : (Stmts → Stmts) → Linked Stmts → Numbers → Linked Stmts
with f first j = record { tree = f first.tree; next = j }

joined_linked : (first ys : Stmts) (k j : Numbers) → link_stmts Unmarked ys (link_stmts Unmarked first k).next ≡ kept ys j →
    link_stmts Unmarked (joined first ys) k ≡ with (λ xs. joined xs ys) (link_stmts Unmarked first k) j
joined_linked no_stmt ys k j e = e
joined_linked (more_stmt x xs) ys k j e = ap (made (more_stmt (link_stmt Unmarked x k).tree)) (joined_linked xs ys (link_stmt Unmarked x k).next j e)

abbrev rest : Stmts → Stmts
rest no_stmt = no_stmt
rest (more_stmt x xs) = xs

after_linked : (first ys : Stmts) (k j : Numbers) → link_stmts Unmarked ys (link_stmts Unmarked first k).next ≡ kept ys j →
    link_stmts Unmarked (after_directives first ys) k ≡ with (λ xs. after_directives xs ys) (link_stmts Unmarked first k) j
after_linked first no_stmt k j e = joined_linked first no_stmt k j e
after_linked first (more_stmt (Directive loc spelled) ys) k j e = ap (made (more_stmt (Directive loc spelled))) (after_linked first ys k j (ap (λ (z : Linked Stmts). made rest z) e))
after_linked first (more_stmt y ys) k j e = joined_linked first (more_stmt y ys) k j e

pub links_file : LinksFile
links_file t shift alone first xs comments k m e o =
    let ys = rewritten_stmts (setting_of t) shift true xs in
    let n = (link_stmts Unmarked first k).next in
    ap (λ (z : Linked Stmts). made (λ body. MakeFile body comments) z)
    (after_linked first ys k (after n (length (functions_stmts xs))) (again_linked (setting_of t) shift alone true xs n m e o))
