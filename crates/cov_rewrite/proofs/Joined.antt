-- Statements one after the other, and blocks.
use Rattle.std.proofs.Common.{◌≡◌, ◌++◌, ◌∷◌, [], List, Bool, true, false, Option, None, refl, ap, sym, ◌∙◌}
use Rattle.js_tree.specs.declared.tree.Stmt.{Stmt}
use Rattle.js_terms.specs.Mark.{Mark}
use Rattle.js_tree.specs.Plain as tree
use Rattle.js_tree.specs.Tree.{plain_stmt, plain_stmts}
use Rattle.js_tree.proofs.Equations.{tree_rules}
use Rattle.cov_rewritten.specs.Rewritten.{joined, inside, block_place, counts}
use Rattle.cov_rewrite.specs.Blocks.{is_block, block_unless, concise_of, missing_of, are_some}

pub stmts_joined : (xs ys : List Stmt) → plain_stmts (xs ++ ys) ≡ joined (plain_stmts xs) (plain_stmts ys)
stmts_joined [] ys = refl
stmts_joined (x ∷ xs) ys = ap (tree.more_stmt (plain_stmt x)) (stmts_joined xs ys)

pub inside_other : (x : tree.Stmt) → is_block x ≡ false → inside x ≡ tree.more_stmt x tree.no_stmt
inside_other (tree.Block l xs) h = absurd cc
inside_other x h = refl

pub place_other : (x : tree.Stmt) → is_block x ≡ false → block_place x ≡ None
place_other (tree.Block l xs) h = absurd cc
place_other x h = refl

pub joined_none : (xs : tree.Stmts) → joined xs tree.no_stmt ≡ xs
joined_none tree.no_stmt = refl
joined_none (tree.more_stmt x xs) = ap (tree.more_stmt x) (joined_none xs)

-- the counters of marks one after the other
pub counts_joined : (c : Mark → tree.Expr) (xs ys : List Mark) → joined (counts c xs) (counts c ys) ≡ counts c (xs ++ ys)
counts_joined c [] ys = refl
counts_joined c (x ∷ xs) ys = ap (tree.more_stmt (tree.Expression None (c x))) (counts_joined c xs ys)

-- one that counts, at the end
pub joined_one : (xs : List Stmt) (x : Stmt) {y : tree.Stmt} → plain_stmt x ≡ y → plain_stmts (xs ++ x ∷ []) ≡ joined (plain_stmts xs) (tree.more_stmt y tree.no_stmt)
joined_one xs x h = stmts_joined xs (x ∷ []) ∙ ap (λ y. joined (plain_stmts xs) (tree.more_stmt y tree.no_stmt)) h

-- statements and another in a block, where there are any
pub block_made : (zs : List Stmt) (x : tree.Stmt) → (zs ≡ [] → ⊥) → block_unless (plain_stmts zs) x ≡ tree.Block (block_place x) (joined (plain_stmts zs) (inside x))
block_made [] x h = absurd (h refl)
block_made (z ∷ zs) x h = refl

pub missing_made : (zs : List Stmt) → (zs ≡ [] → ⊥) → missing_of (plain_stmts zs) ≡ tree.some_stmt (tree.Block None (plain_stmts zs))
missing_made [] h = absurd (h refl)
missing_made (z ∷ zs) h = refl

pub concise_made : (zs : List Stmt) (e : tree.Expr) → (zs ≡ [] → ⊥) →
    concise_of (plain_stmts zs) e ≡ tree.BlockBody (tree.MakeFunctionBody None (joined (plain_stmts zs) (tree.more_stmt (tree.Return None (tree.some_expr e)) tree.no_stmt)))
concise_made [] e h = absurd (h refl)
concise_made (z ∷ zs) e h = refl

pub some_there : (zs : List Stmt) → (zs ≡ [] → ⊥) → are_some (plain_stmts zs) ≡ true
some_there [] h = absurd (h refl)
some_there (z ∷ zs) h = refl

pub ruleset counted_rules = (stmts_joined, joined_none, joined_one)

pub ruleset joined_rules = (tree_rules, stmts_joined)

pub ruleset block_rules = (tree_rules, stmts_joined, inside_other, place_other)

pub ruleset some_rules = (some_there)
