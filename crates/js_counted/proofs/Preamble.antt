-- The preamble, linked, and its functions: data hold none.
use Rattle.std.proofs.Common.{◌≡◌, ℕ, suc, ◌+◌, [], ◌∷◌, ◌++◌, None, refl, ap, ap₂, ◌∙◌, subst, arith}
use Rattle.js_tree.specs.Codes.{functions_expr, functions_exprs, functions_properties}
use Rattle.js_tree.specs.Linked.{Unmarked, Alone, Numbers, Linked, after_code, kept, made, two, link_expr, link_exprs, link_properties, link_stmts}
use Rattle.js_tree.specs.Plain.{Expr, ArrayLiteral, ObjectLiteral, KeyValue, StringKey, FunctionDeclaration, MakeFunction, MakeFunctionBody, no_param, Stmts, no_stmt, more_stmt, more_expr, more_property}
use Rattle.cov_rewritten.specs.Preamble as real
use Rattle.js_counter.specs.Literals.{Literal, LiteralItems, LiteralMembers, null, truth, negative, number, spelled_text, array, plain, none, item, empty, member, expr_of, exprs_of, properties}
use Rattle.js_counter.specs.Steady.{gives_actual, call_of}
use Rattle.js_counter.specs.First.{does, first_body, first_code}
use Rattle.js_counter.specs.Starts.{opening_of}
use Rattle.js_counted.specs.Files.{FileCounters}
use Rattle.js_counted.specs.Holds.{coverage_text}
use Rattle.js_counted.specs.Program.{preamble_of}
use Rattle.js_counted.specs.Preambles.{PreambleLinked, PreambleCodes}

mutual
  literal_links : (x : Literal) (k : Numbers) → link_expr Unmarked Alone (expr_of x) k ≡ kept (expr_of x) k
  literal_links null k = refl
  literal_links (truth b) k = refl
  literal_links (negative spelled n e low) k = refl
  literal_links (number spelled n e) k = refl
  literal_links (spelled_text spelled) k = refl
  literal_links (array xs) k = ap (made (ArrayLiteral None)) (items_link xs k)
  literal_links (plain ms) k = ap (made (ObjectLiteral None)) (members_link ms k)

  items_link : (xs : LiteralItems) (k : Numbers) → link_exprs Unmarked (exprs_of xs) k ≡ kept (exprs_of xs) k
  items_link none k = refl
  items_link (item x xs) k = ap (λ z. two more_expr z (link_exprs Unmarked (exprs_of xs))) (literal_links x k) ∙ ap (made (more_expr (expr_of x))) (items_link xs k)

  members_link : (ms : LiteralMembers) (k : Numbers) → link_properties Unmarked (properties ms) k ≡ kept (properties ms) k
  members_link empty k = refl
  members_link (member key x ms) k =
      ap (λ z. two more_property (made (KeyValue None (StringKey key)) z) (link_properties Unmarked (properties ms))) (literal_links x k)
      ∙ ap (made (more_property (KeyValue None (StringKey key) (expr_of x)))) (members_link ms k)

mutual
  literal_silent : (x : Literal) → functions_expr (expr_of x) ≡ []
  literal_silent null = refl
  literal_silent (truth b) = refl
  literal_silent (negative spelled n e low) = refl
  literal_silent (number spelled n e) = refl
  literal_silent (spelled_text spelled) = refl
  literal_silent (array xs) = items_silent xs
  literal_silent (plain ms) = members_silent ms

  items_silent : (xs : LiteralItems) → functions_exprs (exprs_of xs) ≡ []
  items_silent none = refl
  items_silent (item x xs) = ap (λ cs. cs ++ functions_exprs (exprs_of xs)) (literal_silent x) ∙ items_silent xs

  members_silent : (ms : LiteralMembers) → functions_properties (properties ms) ≡ []
  members_silent empty = refl
  members_silent (member key x ms) = ap (λ cs. cs ++ functions_properties (properties ms)) (literal_silent x) ∙ members_silent ms

-- the preamble, with its data as they are linked
abbrev with_data : FileCounters → ℕ → Linked Expr → Stmts
with_data f n z =
    more_stmt (FunctionDeclaration None (record { loc = None; name = f.name }) (MakeFunction n no_param (MakeFunctionBody None (first_body f.name f.path f.hash coverage_text z.tree z.next.code))))
    (more_stmt (does (call_of f.name)) no_stmt)

linked_by : (f : FileCounters) (k : Numbers) → (link_stmts Unmarked (real.preamble_of f.name f.path f.hash (expr_of f.zero)) k).tree ≡ with_data f k.code (kept (expr_of f.zero) (after_code k))
linked_by f k = ap (with_data f k.code) (literal_links f.zero (after_code k))

numbered : (f : FileCounters) (k : Numbers) → k.code ≡ f.first → with_data f k.code (kept (expr_of f.zero) (after_code k)) ≡ preamble_of f
numbered f k e = ap₂ (λ n m. opening_of [] f.name f.path f.hash coverage_text f.zero n m no_stmt) e (let z : suc k.code ≡ f.first + 1 = omega (arith, e) in z)

pub preamble_linked : PreambleLinked
preamble_linked f path hash zero k p h d e =
    subst (λ x. (link_stmts Unmarked (real.preamble_of f.name (real.json_string path) (real.json_string hash) x) k).tree ≡ preamble_of f) d
    (subst (λ x. (link_stmts Unmarked (real.preamble_of f.name (real.json_string path) x (expr_of f.zero)) k).tree ≡ preamble_of f) h
    (subst (λ x. (link_stmts Unmarked (real.preamble_of f.name x f.hash (expr_of f.zero)) k).tree ≡ preamble_of f) p
    (linked_by f k ∙ numbered f k e)))

pub preamble_codes : PreambleCodes
preamble_codes f =
    ap (λ cs. first_code f.first f.name f.path f.hash coverage_text (expr_of f.zero) (f.first + 1) ∷ (((cs ++ []) ++ gives_actual (f.first + 1) None None None ∷ []) ++ [])) (literal_silent f.zero)
