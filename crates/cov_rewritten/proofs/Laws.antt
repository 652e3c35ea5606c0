-- The laws on whole files.
use Rattle.std.proofs.Common.{◌≡◌, ◌*◌, ◌≤◌, ◌++◌, ◌∷◌, [], ℕ, true, false, List, None, max, codes, refl, sym, ap, ◌∙◌, append_assoc, arith}
use Rattle.serde_json.specs.Data.{Data, null, boolean, number, string, array, object, unsigned, negative, float, Items, no_items, item, Members, no_members, member}
use Rattle.js_terms.specs.declared.construct.ConstructKind.TheVariants as construct_kind
use Rattle.js_tree.specs.Codes.{Code, Ordinary, functions_expr, functions_exprs, functions_properties, functions_stmt, functions_stmts}
use Rattle.js_tree.specs.Height.{height_expr, height_stmts}
use Rattle.js_tree.specs.Linked.{Marked, with_comments, link_stmts}
use Rattle.js_terms.specs.Mark.{Mark}
use Rattle.js_terms.specs.declared.words.Spelled.{Spelled}
use Rattle.js_tree.specs.Plain.{Expr, MakeFunction, MakeFunctionBody, no_param, Stmts, no_stmt, more_stmt, Directive, MakeFile}
use Rattle.js_reading.specs.Outside.{is_there}
use Rattle.cov_rewritten.specs.Counters.{counter, name}
use Rattle.cov_rewritten.specs.Laws.{KeepsPrintable, KeepsLow, KeepsFunctions, FirstFunctions}
use Rattle.cov_rewritten.specs.Preamble.{json_string, literal, literals, literal_members, returns, first_body, preamble_of, preamble}
use Rattle.cov_rewritten.specs.Rewritten.{joined, after_directives, rewritten_stmts}
use Rattle.cov_rewritten.specs.Whole.{from_zero}
use Rattle.js_marked.proofs.Links.{marked_body}
use Rattle.cov_rewritten.proofs.Low.{low_after, low_stmts}
use Rattle.cov_rewritten.proofs.Order.{on_stmts}
use Rattle.cov_rewritten.proofs.Prints.{are_after, prints_stmts}
use Rattle.cov_rewritten.proofs.Quiet.{nothing_both}
use Rattle.cov_rewritten.proofs.This.{te, t_stmts, t_exprs, t_properties, empty_after, still_stmts}

-- of each kind
counter_low : (n : List ℕ) (m : Mark) → height_expr (counter n m) ≤ 6
counter_low n m = elim m.kind as (λ k. height_expr (counter n (record m { kind = k })) ≤ 6) [ construct_kind.Statement ↦ omega arith | construct_kind.Function ↦ omega arith | construct_kind.Branch ↦ omega arith ]

counter_none : (n : List ℕ) (m : Mark) → functions_expr (counter n m) ≡ []
counter_none n m = elim m.kind as (λ k. functions_expr (counter n (record m { kind = k })) ≡ []) [ construct_kind.Statement ↦ refl | construct_kind.Function ↦ refl | construct_kind.Branch ↦ refl ]

counter_still : (n : List ℕ) (m : Mark) → te (counter n m) ≡ []
counter_still n m = elim m.kind as (λ k. te (counter n (record m { kind = k })) ≡ []) [ construct_kind.Statement ↦ refl | construct_kind.Function ↦ refl | construct_kind.Branch ↦ refl ]

mutual
  literal_still : (d : Data) → te (literal d) ≡ []
  literal_still null = refl
  literal_still (boolean b) = refl
  literal_still (number (unsigned n)) = refl
  literal_still (number (negative z)) = refl
  literal_still (number (float x)) = refl
  literal_still (string s) = refl
  literal_still (array ds) = literals_still ds
  literal_still (object ms) = members_still ms

  literals_still : (ds : Items) → t_exprs (literals ds) ≡ []
  literals_still no_items = refl
  literals_still (item d ds) = nothing_both (literal_still d) (literals_still ds)

  members_still : (ms : Members) → t_properties (literal_members ms) ≡ []
  members_still no_members = refl
  members_still (member k d ms) = nothing_both (literal_still d) (members_still ms)

nowhere : {A : Type 0} (xs : List A) → is_there xs ≡ false → xs ≡ []
nowhere [] h = refl
nowhere (x ∷ xs) h = absurd cc

pub keeps_printable : KeepsPrintable
keeps_printable n path hash zero (MakeFile xs comments) printable refers first =
    let t = (link_stmts (with_comments (Marked 0) comments) xs from_zero).tree in
    let d = marked_body (Marked 0) xs comments printable from_zero in
    let ys = rewritten_stmts (counter n) (λ code. 0) true t in
    record {
      body = are_after (preamble n path hash zero) ys first (prints_stmts n refers true true d printable.body);
      this = ap is_there (empty_after (preamble n path hash zero) ys refl (still_stmts (counter n) (counter_still n) (λ code. 0) true d (nowhere (t_stmts xs) printable.this)));
    }

bounded : (a b c d : ℕ) → a ≤ max b c → c ≤ 8 * d → a ≤ max b (8 * d)
bounded a b c d h g = omega (arith, h, g)

pub keeps_low : KeepsLow
keeps_low n path hash zero (MakeFile xs comments) printable =
    let t = (link_stmts (with_comments (Marked 0) comments) xs from_zero).tree in
    let d = marked_body (Marked 0) xs comments printable from_zero in
    let ys = rewritten_stmts (counter n) (λ code. 0) true t in
    bounded _ (height_stmts (preamble n path hash zero)) (height_stmts ys) (height_stmts xs) (low_after (preamble n path hash zero) ys) (low_stmts (counter n) (counter_low n) (λ code. 0) true d)

functions_joined : (zs xs : Stmts) → functions_stmts (joined zs xs) ≡ functions_stmts zs ++ functions_stmts xs
functions_joined no_stmt xs = refl
functions_joined (more_stmt z zs) xs = ap (λ cs. functions_stmt z ++ cs) (functions_joined zs xs) ∙ sym (append_assoc (functions_stmt z) (functions_stmts zs) (functions_stmts xs))

functions_after : (zs xs : Stmts) → functions_stmts (after_directives zs xs) ≡ functions_stmts zs ++ functions_stmts xs
functions_after zs no_stmt = functions_joined zs no_stmt
functions_after zs (more_stmt (Directive l s) xs) = functions_after zs xs
functions_after zs (more_stmt x xs) = functions_joined zs (more_stmt x xs)

pub keeps_functions : KeepsFunctions
keeps_functions n code first (MakeFile xs comments) =
    functions_after first (rewritten_stmts (counter n) code true xs) ∙ ap (λ cs. functions_stmts first ++ cs) (on_stmts (counter n) (counter_none n) code true xs)

mutual
  literal_none : (d : Data) → functions_expr (literal d) ≡ []
  literal_none null = refl
  literal_none (boolean b) = refl
  literal_none (number (unsigned n)) = refl
  literal_none (number (negative z)) = refl
  literal_none (number (float x)) = refl
  literal_none (string s) = refl
  literal_none (array ds) = literals_none ds
  literal_none (object ms) = members_none ms

  literals_none : (ds : Items) → functions_exprs (literals ds) ≡ []
  literals_none no_items = refl
  literals_none (item d ds) = nothing_both (literal_none d) (literals_none ds)

  members_none : (ms : Members) → functions_properties (literal_members ms) ≡ []
  members_none no_members = refl
  members_none (member k d ms) = nothing_both (literal_none d) (members_none ms)

abbrev answers : Code
answers = Ordinary (MakeFunction 0 no_param (MakeFunctionBody None (more_stmt (returns (name (codes "actual"))) no_stmt)))

body_functions : (n : List ℕ) (path hash : Spelled) (zero : Expr) → functions_expr zero ≡ [] → functions_stmts (first_body n path hash zero) ≡ answers ∷ []
body_functions n path hash zero h = ap (λ cs. (cs ++ []) ++ answers ∷ []) h

preamble_functions : (n : List ℕ) (path hash : Spelled) (zero : Expr) → functions_expr zero ≡ [] →
    functions_stmts (preamble_of n path hash zero) ≡ Ordinary (MakeFunction 0 no_param (MakeFunctionBody None (first_body n path hash zero))) ∷ answers ∷ []
preamble_functions n path hash zero h = ap (λ cs. Ordinary (MakeFunction 0 no_param (MakeFunctionBody None (first_body n path hash zero))) ∷ (cs ++ [])) (body_functions n path hash zero h)

pub first_functions : FirstFunctions
first_functions n path hash zero = preamble_functions n (json_string path) (json_string hash) (literal zero) (literal_none zero)
