-- A rewritten file breaks no early rule.
use Rattle.std.proofs.Common.{◌≡◌, ◌++◌, ◌∷◌, [], ℕ, Bool, true, false, ◌&&◌, ◌||◌, List, None, refl, sym, ap, ◌∙◌, append_assoc, if◌then◌else◌, codes}
use Rattle.std.specs.List.{list_any}
use Rattle.std.specs.Str.{bytes_eq}
use Rattle.serde_json.specs.Data.{Data, null, boolean, number, string, array, object, unsigned, negative, float, Items, no_items, item, Members, no_members, member}
use Rattle.js_terms.specs.declared.construct.ConstructKind.{ConstructKind}
use Rattle.js_terms.specs.declared.construct.ConstructKind.TheVariants as construct_kind
use Rattle.js_terms.specs.declared.operators.LogicalOperator.TheVariants as logic
use Rattle.js_terms.specs.declared.operators.BinaryOperator.TheVariants as binary
use Rattle.js_terms.specs.declared.operators.UnaryOperator.TheVariants as unary
use Rattle.js_terms.specs.declared.operators.UpdateOperator.TheVariants as update
use Rattle.js_terms.specs.declared.operators.VariableKind.{VariableKind}
use Rattle.js_terms.specs.declared.operators.VariableKind.TheVariants as variable
use Rattle.js_terms.specs.declared.place.Pos.{Pos}
use Rattle.js_terms.specs.declared.words.Spelled.{Spelled}
use Rattle.js_tree.specs.Linked.{Marked, with_comments, link_stmts}
use Rattle.js_terms.specs.Mark.{Mark}
use Rattle.js_tree.specs.Plain.{Expr, StringLiteral, ObjectLiteral, Parenthesized, NamedMember, ComputedMember, Call, PostfixUpdate, Unary, Binary, Logical}
use Rattle.js_tree.specs.Plain.{Stmt, Directive, Block, VariableDeclaration, If, DoWhile, While, For, ForIn, ForOf, Switch, Labelled, TryCatch, TryFinally, TryCatchFinally, FunctionDeclaration, EnteredStmt}
use Rattle.js_tree.specs.Plain.{ForInit, NoInit, InitDeclaration, InitExpression}
use Rattle.js_tree.specs.Plain.{ForTarget, TargetDeclaration, TargetExpression}
use Rattle.js_tree.specs.Plain.{Function}
use Rattle.js_tree.specs.Plain.{MakeDeclarator}
use Rattle.js_tree.specs.Plain.{Case, MakeCase, EnteredCase}
use Rattle.js_tree.specs.Plain.{Catch, MakeCatch}
use Rattle.js_tree.specs.Plain.{Pattern, BindingIdentifier}
use Rattle.js_tree.specs.Plain.{MaybeStmt, none_stmt, some_stmt, entered_none}
use Rattle.js_tree.specs.Plain.{no_expr}
use Rattle.js_tree.specs.Plain.{no_property}
use Rattle.js_tree.specs.Plain.{Stmts, no_stmt, more_stmt}
use Rattle.js_tree.specs.Plain.{Declarators, no_declarator, more_declarator}
use Rattle.js_tree.specs.Plain.{Cases, no_case, more_case}
use Rattle.js_tree.specs.Plain.{MakeFile}
use Rattle.js_walk.specs.Part.{AStmt, APattern}
use Rattle.js_walk.specs.Walk.{within_stmt, within_catch, within_pattern_if}
use Rattle.js_scopes.specs.declared.binding.Binding.{Binding}
use Rattle.js_scopes.specs.declared.binding.Binding.TheVariants as binding
use Rattle.js_scopes.specs.declared.fault.ScopeFault.{ScopeFault}
use Rattle.js_scopes.specs.declared.fault.ScopeFaultKind.TheVariants as kind
use Rattle.js_scopes.specs.declared.mention.Mention.{Mention}
use Rattle.js_scopes.specs.declared.mention.Mention.TheVariants as mention
use Rattle.js_scopes.specs.Checks.{reserved_if, reserved_among, faults}
use Rattle.js_scopes.specs.Declarations.{Declared, bound, declarators, var_alone, var_of_init, var_of_target, var_stmt, var_stmts, var_stmt_if, var_catch, var_case, var_cases, own_of_stmt, declared_stmts}
use Rattle.js_scopes.specs.Labels as labels
use Rattle.js_scopes.specs.Labels.{nothing_around, jumps_stmt, jumps_stmts}
use Rattle.js_scopes.specs.Mentions.{own_mention, nothing_told, own_name, start, mentions_file}
use Rattle.js_scopes.specs.Order.{first}
use Rattle.js_scopes.specs.Reserved.{is_reserved}
use Rattle.js_scopes.specs.Scopes.{clash, clashes, repeated, scope, module_names, own_of_file}
use Rattle.cov_rewritten.specs.Counters.{name, numeral, counter, counted_in, text}
use Rattle.cov_rewritten.specs.Preamble.{does, json_string, literal, literals, literal_members, var_, assigned, data_of, held_of, first_body, preamble_of, preamble}
use Rattle.cov_rewritten.specs.Rewritten.{joined, after_directives, rewritten_stmts}
use Rattle.cov_rewritten.specs.Whole.{from_zero, rewritten, says, KeepsRules}
use Rattle.cov_rewritten.proofs.Declared.{same_scope, same_jumps, declared_after}
use Rattle.js_marked.proofs.Links.{marked_body}
use Rattle.cov_rewritten.proofs.Quiet.{Quiet, asks, join, scoped, nothing, none_of, nothing_both, and_false, vars_fit, quiet_after, keeps_stmts, ne, fe, ns, fs, nf, n_expr_if, n_declarators, n_for_init, n_for_target, n_stmt_if, n_cases, n_case, n_stmts, f_stmts, n_exprs, f_exprs, n_properties, f_properties}

abbrev n_stmt : Stmt → List Mention
n_stmt x = within_stmt own_mention nothing_told x tt

abbrev n_catch : Catch → List Mention
n_catch x = within_catch own_mention nothing_told x tt

-- ---- the names that statements declare are mentioned in them

or_both : (b c : Bool) → (b || c) ≡ false → (b ≡ false) × (c ≡ false)
or_both true c h = absurd cc
or_both false c h = (refl, h)

any_split : {A : Type 0} (p : A → Bool) (xs ys : List A) → list_any p (xs ++ ys) ≡ false → (list_any p xs ≡ false) × (list_any p ys ≡ false)
any_split p [] ys h = (refl, h)
any_split p (x ∷ xs) ys h =
    let s = or_both (p x) (list_any p (xs ++ ys)) h in
    let t = any_split p xs ys s.1 in
    (ap (λ b. b || list_any p xs) s.0 ∙ t.0, t.1)

abbrev AllOther : List ℕ → List Declared → Type 0
AllOther n [] = Unit {0}
AllOther n (d ∷ ds) = (bytes_eq d.name n ≡ false) × AllOther n ds

all_both_of : (n : List ℕ) (xs ys : List Declared) → AllOther n xs → AllOther n ys → AllOther n (xs ++ ys)
all_both_of n [] ys a b = b
all_both_of n (x ∷ xs) ys a b = (a.0, all_both_of n xs ys a.1 b)

module _ (n : List ℕ) where
  all_both : (xs ys : List Declared) → AllOther n xs → AllOther n ys → AllOther n (xs ++ ys)
  all_both xs ys a b = all_both_of n xs ys a b

  abbrev Silent : List Mention → Type 0
  Silent ms = list_any (says n) ms ≡ false

  apart : (ms ns : List Mention) → Silent (ms ++ ns) → Silent ms × Silent ns
  apart ms ns h = any_split (says n) ms ns h

  only_one : (b : Bool) → (b || false) ≡ false → b ≡ false
  only_one true h = h
  only_one false h = refl

  other_pattern : (how : Binding) (p : Pattern) → Silent (own_mention tt (APattern p)) → AllOther n (bound how p)
  other_pattern how (BindingIdentifier l w) h = (only_one (bytes_eq w n) h, tt)

  other_declarators : (how : Binding) (xs : Declarators) → Silent (n_declarators xs) → AllOther n (declarators how xs)
  other_declarators how no_declarator h = tt
  other_declarators how (more_declarator (MakeDeclarator l p e) xs) h =
      let s = apart (own_mention tt (APattern p) ++ n_expr_if e) (n_declarators xs) h in
      all_both (bound how p) (declarators how xs) (other_pattern how p (apart (own_mention tt (APattern p)) (n_expr_if e) s.0).0) (other_declarators how xs s.1)

  other_alone : (k : VariableKind) (xs : Declarators) → Silent (n_declarators xs) → AllOther n (var_alone k xs)
  other_alone variable.Var xs h = other_declarators binding.Var xs h
  other_alone variable.Let xs h = tt
  other_alone variable.Const xs h = tt

  other_init : (i : ForInit) → Silent (n_for_init i) → AllOther n (var_of_init i)
  other_init NoInit h = tt
  other_init (InitDeclaration k xs) h = other_alone k xs h
  other_init (InitExpression e) h = tt

  other_target : (i : ForTarget) → Silent (n_for_target i) → AllOther n (var_of_target i)
  other_target (TargetDeclaration variable.Var p) h = other_pattern binding.Var p h
  other_target (TargetDeclaration variable.Let p) h = tt
  other_target (TargetDeclaration variable.Const p) h = tt
  other_target (TargetExpression e) h = tt

  -- a statement itself mentions what stands before what is in it
  inside_of : (x : Stmt) → Silent (ns x) → Silent (n_stmt x)
  inside_of x h = (apart (own_mention tt (AStmt x)) (n_stmt x) h).1

  mutual
    other_var : (x : Stmt) → Silent (n_stmt x) → AllOther n (var_stmt x)
    other_var (Block l xs) h = other_vars xs h
    other_var (VariableDeclaration l k xs) h = other_alone k xs h
    other_var (If l e x y) h =
        let s = apart (ne e ++ ns x) (n_stmt_if y) h in
        all_both (var_stmt x) (var_stmt_if y) (other_var x (inside_of x (apart (ne e) (ns x) s.0).1)) (other_var_if y s.1)
    other_var (DoWhile l x e) h = other_var x (inside_of x (apart (ns x) (ne e) h).0)
    other_var (While l e x) h = other_var x (inside_of x (apart (ne e) (ns x) h).1)
    other_var (For l i e f x) h =
        let s = apart (n_for_init i ++ n_expr_if e ++ n_expr_if f) (ns x) h in
        let t = apart (n_for_init i ++ n_expr_if e) (n_expr_if f) s.0 in
        all_both (var_of_init i) (var_stmt x) (other_init i (apart (n_for_init i) (n_expr_if e) t.0).0) (other_var x (inside_of x s.1))
    other_var (ForIn l i e x) h =
        let s = apart (n_for_target i ++ ne e) (ns x) h in
        all_both (var_of_target i) (var_stmt x) (other_target i (apart (n_for_target i) (ne e) s.0).0) (other_var x (inside_of x s.1))
    other_var (ForOf l i e x) h =
        let s = apart (n_for_target i ++ ne e) (ns x) h in
        all_both (var_of_target i) (var_stmt x) (other_target i (apart (n_for_target i) (ne e) s.0).0) (other_var x (inside_of x s.1))
    other_var (Switch l e xs) h = other_var_cases xs (apart (ne e) (n_cases xs) h).1
    other_var (Labelled l k x) h = other_var x (inside_of x h)
    other_var (TryCatch l xs c) h =
        let s = apart (n_stmts xs) (n_catch c) h in
        all_both (var_stmts xs) (var_catch c) (other_vars xs s.0) (other_var_catch c s.1)
    other_var (TryFinally l xs ys) h =
        let s = apart (n_stmts xs) (n_stmts ys) h in
        all_both (var_stmts xs) (var_stmts ys) (other_vars xs s.0) (other_vars ys s.1)
    other_var (TryCatchFinally l xs c ys) h =
        let s = apart (n_stmts xs ++ n_catch c) (n_stmts ys) h in
        let t = apart (n_stmts xs) (n_catch c) s.0 in
        all_both (var_stmts xs ++ var_catch c) (var_stmts ys) (all_both (var_stmts xs) (var_catch c) (other_vars xs t.0) (other_var_catch c t.1)) (other_vars ys s.1)
    other_var (EnteredStmt m x) h = other_var x (inside_of x h)
    other_var _ h = tt

    other_vars : (xs : Stmts) → Silent (n_stmts xs) → AllOther n (var_stmts xs)
    other_vars no_stmt h = tt
    other_vars (more_stmt x xs) h = let s = apart (ns x) (n_stmts xs) h in all_both (var_stmt x) (var_stmts xs) (other_var x (inside_of x s.0)) (other_vars xs s.1)

    other_var_if : (x : MaybeStmt) → Silent (n_stmt_if x) → AllOther n (var_stmt_if x)
    other_var_if none_stmt h = tt
    other_var_if (some_stmt x) h = other_var x (inside_of x h)
    other_var_if (entered_none m) h = tt

    other_var_catch : (c : Catch) → Silent (n_catch c) → AllOther n (var_catch c)
    other_var_catch (MakeCatch p xs) h = other_vars xs (apart (within_pattern_if own_mention nothing_told p tt) (n_stmts xs) h).1

    other_var_case : (c : Case) → Silent (n_case c) → AllOther n (var_case c)
    other_var_case (MakeCase l e xs) h = other_vars xs (apart (n_expr_if e) (n_stmts xs) h).1
    other_var_case (EnteredCase m c) h = other_var_case c h

    other_var_cases : (xs : Cases) → Silent (n_cases xs) → AllOther n (var_cases xs)
    other_var_cases no_case h = tt
    other_var_cases (more_case x xs) h = let s = apart (n_case x) (n_cases xs) h in all_both (var_case x) (var_cases xs) (other_var_case x s.0) (other_var_cases xs s.1)

  other_own : (top : Bool) (x : Stmt) → Silent (ns x) → AllOther n (own_of_stmt top x)
  other_own top (VariableDeclaration l variable.Var xs) h = tt
  other_own top (VariableDeclaration l variable.Let xs) h = other_declarators binding.Lexical xs h
  other_own top (VariableDeclaration l variable.Const xs) h = other_declarators binding.Lexical xs h
  other_own top (FunctionDeclaration l x f) h = (only_one (bytes_eq x.name n) (apart (own_name x) (nf f) h).0, tt)
  other_own top (EnteredStmt m x) h = other_own top x h
  other_own top _ h = tt

  other_declared : (top : Bool) (xs : Stmts) → Silent (n_stmts xs) → AllOther n (declared_stmts top xs)
  other_declared top no_stmt h = tt
  other_declared top (more_stmt x xs) h =
      let s = apart (ns x) (n_stmts xs) h in
      all_both (own_of_stmt top x ++ var_stmt x) (declared_stmts top xs) (all_both (own_of_stmt top x) (var_stmt x) (other_own top x s.0) (other_var x (inside_of x s.0))) (other_declared top xs s.1)

  -- ---- one more name, which none of the others is, clashes with none

  any_inserted : (d e : Declared) (us vs : List Declared) → clash e d ≡ false → list_any (clash e) (us ++ d ∷ vs) ≡ list_any (clash e) (us ++ vs)
  any_inserted d e [] vs h = ap (λ b. b || list_any (clash e) vs) h
  any_inserted d e (a ∷ us) vs h = ap (λ b. clash e a || b) (any_inserted d e us vs h)

  inserted : (d : Declared) (us vs ds : List Declared) → d.name ≡ n → AllOther n ds → repeated (us ++ d ∷ vs) ds ≡ repeated (us ++ vs) ds
  inserted d us vs [] q a = refl
  inserted d us vs (e ∷ ds) q a =
      ap (λ b. (if b then record { at = e.at; kind = kind.Duplicate } ∷ [] else []) ++ repeated (e ∷ (us ++ d ∷ vs)) ds) (any_inserted d e us vs (ap (λ w. bytes_eq e.name w && clashes d.how e.how) q ∙ ap (λ b. b && clashes d.how e.how) a.0))
      ∙ ap (λ fs. (if list_any (clash e) (us ++ vs) then record { at = e.at; kind = kind.Duplicate } ∷ [] else []) ++ fs) (inserted d (e ∷ us) vs ds q a.1)

-- ---- the preamble

abbrev IsFree : List ℕ → Type 0
IsFree w = is_reserved true w ≡ false

free_path : IsFree (codes "path")
unfolding is_reserved
free_path = refl

free_hash : IsFree (codes "hash")
unfolding is_reserved
free_hash = refl

free_gcv : IsFree (codes "gcv")
unfolding is_reserved
free_gcv = refl

free_data : IsFree (codes "data")
unfolding is_reserved
free_data = refl

free_global : IsFree (codes "global")
unfolding is_reserved
free_global = refl

free_this : IsFree (codes "globalThis")
unfolding is_reserved
free_this = refl

free_coverage : IsFree (codes "coverage")
unfolding is_reserved
free_coverage = refl

free_actual : IsFree (codes "actual")
unfolding is_reserved
free_actual = refl

mentioned : (at : Pos) (w : List ℕ) → IsFree w → Quiet true (mention.Variable at w ∷ []) []
mentioned at w h = record { names = ap (λ b. reserved_if b at ++ []) h; scopes = refl }

quiet_name : (w : List ℕ) → IsFree w → Quiet true (ne (name w)) (fe (name w))
quiet_name w h = mentioned (start None) w h

quiet_var : (w : List ℕ) (e : Expr) → IsFree w → Quiet true (ne e) (fe e) → Quiet true (ns (var_ w e)) (fs (var_ w e))
quiet_var w e h q = join (join (mentioned (start None) w h) q) nothing

mutual
  quiet_literal : (d : Data) → Quiet true (ne (literal d)) (fe (literal d))
  quiet_literal null = nothing
  quiet_literal (boolean b) = nothing
  quiet_literal (number (unsigned n)) = nothing
  quiet_literal (number (negative z)) = nothing
  quiet_literal (number (float x)) = nothing
  quiet_literal (string s) = nothing
  quiet_literal (array ds) = quiet_literals ds
  quiet_literal (object ms) = quiet_members ms

  quiet_literals : (ds : Items) → Quiet true (n_exprs (literals ds)) (f_exprs (literals ds))
  quiet_literals no_items = nothing
  quiet_literals (item d ds) = join (quiet_literal d) (quiet_literals ds)

  quiet_members : (ms : Members) → Quiet true (n_properties (literal_members ms)) (f_properties (literal_members ms))
  quiet_members no_members = nothing
  quiet_members (member k d ms) = join (quiet_literal d) (quiet_members ms)

quiet_call : (n : List ℕ) → IsFree n → Quiet true (ne (Call None (name n) no_expr)) (fe (Call None (name n) no_expr))
quiet_call n h = join (asks (name n) no_expr) (join (quiet_name n h) nothing)

quiet_member : (e : Expr) (w : List ℕ) → Quiet true (ne e) (fe e) → Quiet true (ne (NamedMember None e w)) (fe (NamedMember None e w))
quiet_member e w q = record { names = q.names; scopes = q.scopes }

quiet_at : (e k : Expr) → Quiet true (ne e) (fe e) → Quiet true (ne k) (fe k) → Quiet true (ne (ComputedMember None e k)) (fe (ComputedMember None e k))
quiet_at e k p q = join p q

quiet_not : (e : Expr) → Quiet true (ne e) (fe e) → Quiet true (ne (Unary None unary.LogicalNot e)) (fe (Unary None unary.LogicalNot e))
quiet_not e q = record { names = q.names; scopes = q.scopes }

quiet_if : (e : Expr) (x : Stmt) → Quiet true (ne e) (fe e) → Quiet true (ns x) (fs x) → Quiet true (ns (If None e x none_stmt)) (fs (If None e x none_stmt))
quiet_if e x p q = join (join p q) nothing

quiet_counter : (n : List ℕ) → IsFree n → (m : Mark) → Quiet true (ne (counter n m)) (fe (counter n m))
quiet_counter n h m = by m.kind
  where
    by : (k : ConstructKind) → Quiet true (ne (PostfixUpdate None update.Increment (counted_in (Call None (name n) no_expr) m k))) (fe (PostfixUpdate None update.Increment (counted_in (Call None (name n) no_expr) m k)))
    by construct_kind.Statement = quiet_at (NamedMember None (Call None (name n) no_expr) (codes "s")) (numeral m.number) (quiet_member (Call None (name n) no_expr) (codes "s") (quiet_call n h)) nothing
    by construct_kind.Function = quiet_at (NamedMember None (Call None (name n) no_expr) (codes "f")) (numeral m.number) (quiet_member (Call None (name n) no_expr) (codes "f") (quiet_call n h)) nothing
    by construct_kind.Branch = quiet_at (ComputedMember None (NamedMember None (Call None (name n) no_expr) (codes "b")) (numeral m.number)) (numeral m.path)
        (quiet_at (NamedMember None (Call None (name n) no_expr) (codes "b")) (numeral m.number) (quiet_member (Call None (name n) no_expr) (codes "b") (quiet_call n h)) nothing) nothing

module _ (n : List ℕ) (free : IsFree n) where
  quiet_data_of : Quiet true (ne data_of) (fe data_of)
  quiet_data_of = join (quiet_name (codes "coverage") free_coverage) (quiet_name (codes "path") free_path)

  quiet_held_of : Quiet true (ne held_of) (fe held_of)
  quiet_held_of = join (quiet_name (codes "global") free_global) (quiet_name (codes "gcv") free_gcv)

  quiet_assigned : (t e : Expr) → Quiet true (ne t) (fe t) → Quiet true (ne e) (fe e) → Quiet true (ne (assigned t e)) (fe (assigned t e))
  quiet_assigned t e p q = join p q

  quiet_first : (path hash : Spelled) (zero : Expr) → Quiet true (ne zero) (fe zero) → Quiet true (n_stmts (first_body n path hash zero)) (f_stmts (first_body n path hash zero))
  quiet_first path hash zero q =
      join (quiet_var (codes "path") (StringLiteral None path) free_path nothing)
      (join (quiet_var (codes "hash") (StringLiteral None hash) free_hash nothing)
      (join (quiet_var (codes "gcv") (text (codes "__coverage__")) free_gcv nothing)
      (join (quiet_var (codes "data") zero free_data q)
      (join (quiet_var (codes "global") (name (codes "globalThis")) free_global (quiet_name (codes "globalThis") free_this))
      (join (quiet_var (codes "coverage") (Logical None logic.Or held_of (Parenthesized None (assigned held_of (ObjectLiteral None no_property)))) free_coverage (join quiet_held_of (join quiet_held_of nothing)))
      (join (quiet_if (Logical None logic.Or (Unary None unary.LogicalNot data_of) (Binary None binary.StrictNotEqual (NamedMember None data_of (codes "hash")) (name (codes "hash"))))
      (Block None (more_stmt (does (assigned data_of (name (codes "data")))) no_stmt))
      (join (quiet_not data_of quiet_data_of) (join (quiet_member data_of (codes "hash") quiet_data_of) (quiet_name (codes "hash") free_hash)))
      (join (quiet_assigned data_of (name (codes "data")) quiet_data_of (quiet_name (codes "data") free_data)) nothing))
      (join (quiet_var (codes "actual") data_of free_actual quiet_data_of)
      (join (join (quiet_name n free) (join (quiet_name (codes "actual") free_actual) nothing))
      (join (quiet_name (codes "actual") free_actual) nothing)))))))))

  quiet_preamble : (path hash : Spelled) (zero : Expr) → Quiet true (ne zero) (fe zero) → Quiet true (n_stmts (preamble_of n path hash zero)) (f_stmts (preamble_of n path hash zero))
  quiet_preamble path hash zero q =
      join (join (mentioned (start None) n free) (join (scoped (nothing_both (vars_fit [] (declared_stmts true (first_body n path hash zero)) tt (refl, (refl, (refl, (refl, (refl, (refl, (refl, tt)))))))) refl)) (quiet_first path hash zero q)))
      (join (quiet_call n free) nothing)

-- ---- a whole file

none_first : (gs : List ScopeFault) → first gs ≡ None → gs ≡ []
none_first [] h = refl
none_first (g ∷ gs) h = absurd cc

first_none : (gs : List ScopeFault) → gs ≡ [] → first gs ≡ None
first_none gs h = ap first h

abbrev reversed_onto : List Declared → List Declared → List Declared
reversed_onto [] before = before
reversed_onto (d ∷ ds) before = reversed_onto ds (d ∷ before)

repeated_append : (before xs ys : List Declared) → repeated before (xs ++ ys) ≡ repeated before xs ++ repeated (reversed_onto xs before) ys
repeated_append before [] ys = refl
repeated_append before (x ∷ xs) ys =
    ap (λ gs. (if list_any (clash x) before then record { at = x.at; kind = kind.Duplicate } ∷ [] else []) ++ gs) (repeated_append (x ∷ before) xs ys)
    ∙ sym (append_assoc (if list_any (clash x) before then record { at = x.at; kind = kind.Duplicate } ∷ [] else []) (repeated (x ∷ before) xs) (repeated (reversed_onto xs (x ∷ before)) ys))

jumps_joined : (zs xs : Stmts) (a : labels.Around) → jumps_stmts (joined zs xs) a ≡ jumps_stmts zs a ++ jumps_stmts xs a
jumps_joined no_stmt xs a = refl
jumps_joined (more_stmt z zs) xs a = ap (λ gs. jumps_stmt z a ++ gs) (jumps_joined zs xs a) ∙ sym (append_assoc (jumps_stmt z a) (jumps_stmts zs a) (jumps_stmts xs a))

jumps_after : (zs xs : Stmts) (a : labels.Around) → jumps_stmts (after_directives zs xs) a ≡ jumps_stmts zs a ++ jumps_stmts xs a
jumps_after zs no_stmt a = jumps_joined zs no_stmt a
jumps_after zs (more_stmt (Directive l s) xs) a = jumps_after zs xs a
jumps_after zs (more_stmt x xs) a = jumps_joined zs (more_stmt x xs) a

-- the name of a function at the top clashes with no parameter
abbrev at_top : List ℕ → Declared
at_top n = record { how = binding.Var; at = start None; name = n }

or_none : (x y : Bool) → x ≡ false → y ≡ false → (x || y) ≡ false
or_none x y p q = rw p q

fits_modules : (n : List ℕ) → list_any (clash (at_top n)) (reversed_onto module_names []) ≡ false
fits_modules n = or_none _ _ (and_false (bytes_eq n (codes "module"))) (or_none _ _ (and_false (bytes_eq n (codes "require"))) (or_none _ _ (and_false (bytes_eq n (codes "exports"))) refl))

scope_more : (n : List ℕ) (ds : List Declared) → AllOther n ds → scope (module_names ++ at_top n ∷ ds) ≡ scope (module_names ++ ds)
scope_more n ds a =
    repeated_append [] module_names (at_top n ∷ ds)
    ∙ ap (λ gs. repeated [] module_names ++ gs)
    (ap (λ b. (if b then record { at = start None; kind = kind.Duplicate } ∷ [] else []) ++ repeated (at_top n ∷ reversed_onto module_names []) ds) (fits_modules n)
    ∙ inserted n (at_top n) [] (reversed_onto module_names []) ds refl a)
    ∙ sym (repeated_append [] module_names ds)

pub keeps_rules : KeepsRules
unfolding faults
keeps_rules n path hash zero (MakeFile xs comments) printable h fresh =
    let a = none_of (reserved_among false (mentions_file (MakeFile xs comments)) ++ own_of_file (MakeFile xs comments)) (f_stmts xs) (none_first (faults false (MakeFile xs comments)) h) in
    let b = none_of (reserved_among false (n_stmts xs)) (own_of_file (MakeFile xs comments)) a.0 in
    let c = none_of (scope (module_names ++ declared_stmts true xs)) (jumps_stmts xs nothing_around) b.1 in
    let t = (link_stmts (with_comments (Marked 0) comments) xs from_zero).tree in
    let d = marked_body (Marked 0) xs comments printable from_zero in
    let ys = rewritten_stmts (counter n) (λ code. 0) true t in
    let zs = preamble n path hash zero in
    let q = quiet_after zs ys (quiet_preamble n fresh.allowed (json_string path) (json_string hash) (literal zero) (quiet_literal zero))
    (keeps_stmts (counter n) (quiet_counter n fresh.allowed) (λ code. 0) true d (record { names = b.0; scopes = a.1 })) in
    let declares = ap (λ ds. scope (module_names ++ ds)) (declared_after (counter n) true zs ys ∙ ap (λ ds. at_top n ∷ ds) (same_scope (counter n) (λ code. 0) true true d))
    ∙ scope_more n (declared_stmts true xs) (other_declared n true xs fresh.fresh) ∙ c.0 in
    let jumps = jumps_after zs ys nothing_around ∙ same_jumps (counter n) (λ code. 0) true nothing_around d ∙ c.1 in
    first_none (faults true (rewritten n path hash zero (MakeFile xs comments))) (nothing_both (nothing_both q.names (nothing_both declares jumps)) q.scopes)
