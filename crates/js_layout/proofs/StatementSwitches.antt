-- `switch` and its clauses.
use Rattle.std.proofs.Common.{◌≡◌, ℕ, Bool, true, false, List, [], ◌∷◌, ◌++◌, Option, Some, None, refl, sym, ap, ◌∙◌, append_assoc}
use Rattle.js_terms.specs.declared.place.Loc.{Loc}
use Rattle.js_tree.specs.Plain as tree
use Rattle.js_tree.specs.Plain.{Expr, Stmts, Cases, no_case, more_case, MakeCase, EnteredCase, none_expr, some_expr}
use Rattle.js_text.specs.Token.{Token}
use Rattle.js_text.specs.declared.punctuator.Punctuator.TheVariants as P
use Rattle.js_reading.specs.Level.{any}
use Rattle.js_reading.specs.Spans.{through}
use Rattle.js_reading.specs.declared.choice.Choice.TheVariants as choice
use Rattle.js_reading.specs.declared.form.Form.TheVariants as form
use Rattle.js_reading.specs.Slots.{Level, By, Piece, AnExpr, TheStmts, APlace}
use Rattle.js_reading.specs.Makes.{cases_of, one_more_case, switch_of}
use Rattle.js_reading.specs.Sentences.{closes}
use Rattle.js_spelling.specs.Written.{Written}
use Rattle.js_layout.specs.Tokens.{expr_tokens, stmts_tokens, cases_tokens, mark, last_mark}
use Rattle.js_layout.specs.Unplaced.{unplaced_expr, unplaced_stmts, unplaced_cases}
use Rattle.js_layout.proofs.Spelt.{standing, WillExpr, WillStmt, WillBlock}
use Rattle.js_layout.proofs.StatementSteps.{At, at_mark, Will, same_tokens, mapped, ended, signed, placed, chosen, expressed, listed, ends_colon}
use Rattle.js_layout.proofs.StatementHeads.{any_level, headed, tested}

-- what is shown of the parts of clauses; one at most is `default`
abbrev pub WillCases : Bool → Cases → Type 0
WillCases defaulted no_case = Unit {0}
WillCases true (more_case (MakeCase l none_expr ss) cs) = ⊥
WillCases false (more_case (MakeCase l none_expr ss) cs) = WillBlock ss × WillCases true cs
WillCases defaulted (more_case (MakeCase l (some_expr e) ss) cs) = WillExpr e × WillBlock ss × WillCases defaulted cs
WillCases defaulted (more_case (EnteredCase m c) cs) = ⊥

pub record MadeCases (defaulted : Bool) (cs : Cases) (ps : List Piece) : Type 0 where
  pub tree : Cases
  pub made : cases_of defaulted ps ≡ Some tree
  pub same : unplaced_cases tree ≡ unplaced_cases cs

-- clauses, and the brace after them
abbrev pub closed : Option Loc → Cases → List Written
closed l cs = cases_tokens cs ++ last_mark l P.CloseBrace ∷ []

-- the first token after statements closes their list
cases_close : {N : Token → Type 0} (l : Option Loc) (defaulted : Bool) (cs : Cases) → WillCases defaulted cs → (b : Bool) → At b (closed l cs) N (λ t. closes t ≡ true)
cases_close l defaulted no_case will b = at_mark (λ t. refl)
cases_close l true (more_case (MakeCase k none_expr ss) cs) will b = absurd will
cases_close l false (more_case (MakeCase k none_expr ss) cs) will b = at_mark (λ t. refl)
cases_close l true (more_case (MakeCase k (some_expr e) ss) cs) will b = at_mark (λ t. refl)
cases_close l false (more_case (MakeCase k (some_expr e) ss) cs) will b = at_mark (λ t. refl)
cases_close l true (more_case (EnteredCase m c) cs) will b = absurd will
cases_close l false (more_case (EnteredCase m c) cs) will b = absurd will

no_more : (defaulted : Bool) → cases_of defaulted [] ≡ Some no_case
no_more true = refl
no_more false = refl

one_more : (defaulted : Bool) (a z : Loc) (i : ℕ) (e : Expr) (ss : Stmts) (ps : List Piece) (cs : Cases) → cases_of defaulted ps ≡ Some cs →
    cases_of defaulted (APlace a ∷ AnExpr i e ∷ TheStmts ss ∷ APlace z ∷ ps) ≡ Some (more_case (MakeCase (Some (through a z)) (some_expr e) ss) cs)
one_more true a z i e ss ps cs h = ap (one_more_case (MakeCase (Some (through a z)) (some_expr e) ss)) h
one_more false a z i e ss ps cs h = ap (one_more_case (MakeCase (Some (through a z)) (some_expr e) ss)) h

-- a clause with a test, before others that are read
tested_case : {line : Bool} {N : Token → Type 0} (l k : Option Loc) (defaulted : Bool) (e : Expr) (ss : Stmts) (cs : Cases) → WillExpr e → WillBlock ss → ((b : Bool) → At b (closed l cs) N (λ t. closes t ≡ true)) →
    ((b : Bool) → Will b (By choice.Clauses ∷ []) (MadeCases defaulted cs) (closed l cs) N) →
    Will line (By choice.Clauses ∷ []) (MadeCases defaulted (more_case (MakeCase k (some_expr e) ss) cs)) (closed l (more_case (MakeCase k (some_expr e) ss) cs)) N
tested_case {N = N} l k defaulted e ss cs test block closing rest =
    chosen (at_mark (λ t. refl)) (signed refl (placed (λ a. same_tokens (sym order)
    (expressed e test (λ x like. any_level e) (λ b. at_mark (λ t. ends_colon (Level any) (standing e) b t)) (λ b x like. signed refl (listed ss block closing (λ d y same. placed (λ z. mapped (λ ps made. record {
      tree = more_case (MakeCase (Some (through a z)) (some_expr x) y) made.tree;
      made = one_more defaulted a z (standing e) x y ps made.tree made.made;
      same = ap (λ u. more_case (MakeCase None (some_expr u) (unplaced_stmts y)) (unplaced_cases made.tree)) like.same ∙ ap (λ u. more_case (MakeCase None (some_expr (unplaced_expr e)) u) (unplaced_cases made.tree)) same ∙
          ap (λ u. more_case (MakeCase None (some_expr (unplaced_expr e)) (unplaced_stmts ss)) u) made.same;
    }) (rest d)))))))))
  where
    order : ((expr_tokens e ++ mark k P.Colon ∷ stmts_tokens ss) ++ cases_tokens cs) ++ last_mark l P.CloseBrace ∷ [] ≡ expr_tokens e ++ mark k P.Colon ∷ (stmts_tokens ss ++ closed l cs)
    order =
        append_assoc (expr_tokens e ++ mark k P.Colon ∷ stmts_tokens ss) (cases_tokens cs) (last_mark l P.CloseBrace ∷ []) ∙
        append_assoc (expr_tokens e) (mark k P.Colon ∷ stmts_tokens ss) (closed l cs)

pub cases_read : {line : Bool} {N : Token → Type 0} (l : Option Loc) (defaulted : Bool) (cs : Cases) → WillCases defaulted cs → Will line (By choice.Clauses ∷ []) (MadeCases defaulted cs) (closed l cs) N
cases_read l defaulted no_case will = chosen (at_mark (λ t. refl)) (signed refl (ended (record { tree = no_case; made = no_more defaulted; same = refl })))
cases_read l true (more_case (MakeCase k none_expr ss) cs) will = absurd will
cases_read l false (more_case (MakeCase k none_expr ss) cs) will =
    chosen (at_mark (λ t. refl)) (signed refl (placed (λ a. signed refl (same_tokens (sym (append_assoc (stmts_tokens ss) (cases_tokens cs) (last_mark l P.CloseBrace ∷ [])))
    (listed ss will.0 (cases_close l true cs will.1) (λ d y same. placed (λ z. mapped (λ ps made. record {
      tree = more_case (MakeCase (Some (through a z)) none_expr y) made.tree;
      made = ap (one_more_case (MakeCase (Some (through a z)) none_expr y)) made.made;
      same = ap (λ u. more_case (MakeCase None none_expr u) (unplaced_cases made.tree)) same ∙ ap (λ u. more_case (MakeCase None none_expr (unplaced_stmts ss)) u) made.same;
    }) (cases_read l true cs will.1))))))))
cases_read l true (more_case (MakeCase k (some_expr e) ss) cs) will = tested_case l k true e ss cs will.0 will.1 (cases_close l true cs will.2) (λ b. cases_read l true cs will.2)
cases_read l false (more_case (MakeCase k (some_expr e) ss) cs) will = tested_case l k false e ss cs will.0 will.1 (cases_close l false cs will.2) (λ b. cases_read l false cs will.2)
cases_read l true (more_case (EnteredCase m c) cs) will = absurd will
cases_read l false (more_case (EnteredCase m c) cs) will = absurd will

pub will_switch : (l : Option Loc) (e : Expr) (cs : Cases) → WillExpr e → WillCases false cs → WillStmt (tree.Switch l e cs)
will_switch l e cs test will =
    headed form.Switch (tree.Switch l e cs) l
    (λ line. signed refl (tested l e test (λ x like. signed refl (mapped (λ ps made. record {
      tree = λ m. tree.Switch (Some m) x made.tree;
      made = λ m. ap (switch_of m x) made.made;
      same = λ m. ap (λ z. tree.Switch None z (unplaced_cases made.tree)) like.same ∙ ap (λ z. tree.Switch None (unplaced_expr e) z) made.same;
      declares = λ m. refl;
      string = λ m. refl;
    }) (cases_read l false cs will))))) (λ t. refl) refl
