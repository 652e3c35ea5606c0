-- Arrows: their parameters are read as items in parentheses, before the arrow and its body.
use Rattle.std.proofs.Common.{◌≡◌, ℕ, ◌≤◌, Bool, true, false, not, ◌&&◌, List, [], ◌∷◌, ◌++◌, Option, Some, None, refl, sym, ap, subst, ◌∙◌, arith, append-nil}
use Rattle.std.proofs.lemmas.Bool.{true≢false}
use Rattle.js_terms.specs.declared.place.Loc.{Loc}
use Rattle.js_tree.specs.Plain.{Expr, ArrowFunction, Exprs, no_expr, more_expr, Params, Stmts, MakeFunctionBody, ConciseBody, ExpressionBody, BlockBody}
use Rattle.js_tree.specs.Plain as tree
use Rattle.js_text.specs.Token.{Token, Kind}
use Rattle.js_text.specs.Token as T
use Rattle.js_text.specs.declared.punctuator.Punctuator.TheVariants as P
use Rattle.js_reading.specs.Level.{assignment}
use Rattle.js_reading.specs.Spans.{through, first}
use Rattle.js_reading.specs.Kinds.{is_kind}
use Rattle.js_reading.specs.Slots.{Level, Expr_, Stmts_, Place_, By, Piece, AnExpr, TheExprs, TheStmts, APlace, Missing, Branch, Go, Pass}
use Rattle.js_reading.specs.declared.form.Form.TheVariants as slot
use Rattle.js_reading.specs.declared.choice.Choice.TheVariants as choice
use Rattle.js_reading.specs.Productions.{mark, is_mark}
use Rattle.js_reading.specs.Choices.{branch, either}
use Rattle.js_reading.specs.Makes.{build, arrow_of, params_of, bare_in, with_directives}
use Rattle.js_reading.specs.Sentences
use Rattle.js_reading.specs.Sentences.{Spells, SpellsSlots}
use Rattle.js_reading.proofs.sentences.KindsLemmas.{kind_is}
use Rattle.js_reading.proofs.sentences.Firsts.{first_expr}
use Rattle.js_spelling.specs.Written.{Written}
use Rattle.js_layout.specs.Tokens.{expr_tokens, stmts_tokens, params_tokens, concise_tokens, braced}
use Rattle.js_layout.specs.Tokens as written
use Rattle.js_layout.specs.Neat.{first_is, is_brace}
use Rattle.js_layout.specs.Unplaced.{unplaced_concise_body}
use Rattle.js_layout.proofs.Follows.{Follows, unbegun, Quiet}
use Rattle.js_layout.proofs.Spelt.{standing, SpeltExpr, WillExpr, WillBody}
use Rattle.js_layout.proofs.ExpressLevels.{quiet_any}
use Rattle.js_layout.proofs.ExpressSigns.{of_kind, known, prefix_parenthesis, quiet_close}
use Rattle.js_layout.proofs.ExpressParts.{by_split, by_token, same_traits, same_bare, last_operand}
use Rattle.js_layout.proofs.ExpressParameters.{ParamsWill, SpeltParams, item_params}
use Rattle.js_layout.proofs.ExpressFunctions.{braces_read}

-- ---- bodies

pub record SpeltConcise (b : ConciseBody) (ts : List Token) (next : Token) : Type 0 where
  pub tree : ConciseBody
  pub pieces : List Piece
  pub end : Loc
  pub spells : (l : Loc) → SpellsSlots (By choice.ConciseBody ∷ []) pieces l end ts next
  pub made : (l : Loc) (t : Bool) (xs : Exprs) → build slot.Parentheses l (TheExprs t xs ∷ pieces) ≡ arrow_of l (params_of xs) (Some tree)
  pub same : unplaced_concise_body tree ≡ unplaced_concise_body b
  pub bare : (l m : Option Loc) (ps qs : Params) → bare_in (ArrowFunction l 0 ps tree) ≡ bare_in (ArrowFunction m 0 qs b)

abbrev pub WillConcise : ConciseBody → Type 0
WillConcise b = (line : Bool) (ts : List Token) (next : Token) → Follows line (concise_tokens b) ts → Quiet 2 next → SpeltConcise b ts next

-- an expression has a token
no_empty : {i : ℕ} {e : Expr} {l : Loc} {next : Token} → Spells (AnExpr i e) l [] next → ⊥
no_empty {next = next} d = true≢false (sym (first_expr d (of_kind next (T.Punctuator P.CloseParenthesis))))

brace_is : (k : Kind) → is_brace k ≡ false → is_kind (T.Punctuator P.OpenBrace) k ≡ false
brace_is k h = by_test (is_kind (T.Punctuator P.OpenBrace) k) refl
  where
    by_test : (c : Bool) → is_kind (T.Punctuator P.OpenBrace) k ≡ c → is_kind (T.Punctuator P.OpenBrace) k ≡ false
    by_test false g = g
    by_test true g = absurd (true≢false (sym (ap is_brace (kind_is (T.Punctuator P.OpenBrace) k g)) ∙ h))

no_brace : (ws : List Written) (line : Bool) (t : Token) (ts : List Token) → Follows line ws (t ∷ ts) → first_is is_brace ws ≡ false → is_mark P.OpenBrace t ≡ false
no_brace [] line t ts follows h = absurd follows
no_brace (w ∷ ws) line t ts follows h = ap (is_kind (T.Punctuator P.OpenBrace)) follows.0 ∙ brace_is w.kind h

made_value : (l : Loc) (t : Bool) (xs : Exprs) (i : ℕ) (e : Expr) → build slot.Parentheses l (TheExprs t xs ∷ AnExpr i e ∷ []) ≡ arrow_of l (params_of xs) (Some (ExpressionBody e))
made_value l true xs i e = refl
made_value l false no_expr i e = refl
made_value l false (more_expr x xs) i e = refl

made_block : (l : Loc) (t : Bool) (xs : Exprs) (m n : Loc) (ss : Stmts) →
    build slot.Parentheses l (TheExprs t xs ∷ APlace m ∷ TheStmts ss ∷ APlace n ∷ []) ≡ arrow_of l (params_of xs) (Some (BlockBody (MakeFunctionBody (Some (through m n)) (with_directives ss))))
made_block l true xs m n ss = refl
made_block l false no_expr m n ss = refl
made_block l false (more_expr x xs) m n ss = refl

abbrev value_branch : Branch
value_branch = Go [] (Expr_ (Level assignment)) []

abbrev block_branch : Branch
block_branch = Go [] (mark P.OpenBrace) (Place_ ∷ Stmts_ ∷ mark P.CloseBrace ∷ Place_ ∷ [])

-- an expression that begins with no brace
pub value_body : (e : Expr) → assignment ≤ standing e → first_is is_brace (expr_tokens e) ≡ false → WillExpr e → WillConcise (ExpressionBody e)
value_body e low plain will line [] next follows quiet = absurd (no_empty (will line [] next follows (quiet_any (standing e) next quiet)).spells)
value_body e low plain will line (t ∷ ts) next follows quiet =
    let s = will line (t ∷ ts) next follows (quiet_any (standing e) next quiet) in
    record {
      tree = ExpressionBody s.tree;
      pieces = AnExpr (standing e) s.tree ∷ [];
      end = s.loc;
      spells = λ l. Sentences.chosen {qs = []} {us = t ∷ ts} (ap (λ c. either c block_branch value_branch) (no_brace (expr_tokens e) line t ts follows plain)) (last_operand low quiet s.spells);
      made = λ l b xs. made_value l b xs (standing e) s.tree;
      same = λ i. ExpressionBody (s.same i);
      bare = λ l m ps qs. same_bare s;
    }

first_brace : (m : Option Loc) (ws : List Written) (line : Bool) (ts : List Token) (next : Token) → Follows line (braced m ws) ts → (first ts next).kind ≡ T.Punctuator P.OpenBrace
first_brace m ws line [] next follows = absurd follows
first_brace m ws line (t ∷ ts) next follows = follows.0

pub block_body : (m : Option Loc) (ss : Stmts) → WillBody ss → WillConcise (BlockBody (MakeFunctionBody m ss))
block_body m ss will line ts next follows quiet =
    let b = braces_read m ss will line ts follows in
    record {
      tree = BlockBody (MakeFunctionBody (Some (through b.start b.end)) (with_directives b.tree));
      pieces = APlace b.start ∷ TheStmts b.tree ∷ APlace b.end ∷ [];
      end = b.end;
      spells = λ l. Sentences.chosen {qs = []} {us = ts} (ap (branch choice.ConciseBody) (known (first ts next) (T.Punctuator P.OpenBrace) (first_brace m (stmts_tokens ss) line ts next follows)))
          (subst (λ us. SpellsSlots (mark P.OpenBrace ∷ Place_ ∷ Stmts_ ∷ mark P.CloseBrace ∷ Place_ ∷ []) (APlace b.start ∷ TheStmts b.tree ∷ APlace b.end ∷ []) l b.end us next) (append-nil ts) (b.spells l b.end [] [] [] next Sentences.done));
      made = λ l t xs. made_block l t xs b.start b.end b.tree;
      same = λ i. BlockBody (MakeFunctionBody None (b.same i));
      bare = λ l m ps qs. refl;
    }

-- ---- arrows

pub arrow : (l : Option Loc) (ps : Params) (body : ConciseBody) → ParamsWill ps → WillConcise body → WillExpr (tree.ArrowFunction l 0 ps body)
arrow l ps body all will line ts next follows quiet =
    by_token (λ us. SpeltExpr (tree.ArrowFunction l 0 ps body) us next) line (written.mark l P.OpenParenthesis) (params_tokens l ps ++ written.mark l P.CloseParenthesis ∷ written.mark l P.Arrow ∷ concise_tokens body) ts (unbegun l line _ ts follows)
    (λ t rest is on f. by_split (λ us. SpeltExpr (tree.ArrowFunction l 0 ps body) (t ∷ us) next) false (params_tokens l ps) (written.mark l P.CloseParenthesis ∷ written.mark l P.Arrow ∷ concise_tokens body) rest f
    (λ tp more fp fm. by_token (λ us. SpeltExpr (tree.ArrowFunction l 0 ps body) (t ∷ (tp ++ us)) next) _ (written.mark l P.CloseParenthesis) (written.mark l P.Arrow ∷ concise_tokens body) more fm
    (λ u last is_close at fl. by_token (λ us. SpeltExpr (tree.ArrowFunction l 0 ps body) (t ∷ (tp ++ u ∷ us)) next) false (written.mark l P.Arrow) (concise_tokens body) last fl
    (λ a tb is_arrow beside fb. whole t u a tp tb is is_close is_arrow beside (item_params l ps all false tp u fp (quiet_close 2 u (omega arith) is_close)) (will false tb next fb quiet)))))
  where
    whole : (t u a : Token) (tp tb : List Token) → t.kind ≡ T.Punctuator P.OpenParenthesis → u.kind ≡ T.Punctuator P.CloseParenthesis → a.kind ≡ T.Punctuator P.Arrow → a.line_terminator_before ≡ false → SpeltParams ps tp u → SpeltConcise body tb next →
        SpeltExpr (tree.ArrowFunction l 0 ps body) (t ∷ (tp ++ u ∷ a ∷ tb)) next
    whole t u a tp tb is is_close is_arrow beside sp sb = let read : Expr = tree.ArrowFunction (Some (through t.loc sb.end)) 0 sp.params sb.tree in record {
      tree = read;
      loc = through t.loc sb.end;
      spells = Sentences.prefixed slot.Parentheses t (prefix_parenthesis t is)
          (Sentences.sign t is (Sentences.items u sp.spells is_close (Sentences.chosen {qs = []} {us = a ∷ tb} arrow_next (Sentences.sign a is_arrow (sb.spells a.loc)))))
          (sb.made (through t.loc sb.end) sp.trailing sp.tree ∙ ap (λ o. arrow_of (through t.loc sb.end) o (Some sb.tree)) sp.made);
      same = λ i. tree.ArrowFunction None 0 (sp.same i) (sb.same i);
      traits = same_traits read (tree.ArrowFunction l 0 ps body) refl refl (sb.bare (Some (through t.loc sb.end)) l sp.params ps) refl refl;
    }
      where
        arrow_next : branch choice.Arrow a ≡ Go [] (mark P.Arrow) (By choice.ConciseBody ∷ [])
        arrow_next = λ i. either (is_kind (T.Punctuator P.Arrow) (is_arrow i) && not (beside i)) (Go [] (mark P.Arrow) (By choice.ConciseBody ∷ [])) (Pass (Missing ∷ []))
