-- Items with commas, and what holds them: arrays, calls and `new`.
use Rattle.std.proofs.Common.{◌≡◌, ℕ, ◌<◌, ◌≤◌, Bool, true, false, List, [], ◌∷◌, ◌++◌, Option, Some, None, refl, sym, ap, subst, arith, append-nil}
use Rattle.std.specs.Prelude.{codes, ◌||◌, ◌==◌}
use Rattle.std.proofs.lemmas.Bool.{le-leb}
use Rattle.js_terms.specs.declared.place.Loc.{Loc}
use Rattle.js_tree.specs.Plain.{Expr, Exprs, no_expr, more_expr}
use Rattle.js_tree.specs.Plain as tree
use Rattle.js_text.specs.Token.{Token, Word}
use Rattle.js_text.specs.Token as T
use Rattle.js_text.specs.declared.punctuator.Punctuator.TheVariants as P
use Rattle.js_reading.specs.Level.{assignment}
use Rattle.js_reading.specs.Spans.{through}
use Rattle.js_reading.specs.Slots.{Level, Callee}
use Rattle.js_reading.specs.declared.form.Form.TheVariants as slot
use Rattle.js_reading.specs.declared.choice.Choice.TheVariants as choice
use Rattle.js_reading.specs.Productions.{member, call, bare}
use Rattle.js_reading.specs.Choices.{branch}
use Rattle.js_reading.specs.Sentences
use Rattle.js_reading.specs.Sentences.{SpellsItems}
use Rattle.js_layout.specs.Tokens.{expr_tokens, exprs_tokens, more_exprs_tokens, in_parentheses, mark, word}
use Rattle.js_layout.specs.Unplaced.{unplaced_exprs}
use Rattle.js_layout.proofs.Follows.{Follows, nothing, unbegun, Quiet}
use Rattle.js_layout.proofs.Spelt.{standing, edge, SpeltExpr, WillExpr}
use Rattle.js_layout.proofs.ExpressLevels.{quiet_any, no_going_on, not_continued, edge_tight}
use Rattle.js_layout.proofs.ExpressSigns.{known, join_parenthesis, prefix_bracket, prefix_new, quiet_join, quiet_close, quiet_bracket, quiet_comma}
use Rattle.js_layout.proofs.ExpressParts.{by_split, by_token, by_last, same_traits}

-- ---- items

-- each binds as an assignment at least, and is spelt
abbrev pub AllWill : Exprs → Type 0
AllWill no_expr = Unit {0}
AllWill (more_expr e es) = (assignment ≤ standing e) × WillExpr e × AllWill es

pub record SpeltItems (es : Exprs) (ts : List Token) (next : Token) : Type 0 where
  pub trailing : Bool
  pub tree : Exprs
  pub spells : SpellsItems trailing tree ts next
  pub same : unplaced_exprs tree ≡ unplaced_exprs es

before_comma : (e f : Expr) (fs : Exprs) (te tf : List Token) (t next : Token) → t.kind ≡ T.Punctuator P.Comma → assignment ≤ standing e → SpeltExpr e te t → SpeltItems (more_expr f fs) tf next → SpeltItems (more_expr e (more_expr f fs)) (te ++ t ∷ tf) next
before_comma e f fs te tf t next is low s more =
    record { trailing = more.trailing; tree = more_expr s.tree more.tree; spells = Sentences.more_items t low s.spells is more.spells; same = λ i. more_expr (s.same i) (more.same i) }

some_items : (l : Option Loc) (e : Expr) (es : Exprs) → assignment ≤ standing e → WillExpr e → AllWill es → (line : Bool) (ts : List Token) (next : Token) → Follows line (expr_tokens e ++ more_exprs_tokens l es) ts → Quiet 2 next →
    SpeltItems (more_expr e es) ts next
some_items l e no_expr low will all line ts next follows quiet =
    let s = will line ts next (subst (λ ws. Follows line ws ts) (append-nil (expr_tokens e)) follows) (quiet_any (standing e) next quiet) in
    record { trailing = false; tree = more_expr s.tree no_expr; spells = Sentences.last_item low s.spells (no_going_on (Level assignment) s.tree next 2 (omega arith) quiet); same = λ i. more_expr (s.same i) no_expr }
some_items l e (more_expr f fs) low will all line ts next follows quiet =
    by_split (λ us. SpeltItems (more_expr e (more_expr f fs)) us next) line (expr_tokens e) (mark l P.Comma ∷ (expr_tokens f ++ more_exprs_tokens l fs)) ts follows
    (λ te rest fe fr. by_token (λ us. SpeltItems (more_expr e (more_expr f fs)) (te ++ us) next) _ (mark l P.Comma) (expr_tokens f ++ more_exprs_tokens l fs) rest fr
    (λ t tf is on ff. before_comma e f fs te tf t next is low (will line te t fe (quiet_any (standing e) t (quiet_comma 2 t (omega arith) is))) (some_items l f fs all.0 all.1 all.2 false tf next ff quiet)))

pub items : (l : Option Loc) (es : Exprs) → AllWill es → (line : Bool) (ts : List Token) (next : Token) → Follows line (exprs_tokens l es) ts → Quiet 2 next → SpeltItems es ts next
items l no_expr all line ts next follows quiet =
    record { trailing = true; tree = no_expr; spells = subst (λ us. SpellsItems true no_expr us next) (sym (nothing line ts follows)) Sentences.no_item; same = refl }
items l (more_expr e es) all line ts next follows quiet = some_items l e es all.0 all.1 all.2 line ts next follows quiet

-- ---- arrays

pub array : (l : Option Loc) (xs : Exprs) → AllWill xs → WillExpr (tree.ArrayLiteral l xs)
array l xs all line ts next follows quiet =
    by_token (λ us. SpeltExpr (tree.ArrayLiteral l xs) us next) line (mark l P.OpenBracket) (exprs_tokens l xs ++ mark l P.CloseBracket ∷ []) ts (unbegun l line _ ts follows)
    (λ t rest is on f. by_split (λ us. SpeltExpr (tree.ArrayLiteral l xs) (t ∷ us) next) false (exprs_tokens l xs) (mark l P.CloseBracket ∷ []) rest f
    (λ tx more fx fm. by_last (λ us. SpeltExpr (tree.ArrayLiteral l xs) (t ∷ (tx ++ us)) next) _ (mark l P.CloseBracket) more fm
    (λ u is_close at. whole tx t u is is_close (items l xs all false tx u fx (quiet_bracket 2 u (omega arith) is_close)))))
  where
    whole : (tx : List Token) (t u : Token) → t.kind ≡ T.Punctuator P.OpenBracket → u.kind ≡ T.Punctuator P.CloseBracket → SpeltItems xs tx u → SpeltExpr (tree.ArrayLiteral l xs) (t ∷ (tx ++ u ∷ [])) next
    whole tx t u is is_close s = let read : Expr = tree.ArrayLiteral (Some (through t.loc u.loc)) s.tree in record {
      tree = read;
      loc = through t.loc u.loc;
      spells = Sentences.prefixed slot.ArrayLiteral t (prefix_bracket t is) (Sentences.sign t is (Sentences.items u s.spells is_close Sentences.done)) refl;
      same = λ i. tree.ArrayLiteral None (s.same i);
      traits = same_traits read (tree.ArrayLiteral l xs) refl refl refl refl refl;
    }

-- ---- calls

-- what stands in parentheses, and its pair
arguments : (Q : List Token → Type 0) (l : Option Loc) (xs : Exprs) → AllWill xs → (line : Bool) (ts : List Token) → Follows line (in_parentheses l (exprs_tokens l xs)) ts →
    ((tx : List Token) (t u : Token) → t.kind ≡ T.Punctuator P.OpenParenthesis → u.kind ≡ T.Punctuator P.CloseParenthesis → SpeltItems xs tx u → Q (t ∷ (tx ++ u ∷ []))) → Q ts
arguments Q l xs all line ts follows go =
    by_token Q line (mark l P.OpenParenthesis) (exprs_tokens l xs ++ mark l P.CloseParenthesis ∷ []) ts follows
    (λ t rest is on f. by_split (λ us. Q (t ∷ us)) false (exprs_tokens l xs) (mark l P.CloseParenthesis ∷ []) rest f
    (λ tx more fx fm. by_last (λ us. Q (t ∷ (tx ++ us))) _ (mark l P.CloseParenthesis) more fm
    (λ u is_close at. go tx t u is is_close (items l xs all false tx u fx (quiet_close 2 u (omega arith) is_close)))))

pub called : (l : Option Loc) (f : Expr) (xs : Exprs) → call ≤ standing f → WillExpr f → AllWill xs → WillExpr (tree.Call l f xs)
called l f xs low will all line ts next follows quiet =
    by_split (λ us. SpeltExpr (tree.Call l f xs) us next) line (expr_tokens f) (in_parentheses l (exprs_tokens l xs)) ts (unbegun l line _ ts follows)
    (λ tf rest ff fr. arguments (λ us. SpeltExpr (tree.Call l f xs) (tf ++ us) next) l xs all _ rest fr
    (λ tx t u is is_close s. whole tf tx t u is is_close (will line tf t ff (quiet_join (edge (standing f)) t (T.Punctuator P.OpenParenthesis) slot.Call is refl refl (join_parenthesis t is) (edge_tight 20 (standing f) (omega arith) (omega arith)))) s))
  where
    whole : (tf tx : List Token) (t u : Token) → t.kind ≡ T.Punctuator P.OpenParenthesis → u.kind ≡ T.Punctuator P.CloseParenthesis → SpeltExpr f tf t → SpeltItems xs tx u → SpeltExpr (tree.Call l f xs) (tf ++ t ∷ (tx ++ u ∷ [])) next
    whole tf tx t u is is_close sf s = let read : Expr = tree.Call (Some (through sf.loc u.loc)) sf.tree s.tree in record {
      tree = read;
      loc = through sf.loc u.loc;
      spells = Sentences.joined slot.Call t (join_parenthesis t is) refl low sf.spells (Sentences.sign t is (Sentences.items u s.spells is_close Sentences.done)) refl;
      same = λ i. tree.Call None (sf.same i) (s.same i);
      traits = same_traits read (tree.Call l f xs) refl refl refl refl refl;
    }

pub made_new : (l : Option Loc) (c : Expr) (xs : Exprs) → member ≤ standing c → WillExpr c → AllWill xs → WillExpr (tree.New l c xs)
made_new l c xs low will all line ts next follows quiet =
    by_token (λ us. SpeltExpr (tree.New l c xs) us next) line (word l (codes "new")) (expr_tokens c ++ in_parentheses l (exprs_tokens l xs)) ts (unbegun l line _ ts follows)
    (λ v rest is_new on f. by_split (λ us. SpeltExpr (tree.New l c xs) (v ∷ us) next) false (expr_tokens c) (in_parentheses l (exprs_tokens l xs)) rest f
    (λ tc more fc fr. arguments (λ us. SpeltExpr (tree.New l c xs) (v ∷ (tc ++ us)) next) l xs all _ more fr
    (λ tx t u is is_close s. whole tc tx v t u is_new is is_close (will false tc t fc (opening (edge (standing c)) t is (edge_tight 20 (standing c) (omega arith) (omega arith)))) s)))
  where
    opening : (n : ℕ) (t : Token) → t.kind ≡ T.Punctuator P.OpenParenthesis → 20 < n → Quiet n t
    opening n t is high = quiet_join n t (T.Punctuator P.OpenParenthesis) slot.Call is refl refl (join_parenthesis t is) high

    whole : (tc tx : List Token) (v t u : Token) → v.kind ≡ Word (codes "new") → t.kind ≡ T.Punctuator P.OpenParenthesis → u.kind ≡ T.Punctuator P.CloseParenthesis → SpeltExpr c tc t → SpeltItems xs tx u → SpeltExpr (tree.New l c xs) (v ∷ (tc ++ t ∷ (tx ++ u ∷ []))) next
    whole tc tx v t u is_new is is_close sc s = let read : Expr = tree.New (Some (through v.loc u.loc)) sc.tree s.tree in record {
      tree = read;
      loc = through v.loc u.loc;
      spells = Sentences.prefixed slot.New v (prefix_new v is_new)
          (Sentences.sign v is_new (Sentences.expr {w = Callee} {us = t ∷ (tx ++ u ∷ [])} (ap (λ b. b || (standing c == bare)) (le-leb member (standing c) low)) sc.spells (not_continued Callee sc.tree t 21 (omega arith) (opening 21 t is (omega arith)))
          (Sentences.chosen {qs = []} {us = t ∷ (tx ++ u ∷ [])} (ap (branch choice.Arguments) (known t (T.Punctuator P.OpenParenthesis) is)) (Sentences.sign t is (Sentences.items u s.spells is_close Sentences.done))))) refl;
      same = λ i. tree.New None (sc.same i) (s.same i);
      traits = same_traits read (tree.New l c xs) refl refl refl refl refl;
    }
