-- With which tokens an expression and a statement begin, and with which they don't.
use Rattle.std.proofs.Common.{◌≡◌, ℕ, Bool, true, false, List, ◌∷◌, codes, refl, sym, ap, subst, ◌∙◌}
use Rattle.std.specs.Prelude.{◌||◌, is_some}
use Rattle.std.proofs.lemmas.Bool.{true≢false}
use Rattle.js_terms.specs.declared.place.Loc.{Loc}
use Rattle.js_tree.specs.Plain.{Expr, Stmt}
use Rattle.js_text.specs.Token.{Token, Kind, Word, End}
use Rattle.js_text.specs.Token as T
use Rattle.js_text.specs.Word.{reserved_word}
use Rattle.js_text.specs.declared.punctuator.Punctuator.{Punctuator}
use Rattle.js_text.specs.declared.punctuator.Punctuator.TheVariants as P
use Rattle.js_reading.specs.Spans.{first}
use Rattle.js_reading.specs.Kinds.{is_kind, is_keyword}
use Rattle.js_reading.specs.Slots.{Wanted, Slot, Expr_, Piece, AnExpr, AStmt}
use Rattle.js_reading.specs.Productions.{is_mark, prefix, statement}
use Rattle.js_reading.specs.Sentences
use Rattle.js_reading.specs.Sentences.{leaf_of, closes, Spells, SpellsSlots}
use Rattle.js_reading.proofs.sentences.KindsLemmas.{kind_is}
use Rattle.js_reading.proofs.sentences.Shapes.{first_append, closing}

-- a token begins an expression; a statement
abbrev pub opens : Token → Bool
opens t = is_some (prefix t) || is_some (leaf_of t.kind t.loc)

abbrev pub starts : Token → Bool
starts t = opens t || is_some (statement t)

-- the token with another kind
abbrev pub remade : Token → Kind → Token
remade t k = record { kind = k; span = t.span; loc = t.loc; line_terminator_before = t.line_terminator_before; comments = t.comments }

-- what holds of no token of a kind holds of no token that is of it
pub not_kind : (p : Token → Bool) (t : Token) (k : Kind) → p (remade t k) ≡ false → p t ≡ true → is_kind k t.kind ≡ false
not_kind p t k none h = by_bool (is_kind k t.kind) refl
  where
    by_bool : (b : Bool) → is_kind k t.kind ≡ b → is_kind k t.kind ≡ false
    by_bool false q = q
    by_bool true q = absurd (true≢false (sym h ∙ subst (λ x. p (remade t x) ≡ false) (sym (kind_is k t.kind q)) none))

four : (a b c d : Bool) → a ≡ false → b ≡ false → c ≡ false → d ≡ false → (a || b || c || d) ≡ false
four a b c d ha hb hc hd = ap (λ x. x || b || c || d) ha ∙ ap (λ x. false || x || c || d) hb ∙ ap (λ x. false || false || x || d) hc ∙ ap (λ x. false || false || false || x) hd

pub no_close : (t : Token) → starts t ≡ true → closes t ≡ false
unfolding is_keyword reserved_word
no_close t h = four _ _ _ _ (not_kind starts t (T.Punctuator P.CloseBrace) refl h) (not_kind starts t End refl h) (not_kind starts t (Word (codes "case")) refl h) (not_kind starts t (Word (codes "default")) refl h)

pub no_end : (t : Token) → starts t ≡ true → is_kind End t.kind ≡ false
no_end t h = not_kind starts t End refl h

pub no_closing : (p : Punctuator) (t : Token) → closing p ≡ true → opens t ≡ true → is_mark p t ≡ false
no_closing P.CloseParenthesis t c h = not_kind opens t (T.Punctuator P.CloseParenthesis) refl h
no_closing P.CloseBracket t c h = not_kind opens t (T.Punctuator P.CloseBracket) refl h
no_closing p t c h = absurd (true≢false (sym c))

or_left : (x y : Bool) → x ≡ true → (x || y) ≡ true
or_left x y h = ap (λ b. b || y) h

or_right : (x y : Bool) → y ≡ true → (x || y) ≡ true
or_right true y h = refl
or_right false y h = h

pub first_expr : {i : ℕ} {e : Expr} {l : Loc} {ts : List Token} {next : Token} → Spells (AnExpr i e) l ts next → (u : Token) → opens (first ts u) ≡ true
first_expr (Sentences.leaf t none is) u = or_right (is_some (prefix t)) (is_some (leaf_of t.kind t.loc)) (ap is_some is)
first_expr (Sentences.prefixed f t is d b) u = or_left (is_some (prefix t)) (is_some (leaf_of t.kind t.loc)) (ap is_some is)
first_expr (Sentences.joined f {ta = ta} {ts = ts} t is are low da d b) u = ap opens (first_append ta (t ∷ ts) u) ∙ first_expr da t

pub first_slots : {w : Wanted} {ss : List Slot} {ps : List Piece} {l m : Loc} {us : List Token} {next : Token} → SpellsSlots (Expr_ w ∷ ss) ps l m us next → opens (first us next) ≡ true
first_slots (Sentences.expr {te = te} {us = us} {next = next} fit de go d) = ap opens (first_append te us next) ∙ first_expr de (first us next)

pub first_stmt : {s : Stmt} {l : Loc} {ts : List Token} {next : Token} → Spells (AStmt s) l ts next → (u : Token) → starts (first ts u) ≡ true
first_stmt (Sentences.headed f t is d b) u = or_right (opens t) (is_some (statement t)) (ap is_some is)
first_stmt (Sentences.expression t none d b) u = or_left (opens t) (is_some (statement t)) (first_slots d)
first_stmt (Sentences.labelled t none d b) u = or_left (opens t) (is_some (statement t)) (first_slots d)
