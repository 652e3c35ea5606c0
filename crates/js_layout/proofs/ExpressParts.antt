-- The tokens of the parts of an expression, and the parts of a production.
use Rattle.std.proofs.Common.{◌≡◌, ℕ, ◌≤◌, Bool, List, [], ◌∷◌, ◌++◌, Option, Some, None, refl, sym, ap, subst, arith, append-nil}
use Rattle.std.proofs.lemmas.Bool.{le-leb}
use Rattle.js_terms.specs.declared.place.Loc.{Loc}
use Rattle.js_tree.specs.Plain.{Expr}
use Rattle.js_text.specs.Token.{Token, Kind}
use Rattle.js_reading.specs.Slots.{Level, Slot, Sign, Expr_, Piece, AnExpr}
use Rattle.js_reading.specs.declared.form.Form.{Form}
use Rattle.js_reading.specs.Spans.{through, first}
use Rattle.js_reading.specs.Productions.{slots, join, prefix}
use Rattle.js_reading.specs.Makes.{build, is_target, is_and_or, bare_in}
use Rattle.js_reading.specs.Sentences
use Rattle.js_reading.specs.Sentences.{Spells, SpellsSlots}
use Rattle.js_spelling.specs.Written.{Written}
use Rattle.js_layout.specs.Tokens.{begun}
use Rattle.js_layout.specs.Neat.{is_string}
use Rattle.js_layout.proofs.Follows.{Follows, last_line, split, Quiet}
use Rattle.js_layout.proofs.Spelt.{Traits, traits, name_in, standing, SpeltExpr}
use Rattle.js_layout.proofs.ExpressLevels.{not_continued}

-- ---- tokens

-- the tokens of two parts, whatever is shown of them
pub by_split : (P : List Token → Type 0) (line : Bool) (xs ys : List Written) (ts : List Token) → Follows line (xs ++ ys) ts →
    ((front rest : List Token) → Follows line xs front → Follows (last_line line xs) ys rest → P (front ++ rest)) → P ts
by_split P line xs ys ts h go = let s = split line xs ys ts h in subst P (sym s.are) (go s.front s.rest s.first s.then)

-- a token and those after it
pub by_token : (P : List Token → Type 0) (line : Bool) (w : Written) (ws : List Written) (ts : List Token) → Follows line (w ∷ ws) ts →
    ((t : Token) (rest : List Token) → t.kind ≡ w.kind → t.line_terminator_before ≡ line → Follows w.ends_line ws rest → P (t ∷ rest)) → P ts
by_token P line w ws [] h go = absurd h
by_token P line w ws (t ∷ ts) h go = go t ts h.0 h.1 h.2

-- the last token
pub by_last : (P : List Token → Type 0) (line : Bool) (w : Written) (ts : List Token) → Follows line (w ∷ []) ts → ((t : Token) → t.kind ≡ w.kind → t.line_terminator_before ≡ line → P (t ∷ [])) → P ts
by_last P line w [] h go = absurd h
by_last P line w (t ∷ []) h go = go t h.0 h.1
by_last P line w (t ∷ u ∷ ts) h go = absurd h.2

pub line_append : (line : Bool) (xs ys : List Written) → last_line line (xs ++ ys) ≡ last_line (last_line line xs) ys
line_append line [] ys = refl
line_append line (x ∷ xs) ys = line_append x.ends_line xs ys

pub line_begun : (l : Option Loc) (line : Bool) (ws : List Written) → last_line line (begun l ws) ≡ last_line line ws
line_begun None line ws = refl
line_begun (Some l) line [] = refl
line_begun (Some l) line (w ∷ ws) = refl

-- ---- traits

pub same_traits : (d e : Expr) → is_target d ≡ is_target e → is_and_or d ≡ is_and_or e → bare_in d ≡ bare_in e → is_string d ≡ is_string e → name_in d ≡ name_in e → traits d ≡ traits e
same_traits d e a b c f g = λ k. record { target = a k; mixed = b k; bare_in = c k; string = f k; name = g k }

pub same_target : {e : Expr} {ts : List Token} {next : Token} (s : SpeltExpr e ts next) → is_target s.tree ≡ is_target e
same_target s = ap (λ (t : Traits). t.target) s.traits

pub same_mixed : {e : Expr} {ts : List Token} {next : Token} (s : SpeltExpr e ts next) → is_and_or s.tree ≡ is_and_or e
same_mixed s = ap (λ (t : Traits). t.mixed) s.traits

pub same_bare : {e : Expr} {ts : List Token} {next : Token} (s : SpeltExpr e ts next) → bare_in s.tree ≡ bare_in e
same_bare s = ap (λ (t : Traits). t.bare_in) s.traits

-- ---- slots

-- an expression that the next token ends, before other slots
pub operand : {n : ℕ} {i : ℕ} {e : Expr} {ss : List Slot} {ps : List Piece} {l le m : Loc} {te us : List Token} {next : Token} → n ≤ i → Quiet n (first us next) → Spells (AnExpr i e) le te (first us next) →
    SpellsSlots ss ps le m us next → SpellsSlots (Expr_ (Level n) ∷ ss) (AnExpr i e ∷ ps) l m (te ++ us) next
operand {n = n} {i = i} {e = e} {us = us} {next = next} low quiet d more = Sentences.expr (le-leb n i low) d (not_continued (Level n) e (first us next) n (omega arith) quiet) more

-- the last one
pub last_operand : {n : ℕ} {i : ℕ} {e : Expr} {l le : Loc} {te : List Token} {next : Token} → n ≤ i → Quiet n next → Spells (AnExpr i e) le te next → SpellsSlots (Expr_ (Level n) ∷ []) (AnExpr i e ∷ []) l le te next
last_operand {n = n} {i = i} {e = e} {l = l} {le = le} {te = te} {next = next} low quiet d =
    subst (λ us. SpellsSlots (Expr_ (Level n) ∷ []) (AnExpr i e ∷ []) l le us next) (append-nil te) (operand {us = []} low quiet d Sentences.done)

-- two operands with a sign between them
pub between : (f : Form) (n m : ℕ) (k : Kind) (x y : Expr) (tx ty : List Token) (t next : Token) (sx : SpeltExpr x tx t) (sy : SpeltExpr y ty next) (j : ℕ) (e : Expr) → slots f ≡ Expr_ (Level n) ∷ Sign k ∷ Expr_ (Level m) ∷ [] → join t ≡ Some f → t.kind ≡ k →
    n ≤ standing x → m ≤ standing y → Quiet m next → build f (through sx.loc sy.loc) (AnExpr (standing x) sx.tree ∷ AnExpr (standing y) sy.tree ∷ []) ≡ Some (AnExpr j e) → Spells (AnExpr j e) (through sx.loc sy.loc) (tx ++ t ∷ ty) next
between f n m k x y tx ty t next sx sy j e are joins is low_x low_y quiet made =
    Sentences.joined f t joins are low_x sx.spells (Sentences.sign t is (last_operand low_y quiet sy.spells)) made

-- a sign with its operand
pub before : (f : Form) (n : ℕ) (k : Kind) (x : Expr) (tx : List Token) (t next : Token) (sx : SpeltExpr x tx next) (j : ℕ) (e : Expr) → slots f ≡ Sign k ∷ Expr_ (Level n) ∷ [] → prefix t ≡ Some f → t.kind ≡ k →
    n ≤ standing x → Quiet n next → build f (through t.loc sx.loc) (AnExpr (standing x) sx.tree ∷ []) ≡ Some (AnExpr j e) → Spells (AnExpr j e) (through t.loc sx.loc) (t ∷ tx) next
before f n k x tx t next sx j e are begins is low quiet made =
    Sentences.prefixed f t begins (subst (λ ss. SpellsSlots ss (AnExpr (standing x) sx.tree ∷ []) t.loc sx.loc (t ∷ tx) next) (sym are) (Sentences.sign t is (last_operand low quiet sx.spells))) made
