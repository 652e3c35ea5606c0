-- In every sentence each token may stand beside the next.
use Rattle.std.proofs.Common.{◌≡◌, Bool, true, false, List, [], ◌∷◌, ◌++◌, Some, refl, sym, subst}
use Rattle.std.proofs.lemmas.Bool.{true≢false, and_parts, or_left}
use Rattle.js_terms.specs.declared.place.Loc.{Loc}
use Rattle.js_tree.specs.Plain.{Expr, Exprs, Stmts}
use Rattle.js_text.specs.Token.{Token, Kind, TemplateMiddle, TemplateTail, End}
use Rattle.js_text.specs.Token as T
use Rattle.js_text.specs.declared.punctuator.Punctuator.{Punctuator}
use Rattle.js_text.specs.declared.punctuator.Punctuator.TheVariants as P
use Rattle.js_reading.specs.Spans.{first}
use Rattle.js_reading.specs.declared.class.Class.{Class}
use Rattle.js_reading.specs.declared.class.Class.TheVariants.{BoundName, AnyName}
use Rattle.js_reading.specs.declared.form.Form.TheVariants as form
use Rattle.js_reading.specs.Slots.{Slot, Expr_, Piece}
use Rattle.js_reading.specs.Productions.{piece_of}
use Rattle.js_reading.specs.Sentences
use Rattle.js_reading.specs.Sentences.{leaf_of, Spells, SpellsSlots, SpellsItems, SpellsStmts}
use Rattle.js_reading.proofs.sentences.Shapes.{first_append}
use Rattle.js_reading.proofs.sentences.Firsts.{opens, remade, first_slots}
use Rattle.js_spelling.specs.Tokens.{begins_operand, is_name, is_longest, may_follow, Beside, StandBeside}
use Rattle.js_spelling.specs.Laws.{SentencesStand}
use Rattle.js_spelling.proofs.Wants.{name_first, expr_first, wanted_after, follows, well_set, well_form, well_chosen}

-- ---- tokens that stand beside one another, up to the one that follows them

abbrev pub Linked : List Token → Token → Type 0
Linked [] next = Unit {0}
Linked (t ∷ ts) next = (may_follow t.kind (first ts next).kind ≡ true) × Linked ts next

linked_append : (ts us : List Token) (next : Token) → Linked ts (first us next) → Linked us next → Linked (ts ++ us) next
linked_append [] us next h k = k
linked_append (t ∷ ts) us next h k = (subst (λ x. may_follow t.kind x.kind ≡ true) (sym (first_append ts us next)) h.0, linked_append ts us next h.1 k)

beside : (t : Token) (ts : List Token) (next : Token) → Linked (t ∷ ts) next → Beside t (ts ++ next ∷ [])
beside t [] next h = (h.0, tt)
beside t (u ∷ ts) next h = (h.0, beside u ts next h.1)

stand : (ts : List Token) (next : Token) → Linked ts next → StandBeside (ts ++ next ∷ [])
stand [] next h = tt
stand (t ∷ ts) next h = beside t ts next h

-- ---- one token

-- a token with which an expression begins
operand_kind : (t : Token) (kind : Kind) → opens (remade t kind) ≡ true → begins_operand kind ≡ true
operand_kind t (T.Punctuator P.OpenParenthesis) h = refl
operand_kind t (T.Punctuator P.OpenBracket) h = refl
operand_kind t (T.Punctuator P.OpenBrace) h = refl
operand_kind t (T.Punctuator P.Increment) h = refl
operand_kind t (T.Punctuator P.Decrement) h = refl
operand_kind t (T.Punctuator P.Plus) h = refl
operand_kind t (T.Punctuator P.Minus) h = refl
operand_kind t (T.Punctuator P.Tilde) h = refl
operand_kind t (T.Punctuator P.Exclamation) h = refl
operand_kind t (T.Punctuator p) h = absurd (true≢false (sym h))
operand_kind t (TemplateMiddle w) h = absurd (true≢false (sym h))
operand_kind t (TemplateTail w) h = absurd (true≢false (sym h))
operand_kind t End h = absurd (true≢false (sym h))
operand_kind t kind h = refl

operand : (t : Token) → opens t ≡ true → begins_operand t.kind ≡ true
operand t h = operand_kind t t.kind h

-- after a token that is a whole expression, or a part of a template or a name, anything may stand
leaf_free : (kind next : Kind) (l : Loc) (e : Expr) → leaf_of kind l ≡ Some e → may_follow kind next ≡ true
leaf_free (T.Punctuator p) next l e h = absurd cc
leaf_free kind next l e h = refl

text_free : (c : Class) (kind next : Kind) (l : Loc) (p : Piece) → piece_of c kind l ≡ Some p → may_follow kind next ≡ true
text_free BoundName (T.Punctuator q) next l p h = absurd cc
text_free c (T.Punctuator q) next l p h = absurd cc
text_free c kind next l p h = refl

name_kind : (kind : Kind) (l : Loc) (p : Piece) → piece_of AnyName kind l ≡ Some p → is_name kind ≡ true
name_kind (T.Word w) l p h = refl
name_kind (T.EscapedWord w) l p h = refl
name_kind kind l p h = absurd cc

longest_free : (p : Punctuator) (next : Kind) → is_longest p ≡ true → may_follow (T.Punctuator p) next ≡ true
longest_free P.Dot next h = absurd (true≢false (sym h))
longest_free P.OptionalChain next h = absurd (true≢false (sym h))
longest_free p next h = or_left (is_longest p) (begins_operand next) h

-- ---- what stands first in slots

first_name : {ss : List Slot} {ps : List Piece} {l m : Loc} {us : List Token} {next : Token} → SpellsSlots ss ps l m us next → name_first ss ≡ true → is_name (first us next).kind ≡ true
first_name (Sentences.text {c = AnyName} {p = p} t is d) h = name_kind t.kind t.loc p is
first_name d h = absurd (true≢false (sym h))

first_operand : (ss : List Slot) {ps : List Piece} {l m : Loc} {us : List Token} {next : Token} → SpellsSlots ss ps l m us next → expr_first ss ≡ true → begins_operand (first us next).kind ≡ true
first_operand (Expr_ w ∷ ss) {us = us} {next = next} d h = operand (first us next) (first_slots d)
first_operand ss d h = absurd (true≢false (sym h))

-- the token of a slot, before those of the slots after it
slot_follows : {ss : List Slot} {ps : List Piece} {l m : Loc} {us : List Token} {next : Token} (t : Token) (k : Kind) → t.kind ≡ k → SpellsSlots ss ps l m us next → wanted_after k ss ≡ true → may_follow t.kind (first us next).kind ≡ true
slot_follows {ss = ss} {us = us} {next = next} t k is d h = subst (λ x. may_follow x (first us next).kind ≡ true) (sym is) (follows k (first us next).kind ss (first_name d) (first_operand ss d) h)

-- ---- sentences

mutual
  spelled_linked : {p : Piece} {l : Loc} {ts : List Token} {next : Token} → Spells p l ts next → Linked ts next
  spelled_linked (Sentences.leaf {e = e} {next = next} t none is) = (leaf_free t.kind next.kind t.loc e is, tt)
  spelled_linked (Sentences.prefixed f t is d made) = slots_linked d (well_form f)
  spelled_linked (Sentences.headed f t is d made) = slots_linked d (well_form f)
  spelled_linked (Sentences.joined f {ta = ta} {ts = ts} {next = next} t is are low da d made) =
      linked_append ta (t ∷ ts) next (spelled_linked da) (slots_linked d (subst (λ x. well_set x ≡ true) are (well_form f)))
  spelled_linked (Sentences.expression t none d made) = slots_linked d (well_form form.Expression)
  spelled_linked (Sentences.labelled t none d made) = slots_linked d (well_form form.Labelled)

  slots_linked : {ss : List Slot} {ps : List Piece} {l m : Loc} {us : List Token} {next : Token} → SpellsSlots ss ps l m us next → well_set ss ≡ true → Linked us next
  slots_linked Sentences.done h = tt
  slots_linked (Sentences.sign {k = k} {ss = ss} t is d) h = let a = and_parts (wanted_after k ss) (well_set ss) h in (slot_follows t k is d a.0, slots_linked d a.1)
  slots_linked (Sentences.text {c = c} {p = p} {us = us} {next = next} t is d) h = (text_free c t.kind (first us next).kind t.loc p is, slots_linked d h)
  slots_linked (Sentences.expr {te = te} {us = us} {next = next} fit de go d) h = linked_append te us next (spelled_linked de) (slots_linked d h)
  slots_linked (Sentences.stmt {ts = ts} {us = us} {next = next} none ds d) h = linked_append ts us next (spelled_linked ds) (slots_linked d h)
  slots_linked (Sentences.stmts {ts = ts} {us = us} {next = next} ds closed d) h = linked_append ts us next (stmts_linked ds) (slots_linked d h)
  slots_linked (Sentences.items {p = p} {ss = ss} {ts = ts} {us = us} {next = next} t ds is d) h =
      let a = and_parts (is_longest p) (well_set ss) h in
      linked_append ts (t ∷ us) next (items_linked ds) (subst (λ x. may_follow x (first us next).kind ≡ true) (sym is) (longest_free p (first us next).kind a.0), slots_linked d a.1)
  slots_linked (Sentences.place d) h = slots_linked d h
  slots_linked (Sentences.passed is d) h = slots_linked d h
  slots_linked (Sentences.chosen {c = c} {qs = qs} {s = s} {rs = rs} {ss = ss} {us = us} {next = next} is d) h = slots_linked d (well_chosen c (first us next) qs s rs ss is h)

  items_linked : {b : Bool} {xs : Exprs} {ts : List Token} {next : Token} → SpellsItems b xs ts next → Linked ts next
  items_linked Sentences.no_item = tt
  items_linked (Sentences.last_item high d end) = spelled_linked d
  items_linked (Sentences.more_items {ts = ts} {us = us} {next = next} comma high d is ds) =
      linked_append ts (comma ∷ us) next (spelled_linked d) (subst (λ x. may_follow x (first us next).kind ≡ true) (sym is) refl, items_linked ds)

  stmts_linked : {xs : Stmts} {l m : Loc} {ts : List Token} {next : Token} → SpellsStmts xs l m ts next → Linked ts next
  stmts_linked Sentences.no_statement = tt
  stmts_linked (Sentences.more_statements {ts = ts} {us = us} {next = next} d ds) = linked_append ts us next (spelled_linked d) (stmts_linked ds)

pub sentences_stand : SentencesStand
sentences_stand tree tokens (Sentences.file {ts = ts} end is d none) = stand ts end (stmts_linked d)
