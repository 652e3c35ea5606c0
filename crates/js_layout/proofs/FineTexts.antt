-- The texts of a template are its head, parts in the middle, and its tail, each a token; and where declarations have a word.
use Rattle.std.proofs.Common.{◌≡◌, ℕ, Bool, true, false, not, List, [], ◌∷◌, ◌++◌, Option, Some, None, if◌then◌else◌, refl, sym, ap, subst}
use Rattle.std.proofs.lemmas.Bool.{true≢false}
use Rattle.js_terms.specs.declared.place.Loc.{Loc}
use Rattle.js_text.specs.Token.{Kind, TemplateHead, TemplateMiddle, TemplateTail, Token}
use Rattle.js_reading.specs.Spans.{first}
use Rattle.js_reading.specs.Level.{any}
use Rattle.js_reading.specs.declared.class.Class.TheVariants.{BoundName, FirstText, LaterText}
use Rattle.js_reading.specs.declared.choice.Choice.TheVariants as choice
use Rattle.js_reading.specs.declared.form.Form.TheVariants as form
use Rattle.js_reading.specs.Slots.{Level, Slot, Sign, Text, Expr_, By, Piece, AWord, AText, AKind, Missing, Branch, Refuse, Pass, Go}
use Rattle.js_reading.specs.Productions.{bound_name, word_piece, piece_of, text_of, slots}
use Rattle.js_reading.specs.Choices.{is_middle, branch}
use Rattle.js_reading.specs.Sentences.{SpellsSlots}
use Rattle.js_reading.specs.Sentences
use Rattle.js_reading.proofs.sentences.Branches.{among}
use Rattle.js_spelling.specs.Laws.{IsOne, AreOnes}
use Rattle.js_layout.proofs.FineParts.{RightTexts, TemplateTexts, begins_word}
use Rattle.js_layout.proofs.FineMade.{KindWord}
use Rattle.js_layout.proofs.FineTokens.{last_ones}

-- ---- a text, by its token

tail_text : (k : Kind) (l : Loc) (p : Piece) → IsOne k → piece_of LaterText k l ≡ Some p → not (is_middle k) ≡ true → RightTexts (p ∷ [])
tail_text (TemplateTail w) l p one e h = let is : AText (text_of w) ≡ p = cc in subst (λ (z : Piece). RightTexts (z ∷ [])) is (record { token = one refl; units = refl })
tail_text (TemplateMiddle w) l p one e h = absurd (true≢false (sym h))
tail_text k l p one e h = absurd cc

middle_text : (k : Kind) (l : Loc) (p q : Piece) (ps : List Piece) → IsOne k → piece_of LaterText k l ≡ Some p → is_middle k ≡ true → RightTexts (q ∷ ps) → RightTexts (p ∷ q ∷ ps)
middle_text (TemplateMiddle w) l p q ps one e h rest = let is : AText (text_of w) ≡ p = cc in subst (λ (z : Piece). RightTexts (z ∷ q ∷ ps)) is (record { token = one refl; units = refl }, rest)
middle_text k l p q ps one e h rest = absurd (true≢false (sym h))

head_text : (k : Kind) (l : Loc) (p q : Piece) (ps : List Piece) → IsOne k → piece_of FirstText k l ≡ Some p → RightTexts (q ∷ ps) → TemplateTexts (p ∷ q ∷ ps)
head_text (TemplateHead w) l p q ps one e rest = let is : AText (text_of w) ≡ p = cc in subst (λ (z : Piece). TemplateTexts (z ∷ q ∷ ps)) is (record { token = one refl; units = refl }, rest)
head_text k l p q ps one e rest = absurd cc

-- ---- the parts after the first

-- what is left of a template's parts, before a token of this kind
abbrev suited : List Slot → Kind → Bool
suited [] k = true
suited (Text LaterText ∷ []) k = not (is_middle k)
suited (Text LaterText ∷ Expr_ w ∷ By choice.TemplateRest ∷ []) k = is_middle k
suited (Expr_ w ∷ By choice.TemplateRest ∷ []) k = true
suited (By choice.TemplateRest ∷ []) k = true
suited ss k = false

abbrev Suits : Kind → Branch → Type 0
Suits k (Go qs s rs) = (qs ≡ []) × (suited (s ∷ (rs ++ [])) k ≡ true)
Suits k (Pass qs) = ⊥
Suits k Refuse = ⊥

rest_suits : (t : Token) → Suits t.kind (branch choice.TemplateRest t)
rest_suits t = by_kind (is_middle t.kind) refl
  where
    by_kind : (b : Bool) → is_middle t.kind ≡ b → Suits t.kind (if b then Go [] (Text LaterText) (Expr_ (Level any) ∷ By choice.TemplateRest ∷ []) else Go [] (Text LaterText) [])
    by_kind true e = (refl, e)
    by_kind false e = (refl, ap not e)

texts_right : {ss : List Slot} {ps : List Piece} {l m : Loc} {us : List Token} {next : Token} → SpellsSlots ss ps l m us next → suited ss (first us next).kind ≡ true → AreOnes us → RightTexts ps
texts_right Sentences.done e h = tt
texts_right (Sentences.text {c = LaterText} {ss = []} t is Sentences.done) e h = tail_text t.kind t.loc _ h.0 is e
texts_right (Sentences.text {c = LaterText} {ss = Expr_ w ∷ By choice.TemplateRest ∷ []} t is (Sentences.expr {te = te} {us = us} fit de go d)) e h =
    middle_text t.kind t.loc _ _ _ h.0 is e (texts_right d refl (last_ones te us h.1))
texts_right (Sentences.expr {ss = By choice.TemplateRest ∷ []} {te = te} {us = us} fit de go d) e h = texts_right d refl (last_ones te us h)
texts_right (Sentences.passed {c = choice.TemplateRest} {ss = []} {us = us} {next = next} is d) e h = absurd (subst (Suits (first us next).kind) is (rest_suits (first us next)))
texts_right (Sentences.chosen {c = choice.TemplateRest} {qs = qs} {ss = []} {ps = ps} {us = us} {next = next} is d) e h =
    let r = subst (Suits (first us next).kind) is (rest_suits (first us next)) in subst (λ (zs : List Piece). RightTexts (zs ++ ps)) (sym r.0) (texts_right d r.1 h)
texts_right d e h = absurd (true≢false (sym e))

pub template_texts : {ps : List Piece} {l m : Loc} {ts : List Token} {next : Token} → SpellsSlots (slots form.Template) ps l m ts next → AreOnes ts → TemplateTexts ps
template_texts (Sentences.text t is (Sentences.expr {te = te} {us = us} fit de go d)) h = head_text t.kind t.loc _ _ _ h.0 is (texts_right d refl (last_ones te us h.1))

-- ---- the word of a declaration

word_begins : (l : Loc) (o : Option (List ℕ)) (p : Piece) (ps : List Piece) → word_piece l o ≡ Some p → begins_word (p ∷ ps) ≡ true
word_begins l None p ps e = absurd cc
word_begins l (Some w) p ps e = let is : AWord w l ≡ p = cc in subst (λ (z : Piece). begins_word (z ∷ ps) ≡ true) is refl

-- behind a token of its own
pub word_after : {j : Kind} {ss : List Slot} {ps : List Piece} {l m : Loc} {us : List Token} {next : Token} → SpellsSlots (Sign j ∷ Text BoundName ∷ ss) ps l m us next → begins_word ps ≡ true
word_after (Sentences.sign t is (Sentences.text {ps = ps} u k d)) = word_begins u.loc (bound_name u.kind) _ ps k

-- a kind of declaration stands before a word and a name
abbrev kind_named : Branch → Bool
kind_named (Go [] (Expr_ w) rs) = true
kind_named (Go (AKind k ∷ []) (Sign j) (Text BoundName ∷ rs)) = true
kind_named (Go (Missing ∷ []) s rs) = true
kind_named b = false

head_named : {ps : List Piece} {l m : Loc} {us : List Token} {next : Token} (qs : List Piece) (s : Slot) (rs : List Slot) → kind_named (Go qs s rs) ≡ true → SpellsSlots (s ∷ (rs ++ [])) ps l m us next → KindWord (qs ++ ps)
head_named [] (Expr_ w) rs e (Sentences.expr fit de go d) = tt
head_named (AKind k ∷ []) (Sign j) (Text BoundName ∷ rs) e d = word_after d
head_named (Missing ∷ []) s rs e d = tt
head_named qs s rs e d = absurd (true≢false (sym e))

pub for_word : {ps : List Piece} {l m : Loc} {ts : List Token} {next : Token} → SpellsSlots (slots form.For) ps l m ts next → KindWord ps
for_word (Sentences.sign t is (Sentences.sign u k (Sentences.passed {us = us} {next = next} e d))) = absurd (true≢false (sym (subst (λ (b : Branch). kind_named b ≡ true) e (among choice.Head (first us next) kind_named refl))))
for_word (Sentences.sign t is (Sentences.sign u k (Sentences.chosen {qs = qs} {s = s} {rs = rs} {us = us} {next = next} e d))) =
    head_named qs s rs (subst (λ (b : Branch). kind_named b ≡ true) e (among choice.Head (first us next) kind_named refl)) d
