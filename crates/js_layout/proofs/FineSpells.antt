-- All that tokens spell can be printed, but that a name may be `let`: by induction over the sentence.
use Rattle.std.proofs.Common.{◌≡◌, Bool, true, false, ◌&&◌, List, [], ◌∷◌, ◌++◌, Some, codes, if◌then◌else◌, refl, sym, subst, ◌∙◌}
use Rattle.std.specs.Prelude.{◌||◌}
use Rattle.std.proofs.lemmas.Bool.{true≢false, and_parts}
use Rattle.js_terms.specs.declared.place.Loc.{Loc}
use Rattle.js_tree.specs.Plain.{Exprs, Stmt, Stmts, File, MakeFile}
use Rattle.js_tree.specs.Plain as tree
use Rattle.js_text.specs.Token.{Token}
use Rattle.js_reading.specs.Spans.{first, through}
use Rattle.js_reading.specs.declared.class.Class.{Class}
use Rattle.js_reading.specs.declared.class.Class.TheVariants.{BoundName, AnyName, Key, FirstText, LaterText}
use Rattle.js_reading.specs.declared.choice.Choice.{Choice}
use Rattle.js_reading.specs.declared.choice.Choice.TheVariants as choice
use Rattle.js_reading.specs.declared.form.Form.{Form}
use Rattle.js_reading.specs.declared.form.Form.TheVariants as form
use Rattle.js_reading.specs.Slots.{Wanted, Level, Slot, Text, Expr_, Stmt_, By, Piece, AnExpr, AStmt, AKind, Missing, IsComputed, IsMethod, IsIn, IsOf, Branch, Pass, Go}
use Rattle.js_reading.specs.Productions.{word, is_word, slots}
use Rattle.js_reading.specs.Choices.{branch}
use Rattle.js_reading.specs.Makes.{with_directives}
use Rattle.js_reading.specs.Outside.{this_stmts}
use Rattle.js_reading.specs.Sentences.{Spells, SpellsSlots, SpellsItems, SpellsStmts, Sentence}
use Rattle.js_reading.specs.Sentences
use Rattle.js_reading.proofs.sentences.Branches.{branches, each, among}
use Rattle.js_spelling.specs.Laws.{AreOnes}
use Rattle.js_layout.specs.Printable.{ends_open}
use Rattle.js_layout.proofs.Fine.{FineExprs, FineStmts, FinePieces, FineMade}
use Rattle.js_layout.proofs.FineParts.{directives_fine}
use Rattle.js_layout.proofs.FineMade.{IfClosed, Special, is_dot, fine_made}
use Rattle.js_layout.proofs.FineTokens.{first_ones, last_ones, FineLeaf, leaf_fine, takes_any, FinePieceIf, piece_fine}
use Rattle.js_layout.proofs.FineTexts.{template_texts, word_after, for_word}
use Rattle.js_layout.proofs.FineOpen.{spelled_closed}

-- ---- an `if` before `else`

closed_before : (s : Stmt) (p : Piece) (ps : List Piece) → ends_open s ≡ false → IfClosed (p ∷ AStmt s ∷ ps)
closed_before s p (AStmt r ∷ ps) h = h
closed_before s p [] h = tt
closed_before s p (q ∷ ps) h = tt

-- where no `else` stands, nothing is taken for it
abbrev none_taken : Branch → Bool
none_taken (Pass (Missing ∷ [])) = true
none_taken b = false

else_none : (t : Token) → is_word (codes "else") t ≡ false → none_taken (branch choice.Else t) ≡ true
else_none t h = by_test (is_word (codes "else") t) h
  where
    by_test : (b : Bool) → b ≡ false → none_taken (if b then Go [] (word (codes "else")) (Stmt_ ∷ []) else Pass (Missing ∷ [])) ≡ true
    by_test false e = refl
    by_test true e = absurd (true≢false e)

missing_closed : (s : Stmt) (p : Piece) (qs ps : List Piece) → none_taken (Pass qs) ≡ true → IfClosed (p ∷ AStmt s ∷ (qs ++ ps))
missing_closed s p (Missing ∷ []) ps h = tt
missing_closed s p qs ps h = absurd (true≢false (sym h))

without_else : {ps : List Piece} {l m : Loc} {us : List Token} {next : Token} (s : Stmt) (p : Piece) → is_word (codes "else") (first us next) ≡ false → SpellsSlots (By choice.Else ∷ []) ps l m us next → IfClosed (p ∷ AStmt s ∷ ps)
without_else s p h (Sentences.passed {qs = qs} {ps = ps} {us = us} {next = next} is d) = missing_closed s p qs ps (subst (λ (b : Branch). none_taken b ≡ true) is (else_none (first us next) h))
without_else s p h (Sentences.chosen {us = us} {next = next} is d) = absurd (true≢false (sym (subst (λ (b : Branch). none_taken b ≡ true) is (else_none (first us next) h))))

if_closed : {ps : List Piece} {l m : Loc} {ts : List Token} {next : Token} → SpellsSlots (slots form.If) ps l m ts next → IfClosed ps
if_closed (Sentences.sign t a (Sentences.sign u b (Sentences.expr {i = i} {e = e} fit de go (Sentences.sign v c (Sentences.stmt {s = s} {ps = ps} {us = us} {next = next} none ds d))))) = by_else (is_word (codes "else") (first us next)) refl
  where
    by_else : (b : Bool) → is_word (codes "else") (first us next) ≡ b → IfClosed (AnExpr i e ∷ AStmt s ∷ ps)
    by_else true q = closed_before s (AnExpr i e) ps (spelled_closed ds q)
    by_else false q = without_else s (AnExpr i e) q d

-- ---- what the parts of a production say beside

special_fine : (f : Form) {ps : List Piece} {l m : Loc} {ts : List Token} {next : Token} → SpellsSlots (slots f) ps l m ts next → AreOnes ts → Special f ps
special_fine form.Template d h = template_texts d h
special_fine form.If d h = if_closed d
special_fine (form.Variables k) d h = word_after d
special_fine form.For d h = for_word d
special_fine f d h = tt

-- none of these begins with an expression
special_joined : (f : Form) (w : Wanted) (ss : List Slot) (ps : List Piece) → slots f ≡ Expr_ w ∷ ss → Special f ps
special_joined form.Template w ss ps e = absurd cc
special_joined form.If w ss ps e = absurd cc
special_joined (form.Variables k) w ss ps e = absurd cc
special_joined form.For w ss ps e = absurd cc
special_joined f w ss ps e = tt

-- ---- where any word may stand: behind a dot alone

abbrev named : List Slot → Bool
named [] = true
named (Text AnyName ∷ ss) = false
named (s ∷ ss) = named ss

form_named : (f : Form) → (is_dot f || named (slots f)) ≡ true
form_named form.Dot = refl
form_named f = refl

named_append : (any : Bool) (rs ss : List Slot) → named rs ≡ true → (any || named ss) ≡ true → (any || named (rs ++ ss)) ≡ true
named_append true rs ss h k = refl
named_append false [] ss h k = k
named_append false (Text AnyName ∷ rs) ss h k = absurd (true≢false (sym h))
named_append false (Text BoundName ∷ rs) ss h k = named_append false rs ss h k
named_append false (Text Key ∷ rs) ss h k = named_append false rs ss h k
named_append false (Text FirstText ∷ rs) ss h k = named_append false rs ss h k
named_append false (Text LaterText ∷ rs) ss h k = named_append false rs ss h k
named_append false (r ∷ rs) ss h k = named_append false rs ss h k

class_named : (any : Bool) (c : Class) (ss : List Slot) → (any || named (Text c ∷ ss)) ≡ true → takes_any c ≡ true → any ≡ true
class_named true c ss h e = refl
class_named false AnyName ss h e = h
class_named false c ss h e = absurd (true≢false (sym e))

rest_named : (any : Bool) (c : Class) (ss : List Slot) → (any || named (Text c ∷ ss)) ≡ true → (any || named ss) ≡ true
rest_named true c ss h = refl
rest_named false AnyName ss h = absurd (true≢false (sym h))
rest_named false c ss h = h

-- ---- what a choice leaves, and what it leads to

abbrev is_sign : Piece → Bool
is_sign (AKind k) = true
is_sign Missing = true
is_sign IsComputed = true
is_sign IsMethod = true
is_sign IsIn = true
is_sign IsOf = true
is_sign p = false

abbrev are_signs : List Piece → Bool
are_signs [] = true
are_signs (p ∷ ps) = is_sign p && are_signs ps

abbrev right_branch : Branch → Bool
right_branch (Pass qs) = are_signs qs
right_branch (Go qs s rs) = are_signs qs && named (s ∷ rs)
right_branch b = true

right_branches : (c : Choice) → each right_branch (branches c) ≡ true
right_branches choice.Semicolon = refl
right_branches c = refl

then_pieces : (any : Bool) (qs ps : List Piece) → are_signs qs ≡ true → FinePieces any ps → FinePieces any (qs ++ ps)
then_pieces any [] ps is h = h
then_pieces any (AKind k ∷ qs) ps is h = (tt, then_pieces any qs ps is h)
then_pieces any (Missing ∷ qs) ps is h = (tt, then_pieces any qs ps is h)
then_pieces any (IsComputed ∷ qs) ps is h = (tt, then_pieces any qs ps is h)
then_pieces any (IsMethod ∷ qs) ps is h = (tt, then_pieces any qs ps is h)
then_pieces any (IsIn ∷ qs) ps is h = (tt, then_pieces any qs ps is h)
then_pieces any (IsOf ∷ qs) ps is h = (tt, then_pieces any qs ps is h)
then_pieces any (q ∷ qs) ps is h = absurd cc

passed_right : (c : Choice) (t : Token) (qs : List Piece) → branch c t ≡ Pass qs → are_signs qs ≡ true
passed_right c t qs h = subst (λ (b : Branch). right_branch b ≡ true) h (among c t right_branch (right_branches c))

chosen_right : (c : Choice) (t : Token) (qs : List Piece) (s : Slot) (rs : List Slot) → branch c t ≡ Go qs s rs → (are_signs qs ≡ true) × (named (s ∷ rs) ≡ true)
chosen_right c t qs s rs h = and_parts (are_signs qs) (named (s ∷ rs)) (subst (λ (b : Branch). right_branch b ≡ true) h (among c t right_branch (right_branches c)))

-- ---- sentences

mutual
  spelled_fine : {p : Piece} {l : Loc} {ts : List Token} {next : Token} → Spells p l ts next → AreOnes ts → FineMade (Some p)
  spelled_fine (Sentences.leaf t none is) h = subst FineLeaf is (leaf_fine t.kind t.loc h.0)
  spelled_fine (Sentences.prefixed f {ps = ps} {l = l} t is d made) h = subst FineMade made (fine_made f (through t.loc l) ps (slots_fine (is_dot f) d (form_named f) h) (special_fine f d h))
  spelled_fine (Sentences.headed f {ps = ps} {l = l} t is d made) h = subst FineMade made (fine_made f (through t.loc l) ps (slots_fine (is_dot f) d (form_named f) h) (special_fine f d h))
  spelled_fine (Sentences.joined f {n = n} {ss = ss} {ps = ps} {i = i} {a = a} {la = la} {l = l} {ta = ta} {ts = ts} t is are low da d made) h =
      let named_rest : (is_dot f || named ss) ≡ true = subst (λ (xs : List Slot). (is_dot f || named xs) ≡ true) are (form_named f) in
      subst FineMade made (fine_made f (through la l) (AnExpr i a ∷ ps) (spelled_fine da (first_ones ta (t ∷ ts) h), slots_fine (is_dot f) d named_rest (last_ones ta (t ∷ ts) h)) (special_joined f (Level n) ss (AnExpr i a ∷ ps) are))
  spelled_fine (Sentences.expression {ps = ps} {l = l} t none d made) h = subst FineMade made (fine_made form.Expression (through t.loc l) ps (slots_fine false d refl h) tt)
  spelled_fine (Sentences.labelled {ps = ps} {l = l} t none d made) h = subst FineMade made (fine_made form.Labelled (through t.loc l) ps (slots_fine false d refl h) tt)

  slots_fine : (any : Bool) {ss : List Slot} {ps : List Piece} {l m : Loc} {us : List Token} {next : Token} → SpellsSlots ss ps l m us next → (any || named ss) ≡ true → AreOnes us → FinePieces any ps
  slots_fine any Sentences.done e h = tt
  slots_fine any (Sentences.sign t is d) e h = slots_fine any d e h.1
  slots_fine any (Sentences.text {c = c} {ss = ss} t is d) e h = (subst (FinePieceIf any) is (piece_fine any c t.kind t.loc (class_named any c ss e) h.0), slots_fine any d (rest_named any c ss e) h.1)
  slots_fine any (Sentences.expr {te = te} {us = us} fit de go d) e h = (spelled_fine de (first_ones te us h), slots_fine any d e (last_ones te us h))
  slots_fine any (Sentences.stmt {ts = ts} {us = us} none ds d) e h = ((spelled_fine ds (first_ones ts us h), none), slots_fine any d e (last_ones ts us h))
  slots_fine any (Sentences.stmts {ts = ts} {us = us} ds closed d) e h = (stmts_fine ds (first_ones ts us h), slots_fine any d e (last_ones ts us h))
  slots_fine any (Sentences.items {ts = ts} {us = us} t ds is d) e h = (items_fine ds (first_ones ts (t ∷ us) h), slots_fine any d e (last_ones ts (t ∷ us) h).1)
  slots_fine any (Sentences.place d) e h = (tt, slots_fine any d e h)
  slots_fine any (Sentences.passed {c = c} {qs = qs} {ps = ps} is d) e h = then_pieces any qs ps (passed_right c _ qs is) (slots_fine any d e h)
  slots_fine any (Sentences.chosen {c = c} {qs = qs} {s = s} {rs = rs} {ss = ss} {ps = ps} is d) e h =
      let right = chosen_right c _ qs s rs is in then_pieces any qs ps right.0 (slots_fine any d (named_append any (s ∷ rs) ss right.1 e) h)

  items_fine : {b : Bool} {xs : Exprs} {ts : List Token} {next : Token} → SpellsItems b xs ts next → AreOnes ts → FineExprs xs
  items_fine Sentences.no_item h = tt
  items_fine (Sentences.last_item high d end) h = (spelled_fine d h, tt)
  items_fine (Sentences.more_items {ts = ts} {us = us} comma high d is ds) h = (spelled_fine d (first_ones ts (comma ∷ us) h), items_fine ds (last_ones ts (comma ∷ us) h).1)

  stmts_fine : {xs : Stmts} {l m : Loc} {ts : List Token} {next : Token} → SpellsStmts xs l m ts next → AreOnes ts → FineStmts false xs
  stmts_fine Sentences.no_statement h = tt
  stmts_fine (Sentences.more_statements {ts = ts} {us = us} d ds) h = (spelled_fine d (first_ones ts us h), stmts_fine ds (last_ones ts us h))

-- ---- a file

-- `this` is not moved by directives
this_first : (s : Stmt) (ss : Stmts) → this_stmts (with_directives ss) ≡ this_stmts ss → this_stmts (with_directives (tree.more_stmt s ss)) ≡ this_stmts (tree.more_stmt s ss)
this_first (tree.Expression l (tree.StringLiteral m w)) ss h = h
this_first s ss h = refl

this_directives : (ss : Stmts) → this_stmts (with_directives ss) ≡ this_stmts ss
this_directives tree.no_stmt = refl
this_directives (tree.more_stmt s ss) = this_first s ss (this_directives ss)

abbrev pub FineFile : File → Type 0
FineFile (MakeFile ss comments) = FineStmts true ss × (this_stmts ss ≡ false)

pub sentence_fine : {file : File} {tokens : List Token} → Sentence file tokens → AreOnes tokens → FineFile file
sentence_fine (Sentences.file {ss = ss} {ts = ts} end is d none) h = (directives_fine ss (stmts_fine d (first_ones ts (end ∷ []) h)), this_directives ss ∙ none)
