-- What is counted in the tree of a text stands at low lines and columns: its tokens do, and so does all that is made of them.
use Rattle.std.proofs.Common.{◌≡◌, ℕ, ◌+◌, ◌<◌, ◌^◌, Bool, true, false, ◌&&◌, List, [], ◌∷◌, ◌++◌, Option, Some, None, codes, if◌then◌else◌, refl, subst, arith}
use Rattle.std.specs.Option.{option_map}
use Rattle.std.specs.Str.{bytes_eq}
use Rattle.std.specs.Prelude.{sum_by}
use Rattle.js_terms.specs.declared.place.Loc.{Loc}
use Rattle.js_terms.specs.declared.construct.Construct.{Construct}
use Rattle.js_terms.specs.declared.construct.Construct.TheVariants as construct
use Rattle.js_tree.specs.Plain.{Expr, Exprs, Stmts, File, MakeFile}
use Rattle.js_tree.specs.Plain as tree
use Rattle.js_walk.specs.Walk.{walk_file, within_stmts}
use Rattle.js_tree.specs.Hints.{heed_comments}
use Rattle.js_walk.specs.Constructs.{own_construct as own_left, tell, told, constructs_file, all_named}
use Rattle.js_reading.proofs.placed.Unhinted.{own_construct, chained_in, constructs_stmt}
use Rattle.js_bounds.proofs.LeftLow.{in_stmts_left}
use Rattle.js_text.specs.Place.{Place}
use Rattle.js_text.specs.Position.{utf16_units, lines_ended, line_so_far, saturated, position_of}
use Rattle.js_text.specs.declared.goal.Goal.{Goal}
use Rattle.js_text.specs.declared.goal.Goal.TheVariants as goal
use Rattle.js_text.specs.Token.{Kind, Word, EscapedWord, Numeral, StringLiteral, NoSubstitutionTemplate, RegularExpression, TemplateHead, TemplateMiddle, TemplateTail, Token}
use Rattle.js_text.specs.Lex.{token_after, token_of, token_place, moved, next_token}
use Rattle.js_reading.specs.Spans.{through}
use Rattle.js_bounds.specs.Bounds.{IsLowPos, IsLow, AreLow}
use Rattle.js_reading.specs.Slots.{Slot, Piece, AnExpr, AKind, Missing, IsComputed, IsMethod, IsIn, IsOf, Branch, Pass, Go}
use Rattle.js_reading.specs.declared.class.Class.{Class}
use Rattle.js_reading.specs.declared.class.Class.TheVariants.{BoundName, AnyName, Key, FirstText, LaterText}
use Rattle.js_reading.specs.declared.choice.Choice.{Choice}
use Rattle.js_reading.specs.declared.choice.Choice.TheVariants as choice
use Rattle.js_reading.specs.declared.form.Form.TheVariants as form
use Rattle.js_reading.specs.Productions.{word_piece, bound_name, piece_of}
use Rattle.js_reading.specs.Choices.{branch}
use Rattle.js_reading.specs.Sentences
use Rattle.js_reading.specs.Sentences.{named, of_word, body_and_flags, regular_expression, leaf_of, Spells, SpellsSlots, SpellsItems, SpellsStmts, Sentence}
use Rattle.js_reading.specs.Reads.{goal_of, after_gap_of, continued, next_for, Lexes, no_token, one_more, without_comments, Reads}
use Rattle.js_reading.proofs.sentences.Branches.{branches, each, among}
use Rattle.js_bounds.proofs.Low.{both, in_stmts, node, LowExpr, LowExprs, LowPiece, LowPieces, LowIf, directives_low, low_made}

-- ---- tokens

saturated_low : (n : ℕ) → saturated n < 2 ^ 32
saturated_low n = omega arith

position_low : (place : Place) → IsLowPos (position_of place)
position_low place = (saturated_low (1 + lines_ended place.before place.after), saturated_low (sum_by utf16_units (line_so_far place.before place.after)))

same_token : (t token : Token) (p after : Place) → (◌≡◌) {A = Option (Token × Place)} (Some (t, p)) (Some (token, after)) → IsLow t.loc → IsLow token.loc
same_token t token p after e h =
    let same : (◌≡◌) {A = Token × Place} (t, p) (token, after) = cc in
    subst (λ (z : Token × Place). IsLow z.0.loc) same h

token_low : (goal : Goal) (place : Place) (token : Token) (after : Place) → next_token goal place ≡ Some (token, after) → IsLow token.loc
token_low goal place token after e = by_kind (token_of goal (token_place goal place).after) e
  where
    by_kind : (found : Option (Kind × ℕ)) → option_map {U = Token × Place} (λ found. (token_after goal found.0 place (moved found.1 (token_place goal place)), moved found.1 (token_place goal place))) found ≡ Some (token, after) → IsLow token.loc
    by_kind None e = absurd cc
    by_kind (Some f) e = same_token (token_after goal f.0 place (moved f.1 (token_place goal place))) token (moved f.1 (token_place goal place)) after e (position_low _, position_low _)

-- a part of a template stands where it would after a gap
continued_low : (place : Place) (brace : Token × Place) (token : Token) (after : Place) → continued place (Some brace) ≡ Some (token, after) → IsLow token.loc
continued_low place brace token after e = by_part (next_token goal.Template (token_place goal.Div place)) refl e
  where
    by_part : (o : Option (Token × Place)) → next_token goal.Template (token_place goal.Div place) ≡ o → option_map (after_gap_of brace.0) o ≡ Some (token, after) → IsLow token.loc
    by_part None q e = absurd cc
    by_part (Some found) q e = same_token (after_gap_of brace.0 found).0 token found.1 after e (token_low goal.Template (token_place goal.Div place) found.0 found.1 q)

asked_low : (g : Goal) (place : Place) (token : Token) (after : Place) → next_for g place ≡ Some (token, after) → IsLow token.loc
asked_low goal.Template place token after e = by_brace (next_token goal.Div place) e
  where
    by_brace : (o : Option (Token × Place)) → continued place o ≡ Some (token, after) → IsLow token.loc
    by_brace None e = absurd cc
    by_brace (Some brace) e = continued_low place brace token after e
asked_low goal.Div place token after e = token_low goal.Div place token after e
asked_low goal.RegExp place token after e = token_low goal.RegExp place token after e

abbrev AreLowTokens : List Token → Type 0
AreLowTokens [] = Unit {0}
AreLowTokens (t ∷ ts) = IsLow t.loc × AreLowTokens ts

lexed_low : {place end : Place} {tokens : List Token} → Lexes place tokens end → AreLowTokens tokens
lexed_low no_token = tt
lexed_low (one_more {place = here} {between = after} {token = token} e rest) = (asked_low (goal_of token.kind) here token after e, lexed_low rest)

first_tokens : (ts us : List Token) → AreLowTokens (ts ++ us) → AreLowTokens ts
first_tokens [] us h = tt
first_tokens (t ∷ ts) us h = (h.0, first_tokens ts us h.1)

last_tokens : (ts us : List Token) → AreLowTokens (ts ++ us) → AreLowTokens us
last_tokens [] us h = h
last_tokens (t ∷ ts) us h = last_tokens ts us h.1

-- ---- what is one token

abbrev LowLeaf : Option Expr → Type 0
LowLeaf None = Unit {0}
LowLeaf (Some e) = LowExpr e

named_low : (l : Loc) (w : Option (List ℕ)) → IsLow l → LowLeaf (named l w)
named_low l None at = tt
named_low l (Some w) at = node at at (at, tt) tt (λ chained. tt)

regular_low : (l : Loc) (found : Option (List ℕ × List ℕ)) → IsLow l → LowLeaf (regular_expression l found)
regular_low l None at = tt
regular_low l (Some found) at = node at at (at, tt) tt (λ chained. tt)

word_low : (w : List ℕ) (k : Kind) (l : Loc) → IsLow l → LowLeaf (of_word w k l)
word_low w k l at = by_word (bytes_eq w (codes "this")) (bytes_eq w (codes "null")) (bytes_eq w (codes "true")) (bytes_eq w (codes "false"))
  where
    by_word : (is_this is_null is_true is_false : Bool) →
        LowLeaf (if is_this then Some (tree.This (Some l)) else (if is_null then Some (tree.NullLiteral (Some l)) else (if is_true then Some (tree.BooleanLiteral (Some l) true) else (if is_false then Some (tree.BooleanLiteral (Some l) false) else named l (bound_name k)))))
    by_word true _ _ _ = node at at (at, tt) tt (λ chained. tt)
    by_word false true _ _ = node at at (at, tt) tt (λ chained. tt)
    by_word false false true _ = node at at (at, tt) tt (λ chained. tt)
    by_word false false false true = node at at (at, tt) tt (λ chained. tt)
    by_word false false false false = named_low l (bound_name k) at

leaf_low : (k : Kind) (l : Loc) → IsLow l → LowLeaf (leaf_of k l)
leaf_low (Word w) l at = word_low w (Word w) l at
leaf_low (EscapedWord w) l at = named_low l (bound_name (EscapedWord w)) at
leaf_low (Numeral w) l at = node at at (at, tt) tt (λ chained. tt)
leaf_low (StringLiteral w) l at = node at at (at, tt) tt (λ chained. tt)
leaf_low (NoSubstitutionTemplate w) l at = node at at (at, tt) tt (λ chained. tt)
leaf_low (RegularExpression w) l at = regular_low l (body_and_flags w) at
leaf_low k l at = tt

word_piece_low : (l : Loc) (w : Option (List ℕ)) → IsLow l → LowIf (word_piece l w)
word_piece_low l None at = tt
word_piece_low l (Some w) at = at

piece_low : (c : Class) (k : Kind) (l : Loc) → IsLow l → LowIf (piece_of c k l)
piece_low BoundName k l at = word_piece_low l (bound_name k) at
piece_low AnyName (Word w) l at = at
piece_low AnyName (EscapedWord w) l at = at
piece_low Key (Word w) l at = (tt, at)
piece_low Key (EscapedWord w) l at = (tt, at)
piece_low Key (StringLiteral w) l at = (tt, at)
piece_low Key (Numeral w) l at = (tt, at)
piece_low FirstText (TemplateHead w) l at = tt
piece_low LaterText (TemplateMiddle w) l at = tt
piece_low LaterText (TemplateTail w) l at = tt
piece_low c k l at = tt

-- ---- what a choice leaves has no place

abbrev is_placeless : Piece → Bool
is_placeless (AKind k) = true
is_placeless Missing = true
is_placeless IsComputed = true
is_placeless IsMethod = true
is_placeless IsIn = true
is_placeless IsOf = true
is_placeless p = false

abbrev are_placeless : List Piece → Bool
are_placeless [] = true
are_placeless (p ∷ ps) = is_placeless p && are_placeless ps

abbrev is_placeless_branch : Branch → Bool
is_placeless_branch (Pass qs) = are_placeless qs
is_placeless_branch (Go qs s rs) = are_placeless qs
is_placeless_branch b = true

placeless_branches : (c : Choice) → each is_placeless_branch (branches c) ≡ true
placeless_branches choice.Semicolon = refl
placeless_branches c = refl

then_pieces : (qs ps : List Piece) → are_placeless qs ≡ true → LowPieces ps → LowPieces (qs ++ ps)
then_pieces [] ps is h = h
then_pieces (AKind k ∷ qs) ps is h = (tt, then_pieces qs ps is h)
then_pieces (Missing ∷ qs) ps is h = (tt, then_pieces qs ps is h)
then_pieces (IsComputed ∷ qs) ps is h = (tt, then_pieces qs ps is h)
then_pieces (IsMethod ∷ qs) ps is h = (tt, then_pieces qs ps is h)
then_pieces (IsIn ∷ qs) ps is h = (tt, then_pieces qs ps is h)
then_pieces (IsOf ∷ qs) ps is h = (tt, then_pieces qs ps is h)
then_pieces (q ∷ qs) ps is h = absurd cc

passed_placeless : (c : Choice) (t : Token) (qs : List Piece) → branch c t ≡ Pass qs → are_placeless qs ≡ true
passed_placeless c t qs h = subst (λ b. is_placeless_branch b ≡ true) h (among c t is_placeless_branch (placeless_branches c))

chosen_placeless : (c : Choice) (t : Token) (qs : List Piece) (s : Slot) (rs : List Slot) → branch c t ≡ Go qs s rs → are_placeless qs ≡ true
chosen_placeless c t qs s rs h = subst (λ b. is_placeless_branch b ≡ true) h (among c t is_placeless_branch (placeless_branches c))

-- ---- sentences

mutual
  spelled_low : {p : Piece} {l : Loc} {ts : List Token} {next : Token} → Spells p l ts next → AreLowTokens ts → IsLow l × LowPiece p
  spelled_low (Sentences.leaf t none is) h = (h.0, subst LowLeaf is (leaf_low t.kind t.loc h.0))
  spelled_low (Sentences.prefixed f {ps = ps} {l = l} t is d made) h =
      let parts = slots_low d h.0 h in
      let at : IsLow (through t.loc l) = (h.0.0, parts.0.1) in
      (at, subst LowIf made (low_made f (through t.loc l) ps at parts.1))
  spelled_low (Sentences.headed f {ps = ps} {l = l} t is d made) h =
      let parts = slots_low d h.0 h in
      let at : IsLow (through t.loc l) = (h.0.0, parts.0.1) in
      (at, subst LowIf made (low_made f (through t.loc l) ps at parts.1))
  spelled_low (Sentences.joined f {ps = ps} {i = i} {a = a} {la = la} {l = l} {ta = ta} {ts = ts} t is are low da d made) h =
      let left = spelled_low da (first_tokens ta (t ∷ ts) h) in
      let parts = slots_low d left.0 (last_tokens ta (t ∷ ts) h) in
      let at : IsLow (through la l) = (left.0.0, parts.0.1) in
      (at, subst LowIf made (low_made f (through la l) (AnExpr i a ∷ ps) at (left.1, parts.1)))
  spelled_low (Sentences.expression {ps = ps} {l = l} t none d made) h =
      let parts = slots_low d h.0 h in
      let at : IsLow (through t.loc l) = (h.0.0, parts.0.1) in
      (at, subst LowIf made (low_made form.Expression (through t.loc l) ps at parts.1))
  spelled_low (Sentences.labelled {ps = ps} {l = l} t none d made) h =
      let parts = slots_low d h.0 h in
      let at : IsLow (through t.loc l) = (h.0.0, parts.0.1) in
      (at, subst LowIf made (low_made form.Labelled (through t.loc l) ps at parts.1))

  slots_low : {ss : List Slot} {ps : List Piece} {l m : Loc} {us : List Token} {next : Token} → SpellsSlots ss ps l m us next → IsLow l → AreLowTokens us → IsLow m × LowPieces ps
  slots_low Sentences.done at h = (at, tt)
  slots_low (Sentences.sign t is d) at h = slots_low d h.0 h.1
  slots_low (Sentences.text {c = c} t is d) at h =
      let rest = slots_low d h.0 h.1 in
      (rest.0, (subst LowIf is (piece_low c t.kind t.loc h.0), rest.1))
  slots_low (Sentences.expr {te = te} {us = us} fit de go d) at h =
      let e = spelled_low de (first_tokens te us h) in
      let rest = slots_low d e.0 (last_tokens te us h) in
      (rest.0, (e.1, rest.1))
  slots_low (Sentences.stmt {ts = ts} {us = us} none ds d) at h =
      let s = spelled_low ds (first_tokens ts us h) in
      let rest = slots_low d s.0 (last_tokens ts us h) in
      (rest.0, (s.1, rest.1))
  slots_low (Sentences.stmts {ts = ts} {us = us} ds closed d) at h =
      let ss = stmts_low ds (first_tokens ts us h) in
      let rest = slots_low d (ss.0 at) (last_tokens ts us h) in
      (rest.0, (ss.1, rest.1))
  slots_low (Sentences.items {ts = ts} {us = us} t ds is d) at h =
      let after = last_tokens ts (t ∷ us) h in
      let rest = slots_low d after.0 after.1 in
      (rest.0, (items_low ds (first_tokens ts (t ∷ us) h), rest.1))
  slots_low (Sentences.place d) at h =
      let rest = slots_low d at h in
      (rest.0, (at, rest.1))
  slots_low (Sentences.passed {c = c} {qs = qs} {ps = ps} is d) at h =
      let rest = slots_low d at h in
      (rest.0, then_pieces qs ps (passed_placeless c _ qs is) rest.1)
  slots_low (Sentences.chosen {c = c} {qs = qs} {s = s} {rs = rs} {ps = ps} is d) at h =
      let rest = slots_low d at h in
      (rest.0, then_pieces qs ps (chosen_placeless c _ qs s rs is) rest.1)

  items_low : {b : Bool} {xs : Exprs} {ts : List Token} {next : Token} → SpellsItems b xs ts next → AreLowTokens ts → LowExprs xs
  items_low Sentences.no_item h = tt
  items_low (Sentences.last_item high d end) h = ((spelled_low d h).1, tt)
  items_low (Sentences.more_items {ts = ts} {us = us} comma high d is ds) h = ((spelled_low d (first_tokens ts (comma ∷ us) h)).1, items_low ds (last_tokens ts (comma ∷ us) h).1)

  stmts_low : {xs : Stmts} {l m : Loc} {ts : List Token} {next : Token} → SpellsStmts xs l m ts next → AreLowTokens ts → (IsLow l → IsLow m) × AreLow (in_stmts xs)
  stmts_low Sentences.no_statement h = (λ at. at, tt)
  stmts_low (Sentences.more_statements {s = s} {ss = ss} {ts = ts} {us = us} d ds) h =
      let first = spelled_low d (first_tokens ts us h) in
      let rest = stmts_low ds (last_tokens ts us h) in
      (λ at. rest.0 first.0, both (constructs_stmt s) (in_stmts ss) first.1.1 rest.1)

sentence_low : {tree : File} {tokens : List Token} → Sentence tree tokens → AreLowTokens tokens → AreLow (walk_file own_construct chained_in tree false)
sentence_low (Sentences.file {ss = ss} {ts = ts} end is d none) h = directives_low ss (stmts_low d (first_tokens ts (end ∷ []) h)).1

-- ---- the tree of a text

-- a name moves nothing
names_low : (before : ℕ) (xs : List Construct) → AreLow xs → AreLow (all_named before xs)
names_low before [] h = tt
names_low before (construct.Statement loc ∷ xs) h = (h.0, names_low before xs h.1)
names_low before (construct.Function name declared body ∷ xs) h = (h.0, names_low (before + 1) xs h.1)
names_low before (construct.Branch kind loc paths ∷ xs) h = (h.0, names_low before xs h.1)

-- nor do comments, but that they take parts out
left_low : (tree : File) → AreLow (walk_file own_construct chained_in (without_comments tree) false) → AreLow (constructs_file tree)
left_low (MakeFile body comments) h =
    let left = heed_comments comments in
    names_low 0 (within_stmts own_left tell body (told left)) (in_stmts_left left body h)

pub reads_low : (text : List ℕ) (tree : File) → Reads text tree → AreLow (constructs_file tree)
reads_low text tree reads = left_low tree (sentence_low reads.sentence (lexed_low reads.lexed))
