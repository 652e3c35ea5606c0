-- What is counted in the tree of a text stands at lines from 1: its tokens do, and so does all that is made of them.
use Rattle.std.proofs.Common.{◌≡◌, ℕ, ◌+◌, ◌<◌, Bool, true, false, ◌&&◌, List, [], ◌∷◌, ◌++◌, Option, Some, None, codes, if◌then◌else◌, refl, subst, arith}
use Rattle.std.specs.Option.{option_map}
use Rattle.std.specs.Str.{bytes_eq}
use Rattle.js_terms.specs.declared.place.Loc.{Loc}
use Rattle.js_terms.specs.declared.construct.Construct.{Construct}
use Rattle.js_terms.specs.declared.construct.Construct.TheVariants as construct
use Rattle.js_tree.specs.Plain.{Expr, Exprs, Stmt, Stmts, File, MakeFile}
use Rattle.js_tree.specs.Plain as tree
use Rattle.js_walk.specs.Walk.{walk_file, within_stmts}
use Rattle.js_tree.specs.Hints.{heed_comments}
use Rattle.js_walk.specs.Constructs.{own_construct as own_left, tell, told, constructs_file, all_named}
use Rattle.js_reading.proofs.placed.Unhinted.{own_construct, chained_in, constructs_stmt}
use Rattle.js_reading.proofs.placed.LeftPlaced.{in_stmts_left}
use Rattle.js_text.specs.Place.{Place}
use Rattle.js_text.specs.Position.{position_of}
use Rattle.js_text.specs.declared.goal.Goal.{Goal}
use Rattle.js_text.specs.declared.goal.Goal.TheVariants as goal
use Rattle.js_text.specs.Token.{Kind, Word, EscapedWord, Numeral, StringLiteral, NoSubstitutionTemplate, RegularExpression, TemplateHead, TemplateMiddle, TemplateTail, Token}
use Rattle.js_text.specs.Lex.{token_after, token_of, token_place, moved, next_token}
use Rattle.js_reading.specs.Spans.{through}
use Rattle.js_reading.specs.Placed.{IsPlaced, ArePlaced}
use Rattle.js_reading.specs.Slots.{Class, BoundName, AnyName, Key, FirstText, LaterText, Choice, Slot, Piece, AKind, Missing, IsComputed, IsMethod, IsIn, IsOf, Branch, Pass, Go}
use Rattle.js_reading.specs.Slots as slot
use Rattle.js_reading.specs.Productions.{word_piece, bound_name, piece_of}
use Rattle.js_reading.specs.Choices.{branch}
use Rattle.js_reading.specs.Sentences
use Rattle.js_reading.specs.Sentences.{named, of_word, body_and_flags, regular_expression, leaf_of, Spells, SpellsSlots, SpellsItems, SpellsStmts, Sentence}
use Rattle.js_reading.specs.Reads.{goal_of, after_gap_of, continued, next_for, Lexes, no_token, one_more, without_comments, Reads}
use Rattle.js_reading.proofs.sentences.Branches.{branches, each, among}
use Rattle.js_reading.proofs.placed.Placed.{both, in_stmts, node, PlacedExpr, PlacedExprs, PlacedPiece, PlacedPieces, PlacedIf, directives_placed, placed_made}

-- ---- tokens

line_placed : (place : Place) → 0 < (position_of place).line
line_placed place = grind arith

same_token : (t token : Token) (p after : Place) → (◌≡◌) {A = Option (Token × Place)} (Some (t, p)) (Some (token, after)) → IsPlaced t.loc → IsPlaced token.loc
same_token t token p after e h =
    let same : (◌≡◌) {A = Token × Place} (t, p) (token, after) = cc in
    subst (λ (z : Token × Place). IsPlaced z.0.loc) same h

token_placed : (goal : Goal) (place : Place) (token : Token) (after : Place) → next_token goal place ≡ Some (token, after) → IsPlaced token.loc
token_placed goal place token after e = by_kind (token_of goal (token_place goal place).after) e
  where
    by_kind : (found : Option (Kind × ℕ)) → option_map {U = Token × Place} (λ found. (token_after goal found.0 place (moved found.1 (token_place goal place)), moved found.1 (token_place goal place))) found ≡ Some (token, after) → IsPlaced token.loc
    by_kind None e = absurd cc
    by_kind (Some f) e = same_token (token_after goal f.0 place (moved f.1 (token_place goal place))) token (moved f.1 (token_place goal place)) after e (line_placed _, line_placed _)

-- a part of a template stands where it would after a gap
continued_placed : (place : Place) (brace : Token × Place) (token : Token) (after : Place) → continued place (Some brace) ≡ Some (token, after) → IsPlaced token.loc
continued_placed place brace token after e = by_part (next_token goal.Template (token_place goal.Div place)) refl e
  where
    by_part : (o : Option (Token × Place)) → next_token goal.Template (token_place goal.Div place) ≡ o → option_map (after_gap_of brace.0) o ≡ Some (token, after) → IsPlaced token.loc
    by_part None q e = absurd cc
    by_part (Some found) q e = same_token (after_gap_of brace.0 found).0 token found.1 after e (token_placed goal.Template (token_place goal.Div place) found.0 found.1 q)

asked_placed : (g : Goal) (place : Place) (token : Token) (after : Place) → next_for g place ≡ Some (token, after) → IsPlaced token.loc
asked_placed goal.Template place token after e = by_brace (next_token goal.Div place) e
  where
    by_brace : (o : Option (Token × Place)) → continued place o ≡ Some (token, after) → IsPlaced token.loc
    by_brace None e = absurd cc
    by_brace (Some brace) e = continued_placed place brace token after e
asked_placed goal.Div place token after e = token_placed goal.Div place token after e
asked_placed goal.RegExp place token after e = token_placed goal.RegExp place token after e

abbrev ArePlacedTokens : List Token → Type 0
ArePlacedTokens [] = Unit {0}
ArePlacedTokens (t ∷ ts) = IsPlaced t.loc × ArePlacedTokens ts

lexed_placed : {place end : Place} {tokens : List Token} → Lexes place tokens end → ArePlacedTokens tokens
lexed_placed no_token = tt
lexed_placed (one_more {place = here} {between = after} {token = token} e rest) = (asked_placed (goal_of token.kind) here token after e, lexed_placed rest)

first_tokens : (ts us : List Token) → ArePlacedTokens (ts ++ us) → ArePlacedTokens ts
first_tokens [] us h = tt
first_tokens (t ∷ ts) us h = (h.0, first_tokens ts us h.1)

last_tokens : (ts us : List Token) → ArePlacedTokens (ts ++ us) → ArePlacedTokens us
last_tokens [] us h = h
last_tokens (t ∷ ts) us h = last_tokens ts us h.1

-- ---- what is one token

abbrev PlacedLeaf : Option Expr → Type 0
PlacedLeaf None = Unit {0}
PlacedLeaf (Some e) = PlacedExpr e

named_placed : (l : Loc) (w : Option (List ℕ)) → IsPlaced l → PlacedLeaf (named l w)
named_placed l None at = tt
named_placed l (Some w) at = node at at (at, tt) tt (λ chained. tt)

regular_placed : (l : Loc) (found : Option (List ℕ × List ℕ)) → IsPlaced l → PlacedLeaf (regular_expression l found)
regular_placed l None at = tt
regular_placed l (Some found) at = node at at (at, tt) tt (λ chained. tt)

word_placed : (w : List ℕ) (k : Kind) (l : Loc) → IsPlaced l → PlacedLeaf (of_word w k l)
word_placed w k l at = by_word (bytes_eq w (codes "this")) (bytes_eq w (codes "null")) (bytes_eq w (codes "true")) (bytes_eq w (codes "false"))
  where
    by_word : (is_this is_null is_true is_false : Bool) →
        PlacedLeaf (if is_this then Some (tree.This (Some l)) else (if is_null then Some (tree.NullLiteral (Some l)) else (if is_true then Some (tree.BooleanLiteral (Some l) true) else (if is_false then Some (tree.BooleanLiteral (Some l) false) else named l (bound_name k)))))
    by_word true _ _ _ = node at at (at, tt) tt (λ chained. tt)
    by_word false true _ _ = node at at (at, tt) tt (λ chained. tt)
    by_word false false true _ = node at at (at, tt) tt (λ chained. tt)
    by_word false false false true = node at at (at, tt) tt (λ chained. tt)
    by_word false false false false = named_placed l (bound_name k) at

leaf_placed : (k : Kind) (l : Loc) → IsPlaced l → PlacedLeaf (leaf_of k l)
leaf_placed (Word w) l at = word_placed w (Word w) l at
leaf_placed (EscapedWord w) l at = named_placed l (bound_name (EscapedWord w)) at
leaf_placed (Numeral w) l at = node at at (at, tt) tt (λ chained. tt)
leaf_placed (StringLiteral w) l at = node at at (at, tt) tt (λ chained. tt)
leaf_placed (NoSubstitutionTemplate w) l at = node at at (at, tt) tt (λ chained. tt)
leaf_placed (RegularExpression w) l at = regular_placed l (body_and_flags w) at
leaf_placed k l at = tt

word_piece_placed : (l : Loc) (w : Option (List ℕ)) → IsPlaced l → PlacedIf (word_piece l w)
word_piece_placed l None at = tt
word_piece_placed l (Some w) at = at

piece_placed : (c : Class) (k : Kind) (l : Loc) → IsPlaced l → PlacedIf (piece_of c k l)
piece_placed BoundName k l at = word_piece_placed l (bound_name k) at
piece_placed AnyName (Word w) l at = at
piece_placed AnyName (EscapedWord w) l at = at
piece_placed Key (Word w) l at = (tt, at)
piece_placed Key (EscapedWord w) l at = (tt, at)
piece_placed Key (StringLiteral w) l at = (tt, at)
piece_placed Key (Numeral w) l at = (tt, at)
piece_placed FirstText (TemplateHead w) l at = tt
piece_placed LaterText (TemplateMiddle w) l at = tt
piece_placed LaterText (TemplateTail w) l at = tt
piece_placed c k l at = tt

-- ---- what a choice leaves has no place

abbrev is_placeless : Piece → Bool
is_placeless (AKind k) = true
is_placeless Missing = true
is_placeless IsComputed = true
is_placeless IsMethod = true
is_placeless IsIn = true
is_placeless IsOf = true
is_placeless p = false

abbrev are_placeless : List Piece → Bool
are_placeless [] = true
are_placeless (p ∷ ps) = is_placeless p && are_placeless ps

abbrev is_placeless_branch : Branch → Bool
is_placeless_branch (Pass qs) = are_placeless qs
is_placeless_branch (Go qs s rs) = are_placeless qs
is_placeless_branch b = true

placeless_branches : (c : Choice) → each is_placeless_branch (branches c) ≡ true
placeless_branches slot.Semicolon = refl
placeless_branches c = refl

then_pieces : (qs ps : List Piece) → are_placeless qs ≡ true → PlacedPieces ps → PlacedPieces (qs ++ ps)
then_pieces [] ps is h = h
then_pieces (AKind k ∷ qs) ps is h = (tt, then_pieces qs ps is h)
then_pieces (Missing ∷ qs) ps is h = (tt, then_pieces qs ps is h)
then_pieces (IsComputed ∷ qs) ps is h = (tt, then_pieces qs ps is h)
then_pieces (IsMethod ∷ qs) ps is h = (tt, then_pieces qs ps is h)
then_pieces (IsIn ∷ qs) ps is h = (tt, then_pieces qs ps is h)
then_pieces (IsOf ∷ qs) ps is h = (tt, then_pieces qs ps is h)
then_pieces (q ∷ qs) ps is h = absurd cc

passed_placeless : (c : Choice) (t : Token) (qs : List Piece) → branch c t ≡ Pass qs → are_placeless qs ≡ true
passed_placeless c t qs h = subst (λ b. is_placeless_branch b ≡ true) h (among c t is_placeless_branch (placeless_branches c))

chosen_placeless : (c : Choice) (t : Token) (qs : List Piece) (s : Slot) (rs : List Slot) → branch c t ≡ Go qs s rs → are_placeless qs ≡ true
chosen_placeless c t qs s rs h = subst (λ b. is_placeless_branch b ≡ true) h (among c t is_placeless_branch (placeless_branches c))

-- ---- sentences

mutual
  spelled_placed : {p : Piece} {l : Loc} {ts : List Token} {next : Token} → Spells p l ts next → ArePlacedTokens ts → IsPlaced l × PlacedPiece p
  spelled_placed (Sentences.leaf t none is) h = (h.0, subst PlacedLeaf is (leaf_placed t.kind t.loc h.0))
  spelled_placed (Sentences.prefixed f {ps = ps} {l = l} t is d made) h =
      let parts = slots_placed d h.0 h in
      let at : IsPlaced (through t.loc l) = (h.0.0, parts.0.1) in
      (at, subst PlacedIf made (placed_made f (through t.loc l) ps at parts.1))
  spelled_placed (Sentences.headed f {ps = ps} {l = l} t is d made) h =
      let parts = slots_placed d h.0 h in
      let at : IsPlaced (through t.loc l) = (h.0.0, parts.0.1) in
      (at, subst PlacedIf made (placed_made f (through t.loc l) ps at parts.1))
  spelled_placed (Sentences.joined f {ps = ps} {i = i} {a = a} {la = la} {l = l} {ta = ta} {ts = ts} t is are low da d made) h =
      let left = spelled_placed da (first_tokens ta (t ∷ ts) h) in
      let parts = slots_placed d left.0 (last_tokens ta (t ∷ ts) h) in
      let at : IsPlaced (through la l) = (left.0.0, parts.0.1) in
      (at, subst PlacedIf made (placed_made f (through la l) (slot.AnExpr i a ∷ ps) at (left.1, parts.1)))
  spelled_placed (Sentences.expression {ps = ps} {l = l} t none d made) h =
      let parts = slots_placed d h.0 h in
      let at : IsPlaced (through t.loc l) = (h.0.0, parts.0.1) in
      (at, subst PlacedIf made (placed_made slot.Expression (through t.loc l) ps at parts.1))
  spelled_placed (Sentences.labelled {ps = ps} {l = l} t none d made) h =
      let parts = slots_placed d h.0 h in
      let at : IsPlaced (through t.loc l) = (h.0.0, parts.0.1) in
      (at, subst PlacedIf made (placed_made slot.Labelled (through t.loc l) ps at parts.1))

  slots_placed : {ss : List Slot} {ps : List Piece} {l m : Loc} {us : List Token} {next : Token} → SpellsSlots ss ps l m us next → IsPlaced l → ArePlacedTokens us → IsPlaced m × PlacedPieces ps
  slots_placed Sentences.done at h = (at, tt)
  slots_placed (Sentences.sign t is d) at h = slots_placed d h.0 h.1
  slots_placed (Sentences.text {c = c} t is d) at h =
      let rest = slots_placed d h.0 h.1 in
      (rest.0, (subst PlacedIf is (piece_placed c t.kind t.loc h.0), rest.1))
  slots_placed (Sentences.expr {te = te} {us = us} fit de go d) at h =
      let e = spelled_placed de (first_tokens te us h) in
      let rest = slots_placed d e.0 (last_tokens te us h) in
      (rest.0, (e.1, rest.1))
  slots_placed (Sentences.stmt {ts = ts} {us = us} none ds d) at h =
      let s = spelled_placed ds (first_tokens ts us h) in
      let rest = slots_placed d s.0 (last_tokens ts us h) in
      (rest.0, (s.1, rest.1))
  slots_placed (Sentences.stmts {ts = ts} {us = us} ds closed d) at h =
      let ss = stmts_placed ds (first_tokens ts us h) in
      let rest = slots_placed d (ss.0 at) (last_tokens ts us h) in
      (rest.0, (ss.1, rest.1))
  slots_placed (Sentences.items {ts = ts} {us = us} t ds is d) at h =
      let after = last_tokens ts (t ∷ us) h in
      let rest = slots_placed d after.0 after.1 in
      (rest.0, (items_placed ds (first_tokens ts (t ∷ us) h), rest.1))
  slots_placed (Sentences.place d) at h =
      let rest = slots_placed d at h in
      (rest.0, (at, rest.1))
  slots_placed (Sentences.passed {c = c} {qs = qs} {ps = ps} is d) at h =
      let rest = slots_placed d at h in
      (rest.0, then_pieces qs ps (passed_placeless c _ qs is) rest.1)
  slots_placed (Sentences.chosen {c = c} {qs = qs} {s = s} {rs = rs} {ps = ps} is d) at h =
      let rest = slots_placed d at h in
      (rest.0, then_pieces qs ps (chosen_placeless c _ qs s rs is) rest.1)

  items_placed : {b : Bool} {xs : Exprs} {ts : List Token} {next : Token} → SpellsItems b xs ts next → ArePlacedTokens ts → PlacedExprs xs
  items_placed Sentences.no_item h = tt
  items_placed (Sentences.last_item high d end) h = ((spelled_placed d h).1, tt)
  items_placed (Sentences.more_items {ts = ts} {us = us} comma high d is ds) h = ((spelled_placed d (first_tokens ts (comma ∷ us) h)).1, items_placed ds (last_tokens ts (comma ∷ us) h).1)

  stmts_placed : {xs : Stmts} {l m : Loc} {ts : List Token} {next : Token} → SpellsStmts xs l m ts next → ArePlacedTokens ts → (IsPlaced l → IsPlaced m) × ArePlaced (in_stmts xs)
  stmts_placed Sentences.no_statement h = (λ at. at, tt)
  stmts_placed (Sentences.more_statements {s = s} {ss = ss} {ts = ts} {us = us} d ds) h =
      let first = spelled_placed d (first_tokens ts us h) in
      let rest = stmts_placed ds (last_tokens ts us h) in
      (λ at. rest.0 first.0, both (constructs_stmt s) (in_stmts ss) first.1.1 rest.1)

sentence_placed : {tree : File} {tokens : List Token} → Sentence tree tokens → ArePlacedTokens tokens → ArePlaced (walk_file own_construct chained_in tree false)
sentence_placed (Sentences.file {ss = ss} {ts = ts} end is d none) h = directives_placed ss (stmts_placed d (first_tokens ts (end ∷ []) h)).1

-- ---- the tree of a text

-- a name moves nothing
names_placed : (before : ℕ) (xs : List Construct) → ArePlaced xs → ArePlaced (all_named before xs)
names_placed before [] h = tt
names_placed before (construct.Statement loc ∷ xs) h = (h.0, names_placed before xs h.1)
names_placed before (construct.Function name declared body ∷ xs) h = (h.0, names_placed (before + 1) xs h.1)
names_placed before (construct.Branch kind loc paths ∷ xs) h = (h.0, names_placed before xs h.1)

-- nor do comments, but that they take parts out
left_placed : (tree : File) → ArePlaced (walk_file own_construct chained_in (without_comments tree) false) → ArePlaced (constructs_file tree)
left_placed (MakeFile body comments) h =
    let left = heed_comments comments in
    names_placed 0 (within_stmts own_left tell body (told left)) (in_stmts_left left body h)

pub reads_placed : (text : List ℕ) (tree : File) → Reads text tree → ArePlaced (constructs_file tree)
reads_placed text tree reads = left_placed tree (sentence_placed reads.sentence (lexed_placed reads.lexed))
