-- What one token leaves is charged no more than eight for each byte of it.
use Rattle.std.proofs.Common.{◌≡◌, ℕ, ◌+◌, ◌*◌, ◌≤◌, Bool, true, false, List, [], ◌∷◌, ◌++◌, length, Option, Some, None, codes, if◌then◌else◌, refl, ap, arith, length-append}
use Rattle.std.specs.Str.{bytes_eq}
use Rattle.std.proofs.lemmas.Slice.Eq.{bytes_eq-Decides}
use Rattle.js_terms.specs.declared.place.Loc.{Loc}
use Rattle.js_tree.specs.Plain.{Expr}
use Rattle.js_tree.specs.Plain as tree
use Rattle.js_text.specs.Token.{Kind, Word, EscapedWord, Numeral, StringLiteral, NoSubstitutionTemplate, TemplateHead, TemplateMiddle, TemplateTail, RegularExpression, End, Token, spelling}
use Rattle.js_reading.specs.declared.class.Class.{Class}
use Rattle.js_reading.specs.declared.class.Class.TheVariants.{BoundName, AnyName, Key, FirstText, LaterText}
use Rattle.js_reading.specs.Slots.{Piece}
use Rattle.js_reading.specs.Kinds.{is_keyword}
use Rattle.js_reading.specs.Productions.{name_of, bound_name, word_piece, piece_of}
use Rattle.js_reading.specs.Sentences.{body_and_flags, regular_expression, named, of_word, leaf_of}
use Rattle.js_layout.proofs.FineTokens.{InSlashes, in_slashes}
use Rattle.js_layout.proofs.ShortSizes.{size_expr}
use Rattle.js_layout.proofs.ShortPieces.{cost}

-- ---- tokens that have a byte at least

-- a name is no longer than its spelling with escapes
abbrev pub Ample : Kind → Type 0
Ample (EscapedWord w) = (length (name_of w) ≤ length w) × (1 ≤ length w)
Ample End = Unit {0}
Ample k = 1 ≤ length (spelling k)

abbrev pub AreAmple : List Token → Type 0
AreAmple [] = Unit {0}
AreAmple (t ∷ ts) = Ample t.kind × AreAmple ts

pub first_ample : (ts us : List Token) → AreAmple (ts ++ us) → AreAmple ts
first_ample [] us h = tt
first_ample (t ∷ ts) us h = (h.0, first_ample ts us h.1)

pub last_ample : (ts us : List Token) → AreAmple (ts ++ us) → AreAmple us
last_ample [] us h = h
last_ample (t ∷ ts) us h = last_ample ts us h.1

-- ---- an expression that is one token

abbrev pub LeafPays : ℕ → Option Expr → Type 0
LeafPays n None = Unit {0}
LeafPays n (Some e) = size_expr e + 2 ≤ n

abbrev BoundPays : ℕ → Option (List ℕ) → Type 0
BoundPays n None = Unit {0}
BoundPays n (Some w) = length w + 7 ≤ n

free_pays : (b : Bool) (n : ℕ) (w : List ℕ) → length w + 7 ≤ n → BoundPays n (if b then None else Some w)
free_pays true n w le = tt
free_pays false n w le = le

bound_pays : (k : Kind) → Ample k → BoundPays (8 * length (spelling k)) (bound_name k)
bound_pays (Word w) h = free_pays (is_keyword w) (8 * length w) w (omega (arith, h))
bound_pays (EscapedWord w) h = free_pays (is_keyword (name_of w)) (8 * length w) (name_of w) (omega (arith, h.0, h.1))
bound_pays k h = tt

named_pays : (n : ℕ) (l : Loc) (o : Option (List ℕ)) → BoundPays n o → LeafPays n (named l o)
named_pays n l None h = tt
named_pays n l (Some w) h = omega (arith, h)

same_length : (v w : List ℕ) → bytes_eq w v ≡ true → length w ≡ length v
same_length v w e = ap (λ (x : List ℕ). length x) ((bytes_eq-Decides w v).0 e)

word_pays : (w : List ℕ) (l : Loc) → 1 ≤ length w → LeafPays (8 * length w) (of_word w (Word w) l)
word_pays w l h = by_word (bytes_eq w (codes "this")) (bytes_eq w (codes "null")) (bytes_eq w (codes "true")) (bytes_eq w (codes "false")) refl refl refl refl
  where
    by_word : (is_this is_null is_true is_false : Bool) → bytes_eq w (codes "this") ≡ is_this → bytes_eq w (codes "null") ≡ is_null → bytes_eq w (codes "true") ≡ is_true → bytes_eq w (codes "false") ≡ is_false →
        LeafPays (8 * length w) (if is_this then Some (tree.This (Some l)) else (if is_null then Some (tree.NullLiteral (Some l)) else (if is_true then Some (tree.BooleanLiteral (Some l) true) else (if is_false then Some (tree.BooleanLiteral (Some l) false) else named l (bound_name (Word w))))))
    by_word true b c d x y z u = omega (arith, same_length (codes "this") w x)
    by_word false true c d x y z u = omega (arith, same_length (codes "null") w y)
    by_word false false true d x y z u = omega (arith, same_length (codes "true") w z)
    by_word false false false true x y z u = omega (arith, same_length (codes "false") w u)
    by_word false false false false x y z u = named_pays (8 * length w) l (bound_name (Word w)) (bound_pays (Word w) h)

regular_pays : (w : List ℕ) (l : Loc) (o : Option (List ℕ × List ℕ)) → InSlashes w o → LeafPays (8 * length w) (regular_expression l o)
regular_pays w l None is = tt
regular_pays w l (Some found) is = omega (arith, ap (λ (x : List ℕ). length x) is, length-append found.0 (0x2F ∷ found.1))

pub leaf_pays : (k : Kind) (l : Loc) → Ample k → LeafPays (8 * length (spelling k)) (leaf_of k l)
leaf_pays (Word w) l h = word_pays w l h
leaf_pays (EscapedWord w) l h = named_pays (8 * length w) l (bound_name (EscapedWord w)) (bound_pays (EscapedWord w) h)
leaf_pays (Numeral w) l h = omega (arith, h)
leaf_pays (StringLiteral w) l h = omega (arith, h)
leaf_pays (NoSubstitutionTemplate w) l h = omega (arith, h)
leaf_pays (RegularExpression w) l h = regular_pays w l (body_and_flags w) (in_slashes w)
leaf_pays k l h = tt

-- ---- what a token of a class leaves

abbrev pub PiecePays : ℕ → Option Piece → Type 0
PiecePays n None = Unit {0}
PiecePays n (Some p) = cost p ≤ n

word_piece_pays : (n : ℕ) (l : Loc) (o : Option (List ℕ)) → BoundPays n o → PiecePays n (word_piece l o)
word_piece_pays n l None h = tt
word_piece_pays n l (Some w) h = h

pub piece_pays : (c : Class) (k : Kind) (l : Loc) → Ample k → PiecePays (8 * length (spelling k)) (piece_of c k l)
piece_pays BoundName k l h = word_piece_pays (8 * length (spelling k)) l (bound_name k) (bound_pays k h)
piece_pays AnyName (Word w) l h = omega (arith, h)
piece_pays AnyName (EscapedWord w) l h = omega (arith, h.0, h.1)
piece_pays Key (Word w) l h = omega (arith, h)
piece_pays Key (EscapedWord w) l h = omega (arith, h.0, h.1)
piece_pays Key (StringLiteral w) l h = omega (arith, h)
piece_pays Key (Numeral w) l h = omega (arith, h)
piece_pays FirstText (TemplateHead w) l h = omega (arith, h)
piece_pays LaterText (TemplateMiddle w) l h = omega (arith, h)
piece_pays LaterText (TemplateTail w) l h = omega (arith, h)
piece_pays c k l h = tt
