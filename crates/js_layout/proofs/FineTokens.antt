-- What one token spells can be printed, where it is one by its spelling alone.
use Rattle.std.proofs.Common.{◌≡◌, ℕ, Bool, true, false, List, [], ◌∷◌, ◌++◌, Option, Some, None, codes, if◌then◌else◌, refl, sym, ap, subst, ◌∙◌}
use Rattle.std.specs.Prelude.{◌==◌}
use Rattle.std.specs.Str.{bytes_eq}
use Rattle.std.proofs.lemmas.Bool.{true≢false, eqb-true}
use Rattle.js_terms.specs.declared.place.Loc.{Loc}
use Rattle.js_tree.specs.Plain.{Expr}
use Rattle.js_tree.specs.Plain as tree
use Rattle.js_text.specs.Token.{Kind, Word, EscapedWord, Numeral, StringLiteral, NoSubstitutionTemplate, TemplateHead, TemplateMiddle, TemplateTail, RegularExpression, Token}
use Rattle.js_reading.specs.declared.class.Class.{Class}
use Rattle.js_reading.specs.declared.class.Class.TheVariants.{BoundName, AnyName, Key, FirstText, LaterText}
use Rattle.js_reading.specs.Slots.{Piece}
use Rattle.js_reading.specs.Kinds.{is_keyword}
use Rattle.js_reading.specs.Productions.{name_of, bound_name, word_piece, piece_of}
use Rattle.js_reading.specs.Sentences.{around_last_slash, body_and_flags, regular_expression, named, of_word, leaf_of}
use Rattle.js_spelling.specs.Tokens.{IsToken}
use Rattle.js_spelling.specs.Laws.{IsOne, AreOnes}
use Rattle.js_layout.specs.Printable.{IsName}
use Rattle.js_layout.proofs.Fine.{FineExpr, FineWord, FinePiece}

-- ---- lists of tokens

pub first_ones : (ts us : List Token) → AreOnes (ts ++ us) → AreOnes ts
first_ones [] us h = tt
first_ones (t ∷ ts) us h = (h.0, first_ones ts us h.1)

pub last_ones : (ts us : List Token) → AreOnes (ts ++ us) → AreOnes us
last_ones [] us h = h
last_ones (t ∷ ts) us h = last_ones ts us h.1

-- ---- regular expressions

abbrev AroundSlash : List ℕ → Option (List ℕ × List ℕ) → Type 0
AroundSlash cs None = Unit {0}
AroundSlash cs (Some found) = cs ≡ found.0 ++ 0x2F ∷ found.1

around : (cs : List ℕ) → AroundSlash cs (around_last_slash cs)
around [] = tt
around (c ∷ cs) = by_rest (around_last_slash cs) (around cs)
  where
    by_slash : (b : Bool) → (c == 0x2F) ≡ b → AroundSlash (c ∷ cs) (if b then Some ([], cs) else None)
    by_slash true e = ap (λ (x : ℕ). x ∷ cs) (eqb-true c 0x2F e)
    by_slash false e = tt

    by_rest : (o : Option (List ℕ × List ℕ)) → AroundSlash cs o → AroundSlash (c ∷ cs) (elim o [ Some found ↦ Some (c ∷ found.0, found.1) | None ↦ if c == 0x2F then Some ([], cs) else None ])
    by_rest (Some found) h = ap (λ xs. c ∷ xs) h
    by_rest None h = by_slash (c == 0x2F) refl

abbrev pub InSlashes : List ℕ → Option (List ℕ × List ℕ) → Type 0
InSlashes w None = Unit {0}
InSlashes w (Some found) = w ≡ 0x2F ∷ (found.0 ++ 0x2F ∷ found.1)

pub in_slashes : (w : List ℕ) → InSlashes w (body_and_flags w)
in_slashes [] = tt
in_slashes (c ∷ cs) = by_slash (c == 0x2F) refl
  where
    first_slash : c ≡ 0x2F → (o : Option (List ℕ × List ℕ)) → AroundSlash cs o → InSlashes (c ∷ cs) o
    first_slash e None h = tt
    first_slash e (Some found) h = ap (λ (x : ℕ). x ∷ cs) e ∙ ap (λ (xs : List ℕ). 0x2F ∷ xs) h

    by_slash : (b : Bool) → (c == 0x2F) ≡ b → InSlashes (c ∷ cs) (if b then around_last_slash cs else None)
    by_slash true e = first_slash (eqb-true c 0x2F e) (around_last_slash cs) (around cs)
    by_slash false e = tt

-- ---- what is one token

abbrev pub FineLeaf : Option Expr → Type 0
FineLeaf None = Unit {0}
FineLeaf (Some e) = FineExpr e

abbrev FineBound : Option (List ℕ) → Type 0
FineBound None = Unit {0}
FineBound (Some w) = IsName w

free_fine : (w : List ℕ) → IsToken (Word w) → FineBound (if is_keyword w then None else Some w)
free_fine w one = by_test (is_keyword w) refl
  where
    by_test : (b : Bool) → is_keyword w ≡ b → FineBound (if b then None else Some w)
    by_test true e = tt
    by_test false e = record { token = one; free = e }

bound_fine : (k : Kind) → IsOne k → FineBound (bound_name k)
bound_fine (Word w) one = free_fine w (one refl)
bound_fine (EscapedWord w) one = free_fine (name_of w) one
bound_fine k one = tt

named_fine : (l : Loc) (o : Option (List ℕ)) → FineBound o → FineLeaf (named l o)
named_fine l None h = tt
named_fine l (Some w) h = h

word_fine : (w : List ℕ) (l : Loc) → IsOne (Word w) → FineLeaf (of_word w (Word w) l)
word_fine w l one = by_word (bytes_eq w (codes "this")) (bytes_eq w (codes "null")) (bytes_eq w (codes "true")) (bytes_eq w (codes "false"))
  where
    by_word : (is_this is_null is_true is_false : Bool) →
        FineLeaf (if is_this then Some (tree.This (Some l)) else (if is_null then Some (tree.NullLiteral (Some l)) else (if is_true then Some (tree.BooleanLiteral (Some l) true) else (if is_false then Some (tree.BooleanLiteral (Some l) false) else named l (bound_name (Word w))))))
    by_word true _ _ _ = tt
    by_word false true _ _ = tt
    by_word false false true _ = tt
    by_word false false false true = tt
    by_word false false false false = named_fine l (bound_name (Word w)) (bound_fine (Word w) one)

regular_fine : (l : Loc) (w : List ℕ) → IsToken (RegularExpression w) → FineLeaf (regular_expression l (body_and_flags w))
regular_fine l w one = by_parts (body_and_flags w) refl (in_slashes w)
  where
    by_parts : (o : Option (List ℕ × List ℕ)) → body_and_flags w ≡ o → InSlashes w o → FineLeaf (regular_expression l o)
    by_parts None e h = tt
    by_parts (Some found) e h = record {
      token = subst (λ (x : List ℕ). IsToken (RegularExpression x)) h one;
      parts = subst (λ (x : List ℕ). body_and_flags x ≡ Some found) h e;
    }

pub leaf_fine : (k : Kind) (l : Loc) → IsOne k → FineLeaf (leaf_of k l)
leaf_fine (Word w) l one = word_fine w l one
leaf_fine (EscapedWord w) l one = named_fine l (bound_name (EscapedWord w)) (bound_fine (EscapedWord w) one)
leaf_fine (Numeral w) l one = one refl
leaf_fine (StringLiteral w) l one = record { token = one refl; units = refl }
leaf_fine (NoSubstitutionTemplate w) l one = (record { token = one refl; units = refl }, tt)
leaf_fine (RegularExpression w) l one = regular_fine l w (one refl)
leaf_fine k l one = tt

-- ---- what a token of a class leaves

-- any word may stand there
abbrev pub takes_any : Class → Bool
takes_any AnyName = true
takes_any c = false

abbrev pub FinePieceIf : Bool → Option Piece → Type 0
FinePieceIf any None = Unit {0}
FinePieceIf any (Some p) = FinePiece any p

name_fine : (any : Bool) (w : List ℕ) → IsName w → FineWord any w
name_fine true w h = h.token
name_fine false w h = h

word_piece_fine : (any : Bool) (l : Loc) (o : Option (List ℕ)) → FineBound o → FinePieceIf any (word_piece l o)
word_piece_fine any l None h = tt
word_piece_fine any l (Some w) h = name_fine any w h

any_fine : (any : Bool) (w : List ℕ) → any ≡ true → IsToken (Word w) → FineWord any w
any_fine true w e h = h
any_fine false w e h = absurd (true≢false (sym e))

pub piece_fine : (any : Bool) (c : Class) (k : Kind) (l : Loc) → (takes_any c ≡ true → any ≡ true) → IsOne k → FinePieceIf any (piece_of c k l)
piece_fine any BoundName k l may one = word_piece_fine any l (bound_name k) (bound_fine k one)
piece_fine any AnyName (Word w) l may one = any_fine any w (may refl) (one refl)
piece_fine any AnyName (EscapedWord w) l may one = any_fine any (name_of w) (may refl) one
piece_fine any Key (Word w) l may one = one refl
piece_fine any Key (EscapedWord w) l may one = one
piece_fine any Key (StringLiteral w) l may one = record { token = one refl; units = refl }
piece_fine any Key (Numeral w) l may one = one refl
piece_fine any FirstText (TemplateHead w) l may one = tt
piece_fine any LaterText (TemplateMiddle w) l may one = tt
piece_fine any LaterText (TemplateTail w) l may one = tt
piece_fine any c k l may one = tt
