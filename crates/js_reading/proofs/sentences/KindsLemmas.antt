-- Kinds of tokens: what is compared as equal is equal.
use Rattle.std.proofs.Common.{◌≡◌, ℕ, zero, suc, true, List, [], ◌∷◌, Option, Some, None, refl, sym, ap, subst, ◌∙◌}
use Rattle.std.proofs.lemmas.Slice.Eq.{bytes_eq-Decides}
use Rattle.std.proofs.lemmas.Bool.{true≢false, eqb-true, eq-eqb}
use Rattle.js_text.specs.Token.{Kind, Word, End}
use Rattle.js_text.specs.Token as T
use Rattle.js_text.specs.declared.punctuator.Punctuator.{Punctuator}
use Rattle.js_text.specs.Punctuator.{punctuators}
use Rattle.js_text.specs.declared.punctuator.Punctuator.TheVariants as P
use Rattle.js_reading.specs.Kinds.{is_kind, code_of}

pub nth : List Punctuator → ℕ → Option Punctuator
nth [] n = None
nth (p ∷ ps) zero = Some p
nth (p ∷ ps) (suc n) = nth ps n

decoded : (p : Punctuator) → nth punctuators (code_of p) ≡ Some p
unfolding nth
decoded P.OpenBrace = refl
decoded p = refl

same_mark : (p q : Punctuator) → code_of p ≡ code_of q → q ≡ p
same_mark p q h = let e : Some q ≡ Some p = sym (decoded q) ∙ ap (nth punctuators) (sym h) ∙ decoded p in cc

pub kind_is : (k j : Kind) → is_kind k j ≡ true → j ≡ k
kind_is (Word w) (Word v) h = ap Word ((bytes_eq-Decides v w).0 h)
kind_is (T.EscapedWord w) (T.EscapedWord v) h = ap T.EscapedWord ((bytes_eq-Decides v w).0 h)
kind_is (T.Numeral w) (T.Numeral v) h = ap T.Numeral ((bytes_eq-Decides v w).0 h)
kind_is (T.BigInt w) (T.BigInt v) h = ap T.BigInt ((bytes_eq-Decides v w).0 h)
kind_is (T.StringLiteral w) (T.StringLiteral v) h = ap T.StringLiteral ((bytes_eq-Decides v w).0 h)
kind_is (T.NoSubstitutionTemplate w) (T.NoSubstitutionTemplate v) h = ap T.NoSubstitutionTemplate ((bytes_eq-Decides v w).0 h)
kind_is (T.TemplateHead w) (T.TemplateHead v) h = ap T.TemplateHead ((bytes_eq-Decides v w).0 h)
kind_is (T.TemplateMiddle w) (T.TemplateMiddle v) h = ap T.TemplateMiddle ((bytes_eq-Decides v w).0 h)
kind_is (T.TemplateTail w) (T.TemplateTail v) h = ap T.TemplateTail ((bytes_eq-Decides v w).0 h)
kind_is (T.RegularExpression w) (T.RegularExpression v) h = ap T.RegularExpression ((bytes_eq-Decides v w).0 h)
kind_is (T.Punctuator p) (T.Punctuator q) h = ap T.Punctuator (same_mark p q (eqb-true (code_of p) (code_of q) h))
kind_is End End h = refl
kind_is k j h = absurd (true≢false (sym h))

same_kind : (k : Kind) → is_kind k k ≡ true
same_kind (Word w) = (bytes_eq-Decides w w).1 refl
same_kind (T.EscapedWord w) = (bytes_eq-Decides w w).1 refl
same_kind (T.Numeral w) = (bytes_eq-Decides w w).1 refl
same_kind (T.BigInt w) = (bytes_eq-Decides w w).1 refl
same_kind (T.StringLiteral w) = (bytes_eq-Decides w w).1 refl
same_kind (T.NoSubstitutionTemplate w) = (bytes_eq-Decides w w).1 refl
same_kind (T.TemplateHead w) = (bytes_eq-Decides w w).1 refl
same_kind (T.TemplateMiddle w) = (bytes_eq-Decides w w).1 refl
same_kind (T.TemplateTail w) = (bytes_eq-Decides w w).1 refl
same_kind (T.RegularExpression w) = (bytes_eq-Decides w w).1 refl
same_kind (T.Punctuator p) = eq-eqb (code_of p) (code_of p) refl
same_kind End = refl

pub is_same : (k j : Kind) → j ≡ k → is_kind k j ≡ true
is_same k j h = subst (λ x. is_kind k x ≡ true) (sym h) (same_kind k)
