-- Names, literals and regular expressions: one token spells each.
use Rattle.std.proofs.Common.{◌≡◌, ℕ, Bool, true, false, List, [], ◌∷◌, ◌++◌, Option, Some, None, if◌then◌else◌, refl, sym, ap, subst, ◌∙◌}
use Rattle.std.specs.Prelude.{codes}
use Rattle.std.specs.Str.{bytes_eq}
use Rattle.std.proofs.lemmas.Bool.{true≢false}
use Rattle.std.proofs.lemmas.Slice.Eq.{bytes_eq-Decides}
use Rattle.js_terms.specs.declared.place.Loc.{Loc}
use Rattle.js_terms.specs.declared.operators.UnaryOperator.TheVariants as u
use Rattle.js_terms.specs.declared.words.Spelled.{Spelled}
use Rattle.js_tree.specs.Plain.{Expr}
use Rattle.js_tree.specs.Plain as tree
use Rattle.js_text.specs.Token.{Token, Kind, Word, Numeral, NoSubstitutionTemplate}
use Rattle.js_text.specs.Token as T
use Rattle.js_text.specs.Word.{reserved_word}
use Rattle.js_reading.specs.Kinds.{is_keyword}
use Rattle.js_reading.specs.Slots.{AnExpr}
use Rattle.js_reading.specs.declared.form.Form.TheVariants as slot
use Rattle.js_reading.specs.Productions.{primary, prefix, bound_name, string_of, text_of}
use Rattle.js_reading.specs.Sentences
use Rattle.js_reading.specs.Sentences.{Spells, leaf_of, named, body_and_flags}
use Rattle.js_layout.specs.Tokens.{expr_tokens, token, begun, regular_expression}
use Rattle.js_layout.specs.Unplaced.{unplaced_expr}
use Rattle.js_layout.proofs.Follows.{Follows, unbegun}
use Rattle.js_layout.proofs.Spelt.{traits, standing, SpeltExpr, WillExpr}
use Rattle.js_layout.proofs.ExpressSigns.{of_kind, known}
use Rattle.js_layout.proofs.ExpressParts.{by_last}

-- what one token spells
one_token : (e : Expr) (l : Option Loc) (k : Kind) (made : Loc → Expr) → ((t : Token) → prefix (of_kind t k) ≡ None) → ((m : Loc) → leaf_of k m ≡ Some (made m)) → ((m : Loc) → unplaced_expr (made m) ≡ unplaced_expr e) → ((m : Loc) → traits (made m) ≡ traits e) →
    standing e ≡ primary → expr_tokens e ≡ begun l (token l k ∷ []) → WillExpr e
one_token e l k made none leaf same alike at are line ts next follows quiet =
    by_last (λ us. SpeltExpr e us next) line (token l k) ts (unbegun l line _ ts (subst (λ ws. Follows line ws ts) are follows))
    (λ t is on. record {
      tree = made t.loc;
      loc = t.loc;
      spells = subst (λ n. Spells (AnExpr n (made t.loc)) t.loc (t ∷ []) next) (sym at) (Sentences.leaf t (ap prefix (known t k is) ∙ none t) (ap (λ j. leaf_of j t.loc) is ∙ leaf t.loc));
      same = same t.loc;
      traits = alike t.loc;
    })

-- ---- words

-- a name that is no keyword is no given keyword
pub not_word : (w v : List ℕ) → is_keyword w ≡ false → is_keyword v ≡ true → bytes_eq w v ≡ false
not_word w v free key = by_test (bytes_eq w v) refl
  where
    by_test : (b : Bool) → bytes_eq w v ≡ b → bytes_eq w v ≡ false
    by_test false h = h
    by_test true h = absurd (true≢false (sym key ∙ ap is_keyword (sym ((bytes_eq-Decides w v).0 h)) ∙ free))

name_prefix : (t : Token) (w : List ℕ) → bytes_eq w (codes "function") ≡ false → bytes_eq w (codes "new") ≡ false → bytes_eq w (codes "delete") ≡ false → bytes_eq w (codes "void") ≡ false → bytes_eq w (codes "typeof") ≡ false → prefix (of_kind t (Word w)) ≡ None
name_prefix t w a b c d e = λ i. if a i then Some slot.FunctionExpression else (if b i then Some slot.New else (if c i then Some (slot.Unary u.Delete) else (if d i then Some (slot.Unary u.Void) else (if e i then Some (slot.Unary u.TypeOf) else None))))

pub no_prefix : (t : Token) (w : List ℕ) → is_keyword w ≡ false → prefix (of_kind t (Word w)) ≡ None
unfolding is_keyword reserved_word
no_prefix t w free = name_prefix t w (not_word w (codes "function") free refl) (not_word w (codes "new") free refl) (not_word w (codes "delete") free refl) (not_word w (codes "void") free refl) (not_word w (codes "typeof") free refl)

pub bound_word : (w : List ℕ) → is_keyword w ≡ false → bound_name (Word w) ≡ Some w
bound_word w free = ap (λ c. if c then None else Some w) free

name_leaf : (w : List ℕ) (l : Loc) → bytes_eq w (codes "this") ≡ false → bytes_eq w (codes "null") ≡ false → bytes_eq w (codes "true") ≡ false → bytes_eq w (codes "false") ≡ false → is_keyword w ≡ false → leaf_of (Word w) l ≡ Some (tree.IdentifierReference (Some l) w)
name_leaf w l a b c d free =
    (λ i. if a i then Some (tree.This (Some l)) else (if b i then Some (tree.NullLiteral (Some l)) else (if c i then Some (tree.BooleanLiteral (Some l) true) else (if d i then Some (tree.BooleanLiteral (Some l) false) else named l (bound_name (Word w))))))
    ∙ ap (named l) (bound_word w free)

pub word_leaf : (w : List ℕ) (l : Loc) → is_keyword w ≡ false → leaf_of (Word w) l ≡ Some (tree.IdentifierReference (Some l) w)
unfolding is_keyword reserved_word
word_leaf w l free = name_leaf w l (not_word w (codes "this") free refl) (not_word w (codes "null") free refl) (not_word w (codes "true") free refl) (not_word w (codes "false") free refl) free

-- such a token is a reference, whatever follows
pub name_spelt : (t : Token) (w : List ℕ) (next : Token) → t.kind ≡ Word w → is_keyword w ≡ false → Spells (AnExpr primary (tree.IdentifierReference (Some t.loc) w)) t.loc (t ∷ []) next
name_spelt t w next is free = Sentences.leaf t (ap prefix (known t (Word w) is) ∙ no_prefix t w free) (ap (λ k. leaf_of k t.loc) is ∙ word_leaf w t.loc free)

pub name : (l : Option Loc) (w : List ℕ) → is_keyword w ≡ false → WillExpr (tree.IdentifierReference l w)
name l w free = one_token (tree.IdentifierReference l w) l (Word w) (λ m. tree.IdentifierReference (Some m) w) (λ t. no_prefix t w free) (λ m. word_leaf w m free) (λ m. refl) (λ m. refl) refl refl

pub this : (l : Option Loc) → WillExpr (tree.This l)
this l = one_token (tree.This l) l (Word (codes "this")) (λ m. tree.This (Some m)) (λ t. refl) (λ m. refl) (λ m. refl) (λ m. refl) refl refl

pub null : (l : Option Loc) → WillExpr (tree.NullLiteral l)
null l = one_token (tree.NullLiteral l) l (Word (codes "null")) (λ m. tree.NullLiteral (Some m)) (λ t. refl) (λ m. refl) (λ m. refl) (λ m. refl) refl refl

pub boolean : (l : Option Loc) (b : Bool) → WillExpr (tree.BooleanLiteral l b)
boolean l true = one_token (tree.BooleanLiteral l true) l (Word (codes "true")) (λ m. tree.BooleanLiteral (Some m) true) (λ t. refl) (λ m. refl) (λ m. refl) (λ m. refl) refl refl
boolean l false = one_token (tree.BooleanLiteral l false) l (Word (codes "false")) (λ m. tree.BooleanLiteral (Some m) false) (λ t. refl) (λ m. refl) (λ m. refl) (λ m. refl) refl refl

-- ---- other tokens

pub number : (l : Option Loc) (w : List ℕ) → WillExpr (tree.NumericLiteral l w)
number l w = one_token (tree.NumericLiteral l w) l (Numeral w) (λ m. tree.NumericLiteral (Some m) w) (λ t. refl) (λ m. refl) (λ m. refl) (λ m. refl) refl refl

pub string : (l : Option Loc) (s : Spelled) → s ≡ string_of s.spelling → WillExpr (tree.StringLiteral l s)
string l s h =
    one_token (tree.StringLiteral l s) l (T.StringLiteral s.spelling) (λ m. tree.StringLiteral (Some m) (string_of s.spelling)) (λ t. refl) (λ m. refl) (λ m. ap (λ x. tree.StringLiteral None x) (sym h)) (λ m. refl) refl refl

pub plain_template : (l : Option Loc) (s : Spelled) → s ≡ text_of s.spelling → WillExpr (tree.TemplateLiteral l s tree.no_template_part)
plain_template l s h =
    one_token (tree.TemplateLiteral l s tree.no_template_part) l (NoSubstitutionTemplate s.spelling) (λ m. tree.TemplateLiteral (Some m) (text_of s.spelling) tree.no_template_part) (λ t. refl) (λ m. refl)
    (λ m. ap (λ x. tree.TemplateLiteral None x tree.no_template_part) (sym h)) (λ m. refl) refl refl

pub pattern : (l : Option Loc) (body flags : List ℕ) → body_and_flags (0x2F ∷ (body ++ 0x2F ∷ flags)) ≡ Some (body, flags) → WillExpr (tree.RegularExpressionLiteral l body flags)
pattern l body flags h =
    one_token (tree.RegularExpressionLiteral l body flags) l (regular_expression body flags) (λ m. tree.RegularExpressionLiteral (Some m) body flags) (λ t. refl) (λ m. ap (Sentences.regular_expression m) h) (λ m. refl) (λ m. refl) refl refl
