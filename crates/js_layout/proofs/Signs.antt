-- Each punctuator, and each word of the grammar, is a token by itself.
use Rattle.std.proofs.Common.{◌≡◌, ℕ, zero, suc, ◌+◌, ◌-◌, ◌<◌, Bool, true, false, not, cond, List, [], ◌∷◌, length, take, Some, refl, sym, ap, subst, ◌∙◌, arith}
use Rattle.std.specs.Prelude.{codes, ◌==◌, ◌||◌, nat_lt, encode_utf8_all}
use Rattle.std.specs.List.{list_any, list_all}
use Rattle.std.specs.Str.{chars, IsAscii}
use Rattle.std.proofs.lemmas.Str.{IsUtf8-from_ascii, chars-IsAscii, encodes-IsAscii}
use Rattle.std.proofs.Math.Seq.{take-length}
use Rattle.std.proofs.lemmas.Bool.{true≢false, and_parts, eqb-true, ltb-true}
use Rattle.unicode_ident.proofs.Computing.{unicode_ident}
use Rattle.js_terms.specs.declared.operators.BinaryOperator.{BinaryOperator}
use Rattle.js_terms.specs.declared.operators.BinaryOperator.TheVariants as binary
use Rattle.js_terms.specs.declared.operators.UnaryOperator.{UnaryOperator}
use Rattle.js_terms.specs.declared.operators.UnaryOperator.TheVariants as unary
use Rattle.js_terms.specs.declared.operators.VariableKind.{VariableKind}
use Rattle.js_terms.specs.declared.operators.VariableKind.TheVariants as variable
use Rattle.js_text.specs.Character.{is_gap, starts_identifier, continues_identifier, is_digit}
use Rattle.js_text.specs.Punctuator.{longest_punctuator, spelling_of}
use Rattle.js_text.specs.declared.punctuator.Punctuator.{Punctuator}
use Rattle.js_text.specs.declared.punctuator.Punctuator.TheVariants as P
use Rattle.js_text.specs.declared.goal.Goal.TheVariants as goal
use Rattle.js_text.specs.Token.{Word, EscapedWord}
use Rattle.js_text.specs.Token as T
use Rattle.js_text.specs.Identifier.{is_backslash, identifier_rest, word_of_bytes}
use Rattle.js_text.specs.Lex.{common_token, token_of}
use Rattle.js_reading.specs.Productions.{sign_of, prefix_of, variable_word}
use Rattle.js_spelling.specs.Written.{first_is}
use Rattle.js_spelling.specs.Tokens.{IsToken}
use Rattle.js_layout.specs.Tokens.{truth}

-- ---- punctuators

-- each is computed
pub mark_token : (p : Punctuator) → IsToken (T.Punctuator p)
unfolding chars common_token longest_punctuator is_gap starts_identifier is_digit unicode_ident lib.Utf8.encode
mark_token P.UnsignedShiftRightAssign = record { written = refl; utf8 = (spelling_of P.UnsignedShiftRightAssign, (refl, refl)); no_gap = refl; some = omega arith; alone = refl }
mark_token p = record { written = refl; utf8 = (spelling_of p, (refl, refl)); no_gap = refl; some = omega arith; alone = refl }

-- ---- words of small letters

abbrev small_letters : List ℕ
small_letters = codes "abcdefghijklmnopqrstuvwxyz"

abbrev is_small : ℕ → Bool
is_small c = list_any (λ x. c == x) small_letters

-- what passes a test holds of what stands in a list of such
holds_there : (test : ℕ → Bool) (xs : List ℕ) (c : ℕ) → list_all test xs ≡ true → list_any (λ x. c == x) xs ≡ true → test c ≡ true
holds_there test [] c all there = absurd (true≢false (sym there))
holds_there test (x ∷ xs) c all there =
    let both = and_parts (test x) (list_all test xs) all in
    by_first (c == x) refl there both.0 (λ h. holds_there test xs c both.1 h)
  where
    by_first : (b : Bool) → (c == x) ≡ b → (b || list_any (λ y. c == y) xs) ≡ true → test x ≡ true → (list_any (λ y. c == y) xs ≡ true → test c ≡ true) → test c ≡ true
    by_first true e h first later = ap test (eqb-true c x e) ∙ first
    by_first false e h first later = later h

small_starts : (c : ℕ) → is_small c ≡ true → starts_identifier c ≡ true
unfolding starts_identifier unicode_ident
small_starts c h = holds_there starts_identifier small_letters c refl h

small_continues : (c : ℕ) → is_small c ≡ true → continues_identifier c ≡ true
unfolding continues_identifier unicode_ident
small_continues c h = holds_there continues_identifier small_letters c refl h

small_no_gap : (c : ℕ) → is_small c ≡ true → is_gap c ≡ false
unfolding is_gap
small_no_gap c h = from (is_gap c) (holds_there (λ x. not (is_gap x)) small_letters c refl h)
  where
    from : (b : Bool) → not b ≡ true → b ≡ false
    from true e = absurd (true≢false (sym e))
    from false e = refl

small_no_backslash : (c : ℕ) → is_small c ≡ true → is_backslash c ≡ false
small_no_backslash c h = from (is_backslash c) (holds_there (λ x. not (is_backslash x)) small_letters c refl h)
  where
    from : (b : Bool) → not b ≡ true → b ≡ false
    from true e = absurd (true≢false (sym e))
    from false e = refl

small_ascii : (w : List ℕ) → list_all is_small w ≡ true → IsAscii w
small_ascii [] h i = omega arith
small_ascii (c ∷ cs) h zero = ltb-true c 128 (holds_there (λ x. nat_lt x 128) small_letters c refl (and_parts (is_small c) (list_all is_small cs) h).0)
small_ascii (c ∷ cs) h (suc i) = small_ascii cs (and_parts (is_small c) (list_all is_small cs) h).1 i

-- an identifier goes on to the end of such a word
small_rest : (w : List ℕ) → list_all is_small w ≡ true → identifier_rest zero w ≡ []
small_rest [] h = refl
small_rest (c ∷ cs) h =
    let both = and_parts (is_small c) (list_all is_small cs) h in
    rw (small_continues c both.0) (small_rest cs both.1)

small_unescaped : (w : List ℕ) → list_all is_small w ≡ true → list_any is_backslash w ≡ false
small_unescaped [] h = refl
small_unescaped (c ∷ cs) h =
    let both = and_parts (is_small c) (list_all is_small cs) h in
    ap (λ b. b || list_any is_backslash cs) (small_no_backslash c both.0) ∙ small_unescaped cs both.1

small_alone : (w : List ℕ) → list_all is_small w ≡ true → 0 < length w → token_of goal.Div w ≡ Some (Word w, length w)
unfolding common_token
small_alone [] h some = absurd (omega arith)
small_alone (c ∷ cs) h some =
    let both = and_parts (is_small c) (list_all is_small cs) h in
    let counted : 1 + (length cs - 0) ≡ length (c ∷ cs) = omega arith in
    rw (small_starts c both.0, small_no_backslash c both.0, small_rest cs both.1) (
    ap (λ n. Some (word_of_bytes (encode_utf8_all (take n (c ∷ cs))), n)) counted
    ∙ ap (λ bs. Some (word_of_bytes (encode_utf8_all bs), length (c ∷ cs))) (take-length (c ∷ cs))
    ∙ ap (λ bs. Some (word_of_bytes bs, length (c ∷ cs))) (encodes-IsAscii (c ∷ cs) (small_ascii (c ∷ cs) h))
    ∙ ap (λ b. Some (cond b (EscapedWord (c ∷ cs)) (Word (c ∷ cs)), length (c ∷ cs))) (small_unescaped (c ∷ cs) h))

pub word_token : (w : List ℕ) → list_all is_small w ≡ true → 0 < length w → IsToken (Word w)
word_token w h some =
    let ascii = small_ascii w h in
    let same = chars-IsAscii w ascii in record {
      written = refl;
      utf8 = IsUtf8-from_ascii w ascii;
      no_gap = ap (first_is is_gap) same ∙ first w h;
      some = subst (λ cs. 0 < length cs) (sym same) some;
      alone = subst (λ cs. token_of goal.Div cs ≡ Some (Word w, length cs)) (sym same) (small_alone w h some);
    }
  where
    first : (cs : List ℕ) → list_all is_small cs ≡ true → first_is is_gap cs ≡ false
    first [] h = refl
    first (c ∷ cs) h = small_no_gap c (and_parts (is_small c) (list_all is_small cs) h).0

-- ---- what stands for an operator, a truth value or a kind of variables

pub sign_token : (o : BinaryOperator) → IsToken (sign_of o)
sign_token binary.InstanceOf = word_token (codes "instanceof") refl (omega arith)
sign_token binary.In = word_token (codes "in") refl (omega arith)
sign_token o = mark_token _

pub prefix_token : (o : UnaryOperator) → IsToken (prefix_of o)
prefix_token unary.Delete = word_token (codes "delete") refl (omega arith)
prefix_token unary.Void = word_token (codes "void") refl (omega arith)
prefix_token unary.TypeOf = word_token (codes "typeof") refl (omega arith)
prefix_token o = mark_token _

pub variable_token : (k : VariableKind) → IsToken (Word (variable_word k))
variable_token variable.Var = word_token (codes "var") refl (omega arith)
variable_token variable.Let = word_token (codes "let") refl (omega arith)
variable_token variable.Const = word_token (codes "const") refl (omega arith)

pub truth_token : (b : Bool) → IsToken (Word (truth b))
truth_token true = word_token (codes "true") refl (omega arith)
truth_token false = word_token (codes "false") refl (omega arith)
