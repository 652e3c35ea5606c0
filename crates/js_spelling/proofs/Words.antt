-- Where a word and flags end doesn't hang on what follows, if that goes on with no identifier.
use Rattle.std.proofs.Common.{◌≡◌, ℕ, zero, suc, ◌+◌, ◌-◌, ◌≤◌, ◌||◌, cond, Bool, true, false, List, [], ◌∷◌, ◌++◌, length, take, Option, Some, None, encode_utf8, encode_utf8_all, refl, sym, ap, ◌∙◌, arith, length-append}
use Rattle.std.specs.List.{list_any, list_all}
use Rattle.std.proofs.Math.Seq.{take-append_seam}
use Rattle.std.proofs.lemmas.Bool.{true≢false, and_parts, or_parts, and_from, eqb-true}
use Rattle.std.proofs.lemmas.Str.{encode_ascii}
use Rattle.js_text.specs.Character.{continues_identifier}
use Rattle.js_text.specs.Gap.{with_found}
use Rattle.js_text.specs.Identifier.{is_backslash, escape_of, escaped_rest, identifier_rest}
use Rattle.js_text.specs.RegularExpression.{are_flags}
use Rattle.js_text.specs.Lex.{past, flags_rest}
use Rattle.js_spelling.specs.Written.{first_is}
use Rattle.js_spelling.proofs.Lists.{only, never, any_parts}

-- ---- runs

past_is : {b : Bool} (test : ℕ → Bool) (c : ℕ) (cs : List ℕ) → test c ≡ b → past test (c ∷ cs) ≡ cond b (past test cs) (c ∷ cs)
past_is test c cs e = ap (λ b. cond b (past test cs) (c ∷ cs)) e

past_stop : (test : ℕ → Bool) (s : List ℕ) → first_is test s ≡ false → past test s ≡ s
past_stop test [] h = refl
past_stop test (c ∷ s) h = past_is test c s h

-- the characters of a run pass the test, and they are it before what fails it
pub record Passed (test : ℕ → Bool) (cs : List ℕ) : Type 0 where
  pub taken : List ℕ
  pub whole : cs ≡ taken ++ past test cs
  pub all : list_all test taken ≡ true

pub passed : (test : ℕ → Bool) (cs : List ℕ) → Passed test cs
passed test [] = record { taken = []; whole = refl; all = refl }
passed test (c ∷ cs) = by_test (test c) refl (passed test cs)
  where
    by_test : (b : Bool) → test c ≡ b → Passed test cs → Passed test (c ∷ cs)
    by_test true e p = record {
      taken = c ∷ p.taken;
      whole = ap (λ xs. c ∷ xs) p.whole ∙ ap (λ xs. c ∷ (p.taken ++ xs)) (sym (past_is test c cs e));
      all = and_from (test c) (list_all test p.taken) e p.all;
    }
    by_test false e p = record { taken = []; whole = sym (past_is test c cs e); all = refl }

pub past_again : (test : ℕ → Bool) (t s : List ℕ) → list_all test t ≡ true → first_is test s ≡ false → past test (t ++ s) ≡ s
past_again test [] s all n = past_stop test s n
past_again test (c ∷ t) s all n = let both = and_parts (test c) (list_all test t) all in past_is test c (t ++ s) both.0 ∙ past_again test t s both.1 n

-- ---- flags

abbrev Rest : Type 0
Rest = Option (List ℕ)

pub record Flags (cs r : List ℕ) : Type 0 where
  pub taken : List ℕ
  pub whole : cs ≡ taken ++ r
  pub again : (s : List ℕ) → first_is continues_identifier s ≡ false → flags_rest (taken ++ s) ≡ Some s

pub flags_taken : (cs r : List ℕ) → flags_rest cs ≡ Some r → Flags cs r
flags_taken cs r h = by_test (are_flags (take (length cs - length (past continues_identifier cs)) cs)) refl h
  where
    by_test : (b : Bool) → are_flags (take (length cs - length (past continues_identifier cs)) cs) ≡ b → cond {A = Rest} b (Some (past continues_identifier cs)) None ≡ Some r → Flags cs r
    by_test false x h = absurd (never h)
    by_test true x h =
        let p = passed continues_identifier cs in
        let size : length cs - length (past continues_identifier cs) ≡ length p.taken = omega (arith, ap length p.whole, length-append p.taken (past continues_identifier cs)) in
        let cut : take (length cs - length (past continues_identifier cs)) cs ≡ p.taken =
        ap (λ n. take n cs) size ∙ ap (take (length p.taken)) p.whole ∙ take-append_seam p.taken (past continues_identifier cs) in
        record {
          taken = p.taken;
          whole = p.whole ∙ ap (λ xs. p.taken ++ xs) (only h);
          again = λ s n.
              let ends : past continues_identifier (p.taken ++ s) ≡ s = past_again continues_identifier p.taken s p.all n in
              let run : take (length (p.taken ++ s) - length s) (p.taken ++ s) ≡ p.taken =
              (let k : length (p.taken ++ s) - length s ≡ length p.taken = omega (arith, length-append p.taken s) in ap (λ m. take m (p.taken ++ s)) k ∙ take-append_seam p.taken s) in
              ap (λ xs. cond {A = Rest} (are_flags (take (length (p.taken ++ s) - length xs) (p.taken ++ s))) (Some xs) None) ends
              ∙ ap (λ xs. cond {A = Rest} (are_flags xs) (Some s) None) (run ∙ sym cut) ∙ ap (λ b. cond {A = Rest} b (Some s) None) x;
        }

-- ---- the rest of a word

abbrev rest_choice : Bool → Option (List ℕ) → ℕ → List ℕ → List ℕ
rest_choice a o c cs = cond a (identifier_rest zero cs) (with_found o (λ (rest : List ℕ). identifier_rest (length cs - length rest) cs) (c ∷ cs))

pub rest_is : {a : Bool} {o : Option (List ℕ)} (c : ℕ) (cs : List ℕ) → continues_identifier c ≡ a → escaped_rest continues_identifier (c ∷ cs) ≡ o → identifier_rest zero (c ∷ cs) ≡ rest_choice a o c cs
rest_is {a = a} c cs x y = ap (λ t. rest_choice t (escaped_rest continues_identifier (c ∷ cs)) c cs) x ∙ ap (λ t. rest_choice a t c cs) y

-- no escape begins where no backslash is
no_escape : (c : ℕ) (cs : List ℕ) → is_backslash c ≡ false → escaped_rest continues_identifier (c ∷ cs) ≡ None
no_escape c cs h = ap (λ b. cond {A = Rest} b (escape_of continues_identifier cs) None) h

rest_stop : (s : List ℕ) → first_is continues_identifier s ≡ false → first_is is_backslash s ≡ false → identifier_rest zero s ≡ s
rest_stop [] h k = refl
rest_stop (c ∷ s) h k = rest_is c s h (no_escape c s k)

pub rest_again : (t s : List ℕ) → list_all continues_identifier t ≡ true → first_is continues_identifier s ≡ false → first_is is_backslash s ≡ false → identifier_rest zero (t ++ s) ≡ s
rest_again [] s all h k = rest_stop s h k
rest_again (c ∷ t) s all h k = let both = and_parts (continues_identifier c) (list_all continues_identifier t) all in rest_is c (t ++ s) both.0 refl ∙ rest_again t s both.1 h k

pub rest_shorter : (n : ℕ) (cs : List ℕ) → length (identifier_rest n cs) ≤ length cs
rest_shorter n [] = omega arith
rest_shorter (suc n) (c ∷ cs) = omega (arith, rest_shorter n cs)
rest_shorter zero (c ∷ cs) = by_tests (continues_identifier c) (escaped_rest continues_identifier (c ∷ cs)) refl refl (λ n. rest_shorter n cs)
  where
    by_tests : (a : Bool) (o : Option (List ℕ)) → continues_identifier c ≡ a → escaped_rest continues_identifier (c ∷ cs) ≡ o → ((n : ℕ) → length (identifier_rest n cs) ≤ length cs) → length (identifier_rest zero (c ∷ cs)) ≤ length (c ∷ cs)
    by_tests true o x y go = omega (arith, ap length (rest_is c cs x y), go zero)
    by_tests false None x y go = omega (arith, ap length (rest_is c cs x y))
    by_tests false (Some rest) x y go = omega (arith, ap length (rest_is c cs x y), go (length cs - length rest))

taken_suc : (c m n : ℕ) (cs : List ℕ) → m ≡ n + 1 → take m (c ∷ cs) ≡ c ∷ take n cs
taken_suc c m n cs e = let more : m ≡ suc n = omega arith in ap (λ i. take i (c ∷ cs)) more

-- without a backslash it is what follows the characters of identifiers
pub plain_rest : (cs : List ℕ) → list_any is_backslash (take (length cs - length (identifier_rest zero cs)) cs) ≡ false → identifier_rest zero cs ≡ past continues_identifier cs
plain_rest [] h = refl
plain_rest (c ∷ cs) h = by_tests (continues_identifier c) (escaped_rest continues_identifier (c ∷ cs)) refl refl (plain_rest cs)
  where
    first_taken : (r : List ℕ) → identifier_rest zero (c ∷ cs) ≡ r → length r ≤ length cs → (is_backslash c || list_any is_backslash (take (length cs - length r) cs)) ≡ false
    first_taken r e le =
        let n : length (c ∷ cs) - length (identifier_rest zero (c ∷ cs)) ≡ (length cs - length r) + 1 = omega (arith, ap length e, le) in
        ap (list_any is_backslash) (sym (taken_suc c (length (c ∷ cs) - length (identifier_rest zero (c ∷ cs))) (length cs - length r) cs n)) ∙ h

    by_tests : (a : Bool) (o : Option (List ℕ)) → continues_identifier c ≡ a → escaped_rest continues_identifier (c ∷ cs) ≡ o →
        (list_any is_backslash (take (length cs - length (identifier_rest zero cs)) cs) ≡ false → identifier_rest zero cs ≡ past continues_identifier cs) → identifier_rest zero (c ∷ cs) ≡ past continues_identifier (c ∷ cs)
    by_tests true o x y go =
        let is = rest_is c cs x y in
        is ∙ go (or_parts (is_backslash c) (list_any is_backslash (take (length cs - length (identifier_rest zero cs)) cs)) (first_taken (identifier_rest zero cs) is (rest_shorter zero cs))).1 ∙ sym (past_is continues_identifier c cs x)
    by_tests false None x y go = rest_is c cs x y ∙ sym (past_is continues_identifier c cs x)
    by_tests false (Some rest) x y go =
        let is = rest_is c cs x y in
        let none = (or_parts (is_backslash c) (list_any is_backslash (take (length cs - length (identifier_rest (length cs - length rest) cs)) cs))
        (first_taken (identifier_rest (length cs - length rest) cs) is (rest_shorter (length cs - length rest) cs))).0 in
        absurd (never (sym (no_escape c cs none) ∙ y))

-- no character is a backslash where no byte is
pub no_backslash : (cs : List ℕ) → list_any is_backslash (encode_utf8_all cs) ≡ false → list_any is_backslash cs ≡ false
no_backslash [] h = refl
no_backslash (c ∷ cs) h = by_test (is_backslash c) refl (any_parts is_backslash (encode_utf8 c) (encode_utf8_all cs) h) (no_backslash cs)
  where
    by_test : (b : Bool) → is_backslash c ≡ b → (list_any is_backslash (encode_utf8 c) ≡ false) × (list_any is_backslash (encode_utf8_all cs) ≡ false) →
        (list_any is_backslash (encode_utf8_all cs) ≡ false → list_any is_backslash cs ≡ false) → list_any is_backslash (c ∷ cs) ≡ false
    by_test false e both go = ap (λ b. b || list_any is_backslash cs) e ∙ go both.1
    by_test true e both go =
        let same : c ≡ 0x5C = eqb-true c 0x5C e in
        absurd (true≢false (sym (ap (list_any is_backslash) (ap encode_utf8 same ∙ encode_ascii 0x5C (omega arith))) ∙ both.0))
