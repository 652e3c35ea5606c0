-- What an escape takes, and what it stands for, hang on no more of what follows than its first character.
use Rattle.std.proofs.Common.{◌≡◌, ℕ, ◌+◌, ◌*◌, ◌<◌, ◌==◌, ◌&&◌, not, nat_le, cond, Bool, true, false, List, [], ◌∷◌, ◌++◌, length, drop, Option, Some, None, refl, sym, ap, ◌∙◌, arith}
use Rattle.std.specs.Char as char
use Rattle.js_text.specs.Position.{is_line_terminator, begins_with_line_feed}
use Rattle.js_text.specs.Character.{is_digit, begins_with_digit, begins_with_character}
use Rattle.js_text.specs.Escape.{hex_digit, joined, two_digits, four_digits, before, braced_digits, code_point, unicode_escape, hex_escape, escaped_character, says, digit_escape, escape}
use Rattle.js_spelling.proofs.Lists.{only, never, Alike, alike_whole, same_character, same_digit, same_line_feed}

-- these characters are what is taken, whatever of the same first character follows
pub record Escaped {V : Type 0} (f : List ℕ → Option (V × List ℕ)) (v : V) (cs r : List ℕ) : Type 0 where
  pub taken : List ℕ
  pub whole : cs ≡ taken ++ r
  pub some : 0 < length taken
  pub again : (s : List ℕ) → Alike r s → f (taken ++ s) ≡ Some (v, s)

-- the same, whatever follows
pub record Firm (f : List ℕ → Option (ℕ × List ℕ)) (v : ℕ) (cs r : List ℕ) : Type 0 where
  pub taken : List ℕ
  pub whole : cs ≡ taken ++ r
  pub some : 0 < length taken
  pub again : (s : List ℕ) → f (taken ++ s) ≡ Some (v, s)

-- ---- digits

no_low : (n : ℕ) (o : Option ℕ) → joined n o None ≡ None
no_low n None = refl
no_low n (Some x) = refl

before_is : (o : Option ℕ) (v : ℕ) (ds r : List ℕ) → before ds o ≡ Some (v, r) → (o ≡ Some v) × (ds ≡ r)
before_is None v ds r h = absurd (never h)
before_is (Some x) v ds r h = (ap (λ (p : ℕ × List ℕ). Some p.0) (only h), ap (λ (p : ℕ × List ℕ). p.1) (only h))

hex_escaped : (v : ℕ) (cs r : List ℕ) → hex_escape cs ≡ Some (v, r) → Firm hex_escape v cs r
hex_escaped v [] r h = absurd (never h)
hex_escaped v (a ∷ []) r h = absurd (never (sym (ap (before []) (no_low 16 (hex_digit (a ∷ [])))) ∙ h))
hex_escaped v (a ∷ b ∷ ds) r h =
    let is = before_is (two_digits (a ∷ b ∷ ds)) v ds r h in
    record { taken = a ∷ b ∷ []; whole = ap (λ xs. a ∷ b ∷ xs) is.1; some = omega arith; again = λ s. ap (before s) is.0 }

abbrev four : List ℕ → Option (ℕ × List ℕ)
four cs = before (drop 4 cs) (four_digits cs)

four_escaped : (v : ℕ) (cs r : List ℕ) → four cs ≡ Some (v, r) → Firm four v cs r
four_escaped v [] r h = absurd (never h)
four_escaped v (a ∷ []) r h = absurd (never (sym (ap (before []) (no_low 256 (two_digits (a ∷ [])))) ∙ h))
four_escaped v (a ∷ b ∷ []) r h = absurd (never (sym (ap (before []) (no_low 256 (two_digits (a ∷ b ∷ [])))) ∙ h))
four_escaped v (a ∷ b ∷ c ∷ []) r h =
    absurd (never (sym (ap (λ o. before [] (joined 256 (two_digits (a ∷ b ∷ c ∷ [])) o)) (no_low 16 (hex_digit (c ∷ []))) ∙ ap (before []) (no_low 256 (two_digits (a ∷ b ∷ c ∷ [])))) ∙ h))
four_escaped v (a ∷ b ∷ c ∷ d ∷ ds) r h =
    let is = before_is (four_digits (a ∷ b ∷ c ∷ d ∷ ds)) v ds r h in
    record { taken = a ∷ b ∷ c ∷ d ∷ []; whole = ap (λ xs. a ∷ b ∷ c ∷ d ∷ xs) is.1; some = omega arith; again = λ s. ap (before s) is.0 }

abbrev Code : Type 0
Code = Option (ℕ × List ℕ)

abbrev braced_choice : Bool → Bool → ℕ → ℕ → List ℕ → Code
braced_choice a b value more cs = cond {A = Code} a (Some (value, cs)) (cond {A = Code} b (braced_digits more cs) None)

braced_is : {a b : Bool} (value c : ℕ) (s : List ℕ) → (c == 0x7D) ≡ a → (char.is_digit c 16 && nat_le (value * 16 + char.digit_value c) 0x10FFFF) ≡ b →
    braced_digits value (c ∷ s) ≡ braced_choice a b value (value * 16 + char.digit_value c) s
braced_is {a = a} value c s x y =
    ap (λ t. braced_choice t (char.is_digit c 16 && nat_le (value * 16 + char.digit_value c) 0x10FFFF) value (value * 16 + char.digit_value c) s) x
    ∙ ap (λ t. braced_choice a t value (value * 16 + char.digit_value c) s) y

braced_escaped : (value v : ℕ) (cs r : List ℕ) → braced_digits value cs ≡ Some (v, r) → Firm (braced_digits value) v cs r
braced_escaped value v [] r h = absurd (never h)
braced_escaped value v (c ∷ cs) r h =
    by_tests (c == 0x7D) (char.is_digit c 16 && nat_le (value * 16 + char.digit_value c) 0x10FFFF) refl refl h (braced_escaped (value * 16 + char.digit_value c) v cs r)
  where
    by_tests : (a b : Bool) → (c == 0x7D) ≡ a → (char.is_digit c 16 && nat_le (value * 16 + char.digit_value c) 0x10FFFF) ≡ b →
        braced_choice a b value (value * 16 + char.digit_value c) cs ≡ Some (v, r) →
        (braced_digits (value * 16 + char.digit_value c) cs ≡ Some (v, r) → Firm (braced_digits (value * 16 + char.digit_value c)) v cs r) → Firm (braced_digits value) v (c ∷ cs) r
    by_tests true b x y h go = record {
      taken = c ∷ [];
      whole = ap (λ (p : ℕ × List ℕ). c ∷ p.1) (only h);
      some = omega arith;
      again = λ s. braced_is value c s x y ∙ ap (λ (p : ℕ × List ℕ). Some (p.0, s)) (only h);
    }
    by_tests false true x y h go =
        let e = go h in
        record { taken = c ∷ e.taken; whole = ap (λ xs. c ∷ xs) e.whole; some = omega arith; again = λ s. braced_is value c (e.taken ++ s) x y ∙ e.again s }
    by_tests false false x y h go = absurd (never h)

code_escaped : (v : ℕ) (cs r : List ℕ) → code_point cs ≡ Some (v, r) → Firm code_point v cs r
code_escaped v cs r h = by_test (begins_with_character 0x7D cs) refl h
  where
    by_test : (b : Bool) → begins_with_character 0x7D cs ≡ b → cond {A = Code} b None (braced_digits 0 cs) ≡ Some (v, r) → Firm code_point v cs r
    by_test true x h = absurd (never h)
    by_test false x h =
        let e = braced_escaped 0 v cs r h in
        record {
          taken = e.taken;
          whole = e.whole;
          some = e.some;
          again = λ s. ap (λ b. cond {A = Code} b None (braced_digits 0 (e.taken ++ s))) (same_character 0x7D cs (e.taken ++ s) (alike_whole cs e.taken r s e.whole e.some) ∙ x) ∙ e.again s;
        }

pub unicode_escaped : (v : ℕ) (cs r : List ℕ) → unicode_escape cs ≡ Some (v, r) → Firm unicode_escape v cs r
unicode_escaped v [] r h = absurd (never h)
unicode_escaped v (c ∷ cs) r h = by_test (c == 0x7B) refl h
  where
    by_test : (b : Bool) → (c == 0x7B) ≡ b → cond {A = Code} b (code_point cs) (four (c ∷ cs)) ≡ Some (v, r) → Firm unicode_escape v (c ∷ cs) r
    by_test true x h =
        let e = code_escaped v cs r h in
        record {
          taken = c ∷ e.taken;
          whole = ap (λ xs. c ∷ xs) e.whole;
          some = omega arith;
          again = λ s. ap (λ b. cond {A = Code} b (code_point (e.taken ++ s)) (four (c ∷ (e.taken ++ s)))) x ∙ e.again s;
        }
    by_test false x h =
        let e = four_escaped v (c ∷ cs) r h in
        record {
          taken = e.taken;
          whole = e.whole;
          some = e.some;
          again = λ s. ap (λ b. cond {A = Code} b (code_point (drop 1 (e.taken ++ s))) (four (e.taken ++ s)))
              (same_character 0x7B (c ∷ cs) (e.taken ++ s) (alike_whole (c ∷ cs) e.taken r s e.whole e.some) ∙ x) ∙ e.again s;
        }

-- ---- escapes of strings and templates

abbrev Said : Type 0
Said = Option (Option ℕ × List ℕ)

record Says (o : Code) (v : Option ℕ) (r : List ℕ) : Type 0 where
  code : ℕ
  is : o ≡ Some (code, r)
  value : Some code ≡ v

says_is : (o : Code) (v : Option ℕ) (r : List ℕ) → says o ≡ Some (v, r) → Says o v r
says_is None v r h = absurd (never h)
says_is (Some found) v r h = record {
  code = found.0;
  is = ap (λ (p : Option ℕ × List ℕ). Some (found.0, p.1)) (only h);
  value = ap (λ (p : Option ℕ × List ℕ). p.0) (only h);
}

abbrev choice : Bool → Bool → Bool → Bool → Bool → ℕ → List ℕ → Said
choice a b d e f c cs =
    cond {A = Said} a (says (hex_escape cs)) (cond {A = Said} b (says (unicode_escape cs)) (cond {A = Said} d (Some (None, cond (begins_with_line_feed cs) (drop 1 cs) cs))
    (cond {A = Said} e (Some (None, cs)) (cond {A = Said} f (digit_escape c cs) (Some (Some (escaped_character c), cs))))))

choice_is : {a b d e f : Bool} (c : ℕ) (s : List ℕ) → (c == 0x78) ≡ a → (c == 0x75) ≡ b → (c == 0x0D) ≡ d → is_line_terminator c ≡ e → is_digit c ≡ f → escape (c ∷ s) ≡ choice a b d e f c s
choice_is {a = a} {b = b} {d = d} {e = e} c s x y z w u =
    ap (λ t. choice t (c == 0x75) (c == 0x0D) (is_line_terminator c) (is_digit c) c s) x
    ∙ ap (λ t. choice a t (c == 0x0D) (is_line_terminator c) (is_digit c) c s) y
    ∙ ap (λ t. choice a b t (is_line_terminator c) (is_digit c) c s) z
    ∙ ap (λ t. choice a b d t (is_digit c) c s) w
    ∙ ap (λ t. choice a b d e t c s) u

abbrev said : Option ℕ → List ℕ → Said
said v r = Some (v, r)

-- an escape of one character
alone_escaped : (c : ℕ) (v w : Option ℕ) (cs r : List ℕ) → said w cs ≡ said v r → ((s : List ℕ) → Alike r s → escape (c ∷ s) ≡ said w s) → Escaped escape v (c ∷ cs) r
alone_escaped c v w cs r h f = record {
  taken = c ∷ [];
  whole = ap (λ (p : Option ℕ × List ℕ). c ∷ p.1) (only h);
  some = omega arith;
  again = λ s like. f s like ∙ ap (λ (p : Option ℕ × List ℕ). Some (p.0, s)) (only h);
}

line_escaped : (c : ℕ) (v : Option ℕ) (cs r : List ℕ) → said None (cond (begins_with_line_feed cs) (drop 1 cs) cs) ≡ said v r →
    ((s : List ℕ) → escape (c ∷ s) ≡ said None (cond (begins_with_line_feed s) (drop 1 s) s)) → Escaped escape v (c ∷ cs) r
line_escaped c v [] r h f = alone_escaped c v None [] r h (λ s like. f s ∙ ap (λ b. said None (cond b (drop 1 s) s)) (same_line_feed r s like ∙ ap begins_with_line_feed (ap (λ (p : Option ℕ × List ℕ). p.1) (sym (only h)))))
line_escaped c v (d ∷ ds) r h f = by_test (d == 0x0A) refl h
  where
    by_test : (b : Bool) → (d == 0x0A) ≡ b → said None (cond b ds (d ∷ ds)) ≡ said v r → Escaped escape v (c ∷ d ∷ ds) r
    by_test true x h = record {
      taken = c ∷ d ∷ [];
      whole = ap (λ (p : Option ℕ × List ℕ). c ∷ d ∷ p.1) (only h);
      some = omega arith;
      again = λ s like. f (d ∷ s) ∙ ap (λ b. said None (cond b s (d ∷ s))) x ∙ ap (λ (p : Option ℕ × List ℕ). Some (p.0, s)) (only h);
    }
    by_test false x h =
        let end : r ≡ d ∷ ds = ap (λ (p : Option ℕ × List ℕ). p.1) (sym (only h)) in
        alone_escaped c v None (d ∷ ds) r h (λ s like. f s ∙ ap (λ b. said None (cond b (drop 1 s) s)) (same_line_feed r s like ∙ ap begins_with_line_feed end ∙ x))

digit_escaped : (c : ℕ) (v : Option ℕ) (cs r : List ℕ) → digit_escape c cs ≡ Some (v, r) → ((s : List ℕ) → escape (c ∷ s) ≡ digit_escape c s) → Escaped escape v (c ∷ cs) r
digit_escaped c v cs r h f = by_test ((c == 0x30) && not (begins_with_digit cs)) refl h
  where
    by_test : (b : Bool) → ((c == 0x30) && not (begins_with_digit cs)) ≡ b → cond {A = Said} b (Some (Some 0, cs)) None ≡ Some (v, r) → Escaped escape v (c ∷ cs) r
    by_test true x h =
        let end : r ≡ cs = ap (λ (p : Option ℕ × List ℕ). p.1) (sym (only h)) in
        alone_escaped c v (Some 0) cs r h (λ s like. f s ∙ ap (λ b. cond {A = Said} ((c == 0x30) && not b) (Some (Some 0, s)) None) (same_digit r s like ∙ ap begins_with_digit end) ∙ ap (λ b. cond {A = Said} b (Some (Some 0, s)) None) x)
    by_test false x h = absurd (never h)

pub escape_escaped : (v : Option ℕ) (cs r : List ℕ) → escape cs ≡ Some (v, r) → Escaped escape v cs r
escape_escaped v [] r h = absurd (never h)
escape_escaped v (c ∷ cs) r h = by_tests (c == 0x78) (c == 0x75) (c == 0x0D) (is_line_terminator c) (is_digit c) refl refl refl refl refl h
  where
    by_tests : (a b d e f : Bool) → (c == 0x78) ≡ a → (c == 0x75) ≡ b → (c == 0x0D) ≡ d → is_line_terminator c ≡ e → is_digit c ≡ f → choice a b d e f c cs ≡ Some (v, r) → Escaped escape v (c ∷ cs) r
    by_tests true b d e f x y z w u h =
        let k = says_is (hex_escape cs) v r h in
        let got = hex_escaped k.code cs r k.is in
        record {
          taken = c ∷ got.taken;
          whole = ap (λ xs. c ∷ xs) got.whole;
          some = omega arith;
          again = λ s like. choice_is c (got.taken ++ s) x y z w u ∙ ap says (got.again s) ∙ ap (λ o. Some (o, s)) k.value;
        }
    by_tests false true d e f x y z w u h =
        let k = says_is (unicode_escape cs) v r h in
        let got = unicode_escaped k.code cs r k.is in
        record {
          taken = c ∷ got.taken;
          whole = ap (λ xs. c ∷ xs) got.whole;
          some = omega arith;
          again = λ s like. choice_is c (got.taken ++ s) x y z w u ∙ ap says (got.again s) ∙ ap (λ o. Some (o, s)) k.value;
        }
    by_tests false false true e f x y z w u h = line_escaped c v cs r h (λ s. choice_is c s x y z w u)
    by_tests false false false true f x y z w u h = alone_escaped c v None cs r h (λ s like. choice_is c s x y z w u)
    by_tests false false false false true x y z w u h = digit_escaped c v cs r h (λ s. choice_is c s x y z w u)
    by_tests false false false false false x y z w u h = alone_escaped c v (Some (escaped_character c)) cs r h (λ s like. choice_is c s x y z w u)
