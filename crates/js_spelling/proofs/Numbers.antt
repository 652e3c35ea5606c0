-- Where a number ends doesn't hang on what follows it, if that goes on with no number.
use Rattle.std.proofs.Common.{◌≡◌, ℕ, ◌≤◌, ◌==◌, ◌||◌, ◌&&◌, not, cond, Bool, true, false, List, [], ◌∷◌, ◌++◌, drop, Option, Some, None, is_some, refl, sym, ap, subst, ◌∙◌, arith, append_assoc}
use Rattle.std.specs.List.{list_any}
use Rattle.std.proofs.lemmas.Bool.{true≢false, and_parts, or_parts, or_from, and_from, eqb-true, le-ltb}
use Rattle.js_text.specs.Character.{starts_identifier, continues_identifier, is_digit, begins_with_character}
use Rattle.js_text.specs.Identifier.{is_backslash, escape_of}
use Rattle.js_text.specs.Number.{is_digit_of, begins_with_digit_of, more_digits, digits_rest, base_of, based_digits, based_rest, fraction_rest, after_sign, exponent_rest, ends_number, ended, whole_number, decimal_number, after_zero, number_rest}
use Rattle.js_spelling.specs.Written.{first_is}
use Rattle.js_spelling.proofs.Lists.{only, never, character_is, first_kept, first_less}
use Rattle.js_spelling.proofs.Characters.{letter_continues, not_it, no_base, no_start, no_digit, no_digit_of}

-- a number goes on with it
abbrev pub goes_on : ℕ → Bool
goes_on c = (continues_identifier c || is_backslash c) || (c == 0x2E)

-- ---- digits

abbrev pub digit_or_line : ℕ → ℕ → Bool
digit_or_line base c = is_digit_of base c || (c == 0x5F)

abbrev digits_choice : Bool → Bool → ℕ → ℕ → List ℕ → List ℕ
digits_choice a b base c cs = cond a (more_digits base cs) (cond b (more_digits base cs) (c ∷ cs))

digits_are : {a b : Bool} (base c : ℕ) (s : List ℕ) → is_digit_of base c ≡ a → ((c == 0x5F) && begins_with_digit_of base s) ≡ b → more_digits base (c ∷ s) ≡ digits_choice a b base c s
digits_are {a = a} base c s x y = ap (λ t. digits_choice t ((c == 0x5F) && begins_with_digit_of base s) base c s) x ∙ ap (λ t. digits_choice a t base c s) y

digits_stop : (base : ℕ) (s : List ℕ) → first_is (digit_or_line base) s ≡ false → more_digits base s ≡ s
digits_stop base [] h = refl
digits_stop base (c ∷ s) h =
    let two = or_parts (is_digit_of base c) (c == 0x5F) h in
    digits_are base c s two.0 (ap (λ b. b && begins_with_digit_of base s) two.1)

no_first : (base : ℕ) (s : List ℕ) → first_is (digit_or_line base) s ≡ false → begins_with_digit_of base s ≡ false
no_first base [] h = refl
no_first base (c ∷ s) h = (or_parts (is_digit_of base c) (c == 0x5F) h).0

begun : (base : ℕ) (t s : List ℕ) → begins_with_digit_of base t ≡ true → begins_with_digit_of base (t ++ s) ≡ true
begun base [] s h = absurd (true≢false (sym h))
begun base (c ∷ t) s h = h

record Digits (base : ℕ) (cs : List ℕ) : Type 0 where
  taken : List ℕ
  whole : cs ≡ taken ++ more_digits base cs
  front : begins_with_digit_of base cs ≡ true → begins_with_digit_of base taken ≡ true
  again : (s : List ℕ) → first_is (digit_or_line base) s ≡ false → more_digits base (taken ++ s) ≡ s

digits : (base : ℕ) (cs : List ℕ) → Digits base cs
digits base [] = record { taken = []; whole = refl; front = λ h. h; again = digits_stop base }
digits base (c ∷ cs) = by_tests (is_digit_of base c) ((c == 0x5F) && begins_with_digit_of base cs) refl refl (digits base cs)
  where
    by_tests : (a b : Bool) → is_digit_of base c ≡ a → ((c == 0x5F) && begins_with_digit_of base cs) ≡ b → Digits base cs → Digits base (c ∷ cs)
    by_tests true b x y e = record {
      taken = c ∷ e.taken;
      whole = ap (λ xs. c ∷ xs) e.whole ∙ ap (λ xs. c ∷ (e.taken ++ xs)) (sym (digits_are base c cs x y));
      front = λ h. h;
      again = λ s n. digits_are base c (e.taken ++ s) x refl ∙ e.again s n;
    }
    by_tests false true x y e =
        let both = and_parts (c == 0x5F) (begins_with_digit_of base cs) y in
        record {
          taken = c ∷ e.taken;
          whole = ap (λ xs. c ∷ xs) e.whole ∙ ap (λ xs. c ∷ (e.taken ++ xs)) (sym (digits_are base c cs x y));
          front = λ h. h;
          again = λ s n. digits_are base c (e.taken ++ s) x (and_from (c == 0x5F) (begins_with_digit_of base (e.taken ++ s)) both.0 (begun base e.taken s (e.front both.1))) ∙ e.again s n;
        }
    by_tests false false x y e = record { taken = []; whole = sym (digits_are base c cs x y); front = λ h. absurd (true≢false (sym h ∙ x)); again = digits_stop base }

-- ---- a part of a number that is left out where it doesn't begin

pub record Tail (f : List ℕ → List ℕ) (firsts : List ℕ) (stop : ℕ → Bool) (cs : List ℕ) : Type 0 where
  pub taken : List ℕ
  pub whole : cs ≡ taken ++ f cs
  pub lead : (test : ℕ → Bool) → list_any test firsts ≡ false → first_is test taken ≡ false
  pub again : (s : List ℕ) → first_is stop s ≡ false → f (taken ++ s) ≡ s

-- digits, perhaps
record Perhaps (cs : List ℕ) : Type 0 where
  taken : List ℕ
  whole : cs ≡ taken ++ digits_rest 10 cs
  again : (s : List ℕ) → first_is (digit_or_line 10) s ≡ false → digits_rest 10 (taken ++ s) ≡ s

perhaps : (cs : List ℕ) → Perhaps cs
perhaps cs = by_test (begins_with_digit_of 10 cs) refl (digits 10 cs)
  where
    by_test : (b : Bool) → begins_with_digit_of 10 cs ≡ b → Digits 10 cs → Perhaps cs
    by_test true x e = record {
      taken = e.taken;
      whole = e.whole ∙ ap (λ b. e.taken ++ cond b (more_digits 10 cs) cs) (sym x);
      again = λ s n. ap (λ b. cond b (more_digits 10 (e.taken ++ s)) (e.taken ++ s)) (begun 10 e.taken s (e.front x)) ∙ e.again s n;
    }
    by_test false x e = record {
      taken = [];
      whole = ap (λ b. cond b (more_digits 10 cs) cs) (sym x);
      again = λ s n. ap (λ b. cond b (more_digits 10 s) s) (no_first 10 s n);
    }

abbrev in_fraction : ℕ → Bool
in_fraction c = digit_or_line 10 c || (c == 0x2E)

fraction_stop : (s : List ℕ) → first_is in_fraction s ≡ false → fraction_rest s ≡ s
fraction_stop [] h = refl
fraction_stop (c ∷ s) h = ap (λ b. cond b (digits_rest 10 s) (c ∷ s)) (or_parts (digit_or_line 10 c) (c == 0x2E) h).1

fraction : (cs : List ℕ) → Tail fraction_rest (0x2E ∷ []) in_fraction cs
fraction [] = record { taken = []; whole = refl; lead = λ test h. refl; again = fraction_stop }
fraction (c ∷ cs) = by_test (c == 0x2E) refl (perhaps cs)
  where
    by_test : (b : Bool) → (c == 0x2E) ≡ b → Perhaps cs → Tail fraction_rest (0x2E ∷ []) in_fraction (c ∷ cs)
    by_test true x e = record {
      taken = c ∷ e.taken;
      whole = ap (λ xs. c ∷ xs) e.whole ∙ ap (λ b. c ∷ (e.taken ++ cond b (digits_rest 10 cs) (c ∷ cs))) (sym x);
      lead = λ test h. ap test (eqb-true c 0x2E x) ∙ (or_parts (test 0x2E) false h).0;
      again = λ s n. ap (λ b. cond b (digits_rest 10 (e.taken ++ s)) (c ∷ (e.taken ++ s))) x ∙ e.again s (first_less in_fraction (digit_or_line 10) s (λ d k. (or_parts (digit_or_line 10 d) (d == 0x2E) k).0) n);
    }
    by_test false x e = record { taken = []; whole = ap (λ b. cond b (digits_rest 10 cs) (c ∷ cs)) (sym x); lead = λ test h. refl; again = fraction_stop }

-- the digits of an exponent, after a sign perhaps
record Signed (cs : List ℕ) : Type 0 where
  taken : List ℕ
  whole : cs ≡ taken ++ more_digits 10 (after_sign cs)
  begins : (s : List ℕ) → begins_with_digit_of 10 (after_sign (taken ++ s)) ≡ true
  again : (s : List ℕ) → first_is (digit_or_line 10) s ≡ false → more_digits 10 (after_sign (taken ++ s)) ≡ s

signed : (cs : List ℕ) → begins_with_digit_of 10 (after_sign cs) ≡ true → Signed cs
signed [] h = absurd (true≢false (sym h))
signed (d ∷ ds) h = by_test ((d == 0x2B) || (d == 0x2D)) refl h (digits 10 ds)
  where
    by_test : (b : Bool) → ((d == 0x2B) || (d == 0x2D)) ≡ b → begins_with_digit_of 10 (cond b ds (d ∷ ds)) ≡ true → Digits 10 ds → Signed (d ∷ ds)
    by_test true x h e =
        let passed = λ (s : List ℕ). ap (λ b. cond b s (d ∷ s)) x in
        record {
          taken = d ∷ e.taken;
          whole = ap (λ xs. d ∷ xs) e.whole ∙ ap (λ xs. d ∷ (e.taken ++ more_digits 10 xs)) (sym (passed ds));
          begins = λ s. ap (begins_with_digit_of 10) (passed (e.taken ++ s)) ∙ begun 10 e.taken s (e.front h);
          again = λ s n. ap (more_digits 10) (passed (e.taken ++ s)) ∙ e.again s n;
        }
    by_test false x h e =
        let passed = λ (s : List ℕ). ap (λ b. cond b s (d ∷ s)) x in
        record {
          taken = d ∷ e.taken;
          whole = ap (λ xs. d ∷ xs) e.whole ∙ ap (λ xs. d ∷ (e.taken ++ xs)) (sym (digits_are 10 d ds h refl)) ∙ ap (λ xs. d ∷ (e.taken ++ more_digits 10 xs)) (sym (passed ds));
          begins = λ s. ap (begins_with_digit_of 10) (passed (e.taken ++ s)) ∙ h;
          again = λ s n. ap (more_digits 10) (passed (e.taken ++ s)) ∙ digits_are 10 d (e.taken ++ s) h refl ∙ e.again s n;
        }

abbrev is_e : ℕ → Bool
is_e c = (c == 0x65) || (c == 0x45)

abbrev in_exponent : ℕ → Bool
in_exponent c = digit_or_line 10 c || is_e c

abbrev exponent_choice : Bool → ℕ → List ℕ → List ℕ
exponent_choice b c cs = cond b (more_digits 10 (after_sign cs)) (c ∷ cs)

exponent_stop : (s : List ℕ) → first_is in_exponent s ≡ false → exponent_rest s ≡ s
exponent_stop [] h = refl
exponent_stop (c ∷ s) h = ap (λ b. exponent_choice (b && begins_with_digit_of 10 (after_sign s)) c s) (or_parts (digit_or_line 10 c) (is_e c) h).1

e_first : (test : ℕ → Bool) (c : ℕ) → is_e c ≡ true → list_any test (0x65 ∷ 0x45 ∷ []) ≡ false → test c ≡ false
e_first test c h k = by_test (c == 0x65) (c == 0x45) refl refl h
  where
    both : (test 0x65 ≡ false) × ((test 0x45 || false) ≡ false)
    both = or_parts (test 0x65) (test 0x45 || false) k

    by_test : (a b : Bool) → (c == 0x65) ≡ a → (c == 0x45) ≡ b → (a || b) ≡ true → test c ≡ false
    by_test true b x y h = ap test (eqb-true c 0x65 x) ∙ both.0
    by_test false true x y h = ap test (eqb-true c 0x45 y) ∙ (or_parts (test 0x45) false both.1).0
    by_test false false x y h = absurd (true≢false (sym h))

exponent : (cs : List ℕ) → Tail exponent_rest (0x65 ∷ 0x45 ∷ []) in_exponent cs
exponent [] = record { taken = []; whole = refl; lead = λ test h. refl; again = exponent_stop }
exponent (c ∷ cs) = by_test (is_e c && begins_with_digit_of 10 (after_sign cs)) refl
  where
    by_test : (b : Bool) → (is_e c && begins_with_digit_of 10 (after_sign cs)) ≡ b → Tail exponent_rest (0x65 ∷ 0x45 ∷ []) in_exponent (c ∷ cs)
    by_test true x =
        let both = and_parts (is_e c) (begins_with_digit_of 10 (after_sign cs)) x in
        let e = signed cs both.1 in
        record {
          taken = c ∷ e.taken;
          whole = ap (λ xs. c ∷ xs) e.whole ∙ ap (λ b. c ∷ (e.taken ++ exponent_choice b c cs)) (sym x);
          lead = λ test h. e_first test c both.0 h;
          again = λ s n. ap (λ b. exponent_choice b c (e.taken ++ s)) (and_from (is_e c) (begins_with_digit_of 10 (after_sign (e.taken ++ s))) both.0 (e.begins s))
              ∙ e.again s (first_less in_exponent (digit_or_line 10) s (λ d k. (or_parts (digit_or_line 10 d) (is_e d) k).0) n);
        }
    by_test false x = record { taken = []; whole = ap (λ b. exponent_choice b c cs) (sym x); lead = λ test h. refl; again = exponent_stop }

-- ---- where it may end

pub stops_parts : (c : ℕ) → goes_on c ≡ false → (continues_identifier c ≡ false) × (is_backslash c ≡ false) × ((c == 0x2E) ≡ false)
stops_parts c h =
    let one = or_parts (continues_identifier c || is_backslash c) (c == 0x2E) h in
    let two = or_parts (continues_identifier c) (is_backslash c) one.0 in
    (two.0, two.1, one.1)

no_e : (c : ℕ) → continues_identifier c ≡ false → is_e c ≡ false
no_e c n = or_from (c == 0x65) (c == 0x45) (not_it 0x65 c (letter_continues 0x65 (omega arith) refl) n) (not_it 0x45 c (letter_continues 0x45 (omega arith) refl) n)

no_line : (base c : ℕ) → base ≤ 36 → continues_identifier c ≡ false → digit_or_line base c ≡ false
no_line base c fits n = or_from (is_digit_of base c) (c == 0x5F) (no_digit_of base c fits n) (not_it 0x5F c (letter_continues 0x5F (omega arith) refl) n)

stops_digits : (base : ℕ) (s : List ℕ) → base ≤ 36 → first_is goes_on s ≡ false → first_is (digit_or_line base) s ≡ false
stops_digits base s fits n = first_less goes_on (digit_or_line base) s (λ c k. no_line base c fits (stops_parts c k).0) n

stops_fraction : (s : List ℕ) → first_is goes_on s ≡ false → first_is in_fraction s ≡ false
stops_fraction s n = first_less goes_on in_fraction s (λ c k. or_from (digit_or_line 10 c) (c == 0x2E) (no_line 10 c (omega arith) (stops_parts c k).0) (stops_parts c k).2) n

stops_exponent : (s : List ℕ) → first_is goes_on s ≡ false → first_is in_exponent s ≡ false
stops_exponent s n = first_less goes_on in_exponent s (λ c k. or_from (digit_or_line 10 c) (is_e c) (no_line 10 c (omega arith) (stops_parts c k).0) (no_e c (stops_parts c k).0)) n

stops_n : (s : List ℕ) → first_is goes_on s ≡ false → first_is (λ c. c == 0x6E) s ≡ false
stops_n s n = first_less goes_on (λ c. c == 0x6E) s (λ c k. not_it 0x6E c (letter_continues 0x6E (omega arith) refl) (stops_parts c k).0) n

may_end : (s : List ℕ) → first_is goes_on s ≡ false → ends_number s ≡ true
may_end [] n = refl
may_end (c ∷ s) n =
    let k = stops_parts c n in
    ap (λ b. not ((starts_identifier c || is_some (cond {A = Option (List ℕ)} b (escape_of starts_identifier s) None)) || is_digit c)) k.1
    ∙ ap (λ b. not ((b || false) || is_digit c)) (no_start c k.0) ∙ ap not (no_digit c k.0)

abbrev Found : Type 0
Found = Option (Bool × List ℕ)

abbrev number : Bool → List ℕ → Found
number b cs = Some (b, cs)

ends_there : (b : Bool) (s : List ℕ) → first_is goes_on s ≡ false → ended b s ≡ number b s
ends_there b s n = ap (λ t. cond {A = Found} t (number b s) None) (may_end s n)

record Ends (b big : Bool) (rest r : List ℕ) : Type 0 where
  same : b ≡ big
  left : rest ≡ r
  may : ends_number rest ≡ true

ended_is : (b big : Bool) (rest r : List ℕ) → ended b rest ≡ number big r → Ends b big rest r
ended_is b big rest r h = by_test (ends_number rest) refl h
  where
    by_test : (t : Bool) → ends_number rest ≡ t → cond {A = Found} t (number b rest) None ≡ number big r → Ends b big rest r
    by_test true x h = record { same = ap (λ (p : Bool × List ℕ). p.0) (only h); left = ap (λ (p : Bool × List ℕ). p.1) (only h); may = x }
    by_test false x h = absurd (never h)

-- ---- numbers

pub record Number (f : List ℕ → Found) (firsts : List ℕ) (big : Bool) (cs r : List ℕ) : Type 0 where
  pub taken : List ℕ
  pub whole : cs ≡ taken ++ r
  pub lead : (test : ℕ → Bool) → list_any test firsts ≡ false → first_is test taken ≡ false
  pub may : ends_number r ≡ true
  pub again : (s : List ℕ) → first_is goes_on s ≡ false → f (taken ++ s) ≡ number big s

pub record Numbered (f : List ℕ → Found) (big : Bool) (cs r : List ℕ) : Type 0 where
  pub taken : List ℕ
  pub whole : cs ≡ taken ++ r
  pub may : ends_number r ≡ true
  pub again : (s : List ℕ) → first_is goes_on s ≡ false → f (taken ++ s) ≡ number big s

n_taken : (big : Bool) (f : List ℕ → Found) (firsts : List ℕ) (cs r : List ℕ) → ((s : List ℕ) → f (0x6E ∷ s) ≡ ended true s) → begins_with_character 0x6E cs ≡ true → ended true (drop 1 cs) ≡ number big r → Number f (0x6E ∷ firsts) big cs r
n_taken big f firsts [] r e x h = absurd (true≢false (sym x))
n_taken big f firsts (c ∷ ds) r e x h =
    let is = ended_is true big ds r h in
    record {
      taken = 0x6E ∷ [];
      whole = ap (λ d. d ∷ ds) (eqb-true c 0x6E x) ∙ ap (λ xs. 0x6E ∷ xs) is.left;
      lead = λ test k. (or_parts (test 0x6E) (list_any test firsts) k).0;
      may = subst (λ xs. ends_number xs ≡ true) is.left is.may;
      again = λ s n. e s ∙ ends_there true s n ∙ ap (λ b. number b s) is.same;
    }

whole_taken : (big : Bool) (cs r : List ℕ) → whole_number cs cs ≡ number big r → Number (λ xs. whole_number xs xs) (0x6E ∷ []) big cs r
whole_taken big cs r h = by_test (begins_with_character 0x6E cs) refl h
  where
    by_test : (b : Bool) → begins_with_character 0x6E cs ≡ b → cond {A = Found} b (ended true (drop 1 cs)) (ended false cs) ≡ number big r → Number (λ xs. whole_number xs xs) (0x6E ∷ []) big cs r
    by_test true x h = n_taken big (λ xs. whole_number xs xs) [] cs r (λ s. refl) x h
    by_test false x h =
        let is = ended_is false big cs r h in
        record {
          taken = [];
          whole = is.left;
          lead = λ test k. refl;
          may = subst (λ xs. ends_number xs ≡ true) is.left is.may;
          again = λ s n. ap (λ b. cond {A = Found} b (ended true (drop 1 s)) (ended false s)) (character_is 0x6E s ∙ stops_n s n) ∙ ends_there false s n ∙ ap (λ b. number b s) is.same;
        }

decimal_taken : (big : Bool) (cs r : List ℕ) → decimal_number cs ≡ number big r → Number decimal_number (0x6E ∷ 0x2E ∷ 0x65 ∷ 0x45 ∷ []) big cs r
decimal_taken big cs r h = by_test (begins_with_character 0x6E cs) refl h
  where
    by_test : (b : Bool) → begins_with_character 0x6E cs ≡ b → cond {A = Found} b (ended true (drop 1 cs)) (ended false (exponent_rest (fraction_rest cs))) ≡ number big r →
        Number decimal_number (0x6E ∷ 0x2E ∷ 0x65 ∷ 0x45 ∷ []) big cs r
    by_test true x h = n_taken big decimal_number (0x2E ∷ 0x65 ∷ 0x45 ∷ []) cs r (λ s. refl) x h
    by_test false x h =
        let is = ended_is false big (exponent_rest (fraction_rest cs)) r h in
        let f = fraction cs in
        let e = exponent (fraction_rest cs) in
        let leads = λ (test : ℕ → Bool) (k : list_any test (0x6E ∷ 0x2E ∷ 0x65 ∷ 0x45 ∷ []) ≡ false).
        (let one = or_parts (test 0x6E) (list_any test (0x2E ∷ 0x65 ∷ 0x45 ∷ [])) k in
        let two = or_parts (test 0x2E) (list_any test (0x65 ∷ 0x45 ∷ [])) one.1 in
        first_kept test f.taken e.taken (f.lead test (or_from (test 0x2E) false two.0 refl)) (e.lead test two.1)) in
        record {
          taken = f.taken ++ e.taken;
          whole = f.whole ∙ ap (λ xs. f.taken ++ xs) (e.whole ∙ ap (λ xs. e.taken ++ xs) is.left) ∙ sym (append_assoc f.taken e.taken r);
          lead = leads;
          may = subst (λ xs. ends_number xs ≡ true) is.left is.may;
          again = λ s n.
              let first : fraction_rest ((f.taken ++ e.taken) ++ s) ≡ e.taken ++ s =
              ap fraction_rest (append_assoc f.taken e.taken s) ∙ f.again (e.taken ++ s) (first_kept in_fraction e.taken s (e.lead in_fraction refl) (stops_fraction s n)) in
              let second : exponent_rest (fraction_rest ((f.taken ++ e.taken) ++ s)) ≡ s = ap exponent_rest first ∙ e.again s (stops_exponent s n) in
              let no_n : begins_with_character 0x6E ((f.taken ++ e.taken) ++ s) ≡ false =
              character_is 0x6E ((f.taken ++ e.taken) ++ s)
              ∙ first_kept (λ c. c == 0x6E) (f.taken ++ e.taken) s (first_kept (λ c. c == 0x6E) f.taken e.taken (f.lead (λ c. c == 0x6E) refl) (e.lead (λ c. c == 0x6E) refl)) (stops_n s n) in
              ap (λ b. cond {A = Found} b (ended true (drop 1 ((f.taken ++ e.taken) ++ s))) (ended false (exponent_rest (fraction_rest ((f.taken ++ e.taken) ++ s))))) no_n
              ∙ ap (ended false) second ∙ ends_there false s n ∙ ap (λ b. number b s) is.same;
        }

-- digits, and what a number is after these
after_digits : (base : ℕ) (f : List ℕ → Found) (firsts : List ℕ) (big : Bool) (cs r : List ℕ) → base ≤ 36 → list_any (digit_or_line base) firsts ≡ false → Number f firsts big (more_digits base cs) r →
    Numbered (λ xs. f (more_digits base xs)) big cs r
after_digits base f firsts big cs r fits none d =
    let e = digits base cs in
    record {
      taken = e.taken ++ d.taken;
      whole = e.whole ∙ ap (λ xs. e.taken ++ xs) d.whole ∙ sym (append_assoc e.taken d.taken r);
      may = d.may;
      again = λ s n. ap f (ap (more_digits base) (append_assoc e.taken d.taken s) ∙ e.again (d.taken ++ s) (first_kept (digit_or_line base) d.taken s (d.lead (digit_or_line base) none) (stops_digits base s fits n))) ∙ d.again s n;
    }

-- ---- a `0`

base_fits : (c base : ℕ) → base_of c ≡ Some base → base ≤ 16
base_fits c base h = by_tests ((c == 0x78) || (c == 0x58)) ((c == 0x6F) || (c == 0x4F)) ((c == 0x62) || (c == 0x42)) h
  where
    by_tests : (x o b : Bool) → cond {A = Option ℕ} x (Some 16) (cond {A = Option ℕ} o (Some 8) (cond {A = Option ℕ} b (Some 2) None)) ≡ Some base → base ≤ 16
    by_tests true o b h = let e : 16 ≡ base = only h in omega arith
    by_tests false true b h = let e : 8 ≡ base = only h in omega arith
    by_tests false false true h = let e : 2 ≡ base = only h in omega arith
    by_tests false false false h = absurd (never h)

abbrev has_base : ℕ → Bool
has_base c = is_some (base_of c)

no_based : (xs : List ℕ) → first_is has_base xs ≡ false → based_rest xs ≡ None
no_based [] h = refl
no_based (c ∷ xs) h = by_base (base_of c) refl h
  where
    by_base : (o : Option ℕ) → base_of c ≡ o → is_some o ≡ false → based_digits (base_of c) xs ≡ None
    by_base None e h = ap (λ o. based_digits o xs) e
    by_base (Some base) e h = absurd (true≢false h)

based_taken : (big : Bool) (cs rest r : List ℕ) → based_rest cs ≡ Some rest → whole_number rest rest ≡ number big r → Numbered (λ xs. after_zero (based_rest xs) xs) big cs r
based_taken big [] rest r h w = absurd (never h)
based_taken big (c ∷ cs) rest r h w = by_base (base_of c) refl h
  where
    by_begins : (base : ℕ) (t : Bool) → base_of c ≡ Some base → begins_with_digit_of base cs ≡ t → cond {A = Option (List ℕ)} t (Some (more_digits base cs)) None ≡ Some rest → Numbered (λ xs. after_zero (based_rest xs) xs) big (c ∷ cs) r
    by_begins base false b x h = absurd (never h)
    by_begins base true b x h =
        let fits = base_fits c base b in
        let e = digits base cs in
        let d = whole_taken big (more_digits base cs) r (subst (λ xs. whole_number xs xs ≡ number big r) (sym (only h)) w) in
        let n_is_none : list_any (digit_or_line base) (0x6E ∷ []) ≡ false = ap (λ t. (t || (0x6E == 0x5F)) || false) (le-ltb 23 base (omega (arith, fits))) in
        record {
          taken = c ∷ (e.taken ++ d.taken);
          whole = ap (λ xs. c ∷ xs) (e.whole ∙ ap (λ xs. e.taken ++ xs) d.whole ∙ sym (append_assoc e.taken d.taken r));
          may = d.may;
          again = λ s n.
              let whole : (e.taken ++ d.taken) ++ s ≡ e.taken ++ (d.taken ++ s) = append_assoc e.taken d.taken s in
              let based : based_rest (c ∷ ((e.taken ++ d.taken) ++ s)) ≡ Some (d.taken ++ s) =
              ap (λ o. based_digits o ((e.taken ++ d.taken) ++ s)) b
              ∙ ap (λ t. cond {A = Option (List ℕ)} t (Some (more_digits base ((e.taken ++ d.taken) ++ s))) None) (ap (begins_with_digit_of base) whole ∙ begun base e.taken (d.taken ++ s) (e.front x))
              ∙ ap Some (ap (more_digits base) whole ∙ e.again (d.taken ++ s) (first_kept (digit_or_line base) d.taken s (d.lead (digit_or_line base) n_is_none) (stops_digits base s (omega (arith, fits)) n))) in
              ap (λ o. after_zero o (c ∷ ((e.taken ++ d.taken) ++ s))) based ∙ d.again s n;
        }

    by_base : (o : Option ℕ) → base_of c ≡ o → based_digits o cs ≡ Some rest → Numbered (λ xs. after_zero (based_rest xs) xs) big (c ∷ cs) r
    by_base None e h = absurd (never h)
    by_base (Some base) e h = by_begins base (begins_with_digit_of base cs) e refl h

zero_taken : (big : Bool) (cs r : List ℕ) → after_zero (based_rest cs) cs ≡ number big r → Numbered (λ xs. after_zero (based_rest xs) xs) big cs r
zero_taken big cs r h = by_based (based_rest cs) refl h
  where
    by_based : (o : Option (List ℕ)) → based_rest cs ≡ o → after_zero o cs ≡ number big r → Numbered (λ xs. after_zero (based_rest xs) xs) big cs r
    by_based (Some rest) e h = based_taken big cs rest r e h
    by_based None e h =
        let d = decimal_taken big cs r h in
        record {
          taken = d.taken;
          whole = d.whole;
          may = d.may;
          again = λ s n. ap (λ o. after_zero o (d.taken ++ s)) (no_based (d.taken ++ s)
              (first_kept has_base d.taken s (d.lead has_base refl) (first_less goes_on has_base s (λ c k. ap is_some (no_base c (stops_parts c k).0)) n))) ∙ d.again s n;
        }

-- ---- all of them

point_taken : (big : Bool) (cs r : List ℕ) → ended false (exponent_rest (digits_rest 10 cs)) ≡ number big r → Numbered (λ xs. ended false (exponent_rest (digits_rest 10 xs))) big cs r
point_taken big cs r h =
    let is = ended_is false big (exponent_rest (digits_rest 10 cs)) r h in
    let d = perhaps cs in
    let e = exponent (digits_rest 10 cs) in
    record {
      taken = d.taken ++ e.taken;
      whole = d.whole ∙ ap (λ xs. d.taken ++ xs) (e.whole ∙ ap (λ xs. e.taken ++ xs) is.left) ∙ sym (append_assoc d.taken e.taken r);
      may = subst (λ xs. ends_number xs ≡ true) is.left is.may;
      again = λ s n.
          let first : digits_rest 10 ((d.taken ++ e.taken) ++ s) ≡ e.taken ++ s =
          ap (digits_rest 10) (append_assoc d.taken e.taken s) ∙ d.again (e.taken ++ s) (first_kept (digit_or_line 10) e.taken s (e.lead (digit_or_line 10) refl) (stops_digits 10 s (omega arith) n)) in
          ap (λ xs. ended false (exponent_rest xs)) first ∙ ap (ended false) (e.again s (stops_exponent s n)) ∙ ends_there false s n ∙ ap (λ b. number b s) is.same;
    }

abbrev number_choice : Bool → Bool → List ℕ → Found
number_choice a b cs = cond {A = Found} a (ended false (exponent_rest (digits_rest 10 cs))) (cond {A = Found} b (after_zero (based_rest cs) cs) (decimal_number (more_digits 10 cs)))

number_is : {a b : Bool} (c : ℕ) (s : List ℕ) → (c == 0x2E) ≡ a → (c == 0x30) ≡ b → number_rest c s ≡ number_choice a b s
number_is {a = a} c s x y = ap (λ t. number_choice t (c == 0x30) s) x ∙ ap (λ t. number_choice a t s) y

pub number_taken : (c : ℕ) (big : Bool) (cs r : List ℕ) → number_rest c cs ≡ number big r → Numbered (number_rest c) big cs r
number_taken c big cs r h = by_tests (c == 0x2E) (c == 0x30) refl refl h
  where
    by : {a b : Bool} → (c == 0x2E) ≡ a → (c == 0x30) ≡ b → Numbered (number_choice a b) big cs r → Numbered (number_rest c) big cs r
    by x y e = record { taken = e.taken; whole = e.whole; may = e.may; again = λ s n. number_is c (e.taken ++ s) x y ∙ e.again s n }

    by_tests : (a b : Bool) → (c == 0x2E) ≡ a → (c == 0x30) ≡ b → number_choice a b cs ≡ number big r → Numbered (number_rest c) big cs r
    by_tests true b x y h = by x y (point_taken big cs r h)
    by_tests false true x y h = by x y (zero_taken big cs r h)
    by_tests false false x y h = by x y (after_digits 10 decimal_number (0x6E ∷ 0x2E ∷ 0x65 ∷ 0x45 ∷ []) big cs r (omega arith) refl (decimal_taken big (more_digits 10 cs) r h))
