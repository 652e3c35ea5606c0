-- The name that a word with escapes stands for is a word.
use Rattle.std.proofs.Common.{◌≡◌, ℕ, zero, suc, ◌+◌, ◌-◌, ◌<◌, ◌≤◌, ◌==◌, ◌||◌, ◌&&◌, nat_le, cond, Bool, true, false, List, [], ◌∷◌, ◌++◌, length, get_or, Option, Some, None, encode_utf8, encode_utf8_all, refl, sym, ap, subst, ◌∙◌, arith, append_assoc, append-nil, length-append}
use Rattle.std.specs.List.{list_any, list_all}
use Rattle.std.specs.Int.{is_in_range}
use Rattle.std.specs.Str.{chars, all_scalars}
use Rattle.std.proofs.lemmas.Bool.{true≢false, and_parts, or_parts, or_from, or_left, and_from, eqb-true, leb-true, agree_below_at}
use Rattle.std.proofs.lemmas.Str.{chars-encodes, inside_one}
use Rattle.unicode_ident.proofs.Computing.{unicode_ident}
use Rattle.js_text.specs.Position.{is_line_terminator}
use Rattle.js_text.specs.Character.{starts_identifier, continues_identifier, is_white_space, is_gap}
use Rattle.js_text.specs.Escape.{unicode_escape, identifier_escape}
use Rattle.js_text.specs.Gap.{with_found}
use Rattle.js_text.specs.declared.goal.Goal.TheVariants as goal
use Rattle.js_text.specs.Punctuator.{longest_punctuator}
use Rattle.js_text.specs.Identifier.{is_backslash, escape_of, escaped_rest, identifier_rest, after_first, word_of_bytes, character_escape, decoded}
use Rattle.js_text.specs.Number.{number_rest}
use Rattle.js_text.specs.Units.{string_rest, template_rest}
use Rattle.js_text.specs.Token.{Kind, Word, EscapedWord, StringLiteral}
use Rattle.js_text.specs.Lex.{up_to, token_to, number_kind, template_kind, is_quote, begins_number, begins_comment, common_token}
use Rattle.js_reading.specs.Productions.{name_of}
use Rattle.js_spelling.specs.Written.{letters, first_is}
use Rattle.js_spelling.specs.Tokens.{IsToken}
use Rattle.js_spelling.proofs.Lists.{only, never, longer, scalars_left, scalars_right}
use Rattle.js_spelling.proofs.Characters.{sign_no_word, start_continues}
use Rattle.js_spelling.proofs.Escapes.{Firm, unicode_escaped}
use Rattle.js_spelling.proofs.Words.{rest_is, rest_again}
use Rattle.js_spelling.proofs.Alone.{found, choice, choice_is, up_to_is, not_to, not_by, not_mark}
use Rattle.js_spelling.proofs.Neighbours.{slash_kind}

abbrev Rest : Type 0
Rest = Option (List ℕ)

abbrev Code : Type 0
Code = Option (ℕ × List ℕ)

abbrev code : ℕ → List ℕ → Code
code v r = Some (v, r)

-- ---- an escape of an identifier

identifier_escaped : (v : ℕ) (cs r : List ℕ) → identifier_escape cs ≡ code v r → Firm identifier_escape v cs r
identifier_escaped v [] r h = absurd (never h)
identifier_escaped v (c ∷ cs) r h = by_test (c == 0x75) refl h
  where
    by_test : (b : Bool) → (c == 0x75) ≡ b → cond {A = Code} b (unicode_escape cs) None ≡ code v r → Firm identifier_escape v (c ∷ cs) r
    by_test false e h = absurd (never h)
    by_test true e h =
        let u = unicode_escaped v cs r h in
        record {
          taken = c ∷ u.taken;
          whole = ap (λ xs. c ∷ xs) u.whole;
          some = omega arith;
          again = λ s. ap (λ b. cond {A = Code} b (unicode_escape (u.taken ++ s)) None) e ∙ u.again s;
        }

-- an escape of a character that passes a test
record Passes (test : ℕ → Bool) (cs rest : List ℕ) : Type 0 where
  value : ℕ
  is : identifier_escape cs ≡ code value rest
  scalar : all_scalars (value ∷ []) ≡ true
  passes : test value ≡ true

escape_passes : (test : ℕ → Bool) (cs rest : List ℕ) → escape_of test cs ≡ Some rest → Passes test cs rest
escape_passes test cs rest h = by_escape (identifier_escape cs) refl h
  where
    by_test : (x : ℕ × List ℕ) (b : Bool) → identifier_escape cs ≡ Some x → (all_scalars (x.0 ∷ []) && test x.0) ≡ b → cond {A = Rest} b (Some x.1) None ≡ Some rest → Passes test cs rest
    by_test x false e y h = absurd (never h)
    by_test x true e y h =
        let both = and_parts (all_scalars (x.0 ∷ [])) (test x.0) y in
        record { value = x.0; is = e ∙ ap (code x.0) (only h); scalar = both.0; passes = both.1 }

    by_escape : (o : Code) → identifier_escape cs ≡ o → with_found o (λ (x : ℕ × List ℕ). cond {A = Rest} (all_scalars (x.0 ∷ []) && test x.0) (Some x.1) None) None ≡ Some rest → Passes test cs rest
    by_escape None e h = absurd (never h)
    by_escape (Some x) e h = by_test x (all_scalars (x.0 ∷ []) && test x.0) e refl h

-- ---- what characters stand for

abbrev decoded_choice : Bool → Code → ℕ → List ℕ → List ℕ
decoded_choice a o c cs = cond a (with_found o (λ (x : ℕ × List ℕ). x.0 ∷ decoded (length cs - length x.1) cs) []) (c ∷ decoded zero cs)

decoded_is : {a : Bool} {o : Code} (c : ℕ) (cs : List ℕ) → is_backslash c ≡ a → character_escape cs ≡ o → decoded zero (c ∷ cs) ≡ decoded_choice a o c cs
decoded_is {a = a} c cs x y = ap (λ t. decoded_choice t (character_escape cs) c cs) x ∙ ap (λ t. decoded_choice a t c cs) y

character_is : (v : ℕ) (cs r : List ℕ) → identifier_escape cs ≡ code v r → all_scalars (v ∷ []) ≡ true → character_escape cs ≡ code v r
character_is v cs r h s =
    ap (λ o. with_found o (λ (x : ℕ × List ℕ). cond {A = Code} (all_scalars (x.0 ∷ [])) (Some x) None) None) h ∙ ap (λ b. cond {A = Code} b (code v r) None) s

skipped : (t cs : List ℕ) → decoded (length t) (t ++ cs) ≡ decoded zero cs
skipped [] cs = refl
skipped (c ∷ t) cs = let more : length (c ∷ t) ≡ suc (length t) = omega arith in ap (λ n. decoded n (c ∷ (t ++ cs))) more ∙ skipped t cs

no_letter : (c : ℕ) → continues_identifier c ≡ true → is_backslash c ≡ false
no_letter c h = by_test (is_backslash c) refl
  where
    by_test : (b : Bool) → is_backslash c ≡ b → is_backslash c ≡ false
    by_test false e = e
    by_test true e = absurd (true≢false (sym h ∙ ap continues_identifier (eqb-true c 0x5C e) ∙ sign_no_word 0x5C refl))

-- the characters of a name, and of those that it is told by the ones that are taken
record Decodes (n : ℕ) (cs r : List ℕ) : Type 0 where
  taken : List ℕ
  whole : cs ≡ taken ++ r
  long : n ≤ length taken
  all : list_all continues_identifier (decoded n taken) ≡ true
  scalar : all_scalars (decoded n taken) ≡ true

after_escape : (c : ℕ) (cs rest r : List ℕ) → is_backslash c ≡ true → Passes continues_identifier cs rest → Decodes (length cs - length rest) cs r → Decodes zero (c ∷ cs) r
after_escape c cs rest r back p e =
    let esc = identifier_escaped p.value cs rest p.is in
    let size : length cs - length rest ≡ length esc.taken = omega (arith, ap length esc.whole, length-append esc.taken rest) in
    let split = longer esc.taken rest e.taken r (sym esc.whole ∙ e.whole) (omega (arith, size, e.long)) in
    let reads : identifier_escape e.taken ≡ code p.value split.more = ap identifier_escape split.first ∙ esc.again split.more in
    let left : length e.taken - length split.more ≡ length cs - length rest = omega (arith, size, ap length split.first, length-append esc.taken split.more) in
    let is : decoded zero (c ∷ e.taken) ≡ p.value ∷ decoded (length cs - length rest) e.taken =
    decoded_is c e.taken back (character_is p.value e.taken split.more reads p.scalar) ∙ ap (λ n. p.value ∷ decoded n e.taken) left in
    record {
      taken = c ∷ e.taken;
      whole = ap (λ xs. c ∷ xs) e.whole;
      long = omega arith;
      all = ap (list_all continues_identifier) is ∙ and_from (continues_identifier p.value) (list_all continues_identifier (decoded (length cs - length rest) e.taken)) p.passes e.all;
      scalar = ap all_scalars is ∙ and_from _ (all_scalars (decoded (length cs - length rest) e.taken)) (and_parts _ true p.scalar).0 e.scalar;
    }

decodes : (n : ℕ) (cs : List ℕ) → n ≤ length cs → all_scalars cs ≡ true → Decodes n cs (identifier_rest n cs)
decodes zero [] fits s = record { taken = []; whole = refl; long = omega arith; all = refl; scalar = refl }
decodes (suc n) [] fits s = absurd (omega arith)
decodes (suc n) (c ∷ cs) fits s =
    let e = decodes n cs (omega arith) (and_parts _ (all_scalars cs) s).1 in
    record { taken = c ∷ e.taken; whole = ap (λ xs. c ∷ xs) e.whole; long = omega (arith, e.long); all = e.all; scalar = e.scalar }
decodes zero (c ∷ cs) fits s = by_tests (continues_identifier c) (escaped_rest continues_identifier (c ∷ cs)) refl refl (λ n f. decodes n cs f (and_parts _ (all_scalars cs) s).1)
  where
    by_back : (rest : List ℕ) (b : Bool) → identifier_rest zero (c ∷ cs) ≡ identifier_rest (length cs - length rest) cs → is_backslash c ≡ b → cond {A = Rest} b (escape_of continues_identifier cs) None ≡ Some rest →
        ((n : ℕ) → n ≤ length cs → Decodes n cs (identifier_rest n cs)) → Decodes zero (c ∷ cs) (identifier_rest zero (c ∷ cs))
    by_back rest false is x h go = absurd (never h)
    by_back rest true is x h go =
        subst (Decodes zero (c ∷ cs)) (sym is) (after_escape c cs rest (identifier_rest (length cs - length rest) cs) x (escape_passes continues_identifier cs rest h) (go (length cs - length rest) (omega arith)))

    by_tests : (a : Bool) (o : Rest) → continues_identifier c ≡ a → escaped_rest continues_identifier (c ∷ cs) ≡ o → ((n : ℕ) → n ≤ length cs → Decodes n cs (identifier_rest n cs)) → Decodes zero (c ∷ cs) (identifier_rest zero (c ∷ cs))
    by_tests true o x y go =
        let e = go zero (omega arith) in
        let is : decoded zero (c ∷ e.taken) ≡ c ∷ decoded zero e.taken = decoded_is c e.taken (no_letter c x) refl in
        record {
          taken = c ∷ e.taken;
          whole = ap (λ xs. c ∷ xs) e.whole ∙ ap (λ xs. c ∷ (e.taken ++ xs)) (sym (rest_is c cs x y));
          long = omega arith;
          all = ap (list_all continues_identifier) is ∙ and_from (continues_identifier c) (list_all continues_identifier (decoded zero e.taken)) x e.all;
          scalar = ap all_scalars is ∙ and_from _ (all_scalars (decoded zero e.taken)) (and_parts _ (all_scalars cs) s).0 e.scalar;
        }
    by_tests false None x y go = record { taken = []; whole = sym (rest_is c cs x y); long = omega arith; all = refl; scalar = refl }
    by_tests false (Some rest) x y go = by_back rest (is_backslash c) (rest_is c cs x y) refl y go

-- ---- a name

-- a list of characters that an identifier has
pub record Name (cs : List ℕ) : Type 0 where
  pub first : ℕ
  pub more : List ℕ
  pub whole : cs ≡ first ∷ more
  pub start : starts_identifier first ≡ true
  pub all : list_all continues_identifier more ≡ true
  pub scalar : all_scalars cs ≡ true

-- the characters that are taken, and the name they stand for
record Named (c : ℕ) (cs r : List ℕ) : Type 0 where
  taken : List ℕ
  whole : cs ≡ taken ++ r
  name : Name (decoded zero (c ∷ taken))

named : (c : ℕ) (cs r : List ℕ) → (starts_identifier c || is_backslash c) ≡ true → all_scalars (c ∷ cs) ≡ true → after_first c cs ≡ Some r → Named c cs r
named c cs r start s h = by_back (is_backslash c) refl h
  where
    scalars : (all_scalars (c ∷ []) ≡ true) × (all_scalars cs ≡ true)
    scalars = let both = and_parts _ (all_scalars cs) s in (and_from _ true both.0 refl, both.1)

    or_first : (x y : Bool) → (x || y) ≡ true → y ≡ false → x ≡ true
    or_first true y h e = refl
    or_first false y h e = absurd (true≢false (sym h ∙ e))

    by_escape : (o : Rest) → is_backslash c ≡ true → escape_of starts_identifier cs ≡ o → with_found o (λ (rest : List ℕ). Some (identifier_rest zero rest)) None ≡ Some r → Named c cs r
    by_escape None x e h = absurd (never h)
    by_escape (Some rest) x e h =
        let p = escape_passes starts_identifier cs rest e in
        let esc = identifier_escaped p.value cs rest p.is in
        let d = decodes zero rest (omega arith) (scalars_right esc.taken rest (subst (λ xs. all_scalars xs ≡ true) esc.whole scalars.1)) in
        let size : length (esc.taken ++ d.taken) - length d.taken ≡ length esc.taken = omega (arith, length-append esc.taken d.taken) in
        let is : decoded zero (c ∷ (esc.taken ++ d.taken)) ≡ p.value ∷ decoded zero d.taken =
        decoded_is c (esc.taken ++ d.taken) x (character_is p.value (esc.taken ++ d.taken) d.taken (esc.again d.taken) p.scalar)
        ∙ ap (λ n. p.value ∷ decoded n (esc.taken ++ d.taken)) size ∙ ap (λ xs. p.value ∷ xs) (skipped esc.taken d.taken) in
        record {
          taken = esc.taken ++ d.taken;
          whole = esc.whole ∙ ap (λ xs. esc.taken ++ xs) (d.whole ∙ ap (λ xs. d.taken ++ xs) (only h)) ∙ sym (append_assoc esc.taken d.taken r);
          name = record {
            first = p.value;
            more = decoded zero d.taken;
            whole = is;
            start = p.passes;
            all = d.all;
            scalar = ap all_scalars is ∙ and_from _ (all_scalars (decoded zero d.taken)) (and_parts _ true p.scalar).0 d.scalar;
          };
        }

    by_back : (b : Bool) → is_backslash c ≡ b → cond {A = Rest} b (with_found (escape_of starts_identifier cs) (λ (rest : List ℕ). Some (identifier_rest zero rest)) None) (Some (identifier_rest zero cs)) ≡ Some r → Named c cs r
    by_back true x h = by_escape (escape_of starts_identifier cs) x refl h
    by_back false x h =
        let d = decodes zero cs (omega arith) scalars.1 in
        let is : decoded zero (c ∷ d.taken) ≡ c ∷ decoded zero d.taken = decoded_is c d.taken x refl in
        record {
          taken = d.taken;
          whole = d.whole ∙ ap (λ xs. d.taken ++ xs) (only h);
          name = record {
            first = c;
            more = decoded zero d.taken;
            whole = is;
            start = or_first (starts_identifier c) (is_backslash c) start x;
            all = d.all;
            scalar = ap all_scalars is ∙ and_from _ (all_scalars (decoded zero d.taken)) (and_parts _ true scalars.0).0 d.scalar;
          };
        }

-- ---- no byte of a name is a backslash

record At (xs : List ℕ) : Type 0 where
  index : ℕ
  within : index < length xs
  is : get_or xs index 0 ≡ 0x5C

any_at : (xs : List ℕ) → list_any is_backslash xs ≡ true → At xs
any_at [] h = absurd (true≢false (sym h))
any_at (x ∷ xs) h = by_test (is_backslash x) refl h (any_at xs)
  where
    by_test : (b : Bool) → is_backslash x ≡ b → (b || list_any is_backslash xs) ≡ true → (list_any is_backslash xs ≡ true → At xs) → At (x ∷ xs)
    by_test true e h go = record { index = zero; within = omega arith; is = eqb-true x 0x5C e }
    by_test false e h go = let at = go h in record { index = suc at.index; within = omega (arith, at.within); is = at.is }

byte_plain : (c : ℕ) → is_backslash c ≡ false → list_any is_backslash (encode_utf8 c) ≡ false
byte_plain c h = by_test (list_any is_backslash (encode_utf8 c)) refl
  where
    by_test : (b : Bool) → list_any is_backslash (encode_utf8 c) ≡ b → list_any is_backslash (encode_utf8 c) ≡ false
    by_test false e = e
    by_test true e =
        let at = any_at (encode_utf8 c) e in
        let same : c ≡ get_or (encode_utf8 c) at.index 0 = inside_one c [] (encode_utf8 c) at.index (sym (append-nil (encode_utf8 c))) at.within (omega (arith, at.is)) in
        absurd (true≢false (sym (ap is_backslash (same ∙ at.is)) ∙ h))

any_append : (test : ℕ → Bool) (xs ys : List ℕ) → list_any test xs ≡ false → list_any test ys ≡ false → list_any test (xs ++ ys) ≡ false
any_append test [] ys h k = k
any_append test (x ∷ xs) ys h k = let both = or_parts (test x) (list_any test xs) h in or_from (test x) (list_any test (xs ++ ys)) both.0 (any_append test xs ys both.1 k)

bytes_plain : (cs : List ℕ) → list_all continues_identifier cs ≡ true → list_any is_backslash (encode_utf8_all cs) ≡ false
bytes_plain [] h = refl
bytes_plain (c ∷ cs) h =
    let both = and_parts (continues_identifier c) (list_all continues_identifier cs) h in
    any_append is_backslash (encode_utf8 c) (encode_utf8_all cs) (byte_plain c (no_letter c both.0)) (bytes_plain cs both.1)

-- ---- what starts an identifier is no white space

no_start_at : (x : ℕ) (c : ℕ) → starts_identifier x ≡ false → (c == x) ≡ true → starts_identifier c ≡ false
no_start_at x c h e = ap starts_identifier (eqb-true c x e) ∙ h

either_way : {R : Type 0} (a b : Bool) → (a ≡ true → R) → (b ≡ true → R) → (a || b) ≡ true → R
either_way true b f g h = f refl
either_way false b f g h = g h

space_range : (c : ℕ) → is_in_range 0x2000 0x200A c ≡ true → starts_identifier c ≡ false
unfolding starts_identifier unicode_ident
space_range c h =
    let both = and_parts (nat_le 0x2000 c) (nat_le c 0x200A) h in
    let low : 0x2000 ≤ c = leb-true 0x2000 c both.0 in
    let high : c ≤ 0x200A = leb-true c 0x200A both.1 in
    let same : 0x2000 + (c - 0x2000) ≡ c = omega arith in
    ap starts_identifier (sym same) ∙ agree_below_at (λ k. starts_identifier (0x2000 + k)) (λ k. false) 11 (c - 0x2000) refl (omega arith)

gap_no_start : (c : ℕ) → is_gap c ≡ true → starts_identifier c ≡ false
unfolding is_gap starts_identifier unicode_ident
gap_no_start c h =
    either_way (is_white_space c) (is_line_terminator c)
    (either_way _ (c == 0x3000) (either_way _ (c == 0x205F) (either_way _ (c == 0x202F) (either_way _ (is_in_range 0x2000 0x200A c) (either_way _ (c == 0x1680) (either_way _ (c == 0xFEFF)
    (either_way _ (c == 0xA0) (either_way _ (c == 0x20) (either_way _ (c == 0x0C) (either_way (c == 0x09) (c == 0x0B)
    (no_start_at 0x09 c refl) (no_start_at 0x0B c refl)) (no_start_at 0x0C c refl)) (no_start_at 0x20 c refl)) (no_start_at 0xA0 c refl)) (no_start_at 0xFEFF c refl)) (no_start_at 0x1680 c refl))
    (space_range c)) (no_start_at 0x202F c refl)) (no_start_at 0x205F c refl)) (no_start_at 0x3000 c refl))
    (either_way _ (c == 0x2029) (either_way _ (c == 0x2028) (either_way (c == 0x0A) (c == 0x0D) (no_start_at 0x0A c refl) (no_start_at 0x0D c refl)) (no_start_at 0x2028 c refl)) (no_start_at 0x2029 c refl))
    h

start_no_gap : (c : ℕ) → starts_identifier c ≡ true → is_gap c ≡ false
start_no_gap c h = by_test (is_gap c) refl
  where
    by_test : (b : Bool) → is_gap c ≡ b → is_gap c ≡ false
    by_test false e = e
    by_test true e = absurd (true≢false (sym h ∙ gap_no_start c e))

-- ---- a name is a word

abbrev plain_choice : Bool → List ℕ → Rest
plain_choice b cs = cond {A = Rest} b (with_found (escape_of starts_identifier cs) (λ (rest : List ℕ). Some (identifier_rest zero rest)) None) (Some (identifier_rest zero cs))

name_token : (c : ℕ) (cs : List ℕ) → starts_identifier c ≡ true → list_all continues_identifier cs ≡ true → common_token goal.Div (c ∷ cs) ≡ Some (found (Word (encode_utf8_all (c ∷ cs))) (length (c ∷ cs)))
name_token c cs start all =
    let letter = start_continues c start in
    let plain = bytes_plain (c ∷ cs) (and_from (continues_identifier c) (list_all continues_identifier cs) letter all) in
    let rest : identifier_rest zero cs ≡ [] = ap (identifier_rest zero) (sym (append-nil cs)) ∙ rest_again cs [] all refl refl in
    let upto : up_to word_of_bytes c cs [] ≡ found (word_of_bytes (encode_utf8_all (c ∷ cs))) (length (c ∷ cs)) = ap (λ xs. up_to word_of_bytes c xs []) (sym (append-nil cs)) ∙ up_to_is word_of_bytes c cs [] in
    choice_is goal.Div c cs (or_left (starts_identifier c) (is_backslash c) start) refl refl refl refl
    ∙ ap (token_to word_of_bytes c cs) (ap (λ b. plain_choice b cs) (no_letter c letter) ∙ ap Some rest)
    ∙ ap Some upto ∙ ap (λ b. Some (found (cond b (EscapedWord (encode_utf8_all (c ∷ cs))) (Word (encode_utf8_all (c ∷ cs)))) (length (c ∷ cs)))) plain

name_is_token : (cs : List ℕ) → Name cs → IsToken (Word (encode_utf8_all cs))
name_is_token cs n =
    let same : letters (Word (encode_utf8_all cs)) ≡ cs = chars-encodes cs n.scalar in
    let whole : letters (Word (encode_utf8_all cs)) ≡ n.first ∷ n.more = same ∙ n.whole in
    record {
      written = refl;
      utf8 = (cs, (n.scalar, refl));
      no_gap = ap (first_is is_gap) whole ∙ start_no_gap n.first n.start;
      some = subst (λ xs. 0 < length xs) (sym whole) (let long : 0 < length (n.first ∷ n.more) = omega arith in long);
      alone = subst (λ xs. common_token goal.Div xs ≡ Some (found (Word (encode_utf8_all cs)) (length xs))) (sym whole)
          (name_token n.first n.more n.start n.all ∙ ap (λ xs. Some (found (Word (encode_utf8_all xs)) (length (n.first ∷ n.more)))) (sym n.whole));
    }

-- ---- a word with escapes

abbrev is_escaped : Kind → Bool
is_escaped (EscapedWord w) = true
is_escaped k = false

number_plain : (b : Bool) (w : List ℕ) → is_escaped (number_kind b w) ≡ false
number_plain true w = refl
number_plain false w = refl

template_plain : (b : Bool) (w : List ℕ) → is_escaped (template_kind b w) ≡ false
template_plain true w = refl
template_plain false w = refl

escaped_bytes : (v w : List ℕ) → word_of_bytes v ≡ EscapedWord w → v ≡ w
escaped_bytes v w h = by_test (list_any is_backslash v) h
  where
    by_test : (b : Bool) → cond b (EscapedWord v) (Word v) ≡ EscapedWord w → v ≡ w
    by_test true h = cc
    by_test false h = absurd (true≢false (ap is_escaped (sym h)))

pub escaped_name : (w : List ℕ) (n c : ℕ) (cs : List ℕ) → all_scalars (c ∷ cs) ≡ true → common_token goal.Div (c ∷ cs) ≡ Some (found (EscapedWord w) n) → IsToken (Word (name_of w))
escaped_name w n c cs s h =
    by_tests (starts_identifier c || is_backslash c) (begins_number c cs) (is_quote c) (c == 0x60) (c == 0x2F) refl (sym (choice_is goal.Div c cs refl refl refl refl refl) ∙ h)
  where
    by_rest : (o : Rest) → (starts_identifier c || is_backslash c) ≡ true → after_first c cs ≡ o → token_to word_of_bytes c cs o ≡ Some (found (EscapedWord w) n) → IsToken (Word (name_of w))
    by_rest None x e h = absurd (never h)
    by_rest (Some r) x e h =
        let d = named c cs r x s e in
        let at : found (word_of_bytes (encode_utf8_all (c ∷ d.taken))) (length (c ∷ d.taken)) ≡ found (EscapedWord w) n =
        sym (up_to_is word_of_bytes c d.taken r) ∙ ap (λ xs. up_to word_of_bytes c xs r) (sym d.whole) ∙ only h in
        let bytes : encode_utf8_all (c ∷ d.taken) ≡ w = escaped_bytes (encode_utf8_all (c ∷ d.taken)) w (ap (λ (p : Kind × ℕ). p.0) at) in
        let scalar : all_scalars (c ∷ d.taken) ≡ true = scalars_left (c ∷ d.taken) r (subst (λ xs. all_scalars (c ∷ xs) ≡ true) d.whole s) in
        let name : chars w ≡ c ∷ d.taken = ap chars (sym bytes) ∙ chars-encodes (c ∷ d.taken) scalar in
        subst (λ xs. IsToken (Word (encode_utf8_all (decoded zero xs)))) (sym name) (name_is_token (decoded zero (c ∷ d.taken)) d.name)

    by_tests : (t u d e f : Bool) → (starts_identifier c || is_backslash c) ≡ t → choice t u d e f goal.Div c cs ≡ Some (found (EscapedWord w) n) → IsToken (Word (name_of w))
    by_tests true u d e f x h = by_rest (after_first c cs) x refl h
    by_tests false true d e f x h = absurd (not_by is_escaped number_kind c cs (number_rest c cs) (EscapedWord w) n refl number_plain h)
    by_tests false false true e f x h = absurd (not_to is_escaped StringLiteral c cs (string_rest c zero cs) (EscapedWord w) n refl (λ q. refl) h)
    by_tests false false false true f x h = absurd (not_by is_escaped template_kind c cs (template_rest zero cs) (EscapedWord w) n refl template_plain h)
    by_tests false false false false true x h = absurd (slash_kind is_escaped goal.Div cs (EscapedWord w) n refl (λ q. refl) (λ q. refl) (begins_comment cs) h)
    by_tests false false false false false x h = absurd (not_mark is_escaped goal.Div (longest_punctuator (c ∷ cs)) (EscapedWord w) n refl (λ q. refl) h)
