-- Where strings, templates and regular expressions end doesn't hang on what follows them.
use Rattle.std.proofs.Common.{◌≡◌, ℕ, zero, suc, ◌+◌, ◌-◌, ◌<◌, ◌≤◌, ◌==◌, ◌||◌, ◌&&◌, not, cond, Bool, true, false, List, [], ◌∷◌, ◌++◌, length, drop, Option, Some, None, refl, sym, ap, ◌∙◌, arith, append_assoc, length-append}
use Rattle.std.proofs.lemmas.Bool.{true≢false, and_parts}
use Rattle.js_text.specs.Position.{is_line_terminator}
use Rattle.js_text.specs.Character.{begins_with_character}
use Rattle.js_text.specs.Escape.{escape}
use Rattle.js_text.specs.Gap.{with_found}
use Rattle.js_text.specs.Units.{string_rest, template_rest}
use Rattle.js_text.specs.RegularExpression.{body_rest}
use Rattle.js_spelling.proofs.Lists.{only, never, Alike, alike_whole, same_character, longer}
use Rattle.js_spelling.proofs.Escapes.{escape_escaped}

-- a reader that passes over so many characters first takes these, whatever follows
pub record Ended {A : Type 0} (go : ℕ → List ℕ → Option A) (answer : List ℕ → A) (n : ℕ) (cs r : List ℕ) : Type 0 where
  pub taken : List ℕ
  pub whole : cs ≡ taken ++ r
  pub long : n < length taken
  pub again : (s : List ℕ) → go n (taken ++ s) ≡ Some (answer s)

one_first : {A : Type 0} (go : ℕ → List ℕ → Option A) (answer : List ℕ → A) (c : ℕ) (cs r : List ℕ) → cs ≡ r → ((s : List ℕ) → go zero (c ∷ s) ≡ Some (answer s)) → Ended go answer zero (c ∷ cs) r
one_first go answer c cs r e f = record { taken = c ∷ []; whole = ap (λ xs. c ∷ xs) e; long = omega arith; again = f }

after_one : {A : Type 0} (go : ℕ → List ℕ → Option A) (answer : List ℕ → A) (n m c : ℕ) (cs r : List ℕ) → Ended go answer n cs r → m ≤ n + 1 → ((s : List ℕ) → Alike cs s → go m (c ∷ s) ≡ go n s) →
    Ended go answer m (c ∷ cs) r
after_one go answer n m c cs r e fits f = record {
  taken = c ∷ e.taken;
  whole = ap (λ xs. c ∷ xs) e.whole;
  long = omega (arith, e.long);
  again = λ s. f (e.taken ++ s) (alike_whole cs e.taken r s e.whole (omega (arith, e.long))) ∙ e.again s;
}

after_escape : {A : Type 0} (go : ℕ → List ℕ → Option A) (answer : List ℕ → A) (c : ℕ) (cs r : List ℕ) (found : Option ℕ × List ℕ) → escape cs ≡ Some found →
    ((s : List ℕ) → Alike cs s → go zero (c ∷ s) ≡ with_found (escape s) (λ (x : Option ℕ × List ℕ). go (length s - length x.1) s) None) →
    Ended go answer (length cs - length found.1) cs r → Ended go answer zero (c ∷ cs) r
after_escape go answer c cs r found h f e =
    let esc = escape_escaped found.0 cs found.1 h in
    let size : length cs - length found.1 ≡ length esc.taken = omega (arith, ap length esc.whole, length-append esc.taken found.1) in
    let fits : length esc.taken < length e.taken = omega (arith, e.long, size) in
    let split = longer esc.taken found.1 e.taken r (sym esc.whole ∙ e.whole) (omega (arith, fits)) in
    let some : 0 < length split.more = omega (arith, fits, ap length split.first, length-append esc.taken split.more) in
    record {
      taken = c ∷ e.taken;
      whole = ap (λ xs. c ∷ xs) e.whole;
      long = omega arith;
      again = λ s.
          let at : e.taken ++ s ≡ esc.taken ++ (split.more ++ s) = ap (λ xs. xs ++ s) split.first ∙ append_assoc esc.taken split.more s in
          let reads : escape (e.taken ++ s) ≡ Some (found.0, split.more ++ s) = ap escape at ∙ esc.again (split.more ++ s) (alike_whole found.1 split.more r s split.second some) in
          let left : length (e.taken ++ s) - length (split.more ++ s) ≡ length cs - length found.1 = omega (arith, size, ap length at, length-append esc.taken (split.more ++ s)) in
          f (e.taken ++ s) (alike_whole cs e.taken r s e.whole (omega (arith, fits)))
          ∙ ap (λ o. with_found o (λ (x : Option ℕ × List ℕ). go (length (e.taken ++ s) - length x.1) (e.taken ++ s)) None) reads
          ∙ ap (λ m. go m (e.taken ++ s)) left ∙ e.again s;
    }

-- ---- strings

abbrev in_string : ℕ → List ℕ → Option (List ℕ)
in_string q cs = with_found (escape cs) (λ (x : Option ℕ × List ℕ). string_rest q (length cs - length x.1) cs) None

abbrev string_choice : Bool → Bool → Bool → ℕ → List ℕ → Option (List ℕ)
string_choice a b d q cs = cond {A = Option (List ℕ)} a (Some cs) (cond {A = Option (List ℕ)} b None (cond {A = Option (List ℕ)} d (in_string q cs) (string_rest q zero cs)))

string_is : {a b d : Bool} (q c : ℕ) (s : List ℕ) → (c == q) ≡ a → ((c == 0x0A) || (c == 0x0D)) ≡ b → (c == 0x5C) ≡ d → string_rest q zero (c ∷ s) ≡ string_choice a b d q s
string_is {a = a} {b = b} q c s x y z =
    ap (λ t. string_choice t ((c == 0x0A) || (c == 0x0D)) (c == 0x5C) q s) x ∙ ap (λ t. string_choice a t (c == 0x5C) q s) y ∙ ap (λ t. string_choice a b t q s) z

pub string_ended : (q n : ℕ) (cs r : List ℕ) → string_rest q n cs ≡ Some r → Ended (string_rest q) (λ s. s) n cs r
string_ended q n [] r h = absurd (never h)
string_ended q (suc n) (c ∷ cs) r h = after_one (string_rest q) (λ s. s) n (suc n) c cs r (string_ended q n cs r h) (omega arith) (λ s like. refl)
string_ended q zero (c ∷ cs) r h = by_tests (c == q) ((c == 0x0A) || (c == 0x0D)) (c == 0x5C) refl refl refl h (λ m e. string_ended q m cs r e)
  where
    by_tests : (a b d : Bool) → (c == q) ≡ a → ((c == 0x0A) || (c == 0x0D)) ≡ b → (c == 0x5C) ≡ d → string_choice a b d q cs ≡ Some r →
        ((m : ℕ) → string_rest q m cs ≡ Some r → Ended (string_rest q) (λ s. s) m cs r) → Ended (string_rest q) (λ s. s) zero (c ∷ cs) r
    by_tests true b d x y z h go = one_first (string_rest q) (λ s. s) c cs r (only h) (λ s. string_is q c s x y z)
    by_tests false true d x y z h go = absurd (never h)
    by_tests false false true x y z h go = by_escape (escape cs) refl h
      where
        by_escape : (o : Option (Option ℕ × List ℕ)) → escape cs ≡ o → with_found o (λ (x : Option ℕ × List ℕ). string_rest q (length cs - length x.1) cs) None ≡ Some r → Ended (string_rest q) (λ s. s) zero (c ∷ cs) r
        by_escape None e h = absurd (never h)
        by_escape (Some found) e h = after_escape (string_rest q) (λ s. s) c cs r found e (λ s like. string_is q c s x y z) (go (length cs - length found.1) h)
    by_tests false false false x y z h go = after_one (string_rest q) (λ s. s) zero zero c cs r (go zero h) (omega arith) (λ s like. string_is q c s x y z)

-- ---- templates

abbrev Part : Type 0
Part = Option (Bool × List ℕ)

abbrev part : Bool → List ℕ → Part
part b cs = Some (b, cs)

abbrev in_template : List ℕ → Part
in_template cs = with_found (escape cs) (λ (x : Option ℕ × List ℕ). template_rest (length cs - length x.1) cs) None

abbrev template_choice : Bool → Bool → Bool → List ℕ → Part
template_choice a b d cs = cond {A = Part} a (part true cs) (cond {A = Part} b (part false (drop 1 cs)) (cond {A = Part} d (in_template cs) (template_rest zero cs)))

template_is : {a b d : Bool} (c : ℕ) (s : List ℕ) → (c == 0x60) ≡ a → ((c == 0x24) && begins_with_character 0x7B s) ≡ b → (c == 0x5C) ≡ d → template_rest zero (c ∷ s) ≡ template_choice a b d s
template_is {a = a} {b = b} c s x y z =
    ap (λ t. template_choice t ((c == 0x24) && begins_with_character 0x7B s) (c == 0x5C) s) x ∙ ap (λ t. template_choice a t (c == 0x5C) s) y ∙ ap (λ t. template_choice a b t s) z

-- a `${` ends it
opened : (b : Bool) (c : ℕ) (cs r : List ℕ) → (c == 0x60) ≡ false → ((c == 0x24) && begins_with_character 0x7B cs) ≡ true → part false (drop 1 cs) ≡ part b r → Ended template_rest (λ s. (b, s)) zero (c ∷ cs) r
opened b c [] r x y h = absurd (true≢false (sym (and_parts (c == 0x24) false y).1))
opened b c (d ∷ ds) r x y h = record {
  taken = c ∷ d ∷ [];
  whole = ap (λ (p : Bool × List ℕ). c ∷ d ∷ p.1) (only h);
  long = omega arith;
  again = λ s. template_is c (d ∷ s) x y refl ∙ ap (λ (p : Bool × List ℕ). part p.0 s) (only h);
}

pub template_ended : (b : Bool) (n : ℕ) (cs r : List ℕ) → template_rest n cs ≡ part b r → Ended template_rest (λ s. (b, s)) n cs r
template_ended b n [] r h = absurd (never h)
template_ended b (suc n) (c ∷ cs) r h = after_one template_rest (λ s. (b, s)) n (suc n) c cs r (template_ended b n cs r h) (omega arith) (λ s like. refl)
template_ended b zero (c ∷ cs) r h = by_tests (c == 0x60) ((c == 0x24) && begins_with_character 0x7B cs) (c == 0x5C) refl refl refl h (λ m e. template_ended b m cs r e)
  where
    same : {t : Bool} (s : List ℕ) → Alike cs s → ((c == 0x24) && begins_with_character 0x7B cs) ≡ t → ((c == 0x24) && begins_with_character 0x7B s) ≡ t
    same s like y = ap (λ u. (c == 0x24) && u) (same_character 0x7B cs s like) ∙ y

    by_tests : (t u d : Bool) → (c == 0x60) ≡ t → ((c == 0x24) && begins_with_character 0x7B cs) ≡ u → (c == 0x5C) ≡ d → template_choice t u d cs ≡ part b r →
        ((m : ℕ) → template_rest m cs ≡ part b r → Ended template_rest (λ s. (b, s)) m cs r) → Ended template_rest (λ s. (b, s)) zero (c ∷ cs) r
    by_tests true u d x y z h go = record {
      taken = c ∷ [];
      whole = ap (λ (p : Bool × List ℕ). c ∷ p.1) (only h);
      long = omega arith;
      again = λ s. ap (λ t. template_choice t ((c == 0x24) && begins_with_character 0x7B s) (c == 0x5C) s) x ∙ ap (λ (p : Bool × List ℕ). part p.0 s) (only h);
    }
    by_tests false true d x y z h go = opened b c cs r x y h
    by_tests false false true x y z h go = by_escape (escape cs) refl h
      where
        by_escape : (o : Option (Option ℕ × List ℕ)) → escape cs ≡ o → with_found o (λ (x : Option ℕ × List ℕ). template_rest (length cs - length x.1) cs) None ≡ part b r → Ended template_rest (λ s. (b, s)) zero (c ∷ cs) r
        by_escape None e h = absurd (never h)
        by_escape (Some found) e h = after_escape template_rest (λ s. (b, s)) c cs r found e (λ s like. template_is c s x (same s like y) z) (go (length cs - length found.1) h)
    by_tests false false false x y z h go = after_one template_rest (λ s. (b, s)) zero zero c cs r (go zero h) (omega arith) (λ s like. template_is c s x (same s like y) z)

-- ---- the bodies of regular expressions

pub record Body (escaped inside : Bool) (cs r : List ℕ) : Type 0 where
  pub taken : List ℕ
  pub whole : cs ≡ taken ++ r
  pub some : 0 < length taken
  pub again : (s : List ℕ) → body_rest escaped inside (taken ++ s) ≡ Some s

abbrev Rest : Type 0
Rest = Option (List ℕ)

abbrev body_choice : Bool → Bool → Bool → Bool → Bool → Bool → Bool → List ℕ → Rest
body_choice escaped inside a b d e f cs =
    cond {A = Rest} a None (cond {A = Rest} escaped (body_rest false inside cs) (cond {A = Rest} b (body_rest true inside cs) (cond {A = Rest} d (body_rest false true cs)
    (cond {A = Rest} e (body_rest false false cs) (cond {A = Rest} f (Some cs) (body_rest false inside cs))))))

body_is : {a b d e f : Bool} (escaped inside : Bool) (c : ℕ) (s : List ℕ) → is_line_terminator c ≡ a → (c == 0x5C) ≡ b → (c == 0x5B) ≡ d → (c == 0x5D) ≡ e → ((c == 0x2F) && not inside) ≡ f →
    body_rest escaped inside (c ∷ s) ≡ body_choice escaped inside a b d e f s
body_is {a = a} {b = b} {d = d} {e = e} escaped inside c s x y z w u =
    ap (λ t. body_choice escaped inside t (c == 0x5C) (c == 0x5B) (c == 0x5D) ((c == 0x2F) && not inside) s) x
    ∙ ap (λ t. body_choice escaped inside a t (c == 0x5B) (c == 0x5D) ((c == 0x2F) && not inside) s) y
    ∙ ap (λ t. body_choice escaped inside a b t (c == 0x5D) ((c == 0x2F) && not inside) s) z
    ∙ ap (λ t. body_choice escaped inside a b d t ((c == 0x2F) && not inside) s) w
    ∙ ap (λ t. body_choice escaped inside a b d e t s) u

after_body : (p q : Bool) (escaped inside : Bool) (c : ℕ) (cs r : List ℕ) → Body p q cs r → ((s : List ℕ) → body_rest escaped inside (c ∷ s) ≡ body_rest p q s) → Body escaped inside (c ∷ cs) r
after_body p q escaped inside c cs r e f = record { taken = c ∷ e.taken; whole = ap (λ xs. c ∷ xs) e.whole; some = omega arith; again = λ s. f (e.taken ++ s) ∙ e.again s }

pub body_taken : (escaped inside : Bool) (cs r : List ℕ) → body_rest escaped inside cs ≡ Some r → Body escaped inside cs r
body_taken escaped inside [] r h = absurd (never h)
body_taken escaped inside (c ∷ cs) r h =
    by_tests escaped (is_line_terminator c) (c == 0x5C) (c == 0x5B) (c == 0x5D) ((c == 0x2F) && not inside) refl refl refl refl refl
    (sym (body_is escaped inside c cs refl refl refl refl refl) ∙ h) (λ p q e. body_taken p q cs r e)
  where
    by_tests : (o a b d e f : Bool) → is_line_terminator c ≡ a → (c == 0x5C) ≡ b → (c == 0x5B) ≡ d → (c == 0x5D) ≡ e → ((c == 0x2F) && not inside) ≡ f → body_choice o inside a b d e f cs ≡ Some r →
        ((p q : Bool) → body_rest p q cs ≡ Some r → Body p q cs r) → Body o inside (c ∷ cs) r
    by_tests o true b d e f x y z w u h go = absurd (never h)
    by_tests true false b d e f x y z w u h go = after_body false inside true inside c cs r (go false inside h) (λ s. body_is true inside c s x y z w u)
    by_tests false false true d e f x y z w u h go = after_body true inside false inside c cs r (go true inside h) (λ s. body_is false inside c s x y z w u)
    by_tests false false false true e f x y z w u h go = after_body false true false inside c cs r (go false true h) (λ s. body_is false inside c s x y z w u)
    by_tests false false false false true f x y z w u h go = after_body false false false inside c cs r (go false false h) (λ s. body_is false inside c s x y z w u)
    by_tests false false false false false true x y z w u h go =
        record { taken = c ∷ []; whole = ap (λ xs. c ∷ xs) (only h); some = omega arith; again = λ s. body_is false inside c s x y z w u }
    by_tests false false false false false false x y z w u h go = after_body false inside false inside c cs r (go false inside h) (λ s. body_is false inside c s x y z w u)
