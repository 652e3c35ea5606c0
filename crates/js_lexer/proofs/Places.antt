-- Moving over characters.
use Rattle.std.proofs.Common.{◌≡◌, ℕ, zero, suc, ◌==◌, encode_utf8_all, List, [], ◌∷◌, ◌++◌, length, take, drop, slice_get, Option, Some, None, IfSome, IfNone, refl, sym, ap, ◌∙◌, append_assoc, append-nil, arith}
use Rattle.std.proofs.lemmas.Bool.{ne_eqb}
use Rattle.std.proofs.lemmas.Str.{encodes-append, len_utf8_bounds}
use Rattle.js_text.specs.Place.{Place}
use Rattle.js_text.specs.Gap.{is_start}
use Rattle.js_text.specs.Lex.{moved, characters_of}
use Rattle.js_text.proofs.Place.{length-encodes-cons}

abbrev pub between : List ℕ → List ℕ → Place
between before after = record { before = before; after = after }

-- the character that follows was moved over
pub record MovesOver (p q : Place) (c : ℕ) : Type 0 where
  pub after : p.after ≡ c ∷ q.after
  pub before : q.before ≡ p.before ++ c ∷ []

pub bumped : (p q : Place) (r : Option ℕ) (c : ℕ) → slice_get p.after 0 ≡ Some c → IfSome r (λ n. p.after ≡ n ∷ q.after) → IfSome r (λ n. q.before ≡ p.before ++ n ∷ []) →
    IfNone r (p.after ≡ []) → MovesOver p q c
bumped p q None c h after before none = let e : slice_get p.after 0 ≡ None = ap (λ xs. slice_get xs 0) none in absurd cc
bumped p q (Some d) c h after before none =
    let e : slice_get p.after 0 ≡ Some d = ap (λ xs. slice_get xs 0) after in
    let same : d ≡ c = cc in
    record { after = after ∙ ap (λ x. x ∷ q.after) same; before = before ∙ ap (λ x. p.before ++ x ∷ []) same }

pub moved-zero : (p : Place) → p ≡ moved 0 p
moved-zero p = ap (λ xs. between xs p.after) (sym (append-nil p.before))

-- a move goes on from the character that was moved over
pub moved-suc : (p q : Place) (c n : ℕ) → MovesOver p q c → moved (suc n) p ≡ moved n q
moved-suc p q c n e =
    ap (λ xs. moved (suc n) (between p.before xs)) e.after
    ∙ ap (λ xs. between xs (drop n q.after)) (sym (append_assoc p.before (c ∷ []) (take n q.after)))
    ∙ ap (λ xs. between (xs ++ take n q.after) (drop n q.after)) (sym e.before)

take-end : (n : ℕ) (cs : List ℕ) → cs ≡ [] → take n cs ≡ []
take-end zero cs e = refl
take-end (suc n) [] e = refl
take-end (suc n) (c ∷ cs) e = absurd cc

drop-end : (n : ℕ) (cs : List ℕ) → cs ≡ [] → drop n cs ≡ cs
drop-end zero cs e = refl
drop-end (suc n) [] e = refl
drop-end (suc n) (c ∷ cs) e = absurd cc

-- there is nothing to move over at the end
pub moved-end : (p : Place) (n : ℕ) → p.after ≡ [] → moved n p ≡ p
moved-end p n e =
    ap (λ xs. between (p.before ++ xs) (drop n p.after)) (take-end n p.after e)
    ∙ ap (λ xs. between (p.before ++ []) xs) (drop-end n p.after e)
    ∙ ap (λ xs. between xs p.after) (append-nil p.before)

-- a move stays in the text
pub take-drop : (n : ℕ) (cs : List ℕ) → take n cs ++ drop n cs ≡ cs
take-drop zero cs = refl
take-drop (suc n) [] = refl
take-drop (suc n) (c ∷ cs) = ap (λ xs. c ∷ xs) (take-drop n cs)

pub characters_of-moved : (n : ℕ) (p : Place) → characters_of (moved n p) ≡ characters_of p
characters_of-moved n p = append_assoc p.before (take n p.after) (drop n p.after) ∙ ap (λ xs. p.before ++ xs) (take-drop n p.after)

-- the bytes of what is moved over and of what follows it
pub encodes-take-drop : (n : ℕ) (cs : List ℕ) → encode_utf8_all cs ≡ encode_utf8_all (take n cs) ++ encode_utf8_all (drop n cs)
encodes-take-drop n cs = ap encode_utf8_all (sym (take-drop n cs)) ∙ encodes-append (take n cs) (drop n cs)

pub front-of : (whole rest : List ℕ) (p q : Place) (n : ℕ) → whole ≡ encode_utf8_all p.after → rest ≡ encode_utf8_all q.after → q ≡ moved n p →
    whole ≡ encode_utf8_all (take n p.after) ++ rest
front-of whole rest p q n bytes others e =
    bytes ∙ encodes-take-drop n p.after ∙ ap (λ xs. encode_utf8_all (take n p.after) ++ xs) (sym (others ∙ ap (λ (r : Place). encode_utf8_all r.after) e))

-- ---- the characters that pass a test

-- one character less to move over, after a move or at the end
pub moved-bump : (p q : Place) (r : Option ℕ) (n : ℕ) → IfSome r (λ c. p.after ≡ c ∷ q.after) → IfSome r (λ c. q.before ≡ p.before ++ c ∷ []) →
    IfNone r (p.after ≡ []) → IfNone r (q ≡ p) → moved (suc n) p ≡ moved n q
moved-bump p q None n after before end same =
    moved-end p (suc n) end ∙ sym same ∙ sym (moved-end q n (ap (λ (r : Place). r.after) same ∙ end))
moved-bump p q (Some c) n after before end same = moved-suc p q c n (record { after = after; before = before })

pub moved-less : (p q : Place) (r : Option ℕ) (m n : ℕ) → m ≡ suc n → IfSome r (λ c. p.after ≡ c ∷ q.after) → IfSome r (λ c. q.before ≡ p.before ++ c ∷ []) →
    IfNone r (p.after ≡ []) → IfNone r (q ≡ p) → moved n q ≡ moved m p
moved-less p q r m n e after before end same = sym (ap (λ k. moved k p) e ∙ moved-bump p q r n after before end same)

-- no bytes stand before a place exactly where no character does
pub start-is : (before : List ℕ) → (length (encode_utf8_all before) == 0) ≡ is_start before
start-is [] = refl
start-is (c ∷ before) = ne_eqb _ 0 (λ e. let some : ⊥ = omega (arith, e, length-encodes-cons c before, len_utf8_bounds c) in some)
