-- Two lists of which elements stand for each other: they grow and are written to.
use Rattle.std.proofs.Common.{◌≡◌, ◌≢◌, ℕ, ◌<◌, List, [], ◌∷◌, ◌++◌, length, get_or, set, refl, sym, ◌∙◌, subst, ⊎_elim, ◌⊎◌, inl, inr, arith, true, false}
use Rattle.std.specs.Prelude.{◌==◌}
use Rattle.std.proofs.lemmas.Bool.{cases_eq, false_from_ne_true, eqb-true}
use Rattle.std.proofs.lemmas.List.{get_or_append_left, get_or_push, get_or-set_same, get_or-set_other, length-set, length_push}
use Rattle.js_two_runs.specs.Pairs.{Pairs, Paired, here, there, Corresponds}

-- the newest pair, or an older one
pub newest : {o p r q : ℕ} {pairs : Pairs} → Paired ((r, q) ∷ pairs) o p → ((o ≡ r) × (p ≡ q)) ⊎ Paired pairs o p
newest here = inl (refl, refl)
newest (there i) = inr i

pub subst2 : {A : Type 0} (P : A → A → Type 0) {a a' b b' : A} → a ≡ a' → b ≡ b' → P a b → P a' b'
subst2 P {a} {a'} {b} {b'} e f h = subst (λ y. P a' y) f (subst (λ x. P x b) e h)

-- numbers that are equal exactly where others are
pub same_test : (a b c d : ℕ) → (a ≡ b → c ≡ d) → (c ≡ d → a ≡ b) → (a == b) ≡ (c == d)
same_test a b c d f g =
    ⊎_elim
    (λ e. (let h = f e in let x : (a == b) ≡ true = subst (λ n. (a == n) ≡ true) e (same a) in let y : (c == d) ≡ true = subst (λ n. (c == n) ≡ true) h (same c) in x ∙ sym y))
    (λ ne. differs a b ne ∙ sym (differs c d (λ e. ne (g e))))
    (cases_eq a b)
  where
    same : (x : ℕ) → (x == x) ≡ true
    same x = grind arith

    differs : (x y : ℕ) → x ≢ y → (x == y) ≡ false
    differs x y ne = false_from_ne_true (x == y) (λ e. ne (eqb-true x y e))

module _ {A : Type 0} (R : ℕ → ℕ → A → A → Type 0) (d : A) where
  -- a new element on both sides
  grown_related : (pairs : Pairs) (xs ys : List A) (x y : A) (h : Corresponds R d pairs xs ys) → R (length xs) (length ys) x y → (r q : ℕ) → Paired ((length xs, length ys) ∷ pairs) r q →
      R r q (get_or (xs ++ x ∷ []) r d) (get_or (ys ++ y ∷ []) q d)
  grown_related pairs xs ys x y h n r q here = subst2 (R r q) (sym (get_or_push xs x d (length xs) refl)) (sym (get_or_push ys y d (length ys) refl)) n
  grown_related pairs xs ys x y h n r q (there i) =
      subst2 (R r q) (sym (get_or_append_left xs (x ∷ []) d r (h.left_bound r q i))) (sym (get_or_append_left ys (y ∷ []) d q (h.right_bound r q i))) (h.related r q i)

  grown_left : (pairs : Pairs) (xs ys : List A) (x : A) (h : Corresponds R d pairs xs ys) → (r q : ℕ) → Paired ((length xs, length ys) ∷ pairs) r q → r < length (xs ++ x ∷ [])
  grown_left pairs xs ys x h r q here = omega (arith, length_push xs x)
  grown_left pairs xs ys x h r q (there i) = omega (arith, length_push xs x, h.left_bound r q i)

  grown_right : (pairs : Pairs) (xs ys : List A) (y : A) (h : Corresponds R d pairs xs ys) → (r q : ℕ) → Paired ((length xs, length ys) ∷ pairs) r q → q < length (ys ++ y ∷ [])
  grown_right pairs xs ys y h r q here = omega (arith, length_push ys y)
  grown_right pairs xs ys y h r q (there i) = omega (arith, length_push ys y, h.right_bound r q i)

  grown_one_right : (pairs : Pairs) (xs ys : List A) (h : Corresponds R d pairs xs ys) → (r q t : ℕ) → Paired ((length xs, length ys) ∷ pairs) r q → Paired ((length xs, length ys) ∷ pairs) r t → q ≡ t
  grown_one_right pairs xs ys h r q t i j =
      ⊎_elim
      (λ e. ⊎_elim (λ f. e.1 ∙ sym f.1) (λ k. absurd (omega (arith, h.left_bound r t k, e.0))) (newest j))
      (λ k. ⊎_elim (λ f. absurd (omega (arith, h.left_bound r q k, f.0))) (λ l. h.one_right r q t k l) (newest j))
      (newest i)

  grown_one_left : (pairs : Pairs) (xs ys : List A) (h : Corresponds R d pairs xs ys) → (r s q : ℕ) → Paired ((length xs, length ys) ∷ pairs) r q → Paired ((length xs, length ys) ∷ pairs) s q → r ≡ s
  grown_one_left pairs xs ys h r s q i j =
      ⊎_elim
      (λ e. ⊎_elim (λ f. e.0 ∙ sym f.0) (λ k. absurd (omega (arith, h.right_bound s q k, e.1))) (newest j))
      (λ k. ⊎_elim (λ f. absurd (omega (arith, h.right_bound r q k, f.1))) (λ l. h.one_left r s q k l) (newest j))
      (newest i)

  pub grown : (pairs : Pairs) (xs ys : List A) (x y : A) → Corresponds R d pairs xs ys → R (length xs) (length ys) x y → Corresponds R d ((length xs, length ys) ∷ pairs) (xs ++ x ∷ []) (ys ++ y ∷ [])
  grown pairs xs ys x y h n = record {
    related = grown_related pairs xs ys x y h n;
    left_bound = grown_left pairs xs ys x h;
    right_bound = grown_right pairs xs ys y h;
    one_right = grown_one_right pairs xs ys h;
    one_left = grown_one_left pairs xs ys h;
  }

  -- a new element on the right alone
  pub grown_alone : (pairs : Pairs) (xs ys : List A) (y : A) → Corresponds R d pairs xs ys → Corresponds R d pairs xs (ys ++ y ∷ [])
  grown_alone pairs xs ys y h = record {
    related = λ r q i. subst (λ b. R r q (get_or xs r d) b) (sym (get_or_append_left ys (y ∷ []) d q (h.right_bound r q i))) (h.related r q i);
    left_bound = h.left_bound;
    right_bound = λ r q i. omega (arith, length_push ys y, h.right_bound r q i);
    one_right = h.one_right;
    one_left = h.one_left;
  }

  -- a write at two places that are a pair
  written_related : (pairs : Pairs) (xs ys : List A) (r q : ℕ) (x y : A) → (h : Corresponds R d pairs xs ys) → Paired pairs r q → R r q x y → (s t : ℕ) → Paired pairs s t →
      R s t (get_or (set xs r x) s d) (get_or (set ys q y) t d)
  written_related pairs xs ys r q x y h i n s t j =
      ⊎_elim
      (λ e.
      let f : t ≡ q = h.one_right r t q (subst (λ k. Paired pairs k t) e j) i in
      subst2 (λ a b. R a b (get_or (set xs r x) a d) (get_or (set ys q y) b d)) (sym e) (sym f)
      (subst2 (R r q) (sym (get_or-set_same xs r x d (h.left_bound r q i))) (sym (get_or-set_same ys q y d (h.right_bound r q i))) n))
      (λ ne.
      let ne' : t ≡ q → ⊥ = λ f. ne (h.one_left s r t j (subst (λ k. Paired pairs r k) (sym f) i)) in
      subst2 (R s t) (sym (get_or-set_other xs r s x d ne)) (sym (get_or-set_other ys q t y d ne')) (h.related s t j))
      (cases_eq s r)

  pub written : (pairs : Pairs) (xs ys : List A) (r q : ℕ) (x y : A) → Corresponds R d pairs xs ys → Paired pairs r q → R r q x y → Corresponds R d pairs (set xs r x) (set ys q y)
  written pairs xs ys r q x y h i n = record {
    related = written_related pairs xs ys r q x y h i n;
    left_bound = λ s t j. omega (arith, length-set xs r x, h.left_bound s t j);
    right_bound = λ s t j. omega (arith, length-set ys q y, h.right_bound s t j);
    one_right = h.one_right;
    one_left = h.one_left;
  }

  -- a write on the right alone, at a place that is in no pair
  pub written_alone : (pairs : Pairs) (xs ys : List A) (q : ℕ) (y : A) → Corresponds R d pairs xs ys → ((r : ℕ) → Paired pairs r q → ⊥) → Corresponds R d pairs xs (set ys q y)
  written_alone pairs xs ys q y h apart = record {
    related = λ s t j. let ne : t ≡ q → ⊥ = λ f. apart s (subst (λ k. Paired pairs s k) f j) in subst (λ b. R s t (get_or xs s d) b) (sym (get_or-set_other ys q t y d ne)) (h.related s t j);
    left_bound = h.left_bound;
    right_bound = λ s t j. omega (arith, length-set ys q y, h.right_bound s t j);
    one_right = h.one_right;
    one_left = h.one_left;
  }

-- what holds of the elements may be weakened
pub weaker : {A : Type 0} (R S : ℕ → ℕ → A → A → Type 0) (d : A) (pairs : Pairs) (xs ys : List A) → ((r q : ℕ) → Paired pairs r q → (x y : A) → R r q x y → S r q x y) →
    Corresponds R d pairs xs ys → Corresponds S d pairs xs ys
weaker R S d pairs xs ys w h = record {
  related = λ r q i. w r q i (get_or xs r d) (get_or ys q d) (h.related r q i);
  left_bound = h.left_bound;
  right_bound = h.right_bound;
  one_right = h.one_right;
  one_left = h.one_left;
}
