-- What the elements of a list add up to, for any way of adding, and that it can be taken class by class.
use Rattle.std.proofs.Common.{◌≡◌, ℕ, zero, suc, ◌+◌, ◌<◌, ◌≤◌, Bool, true, false, not, ◌||◌, cond, List, [], ◌∷◌, ◌++◌, length, map, refl, sym, ap, ◌∙◌, arith}
use Rattle.std.specs.List.{filter, flat_map}
use Rattle.std.specs.Cmp.{IsEquivalence}

pub record Adds {M : Type 0} (nothing : M) (add : M → M → M) : Type 0 where
  pub left : (x : M) → add nothing x ≡ x
  pub assoc : (x y z : M) → add (add x y) z ≡ add x (add y z)
  pub comm : (x y : M) → add x y ≡ add y x

module _ {M : Type 0} (nothing : M) (add : M → M → M) where
  abbrev pub total : {X : Type 0} → (X → M) → List X → M
  total w [] = nothing
  total w (x ∷ xs) = add (w x) (total w xs)

  module _ (adds : Adds nothing add) where
    pub total-append : {X : Type 0} (w : X → M) (xs ys : List X) → total w (xs ++ ys) ≡ add (total w xs) (total w ys)
    total-append w [] ys = sym (adds.left (total w ys))
    total-append w (x ∷ xs) ys = ap (add (w x)) (total-append w xs ys) ∙ sym (adds.assoc (w x) (total w xs) (total w ys))

    pub total-map : {X Y : Type 0} (w : Y → M) (f : X → Y) (xs : List X) → total w (map f xs) ≡ total (λ x. w (f x)) xs
    total-map w f [] = refl
    total-map w f (x ∷ xs) = ap (add (w (f x))) (total-map w f xs)

    pub total-flat : {X Y : Type 0} (w : Y → M) (f : X → List Y) (xs : List X) → total w (flat_map f xs) ≡ total (λ x. total w (f x)) xs
    total-flat w f [] = refl
    total-flat w f (x ∷ xs) = total-append w (f x) (flat_map f xs) ∙ ap (add (total w (f x))) (total-flat w f xs)

    pub total-same : {X : Type 0} (v w : X → M) → ((x : X) → v x ≡ w x) → (xs : List X) → total v xs ≡ total w xs
    total-same v w same [] = refl
    total-same v w same (x ∷ xs) = ap (λ n. add n (total v xs)) (same x) ∙ ap (add (w x)) (total-same v w same xs)

    pub total-none : {X : Type 0} (w : X → M) → ((x : X) → w x ≡ nothing) → (xs : List X) → total w xs ≡ nothing
    total-none w none [] = refl
    total-none w none (x ∷ xs) = ap (λ n. add n (total w xs)) (none x) ∙ adds.left (total w xs) ∙ total-none w none xs

    -- ---- class by class

    middle : (a b c : M) → add a (add b c) ≡ add b (add a c)
    middle a b c = sym (adds.assoc a b c) ∙ ap (λ n. add n c) (adds.comm a b) ∙ adds.assoc b a c

    halves-by : {X : Type 0} (b : Bool) (w : X → M) (x : X) (inner outer : List X) (whole : M) → whole ≡ add (total w inner) (total w outer) →
        add (w x) whole ≡ add (total w (cond b (x ∷ inner) inner)) (total w (cond (not b) (x ∷ outer) outer))
    halves-by true w x inner outer whole e = ap (add (w x)) e ∙ sym (adds.assoc (w x) (total w inner) (total w outer))
    halves-by false w x inner outer whole e = ap (add (w x)) e ∙ middle (w x) (total w inner) (total w outer)

    halves : {X : Type 0} (w : X → M) (p : X → Bool) (xs : List X) → total w xs ≡ add (total w (filter p xs)) (total w (filter (λ x. not (p x)) xs))
    halves w p [] = sym (adds.left nothing)
    halves w p (x ∷ xs) = halves-by (p x) w x (filter p xs) (filter (λ y. not (p y)) xs) (total w xs) (halves w p xs)

shorter-by : {X : Type 0} (b : Bool) (x : X) (xs others : List X) → length others ≤ length xs → length (cond b (x ∷ others) others) ≤ length (x ∷ xs)
shorter-by true x xs others h = omega arith
shorter-by false x xs others h = omega arith

pub shorter : {X : Type 0} (p : X → Bool) (xs : List X) → length (filter p xs) ≤ length xs
shorter p [] = omega arith
shorter p (x ∷ xs) = shorter-by (p x) x xs (filter p xs) (shorter p xs)

without-by : {X : Type 0} (b : Bool) (x : X) (xs others : List X) → b ≡ true → length others ≤ length xs → length (cond (not b) (x ∷ others) others) < length (x ∷ xs)
without-by true x xs others e h = omega arith
without-by false x xs others e h = cc

-- an element that passes is left out of the others
without : {X : Type 0} (p : X → Bool) (x : X) (xs : List X) → p x ≡ true → length (filter (λ y. not (p y)) (x ∷ xs)) < length (x ∷ xs)
without p x xs e = without-by (p x) x xs (filter (λ y. not (p y)) xs) e (shorter (λ y. not (p y)) xs)

module _ {X : Type 0} (same : X → X → Bool) (equiv : IsEquivalence same) where
  clash : {G : Type 0} → true ≡ false → G
  clash e = cc

  -- those of one class among those that aren't of another
  apart-by : (a b : Bool) (k z : X) (left all : List X) → same k z ≡ a → (a ≡ true → b ≡ true → true ≡ false) → filter (same k) left ≡ all →
      filter (same k) (cond (not b) (z ∷ left) left) ≡ cond a (z ∷ all) all
  apart-by true true k z left all is never e = clash (never refl refl)
  apart-by false true k z left all is never e = e
  apart-by true false k z left all is never e = ap (λ t. cond t (z ∷ filter (same k) left) (filter (same k) left)) is ∙ ap (λ rest. z ∷ rest) e
  apart-by false false k z left all is never e = ap (λ t. cond t (z ∷ filter (same k) left) (filter (same k) left)) is ∙ e

  apart : (x k : X) (zs : List X) → same x k ≡ false → filter (same k) (filter (λ z. not (same x z)) zs) ≡ filter (same k) zs
  apart x k [] other = refl
  apart x k (z ∷ zs) other =
      apart-by (same k z) (same x z) k z (filter (λ z. not (same x z)) zs) (filter (same k) zs) refl
      (λ a b. sym b ∙ equiv.symm x z ∙ sym (equiv.congr k z x a) ∙ equiv.symm k x ∙ other)
      (apart x k zs other)

  joined-by : (b : Bool) (x k z : X) (left : List X) → same x z ≡ b → same x k ≡ true → filter (same k) left ≡ [] → filter (same k) (cond (not b) (z ∷ left) left) ≡ []
  joined-by true x k z left is own e = e
  joined-by false x k z left is own e =
      ap (λ t. cond t (z ∷ filter (same k) left) (filter (same k) left)) (sym (equiv.congr x k z own) ∙ is) ∙ e

  joined : (x k : X) (zs : List X) → same x k ≡ true → filter (same k) (filter (λ z. not (same x z)) zs) ≡ []
  joined x k [] own = refl
  joined x k (z ∷ zs) own = joined-by (same x z) x k z (filter (λ z. not (same x z)) zs) refl own (joined x k zs own)

  module _ {M : Type 0} (nothing : M) (add : M → M → M) (adds : Adds nothing add) (w : X → M) where
    abbrev T : List X → M
    T xs = total nothing add w xs

    -- what two lists have of each class is the same
    abbrev pub AgreeByClass : List X → List X → Type 0
    AgreeByClass xs ys = (k : X) → T (filter (same k) xs) ≡ T (filter (same k) ys)

    rest-by : (b : Bool) (x k : X) (xs ys : List X) → same x k ≡ b → AgreeByClass xs ys →
        T (filter (same k) (filter (λ z. not (same x z)) xs)) ≡ T (filter (same k) (filter (λ z. not (same x z)) ys))
    rest-by true x k xs ys e agree = ap T (joined x k xs e) ∙ sym (ap T (joined x k ys e))
    rest-by false x k xs ys e agree = ap T (apart x k xs e) ∙ agree k ∙ sym (ap T (apart x k ys e))

    -- one class taken out on both sides
    one_class : (x : X) (xs ys : List X) → AgreeByClass xs ys →
        T (filter (λ z. not (same x z)) xs) ≡ T (filter (λ z. not (same x z)) ys) → T xs ≡ T ys
    one_class x xs ys agree rest =
        halves nothing add adds w (same x) xs
        ∙ ap (λ n. add n (T (filter (λ z. not (same x z)) xs))) (agree x)
        ∙ ap (add (T (filter (same x) ys))) rest
        ∙ sym (halves nothing add adds w (same x) ys)

    by_fuel : (n : ℕ) (xs ys : List X) → length xs + length ys ≤ n → AgreeByClass xs ys → T xs ≡ T ys
    by_fuel n [] [] few agree = refl
    by_fuel zero (x ∷ xs) ys few agree = absurd (omega arith)
    by_fuel zero [] (y ∷ ys) few agree = absurd (omega arith)
    by_fuel (suc n) (x ∷ xs) ys few agree =
        let less = without (same x) x xs (equiv.refl x) in
        let also = shorter (λ z. not (same x z)) ys in
        one_class x (x ∷ xs) ys agree
        (by_fuel n (filter (λ z. not (same x z)) (x ∷ xs)) (filter (λ z. not (same x z)) ys) (omega arith)
        (λ k. rest-by (same x k) x k (x ∷ xs) ys refl agree))
    by_fuel (suc n) [] (y ∷ ys) few agree =
        let less = without (same y) y ys (equiv.refl y) in
        one_class y [] (y ∷ ys) agree
        (by_fuel n [] (filter (λ z. not (same y z)) (y ∷ ys)) (omega arith)
        (λ k. rest-by (same y k) y k [] (y ∷ ys) refl agree))

    pub by_class : (xs ys : List X) → AgreeByClass xs ys → T xs ≡ T ys
    by_class xs ys agree = by_fuel (length xs + length ys) xs ys (omega arith) agree

-- ---- sums and tests are such

pub adding : Adds 0 (λ a b. a + b)
adding = record { left = λ x. omega arith; assoc = λ x y z. omega arith; comm = λ x y. omega arith }

or_assoc : (x y z : Bool) → ((x || y) || z) ≡ (x || (y || z))
or_assoc true y z = refl
or_assoc false y z = refl

or_comm : (x y : Bool) → (x || y) ≡ (y || x)
or_comm true true = refl
or_comm true false = refl
or_comm false true = refl
or_comm false false = refl

pub testing : Adds false (λ a b. a || b)
testing = record { left = λ x. refl; assoc = or_assoc; comm = or_comm }
