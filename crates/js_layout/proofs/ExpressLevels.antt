-- Where an expression ends: with what a quiet token does not go on.
use Rattle.std.proofs.Common.{◌≡◌, ℕ, ◌+◌, ◌<◌, ◌≤◌, Bool, true, false, not, ◌&&◌, ◌⊎◌, inl, inr, refl, ap, ◌∙◌, arith, if◌then◌else◌}
use Rattle.std.specs.Prelude.{nat_le, ◌||◌, ◌==◌}
use Rattle.std.proofs.lemmas.Bool.{leb-true, leb-false, lt-leb, eqb-true, eqb-false}
use Rattle.js_tree.specs.Plain.{Expr}
use Rattle.js_text.specs.Token.{Token}
use Rattle.js_reading.specs.Slots.{Wanted}
use Rattle.js_reading.specs.Productions.{join, strength, wants}
use Rattle.js_reading.specs.Makes.{last_level}
use Rattle.js_reading.specs.Sentences.{grip, goes_on, bans, continues}
use Rattle.js_layout.proofs.Follows.{Quiet}
use Rattle.js_layout.proofs.Spelt.{edge}

-- ---- the edge of a level, by cases

edge_by : (P : ℕ → Type 0) (m : ℕ) → (m ≤ 3 → P 2) → (m ≡ 4 → P 7) → (5 ≤ m → m ≤ 14 → P (m + 1)) → (m ≡ 15 → P 15) → (16 ≤ m → m ≤ 17 → P 16) → (18 ≤ m → P 100) → P (edge m)
edge_by P m low four middle power unary tight = by_low (nat_le m 3) refl
  where
    by_unary : (b : Bool) → nat_le m 17 ≡ b → 16 ≤ m → P (if b then 16 else 100)
    by_unary true h some = unary some (leb-true m 17 h)
    by_unary false h some = tight (omega (arith, leb-false m 17 h))

    by_power : (b : Bool) → (m == 15) ≡ b → 15 ≤ m → P (if b then 15 else (if nat_le m 17 then 16 else 100))
    by_power true h some = power (eqb-true m 15 h)
    by_power false h some = by_unary (nat_le m 17) refl (omega (arith, eqb-false m 15 h))

    by_middle : (b : Bool) → nat_le m 14 ≡ b → 5 ≤ m → P (if b then m + 1 else (if m == 15 then 15 else (if nat_le m 17 then 16 else 100)))
    by_middle true h some = middle some (leb-true m 14 h)
    by_middle false h some = by_power (m == 15) refl (omega (arith, leb-false m 14 h))

    by_four : (b : Bool) → (m == 4) ≡ b → 4 ≤ m → P (if b then 7 else (if nat_le m 14 then m + 1 else (if m == 15 then 15 else (if nat_le m 17 then 16 else 100))))
    by_four true h some = four (eqb-true m 4 h)
    by_four false h some = by_middle (nat_le m 14) refl (omega (arith, eqb-false m 4 h))

    by_low : (b : Bool) → nat_le m 3 ≡ b → P (if b then 2 else (if m == 4 then 7 else (if nat_le m 14 then m + 1 else (if m == 15 then 15 else (if nat_le m 17 then 16 else 100)))))
    by_low true h = low (leb-true m 3 h)
    by_low false h = by_four (m == 4) refl (omega (arith, leb-false m 3 h))

-- the levels that places ask of a last operand
abbrev pub Apt : ℕ → Type 0
Apt n = (n ≤ 2) ⊎ ((4 ≤ n) × (n ≤ 16))

edge_least : (n m : ℕ) → n ≤ m → Apt n → n ≤ edge m
edge_least n m h (inl low) = edge_by (λ k. n ≤ k) m (λ a. omega arith) (λ a. omega arith) (λ a b. omega arith) (λ a. omega arith) (λ a b. omega arith) (λ a. omega arith)
edge_least n m h (inr k) =
    let least = k.0 in let most = k.1 in
    edge_by (λ k. n ≤ k) m (λ a. absurd (omega arith)) (λ a. omega arith) (λ a b. omega arith) (λ a. omega arith) (λ a b. omega arith) (λ a. omega arith)

pub edge_some : (m : ℕ) → 2 ≤ edge m
edge_some m = edge_by (λ k. 2 ≤ k) m (λ a. omega arith) (λ a. omega arith) (λ a b. omega arith) (λ a. omega arith) (λ a b. omega arith) (λ a. omega arith)

pub edge_middle : (s m : ℕ) → s ≤ m → 4 ≤ m → s ≤ 14 → s < edge m
edge_middle s m h some most = edge_by (λ k. s < k) m (λ a. absurd (omega arith)) (λ a. omega arith) (λ a b. omega arith) (λ a. omega arith) (λ a b. omega arith) (λ a. omega arith)

pub edge_unary : (s m : ℕ) → s ≤ 15 → 17 ≤ m → s < edge m
edge_unary s m h some = edge_by (λ k. s < k) m (λ a. absurd (omega arith)) (λ a. absurd (omega arith)) (λ a b. absurd (omega arith)) (λ a. absurd (omega arith)) (λ a b. omega arith) (λ a. omega arith)

pub edge_tight : (s m : ℕ) → s ≤ 21 → 18 ≤ m → s < edge m
edge_tight s m h some = edge_by (λ k. s < k) m (λ a. absurd (omega arith)) (λ a. absurd (omega arith)) (λ a b. absurd (omega arith)) (λ a. absurd (omega arith)) (λ a b. absurd (omega arith)) (λ a. omega arith)

-- ---- quiet tokens

pub looser : (n m : ℕ) (t : Token) → n ≤ m → Quiet n t → Quiet m t
looser n m t h q = record { no_literal = q.no_literal; no_arrow = q.no_arrow; weak = omega (arith, q.weak) }

-- what ends an expression ends its last operand
pub quiet_operand : (n m : ℕ) (t : Token) → n ≤ m → Apt n → Quiet n t → Quiet (edge m) t
quiet_operand n m t h apt q = looser n (edge m) t (edge_least n m h apt) q

-- what ends every expression ends this one
pub quiet_any : (m : ℕ) (t : Token) → Quiet 2 t → Quiet (edge m) t
quiet_any m t q = looser 2 (edge m) t (edge_some m) q

nothing_after : (b : Bool) → (b && false) ≡ false
nothing_after true = refl
nothing_after false = refl

pub no_going_on : (w : Wanted) (e : Expr) (t : Token) (n : ℕ) → n ≤ grip w → Quiet n t → goes_on w e t ≡ false
no_going_on w e t n low q =
    let less : nat_le (grip w) (strength (join t)) ≡ false = lt-leb (grip w) (strength (join t)) (omega (arith, q.weak)) in
    ap (λ k. (nat_le 1 k && nat_le k (last_level e)) || (nat_le 1 (strength (join t)) && (nat_le (grip w) (strength (join t)) && nat_le (wants (join t)) (last_level e)))) q.no_literal
    ∙ ap (λ b. nat_le 1 (strength (join t)) && (b && nat_le (wants (join t)) (last_level e))) less
    ∙ nothing_after (nat_le 1 (strength (join t)))

pub not_continued : (w : Wanted) (e : Expr) (t : Token) (n : ℕ) → n ≤ grip w → Quiet n t → continues w e t ≡ false
not_continued w e t n low q = ap (λ b. not (bans w t) && b) (no_going_on w e t n low q) ∙ nothing_after (not (bans w t))
