-- What stands before and after the last `/` of a text.
use Rattle.std.proofs.Common.{◌≡◌, ◌≢◌, ℕ, zero, suc, ◌<◌, ◌==◌, cond, List, [], ◌∷◌, length, get_or, take, drop, Option, Some, None, refl, ap, ◌∙◌, arith}
use Rattle.std.proofs.lemmas.Bool.{ne_eqb}
use Rattle.js_reading.specs.Sentences.{around_last_slash, body_and_flags}

-- one more character before what was found
abbrev one_more : ℕ → List ℕ → Option (List ℕ × List ℕ) → Option (List ℕ × List ℕ)
one_more c cs (Some found) = Some (c ∷ found.0, found.1)
one_more c cs None = cond (c == 47) (Some ([], cs)) None

step : (c : ℕ) (cs : List ℕ) (o : Option (List ℕ × List ℕ)) → around_last_slash cs ≡ o → around_last_slash (c ∷ cs) ≡ one_more c cs o
step c cs (Some found) e = rw e refl
step c cs None e = rw e refl

-- there is none
pub no_slash : (w : List ℕ) → ((i : ℕ) → i < length w → get_or w i 0 ≢ 47) → around_last_slash w ≡ None
no_slash [] none = refl
no_slash (c ∷ cs) none =
    step c cs None (no_slash cs (λ i l. none (suc i) (omega arith))) ∙ ap (λ b. cond b (Some ([], cs)) None) (ne_eqb c 47 (none 0 (omega arith)))

-- the last stands at this index
pub last_slash : (w : List ℕ) (at : ℕ) → at < length w → get_or w at 0 ≡ 47 → ((i : ℕ) → at < i → i < length w → get_or w i 0 ≢ 47) →
    around_last_slash w ≡ Some (take at w, drop (suc at) w)
last_slash [] at within here none = absurd (omega arith)
last_slash (c ∷ cs) zero within here none =
    step c cs None (no_slash cs (λ i l. none (suc i) (omega arith) (omega arith))) ∙ rw here refl
last_slash (c ∷ cs) (suc at) within here none =
    step c cs (Some (take at cs, drop (suc at) cs)) (last_slash cs at (omega arith) here (λ i a l. none (suc i) (omega arith) (omega arith)))

-- the first character is a `/`, or isn't
pub after_first : (w rest : List ℕ) → w ≡ 47 ∷ rest → body_and_flags w ≡ around_last_slash rest
after_first w rest e = rw e refl

pub no_first : (w : List ℕ) → ((rest : List ℕ) → w ≢ 47 ∷ rest) → body_and_flags w ≡ None
no_first [] none = refl
no_first (c ∷ cs) none = ap (λ b. cond b (around_last_slash cs) None) (ne_eqb c 47 (λ e. none cs (ap (λ x. x ∷ cs) e)))
