-- A segment that is read number by number is the one that its numbers tell.
use Rattle.std.proofs.Common.{◌≡◌, ℕ, List, [], ◌∷◌, Option, Some, None, refl, sym, ap, ◌∙◌}
use Rattle.std.specs.Option.{option_map, option_and_then}
use Rattle.source_map.specs.declared.state.State.{State}
use Rattle.source_map.specs.Vlq.{read_numbers}
use Rattle.source_map.specs.Mappings.{to_column, to_source, to_line, to_source_column, to_name, to_place, after_numbers, segment_of, with_numbers}
use Rattle.source_map.specs.private.Numbers.{first}
use Rattle.source_map.specs.private.Pieces.{Read, step, named, placed, found_place, place_in, columned, segment_in}
use Rattle.source_map.proofs.NumbersLemmas.{numbers-first}

abbrev Numbers : Type 0
Numbers = Option (List ℕ)

abbrev Taken : Type 0
Taken = Option (ℕ × List ℕ)

nothing-found : {A B : Type 0} (o : Option A) → option_and_then {T = A} {U = B} (λ x. None) o ≡ None
nothing-found None = refl
nothing-found (Some x) = refl

always-none : {A : Type 0} (V : List ℕ → Option A) (o : Numbers) → ((ns : List ℕ) → V ns ≡ None) → None ≡ option_and_then V o
always-none V None none = refl
always-none V (Some ns) none = sym (none ns)

module _ (sources names : ℕ) where
  module _ {A : Type 0} (move : ℕ → Option State) (next : State → List ℕ → Option A) (V : List ℕ → Option A)
      (each : (n : ℕ) (rest : List ℕ) → option_and_then (λ after. next after rest) (move n) ≡ option_and_then (λ ns. V (n ∷ ns)) (read_numbers rest)) where
    moved-in : (o : Numbers) (n : ℕ) → option_and_then (λ ns. V (n ∷ ns)) o ≡ option_and_then V (option_map (λ ns. n ∷ ns) o)
    moved-in None n = refl
    moved-in (Some ns) n = refl

    step-by : (found : Taken) → option_and_then (λ (f : ℕ × List ℕ). option_and_then (λ after. next after f.1) (move f.0)) found
        ≡ option_and_then V (option_and_then (λ (f : ℕ × List ℕ). option_map (λ ns. f.0 ∷ ns) (read_numbers f.1)) found)
    step-by None = refl
    step-by (Some (n, rest)) = each n rest ∙ moved-in (read_numbers rest) n

    -- a step reads the first number
    step-numbers : (byte : ℕ) (bytes : List ℕ) → step sources names move next (byte ∷ bytes) ≡ option_and_then V (read_numbers (byte ∷ bytes))
    step-numbers byte bytes = step-by (first (byte ∷ bytes)) ∙ sym (ap (option_and_then V) (numbers-first byte bytes))

    step-any : (bytes : List ℕ) → V [] ≡ None → step sources names move next bytes ≡ option_and_then V (read_numbers bytes)
    step-any [] none = sym none
    step-any (byte ∷ bytes) none = step-numbers byte bytes

  inside-by : {A B : Type 0} (g : A → Option B) (move : ℕ → Option State) (next : State → List ℕ → Option A) (rest : List ℕ) (o : Option State) →
      option_and_then g (option_and_then (λ after. next after rest) o) ≡ option_and_then (λ after. option_and_then g (next after rest)) o
  inside-by g move next rest None = refl
  inside-by g move next rest (Some after) = refl

  inside-found : {A B : Type 0} (g : A → Option B) (move : ℕ → Option State) (next : State → List ℕ → Option A) (found : Taken) →
      option_and_then g (option_and_then (λ (f : ℕ × List ℕ). option_and_then (λ after. next after f.1) (move f.0)) found)
      ≡ option_and_then (λ (f : ℕ × List ℕ). option_and_then (λ after. option_and_then g (next after f.1)) (move f.0)) found
  inside-found g move next None = refl
  inside-found g move next (Some (n, rest)) = inside-by g move next rest (move n)

  -- what goes on after a step
  inside : {A B : Type 0} (g : A → Option B) (move : ℕ → Option State) (next : State → List ℕ → Option A) (bytes : List ℕ) →
      option_and_then g (step sources names move next bytes) ≡ step sources names move (λ after rest. option_and_then g (next after rest)) bytes
  inside g move next bytes = inside-found g move next (first bytes)

  abbrev with_segment : List ℕ → Option State → Read sources names
  with_segment numbers o = option_map (λ after. (after, segment_of after numbers)) o

  -- ---- five numbers, from the last one back

  abbrev fifth : Option State → List ℕ → Option State
  fifth o [] = o
  fifth o (more ∷ ns) = None

  abbrev fourth : Option State → List ℕ → Option State
  fourth o [] = o
  fourth o (m ∷ ns) = fifth (option_and_then (to_name sources names m) o) ns

  abbrev third : Option State → List ℕ → Option State
  third o [] = None
  third o (k ∷ ns) = fourth (option_and_then (to_source_column sources names k) o) ns

  abbrev second : Option State → List ℕ → Option State
  second o [] = None
  second o (l ∷ ns) = third (option_and_then (to_line sources names l) o) ns

  abbrev rest_of : Option State → List ℕ → Option State
  rest_of o [] = o
  rest_of o (s ∷ ns) = second (option_and_then (to_source sources names s) o) ns

  abbrev all_of : State → List ℕ → Option State
  all_of from [] = None
  all_of from (n ∷ ns) = rest_of (to_column sources names n from) ns

  place-by : (o : Option State) (s l k : ℕ) → option_and_then (to_source_column sources names k) (option_and_then (to_line sources names l) (option_and_then (to_source sources names s) o))
      ≡ option_and_then (to_place sources names s l k) o
  place-by None s l k = refl
  place-by (Some a) s l k = refl

  all-is : (from : State) (ns : List ℕ) → all_of from ns ≡ after_numbers sources names from ns
  all-is from [] = refl
  all-is from (n ∷ []) = refl
  all-is from (n ∷ s ∷ []) = refl
  all-is from (n ∷ s ∷ l ∷ []) = refl
  all-is from (n ∷ s ∷ l ∷ k ∷ []) = place-by (to_column sources names n from) s l k
  all-is from (n ∷ s ∷ l ∷ k ∷ m ∷ []) = ap (option_and_then (to_name sources names m)) (place-by (to_column sources names n from) s l k)
  all-is from (n ∷ s ∷ l ∷ k ∷ m ∷ more ∷ ns) = refl

  none-five : (ns : List ℕ) → fifth None ns ≡ None
  none-five [] = refl
  none-five (more ∷ ns) = refl

  none-four : (ns : List ℕ) → fourth None ns ≡ None
  none-four [] = refl
  none-four (m ∷ ns) = none-five ns

  none-three : (ns : List ℕ) → third None ns ≡ None
  none-three [] = refl
  none-three (k ∷ ns) = none-four ns

  none-two : (ns : List ℕ) → second None ns ≡ None
  none-two [] = refl
  none-two (l ∷ ns) = none-three ns

  none-one : (ns : List ℕ) → rest_of None ns ≡ None
  none-one [] = refl
  none-one (s ∷ ns) = none-two ns

  -- ---- each step

  more-numbers : (found : Taken) (V : List ℕ → Read sources names) → ((n : ℕ) (ns : List ℕ) → V (n ∷ ns) ≡ None) →
      None ≡ option_and_then V (option_and_then (λ (f : ℕ × List ℕ). option_map (λ ns. f.0 ∷ ns) (read_numbers f.1)) found)
  more-numbers None V none = refl
  more-numbers (Some (n, rest)) V none = by_rest (read_numbers rest)
    where
      by_rest : (o : Numbers) → None ≡ option_and_then V (option_map (λ ns. n ∷ ns) o)
      by_rest None = refl
      by_rest (Some ns) = sym (none n ns)

  named-is : (n s l k m : ℕ) (rest : List ℕ) (o : Option State) →
      option_and_then (λ w. named sources names w rest) o ≡ option_and_then (λ ns. with_segment (n ∷ s ∷ l ∷ k ∷ m ∷ ns) (fifth o ns)) (read_numbers rest)
  named-is n s l k m rest None = always-none (λ ns. with_segment (n ∷ s ∷ l ∷ k ∷ m ∷ ns) (fifth None ns)) (read_numbers rest) (λ ns. ap (with_segment (n ∷ s ∷ l ∷ k ∷ m ∷ ns)) (none-five ns))
  named-is n s l k m [] (Some w) = refl
  named-is n s l k m (d ∷ ds) (Some w) =
      more-numbers (first (d ∷ ds)) (λ ns. with_segment (n ∷ s ∷ l ∷ k ∷ m ∷ ns) (fifth (Some w) ns)) (λ more ns. refl)
      ∙ sym (ap (option_and_then (λ ns. with_segment (n ∷ s ∷ l ∷ k ∷ m ∷ ns) (fifth (Some w) ns))) (numbers-first d ds))

  placed-is : (n s l k : ℕ) (rest : List ℕ) (o : Option State) →
      option_and_then (λ z. placed sources names z rest) o ≡ option_and_then (λ ns. with_segment (n ∷ s ∷ l ∷ k ∷ ns) (fourth o ns)) (read_numbers rest)
  placed-is n s l k rest None = always-none (λ ns. with_segment (n ∷ s ∷ l ∷ k ∷ ns) (fourth None ns)) (read_numbers rest) (λ ns. ap (with_segment (n ∷ s ∷ l ∷ k ∷ ns)) (none-four ns))
  placed-is n s l k [] (Some z) = refl
  placed-is n s l k (c ∷ cs) (Some z) =
      step-numbers (λ m. to_name sources names m z) (named sources names) (λ ns. with_segment (n ∷ s ∷ l ∷ k ∷ ns) (fourth (Some z) ns))
      (λ m rest. named-is n s l k m rest (to_name sources names m z)) c cs

  abbrev on_column : State → List ℕ → Read sources names
  on_column y rest = step sources names (λ k. to_source_column sources names k y) (placed sources names) rest

  abbrev on_line : State → List ℕ → Read sources names
  on_line x rest = step sources names (λ l. to_line sources names l x) on_column rest

  third-is : (n s l : ℕ) (rest : List ℕ) (o : Option State) →
      option_and_then (λ y. on_column y rest) o ≡ option_and_then (λ ns. with_segment (n ∷ s ∷ l ∷ ns) (third o ns)) (read_numbers rest)
  third-is n s l rest None = always-none (λ ns. with_segment (n ∷ s ∷ l ∷ ns) (third None ns)) (read_numbers rest) (λ ns. ap (with_segment (n ∷ s ∷ l ∷ ns)) (none-three ns))
  third-is n s l rest (Some y) =
      step-any (λ k. to_source_column sources names k y) (placed sources names) (λ ns. with_segment (n ∷ s ∷ l ∷ ns) (third (Some y) ns))
      (λ k r. placed-is n s l k r (to_source_column sources names k y)) rest refl

  second-is : (n s : ℕ) (rest : List ℕ) (o : Option State) →
      option_and_then (λ x. on_line x rest) o ≡ option_and_then (λ ns. with_segment (n ∷ s ∷ ns) (second o ns)) (read_numbers rest)
  second-is n s rest None = always-none (λ ns. with_segment (n ∷ s ∷ ns) (second None ns)) (read_numbers rest) (λ ns. ap (with_segment (n ∷ s ∷ ns)) (none-two ns))
  second-is n s rest (Some x) =
      step-any (λ l. to_line sources names l x) on_column (λ ns. with_segment (n ∷ s ∷ ns) (second (Some x) ns))
      (λ l r. third-is n s l r (to_line sources names l x)) rest refl

  -- ---- a place, and what comes after it

  abbrev go : State × List ℕ → Read sources names
  go found = placed sources names found.0 found.1

  step-same : {A : Type 0} (move : ℕ → Option State) (f g : State → List ℕ → Option A) → ((after : State) (rest : List ℕ) → f after rest ≡ g after rest) → (bytes : List ℕ) →
      step sources names move f bytes ≡ step sources names move g bytes
  step-same {A} move f g same bytes = by_found (first bytes)
    where
      by_state : (rest : List ℕ) (o : Option State) → option_and_then (λ after. f after rest) o ≡ option_and_then (λ after. g after rest) o
      by_state rest None = refl
      by_state rest (Some after) = same after rest

      by_found : (found : Taken) → option_and_then (λ (x : ℕ × List ℕ). option_and_then (λ after. f after x.1) (move x.0)) found ≡ option_and_then (λ (x : ℕ × List ℕ). option_and_then (λ after. g after x.1) (move x.0)) found
      by_found None = refl
      by_found (Some (n, rest)) = by_state rest (move n)

  go-column : (y : State) (rest : List ℕ) → option_and_then go (step sources names (λ k. to_source_column sources names k y) (found_place sources names) rest) ≡ on_column y rest
  go-column y rest = inside go (λ k. to_source_column sources names k y) (found_place sources names) rest

  go-line : (x : State) (rest : List ℕ) → option_and_then go (step sources names (λ l. to_line sources names l x) (λ y. step sources names (λ k. to_source_column sources names k y) (found_place sources names)) rest) ≡ on_line x rest
  go-line x rest =
      inside go (λ l. to_line sources names l x) (λ y. step sources names (λ k. to_source_column sources names k y) (found_place sources names)) rest
      ∙ step-same (λ l. to_line sources names l x) _ on_column go-column rest

  go-place : (a : State) (bytes : List ℕ) → option_and_then go (place_in sources names a bytes) ≡ step sources names (λ s. to_source sources names s a) on_line bytes
  go-place a bytes =
      inside go (λ s. to_source sources names s a) (λ x. step sources names (λ l. to_line sources names l x) (λ y. step sources names (λ k. to_source_column sources names k y) (found_place sources names))) bytes
      ∙ step-same (λ s. to_source sources names s a) _ on_line go-line bytes

  columned-is : (n : ℕ) (rest : List ℕ) (o : Option State) →
      option_and_then (λ a. columned sources names a rest) o ≡ option_and_then (λ ns. with_segment (n ∷ ns) (rest_of o ns)) (read_numbers rest)
  columned-is n rest None = always-none (λ ns. with_segment (n ∷ ns) (rest_of None ns)) (read_numbers rest) (λ ns. ap (with_segment (n ∷ ns)) (none-one ns))
  columned-is n [] (Some a) = refl
  columned-is n (c ∷ cs) (Some a) =
      go-place a (c ∷ cs)
      ∙ step-numbers (λ s. to_source sources names s a) on_line (λ ns. with_segment (n ∷ ns) (rest_of (Some a) ns))
      (λ s r. second-is n s r (to_source sources names s a)) c cs

  with-all : (from : State) (o : Numbers) → option_and_then (λ ns. with_segment ns (all_of from ns)) o ≡ option_and_then (with_numbers sources names from) o
  with-all from None = refl
  with-all from (Some ns) = ap (with_segment ns) (all-is from ns)

  pub segment_is : (from : State) (byte : ℕ) (bytes : List ℕ) → segment_in sources names from (byte ∷ bytes) ≡ option_and_then (with_numbers sources names from) (read_numbers (byte ∷ bytes))
  segment_is from byte bytes =
      step-numbers (λ n. to_column sources names n from) (columned sources names) (λ ns. with_segment ns (all_of from ns))
      (λ n r. columned-is n r (to_column sources names n from)) byte bytes
      ∙ with-all from (read_numbers (byte ∷ bytes))
