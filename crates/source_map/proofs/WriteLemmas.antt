-- What is written of a segment is read back to it.
use Rattle.std.proofs.Common.{◌≡◌, ℕ, zero, suc, ◌+◌, ◌-◌, ◌*◌, ◌/◌, ◌%◌, ◌^◌, ◌<◌, ◌≤◌, ◌==◌, min, nat_lt, nat_le, Bool, true, false, cond, List, [], ◌∷◌, ◌++◌, map, Option, Some, None, refl, sym, ap, ◌∙◌, append-nil, arith}
use Rattle.std.specs.Option.{option_map, option_and_then}
use Rattle.std.specs.Prelude.{IfSome}
use Rattle.std.specs.List.{AllByRecursion}
use Rattle.std.proofs.lemmas.Bool.{lt-ltb, le-ltb, ltb-true, leb-true, leb-false}
use Rattle.source_map.specs.declared.place.Origin.{Origin}
use Rattle.source_map.specs.declared.place.Segment.{Segment}
use Rattle.source_map.specs.declared.state.State.{State}
use Rattle.source_map.specs.Vlq.{digit_of, below, limit, with_digit, read_numbers, moved, byte_of, digits_from, signed}
use Rattle.source_map.specs.Mappings.{to_column, to_line, to_source_column, to_name, to_place, segment_of, with_numbers}
use Rattle.source_map.specs.Laws.{FitsOrigin, FitsSegment}
use Rattle.source_map.specs.Write.{value_text, name_text, origin_text, segment_text, name_or, after_origin}
use Rattle.source_map.proofs.NumbersLemmas.{below-yes}

-- ---- digits

digit-byte : (digit : ℕ) → digit < 64 → digit_of (byte_of digit) ≡ Some digit
digit-byte digit h = grind arith

-- a byte that ends no segment and no line
abbrev pub IsPlain : ℕ → Type 0
IsPlain byte = ((byte == 44) ≡ false) × ((byte == 59) ≡ false)

comma-free : (digit : ℕ) → digit < 64 → (byte_of digit == 44) ≡ false
comma-free digit h = grind arith

line-free : (digit : ℕ) → digit < 64 → (byte_of digit == 59) ≡ false
line-free digit h = grind arith

-- ---- a number

abbrev most_of : ℕ → ℕ
most_of zero = 32
most_of (suc fuel) = 32 * most_of fuel

abbrev Numbers : Type 0
Numbers = Option (List ℕ)

abbrev text_of : List ℕ → List ℕ
text_of digits = map byte_of digits

byte-read : (digit : ℕ) (bytes : List ℕ) → digit < 64 → read_numbers (byte_of digit ∷ bytes) ≡ option_and_then (with_digit digit) (read_numbers bytes)
byte-read digit bytes h = ap (option_and_then (λ d. option_and_then (with_digit d) (read_numbers bytes))) (digit-byte digit h)

last-read : (digit : ℕ) (numbers : Numbers) → digit < 32 → option_and_then (with_digit digit) numbers ≡ option_map (λ ns. digit ∷ ns) numbers
last-read digit None h = refl
last-read digit (Some []) h = ap (λ b. cond b (Some (digit ∷ [])) None) (lt-ltb digit 32 h)
last-read digit (Some (n ∷ ns)) h = ap (λ b. cond b (Some (digit ∷ n ∷ ns)) (option_map (λ m. m ∷ ns) (below limit ((digit - 32) + 32 * n)))) (lt-ltb digit 32 h)

whole : (number : ℕ) → ((32 + number % 32) - 32) + 32 * (number / 32) ≡ number
whole number = omega arith

more-read : (number : ℕ) (numbers : Numbers) → number < limit → option_and_then (with_digit (32 + number % 32)) (option_map (λ ns. (number / 32) ∷ ns) numbers) ≡ option_map (λ ns. number ∷ ns) numbers
more-read number None h = refl
more-read number (Some ns) h =
    ap (λ b. cond b (Some ((32 + number % 32) ∷ (number / 32) ∷ ns)) (option_map (λ m. m ∷ ns) (below limit (((32 + number % 32) - 32) + 32 * (number / 32))))) (le-ltb (32 + number % 32) 32 (omega arith))
    ∙ ap (λ n. option_map (λ m. m ∷ ns) (below limit n)) (whole number)
    ∙ ap (option_map (λ m. m ∷ ns)) (below-yes limit number h)

number-by : (b : Bool) (fuel number : ℕ) (rest : List ℕ) → nat_lt number 32 ≡ b → number < limit →
    read_numbers (text_of (digits_from fuel (number / 32)) ++ rest) ≡ option_map (λ ns. (number / 32) ∷ ns) (read_numbers rest) →
    read_numbers (text_of (cond b (number ∷ []) ((32 + number % 32) ∷ digits_from fuel (number / 32))) ++ rest) ≡ option_map (λ ns. number ∷ ns) (read_numbers rest)
number-by true fuel number rest e low later =
    let small : number < 32 = ltb-true number 32 e in
    byte-read number rest (omega arith) ∙ last-read number (read_numbers rest) small
number-by false fuel number rest e low later =
    byte-read (32 + number % 32) (text_of (digits_from fuel (number / 32)) ++ rest) (omega arith)
    ∙ ap (option_and_then (with_digit (32 + number % 32))) later
    ∙ more-read number (read_numbers rest) low

number-read : (fuel number : ℕ) (rest : List ℕ) → number < most_of fuel → number < limit → read_numbers (text_of (digits_from fuel number) ++ rest) ≡ option_map (λ ns. number ∷ ns) (read_numbers rest)
number-read zero number rest few low = byte-read number rest (omega arith) ∙ last-read number (read_numbers rest) (omega arith)
number-read (suc fuel) number rest few low =
    number-by (nat_lt number 32) fuel number rest refl low (number-read fuel (number / 32) rest (omega arith) (omega arith))

-- its bytes are plain
plain-digits-by : (b : Bool) (fuel number : ℕ) → nat_lt number 32 ≡ b → AllByRecursion IsPlain (text_of (digits_from fuel (number / 32))) →
    AllByRecursion IsPlain (text_of (cond b (number ∷ []) ((32 + number % 32) ∷ digits_from fuel (number / 32))))
plain-digits-by true fuel number e later =
    let small : number < 32 = ltb-true number 32 e in
    let low : number < 64 = omega arith in
    ((comma-free number low, line-free number low), tt)
plain-digits-by false fuel number e later =
    let low : 32 + number % 32 < 64 = omega arith in
    ((comma-free (32 + number % 32) low, line-free (32 + number % 32) low), later)

plain-digits : (fuel number : ℕ) → number < most_of fuel → AllByRecursion IsPlain (text_of (digits_from fuel number))
plain-digits zero number few =
    let low : number < 64 = omega arith in
    ((comma-free number low, line-free number low), tt)
plain-digits (suc fuel) number few = plain-digits-by (nat_lt number 32) fuel number refl (plain-digits fuel (number / 32) (omega arith))

-- ---- a value after the last one

signed-by : (b : Bool) (last value : ℕ) → nat_le last value ≡ b → last < 2 ^ 32 → value < 2 ^ 32 → cond b (2 * (value - last)) (2 * (last - value) + 1) < limit
signed-by true last value e l v = omega arith
signed-by false last value e l v = omega arith

signed-low : (last value : ℕ) → last < 2 ^ 32 → value < 2 ^ 32 → signed last value < limit
signed-low last value l v = signed-by (nat_le last value) last value refl l v

pub value-read : (last value : ℕ) (rest : List ℕ) → last < 2 ^ 32 → value < 2 ^ 32 → read_numbers (value_text last value ++ rest) ≡ option_map (λ ns. signed last value ∷ ns) (read_numbers rest)
value-read last value rest l v =
    let low = signed-low last value l v in
    number-read 6 (signed last value) rest (omega (arith, low)) low

pub plain-value : (last value : ℕ) → last < 2 ^ 32 → value < 2 ^ 32 → AllByRecursion IsPlain (value_text last value)
plain-value last value l v = let low = signed-low last value l v in plain-digits 6 (signed last value) (omega (arith, low))

moved-signed : (bound last value : ℕ) → value < bound → moved bound last (signed last value) ≡ Some value
moved-signed bound last value h = by_order (nat_le last value) refl
  where
    by_order : (b : Bool) → nat_le last value ≡ b → moved bound last (cond b (2 * (value - last)) (2 * (last - value) + 1)) ≡ Some value
    by_order true e =
        let up : last ≤ value = leb-true last value e in
        let even : ((2 * (value - last)) % 2 == 0) ≡ true = grind arith in
        let is : last + (2 * (value - last)) / 2 ≡ value = omega arith in
        ap (λ t. cond t (below bound (last + (2 * (value - last)) / 2)) (cond (nat_le ((2 * (value - last)) / 2) last) (below bound (last - (2 * (value - last)) / 2)) None)) even
        ∙ ap (below bound) is ∙ below-yes bound value h
    by_order false e =
        let down : value < last = leb-false last value e in
        let odd : ((2 * (last - value) + 1) % 2 == 0) ≡ false = grind arith in
        let less : nat_le ((2 * (last - value) + 1) / 2) last ≡ true = grind arith in
        let is : last - (2 * (last - value) + 1) / 2 ≡ value = omega arith in
        ap (λ t. cond t (below bound (last + (2 * (last - value) + 1) / 2)) (cond (nat_le ((2 * (last - value) + 1) / 2) last) (below bound (last - (2 * (last - value) + 1) / 2)) None)) odd
        ∙ ap (λ t. cond t (below bound (last - (2 * (last - value) + 1) / 2)) None) less
        ∙ ap (below bound) is ∙ below-yes bound value h

-- ---- a segment

pub record FitsState (state : State) : Type 0 where
  pub column : state.column < 2 ^ 32
  pub source : state.source < 2 ^ 32
  pub source_line : state.source_line < 2 ^ 32
  pub source_column : state.source_column < 2 ^ 32
  pub name : state.name < 2 ^ 32

plain-more : (xs ys : List ℕ) → AllByRecursion IsPlain xs → AllByRecursion IsPlain ys → AllByRecursion IsPlain (xs ++ ys)
plain-more [] ys a b = b
plain-more (x ∷ xs) ys a b = (a.0, plain-more xs ys a.1 b)

below-min : (n m k : ℕ) → n < min m k → n < k
below-min n m k h = omega arith

less-one : (line : ℕ) → 1 ≤ line → line < 2 ^ 32 → line - 1 < 2 ^ 32 - 1
less-one line a b = omega arith

one-more : (line : ℕ) → 1 ≤ line → (line - 1) + 1 ≡ line
one-more line h = omega arith

plain-name : (from : State) (name : Option ℕ) → FitsState from → IfSome name (λ n. n < 2 ^ 32) → AllByRecursion IsPlain (name_text from name)
plain-name from None f h = tt
plain-name from (Some name) f h = plain-value from.name name f.name h

module _ (sources names : ℕ) where
  small-name : (name : Option ℕ) → IfSome name (λ n. n < min names (2 ^ 32)) → IfSome name (λ n. n < 2 ^ 32)
  small-name None h = tt
  small-name (Some name) h = below-min name names (2 ^ 32) h

  plain-origin : (from : State) (origin : Option Origin) → FitsState from → IfSome origin (FitsOrigin sources names) → AllByRecursion IsPlain (origin_text from origin)
  plain-origin from None f h = tt
  plain-origin from (Some origin) f h =
      let line = less-one origin.line h.from_one h.line in
      plain-more (value_text from.source origin.source) _ (plain-value from.source origin.source f.source (below-min origin.source sources (2 ^ 32) h.source))
      (plain-more (value_text from.source_line (origin.line - 1)) _ (plain-value from.source_line (origin.line - 1) f.source_line (omega (arith, line)))
      (plain-more (value_text from.source_column origin.column) _ (plain-value from.source_column origin.column f.source_column h.column)
      (plain-name from origin.name f (small-name origin.name h.name))))

  pub plain-segment : (from : State) (segment : Segment) → FitsState from → FitsSegment sources names segment → AllByRecursion IsPlain (segment_text from segment)
  plain-segment from segment f h =
      plain-more (value_text from.column segment.column) _ (plain-value from.column segment.column f.column h.column) (plain-origin from segment.origin f h.origin)

  -- the numbers of a segment
  abbrev name_numbers : State → Option ℕ → List ℕ
  name_numbers from None = []
  name_numbers from (Some name) = signed from.name name ∷ []

  abbrev origin_numbers : State → Option Origin → List ℕ
  origin_numbers from None = []
  origin_numbers from (Some origin) =
      signed from.source origin.source ∷ signed from.source_line (origin.line - 1) ∷ signed from.source_column origin.column ∷ name_numbers from origin.name

  name-read : (from : State) (name : Option ℕ) → FitsState from → IfSome name (λ n. n < 2 ^ 32) → read_numbers (name_text from name) ≡ Some (name_numbers from name)
  name-read from None f h = refl
  name-read from (Some name) f h =
      ap read_numbers (sym (append-nil (value_text from.name name))) ∙ value-read from.name name [] f.name h

  origin-read : (from : State) (origin : Option Origin) → FitsState from → IfSome origin (FitsOrigin sources names) → read_numbers (origin_text from origin) ≡ Some (origin_numbers from origin)
  origin-read from None f h = refl
  origin-read from (Some origin) f h =
      let line = less-one origin.line h.from_one h.line in
      value-read from.source origin.source _ f.source (below-min origin.source sources (2 ^ 32) h.source)
      ∙ ap (option_map (λ ns. signed from.source origin.source ∷ ns))
      (value-read from.source_line (origin.line - 1) _ f.source_line (omega (arith, line))
      ∙ ap (option_map (λ ns. signed from.source_line (origin.line - 1) ∷ ns))
      (value-read from.source_column origin.column _ f.source_column h.column
      ∙ ap (option_map (λ ns. signed from.source_column origin.column ∷ ns)) (name-read from origin.name f (small-name origin.name h.name))))

  segment-numbers : (from : State) (segment : Segment) → FitsState from → FitsSegment sources names segment →
      read_numbers (segment_text from segment) ≡ Some (signed from.column segment.column ∷ origin_numbers from segment.origin)
  segment-numbers from segment f h =
      value-read from.column segment.column (origin_text from segment.origin) f.column h.column
      ∙ ap (option_map (λ ns. signed from.column segment.column ∷ ns)) (origin-read from segment.origin f h.origin)

  -- the state after it, on the line of the state before
  abbrev after_on : ℕ → State → ℕ → Option Origin → State
  after_on line from column None = record from { line = line; column = column }
  after_on line from column (Some origin) = record {
    line = line;
    column = column;
    source = origin.source;
    source_line = origin.line - 1;
    source_column = origin.column;
    name = name_or from.name origin.name;
  }

  after-is : (from : State) (segment : Segment) (origin : Option Origin) → after_on segment.line from segment.column origin ≡ after_origin from segment origin
  after-is from segment None = refl
  after-is from segment (Some origin) = refl

  abbrev at : ℕ → ℕ → Option Origin → Segment
  at line column origin = record { line = line; column = column; origin = origin }

  abbrev Pair : Type 0
  Pair = State × Segment

  abbrev to_pair : List ℕ → Option State → Option Pair
  to_pair numbers o = option_map (λ after. (after, segment_of after numbers)) o

  column-moved : (from : State) (column : ℕ) → column < 2 ^ 32 → to_column sources names (signed from.column column) from ≡ Some (record from { column = column })
  column-moved from column h = ap (option_map (λ n. record from { column = n })) (moved-signed (2 ^ 32) from.column column h)

  place-moved : (from : State) (origin : Origin) → FitsOrigin sources names origin →
      to_place sources names (signed from.source origin.source) (signed from.source_line (origin.line - 1)) (signed from.source_column origin.column) from
      ≡ Some (record from { source = origin.source; source_line = origin.line - 1; source_column = origin.column })
  place-moved from origin h =
      ap (λ o. option_and_then (to_source_column sources names (signed from.source_column origin.column)) (option_and_then (to_line sources names (signed from.source_line (origin.line - 1))) (option_map (λ n. record from { source = n }) o)))
      (moved-signed (min sources (2 ^ 32)) from.source origin.source h.source)
      ∙ ap (λ o. option_and_then (to_source_column sources names (signed from.source_column origin.column)) (option_map (λ n. record from { source = origin.source; source_line = n }) o))
      (moved-signed (2 ^ 32 - 1) from.source_line (origin.line - 1) (less-one origin.line h.from_one h.line))
      ∙ ap (option_map (λ n. record from { source = origin.source; source_line = origin.line - 1; source_column = n }))
      (moved-signed (2 ^ 32) from.source_column origin.column h.column)

  origin-with : (from : State) (column : ℕ) (origin : Origin) (name : Option ℕ) → FitsOrigin sources names origin → IfSome name (λ n. n < min names (2 ^ 32)) → column < 2 ^ 32 → origin.name ≡ name →
      with_numbers sources names from (signed from.column column ∷ signed from.source origin.source ∷ signed from.source_line (origin.line - 1) ∷ signed from.source_column origin.column ∷ name_numbers from name)
      ≡ Some (after_on from.line from column (Some (record origin { name = name })), at from.line column (Some (record origin { name = name })))
  origin-with from column origin None h low c is =
      ap (λ o. to_pair (0 ∷ 0 ∷ 0 ∷ 0 ∷ []) (option_and_then (to_place sources names (signed from.source origin.source) (signed from.source_line (origin.line - 1)) (signed from.source_column origin.column)) o)) (column-moved from column c)
      ∙ ap (to_pair (0 ∷ 0 ∷ 0 ∷ 0 ∷ [])) (place-moved (record from { column = column }) origin h)
      ∙ ap (λ line. Some (after_on from.line from column (Some (record origin { name = None })), at from.line column (Some (record { source = origin.source; line = line; column = origin.column; name = None })))) (one-more origin.line h.from_one)
  origin-with from column origin (Some name) h low c is =
      ap (λ o. to_pair (0 ∷ 0 ∷ 0 ∷ 0 ∷ 0 ∷ []) (option_and_then (to_name sources names (signed from.name name)) (option_and_then (to_place sources names (signed from.source origin.source) (signed from.source_line (origin.line - 1)) (signed from.source_column origin.column)) o))) (column-moved from column c)
      ∙ ap (λ o. to_pair (0 ∷ 0 ∷ 0 ∷ 0 ∷ 0 ∷ []) (option_and_then (to_name sources names (signed from.name name)) o)) (place-moved (record from { column = column }) origin h)
      ∙ ap (λ o. to_pair (0 ∷ 0 ∷ 0 ∷ 0 ∷ 0 ∷ []) (option_map (λ n. record from { column = column; source = origin.source; source_line = origin.line - 1; source_column = origin.column; name = n }) o))
      (moved-signed (min names (2 ^ 32)) from.name name low)
      ∙ ap (λ line. Some (after_on from.line from column (Some (record origin { name = Some name })), at from.line column (Some (record { source = origin.source; line = line; column = origin.column; name = Some name })))) (one-more origin.line h.from_one)

  with-by : (from : State) (column : ℕ) (origin : Option Origin) → IfSome origin (FitsOrigin sources names) → column < 2 ^ 32 →
      with_numbers sources names from (signed from.column column ∷ origin_numbers from origin) ≡ Some (after_on from.line from column origin, at from.line column origin)
  with-by from column None h c = ap (to_pair (0 ∷ [])) (column-moved from column c)
  with-by from column (Some origin) h c = origin-with from column origin origin.name h h.name c refl

  -- a segment on the line of the state is read back
  pub segment-read : (from : State) (segment : Segment) → FitsState from → FitsSegment sources names segment → from.line ≡ segment.line →
      option_and_then (with_numbers sources names from) (read_numbers (segment_text from segment)) ≡ Some (after_origin from segment segment.origin, segment)
  segment-read from segment f h line =
      ap (option_and_then (with_numbers sources names from)) (segment-numbers from segment f h)
      ∙ with-by from segment.column segment.origin h.origin h.column
      ∙ ap (λ l. Some (after_on l from segment.column segment.origin, at l segment.column segment.origin)) line
      ∙ ap (λ s. Some (s, segment)) (after-is from segment segment.origin)
