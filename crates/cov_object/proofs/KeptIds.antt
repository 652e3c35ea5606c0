-- Each id is written by one key alone, so entries that are put in by their ids as they come are those of the object's members.
use Rattle.std.proofs.Common.{◌≡◌, ℕ, ◌+◌, ◌-◌, ◌*◌, ◌/◌, ◌%◌, ◌^◌, ◌<◌, ◌≤◌, ◌&&◌, ◌==◌, nat_lt, List, [], ◌∷◌, ◌++◌, Bool, true, false, cond, Option, Some, None, option_map, option_and_then, decimal, refl, sym, ap, ◌∙◌, arith, append_assoc, append-nil}
use Rattle.std.specs.Char.{is_ascii_digit}
use Rattle.std.specs.Ordering.{nat_cmp, match_ordering}
use Rattle.std.specs.declared.cmp.Ordering.{Ordering}
use Rattle.std.specs.declared.cmp.Ordering.TheVariants.{Less, Equal, Greater}
use Rattle.std.specs.Cmp.Lexicographic.{slice_cmp}
use Rattle.std.specs.BTreeMap.{insert_entry}
use Rattle.std.proofs.lemmas.Cmp.{nat_list_cmp_total, tied_itself}
use Rattle.std.proofs.lemmas.Fmt.{decimal_step, decimal_digit}
use Rattle.std.proofs.lemmas.Map.Lookups.{exact_bytes}
use Rattle.serde_json.specs.Data.{Data, Members, no_members, member, put}
use Rattle.cov_object.specs.Read.{id_after, id_of, by_id}
use Rattle.cov_object.specs.private.ByMember.{kept, entries_kept, with_entry}
use Rattle.cov_object.proofs.IdOrder.{same, swap, Apart}
use Rattle.cov_object.proofs.ReadText.{Above, AreSorted, Above-further}

-- ---- the key of an id

stepped : (b : Bool) (r : Option ℕ) (m : ℕ) → cond b r None ≡ Some m → (b ≡ true) × (r ≡ Some m)
stepped true r m e = (refl, e)
stepped false r m e = absurd (cc)

digit : (c n : ℕ) → (is_ascii_digit c && nat_lt n (2 ^ 32)) ≡ true → (48 ≤ c) × (c < 58) × (n < 2 ^ 32)
digit c n e = grind arith

-- the digits of a number and those after them are the digits of the whole
id_after-decimal : (n : ℕ) (cs : List ℕ) (m : ℕ) → 0 < n → n < 2 ^ 32 → id_after n cs ≡ Some m → decimal n ++ cs ≡ decimal m
id_after-decimal n [] m some small e = let same : n ≡ m = cc in append-nil (decimal n) ∙ ap decimal same
id_after-decimal n (c ∷ cs) m some small e =
    let next = n * 10 + (c - 48) in
    let step = stepped (is_ascii_digit c && nat_lt next (2 ^ 32)) (id_after next cs) m e in
    let is = digit c next step.0 in
    let front : next / 10 ≡ n = omega (arith, is.0, is.1) in
    let end : 48 + next % 10 ≡ c = omega (arith, is.0, is.1) in
    sym (append_assoc (decimal n) (c ∷ []) cs)
    ∙ ap (λ ds. ds ++ cs) (sym (decimal_step next (omega (arith, is.0)) (omega (arith, is.2)) ∙ (λ i. decimal (front i) ++ (end i ∷ []))))
    ∙ id_after-decimal next cs m (omega arith) is.2 step.1

first_digit : (c n : ℕ) → c - 48 ≡ n → 48 ≤ c → c < 58 → decimal n ≡ c ∷ []
first_digit c n is low high = decimal_digit n (omega arith) ∙ ap (λ x. x ∷ []) (omega arith)

unlike : (b : Bool) (r : Option ℕ) (m : ℕ) → cond b None r ≡ Some m → (b ≡ false) × (r ≡ Some m)
unlike true r m e = absurd (cc)
unlike false r m e = (refl, e)

above_zero : (c : ℕ) → (c == 48) ≡ false → 48 ≤ c → 48 < c
above_zero c other low = grind arith

id_of-numeral : (k : List ℕ) (n : ℕ) → id_of k ≡ Some n → k ≡ decimal n
id_of-numeral [] n e = absurd (cc)
id_of-numeral (c ∷ []) n e =
    let next = 0 * 10 + (c - 48) in
    let step = stepped (is_ascii_digit c && nat_lt next (2 ^ 32)) (Some next) n e in
    let is = digit c next step.0 in
    let own : next ≡ n = (let h = step.1 in cc) in
    sym (first_digit c n (omega (arith, own)) is.0 is.1)
id_of-numeral (c ∷ d ∷ rest) n e =
    let next = 0 * 10 + (c - 48) in
    let other = unlike (c == 48) (id_after 0 (c ∷ d ∷ rest)) n e in
    let step = stepped (is_ascii_digit c && nat_lt next (2 ^ 32)) (id_after next (d ∷ rest)) n other.1 in
    let is = digit c next step.0 in
    let large = above_zero c other.0 is.0 in
    ap (λ ds. ds ++ d ∷ rest) (sym (first_digit c next (omega arith) is.0 is.1))
    ∙ id_after-decimal next (d ∷ rest) n (omega (arith, large)) is.2 step.1

one_key : (k l : List ℕ) (n : ℕ) → id_of k ≡ Some n → id_of l ≡ Some n → k ≡ l
one_key k l n is_k is_l = id_of-numeral k n is_k ∙ sym (id_of-numeral l n is_l)

-- ---- an entry that is put in late

itself : (xs : List ℕ) → slice_cmp nat_cmp xs xs ≡ Equal
itself xs = tied_itself nat_list_cmp_total xs

other_key : (k l : List ℕ) → slice_cmp nat_cmp k l ≡ Less → k ≡ l → ⊥
other_key k l less e = let tied : slice_cmp nat_cmp k k ≡ Less = ap (slice_cmp nat_cmp k) e ∙ less in absurd (let h = itself k in cc)

-- members above a key have other ids than it
apart-above : (k : List ℕ) (id : ℕ) (ms : Members) → id_of k ≡ Some id → Above k ms → Apart id ms
apart-above k id no_members is above = tt
apart-above k id (member l e ms) is above = (λ is_l. other_key k l above.0 (one_key k l id is is_l), apart-above k id ms is above.1)

module _ {X : Type 0} where
  again-at : (o : Ordering) (e : ℕ × X) (es : List (ℕ × X)) (a : ℕ) (x y : X) → nat_cmp a e.0 ≡ o → insert_entry nat_cmp (insert_entry nat_cmp es a x) a y ≡ insert_entry nat_cmp es a y →
      insert_entry nat_cmp (match_ordering o ((a, x) ∷ e ∷ es) ((e.0, x) ∷ es) (e ∷ insert_entry nat_cmp es a x)) a y
      ≡ match_ordering o ((a, y) ∷ e ∷ es) ((e.0, y) ∷ es) (e ∷ insert_entry nat_cmp es a y)
  again-at Less e es a x y is rest = simp (same a a refl)
  again-at Equal e es a x y is rest = simp is
  again-at Greater e es a x y is rest = simp is (ap (λ r. e ∷ r) rest)

  -- an entry goes in the place of one with its id
  again : (es : List (ℕ × X)) (a : ℕ) (x y : X) → insert_entry nat_cmp (insert_entry nat_cmp es a x) a y ≡ insert_entry nat_cmp es a y
  again [] a x y = simp (same a a refl)
  again (e ∷ es) a x y = again-at (nat_cmp a e.0) e es a x y refl (again es a x y)

late-next : (r : Option ℕ) (id : ℕ) (d e : Data) (ms : Members) (found : List (ℕ × Data)) → (r ≡ Some id → ⊥) →
    ((es : List (ℕ × Data)) → by_id ms (insert_entry nat_cmp es id d) ≡ option_map (λ os. insert_entry nat_cmp os id d) (by_id ms es)) →
    option_and_then (λ n. by_id ms (insert_entry nat_cmp (insert_entry nat_cmp found id d) n e)) r
    ≡ option_map (λ os. insert_entry nat_cmp os id d) (option_and_then (λ n. by_id ms (insert_entry nat_cmp found n e)) r)
late-next None id d e ms found apart later = refl
late-next (Some n) id d e ms found apart later =
    ap (by_id ms) (swap found id n d e (λ is. apart (ap (λ k. Some k) (sym is)))) ∙ later (insert_entry nat_cmp found n e)

-- an entry with an id of its own may go in last
late : (id : ℕ) (d : Data) (ms : Members) (found : List (ℕ × Data)) → Apart id ms →
    by_id ms (insert_entry nat_cmp found id d) ≡ option_map (λ os. insert_entry nat_cmp os id d) (by_id ms found)
late id d no_members found apart = refl
late id d (member l e ms) found apart = late-next (id_of l) id d e ms found apart.0 (λ es. late id d ms es apart.1)

-- ---- a member put in

none-next : (r : Option ℕ) (f : ℕ → Option (List (ℕ × Data))) → ((n : ℕ) → f n ≡ None) → option_and_then f r ≡ None
none-next None f each = refl
none-next (Some n) f each = each n

none-match : (o : Ordering) (k l : List ℕ) (d e : Data) (ms : Members) (found : List (ℕ × Data)) → slice_cmp nat_cmp k l ≡ o → id_of k ≡ None →
    ((es : List (ℕ × Data)) → by_id (put k d ms) es ≡ None) →
    by_id (match_ordering o (member k d (member l e ms)) (member l d ms) (member l e (put k d ms))) found ≡ None
none-match Less k l d e ms found is none later = ap (option_and_then (λ n. by_id (member l e ms) (insert_entry nat_cmp found n d))) none
none-match Equal k l d e ms found is none later =
    ap (option_and_then (λ n. by_id ms (insert_entry nat_cmp found n d))) (ap id_of (sym (exact_bytes k l is)) ∙ none)
none-match Greater k l d e ms found is none later =
    none-next (id_of l) (λ n. by_id (put k d ms) (insert_entry nat_cmp found n e)) (λ n. later (insert_entry nat_cmp found n e))

-- a key that writes no id
put-none : (k : List ℕ) (d : Data) (ms : Members) (found : List (ℕ × Data)) → id_of k ≡ None → by_id (put k d ms) found ≡ None
put-none k d no_members found none = ap (option_and_then (λ n. Some (insert_entry nat_cmp found n d))) none
put-none k d (member l e ms) found none = none-match (slice_cmp nat_cmp k l) k l d e ms found refl none (λ es. put-none k d ms es none)

some-next : (r : Option ℕ) (id : ℕ) (d e : Data) (before ms : Members) (found : List (ℕ × Data)) →
    ((es : List (ℕ × Data)) → by_id before es ≡ option_map (λ os. insert_entry nat_cmp os id d) (by_id ms es)) →
    option_and_then (λ n. by_id before (insert_entry nat_cmp found n e)) r
    ≡ option_map (λ os. insert_entry nat_cmp os id d) (option_and_then (λ n. by_id ms (insert_entry nat_cmp found n e)) r)
some-next None id d e before ms found later = refl
some-next (Some n) id d e before ms found later = later (insert_entry nat_cmp found n e)

some-match : (o : Ordering) (k l : List ℕ) (id : ℕ) (d e : Data) (ms : Members) (found : List (ℕ × Data)) → slice_cmp nat_cmp k l ≡ o → id_of k ≡ Some id → AreSorted (member l e ms) →
    ((es : List (ℕ × Data)) → by_id (put k d ms) es ≡ option_map (λ os. insert_entry nat_cmp os id d) (by_id ms es)) →
    by_id (match_ordering o (member k d (member l e ms)) (member l d ms) (member l e (put k d ms))) found
    ≡ option_map (λ os. insert_entry nat_cmp os id d) (by_id (member l e ms) found)
some-match Less k l id d e ms found o is sorted later =
    ap (option_and_then (λ n. by_id (member l e ms) (insert_entry nat_cmp found n d))) is
    ∙ late id d (member l e ms) found (apart-above k id (member l e ms) is (o, Above-further k l ms o sorted.0))
some-match Equal k l id d e ms found o is sorted later =
    let is_l : id_of l ≡ Some id = ap id_of (sym (exact_bytes k l o)) ∙ is in
    ap (option_and_then (λ n. by_id ms (insert_entry nat_cmp found n d))) is_l
    ∙ ap (by_id ms) (sym (again found id e d))
    ∙ late id d ms (insert_entry nat_cmp found id e) (apart-above l id ms is_l sorted.0)
    ∙ ap (λ r. option_map (λ os. insert_entry nat_cmp os id d) (option_and_then (λ n. by_id ms (insert_entry nat_cmp found n e)) r)) (sym is_l)
some-match Greater k l id d e ms found o is sorted later = some-next (id_of l) id d e (put k d ms) ms found later

-- a key that writes an id
put-some : (k : List ℕ) (id : ℕ) (d : Data) (ms : Members) (found : List (ℕ × Data)) → id_of k ≡ Some id → AreSorted ms →
    by_id (put k d ms) found ≡ option_map (λ os. insert_entry nat_cmp os id d) (by_id ms found)
put-some k id d no_members found is sorted = ap (option_and_then (λ n. Some (insert_entry nat_cmp found n d))) is
put-some k id d (member l e ms) found is sorted =
    some-match (slice_cmp nat_cmp k l) k l id d e ms found refl is sorted (λ es. put-some k id d ms es is sorted.1)

any-put : (r : Option ℕ) (k : List ℕ) (d : Data) (ms : Members) (found : List (ℕ × Data)) → id_of k ≡ r → AreSorted ms → by_id (put k d ms) found ≡ option_and_then (λ id. option_map (λ os. insert_entry nat_cmp os id d) (by_id ms found)) r
any-put None k d ms found is sorted = put-none k d ms found is
any-put (Some id) k d ms found is sorted = put-some k id d ms found is sorted

-- ---- what is kept of the entries

module _ {E : Type 0} (tell : Data → E) where
  kept-match : (o : Ordering) (xs ys zs : List (ℕ × Data)) → kept tell (match_ordering o xs ys zs) ≡ match_ordering o (kept tell xs) (kept tell ys) (kept tell zs)
  kept-match Less xs ys zs = refl
  kept-match Equal xs ys zs = refl
  kept-match Greater xs ys zs = refl

  kept-insert : (es : List (ℕ × Data)) (id : ℕ) (d : Data) → kept tell (insert_entry nat_cmp es id d) ≡ insert_entry nat_cmp (kept tell es) id (tell d)
  kept-insert [] id d = refl
  kept-insert (e ∷ es) id d =
      kept-match (nat_cmp id e.0) ((id, d) ∷ e ∷ es) ((e.0, d) ∷ es) (e ∷ insert_entry nat_cmp es id d)
      ∙ ap (λ rest. match_ordering (nat_cmp id e.0) ((id, tell d) ∷ kept tell (e ∷ es)) ((e.0, tell d) ∷ kept tell es) ((e.0, tell e.1) ∷ rest)) (kept-insert es id d)

  -- an entry put in, and then what is kept
  pub kept-with : (r : Option ℕ) (d : Data) (o : Option (List (ℕ × Data))) →
      option_map (kept tell) (option_and_then (λ id. option_map (λ os. insert_entry nat_cmp os id d) o) r)
      ≡ option_and_then (λ id. option_map (λ os. insert_entry nat_cmp os id (tell d)) (option_map (kept tell) o)) r
  kept-with None d o = refl
  kept-with (Some id) d None = refl
  kept-with (Some id) d (Some es) = ap (λ os. Some os) (kept-insert es id d)

  -- a member put in
  pub kept-put : (k : List ℕ) (d : Data) (ms : Members) → AreSorted ms → entries_kept tell (put k d ms) ≡ with_entry k (tell d) (entries_kept tell ms)
  kept-put k d ms sorted = ap (option_map (kept tell)) (any-put (id_of k) k d ms [] refl sorted) ∙ kept-with (id_of k) d (by_id ms [])

-- the next member, after those that were found
pub next-found : (r : Option ℕ) (d : Data) (rest : Members) (o : Option (List (ℕ × Data))) →
    option_and_then (by_id rest) (option_and_then (λ id. option_map (λ os. insert_entry nat_cmp os id d) o) r)
    ≡ option_and_then (λ es. option_and_then (λ id. by_id rest (insert_entry nat_cmp es id d)) r) o
next-found None d rest None = refl
next-found None d rest (Some es) = refl
next-found (Some id) d rest None = refl
next-found (Some id) d rest (Some es) = refl

-- no member is left
pub all-found : (o : Option (List (ℕ × Data))) → o ≡ option_and_then (by_id no_members) o
all-found None = refl
all-found (Some es) = refl
