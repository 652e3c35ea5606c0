-- The laws of merging, for a kind whose keys are compared by an equivalence.
use Rattle.std.proofs.Common.{◌≡◌, ℕ, zero, suc, ◌+◌, ◌<◌, ◌≤◌, Bool, true, false, ◌||◌, cond, nat_lt, List, [], ◌∷◌, ◌++◌, length, map, fold, Option, Some, None, Result, Ok, Err, refl, sym, ap, ◌∙◌, subst, arith, append-nil, append_assoc, add_assoc, add_comm}
use Rattle.std.specs.List.{list_any, enumerate_from, IsDistinct, AllByRecursion}
use Rattle.std.specs.Cmp.{IsEquivalence}
use Rattle.std.proofs.lemmas.Bool.{ltb-true, ltb-false}
use Rattle.cov_object.specs.declared.file.FileCoverage.{FileCoverage}
use Rattle.std.proofs.lemmas.List.Sums.{fold-append}
use Rattle.cov_merge.specs.declared.fault.MergeFault.{MergeFault}
use Rattle.cov_merge.specs.declared.fault.MergeFault.TheVariants.{CountTooLarge}
use Rattle.cov_merge.specs.Answer.{and_then}
use Rattle.cov_merge.specs.Kind.{Kind}
use Rattle.cov_merge.specs.Sums.{limit, running, plus, added, summed}
use Rattle.cov_merge.specs.private.Lengths.{AreLong as AreLongFor}
use Rattle.cov_merge.specs.private.Sums.{AreCounts}
use Rattle.cov_merge.specs.Entries.{too_large, total_or, total, totals, entries_of, merged_entries}
use Rattle.cov_merge.proofs.Lengths.{suc-same, long-added as long-added_for, long-folded}
use Rattle.cov_merge.specs.Laws.{count_at, count_of, has_key, IsSummed, HasTheirKeys, HasEachOnce, IsOrderFree, SumsAlone}

-- ---- sums that stay below the limit are exact

running-by : (b : Bool) (sum count : ℕ) → nat_lt sum limit ≡ b → running sum count < limit → (running sum count ≡ sum + count) × (sum < limit)
running-by true sum count e below = (ap (λ b. cond b (sum + count) sum) e, ltb-true sum limit e)
running-by false sum count e below =
    let same : running sum count ≡ sum = ap (λ b. cond b (sum + count) sum) e in
    let not_below : limit ≤ sum = ltb-false sum limit e in
    absurd (omega arith)

running-exact : (sum count : ℕ) → running sum count < limit → (running sum count ≡ sum + count) × (sum < limit)
running-exact sum count below = running-by (nat_lt sum limit) sum count refl below

plus-below : (sums counts : List ℕ) → length sums ≡ length counts → AreCounts (plus sums counts) → AreCounts sums
plus-below [] counts e below = tt
plus-below (sum ∷ sums) [] e below = absurd (omega arith)
plus-below (sum ∷ sums) (count ∷ counts) e below = ((running-exact sum count below.0).1, plus-below sums counts (suc-same _ _ e) below.1)

plus-count : (place : ℕ) (sums counts : List ℕ) → length sums ≡ length counts → AreCounts (plus sums counts) → count_at place (plus sums counts) ≡ count_at place sums + count_at place counts
plus-count place [] [] e below = refl
plus-count place [] (count ∷ counts) e below = absurd (omega arith)
plus-count place (sum ∷ sums) [] e below = absurd (omega arith)
plus-count zero (sum ∷ sums) (count ∷ counts) e below = (running-exact sum count below.0).0
plus-count (suc place) (sum ∷ sums) (count ∷ counts) e below = plus-count place sums counts (suc-same _ _ e) below.1

some-none : {G : Type 0} (at : ℕ × ℕ) → Some at ≡ None → G
some-none at e = cc

none-by : (b : Bool) (place sum : ℕ) (sums : List ℕ) → nat_lt sum limit ≡ b → too_large place (sum ∷ sums) ≡ None → (sum < limit) × (too_large (place + 1) sums ≡ None)
none-by true place sum sums e none = (ltb-true sum limit e, ap (λ b. cond b (too_large (place + 1) sums) (Some (place, sum))) (sym e) ∙ none)
none-by false place sum sums e none =
    some-none (place, sum) (ap (λ b. cond b (too_large (place + 1) sums) (Some (place, sum))) (sym e) ∙ none)

pub none-below : (place : ℕ) (sums : List ℕ) → too_large place sums ≡ None → AreCounts sums
none-below place [] none = tt
none-below place (sum ∷ sums) none =
    let parts = none-by (nat_lt sum limit) place sum sums refl none in
    (parts.0, none-below (place + 1) sums parts.1)

-- ---- numbers and tests

swapped : (a b c d : ℕ) → a ≡ b + c → a + d ≡ (b + d) + c
swapped a b c d e = omega arith

later : (a b c d : ℕ) → b ≡ c + d → a + b ≡ (a + c) + d
later a b c d e = omega arith

first : (a : ℕ) → a + 0 ≡ 0 + a
first a = omega arith

last : (a : ℕ) → a ≡ a + 0
last a = omega arith

more : (a b c d e : ℕ) → a ≡ b + e → b ≡ c + d → a ≡ c + (d + e)
more a b c d e h k = omega arith

again : (a b : Bool) → (a || b) ≡ ((a || b) || a)
again true b = refl
again false true = refl
again false false = refl

grouped : (a b c : Bool) → (a || (b || c)) ≡ ((a || b) || c)
grouped true b c = refl
grouped false b c = refl

neither : (a b : Bool) → (a || b) ≡ false → (a ≡ false) × (b ≡ false)
neither true b h = cc
neither false b h = (refl, h)

alone : (a : Bool) → (a || false) ≡ (false || a)
alone true = refl
alone false = refl

nothing : (a : Bool) → a ≡ (a || false)
nothing true = refl
nothing false = refl

from_zero : (a : ℕ) → 0 + a ≡ a
from_zero a = omega arith

-- ---- counts over lists

count-append : {T : Type 0} (kind : Kind T) (xs ys : List T) (key : T) (place : ℕ) → count_of kind key place (xs ++ ys) ≡ count_of kind key place xs + count_of kind key place ys
count-append kind [] ys key place = sym (from_zero (count_of kind key place ys))
count-append kind (x ∷ xs) ys key place =
    ap (λ n. cond (kind.same x key) (count_at place (kind.counts x)) 0 + n) (count-append kind xs ys key place)
    ∙ sym (add_assoc (cond (kind.same x key) (count_at place (kind.counts x)) 0) (count_of kind key place xs) (count_of kind key place ys))

entries-append : {T : Type 0} (kind : Kind T) (files others : List FileCoverage) → entries_of kind (files ++ others) ≡ entries_of kind files ++ entries_of kind others
entries-append kind [] others = refl
entries-append kind (file ∷ files) others =
    ap (λ rest. map (λ entry. entry.1) (kind.entries file) ++ rest) (entries-append kind files others) ∙ sym (append_assoc (map (λ entry. entry.1) (kind.entries file)) (entries_of kind files) (entries_of kind others))

count-files : {T : Type 0} (kind : Kind T) (files others : List FileCoverage) (key : T) (place : ℕ) →
    count_of kind key place (entries_of kind (files ++ others)) ≡ count_of kind key place (entries_of kind files) + count_of kind key place (entries_of kind others)
count-files kind files others key place =
    ap (count_of kind key place) (entries-append kind files others) ∙ count-append kind (entries_of kind files) (entries_of kind others) key place

without-numbers : {T : Type 0} (n : ℕ) (xs : List T) → map (λ entry. entry.1) (enumerate_from n xs) ≡ xs
without-numbers n [] = refl
without-numbers n (x ∷ xs) = ap (λ rest. x ∷ rest) (without-numbers (n + 1) xs)

-- ---- what a kind has to have for the laws

pub record Sound {T : Type 0} (kind : Kind T) : Type 0 where
  pub equiv : IsEquivalence kind.same
  pub long : (a b : T) → kind.same a b ≡ true → length (kind.counts a) ≡ length (kind.counts b)
  pub given : (entry : T) (counts : List ℕ) → length counts ≡ length (kind.counts entry) → kind.counts (kind.with_counts entry counts) ≡ counts
  pub twice : (entry : T) (counts sums : List ℕ) → length counts ≡ length (kind.counts entry) → length sums ≡ length (kind.counts entry) → kind.with_counts (kind.with_counts entry counts) sums ≡ kind.with_counts entry sums
  pub told : (entry : T) (counts : List ℕ) (place : ℕ) → length counts ≡ length (kind.counts entry) → kind.counter (kind.with_counts entry counts) place ≡ kind.counter entry place
  pub keeps : (entry key : T) (counts : List ℕ) → length counts ≡ length (kind.counts entry) → kind.same (kind.with_counts entry counts) key ≡ kind.same entry key

module _ {T : Type 0} (kind : Kind T) where
  abbrev Tallies : Type 0
  Tallies = List (T × List ℕ)

  -- as many sums as counts
  abbrev AreLong : Tallies → Type 0
  AreLong ts = AreLongFor kind ts

  abbrev AreBelow : Tallies → Type 0
  AreBelow [] = Unit {0}
  AreBelow (t ∷ ts) = AreCounts t.1 × AreBelow ts

  -- the sum at a key
  abbrev sum_of : T → ℕ → Tallies → ℕ
  sum_of key place [] = 0
  sum_of key place (t ∷ ts) = cond (kind.same t.0 key) (count_at place t.1) 0 + sum_of key place ts

  abbrev any_of : T → Tallies → Bool
  any_of key ts = list_any (λ t. kind.same t.0 key) ts

  added-yes : (t : T × List ℕ) (ts : Tallies) (e : T) → kind.same t.0 e ≡ true → added kind (t ∷ ts) e ≡ (t.0, plus t.1 (kind.counts e)) ∷ ts
  added-yes t ts e h = ap (λ b. cond b ((t.0, plus t.1 (kind.counts e)) ∷ ts) (t ∷ added kind ts e)) h

  added-no : (t : T × List ℕ) (ts : Tallies) (e : T) → kind.same t.0 e ≡ false → added kind (t ∷ ts) e ≡ t ∷ added kind ts e
  added-no t ts e h = ap (λ b. cond b ((t.0, plus t.1 (kind.counts e)) ∷ ts) (t ∷ added kind ts e)) h

  module _ (sound : Sound kind) where
    long-added : (ts : Tallies) (e : T) → AreLong ts → AreLong (added kind ts e)
    long-added ts e long = long-added_for kind sound.long ts e long

    below-by : (b : Bool) (t : T × List ℕ) (ts : Tallies) (e : T) → kind.same t.0 e ≡ b → AreLong (t ∷ ts) → (AreBelow (added kind ts e) → AreBelow ts) → AreBelow (added kind (t ∷ ts) e) → AreBelow (t ∷ ts)
    below-by true t ts e h long rest below =
        let parts = subst AreBelow (added-yes t ts e h) below in
        (plus-below t.1 (kind.counts e) (long.0 ∙ sound.long t.0 e h) parts.0, parts.1)
    below-by false t ts e h long rest below =
        let parts = subst AreBelow (added-no t ts e h) below in
        (parts.0, rest parts.1)

    below-added : (ts : Tallies) (e : T) → AreLong ts → AreBelow (added kind ts e) → AreBelow ts
    below-added [] e long below = tt
    below-added (t ∷ ts) e long below = below-by (kind.same t.0 e) t ts e refl long (below-added ts e long.1) below

    -- one more entry
    abbrev one : T → ℕ → T → ℕ
    one key place e = cond (kind.same e key) (count_at place (kind.counts e)) 0

    cond-plus : (b : Bool) (x y : ℕ) → cond b (x + y) 0 ≡ cond b x 0 + cond b y 0
    cond-plus true x y = refl
    cond-plus false x y = refl

    sum-by : (b : Bool) (t : T × List ℕ) (ts : Tallies) (e key : T) (place : ℕ) → kind.same t.0 e ≡ b → AreLong (t ∷ ts) → AreBelow (added kind (t ∷ ts) e) →
        (AreBelow (added kind ts e) → sum_of key place (added kind ts e) ≡ sum_of key place ts + one key place e) →
        sum_of key place (added kind (t ∷ ts) e) ≡ sum_of key place (t ∷ ts) + one key place e
    sum-by true t ts e key place h long below rest =
        let parts = subst AreBelow (added-yes t ts e h) below in
        let exact = plus-count place t.1 (kind.counts e) (long.0 ∙ sound.long t.0 e h) parts.0 in
        let alike : kind.same t.0 key ≡ kind.same e key = sound.equiv.congr t.0 e key h in
        let both : cond (kind.same t.0 key) (count_at place (plus t.1 (kind.counts e))) 0 ≡ cond (kind.same t.0 key) (count_at place t.1) 0 + one key place e =
        ap (λ n. cond (kind.same t.0 key) n 0) exact ∙ cond-plus (kind.same t.0 key) (count_at place t.1) (count_at place (kind.counts e))
        ∙ ap (λ b. cond (kind.same t.0 key) (count_at place t.1) 0 + cond b (count_at place (kind.counts e)) 0) alike in
        ap (sum_of key place) (added-yes t ts e h)
        ∙ swapped (cond (kind.same t.0 key) (count_at place (plus t.1 (kind.counts e))) 0) (cond (kind.same t.0 key) (count_at place t.1) 0) (one key place e) (sum_of key place ts) both
    sum-by false t ts e key place h long below rest =
        let parts = subst AreBelow (added-no t ts e h) below in
        ap (sum_of key place) (added-no t ts e h)
        ∙ later (cond (kind.same t.0 key) (count_at place t.1) 0) (sum_of key place (added kind ts e)) (sum_of key place ts) (one key place e) (rest parts.1)

    sum-added : (ts : Tallies) (e key : T) (place : ℕ) → AreLong ts → AreBelow (added kind ts e) → sum_of key place (added kind ts e) ≡ sum_of key place ts + one key place e
    sum-added [] e key place long below = first (one key place e)
    sum-added (t ∷ ts) e key place long below = sum-by (kind.same t.0 e) t ts e key place refl long below (sum-added ts e key place long.1)

    below-fold : (ts : Tallies) (es : List T) → AreLong ts → AreBelow (fold (added kind) ts es) → AreBelow ts
    below-fold ts [] long below = below
    below-fold ts (e ∷ es) long below = below-added ts e long (below-fold (added kind ts e) es (long-added ts e long) below)

    long-fold : (ts : Tallies) (es : List T) → AreLong ts → AreLong (fold (added kind) ts es)
    long-fold ts es long = long-folded kind sound.long ts es long

    sum-fold : (ts : Tallies) (es : List T) (key : T) (place : ℕ) → AreLong ts → AreBelow (fold (added kind) ts es) →
        sum_of key place (fold (added kind) ts es) ≡ sum_of key place ts + count_of kind key place es
    sum-fold ts [] key place long below = last (sum_of key place ts)
    sum-fold ts (e ∷ es) key place long below =
        more (sum_of key place (fold (added kind) (added kind ts e) es)) (sum_of key place (added kind ts e)) (sum_of key place ts) (one key place e) (count_of kind key place es)
        (sum-fold (added kind ts e) es key place (long-added ts e long) below)
        (sum-added ts e key place long (below-fold (added kind ts e) es (long-added ts e long) below))

    -- ---- keys

    any-by : (b : Bool) (t : T × List ℕ) (ts : Tallies) (e key : T) → kind.same t.0 e ≡ b → any_of key (added kind ts e) ≡ (any_of key ts || kind.same e key) →
        any_of key (added kind (t ∷ ts) e) ≡ (any_of key (t ∷ ts) || kind.same e key)
    any-by true t ts e key h rest =
        ap (any_of key) (added-yes t ts e h) ∙ again (kind.same t.0 key) (any_of key ts) ∙ ap (λ b. (kind.same t.0 key || any_of key ts) || b) (sound.equiv.congr t.0 e key h)
    any-by false t ts e key h rest =
        ap (any_of key) (added-no t ts e h) ∙ ap (λ b. kind.same t.0 key || b) rest ∙ grouped (kind.same t.0 key) (any_of key ts) (kind.same e key)

    any-added : (ts : Tallies) (e key : T) → any_of key (added kind ts e) ≡ (any_of key ts || kind.same e key)
    any-added [] e key = alone (kind.same e key)
    any-added (t ∷ ts) e key = any-by (kind.same t.0 e) t ts e key refl (any-added ts e key)

    any-fold : (ts : Tallies) (es : List T) (key : T) → any_of key (fold (added kind) ts es) ≡ (any_of key ts || has_key kind key es)
    any-fold ts [] key = nothing (any_of key ts)
    any-fold ts (e ∷ es) key =
        any-fold (added kind ts e) es key ∙ ap (λ b. b || has_key kind key es) (any-added ts e key) ∙ sym (grouped (any_of key ts) (kind.same e key) (has_key kind key es))

    -- ---- each key once

    abbrev keys : Tallies → List T
    keys ts = map (λ t. t.0) ts

    all-by : (b : Bool) (P : T → Type 0) (t : T × List ℕ) (ts : Tallies) (e : T) → kind.same t.0 e ≡ b → AllByRecursion P (keys (t ∷ ts)) → AllByRecursion P (keys (added kind ts e)) → AllByRecursion P (keys (added kind (t ∷ ts) e))
    all-by true P t ts e h all rest = subst (λ us. AllByRecursion P (keys us)) (sym (added-yes t ts e h)) all
    all-by false P t ts e h all rest = subst (λ us. AllByRecursion P (keys us)) (sym (added-no t ts e h)) (all.0, rest)

    all-added : (P : T → Type 0) (ts : Tallies) (e : T) → AllByRecursion P (keys ts) → P e → AllByRecursion P (keys (added kind ts e))
    all-added P [] e all own = (own, tt)
    all-added P (t ∷ ts) e all own = all-by (kind.same t.0 e) P t ts e refl all (all-added P ts e all.1 own)

    once-by : (b : Bool) (t : T × List ℕ) (ts : Tallies) (e : T) → kind.same t.0 e ≡ b → IsDistinct kind.same (keys (t ∷ ts)) → IsDistinct kind.same (keys (added kind ts e)) → IsDistinct kind.same (keys (added kind (t ∷ ts) e))
    unfolding IsDistinct
    once-by true t ts e h once rest = subst (λ us. IsDistinct kind.same (keys us)) (sym (added-yes t ts e h)) once
    once-by false t ts e h once rest =
        subst (λ us. IsDistinct kind.same (keys us)) (sym (added-no t ts e h)) (all-added (λ y. kind.same t.0 y ≡ false) ts e once.0 h, rest)

    none-distinct : IsDistinct kind.same []
    unfolding IsDistinct
    none-distinct = tt

    once-added : (ts : Tallies) (e : T) → IsDistinct kind.same (keys ts) → IsDistinct kind.same (keys (added kind ts e))
    unfolding IsDistinct
    once-added [] e once = (tt, tt)
    once-added (t ∷ ts) e once = once-by (kind.same t.0 e) t ts e refl once (once-added ts e once.1)

    once-fold : (ts : Tallies) (es : List T) → IsDistinct kind.same (keys ts) → IsDistinct kind.same (keys (fold (added kind) ts es))
    once-fold ts [] once = once
    once-fold ts (e ∷ es) once = once-fold (added kind ts e) es (once-added ts e once)

    -- ---- what is built of the sums

    record Built (ts : Tallies) (entries : List T) : Type 0 where
      is : entries ≡ map (λ t. kind.with_counts t.0 t.1) ts
      below : AreBelow ts

    not_ok : {X Y G : Type 0} (x : X) (fault : Y) → Err fault ≡ Ok x → G
    not_ok x fault e = cc

    abbrev fine : List T → Result (List T) MergeFault
    fine entries = Ok entries

    same-ok : (x y : List T) → fine x ≡ fine y → x ≡ y
    same-ok x y e = cc

    built-by : (path : List ℕ) (t : T × List ℕ) (ts : Tallies) (entries : List T) (o : Option (ℕ × ℕ)) (r : Result (List T) MergeFault) → too_large 0 t.1 ≡ o →
        ((rest : List T) → r ≡ Ok rest → Built ts rest) → and_then (total_or kind path t o) (λ entry. and_then r (λ rest. Ok (entry ∷ rest))) ≡ Ok entries → Built (t ∷ ts) entries
    built-by path t ts entries (Some at) r e h ok = not_ok entries _ ok
    built-by path t ts entries None (Err fault) e h ok = not_ok entries fault ok
    built-by path t ts entries None (Ok rest) e h ok =
        let own = h rest refl in
        record {
          is = sym (same-ok (kind.with_counts t.0 t.1 ∷ rest) entries ok) ∙ ap (λ more. kind.with_counts t.0 t.1 ∷ more) own.is;
          below = (none-below 0 t.1 e, own.below);
        }

    built : (path : List ℕ) (ts : Tallies) (entries : List T) → totals kind path ts ≡ Ok entries → Built ts entries
    built path [] entries ok = record { is = sym (same-ok [] entries ok); below = tt }
    built path (t ∷ ts) entries ok = built-by path t ts entries (too_large 0 t.1) (totals kind path ts) refl (λ rest is. built path ts rest is) ok

    abbrev made : Tallies → List T
    made ts = map (λ t. kind.with_counts t.0 t.1) ts

    made-count : (ts : Tallies) (key : T) (place : ℕ) → AreLong ts → count_of kind key place (made ts) ≡ sum_of key place ts
    made-count [] key place long = refl
    made-count (t ∷ ts) key place long =
        ap (λ b. cond b (count_at place (kind.counts (kind.with_counts t.0 t.1))) 0 + count_of kind key place (made ts)) (sound.keeps t.0 key t.1 long.0)
        ∙ ap (λ counts. cond (kind.same t.0 key) (count_at place counts) 0 + count_of kind key place (made ts)) (sound.given t.0 t.1 long.0)
        ∙ ap (λ n. cond (kind.same t.0 key) (count_at place t.1) 0 + n) (made-count ts key place long.1)

    made-any : (ts : Tallies) (key : T) → AreLong ts → has_key kind key (made ts) ≡ any_of key ts
    made-any [] key long = refl
    made-any (t ∷ ts) key long =
        ap (λ b. b || has_key kind key (made ts)) (sound.keeps t.0 key t.1 long.0) ∙ ap (λ b. kind.same t.0 key || b) (made-any ts key long.1)

    made-all : (t : T × List ℕ) (ts : Tallies) → length t.1 ≡ length (kind.counts t.0) → AreLong ts → AllByRecursion (λ y. kind.same t.0 y ≡ false) (keys ts) →
        AllByRecursion (λ y. kind.same (kind.with_counts t.0 t.1) y ≡ false) (made ts)
    made-all t [] own long all = tt
    made-all t (u ∷ us) own long all = (
      sound.keeps t.0 (kind.with_counts u.0 u.1) t.1 own ∙ sound.equiv.symm t.0 (kind.with_counts u.0 u.1) ∙ sound.keeps u.0 t.0 u.1 long.0 ∙ sound.equiv.symm u.0 t.0 ∙ all.0,
      made-all t us own long.1 all.1,
    )

    made-once : (ts : Tallies) → AreLong ts → IsDistinct kind.same (keys ts) → IsDistinct kind.same (made ts)
    unfolding IsDistinct
    made-once [] long once = tt
    made-once (t ∷ ts) long once = (made-all t ts long.0 long.1 once.0, made-once ts long.1 once.1)

    -- ---- merging again

    -- an entry whose key is new stands last
    last-by : (t : T × List ℕ) (ts : Tallies) (e : T) → (kind.same t.0 e || any_of e ts) ≡ false → (any_of e ts ≡ false → added kind ts e ≡ ts ++ (e, kind.counts e) ∷ []) →
        added kind (t ∷ ts) e ≡ t ∷ ts ++ (e, kind.counts e) ∷ []
    last-by t ts e none rest =
        let parts = neither (kind.same t.0 e) (any_of e ts) none in
        added-no t ts e parts.0 ∙ ap (λ us. t ∷ us) (rest parts.1)

    added-last : (ts : Tallies) (e : T) → any_of e ts ≡ false → added kind ts e ≡ ts ++ (e, kind.counts e) ∷ []
    added-last [] e none = refl
    added-last (t ∷ ts) e none = last-by t ts e none (added-last ts e)

    any-end : (ts : Tallies) (u : T × List ℕ) (key : T) → any_of key (ts ++ u ∷ []) ≡ (any_of key ts || kind.same u.0 key)
    any-end [] u key = alone (kind.same u.0 key)
    any-end (t ∷ ts) u key = ap (λ b. kind.same t.0 key || b) (any-end ts u key) ∙ grouped (kind.same t.0 key) (any_of key ts) (kind.same u.0 key)

    none-more : (ts : Tallies) (e : T) (es : List T) → AllByRecursion (λ y. any_of y ts ≡ false) es → AllByRecursion (λ y. kind.same e y ≡ false) es → AllByRecursion (λ y. any_of y (ts ++ (e, kind.counts e) ∷ []) ≡ false) es
    none-more ts e [] none apart = tt
    none-more ts e (y ∷ ys) none apart = (
      any-end ts (e, kind.counts e) y ∙ ap (λ b. b || kind.same e y) none.0 ∙ ap (λ b. false || b) apart.0,
      none-more ts e ys none.1 apart.1,
    )

    -- entries of distinct keys stand as they come
    distinct-fold : (ts : Tallies) (es : List T) → AllByRecursion (λ y. any_of y ts ≡ false) es → IsDistinct kind.same es → fold (added kind) ts es ≡ ts ++ map (λ e. (e, kind.counts e)) es
    unfolding IsDistinct
    distinct-fold ts [] none once = sym (append-nil ts)
    distinct-fold ts (e ∷ es) none once =
        ap (λ us. fold (added kind) us es) (added-last ts e none.0)
        ∙ distinct-fold (ts ++ (e, kind.counts e) ∷ []) es (none-more ts e es none.1 once.0) once.1
        ∙ append_assoc ts ((e, kind.counts e) ∷ []) (map (λ e. (e, kind.counts e)) es)

    none-in : (es : List T) → AllByRecursion (λ y. any_of y [] ≡ false) es
    none-in [] = tt
    none-in (e ∷ es) = (refl, none-in es)

    -- one entry does as another does
    record Alike (a b : T) : Type 0 where
      counts_alike : length (kind.counts a) ≡ length (kind.counts b)
      with_alike : (sums : List ℕ) → length sums ≡ length (kind.counts a) → kind.with_counts a sums ≡ kind.with_counts b sums
      told_alike : (place : ℕ) → kind.counter a place ≡ kind.counter b place
      same_alike : (key : T) → kind.same a key ≡ kind.same b key

    AreAlike : Tallies → Tallies → Type 0
    AreAlike [] [] = Unit {0}
    AreAlike [] (u ∷ us) = ⊥
    AreAlike (t ∷ ts) [] = ⊥
    AreAlike (t ∷ ts) (u ∷ us) = (Alike t.0 u.0 × (t.1 ≡ u.1)) × AreAlike ts us

    alike-by : (b : Bool) (t u : T × List ℕ) (ts us : Tallies) (e : T) → kind.same u.0 e ≡ b → AreAlike (t ∷ ts) (u ∷ us) → AreAlike (added kind ts e) (added kind us e) → AreAlike (added kind (t ∷ ts) e) (added kind (u ∷ us) e)
    unfolding AreAlike
    alike-by true t u ts us e h alike rest =
        subst (λ xs. AreAlike xs (added kind (u ∷ us) e)) (sym (added-yes t ts e (alike.0.0.same_alike e ∙ h)))
        (subst (AreAlike ((t.0, plus t.1 (kind.counts e)) ∷ ts)) (sym (added-yes u us e h)) ((alike.0.0, ap (λ sums. plus sums (kind.counts e)) alike.0.1), alike.1))
    alike-by false t u ts us e h alike rest =
        subst (λ xs. AreAlike xs (added kind (u ∷ us) e)) (sym (added-no t ts e (alike.0.0.same_alike e ∙ h)))
        (subst (AreAlike (t ∷ added kind ts e)) (sym (added-no u us e h)) (alike.0, rest))

    itself : (e : T) → Alike e e
    itself e = record { counts_alike = refl; with_alike = λ sums l. refl; told_alike = λ place. refl; same_alike = λ key. refl }

    alike-added : (ts us : Tallies) (e : T) → AreAlike ts us → AreAlike (added kind ts e) (added kind us e)
    unfolding AreAlike
    alike-added [] [] e alike = ((itself e, refl), tt)
    alike-added [] (u ∷ us) e alike = absurd alike
    alike-added (t ∷ ts) [] e alike = absurd alike
    alike-added (t ∷ ts) (u ∷ us) e alike = alike-by (kind.same u.0 e) t u ts us e refl alike (alike-added ts us e alike.1)

    alike-fold : (ts us : Tallies) (es : List T) → AreAlike ts us → AreAlike (fold (added kind) ts es) (fold (added kind) us es)
    alike-fold ts us [] alike = alike
    alike-fold ts us (e ∷ es) alike = alike-fold (added kind ts e) (added kind us e) es (alike-added ts us e alike)

    total-alike : (path : List ℕ) (t u : T × List ℕ) (o : Option (ℕ × ℕ)) → length t.1 ≡ length (kind.counts t.0) → Alike t.0 u.0 → t.1 ≡ u.1 → total_or kind path t o ≡ total_or kind path u o
    total-alike path t u None long alike sums = ap Ok (alike.with_alike t.1 long ∙ ap (kind.with_counts u.0) sums)
    total-alike path t u (Some at) long alike sums = ap (λ counter. Err (CountTooLarge (record { path = path; counter = counter }) at.1)) (alike.told_alike at.0)

    totals-alike : (path : List ℕ) (ts us : Tallies) → AreLong ts → AreAlike ts us → totals kind path ts ≡ totals kind path us
    unfolding AreAlike
    totals-alike path [] [] long alike = refl
    totals-alike path [] (u ∷ us) long alike = absurd alike
    totals-alike path (t ∷ ts) [] long alike = absurd alike
    totals-alike path (t ∷ ts) (u ∷ us) long alike =
        ap (λ r. and_then r (λ entry. and_then (totals kind path ts) (λ entries. Ok (entry ∷ entries)))) (total-alike path t u (too_large 0 t.1) long.0 alike.0.0 alike.0.1 ∙ ap (λ sums. total_or kind path u (too_large 0 sums)) alike.0.1)
        ∙ ap (λ r. and_then (total kind path u) (λ entry. and_then r (λ entries. Ok (entry ∷ entries)))) (totals-alike path ts us long.1 alike.1)

    made-alike : (ts : Tallies) → AreLong ts → AreAlike (map (λ e. (e, kind.counts e)) (made ts)) ts
    unfolding AreAlike
    made-alike [] long = tt
    made-alike (t ∷ ts) long = (
      (
        record {
          counts_alike = ap length (sound.given t.0 t.1 long.0) ∙ long.0;
          with_alike = λ sums l. sound.twice t.0 t.1 sums long.0 (l ∙ ap length (sound.given t.0 t.1 long.0) ∙ long.0);
          told_alike = λ place. sound.told t.0 t.1 place long.0;
          same_alike = λ key. sound.keeps t.0 key t.1 long.0;
        },
        sound.given t.0 t.1 long.0,
      ),
      made-alike ts long.1,
    )

    own-long : (es : List T) → AreLong (map (λ e. (e, kind.counts e)) es)
    own-long [] = tt
    own-long (e ∷ es) = (refl, own-long es)

    pub merged_again : (path : List ℕ) (files others : List FileCoverage) (file : FileCoverage) (own : List T) → merged_entries kind path files ≡ Ok own → kind.entries file ≡ enumerate_from 0 own →
        merged_entries kind path (file ∷ others) ≡ merged_entries kind path (files ++ others)
    merged_again path files others file own first is =
        let numbered : map (λ entry. entry.1) (kind.entries file) ≡ own = ap (map (λ entry. entry.1)) is ∙ without-numbers 0 own in
        let es = entries_of kind others in
        let ts = summed kind (entries_of kind files) in
        let long : AreLong ts = long-fold [] (entries_of kind files) tt in
        let made_of : own ≡ made ts = (built path ts own first).is in
        let as_come : fold (added kind) [] (made ts) ≡ map (λ e. (e, kind.counts e)) (made ts) =
        distinct-fold [] (made ts) (none-in (made ts)) (made-once ts long (once-fold [] (entries_of kind files) none-distinct)) in
        ap (λ some. totals kind path (summed kind (some ++ es))) (numbered ∙ made_of)
        ∙ ap (totals kind path) (fold-append (added kind) [] (made ts) es ∙ ap (λ us. fold (added kind) us es) as_come)
        ∙ totals-alike path (fold (added kind) (map (λ e. (e, kind.counts e)) (made ts)) es) (fold (added kind) ts es) (long-fold (map (λ e. (e, kind.counts e)) (made ts)) es (own-long (made ts))) (alike-fold (map (λ e. (e, kind.counts e)) (made ts)) ts es (made-alike ts long))
        ∙ ap (totals kind path) (sym (fold-append (added kind) [] (entries_of kind files) es))
        ∙ ap (λ some. totals kind path (summed kind some)) (sym (entries-append kind files others))

    -- ---- the laws

    pub is_summed : IsSummed kind
    is_summed path files entries ok key place =
        let es = entries_of kind files in
        let ts = summed kind es in
        let made_of = built path ts entries ok in
        let long : AreLong ts = long-fold [] es tt in
        ap (count_of kind key place) made_of.is ∙ made-count ts key place long ∙ sum-fold [] es key place tt made_of.below ∙ from_zero (count_of kind key place es)

    pub has_their_keys : HasTheirKeys kind
    has_their_keys path files entries ok key =
        let es = entries_of kind files in
        let ts = summed kind es in
        ap (has_key kind key) (built path ts entries ok).is ∙ made-any ts key (long-fold [] es tt) ∙ any-fold [] es key

    pub has_each_once : HasEachOnce kind
    has_each_once path files entries ok =
        let es = entries_of kind files in
        let ts = summed kind es in
        subst (IsDistinct kind.same) (sym (built path ts entries ok).is) (made-once ts (long-fold [] es tt) (once-fold [] es none-distinct))

    pub is_order_free : IsOrderFree kind
    is_order_free path files others entries swapped ok other key place =
        is_summed path (files ++ others) entries ok key place
        ∙ count-files kind files others key place
        ∙ add_comm (count_of kind key place (entries_of kind files)) (count_of kind key place (entries_of kind others))
        ∙ sym (count-files kind others files key place)
        ∙ sym (is_summed path (others ++ files) swapped other key place)

    -- a file that has what is merged counts as the files do
    pub grouped_at : (path : List ℕ) (files others : List FileCoverage) (file : FileCoverage) (own entries all : List T) → merged_entries kind path files ≡ Ok own → kind.entries file ≡ enumerate_from 0 own →
        merged_entries kind path (file ∷ others) ≡ Ok entries → merged_entries kind path (files ++ others) ≡ Ok all → (key : T) (place : ℕ) → count_of kind key place entries ≡ count_of kind key place all
    grouped_at path files others file own entries all first is ok whole key place =
        let numbered : map (λ entry. entry.1) (kind.entries file) ≡ own = ap (map (λ entry. entry.1)) is ∙ without-numbers 0 own in
        is_summed path (file ∷ others) entries ok key place
        ∙ count-append kind (map (λ entry. entry.1) (kind.entries file)) (entries_of kind others) key place
        ∙ ap (λ some. count_of kind key place some + count_of kind key place (entries_of kind others)) numbered
        ∙ ap (λ n. n + count_of kind key place (entries_of kind others)) (is_summed path files own first key place)
        ∙ sym (count-files kind files others key place)
        ∙ sym (is_summed path (files ++ others) all whole key place)

    pub sums_alone : SumsAlone kind
    sums_alone path file entries ok = (
      has_each_once path (file ∷ []) entries ok,
      λ key place. is_summed path (file ∷ []) entries ok key place ∙ ap (count_of kind key place) (append-nil (map (λ entry. entry.1) (kind.entries file))),
    )
