-- Members that were put in by the digits of their ids come back in the order of the ids.
use Rattle.std.proofs.Common.{◌≡◌, ◌⊎◌, inl, inr, ℕ, ◌^◌, ◌<◌, List, [], ◌∷◌, map, fold, Option, Some, None, option_and_then, decimal, refl, sym, ap, ◌∙◌, arith}
use Rattle.std.specs.Ordering.{nat_cmp, match_ordering}
use Rattle.std.specs.Cmp.{nat_cmp_is}
use Rattle.std.specs.declared.cmp.Ordering.{Ordering}
use Rattle.std.specs.declared.cmp.Ordering.TheVariants.{Less, Equal, Greater}
use Rattle.std.specs.Cmp.Lexicographic.{slice_cmp}
use Rattle.std.specs.BTreeMap.{insert_entry}
use Rattle.std.specs.List.{AllByRecursion}
use Rattle.std.specs.List.Sorted.{IsStrictlySortedBy}
use Rattle.std.proofs.lemmas.Bool.{cases_order}
use Rattle.std.proofs.lemmas.Map.Lookups.{exact_bytes}
use Rattle.serde_json.specs.Data.{Data, Members, no_members, member, put}
use Rattle.cov_object.specs.Numbered.{Ascends, AreSmall}
use Rattle.cov_object.specs.Read.{id_of, by_id}
use Rattle.cov_object.proofs.DigitIds.{id_of-decimal}

less : (a b : ℕ) → a < b → nat_cmp a b ≡ Less
less a b h = sym (nat_cmp_is a b Less h)

pub same : (a b : ℕ) → a ≡ b → nat_cmp a b ≡ Equal
same a b h = sym (nat_cmp_is a b Equal h)

more : (a b : ℕ) → b < a → nat_cmp a b ≡ Greater
more a b h = sym (nat_cmp_is a b Greater h)

is_less : (a b : ℕ) → nat_cmp a b ≡ Less → a < b
is_less a b e = grind arith

module _ {X : Type 0} where
  abbrev insert : List (ℕ × X) → ℕ → X → List (ℕ × X)
  insert es k x = insert_entry nat_cmp es k x

  swap-at : (e : ℕ × X) (es : List (ℕ × X)) (a b : ℕ) (x y : X) → a < b → (a ≡ e.0) ⊎ ((a < e.0) ⊎ (e.0 < a)) → (b ≡ e.0) ⊎ ((b < e.0) ⊎ (e.0 < b)) →
      insert (insert es a x) b y ≡ insert (insert es b y) a x → insert (insert (e ∷ es) a x) b y ≡ insert (insert (e ∷ es) b y) a x
  swap-at e es a b x y h (inl p) (inl q) rest = absurd (omega arith)
  swap-at e es a b x y h (inl p) (inr (inl q)) rest = absurd (omega arith)
  swap-at e es a b x y h (inl p) (inr (inr q)) rest = simp (same a e.0 p, more b e.0 q)
  swap-at e es a b x y h (inr (inl p)) (inl q) rest = simp (less a e.0 p, more b a h, same b e.0 q)
  swap-at e es a b x y h (inr (inl p)) (inr (inl q)) rest = simp (less a e.0 p, more b a h, less b e.0 q, less a b h)
  swap-at e es a b x y h (inr (inl p)) (inr (inr q)) rest = simp (less a e.0 p, more b a h, more b e.0 q)
  swap-at e es a b x y h (inr (inr p)) (inl q) rest = absurd (omega arith)
  swap-at e es a b x y h (inr (inr p)) (inr (inl q)) rest = absurd (omega arith)
  swap-at e es a b x y h (inr (inr p)) (inr (inr q)) rest = simp (more a e.0 p, more b e.0 q) (ap (λ r. e ∷ r) rest)

  swap-less : (es : List (ℕ × X)) (a b : ℕ) (x y : X) → a < b → insert (insert es a x) b y ≡ insert (insert es b y) a x
  swap-less [] a b x y h = simp (more b a h, less a b h)
  swap-less (e ∷ es) a b x y h = swap-at e es a b x y h (cases_order a e.0) (cases_order b e.0) (swap-less es a b x y h)

  swap-cases : (es : List (ℕ × X)) (a b : ℕ) (x y : X) → (a ≡ b → ⊥) → (a ≡ b) ⊎ ((a < b) ⊎ (b < a)) → insert (insert es a x) b y ≡ insert (insert es b y) a x
  swap-cases es a b x y apart (inl p) = absurd (apart p)
  swap-cases es a b x y apart (inr (inl p)) = swap-less es a b x y p
  swap-cases es a b x y apart (inr (inr p)) = sym (swap-less es b a y x p)

  -- two with different ids may go in either way round
  pub swap : (es : List (ℕ × X)) (a b : ℕ) (x y : X) → (a ≡ b → ⊥) → insert (insert es a x) b y ≡ insert (insert es b y) a x
  swap es a b x y apart = swap-cases es a b x y apart (cases_order a b)

  -- what comes before all others goes first
  first : (id : ℕ) (x : X) (es : List (ℕ × X)) → AllByRecursion (λ other. nat_cmp id other ≡ Less) (map (λ e. e.0) es) → insert es id x ≡ (id, x) ∷ es
  first id x [] below = refl
  first id x (e ∷ es) below = ap (λ o. match_ordering o ((id, x) ∷ e ∷ es) ((e.0, x) ∷ es) (e ∷ insert es id x)) below.0

-- no member has this id
abbrev pub Apart : ℕ → Members → Type 0
Apart id no_members = Unit {0}
Apart id (member key value rest) = (id_of key ≡ Some id → ⊥) × Apart id rest

Apart-match : (o : Ordering) (id : ℕ) (xs ys zs : Members) → Apart id xs → Apart id ys → Apart id zs → Apart id (match_ordering o xs ys zs)
Apart-match Less id xs ys zs x y z = x
Apart-match Equal id xs ys zs x y z = y
Apart-match Greater id xs ys zs x y z = z

Apart-put : (id : ℕ) (key : List ℕ) (value : Data) (ms : Members) → (id_of key ≡ Some id → ⊥) → Apart id ms → Apart id (put key value ms)
Apart-put id key value no_members other apart = (other, tt)
Apart-put id key value (member l e ms) other apart =
    Apart-match (slice_cmp nat_cmp key l) id (member key value (member l e ms)) (member l value ms) (member l e (put key value ms))
    (other, apart) apart (apart.0, Apart-put id key value ms other apart.1)

found-next : (r : Option ℕ) (id : ℕ) (found : List (ℕ × Data)) (value first_value : Data) (ms rest : Members) → (r ≡ Some id → ⊥) →
    ((es : List (ℕ × Data)) → by_id rest es ≡ by_id ms (insert es id value)) →
    option_and_then (λ n. by_id rest (insert found n first_value)) r ≡ option_and_then (λ n. by_id ms (insert (insert found id value) n first_value)) r
found-next None id found value first_value ms rest apart later = refl
found-next (Some n) id found value first_value ms rest apart later =
    later (insert found n first_value)
    ∙ ap (by_id ms) (swap found n id first_value value (λ e. apart (ap (λ k. Some k) e)))

put-match : (o : Ordering) (key l : List ℕ) (id : ℕ) (value e : Data) (ms : Members) (found : List (ℕ × Data)) → slice_cmp nat_cmp key l ≡ o → id_of key ≡ Some id → (id_of l ≡ Some id → ⊥) →
    ((es : List (ℕ × Data)) → by_id (put key value ms) es ≡ by_id ms (insert es id value)) →
    by_id (match_ordering o (member key value (member l e ms)) (member l value ms) (member l e (put key value ms))) found ≡ by_id (member l e ms) (insert found id value)
put-match Less key l id value e ms found o is apart later = ap (λ r. option_and_then (λ n. by_id (member l e ms) (insert found n value)) r) is
put-match Equal key l id value e ms found o is apart later = absurd (apart (ap id_of (sym (exact_bytes key l o)) ∙ is))
put-match Greater key l id value e ms found o is apart later = found-next (id_of l) id found value e ms (put key value ms) apart later

-- a member that was put in is found as if it had come first
by_id-put : (key : List ℕ) (id : ℕ) (value : Data) (ms : Members) (found : List (ℕ × Data)) → id_of key ≡ Some id → Apart id ms →
    by_id (put key value ms) found ≡ by_id ms (insert found id value)
by_id-put key id value no_members found is apart = ap (λ r. option_and_then (λ n. Some (insert found n value)) r) is
by_id-put key id value (member l e ms) found is apart =
    put-match (slice_cmp nat_cmp key l) key l id value e ms found refl is apart.0 (λ es. by_id-put key id value ms es is apart.1)

-- things beside their ids, put in by their digits
abbrev pub put_id : Members → ℕ × Data → Members
put_id placed entry = put (decimal entry.0) entry.1 placed

abbrev AreApart : List (ℕ × Data) → Members → Type 0
AreApart [] ms = Unit {0}
AreApart (entry ∷ rest) ms = Apart entry.0 ms × AreApart rest ms

other_numeral : (a b : ℕ) → a < 2 ^ 32 → a < b → id_of (decimal a) ≡ Some b → ⊥
other_numeral a b small below is = let equal : a ≡ b = Some_injective (sym (id_of-decimal a small) ∙ is) in omega arith where
  Some_injective : {m n : ℕ} → Some m ≡ Some n → m ≡ n
  Some_injective e = cc

AreApart-put : (entry : ℕ × Data) (rest : List (ℕ × Data)) (ms : Members) → entry.0 < 2 ^ 32 → AllByRecursion (λ other. nat_cmp entry.0 other ≡ Less) (map (λ e. e.0) rest) →
    AreApart rest ms → AreApart rest (put_id ms entry)
AreApart-put entry [] ms small below apart = tt
AreApart-put entry (next ∷ rest) ms small below apart =
    (Apart-put next.0 (decimal entry.0) entry.1 ms (other_numeral entry.0 next.0 small (is_less entry.0 next.0 below.0)) apart.0, AreApart-put entry rest ms small below.1 apart.1)

by_id-fold : (entries : List (ℕ × Data)) (ms : Members) → AreSmall entries → Ascends entries → AreApart entries ms → by_id (fold put_id ms entries) [] ≡ by_id ms entries
unfolding IsStrictlySortedBy
by_id-fold [] ms small ascends apart = refl
by_id-fold (entry ∷ rest) ms small ascends apart =
    by_id-fold rest (put_id ms entry) small.1 ascends.1 (AreApart-put entry rest ms small.0 ascends.0 apart.1)
    ∙ by_id-put (decimal entry.0) entry.0 entry.1 ms rest (id_of-decimal entry.0 small.0) apart.0
    ∙ ap (by_id ms) (first entry.0 entry.1 rest ascends.0)

none_apart : (entries : List (ℕ × Data)) → AreApart entries no_members
none_apart [] = tt
none_apart (entry ∷ rest) = (tt, none_apart rest)

-- all come back, in the order of the ids
pub by_id-all : (entries : List (ℕ × Data)) → AreSmall entries → Ascends entries → by_id (fold put_id no_members entries) [] ≡ Some entries
by_id-all entries small ascends = by_id-fold entries no_members small ascends (none_apart entries)
