-- Members by their keys: in which order they are put doesn't matter.
use Rattle.std.proofs.Common.{false, true, Bool, ◌≡◌, ℕ, List, [], ◌∷◌, ◌++◌, fold, refl, sym, ap, ◌∙◌}
use Rattle.std.specs.Prelude.{bytes_eq}
use Rattle.std.proofs.lemmas.Slice.Eq.{bytes_eq-Decides}
use Rattle.std.specs.Ordering.{nat_cmp, match_ordering, ordering_reverse}
use Rattle.std.specs.declared.cmp.Ordering.{Ordering}
use Rattle.std.specs.declared.cmp.Ordering.TheVariants.{Less, Equal, Greater}
use Rattle.std.specs.Cmp.Lexicographic.{slice_cmp}
use Rattle.std.proofs.lemmas.Cmp.{nat_list_cmp_total}
use Rattle.serde_json.specs.Data.{Data, Members, no_members, member, put}
use Rattle.cov_object.specs.Json.{by_key}
use Rattle.cov_object.proofs.ReadText as kept
pub use Rattle.cov_expected.specs.Plain.{Above, AreSorted}

abbrev pub cmp : List ℕ → List ℕ → Ordering
cmp = slice_cmp nat_cmp

-- two keys of which neither takes the other's place
abbrev pub Differ : List ℕ → List ℕ → Type 0
Differ a b = cmp a b ≡ Equal → ⊥

pub turned : (a b : List ℕ) (o : Ordering) → cmp a b ≡ o → cmp b a ≡ ordering_reverse o
turned a b o is = nat_list_cmp_total.antisymm b a ∙ ap ordering_reverse is

same_by : (x : List ℕ) (o : Ordering) → cmp x x ≡ o → o ≡ ordering_reverse o → o ≡ Equal
same_by x Less is turned = absurd (cc)
same_by x Equal is turned = refl
same_by x Greater is turned = absurd (cc)

pub cmp_same : (x : List ℕ) → cmp x x ≡ Equal
cmp_same x = same_by x (cmp x x) refl (nat_list_cmp_total.antisymm x x)

less_equal : Less ≡ Equal → ⊥
less_equal e = cc

pub less_apart : (a b : List ℕ) → cmp a b ≡ Less → a ≡ b → ⊥
less_apart a b less same = less_equal (sym less ∙ ap (cmp a) (sym same) ∙ cmp_same a)

unequal_by : (a b : List ℕ) (t : Bool) → bytes_eq a b ≡ t → (a ≡ b → ⊥) → bytes_eq a b ≡ false
unequal_by a b false is other = is
unequal_by a b true is other = absurd (other ((bytes_eq-Decides a b).0 is))

pub unequal : (a b : List ℕ) → (a ≡ b → ⊥) → bytes_eq a b ≡ false
unequal a b other = unequal_by a b (bytes_eq a b) refl other

pub differ_turned : (a b : List ℕ) → Differ a b → Differ b a
differ_turned a b d is = d (turned b a Equal is)

abbrev chosen : Ordering → List ℕ → Data → List ℕ → Data → Members → Members → Members
chosen o k d l e ms rest = match_ordering o (member k d (member l e ms)) (member l d ms) (member l e rest)

put_by : (k : List ℕ) (d : Data) (l : List ℕ) (e : Data) (ms : Members) (o : Ordering) → cmp k l ≡ o → put k d (member l e ms) ≡ chosen o k d l e ms (put k d ms)
put_by k d l e ms o is = ap (λ o. chosen o k d l e ms (put k d ms)) is

-- a key before another one
module _ (a b : List ℕ) (x y : Data) (less : cmp a b ≡ Less) where
  more : cmp b a ≡ Greater
  more = turned a b Less less

  swap_at : (l : List ℕ) (e : Data) (ms : Members) (ra rb : Ordering) → cmp a l ≡ ra → cmp b l ≡ rb → put a x (put b y ms) ≡ put b y (put a x ms) →
      put a x (put b y (member l e ms)) ≡ put b y (put a x (member l e ms))
  swap_at l e ms ra Less isa isb later =
      let below : cmp a l ≡ Less = nat_list_cmp_total.trans a b l less isb in
      ap (put a x) (put_by b y l e ms Less isb) ∙ put_by a x b y (member l e ms) Less less
      ∙ sym (ap (put b y) (put_by a x l e ms Less below) ∙ put_by b y a x (member l e ms) Greater more ∙ ap (member a x) (put_by b y l e ms Less isb))
  swap_at l e ms ra Equal isa isb later =
      let below : cmp a l ≡ Less = turned l a Greater (sym (nat_list_cmp_total.congr b l a isb) ∙ more) in
      ap (put a x) (put_by b y l e ms Equal isb) ∙ put_by a x l y ms Less below
      ∙ sym (ap (put b y) (put_by a x l e ms Less below) ∙ put_by b y a x (member l e ms) Greater more ∙ ap (member a x) (put_by b y l e ms Equal isb))
  swap_at l e ms Less Greater isa isb later =
      ap (put a x) (put_by b y l e ms Greater isb) ∙ put_by a x l e (put b y ms) Less isa
      ∙ sym (ap (put b y) (put_by a x l e ms Less isa) ∙ put_by b y a x (member l e ms) Greater more ∙ ap (member a x) (put_by b y l e ms Greater isb))
  swap_at l e ms Equal Greater isa isb later =
      ap (put a x) (put_by b y l e ms Greater isb) ∙ put_by a x l e (put b y ms) Equal isa
      ∙ sym (ap (put b y) (put_by a x l e ms Equal isa) ∙ put_by b y l x ms Greater isb)
  swap_at l e ms Greater Greater isa isb later =
      ap (put a x) (put_by b y l e ms Greater isb) ∙ put_by a x l e (put b y ms) Greater isa
      ∙ ap (member l e) later
      ∙ sym (ap (put b y) (put_by a x l e ms Greater isa) ∙ put_by b y l e (put a x ms) Greater isb)

  swap_less : (ms : Members) → put a x (put b y ms) ≡ put b y (put a x ms)
  swap_less no_members = put_by a x b y no_members Less less ∙ sym (put_by b y a x no_members Greater more)
  swap_less (member l e ms) = swap_at l e ms (cmp a l) (cmp b l) refl refl (swap_less ms)

swap_by : (a b : List ℕ) (x y : Data) (ms : Members) (o : Ordering) → cmp a b ≡ o → Differ a b → put a x (put b y ms) ≡ put b y (put a x ms)
swap_by a b x y ms Less is differ = swap_less a b x y is ms
swap_by a b x y ms Equal is differ = absurd (differ is)
swap_by a b x y ms Greater is differ = sym (swap_less b a y x (turned a b Greater is) ms)

pub swap : (a b : List ℕ) (x y : Data) (ms : Members) → Differ a b → put a x (put b y ms) ≡ put b y (put a x ms)
swap a b x y ms differ = swap_by a b x y ms (cmp a b) refl differ

abbrev pub Entry : Type 0
Entry = List ℕ × Data

abbrev pub put_entry : Members → Entry → Members
put_entry ms entry = put entry.0 entry.1 ms

-- a key that is none of these
abbrev pub Away : List ℕ → List Entry → Type 0
Away key [] = Unit {0}
Away key (e ∷ es) = Differ key e.0 × Away key es

-- a member that is put first might as well come last
pub put_past : (key : List ℕ) (d : Data) (es : List Entry) (ms : Members) → Away key es → fold put_entry (put key d ms) es ≡ put key d (fold put_entry ms es)
put_past key d [] ms away = refl
put_past key d (e ∷ es) ms away =
    ap (λ m. fold put_entry m es) (swap e.0 key e.1 d ms (differ_turned key e.0 away.0))
    ∙ put_past key d es (put e.0 e.1 ms) away.1

pub fold_append : (es fs : List Entry) (ms : Members) → fold put_entry ms (es ++ fs) ≡ fold put_entry (fold put_entry ms es) fs
fold_append [] fs ms = refl
fold_append (e ∷ es) fs ms = fold_append es fs (put e.0 e.1 ms)

-- Members in order stay as they are

above_kept : (k : List ℕ) (ms : Members) → Above k ms → kept.Above k ms
above_kept k no_members above = tt
above_kept k (member l d ms) above = (above.0, above_kept k ms above.1)

above_told : (k : List ℕ) (ms : Members) → kept.Above k ms → Above k ms
above_told k no_members above = tt
above_told k (member l d ms) above = (above.0, above_told k ms above.1)

sorted_kept : (ms : Members) → AreSorted ms → kept.AreSorted ms
sorted_kept no_members sorted = tt
sorted_kept (member k d ms) sorted = (above_kept k ms sorted.0, sorted_kept ms sorted.1)

sorted_told : (ms : Members) → kept.AreSorted ms → AreSorted ms
sorted_told no_members sorted = tt
sorted_told (member k d ms) sorted = (above_told k ms sorted.0, sorted_told ms sorted.1)

pub sorted_all : (es : List Entry) (ms : Members) → AreSorted ms → AreSorted (fold put_entry ms es)
sorted_all es ms sorted = sorted_told (fold put_entry ms es) (kept.sorted-fold es ms (sorted_kept ms sorted))

pub sorted_put : (k : List ℕ) (d : Data) (ms : Members) → AreSorted ms → AreSorted (put k d ms)
sorted_put k d ms sorted = sorted_all ((k, d) ∷ []) ms sorted

abbrev pub entries : Members → List Entry
entries no_members = []
entries (member k d ms) = (k, d) ∷ entries ms

stays_first : (k : List ℕ) (d : Data) (rest ms : Members) → Above k ms → fold put_entry (member k d rest) (entries ms) ≡ member k d (fold put_entry rest (entries ms))
stays_first k d rest no_members above = refl
stays_first k d rest (member l e ms) above =
    ap (λ m. fold put_entry m (entries ms)) (put_by l e k d rest Greater (turned k l Less above.0))
    ∙ stays_first k d (put l e rest) ms above.1

pub sorted_back : (ms : Members) → AreSorted ms → by_key (entries ms) ≡ ms
sorted_back no_members sorted = refl
sorted_back (member k d ms) sorted = stays_first k d no_members ms sorted.0 ∙ ap (member k d) (sorted_back ms sorted.1)
