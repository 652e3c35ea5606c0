-- The order of the numbers by their digits.
use Rattle.std.proofs.Common.{◌≡◌, ℕ, Bool, true, List, [], ◌∷◌, ◌++◌, map, fold, refl, ap, ◌∙◌, append_assoc}
use Rattle.std.specs.Prelude.{decimal, String, string_bytes}
use Rattle.std.specs.Borrow.{Bor}
use Rattle.std.specs.Ordering.{nat_cmp, match_ordering}
use Rattle.std.specs.declared.cmp.Ordering.{Ordering}
use Rattle.std.specs.declared.cmp.Ordering.TheVariants.{Less, Equal, Greater}
use Rattle.std.specs.Cmp.Lexicographic.{slice_cmp}
use Rattle.std.specs.BTreeMap.{insert_entry}
use Rattle.std.specs.String.{string_cmp}
use Rattle.std.specs.declared.alloc.Global.{Global}
use Rattle.serde_json.specs.Data.{Data, object, Members, member, put}
use Rattle.serde_json.specs.Written.{compact_text}
use Rattle.cov_object.specs.Json.{numbered}
use Rattle.cov_object.specs.private.Order.{put_in, in_key_order, members_of}
use Rattle.cov_object.specs.private.Piece.{key_text, member_text}

module _ {T : Type 0} where
  -- lent things under texts, as the things under the texts' bytes
  abbrev pub by_bytes : List (String Global × Bor T) → List (List ℕ × T)
  by_bytes entries = map (λ thing. (string_bytes thing.0, thing.1.now)) entries

  by_bytes-match : (o : Ordering) (xs ys zs : List (String Global × Bor T)) → by_bytes (match_ordering o xs ys zs) ≡ match_ordering o (by_bytes xs) (by_bytes ys) (by_bytes zs)
  by_bytes-match Less xs ys zs = refl
  by_bytes-match Equal xs ys zs = refl
  by_bytes-match Greater xs ys zs = refl

  pub by_bytes-insert : (entries : List (String Global × Bor T)) (k : String Global) (v : Bor T) →
      by_bytes (insert_entry string_cmp entries k v) ≡ insert_entry (slice_cmp nat_cmp) (by_bytes entries) (string_bytes k) v.now
  by_bytes-insert [] k v = refl
  by_bytes-insert (e ∷ es) k v =
      by_bytes-match (string_cmp k e.0) ((k, v) ∷ e ∷ es) ((e.0, v) ∷ es) (e ∷ insert_entry string_cmp es k v)
      ∙ ap (λ rest. match_ordering (string_cmp k e.0) (by_bytes ((k, v) ∷ e ∷ es)) (by_bytes ((e.0, v) ∷ es)) ((string_bytes e.0, e.1.now) ∷ rest)) (by_bytes-insert es k v)

  -- one thing more is put in
  pub put_in-more : (entries others : List (String Global × Bor T)) (k : String Global) (v : Bor T) (id : ℕ) (x : T) → string_bytes k ≡ decimal id → v.now ≡ x →
      others ≡ insert_entry string_cmp entries k v → by_bytes others ≡ put_in (by_bytes entries) (id, x)
  put_in-more entries others k v id x digits same after =
      ap by_bytes after ∙ by_bytes-insert entries k v
      ∙ ap (λ ds. insert_entry (slice_cmp nat_cmp) (by_bytes entries) ds v.now) digits
      ∙ ap (insert_entry (slice_cmp nat_cmp) (by_bytes entries) (decimal id)) same

  -- ---- the members of things in that order

  module _ (f : T → Data) where
    members_of-match : (o : Ordering) (xs ys zs : List (List ℕ × T)) → members_of f (match_ordering o xs ys zs) ≡ match_ordering o (members_of f xs) (members_of f ys) (members_of f zs)
    members_of-match Less xs ys zs = refl
    members_of-match Equal xs ys zs = refl
    members_of-match Greater xs ys zs = refl

    members_of-insert : (es : List (List ℕ × T)) (k : List ℕ) (v : T) → members_of f (insert_entry (slice_cmp nat_cmp) es k v) ≡ put k (f v) (members_of f es)
    members_of-insert [] k v = refl
    members_of-insert (e ∷ es) k v =
        members_of-match (slice_cmp nat_cmp k e.0) ((k, v) ∷ e ∷ es) ((e.0, v) ∷ es) (e ∷ insert_entry (slice_cmp nat_cmp) es k v)
        ∙ ap (λ rest. match_ordering (slice_cmp nat_cmp k e.0) (members_of f ((k, v) ∷ e ∷ es)) (members_of f ((e.0, v) ∷ es)) (member e.0 (f e.1) rest)) (members_of-insert es k v)

    abbrev put_entry : Members → List ℕ × Data → Members
    put_entry placed entry = put entry.0 entry.1 placed

    members_of-fold : (es : List (List ℕ × T)) (things : List (ℕ × T)) →
        members_of f (fold put_in es things) ≡ fold put_entry (members_of f es) (map (λ thing. (decimal thing.0, f thing.1)) things)
    members_of-fold es [] = refl
    members_of-fold es (thing ∷ things) =
        members_of-fold (put_in es thing) things
        ∙ ap (λ ms. fold put_entry ms (map (λ thing. (decimal thing.0, f thing.1)) things)) (members_of-insert es (decimal thing.0) thing.1)

    -- they make the object of the numbered things
    pub key_order-numbered : (things : List (ℕ × T)) → object (members_of f (in_key_order things)) ≡ numbered f things
    key_order-numbered things = ap object (members_of-fold [] things)

texts : (o0 k a l b : List ℕ) → (((o0 ++ k) ++ a) ++ l) ++ b ≡ o0 ++ ((k ++ a) ++ (l ++ b))
texts o0 k a l b = simp append_assoc

-- two members, as they are written
pub two_members : (later : Bool) (first second : List ℕ) (a b : Data) (o0 o1 o2 o3 o4 : List ℕ) →
    o1 ≡ o0 ++ key_text later first → o2 ≡ o1 ++ compact_text a → o3 ≡ o2 ++ key_text true second → o4 ≡ o3 ++ compact_text b →
    o4 ≡ o0 ++ (member_text later first a ++ member_text true second b)
two_members later first second a b o0 o1 o2 o3 o4 e1 e2 e3 e4 =
    rw (e4, e3, e2, e1) (texts o0 (key_text later first) (compact_text a) (key_text true second) (compact_text b))
