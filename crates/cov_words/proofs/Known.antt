-- Which paths a set of texts has.
use Rattle.std.proofs.Common.{◌≡◌, ℕ, Bool, true, false, ◌||◌, List, [], ◌∷◌, ◌++◌, map, refl, sym, ap, ◌∙◌}
use Rattle.std.specs.List.{list_any}
use Rattle.std.specs.Ordering.{is_eq, nat_cmp, match_ordering}
use Rattle.std.specs.declared.cmp.Ordering.{Ordering}
use Rattle.std.specs.declared.cmp.Ordering.TheVariants.{Less, Equal, Greater}
use Rattle.std.specs.Cmp.Lexicographic.{slice_cmp, bytes_decides}
use Rattle.std.specs.BTreeMap.{is_at}
use Rattle.std.specs.BTreeSet.{insert_key}
use Rattle.std.specs.Str.{bytes_eq}
use Rattle.std.specs.String.{string_bytes, string_cmp}
use Rattle.std.specs.declared.string.String.{String}
use Rattle.std.specs.declared.alloc.Global.{Global}
use Rattle.std.proofs.lemmas.Map.Text.{is_eq-slice_cmp}
use Rattle.cov_words.specs.Words.{is_among, with_path}
use Rattle.cov_words.specs.private.Known.{HaveSame}

-- a path is looked up by its bytes
pub looked_up : (path : List ℕ) (keys : List (String Global)) → list_any (is_at (λ k. slice_cmp nat_cmp path (string_bytes k))) keys ≡ is_among path (map string_bytes keys)
looked_up path [] = refl
looked_up path (k ∷ ks) = rw (is_eq-slice_cmp path (string_bytes k), looked_up path ks) refl

swapped : (a b c : Bool) → (a || (b || c)) ≡ (b || (a || c))
swapped true true c = refl
swapped true false c = refl
swapped false b c = refl

twice : (a c : Bool) → (a || c) ≡ (a || (a || c))
twice true c = refl
twice false c = refl

-- a set has what is put into it and what it had
pub one_put : (path : List ℕ) (keys : List (String Global)) (key : String Global) →
    is_among path (map string_bytes (insert_key string_cmp keys key)) ≡ (bytes_eq path (string_bytes key) || is_among path (map string_bytes keys))
one_put path [] key = refl
one_put path (k ∷ ks) key = by (one_put path ks key) (slice_cmp nat_cmp (string_bytes key) (string_bytes k)) refl
  where
    by : is_among path (map string_bytes (insert_key string_cmp ks key)) ≡ (bytes_eq path (string_bytes key) || is_among path (map string_bytes ks)) →
        (o : Ordering) → slice_cmp nat_cmp (string_bytes key) (string_bytes k) ≡ o →
        is_among path (map string_bytes (match_ordering o (key ∷ k ∷ ks) (k ∷ ks) (k ∷ insert_key string_cmp ks key)))
        ≡ (bytes_eq path (string_bytes key) || (bytes_eq path (string_bytes k) || is_among path (map string_bytes ks)))
    by after Less is = refl
    by after Equal is =
        let equal : bytes_eq (string_bytes key) (string_bytes k) ≡ true = sym (is_eq-slice_cmp (string_bytes key) (string_bytes k)) ∙ ap is_eq is in
        let same : string_bytes key ≡ string_bytes k = (bytes_decides (string_bytes key) (string_bytes k)).0 equal in
        twice (bytes_eq path (string_bytes k)) (is_among path (map string_bytes ks))
        ∙ ap (λ bytes. bytes_eq path bytes || (bytes_eq path (string_bytes k) || is_among path (map string_bytes ks))) (sym same)
    by after Greater is =
        ap (λ rest. bytes_eq path (string_bytes k) || rest) after
        ∙ swapped (bytes_eq path (string_bytes k)) (bytes_eq path (string_bytes key)) (is_among path (map string_bytes ks))

-- and so has a list
listed : (path : List ℕ) (order : List (List ℕ)) (one : List ℕ) → is_among path (order ++ one ∷ []) ≡ (bytes_eq path one || is_among path order)
listed path [] one = refl
listed path (x ∷ xs) one = ap (λ rest. bytes_eq path x || rest) (listed path xs one) ∙ swapped (bytes_eq path x) (bytes_eq path one) (is_among path xs)

-- a set and a list have the same paths where one is put into both
pub both_put : (old new : List (String Global)) (key : String Global) (order : List (List ℕ)) → new ≡ insert_key string_cmp old key →
    HaveSame (map string_bytes old) order → HaveSame (map string_bytes new) (order ++ string_bytes key ∷ [])
both_put old new key order put same path =
    ap (λ keys. is_among path (map string_bytes keys)) put
    ∙ one_put path old key
    ∙ ap (λ rest. bytes_eq path (string_bytes key) || rest) (same path)
    ∙ sym (listed path order (string_bytes key))

-- a path that is known isn't put again
pub known_already : (order : List (List ℕ)) (path : List ℕ) → is_among path order ≡ true → order ≡ with_path order path
known_already order path among = rw among refl

-- and one that isn't is put at the end
pub put_last : (order : List (List ℕ)) (path : List ℕ) → is_among path order ≡ false → order ++ path ∷ [] ≡ with_path order path
put_last order path apart = rw apart refl
