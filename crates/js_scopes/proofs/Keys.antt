-- A set of texts, seen as their bytes: a text goes where its bytes go.
use Rattle.std.proofs.Common.{◌≡◌, ℕ, List, [], ◌∷◌, ◌++◌, map, refl, ap}
use Rattle.std.specs.Ordering.{nat_cmp, match_ordering}
use Rattle.std.specs.declared.cmp.Ordering.{Ordering}
use Rattle.std.specs.declared.cmp.Ordering.TheVariants.{Less, Equal, Greater}
use Rattle.std.specs.Cmp.Lexicographic.{slice_cmp}
use Rattle.std.specs.BTreeSet.{insert_key}
use Rattle.std.specs.String.{string_bytes, string_cmp}
use Rattle.std.specs.declared.string.String.{String}
use Rattle.std.specs.declared.alloc.Global.{Global}
use Rattle.js_scopes.specs.declared.mention.Mention.{Mention}
use Rattle.js_scopes.specs.Names.{with_name, with_mention, with_mentions}

pub insert_key-bytes : (keys : List (String Global)) (key : String Global)
    → map string_bytes (insert_key string_cmp keys key) ≡ with_name (map string_bytes keys) (string_bytes key)
insert_key-bytes [] key = refl
insert_key-bytes (k ∷ ks) key = by (slice_cmp nat_cmp (string_bytes key) (string_bytes k)) (ap (λ rest. string_bytes k ∷ rest) (insert_key-bytes ks key))
  where
    by : (o : Ordering) → map string_bytes (k ∷ insert_key string_cmp ks key) ≡ string_bytes k ∷ with_name (map string_bytes ks) (string_bytes key)
        → map string_bytes (match_ordering o (key ∷ k ∷ ks) (k ∷ ks) (k ∷ insert_key string_cmp ks key))
        ≡ match_ordering o (string_bytes key ∷ string_bytes k ∷ map string_bytes ks) (string_bytes k ∷ map string_bytes ks) (string_bytes k ∷ with_name (map string_bytes ks) (string_bytes key))
    by Less after = refl
    by Equal after = refl
    by Greater after = after

-- one mention more comes after those before it
pub with_mentions_push : (names : List (List ℕ)) (xs : List Mention) (x : Mention) → with_mentions names (xs ++ x ∷ []) ≡ with_mention (with_mentions names xs) x
with_mentions_push names [] x = refl
with_mentions_push names (y ∷ ys) x = with_mentions_push (with_mention names y) ys x
