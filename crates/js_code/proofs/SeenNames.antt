-- What names a set has.
use Rattle.std.proofs.Common.{◌≡◌, ℕ, ◌+◌, ◌<◌, Bool, true, false, cond, not, ◌||◌, List, [], ◌∷◌, ◌++◌, length, map, get_or, drop, refl, ap, sym, ◌∙◌, append_assoc, drop-cons, add-one}
use Rattle.std.specs.Bool.{OnFalse}
use Rattle.std.specs.List.{list_any}
use Rattle.std.specs.Ordering.{nat_cmp}
use Rattle.std.specs.declared.cmp.Ordering.{Ordering}
use Rattle.std.specs.Cmp.Lexicographic.{slice_cmp}
use Rattle.std.specs.BTreeMap.{is_at}
use Rattle.std.specs.BTreeSet.{BTreeSet, IsUnchanged, Updates, contains}
use Rattle.std.specs.Str.{bytes_eq}
use Rattle.std.proofs.lemmas.Cmp.{nat_list_eq_equiv}
use Rattle.std.proofs.lemmas.Map.Text.{is_eq-slice_cmp}
use denote.Ref.{Bor}
use Rattle.js_meaning.specs.Scopes.{once, stands_in}
use Rattle.js_code.specs.private.Seen.{seen}
use Rattle.js_code.proofs.KindsOfLists.{from_at}

-- a name that is lent
abbrev name_of : List ℕ → Bor (List ℕ)
name_of q = record { ref_ptr = (0, 0); now = q }

abbrev by_bytes : Bor (List ℕ) → Bor (List ℕ) → Ordering
by_bytes x y = slice_cmp nat_cmp x.now y.now

-- only which names are there before matters
pub once_same : (a b names : List (List ℕ)) → ((q : List ℕ) → stands_in q a ≡ stands_in q b) → once a names ≡ once b names
once_same a b [] h = refl
once_same a b (x ∷ xs) h = rw (h x, once_same a b xs h, once_same (x ∷ a) (x ∷ b) xs (λ q. ap (λ z. bytes_eq q x || z) (h q))) refl

keys_stand : (q : List ℕ) (ks : List (Bor (List ℕ))) → list_any (is_at (by_bytes (name_of q))) ks ≡ stands_in q (map (λ k. k.now) ks)
keys_stand q [] = refl
keys_stand q (k ∷ ks) = rw (is_eq-slice_cmp q k.now, keys_stand q ks) refl

cond_or : (a b : Bool) → cond a true b ≡ (a || b)
cond_or true b = refl
cond_or false b = refl

-- a set has one more name
pub added : (s n : BTreeSet (Bor (List ℕ))) (k : Bor (List ℕ)) → Updates by_bytes s n k true → (q : List ℕ) → stands_in q (seen n) ≡ stands_in q (k.now ∷ seen s)
added s n k u q =
    sym (keys_stand q n.keys)
    ∙ u.0 (name_of q)
    ∙ cond_or (is_at (by_bytes k) (name_of q)) (list_any (is_at (by_bytes (name_of q))) s.keys)
    ∙ ap (λ z. z || list_any (is_at (by_bytes (name_of q))) s.keys) (is_eq-slice_cmp k.now q ∙ nat_list_eq_equiv.symm k.now q)
    ∙ ap (λ z. bytes_eq q k.now || z) (keys_stand q s.keys)

once_at : (before names : List (List ℕ)) (i : ℕ) (name : List ℕ) → i < length names → name ≡ get_or names i name → once before (drop i names) ≡ once before (name ∷ drop (i + 1) names)
once_at before names i name l e = rw (drop-cons names i name, ← e, add-one i) refl

was_there : (a b : Bool) → a ≡ not b → a ≡ false → b ≡ true
was_there a true p q = refl
was_there a false p q = cc

was_not : (a b : Bool) → a ≡ not b → a ≡ true → b ≡ false
was_not a true p q = cc
was_not a false p q = refl

same_keys : (new : Bool) (P : Type 0) → OnFalse new P → new ≡ false → P
same_keys true P h e = cc
same_keys false P h e = h

-- a name that the set has is left out
pub once_known : (s n : BTreeSet (Bor (List ℕ))) (k : Bor (List ℕ)) (new : Bool) (names : List (List ℕ)) (i : ℕ) (name : List ℕ) → i < length names → name ≡ get_or names i name → k.now ≡ name → new ≡ not (contains by_bytes s k) → new ≡ false → OnFalse new (IsUnchanged s n) → once (seen n) (drop (i + 1) names) ≡ once (seen s) (drop i names)
once_known s n k new names i name l e f h w g =
    let there : stands_in name (seen s) ≡ true = rw (← f) (sym (keys_stand k.now s.keys) ∙ was_there new _ h w) in
    sym (once_at (seen s) names i name l e ∙ rw (there, same_keys new _ g w) refl)

-- another is kept, and the set has it from there on
pub once_fresh : (s n : BTreeSet (Bor (List ℕ))) (k : Bor (List ℕ)) (new : Bool) (names : List (List ℕ)) (i : ℕ) (name : List ℕ) → i < length names → name ≡ get_or names i name → k.now ≡ name → new ≡ not (contains by_bytes s k) → new ≡ true → Updates by_bytes s n k true → name ∷ once (seen n) (drop (i + 1) names) ≡ once (seen s) (drop i names)
once_fresh s n k new names i name l e f h w u =
    let there : stands_in name (seen s) ≡ false = rw (← f) (sym (keys_stand k.now s.keys) ∙ was_not new _ h w) in
    let more : (q : List ℕ) → stands_in q (seen n) ≡ stands_in q (name ∷ seen s) = rw (← f) (added s n k u) in
    sym (once_at (seen s) names i name l e ∙ rw (there, once_same (seen n) (name ∷ seen s) (drop (i + 1) names) more) refl)

-- a name goes from what is left to the end of what is kept
pub one_more : (kept new rest left whole : List (List ℕ)) (name : List ℕ) → new ≡ kept ++ name ∷ [] → name ∷ rest ≡ left → kept ++ left ≡ whole → new ++ rest ≡ whole
one_more kept new rest left whole name n l h = rw n (append_assoc kept (name ∷ []) rest ∙ ap (λ r. kept ++ r) l ∙ h)

or_over : (a b c : Bool) → ((a || b) || c) ≡ (b || (a || c))
or_over true true c = refl
or_over true false c = refl
or_over false true c = refl
or_over false false c = refl

-- a name goes from what is left into the set
pub moves_in : (s n : BTreeSet (Bor (List ℕ))) (k : Bor (List ℕ)) (names : List (List ℕ)) (i : ℕ) (name : List ℕ) → i < length names → name ≡ get_or names i name → k.now ≡ name → Updates by_bytes s n k true →
    ((q : List ℕ) → (stands_in q (seen s) || stands_in q (drop i names)) ≡ stands_in q names) → (q : List ℕ) → (stands_in q (seen n) || stands_in q (drop (i + 1) names)) ≡ stands_in q names
moves_in s n k names i name l e f u h q =
    ap (λ x. x || stands_in q (drop (i + 1) names)) (added s n k u q)
    ∙ or_over (bytes_eq q k.now) (stands_in q (seen s)) (stands_in q (drop (i + 1) names))
    ∙ ap (λ x. stands_in q (seen s) || (bytes_eq q x || stands_in q (drop (i + 1) names))) f
    ∙ ap (λ xs. stands_in q (seen s) || stands_in q xs) (sym (from_at names i name l e))
    ∙ h q
