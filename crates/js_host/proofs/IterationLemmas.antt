-- Keys that were met, and characters.
use Rattle.std.proofs.Common.{◌≡◌, ℕ, zero, suc, ◌+◌, ◌<◌, not, ◌&&◌, ◌||◌, Bool, true, false, List, [], ◌∷◌, ◌++◌, map, take, drop, length, get_or, append_assoc, Option, Some, None, if◌then◌else◌, refl, sym, ap, ◌∙◌}
use Rattle.std.specs.List.{list_any}
use Rattle.std.specs.Str.{bytes_eq}
use Rattle.std.proofs.lemmas.List.{map-append, take_more}
use Rattle.std.proofs.lemmas.List.Folds.{list_any-append}
use Rattle.std.proofs.lemmas.Slice.Eq.{bytes_eq-Decides}
use Rattle.indexmap.specs.IndexSet.{insert_key}
use Rattle.js_value.specs.declared.key.Key.{Key}
use Rattle.js_value.specs.State.{ObjectRecord}
use Rattle.js_value.specs.Objects.{object_in, keys_of_object}
use Rattle.js_value.specs.Iterations.{unmet, keys_along, next_character, Taken, taken, Characters}
use Rattle.js_value.specs.Host.{leads, trails}
use Rattle.js_value.specs.Realm.{text}
use Rattle.js_host.specs.private.Met.{SameMet, size_of}

append_same : (xs ys zs : List (List ℕ)) → SameMet ys zs → SameMet (xs ++ ys) (xs ++ zs)
append_same xs ys zs same key =
    list_any-append (bytes_eq key) xs ys ∙ ap (λ b. list_any (bytes_eq key) xs || b) (same key) ∙ sym (list_any-append (bytes_eq key) xs zs)

-- what is unmet depends on which keys were met, and not on how they stand
unmet_same : (xs ys : List (List ℕ)) → SameMet xs ys → (ks : List Key) → unmet xs ks ≡ unmet ys ks
unmet_same xs ys same [] = refl
unmet_same xs ys same (k ∷ ks) =
    ap (λ b. if k.enumerable && not b then k.key ∷ unmet xs ks else unmet xs ks) (same k.key)
    ∙ ap (λ us. if k.enumerable && not (list_any (bytes_eq k.key) ys) then k.key ∷ us else us) (unmet_same xs ys same ks)

pub along_same : (n : ℕ) (objects : List ObjectRecord) (chain : Option ℕ) (xs ys : List (List ℕ)) → SameMet xs ys → keys_along n objects chain xs ≡ keys_along n objects chain ys
along_same zero objects chain xs ys same = refl
along_same (suc n) objects None xs ys same = refl
along_same (suc n) objects (Some o) xs ys same =
    let own = keys_of_object (object_in objects o) in
    let next = (object_in objects o).prototype in
    ap (λ us. us ++ keys_along n objects next (map (λ k. k.key) own ++ xs)) (unmet_same xs ys same own)
    ∙ ap (λ us. unmet ys own ++ us) (along_same n objects next (map (λ k. k.key) own ++ xs) (map (λ k. k.key) own ++ ys) (append_same (map (λ k. k.key) own) xs ys same))

pub along_none : (n : ℕ) (objects : List ObjectRecord) (met : List (List ℕ)) → keys_along n objects None met ≡ []
along_none zero objects met = refl
along_none (suc n) objects met = refl

-- one key more
pub inserted : (key k : List ℕ) (ks : List (List ℕ)) → list_any (bytes_eq key) (insert_key bytes_eq ks k) ≡ (bytes_eq key k || list_any (bytes_eq key) ks)
inserted key k ks = by (list_any (bytes_eq k) ks) refl (bytes_eq key k) refl
  where
    last : (a b : Bool) → (a || (b || false)) ≡ (b || a)
    last true true = refl
    last true false = refl
    last false true = refl
    last false false = refl

    by : (there : Bool) → list_any (bytes_eq k) ks ≡ there → (same : Bool) → bytes_eq key k ≡ same →
        list_any (bytes_eq key) (insert_key bytes_eq ks k) ≡ (bytes_eq key k || list_any (bytes_eq key) ks)
    by true e true s =
        let is : key ≡ k = (bytes_eq-Decides key k).0 s in
        ap (λ b. list_any (bytes_eq key) (if b then ks else ks ++ k ∷ [])) e
        ∙ ap (λ q. list_any (bytes_eq q) ks) is ∙ e ∙ sym (ap (λ b. b || list_any (bytes_eq key) ks) s)
    by true e false s = ap (λ b. list_any (bytes_eq key) (if b then ks else ks ++ k ∷ [])) e ∙ sym (ap (λ b. b || list_any (bytes_eq key) ks) s)
    by false e same s =
        ap (λ b. list_any (bytes_eq key) (if b then ks else ks ++ k ∷ [])) e
        ∙ list_any-append (bytes_eq key) ks (k ∷ []) ∙ last (list_any (bytes_eq key) ks) (bytes_eq key k)

or_swap : (a b c : Bool) → (a || (b || c)) ≡ ((b || (a || false)) || c)
or_swap true true c = refl
or_swap true false c = refl
or_swap false true c = refl
or_swap false false c = refl

pub met_more : (q : List ℕ) (own : List Key) (i : ℕ) (k : Key) (met : List (List ℕ)) → i < length own → k ≡ get_or own i k →
    (bytes_eq q k.key || list_any (bytes_eq q) (map (λ (x : Key). x.key) (take i own) ++ met)) ≡ list_any (bytes_eq q) (map (λ (x : Key). x.key) (take (i + 1) own) ++ met)
met_more q own i k met within at =
    let before = map (λ (x : Key). x.key) (take i own) in
    let after : map (λ (x : Key). x.key) (take (i + 1) own) ≡ before ++ k.key ∷ [] =
    ap (map (λ (x : Key). x.key)) (take_more own i k within) ∙ map-append (λ (x : Key). x.key) (take i own) (get_or own i k ∷ []) ∙ ap (λ (x : Key). before ++ x.key ∷ []) (sym at) in
    ap (λ b. bytes_eq q k.key || b) (list_any-append (bytes_eq q) before met)
    ∙ or_swap (bytes_eq q k.key) (list_any (bytes_eq q) before) (list_any (bytes_eq q) met)
    ∙ sym (ap (λ ks. list_any (bytes_eq q) (ks ++ met)) after ∙ list_any-append (bytes_eq q) (before ++ k.key ∷ []) met
    ∙ ap (λ b. b || list_any (bytes_eq q) met) (list_any-append (bytes_eq q) before (k.key ∷ [])))

-- a member of a chain, and then the others
pub along_step : (n o : ℕ) (objects : List ObjectRecord) (keys more met after : List (List ℕ)) →
    more ≡ keys ++ unmet met (keys_of_object (object_in objects o)) → SameMet after (map (λ k. k.key) (keys_of_object (object_in objects o)) ++ met) →
    more ++ keys_along n objects (object_in objects o).prototype after ≡ keys ++ keys_along (suc n) objects (Some o) met
along_step n o objects keys more met after is same =
    let own = keys_of_object (object_in objects o) in
    ap (λ ks. ks ++ keys_along n objects (object_in objects o).prototype after) is
    ∙ append_assoc keys (unmet met own) (keys_along n objects (object_in objects o).prototype after)
    ∙ ap (λ ks. keys ++ (unmet met own ++ ks)) (along_same n objects (object_in objects o).prototype after (map (λ k. k.key) own ++ met) same)

nothing : (xs : List (List ℕ)) → xs ++ [] ≡ xs
nothing [] = refl
nothing (x ∷ xs) = ap (λ ys. x ∷ ys) (nothing xs)

pub along_end : (n : ℕ) (objects : List ObjectRecord) (keys met : List (List ℕ)) → keys ≡ keys ++ keys_along n objects None met
along_end n objects keys met = sym (ap (λ ks. keys ++ ks) (along_none n objects met) ∙ nothing keys)

-- The first character

-- what is taken of so many units
abbrev pub taken_of : List ℕ → ℕ → Option Taken
taken_of us zero = None
taken_of us (suc n) = Some (taken (text (take (suc n) us)) (Characters (drop (suc n) us)))

of_pair : (u w : ℕ) (us : List ℕ) (b : Bool) →
    (if b then Some (taken (text (u ∷ w ∷ [])) (Characters us)) else Some (taken (text (u ∷ [])) (Characters (w ∷ us)))) ≡ taken_of (u ∷ w ∷ us) (if b then 2 else 1)
of_pair u w us true = refl
of_pair u w us false = refl

pub character_at : (us : List ℕ) → next_character us ≡ taken_of us (size_of us)
character_at [] = refl
character_at (u ∷ []) = refl
character_at (u ∷ w ∷ us) = of_pair u w us (leads u && trails w)

pub character_is : (us : List ℕ) (size : ℕ) → size ≡ size_of us → (size ≡ 0 → ⊥) → next_character us ≡ Some (taken (text (take size us)) (Characters (drop size us)))
character_is us zero is some = absurd (some refl)
character_is us (suc n) is some = character_at us ∙ ap (taken_of us) (sym is)
