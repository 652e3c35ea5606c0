-- The first places of names.
use Rattle.std.proofs.Common.{◌≡◌, ℕ, suc, ◌+◌, ◌<◌, ◌≤◌, Bool, true, false, cond, List, [], ◌∷◌, ◌++◌, length, map, take, get_or, Option, Some, None, is_some, option_map, refl, sym, ap, ◌∙◌, true≢false, arith}
use Rattle.std.specs.List.{position}
use Rattle.std.specs.Str.{bytes_eq}
use Rattle.std.specs.Map.{update}
use Rattle.std.proofs.lemmas.List.{length-map, map-append, take_more, length-take-le}
use Rattle.std.proofs.lemmas.Bool.Decides.{nat_tests}
use Rattle.std.proofs.lemmas.Slice.Eq.{bytes_eq-Decides}
use Rattle.js_heap.specs.private.Bindings.{or_place, IsIndexOf}

pub position-first : {X : Type 0} (p : X → Bool) (x : X) (xs : List X) → p x ≡ true → position p (x ∷ xs) ≡ Some 0
position-first p x xs is = rw is (grind (arith, nat_tests))

pub position-later : {X : Type 0} (p : X → Bool) (x : X) (xs : List X) → p x ≡ false → position p (x ∷ xs) ≡ option_map suc (position p xs)
position-later p x xs is = rw is (grind (arith, nat_tests))

or_place-later : (r : Option ℕ) (here : Bool) (n : ℕ) → option_map suc (or_place r here n) ≡ or_place (option_map suc r) here (suc n)
or_place-later (Some i) here n = refl
or_place-later None true n = refl
or_place-later None false n = refl

-- one more at the end
pub position-push : {X : Type 0} (p : X → Bool) (xs : List X) (y : X) → position p (xs ++ y ∷ []) ≡ or_place (position p xs) (p y) (length xs)
position-push p [] y = elim (p y) as (λ b. p y ≡ b → position p (y ∷ []) ≡ or_place None b 0) [ true ↦ λ is. position-first p y [] is | false ↦ λ is. position-later p y [] is ] refl
position-push p (x ∷ xs) y =
    elim (p x) as (λ b. p x ≡ b → position p (x ∷ (xs ++ y ∷ [])) ≡ or_place (position p (x ∷ xs)) (p y) (suc (length xs))) [
      | true ↦ λ is. position-first p x (xs ++ y ∷ []) is ∙ ap (λ r. or_place r (p y) (suc (length xs))) (sym (position-first p x xs is))
      | false ↦ λ is. position-later p x (xs ++ y ∷ []) is ∙ ap (option_map suc) (position-push p xs y)
          ∙ or_place-later (position p xs) (p y) (length xs) ∙ ap (λ r. or_place r (p y) (suc (length xs))) (sym (position-later p x xs is))
    ] refl

-- one more of those that are taken
pub map-take_more : {X Y : Type 0} (f : X → Y) (xs : List X) (i : ℕ) (x : X) → i < length xs → x ≡ get_or xs i x → map f (take i xs) ++ f x ∷ [] ≡ map f (take (i + 1) xs)
map-take_more f xs i x within at =
    ap (λ y. map f (take i xs) ++ f y ∷ []) at ∙ sym (map-append f (take i xs) (get_or xs i x ∷ [])) ∙ ap (map f) (sym (take_more xs i x within))

pub length-map_take : {X Y : Type 0} (f : X → Y) (xs : List X) (i : ℕ) → i ≤ length xs → i ≡ length (map f (take i xs))
length-map_take f xs i within = sym (length-map (take i xs) f ∙ length-take-le i xs within)

-- an index with the place of one more name is one of the names and it
pub IsIndexOf-push : (places after : List ℕ → Option ℕ) (names : List (List ℕ)) (name : List ℕ) (place : ℕ) → IsIndexOf places names → place ≡ length names →
    ((q : List ℕ) → after q ≡ or_place (places q) (bytes_eq name q) place) → IsIndexOf after (names ++ name ∷ [])
IsIndexOf-push places after names name place is last one q =
    one q ∙ ap (λ r. or_place r (bytes_eq name q) place) (is q)
    ∙ ap (λ n. or_place (position (λ n. bytes_eq n q) names) (bytes_eq name q) n) last ∙ sym (position-push (λ n. bytes_eq n q) names name)

elsewhere : (r : Option ℕ) (place : ℕ) → r ≡ or_place r false place
elsewhere (Some i) place = refl
elsewhere None place = refl

put-at : (places : List ℕ → Option ℕ) (name q : List ℕ) (place : ℕ) (b : Bool) → bytes_eq name q ≡ b → is_some (places name) ≡ false → cond b (Some place) (places q) ≡ or_place (places q) b place
put-at places name q place false is absent = elsewhere (places q) place
put-at places name q place true is absent =
    let none : (r : Option ℕ) → is_some r ≡ false → r ≡ None = λ r h. elim r as (λ s. is_some s ≡ false → s ≡ None) [ Some i ↦ λ k. absurd (true≢false k) | None ↦ λ k. refl ] h in
    let at : places q ≡ None = ap places (sym ((bytes_eq-Decides name q).0 is)) ∙ none (places name) absent in
    ap (λ r. or_place r true place) (sym at)

-- the place of a name that had none
pub put-name : (places after : List ℕ → Option ℕ) (name : List ℕ) (place : ℕ) → is_some (places name) ≡ false → ((q : List ℕ) → after q ≡ update bytes_eq places name (Some place) q) → (q : List ℕ) → after q ≡ or_place (places q) (bytes_eq name q) place
put-name places after name place absent up q = up q ∙ put-at places name q place (bytes_eq name q) refl absent

kept-at : (places : List ℕ → Option ℕ) (name q : List ℕ) (place : ℕ) (b : Bool) → bytes_eq name q ≡ b → is_some (places name) ≡ true → places q ≡ or_place (places q) b place
kept-at places name q place false is there = elsewhere (places q) place
kept-at places name q place true is there =
    let at : is_some (places q) ≡ true = ap (λ n. is_some (places n)) (sym ((bytes_eq-Decides name q).0 is)) ∙ there in
    elim (places q) as (λ r. is_some r ≡ true → r ≡ or_place r true place) [ Some i ↦ λ k. refl | None ↦ λ k. absurd (true≢false (sym k)) ] at

-- a name that has a place keeps it
pub kept-name : (places : List ℕ → Option ℕ) (name : List ℕ) (place : ℕ) → is_some (places name) ≡ true → (q : List ℕ) → places q ≡ or_place (places q) (bytes_eq name q) place
kept-name places name place there q = kept-at places name q place (bytes_eq name q) refl there
