-- What the code's calls on a path come to where a `..` at the front stays, in the words of the definitions.
use Rattle.std.proofs.Common.{◌≡◌, ◌≢◌, ℕ, ◌+◌, ◌<◌, Bool, true, false, cond, List, [], ◌∷◌, ◌++◌, length, get_or, drop, fold, Bor, map, refl, sym, ap, ◌∙◌, arith}
use Rattle.std.specs.Prelude.{codes}
use Rattle.std.specs.Str.{bytes_eq}
use Rattle.std.proofs.lemmas.List.{at_drop_more, at_drop_all, map-append}
use Rattle.path_globs.specs.Beside.{up_from, with_component}
use Rattle.path_globs.proofs.NormalFormLemmas.{bytes_ne}

-- a component that is kept
pub kept_component : (kept : List (List ℕ)) (part : List ℕ) → part ≢ [] → part ≢ codes "." → part ≢ codes ".." → kept ++ part ∷ [] ≡ with_component kept part
kept_component kept part empty dot dots = rw (bytes_ne part [] empty, bytes_ne part (codes ".") dot, bytes_ne part (codes "..") dots) refl

pub kept_push : (kept after : List (Bor (List ℕ))) (part : Bor (List ℕ)) → after ≡ kept ++ part ∷ [] →
    map (λ one. one.now) after ≡ map (λ one. one.now) kept ++ part.now ∷ []
kept_push kept after part pushed = ap (map (λ one. one.now)) pushed ∙ map-append (λ (one : Bor (List ℕ)). one.now) kept (part ∷ [])

-- the last one goes, or stays where it is a `..`
pub up_last : (b : Bool) (xs : List (List ℕ)) (last : List ℕ) → bytes_eq last (codes "..") ≡ b → up_from (xs ++ last ∷ []) ≡ cond b ((xs ++ last ∷ []) ++ codes ".." ∷ []) xs
up_last true [] last e = ap (λ t. cond t (last ∷ codes ".." ∷ []) []) e
up_last false [] last e = ap (λ t. cond t (last ∷ codes ".." ∷ []) []) e
up_last true (x ∷ []) last e = ap (λ rest. x ∷ rest) (up_last true [] last e)
up_last false (x ∷ []) last e = ap (λ rest. x ∷ rest) (up_last false [] last e)
up_last true (x ∷ y ∷ xs) last e = ap (λ rest. x ∷ rest) (up_last true (y ∷ xs) last e)
up_last false (x ∷ y ∷ xs) last e = ap (λ rest. x ∷ rest) (up_last false (y ∷ xs) last e)

-- one component more
pub one_more : (kept : List (List ℕ)) (all : List (List ℕ)) (n : ℕ) (part : List ℕ) (next : List (List ℕ)) → (n < length all) × (part ≡ get_or all n part) → next ≡ with_component kept part →
    fold with_component next (drop (n + 1) all) ≡ fold with_component kept (drop n all)
one_more kept all n part next here is =
    ap (λ k. fold with_component k (drop (n + 1) all)) (is ∙ ap (with_component kept) here.1) ∙ sym (at_drop_more (fold with_component kept) all n part here.0)

pub at_end : (kept all : List (List ℕ)) (n : ℕ) → length all ≡ n → kept ≡ fold with_component kept (drop n all)
at_end kept all n end = sym (at_drop_all (fold with_component kept) all n (omega arith))

abbrev texts : List (Bor (List ℕ)) → List (List ℕ)
texts parts = map (λ part. part.now) parts

last-text : (old new : List (Bor (List ℕ))) (last : Bor (List ℕ)) → old ≡ new ++ last ∷ [] → texts old ≡ texts new ++ last.now ∷ []
last-text old new last is = kept_push new old last is

pub up_else : (old new : List (Bor (List ℕ))) (last : Bor (List ℕ)) → old ≡ new ++ last ∷ [] → false ≡ bytes_eq last.now (codes "..") → texts new ≡ up_from (texts old)
up_else old new last is other = sym (ap up_from (last-text old new last is) ∙ up_last false (texts new) last.now (sym other))

pub up_then : (old new one two : List (Bor (List ℕ))) (last component : Bor (List ℕ)) → old ≡ new ++ last ∷ [] → one ≡ new ++ last ∷ [] → two ≡ one ++ component ∷ [] → true ≡ bytes_eq last.now (codes "..") → component.now ≡ codes ".." → texts two ≡ up_from (texts old)
up_then old new one two last component is pushed again same own =
    last-text two one component again
    ∙ ap (λ text. texts one ++ text ∷ []) own
    ∙ ap (λ parts. texts parts ++ codes ".." ∷ []) pushed
    ∙ ap (λ parts. parts ++ codes ".." ∷ []) (last-text (new ++ last ∷ []) new last refl)
    ∙ sym (ap up_from (last-text old new last is) ∙ up_last true (texts new) last.now (sym same))
