-- What a specifier resolves to ends with `.js`.
use Rattle.std.proofs.Common.{◌≡◌, ◌≢◌, ℕ, zero, suc, ◌+◌, ◌-◌, ◌≤◌, Bool, true, false, ◌==◌, List, [], ◌∷◌, ◌++◌, length, drop, take, Option, Some, None, codes, nat_eq, cond, if◌then◌else◌, refl, sym, ap, ◌∙◌, subst, arith, append_assoc, append-nil}
use Rattle.std.specs.Prelude.{option_and_then, option_map}
use Rattle.std.specs.List.{ends_with, slice_split, join_with_byte, onto_first}
use Rattle.std.specs.Str.{bytes_eq}
use Rattle.std.proofs.lemmas.Slice.Eq.{bytes_eq-Decides}
use Rattle.path_globs.specs.NormalForm.{components, is_from_root, normal, root, spelled, with_component, with_components}
use Rattle.path_globs.specs.Specifier.{ending, folder, is_relative, resolve}

abbrev js : List ℕ
js = codes ".js"

-- a text that ends so
pub record Ends (text : List ℕ) : Type 0 where
  pub before : List ℕ
  pub is : text ≡ before ++ js

-- ---- the test

same_length : (ys : List ℕ) → length (ys ++ js) - length js ≡ length ys
same_length [] = refl
same_length (y ∷ ys) = let more = same_length ys in let longer = long ys in omega (arith, more, longer)
  where
    long : (ys : List ℕ) → length js ≤ length (ys ++ js)
    long [] = omega arith
    long (y ∷ ys) = let l = long ys in omega (arith, l)

dropped : (ys : List ℕ) → drop (length ys) (ys ++ js) ≡ js
dropped [] = refl
dropped (y ∷ ys) = dropped ys

pub ends_test : (text : List ℕ) → Ends text → ends_with nat_eq text js ≡ true
ends_test text e =
    ap (λ t. ends_with nat_eq t js) e.is
    ∙ ap (λ n. bytes_eq js (drop n (e.before ++ js))) (same_length e.before)
    ∙ (bytes_eq-Decides js (drop (length e.before) (e.before ++ js))).1 (sym (dropped e.before))

both_parts : (n : ℕ) (xs : List ℕ) → take n xs ++ drop n xs ≡ xs
both_parts zero xs = refl
both_parts (suc n) [] = refl
both_parts (suc n) (x ∷ xs) = ap (λ rest. x ∷ rest) (both_parts n xs)

pub ends_by : (text : List ℕ) → ends_with nat_eq text js ≡ true → Ends text
ends_by text is =
    let n = length text - length js in
    record {
      before = take n text;
      is = sym (both_parts n text) ∙ ap (λ end. take n text ++ end) (sym ((bytes_eq-Decides js (drop n text)).0 is));
    }

-- ---- the last component

-- the parts of a list, the last of which ends so
record LastEnds (parts : List (List ℕ)) : Type 0 where
  before : List (List ℕ)
  last : List ℕ
  are : parts ≡ before ++ (last ++ js) ∷ []

one_more : (x : ℕ) (b : Bool) (parts : List (List ℕ)) → LastEnds parts → LastEnds (cond b ([] ∷ parts) (onto_first x parts))
one_more x true parts l = record { before = [] ∷ l.before; last = l.last; are = ap (λ ps. [] ∷ ps) l.are }
one_more x false parts l = by l.before l.last l.are
  where
    by : (before : List (List ℕ)) (last : List ℕ) → parts ≡ before ++ (last ++ js) ∷ [] → LastEnds (onto_first x parts)
    by [] last is = record { before = []; last = x ∷ last; are = ap (onto_first x) is }
    by (b ∷ before) last is = record { before = (x ∷ b) ∷ before; last = last; are = ap (onto_first x) is }

last_part : (ys : List ℕ) → LastEnds (slice_split (λ byte. byte == 47) (ys ++ js))
last_part [] = record { before = []; last = []; are = refl }
last_part (y ∷ ys) = one_more y (y == 47) (slice_split (λ byte. byte == 47) (ys ++ js)) (last_part ys)

-- a component that ends so stays
at_least : (last : List ℕ) → 3 ≤ length (last ++ js)
at_least [] = omega arith
at_least (x ∷ xs) = let l = at_least xs in omega (arith, l)

shorter : (last text : List ℕ) → length text ≤ 2 → last ++ js ≢ text
shorter last text short is = let long = at_least last in let same = ap length is in omega (arith, long, same, short)

ne : (xs ys : List ℕ) → xs ≢ ys → bytes_eq xs ys ≡ false
ne xs ys other = by (bytes_eq xs ys) refl
  where
    by : (test : Bool) → bytes_eq xs ys ≡ test → test ≡ false
    by true same = absurd (other ((bytes_eq-Decides xs ys).0 same))
    by false apart = refl

kept_component : (kept : List (List ℕ)) (part : List ℕ) → part ≢ [] → part ≢ codes "." → part ≢ codes ".." → with_component kept part ≡ Some (kept ++ part ∷ [])
kept_component kept part empty dot dots = rw (ne part [] empty, ne part (codes ".") dot, ne part (codes "..") dots) refl

stays : (kept : List (List ℕ)) (last : List ℕ) → with_component kept (last ++ js) ≡ Some (kept ++ (last ++ js) ∷ [])
stays kept last = (kept_component kept (last ++ js) (shorter last [] (omega arith)) (shorter last (codes ".") (omega arith)) (shorter last (codes "..") (omega arith)))

some_is : {one other : List (List ℕ)} → (◌≡◌) {A = Option (List (List ℕ))} (Some one) (Some other) → one ≡ other
some_is is = cc

last_kept : (before kept : List (List ℕ)) (last : List ℕ) (all : List (List ℕ)) → with_components kept (before ++ (last ++ js) ∷ []) ≡ Some all → LastEnds all
last_kept [] kept last all is =
    record { before = kept; last = last; are = sym (some_is (sym (ap (λ o. option_and_then (λ next. with_components next []) o) (stays kept last)) ∙ is)) }
last_kept (b ∷ before) kept last all is = by (λ next e. last_kept before next last all e) (with_component kept b) is
  where
    by : ((next : List (List ℕ)) → with_components next (before ++ (last ++ js) ∷ []) ≡ Some all → LastEnds all) → (o : Option (List (List ℕ))) →
        option_and_then (λ next. with_components next (before ++ (last ++ js) ∷ [])) o ≡ Some all → LastEnds all
    by later None is = absurd cc
    by later (Some next) is = later next is

joined : (parts : List (List ℕ)) (last : List ℕ) → Ends (join_with_byte 47 (parts ++ (last ++ js) ∷ []))
joined [] last = record { before = last; is = refl }
joined (a ∷ []) last = record { before = a ++ 47 ∷ last; is = sym (append_assoc a (47 ∷ last) js) }
joined (a ∷ b ∷ parts) last =
    let rest = joined (b ∷ parts) last in
    record { before = a ++ 47 ∷ rest.before; is = ap (λ t. a ++ 47 ∷ t) rest.is ∙ sym (append_assoc a (47 ∷ rest.before) js) }

-- ---- normal forms and specifiers

one_path : {one other : List ℕ} → (◌≡◌) {A = Option (List ℕ)} (Some one) (Some other) → one ≡ other
one_path is = cc

spelled_ends : (from_root : Bool) (parts : List (List ℕ)) → LastEnds parts → Ends (spelled from_root parts)
spelled_ends from_root parts l =
    let j = joined l.before l.last in
    record { before = root from_root ++ j.before; is = ap (λ ps. root from_root ++ join_with_byte 47 ps) l.are ∙ ap (λ t. root from_root ++ t) j.is ∙ sym (append_assoc (root from_root) j.before js) }

pub normal_ends : (ys path : List ℕ) → normal (ys ++ js) ≡ Some path → Ends path
normal_ends ys path is = by (last_part ys) (with_components [] (components (ys ++ js))) refl is
  where
    by : LastEnds (components (ys ++ js)) → (o : Option (List (List ℕ))) → with_components [] (components (ys ++ js)) ≡ o → option_map (spelled (is_from_root (ys ++ js))) o ≡ Some path → Ends path
    by parts None e is = absurd cc
    by parts (Some all) e is =
        subst Ends (one_path is)
        (spelled_ends (is_from_root (ys ++ js)) all (last_kept parts.before [] parts.last all (sym (ap (with_components []) parts.are) ∙ e)))

with_ending : (from specifier : List ℕ) → Ends (from ++ (specifier ++ ending specifier))
with_ending from specifier = by (ends_with nat_eq specifier js) refl
  where
    by : (b : Bool) → ends_with nat_eq specifier js ≡ b → Ends (from ++ (specifier ++ (if b then [] else js)))
    by true is =
        let e = ends_by specifier is in
        record { before = from ++ e.before; is = ap (λ t. from ++ t) (append-nil specifier ∙ e.is) ∙ sym (append_assoc from e.before js) }
    by false is = record { before = from ++ specifier; is = sym (append_assoc from specifier js) }

pub resolve_ends : (from specifier path : List ℕ) → resolve from specifier ≡ Some path → Ends path
resolve_ends from specifier path is = by (with_ending (folder from) specifier) (is_relative specifier) is
  where
    by : Ends (folder from ++ (specifier ++ ending specifier)) → (b : Bool) → (if b then normal (folder from ++ (specifier ++ ending specifier)) else None) ≡ Some path → Ends path
    by text true is = normal_ends text.before path (sym (ap normal text.is) ∙ is)
    by text false is = absurd cc
