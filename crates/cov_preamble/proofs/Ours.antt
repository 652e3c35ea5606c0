-- The name of a file's function can be referred to, and no variable of the file has it.
use Rattle.std.proofs.Common.{◌≡◌, ℕ, zero, suc, ◌<◌, Bool, true, false, List, [], ◌∷◌, ◌++◌, length, refl, sym, ap, subst, ◌∙◌, arith}
use Rattle.std.specs.Prelude.{codes, ◌&&◌, ◌||◌, ◌%◌, ◌/◌, nat_lt, if◌then◌else◌}
use Rattle.std.specs.List.{list_any, list_all}
use Rattle.std.specs.Str.{bytes_eq}
use Rattle.std.specs.Ordering.{nat_cmp, match_ordering, is_eq}
use Rattle.std.specs.declared.cmp.Ordering.{Ordering}
use Rattle.std.specs.declared.cmp.Ordering.TheVariants.{Less, Equal, Greater}
use Rattle.std.specs.Cmp.Lexicographic.{slice_cmp}
use Rattle.std.proofs.lemmas.Bool.{and_parts, ltb-true, ltb-false}
use Rattle.std.proofs.lemmas.Map.Text.{is_eq-slice_cmp}
use Rattle.std.proofs.lemmas.Slice.Eq.{bytes_eq-Decides}
use Rattle.sha1.specs.Sha1.{sha1}
use Rattle.js_text.specs.Word.{reserved_word}
use Rattle.js_reading.specs.Kinds.{is_keyword}
use Rattle.js_layout.specs.Printable.{Refers}
use Rattle.js_scopes.specs.declared.mention.Mention.{Mention}
use Rattle.js_scopes.specs.declared.mention.Mention.TheVariants as mention
use Rattle.js_scopes.specs.Mentions.{mentions_file}
use Rattle.js_scopes.specs.Names.{with_name, with_mention, with_mentions, names_of}
use Rattle.js_scopes.specs.Reserved.{is_reserved}
use Rattle.js_tree.specs.Plain.{File}
use Rattle.cov_rewritten.specs.Whole.{says, IsFresh}
use Rattle.cov_preamble.specs.Name.{digit, digits_of, in_base_36, number_of, is_among, apart, cov_name}
use Rattle.cov_preamble.proofs.Fresh.{apart_is}
use Rattle.cov_preamble.proofs.Named.{is_letter, name_token}

-- ---- it is `cov_` and letters

abbrev all_below : (ℕ → Bool) → ℕ → Bool
all_below p zero = true
all_below p (suc k) = p k && all_below p k

holds_below : (p : ℕ → Bool) (k n : ℕ) → all_below p k ≡ true → n < k → p n ≡ true
holds_below p zero n all below = absurd (omega (arith, below))
holds_below p (suc k) n all below =
    let both = and_parts (p k) (all_below p k) all in
    by (nat_lt n k) refl both.0 (λ less. holds_below p k n both.1 less)
  where
    by : (b : Bool) → nat_lt n k ≡ b → p k ≡ true → (n < k → p n ≡ true) → p n ≡ true
    by true e last rest = rest (ltb-true n k e)
    by false e last rest = let over = ltb-false n k e in let same : n ≡ k = omega (arith, over, below) in ap p same ∙ last

digit_letter : (n : ℕ) → n < 36 → is_letter (digit n) ≡ true
digit_letter n h = holds_below (λ d. is_letter (digit d)) 36 n refl h

all_append : (p : ℕ → Bool) (xs ys : List ℕ) → list_all p xs ≡ true → list_all p ys ≡ true → list_all p (xs ++ ys) ≡ true
all_append p [] ys h g = g
all_append p (x ∷ xs) ys h g =
    let both = and_parts (p x) (list_all p xs) h in
    ap (λ b. b && list_all p (xs ++ ys)) both.0 ∙ all_append p xs ys both.1 g

digits_letters : (more n : ℕ) → list_all is_letter (digits_of more n) ≡ true
digits_letters zero n = ap (λ b. b && true) (digit_letter (n % 36) (omega arith))
digits_letters (suc more) n =
    all_append is_letter (if nat_lt n 36 then [] else digits_of more (n / 36)) (digit (n % 36) ∷ []) (by (nat_lt n 36) (digits_letters more (n / 36))) (ap (λ b. b && true) (digit_letter (n % 36) (omega arith)))
  where
    by : (b : Bool) → list_all is_letter (digits_of more (n / 36)) ≡ true → list_all is_letter (if b then [] else digits_of more (n / 36)) ≡ true
    by true rest = refl
    by false rest = rest

abbrev Ends : (more : ℕ) (cs : List ℕ) (names : List (List ℕ)) → Type 0
Ends more cs names = (ds : List ℕ) × ((list_all is_letter ds ≡ true) × (apart more (codes "cov_" ++ cs) names ≡ codes "cov_" ++ ds))

ends : (more : ℕ) (cs : List ℕ) (names : List (List ℕ)) → list_all is_letter cs ≡ true → Ends more cs names
ends zero cs names h = (cs, (h, refl))
ends (suc more) cs names h = by (is_among (codes "cov_" ++ cs) names) (ends more (cs ++ 0x5F ∷ []) names (all_append is_letter cs (0x5F ∷ []) h refl))
  where
    by : (b : Bool) → Ends more (cs ++ 0x5F ∷ []) names →
        ((ds : List ℕ) × ((list_all is_letter ds ≡ true) × ((if b then apart more ((codes "cov_" ++ cs) ++ 0x5F ∷ []) names else codes "cov_" ++ cs) ≡ codes "cov_" ++ ds)))
    by false rest = (cs, (h, refl))
    by true rest = rest

-- ---- such a name

no_keyword : (ds : List ℕ) → is_keyword (codes "cov_" ++ ds) ≡ false
unfolding is_keyword reserved_word
no_keyword ds = refl

not_reserved : (ds : List ℕ) → is_reserved true (codes "cov_" ++ ds) ≡ false
unfolding is_reserved
not_reserved ds = refl

refers : (ds : List ℕ) → list_all is_letter ds ≡ true → Refers (codes "cov_" ++ ds)
refers ds h = record {
  name = record { token = name_token (codes "ov_" ++ ds) h; free = no_keyword ds };
  free = refl;
}

pub can_refer : (path : List ℕ) (names : List (List ℕ)) → Refers (cov_name path names)
can_refer path names =
    let it = ends (length names) (in_base_36 (number_of (sha1 path))) names (digits_letters 12 (number_of (sha1 path))) in
    subst Refers (sym it.1.1) (refers it.0 it.1.0)

-- ---- the names of a file

twice : (b c : Bool) → (b || c) ≡ (b || (b || c))
twice true c = refl
twice false c = refl

swap : (a b c : Bool) → (a || (b || c)) ≡ (b || (a || c))
swap true true c = refl
swap true false c = refl
swap false true c = refl
swap false false c = refl

among_more : (n : List ℕ) (keys : List (List ℕ)) (w : List ℕ) → is_among n (with_name keys w) ≡ (bytes_eq w n || is_among n keys)
among_more n [] w = refl
among_more n (k ∷ ks) w = by (slice_cmp nat_cmp w k) refl (among_more n ks w)
  where
    by : (o : Ordering) → slice_cmp nat_cmp w k ≡ o → is_among n (with_name ks w) ≡ (bytes_eq w n || is_among n ks) →
        is_among n (match_ordering o (w ∷ k ∷ ks) (k ∷ ks) (k ∷ with_name ks w)) ≡ (bytes_eq w n || (bytes_eq k n || is_among n ks))
    by Less e h = refl
    by Equal e h =
        let same : w ≡ k = (bytes_eq-Decides w k).0 (sym (is_eq-slice_cmp w k) ∙ ap is_eq e) in
        twice (bytes_eq k n) (is_among n ks) ∙ ap (λ v. bytes_eq v n || (bytes_eq k n || is_among n ks)) (sym same)
    by Greater e h = ap (λ b. bytes_eq k n || b) h ∙ swap (bytes_eq k n) (bytes_eq w n) (is_among n ks)

neither : (a b : Bool) → (a || b) ≡ false → (a ≡ false) × (b ≡ false)
neither true b h = absurd cc
neither false b h = (refl, h)

not_said : (n : List ℕ) (names : List (List ℕ)) (x : Mention) → is_among n (with_mention names x) ≡ false → (says n x ≡ false) × (is_among n names ≡ false)
not_said n names (mention.Variable at w) h = neither (bytes_eq w n) (is_among n names) (sym (among_more n names w) ∙ h)
not_said n names (mention.Label at w) h = (refl, (neither (bytes_eq w n) (is_among n names) (sym (among_more n names w) ∙ h)).1)
not_said n names (mention.Member w) h = (refl, (neither (bytes_eq w n) (is_among n names) (sym (among_more n names w) ∙ h)).1)
not_said n names (mention.Required us) h = (refl, h)

none_said : (n : List ℕ) (names : List (List ℕ)) (xs : List Mention) → is_among n (with_mentions names xs) ≡ false → (list_any (says n) xs ≡ false) × (is_among n names ≡ false)
none_said n names [] h = (refl, h)
none_said n names (x ∷ xs) h =
    let rest = none_said n (with_mention names x) xs h in
    let this = not_said n names x rest.1 in
    (ap (λ b. b || list_any (says n) xs) this.0 ∙ rest.0, this.1)

pub is_new : (path : List ℕ) (tree : File) → IsFresh (cov_name path (names_of (mentions_file tree))) tree
is_new path tree =
    let names = names_of (mentions_file tree) in
    let it = ends (length names) (in_base_36 (number_of (sha1 path))) names (digits_letters 12 (number_of (sha1 path))) in record {
      allowed = ap (is_reserved true) it.1.1 ∙ not_reserved it.0;
      fresh = (none_said (cov_name path names) [] (mentions_file tree) (apart_is (codes "cov_" ++ in_base_36 (number_of (sha1 path))) names)).0;
    }
