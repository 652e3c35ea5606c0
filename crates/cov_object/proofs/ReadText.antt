-- The text of a value is read as the value.
use Rattle.std.proofs.Common.{◌≡◌, ℕ, suc, max, ◌++◌, Bool, false, IsUtf8, ◌^◌, ◌<◌, ◌≤◌, List, [], ◌∷◌, fold, Option, Some, option_map, option_and_then, true, decimal, refl, sym, ap, ap₂, ◌∙◌, subst, arith, append-nil}
use Rattle.std.specs.Ordering.{nat_cmp, match_ordering, ordering_reverse}
use Rattle.std.specs.declared.cmp.Ordering.{Ordering}
use Rattle.std.specs.declared.cmp.Ordering.TheVariants.{Less, Equal, Greater}
use Rattle.std.specs.Cmp.Lexicographic.{slice_cmp}
use Rattle.std.proofs.lemmas.Cmp.{nat_list_cmp_total}
use Rattle.std.proofs.lemmas.Str.{IsUtf8-append, IsUtf8-from_ascii}
use Rattle.std.proofs.lemmas.Fmt.{IsAscii-decimal}
use Rattle.json.proofs.Printed.Utf8.{are_ascii, IsUtf8-are_ascii, IsUtf8-quoted}
use Rattle.json.specs.Print.{quoted}
use Rattle.json.specs.Token.{Token}
use Rattle.json.specs.Lex.{tokens}
use Rattle.json.specs.Json as json
use Rattle.json.specs.Tree as tree
use Rattle.json.specs.Tree.{json_tokens, HasNumbers, MembersHaveNumbers, ItemsHaveNumbers}
use Rattle.json.proofs.Printed.Trees.{value-json_tokens, ArePrintable-json_tokens}
use Rattle.json.proofs.Printed.Tokens.{tokens-print}
use Rattle.json.proofs.Printed.Decimals.{IsNumber-decimal}
use Rattle.serde_json.specs.Data.{Data, number, unsigned, string, array, object, Items, no_items, item, Members, no_members, member, put, depth, items_depth, members_depth}
use Rattle.serde_json.specs.Read.{of_json, of_items, of_members, max_depth, read}
use Rattle.serde_json.specs.Written.{comma_if, compact_text, items_text, members_text, outline, items_outline, members_outline}
use Rattle.serde_json.specs.View.{items_of}
use Rattle.serde_json.proofs.Numbers.{number_of-decimal}
use Rattle.serde_json.proofs.Texts.{print-outline}
use Rattle.cov_object.specs.Json.{by_key, object_of}

mutual
  pub depth-outline : (d : Data) → tree.depth (outline d) ≡ depth d
  depth-outline Data.null = refl
  depth-outline (Data.boolean b) = refl
  depth-outline (number n) = refl
  depth-outline (string s) = refl
  depth-outline (array ds) = ap suc (depth-items ds)
  depth-outline (object ms) = ap suc (depth-members ms)

  depth-items : (ds : Items) → tree.items_depth (items_outline ds) ≡ items_depth ds
  depth-items no_items = refl
  depth-items (item d ds) = ap₂ max (depth-outline d) (depth-items ds)

  depth-members : (ms : Members) → tree.members_depth (members_outline ms) ≡ members_depth ms
  depth-members no_members = refl
  depth-members (member k d ms) = ap₂ max (depth-outline d) (depth-members ms)

-- a value whose text is read as it, and that nests at most n deep
pub record IsReadable (n : ℕ) (d : Data) : Type 0 where
  pub numbers : HasNumbers (outline d)
  pub converts : of_json (outline d) ≡ Some d
  pub shallow : depth d ≤ n
  pub utf8 : IsUtf8 (compact_text d)

abbrev pub whole : Option (json.Json × List Token) → Option Data
whole parsed = option_and_then of_json (option_and_then (λ p. json.if_last p.0 p.1) parsed)

-- its text
pub read-text : (d : Data) → IsReadable max_depth d → read (compact_text d) ≡ Some d
read-text d is =
    let lexed : tokens (compact_text d) ≡ json_tokens (outline d) =
    ap tokens (sym (print-outline d)) ∙ tokens-print (json_tokens (outline d)) (ArePrintable-json_tokens (outline d) is.numbers) in
    ap whole (ap (json.value max_depth) (lexed ∙ sym (append-nil _)) ∙ value-json_tokens (outline d) max_depth [] (subst (λ k. k ≤ max_depth) (sym (depth-outline d)) is.shallow))
    ∙ is.converts

pub weaker : (m n : ℕ) (d : Data) → m ≤ n → IsReadable m d → IsReadable n d
weaker m n d le is = record { numbers = is.numbers; converts = is.converts; shallow = omega arith; utf8 = is.utf8 }

-- ---- values without parts

pub readable-number : (n k : ℕ) → n < 2 ^ 64 → IsReadable k (number (unsigned n))
readable-number n k small = record { numbers = IsNumber-decimal n small; converts = ap (option_map number) (number_of-decimal n small); shallow = omega arith; utf8 = IsUtf8-from_ascii (decimal n) (IsAscii-decimal n small) }

pub readable-string : (s : List ℕ) (k : ℕ) → IsUtf8 s → IsReadable k (string s)
readable-string s k text = record { numbers = tt; converts = refl; shallow = omega arith; utf8 = IsUtf8-quoted s text }

pub readable-null : (k : ℕ) → IsReadable k Data.null
readable-null k = record { numbers = tt; converts = refl; shallow = omega arith; utf8 = IsUtf8-are_ascii (compact_text Data.null) refl }

-- ---- arrays

abbrev pub EachReadable : ℕ → List Data → Type 0
EachReadable n [] = Unit {0}
EachReadable n (d ∷ ds) = IsReadable n d × EachReadable n ds

items-numbers : (n : ℕ) (ds : List Data) → EachReadable n ds → ItemsHaveNumbers (items_outline (items_of ds))
items-numbers n [] each = tt
items-numbers n (d ∷ ds) each = (each.0.numbers, items-numbers n ds each.1)

items-convert : (n : ℕ) (ds : List Data) → EachReadable n ds → of_items (items_outline (items_of ds)) ≡ Some (items_of ds)
items-convert n [] each = refl
items-convert n (d ∷ ds) each =
    ap (λ o. option_and_then (λ e. option_map (item e) (of_items (items_outline (items_of ds)))) o) each.0.converts
    ∙ ap (option_map (item d)) (items-convert n ds each.1)

items-shallow : (n : ℕ) (ds : List Data) → EachReadable n ds → items_depth (items_of ds) ≤ n
items-shallow n [] each = omega arith
items-shallow n (d ∷ ds) each = let here = each.0.shallow in let later = items-shallow n ds each.1 in omega arith

one-utf8 : (c : ℕ) (rest : List ℕ) → are_ascii (c ∷ []) ≡ true → IsUtf8 rest → IsUtf8 (c ∷ rest)
one-utf8 c rest small text = IsUtf8-append (c ∷ []) rest (IsUtf8-are_ascii (c ∷ []) small) text

comma-utf8 : (later : Bool) (rest : List ℕ) → IsUtf8 rest → IsUtf8 (comma_if later ++ rest)
comma-utf8 true rest text = one-utf8 44 rest refl text
comma-utf8 false rest text = text

items-utf8 : (n : ℕ) (later : Bool) (ds : List Data) → EachReadable n ds → IsUtf8 (items_text later (items_of ds))
items-utf8 n later [] each = IsUtf8-are_ascii (93 ∷ []) refl
items-utf8 n later (d ∷ ds) each =
    comma-utf8 later (compact_text d ++ items_text true (items_of ds)) (IsUtf8-append (compact_text d) (items_text true (items_of ds)) each.0.utf8 (items-utf8 n true ds each.1))

pub readable-array : (n : ℕ) (ds : List Data) → EachReadable n ds → IsReadable (suc n) (array (items_of ds))
readable-array n ds each = record {
  numbers = items-numbers n ds each;
  converts = ap (option_map array) (items-convert n ds each);
  shallow = let h = items-shallow n ds each in omega arith;
  utf8 = one-utf8 91 (items_text false (items_of ds)) refl (items-utf8 n false ds each);
}

-- ---- objects whose keys ascend

-- each key comes after this one
abbrev pub Above : List ℕ → Members → Type 0
Above k no_members = Unit {0}
Above k (member l d ms) = (slice_cmp nat_cmp k l ≡ Less) × Above k ms

abbrev pub AreSorted : Members → Type 0
AreSorted no_members = Unit {0}
AreSorted (member k d ms) = Above k ms × AreSorted ms

abbrev pub AllReadable : ℕ → Members → Type 0
AllReadable n no_members = Unit {0}
AllReadable n (member k d ms) = (IsUtf8 k × IsReadable n d) × AllReadable n ms

Above-match : (o : Ordering) (k : List ℕ) (xs ys zs : Members) → (o ≡ Less → Above k xs) → Above k ys → Above k zs → Above k (match_ordering o xs ys zs)
Above-match Less k xs ys zs x y z = x refl
Above-match Equal k xs ys zs x y z = y
Above-match Greater k xs ys zs x y z = z

Above-put : (k l : List ℕ) (d : Data) (ms : Members) → slice_cmp nat_cmp k l ≡ Less → Above k ms → Above k (put l d ms)
Above-put k l d no_members here above = (here, tt)
Above-put k l d (member m e ms) here above =
    Above-match (slice_cmp nat_cmp l m) k (member l d (member m e ms)) (member m d ms) (member m e (put l d ms))
    (λ less. (here, above)) above (above.0, Above-put k l d ms here above.1)

pub Above-further : (k l : List ℕ) (ms : Members) → slice_cmp nat_cmp k l ≡ Less → Above l ms → Above k ms
Above-further k l no_members less above = tt
Above-further k l (member m e ms) less above = (nat_list_cmp_total.trans k l m less above.0, Above-further k l ms less above.1)

AreSorted-match : (o : Ordering) (k l : List ℕ) (d e : Data) (ms : Members) → slice_cmp nat_cmp k l ≡ o → AreSorted (member l e ms) → AreSorted (put k d ms) →
    AreSorted (match_ordering o (member k d (member l e ms)) (member l d ms) (member l e (put k d ms)))
AreSorted-match Less k l d e ms is sorted later = ((is, Above-further k l ms is sorted.0), sorted)
AreSorted-match Equal k l d e ms is sorted later = sorted
AreSorted-match Greater k l d e ms is sorted later =
    (Above-put l k d ms (nat_list_cmp_total.antisymm l k ∙ ap ordering_reverse is) sorted.0, later)

pub AreSorted-put : (k : List ℕ) (d : Data) (ms : Members) → AreSorted ms → AreSorted (put k d ms)
AreSorted-put k d no_members sorted = (tt, tt)
AreSorted-put k d (member l e ms) sorted = AreSorted-match (slice_cmp nat_cmp k l) k l d e ms refl sorted (AreSorted-put k d ms sorted.1)

AllReadable-match : (o : Ordering) (n : ℕ) (xs ys zs : Members) → AllReadable n xs → AllReadable n ys → AllReadable n zs → AllReadable n (match_ordering o xs ys zs)
AllReadable-match Less n xs ys zs x y z = x
AllReadable-match Equal n xs ys zs x y z = y
AllReadable-match Greater n xs ys zs x y z = z

pub AllReadable-put : (n : ℕ) (k : List ℕ) (d : Data) (ms : Members) → IsUtf8 k → IsReadable n d → AllReadable n ms → AllReadable n (put k d ms)
AllReadable-put n k d no_members key here all = ((key, here), tt)
AllReadable-put n k d (member l e ms) key here all =
    AllReadable-match (slice_cmp nat_cmp k l) n (member k d (member l e ms)) (member l d ms) (member l e (put k d ms))
    ((key, here), all) ((all.0.0, here), all.1) (all.0, AllReadable-put n k d ms key here all.1)

-- members one after another
abbrev joined : Members → Members → Members
joined no_members ms = ms
joined (member k d before) ms = member k d (joined before ms)

-- each key comes before this one
abbrev Below : List ℕ → Members → Type 0
Below k no_members = Unit {0}
Below k (member l d ms) = (slice_cmp nat_cmp k l ≡ Greater) × Below k ms

abbrev AllBelow : Members → Members → Type 0
AllBelow before no_members = Unit {0}
AllBelow before (member k d ms) = Below k before × AllBelow before ms

put-last : (k : List ℕ) (d : Data) (before : Members) → Below k before → put k d before ≡ joined before (member k d no_members)
put-last k d no_members below = refl
put-last k d (member l e before) below =
    ap (λ o. match_ordering o (member k d (member l e before)) (member l d before) (member l e (put k d before))) below.0
    ∙ ap (member l e) (put-last k d before below.1)

Below-joined : (k l : List ℕ) (d : Data) (before : Members) → Below k before → slice_cmp nat_cmp k l ≡ Greater → Below k (joined before (member l d no_members))
Below-joined k l d no_members below here = (here, tt)
Below-joined k l d (member m e before) below here = (below.0, Below-joined k l d before below.1 here)

AllBelow-joined : (l : List ℕ) (d : Data) (before ms : Members) → AllBelow before ms → Above l ms → AllBelow (joined before (member l d no_members)) ms
AllBelow-joined l d before no_members below above = tt
AllBelow-joined l d before (member k e ms) below above =
    (Below-joined k l d before below.0 (nat_list_cmp_total.antisymm k l ∙ ap ordering_reverse above.0), AllBelow-joined l d before ms below.1 above.1)

joined-one : (k : List ℕ) (d : Data) (before ms : Members) → joined (joined before (member k d no_members)) ms ≡ joined before (member k d ms)
joined-one k d no_members ms = refl
joined-one k d (member l e before) ms = ap (member l e) (joined-one k d before ms)

members-convert : (n : ℕ) (before ms : Members) → AllBelow before ms → AreSorted ms → AllReadable n ms → of_members (members_outline ms) before ≡ Some (joined before ms)
members-convert n before no_members below sorted all = ap (λ ms. Some ms) (joined-none before) where
  joined-none : (ms : Members) → ms ≡ joined ms no_members
  joined-none no_members = refl
  joined-none (member k d ms) = ap (member k d) (joined-none ms)
members-convert n before (member k d ms) below sorted all =
    ap (λ o. option_and_then (λ e. of_members (members_outline ms) (put k e before)) o) all.0.1.converts
    ∙ ap (of_members (members_outline ms)) (put-last k d before below.0)
    ∙ members-convert n (joined before (member k d no_members)) ms (AllBelow-joined k d before ms below.1 sorted.0) sorted.1 all.1
    ∙ ap (λ xs. Some xs) (joined-one k d before ms)

none-below : (ms : Members) → AllBelow no_members ms
none-below no_members = tt
none-below (member k d ms) = (tt, none-below ms)

members-numbers : (n : ℕ) (ms : Members) → AllReadable n ms → MembersHaveNumbers (members_outline ms)
members-numbers n no_members all = tt
members-numbers n (member k d ms) all = (all.0.1.numbers, members-numbers n ms all.1)

members-shallow : (n : ℕ) (ms : Members) → AllReadable n ms → members_depth ms ≤ n
members-shallow n no_members all = omega arith
members-shallow n (member k d ms) all = let here = all.0.1.shallow in let later = members-shallow n ms all.1 in omega arith

members-utf8 : (n : ℕ) (later : Bool) (ms : Members) → AllReadable n ms → IsUtf8 (members_text later ms)
members-utf8 n later no_members all = IsUtf8-are_ascii (125 ∷ []) refl
members-utf8 n later (member k d ms) all =
    let value = IsUtf8-append (compact_text d) (members_text true ms) all.0.1.utf8 (members-utf8 n true ms all.1) in
    comma-utf8 later (quoted k ++ 58 ∷ (compact_text d ++ members_text true ms))
    (IsUtf8-append (quoted k) (58 ∷ (compact_text d ++ members_text true ms)) (IsUtf8-quoted k all.0.0) (one-utf8 58 (compact_text d ++ members_text true ms) refl value))

pub readable-object : (n : ℕ) (ms : Members) → AreSorted ms → AllReadable n ms → IsReadable (suc n) (object ms)
readable-object n ms sorted all = record {
  numbers = members-numbers n ms all;
  converts = ap (option_map object) (members-convert n no_members ms (none-below ms) sorted all);
  shallow = let h = members-shallow n ms all in omega arith;
  utf8 = one-utf8 123 (members_text false ms) refl (members-utf8 n false ms all);
}

-- members that are put in one after another
abbrev pub EntriesReadable : ℕ → List (List ℕ × Data) → Type 0
EntriesReadable n [] = Unit {0}
EntriesReadable n (entry ∷ entries) = (IsUtf8 entry.0 × IsReadable n entry.1) × EntriesReadable n entries

abbrev pub put_entry : Members → List ℕ × Data → Members
put_entry placed entry = put entry.0 entry.1 placed

pub sorted-fold : (entries : List (List ℕ × Data)) (ms : Members) → AreSorted ms → AreSorted (fold put_entry ms entries)
sorted-fold [] ms sorted = sorted
sorted-fold (entry ∷ entries) ms sorted = sorted-fold entries (put entry.0 entry.1 ms) (AreSorted-put entry.0 entry.1 ms sorted)

pub readable-fold : (n : ℕ) (entries : List (List ℕ × Data)) (ms : Members) → EntriesReadable n entries → AllReadable n ms → AllReadable n (fold put_entry ms entries)
readable-fold n [] ms each all = all
readable-fold n (entry ∷ entries) ms each all = readable-fold n entries (put entry.0 entry.1 ms) each.1 (AllReadable-put n entry.0 entry.1 ms each.0.0 each.0.1 all)

pub readable-entries : (n : ℕ) (entries : List (List ℕ × Data)) → EntriesReadable n entries → IsReadable (suc n) (object_of entries)
readable-entries n entries each = readable-object n (by_key entries) (sorted-fold entries no_members tt) (readable-fold n entries no_members each tt)
