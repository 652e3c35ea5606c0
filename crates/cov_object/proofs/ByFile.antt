-- The answers of a map's members, and the files that stand among them.
use Rattle.std.proofs.Common.{◌≡◌, ℕ, ◌+◌, List, [], ◌∷◌, ◌++◌, length, map, false, arith, option_map, option_and_then, Option, Some, None, Result, Ok, Err, IfOk, String, string_bytes, string_cmp, refl, sym, ap, ◌∙◌, subst, append_assoc}
use Rattle.std.specs.Ordering.{nat_cmp, match_ordering, ordering_reverse}
use Rattle.std.specs.declared.cmp.Ordering.{Ordering}
use Rattle.std.specs.declared.cmp.Ordering.TheVariants.{Less, Equal, Greater}
use Rattle.std.specs.Cmp.Lexicographic.{slice_cmp}
use Rattle.std.specs.BTreeMap.{insert_entry}
use Rattle.std.specs.List.{AllByRecursion}
use Rattle.std.specs.List.Sorted.{IsStrictlySortedBy}
use Rattle.std.specs.Map.{keys_of}
use Rattle.std.specs.declared.alloc.Global.{Global}
use Rattle.std.proofs.lemmas.Cmp.{nat_list_cmp_total}
use Rattle.std.proofs.lemmas.List.{map-append}
use Rattle.std.proofs.lemmas.Map.Lookups.{exact_bytes}
use Rattle.json.specs.Token.{Token}
use Rattle.json.specs.Lex.{tokens}
use Rattle.json.specs.Json as json
use Rattle.json.specs.Json.{parse_map, value}
use Rattle.json.proofs.Grammar.{value_is}
use Rattle.serde_json.specs.Data.{Num, Data, null, boolean, number, string, array, object, Items, Members, no_members, member, put}
use Rattle.serde_json.specs.Find.{as_object}
use Rattle.serde_json.specs.Read.{number_of, of_json, converted, max_depth, read}
use Rattle.cov_object.specs.declared.file.FileCoverage.{FileCoverage}
use Rattle.cov_object.specs.declared.fault.CoverageFault.{CoverageFault}
use Rattle.cov_object.specs.Files.{placed}
use Rattle.cov_object.specs.Read.{after, file_of, files_of, files_or_fault, value_or_fault}
use Rattle.cov_object.specs.private.ByFile.{begins_object, Answer, answers, answered, all_or_first, AreUnderTheirKeys}
use Rattle.cov_object.specs.SourceMapText.{most_depth}
use Rattle.cov_object.proofs.JsonValue.{data_members, opens_array, opens_object, null-read, boolean-read, string-read, number-read, nothing-read}
use Rattle.cov_object.proofs.ReadFiles.{file_of-path}

abbrev pub Entry : Type 0
Entry = String Global × Result FileCoverage CoverageFault

-- ---- the answers of members

own : (key : List ℕ) (value : Data) (answer : Result FileCoverage CoverageFault) → file_of key value ≡ answer → IfOk answer (λ file. file.path ≡ key)
own key value (Ok file) e = file_of-path key value file e
own key value (Err fault) e = tt

-- each file stands under its path
pub own-keys : (ms : Members) → AreUnderTheirKeys (answers ms)
own-keys no_members = tt
own-keys (member key value rest) = (own key value (file_of key value) refl, own-keys rest)

-- the first fault among them, or all files
pub all_or_first-answers : (ms : Members) → all_or_first (answers ms) ≡ files_of ms
all_or_first-answers no_members = refl
all_or_first-answers (member key value rest) = ap (λ more. after (file_of key value) (λ file. after more (λ files. Ok (file ∷ files)))) (all_or_first-answers rest)

told_by : (o : Option Members) (found : List Answer) → Some found ≡ option_map answers o → (files_or_fault o ≡ all_or_first found) × AreUnderTheirKeys found
told_by None found e = absurd (cc)
told_by (Some ms) found e =
    let same : answers ms ≡ found = cc in
    (sym (all_or_first-answers ms) ∙ ap all_or_first same, subst AreUnderTheirKeys same (own-keys ms))

-- the members of an object tell its files
pub told : (value : Option Data) (found : List Answer) → Some found ≡ option_map answers (option_and_then as_object value) → (value_or_fault value ≡ all_or_first found) × AreUnderTheirKeys found
told None found e = absurd (cc)
told (Some d) found e = told_by (as_object d) found e

-- ---- a member put in

answered-match : (o : Ordering) (xs ys zs : List Entry) → answered (match_ordering o xs ys zs) ≡ match_ordering o (answered xs) (answered ys) (answered zs)
answered-match Less xs ys zs = refl
answered-match Equal xs ys zs = refl
answered-match Greater xs ys zs = refl

answered-insert : (es : List Entry) (key : String Global) (answer : Result FileCoverage CoverageFault) →
    answered (insert_entry string_cmp es key answer) ≡ insert_entry (slice_cmp nat_cmp) (answered es) (string_bytes key) answer
answered-insert [] key answer = refl
answered-insert (e ∷ es) key answer =
    answered-match (string_cmp key e.0) ((key, answer) ∷ e ∷ es) ((e.0, answer) ∷ es) (e ∷ insert_entry string_cmp es key answer)
    ∙ ap (λ rest. match_ordering (string_cmp key e.0) ((string_bytes key, answer) ∷ answered (e ∷ es)) ((string_bytes e.0, answer) ∷ answered es) ((string_bytes e.0, e.1) ∷ rest))
    (answered-insert es key answer)

put-match : (o : Ordering) (k l : List ℕ) (d e : Data) (ms : Members) (rest : List Answer) → slice_cmp nat_cmp k l ≡ o → rest ≡ answers (put k d ms) →
    match_ordering o ((k, file_of k d) ∷ (l, file_of l e) ∷ answers ms) ((l, file_of k d) ∷ answers ms) ((l, file_of l e) ∷ rest)
    ≡ answers (match_ordering o (member k d (member l e ms)) (member l d ms) (member l e (put k d ms)))
put-match Less k l d e ms rest is later = refl
put-match Equal k l d e ms rest is later = ap (λ key. (l, file_of key d) ∷ answers ms) (exact_bytes k l is)
put-match Greater k l d e ms rest is later = ap (λ more. (l, file_of l e) ∷ more) later

answers-put : (k : List ℕ) (d : Data) (ms : Members) → insert_entry (slice_cmp nat_cmp) (answers ms) k (file_of k d) ≡ answers (put k d ms)
answers-put k d no_members = refl
answers-put k d (member l e ms) = put-match (slice_cmp nat_cmp k l) k l d e ms (insert_entry (slice_cmp nat_cmp) (answers ms) k (file_of k d)) refl (answers-put k d ms)

-- the answer of a member, put in at its key
pub answered-put : (es : List Entry) (key : String Global) (answer : Result FileCoverage CoverageFault) (value : Data) (ms : Members) →
    answers ms ≡ answered es → answer ≡ file_of (string_bytes key) value → answers (put (string_bytes key) value ms) ≡ answered (insert_entry string_cmp es key answer)
answered-put es key answer value ms same is =
    sym (answers-put (string_bytes key) value ms)
    ∙ ap (λ found. insert_entry (slice_cmp nat_cmp) found (string_bytes key) (file_of (string_bytes key) value)) same
    ∙ ap (insert_entry (slice_cmp nat_cmp) (answered es) (string_bytes key)) (sym is)
    ∙ sym (answered-insert es key answer)

-- ---- the files among the answers

abbrev pub paths : List FileCoverage → List (List ℕ)
paths files = map (λ file. file.path) files

abbrev pub keys_bytes : List Entry → List (List ℕ)
keys_bytes entries = map (λ entry. string_bytes entry.0) entries

below_middle : (first : Entry) (es : List Entry) (e : Entry) (more : List Entry) → AllByRecursion (λ y. string_cmp first.0 y ≡ Less) (keys_of (es ++ e ∷ more)) → string_cmp first.0 e.0 ≡ Less
below_middle first [] e more h = h.0
below_middle first (x ∷ es) e more h = below_middle first es e more h.1

-- a file whose path comes after those before it goes last
pub placed-last : (files : List FileCoverage) (file : FileCoverage) (done : List Entry) (e : Entry) (more : List Entry) →
    IsStrictlySortedBy string_cmp (keys_of (done ++ e ∷ more)) → paths files ≡ keys_bytes done → file.path ≡ string_bytes e.0 → placed file files ≡ files ++ file ∷ []
unfolding IsStrictlySortedBy
placed-last [] file done e more ordered same own = refl
placed-last (first ∷ files) file [] e more ordered same own = absurd (cc)
placed-last (first ∷ files) file (entry ∷ done) e more ordered same own =
    let head : first.path ≡ string_bytes entry.0 = cc in
    let rest : paths files ≡ keys_bytes done = cc in
    let above : slice_cmp nat_cmp file.path first.path ≡ Greater =
    ap (λ p. slice_cmp nat_cmp p first.path) own
    ∙ ap (λ p. slice_cmp nat_cmp (string_bytes e.0) p) head
    ∙ nat_list_cmp_total.antisymm (string_bytes e.0) (string_bytes entry.0)
    ∙ ap ordering_reverse (below_middle entry done e more ordered.0) in
    ap (λ o. match_ordering o (file ∷ first ∷ files) (file ∷ files) (first ∷ placed file files)) above
    ∙ ap (λ fs. first ∷ fs) (placed-last files file done e more ordered.1 rest own)

-- these files before those of a result
abbrev pub with_before : List FileCoverage → Result (List FileCoverage) CoverageFault → Result (List FileCoverage) CoverageFault
with_before files rest = after rest (λ more. Ok (files ++ more))

with_before-more : (files : List FileCoverage) (file : FileCoverage) (rest : Result (List FileCoverage) CoverageFault) →
    with_before (files ++ file ∷ []) rest ≡ with_before files (after rest (λ more. Ok (file ∷ more)))
with_before-more files file (Ok more) = ap (λ fs. Ok fs) (append_assoc files (file ∷ []) more)
with_before-more files file (Err fault) = refl

-- one answer more is a file
pub all_or_first-more : (files : List FileCoverage) (file : FileCoverage) (key : List ℕ) (answer : Result FileCoverage CoverageFault) (rest : List Answer) → answer ≡ Ok file →
    with_before (files ++ file ∷ []) (all_or_first rest) ≡ with_before files (all_or_first ((key, answer) ∷ rest))
all_or_first-more files file key answer rest e =
    with_before-more files file (all_or_first rest) ∙ sym (ap (λ r. with_before files (after r (λ f. after (all_or_first rest) (λ fs. Ok (f ∷ fs))))) e)

-- an answer that is none is the first fault
pub all_or_first-stop : (files : List FileCoverage) (fault : CoverageFault) (key : List ℕ) (answer : Result FileCoverage CoverageFault) (rest : List Answer) → answer ≡ Err fault →
    with_before files (all_or_first ((key, answer) ∷ rest)) ≡ Err fault
all_or_first-stop files fault key answer rest e = ap (λ r. with_before files (after r (λ f. after (all_or_first rest) (λ fs. Ok (f ∷ fs))))) e

pub paths-more : (files : List FileCoverage) (file : FileCoverage) (done : List Entry) (e : Entry) → paths files ≡ keys_bytes done → file.path ≡ string_bytes e.0 →
    paths (files ++ file ∷ []) ≡ keys_bytes (done ++ e ∷ [])
paths-more files file done e same own = simp map-append cc

pub key-own : (answer : Result FileCoverage CoverageFault) (file : FileCoverage) (key : List ℕ) → answer ≡ Ok file → IfOk answer (λ f. f.path ≡ key) → file.path ≡ key
key-own answer file key e h = subst (λ r. IfOk r (λ f. f.path ≡ key)) e h

-- ---- what was read, under a function

abbrev or_else : {A : Type 0} → A → Option A → A
or_else other None = other
or_else other (Some a) = a

pub parse_map-some : {A B : Type 0} (f : A → B) (o : Option (A × List Token)) (b : B) (left : List Token) → parse_map f o ≡ Some (b, left) → (a : A) × (o ≡ Some (a, left)) × (f a ≡ b)
parse_map-some f None b left e = absurd (cc)
parse_map-some f (Some read) b left e =
    let same : (f read.0, read.1) ≡ (b, left) = ap (or_else (b, left)) e in
    (read.0, ap (λ pair. Some (read.0, pair.1)) same, ap (λ pair. pair.0) same)

-- ---- the whole text

-- a value that nothing follows
abbrev pub ended : Option (Data × List Token) → Option Data
ended None = None
ended (Some (d, [])) = Some d
ended (Some (d, t ∷ ts)) = None

last : (d : Option Data) → d ≡ ended (option_map (λ x. (x, [])) d)
last None = refl
last (Some d) = refl

not_last : (d : Option Data) (t : Token) (ts : List Token) → None ≡ ended (option_map (λ x. (x, t ∷ ts)) d)
not_last None t ts = refl
not_last (Some d) t ts = refl

whole : (o : Option (json.Json × List Token)) → option_and_then of_json (option_and_then (λ p. json.if_last p.0 p.1) o) ≡ ended (converted of_json o)
whole None = refl
whole (Some (j, [])) = last (of_json j)
whole (Some (j, t ∷ ts)) = not_last (of_json j) t ts

-- after a brace the members are read
pub read-object : (text : List ℕ) (rest : List Token) → tokens text ≡ Token.begin_object ∷ rest →
    read text ≡ ended (parse_map object (data_members (value (most_depth + 1)) (length rest) no_members rest))
read-object text rest first = whole (value max_depth (tokens text)) ∙ ap ended (opens_object max_depth (tokens text) rest (omega arith) first)

-- all of them, where nothing follows the closing brace
pub whole-answers : (o : Option (Members × List Token)) (found : List Answer) → parse_map answers o ≡ Some (found, []) → option_map answers (option_and_then as_object (ended (parse_map object o))) ≡ Some found
whole-answers o found e =
    let read = parse_map-some answers o found [] e in
    ap (λ r. option_map answers (option_and_then as_object (ended (parse_map object r)))) read.1 ∙ ap (λ a. Some a) read.2

pub more-follows : (o : Option (Members × List Token)) (found : List Answer) (t : Token) (ts : List Token) → parse_map answers o ≡ Some (found, t ∷ ts) → ended (parse_map object o) ≡ None
more-follows o found t ts e = let read = parse_map-some answers o found (t ∷ ts) e in ap (λ r. ended (parse_map object r)) read.1

abbrev object_in : Option (Data × List Token) → Option Members
object_in o = option_and_then as_object (ended o)

plain : (d : Data) (ts : List Token) → as_object d ≡ None → object_in (Some (d, ts)) ≡ None
plain d [] e = e
plain d (t ∷ ts) e = refl

no_number : (n : Option Num) (ts : List Token) → object_in (option_map (λ x. (number x, ts)) n) ≡ None
no_number None ts = refl
no_number (Some n) ts = plain (number n) ts refl

no_array : (o : Option (Items × List Token)) → object_in (parse_map array o) ≡ None
no_array None = refl
no_array (Some read) = plain (array read.0) read.1 refl

nothing : (t : Token) (ts : List Token) → value max_depth (t ∷ ts) ≡ None → object_in (converted of_json (value max_depth (t ∷ ts))) ≡ None
nothing t ts e = ap (λ o. object_in (converted of_json o)) e

unbraced : (ts : List Token) → begins_object ts ≡ false → object_in (converted of_json (value max_depth ts)) ≡ None
unbraced [] e = ap object_in (nothing-read max_depth)
unbraced (Token.begin_object ∷ ts) e = absurd (cc)
unbraced (Token.end_object ∷ ts) e = nothing Token.end_object ts (value_is max_depth _)
unbraced (Token.begin_array ∷ ts) e = ap object_in (opens_array max_depth _ ts (omega arith) refl) ∙ no_array _
unbraced (Token.end_array ∷ ts) e = nothing Token.end_array ts (value_is max_depth _)
unbraced (Token.key s ∷ ts) e = nothing (Token.key s) ts (value_is max_depth _)
unbraced (Token.string s ∷ ts) e = ap object_in (string-read max_depth _ ts s refl) ∙ plain (string s) ts refl
unbraced (Token.number s ∷ ts) e = ap object_in (number-read max_depth _ ts s refl) ∙ no_number (number_of s) ts
unbraced (Token.boolean b ∷ ts) e = ap object_in (boolean-read max_depth _ ts b refl) ∙ plain (boolean b) ts refl
unbraced (Token.null ∷ ts) e = ap object_in (null-read max_depth _ ts refl) ∙ plain null ts refl
unbraced (Token.bad ∷ ts) e = nothing Token.bad ts (value_is max_depth _)

-- a text that begins with no brace is no object
pub no_brace : (text : List ℕ) → begins_object (tokens text) ≡ false → option_and_then as_object (read text) ≡ None
no_brace text e = ap (option_and_then as_object) (whole (value max_depth (tokens text))) ∙ unbraced (tokens text) e
