-- The files of a map, one after another, and how deep their values nest.
use Rattle.std.specs.Prelude.{nat_le}
use Rattle.std.proofs.Common.{◌≡◌, length, ℕ, ◌+◌, ◌≤◌, List, codes, Bool, Option, Some, None, Result, Ok, Err, bytes_eq, cond, true, false, refl, sym, ap, ◌∙◌, subst, arith}
use Rattle.std.specs.Ordering.{nat_cmp, match_ordering}
use Rattle.std.specs.declared.cmp.Ordering.{Ordering}
use Rattle.std.specs.declared.cmp.Ordering.TheVariants.{Less, Equal, Greater}
use Rattle.std.specs.Cmp.Lexicographic.{slice_cmp}
use Rattle.std.specs.Str.{IsUtf8, is_utf8}
use Rattle.std.proofs.lemmas.Str.{IsUtf8-from_is_utf8, is_utf8-from_IsUtf8}
use Rattle.serde_json.specs.Read.{read}
use Rattle.serde_json.specs.Data.{Data, null, boolean, number, string, array, object, Members, no_members, member, depth, members_depth}
use Rattle.serde_json.specs.Find.{get, get_member}
use Rattle.cov_object.specs.declared.file.FileCoverage.{FileCoverage}
use Rattle.cov_object.specs.declared.fault.CoverageFault.{CoverageFault}
use Rattle.cov_object.specs.declared.fault.CoverageFault.TheVariants.{TooLong}
use Rattle.cov_object.specs.JsonText.{json_of}
use Rattle.cov_object.specs.Read.{after, path_or_fault, path_of, numbered_of, origin_of, text_in, file_of, value_or_fault, most_bytes, coverage_of}

-- ---- depths

depth-found : (o : Ordering) (ms : Members) (d e : Data) (n : ℕ) (later : Option Data) → match_ordering o later (Some e) later ≡ Some d → depth e ≤ n → (later ≡ Some d → depth d ≤ n) → depth d ≤ n
depth-found Less ms d e n later is here there = there is
depth-found Equal ms d e n later is here there = let same : e ≡ d = cc in subst (λ x. depth x ≤ n) same here
depth-found Greater ms d e n later is here there = there is

get_member-depth : (k : List ℕ) (ms : Members) (d : Data) (n : ℕ) → get_member k ms ≡ Some d → members_depth ms ≤ n → depth d ≤ n
get_member-depth k no_members d n e deep = absurd (cc)
get_member-depth k (member l first ms) d n e deep =
    depth-found (slice_cmp nat_cmp k l) ms d first n (get_member k ms) e (omega arith) (λ is. get_member-depth k ms d n is (omega arith))

-- a member nests less deep than its object
pub get-depth : (k : List ℕ) (value d : Data) (n : ℕ) → get k value ≡ Some d → depth value ≤ n + 1 → depth d ≤ n
get-depth k null d n e deep = absurd (cc)
get-depth k (boolean b) d n e deep = absurd (cc)
get-depth k (number x) d n e deep = absurd (cc)
get-depth k (string s) d n e deep = absurd (cc)
get-depth k (array ds) d n e deep = absurd (cc)
get-depth k (object ms) d n e deep = get_member-depth k ms d n e (omega arith)

-- ---- the path of a file

after-ok : {A B : Type 0} (first : Result A CoverageFault) (next : A → Result B CoverageFault) (b : B) → after first next ≡ Ok b → (a : A) × (first ≡ Ok a) × (next a ≡ Ok b)
after-ok (Ok a) next b e = (a, refl, e)
after-ok (Err fault) next b e = absurd (cc)

same_key : (b : Bool) (key path : List ℕ) (fault : CoverageFault) → cond b (Ok key) (Err fault) ≡ Ok path → path ≡ key
same_key true key path fault e = cc
same_key false key path fault e = absurd (cc)

path_or_fault-key : (key : List ℕ) (text : Option (List ℕ)) (path : List ℕ) → path_or_fault key text ≡ Ok path → path ≡ key
path_or_fault-key key None path e = absurd (cc)
path_or_fault-key key (Some text) path e = same_key (bytes_eq text key) key path _ e

pub file_of-path : (key : List ℕ) (value : Data) (file : FileCoverage) → file_of key value ≡ Ok file → file.path ≡ key
file_of-path key value file e =
    let path = after-ok (path_of key value) _ file e in
    let numbered = after-ok (numbered_of path.0 value) _ file path.2 in
    let origin = after-ok (origin_of path.0 value) _ file numbered.2 in
    let same : path.0 ≡ file.path = cc in
    sym same ∙ path_or_fault-key key (text_in (codes "path") value) path.0 path.1

-- ---- the value of bytes

pub json_of-text : (bytes : List ℕ) → IsUtf8 bytes → read bytes ≡ json_of bytes
json_of-text bytes text = rw (is_utf8-from_IsUtf8 bytes text) refl

none-if : (b : Bool) (value : Option Data) → (b ≡ true → value ≡ None) → None ≡ cond b value None
none-if true value none = sym (none refl)
none-if false value none = refl

pub json_of-none : (bytes : List ℕ) → (IsUtf8 bytes → read bytes ≡ None) → None ≡ json_of bytes
json_of-none bytes none = none-if (is_utf8 bytes) (read bytes) (λ is. none (IsUtf8-from_is_utf8 bytes is))

-- ---- a text of no more than the greatest length

pub coverage_of-short : (bytes : List ℕ) (value : Option Data) → nat_le (length bytes) most_bytes ≡ true → json_of bytes ≡ value → coverage_of bytes ≡ value_or_fault value
coverage_of-short bytes value short is = ap (λ b. cond b (value_or_fault (json_of bytes)) (Err TooLong)) short ∙ ap value_or_fault is
