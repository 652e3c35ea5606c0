-- The files of a program and those of its code.
use Rattle.std.proofs.Common.{◌≡◌, ℕ, Bool, true, false, not, cond, filter, map, List, [], ◌∷◌, Option, Some, None, get_or, slice_get, position, refl, sym, subst, ap, ◌∙◌}
use Rattle.std.specs.Char.Utf16.{has_unpaired_surrogate, utf16_lossy_chars}
use Rattle.std.specs.Prelude.{encode_utf8_all, option_and_then, if◌then◌else◌}
use Rattle.std.specs.Str.{bytes_eq}
use Rattle.std.proofs.lemmas.List.Quantifiers.{position-Some}
use Rattle.std.proofs.lemmas.Option.{slice_get-get_or}
use Rattle.std.proofs.lemmas.Slice.Eq.{bytes_eq-Decides}
use Rattle.path_globs.specs.Specifier.{resolve}
use Rattle.js_tree.specs.Plain.{MakeFile, no_stmt}
use Rattle.js_value.specs.Requiring.{required_from}
use Rattle.js_heap.proofs.Lists.{position-map}
use Rattle.js_code.specs.declared.node.Node.{Node}
use Rattle.js_code.specs.declared.code.FileCode.{FileCode}
use Rattle.js_code.specs.Program.{ProgramCode, IsCodeOf, IsFile, no_file, a_file, ReadsFile}
use Rattle.js_meaning.specs.Program.{Source, Sources, file_at}
use Rattle.js_machine.specs.declared.state.CachedFile.{CachedFile}
use Rattle.js_machine.specs.private.Config.{path_at}
use Rattle.js_machine.specs.private.State.{plain_cached}

-- a file of the code, and the file of the program that it is
pub record Filed (nodes : List Node) (made : FileCode) (source : Option Source) : Type 0 where
  pub of : Source
  pub there : source ≡ Some of
  pub reads : ReadsFile nodes made of

filed : (nodes : List Node) (made : FileCode) (file : Option FileCode) (source : Option Source) → IsFile nodes file source → file ≡ Some made → Filed nodes made source
filed nodes made _ _ no_file e = cc
filed nodes made _ _ (a_file x of reads) e =
    let same : x ≡ made = cc in
    record { of = of; there = refl; reads = subst (λ m. ReadsFile nodes m of) same reads }

pub file_there : (p : Sources) (code : ProgramCode) (file : ℕ) (made : FileCode) → IsCodeOf p code → slice_get code.files file ≡ Some made →
    Filed code.nodes made (slice_get p.files file)
file_there p code file made is e = filed code.nodes made (slice_get code.files file) (slice_get p.files file) (is.files file) e

missing : (nodes : List Node) (file : Option FileCode) (source : Option Source) → IsFile nodes file source → file ≡ None → source ≡ None
missing nodes _ _ no_file e = refl
missing nodes _ _ (a_file x of reads) e = cc

pub file_missing : (p : Sources) (code : ProgramCode) (file : ℕ) → IsCodeOf p code → slice_get code.files file ≡ None → slice_get p.files file ≡ None
file_missing p code file is e = missing code.nodes (slice_get code.files file) (slice_get p.files file) (is.files file) e

abbrev path_of : Option Source → List ℕ
path_of source = elim source [ None ↦ [] | Some s ↦ s.path ]

as_told : (source : Option Source) (p : Sources) (file : ℕ) → slice_get p.files file ≡ source → path_of source ≡ path_at p file
as_told source p file e = ap path_of (sym e)

-- the path of a file
pub path_there : (p : Sources) (code : ProgramCode) (file : ℕ) (made : FileCode) → IsCodeOf p code → slice_get code.files file ≡ Some made → made.path ≡ path_at p file
path_there p code file made is e =
    let f = file_there p code file made is e in
    f.reads.path ∙ as_told (Some f.of) p file f.there

pub path_missing : (p : Sources) (code : ProgramCode) (file : ℕ) → IsCodeOf p code → slice_get code.files file ≡ None → [] ≡ path_at p file
path_missing p code file is e = as_told None p file (file_missing p code file is e)

-- the number of a file by its path
pub file_told : (p : Sources) (path : List ℕ) (code : ProgramCode) → IsCodeOf p code → position (λ (f : FileCode). bytes_eq f.path path) code.files ≡ file_at p path
file_told p path code is =
    sym (position-map (λ x. bytes_eq x path) (λ (f : FileCode). f.path) code.files)
    ∙ ap (position (λ x. bytes_eq x path)) is.paths
    ∙ position-map (λ x. bytes_eq x path) (λ (s : Source). s.path) p.files

no_source : Source
no_source = record { path = []; tree = MakeFile no_stmt []; counted = false }

found : (sources : List Source) (path : List ℕ) (i : ℕ) → position (λ source. bytes_eq source.path path) sources ≡ Some i → path_of (slice_get sources i) ≡ path
found sources path i e =
    let w = position-Some (λ source. bytes_eq source.path path) sources i no_source e in
    ap path_of (slice_get-get_or sources i no_source w.0) ∙ (bytes_eq-Decides (get_or sources i no_source).path path).0 w.1

pub path_found : (p : Sources) (path : List ℕ) (file : ℕ) → file_at p path ≡ Some file → path ≡ path_at p file
path_found p path file e = sym (found p.files path file e) ∙ as_told (slice_get p.files file) p file refl

-- the files that stay in the cache
left_by : (b : Bool) (x : CachedFile) (xs : List CachedFile) → map plain_cached (cond b (x ∷ xs) xs) ≡ cond b (plain_cached x ∷ map plain_cached xs) (map plain_cached xs)
left_by true x xs = refl
left_by false x xs = refl

pub left : (path : List ℕ) (xs : List CachedFile) →
    map plain_cached (filter (λ (x : CachedFile). not (bytes_eq x.path path)) xs) ≡ filter (λ c. not (bytes_eq c.path path)) (map plain_cached xs)
left path [] = refl
left path (x ∷ xs) =
    left_by (not (bytes_eq x.path path)) x (filter (λ (y : CachedFile). not (bytes_eq y.path path)) xs)
    ∙ ap (λ ys. cond (not (bytes_eq x.path path)) (plain_cached x ∷ ys) ys) (left path xs)

-- the path that a text without lone surrogates names
pub required : (from units read spelled : List ℕ) (there : Option (List ℕ)) → read ≡ units → false ≡ has_unpaired_surrogate read → spelled ≡ encode_utf8_all (utf16_lossy_chars read) →
    Some from ≡ there → resolve from spelled ≡ option_and_then (λ path. required_from path units) there
required from units read spelled there same paired is at =
    ap (resolve from) (is ∙ ap (λ us. encode_utf8_all (utf16_lossy_chars us)) same)
    ∙ ap (λ b. if b then None else resolve from (encode_utf8_all (utf16_lossy_chars units))) (paired ∙ ap has_unpaired_surrogate same)
    ∙ ap (option_and_then (λ path. required_from path units)) at
