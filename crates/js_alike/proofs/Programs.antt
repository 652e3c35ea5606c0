-- Programs of alike trees have one run.
use Rattle.std.proofs.Common.{◌≡◌, ℕ, suc, false, List, [], ◌∷◌, map, Option, Some, None, refl, sym, ap, ◌∙◌}
use Rattle.std.specs.Prelude.{option_map, not, ◌+◌, length, nat_lt, if◌then◌else◌}
use Rattle.std.specs.List.{position_or_len}
use Rattle.std.specs.Str.{bytes_eq}
use Rattle.js_tree.specs.Plain.{File}
use Rattle.js_tree.specs.Same.{bare_file}
use Rattle.js_tree.specs.Linked.{Unmarked, Linked, link_file}
use Rattle.js_meaning.specs.Effects.{exec}
use Rattle.js_meaning.specs.Program.{Source, Sources, from, link_sources, linked, uncounted_source, uncounted, file_at}
use Rattle.js_meaning.specs.Files.{inside, start_file}
use Rattle.js_meaning.specs.Prelude.{opening}
use Rattle.js_meaning.specs.World.{run, meaning, plainly}
use Rattle.js_alike.specs.Alike.{EachAlike, AreAlike, bare_source, bare}
use Rattle.js_alike.specs.Laws.{RunsAsBare, LinksAsBare, MeansAlike, RunsPlainlyAlike}
use Rattle.js_alike.proofs.Scopes.{opening_same}
use Rattle.js_alike.proofs.Steps.{runs_alike}
use Rattle.js_alike.proofs.Forms.{alike_inside, alike_file}
use Rattle.js_alike.proofs.Links.{file_same}

pub runs_as_bare : RunsAsBare
runs_as_bare p file n =
    runs_alike (inside p) (inside (bare p)) (alike_inside p) n (start_file p file) (start_file (bare p) file) (alike_file p file) (opening p)
    ∙ ap (λ s. exec (inside (bare p)) n (start_file (bare p) file) s) (sym (opening_same p))

pub links_as_bare : LinksAsBare
links_as_bare = file_same

-- ---- linked programs

sources_linked : (sources : List Source) (file code : ℕ) →
    map bare_source (link_sources (map uncounted_source sources) file code) ≡ link_sources (map bare_source (map uncounted_source sources)) file code
sources_linked [] file code = refl
sources_linked (source ∷ sources) file code =
    let h = file_same source.tree (from code) in
    ap (λ rest. record { path = source.path; tree = bare_file (link_file Unmarked source.tree (from code)).tree; counted = false } ∷ rest)
    (sources_linked sources (suc file) (link_file Unmarked source.tree (from code)).next.code)
    ∙ ap (λ (l : Linked File). record { path = source.path; tree = l.tree; counted = false } ∷ link_sources (map bare_source (map uncounted_source sources)) (suc file) l.next.code) h

program_linked : (p : Sources) → bare (linked (uncounted p)) ≡ linked (bare (uncounted p))
program_linked p =
    ap (λ (files : List Source). record { files = files; prelude = bare_file (link_file Unmarked p.prelude (from 0)).tree })
    (sources_linked p.files 0 (link_file Unmarked p.prelude (from 0)).next.code)
    ∙ ap (λ (l : Linked File). record { files = link_sources (map bare_source (map uncounted_source p.files)) 0 l.next.code; prelude = l.tree }) (file_same p.prelude (from 0))

-- ---- alike programs

each_bare : (xs ys : List Source) → EachAlike xs ys → map bare_source (map uncounted_source xs) ≡ map bare_source (map uncounted_source ys)
each_bare [] [] h = refl
each_bare (x ∷ xs) (y ∷ ys) h =
    ap (λ path. record { path = path; tree = bare_file x.tree; counted = false } ∷ map bare_source (map uncounted_source xs)) h.0.path
    ∙ ap (λ tree. record { path = y.path; tree = tree; counted = false } ∷ map bare_source (map uncounted_source xs)) h.0.tree
    ∙ ap (λ rest. record { path = y.path; tree = bare_file y.tree; counted = false } ∷ rest) (each_bare xs ys h.1)
each_bare [] (y ∷ ys) h = absurd h
each_bare (x ∷ xs) [] h = absurd h

program_bare : (p q : Sources) → AreAlike p q → bare (uncounted p) ≡ bare (uncounted q)
program_bare p q h =
    ap (λ (files : List Source). record { files = files; prelude = bare_file p.prelude }) (each_bare p.files q.files h.files)
    ∙ ap (λ (tree : File). record { files = map bare_source (map uncounted_source q.files); prelude = tree }) h.prelude

to_bare : (p : Sources) (file n : ℕ) → meaning (uncounted p) file n ≡ run (linked (bare (uncounted p))) file n
to_bare p file n = runs_as_bare (linked (uncounted p)) file n ∙ ap (λ q. run q file n) (program_linked p)

pub means_alike : MeansAlike
means_alike p q h file n = to_bare p file n ∙ ap (λ r. run (linked r) file n) (program_bare p q h) ∙ sym (to_bare q file n)

-- ---- by paths

place_same : (path : List ℕ) (xs ys : List Source) → EachAlike xs ys →
    position_or_len (λ source. bytes_eq source.path path) xs ≡ position_or_len (λ source. bytes_eq source.path path) ys
place_same path [] [] h = refl
place_same path (x ∷ xs) (y ∷ ys) h =
    ap (λ w. if not (bytes_eq w path) then 1 + position_or_len (λ (source : Source). bytes_eq source.path path) xs else 0) h.0.path
    ∙ ap (λ n. if not (bytes_eq y.path path) then 1 + n else 0) (place_same path xs ys h.1)
place_same path [] (y ∷ ys) h = absurd h
place_same path (x ∷ xs) [] h = absurd h

length_same : (xs ys : List Source) → EachAlike xs ys → length xs ≡ length ys
length_same [] [] h = refl
length_same (x ∷ xs) (y ∷ ys) h = ap (λ n. suc n) (length_same xs ys h.1)
length_same [] (y ∷ ys) h = absurd h
length_same (x ∷ xs) [] h = absurd h

file_found : (p q : Sources) → AreAlike p q → (path : List ℕ) → file_at p path ≡ file_at q path
file_found p q h path =
    ap (λ n. if nat_lt n (length p.files) then Some n else None) (place_same path p.files q.files h.files)
    ∙ ap (λ l. if nat_lt (position_or_len (λ (source : Source). bytes_eq source.path path) q.files) l
    then Some (position_or_len (λ (source : Source). bytes_eq source.path path) q.files) else None) (length_same p.files q.files h.files)

plainly_each : (p q : Sources) → AreAlike p q → (n : ℕ) (o : Option ℕ) →
    option_map (λ file. plainly (meaning (uncounted p) file n)) o ≡ option_map (λ file. plainly (meaning (uncounted q) file n)) o
plainly_each p q h n None = refl
plainly_each p q h n (Some file) = ap (λ r. Some (plainly r)) (means_alike p q h file n)

pub runs_plainly_alike : RunsPlainlyAlike
runs_plainly_alike p q h path n =
    ap (λ o. option_map (λ file. plainly (meaning (uncounted p) file n)) o) (file_found p q h path) ∙ plainly_each p q h n (file_at q path)
