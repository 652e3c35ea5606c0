-- Each path that is asked for is asked for once, so sources that are loaded are each at a path of its own.
use Rattle.std.proofs.Common.{◌≡◌, ℕ, Bool, true, false, ◌||◌, List, [], ◌∷◌, ◌++◌, Option, Some, None, if◌then◌else◌, refl, sym, ap, ◌∙◌, subst, append_assoc, append-nil}
use Rattle.std.specs.Prelude.{Result, Ok}
use Rattle.std.specs.Str.{bytes_eq}
use Rattle.std.proofs.lemmas.Slice.Eq.{bytes_eq-Decides}
use Rattle.js_scopes.specs.Mentions.{mentions_file}
use Rattle.js_scopes.specs.Required.{required_of}
use Rattle.path_globs.specs.Specifier.{resolve}
use Rattle.cov_base.specs.Store.{Held}
use Rattle.cov_sources.specs.declared.source.Source.{Source}
use Rattle.cov_run.specs.Asked.{Asked, is_among, with_found, with_path, with_specifiers}
use Rattle.cov_run.specs.Loaded.{Loads, all, bad_map, failed, map_failed, map_too_long, no_file, one_more, passed_over, refused, source_of, too_long, too_many, wanting}
use Rattle.cov_run.specs.Laws.{LoadsApart}
use Rattle.cov_run.specs.Meant.{AreApart}
use Rattle.cov_sim.specs.Headline.{IsElsewhere}
use Rattle.cov_run.specs.declared.fault.LoadFault.{LoadFault}
use Rattle.cov_run.proofs.Endings.{Ends, ends_by, ends_test, resolve_ends}

-- ---- lists of paths

abbrev NotIn : List ℕ → List (List ℕ) → Type 0
NotIn path [] = Unit {0}
NotIn path (p ∷ ps) = (path ≡ p → ⊥) × NotIn path ps

-- no path twice, and each ends with `.js`
abbrev Distinct : List (List ℕ) → Type 0
Distinct [] = Unit {0}
Distinct (p ∷ ps) = Ends p × NotIn p ps × Distinct ps

or_false : (a b : Bool) → (a || b) ≡ false → (a ≡ false) × (b ≡ false)
or_false true b is = absurd cc
or_false false b is = (refl, is)

not_among : (path : List ℕ) (ps : List (List ℕ)) → is_among path ps ≡ false → NotIn path ps
not_among path [] is = tt
not_among path (p ∷ ps) is =
    let both = or_false (bytes_eq path p) (is_among path ps) is in
    (λ same. let equal = (bytes_eq-Decides path p).1 same in let z = sym equal ∙ both.0 in cc, not_among path ps both.1)

not_in_end : (path one : List ℕ) (ps : List (List ℕ)) → NotIn path ps → (path ≡ one → ⊥) → NotIn path (ps ++ one ∷ [])
not_in_end path one [] none differ = (differ, tt)
not_in_end path one (p ∷ ps) none differ = (none.0, not_in_end path one ps none.1 differ)

distinct_end : (ps : List (List ℕ)) (one : List ℕ) → Distinct ps → NotIn one ps → Ends one → Distinct (ps ++ one ∷ [])
distinct_end [] one ds none ends = (ends, tt, tt)
distinct_end (p ∷ ps) one ds none ends =
    (ds.0, not_in_end p one ps ds.1 (λ same. none.0 (sym same)), distinct_end ps one ds.2 none.1 ends)

-- ---- what was asked for

-- all that was asked for is what was read and what waits
record Fine (read : List (List ℕ)) (asked : Asked) : Type 0 where
  known : asked.known ≡ read ++ asked.waiting
  distinct : Distinct asked.known

fine_path : (read : List (List ℕ)) (asked : Asked) (path : List ℕ) → Fine read asked → Ends path → Fine read (with_path asked path)
fine_path read asked path f ends = by (is_among path asked.known) refl
  where
    by : (b : Bool) → is_among path asked.known ≡ b → Fine read (if b then asked else record { known = asked.known ++ path ∷ []; waiting = asked.waiting ++ path ∷ [] })
    by true is = f
    by false is = record {
      known = ap (λ ps. ps ++ path ∷ []) f.known ∙ append_assoc read asked.waiting (path ∷ []);
      distinct = distinct_end asked.known path f.distinct (not_among path asked.known is) ends;
    }

fine_found : (read : List (List ℕ)) (asked : Asked) (from specifier : List ℕ) → Fine read asked → Fine read (with_found asked (resolve from specifier))
fine_found read asked from specifier f = by (resolve from specifier) refl
  where
    by : (o : Option (List ℕ)) → resolve from specifier ≡ o → Fine read (with_found asked o)
    by None is = f
    by (Some path) is = fine_path read asked path f (resolve_ends from specifier path is)

fine_specifiers : (read : List (List ℕ)) (from : List ℕ) (asked : Asked) (specifiers : List (List ℕ)) → Fine read asked → Fine read (with_specifiers from asked specifiers)
fine_specifiers read from asked [] f = f
fine_specifiers read from asked (s ∷ ss) f = fine_specifiers read from (with_found asked (resolve from s)) ss (fine_found read asked from s f)

-- ---- what is loaded

-- the sources' paths, in the order in which they were read
data Among : List Source → List (List ℕ) → Type 0 where
  none : Among [] []
  loaded : {sources : List Source} {read : List (List ℕ)} {source : Source} → Among sources read → Among (source ∷ sources) (source.path ∷ read)
  passed : {sources : List Source} {read : List (List ℕ)} {path : List ℕ} → Among sources read → Among sources (path ∷ read)

among_more : {sources : List Source} {read : List (List ℕ)} (source : Source) → Among sources read → Among (sources ++ source ∷ []) (read ++ source.path ∷ [])
among_more source none = loaded none
among_more source (loaded more) = loaded (among_more source more)
among_more source (passed more) = passed (among_more source more)

among_passed : {sources : List Source} {read : List (List ℕ)} (path : List ℕ) → Among sources read → Among sources (read ++ path ∷ [])
among_passed path none = passed none
among_passed path (loaded more) = loaded (among_passed path more)
among_passed path (passed more) = passed (among_passed path more)

elsewhere : (path : List ℕ) {sources : List Source} {read : List (List ℕ)} → Among sources read → NotIn path read → IsElsewhere path sources
elsewhere path none out = tt
elsewhere path (loaded more) out = (out.0, elsewhere path more out.1)
elsewhere path (passed more) out = elsewhere path more out.1

are_apart : {sources : List Source} {read : List (List ℕ)} → Among sources read → Distinct read → AreApart sources
are_apart none ds = tt
are_apart (loaded {source = source} more) ds = (ends_test source.path ds.0, elsewhere source.path more ds.1, are_apart more ds.2)
are_apart (passed more) ds = are_apart more ds.2

-- one that waited is read
moved : (read : List (List ℕ)) (known waiting : List (List ℕ)) (path : List ℕ) → Fine read (record { known = known; waiting = path ∷ waiting }) →
    Fine (read ++ path ∷ []) (record { known = known; waiting = waiting })
moved read known waiting path f = record { known = f.known ∙ sym (append_assoc read (path ∷ []) waiting); distinct = f.distinct }

module _ (told : Option Held) (exclude : List (List ℕ)) where
  loads_apart : {sources : List Source} {asked : Asked} {read : List (List ℕ)} (outcome : Result (List Source) LoadFault) (last : List Source) → outcome ≡ Ok last →
      Loads told exclude sources asked outcome → Among sources read → Fine read asked → AreApart last
  loads_apart {read = read} outcome last is (all {sources = sources} {known = known}) among f =
      let same : sources ≡ last = cc in
      let whole : known ≡ read = f.known ∙ append-nil read in
      subst AreApart same (are_apart among (subst Distinct whole f.distinct))
  loads_apart {read = read} outcome last is (one_more {known = known} {waiting = waiting} {path = path} {bytes = bytes} {tree = tree} {input = input} good has room rest) among f =
      loads_apart outcome last is rest (among_more (source_of exclude path bytes input) among)
      (fine_specifiers (read ++ path ∷ []) path (record { known = known; waiting = waiting }) (required_of (mentions_file tree)) (moved read known waiting path f))
  loads_apart {read = read} outcome last is (passed_over {known = known} {waiting = waiting} {path = path} none_there rest) among f =
      loads_apart outcome last is rest (among_passed path among) (moved read known waiting path f)
  loads_apart outcome last is (no_file nothing) among f = absurd cc
  loads_apart outcome last is (too_long long) among f = absurd cc
  loads_apart outcome last is (refused bad) among f = absurd cc
  loads_apart outcome last is (map_too_long good faulty) among f = absurd cc
  loads_apart outcome last is (bad_map good faulty other) among f = absurd cc
  loads_apart outcome last is (map_failed good) among f = absurd cc
  loads_apart outcome last is (too_many good has full) among f = absurd cc
  loads_apart outcome last is failed among f = absurd cc
  loads_apart outcome last is wanting among f = absurd cc

pub loaded_apart : LoadsApart
loaded_apart told entry exclude sources ends loads =
    loads_apart told exclude (Ok sources) sources refl loads none (record { known = refl; distinct = (ends_by entry ends, tt, tt) })
