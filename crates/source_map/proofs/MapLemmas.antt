-- Maps that are read, and one after another, fit.
use Rattle.std.proofs.Common.{◌≡◌, ℕ, suc, ◌≤◌, Bool, true, false, cond, List, [], ◌∷◌, map, length, Option, Some, None, Result, Ok, Err, refl, sym, ap, subst}
use Rattle.std.specs.Option.{option_map, option_and_then}
use Rattle.std.specs.Prelude.{IfSome, nat_le}
use Rattle.std.specs.List.{AllByRecursion, filter, last_or}
use Rattle.source_map.specs.declared.place.Origin.{Origin}
use Rattle.source_map.specs.declared.place.Segment.{Segment}
use Rattle.source_map.specs.declared.place.Traced.{Traced}
use Rattle.source_map.specs.declared.place.Parts.{Parts}
use Rattle.source_map.specs.declared.fault.MapFault.{MapFault}
use Rattle.source_map.specs.declared.fault.MapFault.TheVariants as fault
use Rattle.serde_json.specs.Data.{Data}
use Rattle.source_map.specs.Mappings.{segments_of}
use Rattle.cov_object.specs.JsonText.{json_of}
use Rattle.source_map.specs.Read.{after, no_sections, version, sources, names, mappings, root, under, with_segments, map_of, or_no_json}
use Rattle.source_map.specs.Trace.{source, is_by, segment_by, traced_to, trace, trace_again, origin_at, followed}
use Rattle.source_map.specs.Laws.{FitsOrigin, FitsSegment, AreAfter, AreSegments, IsMap, IsFit, IsComposedFit}
use Rattle.source_map.proofs.FitLemmas.{segments_fit}

abbrev sure : {A : Type 0} → A → Result A MapFault
sure x = Ok x

unsure : {A G : Type 0} (why : MapFault) (x : A) → Err why ≡ sure x → G
unsure why x e = cc

record Step {A B : Type 0} (first : Result A MapFault) (next : A → Result B MapFault) (found : B) : Type 0 where
  middle : A
  begins : first ≡ Ok middle
  goes : next middle ≡ Ok found

step : {A B : Type 0} (first : Result A MapFault) (next : A → Result B MapFault) (found : B) → after first next ≡ Ok found → Step first next found
step (Err why) next found e = unsure why found e
step (Ok middle) next found e = record { middle = middle; begins = refl; goes = e }

length-under : (root : List ℕ) (texts : List (Option (List ℕ))) → length (under root texts) ≡ length texts
length-under root [] = refl
length-under root (text ∷ texts) = ap (λ n. suc n) (length-under root texts)

same-map : (a b : Parts) → sure a ≡ sure b → a ≡ b
same-map a b e = cc

ends-by : (found : List (Option (List ℕ))) (texts : List (List ℕ)) (prefix text : List ℕ) (r : Result (List Segment) ℕ) (m : Parts) → segments_of (length found) (length texts) text ≡ r →
    with_segments (under prefix found) texts r ≡ Ok m → IsMap m
ends-by found texts prefix text (Err at) m e is = unsure (fault.BadMappings at) m is
ends-by found texts prefix text (Ok segments) m e is =
    subst IsMap (same-map (record { sources = under prefix found; names = texts; segments = segments }) m is)
    (subst (λ n. AreSegments n (length texts) segments) (sym (length-under prefix found)) (segments_fit (length found) (length texts) text segments e))

value-fits : (value : Data) (m : Parts) → map_of value ≡ Ok m → IsMap m
value-fits value m is =
    let a = step (no_sections value) _ m is in
    let b = step (version value) _ m a.goes in
    let c = step (sources value) _ m b.goes in
    let d = step (names value) _ m c.goes in
    let e = step (mappings value) _ m d.goes in
    let f = step (root value) _ m e.goes in
    ends-by c.middle d.middle f.middle e.middle (segments_of (length c.middle) (length d.middle) e.middle) m refl f.goes

json-fits : (o : Option Data) (m : Parts) → or_no_json o ≡ Ok m → IsMap m
json-fits None m is = unsure fault.BadJson m is
json-fits (Some value) m is = value-fits value m is

bytes-fit : (b : Bool) (o : Option Data) (m : Parts) → cond b (or_no_json o) (Err fault.TooLong) ≡ Ok m → IsMap m
bytes-fit true o m is = json-fits o m is
bytes-fit false o m is = unsure fault.TooLong m is

pub is_fit : IsFit
is_fit most bytes m is = bytes-fit (nat_le (length bytes) most) (json_of bytes) m is

-- ---- one map after another

module _ (sources names : ℕ) where
  abbrev Fits : Segment → Type 0
  Fits segment = FitsSegment sources names segment

  all-after : (last : Segment) (segments : List Segment) → AreAfter sources names last segments → AllByRecursion Fits segments
  all-after last [] all = tt
  all-after last (segment ∷ segments) all = (all.1, all-after segment segments all.2)

  all-fit : (segments : List Segment) → AreSegments sources names segments → AllByRecursion Fits segments
  all-fit [] all = tt
  all-fit (segment ∷ segments) all = (all.0, all-after segment segments all.1)

  last-fits-by : (b : Bool) (o : Option Segment) (segment : Segment) (rest : List Segment) → ((p : Option Segment) → IfSome p Fits → IfSome (last_or p rest) Fits) → IfSome o Fits → Fits segment →
      IfSome (last_or o (cond b (segment ∷ rest) rest)) Fits
  last-fits-by true o segment rest later h own = later (Some segment) own
  last-fits-by false o segment rest later h own = later o h

  last-fits : (p : Segment → Bool) (segments : List Segment) (o : Option Segment) → AllByRecursion Fits segments → IfSome o Fits → IfSome (last_or o (filter p segments)) Fits
  last-fits p [] o all h = h
  last-fits p (segment ∷ segments) o all h = last-fits-by (p segment) o segment (filter p segments) (λ q k. last-fits p segments q all.1 k) h all.0

abbrev FitsTraced : ℕ → Traced → Type 0
FitsTraced sources place = FitsOrigin sources 0 (origin_at place)

text-fits : (inner : Parts) (origin : Origin) (o : Option (List ℕ)) → FitsOrigin (length inner.sources) (length inner.names) origin →
    IfSome (option_map (λ (text : List ℕ). record { source = origin.source; line = origin.line; column = origin.column }) o) (FitsTraced (length inner.sources))
text-fits inner origin None h = tt
text-fits inner origin (Some text) h = record { source = h.source; from_one = h.from_one; line = h.line; column = h.column; name = tt }

to-fits : (inner : Parts) (o : Option Origin) → IfSome o (FitsOrigin (length inner.sources) (length inner.names)) → IfSome (traced_to inner o) (FitsTraced (length inner.sources))
to-fits inner None h = tt
to-fits inner (Some origin) h = text-fits inner origin (source inner origin.source) h

found-fits : (inner : Parts) (o : Option Segment) → IfSome o (FitsSegment (length inner.sources) (length inner.names)) → IfSome (option_and_then (λ (s : Segment). traced_to inner s.origin) o) (FitsTraced (length inner.sources))
found-fits inner None h = tt
found-fits inner (Some segment) h = to-fits inner segment.origin h.origin

again-fits : (inner : Parts) (o : Option Traced) → IsMap inner → IfSome (trace_again inner o) (FitsTraced (length inner.sources))
again-fits inner None is = tt
again-fits inner (Some place) is =
    found-fits inner (segment_by place.line (Some place.column) inner.segments)
    (last-fits (length inner.sources) (length inner.names) (is_by place.line (Some place.column)) inner.segments None (all-fit (length inner.sources) (length inner.names) inner.segments is) tt)

origin-of : (sources : ℕ) (o : Option Traced) → IfSome o (FitsTraced sources) → IfSome (option_map origin_at o) (FitsOrigin sources 0)
origin-of sources None h = tt
origin-of sources (Some place) h = h

module _ (outer inner : Parts) (is : IsMap inner) where
  one-fits : (segment : Segment) → FitsSegment (length outer.sources) (length outer.names) segment → FitsSegment (length inner.sources) 0 (followed outer inner segment)
  one-fits segment h = record {
    from_one = h.from_one;
    column = h.column;
    origin = origin-of (length inner.sources) (trace_again inner (traced_to outer segment.origin)) (again-fits inner (traced_to outer segment.origin) is);
  }

  rest-fit : (last : Segment) (segments : List Segment) → AreAfter (length outer.sources) (length outer.names) last segments → AreAfter (length inner.sources) 0 (followed outer inner last) (map (followed outer inner) segments)
  rest-fit last [] all = tt
  rest-fit last (segment ∷ segments) all = (all.0, one-fits segment all.1, rest-fit segment segments all.2)

  these-fit : (segments : List Segment) → AreSegments (length outer.sources) (length outer.names) segments → AreSegments (length inner.sources) 0 (map (followed outer inner) segments)
  these-fit [] all = tt
  these-fit (segment ∷ segments) all = (one-fits segment all.0, rest-fit segment segments all.1)

pub is_composed_fit : IsComposedFit
is_composed_fit outer inner a b = these-fit outer inner b outer.segments a

pub traced_line : (inner : Parts) → IsMap inner → (line : ℕ) (column : Option ℕ) → IfSome (trace inner line column) (λ place. 1 ≤ place.line)
traced_line inner is line column =
    low (trace inner line column)
    (found-fits inner (segment_by line column inner.segments)
    (last-fits (length inner.sources) (length inner.names) (is_by line column) inner.segments None (all-fit (length inner.sources) (length inner.names) inner.segments is) tt))
  where
    low : (o : Option Traced) → IfSome o (FitsTraced (length inner.sources)) → IfSome o (λ place. 1 ≤ place.line)
    low None h = tt
    low (Some place) h = h.from_one
