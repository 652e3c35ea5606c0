-- One map after another.
use Rattle.std.proofs.Common.{◌≡◌, ℕ, Bool, true, false, cond, List, [], ◌∷◌, map, Option, Some, None, refl, sym, ap, ◌∙◌}
use Rattle.std.specs.Option.{option_map, option_and_then}
use Rattle.std.specs.List.{filter, last_or}
use Rattle.source_map.specs.declared.place.Origin.{Origin}
use Rattle.source_map.specs.declared.place.Segment.{Segment}
use Rattle.source_map.specs.declared.place.Traced.{Traced}
use Rattle.source_map.specs.declared.place.Parts.{Parts}
use Rattle.source_map.specs.Trace.{source, is_by, segment_by, traced_to, trace, trace_again, origin_at, followed, composed}
use Rattle.source_map.specs.Laws.{IsComposed}

same-by : (outer inner : Parts) (line : ℕ) (column : Option ℕ) (segment : Segment) → is_by line column (followed outer inner segment) ≡ is_by line column segment
same-by outer inner line None segment = refl
same-by outer inner line (Some column) segment = refl

filter-by : (b : Bool) (f : Segment → Segment) (segment : Segment) (rest : List Segment) (others : List Segment) → others ≡ map f rest → cond b (f segment ∷ others) others ≡ map f (cond b (segment ∷ rest) rest)
filter-by true f segment rest others e = ap (λ xs. f segment ∷ xs) e
filter-by false f segment rest others e = e

filter-followed : (outer inner : Parts) (line : ℕ) (column : Option ℕ) (segments : List Segment) →
    filter (is_by line column) (map (followed outer inner) segments) ≡ map (followed outer inner) (filter (is_by line column) segments)
filter-followed outer inner line column [] = refl
filter-followed outer inner line column (segment ∷ segments) =
    ap (λ b. cond b (followed outer inner segment ∷ filter (is_by line column) (map (followed outer inner) segments)) (filter (is_by line column) (map (followed outer inner) segments))) (same-by outer inner line column segment)
    ∙ filter-by (is_by line column segment) (followed outer inner) segment (filter (is_by line column) segments) _ (filter-followed outer inner line column segments)

last-followed : (f : Segment → Segment) (o : Option Segment) (segments : List Segment) → last_or (option_map f o) (map f segments) ≡ option_map f (last_or o segments)
last-followed f o [] = refl
last-followed f o (segment ∷ segments) = last-followed f (Some segment) segments

-- a traced place has a source, so it is traced to again
place-by : (inner : Parts) (source_number line column : ℕ) (o : Option (List ℕ)) (place : Traced) → source inner source_number ≡ o →
    option_map (λ (text : List ℕ). record { source = source_number; line = line; column = column }) o ≡ Some place →
    option_map (λ (text : List ℕ). record { source = place.source; line = place.line; column = place.column }) (source inner place.source) ≡ Some place
place-by inner number line column None place is e = nothing e
  where
    nothing : {G : Type 0} → None ≡ Some place → G
    nothing e = cc
place-by inner number line column (Some text) place is e =
    ap (λ (p : Traced). option_map (λ (text : List ℕ). record { source = p.source; line = p.line; column = p.column }) (source inner p.source)) (sym (same _ place e))
    ∙ ap (option_map (λ (text : List ℕ). record { source = number; line = line; column = column })) is
    ∙ e
  where
    same : (a b : Traced) → Some a ≡ Some b → a ≡ b
    same a b e = cc

to-by : (inner : Parts) (o : Option Origin) (place : Traced) → traced_to inner o ≡ Some place → traced_to inner (Some (origin_at place)) ≡ Some place
to-by inner None place e = nothing e
  where
    nothing : {G : Type 0} → None ≡ Some place → G
    nothing e = cc
to-by inner (Some origin) place e = place-by inner origin.source origin.line origin.column (source inner origin.source) place refl e

found-by : (inner : Parts) (o : Option Segment) (place : Traced) → option_and_then (λ (segment : Segment). traced_to inner segment.origin) o ≡ Some place → traced_to inner (Some (origin_at place)) ≡ Some place
found-by inner None place e = nothing e
  where
    nothing : {G : Type 0} → None ≡ Some place → G
    nothing e = cc
found-by inner (Some segment) place e = to-by inner segment.origin place e

again-by : (inner : Parts) (line column : ℕ) (r : Option Traced) → trace inner line (Some column) ≡ r → traced_to inner (option_map origin_at r) ≡ r
again-by inner line column None e = refl
again-by inner line column (Some place) e = found-by inner (segment_by line (Some column) inner.segments) place e

again : (inner : Parts) (o : Option Traced) → traced_to inner (option_map origin_at (trace_again inner o)) ≡ trace_again inner o
again inner None = refl
again inner (Some place) = again-by inner place.line place.column (trace inner place.line (Some place.column)) refl

compose-by : (outer inner : Parts) (o : Option Segment) →
    option_and_then (λ (segment : Segment). traced_to (composed outer inner) segment.origin) (option_map (followed outer inner) o) ≡ trace_again inner (option_and_then (λ (segment : Segment). traced_to outer segment.origin) o)
compose-by outer inner None = refl
compose-by outer inner (Some segment) = same (trace_again inner (traced_to outer segment.origin)) ∙ again inner (traced_to outer segment.origin)
  where
    same : (r : Option Traced) → traced_to (composed outer inner) (option_map origin_at r) ≡ traced_to inner (option_map origin_at r)
    same None = refl
    same (Some place) = refl

pub is_composed : IsComposed
is_composed outer inner line column =
    ap (λ xs. option_and_then (λ (segment : Segment). traced_to (composed outer inner) segment.origin) (last_or None xs)) (filter-followed outer inner line column outer.segments)
    ∙ ap (option_and_then (λ (segment : Segment). traced_to (composed outer inner) segment.origin)) (last-followed (followed outer inner) None (filter (is_by line column) outer.segments))
    ∙ compose-by outer inner (segment_by line column outer.segments)
