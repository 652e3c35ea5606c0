-- Mappings and maps, and what they come to.
use Rattle.std.specs.Prelude.{◌≡◌, ℕ, ◌+◌, ◌-◌, ◌^◌, List, [], ◌∷◌, map, fold, Option, Some, None, Result, Ok, Err, codes}
use Rattle.serde_json.specs.Data.{Data, null, number, unsigned, string, array, object, no_members, put}
use Rattle.serde_json.specs.View.{items_of}
use Rattle.source_map.specs.declared.place.Segment.{Segment}
use Rattle.source_map.specs.declared.place.Traced.{Traced}
use Rattle.source_map.specs.declared.place.Parts.{Parts}
use Rattle.source_map.specs.declared.fault.MapFault.{MapFault}
use Rattle.source_map.specs.declared.fault.MapFault.TheVariants as fault
use Rattle.source_map.specs.Vlq.{digit_of, byte_of, read_numbers}
use Rattle.source_map.specs.Mappings.{segments_of}
use Rattle.source_map.specs.Read.{map_of, source_map_of}
use Rattle.source_map.specs.Trace.{trace, composed}
use Rattle.source_map.specs.Write.{mappings_text, map_data}

-- a function takes what stands left in each row to what stands right
abbrev pub Agrees : {A B : Type 0} → (A → B) → List (A × B) → Type 0
Agrees f rows = map (λ row. f row.0) rows ≡ map (λ row. row.1) rows

-- ---- digits and numbers

abbrev all_digits : List ℕ
all_digits = codes "ABCDEFGHIJKLMNOPQRSTUVWXYZabcdefghijklmnopqrstuvwxyz0123456789+/"

abbrev counted : ℕ → List ℕ → List ℕ
counted n [] = []
counted n (x ∷ xs) = n ∷ counted (n + 1) xs

abbrev pub Digits : Type 0
Digits = (map digit_of all_digits ≡ map (λ n. Some n) (counted 0 all_digits)) × (map byte_of (counted 0 all_digits) ≡ all_digits)

abbrev number_rows : List (List ℕ × Option (List ℕ))
number_rows =
    ([], Some []) ∷
    (codes "A", Some (0 ∷ [])) ∷
    (codes "IAAM", Some (8 ∷ 0 ∷ 0 ∷ 12 ∷ [])) ∷
    (codes "gB", Some (32 ∷ [])) ∷
    (codes "gA", Some (0 ∷ [])) ∷
    (codes "gggggggA", Some (0 ∷ [])) ∷
    (codes "//////H", Some ((2 ^ 33 - 1) ∷ [])) ∷
    (codes "ggggggI", None) ∷
    (codes "2HwcqxB", Some (246 ∷ 912 ∷ 1578 ∷ [])) ∷
    (codes "g", None) ∷
    (codes "Ag", None) ∷
    (codes "A=", None) ∷
    (codes " A", None) ∷
    []

abbrev pub Numbers : Type 0
Numbers = Agrees read_numbers number_rows

-- ---- mappings

abbrev at_place : ℕ → ℕ → ℕ → ℕ → ℕ → Option ℕ → Segment
at_place line column source source_line source_column name = record {
  line = line;
  column = column;
  origin = Some (record { source = source; line = source_line; column = source_column; name = name });
}

abbrev at_nothing : ℕ → ℕ → Segment
at_nothing line column = record { line = line; column = column; origin = None }

-- with two sources and one name
abbrev decoded_rows : List (List ℕ × Result (List Segment) ℕ)
decoded_rows =
    ([], Ok []) ∷
    (codes ";;,,;", Ok []) ∷
    (codes "AAAA,IAAM", Ok (at_place 1 0 0 1 0 None ∷ at_place 1 4 0 1 6 None ∷ [])) ∷
    (codes "A,IAAM", Ok (at_nothing 1 0 ∷ at_place 1 4 0 1 6 None ∷ [])) ∷
    (codes "AAAA;AAAG", Ok (at_place 1 0 0 1 0 None ∷ at_place 2 0 0 1 3 None ∷ [])) ∷
    (codes ";ACCCA;;EDDD", Ok (at_place 2 0 1 2 1 (Some 0) ∷ at_place 4 2 0 1 0 None ∷ [])) ∷
    -- sorted by column, those of equal column in order; the column begins anew on each line
    (codes "IAAA,DAAC,AAAC,HAAC;C", Ok (at_place 1 0 0 1 3 None ∷ at_place 1 3 0 1 1 None ∷ at_place 1 3 0 1 2 None ∷ at_place 1 4 0 1 0 None ∷ at_nothing 2 1 ∷ [])) ∷
    -- a wrong digit, also one that is no ASCII
    (codes "AAAA,A!AA", Err 5) ∷
    (codes "A,é", Err 2) ∷
    -- a cut number
    (codes "A,,;AAAg", Err 4) ∷
    -- another count of numbers
    (codes "AA", Err 0) ∷
    (codes "A,AAA", Err 2) ∷
    (codes "AAAAAA", Err 0) ∷
    -- negative
    (codes "D", Err 0) ∷
    (codes "C,F", Err 2) ∷
    (codes "ADAA", Err 0) ∷
    (codes "AADA", Err 0) ∷
    (codes "AAAD", Err 0) ∷
    (codes "AAAAD", Err 0) ∷
    -- minus nothing is nothing
    (codes "B", Ok (at_nothing 1 0 ∷ [])) ∷
    -- too large: a column from 2^32 on, a line from 2^32 - 1 on
    (codes "+/////H", Ok (at_nothing 1 (2 ^ 32 - 1) ∷ [])) ∷
    (codes "ggggggI", Err 0) ∷
    (codes "+/////H,C", Err 8) ∷
    (codes "AA8/////HA", Ok (at_place 1 0 0 (2 ^ 32 - 1) 0 None ∷ [])) ∷
    (codes "AA+/////HA", Err 0) ∷
    (codes "AAA+/////H", Ok (at_place 1 0 0 1 (2 ^ 32 - 1) None ∷ [])) ∷
    -- past its list
    (codes "AEAA", Err 0) ∷
    (codes "AAAA,CAAAC", Err 5) ∷
    []

abbrev pub Decoded : Type 0
Decoded = Agrees (segments_of 2 1) decoded_rows

abbrev encoded_rows : List (List Segment × List ℕ)
encoded_rows =
    ([], []) ∷
    (at_place 1 0 0 1 0 None ∷ at_place 1 4 0 1 6 None ∷ [], codes "AAAA,IAAM") ∷
    (at_place 2 0 1 2 1 (Some 0) ∷ at_place 4 2 0 1 0 None ∷ [], codes ";ACCCA;;EDDD") ∷
    (at_nothing 1 (2 ^ 32 - 1) ∷ at_nothing 2 1 ∷ at_nothing 2 1 ∷ [], codes "+/////H;C,A") ∷
    (at_place 1 0 0 (2 ^ 32 - 1) 0 None ∷ at_place 1 0 0 1 (2 ^ 32 - 1) (Some 17) ∷ [], codes "AA8/////HA,AA9/////H+/////HiB") ∷
    []

abbrev pub Encoded : Type 0
Encoded = Agrees mappings_text encoded_rows

-- ---- whole maps

-- an object of these members
abbrev object_of : List (List ℕ × Data) → Data
object_of members = object (fold (λ placed entry. put entry.0 entry.1 placed) no_members members)

abbrev text : List ℕ → Data
text bytes = string bytes

abbrev list : List Data → Data
list values = array (items_of values)

abbrev whole : ℕ → Data
whole n = number (unsigned n)

-- a map of version 3 with these sources and mappings, and more members
abbrev map_with : Data → Data → List (List ℕ × Data) → Data
map_with sources mappings more = object_of ((codes "version", whole 3) ∷ (codes "sources", sources) ∷ (codes "mappings", mappings) ∷ more)

abbrev source_ts : List (Option (List ℕ))
source_ts = Some (codes "src.ts") ∷ []

abbrev read_rows : List (Data × Result Parts MapFault)
read_rows = (
  map_with (list (text (codes "a.ts") ∷ [])) (text (codes "AAAA")) [],
  Ok (record { sources = Some (codes "a.ts") ∷ []; names = []; segments = at_place 1 0 0 1 0 None ∷ [] }),
) ∷ (
  map_with (list (null ∷ text (codes "b") ∷ [])) (text (codes "ACAAA")) ((codes "names", list (text (codes "x") ∷ [])) ∷ (codes "sourceRoot", text (codes "r")) ∷ (codes "file", whole 1) ∷ []),
  Ok (record { sources = None ∷ Some (codes "r/b") ∷ []; names = codes "x" ∷ []; segments = at_place 1 0 1 1 0 (Some 0) ∷ [] }),
) ∷ (
  map_with (list (text (codes "b") ∷ [])) (text ([])) ((codes "sourceRoot", text (codes "r/")) ∷ []),
  Ok (record { sources = Some (codes "r/b") ∷ []; names = []; segments = [] }),
) ∷ (
  map_with (list (text (codes "b") ∷ [])) (text []) ((codes "sourceRoot", text []) ∷ []),
  Ok (record { sources = Some (codes "b") ∷ []; names = []; segments = [] }),
) ∷ (
  map_with (list (text (codes "b") ∷ [])) (text []) ((codes "sourceRoot", null) ∷ []),
  Ok (record { sources = Some (codes "b") ∷ []; names = []; segments = [] }),
) ∷ (
  list [],
  Err (fault.BadMember (codes "version")),
) ∷ (
  object_of [],
  Err (fault.BadMember (codes "version")),
) ∷ (
  object_of ((codes "sections", null) ∷ []),
  Err (fault.BadMember (codes "sections")),
) ∷ (
  object_of ((codes "version", text (codes "3")) ∷ []),
  Err (fault.BadMember (codes "version")),
) ∷ (
  object_of ((codes "version", whole 2) ∷ (codes "sources", whole 1) ∷ []),
  Err (fault.BadMember (codes "version")),
) ∷ (
  object_of ((codes "version", whole 3) ∷ (codes "sources", list (whole 1 ∷ [])) ∷ (codes "names", whole 1) ∷ []),
  Err (fault.BadMember (codes "sources")),
) ∷ (
  map_with (list []) (whole 1) ((codes "names", list (null ∷ [])) ∷ []),
  Err (fault.BadMember (codes "names")),
) ∷ (
  map_with (list []) (whole 1) ((codes "names", null) ∷ []),
  Err (fault.BadMember (codes "names")),
) ∷ (
  map_with (list []) (whole 1) ((codes "sourceRoot", whole 1) ∷ []),
  Err (fault.BadMember (codes "mappings")),
) ∷ (
  map_with (list []) (text (codes "AAAA")) ((codes "sourceRoot", whole 1) ∷ []),
  Err (fault.BadMember (codes "sourceRoot")),
) ∷ (
  map_with (list []) (text (codes "AAAA")) [],
  Err (fault.BadMappings 0),
) ∷ (
  map_with (list (text (codes "a") ∷ [])) (text (codes "AAAA,IAAMA")) [],
  Err (fault.BadMappings 5),
) ∷
    []

abbrev pub ReadAs : Type 0
ReadAs = Agrees map_of read_rows × (source_map_of 1 (codes "{}") ≡ Err fault.TooLong)

abbrev parts_of : List ℕ → Result (List Segment) ℕ → Parts
parts_of text (Ok segments) = record { sources = source_ts; names = []; segments = segments }
parts_of text (Err at) = record { sources = []; names = []; segments = [] }

-- the map of these mappings to `src.ts`
abbrev mapped : List ℕ → Parts
mapped text = parts_of text (segments_of 1 0 text)

abbrev to : ℕ → ℕ → ℕ → Option Traced
to source line column = Some (record { source = source; line = line; column = column })

abbrev trace_rows : List ((List ℕ × ℕ × Option ℕ) × Option Traced)
trace_rows =
    ((codes "AAAA,IAAM", 1, Some 4), to 0 1 6) ∷
    ((codes "AAAA,IAAM", 1, Some 3), to 0 1 0) ∷
    ((codes "AAAA,IAAM", 1, Some 400), to 0 1 6) ∷
    ((codes "AAAA,IAAM", 1, None), to 0 1 6) ∷
    ((codes "A,IAAM", 1, Some 3), None) ∷
    ((codes "EAAA", 1, Some 1), None) ∷
    ((codes "AAAA", 2, Some 0), None) ∷
    ((codes "AAAA", 0, Some 0), None) ∷
    -- of those at one column the last
    ((codes "AAAA,AAAC,AAAC", 1, Some 0), to 0 1 2) ∷
    []

abbrev pub Traces : Type 0
Traces = Agrees (λ row. trace (mapped row.0) row.1 row.2) trace_rows
    × (trace (record { sources = None ∷ []; names = []; segments = at_place 1 0 0 1 0 None ∷ [] }) 1 (Some 0) ≡ None)

-- the outer map's column 2 is the inner one's 4
abbrev pub Composed : Type 0
Composed =
    (trace (composed (mapped (codes "AAAA,EAAI")) (mapped (codes "AAAA,IAAM"))) 1 (Some 2) ≡ to 0 1 6)
    × (composed (mapped (codes "AAAA,EAAI,C,CACA")) (mapped (codes "AAAA,IAAM"))
    ≡ record { sources = source_ts; names = []; segments = at_place 1 0 0 1 0 None ∷ at_place 1 2 0 1 6 None ∷ at_nothing 1 3 ∷ at_nothing 1 4 ∷ [] })

abbrev pub WrittenAs : Type 0
WrittenAs =
    map_data (record { sources = Some (codes "a.ts") ∷ None ∷ []; names = codes "x" ∷ []; segments = at_place 1 0 0 1 0 None ∷ [] })
    ≡ map_with (list (text (codes "a.ts") ∷ null ∷ [])) (text (codes "AAAA")) ((codes "names", list (text (codes "x") ∷ [])) ∷ [])
