-- The source map that bytes tell as JSON (ECMA-426, source map format), or the first fault in the order of the members.
use Rattle.std.specs.Prelude.{ℕ, ◌==◌, nat_le, nat_eq, if◌then◌else◌, List, [], ◌∷◌, ◌++◌, length, map, Option, Some, None, is_some, option_map, option_and_then, Result, Ok, Err, codes}
use Rattle.std.specs.List.{ends_with}
use Rattle.serde_json.specs.Data.{Data, Items, no_items, item}
use Rattle.serde_json.specs.Find.{get, as_null, as_number, as_str, as_array, as_u64}
use Rattle.cov_object.specs.JsonText.{json_of}
use Rattle.source_map.specs.declared.place.Segment.{Segment}
use Rattle.source_map.specs.declared.place.Parts.{Parts}
use Rattle.source_map.specs.declared.fault.MapFault.{MapFault}
use Rattle.source_map.specs.declared.fault.MapFault.TheVariants as fault
use Rattle.source_map.specs.Mappings.{segments_of}

abbrev pub after : {A B : Type 0} → Result A MapFault → (A → Result B MapFault) → Result B MapFault
after (Ok found) next = next found
after (Err first) next = Err first

-- what is found, or the fault of this member
abbrev pub or_bad : {A : Type 0} → List ℕ → Option A → Result A MapFault
or_bad name None = Err (fault.BadMember name)
or_bad name (Some found) = Ok found

-- ---- texts

abbrev pub text_or_null : Data → Option (Option (List ℕ))
text_or_null value = if is_some (as_null value) then Some None else option_map (λ text. Some text) (as_str value)

-- each value of a list
abbrev pub each : {A : Type 0} → (Data → Option A) → Items → Option (List A)
each one no_items = Some []
each one (item value rest) = option_and_then (λ first. option_map (λ others. first ∷ others) (each one rest)) (one value)

abbrev pub list_of : {A : Type 0} → (Data → Option A) → Data → Option (List A)
list_of one value = option_and_then (each one) (as_array value)

-- ---- the members

abbrev pub no_sections : Data → Result (Unit {0}) MapFault
no_sections value = if is_some (get (codes "sections") value) then Err (fault.BadMember (codes "sections")) else Ok tt

abbrev pub version : Data → Result (Unit {0}) MapFault
version value =
    or_bad (codes "version") (option_and_then (λ n. if n == 3 then Some tt else None)
    (option_and_then as_u64 (option_and_then as_number (get (codes "version") value))))

abbrev pub sources : Data → Result (List (Option (List ℕ))) MapFault
sources value = or_bad (codes "sources") (option_and_then (list_of text_or_null) (get (codes "sources") value))

abbrev pub names_in : Option Data → Option (List (List ℕ))
names_in None = Some []
names_in (Some value) = list_of as_str value

abbrev pub names : Data → Result (List (List ℕ)) MapFault
names value = or_bad (codes "names") (names_in (get (codes "names") value))

abbrev pub mappings : Data → Result (List ℕ) MapFault
mappings value = or_bad (codes "mappings") (option_and_then as_str (get (codes "mappings") value))

-- the root is nothing where it is null or missing
abbrev pub text_or_nothing : Option (List ℕ) → List ℕ
text_or_nothing None = []
text_or_nothing (Some text) = text

abbrev pub root_in : Option Data → Option (List ℕ)
root_in None = Some []
root_in (Some value) = option_map text_or_nothing (text_or_null value)

abbrev pub root : Data → Result (List ℕ) MapFault
root value = or_bad (codes "sourceRoot") (root_in (get (codes "sourceRoot") value))

-- a root that isn't empty stands before each source, with a `/` between
abbrev pub prefix : List ℕ → List ℕ
prefix [] = []
prefix (byte ∷ bytes) = if ends_with nat_eq (byte ∷ bytes) (codes "/") then byte ∷ bytes else (byte ∷ bytes) ++ codes "/"

abbrev pub under : List ℕ → List (Option (List ℕ)) → List (Option (List ℕ))
under root sources = map (λ source. option_map (λ text. prefix root ++ text) source) sources

-- ---- the map

abbrev pub with_segments : List (Option (List ℕ)) → List (List ℕ) → Result (List Segment) ℕ → Result Parts MapFault
with_segments sources names (Err at) = Err (fault.BadMappings at)
with_segments sources names (Ok segments) = Ok (record { sources = sources; names = names; segments = segments })

abbrev pub map_of : Data → Result Parts MapFault
map_of value =
    after (no_sections value) (λ _.
    after (version value) (λ _.
    after (sources value) (λ found.
    after (names value) (λ names.
    after (mappings value) (λ text.
    after (root value) (λ root.
    with_segments (under root found) names (segments_of (length found) (length names) text)))))))

abbrev pub or_no_json : Option Data → Result Parts MapFault
or_no_json None = Err fault.BadJson
or_no_json (Some value) = map_of value

-- the map that so many bytes at most tell
abbrev pub source_map_of : ℕ → List ℕ → Result Parts MapFault
source_map_of most bytes = if nat_le (length bytes) most then or_no_json (json_of bytes) else Err fault.TooLong
