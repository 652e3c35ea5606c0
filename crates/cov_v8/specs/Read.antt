-- The coverage that bytes tell as V8's JSON, or the fault that comes first as the members are gone through.
-- A member that is not named here is passed over, in every object.
use Rattle.std.specs.Prelude.{ℕ, nat_le, if◌then◌else◌, List, [], ◌∷◌, length, Option, Some, None, option_and_then, Result, Ok, Err, codes}
use Rattle.serde_json.specs.Data.{Data, Items, no_items, item}
use Rattle.serde_json.specs.Find.{get, as_bool, as_array}
use Rattle.cov_object.specs.JsonText.{json_of}
use Rattle.cov_object.specs.Read.{count_of, text_in, most_bytes}
use Rattle.cov_v8.specs.declared.fault.V8Fault.{V8Fault}
use Rattle.cov_v8.specs.declared.fault.V8Fault.TheVariants as fault
use Rattle.cov_v8.specs.declared.v8.V8Range.{V8Range}
use Rattle.cov_v8.specs.declared.v8.V8Function.{V8Function}
use Rattle.cov_v8.specs.declared.v8.V8Script.{V8Script}
use Rattle.cov_v8.specs.declared.v8.V8.{V8}

-- what comes next, with what was found; the first fault stays
abbrev pub after : {A B : Type 0} → Result A V8Fault → (A → Result B V8Fault) → Result B V8Fault
after (Ok found) next = next found
after (Err first) next = Err first

-- what is found, or the fault of this member
abbrev pub or_bad : {A : Type 0} → List ℕ → Option A → Result A V8Fault
or_bad name None = Err (fault.BadMember name)
or_bad name (Some found) = Ok found

-- each value of a list
abbrev pub each : {A : Type 0} → (Data → Result A V8Fault) → Items → Result (List A) V8Fault
each one no_items = Ok []
each one (item value rest) = after (one value) (λ first. after (each one rest) (λ others. Ok (first ∷ others)))

-- a list in a member
abbrev pub list_in : List ℕ → Data → Option Items
list_in name value = option_and_then as_array (get name value)

-- ---- ranges

-- a whole number below 2^53
abbrev pub whole_in : List ℕ → Data → Option ℕ
whole_in name value = option_and_then count_of (get name value)

-- no less than the start
abbrev pub from_start : ℕ → Option ℕ → Option ℕ
from_start start end = option_and_then (λ n. if nat_le start n then Some n else None) end

abbrev pub range_of : Data → Result V8Range V8Fault
range_of value =
    after (or_bad (codes "startOffset") (whole_in (codes "startOffset") value)) (λ start.
    after (or_bad (codes "endOffset") (from_start start (whole_in (codes "endOffset") value))) (λ end.
    after (or_bad (codes "count") (whole_in (codes "count") value)) (λ count.
    Ok (record { start = start; end = end; count = count }))))

-- ---- functions

-- at least one
abbrev pub nonempty : Items → Option Items
nonempty no_items = None
nonempty (item value rest) = Some (item value rest)

abbrev pub ranges_of : Data → Result (List V8Range) V8Fault
ranges_of value = after (or_bad (codes "ranges") (option_and_then nonempty (list_in (codes "ranges") value))) (each range_of)

abbrev pub function_of : Data → Result V8Function V8Fault
function_of value =
    after (or_bad (codes "functionName") (text_in (codes "functionName") value)) (λ name.
    after (or_bad (codes "isBlockCoverage") (option_and_then as_bool (get (codes "isBlockCoverage") value))) (λ is_block.
    after (ranges_of value) (λ ranges.
    Ok (record { name = name; is_block = is_block; ranges = ranges }))))

-- ---- sources

abbrev pub functions_of : Data → Result (List V8Function) V8Fault
functions_of value = after (or_bad (codes "functions") (list_in (codes "functions") value)) (each function_of)

abbrev pub script_of : Data → Result V8Script V8Fault
script_of value =
    after (or_bad (codes "url") (text_in (codes "url") value)) (λ url.
    after (functions_of value) (λ functions.
    Ok (record { url = url; functions = functions })))

-- ---- the whole

abbrev pub scripts_of : Data → Result (List V8Script) V8Fault
scripts_of value = after (or_bad (codes "result") (list_in (codes "result") value)) (each script_of)

abbrev pub v8_of : Data → Result V8 V8Fault
v8_of value = after (scripts_of value) (λ scripts. Ok (record { scripts = scripts }))

abbrev pub or_no_json : Option Data → Result V8 V8Fault
or_no_json None = Err fault.BadJson
or_no_json (Some value) = v8_of value

-- the coverage that bytes tell
abbrev pub v8_in : List ℕ → Result V8 V8Fault
v8_in bytes = if nat_le (length bytes) most_bytes then or_no_json (json_of bytes) else Err fault.TooLong
