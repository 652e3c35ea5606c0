-- The text of a place, and of what has places, from the pieces that are written of it.
use Rattle.std.proofs.Common.{◌≡◌, ℕ, List, [], ◌∷◌, ◌++◌, map, Some, refl, sym, ap, ◌∙◌, append_assoc, codes}
use Rattle.json.specs.Print.{escape_byte}
use Rattle.serde_json.specs.Data.{Data, string, array}
use Rattle.serde_json.specs.View.{items_of}
use Rattle.serde_json.specs.Written.{compact_text}
use Rattle.cov_object.specs.declared.location.Position.{Position}
use Rattle.cov_object.specs.declared.location.Location.{Location}
use Rattle.cov_object.specs.declared.file.FunctionCoverage.{FunctionCoverage}
use Rattle.cov_object.specs.declared.file.PathCoverage.{PathCoverage}
use Rattle.cov_object.specs.Branch.{BranchCoverage}
use Rattle.cov_object.specs.Json.{object_of, count_data, column_data, position_data, location_data, function_data, branch_data}

-- two values, each after a literal, and the closing brace
abbrev two_members : List ℕ → Data → List ℕ → Data → List ℕ
two_members first a second b = first ++ (compact_text a ++ (second ++ (compact_text b ++ 125 ∷ [])))

-- three values
abbrev three_members : List ℕ → Data → List ℕ → Data → List ℕ → Data → List ℕ
three_members first a second b third c = first ++ (compact_text a ++ (second ++ (compact_text b ++ (third ++ (compact_text c ++ 125 ∷ [])))))

-- they are what was written in these pieces
two_pieces : (first second : List ℕ) (a b : Data) (o0 o1 o2 o3 o4 o5 : List ℕ) →
    o1 ≡ o0 ++ first → o2 ≡ o1 ++ compact_text a → o3 ≡ o2 ++ second → o4 ≡ o3 ++ compact_text b → o5 ≡ o4 ++ 125 ∷ [] → o5 ≡ o0 ++ two_members first a second b
two_pieces first second a b o0 o1 o2 o3 o4 o5 e1 e2 e3 e4 e5 = rw (e5, e4, e3, e2, e1) (simp append_assoc)

three_pieces : (first second third : List ℕ) (a b c : Data) (o0 o1 o2 o3 o4 o5 o6 o7 : List ℕ) →
    o1 ≡ o0 ++ first → o2 ≡ o1 ++ compact_text a → o3 ≡ o2 ++ second → o4 ≡ o3 ++ compact_text b → o5 ≡ o4 ++ third → o6 ≡ o5 ++ compact_text c → o7 ≡ o6 ++ 125 ∷ [] →
    o7 ≡ o0 ++ three_members first a second b third c
three_pieces first second third a b c o0 o1 o2 o3 o4 o5 o6 o7 e1 e2 e3 e4 e5 e6 e7 = rw (e7, e6, e5, e4, e3, e2, e1) (simp append_assoc)

place-text : (line column : Data) → compact_text (object_of ((codes "line", line) ∷ (codes "column", column) ∷ [])) ≡ two_members (codes "{\"column\":") column (codes ",\"line\":") line
unfolding escape_byte
place-text line column = refl

location-text : (start end : Data) → compact_text (object_of ((codes "start", start) ∷ (codes "end", end) ∷ [])) ≡ two_members (codes "{\"end\":") end (codes ",\"start\":") start
unfolding escape_byte
location-text start end = refl

function-text : (name declaration location : Data) →
    compact_text (object_of ((codes "name", name) ∷ (codes "decl", declaration) ∷ (codes "loc", location) ∷ []))
    ≡ three_members (codes "{\"decl\":") declaration (codes ",\"loc\":") location (codes ",\"name\":") name
unfolding escape_byte
function-text name declaration location = refl

branch-text : (location kind locations : Data) →
    compact_text (object_of ((codes "loc", location) ∷ (codes "type", kind) ∷ (codes "locations", locations) ∷ []))
    ≡ three_members (codes "{\"loc\":") location (codes ",\"locations\":") locations (codes ",\"type\":") kind
unfolding escape_byte
branch-text location kind locations = refl

-- ---- what a call leaves that writes one in these pieces

pub place-written : (place : Position) (o0 o1 o2 o3 o4 o5 : List ℕ) →
    o1 ≡ o0 ++ codes "{\"column\":" → o2 ≡ o1 ++ compact_text (column_data place.column) → o3 ≡ o2 ++ codes ",\"line\":" → o4 ≡ o3 ++ compact_text (count_data place.line) → o5 ≡ o4 ++ 125 ∷ [] →
    o5 ≡ o0 ++ compact_text (position_data (Some place))
place-written place o0 o1 o2 o3 o4 o5 e1 e2 e3 e4 e5 =
    let column = column_data place.column in
    let line = count_data place.line in
    two_pieces _ _ column line o0 o1 o2 o3 o4 o5 e1 e2 e3 e4 e5 ∙ ap (λ text. o0 ++ text) (sym (place-text line column))

pub location-written : (location : Location) (o0 o1 o2 o3 o4 o5 : List ℕ) →
    o1 ≡ o0 ++ codes "{\"end\":" → o2 ≡ o1 ++ compact_text (position_data location.end) → o3 ≡ o2 ++ codes ",\"start\":" → o4 ≡ o3 ++ compact_text (position_data location.start) → o5 ≡ o4 ++ 125 ∷ [] →
    o5 ≡ o0 ++ compact_text (location_data location)
location-written location o0 o1 o2 o3 o4 o5 e1 e2 e3 e4 e5 =
    let start = position_data location.start in
    let end = position_data location.end in
    two_pieces _ _ end start o0 o1 o2 o3 o4 o5 e1 e2 e3 e4 e5 ∙ ap (λ text. o0 ++ text) (sym (location-text start end))

pub function-written : (function : FunctionCoverage) (name : List ℕ) (o0 o1 o2 o3 o4 o5 o6 o7 : List ℕ) → name ≡ function.name →
    o1 ≡ o0 ++ codes "{\"decl\":" → o2 ≡ o1 ++ compact_text (location_data function.declaration) → o3 ≡ o2 ++ codes ",\"loc\":" → o4 ≡ o3 ++ compact_text (location_data function.location) →
    o5 ≡ o4 ++ codes ",\"name\":" → o6 ≡ o5 ++ compact_text (string name) → o7 ≡ o6 ++ 125 ∷ [] →
    o7 ≡ o0 ++ compact_text (function_data function)
function-written function name o0 o1 o2 o3 o4 o5 o6 o7 same e1 e2 e3 e4 e5 e6 e7 =
    let declaration = location_data function.declaration in
    let location = location_data function.location in
    three_pieces _ _ _ declaration location (string function.name) o0 o1 o2 o3 o4 o5 o6 o7 e1 e2 e3 e4 e5 (e6 ∙ ap (λ text. o5 ++ compact_text (string text)) same) e7
    ∙ ap (λ text. o0 ++ text) (sym (function-text (string function.name) declaration location))

pub branch-written : (branch : BranchCoverage) (kind : List ℕ) (place : Location) (paths : List PathCoverage) (o0 o1 o2 o3 o4 o5 o6 o7 : List ℕ) → kind ≡ branch.kind → place ≡ branch.location → paths ≡ branch.paths →
    o1 ≡ o0 ++ codes "{\"loc\":" → o2 ≡ o1 ++ compact_text (location_data place) → o3 ≡ o2 ++ codes ",\"locations\":" →
    o4 ≡ o3 ++ compact_text (array (items_of (map (λ path. location_data path.location) paths))) →
    o5 ≡ o4 ++ codes ",\"type\":" → o6 ≡ o5 ++ compact_text (string kind) → o7 ≡ o6 ++ 125 ∷ [] →
    o7 ≡ o0 ++ compact_text (branch_data branch)
branch-written branch kind place paths o0 o1 o2 o3 o4 o5 o6 o7 same_kind same_place same_paths e1 e2 e3 e4 e5 e6 e7 =
    let location = location_data branch.location in
    let locations = array (items_of (map (λ path. location_data path.location) branch.paths)) in
    three_pieces _ _ _ location locations (string branch.kind) o0 o1 o2 o3 o4 o5 o6 o7 e1 (e2 ∙ ap (λ l. o1 ++ compact_text (location_data l)) same_place) e3
    (e4 ∙ ap (λ ps. o3 ++ compact_text (array (items_of (map (λ path. location_data path.location) ps)))) same_paths)
    e5 (e6 ∙ ap (λ text. o5 ++ compact_text (string text)) same_kind) e7
    ∙ ap (λ text. o0 ++ text) (sym (branch-text location (string branch.kind) locations))
