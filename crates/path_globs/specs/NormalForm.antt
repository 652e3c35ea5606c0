-- The normal form of a path: components joined by `/`, with an optional leading `/`.
use Rattle.std.specs.Prelude.{ℕ, ◌==◌, Bool, ◌||◌, List, [], ◌∷◌, ◌++◌, length, take, Option, Some, None, option_map, option_and_then, if◌then◌else◌, nat_eq, codes}
use Rattle.std.specs.List.{slice_split, join_with_byte, starts_with}
use Rattle.std.specs.Str.{bytes_eq}

-- the components of a path: its parts between `/` and `/`, also the empty ones
abbrev pub components : List ℕ → List (List ℕ)
components path = slice_split (λ byte. byte == 47) path

-- a normal form drops empty components and `.`
abbrev pub is_dropped : List ℕ → Bool
is_dropped component = bytes_eq component [] || bytes_eq component (codes ".")

-- and in it `..` takes the component before away; it needs one
abbrev pub without_last : List (List ℕ) → Option (List (List ℕ))
without_last [] = None
without_last (first ∷ rest) = Some (take (length rest) (first ∷ rest))

-- the components kept, after one more
abbrev pub with_component : List (List ℕ) → List ℕ → Option (List (List ℕ))
with_component kept component =
    if is_dropped component then Some kept
    else (if bytes_eq component (codes "..") then without_last kept
    else Some (kept ++ component ∷ []))

-- the components kept, after all of these, where each `..` has one before it
abbrev pub with_components : List (List ℕ) → List (List ℕ) → Option (List (List ℕ))
with_components kept [] = Some kept
with_components kept (component ∷ later) = option_and_then (λ next. with_components next later) (with_component kept component)

-- a path that begins with `/` is one from the root
abbrev pub is_from_root : List ℕ → Bool
is_from_root path = starts_with nat_eq path (codes "/")

-- what the path begins with, from the root or not
abbrev pub root : Bool → List ℕ
root from_root = if from_root then codes "/" else []

-- the path of these components, from the root or not
abbrev pub spelled : Bool → List (List ℕ) → List ℕ
spelled from_root parts = root from_root ++ join_with_byte 47 parts

-- the normal form of a path, where it has one
abbrev pub normal : List ℕ → Option (List ℕ)
normal path = option_map (spelled (is_from_root path)) (with_components [] (components path))
