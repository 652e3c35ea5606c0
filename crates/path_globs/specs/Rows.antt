-- Paths and specifiers, and what they come to.
use Rattle.std.specs.Prelude.{◌≡◌, ℕ, Bool, true, false, List, [], ◌∷◌, map, Option, Some, None, codes}
use Rattle.path_globs.specs.NormalForm.{normal}
use Rattle.path_globs.specs.Source.{source_path}
use Rattle.path_globs.specs.Specifier.{resolve}
use Rattle.path_globs.specs.Beside.{beside}
use Rattle.path_globs.specs.Wildcards.{matches}

-- a function takes what stands left in each row to what stands right
abbrev pub Agrees : {A B : Type 0} → (A → B) → List (A × B) → Type 0
Agrees f rows = map (λ row. f row.0) rows ≡ map (λ row. row.1) rows

abbrev normal_rows : List (List ℕ × Option (List ℕ))
normal_rows =
    (codes "a.js", Some (codes "a.js")) ∷
    (codes "./a//b/./c.js", Some (codes "a/b/c.js")) ∷
    (codes "a/../b.js", Some (codes "b.js")) ∷
    (codes "a/b/../../c.js", Some (codes "c.js")) ∷
    (codes "/a/../b.js", Some (codes "/b.js")) ∷
    (codes "a/b/", Some (codes "a/b")) ∷
    (codes "...", Some (codes "...")) ∷
    (codes "..", None) ∷
    (codes "a/../..", None) ∷
    (codes "/..", None) ∷
    (codes "/", Some (codes "/")) ∷
    ([], Some []) ∷
    []

abbrev pub NormalForms : Type 0
NormalForms = Agrees normal normal_rows

abbrev source_rows : List (List ℕ × Option (List ℕ))
source_rows =
    (codes "a.js", Some (codes "a.js")) ∷
    (codes "/w/./src/../a.js", Some (codes "/w/a.js")) ∷
    (codes ".js", Some (codes ".js")) ∷
    (codes "a/.js/", Some (codes "a/.js")) ∷
    (codes "a.mjs", None) ∷
    (codes "a.js?b", None) ∷
    (codes "../a.js", None) ∷
    (codes "node:fs", None) ∷
    ([], None) ∷
    []

abbrev pub SourcePaths : Type 0
SourcePaths = Agrees source_path source_rows

-- the path of the file that asks, and what it asks for
abbrev resolve_rows : List ((List ℕ × List ℕ) × Option (List ℕ))
resolve_rows =
    ((codes "a/b.js", codes "../c"), Some (codes "c.js")) ∷
    ((codes "b.js", codes "../c"), None) ∷
    ((codes "b.js", codes "fs"), None) ∷
    ((codes "b.js", codes "./c.js"), Some (codes "c.js")) ∷
    ((codes "b.js", codes "./c"), Some (codes "c.js")) ∷
    ((codes "a/b.js", codes "./c/d"), Some (codes "a/c/d.js")) ∷
    ((codes "/a/b.js", codes "../c"), Some (codes "/c.js")) ∷
    ((codes "/b.js", codes "../c"), None) ∷
    ((codes "a/b/c.js", codes "../../d"), Some (codes "d.js")) ∷
    ((codes "a/b.js", codes "/c.js"), None) ∷
    ((codes "a/b.js", codes "c.js"), None) ∷
    ((codes "a/b.js", codes ".c"), None) ∷
    ((codes "a/b.js", []), None) ∷
    []

abbrev pub Resolved : Type 0
Resolved = Agrees (λ row. resolve row.0 row.1) resolve_rows

-- the path of a file, and a path from its folder
abbrev beside_rows : List ((List ℕ × List ℕ) × List ℕ)
beside_rows =
    ((codes "a.js", codes "a.ts"), codes "a.ts") ∷
    ((codes "out/a.js", codes "../src/a.ts"), codes "src/a.ts") ∷
    ((codes "out/a.js", codes "./a.ts"), codes "out/a.ts") ∷
    ((codes "a.js", codes "../src/a.ts"), codes "../src/a.ts") ∷
    ((codes "out/a.js", codes "../../../src/./x//a.ts"), codes "../../src/x/a.ts") ∷
    ((codes "a.js", codes "x/../../../a.ts"), codes "../../a.ts") ∷
    ((codes "/w/out/a.js", codes "../a.ts"), codes "/w/a.ts") ∷
    ((codes "/out/a.js", codes "../../a.ts"), codes "/../a.ts") ∷
    ((codes "out/a.js", codes "b:/a.ts"), codes "out/b:/a.ts") ∷
    []

abbrev pub Beside : Type 0
Beside = Agrees (λ row. beside row.0 row.1) beside_rows

-- a pattern and a path
abbrev match_rows : List ((List ℕ × List ℕ) × Bool)
match_rows =
    ((codes "lib/**/*.js", codes "lib/a.js"), true) ∷
    ((codes "lib/**/*.js", codes "lib/x/y/a.js"), true) ∷
    ((codes "lib/**/*.js", codes "src/a.js"), false) ∷
    ((codes "*.js", codes "lib/a.js"), false) ∷
    ((codes "*.js", codes "a.js"), true) ∷
    ((codes "**", codes "a/b.js"), true) ∷
    ((codes "**/b.js", codes "b.js"), true) ∷
    ((codes "a/**", codes "a"), true) ∷
    ((codes "a/**/b/**/c.js", codes "a/b/x/b/y/c.js"), true) ∷
    ((codes "a/**/b/**/c.js", codes "a/x/c.js"), false) ∷
    ((codes "a?c.js", codes "abc.js"), true) ∷
    ((codes "a?c.js", codes "a/c.js"), false) ∷
    ((codes "a?c.js", codes "ac.js"), false) ∷
    ((codes "?.js", 195 ∷ 164 ∷ codes ".js"), true) ∷
    ((codes "a*b*c", codes "axxbxbyc"), true) ∷
    ((codes "a*b*c", codes "axxcxbyd"), false) ∷
    ((codes "a**.js", codes "a/b.js"), false) ∷
    ((codes "a**.js", codes "ab.js"), true) ∷
    ((codes "a.js", codes "axjs"), false) ∷
    ((codes "[ab].js", codes "a.js"), false) ∷
    []

abbrev pub Matches : Type 0
Matches = Agrees (λ row. matches row.0 row.1) match_rows
