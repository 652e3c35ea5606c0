-- A program of one file with counters, and none of its own statements, in the realm that stands when a program begins.
use Rattle.std.specs.Prelude.{ℕ, false, List, [], ◌∷◌, codes}
use Rattle.js_terms.specs.declared.words.Spelled.{Spelled}
use Rattle.js_tree.specs.Plain.{no_stmt, MakeFile}
use Rattle.js_value.specs.declared.built_in.Place.TheVariants.{Global}
use Rattle.js_value.specs.Realm.{number_of, realm}
use Rattle.js_meaning.specs.Program.{Source, Sources}
use Rattle.js_counter.specs.Represents.{empty}
use Rattle.js_counter.specs.Literals.{Literal, plain, spelled_text, member, data_of}
use Rattle.js_counter.specs.Literals as L
use Rattle.js_counter.specs.Starts.{opening_of, StartsWith}

abbrev pub spelled : List ℕ → Spelled
spelled units = record { spelling = []; units = units }

-- `{"hash":"h","s":{}}`
abbrev pub zero_data : Literal
zero_data = plain (member (spelled (codes "hash")) (spelled_text (spelled (codes "h"))) (member (spelled (codes "s")) (plain L.empty) L.empty))

abbrev pub name : List ℕ
name = codes "cov_x"

abbrev pub file : Source
file = record { path = codes "a.js"; tree = MakeFile (opening_of [] name (spelled (codes "a.js")) (spelled (codes "h")) (spelled (codes "__coverage__")) zero_data 0 1 no_stmt) []; counted = false }

abbrev pub program : Sources
program = record { files = file ∷ []; prelude = MakeFile no_stmt [] }

abbrev pub Opens : Type 0
Opens = (c : ℕ) × StartsWith program file 0 (opening_of [] name (spelled (codes "a.js")) (spelled (codes "h")) (spelled (codes "__coverage__")) zero_data 0 1 no_stmt) no_stmt realm
    name (spelled (codes "a.js")) (codes "__coverage__") (number_of Global) c empty (data_of zero_data)
