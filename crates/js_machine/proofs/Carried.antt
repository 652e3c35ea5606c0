-- The code of a program of which no file is counted.
use Rattle.std.proofs.Common.{◌≡◌, ℕ, zero, suc, Bool, false, List, [], ◌∷◌, Option, Some, None, map, slice_get, sym, ap}
use Rattle.js_tree.specs.Linked.{Unmarked, link_file}
use Rattle.js_code.specs.Program.{ProgramCode, IsCodeOf}
use Rattle.js_meaning.specs.Program.{Source, Sources, from, link_source, link_sources, uncounted_source}
use Rattle.js_machine.specs.private.Carries.{Carries}
use Rattle.js_machine.specs.Whole.{running}

abbrev is_counted : Option Source → Bool
is_counted None = false
is_counted (Some source) = source.counted

none_counted : (sources : List Source) (file code i : ℕ) (source : Source) →
    slice_get (link_sources (map uncounted_source sources) file code) i ≡ Some source → source.counted ≡ false
none_counted [] file code i source is = ap is_counted (sym is)
none_counted (x ∷ xs) file code zero source is = ap is_counted (sym is)
none_counted (x ∷ xs) file code (suc i) source is = none_counted xs (suc file) (link_source (uncounted_source x) file code).next.code i source is

pub carries : (p : Sources) (code : ProgramCode) → IsCodeOf (running p) code → Carries (running p) code
carries p code is = record {
  code_of = is;
  uncounted = none_counted p.files 0 (link_file Unmarked p.prelude (from 0)).next.code;
}
