-- Worked examples of which file a text names that is required.
use Rattle.std.specs.Prelude.{◌≡◌, [], ◌∷◌, ◌++◌, Some, None, codes}
use Rattle.js_value.specs.State.{Store}
use Rattle.js_value.specs.Running.{make_requiring}
use Rattle.js_value.specs.Realm.{empty_heap}
use Rattle.js_value.specs.Requiring.{required_from, required_path}

-- the object 70 was made for one file, and 71 for another
abbrev two_files : Store
two_files = make_requiring 71 (codes "b.js") (make_requiring 70 (codes "lib/a.js")
    (record { heap = empty_heap; cache = []; requiring = []; output = []; log = []; started = []; starts = [] }))

pub record Requires : Type 0 where
  pub above : required_from (codes "a/b.js") (codes "../c") ≡ Some (codes "c.js")
  pub above_the_root : required_from (codes "b.js") (codes "../c") ≡ None
  pub of_package : required_from (codes "b.js") (codes "fs") ≡ None
  pub nothing : required_from (codes "b.js") [] ≡ None
  -- U+1F600 as a surrogate pair, and one half of it
  pub astral : required_from (codes "b.js") (codes "./" ++ 0xD83D ∷ 0xDE00 ∷ []) ≡ Some (0xF0 ∷ 0x9F ∷ 0x98 ∷ 0x80 ∷ codes ".js")
  pub lone : required_from (codes "b.js") (codes "./" ++ 0xD83D ∷ []) ≡ None
  pub by_file : required_path two_files 70 (codes "./c") ≡ Some (codes "lib/c.js")
  pub by_other : required_path two_files 71 (codes "./c") ≡ Some (codes "c.js")
  pub by_none : required_path two_files 72 (codes "./c") ≡ None
