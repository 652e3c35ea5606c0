-- Files over memory: a map from paths to bytes.
use Rattle.std.specs.Prelude.{ℕ, Vec, String}
use Rattle.std.specs.Option.{option_map}
use Rattle.std.specs.BTreeMap.{BTreeMap, get_by_text}
use Rattle.std.specs.declared.alloc.Global.{Global}
use Rattle.cov_base.specs.Store.{Held}

-- the bytes that the map has at each path
abbrev pub contents_of : BTreeMap (String Global) (Vec ℕ Global) → Held
contents_of files = λ path. option_map (λ bytes. bytes.items) (get_by_text files path)
