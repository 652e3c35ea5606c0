-- Texts and keys as the code has them are those that a view of it has.
use Rattle.std.proofs.Common.{◌≡◌, List, refl}
use Rattle.js_code.specs.declared.node.Node.{Node}
use Rattle.js_meaning.specs.Program.{Sources}
use Rattle.js_machine.specs.declared.parts.Title.{Title}
use Rattle.js_machine.specs.declared.parts.Title.TheVariants as title
use Rattle.js_machine.specs.declared.parts.MemberKey.{MemberKey}
use Rattle.js_machine.specs.declared.parts.MemberKey.TheVariants as key
use Rattle.js_machine.specs.private.Config.{view_of, units_of, title_in, key_of, key_in}

pub units_told : (p : Sources) (nodes : List Node) (x : Title) → title_in nodes x ≡ units_of (view_of p nodes) x
units_told p nodes title.Empty = refl
units_told p nodes (title.Name name) = refl
units_told p nodes (title.Text units) = refl

pub key_told : (p : Sources) (nodes : List Node) (k : MemberKey) → key_in nodes k ≡ key_of (view_of p nodes) k
key_told p nodes (key.Name name) = refl
key_told p nodes (key.Value v) = refl
