-- When two marks are the same, and how often one stands in a list.
use Rattle.std.specs.Prelude.{ℕ, ◌+◌, Bool, true, false, ◌&&◌, List, [], ◌∷◌, nat_eq}
use Rattle.js_terms.specs.declared.construct.ConstructKind.{ConstructKind}
use Rattle.js_terms.specs.declared.construct.ConstructKind.TheVariants as construct_kind
use Rattle.js_terms.specs.Mark.{Mark}

abbrev pub same_kind : ConstructKind → ConstructKind → Bool
same_kind construct_kind.Statement construct_kind.Statement = true
same_kind construct_kind.Function construct_kind.Function = true
same_kind construct_kind.Branch construct_kind.Branch = true
same_kind _ _ = false

abbrev pub is_mark : Mark → Mark → Bool
is_mark m n = same_kind m.kind n.kind && (nat_eq m.number n.number && (nat_eq m.path n.path && nat_eq m.file n.file))

abbrev pub one_if : Bool → ℕ
one_if true = 1
one_if false = 0

-- how often a mark stands in a list
abbrev pub times : Mark → List Mark → ℕ
times m [] = 0
times m (n ∷ ns) = one_if (is_mark m n) + times m ns
