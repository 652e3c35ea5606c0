use Rattle.std.proofs.Common.{◌≡◌, [], length, drop, map, fold}
use Rattle.path_globs.specs.NormalForm.{components}
use Rattle.path_globs.specs.Beside.{with_component}
use Rattle.path_globs.proofs.beside.open_form.Given as goal

abbrev pub invariant-loop-component : goal.invariant-loop-component
invariant-loop-component l =
    (goal.iterator-loop-component).can_next l.component-iterator
    × (goal.iterator-loop-component).is_finite l.component-iterator
    × (fold with_component (map (λ part. part.now) l.kept.items) (drop (length l.yielded) (components l.path)) ≡ fold with_component [] (components l.path))
