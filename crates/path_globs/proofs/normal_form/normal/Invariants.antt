use Rattle.std.proofs.Common.{◌≡◌, [], length, drop, map}
use Rattle.path_globs.specs.NormalForm.{components, with_components}
use Rattle.path_globs.proofs.normal_form.normal.Given as goal

abbrev pub invariant-loop-component : goal.invariant-loop-component
invariant-loop-component l =
    (goal.iterator-loop-component).can_next l.component-iterator
    × (goal.iterator-loop-component).is_finite l.component-iterator
    × (with_components (map (λ part. part.now) l.kept.items) (drop (length l.yielded) (components l.path)) ≡ with_components [] (components l.path))
