-- What the code's word on what a part tells stands for.
use Rattle.cov_hints.specs.Left.{left_of}
use Rattle.cov_maps.specs.declared.inherited.Inherited.{Inherited}
use Rattle.js_walk.specs.Constructs.{Told}

abbrev pub told_of : Inherited → Told
told_of inherited = record {
  left = left_of inherited.left;
  holds = left_of inherited.holds;
  fails = left_of inherited.fails;
  chained = inherited.chained;
  inner = inherited.inner;
}
