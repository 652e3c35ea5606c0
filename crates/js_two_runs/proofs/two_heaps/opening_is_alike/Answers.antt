use Rattle.js_two_runs.specs.TwoHeaps.{By}
use Rattle.js_two_runs.proofs.TwoHeapsOpened.{opening-alike}
use Rattle.js_two_runs.proofs.two_heaps.opening_is_alike.Goals as goal

pub returns : goal.returns
returns c = λ test. opening-alike (By test)
