-- What a value represents it tells.
use Rattle.std.proofs.Common.{◌≤◌, sym, subst}
use Rattle.js_counter.specs.Represents.{json_of, value_at}
use Rattle.cov_expected.specs.Told.{IsTellable, nesting}
use Rattle.cov_expected.specs.Laws.{Tells, TellsData}
use Rattle.cov_expected.proofs.Read.{tells}

pub tells_data : TellsData
tells_data h v json r able n low =
    let t : Tells n h (value_at r.placed) (json_of r.placed) = tells h n r.placed r.holds (subst IsTellable (sym r.data_is) able) (subst (λ j. nesting j ≤ n) (sym r.data_is) low) in
    subst (λ j. Tells n h v j) r.data_is (subst (λ w. Tells n h w (json_of r.placed)) r.is t)
