-- What a sink has taken, and what a write says of it.
use Rattle.std.specs.Prelude.{◌≡◌, ℕ, ◌≤◌, List, [], ◌++◌, take, length, Option, Result, Ok, Err, IfOk}
use Rattle.std.specs.Option.{option_map}
use Rattle.cov_base.specs.declared.failed.Failed.{Failed}

-- what a sink has taken after these bytes more, where it tells
abbrev pub after_more : Option (List ℕ) → List ℕ → Option (List ℕ)
after_more taken more = option_map (λ before. before ++ more) taken

-- how many bytes a write has taken: none where it failed
abbrev pub count_of : Result ℕ Failed → ℕ
count_of (Ok count) = count
count_of (Err failed) = 0

-- no more is taken than was given, and nothing only where nothing was given
abbrev pub TakesSome : Result ℕ Failed → List ℕ → Type 0
TakesSome result bytes = IfOk result (λ count. (count ≤ length bytes) × (count ≡ 0 → bytes ≡ []))

-- a sink that had taken `before` has taken a prefix of these bytes more
abbrev pub TakesPrefix : Option (List ℕ) → Option (List ℕ) → List ℕ → Type 0
TakesPrefix before after bytes = (count : ℕ) × (count ≤ length bytes) × (after ≡ after_more before (take count bytes))
