-- The entries of one kind, merged.
use Rattle.std.specs.Prelude.{ℕ, ◌+◌, cond, nat_lt, List, [], ◌∷◌, map, Option, Some, None, Result, Ok, Err}
use Rattle.std.specs.List.{flat_map}
use Rattle.cov_object.specs.declared.file.FileCoverage.{FileCoverage}
use Rattle.cov_merge.specs.declared.fault.MergeFault.{MergeFault}
use Rattle.cov_merge.specs.declared.fault.MergeFault.TheVariants.{CountTooLarge}
use Rattle.cov_merge.specs.Answer.{and_then}
use Rattle.cov_merge.specs.Kind.{Kind}
use Rattle.cov_merge.specs.Sums.{limit, summed}

-- the first of these sums that is 2^53 or more, beside its place, counted from here
abbrev pub too_large : ℕ → List ℕ → Option (ℕ × ℕ)
too_large place [] = None
too_large place (sum ∷ sums) = cond (nat_lt sum limit) (too_large (place + 1) sums) (Some (place, sum))

-- an entry with its sums, or the first one of them that is too large
abbrev pub total_or : {T : Type 0} → Kind T → List ℕ → T × List ℕ → Option (ℕ × ℕ) → Result T MergeFault
total_or kind path tally None = Ok (kind.with_counts tally.0 tally.1)
total_or kind path tally (Some at) = Err (CountTooLarge (record { path = path; counter = kind.counter tally.0 at.0 }) at.1)

abbrev pub total : {T : Type 0} → Kind T → List ℕ → T × List ℕ → Result T MergeFault
total kind path tally = total_or kind path tally (too_large 0 tally.1)

-- all of them
abbrev pub totals : {T : Type 0} → Kind T → List ℕ → List (T × List ℕ) → Result (List T) MergeFault
totals kind path [] = Ok []
totals kind path (tally ∷ tallies) = and_then (total kind path tally) (λ entry. and_then (totals kind path tallies) (λ entries. Ok (entry ∷ entries)))

-- the entries of a kind in these files, one after another
abbrev pub entries_of : {T : Type 0} → Kind T → List FileCoverage → List T
entries_of kind files = flat_map (λ file. map (λ entry. entry.1) (kind.entries file)) files

-- those of the files at a path, summed by their keys
abbrev pub merged_entries : {T : Type 0} → Kind T → List ℕ → List FileCoverage → Result (List T) MergeFault
merged_entries kind path files = totals kind path (summed kind (entries_of kind files))
