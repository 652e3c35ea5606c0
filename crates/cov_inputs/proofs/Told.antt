-- The sums of coverage files are a report on what they tell.
use Rattle.std.proofs.Common.{◌≡◌, ℕ, ◌+◌, ◌||◌, Bool, List, [], ◌∷◌, ◌++◌, map, Ok, Err, refl, sym, ap, ◌∙◌, subst, append_assoc, append-nil, arith}
use Rattle.std.specs.Prelude.{Result}
use Rattle.std.specs.List.{list_any, sum_by}
use Rattle.std.proofs.lemmas.List.Sums.{sum_by-cons}
use Rattle.cov_object.specs.declared.file.FileCoverage.{FileCoverage}
use Rattle.cov_merge.specs.declared.fault.MergeFault.{MergeFault}
use Rattle.cov_merge.specs.Maps.{merged}
use Rattle.cov_remap.specs.declared.fault.RemapFault.{RemapFault}
use Rattle.cov_remap.specs.Sent.{Sending}
use Rattle.cov_remap.specs.Remapped.{and_then, merged_all, or_too_large as or_fault, remapped}
use Rattle.cov_remap.specs.Laws.{sent_count, is_sent, Report, run, both, mapped, made, report, runs_of, KeepsMaps, IsDone, IsWholeWay, AreKept, AreRemappedOnce}
use Rattle.cov_inputs.specs.Inputs.{Input, Sums, read_at, then_by, or_too_large, or_unmapped, merged_or_refused, remapped_at, with_files, with_input, gathered}
use Rattle.cov_inputs.specs.Laws.{or_none, told, HasWhatIsTold}

abbrev fine : List FileCoverage → Sums
fine files = Ok files

-- what goes before a value that was found
record Step (step : Sums) (next : List FileCoverage → Sums) (sums : List FileCoverage) : Type 0 where
  value : List FileCoverage
  first : step ≡ fine value
  rest : next value ≡ fine sums

step-by : (step : Sums) (next : List FileCoverage → Sums) (sums : List FileCoverage) → then_by next step ≡ fine sums → Step step next sums
step-by (Ok files) next sums e = record { value = files; first = refl; rest = e }
step-by (Err why) next sums e = nothing e
  where
    nothing : {G : Type 0} → then_by next (Err why) ≡ fine sums → G
    nothing e = cc

as-mapped : (path : List ℕ) (answer : Result (List FileCoverage) RemapFault) (own : List FileCoverage) → or_unmapped path answer ≡ fine own → answer ≡ Ok own
as-mapped path (Ok files) own e = let same : files ≡ own = cc in ap Ok same
as-mapped path (Err why) own e = cc

as-merged : (answer : Result (List FileCoverage) MergeFault) (own : List FileCoverage) → or_too_large answer ≡ fine own → answer ≡ Ok own
as-merged (Ok files) own e = let same : files ≡ own = cc in ap Ok same
as-merged (Err why) own e = cc

module _ (kept : AreKept) (once : AreRemappedOnce) where
  -- a report of the runs so far, each remapped
  record Reported (runs : List (List FileCoverage)) (sums : List FileCoverage) : Type 0 where
    made_of : Report
    done : IsDone made_of
    keeps : KeepsMaps made_of
    is : made made_of ≡ Ok sums
    runs_are : runs_of made_of ≡ runs

  begins : Reported ([] ∷ []) []
  begins = record { made_of = mapped (run []); done = tt; keeps = tt; is = refl; runs_are = refl }

  goes-on : (runs : List (List FileCoverage)) (sums files own next : List FileCoverage) → Reported runs sums → remapped files ≡ Ok own → merged (sums ++ own) ≡ Ok next → Reported (runs ++ files ∷ []) next
  goes-on runs sums files own next so_far is together = record {
    made_of = both so_far.made_of (mapped (run files));
    done = (so_far.done, tt);
    keeps = (so_far.keeps, tt, λ first second a b. kept so_far.made_of (mapped (run files)) first second so_far.done tt a b);
    is = ap (λ r. and_then r (λ first. and_then (remapped files) (λ second. merged_all (first ++ second)))) so_far.is
        ∙ ap (λ r. and_then r (λ second. merged_all (sums ++ second))) is
        ∙ ap or_fault together;
    runs_are = ap (λ all. all ++ files ∷ []) so_far.runs_are;
  }

  one-more : (runs : List (List FileCoverage)) (sums : List FileCoverage) (input : Input) (next : List FileCoverage) → Reported runs sums → with_input sums input ≡ fine next → Reported (runs ++ told input ∷ []) next
  one-more runs sums input next so_far e =
      let files = step-by (read_at input.path input.found) (with_files input.path sums) next e in
      let own = step-by (remapped_at input.path files.value) (λ own. merged_or_refused (sums ++ own)) next files.rest in
      subst (λ one. Reported (runs ++ one ∷ []) next) (sym (ap or_none files.first))
      (goes-on runs sums files.value own.value next so_far (as-mapped input.path (remapped files.value) own.value own.first) (as-merged (merged (sums ++ own.value)) next own.rest))

  all : (runs : List (List FileCoverage)) (sums : List FileCoverage) (inputs : List Input) (last : List FileCoverage) → Reported runs sums → gathered sums inputs ≡ fine last → Reported (runs ++ map told inputs) last
  all runs sums [] last so_far e =
      subst (λ xs. Reported xs last) (sym (append-nil runs)) (subst (Reported runs) (same e) so_far)
    where
      same : fine sums ≡ fine last → sums ≡ last
      same e = cc
  all runs sums (input ∷ inputs) last so_far e =
      let one = step-by (with_input sums input) (λ next. gathered next inputs) last e in
      subst (λ xs. Reported xs last) (append_assoc runs (told input ∷ []) (map told inputs))
      (all (runs ++ told input ∷ []) one.value inputs last (one-more runs sums input one.value so_far one.first) one.rest)

  from_zero : (n : ℕ) → 0 + n ≡ n
  from_zero n = omega arith

  sum-map : {X Y : Type 0} (f : Y → ℕ) (g : X → Y) (xs : List X) → sum_by f (map g xs) ≡ sum_by (λ x. f (g x)) xs
  sum-map f g [] = refl
  sum-map f g (x ∷ xs) = sum_by-cons f (g x) (map g xs) ∙ ap (λ n. f (g x) + n) (sum-map f g xs) ∙ sym (sum_by-cons (λ x. f (g x)) x xs)

  any-map : {X Y : Type 0} (f : Y → Bool) (g : X → Y) (xs : List X) → list_any f (map g xs) ≡ list_any (λ x. f (g x)) xs
  any-map f g [] = refl
  any-map f g (x ∷ xs) = ap (λ b. f (g x) || b) (any-map f g xs)

  pub has_told : {T : Type 0} (sending : Sending T) → IsWholeWay sending → HasWhatIsTold sending
  has_told sending whole inputs sums e path key =
      let r = all ([] ∷ []) [] inputs sums begins e in
      let again : report r.made_of ≡ Ok sums = ap (λ x. and_then x remapped) r.is ∙ once r.made_of sums r.done r.is in
      let law = whole r.made_of sums r.keeps again path key in (
        λ place.
            law.0 place
            ∙ ap (sum_by (sent_count sending path key place)) r.runs_are
            ∙ sum_by-cons (sent_count sending path key place) [] (map told inputs)
            ∙ from_zero (sum_by (sent_count sending path key place) (map told inputs))
            ∙ sum-map (sent_count sending path key place) told inputs,
        law.1
            ∙ ap (list_any (is_sent sending path key)) r.runs_are
            ∙ any-map (is_sent sending path key) told inputs,
      )
