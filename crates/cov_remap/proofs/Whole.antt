-- What is remapped has at each key what is sent there.
use Rattle.std.proofs.Common.{◌≡◌, ℕ, ◌+◌, ◌||◌, ◌&&◌, Bool, true, false, cond, List, Option, Some, None, Result, Ok, Err, refl, sym, ap, ◌∙◌}
use Rattle.cov_object.specs.declared.file.FileCoverage.{FileCoverage}
use Rattle.cov_merge.specs.declared.fault.MergeFault.{MergeFault}
use Rattle.cov_merge.specs.declared.fault.MergeFault.TheVariants as merge
use Rattle.cov_merge.specs.Same.{same_text}
use Rattle.cov_merge.specs.Entries.{entries_of}
use Rattle.cov_merge.specs.Maps.{merged}
use Rattle.cov_merge.specs.Laws.{count_at, IsSummed, HasTheirKeys, with_path, AreByPath, AreMergedOnce}
use Rattle.cov_remap.specs.Sent.{Sending}
use Rattle.cov_remap.specs.Remapped.{and_then, spread_all, or_too_large, merged_all}
use Rattle.cov_remap.specs.Laws.{count_in, has_in, goes, is_at, count_there, sent_from, sent_count, sends_from, is_sent, HasWhatIsSent, IsRemapped}
use Rattle.cov_remap.proofs.Totals.{total, total-same, adding, testing}
use Rattle.cov_remap.proofs.Spread.{IsAlone, AreOwn, reads-all, there, goes_there, spread-all, not_fine, same-fine, Answer, fine}
use Rattle.cov_remap.proofs.Merged.{at_key, count-total, any-total, sum-total, HasOwn, counts-merged, keys-merged}

-- ---- answers

-- what goes before a value that was found
pub record Step (r : Answer (List FileCoverage)) (next : List FileCoverage → Answer (List FileCoverage)) (sums : List FileCoverage) : Type 0 where
  pub value : List FileCoverage
  pub first : r ≡ fine value
  pub rest : next value ≡ fine sums

pub step : (r : Answer (List FileCoverage)) (next : List FileCoverage → Answer (List FileCoverage)) (sums : List FileCoverage) → and_then r next ≡ fine sums → Step r next sums
step (Err why) next sums ok = not_fine why sums ok
step (Ok value) next sums ok = record { value = value; first = refl; rest = ok }

abbrev good : List FileCoverage → Result (List FileCoverage) MergeFault
good files = Ok files

merged-by : (r : Result (List FileCoverage) MergeFault) (sums : List FileCoverage) → or_too_large r ≡ fine sums → r ≡ good sums
merged-by (Ok files) sums ok = ap (λ x. good x) (same-fine files sums ok)
merged-by (Err (merge.CountTooLarge key sum)) sums ok = not_fine _ sums ok
merged-by (Err merge.Memory) sums ok = not_fine _ sums ok

pub is_merged : (files sums : List FileCoverage) → merged_all files ≡ fine sums → merged files ≡ good sums
is_merged files sums ok = merged-by (merged files) sums ok

-- ---- one kind

cond-and : (a b : Bool) (n : ℕ) → cond (a && b) n 0 ≡ cond a (cond b n 0) 0
cond-and true b n = refl
cond-and false b n = refl

and-cond : (a b : Bool) → (a && b) ≡ cond a b false
and-cond true b = refl
and-cond false b = refl

module _ {T : Type 0} (sending : Sending T) (alone : IsAlone sending)
    (sums_own : (path : List ℕ) (w : T → ℕ) → AreOwn 0 (λ a b. a + b) adding sending alone w path)
    (tests_own : (path : List ℕ) (w : T → Bool) → AreOwn false (λ a b. a || b) testing sending alone w path)
    (summed : IsSummed sending.kind) (keys : HasTheirKeys sending.kind) (own : HasOwn sending.kind) (by_path : AreByPath) (again : AreMergedOnce) where
  abbrev Sums : {X : Type 0} → (X → ℕ) → List X → ℕ
  Sums f xs = total 0 (λ a b. a + b) f xs

  abbrev Tests : {X : Type 0} → (X → Bool) → List X → Bool
  Tests f xs = total false (λ a b. a || b) f xs

  -- ---- what is sent to a key

  there-count : (path : List ℕ) (key : T) (place : ℕ) (o : Option (List ℕ × T)) → there 0 (λ a b. a + b) adding sending.kind (at_key sending.kind key place) path o ≡ count_there sending.kind path key place o
  there-count path key place None = refl
  there-count path key place (Some to) = sym (cond-and (same_text path to.0) (sending.kind.same to.1 key) (count_at place (sending.kind.counts to.1)))

  there-has : (path : List ℕ) (key : T) (o : Option (List ℕ × T)) → there false (λ a b. a || b) testing sending.kind (λ e. sending.kind.same e key) path o ≡ is_at sending.kind path key o
  there-has path key None = refl
  there-has path key (Some to) = sym (and-cond (same_text path to.0) (sending.kind.same to.1 key))

  spread-count : (files all : List FileCoverage) → spread_all files ≡ fine all → (path : List ℕ) (key : T) (place : ℕ) → count_in sending.kind path key place all ≡ sent_count sending path key place files
  spread-count files all ok path key place =
      count-total sending.kind key place (entries_of sending.kind (with_path path all))
      ∙ reads-all 0 (λ a b. a + b) adding sending.kind (at_key sending.kind key place) path all
      ∙ spread-all 0 (λ a b. a + b) adding sending alone (at_key sending.kind key place) path (sums_own path (at_key sending.kind key place)) files all ok
      ∙ total-same 0 (λ a b. a + b) adding (goes_there 0 (λ a b. a + b) adding sending alone (at_key sending.kind key place) path) (sent_from sending path key place) each files
      ∙ sym (sum-total (sent_from sending path key place) files)
    where
      each : (file : FileCoverage) → goes_there 0 (λ a b. a + b) adding sending alone (at_key sending.kind key place) path file ≡ sent_from sending path key place file
      each file =
          total-same 0 (λ a b. a + b) adding _ (λ entry. count_there sending.kind path key place (goes sending file entry.1)) (λ entry. there-count path key place (goes sending file entry.1)) (sending.kind.entries file)
          ∙ sym (sum-total (λ entry. count_there sending.kind path key place (goes sending file entry.1)) (sending.kind.entries file))

  spread-has : (files all : List FileCoverage) → spread_all files ≡ fine all → (path : List ℕ) (key : T) → has_in sending.kind path key all ≡ is_sent sending path key files
  spread-has files all ok path key =
      any-total (λ e. sending.kind.same e key) (entries_of sending.kind (with_path path all))
      ∙ reads-all false (λ a b. a || b) testing sending.kind (λ e. sending.kind.same e key) path all
      ∙ spread-all false (λ a b. a || b) testing sending alone (λ e. sending.kind.same e key) path (tests_own path (λ e. sending.kind.same e key)) files all ok
      ∙ total-same false (λ a b. a || b) testing (goes_there false (λ a b. a || b) testing sending alone (λ e. sending.kind.same e key) path) (sends_from sending path key) each files
      ∙ sym (any-total (sends_from sending path key) files)
    where
      each : (file : FileCoverage) → goes_there false (λ a b. a || b) testing sending alone (λ e. sending.kind.same e key) path file ≡ sends_from sending path key file
      each file =
          total-same false (λ a b. a || b) testing _ (λ entry. is_at sending.kind path key (goes sending file entry.1)) (λ entry. there-has path key (goes sending file entry.1)) (sending.kind.entries file)
          ∙ sym (any-total (λ entry. is_at sending.kind path key (goes sending file entry.1)) (sending.kind.entries file))

  pub is_spread : (files all : List FileCoverage) → spread_all files ≡ fine all → HasWhatIsSent sending files all
  is_spread files all ok path key = (λ place. spread-count files all ok path key place, spread-has files all ok path key)

  pub is_remapped : IsRemapped sending
  is_remapped files all ok path key =
      let one = step (spread_all files) merged_all all ok in
      let is = is_merged one.value all one.rest in (
        λ place. counts-merged sending.kind summed keys own by_path again one.value all is path key place ∙ spread-count files one.value one.first path key place,
        keys-merged sending.kind summed keys own by_path again one.value all is path key ∙ spread-has files one.value one.first path key,
      )
