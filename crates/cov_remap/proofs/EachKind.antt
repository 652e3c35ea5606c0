-- The laws for statements, functions and branches.
use Rattle.std.proofs.Common.{◌≡◌, ℕ, ◌+◌, ◌||◌, false, List, Ok}
use Rattle.cov_object.specs.declared.file.FileCoverage.{FileCoverage}
use Rattle.cov_merge.specs.Maps.{merged}
use Rattle.cov_merge.specs.Laws.{IsSummed, HasTheirKeys, AreSummed, HaveTheirKeys, AreByPath, AreMergedOnce}
use Rattle.cov_remap.specs.Sent.{Sending, sending_statements, sending_functions, sending_branches}
use Rattle.cov_remap.specs.Laws.{IsRemapped, IsWholeWay, IsOrderFree, IsEarly, HaveOneMap}
use Rattle.cov_remap.proofs.Totals.{adding, testing}
use Rattle.cov_remap.proofs.Spread.{IsAlone, AreOwn, statements_alone, functions_alone, branches_alone, own_statements, own_functions, own_branches}
use Rattle.cov_remap.proofs.Merged as merged
use Rattle.cov_remap.proofs.Whole as whole
use Rattle.cov_remap.proofs.Once.{remapped_stays}
use Rattle.cov_remap.proofs.Exact.{IsSendable, statements_sendable, functions_sendable, branches_sendable}
use Rattle.cov_remap.proofs.Early.{same_count, same_sent}
use Rattle.cov_remap.proofs.Reports as reports

pub record Laws {T : Type 0} (sending : Sending T) : Type 0 where
  pub remapped : IsRemapped sending
  pub runs : IsWholeWay sending
  pub order : IsOrderFree sending
  pub early : IsEarly sending

module _ {T : Type 0} (sending : Sending T) (alone : IsAlone sending) (able : IsSendable sending)
    (sums_own : (path : List ℕ) (w : T → ℕ) → AreOwn 0 (λ a b. a + b) adding sending alone w path)
    (tests_own : (path : List ℕ) (w : T → Rattle.std.proofs.Common.Bool) → AreOwn false (λ a b. a || b) testing sending alone w path)
    (summed : IsSummed sending.kind) (keys : HasTheirKeys sending.kind) (own : merged.HasOwn sending.kind) (by_path : AreByPath) (again : AreMergedOnce) where
  keeps : (files sums : List FileCoverage) → merged files ≡ Ok sums → HaveOneMap files → reports.SendAlike sending files sums
  keeps files sums ok maps path key = (
    λ place. same_count sending able summed keys own by_path again files sums ok maps path key place,
    same_sent sending able summed keys own by_path again files sums ok maps path key,
  )

  laws_of : Laws sending
  laws_of =
      let is_spread = whole.is_spread sending alone sums_own tests_own summed keys own by_path again in
      let is_remapped = whole.is_remapped sending alone sums_own tests_own summed keys own by_path again in
      let stays = remapped_stays by_path again in
      record {
        remapped = is_remapped;
        runs = reports.is_whole_way sending is_spread is_remapped stays keeps;
        order = reports.is_order_free sending is_spread is_remapped stays keeps;
        early = reports.is_early sending is_spread is_remapped stays keeps;
      }

module _ (summed : AreSummed) (keys : HaveTheirKeys) (by_path : AreByPath) (again : AreMergedOnce) where
  pub for_statements : Laws sending_statements
  for_statements =
      laws_of sending_statements statements_alone statements_sendable (λ path w. own_statements 0 (λ a b. a + b) adding path w) (λ path w. own_statements false (λ a b. a || b) testing path w)
      summed.0 keys.0 merged.own_statements by_path again

  pub for_functions : Laws sending_functions
  for_functions =
      laws_of sending_functions functions_alone functions_sendable (λ path w. own_functions 0 (λ a b. a + b) adding path w) (λ path w. own_functions false (λ a b. a || b) testing path w)
      summed.1 keys.1 merged.own_functions by_path again

  pub for_branches : Laws sending_branches
  for_branches =
      laws_of sending_branches branches_alone branches_sendable (λ path w. own_branches 0 (λ a b. a + b) adding path w) (λ path w. own_branches false (λ a b. a || b) testing path w)
      summed.2 keys.2 merged.own_branches by_path again
