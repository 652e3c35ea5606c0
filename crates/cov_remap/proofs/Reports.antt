-- The laws of reports: what runs send to a key stays the same when they are merged and when they are remapped.
use Rattle.std.proofs.Common.{◌≡◌, ℕ, ◌+◌, ◌||◌, Bool, true, false, nat_lt, cond, List, [], ◌∷◌, ◌++◌, Ok, refl, sym, ap, ◌∙◌, arith, lt-ltb}
use Rattle.std.specs.List.{list_any, sum_by}
use Rattle.std.proofs.lemmas.List.Sorted.{sum_by-IsPermutation}
use Rattle.std.proofs.lemmas.List.Folds.{list_any-append}
use Rattle.std.proofs.lemmas.List.Sums.{sum_by-append, sum_by-cons}
use Rattle.cov_object.specs.declared.file.FileCoverage.{FileCoverage}
use Rattle.cov_merge.specs.Maps.{merged}
use Rattle.cov_remap.specs.Sent.{Sending}
use Rattle.cov_remap.specs.Remapped.{and_then, spread_all, merged_all, remapped}
use Rattle.cov_remap.specs.Laws.{sent_from, sent_count, sends_from, is_sent, HasWhatIsSent, IsRemapped, Report, run, both, mapped, made, runs_of, files_of, HaveOneMap, KeepsMaps, IsWholeWay, IsOrderFree, IsEarly}
use Rattle.cov_remap.proofs.Spread.{fine, same-fine}
use Rattle.cov_remap.proofs.Whole.{step, is_merged}

from_zero : (n : ℕ) → 0 + n ≡ n
from_zero n = omega arith

or_nothing : (b : Bool) → (b || false) ≡ b
or_nothing true = refl
or_nothing false = refl

-- ---- whether some test holds, by a sum

positive-by : (b : Bool) (n : ℕ) → (b || nat_lt 0 n) ≡ nat_lt 0 (cond b 1 0 + n)
positive-by true n = sym (lt-ltb 0 (1 + n) (omega arith))
positive-by false n = ap (nat_lt 0) (sym (from_zero n))

any-positive : {X : Type 0} (p : X → Bool) (xs : List X) → list_any p xs ≡ nat_lt 0 (sum_by (λ x. cond (p x) 1 0) xs)
any-positive p [] = refl
any-positive p (x ∷ xs) =
    ap (λ b. p x || b) (any-positive p xs) ∙ positive-by (p x) (sum_by (λ x. cond (p x) 1 0) xs) ∙ ap (nat_lt 0) (sym (sum_by-cons (λ x. cond (p x) 1 0) x xs))

-- two lists of files send the same to each key
abbrev pub SendAlike : {T : Type 0} → Sending T → List FileCoverage → List FileCoverage → Type 0
SendAlike {T} sending files others = (path : List ℕ) (key : T) →
    ((place : ℕ) → sent_count sending path key place files ≡ sent_count sending path key place others) × (is_sent sending path key files ≡ is_sent sending path key others)

module _ {T : Type 0} (sending : Sending T)
    (is_spread : (files all : List FileCoverage) → spread_all files ≡ fine all → HasWhatIsSent sending files all)
    (is_remapped : IsRemapped sending)
    (stays : (files sums : List FileCoverage) → remapped files ≡ fine sums → spread_all sums ≡ fine sums)
    (keeps : (files sums : List FileCoverage) → merged files ≡ Ok sums → HaveOneMap files → SendAlike sending files sums) where
  -- files send to each key what these runs send there
  abbrev SendAll : List FileCoverage → List (List FileCoverage) → Type 0
  SendAll files runs = (path : List ℕ) (key : T) →
      ((place : ℕ) → sent_count sending path key place files ≡ sum_by (sent_count sending path key place) runs) × (is_sent sending path key files ≡ list_any (is_sent sending path key) runs)

  one-run : (files all : List FileCoverage) → files ≡ all → SendAll all (files ∷ [])
  one-run files all same path key = (
    λ place. ap (sent_count sending path key place) (sym same) ∙ sym (from_zero (sent_count sending path key place files)),
    ap (is_sent sending path key) (sym same) ∙ sym (or_nothing (is_sent sending path key files)),
  )

  both-runs : (first second all : List FileCoverage) (runs others : List (List FileCoverage)) → SendAlike sending (first ++ second) all → SendAll first runs → SendAll second others → SendAll all (runs ++ others)
  both-runs first second all runs others alike a b path key = (
    λ place.
        sym ((alike path key).0 place)
        ∙ sum_by-append (sent_from sending path key place) first second
        ∙ ap (λ n. n + sent_count sending path key place second) ((a path key).0 place)
        ∙ ap (λ n. sum_by (sent_count sending path key place) runs + n) ((b path key).0 place)
        ∙ sym (sum_by-append (sent_count sending path key place) runs others),
    sym (alike path key).1
        ∙ list_any-append (sends_from sending path key) first second
        ∙ ap (λ n. n || is_sent sending path key second) (a path key).1
        ∙ ap (λ n. list_any (is_sent sending path key) runs || n) (b path key).1
        ∙ sym (list_any-append (is_sent sending path key) runs others),
  )

  mapped-runs : (files all : List FileCoverage) (runs : List (List FileCoverage)) → remapped files ≡ fine all → SendAll files runs → SendAll all runs
  mapped-runs files all runs ok a path key =
      let own = is_spread all all (stays files all ok) path key in
      let from = is_remapped files all ok path key in (
        λ place. sym (own.0 place) ∙ from.0 place ∙ (a path key).0 place,
        sym own.1 ∙ from.1 ∙ (a path key).1,
      )

  send-all : (r : Report) (all : List FileCoverage) → KeepsMaps r → made r ≡ fine all → SendAll all (runs_of r)
  send-all (run files) all keep ok = one-run files all (same-fine files all ok)
  send-all (mapped r) all keep ok =
      let one = step (made r) remapped all ok in
      mapped-runs one.value all (runs_of r) one.rest (send-all r one.value keep one.first)
  send-all (both r s) all keep ok =
      let one = step (made r) (λ first. and_then (made s) (λ second. merged_all (first ++ second))) all ok in
      let two = step (made s) (λ second. merged_all (one.value ++ second)) all one.rest in
      both-runs one.value two.value all (runs_of r) (runs_of s)
      (keeps (one.value ++ two.value) all (is_merged (one.value ++ two.value) all two.rest) (keep.2 one.value two.value one.first two.first))
      (send-all r one.value keep.0 one.first) (send-all s two.value keep.1 two.first)

  pub is_whole_way : IsWholeWay sending
  is_whole_way r all keep ok path key =
      let one = step (made r) remapped all ok in
      let from = is_remapped one.value all one.rest path key in
      let runs = send-all r one.value keep one.first path key in
      (λ place. from.0 place ∙ runs.0 place, from.1 ∙ runs.1)

  -- ---- any order

  pub is_order_free : IsOrderFree sending
  is_order_free r s a b keep keeps same first second path key =
      let left = is_whole_way r a keep first path key in
      let right = is_whole_way s b keeps second path key in (
        λ place. left.0 place ∙ sym (sum_by-IsPermutation (sent_count sending path key place) (runs_of r) (runs_of s) same) ∙ sym (right.0 place),
        left.1
            ∙ any-positive (is_sent sending path key) (runs_of r)
            ∙ ap (nat_lt 0) (sym (sum_by-IsPermutation (λ x. cond (is_sent sending path key x) 1 0) (runs_of r) (runs_of s) same))
            ∙ sym (any-positive (is_sent sending path key) (runs_of s))
            ∙ sym right.1,
      )

  -- ---- all at once

  sent-runs : (path : List ℕ) (key : T) (place : ℕ) (r : Report) → sum_by (sent_count sending path key place) (runs_of r) ≡ sent_count sending path key place (files_of r)
  sent-runs path key place (run files) = from_zero (sent_count sending path key place files)
  sent-runs path key place (mapped r) = sent-runs path key place r
  sent-runs path key place (both r s) =
      sum_by-append (sent_count sending path key place) (runs_of r) (runs_of s)
      ∙ ap (λ n. n + sum_by (sent_count sending path key place) (runs_of s)) (sent-runs path key place r)
      ∙ ap (λ n. sent_count sending path key place (files_of r) + n) (sent-runs path key place s)
      ∙ sym (sum_by-append (sent_from sending path key place) (files_of r) (files_of s))

  sends-runs : (path : List ℕ) (key : T) (r : Report) → list_any (is_sent sending path key) (runs_of r) ≡ is_sent sending path key (files_of r)
  sends-runs path key (run files) = or_nothing (is_sent sending path key files)
  sends-runs path key (mapped r) = sends-runs path key r
  sends-runs path key (both r s) =
      list_any-append (is_sent sending path key) (runs_of r) (runs_of s)
      ∙ ap (λ n. n || list_any (is_sent sending path key) (runs_of s)) (sends-runs path key r)
      ∙ ap (λ n. is_sent sending path key (files_of r) || n) (sends-runs path key s)
      ∙ sym (list_any-append (sends_from sending path key) (files_of r) (files_of s))

  pub is_early : IsEarly sending
  is_early r sums a b keep maps ok first second path key =
      let left = is_remapped sums a first path key in
      let alike = keeps (files_of r) sums ok maps path key in
      let right = is_whole_way r b keep second path key in (
        λ place. left.0 place ∙ sym (alike.0 place) ∙ sym (sent-runs path key place r) ∙ sym (right.0 place),
        left.1 ∙ sym alike.1 ∙ sym (sends-runs path key r) ∙ sym right.1,
      )
