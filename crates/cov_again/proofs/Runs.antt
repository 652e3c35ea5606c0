-- What the program in which each counted file stands rewritten does, read again: what the sources do.
use Rattle.std.proofs.Common.{◌≡◌, ℕ, suc, ◌+◌, ◌-◌, ◌^◌, ◌≤◌, List, [], ◌∷◌, length, Option, Some, None, refl, sym, ap, subst, ◌∙◌, arith, if◌then◌else◌}
use Rattle.std.specs.Prelude.{option_map, not, nat_lt, slice_get}
use Rattle.std.specs.List.{position_or_len}
use Rattle.std.specs.Str.{bytes_eq}
use Rattle.js_meaning.specs.Program.{Source, Sources, linked, uncounted, file_at}
use Rattle.js_meaning.specs.Counted.{MarksConstructs}
use Rattle.js_meaning.specs.Laws.{RunsWithoutCounting}
use Rattle.js_meaning.specs.World.{World, PlainRun, run, meaning, told, world, plainly, plain}
use Rattle.js_alike.specs.Alike.{AreAlike}
use Rattle.js_alike.proofs.Programs.{runs_plainly_alike}
use Rattle.cov_preamble.specs.Laws.{IsNew}
use Rattle.cov_rewritten.specs.Whole.{IsFresh}
use Rattle.js_suits.specs.Laws.{Readable}
use Rattle.js_suits.specs.Programs.{instrumented, Suits}
use Rattle.js_suits.specs.Settings.{Setting}
use Rattle.js_suits.proofs.Shifts.{instrumented_shifted}
use Rattle.js_suits.proofs.Silent.{silent_lengths}
use Rattle.js_suits.proofs.Standing.{stand_there}
use Rattle.js_suits.proofs.Whole.{accepted_suits, constructs_counted, shifted_numbered}
use Rattle.js_lockstep.specs.Programs.{SameRuns}
use Rattle.js_counted.specs.Files.{FileCounters}
use Rattle.js_counted.specs.Holds.{Told}
use Rattle.js_counted.specs.Program.{is_counted, preamble_codes, counted_program, counters, Prepared}
use Rattle.js_counted.proofs.Together.{silent}
use Rattle.js_counted.proofs.Runs.{counters_run}
use Rattle.cov_suits.specs.Suited.{own_name}
use Rattle.cov_suits.proofs.Prelude.{prelude_readable}
use Rattle.cov_counted.specs.Accepted.{Content, AreAccepted, HaveLiterals, files_of}
use Rattle.cov_again.specs.Replaced.{replaced_sources, replaced}
use Rattle.cov_again.proofs.Linked.{links_replaced}

none_some : {A : Type 0} {a : A} → None ≡ Some a → ⊥
none_some e = cc

one_there : {A : Type 0} {a b : A} → Some a ≡ Some b → a ≡ b
one_there e = cc

-- ---- by paths

place_same : (content : ℕ → Content) (path : List ℕ) (file : ℕ) (xs : List Source) →
    position_or_len (λ source. bytes_eq source.path path) (replaced_sources content file xs) ≡ position_or_len (λ source. bytes_eq source.path path) xs
place_same content path file [] = refl
place_same content path file (x ∷ xs) = ap (λ n. if not (bytes_eq x.path path) then 1 + n else 0) (place_same content path (suc file) xs)

as_many : (content : ℕ → Content) (file : ℕ) (xs : List Source) → length (replaced_sources content file xs) ≡ length xs
as_many content file [] = refl
as_many content file (x ∷ xs) = ap (λ n. suc n) (as_many content (suc file) xs)

file_found : (content : ℕ → Content) (p : Sources) (path : List ℕ) → file_at (replaced content p) path ≡ file_at p path
file_found content p path =
    ap (λ n. if nat_lt n (length (replaced content p).files) then Some n else None) (place_same content path 0 p.files)
    ∙ ap (λ l. if nat_lt (position_or_len (λ (source : Source). bytes_eq source.path path) p.files) l
    then Some (position_or_len (λ (source : Source). bytes_eq source.path path) p.files) else None) (as_many content 0 p.files)

-- ---- the program suits its counters

fresh_name : IsNew → (o : Option Source) (source : Source) → o ≡ Some source → IsFresh (own_name o) source.tree
fresh_name new o source e = subst (λ x. IsFresh (own_name x) source.tree) (sym e) (new source.path source.tree)

-- with so many steps, a run without counting ends as one with counting does, prints what that prints, and its heap is as it is told
pub record DoesAs (files : ℕ → FileCounters) (p : Sources) (n : ℕ) (w : World) (r : PlainRun) : Type 0 where
  pub short : length w.log ≤ n
  pub end : r.end ≡ w.end
  pub output : r.store.output ≡ w.output
  pub told : Told files (is_counted p) w.log w.started r.store.heap

module _ (content : ℕ → Content) (p : Sources) (literals : HaveLiterals content p) where
  abbrev files : ℕ → FileCounters
  files = files_of content p literals

  abbrev c : Setting
  c = counters files p

  pub suits : MarksConstructs → IsNew → AreAccepted content p → Suits (counters (files_of content p literals) p) (linked p)
  suits marks new accepted =
      let added = preamble_codes files in
      let same = silent_lengths c added (silent files p) in
      accepted_suits marks c p (λ file source e. ((content file).bytes, accepted.files file source e)) (subst Readable (sym accepted.prelude) prelude_readable)
      (constructs_counted c p (λ m h. h) (λ file source e counted. fresh_name new (slice_get p.files file) source e))
      (shifted_numbered c (linked p) (instrumented c (linked p)) added (instrumented_shifted c (linked p) added same (λ h. refl) (stand_there c (linked p) added same)))

  -- each entry was a step
  entries_short : RunsWithoutCounting → (file n : ℕ) → length (meaning p file n).store.log ≤ n
  entries_short less file n = let h = (less p file n).0 in omega (arith, h)

  does_as : RunsWithoutCounting → (file n : ℕ) → SameRuns c (run (linked p) file n) (run (counted_program files p) file n) → DoesAs files p n (told (meaning p file n)) (plainly (run (counted_program files p) file n))
  does_as less file n s = record { short = entries_short less file n; end = sym s.ends; output = sym s.output; told = s.counted }

  abbrev q : Sources
  q = replaced content p

  -- of the file that has the path
  at_file : (file n : ℕ) → plainly (meaning (uncounted q) file n) ≡ plainly (run (counted_program files p) file n)
  at_file file n = ap (λ (s : Sources). plainly (run s file n)) (links_replaced content p literals)

  abbrev pub Run : (r : Sources) → (path : List ℕ) → (n : ℕ) → (w : World) → Type 0
  Run r path n w = (run : PlainRun) × (plain r path n ≡ Some run) × DoesAs files p n w run

  by_file : RunsWithoutCounting → (r : Sources) → AreAlike r q → (path : List ℕ) (n : ℕ) (o : Option ℕ) → file_at p path ≡ o →
      ((file : ℕ) → SameRuns c (run (linked p) file n) (run (counted_program files p) file n)) → (w : World) → option_map (λ file. told (meaning p file n)) o ≡ Some w → Run r path n w
  by_file less r alike path n None at same w e = absurd (none_some e)
  by_file less r alike path n (Some file) at same w e =
      subst (λ v. Run r path n v) (one_there e) (
        plainly (run (counted_program files p) file n),
        runs_plainly_alike r q alike path n
            ∙ ap (λ o. option_map (λ file. plainly (meaning (uncounted q) file n)) o) (file_found content p path ∙ at)
            ∙ ap Some (at_file file n),
        does_as less file n (same file),
      )

  pub runs : MarksConstructs → RunsWithoutCounting → IsNew → AreAccepted content p → Prepared (files_of content p literals) p → (r : Sources) → AreAlike r (replaced content p) → (path : List ℕ) (n : ℕ) → n ≤ 2 ^ 53 - 1 →
      (w : World) → world p path n ≡ Some w → Run r path n w
  runs marks less new accepted prepared r alike path n room w e =
      let su = suits marks new accepted in
      by_file less r alike path n (file_at p path) refl (λ file. counters_run files p prepared su file n room) w e
