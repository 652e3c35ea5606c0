-- What is read, an entry at a time.
use Rattle.std.proofs.Common.{◌≡◌, ℕ, suc, Bool, true, false, ◌&&◌, ◌+◌, ◌<◌, ◌≤◌, ◌==◌, min, length, drop, get_or, arith, length-drop, append-nil, append_assoc, List, [], ◌∷◌, ◌++◌, map, Option, Some, None, subst, option_map, option_and_then, Result, Ok, Err, refl, sym, ap, ◌∙◌}
use Rattle.std.specs.Ordering.{nat_cmp}
use Rattle.std.specs.List.Sorted.{IsStrictlySortedBy}
use Rattle.std.proofs.lemmas.List.{at_drop_more}
use Rattle.cov_object.specs.Numbered.{Ascends}
use Rattle.cov_object.specs.declared.file.PathCoverage.{PathCoverage}
use Rattle.cov_object.specs.Read.{all_fit, thing_with, all_counted}
use Rattle.cov_object.specs.private.ByMember.{paths_with, all_told}

-- ---- lists that grow at their end

module _ {T E : Type 0} where
  -- these things before those of a result
  abbrev pub before : List T → Result (List T) E → Result (List T) E
  before done (Ok rest) = Ok (done ++ rest)
  before done (Err place) = Err place

-- ---- the counts of paths

-- without counts no path is counted
pub paths_with-none : (paths : List PathCoverage) → paths_with 0 paths [] ≡ Ok []
paths_with-none [] = refl
paths_with-none (path ∷ paths) = refl

-- a count that is none is the answer
pub paths_with-stop : (done : List PathCoverage) (place : ℕ) (paths : List PathCoverage) (counts : List (Option ℕ)) (path : PathCoverage) →
    place < length paths → place < length counts → get_or counts place None ≡ None → before done (paths_with place (drop place paths) (drop place counts)) ≡ Err place
paths_with-stop done place paths counts path in_paths in_counts none =
    at_drop_more (λ ps. before done (paths_with place ps (drop place counts))) paths place path in_paths
    ∙ at_drop_more (λ cs. before done (paths_with place (get_or paths place path ∷ drop (place + 1) paths) cs)) counts place None in_counts
    ∙ ap (λ c. before done (paths_with place (get_or paths place path ∷ drop (place + 1) paths) (c ∷ drop (place + 1) counts))) none

nothing_left : (place : ℕ) (paths : List PathCoverage) (counts : List (Option ℕ)) → min (length paths) (length counts) ≡ 0 → paths_with place paths counts ≡ Ok []
nothing_left place [] counts none = refl
nothing_left place (path ∷ paths) [] none = refl
nothing_left place (path ∷ paths) (count ∷ counts) none = absurd (omega arith)

-- after the last path or the last count nothing is left
pub paths_with-end : (done : List PathCoverage) (place : ℕ) (paths : List PathCoverage) (counts : List (Option ℕ)) → min (length paths) (length counts) ≤ place →
    before done (paths_with place (drop place paths) (drop place counts)) ≡ Ok done
paths_with-end done place paths counts over =
    ap (before done) (nothing_left place (drop place paths) (drop place counts) (omega (arith, length-drop place paths, length-drop place counts)))
    ∙ ap (λ ps. Ok ps) (append-nil done)

-- ---- things and their counts

never : (a b : Bool) → false ≡ (a && b && false)
never true true = refl
never true false = refl
never false b = refl

-- lists of different lengths don't fit
pub all_fit-unlike : {T C : Type 0} (fits : T → C → Bool) (things : List (ℕ × T)) (counts : List (ℕ × C)) → (length things ≡ length counts → ⊥) → false ≡ all_fit fits things counts
all_fit-unlike fits [] [] unlike = absurd (unlike refl)
all_fit-unlike fits [] (count ∷ counts) unlike = refl
all_fit-unlike fits (thing ∷ things) [] unlike = refl
all_fit-unlike fits (thing ∷ things) (count ∷ counts) unlike =
    never (thing.0 == count.0) (fits thing.1 count.1)
    ∙ ap (λ rest. (thing.0 == count.0) && fits thing.1 count.1 && rest) (all_fit-unlike fits things counts (λ e. unlike (ap suc e)))

-- ---- the things that entries tell

told-before : {T : Type 0} (things : List (ℕ × T)) (id : ℕ) (thing : T) (o : Option (List (ℕ × T))) →
    option_map (λ more. (things ++ (id, thing) ∷ []) ++ more) o ≡ option_map (λ more. things ++ more) (option_map (λ more. (id, thing) ∷ more) o)
told-before things id thing None = refl
told-before things id thing (Some more) = ap (λ ts. Some ts) (append_assoc things ((id, thing) ∷ []) more)

-- one entry more tells a thing
pub told-more : {T : Type 0} (things : List (ℕ × T)) (id : ℕ) (entry : Option T) (thing : T) (rest : List (ℕ × Option T)) → entry ≡ Some thing →
    option_map (λ more. (things ++ (id, thing) ∷ []) ++ more) (all_told rest) ≡ option_map (λ more. things ++ more) (all_told ((id, entry) ∷ rest))
told-more things id entry thing rest is =
    told-before things id thing (all_told rest)
    ∙ ap (λ e. option_map (λ more. things ++ more) (all_told ((id, e) ∷ rest))) (sym is)

-- an entry that tells none
pub told-stop : {T : Type 0} (things : List (ℕ × T)) (id : ℕ) (entry : Option T) (rest : List (ℕ × Option T)) → entry ≡ None →
    option_map (λ more. things ++ more) (all_told ((id, entry) ∷ rest)) ≡ None
told-stop things id entry rest is = ap (λ e. option_map (λ more. things ++ more) (all_told ((id, e) ∷ rest))) is

-- ---- ids

abbrev pub ids : {T : Type 0} → List (ℕ × T) → List ℕ
ids things = map (λ thing. thing.0) things

told-step : {T : Type 0} (thing : Option T) (rest : Option (List (ℕ × T))) (id : ℕ) (others : List ℕ) (found : List (ℕ × T)) →
    option_and_then (λ t. option_map (λ ts. (id, t) ∷ ts) rest) thing ≡ Some found → ((ts : List (ℕ × T)) → rest ≡ Some ts → ids ts ≡ others) → ids found ≡ id ∷ others
told-step None rest id others found e later = absurd (cc)
told-step (Some t) None id others found e later = absurd (cc)
told-step (Some t) (Some ts) id others found e later = let same : (id, t) ∷ ts ≡ found = cc in ap ids (sym same) ∙ ap (λ ns. id ∷ ns) (later ts refl)

-- what is told keeps its id
told-ids : {T : Type 0} (entries : List (ℕ × Option T)) (found : List (ℕ × T)) → all_told entries ≡ Some found → ids found ≡ ids entries
told-ids [] found e = let same : [] ≡ found = cc in ap ids (sym same)
told-ids (entry ∷ rest) found e = told-step entry.1 (all_told rest) entry.0 (ids rest) found e (told-ids rest)

counted-step : {T : Type 0} (thing : Result T (Option ℕ)) (rest : Result (List (ℕ × T)) (ℕ × Option ℕ)) (id : ℕ) (others : List ℕ) (found : List (ℕ × T)) →
    thing_with id thing rest ≡ Ok found → ((ts : List (ℕ × T)) → rest ≡ Ok ts → ids ts ≡ others) → ids found ≡ id ∷ others
counted-step (Err place) rest id others found e later = absurd (cc)
counted-step (Ok t) (Err place) id others found e later = absurd (cc)
counted-step (Ok t) (Ok ts) id others found e later = let same : (id, t) ∷ ts ≡ found = cc in ap ids (sym same) ∙ ap (λ ns. id ∷ ns) (later ts refl)

fit_rest : (a b c : Bool) → (a && b && c) ≡ true → c ≡ true
fit_rest true true c e = e
fit_rest true false c e = absurd (cc)
fit_rest false b c e = absurd (cc)

-- what is counted keeps its id
pub counted-ids : {T C : Type 0} (fits : T → C → Bool) (f : T → C → Result T (Option ℕ)) (things : List (ℕ × T)) (counts : List (ℕ × C)) (found : List (ℕ × T)) →
    all_fit fits things counts ≡ true → all_counted f things counts ≡ Ok found → ids found ≡ ids things
counted-ids fits f [] counts found fit e = let same : [] ≡ found = cc in ap ids (sym same)
counted-ids fits f (thing ∷ things) [] found fit e = absurd (cc)
counted-ids fits f (thing ∷ things) (count ∷ counts) found fit e =
    counted-step (f thing.1 count.1) (all_counted f things counts) thing.0 (ids things) found e
    (λ ts. counted-ids fits f things counts ts (fit_rest (thing.0 == count.0) (fits thing.1 count.1) (all_fit fits things counts) fit))

-- so the order of the ids stays
pub told-ascends : {T : Type 0} (entries : List (ℕ × Option T)) (found : List (ℕ × T)) → Ascends entries → all_told entries ≡ Some found → Ascends found
told-ascends entries found ascends e = subst (IsStrictlySortedBy nat_cmp) (sym (told-ids entries found e)) ascends

pub counted-ascends : {T C : Type 0} (fits : T → C → Bool) (f : T → C → Result T (Option ℕ)) (things : List (ℕ × T)) (counts : List (ℕ × C)) (found : List (ℕ × T)) →
    Ascends things → all_fit fits things counts ≡ true → all_counted f things counts ≡ Ok found → Ascends found
counted-ascends fits f things counts found ascends fit e = subst (IsStrictlySortedBy nat_cmp) (sym (counted-ids fits f things counts found fit e)) ascends
