-- What one step answers, and what that makes of the files so far.
use Rattle.std.proofs.Common.{◌≡◌, ◌≢◌, ℕ, List, [], ◌∷◌, ◌++◌, map, Option, Some, None, refl, sym, ap, ◌∙◌, subst}
use Rattle.std.specs.Prelude.{Result, Ok, Err, IfSome}
use Rattle.std.proofs.lemmas.List.{map-append}
use Rattle.std.specs.Prelude.{Vec, option_map}
use Rattle.std.specs.declared.alloc.Global.{Global}
use Rattle.cov_base.specs.Store.{Held, ReadsHeld}
use Rattle.cov_object.specs.declared.file.FileCoverage.{FileCoverage}
use Rattle.cov_object.specs.declared.fault.CoverageFault.{CoverageFault}
use Rattle.cov_object.specs.declared.fault.CoverageFault.TheVariants as unread
use Rattle.source_map.specs.declared.fault.MapFault.{MapFault}
use Rattle.cov_remap.specs.declared.fault.RemapFault.{RemapFault}
use Rattle.cov_remap.specs.declared.fault.RemapFault.TheVariants as remap
use Rattle.cov_remap.specs.Remapped.{remapped}
use Rattle.cov_remap.specs.Laws.{run, mapped, AreMerged}
use Rattle.cov_inputs.specs.Inputs.{Input, Sums, AreRead, HaveSums, IsCause, gathered, map_refusal, merged_or_refused, or_refused, or_too_large, or_unmapped, read_from, refusal_of, remapped_at, then_by, with_files, with_input}
use Rattle.cov_inputs.specs.declared.fault.InputFault.{InputFault}
use Rattle.cov_inputs.specs.declared.fault.InputFault.TheVariants.{Refused, ReadFailed, Memory}
use Rattle.cov_inputs.specs.private.Answer.{Answers, AnswersAt, Holds, IsRefusal}

-- ---- one file

-- a refusal that the definition gives
told : (path : List ℕ) (read : Result (List FileCoverage) CoverageFault) (why : CoverageFault) (fault : InputFault) →
    read ≡ Err why → IsRefusal fault (refusal_of path why) → Answers (Err fault) (or_refused path read)
told path read why (Refused refusal) e is = ap (or_refused path) e ∙ ap Err (sym is)
told path read why (ReadFailed at) e is = absurd is
told path read why Memory e is = tt

-- a refusal of bytes is that of the definition
pub refuses : (path : List ℕ) (read : Result (List FileCoverage) CoverageFault) (why : CoverageFault) (fault : InputFault) →
    (why ≢ unread.Memory → read ≡ Err why) → IsRefusal fault (refusal_of path why) → (why ≡ unread.Memory → fault ≡ Memory) → Answers (Err fault) (or_refused path read)
refuses path read unread.Memory fault says is memory = subst (λ f. Answers (Err f) (or_refused path read)) (sym (memory refl)) tt
refuses path read unread.TooLong fault says is memory = told path read unread.TooLong fault (says (λ e. cc)) is
refuses path read unread.BadJson fault says is memory = told path read unread.BadJson fault (says (λ e. cc)) is
refuses path read (unread.BadMember at name) fault says is memory = told path read (unread.BadMember at name) fault (says (λ e. cc)) is
refuses path read (unread.Count at name) fault says is memory = told path read (unread.Count at name) fault (says (λ e. cc)) is

-- what a read gives is what is held, where the store tells
pub holds_of : (held : Option Held) (path bytes : List ℕ) (read : Option (Vec ℕ Global)) (vec : Vec ℕ Global) → ReadsHeld held path (Ok read) → read ≡ Some vec → bytes ≡ vec.items → Holds held path (Some bytes)
holds_of None path bytes read vec is some same = tt
holds_of (Some at) path bytes read vec is some same = sym is ∙ ap (option_map (λ (v : Vec ℕ Global). v.items)) some ∙ ap Some (sym same)

-- what is answered for the bytes that a store holds is answered for its path
pub answers_at : (held : Option Held) (sums : List FileCoverage) (path : List ℕ) (found : Option (List ℕ)) → Holds held path found →
    (result : Result (List FileCoverage) InputFault) → Answers result (with_input sums (record { path = path; found = found })) → AnswersAt held sums path result
answers_at held sums path found holds (Ok files) is = (found, holds, is)
answers_at held sums path found holds (Err (Refused why)) is = (found, holds, is)
answers_at held sums path found holds (Err (ReadFailed at)) is = absurd is
answers_at held sums path found holds (Err Memory) is = tt

-- what is remapped is that of the definition
pub as_mapped : (path : List ℕ) (answer : Result (List FileCoverage) RemapFault) (own : List FileCoverage) → or_unmapped path answer ≡ Ok own → answer ≡ Ok own
as_mapped path (Ok files) own e = let same : files ≡ own = cc in ap Ok same
as_mapped path (Err why) own e = cc

-- the sums of a first file are its own
pub first_sums : AreMerged → (path : List ℕ) (sums files own : List FileCoverage) → sums ≡ [] → remapped_at path files ≡ Ok own → with_files path sums files ≡ Ok own
first_sums once path sums files own none is =
    ap (then_by (λ some. merged_or_refused (sums ++ some))) is
    ∙ ap (λ before. merged_or_refused (before ++ own)) none
    ∙ ap or_too_large (once (mapped (run files)) own tt (as_mapped path (remapped files) own is))

-- a refusal of a map is that of the definition
pub refuses_map : (path : List ℕ) (answer : Result (List FileCoverage) RemapFault) (file : List ℕ) (why : MapFault) (fault : InputFault) → answer ≡ Err (remap.BadMap file why) →
    IsRefusal fault (map_refusal path why) → Answers (Err fault) (or_unmapped path answer)
refuses_map path answer file why (Refused refusal) e is = ap (or_unmapped path) e ∙ ap Err (sym is)
refuses_map path answer file why (ReadFailed at) e is = absurd is
refuses_map path answer file why Memory e is = tt

-- ---- the files so far

gathered_more : (sums : List FileCoverage) (inputs more : List Input) → gathered sums (inputs ++ more) ≡ then_by (λ next. gathered next more) (gathered sums inputs)
gathered_more sums [] more = refl
gathered_more sums (input ∷ inputs) more = by_step (with_input sums input) (λ next. gathered_more next inputs more)
  where
    by_step : (step : Sums) → ((next : List FileCoverage) → gathered next (inputs ++ more) ≡ then_by (λ after. gathered after more) (gathered next inputs)) →
        then_by (λ next. gathered next (inputs ++ more)) step ≡ then_by (λ next. gathered next more) (then_by (λ next. gathered next inputs) step)
    by_step (Ok next) on = on next
    by_step (Err why) on = refl

-- what a store would give for paths, where it tells; else none
abbrev unread_inputs : Option Held → List (List ℕ) → List Input
unread_inputs (Some at) files = read_from at files
unread_inputs None files = map (λ file. record { path = file; found = None }) files

paths_of : (held : Option Held) (files : List (List ℕ)) → map (λ (input : Input). input.path) (unread_inputs held files) ≡ files
paths_of (Some at) [] = refl
paths_of (Some at) (file ∷ files) = ap (λ rest. file ∷ rest) (paths_of (Some at) files)
paths_of None [] = refl
paths_of None (file ∷ files) = ap (λ rest. file ∷ rest) (paths_of None files)

module _ (held : Option Held) where
  -- what was read of the first, of one more, and what would be of the rest
  are_read : (first rest : List (List ℕ)) (path : List ℕ) (found : Option (List ℕ)) (inputs : List Input) → AreRead held first inputs → Holds held path found →
      AreRead held (first ++ path ∷ rest) (inputs ++ record { path = path; found = found } ∷ unread_inputs held rest)
  are_read first rest path found inputs read holds = record {
    paths = map-append (λ (input : Input). input.path) inputs (record { path = path; found = found } ∷ unread_inputs held rest)
        ∙ ap (λ names. names ++ path ∷ map (λ (input : Input). input.path) (unread_inputs held rest)) read.paths
        ∙ ap (λ names. first ++ path ∷ names) (paths_of held rest);
    held = by_told held read.held holds;
  }
    where
      by_told : (told : Option Held) → IfSome told (λ at. inputs ≡ read_from at first) → Holds told path found →
          IfSome told (λ at. inputs ++ record { path = path; found = found } ∷ unread_inputs told rest ≡ read_from at (first ++ path ∷ rest))
      by_told None same there = tt
      by_told (Some at) same there =
          ap (λ seen. seen ++ record { path = path; found = found } ∷ read_from at rest) same
          ∙ ap (λ here. read_from at first ++ record { path = path; found = here } ∷ read_from at rest) (sym there)
          ∙ sym (map-append (λ file. record { path = file; found = at file }) first (path ∷ rest))

  one_more : (first rest : List (List ℕ)) (path : List ℕ) (found : Option (List ℕ)) (sums : List FileCoverage) (have : HaveSums held first sums) →
      gathered [] (have.inputs ++ record { path = path; found = found } ∷ unread_inputs held rest)
      ≡ then_by (λ next. gathered next (unread_inputs held rest)) (with_input sums (record { path = path; found = found }))
  one_more first rest path found sums have =
      gathered_more [] have.inputs (record { path = path; found = found } ∷ unread_inputs held rest)
      ∙ ap (then_by (λ next. gathered next (record { path = path; found = found } ∷ unread_inputs held rest))) have.are

  -- one file more has sums
  pub goes_on : (first : List (List ℕ)) (path : List ℕ) (sums next : List FileCoverage) → HaveSums held first sums → AnswersAt held sums path (Ok next) → HaveSums held (first ++ path ∷ []) next
  goes_on first path sums next have answers = record {
    inputs = have.inputs ++ record { path = path; found = answers.0 } ∷ unread_inputs held [];
    read = are_read first [] path answers.0 have.inputs have.read answers.1;
    are = one_more first [] path answers.0 sums have ∙ ap (then_by (λ next. gathered next (unread_inputs held []))) answers.2 ∙ ends held;
  }
    where
      ends : (told : Option Held) → gathered next (unread_inputs told []) ≡ Ok next
      ends None = refl
      ends (Some at) = refl

  -- or is refused, or isn't read
  pub stops : (first rest : List (List ℕ)) (path : List ℕ) (sums : List FileCoverage) (fault : InputFault) → HaveSums held first sums → AnswersAt held sums path (Err fault) →
      IsCause held (first ++ path ∷ rest) fault
  stops first rest path sums (Refused why) have answers = record {
    inputs = have.inputs ++ record { path = path; found = answers.0 } ∷ unread_inputs held rest;
    read = are_read first rest path answers.0 have.inputs have.read answers.1;
    are = one_more first rest path answers.0 sums have ∙ ap (then_by (λ next. gathered next (unread_inputs held rest))) answers.2;
  }
  stops first rest path sums (ReadFailed at) have answers =
      record { first = first; rest = rest; is = ap (λ p. first ++ p ∷ rest) (sym answers); sums = sums; have = have }
  stops first rest path sums Memory have answers = tt

  pub begins : HaveSums held [] []
  begins = record { inputs = []; read = record { paths = refl; held = by_told held }; are = refl }
    where
      by_told : (told : Option Held) → IfSome told (λ at. [] ≡ read_from at [])
      by_told None = tt
      by_told (Some at) = refl
