-- What the files have at a path that a file's entries are sent to.
use Rattle.std.proofs.Common.{◌≡◌, ℕ, Bool, true, false, cond, List, [], ◌∷◌, ◌++◌, map, Option, Some, None, Result, Ok, Err, refl, sym, ap, ◌∙◌}
use Rattle.std.specs.Option.{option_map}
use Rattle.std.specs.List.{filter, filter_map, cons_option}
use Rattle.cov_object.specs.declared.file.StatementCoverage.{StatementCoverage}
use Rattle.cov_object.specs.declared.file.FunctionCoverage.{FunctionCoverage}
use Rattle.cov_object.specs.Branch.{BranchCoverage}
use Rattle.cov_object.specs.declared.file.FileCoverage.{FileCoverage}
use Rattle.cov_merge.specs.Kind.{Kind}
use Rattle.cov_merge.specs.Same.{same_text}
use Rattle.cov_merge.specs.Entries.{entries_of}
use Rattle.cov_merge.specs.Laws.{with_path}
use Rattle.source_map.specs.declared.place.Parts.{Parts}
use Rattle.source_map.specs.declared.fault.MapFault.{MapFault}
use Rattle.cov_remap.specs.declared.fault.RemapFault.{RemapFault}
use Rattle.cov_remap.specs.Sent.{Sending, sending_statements, sending_functions, sending_branches, sent}
use Rattle.cov_remap.specs.Remapped.{and_then, pieces_of, pieces, read_map, pieces_or_fault, spread_by, spread, spread_all}
use Rattle.cov_remap.specs.Laws.{goes_by, goes_from, goes}
use Rattle.cov_remap.proofs.Totals.{Adds, total, total-append, total-map, total-flat, total-same, total-none}

-- a file with one entry has it, at its path
pub record IsAlone {T : Type 0} (sending : Sending T) : Type 0 where
  pub path_alone : (path : List ℕ) (entry : T) → (sending.alone path entry).path ≡ path
  pub entries_alone : (path : List ℕ) (entry : T) → sending.kind.entries (sending.alone path entry) ≡ (0, entry) ∷ []

abbrev pub Answer : Type 0 → Type 0
Answer X = Result X RemapFault

abbrev pub fine : List FileCoverage → Answer (List FileCoverage)
fine files = Ok files

pub not_fine : {G : Type 0} (why : RemapFault) (files : List FileCoverage) → Err why ≡ fine files → G
not_fine why files e = cc

pub same-fine : (a b : List FileCoverage) → fine a ≡ fine b → a ≡ b
same-fine a b e = cc

module _ {M : Type 0} (nothing : M) (add : M → M → M) (adds : Adds nothing add) where
  right : (x : M) → add x nothing ≡ x
  right x = adds.comm x nothing ∙ adds.left x

  filter-by : {X : Type 0} (b : Bool) (w : X → M) (x : X) (rest : List X) (all : M) → total nothing add w rest ≡ all → total nothing add w (cond b (x ∷ rest) rest) ≡ add (cond b (w x) nothing) all
  filter-by true w x rest all e = ap (add (w x)) e
  filter-by false w x rest all e = e ∙ sym (adds.left all)

  total-filter : {X : Type 0} (w : X → M) (p : X → Bool) (xs : List X) → total nothing add w (filter p xs) ≡ total nothing add (λ x. cond (p x) (w x) nothing) xs
  total-filter w p [] = refl
  total-filter w p (x ∷ xs) = filter-by (p x) w x (filter p xs) (total nothing add (λ x. cond (p x) (w x) nothing) xs) (total-filter w p xs)

  abbrev or_nothing : {Y : Type 0} → (Y → M) → Option Y → M
  or_nothing w None = nothing
  or_nothing w (Some y) = w y

  option-by : {Y : Type 0} (o : Option Y) (w : Y → M) (rest : List Y) (all : M) → total nothing add w rest ≡ all → total nothing add w (cons_option o rest) ≡ add (or_nothing w o) all
  option-by None w rest all e = e ∙ sym (adds.left all)
  option-by (Some y) w rest all e = ap (add (w y)) e

  total-filter_map : {X Y : Type 0} (w : Y → M) (h : X → Option Y) (xs : List X) → total nothing add w (filter_map h xs) ≡ total nothing add (λ x. or_nothing w (h x)) xs
  total-filter_map w h [] = refl
  total-filter_map w h (x ∷ xs) = option-by (h x) w (filter_map h xs) (total nothing add (λ x. or_nothing w (h x)) xs) (total-filter_map w h xs)

  module _ {T : Type 0} (kind : Kind T) (w : T → M) (path : List ℕ) where
    -- what a file has at the path
    abbrev pub reads : FileCoverage → M
    reads file = cond (same_text path file.path) (total nothing add w (map (λ entry. entry.1) (kind.entries file))) nothing

    pub reads-all : (files : List FileCoverage) → total nothing add w (entries_of kind (with_path path files)) ≡ total nothing add reads files
    reads-all files =
        total-flat nothing add adds w (λ file. map (λ entry. entry.1) (kind.entries file)) (with_path path files)
        ∙ total-filter (λ file. total nothing add w (map (λ entry. entry.1) (kind.entries file))) (λ file. same_text path file.path) files

    -- what an entry has there, where it is sent
    abbrev pub there : Option (List ℕ × T) → M
    there None = nothing
    there (Some to) = cond (same_text path to.0) (w to.1) nothing

    cond-none : (b : Bool) → cond b nothing nothing ≡ nothing
    cond-none true = refl
    cond-none false = refl

    cond-total : {E : Type 0} (b : Bool) (v : E → M) (es : List E) → cond b (total nothing add v es) nothing ≡ total nothing add (λ e. cond b (v e) nothing) es
    cond-total true v es = refl
    cond-total false v es = sym (total-none nothing add adds (λ e. nothing) (λ e. refl) es)

    -- a file that stands for itself
    itself : (file : FileCoverage) → total nothing add reads (file ∷ []) ≡ total nothing add (λ entry. there (Some (file.path, entry.1))) (kind.entries file)
    itself file =
        right (reads file)
        ∙ ap (λ n. cond (same_text path file.path) n nothing) (total-map nothing add adds w (λ entry. entry.1) (kind.entries file))
        ∙ cond-total (same_text path file.path) (λ entry. w entry.1) (kind.entries file)

    -- entries of another kind have nothing there
    others : {U : Type 0} (other : Sending U) (file : FileCoverage) (map : Parts) → ((p : List ℕ) (u : U) → kind.entries (other.alone p u) ≡ []) →
        total nothing add reads (pieces_of other file map) ≡ nothing
    others {U} other file map none =
        total-filter_map reads (λ entry. option_map (λ to. other.alone to.0 to.1) (sent other file.path map entry.1)) (other.kind.entries file)
        ∙ total-none nothing add adds _ (λ entry. by_option (sent other file.path map entry.1)) (other.kind.entries file)
      where
        by_option : (o : Option (List ℕ × U)) → or_nothing reads (option_map (λ to. other.alone to.0 to.1) o) ≡ nothing
        by_option None = refl
        by_option (Some to) = ap (λ es. cond (same_text path (other.alone to.0 to.1).path) (total nothing add w (Rattle.std.proofs.Common.map (λ entry. entry.1) es)) nothing) (none to.0 to.1) ∙ cond-none (same_text path (other.alone to.0 to.1).path)

  module _ {T : Type 0} (sending : Sending T) (alone : IsAlone sending) (w : T → M) (path : List ℕ) where
    -- entries of this kind have what they are sent with
    own-by : (o : Option (List ℕ × T)) → or_nothing (reads sending.kind w path) (option_map (λ to. sending.alone to.0 to.1) o) ≡ there sending.kind w path o
    own-by None = refl
    own-by (Some to) =
        ap (λ es. cond (same_text path (sending.alone to.0 to.1).path) (total nothing add w (map (λ entry. entry.1) es)) nothing) (alone.entries_alone to.0 to.1)
        ∙ ap (λ p. cond (same_text path p) (add (w to.1) nothing) nothing) (alone.path_alone to.0 to.1)
        ∙ ap (λ n. cond (same_text path to.0) n nothing) (right (w to.1))

    pub own : (file : FileCoverage) (parts : Parts) →
        total nothing add (reads sending.kind w path) (pieces_of sending file parts)
        ≡ total nothing add (λ entry. there sending.kind w path (sent sending file.path parts entry.1)) (sending.kind.entries file)
    own file parts =
        total-filter_map (reads sending.kind w path) (λ entry. option_map (λ to. sending.alone to.0 to.1) (sent sending file.path parts entry.1)) (sending.kind.entries file)
        ∙ total-same nothing add adds _ _ (λ entry. own-by (sent sending file.path parts entry.1)) (sending.kind.entries file)

    -- the pieces of a file are those of its kind, as far as the kind goes
    abbrev pub AreOwn : Type 0
    AreOwn = (file : FileCoverage) (parts : Parts) → total nothing add (reads sending.kind w path) (pieces file parts) ≡ total nothing add (reads sending.kind w path) (pieces_of sending file parts)

    -- what the files that a file is spread to have at the path
    abbrev pub goes_there : FileCoverage → M
    goes_there file = total nothing add (λ entry. there sending.kind w path (goes sending file entry.1)) (sending.kind.entries file)

    module _ (are : AreOwn) where
      mapped-by : (file : FileCoverage) (files : List FileCoverage) (r : Result Parts MapFault) → pieces_or_fault file r ≡ fine files →
          total nothing add (reads sending.kind w path) files ≡ total nothing add (λ entry. there sending.kind w path (goes_by sending file.path r entry.1)) (sending.kind.entries file)
      mapped-by file files (Err why) ok = not_fine _ files ok
      mapped-by file files (Ok parts) ok =
          ap (total nothing add (reads sending.kind w path)) (sym (same-fine (pieces file parts) files ok)) ∙ are file parts ∙ own file parts

      spread-from : (file : FileCoverage) (files : List FileCoverage) (o : Option (List ℕ)) → spread_by file o ≡ fine files →
          total nothing add (reads sending.kind w path) files ≡ total nothing add (λ entry. there sending.kind w path (goes_from sending file.path o entry.1)) (sending.kind.entries file)
      spread-from file files None ok = ap (total nothing add (reads sending.kind w path)) (sym (same-fine (file ∷ []) files ok)) ∙ itself sending.kind w path file
      spread-from file files (Some text) ok = mapped-by file files (read_map text) ok

      spread-all-by : (file : FileCoverage) (files all : List FileCoverage) (r q : Answer (List FileCoverage)) → spread file ≡ r → spread_all files ≡ q →
          ((own : List FileCoverage) → spread_all files ≡ fine own → total nothing add (reads sending.kind w path) own ≡ total nothing add goes_there files) →
          and_then r (λ own. and_then q (λ others. fine (own ++ others))) ≡ fine all →
          total nothing add (reads sending.kind w path) all ≡ add (goes_there file) (total nothing add goes_there files)
      spread-all-by file files all (Err why) q e h rest ok = not_fine why all ok
      spread-all-by file files all (Ok mine) (Err why) e h rest ok = not_fine why all ok
      spread-all-by file files all (Ok mine) (Ok others) e h rest ok =
          ap (total nothing add (reads sending.kind w path)) (sym (same-fine (mine ++ others) all ok))
          ∙ total-append nothing add adds (reads sending.kind w path) mine others
          ∙ ap (λ n. add n (total nothing add (reads sending.kind w path) others)) (spread-from file mine file.input_source_map e)
          ∙ ap (add (goes_there file)) (rest others h)

      pub spread-all : (files all : List FileCoverage) → spread_all files ≡ fine all → total nothing add (reads sending.kind w path) all ≡ total nothing add goes_there files
      spread-all [] all ok = ap (total nothing add (reads sending.kind w path)) (sym (same-fine [] all ok))
      spread-all (file ∷ files) all ok = spread-all-by file files all (spread file) (spread_all files) refl refl (λ own e. spread-all files own e) ok

-- ---- the three kinds

pub statements_alone : IsAlone sending_statements
statements_alone = record { path_alone = λ p e. refl; entries_alone = λ p e. refl }

pub functions_alone : IsAlone sending_functions
functions_alone = record { path_alone = λ p e. refl; entries_alone = λ p e. refl }

pub branches_alone : IsAlone sending_branches
branches_alone = record { path_alone = λ p e. refl; entries_alone = λ p e. refl }

module _ {M : Type 0} (nothing : M) (add : M → M → M) (adds : Adds nothing add) (path : List ℕ) where
  three : (a b c : List FileCoverage) {T : Type 0} (kind : Kind T) (w : T → M) →
      total nothing add (reads nothing add adds kind w path) (a ++ (b ++ c))
      ≡ add (total nothing add (reads nothing add adds kind w path) a) (add (total nothing add (reads nothing add adds kind w path) b) (total nothing add (reads nothing add adds kind w path) c))
  three a b c kind w =
      total-append nothing add adds (reads nothing add adds kind w path) a (b ++ c)
      ∙ ap (add (total nothing add (reads nothing add adds kind w path) a)) (total-append nothing add adds (reads nothing add adds kind w path) b c)

  first : (a b c : M) → b ≡ nothing → c ≡ nothing → add a (add b c) ≡ a
  first a b c e h = ap (λ n. add a (add n c)) e ∙ ap (add a) (adds.left c ∙ h) ∙ right nothing add adds a

  second : (a b c : M) → a ≡ nothing → c ≡ nothing → add a (add b c) ≡ b
  second a b c e h = ap (λ n. add n (add b c)) e ∙ adds.left (add b c) ∙ ap (add b) h ∙ right nothing add adds b

  third : (a b c : M) → a ≡ nothing → b ≡ nothing → add a (add b c) ≡ c
  third a b c e h = ap (λ n. add n (add b c)) e ∙ adds.left (add b c) ∙ ap (λ n. add n c) h ∙ adds.left c

  none_of : {T U : Type 0} (kind : Kind T) (w : T → M) (other : Sending U) (file : FileCoverage) (parts : Parts) → ((p : List ℕ) (u : U) → kind.entries (other.alone p u) ≡ []) →
      total nothing add (reads nothing add adds kind w path) (pieces_of other file parts) ≡ nothing
  none_of kind w other file parts none = others nothing add adds kind w path other file parts none

  pub own_statements : (w : StatementCoverage → M) → AreOwn nothing add adds sending_statements statements_alone w path
  own_statements w file parts =
      three (pieces_of sending_statements file parts) (pieces_of sending_functions file parts) (pieces_of sending_branches file parts) sending_statements.kind w
      ∙ first _ _ _ (none_of sending_statements.kind w sending_functions file parts (λ p u. refl)) (none_of sending_statements.kind w sending_branches file parts (λ p u. refl))

  pub own_functions : (w : FunctionCoverage → M) → AreOwn nothing add adds sending_functions functions_alone w path
  own_functions w file parts =
      three (pieces_of sending_statements file parts) (pieces_of sending_functions file parts) (pieces_of sending_branches file parts) sending_functions.kind w
      ∙ second _ _ _ (none_of sending_functions.kind w sending_statements file parts (λ p u. refl)) (none_of sending_functions.kind w sending_branches file parts (λ p u. refl))

  pub own_branches : (w : BranchCoverage → M) → AreOwn nothing add adds sending_branches branches_alone w path
  own_branches w file parts =
      three (pieces_of sending_statements file parts) (pieces_of sending_functions file parts) (pieces_of sending_branches file parts) sending_branches.kind w
      ∙ third _ _ _ (none_of sending_branches.kind w sending_statements file parts (λ p u. refl)) (none_of sending_branches.kind w sending_functions file parts (λ p u. refl))
