-- The data of a file's coverage count the entries of a log: one after the other.
use Rattle.std.proofs.Common.{◌≡◌, ℕ, suc, ◌+◌, ◌^◌, ◌<◌, List, [], ◌∷◌, map, Bool, true, false, ◌&&◌, nat_eq, if◌then◌else◌, refl, sym, ap, ap₂, subst, ◌∙◌, arith}
use Rattle.std.proofs.lemmas.Bool.{eq-eqb, eqb-true, ne_eqb}
use Rattle.js_terms.specs.Mark.{Mark}
use Rattle.js_tree.specs.Marked.{same_kind, one_if}
use Rattle.js_terms.specs.declared.construct.ConstructKind.{ConstructKind}
use Rattle.js_terms.specs.declared.construct.ConstructKind.TheVariants as construct_kind
use Rattle.js_counter.specs.Represents.{json_ticked}
use Rattle.js_counted.specs.Files as counted
use Rattle.js_counted.specs.Files.{counted_by}
use Rattle.js_counted.specs.Numbers as countable
use Rattle.js_counted.specs.Numbers.{IsCountable, AllCountable}
use Rattle.cov_object.specs.Branch.{BranchCoverage}
use Rattle.cov_object.specs.Json.{file_data}
use Rattle.cov_object.specs.Numbered.{AreSmall}
use Rattle.cov_object.specs.declared.file.FileCoverage.{FileCoverage}
use Rattle.cov_object.specs.declared.file.FunctionCoverage.{FunctionCoverage}
use Rattle.cov_object.specs.declared.file.PathCoverage.{PathCoverage}
use Rattle.cov_object.specs.declared.file.StatementCoverage.{StatementCoverage}
use Rattle.cov_expected.specs.Expected.{entries, counted_statement, counted_function, counted_paths, counted_branch, counted_file}
use Rattle.cov_expected.specs.Laws.{way, IsOnePath, TellsEntries}
use Rattle.cov_expected.specs.Told.{json_of}
use Rattle.cov_counted.specs.Entries.{CountsEntries}

-- a count among its coverage
abbrev a_statement : ℕ × StatementCoverage → ℕ → ℕ × StatementCoverage
a_statement s n = (s.0, record { location = s.1.location; count = n })

abbrev a_function : ℕ × FunctionCoverage → ℕ → ℕ × FunctionCoverage
a_function f n = (f.0, record { name = f.1.name; declaration = f.1.declaration; location = f.1.location; count = n })

abbrev a_path : PathCoverage → ℕ → PathCoverage
a_path p n = record { location = p.location; count = n }

abbrev a_branch : ℕ × BranchCoverage → List PathCoverage → ℕ × BranchCoverage
a_branch b ps = (b.0, record { kind = b.1.kind; location = b.1.location; paths = ps })

abbrev a_file : FileCoverage → List (ℕ × StatementCoverage) → List (ℕ × FunctionCoverage) → List (ℕ × BranchCoverage) → FileCoverage
a_file f ss fs bs = record { path = f.path; hash = f.hash; input_source_map = f.input_source_map; statements = ss; functions = fs; branches = bs }

same_file : (f : FileCoverage) {a b : List (ℕ × StatementCoverage)} {c d : List (ℕ × FunctionCoverage)} {x y : List (ℕ × BranchCoverage)} → a ≡ b → c ≡ d → x ≡ y → a_file f a c x ≡ a_file f b d y
same_file f {b = b} {c = c} {x = x} p q r = ap (λ ss. a_file f ss c x) p ∙ ap₂ (a_file f b) q r

-- ---- where a log has no entry of a file, its coverage stays

module _ (log : List Mark) (file : ℕ) (none : (kind : ConstructKind) (number path : ℕ) → entries log file kind number path ≡ 0) where
  statements_stay : (xs : List (ℕ × StatementCoverage)) → map (counted_statement log file) xs ≡ xs
  statements_stay [] = refl
  statements_stay (x ∷ xs) = ap₂ (λ n rest. a_statement x n ∷ rest) (let e = none construct_kind.Statement x.0 0 in omega (arith, e)) (statements_stay xs)

  functions_stay : (xs : List (ℕ × FunctionCoverage)) → map (counted_function log file) xs ≡ xs
  functions_stay [] = refl
  functions_stay (x ∷ xs) = ap₂ (λ n rest. a_function x n ∷ rest) (let e = none construct_kind.Function x.0 0 in omega (arith, e)) (functions_stay xs)

  paths_stay : (number at : ℕ) (ps : List PathCoverage) → counted_paths log file number at ps ≡ ps
  paths_stay number at [] = refl
  paths_stay number at (p ∷ ps) = ap₂ (λ n rest. a_path p n ∷ rest) (let e = none construct_kind.Branch number at in omega (arith, e)) (paths_stay number (suc at) ps)

  branches_stay : (xs : List (ℕ × BranchCoverage)) → map (counted_branch log file) xs ≡ xs
  branches_stay [] = refl
  branches_stay (x ∷ xs) = ap₂ (λ ps rest. a_branch x ps ∷ rest) (paths_stay x.0 0 x.1.paths) (branches_stay xs)

  file_stays : (f : FileCoverage) → counted_file log file f ≡ f
  file_stays f = same_file f (statements_stay f.statements) (functions_stay f.functions) (branches_stay f.branches)

-- ---- the entries of two logs, one after the other

module _ (all one more : List Mark) (file : ℕ) (sum : (kind : ConstructKind) (number path : ℕ) → entries all file kind number path ≡ entries one file kind number path + entries more file kind number path) where
  statements_sum : (xs : List (ℕ × StatementCoverage)) → map (counted_statement more file) (map (counted_statement one file) xs) ≡ map (counted_statement all file) xs
  statements_sum [] = refl
  statements_sum (x ∷ xs) = ap₂ (λ n rest. a_statement x n ∷ rest) (let e = sum construct_kind.Statement x.0 0 in omega (arith, e)) (statements_sum xs)

  functions_sum : (xs : List (ℕ × FunctionCoverage)) → map (counted_function more file) (map (counted_function one file) xs) ≡ map (counted_function all file) xs
  functions_sum [] = refl
  functions_sum (x ∷ xs) = ap₂ (λ n rest. a_function x n ∷ rest) (let e = sum construct_kind.Function x.0 0 in omega (arith, e)) (functions_sum xs)

  paths_sum : (number at : ℕ) (ps : List PathCoverage) → counted_paths more file number at (counted_paths one file number at ps) ≡ counted_paths all file number at ps
  paths_sum number at [] = refl
  paths_sum number at (p ∷ ps) = ap₂ (λ n rest. a_path p n ∷ rest) (let e = sum construct_kind.Branch number at in omega (arith, e)) (paths_sum number (suc at) ps)

  branches_sum : (xs : List (ℕ × BranchCoverage)) → map (counted_branch more file) (map (counted_branch one file) xs) ≡ map (counted_branch all file) xs
  branches_sum [] = refl
  branches_sum (x ∷ xs) = ap₂ (λ ps rest. a_branch x ps ∷ rest) (paths_sum x.0 0 x.1.paths) (branches_sum xs)

  file_sum : (f : FileCoverage) → counted_file more file (counted_file one file f) ≡ counted_file all file f
  file_sum f = same_file f (statements_sum f.statements) (functions_sum f.functions) (branches_sum f.branches)

-- ---- ids stay

small_map : {T : Type 0} (g : ℕ × T → ℕ × T) → ((x : ℕ × T) → (g x).0 ≡ x.0) → (xs : List (ℕ × T)) → AreSmall xs → AreSmall (map g xs)
small_map g same [] h = tt
small_map g same (x ∷ xs) h = (subst (λ n. n < 2 ^ 32) (sym (same x)) h.0, small_map g same xs h.1)

-- ---- one entry

-- the file of a mark is told last
of_other : (a b c d : Bool) → d ≡ false → one_if (a && (b && (c && d))) ≡ 0
of_other true true true d e = ap one_if e
of_other true true false d e = refl
of_other true false c d e = refl
of_other false b c d e = refl

never : true ≡ false → ⊥
never e = cc

turned : (m n : ℕ) → nat_eq n m ≡ false → nat_eq m n ≡ false
turned m n e = ne_eqb m n (λ same. never (sym (eq-eqb n m (sym same)) ∙ e))

other_file : (kind : ConstructKind) (number path file : ℕ) (mark : Mark) → nat_eq mark.file file ≡ false → entries (mark ∷ []) file kind number path ≡ 0
other_file kind number path file mark other =
    let e = of_other (same_kind kind mark.kind) (nat_eq number mark.number) (nat_eq path mark.path) (nat_eq file mark.file) (turned file mark.file other) in
    omega (arith, e)

same_way : (kind : ConstructKind) (number path file : ℕ) → counted.way (record { file = file; kind = kind; number = number; path = path }) ≡ way kind number path
same_way construct_kind.Statement number path file = refl
same_way construct_kind.Function number path file = refl
same_way construct_kind.Branch number path file = refl

same_path : (kind : ConstructKind) (path : ℕ) → countable.IsOnePath kind path → IsOnePath kind path
same_path construct_kind.Statement path h = h
same_path construct_kind.Function path h = h
same_path construct_kind.Branch path h = h

module _ (ticks : TellsEntries) where
  abbrev of_file : ℕ → Mark → Mark
  of_file file mark = record { file = file; kind = mark.kind; number = mark.number; path = mark.path }

  ticked : (file : ℕ) (mark : Mark) (f : FileCoverage) → IsCountable mark → AreSmall f.statements → AreSmall f.functions → AreSmall f.branches →
      json_ticked (json_of (file_data f)) (counted.way mark) ≡ json_of (file_data (counted_file (of_file file mark ∷ []) file f))
  ticked file mark f is ss fs bs =
      ap (json_ticked (json_of (file_data f))) (same_way mark.kind mark.number mark.path mark.file)
      ∙ ticks file mark.kind mark.number mark.path f ss fs bs is.number_low is.path_low (same_path mark.kind mark.path is.one_path)

  first_sum : (file : ℕ) (mark : Mark) (log : List Mark) → mark.file ≡ file → (kind : ConstructKind) (number path : ℕ) →
      entries (mark ∷ log) file kind number path ≡ entries (of_file file mark ∷ []) file kind number path + entries log file kind number path
  first_sum file mark log is kind number path =
      let e = ap (λ f. one_if (same_kind kind mark.kind && (nat_eq number mark.number && (nat_eq path mark.path && nat_eq file f)))) is in
      omega (arith, e)

  pub counts_entries : CountsEntries
  counts_entries file [] f ss fs bs all = ap (λ g. json_of (file_data g)) (sym (file_stays [] file (λ kind number path. refl) f))
  counts_entries file (mark ∷ log) f ss fs bs all = by (nat_eq mark.file file) refl (counts_entries file log)
    where
      by : (b : Bool) → nat_eq mark.file file ≡ b →
          ((g : FileCoverage) → AreSmall g.statements → AreSmall g.functions → AreSmall g.branches → AllCountable log → counted_by file log (json_of (file_data g)) ≡ json_of (file_data (counted_file log file g))) →
          counted_by file log (if b then json_ticked (json_of (file_data f)) (counted.way mark) else json_of (file_data f)) ≡ json_of (file_data (counted_file (mark ∷ log) file f))
      by true is later =
          let m = of_file file mark in
          ap (counted_by file log) (ticked file mark f all.0 ss fs bs)
          ∙ later (counted_file (m ∷ []) file f) (small_map (counted_statement (m ∷ []) file) (λ x. refl) f.statements ss) (small_map (counted_function (m ∷ []) file) (λ x. refl) f.functions fs) (small_map (counted_branch (m ∷ []) file) (λ x. refl) f.branches bs) all.1
          ∙ ap (λ g. json_of (file_data g)) (file_sum (mark ∷ log) (m ∷ []) log file (first_sum file mark log (eqb-true mark.file file is)) f)
      by false is later =
          later f ss fs bs all.1
          ∙ ap (λ g. json_of (file_data (counted_file log file g))) (sym (file_stays (mark ∷ []) file (λ kind number path. other_file kind number path file mark is) f))
          ∙ ap (λ g. json_of (file_data g)) (file_sum (mark ∷ log) (mark ∷ []) log file (λ kind number path. omega arith) f)
