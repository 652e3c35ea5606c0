-- The program in which each counted file stands rewritten, linked: the linked program with its counters.
use Rattle.std.proofs.Common.{◌≡◌, ℕ, zero, suc, ◌+◌, Bool, true, false, List, [], ◌∷◌, map, length, Some, None, refl, sym, ap, ap₂, subst, ◌∙◌, arith, if◌then◌else◌}
use Rattle.std.specs.Prelude.{slice_get}
use Rattle.std.proofs.lemmas.List.{length-map}
use Rattle.serde_json.specs.Data.{Data}
use Rattle.js_terms.specs.Mark.{Mark}
use Rattle.js_terms.specs.declared.construct.ConstructKind.{ConstructKind}
use Rattle.js_terms.specs.declared.construct.ConstructKind.TheVariants as construct_kind
use Rattle.js_tree.specs.Hints.{heed_comments}
use Rattle.js_terms.specs.declared.operators.UpdateOperator.TheVariants as update
use Rattle.js_tree.specs.Plain.{Call, PostfixUpdate, no_expr, File, MakeFile}
use Rattle.js_tree.specs.Codes.{number_of, from_code, functions_file}
use Rattle.js_tree.specs.Linked.{Marking, Unmarked, Marked, Alone, Numbers, Linked, link_file, link_stmts}
use Rattle.js_tree.specs.Linked as link
use Rattle.js_tree.proofs.Ranged.{numbers_functions}
use Rattle.js_meaning.specs.Program.{Source, Sources, marking, from, link_source, link_sources, linked, uncounted_source, uncounted}
use Rattle.cov_hash.specs.Hash.{hash_text}
use Rattle.cov_object.specs.Json.{file_data}
use Rattle.cov_rewritten.specs.Counters.{name, counted_in, counter}
use Rattle.cov_rewritten.specs.Preamble.{json_string, literal, preamble}
use Rattle.cov_rewritten.specs.Rewritten.{after_directives}
use Rattle.cov_rewritten.specs.Whole.{rewritten}
use Rattle.cov_linked.proofs.Files.{links_rewritten}
use Rattle.cov_linked.proofs.Pieces.{links_preamble, links_counters}
use Rattle.js_suits.specs.Rewritten.{rewritten_stmts}
use Rattle.js_suits.specs.Settings.{Outside, Within, Setting, Tests, setting_of}
use Rattle.js_suits.specs.Programs.{starts_at, instrumented_file, instrumented_sources, instrumented_prelude}
use Rattle.js_lockstep.specs.Programs.{LinksAlone, Ordered}
use Rattle.js_lockstep.proofs.Opened.{links_file}
use Rattle.js_lockstep.proofs.Unchanged.{leaves_unmarked}
use Rattle.js_counted.specs.Files.{FileCounters}
use Rattle.js_counted.specs.Program.{preamble_of, counter_code, counted_program}
use Rattle.js_counted.proofs.Preamble as proved
use Rattle.cov_suits.specs.Suited.{own_name}
use Rattle.cov_counted.specs.Accepted.{Content, path_of, zero_of, more_before, first_at, HaveLiterals, files_of}
use Rattle.cov_counted.proofs.Numbers.{two_codes, added_is}
use Rattle.cov_again.specs.Replaced.{rewritten_tree, replaced_source, replaced_sources, replaced}
use Rattle.cov_again.specs.Laws.{LinksReplaced}

-- ---- how many functions a linked tree has

length_from : (first n : ℕ) → length (from_code first n) ≡ n
length_from first zero = refl
length_from first (suc n) = ap (λ k. suc k) (length_from (suc first) n)

count_is : (m : Marking) (tree : File) (k : Numbers) → (numbers_functions m tree k).0 ≡ length (functions_file (link_file m tree k).tree)
count_is m tree k =
    let h = numbers_functions m tree k in
    sym (length_from k.code h.0) ∙ ap length (sym h.2) ∙ length-map (functions_file (link_file m tree k).tree) number_of

next_code : (m : Marking) (tree : File) (k : Numbers) → (link_file m tree k).next.code ≡ k.code + length (functions_file (link_file m tree k).tree)
next_code m tree k = (numbers_functions m tree k).1 ∙ ap (λ n. k.code + n) (count_is m tree k)

in_order : (m : Marking) (tree : File) (k : Numbers) → Ordered (functions_file (link_file m tree k).tree) k.code
in_order m tree k = (numbers_functions m tree k).2 ∙ ap (from_code k.code) (count_is m tree k)

-- the code of a mark's counter doesn't tell its file
same_counted : (n : List ℕ) (file : ℕ) (m : Mark) (kind : ConstructKind) →
    PostfixUpdate None update.Increment (counted_in (Call None (name n) no_expr) (record m { file = file }) kind) ≡ PostfixUpdate None update.Increment (counted_in (Call None (name n) no_expr) m kind)
same_counted n file m construct_kind.Statement = refl
same_counted n file m construct_kind.Function = refl
same_counted n file m construct_kind.Branch = refl

same_counter : (n : List ℕ) (file : ℕ) (m : Mark) → counter n (record m { file = file }) ≡ counter n m
same_counter n file m = same_counted n file m m.kind

-- a linked tree is this one, and the next function has this number
record Becomes (l : Linked File) (tree : File) (code : ℕ) : Type 0 where
  is : l.tree ≡ tree
  next : l.next.code ≡ code

module _ (content : ℕ → Content) (p : Sources) (literals : HaveLiterals content p) where
  abbrev files : ℕ → FileCounters
  files = files_of content p literals

  abbrev c : Setting
  c = counter_code files p

  -- the same code where nothing else is asked
  abbrev tests : Tests
  tests = record {
    name = λ file. [];
    codes = λ h code other. false;
    shift = λ h. 0;
    has = λ m. false;
    code = c.code;
    opened = λ file xs. xs;
    hidden = λ w log started k. false;
    counted = λ log started k. false;
    limit = 0;
  }

  alone : LinksAlone (setting_of tests)
  alone = record { code = λ mark k. links_counters (files mark.file).name mark Alone k }

  -- ---- one file

  counted_tree : (i m k : ℕ) (n path hash : List ℕ) (data' : Data) (tree : File) → ((mark : Mark) → c.code (record mark { file = i }) ≡ counter n mark) →
      (link_stmts Unmarked (preamble n path hash data') (from m)).tree ≡ preamble_of (files i) → m + 2 ≡ c.shift (Within i) + k →
      Becomes (link_file Unmarked (rewritten n path hash data' tree) (from m)) (instrumented_file c true i (link_file (Marked i) tree (from k)).tree) (m + (2 + length (functions_file (link_file (Marked i) tree (from k)).tree)))
  counted_tree i m k n path hash data' (MakeFile body comments) codes opens shifted =
      let ys = (link_stmts (link.Within i (heed_comments comments)) body (from k)).tree in
      let two = ap (λ (z : Numbers). z.code) (links_preamble n path hash data' (from m)) in
      let a = links_rewritten c.code (λ number. c.shift (Within i) + number) n path hash data' i (from k) codes refl (MakeFile body comments) (from m) in
      let b = links_file tests (c.shift (Within i)) alone (preamble n path hash data') ys comments (from m) k (omega (arith, two, shifted)) (in_order (Marked i) (MakeFile body comments) (from k)) in
      let e = sym a ∙ b in
      let code = ap (λ (z : Linked File). z.next.code) e in
      record {
        is = ap (λ (z : Linked File). z.tree) e ∙ ap (λ first. MakeFile (after_directives first (rewritten_stmts c (c.shift (Within i)) true ys)) comments) opens;
        next = omega (arith, code, two);
      }

  plain_tree : (i m k : ℕ) (tree : File) → m ≡ c.shift (Outside (suc i)) + k →
      Becomes (link_file Unmarked tree (from m)) (instrumented_file c false i (link_file Unmarked tree (from k)).tree) (c.shift (Outside (suc i)) + (link_file Unmarked tree (from k)).next.code)
  plain_tree i m k (MakeFile body comments) shifted =
      let h = leaves_unmarked c (c.shift (Outside (suc i))) true body (from k) (from m) shifted in
      record { is = ap (λ xs. MakeFile xs comments) (sym h.0); next = h.1 }

  -- ---- the files from one on

  -- the files that are left begin with this one, so many functions were added before it, and so many functions are before it
  record Left (i d k : ℕ) (xs : List Source) : Type 0 where
    at : (n j : ℕ) → n ≡ i + j → slice_get p.files n ≡ slice_get xs j
    within : (n j : ℕ) → n ≡ i + j → c.shift (Within n) ≡ d + more_before xs j + 2
    outside : (n j : ℕ) → n ≡ i + j → c.shift (Outside (suc n)) ≡ d + more_before xs j
    first : (n j : ℕ) → n ≡ i + j → first_at p n ≡ (d + k) + (starts_at (link_sources xs i k) j + more_before xs j)

  left_next : (i d k : ℕ) (x : Source) (xs : List Source) → Left i d k (x ∷ xs) → Left (suc i) (d + (if x.counted then 2 else 0)) (link_source x i k).next.code xs
  left_next i d k x xs l = record {
    at = λ n j e. l.at n (suc j) (omega (arith, e));
    within = λ n j e. let a = l.within n (suc j) (omega (arith, e)) in omega (arith, a);
    outside = λ n j e. let a = l.outside n (suc j) (omega (arith, e)) in omega (arith, a);
    first = λ n j e. let a = l.first n (suc j) (omega (arith, e)) in let b = next_code (marking x.counted i) x.tree (from k) in omega (arith, a, b);
  }

  one_file : (i d k m : ℕ) (x : Source) (xs : List Source) → Left i d k (x ∷ xs) → m ≡ d + k → (counted : Bool) →
      Becomes (link_file Unmarked (if counted then rewritten_tree (content i) x else x.tree) (from m)) (instrumented_file c counted i (link_file (marking counted i) x.tree (from k)).tree)
      ((d + (if counted then 2 else 0)) + (link_file (marking counted i) x.tree (from k)).next.code)
  one_file i d k m x xs l e true =
      let at = l.at i 0 (omega arith) in
      let shift = l.within i 0 (omega arith) in
      let first = l.first i 0 (omega arith) in
      let f = files i in
      let data' = file_data (zero_of (content i) (Some x)) in
      let linked_preamble = proved.preamble_linked f x.path (hash_text (content i).bytes) data' (from m) (ap (λ o. json_string (path_of o)) at) refl
      ((literals i).spelled ∙ ap (λ o. literal (file_data (zero_of (content i) o))) at) (omega (arith, e, first)) in
      let t = counted_tree i m k (own_name (Some x)) x.path (hash_text (content i).bytes) data' x.tree
      (λ mark. same_counter f.name i mark ∙ ap (λ n. counter n mark) (ap own_name at))
      (subst (λ n. (link_stmts Unmarked (preamble n x.path (hash_text (content i).bytes) data') (from m)).tree ≡ preamble_of f) (ap own_name at) linked_preamble)
      (omega (arith, e, shift)) in
      let b = next_code (Marked i) x.tree (from k) in
      let next = t.next in
      record { is = t.is; next = omega (arith, next, b, e) }
  one_file i d k m x xs l e false =
      let shift = l.outside i 0 (omega arith) in
      let t = plain_tree i m k x.tree (omega (arith, e, shift)) in
      let next = t.next in
      record { is = t.is; next = omega (arith, next, shift) }

  files_same : (i d k m : ℕ) (xs : List Source) → Left i d k xs → m ≡ d + k →
      link_sources (map uncounted_source (replaced_sources content i xs)) i m ≡ instrumented_sources c i (link_sources xs i k)
  files_same i d k m [] l e = refl
  files_same i d k m (x ∷ xs) l e =
      let o = one_file i d k m x xs l e x.counted in
      ap₂ (λ (tree : File) (rest : List Source). record { path = x.path; tree = tree; counted = false } ∷ rest) o.is
      (files_same (suc i) (d + (if x.counted then 2 else 0)) (link_source x i k).next.code (link_source (uncounted_source (replaced_source (content i) x)) i m).next.code xs (left_next i d k x xs l) o.next)

  -- ---- the whole program

  abbrev start : ℕ
  start = (link_file Unmarked p.prelude (from 0)).next.code

  same_place : (n j : ℕ) → n ≡ 0 + j → n ≡ j
  same_place n j e = omega (arith, e)

  left_all : Left 0 0 start p.files
  left_all = record {
    at = λ n j e. ap (slice_get p.files) (same_place n j e);
    within = λ n j e. let a = added_is files 0 p.files 0 start n in let b = two_codes files n in
        subst (λ j. c.shift (Within n) ≡ 0 + more_before p.files j + 2) (same_place n j e) (omega (arith, a, b));
    outside = λ n j e. let a = added_is files 0 p.files 0 start n in
        subst (λ j. c.shift (Outside (suc n)) ≡ 0 + more_before p.files j) (same_place n j e) (omega (arith, a));
    first = λ n j e. let a = next_code Unmarked p.prelude (from 0) in
        subst (λ j. first_at p n ≡ (0 + start) + (starts_at (link_sources p.files 0 start) j + more_before p.files j)) (same_place n j e) (omega (arith, a));
  }

  prelude_same : (tree : File) → (link_file Unmarked tree (from 0)).tree ≡ instrumented_prelude c (link_file Unmarked tree (from 0)).tree
  prelude_same (MakeFile body comments) = ap (λ xs. MakeFile xs comments) (sym (leaves_unmarked c 0 true body (from 0) (from 0) refl).0)

  program_same : linked (uncounted (replaced content p)) ≡ counted_program files p
  program_same = ap₂ (λ (sources : List Source) (tree : File). record { files = sources; prelude = tree }) (files_same 0 0 start start p.files left_all (omega arith)) (prelude_same p.prelude)

pub links_replaced : LinksReplaced
links_replaced = program_same
