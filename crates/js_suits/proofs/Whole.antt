-- Linked programs suit their counters.
use Rattle.std.proofs.Common.{◌≡◌, ℕ, zero, suc, ◌+◌, ◌<◌, Bool, true, false, ◌&&◌, List, [], ◌∷◌, ◌++◌, map, length, Some, None, refl, sym, ap, subst, ◌∙◌, arith}
use Rattle.std.specs.Prelude.{slice_get, nat_lt, IsTrue}
use Rattle.std.proofs.lemmas.Bool.Decides.{nat_tests}
use Rattle.js_terms.specs.Mark.{Mark}
use Rattle.js_tree.specs.Plain.{File, MakeFile}
use Rattle.js_tree.specs.Codes.{Code, number_of, from_code, functions_file, functions_stmts}
use Rattle.js_tree.specs.Linked.{Marking, Marked, Unmarked, Numbers, with_comments, link_file, link_stmts}
use Rattle.js_tree.specs.Entered.{entered_file, times_placed}
use Rattle.js_tree.specs.Unmarked.{unmarked_file}
use Rattle.js_tree.proofs.Ranged.{numbers_functions}
use Rattle.js_walk.specs.Constructs.{constructs_file}
use Rattle.js_walk.specs.Walk.{walk_file}
use Rattle.js_scopes.specs.declared.fault.ScopeFault.{ScopeFault}
use Rattle.js_scopes.specs.Mentions.{mentions_file, nothing_told}
use Rattle.js_scopes.specs.Order.{first}
use Rattle.js_scopes.specs.Scopes.{own_of_file, own_of_part}
use Rattle.js_scopes.specs.Checks.{reserved_among, faults, first_fault}
use Rattle.js_spelling.proofs.Ones.{has_tokens}
use Rattle.js_layout.proofs.Accepted.{accepted_prints}
use Rattle.js_layout.proofs.FineNames.{Calm, left_none}
use Rattle.js_marked.proofs.Links.{marked_body}
use Rattle.js_meaning.specs.Counted.{numbered, MarksConstructs}
use Rattle.js_meaning.specs.Program.{Source, marking, from, link_source, link_sources, linked}
use Rattle.cov_rewritten.specs.Whole.{IsFresh}
use Rattle.js_suits.specs.Suits.{SuitsMark}
use Rattle.js_suits.specs.Laws.{Readable, IsConstruct, is_construct, has_construct, ConstructsCounted, ReadableSuits, AcceptedReadable, EmptyReadable, AcceptedSuits, ShiftedNumbered}
use Rattle.js_suits.proofs.Marks.{counted_marks, construct_there, no_marks}
use Rattle.js_suits.proofs.Names.{calm_own, Apart, free_names}
use Rattle.js_suits.proofs.Suited.{Each, nil, cons, M, F, stmts_suits}
use Rattle.js_suits.specs.Settings.{Home, Outside, Within, Setting}
use Rattle.js_suits.specs.Programs.{home_of, starts_at, start_of, added_to, prelude_codes, file_codes, SuitsFile}

-- ---- functions at their numbers

length_map : {A B : Type 0} (f : A → B) (xs : List A) → length (map f xs) ≡ length xs
length_map f [] = refl
length_map f (x ∷ xs) = ap (λ n. suc n) (length_map f xs)

length_from : (first n : ℕ) → length (from_code first n) ≡ n
length_from first zero = refl
length_from first (suc n) = ap (λ k. suc k) (length_from (suc first) n)

next_code : (m : Marking) (tree : File) (k : Numbers) → (link_file m tree k).next.code ≡ k.code + length (functions_file (link_file m tree k).tree)
next_code m tree k =
    let h = numbers_functions m tree k in
    let e = sym (length_map number_of (functions_file (link_file m tree k).tree)) ∙ ap length h.2 ∙ length_from k.code h.0 in
    let d = h.1 in
    omega (arith, d, e)

module _ (marks : MarksConstructs) (c : Setting) where
  abbrev K : Home → ℕ → Type 0
  K h n = c.Codes h n (c.shift h + n)

  each_code : (h : Home) (codes : List Code) (first n : ℕ) → map number_of codes ≡ from_code first n → ((i : ℕ) → i < length codes → K h (first + i)) → Each (F c h) codes
  each_code h [] first n e f = nil
  each_code h (x ∷ xs) first zero e f = absurd cc
  each_code h (x ∷ xs) first (suc n) e f =
      let a : number_of x ≡ first = cc in
      let b : map number_of xs ≡ from_code (suc first) n = cc in
      let z : first + 0 ≡ number_of x = omega (arith, a) in
      cons (subst (K h) z (f 0 (omega arith)))
      (each_code h xs (suc first) n b (λ i l. let s : first + suc i ≡ suc first + i = omega arith in subst (K h) s (f (suc i) (omega (arith, l)))))

  suits_tree : (h : Home) (m : Marking) (tree : File) (k : Numbers) → Readable tree → Apart c.name h (mentions_file tree) → Each (M c h) (entered_file (link_file m tree k).tree) →
      ((i : ℕ) → i < length (functions_file (link_file m tree k).tree) → K h (k.code + i)) → SuitsFile c h (link_file m tree k).tree
  suits_tree h m (MakeFile xs comments) k r a ms cs =
      let n = numbers_functions m (MakeFile xs comments) k in
      stmts_suits c h (marked_body m xs comments r.printable k) (free_names c h (mentions_file (MakeFile xs comments)) r.not_global a) ms
      (each_code h (functions_stmts (link_stmts (with_comments m comments) xs k).tree) k.code n.0 n.2 cs)

  suits_one : (counted : Bool) (file code : ℕ) (tree : File) → Readable tree → (counted ≡ true → IsFresh (c.name file) tree) → (counted ≡ true → (m : Mark) → IsConstruct file tree m → c.Has m) →
      ((i : ℕ) → i < length (functions_file (link_file (marking counted file) tree (from code)).tree) → K (home_of counted file) (code + i)) →
      SuitsFile c (home_of counted file) (link_file (marking counted file) tree (from code)).tree
  suits_one true file code tree r fresh has cs =
      suits_tree (Within file) (Marked file) tree (from code) r (fresh refl).fresh (counted_marks file marks (SuitsMark c (Within file)) tree code (λ m e k. (ap Within (sym e), has refl m k))) cs
  suits_one false file code tree r fresh has cs = suits_tree (Outside (suc file)) Unmarked tree (from code) r tt (no_marks (M c (Outside (suc file))) tree (from code)) cs

-- ---- the files of a linked program

record LinkedAt (linked_source : Source) (xs : List Source) (i file code : ℕ) : Type 0 where
  source : Source
  at : slice_get xs i ≡ Some source
  is : linked_source ≡ record source { tree = (link_source source file code).tree }

linked_at : (xs : List Source) (first code i : ℕ) (s : Source) → slice_get (link_sources xs first code) i ≡ Some s → (file start : ℕ) → file ≡ first + i → start ≡ code + starts_at (link_sources xs first code) i →
    LinkedAt s xs i file start
linked_at [] first code i s e file start f d = absurd cc
linked_at (x ∷ xs) first code zero s e file start f d =
    let f' : first ≡ file = omega (arith, f) in
    let d' : code ≡ start = omega (arith, d) in
    let z : Some (record x { tree = (link_source x first code).tree }) ≡ Some s = e in
    let y : record x { tree = (link_source x first code).tree } ≡ s = cc in
    subst (λ n. LinkedAt s (x ∷ xs) 0 n start) f' (subst (λ n. LinkedAt s (x ∷ xs) 0 first n) d' (record { source = x; at = refl; is = sym y }))
linked_at (x ∷ xs) first code (suc i) s e file start f d =
    let n = next_code (marking x.counted first) x.tree (from code) in
    let r = linked_at xs (suc first) (link_source x first code).next.code i s e file start (omega (arith, f)) (omega (arith, d, n)) in
    record { source = r.source; at = r.at; is = r.is }

suits_same : (c : Setting) (file : ℕ) (x y : Source) → x ≡ y → SuitsFile c (home_of y.counted file) y.tree → SuitsFile c (home_of x.counted file) x.tree
suits_same c file x y e s = subst (λ z. SuitsFile c (home_of z.counted file) z.tree) (sym e) s

pub readable_suits : MarksConstructs → ReadableSuits
readable_suits marks c p readable prelude counters numbered = record {
  files = λ file s e.
      let n = next_code Unmarked p.prelude (from 0) in
      let start : start_of (linked p) file ≡ (link_file Unmarked p.prelude (from 0)).next.code + starts_at (linked p).files file = omega (arith, n) in
      let a = linked_at p.files 0 (link_file Unmarked p.prelude (from 0)).next.code file s e file (start_of (linked p) file) (omega arith) start in
      suits_same c file s (record a.source { tree = (link_source a.source file (start_of (linked p) file)).tree }) a.is
      (suits_one marks c a.source.counted file (start_of (linked p) file) a.source.tree (readable file a.source a.at) (counters.fresh file a.source a.at) (counters.has file a.source a.at)
      (λ i l. numbered.files file (record a.source { tree = (link_source a.source file (start_of (linked p) file)).tree }) (e ∙ ap Some a.is) i l));
  prelude = suits_tree marks c (Outside 0) Unmarked p.prelude (from 0) prelude tt (no_marks (M c (Outside 0)) p.prelude (from 0))
      (λ i l. let z : i ≡ 0 + i = omega arith in subst (K marks c (Outside 0)) z (numbered.prelude i l));
}

-- ---- accepted sources

none_first : (fs : List ScopeFault) → first fs ≡ None → fs ≡ []
none_first [] h = refl
none_first (f ∷ fs) h = absurd cc

calm_file : (again : Bool) (file : File) → first_fault again file ≡ None → Calm again (mentions_file file)
unfolding faults
calm_file again file h =
    left_none (reserved_among again (mentions_file file)) (own_of_file file) (left_none (reserved_among again (mentions_file file) ++ own_of_file file) (walk_file own_of_part nothing_told file tt) (none_first _ h))

pub accepted_readable : AcceptedReadable
accepted_readable bytes tree accepted = record {
  printable = accepted_prints has_tokens false bytes tree accepted.utf8 accepted.reads accepted.unbroken;
  not_global = calm_own (mentions_file tree) (calm_file false tree accepted.unbroken);
}

pub empty_readable : EmptyReadable
empty_readable = record { printable = record { body = tt; this = refl }; not_global = refl }

pub accepted_suits : MarksConstructs → AcceptedSuits
accepted_suits marks c p accepted prelude counters numbered =
    readable_suits marks c p (λ file source e. let a = accepted file source e in accepted_readable a.0 source.tree a.1) prelude counters numbered

pub shifted_numbered : ShiftedNumbered
shifted_numbered c p q added s = record {
  prelude = λ i l. let z : i ≡ c.shift (Outside 0) + i = let e = s.prelude in omega (arith, e) in subst (c.Codes (Outside 0) i) z (s.stand (Outside 0) i i (prelude_codes i l));
  files = λ file source e i l.
      let f = s.files file source e in
      let z : start_of q file + (added_to added source.counted file + i) ≡ c.shift (home_of source.counted file) + (start_of p file + i) = omega (arith, f) in
      subst (c.Codes (home_of source.counted file) (start_of p file + i)) z (s.stand (home_of source.counted file) (start_of p file + i) (start_of q file + (added_to added source.counted file + i)) (file_codes file source e i l));
}

pub constructs_counted : ConstructsCounted
constructs_counted c p has fresh = record {
  fresh = fresh;
  has = λ file source e counted m k. has m (there file source e counted m k);
}
  where
    there : (file : ℕ) (source : Source) → slice_get p.files file ≡ Some source → source.counted ≡ true → (m : Mark) → IsConstruct file source.tree m → IsTrue (has_construct p m)
    there file source e counted m k =
        let f = construct_there file source.tree m k in
        let n : ℕ = times_placed m (numbered file (from 0).counts (constructs_file (unmarked_file source.tree))) in
        let some : nat_lt 0 (times_placed m (numbered file (from 0).counts (constructs_file (unmarked_file source.tree)))) ≡ true = grind (arith, nat_tests, k) in
        let t : is_construct file (Some source) m ≡ true = ap (λ b. b && nat_lt 0 (times_placed m (numbered file (from 0).counts (constructs_file (unmarked_file source.tree))))) counted ∙ some in
        let s : has_construct p m ≡ is_construct file (Some source) m = ap (λ g. is_construct g (slice_get p.files g) m) f ∙ ap (λ s. is_construct file s m) e in
        holds (has_construct p m) (s ∙ t)
      where
        holds : (b : Bool) → b ≡ true → IsTrue b
        holds true h = h
        holds false h = h
