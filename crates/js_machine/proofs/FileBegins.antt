-- A file begins where the machine stands.
use Rattle.std.proofs.Common.{◌≡◌, ℕ, suc, ◌+◌, List, [], ◌∷◌, Some, map, position, refl, sym, subst, ap, ◌∙◌, arith}
use Rattle.std.specs.Str.{bytes_eq}
use Rattle.js_heap.proofs.Lists.{position-map}
use Rattle.js_heap.specs.Heap.{heap_of}
use Rattle.js_code.specs.declared.code.FileCode.{FileCode}
use Rattle.js_code.specs.Program.{ProgramCode, IsCodeOf}
use Rattle.js_meaning.specs.Effects.{Entry, Comp, ret, exec}
use Rattle.js_meaning.specs.Files.{inside, start_file}
use Rattle.js_meaning.specs.Prelude.{opening}
use Rattle.js_meaning.specs.Program.{Source, Sources, file_at, link_source, link_sources, uncounted, uncounted_source}
use Rattle.js_meaning.specs.World.{meaning}
use Rattle.js_meaning.proofs.Handle.{handle_ret}
use Rattle.js_machine.specs.declared.state.State.{State}
use Rattle.js_machine.specs.private.Opening.{Opens}
use Rattle.js_machine.specs.private.State.{store_in, Becomes}
use Rattle.js_machine.specs.Whole.{Whole, Begins, running}
use Rattle.js_machine.proofs.Carried.{carries}

-- linking leaves the paths
linked_paths : (sources : List Source) (file code : ℕ) → map (λ (s : Source). s.path) (link_sources (map uncounted_source sources) file code) ≡ map (λ (s : Source). s.path) sources
linked_paths [] file code = refl
linked_paths (x ∷ xs) file code = ap (λ paths. x.path ∷ paths) (linked_paths xs (suc file) (link_source (uncounted_source x) file code).next.code)

-- the number of a file in the code is that in the program
pub file_found : (p : Sources) (path : List ℕ) (code : ProgramCode) → IsCodeOf (running p) code →
    position (λ (f : FileCode). bytes_eq f.path path) code.files ≡ file_at p path
file_found p path code is =
    sym (position-map (λ x. bytes_eq x path) (λ (f : FileCode). f.path) code.files)
    ∙ ap (position (λ x. bytes_eq x path)) (is.paths ∙ linked_paths p.files 0 _)
    ∙ position-map (λ x. bytes_eq x path) (λ (s : Source). s.path) p.files

pub begins : (p : Sources) (path : List ℕ) (file : ℕ) (code : ProgramCode) (m : Whole) → file_at p path ≡ Some file → IsCodeOf (running p) code →
    Opens code file m → Begins p path m
begins p path file code m found is opens = record {
  follows = record {
    file = file;
    found = found;
    code = subst (IsCodeOf (running p)) (sym opens.code_is) is;
    began = opening (running p);
    same = λ more.
        let none : m.given + more ≡ more = omega (arith, opens.given) in
        ap (meaning (uncounted p) file) none ∙ opens.same (running p) (carries p code is) (inside (running p)) more;
  };
  given = opens.given;
  printed = opens.printed;
  lost = opens.lost;
}

-- nothing but the heap stands when a program begins
module _ (p : Sources) (s : State) (heap : heap_of s.heap ≡ (opening p).heap) (output : s.output.items ≡ []) (cache : s.cache.items ≡ [])
    (requiring : s.requiring.items ≡ []) (starts : s.starts.items ≡ []) where
  pub opened : store_in (opening p) s ≡ opening p
  opened = rw (heap, output, cache, requiring, starts) refl

  pub opens_same : (file : ℕ) (c : Comp) (u : State) → Becomes (start_file p file) (store_in (opening p) s) c (store_in (opening p) u) →
      (inside : Entry → Comp) (n : ℕ) → exec inside n (start_file p file) (opening p) ≡ exec inside n c (store_in (opening p) u)
  opens_same file c u becomes inside n =
      ap (exec inside n (start_file p file)) (sym opened)
      ∙ ap (λ d. exec inside n d (store_in (opening p) s)) (sym (handle_ret (start_file p file)))
      ∙ becomes.same inside n ret
      ∙ ap (λ d. exec inside n d (store_in (opening p) u)) (handle_ret c)
