-- Functions of the program with its counters stand a file's shift further than those of the source.
use Rattle.std.proofs.Common.{◌≡◌, ℕ, zero, suc, ◌+◌, ◌<◌, Bool, true, false, List, [], ◌∷◌, ◌++◌, map, length, Option, Some, None, refl, sym, ap, ◌∙◌, subst, arith}
use Rattle.std.specs.Prelude.{slice_get, option_map}
use Rattle.std.proofs.lemmas.List.{length-append, length-map}
use Rattle.js_tree.specs.Plain.{Stmts, File, MakeFile}
use Rattle.js_tree.specs.Codes.{Code, functions_stmts, functions_file}
use Rattle.js_meaning.specs.Program.{Source, Sources, functions, functions_of, function_at}
use Rattle.cov_rewritten.proofs.Order.{on_stmts}
use Rattle.js_suits.specs.Rewritten.{code_of, rewritten_code, rewritten_stmts}
use Rattle.js_suits.specs.Suits.{SuitsCode}
use Rattle.js_suits.specs.Settings.{Home, Outside, Within, Setting}
use Rattle.js_suits.specs.Programs.{home_of, SuitsFile, Suits, instrumented, instrumented_source, instrumented_prelude, Silent, starts_at, start_of, added_to, Stands, prelude_codes, file_codes}
use Rattle.js_lockstep.specs.Counters.{AlikeCodes, no_code, codes_of}
use Rattle.js_lockstep.specs.Programs.{CodesStand}
use Rattle.js_lockstep.proofs.Suited.{each_at, stmts_suits}
use Rattle.js_lockstep.proofs.Instrumented.{instrumented_at}

right_of : {X : Type 0} (xs ys : List X) (i : ℕ) → slice_get (xs ++ ys) (length xs + i) ≡ slice_get ys i
right_of [] ys i = ap (slice_get ys) (let e : 0 + i ≡ i = omega arith in e)
right_of (x ∷ xs) ys i = ap (slice_get (x ∷ (xs ++ ys))) (let e : suc (length xs) + i ≡ suc (length xs + i) = omega arith in e) ∙ right_of xs ys i

left_of : {X : Type 0} (xs ys : List X) (i : ℕ) → i < length xs → slice_get (xs ++ ys) i ≡ slice_get xs i
left_of [] ys i lt = absurd (omega (arith, lt))
left_of (x ∷ xs) ys zero lt = refl
left_of (x ∷ xs) ys (suc i) lt = left_of xs ys i (omega (arith, lt))

of_map : {X Y : Type 0} (f : X → Y) (xs : List X) (i : ℕ) → slice_get (map f xs) i ≡ option_map f (slice_get xs i)
of_map f [] i = refl
of_map f (x ∷ xs) zero = refl
of_map f (x ∷ xs) (suc i) = of_map f xs i

-- a function of a file
at_file : (sources : List Source) (file i : ℕ) (source : Source) → slice_get sources file ≡ Some source → i < length (functions_file source.tree) →
    slice_get (functions_of sources) (starts_at sources file + i) ≡ slice_get (functions_file source.tree) i
at_file [] file i source e lt = absurd (let z = e in cc)
at_file (x ∷ xs) zero i source e lt =
    let is : x ≡ source = let z : Some x ≡ Some source = e in cc in
    ap (slice_get (functions_file x.tree ++ functions_of xs)) (let z : 0 + i ≡ i = omega arith in z)
    ∙ subst (λ (y : Source). slice_get (functions_file y.tree ++ functions_of xs) i ≡ slice_get (functions_file source.tree) i) (sym is) (left_of (functions_file source.tree) (functions_of xs) i lt)
at_file (x ∷ xs) (suc n) i source e lt =
    ap (slice_get (functions_file x.tree ++ functions_of xs)) (let z : length (functions_file x.tree) + starts_at xs n + i ≡ length (functions_file x.tree) + (starts_at xs n + i) = omega arith in z)
    ∙ right_of (functions_file x.tree) (functions_of xs) (starts_at xs n + i) ∙ at_file xs n i source e lt

pub at_program : (p : Sources) (file i : ℕ) (source : Source) → slice_get p.files file ≡ Some source → i < length (functions_file source.tree) →
    function_at p (start_of p file + i) ≡ slice_get (functions_file source.tree) i
at_program p file i source e lt =
    ap (slice_get (functions p)) (let z : length (functions_file p.prelude) + starts_at p.files file + i ≡ length (functions_file p.prelude) + (starts_at p.files file + i) = omega arith in z)
    ∙ right_of (functions_file p.prelude) (functions_of p.files) (starts_at p.files file + i) ∙ at_file p.files file i source e lt

module _ (c : Setting) (p : Sources) (su : Suits c p) (added : ℕ → List Code) (silent : Silent c added) where
  q : Sources
  q = instrumented c p

  some_some : (h : Home) (xs : List Code) (i : ℕ) → i < length xs → ((x : Code) → slice_get xs i ≡ Some x → SuitsCode c h x) →
      AlikeCodes c h (slice_get xs i) (option_map (rewritten_code c (c.shift h)) (slice_get xs i))
  some_some h xs i lt suits = go (slice_get xs i) refl
    where
      go : (o : Option Code) → slice_get xs i ≡ o → AlikeCodes c h o (option_map (rewritten_code c (c.shift h)) o)
      go None e = no_code
      go (Some x) e = codes_of x (suits x e)

  walk : (h : Home) (xs : Stmts) → functions_stmts (rewritten_stmts c (c.shift h) true xs) ≡ map (rewritten_code c (c.shift h)) (functions_stmts xs)
  walk h xs = on_stmts c.code silent.code (code_of c (c.shift h)) true xs

  in_prelude : (i : ℕ) (file : File) → SuitsFile c (Outside 0) file → i < length (functions_file file) → (more : List Code) (mores : List Code) →
      AlikeCodes c (Outside 0) (slice_get (functions_file file ++ more) i) (slice_get (functions_file (instrumented_prelude c file) ++ mores) i)
  in_prelude i (MakeFile xs comments) s lt more mores =
      let h = Outside 0 in
      let zs = map (rewritten_code c (c.shift h)) (functions_stmts xs) in
      let long : i < length zs = subst (λ n. i < n) (sym (length-map (functions_stmts xs) (rewritten_code c (c.shift h)))) lt in
      subst (λ o. AlikeCodes c h o (slice_get (functions_file (instrumented_prelude c (MakeFile xs comments)) ++ mores) i)) (sym (left_of (functions_stmts xs) more i lt))
      (subst (λ o. AlikeCodes c h (slice_get (functions_stmts xs) i) o) (sym (ap (λ ys. slice_get (ys ++ mores) i) (walk h xs) ∙ left_of zs mores i long ∙ of_map (rewritten_code c (c.shift h)) (functions_stmts xs) i))
      (some_some h (functions_stmts xs) i lt (λ x e. each_at c h (functions_stmts xs) i x (stmts_suits c h xs s) e)))

  -- the functions of a file with its counters
  of_file : (counted : Bool) (file : ℕ) (tree : File) → SuitsFile c (home_of counted file) tree → (i : ℕ) → i < length (functions_file tree) →
      AlikeCodes c (home_of counted file) (slice_get (functions_file tree) i) (slice_get (functions_file (instrumented_source c file (record { path = []; tree = tree; counted = counted })).tree) (added_to added counted file + i))
      × (added_to added counted file + i < length (functions_file (instrumented_source c file (record { path = []; tree = tree; counted = counted })).tree))
  of_file true file (MakeFile xs comments) s i lt =
      let h = Within file in
      let zs = map (rewritten_code c (c.shift h)) (functions_stmts xs) in
      let are : functions_stmts (c.opened file (rewritten_stmts c (c.shift h) true xs)) ≡ added file ++ zs = silent.opened file (rewritten_stmts c (c.shift h) true xs) ∙ ap (λ ys. added file ++ ys) (walk h xs) in
      let size : length (added file ++ zs) ≡ length (added file) + length zs = length-append (added file) zs in
      let same : length zs ≡ length (functions_stmts xs) = length-map (functions_stmts xs) (rewritten_code c (c.shift h)) in
      let long : length (added file) + i < length (added file ++ zs) = omega (arith, size, same, lt) in (
        subst (λ o. AlikeCodes c h (slice_get (functions_stmts xs) i) o) (sym (ap (λ ys. slice_get ys (length (added file) + i)) are ∙ right_of (added file) zs i ∙ of_map (rewritten_code c (c.shift h)) (functions_stmts xs) i))
            (some_some h (functions_stmts xs) i lt (λ x e. each_at c h (functions_stmts xs) i x (stmts_suits c h xs s) e)),
        subst (λ ys. length (added file) + i < length ys) (sym are) long,
      )
  of_file false file (MakeFile xs comments) s i lt =
      let h = Outside (suc file) in
      let zs = map (rewritten_code c (c.shift h)) (functions_stmts xs) in
      let same : length zs ≡ length (functions_stmts xs) = length-map (functions_stmts xs) (rewritten_code c (c.shift h)) in
      let long : 0 + i < length zs = omega (arith, same, lt) in (
        subst (λ o. AlikeCodes c h (slice_get (functions_stmts xs) i) o) (sym (ap (λ ys. slice_get ys (0 + i)) (walk h xs) ∙ ap (slice_get zs) (let z : 0 + i ≡ i = omega arith in z) ∙ of_map (rewritten_code c (c.shift h)) (functions_stmts xs) i))
            (some_some h (functions_stmts xs) i lt (λ x e. each_at c h (functions_stmts xs) i x (stmts_suits c h xs s) e)),
        subst (λ ys. 0 + i < length ys) (sym (walk h xs)) long,
      )

  same_tree : (file : ℕ) (source : Source) → (instrumented_source c file (record { path = []; tree = source.tree; counted = source.counted })).tree ≡ (instrumented_source c file source).tree
  same_tree file source = refl

  stand : (h : Home) (code other : ℕ) → Stands p (instrumented c p) added h code other → AlikeCodes c h (function_at p code) (function_at (instrumented c p) other)
  stand _ _ _ (prelude_codes i lt) = in_prelude i p.prelude su.prelude lt (functions_of p.files) (functions_of (instrumented c p).files)
  stand _ _ _ (file_codes file source e i lt) =
      let r = of_file source.counted file source.tree (su.files file source e) i lt in
      let there : slice_get (instrumented c p).files file ≡ Some (instrumented_source c file source) = instrumented_at c p.files 0 file ∙ ap (λ m. option_map (instrumented_source c m) (slice_get p.files file)) (let z : 0 + file ≡ file = omega arith in z) ∙ ap (option_map (instrumented_source c file)) e in
      subst (λ o. AlikeCodes c (home_of source.counted file) o (function_at (instrumented c p) (start_of (instrumented c p) file + (added_to added source.counted file + i)))) (sym (at_program p file i source e lt))
      (subst (λ o. AlikeCodes c (home_of source.counted file) (slice_get (functions_file source.tree) i) o) (sym (at_program (instrumented c p) file (added_to added source.counted file + i) (instrumented_source c file source) there r.1)) r.0)

pub codes_stand : CodesStand
codes_stand c p su added silent all = record { codes = λ h code other z. stand c p su added silent h code other (all h code other z) }
