-- How a counted file begins: its directives, its function, which no other name of the file is, and a call of it.
use Rattle.std.proofs.Common.{◌≡◌, ℕ, zero, suc, ◌+◌, ◌<◌, Bool, true, false, List, [], ◌∷◌, ◌++◌, map, length, codes, Option, Some, None, refl, sym, ap, ◌∙◌, subst, arith, if◌then◌else◌}
use Rattle.std.specs.Prelude.{slice_get, option_map}
use Rattle.std.specs.List.{AllZip}
use Rattle.std.specs.Str.{bytes_eq}
use Rattle.js_terms.specs.declared.place.Loc.{Loc}
use Rattle.js_terms.specs.declared.words.Comment.{Comment}
use Rattle.js_terms.specs.declared.words.Spelled.{Spelled}
use Rattle.js_terms.specs.declared.operators.VariableKind.{VariableKind}
use Rattle.js_terms.specs.declared.operators.VariableKind.TheVariants as variable
use Rattle.js_tree.specs.Codes.{functions_stmts, functions_file}
use Rattle.js_tree.specs.Plain.{File, MakeFile, Directive, VariableDeclaration, EnteredStmt, Stmt, Stmts, no_stmt, more_stmt}
use Rattle.js_value.specs.State.{Binding, Store}
use Rattle.js_value.specs.Objects.{next_object}
use Rattle.js_value.specs.Realm.{undefined}
use Rattle.js_meaning.specs.Program.{Source, Sources, function_at, link_sources, linked}
use Rattle.js_meaning.specs.Scopes.{stands_in, once, variable_of, uninitialized, lexical_names, bound_names, Hoisted, names_of, body_scope, lexical_stmt, lexical_stmts, function_stmts}
use Rattle.js_meaning.specs.VarNames.{var_stmts}
use Rattle.js_meaning.specs.Files.{file_names}
use Rattle.cov_rewritten.specs.Rewritten.{joined, after_directives}
use Rattle.js_suits.specs.Rewritten.{rewritten_stmts}
use Rattle.js_suits.specs.Settings.{Within, World, Setting}
use Rattle.js_suits.specs.Suits.{SuitsStmt, SuitsStmts}
use Rattle.js_suits.specs.Programs.{home_of, SuitsFile, instrumented_source, Suits}
use Rattle.js_lockstep.specs.Worlds.{AlikeStores}
use Rattle.js_lockstep.proofs.Instrumented.{instrumented_at}
use Rattle.js_lockstep.proofs.Names.{differs}
use Rattle.js_lockstep.proofs.Scopes.{FreeNames, AlikeHoisted}
use Rattle.js_lockstep.proofs.Declares as Declares
use Rattle.js_lockstep.proofs.Coded.{at_program}
use Rattle.js_lockstep.proofs.Opened.{opens_in_order}
use Rattle.js_counter.specs.Literals.{expr_of}
use Rattle.js_counter.specs.Steady.{gives_actual}
use Rattle.js_counter.specs.First.{NoName, locals, first_code}
use Rattle.js_counter.specs.Starts.{opening_of, Others, file_bindings, FileFresh}
use Rattle.js_counter.specs.Starts as S
use Rattle.js_counted.specs.Files.{FileCounters}
use Rattle.js_counted.specs.Holds.{global, coverage_text}
use Rattle.js_counted.specs.Program.{preamble_of, is_counted, counter_code, counted_program, counters, Prepared}
use Rattle.js_counted.specs.Parts.{FilesBegin}
use Rattle.js_counted.proofs.Preamble.{preamble_codes}

-- Directives

pub record Split (inserted ys : Stmts) : Type 0 where
  pub directives : List (Option Loc × Spelled)
  pub rest : Stmts
  pub opened : after_directives inserted ys ≡ S.after_directives directives (joined inserted rest)
  pub is : ys ≡ S.after_directives directives rest

pub split : (inserted ys : Stmts) → Split inserted ys
split inserted no_stmt = record { directives = []; rest = no_stmt; opened = refl; is = refl }
split inserted (more_stmt (Directive loc spelled) ys) = let s = split inserted ys in record {
  directives = (loc, spelled) ∷ s.directives;
  rest = s.rest;
  opened = ap (more_stmt (Directive loc spelled)) s.opened;
  is = ap (more_stmt (Directive loc spelled)) s.is;
}
split inserted (more_stmt x ys) = record { directives = []; rest = more_stmt x ys; opened = refl; is = refl }

pub functions_after : (ds : List (Option Loc × Spelled)) (xs : Stmts) → function_stmts (S.after_directives ds xs) ≡ function_stmts xs
functions_after [] xs = refl
functions_after (d ∷ ds) xs = functions_after ds xs

pub vars_after : (ds : List (Option Loc × Spelled)) (xs : Stmts) → var_stmts (S.after_directives ds xs) ≡ var_stmts xs
vars_after [] xs = refl
vars_after (d ∷ ds) xs = vars_after ds xs

pub lexicals_after : (ds : List (Option Loc × Spelled)) (xs : Stmts) → lexical_stmts (S.after_directives ds xs) ≡ lexical_stmts xs
lexicals_after [] xs = refl
lexicals_after (d ∷ ds) xs = lexicals_after ds xs

-- Names that are not that of the global object

abbrev this_global : List ℕ
this_global = codes "globalThis"

abbrev NotGlobals : List (List ℕ) → Type 0
NotGlobals [] = Unit {0}
NotGlobals (x ∷ xs) = (bytes_eq x this_global ≡ false) × NotGlobals xs

once_not : (before xs : List (List ℕ)) → NotGlobals xs → NotGlobals (once before xs)
once_not before [] g = tt
once_not before (x ∷ xs) g = by (stands_in x before) (once_not before xs g.1) (once_not (x ∷ before) xs g.1)
  where
    by : (b : Bool) → NotGlobals (once before xs) → NotGlobals (once (x ∷ before) xs) → NotGlobals (if b then once before xs else x ∷ once (x ∷ before) xs)
    by true u v = u
    by false u v = (g.0, v)

variables_not : (xs : List (List ℕ)) (bs : List Binding) → NotGlobals xs → NoName this_global bs → NoName this_global (map (variable_of undefined) xs ++ bs)
variables_not [] bs g n = n
variables_not (x ∷ xs) bs g n = (g.0, variables_not xs bs g.1 n)

not_joined : (xs ys : List (List ℕ)) → NotGlobals xs → NotGlobals ys → NotGlobals (xs ++ ys)
not_joined [] ys g h = h
not_joined (x ∷ xs) ys g h = (g.0, not_joined xs ys g.1 h)

names_joined : (xs ys : List Binding) → NoName this_global xs → NoName this_global ys → NoName this_global (xs ++ ys)
names_joined [] ys g h = h
names_joined (x ∷ xs) ys g h = (g.0, names_joined xs ys g.1 h)

uninitialized_not : (b : Bool) (xs : List (List ℕ)) → NotGlobals xs → NoName this_global (map (uninitialized b) xs)
uninitialized_not b [] g = tt
uninitialized_not b (x ∷ xs) g = (g.0, uninitialized_not b xs g.1)

module _ (c : Setting) (file : ℕ) where
  free_not : (xs : List (List ℕ)) → FreeNames c (Within file) xs → NotGlobals xs
  free_not [] f = tt
  free_not (x ∷ xs) f = (differs x this_global (f.0).not_global, free_not xs f.1)

  lexical_kind : (kind : VariableKind) (xs : List (List ℕ)) → NotGlobals xs → NoName this_global (lexical_names kind xs)
  lexical_kind variable.Var xs g = tt
  lexical_kind variable.Let xs g = uninitialized_not false xs g
  lexical_kind variable.Const xs g = uninitialized_not true xs g

  lexical_one : (x : Stmt) → SuitsStmt c (Within file) x → NoName this_global (lexical_stmt x)
  lexical_one (VariableDeclaration loc kind ds) su = lexical_kind kind (bound_names ds) (free_not (bound_names ds) (Declares.bound_free c (Within file) ds su))
  lexical_one (EnteredStmt mark x) su = lexical_one x su.1
  lexical_one _ su = tt

  lexicals_not : (xs : Stmts) → SuitsStmts c (Within file) xs → NoName this_global (lexical_stmts xs)
  lexicals_not no_stmt su = tt
  lexicals_not (more_stmt x xs) su = names_joined (lexical_stmt x) (lexical_stmts xs) (lexical_one x su.0.0) (lexicals_not xs su.1)

  others : (fs gs : List Hoisted) → AllZip (AlikeHoisted c (Within file)) fs gs → Others (c.name file) this_global gs
  others [] [] rs = tt
  others [] (g ∷ gs) rs = absurd rs
  others (f ∷ fs) [] rs = absurd rs
  others (f ∷ fs) (g ∷ gs) rs = (
    differs g.name (c.name file) (λ e. ((rs.0).free).other ((rs.0).names ∙ e)),
    differs g.name this_global (λ e. ((rs.0).free).not_global ((rs.0).names ∙ e)),
    others fs gs rs.1,
  )

-- Names that begin with `cov_`

module _ (name more : List ℕ) (is : name ≡ codes "cov_" ++ more) where
  pub no_file_name : stands_in name file_names ≡ false
  no_file_name = ap (λ n. stands_in n file_names) is

  pub not_this_global : bytes_eq name this_global ≡ false
  not_this_global = ap (λ n. bytes_eq n this_global) is

  pub no_local : NoName name (locals undefined undefined undefined undefined undefined undefined undefined)
  no_local = subst (λ n. NoName n (locals undefined undefined undefined undefined undefined undefined undefined)) (sym is)
      (refl, (refl, (refl, (refl, (refl, (refl, (refl, (refl, tt))))))))

-- The file

module _ (files : ℕ → FileCounters) (p : Sources) (pre : Prepared files p) (su : Suits (counters files p) (linked p)) where
  abbrev c : Setting
  c = counters files p

  module _ (file : ℕ) (source : Source) (at : slice_get (linked p).files file ≡ Some source) (counted : source.counted ≡ true) (in_program : is_counted p file ≡ true)
      (xs : Stmts) (comments : List Comment) (tree : source.tree ≡ MakeFile xs comments) (suits : SuitsStmts (counters files p) (Within file) xs) where
    abbrev f : FileCounters
    f = files file

    abbrev pub ys : Stmts
    ys = rewritten_stmts (counters files p) ((counters files p).shift (Within file)) true xs

    abbrev pub parts_of : Split (preamble_of (files file)) (rewritten_stmts (counters files p) ((counters files p).shift (Within file)) true xs)
    parts_of = split (preamble_of (files file)) (rewritten_stmts (counters files p) ((counters files p).shift (Within file)) true xs)

    abbrev pub opening : Stmts
    opening = opening_of parts_of.directives (files file).name (files file).path (files file).hash coverage_text (files file).zero (files file).first ((files file).first + 1) parts_of.rest

    -- the file with its counters
    by_tree : (b : Bool) (t : File) → b ≡ true → t ≡ MakeFile xs comments →
        (instrumented_source (counters files p) file (record { path = source.path; tree = t; counted = b })).tree ≡ MakeFile (after_directives (preamble_of (files file)) ys) comments
    by_tree b t e g = subst (λ b. (instrumented_source (counters files p) file (record { path = source.path; tree = t; counted = b })).tree ≡ MakeFile (after_directives (preamble_of (files file)) ys) comments) (sym e)
        (subst (λ t. (instrumented_source (counters files p) file (record { path = source.path; tree = t; counted = true })).tree ≡ MakeFile (after_directives (preamble_of (files file)) ys) comments) (sym g) refl)

    pub tree_is : (instrumented_source (counters files p) file source).tree ≡ MakeFile opening comments
    tree_is = by_tree source.counted source.tree counted tree ∙ ap (λ zs. MakeFile zs comments) parts_of.opened

    by_code : (b : Bool) (t : File) → b ≡ true → t ≡ MakeFile xs comments →
        (instrumented_source (counter_code files p) file (record { path = source.path; tree = t; counted = b })).tree ≡ MakeFile (after_directives (preamble_of (files file)) ys) comments
    by_code b t e g = subst (λ b. (instrumented_source (counter_code files p) file (record { path = source.path; tree = t; counted = b })).tree ≡ MakeFile (after_directives (preamble_of (files file)) ys) comments) (sym e)
        (subst (λ t. (instrumented_source (counter_code files p) file (record { path = source.path; tree = t; counted = true })).tree ≡ MakeFile (after_directives (preamble_of (files file)) ys) comments) (sym g) refl)

    -- its functions in the program
    in_counted : slice_get (counted_program files p).files file ≡ Some (instrumented_source (counter_code files p) file source)
    in_counted = instrumented_at (counter_code files p) (linked p).files 0 file ∙ ap (option_map (instrumented_source (counter_code files p) (0 + file))) at
        ∙ ap (λ n. Some (instrumented_source (counter_code files p) n source)) (let e : 0 + file ≡ file = omega arith in e)

    functions_are : functions_file (instrumented_source (counter_code files p) file source).tree
        ≡ first_code (files file).first (files file).name (files file).path (files file).hash coverage_text (expr_of (files file).zero) ((files file).first + 1)
        ∷ gives_actual ((files file).first + 1) None None None ∷ functions_stmts ys
    functions_are = ap functions_file (by_code source.counted source.tree counted tree) ∙ opens_in_order (preamble_of (files file)) ys ∙ ap (λ cs. cs ++ functions_stmts ys) (preamble_codes (files file))

    code_at : (i : ℕ) → i < 2 → function_at (counted_program files p) ((files file).first + i) ≡ slice_get (functions_file (instrumented_source (counter_code files p) file source).tree) i
    code_at i low = ap (λ n. function_at (counted_program files p) (n + i)) (pre.first file in_program)
        ∙ at_program (counted_program files p) file i (instrumented_source (counter_code files p) file source) in_counted
        (subst (λ cs. i < length cs) (sym functions_are) (let l : i < suc (suc (length (functions_stmts ys))) = omega (arith, low) in l))

    is_code : function_at (counted_program files p) (files file).first
        ≡ Some (first_code (files file).first (files file).name (files file).path (files file).hash coverage_text (expr_of (files file).zero) ((files file).first + 1))
    is_code = ap (function_at (counted_program files p)) (let e : (files file).first ≡ (files file).first + 0 = omega arith in e) ∙ code_at 0 (omega arith) ∙ ap (λ cs. slice_get cs 0) functions_are

    is_next : function_at (counted_program files p) ((files file).first + 1) ≡ Some (gives_actual ((files file).first + 1) None None None)
    is_next = code_at 1 (omega arith) ∙ ap (λ cs. slice_get cs 1) functions_are

    -- the names of its environment
    abbrev more : List ℕ
    more = (pre.named file).0

    abbrev named : (files file).name ≡ codes "cov_" ++ (pre.named file).0
    named = (pre.named file).1

    pub rest_functions : function_stmts parts_of.rest ≡ function_stmts ys
    rest_functions = sym (ap function_stmts parts_of.is ∙ functions_after parts_of.directives parts_of.rest)

    pub opening_functions : names_of (function_stmts opening) ≡ (files file).name ∷ names_of (function_stmts ys)
    opening_functions = ap names_of (functions_after parts_of.directives (joined (preamble_of (files file)) parts_of.rest)) ∙ ap (λ fs. (files file).name ∷ names_of fs) rest_functions

    pub opening_vars : var_stmts opening ≡ var_stmts ys
    opening_vars = vars_after parts_of.directives (joined (preamble_of (files file)) parts_of.rest) ∙ sym (ap var_stmts parts_of.is ∙ vars_after parts_of.directives parts_of.rest)

    pub opening_lexicals : lexical_stmts opening ≡ lexical_stmts ys
    opening_lexicals = lexicals_after parts_of.directives (joined (preamble_of (files file)) parts_of.rest) ∙ sym (ap lexical_stmts parts_of.is ∙ lexicals_after parts_of.directives parts_of.rest)

    pub functions_alike : AllZip (AlikeHoisted (counters files p) (Within file)) (function_stmts xs) (function_stmts ys)
    functions_alike = Declares.functions_alike (counters files p) (Within file) true xs suits

    pub vars_free : FreeNames (counters files p) (Within file) (var_stmts ys)
    vars_free = subst (FreeNames (counters files p) (Within file)) (sym (Declares.var_names (counters files p) (Within file) true xs)) (Declares.var_names_free (counters files p) (Within file) xs suits)

    pub functions_free : FreeNames (counters files p) (Within file) (names_of (function_stmts ys))
    functions_free = subst (FreeNames (counters files p) (Within file)) (sym (Declares.names_same (counters files p) (Within file) (function_stmts xs) (function_stmts ys) functions_alike))
        (Declares.names_free (counters files p) (Within file) (function_stmts xs) (function_stmts ys) functions_alike)

    unnamed : (exports : ℕ) → NoName this_global (file_bindings opening exports)
    unnamed exports = (
      refl,
      (
        refl,
        (
          refl,
          variables_not (once file_names (body_scope opening).variables) (lexical_stmts opening)
              (once_not file_names (body_scope opening).variables
              (subst (λ vs. NotGlobals (vs ++ names_of (function_stmts opening))) (sym opening_vars)
              (subst (λ fs. NotGlobals (var_stmts ys ++ fs)) (sym opening_functions)
              (not_joined (var_stmts ys) ((files file).name ∷ names_of (function_stmts ys)) (free_not (counters files p) file (var_stmts ys) vars_free)
              (not_this_global (files file).name more named, free_not (counters files p) file (names_of (function_stmts ys)) functions_free)))))
              (subst (NoName this_global) (sym (opening_lexicals ∙ Declares.lexical_same (counters files p) (Within file) true xs)) (lexicals_not (counters files p) file xs suits)),
        ),
      ),
    )

    pub file_fresh : (w : World) (left t : Store) (x : AlikeStores (counters files p) w left t) →
        FileFresh (counted_program files p) opening (files file).name (files file).path (files file).hash coverage_text (files file).zero (files file).first ((files file).first + 1) parts_of.rest t global
    file_fresh w left t x = record {
      older = x.hidden.older;
      has_global = x.hidden.names_low;
      place = x.hidden.place;
      global_named = x.hidden.named;
      is_global = x.hidden.is_global;
      is_code = is_code;
      is_next = is_next;
      free_name = no_local (files file).name more named;
      keys = pre.keys file;
      own_name = no_file_name (files file).name more named;
      not_global = not_this_global (files file).name more named;
      others = subst (Others (files file).name this_global) (sym rest_functions) (others (counters files p) file (function_stmts xs) (function_stmts ys) functions_alike);
      unnamed = unnamed (next_object t.heap);
    }

-- of a program

link_counted : (sources : List Source) (first code file : ℕ) (source : Source) → slice_get (link_sources sources first code) file ≡ Some source → source.counted ≡ true →
    elim (slice_get sources file) [ None ↦ false | Some source ↦ source.counted ] ≡ true
link_counted [] first code file source e g = absurd (let z = e in cc)
link_counted (x ∷ xs) first code zero source e g = ap (λ (y : Source). y.counted) (some_same e) ∙ g
  where
    some_same : {a b : Source} → Some a ≡ Some b → a ≡ b
    some_same e = cc
link_counted (x ∷ xs) first code (suc file) source e g = link_counted xs (suc first) _ file source e g

pub counted_there : (p : Sources) (file : ℕ) (source : Source) → slice_get (linked p).files file ≡ Some source → source.counted ≡ true → is_counted p file ≡ true
counted_there p file source at counted = link_counted p.files 0 _ file source at counted

pub suits_there : (c : Setting) (p : Sources) → Suits c p → (file : ℕ) (source : Source) → slice_get p.files file ≡ Some source → source.counted ≡ true → (xs : Stmts) (comments : List Comment) → source.tree ≡ MakeFile xs comments →
    SuitsStmts c (Within file) xs
suits_there c p su file source at counted xs comments tree =
    subst (λ t. SuitsFile c (Within file) t) tree (subst (λ b. SuitsFile c (home_of b file) source.tree) counted (su.files file source at))

pub files_begin : FilesBegin
files_begin files p pre su file source at counted xs comments tree w s t x =
    let in_program = counted_there p file source at counted in
    let suits = suits_there (counters files p) (linked p) su file source at counted xs comments tree in
    let parts = parts_of files p pre su file source at counted in_program xs comments tree suits in
    (parts.directives, parts.rest, (tree_is files p pre su file source at counted in_program xs comments tree suits, file_fresh files p pre su file source at counted in_program xs comments tree suits w s t x))
