-- The code of a program is that of its prelude and of its files.
use Rattle.std.proofs.Common.{◌≡◌, ℕ, zero, suc, ◌+◌, ◌<◌, ◌≤◌, false, List, [], ◌∷◌, ◌++◌, length, map, drop, get_or, Some, slice_get, refl, sym, ap, subst, ◌∙◌, arith, append_assoc, append-nil, add-one}
use Rattle.js_tree.specs.Plain as P
use Rattle.js_tree.specs.Plain.{MakeFile}
use Rattle.js_terms.specs.declared.words.Comment.{Comment}
use Rattle.js_tree.specs.Codes as codes
use Rattle.js_tree.specs.Codes.{Code}
use Rattle.js_tree.specs.Linked as linked
use Rattle.js_tree.specs.Linked.{Unmarked}
use Rattle.js_meaning.specs.declared.program.ProgramFile.{ProgramFile}
use Rattle.js_meaning.specs.Program.{Source, Sources, from, functions, functions_of, link_sources, linked as linked_program, source_of, uncounted_source}
use Rattle.js_meaning.specs.Files.{file_names}
use Rattle.js_meaning.specs.Scopes.{Hoisted, function_stmts, lexical_stmts}
use Rattle.js_meaning.specs.VarNames.{var_stmts}
use Rattle.js_code.specs.declared.node.Node.{Node}
use Rattle.js_code.specs.declared.code.FileCode.{FileCode}
use Rattle.js_code.specs.Part.{as_code, as_stmts}
use Rattle.js_code.specs.Code.{reader}
use Rattle.js_code.specs.Scopes.{body_names, file_scope}
use Rattle.js_code.specs.Program.{ProgramCode, file_stmts, IsFunction, ReadsFile, IsFile, no_file, a_file, IsCodeOf}
use Rattle.js_code.specs.private.Push.{Compiling, Grows}
use Rattle.js_code.specs.private.Compiled.{Kept, Stands, AreCodes, no_codes, more_codes, Adds, CompilesStmts, AreFiles, no_files, more_files, linked_source, CompiledFile, CompiledFiles, FilesSoFar, sources_from}
use Rattle.js_code.proofs.Reading.{grows_refl, grows_trans}
use Rattle.js_code.proofs.Made.{adds_none, adds_both}
use Rattle.js_code.proofs.KindsOfLists.{from_at, past_end}
use Rattle.js_code.proofs.Told.{body_of, file_told}

-- One file

abbrev pub file_comments : P.File → List Comment
file_comments (MakeFile xs comments) = comments

pub file_compiled : {old new : Compiling} {file : FileCode} {source : Source} {xs : P.Stmts} {names : List (List ℕ)} {functions : List Hoisted} → source.tree ≡ MakeFile xs (file_comments source.tree) →
    CompilesStmts old new file.statements xs → functions ≡ function_stmts (as_stmts (reader new.nodes file.statements)) → names ≡ file_names →
    file.scope ≡ body_of names false (var_stmts xs) (lexical_stmts xs) functions → file.path ≡ source.path → CompiledFile old new file source
file_compiled {old = old} {new = new} {file = file} {source = source} {xs = xs} {names = names} {functions = functions} is c fs ns scope path =
    let d = c.compiled.done (from (length old.functions)) refl in
    let told = file_told new.nodes file.statements xs (from (length old.functions)) {params = names} {scope = file.scope} {functions = functions} (ap as_stmts d.read) fs false scope in
    let tree : (linked_source source (length old.functions)).tree ≡ MakeFile (linked.link_stmts Unmarked xs (from (length old.functions))).tree (file_comments source.tree) =
    ap (λ t. (linked.link_file Unmarked t (from (length old.functions))).tree) is
    in
    record {
      grows = c.compiled.grows;
      reads = record {
        path = path;
        statements = (c.compiled.placed, ap file_stmts tree ∙ sym (ap as_stmts d.read));
        scope = told ∙ ap (λ ns. body_names false ns (linked.link_stmts Unmarked xs (from (length old.functions))).tree) ns ∙ sym (ap (λ t. file_scope (file_stmts t)) tree);
      };
      next = ap (λ t. (linked.link_file Unmarked t (from (length old.functions))).next.code) is ∙ d.next;
      adds = let Q : List Code → Type 0 = λ cs. Adds old new cs in subst Q (sym (ap codes.functions_file tree)) d.adds;
    }

-- Files one after another

read_on : (old new : List Node) (file : FileCode) (source : Source) → Grows old new → ReadsFile old file source → ReadsFile new file source
read_on old new file source g r = record {
  path = r.path;
  statements = (let q = g.longer in let p = r.statements.0 in omega (arith, p, q), r.statements.1 ∙ sym (ap as_stmts (g.same file.statements r.statements.0)));
  scope = r.scope;
}

files_on : (old new : List Node) → Grows old new → (files : List FileCode) (sources : List Source) → AreFiles old files sources → AreFiles new files sources
files_on old new g [] [] no_files = no_files
files_on old new g [] (s ∷ ss) a = elim a [ ]
files_on old new g (f ∷ fs) [] a = elim a [ ]
files_on old new g (f ∷ fs) (s ∷ ss) (more_files _ _ _ _ r rest) = more_files f s fs ss (read_on old new f s g r) (files_on old new g fs ss rest)

files_push : (nodes : List Node) (files : List FileCode) (sources : List Source) (file : FileCode) (source : Source) → AreFiles nodes files sources → ReadsFile nodes file source →
    AreFiles nodes (files ++ file ∷ []) (sources ++ source ∷ [])
files_push nodes [] [] file source no_files r = more_files file source [] [] r no_files
files_push nodes [] (s ∷ ss) file source a r = elim a [ ]
files_push nodes (f ∷ fs) [] file source a r = elim a [ ]
files_push nodes (f ∷ fs) (s ∷ ss) file source (more_files _ _ _ _ q rest) r = more_files f s (fs ++ file ∷ []) (ss ++ source ∷ []) q (files_push nodes fs ss file source rest r)

functions_push : (sources : List Source) (source : Source) → functions_of (sources ++ source ∷ []) ≡ functions_of sources ++ codes.functions_file source.tree
functions_push [] source = append-nil (codes.functions_file source.tree)
functions_push (s ∷ ss) source = ap (λ cs. codes.functions_file s.tree ++ cs) (functions_push ss source) ∙ sym (append_assoc (codes.functions_file s.tree) (functions_of ss) (codes.functions_file source.tree))

pub files_begin : (code : Compiling) (whole : List Source) (left : ℕ → List Source) → whole ≡ left (length code.functions) → FilesSoFar code code [] whole left
files_begin code whole left e = record {
  done = [];
  compiled = record { grows = grows_refl code.nodes; are = no_files; adds = adds_none code code refl };
  is = e;
}

pub files_go_on : (old now new : Compiling) (files : List FileCode) (file : FileCode) (whole : List Source) (source : Source) (number : ℕ) (rest : ℕ → List Source) → source.counted ≡ false →
    FilesSoFar old now files whole (λ code. record source { tree = (linked.link_file Unmarked source.tree (from code)).tree } ∷ rest (linked.link_file Unmarked source.tree (from code)).next.code) →
    CompiledFile now new file source → FilesSoFar old new (files ++ file ∷ []) whole rest
files_go_on old now new files file whole source number rest e l c =
    let this = linked_source source (length now.functions) in
    record {
      done = l.done ++ this ∷ [];
      compiled = record {
        grows = grows_trans old.nodes now.nodes new.nodes l.compiled.grows c.grows;
        are = files_push new.nodes files l.done file this (files_on now.nodes new.nodes c.grows files l.done l.compiled.are) c.reads;
        adds = let Q : List Code → Type 0 = λ cs. Adds old new cs in
            subst Q (sym (functions_push l.done this)) (adds_both old now new (functions_of l.done) (codes.functions_file this.tree) l.compiled.adds c.grows c.adds);
      };
      is = l.is ∙ ap (λ n. l.done ++ this ∷ rest n) c.next ∙ sym (append_assoc l.done (this ∷ []) (rest (length new.functions)));
    }

-- The whole program

function_is : (nodes : List Node) (places : List ℕ) (cs : List Code) → AreCodes nodes places cs → (n : ℕ) → IsFunction nodes (slice_get places n) (slice_get cs n)
function_is nodes [] [] no_codes n = refl
function_is nodes [] (c ∷ cs) a n = elim a [ ]
function_is nodes (p ∷ ps) [] a n = elim a [ ]
function_is nodes (p ∷ ps) (c ∷ cs) (more_codes _ _ _ _ l r rest) zero = (l, ap Some (sym (ap as_code r)))
function_is nodes (p ∷ ps) (c ∷ cs) (more_codes _ _ _ _ l r rest) (suc n) = function_is nodes ps cs rest n

file_is : (nodes : List Node) (files : List FileCode) (sources : List Source) → AreFiles nodes files sources → (n : ℕ) → IsFile nodes (slice_get files n) (slice_get sources n)
file_is nodes [] [] no_files n = no_file
file_is nodes [] (s ∷ ss) a n = elim a [ ]
file_is nodes (f ∷ fs) [] a n = elim a [ ]
file_is nodes (f ∷ fs) (s ∷ ss) (more_files _ _ _ _ r rest) zero = a_file f s r
file_is nodes (f ∷ fs) (s ∷ ss) (more_files _ _ _ _ r rest) (suc n) = file_is nodes fs ss rest n

paths_are : (nodes : List Node) (files : List FileCode) (sources : List Source) → AreFiles nodes files sources → map (λ (f : FileCode). f.path) files ≡ map (λ (s : Source). s.path) sources
paths_are nodes [] [] no_files = refl
paths_are nodes [] (s ∷ ss) a = elim a [ ]
paths_are nodes (f ∷ fs) [] a = elim a [ ]
paths_are nodes (f ∷ fs) (s ∷ ss) (more_files _ _ _ _ r rest) = ap (λ p. p ∷ map (λ (f : FileCode). f.path) fs) r.path ∙ ap (λ ps. s.path ∷ ps) (paths_are nodes fs ss rest)

-- the files of a program

pub files_step : (files : List ProgramFile) {old now new : Compiling} {made : List FileCode} {index : ℕ} {x : ProgramFile} {file : FileCode} {whole : List Source} → index < length files → x ≡ get_or files index x →
    FilesSoFar old now made whole (sources_from (drop index files) index) → CompiledFile now new file (uncounted_source (source_of x)) →
    FilesSoFar old new (made ++ file ∷ []) whole (sources_from (drop (index + 1) files) (index + 1))
files_step files {old = old} {now = now} {new = new} {made = made} {index = index} {x = x} {file = file} {whole = whole} l e h c =
    let Q : List ProgramFile → Type 0 = λ ys. FilesSoFar old now made whole (sources_from ys index) in
    let R : ℕ → Type 0 = λ i. FilesSoFar old new (made ++ file ∷ []) whole (sources_from (drop (index + 1) files) i) in
    subst R (sym (add-one index)) (files_go_on old now new made file whole (uncounted_source (source_of x)) index (sources_from (drop (index + 1) files) (suc index)) refl
    (subst Q (from_at files index x l e) h) c)

pub files_end : (files : List ProgramFile) {old now : Compiling} {made : List FileCode} {index : ℕ} {whole : List Source} → length files ≤ index →
    FilesSoFar old now made whole (sources_from (drop index files) index) → CompiledFiles old now made whole
files_end files {old = old} {now = now} {made = made} {index = index} {whole = whole} l h =
    let Q : List Source → Type 0 = λ ss. CompiledFiles old now made ss in
    subst Q (sym (h.is ∙ ap (λ ys. h.done ++ sources_from ys index (length now.functions)) (past_end files index l) ∙ append-nil h.done)) h.compiled

-- a list that was compiled, where memory wasn't wanting
pub finished : {old new : Compiling} {place given : ℕ} {xs : P.Stmts} → Kept old new (CompilesStmts old new place xs) → (given ≡ place) × (new.wanting ≡ false) → CompilesStmts old new given xs
finished {old = old} {new = new} {xs = xs} k f = let Q : ℕ → Type 0 = λ place. CompilesStmts old new place xs in subst Q (sym f.0) (k.kept f.1)

-- a node at its place, as the whole program's code is seen
pub program_stands : {now : ProgramCode} {nodes : List Node} {functions : List ℕ} {files : List FileCode} {prelude place : ℕ} {node : Node} →
    record { nodes = nodes; functions = functions; files = files; prelude = prelude } ≡ now → Stands nodes place node → Stands now.nodes place node
program_stands {place = place} {node = node} view s = let Q : ProgramCode → Type 0 = λ now. Stands now.nodes place node in subst Q view s

-- the same files
pub files_as : (index n : ℕ) {old now : Compiling} {made : List FileCode} {xs ys : List ProgramFile} → xs ≡ ys → CompiledFiles old now made (sources_from xs index n) → CompiledFiles old now made (sources_from ys index n)
files_as index n {old = old} {now = now} {made = made} e h = let Q : List ProgramFile → Type 0 = λ xs. CompiledFiles old now made (sources_from xs index n) in subst Q e h

pub program_compiled : (p : Sources) {s0 s1 s2 : Compiling} {place : ℕ} {files : List FileCode} {xs : P.Stmts} → s0.functions ≡ [] → p.prelude ≡ MakeFile xs (file_comments p.prelude) →
    CompilesStmts s0 s1 place xs → CompiledFiles s1 s2 files (link_sources p.files 0 (length s1.functions)) →
    IsCodeOf (linked_program p) (record { nodes = s2.nodes; functions = s2.functions; files = files; prelude = place })
program_compiled p {s0 = s0} {s1 = s1} {s2 = s2} {place = place} {files = files} {xs = xs} none is c f =
    let d = c.compiled.done (from 0) (sym (ap length none)) in
    let tree : (linked_program p).prelude ≡ MakeFile (linked.link_stmts Unmarked xs (from 0)).tree (file_comments p.prelude) = ap (λ t. (linked.link_file Unmarked t (from 0)).tree) is in
    let next : (linked.link_file Unmarked p.prelude (from 0)).next.code ≡ length s1.functions = ap (λ t. (linked.link_file Unmarked t (from 0)).next.code) is ∙ d.next in
    let sources : (linked_program p).files ≡ link_sources p.files 0 (length s1.functions) = ap (link_sources p.files 0) next in
    let adds = adds_both s0 s1 s2 _ _ d.adds f.grows f.adds in
    let whole : functions (linked_program p) ≡ codes.functions_stmts (linked.link_stmts Unmarked xs (from 0)).tree ++ functions_of (link_sources p.files 0 (length s1.functions)) =
    ap (λ t. codes.functions_file t ++ functions_of (linked_program p).files) tree ∙ ap (λ ss. codes.functions_stmts (linked.link_stmts Unmarked xs (from 0)).tree ++ functions_of ss) sources
    in
    let listed : s2.functions ≡ adds.places = adds.is ∙ ap (λ ps. ps ++ adds.places) none in
    let F : List ℕ → Type 0 = λ places. (n : ℕ) → IsFunction s2.nodes (slice_get places n) (slice_get (functions (linked_program p)) n) in
    let G : List Code → Type 0 = λ cs. (n : ℕ) → IsFunction s2.nodes (slice_get adds.places n) (slice_get cs n) in
    let H : List Source → Type 0 = λ ss. (n : ℕ) → IsFile s2.nodes (slice_get files n) (slice_get ss n) in
    let at : place < length s2.nodes = let q = f.grows.longer in let l = c.compiled.placed in omega (arith, l, q) in
    record {
      functions = subst F (sym listed) (subst G (sym whole) (function_is s2.nodes adds.places _ adds.are));
      files = subst H (sym sources) (file_is s2.nodes files (link_sources p.files 0 (length s1.functions)) f.are);
      paths = paths_are s2.nodes files _ f.are ∙ sym (ap (map (λ (s : Source). s.path)) sources);
      prelude = (at, ap file_stmts tree ∙ sym (ap as_stmts (f.grows.same place c.compiled.placed ∙ d.read)));
    }
