-- The tokens of a file that is whole begin as many levels as its tree has.
use Rattle.std.proofs.Common.{◌≡◌, ℕ, ◌<◌, max, Bool, true, false, not, ◌&&◌, List, [], ◌∷◌, ◌++◌, Some, refl, sym, ap, subst, ◌∙◌, arith, append_assoc, append-nil}
use Rattle.js_terms.specs.declared.place.Loc.{Loc}
use Rattle.js_tree.specs.Plain.{Stmt, Stmts, no_stmt, more_stmt, File, MakeFile}
use Rattle.js_tree.specs.Height.{height_stmt, height_stmts, height_file}
use Rattle.js_text.specs.Token.{Token}
use Rattle.js_reading.specs.Spans.{first}
use Rattle.js_reading.specs.Makes.{with_directives, is_declaration}
use Rattle.js_reading.specs.Slots.{AStmt}
use Rattle.js_reading.specs.Sentences
use Rattle.js_reading.specs.Sentences.{Spells, SpellsStmts, Sentence}
use Rattle.js_reading.specs.Turns.{Finished, Start, run, tree_of}
use Rattle.js_reading.specs.Open.{OpensStmts, OpensMore, no_stmts_token, open_last, whole_stmt}
use Rattle.js_reading.proofs.heights.Heights.{directives_same}
use Rattle.js_reading.proofs.sentences.Shapes.{first_append}
use Rattle.js_reading.proofs.sentences.Sound.{reads_only}

-- a list of statements is empty, or has a last one, which begins with a token
data Parted (l : Loc) (ss : Stmts) (ts : List Token) (next : Token) : Type 0 where
  nothing : ss ≡ no_stmt → ts ≡ [] → Parted l ss ts next
  parted : {xs : Stmts} {s : Stmt} {m lm : Loc} {vs ws : List Token} (t : Token) → SpellsStmts xs l m vs t → Spells (AStmt s) lm (t ∷ ws) next → height_stmts ss ≡ max (height_stmts xs) (height_stmt s) → ts ≡ vs ++ t ∷ ws → Parted l ss ts next

first_token : {A : Type 0} {s : Stmt} {l : Loc} {ts : List Token} {next : Token} → Spells (AStmt s) l ts next → ((t : Token) (ws : List Token) → ts ≡ t ∷ ws → A) → A
first_token (Sentences.headed f {ts = ws} t h d e) go = go t ws refl
first_token (Sentences.expression t {ts = ws} h d e) go = go t ws refl
first_token (Sentences.labelled t {ts = ws} h d e) go = go t ws refl

parts : {ss : Stmts} {l m : Loc} {ts : List Token} {next : Token} → SpellsStmts ss l m ts next → Parted l ss ts next
parts Sentences.no_statement = nothing refl refl
parts {l = l} {next = next} (Sentences.more_statements {s = s} {ss = ss} {ls = ls} {ts = ts} {us = us} d ds) = by_rest (parts ds)
  where
    by_rest : Parted ls ss us next → Parted l (more_stmt s ss) (ts ++ us) next
    by_rest (nothing none over) =
        first_token d (λ t ws e. parted t (Sentences.no_statement {l = l}) (subst (λ x. Spells (AStmt s) ls x next) e (subst (λ x. Spells (AStmt s) ls ts (first x next)) over d))
        (ap (λ x. max (height_stmt s) (height_stmts x)) none ∙ omega arith) (ap (λ x. ts ++ x) over ∙ (append-nil ts ∙ e)))
    by_rest (parted {xs = xs} {s = r} {vs = vs} {ws = ws} t dx dr h e) =
        parted t (Sentences.more_statements {l = l} (subst (λ x. Spells (AStmt s) ls ts x) (ap (λ x. first x next) e ∙ first_append vs (t ∷ ws) next) d) dx) dr
        (omega arith) (ap (λ x. ts ++ x) e ∙ sym (append_assoc ts vs (t ∷ ws)))

and_none : (b : Bool) → (b && not true) ≡ false
and_none true = refl
and_none false = refl

opens_all : {ss : Stmts} {l m : Loc} {ts : List Token} {next : Token} → SpellsStmts ss l m ts next → OpensStmts (height_stmts ss) ts
opens_all {ss = ss} {l = l} {ts = ts} {next = next} d = by_parts (parts d)
  where
    by_parts : Parted l ss ts next → OpensStmts (height_stmts ss) ts
    by_parts (nothing none over) = subst (λ x. OpensStmts (height_stmts ss) x) (sym over) (subst (λ x. OpensStmts (height_stmts x) []) (sym none) no_stmts_token)
    by_parts (parted {s = s} {vs = vs} {ws = ws} t dx ds h e) = subst (λ x. OpensStmts (height_stmts ss) x) (sym e) (subst (λ n. OpensStmts n (vs ++ t ∷ ws)) (sym h) (open_last t dx (whole_stmt next (and_none (is_declaration s)) ds)))

-- two lists that are the same with one more at the end
same_front : (ts us : List Token) (t u : Token) → ts ++ t ∷ [] ≡ us ++ u ∷ [] → ts ≡ us
same_front [] [] t u e = refl
same_front [] (x ∷ []) t u e = absurd cc
same_front [] (x ∷ y ∷ us) t u e = absurd cc
same_front (x ∷ []) [] t u e = absurd cc
same_front (x ∷ y ∷ ts) [] t u e = absurd cc
same_front (x ∷ ts) (y ∷ us) t u e =
    let head : x ≡ y = cc in
    let rest : ts ++ t ∷ [] ≡ us ++ u ∷ [] = cc in
    ap (λ z. z ∷ ts) head ∙ ap (λ zs. y ∷ zs) (same_front ts us t u rest)

of_sentence : (tree : File) (all ts : List Token) (t : Token) → Sentence tree all → all ≡ ts ++ t ∷ [] → OpensStmts (height_file tree) ts
of_sentence tree all ts t (Sentences.file {ss = ss} {ts = us} end is d none) e =
    subst (λ n. OpensStmts n ts) (sym (directives_same ss)) (subst (λ x. OpensStmts (height_stmts ss) x) (same_front us ts end t e) (opens_all d))

-- the tokens before the last of a file begin as many levels as its tree has
pub ended_high : (ts : List Token) (t : Token) (ss : Stmts) (limit : ℕ) → run Start (ts ++ t ∷ []) ≡ Some (Finished ss) → limit < height_stmts (with_directives ss) → OpensMore limit ts
ended_high ts t ss limit h over = (height_stmts (with_directives ss), over, of_sentence (MakeFile (with_directives ss) []) (ts ++ t ∷ []) ts t (reads_only (MakeFile (with_directives ss) []) (ts ++ t ∷ []) (ap tree_of h)) refl)
