-- The text of a file that can be printed is read again as the tree with its parentheses, but for places and comments.
use Rattle.std.proofs.Common.{◌≡◌, ◌∙◌, Bool, false, List, [], ◌∷◌, ◌++◌, refl, sym, ap, subst}
use Rattle.std.specs.Str.{chars}
use Rattle.js_terms.specs.declared.place.Loc.{Loc}
use Rattle.js_tree.specs.Plain.{File, MakeFile}
use Rattle.js_text.specs.Token.{Token, Kind, End}
use Rattle.js_reading.specs.Sentences as sentences
use Rattle.js_reading.specs.Sentences.{Sentence}
use Rattle.js_reading.specs.Reads.{comments_of_tokens}
use Rattle.js_spelling.specs.Written.{Written}
use Rattle.js_spelling.specs.Tokens.{Neighbours, AreNeighbours, Beside, StandBeside, Follow}
use Rattle.js_spelling.proofs.Again.{is_text, reads_tokens_again}
use Rattle.js_spelling.proofs.Sentences.{sentences_stand}
use Rattle.js_layout.specs.Layout.{written, layout}
use Rattle.js_layout.specs.Neat.{neat_file}
use Rattle.js_layout.specs.Unplaced.{unplaced_file}
use Rattle.js_layout.specs.Printable.{Printable, body_of}
use Rattle.js_layout.specs.Laws.{IsText, ReadsAgain, ReadsSameAgain}
use Rattle.js_layout.proofs.Follows.{Follows}
use Rattle.js_layout.proofs.Written.{are_written}
use Rattle.js_layout.proofs.Bare.{bare_neat_file}
use Rattle.js_layout.proofs.BareUnplaced.{same_alike_file}
use Rattle.js_layout.proofs.Read.{file_read}

pub layout_is_text : IsText
layout_is_text file h = is_text (written file) (are_written file h)

-- ---- any tokens of these kinds: the tree that they have shows that each may stand beside the next

abbrev no_place : Loc
no_place = record { start = record { line = 0; column = 0 }; end = record { line = 0; column = 0 } }

abbrev of_kind : Bool → Kind → Token
of_kind line k = record { kind = k; span = record { start = 0; end = 0 }; loc = no_place; line_terminator_before = line; comments = record { start = 0; end = 0 } }

abbrev tokens_of : Bool → List Written → List Token
tokens_of line [] = []
tokens_of line (w ∷ ws) = of_kind line w.kind ∷ tokens_of w.ends_line ws

follows_of : (line : Bool) (ws : List Written) → Follows line ws (tokens_of line ws)
follows_of line [] = tt
follows_of line (w ∷ ws) = (refl, refl, follows_of w.ends_line ws)

neighbours_from : (line : Bool) (w : Written) (ws : List Written) (end : Token) → Beside (of_kind line w.kind) (tokens_of w.ends_line ws ++ end ∷ []) → Neighbours w ws
neighbours_from line w [] end h = tt
neighbours_from line w (next ∷ ws) end h = (h.0, neighbours_from w.ends_line next ws end h.1)

neighbours : (line : Bool) (ws : List Written) (end : Token) → StandBeside (tokens_of line ws ++ end ∷ []) → AreNeighbours ws
neighbours line [] end h = tt
neighbours line (w ∷ ws) end h = neighbours_from line w ws end h

are_neighbours : (file : File) → Printable file → AreNeighbours (written file)
are_neighbours file h =
    let ts = tokens_of false (written file) in
    let end = of_kind false End in
    let s = file_read file h false ts end (follows_of false (written file)) refl in
    neighbours false (written file) end (sentences_stand s.tree (ts ++ end ∷ []) s.sentence)

-- ---- the tokens of the text

record Ends (line : Bool) (ws : List Written) (tokens : List Token) : Type 0 where
  before : List Token
  end : Token
  are : tokens ≡ before ++ end ∷ []
  follows : Follows line ws before
  is_end : end.kind ≡ End

ends : (line : Bool) (ws : List Written) (tokens : List Token) → Follow line ws tokens → Ends line ws tokens
ends line [] [] h = absurd h
ends line [] (end ∷ []) h = record { before = []; end = end; are = refl; follows = tt; is_end = h.0 }
ends line [] (end ∷ t ∷ ts) h = absurd h
ends line (w ∷ ws) [] h = absurd h
ends line (w ∷ ws) (t ∷ ts) h =
    let e = ends w.ends_line ws ts h.2 in
    record { before = t ∷ e.before; end = e.end; are = ap (λ us. t ∷ us) e.are; follows = (h.0, h.1, e.follows); is_end = e.is_end }

-- a sentence's tree has no comments
no_comments : (tree : File) (tokens : List Token) → Sentence tree tokens → tree ≡ MakeFile (body_of tree) []
no_comments tree tokens (sentences.file end is d none) = refl

pub reads_again : ReadsAgain
reads_again file h =
    let again = reads_tokens_again (written file) (are_written file h) (are_neighbours file h) in
    let e = ends false (written file) again.tokens again.follow in
    let s = file_read file h false e.before e.end e.follows e.is_end in
    let sentence : Sentence s.tree again.tokens = subst (λ ts. Sentence s.tree ts) (sym e.are) s.sentence in
    let whole = no_comments s.tree again.tokens sentence in
    record {
      tree = MakeFile (body_of s.tree) (comments_of_tokens (chars (layout file)) again.tokens);
      reads = record { tokens = again.tokens; end = again.end; lexed = again.lexed; sentence = subst (λ t. Sentence t again.tokens) whole sentence; comments = refl };
      alike = sym (ap unplaced_file whole) ∙ s.alike;
    }

-- as a tree that is the same
pub reads_same_again : ReadsSameAgain
reads_same_again file h =
    let read = reads_again file h in
    record { tree = read.tree; reads = read.reads; same = same_alike_file read.tree (neat_file file) read.alike ∙ bare_neat_file file }
