-- A file whose tokens spell the same one but for places.
use Rattle.std.proofs.Common.{◌≡◌, Bool, true, List, [], ◌∷◌, ◌++◌, refl, sym, ap, ◌∙◌}
use Rattle.js_tree.specs.Plain.{File, MakeFile}
use Rattle.js_tree.specs.Same.{bare_stmts}
use Rattle.js_text.specs.Token.{Token, End}
use Rattle.js_reading.specs.Makes.{with_directives}
use Rattle.js_reading.specs.Sentences
use Rattle.js_reading.specs.Sentences.{closes, Sentence}
use Rattle.js_layout.specs.Tokens.{file_tokens}
use Rattle.js_layout.specs.Neat.{neat_stmts, neat_file}
use Rattle.js_layout.specs.Unplaced.{unplaced_file}
use Rattle.js_layout.specs.Printable.{body_of, Printable}
use Rattle.js_layout.proofs.Follows.{Follows}
use Rattle.js_layout.proofs.Spelt.{WillBody}
use Rattle.js_layout.proofs.Bare.{bare_neat_stmts}
use Rattle.js_layout.proofs.BareUnplaced.{same_alike}
use Rattle.js_layout.proofs.StatementSteps.{of_kind}
use Rattle.js_layout.proofs.StatementThis.{this_same, this_directives}

-- these tokens and the end are a sentence of a tree that is this one with its parentheses, but for places
pub record SpeltFile (file : File) (ts : List Token) (end : Token) : Type 0 where
  pub tree : File
  pub sentence : Sentence tree (ts ++ end ∷ [])
  pub alike : unplaced_file tree ≡ unplaced_file (neat_file file)

pub spelt_file : (file : File) → Printable file → WillBody (neat_stmts (body_of file)) → (line : Bool) (ts : List Token) (end : Token) → Follows line (file_tokens (neat_file file)) ts → end.kind ≡ End → SpeltFile file ts end
spelt_file (MakeFile ss comments) printable will line ts end h stop =
    let x = will line ts end h (of_kind (λ t. closes t ≡ true) end End stop refl) in
    let same : bare_stmts (with_directives x.tree) ≡ bare_stmts ss = same_alike (with_directives x.tree) (neat_stmts ss) x.same ∙ bare_neat_stmts ss in
    record {
      tree = MakeFile (with_directives x.tree) [];
      sentence = Sentences.file end stop (x.spells end.loc) (sym (this_directives x.tree) ∙ this_same (with_directives x.tree) ss same ∙ printable.this);
      alike = ap (λ y. MakeFile y []) x.same;
    }
