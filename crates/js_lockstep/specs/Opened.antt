-- A counted file with what stands before its statements, after its directives.
use Rattle.std.specs.Prelude.{◌≡◌, ℕ, ◌+◌, ◌++◌, true, List, length}
use Rattle.js_terms.specs.declared.words.Comment.{Comment}
use Rattle.js_tree.specs.Plain.{File, MakeFile, Stmts}
use Rattle.js_tree.specs.Linked.{Unmarked, Numbers, link_stmts, link_file}
use Rattle.js_tree.specs.Codes.{functions_stmts}
use Rattle.cov_rewritten.specs.Rewritten.{after_directives, rewritten_file}
use Rattle.js_suits.specs.Rewritten.{rewritten_stmts}
use Rattle.js_suits.specs.Settings.{Within, Tests, setting_of}
use Rattle.js_suits.specs.Programs.{instrumented_file}
use Rattle.js_lockstep.specs.Programs.{LinksAlone, Ordered, after}

-- it is the rewritten file
abbrev pub OpensFiles : Type 0
OpensFiles = (t : Tests) (preamble : ℕ → Stmts) → ((file : ℕ) (xs : Stmts) → t.opened file xs ≡ after_directives (preamble file) xs) → (file : ℕ) (tree : File) →
    instrumented_file (setting_of t) true file tree ≡ rewritten_file t.code (λ number. t.shift (Within file) + number) (preamble file) tree

-- its functions are those before it, and then its own
abbrev pub OpensInOrder : Type 0
OpensInOrder = (first xs : Stmts) → functions_stmts (after_directives first xs) ≡ functions_stmts first ++ functions_stmts xs

-- it is linked as it is, but for what stands before it
abbrev pub LinksFile : Type 0
LinksFile = (t : Tests) (shift : ℕ) → LinksAlone (setting_of t) → (preamble xs : Stmts) (comments : List Comment) (k : Numbers) (first : ℕ) →
    (link_stmts Unmarked preamble k).next.code ≡ shift + first → Ordered (functions_stmts xs) first →
    link_file Unmarked (rewritten_file t.code (λ number. shift + number) preamble (MakeFile xs comments)) k
    ≡ record {
      tree = MakeFile (after_directives (link_stmts Unmarked preamble k).tree (rewritten_stmts (setting_of t) shift true xs)) comments;
      next = after (link_stmts Unmarked preamble k).next (length (functions_stmts xs));
    }
