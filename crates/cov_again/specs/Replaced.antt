-- The program in which each counted file of a program stands rewritten, as it is read: none is counted any more, and no function has a
-- number.
use Rattle.std.specs.Prelude.{ℕ, suc, false, List, [], ◌∷◌, Some, if◌then◌else◌}
use Rattle.js_tree.specs.Plain.{File}
use Rattle.js_meaning.specs.Program.{Source, Sources}
use Rattle.cov_hash.specs.Hash.{hash_text}
use Rattle.cov_object.specs.Json.{file_data}
use Rattle.cov_rewritten.specs.Whole.{rewritten}
use Rattle.cov_suits.specs.Suited.{own_name}
use Rattle.cov_counted.specs.Accepted.{Content, zero_of}

-- of a file of which this was read: with the name of its function, the file's path and hash, and zero for each of its constructs
abbrev pub rewritten_tree : Content → Source → File
rewritten_tree content source =
    rewritten (own_name (Some source)) source.path (hash_text content.bytes) (file_data (zero_of content (Some source))) source.tree

abbrev pub replaced_source : Content → Source → Source
replaced_source content source =
    record { path = source.path; tree = if source.counted then rewritten_tree content source else source.tree; counted = false }

-- the files from one on, each with what was read of it
abbrev pub replaced_sources : (content : ℕ → Content) → (file : ℕ) → List Source → List Source
replaced_sources content file [] = []
replaced_sources content file (source ∷ sources) = replaced_source (content file) source ∷ replaced_sources content (suc file) sources

abbrev pub replaced : (content : ℕ → Content) → Sources → Sources
replaced content p = record { files = replaced_sources content 0 p.files; prelude = p.prelude }
