-- A table that has a file's hints says what they leave.
use Rattle.std.proofs.Common.{◌≡◌, List, Option, ap, if◌then◌else◌}
use Rattle.std.proofs.Math.Path.{fun_ext}
use Rattle.js_tree.specs.Comments.{hint_before, ignores_file}
use Rattle.js_tree.specs.Hints.{Ignored, Heeding, heed_comments}
use Rattle.js_tree.specs.declared.hint.Hint.{Hint}
use Rattle.js_terms.specs.declared.place.Pos.{Pos}
use Rattle.js_terms.specs.declared.words.Comment.{Comment}

pub left_same : (hints : Pos → Option Hint) (comments : List Comment) → ((token : Pos) → hints token ≡ hint_before comments token) →
    (if ignores_file comments then Ignored else Heeding hints) ≡ heed_comments comments
left_same hints comments h = ap (λ (f : Pos → Option Hint). if ignores_file comments then Ignored else Heeding f) (fun_ext h)
