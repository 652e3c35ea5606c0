use Rattle.std.proofs.Common.{◌+◌, Some, sym, ap, ◌∙◌}
use Rattle.json.specs.Json.{value}
use Rattle.cov_object.specs.SourceMapText.{most_depth}
use Rattle.cov_object.specs.Read.{file_of}
use Rattle.cov_object.specs.private.ByMember.{parts_of, file_told}
use Rattle.cov_object.proofs.JsonValue.{data_of}
use Rattle.cov_object.proofs.ByMember.{mapped, file-told}
use Rattle.cov_object.proofs.by_file.next_answer.Goals as goal

pub returns-clause-ok : goal.returns-clause-ok
returns-clause-ok c =
    let key = c.args.key.now in
    let left = c.next_file.new.reader in
    mapped (parts_of key) (file_told key) (file_of key) (data_of (value (most_depth + 1)) c.args.reader.now) c.in_ok-parts.parts left (λ d. sym (file-told key d)) c.in_ok-parts.ensures.ok
    ∙ ap (λ answer. Some (answer, left)) (sym c.in_ok-answer_of_parts.ensures)
