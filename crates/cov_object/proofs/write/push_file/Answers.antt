use Rattle.std.proofs.Common.{◌++◌, true, ap, ◌∙◌, codes}
use Rattle.serde_json.specs.Data.{string}
use Rattle.cov_object.specs.private.Piece.{member_text}
use Rattle.cov_object.proofs.WriteLemmas.{file-pieces}
use Rattle.cov_object.proofs.write.push_file.Goals as goal

pub returns : goal.returns
returns c =
    file-pieces c.args.file.now c.as_slice.result.now c.as_slice-2.result.now c.as_slice-3.result.now _ _ _ _ _ _ _ _ _
    c.as_slice.ensures.value c.as_slice-2.ensures.value c.as_slice-3.ensures.value
    c.in_ok-push.ensures.items c.in_ok-push_counted.ensures c.in_ok-push_counted-2.ensures c.in_ok-push_hash.ensures c.in_ok-push_source_map.ensures
    (c.in_ok-push_text.ensures ∙ ap (λ path. c.push_source_map.new.out.items ++ member_text true (codes "path") (string path)) c.as_str.ensures)
    c.in_ok-push_counted-3.ensures c.in_ok-push-2.ensures.items
