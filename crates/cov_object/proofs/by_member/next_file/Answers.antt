use Rattle.std.proofs.Common.{◌+◌, Some, length, sym, ap, ◌∙◌, arith}
use Rattle.std.proofs.lemmas.Result.{IfOk-weaker}
use Rattle.json.specs.Json.{parse_map, value}
use Rattle.serde_json.specs.Data.{object, no_members}
use Rattle.cov_object.specs.SourceMapText.{most_depth}
use Rattle.cov_object.specs.private.ByMember.{parts_of}
use Rattle.cov_object.proofs.JsonValue.{data_of, data_members, opens_object}
use Rattle.cov_object.proofs.ByMember.{twice, none-read}
use Rattle.cov_object.proofs.by_member.next_file.Goals as goal

pub returns-then-entered-clause-ok : goal.returns-then-entered-clause-ok
returns-then-entered-clause-ok c =
    let rest = c.enter_object.new.reader in
    let whole = opens_object (most_depth + 1) c.args.reader.now rest (omega arith) (c.enter_object.ensures.object (grind arith)) in
    IfOk-weaker c.next_parts.result _ _
    (λ parts e. ap (parse_map (parts_of c.args.key.now)) whole
    ∙ twice object (parts_of c.args.key.now) (data_members (value most_depth) (length rest) no_members rest)
    ∙ e)
    c.next_parts.ensures.ok

pub returns-then-entered-clause-err : goal.returns-then-entered-clause-err
returns-then-entered-clause-err c refused =
    let rest = c.enter_object.new.reader in
    let whole = opens_object (most_depth + 1) c.args.reader.now rest (omega arith) (c.enter_object.ensures.object (grind arith)) in
    whole ∙ ap (parse_map object) (c.next_parts.ensures.err refused)

pub returns-else-entered-clause-ok : goal.returns-else-entered-clause-ok
returns-else-entered-clause-ok c =
    none-read c.args.key.now (data_of (value (most_depth + 1)) c.args.reader.now) c.enter_object.new.reader (c.enter_object.ensures.other (grind arith))
    ∙ ap (λ parts. Some (parts, c.enter_object.new.reader)) (sym c.new.ensures)
