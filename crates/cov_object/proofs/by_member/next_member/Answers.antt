use Rattle.std.proofs.Common.{Some}
use Rattle.std.proofs.lemmas.Result.{on_ok_weaker}
use Rattle.json.specs.Json.{value}
use Rattle.serde_json.specs.Find.{as_str}
use Rattle.cov_object.specs.Read.{source_map_text_of}
use Rattle.cov_object.specs.SourceMapText.{most_depth}
use Rattle.cov_object.specs.private.ByMember.{is_key, maps_with, with_member}
use Rattle.cov_object.proofs.JsonValue.{data_of}
use Rattle.cov_object.proofs.ByMember.{mapped, with_maps, with-path, with-hash, with-inputSourceMap, with-map}
use Rattle.cov_object.proofs.by_member.next_member.Goals as goal

pub returns-in_ok-has_path-in-path-clause-ok : goal.returns-in_ok-has_path-in-path-clause-ok
returns-in_ok-has_path-in-path-clause-ok c =
    let key = c.args.key.now in
    let name = c.args.name.now in
    let parts = c.args.parts.now in
    mapped (λ d. is_key key (as_str d)) (λ is. record { has_path = is; maps = parts.maps; hash = parts.hash; source_map = parts.source_map }) (λ d. with_member key name d parts)
    (data_of (value most_depth) c.args.reader.now) _ _ (with-path key name parts c.in-path.is) c.in_ok-has_path-in-path.ensures.ok

pub returns-in_ok-hash-in-hash-clause-ok : goal.returns-in_ok-hash-in-hash-clause-ok
returns-in_ok-hash-in-hash-clause-ok c =
    let key = c.args.key.now in
    let name = c.args.name.now in
    let parts = c.args.parts.now in
    mapped as_str (λ hash. record { has_path = parts.has_path; maps = parts.maps; hash = Some hash; source_map = parts.source_map }) (λ d. with_member key name d parts)
    (data_of (value most_depth) c.args.reader.now) _ _ (with-hash key name parts c.in-hash.is) c.in_ok-hash-in-hash.ensures.ok

pub returns-in_ok-map-in-inputSourceMap-clause-ok : goal.returns-in_ok-map-in-inputSourceMap-clause-ok
returns-in_ok-map-in-inputSourceMap-clause-ok c =
    let key = c.args.key.now in
    let name = c.args.name.now in
    let parts = c.args.parts.now in
    mapped source_map_text_of (λ map. record { has_path = parts.has_path; maps = parts.maps; hash = parts.hash; source_map = Some map }) (λ d. with_member key name d parts)
    (data_of (value most_depth) c.args.reader.now) _ _ (with-inputSourceMap key name parts c.in-inputSourceMap.is) c.in_ok-map-in-inputSourceMap.ensures.ok

pub returns-in_default-clause-ok : goal.returns-in_default-clause-ok
returns-in_default-clause-ok c =
    let key = c.args.key.now in
    let name = c.args.name.now in
    let parts = c.args.parts.now in
    let other = c.in_default in
    on_ok_weaker c.next_map.result
    (mapped (λ d. maps_with name d parts.maps) (with_maps parts) (λ d. with_member key name d parts)
    (data_of (value most_depth) c.args.reader.now) _ _ (with-map key name parts other.not-path other.not-hash other.not-inputSourceMap))
    c.next_map.ensures.ok
