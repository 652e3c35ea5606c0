use Rattle.std.proofs.Common.{◌≡◌, ◌≤◌, ◌∷◌, false, map, length, refl, sym, ap, ◌∙◌, subst, append_assoc}
use Rattle.std.proofs.lemmas.Iterator.Consumers.{YieldsList-from_rest, YieldsList-end}
use Rattle.serde_json.specs.Written.{compact_text}
use Rattle.cov_object.specs.Json.{file_data}
use Rattle.cov_object.specs.private.Piece.{key_text}
use Rattle.cov_object.proofs.WriteLemmas.{begun, is_later, now_more, one_more, is_later-more, all_written}
use Rattle.cov_object.specs.private.Formed.{AreFormed}
use Rattle.cov_object.specs.Read.{most_bytes, coverage_of}
use Rattle.cov_object.proofs.Readable.{AreFormed-more, map-read_back}
use Rattle.cov_object.proofs.write.write_json.Goals as goal

pub loop-file-preserved : goal.loop-file-preserved
loop-file-preserved c =
    let so_far = c.loop-file.invariant in
    let files = map (λ file. file.now) c.loop-file.yielded in
    let file = c.in-Some.file.now in
    let more = now_more c.loop-file.yielded c.in-Some.file in
    record {
      text = one_more files file c.loop-file.later _ _ _ so_far.text so_far.comma refl (c.in_ok-push_member.ensures ∙ sym (append_assoc c.loop-file.out.items (key_text c.loop-file.later file.path) (compact_text (file_data file)))) ∙ ap (λ all. 123 ∷ begun false all) (sym more);
      comma = sym (ap (is_later false) more ∙ is_later-more false files file);
      formed = subst AreFormed (sym more) (AreFormed-more files file so_far.formed c.look_at_file.ensures);
    }

pub returns-clause-text : goal.returns-clause-text
returns-clause-text c =
    let files = c.args.map.now in
    let all : map (λ file. file.now) c.loop-file.yielded ≡ files =
    (YieldsList-end (YieldsList-from_rest {s = c.into_iter-file-iterator.result} files cc) c.loop-file.yielded c.loop-file.file-iterator c.loop-file.yielded_by c.next.result c.next.new.self c.in-None.is c.next.ensures.steps).0 in
    all_written files _ _ c.files-file-items.ensures.order (c.loop-file.invariant.text ∙ ap (λ some. 123 ∷ begun false some) all) c.in_ok-push-2.ensures.items

pub returns-clause-reads_back : goal.returns-clause-reads_back
returns-clause-reads_back c small short =
    let files = c.args.map.now in
    let all : map (λ file. file.now) c.loop-file.yielded ≡ files =
    (YieldsList-end (YieldsList-from_rest {s = c.into_iter-file-iterator.result} files cc) c.loop-file.yielded c.loop-file.file-iterator c.loop-file.yielded_by c.next.result c.next.new.self c.in-None.is c.next.ensures.steps).0 in
    let text = returns-clause-text c in
    ap coverage_of text
    ∙ map-read_back files c.files-file-items.ensures.order (subst AreFormed all c.loop-file.invariant.formed) small (subst (λ t. length t ≤ most_bytes) text short)
