use Rattle.std.proofs.Common.{◌≡◌, Some, is_some, sym, ap, ◌∙◌}
use Rattle.std.specs.Str.{bytes_eq}
use Rattle.std.specs.String.{string_bytes}
use Rattle.std.specs.Map.{update}
use Rattle.std.proofs.lemmas.Map.Text.{hash_map_updates_text}
use Rattle.indexmap.specs.IndexMap.{get_by_text}
use Rattle.js_heap.proofs.NameLemmas.{put-name, kept-name}
use Rattle.js_heap.proofs.bindings.with_name.Goals as goal

pub returns-then-contains_key : goal.returns-then-contains_key
returns-then-contains_key c =
    let i = c.args.index.value in
    let has : c.contains_key.result ≡ is_some (get_by_text i c.args.name.now) =
    c.contains_key.ensures ∙ ap (λ m. is_some (get_by_text m c.as_str-text.result.now)) c.deref.ensures ∙ ap (λ n. is_some (get_by_text i n)) c.as_str-text.ensures in
    kept-name (get_by_text i) c.args.name.now c.args.place (sym has ∙ c.if-contains_key.true)

pub returns : goal.returns
returns c =
    let i = c.args.index.value in
    let name = c.args.name.now in
    let has : c.contains_key.result ≡ is_some (get_by_text i name) =
    c.contains_key.ensures ∙ ap (λ m. is_some (get_by_text m c.as_str-text.result.now)) c.deref.ensures ∙ ap (λ n. is_some (get_by_text i n)) c.as_str-text.ensures in
    put-name (get_by_text i) (get_by_text c.insert.new.self) name c.args.place (sym has ∙ c.if-contains_key.false)
    (λ q. hash_map_updates_text (string_bytes c.in_ok-key.key) c.deref_mut.result.now c.insert.new.self _ c.in_ok-insert.ensures.updates q
    ∙ ap (λ m. update bytes_eq (get_by_text m) (string_bytes c.in_ok-key.key) (Some c.args.place) q) c.deref_mut.ensures.value
    ∙ ap (λ n. update bytes_eq (get_by_text i) n (Some c.args.place) q) (c.in_ok-key.ensures.ok ∙ c.as_str-text.ensures))
