use Rattle.std.proofs.Common.{ap, ◌∙◌}
use Rattle.std.proofs.Common.{not, map}
use Rattle.std.proofs.lemmas.Fn.{filter_same}
use Rattle.std.specs.Str.{bytes_eq}
use Rattle.js_machine.specs.declared.state.CachedFile.{CachedFile}
use Rattle.js_machine.specs.private.State.{plain_cached, store_in}
use Rattle.js_machine.proofs.Filed.{left}
use Rattle.std.proofs.Common.{rules}
use Rattle.js_machine.proofs.file_actions.leave_cache.Goals as goal

pub returns : goal.returns
returns c = λ base.
    let kept = filter_same _ (λ (x : CachedFile). not (bytes_eq x.path c.args.path.now)) _ (λ x b g k. search rules) _ _ c.retain.ensures.filtered in
    ap (λ cs. record (store_in base c.args.state.now) { cache = cs }) (ap (map plain_cached) kept ∙ left c.args.path.now c.args.state.now.cache.items)
