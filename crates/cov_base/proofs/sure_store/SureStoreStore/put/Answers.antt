use Rattle.std.proofs.Common.{◌≡◌, is_ok, true, ap, sym, ◌∙◌}
use Rattle.cov_base.proofs.Sets.{OnOk-at_ok, PutsAt-from_set}
use Rattle.cov_base.proofs.sure_store.SureStoreStore.put.Goals as goal

-- `insert` answered `Ok`, since `map_err` did
pub returns-clause-value : goal.returns-clause-value
returns-clause-value c =
    let inserted : is_ok c.insert.result ≡ true = sym c.map_err.ensures.variant ∙ ap is_ok c.in_ok-map_err.was in
    PutsAt-from_set c.args.self.now.files c.insert.new.self c.in_ok-key.key c.in_ok-value.value _ _ c.in_ok-key.ensures.ok c.in_ok-value.ensures.items
    (OnOk-at_ok _ inserted c.insert.ensures.updates)
