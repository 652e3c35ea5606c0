-- What a sure store holds.
use Rattle.cov_base.specs.Store.{Held}
use Rattle.cov_base.specs.Files.{contents_of}
use Rattle.cov_base.specs.declared.sure_store.SureStore.{SureStore}

-- the bytes that it holds at each path
abbrev pub held_of : SureStore → Held
held_of store = contents_of store.files
