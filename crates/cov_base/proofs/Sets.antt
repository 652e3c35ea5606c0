-- What a map holds once a path was set in it.
use Rattle.std.proofs.Common.{◌≡◌, ℕ, List, Vec, String, Some, Ok, Err, OnOk, Result, is_ok, true, ap, sym, ◌∙◌}
use Rattle.std.proofs.lemmas.Bool.{cond-true, cond-false, false_from_ne_true}
use Rattle.std.proofs.lemmas.Map.Text.{btree_map_updates_text}
use Rattle.std.proofs.lemmas.Slice.Eq.{bytes_eq-Decides}
use Rattle.std.specs.BTreeMap.{BTreeMap, Updates}
use Rattle.std.specs.Option.{option_map}
use Rattle.std.specs.String.{string_bytes, string_cmp}
use Rattle.std.specs.Str.{bytes_eq}
use Rattle.std.specs.declared.alloc.Global.{Global}
use Rattle.cov_base.specs.Files.{contents_of}
use Rattle.cov_base.specs.Store.{PutsAt}

-- what holds on `Ok`, where a result is `Ok`
pub OnOk-at_ok : {T E P : Type 0} (result : Result T E) → is_ok result ≡ true → OnOk result P → P
OnOk-at_ok (Ok value) ok holds = holds
OnOk-at_ok (Err error) ok holds = absurd (cc)

-- the path has the bytes, and all others what they had
pub PutsAt-from_set : (before after : BTreeMap (String Global) (Vec ℕ Global)) (key : String Global) (value : Vec ℕ Global) (path bytes : List ℕ)
    → string_bytes key ≡ path → value.items ≡ bytes → Updates string_cmp before after key (Some value)
    → PutsAt path bytes (Some (contents_of before)) (Some (contents_of after)) (Ok tt)
PutsAt-from_set before after key value path bytes same_path same_bytes set =
    let at = btree_map_updates_text (string_bytes key) before after (Some value) set in
    record {
      others = λ other differs. ap (option_map (λ v. v.items)) (at other ∙ cond-false (bytes_eq (string_bytes key) other) _ _
          (false_from_ne_true _ (λ same. differs (sym ((bytes_eq-Decides (string_bytes key) other).0 same) ∙ same_path))));
      value = ap (option_map (λ v. v.items)) (at path ∙ cond-true (bytes_eq (string_bytes key) path) _ _ ((bytes_eq-Decides (string_bytes key) path).1 same_path))
          ∙ ap Some same_bytes;
    }
