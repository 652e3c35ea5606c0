-- Bytes that are JSON, and lists that aren't empty.
use Rattle.std.proofs.Common.{◌≡◌, ℕ, ◌==◌, true, false, cond, List, [], ◌∷◌, length, Option, Some, Err, refl, ap, ◌∙◌}
use Rattle.std.specs.Prelude.{nat_le}
use Rattle.serde_json.specs.Data.{Data}
use Rattle.serde_json.specs.declared.value.Value.{Value}
use Rattle.serde_json.specs.View.{items_view}
use Rattle.cov_object.specs.JsonText.{json_of}
use Rattle.cov_object.specs.Read.{most_bytes}
use Rattle.cov_v8.specs.declared.fault.V8Fault.TheVariants as fault
use Rattle.cov_v8.specs.Read.{or_no_json, v8_in, nonempty}

-- bytes that aren't too long tell what the value does that they are
pub short_v8 : (bytes : List ℕ) (o : Option Data) → nat_le (length bytes) most_bytes ≡ true → json_of bytes ≡ o → v8_in bytes ≡ or_no_json o
short_v8 bytes o short is = ap (λ b. cond b (or_no_json (json_of bytes)) (Err fault.TooLong)) short ∙ ap or_no_json is

-- a list that isn't empty
pub some_items : (values : List Value) → (length values == 0) ≡ false → nonempty (items_view values) ≡ Some (items_view values)
some_items [] some = cc
some_items (value ∷ values) some = refl
