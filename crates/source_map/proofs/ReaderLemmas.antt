-- A root before a text, and the map that bytes tell which are JSON.
use Rattle.std.proofs.Common.{◌≡◌, ℕ, ◌==◌, Bool, true, false, cond, List, [], ◌∷◌, ◌++◌, length, Option, Err, sym, ap, ◌∙◌}
use Rattle.std.specs.Prelude.{codes, nat_eq, nat_le}
use Rattle.std.specs.List.{ends_with}
use Rattle.serde_json.specs.Data.{Data}
use Rattle.source_map.specs.declared.fault.MapFault.TheVariants as fault
use Rattle.cov_object.specs.JsonText.{json_of}
use Rattle.source_map.specs.Read.{prefix, or_no_json, source_map_of}

pub slash_more : (root : List ℕ) (ends : Bool) → (length root == 0) ≡ false → ends ≡ ends_with nat_eq root (codes "/") → ends ≡ false → root ++ codes "/" ≡ prefix root
slash_more [] ends some same other = cc
slash_more (byte ∷ bytes) ends some same other = ap (λ t. cond t (byte ∷ bytes) ((byte ∷ bytes) ++ codes "/")) (sym other ∙ same)

pub short_map : (most : ℕ) (bytes : List ℕ) (o : Option Data) → nat_le (length bytes) most ≡ true → json_of bytes ≡ o → source_map_of most bytes ≡ or_no_json o
short_map most bytes o short is = ap (λ b. cond b (or_no_json (json_of bytes)) (Err fault.TooLong)) short ∙ ap or_no_json is
