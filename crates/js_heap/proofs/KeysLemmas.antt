-- Keys in their order.
use Rattle.std.proofs.Common.{◌≡◌, ℕ, suc, ◌<◌, ◌+◌, ◌-◌, true, List, [], ◌∷◌, ◌++◌, append_assoc, add-one, pos, sym, ap, ◌∙◌, arith}
use Rattle.js_value.specs.declared.key.Key.{Key}
use Rattle.js_value.specs.Numbers.{decimal_text}
use Rattle.js_value.specs.Objects.{index_keys}

-- one index more
pub index_keys-more : (keys after : List Key) (k : Key) (count i : ℕ) → i < count → k ≡ record { key = decimal_text (pos i); enumerable = true } → after ≡ keys ++ k ∷ [] →
    after ++ index_keys (i + 1) (count - (i + 1)) ≡ keys ++ index_keys i (count - i)
index_keys-more keys after k count i lt is made =
    let left = count - suc i in
    let one : count - i ≡ suc left = omega arith in
    rw add-one (ap (λ ks. ks ++ index_keys (suc i) left) (made ∙ ap (λ x. keys ++ x ∷ []) is)
    ∙ append_assoc keys (record { key = decimal_text (pos i); enumerable = true } ∷ []) (index_keys (suc i) left)
    ∙ ap (λ n. keys ++ index_keys i n) (sym one))
