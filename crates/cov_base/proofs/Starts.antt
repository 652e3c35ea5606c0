-- What was read of known bytes.
use Rattle.std.proofs.Common.{◌≡◌, ℕ, ◌≤◌, List, ◌++◌, length, take, Option, None, Some, IfSome, ap, sym, ◌∙◌, append_assoc}
use Rattle.std.proofs.Math.Seq.{take-append_seam}
use Rattle.std.proofs.lemmas.List.{append-nil, take_all}
use Rattle.std.specs.Io.KnownBytes.{Consumes, IsAtEnd}

-- two pieces that were read are their join
Consumes-join : (first second third : Option (List ℕ)) (piece more : List ℕ) → Consumes first second piece → Consumes second third more → Consumes first third (piece ++ more)
Consumes-join None second third piece more read then_read = tt
Consumes-join (Some a) None third piece more read then_read = absurd read
Consumes-join (Some a) (Some b) None piece more read then_read = absurd then_read
Consumes-join (Some a) (Some b) (Some c) piece more read then_read = read ∙ ap (λ r. piece ++ r) then_read ∙ sym (append_assoc piece more c)

-- what was read is all bytes so far and those more
pub Consumes-more : (first second third : Option (List ℕ)) (before after more : List ℕ) → Consumes first second before → Consumes second third more → after ≡ before ++ more → Consumes first third after
Consumes-more first second third before after more read then_read joined = rw joined (Consumes-join first second third before more read then_read)

-- as many bytes as are wanted are the first ones
pub start-full : (first now : Option (List ℕ)) (bytes : List ℕ) → Consumes first now bytes → (limit : ℕ) → length bytes ≡ limit → IfSome first (λ all. bytes ≡ take limit all)
start-full None now bytes read limit full = tt
start-full (Some a) None bytes read limit full = absurd read
start-full (Some a) (Some b) bytes read limit full = rw (read, ← full) (sym (take-append_seam bytes b))

-- fewer are all that there are, where none is left
pub start-ended : (first next : Option (List ℕ)) (bytes : List ℕ) → Consumes first next bytes → IsAtEnd next → (limit : ℕ) → length bytes ≤ limit → IfSome first (λ all. bytes ≡ take limit all)
start-ended None next bytes read end limit within = tt
start-ended (Some a) None bytes read end limit within = absurd read
start-ended (Some a) (Some b) bytes read end limit within =
    let whole : a ≡ bytes = read ∙ ap (λ r. bytes ++ r) end ∙ append-nil bytes in
    rw whole (sym (take_all limit bytes within))
