-- What a sink has taken after several pieces.
use Rattle.std.proofs.Common.{◌≡◌, ℕ, List, [], ◌++◌, ◌-◌, length, take, drop, Option, None, Some, refl, ap, arith, append_assoc, sym, ◌∙◌}
use Rattle.std.proofs.lemmas.List.{append-nil, length-append, take-append-drop, take_rest}
use Rattle.std.proofs.Math.Seq.{take-append_seam}
use Rattle.cov_base.specs.Sink.{after_more, TakesPrefix}

-- two pieces more are their join more
pub after_more-append : (taken : Option (List ℕ)) (a b : List ℕ) → after_more (after_more taken a) b ≡ after_more taken (a ++ b)
after_more-append None a b = refl
after_more-append (Some t) a b = ap Some (append_assoc t a b)

-- nothing more changes nothing
pub after_more-nil : (taken : Option (List ℕ)) → after_more taken [] ≡ taken
after_more-nil None = refl
after_more-nil (Some t) = ap Some (append-nil t)

-- one piece more after what was done
pub after_more-next : (before now after : Option (List ℕ)) (done more : List ℕ) → now ≡ after_more before done → after ≡ after_more now more → after ≡ after_more before (done ++ more)
after_more-next before now after done more so_far next = next ∙ ap (λ t. after_more t more) so_far ∙ after_more-append before done more

-- where no more was taken, a prefix was: what stands before the rest
pub TakesPrefix-before : (before now after : Option (List ℕ)) (done rest bytes : List ℕ) → bytes ≡ done ++ rest → now ≡ after_more before done → after ≡ after_more now [] → TakesPrefix before after bytes
TakesPrefix-before before now after done rest bytes split so_far none =
    let prefix : take (length done) bytes ≡ done = ap (take (length done)) split ∙ take-append_seam done rest in
    (length done, rw split (omega (arith, length-append done rest)), none ∙ after_more-nil now ∙ so_far ∙ ap (after_more before) (sym prefix))

-- the first bytes of the rest join what came before, and the others are the rest
pub split-more : (done rest bytes : List ℕ) (count : ℕ) → bytes ≡ done ++ rest → bytes ≡ (done ++ take count rest) ++ take (length rest - count) (drop count rest)
split-more done rest bytes count split =
    rw (take_rest, append_assoc, take-append-drop) split
