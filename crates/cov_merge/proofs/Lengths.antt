-- Each entry has as many sums as counts.
use Rattle.std.proofs.Common.{◌≡◌, ℕ, zero, suc, ◌<◌, Bool, true, false, cond, List, [], ◌∷◌, length, fold, get_or, refl, ap, ◌∙◌, subst, arith}
use Rattle.cov_merge.specs.declared.tally.Tally.{Tally}
use Rattle.cov_merge.specs.Kind.{Kind}
use Rattle.cov_merge.specs.Sums.{plus, added}
use Rattle.cov_merge.specs.private.Lengths.{AreLong}
use Rattle.cov_merge.specs.private.Table.{tallies_of}

pub suc-same : (m n : ℕ) → suc m ≡ suc n → m ≡ n
suc-same m n e = cc

pub length-plus : (sums counts : List ℕ) → length sums ≡ length counts → length (plus sums counts) ≡ length sums
length-plus [] counts e = refl
length-plus (sum ∷ sums) [] e = absurd (omega arith)
length-plus (sum ∷ sums) (count ∷ counts) e = ap suc (length-plus sums counts (suc-same _ _ e))

module _ {T : Type 0} (kind : Kind T) (same_long : (a b : T) → kind.same a b ≡ true → length (kind.counts a) ≡ length (kind.counts b)) where
  abbrev Tallies : Type 0
  Tallies = List (T × List ℕ)

  abbrev added_by : Bool → T × List ℕ → Tallies → T → Tallies
  added_by b t ts e = cond b ((t.0, plus t.1 (kind.counts e)) ∷ ts) (t ∷ added kind ts e)

  long-by : (b : Bool) (t : T × List ℕ) (ts : Tallies) (e : T) → kind.same t.0 e ≡ b → AreLong kind (t ∷ ts) → AreLong kind (added kind ts e) → AreLong kind (added_by b t ts e)
  long-by true t ts e h long rest = (length-plus t.1 (kind.counts e) (long.0 ∙ same_long t.0 e h) ∙ long.0, long.1)
  long-by false t ts e h long rest = (long.0, rest)

  pub long-added : (ts : Tallies) (e : T) → AreLong kind ts → AreLong kind (added kind ts e)
  long-added [] e long = (refl, tt)
  long-added (t ∷ ts) e long = long-by (kind.same t.0 e) t ts e refl long (long-added ts e long.1)

  pub long-folded : (ts : Tallies) (es : List T) → AreLong kind ts → AreLong kind (fold (added kind) ts es)
  long-folded ts [] long = long
  long-folded ts (e ∷ es) long = long-folded (added kind ts e) es (long-added ts e long)

-- one of them
pub long-at : {T : Type 0} (kind : Kind T) (tallies : List (Tally T)) (place : ℕ) (tally : Tally T) → place < length tallies → get_or tallies place tally ≡ tally →
    AreLong kind (tallies_of tallies) → length tally.sums.items ≡ length (kind.counts tally.entry.now)
long-at kind [] place tally below is long = absurd (omega arith)
long-at {T} kind (t ∷ ts) zero tally below is long = subst (λ (u : Tally T). length u.sums.items ≡ length (kind.counts u.entry.now)) is long.0
long-at kind (t ∷ ts) (suc place) tally below is long = let less : place < length ts = omega arith in long-at kind ts place tally less is long.1
