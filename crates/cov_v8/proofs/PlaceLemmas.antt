-- The table of a text has the position at each offset.
use Rattle.std.proofs.Common.{◌≡◌, ℕ, zero, suc, ◌+◌, ◌-◌, ◌<◌, ◌≤◌, nat_lt, Bool, true, false, cond, List, [], ◌∷◌, ◌++◌, length, refl, sym, ap, ◌∙◌, append_assoc, arith}
use Rattle.std.specs.Prelude.{nat_le}
use Rattle.std.specs.List.{slice_get}
use Rattle.std.proofs.Common.{Some}
use Rattle.js_terms.specs.declared.place.Pos.{Pos}
use Rattle.js_text.specs.Place.{Place}
use Rattle.js_text.specs.Position.{position_of, utf16_units, saturated, lines_ended}
use Rattle.std.proofs.lemmas.Option.{get_or_from_slice_get}
use Rattle.std.proofs.Common.{subst}
use Rattle.std.specs.Prelude.{get_or}
use Rattle.cov_v8.specs.Coverage.{units, place_after, pos_at}
use Rattle.cov_v8.specs.private.Table.{copies, table_from, table, IsTable}

-- one character more
pub table-moved : (all : List Pos) (old new : Place) (next : ℕ) (here : Pos) → here ≡ position_of old → old.after ≡ next ∷ new.after → new.before ≡ old.before ++ next ∷ []
    → (all ++ copies next here) ++ table_from new.before new.after ≡ all ++ table_from old.before old.after
table-moved all old new next here is after before =
    append_assoc all (copies next here) (table_from new.before new.after)
    ∙ ap (λ h. all ++ (copies next h ++ table_from new.before new.after)) (is ∙ ap (λ a. position_of (record { before = old.before; after = a })) after)
    ∙ ap (λ b. all ++ (copies next (position_of (record { before = old.before; after = next ∷ new.after })) ++ table_from b new.after)) before
    ∙ ap (λ a. all ++ table_from old.before a) (sym after)

-- as many as there are offsets
table-length-by : (b : Bool) (p : Pos) (rest : List Pos) (n : ℕ) → length rest ≡ suc n → length (cond b (p ∷ []) (p ∷ p ∷ []) ++ rest) ≡ suc (cond b 1 2 + n)
table-length-by true p rest n e = omega (arith, e)
table-length-by false p rest n e = omega (arith, e)

pub table-length : (before after : List ℕ) → length (table_from before after) ≡ suc (units after)
table-length before [] = refl
table-length before (c ∷ after) = table-length-by (nat_lt c 0x1_0000) (position_of (record { before = before; after = c ∷ after })) (table_from (before ++ c ∷ []) after) (units after) (table-length (before ++ c ∷ []) after)

-- the one at an offset
table-at-by : (b : Bool) (before after : List ℕ) (c at : ℕ) (rest : List Pos) (later : Place)
    → (cond b 1 2 ≤ at → slice_get rest (at - cond b 1 2) ≡ Some (position_of later))
    → slice_get (cond b (position_of (record { before = before; after = c ∷ after }) ∷ []) (position_of (record { before = before; after = c ∷ after }) ∷ position_of (record { before = before; after = c ∷ after }) ∷ []) ++ rest) at
    ≡ Some (position_of (cond (nat_le (cond b 1 2) at) later (record { before = before; after = c ∷ after })))
table-at-by true before after c zero rest later e = refl
table-at-by true before after c (suc at) rest later e =
    let less : suc at - 1 ≡ at = omega arith in
    let more : nat_le 1 (suc at) ≡ true = grind arith in
    ap (slice_get rest) (sym less) ∙ e (omega arith)
    ∙ ap (λ b. Some (position_of (cond b later (record { before = before; after = c ∷ after })))) (sym more)
table-at-by false before after c zero rest later e = refl
table-at-by false before after c (suc zero) rest later e = refl
table-at-by false before after c (suc (suc at)) rest later e =
    let less : suc (suc at) - 2 ≡ at = omega arith in
    let more : nat_le 2 (suc (suc at)) ≡ true = grind arith in
    ap (slice_get rest) (sym less) ∙ e (omega arith)
    ∙ ap (λ b. Some (position_of (cond b later (record { before = before; after = c ∷ after })))) (sym more)

pub table-at : (before after : List ℕ) (at : ℕ) → at ≤ units after → slice_get (table_from before after) at ≡ Some (position_of (place_after before after at))
table-at before [] zero within = refl
table-at before [] (suc at) within = absurd (omega (arith, within))
table-at before (c ∷ after) at within =
    table-at-by (nat_lt c 0x1_0000) before after c at (table_from (before ++ c ∷ []) after) (place_after (before ++ c ∷ []) after (at - utf16_units c))
    (λ more. table-at (before ++ c ∷ []) after (at - utf16_units c) (omega (arith, within, more)))

pub at-table : (cs : List ℕ) (positions : List Pos) (at : ℕ) (d : Pos) → positions ≡ table cs → at < length positions → get_or positions at d ≡ pos_at cs at
at-table cs positions at d is within =
    let fits : at ≤ units cs = omega (arith, within, ap length is, table-length [] cs) in
    ap (λ (t : List Pos). get_or t at d) is ∙ get_or_from_slice_get (table cs) at (pos_at cs at) d (table-at [] cs at fits)

-- its lines count from 1
from-one : (n : ℕ) → 0 < saturated (1 + n)
from-one n = omega arith

pub line-from-one : (positions : List Pos) (at : ℕ) (d : Pos) → IsTable positions → at < length positions → 0 < (get_or positions at d).line
line-from-one positions at d (cs, is) within =
    let place = place_after [] cs at in
    subst (λ (p : Pos). 0 < p.line) (sym (at-table cs positions at d is within)) (from-one (lines_ended place.before place.after))
