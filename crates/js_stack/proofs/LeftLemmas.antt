-- Slots that are left, kept from the last to the next.
use Rattle.std.proofs.Common.{◌≡◌, List, [], ◌∷◌, ◌++◌, Option, Some, None, IfSome, refl, ap, ◌∙◌, append_assoc}
use Rattle.std.specs.Prelude.{reverse}
use Rattle.std.specs.Option.{option_to_list}
use Rattle.std.proofs.lemmas.List.{reverse-append}
use Rattle.js_grammar.specs.View.{plain_slot, plain_slots}
use Rattle.js_grammar.specs.declared.slot.Slot.{Slot}

pub left_push : (ss : List Slot) (s : Slot) → reverse (ss ++ s ∷ []) ≡ s ∷ reverse ss
left_push ss s = reverse-append ss (s ∷ [])

-- what is taken off stood before those that are left
pub left_next : (old new : List Slot) (o : Option Slot) → old ≡ new ++ option_to_list o → IfSome o (λ s. reverse old ≡ s ∷ reverse new)
left_next old new None e = tt
left_next old new (Some s) e = ap reverse e ∙ left_push new s

pub slots_append : (ss rs : List Slot) → plain_slots (ss ++ rs) ≡ plain_slots ss ++ plain_slots rs
slots_append [] rs = refl
slots_append (s ∷ ss) rs = ap (λ xs. plain_slot s ∷ xs) (slots_append ss rs)

pub ruleset left_rules = (left_push, append_assoc)
