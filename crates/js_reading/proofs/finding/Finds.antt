-- What is found at a turn, or ahead of a token that is refused, begins a form where it is said.
use Rattle.std.proofs.Common.{◌≡◌, List, [], ◌∷◌, ◌++◌, Some, None, refl, sym, ap, ◌∙◌, append_assoc}
use Rattle.js_terms.specs.declared.place.Loc.{Loc}
use Rattle.js_text.specs.Token.{Token}
use Rattle.js_reading.specs.Turns.{Config, Start, turn, run}
use Rattle.js_reading.specs.Unsupported.{Unsupported, IsKey}
use Rattle.js_reading.specs.Found.{Find, or_else, first_of, one, group, outside, called, parameter, Turns, two_back, proto_back, three_back, finds, found, three_ahead, three_over, aheads, ahead, further, Searched, not_begun, searched, Apart, BegunAt}
use Rattle.js_reading.proofs.finding.Begun.{EachOf, none_left, where_found, holds_of, BeginsThere, begins_so, one_begins, two_begins, three_begins, proto_begun, this_found}
use Rattle.js_reading.proofs.finding.BegunGroups.{group_begins}
use Rattle.js_reading.proofs.finding.BegunCalls.{called_begins}
use Rattle.js_reading.proofs.finding.BegunParameters.{parameter_begins}
use Rattle.js_reading.proofs.finding.Found.{searched_run}
use Rattle.js_reading.proofs.finding.Further.{further_stops}
use Rattle.js_reading.proofs.finding.Keys.{no_key_read, no_key_unfound}
use Rattle.js_reading.proofs.finding.Whole.{off_at}

begun_here : (ts : List Token) (c : Config) (t : Token) (us : List Token) (x : Unsupported × Loc) → run Start ts ≡ Some c → (IsKey ts (t ∷ us) → ⊥) → BeginsThere c t us x → BegunAt (ts ++ t ∷ us) x
begun_here ts c t us x ran free b = record { before = ts; first = t; others = us; place = c; split = refl; ran = ran; begins = (b.0, free); there = ap (λ (y : Loc). y.start) b.1 }

-- with a token that was read
begun_back : (ts : List Token) (c : Config) {d : Config} (u t : Token) (us : List Token) (x : Unsupported × Loc) → run Start ts ≡ Some c → run Start (ts ++ u ∷ []) ≡ Some d → BeginsThere c u (t ∷ us) x → BegunAt ((ts ++ u ∷ []) ++ t ∷ us) x
begun_back ts c u t us x ran read b = record { before = ts; first = u; others = t ∷ us; place = c; split = append_assoc ts (u ∷ []) (t ∷ us); ran = ran; begins = (b.0, no_key_read u [] (t ∷ us) read); there = ap (λ (y : Loc). y.start) b.1 }

two_found : {ts : List Token} {turns : Turns} {c : Config} (t : Token) (us : List Token) (x : Unsupported × Loc) → Searched ts turns c → two_back turns t ≡ Some x → BegunAt (ts ++ t ∷ us) x
two_found t us x not_begun h = absurd cc
two_found t us x (searched {ts = ts} {c = c} u s none go) h = begun_back ts c u t us x (searched_run s) (searched_run (searched u s none go)) (two_begins c u t us x h)

proto_found : {ts : List Token} {turns : Turns} {c : Config} (t : Token) (us : List Token) (x : Unsupported × Loc) → Searched ts turns c → proto_back turns t ≡ Some x → BegunAt (ts ++ t ∷ us) x
proto_found t us x not_begun h = absurd cc
proto_found t us x (searched {ts = ts} {c = c} u s none go) h = begun_back ts c u t us x (searched_run s) (searched_run (searched u s none go)) (proto_begun c u t us x h)

three_found : {ts : List Token} {turns : Turns} {c : Config} (t : Token) (us : List Token) (x : Unsupported × Loc) → Searched ts turns c → three_back turns t ≡ Some x → BegunAt (ts ++ t ∷ us) x
three_found t us x not_begun h = absurd cc
three_found t us x (searched u not_begun none go) h = absurd cc
three_found t us x (searched u (searched {ts = ts} {c = c} v s none_v go_v) none go) h =
    let b = three_begins c v u t us x h in
    record {
      before = ts;
      first = v;
      others = u ∷ t ∷ us;
      place = c;
      split = append_assoc (ts ++ v ∷ []) (u ∷ []) (t ∷ us) ∙ append_assoc ts (v ∷ []) (u ∷ t ∷ us);
      ran = searched_run s;
      begins = (b.0, no_key_read v [] (u ∷ t ∷ us) (searched_run (searched v s none_v go_v)));
      there = ap (λ (y : Loc). y.start) b.1;
    }

-- where no property is found with the token, it is no key
others_begin : {ts : List Token} {turns : Turns} {c : Config} (t : Token) (us : List Token) (x : Unsupported × Loc) → Searched ts turns c → Apart ts → two_back turns t ≡ None → found turns c t ≡ Some x → BegunAt (ts ++ t ∷ us) x
others_begin {ts = ts} {turns = turns} {c = c} t us x s apart none h = holds_of (BegunAt (ts ++ t ∷ us)) (finds turns c t) x each h
  where
    free : IsKey ts (t ∷ us) → ⊥
    free = no_key_unfound t us s none

    each : EachOf (BegunAt (ts ++ t ∷ us)) (finds turns c t)
    each =
        where_found (λ y q. two_found t us y s q)
        (where_found (λ y q. three_found t us y s q)
        (where_found (λ y q. begun_here ts c t us y (searched_run s) free (one_begins c t us y q))
        (where_found (λ y q. group_begins ts c t us y (searched_run s) q)
        (where_found (λ y q. begun_here ts c t us y (searched_run s) free (this_found c t us y q))
        (where_found (λ y q. called_begins c t us y s apart q)
        (where_found (λ y q. proto_found t us y s q)
        (where_found (λ y q. parameter_begins ts c t us y (searched_run s) q)
        none_left)))))))

pub found_begins : {ts : List Token} {turns : Turns} {c : Config} (t : Token) (us : List Token) (x : Unsupported × Loc) → Searched ts turns c → Apart ts → found turns c t ≡ Some x → BegunAt (ts ++ t ∷ us) x
found_begins {ts = ts} {turns = turns} {c = c} t us x s apart h = by_key (two_back turns t) refl
  where
    by_key : (o : Find) → two_back turns t ≡ o → BegunAt (ts ++ t ∷ us) x
    by_key None none = others_begin t us x s apart none h
    by_key (Some y) some = two_found t us x s (some ∙ sym (first_found some) ∙ h)
      where
        first_found : two_back turns t ≡ Some y → found turns c t ≡ Some y
        first_found q = ap (λ z. or_else z (first_of (three_back turns t ∷ one c t ∷ group c t ∷ outside c t ∷ called turns c t ∷ proto_back turns t ∷ parameter c t ∷ []))) q

ahead_three : {ts : List Token} {turns : Turns} {c : Config} (r n : Token) (us : List Token) (x : Unsupported × Loc) → Searched ts turns c → (IsKey ts (r ∷ n ∷ us) → ⊥) → three_ahead c r n us ≡ Some x → BegunAt (ts ++ r ∷ n ∷ us) x
ahead_three r n [] x s free h = absurd cc
ahead_three {ts = ts} {c = c} r n (m ∷ us) x s free h = begun_here ts c r (n ∷ m ∷ us) x (searched_run s) free (three_begins c r n m us x h)

over_three : {ts : List Token} {turns : Turns} {c : Config} (r n : Token) (us : List Token) (x : Unsupported × Loc) → Searched ts turns c → three_over turns r n ≡ Some x → BegunAt (ts ++ r ∷ n ∷ us) x
over_three r n us x not_begun h = absurd cc
over_three r n us x (searched {ts = ts} {c = c} u s none go) h = begun_back ts c u r (n ∷ us) x (searched_run s) (searched_run (searched u s none go)) (three_begins c u r n us x h)

pub ahead_begins : {ts : List Token} {turns : Turns} {c : Config} (r : Token) (us : List Token) (x : Unsupported × Loc) → Searched ts turns c → found turns c r ≡ None → ahead turns c r us ≡ Some x → BegunAt (ts ++ r ∷ us) x
ahead_begins r [] x s none h = absurd cc
ahead_begins {ts = ts} {turns = turns} {c = c} r (n ∷ us) x s none h = holds_of (BegunAt (ts ++ r ∷ n ∷ us)) (aheads turns c r n us) x each h
  where
    free : IsKey ts (r ∷ n ∷ us) → ⊥
    free = no_key_unfound r (n ∷ us) s (off_at (finds turns c r) 0 none)

    each : EachOf (BegunAt (ts ++ r ∷ n ∷ us)) (aheads turns c r n us)
    each =
        where_found (λ y q. begun_here ts c r (n ∷ us) y (searched_run s) free (two_begins c r n us y q))
        (where_found (λ y q. ahead_three r n us y s free q)
        (where_found (λ y q. over_three r n us y s q)
        (where_found (λ y q. begun_here ts c r (n ∷ us) y (searched_run s) free (proto_begun c r n us y q))
        none_left)))

pub further_begins : {ts : List Token} {turns : Turns} {c : Config} (r : Token) (us : List Token) (x : Unsupported × Loc) → Searched ts turns c → Apart (ts ++ r ∷ us) → turn c r ≡ None → found turns c r ≡ None → further c r us ≡ Some x → BegunAt (ts ++ r ∷ us) x
further_begins {ts = ts} {turns = turns} {c = c} r us x s apart refused none h = begun_here ts c r us x (searched_run s) (no_key_unfound r us s (off_at (finds turns c r) 0 none)) (begins_so (further_stops ts c r us x apart refused h))
