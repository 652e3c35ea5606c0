-- Where a token is read, only a group, `this`, a key `__proto__` and a parameter are found: at the others the machine stops.
use Rattle.std.proofs.Common.{◌≡◌, Bool, true, false, ◌&&◌, List, [], ◌∷◌, Option, Some, None, refl, sym, ap, ◌∙◌}
use Rattle.std.proofs.lemmas.Bool.{and_parts}
use Rattle.js_terms.specs.declared.place.Loc.{Loc}
use Rattle.js_text.specs.Token.{Token}
use Rattle.js_text.specs.Token as T
use Rattle.js_text.specs.declared.punctuator.Punctuator.TheVariants as P
use Rattle.js_reading.specs.Slots as slot
use Rattle.js_reading.specs.Productions.{is_mark}
use Rattle.js_reading.specs.Turns.{Config, Due, Start, turn, then_run, run}
use Rattle.js_reading.specs.Unsupported.{Unsupported, Async, Stops}
use Rattle.js_reading.specs.Found.{Find, when, first_of, one, two, three, group, shown, parameter, outside, starts, asyncs, named_callee, arrow_after, called, Turns, two_back, proto_back, three_back, found, Searched, not_begun, searched}
use Rattle.js_reading.proofs.refusing.Arrows.{Arrow, arrow_of_kind, no_arrow_after}
use Rattle.js_reading.proofs.finding.Begun.{one_stops, two_stops, three_stops}
use Rattle.js_reading.proofs.finding.Found.{searched_run}
use Rattle.js_reading.proofs.sentences.KindsLemmas.{kind_is}
use Rattle.js_reading.proofs.refusing.Refusing.{stops_run}
use Rattle.js_reading.proofs.sentences.Runs.{nowhere}
use Rattle.js_reading.proofs.finding.Shown.{group_shown}
use Rattle.js_reading.proofs.sentences.Ways.{FineAt, come_to}

none_of : (o : Find) → ((x : Unsupported × Loc) → o ≡ Some x → ⊥) → o ≡ None
none_of None h = refl
none_of (Some x) h = absurd (h x refl)

-- tokens that begin such a form are not read
unread : (ts : List Token) {c d : Config} (u : Unsupported) (us : List Token) → run Start ts ≡ Some c → Stops u c us → run c us ≡ Some d → ⊥
unread ts {c = c} u us ran s h = nowhere (sym (stops_run u ts us c ran s) ∙ h)

read_on : (c : Config) {d e : Config} (t : Token) (us : List Token) → turn c t ≡ Some d → run d us ≡ Some e → run c (t ∷ us) ≡ Some e
read_on c t us h k = ap (λ o. then_run o (λ d. run d us)) h ∙ k

no_one : {ts : List Token} {turns : Turns} {c d : Config} (t : Token) → Searched ts turns c → turn c t ≡ Some d → one c t ≡ None
no_one {ts = ts} {c = c} t s h = none_of (one c t) (λ x q. unread ts x.0 (t ∷ []) (searched_run s) (one_stops c t [] x q).0 (read_on c t [] h refl))

no_two_back : {ts : List Token} {turns : Turns} {c d : Config} (t : Token) → Searched ts turns c → turn c t ≡ Some d → two_back turns t ≡ None
no_two_back t not_begun h = refl
no_two_back t (searched {ts = ts} {c = c} {d = d} u s none go) h = none_of (two c u t) (λ x q. unread ts x.0 (u ∷ t ∷ []) (searched_run s) (two_stops c u t [] x q).0 (read_on c u (t ∷ []) go (read_on d t [] h refl)))

no_three_back : {ts : List Token} {turns : Turns} {c d : Config} (t : Token) → Searched ts turns c → turn c t ≡ Some d → three_back turns t ≡ None
no_three_back t not_begun h = refl
no_three_back t (searched u not_begun none go) h = refl
no_three_back t (searched {c = e} {d = d} u (searched {ts = ts} {c = c} v s none_v go_v) none go) h =
    none_of (three c v u t) (λ x q. unread ts x.0 (v ∷ u ∷ t ∷ []) (searched_run s) (three_stops c v u t [] x q).0 (read_on c v (u ∷ t ∷ []) go_v (read_on e u (t ∷ []) go (read_on d t [] h refl))))

arrow_told : (turns : Turns) (o : Option Loc) (t : Token) (x : Unsupported × Loc) → arrow_after turns o t ≡ Some x → is_mark P.Arrow t ≡ true
arrow_told turns None t x h = absurd cc
arrow_told turns (Some m) t x h = by_test (is_mark P.Arrow t && starts m (asyncs turns)) refl h
  where
    by_test : (b : Bool) → (is_mark P.Arrow t && starts m (asyncs turns)) ≡ b → when b Async m ≡ Some x → is_mark P.Arrow t ≡ true
    by_test true e q = (and_parts (is_mark P.Arrow t) (starts m (asyncs turns)) e).0
    by_test false e q = absurd cc

is_arrow : (t : Token) → is_mark P.Arrow t ≡ true → Arrow t
is_arrow t h = arrow_of_kind t (kind_is (T.Punctuator P.Arrow) t.kind h)

not_called : (turns : Turns) (c d : Config) (t : Token) (x : Unsupported × Loc) → FineAt c → turn c t ≡ Some d → called turns c t ≡ Some x → ⊥
not_called turns (Due slot.Call w [] ps l fs) d t x fine h q = no_arrow_after slot.Call t (is_arrow t (arrow_told turns (named_callee ps) t x q)) refl w ps l fs d fine.1 h
not_called turns (Due slot.New w [] ps l fs) d t x fine h q = no_arrow_after slot.New t (is_arrow t (arrow_told turns (named_callee ps) t x q)) refl w ps l fs d fine.1 h
not_called turns c d t x fine h q = absurd cc

no_called : {ts : List Token} {turns : Turns} {c d : Config} (t : Token) → Searched ts turns c → turn c t ≡ Some d → called turns c t ≡ None
no_called {ts = ts} {turns = turns} {c = c} {d = d} t s h = none_of (called turns c t) (λ x q. not_called turns c d t x (come_to ts c (searched_run s)) h q)

few : {a b c e : Find} (g o p q : Find) → a ≡ None → b ≡ None → c ≡ None → e ≡ None → first_of (a ∷ b ∷ c ∷ g ∷ o ∷ e ∷ p ∷ q ∷ []) ≡ first_of (g ∷ o ∷ p ∷ q ∷ [])
few {a = a} {b = b} {c = c} {e = e} g o p q ha hb hc he =
    ap (λ x. first_of (x ∷ b ∷ c ∷ g ∷ o ∷ e ∷ p ∷ q ∷ [])) ha ∙ ap (λ x. first_of (x ∷ c ∷ g ∷ o ∷ e ∷ p ∷ q ∷ [])) hb ∙ ap (λ x. first_of (x ∷ g ∷ o ∷ e ∷ p ∷ q ∷ [])) hc ∙ ap (λ x. first_of (g ∷ o ∷ x ∷ p ∷ q ∷ [])) he

pub read_found : {ts : List Token} {turns : Turns} {c d : Config} (t : Token) → Searched ts turns c → turn c t ≡ Some d → found turns c t ≡ first_of (group c t ∷ outside c t ∷ proto_back turns t ∷ parameter c t ∷ [])
read_found {turns = turns} {c = c} t s h = few (group c t) (outside c t) (proto_back turns t) (parameter c t) (no_two_back t s h) (no_three_back t s h) (no_one t s h) (no_called t s h)

pub read_finds : {ts : List Token} {turns : Turns} {c d : Config} (t : Token) → Searched ts turns c → turn c t ≡ Some d → found turns c t ≡ first_of (shown c d t ∷ outside c t ∷ proto_back turns t ∷ parameter c t ∷ [])
read_finds {turns = turns} {c = c} {d = d} t s h = read_found t s h ∙ ap (λ x. first_of (x ∷ outside c t ∷ proto_back turns t ∷ parameter c t ∷ [])) (group_shown c d t h)
