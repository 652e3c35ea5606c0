-- What a reader finds is what the definition does, the first of each.
use Rattle.std.proofs.Common.{◌≡◌, List, [], ◌∷◌, Option, Some, None, refl, sym, ap, ◌∙◌}
use Rattle.std.specs.Option.{option_or}
use Rattle.js_terms.specs.declared.place.Loc.{Loc}
use Rattle.js_text.specs.Token.{Token}
use Rattle.js_reading.specs.Turns.{Config, turn}
use Rattle.js_reading.specs.Found.{Find, Turns, first_of, one, two_back, three_back, group, arrow_after, called, proto_back, outside, parameter, found, Searched}
use Rattle.js_reading.proofs.finding.Taken.{read_found}
use Rattle.js_stack.specs.Sight.{callee}
use Rattle.js_stack.proofs.SightLemmas.{called_is}

three_first : (a b c : Find) → option_or (option_or a b) c ≡ first_of (a ∷ b ∷ c ∷ [])
three_first (Some x) b c = refl
three_first None (Some x) c = refl
three_first None None (Some x) = refl
three_first None None None = refl

pub four_first : (a b c d : Find) → option_or (option_or (option_or a b) c) d ≡ first_of (a ∷ b ∷ c ∷ d ∷ [])
four_first (Some x) b c d = refl
four_first None b c d = three_first b c d

eight_first : (a b c d e f g h : Find) → option_or (option_or (option_or (option_or (option_or (option_or (option_or a b) c) d) e) f) g) h ≡ first_of (a ∷ b ∷ c ∷ d ∷ e ∷ f ∷ g ∷ h ∷ [])
eight_first (Some x) b c d e f g h = refl
eight_first None (Some x) c d e f g h = refl
eight_first None None (Some x) d e f g h = refl
eight_first None None None (Some x) e f g h = refl
eight_first None None None None e f g h = four_first e f g h

-- with a token that is read
pub finds_read : {ts : List Token} {turns : Turns} {c d : Config} {g o p q : Find} (t : Token) → Searched ts turns c → turn c t ≡ Some d → g ≡ group c t → o ≡ outside c t → p ≡ proto_back turns t → q ≡ parameter c t → option_or (option_or (option_or g o) p) q ≡ found turns c t
finds_read {turns = turns} {c = c} {g = g} {o = o} {p = p} {q = q} t s h hg ho hp hq =
    four_first g o p q
    ∙ ap (λ x. first_of (x ∷ o ∷ p ∷ q ∷ [])) hg
    ∙ ap (λ x. first_of (group c t ∷ x ∷ p ∷ q ∷ [])) ho
    ∙ ap (λ x. first_of (group c t ∷ outside c t ∷ x ∷ q ∷ [])) hp
    ∙ ap (λ x. first_of (group c t ∷ outside c t ∷ proto_back turns t ∷ x ∷ [])) hq
    ∙ sym (read_found t s h)

-- and with one that is refused
pub finds_refused : (turns : Turns) (c : Config) {l : Option Loc} {a b e g o k p q : Find} (t : Token) → l ≡ callee c → a ≡ two_back turns t → b ≡ three_back turns t → e ≡ one c t → g ≡ group c t → o ≡ outside c t → k ≡ arrow_after turns l t → p ≡ proto_back turns t → q ≡ parameter c t →
    option_or (option_or (option_or (option_or (option_or (option_or (option_or a b) e) g) o) k) p) q ≡ found turns c t
finds_refused turns c {a = a} {b = b} {e = e} {g = g} {o = o} {k = k} {p = p} {q = q} t is ha hb he hg ho hk hp hq =
    eight_first a b e g o k p q
    ∙ ap (λ x. first_of (x ∷ b ∷ e ∷ g ∷ o ∷ k ∷ p ∷ q ∷ [])) ha
    ∙ ap (λ x. first_of (two_back turns t ∷ x ∷ e ∷ g ∷ o ∷ k ∷ p ∷ q ∷ [])) hb
    ∙ ap (λ x. first_of (two_back turns t ∷ three_back turns t ∷ x ∷ g ∷ o ∷ k ∷ p ∷ q ∷ [])) he
    ∙ ap (λ x. first_of (two_back turns t ∷ three_back turns t ∷ one c t ∷ x ∷ o ∷ k ∷ p ∷ q ∷ [])) hg
    ∙ ap (λ x. first_of (two_back turns t ∷ three_back turns t ∷ one c t ∷ group c t ∷ x ∷ k ∷ p ∷ q ∷ [])) ho
    ∙ ap (λ x. first_of (two_back turns t ∷ three_back turns t ∷ one c t ∷ group c t ∷ outside c t ∷ x ∷ p ∷ q ∷ [])) (hk ∙ ap (λ x. arrow_after turns x t) is ∙ sym (called_is turns c t))
    ∙ ap (λ x. first_of (two_back turns t ∷ three_back turns t ∷ one c t ∷ group c t ∷ outside c t ∷ called turns c t ∷ x ∷ q ∷ [])) hp
    ∙ ap (λ x. first_of (two_back turns t ∷ three_back turns t ∷ one c t ∷ group c t ∷ outside c t ∷ called turns c t ∷ proto_back turns t ∷ x ∷ [])) hq
