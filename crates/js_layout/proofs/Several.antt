-- Equal arguments, several at once, give equal values.
use Rattle.std.proofs.Common.{◌≡◌, ap, ◌∙◌}

pub ap_two : {A B T : Type 0} (f : A → B → T) {a a' : A} {b b' : B} → a ≡ a' → b ≡ b' → f a b ≡ f a' b'
ap_two f {a' = a'} {b = b} p q = ap (λ x. f x b) p ∙ ap (f a') q

pub ap_three : {A B C T : Type 0} (f : A → B → C → T) {a a' : A} {b b' : B} {c c' : C} → a ≡ a' → b ≡ b' → c ≡ c' → f a b c ≡ f a' b' c'
ap_three f {a' = a'} {b = b} {c = c} p q r = ap (λ x. f x b c) p ∙ ap_two (f a') q r

pub ap_four : {A B C D T : Type 0} (f : A → B → C → D → T) {a a' : A} {b b' : B} {c c' : C} {d d' : D} → a ≡ a' → b ≡ b' → c ≡ c' → d ≡ d' → f a b c d ≡ f a' b' c' d'
ap_four f {a' = a'} {b = b} {c = c} {d = d} p q r s = ap (λ x. f x b c d) p ∙ ap_three (f a') q r s
