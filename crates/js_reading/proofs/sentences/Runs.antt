-- A run of the reader of the whole language in two parts, and what leads to a place.
use Rattle.std.proofs.Common.{◌≡◌, Bool, true, false, List, [], ◌∷◌, ◌++◌, Option, Some, None, if◌then◌else◌, refl, ap, ◌∙◌}
use Rattle.js_text.specs.Token.{Token}
use Rattle.js_reading.specs.Slots.{Piece, Slot, Branch, Refuse, Pass, Go}
use Rattle.js_reading.specs.Turns.{Config, turn, then_run, run, choose}

-- a run in two parts
pub run_append : (c : Config) (ts us : List Token) → run c (ts ++ us) ≡ then_run (run c ts) (λ d. run d us)
run_append c [] us = refl
run_append c (t ∷ ts) us = elim (turn c t) as (λ o. then_run o (λ d. run d (ts ++ us)) ≡ then_run (then_run o (λ d. run d ts)) (λ d. run d us)) [ None ↦ refl | Some d ↦ run_append d ts us ]

-- where the reader stops, it stops for whatever follows
pub stopped : (c : Config) (ts us : List Token) → run c ts ≡ None → run c (ts ++ us) ≡ None
stopped c ts us h = run_append c ts us ∙ ap (λ o. then_run o (λ d. run d us)) h

pub nowhere : {A : Type 0} {d : Config} → None ≡ Some d → A
nowhere h = absurd cc

-- one of two, where it leads to a place
pub by_bool : {A : Type 0} (b : Bool) (x y : Option Config) (d : Config) → (b ≡ true → x ≡ Some d → A) → (b ≡ false → y ≡ Some d → A) → (if b then x else y) ≡ Some d → A
by_bool true x y d f g h = f refl h
by_bool false x y d f g h = g refl h

pub by_branch : {A : Type 0} (x : Branch) (on : List Piece → Option Config) (go : List Piece → Slot → List Slot → Option Config) (d : Config) → ((qs : List Piece) → x ≡ Pass qs → on qs ≡ Some d → A) →
    ((qs : List Piece) (s : Slot) (rs : List Slot) → x ≡ Go qs s rs → go qs s rs ≡ Some d → A) → choose x on go ≡ Some d → A
by_branch Refuse on go d f g h = absurd cc
by_branch (Pass qs) on go d f g h = f qs refl h
by_branch (Go qs s rs) on go d f g h = g qs s rs refl h
