-- Where `=>` comes after arguments, as the machine reads on.
use Rattle.std.proofs.Common.{◌≡◌, Bool, true, false, ◌&&◌, List, [], ◌∷◌, ◌++◌, Option, Some, None, refl, sym, ap, subst, ◌∙◌}
use Rattle.std.specs.Prelude.{◌||◌}
use Rattle.std.proofs.lemmas.Bool.{true≢false, and_parts}
use Rattle.js_terms.specs.declared.place.Loc.{Loc}
use Rattle.js_text.specs.Token.{Token}
use Rattle.js_text.specs.declared.punctuator.Punctuator.TheVariants as P
use Rattle.js_reading.specs.Productions.{is_mark}
use Rattle.js_reading.specs.Turns.{Config, turn, then_run, run}
use Rattle.js_reading.specs.Found.{argues, then_holds, arrow_comes}
use Rattle.js_reading.proofs.sentences.Rows.{either_of}
use Rattle.js_reading.proofs.sentences.Runs.{nowhere}
use Rattle.js_reading.proofs.sentences.Shapes.{both_true}

or_one : (x y : Bool) → x ≡ true → (x || y) ≡ true
or_one x y h = ap (λ b. b || y) h

pub or_two : (x y : Bool) → y ≡ true → (x || y) ≡ true
or_two true y h = refl
or_two false y h = h

-- the tokens up to it, and where they lead
pub record Comes (l : Loc) (c : Config) (us : List Token) : Type 0 where
  pub before : List Token
  pub arrow : Token
  pub after : List Token
  pub place : Config
  pub are : us ≡ before ++ arrow ∷ after
  pub ran : run c before ≡ Some place
  pub whole : argues l place ≡ true
  pub is_arrow : is_mark P.Arrow arrow ≡ true

pub comes : (l : Loc) (us : List Token) (c : Config) → arrow_comes l c us ≡ true → Comes l c us
comes l [] c h = absurd (true≢false (sym h))
comes l (t ∷ ts) c h = either_of (is_mark P.Arrow t && argues l c) (then_holds (turn c t) (λ d. arrow_comes l d ts)) h here (later (turn c t) refl (comes l ts))
  where
    here : (is_mark P.Arrow t && argues l c) ≡ true → Comes l c (t ∷ ts)
    here q = let a = and_parts (is_mark P.Arrow t) (argues l c) q in record { before = []; arrow = t; after = ts; place = c; are = refl; ran = refl; whole = a.1; is_arrow = a.0 }

    later : (o : Option Config) → turn c t ≡ o → ((d : Config) → arrow_comes l d ts ≡ true → Comes l d ts) → then_holds o (λ d. arrow_comes l d ts) ≡ true → Comes l c (t ∷ ts)
    later None e rest q = absurd (true≢false (sym q))
    later (Some d) e rest q =
        let r = rest d q in
        record {
          before = t ∷ r.before;
          arrow = r.arrow;
          after = r.after;
          place = r.place;
          are = ap (λ x. t ∷ x) r.are;
          ran = ap (λ o. then_run o (λ x. run x r.before)) e ∙ r.ran;
          whole = r.whole;
          is_arrow = r.is_arrow;
        }

same_place : {c d : Config} → Some c ≡ Some d → c ≡ d
same_place h = cc

-- it comes after tokens that lead there
pub comes_so : (l : Loc) (vs : List Token) (c d : Config) (arrow : Token) (ts : List Token) → run c vs ≡ Some d → argues l d ≡ true → is_mark P.Arrow arrow ≡ true → arrow_comes l c (vs ++ arrow ∷ ts) ≡ true
comes_so l [] c d arrow ts ran whole is = or_one (is_mark P.Arrow arrow && argues l c) (then_holds (turn c arrow) (λ e. arrow_comes l e ts)) (both_true is (subst (λ e. argues l e ≡ true) (sym (same_place ran)) whole))
comes_so l (t ∷ vs) c d arrow ts ran whole is =
    or_two (is_mark P.Arrow t && argues l c) (then_holds (turn c t) (λ e. arrow_comes l e (vs ++ arrow ∷ ts))) (by_turn (turn c t) (λ e q. comes_so l vs e d arrow ts q whole is) ran)
  where
    by_turn : (o : Option Config) → ((e : Config) → run e vs ≡ Some d → arrow_comes l e (vs ++ arrow ∷ ts) ≡ true) → then_run o (λ e. run e vs) ≡ Some d → then_holds o (λ e. arrow_comes l e (vs ++ arrow ∷ ts)) ≡ true
    by_turn None rest q = nowhere q
    by_turn (Some e) rest q = rest e q
