-- The token that was moved over.
use Rattle.std.proofs.Common.{◌≡◌, ℕ, ◌+◌, ◌-◌, ◌≤◌, Bool, List, ◌∷◌, length, take, drop, slice_get, encode_utf8_all, Option, Some, sym, ap, ap₂, ◌∙◌, arith}
use Rattle.js_text.specs.Place.{Place}
use Rattle.js_text.specs.Token.{Kind}
use Rattle.js_text.specs.Lex.{up_to, token_to, token_by, moved, characters_of}
use Rattle.js_lexer.proofs.Onward.{onward-moved}
use Rattle.js_lexer.proofs.Steps.{first_is}

-- from its first character to what follows it
whole : (kind : List ℕ → Kind) (c : ℕ) (p r : Place) (bytes : List ℕ) → slice_get p.after 0 ≡ Some c → length r.after ≤ length (drop 1 p.after) →
    bytes ≡ encode_utf8_all (take (length p.after - length r.after) p.after) → up_to kind c (drop 1 p.after) r.after ≡ (kind bytes, length p.after - length r.after)
whole kind c p r bytes h le e =
    let first = first_is p.after c h in
    let count : 1 + (length (drop 1 p.after) - length r.after) ≡ length p.after - length r.after = omega (arith, ap length first) in
    let spelt : encode_utf8_all (take (1 + (length (drop 1 p.after) - length r.after)) (c ∷ drop 1 p.after)) ≡ bytes =
    ap₂ (λ n xs. encode_utf8_all (take n xs)) count (sym first) ∙ sym e in
    ap₂ (λ bs (n : ℕ). (kind bs, n)) spelt count

-- one after its first character, which was moved over: `s` is where it begins, `q` after that character, `r` after the token
pub token-to : (kind : List ℕ → Kind) (c : ℕ) (p s q r : Place) (bytes : List ℕ) (found : Option (List ℕ)) → slice_get p.after 0 ≡ Some c → s ≡ p →
    q.after ≡ drop 1 p.after → characters_of q ≡ characters_of p → found ≡ Some r.after → characters_of r ≡ characters_of q → length r.after ≤ length q.after →
    bytes ≡ encode_utf8_all (take (length s.after - length r.after) s.after) →
    (x : ℕ) × (token_to kind c (drop 1 p.after) found ≡ Some (kind bytes, x)) × (r ≡ moved x p)
token-to kind c p s q r bytes found h same rest text e text' onward spelt =
    let le : length r.after ≤ length (drop 1 p.after) = omega (arith, ap length rest) in
    let further : length r.after ≤ length p.after = omega (arith, ap length (first_is p.after c h)) in
    let bs : bytes ≡ encode_utf8_all (take (length p.after - length r.after) p.after) =
    spelt ∙ ap (λ (x : Place). encode_utf8_all (take (length x.after - length r.after) x.after)) same in
    (length p.after - length r.after, ap (token_to kind c (drop 1 p.after)) e ∙ ap (λ x. Some x) (whole kind c p r bytes h le bs), onward-moved p r (text' ∙ text) further)

-- the same of one of two kinds
pub token-by : (kind : Bool → List ℕ → Kind) (b : Bool) (c : ℕ) (p s q r : Place) (bytes : List ℕ) (found : Option (Bool × List ℕ)) → slice_get p.after 0 ≡ Some c → s ≡ p →
    q.after ≡ drop 1 p.after → characters_of q ≡ characters_of p → found ≡ Some (b, r.after) → characters_of r ≡ characters_of q → length r.after ≤ length q.after →
    bytes ≡ encode_utf8_all (take (length s.after - length r.after) s.after) →
    (x : ℕ) × (token_by kind c (drop 1 p.after) found ≡ Some (kind b bytes, x)) × (r ≡ moved x p)
token-by kind b c p s q r bytes found h same rest text e text' onward spelt =
    let le : length r.after ≤ length (drop 1 p.after) = omega (arith, ap length rest) in
    let further : length r.after ≤ length p.after = omega (arith, ap length (first_is p.after c h)) in
    let bs : bytes ≡ encode_utf8_all (take (length p.after - length r.after) p.after) =
    spelt ∙ ap (λ (x : Place). encode_utf8_all (take (length x.after - length r.after) x.after)) same in
    (length p.after - length r.after, ap (token_by kind c (drop 1 p.after)) e ∙ ap (λ x. Some x) (whole (kind b) c p r bytes h le bs), onward-moved p r (text' ∙ text) further)
