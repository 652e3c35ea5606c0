-- Where a token that is asked for starts, and the comments before it.
use Rattle.std.proofs.Common.{◌≡◌, ℕ, Bool, true, false, cond, List, Option, Some, None, refl, ap, subst, ◌∙◌}
use Rattle.std.specs.Option.{option_map}
use Rattle.std.specs.Str.{chars, IsUtf8, IsCharBoundary}
use Rattle.js_text.specs.Place.{Place}
use Rattle.js_text.specs.declared.goal.Goal.{Goal}
use Rattle.js_text.specs.declared.goal.Goal.TheVariants as goal
use Rattle.js_text.specs.Token.{Token}
use Rattle.js_text.specs.Lex.{next_token, token_place, offset_of, characters_of}
use Rattle.js_lexer.proofs.CommentPlaces.{comments-start}
use Rattle.js_lexer.proofs.Lex.{found}
use Rattle.js_reading.specs.Turns.{braced}
use Rattle.js_reading.specs.Reads.{after_gap_of, continued, unless_braced, asked_for}

pub start_is : (goal : Goal) (p q : Place) (t : Token) → next_token goal p ≡ Some (t, q) → t.span.start ≡ offset_of (token_place goal p)
start_is goal p q t h = let f = found goal p q t h in ap (λ (u : Token). u.span.start) f.token

-- the comments before it start between two characters
pub asked_comments : (text : List ℕ) (g : Goal) (here there : Place) (t : Token) → IsUtf8 text → characters_of here ≡ chars text → asked_for g here ≡ Some (t, there) → IsCharBoundary text t.comments.start
asked_comments text goal.Div here there t utf8 within h = comments-start text goal.Div here there t utf8 within h
asked_comments text goal.RegExp here there t utf8 within h = comments-start text goal.RegExp here there t utf8 within h
asked_comments text goal.Template here there t utf8 within h = by_found (next_token goal.Div here) refl h
  where
    by_part : (brace : Token × Place) → next_token goal.Div here ≡ Some brace → (o : Option (Token × Place)) → option_map (after_gap_of brace.0) o ≡ Some (t, there) → IsCharBoundary text t.comments.start
    by_part brace e None q = absurd cc
    by_part brace e (Some part) q =
        let same : after_gap_of brace.0 part ≡ (t, there) = cc in
        subst (λ (z : Token × Place). IsCharBoundary text z.0.comments.start) same (comments-start text goal.Div here brace.1 brace.0 utf8 within e)

    by_found : (o : Option (Token × Place)) → next_token goal.Div here ≡ o → unless_braced here o ≡ Some (t, there) → IsCharBoundary text t.comments.start
    by_found None e q = absurd cc
    by_found (Some brace) e q = by_brace (braced brace.0.kind) q
      where
        by_brace : (b : Bool) → cond b (continued here (Some brace)) (Some brace) ≡ Some (t, there) → IsCharBoundary text t.comments.start
        by_brace true r = by_part brace e (next_token goal.Template (token_place goal.Div here)) r
        by_brace false r = comments-start text goal.Div here there t utf8 within (e ∙ r)
