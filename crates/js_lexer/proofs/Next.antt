-- The next token, from what stands before it and what it is.
use Rattle.std.proofs.Common.{◌≡◌, ℕ, Bool, List, [], ◌∷◌, Option, Some, None, refl, sym, ap, ◌∙◌}
use Rattle.std.specs.List.{list_any}
use Rattle.std.specs.Option.{option_map, unwrap_or}
use Rattle.js_terms.specs.declared.place.Pos.{Pos}
use Rattle.js_text.specs.Place.{Place}
use Rattle.js_text.specs.Position.{is_line_terminator, position_of}
use Rattle.js_text.specs.declared.goal.Goal.{Goal}
use Rattle.js_text.specs.Token.{Kind, Token}
use Rattle.js_text.specs.Token as T
use Rattle.js_text.specs.Lex.{token_of, token_after, token_place, next_token, gap_run, comments_for, span_of, end_of_last, moved, moved_to, offset_of}
use Rattle.js_lexer.specs.declared.token.Span.{Span}
use Rattle.js_lexer.specs.Gap.{grown}

abbrev plain : Span → T.Span
plain span = record { start = span.start; end = span.end }

-- comments that go on from these end where the last does
grown-is : (p : Place) (first : Span) (rest : List ℕ) (comments : List (List ℕ × List ℕ)) → first.end ≡ offset_of (moved_to p rest) →
    grown p (Some first) comments ≡ Some (record { start = first.start; end = end_of_last p rest comments })
grown-is p first rest [] e = ap (λ (n : ℕ). let x : Span = record { start = first.start; end = n } in Some x) e
grown-is p first rest (comment ∷ comments) e = grown-is p (record { start = first.start; end = offset_of (moved_to p comment.1) }) comment.1 comments refl

span-is : (p : Place) (at : ℕ) (comments : List (List ℕ × List ℕ)) → plain (unwrap_or (grown p None comments) (record { start = at; end = at })) ≡ span_of p at comments
span-is p at [] = refl
span-is p at (comment ∷ comments) =
    ap (λ (o : Option Span). plain (unwrap_or o (record { start = at; end = at })))
    (grown-is p (record { start = offset_of (moved_to p comment.0); end = offset_of (moved_to p comment.1) }) comment.1 comments refl)

abbrev token : Kind → ℕ → ℕ → Pos → Pos → Bool → T.Span → Token
token kind at end from to line comments = record {
  kind = kind;
  span = record { start = at; end = end };
  loc = record { start = from; end = to };
  line_terminator_before = line;
  comments = comments;
}

abbrev with : Place → Token → Option (Token × Place)
with q t = Some (t, q)

pub next-is : (goal : Goal) (p start q : Place) (kind : Kind) (count : ℕ) (line : Bool) (from to : Pos) (at end : ℕ) (found : Option Span) (comments : Span) →
    start ≡ token_place goal p → token_of goal start.after ≡ Some (kind, count) → q ≡ moved count start → line ≡ list_any is_line_terminator (gap_run goal p) →
    at ≡ offset_of start → end ≡ offset_of q → from ≡ position_of start → to ≡ position_of q → found ≡ grown p None (comments_for goal p) →
    comments ≡ unwrap_or found (record { start = at; end = at }) → next_token goal p ≡ Some (token kind at end from to line (plain comments), q)
next-is goal p start q kind count line from to at end found comments start_is is q_is line_is at_is end_is from_is to_is found_is comments_is =
    let there = token_place goal p in
    let tok : token_of goal there.after ≡ Some (kind, count) = ap (λ (r : Place). token_of goal r.after) (sym start_is) ∙ is in
    let to_q : moved count there ≡ q = ap (moved count) (sym start_is) ∙ sym q_is in
    let first : next_token goal p ≡ Some (token_after goal kind p q, q) =
    ap (option_map (λ (f : Kind × ℕ). (token_after goal f.0 p (moved f.1 there), moved f.1 there))) tok ∙ ap (λ (r : Place). with r (token_after goal kind p r)) to_q in
    let at_there : at ≡ offset_of there = at_is ∙ ap offset_of start_is in
    let from_there : from ≡ position_of there = from_is ∙ ap position_of start_is in
    let spans : plain comments ≡ span_of p (offset_of there) (comments_for goal p) =
    ap plain (comments_is ∙ ap (λ (o : Option Span). unwrap_or o (record { start = at; end = at })) found_is) ∙ span-is p at (comments_for goal p)
    ∙ ap (λ n. span_of p n (comments_for goal p)) at_there in
    let same : token_after goal kind p q ≡ token kind at end from to line (plain comments) =
    sym (ap (λ n. token kind n end from to line (plain comments)) at_there
    ∙ ap (λ n. token kind (offset_of there) n from to line (plain comments)) end_is
    ∙ ap (λ (x : Pos). token kind (offset_of there) (offset_of q) x to line (plain comments)) from_there
    ∙ ap (λ (x : Pos). token kind (offset_of there) (offset_of q) (position_of there) x line (plain comments)) to_is
    ∙ ap (λ (b : Bool). token kind (offset_of there) (offset_of q) (position_of there) (position_of q) b (plain comments)) line_is
    ∙ ap (λ (s : T.Span). token kind (offset_of there) (offset_of q) (position_of there) (position_of q) (list_any is_line_terminator (gap_run goal p)) s) spans) in
    first ∙ ap (with q) same
