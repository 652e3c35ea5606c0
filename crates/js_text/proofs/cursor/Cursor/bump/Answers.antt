use Rattle.std.proofs.Common.{◌≡◌, ℕ, List, ◌∷◌, ◌++◌, drop, take, chars, encode_utf8, sym, ap, ◌∙◌}
use Rattle.std.proofs.lemmas.Str.{chars_past_char, drop_past_char}
use Rattle.js_text.specs.Place.{Place}
use Rattle.js_text.specs.Position.{position_of}
use Rattle.js_text.proofs.Place.{scalar-first, length-past_char, IsUtf8-take-past_char, chars-take-past_char}
use Rattle.js_text.proofs.cursor.Cursor.bump.Goals as goal

pub returns-clause-after : goal.returns-clause-after
returns-clause-after c =
    let begins : c.self.inside.rest.now ≡ encode_utf8 c.in_ok-next.next ++ c.as_str-self-inside.result.now =
    sym c.chars-chars.ensures.rest ∙ c.in_ok-next.ensures.steps.0 ∙ ap (λ bs. encode_utf8 c.in_ok-next.next ++ bs) (sym c.as_str-self-inside.ensures) in
    rw (← c.self.view_is) (chars_past_char _ _ _ c.self.invariant.rest_utf8 begins)

pub returns-clause-before : goal.returns-clause-before
returns-clause-before c =
    let begins : c.self.inside.rest.now ≡ encode_utf8 c.in_ok-next.next ++ c.as_str-self-inside.result.now =
    sym c.chars-chars.ensures.rest ∙ c.in_ok-next.ensures.steps.0 ∙ ap (λ bs. encode_utf8 c.in_ok-next.next ++ bs) (sym c.as_str-self-inside.ensures) in
    let scalar = scalar-first _ _ _ c.self.invariant.rest_utf8 begins in
    rw (← c.self.view_is, c.len_utf8.ensures.value)
    (chars-take-past_char _ _ _ _ c.self.invariant.front scalar (sym c.self.invariant.rest ∙ begins))

pub invariant_of-self : goal.invariant_of-self
invariant_of-self c =
    let begins : c.self.inside.rest.now ≡ encode_utf8 c.in_ok-next.next ++ c.as_str-self-inside.result.now =
    sym c.chars-chars.ensures.rest ∙ c.in_ok-next.ensures.steps.0 ∙ ap (λ bs. encode_utf8 c.in_ok-next.next ++ bs) (sym c.as_str-self-inside.ensures) in
    let scalar = scalar-first _ _ _ c.self.invariant.rest_utf8 begins in
    let cut : drop c.self.inside.offset c.self.inside.text.now ≡ encode_utf8 c.in_ok-next.next ++ c.as_str-self-inside.result.now =
    sym c.self.invariant.rest ∙ begins in
    let front = chars (take c.self.inside.offset c.self.inside.text.now) in
    let was : c.self.inside.position ≡ position_of (record { before = front; after = c.in_ok-next.next ∷ chars c.as_str-self-inside.result.now }) =
    c.self.invariant.position
    ∙ ap (λ (cs : List ℕ). let place : Place = record { before = front; after = cs } in position_of place) (chars_past_char _ _ _ c.self.invariant.rest_utf8 begins) in
    rw c.len_utf8.ensures.value record {
      within = length-past_char _ _ _ _ c.self.invariant.within cut;
      front = IsUtf8-take-past_char _ _ _ _ c.self.invariant.front scalar cut;
      rest = sym (drop_past_char _ _ _ _ cut);
      rest_utf8 = c.as_str-self-inside.utf8;
      position = c.position_after-self-inside.ensures front was
          ∙ ap (λ (cs : List ℕ). let place : Place = record { before = cs; after = chars c.as_str-self-inside.result.now } in position_of place)
          (sym (chars-take-past_char _ _ _ _ c.self.invariant.front scalar cut));
    }
