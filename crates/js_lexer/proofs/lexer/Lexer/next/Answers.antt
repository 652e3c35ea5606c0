-- A token is the one of the definition, where the lexer stood.
use Rattle.std.proofs.Common.{◌≡◌, Some, None, ◌∙◌, subst}
use Rattle.js_text.specs.Place.{Place}
use Rattle.js_text.specs.Lex.{next_token}
use Rattle.js_lexer.specs.Token.{plain_token}
use Rattle.js_lexer.proofs.Lex.{lex-here, no_lex-here, next_token-text, next_token-spelled, next_token-start, next_token-order}
use Rattle.js_lexer.proofs.lexer.Lexer.next.Goals as goal

pub returns-in-Ok-clause-lex : goal.returns-in-Ok-clause-lex
returns-in-Ok-clause-lex c =
    let next : next_token c.args.goal c.args.self.now ≡ Some (plain_token c.in-Ok.token, c.next_of.new.cursor) =
    subst (λ (p : Place). next_token c.args.goal p ≡ Some (plain_token c.in-Ok.token, c.next_of.new.cursor)) (c.again-cursor.ensures ∙ c.self.view_is) c.in-Ok.ensures.token in
    lex-here c.args.goal _ _ _ next

pub returns-in-Ok-clause-text : goal.returns-in-Ok-clause-text
returns-in-Ok-clause-text c =
    let next : next_token c.args.goal c.args.self.now ≡ Some (plain_token c.in-Ok.token, c.next_of.new.cursor) =
    subst (λ (p : Place). next_token c.args.goal p ≡ Some (plain_token c.in-Ok.token, c.next_of.new.cursor)) (c.again-cursor.ensures ∙ c.self.view_is) c.in-Ok.ensures.token in
    next_token-text c.args.goal _ _ _ next

pub returns-in-Ok-clause-spelled : goal.returns-in-Ok-clause-spelled
returns-in-Ok-clause-spelled c =
    let next : next_token c.args.goal c.args.self.now ≡ Some (plain_token c.in-Ok.token, c.next_of.new.cursor) =
    subst (λ (p : Place). next_token c.args.goal p ≡ Some (plain_token c.in-Ok.token, c.next_of.new.cursor)) (c.again-cursor.ensures ∙ c.self.view_is) c.in-Ok.ensures.token in
    next_token-spelled c.args.goal _ _ _ next

pub returns-in-Ok-clause-after_the_last : goal.returns-in-Ok-clause-after_the_last
returns-in-Ok-clause-after_the_last c =
    let next : next_token c.args.goal c.args.self.now ≡ Some (plain_token c.in-Ok.token, c.next_of.new.cursor) =
    subst (λ (p : Place). next_token c.args.goal p ≡ Some (plain_token c.in-Ok.token, c.next_of.new.cursor)) (c.again-cursor.ensures ∙ c.self.view_is) c.in-Ok.ensures.token in
    next_token-start c.args.goal _ _ _ next

pub returns-in-Ok-clause-in_order : goal.returns-in-Ok-clause-in_order
returns-in-Ok-clause-in_order c =
    let next : next_token c.args.goal c.args.self.now ≡ Some (plain_token c.in-Ok.token, c.next_of.new.cursor) =
    subst (λ (p : Place). next_token c.args.goal p ≡ Some (plain_token c.in-Ok.token, c.next_of.new.cursor)) (c.again-cursor.ensures ∙ c.self.view_is) c.in-Ok.ensures.token in
    next_token-order c.args.goal _ _ _ next

pub returns-in-Err-clause-no_lex : goal.returns-in-Err-clause-no_lex
returns-in-Err-clause-no_lex c = λ token.
    no_lex-here c.args.goal c.args.self.now token
    (subst (λ (p : Place). next_token c.args.goal p ≡ None) (c.again-cursor.ensures ∙ c.self.view_is) c.in-Err.ensures.fault)
