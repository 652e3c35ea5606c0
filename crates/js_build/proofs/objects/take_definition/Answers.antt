use Rattle.std.proofs.Common.{◌∙◌, ◌∷◌, sym, ap, rules}
use Rattle.js_tree.specs.Tree.{plain_expr}
use Rattle.js_build.specs.Objects.{definition_of}
use Rattle.js_build.specs.View.{plain_pieces}
use Rattle.js_build.proofs.ObjectLaws.{definition_value, valued}
use Rattle.js_build.proofs.objects.take_definition.Goals as goal

pub returns-in-Some-Missing : goal.returns-in-Some-Missing
returns-in-Some-Missing c = sym (ap (λ ps. definition_of (plain_pieces ps)) (c.in-Some-Missing.ensures.next ∙ ap (λ p. p ∷ c.next.new.self) c.in-Some-Missing.field-0-is))

pub returns-in-Some-Method : goal.returns-in-Some-Method
returns-in-Some-Method c = sym (ap (λ ps. definition_of (plain_pieces ps)) (c.in-Some-Method.ensures.next ∙ ap (λ p. p ∷ c.next.new.self) c.in-Some-Method.field-0-is))

pub returns-in-None : goal.returns-in-None
returns-in-None c =
    let v = c.in-Some-Expression.value in
    sym (ap (λ ps. definition_of (plain_pieces ps)) (c.in-Some-Expression.ensures.next ∙ ap (λ p. p ∷ c.next.new.self) c.in-Some-Expression.field-0-is)
    ∙ definition_value v.level (plain_expr v.tree) (plain_pieces c.next.new.self) ∙ ap (valued (plain_expr v.tree)) (sym c.in-None.ensures.read))

pub returns-in-Some : goal.returns-in-Some
returns-in-Some c =
    let v = c.in-Some-Expression.value in
    sym (ap (λ ps. definition_of (plain_pieces ps)) (c.in-Some-Expression.ensures.next ∙ ap (λ p. p ∷ c.next.new.self) c.in-Some-Expression.field-0-is)
    ∙ definition_value v.level (plain_expr v.tree) (plain_pieces c.next.new.self) ∙ ap (valued (plain_expr v.tree)) (sym c.in-Some.ensures.read))

pub returns-in_default : goal.returns-in_default
returns-in_default c = search rules
