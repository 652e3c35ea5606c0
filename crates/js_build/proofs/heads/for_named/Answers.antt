use Rattle.std.proofs.Common.{◌≡◌, ◌∙◌, true, false, sym, ap}
use Rattle.js_reading.specs.Makes.{declarators_of, for_declared, is_const, one_more_declarator}
use Rattle.js_build.specs.Callables.{plain_initializer}
use Rattle.js_build.specs.DeclaratorPieces.{cons_if, declarator_with, front, refuses, settled}
use Rattle.js_build.specs.View.{plain_pieces}
use Rattle.js_build.proofs.DeclarationLaws.{declared_word, unless, word_declared}
use Rattle.js_build.proofs.MadeAs.{makes_as}
use Rattle.js_build.proofs.heads.for_named.Goals as goal

pub returns-in-None : goal.returns-in-None
returns-in-None c = makes_as c.nothing.result (ap (for_declared c.args.place c.args.kind) (declared_word (is_const c.args.kind) c.args.name c.args.at (cons_if c.args.next (plain_pieces c.args.pieces)) ∙ ap (word_declared (is_const c.args.kind) c.args.name c.args.at) (sym c.in-None.ensures.read))) c.nothing.ensures

pub returns-then-refuses : goal.returns-then-refuses
returns-then-refuses c =
    let refused : refuses (is_const c.args.kind) (plain_initializer c.in-Some.initializer) ≡ true = sym (c.refuses.ensures ∙ ap (λ b. refuses b (plain_initializer c.in-Some.initializer)) c.is_const.ensures) ∙ c.if-refuses.true in
    makes_as c.nothing-then-refuses.result (ap (for_declared c.args.place c.args.kind) (declared_word (is_const c.args.kind) c.args.name c.args.at (cons_if c.args.next (plain_pieces c.args.pieces)) ∙ (ap (word_declared (is_const c.args.kind) c.args.name c.args.at) (sym c.in-Some.ensures.read) ∙ ap (λ b. unless b (one_more_declarator (declarator_with c.args.name c.args.at (plain_initializer c.in-Some.initializer)) (settled (declarators_of (is_const c.args.kind) (plain_pieces c.initializer_after.new.pieces))))) refused))) c.nothing-then-refuses.ensures

pub returns-in_ok-made-in-Some : goal.returns-in_ok-made-in-Some
returns-in_ok-made-in-Some c =
    let refused : refuses (is_const c.args.kind) (plain_initializer c.in-Some.initializer) ≡ false = sym (c.refuses.ensures ∙ ap (λ b. refuses b (plain_initializer c.in-Some.initializer)) c.is_const.ensures) ∙ c.if-refuses.false in
    let rest = settled (declarators_of (is_const c.args.kind) (plain_pieces c.initializer_after.new.pieces)) in
    makes_as c.for_variables.result (ap (for_declared c.args.place c.args.kind) (declared_word (is_const c.args.kind) c.args.name c.args.at (cons_if c.args.next (plain_pieces c.args.pieces)) ∙ (ap (word_declared (is_const c.args.kind) c.args.name c.args.at) (sym c.in-Some.ensures.read) ∙ (ap (λ b. unless b (one_more_declarator (declarator_with c.args.name c.args.at (plain_initializer c.in-Some.initializer)) rest)) refused ∙ ap (λ ds. front ds rest) (sym c.in_ok-made-in-Some.ensures))))) c.for_variables.ensures
