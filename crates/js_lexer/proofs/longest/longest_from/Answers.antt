use Rattle.std.proofs.Common.{◌≡◌, ◌==◌, ◌≢◌, false, refl, arith}
use Rattle.std.proofs.lemmas.Bool.{ne_eqb}
use Rattle.js_text.specs.Punctuator.{longest_punctuator}
use Rattle.js_lexer.proofs.longest.longest_from.Goals as goal

pub returns-in-123 : goal.returns-in-123
unfolding longest_punctuator
returns-in-123 c = rw c.in-123.is refl

pub returns-in-125 : goal.returns-in-125
unfolding longest_punctuator
returns-in-125 c = rw c.in-125.is refl

pub returns-in-40 : goal.returns-in-40
unfolding longest_punctuator
returns-in-40 c = rw c.in-40.is refl

pub returns-in-41 : goal.returns-in-41
unfolding longest_punctuator
returns-in-41 c = rw c.in-41.is refl

pub returns-in-91 : goal.returns-in-91
unfolding longest_punctuator
returns-in-91 c = rw c.in-91.is refl

pub returns-in-93 : goal.returns-in-93
unfolding longest_punctuator
returns-in-93 c = rw c.in-93.is refl

pub returns-in-59 : goal.returns-in-59
unfolding longest_punctuator
returns-in-59 c = rw c.in-59.is refl

pub returns-in-44 : goal.returns-in-44
unfolding longest_punctuator
returns-in-44 c = rw c.in-44.is refl

pub returns-in-126 : goal.returns-in-126
unfolding longest_punctuator
returns-in-126 c = rw c.in-126.is refl

pub returns-in-58 : goal.returns-in-58
unfolding longest_punctuator
returns-in-58 c = rw c.in-58.is refl

-- no punctuator begins with any other character
pub returns-in_default : goal.returns-in_default
unfolding longest_punctuator
returns-in_default c =
    let is_not_123 : (c.args.first == 123) ≡ false = ne_eqb c.args.first 123 (let other : c.args.first ≢ 123 = omega arith in other) in
    let is_not_125 : (c.args.first == 125) ≡ false = ne_eqb c.args.first 125 (let other : c.args.first ≢ 125 = omega arith in other) in
    let is_not_40 : (c.args.first == 40) ≡ false = ne_eqb c.args.first 40 (let other : c.args.first ≢ 40 = omega arith in other) in
    let is_not_41 : (c.args.first == 41) ≡ false = ne_eqb c.args.first 41 (let other : c.args.first ≢ 41 = omega arith in other) in
    let is_not_91 : (c.args.first == 91) ≡ false = ne_eqb c.args.first 91 (let other : c.args.first ≢ 91 = omega arith in other) in
    let is_not_93 : (c.args.first == 93) ≡ false = ne_eqb c.args.first 93 (let other : c.args.first ≢ 93 = omega arith in other) in
    let is_not_59 : (c.args.first == 59) ≡ false = ne_eqb c.args.first 59 (let other : c.args.first ≢ 59 = omega arith in other) in
    let is_not_44 : (c.args.first == 44) ≡ false = ne_eqb c.args.first 44 (let other : c.args.first ≢ 44 = omega arith in other) in
    let is_not_126 : (c.args.first == 126) ≡ false = ne_eqb c.args.first 126 (let other : c.args.first ≢ 126 = omega arith in other) in
    let is_not_58 : (c.args.first == 58) ≡ false = ne_eqb c.args.first 58 (let other : c.args.first ≢ 58 = omega arith in other) in
    let is_not_46 : (c.args.first == 46) ≡ false = ne_eqb c.args.first 46 (let other : c.args.first ≢ 46 = omega arith in other) in
    let is_not_60 : (c.args.first == 60) ≡ false = ne_eqb c.args.first 60 (let other : c.args.first ≢ 60 = omega arith in other) in
    let is_not_62 : (c.args.first == 62) ≡ false = ne_eqb c.args.first 62 (let other : c.args.first ≢ 62 = omega arith in other) in
    let is_not_61 : (c.args.first == 61) ≡ false = ne_eqb c.args.first 61 (let other : c.args.first ≢ 61 = omega arith in other) in
    let is_not_33 : (c.args.first == 33) ≡ false = ne_eqb c.args.first 33 (let other : c.args.first ≢ 33 = omega arith in other) in
    let is_not_43 : (c.args.first == 43) ≡ false = ne_eqb c.args.first 43 (let other : c.args.first ≢ 43 = omega arith in other) in
    let is_not_45 : (c.args.first == 45) ≡ false = ne_eqb c.args.first 45 (let other : c.args.first ≢ 45 = omega arith in other) in
    let is_not_42 : (c.args.first == 42) ≡ false = ne_eqb c.args.first 42 (let other : c.args.first ≢ 42 = omega arith in other) in
    let is_not_47 : (c.args.first == 47) ≡ false = ne_eqb c.args.first 47 (let other : c.args.first ≢ 47 = omega arith in other) in
    let is_not_37 : (c.args.first == 37) ≡ false = ne_eqb c.args.first 37 (let other : c.args.first ≢ 37 = omega arith in other) in
    let is_not_38 : (c.args.first == 38) ≡ false = ne_eqb c.args.first 38 (let other : c.args.first ≢ 38 = omega arith in other) in
    let is_not_124 : (c.args.first == 124) ≡ false = ne_eqb c.args.first 124 (let other : c.args.first ≢ 124 = omega arith in other) in
    let is_not_94 : (c.args.first == 94) ≡ false = ne_eqb c.args.first 94 (let other : c.args.first ≢ 94 = omega arith in other) in
    let is_not_63 : (c.args.first == 63) ≡ false = ne_eqb c.args.first 63 (let other : c.args.first ≢ 63 = omega arith in other) in
    rw (is_not_123, is_not_125, is_not_40, is_not_41, is_not_91, is_not_93, is_not_59, is_not_44, is_not_126, is_not_58, is_not_46, is_not_60, is_not_62, is_not_61, is_not_33, is_not_43, is_not_45, is_not_42, is_not_47, is_not_37, is_not_38, is_not_124, is_not_94, is_not_63) refl
