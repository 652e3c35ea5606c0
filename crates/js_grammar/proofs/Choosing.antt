-- Which branch a test takes, and which production.
use Rattle.std.proofs.Common.{◌≡◌, Bool, true, false, Option, if◌then◌else◌, ap, ◌∙◌}
use Rattle.js_reading.specs.Slots.{Branch}
use Rattle.js_reading.specs.Choices.{either}
use Rattle.js_reading.specs.declared.form.Form.{Form}

pub chosen : (b : Bool) (x y : Branch) → b ≡ true → either b x y ≡ x
chosen b x y h = ap (λ a. either a x y) h

pub otherwise : (b : Bool) (x y z : Branch) → b ≡ false → y ≡ z → either b x y ≡ z
otherwise b x y z h k = ap (λ a. either a x y) h ∙ k

pub told : (b : Bool) (x y : Option Form) → b ≡ true → (if b then x else y) ≡ x
told b x y h = ap (λ a. if a then x else y) h

pub passed : (b : Bool) (x y z : Option Form) → b ≡ false → y ≡ z → (if b then x else y) ≡ z
passed b x y z h k = ap (λ a. if a then x else y) h ∙ k
