-- What is known of functions as they stand.
use Rattle.std.proofs.Common.{◌≡◌, ℕ, Bool, true, false, not, Some, refl, ap, ◌∙◌}
use Rattle.js_tree.specs.Plain as P
use Rattle.js_tree.specs.Codes.{Code, Ordinary, OfMethod, Arrow, number_of, is_constructor}
use Rattle.js_value.specs.declared.value.Value.{Value}
use Rattle.js_code.specs.Node.{of_method}
use Rattle.js_meaning.specs.Scopes.{Shape, shape_of, expected_arguments, params_of}
use Rattle.js_machine.specs.declared.parts.Form.{Form}
use Rattle.js_machine.specs.declared.parts.Form.TheVariants as form
use Rattle.js_machine.specs.private.Config.{form_code, is_ordinary, own_this}

abbrev shape_by : Form → ℕ → ℕ → Shape
shape_by f number length = record { number = number; length = length; constructs = is_ordinary f }

as_it_is : (f : Form) (code : Code) → shape_by f (number_of code) (expected_arguments (params_of code)) ≡ shape_of (form_code f code)
as_it_is form.Ordinary (Ordinary (P.MakeFunction number params body)) = refl
as_it_is form.Ordinary (OfMethod (P.MakeFunction number params body)) = refl
as_it_is form.Ordinary (Arrow number params body) = refl
as_it_is form.Method (Ordinary (P.MakeFunction number params body)) = refl
as_it_is form.Method (OfMethod (P.MakeFunction number params body)) = refl
as_it_is form.Method (Arrow number params body) = refl
as_it_is form.Arrow (Ordinary (P.MakeFunction number params body)) = refl
as_it_is form.Arrow (OfMethod (P.MakeFunction number params body)) = refl
as_it_is form.Arrow (Arrow number params body) = refl

-- its shape is that of its code
pub shape_is : (f : Form) (code : Code) (number length : ℕ) → number ≡ number_of code → length ≡ expected_arguments (params_of code) →
    record { number = number; length = length; constructs = is_ordinary f } ≡ shape_of (form_code f code)
shape_is f code number length n l = ap (λ x. shape_by f x length) n ∙ ap (shape_by f (number_of code)) l ∙ as_it_is f code

pub method_number : (b : Bool) (number : ℕ) (params : P.Params) (body : P.FunctionBody) → number ≡ number_of (of_method b (P.MakeFunction number params body))
method_number true number params body = refl
method_number false number params body = refl

pub method_constructs : (b : Bool) (f : P.Function) → not b ≡ is_constructor (of_method b f)
method_constructs true f = refl
method_constructs false f = refl

-- of a function, and of an arrow function
pub function_shape : (f : Form) (b : Bool) (number length : ℕ) (params : P.Params) (body : P.FunctionBody) → length ≡ expected_arguments params →
    record { number = number; length = length; constructs = is_ordinary f } ≡ shape_of (form_code f (of_method b (P.MakeFunction number params body)))
function_shape f true number length params body is = shape_is f (OfMethod (P.MakeFunction number params body)) number length refl is
function_shape f false number length params body is = shape_is f (Ordinary (P.MakeFunction number params body)) number length refl is

pub arrow_shape : (f : Form) (number length : ℕ) (params : P.Params) (body : P.ConciseBody) → length ≡ expected_arguments params →
    record { number = number; length = length; constructs = is_ordinary f } ≡ shape_of (form_code f (Arrow number params body))
arrow_shape f number length params body is = shape_is f (Arrow number params body) number length refl is

pub method_this : (b : Bool) (f : P.Function) (v : Value) → Some v ≡ own_this (of_method b f) v
method_this true f v = refl
method_this false f v = refl
