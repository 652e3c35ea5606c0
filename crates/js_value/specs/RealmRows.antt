-- Worked examples of what stands when a program begins.
use Rattle.std.specs.Prelude.{◌≡◌, ℕ, suc, ◌&&◌, ◌||◌, ◌==◌, nat_lt, Bool, true, false, List, [], ◌∷◌, map, length, Some, None, codes}
use Rattle.js_value.specs.declared.error_kind.ErrorKind.TheVariants.{TypeError}
use Rattle.js_value.specs.declared.built_in.Place.{Place}
use Rattle.js_value.specs.declared.built_in.Place.TheVariants as place
use Rattle.js_value.specs.declared.built_in.TheConstants.{PROTOTYPES, CONSTRUCTORS}
use Rattle.js_value.specs.State.{BuiltIn, ObjectRecord}
use Rattle.js_value.specs.Objects.{object_at, kind_of, own, get, keys}
use Rattle.js_value.specs.Environments.{lookup, value_of, assign_answer, Constant}
use Rattle.js_value.specs.Realm.{opening, fixed, hidden, object, number_of, error_prototype, first_function, built_in_count, text, global_environment}
use Rattle.js_value.specs.StoreRows.{cell, named, number}

-- each object of the list inherits from an older one, or from none, where so many stand before the list
abbrev pub are_older : ℕ → List ObjectRecord → Bool
are_older n [] = true
are_older n (x ∷ xs) = (elim x.prototype [ None ↦ true | Some p ↦ nat_lt p n ]) && are_older (suc n) xs

-- each place has the number of its row, where so many stand before them
abbrev pub in_order : ℕ → List Place → Bool
in_order n [] = true
in_order n (p ∷ ps) = number_of p == n && in_order (suc n) ps

-- each object of the list is frozen but the global one, where so many stand before the list
abbrev pub are_frozen : ℕ → List ObjectRecord → Bool
are_frozen n [] = true
are_frozen n (x ∷ xs) = (x.frozen || n == number_of place.Global) && are_frozen (suc n) xs

pub record Places : Type 0 where
  pub objects : in_order 0 (map (λ row. row.0) PROTOTYPES) ≡ true
  pub functions : in_order first_function (map (λ row. row.0) CONSTRUCTORS) ≡ true
  pub size : length opening.objects ≡ built_in_count
  pub older : are_older 0 opening.objects ≡ true
  pub frozen : are_frozen 0 opening.objects ≡ true
  pub global : (object_at opening (number_of place.Global)).frozen ≡ false

pub record Inheritance : Type 0 where
  pub of_errors : (object_at opening (number_of place.RangeErrorPrototype)).prototype ≡ Some (number_of place.ErrorPrototype)
  pub of_error_functions : (object_at opening (number_of place.RangeError)).prototype ≡ Some (number_of place.Error)
  pub of_error : (object_at opening (number_of place.Error)).prototype ≡ Some (number_of place.FunctionPrototype)
  pub of_functions : (object_at opening (number_of place.Array)).prototype ≡ Some (number_of place.FunctionPrototype)
  pub of_all : (object_at opening (number_of place.ObjectPrototype)).prototype ≡ None
  pub global : keys opening (number_of place.Global) ≡ []
  pub regular : keys opening (number_of place.RegExpPrototype) ≡ []

pub record Functions : Type 0 where
  pub kind : kind_of opening (number_of place.String) ≡ BuiltIn 2
  pub order : named (keys opening (number_of place.String)) ≡ codes "length" ∷ codes "name" ∷ codes "fromCharCode" ∷ codes "prototype" ∷ []
  pub name : own opening (number_of place.SyntaxError) (codes "name") ≡ Some (fixed (codes "name") (text (codes "SyntaxError")))
  pub length : own opening (number_of place.Array) (codes "length") ≡ Some (fixed (codes "length") (number 1))
  pub prototype : own opening (number_of place.Array) (codes "prototype") ≡ Some (fixed (codes "prototype") (object (number_of place.ArrayPrototype)))
  pub constructor : own opening (number_of place.ArrayPrototype) (codes "constructor") ≡ Some (hidden (codes "constructor") (object (number_of place.Array)))
  pub inherited : get opening (number_of place.RangeErrorPrototype) (codes "constructor") ≡ Some (object (number_of place.RangeError))
  pub math : named (keys opening (number_of place.Math)) ≡ codes "abs" ∷ codes "floor" ∷ codes "max" ∷ codes "min" ∷ []

pub record Errors : Type 0 where
  pub name : own opening (number_of (error_prototype TypeError)) (codes "name") ≡ Some (hidden (codes "name") (text (codes "TypeError")))
  pub message : own opening (number_of place.SyntaxErrorPrototype) (codes "message") ≡ Some (hidden (codes "message") (text []))

pub record GlobalNames : Type 0 where
  pub undefined_name : lookup opening global_environment (codes "undefined") ≡ Some (cell global_environment 0)
  pub global_this : value_of opening (cell global_environment 1) ≡ Some (object (number_of place.Global))
  pub math : value_of opening (cell global_environment 2) ≡ Some (object (number_of place.Math))
  pub constructor : value_of opening (cell global_environment 3) ≡ Some (object (number_of place.Object))
  pub print : lookup opening global_environment (codes "print") ≡ Some (cell global_environment 13)
  pub held : lookup opening global_environment (codes "push") ≡ None
  pub required : lookup opening global_environment (codes "require") ≡ None
  pub constant : assign_answer opening (cell global_environment 13) ≡ Constant
