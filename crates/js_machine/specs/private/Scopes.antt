-- What entering a scope does.
use Rattle.std.specs.Prelude.{◌≡◌, ℕ, Bool, true, false, List, [], ◌∷◌, ◌++◌, map}
use Rattle.js_value.specs.State.{Binding, Heap}
use Rattle.js_value.specs.Environments.{next_environment, declare_all}
use Rattle.js_value.specs.Realm.{undefined}
use Rattle.js_code.specs.declared.scopes.BodyScope.{BodyScope}
use Rattle.js_meaning.specs.Scopes.{Hoisted, block_made, hoisted, first_value, variable_of}

-- in an environment of these names and functions: where there is nothing to declare, none is made
abbrev pub Enters : List Binding → List Hoisted → ℕ → Heap → ℕ → Heap → Type 0
Enters [] functions env old inner new = (inner ≡ env) × (new ≡ old)
Enters (b ∷ bs) functions env old inner new = (inner ≡ next_environment old) × (new ≡ block_made (b ∷ bs) functions env old)

-- the names of a body beside its parameters, and apart from them
abbrev pub beside_body : BodyScope → ℕ → Heap → Heap
beside_body scope e h = hoisted scope.functions e (declare_all e (map (variable_of undefined) scope.variables ++ scope.lexical) h)

abbrev pub apart_body : BodyScope → ℕ → Heap → Heap
apart_body scope e h = block_made
    (map (λ name. variable_of (first_value scope.params e h name) name) scope.variables ++ scope.lexical) scope.functions e h

abbrev pub EntersBodyWhere : Bool → BodyScope → ℕ → Heap → ℕ → Heap → Type 0
EntersBodyWhere true scope env old inner new = (inner ≡ next_environment old) × (new ≡ apart_body scope env old)
EntersBodyWhere false scope env old inner new = (inner ≡ env) × (new ≡ beside_body scope env old)

abbrev pub EntersBody : BodyScope → ℕ → Heap → ℕ → Heap → Type 0
EntersBody scope = EntersBodyWhere scope.apart scope
