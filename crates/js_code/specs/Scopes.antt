-- What a scope begins with, as a node tells it.
use Rattle.std.specs.Prelude.{ℕ, Bool, true, false, List, [], ◌++◌, map}
use Rattle.js_tree.specs.Plain as P
use Rattle.js_value.specs.State.{Binding}
use Rattle.js_value.specs.Realm.{undefined}
use Rattle.js_meaning.specs.Scopes.{Scope, variable_of, once, block_scope, body_scope, param_names, has_defaults}
use Rattle.js_meaning.specs.Files.{file_names}
use Rattle.js_code.specs.declared.scopes.BlockScope.{BlockScope}
use Rattle.js_code.specs.declared.scopes.BodyScope.{BodyScope}

-- the names that an environment begins with (14.2.3)
abbrev pub scope_names : Scope → List Binding
scope_names scope = map (variable_of undefined) scope.variables ++ scope.lexical

abbrev pub block_names : P.Stmts → BlockScope
block_names xs = record { names = scope_names (block_scope xs); functions = (block_scope xs).functions }

-- those of a body (10.2.11): its variables are told without the parameters' names, where they stand beside them
abbrev pub told_before : Bool → List (List ℕ) → List (List ℕ)
told_before true params = []
told_before false params = params

abbrev pub body_names : Bool → List (List ℕ) → P.Stmts → BodyScope
body_names apart params xs = record {
  params = params;
  apart = apart;
  variables = once (told_before apart params) (body_scope xs).variables;
  lexical = (body_scope xs).lexical;
  functions = (body_scope xs).functions;
}

abbrev pub code_names : P.Params → P.Stmts → BodyScope
code_names params xs = body_names (has_defaults params) (param_names params) xs

-- those of a file
abbrev pub file_scope : P.Stmts → BodyScope
file_scope xs = body_names false file_names xs
