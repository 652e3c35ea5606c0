-- What stands when a program begins: the realm, and the methods of arrays that are written in the language itself.
use Rattle.std.specs.Prelude.{ℕ, List}
use Rattle.js_tree.specs.Plain.{Expr, ObjectLiteral, Parenthesized, Entered, Stmt, Expression, EnteredStmt, Stmts, no_stmt, more_stmt, Properties, no_property, more_property, Property, Method, NameKey, File, MakeFile, Function}
use Rattle.js_tree.specs.Codes.{OfMethod}
use Rattle.js_value.specs.declared.built_in.Place.TheVariants.{ArrayPrototype}
use Rattle.js_value.specs.State.{Heap, Store}
use Rattle.js_value.specs.Objects.{next_object, define, freeze}
use Rattle.js_value.specs.Running.{on_heap}
use Rattle.js_value.specs.Realm.{number_of, global_environment, object, hidden, realm}
use Rattle.js_value.specs.Functions.{name_units}
use Rattle.js_meaning.specs.Scopes.{shape_of, closed}
use Rattle.js_meaning.specs.Program.{Sources}

-- a method of arrays, frozen as all built-in objects are, and not enumerable
abbrev pub method_made : List ℕ → Function → Heap → Heap
method_made name function h =
    define (number_of ArrayPrototype) (hidden (name_units name) (object (next_object h)))
    (freeze (next_object h) (closed (shape_of (OfMethod function)) (name_units name) global_environment h))

abbrev pub property_made : Property → Heap → Heap
property_made (Method loc (NameKey name) function) h = method_made name function h
property_made _ h = h

abbrev pub properties_made : Properties → Heap → Heap
properties_made no_property h = h
properties_made (more_property x xs) h = properties_made xs (property_made x h)

-- the methods of an object literal, parentheses notwithstanding
abbrev pub literal_made : Expr → Heap → Heap
literal_made (ObjectLiteral loc properties) h = properties_made properties h
literal_made (Parenthesized loc e) h = literal_made e h
literal_made (Entered mark e) h = literal_made e h
literal_made _ h = h

abbrev pub prelude_stmt : Stmt → Heap → Heap
prelude_stmt (Expression loc e) h = literal_made e h
prelude_stmt (EnteredStmt mark x) h = prelude_stmt x h
prelude_stmt _ h = h

abbrev pub prelude_stmts : Stmts → Heap → Heap
prelude_stmts no_stmt h = h
prelude_stmts (more_stmt x xs) h = prelude_stmts xs (prelude_stmt x h)

abbrev pub prelude_made : File → Heap → Heap
prelude_made (MakeFile xs comments) h = prelude_stmts xs h

-- the store that stands when a program begins
abbrev pub opening : Sources → Store
opening p = on_heap (prelude_made p.prelude) realm
