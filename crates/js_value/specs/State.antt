-- What a running program holds (ECMA-262, 6.1.7, 9.1 and 10): its objects and environments, each numbered in the order in
-- which they were made, the files that it started, what it wrote, and the constructs that it entered.
use Rattle.std.specs.Prelude.{ℕ, Bool, List, Option}
use Rattle.js_terms.specs.Mark.{Mark}
use Rattle.js_value.specs.declared.value.Value.{Value}

-- what an object is (10.1 to 10.4). A function of a program has the number of its code and the environment that it closes
-- over; one that is built in has its number in the table of the host.
pub data ObjectKind : Type 0 where
  Plain : ObjectKind
  Array : ObjectKind
  Error : ObjectKind
  RegExp : ObjectKind
  BuiltIn : (function : ℕ) → ObjectKind
  Written : (code environment : ℕ) → ObjectKind

-- a data property (6.1.7.1) with [[Enumerable]] and [[Writable]]; its key is a text of 16-bit units
pub record Property : Type 0 where
  pub key : List ℕ
  pub value : Value
  pub enumerable : Bool
  pub writable : Bool

-- an object: its [[Prototype]] (10.1), the elements that it has where it is an array, and its other own properties in the order
-- in which they were added
pub record ObjectRecord : Type 0 where
  pub kind : ObjectKind
  pub prototype : Option ℕ
  pub frozen : Bool
  pub elements : List Value
  pub properties : List Property

-- a name of an environment (9.1.1.1), by its UTF-8 bytes: without a value it is not initialized yet
pub record Binding : Type 0 where
  pub name : List ℕ
  pub value : Option Value
  pub constant : Bool

-- an environment (9.1): the one around it, and its names in the order in which they were declared
pub record Environment : Type 0 where
  pub outer : Option ℕ
  pub bindings : List Binding

-- a file that was started, by its path, and its object `module`
pub record Cached : Type 0 where
  pub path : List ℕ
  pub object : ℕ

-- an object `require`, and the path of the file that it was made for
pub record Requiring : Type 0 where
  pub function : ℕ
  pub path : List ℕ

-- objects and environments, each numbered in the order in which they were made
pub record Heap : Type 0 where
  pub objects : List ObjectRecord
  pub environments : List Environment

-- `started` has each counted file once, `starts` every start of a file, both in the order of the starts
pub record Store : Type 0 where
  pub heap : Heap
  pub cache : List Cached
  pub requiring : List Requiring
  pub output : List ℕ
  pub log : List Mark
  pub started : List ℕ
  pub starts : List ℕ
