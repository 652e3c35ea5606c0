-- What is put into a file for its marks: the code that counts, with the name N of the file's function.
use Rattle.std.specs.Prelude.{ℕ, ◌^◌, nat_lt, List, [], ◌∷◌, ◌++◌, None, codes, decimal, if◌then◌else◌}
use Rattle.js_terms.specs.declared.construct.ConstructKind.{ConstructKind}
use Rattle.js_terms.specs.declared.construct.ConstructKind.TheVariants as construct_kind
use Rattle.js_terms.specs.declared.operators.UpdateOperator.TheVariants as update
use Rattle.js_terms.specs.declared.words.Spelled.{Spelled}
use Rattle.js_terms.specs.Mark.{Mark}
use Rattle.js_tree.specs.Plain.{Expr, IdentifierReference, NumericLiteral, StringLiteral, ObjectLiteral, Parenthesized, NamedMember, ComputedMember, Call, PostfixUpdate, Comma, KeyValue, ComputedKey, no_expr, no_property, more_property}
use Rattle.js_reading.specs.Productions.{string_of}

abbrev pub name : List ℕ → Expr
name text = IdentifierReference None text

-- a number in decimal; `decimal` spells those of at most 64 digits alone, and no file has more than 2^64 constructs
abbrev pub spelt : ℕ → List ℕ
spelt n = if nat_lt n (2 ^ 64) then decimal n else codes "0"

abbrev pub numeral : ℕ → Expr
numeral n = NumericLiteral None (spelt n)

-- a text without quotes, backslashes and ends of lines, in quotes
abbrev pub quoted : List ℕ → Spelled
quoted text = string_of (0x22 ∷ (text ++ 0x22 ∷ []))

abbrev pub text : List ℕ → Expr
text t = StringLiteral None (quoted t)

-- `N().s[i]`, `N().f[i]`, `N().b[i][j]`
abbrev pub counted_in : Expr → Mark → ConstructKind → Expr
counted_in held mark construct_kind.Statement = ComputedMember None (NamedMember None held (codes "s")) (numeral mark.number)
counted_in held mark construct_kind.Function = ComputedMember None (NamedMember None held (codes "f")) (numeral mark.number)
counted_in held mark construct_kind.Branch = ComputedMember None (ComputedMember None (NamedMember None held (codes "b")) (numeral mark.number)) (numeral mark.path)

-- the counter of a mark
abbrev pub counter : List ℕ → Mark → Expr
counter n mark = PostfixUpdate None update.Increment (counted_in (Call None (name n) no_expr) mark mark.kind)

-- `(COUNTER,E)`
abbrev pub after_counter : Expr → Expr → Expr
after_counter count e = Parenthesized None (Comma None count e)

-- `{["f"]:E}["f"]`: an anonymous function E gets the name f (13.2.5.5)
abbrev pub with_name : List ℕ → Expr → Expr
with_name f e = ComputedMember None (ObjectLiteral None (more_property (KeyValue None (ComputedKey (text f)) e) no_property)) (text f)
