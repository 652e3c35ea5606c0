-- What the forms of the prelude make that make nothing.
use Rattle.std.proofs.Common.{◌≡◌, Option, None, refl}
use Rattle.js_terms.specs.declared.place.Loc.{Loc}
use Rattle.js_tree.specs.Plain as P
use Rattle.js_value.specs.State.{Heap}
use Rattle.js_code.specs.declared.node.Node.{Node}
use Rattle.js_code.specs.declared.node.Node.TheVariants as node
use Rattle.js_code.specs.declared.node.ListKind.{ListKind}
use Rattle.js_code.specs.declared.node.ListKind.TheVariants as list
use Rattle.js_code.specs.Node.{Reader, build}
use Rattle.js_code.specs.Part.{Part, as_expr, as_property, as_stmt, before, end_of}
use Rattle.js_meaning.specs.Prelude.{literal_made, prelude_stmt, property_made}
use Rattle.js_machine.proofs.NotThese.{NotExpression, NotMethod, NotObjectLiteral, NotParenthesized}

stmt_else_end : (g : Heap) (kind : ListKind) → prelude_stmt (as_stmt (end_of kind)) g ≡ g
stmt_else_end g list.Exprs = refl
stmt_else_end g list.Stmts = refl
stmt_else_end g list.Properties = refl
stmt_else_end g list.TemplateParts = refl
stmt_else_end g list.Params = refl
stmt_else_end g list.Declarators = refl
stmt_else_end g list.Cases = refl

stmt_else_more : (g : Heap) (kind : ListKind) (x xs : Part) → prelude_stmt (as_stmt (before kind x xs)) g ≡ g
stmt_else_more g list.Exprs x xs = refl
stmt_else_more g list.Stmts x xs = refl
stmt_else_more g list.Properties x xs = refl
stmt_else_more g list.TemplateParts x xs = refl
stmt_else_more g list.Params x xs = refl
stmt_else_more g list.Declarators x xs = refl
stmt_else_more g list.Cases x xs = refl

pub stmt_else : (g : Heap) (t : Reader) (n : Node) → NotExpression n → prelude_stmt (as_stmt (build t n)) g ≡ g
stmt_else g t (node.Expression loc expression) h = absurd (h loc expression refl)
stmt_else g t (node.End kind) _ = stmt_else_end g kind
stmt_else g t (node.More kind first rest) _ = stmt_else_more g kind (t first) (t rest)
stmt_else g t _ _ = refl

literal_else_end : (g : Heap) (kind : ListKind) → literal_made (as_expr (end_of kind)) g ≡ g
literal_else_end g list.Exprs = refl
literal_else_end g list.Stmts = refl
literal_else_end g list.Properties = refl
literal_else_end g list.TemplateParts = refl
literal_else_end g list.Params = refl
literal_else_end g list.Declarators = refl
literal_else_end g list.Cases = refl

literal_else_more : (g : Heap) (kind : ListKind) (x xs : Part) → literal_made (as_expr (before kind x xs)) g ≡ g
literal_else_more g list.Exprs x xs = refl
literal_else_more g list.Stmts x xs = refl
literal_else_more g list.Properties x xs = refl
literal_else_more g list.TemplateParts x xs = refl
literal_else_more g list.Params x xs = refl
literal_else_more g list.Declarators x xs = refl
literal_else_more g list.Cases x xs = refl

pub literal_else : (g : Heap) (t : Reader) (n : Node) → NotParenthesized n → NotObjectLiteral n → literal_made (as_expr (build t n)) g ≡ g
literal_else g t (node.Parenthesized loc inner) h _ = absurd (h loc inner refl)
literal_else g t (node.ObjectLiteral loc properties) _ h = absurd (h loc properties refl)
literal_else g t (node.End kind) _ _ = literal_else_end g kind
literal_else g t (node.More kind first rest) _ _ = literal_else_more g kind (t first) (t rest)
literal_else g t _ _ _ = refl

property_else_end : (g : Heap) (kind : ListKind) → property_made (as_property (end_of kind)) g ≡ g
property_else_end g list.Exprs = refl
property_else_end g list.Stmts = refl
property_else_end g list.Properties = refl
property_else_end g list.TemplateParts = refl
property_else_end g list.Params = refl
property_else_end g list.Declarators = refl
property_else_end g list.Cases = refl

property_else_more : (g : Heap) (kind : ListKind) (x xs : Part) → property_made (as_property (before kind x xs)) g ≡ g
property_else_more g list.Exprs x xs = refl
property_else_more g list.Stmts x xs = refl
property_else_more g list.Properties x xs = refl
property_else_more g list.TemplateParts x xs = refl
property_else_more g list.Params x xs = refl
property_else_more g list.Declarators x xs = refl
property_else_more g list.Cases x xs = refl

pub property_else : (g : Heap) (t : Reader) (n : Node) → NotMethod n → property_made (as_property (build t n)) g ≡ g
property_else g t (node.Method loc key function) h = absurd (h loc key function refl)
property_else g t (node.End kind) _ = property_else_end g kind
property_else g t (node.More kind first rest) _ = property_else_more g kind (t first) (t rest)
property_else g t _ _ = refl

-- where a method stands makes no difference
pub method_anywhere : (loc : Option Loc) (key : P.PropertyKey) (f : P.Function) (h : Heap) → property_made (P.Method None key f) h ≡ property_made (P.Method loc key f) h
method_anywhere loc (P.NameKey name) f h = refl
method_anywhere loc (P.StringKey spelled) f h = refl
method_anywhere loc (P.NumberKey spelling) f h = refl
method_anywhere loc (P.ComputedKey e) f h = refl
