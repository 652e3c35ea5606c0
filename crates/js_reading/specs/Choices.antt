-- What the next token chooses, for each choice of the table: a rule on that token alone.
use Rattle.std.specs.Prelude.{ℕ, Bool, true, false, not, ◌&&◌, ◌||◌, List, [], ◌∷◌, codes, if◌then◌else◌, nat_le}
use Rattle.js_terms.specs.declared.operators.VariableKind.TheVariants as variable
use Rattle.js_text.specs.Token.{Token, Kind, TemplateMiddle, End}
use Rattle.js_text.specs.declared.punctuator.Punctuator.TheVariants as P
use Rattle.js_reading.specs.Level.{any, assignment}
use Rattle.js_reading.specs.Kinds.{is_kind}
use Rattle.js_reading.specs.Slots.{Level, WithoutIn, BoundName, Key, LaterText, Choice, Slot, Sign, Text, Expr_, Stmt_, Stmts_, Place_, By, Piece, AKind, Missing, IsComputed, IsMethod, IsIn, IsOf, Branch, Refuse, Pass, Go}
use Rattle.js_reading.specs.Slots as slot
use Rattle.js_reading.specs.Productions.{mark, word, is_mark, is_word, braces, bare, join, wants}

-- where a statement may end without `;`, and an operand may be left out: before `}`, the end and a new line (12.10)
abbrev pub stops : Token → Bool
stops t = t.line_terminator_before || is_mark P.CloseBrace t || is_kind End t.kind

-- a part of a template that another substitution follows
abbrev pub is_middle : Kind → Bool
is_middle (TemplateMiddle w) = true
is_middle k = false

-- the first of these that holds
abbrev pub either : Bool → Branch → Branch → Branch
either b x y = if b then x else y

-- the second and the third part of a `for`, and its body (14.7.4)
abbrev pub for_rest : List Slot
for_rest = By (slot.ValueBefore P.Semicolon) ∷ mark P.Semicolon ∷ By (slot.ValueBefore P.CloseParenthesis) ∷ mark P.CloseParenthesis ∷ Stmt_ ∷ []

-- what stands after `in` or `of`, and the body (14.7.5)
abbrev pub each_rest : ℕ → List Slot
each_rest n = Expr_ (Level n) ∷ mark P.CloseParenthesis ∷ Stmt_ ∷ []

abbrev pub branch : Choice → Token → Branch
branch slot.Semicolon t = either (is_mark P.Semicolon t) (Go [] (mark P.Semicolon) []) (either (stops t && not (is_mark P.Colon t)) (Pass []) Refuse)
branch slot.SemicolonOfDo t = either (is_mark P.Semicolon t) (Go [] (mark P.Semicolon) []) (Pass [])
branch slot.ValueOnLine t = either (stops t || is_mark P.Semicolon t) (Pass (Missing ∷ [])) (Go [] (Expr_ (Level any)) [])
branch slot.LabelOnLine t = either (stops t || is_mark P.Semicolon t) (Pass (Missing ∷ [])) (Go [] (Text BoundName) [])
branch slot.OnLine t = either t.line_terminator_before Refuse (Pass [])
branch (slot.ValueBefore p) t = either (is_mark p t) (Pass (Missing ∷ [])) (Go [] (Expr_ (Level any)) [])
branch slot.Arguments t = either (is_mark P.OpenParenthesis t) (Go [] (mark P.OpenParenthesis) (slot.Items_ P.CloseParenthesis ∷ [])) (either (nat_le (wants (join t)) bare) (Pass (Missing ∷ [])) Refuse)
branch slot.Arrow t = either (is_mark P.Arrow t && not t.line_terminator_before) (Go [] (mark P.Arrow) (By slot.ConciseBody ∷ [])) (Pass (Missing ∷ []))
branch slot.ConciseBody t = either (is_mark P.OpenBrace t) (Go [] (mark P.OpenBrace) (Place_ ∷ Stmts_ ∷ mark P.CloseBrace ∷ Place_ ∷ [])) (Go [] (Expr_ (Level assignment)) [])
branch slot.Else t = either (is_word (codes "else") t) (Go [] (word (codes "else")) (Stmt_ ∷ [])) (Pass (Missing ∷ []))
branch slot.Initializer t = either (is_mark P.Assign t) (Go [] (mark P.Assign) (Expr_ (Level assignment) ∷ Place_ ∷ [])) (Pass (Missing ∷ []))
branch slot.InitializerInHead t = either (is_mark P.Assign t) (Go [] (mark P.Assign) (Expr_ (WithoutIn assignment) ∷ Place_ ∷ [])) (Pass (Missing ∷ []))
branch slot.Declarators t = either (is_mark P.Comma t) (Go [] (mark P.Comma) (Text BoundName ∷ By slot.Initializer ∷ By slot.Declarators ∷ [])) (Pass [])
branch slot.DeclaratorsInHead t = either (is_mark P.Comma t) (Go [] (mark P.Comma) (Text BoundName ∷ By slot.InitializerInHead ∷ By slot.DeclaratorsInHead ∷ [])) (Pass [])
branch slot.FunctionName t = either (is_mark P.OpenParenthesis t) (Pass (Missing ∷ [])) (Go [] (Text BoundName) [])
branch slot.Parameters t = either (is_mark P.CloseParenthesis t) (Go [] (mark P.CloseParenthesis) []) (Go [] (Text BoundName) (By slot.Initializer ∷ By slot.AfterParameter ∷ []))
branch slot.AfterParameter t = either (is_mark P.Comma t) (Go [] (mark P.Comma) (By slot.Parameters ∷ [])) (Go [] (mark P.CloseParenthesis) [])
branch slot.Properties t =
    either (is_mark P.CloseBrace t) (Go [] (mark P.CloseBrace) [])
    (either (is_mark P.OpenBracket t) (Go (IsComputed ∷ []) (mark P.OpenBracket) (Place_ ∷ Expr_ (Level assignment) ∷ mark P.CloseBracket ∷ By slot.AfterKey ∷ By slot.AfterProperty ∷ []))
    (Go [] (Text Key) (By slot.AfterKey ∷ By slot.AfterProperty ∷ [])))
branch slot.AfterKey t =
    either (is_mark P.Colon t) (Go [] (mark P.Colon) (Expr_ (Level assignment) ∷ Place_ ∷ []))
    (either (is_mark P.OpenParenthesis t) (Go (IsMethod ∷ []) (mark P.OpenParenthesis) (By slot.Parameters ∷ braces)) (Pass (Missing ∷ [])))
branch slot.AfterProperty t = either (is_mark P.Comma t) (Go [] (mark P.Comma) (By slot.Properties ∷ [])) (Go [] (mark P.CloseBrace) [])
branch slot.TemplateRest t = either (is_middle t.kind) (Go [] (Text LaterText) (Expr_ (Level any) ∷ By slot.TemplateRest ∷ [])) (Go [] (Text LaterText) [])
branch slot.Clauses t =
    either (is_word (codes "case") t) (Go [] (word (codes "case")) (Place_ ∷ Expr_ (Level any) ∷ mark P.Colon ∷ Stmts_ ∷ Place_ ∷ By slot.Clauses ∷ []))
    (either (is_word (codes "default") t) (Go [] (word (codes "default")) (Place_ ∷ mark P.Colon ∷ Stmts_ ∷ Place_ ∷ By slot.Clauses ∷ [])) (Go [] (mark P.CloseBrace) []))
branch slot.Handler t =
    either (is_word (codes "catch") t) (Go [] (word (codes "catch")) (By slot.CatchName ∷ mark P.OpenBrace ∷ Stmts_ ∷ mark P.CloseBrace ∷ By slot.Finally ∷ []))
    (Go [] (word (codes "finally")) (mark P.OpenBrace ∷ Stmts_ ∷ mark P.CloseBrace ∷ []))
branch slot.CatchName t = either (is_mark P.OpenParenthesis t) (Go [] (mark P.OpenParenthesis) (Text BoundName ∷ mark P.CloseParenthesis ∷ [])) (Pass (Missing ∷ []))
branch slot.Finally t = either (is_word (codes "finally") t) (Go [] (word (codes "finally")) (mark P.OpenBrace ∷ Stmts_ ∷ mark P.CloseBrace ∷ [])) (Pass (Missing ∷ []))
branch slot.Head t =
    either (is_mark P.Semicolon t) (Go (Missing ∷ []) (mark P.Semicolon) for_rest)
    (either (is_word (codes "var") t) (Go (AKind variable.Var ∷ []) (word (codes "var")) (Text BoundName ∷ By slot.AfterBound ∷ []))
    (either (is_word (codes "let") t) (Go (AKind variable.Let ∷ []) (word (codes "let")) (Text BoundName ∷ By slot.AfterBound ∷ []))
    (either (is_word (codes "const") t) (Go (AKind variable.Const ∷ []) (word (codes "const")) (Text BoundName ∷ By slot.AfterBound ∷ []))
    (Go [] (Expr_ (WithoutIn any)) (By slot.AfterTarget ∷ [])))))
branch slot.AfterBound t =
    either (is_word (codes "in") t) (Go (IsIn ∷ []) (word (codes "in")) (each_rest any))
    (either (is_word (codes "of") t) (Go (IsOf ∷ []) (word (codes "of")) (each_rest assignment))
    (either (is_mark P.Assign t) (Go [] (mark P.Assign) (Expr_ (WithoutIn assignment) ∷ Place_ ∷ By slot.DeclaratorsInHead ∷ mark P.Semicolon ∷ for_rest))
    (either (is_mark P.Comma t) (Go (Missing ∷ []) (mark P.Comma) (Text BoundName ∷ By slot.InitializerInHead ∷ By slot.DeclaratorsInHead ∷ mark P.Semicolon ∷ for_rest))
    (Go (Missing ∷ []) (mark P.Semicolon) for_rest))))
branch slot.AfterTarget t =
    either (is_word (codes "in") t) (Go (IsIn ∷ []) (word (codes "in")) (each_rest any))
    (either (is_word (codes "of") t) (Go (IsOf ∷ []) (word (codes "of")) (each_rest assignment)) (Go [] (mark P.Semicolon) for_rest))
