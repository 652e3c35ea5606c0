-- What a choice may lead to, whatever the next token is.
use Rattle.std.proofs.Common.{◌≡◌, Bool, true, false, ◌&&◌, List, [], ◌∷◌, codes, if◌then◌else◌}
use Rattle.std.proofs.lemmas.Bool.{and_parts}
use Rattle.js_terms.specs.declared.operators.VariableKind.TheVariants as variable
use Rattle.js_text.specs.Token.{Token}
use Rattle.js_text.specs.declared.punctuator.Punctuator.TheVariants as P
use Rattle.js_reading.specs.Level.{any, assignment}
use Rattle.js_reading.specs.Slots.{Level, WithoutIn, BoundName, Key, LaterText, Choice, Slot, Sign, Text, Expr_, Stmt_, Stmts_, Place_, By, Piece, AKind, Missing, IsComputed, IsMethod, IsIn, IsOf, Branch, Refuse, Pass, Go}
use Rattle.js_reading.specs.Slots as slot
use Rattle.js_reading.specs.Productions.{mark, word, braces}
use Rattle.js_reading.specs.Choices.{branch, for_rest, each_rest}

-- the branches of a choice
abbrev pub branches : Choice → List Branch
branches slot.Semicolon = Go [] (mark P.Semicolon) [] ∷ Pass [] ∷ Refuse ∷ []
branches slot.SemicolonOfDo = Go [] (mark P.Semicolon) [] ∷ Pass [] ∷ []
branches slot.ValueOnLine = Pass (Missing ∷ []) ∷ Go [] (Expr_ (Level any)) [] ∷ []
branches slot.LabelOnLine = Pass (Missing ∷ []) ∷ Go [] (Text BoundName) [] ∷ []
branches slot.OnLine = Refuse ∷ Pass [] ∷ []
branches (slot.ValueBefore p) = Pass (Missing ∷ []) ∷ Go [] (Expr_ (Level any)) [] ∷ []
branches slot.Arguments = Go [] (mark P.OpenParenthesis) (slot.Items_ P.CloseParenthesis ∷ []) ∷ Pass (Missing ∷ []) ∷ Refuse ∷ []
branches slot.Arrow = Go [] (mark P.Arrow) (By slot.ConciseBody ∷ []) ∷ Pass (Missing ∷ []) ∷ []
branches slot.ConciseBody = Go [] (mark P.OpenBrace) (Place_ ∷ Stmts_ ∷ mark P.CloseBrace ∷ Place_ ∷ []) ∷ Go [] (Expr_ (Level assignment)) [] ∷ []
branches slot.Else = Go [] (word (codes "else")) (Stmt_ ∷ []) ∷ Pass (Missing ∷ []) ∷ []
branches slot.Initializer = Go [] (mark P.Assign) (Expr_ (Level assignment) ∷ Place_ ∷ []) ∷ Pass (Missing ∷ []) ∷ []
branches slot.InitializerInHead = Go [] (mark P.Assign) (Expr_ (WithoutIn assignment) ∷ Place_ ∷ []) ∷ Pass (Missing ∷ []) ∷ []
branches slot.Declarators = Go [] (mark P.Comma) (Text BoundName ∷ By slot.Initializer ∷ By slot.Declarators ∷ []) ∷ Pass [] ∷ []
branches slot.DeclaratorsInHead = Go [] (mark P.Comma) (Text BoundName ∷ By slot.InitializerInHead ∷ By slot.DeclaratorsInHead ∷ []) ∷ Pass [] ∷ []
branches slot.FunctionName = Pass (Missing ∷ []) ∷ Go [] (Text BoundName) [] ∷ []
branches slot.Parameters = Go [] (mark P.CloseParenthesis) [] ∷ Go [] (Text BoundName) (By slot.Initializer ∷ By slot.AfterParameter ∷ []) ∷ []
branches slot.AfterParameter = Go [] (mark P.Comma) (By slot.Parameters ∷ []) ∷ Go [] (mark P.CloseParenthesis) [] ∷ []
branches slot.Properties =
    Go [] (mark P.CloseBrace) [] ∷ Go (IsComputed ∷ []) (mark P.OpenBracket) (Place_ ∷ Expr_ (Level assignment) ∷ mark P.CloseBracket ∷ By slot.AfterKey ∷ By slot.AfterProperty ∷ []) ∷
    Go [] (Text Key) (By slot.AfterKey ∷ By slot.AfterProperty ∷ []) ∷ []
branches slot.AfterKey =
    Go [] (mark P.Colon) (Expr_ (Level assignment) ∷ Place_ ∷ []) ∷ Go (IsMethod ∷ []) (mark P.OpenParenthesis) (By slot.Parameters ∷ braces) ∷ Pass (Missing ∷ []) ∷ []
branches slot.AfterProperty = Go [] (mark P.Comma) (By slot.Properties ∷ []) ∷ Go [] (mark P.CloseBrace) [] ∷ []
branches slot.TemplateRest = Go [] (Text LaterText) (Expr_ (Level any) ∷ By slot.TemplateRest ∷ []) ∷ Go [] (Text LaterText) [] ∷ []
branches slot.Clauses =
    Go [] (word (codes "case")) (Place_ ∷ Expr_ (Level any) ∷ mark P.Colon ∷ Stmts_ ∷ Place_ ∷ By slot.Clauses ∷ []) ∷
    Go [] (word (codes "default")) (Place_ ∷ mark P.Colon ∷ Stmts_ ∷ Place_ ∷ By slot.Clauses ∷ []) ∷ Go [] (mark P.CloseBrace) [] ∷ []
branches slot.Handler =
    Go [] (word (codes "catch")) (By slot.CatchName ∷ mark P.OpenBrace ∷ Stmts_ ∷ mark P.CloseBrace ∷ By slot.Finally ∷ []) ∷
    Go [] (word (codes "finally")) (mark P.OpenBrace ∷ Stmts_ ∷ mark P.CloseBrace ∷ []) ∷ []
branches slot.CatchName = Go [] (mark P.OpenParenthesis) (Text BoundName ∷ mark P.CloseParenthesis ∷ []) ∷ Pass (Missing ∷ []) ∷ []
branches slot.Finally = Go [] (word (codes "finally")) (mark P.OpenBrace ∷ Stmts_ ∷ mark P.CloseBrace ∷ []) ∷ Pass (Missing ∷ []) ∷ []
branches slot.Head =
    Go (Missing ∷ []) (mark P.Semicolon) for_rest ∷ Go (AKind variable.Var ∷ []) (word (codes "var")) (Text BoundName ∷ By slot.AfterBound ∷ []) ∷
    Go (AKind variable.Let ∷ []) (word (codes "let")) (Text BoundName ∷ By slot.AfterBound ∷ []) ∷ Go (AKind variable.Const ∷ []) (word (codes "const")) (Text BoundName ∷ By slot.AfterBound ∷ []) ∷
    Go [] (Expr_ (WithoutIn any)) (By slot.AfterTarget ∷ []) ∷ []
branches slot.AfterBound =
    Go (IsIn ∷ []) (word (codes "in")) (each_rest any) ∷ Go (IsOf ∷ []) (word (codes "of")) (each_rest assignment) ∷
    Go [] (mark P.Assign) (Expr_ (WithoutIn assignment) ∷ Place_ ∷ By slot.DeclaratorsInHead ∷ mark P.Semicolon ∷ for_rest) ∷
    Go (Missing ∷ []) (mark P.Comma) (Text BoundName ∷ By slot.InitializerInHead ∷ By slot.DeclaratorsInHead ∷ mark P.Semicolon ∷ for_rest) ∷ Go (Missing ∷ []) (mark P.Semicolon) for_rest ∷ []
branches slot.AfterTarget = Go (IsIn ∷ []) (word (codes "in")) (each_rest any) ∷ Go (IsOf ∷ []) (word (codes "of")) (each_rest assignment) ∷ Go [] (mark P.Semicolon) for_rest ∷ []

abbrev pub each : (Branch → Bool) → List Branch → Bool
each p [] = true
each p (x ∷ xs) = p x && each p xs

-- the first, or one of those after it
one_of : (p : Branch → Bool) (b : Bool) (x y : Branch) (rest : Bool) → (p x && rest) ≡ true → (rest ≡ true → p y ≡ true) → p (if b then x else y) ≡ true
one_of p true x y rest h go = (and_parts (p x) rest h).0
one_of p false x y rest h go = go (and_parts (p x) rest h).1

last_of : (p : Branch → Bool) (x : Branch) → (p x && true) ≡ true → p x ≡ true
last_of p x h = (and_parts (p x) true h).0

two : (p : Branch → Bool) (b : Bool) (x y : Branch) → (p x && (p y && true)) ≡ true → p (if b then x else y) ≡ true
two p b x y h = one_of p b x y (p y && true) h (last_of p y)

three : (p : Branch → Bool) (b c : Bool) (x y z : Branch) → (p x && (p y && (p z && true))) ≡ true → p (if b then x else (if c then y else z)) ≡ true
three p b c x y z h = one_of p b x (if c then y else z) (p y && (p z && true)) h (two p c y z)

five : (p : Branch → Bool) (b c d e : Bool) (v w x y z : Branch) → (p v && (p w && (p x && (p y && (p z && true))))) ≡ true →
    p (if b then v else (if c then w else (if d then x else (if e then y else z)))) ≡ true
five p b c d e v w x y z h =
    one_of p b v (if c then w else (if d then x else (if e then y else z))) (p w && (p x && (p y && (p z && true)))) h
    (λ i. one_of p c w (if d then x else (if e then y else z)) (p x && (p y && (p z && true))) i (three p d e x y z))

-- what holds of all branches holds of the one that is chosen
pub among : (c : Choice) (t : Token) (p : Branch → Bool) → each p (branches c) ≡ true → p (branch c t) ≡ true
among slot.Semicolon t p h = three p _ _ _ _ _ h
among slot.SemicolonOfDo t p h = two p _ _ _ h
among slot.ValueOnLine t p h = two p _ _ _ h
among slot.LabelOnLine t p h = two p _ _ _ h
among slot.OnLine t p h = two p _ _ _ h
among (slot.ValueBefore q) t p h = two p _ _ _ h
among slot.Arguments t p h = three p _ _ _ _ _ h
among slot.Arrow t p h = two p _ _ _ h
among slot.ConciseBody t p h = two p _ _ _ h
among slot.Else t p h = two p _ _ _ h
among slot.Initializer t p h = two p _ _ _ h
among slot.InitializerInHead t p h = two p _ _ _ h
among slot.Declarators t p h = two p _ _ _ h
among slot.DeclaratorsInHead t p h = two p _ _ _ h
among slot.FunctionName t p h = two p _ _ _ h
among slot.Parameters t p h = two p _ _ _ h
among slot.AfterParameter t p h = two p _ _ _ h
among slot.Properties t p h = three p _ _ _ _ _ h
among slot.AfterKey t p h = three p _ _ _ _ _ h
among slot.AfterProperty t p h = two p _ _ _ h
among slot.TemplateRest t p h = two p _ _ _ h
among slot.Clauses t p h = three p _ _ _ _ _ h
among slot.Handler t p h = two p _ _ _ h
among slot.CatchName t p h = two p _ _ _ h
among slot.Finally t p h = two p _ _ _ h
among slot.Head t p h = five p _ _ _ _ _ _ _ _ _ h
among slot.AfterBound t p h = five p _ _ _ _ _ _ _ _ _ h
among slot.AfterTarget t p h = three p _ _ _ _ _ h
