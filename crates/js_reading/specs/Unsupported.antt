-- The forms of the standard that the language leaves out, and what begins each: a token at a place, and those after it.
use Rattle.std.specs.Prelude.{◌≡◌, ℕ, nat_le, Bool, true, false, not, ◌&&◌, ◌||◌, List, [], ◌∷◌, ◌++◌, Option, Some, None, codes}
use Rattle.js_terms.specs.declared.place.Loc.{Loc}
use Rattle.js_tree.specs.Plain.{Expr, Exprs, more_expr}
use Rattle.js_tree.specs.Plain as tree
use Rattle.js_text.specs.Token.{Token, Kind, BigInt}
use Rattle.js_text.specs.Token as T
use Rattle.js_text.specs.declared.punctuator.Punctuator.TheVariants as P
use Rattle.js_reading.specs.Slots.{WithoutIn, Callee, Class, BoundName, AnyName, Key, Slot, Text, Expr_, Items_, By, Piece, AnExpr, TheStmts, IsMethod, Form}
use Rattle.js_reading.specs.Slots as slot
use Rattle.js_reading.specs.Productions.{call, is_mark, is_word, is_class, is_proto_word, join}
use Rattle.js_reading.specs.Makes.{is_target}
use Rattle.js_reading.specs.Sentences.{fits, grip, continues, Spells, SpellsItems}
use Rattle.js_reading.specs.Turns.{want, wanted, turn, run, Config, Due, Have, Item, Start, Frame, InForm, InStmts, InItems}
-- the forms: those of the code
pub use Rattle.js_reading.specs.declared.unsupported.Unsupported.{Unsupported}
pub use Rattle.js_reading.specs.declared.unsupported.Unsupported.TheVariants.{ClassForm, Super, Import, Export, NewTarget, Spread, OptionalChain, LogicalAssignment, Async, Generator, Accessor, BigIntLiteral, ThisOutside, Elision, Proto, TaggedTemplate, ParenthesizedTarget, BindingPattern}

-- ---- places

-- a property starts, or a key or a member's name is due: a word there begins no form but `__proto__`
abbrev pub at_property : Config → Bool
at_property (Due f w (By slot.Properties ∷ ss) ps l fs) = true
at_property c = false

abbrev pub at_any_name : Config → Bool
at_any_name (Due f w (Text AnyName ∷ ss) ps l fs) = true
at_any_name c = at_property c

-- a name to bind is due
abbrev pub at_bound_name : Config → Bool
at_bound_name (Due f w (Text BoundName ∷ ss) ps l fs) = true
at_bound_name (Due f w (By slot.FunctionName ∷ ss) ps l fs) = true
at_bound_name (Due f w (By slot.Parameters ∷ ss) ps l fs) = true
at_bound_name c = false

-- an item of an array is due
abbrev pub at_item : Config → Bool
at_item (Due slot.ArrayLiteral w (Items_ p ∷ ss) ps l fs) = true
at_item (Item (InItems slot.ArrayLiteral w p ss ps xs ∷ fs)) = true
at_item c = false

-- what a template may not follow: a member, a call or a primary expression, whose last token was read
abbrev pub is_operand : Form → Bool
is_operand slot.ArrayLiteral = true
is_operand slot.ObjectLiteral = true
is_operand slot.Template = true
is_operand slot.FunctionExpression = true
is_operand slot.New = true
is_operand slot.Call = true
is_operand slot.Dot = true
is_operand slot.Member = true
is_operand f = false

abbrev pub is_parentheses : Form → Bool
is_parentheses slot.Parentheses = true
is_parentheses f = false

abbrev pub operand_over : Form → List Slot → Bool
operand_over f [] = is_operand f
operand_over f (slot.Place_ ∷ []) = is_operand f
operand_over f (By slot.Arrow ∷ []) = is_parentheses f
operand_over f ss = false

abbrev pub after_tight : Config → Bool
after_tight (Have (AnExpr i e) l fs) = true
after_tight (Due f w ss ps l fs) = operand_over f ss
after_tight c = false

-- ---- in a function that is no arrow: in its parameters or its body

-- what comes after these parts of a function, or of an object, is a function's or a method's own: a method's begin with its mark, and both end with their body
abbrev pub in_own : Bool → List Piece → Bool
in_own b [] = b
in_own b (IsMethod ∷ ps) = in_own true ps
in_own b (TheStmts ss ∷ ps) = in_own false ps
in_own b (p ∷ ps) = in_own b ps

abbrev pub is_function : Form → Bool
is_function slot.FunctionExpression = true
is_function slot.FunctionDeclaration = true
is_function f = false

abbrev pub in_function : List Frame → Bool
in_function [] = false
in_function (InForm f w s ss ps ∷ fs) = in_own (is_function f) ps || in_function fs
in_function (InStmts f w ss ps xs ∷ fs) = in_own (is_function f) ps || in_function fs
in_function (InItems f w p ss ps xs ∷ fs) = in_own (is_function f) ps || in_function fs
in_function (f ∷ fs) = in_function fs

-- a place in no function but arrows
abbrev pub in_no_function : Config → Bool
in_no_function (Due f w ss ps l fs) = not (in_own (is_function f) ps || in_function fs)
in_no_function (Have p l fs) = not (in_function fs)
in_no_function (Item fs) = not (in_function fs)
in_no_function c = true

-- ---- tokens

abbrev pub is_template : Kind → Bool
is_template (T.NoSubstitutionTemplate w) = true
is_template (T.TemplateHead w) = true
is_template k = false

abbrev pub is_bigint : Kind → Bool
is_bigint (BigInt w) = true
is_bigint k = false

-- an assignment's operator, and an update's
abbrev pub assigns : Option Form → Bool
assigns (Some (slot.Assignment o)) = true
assigns (Some (slot.Postfix o)) = true
assigns f = false

-- `in` or `of`
abbrev pub is_each : Token → Bool
is_each t = is_word (codes "in") t || is_word (codes "of") t

-- a target in parentheses, and one with more of them
abbrev pub is_parenthesized_target : Expr → Bool
is_parenthesized_target (tree.Parenthesized l e) = is_target e || is_parenthesized_target e
is_parenthesized_target e = false

abbrev pub is_literal_pattern : Expr → Bool
is_literal_pattern (tree.ArrayLiteral l xs) = true
is_literal_pattern (tree.ObjectLiteral l ps) = true
is_literal_pattern e = false

-- arguments go on with a name there, or are those of `new`
abbrev pub takes_call : Frame → Bool
takes_call (InForm slot.New w (Expr_ Callee) (By slot.Arguments ∷ []) []) = true
takes_call f = nat_le (grip (wanted f)) call

-- the frame of the first part of a `for`, where that is an expression, and of an update's operand
abbrev pub is_head : Frame → Bool
is_head (InForm slot.For w (Expr_ (WithoutIn n)) (By slot.AfterTarget ∷ []) []) = true
is_head f = false

abbrev pub is_update : Frame → Bool
is_update (InForm (slot.PrefixUpdate o) w (Expr_ n) [] []) = true
is_update f = false

-- the frame of an item of parentheses, which is a parameter where an arrow's body follows them
abbrev pub takes_parameter : Frame → Bool
takes_parameter (InItems slot.Parentheses w P.CloseParenthesis (By slot.Arrow ∷ []) [] xs) = true
takes_parameter f = false

-- ---- the relations: at a place, these tokens begin with those that begin the form. Where the machine does with a token what it does
-- ---- where an expression is wanted, one begins

-- the reading machine stops at one of them
pub data Stops : Unsupported → Config → List Token → Type 0 where
  class : {c : Config} {t : Token} {ts : List Token} → is_word (codes "class") t ≡ true → at_any_name c ≡ false → Stops ClassForm c (t ∷ ts)
  super : {c : Config} {t : Token} {ts : List Token} → is_word (codes "super") t ≡ true → at_any_name c ≡ false → Stops Super c (t ∷ ts)
  import_ : {c : Config} {t : Token} {ts : List Token} → is_word (codes "import") t ≡ true → at_any_name c ≡ false → Stops Import c (t ∷ ts)
  export : {c : Config} {t : Token} {ts : List Token} → is_word (codes "export") t ≡ true → at_any_name c ≡ false → Stops Export c (t ∷ ts)
  new_target : {c : Config} {t dot : Token} {ts : List Token} → is_word (codes "new") t ≡ true → at_any_name c ≡ false → is_mark P.Dot dot ≡ true → Stops NewTarget c (t ∷ dot ∷ ts)
  spread : {c : Config} {t : Token} {ts : List Token} → is_mark P.Ellipsis t ≡ true → Stops Spread c (t ∷ ts)
  optional_chain : {c : Config} {t : Token} {ts : List Token} → is_mark P.OptionalChain t ≡ true → Stops OptionalChain c (t ∷ ts)
  logical_assignment : {c : Config} {t : Token} {ts : List Token} → (is_mark P.LogicalAndAssign t || is_mark P.LogicalOrAssign t || is_mark P.CoalesceAssign t) ≡ true → Stops LogicalAssignment c (t ∷ ts)
  async_function : {c : Config} {t word : Token} {ts : List Token} → is_word (codes "async") t ≡ true → at_any_name c ≡ false → is_word (codes "function") word ≡ true → word.line_terminator_before ≡ false → Stops Async c (t ∷ word ∷ ts)
  async_name : {c : Config} {t : Token} {ts : List Token} (name arrow : Token) → is_word (codes "async") t ≡ true → at_any_name c ≡ false → is_class BoundName name ≡ true → name.line_terminator_before ≡ false → is_mark P.Arrow arrow ≡ true →
      Stops Async c (t ∷ name ∷ arrow ∷ ts)
  -- where an expression begins
  async_arguments : {c : Config} {t : Token} {b : Bool} {xs : Exprs} {tx : List Token} (f : Frame) (fs : List Frame) (opening closing arrow : Token) (ts : List Token) → turn c t ≡ want t (f ∷ fs) → takes_call f ≡ true → is_word (codes "async") t ≡ true →
      is_mark P.OpenParenthesis opening ≡ true → opening.line_terminator_before ≡ false → SpellsItems b xs tx closing → is_mark P.CloseParenthesis closing ≡ true → is_mark P.Arrow arrow ≡ true → Stops Async c (t ∷ opening ∷ (tx ++ closing ∷ arrow ∷ ts))
  -- where the machine stops at the word, since no expression may begin there
  async_refused : {c : Config} {t : Token} {b : Bool} {xs : Exprs} {tx : List Token} (opening closing arrow : Token) (ts : List Token) → turn c t ≡ None → is_word (codes "async") t ≡ true → at_any_name c ≡ false →
      is_mark P.OpenParenthesis opening ≡ true → opening.line_terminator_before ≡ false → SpellsItems b xs tx closing → is_mark P.CloseParenthesis closing ≡ true → is_mark P.Arrow arrow ≡ true → Stops Async c (t ∷ opening ∷ (tx ++ closing ∷ arrow ∷ ts))
  async_method : {c : Config} {t key : Token} {ts : List Token} → is_word (codes "async") t ≡ true → at_property c ≡ true → (is_class Key key || is_mark P.OpenBracket key) ≡ true → key.line_terminator_before ≡ false → Stops Async c (t ∷ key ∷ ts)
  generator : {c : Config} {t star : Token} {ts : List Token} → is_word (codes "function") t ≡ true → at_any_name c ≡ false → is_mark P.Star star ≡ true → Stops Generator c (t ∷ star ∷ ts)
  generator_method : {c : Config} {t : Token} {ts : List Token} → is_mark P.Star t ≡ true → at_property c ≡ true → Stops Generator c (t ∷ ts)
  accessor : {c : Config} {t key : Token} {ts : List Token} → (is_word (codes "get") t || is_word (codes "set") t) ≡ true → at_property c ≡ true → (is_class Key key || is_mark P.OpenBracket key) ≡ true → Stops Accessor c (t ∷ key ∷ ts)
  bigint : {c : Config} {t : Token} {ts : List Token} → is_bigint t.kind ≡ true → Stops BigIntLiteral c (t ∷ ts)
  elision : {c : Config} {t : Token} {ts : List Token} → is_mark P.Comma t ≡ true → at_item c ≡ true → Stops Elision c (t ∷ ts)
  tagged_template : {c : Config} {t : Token} {ts : List Token} → is_template t.kind ≡ true → after_tight c ≡ true → Stops TaggedTemplate c (t ∷ ts)
  -- brackets where a name to bind is due, and a shorthand before `=`
  binding : {c : Config} {t : Token} {ts : List Token} → (is_mark P.OpenBracket t || is_mark P.OpenBrace t) ≡ true → at_bound_name c ≡ true → Stops BindingPattern c (t ∷ ts)
  shorthand : {c : Config} {t sign : Token} {ts : List Token} → is_class BoundName t ≡ true → at_property c ≡ true → is_mark P.Assign sign ≡ true → Stops BindingPattern c (t ∷ sign ∷ ts)
  -- the operand of an update, a target in parentheses
  target_after : {c : Config} {i : ℕ} {e : Expr} {l : Loc} {t : Token} {te : List Token} (f : Frame) (fs : List Frame) (next : Token) (ts : List Token) → turn c t ≡ want t (f ∷ fs) → fits (wanted f) i e ≡ true → Spells (AnExpr i e) l (t ∷ te) next →
      is_parenthesized_target e ≡ true → is_update f ≡ true → continues (wanted f) e next ≡ false → Stops ParenthesizedTarget c (t ∷ (te ++ next ∷ ts))

-- all of them: those, and others with which it may go on, up to where the form is whole
pub data Begins : Unsupported → Config → List Token → Type 0 where
  at_once : {u : Unsupported} {c : Config} {ts : List Token} → Stops u c ts → Begins u c ts
  proto : {t colon : Token} {w l : Loc} {ss : List Slot} {ps : List Piece} {fs : List Frame} {ts : List Token} → is_proto_word t.kind ≡ true → is_mark P.Colon colon ≡ true → Begins Proto (Due slot.ObjectLiteral w (By slot.Properties ∷ ss) ps l fs) (t ∷ colon ∷ ts)
  -- a target in parentheses: the whole left side of an assignment or an update, and the target of a `for`
  target_before : {c : Config} {i : ℕ} {e : Expr} {l : Loc} {t : Token} {te : List Token} (f : Frame) (fs : List Frame) (sign : Token) (ts : List Token) → turn c t ≡ want t (f ∷ fs) → fits (wanted f) i e ≡ true → Spells (AnExpr i e) l (t ∷ te) sign →
      is_parenthesized_target e ≡ true → assigns (join sign) ≡ true → continues (wanted f) e sign ≡ true → Begins ParenthesizedTarget c (t ∷ (te ++ sign ∷ ts))
  target_in_head : {c : Config} {i : ℕ} {e : Expr} {l : Loc} {t : Token} {te : List Token} (f : Frame) (fs : List Frame) (word : Token) (ts : List Token) → turn c t ≡ want t (f ∷ fs) → fits (wanted f) i e ≡ true → Spells (AnExpr i e) l (t ∷ te) word →
      is_parenthesized_target e ≡ true → is_head f ≡ true → is_each word ≡ true → Begins ParenthesizedTarget c (t ∷ (te ++ word ∷ ts))
  -- a literal that is the whole left side of `=`, and one that is the target of a `for`
  literal : {c : Config} {i : ℕ} {e : Expr} {l : Loc} {t : Token} {te : List Token} (f : Frame) (fs : List Frame) (sign : Token) (ts : List Token) → turn c t ≡ want t (f ∷ fs) → fits (wanted f) i e ≡ true → Spells (AnExpr i e) l (t ∷ te) sign →
      is_literal_pattern e ≡ true → is_mark P.Assign sign ≡ true → continues (wanted f) e sign ≡ true → Begins BindingPattern c (t ∷ (te ++ sign ∷ ts))
  literal_in_head : {c : Config} {i : ℕ} {e : Expr} {l : Loc} {t : Token} {te : List Token} (f : Frame) (fs : List Frame) (word : Token) (ts : List Token) → turn c t ≡ want t (f ∷ fs) → fits (wanted f) i e ≡ true → Spells (AnExpr i e) l (t ∷ te) word →
      is_literal_pattern e ≡ true → is_head f ≡ true → is_each word ≡ true → Begins BindingPattern c (t ∷ (te ++ word ∷ ts))
  -- a literal that is a whole item of parentheses, where an arrow's body follows them
  parameter : {c : Config} {b : Bool} {e : Expr} {xs : Exprs} {t : Token} {tx : List Token} (f : Frame) (fs : List Frame) (closing arrow : Token) (ts : List Token) → turn c t ≡ want t (f ∷ fs) → takes_parameter f ≡ true → SpellsItems b (more_expr e xs) (t ∷ tx) closing → is_literal_pattern e ≡ true →
      is_mark P.CloseParenthesis closing ≡ true → is_mark P.Arrow arrow ≡ true → arrow.line_terminator_before ≡ false → Begins BindingPattern c (t ∷ (tx ++ closing ∷ arrow ∷ ts))
  -- `this` in no function, wherever the word stands but as a key or a member's name
  this_outside : {c : Config} {t : Token} {ts : List Token} → is_word (codes "this") t ≡ true → at_any_name c ≡ false → in_no_function c ≡ true → Begins ThisOutside c (t ∷ ts)

-- ---- a word that is a key begins none of them

-- before such a key a word makes an accessor, or an `async` method, of the property that it starts
abbrev pub modifies : Token → Token → Bool
modifies m key = is_word (codes "get") m || is_word (codes "set") m || (is_word (codes "async") m && not key.line_terminator_before)

-- a key is due after a modifier: these tokens end with one, which starts a property
pub record KeyIsDue (before : List Token) (key : Token) : Type 0 where
  pub start : List Token
  pub modifier : Token
  pub place : Config
  pub are : before ≡ start ++ modifier ∷ []
  pub ran : run Start start ≡ Some place
  pub starts : at_property place ≡ true
  pub makes : modifies modifier key ≡ true

-- a word that stands first is such a key
abbrev pub IsKey : List Token → List Token → Type 0
IsKey before [] = ⊥
IsKey before (t ∷ ts) = (is_class AnyName t ≡ true) × KeyIsDue before t

-- after these tokens, which lead to the place, those begin the form
abbrev pub BeginsAfter : Unsupported → List Token → Config → List Token → Type 0
BeginsAfter u before c us = Begins u c us × (IsKey before us → ⊥)
