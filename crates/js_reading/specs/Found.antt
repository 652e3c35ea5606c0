-- What a reader that takes a token a turn finds of the forms that are left out: a form whose last token is this one, from the place
-- before it and the two turns before, and its first token's location. It looks no further than the top of the stack, and the pieces there.
use Rattle.std.specs.Prelude.{◌≡◌, ℕ, ◌==◌, Bool, true, false, not, ◌&&◌, ◌||◌, List, [], ◌∷◌, ◌++◌, Option, Some, None, codes, if◌then◌else◌}
use Rattle.std.specs.Option.{option_or}
use Rattle.js_terms.specs.declared.place.Loc.{Loc}
use Rattle.js_tree.specs.Plain.{Expr, Exprs, no_expr, more_expr}
use Rattle.js_tree.specs.Plain as tree
use Rattle.js_reading.specs.Spans.{through}
use Rattle.js_text.specs.Token.{Token, End}
use Rattle.js_text.specs.declared.punctuator.Punctuator.TheVariants as P
use Rattle.js_reading.specs.Kinds.{is_kind}
use Rattle.js_reading.specs.Slots.{BoundName, Key, Slot, By, Piece, AnExpr, TheExprs, Missing}
use Rattle.js_reading.specs.Slots as slot
use Rattle.js_reading.specs.Productions.{is_mark, is_word, is_class, is_proto_word, join}
use Rattle.js_reading.specs.Makes.{build}
use Rattle.js_reading.specs.Sentences.{fits, continues}
use Rattle.js_reading.specs.Turns.{Config, Due, Start, Frame, wanted, turn, run}
use Rattle.js_reading.specs.Unsupported.{Unsupported, ClassForm, Super, Import, Export, NewTarget, Spread, OptionalChain, LogicalAssignment, Async, Generator, Accessor, BigIntLiteral, ThisOutside, Elision, Proto, TaggedTemplate, ParenthesizedTarget, BindingPattern, BeginsAfter, at_property, at_any_name, at_bound_name, at_item, after_tight, in_no_function, is_template, is_bigint, assigns, is_each, is_head, is_update, is_parenthesized_target, is_literal_pattern}

-- a form, and where its first token stands
abbrev pub Find : Type 0
Find = Option (Unsupported × Loc)

abbrev pub when : Bool → Unsupported → Loc → Find
when b u l = if b then Some (u, l) else None

abbrev pub or_else : Find → Find → Find
or_else None found = found
or_else (Some x) found = Some x

abbrev pub first_of : List Find → Find
first_of [] = None
first_of (x ∷ xs) = or_else x (first_of xs)

-- ---- one, two and three tokens, from the place before the first

-- a word that is no key and no member's name
abbrev pub is_free : Config → Token → List ℕ → Bool
is_free c t w = is_word w t && not (at_any_name c)

abbrev pub is_logical : Token → Bool
is_logical t = is_mark P.LogicalAndAssign t || is_mark P.LogicalOrAssign t || is_mark P.CoalesceAssign t

abbrev pub is_key : Token → Bool
is_key t = is_class Key t || is_mark P.OpenBracket t

abbrev pub opens_pattern : Token → Bool
opens_pattern t = is_mark P.OpenBracket t || is_mark P.OpenBrace t

abbrev pub ones : Config → Token → List Find
ones c t =
    when (is_free c t (codes "class")) ClassForm t.loc ∷
    when (is_free c t (codes "super")) Super t.loc ∷
    when (is_free c t (codes "import")) Import t.loc ∷
    when (is_free c t (codes "export")) Export t.loc ∷
    when (is_mark P.Ellipsis t) Spread t.loc ∷
    when (is_mark P.OptionalChain t) OptionalChain t.loc ∷
    when (is_logical t) LogicalAssignment t.loc ∷
    when (is_mark P.Star t && at_property c) Generator t.loc ∷
    when (is_bigint t.kind) BigIntLiteral t.loc ∷
    when (is_mark P.Comma t && at_item c) Elision t.loc ∷
    when (is_template t.kind && after_tight c) TaggedTemplate t.loc ∷
    when (opens_pattern t && at_bound_name c) BindingPattern t.loc ∷
    []

abbrev pub one : Config → Token → Find
one c t = first_of (ones c t)

-- a property of an object starts
abbrev pub at_object : Config → Bool
at_object (Due slot.ObjectLiteral w (By slot.Properties ∷ ss) ps l fs) = true
at_object c = false

abbrev pub twos : Config → Token → Token → List Find
twos c t next =
    when (is_free c t (codes "new") && is_mark P.Dot next) NewTarget t.loc ∷
    when (is_free c t (codes "async") && (is_word (codes "function") next && not next.line_terminator_before)) Async t.loc ∷
    when (is_word (codes "async") t && (at_property c && (is_key next && not next.line_terminator_before))) Async t.loc ∷
    when (is_free c t (codes "function") && is_mark P.Star next) Generator t.loc ∷
    when ((is_word (codes "get") t || is_word (codes "set") t) && (at_property c && is_key next)) Accessor t.loc ∷
    when (is_class BoundName t && (at_property c && is_mark P.Assign next)) BindingPattern t.loc ∷
    []

abbrev pub two : Config → Token → Token → Find
two c t next = first_of (twos c t next)

-- the machine goes on after this one
abbrev pub proto_key : Config → Token → Token → Find
proto_key c t next = when (is_proto_word t.kind && (at_object c && is_mark P.Colon next)) Proto t.loc

abbrev pub three : Config → Token → Token → Token → Find
three c t name arrow = when (is_free c t (codes "async") && (is_class BoundName name && (not name.line_terminator_before && is_mark P.Arrow arrow))) Async t.loc

-- ---- a group in brackets and the token after it: the group is whole, and what it makes stands in the frames below

-- the whole left side of an assignment or an update, the target of a `for`, or the operand of an update
abbrev pub left_sides : ℕ → Expr → Loc → Frame → Token → List Find
left_sides i e w f t =
    when (is_parenthesized_target e && (fits (wanted f) i e && (assigns (join t) && continues (wanted f) e t))) ParenthesizedTarget w ∷
    when (is_parenthesized_target e && (fits (wanted f) i e && (is_head f && is_each t))) ParenthesizedTarget w ∷
    when (is_parenthesized_target e && (fits (wanted f) i e && (is_update f && not (continues (wanted f) e t)))) ParenthesizedTarget w ∷
    when (is_literal_pattern e && (fits (wanted f) i e && (is_mark P.Assign t && continues (wanted f) e t))) BindingPattern w ∷
    when (is_literal_pattern e && (fits (wanted f) i e && (is_head f && is_each t))) BindingPattern w ∷
    []

abbrev pub left_side : Option Piece → Loc → List Frame → Token → Find
left_side (Some (AnExpr i e)) w (f ∷ fs) t = first_of (left_sides i e w f t)
left_side p w fs t = None

-- no arrow's body follows
abbrev pub on_its_line : Token → Bool
on_its_line t = is_mark P.Arrow t && not t.line_terminator_before

-- what is built here is what the turn builds with this token
abbrev pub group : Config → Token → Find
group (Due slot.Parentheses w (By slot.Arrow ∷ []) ps l fs) t = if on_its_line t then None else left_side (build slot.Parentheses (through w l) (ps ++ Missing ∷ [])) w fs t
group (Due slot.ArrayLiteral w [] ps l fs) t = left_side (build slot.ArrayLiteral (through w l) ps) w fs t
group (Due slot.ObjectLiteral w [] ps l fs) t = left_side (build slot.ObjectLiteral (through w l) ps) w fs t
group c t = None

-- the same from the place after, where the token is read: the group is the first part there
abbrev pub whole_group : Config → Token → Option (Loc × Frame)
whole_group (Due slot.Parentheses w (By slot.Arrow ∷ []) ps l (f ∷ fs)) t = if on_its_line t then None else Some (w, f)
whole_group (Due slot.ArrayLiteral w [] ps l (f ∷ fs)) t = Some (w, f)
whole_group (Due slot.ObjectLiteral w [] ps l (f ∷ fs)) t = Some (w, f)
whole_group c t = None

abbrev pub first_part : Config → Option (ℕ × Expr)
first_part (Due f w ss (AnExpr i e ∷ ps) l fs) = Some (i, e)
first_part d = None

abbrev pub shown_by : Option (Loc × Frame) → Option (ℕ × Expr) → Token → Find
shown_by (Some g) (Some p) t = first_of (left_sides p.0 p.1 g.0 g.1 t)
shown_by g p t = None

abbrev pub shown : Config → Config → Token → Find
shown c d t = shown_by (whole_group c t) (first_part d) t

-- ---- a literal among the items of parentheses that an arrow's body follows: the first one, and where it stands

abbrev pub literal_loc : Expr → Option Loc
literal_loc (tree.ArrayLiteral l xs) = l
literal_loc (tree.ObjectLiteral l ps) = l
literal_loc e = None

abbrev pub literal_item : Exprs → Option Loc
literal_item no_expr = None
literal_item (more_expr e es) = option_or (literal_loc e) (literal_item es)

abbrev pub before_body : Option Loc → Token → Find
before_body None t = None
before_body (Some l) t = when (on_its_line t) BindingPattern l

abbrev pub parameter : Config → Token → Find
parameter (Due slot.Parentheses w (By slot.Arrow ∷ []) (TheExprs b xs ∷ []) l fs) t = before_body (literal_item xs) t
parameter c t = None

-- ---- `this` in no function

abbrev pub outside : Config → Token → Find
outside c t = when (is_free c t (codes "this") && in_no_function c) ThisOutside t.loc

-- ---- a turn: the turns before it, the last first, each with the place before it

abbrev pub Turns : Type 0
Turns = List (Config × Token)

abbrev pub two_back : Turns → Token → Find
two_back (x ∷ turns) t = two x.0 x.1 t
two_back turns t = None

abbrev pub proto_back : Turns → Token → Find
proto_back (x ∷ turns) t = proto_key x.0 x.1 t
proto_back turns t = None

abbrev pub three_back : Turns → Token → Find
three_back (x ∷ y ∷ turns) t = three y.0 y.1 x.1 t
three_back turns t = None

-- the `async` words whose next token was `(` on their line; a reader keeps those whose `)` is still to come
abbrev pub opens_call : Token → Token → Bool
opens_call t opening = is_word (codes "async") t && (is_mark P.OpenParenthesis opening && not opening.line_terminator_before)

abbrev pub asyncs : Turns → List Loc
asyncs (x ∷ y ∷ turns) = if opens_call y.1 x.1 then y.1.loc ∷ asyncs (y ∷ turns) else asyncs (y ∷ turns)
asyncs turns = []

abbrev pub same_start : Loc → Loc → Bool
same_start l m = l.start.line == m.start.line && l.start.column == m.start.column

abbrev pub starts : Loc → List Loc → Bool
starts l [] = false
starts l (m ∷ ms) = same_start l m || starts l ms

-- the arguments of a name are whole
abbrev pub named_callee : List Piece → Option Loc
named_callee (AnExpr i (tree.IdentifierReference l w) ∷ TheExprs b xs ∷ []) = l
named_callee ps = None

abbrev pub arrow_after : Turns → Option Loc → Token → Find
arrow_after turns None t = None
arrow_after turns (Some l) t = when (is_mark P.Arrow t && starts l (asyncs turns)) Async l

abbrev pub called : Turns → Config → Token → Find
called turns (Due slot.Call w [] ps l fs) t = arrow_after turns (named_callee ps) t
called turns (Due slot.New w [] ps l fs) t = arrow_after turns (named_callee ps) t
called turns c t = None

-- ---- `async` that is refused: what follows is read as where a file begins with the word

-- the arguments of the name that starts there are whole
abbrev pub starts_at : Loc → Option Loc → Bool
starts_at l None = false
starts_at l (Some m) = same_start m l

abbrev pub argues : Loc → Config → Bool
argues l (Due slot.Call w [] ps m fs) = starts_at l (named_callee ps)
argues l (Due slot.New w [] ps m fs) = starts_at l (named_callee ps)
argues l c = false

abbrev pub then_holds : Option Config → (Config → Bool) → Bool
then_holds None p = false
then_holds (Some c) p = p c

-- `=>` comes after them
abbrev pub arrow_comes : Loc → Config → List Token → Bool
arrow_comes l c [] = false
arrow_comes l c (t ∷ ts) = (is_mark P.Arrow t && argues l c) || then_holds (turn c t) (λ d. arrow_comes l d ts)

abbrev pub further : Config → Token → List Token → Find
further c t [] = None
further c t (opening ∷ ts) = when (not (at_any_name c) && (opens_call t opening && then_holds (turn Start t) (λ d. arrow_comes t.loc d (opening ∷ ts)))) Async t.loc

-- what began at an earlier token comes first: a word after `get`, `set` or `async` is a key, and begins no form of its own
abbrev pub finds : Turns → Config → Token → List Find
finds turns c t = two_back turns t ∷ three_back turns t ∷ one c t ∷ group c t ∷ outside c t ∷ called turns c t ∷ proto_back turns t ∷ parameter c t ∷ []

abbrev pub found : Turns → Config → Token → Find
found turns c t = first_of (finds turns c t)

-- where the token is refused: those that go on beyond it
abbrev pub three_ahead : Config → Token → Token → List Token → Find
three_ahead c t next [] = None
three_ahead c t next (last ∷ ts) = three c t next last

abbrev pub three_over : Turns → Token → Token → Find
three_over [] t next = None
three_over (x ∷ turns) t next = three x.0 x.1 t next

abbrev pub aheads : Turns → Config → Token → Token → List Token → List Find
aheads turns c t next ts = two c t next ∷ three_ahead c t next ts ∷ three_over turns t next ∷ proto_key c t next ∷ []

abbrev pub ahead : Turns → Config → Token → List Token → Find
ahead turns c t [] = None
ahead turns c t (next ∷ ts) = first_of (aheads turns c t next ts)

-- ---- what it says

-- these tokens lead to this place by these turns, and nothing is found at any
pub data Searched : List Token → Turns → Config → Type 0 where
  not_begun : Searched [] [] Start
  searched : {ts : List Token} {turns : Turns} {c d : Config} (t : Token) → Searched ts turns c → found turns c t ≡ None → turn c t ≡ Some d → Searched (ts ++ t ∷ []) ((c, t) ∷ turns) d

-- no token of these begins a form whose tokens are all among them
abbrev pub Clean : List Token → Type 0
Clean ts = (u : Unsupported) (before us : List Token) (c : Config) → ts ≡ before ++ us → run Start before ≡ Some c → BeginsAfter u before c us → ⊥

-- no two of these tokens start at one place, but ends of the text
abbrev pub Apart : List Token → Type 0
Apart ts = (before between after : List Token) (t u : Token) → ts ≡ before ++ t ∷ (between ++ u ∷ after) → is_kind End t.kind ≡ false → same_start t.loc u.loc ≡ false

-- a token of these, which starts where this location does, begins this form
pub record BegunAt (ts : List Token) (what : Unsupported × Loc) : Type 0 where
  pub before : List Token
  pub first : Token
  pub others : List Token
  pub place : Config
  pub split : ts ≡ before ++ first ∷ others
  pub ran : run Start before ≡ Some place
  pub begins : BeginsAfter what.0 before place (first ∷ others)
  pub there : first.loc.start ≡ what.1.start
