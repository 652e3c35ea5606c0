-- What the slots of a production put after a token: an operand after an operator, a name after `.`.
use Rattle.std.proofs.Common.{◌≡◌, Bool, true, false, ◌&&◌, List, [], ◌∷◌, ◌++◌, refl, sym, subst}
use Rattle.std.specs.Prelude.{◌||◌}
use Rattle.std.proofs.lemmas.Bool.{true≢false, and_parts}
use Rattle.js_terms.specs.declared.operators.BinaryOperator.TheVariants as b
use Rattle.js_terms.specs.declared.operators.LogicalOperator.TheVariants as logic
use Rattle.js_terms.specs.declared.operators.AssignmentOperator.TheVariants as assign
use Rattle.js_terms.specs.declared.operators.UpdateOperator.TheVariants as up
use Rattle.js_terms.specs.declared.operators.UnaryOperator.TheVariants as u
use Rattle.js_text.specs.Token.{Token, Kind}
use Rattle.js_text.specs.Token as T
use Rattle.js_text.specs.declared.punctuator.Punctuator.TheVariants as P
use Rattle.js_reading.specs.declared.choice.Choice.{Choice}
use Rattle.js_reading.specs.declared.choice.Choice.TheVariants as choice
use Rattle.js_reading.specs.declared.class.Class.TheVariants.{AnyName}
use Rattle.js_reading.specs.declared.form.Form.{Form}
use Rattle.js_reading.specs.declared.form.Form.TheVariants as form
use Rattle.js_reading.specs.Slots.{Slot, Sign, Text, Expr_, Items_, Piece, Branch, Go}
use Rattle.js_reading.specs.Productions.{slots}
use Rattle.js_reading.specs.Choices.{branch}
use Rattle.js_reading.proofs.sentences.Branches.{branches, each, among}
use Rattle.js_reading.proofs.sentences.Shapes.{both_true}
use Rattle.js_spelling.specs.Tokens.{begins_operand, is_name, is_longest, may_follow}

-- ---- the next slot

abbrev pub name_first : List Slot → Bool
name_first (Text AnyName ∷ ss) = true
name_first ss = false

abbrev pub expr_first : List Slot → Bool
expr_first (Expr_ w ∷ ss) = true
expr_first ss = false

-- what `may_follow` asks after a token, asked of the slots that stand there; `?.` stands in none
abbrev pub wanted_after : Kind → List Slot → Bool
wanted_after (T.Punctuator P.Dot) ss = name_first ss
wanted_after (T.Punctuator P.OptionalChain) ss = false
wanted_after (T.Punctuator p) ss = is_longest p || expr_first ss
wanted_after kind ss = true

either_more : (x y z : Bool) → (y ≡ true → z ≡ true) → (x || y) ≡ true → (x || z) ≡ true
either_more true y z more h = refl
either_more false y z more h = more h

-- where the slots say that a name or an operand is next, the token may stand before it
pub follows : (kind next : Kind) (ss : List Slot) → (name_first ss ≡ true → is_name next ≡ true) → (expr_first ss ≡ true → begins_operand next ≡ true) → wanted_after kind ss ≡ true → may_follow kind next ≡ true
follows (T.Punctuator P.Dot) next ss name operand h = name h
follows (T.Punctuator P.OptionalChain) next ss name operand h = absurd (true≢false (sym h))
follows (T.Punctuator p) next ss name operand h = either_more (is_longest p) (expr_first ss) (begins_operand next) operand h
follows kind next ss name operand h = refl

name_more : (rs ss : List Slot) → name_first rs ≡ true → name_first (rs ++ ss) ≡ true
name_more (Text AnyName ∷ rs) ss h = refl
name_more rs ss h = absurd (true≢false (sym h))

expr_more : (rs ss : List Slot) → expr_first rs ≡ true → expr_first (rs ++ ss) ≡ true
expr_more (Expr_ w ∷ rs) ss h = refl
expr_more rs ss h = absurd (true≢false (sym h))

wanted_more : (kind : Kind) (rs ss : List Slot) → wanted_after kind rs ≡ true → wanted_after kind (rs ++ ss) ≡ true
wanted_more (T.Punctuator P.Dot) rs ss h = name_more rs ss h
wanted_more (T.Punctuator P.OptionalChain) rs ss h = absurd (true≢false (sym h))
wanted_more (T.Punctuator p) rs ss h = either_more (is_longest p) (expr_first rs) (expr_first (rs ++ ss)) (expr_more rs ss) h
wanted_more kind rs ss h = refl

-- ---- the slots of a production

-- after the token of each slot stands what it wants
abbrev pub well_slot : Slot → List Slot → Bool
well_slot (Sign k) ss = wanted_after k ss
well_slot (Items_ p) ss = is_longest p
well_slot s ss = true

abbrev pub well_set : List Slot → Bool
well_set [] = true
well_set (s ∷ ss) = well_slot s ss && well_set ss

well_slot_more : (s : Slot) (rs ss : List Slot) → well_slot s rs ≡ true → well_slot s (rs ++ ss) ≡ true
well_slot_more (Sign k) rs ss h = wanted_more k rs ss h
well_slot_more (Items_ p) rs ss h = h
well_slot_more s rs ss h = refl

well_append : (rs ss : List Slot) → well_set rs ≡ true → well_set ss ≡ true → well_set (rs ++ ss) ≡ true
well_append [] ss h k = k
well_append (r ∷ rs) ss h k = let a = and_parts (well_slot r rs) (well_set rs) h in both_true (well_slot_more r rs ss a.0) (well_append rs ss a.1 k)

pub well_form : (f : Form) → well_set (slots f) ≡ true
well_form (form.Postfix up.Increment) = refl
well_form (form.PrefixUpdate up.Increment) = refl
well_form (form.Unary u.Plus) = refl
well_form (form.Binary b.Add) = refl
well_form (form.Logical logic.And) = refl
well_form (form.Assignment assign.Assign) = refl
well_form f = refl

-- ---- what a choice leads to

abbrev pub well_branch : Branch → Bool
well_branch (Go qs s rs) = well_set (s ∷ rs)
well_branch b = true

well_branches : (c : Choice) → each well_branch (branches c) ≡ true
well_branches choice.Semicolon = refl
well_branches c = refl

pub well_chosen : (c : Choice) (t : Token) (qs : List Piece) (s : Slot) (rs ss : List Slot) → branch c t ≡ Go qs s rs → well_set ss ≡ true → well_set (s ∷ (rs ++ ss)) ≡ true
well_chosen c t qs s rs ss h k = well_append (s ∷ rs) ss (subst (λ b. well_branch b ≡ true) h (among c t well_branch (well_branches c))) k
