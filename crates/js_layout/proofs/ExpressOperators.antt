-- Operators, members, conditionals and assignments: their tokens spell them where their parts are spelt.
use Rattle.std.proofs.Common.{◌≡◌, ℕ, ◌<◌, ◌≤◌, Bool, true, false, List, [], ◌∷◌, ◌++◌, inr, Option, Some, None, refl, sym, ap, subst, ◌∙◌, arith, if◌then◌else◌}
use Rattle.std.specs.Prelude.{◌||◌}
use Rattle.std.proofs.lemmas.Bool.{true≢false}
use Rattle.js_terms.specs.declared.place.Loc.{Loc}
use Rattle.js_terms.specs.declared.operators.BinaryOperator.{BinaryOperator}
use Rattle.js_terms.specs.declared.operators.BinaryOperator.TheVariants as b
use Rattle.js_terms.specs.declared.operators.LogicalOperator.{LogicalOperator}
use Rattle.js_terms.specs.declared.operators.LogicalOperator.TheVariants as logic
use Rattle.js_terms.specs.declared.operators.AssignmentOperator.{AssignmentOperator}
use Rattle.js_terms.specs.declared.operators.AssignmentOperator.TheVariants as assign
use Rattle.js_terms.specs.declared.operators.UpdateOperator.{UpdateOperator}
use Rattle.js_terms.specs.declared.operators.UpdateOperator.TheVariants as up
use Rattle.js_terms.specs.declared.operators.UnaryOperator.{UnaryOperator}
use Rattle.js_tree.specs.Plain as tree
use Rattle.js_tree.specs.Plain.{Expr}
use Rattle.js_text.specs.Token.{Token, Word}
use Rattle.js_text.specs.Token as T
use Rattle.js_text.specs.declared.punctuator.Punctuator.TheVariants as P
use Rattle.js_reading.specs.Level.{any, assignment, binary_level, left_level, right_level, logical_level}
use Rattle.js_reading.specs.Kinds.{is_kind}
use Rattle.js_reading.specs.Slots.{AnExpr}
use Rattle.js_reading.specs.declared.form.Form.TheVariants as slot
use Rattle.js_reading.specs.declared.class.Class.TheVariants.{AnyName}
use Rattle.js_reading.specs.Spans.{through}
use Rattle.js_reading.specs.Productions.{call, sign_of, logical_sign, logical_right, assignment_sign, prefix_of, update_of, piece_of}
use Rattle.js_reading.specs.Productions as reading
use Rattle.js_reading.specs.Makes.{build, is_target, is_and_or, bare_in}
use Rattle.js_reading.specs.Sentences
use Rattle.js_reading.specs.Sentences.{Spells, stands_for}
use Rattle.js_layout.specs.Tokens.{expr_tokens, token, mark, word}
use Rattle.js_layout.specs.Neat.{level, member_level}
use Rattle.js_layout.proofs.Follows.{last_line, unbegun, Quiet}
use Rattle.js_layout.proofs.Spelt.{standing, edge, SpeltExpr, WillExpr}
use Rattle.js_layout.proofs.ExpressLevels.{Apt, quiet_operand, quiet_any, edge_some, edge_middle, edge_unary, edge_tight}
use Rattle.js_layout.proofs.ExpressSigns.{join_binary, join_logical, join_assignment, join_update, join_question, join_comma, join_dot, join_bracket, prefix_unary, prefix_update, quiet_join, quiet_colon, quiet_bracket}
use Rattle.js_layout.proofs.ExpressParts.{by_split, by_token, by_last, line_append, line_begun, same_traits, same_target, same_mixed, same_bare, operand, last_operand, between, before}

-- ---- binary operators

bare_binary : (o : BinaryOperator) (l m : Option Loc) (x y v w : Expr) → bare_in x ≡ bare_in v → bare_in y ≡ bare_in w → bare_in (tree.Binary l o x y) ≡ bare_in (tree.Binary m o v w)
bare_binary b.In l m x y v w h k = refl
bare_binary o l m x y v w h k = λ i. h i || k i

-- its right operand ends where it does
right_apt : (o : BinaryOperator) → Apt (right_level o)
right_apt b.Exponentiate = inr (omega arith, omega arith)
right_apt o = inr (omega arith, omega arith)

right_edge : (o : BinaryOperator) → edge (binary_level o) ≡ right_level o
right_edge b.Exponentiate = refl
right_edge o = refl

-- it goes on with no operand in the middle of its left one
left_edge : (o : BinaryOperator) (m : ℕ) → left_level o ≤ m → binary_level o < edge m
left_edge b.Exponentiate m h = edge_unary 15 m (omega arith) (omega arith)
left_edge o m h = edge_middle (binary_level o) m (omega arith) (omega arith) (omega arith)

literal_sign : (o : BinaryOperator) → stands_for (sign_of o) ≡ 0
literal_sign b.Exponentiate = refl
literal_sign o = refl

arrow_sign : (o : BinaryOperator) → is_kind (T.Punctuator P.Arrow) (sign_of o) ≡ false
arrow_sign b.Exponentiate = refl
arrow_sign o = refl

pub binary : (l : Option Loc) (o : BinaryOperator) (x y : Expr) → left_level o ≤ standing x → right_level o ≤ standing y → WillExpr x → WillExpr y → WillExpr (tree.Binary l o x y)
binary l o x y low_x low_y will_x will_y line ts next follows quiet =
    by_split (λ us. SpeltExpr (tree.Binary l o x y) us next) line (expr_tokens x) (token l (sign_of o) ∷ expr_tokens y) ts (unbegun l line _ ts follows)
    (λ tx rest fx f. by_token (λ us. SpeltExpr (tree.Binary l o x y) (tx ++ us) next) _ (token l (sign_of o)) (expr_tokens y) rest f
    (λ t ty is on fy. whole tx ty t is
    (will_x line tx t fx (quiet_join (edge (standing x)) t (sign_of o) (slot.Binary o) is (literal_sign o) (arrow_sign o) (join_binary o t is) (left_edge o (standing x) low_x)))
    (will_y false ty next fy (quiet_operand (right_level o) (standing y) next low_y (right_apt o) right))))
  where
    right : Quiet (right_level o) next
    right = subst (λ n. Quiet n next) (right_edge o) quiet

    whole : (tx ty : List Token) (t : Token) → t.kind ≡ sign_of o → SpeltExpr x tx t → SpeltExpr y ty next → SpeltExpr (tree.Binary l o x y) (tx ++ t ∷ ty) next
    whole tx ty t is sx sy = let read : Expr = tree.Binary (Some (through sx.loc sy.loc)) o sx.tree sy.tree in record {
      tree = read;
      loc = through sx.loc sy.loc;
      spells = between (slot.Binary o) (left_level o) (right_level o) (sign_of o) x y tx ty t next sx sy (binary_level o) read refl (join_binary o t is) is low_x low_y right refl;
      same = λ i. tree.Binary None o (sx.same i) (sy.same i);
      traits = same_traits read (tree.Binary l o x y) refl refl (bare_binary o (Some (through sx.loc sy.loc)) l sx.tree sy.tree x y (same_bare sx) (same_bare sy)) refl refl;
    }

-- ---- logical operators

logical_apt : (o : LogicalOperator) → Apt (logical_right o)
logical_apt logic.And = inr (omega arith, omega arith)
logical_apt o = inr (omega arith, omega arith)

logical_edge : (o : LogicalOperator) → edge (logical_level o) ≡ logical_right o
logical_edge logic.And = refl
logical_edge o = refl

logical_left_edge : (o : LogicalOperator) (m : ℕ) → logical_level o ≤ m → logical_level o < edge m
logical_left_edge logic.And m h = edge_middle 6 m (omega arith) (omega arith) (omega arith)
logical_left_edge o m h = edge_middle (logical_level o) m (omega arith) (omega arith) (omega arith)

arrow_logical : (o : LogicalOperator) → is_kind (T.Punctuator P.Arrow) (T.Punctuator (logical_sign o)) ≡ false
arrow_logical logic.And = refl
arrow_logical o = refl

-- left of `??` stands neither `&&` nor `||`
abbrev pub MayMix : LogicalOperator → Expr → Type 0
MayMix logic.Coalesce x = is_and_or x ≡ false
MayMix o x = Unit {0}

made_logical : (l : Loc) (o : LogicalOperator) (i j : ℕ) (x y : Expr) → MayMix o x → build (slot.Logical o) l (AnExpr i x ∷ AnExpr j y ∷ []) ≡ Some (AnExpr (logical_level o) (tree.Logical (Some l) o x y))
made_logical l logic.Coalesce i j x y h = ap (λ c. if c then None else Some (AnExpr 4 (tree.Logical (Some l) logic.Coalesce x y))) h
made_logical l o i j x y h = refl

mixes_same : (o : LogicalOperator) (x v : Expr) → is_and_or v ≡ is_and_or x → MayMix o x → MayMix o v
mixes_same logic.Coalesce x v h m = h ∙ m
mixes_same o x v h m = tt

mixed_same : (o : LogicalOperator) (l m : Option Loc) (x y v w : Expr) → is_and_or (tree.Logical l o x y) ≡ is_and_or (tree.Logical m o v w)
mixed_same logic.And l m x y v w = refl
mixed_same o l m x y v w = refl

pub logical : (l : Option Loc) (o : LogicalOperator) (x y : Expr) → logical_level o ≤ standing x → logical_right o ≤ standing y → MayMix o x → WillExpr x → WillExpr y → WillExpr (tree.Logical l o x y)
logical l o x y low_x low_y mix will_x will_y line ts next follows quiet =
    by_split (λ us. SpeltExpr (tree.Logical l o x y) us next) line (expr_tokens x) (mark l (logical_sign o) ∷ expr_tokens y) ts (unbegun l line _ ts follows)
    (λ tx rest fx f. by_token (λ us. SpeltExpr (tree.Logical l o x y) (tx ++ us) next) _ (mark l (logical_sign o)) (expr_tokens y) rest f
    (λ t ty is on fy. whole tx ty t is
    (will_x line tx t fx (quiet_join (edge (standing x)) t (T.Punctuator (logical_sign o)) (slot.Logical o) is refl (arrow_logical o) (join_logical o t is) (logical_left_edge o (standing x) low_x)))
    (will_y false ty next fy (quiet_operand (logical_right o) (standing y) next low_y (logical_apt o) right))))
  where
    right : Quiet (logical_right o) next
    right = subst (λ n. Quiet n next) (logical_edge o) quiet

    whole : (tx ty : List Token) (t : Token) → t.kind ≡ T.Punctuator (logical_sign o) → SpeltExpr x tx t → SpeltExpr y ty next → SpeltExpr (tree.Logical l o x y) (tx ++ t ∷ ty) next
    whole tx ty t is sx sy = let read : Expr = tree.Logical (Some (through sx.loc sy.loc)) o sx.tree sy.tree in record {
      tree = read;
      loc = through sx.loc sy.loc;
      spells = between (slot.Logical o) (logical_level o) (logical_right o) (T.Punctuator (logical_sign o)) x y tx ty t next sx sy (logical_level o) read refl (join_logical o t is) is low_x low_y right
          (made_logical (through sx.loc sy.loc) o (standing x) (standing y) sx.tree sy.tree (mixes_same o x sx.tree (same_mixed sx) mix));
      same = λ i. tree.Logical None o (sx.same i) (sy.same i);
      traits = same_traits read (tree.Logical l o x y) refl (mixed_same o (Some (through sx.loc sy.loc)) l sx.tree sy.tree x y) (λ i. same_bare sx i || same_bare sy i) refl refl;
    }

-- ---- assignments, commas, conditionals

pub assigned : (l : Option Loc) (o : AssignmentOperator) (x y : Expr) → call ≤ standing x → is_target x ≡ true → assignment ≤ standing y → WillExpr x → WillExpr y → WillExpr (tree.Assignment l o x y)
assigned l o x y low_x target low_y will_x will_y line ts next follows quiet =
    by_split (λ us. SpeltExpr (tree.Assignment l o x y) us next) line (expr_tokens x) (mark l (assignment_sign o) ∷ expr_tokens y) ts (unbegun l line _ ts follows)
    (λ tx rest fx f. by_token (λ us. SpeltExpr (tree.Assignment l o x y) (tx ++ us) next) _ (mark l (assignment_sign o)) (expr_tokens y) rest f
    (λ t ty is on fy. whole tx ty t is
    (will_x line tx t fx (quiet_join (edge (standing x)) t (T.Punctuator (assignment_sign o)) (slot.Assignment o) is refl (no_arrow o) (join_assignment o t is) (edge_tight 2 (standing x) (omega arith) (omega arith))))
    (will_y false ty next fy (quiet_any (standing y) next quiet))))
  where
    no_arrow : (q : AssignmentOperator) → is_kind (T.Punctuator P.Arrow) (T.Punctuator (assignment_sign q)) ≡ false
    no_arrow assign.Assign = refl
    no_arrow q = refl

    whole : (tx ty : List Token) (t : Token) → t.kind ≡ T.Punctuator (assignment_sign o) → SpeltExpr x tx t → SpeltExpr y ty next → SpeltExpr (tree.Assignment l o x y) (tx ++ t ∷ ty) next
    whole tx ty t is sx sy = let read : Expr = tree.Assignment (Some (through sx.loc sy.loc)) o sx.tree sy.tree in record {
      tree = read;
      loc = through sx.loc sy.loc;
      spells = between (slot.Assignment o) call assignment (T.Punctuator (assignment_sign o)) x y tx ty t next sx sy assignment read refl (join_assignment o t is) is low_x low_y quiet
          (ap (λ c. if c then Some (AnExpr assignment (tree.Assignment (Some (through sx.loc sy.loc)) o sx.tree sy.tree)) else None) (same_target sx ∙ target));
      same = λ i. tree.Assignment None o (sx.same i) (sy.same i);
      traits = same_traits read (tree.Assignment l o x y) refl refl (same_bare sy) refl refl;
    }

pub comma : (l : Option Loc) (x y : Expr) → any ≤ standing x → assignment ≤ standing y → WillExpr x → WillExpr y → WillExpr (tree.Comma l x y)
comma l x y low_x low_y will_x will_y line ts next follows quiet =
    by_split (λ us. SpeltExpr (tree.Comma l x y) us next) line (expr_tokens x) (mark l P.Comma ∷ expr_tokens y) ts (unbegun l line _ ts follows)
    (λ tx rest fx f. by_token (λ us. SpeltExpr (tree.Comma l x y) (tx ++ us) next) _ (mark l P.Comma) (expr_tokens y) rest f
    (λ t ty is on fy. whole tx ty t is
    (will_x line tx t fx (quiet_join (edge (standing x)) t (T.Punctuator P.Comma) slot.Comma is refl refl (join_comma t is) (omega (arith, edge_some (standing x)))))
    (will_y false ty next fy (quiet_any (standing y) next quiet))))
  where
    whole : (tx ty : List Token) (t : Token) → t.kind ≡ T.Punctuator P.Comma → SpeltExpr x tx t → SpeltExpr y ty next → SpeltExpr (tree.Comma l x y) (tx ++ t ∷ ty) next
    whole tx ty t is sx sy = let read : Expr = tree.Comma (Some (through sx.loc sy.loc)) sx.tree sy.tree in record {
      tree = read;
      loc = through sx.loc sy.loc;
      spells = between slot.Comma any assignment (T.Punctuator P.Comma) x y tx ty t next sx sy any read refl (join_comma t is) is low_x low_y quiet refl;
      same = λ i. tree.Comma None (sx.same i) (sy.same i);
      traits = same_traits read (tree.Comma l x y) refl refl (λ i. same_bare sx i || same_bare sy i) refl refl;
    }

pub conditional : (l : Option Loc) (c x y : Expr) → 4 ≤ standing c → assignment ≤ standing x → assignment ≤ standing y → WillExpr c → WillExpr x → WillExpr y → WillExpr (tree.Conditional l c x y)
conditional l c x y low_c low_x low_y will_c will_x will_y line ts next follows quiet =
    by_split (λ us. SpeltExpr (tree.Conditional l c x y) us next) line (expr_tokens c) (mark l P.Question ∷ (expr_tokens x ++ mark l P.Colon ∷ expr_tokens y)) ts (unbegun l line _ ts follows)
    (λ tc rest fc f. by_token (λ us. SpeltExpr (tree.Conditional l c x y) (tc ++ us) next) _ (mark l P.Question) (expr_tokens x ++ mark l P.Colon ∷ expr_tokens y) rest f
    (λ t rest_x is on fr. by_split (λ us. SpeltExpr (tree.Conditional l c x y) (tc ++ t ∷ us) next) false (expr_tokens x) (mark l P.Colon ∷ expr_tokens y) rest_x fr
    (λ tx rest_y fx fq. by_token (λ us. SpeltExpr (tree.Conditional l c x y) (tc ++ t ∷ (tx ++ us)) next) _ (mark l P.Colon) (expr_tokens y) rest_y fq
    (λ u ty is_colon at fy. whole tc tx ty t u is is_colon
    (will_c line tc t fc (quiet_join (edge (standing c)) t (T.Punctuator P.Question) slot.Conditional is refl refl (join_question t is) (edge_middle 3 (standing c) (omega arith) (omega arith) (omega arith))))
    (will_x false tx u fx (quiet_any (standing x) u (quiet_colon 2 u (omega arith) is_colon)))
    (will_y false ty next fy (quiet_any (standing y) next quiet))))))
  where
    whole : (tc tx ty : List Token) (t u : Token) → t.kind ≡ T.Punctuator P.Question → u.kind ≡ T.Punctuator P.Colon → SpeltExpr c tc t → SpeltExpr x tx u → SpeltExpr y ty next → SpeltExpr (tree.Conditional l c x y) (tc ++ t ∷ (tx ++ u ∷ ty)) next
    whole tc tx ty t u is is_colon sc sx sy = let read : Expr = tree.Conditional (Some (through sc.loc sy.loc)) sc.tree sx.tree sy.tree in record {
      tree = read;
      loc = through sc.loc sy.loc;
      spells = Sentences.joined slot.Conditional t (join_question t is) refl low_c sc.spells
          (Sentences.sign t is (operand {us = u ∷ ty} low_x (quiet_colon 2 u (omega arith) is_colon) sx.spells (Sentences.sign u is_colon (last_operand low_y quiet sy.spells)))) refl;
      same = λ i. tree.Conditional None (sc.same i) (sx.same i) (sy.same i);
      traits = same_traits read (tree.Conditional l c x y) refl refl (λ i. same_bare sc i || same_bare sy i) refl refl;
    }

-- ---- before and after one operand

pub unary : (l : Option Loc) (o : UnaryOperator) (x : Expr) → 16 ≤ standing x → WillExpr x → WillExpr (tree.Unary l o x)
unary l o x low will line ts next follows quiet =
    by_token (λ us. SpeltExpr (tree.Unary l o x) us next) line (token l (prefix_of o)) (expr_tokens x) ts (unbegun l line _ ts follows)
    (λ t tx is on fx. whole tx t is (will false tx next fx (quiet_operand 16 (standing x) next low (inr (omega arith, omega arith)) quiet)))
  where
    whole : (tx : List Token) (t : Token) → t.kind ≡ prefix_of o → SpeltExpr x tx next → SpeltExpr (tree.Unary l o x) (t ∷ tx) next
    whole tx t is sx = let read : Expr = tree.Unary (Some (through t.loc sx.loc)) o sx.tree in record {
      tree = read;
      loc = through t.loc sx.loc;
      spells = before (slot.Unary o) 16 (prefix_of o) x tx t next sx 16 read refl (prefix_unary o t is) is low quiet refl;
      same = λ i. tree.Unary None o (sx.same i);
      traits = same_traits read (tree.Unary l o x) refl refl (same_bare sx) refl refl;
    }

pub prefix_updated : (l : Option Loc) (o : UpdateOperator) (x : Expr) → 16 ≤ standing x → is_target x ≡ true → WillExpr x → WillExpr (tree.PrefixUpdate l o x)
prefix_updated l o x low target will line ts next follows quiet =
    by_token (λ us. SpeltExpr (tree.PrefixUpdate l o x) us next) line (mark l (update_of o)) (expr_tokens x) ts (unbegun l line _ ts follows)
    (λ t tx is on fx. whole tx t is (will false tx next fx (quiet_operand 16 (standing x) next low (inr (omega arith, omega arith)) quiet)))
  where
    whole : (tx : List Token) (t : Token) → t.kind ≡ T.Punctuator (update_of o) → SpeltExpr x tx next → SpeltExpr (tree.PrefixUpdate l o x) (t ∷ tx) next
    whole tx t is sx = let read : Expr = tree.PrefixUpdate (Some (through t.loc sx.loc)) o sx.tree in record {
      tree = read;
      loc = through t.loc sx.loc;
      spells = before (slot.PrefixUpdate o) 16 (T.Punctuator (update_of o)) x tx t next sx 17 read refl (prefix_update o t is) is low quiet
          (ap (λ c. if c then Some (AnExpr 17 (tree.PrefixUpdate (Some (through t.loc sx.loc)) o sx.tree)) else None) (same_target sx ∙ target));
      same = λ i. tree.PrefixUpdate None o (sx.same i);
      traits = same_traits read (tree.PrefixUpdate l o x) refl refl (same_bare sx) refl refl;
    }

-- what is assigned to ends on its line
target_line : (line : Bool) (x : Expr) → is_target x ≡ true → last_line line (expr_tokens x) ≡ false
target_line line (tree.IdentifierReference l w) h = line_begun l line (word l w ∷ [])
target_line line (tree.NamedMember l o w) h = line_begun l line (expr_tokens o ++ mark l P.Dot ∷ word l w ∷ []) ∙ line_append line (expr_tokens o) (mark l P.Dot ∷ word l w ∷ [])
target_line line (tree.ComputedMember l o k) h =
    line_begun l line (expr_tokens o ++ mark l P.OpenBracket ∷ (expr_tokens k ++ mark l P.CloseBracket ∷ [])) ∙ line_append line (expr_tokens o) (mark l P.OpenBracket ∷ (expr_tokens k ++ mark l P.CloseBracket ∷ []))
    ∙ line_append false (expr_tokens k) (mark l P.CloseBracket ∷ [])
target_line line x h = absurd (true≢false (sym h))

pub postfix_updated : (l : Option Loc) (o : UpdateOperator) (x : Expr) → call ≤ standing x → is_target x ≡ true → WillExpr x → WillExpr (tree.PostfixUpdate l o x)
postfix_updated l o x low target will line ts next follows quiet =
    by_split (λ us. SpeltExpr (tree.PostfixUpdate l o x) us next) line (expr_tokens x) (mark l (update_of o) ∷ []) ts (unbegun l line _ ts follows)
    (λ tx rest fx f. by_last (λ us. SpeltExpr (tree.PostfixUpdate l o x) (tx ++ us) next) _ (mark l (update_of o)) rest f
    (λ t is on. whole tx t is (join_update o t is (on ∙ target_line line x target))
    (will line tx t fx (quiet_join (edge (standing x)) t (T.Punctuator (update_of o)) (slot.Postfix o) is refl (no_arrow o) (join_update o t is (on ∙ target_line line x target)) (edge_tight 17 (standing x) (omega arith) (omega arith))))))
  where
    no_arrow : (q : UpdateOperator) → is_kind (T.Punctuator P.Arrow) (T.Punctuator (update_of q)) ≡ false
    no_arrow up.Increment = refl
    no_arrow up.Decrement = refl

    whole : (tx : List Token) (t : Token) → t.kind ≡ T.Punctuator (update_of o) → reading.join t ≡ Some (slot.Postfix o) → SpeltExpr x tx t → SpeltExpr (tree.PostfixUpdate l o x) (tx ++ t ∷ []) next
    whole tx t is joins sx = let read : Expr = tree.PostfixUpdate (Some (through sx.loc t.loc)) o sx.tree in record {
      tree = read;
      loc = through sx.loc t.loc;
      spells = Sentences.joined (slot.Postfix o) t joins refl low sx.spells (Sentences.sign t is Sentences.done)
          (ap (λ c. if c then Some (AnExpr 17 (tree.PostfixUpdate (Some (through sx.loc t.loc)) o sx.tree)) else None) (same_target sx ∙ target));
      same = λ i. tree.PostfixUpdate None o (sx.same i);
      traits = same_traits read (tree.PostfixUpdate l o x) refl refl refl refl refl;
    }

-- ---- members

-- a member binds as its tree says: not so where a call stands in a pair for nothing
abbrev pub Bound : Expr → Type 0
Bound o = reading.member_level (standing o) ≡ member_level (level o)

pub named_member : (l : Option Loc) (o : Expr) (w : List ℕ) → call ≤ standing o → Bound o → WillExpr o → WillExpr (tree.NamedMember l o w)
named_member l o w low bound will line ts next follows quiet =
    by_split (λ us. SpeltExpr (tree.NamedMember l o w) us next) line (expr_tokens o) (mark l P.Dot ∷ word l w ∷ []) ts (unbegun l line _ ts follows)
    (λ tx rest fx f. by_token (λ us. SpeltExpr (tree.NamedMember l o w) (tx ++ us) next) _ (mark l P.Dot) (word l w ∷ []) rest f
    (λ t more is on fw. by_last (λ us. SpeltExpr (tree.NamedMember l o w) (tx ++ t ∷ us) next) _ (word l w) more fw
    (λ u is_word at. whole tx t u is is_word (will line tx t fx (quiet_join (edge (standing o)) t (T.Punctuator P.Dot) slot.Dot is refl refl (join_dot t is) (edge_tight 21 (standing o) (omega arith) (omega arith)))))))
  where
    whole : (tx : List Token) (t u : Token) → t.kind ≡ T.Punctuator P.Dot → u.kind ≡ Word w → SpeltExpr o tx t → SpeltExpr (tree.NamedMember l o w) (tx ++ t ∷ u ∷ []) next
    whole tx t u is is_word sx = let read : Expr = tree.NamedMember (Some (through sx.loc u.loc)) sx.tree w in record {
      tree = read;
      loc = through sx.loc u.loc;
      spells = subst (λ n. Spells (AnExpr n (tree.NamedMember (Some (through sx.loc u.loc)) sx.tree w)) (through sx.loc u.loc) (tx ++ t ∷ u ∷ []) next) bound
          (Sentences.joined slot.Dot t (join_dot t is) refl low sx.spells (Sentences.sign t is (Sentences.text u (ap (λ k. piece_of AnyName k u.loc) is_word) Sentences.done)) refl);
      same = λ i. tree.NamedMember None (sx.same i) w;
      traits = same_traits read (tree.NamedMember l o w) refl refl refl refl refl;
    }

pub computed_member : (l : Option Loc) (o k : Expr) → call ≤ standing o → Bound o → any ≤ standing k → WillExpr o → WillExpr k → WillExpr (tree.ComputedMember l o k)
computed_member l o k low bound some will will_key line ts next follows quiet =
    by_split (λ us. SpeltExpr (tree.ComputedMember l o k) us next) line (expr_tokens o) (mark l P.OpenBracket ∷ (expr_tokens k ++ mark l P.CloseBracket ∷ [])) ts (unbegun l line _ ts follows)
    (λ tx rest fx f. by_token (λ us. SpeltExpr (tree.ComputedMember l o k) (tx ++ us) next) _ (mark l P.OpenBracket) (expr_tokens k ++ mark l P.CloseBracket ∷ []) rest f
    (λ t more is on fk. by_split (λ us. SpeltExpr (tree.ComputedMember l o k) (tx ++ t ∷ us) next) false (expr_tokens k) (mark l P.CloseBracket ∷ []) more fk
    (λ tk last fkey fl. by_last (λ us. SpeltExpr (tree.ComputedMember l o k) (tx ++ t ∷ (tk ++ us)) next) _ (mark l P.CloseBracket) last fl
    (λ u is_close at. whole tx tk t u is is_close
    (will line tx t fx (quiet_join (edge (standing o)) t (T.Punctuator P.OpenBracket) slot.Member is refl refl (join_bracket t is) (edge_tight 21 (standing o) (omega arith) (omega arith))))
    (will_key false tk u fkey (quiet_any (standing k) u (quiet_bracket 2 u (omega arith) is_close)))))))
  where
    whole : (tx tk : List Token) (t u : Token) → t.kind ≡ T.Punctuator P.OpenBracket → u.kind ≡ T.Punctuator P.CloseBracket → SpeltExpr o tx t → SpeltExpr k tk u → SpeltExpr (tree.ComputedMember l o k) (tx ++ t ∷ (tk ++ u ∷ [])) next
    whole tx tk t u is is_close sx sk = let read : Expr = tree.ComputedMember (Some (through sx.loc u.loc)) sx.tree sk.tree in record {
      tree = read;
      loc = through sx.loc u.loc;
      spells = subst (λ n. Spells (AnExpr n (tree.ComputedMember (Some (through sx.loc u.loc)) sx.tree sk.tree)) (through sx.loc u.loc) (tx ++ t ∷ (tk ++ u ∷ [])) next) bound
          (Sentences.joined slot.Member t (join_bracket t is) refl low sx.spells (Sentences.sign t is (operand {us = u ∷ []} some (quiet_bracket 1 u (omega arith) is_close) sk.spells (Sentences.sign u is_close Sentences.done))) refl);
      same = λ i. tree.ComputedMember None (sx.same i) (sk.same i);
      traits = same_traits read (tree.ComputedMember l o k) refl refl refl refl refl;
    }
