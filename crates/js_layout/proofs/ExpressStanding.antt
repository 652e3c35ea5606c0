-- How tightly an expression binds that has its parentheses: as its tree says.
use Rattle.std.proofs.Common.{◌≡◌, ℕ, ◌≤◌, Bool, true, false, if◌then◌else◌, refl, sym, ap, subst, ◌∙◌, arith}
use Rattle.std.specs.Prelude.{nat_lt, ◌==◌}
use Rattle.std.proofs.lemmas.Bool.{true≢false, le-ltb}
use Rattle.js_terms.specs.declared.operators.BinaryOperator.{BinaryOperator}
use Rattle.js_terms.specs.declared.operators.BinaryOperator.TheVariants as b
use Rattle.js_terms.specs.declared.operators.LogicalOperator.{LogicalOperator}
use Rattle.js_terms.specs.declared.operators.LogicalOperator.TheVariants as logic
use Rattle.js_tree.specs.Plain.{Expr}
use Rattle.js_tree.specs.Plain as tree
use Rattle.js_reading.specs.Level.{any, binary_level, left_level, right_level, logical_level}
use Rattle.js_reading.specs.Productions.{member, call, logical_right}
use Rattle.js_reading.specs.Makes.{is_target}
use Rattle.js_layout.specs.Neat.{level, member_level, paired, placed, neat_expr}
use Rattle.js_layout.proofs.Spelt.{standing}
use Rattle.js_layout.proofs.ExpressPairs.{paired_level}

-- ---- the level of what has its parentheses

pub neat_level : (e : Expr) → level (neat_expr e) ≡ level e
neat_level (tree.Parenthesized l e) = neat_level e
neat_level (tree.NamedMember l o w) = ap member_level (paired_level (nat_lt (level o) call) o (neat_expr o) ∙ neat_level o)
neat_level (tree.ComputedMember l o k) = ap member_level (paired_level (nat_lt (level o) call) o (neat_expr o) ∙ neat_level o)
neat_level (tree.Entered m e) = neat_level e
neat_level e = refl

pub neat_standing : (e : Expr) → standing (neat_expr e) ≡ level e
neat_standing (tree.Parenthesized l e) = neat_standing e
neat_standing e = neat_level e

-- ---- bounds of levels

pub binary_some : (o : BinaryOperator) → (7 ≤ binary_level o) × (binary_level o ≤ 15)
binary_some b.Exponentiate = (omega arith, omega arith)
binary_some o = (omega arith, omega arith)

pub left_most : (o : BinaryOperator) → left_level o ≤ member
left_most b.Exponentiate = omega arith
left_most o = omega arith

pub right_most : (o : BinaryOperator) → right_level o ≤ member
right_most b.Exponentiate = omega arith
right_most o = omega arith

pub logical_most : (o : LogicalOperator) → logical_right o ≤ member
logical_most logic.And = omega arith
logical_most o = omega arith

logical_some : (o : LogicalOperator) → any ≤ logical_level o
logical_some logic.And = omega arith
logical_some o = omega arith

member_some : (i : ℕ) → call ≤ member_level i
member_some i = elim (i == call) as (λ t. call ≤ (if t then call else member)) [ true ↦ omega arith | false ↦ omega arith ]

pub level_some : (e : Expr) → any ≤ level e
level_some (tree.Parenthesized l e) = level_some e
level_some (tree.NamedMember l o w) = omega (arith, member_some (level o))
level_some (tree.ComputedMember l o k) = omega (arith, member_some (level o))
level_some (tree.Binary l o x y) = omega (arith, (binary_some o).0)
level_some (tree.Logical l o x y) = logical_some o
level_some (tree.Entered m e) = level_some e
level_some e = omega arith

-- every place that asks for nothing in particular
pub neat_some : (e : Expr) → any ≤ standing (neat_expr e)
neat_some e = subst (λ n. any ≤ n) (sym (neat_standing e)) (level_some e)

-- ---- what is assigned to stands in no pair

target_level : (e : Expr) → is_target e ≡ true → call ≤ level e
target_level (tree.IdentifierReference l w) h = omega arith
target_level (tree.NamedMember l o w) h = member_some (level o)
target_level (tree.ComputedMember l o k) h = member_some (level o)
target_level e h = absurd (true≢false (sym h))

target_neat : (e : Expr) → is_target e ≡ true → is_target (neat_expr e) ≡ true
target_neat (tree.IdentifierReference l w) h = refl
target_neat (tree.NamedMember l o w) h = refl
target_neat (tree.ComputedMember l o k) h = refl
target_neat e h = absurd (true≢false (sym h))

unpaired : (c : Bool) (e x : Expr) → c ≡ false → is_target x ≡ true → is_target (paired c e x) ≡ true
unpaired false e x h g = g
unpaired true e x h g = absurd (true≢false h)

pub placed_target : (n : ℕ) (e : Expr) → n ≤ call → is_target e ≡ true → is_target (placed n e (neat_expr e)) ≡ true
placed_target n e low h = unpaired (nat_lt (level e) n) e (neat_expr e) (le-ltb (level e) n (omega (arith, target_level e h))) (target_neat e h)
