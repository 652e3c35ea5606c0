-- What only looks at the heap.
use Rattle.std.proofs.Common.{◌≡◌, ℕ, List, IsTrue, Option, Some, None, refl, sym, subst, ap, ◌∙◌, codes, is_some, if◌then◌else◌}
use Rattle.js_terms.specs.declared.operators.BinaryOperator.{BinaryOperator}
use Rattle.js_terms.specs.declared.operators.BinaryOperator.TheVariants as binary_operator
use Rattle.js_terms.specs.declared.operators.UnaryOperator.{UnaryOperator}
use Rattle.js_terms.specs.declared.operators.UnaryOperator.TheVariants as unary_operator
use Rattle.js_value.specs.declared.value.Value.{Value}
use Rattle.js_value.specs.declared.deed.Complaint.TheVariants.{NotInitialised}
use Rattle.js_value.specs.Environments.{Cell, lookup, value_of}
use Rattle.js_value.specs.Members.{is_in, is_instance, type_in}
use Rattle.js_value.specs.Operators.{binary, has_answer}
use Rattle.js_value.specs.UnaryOperators.{has_unary_answer, unary}
use Rattle.js_value.specs.Realm.{text}
use Rattle.js_heap.specs.declared.heap.Heap.{Heap}
use Rattle.js_heap.specs.Heap.{heap_of}
use Rattle.js_meaning.specs.Effects.{Comp, handle, exec}
use Rattle.js_meaning.specs.Meaning as M
use Rattle.js_machine.specs.private.Config.{operated_on, operated_unary_on, type_in_cell, type_of_name}
use Rattle.js_machine.specs.private.State.{with_heap, Turns}
use Rattle.js_machine.proofs.Acts.{looks_at, same_comp}

-- an operator of two values
pub operated_turns : (operator : BinaryOperator) (v w : Value) (h : Heap) (d : Comp) → d ≡ operated_on (heap_of h) operator v w → Turns (M.operated operator v w) h d h
operated_turns binary_operator.Exponentiate v w h d e = same_comp h (M.answered (binary binary_operator.Exponentiate v w)) d e
operated_turns binary_operator.Multiply v w h d e = same_comp h (M.answered (binary binary_operator.Multiply v w)) d e
operated_turns binary_operator.Divide v w h d e = same_comp h (M.answered (binary binary_operator.Divide v w)) d e
operated_turns binary_operator.Remainder v w h d e = same_comp h (M.answered (binary binary_operator.Remainder v w)) d e
operated_turns binary_operator.Add v w h d e = same_comp h (M.answered (binary binary_operator.Add v w)) d e
operated_turns binary_operator.Subtract v w h d e = same_comp h (M.answered (binary binary_operator.Subtract v w)) d e
operated_turns binary_operator.LeftShift v w h d e = same_comp h (M.answered (binary binary_operator.LeftShift v w)) d e
operated_turns binary_operator.SignedRightShift v w h d e = same_comp h (M.answered (binary binary_operator.SignedRightShift v w)) d e
operated_turns binary_operator.UnsignedRightShift v w h d e = same_comp h (M.answered (binary binary_operator.UnsignedRightShift v w)) d e
operated_turns binary_operator.LessThan v w h d e = same_comp h (M.answered (binary binary_operator.LessThan v w)) d e
operated_turns binary_operator.GreaterThan v w h d e = same_comp h (M.answered (binary binary_operator.GreaterThan v w)) d e
operated_turns binary_operator.LessThanOrEqual v w h d e = same_comp h (M.answered (binary binary_operator.LessThanOrEqual v w)) d e
operated_turns binary_operator.GreaterThanOrEqual v w h d e = same_comp h (M.answered (binary binary_operator.GreaterThanOrEqual v w)) d e
operated_turns binary_operator.InstanceOf v w h d e = looks_at h (λ g. M.or_halt (is_instance g v w) M.truth) d e
operated_turns binary_operator.In v w h d e = looks_at h (λ g. M.or_halt (is_in g v w) M.truth) d e
operated_turns binary_operator.Equal v w h d e = same_comp h (M.answered (binary binary_operator.Equal v w)) d e
operated_turns binary_operator.NotEqual v w h d e = same_comp h (M.answered (binary binary_operator.NotEqual v w)) d e
operated_turns binary_operator.StrictEqual v w h d e = same_comp h (M.answered (binary binary_operator.StrictEqual v w)) d e
operated_turns binary_operator.StrictNotEqual v w h d e = same_comp h (M.answered (binary binary_operator.StrictNotEqual v w)) d e
operated_turns binary_operator.BitwiseAnd v w h d e = same_comp h (M.answered (binary binary_operator.BitwiseAnd v w)) d e
operated_turns binary_operator.BitwiseXor v w h d e = same_comp h (M.answered (binary binary_operator.BitwiseXor v w)) d e
operated_turns binary_operator.BitwiseOr v w h d e = same_comp h (M.answered (binary binary_operator.BitwiseOr v w)) d e

pub has_one : (operator : BinaryOperator) → (operator ≡ binary_operator.In → ⊥) → (operator ≡ binary_operator.InstanceOf → ⊥) → IsTrue (has_answer operator)
has_one binary_operator.Exponentiate h k = refl
has_one binary_operator.Multiply h k = refl
has_one binary_operator.Divide h k = refl
has_one binary_operator.Remainder h k = refl
has_one binary_operator.Add h k = refl
has_one binary_operator.Subtract h k = refl
has_one binary_operator.LeftShift h k = refl
has_one binary_operator.SignedRightShift h k = refl
has_one binary_operator.UnsignedRightShift h k = refl
has_one binary_operator.LessThan h k = refl
has_one binary_operator.GreaterThan h k = refl
has_one binary_operator.LessThanOrEqual h k = refl
has_one binary_operator.GreaterThanOrEqual h k = refl
has_one binary_operator.InstanceOf h k = absurd (k refl)
has_one binary_operator.In h k = absurd (h refl)
has_one binary_operator.Equal h k = refl
has_one binary_operator.NotEqual h k = refl
has_one binary_operator.StrictEqual h k = refl
has_one binary_operator.StrictNotEqual h k = refl
has_one binary_operator.BitwiseAnd h k = refl
has_one binary_operator.BitwiseXor h k = refl
has_one binary_operator.BitwiseOr h k = refl

pub operated_else : (operator : BinaryOperator) → (operator ≡ binary_operator.In → ⊥) → (operator ≡ binary_operator.InstanceOf → ⊥) → (v w : Value) (h : Heap) →
    M.answered (binary operator v w) ≡ operated_on (heap_of h) operator v w
operated_else binary_operator.Exponentiate h k v w g = refl
operated_else binary_operator.Multiply h k v w g = refl
operated_else binary_operator.Divide h k v w g = refl
operated_else binary_operator.Remainder h k v w g = refl
operated_else binary_operator.Add h k v w g = refl
operated_else binary_operator.Subtract h k v w g = refl
operated_else binary_operator.LeftShift h k v w g = refl
operated_else binary_operator.SignedRightShift h k v w g = refl
operated_else binary_operator.UnsignedRightShift h k v w g = refl
operated_else binary_operator.LessThan h k v w g = refl
operated_else binary_operator.GreaterThan h k v w g = refl
operated_else binary_operator.LessThanOrEqual h k v w g = refl
operated_else binary_operator.GreaterThanOrEqual h k v w g = refl
operated_else binary_operator.InstanceOf h k v w g = absurd (k refl)
operated_else binary_operator.In h k v w g = absurd (h refl)
operated_else binary_operator.Equal h k v w g = refl
operated_else binary_operator.NotEqual h k v w g = refl
operated_else binary_operator.StrictEqual h k v w g = refl
operated_else binary_operator.StrictNotEqual h k v w g = refl
operated_else binary_operator.BitwiseAnd h k v w g = refl
operated_else binary_operator.BitwiseXor h k v w g = refl
operated_else binary_operator.BitwiseOr h k v w g = refl

-- an operator of one
pub unary_turns : (operator : UnaryOperator) (v : Value) (h : Heap) (d : Comp) → d ≡ operated_unary_on (heap_of h) operator v → Turns (M.operated_unary operator v) h d h
unary_turns unary_operator.Delete v h d e = same_comp h (M.operated_unary unary_operator.Delete v) d e
unary_turns unary_operator.Void v h d e = same_comp h (M.operated_unary unary_operator.Void v) d e
unary_turns unary_operator.TypeOf v h d e = looks_at h (λ g. M.give (text (type_in g v))) d e
unary_turns unary_operator.Plus v h d e = same_comp h (M.operated_unary unary_operator.Plus v) d e
unary_turns unary_operator.Minus v h d e = same_comp h (M.operated_unary unary_operator.Minus v) d e
unary_turns unary_operator.BitwiseNot v h d e = same_comp h (M.operated_unary unary_operator.BitwiseNot v) d e
unary_turns unary_operator.LogicalNot v h d e = same_comp h (M.operated_unary unary_operator.LogicalNot v) d e

pub has_unary_one : (operator : UnaryOperator) → (operator ≡ unary_operator.Delete → ⊥) → (operator ≡ unary_operator.Void → ⊥) → (operator ≡ unary_operator.TypeOf → ⊥) →
    IsTrue (has_unary_answer operator)
has_unary_one unary_operator.Delete h k l = absurd (h refl)
has_unary_one unary_operator.Void h k l = absurd (k refl)
has_unary_one unary_operator.TypeOf h k l = absurd (l refl)
has_unary_one unary_operator.Plus h k l = refl
has_unary_one unary_operator.Minus h k l = refl
has_unary_one unary_operator.BitwiseNot h k l = refl
has_unary_one unary_operator.LogicalNot h k l = refl

pub unary_else : (operator : UnaryOperator) → (operator ≡ unary_operator.Delete → ⊥) → (operator ≡ unary_operator.Void → ⊥) → (operator ≡ unary_operator.TypeOf → ⊥) →
    (v : Value) (h : Heap) → M.answered (unary operator v) ≡ operated_unary_on (heap_of h) operator v
unary_else unary_operator.Delete h k l v g = absurd (h refl)
unary_else unary_operator.Void h k l v g = absurd (k refl)
unary_else unary_operator.TypeOf h k l v g = absurd (l refl)
unary_else unary_operator.Plus h k l v g = refl
unary_else unary_operator.Minus h k l v g = refl
unary_else unary_operator.BitwiseNot h k l v g = refl
unary_else unary_operator.LogicalNot h k l v g = refl

-- the type of what stands in a cell
cell_type : (h : Heap) (cell : Cell) (found : Option Value) → found ≡ value_of (heap_of h) cell →
    Turns (handle (elim found [ None ↦ M.complain NotInitialised | Some v ↦ M.give v ]) (M.with_value (M.operated_unary unary_operator.TypeOf))) h
    (elim found [ None ↦ M.complain NotInitialised | Some v ↦ M.give (text (type_in (heap_of h) v)) ]) h
cell_type h cell None is = same_comp h _ _ refl
cell_type h cell (Some v) is = looks_at h (λ g. M.give (text (type_in g v))) _ refl

-- the type of a name's value, or of none, by the name's cell
name_type : (name : List ℕ) (env : ℕ) (h : Heap) (found : Option Cell) → lookup (heap_of h) env name ≡ found →
    Turns (type_of_name name env) h (type_in_cell (heap_of h) found) h
name_type name env h None is = record {
  same = λ base. record {
    same = λ inside n next.
        ap (λ (o : Option Cell). exec inside n (handle (if is_some o then handle (M.read name env) (M.with_value (M.operated_unary unary_operator.TypeOf)) else M.give (text (codes "undefined"))) next) (with_heap base h)) is;
  };
}
name_type name env h (Some cell) is = record {
  same = λ base. record {
    same = λ inside n next.
        ap (λ (o : Option Cell). exec inside n (handle (if is_some o then handle (M.read name env) (M.with_value (M.operated_unary unary_operator.TypeOf)) else M.give (text (codes "undefined"))) next) (with_heap base h)) is
        ∙ ap (λ (o : Option Cell). exec inside n (handle (handle (M.value_in (heap_of h) o) (M.with_value (M.operated_unary unary_operator.TypeOf))) next) (with_heap base h)) is
        ∙ ((cell_type h cell (value_of (heap_of h) cell) refl).same base).same inside n next;
  };
}

pub type_turns : (name : List ℕ) (env : ℕ) (h : Heap) (d : Comp) → d ≡ type_in_cell (heap_of h) (lookup (heap_of h) env name) → Turns (type_of_name name env) h d h
type_turns name env h d is = subst (λ x. Turns (type_of_name name env) h x h) (sym is) (name_type name env h (lookup (heap_of h) env name) refl)
