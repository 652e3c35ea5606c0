-- Assignments that are done at once, by what their parts come to.
use Rattle.std.proofs.Common.{◌≡◌, ℕ, ℤ, Bool, List, [], ◌∷◌, ◌++◌, Some, None, Option, refl, sym, subst, ap, if◌then◌else◌}
use Rattle.js_terms.specs.declared.place.Loc.{Loc}
use Rattle.js_terms.specs.declared.operators.BinaryOperator.{BinaryOperator}
use Rattle.js_terms.specs.declared.operators.UpdateOperator.{UpdateOperator}
use Rattle.js_tree.specs.Plain as P
use Rattle.js_value.specs.declared.value.Value.{Value}
use Rattle.js_value.specs.Conversions.{Is, to_number}
use Rattle.js_value.specs.UnaryOperators.{stepped}
use Rattle.js_value.specs.Realm.{text}
use Rattle.js_value.specs.Functions.{name_units}
use Rattle.js_heap.specs.declared.heap.Heap.{Heap}
use Rattle.js_heap.specs.Heap.{heap_of}
use Rattle.js_code.specs.Part.{as_exprs}
use Rattle.js_meaning.specs.Effects.{Comp, handle}
use Rattle.js_meaning.specs.Meaning as M
use Rattle.js_machine.specs.declared.at_once.Done.{Done}
use Rattle.js_machine.specs.private.AtOnce.{HasValue, calls, done_comp}
use Rattle.js_machine.specs.private.Config.{View, expr_at}
use Rattle.js_machine.specs.private.State.{Becomes, Turns, with_heap}
use Rattle.js_machine.proofs.Acts.{same_comp}
use Rattle.js_machine.proofs.AtOnce.{done_then, gives_then, named_turns}
use Rattle.js_machine.proofs.Stores.{becomes_on}

-- one after another
pub turns_on : (c d e : Comp) (g h i : Heap) → Turns c g d h → Turns d h e i → Turns c g e i
turns_on c d e g h i first second = record {
  same = λ base. becomes_on c d e (with_heap base g) (with_heap base h) (with_heap base i) (first.same base) (second.same base);
}

-- and where the heap that it leads to is seen as another
pub turns_to : (c d : Comp) (g h i : Heap) → heap_of i ≡ heap_of h → Turns c g d h → Turns c g d i
turns_to c d g h i is turns = record {
  same = λ base. subst (λ seen. Becomes c (with_heap base g) d (record base { heap = seen })) (sym is) (turns.same base);
}

-- the references that expressions are
module _ (t : View) (place env : ℕ) (h : Heap) (loc : Option Loc) (otherwise : Comp) (next : M.Reference → Comp) where
  abbrev Refers : M.Reference → Type 0
  Refers r = Turns (M.comp_reference t.program (expr_at t place) env otherwise next) h (next r) h

  as_it_is : (e : P.Expr) (r : M.Reference) → expr_at t place ≡ e → Turns (M.comp_reference t.program e env otherwise next) h (next r) h → Refers r
  as_it_is e r is turns = subst (λ x. Turns (M.comp_reference t.program x env otherwise next) h (next r) h) (sym is) turns

  pub name_refers : (name : List ℕ) → expr_at t place ≡ P.IdentifierReference loc name → Refers (M.Name name)
  name_refers name is = as_it_is (P.IdentifierReference loc name) (M.Name name) is (same_comp h (next (M.Name name)) (next (M.Name name)) refl)

  pub named_refers : (object : ℕ) (name : List ℕ) (v : Value) → expr_at t place ≡ P.NamedMember loc (expr_at t object) name →
      HasValue t object env h v → Refers (M.Member v (text (name_units name)))
  named_refers object name v is base = as_it_is (P.NamedMember loc (expr_at t object) name) (M.Member v (text (name_units name))) is
      (gives_then (M.comp_expr t.program (expr_at t object) env) v (λ x. next (M.Member x (text (name_units name)))) (next (M.Member v (text (name_units name)))) h h h
      base.turns (same_comp h (next (M.Member v (text (name_units name)))) (next (M.Member v (text (name_units name)))) refl))

  pub computed_refers : (object key : ℕ) (v k : Value) → expr_at t place ≡ P.ComputedMember loc (expr_at t object) (expr_at t key) →
      HasValue t object env h v → HasValue t key env h k → Refers (M.Member v k)
  computed_refers object key v k is base by = as_it_is (P.ComputedMember loc (expr_at t object) (expr_at t key)) (M.Member v k) is
      (gives_then (M.comp_expr t.program (expr_at t object) env) v (λ x. handle (M.comp_expr t.program (expr_at t key) env) (M.with_value (λ y. next (M.Member x y)))) (next (M.Member v k)) h h h
      base.turns
      (gives_then (M.comp_expr t.program (expr_at t key) env) k (λ y. next (M.Member v y)) (next (M.Member v k)) h h h
      by.turns (same_comp h (next (M.Member v k)) (next (M.Member v k)) refl)))

-- the new value of a reference
module _ (t : View) (env : ℕ) (h : Heap) (place : ℕ) where
  abbrev Assigns : Option BinaryOperator → M.Reference → Value → Type 0
  Assigns operator r v = Turns (M.assigning operator r (expr_at t place) env (M.comp_expr t.program (expr_at t place) env)) h (M.put_value env r v) h

  pub plain_assigns : (r : M.Reference) (v : Value) → HasValue t place env h v → Assigns None r v
  plain_assigns (M.Name name) v has = gives_then (M.named (name_units name) (expr_at t place) env (M.comp_expr t.program (expr_at t place) env)) v (M.put_value env (M.Name name)) (M.put_value env (M.Name name) v) h h h
      (named_turns t place env h v (name_units name) has) (same_comp h (M.put_value env (M.Name name) v) (M.put_value env (M.Name name) v) refl)
  plain_assigns (M.Member base key) v has = gives_then (M.comp_expr t.program (expr_at t place) env) v (M.put_value env (M.Member base key)) (M.put_value env (M.Member base key) v) h h h
      has.turns (same_comp h (M.put_value env (M.Member base key) v) (M.put_value env (M.Member base key) v) refl)

  pub operator_assigns : (operator : BinaryOperator) (r : M.Reference) (old right new : Value) → Turns (M.get_value env r) h (M.give old) h →
      HasValue t place env h right → Turns (M.operated operator old right) h (M.give new) h → Assigns (Some operator) r new
  operator_assigns operator r old right new reads has turns =
      gives_then (M.get_value env r) old (λ v. handle (M.comp_expr t.program (expr_at t place) env) (M.with_value (λ w. handle (M.operated operator v w) (M.with_value (M.put_value env r))))) (M.put_value env r new) h h h
      reads
      (gives_then (M.comp_expr t.program (expr_at t place) env) right (λ w. handle (M.operated operator old w) (M.with_value (M.put_value env r))) (M.put_value env r new) h h h
      has.turns
      (gives_then (M.operated operator old right) new (M.put_value env r) (M.put_value env r new) h h h turns (same_comp h (M.put_value env r new) (M.put_value env r new) refl)))

-- a number that is stepped
pub number_turns : (c : Comp) (v : Value) (old : ℤ) (next : ℤ → Comp) (h : Heap) → Turns c h (M.give v) h → to_number v ≡ Is old →
    Turns (handle c (M.with_value (λ w. M.numbered (to_number w) next))) h (next old) h
number_turns c v old next h turns is = gives_then c v (λ w. M.numbered (to_number w) next) (next old) h h h turns
    (same_comp h (M.numbered (to_number v) next) (next old) (ap (λ n. M.numbered n next) (sym is)))

pub step_turns : (operator : UpdateOperator) (prefix : Bool) (env : ℕ) (r : M.Reference) (old new : ℤ) (d : Done) (g h : Heap) → stepped operator old ≡ Is new →
    Turns (M.put_value env r (M.number_value new)) g (done_comp d) h →
    Turns (M.numbered (stepped operator old) (λ n. handle (M.put_value env r (M.number_value n)) (M.with_value (λ w. M.give (M.number_value (if prefix then n else old)))))) g
    (handle (done_comp d) (M.with_value (λ w. M.give (M.number_value (if prefix then new else old))))) h
step_turns operator prefix env r old new d g h is turns =
    subst (λ n. Turns (M.numbered n (λ n. handle (M.put_value env r (M.number_value n)) (M.with_value (λ w. M.give (M.number_value (if prefix then n else old)))))) g
    (handle (done_comp d) (M.with_value (λ w. M.give (M.number_value (if prefix then new else old))))) h) (sym is)
    (done_then (M.put_value env r (M.number_value new)) d (λ w. M.give (M.number_value (if prefix then new else old))) g h turns)

-- a call of operands
pub calls_turns : (t : View) (arguments env : ℕ) (h : Heap) (c : Comp) (r : M.Reference) (f this : Value) (vs : List Value) →
    Turns c h (calls t arguments env r) h → Turns (M.get_value env r) h (M.give f) h → this ≡ M.this_of r →
    ((next : List Value → Comp) → Turns (M.comp_values t.program (as_exprs (t.tree arguments)) env [] next) h (next vs) h) →
    Turns c h (M.call f this vs) h
calls_turns t arguments env h c r f this vs refers reads is values =
    turns_on c (calls t arguments env r) (M.call f this vs) h h h refers
    (gives_then (M.get_value env r) f (λ g. M.comp_values t.program (as_exprs (t.tree arguments)) env [] (M.call g (M.this_of r))) (M.call f this vs) h h h reads
    (subst (λ x. Turns (M.comp_values t.program (as_exprs (t.tree arguments)) env [] (M.call f (M.this_of r))) h (M.call f x vs) h) (sym is) (values (M.call f (M.this_of r)))))

-- one more value of a list
pub values_on : (t : View) (first rest env : ℕ) (h : Heap) (vs : List Value) (v : Value) (next : List Value → Comp) → HasValue t first env h v →
    Turns (M.comp_values t.program (P.more_expr (expr_at t first) (as_exprs (t.tree rest))) env vs next) h (M.comp_values t.program (as_exprs (t.tree rest)) env (vs ++ v ∷ []) next) h
values_on t first rest env h vs v next has = gives_then (M.comp_expr t.program (expr_at t first) env) v (λ x. M.comp_values t.program (as_exprs (t.tree rest)) env (vs ++ x ∷ []) next)
    (M.comp_values t.program (as_exprs (t.tree rest)) env (vs ++ v ∷ []) next) h h h has.turns
    (same_comp h (M.comp_values t.program (as_exprs (t.tree rest)) env (vs ++ v ∷ []) next) (M.comp_values t.program (as_exprs (t.tree rest)) env (vs ++ v ∷ []) next) refl)

-- an operand, and what is chosen by it
pub choice_turns : (t : View) (place env : ℕ) (h : Heap) (v : Value) (k : Value → Comp) (d : Comp) → HasValue t place env h v → d ≡ k v →
    Turns (handle (M.comp_expr t.program (expr_at t place) env) (M.with_value k)) h d h
choice_turns t place env h v k d has is = gives_then (M.comp_expr t.program (expr_at t place) env) v k d h h h has.turns (same_comp h (k v) d is)
