-- What is done at once, by what its parts come to.
use Rattle.std.proofs.Common.{◌≡◌, ℕ, List, [], None, Some, Option, Result, Ok, Err, IfOk, IfSome, refl, sym, subst, ap, ◌∙◌}
use Rattle.js_terms.specs.declared.place.Loc.{Loc}
use Rattle.js_terms.specs.declared.operators.BinaryOperator.{BinaryOperator}
use Rattle.js_tree.specs.Plain as P
use Rattle.js_value.specs.declared.value.Value.{Value}
use Rattle.js_value.specs.Environments.{lookup}
use Rattle.js_value.specs.Members.{get_member}
use Rattle.js_value.specs.Realm.{text, undefined}
use Rattle.js_value.specs.Functions.{name_units}
use Rattle.js_heap.specs.declared.heap.Heap.{Heap}
use Rattle.js_heap.specs.Heap.{heap_of}
use Rattle.js_meaning.specs.Effects.{Comp, handle}
use Rattle.js_meaning.specs.Program.{Sources}
use Rattle.js_meaning.specs.Meaning as M
use Rattle.js_machine.specs.declared.at_once.Done.{Done}
use Rattle.js_machine.specs.declared.at_once.Done.TheVariants as done
use Rattle.js_machine.specs.private.AtOnce.{HasValue, done_comp}
use Rattle.js_machine.specs.private.Config.{View, expr_at}
use Rattle.js_machine.specs.private.State.{Turns, with_heap}
use Rattle.js_machine.proofs.Acts.{looks_at}
use Rattle.js_machine.proofs.Stores.{becomes_on, becomes_under}

-- what is found where something is found
pub found_then : {A E : Type 0} (r : Result (Option A) E) (P Q : A → Type 0) → IfOk r (λ o. IfSome o P) → ((a : A) → P a → Q a) → IfOk r (λ o. IfSome o Q)
found_then (Ok None) P Q h f = tt
found_then (Ok (Some a)) P Q h f = f a h
found_then (Err e) P Q h f = tt

pub some_is : {A : Type 0} (o : Option A) (a : A) (P : A → Type 0) → o ≡ Some a → IfSome o P → P a
some_is o a P is h = subst (λ x. IfSome x P) is h

-- an expression, a statement and statements, by what they are
pub expr_turns : (p : Sources) (env : ℕ) (e f : P.Expr) (g h : Heap) (d : Comp) → e ≡ f → Turns (M.comp_expr p f env) g d h → Turns (M.comp_expr p e env) g d h
expr_turns p env e f g h d is turns = subst (λ x. Turns (M.comp_expr p x env) g d h) (sym is) turns

pub stmt_turns : (p : Sources) (labels : List (List ℕ)) (env : ℕ) (x y : P.Stmt) (g h : Heap) (d : Comp) → x ≡ y → Turns (M.comp_stmt p y labels env) g d h → Turns (M.comp_stmt p x labels env) g d h
stmt_turns p labels env x y g h d is turns = subst (λ z. Turns (M.comp_stmt p z labels env) g d h) (sym is) turns

pub stmts_turns : (p : Sources) (env : ℕ) (xs ys : P.Stmts) (g h : Heap) (d : Comp) → xs ≡ ys → Turns (M.comp_stmts p ys env) g d h → Turns (M.comp_stmts p xs env) g d h
stmts_turns p env xs ys g h d is turns = subst (λ z. Turns (M.comp_stmts p z env) g d h) (sym is) turns

-- a computation that gives a value, and what follows it
pub gives_then : (c : Comp) (v : Value) (k : Value → Comp) (d : Comp) (g h i : Heap) → Turns c g (M.give v) h → Turns (k v) h d i →
    Turns (handle c (M.with_value k)) g d i
gives_then c v k d g h i first second = record {
  same = λ base. becomes_on (handle c (M.with_value k)) (k v) d (with_heap base g) (with_heap base h) (with_heap base i)
      (becomes_under (M.with_value k) c (M.give v) (with_heap base g) (with_heap base h) (first.same base)) (second.same base);
}

-- an expression at a place, by what it is
pub has_value : (t : View) (place env : ℕ) (h : Heap) (v : Value) (e : P.Expr) → expr_at t place ≡ e →
    Turns (M.comp_expr t.program e env) h (M.give v) h → ((name : List ℕ) → M.named_function e name env ≡ None) → HasValue t place env h v
has_value t place env h v e is turns unnamed = record {
  turns = subst (λ x. Turns (M.comp_expr t.program x env) h (M.give v) h) (sym is) turns;
  unnamed = λ name. ap (λ x. M.named_function x name env) is ∙ unnamed name;
}

-- a name
pub name_turns : (name : List ℕ) (env : ℕ) (h : Heap) (v : Value) → M.value_in (heap_of h) (lookup (heap_of h) env name) ≡ M.give v →
    Turns (M.read name env) h (M.give v) h
name_turns name env h v is = looks_at h (λ g. M.value_in g (lookup g env name)) (M.give v) (sym is)

-- a member
pub member_turns : (base key : Value) (h : Heap) (v : Value) → M.or_halt (get_member (heap_of h) base key) M.give ≡ M.give v →
    Turns (M.get_member_of base key) h (M.give v) h
member_turns base key h v is = looks_at h (λ g. M.or_halt (get_member g base key) M.give) (M.give v) (sym is)

module _ (t : View) (place env : ℕ) (h : Heap) (loc : Option Loc) where
  -- what is in parentheses
  pub inside_has : (inner : ℕ) (v : Value) → expr_at t place ≡ P.Parenthesized loc (expr_at t inner) → HasValue t inner env h v → HasValue t place env h v
  inside_has inner v is has = has_value t place env h v (P.Parenthesized loc (expr_at t inner)) is has.turns has.unnamed

  -- an operator of two operands
  pub binary_has : (operator : BinaryOperator) (left right : ℕ) (v w u : Value) → expr_at t place ≡ P.Binary loc operator (expr_at t left) (expr_at t right) →
      HasValue t left env h v → HasValue t right env h w → Turns (M.operated operator v w) h (M.give u) h → HasValue t place env h u
  binary_has operator left right v w u is first second turns = has_value t place env h u (P.Binary loc operator (expr_at t left) (expr_at t right)) is
      (gives_then (M.comp_expr t.program (expr_at t left) env) v (λ x. handle (M.comp_expr t.program (expr_at t right) env) (M.with_value (M.operated operator x))) (M.give u) h h h
      first.turns (gives_then (M.comp_expr t.program (expr_at t right) env) w (M.operated operator v) (M.give u) h h h second.turns turns))
      (λ name. refl)

  -- a member by name
  pub named_has : (object : ℕ) (name : List ℕ) (v w : Value) → expr_at t place ≡ P.NamedMember loc (expr_at t object) name →
      HasValue t object env h v → M.or_halt (get_member (heap_of h) v (text (name_units name))) M.give ≡ M.give w → HasValue t place env h w
  named_has object name v w is base gives = has_value t place env h w (P.NamedMember loc (expr_at t object) name) is
      (gives_then (M.comp_expr t.program (expr_at t object) env) v (λ x. M.get_member_of x (text (name_units name))) (M.give w) h h h base.turns (member_turns v (text (name_units name)) h w gives))
      (λ n. refl)

  -- a member by the value of an expression
  pub computed_has : (object key : ℕ) (v k w : Value) → expr_at t place ≡ P.ComputedMember loc (expr_at t object) (expr_at t key) →
      HasValue t object env h v → HasValue t key env h k → M.or_halt (get_member (heap_of h) v k) M.give ≡ M.give w → HasValue t place env h w
  computed_has object key v k w is base by gives = has_value t place env h w (P.ComputedMember loc (expr_at t object) (expr_at t key)) is
      (gives_then (M.comp_expr t.program (expr_at t object) env) v (λ x. handle (M.comp_expr t.program (expr_at t key) env) (M.with_value (M.get_member_of x))) (M.give w) h h h base.turns
      (gives_then (M.comp_expr t.program (expr_at t key) env) k (M.get_member_of v) (M.give w) h h h by.turns (member_turns v k h w gives)))
      (λ n. refl)

-- a name that is given to it changes nothing
pub named_turns : (t : View) (place env : ℕ) (h : Heap) (v : Value) (name : List ℕ) → HasValue t place env h v →
    Turns (M.named name (expr_at t place) env (M.comp_expr t.program (expr_at t place) env)) h (M.give v) h
named_turns t place env h v name has = subst (λ (o : Option Comp). Turns (elim o [ None ↦ M.comp_expr t.program (expr_at t place) env | Some c ↦ c ]) h (M.give v) h)
    (sym (has.unnamed name)) has.turns

-- what stopped passes by what waits
pub done_again : (d : Done) (v : Value) (k : Value → Comp) → handle (handle (done_comp d) (M.with_value (λ _. M.give v))) (M.with_value k) ≡ handle (done_comp d) (M.with_value (λ _. k v))
done_again (done.Gives w) v k = refl
done_again (done.Throws c) v k = refl
done_again (done.Refuses r) v k = refl

-- a computation of which something came, and what follows it
pub done_then : (c : Comp) (d : Done) (k : Value → Comp) (g h : Heap) → Turns c g (done_comp d) h → Turns (handle c (M.with_value k)) g (handle (done_comp d) (M.with_value k)) h
done_then c d k g h turns = record {
  same = λ base. becomes_under (M.with_value k) c (done_comp d) (with_heap base g) (with_heap base h) (turns.same base);
}

-- the first of a list of statements
pub first_turns : (p : Sources) (x : P.Stmt) (xs : P.Stmts) (env : ℕ) (d : Done) (g h : Heap) →
    Turns (M.comp_stmt p x [] env) g (handle (done_comp d) (M.with_value (λ _. M.done))) h →
    Turns (M.comp_stmts p (P.more_stmt x xs) env) g (handle (done_comp d) (M.with_value (λ _. M.comp_stmts p xs env))) h
first_turns p x P.no_stmt env d g h turns = turns
first_turns p x (P.more_stmt y ys) env d g h turns =
    let k : Value → Comp = λ _. M.comp_stmts p (P.more_stmt y ys) env in
    subst (λ e. Turns (handle (M.comp_stmt p x [] env) (M.with_value k)) g e h) (done_again d undefined k) (record {
      same = λ base. becomes_under (M.with_value k) (M.comp_stmt p x [] env) (handle (done_comp d) (M.with_value (λ _. M.done))) (with_heap base g) (with_heap base h) (turns.same base);
    })
