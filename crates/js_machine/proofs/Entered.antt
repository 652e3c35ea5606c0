-- Scopes as they are entered.
use Rattle.std.proofs.Common.{◌≡◌, ℕ, Bool, true, false, List, [], ◌∷◌, ◌++◌, map, refl, sym, subst, ap, ◌∙◌}
use Rattle.js_tree.specs.Plain as P
use Rattle.js_value.specs.State.{Binding, Heap as Heaps}
use Rattle.js_value.specs.Environments.{next_environment, copy_environment, declare, declare_all}
use Rattle.js_heap.specs.declared.heap.Heap.{Heap}
use Rattle.js_heap.specs.declared.environment.Binding.{Binding as HeapBinding}
use Rattle.js_heap.specs.Environment.{plain_binding}
use Rattle.js_heap.specs.Heap.{heap_of}
use Rattle.js_code.specs.declared.scopes.BodyScope.{BodyScope}
use Rattle.js_code.specs.Scopes.{body_names, code_names}
use Rattle.js_meaning.specs.Effects.{Comp, handle, exec}
use Rattle.js_meaning.specs.Scopes as S
use Rattle.js_meaning.specs.Scopes.{Hoisted, Scope, block_made, body_scope, has_defaults, init_scope, is_fresh, lexical_scope, param_names, target_scope}
use Rattle.js_meaning.specs.Meaning as M
use Rattle.js_meaning.specs.Files.{in_body}
use Rattle.js_machine.specs.declared.parts.Scoped.{Scoped}
use Rattle.js_machine.specs.declared.parts.Scoped.TheVariants as scoped
use Rattle.js_machine.specs.private.Config.{View, scope_of}
use Rattle.js_machine.specs.private.Scopes.{Enters, EntersBody, EntersBodyWhere}
use Rattle.js_machine.specs.private.State.{with_heap, Turns}
use Rattle.js_machine.proofs.Acts.{acts}

-- where there is something to declare, an environment is made
pub enters : (names : List Binding) (functions : List Hoisted) (env : ℕ) (old : Heaps) (inner : ℕ) (new : Heaps) → (names ≡ [] → ⊥) →
    inner ≡ next_environment old → new ≡ block_made names functions env old → Enters names functions env old inner new
enters [] functions env old inner new some at made = absurd (some refl)
enters (b ∷ bs) functions env old inner new some at made = (at, made)

-- the same of names alone, some or none
pub enters_none : (names : List Binding) (env : ℕ) (h : Heaps) → names ≡ [] → Enters names [] env h env h
enters_none names env h none = subst (λ xs. Enters xs [] env h env h) (sym none) (refl, refl)

pub some_names : (names : List HeapBinding) → (names ≡ [] → ⊥) → map plain_binding names ≡ [] → ⊥
some_names [] some none = some refl
some_names (x ∷ xs) some none = cc

-- nothing has changed but the name of the environment
stays : (next : ℕ → Comp) (env inner : ℕ) (old new : Heap) → inner ≡ env → heap_of new ≡ heap_of old → Turns (next env) old (next inner) new
stays next env inner old new at same = record {
  same = λ base. record {
    same = λ inside n after.
        ap (λ i. exec inside n (handle (next i) after) (with_heap base old)) (sym at)
        ∙ ap (λ (h : Heaps). exec inside n (handle (next inner) after) (record base { heap = h })) (sym same);
  };
}

-- what is done in a scope is done in the environment that was entered
pub enters_names : (names : List Binding) (functions : List Hoisted) (env inner : ℕ) (old new : Heap) (next : ℕ → Comp) →
    Enters names functions env (heap_of old) inner (heap_of new) → Turns (M.in_names names functions env next) old (next inner) new
enters_names [] functions env inner old new next e = stays next env inner old new e.0 e.1
enters_names (b ∷ bs) functions env inner old new next e =
    acts old new (block_made (b ∷ bs) functions env) (λ h. next (next_environment h)) (next inner) e.1 (ap next e.0)

-- an environment is made
pub enters_within : (change : Heaps → Heaps) (inner : ℕ) (old new : Heap) (next : ℕ → Comp) →
    heap_of new ≡ change (heap_of old) → inner ≡ next_environment (heap_of old) → Turns (M.within change next) old (next inner) new
enters_within change inner old new next made at = acts old new change (λ h. next (next_environment h)) (next inner) made (ap next at)

-- the scopes of loops have names alone
init_lexical : (x : P.ForInit) → init_scope x ≡ lexical_scope (init_scope x).lexical
init_lexical P.NoInit = refl
init_lexical (P.InitDeclaration kind declarators) = refl
init_lexical (P.InitExpression e) = refl

target_lexical : (x : P.ForTarget) → target_scope x ≡ lexical_scope (target_scope x).lexical
target_lexical (P.TargetDeclaration kind pattern) = refl
target_lexical (P.TargetExpression e) = refl

loop_scope : (t : View) (next : Scoped) → scope_of t next ≡ lexical_scope (scope_of t next).lexical
loop_scope t (scoped.For init test statement labels) = init_lexical _
loop_scope t (scoped.Subject keys e round) = target_lexical _
loop_scope t (scoped.Target kind name v round rest) = refl
loop_scope t (scoped.Turn test statement labels) = refl
loop_scope t (scoped.Update update test statement labels) = refl
loop_scope t (scoped.Switch cases v) = refl
loop_scope t (scoped.Block block) = refl
loop_scope t (scoped.OwnName name function) = refl

pub enters_loop : (t : View) (next : Scoped) (env inner : ℕ) (old new : Heap) (go : ℕ → Comp) →
    Enters (scope_of t next).lexical [] env (heap_of old) inner (heap_of new) → Turns (M.in_scope (scope_of t next) env go) old (go inner) new
enters_loop t next env inner old new go e =
    subst (λ (s : Scope). Turns (M.in_scope s env go) old (go inner) new) (sym (loop_scope t next))
    (enters_names (scope_of t next).lexical [] env inner old new go e)

-- names are made anew, or not
pub makes_anew : (x : P.ForInit) (env inner : ℕ) (old new : Heap) (next : ℕ → Comp) → is_fresh x ≡ true →
    heap_of new ≡ copy_environment env (heap_of old) → inner ≡ next_environment (heap_of old) → Turns (M.anew x env next) old (next inner) new
makes_anew x env inner old new next fresh made at = rw fresh (enters_within (copy_environment env) inner old new next made at)

pub not_anew : (x : P.ForInit) (env : ℕ) (next : ℕ → Comp) → is_fresh x ≡ false → next env ≡ M.anew x env next
not_anew x env next fresh = rw fresh refl

-- the names of a body
body_where : (b : Bool) (params : P.Params) (xs : P.Stmts) (env inner : ℕ) (old new : Heap) (next : ℕ → Comp) → has_defaults params ≡ b →
    EntersBodyWhere b (body_names b (param_names params) xs) env (heap_of old) inner (heap_of new) → Turns (in_body params (body_scope xs) env next) old (next inner) new
body_where true params xs env inner old new next is e =
    rw is (enters_within (S.apart_made (param_names params) (body_scope xs) env) inner old new next e.1 e.0)
body_where false params xs env inner old new next is e =
    rw is (acts old new (S.body_made (param_names params) (body_scope xs) env) (λ h. next env) (next inner) e.1 (ap next e.0))

pub enters_body : (scope : BodyScope) (params : P.Params) (xs : P.Stmts) (env inner : ℕ) (old new : Heap) (next : ℕ → Comp) → scope ≡ code_names params xs →
    EntersBody scope env (heap_of old) inner (heap_of new) → Turns (in_body params (body_scope xs) env next) old (next inner) new
enters_body scope params xs env inner old new next is e =
    body_where (has_defaults params) params xs env inner old new next refl
    (subst (λ (s : BodyScope). EntersBodyWhere s.apart s env (heap_of old) inner (heap_of new)) is e)

-- names are declared after others
pub declared_both : (e : ℕ) (xs ys : List Binding) (h : Heaps) → declare_all e ys (declare_all e xs h) ≡ declare_all e (xs ++ ys) h
declared_both e [] ys h = refl
declared_both e (x ∷ xs) ys h = declared_both e xs ys (declare e x h)
