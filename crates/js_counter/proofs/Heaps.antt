-- Environments that are made, and what is read in them.
use Rattle.std.proofs.Common.{◌≡◌, ℕ, ◌<◌, List, [], ◌∷◌, ◌++◌, Some, None, refl, sym, ap, ◌∙◌, append_assoc}
use Rattle.std.specs.Prelude.{slice_set as set'}
use Rattle.std.proofs.lemmas.List.{get_or_append_left}
use Rattle.std.proofs.Math.Seq.{get_or-append_seam, set-append_seam}
use Rattle.js_value.specs.State.{Binding, Environment, Heap}
use Rattle.js_value.specs.Environments.{no_environment, environment_at, next_environment, place_of, resolved, lookup, declare, declare_all}
use Rattle.js_meaning.specs.Scopes.{scope_made}

-- one more environment
abbrev pub pushed : Environment → Heap → Heap
pushed x h = record h { environments = h.environments ++ x ∷ [] }

abbrev pub env_of : ℕ → List Binding → Environment
env_of outer bindings = record { outer = Some outer; bindings = bindings }

pub append_nothing : {X : Type 0} (xs : List X) → xs ++ [] ≡ xs
append_nothing [] = refl
append_nothing (x ∷ xs) = ap (λ ys. x ∷ ys) (append_nothing xs)

pub at_top : (x : Environment) (h : Heap) → environment_at (pushed x h) (next_environment h) ≡ x
at_top x h = get_or-append_seam h.environments x [] no_environment

pub below_top : (x : Environment) (h : Heap) (e : ℕ) → e < next_environment h → environment_at (pushed x h) e ≡ environment_at h e
below_top x h e low = get_or_append_left h.environments (x ∷ []) no_environment e low

-- the top environment is another
pub with_top : (x y : Environment) (h : Heap) →
    record (pushed x h) { environments = set' (h.environments ++ x ∷ []) (next_environment h) y } ≡ pushed y h
with_top x y h = ap (λ es. record h { environments = es }) (set-append_seam h.environments x [] y)

declared_on : (outer : ℕ) (b : Binding) (bs : List Binding) (h : Heap) →
    declare (next_environment h) b (pushed (env_of outer bs) h) ≡ pushed (env_of outer (bs ++ b ∷ [])) h
declared_on outer b bs h =
    ap (λ (x : Environment). record h { environments = set' (h.environments ++ env_of outer bs ∷ []) (next_environment h) (record { outer = x.outer; bindings = x.bindings ++ b ∷ [] }) }) (at_top (env_of outer bs) h)
    ∙ with_top (env_of outer bs) (env_of outer (bs ++ b ∷ [])) h

pub all_declared : (outer : ℕ) (bs cs : List Binding) (h : Heap) →
    declare_all (next_environment h) cs (pushed (env_of outer bs) h) ≡ pushed (env_of outer (bs ++ cs)) h
all_declared outer bs [] h = ap (λ l. pushed (env_of outer l) h) (sym (append_nothing bs))
all_declared outer bs (c ∷ cs) h =
    ap (declare_all (next_environment h) cs) (declared_on outer c bs h)
    ∙ all_declared outer (bs ++ c ∷ []) cs h
    ∙ ap (λ l. pushed (env_of outer l) h) (append_assoc bs (c ∷ []) cs)

pub scope_is : (names : List Binding) (env : ℕ) (h : Heap) → scope_made names env h ≡ pushed (env_of env names) h
scope_is names env h = all_declared env [] names h

-- Names in them

pub looked_up : (h : Heap) (e : ℕ) (name : List ℕ) (x : Environment) (i : ℕ) → environment_at h e ≡ x → place_of x name ≡ Some i →
    lookup h e name ≡ Some (record { environment = e; place = i })
looked_up h e name x i here at =
    ap (λ (y : Environment). elim (place_of y name) [ Some at ↦ Some (record { environment = e; place = at }) | None ↦ resolved e h.environments y.outer name ]) here
    ∙ ap (λ o. elim o [ Some at ↦ Some (record { environment = e; place = at }) | None ↦ resolved e h.environments x.outer name ]) at

pub looked_out : (h : Heap) (e : ℕ) (name : List ℕ) (x : Environment) → environment_at h e ≡ x → place_of x name ≡ None →
    lookup h e name ≡ resolved e h.environments x.outer name
looked_out h e name x here at =
    ap (λ (y : Environment). elim (place_of y name) [ Some at ↦ Some (record { environment = e; place = at }) | None ↦ resolved e h.environments y.outer name ]) here
    ∙ ap (λ o. elim o [ Some at ↦ Some (record { environment = e; place = at }) | None ↦ resolved e h.environments x.outer name ]) at
