-- An environment that is made, and its names one after another.
use Rattle.std.proofs.Common.{◌≡◌, ℕ, List, [], ◌∷◌, ◌++◌, length, set, Option, refl, sym, ap, ◌∙◌}
use Rattle.std.proofs.lemmas.List.{append_assoc, append-nil, get_or_push}
use Rattle.std.proofs.Math.Seq.{set-append_seam}
use Rattle.js_value.specs.State.{Binding, Environment, Heap}
use Rattle.js_value.specs.Environments.{no_environment, environment_at, declare_all}

-- Environments

abbrev pub environment : Option ℕ → List Binding → Environment
environment o bs = record { outer = o; bindings = bs }

abbrev pub push_environment : Environment → Heap → Heap
push_environment x h = record h { environments = h.environments ++ x ∷ [] }

-- names that are declared one after another in the newest environment
pub declared : (o : Option ℕ) (cs bs : List Binding) (h : Heap) → declare_all (length h.environments) cs (push_environment (environment o bs) h) ≡ push_environment (environment o (bs ++ cs)) h
declared o [] bs h = ap (λ xs. push_environment (environment o xs) h) (sym (append-nil bs))
declared o (b ∷ cs) bs h =
    let x = get_or_push h.environments (environment o bs) no_environment (length h.environments) refl in
    let y : set (h.environments ++ environment o bs ∷ []) (length h.environments) (environment (environment_at (push_environment (environment o bs) h) (length h.environments)).outer ((environment_at (push_environment (environment o bs) h) (length h.environments)).bindings ++ b ∷ [])) ≡ h.environments ++ environment o (bs ++ b ∷ []) ∷ [] =
    set-append_seam h.environments (environment o bs) [] _ ∙ ap (λ (z : Environment). h.environments ++ environment z.outer (z.bindings ++ b ∷ []) ∷ []) x
    in
    ap (λ es. declare_all (length h.environments) cs (record h { environments = es })) y
    ∙ declared o cs (bs ++ b ∷ []) h
    ∙ ap (λ xs. push_environment (environment o xs) h) (append_assoc bs (b ∷ []) cs)
