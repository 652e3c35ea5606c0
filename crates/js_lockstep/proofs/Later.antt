-- What holds in a world holds in later ones.
use Rattle.std.proofs.Common.{ℕ, List, Option, sym, ◌∙◌, subst}
use Rattle.std.specs.List.{AllZip}
use Rattle.std.specs.Prelude.{[], ◌∷◌}
use Rattle.js_value.specs.declared.value.Value.{Value}
use Rattle.js_value.specs.State.{Binding, Environment, Cached, Requiring}
use Rattle.js_meaning.specs.declared.outcome.Completion.{Completion}
use Rattle.js_two_runs.specs.Pairs.{Paired}
use Rattle.js_two_runs.specs.TwoRuns.{InBoth, neither, both, Related, AllRelated}
use Rattle.js_two_runs.proofs.TwoHeapsLater.{value-later, values-later}
use Rattle.js_suits.specs.Settings.{Home, World, Setting}
use Rattle.js_lockstep.specs.Worlds.{Later, Around, AlikeContents, held, global_this, AlikeBindings, AlikeNames, no_names, more_names, own_name, names_before, AlikeOuter, no_outer, outers, outer_home, AlikeEnvironments, AlikeFunctions, AlikeCached, AlikeRequiring, AlikeCompletions, normals, breaks, continues, returns, throws}

pub value_later : {w v : World} {a b : Value} → Later w v → Related (Paired w.objects) a b → Related (Paired v.objects) a b
value_later {w} {v} g r = value-later (Paired w.objects) (Paired v.objects) g.objects _ _ r

pub values_later : {w v : World} {xs ys : List Value} → Later w v → AllRelated (Paired w.objects) xs ys → AllRelated (Paired v.objects) xs ys
values_later {w} {v} g r = values-later (Paired w.objects) (Paired v.objects) g.objects _ _ r

pub around_later : {w v : World} {h : Home} {e f : ℕ} → Later w v → Around w h e f → Around v h e f
around_later {e = e} {f = f} g r = record { pair = g.environments e f r.pair; home = g.home e f r.pair ∙ r.home }

pub functions_later : {c : Setting} {w v : World} (m e n f : ℕ) → Later w v → AlikeFunctions c w m e n f → AlikeFunctions c v m e n f
functions_later m e n f g r = record { home = r.home; codes = r.codes; environments = around_later g r.environments }

pub held_later : {w v : World} {a b : Option Value} → Later w v → InBoth (Related (Paired w.objects)) a b → InBoth (Related (Paired v.objects)) a b
held_later g neither = neither
held_later g (both a b r) = both a b (value_later g r)

pub contents_later : {w v : World} {x : List ℕ} {a b : Option Value} → Later w v → AlikeContents w x a b → AlikeContents v x a b
contents_later g (held r) = held (held_later g r)
contents_later g (global_this e) = global_this e

pub binding_later : {name : ℕ → List ℕ} {w v : World} {h : Home} {x y : Binding} → Later w v → AlikeBindings name w h x y → AlikeBindings name v h x y
binding_later g r = record { names = r.names; other = r.other; contents = contents_later g r.contents; constants = r.constants }

pub names_later : {name : ℕ → List ℕ} {w v : World} {h : Home} {o : Option ℕ} {xs ys : List Binding} → Later w v → AlikeNames name w h o xs ys → AlikeNames name v h o xs ys
names_later g no_names = no_names
names_later g (more_names r t) = more_names (binding_later g r) (names_later g t)
names_later g (own_name n t) = own_name n (names_later g t)
names_later g (names_before r t) = names_before (binding_later g r) (names_later g t)

pub outer_later : {w v : World} {h : Home} {e f : ℕ} {a b : Option ℕ} → Later w v → AlikeOuter w h e f a b → AlikeOuter v h e f a b
outer_later g (no_outer e) = no_outer e
outer_later g (outers c d h' l m z r) = outers c d h' l m z (around_later g r)

pub environment_later : {name : ℕ → List ℕ} {w v : World} → Later w v → (e f : ℕ) → Paired w.environments e f → (x y : Environment) →
    AlikeEnvironments name w e f x y → AlikeEnvironments name v e f x y
environment_later {name} {w} {v} g e f i x y r = record {
  outer = subst (λ o. AlikeOuter v (outer_home o (v.home f)) e f x.outer y.outer) (sym (g.own e f i))
      (subst (λ h. AlikeOuter v (outer_home (w.own f) h) e f x.outer y.outer) (sym (g.home e f i)) (outer_later g r.outer));
  names = subst (λ o. AlikeNames name v (v.home f) o x.bindings y.bindings) (sym (g.own e f i))
      (subst (λ h. AlikeNames name v h (w.own f) x.bindings y.bindings) (sym (g.home e f i)) (names_later g r.names));
}

pub cache_later : {w v : World} → Later w v → (xs ys : List Cached) → AllZip (AlikeCached w) xs ys → AllZip (AlikeCached v) xs ys
cache_later g [] [] rs = tt
cache_later g [] (y ∷ ys) rs = absurd rs
cache_later g (x ∷ xs) [] rs = absurd rs
cache_later g (x ∷ xs) (y ∷ ys) rs = (record { path = (rs.0).path; object = g.objects _ _ (rs.0).object }, cache_later g xs ys rs.1)

pub requiring_later : {w v : World} → Later w v → (xs ys : List Requiring) → AllZip (AlikeRequiring w) xs ys → AllZip (AlikeRequiring v) xs ys
requiring_later g [] [] rs = tt
requiring_later g [] (y ∷ ys) rs = absurd rs
requiring_later g (x ∷ xs) [] rs = absurd rs
requiring_later g (x ∷ xs) (y ∷ ys) rs = (record { path = (rs.0).path; function = g.objects _ _ (rs.0).function }, requiring_later g xs ys rs.1)

pub completion_later : {w v : World} {x y : Completion} → Later w v → AlikeCompletions w x y → AlikeCompletions v x y
completion_later g (normals r) = normals (value_later g r)
completion_later g (breaks label) = breaks label
completion_later g (continues label) = continues label
completion_later g (returns r) = returns (value_later g r)
completion_later g (throws r) = throws (value_later g r)
