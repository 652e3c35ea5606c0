-- The names of a counted file's own environment: those of the source, and that of its function.
use Rattle.std.proofs.Common.{◌≡◌, ◌≢◌, ℕ, suc, Bool, true, false, ◌||◌, List, [], ◌∷◌, ◌++◌, map, Some, None, refl, sym, ap, ◌∙◌, subst, if◌then◌else◌}
use Rattle.std.specs.Str.{bytes_eq}
use Rattle.js_value.specs.State.{Binding}
use Rattle.js_value.specs.Realm.{undefined}
use Rattle.js_meaning.specs.Scopes.{stands_in, once, variable_of}
use Rattle.js_two_runs.specs.TwoRuns.{both, plain}
use Rattle.js_suits.specs.Settings.{Within, World, Setting}
use Rattle.js_lockstep.specs.Worlds.{AlikeBindings, AlikeNames, own_name, names_before, held}
use Rattle.js_lockstep.proofs.Names.{differs}
use Rattle.js_lockstep.proofs.Scopes.{FreeNames, names_joined, undefined_names, once_free_names}

module _ (c : Setting) (file : ℕ) where
  abbrev name : List ℕ
  name = c.name file

  pub record OwnNames (w : World) (xs ys : List Binding) : Type 0 where
    pub n : ℕ
    pub alike : AlikeNames c.name w (Within file) (Some n) xs ys

  pub one_before : {w : World} {x y : Binding} {xs ys : List Binding} → AlikeBindings c.name w (Within file) x y → OwnNames w xs ys → OwnNames w (x ∷ xs) (y ∷ ys)
  one_before r o = record { n = suc o.n; alike = names_before r o.alike }

  -- one name more before makes no difference to others
  once_apart : (xs before others : List (List ℕ)) → FreeNames c (Within file) xs → ((y : List ℕ) → y ≢ name → stands_in y others ≡ stands_in y before) → once others xs ≡ once before xs
  once_apart [] before others f same = refl
  once_apart (x ∷ xs) before others f same =
      ap (λ b. if b then once others xs else x ∷ once (x ∷ others) xs) (same x (f.0).other)
      ∙ by (stands_in x before) (once_apart xs before others f.1 same) (once_apart xs (x ∷ before) (x ∷ others) f.1 (λ y ne. ap (λ b. bytes_eq y x || b) (same y ne)))
    where
      by : (b : Bool) → once others xs ≡ once before xs → once (x ∷ others) xs ≡ once (x ∷ before) xs → (if b then once others xs else x ∷ once (x ∷ others) xs) ≡ (if b then once before xs else x ∷ once (x ∷ before) xs)
      by true g h = g
      by false g h = ap (λ ys. x ∷ ys) h

  own_first : (w : World) (xs before : List (List ℕ)) (lexical : List Binding) → FreeNames c (Within file) xs → stands_in name before ≡ false → AlikeNames c.name w (Within file) None lexical lexical →
      OwnNames w (map (variable_of undefined) (once before xs) ++ lexical) (map (variable_of undefined) (once before (name ∷ xs)) ++ lexical)
  own_first w xs before lexical f out l =
      subst (λ b. OwnNames w (map (variable_of undefined) (once before xs) ++ lexical) (map (variable_of undefined) (if b then once before xs else name ∷ once (name ∷ before) xs) ++ lexical)) (sym out)
      (subst (λ ys. OwnNames w (map (variable_of undefined) (once before xs) ++ lexical) (variable_of undefined name ∷ (map (variable_of undefined) ys ++ lexical)))
      (sym (once_apart xs before (name ∷ before) f (λ y ne. ap (λ b. b || stands_in y before) (differs y name ne))))
      (record { n = 0; alike = own_name refl (names_joined c (Within file) w _ _ _ _ (undefined_names c (Within file) w (once before xs) (once_free_names c (Within file) before xs f)) l) }))

  pub own_once : (w : World) (as1 xs before : List (List ℕ)) (lexical : List Binding) → FreeNames c (Within file) as1 → FreeNames c (Within file) xs → stands_in name before ≡ false →
      AlikeNames c.name w (Within file) None lexical lexical →
      OwnNames w (map (variable_of undefined) (once before (as1 ++ xs)) ++ lexical) (map (variable_of undefined) (once before (as1 ++ name ∷ xs)) ++ lexical)
  own_once w [] xs before lexical g f out l = own_first w xs before lexical f out l
  own_once w (a ∷ as1) xs before lexical g f out l =
      by (stands_in a before) (own_once w as1 xs before lexical g.1 f out l)
      (own_once w as1 xs (a ∷ before) lexical g.1 f (ap (λ b. b || stands_in name before) (differs name a (λ e. (g.0).other (sym e))) ∙ out) l)
    where
      by : (b : Bool) → OwnNames w (map (variable_of undefined) (once before (as1 ++ xs)) ++ lexical) (map (variable_of undefined) (once before (as1 ++ name ∷ xs)) ++ lexical) →
          OwnNames w (map (variable_of undefined) (once (a ∷ before) (as1 ++ xs)) ++ lexical) (map (variable_of undefined) (once (a ∷ before) (as1 ++ name ∷ xs)) ++ lexical) →
          OwnNames w (map (variable_of undefined) (if b then once before (as1 ++ xs) else a ∷ once (a ∷ before) (as1 ++ xs)) ++ lexical)
          (map (variable_of undefined) (if b then once before (as1 ++ name ∷ xs) else a ∷ once (a ∷ before) (as1 ++ name ∷ xs)) ++ lexical)
      by true u v = u
      by false u v = one_before (record { names = refl; other = (g.0).other; contents = held (both _ _ (plain _)); constants = refl }) v
