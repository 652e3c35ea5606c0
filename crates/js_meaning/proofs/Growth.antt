-- What is printed and entered stays: each form puts more after it.
use Rattle.std.proofs.Common.{◌≡◌, ℕ, zero, suc, ◌+◌, List, [], ◌∷◌, ◌++◌, refl, sym, ap, subst, ◌∙◌, arith}
use Rattle.js_value.specs.State.{Store}
use Rattle.js_meaning.specs.declared.outcome.Completion.{Completion}
use Rattle.js_meaning.specs.Effects.{Entry, Comp, ret, refuse, act, enter, handle, exec}
use Rattle.js_meaning.specs.Laws.{Continues, Extends}

append-nothing : {X : Type 0} (xs : List X) → xs ++ [] ≡ xs
append-nothing [] = refl
append-nothing (x ∷ xs) = ap (λ ys. x ∷ ys) (append-nothing xs)

append-again : {X : Type 0} (xs ys zs : List X) → (xs ++ ys) ++ zs ≡ xs ++ (ys ++ zs)
append-again [] ys zs = refl
append-again (x ∷ xs) ys zs = ap (λ ws. x ∷ ws) (append-again xs ys zs)

pub same_list : {X : Type 0} (xs : List X) → Continues xs xs
same_list xs = record { more = []; rest = sym (append-nothing xs) }

pub longer : {X : Type 0} (xs ys : List X) → Continues xs (xs ++ ys)
longer xs ys = record { more = ys; rest = refl }

then_longer : {X : Type 0} (xs ys zs : List X) → Continues xs ys → Continues ys zs → Continues xs zs
then_longer xs ys zs a b = record {
  more = a.more ++ b.more;
  rest = b.rest ∙ ap (λ ws. ws ++ b.more) a.rest ∙ append-again xs a.more b.more;
}

pub same_store : (s : Store) → Extends s s
same_store s = record { output = same_list s.output; log = same_list s.log }

pub then_extends : (s t u : Store) → Extends s t → Extends t u → Extends s u
then_extends s t u a b = record {
  output = then_longer s.output t.output u.output a.output b.output;
  log = then_longer s.log t.log u.log a.log b.log;
}

-- each change of a computation keeps what was printed and entered
abbrev pub Grows : Comp → Type 0
Grows (ret c) = Unit {0}
Grows (refuse k) = Unit {0}
Grows (act f j) = (s : Store) → (Extends s (f s)) × (Grows (j s))
Grows (enter e next) = (c : Completion) → Grows (next c)

pub grows_handle : (c : Comp) (next : Completion → Comp) → Grows c → ((d : Completion) → Grows (next d)) → Grows (handle c next)
grows_handle (ret c) next here after = after c
grows_handle (refuse k) next here after = tt
grows_handle (act f j) next here after = λ s. ((here s).0, grows_handle (j s) next (here s).1 after)
grows_handle (enter e j) next here after = λ c. grows_handle (j c) next (here c) after

module _ (inside : Entry → Comp) (grown : (e : Entry) → Grows (inside e)) where
  -- a run only adds
  abbrev pub Adds : ℕ → Type 0
  Adds n = (c : Comp) (s : Store) → Grows c → Extends s (exec inside n c s).store

  adds_none : Adds 0
  adds_none (ret c) s g = same_store s
  adds_none (refuse k) s g = same_store s
  adds_none (act f j) s g = then_extends s (f s) _ (g s).0 (adds_none (j s) (f s) (g s).1)
  adds_none (enter e next) s g = same_store s

  adds_one : (n : ℕ) → Adds n → Adds (suc n)
  adds_one n h (ret c) s g = same_store s
  adds_one n h (refuse k) s g = same_store s
  adds_one n h (act f j) s g = then_extends s (f s) _ (g s).0 (adds_one n h (j s) (f s) (g s).1)
  adds_one n h (enter e next) s g = h (handle (inside e) next) s (grows_handle (inside e) next (grown e) g)

  pub adds : (n : ℕ) → Adds n
  adds zero = adds_none
  adds (suc n) = adds_one n (adds n)

  -- with more steps a run adds to what it left with fewer
  abbrev AddsMore : ℕ → ℕ → Type 0
  AddsMore n m = (c : Comp) (s : Store) → Grows c → Extends (exec inside n c s).store (exec inside m c s).store

  more_zero : (m : ℕ) → AddsMore 0 m
  more_zero zero c s g = same_store (exec inside 0 c s).store
  more_zero (suc m) (ret c) s g = same_store s
  more_zero (suc m) (refuse k) s g = same_store s
  more_zero (suc m) (act f j) s g = more_zero (suc m) (j s) (f s) (g s).1
  more_zero (suc m) (enter e next) s g = adds (suc m) (enter e next) s g

  more_suc : (n m : ℕ) → AddsMore n (n + m) → AddsMore (suc n) (suc (n + m))
  more_suc n m h (ret c) s g = same_store s
  more_suc n m h (refuse k) s g = same_store s
  more_suc n m h (act f j) s g = more_suc n m h (j s) (f s) (g s).1
  more_suc n m h (enter e next) s g = h (handle (inside e) next) s (grows_handle (inside e) next (grown e) g)

  pub adds_more : (n m : ℕ) → AddsMore n (n + m)
  adds_more zero m c s g =
      let e : m ≡ 0 + m = omega arith in
      subst (λ k. Extends (exec inside 0 c s).store (exec inside k c s).store) e (more_zero m c s g)
  adds_more (suc n) m c s g =
      let e : suc (n + m) ≡ suc n + m = omega arith in
      subst (λ k. Extends (exec inside (suc n) c s).store (exec inside k c s).store) e (more_suc n m (adds_more n m) c s g)
