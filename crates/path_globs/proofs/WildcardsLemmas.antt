-- What is found first after a run serves as well as anything later.
use Rattle.std.proofs.Common.{◌≡◌, ℕ, suc, cond, ◌+◌, ◌<◌, ◌≤◌, Bool, true, false, List, [], ◌∷◌, ◌++◌, length, Option, Some, None, refl, sym, ap, subst, ◌∙◌, arith, append_assoc, true≢false}
use Rattle.std.specs.Prelude.{◌||◌, ◌&&◌, if◌then◌else◌}
use Rattle.std.specs.Prelude.{◌==◌, not}
use Rattle.std.specs.List.{position_or_len, before_first, after_first, onto_first}
use Rattle.std.proofs.lemmas.List.Splits.{slice_split_first}
use Rattle.path_globs.specs.NormalForm.{components}
use Rattle.path_globs.specs.Wildcards.{stand_for, from_some, from_first}
use Rattle.path_globs.specs.private.Search.{AtRun, AtOne, Past, here, on, BeforeRun}

or_right : (a b : Bool) → b ≡ true → (a || b) ≡ true
or_right true b h = refl
or_right false b h = h

or_left : (a b : Bool) → a ≡ true → (a || b) ≡ true
or_left true b h = refl
or_left false b h = absurd (true≢false (sym h))

and_left : (a b : Bool) → (a && b) ≡ true → a ≡ true
and_left true b h = refl
and_left false b h = h

and_right : (a b : Bool) → (a && b) ≡ true → b ≡ true
and_right true b h = h
and_right false b h = absurd (true≢false (sym h))

same_truth : (a b : Bool) → (a ≡ true → b ≡ true) → (b ≡ true → a ≡ true) → a ≡ b
same_truth true b f g = sym (f refl)
same_truth false true f g = g refl
same_truth false false f g = refl

some_here : {A : Type 0} (h : List A → Bool) (xs : List A) → h xs ≡ true → from_some h xs ≡ true
some_here h [] holds = holds
some_here h (x ∷ xs) holds = or_left _ _ holds

some_later : {A : Type 0} (h : List A → Bool) (ws zs : List A) → from_some h zs ≡ true → from_some h (ws ++ zs) ≡ true
some_later h [] zs holds = holds
some_later h (w ∷ ws) zs holds = or_right _ _ (some_later h ws zs holds)

pub some_fails : {A : Type 0} (h : List A → Bool) (x : A) (xs : List A) → h (x ∷ xs) ≡ false → from_some h (x ∷ xs) ≡ from_some h xs
some_fails h x xs off = ap (λ b. b || from_some h xs) off

abbrev after_first_item : {A : Type 0} → List A → List A
after_first_item [] = []
after_first_item (x ∷ xs) = xs

by_test : {W : Type 0} (b : Bool) → (b ≡ true → W) → (b ≡ false → W) → W
by_test true holds fails = holds refl
by_test false holds fails = fails refl

module _ {P A : Type 0} (is_run : P → Bool) (stands_for : P → A → Bool) where
  abbrev stands : List P → List A → Bool
  stands = stand_for is_run stands_for

  at_run : (p : P) (ps : List P) (xs : List A) → is_run p ≡ true → stands (p ∷ ps) xs ≡ from_some (stands ps) xs
  at_run p ps xs r = ap (λ b. if b then from_some (stands ps) xs else from_first (stands_for p) (stands ps) xs) r

  at_one : (p : P) (ps : List P) (xs : List A) → is_run p ≡ false → stands (p ∷ ps) xs ≡ from_first (stands_for p) (stands ps) xs
  at_one p ps xs r = ap (λ b. if b then from_some (stands ps) xs else from_first (stands_for p) (stands ps) xs) r

  pub one_on : (p : P) (x : A) (ps : List P) (xs : List A) → is_run p ≡ false → stands_for p x ≡ true → stands (p ∷ ps) (x ∷ xs) ≡ stands ps xs
  one_on p x ps xs r s = at_one p ps (x ∷ xs) r ∙ ap (λ b. b && stands ps xs) s

  pub past_stands : (qs : List P) (ys : List A) (ps : List P) (xs : List A) → Past is_run stands_for qs ys ps xs → stands ps xs ≡ stands qs ys
  past_stands qs ys ps xs here = refl
  past_stands qs ys _ _ (on p x ps xs r s past) = one_on p x ps xs r s ∙ past_stands qs ys ps xs past

  pub past_on : (p : P) (x : A) (qs : List P) (ys : List A) → is_run p ≡ false → stands_for p x ≡ true → (ps : List P) (xs : List A) →
      Past is_run stands_for (p ∷ qs) (x ∷ ys) ps xs → Past is_run stands_for qs ys ps xs
  past_on p x qs ys r s _ _ here = on p x qs ys r s here
  past_on p x qs ys r s _ _ (on o z ps xs a b past) = on o z ps xs a b (past_on p x qs ys r s ps xs past)

  pub past_shorter : (qs : List P) (ys : List A) (ps : List P) (xs : List A) → Past is_run stands_for qs ys ps xs → (length qs ≤ length ps) × (length ys ≤ length xs)
  past_shorter qs ys _ _ here = (omega arith, omega arith)
  past_shorter qs ys _ _ (on p x ps xs a b past) = let l = past_shorter qs ys ps xs past in let m = l.0 in let n = l.1 in (omega (arith, m), omega (arith, n))

  -- the pieces up to a run stand for the front of some end of the items: what the run begins there, it begins where they stood first
  module _ (p : P) (qs : List P) (ys : List A) (r : is_run p ≡ true) where
    begins : (ps : List P) (xs : List A) → Past is_run stands_for (p ∷ qs) ys ps xs → (ws zs : List A) → xs ≡ ws ++ zs → stands ps zs ≡ true → from_some (stands qs) ys ≡ true
    begins _ _ here ws zs e s = subst (λ xs. from_some (stands qs) xs ≡ true) (sym e) (some_later (stands qs) ws zs (sym (at_run p qs zs r) ∙ s))
    begins _ _ (on o x ps xs a b past) ws [] e s = absurd (true≢false (sym (sym (at_one o ps [] a) ∙ s)))
    begins _ _ (on o x ps xs a b past) [] (z ∷ zs) e s =
        begins ps xs past [] zs (ap after_first_item e) (and_right (stands_for o z) _ (sym (at_one o ps (z ∷ zs) a) ∙ s))
    begins _ _ (on o x ps xs a b past) (w ∷ ws) (z ∷ zs) e s =
        begins ps xs past (ws ++ z ∷ []) zs (ap after_first_item e ∙ sym (append_assoc ws (z ∷ []) zs)) (and_right (stands_for o z) _ (sym (at_one o ps (z ∷ zs) a) ∙ s))

    begins_some : (ps : List P) (xs : List A) → Past is_run stands_for (p ∷ qs) ys ps xs → (ws zs : List A) → xs ≡ ws ++ zs → from_some (stands ps) zs ≡ true → from_some (stands qs) ys ≡ true
    begins_some ps xs past ws [] e s = begins ps xs past ws [] e s
    begins_some ps xs past ws (z ∷ zs) e s = by_test (stands ps (z ∷ zs)) (begins ps xs past ws (z ∷ zs) e)
        (λ off. begins_some ps xs past (ws ++ z ∷ []) zs (e ∙ sym (append_assoc ws (z ∷ []) zs)) (sym (some_fails (stands ps) z zs off) ∙ s))

    pub run_on : (ps : List P) (xs : List A) → Past is_run stands_for (p ∷ qs) ys ps xs → from_some (stands ps) xs ≡ from_some (stands qs) ys
    run_on ps xs past = same_truth _ _ (begins_some ps xs past [] xs refl)
        (λ s. some_here (stands ps) xs (past_stands (p ∷ qs) ys ps xs past ∙ at_run p qs ys r ∙ s))

  -- Turns

  at : {ps qs : List P} {xs ys : List A} → ps ≡ qs → xs ≡ ys → stands ps xs ≡ stands qs ys
  at {ps = ps} {qs = qs} {xs = xs} {ys = ys} e f = ap (λ ps. stands ps xs) e ∙ ap (stands qs) f

  pub turn_longer : (ps : List P) (x : A) (xs ys : List A) → ps ≡ [] → ys ≡ x ∷ xs → stands ps ys ≡ false
  turn_longer ps x xs ys e f = at e f

  pub turn_shorter : (p : P) (after ps : List P) (xs : List A) → ps ≡ p ∷ after → is_run p ≡ false → xs ≡ [] → stands ps xs ≡ false
  turn_shorter p after ps xs e r f = at e f ∙ at_one p after [] r

  pub turn_other : (p : P) (x : A) (after ps : List P) (left xs : List A) → ps ≡ p ∷ after → is_run p ≡ false → xs ≡ x ∷ left → stands_for p x ≡ false → stands ps xs ≡ false
  turn_other p x after ps left xs e r f s = at e f ∙ at_one p after (x ∷ left) r ∙ ap (λ b. b && stands after left) s

  pub turn_run : (p : P) (after ps : List P) → ps ≡ p ∷ after → is_run p ≡ true → AtRun is_run stands_for ps after
  turn_run p after ps e r = record { piece = p; is = e; run = r }

  pub turn_one : (p : P) (x : A) (after ps : List P) (left xs : List A) → ps ≡ p ∷ after → is_run p ≡ false → xs ≡ x ∷ left → stands_for p x ≡ true → AtOne is_run stands_for ps xs after left
  turn_one p x after ps left xs e r f s = record { piece = p; item = x; pieces = e; items = f; one = r; stands = s }

  -- What a turn makes of the pieces that went before

  pub front_ends : (ps qs : List P) (xs ys : List A) → Past is_run stands_for qs ys ps xs → (qs ≡ []) × (ys ≡ []) → stands ps xs ≡ true
  front_ends ps qs xs ys past e = past_stands qs ys ps xs past ∙ at e.0 e.1

  pub front_runs : (after ps qs : List P) (xs ys : List A) → Past is_run stands_for qs ys ps xs → AtRun is_run stands_for qs after → BeforeRun is_run stands_for ps xs after ys
  front_runs after ps qs xs ys past r = record { piece = r.piece; run = r.run; past = subst (λ qs. Past is_run stands_for qs ys ps xs) r.is past }

  pub front_fails : (ps qs : List P) (xs ys : List A) → Past is_run stands_for qs ys ps xs → stands qs ys ≡ false → stands ps xs ≡ false
  front_fails ps qs xs ys past f = past_stands qs ys ps xs past ∙ f

  pub front_on : (after ps qs : List P) (left xs ys : List A) → Past is_run stands_for qs ys ps xs → AtOne is_run stands_for qs ys after left → Past is_run stands_for after left ps xs
  front_on after ps qs left xs ys past o =
      past_on o.piece o.item after left o.one o.stands ps xs
      (subst (λ ys. Past is_run stands_for (o.piece ∷ after) ys ps xs) o.items (subst (λ qs. Past is_run stands_for qs ys ps xs) o.pieces past))

  pub one_shorter : (after qs : List P) (left ys : List A) → AtOne is_run stands_for qs ys after left → length left < length ys
  one_shorter after qs left ys o = rw o.items (omega arith)

  -- What a front makes of the search

  pub found : (ps : List P) (xs : List A) → stands ps xs ≡ true → from_some (stands ps) xs ≡ true
  found ps xs s = some_here (stands ps) xs s

  pub next_run : (after ps : List P) (left xs : List A) (held : Bool) → BeforeRun is_run stands_for ps xs after left → from_some (stands ps) xs ≡ held → from_some (stands after) left ≡ held
  next_run after ps left xs held b h = sym (run_on b.piece after left b.run ps xs b.past) ∙ h

  pub run_shorter : (after ps : List P) (left xs : List A) → BeforeRun is_run stands_for ps xs after left → length after + length left < length ps + length xs
  run_shorter after ps left xs b =
      let l = past_shorter (b.piece ∷ after) left ps xs b.past in let m = l.0 in let n = l.1 in omega (arith, m, n)

  pub not_found : (ps : List P) (xs : List A) → stands ps xs ≡ false → xs ≡ [] → from_some (stands ps) xs ≡ false
  not_found ps xs f e = ap (from_some (stands ps)) e ∙ sym (ap (stands ps) e) ∙ f

  pub next_item : (x : A) (ps : List P) (left xs : List A) (held : Bool) → stands ps xs ≡ false → xs ≡ x ∷ left → from_some (stands ps) xs ≡ held → from_some (stands ps) left ≡ held
  next_item x ps left xs held f e h = sym (ap (from_some (stands ps)) e ∙ some_fails (stands ps) x left (sym (ap (stands ps) e) ∙ f)) ∙ h

  pub whole_runs : (after ps : List P) (left xs : List A) → BeforeRun is_run stands_for ps xs after left → from_some (stands after) left ≡ stands ps xs
  whole_runs after ps left xs b = sym (past_stands (b.piece ∷ after) left ps xs b.past ∙ at_run b.piece after left b.run)

pub ruleset turn_rules = (turn_longer, turn_run, turn_shorter, turn_one, turn_other)

pub ruleset front_rules = (here, front_ends, front_runs, front_fails, front_on, one_shorter)

pub ruleset some_rules = (found, not_found, next_run, next_item, run_shorter)

pub ruleset whole_rules = (whole_runs)

-- The first component of a path

pub undivided : (path : List ℕ) → position_or_len (λ b. b == 47) path ≡ length path → components path ≡ path ∷ []
undivided [] e = refl
undivided (b ∷ bs) e = after (b == 47) e (undivided bs)
  where
    after : (slash : Bool) → cond (not slash) (1 + position_or_len (λ b. b == 47) bs) 0 ≡ suc (length bs) → (position_or_len (λ b. b == 47) bs ≡ length bs → components bs ≡ bs ∷ []) →
        cond slash ([] ∷ components bs) (onto_first b (components bs)) ≡ (b ∷ bs) ∷ []
    after true e rest = absurd (omega (arith, e))
    after false e rest = ap (onto_first b) (rest (omega (arith, e)))

pub divided : (path first rest : List ℕ) → first ≡ before_first (λ b. b == 47) path → rest ≡ after_first (λ b. b == 47) path → position_or_len (λ b. b == 47) path < length path →
    components path ≡ first ∷ components rest
divided path first rest e f h =
    slice_split_first (λ b. b == 47) path 0 h ∙ ap (λ parts. before_first (λ b. b == 47) path ∷ components parts) (sym f) ∙ ap (λ (first : List ℕ). first ∷ components rest) (sym e)
