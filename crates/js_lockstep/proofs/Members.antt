-- Members of values, and what loops go through, in both runs.
use Rattle.std.proofs.Common.{◌≡◌, ◌≢◌, ℕ, zero, suc, ◌<◌, Bool, true, false, List, [], ◌∷◌, ◌++◌, map, length, Option, Some, None, refl, sym, ap, ap₂, ◌∙◌, subst, if◌then◌else◌, codes, Ok, Err, arith, ◌&&◌, ◌||◌}
use Rattle.std.specs.Prelude.{slice_get, option_map}
use Rattle.std.specs.Str.{bytes_eq}
use Rattle.js_value.specs.declared.value.Value.{Value}
use Rattle.js_value.specs.declared.value.Value.TheVariants as value
use Rattle.js_value.specs.declared.value.Primitive.TheVariants as primitive
use Rattle.js_value.specs.declared.built_in.Place.TheVariants as place
use Rattle.js_value.specs.declared.deed.Complaint.TheVariants as complaint
use Rattle.js_value.specs.State.{Heap, Property}
use Rattle.js_value.specs.Objects.{object_at, kind_of, is_array, get, keys, has_property, stands_on, inherits, array_length}
use Rattle.js_value.specs.Key.{index_of}
use Rattle.js_value.specs.Copying as Copying
use Rattle.js_value.specs.Host as Host
use Rattle.js_value.specs.Texts.{unit_property, length_of_text, own_of_text}
use Rattle.js_value.specs.Realm.{number_of, built_in_count, text}
use Rattle.js_value.specs.Arguments.{Or, ◌>>=◌, throw, seen, to_text}
use Rattle.js_value.specs.Copying.{write}
use Rattle.js_value.specs.Members.{coercible, get_of, member_key, get_member, put_key, put_member, undeleted, delete_key, delete_member, is_in, inherits_from, is_instance, type_in}
use Rattle.js_value.specs.OnObjects.{or_undefined}
use Rattle.js_value.specs.Iterations.{unmet, keys_along, keys_of, has_key, Iteration, Keys, Elements, Characters, Taken, taken, next_key, next_character, next_of, iterated}
use Rattle.js_two_runs.proofs.TwoCallsKept.{taken-kept}
use Rattle.js_two_runs.specs.Pairs.{Paired}
use Rattle.js_two_runs.specs.TwoRuns.{InBoth, neither, both, Related, plain, refs, AllRelated, none, more}
use Rattle.js_two_runs.specs.TwoHeaps.{AlikePrototypes, no_prototype, prototypes}
use Rattle.js_two_runs.proofs.TwoRunsLemmas.{seen-rel}
use Rattle.js_two_runs.proofs.TwoHeapsSeen.{seen as heaps_seen, is_some-both, functions-alike, arrays-alike, found-alike, get-alike, keys_of-alike}
use Rattle.js_two_runs.proofs.TwoHeapsWritten.{write-alike}
use Rattle.js_two_runs.proofs.TwoHeapsDeleted.{delete-alike, delete_answer-alike}
use Rattle.js_suits.specs.Settings.{World, Setting}
use Rattle.js_lockstep.specs.Worlds.{AlikeFunctions}
use Rattle.js_lockstep.specs.Trees.{AlikeIterations, keys as keys_rel, elements, characters}
use Rattle.js_lockstep.proofs.Root.{root_written, delete_same}
use Rattle.js_lockstep.proofs.Alone.{alone_but, alone_set, taken_but}
use Rattle.js_lockstep.proofs.Heaps.{AlikeOr, oks, errs, Changes, Both, grown_same, objects_grown}

key_same : (R : ℕ → ℕ → Type 0) (v v' k k' : Value) → Related R v v' → Related R k k' → member_key v k ≡ member_key v' k'
key_same R v v' k k' (plain z) s = ap (λ x. coercible (value.Primitive z) >>= λ b. to_text x) (seen-rel R k k' s)
key_same R v v' k k' (refs o n i) s = ap to_text (seen-rel R k k' s)

or_same : {A : Type 0} {R : A → A → Type 0} (a : Or (List ℕ)) {f g : List ℕ → Or A} → ((key : List ℕ) → AlikeOr R (f key) (g key)) → AlikeOr R (a >>= f) (a >>= g)
or_same (Ok key) h = h key
or_same (Err z) h = errs z

module _ (c : Setting) (w : World) (h l : Heap) (x : Both c w h l) where
  abbrev F : (code around other_code other_around : ℕ) → Type 0
  F = AlikeFunctions c w

  undefined_related : {a b : Option Value} → InBoth (Related (Paired w.objects)) a b → Related (Paired w.objects) (or_undefined a) (or_undefined b)
  undefined_related neither = plain _
  undefined_related (both a b r) = r

  built_in_get : (n : ℕ) (key : List ℕ) → n < built_in_count → n ≢ number_of place.Global → InBoth (Related (Paired w.objects)) (get h n key) (get l n key)
  built_in_get n key lt ne = get-alike w.objects F h l x.heaps n n key (x.heaps.built_in n lt ne)

  abbrev SameValue : Property → Property → Type 0
  SameValue a b = Related (Paired w.objects) a.value b.value

  unit_values : (key : List ℕ) (o : Option ℕ) → InBoth SameValue (option_map (unit_property key) o) (option_map (unit_property key) o)
  unit_values key None = neither
  unit_values key (Some n) = both _ _ (plain _)

  length_values : (b : Bool) (n : ℕ) → InBoth SameValue (if b then Some (length_of_text n) else None) (if b then Some (length_of_text n) else None)
  length_values true n = both _ _ (plain _)
  length_values false n = neither

  text_values : (units key : List ℕ) (i : Option ℕ) →
      InBoth SameValue (elim i [ Some n ↦ option_map (unit_property key) (slice_get units n) | None ↦ if bytes_eq key array_length then Some (length_of_text (length units)) else None ])
      (elim i [ Some n ↦ option_map (unit_property key) (slice_get units n) | None ↦ if bytes_eq key array_length then Some (length_of_text (length units)) else None ])
  text_values units key (Some n) = unit_values key (slice_get units n)
  text_values units key None = length_values (bytes_eq key array_length) (length units)

  text_get : (a b : Option Property) (key : List ℕ) → InBoth SameValue a b →
      InBoth (Related (Paired w.objects)) (elim a [ Some z ↦ Some z.value | None ↦ get h (number_of place.StringPrototype) key ]) (elim b [ Some z ↦ Some z.value | None ↦ get l (number_of place.StringPrototype) key ])
  text_get _ _ key neither = built_in_get (number_of place.StringPrototype) key (omega arith) (λ e. omega arith)
  text_get _ _ key (both a b r) = both _ _ r

  pub get_of_related : (v u : Value) (key : List ℕ) → Related (Paired w.objects) v u → InBoth (Related (Paired w.objects)) (get_of h v key) (get_of l u key)
  get_of_related v u key (plain (primitive.Text units)) = text_get (own_of_text units key) (own_of_text units key) key (text_values units key (index_of key))
  get_of_related v u key (plain (primitive.Number n)) = built_in_get (number_of place.NumberPrototype) key (omega arith) (λ e. omega arith)
  get_of_related v u key (plain (primitive.Boolean b)) = built_in_get (number_of place.BooleanPrototype) key (omega arith) (λ e. omega arith)
  get_of_related v u key (plain primitive.Undefined) = neither
  get_of_related v u key (plain primitive.Null) = neither
  get_of_related v u key (refs o n i) = get-alike w.objects F h l x.heaps o.index n.index key i

  pub get_member_related : (v v' k k' : Value) → Related (Paired w.objects) v v' → Related (Paired w.objects) k k' → AlikeOr (Related (Paired w.objects)) (get_member h v k) (get_member l v' k')
  get_member_related v v' k k' r s = subst (λ z. AlikeOr (Related (Paired w.objects)) (get_member h v k) (z >>= λ key. Ok (or_undefined (get_of l v' key)))) (key_same (Paired w.objects) v v' k k' r s)
      (or_same (member_key v k) (λ key. oks (undefined_related (get_of_related v v' key r))))

  -- 10.1.9, 10.1.10 on members
  written_changes : (o n : ℕ) (key : List ℕ) (v u : Value) → Paired w.objects o n → Related (Paired w.objects) v u → Changes c w h l (write o key v h) (write n key u l)
  written_changes o n key v u i r =
      let a = write-alike w.objects F h l o n key v u x.heaps i r in
      record { grown = objects_grown c w h l x w.objects (λ o n i. i) _ _ (write_kept o key v h) (write_kept n key u l) a.heap (alone_but w.objects o n l _ i (taken_but n key (Copying.taken l n key u) l)) (λ low. (taken_but n key (Copying.taken l n key u) l).root_stays low); halts = a.halt }
    where
      write_kept : (o : ℕ) (key : List ℕ) (v : Value) (g : Heap) → (write o key v g).heap.environments ≡ g.environments
      write_kept o key v g = taken-kept o key (Copying.taken g o key v) g

  put_key_changes : (a : Or (List ℕ)) (v v' u u' : Value) → Related (Paired w.objects) v v' → Related (Paired w.objects) u u' → Changes c w h l (put_key v a u h) (put_key v' a u' l)
  put_key_changes (Err z) v v' u u' r s = record { grown = grown_same c x; halts = refl }
  put_key_changes (Ok key) v v' u u' (plain z) s = record { grown = grown_same c x; halts = refl }
  put_key_changes (Ok key) v v' u u' (refs o n i) s = written_changes o.index n.index key u u' i s

  pub put_member_changes : (v v' k k' u u' : Value) → Related (Paired w.objects) v v' → Related (Paired w.objects) k k' → Related (Paired w.objects) u u' → Changes c w h l (put_member v k u h) (put_member v' k' u' l)
  put_member_changes v v' k k' u u' r s t = subst (λ z. Changes c w h l (put_member v k u h) (put_key v' z u' l)) (key_same (Paired w.objects) v v' k k' r s) (put_key_changes (member_key v k) v v' u u' r t)

  delete_key_changes : (a : Or (List ℕ)) (v v' : Value) → Related (Paired w.objects) v v' → Changes c w h l (delete_key v a h) (delete_key v' a l)
  delete_key_changes (Err z) v v' r = record { grown = grown_same c x; halts = refl }
  delete_key_changes (Ok key) v v' (plain (primitive.Text units)) = record { grown = grown_same c x; halts = refl }
  delete_key_changes (Ok key) v v' (plain z) = record { grown = grown_same c x; halts = refl }
  delete_key_changes (Ok key) v v' (refs o n i) = record {
    grown = objects_grown c w h l x w.objects (λ o n i. i) _ _ refl refl (delete-alike w.objects F h l o.index n.index x.heaps i key) (alone_set w.objects o.index n.index _ l i) (root_written n.index _ l (delete_same (object_at l n.index) key));
    halts = ap undeleted (delete_answer-alike w.objects F h l o.index n.index x.heaps i key);
  }

  pub delete_member_changes : (v v' k k' : Value) → Related (Paired w.objects) v v' → Related (Paired w.objects) k k' → Changes c w h l (delete_member v k h) (delete_member v' k' l)
  delete_member_changes v v' k k' r s = subst (λ z. Changes c w h l (delete_member v k h) (delete_key v' z l)) (key_same (Paired w.objects) v v' k k' r s) (delete_key_changes (member_key v k) v v' r)

  -- Along the prototypes

  pub has_property_same : (o n : ℕ) (key : List ℕ) → Paired w.objects o n → has_property h o key ≡ has_property l n key
  has_property_same o n key i = is_some-both _ _ _ (found-alike w.objects F h l x.heaps (suc o) (suc n) key o n i (omega arith) (omega arith))

  stands_same : (m m' o o' p p' : ℕ) → Paired w.objects o o' → Paired w.objects p p' → o < m → o' < m' → stands_on m h.objects (Some o) p ≡ stands_on m' l.objects (Some o') p'
  stands_same zero m' o o' p p' i j lt lt' = absurd (omega (arith, lt))
  stands_same (suc m) zero o o' p p' i j lt lt' = absurd (omega (arith, lt'))
  stands_same (suc m) (suc m') o o' p p' i j lt lt' =
      ap₂ (λ a b. a || b) ((heaps_seen w.objects F h l x.heaps).one_to_one o p o' p' i j)
      (above (object_at h o).prototype (object_at l o').prototype (x.heaps.objects.related o o' i).prototype (λ r r' k a b. stands_same m m' r r' p p' k j (omega (arith, a, lt)) (omega (arith, b, lt'))))
    where
      no_chain : (m : ℕ) (g : Heap) (p : ℕ) → stands_on m g.objects None p ≡ false
      no_chain zero g p = refl
      no_chain (suc m) g p = refl

      above : (a b : Option ℕ) → AlikePrototypes w.objects F o o' a b → ((r r' : ℕ) → Paired w.objects r r' → r < o → r' < o' → stands_on m h.objects (Some r) p ≡ stands_on m' l.objects (Some r') p') → stands_on m h.objects a p ≡ stands_on m' l.objects b p'
      above _ _ no_prototype go = no_chain m h p ∙ sym (no_chain m' l p')
      above _ _ (prototypes r r' k a b) go = go r r' k a b

  inherits_same : (o o' p p' : ℕ) → Paired w.objects o o' → Paired w.objects p p' → inherits h o p ≡ inherits l o' p'
  inherits_same o o' p p' i j = above (object_at h o).prototype (object_at l o').prototype (x.heaps.objects.related o o' i).prototype
    where
      no_chain : (m : ℕ) (g : Heap) (p : ℕ) → stands_on m g.objects None p ≡ false
      no_chain zero g p = refl
      no_chain (suc m) g p = refl

      above : (a b : Option ℕ) → AlikePrototypes w.objects F o o' a b → stands_on o h.objects a p ≡ stands_on o' l.objects b p'
      above _ _ no_prototype = no_chain o h p ∙ sym (no_chain o' l p')
      above _ _ (prototypes r r' k a b) = stands_same o o' r r' p p' k j a b

  keys_same : (m m' o o' : ℕ) (met : List (List ℕ)) → Paired w.objects o o' → o < m → o' < m' → keys_along m h.objects (Some o) met ≡ keys_along m' l.objects (Some o') met
  keys_same zero m' o o' met i lt lt' = absurd (omega (arith, lt))
  keys_same (suc m) zero o o' met i lt lt' = absurd (omega (arith, lt'))
  keys_same (suc m) (suc m') o o' met i lt lt' =
      let e = keys_of-alike w.objects F o o' _ _ (x.heaps.objects.related o o' i) in
      ap₂ (λ (a b : List (List ℕ)). a ++ b) (ap (unmet met) e)
      (above (object_at h o).prototype (object_at l o').prototype (x.heaps.objects.related o o' i).prototype (λ r r' k a b. keys_same m m' r r' (map (λ k. k.key) (keys h o) ++ met) k (omega (arith, a, lt)) (omega (arith, b, lt')))
      ∙ ap (λ ks. keys_along m' l.objects (object_at l o').prototype (map (λ k. k.key) ks ++ met)) e)
    where
      no_chain : (m : ℕ) (g : Heap) (met : List (List ℕ)) → keys_along m g.objects None met ≡ []
      no_chain zero g met = refl
      no_chain (suc m) g met = refl

      above : (a b : Option ℕ) → AlikePrototypes w.objects F o o' a b → ((r r' : ℕ) → Paired w.objects r r' → r < o → r' < o' → keys_along m h.objects (Some r) (map (λ k. k.key) (keys h o) ++ met) ≡ keys_along m' l.objects (Some r') (map (λ k. k.key) (keys h o) ++ met)) →
          keys_along m h.objects a (map (λ k. k.key) (keys h o) ++ met) ≡ keys_along m' l.objects b (map (λ k. k.key) (keys h o) ++ met)
      above _ _ no_prototype go = no_chain m h _ ∙ sym (no_chain m' l _)
      above _ _ (prototypes r r' k a b) go = go r r' k a b

  pub keys_of_same : (v u : Value) → Related (Paired w.objects) v u → keys_of h v ≡ keys_of l u
  keys_of_same v u (plain (primitive.Text units)) = refl
  keys_of_same v u (plain z) = refl
  keys_of_same v u (refs o n i) = keys_same (suc o.index) (suc n.index) o.index n.index [] i (omega arith) (omega arith)

  has_key_same : (v u : Value) (key : List ℕ) → Related (Paired w.objects) v u → has_key h v key ≡ has_key l u key
  has_key_same v u key (plain z) = refl
  has_key_same v u key (refs o n i) = has_property_same o.index n.index key i

  -- Iterations

  pub record AlikeTaken (a b : Taken) : Type 0 where
    pub value : Related (Paired w.objects) a.value b.value
    pub rest : AlikeIterations w a.rest b.rest

  next_key_related : (v u : Value) (ks : List (List ℕ)) → Related (Paired w.objects) v u → InBoth AlikeTaken (next_key h v ks) (next_key l u ks)
  next_key_related v u [] r = neither
  next_key_related v u (k ∷ ks) r = subst (λ (b : Bool). InBoth AlikeTaken (next_key h v (k ∷ ks)) (if b then Some (taken (text k) (Keys u ks)) else next_key l u ks)) (has_key_same v u k r) (by_test (has_key h v k) (next_key_related v u ks r))
    where
      by_test : (b : Bool) → InBoth AlikeTaken (next_key h v ks) (next_key l u ks) → InBoth AlikeTaken (if b then Some (taken (text k) (Keys v ks)) else next_key h v ks) (if b then Some (taken (text k) (Keys u ks)) else next_key l u ks)
      by_test true n = both _ _ (record { value = plain _; rest = keys_rel ks r })
      by_test false n = n

  next_character_related : (units : List ℕ) → InBoth AlikeTaken (next_character units) (next_character units)
  next_character_related [] = neither
  next_character_related (u ∷ []) = both _ _ (record { value = plain _; rest = characters [] })
  next_character_related (u ∷ z ∷ us) = by_test (Host.leads u && Host.trails z)
    where
      by_test : (b : Bool) → InBoth AlikeTaken (if b then Some (taken (text (u ∷ z ∷ [])) (Characters us)) else Some (taken (text (u ∷ [])) (Characters (z ∷ us)))) (if b then Some (taken (text (u ∷ z ∷ [])) (Characters us)) else Some (taken (text (u ∷ [])) (Characters (z ∷ us))))
      by_test true = both _ _ (record { value = plain _; rest = characters us })
      by_test false = both _ _ (record { value = plain _; rest = characters (z ∷ us) })

  element_related : (vs us : List Value) (n : ℕ) → AllRelated (Paired w.objects) vs us → InBoth (Related (Paired w.objects)) (slice_get vs n) (slice_get us n)
  element_related _ _ n none = neither
  element_related _ _ zero (more v u r vs us rs) = both v u r
  element_related _ _ (suc n) (more v u r vs us rs) = element_related vs us n rs

  pub next_of_related : (a b : Iteration) → AlikeIterations w a b → InBoth AlikeTaken (next_of h a) (next_of l b)
  next_of_related _ _ (keys_rel {v = v} {u = u} ks r) = next_key_related v u ks r
  next_of_related _ _ (elements {o = o} {p = n} m i) = by_element _ _ (element_related _ _ m (x.heaps.objects.related o n i).elements)
    where
      by_element : (a b : Option Value) → InBoth (Related (Paired w.objects)) a b → InBoth AlikeTaken (option_map (λ v. taken v (Elements o (suc m))) a) (option_map (λ v. taken v (Elements n (suc m))) b)
      by_element _ _ neither = neither
      by_element _ _ (both v u r) = both _ _ (record { value = r; rest = elements (suc m) i })
  next_of_related _ _ (characters units) = next_character_related units

  pub iterated_related : (v u : Value) → Related (Paired w.objects) v u → AlikeOr (AlikeIterations w) (iterated h v) (iterated l u)
  iterated_related v u (plain (primitive.Text units)) = oks (characters units)
  iterated_related v u (plain z) = errs _
  iterated_related v u (refs o n i) = subst (λ (b : Bool). AlikeOr (AlikeIterations w) (iterated h (value.Object o)) (if b then Ok (Elements n.index 0) else throw complaint.NotIterable)) (arrays-alike w.objects F _ _ (x.heaps.objects.related o.index n.index i).kind)
      (by_test (is_array (kind_of h o.index)))
    where
      by_test : (b : Bool) → AlikeOr (AlikeIterations w) (if b then Ok (Elements o.index 0) else throw complaint.NotIterable) (if b then Ok (Elements n.index 0) else throw complaint.NotIterable)
      by_test true = oks (elements 0 i)
      by_test false = errs _

  -- `in`, `instanceof`, `typeof`

  pub in_related : (v v' u u' : Value) → Related (Paired w.objects) v v' → Related (Paired w.objects) u u' → is_in h v u ≡ is_in l v' u'
  in_related v v' u u' r (plain z) = refl
  in_related v v' u u' r (refs o n i) = ap (λ y. to_text y >>= λ key. Ok (has_property h o.index key)) (seen-rel (Paired w.objects) v v' r) ∙ by_key (to_text (seen v'))
    where
      by_key : (a : Or (List ℕ)) → (a >>= λ key. Ok (has_property h o.index key)) ≡ (a >>= λ key. Ok (has_property l n.index key))
      by_key (Ok key) = ap (λ b. Ok b) (has_property_same o.index n.index key i)
      by_key (Err z) = refl

  from_related : (v v' : Value) (a b : Option Value) → Related (Paired w.objects) v v' → InBoth (Related (Paired w.objects)) a b → inherits_from h v a ≡ inherits_from l v' b
  from_related v v' _ _ (plain z) r = refl
  from_related v v' _ _ (refs o n i) neither = refl
  from_related v v' _ _ (refs o n i) (both a b (plain z)) = refl
  from_related v v' _ _ (refs o n i) (both a b (refs m k j)) = ap (λ b. Ok b) (inherits_same o.index n.index m.index k.index i j)

  pub instance_related : (v v' u u' : Value) → Related (Paired w.objects) v v' → Related (Paired w.objects) u u' → is_instance h v u ≡ is_instance l v' u'
  instance_related v v' u u' r (plain z) = refl
  instance_related v v' u u' r (refs o n i) =
      ap₂ (λ (b : Bool) (y : Or Bool). if b then y else throw complaint.NotAFunction) (functions-alike w.objects F _ _ (x.heaps.objects.related o.index n.index i).kind)
      (from_related v v' _ _ r (get-alike w.objects F h l x.heaps o.index n.index (codes "prototype") i))

  pub type_related : (v u : Value) → Related (Paired w.objects) v u → type_in h v ≡ type_in l u
  type_related v u (plain z) = refl
  type_related v u (refs o n i) = ap (λ (b : Bool). if b then codes "function" else codes "object") (functions-alike w.objects F _ _ (x.heaps.objects.related o.index n.index i).kind)
