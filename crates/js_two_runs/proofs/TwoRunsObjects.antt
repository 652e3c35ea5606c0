-- The built-in functions that look at objects, and the constructors, in two runs whose heaps are related.
use Rattle.std.proofs.Common.{◌≡◌, ℕ, zero, suc, ◌-◌, ◌+◌, Bool, true, false, List, [], ◌∷◌, ◌++◌, map, length, take, drop, flat_map, reverse, Option, Some, None, Ok, refl, sym, subst, ap, ap₂, if◌then◌else◌, pos, negsuc, ℤ}
use Rattle.std.specs.Prelude.{is_some, position, cond, nat_lt}
use Rattle.std.specs.List.{position_or_len}
use Rattle.js_value.specs.declared.value.Value.{Value}
use Rattle.js_value.specs.declared.value.Value.TheVariants as value
use Rattle.js_value.specs.declared.value.Object.{Object}
use Rattle.js_value.specs.declared.value.Primitive.TheVariants as primitive
use Rattle.js_value.specs.declared.value.Kind.TheVariants as kind
use Rattle.js_value.specs.declared.key.Key.{Key}
use Rattle.js_value.specs.declared.error_kind.ErrorKind.{ErrorKind}
use Rattle.js_value.specs.declared.built_in.BuiltIn.{BuiltIn}
use Rattle.js_value.specs.declared.built_in.BuiltIn.TheVariants as built_in
use Rattle.js_value.specs.declared.built_in.OnObjects.{OnObjects}
use Rattle.js_value.specs.declared.built_in.OnObjects.TheVariants as on_objects
use Rattle.js_value.specs.declared.built_in.Constructor.{Constructor}
use Rattle.js_value.specs.declared.built_in.Constructor.TheVariants as make
use Rattle.js_value.specs.Conversions.{to_boolean}
use Rattle.js_value.specs.Constructors.{fresh_object, make_object, array_of_length, make_array, make_text, make_number, unless_constructed, make_error, of_constructor}
use Rattle.js_value.specs.Host.{require, called, done_by}
use Rattle.js_value.specs.declared.deed.Halt.TheVariants.{Throw, Refuse}
use Rattle.js_value.specs.declared.deed.Complaint.TheVariants.{NotAnObject, NotAnArray, NotAFunction, ReadOnly, NoProperties, WrongReceiver, BadLength, NotAText, NotAConstructor}
use Rattle.js_value.specs.declared.deed.Deed.{Deed}
use Rattle.js_value.specs.declared.deed.Deed.TheVariants as deed
use Rattle.js_value.specs.State.{Heap}
use Rattle.js_value.specs.Objects.{elements_of, keys, array_length}
use Rattle.js_value.specs.Numbers.{decimal_text}
use Rattle.js_value.specs.Equality.{strictly_equal}
use Rattle.js_value.specs.Realm.{text}
use Rattle.js_value.specs.Arguments.{Or, ◌>>=◌, Seen, argument, to_number, to_text, number_or, relative}
use Rattle.js_value.specs.OnData.{joined}
use Rattle.js_value.specs.OnObjects.{value_at, seen_at, truth, object_of, parent_of, plain_object, freeze_it, object_or_null, get_prototype_of, is_frozen_in, enumerable_texts, keys_of, has_own, has_own_property, is_array_in, is_function_in, function_of, array_of, changes, assign, create, call, function_to_string, joining, separator_of, join, last_or, pop, push, shift, between, slice_part, slice_of, slice, unshift, spread, concat, or_undefined, at_indices, count_of, length_of, listed_of, listed, apply, moved_place, place_from, found_in, includes, place_or, index_of, reverse_it, of_objects}
use Rattle.js_two_runs.specs.TwoRuns.{Related, plain, refs, AllRelated, none, more, InBoth, neither, both, RelatedHeaps, RelatedDeeds, give, makes_array, makes_object, makes_error, append, cut, replace, freeze, copy, enter, require as required, RelatedAnswers, ok, err}
use Rattle.js_two_runs.proofs.TwoRunsLemmas.{seen-rel, seen-rels, data-rel, data_related}
use Rattle.std.proofs.lemmas.Grind.{reverse_onto}

module _ (R : ℕ → ℕ → Type 0) where
  pub then-rel : {A B : Type 0} (RA : A → A → Type 0) (RB : B → B → Type 0) (m n : Or A) (f g : A → Or B) →
      RelatedAnswers R RA m n → ((a b : A) → RA a b → RelatedAnswers R RB (f a) (g b)) → RelatedAnswers R RB (m >>= f) (n >>= g)
  then-rel RA RB m n f g (ok a b r) each = each a b r
  then-rel RA RB m n f g (err h) each = err h

  abbrev pub RelatedObject : Object → Object → Type 0
  RelatedObject o p = R o.index p.index

  pub value_at-rel : (vs ws : List Value) (n : ℕ) → AllRelated R vs ws → Related R (value_at vs n) (value_at ws n)
  value_at-rel vs ws n none = plain primitive.Undefined
  value_at-rel vs ws zero (more v w r vs' ws' rs) = r
  value_at-rel vs ws (suc n) (more v w r vs' ws' rs) = value_at-rel vs' ws' n rs

  pub seen_at-rel : (vs ws : List Value) (n : ℕ) → AllRelated R vs ws → seen_at vs n ≡ seen_at ws n
  seen_at-rel vs ws n rs = ap (λ xs. argument xs n) (seen-rels R vs ws rs)

  pub take-rel : (n : ℕ) (vs ws : List Value) → AllRelated R vs ws → AllRelated R (take n vs) (take n ws)
  take-rel zero vs ws rs = none
  take-rel (suc n) vs ws none = none
  take-rel (suc n) vs ws (more v w r vs' ws' rs) = more v w r (take n vs') (take n ws') (take-rel n vs' ws' rs)

  pub drop-rel : (n : ℕ) (vs ws : List Value) → AllRelated R vs ws → AllRelated R (drop n vs) (drop n ws)
  drop-rel zero vs ws rs = rs
  drop-rel (suc n) vs ws none = none
  drop-rel (suc n) vs ws (more v w r vs' ws' rs) = drop-rel n vs' ws' rs

  pub length-rel : (vs ws : List Value) → AllRelated R vs ws → length vs ≡ length ws
  length-rel vs ws none = refl
  length-rel vs ws (more v w r vs' ws' rs) = ap suc (length-rel vs' ws' rs)

  pub joined-rel : (vs ws us xs : List Value) → AllRelated R vs ws → AllRelated R us xs → AllRelated R (vs ++ us) (ws ++ xs)
  joined-rel vs ws us xs none ss = ss
  joined-rel vs ws us xs (more v w r vs' ws' rs) ss = more v w r (vs' ++ us) (ws' ++ xs) (joined-rel vs' ws' us xs rs ss)

  pub object_of-rel : (v w : Value) → Related R v w → RelatedAnswers R RelatedObject (object_of v) (object_of w)
  object_of-rel v w (refs o p r) = ok o p r
  object_of-rel v w (plain primitive.Undefined) = err (Throw NotAnObject)
  object_of-rel v w (plain primitive.Null) = err (Throw NotAnObject)
  object_of-rel v w (plain (primitive.Boolean b)) = err (Refuse kind.Convert)
  object_of-rel v w (plain (primitive.Number b)) = err (Refuse kind.Convert)
  object_of-rel v w (plain (primitive.Text b)) = err (Refuse kind.Convert)

  pub chain-rel : (a b : Option ℕ) → InBoth R a b → Related R (object_or_null a) (object_or_null b)
  chain-rel a b neither = plain primitive.Null
  chain-rel a b (both o p r) = refs (record { index = o }) (record { index = p }) r

  pub keys_texts-rel : (ks : List Key) → AllRelated R (enumerable_texts ks) (enumerable_texts ks)
  keys_texts-rel [] = none
  keys_texts-rel (k ∷ ks) =
      let rest = keys_texts-rel ks in
      let both : Bool → List Value = λ b. if b then text k.key ∷ enumerable_texts ks else enumerable_texts ks in
      elim k.enumerable as (λ b. AllRelated R (both b) (both b)) [
        | true ↦ more (text k.key) (text k.key) (plain (primitive.Text k.key)) (enumerable_texts ks) (enumerable_texts ks) rest
        | false ↦ rest
      ]

  pub assign-rel : (vs ws : List Value) → AllRelated R vs ws → RelatedAnswers R (RelatedDeeds R) (assign vs) (assign ws)
  assign-rel vs ws rs = then-rel RelatedObject (RelatedDeeds R) _ _ _ _ (object_of-rel _ _ (value_at-rel vs ws 0 rs)) (λ o p r. ok _ _ (copy o p r _ _ (drop-rel 1 vs ws rs)))

  pub freeze-rel : (v w : Value) → Related R v w → RelatedAnswers R (RelatedDeeds R) (freeze_it v) (freeze_it w)
  freeze-rel v w (plain p) = ok _ _ (give _ _ (plain p))
  freeze-rel v w (refs o p r) = ok _ _ (freeze o p r)

  module _ (h k : Heap) (hk : RelatedHeaps R h k) where
    -- a choice by a test that is the same in both
    pub if-rel : {A : Type 0} (RA : A → A → Type 0) (b c : Bool) (m n m' n' : Or A) → b ≡ c → RelatedAnswers R RA m m' → RelatedAnswers R RA n n' → RelatedAnswers R RA (if b then m else n) (if c then m' else n')
    if-rel {A} RA b c m n m' n' e r s = subst (λ x. RelatedAnswers R RA (if b then m else n) (if x then m' else n')) e (go b)
      where
        go : (x : Bool) → RelatedAnswers R RA (if x then m else n) (if x then m' else n')
        go true = r
        go false = s

    pub array_of-rel : (v w : Value) → Related R v w → RelatedAnswers R RelatedObject (array_of h v) (array_of k w)
    array_of-rel v w (plain p) = err (Throw NotAnArray)
    array_of-rel v w (refs o p r) = if-rel RelatedObject _ _ (Ok o) _ (Ok p) _ (hk.arrays o.index p.index r) (ok o p r) (err (Throw NotAnArray))

    pub changes-rel : (o p : Object) (d e : Deed) → R o.index p.index → RelatedDeeds R d e → RelatedAnswers R (RelatedDeeds R) (changes h o d) (changes k p e)
    changes-rel o p d e r rd = if-rel (RelatedDeeds R) _ _ _ (Ok d) _ (Ok e) (hk.frozen o.index p.index r) (err (Throw ReadOnly)) (ok d e rd)

    pub function_of-rel : (v w : Value) → Related R v w → RelatedAnswers R (Related R) (function_of h v) (function_of k w)
    function_of-rel v w (plain p) = err (Throw NotAFunction)
    function_of-rel v w (refs o p r) = if-rel (Related R) _ _ (Ok (value.Object o)) _ (Ok (value.Object p)) _ (hk.functions o.index p.index r) (ok _ _ (refs o p r)) (err (Throw NotAFunction))

    pub keys-rel : (vs ws : List Value) → AllRelated R vs ws → RelatedAnswers R (RelatedDeeds R) (keys_of vs h) (keys_of ws k)
    keys-rel vs ws rs = then-rel RelatedObject (RelatedDeeds R) _ _ _ _ (object_of-rel _ _ (value_at-rel vs ws 0 rs)) (λ o p ro.
        subst (λ ks. RelatedAnswers R (RelatedDeeds R) (Ok (deed.MakeArray (enumerable_texts (keys h o.index)))) (Ok (deed.MakeArray (enumerable_texts ks)))) (hk.keys o.index p.index ro) (ok _ _ (makes_array _ _ (keys_texts-rel (keys h o.index)))))

    pub get_prototype_of-rel : (vs ws : List Value) → AllRelated R vs ws → RelatedAnswers R (RelatedDeeds R) (get_prototype_of vs h) (get_prototype_of ws k)
    get_prototype_of-rel vs ws rs = then-rel RelatedObject (RelatedDeeds R) _ _ _ _ (object_of-rel _ _ (value_at-rel vs ws 0 rs)) (λ o p ro. ok _ _ (give _ _ (chain-rel _ _ (hk.prototypes o.index p.index ro))))

    pub call-rel : (this that : Value) (vs ws : List Value) → Related R this that → AllRelated R vs ws → RelatedAnswers R (RelatedDeeds R) (call this vs h) (call that ws k)
    call-rel this that vs ws r rs = then-rel (Related R) (RelatedDeeds R) _ _ _ _ (function_of-rel this that r) (λ f g rf. ok _ _ (enter f g rf _ _ (value_at-rel vs ws 0 rs) _ _ (drop-rel 1 vs ws rs)))

    pub push-rel : (this that : Value) (vs ws : List Value) → Related R this that → AllRelated R vs ws → RelatedAnswers R (RelatedDeeds R) (push this vs h) (push that ws k)
    push-rel this that vs ws r rs = then-rel RelatedObject (RelatedDeeds R) _ _ _ _ (array_of-rel this that r) (λ o p ro. changes-rel o p _ _ ro (append o p ro vs ws rs))

    pub pop-rel : (this that : Value) → Related R this that → RelatedAnswers R (RelatedDeeds R) (pop this h) (pop that k)
    pop-rel this that r = then-rel RelatedObject (RelatedDeeds R) _ _ _ _ (array_of-rel this that r) (λ o p ro.
        let es = hk.elements o.index p.index ro in
        let n = length-rel _ _ es in
        changes-rel o p _ _ ro (subst (λ m. RelatedDeeds R (deed.Cut o (length (elements_of h o.index) - 1) (last_or (elements_of h o.index))) (deed.Cut p (m - 1) (value_at (elements_of k p.index) (m - 1)))) n
        (cut o p ro (length (elements_of h o.index) - 1) _ _ (value_at-rel _ _ (length (elements_of h o.index) - 1) es))))

    pub shift-rel : (this that : Value) → Related R this that → RelatedAnswers R (RelatedDeeds R) (shift this h) (shift that k)
    shift-rel this that r = then-rel RelatedObject (RelatedDeeds R) _ _ _ _ (array_of-rel this that r) (λ o p ro.
        let es = hk.elements o.index p.index ro in
        changes-rel o p _ _ ro (replace o p ro _ _ (drop-rel 1 _ _ es) _ _ (value_at-rel _ _ 0 es)))

    pub slice_part-rel : (es es' : List Value) (from : ℕ) (vs ws : List Value) → AllRelated R es es' → AllRelated R vs ws → RelatedAnswers R (AllRelated R) (slice_part es from vs) (slice_part es' from ws)
    slice_part-rel es es' from vs ws r rs = data-rel R (AllRelated R) _ _ _ _ (ap₂ (λ n x. number_or (pos n) x) (length-rel _ _ r) (seen_at-rel vs ws 1 rs)) (λ to.
        subst (λ n. RelatedAnswers R (AllRelated R) (Ok (between from (relative (length es) to) es)) (Ok (between from (relative n to) es'))) (length-rel _ _ r)
        (ok _ _ (take-rel _ _ _ (drop-rel _ _ _ r))))

    pub slice_of-rel : (es es' vs ws : List Value) → AllRelated R es es' → AllRelated R vs ws → RelatedAnswers R (AllRelated R) (slice_of es vs) (slice_of es' ws)
    slice_of-rel es es' vs ws r rs = data-rel R (AllRelated R) _ _ _ _ (ap (number_or (pos 0)) (seen_at-rel vs ws 0 rs)) (λ from.
        subst (λ n. RelatedAnswers R (AllRelated R) (slice_part es (relative (length es) from) vs) (slice_part es' (relative n from) ws)) (length-rel _ _ r) (slice_part-rel es es' (relative (length es) from) vs ws r rs))

    pub slice-rel : (this that : Value) (vs ws : List Value) → Related R this that → AllRelated R vs ws → RelatedAnswers R (RelatedDeeds R) (slice this vs h) (slice that ws k)
    slice-rel this that vs ws r rs = then-rel RelatedObject (RelatedDeeds R) _ _ _ _ (array_of-rel this that r) (λ o p ro.
        then-rel (AllRelated R) (RelatedDeeds R) _ _ _ _ (slice_of-rel _ _ vs ws (hk.elements o.index p.index ro) rs) (λ xs ys rx. ok _ _ (makes_array xs ys rx)))

    pub truth-rel : (b c : Bool) → b ≡ c → RelatedAnswers R (RelatedDeeds R) (truth b) (truth c)
    truth-rel b c e = subst (λ x. RelatedAnswers R (RelatedDeeds R) (truth b) (truth x)) e (ok _ _ (give _ _ (plain (primitive.Boolean b))))

    pub is_frozen-rel : (v w : Value) → Related R v w → is_frozen_in h v ≡ is_frozen_in k w
    is_frozen-rel v w (plain p) = refl
    is_frozen-rel v w (refs o p r) = hk.frozen o.index p.index r

    pub is_array-rel : (v w : Value) → Related R v w → is_array_in h v ≡ is_array_in k w
    is_array-rel v w (plain p) = refl
    is_array-rel v w (refs o p r) = hk.arrays o.index p.index r

    pub is_function-rel : (v w : Value) → Related R v w → is_function_in h v ≡ is_function_in k w
    is_function-rel v w (plain p) = refl
    is_function-rel v w (refs o p r) = hk.functions o.index p.index r

    pub function_to_string-rel : (this that : Value) → Related R this that → RelatedAnswers R (RelatedDeeds R) (function_to_string this h) (function_to_string that k)
    function_to_string-rel this that r = if-rel (RelatedDeeds R) _ _ _ _ _ _ (is_function-rel this that r) (err (Refuse kind.Text)) (err (Throw WrongReceiver))

    pub parent-rel : (v w : Value) → Related R v w → RelatedAnswers R (InBoth RelatedObject) (parent_of v) (parent_of w)
    parent-rel v w (refs o p r) = ok _ _ (both o p r)
    parent-rel v w (plain primitive.Null) = ok _ _ neither
    parent-rel v w (plain primitive.Undefined) = err (Throw NotAnObject)
    parent-rel v w (plain (primitive.Boolean b)) = err (Throw NotAnObject)
    parent-rel v w (plain (primitive.Number b)) = err (Throw NotAnObject)
    parent-rel v w (plain (primitive.Text b)) = err (Throw NotAnObject)

    pub plain_object-rel : (a b : Option Object) (v w : Value) → InBoth RelatedObject a b → Related R v w → RelatedAnswers R (RelatedDeeds R) (plain_object a v) (plain_object b w)
    plain_object-rel a b v w ra (refs o p r) = err (Refuse kind.Convert)
    plain_object-rel a b v w ra (plain primitive.Undefined) = ok _ _ (makes_object a b ra)
    plain_object-rel a b v w ra (plain primitive.Null) = err (Refuse kind.Convert)
    plain_object-rel a b v w ra (plain (primitive.Boolean x)) = err (Refuse kind.Convert)
    plain_object-rel a b v w ra (plain (primitive.Number x)) = err (Refuse kind.Convert)
    plain_object-rel a b v w ra (plain (primitive.Text x)) = err (Refuse kind.Convert)

    pub create-rel : (vs ws : List Value) → AllRelated R vs ws → RelatedAnswers R (RelatedDeeds R) (create vs) (create ws)
    create-rel vs ws rs = then-rel (InBoth RelatedObject) (RelatedDeeds R) _ _ _ _ (parent-rel _ _ (value_at-rel vs ws 0 rs)) (λ a b ra. plain_object-rel a b _ _ ra (value_at-rel vs ws 1 rs))

    abbrev pub SameBool : Bool → Bool → Type 0
    SameBool b c = b ≡ c

    pub has_own-rel : (v w : Value) (key : List ℕ) → Related R v w → RelatedAnswers R SameBool (has_own h v key) (has_own k w key)
    has_own-rel v w key (refs o p r) = ok _ _ (hk.has o.index p.index r key)
    has_own-rel v w key (plain primitive.Undefined) = err (Throw NoProperties)
    has_own-rel v w key (plain primitive.Null) = err (Throw NoProperties)
    has_own-rel v w key (plain (primitive.Boolean b)) = ok _ _ refl
    has_own-rel v w key (plain (primitive.Number n)) = ok _ _ refl
    has_own-rel v w key (plain (primitive.Text us)) = ok _ _ refl

    pub has_own_property-rel : (this that : Value) (vs ws : List Value) → Related R this that → AllRelated R vs ws → RelatedAnswers R (RelatedDeeds R) (has_own_property this vs h) (has_own_property that ws k)
    has_own_property-rel this that vs ws r rs = data-rel R (RelatedDeeds R) _ _ _ _ (ap to_text (seen_at-rel vs ws 0 rs)) (λ key.
        then-rel SameBool (RelatedDeeds R) _ _ _ _ (has_own-rel this that key r) (λ b c e. truth-rel b c e))

    pub unshift-rel : (this that : Value) (vs ws : List Value) → Related R this that → AllRelated R vs ws → RelatedAnswers R (RelatedDeeds R) (unshift this vs h) (unshift that ws k)
    unshift-rel this that vs ws r rs = then-rel RelatedObject (RelatedDeeds R) _ _ _ _ (array_of-rel this that r) (λ o p ro.
        let es = hk.elements o.index p.index ro in
        let n = ap₂ (λ (i j : ℕ). value.Primitive (primitive.Number (pos (i + j)))) (length-rel _ _ rs) (length-rel _ _ es) in
        changes-rel o p _ _ ro (replace o p ro _ _ (joined-rel vs ws _ _ rs es) _ _ (subst (λ x. Related R (value.Primitive (primitive.Number (pos (length vs + length (elements_of h o.index))))) x) n (plain _))))

    pub joining-rel : (v w : Value) → Related R v w → joining v ≡ joining w
    joining-rel v w (refs o p r) = refl
    joining-rel v w (plain p) = refl

    pub joinings-rel : (vs ws : List Value) → AllRelated R vs ws → map joining vs ≡ map joining ws
    joinings-rel vs ws none = refl
    joinings-rel vs ws (more v w r vs' ws' rs) = ap₂ (λ x xs. x ∷ xs) (joining-rel v w r) (joinings-rel vs' ws' rs)

    pub join-rel : (this that : Value) (vs ws : List Value) → Related R this that → AllRelated R vs ws → RelatedAnswers R (RelatedDeeds R) (join this vs h) (join that ws k)
    join-rel this that vs ws r rs = then-rel RelatedObject (RelatedDeeds R) _ _ _ _ (array_of-rel this that r) (λ o p ro.
        data-rel R (RelatedDeeds R) _ _ _ _ (ap separator_of (seen_at-rel vs ws 0 rs)) (λ separator.
        data-rel R (RelatedDeeds R) _ _ _ _ (ap (joined separator) (joinings-rel _ _ (hk.elements o.index p.index ro))) (λ us. ok _ _ (give _ _ (plain (primitive.Text us))))))

    pub strictly_equal-rel : (v w v' w' : Value) → Related R v w → Related R v' w' → strictly_equal v v' ≡ strictly_equal w w'
    strictly_equal-rel v w v' w' (plain p) (plain q) = refl
    strictly_equal-rel v w v' w' (plain p) (refs o q r) = refl
    strictly_equal-rel v w v' w' (refs o q r) (plain p) = refl
    strictly_equal-rel v w v' w' (refs o p r) (refs o' p' r') = hk.one_to_one o.index o'.index p.index p'.index r r'

    pub spread-rel : (v w : Value) → Related R v w → AllRelated R (spread h v) (spread k w)
    spread-rel v w (plain p) = more _ _ (plain p) [] [] none
    spread-rel v w (refs o p r) =
        let left : Bool → List Value = λ b. if b then elements_of h o.index else value.Object o ∷ [] in
        let right : Bool → List Value = λ b. if b then elements_of k p.index else value.Object p ∷ [] in
        subst (λ b. AllRelated R (left (is_array_in h (value.Object o))) (right b)) (hk.arrays o.index p.index r)
        (elim (is_array_in h (value.Object o)) as (λ b. AllRelated R (left b) (right b)) [
          | true ↦ hk.elements o.index p.index r
          | false ↦ more _ _ (refs o p r) [] [] none
        ])

    pub spreads-rel : (vs ws : List Value) → AllRelated R vs ws → AllRelated R (flat_map (spread h) vs) (flat_map (spread k) ws)
    spreads-rel vs ws none = none
    spreads-rel vs ws (more v w r vs' ws' rs) = joined-rel _ _ _ _ (spread-rel v w r) (spreads-rel vs' ws' rs)

    pub concat-rel : (this that : Value) (vs ws : List Value) → Related R this that → AllRelated R vs ws → RelatedAnswers R (RelatedDeeds R) (concat this vs h) (concat that ws k)
    concat-rel this that vs ws r rs = then-rel RelatedObject (RelatedDeeds R) _ _ _ _ (array_of-rel this that r) (λ o p ro.
        ok _ _ (makes_array _ _ (joined-rel _ _ _ _ (hk.elements o.index p.index ro) (spreads-rel vs ws rs))))

    pub found-rel : (a b : Option Value) → InBoth (Related R) a b → Related R (or_undefined a) (or_undefined b)
    found-rel a b neither = plain primitive.Undefined
    found-rel a b (both v w r) = r

    pub at_indices-rel : (o p n i : ℕ) → R o p → AllRelated R (at_indices h o n i) (at_indices k p n i)
    at_indices-rel o p zero i r = none
    at_indices-rel o p (suc n) i r = more _ _ (found-rel _ _ (hk.gets o p r (decimal_text (pos i)))) _ _ (at_indices-rel o p n (suc i) r)

    pub length_of-rel : (a b : Option Value) → InBoth (Related R) a b → length_of a ≡ length_of b
    length_of-rel a b neither = refl
    length_of-rel a b (both v w r) = ap (λ x. to_number x >>= λ n. Ok (count_of n)) (seen-rel R v w r)

    pub listed_of-rel : (o p : ℕ) → R o p → RelatedAnswers R (AllRelated R) (listed_of h o) (listed_of k p)
    listed_of-rel o p r = if-rel (AllRelated R) _ _ (Ok (elements_of h o)) _ (Ok (elements_of k p)) _ (hk.arrays o p r) (ok _ _ (hk.elements o p r))
        (data-rel R (AllRelated R) _ _ _ _ (length_of-rel _ _ (hk.gets o p r array_length)) (λ n. ok _ _ (at_indices-rel o p n 0 r)))

    pub listed-rel : (v w : Value) → Related R v w → RelatedAnswers R (AllRelated R) (listed h v) (listed k w)
    listed-rel v w (refs o p r) = listed_of-rel o.index p.index r
    listed-rel v w (plain primitive.Undefined) = ok _ _ none
    listed-rel v w (plain primitive.Null) = ok _ _ none
    listed-rel v w (plain (primitive.Boolean b)) = err (Throw NotAnObject)
    listed-rel v w (plain (primitive.Number n)) = err (Throw NotAnObject)
    listed-rel v w (plain (primitive.Text us)) = err (Throw NotAnObject)

    pub apply-rel : (this that : Value) (vs ws : List Value) → Related R this that → AllRelated R vs ws → RelatedAnswers R (RelatedDeeds R) (apply this vs h) (apply that ws k)
    apply-rel this that vs ws r rs = then-rel (Related R) (RelatedDeeds R) _ _ _ _ (function_of-rel this that r) (λ f g rf.
        then-rel (AllRelated R) (RelatedDeeds R) _ _ _ _ (listed-rel _ _ (value_at-rel vs ws 1 rs)) (λ xs ys rx. ok _ _ (enter f g rf _ _ (value_at-rel vs ws 0 rs) xs ys rx)))

    pub place_or-rel : (a : Option ℕ) → Related R (place_or a) (place_or a)
    place_or-rel None = plain (primitive.Number (negsuc 0))
    place_or-rel (Some n) = plain (primitive.Number (pos n))

    abbrev pub SamePlace : Option ℕ → Option ℕ → Type 0
    SamePlace a b = a ≡ b

    pub prefix-rel : (v w : Value) (vs ws : List Value) → Related R v w → AllRelated R vs ws → position_or_len (strictly_equal v) vs ≡ position_or_len (strictly_equal w) ws
    prefix-rel v w vs ws r none = refl
    prefix-rel v w vs ws r (more v' w' r' vs' ws' rs) =
        let one = strictly_equal-rel v w v' w' r r' in
        let rest = prefix-rel v w vs' ws' r rs in
        rw (one, rest) refl

    pub position-rel : (v w : Value) (vs ws : List Value) → Related R v w → AllRelated R vs ws → position (strictly_equal v) vs ≡ position (strictly_equal w) ws
    position-rel v w vs ws r rs = ap₂ (λ n m. cond (nat_lt n m) (Some n) None) (prefix-rel v w vs ws r rs) (length-rel vs ws rs)

    pub found_in-rel : (vs ws es es' : List Value) → AllRelated R vs ws → AllRelated R es es' → RelatedAnswers R SamePlace (found_in vs es) (found_in ws es')
    found_in-rel vs ws es es' rs none = ok _ _ refl
    found_in-rel vs ws es es' rs (more v w r us us' rus) = data-rel R SamePlace _ _ _ _ (ap (number_or (pos 0)) (seen_at-rel vs ws 1 rs)) (λ n.
        subst (λ m. RelatedAnswers R SamePlace (Ok (place_from (relative (suc (length us)) n) (value_at vs 0) (v ∷ us))) (Ok (place_from (relative (suc m) n) (value_at ws 0) (w ∷ us')))) (length-rel us us' rus)
        (ok _ _ (ap (moved_place (relative (suc (length us)) n)) (position-rel _ _ _ _ (value_at-rel vs ws 0 rs) (drop-rel (relative (suc (length us)) n) _ _ (more v w r us us' rus))))))

    pub includes-rel : (this that : Value) (vs ws : List Value) → Related R this that → AllRelated R vs ws → RelatedAnswers R (RelatedDeeds R) (includes this vs h) (includes that ws k)
    includes-rel this that vs ws r rs = then-rel RelatedObject (RelatedDeeds R) _ _ _ _ (array_of-rel this that r) (λ o p ro.
        then-rel SamePlace (RelatedDeeds R) _ _ _ _ (found_in-rel vs ws _ _ rs (hk.elements o.index p.index ro)) (λ a b e. truth-rel _ _ (ap is_some e)))

    pub index_of-rel : (this that : Value) (vs ws : List Value) → Related R this that → AllRelated R vs ws → RelatedAnswers R (RelatedDeeds R) (index_of this vs h) (index_of that ws k)
    index_of-rel this that vs ws r rs = then-rel RelatedObject (RelatedDeeds R) _ _ _ _ (array_of-rel this that r) (λ o p ro.
        then-rel SamePlace (RelatedDeeds R) _ _ _ _ (found_in-rel vs ws _ _ rs (hk.elements o.index p.index ro)) (λ a b e.
        subst (λ x. RelatedAnswers R (RelatedDeeds R) (Ok (deed.Give (place_or a))) (Ok (deed.Give (place_or x)))) e (ok _ _ (give _ _ (place_or-rel a)))))

    pub reversed-rel : (vs ws : List Value) → AllRelated R vs ws → AllRelated R (reverse vs) (reverse ws)
    reversed-rel vs ws none = none
    reversed-rel vs ws (more v w r vs' ws' rs) =
        subst (λ x. AllRelated R (reverse (v ∷ vs')) x) (sym (reverse_onto ws' w [])) (subst (λ x. AllRelated R x (reverse ws' ++ w ∷ [])) (sym (reverse_onto vs' v []))
        (joined-rel (reverse vs') (reverse ws') (v ∷ []) (w ∷ []) (reversed-rel vs' ws' rs) (more v w r [] [] none)))

    pub reverse-rel : (this that : Value) → Related R this that → RelatedAnswers R (RelatedDeeds R) (reverse_it this h) (reverse_it that k)
    reverse-rel this that r = then-rel RelatedObject (RelatedDeeds R) _ _ _ _ (array_of-rel this that r) (λ o p ro.
        let es = hk.elements o.index p.index ro in
        if-rel (RelatedDeeds R) _ _ _ _ _ _ (ap (λ n. nat_lt n 2) (length-rel _ _ es)) (ok _ _ (give _ _ (refs o p ro)))
        (changes-rel o p _ _ ro (replace o p ro _ _ (reversed-rel _ _ es) _ _ (refs o p ro))))

    pub objects-rel : (f : OnObjects) (this that : Value) (vs ws : List Value) → Related R this that → AllRelated R vs ws → RelatedAnswers R (RelatedDeeds R) (of_objects f this vs h) (of_objects f that ws k)
    objects-rel on_objects.Assign this that vs ws r rs = assign-rel vs ws rs
    objects-rel on_objects.Create this that vs ws r rs = create-rel vs ws rs
    objects-rel on_objects.Freeze this that vs ws r rs = freeze-rel _ _ (value_at-rel vs ws 0 rs)
    objects-rel on_objects.GetPrototypeOf this that vs ws r rs = get_prototype_of-rel vs ws rs
    objects-rel on_objects.IsFrozen this that vs ws r rs = truth-rel _ _ (is_frozen-rel _ _ (value_at-rel vs ws 0 rs))
    objects-rel on_objects.Keys this that vs ws r rs = keys-rel vs ws rs
    objects-rel on_objects.HasOwnProperty this that vs ws r rs = has_own_property-rel this that vs ws r rs
    objects-rel on_objects.Apply this that vs ws r rs = apply-rel this that vs ws r rs
    objects-rel on_objects.Call this that vs ws r rs = call-rel this that vs ws r rs
    objects-rel on_objects.FunctionToString this that vs ws r rs = function_to_string-rel this that r
    objects-rel on_objects.IsArray this that vs ws r rs = truth-rel _ _ (is_array-rel _ _ (value_at-rel vs ws 0 rs))
    objects-rel on_objects.Concat this that vs ws r rs = concat-rel this that vs ws r rs
    objects-rel on_objects.Includes this that vs ws r rs = includes-rel this that vs ws r rs
    objects-rel on_objects.IndexOf this that vs ws r rs = index_of-rel this that vs ws r rs
    objects-rel on_objects.Join this that vs ws r rs = join-rel this that vs ws r rs
    objects-rel on_objects.Pop this that vs ws r rs = pop-rel this that r
    objects-rel on_objects.Push this that vs ws r rs = push-rel this that vs ws r rs
    objects-rel on_objects.Reverse this that vs ws r rs = reverse-rel this that r
    objects-rel on_objects.Shift this that vs ws r rs = shift-rel this that r
    objects-rel on_objects.Slice this that vs ws r rs = slice-rel this that vs ws r rs
    objects-rel on_objects.Unshift this that vs ws r rs = unshift-rel this that vs ws r rs

    -- Constructors

    fresh-rel : RelatedAnswers R (RelatedDeeds R) fresh_object fresh_object
    fresh-rel = ok _ _ (makes_object _ _ (both _ _ hk.object_prototype))

    make_object-rel : (v w : Value) → Related R v w → RelatedAnswers R (RelatedDeeds R) (make_object v) (make_object w)
    make_object-rel v w (refs o p r) = ok _ _ (give _ _ (refs o p r))
    make_object-rel v w (plain primitive.Undefined) = fresh-rel
    make_object-rel v w (plain primitive.Null) = fresh-rel
    make_object-rel v w (plain (primitive.Boolean b)) = err (Refuse kind.Convert)
    make_object-rel v w (plain (primitive.Number n)) = err (Refuse kind.Convert)
    make_object-rel v w (plain (primitive.Text us)) = err (Refuse kind.Convert)

    array_of_length-rel : (n : ℤ) → RelatedAnswers R (RelatedDeeds R) (array_of_length n) (array_of_length n)
    array_of_length-rel (pos zero) = ok _ _ (makes_array [] [] none)
    array_of_length-rel (pos (suc n)) = err (Refuse kind.Sparse)
    array_of_length-rel (negsuc n) = err (Throw BadLength)

    make_array-rel : (vs ws : List Value) → AllRelated R vs ws → RelatedAnswers R (RelatedDeeds R) (make_array vs) (make_array ws)
    make_array-rel vs ws none = ok _ _ (makes_array _ _ none)
    make_array-rel vs ws (more v w (refs o p r) vs' ws' none) = ok _ _ (makes_array _ _ (more v w (refs o p r) vs' ws' none))
    make_array-rel vs ws (more v w (plain primitive.Undefined) vs' ws' none) = ok _ _ (makes_array _ _ (more v w (plain primitive.Undefined) vs' ws' none))
    make_array-rel vs ws (more v w (plain primitive.Null) vs' ws' none) = ok _ _ (makes_array _ _ (more v w (plain primitive.Null) vs' ws' none))
    make_array-rel vs ws (more v w (plain (primitive.Boolean b)) vs' ws' none) = ok _ _ (makes_array _ _ (more v w (plain (primitive.Boolean b)) vs' ws' none))
    make_array-rel vs ws (more v w (plain (primitive.Text us)) vs' ws' none) = ok _ _ (makes_array _ _ (more v w (plain (primitive.Text us)) vs' ws' none))
    make_array-rel vs ws (more v w (plain (primitive.Number n)) vs' ws' none) = array_of_length-rel n
    make_array-rel vs ws (more v w (refs o p r) vs' ws' (more a b c as' bs' cs)) = ok _ _ (makes_array _ _ (more v w (refs o p r) vs' ws' (more a b c as' bs' cs)))
    make_array-rel vs ws (more v w (plain primitive.Undefined) vs' ws' (more a b c as' bs' cs)) = ok _ _ (makes_array _ _ (more v w (plain primitive.Undefined) vs' ws' (more a b c as' bs' cs)))
    make_array-rel vs ws (more v w (plain primitive.Null) vs' ws' (more a b c as' bs' cs)) = ok _ _ (makes_array _ _ (more v w (plain primitive.Null) vs' ws' (more a b c as' bs' cs)))
    make_array-rel vs ws (more v w (plain (primitive.Boolean x)) vs' ws' (more a b c as' bs' cs)) = ok _ _ (makes_array _ _ (more v w (plain (primitive.Boolean x)) vs' ws' (more a b c as' bs' cs)))
    make_array-rel vs ws (more v w (plain (primitive.Text x)) vs' ws' (more a b c as' bs' cs)) = ok _ _ (makes_array _ _ (more v w (plain (primitive.Text x)) vs' ws' (more a b c as' bs' cs)))
    make_array-rel vs ws (more v w (plain (primitive.Number x)) vs' ws' (more a b c as' bs' cs)) = ok _ _ (makes_array _ _ (more v w (plain (primitive.Number x)) vs' ws' (more a b c as' bs' cs)))

    make_text-rel : (vs ws : List Value) → AllRelated R vs ws → RelatedAnswers R (RelatedDeeds R) (make_text vs) (make_text ws)
    make_text-rel vs ws none = ok _ _ (give _ _ (plain (primitive.Text [])))
    make_text-rel vs ws (more v w r vs' ws' rs) = data-rel R (RelatedDeeds R) _ _ _ _ (ap to_text (seen-rel R v w r)) (λ us. ok _ _ (give _ _ (plain (primitive.Text us))))

    make_number-rel : (vs ws : List Value) → AllRelated R vs ws → RelatedAnswers R (RelatedDeeds R) (make_number vs) (make_number ws)
    make_number-rel vs ws none = ok _ _ (give _ _ (plain (primitive.Number (pos 0))))
    make_number-rel vs ws (more v w r vs' ws' rs) = data-rel R (RelatedDeeds R) _ _ _ _ (ap to_number (seen-rel R v w r)) (λ n. ok _ _ (give _ _ (plain (primitive.Number n))))

    unless-rel : (b : Bool) (m n : Or Deed) → RelatedAnswers R (RelatedDeeds R) m n → RelatedAnswers R (RelatedDeeds R) (unless_constructed b m) (unless_constructed b n)
    unless-rel true m n r = err (Refuse kind.Convert)
    unless-rel false m n r = r

    boolean-rel : (v w : Value) → Related R v w → to_boolean v ≡ to_boolean w
    boolean-rel v w (plain p) = refl
    boolean-rel v w (refs o p r) = refl

    error-same : (e : ErrorKind) (x : Seen) → RelatedAnswers R (RelatedDeeds R) (make_error e x) (make_error e x)
    error-same e None = err (Refuse kind.Convert)
    error-same e (Some primitive.Undefined) = ok _ _ (makes_error e None)
    error-same e (Some primitive.Null) = ok _ _ (makes_error e _)
    error-same e (Some (primitive.Boolean b)) = ok _ _ (makes_error e _)
    error-same e (Some (primitive.Number n)) = ok _ _ (makes_error e _)
    error-same e (Some (primitive.Text us)) = ok _ _ (makes_error e _)

    error-rel : (e : ErrorKind) (x y : Seen) → x ≡ y → RelatedAnswers R (RelatedDeeds R) (make_error e x) (make_error e y)
    error-rel e x y is = subst (λ z. RelatedAnswers R (RelatedDeeds R) (make_error e x) (make_error e z)) is (error-same e x)

    constructor-rel : (f : Constructor) (c : Bool) (vs ws : List Value) → AllRelated R vs ws → RelatedAnswers R (RelatedDeeds R) (of_constructor f c vs) (of_constructor f c ws)
    constructor-rel make.Object c vs ws rs = make_object-rel _ _ (value_at-rel vs ws 0 rs)
    constructor-rel make.Array c vs ws rs = make_array-rel vs ws rs
    constructor-rel make.String c vs ws rs = unless-rel c _ _ (make_text-rel vs ws rs)
    constructor-rel make.Number c vs ws rs = unless-rel c _ _ (make_number-rel vs ws rs)
    constructor-rel make.Boolean c vs ws rs = unless-rel c _ _ (truth-rel _ _ (boolean-rel _ _ (value_at-rel vs ws 0 rs)))
    constructor-rel (make.Error e) c vs ws rs = error-rel e _ _ (seen_at-rel vs ws 0 rs)

    require-rel : (v w : Value) → Related R v w → RelatedAnswers R (RelatedDeeds R) (require v) (require w)
    require-rel v w (refs o p r) = err (Throw NotAText)
    require-rel v w (plain primitive.Undefined) = err (Throw NotAText)
    require-rel v w (plain primitive.Null) = err (Throw NotAText)
    require-rel v w (plain (primitive.Boolean b)) = err (Throw NotAText)
    require-rel v w (plain (primitive.Number n)) = err (Throw NotAText)
    require-rel v w (plain (primitive.Text us)) = ok _ _ (required us)

    called-rel : (c : Bool) (m n : Or Deed) → RelatedAnswers R (RelatedDeeds R) m n → RelatedAnswers R (RelatedDeeds R) (called c m) (called c n)
    called-rel true m n r = err (Throw NotAConstructor)
    called-rel false m n r = r

    pub all-rel : (f : BuiltIn) (c : Bool) (this that : Value) (vs ws : List Value) → Related R this that → AllRelated R vs ws → RelatedAnswers R (RelatedDeeds R) (done_by f c this vs h) (done_by f c that ws k)
    all-rel (built_in.OnData f) c this that vs ws r rs = data_related R f c this that vs ws h k r rs
    all-rel (built_in.OnObjects f) c this that vs ws r rs = called-rel c _ _ (objects-rel f this that vs ws r rs)
    all-rel (built_in.Constructor f) c this that vs ws r rs = constructor-rel f c vs ws rs
    all-rel built_in.Require c this that vs ws r rs = called-rel c _ _ (require-rel _ _ (value_at-rel vs ws 0 rs))
