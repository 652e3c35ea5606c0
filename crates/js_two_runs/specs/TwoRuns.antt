-- Two runs whose heaps are related: the objects of one stand for objects of the other, whatever their numbers are.
use Rattle.std.specs.Prelude.{◌≡◌, ℕ, ◌==◌, Bool, List, [], ◌∷◌, Option, None, Some, Ok, Err, is_some}
use Rattle.js_value.specs.declared.value.Value.{Value}
use Rattle.js_value.specs.declared.value.Value.TheVariants as value
use Rattle.js_value.specs.declared.value.Object.{Object}
use Rattle.js_value.specs.declared.value.Primitive.{Primitive}
use Rattle.js_value.specs.declared.error_kind.ErrorKind.{ErrorKind}
use Rattle.js_value.specs.declared.built_in.BuiltIn.{BuiltIn}
use Rattle.js_value.specs.declared.built_in.Place.TheVariants as place
use Rattle.js_value.specs.declared.deed.Halt.{Halt}
use Rattle.js_value.specs.declared.deed.Deed.{Deed}
use Rattle.js_value.specs.declared.deed.Deed.TheVariants as deed
use Rattle.js_value.specs.State.{Heap}
use Rattle.js_value.specs.Objects.{object_at, kind_of, is_array, is_function, elements_of, keys, own, get}
use Rattle.js_value.specs.Realm.{number_of}
use Rattle.js_value.specs.Host.{Or, done_by}
use Rattle.js_two_runs.specs.Pairs.{Pairs, Paired}

-- nothing in both, or what is related
pub data InBoth {A : Type 0} (Rel : A → A → Type 0) : Option A → Option A → Type 0 where
  neither : InBoth Rel None None
  both : (a b : A) → Rel a b → InBoth Rel (Some a) (Some b)

module _ (R : ℕ → ℕ → Type 0) where
  -- the same primitive value, or objects that stand for each other
  pub data Related : Value → Value → Type 0 where
    plain : (p : Primitive) → Related (value.Primitive p) (value.Primitive p)
    refs : (o p : Object) → R o.index p.index → Related (value.Object o) (value.Object p)

  -- values one by one
  pub data AllRelated : List Value → List Value → Type 0 where
    none : AllRelated [] []
    more : (v w : Value) → Related v w → (vs ws : List Value) → AllRelated vs ws → AllRelated (v ∷ vs) (w ∷ ws)

  -- the same deed on values that are related
  pub data RelatedDeeds : Deed → Deed → Type 0 where
    give : (v w : Value) → Related v w → RelatedDeeds (deed.Give v) (deed.Give w)
    line : (us : List ℕ) → RelatedDeeds (deed.Line us) (deed.Line us)
    makes_array : (vs ws : List Value) → AllRelated vs ws → RelatedDeeds (deed.MakeArray vs) (deed.MakeArray ws)
    makes_object : (a b : Option Object) → InBoth (λ (o p : Object). R o.index p.index) a b → RelatedDeeds (deed.MakeObject a) (deed.MakeObject b)
    makes_error : (k : ErrorKind) → (message : Option (List ℕ)) → RelatedDeeds (deed.MakeError k message) (deed.MakeError k message)
    append : (o p : Object) → R o.index p.index → (vs ws : List Value) → AllRelated vs ws → RelatedDeeds (deed.Append o vs) (deed.Append p ws)
    cut : (o p : Object) → R o.index p.index → (n : ℕ) → (v w : Value) → Related v w → RelatedDeeds (deed.Cut o n v) (deed.Cut p n w)
    replace : (o p : Object) → R o.index p.index → (vs ws : List Value) → AllRelated vs ws → (v w : Value) → Related v w →
        RelatedDeeds (deed.Replace o vs v) (deed.Replace p ws w)
    freeze : (o p : Object) → R o.index p.index → RelatedDeeds (deed.Freeze o) (deed.Freeze p)
    copy : (o p : Object) → R o.index p.index → (vs ws : List Value) → AllRelated vs ws → RelatedDeeds (deed.Copy o vs) (deed.Copy p ws)
    enter : (f g : Value) → Related f g → (v w : Value) → Related v w → (vs ws : List Value) → AllRelated vs ws →
        RelatedDeeds (deed.Enter f v vs) (deed.Enter g w ws)
    require : (us : List ℕ) → RelatedDeeds (deed.Require us) (deed.Require us)

  -- related answers, or the same complaint
  pub data RelatedAnswers {A : Type 0} (Rel : A → A → Type 0) : Or A → Or A → Type 0 where
    ok : (a b : A) → Rel a b → RelatedAnswers Rel (Ok a) (Ok b)
    err : (h : Halt) → RelatedAnswers Rel (Err h) (Err h)

  -- what a built-in function can see of two heaps is related
  pub record RelatedHeaps (h k : Heap) : Type 0 where
    pub one_to_one : (o o' p p' : ℕ) → R o p → R o' p' → (o == o') ≡ (p == p')
    pub arrays : (o p : ℕ) → R o p → is_array (kind_of h o) ≡ is_array (kind_of k p)
    pub functions : (o p : ℕ) → R o p → is_function (kind_of h o) ≡ is_function (kind_of k p)
    pub frozen : (o p : ℕ) → R o p → (object_at h o).frozen ≡ (object_at k p).frozen
    pub prototypes : (o p : ℕ) → R o p → InBoth R (object_at h o).prototype (object_at k p).prototype
    pub elements : (o p : ℕ) → R o p → AllRelated (elements_of h o) (elements_of k p)
    pub keys : (o p : ℕ) → R o p → keys h o ≡ keys k p
    pub has : (o p : ℕ) → R o p → (key : List ℕ) → is_some (own h o key) ≡ is_some (own k p key)
    pub gets : (o p : ℕ) → R o p → (key : List ℕ) → InBoth Related (get h o key) (get k p key)
    -- the object that objects inherit from stands for itself
    pub object_prototype : R (number_of place.ObjectPrototype) (number_of place.ObjectPrototype)

-- every built-in function does related deeds for related values on related heaps
abbrev pub AllBuiltInsRelated : Type 0
AllBuiltInsRelated = (pairs : Pairs) (f : BuiltIn) (constructing : Bool) (this that : Value) (vs ws : List Value) (h k : Heap) →
    RelatedHeaps (Paired pairs) h k → Related (Paired pairs) this that → AllRelated (Paired pairs) vs ws →
    RelatedAnswers (Paired pairs) (RelatedDeeds (Paired pairs)) (done_by f constructing this vs h) (done_by f constructing that ws k)
