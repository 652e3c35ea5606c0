-- The built-in functions that look at no object, in two runs.
use Rattle.std.proofs.Common.{◌≡◌, ℕ, Bool, true, false, List, [], ◌∷◌, map, Ok, Err, refl, subst, ap₂}
use Rattle.js_value.specs.declared.value.Value.{Value}
use Rattle.js_value.specs.declared.value.Value.TheVariants as value
use Rattle.js_value.specs.declared.value.Primitive.TheVariants as primitive
use Rattle.js_value.specs.declared.built_in.BuiltIn.TheVariants as built_in
use Rattle.js_value.specs.declared.built_in.OnData.{OnData}
use Rattle.js_value.specs.declared.deed.Halt.TheVariants.{Throw}
use Rattle.js_value.specs.declared.deed.Complaint.TheVariants.{NotAConstructor}
use Rattle.js_value.specs.declared.deed.Datum.{Datum}
use Rattle.js_value.specs.declared.deed.Datum.TheVariants as datum
use Rattle.js_value.specs.State.{Heap}
use Rattle.js_value.specs.Realm.{text}
use Rattle.js_value.specs.Host.{Or, ◌>>=◌, seen, of_data, deed_of, done_by}
use Rattle.js_two_runs.specs.TwoRuns.{Related, plain, refs, AllRelated, none, more, RelatedDeeds, give, makes_array, line, RelatedAnswers, ok, err}

module _ (R : ℕ → ℕ → Type 0) where
  pub seen-rel : (v w : Value) → Related R v w → seen v ≡ seen w
  seen-rel v w (plain p) = refl
  seen-rel v w (refs o p r) = refl

  pub seen-rels : (vs ws : List Value) → AllRelated R vs ws → map seen vs ≡ map seen ws
  seen-rels vs ws none = refl
  seen-rels vs ws (more v w r vs' ws' rs) = ap₂ (λ x xs. x ∷ xs) (seen-rel v w r) (seen-rels vs' ws' rs)

  -- the same answer of values without references, and then related ones
  pub data-rel : {A B : Type 0} (RB : B → B → Type 0) (m n : Or A) (f g : A → Or B) → m ≡ n → ((a : A) → RelatedAnswers R RB (f a) (g a)) → RelatedAnswers R RB (m >>= f) (n >>= g)
  data-rel {A} {B} RB m n f g e each = subst (λ (x : Or A). RelatedAnswers R RB (m >>= f) (x >>= g)) e (go m)
    where
      go : (x : Or A) → RelatedAnswers R RB (x >>= f) (x >>= g)
      go (Ok a) = each a
      go (Err h) = err h

  pub texts-rel : (ts : List (List ℕ)) → AllRelated R (map text ts) (map text ts)
  texts-rel [] = none
  texts-rel (t ∷ ts) = more (text t) (text t) (plain (primitive.Text t)) (map text ts) (map text ts) (texts-rel ts)

  pub deed_of-rel : (d : Datum) → RelatedDeeds R (deed_of d) (deed_of d)
  deed_of-rel (datum.One p) = give (value.Primitive p) (value.Primitive p) (plain p)
  deed_of-rel (datum.Texts ts) = makes_array (map text ts) (map text ts) (texts-rel ts)
  deed_of-rel (datum.Line us) = line us

  pub data_related : (f : OnData) (constructing : Bool) (this that : Value) (vs ws : List Value) (h k : Heap) → Related R this that → AllRelated R vs ws →
      RelatedAnswers R (RelatedDeeds R) (done_by (built_in.OnData f) constructing this vs h) (done_by (built_in.OnData f) constructing that ws k)
  data_related f true this that vs ws h k r rs = err (Throw NotAConstructor)
  data_related f false this that vs ws h k r rs = data-rel (RelatedDeeds R) (of_data f (seen this) (map seen vs)) (of_data f (seen that) (map seen ws)) (λ d. Ok (deed_of d)) (λ d. Ok (deed_of d))
      (ap₂ (of_data f) (seen-rel this that r) (seen-rels vs ws rs)) (λ d. ok (deed_of d) (deed_of d) (deed_of-rel d))
