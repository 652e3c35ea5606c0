-- The expressions of the first call that read and write the coverage.
use Rattle.std.proofs.Common.{◌≡◌, ℕ, zero, suc, ◌<◌, ◌&&◌, not, true, false, List, [], ◌∷◌, ◌++◌, length, Option, Some, None, Ok, refl, sym, ap, subst, ◌∙◌, arith, if◌then◌else◌}
use Rattle.std.specs.Prelude.{slice_set}
use Rattle.std.specs.Str.{bytes_eq}
use Rattle.js_terms.specs.declared.operators.LogicalOperator.TheVariants as logic
use Rattle.std.proofs.lemmas.List.{get_or_append_left, length_push}
use Rattle.js_terms.specs.declared.words.Spelled.{Spelled}
use Rattle.js_tree.specs.Plain.{Expr, Logical, Unary, Binary, Parenthesized, NamedMember, ObjectLiteral, no_property}
use Rattle.js_value.specs.declared.value.Value.{Value}
use Rattle.js_value.specs.declared.value.Value.TheVariants as value
use Rattle.js_value.specs.declared.value.Primitive.TheVariants as primitive
use Rattle.js_value.specs.declared.built_in.Place.TheVariants.{ObjectPrototype}
use Rattle.js_value.specs.State.{Plain, Property, ObjectRecord, Binding, Heap, Store}
use Rattle.js_value.specs.Objects.{object_at, no_object, new_object, own, own_of, found, found_in, get, assigned, property_of, array_length, is_array, write_of, write_to, Adds, Replaces, ReadOnly, written, set_by, with_object, with_value_of}
use Rattle.js_value.specs.Equality.{strictly_equal}
use Rattle.js_value.specs.OnObjects.{or_undefined}
use Rattle.js_value.specs.Copying.{Copied, taken, as_number, unwritten, write_taken}
use Rattle.js_value.specs.Members.{put_member}
use Rattle.js_value.specs.Functions.{name_units}
use Rattle.js_value.specs.Realm.{number_of, object, text, undefined}
use Rattle.js_value.specs.Running.{on_heap}
use Rattle.js_meaning.specs.declared.outcome.Completion.{Completion}
use Rattle.js_meaning.specs.declared.outcome.Completion.TheVariants.{Normal}
use Rattle.js_meaning.specs.Effects.{Comp, handle}
use Rattle.js_meaning.specs.Program.{Sources}
use Rattle.js_terms.specs.declared.operators.BinaryOperator.TheVariants as binary_operator
use Rattle.js_terms.specs.declared.operators.UnaryOperator.TheVariants as unary_operator
use Rattle.js_tree.specs.Plain.{Block, more_stmt, no_stmt}
use Rattle.js_meaning.specs.Meaning.{operated, operated_unary, Member, with_value, give, done, choose, chosen, read, get_member_of, put_value, unless_halted, comp_expr, comp_stmt}
use Rattle.js_meaning.specs.Points.{Comes, point, onward}
use Rattle.js_value.proofs.LookupLemmas.{get_none as get_none'}
use Rattle.js_counter.specs.First.{does, name_, at_, assigned_, path_, hash_, gcv_, data_, global_, coverage_, data_of_, held_of_, covering, replacing, locals, free, Bare}
use Rattle.js_meaning.proofs.PointLemmas.{point_handle}
use Rattle.js_counter.proofs.Locals.{does_it, e, heap_of, now, local_reads}

pub bare_none : (n : ℕ) (h : Heap) (o : Option ℕ) (key : List ℕ) → Bare h o key → found n h.objects o key ≡ None
bare_none zero h o key b = refl
bare_none (suc n) h None key b = refl
bare_none (suc n) h (Some q) key b =
    ap (λ t. elim t [ Some p ↦ Some (found_in (object_at h q) p) | None ↦ found n h.objects (object_at h q).prototype key ]) b.1
    ∙ ap (λ c. found n h.objects c key) b.2 ∙ nothing n h.objects key
  where
    nothing : (n : ℕ) (objects : List ObjectRecord) (key : List ℕ) → found n objects None key ≡ None
    nothing zero objects key = refl
    nothing (suc n) objects key = refl

-- nothing is found
pub get_none : (h : Heap) (o : ℕ) (key : List ℕ) → own h o key ≡ None → Bare h (object_at h o).prototype key → get h o key ≡ None
get_none h o key e b = get_none' h o key e (bare_none o h (object_at h o).prototype key b)

-- Writes to an object that may be written to

module _ (h : Heap) (o : ℕ) (key : List ℕ) (v : Value) (pr : Option ℕ) (es : List Value) (ps : List Property) (is : object_at h o ≡ free pr es ps) where
  abbrev R : ObjectRecord
  R = free pr es ps

  takes : taken h o key v ≡ Ok v
  takes = ap (λ (r : ObjectRecord). if is_array r.kind && bytes_eq key array_length then as_number v else Ok v) is

  adds : property_of ps key ≡ None → Bare h pr key → write_of h o key v ≡ Adds
  adds none bare =
      ap (λ r. write_to (object_at h o) (own_of r key) (found o h.objects (object_at h o).prototype key) key v) is
      ∙ ap (λ r. write_to r (property_of ps key) (found o h.objects r.prototype key) key v) is
      ∙ ap (λ t. write_to R t (found o h.objects pr key) key v) none
      ∙ ap (λ f. write_to R None f key v) (bare_none o h pr key bare)

  pub put_new : property_of ps key ≡ None → Bare h pr key →
      put_member (object o) (text key) v h ≡ record { heap = with_object o (free pr es (ps ++ assigned key v ∷ [])) h; halt = None }
  put_new none bare =
      ap (λ t. write_taken o key t h) takes
      ∙ ap (λ w. record { heap = with_object o (written (object_at h o) w key v) h; halt = unwritten (set_by w) }) (adds none bare)
      ∙ ap (λ r. record { heap = with_object o (written r Adds key v) h; halt = None }) is

  replaces_it : (p : Property) → property_of ps key ≡ Some p → p.writable ≡ true → write_of h o key v ≡ Replaces
  replaces_it p some may =
      ap (λ r. write_to (object_at h o) (own_of r key) (found o h.objects (object_at h o).prototype key) key v) is
      ∙ ap (λ r. write_to r (property_of ps key) (found o h.objects r.prototype key) key v) is
      ∙ ap (λ t. write_to R t (found o h.objects pr key) key v) some
      ∙ ap (λ b. if (b && true) then Replaces else ReadOnly) may

  pub put_old : (p : Property) → property_of ps key ≡ Some p → p.writable ≡ true →
      put_member (object o) (text key) v h ≡ record { heap = with_object o (free pr es (with_value_of key v ps)) h; halt = None }
  put_old p some may =
      ap (λ t. write_taken o key t h) takes
      ∙ ap (λ w. record { heap = with_object o (written (object_at h o) w key v) h; halt = unwritten (set_by w) }) (replaces_it p some may)
      ∙ ap (λ r. record { heap = with_object o (written r Replaces key v) h; halt = None }) is

-- a member that is written
pub puts : (s : Store) (env o : ℕ) (key : List ℕ) (v : Value) (k : Heap) → put_member (object o) (text key) v s.heap ≡ record { heap = k; halt = None } →
    point (put_value env (Member (object o) (text key)) v) s ≡ Comes (Normal v) (record s { heap = k })
puts s env o key v k e = ap (λ (c : Copied). point (unless_halted c.halt (give v)) (record s { heap = c.heap })) e

-- a member of what a name holds, by the text that another holds
module _ (p : Sources) (s : Store) (outer : ℕ) (X : List ObjectRecord) (bs : List Binding) where
  abbrev t : Store
  t = now s outer X bs

  abbrev E : ℕ
  E = e s outer

  two_names : (x y : List ℕ) (o : ℕ) (key : List ℕ) (k : Value → Completion → Comp) →
      point (read x E) t ≡ Comes (Normal (object o)) t → point (read y E) t ≡ Comes (Normal (text key)) t →
      point (handle (read x E) (with_value (λ base. handle (read y E) (k base)))) t ≡ point (k (object o) (Normal (text key))) t
  two_names x y o key k a b =
      point_handle (read x E) (with_value (λ base. handle (read y E) (k base))) t
      ∙ ap (λ q. onward q (with_value (λ base. handle (read y E) (k base)))) a
      ∙ point_handle (read y E) (k (object o)) t
      ∙ ap (λ q. onward q (k (object o))) b

  pub member_is : (x y : List ℕ) (o : ℕ) (key : List ℕ) (v : Value) →
      point (read x E) t ≡ Comes (Normal (object o)) t → point (read y E) t ≡ Comes (Normal (text key)) t → or_undefined (get (heap_of s outer X bs) o key) ≡ v →
      point (comp_expr p (at_ (name_ x) (name_ y)) E) t ≡ Comes (Normal v) t
  member_is x y o key v a b g = two_names x y o key (λ base. with_value (get_member_of base)) a b ∙ ap (λ w. Comes (Normal w) t) g

  pub member_put : (x y : List ℕ) (o : ℕ) (key : List ℕ) (c : Expr) (v : Value) (mid : Store) (k : Heap) →
      point (read x E) t ≡ Comes (Normal (object o)) t → point (read y E) t ≡ Comes (Normal (text key)) t →
      point (comp_expr p c E) t ≡ Comes (Normal v) mid → put_member (object o) (text key) v mid.heap ≡ record { heap = k; halt = None } →
      point (comp_expr p (assigned_ (at_ (name_ x) (name_ y)) c) E) t ≡ Comes (Normal v) (record mid { heap = k })
  member_put x y o key c v mid k a b g w =
      two_names x y o key (λ base. with_value (λ key. handle (comp_expr p c E) (with_value (put_value E (Member base key))))) a b
      ∙ point_handle (comp_expr p c E) (with_value (put_value E (Member (object o) (text key)))) t
      ∙ ap (λ q. onward q (with_value (put_value E (Member (object o) (text key))))) g
      ∙ puts mid E o key v k w

module _ (p : Sources) (s : Store) (outer : ℕ) (path hash gcv : Spelled) (D : Value) (g : ℕ) where
  abbrev P : Value
  P = text path.units

  abbrev H : Value
  H = text hash.units

  abbrev G : Value
  G = text gcv.units

  abbrev u : Value
  u = undefined

  module _ (X : List ObjectRecord) where
    abbrev bs5 : List Binding
    bs5 = locals P H G D (object g) u u

    abbrev h5 : Heap
    h5 = heap_of s outer X bs5

    reads_global : point (read global_ (e s outer)) (now s outer X bs5) ≡ Comes (Normal (object g)) (now s outer X bs5)
    reads_global = local_reads s outer X bs5 5 global_ (object g) refl refl

    reads_gcv : point (read gcv_ (e s outer)) (now s outer X bs5) ≡ Comes (Normal G) (now s outer X bs5)
    reads_gcv = local_reads s outer X bs5 3 gcv_ G refl refl

    abbrev making : Expr
    making = Parenthesized None (assigned_ held_of_ (ObjectLiteral None no_property))

    -- the coverage is there
    pub covers_there : (c : ℕ) → or_undefined (get h5 g gcv.units) ≡ object c → point (comp_expr p covering (e s outer)) (now s outer X bs5) ≡ Comes (Normal (object c)) (now s outer X bs5)
    covers_there c f =
        point_handle (comp_expr p held_of_ (e s outer)) (with_value (chosen logic.Or (comp_expr p making (e s outer)))) (now s outer X bs5)
        ∙ ap (λ q. onward q (with_value (chosen logic.Or (comp_expr p making (e s outer))))) (member_is p s outer X bs5 global_ gcv_ g gcv.units (object c) reads_global reads_gcv f)

    -- it is not there, and is made
    module _ (pr : Option ℕ) (es : List Value) (ps : List Property) (is : object_at h5 g ≡ free pr es ps) (low : g < length X)
        (none : property_of ps gcv.units ≡ None) (bare : Bare h5 pr gcv.units) where
      abbrev pub made_objects : List ObjectRecord
      made_objects = slice_set (X ++ free (Some (number_of ObjectPrototype)) [] [] ∷ []) g (free pr es (ps ++ assigned gcv.units (object (length X)) ∷ []))

      mid_is : object_at (new_object Plain (Some (number_of ObjectPrototype)) h5) g ≡ free pr es ps
      mid_is = get_or_append_left X _ no_object g low ∙ is

      mid_bare : (pr : Option ℕ) → Bare h5 pr gcv.units → Bare (new_object Plain (Some (number_of ObjectPrototype)) h5) pr gcv.units
      mid_bare None b = tt
      mid_bare (Some q) b = let same = get_or_append_left X (free (Some (number_of ObjectPrototype)) [] [] ∷ []) no_object q b.0 in (
        let l = length_push X (free (Some (number_of ObjectPrototype)) [] []) in let m = b.0 in omega (arith, l, m),
        ap (λ r. own_of r gcv.units) same ∙ b.1,
        ap (λ (r : ObjectRecord). r.prototype) same ∙ b.2,
      )

      pub covers_made : point (comp_expr p covering (e s outer)) (now s outer X bs5) ≡ Comes (Normal (object (length X))) (now s outer made_objects bs5)
      covers_made =
          point_handle (comp_expr p held_of_ (e s outer)) (with_value (chosen logic.Or (comp_expr p making (e s outer)))) (now s outer X bs5)
          ∙ ap (λ q. onward q (with_value (chosen logic.Or (comp_expr p making (e s outer)))))
          (member_is p s outer X bs5 global_ gcv_ g gcv.units undefined reads_global reads_gcv
          (ap or_undefined (get_none h5 g gcv.units (ap (λ r. own_of r gcv.units) is ∙ none) (subst (λ (r : ObjectRecord). Bare h5 r.prototype gcv.units) (sym is) bare))))
          ∙ member_put p s outer X bs5 global_ gcv_ g gcv.units (ObjectLiteral None no_property) (object (length X))
          (on_heap (new_object Plain (Some (number_of ObjectPrototype))) (now s outer X bs5)) (heap_of s outer made_objects bs5) reads_global reads_gcv refl
          (put_new (new_object Plain (Some (number_of ObjectPrototype)) h5) g gcv.units (object (length X)) pr es ps mid_is none (mid_bare pr bare))

  module _ (X : List ObjectRecord) (c : ℕ) where
    abbrev bs6 : List Binding
    bs6 = locals P H G D (object g) (object c) u

    abbrev h6 : Heap
    h6 = heap_of s outer X bs6

    abbrev at6 : Store
    at6 = now s outer X bs6

    abbrev E6 : ℕ
    E6 = e s outer

    reads_coverage : point (read coverage_ E6) at6 ≡ Comes (Normal (object c)) at6
    reads_coverage = local_reads s outer X bs6 6 coverage_ (object c) refl refl

    reads_path : point (read path_ E6) at6 ≡ Comes (Normal P) at6
    reads_path = local_reads s outer X bs6 1 path_ P refl refl

    reads_hash : point (read hash_ E6) at6 ≡ Comes (Normal H) at6
    reads_hash = local_reads s outer X bs6 2 hash_ H refl refl

    reads_data : point (read data_ E6) at6 ≡ Comes (Normal D) at6
    reads_data = local_reads s outer X bs6 4 data_ D refl refl

    -- what is under the path
    pub gets_data : (v : Value) → or_undefined (get h6 c path.units) ≡ v → point (comp_expr p data_of_ E6) at6 ≡ Comes (Normal v) at6
    gets_data v f = member_is p s outer X bs6 coverage_ path_ c path.units v reads_coverage reads_path f

    abbrev pub differs : Expr
    differs = Binary None binary_operator.StrictNotEqual (NamedMember None data_of_ hash_) (name_ hash_)

    abbrev pub test : Expr
    test = Logical None logic.Or (Unary None unary_operator.LogicalNot data_of_) differs

    -- no data are there
    pub test_absent : or_undefined (get h6 c path.units) ≡ undefined → point (comp_expr p test E6) at6 ≡ Comes (Normal (value.Primitive (primitive.Boolean true))) at6
    test_absent f =
        point_handle (handle (comp_expr p data_of_ E6) (with_value (operated_unary unary_operator.LogicalNot))) (with_value (chosen logic.Or (comp_expr p differs E6))) at6
        ∙ ap (λ q. onward q (with_value (chosen logic.Or (comp_expr p differs E6))))
        (point_handle (comp_expr p data_of_ E6) (with_value (operated_unary unary_operator.LogicalNot)) at6
        ∙ ap (λ q. onward q (with_value (operated_unary unary_operator.LogicalNot))) (gets_data undefined f))

    -- data are there with a hash
    pub test_there : (d : ℕ) (w : Value) → or_undefined (get h6 c path.units) ≡ object d → or_undefined (get h6 d (name_units hash_)) ≡ w →
        point (comp_expr p test E6) at6 ≡ Comes (Normal (value.Primitive (primitive.Boolean (not (strictly_equal w H))))) at6
    test_there d w f g =
        point_handle (handle (comp_expr p data_of_ E6) (with_value (operated_unary unary_operator.LogicalNot))) (with_value (chosen logic.Or (comp_expr p differs E6))) at6
        ∙ ap (λ q. onward q (with_value (chosen logic.Or (comp_expr p differs E6))))
        (point_handle (comp_expr p data_of_ E6) (with_value (operated_unary unary_operator.LogicalNot)) at6
        ∙ ap (λ q. onward q (with_value (operated_unary unary_operator.LogicalNot))) (gets_data (object d) f))
        ∙ point_handle (handle (comp_expr p data_of_ E6) (with_value hash_in)) (with_value comparing) at6
        ∙ ap (λ q. onward q (with_value comparing))
        (point_handle (comp_expr p data_of_ E6) (with_value hash_in) at6 ∙ ap (λ q. onward q (with_value hash_in)) (gets_data (object d) f)
        ∙ ap (λ w. Comes (Normal w) at6) g)
        ∙ point_handle (read hash_ E6) (with_value (operated binary_operator.StrictNotEqual w)) at6
        ∙ ap (λ q. onward q (with_value (operated binary_operator.StrictNotEqual w))) reads_hash
      where
        hash_in : Value → Comp
        hash_in base = get_member_of base (text (name_units hash_))

        comparing : Value → Comp
        comparing v = handle (comp_expr p (name_ hash_) E6) (with_value (operated binary_operator.StrictNotEqual v))

    abbrev then_put : Comp
    then_put = comp_stmt p (Block None (more_stmt (does (assigned_ data_of_ (name_ data_))) no_stmt)) [] E6

    pub replaces : (k : Heap) → point (comp_expr p test E6) at6 ≡ Comes (Normal (value.Primitive (primitive.Boolean true))) at6 →
        put_member (object c) (text path.units) D h6 ≡ record { heap = k; halt = None } →
        point (comp_stmt p replacing [] E6) at6 ≡ Comes (Normal undefined) (record s { heap = k })
    replaces k t w =
        point_handle (comp_expr p test E6) (with_value (choose then_put done)) at6
        ∙ ap (λ q. onward q (with_value (choose then_put done))) t
        ∙ does_it p (assigned_ data_of_ (name_ data_)) E6 at6 (record s { heap = k }) D
        (member_put p s outer X bs6 coverage_ path_ c path.units (name_ data_) D at6 k reads_coverage reads_path reads_data w)

    pub leaves : point (comp_expr p test E6) at6 ≡ Comes (Normal (value.Primitive (primitive.Boolean false))) at6 →
        point (comp_stmt p replacing [] E6) at6 ≡ Comes (Normal undefined) at6
    leaves t =
        point_handle (comp_expr p test E6) (with_value (choose then_put done)) at6
        ∙ ap (λ q. onward q (with_value (choose then_put done))) t
