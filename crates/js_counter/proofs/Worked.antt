-- The premises hold of a program.
use Rattle.std.proofs.Common.{◌≡◌, ℕ, zero, suc, ◌<◌, [], codes, Some, None, refl, sym, ◌∙◌, arith}
use Rattle.js_tree.specs.Plain.{no_stmt}
use Rattle.js_value.specs.declared.built_in.Place.TheVariants.{Global, ObjectPrototype}
use Rattle.js_value.specs.Environments.{next_environment, environment_at}
use Rattle.js_value.specs.Realm as realm
use Rattle.js_value.specs.Realm.{number_of}
use Rattle.js_counter.specs.Preamble.{Uncovered, NotInherited}
use Rattle.js_counter.specs.Starts.{opening_of, FileFresh}
use Rattle.js_counter.specs.WorkedFile.{spelled, zero_data, name, file, program, Opens}
use Rattle.js_counter.proofs.Began.{starts_first}

one_environment : next_environment realm.opening ≡ 1
unfolding realm.opening realm.each realm.freeze_all realm.rows realm.named_errors realm.named_objects
one_environment = refl

no_outer : (environment_at realm.opening 0).outer ≡ None
unfolding realm.opening realm.each realm.freeze_all realm.rows realm.named_errors realm.named_objects
no_outer = refl

older : (e o : ℕ) → e < next_environment realm.opening → (environment_at realm.opening e).outer ≡ Some o → o < e
older zero o l w = absurd (clash (sym no_outer ∙ w))
  where
    clash : None ≡ Some o → ⊥
    clash e = cc
older (suc e) o l w = let x = one_environment in absurd (omega (arith, x, l))

fresh : FileFresh program (opening_of [] name (spelled (codes "a.js")) (spelled (codes "h")) (spelled (codes "__coverage__")) zero_data 0 1 no_stmt) name
    (spelled (codes "a.js")) (spelled (codes "h")) (spelled (codes "__coverage__")) zero_data 0 1 no_stmt realm.realm (number_of Global)
unfolding realm.opening realm.each realm.freeze_all realm.rows realm.named_errors realm.named_objects
fresh = record {
  older = older;
  has_global = let x = one_environment in omega (arith, x);
  place = 1;
  global_named = refl;
  is_global = refl;
  is_code = refl;
  is_next = refl;
  free_name = (refl, (refl, (refl, (refl, (refl, (refl, (refl, (refl, tt))))))));
  keys = ((refl, tt), tt, (tt, tt, tt));
  own_name = refl;
  not_global = refl;
  others = tt;
  unnamed = (refl, (refl, (refl, (refl, tt))));
}

uncovered : Uncovered realm.opening (number_of Global) (codes "__coverage__")
unfolding realm.opening realm.each realm.freeze_all realm.rows realm.named_errors realm.named_objects
uncovered = record { prototype = Some (number_of ObjectPrototype); elements = []; properties = []; is = refl; low = omega arith; none = refl; bare = (omega arith, refl, refl) }

not_inherited : NotInherited realm.opening (codes "a.js")
unfolding realm.opening realm.each realm.freeze_all realm.rows realm.named_errors realm.named_objects
not_inherited = (omega arith, refl, refl)

pub opens : Opens
opens = let x = starts_first program file 0 [] name (spelled (codes "a.js")) (spelled (codes "h")) (spelled (codes "__coverage__")) zero_data 0 1 no_stmt [] realm.realm (number_of Global)
    refl fresh uncovered not_inherited (λ e. omega (arith, e)) in (x.0, x.2)
