-- What the right run holds stays while it isn't touched, and tells the coverage; and it holds where a program begins.
use Rattle.std.proofs.Common.{◌≡◌, ℕ, zero, suc, ◌<◌, Bool, true, false, List, [], ◌∷◌, length, codes, Some, None, refl, sym, ap, ◌∙◌, subst, ⊎_elim, arith, if◌then◌else◌}
use Rattle.std.specs.Prelude.{slice_index_or, ◌==◌}
use Rattle.std.proofs.lemmas.Bool.{eqb-false}
use Rattle.js_terms.specs.Mark.{Mark}
use Rattle.js_value.specs.declared.built_in.Place.TheVariants.{Global}
use Rattle.js_value.specs.State.{Plain, ObjectRecord, Environment, Binding, Heap}
use Rattle.js_value.specs.Objects.{object_at, own, own_of}
use Rattle.js_value.specs.Environments.{next_environment, no_binding, environment_at, place_of}
use Rattle.js_value.specs.Realm as realm
use Rattle.js_value.specs.Realm.{number_of, global_environment, built_in_count, opening}
use Rattle.js_two_runs.specs.Pairs.{Paired}
use Rattle.js_two_runs.specs.TwoHeaps.{themselves}
use Rattle.js_two_runs.proofs.PairsLemmas.{newest}
use Rattle.js_suits.specs.Settings.{World}
use Rattle.js_lockstep.specs.Worlds.{root, SameProperties, Later, Untouched}
use Rattle.js_lockstep.specs.Counters.{Keeps}
use Rattle.js_lockstep.specs.Programs.{first_world}
use Rattle.js_meaning.specs.Program.{Sources}
use Rattle.js_counter.specs.Represents.{Members, PlacedMembers, empty, plain, json_members, Stands}
use Rattle.js_counter.specs.Steady.{actual}
use Rattle.js_counter.proofs.Data.{on_both, both_members}
use Rattle.js_counted.specs.Files.{FileCounters, expected}
use Rattle.js_counted.specs.Holds.{global, coverage_text, Tells, IsData, Covering, uncovered, covered, GivesData, Holds}
use Rattle.js_counted.specs.Program.{is_counted, counted_program, counters}
use Rattle.js_counted.proofs.Alone.{Lasts, lasts_by}

-- Where a program begins

pub root_plain : (object_at opening root).kind ≡ Plain
unfolding realm.opening realm.each realm.freeze_all realm.rows realm.named_errors realm.named_objects
root_plain = refl

root_frozen : (object_at opening root).frozen ≡ true
unfolding realm.opening realm.each realm.freeze_all realm.rows realm.named_errors realm.named_objects
root_frozen = refl

root_there : root < length opening.objects
unfolding realm.opening realm.each realm.freeze_all realm.rows realm.named_errors realm.named_objects
root_there = omega arith

global_there : global < length opening.objects
unfolding realm.opening realm.each realm.freeze_all realm.rows realm.named_errors realm.named_objects
global_there = omega arith

no_coverage : (key : List ℕ) → own opening global key ≡ None
unfolding realm.opening realm.each realm.freeze_all realm.rows realm.named_errors realm.named_objects
no_coverage key = refl

one_environment : next_environment opening ≡ 1
unfolding realm.opening realm.each realm.freeze_all realm.rows realm.named_errors realm.named_objects
one_environment = refl

no_outer : (environment_at opening 0).outer ≡ None
unfolding realm.opening realm.each realm.freeze_all realm.rows realm.named_errors realm.named_objects
no_outer = refl

global_named : place_of (environment_at opening global_environment) (codes "globalThis") ≡ Some 1
unfolding realm.opening realm.each realm.freeze_all realm.rows realm.named_errors realm.named_objects
global_named = refl

global_held : (slice_index_or (environment_at opening global_environment).bindings 1 no_binding).value ≡ Some (realm.object global)
unfolding realm.opening realm.each realm.freeze_all realm.rows realm.named_errors realm.named_objects
global_held = refl

none_some : {X : Type 0} {a : X} → None ≡ Some a → ⊥
none_some e = cc

first_older : (e o : ℕ) → e < length opening.environments → (environment_at opening e).outer ≡ Some o → o < e
first_older zero o l w = absurd (none_some (sym no_outer ∙ w))
first_older (suc e) o l w = let x = one_environment in absurd (omega (arith, x, l))

global_alone : (m n : ℕ) → Paired (themselves m) n global → ⊥
global_alone zero n i = elim i [ ]
global_alone (suc m) n i = by (m == number_of Global) refl i (global_alone m n)
  where
    by : (b : Bool) → (m == number_of Global) ≡ b → Paired (if b then themselves m else (m, m) ∷ themselves m) n global → (Paired (themselves m) n global → ⊥) → ⊥
    by true e j rest = rest j
    by false e j rest = ⊎_elim (λ z. eqb-false m (number_of Global) e (sym z.1)) rest (newest j)

same_again : {x y z : ObjectRecord} → SameProperties x y → SameProperties y z → SameProperties x z
same_again a b = record { kind = b.kind ∙ a.kind; prototype = b.prototype ∙ a.prototype; frozen = b.frozen ∙ a.frozen; properties = b.properties ∙ a.properties }

module _ (files : ℕ → FileCounters) (q : Sources) where
  pub covering_later : {w v : World} {h k : Heap} (ms : PlacedMembers) (started : List ℕ) → Lasts w v h k → global < length h.objects → ((n : ℕ) → Paired w.objects n global → ⊥) → Covering w h ms started → Covering v k ms started
  covering_later ms started u low apart (uncovered e s z) = uncovered e s ((u.objects global low apart).2 ∙ z)
  covering_later {w} {v} {h} {k} ms started u low apart (covered c some x d ds) =
      let o = u.objects global low apart in
      covered c some
      (record {
        low = o.1;
        property = x.property;
        has = ap (λ r. own_of r coverage_text.units) o.2 ∙ x.has;
        is = x.is;
        apart = x.apart;
        holds = on_both (Stands h) (λ q r. IsData w q) (Stands k) (λ q r s z. let a = u.objects q s.0 z.unpaired in (a.1, a.2 ∙ s.1)) (plain c ms) x.holds (d, ds);
        distinct = x.distinct;
      })
      (record { unpaired = (u.objects c x.holds.0.0 d.unpaired).0; apart = d.apart })
      (both_members (Stands h) (λ q r. IsData w q) (λ q r. IsData v q) (λ q r s z. record { unpaired = (u.objects q s.0 z.unpaired).0; apart = z.apart }) ms x.holds.1 ds)

  pub gives_later : {w v : World} {h k : Heap} {ms : PlacedMembers} {started : List ℕ} {file : ℕ} {b : Binding} → Lasts w v h k → GivesData files q w started h ms file b → GivesData files q v started k ms file b
  gives_later u x =
      let o = u.objects x.function x.low x.unpaired in
      let a = u.environments x.around x.around_low x.around_unpaired in
      record {
        function = x.function;
        bound = x.bound;
        low = o.1;
        unpaired = o.0;
        apart = x.apart;
        code = x.code;
        around = x.around;
        number = x.number;
        x = x.x;
        y = x.y;
        z = x.z;
        is_code = x.is_code;
        kind = ap (λ (r : ObjectRecord). r.kind) o.2 ∙ x.kind;
        around_low = a.1;
        around_unpaired = a.0;
        place = x.place;
        named = ap (λ env. place_of env actual) a.2 ∙ x.named;
        held = x.held;
        holds = ap (λ (env : Environment). (slice_index_or env.bindings x.place no_binding).value) a.2 ∙ x.holds;
        there = x.there;
        is_started = x.is_started;
      }

  module _ (counted : ℕ → Bool) where
    keeps : (w v : World) (log : List Mark) (started : List ℕ) (h k : Heap) → Later w v → Untouched w v h k → Holds files counted q w log started h → Holds files counted q v log started k
    keeps w v log started h k g u x =
        let r = u.inherited x.root_low in
        let o = u.objects global x.global_low x.global_unpaired in
        let z = u.global x.names_low in
        let n = z.1 x.place x.named in
        record {
          members = x.members;
          covering = covering_later x.members started (lasts_by u) x.global_low x.global_unpaired x.covering;
          told = x.told;
          gives = λ e f n file i hm ow.
              let j = u.inner e f n i ow in
              subst (λ b. GivesData files q v started k x.members file b) (sym (u.own e f n j (sym (g.own e f j) ∙ ow)))
              (gives_later (lasts_by u) (x.gives e f n file j (sym (g.home e f j) ∙ hm) (sym (g.own e f j) ∙ ow)));
          each_once = x.each_once;
          countable = x.countable;
          entered = x.entered;
          older = u.outers x.older;
          root_low = r.0;
          root_same = same_again x.root_same (r.1 (x.root_same.kind ∙ root_plain) (x.root_same.frozen ∙ root_frozen));
          global_low = o.1;
          global_unpaired = o.0;
          names_low = z.0;
          place = x.place;
          named = n.0;
          is_global = ap (λ (b : Binding). b.value) n.1 ∙ x.is_global;
        }

    pub tells_by : (w : World) (log : List Mark) (started : List ℕ) (k : Heap) (ms : PlacedMembers) → json_members ms ≡ expected files started log → Covering w k ms started → Tells files log started k
    tells_by w log [] k ms told (uncovered e s z) = ap (λ r. own_of r coverage_text.units) z ∙ no_coverage coverage_text.units
    tells_by w log [] k ms told (covered c some x d ds) = absurd (omega (arith, some))
    tells_by w log (file ∷ started) k ms told (uncovered e s z) = absurd (let y = s in cc)
    tells_by w log (file ∷ started) k ms told (covered c some x d ds) = record {
      property = x.property;
      has = x.has;
      tells = record { placed = plain c ms; is = sym x.is; holds = x.holds; distinct = x.distinct; data_is = ap Members told };
    }

    pub first_holds : Holds files counted q first_world [] [] opening
    first_holds = record {
      members = empty;
      covering = uncovered refl refl refl;
      told = refl;
      gives = λ e f n file i h o. absurd (none_some o);
      each_once = tt;
      countable = tt;
      entered = tt;
      older = first_older;
      root_low = root_there;
      root_same = record { kind = refl; prototype = refl; frozen = refl; properties = refl };
      global_low = global_there;
      global_unpaired = λ n i. global_alone built_in_count n i;
      names_low = let x = one_environment in omega (arith, x);
      place = 1;
      named = global_named;
      is_global = global_held;
    }

pub counters_keep : (files : ℕ → FileCounters) (p : Sources) → Keeps (counters files p)
counters_keep files p = record {
  keeps = λ w v log started h k g u x. keeps files (counted_program files p) (is_counted p) w v log started h k g u x;
  tells = λ w log started k x. record {
    each_once = x.each_once;
    countable = x.countable;
    tells = tells_by files (counted_program files p) (is_counted p) w log started k x.members x.told x.covering;
  };
}
