-- What is held decides what a program comes to.
use Rattle.std.proofs.Common.{◌≡◌, ℕ, ◌≤◌, List, [], ◌∷◌, ◌++◌, length, Option, None, Some, refl, sym, ap, ◌∙◌, subst, arith}
use Rattle.std.specs.Prelude.{Result, Err}
use Rattle.js_tree.specs.Plain.{File}
use Rattle.js_text.specs.Limits.{source_limits}
use Rattle.js_reading.specs.Reads.{Reads}
use Rattle.js_scopes.specs.Accepted.{Accepted}
use Rattle.source_map.specs.declared.place.Parts.{Parts}
use Rattle.source_map.specs.declared.fault.MapFault.{MapFault}
use Rattle.cov_base.specs.Store.{Held}
use Rattle.cov_sources.specs.declared.source.Source.{Source}
use Rattle.cov_sources.specs.declared.why.Why.{Why}
use Rattle.cov_run.specs.Asked.{Asked, with_file}
use Rattle.cov_run.specs.Loaded.{HasInput, HasNoInput, IsNoSource, IsSource, IsTooLong, Loads, all, bad_map, map_failed, map_in, map_path, map_too_long, one_more, passed_over, no_file, too_long, refused, too_many, failed, wanting, source_of}
use Rattle.cov_run.specs.Laws as L
use Rattle.cov_run.specs.Laws.{Agree, OneOutcome, RefusesNoSource}
use Rattle.cov_run.specs.declared.fault.LoadFault.{LoadFault}
use Rattle.cov_run.specs.declared.fault.LoadFault.TheVariants as fault

-- ---- a path holds one thing, of one kind

module _ (held : Held) (path : List ℕ) where
  pub same_bytes : {one other : List ℕ} → held path ≡ Some one → held path ≡ Some other → one ≡ other
  same_bytes here there = let both = sym here ∙ there in cc

  pub something : {bytes : List ℕ} → held path ≡ None → held path ≡ Some bytes → ⊥
  something here there = let both = sym here ∙ there in cc

  pub long_source : {one other : List ℕ} {tree : File} → IsTooLong (Some held) path one → IsSource (Some held) path other tree → ⊥
  long_source {one = one} long good =
      let within : length one ≤ source_limits.bytes = subst (λ b. length b ≤ source_limits.bytes) (same_bytes good.held long.held) good.accepted.within in
      let longer = long.longer in
      omega (arith, within, longer)

  pub long_none : {one other : List ℕ} {why : Why} → IsTooLong (Some held) path one → IsNoSource (Some held) path other why → ⊥
  long_none {one = one} long bad =
      let within : length one ≤ source_limits.bytes = subst (λ b. length b ≤ source_limits.bytes) (same_bytes bad.held long.held) bad.within in
      let longer = long.longer in
      omega (arith, within, longer)

  pub none_source : {one other : List ℕ} {tree : File} {why : Why} → IsNoSource (Some held) path one why → IsSource (Some held) path other tree → ⊥
  none_source {one = one} {tree = tree} bad good = bad.no_source tree (subst (λ b. Accepted b tree) (same_bytes good.held bad.held) good.accepted)

  pub same_tree : {one other : List ℕ} {tree leaf : File} → IsSource (Some held) path one tree → IsSource (Some held) path other leaf → tree ≡ leaf
  same_tree {one = one} {leaf = leaf} here there =
      sym (here.only leaf (subst (λ b. Reads b leaf) (same_bytes there.held here.held) there.accepted.reads))

-- ---- so does the path of its map

module _ (held : Held) (path : List ℕ) where
  pub same_input : {one other : Option Parts} → HasInput (Some held) path one → HasInput (Some held) path other → one ≡ other
  same_input here there =
      let both = sym here.is ∙ ap map_in (sym here.held ∙ there.held) ∙ there.is in cc

  pub same_why : {one other : MapFault} → HasNoInput (Some held) path one → HasNoInput (Some held) path other → one ≡ other
  same_why here there =
      let both = sym here.is ∙ ap map_in (sym here.held ∙ there.held) ∙ there.is in cc

  pub neither : {input : Option Parts} {why : MapFault} → HasInput (Some held) path input → HasNoInput (Some held) path why → ⊥
  neither here there =
      let both = sym here.is ∙ ap map_in (sym here.held ∙ there.held) ∙ there.is in cc

-- ---- loadings

module _ (held : Held) (exclude : List (List ℕ)) where
  -- the same goes on after the same source
  same_next : (sources : List Source) (asked : Asked) (path : List ℕ) {one other : List ℕ} {tree leaf : File} {input more : Option Parts} {outcome : Result (List Source) LoadFault} →
      IsSource (Some held) path one tree → IsSource (Some held) path other leaf → HasInput (Some held) path input → HasInput (Some held) path more →
      Loads (Some held) exclude (sources ++ source_of exclude path other more ∷ []) (with_file path leaf asked) outcome →
      Loads (Some held) exclude (sources ++ source_of exclude path one input ∷ []) (with_file path tree asked) outcome
  same_next sources asked path {one = one} {leaf = leaf} {input = input} {more = more} {outcome = outcome} here there has also loads =
      subst (λ t. Loads (Some held) exclude (sources ++ source_of exclude path one input ∷ []) (with_file path t asked) outcome) (sym (same_tree held path here there))
      (subst (λ i. Loads (Some held) exclude (sources ++ source_of exclude path one i ∷ []) (with_file path leaf asked) outcome) (same_input held path also has)
      (subst (λ b. Loads (Some held) exclude (sources ++ source_of exclude path b more ∷ []) (with_file path leaf asked) outcome) (same_bytes held path there.held here.held) loads))

  agree : {sources : List Source} {asked : Asked} {one other : Result (List Source) LoadFault} →
      Loads (Some held) exclude sources asked one → Loads (Some held) exclude sources asked other → Agree one other
  agree all all = L.loaded
  agree all wanting = L.other_wants
  agree (one_more {sources = sources} {known = known} {waiting = waiting} {path = path} good has room rest) (one_more also hus again last) =
      agree rest (same_next sources (record { known = known; waiting = waiting }) path good also has hus last)
  agree (one_more {path = path} good has room rest) (passed_over nil last) = absurd (something held path nil good.held)
  agree (one_more {path = path} good has room rest) (no_file nil) = absurd (something held path nil good.held)
  agree (one_more {path = path} good has room rest) (too_long lang) = absurd (long_source held path lang good)
  agree (one_more {path = path} good has room rest) (refused bed) = absurd (none_source held path bed good)
  agree (one_more {path = path} good has room rest) (map_too_long also broken) = absurd (neither held path has broken)
  agree (one_more {path = path} good has room rest) (bad_map also broken differ) = absurd (neither held path has broken)
  agree (one_more good has room rest) (too_many also hus fall) = absurd (omega (arith, room, fall))
  agree (one_more good has room rest) failed = L.other_failed
  agree (one_more good has room rest) (map_failed there) = L.other_failed
  agree (one_more good has room rest) wanting = L.other_wants
  agree (passed_over {path = path} none rest) (one_more also hus again last) = absurd (something held path none also.held)
  agree (passed_over none rest) (passed_over nil last) = agree rest last
  agree (passed_over {path = path} none rest) (too_long lang) = absurd (something held path none lang.held)
  agree (passed_over {path = path} none rest) (refused bed) = absurd (something held path none bed.held)
  agree (passed_over {path = path} none rest) (map_too_long also broken) = absurd (something held path none also.held)
  agree (passed_over {path = path} none rest) (bad_map also broken differ) = absurd (something held path none also.held)
  agree (passed_over {path = path} none rest) (too_many also hus fall) = absurd (something held path none also.held)
  agree (passed_over none rest) failed = L.other_failed
  agree (passed_over none rest) (map_failed there) = L.other_failed
  agree (passed_over none rest) wanting = L.other_wants
  agree (no_file {path = path} none) (one_more also hus again last) = absurd (something held path none also.held)
  agree (no_file none) (no_file nil) = L.no_file
  agree (no_file {path = path} none) (too_long lang) = absurd (something held path none lang.held)
  agree (no_file {path = path} none) (refused bed) = absurd (something held path none bed.held)
  agree (no_file {path = path} none) (map_too_long also broken) = absurd (something held path none also.held)
  agree (no_file {path = path} none) (bad_map also broken differ) = absurd (something held path none also.held)
  agree (no_file {path = path} none) (too_many also hus fall) = absurd (something held path none also.held)
  agree (no_file none) failed = L.other_failed
  agree (no_file none) (map_failed there) = L.other_failed
  agree (no_file none) wanting = L.other_wants
  agree (too_long {path = path} long) (one_more also hus again last) = absurd (long_source held path long also)
  agree (too_long {path = path} long) (passed_over nil last) = absurd (something held path nil long.held)
  agree (too_long {path = path} long) (no_file nil) = absurd (something held path nil long.held)
  agree (too_long long) (too_long lang) = L.too_long
  agree (too_long {path = path} long) (refused bed) = absurd (long_none held path long bed)
  agree (too_long {path = path} long) (map_too_long also broken) = absurd (long_source held path long also)
  agree (too_long {path = path} long) (bad_map also broken differ) = absurd (long_source held path long also)
  agree (too_long {path = path} long) (too_many also hus fall) = absurd (long_source held path long also)
  agree (too_long long) failed = L.other_failed
  agree (too_long long) (map_failed there) = L.other_failed
  agree (too_long long) wanting = L.other_wants
  agree (refused {path = path} bad) (one_more also hus again last) = absurd (none_source held path bad also)
  agree (refused {path = path} bad) (passed_over nil last) = absurd (something held path nil bad.held)
  agree (refused {path = path} bad) (no_file nil) = absurd (something held path nil bad.held)
  agree (refused {path = path} bad) (too_long lang) = absurd (long_none held path lang bad)
  agree (refused bad) (refused bed) = L.refused
  agree (refused {path = path} bad) (map_too_long also broken) = absurd (none_source held path bad also)
  agree (refused {path = path} bad) (bad_map also broken differ) = absurd (none_source held path bad also)
  agree (refused {path = path} bad) (too_many also hus fall) = absurd (none_source held path bad also)
  agree (refused bad) failed = L.other_failed
  agree (refused bad) (map_failed there) = L.other_failed
  agree (refused bad) wanting = L.other_wants
  agree (map_too_long {path = path} good faulty) (one_more also hus again last) = absurd (neither held path hus faulty)
  agree (map_too_long {path = path} good faulty) (passed_over nil last) = absurd (something held path nil good.held)
  agree (map_too_long {path = path} good faulty) (no_file nil) = absurd (something held path nil good.held)
  agree (map_too_long {path = path} good faulty) (too_long lang) = absurd (long_source held path lang good)
  agree (map_too_long {path = path} good faulty) (refused bed) = absurd (none_source held path bed good)
  agree (map_too_long good faulty) (map_too_long also broken) = L.too_long
  agree (map_too_long {path = path} good faulty) (bad_map also broken differ) = absurd (differ (same_why held path broken faulty))
  agree (map_too_long {path = path} good faulty) (too_many also hus fall) = absurd (neither held path hus faulty)
  agree (map_too_long good faulty) failed = L.other_failed
  agree (map_too_long good faulty) (map_failed there) = L.other_failed
  agree (map_too_long good faulty) wanting = L.other_wants
  agree (bad_map {path = path} good faulty differs) (one_more also hus again last) = absurd (neither held path hus faulty)
  agree (bad_map {path = path} good faulty differs) (passed_over nil last) = absurd (something held path nil good.held)
  agree (bad_map {path = path} good faulty differs) (no_file nil) = absurd (something held path nil good.held)
  agree (bad_map {path = path} good faulty differs) (too_long lang) = absurd (long_source held path lang good)
  agree (bad_map {path = path} good faulty differs) (refused bed) = absurd (none_source held path bed good)
  agree (bad_map {path = path} good faulty differs) (map_too_long also broken) = absurd (differs (same_why held path faulty broken))
  agree (bad_map {path = path} {why = why} good faulty differs) (bad_map also broken differ) =
      subst (λ w. Agree (Err (fault.BadMap (map_path path) why)) (Err (fault.BadMap (map_path path) w))) (same_why held path faulty broken) L.bad_map
  agree (bad_map {path = path} good faulty differs) (too_many also hus fall) = absurd (neither held path hus faulty)
  agree (bad_map good faulty differs) failed = L.other_failed
  agree (bad_map good faulty differs) (map_failed there) = L.other_failed
  agree (bad_map good faulty differs) wanting = L.other_wants
  agree (too_many good has full) (one_more also hus again last) = absurd (omega (arith, again, full))
  agree (too_many {path = path} good has full) (passed_over nil last) = absurd (something held path nil good.held)
  agree (too_many {path = path} good has full) (no_file nil) = absurd (something held path nil good.held)
  agree (too_many {path = path} good has full) (too_long lang) = absurd (long_source held path lang good)
  agree (too_many {path = path} good has full) (refused bed) = absurd (none_source held path bed good)
  agree (too_many {path = path} good has full) (map_too_long also broken) = absurd (neither held path has broken)
  agree (too_many {path = path} good has full) (bad_map also broken differ) = absurd (neither held path has broken)
  agree (too_many good has full) (too_many also hus fall) = L.too_many
  agree (too_many good has full) failed = L.other_failed
  agree (too_many good has full) (map_failed there) = L.other_failed
  agree (too_many good has full) wanting = L.other_wants
  agree failed loads = L.one_failed
  agree (map_failed good) loads = L.one_failed
  agree wanting loads = L.one_wants

pub one_outcome : OneOutcome
one_outcome held entry exclude one other here there = agree held exclude here there

-- ---- what is refused is no source

refused_is : {one other : Why} {path place : List ℕ} → (◌≡◌) {A = Result (List Source) LoadFault} (Err (fault.Refused path one)) (Err (fault.Refused place other)) → (path ≡ place) × (one ≡ other)
refused_is is = (cc, cc)

found_refused : (told : Option Held) (exclude : List (List ℕ)) {sources : List Source} {asked : Asked} (outcome : Result (List Source) LoadFault) (path : List ℕ) (why : Why) →
    outcome ≡ Err (fault.Refused path why) → Loads told exclude sources asked outcome → (bytes : List ℕ) × IsNoSource told path bytes why
found_refused told exclude outcome path why is all = absurd cc
found_refused told exclude outcome path why is (one_more good has room rest) = found_refused told exclude outcome path why is rest
found_refused told exclude outcome path why is (passed_over none rest) = found_refused told exclude outcome path why is rest
found_refused told exclude outcome path why is (no_file none) = absurd cc
found_refused told exclude outcome path why is (too_long long) = absurd cc
found_refused told exclude outcome path why is (refused {path = place} {bytes = bytes} {why = cause} bad) =
    let both = refused_is is in
    (bytes, subst (λ p. IsNoSource told p bytes why) both.0 (subst (λ w. IsNoSource told place bytes w) both.1 bad))
found_refused told exclude outcome path why is (map_too_long good faulty) = absurd cc
found_refused told exclude outcome path why is (bad_map good faulty other) = absurd cc
found_refused told exclude outcome path why is (map_failed good) = absurd cc
found_refused told exclude outcome path why is (too_many good has full) = absurd cc
found_refused told exclude outcome path why is failed = absurd cc
found_refused told exclude outcome path why is wanting = absurd cc

pub refuses : RefusesNoSource
refuses told entry exclude path why loads = found_refused told exclude (Err (fault.Refused path why)) path why refl loads
