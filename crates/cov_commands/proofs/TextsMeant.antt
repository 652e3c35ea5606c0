-- The texts that `instrument` puts are the instrumented texts of any program of its files.
use Rattle.std.proofs.Common.{◌≡◌, ℕ, inl, inr, Bool, true, false, List, [], ◌∷◌, Option, None, Some, IfSome, if◌then◌else◌, refl, sym, ap, ◌∙◌, subst}
use Rattle.std.specs.Prelude.{not, ◌||◌, Result, Ok}
use Rattle.std.specs.Option.{option_or}
use Rattle.js_tree.specs.Plain.{File}
use Rattle.js_scopes.specs.Accepted.{Accepted}
use Rattle.cov_base.specs.Store.{Held, BothTell}
use Rattle.source_map.specs.declared.place.Parts.{Parts}
use Rattle.source_map.specs.declared.fault.MapFault.{MapFault}
use Rattle.source_map.specs.Kept.{HasTexts}
use Rattle.cov_run.specs.Loaded.{HasInput, map_in, map_path}
use Rattle.cov_sim.specs.Headline.{HavePaths, HaveTexts, Headline}
use Rattle.cov_sim.specs.Instrumented.{AreInstrumented, counted, instrumented_as, is_ignored, is_left_out, mapped_text, passed_over}
use Rattle.cov_sim.specs.Instrumented as sim
use Rattle.cov_sim.specs.declared.instrumented.Instrumented.{Instrumented}
use Rattle.cov_sources.specs.declared.source.Source.{Source}
use Rattle.cov_commands.specs.Instrument as instrument
use Rattle.cov_commands.specs.Instrument.{Each, IsTextOf, Puts, PutsAll, Stands, map_below, map_for, path_below}
use Rattle.cov_commands.specs.Meant.{AreAmong, InstrumentsAsMeant, IsMember, TheyStand, its_text, itself, none}
use Rattle.cov_commands.specs.declared.status.Status.{Status}
use Rattle.cov_commands.specs.declared.status.Status.TheVariants as status

-- of each file what stands
stands_at : (out : List ℕ) (old new : Held) (path : List ℕ) (files : List (List ℕ)) → Each (Stands out old new) files → IsMember path files → Stands out old new path
stands_at out old new path [] each member = absurd member
stands_at out old new path (file ∷ files) each (inl is) = subst (Stands out old new) (sym is) each.0
stands_at out old new path (file ∷ files) each (inr member) = stands_at out old new path files each.1 member

some_is : {one other : List ℕ} → Some one ≡ Some other → one ≡ other
some_is is = cc

-- a counted source is left out where a comment takes it out
left_if : (source : Source) (tree : File) (ignored : Bool) → source.counted ≡ true → is_ignored tree ≡ ignored → is_left_out source tree ≡ ignored
left_if source tree ignored counts is = ap (λ b. not b || is_ignored tree) counts ∙ is

-- the map that stands beside a source is the one that is told
told_input : (old : Held) (source : Source) (input : Option Parts) → HasInput (Some old) source.path input → map_in (old (map_path source.path)) ≡ Ok source.input → input ≡ source.input
told_input old source input has beside =
    let both : (◌≡◌) {A = Result (Option Parts) MapFault} (Ok input) (Ok source.input) = sym has.is ∙ ap map_in (sym has.held) ∙ beside in cc

-- what stands of some sources
record Meant (out : List ℕ) (sources : List Source) (new : Held) : Type 0 where
  texts : List Instrumented
  are : AreInstrumented sources texts
  stand : TheyStand out new sources texts
  kept : HaveTexts sources

module _ (out : List ℕ) (new : Held) (source : Source) (sources : List Source) (counts : source.counted ≡ true) (rest : Meant out sources new) where
  -- with one more
  one_more : (old : Held) (tree : File) (text : List ℕ) → Accepted source.bytes tree → IsTextOf source.path source.bytes source.input tree text → new (path_below out source.path) ≡ Some text →
      new (map_below out source.path) ≡ option_or (map_for source.path source.bytes source.input tree) (old (map_below out source.path)) → IfSome source.input HasTexts → Meant out (source ∷ sources) new
  one_more old tree text accepted (instrument.left ignored) stands map texts =
      let left = left_if source tree true counts ignored in
      record { texts = rest.texts; are = passed_over tree accepted (sim.left left) rest.are; stand = itself tree accepted left stands rest.stand; kept = (texts, rest.kept) }
  one_more old tree text accepted (instrument.made kept again) stands map texts =
      let made = left_if source tree false counts kept in
      let mapped = mapped_text source.path source.bytes source.input tree in
      record {
        texts = instrumented_as source mapped ∷ rest.texts;
        are = counted tree mapped accepted (sim.made made again) rest.are;
        stand = its_text refl stands (map ∙ ap (λ b. option_or (if b then None else Some mapped.map) (old (map_below out source.path))) kept) rest.stand;
        kept = (texts, rest.kept);
      }

  by_stands : (old : Held) → old source.path ≡ Some source.bytes → map_in (old (map_path source.path)) ≡ Ok source.input → Stands out old new source.path → Meant out (source ∷ sources) new
  by_stands old holds beside s =
      let same : s.bytes ≡ source.bytes = some_is (sym s.source.held ∙ holds) in
      let input : s.input ≡ source.input = told_input old source s.input s.has beside in
      one_more old s.tree s.text (subst (λ b. Accepted b s.tree) same s.source.accepted)
      (subst (λ i. IsTextOf source.path source.bytes i s.tree s.text) input (subst (λ b. IsTextOf source.path b s.input s.tree s.text) same s.is)) s.stands
      (subst (λ i. new (map_below out source.path) ≡ option_or (map_for source.path source.bytes i s.tree) (old (map_below out source.path))) input
      (subst (λ b. new (map_below out source.path) ≡ option_or (map_for source.path b s.input s.tree) (old (map_below out source.path))) same s.map))
      (subst (λ i. IfSome i HasTexts) input s.has.texts)

they_are : (out : List ℕ) (files : List (List ℕ)) (old new : Held) (sources : List Source) → Each (Stands out old new) files → AreAmong files old sources → Meant out sources new
they_are out files old new [] each among = record { texts = []; are = sim.none; stand = none; kept = tt }
they_are out files old new (source ∷ sources) each among =
    by_stands out new source sources among.0.1 (they_are out files old new sources each among.1) old among.0.2 among.0.3 (stands_at out old new source.path files each among.0.0)

module _ (headline : Headline) (out : List ℕ) (files : List (List ℕ)) where
  put_all : (old new : Held) → PutsAll out files old new → (sources : List Source) → HavePaths sources → AreAmong files old sources → InstrumentsAsMeant out sources new
  put_all old new puts sources paths among =
      let m = they_are out files old new sources puts.stand among in
      record { texts = m.texts; are = m.are; stand = m.stand; simulates = headline sources m.texts paths m.kept m.are }

  both : (told after : Option Held) → BothTell told after (PutsAll out files) →
      BothTell told after (λ old new. (sources : List Source) → HavePaths sources → AreAmong files old sources → InstrumentsAsMeant out sources new)
  both None None puts = tt
  both None (Some new) puts = absurd puts
  both (Some old) None puts = absurd puts
  both (Some old) (Some new) puts = put_all old new puts

  pub instruments_as_meant : (result : Status) (told after : Option Held) → result ≡ status.Ok → Puts result out files told after →
      BothTell told after (λ old new. (sources : List Source) → HavePaths sources → AreAmong files old sources → InstrumentsAsMeant out sources new)
  instruments_as_meant result told after ok puts = both told after (subst (λ s. Puts s out files told after) ok puts)
