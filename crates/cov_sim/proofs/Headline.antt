-- The headline: of any sources, from the law of the two runs on programs.
use Rattle.std.proofs.Common.{◌≡◌, ◌≢◌, ℕ, zero, suc, ◌+◌, Bool, true, false, List, [], ◌∷◌, Some, None, IfSome, codes, refl, sym, ap, subst, ◌∙◌, arith}
use Rattle.std.specs.Prelude.{slice_get, nat_eq}
use Rattle.std.specs.List.{ends_with}
use Rattle.std.specs.Str.{IsUtf8}
use Rattle.js_tree.specs.Plain.{File}
use Rattle.js_tree.specs.Same.{bare_file}
use Rattle.js_reading.specs.Laws.{TextHasOneTree}
use Rattle.js_scopes.specs.Accepted.{Accepted, AcceptedAgain}
use Rattle.js_meaning.specs.Program as program
use Rattle.js_alike.specs.Alike.{EachAlike, AreAlike}
use Rattle.cov_counted.specs.Accepted.{Content, IsMapText, AreAccepted}
use Rattle.cov_counted.specs.Accepted as counted
use Rattle.cov_again.specs.Replaced.{rewritten_tree, replaced_sources, replaced}
use Rattle.cov_again.specs.Laws.{RunsReplaced}
use Rattle.cov_sources.specs.declared.source.Source.{Source}
use Rattle.cov_sim.specs.declared.instrumented.Instrumented.{Instrumented}
use Rattle.cov_sim.specs.Again.{IsReadAgain}
use Rattle.cov_sim.specs.Instrumented as list
use Rattle.cov_sim.specs.Instrumented.{instrumented, is_left_out, Instruments, left, made, AreInstrumented}
use Rattle.cov_sim.specs.declared.instrumented.MappedText.{MappedText}
use Rattle.cov_sim.specs.Headline.{IsElsewhere, HavePaths, file_of, AreReplaced, no_file, kept, by_tree, AreRead, none, as_it_is, by_text, program_of, content_if, content_of, HaveTexts, DoTheSame, Headline}
use Rattle.cov_sim.proofs.InputMaps.{input_is}

-- ---- the texts can be read again

record Readable (sources : List Source) (texts : List Instrumented) : Type 0 where
  files : List program.Source
  again : List program.Source
  read : AreRead sources texts files again

readable : {sources : List Source} {texts : List Instrumented} → AreInstrumented sources texts → Readable sources texts
readable list.none = record { files = []; again = []; read = none }
readable (list.passed_over {source = source} tree is (left out) are) =
    let r = readable are in
    record { files = file_of source tree false ∷ r.files; again = file_of source tree false ∷ r.again; read = as_it_is tree is out r.read }
readable (list.counted {source = source} tree text is (made in_ a) are) =
    let r = readable are in
    record { files = file_of source tree true ∷ r.files; again = file_of source a.tree false ∷ r.again; read = by_text tree a.tree text.text text.map is in_ a.accepted r.read }

-- ---- the program that counts

-- a file of it is a source with its tree
record At (sources : List Source) (j : ℕ) (file : program.Source) : Type 0 where
  source : Source
  at : slice_get sources j ≡ Some source
  path : file.path ≡ source.path
  accepted : Accepted source.bytes file.tree

at_first : {sources : List Source} (source : Source) (tree : File) (counted : Bool) → Accepted source.bytes tree → (file : program.Source) → file_of source tree counted ≡ file → At (source ∷ sources) 0 file
at_first {sources} source tree counted is file e = subst (At (source ∷ sources) 0) e (record { source = source; at = refl; path = refl; accepted = is })

at_later : {sources : List Source} (source : Source) (j : ℕ) (file : program.Source) → At sources j file → At (source ∷ sources) (suc j) file
at_later source j file a = record { source = a.source; at = a.at; path = a.path; accepted = a.accepted }

none_some : {A : Type 0} {a : A} → None ≡ Some a → ⊥
none_some e = cc

one_there : {A : Type 0} {a b : A} → Some a ≡ Some b → a ≡ b
one_there e = cc

source_at : {sources : List Source} {files again : List program.Source} → AreReplaced sources files again →
    (j : ℕ) (file : program.Source) → slice_get files j ≡ Some file → At sources j file
source_at no_file j file e = absurd (none_some e)
source_at (kept {source = source} tree is out rest) zero file e = at_first source tree false is file (one_there e)
source_at (kept {source = source} tree is out rest) (suc j) file e = at_later source j file (source_at rest j file e)
source_at (by_tree {source = source} tree other is in_ same rest) zero file e = at_first source tree true is file (one_there e)
source_at (by_tree {source = source} tree other is in_ same rest) (suc j) file e = at_later source j file (source_at rest j file e)

-- the paths of sources

record HasPath (path : List ℕ) : Type 0 where
  utf8 : IsUtf8 path
  is : ends_with nat_eq path (codes ".js") ≡ true

path_at : (sources : List Source) → HavePaths sources → (j : ℕ) (source : Source) → slice_get sources j ≡ Some source → HasPath source.path
path_at [] h j source e = absurd (none_some e)
path_at (first ∷ sources) h zero source e = subst (λ (s : Source). HasPath s.path) (one_there e) (record { utf8 = h.0.0; is = h.0.1 })
path_at (first ∷ sources) h (suc j) source e = path_at sources h.1 j source e

elsewhere_at : (sources : List Source) (path : List ℕ) → IsElsewhere path sources → (j : ℕ) (source : Source) → slice_get sources j ≡ Some source → path ≡ source.path → ⊥
elsewhere_at [] path h j source e same = absurd (none_some e)
elsewhere_at (first ∷ sources) path h zero source e same = h.0 (same ∙ ap (λ (s : Source). s.path) (sym (one_there e)))
elsewhere_at (first ∷ sources) path h (suc j) source e same = elsewhere_at sources path h.1 j source e same

apart_at : (sources : List Source) → HavePaths sources → (i j : ℕ) (one other : Source) → i ≢ j → slice_get sources i ≡ Some one → slice_get sources j ≡ Some other → one.path ≡ other.path → ⊥
apart_at [] h i j one other differ a b same = absurd (none_some a)
apart_at (first ∷ sources) h zero zero one other differ a b same = differ refl
apart_at (first ∷ sources) h zero (suc j) one other differ a b same =
    elsewhere_at sources first.path h.0.2 j other b (ap (λ (s : Source). s.path) (one_there a) ∙ same)
apart_at (first ∷ sources) h (suc i) zero one other differ a b same =
    elsewhere_at sources first.path h.0.2 i one a (ap (λ (s : Source). s.path) (one_there b) ∙ sym same)
apart_at (first ∷ sources) h (suc i) (suc j) one other differ a b same = apart_at sources h.1 i j one other (λ e. differ (ap (λ n. suc n) e)) a b same

-- their source maps
map_at : (sources : List Source) → HaveTexts sources → (j : ℕ) → IfSome (content_of sources j).map IsMapText
map_at [] h j = tt
map_at (first ∷ sources) h zero = input_is first.input h.0
map_at (first ∷ sources) h (suc j) = map_at sources h.1 j

module _ {sources : List Source} {files again : List program.Source} (rest : AreReplaced sources files again) where
  all_accepted : HaveTexts sources → AreAccepted (content_of sources) (program_of files)
  all_accepted texts = record {
    files = λ j file e. let a = source_at rest j file e in subst (λ (content : Content). Accepted content.bytes file.tree) (ap content_if (sym a.at)) a.accepted;
    maps = map_at sources texts;
    prelude = refl;
  }

  all_placed : HavePaths sources → counted.HavePaths (program_of files)
  all_placed h = record {
    utf8 = λ j file e. let a = source_at rest j file e in subst IsUtf8 (sym a.path) (path_at sources h j a.source a.at).utf8;
    ends = λ j file e. let a = source_at rest j file e in
        ap (λ p. ends_with nat_eq p (codes ".js")) a.path ∙ (path_at sources h j a.source a.at).is;
    apart = λ i j one other differ e f same.
        let a = source_at rest i one e in
        let b = source_at rest j other f in
        apart_at sources h i j a.source b.source differ a.at b.at (sym a.path ∙ same ∙ b.path);
  }

-- ---- the program that doesn't count

-- what stands in the files' place is alike the program in which each counted file stands rewritten
all_alike : {sources : List Source} {files again : List program.Source} → AreReplaced sources files again →
    (content : ℕ → Content) (i : ℕ) → ((n j : ℕ) → n ≡ i + j → content n ≡ content_of sources j) → EachAlike again (replaced_sources content i files)
all_alike no_file content i h = tt
all_alike (kept tree is out rest) content i h =
    (record { path = refl; tree = refl }, all_alike rest content (suc i) (λ n j e. h n (suc j) (omega (arith, e))))
all_alike (by_tree {source = source} tree other is in_ same rest) content i h = (
  record { path = refl; tree = same ∙ ap (λ (of : Content). bare_file (rewritten_tree of (file_of source tree true))) (sym (h i 0 (omega arith))) },
  all_alike rest content (suc i) (λ n j e. h n (suc j) (omega (arith, e))),
)

same_place : (n j : ℕ) → n ≡ 0 + j → n ≡ j
same_place n j e = omega (arith, e)

do_the_same : RunsReplaced → (sources : List Source) → HavePaths sources → HaveTexts sources → (files again : List program.Source) → AreReplaced sources files again → DoTheSame sources files again
do_the_same runs sources paths texts files again rest entry n room w e =
    let alike : AreAlike (program_of again) (replaced (content_of sources) (program_of files)) =
    record { files = all_alike rest (content_of sources) 0 (λ n j e. ap (content_of sources) (same_place n j e)); prelude = refl } in
    let x = runs (content_of sources) (program_of files) (all_accepted rest texts) (all_placed rest paths) (program_of again) alike entry n room w e in
    (x.0, x.1, record { end = x.2.end; output = x.2.output; coverage = x.2.coverage })

-- ---- the texts, read again

abbrev first_text : List Instrumented → List ℕ
first_text [] = []
first_text (one ∷ texts) = one.text

abbrev later_texts : List Instrumented → List Instrumented
later_texts [] = []
later_texts (one ∷ texts) = texts

-- what a text that was made tells
made_kept : (source : Source) (tree : File) (text : MappedText) → Instruments source tree (Some text) → is_left_out source tree ≡ false
made_kept source tree _ (made in_ again) = in_

made_again : (source : Source) (tree : File) (text : MappedText) → Instruments source tree (Some text) → IsReadAgain text.text (instrumented source.path source.bytes source.input tree)
made_again source tree _ (made in_ again) = again

true_false : {b : Bool} → b ≡ true → b ≡ false → ⊥
true_false t f = let z : true ≡ false = sym t ∙ f in cc

module _ (one_tree : TextHasOneTree) where
  same_tree : {bytes : List ℕ} {one other : File} → Accepted bytes one → Accepted bytes other → one ≡ other
  same_tree {bytes} {one} {other} a b = one_tree bytes one other a.reads b.reads

  -- a source is left out by the one tree that it has
  in_and_out : (source : Source) {one other : File} → Accepted source.bytes one → Accepted source.bytes other → is_left_out source one ≡ true → is_left_out source other ≡ false → ⊥
  in_and_out source a b out in_ = true_false out (ap (is_left_out source) (same_tree a b) ∙ in_)

  -- a text has one tree, so what is read of it is the instrumented tree but for places, comments and parentheses
  text_same : (source : Source) (one tree other : File) (text : List ℕ) → Accepted source.bytes one → Accepted source.bytes tree → IsReadAgain text (instrumented source.path source.bytes source.input one) →
      AcceptedAgain text other → bare_file other ≡ bare_file (instrumented source.path source.bytes source.input tree)
  text_same source one tree other text a b again read =
      ap bare_file (one_tree text other again.tree read.reads again.accepted.reads)
      ∙ again.same
      ∙ ap (λ t. bare_file (instrumented source.path source.bytes source.input t)) (same_tree a b)

  trees_of : {sources : List Source} {texts others : List Instrumented} {files again : List program.Source} → AreRead sources texts files again → AreInstrumented sources others → texts ≡ others →
      AreReplaced sources files again
  trees_of none list.none e = no_file
  trees_of (as_it_is tree is out read) (list.passed_over one a left_out are) e = kept tree is out (trees_of read are e)
  trees_of (as_it_is {source = source} tree is out read) (list.counted one text a is_there are) e = absurd (in_and_out source is a out (made_kept source one text is_there))
  trees_of (by_text {source = source} tree other text map is in_ again read) (list.passed_over one a (left out) are) e = absurd (in_and_out source a is out in_)
  trees_of (by_text {source = source} tree other text map is in_ again read) (list.counted one same_text a is_there are) e =
      by_tree tree other is in_ (text_same source one tree other same_text.text a is (made_again source one same_text is_there) (subst (λ t. AcceptedAgain t other) (ap first_text e) again)) (trees_of read are (ap later_texts e))

  pub headline : RunsReplaced → Headline
  headline runs sources texts paths have are =
      let r = readable are in
      record {
        trees = do_the_same runs sources paths have;
        read = (r.files, r.again, r.read);
        texts_do = λ files again read. do_the_same runs sources paths have files again (trees_of read are refl);
      }
