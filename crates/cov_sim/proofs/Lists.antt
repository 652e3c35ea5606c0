-- Lists of sources and of their texts, with one source more.
use Rattle.std.proofs.Common.{◌≡◌, ℕ, suc, ◌+◌, ◌<◌, List, [], ◌∷◌, ◌++◌, Option, length, take, drop, get_or, Some, None, IfSome, sym, ap, ◌∙◌, take-append-drop, drop-cons, arith}
use Rattle.std.proofs.lemmas.List.{take_more}
use Rattle.js_tree.specs.Plain.{File}
use Rattle.source_map.specs.Kept.{HasTexts}
use Rattle.js_scopes.specs.Accepted.{Accepted}
use Rattle.cov_sim.specs.Instrumented.{instrumented_as, with_text, Instruments, AreInstrumented, none, passed_over, counted}
use Rattle.cov_sim.specs.Headline.{HaveTexts}
use Rattle.cov_sim.specs.Refused.{AreAccepted}
use Rattle.cov_sources.specs.declared.source.Source.{Source}
use Rattle.cov_sim.specs.declared.instrumented.Instrumented.{Instrumented}
use Rattle.cov_sim.specs.declared.instrumented.MappedText.{MappedText}

-- a source more that isn't counted
pub one_passed : {sources : List Source} {list : List Instrumented} (source : Source) (tree : File) → AreInstrumented sources list → Accepted source.bytes tree →
    Instruments source tree None → AreInstrumented (sources ++ source ∷ []) list
one_passed source tree none accepted is = passed_over tree accepted is none
one_passed source tree (passed_over other before out are) accepted is = passed_over other before out (one_passed source tree are accepted is)
one_passed source tree (counted other text before is_there are) accepted is = counted other text before is_there (one_passed source tree are accepted is)

-- a source more that is
pub one_counted : {sources : List Source} {list : List Instrumented} (source : Source) (tree : File) (text : MappedText) → AreInstrumented sources list → Accepted source.bytes tree →
    Instruments source tree (Some text) → AreInstrumented (sources ++ source ∷ []) (list ++ instrumented_as source text ∷ [])
one_counted source tree text none accepted is = counted tree text accepted is none
one_counted source tree text (passed_over other before out are) accepted is = passed_over other before out (one_counted source tree text are accepted is)
one_counted source tree text (counted other first before is_there are) accepted is = counted other first before is_there (one_counted source tree text are accepted is)

pub one_more : {sources : List Source} {list : List Instrumented} (source : Source) (tree : File) (text : Option MappedText) → AreInstrumented sources list → Accepted source.bytes tree →
    Instruments source tree text → AreInstrumented (sources ++ source ∷ []) (with_text source text list)
one_more source tree None are accepted is = one_passed source tree are accepted is
one_more source tree (Some text) are accepted is = one_counted source tree text are accepted is

-- the sources up to one, with it
pub taken : (sources : List Source) (i : ℕ) (source : Source) → i < length sources → source ≡ get_or sources i source → take (i + 1) sources ≡ take i sources ++ source ∷ []
taken sources i source below is = take_more sources i source below ∙ ap (λ s. take i sources ++ s ∷ []) (sym is)

-- those so far are accepted
pub all_accepted : {sources : List Source} {list : List Instrumented} → AreInstrumented sources list → AreAccepted sources
all_accepted none = tt
all_accepted (passed_over tree accepted out are) = ((tree, accepted), all_accepted are)
all_accepted (counted tree text accepted is_there are) = ((tree, accepted), all_accepted are)

next : (i : ℕ) → suc i ≡ i + 1
next i = omega arith

-- the one at a place, between those before it and those after it
pub split_at : (sources : List Source) (i : ℕ) (source : Source) → i < length sources → source ≡ get_or sources i source → sources ≡ take i sources ++ source ∷ drop (i + 1) sources
split_at sources i source below is =
    sym (take-append-drop i sources) ∙ ap (λ rest. take i sources ++ rest) (drop-cons sources i source below ∙ ap (λ s. s ∷ drop (suc i) sources) (sym is) ∙ ap (λ n. source ∷ drop n sources) (next i))

-- one source more whose map's texts are UTF-8
pub texts_push : (sources : List Source) (source : Source) → HaveTexts sources → IfSome source.input HasTexts → HaveTexts (sources ++ source ∷ [])
texts_push [] source have texts = (texts, tt)
texts_push (one ∷ others) source have texts = (have.0, texts_push others source have.1 texts)
