-- Where what holds of a place holds of every place after it, and of no end, no sentence begins with the tokens that lead there.
use Rattle.std.proofs.Common.{◌≡◌, List, [], ◌∷◌, ◌++◌, Option, Some, None, refl, sym, ap, subst, ◌∙◌}
use Rattle.js_tree.specs.Plain.{Stmts}
use Rattle.js_text.specs.Token.{Token}
use Rattle.js_reading.specs.Sentences.{Dead}
use Rattle.js_reading.specs.Turns.{Config, Start, Finished, turn, run, then_run, tree_of}
use Rattle.js_reading.proofs.sentences.Reading.{complete}
use Rattle.js_reading.proofs.sentences.Runs.{run_append}
use Rattle.js_reading.proofs.sentences.Sound.{stepped}
use Rattle.js_reading.proofs.sentences.Ways.{lands}

pub record Endless (I : Config → Type 0) : Type 0 where
  pub keeps : (c d : Config) (t : Token) → I c → turn c t ≡ Some d → I d
  pub no_end : (ss : Stmts) → I (Finished ss) → ⊥

-- tokens lead nowhere, or to such a place
abbrev pub LostIn : (Config → Type 0) → Option Config → Type 0
LostIn I None = Unit {0}
LostIn I (Some d) = I d

run_kept : (I : Config → Type 0) → Endless I → (ts : List Token) (c d : Config) → I c → run c ts ≡ Some d → I d
run_kept I y [] c d x h = lands I h x
run_kept I y (t ∷ ts) c d x h = stepped (turn c t) (λ e. run e ts) d (λ e k q. run_kept I y ts e d (y.keeps c e t x k) q) h

pub lost_of : (I : Config → Type 0) (o : Option Config) → ((d : Config) → o ≡ Some d → I d) → LostIn I o
lost_of I None h = tt
lost_of I (Some d) h = h d refl

pub lost_then : (I : Config → Type 0) → Endless I → (o : Option Config) (ts : List Token) → LostIn I o → LostIn I (then_run o (λ d. run d ts))
lost_then I y None ts x = tt
lost_then I y (Some d) ts x = lost_of I (run d ts) (λ c h. run_kept I y ts d c x h)

-- so no sentence begins with them
lost_dead : (I : Config → Type 0) → Endless I → (ts : List Token) → LostIn I (run Start ts) → Dead ts
lost_dead I y ts x tree others s = by_run (run Start ts) x (sym (ap tree_of (run_append Start ts others)) ∙ complete s)
  where
    by_rest : (d : Config) → I d → (o : Option Config) → run d others ≡ o → tree_of o ≡ Some tree → ⊥
    by_rest d z (Some (Finished ss)) e q = y.no_end ss (run_kept I y others d (Finished ss) z e)
    by_rest d z o e q = absurd cc

    by_run : (o : Option Config) → LostIn I o → tree_of (then_run o (λ d. run d others)) ≡ Some tree → ⊥
    by_run None z q = absurd cc
    by_run (Some d) z q = by_rest d z (run d others) refl q

pub lost_after : (I : Config → Type 0) → Endless I → (ts us : List Token) (c : Config) → run Start ts ≡ Some c → LostIn I (run c us) → Dead (ts ++ us)
lost_after I y ts us c h x = lost_dead I y (ts ++ us) (subst (LostIn I) (sym (run_append Start ts us ∙ ap (λ o. then_run o (λ d. run d us)) h)) x)
