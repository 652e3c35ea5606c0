-- The lines with their parts grouped as the code writes them.
use Rattle.std.proofs.Common.{◌≡◌, ℕ, List, [], ◌∷◌, ◌++◌, sym}
use Rattle.std.specs.Prelude.{codes, decimal}
use Rattle.std.proofs.lemmas.List.{append_assoc}
use Rattle.js_terms.specs.declared.place.Pos.{Pos}
use Rattle.cov_summary.specs.declared.shortfall.Shortfall.{Shortfall}
use Rattle.cov_report.specs.Percent.{percent_text}
use Rattle.cov_inputs.specs.declared.refusal.What.{What}
use Rattle.cov_commands.specs.Line.{line, refused_line, metric_text, shortfall_line, what_text, BadInput, Going, NotUtf8}

pub line-refused : (path : List ℕ) (place : Pos) (why : List ℕ) → refused_line path place why ≡ codes "Refused: " ++ (path ++ (codes ":" ++ (decimal place.line ++ (codes ":" ++ (decimal place.column ++ (codes ": " ++ (why ++ 10 ∷ [])))))))
line-refused path place why = simp append_assoc

pub line-NotUtf8 : (path : List ℕ) (at : ℕ) → line (NotUtf8 path at) ≡ codes "Refused: " ++ (path ++ (codes ": not UTF-8 at byte " ++ (decimal at ++ 10 ∷ [])))
line-NotUtf8 path at = simp append_assoc

pub line-Going : (turns : ℕ) → line (Going turns) ≡ codes "Still going after " ++ (decimal turns ++ (codes " steps" ++ 10 ∷ []))
line-Going turns = simp append_assoc

pub bad_input : (path : List ℕ) (what : What) (text : List ℕ) → text ≡ what_text what → codes "Bad input: " ++ (path ++ (codes ": " ++ (text ++ 10 ∷ []))) ≡ line (BadInput path what)
bad_input path what text is = rw is (sym (grouped path what))
  where
    grouped : (path : List ℕ) (what : What) → line (BadInput path what) ≡ codes "Bad input: " ++ (path ++ (codes ": " ++ (what_text what ++ 10 ∷ [])))
    grouped path what = simp append_assoc

pub shortfall_is : (shortfall : Shortfall) (metric percent : List ℕ) → metric ≡ metric_text shortfall.what → percent ≡ percent_text shortfall.hundredths →
    codes "ERROR: Coverage for " ++ (metric ++ (codes " (" ++ (percent ++ (codes "%) does not meet global threshold (" ++ (decimal shortfall.threshold ++ (codes "%)" ++ 10 ∷ []))))))
    ≡ shortfall_line shortfall
shortfall_is shortfall metric percent same as_told = rw (same, as_told) (sym (grouped shortfall))
  where
    grouped : (shortfall : Shortfall) → shortfall_line shortfall
        ≡ codes "ERROR: Coverage for " ++ (metric_text shortfall.what ++ (codes " (" ++ (percent_text shortfall.hundredths ++ (codes "%) does not meet global threshold (" ++ (decimal shortfall.threshold ++ (codes "%)" ++ 10 ∷ []))))))
    grouped shortfall = simp append_assoc
