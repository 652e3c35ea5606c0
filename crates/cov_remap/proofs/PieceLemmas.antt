-- Files, spread one after another.
use Rattle.std.proofs.Common.{◌≡◌, List, ◌∷◌, ◌++◌, Ok, Err, refl, sym, ap, ◌∙◌, append_assoc}
use Rattle.cov_object.specs.declared.file.FileCoverage.{FileCoverage}
use Rattle.cov_remap.specs.declared.fault.RemapFault.{RemapFault}
use Rattle.cov_remap.specs.Remapped.{and_then, spread, spread_all}
use Rattle.cov_remap.specs.private.Piece.{onto}
use Rattle.cov_remap.proofs.Spread.{Answer, fine, not_fine, same-fine}

onto-by : (before after : List FileCoverage) (r q : Answer (List FileCoverage)) → onto before r ≡ fine after → onto after q ≡ onto before (and_then r (λ own. and_then q (λ others. fine (own ++ others))))
onto-by before after (Err why) q e = not_fine why after e
onto-by before after (Ok own) (Err why) e = refl
onto-by before after (Ok own) (Ok others) e = ap (λ xs. fine (xs ++ others)) (sym (same-fine (before ++ own) after e)) ∙ ap fine (append_assoc before own others)

pub onto_more : (before after : List FileCoverage) (file : FileCoverage) (rest : List FileCoverage) → onto before (spread file) ≡ fine after → onto after (spread_all rest) ≡ onto before (spread_all (file ∷ rest))
onto_more before after file rest e = onto-by before after (spread file) (spread_all rest) e

pub onto_fault : (before : List FileCoverage) (file : FileCoverage) (rest : List FileCoverage) (why : RemapFault) → spread file ≡ Err why → onto before (spread_all (file ∷ rest)) ≡ Err why
onto_fault before file rest why e = ap (λ r. onto before (and_then r (λ own. and_then (spread_all rest) (λ others. fine (own ++ others))))) e
