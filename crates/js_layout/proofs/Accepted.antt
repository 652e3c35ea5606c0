-- The trees of accepted texts can be printed.
use Rattle.std.proofs.Common.{◌≡◌, Bool, true, List, [], ◌∷◌, ◌++◌, None, refl}
use Rattle.js_tree.specs.Plain.{File, MakeFile}
use Rattle.js_walk.specs.Walk.{walk_file}
use Rattle.js_scopes.specs.declared.fault.ScopeFault.{ScopeFault}
use Rattle.js_scopes.specs.Mentions.{mentions_file, nothing_told}
use Rattle.js_scopes.specs.Order.{first}
use Rattle.js_scopes.specs.Scopes.{own_of_file, own_of_part}
use Rattle.js_scopes.specs.Checks.{reserved_among, faults, first_fault}
use Rattle.js_spelling.specs.Laws.{HasTokens}
use Rattle.js_layout.specs.Laws.{AcceptedPrints}
use Rattle.js_layout.proofs.FineSpells.{FineFile, sentence_fine}
use Rattle.js_layout.proofs.FineNames.{left_none, Calm, are_stmts}

-- no fault is first where there is none
none_first : (fs : List ScopeFault) → first fs ≡ None → fs ≡ []
none_first [] h = refl
none_first (f ∷ fs) h = absurd cc

-- where no rule is broken, no mention is reserved
calm_file : (again : Bool) (file : File) → first_fault again file ≡ None → Calm again (mentions_file file)
unfolding faults
calm_file again file h =
    left_none (reserved_among again (mentions_file file)) (own_of_file file) (left_none (reserved_among again (mentions_file file) ++ own_of_file file) (walk_file own_of_part nothing_told file tt) (none_first _ h))

pub accepted_prints : HasTokens → AcceptedPrints
accepted_prints has again bytes (MakeFile body comments) utf8 reads unbroken =
    let fine : FineFile (MakeFile body []) = sentence_fine reads.sentence (has bytes reads.tokens reads.end utf8 reads.lexed) in
    record { body = are_stmts again true body fine.0 (calm_file again (MakeFile body comments) unbroken); this = fine.1 }
