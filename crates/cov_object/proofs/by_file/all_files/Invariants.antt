-- The files so far, under the keys so far, before those that are left, are all.
use Rattle.std.proofs.Common.{◌≡◌, ◌++◌, List}
use Rattle.cov_object.specs.private.ByFile.{answered, all_or_first, AreUnderTheirKeys}
use Rattle.cov_object.proofs.ByFile.{Entry, paths, keys_bytes, with_before}
use Rattle.cov_object.proofs.by_file.all_files.Given as goal

abbrev pub invariant-files : goal.invariant-files
invariant-files l =
    (done : List Entry) × (l.fn.answers.entries ≡ done ++ l.answer-iterator) × (paths l.map ≡ keys_bytes done)
    × (with_before l.map (all_or_first (answered l.answer-iterator)) ≡ all_or_first (answered l.fn.answers.entries))
    × AreUnderTheirKeys (answered l.answer-iterator)
