use Rattle.std.proofs.Common.{◌≡◌, ◌≢◌, Ok, Err, IfOk, IfErr, Some, option_map, option_and_then, sym, subst, rules}
use Rattle.cov_object.specs.declared.fault.CoverageFault.TheVariants.{Memory}
use Rattle.serde_json.specs.Find.{as_object}
use Rattle.serde_json.specs.Read.{read}
use Rattle.cov_object.specs.private.ByFile.{answers, answered}
use Rattle.cov_object.proofs.ByFile.{told}
use Rattle.cov_object.proofs.by_file.files_in.Goals as goal

pub all_files-requires : goal.all_files-requires
all_files-requires c =
    let found : Some (answered c.in-Some.answers.entries) ≡ option_map answers (option_and_then as_object (read c.args.text.now)) = search rules in
    (told (read c.args.text.now) (answered c.in-Some.answers.entries) found).1

pub returns-in-Some-clause-ok : goal.returns-in-Some-clause-ok
returns-in-Some-clause-ok c =
    let found : Some (answered c.in-Some.answers.entries) ≡ option_map answers (option_and_then as_object (read c.args.text.now)) = search rules in
    let same = (told (read c.args.text.now) (answered c.in-Some.answers.entries) found).0 in
    subst (λ files. IfOk c.all_files.result (λ map. files ≡ Ok map)) (sym same) c.all_files.ensures.ok

pub returns-in-Some-clause-err : goal.returns-in-Some-clause-err
returns-in-Some-clause-err c =
    let found : Some (answered c.in-Some.answers.entries) ≡ option_map answers (option_and_then as_object (read c.args.text.now)) = search rules in
    let same = (told (read c.args.text.now) (answered c.in-Some.answers.entries) found).0 in
    subst (λ files. IfErr c.all_files.result (λ fault. fault ≢ Memory → files ≡ Err fault)) (sym same) c.all_files.ensures.err
