use Rattle.std.proofs.Common.{◌≡◌, ◌≢◌, ◌∙◌, length, true, Ok, Err, IfOk, IfErr, None, ap, sym, subst, arith}
use Rattle.std.specs.Prelude.{nat_le}
use Rattle.std.specs.Str.{IsUtf8}
use Rattle.serde_json.specs.Read.{read}
use Rattle.cov_object.specs.declared.fault.CoverageFault.TheVariants.{Memory}
use Rattle.cov_object.specs.Read.{most_bytes}
use Rattle.cov_object.proofs.ReadFiles.{json_of-text, json_of-none, coverage_of-short}
use Rattle.cov_object.proofs.read.read_json.Goals as goal

pub returns-in_default-clause-err : goal.returns-in_default-clause-err
returns-in_default-clause-err c other =
    let short : nat_le (length c.args.bytes.now) most_bytes ≡ true = grind arith in
    let none : IsUtf8 c.args.bytes.now → ⊥ = c.in_default.ensures.cases.0 in
    coverage_of-short c.args.bytes.now None short (sym (json_of-none c.args.bytes.now (λ text. absurd (none text))))

pub returns-clause-ok : goal.returns-clause-ok
returns-clause-ok c =
    let short : nat_le (length c.args.bytes.now) most_bytes ≡ true = grind arith in
    let same : c.in-Ok.text.now ≡ c.args.bytes.now = c.in-Ok.ensures.cases.0 in
    let all = coverage_of-short c.args.bytes.now (read c.in-Ok.text.now) short (sym (ap read same ∙ json_of-text c.args.bytes.now c.in-Ok.ensures.cases.1)) in
    subst (λ files. IfOk c.files_in.result (λ map. files ≡ Ok map)) (sym all) c.files_in.ensures.ok

pub returns-clause-err : goal.returns-clause-err
returns-clause-err c =
    let short : nat_le (length c.args.bytes.now) most_bytes ≡ true = grind arith in
    let same : c.in-Ok.text.now ≡ c.args.bytes.now = c.in-Ok.ensures.cases.0 in
    let all = coverage_of-short c.args.bytes.now (read c.in-Ok.text.now) short (sym (ap read same ∙ json_of-text c.args.bytes.now c.in-Ok.ensures.cases.1)) in
    subst (λ files. IfErr c.files_in.result (λ fault. fault ≢ Memory → files ≡ Err fault)) (sym all) c.files_in.ensures.err
