use Rattle.std.proofs.Common.{◌≡◌, ◌≢◌, suc, map, Ok, Err, IfOk, IfErr, refl, sym, ap, ◌∙◌, subst, arith}
use Rattle.std.proofs.lemmas.Bool.{leb-true}
use Rattle.serde_json.specs.Data.{null, boolean, number, string, array, object}
use Rattle.serde_json.specs.Find.{of_integer}
use Rattle.serde_json.specs.View.{items_of}
use Rattle.cov_object.specs.Data.{value_of, member_of, deepest, depth_of, property_depth, coverage_of_data}
use Rattle.cov_object.specs.Json.{by_key}
use Rattle.cov_object.specs.declared.fault.CoverageFault.TheVariants.{Memory}
use Rattle.cov_object.specs.private.ByFile.{answered, all_or_first, AreUnderTheirKeys}
use Rattle.cov_object.proofs.ByFile.{own-keys}
use Rattle.cov_object.proofs.DataForms.{value_null, value_boolean, value_number, value_string, value_array, value_object, depth_object, coverage_plain, coverage_members}
use Rattle.cov_object.proofs.data.from_data.Goals as goal

pub answers_in-requires : goal.answers_in-requires
answers_in-requires c =
    let within = leb-true (depth_of c.args.tree.now) 127 (sym c.nests_within.ensures ∙ c.if-not-nests_within.false) in
    let own : depth_of c.args.tree.now ≡ suc (deepest (map property_depth c.as_slice.result.now)) =
    ap depth_of c.in-Object.is ∙ depth_object c.in-Object.properties ∙ ap (λ ps. suc (deepest (map property_depth ps))) (sym c.as_slice.ensures) in
    omega (arith, within, own)

pub all_files-requires : goal.all_files-requires
all_files-requires c = subst AreUnderTheirKeys (sym c.in_ok-answers-in-Object.ensures) (own-keys (by_key (map member_of c.as_slice.result.now)))

pub returns-in-Null-clause-err : goal.returns-in-Null-clause-err
returns-in-Null-clause-err c told =
    coverage_plain c.args.tree.now (null) (sym c.nests_within.ensures ∙ c.if-not-nests_within.false) (ap value_of c.in-Null.is ∙ value_null) refl
    ∙ ap Err (sym (c.bad_member.ensures told))

pub returns-in-Boolean-clause-err : goal.returns-in-Boolean-clause-err
returns-in-Boolean-clause-err c told =
    coverage_plain c.args.tree.now (boolean c.in-Boolean.field-0) (sym c.nests_within.ensures ∙ c.if-not-nests_within.false) (ap value_of c.in-Boolean.is ∙ value_boolean c.in-Boolean.field-0) refl
    ∙ ap Err (sym (c.bad_member-in-Boolean.ensures told))

pub returns-in-Number-clause-err : goal.returns-in-Number-clause-err
returns-in-Number-clause-err c told =
    coverage_plain c.args.tree.now (number (of_integer c.in-Number.field-0)) (sym c.nests_within.ensures ∙ c.if-not-nests_within.false) (ap value_of c.in-Number.is ∙ value_number c.in-Number.field-0) refl
    ∙ ap Err (sym (c.bad_member-in-Number.ensures told))

pub returns-in-String-clause-err : goal.returns-in-String-clause-err
returns-in-String-clause-err c told =
    coverage_plain c.args.tree.now (string c.in-String.field-0) (sym c.nests_within.ensures ∙ c.if-not-nests_within.false) (ap value_of c.in-String.is ∙ value_string c.in-String.field-0) refl
    ∙ ap Err (sym (c.bad_member-in-String.ensures told))

pub returns-in-Array-clause-err : goal.returns-in-Array-clause-err
returns-in-Array-clause-err c told =
    coverage_plain c.args.tree.now (array (items_of (map value_of c.in-Array.field-0))) (sym c.nests_within.ensures ∙ c.if-not-nests_within.false) (ap value_of c.in-Array.is ∙ value_array c.in-Array.field-0) refl
    ∙ ap Err (sym (c.bad_member-in-Array.ensures told))

pub returns-in_ok-answers-in-Object-clause-ok : goal.returns-in_ok-answers-in-Object-clause-ok
returns-in_ok-answers-in-Object-clause-ok c =
    let members = by_key (map member_of c.as_slice.result.now) in
    let told : coverage_of_data c.args.tree.now ≡ all_or_first (answered c.in_ok-answers-in-Object.answers.entries) =
    coverage_members c.args.tree.now members (sym c.nests_within.ensures ∙ c.if-not-nests_within.false)
    (ap value_of c.in-Object.is ∙ value_object c.in-Object.properties ∙ ap (λ ps. object (by_key (map member_of ps))) (sym c.as_slice.ensures))
    ∙ ap all_or_first (sym c.in_ok-answers-in-Object.ensures) in
    subst (λ files. IfOk c.all_files.result (λ map. files ≡ Ok map)) (sym told) c.all_files.ensures.ok

pub returns-in_ok-answers-in-Object-clause-err : goal.returns-in_ok-answers-in-Object-clause-err
returns-in_ok-answers-in-Object-clause-err c =
    let members = by_key (map member_of c.as_slice.result.now) in
    let told : coverage_of_data c.args.tree.now ≡ all_or_first (answered c.in_ok-answers-in-Object.answers.entries) =
    coverage_members c.args.tree.now members (sym c.nests_within.ensures ∙ c.if-not-nests_within.false)
    (ap value_of c.in-Object.is ∙ value_object c.in-Object.properties ∙ ap (λ ps. object (by_key (map member_of ps))) (sym c.as_slice.ensures))
    ∙ ap all_or_first (sym c.in_ok-answers-in-Object.ensures) in
    subst (λ files. IfErr c.all_files.result (λ fault. fault ≢ Memory → files ≡ Err fault)) (sym told) c.all_files.ensures.err
