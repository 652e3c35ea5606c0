-- The worked examples of the opening realm compute.
use Rattle.std.proofs.Common.{refl}
use Rattle.js_value.specs.Realm as realm
use Rattle.js_value.specs.RealmRows.{Places, Inheritance, Functions, Errors, GlobalNames}

pub places : Places
unfolding realm.opening realm.each realm.freeze_all realm.rows realm.named_errors realm.named_objects
places = record { objects = refl; functions = refl; size = refl; older = refl; frozen = refl; global = refl }

pub inheritance : Inheritance
unfolding realm.opening realm.each realm.freeze_all realm.rows realm.named_errors realm.named_objects
inheritance = record { of_errors = refl; of_error_functions = refl; of_error = refl; of_functions = refl; of_all = refl; global = refl; regular = refl }

pub functions : Functions
unfolding realm.opening realm.each realm.freeze_all realm.rows realm.named_errors realm.named_objects
functions = record { kind = refl; order = refl; name = refl; length = refl; prototype = refl; constructor = refl; inherited = refl; math = refl }

pub errors : Errors
unfolding realm.opening realm.each realm.freeze_all realm.rows realm.named_errors realm.named_objects
errors = record { name = refl; message = refl }

pub global_names : GlobalNames
unfolding realm.opening realm.each realm.freeze_all realm.rows realm.named_errors realm.named_objects
global_names = record { undefined_name = refl; global_this = refl; math = refl; constructor = refl; print = refl; held = refl; required = refl; constant = refl }
