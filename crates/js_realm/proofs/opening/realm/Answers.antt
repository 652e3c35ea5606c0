use Rattle.std.proofs.Common.{ap, ◌∙◌}
use Rattle.js_value.specs.declared.built_in.TheConstants.{PROTOTYPES, CONSTRUCTORS}
use Rattle.js_value.specs.Realm as realm
use Rattle.js_value.specs.Realm.{built_in_count, each, freeze_all, rows, named_errors, named_objects, make_object, make_function, hold_function, link, name_error, name_function, name_object, first_names}
use Rattle.js_realm.proofs.opening.realm.Goals as goal

pub returns : goal.returns
unfolding realm.opening realm.rows realm.named_errors realm.named_objects
returns c =
    c.in_ok-name_functions.ensures
    ∙ ap (each name_function 0 rows) (c.in_ok-name_objects.ensures
    ∙ ap (each name_object 0 named_objects) (c.in_ok-make_names.ensures
    ∙ ap first_names (c.freeze_all.ensures
    ∙ ap (freeze_all built_in_count 0) (c.in_ok-name_errors.ensures
    ∙ ap (each name_error 0 named_errors) (c.in_ok-link.ensures
    ∙ ap (each link 0 CONSTRUCTORS) (c.in_ok-hold_functions.ensures
    ∙ ap (each hold_function 0 rows) (c.in_ok-make_functions.ensures
    ∙ ap (each make_function 0 rows) (c.in_ok-make_objects.ensures
    ∙ ap (each make_object 0 PROTOTYPES) c.new-heap.ensures))))))))
