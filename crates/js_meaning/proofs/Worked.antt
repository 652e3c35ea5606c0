-- The worked examples compute.
use Rattle.std.proofs.Common.{refl}
use Rattle.std.specs.Fmt.{digits}
use Rattle.std.specs.Str.{chars}
use Rattle.js_text.specs.Character.{is_digit}
use Rattle.js_value.specs.Realm as realm
use Rattle.js_meaning.specs.Rows.{OneLine, OneBranch, NestedLoop, SecondFile, ComputedMethod, LabelledLoop, NotHoisted, DefaultOnce, FallsThrough, Chain}

pub one_line : OneLine
unfolding lib.Utf8.encode chars is_digit realm.opening realm.each realm.freeze_all realm.rows realm.named_errors realm.named_objects digits
one_line = record { counted = refl; cut = refl }

pub one_branch : OneBranch
unfolding chars is_digit realm.opening realm.each realm.freeze_all realm.rows realm.named_errors realm.named_objects digits
one_branch = record { counted = refl; cut = refl }

pub nested_loop : NestedLoop
unfolding chars is_digit realm.opening realm.each realm.freeze_all realm.rows realm.named_errors realm.named_objects digits
nested_loop = record { counted = refl; cut = refl }

pub second_file : SecondFile
unfolding lib.Utf8.encode chars is_digit realm.opening realm.each realm.freeze_all realm.rows realm.named_errors realm.named_objects digits
second_file = record { counted = refl }

pub computed_method : ComputedMethod
computed_method = record { counted = refl }

pub labelled_loop : LabelledLoop
labelled_loop = record { marked = refl }

pub not_hoisted : NotHoisted
unfolding lib.Utf8.encode chars is_digit realm.opening realm.each realm.freeze_all realm.rows realm.named_errors realm.named_objects digits
not_hoisted = record { counted = refl; cut = refl }

pub default_once : DefaultOnce
unfolding lib.Utf8.encode chars is_digit realm.opening realm.each realm.freeze_all realm.rows realm.named_errors realm.named_objects digits
default_once = record { counted = refl }

pub falls_through : FallsThrough
unfolding lib.Utf8.encode chars is_digit realm.opening realm.each realm.freeze_all realm.rows realm.named_errors realm.named_objects digits
falls_through = record { counted = refl }

pub chain : Chain
unfolding lib.Utf8.encode chars is_digit realm.opening realm.each realm.freeze_all realm.rows realm.named_errors realm.named_objects digits
chain = record { counted = refl }
