-- What the code lends from a tree, as the definitions have it.
use Rattle.std.specs.Prelude.{List, map}
use Rattle.js_scopes.specs.Declarations as D
use Rattle.js_scopes.specs.Labels as L
use Rattle.js_scopes.specs.declared.declarations.Declared as lent_name
use Rattle.js_scopes.specs.declared.labels.Inside.{Inside}
use Rattle.js_scopes.specs.declared.labels.Round as lent_label

abbrev pub plain_name : lent_name.Declared → D.Declared
plain_name name = record { how = name.how; at = name.at; name = name.name.now }

abbrev pub plain_all : List lent_name.Declared → List D.Declared
plain_all names = map plain_name names

abbrev pub plain_round : lent_label.Round → L.Round
plain_round round = record { name = round.name.now; is_loop = round.is_loop }

abbrev pub plain_around : List lent_label.Round → Inside → L.Around
plain_around labels inside = record { labels = map plain_round labels; in_loop = inside.in_loop; breakable = inside.breakable }
