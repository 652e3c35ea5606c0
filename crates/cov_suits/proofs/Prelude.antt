-- The host's prelude can be read: each word of it is a token, names are no keywords, and its forms stand where they may.
use Rattle.std.proofs.Common.{ℕ, true, false, List, [], ◌∷◌, refl, arith}
use Rattle.std.specs.Prelude.{codes}
use Rattle.std.specs.Str.{chars}
use Rattle.unicode_ident.proofs.Computing.{unicode_ident}
use Rattle.js_tree.specs.Plain.{Expr, Stmt}
use Rattle.js_tree.specs.Tree.{stmts_of}
use Rattle.js_text.specs.Character.{is_gap, starts_identifier, continues_identifier, is_digit}
use Rattle.js_text.specs.Lex.{common_token}
use Rattle.js_text.specs.Token.{Word, Numeral}
use Rattle.js_text.specs.Word.{reserved_word}
use Rattle.js_reading.specs.Kinds.{is_keyword}
use Rattle.js_spelling.specs.Tokens.{IsToken}
use Rattle.js_layout.specs.Printable.{Refers, IsExpr, IsStmt, AreStmts, IsProperty, Printable, NoDeclaration}
use Rattle.js_layout.proofs.Signs.{word_token}
use Rattle.js_prelude.specs.Prelude as H
use Rattle.js_prelude.specs.Prelude.{prelude_tree}
use Rattle.cov_rewritten.proofs.Quoted.{string_token}
use Rattle.js_suits.specs.Laws.{Readable}

-- words of small letters

small_f : Refers (codes "f")
unfolding is_keyword reserved_word
small_f = record { name = record { token = word_token (codes "f") refl (omega arith); free = refl }; free = refl }

small_n : Refers (codes "n")
unfolding is_keyword reserved_word
small_n = record { name = record { token = word_token (codes "n") refl (omega arith); free = refl }; free = refl }

small_i : Refers (codes "i")
unfolding is_keyword reserved_word
small_i = record { name = record { token = word_token (codes "i") refl (omega arith); free = refl }; free = refl }

small_v : Refers (codes "v")
unfolding is_keyword reserved_word
small_v = record { name = record { token = word_token (codes "v") refl (omega arith); free = refl }; free = refl }

small_r : Refers (codes "r")
unfolding is_keyword reserved_word
small_r = record { name = record { token = word_token (codes "r") refl (omega arith); free = refl }; free = refl }

length_word : IsToken (Word (codes "length"))
length_word = word_token (codes "length") refl (omega arith)

-- words with capitals

type_error_word : IsToken (Word (codes "TypeError"))
unfolding chars common_token is_gap starts_identifier continues_identifier is_digit unicode_ident lib.Utf8.encode
type_error_word = record { written = refl; utf8 = (codes "TypeError", (refl, refl)); no_gap = refl; some = omega arith; alone = refl }

type_error_name : Refers (codes "TypeError")
unfolding is_keyword reserved_word
type_error_name = record { name = record { token = type_error_word; free = refl }; free = refl }

for_each_word : IsToken (Word (codes "forEach"))
unfolding chars common_token is_gap starts_identifier continues_identifier is_digit unicode_ident lib.Utf8.encode
for_each_word = record { written = refl; utf8 = (codes "forEach", (refl, refl)); no_gap = refl; some = omega arith; alone = refl }

find_index_word : IsToken (Word (codes "findIndex"))
unfolding chars common_token is_gap starts_identifier continues_identifier is_digit unicode_ident lib.Utf8.encode
find_index_word = record { written = refl; utf8 = (codes "findIndex", (refl, refl)); no_gap = refl; some = omega arith; alone = refl }

-- texts and numbers

function_text : IsExpr (H.string (codes "function"))
unfolding lib.Utf8.encode chars
function_text = record { token = string_token (codes "function") (codes "function") refl refl refl; units = refl }

message_text : IsExpr (H.string (codes "not a function"))
unfolding lib.Utf8.encode chars
message_text = record { token = string_token (codes "not a function") (codes "not a function") refl refl refl; units = refl }

zero_number : IsToken (Numeral (codes "0"))
unfolding chars common_token is_gap starts_identifier is_digit unicode_ident lib.Utf8.encode
zero_number = record { written = refl; utf8 = (codes "0", (refl, refl)); no_gap = refl; some = omega arith; alone = refl }

one_number : IsToken (Numeral (codes "1"))
unfolding chars common_token is_gap starts_identifier is_digit unicode_ident lib.Utf8.encode
one_number = record { written = refl; utf8 = (codes "1", (refl, refl)); no_gap = refl; some = omega arith; alone = refl }

-- what the methods share

no_function : IsExpr H.no_function
no_function = (small_f, function_text)

guard : IsStmt H.guard
guard = (no_function, (type_error_name, (message_text, tt)), refl, tt)

takes_length : IsStmt H.takes_length
takes_length = ((small_n.name, (tt, length_word)), tt)

takes_array : IsStmt H.takes_array
takes_array = ((small_r.name, tt), tt)

takes_element : IsStmt H.takes_element
takes_element = ((small_v.name, (tt, small_i)), tt)

element : IsExpr H.element
element = (tt, small_i)

is_present : IsExpr H.is_present
is_present = (small_i, tt)

called : (e : Expr) → IsExpr e → IsExpr (H.called e)
called e h = (small_f, (h, (small_i, (tt, tt))))

below : (e : Expr) → IsExpr e → IsExpr (H.below e)
below e h = (h, small_n)

each_index : (body : Stmt) → IsStmt body → NoDeclaration body → IsStmt (H.each_index body)
each_index body h d = (((small_i.name, zero_number), tt), (small_i, small_n), (small_i, refl), h, d)

when : (test : Expr) (body : Stmt) → IsExpr test → IsStmt body → NoDeclaration body → IsStmt (H.when test body)
when test body h g d = (h, g, d, tt)

with_element : (last : Stmt) → IsStmt last → IsStmt (H.with_element last)
with_element last h = (takes_element, (h, tt))

method : (word : List ℕ) (statements : List Stmt) → IsToken (Word word) → AreStmts false (stmts_of statements) → IsProperty (H.method word statements)
method word statements h g = (h, (refl, (small_f.name, tt, tt), (guard, (takes_length, g))))

-- the methods

present : (last : Stmt) → IsStmt last → NoDeclaration last → IsStmt (H.each_index (H.when H.is_present last))
present last h d = each_index (H.when H.is_present last) (when H.is_present last is_present h d) refl

for_each : IsProperty H.for_each
for_each = method (codes "forEach") (H.each_index (H.when H.is_present (H.does (H.called H.element))) ∷ []) for_each_word (present (H.does (H.called H.element)) (called H.element element) refl, tt)

result_length : IsExpr H.result_length
result_length = (small_r, length_word)

lengthens : IsStmt H.lengthens
lengthens = when (H.below H.result_length) (H.does (H.assigned H.result_length H.n)) (below H.result_length result_length) (result_length, refl, small_n) refl

maps : IsStmt H.maps
maps = ((small_r, small_i), refl, called H.element element)

map : IsProperty H.map
map = method (codes "map") (H.takes_array ∷ H.each_index (H.when H.is_present H.maps) ∷ H.lengthens ∷ H.returns H.r ∷ []) (word_token (codes "map") refl (omega arith))
    (takes_array, (present H.maps maps refl, (lengthens, (small_r, tt))))

appends : IsStmt H.appends
appends = ((small_r, result_length), refl, small_v)

keeps : IsStmt H.keeps
keeps = when (H.called H.v) H.appends (called H.v small_v) appends refl

filter : IsProperty H.filter
filter = method (codes "filter") (H.takes_array ∷ H.each_index (H.when H.is_present (H.with_element H.keeps)) ∷ H.returns H.r ∷ []) (word_token (codes "filter") refl (omega arith))
    (takes_array, (present (H.with_element H.keeps) (with_element H.keeps keeps) refl, (small_r, tt)))

some : IsProperty H.some
some = method (codes "some") (H.each_index (H.when (H.both H.is_present (H.called H.element)) (H.returns (H.truth true))) ∷ H.returns (H.truth false) ∷ []) (word_token (codes "some") refl (omega arith)) (
  each_index (H.when (H.both H.is_present (H.called H.element)) (H.returns (H.truth true)))
      (when (H.both H.is_present (H.called H.element)) (H.returns (H.truth true)) (is_present, called H.element element) tt refl) refl,
  (tt, tt),
)

every : IsProperty H.every
every = method (codes "every") (H.each_index (H.when (H.both H.is_present H.fails) (H.returns (H.truth false))) ∷ H.returns (H.truth true) ∷ []) (word_token (codes "every") refl (omega arith)) (
  each_index (H.when (H.both H.is_present H.fails) (H.returns (H.truth false)))
      (when (H.both H.is_present H.fails) (H.returns (H.truth false)) (is_present, called H.element element) tt refl) refl,
  (tt, tt),
)

returns_found : IsStmt H.returns_found
returns_found = when (H.called H.v) (H.returns H.v) (called H.v small_v) small_v refl

find : IsProperty H.find
find = method (codes "find") (H.each_index (H.with_element H.returns_found) ∷ []) (word_token (codes "find") refl (omega arith))
    (each_index (H.with_element H.returns_found) (with_element H.returns_found returns_found) refl, tt)

returns_index : IsStmt H.returns_index
returns_index = when (H.called H.element) (H.returns H.i) (called H.element element) small_i refl

find_index : IsProperty H.find_index
find_index = method (codes "findIndex") (H.each_index H.returns_index ∷ H.returns_none ∷ []) find_index_word (each_index H.returns_index returns_index refl, (one_number, tt))

printable : Printable prelude_tree
unfolding prelude_tree
printable = record { body = ((for_each, (map, (filter, (some, (every, (find, (find_index, tt))))))), tt); this = refl }

pub prelude_readable : Readable prelude_tree
unfolding prelude_tree
prelude_readable = record { printable = printable; not_global = refl }
