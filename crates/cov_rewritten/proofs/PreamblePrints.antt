-- The preamble can be printed, where the name N, the path, the hash and the data can.
use Rattle.std.proofs.Common.{ℕ, false, List, refl, arith}
use Rattle.std.specs.Prelude.{codes}
use Rattle.std.specs.Str.{chars}
use Rattle.unicode_ident.proofs.Computing.{unicode_ident}
use Rattle.js_terms.specs.declared.words.Spelled.{Spelled}
use Rattle.js_tree.specs.Plain.{Expr}
use Rattle.js_text.specs.Character.{is_gap, starts_identifier, continues_identifier, is_digit}
use Rattle.js_text.specs.Lex.{common_token}
use Rattle.js_text.specs.Token.{Word}
use Rattle.js_text.specs.Word.{reserved_word}
use Rattle.js_reading.specs.Kinds.{is_keyword}
use Rattle.js_spelling.specs.Tokens.{IsToken}
use Rattle.js_layout.specs.Printable.{IsName, Refers, IsString, IsExpr, AreStmts}
use Rattle.js_layout.proofs.Signs.{word_token}
use Rattle.cov_rewritten.specs.Preamble.{data_of, held_of, preamble_of}
use Rattle.cov_rewritten.proofs.Quoted.{quoted_string}

word_path : Refers (codes "path")
unfolding is_keyword reserved_word
word_path = record { name = record { token = word_token (codes "path") refl (omega arith); free = refl }; free = refl }

word_hash : Refers (codes "hash")
unfolding is_keyword reserved_word
word_hash = record { name = record { token = word_token (codes "hash") refl (omega arith); free = refl }; free = refl }

word_gcv : Refers (codes "gcv")
unfolding is_keyword reserved_word
word_gcv = record { name = record { token = word_token (codes "gcv") refl (omega arith); free = refl }; free = refl }

word_data : Refers (codes "data")
unfolding is_keyword reserved_word
word_data = record { name = record { token = word_token (codes "data") refl (omega arith); free = refl }; free = refl }

word_global : Refers (codes "global")
unfolding is_keyword reserved_word
word_global = record { name = record { token = word_token (codes "global") refl (omega arith); free = refl }; free = refl }

word_coverage : Refers (codes "coverage")
unfolding is_keyword reserved_word
word_coverage = record { name = record { token = word_token (codes "coverage") refl (omega arith); free = refl }; free = refl }

word_actual : Refers (codes "actual")
unfolding is_keyword reserved_word
word_actual = record { name = record { token = word_token (codes "actual") refl (omega arith); free = refl }; free = refl }

token_this : IsToken (Word (codes "globalThis"))
unfolding chars common_token is_gap starts_identifier continues_identifier is_digit unicode_ident lib.Utf8.encode
token_this = record { written = refl; utf8 = (codes "globalThis", (refl, refl)); no_gap = refl; some = omega arith; alone = refl }

word_this : Refers (codes "globalThis")
unfolding is_keyword reserved_word
word_this = record { name = record { token = token_this; free = refl }; free = refl }

token_key : IsToken (Word (codes "__coverage__"))
unfolding chars common_token is_gap starts_identifier continues_identifier is_digit unicode_ident lib.Utf8.encode
token_key = record { written = refl; utf8 = (codes "__coverage__", (refl, refl)); no_gap = refl; some = omega arith; alone = refl }

name_key : IsName (codes "__coverage__")
unfolding is_keyword reserved_word
name_key = record { token = token_key; free = refl }

pub preamble_prints : (n : List ℕ) (path hash : Spelled) (zero : Expr) → Refers n → IsString path → IsString hash → IsExpr zero → AreStmts false (preamble_of n path hash zero)
preamble_prints n path hash zero h p q r =
    let held : IsExpr held_of = (word_global, word_gcv) in
    let kept : IsExpr data_of = (word_coverage, word_path) in (
      (
        h.name,
        (
          refl,
          tt,
          (
            ((word_path.name, p), tt),
            (
              ((word_hash.name, q), tt),
              (
                ((word_gcv.name, quoted_string (codes "__coverage__") name_key), tt),
                (
                  ((word_data.name, r), tt),
                  (
                    ((word_global.name, word_this), tt),
                    (
                      ((word_coverage.name, (held, (held, refl, tt))), tt),
                      (
                        ((kept, ((kept, word_hash.name.token), word_hash)), ((kept, refl, word_data), tt), refl, tt),
                        (
                          ((word_actual.name, kept), tt),
                          (
                            (h, refl, (tt, (refl, tt, (word_actual, tt)))),
                            (word_actual, tt),
                          ),
                        ),
                      ),
                    ),
                  ),
                ),
              ),
            ),
          ),
        ),
      ),
      ((h, tt), tt),
    )
