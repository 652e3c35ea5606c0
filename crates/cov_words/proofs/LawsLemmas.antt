-- The plain forms by clap's definitions, which compute at a word once it is known to begin with no `-`.
use Rattle.std.proofs.Common.{◌≡◌, ℕ, ◌==◌, ◌&&◌, true, false, List, [], ◌∷◌, Option, Some, None, inl, inr, refl, sym, ap, subst, true≢false, arith}
use Rattle.std.specs.Prelude.{codes, nat_le, option_and_then, option_map}
use Rattle.std.specs.Str.{bytes_eq}
use Rattle.std.specs.Str.Parse.{digits_value, without_leading_plus}
use Rattle.std.proofs.lemmas.Bool.{le-leb, ne_eqb}
use Rattle.clap.specs.Lexer.{strip_byte}
use Rattle.clap.specs.ValueTests.{is_unsigned_in}
use Rattle.clap.specs.declared.builder.value_parser.ValueParser.TheVariants as parser
use Rattle.clap.proofs.OnLiterals.{clap_on_literals}
use Rattle.clap.proofs.ValueTestLemmas.{accepts-Accepts}
use Rattle.path_globs.specs.Source.{source_path}
use Rattle.cov_words.specs.declared.command.Command.TheVariants.{Instrument}
use Rattle.cov_words.specs.Laws.{IsPlain, MapsFile, ExecFile, ExecTurns, NoTurns, OneFile, RunFile, RunExcluding, InstrumentFile, MergeFile, ReportFile, CheckFiles, V8File, OtherName}
use Rattle.cov_words.specs.Words.{command_of, is_help, max_turns}
use Rattle.cov_words.proofs.WordsLemmas.{is_number}

not_dash : (first : ℕ) (rest : List ℕ) → IsPlain (first ∷ rest) → (first == 45) ≡ false
not_dash first rest plain = ne_eqb first 45 (λ e. true≢false (subst (λ n. (45 == n && true) ≡ false) e plain))

-- so it is no flag
no_dash : (word : List ℕ) → IsPlain word → strip_byte 45 word ≡ None
no_dash [] plain = refl
no_dash (first ∷ rest) plain = rw (not_dash first rest plain) refl

-- nor `--`
no_dashes : (word : List ℕ) → IsPlain word → bytes_eq word (codes "--") ≡ false
no_dashes [] plain = refl
no_dashes (first ∷ rest) plain = rw (not_dash first rest plain) refl

-- nor `--help`
no_help : (word : List ℕ) (words : List (List ℕ)) → IsPlain word → is_help (word ∷ words) ≡ false
no_help [] [] plain = refl
no_help (first ∷ rest) [] plain = rw (not_dash first rest plain) refl
no_help word (other ∷ words) plain = refl

pub maps_file : MapsFile
unfolding clap_on_literals
maps_file file plain = rw (no_dashes file plain, no_dash file plain, no_dash file plain) refl

pub exec_file : ExecFile
unfolding clap_on_literals
exec_file file plain = rw (no_dashes file plain, no_dash file plain, no_dash file plain) refl

-- a number begins with no `-`
plain_number : (digits : List ℕ) → is_unsigned_in 0 max_turns digits ≡ true → IsPlain digits
plain_number [] passes = refl
plain_number (first ∷ rest) passes = ap (λ test. test && true) (ne_eqb 45 first (λ e. not_minus (subst (λ n. is_unsigned_in 0 max_turns (n ∷ rest) ≡ true) (sym e) passes)))
  where
    not_minus : is_unsigned_in 0 max_turns (45 ∷ rest) ≡ true → ⊥
    not_minus minus = let taken = accepts-Accepts false (parser.Unsigned 0 max_turns) (45 ∷ rest) minus in omega (arith, taken.0.1.0)

-- and is one of 64 bits
is_number_of : (digits : List ℕ) → is_unsigned_in 0 max_turns digits ≡ true → is_unsigned_in 0 18446744073709551615 digits ≡ true
is_number_of digits passes = let taken = accepts-Accepts false (parser.Unsigned 0 max_turns) digits passes in is_number digits taken.0 taken.1

-- no greater than the most
is_within : (digits : List ℕ) → is_unsigned_in 0 max_turns digits ≡ true → nat_le (digits_value 10 (without_leading_plus digits)) max_turns ≡ true
is_within digits passes = let taken = accepts-Accepts false (parser.Unsigned 0 max_turns) digits passes in le-leb (digits_value 10 (without_leading_plus digits)) max_turns taken.3

pub exec_turns : ExecTurns
unfolding clap_on_literals
exec_turns digits file plain passes =
    let number = plain_number digits passes in
    rw (no_dashes digits number, no_dash digits number, no_dash digits number, no_dashes file plain, no_dash file plain, no_dash file plain, passes, is_number_of digits passes, is_within digits passes) refl

pub no_turns : NoTurns
unfolding clap_on_literals
no_turns turns file number plain fails =
    rw (no_dashes turns number, no_dash turns number, no_dash turns number, no_dashes file plain, no_dash file plain, no_dash file plain, fails) refl

of_maps : (first second : List ℕ) → IsPlain first → IsPlain second → command_of (codes "maps" ∷ first ∷ second ∷ []) ≡ None
unfolding clap_on_literals
of_maps first second plain other =
    rw (no_dashes first plain, no_dash first plain, no_dash first plain, no_dashes second other, no_dash second other, no_dash second other) refl

of_exec : (first second : List ℕ) → IsPlain first → IsPlain second → command_of (codes "exec" ∷ first ∷ second ∷ []) ≡ None
unfolding clap_on_literals
of_exec first second plain other =
    rw (no_dashes first plain, no_dash first plain, no_dash first plain, no_dashes second other, no_dash second other, no_dash second other) refl

pub one_file : OneFile
one_file name first second (inl e) plain other = subst (λ n. command_of (n ∷ first ∷ second ∷ []) ≡ None) (sym e) (of_maps first second plain other)
one_file name first second (inr e) plain other = subst (λ n. command_of (n ∷ first ∷ second ∷ []) ≡ None) (sym e) (of_exec first second plain other)

pub run_file : RunFile
unfolding clap_on_literals
run_file file plain = rw (no_dashes file plain, no_dash file plain, no_dash file plain) refl

pub run_excluding : RunExcluding
unfolding clap_on_literals
run_excluding globs file plain other =
    rw (no_dashes globs plain, no_dash globs plain, no_dash globs plain, no_dashes file other, no_dash file other, no_dash file other) refl

pub instrument_file : InstrumentFile
unfolding clap_on_literals
instrument_file out file plain other some =
    rw (no_dashes out plain, no_dash out plain, no_dash out plain, no_dashes file other, no_dash file other, no_dash file other, some) (one (source_path file))
  where
    one : (found : Option (List ℕ)) → option_map (Instrument out) (option_and_then (λ path. Some (path ∷ [])) found) ≡ option_map (λ path. Instrument out (path ∷ [])) found
    one None = refl
    one (Some path) = refl

pub merge_file : MergeFile
unfolding clap_on_literals
merge_file out file plain other some =
    rw (no_dashes out plain, no_dash out plain, no_dash out plain, no_dashes file other, no_dash file other, no_dash file other, some) refl

pub report_file : ReportFile
unfolding clap_on_literals
report_file file plain = rw (no_dashes file plain, no_dash file plain, no_dash file plain) refl

pub check_files : CheckFiles
unfolding clap_on_literals
check_files first second plain other =
    rw (no_dashes first plain, no_dash first plain, no_dash first plain, no_dashes second other, no_dash second other, no_dash second other) refl

pub v8_file : V8File
unfolding clap_on_literals
v8_file out file plain other some =
    rw (no_dashes out plain, no_dash out plain, no_dash out plain, no_dashes file other, no_dash file other, no_dash file other, some) refl

pub other_name : OtherName
unfolding clap_on_literals
other_name name words plain no_maps no_exec no_instrument no_merge no_report no_check no_v8 no_run no_demo =
    rw (no_help name words plain, no_maps, no_exec, no_instrument, no_run, no_merge, no_report, no_check, no_demo, no_v8, no_dashes name plain, no_dash name plain, no_dash name plain) refl
