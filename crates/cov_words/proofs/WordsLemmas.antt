-- What the code's calls on matches come to, in the words of the definitions.
use Rattle.std.proofs.Common.{◌≡◌, ◌∙◌, ℕ, ◌^◌, ◌<◌, ◌⊎◌, inl, inr, Bool, true, false, cond, List, [], ◌∷◌, length, Option, Some, None, refl, sym, ap, subst, arith}
use Rattle.std.specs.Prelude.{Ok, Err, Result, option_and_then}
use Rattle.std.specs.Str.Parse.{IsNumeral, ParsesUnsigned, digits_value, without_leading_plus}
use Rattle.std.proofs.lemmas.Bool.{ne_eqb}
use Rattle.clap.specs.Matches.{ReadsOne, one_text}
use Rattle.clap.specs.ValueTests.{is_unsigned_in}
use Rattle.clap.specs.Faults.{fault_of, is_simple_and_free}
use Rattle.clap.specs.Kinds.{IsAmong, Kinds}
use Rattle.clap.specs.Simple.{App, HasMatchesOf, is_simple, subcommand_of, subcommand_rows_of}
use Rattle.clap.specs.Walk.{Text, is_empty, rows_of}
use Rattle.clap.specs.declared.error.kind.ErrorKind.{ErrorKind}
use Rattle.clap.specs.declared.error.kind.ErrorKind.TheVariants.{OutOfMemory}
use Rattle.clap.specs.declared.parser.matches.ArgMatches.{ArgMatches}
use Rattle.clap.specs.declared.builder.value_parser.ValueParser.TheVariants as parser
use Rattle.clap.specs.declared.parser.matches.Found.{Found}
use Rattle.clap.proofs.ValueTestLemmas.{accepts-Accepts, Accepts-accepts}
use Rattle.clap.proofs.WalkLemmas.{one_text-rows}
use Rattle.cov_words.specs.Words.{cov_form, found_in, number_found, number_in}

pub is_number : (text : List ℕ) → IsNumeral 10 (without_leading_plus text) → digits_value 10 (without_leading_plus text) < 2 ^ 64 → is_unsigned_in 0 18446744073709551615 text ≡ true
is_number text numeral fits = Accepts-accepts false (parser.Unsigned 0 18446744073709551615) text (numeral, fits, omega arith, omega arith)

-- what `parse` makes of a text is the number that it writes, where it is one of 64 bits
number_read : (E : Type 0) (G : List ℕ → Result ℕ E → Type 0) (text : List ℕ) (read : Option ℕ) → ReadsOne G text read →
    ((t : List ℕ) (r : Result ℕ E) → G t r → ParsesUnsigned 64 10 t r) → read ≡ number_in text
number_read E G text (Some n) reads only =
    let parsed = only text (Ok n) reads in
    rw (is_number text parsed.0.0 parsed.0.1) (ap Some parsed.1)
number_read E G text None reads only = by_test (is_unsigned_in 0 18446744073709551615 text) refl
  where
    by_test : (test : Bool) → is_unsigned_in 0 18446744073709551615 text ≡ test → None ≡ number_in text
    by_test true is =
        let taken = accepts-Accepts false (parser.Unsigned 0 18446744073709551615) text is in
        absurd (only text (Err reads.0) reads.1 (taken.0, taken.1))
    by_test false is = rw is refl

-- so is what a getter reads
pub one_read : (E : Type 0) (G : List ℕ → Result ℕ E → Type 0) (found : Found) (name : List ℕ) (read : Option ℕ) →
    (one_text found name ≡ None → read ≡ None) →
    ((text : List ℕ) → one_text found name ≡ Some text → ReadsOne G text read) →
    ((t : List ℕ) (r : Result ℕ E) → G t r → ParsesUnsigned 64 10 t r) → read ≡ number_found name (rows_of found)
one_read E G found name read none value only = by_text (one_text found name) refl ∙ ap (option_and_then number_in) (one_text-rows found name)
  where
    by_text : (text : Option (List ℕ)) → one_text found name ≡ text → read ≡ option_and_then number_in (one_text found name)
    by_text None is = rw is (none is)
    by_text (Some text) is = rw is (number_read E G text read (value text is) only)

-- ---- what clap answers

-- the forms are such as clap's definitions speak of
simple : is_simple cov_form ≡ true
simple = refl

free : is_simple_and_free cov_form ≡ true
free = refl

module _ (form : App) (words : List Text) (same : form ≡ cov_form) where
  faults : {kinds : Kinds} → (is_simple_and_free form ≡ true → fault_of form words ≡ kinds) → fault_of cov_form words ≡ kinds
  faults {kinds = kinds} says = subst (λ f. is_simple_and_free f ≡ true → fault_of f words ≡ kinds) same says free

  pub matched : (matches : ArgMatches) → HasMatchesOf form words matches → (is_simple_and_free form ≡ true → fault_of form words ≡ []) → subcommand_rows_of matches ≡ found_in words
  matched matches has none =
      (subst (λ f. HasMatchesOf f words matches) same has simple).1
      ∙ sym (ap (λ kinds. cond (is_empty kinds) (subcommand_of cov_form words) None) (faults none))

  pub unmatched : (kind : ErrorKind) → (kind ≡ OutOfMemory → ⊥) → (is_simple_and_free form ≡ true → (kind ≡ OutOfMemory) ⊎ IsAmong kind (fault_of form words)) → None ≡ found_in words
  unmatched kind other says = by_case (subst (λ f. is_simple_and_free f ≡ true → (kind ≡ OutOfMemory) ⊎ IsAmong kind (fault_of f words)) same says free)
    where
      some : (kinds : Kinds) → IsAmong kind kinds → None ≡ cond (is_empty kinds) (subcommand_of cov_form words) None
      some [] among = absurd among
      some (k ∷ ks) among = sym (ap (λ test. cond test (subcommand_of cov_form words) None) (ne_eqb (length (k ∷ ks)) 0 (λ e. omega (arith, e))))

      by_case : (kind ≡ OutOfMemory) ⊎ IsAmong kind (fault_of cov_form words) → None ≡ found_in words
      by_case (inl same) = absurd (other same)
      by_case (inr among) = some (fault_of cov_form words) among
