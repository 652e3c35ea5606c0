-- What is counted in a file, once its functions are named.
use Rattle.std.proofs.Common.{◌≡◌, ℕ, ◌+◌, ◌*◌, ◌^◌, ◌<◌, ◌≤◌, List, [], ◌∷◌, ◌++◌, length, true, codes, decimal, refl, arith}
use Rattle.std.specs.Str.{IsUtf8}
use Rattle.std.proofs.lemmas.Str.{IsUtf8-append, IsUtf8-from_ascii}
use Rattle.std.proofs.lemmas.Fmt.{IsAscii-decimal}
use Rattle.js_terms.specs.declared.construct.Construct.{Construct}
use Rattle.js_terms.specs.declared.construct.Construct.TheVariants as construct
use Rattle.js_tree.specs.Hints.{heed_comments}
use Rattle.js_tree.specs.Plain.{File, MakeFile}
use Rattle.js_walk.specs.Walk.{within_stmts}
use Rattle.js_walk.specs.Constructs.{told, tell, own_construct, anonymous, name_or_anonymous, named, all_named, constructs_file}
use Rattle.js_reading.specs.Reads.{Reads}
use Rattle.js_layout.specs.Printable.{Printable}
use Rattle.js_layout.proofs.ShortSpells.{sentence_short}
use Rattle.js_layout.proofs.ShortTexts.{tokens_within}
use Rattle.js_bounds.specs.Bounds.{weight, weights, AreNamed, CountsFew, NamesAreTexts}
use Rattle.js_bounds.proofs.Few.{stmts}

named_weight : (number : ℕ) (x : Construct) → weight (named number x) ≡ weight x
named_weight number (construct.Statement loc) = refl
named_weight number (construct.Function name declared body) = refl
named_weight number (construct.Branch kind loc paths) = refl

all_weights : (number : ℕ) (xs : List Construct) → weights (all_named number xs) ≡ weights xs
all_weights number [] = refl
all_weights number (construct.Statement loc ∷ xs) = omega (arith, all_weights number xs)
all_weights number (construct.Function name declared body ∷ xs) = omega (arith, all_weights (number + 1) xs)
all_weights number (construct.Branch kind loc paths ∷ xs) = omega (arith, all_weights number xs)

-- names that are made
anonymous_text : (number : ℕ) → number < 2 ^ 64 → IsUtf8 (anonymous number)
unfolding lib.Utf8.encode
anonymous_text number low =
    IsUtf8-append (codes "(anonymous_" ++ decimal number) (codes ")")
    (IsUtf8-append (codes "(anonymous_") (decimal number) (codes "(anonymous_", (refl, refl)) (IsUtf8-from_ascii (decimal number) (IsAscii-decimal number low)))
    (codes ")", (refl, refl))

name_text : (number : ℕ) (name : List ℕ) → number < 2 ^ 64 → IsUtf8 name → IsUtf8 (name_or_anonymous number name)
name_text number [] low utf8 = anonymous_text number low
name_text number (c ∷ name) low utf8 = utf8

names_texts : (number : ℕ) (xs : List Construct) → number + weights xs < 2 ^ 64 → AreNamed xs → AreNamed (all_named number xs)
names_texts number [] low h = tt
names_texts number (construct.Statement loc ∷ xs) low h = (tt, names_texts number xs (omega (arith, low)) h.1)
names_texts number (construct.Function name declared body ∷ xs) low h = (name_text number name (omega (arith, low)) h.0, names_texts (number + 1) xs (omega (arith, low)) h.1)
names_texts number (construct.Branch kind loc paths ∷ xs) low h = (tt, names_texts number xs (omega (arith, low)) h.1)

-- what is counted before functions are named
record Counted (bytes : List ℕ) (tree : File) : Type 0 where
  few : weights (constructs_file tree) ≤ 8 * length bytes
  names : 8 * length bytes < 2 ^ 64 → AreNamed (constructs_file tree)

counted : (bytes : List ℕ) (tree : File) → IsUtf8 bytes → Reads bytes tree → Printable tree → Counted bytes tree
counted bytes (MakeFile body comments) utf8 reads printable =
    let xs = within_stmts own_construct tell body (told (heed_comments comments)) in
    let fits = stmts (heed_comments comments) true body printable.body in
    let within = tokens_within bytes reads.tokens reads.end utf8 reads.lexed in
    let short = sentence_short reads.sentence within.ample in
    let few : weights xs ≤ 8 * length bytes = omega (arith, fits.few, short, within.part) in
    record {
      few = omega (arith, few, all_weights 0 xs);
      names = λ low. names_texts 0 xs (omega (arith, few, low)) fits.named;
    }

pub counts_few : CountsFew
counts_few bytes tree utf8 reads printable = (counted bytes tree utf8 reads printable).few

pub names_are_texts : NamesAreTexts
names_are_texts bytes tree utf8 reads printable = (counted bytes tree utf8 reads printable).names
