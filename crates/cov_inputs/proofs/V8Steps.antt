-- What one step on V8 files gives, and what that makes of the entries and files that are left.
use Rattle.std.proofs.Common.{◌≡◌, ◌≤◌, ◌<◌, ℕ, inl, inr, nat_lt, Bool, true, false, cond, List, [], ◌∷◌, length, Option, Some, None, refl, sym, ap, ◌∙◌, subst, arith}
use Rattle.std.specs.Prelude.{Result, Ok, Err, IfSome}
use Rattle.std.specs.Str.{IsUtf8, is_utf8}
use Rattle.std.specs.Str.Lossy.{utf8_valid_len}
use Rattle.std.proofs.lemmas.Str.{IsUtf8-from_is_utf8, is_utf8-from_IsUtf8}
use Rattle.cov_base.specs.Store.{Held}
use Rattle.js_text.specs.Limits.{source_limits}
use Rattle.cov_object.specs.declared.file.FileCoverage.{FileCoverage}
use Rattle.cov_v8.specs.declared.v8.V8Script.{V8Script}
use Rattle.cov_v8.specs.declared.v8.V8.{V8}
use Rattle.cov_inputs.specs.declared.refusal.Refusal.{Refusal}
use Rattle.cov_inputs.specs.declared.refusal.Refusal.TheVariants.{TooLong, NotUtf8}
use Rattle.cov_inputs.specs.declared.fault.InputFault.{InputFault}
use Rattle.cov_inputs.specs.declared.fault.InputFault.TheVariants.{Refused, ReadFailed, Memory}
use Rattle.cov_inputs.specs.V8.{Gives, and_then, text_of, with_script, with_scripts, v8_at, ReadsSource, ReadsFor, Reads}
use Rattle.cov_inputs.specs.private.Answer.{IsRefusal}
use Rattle.cov_inputs.specs.private.Given.{EntriesGoOn, FilesGoOn}

-- ---- the text of a source

text-by : (long utf8 : Bool) (path bytes : List ℕ) → nat_lt source_limits.bytes (length bytes) ≡ long → is_utf8 bytes ≡ utf8 →
    text_of path bytes ≡ cond long (Err (TooLong path)) (cond utf8 (Ok bytes) (Err (NotUtf8 path (utf8_valid_len bytes))))
text-by long utf8 path bytes e f =
    ap (λ b. cond b (Err (TooLong path)) (cond (is_utf8 bytes) (Ok bytes) (Err (NotUtf8 path (utf8_valid_len bytes))))) e
    ∙ ap (λ b. cond long (Err (TooLong path)) (cond b (Ok bytes) (Err (NotUtf8 path (utf8_valid_len bytes))))) f

not-utf8 : (b : Bool) (bytes : List ℕ) → is_utf8 bytes ≡ b → (IsUtf8 bytes → ⊥) → is_utf8 bytes ≡ false
not-utf8 true bytes e never = absurd (never (IsUtf8-from_is_utf8 bytes e))
not-utf8 false bytes e never = e

pub is_text : (path bytes : List ℕ) → length bytes ≤ source_limits.bytes → IsUtf8 bytes → text_of path bytes ≡ Ok bytes
is_text path bytes short utf8 = text-by false true path bytes (grind arith) (is_utf8-from_IsUtf8 bytes utf8)

pub is_long : (path bytes : List ℕ) → source_limits.bytes < length bytes → text_of path bytes ≡ Err (TooLong path)
is_long path bytes long = text-by true (is_utf8 bytes) path bytes (grind arith) refl

pub is_no_text : (path bytes : List ℕ) → length bytes ≤ source_limits.bytes → (IsUtf8 bytes → ⊥) → text_of path bytes ≡ Err (NotUtf8 path (utf8_valid_len bytes))
is_no_text path bytes short never = text-by false false path bytes (grind arith) (not-utf8 (is_utf8 bytes) bytes refl never)

-- ---- steps

-- a refusal that the definition gives
pub gives_refusal : {A : Type 0} (wanted : Result A Refusal) (why : Refusal) (fault : InputFault) → wanted ≡ Err why → IsRefusal fault why → Gives {A = A} (Err fault) wanted
gives_refusal wanted why (Refused refusal) e is = e ∙ ap Err (sym is)
gives_refusal wanted why (ReadFailed path) e is = absurd is
gives_refusal wanted why Memory e is = tt

-- ---- entries

module _ (held : Held) (file : List ℕ) (first : List FileCoverage) (all : List V8Script) where
  pub one_entry_more : (sums next : List FileCoverage) (script : V8Script) (rest : List V8Script) → EntriesGoOn held file first all sums (script ∷ rest) → with_script held file sums script ≡ Ok next →
      EntriesGoOn held file first all next rest
  one_entry_more sums next script rest on is = record {
    come = on.come ∙ ap (λ step. and_then step (λ more. with_scripts held file more rest)) is;
    reads = λ path reads. on.reads path (inr (next, is, reads));
  }

-- ---- and where a store tells what it holds, which is the same at each step

module _ (told : Option Held) (file : List ℕ) (first : List FileCoverage) (all : List V8Script) where
  module _ (now : Option Held) (same : now ≡ told) (sums : List FileCoverage) (script : V8Script) (rest left : List V8Script) (is : left ≡ script ∷ rest)
      (on : IfSome told (λ held. EntriesGoOn held file first all sums left)) where
    pub entries_go_on : (next : List FileCoverage) → IfSome now (λ held. Gives (Ok next) (with_script held file sums script)) → IfSome told (λ held. EntriesGoOn held file first all next rest)
    entries_go_on next gives = by_told told on (subst (λ tells. IfSome tells (λ held. Gives (Ok next) (with_script held file sums script))) same gives)
      where
        by_told : (tells : Option Held) → IfSome tells (λ held. EntriesGoOn held file first all sums left) → IfSome tells (λ held. Gives (Ok next) (with_script held file sums script)) →
            IfSome tells (λ held. EntriesGoOn held file first all next rest)
        by_told None on gives = tt
        by_told (Some held) on gives = one_entry_more held file first all sums next script rest (subst (EntriesGoOn held file first all sums) is on) gives

module _ (told : Option Held) (all : List (List ℕ)) where
  module _ (now : Option Held) (same : now ≡ told) (sums : List FileCoverage) (file : List ℕ) (rest left : List (List ℕ)) (is : left ≡ file ∷ rest)
      (on : IfSome told (λ held. FilesGoOn held all sums left)) where
    pub files_read : (path : List ℕ) → IfSome now (λ held. ReadsFor held sums file path) → IfSome told (λ held. Reads held [] all path)
    files_read path reads = by_told told on (subst (λ tells. IfSome tells (λ held. ReadsFor held sums file path)) same reads)
      where
        by_told : (tells : Option Held) → IfSome tells (λ held. FilesGoOn held all sums left) → IfSome tells (λ held. ReadsFor held sums file path) → IfSome tells (λ held. Reads held [] all path)
        by_told None on reads = tt
        by_told (Some held) on reads = (subst (FilesGoOn held all sums) is on).reads path (inl reads)

-- ---- the entries of one file, after it was read

module _ (told now : Option Held) (same : now ≡ told) (sums : List FileCoverage) (file : List ℕ) where
  module _ (v8 : V8) (read : IfSome told (λ held. Gives (Ok v8) (v8_at file (held file)))) where
    pub sources_read : (path : List ℕ) → IfSome now (λ held. ReadsSource held file sums v8.scripts path) → IfSome told (λ held. ReadsFor held sums file path)
    sources_read path reads = by_told told read (subst (λ tells. IfSome tells (λ held. ReadsSource held file sums v8.scripts path)) same reads)
      where
        by_told : (tells : Option Held) → IfSome tells (λ held. Gives (Ok v8) (v8_at file (held file))) → IfSome tells (λ held. ReadsSource held file sums v8.scripts path) →
            IfSome tells (λ held. ReadsFor held sums file path)
        by_told None read reads = tt
        by_told (Some held) read reads = inr (v8, read, reads)
