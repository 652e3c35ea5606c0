-- Each reserved word is written in one way.
use Rattle.std.proofs.Common.{◌≡◌, ℕ, List, [], ◌∷◌, map, Bool, true, false, ◌&&◌, cond, Some, codes, refl, ap, ◌∙◌}
use Rattle.std.specs.Str.{bytes_eq}
use Rattle.std.proofs.lemmas.Bool.{and_parts}
use Rattle.std.proofs.lemmas.Slice.Eq.{bytes_eq-Decides}
use Rattle.js_text.specs.declared.word.ReservedWord.{ReservedWord}
use Rattle.js_text.specs.declared.word.ReservedWord.TheVariants as word
use Rattle.js_text.specs.declared.word.TheConstants.{RESERVED_WORDS}
use Rattle.js_text.specs.Word.{lookup, reserved_word}

abbrev pub written : ReservedWord → List ℕ
written word.Break = codes "break"
written word.Case = codes "case"
written word.Catch = codes "catch"
written word.Class = codes "class"
written word.Const = codes "const"
written word.Continue = codes "continue"
written word.Debugger = codes "debugger"
written word.Default = codes "default"
written word.Delete = codes "delete"
written word.Do = codes "do"
written word.Else = codes "else"
written word.Enum = codes "enum"
written word.Export = codes "export"
written word.Extends = codes "extends"
written word.False = codes "false"
written word.Finally = codes "finally"
written word.For = codes "for"
written word.Function = codes "function"
written word.If = codes "if"
written word.Import = codes "import"
written word.In = codes "in"
written word.InstanceOf = codes "instanceof"
written word.New = codes "new"
written word.Null = codes "null"
written word.Return = codes "return"
written word.Super = codes "super"
written word.Switch = codes "switch"
written word.This = codes "this"
written word.Throw = codes "throw"
written word.True = codes "true"
written word.Try = codes "try"
written word.TypeOf = codes "typeof"
written word.Var = codes "var"
written word.Void = codes "void"
written word.While = codes "while"
written word.With = codes "with"

abbrev are_written : List (List ℕ × ReservedWord) → Bool
are_written [] = true
are_written (entry ∷ entries) = bytes_eq entry.0 (written entry.1) && are_written entries

lookup-written : (table : List (List ℕ × ReservedWord)) (w : List ℕ) (r : ReservedWord) → are_written table ≡ true → lookup table w ≡ Some r → w ≡ written r
lookup-written [] w r h e = absurd cc
lookup-written (entry ∷ entries) w r h e = by_test (bytes_eq w entry.0) refl e (lookup-written entries w r (and_parts _ _ h).1)
  where
    by_test : (b : Bool) → bytes_eq w entry.0 ≡ b → cond b (Some entry.1) (lookup entries w) ≡ Some r → (lookup entries w ≡ Some r → w ≡ written r) → w ≡ written r
    by_test true t f rest =
        let same : entry.1 ≡ r = cc in
        (bytes_eq-Decides w entry.0).0 t ∙ (bytes_eq-Decides entry.0 (written entry.1)).0 (and_parts _ _ h).0 ∙ ap written same
    by_test false t f rest = rest f

-- a reserved word is as it is written
pub reserved_word-written : (w : List ℕ) (r : ReservedWord) → reserved_word w ≡ Some r → w ≡ written r
unfolding reserved_word
reserved_word-written w r e = lookup-written (map (λ entry. (entry.0.now, entry.1)) RESERVED_WORDS) w r refl e

-- and what is written so is one
pub written-reserved_word : (r : ReservedWord) → reserved_word (written r) ≡ Some r
unfolding reserved_word
written-reserved_word word.Break = refl
written-reserved_word _ = refl
