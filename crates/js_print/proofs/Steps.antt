-- Tokens put one part after another, as the code puts them.
use Rattle.std.proofs.Common.{◌≡◌, ℕ, List, [], ◌∷◌, ◌++◌, Option, sym, subst}
use Rattle.js_terms.specs.declared.place.Loc.{Loc}
use Rattle.js_tree.specs.Plain.{Expr, Pattern, PropertyKey}
use Rattle.js_spelling.specs.Written.{Written}
use Rattle.js_layout.specs.Tokens.{begun, expr_tokens, pattern_tokens, key_tokens}
use Rattle.js_sheet.specs.declared.sheet.Sheet as code
use Rattle.js_sheet.specs.Sheets.{Sheet, put_all, begin}
use Rattle.js_sheet.specs.Stands.{At, at, Stands, Turns, Puts}
use Rattle.js_sheet.proofs.Puts.{begun_cons, begun_expr, begun_pattern, begun_key}
use Rattle.js_sheet.proofs.Standing.{puts_none, puts_on}

pub none : {s : At} → Puts s s []
none {s} = puts_none s

-- a part, and then others
pub part : {s t u : At} {ys : List Written} (xs : List Written) → Puts s t xs → Puts t u ys → Puts s u (xs ++ ys)
part {s} {t} {u} {ys} xs first rest = puts_on s t u xs ys first rest

-- a token, and then others
pub one : {s t u : At} {x : Written} {ys : List Written} → Puts s t (x ∷ []) → Puts t u ys → Puts s u (x ∷ ys)
one {s} {t} {u} {x} {ys} first rest = puts_on s t u (x ∷ []) ys first rest

-- two tokens
pub two : {s t u : At} {x y : Written} {zs : List Written} → Puts s t (x ∷ y ∷ []) → Puts t u zs → Puts s u (x ∷ y ∷ zs)
two {s} {t} {u} {x} {y} {zs} first rest = puts_on s t u (x ∷ y ∷ []) zs first rest

-- the same tokens by other words
pub put_as : {A : Type 0} {s t : At} {x y : A} (f : A → List Written) → x ≡ y → Puts s t (f x) → Puts s t (f y)
put_as {A} {s} {t} {x} {y} f is puts = subst (λ z. Puts s t (f z)) is puts

-- the tokens of a form
pub of_form : {A : Type 0} {s t : At} {x form : A} (f : A → List Written) → x ≡ form → Puts s t (f form) → Puts s t (f x)
of_form {A} {s} {t} {x} {form} f is puts = put_as f (sym is) puts

-- ---- what begins with the next token

-- what a part of the source leads to that begins with the next token
abbrev Begins : code.Sheet → code.Sheet → Option Loc → Type 0
Begins old new l = (taken : Option (List ℕ)) (faults : ℕ) → Turns (at old taken faults) (at new taken faults) (begin l)

module _ {old new : code.Sheet} {taken : Option (List ℕ)} {faults : ℕ} {last : At} where
  begins : (l : Option Loc) (xs ys : List Written) → ((s : Sheet) → put_all s ys ≡ put_all (begin l s) xs) → Begins old new l → Puts (at new taken faults) last xs → Puts (at old taken faults) last ys
  begins l xs ys are begun rest = record { stands = λ start s h. subst (Stands start last) (sym (are s)) (rest.stands start (begin l s) ((begun taken faults).stands start s h)) }

  -- a token, an expression, a pattern, and a key
  pub begins_one : {x : Written} {xs : List Written} (l : Option Loc) → Begins old new l → Puts (at new taken faults) last (x ∷ xs) → Puts (at old taken faults) last (begun l (x ∷ xs))
  begins_one {x} {xs} l = begins l (x ∷ xs) (begun l (x ∷ xs)) (λ s. begun_cons s l x xs)

  pub begins_expr : (l : Option Loc) (e : Expr) (xs : List Written) → Begins old new l → Puts (at new taken faults) last (expr_tokens e ++ xs) → Puts (at old taken faults) last (begun l (expr_tokens e ++ xs))
  begins_expr l e xs = begins l (expr_tokens e ++ xs) (begun l (expr_tokens e ++ xs)) (λ s. begun_expr s l e xs)

  pub begins_pattern : (l m : Option Loc) (x : Pattern) (xs : List Written) → Begins old new l → Puts (at new taken faults) last (pattern_tokens m x ++ xs) → Puts (at old taken faults) last (begun l (pattern_tokens m x ++ xs))
  begins_pattern l m x xs = begins l (pattern_tokens m x ++ xs) (begun l (pattern_tokens m x ++ xs)) (λ s. begun_pattern s l m x xs)

  pub begins_key : (l m : Option Loc) (k : PropertyKey) (xs : List Written) → Begins old new l → Puts (at new taken faults) last (key_tokens m k ++ xs) → Puts (at old taken faults) last (begun l (key_tokens m k ++ xs))
  begins_key l m k xs = begins l (key_tokens m k ++ xs) (begun l (key_tokens m k ++ xs)) (λ s. begun_key s l m k xs)

-- ---- an expression in a pair or without, which is another by the words of `Neat`

pub part_as : {s t u : At} {a b : Expr} {ys : List Written} → a ≡ b → Puts s t (expr_tokens a) → Puts t u ys → Puts s u (expr_tokens b ++ ys)
part_as {s} {t} {u} {a} {b} {ys} is first rest = part (expr_tokens b) (put_as expr_tokens is first) rest

pub last_as : {s t : At} {a b : Expr} → a ≡ b → Puts s t (expr_tokens a) → Puts s t (expr_tokens b)
last_as {s} {t} {a} {b} is puts = put_as expr_tokens is puts

-- ---- loops

-- some tokens are put: what puts those that are left puts all
pub record Leaves (start now : At) (left all : List Written) : Type 0 where
  pub then : (new : At) → Puts now new left → Puts start new all

pub leaves_all : {start : At} {all : List Written} → Leaves start start all all
leaves_all {start} {all} = record { then = λ new puts. puts }

pub leaves_rest : {start now : At} {rest : List Written} (xs : List Written) → Puts start now xs → Leaves start now rest (xs ++ rest)
leaves_rest {start} {now} {rest} xs first = record { then = λ new puts. part xs first puts }

pub leaves_of : {start now : At} {left all is : List Written} → all ≡ is → Leaves start now left is → Leaves start now left all
leaves_of {start} {now} {left} {all} {is} are leaves = subst (Leaves start now left) (sym are) leaves

pub leaves_left : {start now : At} {left is all : List Written} → left ≡ is → Leaves start now left all → Leaves start now is all
leaves_left {start} {now} {left} {is} {all} are leaves = subst (λ ts. Leaves start now ts all) are leaves

-- none is left
pub leaves_none : {start now : At} {left all : List Written} → left ≡ [] → Leaves start now left all → Puts start now all
leaves_none {start} {now} {left} {all} done leaves = leaves.then now (subst (Puts now now) (sym done) none)
