-- With which tokens statements begin, and with which expression statements and labels do.
use Rattle.std.proofs.Common.{◌≡◌, ℕ, Bool, true, false, not, List, [], ◌∷◌, ◌++◌, Option, Some, None, codes, if◌then◌else◌, refl, sym, ap, ◌∙◌}
use Rattle.std.specs.Prelude.{◌||◌}
use Rattle.std.specs.Str.{bytes_eq}
use Rattle.std.proofs.lemmas.Bool.{true≢false}
use Rattle.std.proofs.lemmas.Slice.Eq.{bytes_eq-Decides}
use Rattle.js_terms.specs.declared.place.Loc.{Loc}
use Rattle.js_tree.specs.Plain as tree
use Rattle.js_tree.specs.Plain.{Expr}
use Rattle.js_text.specs.Token.{Token, Kind, Word}
use Rattle.js_text.specs.Token as T
use Rattle.js_text.specs.Word.{reserved_word}
use Rattle.js_text.specs.declared.punctuator.Punctuator.TheVariants as P
use Rattle.js_reading.specs.Spans.{first}
use Rattle.js_reading.specs.Kinds.{is_kind, is_keyword}
use Rattle.js_reading.specs.declared.form.Form.{Form}
use Rattle.js_reading.specs.Productions.{prefix, statement}
use Rattle.js_reading.specs.Sentences.{leaf_of}
use Rattle.js_reading.specs.Sentences
use Rattle.js_reading.proofs.sentences.KindsLemmas.{kind_is}
use Rattle.js_reading.proofs.sentences.Firsts.{opens, not_kind}
use Rattle.js_spelling.specs.Written.{Written}
use Rattle.js_layout.specs.Neat.{first_is, is_brace, is_function}
use Rattle.js_layout.proofs.Follows.{Follows}
use Rattle.js_layout.proofs.StatementSteps.{made_of}

-- ---- names that are no keywords

-- a name that is no keyword is none of these
pub not_word : (x v : List ℕ) → is_keyword x ≡ false → is_keyword v ≡ true → bytes_eq x v ≡ false
not_word x v free key = by_bool (bytes_eq x v) refl
  where
    by_bool : (b : Bool) → bytes_eq x v ≡ b → bytes_eq x v ≡ false
    by_bool false e = e
    by_bool true e = absurd (true≢false (sym key ∙ ap is_keyword (sym ((bytes_eq-Decides x v).0 e)) ∙ free))

skip : (b : Bool) (f : Form) (o : Option Form) → b ≡ false → o ≡ None → (if b then Some f else o) ≡ None
skip b f o h k = ap (λ x. if x then Some f else o) h ∙ k

other : (b : Bool) (x y : Option Expr) → b ≡ false → (if b then x else y) ≡ y
other b x y h = ap (λ z. if z then x else y) h

-- it begins no production, and is a reference
pub name_prefix : (x : List ℕ) (line : Bool) (t : Token) → is_keyword x ≡ false → prefix (made_of (Word x) line t) ≡ None
unfolding is_keyword reserved_word
name_prefix x line t h =
    skip _ _ _ (not_word x (codes "function") h refl) (skip _ _ _ (not_word x (codes "new") h refl) (skip _ _ _ (not_word x (codes "delete") h refl)
    (skip _ _ _ (not_word x (codes "void") h refl) (skip _ _ _ (not_word x (codes "typeof") h refl) refl))))

pub name_leaf : (x : List ℕ) (l : Loc) → is_keyword x ≡ false → leaf_of (Word x) l ≡ Some (tree.IdentifierReference (Some l) x)
unfolding is_keyword reserved_word
name_leaf x l h =
    other _ _ _ (not_word x (codes "this") h refl) ∙ other _ _ _ (not_word x (codes "null") h refl) ∙ other _ _ _ (not_word x (codes "true") h refl) ∙
    other _ _ _ (not_word x (codes "false") h refl) ∙ ap (λ b. Sentences.named l (if b then None else Some x)) h

-- but for `let` it begins no statement of its own
pub name_statement : (x : List ℕ) (line : Bool) (t : Token) → is_keyword x ≡ false → bytes_eq x (codes "let") ≡ false → statement (made_of (Word x) line t) ≡ None
unfolding is_keyword reserved_word
name_statement x line t h no_let =
    skip _ _ _ (not_word x (codes "var") h refl) (skip _ _ _ no_let (skip _ _ _ (not_word x (codes "const") h refl) (skip _ _ _ (not_word x (codes "function") h refl)
    (skip _ _ _ (not_word x (codes "if") h refl) (skip _ _ _ (not_word x (codes "for") h refl) (skip _ _ _ (not_word x (codes "while") h refl) (skip _ _ _ (not_word x (codes "do") h refl)
    (skip _ _ _ (not_word x (codes "continue") h refl) (skip _ _ _ (not_word x (codes "break") h refl) (skip _ _ _ (not_word x (codes "return") h refl) (skip _ _ _ (not_word x (codes "switch") h refl)
    (skip _ _ _ (not_word x (codes "throw") h refl) (skip _ _ _ (not_word x (codes "try") h refl) (skip _ _ _ (not_word x (codes "debugger") h refl) refl))))))))))))))

-- ---- the first token of an expression statement

abbrev pub is_let : Kind → Bool
is_let (Word w) = bytes_eq w (codes "let")
is_let k = false

abbrev pub no_let : Kind → Bool
no_let k = not (is_let k)

-- no statement of another kind begins with it, if an expression does
abbrev pub plain : Kind → Bool
plain k = not (is_brace k || is_function k || is_let k)

-- the three tests, one by one
none_of : (a b c : Bool) → not (a || b || c) ≡ true → (a ≡ false) × (b ≡ false) × (c ≡ false)
none_of true b c h = absurd (true≢false (sym h))
none_of false true c h = absurd (true≢false (sym h))
none_of false false true h = absurd (true≢false (sym h))
none_of false false false h = (refl, refl, refl)

no_brace : (k : Kind) → is_brace k ≡ false → is_kind (T.Punctuator P.OpenBrace) k ≡ false
no_brace k h = by_bool (is_kind (T.Punctuator P.OpenBrace) k) refl
  where
    by_bool : (b : Bool) → is_kind (T.Punctuator P.OpenBrace) k ≡ b → is_kind (T.Punctuator P.OpenBrace) k ≡ false
    by_bool false e = e
    by_bool true e = absurd (true≢false (ap is_brace (sym (kind_is (T.Punctuator P.OpenBrace) k e)) ∙ h))

no_function : (k : Kind) → is_function k ≡ false → is_kind (Word (codes "function")) k ≡ false
no_function (Word w) h = h
no_function k h = refl

pub let_kind : (k : Kind) → is_let k ≡ false → is_kind (Word (codes "let")) k ≡ false
let_kind (Word w) h = h
let_kind k h = refl

pub no_statement : (t : Token) → opens t ≡ true → plain t.kind ≡ true → statement t ≡ None
unfolding is_keyword reserved_word
no_statement t h p =
    let n = none_of (is_brace t.kind) (is_function t.kind) (is_let t.kind) p in
    let is_not = λ (k : Kind) (e : opens (made_of k t.line_terminator_before t) ≡ false). not_kind opens t k e h in
    skip _ _ _ (no_brace t.kind n.0) (skip _ _ _ (is_not (Word (codes "var")) refl) (skip _ _ _ (let_kind t.kind n.2) (skip _ _ _ (is_not (Word (codes "const")) refl) (skip _ _ _ (no_function t.kind n.1)
    (skip _ _ _ (is_not (T.Punctuator P.Semicolon) refl) (skip _ _ _ (is_not (Word (codes "if")) refl) (skip _ _ _ (is_not (Word (codes "for")) refl) (skip _ _ _ (is_not (Word (codes "while")) refl)
    (skip _ _ _ (is_not (Word (codes "do")) refl) (skip _ _ _ (is_not (Word (codes "continue")) refl) (skip _ _ _ (is_not (Word (codes "break")) refl) (skip _ _ _ (is_not (Word (codes "return")) refl)
    (skip _ _ _ (is_not (Word (codes "switch")) refl) (skip _ _ _ (is_not (Word (codes "throw")) refl) (skip _ _ _ (is_not (Word (codes "try")) refl) (skip _ _ _ (is_not (Word (codes "debugger")) refl) refl))))))))))))))))

-- ---- tokens that are those that were written

-- what holds of the kind that was written first holds of the first token
pub first_kind : (p : Kind → Bool) (line : Bool) (ws : List Written) (us : List Token) (next : Token) → first_is p ws ≡ true → Follows line ws us → p (first us next).kind ≡ true
first_kind p line [] us next h f = absurd (true≢false (sym h))
first_kind p line (w ∷ ws) [] next h f = absurd f
first_kind p line (w ∷ ws) (u ∷ us) next h f = ap p f.0 ∙ h

pub first_append : (p : Kind → Bool) (vs ws : List Written) → first_is p vs ≡ true → first_is p (vs ++ ws) ≡ true
first_append p [] ws h = absurd (true≢false (sym h))
first_append p (v ∷ vs) ws h = h

-- a line ends before the first token or not
pub first_line : (line : Bool) (vs : List Written) (w : Written) (ws : List Written) (us : List Token) (next : Token) → Follows line (vs ++ w ∷ ws) us → (first us next).line_terminator_before ≡ line
first_line line [] w ws [] next f = absurd f
first_line line [] w ws (u ∷ us) next f = f.1
first_line line (v ∷ vs) w ws [] next f = absurd f
first_line line (v ∷ vs) w ws (u ∷ us) next f = f.1

pub some_token : (line : Bool) (vs : List Written) (w : Written) (ws : List Written) → Follows line (vs ++ w ∷ ws) [] → ⊥
some_token line [] w ws f = f
some_token line (v ∷ vs) w ws f = f
