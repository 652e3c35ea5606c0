-- Tokens that are put one after another.
use Rattle.std.proofs.Common.{◌≡◌, ◌∙◌, true, List, [], ◌∷◌, ◌++◌, Option, Some, None, refl, sym, ap}
use Rattle.js_terms.specs.declared.place.Loc.{Loc}
use Rattle.js_terms.specs.declared.place.Pos.{Pos}
use Rattle.js_tree.specs.Plain as tree
use Rattle.js_tree.specs.Plain.{Expr, Pattern, PropertyKey}
use Rattle.js_spelling.specs.Written.{Written, Origin, Begins}
use Rattle.js_layout.specs.Tokens.{begun, expr_tokens, pattern_tokens, key_tokens}
use Rattle.js_layout.specs.Neat.{paired}
use Rattle.js_sheet.specs.Pairs.{own_pair}
use Rattle.js_sheet.specs.Sheets.{Sheet, put, put_all, begin}

pub put_append : (s : Sheet) (xs ys : List Written) → put_all s (xs ++ ys) ≡ put_all (put_all s xs) ys
put_append s [] ys = refl
put_append s (x ∷ xs) ys = put_append (put s x) xs ys

pub put_one : (s : Sheet) (x : Written) → put_all s (x ∷ []) ≡ put s x
put_one s x = refl

pub put_cons : (s : Sheet) (x : Written) (xs : List Written) → put_all s (x ∷ xs) ≡ put_all (put s x) xs
put_cons s x xs = refl

pub put_none : (s : Sheet) → put_all s [] ≡ s
put_none s = refl

-- ---- what begins with the next token

none_due : (s : Sheet) (d : Option Pos) → begin None (record s { due = d }) ≡ record s { due = d }
none_due s None = refl
none_due s (Some p) = refl

due_first : (s : Sheet) (d : Option Pos) (l : Loc) (x : Written) (o : Origin) → put (record s { due = d }) (record x { origin = Begins l.start }) ≡ put (begin (Some l) (record s { due = d })) (record x { origin = o })
unfolding put
due_first s None l x (Begins p) = refl
due_first s None l x o = refl
due_first s (Some q) l x (Begins p) = refl
due_first s (Some q) l x o = refl

pub begun_cons : (s : Sheet) (l : Option Loc) (x : Written) (xs : List Written) → put_all s (begun l (x ∷ xs)) ≡ put_all (begin l s) (x ∷ xs)
begun_cons s None x xs = ap (λ t. put_all t (x ∷ xs)) (sym (none_due s s.due))
begun_cons s (Some l) x xs = ap (λ t. put_all t xs) (due_first s s.due l x x.origin)

-- ---- what begins with a part: that has a token

pub record HasToken (ts : List Written) : Type 0 where
  pub token : Written
  pub tokens : List Written
  pub are : ts ≡ token ∷ tokens

has_append : {ts : List Written} (us : List Written) → HasToken ts → HasToken (ts ++ us)
has_append us h = record { token = h.token; tokens = h.tokens ++ us; are = ap (λ ts. ts ++ us) h.are }

has_cons : (x : Written) (xs : List Written) → HasToken (x ∷ xs)
has_cons x xs = record { token = x; tokens = xs; are = refl }

has_begun : (l : Option Loc) {ts : List Written} → HasToken ts → HasToken (begun l ts)
has_begun None h = h
has_begun (Some l) h = record { token = record h.token { origin = Begins l.start }; tokens = h.tokens; are = ap (λ ts. begun (Some l) ts) h.are }

pub begun_has : (s : Sheet) (l : Option Loc) {ts : List Written} → HasToken ts → put_all s (begun l ts) ≡ put_all (begin l s) ts
begun_has s l h = ap (λ ts. put_all s (begun l ts)) h.are ∙ begun_cons s l h.token h.tokens ∙ ap (λ ts. put_all (begin l s) ts) (sym h.are)

pub has_expr : (e : Expr) → HasToken (expr_tokens e)
has_expr (tree.NamedMember l o w) = has_begun l (has_append _ (has_expr o))
has_expr (tree.ComputedMember l o k) = has_begun l (has_append _ (has_expr o))
has_expr (tree.Call l f xs) = has_begun l (has_append _ (has_expr f))
has_expr (tree.PostfixUpdate l o e) = has_begun l (has_append _ (has_expr e))
has_expr (tree.Binary l o x y) = has_begun l (has_append _ (has_expr x))
has_expr (tree.Logical l o x y) = has_begun l (has_append _ (has_expr x))
has_expr (tree.Conditional l c x y) = has_begun l (has_append _ (has_expr c))
has_expr (tree.Assignment l o x y) = has_begun l (has_append _ (has_expr x))
has_expr (tree.Comma l x y) = has_begun l (has_append _ (has_expr x))
has_expr (tree.Entered m e) = has_expr e
has_expr (tree.IdentifierReference l w) = has_begun l (has_cons _ _)
has_expr (tree.This l) = has_begun l (has_cons _ _)
has_expr (tree.NullLiteral l) = has_begun l (has_cons _ _)
has_expr (tree.BooleanLiteral l b) = has_begun l (has_cons _ _)
has_expr (tree.NumericLiteral l w) = has_begun l (has_cons _ _)
has_expr (tree.StringLiteral l s) = has_begun l (has_cons _ _)
has_expr (tree.ArrayLiteral l xs) = has_begun l (has_cons _ _)
has_expr (tree.ObjectLiteral l ps) = has_begun l (has_cons _ _)
has_expr (tree.FunctionExpression l n f) = has_begun l (has_cons _ _)
has_expr (tree.ArrowFunction l n ps body) = has_begun l (has_cons _ _)
has_expr (tree.RegularExpressionLiteral l body flags) = has_begun l (has_cons _ _)
has_expr (tree.TemplateLiteral l s parts) = has_begun l (has_cons _ _)
has_expr (tree.Parenthesized l e) = has_begun l (has_cons _ _)
has_expr (tree.New l c xs) = has_begun l (has_cons _ _)
has_expr (tree.PrefixUpdate l o e) = has_begun l (has_cons _ _)
has_expr (tree.Unary l o e) = has_begun l (has_cons _ _)

pub begun_expr : (s : Sheet) (l : Option Loc) (e : Expr) (ts : List Written) → put_all s (begun l (expr_tokens e ++ ts)) ≡ put_all (begin l s) (expr_tokens e ++ ts)
begun_expr s l e ts = begun_has s l (has_append ts (has_expr e))

pub begun_pattern : (s : Sheet) (l m : Option Loc) (x : Pattern) (ts : List Written) → put_all s (begun l (pattern_tokens m x ++ ts)) ≡ put_all (begin l s) (pattern_tokens m x ++ ts)
begun_pattern s l m (tree.BindingIdentifier n w) ts = begun_cons s l _ _

has_key : (l : Option Loc) (k : PropertyKey) → HasToken (key_tokens l k)
has_key l (tree.NameKey w) = has_cons _ _
has_key l (tree.StringKey s) = has_cons _ _
has_key l (tree.NumberKey w) = has_cons _ _
has_key l (tree.ComputedKey e) = has_cons _ _

pub begun_key : (s : Sheet) (l m : Option Loc) (k : PropertyKey) (ts : List Written) → put_all s (begun l (key_tokens m k ++ ts)) ≡ put_all (begin l s) (key_tokens m k ++ ts)
begun_key s l m k ts = begun_has s l (has_append ts (has_key m k))

-- ---- pairs

pub paired_true : (e x : Expr) → paired true e x ≡ tree.Parenthesized (own_pair e) x
paired_true (tree.Parenthesized l e) x = refl
paired_true e x = refl
