-- The items of parentheses, one of them a literal: where the machine stands after them, and that no arrow has them as parameters.
use Rattle.std.proofs.Common.{◌≡◌, ℕ, ◌≤◌, Bool, true, false, List, [], ◌∷◌, ◌++◌, Option, Some, None, if◌then◌else◌, inl, refl, sym, ap, subst, ◌∙◌}
use Rattle.std.specs.Prelude.{nat_le}
use Rattle.std.specs.Option.{option_or}
use Rattle.std.proofs.lemmas.Bool.{true≢false, le-leb, cond-true, cond-false}
use Rattle.js_terms.specs.declared.place.Loc.{Loc}
use Rattle.js_tree.specs.Plain.{Expr, Exprs, no_expr, more_expr, push_exprs}
use Rattle.js_tree.specs.Plain as tree
use Rattle.js_text.specs.Token.{Token}
use Rattle.js_text.specs.Token as T
use Rattle.js_text.specs.declared.punctuator.Punctuator.{Punctuator}
use Rattle.js_text.specs.declared.punctuator.Punctuator.TheVariants as P
use Rattle.js_reading.specs.Level.{assignment}
use Rattle.js_reading.specs.Spans.{through, first}
use Rattle.js_reading.specs.Slots.{Slot, By, Piece, AnExpr, TheExprs, Missing, Form}
use Rattle.js_reading.specs.Slots as slot
use Rattle.js_reading.specs.Productions.{is_mark}
use Rattle.js_reading.specs.Makes.{build, arrow_of, param_of, params_of, one_more_param, concise, object_of, properties_of, length_of}
use Rattle.js_reading.specs.Sentences
use Rattle.js_reading.specs.Sentences.{leaf_of, Spells, SpellsItems}
use Rattle.js_reading.specs.Turns.{place, leads, choose, Frame, InItems, Config, Due, Item, want, take, pass, have, item, turn, run, then_run}
use Rattle.js_reading.specs.Unsupported.{takes_parameter, is_literal_pattern}
use Rattle.js_reading.specs.Found.{on_its_line, literal_loc, literal_item}
use Rattle.js_reading.proofs.refusing.Dooms.{Doomed, Lost, lost_of, lost_then, is_missing}
use Rattle.js_reading.proofs.sentences.Firsts.{opens, no_closing, first_expr}
use Rattle.js_reading.proofs.finding.Groups.{literal_group, Lone, lone_made, LoneExpr, lone_leaf, join_lone}
use Rattle.js_reading.proofs.sentences.KindsLemmas.{is_same}
use Rattle.js_reading.proofs.sentences.Lists.{append_exprs}
use Rattle.js_reading.proofs.sentences.Reading.{complete_expr, complete_items, leaves, taken, skipped, goes_comma}
use Rattle.js_reading.proofs.sentences.Rows.{makes}
use Rattle.js_reading.proofs.sentences.Runs.{nowhere, by_bool}
use Rattle.js_reading.proofs.sentences.Shapes.{others, first_append, closing}
use Rattle.js_reading.proofs.levels.Tightness.{is_first_form, is_join_form}
use Rattle.js_reading.proofs.sentences.Ways.{lands}

-- ---- where a literal stands

-- one that a production makes stands where that does
abbrev pub LiteralAt : Loc → Option Piece → Type 0
LiteralAt l (Some (AnExpr i e)) = is_literal_pattern e ≡ true → literal_loc e ≡ Some l
LiteralAt l o = Unit {0}

lone_at : (l : Loc) (o : Option Piece) → Lone o → LiteralAt l o
lone_at l (Some (AnExpr i e)) lone = λ is. absurd (true≢false (sym (literal_group e is) ∙ lone))
lone_at l (Some p) lone = tt
lone_at l None lone = tt

arrow_at : (l m : Loc) (xs : Option tree.Params) (o : Option tree.ConciseBody) → LiteralAt m (arrow_of l xs o)
arrow_at l m (Some xs) (Some x) = λ is. absurd (true≢false (sym is))
arrow_at l m xs o = tt

object_at : (l : Loc) (o : Option tree.Properties) → LiteralAt l (object_of l o)
object_at l (Some ps) = λ is. refl
object_at l None = tt

made_at : (f : Form) (l : Loc) (ps : List Piece) → makes f ≡ true → LiteralAt l (build f l ps)
made_at slot.Parentheses l (TheExprs false (more_expr e es) ∷ Missing ∷ []) is = λ h. absurd (true≢false (sym h))
made_at slot.Parentheses l (TheExprs x xs ∷ p ∷ ps) is = arrow_at l l (params_of xs) (concise (p ∷ ps))
made_at slot.Parentheses l ps is = tt
made_at slot.ArrayLiteral l (TheExprs x xs ∷ []) is = λ h. refl
made_at slot.ArrayLiteral l ps is = tt
made_at slot.ObjectLiteral l ps is = object_at l (properties_of (length_of ps) ps)
made_at f l ps is = lone_at l (build f l ps) (lone_made f l ps is refl)

-- its tokens begin where it does
pub data LiteralTokens (l : Loc) : List Token → Type 0 where
  literal_tokens : (t : Token) (ts : List Token) → t.loc.start ≡ l.start → LiteralTokens l (t ∷ ts)

pub record Literal (e : Expr) (ts : List Token) : Type 0 where
  pub at : Loc
  pub there : literal_loc e ≡ Some at
  pub tokens : LiteralTokens at ts

pub literal_of : {i : ℕ} {e : Expr} {l : Loc} {ts : List Token} {next : Token} → Spells (AnExpr i e) l ts next → is_literal_pattern e ≡ true → Literal e ts
literal_of {e = e} (Sentences.leaf t none is) h = absurd (true≢false (sym (literal_group e h) ∙ subst LoneExpr is (lone_leaf t.kind t.loc)))
literal_of (Sentences.prefixed g {ps = ps} {l = l} {ts = ts} t is d made) h =
    record { at = through t.loc l; there = subst (LiteralAt (through t.loc l)) made (made_at g (through t.loc l) ps (is_first_form t g is)) h; tokens = literal_tokens t ts refl }
literal_of {e = e} (Sentences.joined g {ps = ps} {i = i} {a = a} {la = la} {l = l} t is are low da d made) h =
    absurd (true≢false (sym (literal_group e h) ∙ subst Lone made (lone_made g (through la l) (AnExpr i a ∷ ps) (is_join_form t g is) (join_lone t g is))))

pub located_literal : (e : Expr) (l : Loc) → literal_loc e ≡ Some l → is_literal_pattern e ≡ true
located_literal (tree.ArrayLiteral m xs) l h = refl
located_literal (tree.ObjectLiteral m ps) l h = refl
located_literal e l h = absurd cc

-- ---- the items

-- they begin with a token that begins an expression
pub first_item : {b : Bool} {e : Expr} {xs : Exprs} {ts : List Token} {next : Token} → SpellsItems b (more_expr e xs) ts next → opens (first ts next) ≡ true
first_item (Sentences.last_item {next = next} ge de go) = first_expr de next
first_item (Sentences.more_items {ts = ts} {us = us} {next = next} comma ge de is_comma dxs) = ap opens (first_append ts (comma ∷ us) next) ∙ first_expr de comma

pub no_end_there : {b : Bool} {e : Expr} {xs : Exprs} {t : Token} {ts : List Token} {next : Token} → SpellsItems b (more_expr e xs) (t ∷ ts) next → is_mark P.CloseParenthesis t ≡ false
no_end_there {t = t} d = no_closing P.CloseParenthesis t refl (first_item d)

pub first_literal : {b : Bool} {e : Expr} {xs : Exprs} {ts : List Token} {next : Token} → SpellsItems b (more_expr e xs) ts next → is_literal_pattern e ≡ true → (l : Loc) × (literal_loc e ≡ Some l)
first_literal (Sentences.last_item ge de go) h = let a = literal_of de h in (a.at, a.there)
first_literal (Sentences.more_items comma ge de is_comma dxs) h = let a = literal_of de h in (a.at, a.there)

-- among those before it, one is found too
first_or : {p : Option Loc} (o : Option Loc) → (m : Loc) × (p ≡ Some m) → (m : Loc) × (option_or o p ≡ Some m)
first_or (Some l) found = (l, refl)
first_or None found = found

pub literal_among : (acc : Exprs) (e : Expr) (xs : Exprs) (l : Loc) → literal_loc e ≡ Some l → (m : Loc) × (literal_item (append_exprs acc (more_expr e xs)) ≡ Some m)
literal_among no_expr e xs l h = (l, ap (λ o. option_or o (literal_item xs)) h)
literal_among (more_expr x acc) e xs l h = first_or (literal_loc x) (literal_among acc e xs l h)

-- past one item and its comma
pub past_item : {i : ℕ} {e : Expr} {l : Loc} {ts : List Token} (comma : Token) (f : Form) (w : Loc) (p : Punctuator) (ss : List Slot) (ps : List Piece) (acc : Exprs) (fs : List Frame) → assignment ≤ i → Spells (AnExpr i e) l ts comma → comma.kind ≡ T.Punctuator P.Comma → closing p ≡ true →
    then_run (item (InItems f w p ss ps acc ∷ fs) (first ts comma)) (λ c. run c (others ts comma [])) ≡ Some (Item (InItems f w p ss ps (push_exprs acc e) ∷ fs))
past_item {i = i} {e = e} {l = l} {ts = ts} comma f w p ss ps acc fs ge de is_comma ok =
    skipped (is_mark p (first ts comma)) _ _ (others ts comma []) (no_closing p (first ts comma) ok (first_expr de comma))
    ∙ complete_expr de (InItems f w p ss ps acc) fs [] (le-leb assignment i ge) (λ k. absurd (true≢false (sym k)))
    ∙ leaves (InItems f w p ss ps acc) fs i e l comma [] (goes_comma e comma is_comma)
    ∙ taken (nat_le assignment i) _ _ [] (le-leb assignment i ge)
    ∙ taken (is_mark P.Comma comma) _ _ [] (is_same (T.Punctuator P.Comma) comma.kind is_comma)

-- ---- where the machine stands after `)`

pub record Listed (c : Config) (t : Token) (ts : List Token) (closing_ : Token) (b : Bool) (xs : Exprs) : Type 0 where
  pub start : Loc
  pub before : Exprs
  pub frames : List Frame
  pub runs : (rest : List Token) → run c (t ∷ (ts ++ closing_ ∷ rest)) ≡ run (Due slot.Parentheses start (By slot.Arrow ∷ []) (TheExprs b (append_exprs before xs) ∷ []) closing_.loc frames) rest

pub listed : {b : Bool} {e : Expr} {xs : Exprs} {ts : List Token} (c : Config) (t : Token) (f : Frame) (fs : List Frame) (closing_ : Token) → turn c t ≡ want t (f ∷ fs) → takes_parameter f ≡ true → SpellsItems b (more_expr e xs) (t ∷ ts) closing_ → closing_.kind ≡ T.Punctuator P.CloseParenthesis →
    Listed c t ts closing_ b (more_expr e xs)
listed {ts = ts} c t (InItems slot.Parentheses w P.CloseParenthesis (By slot.Arrow ∷ []) [] acc) fs closing_ begins is dxs is_closing =
    record {
      start = w;
      before = acc;
      frames = fs;
      runs = λ rest. ap (λ o. then_run o (λ d. run d (ts ++ closing_ ∷ rest))) (begins ∙ sym (cond-false (is_mark P.CloseParenthesis t) _ _ (no_end_there dxs))) ∙ complete_items dxs acc slot.Parentheses w P.CloseParenthesis (By slot.Arrow ∷ []) [] fs rest refl is_closing;
    }
listed c t f fs closing_ begins is dxs is_closing = absurd (true≢false (sym is))

-- ---- no arrow has them as parameters

no_param : (e : Expr) → is_literal_pattern e ≡ true → param_of e ≡ None
no_param (tree.ArrayLiteral l xs) h = refl
no_param (tree.ObjectLiteral l ps) h = refl
no_param e h = absurd (true≢false (sym h))

no_more : (o : Option tree.Param) → one_more_param o None ≡ None
no_more (Some p) = refl
no_more None = refl

no_params : (acc : Exprs) (e : Expr) (xs : Exprs) → is_literal_pattern e ≡ true → params_of (append_exprs acc (more_expr e xs)) ≡ None
no_params no_expr e xs h = ap (λ o. one_more_param o (params_of xs)) (no_param e h)
no_params (more_expr x acc) e xs h = ap (λ o. one_more_param (param_of x) o) (no_params acc e xs h) ∙ no_more (param_of x)

no_arrow : (b : Bool) (xs : Exprs) → params_of xs ≡ None → (p : Piece) → is_missing p ≡ false → (l : Loc) (qs : List Piece) → build slot.Parentheses l (TheExprs b xs ∷ p ∷ qs) ≡ None
no_arrow b xs none Missing h l qs = absurd (true≢false h)
no_arrow true xs none p h l qs = ap (λ o. arrow_of l o (concise (p ∷ qs))) none
no_arrow false no_expr none p h l qs = ap (λ o. arrow_of l o (concise (p ∷ qs))) none
no_arrow false (more_expr e es) none p h l qs = ap (λ o. arrow_of l o (concise (p ∷ qs))) none

-- so no run goes on with its body to an end
body_lost : (w l : Loc) (b : Bool) (xs : Exprs) (fs : List Frame) (arrow : Token) → params_of xs ≡ None → on_its_line arrow ≡ true → Lost (turn (Due slot.Parentheses w (By slot.Arrow ∷ []) (TheExprs b xs ∷ []) l fs) arrow)
body_lost w l b xs fs arrow none on =
    lost_of (turn (Due slot.Parentheses w (By slot.Arrow ∷ []) (TheExprs b xs ∷ []) l fs) arrow)
    (λ d h. by_bool (leads (place fs) slot.Arrow) _ _ d (λ c q. by_bool (is_mark P.Arrow arrow) _ _ d (λ k g. lands Doomed g (inl (no_arrow b xs none))) (λ k g. nowhere g) q) (λ c q. nowhere q)
    (sym (ap (λ x. choose x (λ qs. pass slot.Parentheses w [] ((TheExprs b xs ∷ []) ++ qs) l fs arrow (λ p m. have fs p m arrow)) (λ qs s rs. if leads (place fs) slot.Arrow then take slot.Parentheses w s (rs ++ []) ((TheExprs b xs ∷ []) ++ qs) fs arrow else None)) (cond-true (on_its_line arrow) _ _ on)) ∙ h))

pub parameter_lost : {b : Bool} {e : Expr} {xs : Exprs} {ts : List Token} (c : Config) (t : Token) (f : Frame) (fs : List Frame) (closing_ arrow : Token) (us : List Token) → turn c t ≡ want t (f ∷ fs) → takes_parameter f ≡ true → SpellsItems b (more_expr e xs) (t ∷ ts) closing_ → is_literal_pattern e ≡ true →
    closing_.kind ≡ T.Punctuator P.CloseParenthesis → on_its_line arrow ≡ true → Lost (run c (t ∷ (ts ++ closing_ ∷ arrow ∷ us)))
parameter_lost {b = b} {e = e} {xs = xs} c t f fs closing_ arrow us begins takes dxs is is_closing on =
    let a = listed c t f fs closing_ begins takes dxs is_closing in
    let all = append_exprs a.before (more_expr e xs) in
    subst Lost (sym (a.runs (arrow ∷ us)))
    (lost_then (turn (Due slot.Parentheses a.start (By slot.Arrow ∷ []) (TheExprs b all ∷ []) closing_.loc a.frames) arrow) us (body_lost a.start closing_.loc b all a.frames arrow (no_params a.before e xs is) on))
