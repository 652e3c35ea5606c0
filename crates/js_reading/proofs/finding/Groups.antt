-- A group in brackets: which production makes one, and where the machine stands after its tokens.
use Rattle.std.proofs.Common.{◌≡◌, ℕ, ◌≤◌, le_trans, codes, ◌⊎◌, inl, inr, Bool, true, false, not, ◌&&◌, List, [], ◌∷◌, ◌++◌, Option, Some, None, if◌then◌else◌, refl, sym, ap, subst, ◌∙◌, append_assoc, append-nil}
use Rattle.std.specs.Prelude.{nat_le, ◌||◌}
use Rattle.std.specs.Str.{bytes_eq}
use Rattle.std.proofs.lemmas.Bool.{true≢false, and_parts, le-leb, cond-true, cond-false}
use Rattle.js_terms.specs.declared.place.Loc.{Loc}
use Rattle.js_terms.specs.declared.operators.LogicalOperator.TheVariants as logic
use Rattle.js_terms.specs.declared.words.Spelled.{Spelled}
use Rattle.js_tree.specs.Plain.{Expr, Exprs, no_expr, more_expr, Stmt, no_stmt}
use Rattle.js_tree.specs.Plain as tree
use Rattle.js_text.specs.Token.{Token, Kind}
use Rattle.js_text.specs.Token as T
use Rattle.js_reading.specs.Level.{assignment}
use Rattle.js_reading.specs.Spans.{through, first}
use Rattle.js_text.specs.declared.punctuator.Punctuator.TheVariants as P
use Rattle.js_reading.specs.Slots.{Wanted, Level, Slot, Sign, Text, Expr_, Stmt_, Stmts_, Items_, Place_, By, Piece, AnExpr, AStmt, TheStmts, TheExprs, APlace, AWord, AText, Missing, Branch, Pass, Go, Form, Choice}
use Rattle.js_reading.specs.Slots as slot
use Rattle.js_reading.specs.Productions.{primary, member, mark, is_mark, bound_name, slots, prefix, join, joins, after_first}
use Rattle.js_reading.specs.Makes.{build, is_declaration, is_target, is_and_or, arrow_of, params_of, concise, expression_of, template_of, template_parts, function_of}
use Rattle.js_reading.specs.Choices.{branch, either}
use Rattle.js_reading.specs.Kinds.{is_kind}
use Rattle.js_reading.specs.Sentences
use Rattle.js_reading.specs.Sentences.{named, regular_expression, body_and_flags, of_word, leaf_of, least, fits, continues, Spells, SpellsSlots, SpellsItems}
use Rattle.js_reading.specs.Turns.{leads, place, begun_level, Frame, InForm, Config, Due, want, want_by, begin_form, take, choose, pass, wanted, have, texted, enter, run, then_run}
use Rattle.js_reading.specs.Unsupported.{is_parenthesized_target, is_literal_pattern}
use Rattle.js_reading.specs.Found.{group, left_side, on_its_line}
use Rattle.js_reading.proofs.levels.Allowed.{UpTo, up_to, begins_first}
use Rattle.js_reading.proofs.sentences.Branches.{branches, each, among}
use Rattle.js_reading.proofs.sentences.KindsLemmas.{is_same}
use Rattle.js_reading.proofs.sentences.Reading.{complete_expr, complete_items, complete_stmt, complete_stmts, taken, skipped, same, leaves, take_pass, due_run, slot_bars, fits_least}
use Rattle.js_reading.proofs.sentences.Rows.{makes}
use Rattle.js_reading.proofs.sentences.Shapes.{plain, plain_slot, taking, taken_branch, plain_append, closing, both_true, find_all, join_found}
use Rattle.js_reading.proofs.levels.Tightness.{is_first_form, is_join_form}

-- ---- which production makes one

abbrev pub is_group : Expr → Bool
is_group (tree.Parenthesized l e) = true
is_group (tree.ArrayLiteral l xs) = true
is_group (tree.ObjectLiteral l ps) = true
is_group e = false

pub target_group : (e : Expr) → is_parenthesized_target e ≡ true → is_group e ≡ true
target_group (tree.Parenthesized l e) h = refl
target_group e h = absurd (true≢false (sym h))

pub literal_group : (e : Expr) → is_literal_pattern e ≡ true → is_group e ≡ true
literal_group (tree.ArrayLiteral l xs) h = refl
literal_group (tree.ObjectLiteral l ps) h = refl
literal_group e h = absurd (true≢false (sym h))

abbrev pub groups : Form → Bool
groups slot.Parentheses = true
groups slot.ArrayLiteral = true
groups slot.ObjectLiteral = true
groups f = false

abbrev pub LoneExpr : Option Expr → Type 0
LoneExpr (Some e) = is_group e ≡ false
LoneExpr None = Unit {0}

abbrev pub Lone : Option Piece → Type 0
Lone (Some (AnExpr i e)) = is_group e ≡ false
Lone o = Unit {0}

lone_arrow : (l : Loc) (xs : Option tree.Params) (o : Option tree.ConciseBody) → Lone (arrow_of l xs o)
lone_arrow l (Some xs) (Some x) = refl
lone_arrow l xs o = tt

lone_template : (l : Loc) (s : Spelled) (o : Option tree.TemplateParts) → Lone (template_of l s o)
lone_template l s (Some xs) = refl
lone_template l s None = tt

lone_function : (make : tree.Function → Expr) (o : Option tree.Function) → ((f : tree.Function) → is_group (make f) ≡ false) → Lone (expression_of make o)
lone_function make (Some f) h = h f
lone_function make None h = tt

pub lone_made : (f : Form) (l : Loc) (ps : List Piece) → makes f ≡ true → groups f ≡ false → Lone (build f l ps)
lone_made slot.Template l (AText s ∷ ps) is n = lone_template l s (template_parts ps)
lone_made slot.Template l ps is n = tt
lone_made slot.FunctionExpression l (Missing ∷ ps) is n = lone_function _ (function_of ps) (λ f. refl)
lone_made slot.FunctionExpression l (AWord w m ∷ ps) is n = lone_function _ (function_of ps) (λ f. refl)
lone_made slot.FunctionExpression l ps is n = tt
lone_made slot.New l (AnExpr i c ∷ TheExprs x xs ∷ []) is n = refl
lone_made slot.New l (AnExpr i c ∷ Missing ∷ []) is n = refl
lone_made slot.New l ps is n = tt
lone_made slot.Call l (AnExpr i f ∷ TheExprs x xs ∷ []) is n = refl
lone_made slot.Call l ps is n = tt
lone_made slot.Dot l (AnExpr i o ∷ AWord w m ∷ []) is n = refl
lone_made slot.Dot l ps is n = tt
lone_made slot.Member l (AnExpr i o ∷ AnExpr j k ∷ []) is n = refl
lone_made slot.Member l ps is n = tt
lone_made (slot.Postfix o) l (AnExpr i e ∷ []) is n = elim (is_target e) as (λ t. Lone (if t then Some (AnExpr 17 (tree.PostfixUpdate (Some l) o e)) else None)) [ true ↦ refl | false ↦ tt ]
lone_made (slot.Postfix o) l ps is n = tt
lone_made (slot.PrefixUpdate o) l (AnExpr i e ∷ []) is n = elim (is_target e) as (λ t. Lone (if t then Some (AnExpr 17 (tree.PrefixUpdate (Some l) o e)) else None)) [ true ↦ refl | false ↦ tt ]
lone_made (slot.PrefixUpdate o) l ps is n = tt
lone_made (slot.Unary o) l (AnExpr i e ∷ []) is n = refl
lone_made (slot.Unary o) l ps is n = tt
lone_made (slot.Binary o) l (AnExpr i x ∷ AnExpr j y ∷ []) is n = refl
lone_made (slot.Binary o) l ps is n = tt
lone_made (slot.Logical logic.Coalesce) l (AnExpr i x ∷ AnExpr j y ∷ []) is n = elim (is_and_or x) as (λ t. Lone (if t then None else Some (AnExpr 4 (tree.Logical (Some l) logic.Coalesce x y)))) [ true ↦ tt | false ↦ refl ]
lone_made (slot.Logical logic.And) l (AnExpr i x ∷ AnExpr j y ∷ []) is n = refl
lone_made (slot.Logical logic.Or) l (AnExpr i x ∷ AnExpr j y ∷ []) is n = refl
lone_made (slot.Logical logic.Coalesce) l ps is n = tt
lone_made (slot.Logical o) l ps is n = tt
lone_made slot.Conditional l (AnExpr k c ∷ AnExpr i x ∷ AnExpr j y ∷ []) is n = refl
lone_made slot.Conditional l ps is n = tt
lone_made (slot.Assignment o) l (AnExpr i x ∷ AnExpr j v ∷ []) is n = elim (is_target x) as (λ t. Lone (if t then Some (AnExpr assignment (tree.Assignment (Some l) o x v)) else None)) [ true ↦ refl | false ↦ tt ]
lone_made (slot.Assignment o) l ps is n = tt
lone_made slot.ArrowOfName l (AnExpr i (tree.IdentifierReference m w) ∷ ps) is n = lone_arrow l (params_of (more_expr (tree.IdentifierReference m w) no_expr)) (concise ps)
lone_made slot.ArrowOfName l ps is n = tt
lone_made slot.Comma l (AnExpr i x ∷ AnExpr j y ∷ []) is n = refl
lone_made slot.Comma l ps is n = tt
lone_made slot.Parentheses l ps is n = absurd (true≢false n)
lone_made slot.ArrayLiteral l ps is n = absurd (true≢false n)
lone_made slot.ObjectLiteral l ps is n = absurd (true≢false n)
lone_made f l ps is n = absurd (true≢false (sym is))

-- ---- slots that end with a token of their own

abbrev pub ends_choice : Choice → Bool
ends_choice slot.Properties = true
ends_choice slot.AfterProperty = true
ends_choice c = false

abbrev pub no_arrow_by : Slot → Bool
no_arrow_by (By slot.Arrow) = false
no_arrow_by s = true

abbrev pub is_last : Slot → Bool
is_last (Sign k) = true
is_last (By c) = ends_choice c
is_last s = false

-- no arrow is chosen there, and the last slot takes a token
abbrev pub closed : List Slot → Bool
closed [] = false
closed (s ∷ []) = is_last s
closed (s ∷ r ∷ ss) = no_arrow_by s && closed (r ∷ ss)

abbrev pub calm : List Slot → Bool
calm [] = true
calm (s ∷ ss) = no_arrow_by s && calm ss

-- what a choice leads to is closed where it is the last, and calm elsewhere
abbrev pub shuts : Choice → Branch → Bool
shuts c (Go qs s rs) = (not (ends_choice c) || closed (s ∷ rs)) && (not (no_arrow_by (By c)) || calm (s ∷ rs))
shuts c (Pass qs) = not (ends_choice c)
shuts c b = true

shut_branches : (c : Choice) → each (shuts c) (branches c) ≡ true
shut_branches slot.Semicolon = refl
shut_branches c = refl

implied : (x y : Bool) → (not x || y) ≡ true → x ≡ true → y ≡ true
implied true y h k = h
implied false y h k = absurd (true≢false (sym k))

closed_after : (s : Slot) (ss : List Slot) → closed (s ∷ ss) ≡ true → ((ss ≡ []) × (is_last s ≡ true)) ⊎ ((no_arrow_by s ≡ true) × (closed ss ≡ true))
closed_after s [] h = inl (refl, h)
closed_after s (r ∷ ss) h = inr (and_parts (no_arrow_by s) (closed (r ∷ ss)) h)

-- a slot that is not the last
closed_rest : (s : Slot) (ss : List Slot) → is_last s ≡ false → closed (s ∷ ss) ≡ true → (no_arrow_by s ≡ true) × (closed ss ≡ true)
closed_rest s ss n h = by_side (closed_after s ss h)
  where
    by_side : ((ss ≡ []) × (is_last s ≡ true)) ⊎ ((no_arrow_by s ≡ true) × (closed ss ≡ true)) → (no_arrow_by s ≡ true) × (closed ss ≡ true)
    by_side (inl x) = absurd (true≢false (sym x.1 ∙ n))
    by_side (inr x) = x

calm_closed : (s : Slot) (rs ss : List Slot) → calm (s ∷ rs) ≡ true → closed ss ≡ true → closed (s ∷ (rs ++ ss)) ≡ true
calm_closed s [] [] h k = absurd (true≢false (sym k))
calm_closed s [] (r ∷ ss) h k = both_true (and_parts (no_arrow_by s) true h).0 k
calm_closed s (r ∷ rs) ss h k = let a = and_parts (no_arrow_by s) (calm (r ∷ rs)) h in both_true a.0 (calm_closed r rs ss a.1 k)

last_calm : (c : Choice) → ends_choice c ≡ true → no_arrow_by (By c) ≡ true
last_calm slot.Arrow h = absurd (true≢false (sym h))
last_calm slot.Semicolon h = refl
last_calm c h = refl

closed_calm : (c : Choice) (ss : List Slot) → closed (By c ∷ ss) ≡ true → no_arrow_by (By c) ≡ true
closed_calm c ss h = by_side (closed_after (By c) ss h)
  where
    by_side : ((ss ≡ []) × (ends_choice c ≡ true)) ⊎ ((no_arrow_by (By c) ≡ true) × (closed ss ≡ true)) → no_arrow_by (By c) ≡ true
    by_side (inl x) = last_calm c x.1
    by_side (inr x) = x.0

closed_chosen : (c : Choice) (t : Token) (qs : List Piece) (s : Slot) (rs ss : List Slot) → branch c t ≡ Go qs s rs → closed (By c ∷ ss) ≡ true → closed (s ∷ (rs ++ ss)) ≡ true
closed_chosen c t qs s rs ss e h = by_side (closed_after (By c) ss h)
  where
    told : (not (ends_choice c) || closed (s ∷ rs)) && (not (no_arrow_by (By c)) || calm (s ∷ rs)) ≡ true
    told = subst (λ b. shuts c b ≡ true) e (among c t (shuts c) (shut_branches c))

    by_side : ((ss ≡ []) × (ends_choice c ≡ true)) ⊎ ((no_arrow_by (By c) ≡ true) × (closed ss ≡ true)) → closed (s ∷ (rs ++ ss)) ≡ true
    by_side (inl x) = subst (λ y. closed (s ∷ (rs ++ y)) ≡ true) (sym x.0) (subst (λ y. closed (s ∷ y) ≡ true) (sym (append-nil rs)) (implied (ends_choice c) (closed (s ∷ rs)) (and_parts _ _ told).0 x.1))
    by_side (inr x) = calm_closed s rs ss (implied (no_arrow_by (By c)) (calm (s ∷ rs)) (and_parts _ _ told).1 x.0) x.1

closed_passed : (c : Choice) (t : Token) (qs : List Piece) (ss : List Slot) → branch c t ≡ Pass qs → closed (By c ∷ ss) ≡ true → closed ss ≡ true
closed_passed c t qs ss e h = by_side (closed_after (By c) ss h)
  where
    by_side : ((ss ≡ []) × (ends_choice c ≡ true)) ⊎ ((no_arrow_by (By c) ≡ true) × (closed ss ≡ true)) → closed ss ≡ true
    by_side (inl x) = absurd (true≢false (sym (subst (λ b. shuts c b ≡ true) e (among c t (shuts c) (shut_branches c))) ∙ ap not x.1))
    by_side (inr x) = x.1

free_leads : (v : Wanted) (c : Choice) → no_arrow_by (By c) ≡ true → leads v c ≡ true
free_leads v slot.Arrow h = absurd (true≢false (sym h))
free_leads v slot.Semicolon h = refl
free_leads v c h = refl

after_some : {vs : List Token} (ts : List Token) → (n : Token) × (us : List Token) × (vs ≡ n ∷ us) → (n : Token) × (us : List Token) × (ts ++ vs ≡ n ∷ us)
after_some [] x = x
after_some {vs = vs} (t ∷ ts) x = (t, ts ++ vs, refl)

-- their tokens are some
pub some_token : {ss : List Slot} {qs : List Piece} {l m : Loc} {us : List Token} {next : Token} → SpellsSlots ss qs l m us next → closed ss ≡ true → (n : Token) × (vs : List Token) × (us ≡ n ∷ vs)
some_token Sentences.done h = absurd (true≢false (sym h))
some_token (Sentences.sign {us = us} t is d) h = (t, us, refl)
some_token (Sentences.text {us = us} t is d) h = (t, us, refl)
some_token (Sentences.expr {w = v} {ss = ss} {te = te} fit de go d) h = after_some te (some_token d (closed_rest (Expr_ v) ss refl h).1)
some_token (Sentences.stmt {ss = ss} {ts = ts} plainly ds d) h = after_some ts (some_token d (closed_rest Stmt_ ss refl h).1)
some_token (Sentences.stmts {ss = ss} {ts = ts} dss ends d) h = after_some ts (some_token d (closed_rest Stmts_ ss refl h).1)
some_token (Sentences.items {ts = ts} {us = us} t dxs is d) h = after_some ts (t, us, refl)
some_token (Sentences.place {ss = ss} d) h = some_token d (closed_rest Place_ ss refl h).1
some_token (Sentences.passed {c = c} {qs = qs} {ss = ss} {us = us} {next = next} e d) h = some_token d (closed_passed c (first us next) qs ss e h)
some_token (Sentences.chosen {c = c} {qs = qs} {s = s} {rs = rs} {ss = ss} {us = us} {next = next} e d) h = some_token d (closed_chosen c (first us next) qs s rs ss e h)

-- ---- where the machine stands after the tokens of such slots

grouped : (f : Form) (w m : Loc) (ps rs qs : List Piece) (fs : List Frame) → Some (Due f w [] ((ps ++ rs) ++ qs) m fs) ≡ Some (Due f w [] (ps ++ (rs ++ qs)) m fs)
grouped f w m ps rs qs fs = ap (λ x. Some (Due f w [] x m fs)) (append_assoc ps rs qs)

over : {ss : List Slot} {qs : List Piece} {l m : Loc} {us : List Token} {next : Token} → SpellsSlots ss qs l m us next → ss ≡ [] → (f : Form) (w : Loc) (ps : List Piece) (fs : List Frame) → run (Due f w ss ps l fs) us ≡ Some (Due f w [] (ps ++ qs) m fs)
over (Sentences.done {l = l}) h f w ps fs = ap (λ x. Some (Due f w [] x l fs)) (sym (append-nil ps))
over d h f w ps fs = absurd cc

no_slots : {A : Type 0} (ss : List Slot) → closed ss ≡ true → ss ≡ [] → A
no_slots ss h e = absurd (true≢false (sym h ∙ ap closed e))

no_token : {A : Type 0} {ss : List Slot} {qs : List Piece} {l m : Loc} {next : Token} → SpellsSlots ss qs l m [] next → closed ss ≡ true → A
no_token d h = let x = some_token d h in let q : [] ≡ x.0 ∷ x.1 = x.2 in absurd cc

-- past the token of a slot
past_token : {ss : List Slot} {qs : List Piece} {l m : Loc} {us : List Token} {next : Token} (s : Slot) → SpellsSlots ss qs l m us next → closed (s ∷ ss) ≡ true → (f : Form) (w : Loc) (ps : List Piece) (fs : List Frame) →
    (closed ss ≡ true → run (Due f w ss ps l fs) us ≡ Some (Due f w [] (ps ++ qs) m fs)) → run (Due f w ss ps l fs) us ≡ Some (Due f w [] (ps ++ qs) m fs)
past_token {ss = ss} {qs = qs} {l = l} {m = m} {us = us} s d h f w ps fs go = by_side (closed_after s ss h)
  where
    by_side : ((ss ≡ []) × (is_last s ≡ true)) ⊎ ((no_arrow_by s ≡ true) × (closed ss ≡ true)) → run (Due f w ss ps l fs) us ≡ Some (Due f w [] (ps ++ qs) m fs)
    by_side (inl x) = over d x.0 f w ps fs
    by_side (inr x) = go x.1

pub reach : {ss : List Slot} {qs : List Piece} {l m : Loc} {us : List Token} {next : Token} → SpellsSlots ss qs l m us next → closed ss ≡ true → plain ss ≡ true → (f : Form) (w : Loc) (ps : List Piece) (fs : List Frame) → run (Due f w ss ps l fs) us ≡ Some (Due f w [] (ps ++ qs) m fs)
reach Sentences.done h ok f w ps fs = absurd (true≢false (sym h))
reach (Sentences.sign {k = k} {ss = ss} {us = us} t is d) h ok f w ps fs =
    taken (is_kind k t.kind) _ _ us (is_same k t.kind is) ∙ past_token (Sign k) d h f w ps fs (λ c. reach d c (and_parts true (plain ss) ok).1 f w ps fs)
reach (Sentences.text {c = k} {p = p} {ss = ss} {ps = qs} {m = m} {us = us} t is d) h ok f w ps fs =
    same _ _ us (ap (λ o. texted o (λ x. enter f w ss (ps ++ x ∷ []) t.loc fs)) is)
    ∙ past_token (Text k) d h f w (ps ++ p ∷ []) fs (λ c. reach d c (and_parts true (plain ss) ok).1 f w (ps ++ p ∷ []) fs) ∙ grouped f w m ps (p ∷ []) qs fs
reach (Sentences.expr {w = v} {ss = ss} {us = []} fit de go d) h ok f w ps fs = no_token d (closed_rest (Expr_ v) ss refl h).1
reach (Sentences.expr {w = v} {i = i} {e = e} {ss = ss} {ps = qs} {l = l} {le = le} {m = m} {te = te} {us = n ∷ vs} fit de go d) h ok f w ps fs =
    let frame = InForm f w (Expr_ v) ss ps in
    let c = (closed_rest (Expr_ v) ss refl h).1 in
    due_run f w (Expr_ v ∷ ss) ps l fs te n vs
    ∙ complete_expr de frame fs vs fit (slot_bars f w v ss ps fs i e fit (λ none k. no_slots ss c none))
    ∙ leaves frame fs i e le n vs go
    ∙ taken (fits v i e) _ _ vs fit
    ∙ reach d c (and_parts true (plain ss) ok).1 f w (ps ++ AnExpr i e ∷ []) fs ∙ grouped f w m ps (AnExpr i e ∷ []) qs fs
reach (Sentences.stmt {ss = ss} {us = []} plainly ds d) h ok f w ps fs = no_token d (closed_rest Stmt_ ss refl h).1
reach (Sentences.stmt {s = s} {ss = ss} {ps = qs} {l = l} {ls = ls} {m = m} {ts = ts} {us = n ∷ vs} plainly ds d) h ok f w ps fs =
    due_run f w (Stmt_ ∷ ss) ps l fs ts n vs
    ∙ complete_stmt ds (InForm f w Stmt_ ss ps ∷ fs) vs (inr plainly)
    ∙ skipped (is_declaration s) _ _ vs plainly
    ∙ reach d (closed_rest Stmt_ ss refl h).1 (and_parts true (plain ss) ok).1 f w (ps ++ AStmt s ∷ []) fs ∙ grouped f w m ps (AStmt s ∷ []) qs fs
reach (Sentences.stmts {ss = ss} {us = []} dss ends d) h ok f w ps fs = no_token d (closed_rest Stmts_ ss refl h).1
reach (Sentences.stmts {xs = xs} {ss = ss} {ps = qs} {l = l} {ls = ls} {m = m} {ts = ts} {us = n ∷ vs} dss ends d) h ok f w ps fs =
    due_run f w (Stmts_ ∷ ss) ps l fs ts n vs
    ∙ complete_stmts dss no_stmt f w ss ps fs vs ends
    ∙ reach d (closed_rest Stmts_ ss refl h).1 (and_parts true (plain ss) ok).1 f w (ps ++ TheStmts xs ∷ []) fs ∙ grouped f w m ps (TheStmts xs ∷ []) qs fs
reach (Sentences.items {p = p} {b = b} {xs = xs} {ss = ss} {ps = qs} {l = l} {m = m} {ts = ts} {us = us} t dxs is d) h ok f w ps fs =
    let c = and_parts (closing p) (plain ss) ok in
    due_run f w (Items_ p ∷ ss) ps l fs ts t us
    ∙ complete_items dxs no_expr f w p ss ps fs us c.0 is
    ∙ reach d (closed_rest (Items_ p) ss refl h).1 c.1 f w (ps ++ TheExprs b xs ∷ []) fs ∙ grouped f w m ps (TheExprs b xs ∷ []) qs fs
reach (Sentences.place {ss = ss} {us = []} d) h ok f w ps fs = no_token d (closed_rest Place_ ss refl h).1
reach (Sentences.place {ss = ss} {ps = qs} {l = l} {m = m} {us = n ∷ vs} d) h ok f w ps fs =
    reach d (closed_rest Place_ ss refl h).1 (and_parts true (plain ss) ok).1 f w (ps ++ APlace l ∷ []) fs ∙ grouped f w m ps (APlace l ∷ []) qs fs
reach (Sentences.passed {c = c} {qs = rs} {ss = ss} {us = []} {next = next} e d) h ok f w ps fs = no_token d (closed_passed c next rs ss e h)
reach (Sentences.passed {c = c} {qs = rs} {ss = ss} {ps = qs} {l = l} {m = m} {us = n ∷ vs} e d) h ok f w ps fs =
    same _ _ vs (ap (λ x. choose x (λ qs. pass f w ss (ps ++ qs) l fs n (λ p x. have fs p x n)) (λ qs s rs. if leads (place fs) c then take f w s (rs ++ ss) (ps ++ qs) fs n else None)) e)
    ∙ reach d (closed_passed c n rs ss e h) (and_parts true (plain ss) ok).1 f w (ps ++ rs) fs ∙ grouped f w m ps rs qs fs
reach (Sentences.chosen {c = c} {qs = xs} {s = s} {rs = rs} {ss = ss} {us = []} {next = next} e d) h ok f w ps fs = no_token d (closed_chosen c next xs s rs ss e h)
reach (Sentences.chosen {c = c} {qs = xs} {s = s} {rs = rs} {ss = ss} {ps = qs} {l = l} {m = m} {us = n ∷ vs} e d) h ok f w ps fs =
    let go : Option Piece → Loc → Option Config = λ p x. have fs p x n in
    let a = and_parts (taking s) (plain (s ∷ rs)) (taken_branch c n xs s rs e) in
    let r = and_parts (plain_slot s) (plain rs) a.1 in
    same _ _ vs (ap (λ x. choose x (λ qs. pass f w ss (ps ++ qs) l fs n go) (λ qs s rs. if leads (place fs) c then take f w s (rs ++ ss) (ps ++ qs) fs n else None)) e ∙ cond-true (leads (place fs) c) _ _ (free_leads (place fs) c (closed_calm c ss h)) ∙ take_pass f w s (rs ++ ss) (ps ++ xs) l fs n go a.0)
    ∙ reach d (closed_chosen c n xs s rs ss e h) (both_true r.0 (plain_append rs ss r.1 (and_parts true (plain ss) ok).1)) f w (ps ++ xs) fs ∙ grouped f w m ps xs qs fs

-- ---- an expression that is a group

lone_named : (l : Loc) (o : Option (List ℕ)) → LoneExpr (named l o)
lone_named l None = tt
lone_named l (Some w) = refl

lone_pattern : (l : Loc) (o : Option (List ℕ × List ℕ)) → LoneExpr (regular_expression l o)
lone_pattern l None = tt
lone_pattern l (Some found) = refl

lone_either : (b : Bool) (x y : Option Expr) → LoneExpr x → LoneExpr y → LoneExpr (if b then x else y)
lone_either true x y h k = h
lone_either false x y h k = k

lone_word : (w : List ℕ) (k : Kind) (l : Loc) → LoneExpr (of_word w k l)
lone_word w k l = lone_either (bytes_eq w (codes "this")) _ _ refl (lone_either (bytes_eq w (codes "null")) _ _ refl (lone_either (bytes_eq w (codes "true")) _ _ refl (lone_either (bytes_eq w (codes "false")) _ _ refl (lone_named l (bound_name k)))))

pub lone_leaf : (k : Kind) (l : Loc) → LoneExpr (leaf_of k l)
lone_leaf (T.Word w) l = lone_word w (T.Word w) l
lone_leaf (T.EscapedWord w) l = lone_named l (bound_name (T.EscapedWord w))
lone_leaf (T.Numeral w) l = refl
lone_leaf (T.StringLiteral w) l = refl
lone_leaf (T.NoSubstitutionTemplate w) l = refl
lone_leaf (T.RegularExpression w) l = lone_pattern l (body_and_flags w)
lone_leaf k l = tt

-- its tokens, from the first on, lead to where it is whole
abbrev pub rest_of : List Token → List Token
rest_of [] = []
rest_of (t ∷ ts) = ts

abbrev pub Stands : ℕ → Expr → List Frame → List Token → Token → Type 0
Stands i e fs ts next = (d : Config) × (then_run (want (first ts next) fs) (λ c. run c (rest_of ts)) ≡ Some d) × (group d next ≡ left_side (Some (AnExpr i e)) (first ts next).loc fs next)

-- the first token of a production leads to its slots
enters : (g : Form) (t : Token) (fs : List Frame) (k : Kind) (ss : List Slot) → prefix t ≡ Some g → least (place fs) ≤ begun_level g → slots g ≡ Sign k ∷ ss → want t fs ≡ Some (Due g t.loc ss [] t.loc fs)
enters g t fs k ss is low are = ap (λ o. want_by o t fs) is ∙ cond-true (nat_le (least (place fs)) (begun_level g)) _ _ (le-leb _ _ low) ∙ ap (λ x. begin_form g t x fs) are

abbrev pub first_missing : List Piece → Bool
first_missing (Missing ∷ ps) = true
first_missing ps = false

pub join_lone : (t : Token) (g : Form) → join t ≡ Some g → groups g ≡ false
join_lone t g h = off (groups g) (find_all (λ f. not (groups f)) after_first joins t g refl (join_found t g h)).0
  where
    off : (x : Bool) → not x ≡ true → x ≡ false
    off false q = refl
    off true q = absurd (true≢false (sym q))

-- after `)` an arrow's body, or nothing
paren_lone : (l : Loc) (x : Bool) (xs : Exprs) (ps : List Piece) → first_missing ps ≡ false → Lone (build slot.Parentheses l (TheExprs x xs ∷ ps))
paren_lone l true xs [] h = tt
paren_lone l false no_expr [] h = tt
paren_lone l false (more_expr e es) [] h = tt
paren_lone l x xs (Missing ∷ ps) h = absurd (true≢false h)
paren_lone l true xs (p ∷ ps) h = lone_arrow l (params_of xs) (concise (p ∷ ps))
paren_lone l false no_expr (p ∷ ps) h = lone_arrow l (params_of no_expr) (concise (p ∷ ps))
paren_lone l false (more_expr e es) (p ∷ ps) h = lone_arrow l (params_of (more_expr e es)) (concise (p ∷ ps))

brace_first : {ss : List Slot} {ps : List Piece} {l m : Loc} {us : List Token} {next : Token} {k : Kind} → SpellsSlots (Sign k ∷ Place_ ∷ ss) ps l m us next → first_missing ps ≡ false
brace_first (Sentences.sign t is (Sentences.place d)) = refl

expr_first : {ss : List Slot} {ps : List Piece} {l m : Loc} {us : List Token} {next : Token} {v : Wanted} → SpellsSlots (Expr_ v ∷ ss) ps l m us next → first_missing ps ≡ false
expr_first (Sentences.expr fit de go d) = refl

either_go : {A : Type 0} (b : Bool) {qs xs ys : List Piece} {s x y : Slot} {rs cs bs : List Slot} → (xs ≡ qs → x ≡ s → cs ≡ rs → A) → (ys ≡ qs → y ≡ s → bs ≡ rs → A) → either b (Go xs x cs) (Go ys y bs) ≡ Go qs s rs → A
either_go true f g h = f (cc) (cc) (cc)
either_go false f g h = g (cc) (cc) (cc)

no_pass : {A : Type 0} (b : Bool) {qs : List Piece} → either b (Go [] (mark P.OpenBrace) (Place_ ∷ Stmts_ ∷ mark P.CloseBrace ∷ Place_ ∷ [])) (Go [] (Expr_ (Level assignment)) []) ≡ Pass qs → A
no_pass true h = absurd cc
no_pass false h = absurd cc

body_first : {ps : List Piece} {l m : Loc} {us : List Token} {next : Token} → SpellsSlots (By slot.ConciseBody ∷ []) ps l m us next → first_missing ps ≡ false
body_first (Sentences.passed {us = us} {next = next} e d) = no_pass (is_mark P.OpenBrace (first us next)) e
body_first (Sentences.chosen {qs = qs} {s = s} {rs = rs} {ps = ps} {l = l} {m = m} {us = us} {next = next} e d) =
    either_go (is_mark P.OpenBrace (first us next))
    (λ a b c. subst (λ x. first_missing (x ++ ps) ≡ false) a (brace_first (subst (λ x. SpellsSlots x ps l m us next) (ap (λ y. y ∷ (rs ++ [])) (sym b) ∙ ap (λ y. mark P.OpenBrace ∷ (y ++ [])) (sym c)) d)))
    (λ a b c. subst (λ x. first_missing (x ++ ps) ≡ false) a (expr_first (subst (λ x. SpellsSlots x ps l m us next) (ap (λ y. y ∷ (rs ++ [])) (sym b)) d))) e

pub arrow_first : {ps : List Piece} {l m : Loc} {us : List Token} {next : Token} {k : Kind} → SpellsSlots (Sign k ∷ By slot.ConciseBody ∷ []) ps l m us next → first_missing ps ≡ false
arrow_first (Sentences.sign t is d) = body_first d

pub arrow_or_not : {A : Type 0} (b : Bool) {qs : List Piece} {s : Slot} {rs : List Slot} → ([] ≡ qs → mark P.Arrow ≡ s → By slot.ConciseBody ∷ [] ≡ rs → A) → either b (Go [] (mark P.Arrow) (By slot.ConciseBody ∷ [])) (Pass (Missing ∷ [])) ≡ Go qs s rs → A
arrow_or_not true f h = f (cc) (cc) (cc)
arrow_or_not false f h = absurd cc

not_on_line : (b : Bool) {qs : List Piece} → either b (Go [] (mark P.Arrow) (By slot.ConciseBody ∷ [])) (Pass (Missing ∷ [])) ≡ Pass qs → (b ≡ false) × (Missing ∷ [] ≡ qs)
not_on_line true h = absurd cc
not_on_line false h = (refl, cc)

made_group : {i : ℕ} {e : Expr} {o : Option Piece} → Lone o → o ≡ Some (AnExpr i e) → is_group e ≡ false
made_group h made = subst Lone made h

paren_stands : {ps : List Piece} {i : ℕ} {e : Expr} {m : Loc} {ts : List Token} {next : Token} (t : Token) (fs : List Frame) → prefix t ≡ Some slot.Parentheses → least (place fs) ≤ member → SpellsSlots (slots slot.Parentheses) ps t.loc m (t ∷ ts) next →
    build slot.Parentheses (through t.loc m) ps ≡ Some (AnExpr i e) → is_group e ≡ true → Stands i e fs (t ∷ ts) next
paren_stands {i = i} {e = e} {next = next} t fs pre low (Sentences.sign _ is (Sentences.items {b = b} {xs = xs} {ts = ts} closing_ dxs is_closing (Sentences.passed {qs = qs} k Sentences.done))) made gr =
    let a = not_on_line (on_its_line next) k in (
      Due slot.Parentheses t.loc (By slot.Arrow ∷ []) (TheExprs b xs ∷ []) closing_.loc fs,
      same _ _ (ts ++ closing_ ∷ []) (enters slot.Parentheses t fs _ _ pre low refl) ∙ due_run slot.Parentheses t.loc (Items_ P.CloseParenthesis ∷ By slot.Arrow ∷ []) [] t.loc fs ts closing_ [] ∙ complete_items dxs no_expr slot.Parentheses t.loc P.CloseParenthesis (By slot.Arrow ∷ []) [] fs [] refl is_closing,
      cond-false (on_its_line next) _ _ a.0 ∙ ap (λ o. left_side o t.loc fs next) (ap (λ x. build slot.Parentheses (through t.loc closing_.loc) (TheExprs b xs ∷ (x ++ []))) a.1 ∙ made),
    )
paren_stands {e = e} {m = m} {next = next} t fs pre low (Sentences.sign _ is (Sentences.items {b = b} {xs = xs} closing_ dxs is_closing (Sentences.chosen {qs = qs} {s = s} {rs = rs} {ps = ps} {l = l} {us = us} k d))) made gr =
    arrow_or_not (on_its_line (first us next)) (λ x y z. absurd (true≢false (sym gr ∙ made_group (paren_lone (through t.loc m) b xs (qs ++ ps) (subst (λ v. first_missing (v ++ ps) ≡ false) x (arrow_first (subst (λ v. SpellsSlots v ps l m us next) (ap (λ v. v ∷ (rs ++ [])) (sym y) ∙ ap (λ v. mark P.Arrow ∷ (v ++ [])) (sym z)) d)))) made))) k

array_stands : {ps : List Piece} {i : ℕ} {e : Expr} {m : Loc} {ts : List Token} {next : Token} (t : Token) (fs : List Frame) → prefix t ≡ Some slot.ArrayLiteral → least (place fs) ≤ primary → SpellsSlots (slots slot.ArrayLiteral) ps t.loc m (t ∷ ts) next →
    build slot.ArrayLiteral (through t.loc m) ps ≡ Some (AnExpr i e) → Stands i e fs (t ∷ ts) next
array_stands {next = next} t fs pre low (Sentences.sign _ is (Sentences.items {b = b} {xs = xs} {ts = ts} closing_ dxs is_closing Sentences.done)) made = (
  Due slot.ArrayLiteral t.loc [] (TheExprs b xs ∷ []) closing_.loc fs,
  same _ _ (ts ++ closing_ ∷ []) (enters slot.ArrayLiteral t fs _ _ pre low refl) ∙ due_run slot.ArrayLiteral t.loc (Items_ P.CloseBracket ∷ []) [] t.loc fs ts closing_ [] ∙ complete_items dxs no_expr slot.ArrayLiteral t.loc P.CloseBracket [] [] fs [] refl is_closing,
  ap (λ o. left_side o t.loc fs next) made,
)

object_stands : {ps : List Piece} {i : ℕ} {e : Expr} {m : Loc} {ts : List Token} {next : Token} (t : Token) (fs : List Frame) → prefix t ≡ Some slot.ObjectLiteral → least (place fs) ≤ primary → SpellsSlots (slots slot.ObjectLiteral) ps t.loc m (t ∷ ts) next →
    build slot.ObjectLiteral (through t.loc m) ps ≡ Some (AnExpr i e) → Stands i e fs (t ∷ ts) next
object_stands {ps = ps} {m = m} {ts = ts} {next = next} t fs pre low (Sentences.sign _ is d) made = (
  Due slot.ObjectLiteral t.loc [] ps m fs,
  same _ _ ts (enters slot.ObjectLiteral t fs _ _ pre low refl) ∙ reach d refl refl slot.ObjectLiteral t.loc [] fs,
  ap (λ o. left_side o t.loc fs next) made,
)

pub stands : {i : ℕ} {e : Expr} {l : Loc} {ts : List Token} {next : Token} → Spells (AnExpr i e) l ts next → is_group e ≡ true → (f : Frame) (fs : List Frame) → fits (wanted f) i e ≡ true → Stands i e (f ∷ fs) ts next
stands (Sentences.leaf t none is) gr f fs fit = absurd (true≢false (sym gr ∙ subst LoneExpr is (lone_leaf t.kind t.loc)))
stands {i = i} {e = e} (Sentences.prefixed g {ps = ps} {l = l} {ts = ts} {next = next} t is d made) gr f fs fit = by_form g is d made (le_trans (fits_least f fs i e fit) (subst (UpTo g) made (up_to g (through t.loc l) ps (begins_first t g is))))
  where
    by_form : (g : Form) → prefix t ≡ Some g → SpellsSlots (slots g) ps t.loc l (t ∷ ts) next → build g (through t.loc l) ps ≡ Some (AnExpr i e) → least (place (f ∷ fs)) ≤ begun_level g → Stands i e (f ∷ fs) (t ∷ ts) next
    by_form slot.Parentheses h dd k low = paren_stands t (f ∷ fs) h low dd k gr
    by_form slot.ArrayLiteral h dd k low = array_stands t (f ∷ fs) h low dd k
    by_form slot.ObjectLiteral h dd k low = object_stands t (f ∷ fs) h low dd k
    by_form g h dd k low = absurd (true≢false (sym gr ∙ made_group (lone_made g (through t.loc l) ps (is_first_form t g h) refl) k))
stands {e = e} (Sentences.joined g {ps = ps} {i = i} {a = a} {la = la} {l = l} t is are low da d made) gr f fs fit = absurd (true≢false (sym gr ∙ made_group (lone_made g (through la l) (AnExpr i a ∷ ps) (is_join_form t g is) (join_lone t g is)) made))
