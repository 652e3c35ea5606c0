-- What begins a form is found at the form's last token, whatever stands after it.
use Rattle.std.proofs.Common.{◌≡◌, ℕ, zero, suc, Bool, true, false, not, ◌&&◌, List, [], ◌∷◌, ◌++◌, Option, Some, None, codes, if◌then◌else◌, refl, sym, ap, subst, ◌∙◌, append_assoc, arith}
use Rattle.std.specs.Prelude.{nat_le}
use Rattle.std.proofs.lemmas.Bool.{true≢false, cond-true, cond-false, eq-eqb, le-leb, leb-true}
use Rattle.js_terms.specs.declared.place.Loc.{Loc}
use Rattle.js_tree.specs.Plain.{Expr, Exprs, no_expr, more_expr, no_stmt}
use Rattle.js_tree.specs.Plain as tree
use Rattle.js_text.specs.Token.{Token, Kind, Word}
use Rattle.js_text.specs.Token as T
use Rattle.js_text.specs.Word.{reserved_word}
use Rattle.js_text.specs.declared.punctuator.Punctuator.TheVariants as P
use Rattle.js_reading.specs.Kinds.{is_keyword}
use Rattle.js_reading.specs.Slots.{Wanted, Level, WithoutIn, Callee, Slot, Expr_, Items_, By, Piece, AnExpr, TheExprs}
use Rattle.js_reading.specs.Slots as slot
use Rattle.js_reading.specs.Productions.{primary, call, is_mark, is_word}
use Rattle.js_reading.specs.Sentences.{grip, fits, continues, Spells, SpellsItems}
use Rattle.js_reading.specs.Turns.{place, Frame, InForm, InExpression, InFile, Config, Due, Have, Start, want, wanted, banned, have, turn, then_run, run}
use Rattle.js_reading.specs.Unsupported
use Rattle.js_reading.specs.Unsupported.{Unsupported, Stops, Begins, at_any_name, at_property, takes_call, takes_parameter, is_parenthesized_target, is_literal_pattern}
use Rattle.js_reading.specs.Found.{Find, first_of, ones, one, twos, two, proto_key, three, left_sides, group, on_its_line, before_body, parameter, outside, opens_call, same_start, starts, asyncs, called, argues, then_holds, arrow_comes, further, Turns}
use Rattle.js_reading.proofs.finding.Coming.{comes_so}
use Rattle.js_reading.proofs.sentences.Firsts.{remade}
use Rattle.js_reading.proofs.finding.Groups.{is_group, target_group, literal_group, stands}
use Rattle.js_reading.proofs.sentences.KindsLemmas.{kind_is}
use Rattle.js_reading.proofs.refusing.Parameters.{first_literal, literal_among, listed}
use Rattle.js_reading.proofs.sentences.Reading.{complete_items, due_run, fits_place}
use Rattle.js_reading.proofs.sentences.Shapes.{both_true}

-- ---- of what is found, nothing is

abbrev pub nth : ℕ → List Find → Find
nth n [] = None
nth zero (x ∷ xs) = x
nth (suc n) (x ∷ xs) = nth n xs

pub off_at : (xs : List Find) (n : ℕ) → first_of xs ≡ None → nth n xs ≡ None
off_at [] n h = refl
off_at (None ∷ xs) zero h = refl
off_at (None ∷ xs) (suc n) h = off_at xs n h
off_at (Some x ∷ xs) n h = absurd cc

pub fired : {b : Bool} (x : Unsupported × Loc) → b ≡ true → (if b then Some x else None) ≡ None → ⊥
fired {b = false} x h k = true≢false (sym h)
fired {b = true} x h k = by_some k
  where
    by_some : Some x ≡ None → ⊥
    by_some q = absurd cc

-- ---- a form up to its last token

pub data Whole : Config → List Token → Token → Type 0 where
  of_one : {c : Config} {t : Token} → (one c t ≡ None → ⊥) → Whole c [] t
  of_two : {c : Config} {t next : Token} → (two c t next ≡ None → ⊥) → Whole c (t ∷ []) next
  of_proto : {c : Config} {t next : Token} → (proto_key c t next ≡ None → ⊥) → Whole c (t ∷ []) next
  of_three : {c : Config} {t name arrow : Token} → (three c t name arrow ≡ None → ⊥) → Whole c (t ∷ name ∷ []) arrow
  of_group : {c d : Config} {ts : List Token} {t : Token} → run c ts ≡ Some d → (group d t ≡ None → ⊥) → Whole c ts t
  of_parameter : {c d : Config} {ts : List Token} {t : Token} → run c ts ≡ Some d → (parameter d t ≡ None → ⊥) → Whole c ts t
  of_this : {c : Config} {t : Token} → (outside c t ≡ None → ⊥) → Whole c [] t
  of_call : {c d : Config} {t opening : Token} {ts : List Token} {arrow : Token} → run c (t ∷ opening ∷ ts) ≡ Some d → opens_call t opening ≡ true → ((turns : Turns) → starts t.loc (asyncs turns) ≡ true → called turns d arrow ≡ None → ⊥) → Whole c (t ∷ opening ∷ ts) arrow
  of_further : {c : Config} {t : Token} {us : List Token} {arrow : Token} → turn c t ≡ None → ((after : List Token) → further c t (us ++ arrow ∷ after) ≡ None → ⊥) → Whole c (t ∷ us) arrow

pub record Parts (c : Config) (us : List Token) : Type 0 where
  pub before : List Token
  pub last : Token
  pub after : List Token
  pub are : us ≡ before ++ last ∷ after
  pub whole : Whole c before last

one_part : {c : Config} {t : Token} (ts : List Token) → (one c t ≡ None → ⊥) → Parts c (t ∷ ts)
one_part {t = t} ts h = record { before = []; last = t; after = ts; are = refl; whole = of_one h }

two_parts : {c : Config} {t next : Token} (ts : List Token) → (two c t next ≡ None → ⊥) → Parts c (t ∷ next ∷ ts)
two_parts {t = t} {next = next} ts h = record { before = t ∷ []; last = next; after = ts; are = refl; whole = of_two h }

-- ---- a group

group_parts : {c : Config} {i : ℕ} {e : Expr} {l : Loc} {t : Token} {te : List Token} (f : Frame) (fs : List Frame) (sign : Token) (ts : List Token) → turn c t ≡ want t (f ∷ fs) → fits (wanted f) i e ≡ true → Spells (AnExpr i e) l (t ∷ te) sign → is_group e ≡ true →
    (first_of (left_sides i e t.loc f sign) ≡ None → ⊥) → Parts c (t ∷ (te ++ sign ∷ ts))
group_parts {t = t} {te = te} f fs sign ts begins fit de is told =
    let s = stands de is f fs fit in
    record { before = t ∷ te; last = sign; after = ts; are = refl; whole = of_group (ap (λ o. then_run o (λ c. run c te)) begins ∙ s.1) (λ h. told (sym s.2 ∙ h)) }

-- ---- a literal among the items of parentheses

before_arrow : {o : Option Loc} {l : Loc} (arrow : Token) → o ≡ Some l → on_its_line arrow ≡ true → before_body o arrow ≡ None → ⊥
before_arrow {l = l} arrow h on k = fired (Unsupported.BindingPattern, l) on (sym (ap (λ o. before_body o arrow) h) ∙ k)

parameter_parts : {c : Config} {b : Bool} {e : Expr} {xs : Exprs} {t : Token} {tx : List Token} (f : Frame) (fs : List Frame) (closing_ arrow : Token) (ts : List Token) → turn c t ≡ want t (f ∷ fs) → takes_parameter f ≡ true → SpellsItems b (more_expr e xs) (t ∷ tx) closing_ → is_literal_pattern e ≡ true →
    is_mark P.CloseParenthesis closing_ ≡ true → on_its_line arrow ≡ true → Parts c (t ∷ (tx ++ closing_ ∷ arrow ∷ ts))
parameter_parts {c = c} {e = e} {xs = xs} {t = t} {tx = tx} f fs closing_ arrow ts begins takes dxs is is_closing on =
    let a = listed c t f fs closing_ begins takes dxs (kind_is (T.Punctuator P.CloseParenthesis) closing_.kind is_closing) in
    let first = first_literal dxs is in
    record {
      before = t ∷ (tx ++ closing_ ∷ []);
      last = arrow;
      after = ts;
      are = ap (λ x. t ∷ x) (sym (append_assoc tx (closing_ ∷ []) (arrow ∷ ts)));
      whole = of_parameter (a.runs []) (before_arrow arrow (literal_among a.before e xs first.0 first.1).1 on);
    }

-- ---- `async` with arguments

abbrev pub named_async : Loc → Expr
named_async l = tree.IdentifierReference (Some l) (codes "async")

of_kind : (P : Token → Type 0) (t : Token) (k : Kind) → t.kind ≡ k → P (remade t k) → P t
of_kind P t k is p = subst (λ x. P (remade t x)) (sym is) p

async_wanted : (t : Token) (fs : List Frame) → want (remade t (Word (codes "async"))) fs ≡ Some (Have (AnExpr primary (named_async t.loc)) t.loc fs)
unfolding is_keyword reserved_word
async_wanted t fs = refl

-- the arguments that its `(` begins are due
pub data Called : Loc → Config → Type 0 where
  of_call : {l m : Loc} {gs : List Frame} → Called l (Due slot.Call l (Items_ P.CloseParenthesis ∷ []) (AnExpr primary (named_async l) ∷ []) m gs)
  of_new : {l w m : Loc} {gs : List Frame} → Called l (Due slot.New w (Items_ P.CloseParenthesis ∷ []) (AnExpr primary (named_async l) ∷ []) m gs)

abbrev pub OpensCall : Loc → Frame → List Frame → Token → Type 0
OpensCall l f fs t = (d : Config) × (have (f ∷ fs) (Some (AnExpr primary (named_async l))) l t ≡ Some d) × Called l d

no_ban : (v : Wanted) (s : Token) → Rattle.js_reading.specs.Sentences.bans v (remade s (T.Punctuator P.OpenParenthesis)) ≡ false
no_ban (WithoutIn n) s = refl
no_ban (Level n) s = refl
no_ban Callee s = refl

both_low : (n : ℕ) → nat_le n call ≡ true → nat_le n primary ≡ true
both_low n h = let q = leb-true n call h in le-leb n primary (omega arith)

call_goes : (v : Wanted) (l : Loc) (s : Token) → nat_le (grip v) call ≡ true → (continues v (named_async l) (remade s (T.Punctuator P.OpenParenthesis)) ≡ true) × (fits v primary (named_async l) ≡ true)
call_goes (Level n) l s h = (both_true h refl, both_low n h)
call_goes (WithoutIn n) l s h = (both_true h refl, both_true (both_low n h) refl)
call_goes Callee l s h = absurd (true≢false (sym h))

call_there : (l : Loc) (f : Frame) (fs : List Frame) (s : Token) → nat_le (grip (wanted f)) call ≡ true → OpensCall l f fs (remade s (T.Punctuator P.OpenParenthesis))
call_there l f fs s h =
    let t = remade s (T.Punctuator P.OpenParenthesis) in
    let a = call_goes (wanted f) l s h in (
      Due slot.Call l (Items_ P.CloseParenthesis ∷ []) (AnExpr primary (named_async l) ∷ []) s.loc (f ∷ fs),
      cond-true (continues (wanted f) (named_async l) t) _ _ a.0 ∙ cond-false (banned t (f ∷ fs)) _ _ (no_ban (place (f ∷ fs)) s) ∙ cond-true (nat_le call primary && fits (place (f ∷ fs)) primary (named_async l)) _ _ (fits_place f fs primary (named_async l) a.1 (λ k. refl)),
      of_call,
    )

opens : (l : Loc) (f : Frame) (fs : List Frame) (s : Token) → takes_call f ≡ true → OpensCall l f fs (remade s (T.Punctuator P.OpenParenthesis))
opens l (InForm slot.New w (Expr_ Callee) (By slot.Arguments ∷ []) []) fs s h = (Due slot.New w (Items_ P.CloseParenthesis ∷ []) (AnExpr primary (named_async l) ∷ []) s.loc fs, refl, of_new)
opens l f fs s h = call_there l f fs s h

same_itself : (l : Loc) → same_start l l ≡ true
same_itself l = both_true (eq-eqb l.start.line l.start.line refl) (eq-eqb l.start.column l.start.column refl)

closes_call : {l : Loc} {b : Bool} {xs : Exprs} {tx : List Token} (d : Config) (closing_ arrow : Token) → Called l d → SpellsItems b xs tx closing_ → closing_.kind ≡ T.Punctuator P.CloseParenthesis → is_mark P.Arrow arrow ≡ true →
    (e : Config) × (run d (tx ++ closing_ ∷ []) ≡ Some e) × ((turns : Turns) → starts l (asyncs turns) ≡ true → called turns e arrow ≡ None → ⊥) × (argues l e ≡ true)
closes_call {l = l} {b = b} {xs = xs} {tx = tx} d closing_ arrow (of_call {m = m} {gs = gs}) dxs is is_arrow = (
  Due slot.Call l [] (AnExpr primary (named_async l) ∷ TheExprs b xs ∷ []) closing_.loc gs,
  due_run slot.Call l (Items_ P.CloseParenthesis ∷ []) (AnExpr primary (named_async l) ∷ []) m gs tx closing_ [] ∙ complete_items dxs no_expr slot.Call l P.CloseParenthesis [] (AnExpr primary (named_async l) ∷ []) gs [] refl is,
  λ turns h. fired _ (both_true is_arrow h),
  same_itself l,
)
closes_call {l = l} {b = b} {xs = xs} {tx = tx} d closing_ arrow (of_new {w = w} {m = m} {gs = gs}) dxs is is_arrow = (
  Due slot.New w [] (AnExpr primary (named_async l) ∷ TheExprs b xs ∷ []) closing_.loc gs,
  due_run slot.New w (Items_ P.CloseParenthesis ∷ []) (AnExpr primary (named_async l) ∷ []) m gs tx closing_ [] ∙ complete_items dxs no_expr slot.New w P.CloseParenthesis [] (AnExpr primary (named_async l) ∷ []) gs [] refl is,
  λ turns h. fired _ (both_true is_arrow h),
  same_itself l,
)

call_parts : {c : Config} {t : Token} {b : Bool} {xs : Exprs} {tx : List Token} (f : Frame) (fs : List Frame) (opening closing_ arrow : Token) (ts : List Token) → turn c t ≡ want t (f ∷ fs) → takes_call f ≡ true → is_word (codes "async") t ≡ true → is_mark P.OpenParenthesis opening ≡ true → opening.line_terminator_before ≡ false →
    SpellsItems b xs tx closing_ → is_mark P.CloseParenthesis closing_ ≡ true → is_mark P.Arrow arrow ≡ true → Parts c (t ∷ opening ∷ (tx ++ closing_ ∷ arrow ∷ ts))
call_parts {c = c} {t = t} {tx = tx} f fs opening closing_ arrow ts begins takes is is_opening line dxs is_closing is_arrow =
    let named = begins ∙ of_kind (λ s. want s (f ∷ fs) ≡ Some (Have (AnExpr primary (named_async s.loc)) s.loc (f ∷ fs))) t (Word (codes "async")) (kind_is (Word (codes "async")) t.kind is) (async_wanted t (f ∷ fs)) in
    let opened = of_kind (λ s. OpensCall t.loc f fs s) opening (T.Punctuator P.OpenParenthesis) (kind_is (T.Punctuator P.OpenParenthesis) opening.kind is_opening) (opens t.loc f fs opening takes) in
    let ended = closes_call opened.0 closing_ arrow opened.2 dxs (kind_is (T.Punctuator P.CloseParenthesis) closing_.kind is_closing) is_arrow in
    record {
      before = t ∷ opening ∷ (tx ++ closing_ ∷ []);
      last = arrow;
      after = ts;
      are = ap (λ x. t ∷ opening ∷ x) (sym (append_assoc tx (closing_ ∷ []) (arrow ∷ ts)));
      whole = of_call (ap (λ o. then_run o (λ d. run d (opening ∷ (tx ++ closing_ ∷ [])))) named ∙ ap (λ o. then_run o (λ d. run d (tx ++ closing_ ∷ []))) opened.1 ∙ ended.1) (both_true is (both_true is_opening (ap not line))) ended.2;
    }

-- where a file begins with the word
async_read : (t : Token) → turn Start (remade t (Word (codes "async"))) ≡ Some (Have (AnExpr primary (named_async t.loc)) t.loc (InExpression t.loc ∷ InFile no_stmt ∷ []))
unfolding is_keyword reserved_word
async_read t = refl

refused_parts : {c : Config} {t : Token} {b : Bool} {xs : Exprs} {tx : List Token} (opening closing_ arrow : Token) (ts : List Token) → turn c t ≡ None → is_word (codes "async") t ≡ true → at_any_name c ≡ false → is_mark P.OpenParenthesis opening ≡ true → opening.line_terminator_before ≡ false →
    SpellsItems b xs tx closing_ → is_mark P.CloseParenthesis closing_ ≡ true → is_mark P.Arrow arrow ≡ true → Parts c (t ∷ opening ∷ (tx ++ closing_ ∷ arrow ∷ ts))
refused_parts {c = c} {t = t} {tx = tx} opening closing_ arrow ts refused is unnamed is_opening line dxs is_closing is_arrow =
    record {
      before = t ∷ opening ∷ (tx ++ closing_ ∷ []);
      last = arrow;
      after = ts;
      are = ap (λ x. t ∷ opening ∷ x) (sym (append_assoc tx (closing_ ∷ []) (arrow ∷ ts)));
      whole = of_further refused (λ after h. fired _ (both_true (ap not unnamed) (both_true (both_true is (both_true is_opening (ap not line))) (comes_there after))) h);
    }
  where
    here : Config
    here = Have (AnExpr primary (named_async t.loc)) t.loc (InExpression t.loc ∷ InFile no_stmt ∷ [])

    read : turn Start t ≡ Some here
    read =
        of_kind (λ s. turn Start s ≡ Some (Have (AnExpr primary (named_async s.loc)) s.loc (InExpression s.loc ∷ InFile no_stmt ∷ []))) t (Word (codes "async")) (kind_is (Word (codes "async")) t.kind is) (async_read t)

    opened : OpensCall t.loc (InExpression t.loc) (InFile no_stmt ∷ []) opening
    opened = of_kind (λ s. OpensCall t.loc (InExpression t.loc) (InFile no_stmt ∷ []) s) opening (T.Punctuator P.OpenParenthesis) (kind_is (T.Punctuator P.OpenParenthesis) opening.kind is_opening) (opens t.loc (InExpression t.loc) (InFile no_stmt ∷ []) opening refl)

    comes_there : (after : List Token) → then_holds (turn Start t) (λ d. arrow_comes t.loc d (opening ∷ ((tx ++ closing_ ∷ []) ++ arrow ∷ after))) ≡ true
    comes_there after =
        let ended = closes_call opened.0 closing_ arrow opened.2 dxs (kind_is (T.Punctuator P.CloseParenthesis) closing_.kind is_closing) is_arrow in
        ap (λ o. then_holds o (λ d. arrow_comes t.loc d (opening ∷ ((tx ++ closing_ ∷ []) ++ arrow ∷ after)))) read
        ∙ comes_so t.loc (opening ∷ (tx ++ closing_ ∷ [])) here ended.0 arrow after (ap (λ o. then_run o (λ d. run d (tx ++ closing_ ∷ []))) opened.1 ∙ ended.1) ended.3 is_arrow

-- ---- each form

free : (c : Config) (t : Token) (w : List ℕ) → is_word w t ≡ true → at_any_name c ≡ false → (is_word w t && not (at_any_name c)) ≡ true
free c t w is unnamed = both_true is (ap not unnamed)

stops_parts : {u : Unsupported} {c : Config} {us : List Token} → Stops u c us → Parts c us
stops_parts {c = c} (Unsupported.class {t = t} {ts = ts} is unnamed) = one_part ts (λ h. fired _ (free c t (codes "class") is unnamed) (off_at (ones c t) 0 h))
stops_parts {c = c} (Unsupported.super {t = t} {ts = ts} is unnamed) = one_part ts (λ h. fired _ (free c t (codes "super") is unnamed) (off_at (ones c t) 1 h))
stops_parts {c = c} (Unsupported.import_ {t = t} {ts = ts} is unnamed) = one_part ts (λ h. fired _ (free c t (codes "import") is unnamed) (off_at (ones c t) 2 h))
stops_parts {c = c} (Unsupported.export {t = t} {ts = ts} is unnamed) = one_part ts (λ h. fired _ (free c t (codes "export") is unnamed) (off_at (ones c t) 3 h))
stops_parts {c = c} (Unsupported.spread {t = t} {ts = ts} is) = one_part ts (λ h. fired _ is (off_at (ones c t) 4 h))
stops_parts {c = c} (Unsupported.optional_chain {t = t} {ts = ts} is) = one_part ts (λ h. fired _ is (off_at (ones c t) 5 h))
stops_parts {c = c} (Unsupported.logical_assignment {t = t} {ts = ts} is) = one_part ts (λ h. fired _ is (off_at (ones c t) 6 h))
stops_parts {c = c} (Unsupported.generator_method {t = t} {ts = ts} is at) = one_part ts (λ h. fired _ (both_true is at) (off_at (ones c t) 7 h))
stops_parts {c = c} (Unsupported.bigint {t = t} {ts = ts} is) = one_part ts (λ h. fired _ is (off_at (ones c t) 8 h))
stops_parts {c = c} (Unsupported.elision {t = t} {ts = ts} is at) = one_part ts (λ h. fired _ (both_true is at) (off_at (ones c t) 9 h))
stops_parts {c = c} (Unsupported.tagged_template {t = t} {ts = ts} is at) = one_part ts (λ h. fired _ (both_true is at) (off_at (ones c t) 10 h))
stops_parts {c = c} (Unsupported.binding {t = t} {ts = ts} is at) = one_part ts (λ h. fired _ (both_true is at) (off_at (ones c t) 11 h))
stops_parts {c = c} (Unsupported.new_target {t = t} {dot = dot} {ts = ts} is unnamed is_dot) = two_parts ts (λ h. fired _ (both_true (free c t (codes "new") is unnamed) is_dot) (off_at (twos c t dot) 0 h))
stops_parts {c = c} (Unsupported.async_function {t = t} {word = word} {ts = ts} is unnamed is_function line) = two_parts ts (λ h. fired _ (both_true (free c t (codes "async") is unnamed) (both_true is_function (ap not line))) (off_at (twos c t word) 1 h))
stops_parts {c = c} (Unsupported.async_method {t = t} {key = key} {ts = ts} is at key_is line) = two_parts ts (λ h. fired _ (both_true is (both_true at (both_true key_is (ap not line)))) (off_at (twos c t key) 2 h))
stops_parts {c = c} (Unsupported.generator {t = t} {star = star} {ts = ts} is unnamed is_star) = two_parts ts (λ h. fired _ (both_true (free c t (codes "function") is unnamed) is_star) (off_at (twos c t star) 3 h))
stops_parts {c = c} (Unsupported.accessor {t = t} {key = key} {ts = ts} is at key_is) = two_parts ts (λ h. fired _ (both_true is (both_true at key_is)) (off_at (twos c t key) 4 h))
stops_parts {c = c} (Unsupported.shorthand {t = t} {sign = sign} {ts = ts} name at is) = two_parts ts (λ h. fired _ (both_true name (both_true at is)) (off_at (twos c t sign) 5 h))
stops_parts {c = c} (Unsupported.async_name {t = t} {ts = ts} name arrow is unnamed named_ line is_arrow) =
    record { before = t ∷ name ∷ []; last = arrow; after = ts; are = refl; whole = of_three (λ h. fired _ (both_true (free c t (codes "async") is unnamed) (both_true named_ (both_true (ap not line) is_arrow))) h) }
stops_parts (Unsupported.async_arguments f fs opening closing_ arrow ts begins takes is is_opening line dxs is_closing is_arrow) = call_parts f fs opening closing_ arrow ts begins takes is is_opening line dxs is_closing is_arrow
stops_parts (Unsupported.async_refused opening closing_ arrow ts refused is unnamed is_opening line dxs is_closing is_arrow) = refused_parts opening closing_ arrow ts refused is unnamed is_opening line dxs is_closing is_arrow
stops_parts (Unsupported.target_after {i = i} {e = e} {t = t} f fs next ts begins fit de is at go) = group_parts f fs next ts begins fit de (target_group e is) (λ h. fired _ (both_true is (both_true fit (both_true at (ap not go)))) (off_at (left_sides i e t.loc f next) 2 h))

pub parts : {u : Unsupported} {c : Config} {us : List Token} → Begins u c us → Parts c us
parts (Unsupported.at_once s) = stops_parts s
parts (Unsupported.proto {t = t} {colon = colon} {ts = ts} is is_colon) = record { before = t ∷ []; last = colon; after = ts; are = refl; whole = of_proto (λ h. fired _ (both_true is is_colon) h) }
parts (Unsupported.target_before {i = i} {e = e} {t = t} f fs sign ts begins fit de is assigned go) = group_parts f fs sign ts begins fit de (target_group e is) (λ h. fired _ (both_true is (both_true fit (both_true assigned go))) (off_at (left_sides i e t.loc f sign) 0 h))
parts (Unsupported.target_in_head {i = i} {e = e} {t = t} f fs word ts begins fit de is at each_) = group_parts f fs word ts begins fit de (target_group e is) (λ h. fired _ (both_true is (both_true fit (both_true at each_))) (off_at (left_sides i e t.loc f word) 1 h))
parts (Unsupported.literal {i = i} {e = e} {t = t} f fs sign ts begins fit de is assigned go) = group_parts f fs sign ts begins fit de (literal_group e is) (λ h. fired _ (both_true is (both_true fit (both_true assigned go))) (off_at (left_sides i e t.loc f sign) 3 h))
parts (Unsupported.literal_in_head {i = i} {e = e} {t = t} f fs word ts begins fit de is at each_) = group_parts f fs word ts begins fit de (literal_group e is) (λ h. fired _ (both_true is (both_true fit (both_true at each_))) (off_at (left_sides i e t.loc f word) 4 h))
parts (Unsupported.parameter f fs closing_ arrow ts begins takes dxs is is_closing is_arrow line) = parameter_parts f fs closing_ arrow ts begins takes dxs is is_closing (both_true is_arrow (ap not line))
parts {c = c} (Unsupported.this_outside {t = t} {ts = ts} is unnamed out) = record { before = []; last = t; after = ts; are = refl; whole = of_this (λ h. fired _ (both_true (free c t (codes "this") is unnamed) out) h) }
