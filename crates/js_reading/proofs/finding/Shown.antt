-- Where a token is read, a group before it is the first part of what goes on with it: what is found of it shows in the place after.
use Rattle.std.proofs.Common.{◌≡◌, ℕ, Bool, true, false, not, ◌&&◌, List, [], ◌∷◌, ◌++◌, Option, Some, None, codes, if◌then◌else◌, refl, sym, ap, subst, ◌∙◌}
use Rattle.std.specs.Prelude.{nat_le, ◌||◌}
use Rattle.std.proofs.lemmas.Bool.{true≢false, and_parts, cond-true, cond-false}
use Rattle.js_terms.specs.declared.place.Loc.{Loc}
use Rattle.js_tree.specs.Plain.{Expr, Exprs, no_expr, more_expr}
use Rattle.js_tree.specs.Plain as tree
use Rattle.js_reading.specs.Spans.{through}
use Rattle.js_text.specs.Token.{Token}
use Rattle.js_text.specs.declared.punctuator.Punctuator.TheVariants as P
use Rattle.js_reading.specs.Slots.{Wanted, WithoutIn, Slot, Expr_, By, Piece, AnExpr, TheExprs, TheStmts, APlace, Missing, Form}
use Rattle.js_reading.specs.Slots as slot
use Rattle.js_reading.specs.Productions.{primary, is_mark, is_word, strength, wants, join}
use Rattle.js_reading.specs.Makes.{build, is_target, last_level, arrow_of, params_of, concise, object_of, properties_of, length_of}
use Rattle.js_reading.specs.Sentences.{stands_for, grip, fits, bans, continues}
use Rattle.js_reading.specs.Turns.{place, Frame, InForm, Config, Due, leads, take, choose, pass, take_second, shift, wanted, banned, have, turn}
use Rattle.js_reading.specs.Unsupported.{Unsupported, assigns, is_each, is_head, is_update, is_parenthesized_target, is_literal_pattern}
use Rattle.js_reading.specs.Found.{Find, when, first_of, left_sides, left_side, on_its_line, group, first_part, shown_by, shown}
use Rattle.js_reading.proofs.finding.Groups.{is_group, target_group, literal_group}
use Rattle.js_reading.proofs.levels.Lasting.{last_missing, ends_missing}
use Rattle.js_reading.proofs.sentences.Rows.{either_of}
use Rattle.js_reading.proofs.sentences.Runs.{nowhere, by_bool}
use Rattle.js_reading.proofs.refusing.Targets.{heads_in, heads_of}

-- ---- what is built of a group is one

abbrev pub Grouped : Option Piece → Type 0
Grouped None = Unit {0}
Grouped (Some (AnExpr i e)) = is_group e ≡ true
Grouped (Some p) = ⊥

no_arrow : (l : Loc) (xs : Option tree.Params) → Grouped (arrow_of l xs None)
no_arrow l None = tt
no_arrow l (Some xs) = tt

no_body : (l : Loc) (xs : Option tree.Params) (ps : List Piece) → last_missing ps ≡ true → Grouped (arrow_of l xs (concise ps))
no_body l xs (AnExpr i e ∷ []) h = absurd (true≢false (sym h))
no_body l xs (APlace m ∷ TheStmts ss ∷ APlace n ∷ []) h = absurd (true≢false (sym h))
no_body l xs ps h = no_arrow l xs

paren_grouped : (l : Loc) (ps : List Piece) → last_missing ps ≡ true → Grouped (build slot.Parentheses l ps)
paren_grouped l (TheExprs false (more_expr e es) ∷ Missing ∷ []) h = refl
paren_grouped l (TheExprs b xs ∷ p ∷ ps) h = no_body l (params_of xs) (p ∷ ps) h
paren_grouped l ps h = tt

array_grouped : (l : Loc) (ps : List Piece) → Grouped (build slot.ArrayLiteral l ps)
array_grouped l (TheExprs x xs ∷ []) = refl
array_grouped l ps = tt

object_grouped : (l : Loc) (o : Option tree.Properties) → Grouped (object_of l o)
object_grouped l None = tt
object_grouped l (Some ps) = refl

group_level : (e : Expr) → is_group e ≡ true → (last_level e ≡ primary) × (is_target e ≡ false)
group_level (tree.Parenthesized l e) h = (refl, refl)
group_level (tree.ArrayLiteral l xs) h = (refl, refl)
group_level (tree.ObjectLiteral l ps) h = (refl, refl)
group_level e h = absurd (true≢false (sym h))

-- a token goes on with one group where it does with another
goes_alike : (v : Wanted) (e x : Expr) (t : Token) → is_group e ≡ true → is_group x ≡ true → continues v e t ≡ continues v x t
goes_alike v e x t h k = at_level e (group_level e h).0 ∙ sym (at_level x (group_level x k).0)
  where
    at_level : (y : Expr) → last_level y ≡ primary →
        continues v y t ≡ (not (bans v t) && ((nat_le 1 (stands_for t.kind) && nat_le (stands_for t.kind) primary) || (nat_le 1 (strength (join t)) && (nat_le (grip v) (strength (join t)) && nat_le (wants (join t)) primary))))
    at_level y q = ap (λ n. not (bans v t) && ((nat_le 1 (stands_for t.kind) && nat_le (stands_for t.kind) n) || (nat_le 1 (strength (join t)) && (nat_le (grip v) (strength (join t)) && nat_le (wants (join t)) n)))) q

-- ---- where it does not go on, nothing is found but in the head of a `for`

off_when : (b : Bool) (u : Unsupported) (l : Loc) → (b ≡ true → ⊥) → when b u l ≡ None
off_when false u l h = refl
off_when true u l h = absurd (h refl)

five_none : {a b c d e : Find} → a ≡ None → b ≡ None → c ≡ None → d ≡ None → e ≡ None → first_of (a ∷ b ∷ c ∷ d ∷ e ∷ []) ≡ None
five_none {a = a} {b = b} {c = c} {d = d} {e = e} ha hb hc hd he =
    ap (λ x. first_of (x ∷ b ∷ c ∷ d ∷ e ∷ [])) ha ∙ ap (λ x. first_of (x ∷ c ∷ d ∷ e ∷ [])) hb ∙ ap (λ x. first_of (x ∷ d ∷ e ∷ [])) hc ∙ ap (λ x. first_of (x ∷ e ∷ [])) hd ∙ ap (λ x. first_of (x ∷ [])) he

none_left : (i : ℕ) (e : Expr) (w : Loc) (f : Frame) (t : Token) → is_update f ≡ false → (is_head f && is_each t) ≡ false → (is_group e ≡ true → continues (wanted f) e t ≡ false) → first_of (left_sides i e w f t) ≡ None
none_left i e w f t up head go =
    five_none
    (off_when _ _ w (λ h. let a = and_parts (is_parenthesized_target e) _ h in let b = and_parts (fits (wanted f) i e) (assigns (join t) && continues (wanted f) e t) a.1 in true≢false (sym (and_parts (assigns (join t)) (continues (wanted f) e t) b.1).1 ∙ go (target_group e a.0))))
    (off_when _ _ w (λ h. let a = and_parts (is_parenthesized_target e) _ h in let b = and_parts (fits (wanted f) i e) (is_head f && is_each t) a.1 in true≢false (sym b.1 ∙ head)))
    (off_when _ _ w (λ h. let a = and_parts (is_parenthesized_target e) _ h in let b = and_parts (fits (wanted f) i e) (is_update f && not (continues (wanted f) e t)) a.1 in true≢false (sym (and_parts (is_update f) (not (continues (wanted f) e t)) b.1).0 ∙ up)))
    (off_when _ _ w (λ h. let a = and_parts (is_literal_pattern e) _ h in let b = and_parts (fits (wanted f) i e) (is_mark P.Assign t && continues (wanted f) e t) a.1 in true≢false (sym (and_parts (is_mark P.Assign t) (continues (wanted f) e t) b.1).1 ∙ go (literal_group e a.0))))
    (off_when _ _ w (λ h. let a = and_parts (is_literal_pattern e) _ h in let b = and_parts (fits (wanted f) i e) (is_head f && is_each t) a.1 in true≢false (sym b.1 ∙ head)))

-- ---- where it does

abbrev pub Shows : ℕ → Expr → Loc → Frame → Token → Config → Type 0
Shows i e w f t d = first_of (left_sides i e w f t) ≡ shown_by (Some (w, f)) (first_part d) t

shows : (i : ℕ) (e : Expr) (w : Loc) (f : Frame) (t : Token) (o : Config) (d : Config) → first_part o ≡ Some (i, e) → Some o ≡ Some d → Shows i e w f t d
shows i e w f t o d part h = let q : o ≡ d = cc in subst (Shows i e w f t) q (ap (λ x. shown_by (Some (w, f)) x t) (sym part))

second_shows : (i : ℕ) (e : Expr) (w m : Loc) (f : Frame) (fs : List Frame) (t : Token) (g : Form) (ss : List Slot) (d : Config) → take_second g i e m (f ∷ fs) t ss ≡ Some d → Shows i e w f t d
second_shows i e w m f fs t g (slot.Sign k ∷ ss) d h = shows i e w f t (Due g m ss (AnExpr i e ∷ []) t.loc (f ∷ fs)) d refl h
second_shows i e w m f fs t g ss d h = absurd cc

shift_shows : (i : ℕ) (e : Expr) (w m : Loc) (f : Frame) (fs : List Frame) (t : Token) (o : Option Form) (d : Config) → shift o i e m (f ∷ fs) t ≡ Some d → Shows i e w f t d
shift_shows i e w m f fs t None d h = absurd cc
shift_shows i e w m f fs t (Some g) d h = by_bool (nat_le (wants (Some g)) i && fits (place (f ∷ fs)) i e) _ _ d (λ c q. second_shows i e w m f fs t g _ d q) (λ c q. nowhere q) h

head_shows : (i : ℕ) (e : Expr) (w m : Loc) (f : Frame) (fs : List Frame) (t : Token) (d : Config) → is_head f ≡ true → is_each t ≡ true → continues (wanted f) e t ≡ false → have (f ∷ fs) (Some (AnExpr i e)) m t ≡ Some d → Shows i e w f t d
head_shows i e w m (InForm slot.For v (Expr_ (WithoutIn n)) (By slot.AfterTarget ∷ []) []) fs t d is each_ go h = by_fit (fits (WithoutIn n) i e) refl
  where
    by_fit : (b : Bool) → fits (WithoutIn n) i e ≡ b → Shows i e w (InForm slot.For v (Expr_ (WithoutIn n)) (By slot.AfterTarget ∷ []) []) t d
    by_fit true fit =
        either_of (is_word (codes "in") t) (is_word (codes "of") t) each_ (λ q. shows i e w (InForm slot.For v (Expr_ (WithoutIn n)) (By slot.AfterTarget ∷ []) []) t _ d refl (sym (heads_in i e n v m fs t fit q) ∙ h))
        (λ q. shows i e w (InForm slot.For v (Expr_ (WithoutIn n)) (By slot.AfterTarget ∷ []) []) t _ d refl (sym (heads_of i e n v m fs t fit q) ∙ h))
    by_fit false loose = nowhere (sym (cond-false (continues (WithoutIn n) e t) _ _ go ∙ cond-false (fits (WithoutIn n) i e) _ _ loose) ∙ h)
head_shows i e w m f fs t d is each_ go h = absurd (true≢false (sym is))

no_have : (fs : List Frame) (m : Loc) (t : Token) → have fs None m t ≡ None
no_have [] m t = refl
no_have (f ∷ fs) m t = refl

update_off : (i : ℕ) (e : Expr) (m : Loc) (f : Frame) (fs : List Frame) (t : Token) (d : Config) → is_target e ≡ false → continues (wanted f) e t ≡ false → have (f ∷ fs) (Some (AnExpr i e)) m t ≡ Some d → is_update f ≡ false
update_off i e m (InForm (slot.PrefixUpdate o) w (Expr_ n) [] []) fs t d none go h = by_fit (fits n i e) refl
  where
    by_fit : (b : Bool) → fits n i e ≡ b → true ≡ false
    by_fit false loose = nowhere (sym (cond-false (continues n e t) _ _ go ∙ cond-false (fits n i e) _ _ loose) ∙ h)
    by_fit true fit =
        nowhere
        (sym (cond-false (continues n e t) _ _ go ∙ cond-true (fits n i e) _ _ fit ∙ ap (λ x. have fs x (through w m) t) (cond-false (is_target e) _ _ none) ∙ no_have fs (through w m) t) ∙ h)
update_off i e m f fs t d none go h = refl

have_shows : (i : ℕ) (e : Expr) (w m : Loc) (f : Frame) (fs : List Frame) (t : Token) (d : Config) → is_group e ≡ true → have (f ∷ fs) (Some (AnExpr i e)) m t ≡ Some d → Shows i e w f t d
have_shows i e w m f fs t d gr h = by_bool (continues (wanted f) e t) _ _ d (λ c q. by_bool (banned t (f ∷ fs)) _ _ d (λ k g. nowhere g) (λ k g. shift_shows i e w m f fs t (join t) d g) q) (λ c q. stays c (is_head f && is_each t) refl) h
  where
    stays : continues (wanted f) e t ≡ false → (b : Bool) → (is_head f && is_each t) ≡ b → Shows i e w f t d
    stays c true is = let a = and_parts (is_head f) (is_each t) is in head_shows i e w m f fs t d a.0 a.1 c h
    stays c false bare =
        let up = update_off i e m f fs t d (group_level e gr).1 c h in
        none_left i e w f t up bare (λ k. c) ∙ sym (none_shown (first_part d) up)
      where
        none_shown : (o : Option (ℕ × Expr)) → is_update f ≡ false → shown_by (Some (w, f)) o t ≡ None
        none_shown None up = refl
        none_shown (Some p) up = none_left p.0 p.1 w f t up bare (λ k. goes_alike (wanted f) p.1 e t k gr ∙ c)

-- ---- a turn

made_shows : (w m : Loc) (f : Frame) (fs : List Frame) (t : Token) (d : Config) (o : Option Piece) → Grouped o → have (f ∷ fs) o m t ≡ Some d → left_side o w (f ∷ fs) t ≡ shown_by (Some (w, f)) (first_part d) t
made_shows w m f fs t d None gr h = absurd cc
made_shows w m f fs t d (Some (AnExpr i e)) gr h = have_shows i e w m f fs t d gr h
made_shows w m f fs t d (Some p) gr h = absurd gr

pub group_shown : (c d : Config) (t : Token) → turn c t ≡ Some d → group c t ≡ shown c d t
group_shown (Due slot.Parentheses w (By slot.Arrow ∷ []) ps l (f ∷ fs)) d t h = by_line (on_its_line t) refl
  where
    by_line : (b : Bool) → on_its_line t ≡ b → (if b then None else left_side (build slot.Parentheses (through w l) (ps ++ Missing ∷ [])) w (f ∷ fs) t) ≡ shown_by (if b then None else Some (w, f)) (first_part d) t
    by_line true e = refl
    by_line false e =
        made_shows w (through w l) f fs t d (build slot.Parentheses (through w l) (ps ++ Missing ∷ [])) (paren_grouped (through w l) (ps ++ Missing ∷ []) (ends_missing ps))
        (sym (ap (λ x. choose x (λ qs. pass slot.Parentheses w [] (ps ++ qs) l (f ∷ fs) t (λ p m. have (f ∷ fs) p m t)) (λ qs s rs. if leads (place (f ∷ fs)) slot.Arrow then take slot.Parentheses w s (rs ++ []) (ps ++ qs) (f ∷ fs) t else None)) (cond-false (on_its_line t) _ _ e)) ∙ h)
group_shown (Due slot.ArrayLiteral w [] ps l (f ∷ fs)) d t h = made_shows w (through w l) f fs t d (build slot.ArrayLiteral (through w l) ps) (array_grouped (through w l) ps) h
group_shown (Due slot.ObjectLiteral w [] ps l (f ∷ fs)) d t h = made_shows w (through w l) f fs t d (build slot.ObjectLiteral (through w l) ps) (object_grouped (through w l) (properties_of (length_of ps) ps)) h
group_shown (Due slot.ArrayLiteral w [] ps l []) d t h = absurd cc
group_shown (Due slot.ObjectLiteral w [] ps l []) d t h = absurd cc
group_shown (Due slot.Parentheses w (By slot.Arrow ∷ []) ps l []) d t h = by_line (on_its_line t) refl
  where
    by_line : (b : Bool) → on_its_line t ≡ b → (if b then None else left_side (build slot.Parentheses (through w l) (ps ++ Missing ∷ [])) w [] t) ≡ None
    by_line true e = refl
    by_line false e =
        nowhere
        (sym (ap (λ x. choose x (λ qs. pass slot.Parentheses w [] (ps ++ qs) l [] t (λ p m. have [] p m t)) (λ qs s rs. if leads (place []) slot.Arrow then take slot.Parentheses w s (rs ++ []) (ps ++ qs) [] t else None)) (cond-false (on_its_line t) _ _ e)) ∙ h)
group_shown c d t h = refl
