-- A token where slots are next, and one after an expression: what has been read goes on to stand for a place.
use Rattle.std.proofs.Common.{◌≡◌, ℕ, ◌≤◌, Bool, true, false, not, ◌&&◌, List, [], ◌∷◌, ◌++◌, Option, Some, None, refl, sym, ap, subst, arith, ◌∙◌, append_assoc, append-nil}
use Rattle.std.specs.Prelude.{nat_le}
use Rattle.std.proofs.lemmas.Bool.{true≢false, le-leb, leb-true, and_parts}
use Rattle.js_terms.specs.declared.place.Loc.{Loc}
use Rattle.js_tree.specs.Plain.{Expr, Stmt, no_stmt}
use Rattle.js_text.specs.Token.{Token}
use Rattle.js_reading.specs.Spans.{through}
use Rattle.js_reading.specs.Slots.{Level, Slot, Sign, Expr_, Stmts_, Place_, By, Piece, AnExpr, AStmt, TheStmts, APlace, Form}
use Rattle.js_reading.specs.Slots as slot
use Rattle.js_reading.specs.Productions.{call, slots, join, joins, wants, form_level, first_level, after_first, begins_with}
use Rattle.js_reading.specs.Choices.{branch}
use Rattle.js_reading.specs.Makes.{build}
use Rattle.js_reading.specs.Sentences
use Rattle.js_reading.specs.Sentences.{grip, bans, fits, closes, Spells, SpellsSlots, SpellsStmts}
use Rattle.js_reading.specs.Turns.{place, leads, Frame, Config, Due, take_second, pass, shift, have}
use Rattle.js_reading.specs.Open.{past, in_joined}
use Rattle.js_reading.proofs.sentences.Runs.{nowhere, by_bool, by_branch}
use Rattle.js_reading.proofs.levels.Makings.{is_first}
use Rattle.js_reading.proofs.sentences.KindsLemmas.{kind_is}
use Rattle.js_reading.proofs.sentences.Shapes.{find_all, join_found}
use Rattle.js_reading.proofs.levels.OnlyStatements.{NoExpr, no_expr_made}
use Rattle.js_reading.proofs.sentences.Standing.{When, Any, Only, Sort, AsExpr, AsStmt, IsOf, Tail, of_height, still, after_place, after_stmts, after_passed, after_chosen, spelled}
use Rattle.js_reading.proofs.sentences.Places.{Kindly, Frames, in_stmts, in_expression, in_expr, in_items, opened, Reads, due, begin_sound, take_sound, Led, Stood, Came, came_at, bracketed, is_called}

abbrev pub Sorted : Sort → Option Piece → Type 0
Sorted AsStmt o = NoExpr o
Sorted AsExpr o = Unit {0}

sorted : (k : Sort) (f : Form) (l : Loc) (ps : List Piece) → Kindly k f → Sorted k (build f l ps)
sorted AsExpr f l ps kd = tt
sorted AsStmt f l ps kd = no_expr_made f l ps kd

-- what comes of a production that is there leads to a place that stands for the tokens
abbrev pub Ends : Sort → (Option Piece → Loc → Option Config) → Config → List Token → List Token → Token → Type 0
Ends k go d u vs t = (o : Option Piece) (m : Loc) → Sorted k o → ((p : Piece) → o ≡ Some p → IsOf k p → Spells p m vs t) → go o m ≡ Some d → Reads d ((u ++ vs) ++ t ∷ [])

pub pass_sound : {k : Sort} (f : Form) (w : Loc) (ss : List Slot) (ps : List Piece) (l : Loc) (fs : List Frame) (u us : List Token) (b t : Token) (d : Config) (go : Option Piece → Loc → Option Config) → Frames k fs u (Only b) → Stood k f w fs u b → Came d (u ++ b ∷ us) t → Kindly k f →
    Tail k fs (Only t) f w ss ps l (b ∷ us) → Ends k go d u (b ∷ us) t → pass f w ss ps l fs t go ≡ Some d → Reads d ((u ++ b ∷ us) ++ t ∷ [])
pass_sound {k = k} f w [] ps l fs u us b t d go fr st came kd tail ends h = ends (build f (through w l) ps) (through w l) (sorted k f (through w l) ps kd) (λ p e is. spelled tail is e t refl) h
pass_sound f w (Place_ ∷ ss) ps l fs u us b t d go fr st came kd tail ends h = pass_sound f w ss (ps ++ APlace l ∷ []) l fs u us b t d go fr st came kd (after_place tail) ends h
pass_sound f w (Stmts_ ∷ ss) ps l fs u us b t d go fr st came kd tail ends h =
    by_bool (closes t) _ _ d
    (λ e g. pass_sound f w ss (ps ++ TheStmts no_stmt ∷ []) l fs u us b t d go fr st came kd (still (after_stmts {vs = []} t Sentences.no_statement e refl tail)) ends g)
    (λ e g. subst (λ x. Reads d (x ++ t ∷ [])) (append-nil (u ++ b ∷ us)) (begin_sound t (in_stmts [] t (opened b fr st kd tail) (λ n q. Sentences.no_statement {l = l}) (λ n q. q)) (came_at t (sym (append-nil (u ++ b ∷ us))) came) g)) h
pass_sound f w (By c ∷ ss) ps l fs u us b t d go fr st came kd tail ends h =
    by_branch (branch c t) _ _ d
    (λ qs e g. pass_sound f w ss (ps ++ qs) l fs u us b t d go fr st came kd (after_passed t e tail) ends g)
    (λ qs s rs e g. by_bool (leads (place fs) c) _ _ d (λ may q. take_sound s t (opened b fr st kd (after_chosen t e may tail)) came q) (λ no q. nowhere q) g) h
pass_sound f w (s ∷ ss) ps l fs u us b t d go fr st came kd tail ends h = take_sound s t (opened b fr st kd tail) came h

-- ---- an expression that goes on with a token

off : (x : Bool) → not x ≡ true → x ≡ false
off false q = refl
off true q = absurd (true≢false (sym q))

unbracketed : (t : Token) (g : Form) → join t ≡ Some g → bracketed g ≡ false
unbracketed t g h = off (bracketed g) (find_all (λ f. not (bracketed f)) after_first joins t g refl (join_found t g h)).0

not_first : (t : Token) (g : Form) → join t ≡ Some g → is_first g ≡ false
not_first t g h = off (is_first g) (find_all (λ f. not (is_first f)) after_first joins t g refl (join_found t g h)).0

called_level : (g : Form) → is_called g ≡ true → form_level g ≡ call
called_level slot.Call h = refl
called_level g h = absurd (true≢false (sym h))

abbrev pub is_leveled : List Slot → Bool
is_leveled (Expr_ (Level n) ∷ Sign k ∷ ss) = true
is_leveled ss = false

pub shift_sound : {fs : List Frame} {u ts : List Token} {i : ℕ} {e : Expr} {l : Loc} {d : Config} (b t : Token) → Frames AsExpr fs u (Only b) → Led AsExpr fs u b → Spells (AnExpr i e) l (b ∷ ts) t → bans (place fs) t ≡ false → ((g : Form) → join t ≡ Some g → grip (place fs) ≤ form_level g) → shift (join t) i e l fs t ≡ Some d → Reads d ((u ++ b ∷ ts) ++ t ∷ [])
shift_sound {fs = fs} {u = u} {ts = ts} {i = i} {e = e} {l = l} {d = d} b t fr led de free tight h = by_form (join t) refl h
  where
    by_slots : (g : Form) (ss : List Slot) → join t ≡ Some g → slots g ≡ ss → is_leveled ss ≡ true → begins_with (after_first ss) t ≡ true → first_level ss ≤ i → fits (place fs) i e ≡ true → take_second g i e l fs t (after_first ss) ≡ Some d → Reads d ((u ++ b ∷ ts) ++ t ∷ [])
    by_slots g (Expr_ (Level n) ∷ Sign j ∷ ss) is are leveled told low fit q =
        let r : Due g l ss (AnExpr i e ∷ []) t.loc fs ≡ d = cc in
        let tail : Tail AsExpr fs Any g l ss (AnExpr i e ∷ []) t.loc (b ∷ (ts ++ t ∷ [])) = record {
          spells = λ {qs} {m} {ts = vs} {next} {p} sort _ dd made. made_expr p sort m vs next made (Sentences.sign t (kind_is j t.kind told) dd);
          begins = λ {n = h} {ts = vs} next _ dd.
              of_height AsExpr fs (in_joined g t vs is are free (tight g is) low fit de (past next refl (Sentences.sign {l = l} t (kind_is j t.kind told) Sentences.done) dd)) (omega arith) (ap (λ z. b ∷ z) (sym (append_assoc ts (t ∷ []) vs)));
          parts = λ k _ dd. absurd (true≢false (sym k ∙ not_first t g is));
        } in
        subst (λ y. Reads y ((u ++ b ∷ ts) ++ t ∷ [])) r (subst (λ y. Reads (Due g l ss (AnExpr i e ∷ []) t.loc fs) y) (sym (append_assoc u (b ∷ ts) (t ∷ []))) (due (opened b fr (led, λ k. absurd (true≢false (sym k ∙ unbracketed t g is)), λ k. le-leb _ _ (subst (λ n. grip (place fs) ≤ n) (called_level g k) (tight g is))) tt tail)))
      where
        made_expr : {qs : List Piece} (p : Piece) → IsOf AsExpr p → (m : Loc) (vs : List Token) (next : Token) → build g (through l m) (AnExpr i e ∷ qs) ≡ Some p → SpellsSlots (Sign j ∷ ss) qs l m (t ∷ vs) next → Spells p (through l m) ((b ∷ (ts ++ t ∷ [])) ++ vs) next
        made_expr (AnExpr x y) sort m vs next made dd =
            subst (λ z. Spells (AnExpr x y) (through l m) (b ∷ z) next) (sym (append_assoc ts (t ∷ []) vs)) (Sentences.joined g t is are low de dd made)
        made_expr p sort m vs next made dd = absurd sort
    by_slots g ss is are leveled told low fit q = absurd (true≢false (sym leveled))

    by_form : (o : Option Form) → join t ≡ o → shift o i e l fs t ≡ Some d → Reads d ((u ++ b ∷ ts) ++ t ∷ [])
    by_form None is q = absurd cc
    by_form (Some g) is q =
        let leveled = find_all (λ f. is_leveled (slots f)) after_first joins t g refl (join_found t g is) in
        by_bool (nat_le (wants (Some g)) i && fits (place fs) i e) _ _ d (λ both r. let c = and_parts (nat_le (wants (Some g)) i) (fits (place fs) i e) both in by_slots g (slots g) is refl leveled.0 leveled.1 (leb-true _ _ c.0) c.1 r) (λ low r. absurd cc) q

no_left : {fs : List Frame} {u : List Token} {c : When} → Frames AsExpr fs u c → (s : Stmt) (m : Loc) (t : Token) → have fs (Some (AStmt s)) m t ≡ None
no_left (in_expression b fr none) s m t = refl
no_left (in_expr o) s m t = refl
no_left (in_items ts b o items opens firsts) s m t = refl

-- a production that is there, in frames of its sort
pub have_option : {k : Sort} {A : Type 0} (fs : List Frame) (u : List Token) (b : Token) (o : Option Piece) (m : Loc) (t : Token) (d : Config) → Frames k fs u (Only b) → Sorted k o → ((p : Piece) → o ≡ Some p → IsOf k p → have fs (Some p) m t ≡ Some d → A) →
    have fs o m t ≡ Some d → A
have_option {k = AsExpr} fs u b (Some (AnExpr i e)) m t d fr so go h = go (AnExpr i e) refl tt h
have_option {k = AsStmt} fs u b (Some (AnExpr i e)) m t d fr so go h = absurd so
have_option {k = AsStmt} fs u b (Some (AStmt s)) m t d fr so go h = go (AStmt s) refl tt h
have_option {k = AsExpr} fs u b (Some (AStmt s)) m t d fr so go h = let e : None ≡ Some d = sym (no_left fr s m t) ∙ h in absurd cc
have_option (f ∷ fs) u b o m t d fr so go h = absurd cc
have_option [] u b o m t d fr so go h = absurd cc
