-- Where nothing is found at any turn, no form is begun that ends there; and at a token that is refused, none that goes beyond it but those
-- that are found ahead.
use Rattle.std.proofs.Common.{◌≡◌, ℕ, Bool, true, false, ◌&&◌, List, [], ◌∷◌, ◌++◌, Option, Some, None, if◌then◌else◌, refl, sym, ap, subst, ◌∙◌, append_assoc, append-nil}
use Rattle.std.specs.Prelude.{◌==◌, ◌||◌}
use Rattle.std.proofs.lemmas.Bool.{true≢false, eq-eqb}
use Rattle.js_terms.specs.declared.place.Loc.{Loc}
use Rattle.js_text.specs.Token.{Token}
use Rattle.js_reading.specs.Turns.{Config, Start, turn, then_run, run}
use Rattle.js_reading.specs.Found.{one, two, proto_key, proto_back, three, group, parameter, outside, opens_call, starts, asyncs, called, Turns, two_back, three_back, finds, found, three_over, aheads, ahead, further, Searched, not_begun, searched, Clean}
use Rattle.js_reading.proofs.sentences.Runs.{run_append, stopped, nowhere}
use Rattle.js_reading.proofs.sentences.Shapes.{both_true}
use Rattle.js_reading.proofs.finding.Whole.{off_at, Whole, of_one, of_two, of_proto, of_three, of_group, of_parameter, of_this, of_call, of_further, parts}

-- ---- lists, from their end

data Snoc : List Token → Type 0 where
  nothing : Snoc []
  one_last : (ts : List Token) (t : Token) → Snoc (ts ++ t ∷ [])

snoc_more : (t : Token) {ts : List Token} → Snoc ts → Snoc (t ∷ ts)
snoc_more t nothing = one_last [] t
snoc_more t (one_last ts u) = one_last (t ∷ ts) u

snoc : (ts : List Token) → Snoc ts
snoc [] = nothing
snoc (t ∷ ts) = snoc_more t (snoc ts)

pub head_same : {t u : Token} {ts us : List Token} → t ∷ ts ≡ u ∷ us → t ≡ u
head_same h = cc

pub tail_same : {t u : Token} {ts us : List Token} → t ∷ ts ≡ u ∷ us → ts ≡ us
tail_same h = cc

no_cons : {A : Type 0} {t : Token} {ts : List Token} → [] ≡ t ∷ ts → A
no_cons h = absurd cc

no_snoc : {A : Type 0} (ts : List Token) (t : Token) → [] ≡ ts ++ t ∷ [] → A
no_snoc [] t h = absurd cc
no_snoc (u ∷ ts) t h = absurd cc

snoc_same : (ts us : List Token) (t u : Token) → ts ++ t ∷ [] ≡ us ++ u ∷ [] → (ts ≡ us) × (t ≡ u)
snoc_same [] [] t u h = (refl, head_same h)
snoc_same [] (x ∷ us) t u h = no_snoc us u (tail_same h)
snoc_same (x ∷ ts) [] t u h = no_snoc ts t (sym (tail_same h))
snoc_same (x ∷ ts) (y ∷ us) t u h = let r = snoc_same ts us t u (tail_same h) in (ap (λ z. z ∷ ts) (head_same h) ∙ ap (λ z. y ∷ z) r.0, r.1)

-- one of two lists is the start of the other, where they are with what follows
pub data Compared (xs us ys vs : List Token) : Type 0 where
  within : (zs : List Token) → xs ≡ ys ++ zs → Compared xs us ys vs
  beyond : (z : Token) (zs : List Token) → ys ≡ xs ++ z ∷ zs → us ≡ (z ∷ zs) ++ vs → Compared xs us ys vs

pub compared : (xs us ys vs : List Token) → xs ++ us ≡ ys ++ vs → Compared xs us ys vs
compared xs us [] vs h = within xs refl
compared [] us (y ∷ ys) vs h = beyond y ys refl h
compared (x ∷ xs) us (y ∷ ys) vs h = more (compared xs us ys vs (tail_same h))
  where
    more : Compared xs us ys vs → Compared (x ∷ xs) us (y ∷ ys) vs
    more (within zs e) = within zs (ap (λ z. x ∷ z) e ∙ ap (λ z. z ∷ (ys ++ zs)) (head_same h))
    more (beyond z zs e q) = beyond z zs (ap (λ z. y ∷ z) e ∙ ap (λ a. a ∷ (xs ++ z ∷ zs)) (sym (head_same h))) q

-- ---- what the turns tell

pub same_place : {c d : Config} {o : Option Config} → o ≡ Some c → o ≡ Some d → c ≡ d
same_place h k = by_some (sym h ∙ k)
  where
    by_some : {c d : Config} → Some c ≡ Some d → c ≡ d
    by_some q = cc

pub after_run : (ts : List Token) {c : Config} (us : List Token) → run Start ts ≡ Some c → run Start (ts ++ us) ≡ run c us
after_run ts us h = run_append Start ts us ∙ ap (λ o. then_run o (λ d. run d us)) h

pub searched_run : {ts : List Token} {turns : Turns} {c : Config} → Searched ts turns c → run Start ts ≡ Some c
searched_run not_begun = refl
searched_run (searched {ts = ts} t s none h) = after_run ts (t ∷ []) (searched_run s) ∙ ap (λ o. then_run o (λ d. Some d)) h

pub record Last (vs : List Token) (t : Token) (turns : Turns) : Type 0 where
  pub place : Config
  pub before : Turns
  pub are : turns ≡ (place, t) ∷ before
  pub read : Searched vs before place

pub last_turn : {ts : List Token} {turns : Turns} {c : Config} (vs : List Token) (t : Token) → Searched ts turns c → ts ≡ vs ++ t ∷ [] → Last vs t turns
last_turn vs t not_begun h = no_snoc vs t h
last_turn vs t (searched {ts = ts} {turns = turns} {c = c} u s none go) h =
    let r = snoc_same ts vs u t h in record { place = c; before = turns; are = ap (λ x. (c, x) ∷ turns) r.1; read = subst (λ x. Searched x turns c) r.0 s }

-- the `async` words are among those that are kept
or_true : (x y : Bool) → x ≡ true → (x || y) ≡ true
or_true x y h = ap (λ b. b || y) h

or_second : (x y : Bool) → y ≡ true → (x || y) ≡ true
or_second true y h = refl
or_second false y h = h

kept_more : (l : Loc) (x : Config × Token) (turns : Turns) → starts l (asyncs turns) ≡ true → starts l (asyncs (x ∷ turns)) ≡ true
kept_more l x [] h = absurd (true≢false (sym h))
kept_more l x (y ∷ turns) h = by_test (opens_call y.1 x.1)
  where
    by_test : (b : Bool) → starts l (if b then y.1.loc ∷ asyncs (y ∷ turns) else asyncs (y ∷ turns)) ≡ true
    by_test true = or_second _ _ h
    by_test false = h

kept_now : (c d : Config) (t opening : Token) (turns : Turns) → opens_call t opening ≡ true → starts t.loc (asyncs ((d, opening) ∷ (c, t) ∷ turns)) ≡ true
kept_now c d t opening turns h = subst (λ b. starts t.loc (if b then t.loc ∷ asyncs ((c, t) ∷ turns) else asyncs ((c, t) ∷ turns)) ≡ true) (sym h) (or_true _ _ (both_same t.loc.start.line t.loc.start.column))
  where
    both_same : (m n : ℕ) → (m == m && n == n) ≡ true
    both_same m n = both_true (eq-eqb m m refl) (eq-eqb n n refl)

kept : {ts : List Token} {turns : Turns} {c : Config} (vs us : List Token) (t opening : Token) → Searched ts turns c → ts ≡ vs ++ t ∷ opening ∷ us → opens_call t opening ≡ true → starts t.loc (asyncs turns) ≡ true
kept vs us t opening not_begun h is = absurd (no_middle vs h)
  where
    no_middle : (vs : List Token) → [] ≡ vs ++ t ∷ opening ∷ us → ⊥
    no_middle [] q = absurd cc
    no_middle (v ∷ vs) q = absurd cc
kept vs us t opening (searched {ts = ts} {turns = turns} {c = c} x s none go) h is = by_end (λ ws q. kept vs ws t opening s q is) (snoc us) h
  where
    by_end : ((ws : List Token) → ts ≡ vs ++ t ∷ opening ∷ ws → starts t.loc (asyncs turns) ≡ true) → {us : List Token} → Snoc us → ts ++ x ∷ [] ≡ vs ++ t ∷ opening ∷ us → starts t.loc (asyncs ((c, x) ∷ turns)) ≡ true
    by_end before nothing q =
        let r = snoc_same ts (vs ++ t ∷ []) x opening (q ∙ sym (append_assoc vs (t ∷ []) (opening ∷ []))) in
        let l = last_turn vs t s r.0 in
        subst (λ y. starts t.loc (asyncs ((c, y) ∷ turns)) ≡ true) (sym r.1) (subst (λ y. starts t.loc (asyncs ((c, opening) ∷ y)) ≡ true) (sym l.are) (kept_now l.place c t opening l.before is))
    by_end before (one_last ws y) q =
        let r = snoc_same ts (vs ++ t ∷ opening ∷ ws) x y (q ∙ sym (append_assoc vs (t ∷ opening ∷ ws) (y ∷ []))) in
        kept_more t.loc (c, x) turns (before ws r.0)

-- no run goes past a token that is refused
unread : {d : Config} (vs : List Token) (u : Token) (us : List Token) → run Start vs ≡ Some d → turn d u ≡ None → run Start (vs ++ u ∷ us) ≡ None
unread vs u us ran refused = after_run vs (u ∷ us) ran ∙ ap (λ o. then_run o (λ d. run d us)) refused

-- ---- a form that ends at a token is found there

missed : {ts : List Token} {turns : Turns} {c d : Config} (vs us : List Token) (t : Token) → Searched ts turns c → ts ≡ vs ++ us → run Start vs ≡ Some d → Whole d us t → found turns c t ≡ None → ⊥
missed {turns = turns} {c = c} vs _ t s are ran (of_one told) h =
    let q = same_place (sym (ap (λ x. run Start x) (are ∙ append-nil vs)) ∙ searched_run s) ran in
    told (subst (λ x. one x t ≡ None) q (off_at (finds turns c t) 2 h))
missed {turns = turns} {c = c} vs _ t s are ran (of_two {t = u} told) h =
    let l = last_turn vs u s are in
    let q = same_place (searched_run l.read) ran in
    told (subst (λ x. two x u t ≡ None) q (subst (λ x. two_back x t ≡ None) l.are (off_at (finds turns c t) 0 h)))
missed {turns = turns} {c = c} vs _ t s are ran (of_proto {t = u} told) h =
    let l = last_turn vs u s are in
    let q = same_place (searched_run l.read) ran in
    told (subst (λ x. proto_key x u t ≡ None) q (subst (λ x. proto_back x t ≡ None) l.are (off_at (finds turns c t) 6 h)))
missed {turns = turns} {c = c} vs _ t s are ran (of_three {t = u} {name = v} told) h =
    let l = last_turn (vs ++ u ∷ []) v s (are ∙ sym (append_assoc vs (u ∷ []) (v ∷ []))) in
    let m = last_turn vs u l.read refl in
    let q = same_place (searched_run m.read) ran in
    told (subst (λ x. three x u v t ≡ None) q (subst (λ x. three_back ((l.place, v) ∷ x) t ≡ None) m.are (subst (λ x. three_back x t ≡ None) l.are (off_at (finds turns c t) 1 h))))
missed {turns = turns} {c = c} vs _ t s are ran (of_group {ts = us} r told) h =
    let q = same_place (sym (ap (λ x. run Start x) are) ∙ searched_run s) (after_run vs us ran ∙ r) in
    told (subst (λ x. group x t ≡ None) q (off_at (finds turns c t) 3 h))
missed {turns = turns} {c = c} vs _ t s are ran (of_parameter {ts = us} r told) h =
    let q = same_place (sym (ap (λ x. run Start x) are) ∙ searched_run s) (after_run vs us ran ∙ r) in
    told (subst (λ x. parameter x t ≡ None) q (off_at (finds turns c t) 7 h))
missed {turns = turns} {c = c} vs _ t s are ran (of_this told) h =
    let q = same_place (sym (ap (λ x. run Start x) (are ∙ append-nil vs)) ∙ searched_run s) ran in
    told (subst (λ x. outside x t ≡ None) q (off_at (finds turns c t) 4 h))
missed {turns = turns} {c = c} vs _ t s are ran (of_call {t = u} {opening = v} {ts = us} r is told) h =
    let q = same_place (sym (ap (λ x. run Start x) are) ∙ searched_run s) (after_run vs (u ∷ v ∷ us) ran ∙ r) in
    told turns (kept vs us u v s are is) (subst (λ x. called turns x t ≡ None) q (off_at (finds turns c t) 5 h))
missed {c = c} vs _ t s are ran (of_further {t = u} {us = us} refused told) h = nowhere (sym (unread vs u us ran refused) ∙ (sym (ap (λ x. run Start x) are) ∙ searched_run s))

-- no form up to its last token is among these
abbrev pub NoWhole : List Token → Type 0
NoWhole ts = (vs us ws : List Token) (t : Token) (c : Config) → ts ≡ vs ++ (us ++ t ∷ ws) → run Start vs ≡ Some c → Whole c us t → ⊥

-- the same with one token more, where nothing is found
no_more : {ts : List Token} {turns : Turns} {c : Config} (t : Token) → Searched ts turns c → NoWhole ts → found turns c t ≡ None → NoWhole (ts ++ t ∷ [])
no_more {ts = ts} {turns = turns} {c = c} t s none h vs us ws x d are ran w = by_end (snoc ws) are
  where
    by_end : {ws : List Token} → Snoc ws → ts ++ t ∷ [] ≡ vs ++ (us ++ x ∷ ws) → ⊥
    by_end nothing q =
        let r = snoc_same ts (vs ++ us) t x (q ∙ sym (append_assoc vs us (x ∷ []))) in
        missed vs us x s r.0 ran w (subst (λ y. found turns c y ≡ None) r.1 h)
    by_end (one_last zs y) q =
        let r = snoc_same ts (vs ++ (us ++ x ∷ zs)) t y (q ∙ ap (λ z. vs ++ z) (sym (append_assoc us (x ∷ zs) (y ∷ []))) ∙ sym (append_assoc vs (us ++ x ∷ zs) (y ∷ []))) in
        none vs us zs x d r.0 ran w

none_in : {ts : List Token} {turns : Turns} {c : Config} → Searched ts turns c → NoWhole ts
none_in not_begun = λ vs us ws t c are ran w. nothing_there vs us ws t are
  where
    nothing_there : (vs us ws : List Token) (t : Token) → [] ≡ vs ++ (us ++ t ∷ ws) → ⊥
    nothing_there [] [] ws t q = absurd cc
    nothing_there [] (u ∷ us) ws t q = absurd cc
    nothing_there (v ∷ vs) us ws t q = absurd cc
none_in (searched t s none h) = no_more t s (none_in s) none

clean_of : (ts : List Token) → NoWhole ts → Clean ts
clean_of ts none u vs us c are ran b = let p = parts b.0 in none vs p.before p.after p.last c (are ∙ ap (λ x. vs ++ x) p.are) ran p.whole

-- nothing was found: nothing that ends there is begun
pub clean : {ts : List Token} {turns : Turns} {c : Config} → Searched ts turns c → Clean ts
clean {ts = ts} s = clean_of ts (none_in s)

-- nor with one token more, read or refused
pub clean_more : {ts : List Token} {turns : Turns} {c : Config} (t : Token) → Searched ts turns c → found turns c t ≡ None → Clean (ts ++ t ∷ [])
clean_more {ts = ts} t s h = clean_of (ts ++ t ∷ []) (no_more t s (none_in s) h)

-- ---- where a token is refused

no_two : (mid ws : List Token) (r : Token) → [] ≡ (mid ++ r ∷ []) ++ ws → ⊥
no_two [] ws r q = absurd cc
no_two (m ∷ mid) ws r q = absurd cc

-- no run goes past it
cut : {ts : List Token} {turns : Turns} {c : Config} (r : Token) (vs mid ws us : List Token) → Searched ts turns c → turn c r ≡ None → ts ≡ vs ++ mid → us ≡ (mid ++ r ∷ []) ++ ws → run Start (vs ++ us) ≡ None
cut {ts = ts} r vs mid ws us s refused are is =
    ap (λ x. run Start x) (ap (λ x. vs ++ x) (is ∙ append_assoc mid (r ∷ []) ws) ∙ sym (append_assoc vs mid (r ∷ ws)) ∙ ap (λ x. x ++ r ∷ ws) (sym are))
    ∙ after_run ts (r ∷ ws) (searched_run s) ∙ ap (λ o. then_run o (λ d. run d ws)) refused

-- a form that goes beyond it
passed : {ts : List Token} {turns : Turns} {c d : Config} (r : Token) (vs us mid ws after : List Token) (t : Token) → Searched ts turns c → turn c r ≡ None → ts ≡ vs ++ mid → us ≡ (mid ++ r ∷ []) ++ ws → run Start vs ≡ Some d → Whole d us t → ahead turns c r (ws ++ t ∷ after) ≡ None → further c r (ws ++ t ∷ after) ≡ None → ⊥
passed r vs us mid ws after t s refused are is ran (of_one told) h k = no_two mid ws r is
passed r vs us mid ws after t s refused are is ran (of_this told) h k = no_two mid ws r is
passed {ts = ts} {turns = turns} {c = c} r vs _ mid ws after t s refused are is ran (of_two {t = u} told) h further_none = by_length mid ws are is h
  where
    by_length : (mid ws : List Token) → ts ≡ vs ++ mid → u ∷ [] ≡ (mid ++ r ∷ []) ++ ws → ahead turns c r (ws ++ t ∷ after) ≡ None → ⊥
    by_length [] [] a q k =
        let e = same_place (sym (ap (λ x. run Start x) (a ∙ append-nil vs)) ∙ searched_run s) ran in
        told (subst (λ x. two x u t ≡ None) e (subst (λ x. two c x t ≡ None) (sym (head_same q)) (off_at (aheads turns c r t after) 0 k)))
    by_length [] (w ∷ ws) a q k = no_cons (tail_same q)
    by_length (m ∷ mid) ws a q k = no_two mid ws r (tail_same q)
passed {ts = ts} {turns = turns} {c = c} r vs _ mid ws after t s refused are is ran (of_proto {t = u} told) h further_none = by_length mid ws are is h
  where
    by_length : (mid ws : List Token) → ts ≡ vs ++ mid → u ∷ [] ≡ (mid ++ r ∷ []) ++ ws → ahead turns c r (ws ++ t ∷ after) ≡ None → ⊥
    by_length [] [] a q k =
        let e = same_place (sym (ap (λ x. run Start x) (a ∙ append-nil vs)) ∙ searched_run s) ran in
        told (subst (λ x. proto_key x u t ≡ None) e (subst (λ x. proto_key c x t ≡ None) (sym (head_same q)) (off_at (aheads turns c r t after) 3 k)))
    by_length [] (w ∷ ws) a q k = no_cons (tail_same q)
    by_length (m ∷ mid) ws a q k = no_two mid ws r (tail_same q)
passed {ts = ts} {turns = turns} {c = c} r vs _ mid ws after t s refused are is ran (of_three {t = u} {name = v} told) h further_none = by_length mid ws are is h
  where
    by_length : (mid ws : List Token) → ts ≡ vs ++ mid → u ∷ v ∷ [] ≡ (mid ++ r ∷ []) ++ ws → ahead turns c r (ws ++ t ∷ after) ≡ None → ⊥
    by_length [] [] a q k = no_cons (sym (tail_same q))
    by_length [] (w ∷ []) a q k =
        let e = same_place (sym (ap (λ x. run Start x) (a ∙ append-nil vs)) ∙ searched_run s) ran in
        let n = head_same (tail_same q) in
        told (subst (λ x. three x u v t ≡ None) e (subst (λ x. three c x v t ≡ None) (sym (head_same q)) (subst (λ x. three c r x t ≡ None) (sym n) (off_at (aheads turns c r w (t ∷ after)) 1 k))))
    by_length [] (w ∷ x ∷ ws) a q k = no_cons (tail_same (tail_same q))
    by_length (m ∷ []) [] a q k =
        let l = last_turn vs m s a in
        let e = same_place (searched_run l.read) ran in
        told (subst (λ x. three x u v t ≡ None) e (subst (λ x. three l.place x v t ≡ None) (sym (head_same q)) (subst (λ x. three l.place m x t ≡ None) (sym (head_same (tail_same q))) (subst (λ x. three_over x r t ≡ None) l.are (off_at (aheads turns c r t after) 2 k)))))
    by_length (m ∷ []) (w ∷ ws) a q k = no_cons (tail_same (tail_same q))
    by_length (m ∷ n ∷ mid) ws a q k = no_two mid ws r (tail_same (tail_same q))
passed {c = c} r vs _ mid ws after t s refused are is ran (of_group {ts = us} g told) h k = nowhere (sym (cut r vs mid ws us s refused are is) ∙ (after_run vs us ran ∙ g))
passed {c = c} r vs _ mid ws after t s refused are is ran (of_parameter {ts = us} g told) h k = nowhere (sym (cut r vs mid ws us s refused are is) ∙ (after_run vs us ran ∙ g))
passed {c = c} r vs _ mid ws after t s refused are is ran (of_call {t = u} {opening = v} {ts = us} g on told) h k = nowhere (sym (cut r vs mid ws (u ∷ v ∷ us) s refused are is) ∙ (after_run vs (u ∷ v ∷ us) ran ∙ g))
passed {ts = ts} {c = c} {d = d} r vs _ mid ws after t s refused are is ran (of_further {t = u} {us = us} stopped_ told) h k = by_length mid are is
  where
    by_length : (mid : List Token) → ts ≡ vs ++ mid → u ∷ us ≡ (mid ++ r ∷ []) ++ ws → ⊥
    by_length [] a q =
        let e = same_place (sym (ap (λ x. run Start x) (a ∙ append-nil vs)) ∙ searched_run s) ran in
        told after (subst (λ x. further d x (us ++ t ∷ after) ≡ None) (sym (head_same q)) (subst (λ x. further d r (x ++ t ∷ after) ≡ None) (sym (tail_same q)) (subst (λ x. further x r (ws ++ t ∷ after) ≡ None) e k)))
    by_length (m ∷ mid) a q = nowhere (sym (unread vs u mid ran stopped_) ∙ (ap (λ x. run Start (vs ++ x ∷ mid)) (head_same q) ∙ (sym (ap (λ x. run Start x) a) ∙ searched_run s)))

-- it is reached only from what was read
none_beyond : {ts : List Token} {turns : Turns} {c : Config} (r : Token) (us : List Token) → Searched ts turns c → turn c r ≡ None → NoWhole (ts ++ r ∷ []) → ahead turns c r us ≡ None → further c r us ≡ None → NoWhole (ts ++ r ∷ us)
none_beyond {ts = ts} {turns = turns} {c = c} r us s refused none h further_none vs is ws t d are ran w =
    by_end (compared (ts ++ r ∷ []) us (vs ++ (is ++ t ∷ [])) ws (append_assoc ts (r ∷ []) us ∙ are ∙ ap (λ x. vs ++ x) (sym (append_assoc is (t ∷ []) ws)) ∙ sym (append_assoc vs (is ++ t ∷ []) ws)))
  where
    by_start : (zs after : List Token) → us ≡ zs ++ t ∷ after → vs ++ is ≡ (ts ++ r ∷ []) ++ zs → Compared vs is (ts ++ r ∷ []) zs → ⊥
    by_start zs after e q (within xs k) = nowhere (sym (ap (λ x. run Start x) k ∙ stopped Start (ts ++ r ∷ []) xs (after_run ts (r ∷ []) (searched_run s) ∙ ap (λ o. then_run o (λ d. run d [])) refused)) ∙ ran)
    by_start zs after e q (beyond x xs k m) = by_last (snoc_more x (snoc xs)) k m
      where
        by_last : {ys : List Token} → Snoc ys → ts ++ r ∷ [] ≡ vs ++ ys → is ≡ ys ++ zs → ⊥
        by_last nothing k m = nowhere (sym (ap (λ x. run Start x) (sym (k ∙ append-nil vs)) ∙ (after_run ts (r ∷ []) (searched_run s) ∙ ap (λ o. then_run o (λ d. run d [])) refused)) ∙ ran)
        by_last (one_last mid y) k m =
            let e2 = snoc_same ts (vs ++ mid) r y (k ∙ sym (append_assoc vs mid (y ∷ []))) in
            passed r vs is mid zs after t s refused e2.0 (m ∙ ap (λ x. (mid ++ x ∷ []) ++ zs) (sym e2.1)) ran w (subst (λ x. ahead turns c r x ≡ None) e h) (subst (λ x. further c r x ≡ None) e further_none)

    by_end : Compared (ts ++ r ∷ []) us (vs ++ (is ++ t ∷ [])) ws → ⊥
    by_end (within zs k) = none vs is zs t d (k ∙ append_assoc vs (is ++ t ∷ []) zs ∙ ap (λ x. vs ++ x) (append_assoc is (t ∷ []) zs)) ran w
    by_end (beyond z zs k m) = by_last (snoc_more z (snoc zs)) k m
      where
        by_last : {ys : List Token} → Snoc ys → vs ++ (is ++ t ∷ []) ≡ (ts ++ r ∷ []) ++ ys → us ≡ ys ++ ws → ⊥
        by_last nothing k m = none vs is [] t d (sym (k ∙ append-nil (ts ++ r ∷ []))) ran w
        by_last (one_last ys y) k m =
            let e = snoc_same (vs ++ is) ((ts ++ r ∷ []) ++ ys) t y (append_assoc vs is (t ∷ []) ∙ k ∙ sym (append_assoc (ts ++ r ∷ []) ys (y ∷ []))) in
            by_start ys ws (m ∙ append_assoc ys (y ∷ []) ws ∙ ap (λ x. ys ++ x ∷ ws) (sym e.1)) e.0 (compared vs is (ts ++ r ∷ []) ys e.0)

-- nothing was found, nor ahead of the token that is refused: no form is begun in the text
pub clean_text : {ts : List Token} {turns : Turns} {c : Config} (r : Token) (us : List Token) → Searched ts turns c → turn c r ≡ None → found turns c r ≡ None → ahead turns c r us ≡ None → further c r us ≡ None → Clean (ts ++ r ∷ us)
clean_text {ts = ts} r us s refused h k j = clean_of (ts ++ r ∷ us) (none_beyond r us s refused (no_more r s (none_in s) h) k j)
