-- What is found further on, where `async` is refused, begins a form: its arguments are items, and `=>` follows them.
use Rattle.std.proofs.Common.{◌≡◌, Bool, true, false, not, ◌&&◌, List, [], ◌∷◌, ◌++◌, Option, Some, None, codes, refl, sym, ap, subst, ◌∙◌, append_assoc}
use Rattle.std.proofs.lemmas.Bool.{true≢false, and_parts}
use Rattle.js_terms.specs.declared.place.Loc.{Loc}
use Rattle.js_text.specs.Token.{Token, Kind}
use Rattle.js_text.specs.Token as T
use Rattle.js_text.specs.declared.punctuator.Punctuator.TheVariants as P
use Rattle.js_reading.specs.Slots as slot
use Rattle.js_reading.specs.Kinds.{is_kind}
use Rattle.js_reading.specs.Productions.{is_mark, is_word}
use Rattle.js_reading.specs.Turns.{Config, Due, Start, turn, run}
use Rattle.js_reading.specs.Unsupported
use Rattle.js_reading.specs.Unsupported.{Unsupported, Stops, Async, at_any_name}
use Rattle.js_reading.specs.Found.{opens_call, same_start, named_callee, starts_at, argues, then_holds, arrow_comes, further, Apart}
use Rattle.js_reading.proofs.finding.Begun.{EachOf, none_left, where_so, holds_of, alone, off, StopsThere, stop}
use Rattle.js_reading.proofs.finding.BegunCalls.{same_word, Argued, named_view, argued_call, argued_new, mirrored, word_no_end}
use Rattle.js_reading.proofs.refusing.Callees.{Arguments, arguments, Listed, listed}
use Rattle.js_reading.proofs.finding.Coming.{or_two, Comes, comes}
use Rattle.js_reading.proofs.finding.Found.{head_same, tail_same}
use Rattle.js_reading.proofs.sentences.KindsLemmas.{is_same, kind_is}
use Rattle.js_reading.proofs.sentences.Sound.{reads_so}

-- tokens that stand apart in a list do in a part of it
part_apart : (ts xs us : List Token) → Apart (ts ++ (xs ++ us)) → Apart xs
part_apart ts xs us apart before between after t u e no_end = apart (ts ++ before) between (after ++ us) t u along no_end
  where
    along : ts ++ (xs ++ us) ≡ (ts ++ before) ++ t ∷ (between ++ u ∷ (after ++ us))
    along =
        ap (λ y. ts ++ (y ++ us)) e ∙ ap (λ y. ts ++ y) (append_assoc before (t ∷ (between ++ u ∷ after)) us ∙ ap (λ y. before ++ t ∷ y) (append_assoc between (u ∷ after) us)) ∙ sym (append_assoc ts before (t ∷ (between ++ u ∷ (after ++ us))))

-- the arguments of the name with which tokens begin
of_word : (r opening : Token) (vs : List Token) (m : Loc) → Argued m (r ∷ opening ∷ vs) → Apart (r ∷ opening ∷ vs) → is_word (codes "async") r ≡ true → same_start m r.loc ≡ true → Listed vs
of_word r opening vs m a apart is at = by_tokens a.spelled a.are
  where
    by_tokens : {after : List Token} → Arguments m after → r ∷ opening ∷ vs ≡ a.before ++ after → Listed vs
    by_tokens (arguments {tx = tx} tok bracket closing_ there no_end is_open dxs is_closing) are =
        let start = subst (λ l. same_start l r.loc ≡ true) (sym there) at in
        let same = same_word a.before [] (bracket ∷ (tx ++ closing_ ∷ [])) (opening ∷ vs) tok r apart are refl no_end (word_no_end r is) start (mirrored tok.loc r.loc start) in
        subst Listed (tail_same same.after) (listed closing_ dxs is_closing)

record NamedAt (l : Loc) (ts : List Token) : Type 0 where
  pub name : Loc
  pub argued : Argued name ts
  pub there : same_start name l ≡ true

argued_at : (l : Loc) (ts : List Token) (t : Token) (c : Config) → run Start ts ≡ Some c → argues l c ≡ true → NamedAt l ts
argued_at l ts t (Due slot.Call w [] ps m fs) ran h = by_callee (named_callee ps) refl h
  where
    by_callee : (o : Option Loc) → named_callee ps ≡ o → starts_at l o ≡ true → NamedAt l ts
    by_callee None e q = absurd (true≢false (sym q))
    by_callee (Some n) e q = record { name = n; argued = argued_call n t (reads_so ts (Due slot.Call w [] ps m fs) ran) (named_view n ps e); there = q }
argued_at l ts t (Due slot.New w [] ps m fs) ran h = by_callee (named_callee ps) refl h
  where
    by_callee : (o : Option Loc) → named_callee ps ≡ o → starts_at l o ≡ true → NamedAt l ts
    by_callee None e q = absurd (true≢false (sym q))
    by_callee (Some n) e q = record { name = n; argued = argued_new n t (Due slot.New w [] ps m fs) (reads_so ts (Due slot.New w [] ps m fs) ran) ran (named_view n ps e); there = q }
argued_at l ts t c ran h = absurd (true≢false (sym h))

-- `(` is no `=>`
no_arrow : (t : Token) → is_mark P.OpenParenthesis t ≡ true → is_mark P.Arrow t ≡ true → ⊥
no_arrow t opens is = true≢false (sym is ∙ subst (λ k. is_kind (T.Punctuator P.Arrow) k ≡ false) (sym (kind_is (T.Punctuator P.OpenParenthesis) t.kind opens)) refl)

-- after the word and `(` come items, `)` and `=>`
pub data Follows : List Token → Type 0 where
  follows : {vs : List Token} (arrow : Token) (ts : List Token) → Listed vs → is_mark P.Arrow arrow ≡ true → Follows (vs ++ arrow ∷ ts)

followed : (ts : List Token) (r opening : Token) (us : List Token) → Apart (ts ++ r ∷ opening ∷ us) → is_word (codes "async") r ≡ true → is_mark P.OpenParenthesis opening ≡ true → Comes r.loc Start (r ∷ opening ∷ us) → Follows us
followed ts r opening us apart is opens c = by_before c.before c.are c.ran
  where
    by_before : (vs : List Token) → r ∷ opening ∷ us ≡ vs ++ c.arrow ∷ c.after → run Start vs ≡ Some c.place → Follows us
    by_before [] e ran = absurd (true≢false (sym c.whole ∙ sym (ap (argues r.loc) (at_start ran))))
      where
        at_start : {d : Config} → Some Start ≡ Some d → Start ≡ d
        at_start q = cc
    by_before (x ∷ []) e ran = absurd (no_arrow c.arrow (subst (λ y. is_mark P.OpenParenthesis y ≡ true) (head_same (tail_same e)) opens) c.is_arrow)
    by_before (x ∷ y ∷ vs) e ran =
        let first = head_same e in
        let second = head_same (tail_same e) in
        let rest = tail_same (tail_same e) in
        let read : run Start (r ∷ opening ∷ vs) ≡ Some c.place = ap (λ z. run Start (z ∷ opening ∷ vs)) first ∙ ap (λ z. run Start (x ∷ z ∷ vs)) second ∙ ran in
        let a = argued_at r.loc (r ∷ opening ∷ vs) r c.place read c.whole in
        let whole : Apart (ts ++ ((r ∷ opening ∷ vs) ++ c.arrow ∷ c.after)) = subst (λ z. Apart (ts ++ r ∷ opening ∷ z)) rest apart in
        subst Follows (sym rest) (follows c.arrow c.after (of_word r opening vs a.name a.argued (part_apart ts (r ∷ opening ∷ vs) (c.arrow ∷ c.after) whole) is a.there) c.is_arrow)

begun : (c : Config) (r opening : Token) (us : List Token) → turn c r ≡ None → is_word (codes "async") r ≡ true → at_any_name c ≡ false → is_mark P.OpenParenthesis opening ≡ true → opening.line_terminator_before ≡ false → Follows us → Stops Async c (r ∷ opening ∷ us)
begun c r opening _ refused is unnamed opens line (follows arrow ts (listed {tx = tx} closing_ dxs is_closing) is_arrow) =
    subst (λ x. Stops Async c (r ∷ opening ∷ x)) (sym (append_assoc tx (closing_ ∷ []) (arrow ∷ ts))) (Unsupported.async_refused opening closing_ arrow ts refused is unnamed opens line dxs (is_same (T.Punctuator P.CloseParenthesis) closing_.kind is_closing) is_arrow)

pub further_stops : (ts : List Token) (c : Config) (r : Token) (us : List Token) (w : Unsupported × Loc) → Apart (ts ++ r ∷ us) → turn c r ≡ None → further c r us ≡ Some w → StopsThere c r us w
further_stops ts c r [] w apart refused h = absurd cc
further_stops ts c r (opening ∷ us) w apart refused h = holds_of (StopsThere c r (opening ∷ us)) (further c r (opening ∷ us) ∷ []) w each (alone (further c r (opening ∷ us)) w h)
  where
    comes_on : Bool
    comes_on = then_holds (turn Start r) (λ d. arrow_comes r.loc d (opening ∷ us))

    each : EachOf (StopsThere c r (opening ∷ us)) (further c r (opening ∷ us) ∷ [])
    each = where_so
        (λ q. let a = and_parts (not (at_any_name c)) (opens_call r opening && comes_on) q in
        let b = and_parts (opens_call r opening) comes_on a.1 in
        let d = and_parts (is_word (codes "async") r) (is_mark P.OpenParenthesis opening && not opening.line_terminator_before) b.0 in
        let e = and_parts (is_mark P.OpenParenthesis opening) (not opening.line_terminator_before) d.1 in
        let on = comes r.loc (r ∷ opening ∷ us) Start (or_two (is_mark P.Arrow r && argues r.loc Start) comes_on b.1) in
        stop (begun c r opening us refused d.0 (off (at_any_name c) a.0) e.0 (off opening.line_terminator_before e.1) (followed ts r opening us apart d.0 e.0 on)))
        none_left
