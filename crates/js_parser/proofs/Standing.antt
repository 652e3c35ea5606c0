-- Where the reader stands in a text, from its start to the end of the file.
use Rattle.std.proofs.Common.{◌≡◌, inl, inr, ◌⊎◌, ℕ, zero, suc, ◌<◌, ◌≤◌, ◌^◌, Bool, true, false, List, [], ◌∷◌, ◌++◌, length, drop, Option, Some, None, is_some, cond, Result, Ok, Err, is_err, IfOk, IfErr, OnOk, refl, sym, ap, subst, ◌∙◌, arith, append_assoc, append-nil}
use Rattle.std.specs.Option.{option_map}
use Rattle.std.proofs.lemmas.Bool.{true≢false}
use Rattle.std.specs.Str.{chars, IsUtf8}
use Rattle.std.proofs.lemmas.Str.{length-le-encodes, encodes-chars}
use Rattle.js_terms.specs.declared.place.Loc.{Loc}
use Rattle.js_terms.specs.declared.words.Comment.{Comment}
use Rattle.js_tree.specs.Plain.{File, MakeFile, Stmts}
use Rattle.js_tree.specs.Height.{height_stmts, height_file}
use Rattle.js_text.specs.Place.{Place}
use Rattle.js_text.specs.Position.{position_of}
use Rattle.js_text.specs.declared.goal.Goal.{Goal}
use Rattle.js_text.specs.declared.goal.Goal.TheVariants as goal
use Rattle.js_text.specs.Token.{Token, End}
use Rattle.js_text.specs.Lex.{next_token, token_place, offset_of, characters_of, gap_run}
use Rattle.js_lexer.proofs.Lex.{next_token-advances}
use Rattle.js_reading.specs.Makes.{with_directives}
use Rattle.js_reading.specs.Turns.{Config, Due, Have, Item, Start, Finished, turn, tree_of, goal_of_place, braced}
use Rattle.js_reading.specs.Open.{floor}
use Rattle.js_reading.specs.declared.unsupported.Unsupported.{Unsupported}
use Rattle.js_reading.specs.Found.{Find, found, Searched, not_begun, searched}
use Rattle.js_reading.specs.Reads.{after_gap_of, continued, unless_braced, asked_for, Lexes, no_token, comments_of_token, comments_of_tokens, start_of, Reads, Reaches, NoTree, Supported, LeftOut, TooHigh, Leads}
use Rattle.js_reading.proofs.heights.Heights.{directives_same}
use Rattle.js_reading.proofs.goals.Texts.{led_on, Stops, stuck, no_tree, higher, has_tree, its_tree}
use Rattle.js_reading.proofs.finding.LeftOut.{leaves_out, leaves_out_ahead, leaves_out_further, supports_ended, supports_refused, one_place}
use Rattle.js_reading.proofs.heights.Ended.{ended_high}
use Rattle.js_reading.proofs.goals.Finishing.{is_finished, end_finishes}
use Rattle.js_reading.proofs.heights.Opening.{begins_more}
use Rattle.js_stack.specs.Reader.{ended, height_of}
use Rattle.js_parser.specs.Refused.{Because, RefusesText}
use Rattle.js_parser.specs.declared.refused.Refused.{Refused}
use Rattle.js_parser.specs.declared.recent.Recent.{Recent}
use Rattle.js_parser.specs.Recent.{Remembers}
use Rattle.js_parser.specs.Further.{FoundBeyond}
use Rattle.js_parser.specs.Turn.{Stands, IsLow, EndsHigh, Steps, Leaves, IsLeftOut, Tells}
use Rattle.js_parser.specs.declared.refused.Refusal.{Refusal}
use Rattle.js_parser.specs.declared.refused.Refusal.TheVariants as why

-- before the first token
pub at_first : (text : List ℕ) (here : Place) (c : Config) (kept : List Comment) (recent : Recent) → here.before ≡ [] → here.after ≡ chars text → c ≡ Start → kept ≡ [] → Remembers recent [] → Stands text here c kept recent
at_first text here c kept recent before after is none nothing = record {
  led = record { tokens = []; lexed = subst (λ p. Lexes (start_of text) [] p) there no_token; ran = ap (λ x. Some x) (sym is) };
  turns = [];
  searched = subst (λ x. Searched [] [] x) (sym is) not_begun;
  remembers = nothing;
  comments = none;
  within = ap (λ xs. xs ++ here.after) before ∙ after;
}
  where
    there : start_of text ≡ here
    there = ap (λ xs. record { before = xs; after = chars text }) (sym before) ∙ ap (λ xs. record { before = here.before; after = xs }) (sym after)

comments_then : (text : List ℕ) (ts : List Token) (t : Token) → comments_of_tokens text (ts ++ t ∷ []) ≡ comments_of_tokens text ts ++ comments_of_token text t
comments_then text [] t = append-nil (comments_of_token text t)
comments_then text (u ∷ ts) t = ap (λ xs. comments_of_token text u ++ xs) (comments_then text ts t) ∙ sym (append_assoc (comments_of_token text u) (comments_of_tokens text ts) (comments_of_token text t))

-- one token more, with which nothing is found
pub stands_on : (text : List ℕ) (here there : Place) (c d : Config) (kept longer : List Comment) (recent later : Recent) (t : Token) → (s : Stands text here c kept recent) → asked_for (goal_of_place c) here ≡ Some (t, there) → turn c t ≡ Some d →
    found s.turns c t ≡ None → Remembers later ((c, t) ∷ s.turns) → longer ≡ kept ++ comments_of_token (chars text) t → characters_of there ≡ characters_of here → Stands text there d longer later
stands_on text here there c d kept longer recent later t s h q none remembers e same = record {
  led = led_on t s.led h q;
  turns = (c, t) ∷ s.turns;
  searched = searched t s.searched none q;
  remembers = remembers;
  comments = e ∙ (ap (λ xs. xs ++ comments_of_token (chars text) t) s.comments ∙ sym (comments_then (chars text) s.led.tokens t));
  within = same ∙ s.within;
}

-- ---- each token but the end takes characters

drop_less : (n : ℕ) (xs : List ℕ) → length (drop n xs) ≤ length xs
drop_less zero xs = omega arith
drop_less (suc n) [] = omega arith
drop_less (suc n) (x ∷ xs) = let e = drop_less n xs in omega arith

pub asked_advances : (g : Goal) (here there : Place) (t : Token) → asked_for g here ≡ Some (t, there) → (t.kind ≡ End) ⊎ (length there.after < length here.after)
asked_advances goal.Div here there t h = elim (next_token-advances goal.Div here there t h) [ inl end ↦ inl end.0 | inr less ↦ inr less ]
asked_advances goal.RegExp here there t h = elim (next_token-advances goal.RegExp here there t h) [ inl end ↦ inl end.0 | inr less ↦ inr less ]
asked_advances goal.Template here there t h = by_found (next_token goal.Div here) refl h
  where
    by_part : (brace : Token × Place) (o : Option (Token × Place)) → next_token goal.Template (token_place goal.Div here) ≡ o → option_map (after_gap_of brace.0) o ≡ Some (t, there) → (t.kind ≡ End) ⊎ (length there.after < length here.after)
    by_part brace None e q = absurd cc
    by_part brace (Some part) e q =
        let same : after_gap_of brace.0 part ≡ (t, there) = cc in
        let kind : part.0.kind ≡ t.kind = ap (λ (z : Token × Place). z.0.kind) same in
        let place : part.1 ≡ there = ap (λ (z : Token × Place). z.1) same in
        elim (next_token-advances goal.Template (token_place goal.Div here) part.1 part.0 e) [
          | inl end ↦ inl (sym kind ∙ end.0)
          | inr less ↦ inr (let le = drop_less (length (gap_run goal.Div here)) here.after in let same_length : length part.1.after ≡ length there.after = ap (λ (p : Place). length p.after) place in omega arith)
        ]

    by_found : (o : Option (Token × Place)) → next_token goal.Div here ≡ o → unless_braced here o ≡ Some (t, there) → (t.kind ≡ End) ⊎ (length there.after < length here.after)
    by_found None e q = absurd cc
    by_found (Some brace) e q = by_brace (braced brace.0.kind) q
      where
        by_brace : (b : Bool) → cond b (continued here (Some brace)) (Some brace) ≡ Some (t, there) → (t.kind ≡ End) ⊎ (length there.after < length here.after)
        by_brace true r = by_part brace (next_token goal.Template (token_place goal.Div here)) refl r
        by_brace false r = elim (next_token-advances goal.Div here there t (e ∙ r)) [ inl end ↦ inl end.0 | inr less ↦ inr less ]

pub finished_height : (d : Config) → is_finished d ≡ true → is_some (height_of d) ≡ true
finished_height (Finished ss) h = refl
finished_height (Due f w ss ps l fs) h = absurd (true≢false (sym h))
finished_height (Have p l fs) h = absurd (true≢false (sym h))
finished_height (Item fs) h = absurd (true≢false (sym h))
finished_height Start h = absurd (true≢false (sym h))

pub smaller : (text : List ℕ) (here there : Place) (c d : Config) (kept : List Comment) (recent : Recent) (t : Token) → Stands text here c kept recent → asked_for (goal_of_place c) here ≡ Some (t, there) → turn c t ≡ Some d → is_some (height_of d) ≡ false → length there.after < length here.after
smaller text here there c d kept recent t s h q going = elim (asked_advances (goal_of_place c) here there t h) [
  | inl end ↦ absurd (true≢false (sym (finished_height d (end_finishes s.led.tokens t c d s.led.ran q end)) ∙ going))
  | inr less ↦ less
]

-- ---- refusals

no_tree_there : (c : Config) → is_some (height_of c) ≡ false → tree_of (Some c) ≡ None
no_tree_there (Finished ss) h = absurd (true≢false h)
no_tree_there (Due f w ss ps l fs) h = refl
no_tree_there (Have p l fs) h = refl
no_tree_there (Item fs) h = refl
no_tree_there Start h = refl

abbrev reaches : {text : List ℕ} {here : Place} {c : Config} → Leads text here c → Reaches text (offset_of (token_place goal.Div here))
reaches {here = here} led = record { tokens = led.tokens; place = here; lexed = led.lexed; there = refl }

has_none : (text : List ℕ) (here : Place) (c : Config) → Leads text here c → is_some (height_of c) ≡ false → Stops c here → NoTree text (offset_of (token_place goal.Div here))
has_none text here c led going stops = record { reached = reaches led; stuck = stuck text here c led stops; none = no_tree text here c led (no_tree_there c going) stops }

abbrev NoneHere : List ℕ → Place → Type 0
NoneHere text here = NoTree text (offset_of (token_place goal.Div here)) × Supported text (offset_of (token_place goal.Div here))

pub reaches_here : (text : List ℕ) (here : Place) (c : Config) (kept : List Comment) (recent : Recent) (at : ℕ) → Stands text here c kept recent → at ≡ offset_of (token_place goal.Div here) → Reaches text at
reaches_here text here c kept recent at s there = subst (Reaches text) (sym there) (reaches s.led)

-- no token stands there
stops_none : (c : Config) (here : Place) → asked_for (goal_of_place c) here ≡ None → Stops c here
stops_none c here none t there h = let e : (◌≡◌) {A = Option (Token × Place)} None (Some (t, there)) = sym none ∙ h in absurd cc

pub ends_here : (text : List ℕ) (here : Place) (c : Config) (kept : List Comment) (recent : Recent) (at : ℕ) → Stands text here c kept recent → is_some (height_of c) ≡ false → at ≡ offset_of (token_place goal.Div here) → asked_for (goal_of_place c) here ≡ None → NoTree text at × Supported text at
ends_here text here c kept recent at s going there none =
    subst (λ n. NoTree text n × Supported text n) (sym there) (has_none text here c s.led going (stops_none c here none), supports_ended text here c s.turns s.led s.searched none)

-- the token there is refused, and nothing is found
pub stops_token : (c : Config) (here after : Place) (u : Token) → asked_for (goal_of_place c) here ≡ Some (u, after) → turn c u ≡ None → Stops c here
stops_token c here after u h none t there g =
    let e : Some (u, after) ≡ Some (t, there) = sym h ∙ g in
    let same : u ≡ t = ap (λ (o : Option (Token × Place)). elim o [ None ↦ u | Some z ↦ z.0 ]) e in
    subst (λ x. turn c x ≡ None) same none

-- what is said of a text where a token is refused: by what is found with it, ahead of it or further on
pub tells_refused : {U : Type 0} (text : List ℕ) (here after : Place) (c : Config) (kept : List Comment) (recent : Recent) (t : Token) (at : ℕ) (told : Result Find U) → (s : Stands text here c kept recent) → is_some (height_of c) ≡ false → at ≡ offset_of (token_place goal.Div here) →
    asked_for (goal_of_place c) here ≡ Some (t, after) → turn c t ≡ None → IfOk told (λ find. FoundBeyond find s.turns c t after) → Tells told text at
tells_refused text here after c kept recent t at (Ok None) s going there h refused none =
    subst (λ n. NoTree text n × Supported text n) (sym there) (has_none text here c s.led going (stops_token c here after t h refused), supports_refused text here after c s.turns t s.led s.searched h refused none.0 none.1 none.2)
tells_refused text here after c kept recent t at (Ok (Some x)) s going there h refused (inl is) = λ small. leaves_out text here after c s.turns t x s.led s.searched (no_tree_there c going) small h is
tells_refused text here after c kept recent t at (Ok (Some x)) s going there h refused (inr (none, inl is)) = λ small. leaves_out_ahead text here after c s.turns t x s.led s.searched (no_tree_there c going) h refused none is
tells_refused text here after c kept recent t at (Ok (Some x)) s going there h refused (inr (none, inr far)) = λ small. leaves_out_further text here after far.1 c s.turns t far.0 x s.led s.searched (no_tree_there c going) small h far.2 refused none far.3
tells_refused text here after c kept recent t at (Err want) s going there h refused is = tt

-- and where it is read, what is found with it
pub tells_read : (text : List ℕ) (here after : Place) (c : Config) (kept : List Comment) (recent : Recent) (t : Token) (x : Unsupported × Loc) → (s : Stands text here c kept recent) → is_some (height_of c) ≡ false →
    asked_for (goal_of_place c) here ≡ Some (t, after) → found s.turns c t ≡ Some x → IsLeftOut text x
tells_read text here after c kept recent t x s going h is = λ small. leaves_out text here after c s.turns t x s.led s.searched (no_tree_there c going) small h is

-- ---- where the form that is left out starts

few_chars : (text : List ℕ) → IsUtf8 text → length text < 2 ^ 30 → length (chars text) < 2 ^ 30
few_chars text utf8 h = let e = length-le-encodes (chars text) in let same = ap length (encodes-chars text utf8) in omega arith

pub left_out_place : (text : List ℕ) (x : Unsupported × Loc) → IsUtf8 text → length text < 2 ^ 30 → IsLeftOut text x → (p : Place) × (characters_of p ≡ chars text) × (position_of p ≡ x.1.start)
left_out_place text x utf8 small told = let there = told (few_chars text utf8 small) in (there.place, there.within, there.starts)

pub left_out_at : (text : List ℕ) (x : Unsupported × Loc) (at : ℕ) → IsUtf8 text → length text < 2 ^ 30 → IsLeftOut text x → (p : Place) × (characters_of p ≡ chars text) × (position_of p ≡ x.1.start) × (at ≡ offset_of p) → LeftOut text at x.0
left_out_at text x at utf8 small told (p, within, starts, is) =
    let few = few_chars text utf8 small in
    let there = told few in
    subst (λ n. LeftOut text n x.0) (one_place text there.place p there.within within few (there.starts ∙ sym starts) ∙ sym is) there.left_out

-- the token there isn't taken for height or for memory
pub too_deep : (text : List ℕ) (here after : Place) (c : Config) (t : Token) (limit : ℕ) → Leads text here c → asked_for (goal_of_place c) here ≡ Some (t, after) → (limit < floor c) ⊎ EndsHigh c t limit → TooHigh text (offset_of (token_place goal.Div here)) limit
too_deep text here after c t limit led asked (inl over) = record { reached = reaches led; begun = begins_more led.tokens c limit led.ran over; higher = higher text here c led limit over }
too_deep text here after c t limit led asked (inr ends) =
    let on = led_on t led asked ends.1 in
    let high : limit < height_stmts (with_directives ends.0) = subst (λ n. limit < n) (sym (directives_same ends.0)) ends.2 in
    record {
      reached = reaches led;
      begun = ended_high led.tokens t ends.0 limit on.ran high;
      higher = λ tree reads. subst (λ (x : File). limit < height_file x) (sym (its_tree text after ends.0 on tree reads)) high;
    }

-- why the token isn't taken, but for grammar
pub leaves_so : (text : List ℕ) (here after : Place) (c : Config) (kept : List Comment) (recent : Recent) (t : Token) (r : Refusal) (at limit : ℕ) → Stands text here c kept recent → at ≡ offset_of (token_place goal.Div here) →
    asked_for (goal_of_place c) here ≡ Some (t, after) → Leaves r c t limit → Because r text at limit
leaves_so text here after c kept recent t why.Syntax at limit s there asked leaves = absurd leaves
leaves_so text here after c kept recent t (why.Unsupported form) at limit s there asked leaves = absurd leaves
leaves_so text here after c kept recent t why.TooDeep at limit s there asked leaves = subst (λ n. TooHigh text n limit) (sym there) (too_deep text here after c t limit s.led asked leaves)
leaves_so text here after c kept recent t why.Memory at limit s there asked leaves = reaches_here text here c kept recent at s there

pub found_then : {U : Type 0} (r : Result Find U) (z : Find) (P : Find → Type 0) → IfOk r P → r ≡ Ok z → P z
found_then r z P h is = subst (λ x. IfOk x P) is h

pub took : (b : Bool) (before after : Config) (t : Token) (limit : ℕ) → Steps b before after t limit → b ≡ true → (turn before t ≡ Some after) × IsLow after limit
took true before after t limit steps h = steps
took false before after t limit steps h = absurd (true≢false (sym h))

pub left : (b : Bool) (before after : Config) (t : Token) (limit : ℕ) → Steps b before after t limit → b ≡ false → turn before t ≡ None
left true before after t limit steps h = absurd (true≢false h)
left false before after t limit steps h = steps

pub holds : {T U : Type 0} (r : Result T U) (P : Type 0) → OnOk r P → is_err r ≡ false → P
holds (Ok x) P h is = h
holds (Err e) P h is = absurd (true≢false is)

-- ---- the file is whole

by_end : {A : Type 0} (c : Config) (made : Stmts → File) (file : File) → option_map made (ended c) ≡ Some file → ((ss : Stmts) → c ≡ Finished ss → made ss ≡ file → A) → A
by_end (Finished ss) made file h go = go ss refl cc
by_end (Due f w ss ps l fs) made file h go = absurd cc
by_end (Have p l fs) made file h go = absurd cc
by_end (Item fs) made file h go = absurd cc
by_end Start made file h go = absurd cc

whole : (text : List ℕ) (here : Place) (ss : Stmts) (kept : List Comment) (recent : Recent) (file : File) → Stands text here (Finished ss) kept recent → MakeFile (with_directives ss) kept ≡ file → Reads text file × ((tree : File) → Reads text tree → tree ≡ file)
whole text here ss kept recent file s is =
    let same : MakeFile (with_directives ss) (comments_of_tokens (chars text) s.led.tokens) ≡ file = ap (λ xs. MakeFile (with_directives ss) xs) (sym s.comments) ∙ is in
    (subst (Reads text) same (has_tree text here ss s.led), λ tree reads. its_tree text here ss s.led tree reads ∙ same)

pub file_read : (text : List ℕ) (here : Place) (c : Config) (kept : List Comment) (recent : Recent) (file : File) → Stands text here c kept recent → option_map (λ ss. MakeFile (with_directives ss) kept) (ended c) ≡ Some file → Reads text file
file_read text here c kept recent file s h = by_end c (λ ss. MakeFile (with_directives ss) kept) file h (λ ss e is. (whole text here ss kept recent file (subst (λ x. Stands text here x kept recent) e s) is).0)

pub file_only : (text : List ℕ) (here : Place) (c : Config) (kept : List Comment) (recent : Recent) (file : File) → Stands text here c kept recent → option_map (λ ss. MakeFile (with_directives ss) kept) (ended c) ≡ Some file → (tree : File) → Reads text tree → tree ≡ file
file_only text here c kept recent file s h = by_end c (λ ss. MakeFile (with_directives ss) kept) file h (λ ss e is. (whole text here ss kept recent file (subst (λ x. Stands text here x kept recent) e s) is).1)

pub file_low : (c : Config) (kept : List Comment) (file : File) (limit : ℕ) → IsLow c limit → option_map (λ ss. MakeFile (with_directives ss) kept) (ended c) ≡ Some file → height_file file ≤ limit
file_low c kept file limit low h = by_end c (λ ss. MakeFile (with_directives ss) kept) file h (λ ss e is.
    subst (λ (x : File). height_file x ≤ limit) is (subst (λ n. n ≤ limit) (sym (directives_same ss)) (subst (λ x. IsLow x limit) e low)))

pub memory_text : (text : List ℕ) (here : Place) (c : Config) (kept : List Comment) (recent : Recent) (r : Refused) (limit : ℕ) → Stands text here c kept recent → r.at ≡ offset_of (token_place goal.Div here) → r.why ≡ why.Memory → RefusesText r text limit
memory_text text here c kept recent r limit s there is = subst (λ w. Because w text r.at limit) (sym is) (reaches_here text here c kept recent r.at s there)

pub ok_then : {T U : Type 0} (r : Result T U) (P Q : T → Type 0) → IfOk r P → ((x : T) → P x → Q x) → IfOk r Q
ok_then (Ok x) P Q h go = go x h
ok_then (Err e) P Q h go = tt

pub err_then : {T U : Type 0} (r : Result T U) (P Q R : U → Type 0) → IfErr r P → IfErr r Q → ((x : U) → P x → Q x → R x) → IfErr r R
err_then (Ok x) P Q R h k go = tt
err_then (Err e) P Q R h k go = go e h k
