-- The tokens that lead to a place are those of each reading of the text; where none goes on, the text has no tree.
use Rattle.std.proofs.Common.{◌≡◌, append-nil, ℕ, ◌<◌, List, [], ◌∷◌, ◌++◌, Option, Some, None, refl, sym, ap, subst, ◌∙◌, arith}
use Rattle.std.specs.Str.{chars}
use Rattle.js_tree.specs.Plain.{File, MakeFile, Stmts}
use Rattle.js_tree.specs.Height.{height_file}
use Rattle.js_text.specs.Place.{Place}
use Rattle.js_text.specs.Token.{Token}
use Rattle.js_reading.specs.Sentences.{Sentence}
use Rattle.js_reading.specs.Makes.{with_directives}
use Rattle.js_reading.specs.Turns.{Config, Finished, Start, turn, then_run, run, tree_of, goal_of_place}
use Rattle.js_reading.specs.Open.{floor}
use Rattle.js_reading.specs.Reads.{goal_of, next_for, asked_for, Lexes, no_token, one_more, comments_of, comments_of_tokens, without_comments, start_of, Reads, Stuck, Leads}
use Rattle.js_reading.proofs.goals.Asked.{asked_next, next_asked}
use Rattle.js_reading.proofs.heights.Floors.{low}
use Rattle.js_reading.proofs.goals.Goals.{asks}
use Rattle.js_reading.proofs.sentences.Reading.{complete}
use Rattle.js_reading.proofs.sentences.Runs.{run_append}
use Rattle.js_reading.proofs.sentences.Sound.{reads_only}
use Rattle.js_reading.proofs.sentences.Unique.{one_tree, dead}

-- ---- lists of tokens

pub lexes_then : {place between end : Place} {ts us : List Token} → Lexes place ts between → Lexes between us end → Lexes place (ts ++ us) end
lexes_then no_token more = more
lexes_then (one_more h d) more = one_more h (lexes_then d more)

pub runs_then : (ts us : List Token) (c : Config) → run Start ts ≡ Some c → run Start (ts ++ us) ≡ run c us
runs_then ts us c h = run_append Start ts us ∙ ap (λ o. then_run o (λ d. run d us)) h

pub one_run : (t : Token) (c : Config) → run c (t ∷ []) ≡ turn c t
one_run t c = elim (turn c t) as (λ o. then_run o (λ d. run d []) ≡ o) [ None ↦ refl | Some d ↦ refl ]

-- the first turn of a run, and the others
first_turn : {A : Type 0} (c d : Config) (t : Token) (ts : List Token) → run c (t ∷ ts) ≡ Some d → ((e : Config) → turn c t ≡ Some e → run e ts ≡ Some d → A) → A
first_turn {A = A} c d t ts h go = by_turn (turn c t) refl h
  where
    by_turn : (o : Option Config) → turn c t ≡ o → then_run o (λ e. run e ts) ≡ Some d → A
    by_turn None q r = absurd cc
    by_turn (Some e) q r = go e q r

-- ---- what leads to a place

-- one token more
abbrev pub led_on : {text : List ℕ} {place after : Place} {c d : Config} (t : Token) → Leads text place c → asked_for (goal_of_place c) place ≡ Some (t, after) → turn c t ≡ Some d → Leads text after d
led_on {after = after} {c = c} {d = d} t led h q = record {
  tokens = led.tokens ++ t ∷ [];
  lexed = lexes_then led.lexed (one_more (asked_next (goal_of_place c) _ (t, after) h (asks led.tokens t c d led.ran q)) no_token);
  ran = runs_then led.tokens (t ∷ []) c led.ran ∙ (one_run t c ∙ q);
}

-- a token of the text that goes on is the one that is asked for
pub only_asked : (place after : Place) (c d : Config) (t : Token) (ts : List Token) → run Start ts ≡ Some c → next_for (goal_of t.kind) place ≡ Some (t, after) → turn c t ≡ Some d → asked_for (goal_of_place c) place ≡ Some (t, after)
only_asked place after c d t ts ran h q = next_asked (goal_of_place c) place (t, after) h (asks ts t c d ran q)

-- of two runs along the tokens of a text, one goes on from the other
pub data Along (c d : Config) (ts us : List Token) (place end : Place) : Type 0 where
  same_or_further : (vs : List Token) → us ≡ ts ++ vs → Lexes place vs end → run c vs ≡ Some d → Along c d ts us place end
  behind : (v : Token) (vs : List Token) → ts ≡ us ++ v ∷ vs → run d (v ∷ vs) ≡ Some c → Along c d ts us place end

more_along : {c d : Config} {ts us : List Token} {place end : Place} (t : Token) → Along c d ts us place end → Along c d (t ∷ ts) (t ∷ us) place end
more_along t (same_or_further vs h l r) = same_or_further vs (ap (λ xs. t ∷ xs) h) l r
more_along t (behind v vs h r) = behind v vs (ap (λ xs. t ∷ xs) h) r

along : (ws ts us : List Token) (b c d : Config) (start place end : Place) → run Start ws ≡ Some b → run b ts ≡ Some c → Lexes start ts place → run b us ≡ Some d → Lexes start us end → Along c d ts us place end
along ws [] us b c d start place end ran r no_token s l = let e : b ≡ c = cc in same_or_further us refl l (subst (λ x. run x us ≡ Some d) e s)
along ws (t ∷ ts) [] b c d start place end ran r l s no_token = let e : b ≡ d = cc in behind t ts refl (subst (λ x. run x (t ∷ ts) ≡ Some c) e r)
along ws (t ∷ ts) (u ∷ us) b c d start place end ran r (one_more {between = p} h l) s (one_more {between = q} g m) =
    first_turn b c t ts r (λ e x k. first_turn b d u us s (λ f y n.
    let same : Some (t, p) ≡ Some (u, q) = sym (only_asked start p b e t ws ran h x) ∙ only_asked start q b f u ws ran g y in
    let token : t ≡ u = ap (λ (o : Option (Token × Place)). elim o [ None ↦ t | Some z ↦ z.0 ]) same in
    let there : p ≡ q = ap (λ (o : Option (Token × Place)). elim o [ None ↦ p | Some z ↦ z.1 ]) same in
    let next : e ≡ f = let z : Some e ≡ Some f = sym x ∙ (ap (turn b) token ∙ y) in cc in
    let rest = along (ws ++ t ∷ []) ts us e c d p place end (runs_then ws (t ∷ []) b ran ∙ (one_run t b ∙ x)) k l (subst (λ z. run z us ≡ Some d) (sym next) n) (subst (λ z. Lexes z us end) (sym there) m) in
    subst (λ z. Along c d (t ∷ ts) (z ∷ us) place end) token (more_along t rest)))

-- ---- readings

-- a sentence leads to a finished file
record Finishes (tree : File) (ts : List Token) : Type 0 where
  statements : Stmts
  ran : run Start ts ≡ Some (Finished statements)
  made : MakeFile (with_directives statements) [] ≡ tree

finishes : (tree : File) (ts : List Token) → Sentence tree ts → Finishes tree ts
finishes tree ts d = by_end (run Start ts) refl (complete d)
  where
    by_end : (o : Option Config) → run Start ts ≡ o → tree_of o ≡ Some tree → Finishes tree ts
    by_end (Some (Finished ss)) q h = record { statements = ss; ran = q; made = cc }
    by_end None q h = absurd cc
    by_end (Some c) q h = absurd cc

-- of a text with a tree, the tokens that lead to a place begin those of its tree
pub record Onward (text : List ℕ) (tree : File) (ts : List Token) (c : Config) (place : Place) : Type 0 where
  statements : Stmts
  pub others : List Token
  end : Place
  pub sentence : Sentence (without_comments tree) (ts ++ others)
  comments : comments_of tree ≡ comments_of_tokens (chars text) (ts ++ others)
  lexed : Lexes place others end
  ran : run c others ≡ Some (Finished statements)

pub onward : (text : List ℕ) (tree : File) (place : Place) (c : Config) (led : Leads text place c) → Reads text tree → Onward text tree led.tokens c place
onward text tree place c led reads = by_along (along [] led.tokens reads.tokens Start c (Finished done.statements) (start_of text) place reads.end refl led.ran led.lexed done.ran reads.lexed)
  where
    done : Finishes (without_comments tree) reads.tokens
    done = finishes (without_comments tree) reads.tokens reads.sentence

    by_along : Along c (Finished done.statements) led.tokens reads.tokens place reads.end → Onward text tree led.tokens c place
    by_along (same_or_further vs h l r) = record {
      statements = done.statements;
      others = vs;
      end = reads.end;
      sentence = subst (Sentence (without_comments tree)) h reads.sentence;
      comments = reads.comments ∙ ap (comments_of_tokens (chars text)) h;
      lexed = l;
      ran = r;
    }
    by_along (behind v vs h r) = absurd cc

-- ---- where no token goes on

-- no token that is asked for goes on
abbrev pub Stops : Config → Place → Type 0
Stops c place = (t : Token) (after : Place) → asked_for (goal_of_place c) place ≡ Some (t, after) → turn c t ≡ None

pub stuck : (text : List ℕ) (place : Place) (c : Config) (led : Leads text place c) → Stops c place → Stuck led.tokens place
stuck text place c led stops t after h = dead (led.tokens ++ t ∷ []) (runs_then led.tokens (t ∷ []) c led.ran ∙ (one_run t c ∙ refused))
  where
    by_turn : (o : Option Config) → turn c t ≡ o → turn c t ≡ None
    by_turn None q = q
    by_turn (Some d) q = stops t after (only_asked place after c d t led.tokens led.ran h q)

    refused : turn c t ≡ None
    refused = by_turn (turn c t) refl

pub no_tree : (text : List ℕ) (place : Place) (c : Config) → Leads text place c → tree_of (Some c) ≡ None → Stops c place → (tree : File) → Reads text tree → ⊥
no_tree text place c led going stops tree reads = by_others on.others on.lexed on.ran
  where
    on : Onward text tree led.tokens c place
    on = onward text tree place c led reads

    by_others : (vs : List Token) → Lexes place vs on.end → run c vs ≡ Some (Finished on.statements) → ⊥
    by_others [] l r = let e : c ≡ Finished on.statements = cc in let f : None ≡ Some (MakeFile (with_directives on.statements) []) = sym going ∙ ap (λ x. tree_of (Some x)) e in absurd cc
    by_others (v ∷ vs) (one_more {between = p} h l) r = first_turn c (Finished on.statements) v vs r (λ d q k.
        let e : None ≡ Some d = sym (stops v p (only_asked place p c d v led.tokens led.ran h q)) ∙ q in absurd cc)

-- ---- the one tree of a text, and how high it is

pub higher : (text : List ℕ) (place : Place) (c : Config) → Leads text place c → (limit : ℕ) → limit < floor c → (tree : File) → Reads text tree → limit < height_file tree
higher text place c led limit over (MakeFile body comments) reads =
    let on = onward text (MakeFile body comments) place c led reads in
    let e = low led.tokens on.others c (MakeFile body []) led.ran on.sentence in omega arith

ended_others : (ss : Stmts) (vs : List Token) (c : Config) → run (Finished ss) vs ≡ Some c → vs ≡ []
ended_others ss [] c r = refl
ended_others ss (v ∷ vs) c r = absurd cc

-- a text whose tokens lead to the end has that tree and no other
pub has_tree : (text : List ℕ) (place : Place) (ss : Stmts) (led : Leads text place (Finished ss)) → Reads text (MakeFile (with_directives ss) (comments_of_tokens (chars text) led.tokens))
has_tree text place ss led = record {
  tokens = led.tokens;
  end = place;
  lexed = led.lexed;
  sentence = reads_only (MakeFile (with_directives ss) []) led.tokens (ap tree_of led.ran);
  comments = refl;
}

pub its_tree : (text : List ℕ) (place : Place) (ss : Stmts) (led : Leads text place (Finished ss)) (tree : File) → Reads text tree → tree ≡ MakeFile (with_directives ss) (comments_of_tokens (chars text) led.tokens)
its_tree text place ss led (MakeFile body comments) reads =
    let on = onward text (MakeFile body comments) place (Finished ss) led reads in
    let none : on.others ≡ [] = ended_others ss on.others (Finished on.statements) on.ran in
    let all : led.tokens ++ on.others ≡ led.tokens = ap (λ xs. led.tokens ++ xs) none ∙ append-nil led.tokens in
    let same : MakeFile body [] ≡ MakeFile (with_directives ss) [] = one_tree (subst (Sentence (MakeFile body [])) all on.sentence) (reads_only (MakeFile (with_directives ss) []) led.tokens (ap tree_of led.ran)) in
    let theirs : comments ≡ comments_of_tokens (chars text) led.tokens = on.comments ∙ ap (comments_of_tokens (chars text)) all in
    let it : body ≡ with_directives ss = cc in
    ap (λ b. MakeFile b comments) it ∙ ap (λ xs. MakeFile (with_directives ss) xs) theirs

-- a text has at most one tree
pub text_tree : (text : List ℕ) (one other : File) → Reads text one → Reads text other → one ≡ other
text_tree text one other reads others =
    let done = finishes (without_comments one) reads.tokens reads.sentence in
    let led : Leads text reads.end (Finished done.statements) = record { tokens = reads.tokens; lexed = reads.lexed; ran = done.ran } in
    its_tree text reads.end done.statements led one reads ∙ sym (its_tree text reads.end done.statements led other others)
