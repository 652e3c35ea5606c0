-- No sentence goes on with the tokens that begin a form which is left out: the machine stops at them, or no run from there ends.
use Rattle.std.proofs.Common.{◌≡◌, inl, append_assoc, append-nil, ℕ, ◌≤◌, Bool, true, false, not, ◌&&◌, List, [], ◌∷◌, ◌++◌, Option, Some, None, codes, refl, sym, ap, subst, ◌∙◌, arith}
use Rattle.std.specs.Prelude.{nat_le, is_some, ◌||◌}
use Rattle.std.proofs.lemmas.Bool.{true≢false, and_parts, le-leb}
use Rattle.js_terms.specs.declared.place.Loc.{Loc}
use Rattle.js_tree.specs.Plain.{Expr, NameKey, StringKey, PropertyKey}
use Rattle.js_text.specs.Token.{Token, Kind, Word}
use Rattle.js_text.specs.Token as T
use Rattle.js_text.specs.Word.{reserved_word}
use Rattle.js_text.specs.declared.punctuator.Punctuator.{Punctuator}
use Rattle.js_text.specs.declared.punctuator.Punctuator.TheVariants as P
use Rattle.js_reading.specs.Spans.{through}
use Rattle.js_reading.specs.Level.{assignment}
use Rattle.js_reading.specs.Kinds.{is_keyword}
use Rattle.js_reading.specs.Slots.{Expr_, Wanted, Level, WithoutIn, Callee, Slot, Sign, Text, Items_, Place_, By, Piece, AnExpr, AStmt, APlace, AKey, Form, Class, LaterText, FirstText, AnyName, Key, BoundName}
use Rattle.js_reading.specs.Slots as slot
use Rattle.js_reading.specs.Productions.{is_proto_word, string_of, after_first, bound_name, word_piece, name_of, is_mark, is_word, is_class, piece_of, slots, prefix, statement, join}
use Rattle.js_reading.specs.Makes.{is_proto, build, last_level}
use Rattle.js_reading.specs.Sentences.{least, continues, Dead}
use Rattle.js_reading.specs.Turns.{place, begun_level, declares, listing, Frame, InForm, InExpression, InItems, Config, Due, Have, Item, Start, begin_form, want_by, want, begin_by, begin, wanted, banned, have, is_over, turn, run, then_run}
use Rattle.js_reading.specs.Unsupported
use Rattle.js_reading.specs.Unsupported.{Unsupported, Stops, Begins, at_property, at_any_name, at_bound_name, at_item, after_tight, in_no_function, operand_over, is_operand, is_template, is_bigint}
use Rattle.js_reading.proofs.sentences.Firsts.{remade}
use Rattle.js_reading.proofs.sentences.KindsLemmas.{kind_is}
use Rattle.js_reading.proofs.sentences.Runs.{nowhere, by_bool, run_append}
use Rattle.js_reading.proofs.sentences.Shapes.{closing, both_true}
use Rattle.js_reading.proofs.sentences.Rows.{inner_kind, sign_inner, either_of, nameless, sure, tight}
use Rattle.js_reading.proofs.sentences.Ways.{may, FineAt, named, turn_way, come_to, lands}
use Rattle.js_reading.proofs.levels.Lasting.{last_missing, TightAt, grasp, tight_at, missing_at}
use Rattle.js_reading.proofs.goals.Asking.{Stray, stray_ways, no_shift, no_sign, piece_option, leads_nowhere}
use Rattle.js_reading.proofs.goals.Goals.{over_turn, is_led}
use Rattle.js_reading.proofs.sentences.Unique.{dead}
use Rattle.js_reading.proofs.refusing.Endless.{lost_after}
use Rattle.js_reading.proofs.refusing.Dooms.{Doomed, doomed_endless, Lost, lost_then}
use Rattle.js_reading.proofs.refusing.Quiet.{IsName, Quiet, is_each_kind, name_quiet, async_name, function_quiet, name_is_quiet}
use Rattle.js_reading.proofs.refusing.Arrows.{arguments_stop}
use Rattle.js_reading.proofs.refusing.OuterFree.{this_free}
use Rattle.js_reading.proofs.refusing.OuterKept.{ShownAt, outer_endless, this_lost}
use Rattle.js_reading.proofs.refusing.Protos.{part, no_object}
use Rattle.js_reading.proofs.refusing.Parameters.{parameter_lost}
use Rattle.js_reading.proofs.refusing.Targets.{parenthesized_facts, literal_facts, assigned_lost, updated_stops, head_lost, assign_assigns}

-- ---- no run goes on

none_of : (o : Option Config) → ((d : Config) → o ≡ Some d → ⊥) → o ≡ None
none_of None h = refl
none_of (Some d) h = absurd (h d refl)

first_stops : (c : Config) (t : Token) (ts : List Token) → turn c t ≡ None → run c (t ∷ ts) ≡ None
first_stops c t ts h = ap (λ o. then_run o (λ d. run d ts)) h

second_stops : (c : Config) (t u : Token) (ts : List Token) → ((d : Config) → turn c t ≡ Some d → turn d u ≡ None) → run c (t ∷ u ∷ ts) ≡ None
second_stops c t u ts h = by_turn (turn c t) h
  where
    by_turn : (o : Option Config) → ((d : Config) → o ≡ Some d → turn d u ≡ None) → then_run o (λ d. run d (u ∷ ts)) ≡ None
    by_turn None g = refl
    by_turn (Some d) g = first_stops d u ts (g d refl)

third_stops : (c : Config) (t u v : Token) (ts : List Token) → ((d : Config) → turn c t ≡ Some d → (e : Config) → turn d u ≡ Some e → turn e v ≡ None) → run c (t ∷ u ∷ v ∷ ts) ≡ None
third_stops c t u v ts h = by_turn (turn c t) h
  where
    by_turn : (o : Option Config) → ((d : Config) → o ≡ Some d → (e : Config) → turn d u ≡ Some e → turn e v ≡ None) → then_run o (λ d. run d (u ∷ v ∷ ts)) ≡ None
    by_turn None g = refl
    by_turn (Some d) g = second_stops d u v ts (g d refl)

-- ---- tokens that stand nowhere but as a name

no_named : (c : Config) → FineAt c → at_any_name c ≡ false → named c ≡ false
no_named (Due f w (Text AnyName ∷ ss) ps l fs) fine h = absurd (true≢false h)
no_named (Due f w (By slot.Properties ∷ ss) ps l fs) fine h = absurd (true≢false h)
no_named (Due f w (Text Key ∷ ss) ps l fs) fine h = absurd (true≢false (sym (and_parts false (sure (Text Key ∷ ss)) fine.0.0).0))
no_named (Due f w (Text LaterText ∷ ss) ps l fs) fine h = absurd (true≢false (sym (and_parts false (sure (Text LaterText ∷ ss)) fine.0.0).0))
no_named (Due f w (By slot.TemplateRest ∷ ss) ps l fs) fine h = absurd (true≢false (sym (and_parts false (sure (By slot.TemplateRest ∷ ss)) fine.0.0).0))
no_named (Due f w ss ps l fs) fine h = refl
no_named c fine h = refl

stray_turn : (t : Token) → Stray t → join t ≡ None → piece_of LaterText t.kind t.loc ≡ None → (c : Config) → FineAt c → (named c ≡ true → (piece_of AnyName t.kind t.loc ≡ None) × (piece_of Key t.kind t.loc ≡ None)) → turn c t ≡ None
stray_turn t s none later c fine names =
    none_of (turn c t) (λ d h. turn_way {Q = λ x. ⊥} c d (stray_ways t (named c) s names) (λ i e l fs x fr g. no_shift t i e l fs x none g) (λ p f w ss ps fs e fin fr. clash later e) fine h)
  where
    clash : {o : Option Piece} {p : Piece} → o ≡ None → o ≡ Some p → ⊥
    clash {p = p} none e = let q : None ≡ Some p = sym none ∙ e in absurd cc

-- a token is of a kind that stands nowhere
pub record Stranger (t : Token) : Type 0 where
  pub stray : Stray t
  pub no_join : join t ≡ None
  pub no_later : piece_of LaterText t.kind t.loc ≡ None

-- one that is no name either
pub record Nameless (t : Token) : Type 0 where
  pub stranger : Stranger t
  pub no_any : piece_of AnyName t.kind t.loc ≡ None
  pub no_key : piece_of Key t.kind t.loc ≡ None

stranger_stops : (t : Token) → Stranger t → (c : Config) (ts : List Token) → FineAt c → at_any_name c ≡ false → run c (t ∷ ts) ≡ None
stranger_stops t s c ts fine unnamed = first_stops c t ts (stray_turn t s.stray s.no_join s.no_later c fine (λ b. absurd (true≢false (sym b ∙ no_named c fine unnamed))))

nameless_stops : (t : Token) → Nameless t → (c : Config) (ts : List Token) → FineAt c → run c (t ∷ ts) ≡ None
nameless_stops t s c ts fine = first_stops c t ts (stray_turn t s.stranger.stray s.stranger.no_join s.stranger.no_later c fine (λ b. (s.no_any, s.no_key)))

of_kind : (P : Token → Type 0) (t : Token) (k : Kind) → t.kind ≡ k → P (remade t k) → P t
of_kind P t k is p = subst (λ x. P (remade t x)) (sym is) p

word_class : (t : Token) → Stranger (remade t (Word (codes "class")))
unfolding is_keyword reserved_word
word_class t = record { stray = record { no_prefix = refl; no_leaf = refl; no_statement = refl; no_inner = refl; no_name = refl; no_first = refl }; no_join = refl; no_later = refl }

word_super : (t : Token) → Stranger (remade t (Word (codes "super")))
unfolding is_keyword reserved_word
word_super t = record { stray = record { no_prefix = refl; no_leaf = refl; no_statement = refl; no_inner = refl; no_name = refl; no_first = refl }; no_join = refl; no_later = refl }

word_import : (t : Token) → Stranger (remade t (Word (codes "import")))
unfolding is_keyword reserved_word
word_import t = record { stray = record { no_prefix = refl; no_leaf = refl; no_statement = refl; no_inner = refl; no_name = refl; no_first = refl }; no_join = refl; no_later = refl }

word_export : (t : Token) → Stranger (remade t (Word (codes "export")))
unfolding is_keyword reserved_word
word_export t = record { stray = record { no_prefix = refl; no_leaf = refl; no_statement = refl; no_inner = refl; no_name = refl; no_first = refl }; no_join = refl; no_later = refl }

-- the marks that stand nowhere
abbrev pub is_odd : Punctuator → Bool
is_odd P.Ellipsis = true
is_odd P.OptionalChain = true
is_odd P.LogicalAndAssign = true
is_odd P.LogicalOrAssign = true
is_odd P.CoalesceAssign = true
is_odd p = false

mark_nameless : (t : Token) (p : Punctuator) → is_odd p ≡ true → Nameless (remade t (T.Punctuator p))
mark_nameless t P.Ellipsis h = record { stranger = record { stray = record { no_prefix = refl; no_leaf = refl; no_statement = refl; no_inner = refl; no_name = refl; no_first = refl }; no_join = refl; no_later = refl }; no_any = refl; no_key = refl }
mark_nameless t P.OptionalChain h = record { stranger = record { stray = record { no_prefix = refl; no_leaf = refl; no_statement = refl; no_inner = refl; no_name = refl; no_first = refl }; no_join = refl; no_later = refl }; no_any = refl; no_key = refl }
mark_nameless t P.LogicalAndAssign h = record { stranger = record { stray = record { no_prefix = refl; no_leaf = refl; no_statement = refl; no_inner = refl; no_name = refl; no_first = refl }; no_join = refl; no_later = refl }; no_any = refl; no_key = refl }
mark_nameless t P.LogicalOrAssign h = record { stranger = record { stray = record { no_prefix = refl; no_leaf = refl; no_statement = refl; no_inner = refl; no_name = refl; no_first = refl }; no_join = refl; no_later = refl }; no_any = refl; no_key = refl }
mark_nameless t P.CoalesceAssign h = record { stranger = record { stray = record { no_prefix = refl; no_leaf = refl; no_statement = refl; no_inner = refl; no_name = refl; no_first = refl }; no_join = refl; no_later = refl }; no_any = refl; no_key = refl }
mark_nameless t p h = absurd (true≢false (sym h))

bigint_nameless : (t : Token) (w : List ℕ) → Nameless (remade t (T.BigInt w))
bigint_nameless t w = record { stranger = record { stray = record { no_prefix = refl; no_leaf = refl; no_statement = refl; no_inner = refl; no_name = refl; no_first = refl }; no_join = refl; no_later = refl }; no_any = refl; no_key = refl }

mark_is : (p : Punctuator) (t : Token) → is_mark p t ≡ true → t.kind ≡ T.Punctuator p
mark_is p t h = kind_is (T.Punctuator p) t.kind h

word_is : (w : List ℕ) (t : Token) → is_word w t ≡ true → t.kind ≡ Word w
word_is w t h = kind_is (Word w) t.kind h

odd_stops : (p : Punctuator) (t : Token) (c : Config) (ts : List Token) → FineAt c → is_odd p ≡ true → is_mark p t ≡ true → run c (t ∷ ts) ≡ None
odd_stops p t c ts fine odd h = nameless_stops t (of_kind Nameless t (T.Punctuator p) (mark_is p t h) (mark_nameless t p odd)) c ts fine

pub three : {A : Type 0} (x y z : Bool) → (x || y || z) ≡ true → (x ≡ true → A) → (y ≡ true → A) → (z ≡ true → A) → A
three true y z h f g i = f refl
three false true z h f g i = g refl
three false false true h f g i = i refl
three false false false h f g i = absurd (true≢false (sym h))

bigint_stops : (t : Token) (c : Config) (ts : List Token) → FineAt c → is_bigint t.kind ≡ true → run c (t ∷ ts) ≡ None
bigint_stops t c ts fine h = by_kind t.kind refl h
  where
    by_kind : (k : Kind) → t.kind ≡ k → is_bigint k ≡ true → run c (t ∷ ts) ≡ None
    by_kind (T.BigInt w) is q = nameless_stops t (of_kind Nameless t (T.BigInt w) is (bigint_nameless t w)) c ts fine
    by_kind k is q = absurd (true≢false (sym q))

-- ---- a word that begins a production, and the token after it

-- what such a token leads to, where none but it begins there
prefix_form : (Q : Config → Type 0) (t : Token) (f : Form) (fs : List Frame) (d : Config) → prefix t ≡ Some f → (begin_form f t (slots f) fs ≡ Some d → Q d) → want t fs ≡ Some d → Q d
prefix_form Q t f fs d is go h = by_bool (nat_le (least (place fs)) (begun_level f)) _ _ d (λ c q. go q) (λ c q. nowhere q) (sym (ap (λ o. want_by o t fs) is) ∙ h)

statement_form : (Q : Config → Type 0) (t : Token) (f : Form) (fs : List Frame) (d : Config) → statement t ≡ Some f → (begin_form f t (slots f) fs ≡ Some d → Q d) → begin t fs ≡ Some d → Q d
statement_form Q t f fs d is go h = by_bool (declares f && not (listing fs)) _ _ d (λ c q. nowhere q) (λ c q. go q) (sym (ap (λ o. begin_by o t fs) is) ∙ h)

star_after : (star : Token) → star.kind ≡ T.Punctuator P.Star → (fs : List Frame) (l : Loc) →
    (turn (Due slot.FunctionExpression l (after_first (slots slot.FunctionExpression)) [] l fs) star ≡ None) × (turn (Due slot.FunctionDeclaration l (after_first (slots slot.FunctionDeclaration)) [] l fs) star ≡ None)
star_after star is fs l =
    of_kind (λ s. (turn (Due slot.FunctionExpression l (after_first (slots slot.FunctionExpression)) [] l fs) s ≡ None) × (turn (Due slot.FunctionDeclaration l (after_first (slots slot.FunctionDeclaration)) [] l fs) s ≡ None)) star (T.Punctuator P.Star) is (refl, refl)

dot_after : (dot : Token) → dot.kind ≡ T.Punctuator P.Dot → (fs : List Frame) (l : Loc) → turn (Due slot.New l (after_first (slots slot.New)) [] l fs) dot ≡ None
dot_after dot is fs l = of_kind (λ s. turn (Due slot.New l (after_first (slots slot.New)) [] l fs) s ≡ None) dot (T.Punctuator P.Dot) is refl

-- a word that begins productions only
pub record Opening (t : Token) : Type 0 where
  pub no_inner : inner_kind t.kind ≡ false
  pub no_name : bound_name t.kind ≡ None
  pub no_first : piece_of FirstText t.kind t.loc ≡ None
  pub no_later : piece_of LaterText t.kind t.loc ≡ None
  pub no_join : join t ≡ None

opening_turn : {Q : Config → Type 0} (t : Token) → Opening t → ((fs : List Frame) (d : Config) → want t fs ≡ Some d → Q d) → ((fs : List Frame) (d : Config) → begin t fs ≡ Some d → Q d) → (c : Config) → FineAt c → at_any_name c ≡ false → (d : Config) → turn c t ≡ Some d → Q d
opening_turn {Q = Q} t o wants_ begins_ c fine unnamed d h =
    turn_way {Q = Q} c d (record {
      by_want = λ fs d fr k. wants_ fs d k;
      by_begin = λ fs d fr k. begins_ fs d k;
      by_sign = λ k f w ss ps fs is e fin fr. no_sign t k o.no_inner (sign_inner k is) e;
      by_text = λ k p f w ss ps fs e m x fin fr. no_text k p ss e m;
      by_comma = λ fs e fr. no_sign t (T.Punctuator P.Comma) o.no_inner refl e;
      by_end = λ ss e. no_sign t T.End o.no_inner refl e;
    }) (λ i e l fs x fr g. no_shift t i e l fs x o.no_join g) (λ p f w ss ps fs e fin fr. clash o.no_later e) fine h
  where
    clash : {A : Type 0} {o : Option Piece} {p : Piece} → o ≡ None → o ≡ Some p → A
    clash {p = p} none e = let q : None ≡ Some p = sym none ∙ e in absurd cc

    not_here : {A : Type 0} → named c ≡ true → A
    not_here b = absurd (true≢false (sym b ∙ no_named c fine unnamed))

    no_text : {A : Type 0} (k : Class) (p : Piece) (ss : List Slot) → piece_of k t.kind t.loc ≡ Some p → may (Text k ∷ ss) (named c) ≡ true → A
    no_text BoundName p ss e m = clash (ap (word_piece t.loc) o.no_name) e
    no_text AnyName p ss e m = not_here m
    no_text Key p ss e m = not_here m
    no_text FirstText p ss e m = clash o.no_first e
    no_text LaterText p ss e m = absurd (true≢false (sym m))

function_opening : (t : Token) → (prefix (remade t (Word (codes "function"))) ≡ Some slot.FunctionExpression) × (statement (remade t (Word (codes "function"))) ≡ Some slot.FunctionDeclaration) × Opening (remade t (Word (codes "function")))
unfolding is_keyword reserved_word
function_opening t = (refl, refl, record { no_inner = refl; no_name = refl; no_first = refl; no_later = refl; no_join = refl })

new_opening : (t : Token) → (prefix (remade t (Word (codes "new"))) ≡ Some slot.New) × (statement (remade t (Word (codes "new"))) ≡ None) × Opening (remade t (Word (codes "new")))
unfolding is_keyword reserved_word
new_opening t = (refl, refl, record { no_inner = refl; no_name = refl; no_first = refl; no_later = refl; no_join = refl })

generator_stops : (t star : Token) (c : Config) (ts : List Token) → FineAt c → at_any_name c ≡ false → t.kind ≡ Word (codes "function") → star.kind ≡ T.Punctuator P.Star → run c (t ∷ star ∷ ts) ≡ None
generator_stops t star c ts fine unnamed is is_star = second_stops c t star ts (λ d h. opening_turn {Q = λ x. turn x star ≡ None} t o.2 wanted_ begun_ c fine unnamed d h)
  where
    o : (prefix t ≡ Some slot.FunctionExpression) × (statement t ≡ Some slot.FunctionDeclaration) × Opening t
    o = of_kind (λ s. (prefix s ≡ Some slot.FunctionExpression) × (statement s ≡ Some slot.FunctionDeclaration) × Opening s) t (Word (codes "function")) is (function_opening t)

    wanted_ : (fs : List Frame) (d : Config) → want t fs ≡ Some d → turn d star ≡ None
    wanted_ fs d h = prefix_form (λ x. turn x star ≡ None) t slot.FunctionExpression fs d o.0 (λ q. lands (λ x. turn x star ≡ None) q (star_after star is_star fs t.loc).0) h

    begun_ : (fs : List Frame) (d : Config) → begin t fs ≡ Some d → turn d star ≡ None
    begun_ fs d h = statement_form (λ x. turn x star ≡ None) t slot.FunctionDeclaration fs d o.1 (λ q. lands (λ x. turn x star ≡ None) q (star_after star is_star fs t.loc).1) h

new_target_stops : (t dot : Token) (c : Config) (ts : List Token) → FineAt c → at_any_name c ≡ false → t.kind ≡ Word (codes "new") → dot.kind ≡ T.Punctuator P.Dot → run c (t ∷ dot ∷ ts) ≡ None
new_target_stops t dot c ts fine unnamed is is_dot = second_stops c t dot ts (λ d h. opening_turn {Q = λ x. turn x dot ≡ None} t o.2 wanted_ (λ fs d h. wanted_ (InExpression t.loc ∷ fs) d (sym (ap (λ x. begin_by x t fs) o.1) ∙ h)) c fine unnamed d h)
  where
    o : (prefix t ≡ Some slot.New) × (statement t ≡ None) × Opening t
    o = of_kind (λ s. (prefix s ≡ Some slot.New) × (statement s ≡ None) × Opening s) t (Word (codes "new")) is (new_opening t)

    wanted_ : (fs : List Frame) (d : Config) → want t fs ≡ Some d → turn d dot ≡ None
    wanted_ fs d h = prefix_form (λ x. turn x dot ≡ None) t slot.New fs d o.0 (λ q. lands (λ x. turn x dot ≡ None) q (dot_after dot is_dot fs t.loc)) h

-- ---- properties

-- a key where a property starts
key_word : (t : Token) (w : List ℕ) → t.kind ≡ Word w → (f : Form) (v : Loc) (ss : List Slot) (ps : List Piece) (l : Loc) (fs : List Frame) →
    turn (Due f v (By slot.Properties ∷ ss) ps l fs) t ≡ Some (Due f v (By slot.AfterKey ∷ By slot.AfterProperty ∷ ss) ((ps ++ []) ++ AKey (NameKey w) t.loc ∷ []) t.loc fs)
key_word t w is f v ss ps l fs =
    of_kind (λ s. turn (Due f v (By slot.Properties ∷ ss) ps l fs) s ≡ Some (Due f v (By slot.AfterKey ∷ By slot.AfterProperty ∷ ss) ((ps ++ []) ++ AKey (NameKey w) s.loc ∷ []) s.loc fs)) t (Word w) is refl

abbrev pub After : Form → Loc → List Slot → List Piece → Loc → List Frame → Config
After f v ss ps l fs = Due f v (By slot.AfterKey ∷ By slot.AfterProperty ∷ ss) ps l fs

-- another key after it
key_refused : (key : Token) → (is_class Key key || is_mark P.OpenBracket key) ≡ true → (f : Form) (v : Loc) (ss : List Slot) (ps : List Piece) (l : Loc) (fs : List Frame) → turn (After f v ss ps l fs) key ≡ None
key_refused key h f v ss ps l fs = either_of (is_class Key key) (is_mark P.OpenBracket key) h (λ q. by_kind key.kind refl q) (λ q. of_kind (λ s. turn (After f v ss ps l fs) s ≡ None) key (T.Punctuator P.OpenBracket) (mark_is P.OpenBracket key q) refl)
  where
    by_kind : (k : Kind) → key.kind ≡ k → is_some (piece_of Key k key.loc) ≡ true → turn (After f v ss ps l fs) key ≡ None
    by_kind (Word w) is q = of_kind (λ s. turn (After f v ss ps l fs) s ≡ None) key (Word w) is refl
    by_kind (T.EscapedWord w) is q = of_kind (λ s. turn (After f v ss ps l fs) s ≡ None) key (T.EscapedWord w) is refl
    by_kind (T.StringLiteral w) is q = of_kind (λ s. turn (After f v ss ps l fs) s ≡ None) key (T.StringLiteral w) is refl
    by_kind (T.Numeral w) is q = of_kind (λ s. turn (After f v ss ps l fs) s ≡ None) key (T.Numeral w) is refl
    by_kind k is q = absurd (true≢false (sym q))

word_key_stops : (t key : Token) (w : List ℕ) (c : Config) (ts : List Token) → t.kind ≡ Word w → at_property c ≡ true → (is_class Key key || is_mark P.OpenBracket key) ≡ true → run c (t ∷ key ∷ ts) ≡ None
word_key_stops t key w (Due f v (By slot.Properties ∷ ss) ps l fs) ts is at h =
    second_stops (Due f v (By slot.Properties ∷ ss) ps l fs) t key ts (λ d q. lands (λ x. turn x key ≡ None) (sym (key_word t w is f v ss ps l fs) ∙ q) (key_refused key h f v ss ((ps ++ []) ++ AKey (NameKey w) t.loc ∷ []) t.loc fs))
word_key_stops t key w c ts is at h = absurd (true≢false (sym at))

star_stops : (t : Token) (c : Config) (ts : List Token) → t.kind ≡ T.Punctuator P.Star → at_property c ≡ true → run c (t ∷ ts) ≡ None
star_stops t (Due f v (By slot.Properties ∷ ss) ps l fs) ts is at = first_stops (Due f v (By slot.Properties ∷ ss) ps l fs) t ts (of_kind (λ s. turn (Due f v (By slot.Properties ∷ ss) ps l fs) s ≡ None) t (T.Punctuator P.Star) is refl)
star_stops t c ts is at = absurd (true≢false (sym at))

shorthand_stops : (t sign : Token) (c : Config) (ts : List Token) → is_class BoundName t ≡ true → at_property c ≡ true → sign.kind ≡ T.Punctuator P.Assign → run c (t ∷ sign ∷ ts) ≡ None
shorthand_stops t sign (Due f v (By slot.Properties ∷ ss) ps l fs) ts name at is =
    second_stops (Due f v (By slot.Properties ∷ ss) ps l fs) t sign ts (λ d h. by_kind t.kind refl name d h)
  where
    assign_refused : (qs : List Piece) (m : Loc) → turn (After f v ss qs m fs) sign ≡ None
    assign_refused qs m = of_kind (λ s. turn (After f v ss qs m fs) s ≡ None) sign (T.Punctuator P.Assign) is refl

    key_escaped : (w : List ℕ) → t.kind ≡ T.EscapedWord w → turn (Due f v (By slot.Properties ∷ ss) ps l fs) t ≡ Some (After f v ss ((ps ++ []) ++ AKey (NameKey (name_of w)) t.loc ∷ []) t.loc fs)
    key_escaped w e = of_kind (λ s. turn (Due f v (By slot.Properties ∷ ss) ps l fs) s ≡ Some (After f v ss ((ps ++ []) ++ AKey (NameKey (name_of w)) s.loc ∷ []) s.loc fs)) t (T.EscapedWord w) e refl

    by_kind : (k : Kind) → t.kind ≡ k → is_some (piece_of BoundName k t.loc) ≡ true → (d : Config) → turn (Due f v (By slot.Properties ∷ ss) ps l fs) t ≡ Some d → turn d sign ≡ None
    by_kind (Word w) e q d h = lands (λ x. turn x sign ≡ None) (sym (key_word t w e f v ss ps l fs) ∙ h) (assign_refused _ _)
    by_kind (T.EscapedWord w) e q d h = lands (λ x. turn x sign ≡ None) (sym (key_escaped w e) ∙ h) (assign_refused _ _)
    by_kind k e q d h = absurd (true≢false (sym q))
shorthand_stops t sign c ts name at is = absurd (true≢false (sym at))

-- ---- items, and names to bind

comma_refused : (t : Token) → t.kind ≡ T.Punctuator P.Comma → (p : Punctuator) → closing p ≡ true → (is_mark p t ≡ false) × ((fs : List Frame) → want t fs ≡ None)
comma_refused t is p cl = of_kind (λ s. (is_mark p s ≡ false) × ((fs : List Frame) → want s fs ≡ None)) t (T.Punctuator P.Comma) is (none p cl, λ fs. refl)
  where
    none : (p : Punctuator) → closing p ≡ true → is_mark p (remade t (T.Punctuator P.Comma)) ≡ false
    none P.CloseParenthesis h = refl
    none P.CloseBracket h = refl
    none p h = absurd (true≢false (sym h))

elision_stops : (t : Token) (c : Config) (ts : List Token) → FineAt c → t.kind ≡ T.Punctuator P.Comma → at_item c ≡ true → run c (t ∷ ts) ≡ None
elision_stops t (Due slot.ArrayLiteral w (Items_ p ∷ ss) ps l fs) ts fine is at =
    let q = comma_refused t is p (and_parts (closing p) (nameless ss && sure ss) fine.0.0).0 in
    first_stops (Due slot.ArrayLiteral w (Items_ p ∷ ss) ps l fs) t ts (none_of (turn (Due slot.ArrayLiteral w (Items_ p ∷ ss) ps l fs) t) (λ d h. by_bool (is_mark p t) _ _ d (λ c g. true≢false (sym c ∙ q.0)) (λ c g. leads_nowhere (q.1 _) g) h))
elision_stops t (Item (InItems slot.ArrayLiteral w p ss ps xs ∷ fs)) ts fine is at =
    let q = comma_refused t is p (and_parts (closing p) (nameless ss && sure ss) fine.0.0).0 in
    first_stops (Item (InItems slot.ArrayLiteral w p ss ps xs ∷ fs)) t ts (none_of (turn (Item (InItems slot.ArrayLiteral w p ss ps xs ∷ fs)) t) (λ d h. by_bool (is_mark p t) _ _ d (λ c g. true≢false (sym c ∙ q.0)) (λ c g. leads_nowhere (q.1 _) g) h))
elision_stops t c ts fine is at = absurd (true≢false (sym at))

-- no name to bind
abbrev Unnamed : Token → Type 0
Unnamed t = (f : Form) (w : Loc) (ss : List Slot) (ps : List Piece) (l : Loc) (fs : List Frame) → (turn (Due f w (Text BoundName ∷ ss) ps l fs) t ≡ None) × (turn (Due f w (By slot.FunctionName ∷ ss) ps l fs) t ≡ None) × (turn (Due f w (By slot.Parameters ∷ ss) ps l fs) t ≡ None)

unnamed_bracket : (t : Token) → Unnamed (remade t (T.Punctuator P.OpenBracket))
unnamed_bracket t f w ss ps l fs = (refl, refl, refl)

unnamed_brace : (t : Token) → Unnamed (remade t (T.Punctuator P.OpenBrace))
unnamed_brace t f w ss ps l fs = (refl, refl, refl)

binding_stops : (t : Token) (c : Config) (ts : List Token) → at_bound_name c ≡ true → Unnamed t → run c (t ∷ ts) ≡ None
binding_stops t (Due f w (Text BoundName ∷ ss) ps l fs) ts at go = first_stops (Due f w (Text BoundName ∷ ss) ps l fs) t ts (go f w ss ps l fs).0
binding_stops t (Due f w (By slot.FunctionName ∷ ss) ps l fs) ts at go = first_stops (Due f w (By slot.FunctionName ∷ ss) ps l fs) t ts (go f w ss ps l fs).1
binding_stops t (Due f w (By slot.Parameters ∷ ss) ps l fs) ts at go = first_stops (Due f w (By slot.Parameters ∷ ss) ps l fs) t ts (go f w ss ps l fs).2
binding_stops t c ts at go = absurd (true≢false (sym at))

-- ---- a template after what it would be a part of

template_goes : (t : Token) → is_template t.kind ≡ true → (v : Wanted) (e : Expr) → 20 ≤ last_level e → (continues v e t ≡ true) × (join t ≡ None) × (is_mark P.Arrow t ≡ false)
template_goes t h v e low = by_kind t.kind refl h
  where
    enough : nat_le 20 (last_level e) ≡ true
    enough = le-leb 20 (last_level e) low

    or_one : (x y : Bool) → x ≡ true → (x || y) ≡ true
    or_one x y q = ap (λ b. b || y) q

    goes : (v : Wanted) (k : Kind) → is_template k ≡ true → continues v e (remade t k) ≡ true
    goes (Level n) (T.NoSubstitutionTemplate w) q = or_one (nat_le 20 (last_level e)) _ enough
    goes (WithoutIn n) (T.NoSubstitutionTemplate w) q = or_one (nat_le 20 (last_level e)) _ enough
    goes Callee (T.NoSubstitutionTemplate w) q = or_one (nat_le 20 (last_level e)) _ enough
    goes (Level n) (T.TemplateHead w) q = or_one (nat_le 20 (last_level e)) _ enough
    goes (WithoutIn n) (T.TemplateHead w) q = or_one (nat_le 20 (last_level e)) _ enough
    goes Callee (T.TemplateHead w) q = or_one (nat_le 20 (last_level e)) _ enough
    goes v k q = absurd (true≢false (sym q))

    by_kind : (k : Kind) → t.kind ≡ k → is_template k ≡ true → (continues v e t ≡ true) × (join t ≡ None) × (is_mark P.Arrow t ≡ false)
    by_kind (T.NoSubstitutionTemplate w) is q = of_kind (λ s. (continues v e s ≡ true) × (join s ≡ None) × (is_mark P.Arrow s ≡ false)) t (T.NoSubstitutionTemplate w) is (goes v (T.NoSubstitutionTemplate w) refl, refl, refl)
    by_kind (T.TemplateHead w) is q = of_kind (λ s. (continues v e s ≡ true) × (join s ≡ None) × (is_mark P.Arrow s ≡ false)) t (T.TemplateHead w) is (goes v (T.TemplateHead w) refl, refl, refl)
    by_kind k is q = absurd (true≢false (sym q))

template_after : {A : Type 0} (t : Token) → is_template t.kind ≡ true → (fs : List Frame) (d : Config) (i : ℕ) (e : Expr) (m : Loc) → 20 ≤ last_level e → have fs (Some (AnExpr i e)) m t ≡ Some d → A
template_after t h [] d i e m low k = nowhere k
template_after t h (f ∷ fs) d i e m low k =
    let a = template_goes t h (wanted f) e low in
    by_bool (continues (wanted f) e t) _ _ d (λ c q. by_bool (banned t (f ∷ fs)) _ _ d (λ x g. nowhere g) (λ x g. no_shift t i e m (f ∷ fs) d a.1 g) q) (λ c q. absurd (true≢false (sym a.0 ∙ c))) k

operand_tight : (f : Form) → is_operand f ≡ true → (tight f ≡ true) × (grasp f ≡ 20)
operand_tight slot.ArrayLiteral h = (refl, refl)
operand_tight slot.ObjectLiteral h = (refl, refl)
operand_tight slot.Template h = (refl, refl)
operand_tight slot.FunctionExpression h = (refl, refl)
operand_tight slot.New h = (refl, refl)
operand_tight slot.Call h = (refl, refl)
operand_tight slot.Dot h = (refl, refl)
operand_tight slot.Member h = (refl, refl)
operand_tight f h = absurd (true≢false (sym h))

operand_made : (f : Form) (ss : List Slot) → operand_over f ss ≡ true → (qs : List Piece) → (is_led ss ≡ true → last_missing qs ≡ true) → (m : Loc) → TightAt 20 (build f m qs)
operand_made f [] o qs z m = let a = operand_tight f o in subst (λ n. TightAt n (build f m qs)) a.1 (tight_at f m qs a.0)
operand_made f (Place_ ∷ []) o qs z m = let a = operand_tight f o in subst (λ n. TightAt n (build f m qs)) a.1 (tight_at f m qs a.0)
operand_made f (By slot.Arrow ∷ []) o qs z m = led f o
  where
    led : (f : Form) → Unsupported.is_parentheses f ≡ true → TightAt 20 (build f m qs)
    led slot.Parentheses h = missing_at m qs (z refl)
    led f h = absurd (true≢false (sym h))
operand_made f ss o qs z m = absurd (true≢false (sym o))

operand_is_over : (f : Form) (ss : List Slot) → operand_over f ss ≡ true → is_over ss ≡ true
operand_is_over f [] h = refl
operand_is_over f (Place_ ∷ []) h = refl
operand_is_over f (By slot.Arrow ∷ []) h = refl
operand_is_over f ss h = absurd (true≢false (sym h))

no_arrow_template : (t : Token) → is_template t.kind ≡ true → is_mark P.Arrow t ≡ false
no_arrow_template t h = by_kind t.kind refl h
  where
    by_kind : (k : Kind) → t.kind ≡ k → is_template k ≡ true → is_mark P.Arrow t ≡ false
    by_kind (T.NoSubstitutionTemplate w) is q = of_kind (λ s. is_mark P.Arrow s ≡ false) t (T.NoSubstitutionTemplate w) is refl
    by_kind (T.TemplateHead w) is q = of_kind (λ s. is_mark P.Arrow s ≡ false) t (T.TemplateHead w) is refl
    by_kind k is q = absurd (true≢false (sym q))

template_stops : (t : Token) (c : Config) (ts : List Token) → FineAt c → is_template t.kind ≡ true → after_tight c ≡ true → run c (t ∷ ts) ≡ None
template_stops t (Have (AnExpr i e) l fs) ts fine h at = first_stops (Have (AnExpr i e) l fs) t ts (none_of (turn (Have (AnExpr i e) l fs) t) (λ d q. template_after t h fs d i e l (subst (λ n. 20 ≤ n) (sym fine.0) (omega arith)) q))
template_stops t (Due f w ss ps l fs) ts fine h at =
    first_stops (Due f w ss ps l fs) t ts (none_of (turn (Due f w ss ps l fs) t) (λ d q. over_turn t (no_arrow_template t h) f w ss ps l fs d (operand_is_over f ss at)
    (λ qs z g. piece_option fs (build f (through w l) qs) (through w l) t d (λ j x made r. template_after t h fs d j x (through w l) (subst (TightAt 20) made (operand_made f ss at qs z (through w l))) r) (λ s made r. subst (TightAt 20) made (operand_made f ss at qs z (through w l))) g) q))
template_stops t c ts fine h at = absurd (true≢false (sym at))

-- ---- the key `__proto__` and a value

proto_lost : (t colon : Token) (w l : Loc) (ss : List Slot) (ps : List Piece) (fs : List Frame) (ts : List Token) → is_proto_word t.kind ≡ true → colon.kind ≡ T.Punctuator P.Colon → Lost (run (Due slot.ObjectLiteral w (By slot.Properties ∷ ss) ps l fs) (t ∷ colon ∷ ts))
proto_lost t colon w l ss ps fs ts is is_colon = by_kind t.kind refl is
  where
    key_lost : (k : PropertyKey) → is_proto k ≡ true → turn (Due slot.ObjectLiteral w (By slot.Properties ∷ ss) ps l fs) t ≡ Some (After slot.ObjectLiteral w ss ((ps ++ []) ++ AKey k t.loc ∷ []) t.loc fs) → Lost (run (Due slot.ObjectLiteral w (By slot.Properties ∷ ss) ps l fs) (t ∷ colon ∷ ts))
    key_lost k h e =
        subst Lost (sym (ap (λ o. then_run o (λ d. run d (colon ∷ ts))) e))
        (subst Lost (sym (ap (λ o. then_run o (λ d. run d ts)) (of_kind (λ s. turn (After slot.ObjectLiteral w ss ((ps ++ []) ++ AKey k t.loc ∷ []) t.loc fs) s ≡ Some (Due slot.ObjectLiteral w (Expr_ (Level assignment) ∷ Place_ ∷ By slot.AfterProperty ∷ ss) (((ps ++ []) ++ AKey k t.loc ∷ []) ++ []) s.loc fs)) colon (T.Punctuator P.Colon) is_colon refl)))
        (lost_then (Some (Due slot.ObjectLiteral w (Expr_ (Level assignment) ∷ Place_ ∷ By slot.AfterProperty ∷ ss) (((ps ++ []) ++ AKey k t.loc ∷ []) ++ []) colon.loc fs)) ts
        (inl (λ i e x z qs. ap (build slot.ObjectLiteral z) (regrouped k i e x qs) ∙ no_object k t.loc i e x (ps ++ []) qs h z))))
      where
        regrouped : (k : PropertyKey) (i : ℕ) (e : Expr) (x : Loc) (qs : List Piece) → ((((ps ++ []) ++ AKey k t.loc ∷ []) ++ []) ++ AnExpr i e ∷ APlace x ∷ []) ++ qs ≡ (ps ++ []) ++ part k t.loc i e x qs
        regrouped k i e x qs =
            append_assoc (((ps ++ []) ++ AKey k t.loc ∷ []) ++ []) (AnExpr i e ∷ APlace x ∷ []) qs ∙ ap (λ y. y ++ AnExpr i e ∷ APlace x ∷ qs) (append-nil ((ps ++ []) ++ AKey k t.loc ∷ [])) ∙ append_assoc (ps ++ []) (AKey k t.loc ∷ []) (AnExpr i e ∷ APlace x ∷ qs)

    by_kind : (k : Kind) → t.kind ≡ k → is_proto_word k ≡ true → Lost (run (Due slot.ObjectLiteral w (By slot.Properties ∷ ss) ps l fs) (t ∷ colon ∷ ts))
    by_kind (Word v) e q = key_lost (NameKey v) q (key_word t v e slot.ObjectLiteral w ss ps l fs)
    by_kind (T.EscapedWord v) e q =
        key_lost (NameKey (name_of v)) q (of_kind (λ s. turn (Due slot.ObjectLiteral w (By slot.Properties ∷ ss) ps l fs) s ≡ Some (After slot.ObjectLiteral w ss ((ps ++ []) ++ AKey (NameKey (name_of v)) s.loc ∷ []) s.loc fs)) t (T.EscapedWord v) e refl)
    by_kind (T.StringLiteral v) e q =
        key_lost (StringKey (string_of v)) q (of_kind (λ s. turn (Due slot.ObjectLiteral w (By slot.Properties ∷ ss) ps l fs) s ≡ Some (After slot.ObjectLiteral w ss ((ps ++ []) ++ AKey (StringKey (string_of v)) s.loc ∷ []) s.loc fs)) t (T.StringLiteral v) e refl)
    by_kind k e q = absurd (true≢false (sym q))

-- ---- `async` and a word on its line

async_function_stops : (t word : Token) (c : Config) (ts : List Token) → FineAt c → at_any_name c ≡ false → t.kind ≡ Word (codes "async") → word.kind ≡ Word (codes "function") → word.line_terminator_before ≡ false → run c (t ∷ word ∷ ts) ≡ None
async_function_stops t word c ts fine unnamed is is_function line =
    second_stops c t word ts (λ d h. none_of (turn d word) (λ e k. name_quiet (λ x. ⊥) t word (of_kind IsName t (Word (codes "async")) is (async_name t)) q.0 (λ f w n ss ps fs each_. true≢false (sym each_ ∙ q.1)) c fine (no_named c fine unnamed) d h e k))
  where
    q : Quiet word × (is_each_kind word.kind ≡ false)
    q = of_kind (λ s. Quiet s × (is_each_kind s.kind ≡ false)) word (Word (codes "function")) is_function (function_quiet word line)

no_arrow_due : (arrow : Token) → arrow.kind ≡ T.Punctuator P.Arrow → (fs : List Frame) → want arrow fs ≡ None
no_arrow_due arrow is fs = of_kind (λ s. want s fs ≡ None) arrow (T.Punctuator P.Arrow) is refl

async_name_stops : (t name arrow : Token) (c : Config) (ts : List Token) → FineAt c → at_any_name c ≡ false → t.kind ≡ Word (codes "async") → is_class BoundName name ≡ true → name.line_terminator_before ≡ false → arrow.kind ≡ T.Punctuator P.Arrow → run c (t ∷ name ∷ arrow ∷ ts) ≡ None
async_name_stops t name arrow c ts fine unnamed is named_ line is_arrow =
    third_stops c t name arrow ts (λ d h e k. name_quiet (λ x. turn x arrow ≡ None) t name (of_kind IsName t (Word (codes "async")) is (async_name t)) (name_is_quiet name (bound (bound_name name.kind) named_) line)
    (λ f w n ss ps fs each_. no_arrow_due arrow is_arrow (InForm f w (Expr_ n) ss ps ∷ fs)) c fine (no_named c fine unnamed) d h e k)
  where
    bound : (o : Option (List ℕ)) → is_some (word_piece name.loc o) ≡ true → is_some o ≡ true
    bound None h = h
    bound (Some w) h = refl

-- ---- `this` that is no name: an expression begins

this_opening : (t : Token) → (statement (remade t (Word (codes "this"))) ≡ None) × Opening (remade t (Word (codes "this")))
unfolding is_keyword reserved_word
this_opening t = (refl, record { no_inner = refl; no_name = refl; no_first = refl; no_later = refl; no_join = refl })

pub this_begins : (ts : List Token) (t : Token) (c d : Config) → run Start ts ≡ Some c → is_word (codes "this") t ≡ true → at_any_name c ≡ false → turn c t ≡ Some d → (fs : List Frame) × (turn c t ≡ want t fs)
this_begins ts t c d ran is unnamed h =
    let found = opening_turn {Q = Wanted_} t o.1 (λ fs x k. (fs, k)) (λ fs x k. (InExpression t.loc ∷ fs, sym (ap (λ y. begin_by y t fs) o.0) ∙ k)) c (come_to ts c ran) unnamed d h in
    (found.0, h ∙ sym found.1)
  where
    Wanted_ : Config → Type 0
    Wanted_ x = (fs : List Frame) × (want t fs ≡ Some x)

    o : (statement t ≡ None) × Opening t
    o = of_kind (λ s. (statement s ≡ None) × Opening s) t (Word (codes "this")) (word_is (codes "this") t is) (this_opening t)

-- outside functions it goes on with no sentence, read or not
this_dead : (vs : List Token) (t : Token) (us : List Token) (c : Config) → run Start vs ≡ Some c → is_word (codes "this") t ≡ true → at_any_name c ≡ false → in_no_function c ≡ true → Dead (vs ++ t ∷ us)
this_dead vs t us c ran is unnamed out = by_turn (turn c t) refl
  where
    by_turn : (o : Option Config) → turn c t ≡ o → Dead (vs ++ t ∷ us)
    by_turn None refused = dead (vs ++ t ∷ us) (run_append Start vs (t ∷ us) ∙ ap (λ o. then_run o (λ d. run d (t ∷ us))) ran ∙ first_stops c t us refused)
    by_turn (Some d) read =
        let a = this_begins vs t c d ran is unnamed read in
        let k = word_is (codes "this") t is in
        lost_after ShownAt outer_endless vs (t ∷ us) c ran (this_lost t us c a.0 a.1 k (this_free c t a.0 out k a.1))

-- ---- all of them

-- it stops at one of these tokens
stops_there : (u : Unsupported) (c : Config) (us : List Token) → FineAt c → Stops u c us → run c us ≡ None
stops_there u c us fine (Unsupported.class {t = t} {ts = ts} is unnamed) = stranger_stops t (of_kind Stranger t (Word (codes "class")) (word_is (codes "class") t is) (word_class t)) c ts fine unnamed
stops_there u c us fine (Unsupported.super {t = t} {ts = ts} is unnamed) = stranger_stops t (of_kind Stranger t (Word (codes "super")) (word_is (codes "super") t is) (word_super t)) c ts fine unnamed
stops_there u c us fine (Unsupported.import_ {t = t} {ts = ts} is unnamed) = stranger_stops t (of_kind Stranger t (Word (codes "import")) (word_is (codes "import") t is) (word_import t)) c ts fine unnamed
stops_there u c us fine (Unsupported.export {t = t} {ts = ts} is unnamed) = stranger_stops t (of_kind Stranger t (Word (codes "export")) (word_is (codes "export") t is) (word_export t)) c ts fine unnamed
stops_there u c us fine (Unsupported.new_target {t = t} {dot = dot} {ts = ts} is unnamed is_dot) = new_target_stops t dot c ts fine unnamed (word_is (codes "new") t is) (mark_is P.Dot dot is_dot)
stops_there u c us fine (Unsupported.spread {t = t} {ts = ts} is) = odd_stops P.Ellipsis t c ts fine refl is
stops_there u c us fine (Unsupported.optional_chain {t = t} {ts = ts} is) = odd_stops P.OptionalChain t c ts fine refl is
stops_there u c us fine (Unsupported.logical_assignment {t = t} {ts = ts} is) =
    three (is_mark P.LogicalAndAssign t) (is_mark P.LogicalOrAssign t) (is_mark P.CoalesceAssign t) is (λ q. odd_stops P.LogicalAndAssign t c ts fine refl q) (λ q. odd_stops P.LogicalOrAssign t c ts fine refl q) (λ q. odd_stops P.CoalesceAssign t c ts fine refl q)
stops_there u c us fine (Unsupported.async_function {t = t} {word = word} {ts = ts} is unnamed is_word_ line) = async_function_stops t word c ts fine unnamed (word_is (codes "async") t is) (word_is (codes "function") word is_word_) line
stops_there u c us fine (Unsupported.async_name {t = t} {ts = ts} name arrow is unnamed named_ line is_arrow) = async_name_stops t name arrow c ts fine unnamed (word_is (codes "async") t is) named_ line (mark_is P.Arrow arrow is_arrow)
stops_there u c us fine (Unsupported.async_arguments {t = t} f fs opening closing_ arrow ts begins takes is is_opening line dxs is_closing is_arrow) =
    arguments_stop t opening closing_ arrow c f fs ts fine begins (word_is (codes "async") t is) (mark_is P.OpenParenthesis opening is_opening) dxs (mark_is P.CloseParenthesis closing_ is_closing) (mark_is P.Arrow arrow is_arrow)
stops_there u c us fine (Unsupported.async_refused {t = t} {tx = tx} opening closing_ arrow ts refused is unnamed is_opening line dxs is_closing is_arrow) = first_stops c t (opening ∷ (tx ++ closing_ ∷ arrow ∷ ts)) refused
stops_there u c us fine (Unsupported.async_method {t = t} {key = key} {ts = ts} is at key_is line) = word_key_stops t key (codes "async") c ts (word_is (codes "async") t is) at key_is
stops_there u c us fine (Unsupported.generator {t = t} {star = star} {ts = ts} is unnamed is_star) = generator_stops t star c ts fine unnamed (word_is (codes "function") t is) (mark_is P.Star star is_star)
stops_there u c us fine (Unsupported.generator_method {t = t} {ts = ts} is at) = star_stops t c ts (mark_is P.Star t is) at
stops_there u c us fine (Unsupported.accessor {t = t} {key = key} {ts = ts} is at key_is) =
    either_of (is_word (codes "get") t) (is_word (codes "set") t) is (λ q. word_key_stops t key (codes "get") c ts (word_is (codes "get") t q) at key_is) (λ q. word_key_stops t key (codes "set") c ts (word_is (codes "set") t q) at key_is)
stops_there u c us fine (Unsupported.bigint {t = t} {ts = ts} is) = bigint_stops t c ts fine is
stops_there u c us fine (Unsupported.elision {t = t} {ts = ts} is at) = elision_stops t c ts fine (mark_is P.Comma t is) at
stops_there u c us fine (Unsupported.tagged_template {t = t} {ts = ts} is at) = template_stops t c ts fine is at
stops_there u c us fine (Unsupported.binding {t = t} {ts = ts} is at) =
    either_of (is_mark P.OpenBracket t) (is_mark P.OpenBrace t) is
    (λ q. binding_stops t c ts at (of_kind Unnamed t (T.Punctuator P.OpenBracket) (mark_is P.OpenBracket t q) (unnamed_bracket t)))
    (λ q. binding_stops t c ts at (of_kind Unnamed t (T.Punctuator P.OpenBrace) (mark_is P.OpenBrace t q) (unnamed_brace t)))
stops_there u c us fine (Unsupported.shorthand {t = t} {sign = sign} {ts = ts} name at is) = shorthand_stops t sign c ts name at (mark_is P.Assign sign is)
stops_there u c us fine (Unsupported.target_after {i = i} {e = e} {l = l} {t = t} {te = te} f fs next ts begins fit de is at go) = let a = parenthesized_facts e is in updated_stops c i e l t te f fs next ts begins fit de a.0 a.1 at go

pub stops_run : (u : Unsupported) (ts us : List Token) (c : Config) → run Start ts ≡ Some c → Stops u c us → run c us ≡ None
stops_run u ts us c h s = stops_there u c us (come_to ts c h) s

-- no sentence goes on with any
pub begins_dead : (u : Unsupported) (ts us : List Token) (c : Config) → run Start ts ≡ Some c → Begins u c us → Dead (ts ++ us)
begins_dead u vs us c h (Unsupported.at_once s) = dead (vs ++ us) (run_append Start vs us ∙ ap (λ o. then_run o (λ d. run d us)) h ∙ stops_run u vs us c h s)
begins_dead u vs us c h (Unsupported.proto {t = t} {colon = colon} {w = w} {l = l} {ss = ss} {ps = ps} {fs = fs} {ts = ts} is is_colon) = lost_after Doomed doomed_endless vs us c h (proto_lost t colon w l ss ps fs ts is (mark_is P.Colon colon is_colon))
begins_dead u vs us c h (Unsupported.target_before {i = i} {e = e} {l = l} {t = t} {te = te} f fs sign ts begins fit de is assigned go) = let a = parenthesized_facts e is in lost_after Doomed doomed_endless vs us c h (assigned_lost c i e l t te f fs sign ts begins fit de a.0 a.1 assigned go)
begins_dead u vs us c h (Unsupported.target_in_head {i = i} {e = e} {l = l} {t = t} {te = te} f fs word ts begins fit de is at each_) = let a = parenthesized_facts e is in lost_after Doomed doomed_endless vs us c h (head_lost c i e l t te f fs word ts begins fit de a.0 a.1 at each_)
begins_dead u vs us c h (Unsupported.literal {i = i} {e = e} {l = l} {t = t} {te = te} f fs sign ts begins fit de is assigned go) = let a = literal_facts e is in lost_after Doomed doomed_endless vs us c h (assigned_lost c i e l t te f fs sign ts begins fit de a.0 a.1 (assign_assigns sign assigned) go)
begins_dead u vs us c h (Unsupported.literal_in_head {i = i} {e = e} {l = l} {t = t} {te = te} f fs word ts begins fit de is at each_) = let a = literal_facts e is in lost_after Doomed doomed_endless vs us c h (head_lost c i e l t te f fs word ts begins fit de a.0 a.1 at each_)
begins_dead u vs us c h (Unsupported.parameter {t = t} f fs closing_ arrow ts begins takes dxs is is_closing is_arrow line) = lost_after Doomed doomed_endless vs us c h (parameter_lost c t f fs closing_ arrow ts begins takes dxs is (mark_is P.CloseParenthesis closing_ is_closing) (both_true is_arrow (ap not line)))
begins_dead u vs us c h (Unsupported.this_outside {t = t} {ts = us_} is unnamed out) = this_dead vs t us_ c h is unnamed out
