-- What may be left of a production, at a place that the machine comes to: which slots, and how an expression's production ends.
use Rattle.std.proofs.Common.{◌≡◌, ℕ, Bool, true, false, not, ◌&&◌, List, [], ◌∷◌, ◌++◌, Some, codes, refl, sym, ap, subst, ◌∙◌}
use Rattle.std.specs.Prelude.{nat_le, ◌||◌}
use Rattle.std.specs.Str.{bytes_eq}
use Rattle.std.proofs.lemmas.Bool.{true≢false, and_parts}
use Rattle.js_text.specs.Token.{Token, Kind, Word, End}
use Rattle.js_text.specs.Token as T
use Rattle.js_text.specs.declared.punctuator.Punctuator.{Punctuator}
use Rattle.js_text.specs.declared.punctuator.Punctuator.TheVariants as P
use Rattle.js_reading.specs.Slots.{Wanted, Level, WithoutIn, Callee, Slot, Sign, Text, Expr_, Stmt_, Stmts_, Items_, Place_, By, Piece, Branch, Refuse, Pass, Go, Form, Choice, Class, BoundName, AnyName, Key, FirstText, LaterText}
use Rattle.js_reading.specs.Slots as slot
use Rattle.js_reading.specs.Productions.{call, slots, prefix, prefixes, statement, statements, join, joins, as_it_is, after_first}
use Rattle.js_reading.specs.Choices.{branch}
use Rattle.js_reading.proofs.sentences.Branches.{branches, each, among}
use Rattle.js_reading.proofs.sentences.Shapes.{closing, find_all, join_found, both_true}
use Rattle.js_reading.proofs.levels.Makings.{is_first, is_join}

-- ---- tokens that stand within a production

abbrev pub inner_word : List ℕ → Bool
inner_word w =
    bytes_eq w (codes "else") || (bytes_eq w (codes "while") || (bytes_eq w (codes "case") || (bytes_eq w (codes "default") || (bytes_eq w (codes "catch") || (bytes_eq w (codes "finally") ||
    (bytes_eq w (codes "var") || (bytes_eq w (codes "let") || (bytes_eq w (codes "const") || (bytes_eq w (codes "in") || bytes_eq w (codes "of"))))))))))

abbrev pub inner_mark : Punctuator → Bool
inner_mark P.OpenBrace = true
inner_mark P.CloseBrace = true
inner_mark P.OpenParenthesis = true
inner_mark P.CloseParenthesis = true
inner_mark P.CloseBracket = true
inner_mark P.OpenBracket = true
inner_mark P.Semicolon = true
inner_mark P.Comma = true
inner_mark P.Colon = true
inner_mark P.Assign = true
inner_mark P.Arrow = true
inner_mark p = false

-- the token of a slot that isn't the first of its production
abbrev pub sign_kind : Kind → Bool
sign_kind (Word w) = inner_word w
sign_kind (T.Punctuator p) = inner_mark p
sign_kind k = false

-- or the end
abbrev pub inner_kind : Kind → Bool
inner_kind (Word w) = inner_word w
inner_kind (T.Punctuator p) = inner_mark p
inner_kind End = true
inner_kind k = false

pub sign_inner : (k : Kind) → sign_kind k ≡ true → inner_kind k ≡ true
sign_inner (Word w) h = h
sign_inner (T.Punctuator p) h = h
sign_inner k h = absurd (true≢false (sym h))

-- ---- names stand first, or behind a token, and a template's next part behind an expression

abbrev pub nameless : List Slot → Bool
nameless (Text AnyName ∷ ss) = false
nameless (Text Key ∷ ss) = false
nameless (Text LaterText ∷ ss) = false
nameless (By slot.Properties ∷ ss) = false
nameless (By slot.TemplateRest ∷ ss) = false
nameless ss = true

abbrev pub is_rest : List Slot → Bool
is_rest (By slot.TemplateRest ∷ ss) = true
is_rest ss = false

abbrev pub later_next : List Slot → Bool
later_next (Text LaterText ∷ ss) = true
later_next (Text Key ∷ ss) = true
later_next (By slot.TemplateRest ∷ ss) = true
later_next ss = false

abbrev pub sure : List Slot → Bool
sure [] = true
sure (Sign k ∷ ss) = sign_kind k && (not (later_next ss) && sure ss)
sure (Items_ p ∷ ss) = closing p && (nameless ss && sure ss)
sure (Expr_ w ∷ ss) = (nameless ss || is_rest ss) && sure ss
sure (s ∷ ss) = nameless ss && sure ss

abbrev pub sure_branch : Branch → Bool
sure_branch (Go qs s rs) = sure (s ∷ rs)
sure_branch b = true

sure_branches : (c : Choice) → each sure_branch (branches c) ≡ true
sure_branches slot.Semicolon = refl
sure_branches c = refl

nameless_append : (rs ss : List Slot) → nameless rs ≡ true → nameless ss ≡ true → nameless (rs ++ ss) ≡ true
nameless_append [] ss h k = k
nameless_append (Text BoundName ∷ rs) ss h k = refl
nameless_append (Text AnyName ∷ rs) ss h k = absurd (true≢false (sym h))
nameless_append (Text Key ∷ rs) ss h k = absurd (true≢false (sym h))
nameless_append (Text LaterText ∷ rs) ss h k = absurd (true≢false (sym h))
nameless_append (Text c ∷ rs) ss h k = refl
nameless_append (By slot.Properties ∷ rs) ss h k = absurd (true≢false (sym h))
nameless_append (By slot.TemplateRest ∷ rs) ss h k = absurd (true≢false (sym h))
nameless_append (r ∷ rs) ss h k = refl

-- a name is next nowhere, or a template's next part
pub either_of : {A : Type 0} (x y : Bool) → (x || y) ≡ true → (x ≡ true → A) → (y ≡ true → A) → A
either_of true y h f g = f refl
either_of false y h f g = g h

rest_append : (rs ss : List Slot) → is_rest rs ≡ true → is_rest (rs ++ ss) ≡ true
rest_append (By slot.TemplateRest ∷ rs) ss h = refl
rest_append rs ss h = absurd (true≢false (sym h))

or_one : (x y : Bool) → x ≡ true → (x || y) ≡ true
or_one x y h = ap (λ b. b || y) h

or_two : (x y : Bool) → y ≡ true → (x || y) ≡ true
or_two true y h = refl
or_two false y h = h

pub none_later : (ss : List Slot) → nameless ss ≡ true → not (later_next ss) ≡ true
none_later (Text LaterText ∷ ss) h = h
none_later (Text Key ∷ ss) h = h
none_later (By slot.TemplateRest ∷ ss) h = h
none_later ss h = refl

later_append : (rs ss : List Slot) → not (later_next rs) ≡ true → nameless ss ≡ true → not (later_next (rs ++ ss)) ≡ true
later_append [] ss h n = none_later ss n
later_append (Text LaterText ∷ rs) ss h n = h
later_append (Text Key ∷ rs) ss h n = h
later_append (By slot.TemplateRest ∷ rs) ss h n = h
later_append (r ∷ rs) ss h n = refl

pub sure_append : (rs ss : List Slot) → sure rs ≡ true → nameless ss ≡ true → sure ss ≡ true → sure (rs ++ ss) ≡ true
sure_append [] ss h n k = k
sure_append (Sign j ∷ rs) ss h n k =
    let a = and_parts (sign_kind j) (not (later_next rs) && sure rs) h in let b = and_parts (not (later_next rs)) (sure rs) a.1 in both_true a.0 (both_true (later_append rs ss b.0 n) (sure_append rs ss b.1 n k))
sure_append (Items_ p ∷ rs) ss h n k =
    let a = and_parts (closing p) (nameless rs && sure rs) h in let b = and_parts (nameless rs) (sure rs) a.1 in both_true a.0 (both_true (nameless_append rs ss b.0 n) (sure_append rs ss b.1 n k))
sure_append (Expr_ w ∷ rs) ss h n k =
    let b = and_parts (nameless rs || is_rest rs) (sure rs) h in
    both_true (either_of (nameless rs) (is_rest rs) b.0 (λ q. or_one (nameless (rs ++ ss)) (is_rest (rs ++ ss)) (nameless_append rs ss q n)) (λ q. or_two (nameless (rs ++ ss)) (is_rest (rs ++ ss)) (rest_append rs ss q))) (sure_append rs ss b.1 n k)
sure_append (r ∷ rs) ss h n k = let b = and_parts (nameless rs) (sure rs) h in both_true (nameless_append rs ss b.0 n) (sure_append rs ss b.1 n k)

pub sure_chosen : (c : Choice) (t : Token) (qs : List Piece) (s : Slot) (rs ss : List Slot) → branch c t ≡ Go qs s rs → nameless ss ≡ true → sure ss ≡ true → sure (s ∷ (rs ++ ss)) ≡ true
sure_chosen c t qs s rs ss h n k = sure_append (s ∷ rs) ss (subst (λ b. sure_branch b ≡ true) h (among c t sure_branch (sure_branches c))) n k

pub sure_rest : (s : Slot) (ss : List Slot) → sure (s ∷ ss) ≡ true → sure ss ≡ true
sure_rest (Sign k) ss h = (and_parts (not (later_next ss)) (sure ss) (and_parts (sign_kind k) (not (later_next ss) && sure ss) h).1).1
sure_rest (Items_ p) ss h = (and_parts (nameless ss) (sure ss) (and_parts (closing p) (nameless ss && sure ss) h).1).1
sure_rest (Expr_ w) ss h = (and_parts (nameless ss || is_rest ss) (sure ss) h).1
sure_rest s ss h = (and_parts (nameless ss) (sure ss) h).1

-- what is left after a token
abbrev pub sure_due : List Slot → Bool
sure_due ss = not (later_next ss) && sure ss

abbrev pub is_token : Slot → Bool
is_token (Sign k) = true
is_token (Text c) = true
is_token (Items_ p) = true
is_token s = false

pub due_rest : (s : Slot) (ss : List Slot) → is_token s ≡ true → sure (s ∷ ss) ≡ true → sure_due ss ≡ true
due_rest (Sign k) ss is h = (and_parts (sign_kind k) (not (later_next ss) && sure ss) h).1
due_rest (Text c) ss is h = let a = and_parts (nameless ss) (sure ss) h in both_true (none_later ss a.0) a.1
due_rest (Items_ p) ss is h = let a = and_parts (nameless ss) (sure ss) (and_parts (closing p) (nameless ss && sure ss) h).1 in both_true (none_later ss a.0) a.1
due_rest s ss is h = absurd (true≢false (sym is))

-- ---- an expression's production

abbrev pub makes : Form → Bool
makes f = is_first f || is_join f

-- one that ends with a token of its own; with a part; an arrow
abbrev pub tight : Form → Bool
tight slot.ArrayLiteral = true
tight slot.ObjectLiteral = true
tight slot.Template = true
tight slot.FunctionExpression = true
tight slot.New = true
tight slot.Call = true
tight slot.Dot = true
tight slot.Member = true
tight (slot.Postfix o) = true
tight f = false

abbrev pub arrows : Form → Bool
arrows slot.Parentheses = true
arrows slot.ArrowOfName = true
arrows f = false

abbrev pub is_parentheses : Form → Bool
is_parentheses slot.Parentheses = true
is_parentheses f = false

abbrev pub is_new : Form → Bool
is_new slot.New = true
is_new f = false

abbrev pub is_callee : Wanted → Bool
is_callee Callee = true
is_callee w = false

abbrev pub is_template_form : Form → Bool
is_template_form slot.Template = true
is_template_form f = false

-- a choice that takes the next token; one that may pass it, in an expression's production before what takes it
abbrev pub firm : Choice → Bool
firm slot.ConciseBody = true
firm slot.Parameters = true
firm slot.AfterParameter = true
firm slot.Properties = true
firm slot.AfterProperty = true
firm c = false

-- the next token but a name, or one after it, is of this production
abbrev pub held : List Slot → Bool
held [] = false
held (Place_ ∷ ss) = held ss
held (By c ∷ ss) = firm c || held ss
held (s ∷ ss) = true

-- the production may end here
abbrev pub over : Form → List Slot → Bool
over f [] = tight f
over f (Place_ ∷ []) = tight f || arrows f
over f (By slot.Arrow ∷ []) = is_parentheses f
over f ss = false

-- what may stand after its part
abbrev pub after : Form → Wanted → List Slot → Bool
after f w [] = not (tight f)
after f w (By slot.TemplateRest ∷ []) = is_template_form f
after f w (By slot.Arguments ∷ []) = is_callee w && is_new f
after f w ss = held ss

abbrev pub by_choice : Form → Choice → List Slot → Bool
by_choice f slot.Arguments [] = is_new f && tight f
by_choice f slot.Arrow [] = is_parentheses f && (arrows f && not (tight f))
by_choice f slot.ConciseBody [] = arrows f && not (tight f)
by_choice f slot.TemplateRest [] = is_template_form f && tight f
by_choice f slot.Initializer ss = held ss
by_choice f slot.FunctionName ss = held ss
by_choice f slot.Parameters ss = held ss
by_choice f slot.AfterParameter ss = held ss
by_choice f slot.AfterKey ss = held ss
by_choice f slot.Properties ss = held ss || over f ss
by_choice f slot.AfterProperty ss = held ss || over f ss
by_choice f c ss = false

abbrev pub well : Form → List Slot → Bool
well f [] = true
well f (Place_ ∷ ss) = well f ss
well f (Stmts_ ∷ ss) = well f ss
well f (Stmt_ ∷ ss) = false
well f (Expr_ w ∷ ss) = after f w ss && well f ss
well f (By c ∷ ss) = by_choice f c ss && well f ss
well f (s ∷ ss) = (held ss || over f ss) && well f ss

-- what is left after a token
abbrev pub due_well : Form → List Slot → Bool
due_well f ss = (held ss || over f ss) && well f ss

abbrev pub well_branch : Form → List Slot → Branch → Bool
well_branch f ss (Go qs s rs) = well f (s ∷ (rs ++ ss))
well_branch f ss b = true

well_branches : (f : Form) (c : Choice) (ss : List Slot) → by_choice f c ss ≡ true → well f ss ≡ true → each (well_branch f ss) (branches c) ≡ true
well_branches f slot.Arguments [] h w = let a = and_parts (is_new f) (tight f) h in both_true (both_true a.1 refl) refl
well_branches f slot.Arrow [] h w = let a = and_parts (is_parentheses f) (arrows f && not (tight f)) h in both_true (both_true a.1 refl) refl
well_branches f slot.ConciseBody [] h w = let a = and_parts (arrows f) (not (tight f)) h in both_true (both_true (or_two (tight f) (arrows f) a.0) refl) (both_true (both_true a.1 refl) refl)
well_branches f slot.TemplateRest [] h w = let a = and_parts (is_template_form f) (tight f) h in both_true (both_true a.0 (both_true h refl)) (both_true (both_true a.1 refl) refl)
well_branches f slot.Initializer ss h w = both_true (both_true h w) refl
well_branches f slot.FunctionName ss h w = both_true (both_true (or_one (held ss) (over f ss) h) w) refl
well_branches f slot.Parameters ss h w = both_true (both_true (or_one (held ss) (over f ss) h) w) (both_true (both_true h w) refl)
well_branches f slot.AfterParameter ss h w = both_true (both_true h w) (both_true (both_true (or_one (held ss) (over f ss) h) w) refl)
well_branches f slot.AfterKey ss h w = both_true (both_true h w) (both_true (both_true (or_one (held ss) (over f (Place_ ∷ ss)) h) w) refl)
well_branches f slot.Properties ss h w = both_true (both_true h w) (both_true (both_true h w) (both_true (both_true h w) refl))
well_branches f slot.AfterProperty ss h w = both_true (both_true h w) (both_true (both_true h w) refl)
well_branches f slot.Arguments (s ∷ ss) h w = absurd (true≢false (sym h))
well_branches f slot.Arrow (s ∷ ss) h w = absurd (true≢false (sym h))
well_branches f slot.ConciseBody (s ∷ ss) h w = absurd (true≢false (sym h))
well_branches f slot.TemplateRest (s ∷ ss) h w = absurd (true≢false (sym h))
well_branches f c ss h w = absurd (true≢false (sym h))

pub well_chosen : (f : Form) (c : Choice) (t : Token) (qs : List Piece) (s : Slot) (rs ss : List Slot) → branch c t ≡ Go qs s rs → by_choice f c ss ≡ true → well f ss ≡ true → well f (s ∷ (rs ++ ss)) ≡ true
well_chosen f c t qs s rs ss h b w = subst (λ x. well_branch f ss x ≡ true) h (among c t (well_branch f ss) (well_branches f c ss b w))

-- ---- after an expression, and after a name that is bound, a sign is next, or the production is over

-- a choice that takes the next token, but for a missing `;`; one that takes a sign or passes
abbrev pub settles : Choice → Bool
settles slot.Semicolon = true
settles slot.AfterParameter = true
settles slot.AfterProperty = true
settles slot.TemplateRest = true
settles slot.AfterTarget = true
settles slot.AfterBound = true
settles c = false

abbrev pub steady : Choice → Bool
steady slot.Arguments = true
steady slot.Initializer = true
steady slot.InitializerInHead = true
steady slot.Declarators = true
steady slot.DeclaratorsInHead = true
steady c = false

-- one whose branches end with no expression and no name
abbrev pub ready : Choice → Bool
ready slot.ValueOnLine = false
ready slot.LabelOnLine = false
ready (slot.ValueBefore p) = false
ready slot.Arrow = false
ready slot.ConciseBody = false
ready slot.Initializer = false
ready slot.InitializerInHead = false
ready slot.Declarators = false
ready slot.DeclaratorsInHead = false
ready slot.FunctionName = false
ready slot.AfterKey = false
ready c = true

-- a mark, and no arrow
abbrev pub plain_sign : Kind → Bool
plain_sign (T.Punctuator P.Arrow) = false
plain_sign (T.Punctuator p) = true
plain_sign k = false

abbrev pub calm : Bool → List Slot → Bool
calm b [] = b
calm b (Sign k ∷ ss) = plain_sign k
calm b (Place_ ∷ ss) = calm b ss
calm b (By c ∷ ss) = settles c || (steady c && calm b ss)
calm b ss = false

abbrev pub follows : Bool → List Slot → Bool
follows b [] = true
follows b (Expr_ w ∷ ss) = calm b ss && follows b ss
follows b (Text BoundName ∷ ss) = calm b ss && follows b ss
follows b (By c ∷ ss) = (ready c || calm b ss) && follows b ss
follows b (s ∷ ss) = follows b ss

calm_append : (b x : Bool) (rs ss : List Slot) → (b ≡ true → calm x ss ≡ true) → calm b rs ≡ true → calm x (rs ++ ss) ≡ true
calm_append b x [] ss h k = h k
calm_append b x (Sign j ∷ rs) ss h k = k
calm_append b x (Place_ ∷ rs) ss h k = calm_append b x rs ss h k
calm_append b x (By c ∷ rs) ss h k =
    either_of (settles c) (steady c && calm b rs) k (λ q. or_one (settles c) (steady c && calm x (rs ++ ss)) q)
    (λ q. let a = and_parts (steady c) (calm b rs) q in or_two (settles c) (steady c && calm x (rs ++ ss)) (both_true a.0 (calm_append b x rs ss h a.1)))
calm_append b x (Text c ∷ rs) ss h k = absurd (true≢false (sym k))
calm_append b x (Expr_ w ∷ rs) ss h k = absurd (true≢false (sym k))
calm_append b x (Stmt_ ∷ rs) ss h k = absurd (true≢false (sym k))
calm_append b x (Stmts_ ∷ rs) ss h k = absurd (true≢false (sym k))
calm_append b x (Items_ p ∷ rs) ss h k = absurd (true≢false (sym k))

follows_append : (b x : Bool) (rs ss : List Slot) → (b ≡ true → calm x ss ≡ true) → follows x ss ≡ true → follows b rs ≡ true → follows x (rs ++ ss) ≡ true
follows_append b x [] ss h f k = f
follows_append b x (Expr_ w ∷ rs) ss h f k = let a = and_parts (calm b rs) (follows b rs) k in both_true (calm_append b x rs ss h a.0) (follows_append b x rs ss h f a.1)
follows_append b x (Text BoundName ∷ rs) ss h f k = let a = and_parts (calm b rs) (follows b rs) k in both_true (calm_append b x rs ss h a.0) (follows_append b x rs ss h f a.1)
follows_append b x (By c ∷ rs) ss h f k =
    let a = and_parts (ready c || calm b rs) (follows b rs) k in
    both_true (either_of (ready c) (calm b rs) a.0 (λ q. or_one (ready c) (calm x (rs ++ ss)) q) (λ q. or_two (ready c) (calm x (rs ++ ss)) (calm_append b x rs ss h q))) (follows_append b x rs ss h f a.1)
follows_append b x (Text c ∷ rs) ss h f k = follows_append b x rs ss h f k
follows_append b x (Sign j ∷ rs) ss h f k = follows_append b x rs ss h f k
follows_append b x (Place_ ∷ rs) ss h f k = follows_append b x rs ss h f k
follows_append b x (Stmt_ ∷ rs) ss h f k = follows_append b x rs ss h f k
follows_append b x (Stmts_ ∷ rs) ss h f k = follows_append b x rs ss h f k
follows_append b x (Items_ p ∷ rs) ss h f k = follows_append b x rs ss h f k

abbrev pub follows_branch : Bool → Branch → Bool
follows_branch b (Go qs s rs) = follows b (s ∷ rs)
follows_branch b x = true

follows_branches : (c : Choice) → each (follows_branch (not (ready c))) (branches c) ≡ true
follows_branches slot.Semicolon = refl
follows_branches c = refl

pub follows_chosen : (x : Bool) (c : Choice) (t : Token) (qs : List Piece) (s : Slot) (rs ss : List Slot) → branch c t ≡ Go qs s rs → follows x (By c ∷ ss) ≡ true → follows x (s ∷ (rs ++ ss)) ≡ true
follows_chosen x c t qs s rs ss h k =
    let a = and_parts (ready c || calm x ss) (follows x ss) k in
    follows_append (not (ready c)) x (s ∷ rs) ss (λ q. either_of (ready c) (calm x ss) a.0 (λ y. absurd (true≢false (sym q ∙ ap not y))) (λ y. y)) a.1 (subst (λ b. follows_branch (not (ready c)) b ≡ true) h (among c t (follows_branch (not (ready c))) (follows_branches c)))

follows_text : (x : Bool) (c : Class) (ss : List Slot) → follows x (Text c ∷ ss) ≡ true → follows x ss ≡ true
follows_text x BoundName ss h = (and_parts (calm x ss) (follows x ss) h).1
follows_text x c ss h = h

pub follows_rest : (x : Bool) (s : Slot) (ss : List Slot) → follows x (s ∷ ss) ≡ true → follows x ss ≡ true
follows_rest x (Expr_ w) ss h = (and_parts (calm x ss) (follows x ss) h).1
follows_rest x (Text c) ss h = follows_text x c ss h
follows_rest x (By c) ss h = (and_parts (ready c || calm x ss) (follows x ss) h).1
follows_rest x s ss h = h

-- ---- no arrow stands behind a part: `=>` is taken where it is chosen, behind parentheses

abbrev pub is_arrow : Kind → Bool
is_arrow (T.Punctuator P.Arrow) = true
is_arrow k = false

abbrev pub is_arrow_choice : Choice → Bool
is_arrow_choice slot.Arrow = true
is_arrow_choice c = false

-- none before the next slot that takes a token
abbrev pub arrowless : List Slot → Bool
arrowless [] = true
arrowless (Place_ ∷ ss) = arrowless ss
arrowless (Stmts_ ∷ ss) = arrowless ss
arrowless (By c ∷ ss) = not (is_arrow_choice c) && arrowless ss
arrowless (Sign k ∷ ss) = not (is_arrow k)
arrowless (Items_ p ∷ ss) = not (is_arrow (T.Punctuator p))
arrowless (s ∷ ss) = true

-- an argument list goes on with the expression, or stands behind the callee
abbrev pub open_to : Wanted → List Slot → Bool
open_to (Level n) ss = nat_le n call
open_to (WithoutIn n) ss = nat_le n call
open_to Callee (By slot.Arguments ∷ ss) = true
open_to Callee ss = false

abbrev pub tame : List Slot → Bool
tame [] = true
tame (Expr_ w ∷ ss) = open_to w ss && (arrowless ss && tame ss)
tame (s ∷ ss) = (is_token s || arrowless ss) && tame ss

arrowless_append : (rs ss : List Slot) → arrowless rs ≡ true → arrowless ss ≡ true → arrowless (rs ++ ss) ≡ true
arrowless_append [] ss h k = k
arrowless_append (Place_ ∷ rs) ss h k = arrowless_append rs ss h k
arrowless_append (Stmts_ ∷ rs) ss h k = arrowless_append rs ss h k
arrowless_append (By c ∷ rs) ss h k = let a = and_parts (not (is_arrow_choice c)) (arrowless rs) h in both_true a.0 (arrowless_append rs ss a.1 k)
arrowless_append (Sign j ∷ rs) ss h k = h
arrowless_append (Items_ p ∷ rs) ss h k = h
arrowless_append (r ∷ rs) ss h k = refl

open_append : (w : Wanted) (rs ss : List Slot) → open_to w rs ≡ true → open_to w (rs ++ ss) ≡ true
open_append (Level n) rs ss h = h
open_append (WithoutIn n) rs ss h = h
open_append Callee (By slot.Arguments ∷ rs) ss h = refl
open_append Callee rs ss h = absurd (true≢false (sym h))

tame_append : (rs ss : List Slot) → tame rs ≡ true → arrowless ss ≡ true → tame ss ≡ true → tame (rs ++ ss) ≡ true
tame_append [] ss h n k = k
tame_append (Expr_ w ∷ rs) ss h n k =
    let a = and_parts (open_to w rs) (arrowless rs && tame rs) h in let b = and_parts (arrowless rs) (tame rs) a.1 in
    both_true (open_append w rs ss a.0) (both_true (arrowless_append rs ss b.0 n) (tame_append rs ss b.1 n k))
tame_append (r ∷ rs) ss h n k =
    let a = and_parts (is_token r || arrowless rs) (tame rs) h in
    both_true (either_of (is_token r) (arrowless rs) a.0 (λ q. or_one (is_token r) (arrowless (rs ++ ss)) q) (λ q. or_two (is_token r) (arrowless (rs ++ ss)) (arrowless_append rs ss q n))) (tame_append rs ss a.1 n k)

abbrev pub tame_branch : Branch → Bool
tame_branch (Go qs s rs) = tame (s ∷ rs)
tame_branch x = true

tame_branches : (c : Choice) → each tame_branch (branches c) ≡ true
tame_branches slot.Semicolon = refl
tame_branches c = refl

pub tame_chosen : (c : Choice) (t : Token) (qs : List Piece) (s : Slot) (rs ss : List Slot) → branch c t ≡ Go qs s rs → tame (By c ∷ ss) ≡ true → tame (s ∷ (rs ++ ss)) ≡ true
tame_chosen c t qs s rs ss h k = let a = and_parts (arrowless ss) (tame ss) k in tame_append (s ∷ rs) ss (subst (λ b. tame_branch b ≡ true) h (among c t tame_branch (tame_branches c))) a.0 a.1

pub tame_rest : (s : Slot) (ss : List Slot) → tame (s ∷ ss) ≡ true → tame ss ≡ true
tame_rest (Expr_ w) ss h = (and_parts (arrowless ss) (tame ss) (and_parts (open_to w ss) (arrowless ss && tame ss) h).1).1
tame_rest s ss h = (and_parts (is_token s || arrowless ss) (tame ss) h).1

-- ---- what may be left of a production, and after a token

abbrev pub Fine : Form → List Slot → Type 0
Fine f ss = (sure ss ≡ true) × (makes f ≡ true → well f ss ≡ true) × (follows (makes f) ss ≡ true) × (tame ss ≡ true)

abbrev pub DueFine : Form → List Slot → Type 0
DueFine f ss = (sure_due ss ≡ true) × (makes f ≡ true → due_well f ss ≡ true) × (follows (makes f) ss ≡ true) × (tame ss ≡ true)

pub fine_due : (f : Form) (ss : List Slot) → DueFine f ss → Fine f ss
fine_due f ss h = ((and_parts (not (later_next ss)) (sure ss) h.0).1, λ m. (and_parts (held ss || over f ss) (well f ss) (h.1 m)).1, h.2, h.3)

abbrev pub after_second : List Slot → List Slot
after_second ss = after_first (after_first ss)

abbrev pub row_fine : Form → List Slot → Bool
row_fine g ss = sure_due ss && ((not (makes g) || due_well g ss) && (follows (makes g) ss && tame ss))

of_row : (g : Form) (ss : List Slot) → row_fine g ss ≡ true → DueFine g ss
of_row g ss h =
    let a = and_parts (sure_due ss) ((not (makes g) || due_well g ss) && (follows (makes g) ss && tame ss)) h in
    let b = and_parts (not (makes g) || due_well g ss) (follows (makes g) ss && tame ss) a.1 in
    let c = and_parts (follows (makes g) ss) (tame ss) b.1 in
    (a.0, λ m. either_of (not (makes g)) (due_well g ss) b.0 (λ q. absurd (true≢false (sym q ∙ ap not m))) (λ q. q), c.0, c.1)

pub prefix_fine : (t : Token) (f : Form) → prefix t ≡ Some f → DueFine f (after_first (slots f))
prefix_fine t f h = of_row f (after_first (slots f)) (find_all (λ g. row_fine g (after_first (slots g))) as_it_is prefixes t f refl h).0

pub join_fine : (t : Token) (f : Form) → join t ≡ Some f → DueFine f (after_second (slots f))
join_fine t f h = of_row f (after_second (slots f)) (find_all (λ g. row_fine g (after_second (slots g))) after_first joins t f refl (join_found t f h)).0

pub statement_fine : (t : Token) (f : Form) → statement t ≡ Some f → DueFine f (after_first (slots f))
statement_fine t f h = of_row f (after_first (slots f)) (find_all (λ g. row_fine g (after_first (slots g))) as_it_is statements t f refl h).0
