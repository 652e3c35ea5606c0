-- What a reader keeps of the turns is what the finds of the definition look at.
use Rattle.std.proofs.Common.{◌≡◌, Bool, true, false, List, [], ◌∷◌, ◌++◌, Some, None, if◌then◌else◌, refl, sym, ap, ◌∙◌}
use Rattle.std.specs.Prelude.{◌&&◌, ◌||◌}
use Rattle.js_terms.specs.declared.place.Loc.{Loc}
use Rattle.js_text.specs.Token.{Token}
use Rattle.js_lexer.specs.Token.{plain_token}
use Rattle.js_text.specs.declared.punctuator.Punctuator.TheVariants as P
use Rattle.js_reading.specs.Productions.{is_mark, is_proto_word}
use Rattle.js_reading.specs.Turns.{Config}
use Rattle.js_reading.specs.declared.unsupported.Unsupported.TheVariants.{Proto}
use Rattle.js_reading.specs.Found.{Turns, when, at_object, same_start, starts, opens_call, asyncs, proto_key}
use Rattle.js_parser.specs.declared.recent.Turn.{Turn}
use Rattle.js_parser.specs.Recent.{Recalls, SameStarts}

-- a location more at the end
starts_more : (l m : Loc) (ms : List Loc) → starts l (ms ++ m ∷ []) ≡ (same_start l m || starts l ms)
starts_more l m [] = refl
starts_more l m (x ∷ ms) = ap (λ b. same_start l x || b) (starts_more l m ms) ∙ swap (same_start l x) (same_start l m) (starts l ms)
  where
    swap : (a b d : Bool) → (a || (b || d)) ≡ (b || (a || d))
    swap true true d = refl
    swap true false d = refl
    swap false b d = refl

if_so : (b : Bool) (l : Loc) (x : Loc) (xs : List Loc) → b ≡ true → starts l (if b then x ∷ xs else xs) ≡ starts l (x ∷ xs)
if_so b l x xs h = ap (λ a. starts l (if a then x ∷ xs else xs)) h

if_not : (b : Bool) (l : Loc) (x : Loc) (xs : List Loc) → b ≡ false → starts l (if b then x ∷ xs else xs) ≡ starts l xs
if_not b l x xs h = ap (λ a. starts l (if a then x ∷ xs else xs)) h

-- the `async` words that are kept, with a turn more: the last token is one more, or none is
pub async_more : (r : Turn) (turns : Turns) (c : Config) (t : Token) (ms ns : List Loc) → Recalls (Some r) turns → opens_call (plain_token r.token) t ≡ true → SameStarts ms (asyncs turns) → ns ≡ ms ++ r.token.loc ∷ [] → SameStarts ns (asyncs ((c, t) ∷ turns))
async_more r [] c t ms ns recalls opens same is l = absurd recalls
async_more r (x ∷ turns) c t ms ns recalls opens same is l =
    let loc : r.token.loc ≡ x.1.loc = ap (λ (u : Token). u.loc) recalls.1 in
    ap (starts l) is
    ∙ starts_more l r.token.loc ms
    ∙ ap (λ b. same_start l r.token.loc || b) (same l)
    ∙ ap (λ m. same_start l m || starts l (asyncs (x ∷ turns))) loc
    ∙ sym (if_so (opens_call x.1 t) l x.1.loc (asyncs (x ∷ turns)) (sym (ap (λ u. opens_call u t) recalls.1) ∙ opens))

pub async_kept : (r : Turn) (turns : Turns) (c : Config) (t : Token) (ms : List Loc) → Recalls (Some r) turns → opens_call (plain_token r.token) t ≡ false → SameStarts ms (asyncs turns) → SameStarts ms (asyncs ((c, t) ∷ turns))
async_kept r [] c t ms recalls opens same l = absurd recalls
async_kept r (x ∷ turns) c t ms recalls opens same l = same l ∙ sym (if_not (opens_call x.1 t) l x.1.loc (asyncs (x ∷ turns)) (sym (ap (λ u. opens_call u t) recalls.1) ∙ opens))

pub async_none : (turns : Turns) (c : Config) (t : Token) (ms : List Loc) → Recalls None turns → SameStarts ms (asyncs turns) → SameStarts ms (asyncs ((c, t) ∷ turns))
async_none [] c t ms recalls same l = same l
async_none (x ∷ turns) c t ms recalls same l = absurd recalls

-- a key `__proto__` stands in an object alone
pub no_object : (c : Config) (t next : Token) → at_object c ≡ false → None ≡ proto_key c t next
no_object c t next h = sym (ap (λ b. when b Proto t.loc) (ap (λ b. is_proto_word t.kind && (b && is_mark P.Colon next)) h ∙ none (is_proto_word t.kind)))
  where
    none : (b : Bool) → (b && false) ≡ false
    none true = refl
    none false = refl
