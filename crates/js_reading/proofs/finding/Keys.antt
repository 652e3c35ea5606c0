-- A word that is a key after a modifier is refused, and the property is found with it.
use Rattle.std.proofs.Common.{◌≡◌, Bool, true, false, not, ◌&&◌, List, [], ◌∷◌, ◌++◌, Some, None, codes, refl, sym, ap, subst, ◌∙◌, append_assoc}
use Rattle.std.specs.Prelude.{is_some, ◌||◌}
use Rattle.std.proofs.lemmas.Bool.{true≢false, and_parts}
use Rattle.js_text.specs.Token.{Token, Kind, Word}
use Rattle.js_text.specs.Token as T
use Rattle.js_text.specs.declared.punctuator.Punctuator.TheVariants as P
use Rattle.js_reading.specs.Slots.{AnyName, Key}
use Rattle.js_reading.specs.Productions.{is_mark, is_word, is_class, piece_of}
use Rattle.js_reading.specs.Turns.{Config, Start, run}
use Rattle.js_reading.specs.Unsupported
use Rattle.js_reading.specs.Unsupported.{Unsupported, Accessor, Async, Stops, at_property, modifies, KeyIsDue, IsKey}
use Rattle.js_reading.specs.Found.{twos, two, two_back, Turns, Searched}
use Rattle.js_reading.proofs.sentences.Firsts.{remade}
use Rattle.js_reading.proofs.finding.Found.{same_place, after_run, searched_run, last_turn}
use Rattle.js_reading.proofs.refusing.Refusing.{stops_run, three}
use Rattle.js_reading.proofs.sentences.Runs.{nowhere}
use Rattle.js_reading.proofs.sentences.Shapes.{both_true}
use Rattle.js_reading.proofs.finding.Whole.{off_at, fired}

-- a word is a key
word_key : (t : Token) → is_class AnyName t ≡ true → (is_class Key t || is_mark P.OpenBracket t) ≡ true
word_key t h = by_kind t.kind h
  where
    by_kind : (k : Kind) → is_some (piece_of AnyName k t.loc) ≡ true → (is_some (piece_of Key k t.loc) || is_mark P.OpenBracket (remade t k)) ≡ true
    by_kind (Word w) q = refl
    by_kind (T.EscapedWord w) q = refl
    by_kind k q = absurd (true≢false (sym q))

off : (b : Bool) → not b ≡ true → b ≡ false
off false h = refl
off true h = absurd (true≢false (sym h))

one_word : (x y : Bool) → x ≡ true → (x || y) ≡ true
one_word x y h = ap (λ b. b || y) h

other_word : (x y : Bool) → y ≡ true → (x || y) ≡ true
other_word true y h = refl
other_word false y h = h

-- ---- it is refused

keyed_stops : (c : Config) (m key : Token) (us : List Token) → at_property c ≡ true → modifies m key ≡ true → is_class AnyName key ≡ true → (u : Unsupported) × Stops u c (m ∷ key ∷ us)
keyed_stops c m key us at makes is =
    three (is_word (codes "get") m) (is_word (codes "set") m) (is_word (codes "async") m && not key.line_terminator_before) makes (λ q. (Accessor, Unsupported.accessor (one_word (is_word (codes "get") m) (is_word (codes "set") m) q) at (word_key key is))) (λ q. (Accessor, Unsupported.accessor (other_word (is_word (codes "get") m) (is_word (codes "set") m) q) at (word_key key is)))
    (λ q. let a = and_parts (is_word (codes "async") m) (not key.line_terminator_before) q in (Async, Unsupported.async_method a.0 at (word_key key is) (off key.line_terminator_before a.1)))

pub no_key_read : {before : List Token} {d : Config} (t : Token) (vs us : List Token) → run Start (before ++ t ∷ vs) ≡ Some d → IsKey before (t ∷ us) → ⊥
no_key_read {before = before} t vs us ran k =
    let s = keyed_stops k.1.place k.1.modifier t vs k.1.starts k.1.makes k.0 in
    nowhere (sym (ap (λ x. run Start (x ++ t ∷ vs)) k.1.are ∙ ap (λ x. run Start x) (append_assoc k.1.start (k.1.modifier ∷ []) (t ∷ vs)) ∙ after_run k.1.start (k.1.modifier ∷ t ∷ vs) k.1.ran ∙ stops_run s.0 k.1.start (k.1.modifier ∷ t ∷ vs) k.1.place k.1.ran s.1) ∙ ran)

-- ---- the property is found

keyed_found : (c : Config) (m key : Token) → at_property c ≡ true → modifies m key ≡ true → is_class AnyName key ≡ true → two c m key ≡ None → ⊥
keyed_found c m key at makes is none =
    three (is_word (codes "get") m) (is_word (codes "set") m) (is_word (codes "async") m && not key.line_terminator_before) makes (λ q. fired _ (both_true (one_word (is_word (codes "get") m) (is_word (codes "set") m) q) (both_true at (word_key key is))) (off_at (twos c m key) 4 none))
    (λ q. fired _ (both_true (other_word (is_word (codes "get") m) (is_word (codes "set") m) q) (both_true at (word_key key is))) (off_at (twos c m key) 4 none))
    (λ q. let a = and_parts (is_word (codes "async") m) (not key.line_terminator_before) q in fired _ (both_true a.0 (both_true at (both_true (word_key key is) a.1))) (off_at (twos c m key) 2 none))

pub no_key_unfound : {ts : List Token} {turns : Turns} {c : Config} (t : Token) (us : List Token) → Searched ts turns c → two_back turns t ≡ None → IsKey ts (t ∷ us) → ⊥
no_key_unfound t us s none k =
    let l = last_turn k.1.start k.1.modifier s k.1.are in
    let q = same_place (searched_run l.read) k.1.ran in
    keyed_found k.1.place k.1.modifier t k.1.starts k.1.makes k.0 (subst (λ x. two x k.1.modifier t ≡ None) q (subst (λ x. two_back x t ≡ None) l.are none))
