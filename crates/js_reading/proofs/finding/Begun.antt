-- What is found begins a form: its first token stands where it is said.
use Rattle.std.proofs.Common.{◌≡◌, ℕ, Bool, true, false, not, ◌&&◌, List, [], ◌∷◌, Some, None, codes, if◌then◌else◌, refl, sym, subst}
use Rattle.std.specs.Prelude.{◌||◌}
use Rattle.std.proofs.lemmas.Bool.{true≢false, and_parts}
use Rattle.js_terms.specs.declared.place.Loc.{Loc}
use Rattle.js_text.specs.Token.{Token}
use Rattle.js_text.specs.declared.punctuator.Punctuator.TheVariants as P
use Rattle.js_reading.specs.Slots.{AnyName, BoundName, Key, Slot, Text, By, Piece, AnExpr}
use Rattle.js_reading.specs.Slots as slot
use Rattle.js_reading.specs.Productions.{is_mark, is_word, is_class, is_proto_word}
use Rattle.js_reading.specs.Turns.{Config, Due}
use Rattle.js_reading.specs.Unsupported
use Rattle.js_reading.specs.Unsupported.{Unsupported, ClassForm, Super, Import, Export, NewTarget, Spread, OptionalChain, LogicalAssignment, Async, Generator, Accessor, BigIntLiteral, ThisOutside, Elision, Proto, TaggedTemplate, BindingPattern, Begins, Stops, at_any_name, at_property, at_bound_name, at_item, after_tight, in_no_function, is_template, is_bigint}
use Rattle.js_reading.specs.Found.{Find, first_of, is_free, is_key, opens_pattern, ones, one, at_object, twos, two, proto_key, three, outside}

-- ---- the first of these that holds

-- what holds of each that may be found
pub data EachOf (P : Unsupported × Loc → Type 0) : List Find → Type 0 where
  none_left : EachOf P []
  where_so : {b : Bool} {x : Unsupported × Loc} {xs : List Find} → (b ≡ true → P x) → EachOf P xs → EachOf P ((if b then Some x else None) ∷ xs)
  where_found : {x : Find} {xs : List Find} → ((w : Unsupported × Loc) → x ≡ Some w → P w) → EachOf P xs → EachOf P (x ∷ xs)

some_same : {v w : Unsupported × Loc} → Some v ≡ Some w → v ≡ w
some_same h = cc

pub holds_of : (P : Unsupported × Loc → Type 0) (xs : List Find) (w : Unsupported × Loc) → EachOf P xs → first_of xs ≡ Some w → P w
holds_of P _ w none_left h = absurd cc
holds_of P _ w (where_so {b = true} f each) h = subst P (some_same h) (f refl)
holds_of P _ w (where_so {b = false} {xs = xs} f each) h = holds_of P xs w each h
holds_of P _ w (where_found {x = None} {xs = xs} f each) h = holds_of P xs w each h
holds_of P _ w (where_found {x = Some v} f each) h = f w h

pub alone : (x : Find) (w : Unsupported × Loc) → x ≡ Some w → first_of (x ∷ []) ≡ Some w
alone None w h = h
alone (Some v) w h = h

pub off : (b : Bool) → not b ≡ true → b ≡ false
off false h = refl
off true h = absurd (true≢false (sym h))

-- ---- one, two and three tokens

abbrev pub BeginsThere : Config → Token → List Token → Unsupported × Loc → Type 0
BeginsThere c t us w = Begins w.0 c (t ∷ us) × (t.loc ≡ w.1)

-- the same, and the machine stops there
abbrev pub StopsThere : Config → Token → List Token → Unsupported × Loc → Type 0
StopsThere c t us w = Stops w.0 c (t ∷ us) × (t.loc ≡ w.1)

pub stop : {u : Unsupported} {c : Config} {t : Token} {us : List Token} → Stops u c (t ∷ us) → StopsThere c t us (u, t.loc)
stop s = (s, refl)

pub begins_so : {c : Config} {t : Token} {us : List Token} {w : Unsupported × Loc} → StopsThere c t us w → BeginsThere c t us w
begins_so s = (Unsupported.at_once s.0, s.1)

-- a word that is no key
freed : {A : Type 0} (c : Config) (t : Token) (w : List ℕ) → is_free c t w ≡ true → (is_word w t ≡ true → at_any_name c ≡ false → A) → A
freed c t w h go = let a = and_parts (is_word w t) (not (at_any_name c)) h in go a.0 (off (at_any_name c) a.1)

pub one_stops : (c : Config) (t : Token) (us : List Token) (w : Unsupported × Loc) → one c t ≡ Some w → StopsThere c t us w
one_stops c t us w h = holds_of (StopsThere c t us) (ones c t) w each h
  where
    each : EachOf (StopsThere c t us) (ones c t)
    each =
        where_so (λ q. freed c t (codes "class") q (λ is n. stop (Unsupported.class is n)))
        (where_so (λ q. freed c t (codes "super") q (λ is n. stop (Unsupported.super is n)))
        (where_so (λ q. freed c t (codes "import") q (λ is n. stop (Unsupported.import_ is n)))
        (where_so (λ q. freed c t (codes "export") q (λ is n. stop (Unsupported.export is n)))
        (where_so (λ q. stop (Unsupported.spread q))
        (where_so (λ q. stop (Unsupported.optional_chain q))
        (where_so (λ q. stop (Unsupported.logical_assignment q))
        (where_so (λ q. let a = and_parts (is_mark P.Star t) (at_property c) q in stop (Unsupported.generator_method a.0 a.1))
        (where_so (λ q. stop (Unsupported.bigint q))
        (where_so (λ q. let a = and_parts (is_mark P.Comma t) (at_item c) q in stop (Unsupported.elision a.0 a.1))
        (where_so (λ q. let a = and_parts (is_template t.kind) (after_tight c) q in stop (Unsupported.tagged_template a.0 a.1))
        (where_so (λ q. let a = and_parts (opens_pattern t) (at_bound_name c) q in stop (Unsupported.binding a.0 a.1))
        none_left)))))))))))

pub two_stops : (c : Config) (t next : Token) (us : List Token) (w : Unsupported × Loc) → two c t next ≡ Some w → StopsThere c t (next ∷ us) w
two_stops c t next us w h = holds_of (StopsThere c t (next ∷ us)) (twos c t next) w each h
  where
    on_line : Bool
    on_line = not next.line_terminator_before

    each : EachOf (StopsThere c t (next ∷ us)) (twos c t next)
    each =
        where_so (λ q. let a = and_parts (is_free c t (codes "new")) (is_mark P.Dot next) q in freed c t (codes "new") a.0 (λ is n. stop (Unsupported.new_target is n a.1)))
        (where_so (λ q. let a = and_parts (is_free c t (codes "async")) (is_word (codes "function") next && on_line) q in let b = and_parts (is_word (codes "function") next) on_line a.1 in freed c t (codes "async") a.0 (λ is n. stop (Unsupported.async_function is n b.0 (off next.line_terminator_before b.1))))
        (where_so (λ q. let a = and_parts (is_word (codes "async") t) (at_property c && (is_key next && on_line)) q in let b = and_parts (at_property c) (is_key next && on_line) a.1 in let d = and_parts (is_key next) on_line b.1 in stop (Unsupported.async_method a.0 b.0 d.0 (off next.line_terminator_before d.1)))
        (where_so (λ q. let a = and_parts (is_free c t (codes "function")) (is_mark P.Star next) q in freed c t (codes "function") a.0 (λ is n. stop (Unsupported.generator is n a.1)))
        (where_so (λ q. let a = and_parts (is_word (codes "get") t || is_word (codes "set") t) (at_property c && is_key next) q in let b = and_parts (at_property c) (is_key next) a.1 in stop (Unsupported.accessor a.0 b.0 b.1))
        (where_so (λ q. let a = and_parts (is_class BoundName t) (at_property c && is_mark P.Assign next) q in let b = and_parts (at_property c) (is_mark P.Assign next) a.1 in stop (Unsupported.shorthand a.0 b.0 b.1))
        none_left)))))

pub three_stops : (c : Config) (t name arrow : Token) (us : List Token) (w : Unsupported × Loc) → three c t name arrow ≡ Some w → StopsThere c t (name ∷ arrow ∷ us) w
three_stops c t name arrow us w h = holds_of (StopsThere c t (name ∷ arrow ∷ us)) (three c t name arrow ∷ []) w each (alone (three c t name arrow) w h)
  where
    on_line : Bool
    on_line = not name.line_terminator_before

    each : EachOf (StopsThere c t (name ∷ arrow ∷ us)) (three c t name arrow ∷ [])
    each = where_so
        (λ q. let a = and_parts (is_free c t (codes "async")) (is_class BoundName name && (on_line && is_mark P.Arrow arrow)) q in let b = and_parts (is_class BoundName name) (on_line && is_mark P.Arrow arrow) a.1 in let d = and_parts on_line (is_mark P.Arrow arrow) b.1 in
        freed c t (codes "async") a.0 (λ is n. stop (Unsupported.async_name name arrow is n b.0 (off name.line_terminator_before d.0) d.1)))
        none_left

proto_begins : (c : Config) (t next : Token) (us : List Token) → is_proto_word t.kind ≡ true → at_object c ≡ true → is_mark P.Colon next ≡ true → BeginsThere c t (next ∷ us) (Proto, t.loc)
proto_begins (Due slot.ObjectLiteral w (By slot.Properties ∷ ss) ps l fs) t next us is at is_colon = (Unsupported.proto is is_colon, refl)
proto_begins c t next us is at is_colon = absurd (true≢false (sym at))

pub proto_begun : (c : Config) (t next : Token) (us : List Token) (w : Unsupported × Loc) → proto_key c t next ≡ Some w → BeginsThere c t (next ∷ us) w
proto_begun c t next us w h = holds_of (BeginsThere c t (next ∷ us)) (proto_key c t next ∷ []) w each (alone (proto_key c t next) w h)
  where
    each : EachOf (BeginsThere c t (next ∷ us)) (proto_key c t next ∷ [])
    each = where_so (λ q. let a = and_parts (is_proto_word t.kind) (at_object c && is_mark P.Colon next) q in let b = and_parts (at_object c) (is_mark P.Colon next) a.1 in proto_begins c t next us a.0 b.0 b.1) none_left

pub one_begins : (c : Config) (t : Token) (us : List Token) (w : Unsupported × Loc) → one c t ≡ Some w → BeginsThere c t us w
one_begins c t us w h = begins_so (one_stops c t us w h)

pub two_begins : (c : Config) (t next : Token) (us : List Token) (w : Unsupported × Loc) → two c t next ≡ Some w → BeginsThere c t (next ∷ us) w
two_begins c t next us w h = begins_so (two_stops c t next us w h)

pub three_begins : (c : Config) (t name arrow : Token) (us : List Token) (w : Unsupported × Loc) → three c t name arrow ≡ Some w → BeginsThere c t (name ∷ arrow ∷ us) w
three_begins c t name arrow us w h = begins_so (three_stops c t name arrow us w h)

-- ---- `this`

pub this_found : (c : Config) (t : Token) (us : List Token) (w : Unsupported × Loc) → outside c t ≡ Some w → BeginsThere c t us w
this_found c t us w h = holds_of (BeginsThere c t us) (outside c t ∷ []) w each (alone (outside c t) w h)
  where
    each : EachOf (BeginsThere c t us) (outside c t ∷ [])
    each = where_so (λ q. let a = and_parts (is_free c t (codes "this")) (in_no_function c) q in freed c t (codes "this") a.0 (λ is n. (Unsupported.this_outside is n a.1, refl))) none_left
