-- Keys, and one property: a shorthand, a key with its value, or a method.
use Rattle.std.proofs.Common.{◌≡◌, ℕ, ◌≤◌, Bool, false, List, [], ◌∷◌, ◌++◌, Option, Some, None, if◌then◌else◌, refl, sym, ap, subst, ◌∙◌, arith, append_assoc}
use Rattle.js_terms.specs.declared.place.Loc.{Loc}
use Rattle.js_terms.specs.declared.words.Spelled.{Spelled}
use Rattle.js_tree.specs.Plain.{Expr, Property, Shorthand, KeyValue, Method, PropertyKey, NameKey, StringKey, NumberKey, ComputedKey, Function, MakeFunction}
use Rattle.js_text.specs.Token.{Token, Kind, Word, Numeral}
use Rattle.js_text.specs.Token as T
use Rattle.js_text.specs.declared.punctuator.Punctuator.TheVariants as P
use Rattle.js_reading.specs.Level.{assignment}
use Rattle.js_reading.specs.Spans.{through, first}
use Rattle.js_reading.specs.Kinds.{is_keyword}
use Rattle.js_reading.specs.Slots.{Level, Slot, Expr_, Place_, By, Text, Piece, AnExpr, AKey, APlace, Missing, IsComputed, IsMethod, Go, Pass}
use Rattle.js_reading.specs.declared.choice.Choice.TheVariants as choice
use Rattle.js_reading.specs.declared.class.Class.TheVariants.{Key}
use Rattle.js_reading.specs.Productions.{mark, is_mark, piece_of, string_of, braces}
use Rattle.js_reading.specs.Choices.{branch, either}
use Rattle.js_reading.specs.Makes.{is_proto, property_of, after_key, method_of, method_with}
use Rattle.js_reading.specs.Sentences
use Rattle.js_reading.specs.Sentences.{SpellsSlots}
use Rattle.js_layout.specs.Tokens.{expr_tokens, key_tokens, property_tokens, function_tokens, token, word}
use Rattle.js_layout.specs.Tokens as written
use Rattle.js_layout.specs.Unplaced.{unplaced_property, unplaced_property_key}
use Rattle.js_layout.proofs.Follows.{Follows, unbegun, Quiet}
use Rattle.js_layout.proofs.Spelt.{standing, SpeltExpr, WillExpr}
use Rattle.js_layout.proofs.ExpressLevels.{quiet_any}
use Rattle.js_layout.proofs.ExpressSigns.{known, quiet_bracket}
use Rattle.js_layout.proofs.ExpressParts.{by_split, by_token, by_last, operand}
use Rattle.js_layout.proofs.ExpressFunctions.{ReadFunction, WillReadFunction}

-- ---- keys

abbrev pub KeyWill : PropertyKey → Type 0
KeyWill (NameKey w) = Unit {0}
KeyWill (StringKey s) = s ≡ string_of s.spelling
KeyWill (NumberKey w) = Unit {0}
KeyWill (ComputedKey e) = (assignment ≤ standing e) × WillExpr e

-- a key, up to what stands after it
pub record ReadKey (k : PropertyKey) (ts : List Token) : Type 0 where
  pub tree : PropertyKey
  pub piece : Piece
  pub others : List Piece
  pub start : Loc
  pub end : Loc
  pub spells : (l m : Loc) (ss : List Slot) (qs : List Piece) (us : List Token) (next : Token) → SpellsSlots (By choice.AfterKey ∷ By choice.AfterProperty ∷ ss) qs end m us next →
      SpellsSlots (By choice.Properties ∷ ss) (piece ∷ (others ++ qs)) l m (ts ++ us) next
  pub made : (qs : List Piece) → property_of (piece ∷ (others ++ qs)) ≡ after_key tree start qs
  pub proto : is_proto tree ≡ is_proto k
  pub same : unplaced_property_key tree ≡ unplaced_property_key k

plain_key : (k : PropertyKey) (t : Token) (j : Kind) → t.kind ≡ j → ((u : Token) → u.kind ≡ j → branch choice.Properties u ≡ Go [] (Text Key) (By choice.AfterKey ∷ By choice.AfterProperty ∷ [])) → ((m : Loc) → piece_of Key j m ≡ Some (AKey k m)) →
    ReadKey k (t ∷ [])
plain_key k t j is chooses piece = record {
  tree = k;
  piece = AKey k t.loc;
  others = [];
  start = t.loc;
  end = t.loc;
  spells = λ l m ss qs us next more. Sentences.chosen {qs = []} {us = t ∷ us} (chooses t is) (Sentences.text t (ap (λ i. piece_of Key i t.loc) is ∙ piece t.loc) more);
  made = λ qs. refl;
  proto = refl;
  same = refl;
}

-- a string as a key, as it is read
string_key : (s : Spelled) (t : Token) → t.kind ≡ T.StringLiteral s.spelling → s ≡ string_of s.spelling → ReadKey (StringKey s) (t ∷ [])
string_key s t is h = subst (λ x. ReadKey (StringKey x) (t ∷ [])) (sym h) (plain_key (StringKey (string_of s.spelling)) t (T.StringLiteral s.spelling) is (λ u g. ap (branch choice.Properties) (known u (T.StringLiteral s.spelling) g)) (λ m. refl))

pub key_read : (l : Option Loc) (k : PropertyKey) → KeyWill k → (line : Bool) (ts : List Token) → Follows line (key_tokens l k) ts → ReadKey k ts
key_read l (NameKey w) will line ts follows =
    by_last (λ us. ReadKey (NameKey w) us) line (word l w) ts follows (λ t is on. plain_key (NameKey w) t (Word w) is (λ u g. ap (branch choice.Properties) (known u (Word w) g)) (λ m. refl))
key_read l (StringKey s) will line ts follows =
    by_last (λ us. ReadKey (StringKey s) us) line (token l (T.StringLiteral s.spelling)) ts follows (λ t is on. string_key s t is will)
key_read l (NumberKey w) will line ts follows =
    by_last (λ us. ReadKey (NumberKey w) us) line (token l (Numeral w)) ts follows (λ t is on. plain_key (NumberKey w) t (Numeral w) is (λ u g. ap (branch choice.Properties) (known u (Numeral w) g)) (λ m. refl))
key_read l (ComputedKey e) will line ts follows =
    by_token (λ us. ReadKey (ComputedKey e) us) line (written.mark l P.OpenBracket) (expr_tokens e ++ written.mark l P.CloseBracket ∷ []) ts follows
    (λ t rest is on f. by_split (λ us. ReadKey (ComputedKey e) (t ∷ us)) false (expr_tokens e) (written.mark l P.CloseBracket ∷ []) rest f
    (λ te more fe fm. by_last (λ us. ReadKey (ComputedKey e) (t ∷ (te ++ us))) _ (written.mark l P.CloseBracket) more fm
    (λ u is_close at. whole t u te is is_close (will.1 false te u fe (quiet_any (standing e) u (quiet_bracket 2 u (omega arith) is_close))))))
  where
    whole : (t u : Token) (te : List Token) → t.kind ≡ T.Punctuator P.OpenBracket → u.kind ≡ T.Punctuator P.CloseBracket → SpeltExpr e te u → ReadKey (ComputedKey e) (t ∷ (te ++ u ∷ []))
    whole t u te is is_close s = record {
      tree = ComputedKey s.tree;
      piece = IsComputed;
      others = APlace t.loc ∷ AnExpr (standing e) s.tree ∷ [];
      start = t.loc;
      end = u.loc;
      spells = λ l m ss qs us next more. Sentences.chosen {qs = IsComputed ∷ []} {us = t ∷ ((te ++ u ∷ []) ++ us)} (ap (branch choice.Properties) (known t (T.Punctuator P.OpenBracket) is))
          (Sentences.sign t is (Sentences.place
          (subst (λ xs. SpellsSlots (Expr_ (Level assignment) ∷ mark P.CloseBracket ∷ By choice.AfterKey ∷ By choice.AfterProperty ∷ ss) (AnExpr (standing e) s.tree ∷ qs) t.loc m xs next) (sym (append_assoc te (u ∷ []) us))
          (operand {us = u ∷ us} will.0 (quiet_bracket assignment u (omega arith) is_close) s.spells (Sentences.sign u is_close more)))));
      made = λ qs. refl;
      proto = refl;
      same = λ i. ComputedKey (s.same i);
    }

-- ---- properties

abbrev pub PropertyWill : Property → Type 0
PropertyWill (Shorthand l w) = is_keyword w ≡ false
PropertyWill (KeyValue l k e) = KeyWill k × (is_proto k ≡ false) × (assignment ≤ standing e) × WillExpr e
PropertyWill (Method l k f) = KeyWill k × WillReadFunction l f

-- a property before this token
pub record ReadProperty (p : Property) (ts : List Token) (v : Token) : Type 0 where
  pub tree : Property
  pub piece : Piece
  pub others : List Piece
  pub end : Loc
  pub spells : (l m : Loc) (ss : List Slot) (qs : List Piece) (us : List Token) (next : Token) → SpellsSlots (By choice.AfterProperty ∷ ss) qs end m (v ∷ us) next → SpellsSlots (By choice.Properties ∷ ss) (piece ∷ (others ++ qs)) l m (ts ++ v ∷ us) next
  pub made : (qs : List Piece) → property_of (piece ∷ (others ++ qs)) ≡ Some (tree, qs)
  pub same : unplaced_property tree ≡ unplaced_property p

-- what a property ends before
pub record EndsProperty (v : Token) : Type 0 where
  pub quiet : Quiet 2 v
  pub no_colon : is_mark P.Colon v ≡ false
  pub no_method : is_mark P.OpenParenthesis v ≡ false

after_none : (v : Token) → EndsProperty v → branch choice.AfterKey v ≡ Pass (Missing ∷ [])
after_none v e = λ i.
    either (e.no_colon i) (Go [] (mark P.Colon) (Expr_ (Level assignment) ∷ Place_ ∷ []))
    (either (e.no_method i) (Go (IsMethod ∷ []) (mark P.OpenParenthesis) (By choice.Parameters ∷ braces)) (Pass (Missing ∷ [])))

shorthand_read : (l : Option Loc) (w : List ℕ) (t v : Token) → t.kind ≡ Word w → is_keyword w ≡ false → EndsProperty v → ReadProperty (Shorthand l w) (t ∷ []) v
shorthand_read l w t v is free e = record {
  tree = Shorthand (Some t.loc) w;
  piece = AKey (NameKey w) t.loc;
  others = Missing ∷ [];
  end = t.loc;
  spells = λ l m ss qs us next more. Sentences.chosen {qs = []} {us = t ∷ v ∷ us} (ap (branch choice.Properties) (known t (Word w) is))
      (Sentences.text t (ap (λ i. piece_of Key i t.loc) is) (Sentences.passed {qs = Missing ∷ []} {us = v ∷ us} (after_none v e) more));
  made = λ qs. ap (λ c. if c then None else Some (Shorthand (Some t.loc) w, qs)) free;
  same = refl;
}

after_value : (k : PropertyKey) (l m : Loc) (i : ℕ) (e : Expr) (qs : List Piece) → is_proto k ≡ false → after_key k l (AnExpr i e ∷ APlace m ∷ qs) ≡ Some (KeyValue (Some (through l m)) k e, qs)
after_value (NameKey w) l m i e qs h = ap (λ c. if c then None else Some (KeyValue (Some (through l m)) (NameKey w) e, qs)) h
after_value (StringKey s) l m i e qs h = ap (λ c. if c then None else Some (KeyValue (Some (through l m)) (StringKey s) e, qs)) h
after_value (NumberKey w) l m i e qs h = refl
after_value (ComputedKey x) l m i e qs h = refl

after_method : (k : PropertyKey) (l : Loc) (qs : List Piece) → after_key k l (IsMethod ∷ qs) ≡ method_with k l (method_of qs)
after_method (NameKey w) l qs = refl
after_method (StringKey s) l qs = refl
after_method (NumberKey w) l qs = refl
after_method (ComputedKey x) l qs = refl

value_read : (l : Option Loc) (k : PropertyKey) (e : Expr) (tk te : List Token) (u v : Token) → is_proto k ≡ false → assignment ≤ standing e → u.kind ≡ T.Punctuator P.Colon → EndsProperty v → ReadKey k tk → SpeltExpr e te v → ReadProperty (KeyValue l k e) (tk ++ u ∷ te) v
value_read l k e tk te u v plain low is ends r s = record {
  tree = KeyValue (Some (through r.start s.loc)) r.tree s.tree;
  piece = r.piece;
  others = r.others ++ AnExpr (standing e) s.tree ∷ APlace s.loc ∷ [];
  end = s.loc;
  spells = λ l m ss qs us next more.
      subst (λ xs. SpellsSlots (By choice.Properties ∷ ss) (r.piece ∷ xs) l m ((tk ++ u ∷ te) ++ v ∷ us) next) (sym (append_assoc r.others (AnExpr (standing e) s.tree ∷ APlace s.loc ∷ []) qs))
      (subst (λ xs. SpellsSlots (By choice.Properties ∷ ss) (r.piece ∷ (r.others ++ AnExpr (standing e) s.tree ∷ APlace s.loc ∷ qs)) l m xs next) (sym (append_assoc tk (u ∷ te) (v ∷ us)))
      (r.spells l m ss (AnExpr (standing e) s.tree ∷ APlace s.loc ∷ qs) (u ∷ (te ++ v ∷ us)) next
      (Sentences.chosen {qs = []} {us = u ∷ (te ++ v ∷ us)} (ap (branch choice.AfterKey) (known u (T.Punctuator P.Colon) is)) (Sentences.sign u is (operand {us = v ∷ us} low ends.quiet s.spells (Sentences.place more))))));
  made = λ qs. ap (λ xs. property_of (r.piece ∷ xs)) (append_assoc r.others (AnExpr (standing e) s.tree ∷ APlace s.loc ∷ []) qs) ∙ r.made (AnExpr (standing e) s.tree ∷ APlace s.loc ∷ qs)
      ∙ after_value r.tree r.start s.loc (standing e) s.tree qs (r.proto ∙ plain);
  same = λ i. KeyValue None (r.same i) (s.same i);
}

-- a function begins with `(`
first_mark : (f : Function) (l : Option Loc) (line : Bool) (ts us : List Token) (next : Token) → Follows line (function_tokens l f) ts → (first (ts ++ us) next).kind ≡ T.Punctuator P.OpenParenthesis
first_mark (MakeFunction n ps b) l line [] us next follows = absurd follows
first_mark (MakeFunction n ps b) l line (t ∷ ts) us next follows = follows.0

method_read : (l : Option Loc) (k : PropertyKey) (f : Function) (tk tf : List Token) (v : Token) → ((us : List Token) (next : Token) → (first (tf ++ us) next).kind ≡ T.Punctuator P.OpenParenthesis) → ReadKey k tk → ReadFunction f tf → ReadProperty (Method l k f) (tk ++ tf) v
method_read l k f tk tf v opens r g = record {
  tree = Method (Some (through r.start g.end)) r.tree g.tree;
  piece = r.piece;
  others = r.others ++ IsMethod ∷ g.pieces;
  end = g.end;
  spells = λ l m ss qs us next more.
      subst (λ xs. SpellsSlots (By choice.Properties ∷ ss) (r.piece ∷ xs) l m ((tk ++ tf) ++ v ∷ us) next) (sym (append_assoc r.others (IsMethod ∷ g.pieces) qs))
      (subst (λ xs. SpellsSlots (By choice.Properties ∷ ss) (r.piece ∷ (r.others ++ IsMethod ∷ (g.pieces ++ qs))) l m xs next) (sym (append_assoc tk tf (v ∷ us)))
      (r.spells l m ss (IsMethod ∷ (g.pieces ++ qs)) (tf ++ v ∷ us) next
      (Sentences.chosen {qs = IsMethod ∷ []} {us = tf ++ v ∷ us} (ap (branch choice.AfterKey) (known (first (tf ++ v ∷ us) next) (T.Punctuator P.OpenParenthesis) (opens (v ∷ us) next)))
      (g.spells r.end m (By choice.AfterProperty ∷ ss) qs (v ∷ us) next more))));
  made = λ qs. ap (λ xs. property_of (r.piece ∷ xs)) (append_assoc r.others (IsMethod ∷ g.pieces) qs) ∙ r.made (IsMethod ∷ (g.pieces ++ qs)) ∙ after_method r.tree r.start (g.pieces ++ qs) ∙ ap (method_with r.tree r.start) (g.method qs);
  same = λ i. Method None (r.same i) (g.same i);
}

pub property_read : (p : Property) → PropertyWill p → (line : Bool) (ts : List Token) (v : Token) → Follows line (property_tokens p) ts → EndsProperty v → ReadProperty p ts v
property_read (Shorthand l w) will line ts v follows ends =
    by_last (λ us. ReadProperty (Shorthand l w) us v) line (word l w) ts (unbegun l line (word l w ∷ []) ts follows) (λ t is on. shorthand_read l w t v is will ends)
property_read (KeyValue l k e) will line ts v follows ends =
    by_split (λ us. ReadProperty (KeyValue l k e) us v) line (key_tokens l k) (written.mark l P.Colon ∷ expr_tokens e) ts follows
    (λ tk rest fk f. by_token (λ us. ReadProperty (KeyValue l k e) (tk ++ us) v) _ (written.mark l P.Colon) (expr_tokens e) rest f
    (λ u te is on fe. value_read l k e tk te u v will.1 will.2 is ends (key_read l k will.0 line tk fk) (will.3 false te v fe (quiet_any (standing e) v ends.quiet))))
property_read (Method l k f) will line ts v follows ends =
    by_split (λ us. ReadProperty (Method l k f) us v) line (key_tokens l k) (function_tokens l f) ts (unbegun l line (key_tokens l k ++ function_tokens l f) ts follows)
    (λ tk tf fk ff. method_read l k f tk tf v (λ us next. first_mark f l _ tf us next ff) (key_read l k will.0 line tk fk) (will.1 _ tf ff))
