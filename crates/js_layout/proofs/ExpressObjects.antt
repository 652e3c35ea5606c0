-- Object literals: properties with commas, up to their `}`.
use Rattle.std.proofs.Common.{◌≡◌, ℕ, zero, suc, ◌≤◌, Bool, false, List, [], ◌∷◌, ◌++◌, Option, Some, None, refl, sym, ap, subst, ◌∙◌, arith, append_assoc}
use Rattle.js_terms.specs.declared.place.Loc.{Loc}
use Rattle.js_tree.specs.Plain.{Expr, Property, Properties, no_property, more_property}
use Rattle.js_tree.specs.Plain as tree
use Rattle.js_text.specs.Token.{Token}
use Rattle.js_text.specs.Token as T
use Rattle.js_text.specs.declared.punctuator.Punctuator.TheVariants as P
use Rattle.js_reading.specs.Spans.{through}
use Rattle.js_reading.specs.Kinds.{is_kind}
use Rattle.js_reading.specs.Slots.{By, Piece, Go}
use Rattle.js_reading.specs.declared.form.Form.TheVariants as slot
use Rattle.js_reading.specs.declared.choice.Choice.{Choice}
use Rattle.js_reading.specs.declared.choice.Choice.TheVariants as choice
use Rattle.js_reading.specs.Productions.{mark}
use Rattle.js_reading.specs.Choices.{branch}
use Rattle.js_reading.specs.Makes.{properties_of, then_properties, one_more_property, property_of, object_of, length_of}
use Rattle.js_reading.specs.Sentences
use Rattle.js_reading.specs.Sentences.{SpellsSlots}
use Rattle.js_layout.specs.Tokens.{property_tokens, properties_tokens, more_properties_tokens}
use Rattle.js_layout.specs.Tokens as written
use Rattle.js_layout.specs.Unplaced.{unplaced_properties}
use Rattle.js_layout.proofs.Follows.{Follows, last_line, unbegun}
use Rattle.js_layout.proofs.Spelt.{SpeltExpr, WillExpr}
use Rattle.js_layout.proofs.ExpressSigns.{known, prefix_brace, quiet_brace, quiet_comma}
use Rattle.js_layout.proofs.ExpressParts.{by_split, by_token, by_last, same_traits}
use Rattle.js_layout.proofs.ExpressProperties.{PropertyWill, ReadProperty, EndsProperty, property_read}

abbrev pub PropertiesWill : Properties → Type 0
PropertiesWill no_property = Unit {0}
PropertiesWill (more_property p ps) = PropertyWill p × PropertiesWill ps

-- from this choice to the `}`
record ReadProperties (c : Choice) (ps : Properties) (ts : List Token) : Type 0 where
  tree : Properties
  pieces : List Piece
  end : Loc
  spells : (l : Loc) (next : Token) → SpellsSlots (By c ∷ []) pieces l end ts next
  made : (n : ℕ) → length_of pieces ≤ n → properties_of n pieces ≡ Some tree
  same : unplaced_properties tree ≡ unplaced_properties ps

none_made : (n : ℕ) → properties_of n [] ≡ Some no_property
none_made zero = refl
none_made (suc n) = refl

longer : (xs qs : List Piece) → length_of qs ≤ length_of (xs ++ qs)
longer [] qs = omega arith
longer (x ∷ xs) qs = omega (arith, longer xs qs)

one_made : (n : ℕ) (p : Property) (ps : Properties) (x : Piece) (xs qs : List Piece) → length_of (x ∷ (xs ++ qs)) ≤ n → property_of (x ∷ (xs ++ qs)) ≡ Some (p, qs) → ((k : ℕ) → length_of qs ≤ k → properties_of k qs ≡ Some ps) → properties_of n (x ∷ (xs ++ qs)) ≡ Some (more_property p ps)
one_made zero p ps x xs qs low is go = absurd (omega arith)
one_made (suc n) p ps x xs qs low is go = ap (λ o. then_properties o (λ rest. properties_of n rest)) is ∙ ap (one_more_property p) (go n (omega (arith, longer xs qs)))

closed : (c : Choice) (t : Token) → t.kind ≡ T.Punctuator P.CloseBrace → branch c t ≡ Go [] (mark P.CloseBrace) [] → ReadProperties c no_property (t ∷ [])
closed c t is chooses = record {
  tree = no_property;
  pieces = [];
  end = t.loc;
  spells = λ l next. Sentences.chosen {qs = []} {us = t ∷ []} chooses (Sentences.sign t is Sentences.done);
  made = λ n low. none_made n;
  same = refl;
}

-- what stands after a property begins with a token that ends it
record Ended (ts : List Token) : Type 0 where
  token : Token
  rest : List Token
  are : ts ≡ token ∷ rest
  ends : EndsProperty token

ended : (l n : Option Loc) (ps : Properties) (line : Bool) (ts : List Token) → Follows line (more_properties_tokens l ps ++ written.mark n P.CloseBrace ∷ []) ts → Ended ts
ended l n no_property line [] follows = absurd follows
ended l n no_property line (t ∷ ts) follows =
    record { token = t; rest = ts; are = refl; ends = record { quiet = quiet_brace 2 t (omega arith) follows.0; no_colon = ap (is_kind (T.Punctuator P.Colon)) follows.0; no_method = ap (is_kind (T.Punctuator P.OpenParenthesis)) follows.0 } }
ended l n (more_property p ps) line [] follows = absurd follows
ended l n (more_property p ps) line (t ∷ ts) follows =
    record { token = t; rest = ts; are = refl; ends = record { quiet = quiet_comma 2 t (omega arith) follows.0; no_colon = ap (is_kind (T.Punctuator P.Colon)) follows.0; no_method = ap (is_kind (T.Punctuator P.OpenParenthesis)) follows.0 } }

-- a property, and what follows it
one_more : (p : Property) (ps : Properties) (tp : List Token) (v : Token) (rest : List Token) → ReadProperty p tp v → ReadProperties choice.AfterProperty ps (v ∷ rest) → ReadProperties choice.Properties (more_property p ps) (tp ++ v ∷ rest)
one_more p ps tp v rest r more = record {
  tree = more_property r.tree more.tree;
  pieces = r.piece ∷ (r.others ++ more.pieces);
  end = more.end;
  spells = λ l next. r.spells l more.end [] more.pieces rest next (more.spells r.end next);
  made = λ n low. one_made n r.tree more.tree r.piece r.others more.pieces low (r.made more.pieces) more.made;
  same = λ i. more_property (r.same i) (more.same i);
}

first_read : (l n : Option Loc) (p : Property) (ps : Properties) → PropertyWill p → ((line : Bool) (ts : List Token) → Follows line (more_properties_tokens l ps ++ written.mark n P.CloseBrace ∷ []) ts → ReadProperties choice.AfterProperty ps ts) →
    (line : Bool) (ts : List Token) → Follows line ((property_tokens p ++ more_properties_tokens l ps) ++ written.mark n P.CloseBrace ∷ []) ts → ReadProperties choice.Properties (more_property p ps) ts
first_read l n p ps will go line ts follows =
    by_split (λ us. ReadProperties choice.Properties (more_property p ps) us) line (property_tokens p) (more_properties_tokens l ps ++ written.mark n P.CloseBrace ∷ []) ts
    (subst (λ ws. Follows line ws ts) (append_assoc (property_tokens p) (more_properties_tokens l ps) (written.mark n P.CloseBrace ∷ [])) follows)
    (λ tp rest fp fr. with_end tp rest fp (ended l n ps (last_line line (property_tokens p)) rest fr) (go (last_line line (property_tokens p)) rest fr))
  where
    with_end : (tp rest : List Token) → Follows line (property_tokens p) tp → Ended rest → ReadProperties choice.AfterProperty ps rest → ReadProperties choice.Properties (more_property p ps) (tp ++ rest)
    with_end tp rest fp e more =
        subst (λ us. ReadProperties choice.Properties (more_property p ps) (tp ++ us)) (sym e.are)
        (one_more p ps tp e.token e.rest (property_read p will line tp e.token fp e.ends) (subst (λ us. ReadProperties choice.AfterProperty ps us) e.are more))

after_comma : (c : Token) (ps : Properties) (ts : List Token) → c.kind ≡ T.Punctuator P.Comma → ReadProperties choice.Properties ps ts → ReadProperties choice.AfterProperty ps (c ∷ ts)
after_comma c ps ts is r = record {
  tree = r.tree;
  pieces = r.pieces;
  end = r.end;
  spells = λ l next. Sentences.chosen {qs = []} {us = c ∷ ts} (ap (branch choice.AfterProperty) (known c (T.Punctuator P.Comma) is)) (Sentences.sign c is (r.spells c.loc next));
  made = r.made;
  same = r.same;
}

more_read : (l n : Option Loc) (ps : Properties) → PropertiesWill ps → (line : Bool) (ts : List Token) → Follows line (more_properties_tokens l ps ++ written.mark n P.CloseBrace ∷ []) ts → ReadProperties choice.AfterProperty ps ts
more_read l n no_property all line ts follows =
    by_last (λ us. ReadProperties choice.AfterProperty no_property us) line (written.mark n P.CloseBrace) ts follows
    (λ t is on. closed choice.AfterProperty t is (ap (branch choice.AfterProperty) (known t (T.Punctuator P.CloseBrace) is)))
more_read l n (more_property p ps) all line ts follows =
    by_token (λ us. ReadProperties choice.AfterProperty (more_property p ps) us) line (written.mark l P.Comma) ((property_tokens p ++ more_properties_tokens l ps) ++ written.mark n P.CloseBrace ∷ []) ts follows
    (λ c rest is on f. after_comma c (more_property p ps) rest is (first_read l n p ps all.0 (λ b us fu. more_read l n ps all.1 b us fu) false rest f))

properties_read : (l n : Option Loc) (ps : Properties) → PropertiesWill ps → (line : Bool) (ts : List Token) → Follows line (properties_tokens l ps ++ written.mark n P.CloseBrace ∷ []) ts → ReadProperties choice.Properties ps ts
properties_read l n no_property all line ts follows =
    by_last (λ us. ReadProperties choice.Properties no_property us) line (written.mark n P.CloseBrace) ts follows
    (λ t is on. closed choice.Properties t is (ap (branch choice.Properties) (known t (T.Punctuator P.CloseBrace) is)))
properties_read l n (more_property p ps) all line ts follows = first_read l n p ps all.0 (λ b us fu. more_read l n ps all.1 b us fu) line ts follows

pub object : (l : Option Loc) (ps : Properties) → PropertiesWill ps → WillExpr (tree.ObjectLiteral l ps)
object l ps all line ts next follows quiet =
    by_token (λ us. SpeltExpr (tree.ObjectLiteral l ps) us next) line (written.mark l P.OpenBrace) (properties_tokens l ps ++ written.mark l P.CloseBrace ∷ []) ts (unbegun l line _ ts follows)
    (λ t rest is on f. whole t rest is (properties_read l l ps all false rest f))
  where
    whole : (t : Token) (rest : List Token) → t.kind ≡ T.Punctuator P.OpenBrace → ReadProperties choice.Properties ps rest → SpeltExpr (tree.ObjectLiteral l ps) (t ∷ rest) next
    whole t rest is r = let read : Expr = tree.ObjectLiteral (Some (through t.loc r.end)) r.tree in record {
      tree = read;
      loc = through t.loc r.end;
      spells = Sentences.prefixed slot.ObjectLiteral t (prefix_brace t is) (Sentences.sign t is (r.spells t.loc next)) (ap (object_of (through t.loc r.end)) (r.made (length_of r.pieces) (omega arith)));
      same = λ i. tree.ObjectLiteral None (r.same i);
      traits = same_traits read (tree.ObjectLiteral l ps) refl refl refl refl refl;
    }
