-- Parameters of a function, read one by one up to their `)`.
use Rattle.std.proofs.Common.{◌≡◌, ℕ, Bool, false, List, [], ◌∷◌, ◌++◌, Option, Some, None, refl, sym, ap, subst, ◌∙◌, arith, append_assoc}
use Rattle.js_terms.specs.declared.place.Loc.{Loc}
use Rattle.js_tree.specs.Plain.{Param, MakeParam, Params, no_param, more_param, BindingIdentifier, MaybeExpr, none_expr, some_expr, MakeFunction, FunctionBody}
use Rattle.js_text.specs.Token.{Token, Word}
use Rattle.js_text.specs.Token as T
use Rattle.js_text.specs.declared.punctuator.Punctuator.TheVariants as P
use Rattle.js_reading.specs.Level.{assignment}
use Rattle.js_reading.specs.Spans.{through}
use Rattle.js_reading.specs.Kinds.{is_kind, is_keyword}
use Rattle.js_reading.specs.Slots.{Level, Slot, Expr_, By, Text, Place_, Piece, AnExpr, AWord, APlace, Missing, Go, Pass}
use Rattle.js_reading.specs.declared.choice.Choice.{Choice}
use Rattle.js_reading.specs.declared.choice.Choice.TheVariants as choice
use Rattle.js_reading.specs.declared.class.Class.TheVariants.{BoundName}
use Rattle.js_reading.specs.Productions.{is_mark, mark, piece_of, word_piece}
use Rattle.js_reading.specs.Choices.{branch, either}
use Rattle.js_reading.specs.Makes.{with_param, method_param, function_of, method_of}
use Rattle.js_reading.specs.Sentences
use Rattle.js_reading.specs.Sentences.{SpellsSlots}
use Rattle.js_layout.specs.Tokens.{expr_tokens, params_tokens, more_params_tokens, initializer_tokens, word}
use Rattle.js_layout.specs.Tokens as written
use Rattle.js_layout.specs.Unplaced.{unplaced_param, unplaced_params}
use Rattle.js_layout.proofs.Follows.{Follows, last_line, nothing, Quiet}
use Rattle.js_layout.proofs.Spelt.{standing, SpeltExpr}
use Rattle.js_layout.proofs.ExpressLevels.{quiet_any}
use Rattle.js_layout.proofs.ExpressSigns.{known, quiet_close, quiet_comma}
use Rattle.js_layout.proofs.ExpressParts.{by_split, by_token, by_last, operand}
use Rattle.js_layout.proofs.ExpressLeaves.{bound_word}
use Rattle.js_layout.proofs.ExpressParameters.{DefaultWill, ParamsWill}

-- a parameter before this token
record ReadParam (p : Param) (ts : List Token) (v : Token) : Type 0 where
  tree : Param
  pieces : List Piece
  end : Loc
  spells : (l m : Loc) (ss : List Slot) (qs : List Piece) (us : List Token) (next : Token) → SpellsSlots ss qs end m (v ∷ us) next → SpellsSlots (Text BoundName ∷ By choice.Initializer ∷ ss) (pieces ++ qs) l m (ts ++ v ∷ us) next
  function : (qs : List Piece) → function_of (pieces ++ qs) ≡ with_param tree (function_of qs)
  method : (qs : List Piece) → method_of (pieces ++ qs) ≡ method_param tree (method_of qs)
  same : unplaced_param tree ≡ unplaced_param p

pub bound_piece : (t : Token) (w : List ℕ) → t.kind ≡ Word w → is_keyword w ≡ false → piece_of BoundName t.kind t.loc ≡ Some (AWord w t.loc)
bound_piece t w is free = ap (λ k. piece_of BoundName k t.loc) is ∙ ap (word_piece t.loc) (bound_word w free)

-- no initializer stands there
none_there : (v : Token) → is_mark P.Assign v ≡ false → branch choice.Initializer v ≡ Pass (Missing ∷ [])
none_there v h = ap (λ c. either c (Go [] (mark P.Assign) (Expr_ (Level assignment) ∷ Place_ ∷ [])) (Pass (Missing ∷ []))) h

param_read : (l m : Option Loc) (w : List ℕ) (e : MaybeExpr) → is_keyword w ≡ false → DefaultWill e → (t : Token) (ts : List Token) (v : Token) → t.kind ≡ Word w → Follows false (initializer_tokens l e) ts → Quiet 2 v → is_mark P.Assign v ≡ false →
    ReadParam (MakeParam l (BindingIdentifier m w) e) (t ∷ ts) v
param_read l m w none_expr free will t ts v is follows quiet plain = subst (λ us. ReadParam (MakeParam l (BindingIdentifier m w) none_expr) (t ∷ us) v) (sym (nothing false ts follows)) alone
  where
    alone : ReadParam (MakeParam l (BindingIdentifier m w) none_expr) (t ∷ []) v
    alone = record {
      tree = MakeParam (Some t.loc) (BindingIdentifier (Some t.loc) w) none_expr;
      pieces = AWord w t.loc ∷ Missing ∷ [];
      end = t.loc;
      spells = λ l n ss qs us next more. Sentences.text t (bound_piece t w is free) (Sentences.passed {qs = Missing ∷ []} {us = v ∷ us} (none_there v plain) more);
      function = λ qs. refl;
      method = λ qs. refl;
      same = refl;
    }
param_read l m w (some_expr e) free will t ts v is follows quiet plain =
    by_token (λ us. ReadParam (MakeParam l (BindingIdentifier m w) (some_expr e)) (t ∷ us) v) false (written.mark l P.Assign) (expr_tokens e) ts follows
    (λ u te is_assign at fe. whole u te is_assign (will.1 false te v fe (quiet_any (standing e) v quiet)))
  where
    whole : (u : Token) (te : List Token) → u.kind ≡ T.Punctuator P.Assign → SpeltExpr e te v → ReadParam (MakeParam l (BindingIdentifier m w) (some_expr e)) (t ∷ u ∷ te) v
    whole u te is_assign se = record {
      tree = MakeParam (Some (through t.loc se.loc)) (BindingIdentifier (Some t.loc) w) (some_expr se.tree);
      pieces = AWord w t.loc ∷ AnExpr (standing e) se.tree ∷ APlace se.loc ∷ [];
      end = se.loc;
      spells = λ l n ss qs us next more. Sentences.text t (bound_piece t w is free)
          (Sentences.chosen {qs = []} {us = u ∷ (te ++ v ∷ us)} (ap (branch choice.Initializer) (known u (T.Punctuator P.Assign) is_assign))
          (Sentences.sign u is_assign (operand {us = v ∷ us} will.0 quiet se.spells (Sentences.place more))));
      function = λ qs. refl;
      method = λ qs. refl;
      same = λ i. MakeParam None (BindingIdentifier None w) (some_expr (se.same i));
    }

-- parameters from these slots on, with the `)` after them
pub record ReadParams (front : List Slot) (ps : Params) (ts : List Token) : Type 0 where
  pub tree : Params
  pub pieces : List Piece
  pub end : Loc
  pub spells : (l m : Loc) (ss : List Slot) (qs : List Piece) (us : List Token) (next : Token) → SpellsSlots ss qs end m us next → SpellsSlots (front ++ ss) (pieces ++ qs) l m (ts ++ us) next
  pub function : (qs : List Piece) (n : ℕ) (b : FunctionBody) → function_of qs ≡ Some (MakeFunction n no_param b) → function_of (pieces ++ qs) ≡ Some (MakeFunction n tree b)
  pub method : (qs rest : List Piece) (n : ℕ) (b : FunctionBody) (m : Loc) → method_of qs ≡ Some (MakeFunction n no_param b, m, rest) → method_of (pieces ++ qs) ≡ Some (MakeFunction n tree b, m, rest)
  pub same : unplaced_params tree ≡ unplaced_params ps

abbrev name_slots : List Slot
name_slots = Text BoundName ∷ By choice.Initializer ∷ By choice.AfterParameter ∷ []

-- nothing but the `)`
closed : (c : Choice) (t : Token) → t.kind ≡ T.Punctuator P.CloseParenthesis → branch c t ≡ Go [] (mark P.CloseParenthesis) [] → ReadParams (By c ∷ []) no_param (t ∷ [])
closed c t is chooses = record {
  tree = no_param;
  pieces = [];
  end = t.loc;
  spells = λ l m ss qs us next more. Sentences.chosen {qs = []} {us = t ∷ us} chooses (Sentences.sign t is more);
  function = λ qs n b h. h;
  method = λ qs rest n b m h. h;
  same = refl;
}

-- what stands after a parameter begins with a token that is no `=`
record Ended (ts : List Token) : Type 0 where
  token : Token
  rest : List Token
  are : ts ≡ token ∷ rest
  quiet : Quiet 2 token
  plain : is_mark P.Assign token ≡ false

ended : (l n : Option Loc) (ps : Params) (line : Bool) (ts : List Token) → Follows line (more_params_tokens l ps ++ written.mark n P.CloseParenthesis ∷ []) ts → Ended ts
ended l n no_param line [] follows = absurd follows
ended l n no_param line (t ∷ ts) follows = record { token = t; rest = ts; are = refl; quiet = quiet_close 2 t (omega arith) follows.0; plain = ap (is_kind (T.Punctuator P.Assign)) follows.0 }
ended l n (more_param p ps) line [] follows = absurd follows
ended l n (more_param p ps) line (t ∷ ts) follows = record { token = t; rest = ts; are = refl; quiet = quiet_comma 2 t (omega arith) follows.0; plain = ap (is_kind (T.Punctuator P.Assign)) follows.0 }

-- a parameter, and what follows it
named_param : (p : Param) (ps : Params) (tp : List Token) (v : Token) (rest : List Token) → ReadParam p tp v → ReadParams (By choice.AfterParameter ∷ []) ps (v ∷ rest) → ReadParams name_slots (more_param p ps) (tp ++ v ∷ rest)
named_param p ps tp v rest r more = record {
  tree = more_param r.tree more.tree;
  pieces = r.pieces ++ more.pieces;
  end = more.end;
  spells = λ l m ss qs us next d.
      subst (λ xs. SpellsSlots (name_slots ++ ss) xs l m ((tp ++ v ∷ rest) ++ us) next) (sym (append_assoc r.pieces more.pieces qs))
      (subst (λ xs. SpellsSlots (name_slots ++ ss) (r.pieces ++ (more.pieces ++ qs)) l m xs next) (sym (append_assoc tp (v ∷ rest) us))
      (r.spells l m (By choice.AfterParameter ∷ ss) (more.pieces ++ qs) (rest ++ us) next (more.spells r.end m ss qs us next d)));
  function = λ qs n b h. ap function_of (append_assoc r.pieces more.pieces qs) ∙ r.function (more.pieces ++ qs) ∙ ap (with_param r.tree) (more.function qs n b h);
  method = λ qs others n b m h. ap method_of (append_assoc r.pieces more.pieces qs) ∙ r.method (more.pieces ++ qs) ∙ ap (method_param r.tree) (more.method qs others n b m h);
  same = λ i. more_param (r.same i) (more.same i);
}

named_read : (l n j k : Option Loc) (w : List ℕ) (d : MaybeExpr) (ps : Params) → is_keyword w ≡ false → DefaultWill d → ((line : Bool) (ts : List Token) → Follows line (more_params_tokens l ps ++ written.mark n P.CloseParenthesis ∷ []) ts → ReadParams (By choice.AfterParameter ∷ []) ps ts) →
    (t : Token) (ts : List Token) → t.kind ≡ Word w → Follows false ((initializer_tokens j d ++ more_params_tokens l ps) ++ written.mark n P.CloseParenthesis ∷ []) ts → ReadParams name_slots (more_param (MakeParam j (BindingIdentifier k w) d) ps) (t ∷ ts)
named_read l n j k w d ps free will go t ts is follows =
    by_split (λ us. ReadParams name_slots (more_param (MakeParam j (BindingIdentifier k w) d) ps) (t ∷ us)) false (initializer_tokens j d) (more_params_tokens l ps ++ written.mark n P.CloseParenthesis ∷ []) ts
    (subst (λ ws. Follows false ws ts) (append_assoc (initializer_tokens j d) (more_params_tokens l ps) (written.mark n P.CloseParenthesis ∷ [])) follows)
    (λ te rest fe fr. with_end te rest fe (ended l n ps (last_line false (initializer_tokens j d)) rest fr) (go (last_line false (initializer_tokens j d)) rest fr))
  where
    with_end : (te rest : List Token) → Follows false (initializer_tokens j d) te → Ended rest → ReadParams (By choice.AfterParameter ∷ []) ps rest → ReadParams name_slots (more_param (MakeParam j (BindingIdentifier k w) d) ps) (t ∷ (te ++ rest))
    with_end te rest fe e more =
        subst (λ us. ReadParams name_slots (more_param (MakeParam j (BindingIdentifier k w) d) ps) (t ∷ (te ++ us))) (sym e.are)
        (named_param (MakeParam j (BindingIdentifier k w) d) ps (t ∷ te) e.token e.rest (param_read j k w d free will t te e.token is fe e.quiet e.plain)
        (subst (λ us. ReadParams (By choice.AfterParameter ∷ []) ps us) e.are more))

after_comma : (c : Token) (t : Token) (w : List ℕ) (ps : Params) (ts : List Token) → c.kind ≡ T.Punctuator P.Comma → t.kind ≡ Word w → ReadParams name_slots ps (t ∷ ts) → ReadParams (By choice.AfterParameter ∷ []) ps (c ∷ t ∷ ts)
after_comma c t w ps ts is_comma is r = record {
  tree = r.tree;
  pieces = r.pieces;
  end = r.end;
  spells = λ l m ss qs us next d. Sentences.chosen {qs = []} {us = c ∷ t ∷ (ts ++ us)} (ap (branch choice.AfterParameter) (known c (T.Punctuator P.Comma) is_comma))
      (Sentences.sign c is_comma (Sentences.chosen {qs = []} {us = t ∷ (ts ++ us)} (ap (branch choice.Parameters) (known t (Word w) is)) (r.spells c.loc m ss qs us next d)));
  function = r.function;
  method = r.method;
  same = r.same;
}

at_first : (t : Token) (w : List ℕ) (ps : Params) (ts : List Token) → t.kind ≡ Word w → ReadParams name_slots ps (t ∷ ts) → ReadParams (By choice.Parameters ∷ []) ps (t ∷ ts)
at_first t w ps ts is r = record {
  tree = r.tree;
  pieces = r.pieces;
  end = r.end;
  spells = λ l m ss qs us next d. Sentences.chosen {qs = []} {us = t ∷ (ts ++ us)} (ap (branch choice.Parameters) (known t (Word w) is)) (r.spells l m ss qs us next d);
  function = r.function;
  method = r.method;
  same = r.same;
}

more_read : (l n : Option Loc) (ps : Params) → ParamsWill ps → (line : Bool) (ts : List Token) → Follows line (more_params_tokens l ps ++ written.mark n P.CloseParenthesis ∷ []) ts → ReadParams (By choice.AfterParameter ∷ []) ps ts
more_read l n no_param all line ts follows =
    by_last (λ us. ReadParams (By choice.AfterParameter ∷ []) no_param us) line (written.mark n P.CloseParenthesis) ts follows
    (λ t is on. closed choice.AfterParameter t is (ap (branch choice.AfterParameter) (known t (T.Punctuator P.CloseParenthesis) is)))
more_read l n (more_param (MakeParam j (BindingIdentifier k w) d) ps) all line ts follows =
    by_token (λ us. ReadParams (By choice.AfterParameter ∷ []) (more_param (MakeParam j (BindingIdentifier k w) d) ps) us) line (written.mark l P.Comma)
    (((word j w ∷ initializer_tokens j d) ++ more_params_tokens l ps) ++ written.mark n P.CloseParenthesis ∷ []) ts follows
    (λ c rest is_comma on f. by_token (λ us. ReadParams (By choice.AfterParameter ∷ []) (more_param (MakeParam j (BindingIdentifier k w) d) ps) (c ∷ us)) false (word j w)
    ((initializer_tokens j d ++ more_params_tokens l ps) ++ written.mark n P.CloseParenthesis ∷ []) rest f
    (λ t tr is at fr. after_comma c t w (more_param (MakeParam j (BindingIdentifier k w) d) ps) tr is_comma is
    (named_read l n j k w d ps all.0 all.1 (λ b us fu. more_read l n ps all.2 b us fu) t tr is fr)))

pub params_read : (l n : Option Loc) (ps : Params) → ParamsWill ps → (line : Bool) (ts : List Token) → Follows line (params_tokens l ps ++ written.mark n P.CloseParenthesis ∷ []) ts → ReadParams (By choice.Parameters ∷ []) ps ts
params_read l n no_param all line ts follows =
    by_last (λ us. ReadParams (By choice.Parameters ∷ []) no_param us) line (written.mark n P.CloseParenthesis) ts follows
    (λ t is on. closed choice.Parameters t is (ap (branch choice.Parameters) (known t (T.Punctuator P.CloseParenthesis) is)))
params_read l n (more_param (MakeParam j (BindingIdentifier k w) d) ps) all line ts follows =
    by_token (λ us. ReadParams (By choice.Parameters ∷ []) (more_param (MakeParam j (BindingIdentifier k w) d) ps) us) line (word j w)
    ((initializer_tokens j d ++ more_params_tokens l ps) ++ written.mark n P.CloseParenthesis ∷ []) ts follows
    (λ t tr is on fr. at_first t w (more_param (MakeParam j (BindingIdentifier k w) d) ps) tr is (named_read l n j k w d ps all.0 all.1 (λ b us fu. more_read l n ps all.2 b us fu) t tr is fr))
