-- Parameters: read one by one in a function, and as items in an arrow's parentheses.
use Rattle.std.proofs.Common.{◌≡◌, ℕ, ◌≤◌, Bool, true, false, List, [], ◌∷◌, ◌++◌, Option, Some, None, refl, sym, ap, subst, arith, append-nil}
use Rattle.js_terms.specs.declared.place.Loc.{Loc}
use Rattle.js_terms.specs.declared.operators.AssignmentOperator.TheVariants as assign
use Rattle.js_tree.specs.Plain.{Expr, Exprs, no_expr, more_expr, Param, MakeParam, Params, no_param, more_param, BindingIdentifier, MaybeExpr, none_expr, some_expr}
use Rattle.js_tree.specs.Plain as tree
use Rattle.js_text.specs.Token.{Token, Word}
use Rattle.js_text.specs.Token as T
use Rattle.js_text.specs.declared.punctuator.Punctuator.TheVariants as P
use Rattle.js_reading.specs.Level.{assignment}
use Rattle.js_reading.specs.Spans.{through}
use Rattle.js_reading.specs.Kinds.{is_keyword}
use Rattle.js_reading.specs.Slots.{Level, AnExpr}
use Rattle.js_reading.specs.declared.form.Form.TheVariants as slot
use Rattle.js_reading.specs.Productions.{primary}
use Rattle.js_reading.specs.Makes.{param_of, params_of, one_more_param}
use Rattle.js_reading.specs.Sentences
use Rattle.js_reading.specs.Sentences.{Spells, SpellsItems}
use Rattle.js_layout.specs.Tokens.{expr_tokens, params_tokens, more_params_tokens, initializer_tokens, word}
use Rattle.js_layout.specs.Tokens as written
use Rattle.js_layout.specs.Unplaced.{unplaced_param, unplaced_params}
use Rattle.js_layout.proofs.Follows.{Follows, nothing, Quiet}
use Rattle.js_layout.proofs.Spelt.{standing, SpeltExpr, WillExpr}
use Rattle.js_layout.proofs.ExpressLevels.{quiet_any, no_going_on}
use Rattle.js_layout.proofs.ExpressSigns.{join_assignment, quiet_comma}
use Rattle.js_layout.proofs.ExpressParts.{by_split, by_token, by_last, last_operand}
use Rattle.js_layout.proofs.ExpressLeaves.{name_spelt}

-- each is a name, and its default is spelt
abbrev pub DefaultWill : MaybeExpr → Type 0
DefaultWill none_expr = Unit {0}
DefaultWill (some_expr e) = (assignment ≤ standing e) × WillExpr e

abbrev pub ParamsWill : Params → Type 0
ParamsWill no_param = Unit {0}
ParamsWill (more_param (MakeParam l (BindingIdentifier m w) e) ps) = (is_keyword w ≡ false) × DefaultWill e × ParamsWill ps

-- ---- as items

pub record SpeltParam (p : Param) (ts : List Token) (next : Token) : Type 0 where
  pub level : ℕ
  pub tree : Expr
  pub loc : Loc
  pub param : Param
  pub low : assignment ≤ level
  pub spells : Spells (AnExpr level tree) loc ts next
  pub made : param_of tree ≡ Some param
  pub same : unplaced_param param ≡ unplaced_param p

param_item : (l m : Option Loc) (w : List ℕ) (e : MaybeExpr) → is_keyword w ≡ false → DefaultWill e → (line : Bool) (ts : List Token) (next : Token) → Follows line (word l w ∷ initializer_tokens l e) ts → Quiet 2 next → SpeltParam (MakeParam l (BindingIdentifier m w) e) ts next
param_item l m w none_expr free will line ts next follows quiet =
    by_last (λ us. SpeltParam (MakeParam l (BindingIdentifier m w) none_expr) us next) line (word l w) ts follows
    (λ t is on. record {
      level = primary;
      tree = tree.IdentifierReference (Some t.loc) w;
      loc = t.loc;
      param = MakeParam (Some t.loc) (BindingIdentifier (Some t.loc) w) none_expr;
      low = omega arith;
      spells = name_spelt t w next is free;
      made = refl;
      same = refl;
    })
param_item l m w (some_expr e) free will line ts next follows quiet =
    by_token (λ us. SpeltParam (MakeParam l (BindingIdentifier m w) (some_expr e)) us next) line (word l w) (written.mark l P.Assign ∷ expr_tokens e) ts follows
    (λ t rest is on f. by_token (λ us. SpeltParam (MakeParam l (BindingIdentifier m w) (some_expr e)) (t ∷ us) next) false (written.mark l P.Assign) (expr_tokens e) rest f
    (λ u te is_assign at fe. whole t u te is is_assign (will.1 false te next fe (quiet_any (standing e) next quiet))))
  where
    whole : (t u : Token) (te : List Token) → t.kind ≡ Word w → u.kind ≡ T.Punctuator P.Assign → SpeltExpr e te next → SpeltParam (MakeParam l (BindingIdentifier m w) (some_expr e)) (t ∷ u ∷ te) next
    whole t u te is is_assign se = record {
      level = assignment;
      tree = tree.Assignment (Some (through t.loc se.loc)) assign.Assign (tree.IdentifierReference (Some t.loc) w) se.tree;
      loc = through t.loc se.loc;
      param = MakeParam (Some (through t.loc se.loc)) (BindingIdentifier (Some t.loc) w) (some_expr se.tree);
      low = omega arith;
      spells = Sentences.joined (slot.Assignment assign.Assign) {ta = t ∷ []} u (join_assignment assign.Assign u is_assign) refl (omega arith) (name_spelt t w u is free) (Sentences.sign u is_assign (last_operand will.0 quiet se.spells)) refl;
      made = refl;
      same = λ i. MakeParam None (BindingIdentifier None w) (some_expr (se.same i));
    }

pub record SpeltParams (ps : Params) (ts : List Token) (next : Token) : Type 0 where
  pub trailing : Bool
  pub tree : Exprs
  pub params : Params
  pub spells : SpellsItems trailing tree ts next
  pub made : params_of tree ≡ Some params
  pub same : unplaced_params params ≡ unplaced_params ps

one_param : (p : Param) (ts : List Token) (next : Token) → Quiet 2 next → SpeltParam p ts next → SpeltParams (more_param p no_param) ts next
one_param p ts next quiet s = record {
  trailing = false;
  tree = more_expr s.tree no_expr;
  params = more_param s.param no_param;
  spells = Sentences.last_item s.low s.spells (no_going_on (Level assignment) s.tree next 2 (omega arith) quiet);
  made = ap (λ o. one_more_param o (Some no_param)) s.made;
  same = λ i. more_param (s.same i) no_param;
}

next_param : (p : Param) (ps : Params) (tp ts : List Token) (t next : Token) → t.kind ≡ T.Punctuator P.Comma → SpeltParam p tp t → SpeltParams ps ts next → SpeltParams (more_param p ps) (tp ++ t ∷ ts) next
next_param p ps tp ts t next is s more = record {
  trailing = more.trailing;
  tree = more_expr s.tree more.tree;
  params = more_param s.param more.params;
  spells = Sentences.more_items t s.low s.spells is more.spells;
  made = λ i. one_more_param (s.made i) (more.made i);
  same = λ i. more_param (s.same i) (more.same i);
}

-- one parameter and those after it
some_params : (l m n : Option Loc) (w : List ℕ) (e : MaybeExpr) (ps : Params) → is_keyword w ≡ false → DefaultWill e → ParamsWill ps → (line : Bool) (ts : List Token) (next : Token) →
    Follows line ((word l w ∷ initializer_tokens l e) ++ more_params_tokens n ps) ts → Quiet 2 next → SpeltParams (more_param (MakeParam l (BindingIdentifier m w) e) ps) ts next
some_params l m n w e no_param free will all line ts next follows quiet =
    one_param (MakeParam l (BindingIdentifier m w) e) ts next quiet
    (param_item l m w e free will line ts next (subst (λ ws. Follows line ws ts) (append-nil (word l w ∷ initializer_tokens l e)) follows) quiet)
some_params l m n w e (more_param (MakeParam j (BindingIdentifier k v) d) ps) free will all line ts next follows quiet =
    by_split (λ us. SpeltParams (more_param (MakeParam l (BindingIdentifier m w) e) (more_param (MakeParam j (BindingIdentifier k v) d) ps)) us next) line (word l w ∷ initializer_tokens l e)
    (written.mark n P.Comma ∷ ((word j v ∷ initializer_tokens j d) ++ more_params_tokens n ps)) ts follows
    (λ tp rest fp f. by_token (λ us. SpeltParams (more_param (MakeParam l (BindingIdentifier m w) e) (more_param (MakeParam j (BindingIdentifier k v) d) ps)) (tp ++ us) next) _ (written.mark n P.Comma) ((word j v ∷ initializer_tokens j d) ++ more_params_tokens n ps) rest f
    (λ t tr is on fr. next_param (MakeParam l (BindingIdentifier m w) e) (more_param (MakeParam j (BindingIdentifier k v) d) ps) tp tr t next is
    (param_item l m w e free will line tp t fp (quiet_comma 2 t (omega arith) is)) (some_params j k n v d ps all.0 all.1 all.2 false tr next fr quiet)))

pub item_params : (l : Option Loc) (ps : Params) → ParamsWill ps → (line : Bool) (ts : List Token) (next : Token) → Follows line (params_tokens l ps) ts → Quiet 2 next → SpeltParams ps ts next
item_params l no_param all line ts next follows quiet =
    record { trailing = true; tree = no_expr; params = no_param; spells = subst (λ us. SpellsItems true no_expr us next) (sym (nothing line ts follows)) Sentences.no_item; made = refl; same = refl }
item_params l (more_param (MakeParam j (BindingIdentifier k v) d) ps) all line ts next follows quiet = some_params j k l v d ps all.0 all.1 all.2 line ts next follows quiet
