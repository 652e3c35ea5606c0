-- Functions: their parameters, and their bodies in braces.
use Rattle.std.proofs.Common.{◌≡◌, Bool, true, false, List, [], ◌∷◌, ◌++◌, Option, Some, None, refl, sym, ap, subst, ◌∙◌, append-nil, append_assoc}
use Rattle.std.specs.Prelude.{codes}
use Rattle.js_terms.specs.declared.place.Loc.{Loc}
use Rattle.js_terms.specs.declared.words.Identifier.{Identifier}
use Rattle.js_tree.specs.Plain.{Expr, Params, Stmts, Function, MakeFunction, MakeFunctionBody}
use Rattle.js_tree.specs.Plain as tree
use Rattle.js_tree.specs.Same.{bare_identifier_if}
use Rattle.js_text.specs.Token.{Token, Word}
use Rattle.js_text.specs.Token as T
use Rattle.js_text.specs.declared.punctuator.Punctuator.TheVariants as P
use Rattle.js_reading.specs.Spans.{through, first}
use Rattle.js_reading.specs.Kinds.{is_keyword}
use Rattle.js_reading.specs.Slots.{Slot, Stmts_, Place_, By, Piece, TheStmts, APlace, Missing}
use Rattle.js_reading.specs.declared.form.Form.TheVariants as slot
use Rattle.js_reading.specs.declared.choice.Choice.TheVariants as choice
use Rattle.js_reading.specs.Productions.{mark, braces, callable}
use Rattle.js_reading.specs.Choices.{branch}
use Rattle.js_reading.specs.Makes.{function_of, method_of, expression_of, identifier, with_directives}
use Rattle.js_reading.specs.Sentences
use Rattle.js_reading.specs.Sentences.{SpellsSlots, closes}
use Rattle.js_layout.specs.Tokens.{stmts_tokens, params_tokens, function_tokens, braced, word}
use Rattle.js_layout.specs.Tokens as written
use Rattle.js_layout.specs.Unplaced.{unplaced_function, unplaced_stmts}
use Rattle.js_layout.proofs.Follows.{Follows, unbegun}
use Rattle.js_layout.proofs.Spelt.{SpeltExpr, WillExpr, SpeltStmts, WillBody, WillFunction}
use Rattle.js_layout.proofs.ExpressSigns.{known, prefix_function}
use Rattle.js_layout.proofs.ExpressParts.{by_split, by_token, by_last, same_traits}
use Rattle.js_layout.proofs.ExpressParameters.{ParamsWill}
use Rattle.js_layout.proofs.ExpressParameterSlots.{ReadParams, params_read, bound_piece}

-- ---- statements in braces

-- with the places of both braces, and the location of the second
pub record ReadBraces (ss : Stmts) (ts : List Token) : Type 0 where
  pub tree : Stmts
  pub start : Loc
  pub end : Loc
  pub spells : (l m : Loc) (rest : List Slot) (qs : List Piece) (us : List Token) (next : Token) → SpellsSlots rest qs end m us next → SpellsSlots (braces ++ rest) (APlace start ∷ TheStmts tree ∷ APlace end ∷ qs) l m (ts ++ us) next
  pub same : unplaced_stmts (with_directives tree) ≡ unplaced_stmts ss

close_ends : (u : Token) → u.kind ≡ T.Punctuator P.CloseBrace → closes u ≡ true
close_ends u is = ap closes (known u (T.Punctuator P.CloseBrace) is)

pub braces_read : (l : Option Loc) (ss : Stmts) → WillBody ss → (line : Bool) (ts : List Token) → Follows line (braced l (stmts_tokens ss)) ts → ReadBraces ss ts
braces_read l ss will line ts follows =
    by_token (λ us. ReadBraces ss us) line (written.last_mark l P.OpenBrace) (stmts_tokens ss ++ written.last_mark l P.CloseBrace ∷ []) ts follows
    (λ t rest is on f. by_split (λ us. ReadBraces ss (t ∷ us)) true (stmts_tokens ss) (written.last_mark l P.CloseBrace ∷ []) rest f
    (λ tb more fb fm. by_last (λ us. ReadBraces ss (t ∷ (tb ++ us))) _ (written.last_mark l P.CloseBrace) more fm
    (λ u is_close at. whole t u tb is is_close (will true tb u fb (close_ends u is_close)))))
  where
    whole : (t u : Token) (tb : List Token) → t.kind ≡ T.Punctuator P.OpenBrace → u.kind ≡ T.Punctuator P.CloseBrace → SpeltStmts ss tb u → ReadBraces ss (t ∷ (tb ++ u ∷ []))
    whole t u tb is is_close s = record {
      tree = s.tree;
      start = t.loc;
      end = u.loc;
      spells = λ l m rest qs us next d. Sentences.sign t is (Sentences.place
          (subst (λ xs. SpellsSlots (Stmts_ ∷ mark P.CloseBrace ∷ Place_ ∷ rest) (TheStmts s.tree ∷ APlace u.loc ∷ qs) t.loc m xs next) (sym (append_assoc tb (u ∷ []) us))
          (Sentences.stmts {us = u ∷ us} (s.spells t.loc) (close_ends u is_close) (Sentences.sign u is_close (Sentences.place d)))));
      same = s.same;
    }

-- ---- functions

-- a function is read from here to its last `}`
pub record ReadFunction (f : Function) (ts : List Token) : Type 0 where
  pub tree : Function
  pub pieces : List Piece
  pub end : Loc
  pub spells : (l m : Loc) (ss : List Slot) (qs : List Piece) (us : List Token) (next : Token) → SpellsSlots ss qs end m us next → SpellsSlots (callable ++ ss) (pieces ++ qs) l m (ts ++ us) next
  pub function : function_of pieces ≡ Some tree
  pub method : (qs : List Piece) → method_of (pieces ++ qs) ≡ Some (tree, end, qs)
  pub same : unplaced_function tree ≡ unplaced_function f

abbrev pub WillReadFunction : Option Loc → Function → Type 0
WillReadFunction l f = (line : Bool) (ts : List Token) → Follows line (function_tokens l f) ts → ReadFunction f ts

pub function_read : (l m : Option Loc) (ps : Params) (ss : Stmts) → ParamsWill ps → WillBody ss → WillReadFunction l (MakeFunction 0 ps (MakeFunctionBody m ss))
function_read l m ps ss all will line ts follows =
    by_token (λ us. ReadFunction (MakeFunction 0 ps (MakeFunctionBody m ss)) us) line (written.mark l P.OpenParenthesis) (params_tokens l ps ++ written.mark l P.CloseParenthesis ∷ braced m (stmts_tokens ss)) ts follows
    (λ t rest is on f. by_split (λ us. ReadFunction (MakeFunction 0 ps (MakeFunctionBody m ss)) (t ∷ us)) false (params_tokens l ps ++ written.mark l P.CloseParenthesis ∷ []) (braced m (stmts_tokens ss)) rest
    (subst (λ ws. Follows false ws rest) (sym (append_assoc (params_tokens l ps) (written.mark l P.CloseParenthesis ∷ []) (braced m (stmts_tokens ss)))) f)
    (λ tp tb fp fb. whole t tp tb is (params_read l l ps all false tp fp) (braces_read m ss will _ tb fb)))
  where
    whole : (t : Token) (tp tb : List Token) → t.kind ≡ T.Punctuator P.OpenParenthesis → ReadParams (By choice.Parameters ∷ []) ps tp → ReadBraces ss tb → ReadFunction (MakeFunction 0 ps (MakeFunctionBody m ss)) (t ∷ (tp ++ tb))
    whole t tp tb is r b = record {
      tree = MakeFunction 0 r.tree (MakeFunctionBody (Some (through b.start b.end)) (with_directives b.tree));
      pieces = r.pieces ++ APlace b.start ∷ TheStmts b.tree ∷ APlace b.end ∷ [];
      end = b.end;
      spells = λ l n rest qs us next d. Sentences.sign t is
          (subst (λ xs. SpellsSlots (By choice.Parameters ∷ (braces ++ rest)) xs t.loc n ((tp ++ tb) ++ us) next) (sym (append_assoc r.pieces (APlace b.start ∷ TheStmts b.tree ∷ APlace b.end ∷ []) qs))
          (subst (λ xs. SpellsSlots (By choice.Parameters ∷ (braces ++ rest)) (r.pieces ++ APlace b.start ∷ TheStmts b.tree ∷ APlace b.end ∷ qs) t.loc n xs next) (sym (append_assoc tp tb us))
          (r.spells t.loc n (braces ++ rest) (APlace b.start ∷ TheStmts b.tree ∷ APlace b.end ∷ qs) (tb ++ us) next (b.spells r.end n rest qs us next d))));
      function = r.function (APlace b.start ∷ TheStmts b.tree ∷ APlace b.end ∷ []) 0 (MakeFunctionBody (Some (through b.start b.end)) (with_directives b.tree)) refl;
      method = λ qs. ap method_of (append_assoc r.pieces (APlace b.start ∷ TheStmts b.tree ∷ APlace b.end ∷ []) qs)
          ∙ r.method (APlace b.start ∷ TheStmts b.tree ∷ APlace b.end ∷ qs) qs 0 (MakeFunctionBody (Some (through b.start b.end)) (with_directives b.tree)) b.end refl;
      same = λ i. MakeFunction 0 (r.same i) (MakeFunctionBody None (b.same i));
    }

-- the last part of a production
pub last_function : (f : Function) (ts : List Token) (r : ReadFunction f ts) (l : Loc) (next : Token) → SpellsSlots callable r.pieces l r.end ts next
last_function f ts r l next =
    subst (λ xs. SpellsSlots callable xs l r.end ts next) (append-nil r.pieces)
    (subst (λ xs. SpellsSlots callable (r.pieces ++ []) l r.end xs next) (append-nil ts) (r.spells l r.end [] [] [] next Sentences.done))

-- the same from any location, as what holds functions asks for it
pub function_spelt : (l : Option Loc) (f : Function) → WillReadFunction l f → WillFunction l f
function_spelt l f will line ts next follows =
    let r = will line ts follows in record { tree = r.tree; pieces = r.pieces; end = λ m. r.end; spells = λ m. last_function f ts r m next; made = r.function; same = r.same }

-- ---- function expressions

first_mark : (f : Function) (l : Option Loc) (line : Bool) (ts : List Token) (next : Token) → Follows line (function_tokens l f) ts → (first ts next).kind ≡ T.Punctuator P.OpenParenthesis
first_mark (MakeFunction n ps b) l line [] next follows = absurd follows
first_mark (MakeFunction n ps b) l line (t ∷ ts) next follows = follows.0

pub function_expression : (l : Option Loc) (f : Function) → WillReadFunction l f → WillExpr (tree.FunctionExpression l None f)
function_expression l f will line ts next follows quiet =
    by_token (λ us. SpeltExpr (tree.FunctionExpression l None f) us next) line (word l (codes "function")) (function_tokens l f) ts (unbegun l line _ ts follows)
    (λ t tf is on ff. whole t tf is (first_mark f l false tf next ff) (will false tf ff))
  where
    whole : (t : Token) (tf : List Token) → t.kind ≡ Word (codes "function") → (first tf next).kind ≡ T.Punctuator P.OpenParenthesis → ReadFunction f tf → SpeltExpr (tree.FunctionExpression l None f) (t ∷ tf) next
    whole t tf is opens r = let read : Expr = tree.FunctionExpression (Some (through t.loc r.end)) None r.tree in record {
      tree = read;
      loc = through t.loc r.end;
      spells = Sentences.prefixed slot.FunctionExpression t (prefix_function t is) (Sentences.sign t is (Sentences.passed {qs = Missing ∷ []} {us = tf}
          (ap (branch choice.FunctionName) (known (first tf next) (T.Punctuator P.OpenParenthesis) opens)) (last_function f tf r t.loc next)))
          (ap (expression_of (λ g. tree.FunctionExpression (Some (through t.loc r.end)) None g)) r.function);
      same = λ i. tree.FunctionExpression None None (r.same i);
      traits = same_traits read (tree.FunctionExpression l None f) refl refl refl refl refl;
    }

pub named_function : (l : Option Loc) (x : Identifier) (f : Function) → is_keyword x.name ≡ false → WillReadFunction l f → WillExpr (tree.FunctionExpression l (Some x) f)
named_function l x f free will line ts next follows quiet =
    by_token (λ us. SpeltExpr (tree.FunctionExpression l (Some x) f) us next) line (word l (codes "function")) (word l x.name ∷ function_tokens l f) ts (unbegun l line _ ts follows)
    (λ t rest is on fr. by_token (λ us. SpeltExpr (tree.FunctionExpression l (Some x) f) (t ∷ us) next) false (word l x.name) (function_tokens l f) rest fr
    (λ u tf is_name at ff. whole t u tf is is_name (will false tf ff)))
  where
    whole : (t u : Token) (tf : List Token) → t.kind ≡ Word (codes "function") → u.kind ≡ Word x.name → ReadFunction f tf → SpeltExpr (tree.FunctionExpression l (Some x) f) (t ∷ u ∷ tf) next
    whole t u tf is is_name r = let read : Expr = tree.FunctionExpression (Some (through t.loc r.end)) (Some (identifier x.name u.loc)) r.tree in record {
      tree = read;
      loc = through t.loc r.end;
      spells = Sentences.prefixed slot.FunctionExpression t (prefix_function t is) (Sentences.sign t is (Sentences.chosen {qs = []} {us = u ∷ tf}
          (ap (branch choice.FunctionName) (known u (Word x.name) is_name)) (Sentences.text u (bound_piece u x.name is_name free) (last_function f tf r u.loc next))))
          (ap (expression_of (λ g. tree.FunctionExpression (Some (through t.loc r.end)) (Some (identifier x.name u.loc)) g)) r.function);
      same = λ i. tree.FunctionExpression None (bare_identifier_if (Some x)) (r.same i);
      traits = same_traits read (tree.FunctionExpression l (Some x) f) refl refl refl refl refl;
    }
