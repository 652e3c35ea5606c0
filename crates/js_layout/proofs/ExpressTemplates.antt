-- Templates with substitutions.
use Rattle.std.proofs.Common.{◌≡◌, ◌≤◌, Bool, false, List, [], ◌∷◌, ◌++◌, Option, Some, None, refl, sym, ap, arith}
use Rattle.js_terms.specs.declared.place.Loc.{Loc}
use Rattle.js_terms.specs.declared.words.Spelled.{Spelled}
use Rattle.js_tree.specs.Plain.{Expr, TemplateParts, TemplatePart, MakeTemplatePart, no_template_part, more_template_part}
use Rattle.js_tree.specs.Plain as tree
use Rattle.js_text.specs.Token.{Token, TemplateHead, TemplateMiddle, TemplateTail}
use Rattle.js_reading.specs.Level.{any}
use Rattle.js_reading.specs.Spans.{through}
use Rattle.js_reading.specs.Slots.{Level, Expr_, By, Piece, AnExpr, AText}
use Rattle.js_reading.specs.declared.form.Form.TheVariants as slot
use Rattle.js_reading.specs.declared.choice.Choice.TheVariants as choice
use Rattle.js_reading.specs.declared.class.Class.TheVariants.{FirstText, LaterText}
use Rattle.js_reading.specs.Productions.{text_of, piece_of}
use Rattle.js_reading.specs.Choices.{branch}
use Rattle.js_reading.specs.Makes.{template_parts, one_more_part, template_of}
use Rattle.js_reading.specs.Sentences
use Rattle.js_reading.specs.Sentences.{SpellsSlots}
use Rattle.js_layout.specs.Tokens.{expr_tokens, parts_tokens, later_part, token}
use Rattle.js_layout.specs.Unplaced.{unplaced_template_parts}
use Rattle.js_layout.proofs.Follows.{Follows, unbegun}
use Rattle.js_layout.proofs.Spelt.{standing, edge, SpeltExpr, WillExpr}
use Rattle.js_layout.proofs.ExpressLevels.{edge_some}
use Rattle.js_layout.proofs.ExpressSigns.{known, prefix_template, quiet_middle, quiet_tail}
use Rattle.js_layout.proofs.ExpressParts.{by_split, by_token, by_last, same_traits, operand}

some_edge : (e : Expr) → 1 ≤ edge (standing e)
some_edge e = omega (arith, edge_some (standing e))

abbrev pub PartsWill : TemplateParts → Type 0
PartsWill no_template_part = Unit {0}
PartsWill (more_template_part (MakeTemplatePart e s) ps) = (any ≤ standing e) × WillExpr e × (s ≡ text_of s.spelling) × PartsWill ps

-- from the first substitution to the end of the template
pub record SpeltParts (ps : TemplateParts) (ts : List Token) (next : Token) : Type 0 where
  pub tree : TemplateParts
  pub pieces : List Piece
  pub end : Loc
  pub spells : (l : Loc) → SpellsSlots (Expr_ (Level any) ∷ By choice.TemplateRest ∷ []) pieces l end ts next
  pub made : template_parts pieces ≡ Some tree
  pub same : unplaced_template_parts tree ≡ unplaced_template_parts ps

last_part : (e : Expr) (s : Spelled) (te : List Token) (t next : Token) → any ≤ standing e → s ≡ text_of s.spelling → t.kind ≡ TemplateTail s.spelling → SpeltExpr e te t → SpeltParts (more_template_part (MakeTemplatePart e s) no_template_part) (te ++ t ∷ []) next
last_part e s te t next low h is se = record {
  tree = more_template_part (MakeTemplatePart se.tree (text_of s.spelling)) no_template_part;
  pieces = AnExpr (standing e) se.tree ∷ AText (text_of s.spelling) ∷ [];
  end = t.loc;
  spells = λ l. operand {us = t ∷ []} low (quiet_tail any t s.spelling (omega arith) is) se.spells
      (Sentences.chosen {qs = []} {us = t ∷ []} (ap (branch choice.TemplateRest) (known t (TemplateTail s.spelling) is)) (Sentences.text t (ap (λ k. piece_of LaterText k t.loc) is) Sentences.done));
  made = refl;
  same = λ i. more_template_part (MakeTemplatePart (se.same i) (sym h i)) no_template_part;
}

more_parts : (e : Expr) (s : Spelled) (f : TemplatePart) (ps : TemplateParts) (te tp : List Token) (t next : Token) → any ≤ standing e → s ≡ text_of s.spelling → t.kind ≡ TemplateMiddle s.spelling → SpeltExpr e te t → SpeltParts (more_template_part f ps) tp next →
    SpeltParts (more_template_part (MakeTemplatePart e s) (more_template_part f ps)) (te ++ t ∷ tp) next
more_parts e s f ps te tp t next low h is se more = record {
  tree = more_template_part (MakeTemplatePart se.tree (text_of s.spelling)) more.tree;
  pieces = AnExpr (standing e) se.tree ∷ AText (text_of s.spelling) ∷ more.pieces;
  end = more.end;
  spells = λ l. operand {us = t ∷ tp} low (quiet_middle any t s.spelling (omega arith) is) se.spells
      (Sentences.chosen {qs = []} {us = t ∷ tp} (ap (branch choice.TemplateRest) (known t (TemplateMiddle s.spelling) is)) (Sentences.text t (ap (λ k. piece_of LaterText k t.loc) is) (more.spells t.loc)));
  made = ap (one_more_part (MakeTemplatePart se.tree (text_of s.spelling))) more.made;
  same = λ i. more_template_part (MakeTemplatePart (se.same i) (sym h i)) (more.same i);
}

some_parts : (l : Option Loc) (e : Expr) (s : Spelled) (ps : TemplateParts) → any ≤ standing e → WillExpr e → s ≡ text_of s.spelling → PartsWill ps → (line : Bool) (ts : List Token) (next : Token) →
    Follows line (expr_tokens e ++ token l (later_part ps s.spelling) ∷ parts_tokens l ps) ts → SpeltParts (more_template_part (MakeTemplatePart e s) ps) ts next
some_parts l e s no_template_part low will h all line ts next follows =
    by_split (λ us. SpeltParts (more_template_part (MakeTemplatePart e s) no_template_part) us next) line (expr_tokens e) (token l (TemplateTail s.spelling) ∷ []) ts follows
    (λ te rest fe f. by_last (λ us. SpeltParts (more_template_part (MakeTemplatePart e s) no_template_part) (te ++ us) next) _ (token l (TemplateTail s.spelling)) rest f
    (λ t is on. last_part e s te t next low h is (will line te t fe (quiet_tail (edge (standing e)) t s.spelling (some_edge e) is))))
some_parts l e s (more_template_part (MakeTemplatePart f r) ps) low will h all line ts next follows =
    by_split (λ us. SpeltParts (more_template_part (MakeTemplatePart e s) (more_template_part (MakeTemplatePart f r) ps)) us next) line (expr_tokens e)
    (token l (TemplateMiddle s.spelling) ∷ (expr_tokens f ++ token l (later_part ps r.spelling) ∷ parts_tokens l ps)) ts follows
    (λ te rest fe fr. by_token (λ us. SpeltParts (more_template_part (MakeTemplatePart e s) (more_template_part (MakeTemplatePart f r) ps)) (te ++ us) next) _ (token l (TemplateMiddle s.spelling)) (expr_tokens f ++ token l (later_part ps r.spelling) ∷ parts_tokens l ps) rest fr
    (λ t tp is on fp. more_parts e s (MakeTemplatePart f r) ps te tp t next low h is (will line te t fe (quiet_middle (edge (standing e)) t s.spelling (some_edge e) is)) (some_parts l f r ps all.0 all.1 all.2 all.3 false tp next fp)))

-- a template with at least one substitution
pub template : (l : Option Loc) (s : Spelled) (e : Expr) (r : Spelled) (ps : TemplateParts) → s ≡ text_of s.spelling → any ≤ standing e → WillExpr e → r ≡ text_of r.spelling → PartsWill ps → WillExpr (tree.TemplateLiteral l s (more_template_part (MakeTemplatePart e r) ps))
template l s e r ps h low will g all line ts next follows quiet =
    by_token (λ us. SpeltExpr (tree.TemplateLiteral l s (more_template_part (MakeTemplatePart e r) ps)) us next) line (token l (TemplateHead s.spelling)) (expr_tokens e ++ token l (later_part ps r.spelling) ∷ parts_tokens l ps) ts (unbegun l line _ ts follows)
    (λ t rest is on f. whole t rest is (some_parts l e r ps low will g all false rest next f))
  where
    whole : (t : Token) (rest : List Token) → t.kind ≡ TemplateHead s.spelling → SpeltParts (more_template_part (MakeTemplatePart e r) ps) rest next → SpeltExpr (tree.TemplateLiteral l s (more_template_part (MakeTemplatePart e r) ps)) (t ∷ rest) next
    whole t rest is sp = let read : Expr = tree.TemplateLiteral (Some (through t.loc sp.end)) (text_of s.spelling) sp.tree in record {
      tree = read;
      loc = through t.loc sp.end;
      spells = Sentences.prefixed slot.Template t (prefix_template t s.spelling is) (Sentences.text t (ap (λ k. piece_of FirstText k t.loc) is) (sp.spells t.loc)) (ap (template_of (through t.loc sp.end) (text_of s.spelling)) sp.made);
      same = λ i. tree.TemplateLiteral None (sym h i) (sp.same i);
      traits = same_traits read (tree.TemplateLiteral l s (more_template_part (MakeTemplatePart e r) ps)) refl refl refl refl refl;
    }
