-- Templates, read from the front.
use Rattle.std.proofs.Common.{◌≡◌, List, [], ◌∷◌, Option, Some, None, refl, sym, ap, ◌∙◌}
use Rattle.js_terms.specs.declared.place.Loc.{Loc}
use Rattle.js_terms.specs.declared.words.Spelled.{Spelled}
use Rattle.js_tree.specs.declared.tree.Expr as code
use Rattle.js_tree.specs.declared.tree.TemplatePart.{roll-TemplatePart}
use Rattle.js_tree.specs.Tree.{plain_expr, plain_template_part}
use Rattle.js_tree.proofs.Equations.{template_part_rolled}
use Rattle.js_tree.specs.Plain as tree
use Rattle.js_tree.specs.Plain.{TemplatePart, TemplateParts, push_template_parts}
use Rattle.js_reading.specs.Slots.{Piece, AnExpr, AText}
use Rattle.js_reading.specs.declared.form.Form.TheVariants as form
use Rattle.js_reading.specs.Makes.{build, one_more_part, template_of, template_parts}
use Rattle.js_build.specs.TemplatePieces.{first_text, part_of}
use Rattle.js_build.proofs.ListLaws.{front_parts, part_rules, parts_all, parts_none, parts_push}

pub part_tree : (e : code.Expr) (s : Spelled) → plain_template_part (roll-TemplatePart (record { value = e; text = s })) ≡ tree.MakeTemplatePart (plain_expr e) s
part_tree e s = template_part_rolled (record { value = e; text = s })

-- with a substitution before the others
abbrev pub more_parts : Option (TemplatePart × List Piece) → Option TemplateParts
more_parts None = None
more_parts (Some x) = one_more_part x.0 (template_parts x.1)

pub parts_first : (p : Piece) (ps : List Piece) → template_parts (p ∷ ps) ≡ more_parts (part_of p (first_text ps))
parts_first (AnExpr i e) [] = refl
parts_first (AnExpr i e) (AText s ∷ ps) = refl
parts_first (AnExpr i e) (p ∷ ps) = refl
parts_first p ps = refl

pub part_turn : (xs : TemplateParts) (x : TemplatePart) (p : Piece) (ps rest : List Piece) (whole : Option TemplateParts) → Some (x, rest) ≡ part_of p (first_text ps) → front_parts xs (template_parts (p ∷ ps)) ≡ whole → front_parts (push_template_parts xs x) (template_parts rest) ≡ whole
part_turn xs x p ps rest whole read so = parts_push xs x (template_parts rest) ∙ ap (λ o. front_parts xs (more_parts o)) read ∙ ap (front_parts xs) (sym (parts_first p ps)) ∙ so

pub part_missing : (xs : TemplateParts) (p : Piece) (ps : List Piece) (whole : Option TemplateParts) → None ≡ part_of p (first_text ps) → front_parts xs (template_parts (p ∷ ps)) ≡ whole → None ≡ whole
part_missing xs p ps whole read so = sym (parts_none xs) ∙ ap (λ o. front_parts xs (more_parts o)) read ∙ ap (front_parts xs) (sym (parts_first p ps)) ∙ so

pub parts_end : (xs : TemplateParts) (ps : List Piece) (whole : Option TemplateParts) → ps ≡ [] → front_parts xs (template_parts ps) ≡ whole → Some xs ≡ whole
parts_end xs ps whole over so = sym (parts_all xs) ∙ ap (λ left. front_parts xs (template_parts left)) (sym over) ∙ so

pub ruleset template_rules = (part_rules, parts_first)

abbrev pub template_after : Loc → Option (Spelled × List Piece) → Option Piece
template_after l None = None
template_after l (Some x) = template_of l x.0 (template_parts x.1)

pub template_form : (l : Loc) (ps : List Piece) → build form.Template l ps ≡ template_after l (first_text ps)
template_form l [] = refl
template_form l (AText s ∷ ps) = refl
template_form l (p ∷ ps) = refl
