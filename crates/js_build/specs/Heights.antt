-- How high the highest of a list is.
use Rattle.std.specs.Prelude.{ℕ, List}
use Rattle.js_tree.specs.declared.tree.Case.{Case}
use Rattle.js_tree.specs.declared.tree.Declarator.{Declarator}
use Rattle.js_tree.specs.declared.tree.TemplatePart.{TemplatePart}
use Rattle.js_tree.specs.Tree.{plain_case, plain_cases, plain_declarator, plain_declarators, plain_template_part, plain_template_parts}
use Rattle.js_tree.specs.Height.{height_case, height_cases, height_declarator, height_declarators, height_template_part, height_template_parts}

abbrev pub part_height : TemplatePart → ℕ
part_height p = height_template_part (plain_template_part p)

abbrev pub parts_height : List TemplatePart → ℕ
parts_height xs = height_template_parts (plain_template_parts xs)

abbrev pub case_height : Case → ℕ
case_height c = height_case (plain_case c)

abbrev pub cases_height : List Case → ℕ
cases_height xs = height_cases (plain_cases xs)

abbrev pub declarator_height : Declarator → ℕ
declarator_height d = height_declarator (plain_declarator d)

abbrev pub declarators_height : List Declarator → ℕ
declarators_height xs = height_declarators (plain_declarators xs)
