use Rattle.std.proofs.Common.{◌≡◌, ◌∷◌, [], rules, arith}
use Rattle.js_sheet.specs.Sheets as spec
use Rattle.js_sheet.proofs.Standing.{gap_turns}
use Rattle.js_sheet.proofs.sheet.Sheet.gap.Goals as goal

pub returns-then-parts : goal.returns-then-parts
returns-then-parts g c =
    let is : spec.gap c.args.self.now.left c.args.first ≡ 0x20 ∷ [] = grind (arith) in
    gap_turns _ _ c.args.first _ (search rules) is c.push-then-parts.ensures.turns
