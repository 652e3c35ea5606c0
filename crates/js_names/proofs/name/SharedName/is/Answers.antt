use Rattle.std.proofs.Common.{◌≡◌, ◌<◌, ◌≤◌, ◌^◌, length, sym, subst, ap, ◌∙◌, arith}
use Rattle.std.specs.Str.{bytes_eq}
use Rattle.std.proofs.lemmas.Slice.Eq.{bytes_eq-Decides}
use Rattle.js_names.specs.Name.{number_of, AreBytes}
use Rattle.js_names.proofs.Numerals.{same_number}
use Rattle.js_names.proofs.name.SharedName.is.Goals as goal

pub returns-then-self-lt-LONG : goal.returns-then-self-lt-LONG
returns-then-self-lt-LONG c =
    let mine : c.self.inside.number ≡ number_of c.args.self.now = c.self.invariant.0 ∙ ap number_of c.self.view_is in
    let its : c.other.inside.number ≡ number_of c.args.other.now = c.other.invariant.0 ∙ ap number_of c.other.view_is in
    let bytes : length c.args.self.now ≤ 7 → AreBytes c.args.self.now = subst (λ bs. length bs ≤ 7 → AreBytes bs) c.self.view_is c.self.invariant.1 in
    let others : length c.args.other.now ≤ 7 → AreBytes c.args.other.now = subst (λ bs. length bs ≤ 7 → AreBytes bs) c.other.view_is c.other.invariant.1 in
    let same : c.args.self.now ≡ c.args.other.now = same_number c.args.self.now c.args.other.now bytes others (sym mine ∙ c.if-self-other.true ∙ its) (omega (arith, mine, c.if-self-lt-LONG.true)) in
    rw ((bytes_eq-Decides c.args.self.now c.args.other.now).1 same) (grind (arith, c.if-self-lt-LONG.true))
