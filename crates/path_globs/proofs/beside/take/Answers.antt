use Rattle.std.proofs.Common.{◌∙◌, Bor, ℕ, List, map}
use Rattle.path_globs.proofs.BesideLemmas.{kept_component, kept_push}
use Rattle.path_globs.proofs.beside.take.Goals as goal

pub returns-in_ok-push-in_default : goal.returns-in_ok-push-in_default
returns-in_ok-push-in_default c =
    kept_push c.args.kept.now.items c.push.new.self.items c.args.component c.in_ok-push-in_default.ensures.items
    ∙ kept_component (map (λ (part : Bor (List ℕ)). part.now) c.args.kept.now.items) c.args.component.now c.in_default.not-empty c.in_default.not-text c.in_default.not-text-2
