-- A normal form that doesn't end with `.js` is no source path.
use Rattle.std.proofs.Common.{◌≡◌, ◌∙◌, eqb, Some, Global, ap, sym, string_bytes}
use Rattle.std.specs.Prelude.{codes, option_map}
use Rattle.std.specs.List.{ends_with}
use Rattle.std.proofs.lemmas.Str.Pattern.{ends_text}
use Rattle.path_globs.specs.NormalForm.{normal}
use Rattle.path_globs.proofs.SourceLemmas.{no_source}
use Rattle.path_globs.proofs.source.source_path.Goals as goal

pub returns-else-ends_with : goal.returns-else-ends_with
returns-else-ends_with c =
    let ends : c.ends_with.result ≡ ends_with eqb c.deref.result.now (codes ".js") = ends_text _ (codes ".js") _ c.ends_with.ensures.cases in
    let here : Some (string_bytes c.in-Some.path) ≡ normal c.args.text.now = ap (option_map (string_bytes {Z = Global})) (sym c.in-Some.is) ∙ c.in_ok-path.ensures in
    no_source c.args.text.now (string_bytes c.in-Some.path) c.ends_with.result here (ends ∙ ap (λ text. ends_with eqb text (codes ".js")) c.deref.ensures) c.if-ends_with.false
