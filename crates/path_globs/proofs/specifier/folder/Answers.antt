use Rattle.std.proofs.Common.{◌≡◌, ◌+◌, ◌-◌, Some, None, take, sym, ap, ◌∙◌, arith, lit<}
use Rattle.std.proofs.lemmas.Str.Pattern.{rfind_char}
use Rattle.path_globs.proofs.SpecifierLemmas.{no_folder, folder_to}
use Rattle.path_globs.proofs.specifier.folder.Goals as goal

pub returns-in-Some : goal.returns-in-Some
returns-in-Some c =
    let last = rfind_char 47 c.args.path.now (Some c.in-Some.at) c.in-Some.ensures.cases (lit< tt) in
    let all : c.in-Some.at + 1 - 0 ≡ c.in-Some.at + 1 = omega arith in
    c.range.ensures.value ∙ ap (λ n. take n c.args.path.now) all ∙ sym (folder_to c.args.path.now c.in-Some.at last.0 last.1 last.2)

pub returns-in-None : goal.returns-in-None
returns-in-None c = sym (no_folder c.args.path.now (rfind_char 47 c.args.path.now None c.in-None.ensures.cases (lit< tt)))
