use Rattle.std.proofs.Common.{sym, ap, ◌∙◌, ◌++◌, ◌∷◌, []}
use Rattle.std.specs.Option.{option_copied_mut}
use Rattle.cov_merge.proofs.Groups.{put_in, add-there, add-first}
use Rattle.cov_merge.proofs.maps.add_file.Goals as goal

pub returns-in_ok-push-in-Some : goal.returns-in_ok-push-in-Some
returns-in_ok-push-in-Some c =
    let files = c.push.new.self in
    add-there c.args.groups.now.entries (c.get_mut.follows.lender files).entries c.as_str-path.result c.in-Some.files.now files c.args.file c.get_mut.ensures.ordered
    (sym c.get_mut.ensures.value ∙ ap option_copied_mut c.in-Some.is) c.as_str-path.ensures (c.get_mut.follows.holds files).0 c.in_ok-push-in-Some.ensures.items

pub returns-in_ok-insert-in-None : goal.returns-in_ok-insert-in-None
returns-in_ok-insert-in-None c =
    add-first c.args.groups.now.entries c.insert.new.self.entries c.as_str-path.result c.push-in-None.new.self c.args.file
    (sym c.get_mut.ensures.value ∙ ap option_copied_mut c.in-None.is) c.as_str-path.ensures
    (c.in_ok-insert-in-None.ensures.entries ∙ ap (put_in c.as_str-path.result c.push-in-None.new.self) c.get_mut.follows.holds-at-none)
    (c.in_ok-push-in-None.ensures.items ∙ ap (λ files. files ++ c.args.file ∷ []) c.new-files.ensures.items)
