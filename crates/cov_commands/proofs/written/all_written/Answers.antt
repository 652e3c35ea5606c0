-- One file after the other: each is a source, or the first that ends the work.
use Rattle.std.proofs.Common.{◌∙◌, ◌≤◌, List, ℕ, ◌∷◌, length, ap, refl, sym, subst, arith}
use Rattle.std.proofs.lemmas.List.{take_all}
use Rattle.cov_run.specs.Loaded.{most}
use Rattle.cov_commands.specs.Instrument.{Each, StopsAt}
use Rattle.cov_commands.specs.private.Written.{IsWritten, files_of}
use Rattle.cov_commands.proofs.Texts.{Goes, next_each, next_goes, next_of, next_within, stops_here}
use Rattle.cov_commands.proofs.written.all_written.Goals as goal

pub loop-file-init : goal.loop-file-init
loop-file-init g c =
    let told = g.S.Store.held c.args.store.now in
    let none = c.new-list.ensures.items in record {
      of = ap files_of none;
      each = subst (Each (IsWritten told)) (sym none) tt;
      within = subst (λ list. length list ≤ most) (sym none) (omega arith);
      goes = subst (λ list. Goes told c.args.files.now (length list) c.args.files.now) (sym none) (λ file why stops. stops);
      later = omega arith;
      held = refl;
      puts = refl;
    }

pub loop-file-preserved : goal.loop-file-preserved
loop-file-preserved g c =
    let l = c.loop-file in
    let told = g.S.Store.held c.args.store.now in
    let files = c.args.files.now in
    let added = c.in-Ok.ensures.added in
    let named = added.1 ∙ c.as_str.ensures in
    let put : IsWritten told added.0 = subst (λ held. IsWritten held added.0) l.invariant.held added.2 in record {
      of = next_of told files l.file-index l.list.items c.file-item.result c.loop-file-test.true c.file-item.is l.invariant.goes l.invariant.of l.invariant.each added.0 named put c.in-Ok.ensures.room
          c.add.new.list.items added.3;
      each = next_each told files l.file-index l.list.items c.file-item.result c.loop-file-test.true c.file-item.is l.invariant.goes l.invariant.of l.invariant.each added.0 named put c.in-Ok.ensures.room
          c.add.new.list.items added.3;
      within = next_within told files l.file-index l.list.items c.file-item.result c.loop-file-test.true c.file-item.is l.invariant.goes l.invariant.of l.invariant.each added.0 named put c.in-Ok.ensures.room
          c.add.new.list.items added.3;
      goes = next_goes told files l.file-index l.list.items c.file-item.result c.loop-file-test.true c.file-item.is l.invariant.goes l.invariant.of l.invariant.each added.0 named put c.in-Ok.ensures.room
          c.add.new.list.items added.3;
      later = omega (arith, l.invariant.later, c.add.ensures.later);
      held = c.add.ensures.unchanged ∙ l.invariant.held;
      puts = c.add.ensures.puts ∙ l.invariant.puts;
    }

pub returns-in-Err-clause-stops : goal.returns-in-Err-clause-stops
returns-in-Err-clause-stops g c =
    let l = c.loop-file in
    let told = g.S.Store.held c.args.store.now in
    let here : (files : List (List ℕ)) → StopsAt told (length l.list.items) (c.file-item.result ∷ files) c.file-item.result c.in-Err.why =
    subst (λ file. (files : List (List ℕ)) → StopsAt told (length l.list.items) (file ∷ files) file c.in-Err.why) c.as_str.ensures
    (subst (λ held. (files : List (List ℕ)) → StopsAt held (length l.list.items) (c.as_str.result.now ∷ files) c.as_str.result.now c.in-Err.why) l.invariant.held c.in-Err.ensures.stops) in
    subst (λ file. StopsAt told 0 c.args.files.now file c.in-Err.why) (sym c.as_str-in-Err.ensures)
    (stops_here told c.args.files.now l.file-index l.list.items c.file-item.result c.loop-file-test.true c.file-item.is l.invariant.goes c.in-Err.why here)

pub returns : goal.returns
returns g c =
    let l = c.loop-file in record {
      written = record { of = l.invariant.of ∙ take_all l.file-index c.args.files.now c.loop-file-test.false; each = l.invariant.each };
      within = l.invariant.within;
      stops = tt;
      failed = tt;
      rose = tt;
      unchanged = l.invariant.held;
      puts = l.invariant.puts;
    }
