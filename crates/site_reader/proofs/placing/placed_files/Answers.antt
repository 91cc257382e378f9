use Rattle.std.proofs.Common.{◌<◌, arith, subst, sym}
use Rattle.std.specs.FinMap as finite
use Rattle.std.proofs.lemmas.List.Elements.{All-push}
use Rattle.site_items.specs.Defaults.{by_strength}
use Rattle.site_reader.specs.Placements.{AreKnown, IsKnown}
use Rattle.site_reader.specs.Placing.{placed, seen}
use Rattle.site_reader.proofs.EachLaws.{all_placed, one_placed}
use Rattle.site_reader.proofs.placing.placed_files.Goals as goal

pub loop-number-preserved : goal.loop-number-preserved
loop-number-preserved c =
    let config = c.args.config.now in
    let scopes = by_strength config.defaults in
    let made = c.loop-number.files.items in
    let lt : c.loop-number.number < finite.len c.args.held.now = omega (arith, c.len-number-end.ensures.number, c.loop-number-test.true) in (
      one_placed seen (placed config c.args.drafts) (finite.entries c.args.held.now) made _ c.loop-number.number c.placed_file.result (seen c.placed_file.result).1 (omega (arith, finite.len-entries c.args.held.now, lt))
          c.placed_file.ensures.file c.placed_file.ensures.place c.in_ok-push.ensures.items c.loop-number.invariant.0,
      subst (AreKnown config scopes) (sym c.in_ok-push.ensures.items) (All-push (IsKnown config scopes) made c.placed_file.result c.loop-number.invariant.1 c.placed_file.ensures.known),
    )

pub returns-clause-files : goal.returns-clause-files
returns-clause-files c =
    all_placed seen (placed c.args.config.now c.args.drafts) (finite.entries c.args.held.now) c.loop-number.files.items c.loop-number.number (omega (arith, finite.len-entries c.args.held.now, c.len-number-end.ensures.number, c.loop-number-test.false)) c.loop-number.invariant.0

pub returns-clause-known : goal.returns-clause-known
returns-clause-known c = c.loop-number.invariant.1
