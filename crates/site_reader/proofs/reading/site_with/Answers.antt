use Rattle.std.proofs.Common.{ap, arith, length}
use Rattle.std.specs.FinMap.{entries, len-entries}
use Rattle.std.proofs.lemmas.List.{length-map}
use Rattle.site_reader.specs.Placing.{placed, seen}
use Rattle.site_reader.proofs.reading.site_with.Goals as goal

pub placed_site-requires-clause-few : goal.placed_site-requires-clause-few
placed_site-requires-clause-few c =
    omega (
      arith,
      c.in_ok-files.ensures.within.few,
      ap length c.in_ok-files.ensures.files,
      length-map c.in_ok-files.files.items seen,
      length-map (entries c.args.held.now) (placed c.args.config c.builds_drafts-drafts.result),
      len-entries c.args.held.now,
    )
