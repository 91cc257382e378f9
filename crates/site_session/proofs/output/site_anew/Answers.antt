use Rattle.std.specs.FinMap.{empty}
use Rattle.site_session.specs.Full.{given_of}
use Rattle.site_session.specs.Rounds.{in_order}
use Rattle.site_session.proofs.Full.{came, counted, laws_in_order}
use Rattle.site_world.specs.Sights.{fixed_bytes}
use Rattle.site_session.proofs.output.site_anew.Goals as goal

pub output_of-requires-clause-counted : goal.output_of-requires-clause-counted
output_of-requires-clause-counted g c =
    let gone = c.all_anew-round.ensures in
    counted in_order (given_of c.args.held.now c.args.site.now empty) (fixed_bytes c.args.held.now c.args.site.now) c.all_anew-round.result gone.0 c.args.tally.now c.all_anew-round.new.tally gone.1

pub returns : goal.returns
returns g c =
    let gone = c.all_anew-round.ensures in (
      gone.0,
      came in_order laws_in_order c.args.held.now empty c.args.site.now gone.0 c.args.tally.now c.all_anew-round.new.tally c.all_anew-round.result c.output_of.result gone.1 c.output_of.ensures,
    )
