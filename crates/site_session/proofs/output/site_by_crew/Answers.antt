use Rattle.site_session.specs.Full.{given_of}
use Rattle.site_session.specs.Rounds.{in_any_order}
use Rattle.site_session.proofs.Full.{came, counted, laws_in_any_order}
use Rattle.site_world.specs.Sights.{fixed_bytes}
use Rattle.site_session.proofs.output.site_by_crew.Goals as goal

pub output_of-requires-clause-counted : goal.output_of-requires-clause-counted
output_of-requires-clause-counted g c =
    counted in_any_order (given_of c.args.held.now c.args.site.now c.args.memo.now) (fixed_bytes c.args.held.now c.args.site.now) c.by_crew-round.result c.by_crew-round.new.memo c.args.tally.now c.by_crew-round.new.tally c.by_crew-round.ensures

pub returns : goal.returns
returns g c =
    came in_any_order laws_in_any_order c.args.held.now c.args.memo.now c.args.site.now c.by_crew-round.new.memo c.args.tally.now c.by_crew-round.new.tally c.by_crew-round.result c.output_of.result c.by_crew-round.ensures c.output_of.ensures
