use Rattle.std.proofs.Common.{rules, subst}
use Rattle.std.specs.FinMap.{empty}
use Rattle.site_base.specs.Places.{Files}
use Rattle.site_reader.specs.declared.site.Site.{Site}
use Rattle.render_workers.proofs.TallyLaws.{grows_none}
use Rattle.site_session.specs.Full.{given_of}
use Rattle.site_session.specs.Rounds.{IsGone, in_order}
use Rattle.site_session.proofs.RoundLaws.{serial_gone}
use Rattle.site_world.specs.Sights.{fixed_bytes}
use Rattle.site_session.proofs.rounds.all_anew.Goals as goal

pub returns : goal.returns
returns g c =
    let world = c.in_ok-world.world in
    let result = c.render_all.result in let before = c.args.tally.now in let after = c.render_all.new.tally in
    let round = c.render_all.ensures.round in
    let gone = serial_gone (given_of world.held.now world.site.now empty) (fixed_bytes world.held.now world.site.now) result round.0 before after round.1 c.render_all.ensures.grows in (
      round.0,
      subst (λ (files : Files). IsGone in_order (given_of files c.args.site.now empty) (fixed_bytes files c.args.site.now) result round.0 before after) c.in_ok-world.ensures.held
          (subst (λ (site : Site). IsGone in_order (given_of world.held.now site empty) (fixed_bytes world.held.now site) result round.0 before after) c.in_ok-world.ensures.site gone),
    )

-- without memory for the world nothing is rendered
pub returns-in_err-world : goal.returns-in_err-world
returns-in_err-world g c = (empty, search (rules, grows_none))
