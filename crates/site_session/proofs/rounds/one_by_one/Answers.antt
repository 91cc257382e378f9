use Rattle.std.proofs.Common.{subst}
use Rattle.site_base.specs.Places.{Files}
use Rattle.site_reader.specs.declared.site.Site.{Site}
use Rattle.site_session.specs.Full.{given_of}
use Rattle.site_session.specs.Rounds.{IsGone, in_order}
use Rattle.site_session.proofs.RoundLaws.{serial_gone}
use Rattle.site_world.specs.Sights.{fixed_bytes}
use Rattle.site_session.proofs.rounds.one_by_one.Goals as goal

pub returns : goal.returns
returns g c =
    let world = c.in_ok-world.world in let kept = c.args.memo.now in
    let result = c.regenerate_serial.result in let memo = c.regenerate_serial.new.memo in let before = c.args.tally.now in let after = c.regenerate_serial.new.tally in
    let gone = serial_gone (given_of world.held.now world.site.now kept) (fixed_bytes world.held.now world.site.now) result memo before after c.regenerate_serial.ensures.round c.regenerate_serial.ensures.grows in
    subst (λ (files : Files). IsGone in_order (given_of files c.args.site.now kept) (fixed_bytes files c.args.site.now) result memo before after) c.in_ok-world.ensures.held
    (subst (λ (site : Site). IsGone in_order (given_of world.held.now site kept) (fixed_bytes world.held.now site) result memo before after) c.in_ok-world.ensures.site gone)
