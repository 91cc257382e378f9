use denote.Param.Send.{sendable}
use Rattle.std.proofs.Common.{subst}
use Rattle.std.proofs.Crossing as heap
use Rattle.site_base.specs.Places.{Files}
use Rattle.site_reader.specs.declared.site.Site.{Site}
use Rattle.site_session.specs.Full.{given_of}
use Rattle.site_session.specs.Rounds.{IsGone, in_any_order}
use Rattle.site_world.proofs.Crosses.{world_sync}
use Rattle.site_session.proofs.RoundLaws.{worked_gone}
use Rattle.site_world.specs.Sights.{fixed_bytes}
use Rattle.site_session.proofs.rounds.by_crew.Goals as goal

pub returns : goal.returns
returns g c =
    let world = c.in_ok-world.world in let kept = c.args.memo.now in
    let result = c.regenerate.result in let memo = c.regenerate.new.memo in let before = c.args.tally.now in let after = c.regenerate.new.tally in
    let gone = worked_gone (given_of world.held.now world.site.now kept) (fixed_bytes world.held.now world.site.now) result memo before after c.regenerate.ensures.round c.regenerate.ensures.grows in
    subst (λ (files : Files). IsGone in_any_order (given_of files c.args.site.now kept) (fixed_bytes files c.args.site.now) result memo before after) c.in_ok-world.ensures.held
    (subst (λ (site : Site). IsGone in_any_order (given_of world.held.now site kept) (fixed_bytes world.held.now site) result memo before after) c.in_ok-world.ensures.site gone)

pub regenerate-requires-sync-W : goal.regenerate-requires-sync-W
regenerate-requires-sync-W g c κs within = search (world_sync, heap.crosses, sendable) depth 60 fits 20000
