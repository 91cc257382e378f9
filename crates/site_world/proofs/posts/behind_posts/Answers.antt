use Rattle.std.proofs.Common.{rules, tests}
use Rattle.site_world.proofs.BelowPosts.{found_posts}
use Rattle.site_world.proofs.posts.behind_posts.Goals as goal

pub returns-then-eq : goal.returns-then-eq
returns-then-eq c = found_posts c.in-Some.segment.now c.in-Some.behind.now c.loop-segment.rest.now c.args.path.now c.in-Some.ensures.parts (search (rules, tests)) c.loop-segment.invariant.1
