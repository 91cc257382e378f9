use Rattle.std.proofs.Common.{arith}
use Rattle.site_generator.proofs.Fits.{post-put-is}
use Rattle.site_generator.proofs.site.make_site.Goals as goal

pub put-requires : goal.put-requires
put-requires c =
    post-put-is c.args.number c.loop-post.post c.loop-post.title _ _ _ (omega (arith, c.loop-post-test.true, c.requires.high)) c.loop-post.invariant.0 c.loop-post.invariant.1
    c.in_ok-path.ensures c.in_ok-numbered_post.ensures
