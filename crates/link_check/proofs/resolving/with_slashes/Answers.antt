use Rattle.link_check.proofs.SegmentLaws.{slashes_of}
use Rattle.link_check.proofs.resolving.with_slashes.Goals as goal

pub returns-in_ok-push_others-in-len1-up : goal.returns-in_ok-push_others-in-len1-up
returns-in_ok-push_others-in-len1-up c = slashes_of c.args.segments.now _ _ _ c.in-len1-up.len_at_least c.in_ok-push_others-in-len1-up.ensures c.in_ok-path-in-len1-up.ensures.ok
