use Rattle.std.proofs.Common.{◌-◌, drop, length, take}
use Rattle.cm_starts.proofs.Repeats.{rest_is}
use Rattle.cm_starts.proofs.Tagged.{alone_is}
use Rattle.cm_starts.proofs.tags.is_alone.Goals as goal

pub returns-in-Some : goal.returns-in-Some
returns-in-Some c =
    let t = c.args.text.now in
    let n = c.in-Some.n in
    alone_is t (take (length t - n) (drop n t)) n c.class_run.result (rest_is n t) c.in-Some.ensures.value c.class_run.ensures.value c.in-Some.ensures.within
