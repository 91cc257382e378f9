use Rattle.std.proofs.Common.{◌∙◌, ◌+◌, ◌-◌, ◌<◌, ◌∷◌, ap, arith, refl, sym, length}
use Rattle.std.proofs.lemmas.List.{take_rest}
use Rattle.tag_archives.proofs.GatheringLaws.{one_before, post_long}
use Rattle.tag_archives.proofs.gathering.groups.Goals as goal

pub returns-in-Err : goal.returns-in-Err
returns-in-Err c =
    let posts = c.args.posts.now in let p = c.loop-place.place - 1 in
    let within : p < length posts = omega arith in
    let post = c.index-posts-place.result in
    post_long c.args.word posts p _ c.in-Err.error (one_before posts p (p + 1) post refl within c.index-posts-place.is ∙ ap (λ newer. post ∷ newer) (sym (take_rest posts (p + 1)))) c.in-Err.ensures.added
