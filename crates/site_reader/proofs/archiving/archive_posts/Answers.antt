use Rattle.std.proofs.Common.{◌∙◌, ◌++◌, ◌+◌, ap, append_assoc, arith, drop, rules, sym}
use Rattle.site_reader.specs.Making.{archive_posts, if_post}
use Rattle.site_reader.proofs.EachLaws.{all_taken, at_front, none_left}
use Rattle.site_reader.proofs.archiving.archive_posts.Goals as goal

pub loop-item-preserved : goal.loop-item-preserved
loop-item-preserved c =
    let at = c.loop-item.item-index in
    let rest = drop (at + 1) c.args.items.now in
    ap (λ ps. ps ++ archive_posts c.args.word rest) c.in_ok-push_post.ensures
    ∙ append_assoc c.loop-item.posts.items (if_post c.args.word c.item-item.result) (archive_posts c.args.word rest)
    ∙ ap (λ is. c.loop-item.posts.items ++ archive_posts c.args.word is) (sym (at_front c.args.items.now at c.item-item.result (search rules) c.item-item.is))
    ∙ c.loop-item.invariant

pub returns : goal.returns
returns c =
    c.from_vec.ensures ∙ all_taken c.loop-item.posts.items _ (archive_posts c.args.word c.args.items.now) (ap (archive_posts c.args.word) (none_left c.args.items.now c.loop-item.item-index (omega (arith, c.loop-item-test.false)))) c.loop-item.invariant
