use Rattle.std.proofs.Common.{◌∙◌, ◌∷◌, ◌++◌, [], Some, cond, take, ap, sym}
use Rattle.std.specs.Prelude.{Option}
use Rattle.std.proofs.lemmas.List.{take_more}
use Rattle.site_reader.specs.declared.site_item.SiteItem.{SiteItem}
use Rattle.site_world.proofs.PostLaws.{post-push}
use Rattle.site_world.specs.Sights.{is_post_named, lower, post_named}
use Rattle.site_world.proofs.posts.posts.Goals as goal

pub loop-item-preserved : goal.loop-item-preserved
loop-item-preserved c = λ x.
    let items = c.args.items.now in
    let i = c.loop-item.item-index in
    let item = c.item-item.result in
    c.in_ok-add_post.ensures x
    ∙ ap (λ (found : Option SiteItem). cond (is_post_named x item) (Some (lower found item)) found) (c.loop-item.invariant x)
    ∙ sym (post-push x (take i items) item)
    ∙ ap (post_named x) (ap (λ (y : SiteItem). take i items ++ y ∷ []) c.item-item.is ∙ sym (take_more items i item c.loop-item-test.true))
