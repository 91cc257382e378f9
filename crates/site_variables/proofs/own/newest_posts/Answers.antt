use Rattle.std.proofs.Common.{◌∙◌, ap, List}
use Rattle.site_base.specs.View.{items_of}
use Rattle.site_reader.specs.declared.site_item.SiteItem.{SiteItem}
use Rattle.site_variables.specs.Lists.{documents_of, each, named}
use Rattle.site_variables.proofs.LabelLaws.{newest_in}
use Rattle.site_variables.proofs.own.newest_posts.Goals as goal

pub returns : goal.returns
returns c =
    newest_in c.args.site.now.items (items_of c.as_slice-2.result.now) c.backwards.result
    (c.as_slice-2.ensures ∙ c.in_ok-posts.ensures ∙ ap (λ (xs : List SiteItem). each named (documents_of 0 xs)) c.as_slice.ensures) c.backwards.ensures
