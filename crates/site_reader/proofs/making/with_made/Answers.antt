use Rattle.std.proofs.Common.{◌≡◌, IfOk, List, rules, subst}
use Rattle.site_reader.specs.declared.site_item.SiteItem.{SiteItem}
use Rattle.site_reader.proofs.MadeItems.{some_made}
use Rattle.site_reader.proofs.making.with_made.Goals as goal

pub returns : goal.returns
returns c =
    subst (λ (all : List SiteItem). IfOk c.merged.result (λ made. made ≡ all)) (some_made c.args.config.now c.args.items c.args.pages.items (search (rules, c.if-is_empty.false, c.is_empty.ensures))) c.merged.ensures
