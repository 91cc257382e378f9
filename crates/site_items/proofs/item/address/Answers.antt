use Rattle.site_items.proofs.item.address.Goals as goal

pub returns : goal.returns
returns c = rw (c.in_ok-slug.ensures, c.in_ok-categories.ensures, c.text.ensures.text) at c.url_of.ensures
