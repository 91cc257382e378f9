use Rattle.std.proofs.Common.{arith}
use Rattle.std.proofs.lemmas.List.{length-map}
use Rattle.site_reader.specs.declared.site_item.SiteItem.{SiteItem}
use Rattle.site_session.proofs.output.output_by.Goals as goal

pub overflow_cast-rendered : goal.overflow_cast-rendered
overflow_cast-rendered c = search (arith, c.len-rendered.ensures, length-map c.args.site.now.items (λ (i : SiteItem). i.name), c.requires.counted, c.requires.few)
