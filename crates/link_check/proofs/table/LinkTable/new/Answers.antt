use Rattle.std.proofs.Common.{◌∙◌, ap}
use Rattle.site_base.proofs.Entries.{mapped_none}
use Rattle.link_check.specs.Numbers.{table_of}
use Rattle.link_check.proofs.table.LinkTable.new.Goals as goal

pub returns : goal.returns
returns c = ap table_of c.new.ensures.items ∙ mapped_none
