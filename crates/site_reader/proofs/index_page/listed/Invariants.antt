use Rattle.std.proofs.Common.{◌≡◌, ◌++◌, drop}
use Rattle.site_reader.specs.Paginating.{listed}
use Rattle.site_reader.proofs.index_page.listed.Given as goal

abbrev pub invariant-loop-item : goal.invariant-loop-item
invariant-loop-item l = l.names.items ++ listed (drop l.item-index l.items) ≡ listed l.items
