use Rattle.site_base.specs.PathMap.{as_map}
use Rattle.out_tree.proofs.ClashLemmas.{made_of, no_clash-from_entries}
use Rattle.out_tree.proofs.memory.MemoryOut.new.Goals as goal

pub invariant_of-result : goal.invariant_of-result
invariant_of-result c = no_clash-from_entries (as_map c.unwrap.result) c.args.files.items (made_of c.from_entries.result _ c.unwrap.result c.args.files.items c.unwrap.ensures c.from_entries.ensures) c.requires.clash_free
