use Rattle.read_record.proofs.StoreLaws.{leaves-all}
use Rattle.memo_table.specs.Stored.{all_reads}
use Rattle.memo_table.proofs.StoredLaws.{last-there, leaves-last}
use Rattle.memo_table.proofs.releasing.release_all.Goals as goal

pub loop-entry-init : goal.loop-entry-init
loop-entry-init g c = leaves-all c.args.store.now (all_reads c.args.entries.now.items) c.requires

pub release-requires : goal.release-requires
release-requires g c =
    last-there c.args.store.now c.loop-entry.store c.loop-entry.store (all_reads c.args.entries.now.items) c.pop.new.self.items c.loop-entry.entries.items c.in-Some.entry c.in-Some.ensures.items c.loop-entry.invariant

pub loop-entry-preserved : goal.loop-entry-preserved
loop-entry-preserved g c =
    leaves-last c.args.store.now c.loop-entry.store c.release.new.store (all_reads c.args.entries.now.items) c.pop.new.self.items c.loop-entry.entries.items c.in-Some.entry c.in-Some.ensures.items c.loop-entry.invariant
    c.release.ensures
