use Rattle.std.proofs.Common.{◌<◌, ◌∙◌, drop, length, arith}
use Rattle.std.specs.Map.{values_of}
use Rattle.read_record.specs.Numbered.{KeptNumbers}
use Rattle.memo_table.specs.declared.name_key.NameKey.{NameKey}
use Rattle.memo_table.specs.Stored.{all_reads}
use Rattle.memo_table.proofs.StoredLaws.{behind-last, front-stays, last-there, leaves-last}
use Rattle.memo_table.proofs.releasing.release_behind.Goals as goal

pub release-requires : goal.release-requires
release-requires g c =
    let n = c.args.first in
    let es = c.loop-entries.entries.entries in
    let fs = c.pop.new.self.entries in
    let some : n < length es = omega (arith, c.loop-entries-test.true, c.len.ensures.len) in
    last-there c.args.store.now c.loop-entries.store c.loop-entries.store (all_reads (values_of (drop n c.args.entries.now.entries))) (values_of (drop n fs)) (values_of (drop n es)) c.in-Some.entry
    (behind-last n es fs (c.in-Some._name, c.in-Some.entry) c.in-Some.ensures.entries some)
    c.loop-entries.invariant.leaves

pub loop-entries-preserved-in-Some : goal.loop-entries-preserved-in-Some
loop-entries-preserved-in-Some g c =
    let n = c.args.first in
    let es = c.loop-entries.entries.entries in
    let fs = c.pop.new.self.entries in
    let e : NameKey × KeptNumbers = (c.in-Some._name, c.in-Some.entry) in
    let some : n < length es = omega (arith, c.loop-entries-test.true, c.len.ensures.len) in
    record {
      front = front-stays n es fs e c.in-Some.ensures.entries some ∙ c.loop-entries.invariant.front;
      leaves = leaves-last c.args.store.now c.loop-entries.store c.release.new.store (all_reads (values_of (drop n c.args.entries.now.entries))) (values_of (drop n fs)) (values_of (drop n es)) c.in-Some.entry
          (behind-last n es fs e c.in-Some.ensures.entries some) c.loop-entries.invariant.leaves c.release.ensures;
    }

pub loop-entries-preserved : goal.loop-entries-preserved
loop-entries-preserved g c =
    let n = c.args.first in
    let es = c.loop-entries.entries.entries in
    let fs = c.pop.new.self.entries in
    let e : NameKey × KeptNumbers = (c.in-Some._name, c.in-Some.entry) in
    let some : n < length es = omega (arith, c.loop-entries-test.true, c.len.ensures.len) in
    record {
      front = front-stays n es fs e c.in-Some.ensures.entries some ∙ c.loop-entries.invariant.front;
      leaves = leaves-last c.args.store.now c.loop-entries.store c.release.new.store (all_reads (values_of (drop n c.args.entries.now.entries))) (values_of (drop n fs)) (values_of (drop n es)) c.in-Some.entry
          (behind-last n es fs e c.in-Some.ensures.entries some) c.loop-entries.invariant.leaves c.release.ensures;
    }
