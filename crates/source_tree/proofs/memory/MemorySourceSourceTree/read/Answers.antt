use Rattle.std.proofs.Common.{◌≡◌, ◌∙◌, ap, rules, sym, take}
use Rattle.source_tree.proofs.Told.{cut_read, found_same, some_same}
use Rattle.source_tree.proofs.memory.MemorySourceSourceTree.read.Goals as goal

pub returns-in-Ok-clause-reads : goal.returns-in-Ok-clause-reads
returns-in-Ok-clause-reads c = λ files bytes is there.
    let lent = c.bytes_at-bytes.result.now in
    let copied : c.in-Ok.bytes.items ≡ take c.min-most.result lent = search rules in
    let found = found_same c.fails.new.self.files files c.args.path.now lent bytes (c.fails.ensures.files ∙ some_same c.args.self.now.files files is) (sym c.bytes_at-bytes.ensures) there in
    cut_read lent c.in-Ok.bytes.items c.min-most.result c.min-most.ensures copied ∙ ap (take 16777217) found
