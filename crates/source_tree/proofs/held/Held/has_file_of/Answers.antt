use Rattle.std.proofs.Common.{◌∙◌, sym}
use Rattle.source_tree.proofs.Same.{other_file, same_file}
use Rattle.source_tree.proofs.held.Held.has_file_of.Goals as goal

pub returns-then-eq : goal.returns-then-eq
returns-then-eq c =
    same_file c.args.self.now c.args.other.now c.args.place (c.at.result.0.now, c.at.result.1.now) (c.at-2.result.0.now, c.at-2.result.1.now) c.requires.mine c.requires.its c.at.ensures c.at-2.ensures
    c.eq-then-eq.result (sym c.eq.ensures ∙ c.if-eq.true) c.eq-then-eq.ensures

pub returns-else-eq : goal.returns-else-eq
returns-else-eq c =
    other_file c.args.self.now c.args.other.now c.args.place (c.at.result.0.now, c.at.result.1.now) (c.at-2.result.0.now, c.at-2.result.1.now) c.requires.mine c.requires.its c.at.ensures c.at-2.ensures
    c.eq.result (sym c.eq.ensures ∙ c.if-eq.false) c.eq.ensures
