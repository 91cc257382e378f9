use Rattle.std.proofs.Common.{refl}
use Rattle.cm_inlines.specs.declared.node.Node.TheVariants as node
use Rattle.cm_inlines.proofs.ListLaws.{still_lists}
use Rattle.cm_inlines.proofs.WordLaws.{reads_words}
use Rattle.cm_inlines.proofs.reading.read_piece.Goals as goal

pub returns-then-n-gt0-clause-reads : goal.returns-then-n-gt0-clause-reads
returns-then-n-gt0-clause-reads c =
    reads_words c.args.links.now c.args.text.now c.args.at c.words_len-n.result c.args.nodes.now.items c.push.new.nodes.items c.range.result c.requires.inside c.if-n-gt0.true c.words_len-n.ensures.value c.words_len-n.ensures.cut c.requires.sound
    c.range.ensures.value c.in_ok-push.ensures

pub returns-then-n-gt0-clause-listed : goal.returns-then-n-gt0-clause-listed
returns-then-n-gt0-clause-listed c = still_lists c.args.delimiters.now c.args.nodes.now.items c.push.new.nodes.items (node.Words c.range.result) refl c.requires.listed c.in_ok-push.ensures
