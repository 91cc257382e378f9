use Rattle.cm_inlines.proofs.PairLaws.{length_pair, pairs, stays_missed}
use Rattle.cm_inlines.proofs.pairing.pair_closer.Goals as goal

pub returns-in-Some-clause-value : goal.returns-in-Some-clause-value
returns-in-Some-clause-value c = λ front ahead whole.
    pairs front c.args.place ahead c.args.nodes.now.items c.pair_with.new.nodes.items whole c.args.closer c.in-Some.opener c.pair_with.result c.args.openers.now c.pair_with.new.openers c.requires (rw c.deref.ensures.value at c.in-Some.ensures) c.pair_with.ensures

pub returns-in-Some-clause-len : goal.returns-in-Some-clause-len
returns-in-Some-clause-len c = length_pair c.in-Some.opener c.args.place c.args.closer c.pair_with.result c.args.openers.now c.pair_with.new.openers c.args.nodes.now.items c.pair_with.new.nodes.items c.pair_with.ensures

pub returns-in-None-clause-value : goal.returns-in-None-clause-value
returns-in-None-clause-value c = rw c.miss.ensures.places
    (λ front ahead whole.
    stays_missed front c.args.place c.args.openers.now.places.items ahead c.args.openers.now.misses c.miss.new.self.misses c.args.nodes.now.items whole c.args.closer c.requires (rw c.deref.ensures.value at c.in-None.ensures) c.miss.ensures.floors)
