use Rattle.std.proofs.Common.{ap, sym, ◌∙◌}
use Rattle.data_files.specs.Readings.{seen}
use Rattle.data_files.proofs.MemberLaws.{Entry, behind, hash_made, no_hash}
use Rattle.data_files.proofs.json_texts.hash_of.Goals as goal

pub returns-in-None-member : goal.returns-in-None-member
returns-in-None-member c =
    let l = c.loop-key in
    let e : Entry = (c.in-Some.key, c.in-Some.member) in
    no_hash c.args.members.entries c.next.new.self e l.pairs c.len.ensures.ordered c.in-None-member.is
    (ap (λ es. behind l.pairs (seen es)) (sym c.in-Some.ensures.steps) ∙ l.invariant)

pub returns : goal.returns
returns c =
    let l = c.loop-key in
    hash_made c.args.members.entries l.key-iterator l.pairs c.len.ensures.ordered c.in-None.ensures.steps.0 l.invariant
