use Rattle.std.proofs.Common.{◌≡◌, ◌+◌, ◌-◌, ◌<◌, ◌∷◌, add-one, arith, drop, length}
use Rattle.tag_archives.proofs.GatheringLaws.{one_before, term_added, term_long}
use Rattle.tag_archives.proofs.gathering.add_post.Goals as goal

pub loop-place-preserved : goal.loop-place-preserved
loop-place-preserved c =
    let terms = c.as_slice-terms.result.now in let p = c.loop-place.place - 1 in
    let next : p + 1 ≡ c.loop-place.place = omega arith in
    let within : p < length terms = omega arith in
    let front : drop p terms ≡ c.index-terms-place.result ∷ drop c.loop-place.place terms = one_before terms p c.loop-place.place c.index-terms-place.result next within c.index-terms-place.is in
    let added = term_added c.args.word c.args.post.now (drop p terms) c.index-terms-place.result (drop c.loop-place.place terms) c.args.newer.now (length c.args.newer.now + 1) c.loop-place.groups.entries c.add_term.new.groups.entries
    front (add-one (length c.args.newer.now)) c.loop-place.invariant.1 c.loop-place.invariant.2 c.in-Ok.ensures.added.0 c.in-Ok.ensures.added.1 in
    (c.in-Ok.ensures.known, added.0, added.1)

pub returns-in-Err-clause-added : goal.returns-in-Err-clause-added
returns-in-Err-clause-added c =
    let terms = c.as_slice-terms.result.now in let p = c.loop-place.place - 1 in
    let next : p + 1 ≡ c.loop-place.place = omega arith in
    let within : p < length terms = omega arith in
    let front : drop p terms ≡ c.index-terms-place.result ∷ drop c.loop-place.place terms = one_before terms p c.loop-place.place c.index-terms-place.result next within c.index-terms-place.is in
    term_long c.args.word c.args.post.now terms p c.index-terms-place.result (drop c.loop-place.place terms) c.args.newer.now c.in-Err.error front c.as_slice-terms.ensures c.in-Err.ensures.added
