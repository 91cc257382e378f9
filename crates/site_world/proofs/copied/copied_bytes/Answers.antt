use Rattle.std.proofs.Common.{◌<◌, ◌≤◌, ◌+◌, length, arith, ap, ◌∙◌}
use Rattle.std.specs.FinMap.{entries, len-entries}
use Rattle.std.specs.List.{sum_by}
use Rattle.std.proofs.lemmas.List.{take_all}
use Rattle.site_world.proofs.CopiedSums.{step, bound}
use Rattle.site_world.specs.Copied.{copied_length}
use Rattle.source_tree.specs.Limits.{most_site_bytes}
use Rattle.site_world.proofs.copied.copied_bytes.Goals as goal

pub overflow_add-bytes : goal.overflow_add-bytes
overflow_add-bytes c =
    let es = entries c.args.held.now in
    let lt : c.loop-place.place < length es = omega (arith, c.loop-place-test.true, c.len-place-end.ensures.number, len-entries c.args.held.now) in
    let most : c.loop-place.bytes + c.copied_at-bytes.result ≤ most_site_bytes =
    bound c.args.copies.now es c.loop-place.place c.loop-place.bytes c.copied_at-bytes.result most_site_bytes lt c.loop-place.invariant c.copied_at-bytes.ensures c.len-place-end.ensures.within.within in
    omega (arith, most)

pub loop-place-preserved : goal.loop-place-preserved
loop-place-preserved c =
    let es = entries c.args.held.now in
    let lt : c.loop-place.place < length es = omega (arith, c.loop-place-test.true, c.len-place-end.ensures.number, len-entries c.args.held.now) in
    step c.args.copies.now es c.loop-place.place c.loop-place.bytes c.copied_at-bytes.result lt c.loop-place.invariant c.copied_at-bytes.ensures

pub returns-clause-is : goal.returns-clause-is
returns-clause-is c =
    let es = entries c.args.held.now in
    let all : length es ≤ c.loop-place.place = omega (arith, c.loop-place-test.false, c.len-place-end.ensures.number, len-entries c.args.held.now) in
    c.loop-place.invariant ∙ ap (sum_by (copied_length c.args.copies.now)) (take_all c.loop-place.place es all)
