use Rattle.std.proofs.Common.{◌≡◌, ◌<◌, ◌≤◌, length, get_or, true, false, arith, rules}
use Rattle.permalinks.specs.Url.{is_name}
use Rattle.permalinks.proofs.Fronts.{name_more, name_stops, name_ends, cut_start, cut_more}
use Rattle.permalinks.proofs.template.name_len.Goals as goal

pub loop-end-init : goal.loop-end-init
loop-end-init c = (omega arith, cut_start c.args.part.now)

pub loop-end-preserved : goal.loop-end-preserved
loop-end-preserved c =
    let lt : c.loop-end.end < length c.args.part.now = omega arith in
    let name : is_name (get_or c.args.part.now c.loop-end.end 0) ≡ true = search rules in
    (omega (arith, name_more c.args.part.now c.loop-end.end lt name), cut_more c.args.part.now c.loop-end.end lt name)

pub returns-then-not-is_name-clause-is : goal.returns-then-not-is_name-clause-is
returns-then-not-is_name-clause-is c =
    let lt : c.loop-end.end < length c.args.part.now = omega arith in
    let other : is_name (get_or c.args.part.now c.loop-end.end 0) ≡ false = search rules in
    omega (arith, name_stops c.args.part.now c.loop-end.end lt other)

pub returns-clause-is : goal.returns-clause-is
returns-clause-is c =
    let ge : length c.args.part.now ≤ c.loop-end.end = omega arith in
    omega (arith, name_ends c.args.part.now c.loop-end.end ge)
