use Rattle.std.proofs.Common.{◌≡◌, ◌∙◌, ap, Some, length, rules, arith}
use Rattle.site_script.proofs.Readings.{nothing_left, one_byte}
use Rattle.site_script.proofs.raw_line.next_byte.Goals as goal

pub returns-then-count-eq0-clause-byte : goal.returns-then-count-eq0-clause-byte
returns-then-count-eq0-clause-byte g c = λ text w.
    let gives = c.in-Ok.ensures.gives text w in
    let one : length c.read.new.into ≡ 1 = search rules in
    let none = gives.3 c.if-count-eq0.true (omega arith) in
    (none, gives.1 ∙ ap Some (nothing_left c.in-Ok.count text none))

pub returns-else-count-eq0-clause-byte : goal.returns-else-count-eq0-clause-byte
returns-else-count-eq0-clause-byte g c = λ text w.
    let gives = c.in-Ok.ensures.gives text w in
    let one : length c.read.new.into ≡ 1 = search rules in
    one_byte c.in-Ok.count text c.read.new.into _ c.in-Ok.ensures.bound c.if-count-eq0.false one gives.0 gives.2 gives.1
