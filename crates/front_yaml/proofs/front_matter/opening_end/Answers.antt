use Rattle.std.proofs.Common.{◌≡◌, false, drop, length, arith, ap, sym, ◌∙◌}
use Rattle.std.proofs.lemmas.Slice.{between_to_end}
use Rattle.front_yaml.specs.Front.{begins_fence}
use Rattle.front_yaml.proofs.FrontLemmas.{plain_at}
use Rattle.front_yaml.proofs.front_matter.opening_end.Goals as goal

pub returns-then-not-begins_fence-clause-plain : goal.returns-then-not-begins_fence-clause-plain
returns-then-not-begins_fence-clause-plain c =
    let bytes = c.args.bytes.now in
    let none : begins_fence 45 (drop c.args.at bytes) ≡ false =
    ap (begins_fence 45) (sym (between_to_end bytes c.args.at (length bytes) (omega arith))) ∙ sym c.begins_fence.ensures.value ∙ c.if-not-begins_fence.true in
    plain_at c.args.at (drop c.args.at bytes) none
