use Rattle.std.proofs.Common.{◌≡◌, length, arith}
use Rattle.std.proofs.lemmas.Bool.Decides.{nat_tests}
use Rattle.std.specs.String.{string_bytes}
use Rattle.text_filters.proofs.MarkLaws.{marked_end}
use Rattle.text_filters.proofs.marks.marked.Goals as goal

pub returns : goal.returns
returns c =
    let none : length c.loop-rest.rest.now ≡ 0 = grind (arith, nat_tests) in
    marked_end c.args.mark (string_bytes c.loop-rest.made) c.loop-rest.rest.now _ none c.loop-rest.invariant.so_far
