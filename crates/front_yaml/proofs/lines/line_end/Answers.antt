use Rattle.std.proofs.Common.{◌≡◌, ◌+◌, drop, arith, refl, sym, ◌∙◌}
use Rattle.std.proofs.lemmas.List.{at_drop_all}
use Rattle.site_base.proofs.LinesLaws.{line_at, line_len, line_len_at}
use Rattle.front_yaml.proofs.Cuts.{cut_after}
use Rattle.front_yaml.proofs.lines.line_end.Goals as goal

pub returns-then-ends-clause-line : goal.returns-then-ends-clause-line
returns-then-ends-clause-line c =
    let one : line_len (drop c.loop-i.i c.args.bytes.now) ≡ 1 = line_len_at c.args.bytes.now c.loop-i.i c.loop-i-test.true ∙ rw (← c.ends_line-ends.ensures, c.if-ends.true) refl in
    line_at c.args.bytes.now c.args.at (c.loop-i.i + 1) c.requires (omega arith)

pub returns-then-ends-clause-cut : goal.returns-then-ends-clause-cut
returns-then-ends-clause-cut c = cut_after c.args.bytes.now c.loop-i.i c.loop-i-test.true (sym c.ends_line-ends.ensures ∙ c.if-ends.true)

pub returns-clause-line : goal.returns-clause-line
returns-clause-line c =
    let none : line_len (drop c.loop-i.i c.args.bytes.now) ≡ 0 = at_drop_all line_len c.args.bytes.now c.loop-i.i c.loop-i-test.false in
    line_at c.args.bytes.now c.args.at c.loop-i.i c.requires (omega arith)
