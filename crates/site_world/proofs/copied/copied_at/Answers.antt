use Rattle.std.proofs.Common.{Some, None, ap, sym, ◌∙◌, arith}
use Rattle.std.specs.FinMap.{entries, len-entries}
use Rattle.site_world.proofs.CopiedSums.{one_file}
use Rattle.site_world.specs.Named.{named}
use Rattle.site_world.proofs.copied.copied_at.Goals as goal

pub returns-in-Some : goal.returns-in-Some
returns-in-Some c = λ d.
    one_file c.args.copies.now (entries c.args.held.now) c.args.place c.at.result.0.now c.at.result.1.now (Some c.in-Some.field-0.now) (omega (arith, c.requires, len-entries c.args.held.now)) c.at.ensures
    (ap (named c.args.copies.now) (sym c.text.ensures.text) ∙ sym c.in-Some.ensures) d

pub returns-in-None : goal.returns-in-None
returns-in-None c = λ d.
    one_file c.args.copies.now (entries c.args.held.now) c.args.place c.at.result.0.now c.at.result.1.now None (omega (arith, c.requires, len-entries c.args.held.now)) c.at.ensures
    (ap (named c.args.copies.now) (sym c.text.ensures.text) ∙ sym c.in-None.ensures) d
