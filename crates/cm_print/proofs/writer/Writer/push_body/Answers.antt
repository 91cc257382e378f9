use Rattle.std.proofs.Common.{◌∙◌, subst, sym}
use Rattle.cm_tables.specs.Rows.{below}
use Rattle.cm_print.specs.Writing.{Prints}
use Rattle.cm_print.proofs.Sequences.{prints_third}
use Rattle.cm_print.proofs.TableLaws.{body_some}
use Rattle.cm_print.proofs.writer.Writer.push_body.Goals as goal

pub returns : goal.returns
returns c =
    let some = body_some c.args.links.now c.args.aligns.now (below c.args.rows) (sym c.is_empty.ensures ∙ c.if-is_empty.false) in
    let all = prints_third c.args.self.now c.push.new.self c.push_rows.new.self c.push-2.new.self _ _ _ c.push-2.result c.in_ok-push.ensures c.in_ok-push_rows.ensures c.push-2.ensures in
    subst (λ out. Prints c.args.self.now c.push-2.new.self out c.push-2.result) some all
