use Rattle.std.proofs.Common.{◌++◌, codes, length, subst}
use Rattle.markdown_grammar.specs.TableHtml.{body_html, row_html}
use Rattle.markdown_grammar.specs.Tables.{cells, filled}
use Rattle.cm_tables.specs.Rows.{below}
use Rattle.cm_print.specs.Tables.{rows_of}
use Rattle.cm_print.specs.Writing.{Prints}
use Rattle.cm_print.proofs.Sequences.{prints_then, prints_third}
use Rattle.cm_print.proofs.writer.Writer.push_parts.Goals as goal

pub returns : goal.returns
returns c =
    let behind = prints_third c.push.new.self c.push_row.new.self c.push-2.new.self c.push_body.new.self _ _ _ c.push_body.result c.in_ok-push_row.ensures c.in_ok-push-2.ensures c.push_body.ensures in
    subst
    (λ aligns.
    Prints c.args.self.now c.push_body.new.self
    (codes "<thead>\n" ++ (row_html c.args.links.now (codes "th") aligns (filled (length aligns) (cells c.args.table.header.now)) ++ (codes "</thead>\n" ++ body_html c.args.links.now aligns (rows_of (length aligns) (below c.args.table.rows)))))
    c.push_body.result)
    c.as_slice-aligns.ensures.value (prints_then c.args.self.now c.push.new.self c.push_body.new.self _ _ c.push_body.result c.in_ok-push.ensures behind)
