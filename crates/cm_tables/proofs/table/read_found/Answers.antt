use Rattle.std.proofs.Common.{◌≡◌, ◌∙◌, ◌++◌, ap, length, map, refl, rules}
use Rattle.markdown_grammar.specs.Reading.{inlines}
use Rattle.cm_tables.proofs.TableLaws.{table_made}
use Rattle.cm_tables.proofs.table.read_found.Goals as goal

pub returns : goal.returns
returns c =
    let wide : c.len-2.result ≡ length c.args.table.aligns.items = search rules in
    let read = c.in_ok-read_cells.ensures ∙ ap (λ texts. c.in_ok-cells.cells.items ++ map (inlines c.args.links.now) texts) c.as_slice.ensures.value in
    table_made c.args.links.now _ c.args.table c.len-rows.result c.len-2.result c.in_ok-texts.field-0.items c.push_texts.new.texts.items c.in_ok-cells.cells.items refl refl c.len-rows.ensures.value wide c.in_ok-texts.ensures.items
    c.in_ok-push_texts.ensures c.in_ok-cells.ensures.items read
