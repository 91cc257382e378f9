use Rattle.std.proofs.Common.{ℕ, [], ◌∙◌, ap, arith, length}
use Rattle.markdown_grammar.specs.Blocks.{blocks_of}
use Rattle.std.proofs.lemmas.Result.{err_from_is_err_and}
use Rattle.cm_print.specs.NodeWalk.{state, whole}
use Rattle.cm_print.proofs.PrinterLaws.{html_is}
use Rattle.cm_print.proofs.printer.to_html.Goals as goal

pub returns-clause-made : goal.returns-clause-made
returns-clause-made c =
    c.in_ok-from_string.ensures ∙ c.in_ok-print.ensures.text
    ∙ html_is c.args.text.now _ _ _ (c.as_slice.ensures.value ∙ c.in_ok-blocks.ensures.nodes) c.in_ok-blocks.ensures.links (c.new-printer.ensures.state ∙ ap (λ (n : ℕ). state (whole n) [] []) {x = c.len.result} {y = length c.as_slice.result.now} (omega arith)) (c.documents_have_the_html_of_their_blocks.ensures (blocks_of c.args.text.now))

pub returns-in_err-print-clause-refused : goal.returns-in_err-print-clause-refused
returns-in_err-print-clause-refused c =
    let e = err_from_is_err_and c.from_residual-in_err-print.result c.from_residual-in_err-print.ensures.1 in
    let is = html_is c.args.text.now _ _ _ (c.as_slice.ensures.value ∙ c.in_ok-blocks.ensures.nodes) c.in_ok-blocks.ensures.links (c.new-printer.ensures.state ∙ ap (λ (n : ℕ). state (whole n) [] []) {x = c.len.result} {y = length c.as_slice.result.now} (omega arith)) (c.documents_have_the_html_of_their_blocks.ensures (blocks_of c.args.text.now)) in
    rw (e.1, e.2) (λ long. omega (arith, c.in_err-print.ensures long, c.new-printer.ensures.most, ap length is))
