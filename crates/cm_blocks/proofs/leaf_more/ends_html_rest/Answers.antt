use Rattle.std.proofs.Common.{List, ap, ℕ, ◌∙◌}
use Rattle.markdown_grammar.specs.HtmlStarts.{ends_html}
use Rattle.cm_blocks.proofs.HtmlWords.{ends_from}
use Rattle.cm_blocks.proofs.leaf_more.ends_html_rest.Goals as goal

pub returns : goal.returns
returns c = c.ends_html.ensures ∙ ap (λ (t : List ℕ). ends_html c.args.kind t) c.range_from.ensures.value ∙ ends_from c.args.kind c.args.line.now c.args.spot c.requires
