use Rattle.std.proofs.Common.{◌∙◌, ◌-◌, codes, drop, length, sym, take}
use Rattle.markdown_grammar.specs.HtmlStarts.{block_names, tag_end}
use Rattle.markdown_grammar.specs.Readers.{exactly, ◌or◌}
use Rattle.cm_starts.proofs.Repeats.{rest_is}
use Rattle.cm_starts.proofs.Tagged.{starts_is}
use Rattle.cm_starts.proofs.html.starts_listed.Goals as goal

pub returns-then-is_block : goal.returns-then-is_block
returns-then-is_block c =
    let t = c.args.text.now in
    let name = c.name_of-name.result.now in
    starts_is block_names (tag_end or exactly (codes "/>")) t name (take (length t - length name) (drop (length name) t)) c.ends_listed.result c.name_of-name.ensures (sym c.is_block.ensures ∙ c.if-is_block.true) (rest_is (length name) t) c.ends_listed.ensures
