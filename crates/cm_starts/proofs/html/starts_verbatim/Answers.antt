use Rattle.std.proofs.Common.{◌∙◌, ◌-◌, drop, length, sym, take}
use Rattle.markdown_grammar.specs.HtmlStarts.{verbatim_names, tag_end}
use Rattle.cm_starts.proofs.Repeats.{rest_is}
use Rattle.cm_starts.proofs.Tagged.{starts_is}
use Rattle.cm_starts.proofs.html.starts_verbatim.Goals as goal

pub returns-then-is_verbatim : goal.returns-then-is_verbatim
returns-then-is_verbatim c =
    let t = c.args.text.now in
    let name = c.name_of-name.result.now in
    starts_is verbatim_names tag_end t name (take (length t - length name) (drop (length name) t)) c.ends_name.result c.name_of-name.ensures (sym c.is_verbatim.ensures ∙ c.if-is_verbatim.true) (rest_is (length name) t) c.ends_name.ensures
