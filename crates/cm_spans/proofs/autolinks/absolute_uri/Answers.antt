use Rattle.std.proofs.Common.{drop, length, take, codes, ◌-◌}
use Rattle.markdown_grammar.specs.Autolinks.{scheme}
use Rattle.markdown_grammar.specs.Readers.{at_least, exactly, ◌then◌}
use Rattle.cm_starts.proofs.Repeats.{rest_is, then_some}
use Rattle.site_text.specs.Classes.{is_in}
use Rattle.site_text.specs.declared.classes.Class.TheVariants.{Address}
use Rattle.cm_spans.proofs.autolinks.absolute_uri.Goals as goal

pub returns-clause-value : goal.returns-clause-value
returns-clause-value c =
    let t = c.args.text.now in
    let k = c.in_ok-front.front in
    then_some scheme (exactly (codes ":") then at_least 0 (is_in Address)) t (take (length t - k) (drop k t)) k c.in_ok-rest.rest (rest_is k t) c.in_ok-front.ensures.value c.in_ok-rest.ensures.value
